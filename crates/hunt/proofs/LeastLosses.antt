-- The least schedule and its least turn, in the words of images.
use Rattle.std.proofs.Common.{◌≡◌, ℕ, ◌+◌, ◌<◌, ◌≤◌, ◌↔◌, Bool, true, false, not, true≢false, Option, Some, None, Result, Ok, Err, List, take, refl, sym, ap, ◌∙◌, subst, arith}
use Rattle.std.proofs.lemmas.Bool.Decides.{nat_tests}
use Rattle.std.specs.Option.{option_or}
use Rattle.std.specs.Prelude.{IfOk, IfSome, find, is_some, nat_le, option_map, option_and_then, if◌then◌else◌}
use Rattle.machine.specs.State.{State}
use Rattle.schedule.specs.declared.plan.Plan.{Plan}
use Rattle.schedule.specs.Schedules.{schedule_of}
use Rattle.conditions.specs.Formulas.{Formula}
use Rattle.pending_images.specs.Candidates.{candidates, most_candidates}
use Rattle.pending_images.specs.declared.total.Count.TheVariants.{Number, More}
use Rattle.images.specs.Images.{images_of}
use Rattle.images.specs.Firsts.{IsLeastImage}
use Rattle.images.specs.Truth.{holds_on}
use Rattle.images.proofs.FirstImagesAreLeast.{first_is_least}
use Rattle.hunt.specs.declared.loss.Breach.{Breach}
use Rattle.hunt.specs.declared.loss.Breach.TheVariants.{Leaves, TooMany}
use Rattle.hunt.specs.declared.loss.Loss.{Loss}
use Rattle.hunt.specs.Crashes.{breach_by, broken_in, is_broken_at, least_loss, least_turn, loses, loss_at, loss_of, state_at, states_of}
use Rattle.hunt.specs.Least.{IsLeastFrom, least_from}
use Rattle.hunt.specs.Losses.{AreSafe, IsBreach, IsLeastLoss, IsSafe, IsSound}
use Rattle.hunt.proofs.LeastNumbersAreFirst.{least_joins, none_of_range, none_passes, some_is_first_of, some_is_least}
use Rattle.hunt.proofs.SoundStates.{run_sound, sound_listing}

abbrev as_loss : ℕ → ℕ → Breach → Loss
as_loss number t breach = record { at = record { number = number; turn = t }; breach = breach }

mapped : (number t : ℕ) (b : Option Breach) → is_some b ≡ true → is_some (option_map (as_loss number t) b) ≡ true
mapped number t None there = absurd (true≢false (sym there))
mapped number t (Some breach) there = refl

-- the one where the other is not
pub flipped : (a b : Bool) → a ≡ not b → b ≡ not a
flipped a true e = sym (ap not e)
flipped a false e = sym (ap not e)

module _ (plan : Plan) (condition : Formula) (start : State) (number : ℕ) where
  loss_by : (o : Option ℕ) → least_turn plan condition start number ≡ o → is_some (option_and_then (loss_at plan condition start number) o) ≡ is_some o
  loss_by None is = refl
  loss_by (Some t) is =
      let least_is = (some_is_least (is_broken_at plan condition start number) (states_of plan start number) t).0 is in
      mapped number t (broken_in condition (state_at plan start number t)) least_is.passes

  -- a schedule has a loss just where it breaks the condition
  pub loss_there : is_some (loss_of plan condition start number) ≡ loses plan condition start number
  loss_there = loss_by (least_turn plan condition start number) refl

-- ---- what is told of a state ----

told_most : (n : ℕ) → nat_le n most_candidates ≡ true → n ≤ most_candidates
told_most n e = grind (arith, nat_tests, e)

told_more : (n : ℕ) → nat_le n most_candidates ≡ false → most_candidates < n
told_more n e = grind (arith, nat_tests, e)

few_told : (n : ℕ) → n ≤ most_candidates → nat_le n most_candidates ≡ true
few_told n few = grind (arith, nat_tests, few)

-- what is told of so many candidates and the image that was found
abbrev told_by : Bool → ℕ → Option (List ℕ) → Option Breach
told_by few n found = breach_by (if few then Number n else More) found

module _ (condition : Formula) (s : State) where
  abbrev fails_on : List ℕ → Bool
  fails_on image = not (holds_on s condition image)

  abbrev count : ℕ
  count = candidates s.memory.pending

  -- what is told, and what it says
  abbrev Says : Option Breach → Type 0
  Says None = IsSafe condition s
  Says (Some breach) = IsBreach condition s breach

  holds_where : (b : Bool) → not b ≡ false → b ≡ true
  holds_where true e = refl
  holds_where false e = absurd (true≢false e)

  says_by : (few : Bool) (found : Option (List ℕ)) → nat_le count most_candidates ≡ few → IsLeastImage s fails_on found → Says (told_by few count found)
  says_by false found few least_is = told_more count few
  says_by true None few least_is = record { told = told_most count few; holds = λ image is. holds_where (holds_on s condition image) (least_is image is) }
  says_by true (Some image) few least_is = (told_most count few, least_is)

  says : IsSound s → Says (broken_in condition s)
  says sound = says_by (nat_le count most_candidates) (find fails_on (images_of s)) refl
      (first_is_least s fails_on (images_of s) (find fails_on (images_of s)) refl (sound_listing s sound))

  pub some_breach : (breach : Breach) → IsSound s → broken_in condition s ≡ Some breach → IsBreach condition s breach
  some_breach breach sound is = subst Says is (says sound)

  not_both : (breach : Breach) → IsBreach condition s breach → IsSafe condition s → ⊥
  not_both TooMany over safe = let few = safe.told in absurd (omega (arith, over, few))
  not_both (Leaves image) broken safe = let b = broken.1 in true≢false (sym b.1 ∙ ap not (safe.holds image b.0))

  safe_by : (o : Option Breach) → Says o → IsSafe condition s → o ≡ None
  safe_by None said safe = refl
  safe_by (Some breach) said safe = absurd (not_both breach said safe)

  pub none_breach : IsSound s → (broken_in condition s ≡ None) ↔ IsSafe condition s
  none_breach sound = ((λ is. subst Says is (says sound)), (λ safe. safe_by (broken_in condition s) (says sound) safe))

-- ---- least numbers and turns ----

none_is : {A : Type 0} (o : Option A) → is_some o ≡ false → o ≡ None
none_is None e = refl
none_is (Some x) e = absurd (true≢false e)

module _ (plan : Plan) (condition : Formula) (start : State) (sound : IsSound start) where
  abbrev Safe : ℕ → ℕ → Type 0
  Safe number t = IsSafe condition (state_at plan start number t)

  sound_at : (number t : ℕ) → IsSound (state_at plan start number t)
  sound_at number t = run_sound (take t (schedule_of plan number start).steps) start sound

  safe_where : (number t : ℕ) → is_broken_at plan condition start number t ≡ false → Safe number t
  safe_where number t e = (none_breach condition (state_at plan start number t) (sound_at number t)).0 (none_is (broken_in condition (state_at plan start number t)) e)

  unbroken_where : (number t : ℕ) → Safe number t → is_broken_at plan condition start number t ≡ false
  unbroken_where number t safe = ap is_some ((none_breach condition (state_at plan start number t) (sound_at number t)).1 safe)

  -- a schedule without a loss is safe throughout
  safe_schedule : (number : ℕ) → loses plan condition start number ≡ false → (t : ℕ) → t < states_of plan start number → Safe number t
  safe_schedule number e t low =
      safe_where number t ((none_passes (is_broken_at plan condition start number) (states_of plan start number)).0 (none_is (least_turn plan condition start number) e) t low)

  lossless : (number : ℕ) → ((t : ℕ) → t < states_of plan start number → Safe number t) → loses plan condition start number ≡ false
  lossless number safe =
      ap is_some ((none_passes (is_broken_at plan condition start number) (states_of plan start number)).1 (λ t low. unbroken_where number t (safe t low)))

  -- the schedule of a number is without a loss just where it is safe
  pub lossless_is_safe : (number : ℕ) → (loses plan condition start number ≡ false) ↔ AreSafe plan condition start number (number + 1)
  lossless_is_safe number = (
    λ e other t from low in_turns.
        let same : number ≡ other = omega (arith, from, low) in
        subst (λ k. (u : ℕ) → u < states_of plan start k → Safe k u) same (safe_schedule number e) t in_turns,
    λ safe. lossless number (λ t in_turns. safe number t (omega arith) (omega arith) in_turns),
  )

  -- what the search found, told of the n numbers from the first on
  first_by : (o : Option ℕ) (b : Option Breach) (number : ℕ) (loss : Loss) (t : ℕ) → option_map (as_loss number t) b ≡ Some loss → (b ≡ Some loss.breach) × (loss.at.number ≡ number) × (loss.at.turn ≡ t)
  first_by o None number loss t e = absurd cc
  first_by o (Some breach) number loss t e =
      let same : loss ≡ as_loss number t breach = cc in (ap (λ (l : Loss). Some l.breach) (sym same), ap (λ (l : Loss). l.at.number) same, ap (λ (l : Loss). l.at.turn) same)

  none_only : (first n : ℕ) (o : Option ℕ) → least_from (loses plan condition start) first n ≡ o → option_and_then (loss_of plan condition start) o ≡ None
      → AreSafe plan condition start first (first + n)
  none_only first n None is e = λ number t from low in_turns. safe_schedule number ((none_of_range (loses plan condition start) first n).0 is number from low) t in_turns
  none_only first n (Some k) is e =
      let passes = ((some_is_first_of (loses plan condition start) first n k).0 is).passes in
      absurd (true≢false (sym passes ∙ sym (loss_there plan condition start k) ∙ ap is_some e))

  pub none_is_safe : (first n : ℕ) → (least_loss plan condition start first n ≡ None) ↔ AreSafe plan condition start first (first + n)
  none_is_safe first n = (
    none_only first n (least_from (loses plan condition start) first n) refl,
    λ safe. ap (option_and_then (loss_of plan condition start))
        ((none_of_range (loses plan condition start) first n).1 (λ number from low. lossless number (λ t in_turns. safe number t from low in_turns))),
  )

  some_turn : (first n number : ℕ) (o : Option ℕ) (loss : Loss) → IsLeastFrom (loses plan condition start) first n number → least_turn plan condition start number ≡ o
      → option_and_then (loss_at plan condition start number) o ≡ Some loss → IsLeastLoss plan condition start first n loss
  some_turn first n number None loss least is e = absurd cc
  some_turn first n number (Some t) loss least is e =
      let parts = first_by (Some t) (broken_in condition (state_at plan start number t)) number loss t e in
      let turn = (some_is_least (is_broken_at plan condition start number) (states_of plan start number) t).0 is in
      subst (λ (z : ℕ × ℕ × Breach). IsLeastLoss plan condition start first n (record { at = record { number = z.0; turn = z.1 }; breach = z.2 })) (λ i. (sym parts.1 i, sym parts.2 i, loss.breach))
      (record {
        from = least.from;
        below = least.below;
        within = turn.below;
        breach = some_breach condition (state_at plan start number t) loss.breach (sound_at number t) parts.0;
        before = λ other k from low in_turns. safe_schedule other (least.before other from low) k in_turns;
        sooner = λ k low. safe_where number k (turn.first k low);
      })

  some_number : (first n : ℕ) (o : Option ℕ) (loss : Loss) → least_from (loses plan condition start) first n ≡ o → option_and_then (loss_of plan condition start) o ≡ Some loss
      → IsLeastLoss plan condition start first n loss
  some_number first n None loss is e = absurd cc
  some_number first n (Some number) loss is e =
      some_turn first n number (least_turn plan condition start number) loss ((some_is_first_of (loses plan condition start) first n number).0 is) refl e

  pub some_is_first : (first n : ℕ) (loss : Loss) → least_loss plan condition start first n ≡ Some loss → IsLeastLoss plan condition start first n loss
  some_is_first first n loss e = some_number first n (least_from (loses plan condition start) first n) loss refl e

-- ---- what a hunt of crashes answers ----

module _ (plan : Plan) (condition : Formula) (start : State) (first n : ℕ) where
  abbrev IsIt : Option Loss → Type 0
  IsIt found = found ≡ least_loss plan condition start first n

  pub answers_none : {E : Type 0} (r : Result (Option Loss) E) → IfOk r IsIt → IfOk r (λ found. IsSound start → (found ≡ None) ↔ AreSafe plan condition start first (first + n))
  answers_none (Ok found) is =
      λ sound. subst (λ (o : Option Loss). (o ≡ None) ↔ AreSafe plan condition start first (first + n)) (sym is) (none_is_safe plan condition start sound first n)
  answers_none (Err fault) is = tt

  pub answers_some : {E : Type 0} (r : Result (Option Loss) E) → IfOk r IsIt → IfOk r (λ found. IsSound start → IfSome found (IsLeastLoss plan condition start first n))
  answers_some (Ok None) is = λ sound. tt
  answers_some (Ok (Some loss)) is = λ sound. some_is_first plan condition start sound first n loss (sym is)
  answers_some (Err fault) is = tt

-- ---- two ranges ----

some_before : (o p : Option Loss) → is_some o ≡ true → o ≡ option_or o p
some_before None p there = absurd (true≢false (sym there))
some_before (Some loss) p there = refl

-- of two ranges, of which the second begins where the first ends
pub loss_joins : (plan : Plan) (condition : Formula) (start : State) (first a b : ℕ)
    → least_loss plan condition start first (a + b) ≡ option_or (least_loss plan condition start first a) (least_loss plan condition start (first + a) b)
loss_joins plan condition start first a b =
    ap told (least_joins test first a b) ∙ by (least_from test first a) refl
  where
    test : ℕ → Bool
    test number = loses plan condition start number

    told : Option ℕ → Option Loss
    told o = option_and_then (loss_of plan condition start) o

    later : Option ℕ
    later = least_from test (first + a) b

    by : (o : Option ℕ) → least_from test first a ≡ o → told (option_or o later) ≡ option_or (told o) (told later)
    by None is = refl
    by (Some k) is =
        some_before (loss_of plan condition start k) (told later)
        (loss_there plan condition start k ∙ ((some_is_first_of test first a k).0 is).passes)
