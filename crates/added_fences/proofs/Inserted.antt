-- Code with one instruction more is led back to the code without it.
use Rattle.std.proofs.Common.{◌≡◌, ℕ, zero, suc, ◌+◌, ◌<◌, ◌≤◌, ◌⊎◌, Bool, true, Option, Some, None, List, [], ◌∷◌, length, map, option_map, refl, sym, ap, subst, ◌∙◌, arith, inl, inr}
use Rattle.std.specs.Prelude.{if◌then◌else◌, nat_lt, slice_get}
use Rattle.std.specs.List.{insert}
use Rattle.std.proofs.lemmas.Bool.{cases_lt, le-ltb, lt-ltb}
use Rattle.std.proofs.lemmas.List.{length-map}
use Rattle.std.proofs.lemmas.Option.{slice_get-map, slice_get_past}
use Rattle.isa.specs.declared.instr.Instr.{Instr}
use Rattle.isa.specs.declared.instr.Instr.TheVariants as instrs
use Rattle.image_reasons.specs.declared.repair.Side.{Side}
use Rattle.image_reasons.specs.declared.repair.Side.TheVariants.{Before, Behind}
use Rattle.image_reasons.specs.Repairs.{led_on, put_at, shifted, with_instr}
use Rattle.added_fences.specs.Added.{HasAdded, IsLedBack, IsPutIn, OrdersAlone, StandsFor, WasThere}

-- ---- lists with one more

module _ {X : Type 0} where
  pub length_insert : (xs : List X) (n : ℕ) (x : X) → length (insert xs n x) ≡ length xs + 1
  length_insert [] zero x = refl
  length_insert [] (suc n) x = refl
  length_insert (y ∷ xs) zero x = omega arith
  length_insert (y ∷ xs) (suc n) x = let rest = length_insert xs n x in omega (arith, rest)

  pub insert_there : (xs : List X) (n : ℕ) (x : X) → n ≤ length xs → slice_get (insert xs n x) n ≡ Some x
  insert_there xs zero x within = refl
  insert_there [] (suc n) x within = absurd (omega (arith, within))
  insert_there (y ∷ xs) (suc n) x within = insert_there xs n x (omega (arith, within))

  pub insert_before : (xs : List X) (n i : ℕ) (x : X) → n ≤ length xs → i < n → slice_get (insert xs n x) i ≡ slice_get xs i
  insert_before xs zero i x within below = absurd (omega (arith, below))
  insert_before [] (suc n) i x within below = absurd (omega (arith, within))
  insert_before (y ∷ xs) (suc n) zero x within below = refl
  insert_before (y ∷ xs) (suc n) (suc i) x within below = insert_before xs n i x (omega (arith, within)) (omega (arith, below))

  pub insert_behind : (xs : List X) (n i : ℕ) (x : X) → n ≤ i → slice_get (insert xs n x) (suc i) ≡ slice_get xs i
  insert_behind xs zero i x from = refl
  insert_behind [] (suc n) zero x from = refl
  insert_behind [] (suc n) (suc i) x from = refl
  insert_behind (y ∷ xs) (suc n) zero x from = absurd (omega (arith, from))
  insert_behind (y ∷ xs) (suc n) (suc i) x from = insert_behind xs n i x (omega (arith, from))

  -- what is put in past the end is put in at the end
  insert_past : (xs : List X) (n : ℕ) (x : X) → length xs ≤ n → insert xs n x ≡ insert xs (length xs) x
  insert_past [] zero x past = refl
  insert_past [] (suc n) x past = refl
  insert_past (y ∷ xs) zero x past = absurd (omega (arith, past))
  insert_past (y ∷ xs) (suc n) x past = ap (λ (zs : List X). y ∷ zs) (insert_past xs n x (omega (arith, past)))

-- ---- places led back over one place

abbrev pub earlier : ℕ → ℕ
earlier zero = zero
earlier (suc i) = i

-- the place that a place is led back to, where one instruction was put in at a place
abbrev pub back_over : ℕ → ℕ → ℕ
back_over n i = if nat_lt n i then earlier i else i

pub back_kept : (n i : ℕ) → i ≤ n → back_over n i ≡ i
back_kept n i within = ap (λ (b : Bool). if b then earlier i else i) (le-ltb n i within)

pub back_past : (n i j : ℕ) → n < i → i ≡ j + 1 → back_over n i ≡ j
back_past n zero j past is = absurd (omega (arith, past))
back_past n (suc i) j past is = let same : i ≡ j = omega (arith, is) in ap (λ (b : Bool). if b then i else suc i) (lt-ltb n (suc i) past) ∙ same

pub shifted_kept : (place target : ℕ) → target ≤ place → shifted place target ≡ target
shifted_kept place target within = ap (λ (b : Bool). if b then target + 1 else target) (le-ltb place target within)

pub shifted_past : (place target : ℕ) → place < target → shifted place target ≡ target + 1
shifted_past place target past = ap (λ (b : Bool). if b then target + 1 else target) (lt-ltb place target past)

-- ---- code that is led back, where it is told for which place a jump's target stands

-- an instruction that was there, at the place that its own is led back to
pub record WasThereBy (Stands : ℕ → ℕ → Type 0) (back : ℕ → ℕ) (less : List Instr) (place : ℕ) (instr : Instr) : Type 0 where
  pub other : Instr
  pub there : slice_get less (back place) ≡ Some other
  pub alike : IsLedBack Stands instr other
  pub next : back (place + 1) ≡ back place + 1

pub record IsAddedBy (Stands : ℕ → ℕ → Type 0) (May : ℕ → Instr → Type 0) (back : ℕ → ℕ) (more less : List Instr) : Type 0 where
  pub start : back 0 ≡ 0
  pub each : (place : ℕ) (instr : Instr) → slice_get more place ≡ Some instr → IsPutIn May back place instr ⊎ WasThereBy Stands back less place instr
  pub end : (place : ℕ) → slice_get more place ≡ None → slice_get less (back place) ≡ None

pub led_as : (Stands Others : ℕ → ℕ → Type 0) → ((target new : ℕ) → Stands target new → Others target new) → (instr other : Instr) → IsLedBack Stands instr other → IsLedBack Others instr other
led_as Stands Others turns (instrs.Jump kind target) other (new, is, to) = (new, is, turns target new to)
led_as Stands Others turns (instrs.Set r source) other is = is
led_as Stands Others turns (instrs.Compute operation r n) other is = is
led_as Stands Others turns instrs.Nop other is = is
led_as Stands Others turns (instrs.Memory access operand) other is = is
led_as Stands Others turns (instrs.Fence kind) other is = is

pub has_added : (Stands : ℕ → ℕ → Type 0) (may : Instr → Bool) (back : ℕ → ℕ) (more less : List Instr) → ((target new : ℕ) → Stands target new → StandsFor back more less target new)
    → IsAddedBy Stands (OrdersAlone may more) back more less → HasAdded may more less
has_added Stands may back more less turns h = record { back = back; start = h.start; each = λ place instr at. by place instr (h.each place instr at); end = h.end }
  where
    by : (place : ℕ) (instr : Instr) → IsPutIn (OrdersAlone may more) back place instr ⊎ WasThereBy Stands back less place instr
        → IsPutIn (OrdersAlone may more) back place instr ⊎ WasThere back more less place instr
    by place instr (inl put) = inl put
    by place instr (inr was) =
        inr (record { other = was.other; there = was.there; alike = led_as Stands (StandsFor back more less) turns instr was.other was.alike; next = was.next })

-- ---- one instruction put in

pub none_before : {X Y : Type 0} (f : X → Y) (o : Option X) → option_map f o ≡ None → o ≡ None
none_before f None e = refl
none_before f (Some x) e = absurd (cc)

pub was_some : {X Y : Type 0} (f : X → Y) (o : Option X) (y : Y) → option_map f o ≡ Some y → (x : X) × (o ≡ Some x) × (f x ≡ y)
was_some f None y e = absurd (cc)
was_some f (Some x) y e = (x, refl, let is : f x ≡ y = cc in is)

pub one_there : {A : Type 0} (x y : A) → Some x ≡ Some y → y ≡ x
one_there x y e = let same : x ≡ y = cc in sym same

-- at a place from which others are a place further
module _ (Stands : ℕ → ℕ → Type 0) (May : ℕ → Instr → Type 0) (site n : ℕ) (x : Instr) (code : List Instr) (passes : May n x) (within : n ≤ length code)
    (leads : (target : ℕ) → Stands (shifted site target) target) where
  abbrev moved : List Instr
  moved = map (led_on site) code

  abbrev new : List Instr
  new = insert moved n x

  inside : n ≤ length moved
  inside = let same = length-map code (led_on site) in omega (arith, same, within)

  led_old : (old : Instr) → IsLedBack Stands (led_on site old) old
  led_old (instrs.Jump kind target) = (target, refl, leads target)
  led_old (instrs.Set r source) = refl
  led_old (instrs.Compute operation r count) = refl
  led_old instrs.Nop = refl
  led_old (instrs.Memory access operand) = refl
  led_old (instrs.Fence kind) = refl

  -- an old instruction, which is at another place
  was : (place i : ℕ) (instr : Instr) → slice_get moved i ≡ Some instr → back_over n place ≡ i → back_over n (place + 1) ≡ i + 1 → WasThereBy Stands (back_over n) code place instr
  was place i instr at is next =
      let old = was_some (led_on site) (slice_get code i) instr (sym (slice_get-map (led_on site) code i) ∙ at) in
      record {
        other = old.0;
        there = ap (slice_get code) is ∙ old.1;
        alike = subst (λ (y : Instr). IsLedBack Stands y old.0) old.2 (led_old old.0);
        next = next ∙ ap (λ (j : ℕ). j + 1) (sym is);
      }

  before : (place : ℕ) (instr : Instr) → place < n → slice_get new place ≡ Some instr → WasThereBy Stands (back_over n) code place instr
  before place instr below at =
      was place place instr (sym (insert_before moved n place x inside below) ∙ at) (back_kept n place (omega (arith, below))) (back_kept n (place + 1) (omega (arith, below)))

  behind : (place : ℕ) (instr : Instr) → n < place → slice_get new place ≡ Some instr → WasThereBy Stands (back_over n) code place instr
  behind zero instr past at = absurd (omega (arith, past))
  behind (suc i) instr past at =
      was (suc i) i instr (sym (insert_behind moved n i x (omega (arith, past))) ∙ at) (back_past n (suc i) i past (omega arith)) (back_past n (suc i + 1) (i + 1) (omega (arith, past)) (omega arith))

  put : (place : ℕ) (instr : Instr) → place ≡ n → slice_get new place ≡ Some instr → IsPutIn May (back_over n) place instr
  put place instr is at =
      let same : instr ≡ x = one_there x instr (sym (insert_there moved n x inside) ∙ (ap (slice_get new) (sym is) ∙ at)) in
      record {
        passes = subst (λ (y : Instr). May place y) (sym same) (subst (λ (i : ℕ). May i x) (sym is) passes);
        next = back_past n (place + 1) place (omega (arith, is)) refl ∙ sym (back_kept n place (omega (arith, is)));
      }

  there : (place : ℕ) (instr : Instr) → slice_get new place ≡ Some instr → (place < n) ⊎ (n ≤ place) → (n < place) ⊎ (place ≤ n)
      → IsPutIn May (back_over n) place instr ⊎ WasThereBy Stands (back_over n) code place instr
  there place instr at (inl below) above = inr (before place instr below at)
  there place instr at (inr from) (inl past) = inr (behind place instr past at)
  there place instr at (inr from) (inr to) = inl (put place instr (omega (arith, from, to)) at)

  end_behind : (place : ℕ) → n < place → slice_get new place ≡ None → slice_get code (back_over n place) ≡ None
  end_behind zero past none = absurd (omega (arith, past))
  end_behind (suc i) past none =
      ap (slice_get code) (back_past n (suc i) i past (omega arith))
      ∙ none_before (led_on site) (slice_get code i) (sym (slice_get-map (led_on site) code i) ∙ (sym (insert_behind moved n i x (omega (arith, past))) ∙ none))

  end_there : (place : ℕ) → slice_get new place ≡ None → (place < n) ⊎ (n ≤ place) → (n < place) ⊎ (place ≤ n) → slice_get code (back_over n place) ≡ None
  end_there place none (inl below) above =
      ap (slice_get code) (back_kept n place (omega (arith, below)))
      ∙ none_before (led_on site) (slice_get code place) (sym (slice_get-map (led_on site) code place) ∙ (sym (insert_before moved n place x inside below) ∙ none))
  end_there place none (inr from) (inl past) = end_behind place past none
  end_there place none (inr from) (inr to) =
      let is : place ≡ n = omega (arith, from, to) in
      let both : Some x ≡ None = sym (insert_there moved n x inside) ∙ (ap (slice_get new) (sym is) ∙ none) in
      absurd (cc)

  pub inserted : IsAddedBy Stands May (back_over n) new code
  inserted = record {
    start = back_kept n 0 (omega arith);
    each = λ place instr at. there place instr at (cases_lt place n) (cases_lt n place);
    end = λ place none. end_there place none (cases_lt place n) (cases_lt n place);
  }

-- ---- on a side of an instruction

-- the place to which a jump is led on is led back
pub led_back_there : (side : Side) (place target : ℕ) → (place < target) ⊎ (target ≤ place) → target ≡ back_over (put_at side place) (shifted place target)
led_back_there Before place target (inl past) = sym (ap (back_over place) (shifted_past place target past) ∙ back_past place (target + 1) target (omega (arith, past)) refl)
led_back_there Before place target (inr within) = sym (ap (back_over place) (shifted_kept place target within) ∙ back_kept place target within)
led_back_there Behind place target (inl past) =
    sym (ap (back_over (place + 1)) (shifted_past place target past) ∙ back_past (place + 1) (target + 1) target (omega (arith, past)) refl)
led_back_there Behind place target (inr within) =
    sym (ap (back_over (place + 1)) (shifted_kept place target within) ∙ back_kept (place + 1) target (omega (arith, within)))

-- a place is led back to another
abbrev pub Leads : (ℕ → ℕ) → ℕ → ℕ → Type 0
Leads back target new = new ≡ back target

pub put_there : (May : ℕ → Instr → Type 0) (side : Side) (place : ℕ) (x : Instr) (code : List Instr) → May (put_at side place) x → put_at side place ≤ length code
    → IsAddedBy (Leads (back_over (put_at side place))) May (back_over (put_at side place)) (with_instr side place x code) code
put_there May side place x code passes within =
    inserted (Leads (back_over (put_at side place))) May place (put_at side place) x code passes within (λ target. led_back_there side place target (cases_lt place target))

-- ---- past the end

-- a jump of code that has an instruction more at its end, where it was to stand behind its end
past_end : (side : Side) (place : ℕ) (x : Instr) (code : List Instr) (target : ℕ) → length code < put_at side place → (place < target) ⊎ (target ≤ place) → (length code < target) ⊎ (target ≤ length code)
    → StandsFor (back_over (length code)) (insert (map (led_on place) code) (length code) x) code (shifted place target) target
past_end side place x code target past (inl beyond) far =
    let from = put_from side place in
    inl (sym (ap (back_over (length code)) (shifted_past place target beyond) ∙ back_past (length code) (target + 1) target (omega (arith, past, beyond, from)) refl))
  where
    put_from : (s : Side) (p : ℕ) → put_at s p ≤ p + 1
    put_from Before p = omega arith
    put_from Behind p = omega arith
past_end side place x code target past (inr within) (inr near) =
    inl (sym (ap (back_over (length code)) (shifted_kept place target within) ∙ back_kept (length code) target near))
past_end side place x code target past (inr within) (inl far) =
    let long : length (insert (map (led_on place) code) (length code) x) ≡ length code + 1 =
    length_insert (map (led_on place) code) (length code) x ∙ ap (λ (k : ℕ). k + 1) (length-map code (led_on place)) in
    inr (
      ap (slice_get (insert (map (led_on place) code) (length code) x)) (shifted_kept place target within)
          ∙ slice_get_past (insert (map (led_on place) code) (length code) x) target (omega (arith, long, far)),
      slice_get_past code target (omega (arith, far)),
    )

put_past : (may : Instr → Bool) (side : Side) (place : ℕ) (x : Instr) (code : List Instr) → may x ≡ true → length code < put_at side place → HasAdded may (with_instr side place x code) code
put_past may side place x code passes past =
    let n : ℕ = length code in
    let moved : List Instr = map (led_on place) code in
    let same : length moved ≡ n = length-map code (led_on place) in
    subst (λ (xs : List Instr). HasAdded may xs code)
    (sym (insert_past moved (put_at side place) x (omega (arith, same, past)) ∙ ap (λ (k : ℕ). insert moved k x) same))
    (has_added (StandsFor (back_over n) (insert moved n x) code) may (back_over n) (insert moved n x) code (λ target new stands. stands)
    (inserted (StandsFor (back_over n) (insert moved n x) code) (OrdersAlone may (insert moved n x)) place n x code (inl passes) (omega arith)
    (λ target. past_end side place x code target past (cases_lt place target) (cases_lt n target))))

pub one_more : (may : Instr → Bool) (side : Side) (place : ℕ) (x : Instr) (code : List Instr) → may x ≡ true → HasAdded may (with_instr side place x code) code
one_more may side place x code passes = by (cases_lt (length code) (put_at side place))
  where
    by : (length code < put_at side place) ⊎ (put_at side place ≤ length code) → HasAdded may (with_instr side place x code) code
    by (inl past) = put_past may side place x code passes past
    by (inr within) =
        has_added (Leads (back_over (put_at side place))) may (back_over (put_at side place)) (with_instr side place x code) code (λ target new leads. inl leads)
        (put_there (OrdersAlone may (with_instr side place x code)) side place x code (inl passes) within)

-- ---- none put in

pub led_itself : (Stands : ℕ → ℕ → Type 0) → ((target : ℕ) → Stands target target) → (instr : Instr) → IsLedBack Stands instr instr
led_itself Stands to (instrs.Jump kind target) = (target, refl, to target)
led_itself Stands to (instrs.Set r source) = refl
led_itself Stands to (instrs.Compute operation r n) = refl
led_itself Stands to instrs.Nop = refl
led_itself Stands to (instrs.Memory access operand) = refl
led_itself Stands to (instrs.Fence kind) = refl

pub same_code : (May : ℕ → Instr → Type 0) (code : List Instr) → IsAddedBy (Leads (λ i. i)) May (λ i. i) code code
same_code May code = record {
  start = refl;
  each = λ place instr at. inr (record { other = instr; there = at; alike = led_itself (Leads (λ i. i)) (λ target. refl) instr; next = refl });
  end = λ place none. none;
}

pub itself : (may : Instr → Bool) (code : List Instr) → HasAdded may code code
itself may code = has_added (Leads (λ i. i)) may (λ i. i) code code (λ target new leads. inl leads) (same_code (OrdersAlone may code) code)
