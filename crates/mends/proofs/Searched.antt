-- What is known of the sets, turn by turn.
use Rattle.std.proofs.Common.{rules, ◌≡◌, ◌≢◌, ℕ, ◌+◌, ◌<◌, Bool, true, false, Some, None, List, [], ◌∷◌, ◌++◌, length, get_or, refl, ap, sym, subst, ◌∙◌, inl, inr, arith}
use Rattle.std.specs.Prelude.{Contains, slice_get, take}
use Rattle.std.specs.Global.{Vec}
use Rattle.std.specs.List.{All}
use Rattle.std.proofs.lemmas.Bool.{cases_lt, false≢true}
use Rattle.std.proofs.lemmas.List.{get_or_append_left, get_or_push, length-map, length-set, length_push, take-append-le}
use Rattle.std.proofs.lemmas.List.Elements.{All-contains, All-push, Contains-append_left, Contains-get_or, Contains-push}
use Rattle.std.proofs.lemmas.Option.{get_or_from_slice_get, slice_get-get_or, slice_get_read, slice_get_within}
use Rattle.isa.specs.Objects.{Object}
use Rattle.explore.specs.declared.question.Question.{Question}
use Rattle.verdicts.specs.Verdicts.{IsBrokenBy}
use Rattle.image_reasons.specs.declared.repair.Repair.{Repair}
use Rattle.candidates.specs.Candidates.{candidates_of}
use Rattle.candidates.specs.Sets.{cost_of as cost_of_instr, costs_of, with_all}
use Rattle.added_fences.specs.Sets.{IsSet, IsWithin}
use Rattle.choices.specs.Choices.{comes_before, is_within, with_one}
use Rattle.choices.specs.Waiting.{AreChoices, HasWithin, IsSpread, IsTakenOut, weight, weight_of}
use Rattle.choices.proofs.Above.{costs_more, same_within, within_chain, within_itself, within_or_more}
use Rattle.choices.proofs.Orders.{cheaper, no_dearer}
use Rattle.mends.specs.declared.outcome.Open.{Open}
use Rattle.mends.specs.declared.search.Search.{Search}
use Rattle.mends.specs.Mends.{AreOpened, AreSettledBefore, IsChoice, IsLeftOpen, IsNotKnown, IsOpened, IsRuledOut, IsSettled, IsUntoldWith, chosen, mended, most_open}
use Rattle.mends.specs.Searches.{AreOpenChoices, GoesFurther, IsBound, IsBoundAmong, IsKnown, IsOpenAmong, IsSearch, IsTurn, IsUntoldSet, Settles}
use Rattle.mends.proofs.PickedSets.{all_cost, picks_some, picks_some_of_all}

-- ---- what is put in takes away

-- each list of candidates is a set
abbrev pub AreSets : Type 0
AreSets = (object : Object) (set : List Repair) → IsWithin (candidates_of object) set → IsSet object set

-- what breaks a program with a set breaks it with a part
abbrev pub BreakNoMore : Type 0
BreakNoMore =
    (question : Question) (object : Object) (more less : List Repair) (changed other : Object) → IsSet object more → IsWithin more less → with_all more object ≡ Some changed
    → with_all less object ≡ Some other → IsBrokenBy question changed → IsBrokenBy question other

pub rules_out : AreSets → BreakNoMore → (question : Question) (object : Object) (bound choice : List Bool) → IsBound question object bound → IsChoice object choice
    → is_within choice bound ≡ true → IsRuledOut question object choice
rules_out are_sets no_more question object bound choice broken is within changed same =
    let candidates = candidates_of object in
    no_more question object (chosen object bound) (chosen object choice) broken.changed changed
    (are_sets object (chosen object bound) (picks_some_of_all candidates bound broken.is_choice)) (picks_some candidates choice bound is broken.is_choice within) broken.is same broken.broken

-- ---- a search

module _ (question : Question) (limit : ℕ) (object : Object) where
  abbrev candidates : List Repair
  candidates = candidates_of object

  abbrev n : ℕ
  n = length candidates

  abbrev costs : List ℕ
  costs = costs_of candidates

  all_of : {A : Type 0} (P : A → Type 0) (xs : List A) → ((x : A) → Contains xs x → P x) → (k : ℕ) (d : A) → k < length xs → P (get_or xs k d)
  all_of P xs each k d within = each (get_or xs k d) (Contains-get_or xs k d within)

  as_many_costs : length costs ≡ n
  as_many_costs = length-map candidates (λ (r : Repair). cost_of_instr r.instr)

  long : (choice : List Bool) → IsChoice object choice → length choice ≡ length costs
  long choice is = is ∙ sym as_many_costs

  -- What a choice that none comes before is within does not come before it.
  not_first : (one choice other : List Bool) → IsChoice object one → IsChoice object other → is_within one other ≡ true → comes_before costs one choice ≡ false
      → comes_before costs other choice ≡ true → ⊥
  not_first one choice other is_one is_other within least before = elim (costs_more costs one other (all_cost candidates) (long one is_one) (long other is_other) within) [
    | inl same ↦ false≢true (sym least ∙ ap (λ (flags : List Bool). comes_before costs flags choice) same ∙ before)
    | inr dearer ↦ false≢true (sym least ∙ cheaper costs one choice (let no_more = no_dearer costs other choice before in omega (arith, dearer, no_more)))
  ]

  abbrev OfSize : Vec Bool → Type 0
  OfSize v = length v.items ≡ n

  -- The least is taken out.
  pub turn_begins : (old new : Search) (choice : Vec Bool) → IsSearch question limit object old → new.ruled ≡ old.ruled → new.untold ≡ old.untold
      → IsTakenOut costs old.queue.items new.queue.items choice → IsTurn question limit object new choice.items
  turn_begins old new choice search same_ruled same_untold taken = record {
    known = record {
      choices = all_of OfSize new.queue.items (λ other there. All-contains OfSize old.queue.items other search.known.choices (taken.from other there));
      ruled = subst (λ (v : Vec (Vec Bool)). All (λ bound. IsBound question object bound.items) v.items) (sym same_ruled) search.known.ruled;
      opened = subst (λ (v : Vec Open). AreOpened question limit object v.items) (sym same_untold) search.known.opened;
      few = subst (λ (v : Vec Open). length v.items < most_open) (sym same_untold) search.known.few;
    };
    is_choice = All-contains OfSize old.queue.items choice search.known.choices taken.was_there;
    covered = λ other is. elim (search.covered other is) [
      | inl settled ↦ inl (now other settled)
      | inr (one, there, within) ↦ elim (taken.kept one there) [
        | inl same ↦ inr (inl (subst (λ (v : Vec Bool). is_within v.items other ≡ true) same within))
        | inr left ↦ inr (inr (one, left, within))
      ]
    ];
    first = λ other is before. elim (search.covered other is) [
      | inl settled ↦ now other settled
      | inr (one, there, within) ↦
          absurd
          (not_first one.items choice.items other (All-contains OfSize old.queue.items one search.known.choices there) is within
          (All-contains (λ (v : Vec Bool). comes_before costs v.items choice.items ≡ false) old.queue.items one taken.least there) before)
    ];
  }
    where
      now : (other : List Bool) → IsSettled question object old.untold.items other → IsSettled question object new.untold.items other
      now other settled = subst (λ (v : Vec Open). IsSettled question object v.items other) (sym same_untold) settled

  -- What is above the choice is put in for it.
  pub goes_further : (old mid new : Search) (choice bound : List Bool) → IsTurn question limit object mid choice → Settles question object mid choice bound → mid.queue ≡ old.queue
      → new.ruled ≡ mid.ruled → new.untold ≡ mid.untold → AreChoices (length choice) new.queue.items → IsSpread mid.queue.items new.queue.items choice bound
      → GoesFurther question limit object old new choice
  goes_further old mid new choice bound turn settles same_queue same_ruled same_untold choices spread = record {
    search = record {
      known = record {
        choices = subst (λ (k : ℕ). AreChoices k new.queue.items) turn.is_choice choices;
        ruled = subst (λ (v : Vec (Vec Bool)). All (λ bound. IsBound question object bound.items) v.items) (sym same_ruled) turn.known.ruled;
        opened = subst (λ (v : Vec Open). AreOpened question limit object v.items) (sym same_untold) turn.known.opened;
        few = subst (λ (v : Vec Open). length v.items < most_open) (sym same_untold) turn.known.few;
      };
      covered = λ other is. elim (turn.covered other is) [
        | inl settled ↦ inl (now other settled)
        | inr (inr (one, there, within)) ↦ inr (one, spread.kept one there, within)
        | inr (inl within) ↦ elim (within_or_more choice bound other (settles.is_choice ∙ sym turn.is_choice) (is ∙ sym turn.is_choice) within) [
          | inl bounded ↦ inl (now other (settles.settled other is within bounded))
          | inr (place, free, more) ↦ inr (above other is (with_one place choice) (length-set choice place true ∙ turn.is_choice) more (spread.above place free))
        ]
      ];
    };
    weight = subst (λ (v : Vec (Vec Bool)). weight new.queue.items < weight v.items + weight_of choice) same_queue spread.weight;
  }
    where
      now : (other : List Bool) → IsSettled question object mid.untold.items other → IsSettled question object new.untold.items other
      now other settled = subst (λ (v : Vec Open). IsSettled question object v.items other) (sym same_untold) settled

      above : (other : List Bool) → IsChoice object other → (more : List Bool) → length more ≡ n → is_within more other ≡ true → HasWithin new.queue.items more → HasWithin new.queue.items other
      above other is more long_more within (one, there, below) =
          let size : length one.items ≡ length choice = All-contains (λ (v : Vec Bool). length v.items ≡ length choice) new.queue.items one choices there in
          (one, there, within_chain one.items more other (size ∙ turn.is_choice ∙ sym long_more) (long_more ∙ sym is) below within)

  -- ---- what is noted

  -- A bound is noted.
  pub ruled_more : (old new : Search) (choice : List Bool) (bound : Vec Bool) → IsTurn question limit object old choice → IsBound question object bound.items
      → new.queue ≡ old.queue → new.untold ≡ old.untold → new.ruled.items ≡ old.ruled.items ++ bound ∷ [] → IsTurn question limit object new choice
  ruled_more old new choice bound turn broken same_queue same_untold more = record {
    known = record {
      choices = subst (λ (v : Vec (Vec Bool)). AreChoices n v.items) (sym same_queue) turn.known.choices;
      ruled = subst (λ (xs : List (Vec Bool)). All (λ b. IsBound question object b.items) xs) (sym more) (All-push (λ (b : Vec Bool). IsBound question object b.items) old.ruled.items bound turn.known.ruled broken);
      opened = subst (λ (v : Vec Open). AreOpened question limit object v.items) (sym same_untold) turn.known.opened;
      few = subst (λ (v : Vec Open). length v.items < most_open) (sym same_untold) turn.known.few;
    };
    is_choice = turn.is_choice;
    covered = λ other is. elim (turn.covered other is) [
      | inl settled ↦ inl (now other settled)
      | inr (inl within) ↦ inr (inl within)
      | inr (inr has) ↦ inr (inr (subst (λ (v : Vec (Vec Bool)). HasWithin v.items other) (sym same_queue) has))
    ];
    first = λ other is before. now other (turn.first other is before);
  }
    where
      now : (other : List Bool) → IsSettled question object old.untold.items other → IsSettled question object new.untold.items other
      now other settled = subst (λ (v : Vec Open). IsSettled question object v.items other) (sym same_untold) settled

  still_settled : (old new : List Open) (one : Open) (other : List Bool) → new ≡ old ++ one ∷ [] → IsSettled question object old other → IsSettled question object new other
  still_settled old new one other more (inl ruled) = inl ruled
  still_settled old new one other more (inr (this, there, within)) =
      inr (this, subst (λ (xs : List Open). Contains xs this) (sym more) (Contains-append_left old (one ∷ []) this there), within)

  pub opened_more : (old : List Open) (one : Open) → AreOpened question limit object old → IsOpened question limit object old one → AreOpened question limit object (old ++ one ∷ [])
  opened_more old one opened new at this here = elim (cases_lt at (length old)) [
    | inl earlier ↦
        subst (λ (before : List Open). IsOpened question limit object before this) (sym (take-append-le at old (one ∷ []) (omega (arith, earlier))))
        (opened at this (slice_get-get_or old at this earlier ∙ ap Some (sym (get_or_append_left old (one ∷ []) this at earlier) ∙ get_or_from_slice_get (old ++ one ∷ []) at this this here)))
    | inr last ↦
        let within = slice_get_within (old ++ one ∷ []) at this here in
        let many = length_push old one in
        let is_last : at ≡ length old = omega (arith, within, many, last) in
        let is_one : one ≡ this = sym (get_or_push old one this (length old) refl) ∙ ap (λ (k : ℕ). get_or (old ++ one ∷ []) k this) (sym is_last) ∙ get_or_from_slice_get (old ++ one ∷ []) at this this here in
        subst (λ (before : List Open). IsOpened question limit object before this) (sym (ap (λ (k : ℕ). take k (old ++ one ∷ [])) is_last ∙ whole old (one ∷ [])))
        (subst (λ (o : Open). IsOpened question limit object old o) is_one new)
  ]
    where
      whole : (xs ys : List Open) → take (length xs) (xs ++ ys) ≡ xs
      whole [] ys = refl
      whole (x ∷ xs) ys = ap (λ (zs : List Open). x ∷ zs) (whole xs ys)

  pub all_opened : (old new : List Open) (one : Open) → AreOpened question limit object old → IsChoice object one.choice.items → one.set.items ≡ chosen object one.choice.items
      → IsUntoldWith question limit object one.choice.items one.fault → (IsLeftOpen old one.choice.items → ⊥) → AreSettledBefore question object old one.choice.items
      → new ≡ old ++ one ∷ [] → AreOpened question limit object new
  all_opened old new one opened is set not_told not_open first more =
      subst (λ (xs : List Open). AreOpened question limit object xs) (sym more)
      (opened_more old one opened (record { choice = is; set = set; not_told = not_told; new = not_open; first = first }))

  -- A choice that is not told is noted.
  pub opened_turn : (old new : Search) (one : Open) → IsTurn question limit object old one.choice.items → one.set.items ≡ chosen object one.choice.items
      → IsUntoldWith question limit object one.choice.items one.fault → (IsLeftOpen old.untold.items one.choice.items → ⊥) → new.queue ≡ old.queue → new.ruled ≡ old.ruled
      → new.untold.items ≡ old.untold.items ++ one ∷ [] → length new.untold.items < most_open → IsTurn question limit object new one.choice.items
  opened_turn old new one turn set not_told not_open same_queue same_ruled more few = record {
    known = record {
      choices = subst (λ (v : Vec (Vec Bool)). AreChoices n v.items) (sym same_queue) turn.known.choices;
      ruled = subst (λ (v : Vec (Vec Bool)). All (λ bound. IsBound question object bound.items) v.items) (sym same_ruled) turn.known.ruled;
      opened = all_opened old.untold.items new.untold.items one turn.known.opened turn.is_choice set not_told not_open turn.first more;
      few = few;
    };
    is_choice = turn.is_choice;
    covered = λ other is. elim (turn.covered other is) [
      | inl settled ↦ inl (still_settled old.untold.items new.untold.items one other more settled)
      | inr (inl within) ↦ inr (inl within)
      | inr (inr has) ↦ inr (inr (subst (λ (v : Vec (Vec Bool)). HasWithin v.items other) (sym same_queue) has))
    ];
    first = λ other is before. still_settled old.untold.items new.untold.items one other more (turn.first other is before);
  }

  -- ---- what settles

  -- A bound settles all that is within it.
  pub bound_settles : AreSets → BreakNoMore → (search : Search) (choice bound : List Bool) → IsBound question object bound → is_within choice bound ≡ true
      → Settles question object search choice bound
  bound_settles are_sets no_more search choice bound broken within = record {
    is_choice = broken.is_choice;
    within = within;
    settled = λ other is above below. inl (rules_out are_sets no_more question object bound other broken is below);
  }

  -- One that is open settles it as well.
  pub open_settles : (search : Search) (choice : List Bool) (one : Open) → Contains search.untold.items one → IsChoice object one.choice.items → is_within choice one.choice.items ≡ true
      → Settles question object search choice one.choice.items
  open_settles search choice one there is within = record { is_choice = is; within = within; settled = λ other is_other above below. inr (one, there, below) }

  -- A choice with which there is no program settles itself.
  pub none_settles : (search : Search) (choice : List Bool) → IsChoice object choice → mended object choice ≡ None → Settles question object search choice choice
  none_settles known choice is none = record {
    is_choice = is;
    within = within_itself choice;
    settled = λ other is_other above below.
        inl (λ changed same. absurd (no_program (sym none ∙ ap (mended object) (same_within choice other (is ∙ sym is_other) above below) ∙ same)));
  }
    where
      no_program : {changed : Object} → None ≡ Some changed → ⊥
      no_program = search rules

module _ (question : Question) (limit : ℕ) (object : Object) where
  open_size : (untold : List Open) → AreOpened question limit object untold → (k : ℕ) (d : Open) → k < length untold → IsChoice object (get_or untold k d).choice.items
  open_size untold opened k d within = (opened k (get_or untold k d) (slice_get-get_or untold k d within)).choice

  pub sizes_of_open : (search : Search) (choice : List Bool) (untold : List Open) → IsKnown question limit object search → IsChoice object choice → untold ≡ search.untold.items
      → AreOpenChoices (length choice) untold
  sizes_of_open search choice untold known is same k d within =
      open_size untold (subst (λ (xs : List Open). AreOpened question limit object xs) (sym same) known.opened) k d within ∙ sym is

  pub settled_by_bound : AreSets → BreakNoMore → (search : Search) (choice : List Bool) (ruled : List (Vec Bool)) (place : ℕ) (bound : Vec Bool) (copied : List Bool)
      → IsKnown question limit object search → ruled ≡ search.ruled.items → IsBoundAmong ruled choice (Some place) → bound ≡ get_or search.ruled.items place bound → copied ≡ bound.items
      → Settles question object search choice copied
  settled_by_bound are_sets no_more search choice ruled place bound copied known same among is_bound is_copy =
      let there : place < length ruled = among.0 in
      let read : slice_get ruled place ≡ Some bound =
      slice_get_read ruled (length ruled) place bound refl there (is_bound ∙ ap (λ (xs : List (Vec Bool)). get_or xs place bound) (sym same)) in
      let broken : All (λ b. IsBound question object b.items) ruled = subst (λ (xs : List (Vec Bool)). All (λ b. IsBound question object b.items) xs) (sym same) known.ruled in
      let this : IsBound question object bound.items = subst (λ (b : Vec Bool). IsBound question object b.items) (get_or_from_slice_get ruled place bound bound read) (broken place bound there) in
      subst (λ (flags : List Bool). Settles question object search choice flags) (sym is_copy)
      (bound_settles question limit object are_sets no_more search choice bound.items this (among.1 bound read))

  pub settled_by_open : (search : Search) (choice : List Bool) (untold : List Open) (place : ℕ) (one : Open) (copied : List Bool) → IsKnown question limit object search
      → untold ≡ search.untold.items → IsOpenAmong untold choice (Some place) → one ≡ get_or search.untold.items place one → copied ≡ one.choice.items → Settles question object search choice copied
  settled_by_open search choice untold place one copied known same among is_one is_copy =
      let there : place < length untold = among.0 in
      let read : slice_get untold place ≡ Some one =
      slice_get_read untold (length untold) place one refl there (is_one ∙ ap (λ (xs : List Open). get_or xs place one) (sym same)) in
      let here : Contains untold one = (place, there, get_or_from_slice_get untold place one one read) in
      let size : IsChoice object one.choice.items =
      (subst (λ (xs : List Open). AreOpened question limit object xs) (sym same) known.opened place one read).choice in
      subst (λ (flags : List Bool). Settles question object search choice flags) (sym is_copy)
      (open_settles question limit object search choice one (subst (λ (xs : List Open). Contains xs one) same here) size (among.1 one read))

-- ---- in the words of the code

module _ (question : Question) (limit : ℕ) (object : Object) where
  pub noted_enough : (old : Search) (choice : List Bool) (one : Open) (new : List Open) → one.choice.items ≡ choice → IsTurn question limit object old choice
      → IsUntoldSet question limit object choice (one.set, one.fault) → (IsLeftOpen old.untold.items choice → ⊥) → new ≡ old.untold.items ++ one ∷ [] → length new ≡ most_open
      → IsNotKnown question limit object new
  noted_enough old choice one new same turn untold not_open more many = record {
    opened =
        all_opened question limit object old.untold.items new one turn.known.opened (ap (λ (flags : List Bool). length flags) same ∙ turn.is_choice)
        (untold.0 ∙ ap (chosen object) (sym same)) (subst (λ (flags : List Bool). IsUntoldWith question limit object flags one.fault) (sym same) untold.1)
        (λ left. not_open (subst (λ (flags : List Bool). IsLeftOpen old.untold.items flags) same left))
        (subst (λ (flags : List Bool). AreSettledBefore question object old.untold.items flags) (sym same) turn.first) more;
    enough = inl many;
    some = omega (arith, many);
  }

  pub noted_open : (old new : Search) (choice copy : List Bool) (one : Open) → one.choice.items ≡ choice → copy ≡ choice → IsTurn question limit object old choice
      → IsUntoldSet question limit object choice (one.set, one.fault) → (IsLeftOpen old.untold.items choice → ⊥) → new.queue ≡ old.queue → new.ruled ≡ old.ruled
      → new.untold.items ≡ old.untold.items ++ one ∷ [] → length new.untold.items ≢ most_open
      → IsTurn question limit object new choice × Settles question object new choice copy × (new.queue ≡ old.queue)
  noted_open old new choice copy one same is_copy turn untold not_open same_queue same_ruled more not_many =
      let size : IsChoice object one.choice.items = ap (λ (flags : List Bool). length flags) same ∙ turn.is_choice in
      let grown : length new.untold.items ≡ length old.untold.items + 1 = ap (λ (xs : List Open). length xs) more ∙ length_push old.untold.items one in
      let few = turn.known.few in
      let still : IsTurn question limit object new one.choice.items =
      opened_turn question limit object old new one (subst (λ (flags : List Bool). IsTurn question limit object old flags) (sym same) turn) (untold.0 ∙ ap (chosen object) (sym same))
      (subst (λ (flags : List Bool). IsUntoldWith question limit object flags one.fault) (sym same) untold.1)
      (λ left. not_open (subst (λ (flags : List Bool). IsLeftOpen old.untold.items flags) same left)) same_queue same_ruled more (omega (arith, grown, few, not_many)) in
      let there : Contains new.untold.items one = subst (λ (xs : List Open). Contains xs one) (sym more) (Contains-push old.untold.items one) in
      let settles : Settles question object new choice one.choice.items =
      open_settles question limit object new choice one there size (subst (λ (flags : List Bool). is_within choice flags ≡ true) (sym same) (within_itself choice)) in (
        subst (λ (flags : List Bool). IsTurn question limit object new flags) same still,
        subst (λ (flags : List Bool). Settles question object new choice flags) (same ∙ sym is_copy) settles,
        same_queue,
      )

  pub no_program : (old : Search) (choice copy : List Bool) → IsTurn question limit object old choice → mended object choice ≡ None → copy ≡ choice
      → IsTurn question limit object old choice × Settles question object old choice copy × (old.queue ≡ old.queue)
  no_program old choice copy turn none same = (
    turn,
    subst (λ (flags : List Bool). Settles question object old choice flags) (sym same) (none_settles question limit object old choice turn.is_choice none),
    refl,
  )
