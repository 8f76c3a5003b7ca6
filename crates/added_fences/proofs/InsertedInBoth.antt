-- Code that is led back to code that is led back to other code is led back to that; and the same instruction put into both leaves the one led back to the other.
use Rattle.std.proofs.Common.{◌≡◌, ℕ, zero, suc, ◌+◌, ◌<◌, ◌≤◌, ◌⊎◌, Bool, true, true≢false, Some, None, List, length, map, option_map, refl, sym, ap, subst, ◌∙◌, arith, inl, inr}
use Rattle.std.specs.Prelude.{if◌then◌else◌, nat_lt, slice_get}
use Rattle.std.specs.List.{insert}
use Rattle.std.proofs.lemmas.Bool.{cases_lt, le-ltb, lt-ltb}
use Rattle.std.proofs.lemmas.List.{length-map}
use Rattle.std.proofs.lemmas.Option.{slice_get-map}
use Rattle.isa.specs.declared.instr.Access.{Access}
use Rattle.isa.specs.declared.instr.Instr.{Instr}
use Rattle.isa.specs.declared.instr.Instr.TheVariants as instrs
use Rattle.isa.specs.declared.instr.MemoryOperand.{MemoryOperand}
use Rattle.image_reasons.specs.Repairs.{led_on, shifted}
use Rattle.fewer_fences.specs.Thinner.{may_be_nop}
use Rattle.added_fences.specs.Added.{IsLedBack, IsPutIn, OrdersAlone, is_flush_or_fence}
use Rattle.added_fences.proofs.BehindAccesses.{still_behind}
use Rattle.added_fences.proofs.Inserted.{IsAddedBy, Leads, WasThereBy, back_kept, back_over, back_past, earlier, insert_before, insert_behind, insert_there, none_before, one_there, shifted_kept, shifted_past, was_some}

-- ---- one behind another

-- what a fence or a flush is led back from is it
pub may_too : (Stands : ℕ → ℕ → Type 0) (instr other : Instr) → IsLedBack Stands instr other → may_be_nop other ≡ true → may_be_nop instr ≡ true
may_too Stands (instrs.Jump kind target) other (new, is, to) may = absurd (true≢false (sym may ∙ ap may_be_nop is))
may_too Stands (instrs.Set r source) other is may = ap may_be_nop (sym is) ∙ may
may_too Stands (instrs.Compute operation r n) other is may = ap may_be_nop (sym is) ∙ may
may_too Stands instrs.Nop other is may = ap may_be_nop (sym is) ∙ may
may_too Stands (instrs.Memory access operand) other is may = ap may_be_nop (sym is) ∙ may
may_too Stands (instrs.Fence kind) other is may = ap may_be_nop (sym is) ∙ may

-- what an access is led back from is it
pub access_too : (Stands : ℕ → ℕ → Type 0) (access : Access) (operand : MemoryOperand) (instr other : Instr) → IsLedBack Stands instr other → other ≡ instrs.Memory access operand
    → instr ≡ instrs.Memory access operand
access_too Stands access operand (instrs.Jump kind target) other (new, to, leads) is = let both : instrs.Jump kind new ≡ instrs.Memory access operand = sym to ∙ is in absurd (cc)
access_too Stands access operand (instrs.Set r source) other to is = sym to ∙ is
access_too Stands access operand (instrs.Compute operation r n) other to is = sym to ∙ is
access_too Stands access operand instrs.Nop other to is = sym to ∙ is
access_too Stands access operand (instrs.Memory by operand') other to is = sym to ∙ is
access_too Stands access operand (instrs.Fence kind) other to is = sym to ∙ is

module _ (back again : ℕ → ℕ) where
  abbrev pub over : ℕ → ℕ
  over i = again (back i)

  led_twice : (instr between other : Instr) → IsLedBack (Leads back) instr between → IsLedBack (Leads again) between other → IsLedBack (Leads over) instr other
  led_twice (instrs.Jump kind target) between other (new, is, to) too =
      let (far, at, leads) = subst (λ (x : Instr). IsLedBack (Leads again) x other) is too in (far, at, leads ∙ ap again to)
  led_twice (instrs.Set r source) between other is too = subst (λ (x : Instr). IsLedBack (Leads again) x other) is too
  led_twice (instrs.Compute operation r n) between other is too = subst (λ (x : Instr). IsLedBack (Leads again) x other) is too
  led_twice instrs.Nop between other is too = subst (λ (x : Instr). IsLedBack (Leads again) x other) is too
  led_twice (instrs.Memory access operand) between other is too = subst (λ (x : Instr). IsLedBack (Leads again) x other) is too
  led_twice (instrs.Fence kind) between other is too = subst (λ (x : Instr). IsLedBack (Leads again) x other) is too

  -- what may be put into the one, and what was put into the other, which may be put into the one
  pub added_twice : (May Might : ℕ → Instr → Type 0) (a b c : List Instr)
      → ((place : ℕ) (instr : Instr) (was : WasThereBy (Leads back) back b place instr) → IsPutIn Might again (back place) was.other → May place instr)
      → IsAddedBy (Leads back) May back a b → IsAddedBy (Leads again) Might again b c → IsAddedBy (Leads over) May over a c
  added_twice May Might a b c too h k = record {
    start = ap again h.start ∙ k.start;
    each = λ place instr at. first place instr (h.each place instr at);
    end = λ place none. k.end (back place) (h.end place none);
  }
    where
      second : (place : ℕ) (instr : Instr) (was : WasThereBy (Leads back) back b place instr) → IsPutIn Might again (back place) was.other ⊎ WasThereBy (Leads again) again c (back place) was.other
          → IsPutIn May over place instr ⊎ WasThereBy (Leads over) over c place instr
      second place instr was (inl put) = inl (record { passes = too place instr was put; next = ap again was.next ∙ put.next })
      second place instr was (inr far) =
          inr (record { other = far.other; there = far.there; alike = led_twice instr was.other far.other was.alike far.alike; next = ap again was.next ∙ far.next })

      first : (place : ℕ) (instr : Instr) → IsPutIn May back place instr ⊎ WasThereBy (Leads back) back b place instr
          → IsPutIn May over place instr ⊎ WasThereBy (Leads over) over c place instr
      first place instr (inl put) = inl (record { passes = put.passes; next = ap again put.next })
      first place instr (inr was) = second place instr was (k.each (back place) was.other was.there)

-- ---- places that are not led elsewhere

-- Up to a place each place is led back to itself, and each from there on to one from there on.
pub record IsSameUpTo (n : ℕ) (back : ℕ → ℕ) : Type 0 where
  pub kept : (i : ℕ) → i ≤ n → back i ≡ i
  pub above : (i : ℕ) → n ≤ i → n ≤ back i

pub same_over : (m n : ℕ) → m ≤ n → IsSameUpTo m (back_over n)
same_over m n within = record { kept = λ i below. back_kept n i (omega (arith, below, within)); above = λ i from. by i from (cases_lt n i) }
  where
    by : (i : ℕ) → m ≤ i → (n < i) ⊎ (i ≤ n) → m ≤ back_over n i
    by i from (inr to) = let is = back_kept n i to in omega (arith, is, from)
    by zero from (inl past) = absurd (omega (arith, past))
    by (suc i) from (inl past) = let is = back_past n (suc i) i past (omega arith) in omega (arith, is, past, within)

pub same_twice : (n : ℕ) (back again : ℕ → ℕ) → IsSameUpTo n back → IsSameUpTo n again → IsSameUpTo n (λ i. again (back i))
same_twice n back again h k = record { kept = λ i below. ap again (h.kept i below) ∙ k.kept i below; above = λ i from. k.above (back i) (h.above i from) }

-- where one instruction was put into both at a place
abbrev pub wider : ℕ → (ℕ → ℕ) → ℕ → ℕ
wider n back i = if nat_lt n i then back (earlier i) + 1 else i

pub wider_kept : (n : ℕ) (back : ℕ → ℕ) (i : ℕ) → i ≤ n → wider n back i ≡ i
wider_kept n back i within = ap (λ (b : Bool). if b then back (earlier i) + 1 else i) (le-ltb n i within)

pub wider_past : (n : ℕ) (back : ℕ → ℕ) (i j : ℕ) → n < i → i ≡ j + 1 → wider n back i ≡ back j + 1
wider_past n back zero j past is = absurd (omega (arith, past))
wider_past n back (suc i) j past is =
    let same : i ≡ j = omega (arith, is) in ap (λ (b : Bool). if b then back i + 1 else suc i) (lt-ltb n (suc i) past) ∙ ap (λ (k : ℕ). back k + 1) same

pub same_wider : (m n : ℕ) (back : ℕ → ℕ) → m ≤ n → IsSameUpTo n back → IsSameUpTo m (wider n back)
same_wider m n back within h = record { kept = λ i below. wider_kept n back i (omega (arith, below, within)); above = λ i from. by i from (cases_lt n i) }
  where
    by : (i : ℕ) → m ≤ i → (n < i) ⊎ (i ≤ n) → m ≤ wider n back i
    by i from (inr to) = let is = wider_kept n back i to in omega (arith, is, from)
    by zero from (inl past) = absurd (omega (arith, past))
    by (suc i) from (inl past) =
        let is = wider_past n back (suc i) i past (omega arith) in let far = h.above i (omega (arith, past)) in omega (arith, is, far, within)

-- ---- the same instruction in both, behind the one at a site

module _ (site n : ℕ) (x : Instr) (back : ℕ → ℕ) (more less : List Instr) (h : IsAddedBy (Leads back) (OrdersAlone may_be_nop more) back more less) (same : IsSameUpTo n back)
    (directly : n ≡ site + 1) (passes : is_flush_or_fence x ≡ true) (within : n ≤ length more) (inside : n ≤ length less) where
  abbrev more_moved : List Instr
  more_moved = map (led_on site) more

  abbrev less_moved : List Instr
  less_moved = map (led_on site) less

  abbrev more_new : List Instr
  more_new = insert more_moved n x

  abbrev less_new : List Instr
  less_new = insert less_moved n x

  abbrev now : ℕ → ℕ
  now = wider n back

  more_long : n ≤ length more_moved
  more_long = let long = length-map more (led_on site) in omega (arith, long, within)

  less_long : n ≤ length less_moved
  less_long = let long = length-map less (led_on site) in omega (arith, long, inside)

  leads_by : (target new : ℕ) → new ≡ back target → (site < target) ⊎ (target ≤ site) → shifted site new ≡ now (shifted site target)
  leads_by target new to (inl past) =
      let far = same.above target (omega (arith, past, directly)) in
      shifted_past site new (omega (arith, far, to, directly))
      ∙ (ap (λ (k : ℕ). k + 1) to ∙ sym (ap now (shifted_past site target past) ∙ wider_past n back (target + 1) target (omega (arith, past, directly)) refl))
  leads_by target new to (inr below) =
      let is : new ≡ target = to ∙ same.kept target (omega (arith, below, directly)) in
      ap (shifted site) is
      ∙ (shifted_kept site target below ∙ sym (ap now (shifted_kept site target below) ∙ wider_kept n back target (omega (arith, below, directly))))

  led_both : (old other : Instr) → IsLedBack (Leads back) old other → IsLedBack (Leads now) (led_on site old) (led_on site other)
  led_both (instrs.Jump kind target) other (new, is, to) = (shifted site new, ap (led_on site) is, leads_by target new to (cases_lt site target))
  led_both (instrs.Set r source) other is = ap (led_on site) is
  led_both (instrs.Compute operation r count) other is = ap (led_on site) is
  led_both instrs.Nop other is = ap (led_on site) is
  led_both (instrs.Memory access operand) other is = ap (led_on site) is
  led_both (instrs.Fence kind) other is = ap (led_on site) is

  no_jump : (instr : Instr) → is_flush_or_fence instr ≡ true → IsLedBack (Leads now) instr instr
  no_jump (instrs.Jump kind target) may = absurd (true≢false (sym may))
  no_jump (instrs.Set r source) may = refl
  no_jump (instrs.Compute operation r count) may = refl
  no_jump instrs.Nop may = refl
  no_jump (instrs.Memory access operand) may = refl
  no_jump (instrs.Fence kind) may = refl

  may_on : (old : Instr) → may_be_nop old ≡ true → may_be_nop (led_on site old) ≡ true
  may_on (instrs.Jump kind target) may = absurd (true≢false (sym may))
  may_on (instrs.Set r source) may = may
  may_on (instrs.Compute operation r count) may = may
  may_on instrs.Nop may = may
  may_on (instrs.Memory access operand) may = may
  may_on (instrs.Fence kind) may = may

  abbrev May : ℕ → Instr → Type 0
  May = OrdersAlone may_be_nop more_new

  abbrev Now : ℕ → Instr → Type 0
  Now place instr = IsPutIn May now place instr ⊎ WasThereBy (Leads now) now less_new place instr

  -- what was put in is a place further
  orders_still : (i : ℕ) (old instr : Instr) → n ≤ i → led_on site old ≡ instr → OrdersAlone may_be_nop more i old → May (suc i) instr
  orders_still i old instr from is (inl may) = inl (ap may_be_nop (sym is) ∙ may_on old may)
  orders_still i old instr from is (inr flush) = inr (record {
    kind = flush.kind;
    operand = flush.operand;
    is = sym is ∙ ap (led_on site) flush.is;
    behind = still_behind site n x more directly passes within flush.operand i from flush.behind;
  })

  -- it was there, where this one is at the place then
  was : (place j : ℕ) (old other instr : Instr) → led_on site old ≡ instr → IsLedBack (Leads back) old other → slice_get less_new j ≡ option_map (led_on site) (Some other) → now place ≡ j → now (place + 1) ≡ j + 1
      → WasThereBy (Leads now) now less_new place instr
  was place j old other instr is alike there here next = record {
    other = led_on site other;
    there = ap (slice_get less_new) here ∙ there;
    alike = subst (λ (y : Instr). IsLedBack (Leads now) y (led_on site other)) is (led_both old other alike);
    next = next ∙ ap (λ (k : ℕ). k + 1) (sym here);
  }

  less_before : (i : ℕ) → i < n → slice_get less_new i ≡ option_map (led_on site) (slice_get less i)
  less_before i below = insert_before less_moved n i x less_long below ∙ slice_get-map (led_on site) less i

  less_behind : (i : ℕ) → n ≤ i → slice_get less_new (i + 1) ≡ option_map (led_on site) (slice_get less i)
  less_behind i from = let next : i + 1 ≡ suc i = omega arith in ap (slice_get less_new) next ∙ (insert_behind less_moved n i x from ∙ slice_get-map (led_on site) less i)

  more_before : (i : ℕ) → i < n → slice_get more_new i ≡ option_map (led_on site) (slice_get more i)
  more_before i below = insert_before more_moved n i x more_long below ∙ slice_get-map (led_on site) more i

  more_behind : (i : ℕ) → n ≤ i → slice_get more_new (suc i) ≡ option_map (led_on site) (slice_get more i)
  more_behind i from = insert_behind more_moved n i x from ∙ slice_get-map (led_on site) more i

  before_by : (place : ℕ) (old instr : Instr) → place < n → led_on site old ≡ instr → IsPutIn (OrdersAlone may_be_nop more) back place old ⊎ WasThereBy (Leads back) back less place old
      → Now place instr
  before_by place old instr below is (inl put) =
      let here = same.kept place (omega (arith, below)) in
      let next = same.kept (place + 1) (omega (arith, below)) in
      let stays = put.next in
      absurd (omega (arith, here, next, stays))
  before_by place old instr below is (inr w) =
      inr (was place place old w.other instr is w.alike
      (less_before place below ∙ ap (option_map (led_on site)) (ap (slice_get less) (sym (same.kept place (omega (arith, below)))) ∙ w.there))
      (wider_kept n back place (omega (arith, below))) (wider_kept n back (place + 1) (omega (arith, below))))

  before : (place : ℕ) (instr : Instr) → place < n → slice_get more_new place ≡ Some instr → Now place instr
  before place instr below at =
      let old = was_some (led_on site) (slice_get more place) instr (sym (more_before place below) ∙ at) in
      before_by place old.0 instr below old.2 (h.each place old.0 old.1)

  behind_by : (i : ℕ) (old instr : Instr) → n ≤ i → led_on site old ≡ instr → IsPutIn (OrdersAlone may_be_nop more) back i old ⊎ WasThereBy (Leads back) back less i old
      → Now (suc i) instr
  behind_by i old instr from is (inl put) =
      inl (record {
        passes = orders_still i old instr from is put.passes;
        next = wider_past n back (suc i + 1) (i + 1) (omega (arith, from)) (omega arith)
            ∙ (ap (λ (k : ℕ). k + 1) put.next ∙ sym (wider_past n back (suc i) i (omega (arith, from)) (omega arith)));
      })
  behind_by i old instr from is (inr w) =
      inr (was (suc i) (back i + 1) old w.other instr is w.alike (less_behind (back i) (same.above i from) ∙ ap (option_map (led_on site)) w.there)
      (wider_past n back (suc i) i (omega (arith, from)) (omega arith))
      (wider_past n back (suc i + 1) (i + 1) (omega (arith, from)) (omega arith) ∙ ap (λ (k : ℕ). k + 1) w.next))

  behind : (place : ℕ) (instr : Instr) → n < place → slice_get more_new place ≡ Some instr → Now place instr
  behind zero instr past at = absurd (omega (arith, past))
  behind (suc i) instr past at =
      let from : n ≤ i = omega (arith, past) in
      let old = was_some (led_on site) (slice_get more i) instr (sym (more_behind i from) ∙ at) in
      behind_by i old.0 instr from old.2 (h.each i old.0 old.1)

  put : (place : ℕ) (instr : Instr) → place ≡ n → slice_get more_new place ≡ Some instr → WasThereBy (Leads now) now less_new place instr
  put place instr is at =
      let this : instr ≡ x = one_there x instr (sym (insert_there more_moved n x more_long) ∙ (ap (slice_get more_new) (sym is) ∙ at)) in
      let here : now place ≡ place = wider_kept n back place (omega (arith, is)) in
      record {
        other = x;
        there = ap (slice_get less_new) (here ∙ is) ∙ insert_there less_moved n x less_long;
        alike = subst (λ (y : Instr). IsLedBack (Leads now) y x) (sym this) (no_jump x passes);
        next = wider_past n back (place + 1) place (omega (arith, is)) refl ∙ ap (λ (k : ℕ). k + 1) (same.kept place (omega (arith, is)) ∙ sym here);
      }

  there : (place : ℕ) (instr : Instr) → slice_get more_new place ≡ Some instr → (place < n) ⊎ (n ≤ place) → (n < place) ⊎ (place ≤ n) → Now place instr
  there place instr at (inl below) above = before place instr below at
  there place instr at (inr from) (inl past) = behind place instr past at
  there place instr at (inr from) (inr to) = inr (put place instr (omega (arith, from, to)) at)

  end_behind : (place : ℕ) → n < place → slice_get more_new place ≡ None → slice_get less_new (now place) ≡ None
  end_behind zero past none = absurd (omega (arith, past))
  end_behind (suc i) past none =
      let from : n ≤ i = omega (arith, past) in
      ap (slice_get less_new) (wider_past n back (suc i) i past (omega arith))
      ∙ (less_behind (back i) (same.above i from)
      ∙ ap (option_map (led_on site)) (h.end i (none_before (led_on site) (slice_get more i) (sym (more_behind i from) ∙ none))))

  end_there : (place : ℕ) → slice_get more_new place ≡ None → (place < n) ⊎ (n ≤ place) → (n < place) ⊎ (place ≤ n) → slice_get less_new (now place) ≡ None
  end_there place none (inl below) above =
      let gone = h.end place (none_before (led_on site) (slice_get more place) (sym (more_before place below) ∙ none)) in
      ap (slice_get less_new) (wider_kept n back place (omega (arith, below)))
      ∙ (less_before place below ∙ ap (option_map (led_on site)) (ap (slice_get less) (sym (same.kept place (omega (arith, below)))) ∙ gone))
  end_there place none (inr from) (inl past) = end_behind place past none
  end_there place none (inr from) (inr to) =
      let is : place ≡ n = omega (arith, from, to) in
      let both : Some x ≡ None = sym (insert_there more_moved n x more_long) ∙ (ap (slice_get more_new) (sym is) ∙ none) in
      absurd (cc)

  pub inserted_both : IsAddedBy (Leads now) May now more_new less_new
  inserted_both = record {
    start = wider_kept n back 0 (omega arith);
    each = λ place instr at. there place instr at (cases_lt place n) (cases_lt n place);
    end = λ place none. end_there place none (cases_lt place n) (cases_lt n place);
  }
