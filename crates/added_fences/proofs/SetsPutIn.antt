-- A program into which a set of instructions was put, and the same with a part of the set.
use Rattle.std.proofs.Common.{◌≡◌, ℕ, zero, suc, ◌+◌, ◌<◌, ◌≤◌, ◌⊎◌, Bool, true, true≢false, Option, Some, None, List, [], ◌∷◌, length, map, option_map, refl, sym, ap, subst, ◌∙◌, arith, inl, inr}
use Rattle.std.specs.Prelude.{Contains, slice_get}
use Rattle.std.specs.List.{insert}
use Rattle.std.specs.Option.{option_and_then}
use Rattle.std.proofs.lemmas.Bool.{cases_lt}
use Rattle.std.proofs.lemmas.List.{length-map}
use Rattle.std.proofs.lemmas.Option.{slice_get-map}
use Rattle.isa.specs.declared.instr.Access.{Access}
use Rattle.isa.specs.declared.instr.Access.TheVariants as accesses
use Rattle.isa.specs.declared.instr.Instr.{Instr}
use Rattle.isa.specs.declared.instr.Instr.TheVariants as instrs
use Rattle.isa.specs.declared.instr.Instr.TheVariants.{Memory}
use Rattle.isa.specs.declared.instr.MemoryOperand.{MemoryOperand}
use Rattle.isa.specs.Objects.{Object}
use Rattle.explore.specs.declared.question.Question.{Question}
use Rattle.verdicts.specs.Verdicts.{IsBrokenBy, IsKeptBy}
use Rattle.image_reasons.specs.declared.repair.Repair.{Repair}
use Rattle.image_reasons.specs.declared.repair.Side.{Side}
use Rattle.image_reasons.specs.declared.repair.Side.TheVariants.{Behind}
use Rattle.image_reasons.specs.PutIn.{code_at, code_there}
use Rattle.image_reasons.specs.Repairs.{led_on, put_at, repaired, with_instr}
use Rattle.image_reasons.proofs.OneInstructionIsPutIn.{rest}
use Rattle.fewer_fences.specs.Thinner.{may_be_nop}
use Rattle.added_fences.specs.Added.{AreAdded, IsBehindAccess, IsLedBack, IsPutIn, OrdersAlone, is_flush_or_fence}
use Rattle.candidates.specs.Sets.{with_all}
use Rattle.added_fences.specs.Sets.{FlushesItsSite, IsCandidate, IsSet, IsWithin}
use Rattle.added_fences.proofs.BehindAccesses.{directly_behind, still_behind}
use Rattle.added_fences.proofs.Inserted.{IsAddedBy, Leads, WasThereBy, back_kept, back_over, back_past, has_added, length_insert, put_there, same_code}
use Rattle.added_fences.proofs.InsertedInBoth.{IsSameUpTo, access_too, added_twice, inserted_both, may_too, same_over, same_twice, same_wider, wider}
use Rattle.added_fences.proofs.OnePutIn.{SiteOrNot, added_by_code, loads, site_or_not}
use Rattle.added_fences.proofs.QuestionsKept.{broken_too, kept_too}

-- ---- parts of a set

pub first_there : (repair : Repair) (others : List Repair) → Contains (repair ∷ others) repair
first_there repair others = (0, omega arith, refl)

pub later_there : (repair : Repair) (others : List Repair) (other : Repair) → Contains others other → Contains (repair ∷ others) other
later_there repair others other c = let within = c.1 in (suc c.0, omega (arith, within), c.2)

rest_is_set : (object : Object) (repair : Repair) (others : List Repair) → IsSet object (repair ∷ others) → IsSet object others
rest_is_set object repair others set = record { each = λ other c. set.each other (later_there repair others other c); order = set.order.1 }

-- what the first is put into
record IsPutFirst (object : Object) (repair : Repair) (others : List Repair) (changed : Object) : Type 0 where
  into : Object
  put : with_all others object ≡ Some into
  is : repaired into repair ≡ Some changed

put_first : (object : Object) (repair : Repair) (others : List Repair) (changed : Object) → with_all (repair ∷ others) object ≡ Some changed → IsPutFirst object repair others changed
put_first object repair others changed e = by (with_all others object) refl e
  where
    by : (o : Option Object) → with_all others object ≡ o → option_and_then (λ into. repaired into repair) o ≡ Some changed → IsPutFirst object repair others changed
    by None is e = absurd cc
    by (Some into) is e = record { into = into; put = is; is = e }

same_object : (a b : Object) → Some a ≡ Some b → b ≡ a
same_object a b e = let is : a ≡ b = cc in sym is

-- ---- programs get no shorter

module _ (p : ℕ) (recovering : Bool) where
  longer_by : (object : Object) (repair : Repair) (changed : Object) → SiteOrNot object repair changed p recovering → length (code_at object p recovering) ≤ length (code_at changed p recovering)
  longer_by object repair changed (inl (same, mode, is)) =
      let code : List Instr = code_at object p recovering in
      let put = length_insert (map (led_on repair.site.place) code) (put_at repair.side repair.site.place) repair.instr in
      let moved = length-map code (led_on repair.site.place) in
      let long = ap (λ (xs : List Instr). length xs) is in
      omega (arith, put, moved, long)
  longer_by object repair changed (inr (apart, is)) = let long = ap (λ (xs : List Instr). length xs) is in omega (arith, long)

  pub longer : (object : Object) (set : List Repair) (changed : Object) → with_all set object ≡ Some changed → length (code_at object p recovering) ≤ length (code_at changed p recovering)
  longer object [] changed e = let is = ap (λ (o : Object). length (code_at o p recovering)) (same_object object changed e) in omega (arith, is)
  longer object (repair ∷ others) changed e =
      let first = put_first object repair others changed e in
      let before = longer object others first.into first.put in
      let behind = longer_by first.into repair changed (site_or_not first.into repair changed first.is p recovering) in
      omega (arith, before, behind)

-- ---- accesses stay where they are, before what is put in

insert_keeps : {X : Type 0} (xs : List X) (n i : ℕ) (x y : X) → i < n → slice_get xs i ≡ Some y → slice_get (insert xs n x) i ≡ Some y
insert_keeps [] n i x y below e = absurd cc
insert_keeps (z ∷ xs) zero i x y below e = absurd (omega (arith, below))
insert_keeps (z ∷ xs) (suc n) zero x y below e = e
insert_keeps (z ∷ xs) (suc n) (suc i) x y below e = insert_keeps xs n i x y (omega (arith, below)) e

-- whether what a set puts into a program is put in from a place on
abbrev StartsFrom : List Repair → ℕ → Bool → ℕ → Type 0
StartsFrom set p recovering n = (other : Repair) → Contains set other → other.site.processor ≡ p → other.site.recovering ≡ recovering → n ≤ put_at other.side other.site.place

later_from : (repair : Repair) (set : List Repair) (p : ℕ) (recovering : Bool) (n : ℕ) → StartsFrom (repair ∷ set) p recovering n → StartsFrom set p recovering n
later_from repair set p recovering n from other c same mode = from other (later_there repair set other c) same mode

module _ (p : ℕ) (recovering : Bool) (n i : ℕ) (access : Access) (operand : MemoryOperand) (below : i < n) where
  abbrev Accesses : Object → Type 0
  Accesses object = slice_get (code_at object p recovering) i ≡ Some (Memory access operand)

  access_by : (object : Object) (repair : Repair) (changed : Object) → SiteOrNot object repair changed p recovering
      → (repair.site.processor ≡ p → repair.site.recovering ≡ recovering → n ≤ put_at repair.side repair.site.place) → Accesses object → Accesses changed
  access_by object repair changed (inl (same, mode, is)) from at =
      let code : List Instr = code_at object p recovering in
      let low = from (sym same) (sym mode) in
      ap (λ (xs : List Instr). slice_get xs i) is
      ∙ insert_keeps (map (led_on repair.site.place) code) (put_at repair.side repair.site.place) i repair.instr (Memory access operand) (omega (arith, low, below))
      (slice_get-map (led_on repair.site.place) code i ∙ ap (option_map (led_on repair.site.place)) at)
  access_by object repair changed (inr (apart, is)) from at = ap (λ (xs : List Instr). slice_get xs i) is ∙ at

  access_stays : (object : Object) (set : List Repair) (changed : Object) → with_all set object ≡ Some changed → StartsFrom set p recovering n → Accesses object → Accesses changed
  access_stays object [] changed e from at = subst Accesses (sym (same_object object changed e)) at
  access_stays object (repair ∷ others) changed e from at =
      let first = put_first object repair others changed e in
      access_by first.into repair changed (site_or_not first.into repair changed first.is p recovering) (λ same mode. from repair (first_there repair others) same mode)
      (access_stays object others first.into first.put (later_from repair others p recovering n from) at)

-- ---- programs with a set, and with a part of it

-- Code is led back to other code, and up to where a set puts something in each place is led back to itself.
record IsPut (set : List Repair) (p : ℕ) (recovering : Bool) (more less : List Instr) : Type 0 where
  back : ℕ → ℕ
  added : IsAddedBy (Leads back) (OrdersAlone may_be_nop more) back more less
  same : (n : ℕ) → StartsFrom set p recovering n → IsSameUpTo n back

record ArePut (set : List Repair) (more less : Object) : Type 0 where
  layout : less.layout ≡ more.layout
  values : less.values ≡ more.values
  count : length less.processors ≡ length more.processors
  code : (p : ℕ) (recovering : Bool) → IsPut set p recovering (code_at more p recovering) (code_at less p recovering)

none_put : (object : Object) → ArePut [] object object
none_put object = record {
  layout = refl;
  values = refl;
  count = refl;
  code = λ p recovering.
      record { back = λ i. i; added = same_code (OrdersAlone may_be_nop (code_at object p recovering)) (code_at object p recovering); same = λ n from. record { kept = λ i below. refl; above = λ i above. above } };
}

-- code of a program that is not the site's
as_it_was : (repair : Repair) (set : List Repair) (p : ℕ) (recovering : Bool) (more less : List Instr) → IsPut set p recovering more less → IsPut (repair ∷ set) p recovering more less
as_it_was repair set p recovering more less h = record { back = h.back; added = h.added; same = λ n from. h.same n (later_from repair set p recovering n from) }

put_behind : (side : Side) (place : ℕ) → side ≡ Behind → put_at side place ≡ place + 1
put_behind side place is = ap (λ (s : Side). put_at s place) is

module _ (object : Object) (repair : Repair) (set : List Repair) (whole : IsSet object (repair ∷ set)) where
  abbrev n : ℕ
  n = put_at repair.side repair.site.place

  abbrev with_it : List Instr → List Instr
  with_it code = with_instr repair.side repair.site.place repair.instr code

  candidate : IsCandidate object repair
  candidate = whole.each repair (first_there repair set)

  directly : n ≡ repair.site.place + 1
  directly = put_behind repair.side repair.site.place candidate.side

  -- it is put in at a place of each program that has not become shorter
  within : (p : ℕ) (recovering : Bool) → p ≡ repair.site.processor → recovering ≡ repair.site.recovering → (changed : Object)
      → length (code_at object p recovering) ≤ length (code_at changed p recovering) → n ≤ length (code_at changed p recovering)
  within p recovering same mode changed long =
      let there = candidate.there in
      let is : code_at object p recovering ≡ code_there object repair =
      ap (λ (q : ℕ). code_at object q recovering) same ∙ ap (λ (b : Bool). code_at object repair.site.processor b) mode in
      let count = ap (λ (xs : List Instr). length xs) is in
      omega (arith, directly, there, count, long)

  -- no other is put in before it
  first_from : (p : ℕ) (recovering : Bool) → p ≡ repair.site.processor → recovering ≡ repair.site.recovering → StartsFrom set p recovering n
  first_from p recovering same mode other c here there =
      let later = whole.order.0 other c (sym same ∙ sym here) (sym mode ∙ sym there) in
      let behind = put_behind other.side other.site.place (whole.each other (later_there repair set other c)).side in
      omega (arith, directly, later, behind)

  -- it is a fence or a flush
  orders_by : (instr : Instr) → may_be_nop instr ≡ true → is_flush_or_fence instr ≡ true
  orders_by (instrs.Set r source) may = absurd (true≢false (sym may))
  orders_by (instrs.Compute operation r count) may = absurd (true≢false (sym may))
  orders_by (instrs.Jump kind target) may = absurd (true≢false (sym may))
  orders_by instrs.Nop may = absurd (true≢false (sym may))
  orders_by (Memory (accesses.Load r) operand) may = absurd (true≢false (sym may))
  orders_by (Memory (accesses.Store source) operand) may = absurd (true≢false (sym may))
  orders_by (Memory (accesses.Locked operation r) operand) may = absurd (true≢false (sym may))
  orders_by (Memory (accesses.Flush kind) operand) may = refl
  orders_by (instrs.Fence kind) may = refl

  orders : is_flush_or_fence repair.instr ≡ true
  orders = elim candidate.may [
    | inl may ↦ orders_by repair.instr may
    | inr flush ↦ ap is_flush_or_fence flush.is
  ]

  -- it is put in behind the access that it flushes
  abbrev AccessStays : List Instr → Type 0
  AccessStays code =
      (access : Access) (operand : MemoryOperand) → slice_get (code_there object repair) repair.site.place ≡ Some (Memory access operand)
      → slice_get code repair.site.place ≡ Some (Memory access operand)

  stays_at : (p : ℕ) (recovering : Bool) → p ≡ repair.site.processor → recovering ≡ repair.site.recovering → (changed : Object) → with_all set object ≡ Some changed
      → AccessStays (code_at changed p recovering)
  stays_at p recovering same mode changed put access operand at =
      access_stays p recovering n repair.site.place access operand (omega (arith, directly)) object set changed put (first_from p recovering same mode)
      (ap (λ (q : ℕ). slice_get (code_at object q recovering) repair.site.place) same
      ∙ (ap (λ (b : Bool). slice_get (code_at object repair.site.processor b) repair.site.place) mode ∙ at))

  -- so it never traps
  orders_alone : (code : List Instr) → n ≤ length code → AccessStays code → (may_be_nop repair.instr ≡ true) ⊎ FlushesItsSite object repair → OrdersAlone may_be_nop (with_it code) n repair.instr
  orders_alone code long stays (inl may) = inl may
  orders_alone code long stays (inr flush) = inr (record {
    kind = flush.kind;
    operand = flush.operand;
    is = flush.is;
    behind = directly_behind repair.site.place n repair.instr code directly orders long flush.access flush.operand (stays flush.access flush.operand flush.accesses) flush.kept;
  })

  -- what was put in before is a place further
  orders_further : (code : List Instr) → n ≤ length code → (place i : ℕ) (instr other : Instr) → n ≤ i → place ≡ suc i → IsLedBack (Leads (back_over n)) instr other
      → OrdersAlone may_be_nop code i other → OrdersAlone may_be_nop (with_it code) place instr
  orders_further code long place i instr other from is alike (inl may) = inl (may_too (Leads (back_over n)) instr other alike may)
  orders_further code long place i instr other from is alike (inr flush) = inr (record {
    kind = flush.kind;
    operand = flush.operand;
    is = access_too (Leads (back_over n)) (accesses.Flush flush.kind) flush.operand instr other alike flush.is;
    behind = subst (λ (k : ℕ). IsBehindAccess (with_it code) flush.operand k) (sym is)
        (still_behind repair.site.place n repair.instr code directly orders long flush.operand i from flush.behind);
  })

  -- nothing was put in before it
  further : (place : ℕ) (back : ℕ → ℕ) → IsSameUpTo n back → back_over n (place + 1) ≡ back_over n place + 1 → back (back_over n place + 1) ≡ back (back_over n place)
      → (place < n) ⊎ (n ≤ place) → (n < place) ⊎ (place ≤ n) → (n ≤ back_over n place) × (place ≡ suc (back_over n place))
  further place back same next put (inl below) above =
      let here = back_kept n place (omega (arith, below)) in
      let one = same.kept (back_over n place) (omega (arith, below, here)) in
      let two = same.kept (back_over n place + 1) (omega (arith, below, here)) in
      absurd (omega (arith, one, two, put))
  further zero back same next put (inr from) (inl past) = absurd (omega (arith, past))
  further (suc i) back same next put (inr from) (inl past) =
      let is = back_past n (suc i) i past (omega arith) in (omega (arith, is, past), omega (arith, is))
  further place back same next put (inr from) (inr to) =
      let here = back_kept n place to in
      let then = back_past n (place + 1) place (omega (arith, from)) refl in
      absurd (omega (arith, here, then, next))

  -- ---- it is put into the one alone

  alone_there : (p : ℕ) (recovering : Bool) (more less : List Instr) → p ≡ repair.site.processor → recovering ≡ repair.site.recovering → n ≤ length more → AccessStays more
      → IsPut set p recovering more less → IsPut (repair ∷ set) p recovering (with_it more) less
  alone_there p recovering more less same mode long stays h = record {
    back = λ i. h.back (back_over n i);
    added = added_twice (back_over n) h.back (OrdersAlone may_be_nop (with_it more)) (OrdersAlone may_be_nop more) (with_it more) more less (λ place instr was put. too place instr was put)
        (put_there (OrdersAlone may_be_nop (with_it more)) repair.side repair.site.place repair.instr more (orders_alone more long stays candidate.may) long) h.added;
    same = λ m from.
        same_twice m (back_over n) h.back (same_over m n (from repair (first_there repair set) (sym same) (sym mode))) (h.same m (later_from repair set p recovering m from));
  }
    where
      too : (place : ℕ) (instr : Instr) (was : WasThereBy (Leads (back_over n)) (back_over n) more place instr) → IsPutIn (OrdersAlone may_be_nop more) h.back (back_over n place) was.other
          → OrdersAlone may_be_nop (with_it more) place instr
      too place instr was put =
          let (from, is) = further place h.back (h.same n (first_from p recovering same mode)) was.next put.next (cases_lt place n) (cases_lt n place) in
          orders_further more long place (back_over n place) instr was.other from is was.alike put.passes

  alone : (more less changed : Object) → with_all set object ≡ Some more → repaired more repair ≡ Some changed → ArePut set more less → ArePut (repair ∷ set) changed less
  alone more less changed put e h =
      let stays = rest more repair changed e in
      record {
        layout = h.layout ∙ sym stays.0;
        values = h.values ∙ sym stays.1;
        count = h.count ∙ sym stays.2;
        code = λ p recovering. by p recovering (site_or_not more repair changed e p recovering);
      }
    where
      by : (p : ℕ) (recovering : Bool) → SiteOrNot more repair changed p recovering → IsPut (repair ∷ set) p recovering (code_at changed p recovering) (code_at less p recovering)
      by p recovering (inl (same, mode, is)) =
          subst (λ (code : List Instr). IsPut (repair ∷ set) p recovering code (code_at less p recovering)) (sym is)
          (alone_there p recovering (code_at more p recovering) (code_at less p recovering) same mode (within p recovering same mode more (longer p recovering object set more put))
          (stays_at p recovering same mode more put) (h.code p recovering))
      by p recovering (inr (apart, is)) =
          subst (λ (code : List Instr). IsPut (repair ∷ set) p recovering code (code_at less p recovering)) (sym is)
          (as_it_was repair set p recovering (code_at more p recovering) (code_at less p recovering) (h.code p recovering))

  -- ---- it is put into both

  both_there : (p : ℕ) (recovering : Bool) (more less : List Instr) → p ≡ repair.site.processor → recovering ≡ repair.site.recovering → n ≤ length more → n ≤ length less
      → IsPut set p recovering more less → IsPut (repair ∷ set) p recovering (with_it more) (with_it less)
  both_there p recovering more less same mode long far h = record {
    back = wider n h.back;
    added = inserted_both repair.site.place n repair.instr h.back more less h.added (h.same n (first_from p recovering same mode)) directly orders long far;
    same = λ m from. same_wider m n h.back (from repair (first_there repair set) (sym same) (sym mode)) (h.same n (first_from p recovering same mode));
  }

  module _ (more less changed other : Object) (part : List Repair) (put : with_all set object ≡ Some more) (partly : with_all part object ≡ Some less) (e : repaired more repair ≡ Some changed)
      (f : repaired less repair ≡ Some other) (h : ArePut set more less) where
    both_by : (p : ℕ) (recovering : Bool) → SiteOrNot more repair changed p recovering → SiteOrNot less repair other p recovering
        → IsPut (repair ∷ set) p recovering (code_at changed p recovering) (code_at other p recovering)
    both_by p recovering (inl (same, mode, is)) (inl (again, too, was)) =
        subst (λ (code : List Instr). IsPut (repair ∷ set) p recovering code (code_at other p recovering)) (sym is) (
        subst (λ (code : List Instr). IsPut (repair ∷ set) p recovering (with_it (code_at more p recovering)) code) (sym was)
        (both_there p recovering (code_at more p recovering) (code_at less p recovering) same mode (within p recovering same mode more (longer p recovering object set more put))
        (within p recovering same mode less (longer p recovering object part less partly)) (h.code p recovering)))
    both_by p recovering (inl (same, mode, is)) (inr (inl apart, was)) = absurd (apart same)
    both_by p recovering (inl (same, mode, is)) (inr (inr apart, was)) = absurd (apart mode)
    both_by p recovering (inr (inl apart, is)) (inl (same, mode, was)) = absurd (apart same)
    both_by p recovering (inr (inr apart, is)) (inl (same, mode, was)) = absurd (apart mode)
    both_by p recovering (inr (apart, is)) (inr (away, was)) =
        subst (λ (code : List Instr). IsPut (repair ∷ set) p recovering code (code_at other p recovering)) (sym is) (
        subst (λ (code : List Instr). IsPut (repair ∷ set) p recovering (code_at more p recovering) code) (sym was)
        (as_it_was repair set p recovering (code_at more p recovering) (code_at less p recovering) (h.code p recovering)))

    both : ArePut (repair ∷ set) changed other
    both =
        let stays = rest more repair changed e in
        let too = rest less repair other f in
        record {
          layout = too.0 ∙ (h.layout ∙ sym stays.0);
          values = too.1 ∙ (h.values ∙ sym stays.1);
          count = too.2 ∙ (h.count ∙ sym stays.2);
          code = λ p recovering. both_by p recovering (site_or_not more repair changed e p recovering) (site_or_not less repair other f p recovering);
        }

-- ---- any set

are_put : (object : Object) (more less : List Repair) (changed other : Object) → IsSet object more → IsWithin more less → with_all more object ≡ Some changed → with_all less object ≡ Some other
    → ArePut more changed other
are_put object [] less changed other set is e f =
    let same : changed ≡ object = same_object object changed e in
    let too : other ≡ object = same_object object other (sym (ap (λ (set : List Repair). with_all set object) is) ∙ f) in
    subst (λ (o : Object). ArePut [] o other) (sym same) (subst (λ (o : Object). ArePut [] object o) (sym too) (none_put object))
are_put object (repair ∷ more) less changed other set (inl (part, is, within)) e f =
    let first = put_first object repair more changed e in
    let second = put_first object repair part other (sym (ap (λ (set : List Repair). with_all set object) is) ∙ f) in
    both object repair more set first.into second.into changed other part first.put second.put first.is second.is
    (are_put object more part first.into second.into (rest_is_set object repair more set) within first.put second.put)
are_put object (repair ∷ more) less changed other set (inr (gone, within)) e f =
    let first = put_first object repair more changed e in
    alone object repair more set first.into other changed first.put first.is (are_put object more less first.into other (rest_is_set object repair more set) within first.put f)

pub part_added : (object : Object) (more less : List Repair) (changed other : Object) → IsSet object more → IsWithin more less → with_all more object ≡ Some changed → with_all less object ≡ Some other
    → AreAdded changed other
part_added object more less changed other set within e f =
    let h = are_put object more less changed other set within e f in
    added_by_code changed other h.layout h.values h.count (λ p recovering.
    let code = h.code p recovering in
    has_added (Leads code.back) may_be_nop code.back (code_at changed p recovering) (code_at other p recovering) (λ target new leads. inl leads) code.added)

-- ---- what is asked

pub part_breaks : (question : Question) (object : Object) (more less : List Repair) (changed other : Object) → IsSet object more → IsWithin more less → with_all more object ≡ Some changed
    → with_all less object ≡ Some other → IsBrokenBy question changed → IsBrokenBy question other
part_breaks question object [] less changed other set is e f broken =
    let same : changed ≡ object = same_object object changed e in
    let too : other ≡ object = same_object object other (sym (ap (λ (set : List Repair). with_all set object) is) ∙ f) in
    subst (λ (o : Object). IsBrokenBy question o) (same ∙ sym too) broken
part_breaks question object (repair ∷ more) less changed other set within e f broken =
    let first = put_first object repair more changed e in
    broken_too changed other (loads first.into repair changed first.is) (part_added object (repair ∷ more) less changed other set within e f) question broken

pub part_holds : (question : Question) (object : Object) (more less : List Repair) (changed other : Object) → IsSet object more → IsWithin more less → with_all more object ≡ Some changed
    → with_all less object ≡ Some other → IsKeptBy question other → IsKeptBy question changed
part_holds question object [] less changed other set is e f kept =
    let same : changed ≡ object = same_object object changed e in
    let too : other ≡ object = same_object object other (sym (ap (λ (set : List Repair). with_all set object) is) ∙ f) in
    subst (λ (o : Object). IsKeptBy question o) (too ∙ sym same) kept
part_holds question object (repair ∷ more) less changed other set within e f kept =
    let first = put_first object repair more changed e in
    kept_too changed other (loads first.into repair changed first.is) (part_added object (repair ∷ more) less changed other set within e f) question kept
