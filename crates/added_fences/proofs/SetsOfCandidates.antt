-- Candidates of a program, in the order in which they are listed, are sets.
use Rattle.std.proofs.Common.{◌≡◌, ℕ, zero, suc, ◌+◌, ◌<◌, ◌≤◌, ◌⊎◌, Bool, true, false, true≢false, Option, Some, List, [], ◌∷◌, ◌++◌, length, map, refl, sym, ap, subst, ◌∙◌, arith, inl, inr}
use Rattle.std.specs.Prelude.{Contains, if◌then◌else◌, slice_get}
use Rattle.std.specs.List.{enumerate_from, flat_map}
use Rattle.std.specs.Option.{option_map_or}
use Rattle.std.proofs.lemmas.List.Elements.{Contains-append_cases}
use Rattle.isa.specs.declared.instr.Access.{Access}
use Rattle.isa.specs.declared.instr.Access.TheVariants.{Flush, Load, Locked, Store}
use Rattle.isa.specs.declared.instr.FlushKind.{FlushKind}
use Rattle.isa.specs.declared.instr.FlushKind.TheVariants.{Clflush, Clwb}
use Rattle.isa.specs.declared.instr.FenceKind.TheVariants.{Mfence, Sfence}
use Rattle.isa.specs.declared.instr.Instr.{Instr}
use Rattle.isa.specs.declared.instr.Instr.TheVariants as instrs
use Rattle.isa.specs.declared.instr.Instr.TheVariants.{Fence, Memory}
use Rattle.isa.specs.declared.instr.MemoryOperand.{MemoryOperand}
use Rattle.isa.specs.declared.programs.Programs.{Programs}
use Rattle.isa.specs.Objects.{Object}
use Rattle.image_reasons.specs.declared.entries.Site.{Site}
use Rattle.image_reasons.specs.declared.repair.Repair.{Repair}
use Rattle.image_reasons.specs.declared.repair.Side.TheVariants.{Behind}
use Rattle.image_reasons.specs.PutIn.{IsThere, code_there}
use Rattle.image_reasons.specs.Repairs.{code_of}
use Rattle.candidates.specs.Candidates.{behind_instr, candidates_at, candidates_by, candidates_in, candidates_of, fences, flushes_behind, flushes_of, operand_kept, put_behind}
use Rattle.fewer_fences.specs.Thinner.{Thins, may_be_nop}
use Rattle.added_fences.specs.Sets.{AreInOrder, FlushesItsSite, IsCandidate, IsNoLater, IsSet, IsWithin, MayBePutIn}
use Rattle.added_fences.proofs.SetsPutIn.{first_there, later_there}

-- ---- lists

abbrev Any : Repair → Bool
Any repair = true

module _ {X : Type 0} where
  first_or_later : (x : X) (xs : List X) (q : X) → Contains (x ∷ xs) q → (q ≡ x) ⊎ Contains xs q
  first_or_later x xs q (zero, within, e) = inl (sym e)
  first_or_later x xs q (suc k, within, e) = inr (k, omega (arith, within), e)

  none_there : (q : X) → Contains [] q → ⊥
  none_there q (k, within, e) = omega (arith, within)

  here_at : (x : X) (xs : List X) (q : X) → q ≡ x → Contains (x ∷ xs) q
  here_at x xs q same = (0, omega arith, sym same)

  further_on : (x : X) (xs : List X) (q : X) → Contains xs q → Contains (x ∷ xs) q
  further_on x xs q (k, within, e) = (suc k, omega (arith, within), e)

in_order_if : (xs : List Repair) → ((x y : Repair) → Contains xs x → Contains xs y → IsNoLater x y) → AreInOrder xs
in_order_if [] all = tt
in_order_if (x ∷ xs) all =
    (λ y c. all x y (first_there x xs) (later_there x xs y c), in_order_if xs (λ y z c d. all y z (later_there x xs y c) (later_there x xs z d)))

in_order_joined : (xs ys : List Repair) → AreInOrder xs → AreInOrder ys → ((x y : Repair) → Contains xs x → Contains ys y → IsNoLater x y) → AreInOrder (xs ++ ys)
in_order_joined [] ys first last between = last
in_order_joined (x ∷ xs) ys first last between = (
  λ y c. elim (Contains-append_cases xs ys y c) [
    | inl here ↦ first.0 y here
    | inr there ↦ between x y (first_there x xs) there
  ],
  in_order_joined xs ys first.1 last (λ y z c d. between y z (later_there x xs y c) d),
)

within_there : (more less : List Repair) (q : Repair) → Thins Any more less → Contains less q → Contains more q
within_there [] less q is c = subst (λ (xs : List Repair). Contains xs q) is c
within_there (x ∷ more) less q (inl (rest, is, h)) c = elim (first_or_later x rest q (subst (λ (xs : List Repair). Contains xs q) is c)) [
  | inl same ↦ subst (λ (y : Repair). Contains (x ∷ more) y) (sym same) (first_there x more)
  | inr later ↦ later_there x more q (within_there more rest q h later)
]
within_there (x ∷ more) less q (inr (gone, h)) c = later_there x more q (within_there more less q h c)

within_order : (more less : List Repair) → Thins Any more less → AreInOrder more → AreInOrder less
within_order [] less is order = subst (λ (xs : List Repair). AreInOrder xs) (sym is) tt
within_order (x ∷ more) less (inl (rest, is, h)) order =
    subst (λ (xs : List Repair). AreInOrder xs) (sym is) (λ y c. order.0 y (within_there more rest y h c), within_order more rest h order.1)
within_order (x ∷ more) less (inr (gone, h)) order = within_order more less h order.1

-- ---- behind an instruction

at_site : (site : Site) (some : List Instr) (q : Repair) → Contains (map (put_behind site) some) q → (q.side ≡ Behind) × (q.site ≡ site) × Contains some q.instr
at_site site [] q c = absurd (none_there q c)
at_site site (instr ∷ some) q c = elim (first_or_later (put_behind site instr) (map (put_behind site) some) q c) [
  | inl same ↦ (ap (λ (x : Repair). x.side) same, ap (λ (x : Repair). x.site) same, here_at instr some q.instr (ap (λ (x : Repair). x.instr) same))
  | inr later ↦ let at = at_site site some q later in (at.0, at.1, further_on instr some q.instr at.2)
]

-- a flush of what an instruction accesses
record FlushesIt (instr x : Instr) : Type 0 where
  kind : FlushKind
  operand : MemoryOperand
  is : x ≡ Memory (Flush kind) operand
  access : Access
  accesses : instr ≡ Memory access operand
  kept : operand_kept access operand ≡ true

flush_it : (access : Access) (operand : MemoryOperand) (x : Instr) → operand_kept access operand ≡ true → Contains (flushes_of operand) x → FlushesIt (Memory access operand) x
flush_it access operand x kept c = elim (first_or_later (Memory (Flush Clwb) operand) (Memory (Flush Clflush) operand ∷ []) x c) [
  | inl is ↦ record { kind = Clwb; operand = operand; is = is; access = access; accesses = refl; kept = kept }
  | inr later ↦ elim (first_or_later (Memory (Flush Clflush) operand) [] x later) [
    | inl is ↦ record { kind = Clflush; operand = operand; is = is; access = access; accesses = refl; kept = kept }
    | inr none ↦ absurd (none_there x none)
  ]
]

flush_if : (access : Access) (operand : MemoryOperand) (x : Instr) (kept : Bool) → operand_kept access operand ≡ kept → Contains (if kept then flushes_of operand else []) x
    → FlushesIt (Memory access operand) x
flush_if access operand x true is c = flush_it access operand x is c
flush_if access operand x false is c = absurd (none_there x c)

flush_behind : (access : Access) (operand : MemoryOperand) (x : Instr) → Contains (flushes_behind access operand) x → FlushesIt (Memory access operand) x
flush_behind (Load r) operand x c = flush_if (Load r) operand x (operand_kept (Load r) operand) refl c
flush_behind (Store source) operand x c = flush_if (Store source) operand x (operand_kept (Store source) operand) refl c
flush_behind (Locked operation own) operand x c = flush_if (Locked operation own) operand x (operand_kept (Locked operation own) operand) refl c
flush_behind (Flush kind) operand x c = absurd (none_there x c)

is_fence : (x : Instr) → Contains fences x → may_be_nop x ≡ true
is_fence x c = elim (first_or_later (Fence Sfence) (Fence Mfence ∷ []) x c) [
  | inl is ↦ ap may_be_nop is
  | inr later ↦ elim (first_or_later (Fence Mfence) [] x later) [
    | inl is ↦ ap may_be_nop is
    | inr none ↦ absurd (none_there x none)
  ]
]

-- what may be put in behind an instruction is a fence, or flushes what that accesses
may_behind : (instr x : Instr) → Contains (behind_instr instr) x → (may_be_nop x ≡ true) ⊎ FlushesIt instr x
may_behind (Memory access operand) x c = elim (Contains-append_cases (flushes_behind access operand) fences x c) [
  | inl flush ↦ inr (flush_behind access operand x flush)
  | inr fence ↦ inl (is_fence x fence)
]
may_behind (instrs.Set r source) x c = absurd (none_there x c)
may_behind (instrs.Compute operation r n) x c = absurd (none_there x c)
may_behind (instrs.Jump kind target) x c = absurd (none_there x c)
may_behind instrs.Nop x c = absurd (none_there x c)
may_behind (Fence kind) x c = absurd (none_there x c)

-- ---- in a program

module _ (p : ℕ) (recovering : Bool) where
  abbrev here : ℕ → Site
  here place = record { processor = p; recovering = recovering; place = place }

  abbrev from : ℕ → List Instr → List Repair
  from k code = flat_map (λ (e : ℕ × Instr). candidates_at (here e.0) e.1) (enumerate_from k code)

  -- where a candidate is
  record IsFrom (k : ℕ) (code : List Instr) (q : Repair) : Type 0 where
    side : q.side ≡ Behind
    processor : q.site.processor ≡ p
    mode : q.site.recovering ≡ recovering
    first : k ≤ q.site.place
    last : q.site.place < k + length code
    -- the instruction that it is to stand behind
    i : ℕ
    place : q.site.place ≡ k + i
    instr : Instr
    at : slice_get code i ≡ Some instr
    may : (may_be_nop q.instr ≡ true) ⊎ FlushesIt instr q.instr

  at_first : (k : ℕ) (instr : Instr) (code : List Instr) (q : Repair) → Contains (candidates_at (here k) instr) q → IsFrom k (instr ∷ code) q
  at_first k instr code q c =
      let at = at_site (here k) (behind_instr instr) q c in
      let place = ap (λ (s : Site). s.place) at.1 in
      record {
        side = at.0;
        processor = ap (λ (s : Site). s.processor) at.1;
        mode = ap (λ (s : Site). s.recovering) at.1;
        first = omega (arith, place);
        last = omega (arith, place);
        i = 0;
        place = omega (arith, place);
        instr = instr;
        at = refl;
        may = may_behind instr q.instr at.2;
      }

  one_further : (k : ℕ) (instr : Instr) (code : List Instr) (q : Repair) → IsFrom (k + 1) code q → IsFrom k (instr ∷ code) q
  one_further k instr code q h =
      let low = h.first in
      let high = h.last in
      let i : ℕ = h.i in
      let is : q.site.place ≡ (k + 1) + i = h.place in
      record {
        side = h.side;
        processor = h.processor;
        mode = h.mode;
        first = omega (arith, low);
        last = omega (arith, high);
        i = suc i;
        place = omega (arith, is);
        instr = h.instr;
        at = h.at;
        may = h.may;
      }

  is_from : (k : ℕ) (code : List Instr) (q : Repair) → Contains (from k code) q → IsFrom k code q
  is_from k [] q c = absurd (none_there q c)
  is_from k (instr ∷ code) q c = elim (Contains-append_cases (candidates_at (here k) instr) (from (k + 1) code) q c) [
    | inl at ↦ at_first k instr code q at
    | inr later ↦ one_further k instr code q (is_from (k + 1) code q later)
  ]

  same_site : (k : ℕ) (instr : Instr) (x y : Repair) → Contains (candidates_at (here k) instr) x → Contains (candidates_at (here k) instr) y → IsNoLater x y
  same_site k instr x y c d same mode =
      let at = ap (λ (s : Site). s.place) (at_site (here k) (behind_instr instr) x c).1 in
      let too = ap (λ (s : Site). s.place) (at_site (here k) (behind_instr instr) y d).1 in
      omega (arith, at, too)

  earlier_site : (k : ℕ) (instr : Instr) (code : List Instr) (x y : Repair) → Contains (candidates_at (here k) instr) x → Contains (from (k + 1) code) y → IsNoLater x y
  earlier_site k instr code x y c d same mode =
      let at = ap (λ (s : Site). s.place) (at_site (here k) (behind_instr instr) x c).1 in
      let far = (is_from (k + 1) code y d).first in
      omega (arith, at, far)

  from_in_order : (k : ℕ) (code : List Instr) → AreInOrder (from k code)
  from_in_order k [] = tt
  from_in_order k (instr ∷ code) =
      in_order_joined (candidates_at (here k) instr) (from (k + 1) code) (in_order_if (candidates_at (here k) instr) (same_site k instr)) (from_in_order (k + 1) code) (earlier_site k instr code)

-- ---- of a processor

record IsBy (p : ℕ) (programs : Programs) (q : Repair) : Type 0 where
  side : q.side ≡ Behind
  processor : q.site.processor ≡ p
  last : q.site.place < length (code_of q.site.recovering programs)
  instr : Instr
  at : slice_get (code_of q.site.recovering programs) q.site.place ≡ Some instr
  may : (may_be_nop q.instr ≡ true) ⊎ FlushesIt instr q.instr

by_mode : (p : ℕ) (recovering : Bool) (programs : Programs) (q : Repair) → IsFrom p recovering 0 (code_of recovering programs) q → IsBy p programs q
by_mode p recovering programs q h =
    let high = h.last in
    let same = ap (λ (b : Bool). length (code_of b programs)) h.mode in
    let i : ℕ = h.i in
    let place : q.site.place ≡ 0 + i = h.place in
    let is : q.site.place ≡ i = omega (arith, place) in
    record {
      side = h.side;
      processor = h.processor;
      last = omega (arith, high, same);
      instr = h.instr;
      at = ap (λ (b : Bool). slice_get (code_of b programs) q.site.place) h.mode ∙ (ap (slice_get (code_of recovering programs)) is ∙ h.at);
      may = h.may;
    }

is_by : (p : ℕ) (programs : Programs) (q : Repair) → Contains (candidates_by p programs) q → IsBy p programs q
is_by p programs q c = elim (Contains-append_cases (candidates_in p false programs.main) (candidates_in p true programs.recovery) q c) [
  | inl main ↦ by_mode p false programs q (is_from p false 0 programs.main q main)
  | inr recovery ↦ by_mode p true programs q (is_from p true 0 programs.recovery q recovery)
]

other_mode : (p : ℕ) (programs : Programs) (x y : Repair) → Contains (candidates_in p false programs.main) x → Contains (candidates_in p true programs.recovery) y → IsNoLater x y
other_mode p programs x y c d same mode =
    absurd (true≢false (sym (is_from p true 0 programs.recovery y d).mode ∙ (sym mode ∙ (is_from p false 0 programs.main x c).mode)))

by_in_order : (p : ℕ) (programs : Programs) → AreInOrder (candidates_by p programs)
by_in_order p programs =
    in_order_joined (candidates_in p false programs.main) (candidates_in p true programs.recovery) (from_in_order p false 0 programs.main) (from_in_order p true 0 programs.recovery)
    (other_mode p programs)

-- ---- of all processors

abbrev of_all : ℕ → List Programs → List Repair
of_all k processors = flat_map (λ (e : ℕ × Programs). candidates_by e.0 e.1) (enumerate_from k processors)

record IsOf (k : ℕ) (processors : List Programs) (q : Repair) : Type 0 where
  i : ℕ
  programs : Programs
  there : slice_get processors i ≡ Some programs
  by : IsBy (k + i) programs q

of_first : (k : ℕ) (programs : Programs) (processors : List Programs) (q : Repair) → IsBy k programs q → IsOf k (programs ∷ processors) q
of_first k programs processors q h =
    let same : k ≡ k + 0 = omega arith in record { i = 0; programs = programs; there = refl; by = subst (λ (n : ℕ). IsBy n programs q) same h }

of_later : (k : ℕ) (programs : Programs) (processors : List Programs) (q : Repair) → IsOf (k + 1) processors q → IsOf k (programs ∷ processors) q
of_later k programs processors q h =
    let i : ℕ = h.i in
    let same : (k + 1) + i ≡ k + suc i = omega arith in
    record { i = suc i; programs = h.programs; there = h.there; by = subst (λ (n : ℕ). IsBy n h.programs q) same h.by }

is_of : (k : ℕ) (processors : List Programs) (q : Repair) → Contains (of_all k processors) q → IsOf k processors q
is_of k [] q c = absurd (none_there q c)
is_of k (programs ∷ processors) q c = elim (Contains-append_cases (candidates_by k programs) (of_all (k + 1) processors) q c) [
  | inl first ↦ of_first k programs processors q (is_by k programs q first)
  | inr later ↦ of_later k programs processors q (is_of (k + 1) processors q later)
]

other_processor : (k : ℕ) (programs : Programs) (processors : List Programs) (x y : Repair) → Contains (candidates_by k programs) x → Contains (of_all (k + 1) processors) y → IsNoLater x y
other_processor k programs processors x y c d same mode =
    let one = (is_by k programs x c).processor in
    let of = is_of (k + 1) processors y d in
    let i : ℕ = of.i in
    let two : y.site.processor ≡ (k + 1) + i = of.by.processor in
    absurd (omega (arith, one, two, same))

of_in_order : (k : ℕ) (processors : List Programs) → AreInOrder (of_all k processors)
of_in_order k [] = tt
of_in_order k (programs ∷ processors) =
    in_order_joined (candidates_by k programs) (of_all (k + 1) processors) (by_in_order k programs) (of_in_order (k + 1) processors) (other_processor k programs processors)

-- ---- sets

code_is : (object : Object) (q : Repair) (h : IsOf 0 object.processors q) → code_there object q ≡ code_of q.site.recovering h.programs
code_is object q h =
    let i : ℕ = h.i in
    let from_nought : 0 + i ≡ i = omega arith in
    let at : q.site.processor ≡ i = h.by.processor ∙ from_nought in
    ap (λ (p : ℕ). option_map_or (code_of q.site.recovering) (slice_get object.processors p) []) at ∙ ap (λ (o : Option Programs). option_map_or (code_of q.site.recovering) o []) h.there

is_there : (object : Object) (q : Repair) → IsOf 0 object.processors q → IsThere object q
is_there object q h =
    let last = h.by.last in
    let same = ap (λ (code : List Instr). length code) (code_is object q h) in
    omega (arith, last, same)

may_there : (object : Object) (q : Repair) (h : IsOf 0 object.processors q) → (may_be_nop q.instr ≡ true) ⊎ FlushesIt h.by.instr q.instr → (may_be_nop q.instr ≡ true) ⊎ FlushesItsSite object q
may_there object q h (inl may) = inl may
may_there object q h (inr flush) = inr (record {
  kind = flush.kind;
  operand = flush.operand;
  is = flush.is;
  access = flush.access;
  accesses = ap (λ (code : List Instr). slice_get code q.site.place) (code_is object q h) ∙ (h.by.at ∙ ap (λ (x : Instr). Some x) flush.accesses);
  kept = flush.kept;
})

is_candidate : (object : Object) (q : Repair) → Contains (candidates_of object) q → IsCandidate object q
is_candidate object q c =
    let of = is_of 0 object.processors q c in record { may = may_there object q of of.by.may; side = of.by.side; there = is_there object q of }

pub candidates_are_sets : (object : Object) (set : List Repair) → IsWithin (candidates_of object) set → IsSet object set
candidates_are_sets object set within = record {
  each = λ repair c. is_candidate object repair (within_there (candidates_of object) set repair within c);
  order = within_order (candidates_of object) set within (of_in_order 0 object.processors);
}

pub candidate_may : (object : Object) (repair : Repair) → Contains (candidates_of object) repair → MayBePutIn object repair
candidate_may object repair c = inr (is_candidate object repair c)
