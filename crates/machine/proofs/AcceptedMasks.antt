-- Which steps of each kind a state accepts, one bit a step: the places of a store buffer whose entries may leave and find room, the processors, the lines.
use Rattle.std.proofs.Common.{◌≡◌, ◌≢◌, ℕ, ◌*◌, ◌%◌, ◌^◌, ◌<◌, ◌≤◌, Bool, true, false, cond, List, length, get_or, map, Result, Ok, Err, Option, Some, None, refl, sym, ◌∙◌, ap, arith, inl, inr}
use Rattle.std.specs.Prelude.{bit_and, count_by, is_err, is_ok, min, nat_le, nat_lt, remove, slice_get, ◌&&◌, ◌==◌, if◌then◌else◌}
use Rattle.std.specs.List.{range_with_len}
use Rattle.std.specs.Option.{option_map_or}
use Rattle.std.specs.Int.{bit_at, bit_not, trailing_zeros, w128}
use Rattle.std.proofs.lemmas.Bool.{cases_Bool, eqb-true}
use Rattle.std.proofs.lemmas.Bool.Decides.{nat_tests}
use Rattle.std.proofs.lemmas.List.Sums.{count_by-le-length}
use Rattle.std.proofs.lemmas.List.FromFn.{get_or-map-range_with_len, length-map-range_with_len}
use Rattle.std.proofs.lemmas.Nat.{and_le_l}
use Rattle.std.proofs.lemmas.Nat.Bits.{bit_at-zero, bit_at-trailing_zeros, bit_at_above, bit_at_clear_same, bit_at_clear_other, same_from_bits}
use Rattle.std.proofs.lemmas.Option.{slice_get_read, slice_get_within}
use Rattle.std.proofs.lemmas.Simd.{mask_l-lt, bit_mask_l}
use Rattle.outcomes.specs.Outcomes.{◌>>=◌, refuse, refused_as, tested}
use Rattle.lines_layout.specs.Lines.{line_of}
use Rattle.store_buffer.specs.declared.entry.Entry.{Entry}
use Rattle.store_buffer.specs.declared.entry.Entry.TheVariants.{Write, Flush, FlushOpt, Sfence}
use Rattle.store_buffer.specs.declared.fault.BufferFault.{BufferFault}
use Rattle.store_buffer.specs.Buffers.{buffer_room, is_free, free_places, holder_of, leaving_entry}
use Rattle.persist_buffer.specs.declared.fault.PendingFault.{PendingFault}
use Rattle.persist_buffer.specs.State.{Memory}
use Rattle.persist_buffer.specs.Limits.{line_room, marker_room}
use Rattle.persist_buffer.specs.Memories.{is_marker, is_write_on, persist_of}
use Rattle.machine.specs.declared.refusal.Refusal.{Refusal}
use Rattle.machine.specs.declared.refusal.Refusal.TheVariants.{Spent}
use Rattle.machine.specs.declared.step.Step.{Step}
use Rattle.machine.specs.declared.step.Step.TheVariants.{Drain, Exec, Persist}
use Rattle.machine.specs.Accepted.{accepts, drainable_of, mask_below}
use Rattle.machine.specs.Limits.{max_turns}
use Rattle.machine.specs.Refusals.{of_pending}
use Rattle.machine.specs.State.{Processor, State}
use Rattle.machine.specs.Processors.{drain_of, receive_of, run_by}

-- ---- the bits of a mask

module _ (n : ℕ) (test : ℕ → Bool) where
  tests_len : length (map test (range_with_len 0 n)) ≡ n
  tests_len = length-map-range_with_len test 0 n

  pub bit_below : (i : ℕ) → i < n → bit_at (mask_below n test) i ≡ cond (test i) 1 0
  bit_below i low = bit_mask_l (map test (range_with_len 0 n)) i ∙ ap (λ b. cond b 1 0) (get_or-map-range_with_len test 0 n i i false low (omega arith))

  pub fits : mask_below n test < 2 ^ n
  fits = rw tests_len at (mask_l-lt (map test (range_with_len 0 n)))

  pub bit_past : (i : ℕ) → n ≤ i → bit_at (mask_below n test) i ≡ 0
  bit_past i high = bit_at_above (mask_below n test) n i fits high

  pub bit_is : (i : ℕ) → bit_at (mask_below n test) i ≡ cond (nat_lt i n && test i) 1 0
  bit_is i =
      elim (cases_Bool (nat_lt i n)) [
        | inl low ↦ rw low (bit_below i (grind (arith, nat_tests, low)))
        | inr high ↦ rw high (bit_past i (grind (arith, nat_tests, high)))
      ]

-- ---- outcomes that are accepted

tested_same : {A E : Type 0} (r : Result A E) → is_ok (tested r) ≡ is_ok r
tested_same (Ok a) = refl
tested_same (Err refusal) = refl

kept : {A B E : Type 0} (r : Result A E) (f : A → B) → is_ok {T = B} {E = E} (r >>= λ a. Ok (f a)) ≡ is_ok r
kept (Ok a) f = refl
kept (Err refusal) f = refl

kept_as : {A E F : Type 0} (f : E → F) (r : Result A E) → is_ok (refused_as f r) ≡ is_ok r
kept_as f (Ok a) = refl
kept_as f (Err refusal) = refl

-- ---- what of each place is told

-- the bits but for one
abbrev pub but : ℕ → ℕ → ℕ
but bits place = bit_and bits (bit_not w128 (1 * 2 ^ place % 2 ^ buffer_room))

-- a mask has the places below n that pass a test, but for those that are left, which it has all
abbrev pub AreTested : ℕ → (ℕ → Bool) → ℕ → ℕ → Type 0
AreTested n test left mask = (i : ℕ) → i < buffer_room → bit_at mask i ≡ (if bit_at left i == 0 then cond (nat_lt i n && test i) 1 0 else 1)

-- the places that are left are free
abbrev pub AreFree : List Entry → ℕ → Type 0
AreFree buffer left = (i : ℕ) → i < buffer_room → bit_at left i ≡ 1 → is_free buffer i ≡ true

module _ (left : ℕ) (some : left ≢ 0) (fits_left : left < 2 ^ buffer_room) where
  abbrev pub first_place : ℕ
  first_place = trailing_zeros w128 left

  pub lowest : (first_place < buffer_room) × (bit_at left first_place ≡ 1)
  lowest = let is = bit_at-trailing_zeros w128 left (omega arith) fits_left in (is.0, is.1)

  pub fewer : but left first_place < left
  fewer =
      let at_most = and_le_l left (bit_not w128 (1 * 2 ^ first_place % 2 ^ buffer_room)) in
      let cleared = bit_at_clear_same w128 left first_place lowest.0 in
      let other : but left first_place ≢ left = λ same. let bit : bit_at left first_place ≡ 0 = rw same at cleared in omega (arith, bit, lowest.1) in
      omega (arith, at_most, other)

  pub fewer_free : (buffer : List Entry) → AreFree buffer left → AreFree buffer (but left first_place)
  fewer_free buffer free i inside here =
      elim (cases_Bool (i == first_place)) [
        | inl at ↦
            let same : i ≡ first_place = eqb-true i first_place at in
            let none : bit_at (but left first_place) i ≡ 0 = rw same (bit_at_clear_same w128 left first_place lowest.0) in
            absurd (omega (arith, none, here))
        | inr elsewhere ↦
            let apart : i ≢ first_place = grind (arith, nat_tests, elsewhere) in
            free i inside (sym (bit_at_clear_other w128 left first_place lowest.0 i inside apart) ∙ here)
      ]

  module _ (n : ℕ) (test : ℕ → Bool) (mask : ℕ) (tested : AreTested n test left mask) (within : first_place < n) where
    pub one_stays : test first_place ≡ true → AreTested n test (but left first_place) mask
    one_stays passes i inside =
        elim (cases_Bool (i == first_place)) [
          | inl at ↦
              let same : i ≡ first_place = eqb-true i first_place at in
              let was : bit_at mask first_place ≡ 1 = rw lowest.1 at (tested first_place lowest.0) in
              let low : nat_lt first_place n ≡ true = grind (arith, nat_tests, within) in
              rw (same, bit_at_clear_same w128 left first_place lowest.0, low, passes) was
          | inr elsewhere ↦
              let apart : i ≢ first_place = grind (arith, nat_tests, elsewhere) in
              rw (bit_at_clear_other w128 left first_place lowest.0 i inside apart) (tested i inside)
        ]

    pub one_goes : test first_place ≡ false → AreTested n test (but left first_place) (but mask first_place)
    one_goes fails i inside =
        elim (cases_Bool (i == first_place)) [
          | inl at ↦
              let same : i ≡ first_place = eqb-true i first_place at in
              let low : nat_lt first_place n ≡ true = grind (arith, nat_tests, within) in
              rw (same, bit_at_clear_same w128 left first_place lowest.0, low, fails) (bit_at_clear_same w128 mask first_place lowest.0)
          | inr elsewhere ↦
              let apart : i ≢ first_place = grind (arith, nat_tests, elsewhere) in
              rw (bit_at_clear_other w128 left first_place lowest.0 i inside apart, bit_at_clear_other w128 mask first_place lowest.0 i inside apart) (tested i inside)
        ]

pub all_tested : (n : ℕ) (test : ℕ → Bool) (left mask : ℕ) → n ≤ buffer_room → mask < 2 ^ buffer_room → AreTested n test left mask → left ≡ 0 → mask ≡ mask_below n test
all_tested n test left mask few low told none =
    same_from_bits mask (mask_below n test)
    (λ i.
    elim (cases_Bool (nat_lt i buffer_room)) [
      | inl inside ↦
          let told_here : bit_at mask i ≡ cond (nat_lt i n && test i) 1 0 = rw (none, bit_at-zero i) at (told i (grind (arith, nat_tests, inside))) in
          told_here ∙ sym (bit_is n test i)
      | inr past ↦
          let high : buffer_room ≤ i = grind (arith, nat_tests, past) in
          bit_at_above mask buffer_room i low high ∙ sym (bit_past n test i (omega (arith, few, high)))
    ])

-- ---- an entry leaves and finds room

module _ (c : Processor) (m : Memory) (i : ℕ) where
  received : (entry : Entry) (memory : Result Memory PendingFault)
      → is_ok {T = Entry × (Processor × Memory)} {E = Refusal} (refused_as of_pending memory >>= λ after. Ok (entry, (record c { buffer = remove c.buffer i }, after))) ≡ is_ok memory
  received entry (Ok after) = refl
  received entry (Err fault) = refl

  pub drains_with_room : (entry : Entry) → leaving_entry c.buffer i ≡ Ok entry → is_ok (drain_of c m i) ≡ is_ok (receive_of m entry)
  drains_with_room entry leaves = rw leaves (received entry (receive_of m entry))

  held_by_fault : (left : Result Entry BufferFault) → leaving_entry c.buffer i ≡ left → is_ok left ≡ false → is_ok (drain_of c m i) ≡ false
  held_by_fault (Ok entry) is none = absurd (cc)
  held_by_fault (Err fault) is none = rw is refl

  pub held_stays : is_free c.buffer i ≡ false → is_ok (drain_of c m i) ≡ false
  held_stays none = held_by_fault (leaving_entry c.buffer i) refl none

  -- an entry that is free is there, and what is left of its Drain is whether the memory has room for it
  pub free_there : is_free c.buffer i ≡ true → i < length c.buffer
  free_there free = found (slice_get c.buffer i) refl free
    where
      found : (there : Option Entry) → slice_get c.buffer i ≡ there → is_free c.buffer i ≡ true → i < length c.buffer
      found None at free = absurd (let no : is_free c.buffer i ≡ false = rw at refl in cc (no, free))
      found (Some entry) at free = slice_get_within c.buffer i entry at

  pub free_drains : (entry : Entry) → is_free c.buffer i ≡ true → slice_get c.buffer i ≡ Some entry → is_ok (drain_of c m i) ≡ is_ok (receive_of m entry)
  free_drains entry free at = drains_with_room entry (left (holder_of c.buffer i entry) refl)
    where
      left : (holder : Option ℕ) → holder_of c.buffer i entry ≡ holder → leaving_entry c.buffer i ≡ Ok entry
      left None is = rw (at, is) refl
      left (Some holder) is = absurd (let no : is_free c.buffer i ≡ false = rw (at, is) refl in cc (no, free))

-- ---- the first and the last word on it

module _ (c : Processor) (m : Memory) (free : ℕ) (is : free ≡ free_places c.buffer) where
  abbrev drains : ℕ → Bool
  drains i = is_ok (drain_of c m i)

  abbrev bit : Bool → ℕ
  bit b = cond b 1 0

  free_bit : (i : ℕ) → bit_at free i ≡ bit (nat_lt i (length c.buffer) && is_free c.buffer i)
  free_bit i = ap (λ n. bit_at n i) is ∙ bit_is (length c.buffer) (is_free c.buffer) i

  held : (i : ℕ) (low : Bool) → (low && is_free c.buffer i) ≡ false → (low && drains i) ≡ false
  held i true none = held_stays c m i none
  held i false none = refl

  never : (low : Bool) → bit (low && false) ≡ 0
  never true = refl
  never false = refl

  pub begins : AreTested (length c.buffer) drains free free × AreFree c.buffer free
  begins = (
    λ i inside.
        elim (cases_Bool (nat_lt i (length c.buffer) && is_free c.buffer i)) [
          | inl passes ↦ let one : bit_at free i ≡ 1 = free_bit i ∙ ap bit passes in rw one refl
          | inr fails ↦ let zero : bit_at free i ≡ 0 = free_bit i ∙ ap bit fails in rw (zero, held i (nat_lt i (length c.buffer)) fails) refl
        ],
    λ i inside one.
        elim (cases_Bool (is_free c.buffer i)) [
          | inl passes ↦ passes
          | inr fails ↦ absurd (let zero : bit_at free i ≡ 0 = free_bit i ∙ (ap (λ b. bit (nat_lt i (length c.buffer) && b)) fails ∙ never (nat_lt i (length c.buffer))) in omega (arith, zero, one))
        ],
  )

-- ---- the first place that is left

module _ (c : Processor) (m : Memory) (entries : List Entry) (same : entries ≡ c.buffer) (left : ℕ) (some : left ≢ 0) (fits_left : left < 2 ^ buffer_room) (free : AreFree c.buffer left) where
  first_free : is_free c.buffer (trailing_zeros w128 left) ≡ true
  first_free = let is = lowest left some fits_left in free (trailing_zeros w128 left) is.0 is.1

  pub first_there : trailing_zeros w128 left < length entries
  first_there = rw same (free_there c m (trailing_zeros w128 left) first_free)

  pub first_drains : (entry : Entry) (room : Result (Unit {0}) PendingFault) → entry ≡ get_or entries (trailing_zeros w128 left) entry → room ≡ tested (receive_of m entry)
      → is_ok (drain_of c m (trailing_zeros w128 left)) ≡ is_ok room
  first_drains entry room at is =
      let here : slice_get entries (trailing_zeros w128 left) ≡ Some entry = slice_get_read entries (length entries) (trailing_zeros w128 left) entry refl first_there at in
      free_drains c m (trailing_zeros w128 left) entry first_free (rw same at here) ∙ (sym (tested_same (receive_of m entry)) ∙ ap is_ok (sym is))

-- ---- where so little is pending that any entry finds room

pub same_tests : (n : ℕ) (one other : ℕ → Bool) → ((i : ℕ) → one i ≡ other i) → mask_below n one ≡ mask_below n other
same_tests n one other same = ap (mask_below n) (λ j i. same i j)

module _ (c : Processor) (m : Memory) (few : length m.pending < min line_room marker_room) where
  no_line_full : (line : ℕ) → nat_le line_room (count_by (is_write_on line) m.pending) ≡ false
  no_line_full line = let most = count_by-le-length (is_write_on line) m.pending in grind (arith, nat_tests, most, few)

  markers_not_full : nat_le marker_room (count_by is_marker m.pending) ≡ false
  markers_not_full = let most = count_by-le-length is_marker m.pending in grind (arith, nat_tests, most, few)

  any_is_received : (entry : Entry) → is_ok (receive_of m entry) ≡ true
  any_is_received (Write word value) = rw (no_line_full (line_of word)) refl
  any_is_received (Flush line) = rw markers_not_full refl
  any_is_received (FlushOpt line) = rw markers_not_full refl
  any_is_received Sfence = refl

  free_or_held : (i : ℕ) (free : Bool) (there : Option Entry) → is_free c.buffer i ≡ free → slice_get c.buffer i ≡ there → is_free c.buffer i ≡ is_ok (drain_of c m i)
  free_or_held i false there is at = is ∙ sym (held_stays c m i is)
  free_or_held i true None is at = absurd (let no : is_free c.buffer i ≡ false = rw at refl in cc (no, is))
  free_or_held i true (Some entry) is at = is ∙ sym (free_drains c m i entry is at ∙ any_is_received entry)

  pub free_drain : free_places c.buffer ≡ mask_below (length c.buffer) (λ i. is_ok (drain_of c m i))
  free_drain = same_tests (length c.buffer) (is_free c.buffer) (λ i. is_ok (drain_of c m i)) (λ i. free_or_held i (is_free c.buffer i) (slice_get c.buffer i) refl refl)

-- ---- the same of a state

none_pass : (n : ℕ) → 0 ≡ mask_below n (λ i. false)
none_pass n = same_from_bits 0 (mask_below n (λ i. false)) (λ i. bit_at-zero i ∙ sym (bit_is n (λ k. false) i ∙ low (nat_lt i n)))
  where
    low : (b : Bool) → cond {A = ℕ} (b && false) 1 0 ≡ 0
    low true = refl
    low false = refl

module _ (s : State) (left : Result (Unit {0}) Refusal) (is : left ≡ refuse Spent (nat_le max_turns s.turns)) where
  spent : (q : Result (Unit {0}) Refusal) → refuse Spent (nat_le max_turns s.turns) ≡ q → is_err q ≡ true → (step : Step) → accepts s step ≡ false
  spent (Ok go) same over step = absurd (cc)
  spent (Err refusal) same over step = rw same refl

  -- no step is accepted where no turn is left
  pub none_accepted : (n : ℕ) (step_numbered : ℕ → Step) → is_err left ≡ true → 0 ≡ mask_below n (λ i. accepts s (step_numbered i))
  none_accepted n step_numbered over = none_pass n ∙ same_tests n (λ i. false) (λ i. accepts s (step_numbered i)) (λ i. sym (spent left (sym is) over (step_numbered i)))

  module _ (p : ℕ) (c : Processor) (at : slice_get s.processors p ≡ Some c) where
    execs : (q : Result (Unit {0}) Refusal) → refuse Spent (nat_le max_turns s.turns) ≡ q → is_err q ≡ false → accepts s (Exec p) ≡ is_ok (run_by s.shape c s.memory)
    execs (Ok go) same more = rw (same, at) (kept _ _ ∙ (kept _ _ ∙ kept _ _))
    execs (Err refusal) same more = absurd (cc)

    pub exec_accepted : is_err left ≡ false → accepts s (Exec p) ≡ is_ok (tested (run_by s.shape c s.memory))
    exec_accepted more = execs left (sym is) more ∙ sym (tested_same (run_by s.shape c s.memory))

    there : drainable_of s p ≡ mask_below (length c.buffer) (λ i. accepts s (Drain p i))
    there = ap (λ o. option_map_or (λ (cpu : Processor). mask_below (length cpu.buffer) (λ i. accepts s (Drain p i))) o 0) at

    pub none_drained : is_err left ≡ true → 0 ≡ drainable_of s p
    none_drained over = none_accepted (length c.buffer) (Drain p) over ∙ sym there

    going : (q : Result (Unit {0}) Refusal) → refuse Spent (nat_le max_turns s.turns) ≡ q → is_err q ≡ false → (i : ℕ) → accepts s (Drain p i) ≡ is_ok (drain_of c s.memory i)
    going (Ok go) same more i = rw (same, at) (kept _ _ ∙ (kept _ _ ∙ kept _ _))
    going (Err refusal) same more i = absurd (cc)

    pub some_drained : (mask : ℕ) → is_err left ≡ false → mask ≡ mask_below (length c.buffer) (λ i. is_ok (drain_of c s.memory i)) → mask ≡ drainable_of s p
    some_drained mask more made = made ∙ (same_tests (length c.buffer) (λ i. is_ok (drain_of c s.memory i)) (λ i. accepts s (Drain p i)) (λ i. sym (going left (sym is) more i)) ∙ sym there)

  persists : (q : Result (Unit {0}) Refusal) → refuse Spent (nat_le max_turns s.turns) ≡ q → is_err q ≡ false → (line : ℕ) → accepts s (Persist line) ≡ is_ok (persist_of s.shape s.memory line)
  persists (Ok go) same more line = rw same (kept _ _ ∙ (kept _ _ ∙ kept_as of_pending (persist_of s.shape s.memory line)))
  persists (Err refusal) same more line = absurd (cc)

  pub persist_accepted : is_err left ≡ false → (line : ℕ) → accepts s (Persist line) ≡ is_ok (tested (persist_of s.shape s.memory line))
  persist_accepted more line = persists left (sym is) more line ∙ sym (tested_same (persist_of s.shape s.memory line))
