-- The places whose entries may leave.
use Rattle.std.proofs.Common.{◌≡◌, ℕ, zero, suc, ◌+◌, ◌-◌, ◌*◌, ◌%◌, ◌^◌, ◌<◌, ◌≤◌, Bool, true, false, Option, Some, None, List, [], ◌∷◌, ◌++◌, length, get_or, take, map, refl, sym, ◌∙◌, ap, arith, length-append}
use Rattle.std.specs.Prelude.{bit_or, nat_lt, position, slice_get, is_some}
use Rattle.std.specs.List.{position_or_len, range_with_len}
use Rattle.std.specs.Simd.Lanes.{mask_l}
use Rattle.std.proofs.lemmas.Bool.Decides.{nat_tests}
use Rattle.std.proofs.lemmas.List.FromFn.{length-map-range_with_len, map-range_with_len_more}
use Rattle.std.proofs.lemmas.Nat.{one_shl}
use Rattle.std.proofs.lemmas.Option.{slice_get-get_or}
use Rattle.order_table.proofs.MasksOverLists.{one_more_bit, no_more_bit}
use Rattle.store_buffer.specs.declared.entry.Entry.{Entry}
use Rattle.store_buffer.specs.declared.entry.Entry.TheVariants.{Write, Flush, FlushOpt, Sfence}
use Rattle.store_buffer.specs.Buffers.{is_held_by, holder_of, holder_at, is_free, free_places}
use Rattle.store_buffer.specs.Indexes.{free_before}

-- ---- an entry is free where nothing holds it

free_if : (entries : List Entry) (i : ℕ) (entry : Entry) → slice_get entries i ≡ Some entry → holder_at entries i ≡ None → is_free entries i ≡ true
free_if entries i entry at none =
    let alone : holder_of entries i entry ≡ None = rw at at none in
    rw (at, alone) refl

held_if : (entries : List Entry) (i holder : ℕ) (there : Option Entry) → slice_get entries i ≡ there → holder_at entries i ≡ Some holder → is_free entries i ≡ false
held_if entries i holder None at some = rw at refl
held_if entries i holder (Some entry) at some =
    let held : holder_of entries i entry ≡ Some holder = rw at at some in
    rw (at, held) refl

pub free_where : (entries : List Entry) (i : ℕ) (holder : Option ℕ) → i < length entries → holder ≡ holder_at entries i → is_some holder ≡ false → is_free entries i ≡ true
free_where entries i None within is none = free_if entries i (get_or entries i Sfence) (slice_get-get_or entries i Sfence within) (sym is)
free_where entries i (Some holder) within is none = absurd (cc)

pub held_where : (entries : List Entry) (i : ℕ) (holder : Option ℕ) → holder ≡ holder_at entries i → is_some holder ≡ true → is_free entries i ≡ false
held_where entries i None is some = absurd (cc)
held_where entries i (Some holder) is some = held_if entries i holder (slice_get entries i) refl (sym is)

-- ---- a place more

module _ (entries : List Entry) (place w free : ℕ) (room : place < w) (before : free ≡ free_before entries place) where
  abbrev tests : ℕ → List Bool
  tests n = map (is_free entries) (range_with_len 0 n)

  more : tests (place + 1) ≡ tests place ++ is_free entries place ∷ []
  more = map-range_with_len_more (is_free entries) 0 place place (omega arith)

  pub free_added : is_free entries place ≡ true → bit_or free (1 * 2 ^ place % 2 ^ w) ≡ free_before entries (place + 1)
  free_added is =
      let long : length (tests place) ≡ place = length-map-range_with_len (is_free entries) 0 place in
      let bit : bit_or (mask_l (tests place)) (2 ^ place) ≡ mask_l (tests place ++ true ∷ []) = rw long at (one_more_bit (tests place)) in
      rw (one_shl place w room, before, more, is) bit

  pub held_added : is_free entries place ≡ false → free ≡ free_before entries (place + 1)
  held_added is = rw (before, more, is) (no_more_bit (tests place))

-- ---- the same entries before a place

get-append : (xs ys : List Entry) (k : ℕ) → k < length xs → slice_get (xs ++ ys) k ≡ slice_get xs k
get-append [] ys k low = absurd (omega (arith, low))
get-append (x ∷ xs) ys zero low = refl
get-append (x ∷ xs) ys (suc k) low = get-append xs ys k (omega (arith, low))

take-append : (xs ys : List Entry) (k : ℕ) → k ≤ length xs → take k (xs ++ ys) ≡ take k xs
take-append xs ys zero low = refl
take-append [] ys (suc k) low = absurd (omega (arith, low))
take-append (x ∷ xs) ys (suc k) low = ap (λ (l : List Entry). x ∷ l) (take-append xs ys k (omega (arith, low)))

free_append : (xs ys : List Entry) (k : ℕ) → k < length xs → is_free (xs ++ ys) k ≡ is_free xs k
free_append xs ys k low = rw (get-append xs ys k low, take-append xs ys k (omega (arith, low))) refl

same_before : (xs ys : List Entry) (a n : ℕ) → a + n ≤ length xs → map (is_free (xs ++ ys)) (range_with_len a n) ≡ map (is_free xs) (range_with_len a n)
same_before xs ys a zero low = refl
same_before xs ys a (suc n) low =
    rw (free_append xs ys a (omega (arith, low)), same_before xs ys (a + 1) n (omega (arith, low))) refl

pub free_pushed : (xs ys : List Entry) → free_before (xs ++ ys) (length xs) ≡ free_places xs
free_pushed xs ys = ap mask_l (same_before xs ys 0 (length xs) (omega arith))

-- ---- behind a fence nothing is free

fence_holds : (entry : Entry) → is_held_by entry Sfence ≡ true
fence_holds (Write word value) = refl
fence_holds (Flush line) = refl
fence_holds (FlushOpt line) = refl
fence_holds Sfence = refl

get-take : (xs : List Entry) (i k : ℕ) → i < k → slice_get (take k xs) i ≡ slice_get xs i
get-take [] i zero low = refl
get-take [] i (suc k) low = refl
get-take (x ∷ xs) i zero low = absurd (omega (arith, low))
get-take (x ∷ xs) zero (suc k) low = refl
get-take (x ∷ xs) (suc i) (suc k) low = get-take xs i k (omega (arith, low))

found_within : (test : Entry → Bool) (xs : List Entry) (i : ℕ) (x : Entry) → slice_get xs i ≡ Some x → test x ≡ true → position_or_len test xs < length xs
found_within test [] i x at is = absurd (cc at)
found_within test (y ∷ ys) zero x at is = let same : y ≡ x = cc at in let here : test y ≡ true = ap test same ∙ is in rw here (omega arith)
found_within test (y ∷ ys) (suc i) x at is = by (test y) refl (found_within test ys i x at is)
  where
    by : (b : Bool) → test y ≡ b → position_or_len test ys < length ys → position_or_len test (y ∷ ys) < length (y ∷ ys)
    by true e h = rw e (omega arith)
    by false e h = rw e (omega (arith, h))

found : (test : Entry → Bool) (xs : List Entry) (i k : ℕ) (x : Entry) → slice_get xs i ≡ Some x → i < k → test x ≡ true → (j : ℕ) × (position test (take k xs) ≡ Some j)
found test xs i k x at low is =
    let short = found_within test (take k xs) i x (get-take xs i k low ∙ at) is in
    let there : nat_lt (position_or_len test (take k xs)) (length (take k xs)) ≡ true = grind (arith, nat_tests, short) in
    (position_or_len test (take k xs), rw there refl)

held_behind : (entries : List Entry) (i k : ℕ) → slice_get entries i ≡ Some Sfence → i < k → (there : Option Entry) → slice_get entries k ≡ there → is_free entries k ≡ false
held_behind entries i k fence low None at = rw at refl
held_behind entries i k fence low (Some entry) at =
    let holder = found (is_held_by entry) entries i k Sfence fence low (fence_holds entry) in
    rw (at, holder.1) refl

none_behind : (entries : List Entry) (i n : ℕ) → slice_get entries i ≡ Some Sfence → free_before entries (i + 1 + n) ≡ free_before entries (i + 1)
none_behind entries i zero fence = let same : i + 1 + zero ≡ i + 1 = omega arith in ap (free_before entries) same
none_behind entries i (suc n) fence =
    let next : i + 1 + suc n ≡ i + 1 + n + 1 = omega arith in
    let held : is_free entries (i + 1 + n) ≡ false = held_behind entries i (i + 1 + n) fence (omega arith) (slice_get entries (i + 1 + n)) refl in
    ap (free_before entries) next ∙ sym (held_added entries (i + 1 + n) (i + 1 + n + 1) (free_before entries (i + 1 + n)) (omega arith) refl held) ∙ none_behind entries i n fence

pub free_to_fence : (entries : List Entry) (i : ℕ) → i < length entries → slice_get entries i ≡ Some Sfence → free_before entries (i + 1) ≡ free_places entries
free_to_fence entries i within fence =
    let whole : i + 1 + (length entries - (i + 1)) ≡ length entries = omega (arith, within) in
    sym (none_behind entries i (length entries - (i + 1)) fence) ∙ ap (free_before entries) whole

pub free_grown : (xs : List Entry) (x : Entry) (place : ℕ) → place ≡ length xs → free_before (xs ++ x ∷ []) (place + 1) ≡ free_places (xs ++ x ∷ [])
free_grown xs x place is =
    let long : place + 1 ≡ length (xs ++ x ∷ []) = omega (arith, is, length-append xs (x ∷ [])) in
    ap (free_before (xs ++ x ∷ [])) long
