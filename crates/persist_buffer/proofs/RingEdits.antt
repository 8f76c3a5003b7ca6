-- What an edit of one ring leaves of the merged list.
use Rattle.std.proofs.Common.{◌≡◌, ◌≢◌, ℕ, suc, ◌+◌, ◌^◌, ◌<◌, ◌≤◌, true, false, List, [], ◌∷◌, ◌++◌, length, take, drop, get_or, Some, refl, sym, ◌∙◌, ap, subst, arith, inl, inr, length-append, append_assoc, append-nil}
use Rattle.std.specs.Prelude.{filter, find, slice_get, count_by, IsSome}
use Rattle.std.proofs.Math.ListN.{set, length-set}
use Rattle.std.proofs.Math.Seq.{split_at}
use Rattle.std.proofs.lemmas.List.{set_split, get_or-set_same, get_or-set_other}
use Rattle.std.proofs.lemmas.List.Elements.{filter-append}
use Rattle.std.proofs.lemmas.Grind.{flat_map-append}
use Rattle.std.proofs.lemmas.List.Sums.{length-filter}
use Rattle.std.proofs.lemmas.Bool.{cases_eq}
use Rattle.std.proofs.lemmas.Bool.Decides.{nat_tests}
use Rattle.circular_buffer.specs.Buffer.{Buffer, buffer}
use Rattle.persist_buffer.specs.declared.ring.StampedEntry.{StampedEntry}
use Rattle.persist_buffer.specs.declared.entry.PendingEntry.{PendingEntry}
use Rattle.persist_buffer.specs.Rings.{ring_of, is_in, placed, by_serial, joined, merged, Rising, IsMerged}
use Rattle.persist_buffer.specs.Firsts.{drop_first}
use Rattle.persist_buffer.proofs.ListsBySerial.{Apart, Below, placed_within, placed_last, rising_push, all_push, all_sorted, all_front, all_weaker, rising_placed, apart_front}
use Rattle.persist_buffer.proofs.EntriesAndTheirSerials.{find_passes}
use Rattle.persist_buffer.proofs.FirstEntriesOfRings.{find-filter, filter-drop_first, filter-drop_other, all-drop_first, rising-drop_first, first_placed}

abbrev before : List (Buffer StampedEntry) → ℕ → List StampedEntry
before rings r = joined (take r rings)

abbrev after : List (Buffer StampedEntry) → ℕ → List StampedEntry
after rings r = joined (drop (suc r) rings)

joined_around : (us vs : List (Buffer StampedEntry)) (b : Buffer StampedEntry) → joined (us ++ b ∷ vs) ≡ joined us ++ (b.items ++ joined vs)
joined_around us vs b = flat_map-append (λ c. c.items) us (b ∷ vs)

joined_split : (rings : List (Buffer StampedEntry)) (r : ℕ) (d : Buffer StampedEntry) → r < length rings → joined rings ≡ before rings r ++ ((get_or rings r d).items ++ after rings r)
joined_split rings r d h = ap joined (split_at rings r d h) ∙ joined_around (take r rings) (drop (suc r) rings) (get_or rings r d)

joined_set : (rings : List (Buffer StampedEntry)) (r : ℕ) (b : Buffer StampedEntry) → r < length rings → joined (set rings r b) ≡ before rings r ++ (b.items ++ after rings r)
joined_set rings r b h = ap joined (set_split rings r b h) ∙ joined_around (take r rings) (drop (suc r) rings) b

-- the entry of the greatest serial, at the end of any part
sorted_push : (us xs vs : List StampedEntry) (e : StampedEntry) → Below e.serial (by_serial (us ++ (xs ++ vs))) → by_serial (us ++ ((xs ++ e ∷ []) ++ vs)) ≡ by_serial (us ++ (xs ++ vs)) ++ e ∷ []
sorted_push us xs vs e h =
    let whole : us ++ (xs ++ vs) ≡ (us ++ xs) ++ vs = sym (append_assoc us xs vs) in
    let grown : us ++ ((xs ++ e ∷ []) ++ vs) ≡ (us ++ xs) ++ e ∷ vs = simp append_assoc in
    let b : Below e.serial ((us ++ xs) ++ vs) = rw whole at (all_sorted (λ y. y.serial < e.serial) (us ++ (xs ++ vs)) h) in
    let a : Apart e (us ++ xs) = all_weaker (λ y. y.serial < e.serial) (λ y. y.serial ≢ e.serial) (us ++ xs) (λ y lt eq. omega arith) (all_front (λ y. y.serial < e.serial) (us ++ xs) vs b) in
    rw (grown, placed_within (us ++ xs) vs e a, ← whole) (placed_last e (by_serial (us ++ (xs ++ vs))) h)

-- the first entry of any part
sorted_pop : (us xs vs : List StampedEntry) (e : StampedEntry) → Rising (by_serial (us ++ ((e ∷ xs) ++ vs))) → by_serial (us ++ ((e ∷ xs) ++ vs)) ≡ placed e (by_serial (us ++ (xs ++ vs)))
sorted_pop us xs vs e h = placed_within us (xs ++ vs) e (apart_front us (xs ++ vs) e h)

pub merged_push : (rings : List (Buffer StampedEntry)) (r : ℕ) (d b : Buffer StampedEntry) (e : StampedEntry) → r < length rings → Below e.serial (merged rings) → b.items ≡ (get_or rings r d).items ++ e ∷ [] → merged (set rings r b) ≡ merged rings ++ e ∷ []
unfolding merged
merged_push rings r d b e h below grown =
    let old = joined_split rings r d h in
    rw (joined_set rings r b h, grown, old) (sorted_push (before rings r) (get_or rings r d).items (after rings r) e (rw old at below))

pub merged_pop : (rings : List (Buffer StampedEntry)) (r : ℕ) (d b : Buffer StampedEntry) (e : StampedEntry) → r < length rings → Rising (merged rings) → (get_or rings r d).items ≡ e ∷ b.items → merged rings ≡ placed e (merged (set rings r b))
unfolding merged
merged_pop rings r d b e h up shrunk =
    let old = joined_split rings r d h in
    let cut : joined rings ≡ before rings r ++ ((e ∷ b.items) ++ after rings r) = old ∙ ap (λ ys. before rings r ++ (ys ++ after rings r)) shrunk in
    rw (cut, joined_set rings r b h) (sorted_pop (before rings r) b.items (after rings r) e (rw cut at up))

in_one : (q r : ℕ) (e : StampedEntry) → is_in r e ≡ true → q ≢ r → is_in q e ≡ false
in_one q r e y ne = grind (arith, nat_tests)

not_both : (q r : ℕ) → q ≢ r → (x : StampedEntry) → is_in r x ≡ true → is_in q x ≡ false
not_both q r ne x y = in_one q r x y ne

below_more : (n : ℕ) (xs : List StampedEntry) → Below n xs → Below (n + 1) xs
below_more n xs h = all_weaker (λ y. y.serial < n) (λ y. y.serial < n + 1) xs (λ y lt. omega arith) h

pub again : (rings : List (Buffer StampedEntry)) (all : List StampedEntry) (next : ℕ) → IsMerged rings all next → IsMerged rings (merged rings) next
again rings all next m = subst (λ ys. IsMerged rings ys next) (sym m.merges) m

-- one more entry, of the greatest serial
pub pushed : (rings : List (Buffer StampedEntry)) (all : List StampedEntry) (next r : ℕ) (d b : Buffer StampedEntry) (e : StampedEntry) → IsMerged rings all next → r < 65 → is_in r e ≡ true → e.serial ≡ next → next < 2 ^ 63 → length b.items ≤ 256 → b.items ≡ (get_or rings r d).items ++ e ∷ [] → b.capacity ≡ (get_or rings r d).capacity → IsMerged (set rings r b) (all ++ e ∷ []) (next + 1)
pushed rings all next r d b e m h there stamp small fits grown same =
    let within : r < length rings = omega (arith, m.count) in
    let low : Below e.serial all = rw stamp m.below in
    record {
      merges = merged_push rings r d b e within (rw m.merges low) grown ∙ ap (λ ys. ys ++ e ∷ []) m.merges;
      count = length-set rings r b ∙ m.count;
      rising = rising_push all e m.rising low;
      below = all_push (λ y. y.serial < next + 1) all e (below_more next all m.below) (omega arith);
      room = λ q c k. elim (cases_eq q r) [
        | inl eq ↦ rw (eq, get_or-set_same rings r b c within) (same ∙ m.room r d h)
        | inr ne ↦ rw (get_or-set_other rings r q b c ne) (m.room q c k)
      ];
      sizes = λ q c k. elim (cases_eq q r) [
        | inl eq ↦ rw (eq, get_or-set_same rings r b c within) fits
        | inr ne ↦ rw (get_or-set_other rings r q b c ne) (m.sizes q c k)
      ];
      each = λ q c k. elim (cases_eq q r) [
        | inl eq ↦ rw (eq, get_or-set_same rings r b c within, filter-append (is_in r) all (e ∷ []), there) (grown ∙ ap (λ ys. ys ++ e ∷ []) (m.each r d h))
        | inr ne ↦ rw (get_or-set_other rings r q b c ne, filter-append (is_in q) all (e ∷ []), in_one q r e there ne) (m.each q c k ∙ sym (append-nil (filter (is_in q) all)))
      ];
      bound = omega arith;
    }

-- the first entry of a ring goes
pub popped : (rings : List (Buffer StampedEntry)) (all : List StampedEntry) (next r : ℕ) (d b : Buffer StampedEntry) (e : StampedEntry) → IsMerged rings all next → r < 65 → is_in r e ≡ true → (get_or rings r d).items ≡ e ∷ b.items → b.capacity ≡ (get_or rings r d).capacity → IsMerged (set rings r b) (drop_first (is_in r) all) next
popped rings all next r d b e m h there shrunk same =
    let within : r < length rings = omega (arith, m.count) in
    let own : filter (is_in r) all ≡ e ∷ b.items = sym (m.each r d h) ∙ shrunk in
    let rest : List StampedEntry = merged (set rings r b) in
    let is : all ≡ placed e rest = sym m.merges ∙ merged_pop rings r d b e within (rw m.merges m.rising) shrunk in
    let apart = rising_placed e rest (rw (← is) m.rising) in
    let found : find (is_in r) (placed e rest) ≡ Some e = rw (← is, ← find-filter (is_in r) all, own) refl in
    let left : rest ≡ drop_first (is_in r) all = first_placed (is_in r) e rest apart.0 there found ∙ ap (drop_first (is_in r)) (sym is) in
    record {
      merges = left;
      count = length-set rings r b ∙ m.count;
      rising = rising-drop_first (is_in r) all m.rising;
      below = all-drop_first (λ y. y.serial < next) (is_in r) all m.below;
      room = λ q c k. elim (cases_eq q r) [
        | inl eq ↦ rw (eq, get_or-set_same rings r b c within) (same ∙ m.room r d h)
        | inr ne ↦ rw (get_or-set_other rings r q b c ne) (m.room q c k)
      ];
      sizes = λ q c k. elim (cases_eq q r) [
        | inl eq ↦ rw (eq, get_or-set_same rings r b c within) (let full = m.sizes r d h in let lens : length (get_or rings r d).items ≡ suc (length b.items) = ap length shrunk in omega arith)
        | inr ne ↦ rw (get_or-set_other rings r q b c ne) (m.sizes q c k)
      ];
      each = λ q c k. elim (cases_eq q r) [
        | inl eq ↦ rw (eq, get_or-set_same rings r b c within, filter-drop_first (is_in r) all, own) refl
        | inr ne ↦ rw (get_or-set_other rings r q b c ne, filter-drop_other (is_in r) (is_in q) all (not_both q r ne)) (m.each q c k)
      ];
      bound = m.bound;
    }

pub counted : (rings : List (Buffer StampedEntry)) (all : List StampedEntry) (next r : ℕ) (b : Buffer StampedEntry) → IsMerged rings all next → r < 65 → b ≡ get_or rings r b → length b.items ≡ count_by (is_in r) all
counted rings all next r b m h read = ap (λ c. length c.items) read ∙ (ap length (m.each r b h) ∙ length-filter (is_in r) all)

pub first_of : (rings : List (Buffer StampedEntry)) (all : List StampedEntry) (next r : ℕ) (b : Buffer StampedEntry) → IsMerged rings all next → r < 65 → b ≡ get_or rings r b → slice_get b.items 0 ≡ find (is_in r) all
first_of rings all next r b m h read = ap (λ c. slice_get c.items 0) read ∙ (ap (λ xs. slice_get xs 0) (m.each r b h) ∙ find-filter (is_in r) all)

-- the same for what the code has in hand: the ring that it lends and what it leaves there
in_own : (n r : ℕ) (w : PendingEntry) → r ≡ ring_of w → is_in r (record { serial = n; entry = w }) ≡ true
in_own n r w e = grind (arith, nat_tests)

pub has_room : (rings : List (Buffer StampedEntry)) (all : List StampedEntry) (next r : ℕ) (b : Buffer StampedEntry) → IsMerged rings all next → r < 65 → b ≡ get_or rings r b → count_by (is_in r) all < 256 → length b.items < b.capacity
has_room rings all next r b m h read few =
    let full : b.capacity ≡ 256 = ap (λ c. c.capacity) read ∙ m.room r b h in
    omega (arith, counted rings all next r b m h read)

pub pushed_back : (rings : List (Buffer StampedEntry)) (all : List StampedEntry) (next r : ℕ) (old b : Buffer StampedEntry) (w : PendingEntry) → IsMerged rings all next → r < 65 → r ≡ ring_of w → next < 2 ^ 63 → count_by (is_in r) all < 256 → old ≡ get_or rings r old → b ≡ buffer (old.items ++ record { serial = next; entry = w } ∷ []) old.capacity → IsMerged (set rings r b) (all ++ record { serial = next; entry = w } ∷ []) (next + 1)
pushed_back rings all next r old b w m h own small few read is =
    let e : StampedEntry = record { serial = next; entry = w } in
    let lens : length b.items ≡ length old.items + 1 = ap (λ c. length c.items) is ∙ length-append old.items (e ∷ []) in
    let sum = counted rings all next r old m h read in
    let fits : length b.items ≤ 256 = omega arith in
    pushed rings all next r old b (record { serial = next; entry = w }) m h (in_own next r w own) refl small fits (ap (λ c. c.items) is ∙ ap (λ c. c.items ++ record { serial = next; entry = w } ∷ []) read) (ap (λ c. c.capacity) is ∙ ap (λ c. c.capacity) read)

popped_items : (rings : List (Buffer StampedEntry)) (all : List StampedEntry) (next r : ℕ) (old b : Buffer StampedEntry) (xs : List StampedEntry) → IsMerged rings all next → r < 65 → IsSome (slice_get xs 0) → slice_get xs 0 ≡ find (is_in r) all → (get_or rings r old).items ≡ xs → b.items ≡ drop 1 xs → b.capacity ≡ (get_or rings r old).capacity → IsMerged (set rings r b) (drop_first (is_in r) all) next
popped_items rings all next r old b [] m h some first has left same = absurd (cc)
popped_items rings all next r old b (e ∷ xs) m h some first has left same = popped rings all next r old b e m h (find_passes (is_in r) all e (sym first)) (has ∙ ap (λ ys. e ∷ ys) (sym left)) same

pub popped_front : (rings : List (Buffer StampedEntry)) (all : List StampedEntry) (next r : ℕ) (old b : Buffer StampedEntry) → IsMerged rings all next → r < 65 → IsSome (find (is_in r) all) → old ≡ get_or rings r old → b ≡ buffer (drop 1 old.items) old.capacity → IsMerged (set rings r b) (drop_first (is_in r) all) next
popped_front rings all next r old b m h some read is =
    let first = first_of rings all next r old m h read in
    popped_items rings all next r old b old.items m h (rw first some) first (ap (λ c. c.items) (sym read)) (ap (λ c. c.items) is) (ap (λ c. c.capacity) is ∙ ap (λ c. c.capacity) read)
