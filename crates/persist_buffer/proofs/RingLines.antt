-- Each write in the rings is of a line that has one.
use Rattle.std.proofs.Common.{◌≡◌, ℕ, suc, ◌<◌, List, [], ◌∷◌, ◌++◌, length, get_or, arith, inl, inr}
use Rattle.std.specs.Prelude.{filter}
use Rattle.std.specs.List.{AllByRecursion}
use Rattle.std.proofs.lemmas.Bool.{cases_Bool, eqb-true}
use Rattle.circular_buffer.specs.Buffer.{Buffer}
use Rattle.persist_buffer.specs.declared.entry.PendingEntry.{PendingEntry}
use Rattle.persist_buffer.specs.declared.entry.PendingEntry.TheVariants.{Write, Marker}
use Rattle.persist_buffer.specs.declared.ring.StampedEntry.{StampedEntry}
use Rattle.persist_buffer.specs.Listings.{LinesBelow}
use Rattle.persist_buffer.specs.Rings.{ring_of, is_in, entries, joined, merged, IsMerged}
use Rattle.persist_buffer.proofs.ListsBySerial.{all_to_sorted}

-- an entry that goes into one of the rings
abbrev HasRing : StampedEntry → Type 0
HasRing s = ring_of s.entry < 65

ring_is_there : (r : ℕ) → r < 65 → (all : List StampedEntry) → AllByRecursion HasRing (filter (is_in r) all)
ring_is_there r h [] = tt
ring_is_there r h (x ∷ xs) = elim (cases_Bool (is_in r x)) [
  | inl y ↦ let same : ring_of x.entry ≡ r = eqb-true (ring_of x.entry) r y in rw y (omega arith, ring_is_there r h xs)
  | inr n ↦ rw n (ring_is_there r h xs)
]

-- what holds of the entries of each ring holds of all
all_append : (P : StampedEntry → Type 0) (us vs : List StampedEntry) → AllByRecursion P us → AllByRecursion P vs → AllByRecursion P (us ++ vs)
all_append P [] vs h k = k
all_append P (u ∷ us) vs h k = (h.0, all_append P us vs h.1 k)

all_joined : (P : StampedEntry → Type 0) (rings : List (Buffer StampedEntry)) → ((r : ℕ) (d : Buffer StampedEntry) → r < length rings → AllByRecursion P (get_or rings r d).items) → AllByRecursion P (joined rings)
all_joined P [] h = tt
all_joined P (b ∷ bs) h = all_append P b.items (joined bs) (h 0 b (omega arith)) (all_joined P bs (λ r d k. h (suc r) d (omega arith)))

all_merged : (P : StampedEntry → Type 0) (rings : List (Buffer StampedEntry)) → ((r : ℕ) (d : Buffer StampedEntry) → r < length rings → AllByRecursion P (get_or rings r d).items) → AllByRecursion P (merged rings)
unfolding merged
all_merged P rings h = all_to_sorted P (joined rings) (all_joined P rings h)

one_below : (w : PendingEntry) (ws : List PendingEntry) → ring_of w < 65 → LinesBelow 64 ws → LinesBelow 64 (w ∷ ws)
one_below (Write word value) ws h k = (omega arith, k)
one_below (Marker line) ws h k = k

entries_below : (all : List StampedEntry) → AllByRecursion HasRing all → LinesBelow 64 (entries all)
entries_below [] h = tt
entries_below (x ∷ xs) h = one_below x.entry (entries xs) h.0 (entries_below xs h.1)

pub lines_below : (rings : List (Buffer StampedEntry)) (all : List StampedEntry) (next : ℕ) → IsMerged rings all next → LinesBelow 64 (entries all)
lines_below rings all next m =
    let each : (r : ℕ) (d : Buffer StampedEntry) → r < length rings → AllByRecursion HasRing (get_or rings r d).items = λ r d k.
    let within : r < 65 = omega (arith, m.count) in rw (m.each r d within) (ring_is_there r within all) in
    entries_below all (rw (m.merges) at (all_merged HasRing rings each))
