-- Sets that hold all that another holds.
use Rattle.std.proofs.Common.{◌≡◌, ℕ, zero, suc, ◌+◌, ◌-◌, ◌<◌, ◌≤◌, Bool, true, false, List, [], ◌∷◌, length, length-set, refl, ap, sym, subst, ◌∙◌, arith, inl, inr}
use Rattle.std.specs.Prelude.{count_by, nat_lt, slice_index, slice_set}
use Rattle.std.proofs.lemmas.Bool.Decides.{eqb_tells, nat_tests}
use Rattle.lines_layout.specs.Lines.{line_of, max_lines}
use Rattle.persist_buffer.specs.declared.entry.PendingEntry.{PendingEntry}
use Rattle.persist_buffer.specs.declared.entry.PendingEntry.TheVariants.{Write, Marker}
use Rattle.persist_buffer.specs.Memories.{is_write_on}
use Rattle.persist_buffer.specs.Listings.{LinesBelow}
use Rattle.pending_images.specs.Candidates.{markers}
use Rattle.pending_images.specs.LeastCuts.{cut_flags}
use Rattle.pending_images.specs.ClosedSets.{HoldsPlace, flagged}
use Rattle.pending_images.specs.LeastSets.{places_from}
use Rattle.pending_images.proofs.CountsBeforeMarkers.{count_by-cons, markers_more, one}
use Rattle.pending_images.proofs.CutFlags.{set_less}
use Rattle.pending_images.proofs.CutOfSet.{all_wait, held, none_of_line}
use Rattle.pending_images.proofs.ClosedSetsByEntry.{NoneIsLeft}

-- a set holds all places of another
abbrev pub IsWithin : List Bool → List Bool → Type 0
IsWithin a b = (place : ℕ) → HoldsPlace a place → HoldsPlace b place

within_true : (flag : Bool) (a b : List Bool) → IsWithin a b → IsWithin (flag ∷ a) (true ∷ b)
within_true flag a b h zero held = refl
within_true flag a b h (suc place) held = h place held

within_false : (flag : Bool) (a b : List Bool) → IsWithin a b → IsWithin (false ∷ a) (flag ∷ b)
within_false flag a b h zero held = absurd (cc)
within_false flag a b h (suc place) held = h place held

within_tail : (x y : Bool) (a b : List Bool) → IsWithin (x ∷ a) (y ∷ b) → IsWithin a b
within_tail x y a b h place held = h (suc place) held

-- a set of nothing
within_nothing : (es : List PendingEntry) (k : ℕ) (c : List ℕ) (b : List Bool) → k ≡ 0 → ((line : ℕ) → slice_index c line ≡ 0) → IsWithin (cut_flags k c es) b
within_nothing [] k c b none zeros place h = absurd (cc)
within_nothing (Write word value ∷ es) k c b none zeros place h =
    let z = zeros (line_of word) in
    let test : nat_lt 0 (slice_index c (line_of word)) ≡ false = rw z refl in
    let flags : cut_flags k c (Write word value ∷ es) ≡ false ∷ cut_flags k c es = rw test refl in
    nothing_next (cut_flags k c es) b (λ q o. within_nothing es k c o none zeros q) place (subst (λ (f : List Bool). HoldsPlace f place) flags h)
  where
    nothing_next : (a b : List Bool) → ((q : ℕ) (o : List Bool) → HoldsPlace a q → HoldsPlace o q) → (place : ℕ) → HoldsPlace (false ∷ a) place → HoldsPlace b place
    nothing_next a b rest zero held = absurd (cc)
    nothing_next a b rest (suc q) held = (let bad : HoldsPlace [] q = rest q [] held in absurd (cc))
within_nothing (Marker other ∷ es) zero c b none zeros place h = absurd (cc)
within_nothing (Marker other ∷ es) (suc k) c b none zeros place h = absurd (omega (arith, none))

-- a cut that takes no more than a closed set holds no other place
pub cut_within : (es : List PendingEntry) (k : ℕ) (c : List ℕ) (other : List Bool) → NoneIsLeft es other → length c ≡ max_lines → LinesBelow max_lines es → k ≤ markers (flagged es other)
    → ((line : ℕ) → slice_index c line ≤ held (flagged es other) line) → IsWithin (cut_flags k c es) other
cut_within [] k c other h size below few least = λ place held. absurd (cc)
cut_within (e ∷ es) k c [] h size below few least = within_nothing (e ∷ es) k c [] (omega (arith, few)) (λ line. let l = least line in omega (arith, l))
cut_within (Write word value ∷ es) k c (true ∷ other) h size below few least =
    go (slice_index c (line_of word)) refl (λ c' s l. cut_within es k c' other h s below.1 few l)
  where
    more : (line : ℕ) → slice_index c line ≤ one line word + held (flagged es other) line
    more line = let l = least line in let a = count_by-cons (is_write_on line) (Write word value) (flagged es other) in omega (arith, l, a)

    go : (n : ℕ) → slice_index c (line_of word) ≡ n → ((c' : List ℕ) → length c' ≡ max_lines → ((line : ℕ) → slice_index c' line ≤ held (flagged es other) line) → IsWithin (cut_flags k c' es) other)
        → IsWithin (cut_flags k c (Write word value ∷ es)) (true ∷ other)
    go zero none rest =
        let test : nat_lt 0 (slice_index c (line_of word)) ≡ false = rw none refl in
        let flags : cut_flags k c (Write word value ∷ es) ≡ false ∷ cut_flags k c es = rw test refl in
        let low : (line : ℕ) → slice_index c line ≤ held (flagged es other) line = λ line. elim (eqb_tells (line_of word) line) [
          | inl on ↦ (let z : slice_index c line ≡ 0 = ap (slice_index c) (sym on.1) ∙ none in omega (arith, z))
          | inr off ↦ (let o : one line word ≡ 0 = rw off.0 refl in let m = more line in omega (arith, o, m))
        ] in
        subst (λ (f : List Bool). IsWithin f (true ∷ other)) (sym flags) (within_true false (cut_flags k c es) other (rest c size low))
    go (suc n) some rest =
        let some_left : 0 < slice_index c (line_of word) = omega (arith, some) in
        let test : nat_lt 0 (slice_index c (line_of word)) ≡ true = grind (arith, nat_tests, some_left) in
        let fewer : List ℕ = slice_set c (line_of word) (slice_index c (line_of word) - 1) in
        let flags : cut_flags k c (Write word value ∷ es) ≡ true ∷ cut_flags k fewer es = rw test refl in
        let less = set_less c word (let b = below.0 in omega (arith, b, size)) in
        let low : (line : ℕ) → slice_index fewer line ≤ held (flagged es other) line = λ line. (let l = less line in let m = more line in omega (arith, l, m)) in
        subst (λ (f : List Bool). IsWithin f (true ∷ other)) (sym flags)
        (within_true true (cut_flags k fewer es) other (rest fewer (length-set c (line_of word) (slice_index c (line_of word) - 1) ∙ size) low))
cut_within (Write word value ∷ es) k c (false ∷ other) h size below few least =
    let none = none_of_line word value es other h.0 in
    let l = least (line_of word) in
    let z : slice_index c (line_of word) ≡ 0 = omega (arith, none, l) in
    let test : nat_lt 0 (slice_index c (line_of word)) ≡ false = rw z refl in
    let flags : cut_flags k c (Write word value ∷ es) ≡ false ∷ cut_flags k c es = rw test refl in
    subst (λ (f : List Bool). IsWithin f (false ∷ other)) (sym flags) (within_false false (cut_flags k c es) other (cut_within es k c other h.1 size below.1 few least))
cut_within (Marker l ∷ es) zero c (flag ∷ other) h size below few least = λ place held. absurd (cc)
cut_within (Marker l ∷ es) (suc k) c (true ∷ other) h size below few least =
    let a = markers_more l (flagged es other) in
    within_true true (cut_flags k c es) other (cut_within es k c other h size below (omega (arith, a, few)) (λ line. let w = least line in let b = count_by-cons (is_write_on line) (Marker l) (flagged es other) in omega (arith, w, b)))
cut_within (Marker l ∷ es) (suc k) c (false ∷ other) h size below few least =
    let none = ap markers (all_wait l es other h.0) in
    absurd (omega (arith, none, few))

flagged_none : (es : List PendingEntry) → flagged es [] ≡ []
flagged_none [] = refl
flagged_none (e ∷ es) = refl

-- so it holds no more of any kind
pub counts_within : (p : PendingEntry → Bool) (es : List PendingEntry) (a b : List Bool) → IsWithin a b → count_by p (flagged es a) ≤ count_by p (flagged es b)
counts_within p [] a b h = omega arith
counts_within p (e ∷ es) [] b h = omega arith
counts_within p (e ∷ es) (true ∷ a) [] h = (let bad : HoldsPlace [] 0 = h 0 refl in absurd (cc))
counts_within p (e ∷ es) (true ∷ a) (false ∷ b) h = (let bad : HoldsPlace (false ∷ b) 0 = h 0 refl in absurd (cc))
counts_within p (e ∷ es) (true ∷ a) (true ∷ b) h =
    let rest = counts_within p es a b (within_tail true true a b h) in
    let x = count_by-cons p e (flagged es a) in
    let y = count_by-cons p e (flagged es b) in
    omega (arith, rest, x, y)
counts_within p (e ∷ es) (false ∷ a) [] h =
    let rest = counts_within p es a [] (λ place held. let bad : HoldsPlace [] (suc place) = h (suc place) held in absurd (cc)) in
    let none = ap (count_by p) (flagged_none es) in
    omega (arith, rest, none)
counts_within p (e ∷ es) (false ∷ a) (true ∷ b) h =
    let rest = counts_within p es a b (within_tail false true a b h) in
    let y = count_by-cons p e (flagged es b) in
    omega (arith, rest, y)
counts_within p (e ∷ es) (false ∷ a) (false ∷ b) h = counts_within p es a b (within_tail false false a b h)

-- sets that hold the same places
no_places : (i : ℕ) (b : List Bool) → ((place : ℕ) → HoldsPlace b place → ⊥) → places_from i b ≡ []
no_places i [] h = refl
no_places i (true ∷ b) h = absurd (h 0 refl)
no_places i (false ∷ b) h = no_places (i + 1) b (λ place held. h (suc place) held)

pub same_places : (i : ℕ) (a b : List Bool) → IsWithin a b → IsWithin b a → places_from i a ≡ places_from i b
same_places i [] b h g = sym (no_places i b (λ place held. let bad : HoldsPlace [] place = g place held in absurd (cc)))
same_places i (x ∷ a) [] h g = no_places i (x ∷ a) (λ place held. let bad : HoldsPlace [] place = h place held in absurd (cc))
same_places i (true ∷ a) (true ∷ b) h g = ap (λ (xs : List ℕ). i ∷ xs) (same_places (i + 1) a b (within_tail true true a b h) (within_tail true true b a g))
same_places i (true ∷ a) (false ∷ b) h g = (let bad : HoldsPlace (false ∷ b) 0 = h 0 refl in absurd (cc))
same_places i (false ∷ a) (true ∷ b) h g = (let bad : HoldsPlace (false ∷ a) 0 = g 0 refl in absurd (cc))
same_places i (false ∷ a) (false ∷ b) h g = same_places (i + 1) a b (within_tail false false a b h) (within_tail false false b a g)
