-- What changes reach is what a cut gives.
use Rattle.std.proofs.Common.{◌≡◌, ◌≢◌, ℕ, zero, suc, ◌+◌, ◌<◌, ◌≤◌, ◌==◌, true, false, List, [], ◌∷◌, ◌++◌, take, refl, ap, sym, subst, ◌∙◌, Some, arith, slice_set, inl, inr, zero-add, one-add, ap₂, zero-le, ne_eqb, eqb-true}
use Rattle.std.proofs.lemmas.List.{set_comm}
use Rattle.std.proofs.lemmas.Bool.Decides.{eqb_tells}
use Rattle.std.specs.List.{AllByRecursion}
use Rattle.persist_buffer.specs.declared.entry.PendingEntry.{PendingEntry}
use Rattle.persist_buffer.specs.declared.entry.PendingEntry.TheVariants.{Write, Marker}
use Rattle.lines_layout.specs.Lines.{line_of}
use Rattle.pending_images.proofs.LeavingEntries.{IsFree, Leaving}
use Rattle.pending_images.specs.Candidates.{before, marker_at}
use Rattle.pending_images.specs.ClosedSets.{line_named}
use Rattle.pending_images.specs.Cuts.{IsCut, after, image_of, written}
use Rattle.persist_buffer.specs.Listings.{LinesBelow, writes_on}
use Rattle.persist_buffer.specs.State.{Memory}
use Rattle.pending_images.proofs.CountsBeforeMarkers.{one}
use Rattle.pending_images.proofs.InsertedEntries.{markers-write, marker_at-write, before-write, markers-marker, marker_at-first, marker_at-later, before-later, before-first, writes_on-marker, writes_on-other, writes_on-same}

-- one more of the line of a word
abbrev pub with_one : ℕ → (ℕ → ℕ) → ℕ → ℕ
with_one word count line = one line word + count line

-- the line of each entry is another one
abbrev pub AreElsewhere : ℕ → List PendingEntry → Type 0
AreElsewhere line es = AllByRecursion (λ e. line_named e ≢ line) es

pub written-set : (es : List PendingEntry) (persisted : List ℕ) (word value : ℕ) → AreElsewhere (line_of word) es → written es (slice_set persisted word value) ≡ slice_set (written es persisted) word value
written-set [] persisted word value elsewhere = refl
written-set (Write x v ∷ es) persisted word value elsewhere =
    ap (written es) (set_comm persisted word x value v (λ e. elsewhere.0 (ap line_of (sym e)))) ∙ written-set es (slice_set persisted x v) word value elsewhere.1
written-set (Marker l ∷ es) persisted word value elsewhere = written-set es persisted word value elsewhere.1

pub elsewhere-take : (n : ℕ) (line : ℕ) (es : List PendingEntry) → AreElsewhere line es → AreElsewhere line (take n es)
elsewhere-take zero line es h = tt
elsewhere-take (suc n) line [] h = tt
elsewhere-take (suc n) line (e ∷ es) h = (h.0, elsewhere-take n line es h.1)

pub elsewhere-writes : (line other : ℕ) (es : List PendingEntry) → other ≢ line → AreElsewhere line (writes_on other es)
elsewhere-writes line other [] ne = tt
elsewhere-writes line other (Write word value ∷ es) ne =
    elim (eqb_tells (line_of word) other) [
      | inl h ↦ rw h.0 ((λ e. ne (sym h.1 ∙ e)), elsewhere-writes line other es ne)
      | inr h ↦ rw h.0 (elsewhere-writes line other es ne)
    ]
elsewhere-writes line other (Marker l ∷ es) ne = elsewhere-writes line other es ne

-- a write of a higher line can come first
image_of-set : (lines : ℕ) (count : ℕ → ℕ) (es : List PendingEntry) (persisted : List ℕ) (word value : ℕ) → lines ≤ line_of word → image_of lines count es (slice_set persisted word value) ≡ slice_set (image_of lines count es persisted) word value
image_of-set zero count es persisted word value low = refl
image_of-set (suc line) count es persisted word value low =
    let below : line ≤ line_of word = omega arith in
    let ne : line ≢ line_of word = omega arith in
    ap (written (take (count line) (writes_on line es))) (image_of-set line count es persisted word value below)
    ∙ written-set _ (image_of line count es persisted) word value (elsewhere-take (count line) (line_of word) (writes_on line es) (elsewhere-writes (line_of word) line es ne))

with_one-other : (word : ℕ) (count : ℕ → ℕ) (line : ℕ) → (line_of word == line) ≡ false → with_one word count line ≡ count line
with_one-other word count line ne = rw ne (zero-add (count line))

with_one-same : (word : ℕ) (count : ℕ → ℕ) (line : ℕ) → (line_of word == line) ≡ true → with_one word count line ≡ suc (count line)
with_one-same word count line same = rw same (one-add (count line))

-- one line's part of an image
abbrev part : ℕ → (ℕ → ℕ) → List PendingEntry → List ℕ → List ℕ
part line count es persisted = written (take (count line) (writes_on line es)) persisted

module _ (count : ℕ → ℕ) (word value : ℕ) (p q : List PendingEntry) (free : IsFree (line_of word) p) where
  part-other : (line : ℕ) (persisted : List ℕ) → (line_of word == line) ≡ false → part line (with_one word count) (p ++ Write word value ∷ q) persisted ≡ part line count (p ++ q) persisted
  part-other line persisted ne =
      ap₂ (λ n ws. written (take n ws) persisted) (with_one-other word count line ne) (writes_on-other line word value p q ne)

  part-same : (line : ℕ) (persisted : List ℕ) → (line_of word == line) ≡ true → part line (with_one word count) (p ++ Write word value ∷ q) persisted ≡ part line count (p ++ q) (slice_set persisted word value)
  part-same line persisted same =
      ap₂ (λ n ws. written (take n ws) persisted) (with_one-same word count line same) (writes_on-same line word value p q same (subst (λ l. IsFree l p) (eqb-true _ _ same) free))

  below_write : (lines : ℕ) (persisted : List ℕ) → lines ≤ line_of word → image_of lines (with_one word count) (p ++ Write word value ∷ q) persisted ≡ image_of lines count (p ++ q) persisted
  below_write zero persisted low = refl
  below_write (suc line) persisted low =
      let below : line ≤ line_of word = omega arith in
      let ne : line_of word ≢ line = omega arith in
      part-other line _ (ne_eqb _ _ ne) ∙ ap (part line count (p ++ q)) (below_write line persisted below)

  -- a write that nothing holds back may take after first
  pub image_of-write : (lines : ℕ) (persisted : List ℕ) → line_of word < lines → image_of lines (with_one word count) (p ++ Write word value ∷ q) persisted ≡ image_of lines count (p ++ q) (slice_set persisted word value)
  image_of-write zero persisted high = absurd (omega arith)
  image_of-write (suc line) persisted high =
      elim (eqb_tells (line_of word) line) [
        | inl h ↦
            let low : line ≤ line_of word = omega (arith, h.1) in
            part-same line _ h.0
            ∙ ap (λ xs. part line count (p ++ q) (slice_set xs word value)) (below_write line persisted low)
            ∙ ap (part line count (p ++ q)) (sym (image_of-set line count (p ++ q) persisted word value low))
        | inr h ↦
            let high : line_of word < line = omega (arith, h.1) in
            part-other line _ h.0 ∙ ap (part line count (p ++ q)) (image_of-write line persisted high)
      ]

module _ (count : ℕ → ℕ) (other : ℕ) (p q : List PendingEntry) where
  -- a marker gives nothing
  pub image_of-marker : (lines : ℕ) (persisted : List ℕ) → image_of lines count (p ++ Marker other ∷ q) persisted ≡ image_of lines count (p ++ q) persisted
  image_of-marker zero persisted = refl
  image_of-marker (suc line) persisted =
      ap₂ (λ ws xs. written (take (count line) ws) xs) (writes_on-marker line other p q) (image_of-marker line persisted)

-- the same lines are written in what a change leaves
pub lines_left : (lines : ℕ) (p : List PendingEntry) (e : PendingEntry) (q : List PendingEntry) → LinesBelow lines (p ++ e ∷ q) → LinesBelow lines (p ++ q)
lines_left lines [] (Write word value) q h = h.1
lines_left lines [] (Marker line) q h = h
lines_left lines (Write word value ∷ p) e q h = (h.0, lines_left lines p e q h.1)
lines_left lines (Marker line ∷ p) e q h = lines_left lines p e q h

pub line_there : (lines : ℕ) (p : List PendingEntry) (word value : ℕ) (q : List PendingEntry) → LinesBelow lines (p ++ Write word value ∷ q) → line_of word < lines
line_there lines [] word value q h = h.0
line_there lines (Write x v ∷ p) word value q h = line_there lines p word value q h.1
line_there lines (Marker line ∷ p) word value q h = line_there lines p word value q h

-- a cut of what is left when a write has gone
pub cut-write : (k : ℕ) (count : ℕ → ℕ) (word value : ℕ) (p q : List PendingEntry) → IsFree (line_of word) p → IsCut k count (p ++ q) → IsCut k (with_one word count) (p ++ Write word value ∷ q)
cut-write k count word value p q free cut = record {
  few = rw (markers-write word value p q) cut.few;
  inside = λ line. let e = before-write line k word value (line_of word) p q free in let h = cut.inside line in omega (arith, e, h);
  settled = λ j line lt is.
      let e = before-write line j word value (line_of word) p q free in
      let h = cut.settled j line lt (sym (marker_at-write j word value p q) ∙ is) in
      omega (arith, e, h);
}

pub cut-marker : (k : ℕ) (count : ℕ → ℕ) (other : ℕ) (p q : List PendingEntry) → IsFree other p → IsCut k count (p ++ q) → IsCut (suc k) count (p ++ Marker other ∷ q)
cut-marker k count other p q free cut = record {
  few = (let e = markers-marker other p q in let h = cut.few in omega (arith, e, h));
  inside = λ line. let e = before-later line k other other p q free in let h = cut.inside line in omega (arith, e, h);
  settled = settled;
}
  where
    settled : (j line : ℕ) → j < suc k → marker_at j (p ++ Marker other ∷ q) ≡ Some (Marker line) → before line j (p ++ Marker other ∷ q) ≤ count line
    settled zero line lt is =
        let first : Some (Marker other) ≡ Some (Marker line) = sym (marker_at-first other other p q free) ∙ is in
        let same : other ≡ line = cc in
        let e = before-first other p q free in
        subst (λ l. before l 0 (p ++ Marker other ∷ q) ≤ count l) same (let P : ℕ → Type 0 = λ n. n ≤ count other in subst P (sym e) (zero-le))
    settled (suc j) line lt is =
        let e = before-later line j other other p q free in
        let below : j < k = omega arith in
        let h = cut.settled j line below (sym (marker_at-later j other other p q free) ∙ is) in
        omega (arith, e, h)

-- no change
pub image_of-none : (lines : ℕ) (es : List PendingEntry) (persisted : List ℕ) → image_of lines (λ _. 0) es persisted ≡ persisted
image_of-none zero es persisted = refl
image_of-none (suc line) es persisted = image_of-none line es persisted

pub cut_none : (es : List PendingEntry) → IsCut 0 (λ _. 0) es
cut_none es = record { few = zero-le; inside = λ line. zero-le; settled = λ j line lt is. absurd (omega arith) }

-- a cut before a change, from one after it
pub cut_before : (lines : ℕ) (p : List PendingEntry) (e : PendingEntry) (q : List PendingEntry) → IsFree (line_named e) p → LinesBelow lines (p ++ e ∷ q) → (k : ℕ) (count : ℕ → ℕ) → IsCut k count (p ++ q)
    → (k' : ℕ) × (count' : ℕ → ℕ) × IsCut k' count' (p ++ e ∷ q) × ((persisted : List ℕ) → image_of lines count' (p ++ e ∷ q) persisted ≡ image_of lines count (p ++ q) (after e persisted))
cut_before lines p (Write word value) q free below k count cut =
    (k, with_one word count, cut-write k count word value p q free cut, λ persisted. image_of-write count word value p q free lines persisted (line_there lines p word value q below))
cut_before lines p (Marker line) q free below k count cut =
    (suc k, count, cut-marker k count line p q free cut, λ persisted. image_of-marker count line p q lines persisted)

-- what n changes give is what a cut gives
pub cut_of_run : (lines n : ℕ) (m end : Memory) → LinesBelow lines m.pending → Leaving n m end → (k : ℕ) × (count : ℕ → ℕ) × IsCut k count m.pending × (end.persisted ≡ image_of lines count m.pending m.persisted)
cut_of_run lines zero m end below run =
    (0, (λ _. 0), cut_none m.pending, ap (λ (x : Memory). x.persisted) run ∙ sym (image_of-none lines m.pending m.persisted))
cut_of_run lines (suc n) m end below (mid, change, run) =
    let below_was = subst (LinesBelow lines) change.pending_was below in
    let left = subst (LinesBelow lines) (sym change.pending_is) (lines_left lines change.earlier change.entry change.later below_was) in
    let (k, count, cut, is) = cut_of_run lines n mid end left run in
    let (k', count', cut', same) = cut_before lines change.earlier change.entry change.later change.free below_was k count (subst (IsCut k count) change.pending_is cut) in (
      k',
      count',
      subst (IsCut k' count') (sym change.pending_was) cut',
      is
          ∙ ap₂ (image_of lines count) change.pending_is change.persisted_is
          ∙ sym (same m.persisted)
          ∙ ap (λ es. image_of lines count' es m.persisted) (sym change.pending_was),
    )
