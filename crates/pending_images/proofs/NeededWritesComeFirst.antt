-- The writes that must be persisted can all be made first.
use Rattle.std.proofs.Common.{◌≡◌, ◌≢◌, ℕ, zero, suc, ◌+◌, ◌-◌, ◌<◌, ◌≤◌, List, [], ◌∷◌, ◌++◌, take, drop, refl, ap, ap₂, sym, ◌∙◌, arith, slice_set, inl, inr}
use Rattle.std.specs.Prelude.{slice_range}
use Rattle.std.specs.List.{AllByRecursion}
use Rattle.std.proofs.lemmas.List.{take-append-drop, take-take, drop-take}
use Rattle.lines_layout.specs.Lines.{line_of}
use Rattle.persist_buffer.specs.declared.entry.PendingEntry.{PendingEntry}
use Rattle.persist_buffer.specs.declared.entry.PendingEntry.TheVariants.{Write, Marker}
use Rattle.persist_buffer.specs.Listings.{writes_on}
use Rattle.pending_images.specs.ClosedSets.{line_named}
use Rattle.pending_images.specs.Cuts.{after, image_of, written}
use Rattle.pending_images.proofs.CutOfRun.{AreElsewhere, written-set, elsewhere-take, elsewhere-writes}
use Rattle.std.proofs.lemmas.Bool.Decides.{eqb_tells}

-- of each line below a number the writes from one number to another are persisted
abbrev pub tail_of : ℕ → (ℕ → ℕ) → (ℕ → ℕ) → List PendingEntry → List ℕ → List ℕ
tail_of zero from to es persisted = persisted
tail_of (suc line) from to es persisted = written (slice_range (writes_on line es) (from line) (to line)) (tail_of line from to es persisted)

elsewhere-drop : (n : ℕ) (line : ℕ) (es : List PendingEntry) → AreElsewhere line es → AreElsewhere line (drop n es)
elsewhere-drop zero line es h = h
elsewhere-drop (suc n) line [] h = tt
elsewhere-drop (suc n) line (e ∷ es) h = elsewhere-drop n line es h.1

tail_of-set : (lines : ℕ) (from to : ℕ → ℕ) (es : List PendingEntry) (persisted : List ℕ) (word value : ℕ) → lines ≤ line_of word
    → tail_of lines from to es (slice_set persisted word value) ≡ slice_set (tail_of lines from to es persisted) word value
tail_of-set zero from to es persisted word value past = refl
tail_of-set (suc line) from to es persisted word value past =
    let below : line ≤ line_of word = omega arith in
    let ne : line ≢ line_of word = omega arith in
    ap (written (slice_range (writes_on line es) (from line) (to line))) (tail_of-set line from to es persisted word value below)
    ∙ written-set _ (tail_of line from to es persisted) word value
    (elsewhere-take (to line - from line) (line_of word) (drop (from line) (writes_on line es)) (elsewhere-drop (from line) (line_of word) (writes_on line es) (elsewhere-writes (line_of word) line es ne)))

-- the line of each entry is this number or more
abbrev AreFrom : ℕ → List PendingEntry → Type 0
AreFrom lines es = AllByRecursion (λ e. lines ≤ line_named e) es

from-take : (n lines : ℕ) (es : List PendingEntry) → AreFrom lines es → AreFrom lines (take n es)
from-take zero lines es h = tt
from-take (suc n) lines [] h = tt
from-take (suc n) lines (e ∷ es) h = (h.0, from-take n lines es h.1)

from-writes : (line : ℕ) (es : List PendingEntry) → AreFrom line (writes_on line es)
from-writes line [] = tt
from-writes line (Write word value ∷ es) =
    elim (eqb_tells (line_of word) line) [
      | inl h ↦ rw h.0 ((let same = h.1 in omega (arith, same)), from-writes line es)
      | inr h ↦ rw h.0 (from-writes line es)
    ]
from-writes line (Marker other ∷ es) = from-writes line es

-- writes of later lines can come before
tail_past : (lines : ℕ) (from to : ℕ → ℕ) (es ws : List PendingEntry) (persisted : List ℕ) → AreFrom lines ws
    → tail_of lines from to es (written ws persisted) ≡ written ws (tail_of lines from to es persisted)
tail_past lines from to es [] persisted past = refl
tail_past lines from to es (Write word value ∷ ws) persisted past =
    tail_past lines from to es ws (slice_set persisted word value) past.1 ∙ ap (written ws) (tail_of-set lines from to es persisted word value past.0)
tail_past lines from to es (Marker line ∷ ws) persisted past = tail_past lines from to es ws persisted past.1

written-append : (es fs : List PendingEntry) (persisted : List ℕ) → written (es ++ fs) persisted ≡ written fs (written es persisted)
written-append [] fs persisted = refl
written-append (e ∷ es) fs persisted = written-append es fs (after e persisted)

first_and_more : (a b : ℕ) (ws : List PendingEntry) → a ≤ b → take a ws ++ slice_range ws a b ≡ take b ws
first_and_more a b ws within =
    let sum : a + (b - a) ≡ b = omega (arith, within) in
    ap₂ (λ (xs ys : List PendingEntry). xs ++ ys) (sym (take-take a b ws within)) (sym (drop-take a (b - a) ws) ∙ ap (λ (n : ℕ). drop a (take n ws)) sum)
    ∙ take-append-drop a (take b ws)

-- what must be persisted, and then the rest
pub tail_whole : (lines : ℕ) (from to : ℕ → ℕ) (es : List PendingEntry) (persisted : List ℕ) → ((line : ℕ) → line < lines → from line ≤ to line)
    → tail_of lines from to es (image_of lines from es persisted) ≡ image_of lines to es persisted
tail_whole zero from to es persisted within = refl
tail_whole (suc line) from to es persisted within =
    let ws = writes_on line es in
    let inner : List ℕ = image_of line from es persisted in
    ap (written (slice_range ws (from line) (to line)))
    (tail_past line from to es (take (from line) ws) inner (from-take (from line) line ws (from-writes line es))
    ∙ ap (written (take (from line) ws)) (tail_whole line from to es persisted (λ l lt. within l (omega arith))))
    ∙ sym (written-append (take (from line) ws) (slice_range ws (from line) (to line)) (image_of line to es persisted))
    ∙ ap (λ (xs : List PendingEntry). written xs (image_of line to es persisted)) (first_and_more (from line) (to line) ws (within line (omega arith)))
