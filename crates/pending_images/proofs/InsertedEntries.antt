-- What markers and counts are where an entry stands among others that need not leave before it.
use Rattle.std.proofs.Common.{◌≡◌, ℕ, zero, suc, ◌+◌, ◌==◌, true, false, cond, List, [], ◌∷◌, ◌++◌, refl, ap, Some, arith, true≢false, sym, ◌∙◌}
use Rattle.persist_buffer.specs.declared.entry.PendingEntry.{PendingEntry}
use Rattle.persist_buffer.specs.declared.entry.PendingEntry.TheVariants.{Write, Marker}
use Rattle.lines_layout.specs.Lines.{line_of}
use Rattle.persist_buffer.specs.Listings.{writes_on}
use Rattle.pending_images.specs.Candidates.{markers, marker_at, before}
use Rattle.pending_images.proofs.CountsBeforeMarkers.{one, before_more, before_past, markers_write, markers_more}
use Rattle.pending_images.proofs.LeavingEntries.{IsFree}

pub markers-write : (word value : ℕ) (p q : List PendingEntry) → markers (p ++ Write word value ∷ q) ≡ markers (p ++ q)
markers-write word value [] q = markers_write word value q
markers-write word value (Write x v ∷ p) q = markers_write x v (p ++ Write word value ∷ q) ∙ markers-write word value p q ∙ sym (markers_write x v (p ++ q))
markers-write word value (Marker l ∷ p) q = markers_more l (p ++ Write word value ∷ q) ∙ ap (λ n. 1 + n) (markers-write word value p q) ∙ sym (markers_more l (p ++ q))

pub marker_at-write : (k word value : ℕ) (p q : List PendingEntry) → marker_at k (p ++ Write word value ∷ q) ≡ marker_at k (p ++ q)
marker_at-write k word value [] q = refl
marker_at-write k word value (Write x v ∷ p) q = marker_at-write k word value p q
marker_at-write zero word value (Marker l ∷ p) q = refl
marker_at-write (suc k) word value (Marker l ∷ p) q = marker_at-write k word value p q

pub before-write : (line k word value l : ℕ) (p q : List PendingEntry) → IsFree l p → before line k (p ++ Write word value ∷ q) ≡ one line word + before line k (p ++ q)
before-write line k word value l [] q free = before_more line k word value q
before-write line k word value l (Write x v ∷ p) q free =
    let h = before-write line k word value l p q free.1 in
    let a = before_more line k x v (p ++ Write word value ∷ q) in
    let b = before_more line k x v (p ++ q) in
    omega (arith, h, a, b)
before-write line k word value l (Marker m ∷ p) q free = absurd (true≢false free.0)

pub markers-marker : (line : ℕ) (p q : List PendingEntry) → markers (p ++ Marker line ∷ q) ≡ 1 + markers (p ++ q)
markers-marker line [] q = markers_more line q
markers-marker line (Write x v ∷ p) q = markers_write x v (p ++ Marker line ∷ q) ∙ markers-marker line p q ∙ ap (λ n. 1 + n) (sym (markers_write x v (p ++ q)))
markers-marker line (Marker l ∷ p) q = markers_more l (p ++ Marker line ∷ q) ∙ ap (λ n. 1 + n) (markers-marker line p q ∙ sym (markers_more l (p ++ q)))

pub marker_at-first : (line l : ℕ) (p q : List PendingEntry) → IsFree l p → marker_at zero (p ++ Marker line ∷ q) ≡ Some (Marker line)
marker_at-first line l [] q free = refl
marker_at-first line l (Write x v ∷ p) q free = marker_at-first line l p q free.1
marker_at-first line l (Marker m ∷ p) q free = absurd (true≢false free.0)

pub marker_at-later : (k line l : ℕ) (p q : List PendingEntry) → IsFree l p → marker_at (suc k) (p ++ Marker line ∷ q) ≡ marker_at k (p ++ q)
marker_at-later k line l [] q free = refl
marker_at-later k line l (Write x v ∷ p) q free = marker_at-later k line l p q free.1
marker_at-later k line l (Marker m ∷ p) q free = absurd (true≢false free.0)

pub before-later : (line k other l : ℕ) (p q : List PendingEntry) → IsFree l p → before line (suc k) (p ++ Marker other ∷ q) ≡ before line k (p ++ q)
before-later line k other l [] q free = before_past line k other q
before-later line k other l (Write x v ∷ p) q free =
    before_more line (suc k) x v (p ++ Marker other ∷ q) ∙ ap (λ n. one line x + n) (before-later line k other l p q free.1) ∙ sym (before_more line k x v (p ++ q))
before-later line k other l (Marker m ∷ p) q free = absurd (true≢false free.0)

pub before-first : (line : ℕ) (p q : List PendingEntry) → IsFree line p → before line zero (p ++ Marker line ∷ q) ≡ 0
before-first line [] q free = refl
before-first line (Write x v ∷ p) q free =
    let h = before-first line p q free.1 in
    let o : one line x ≡ 0 = rw free.0 refl in
    let a = before_more line zero x v (p ++ Marker line ∷ q) in
    omega (arith, h, o, a)
before-first line (Marker m ∷ p) q free = absurd (true≢false free.0)

pub writes_on-marker : (line other : ℕ) (p q : List PendingEntry) → writes_on line (p ++ Marker other ∷ q) ≡ writes_on line (p ++ q)
writes_on-marker line other [] q = refl
writes_on-marker line other (Write x v ∷ p) q = ap (λ ws. cond (line_of x == line) (Write x v ∷ ws) ws) (writes_on-marker line other p q)
writes_on-marker line other (Marker m ∷ p) q = writes_on-marker line other p q

pub writes_on-other : (line word value : ℕ) (p q : List PendingEntry) → (line_of word == line) ≡ false → writes_on line (p ++ Write word value ∷ q) ≡ writes_on line (p ++ q)
writes_on-other line word value [] q other = rw other refl
writes_on-other line word value (Write x v ∷ p) q other = ap (λ ws. cond (line_of x == line) (Write x v ∷ ws) ws) (writes_on-other line word value p q other)
writes_on-other line word value (Marker m ∷ p) q other = writes_on-other line word value p q other

pub writes_on-same : (line word value : ℕ) (p q : List PendingEntry) → (line_of word == line) ≡ true → IsFree line p → writes_on line (p ++ Write word value ∷ q) ≡ Write word value ∷ writes_on line (p ++ q)
writes_on-same line word value [] q same free = rw same refl
writes_on-same line word value (Write x v ∷ p) q same free = rw free.0 (writes_on-same line word value p q same free.1)
writes_on-same line word value (Marker m ∷ p) q same free = absurd (true≢false free.0)
