-- How many writes stand before a marker, and how many must be persisted.
use Rattle.std.proofs.Common.{◌≡◌, ◌≢◌, ℕ, zero, suc, ◌+◌, ◌-◌, ◌<◌, ◌≤◌, ◌==◌, Bool, true, false, cond, List, [], ◌∷◌, refl, ap, sym, ◌∙◌, Option, Some, None, arith, length, inl, inr, ne_eqb, eq-eqb}
use Rattle.std.specs.Prelude.{count_by}
use Rattle.std.proofs.lemmas.Bool.Decides.{eqb_tells}
use Rattle.std.proofs.lemmas.List.Sums.{sum_by-cons}
use Rattle.lines_layout.specs.Lines.{line_of}
use Rattle.persist_buffer.specs.declared.entry.PendingEntry.{PendingEntry}
use Rattle.persist_buffer.specs.declared.entry.PendingEntry.TheVariants.{Write, Marker}
use Rattle.persist_buffer.specs.Memories.{is_write_on, is_marker}
use Rattle.persist_buffer.specs.Listings.{LinesBelow, writes_on, before_marker}
use Rattle.pending_images.specs.Candidates.{markers, marker_at, before, low, is_of}

-- 1 where the word lies on the line
abbrev pub one : ℕ → ℕ → ℕ
one line word = cond (line_of word == line) 1 0

pub count_by-cons : (p : PendingEntry → Bool) (e : PendingEntry) (es : List PendingEntry) → count_by p (e ∷ es) ≡ cond (p e) 1 0 + count_by p es
count_by-cons p e es = sum_by-cons (λ d. cond (p d) 1 0) e es

-- one more write in front
pub before_more : (line k word value : ℕ) (es : List PendingEntry) → before line k (Write word value ∷ es) ≡ one line word + before line k es
before_more line k word value es = count_by-cons (is_write_on line) (Write word value) (before_marker k es)

-- one more marker in front
pub before_past : (line k other : ℕ) (es : List PendingEntry) → before line (suc k) (Marker other ∷ es) ≡ before line k es
before_past line k other es = refl

pub markers_write : (word value : ℕ) (es : List PendingEntry) → markers (Write word value ∷ es) ≡ markers es
markers_write word value es = refl

pub markers_more : (line : ℕ) (es : List PendingEntry) → markers (Marker line ∷ es) ≡ 1 + markers es
markers_more line es = count_by-cons is_marker (Marker line) es

before_next : (line k : ℕ) (es : List PendingEntry) → before line k es ≤ before line (suc k) es
before_next line k [] = omega arith
before_next line k (Write word value ∷ es) =
    let h = before_next line k es in
    let a = before_more line k word value es in
    let b = before_more line (suc k) word value es in
    omega (arith, h, a, b)
before_next line zero (Marker other ∷ es) = omega arith
before_next line (suc k) (Marker other ∷ es) =
    let h = before_next line k es in
    let a = before_past line k other es in
    let b = before_past line (suc k) other es in
    omega (arith, h, a, b)

pub before_later : (line j n : ℕ) (es : List PendingEntry) → before line j es ≤ before line (j + n) es
before_later line j zero es = let e : j + 0 ≡ j = omega arith in let f = ap (λ (m : ℕ). before line m es) e in omega (arith, f)
before_later line j (suc n) es =
    let e : j + suc n ≡ suc (j + n) = omega arith in
    let f = ap (λ (m : ℕ). before line m es) e in
    let g = before_later line j n es in
    let h = before_next line (j + n) es in
    omega (arith, f, g, h)

pub low_within : (line k : ℕ) (es : List PendingEntry) → low line k es ≤ before line k es
low_within line zero es = omega arith
low_within line (suc k) es =
    let h = low_within line k es in
    let n = before_next line k es in
    elim (is_of line (marker_at k es)) as (λ b. cond b (before line k es) (low line k es) ≤ before line (suc k) es) [ true ↦ n | false ↦ omega (arith, h, n) ]

one_length : (b : Bool) (e : PendingEntry) (es : List PendingEntry) → length (cond b (e ∷ es) es) ≡ cond b 1 0 + length es
one_length true e es = omega arith
one_length false e es = omega arith

pub before_within : (line k : ℕ) (es : List PendingEntry) → before line k es ≤ length (writes_on line es)
before_within line k [] = omega arith
before_within line k (Write word value ∷ es) =
    let h = before_within line k es in
    let a = before_more line k word value es in
    let b = one_length (line_of word == line) (Write word value) (writes_on line es) in
    omega (arith, h, a, b)
before_within line zero (Marker other ∷ es) = omega arith
before_within line (suc k) (Marker other ∷ es) = let h = before_within line k es in let a = before_past line k other es in omega (arith, h, a)

pub before_none : (lines line k : ℕ) (es : List PendingEntry) → LinesBelow lines es → lines ≤ line → before line k es ≡ 0
before_none lines line k [] below above = refl
before_none lines line k (Write word value ∷ es) below above =
    let h = before_none lines line k es below.1 above in
    let ne : line_of word ≢ line = omega (arith, below.0) in
    let o : one line word ≡ 0 = rw (ne_eqb _ _ ne) refl in
    let a = before_more line k word value es in
    omega (arith, h, a, o)
before_none lines line zero (Marker other ∷ es) below above = refl
before_none lines line (suc k) (Marker other ∷ es) below above = before_past line k other es ∙ before_none lines line k es below above

-- the least count of a line is what its markers ask
pub low_asked : (line k : ℕ) (es : List PendingEntry) (n : ℕ) → ((j : ℕ) → j < k → marker_at j es ≡ Some (Marker line) → before line j es ≤ n) → low line k es ≤ n
low_asked line zero es n h = omega arith
low_asked line (suc k) es n h = go (marker_at k es) refl (low_asked line k es n (λ j lt is. h j (omega arith) is))
  where
    go : (o : Option PendingEntry) → marker_at k es ≡ o → low line k es ≤ n → cond (is_of line o) (before line k es) (low line k es) ≤ n
    go None is rest = rest
    go (Some (Write word value)) is rest = rest
    go (Some (Marker l)) is rest =
        elim (eqb_tells l line) [
          | inl same ↦ rw same.0 (h k (omega arith) (is ∙ ap (λ (m : ℕ). Some (Marker m)) same.1))
          | inr other ↦ rw other.0 rest
        ]

pub asked_low : (line k j : ℕ) (es : List PendingEntry) → j < k → marker_at j es ≡ Some (Marker line) → before line j es ≤ low line k es
asked_low line zero j es lt is = absurd (omega arith)
asked_low line (suc k) j es lt is =
    elim (eqb_tells j k) [
      | inl same ↦
          let at : marker_at k es ≡ Some (Marker line) = ap (λ (i : ℕ). marker_at i es) (sym same.1) ∙ is in
          let t = eq-eqb line line refl in
          let e = ap (λ (i : ℕ). before line i es) same.1 in
          rw (at, t) (omega (arith, e))
      | inr other ↦
          let below : j < k = omega (arith, other.1) in
          let rest = asked_low line k j es below is in
          let e : j + (k - j) ≡ k = omega (arith, below) in
          let f = ap (λ (m : ℕ). before line m es) e in
          let g = before_later line j (k - j) es in
          elim (is_of line (marker_at k es)) as (λ b. before line j es ≤ cond b (before line k es) (low line k es)) [ true ↦ omega (arith, f, g) | false ↦ rest ]
    ]
