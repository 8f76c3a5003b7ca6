-- What may leave a pending list in two parts may leave the first, or what its markers do not cover and the second.
use Rattle.std.proofs.Common.{◌≡◌, ◌≢◌, ℕ, zero, suc, inl, inr, Bool, true, false, List, [], ◌∷◌, ◌++◌, refl, sym, ap, subst, ◌∙◌, true≢false}
use Rattle.std.specs.Prelude.{◌⊎◌, ◌==◌, slice_set, if◌then◌else◌}
use Rattle.std.proofs.lemmas.Bool.{cases_Bool, eqb-true, eq-eqb}
use Rattle.lines_layout.specs.Lines.{line_of}
use Rattle.persist_buffer.specs.declared.entry.PendingEntry.{PendingEntry}
use Rattle.persist_buffer.specs.declared.entry.PendingEntry.TheVariants.{Write, Marker}
use Rattle.explore.specs.Canonical.{MayLeave, no_line, with_line}
use Rattle.explore.proofs.DominatedLists.{goes_on}

-- whether there is a marker of a line
abbrev pub has_marker : ℕ → List PendingEntry → Bool
has_marker line [] = false
has_marker line (Write word value ∷ later) = has_marker line later
has_marker line (Marker other ∷ later) = if other == line then true else has_marker line later

-- the writes that no marker covers: none of their line is behind them
abbrev pub carried : List PendingEntry → List PendingEntry
carried [] = []
carried (Write word value ∷ later) = if has_marker (line_of word) later then carried later else Write word value ∷ carried later
carried (Marker line ∷ later) = carried later

-- the persisted values once the others have left
abbrev pub applied : List PendingEntry → List ℕ → List ℕ
applied [] old = old
applied (Write word value ∷ later) old = if has_marker (line_of word) later then applied later (slice_set old word value) else applied later old
applied (Marker line ∷ later) old = applied later old

-- two places are set in any order
pub set_other : (xs : List ℕ) (i j x y : ℕ) → i ≢ j → slice_set (slice_set xs i x) j y ≡ slice_set (slice_set xs j y) i x
set_other [] i j x y apart = refl
set_other (z ∷ xs) zero zero x y apart = absurd (apart refl)
set_other (z ∷ xs) zero (suc j) x y apart = refl
set_other (z ∷ xs) (suc i) zero x y apart = refl
set_other (z ∷ xs) (suc i) (suc j) x y apart = ap (λ (ys : List ℕ). z ∷ ys) (set_other xs i j x y (λ e. apart (ap suc e)))

-- no line with a marker is blocked
abbrev pub AreOpen : (ℕ → Bool) → List PendingEntry → Type 0
AreOpen blocked es = (line : ℕ) → has_marker line es ≡ true → blocked line ≡ false

free_too : (line : ℕ) (blocked : ℕ → Bool) (l : ℕ) → with_line line blocked l ≡ false → blocked l ≡ false
free_too line blocked l = by (line == l)
  where
    by : (same : Bool) → (if same then true else blocked l) ≡ false → blocked l ≡ false
    by true e = absurd (true≢false e)
    by false e = e

never_free : (line : ℕ) (blocked : ℕ → Bool) → with_line line blocked line ≡ false → ⊥
never_free line blocked e = true≢false (sym (ap (λ (same : Bool). if same then true else blocked line) (eq-eqb line line refl)) ∙ e)

-- a line without a marker may be blocked too
pub still_open : (line : ℕ) (blocked : ℕ → Bool) (es : List PendingEntry) → has_marker line es ≡ false → AreOpen blocked es → AreOpen (with_line line blocked) es
still_open line blocked es none h l e = elim (cases_Bool (line == l)) [
  | inl same ↦ absurd (true≢false (sym e ∙ ap (λ (x : ℕ). has_marker x es) (sym (eqb-true line l same)) ∙ none))
  | inr other ↦ ap (λ (b : Bool). if b then true else blocked l) other ∙ h l e
]

open_with : (line : ℕ) (blocked : ℕ → Bool) (es : List PendingEntry) → blocked line ≡ false → AreOpen blocked es → AreOpen blocked (Marker line ∷ es)
open_with line blocked es free h l e = elim (cases_Bool (line == l)) [
  | inl same ↦ ap blocked (sym (eqb-true line l same)) ∙ free
  | inr other ↦ h l (sym (ap (λ (b : Bool). if b then true else has_marker l es) other) ∙ e)
]

pub open_later : (line : ℕ) (blocked : ℕ → Bool) (es : List PendingEntry) → AreOpen blocked (Marker line ∷ es) → AreOpen blocked es
open_later line blocked es h l e = h l (by (line == l))
  where
    by : (b : Bool) → (if b then true else has_marker l es) ≡ true
    by true = refl
    by false = e

open_first : (line : ℕ) (blocked : ℕ → Bool) (es : List PendingEntry) → AreOpen blocked (Marker line ∷ es) → blocked line ≡ false
open_first line blocked es h = h line (ap (λ (b : Bool). if b then true else has_marker line es) (eq-eqb line line refl))

-- a write of a line without a marker comes after those that are covered
pub applied_other : (word value : ℕ) (es : List PendingEntry) (old : List ℕ) → has_marker (line_of word) es ≡ false → applied es (slice_set old word value) ≡ slice_set (applied es old) word value
applied_other word value [] old none = refl
applied_other word value (Write other number ∷ es) old none =
    elim (cases_Bool (has_marker (line_of other) es)) [
      | inl covered ↦
          let apart : word ≢ other = λ same. true≢false (sym covered ∙ ap (λ (x : ℕ). has_marker (line_of x) es) (sym same) ∙ none) in
          rw (covered, set_other old word other value number apart) (applied_other word value es (slice_set old other number) none)
      | inr not ↦ rw not (applied_other word value es old none)
    ]
applied_other word value (Marker line ∷ es) old none = applied_other word value es old (by (line == line_of word) none)
  where
    by : (b : Bool) → (if b then true else has_marker (line_of word) es) ≡ false → has_marker (line_of word) es ≡ false
    by true e = absurd (true≢false e)
    by false e = e

-- ---- the law

abbrev pub ByWindows : (ℕ → Bool) → List PendingEntry → List PendingEntry → List ℕ → List ℕ → Type 0
ByWindows blocked xs ys old new = MayLeave blocked xs old new ⊎ (AreOpen blocked xs × MayLeave blocked (carried xs ++ ys) (applied xs old) new)

write_left : (blocked : ℕ → Bool) (word value : ℕ) (xs ys : List PendingEntry) (old new : List ℕ) → blocked (line_of word) ≡ false → ByWindows blocked xs ys (slice_set old word value) new → ByWindows blocked (Write word value ∷ xs) ys old new
write_left blocked word value xs ys old new free (inl may) = inl (inl (free, may))
write_left blocked word value xs ys old new free (inr (opened, may)) = inr (opened, by (cases_Bool (has_marker (line_of word) xs)))
  where
    by : (has_marker (line_of word) xs ≡ true) ⊎ (has_marker (line_of word) xs ≡ false) → MayLeave blocked (carried (Write word value ∷ xs) ++ ys) (applied (Write word value ∷ xs) old) new
    by (inl covered) = rw covered may
    by (inr not) =
        let more : MayLeave blocked (Write word value ∷ carried xs ++ ys) (applied xs old) new =
        inl (free, subst (λ (values : List ℕ). MayLeave blocked (carried xs ++ ys) values new) (applied_other word value xs old not) may) in
        rw not more

write_stayed : (blocked : ℕ → Bool) (word value : ℕ) (xs ys : List PendingEntry) (old new : List ℕ) → ByWindows (with_line (line_of word) blocked) xs ys old new → ByWindows blocked (Write word value ∷ xs) ys old new
write_stayed blocked word value xs ys old new (inl may) = inl (inr may)
write_stayed blocked word value xs ys old new (inr (opened, may)) = by (cases_Bool (has_marker (line_of word) xs))
  where
    by : (has_marker (line_of word) xs ≡ true) ⊎ (has_marker (line_of word) xs ≡ false) → ByWindows blocked (Write word value ∷ xs) ys old new
    by (inl covered) = absurd (never_free (line_of word) blocked (opened (line_of word) covered))
    by (inr not) =
        let more : MayLeave blocked (Write word value ∷ carried xs ++ ys) (applied xs old) new = inr may in
        inr ((λ l e. free_too (line_of word) blocked l (opened l e)), rw not more)

by_windows : (blocked : ℕ → Bool) (xs ys : List PendingEntry) (old new : List ℕ) → MayLeave blocked (xs ++ ys) old new → ByWindows blocked xs ys old new
by_windows blocked [] ys old new may = inr ((λ l e. absurd (true≢false (sym e))), may)
by_windows blocked (Write word value ∷ xs) ys old new (inl (free, more)) = write_left blocked word value xs ys old new free (by_windows blocked xs ys (slice_set old word value) new more)
by_windows blocked (Write word value ∷ xs) ys old new (inr more) = write_stayed blocked word value xs ys old new (by_windows (with_line (line_of word) blocked) xs ys old new more)
by_windows blocked (Marker line ∷ xs) ys old new (inl (free, more)) = elim (by_windows blocked xs ys old new more) [
  | inl may ↦ inl (inl (free, may))
  | inr next ↦ inr (open_with line blocked xs free next.0, next.1)
]
by_windows blocked (Marker line ∷ xs) ys old new (inr same) = inl (inr same)

-- and the other way
next_window : (blocked : ℕ → Bool) (xs ys : List PendingEntry) (old new : List ℕ) → AreOpen blocked xs → MayLeave blocked (carried xs ++ ys) (applied xs old) new → MayLeave blocked (xs ++ ys) old new
next_window blocked [] ys old new opened may = may
next_window blocked (Write word value ∷ xs) ys old new opened may = elim (cases_Bool (has_marker (line_of word) xs)) [
  | inl covered ↦
      let more : MayLeave blocked (carried xs ++ ys) (applied xs (slice_set old word value)) new = rw covered at may in
      inl (opened (line_of word) covered, next_window blocked xs ys (slice_set old word value) new opened more)
  | inr not ↦
      let more : MayLeave blocked (Write word value ∷ carried xs ++ ys) (applied xs old) new = rw not at may in
      elim more [
        | inl (free, rest) ↦ inl (free, next_window blocked xs ys (slice_set old word value) new opened (subst (λ (values : List ℕ). MayLeave blocked (carried xs ++ ys) values new) (sym (applied_other word value xs old not)) rest))
        | inr rest ↦ inr (next_window (with_line (line_of word) blocked) xs ys old new (still_open (line_of word) blocked xs not opened) rest)
      ]
]
next_window blocked (Marker line ∷ xs) ys old new opened may = inl (open_first line blocked xs opened, next_window blocked xs ys old new (open_later line blocked xs opened) may)

pub all_open : (es : List PendingEntry) → AreOpen no_line es
all_open es line e = refl

-- where nothing is blocked
pub two_windows : (xs ys : List PendingEntry) (old new : List ℕ) → MayLeave no_line (xs ++ ys) old new → MayLeave no_line xs old new ⊎ MayLeave no_line (carried xs ++ ys) (applied xs old) new
two_windows xs ys old new may = elim (by_windows no_line xs ys old new may) [ inl first ↦ inl first | inr next ↦ inr next.1 ]

pub one_window : (xs ys : List PendingEntry) (old new : List ℕ) → MayLeave no_line xs old new ⊎ MayLeave no_line (carried xs ++ ys) (applied xs old) new → MayLeave no_line (xs ++ ys) old new
one_window xs ys old new (inl first) = goes_on xs ys no_line old new first
one_window xs ys old new (inr next) = next_window no_line xs ys old new (all_open xs) next
