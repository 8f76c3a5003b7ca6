-- What a straight-line program may leave, a window at a time.
use Rattle.std.proofs.Common.{◌≡◌, ◌≢◌, ℕ, inl, inr, Bool, true, false, List, [], ◌∷◌, ◌++◌, refl, sym, ap, subst, ◌∙◌, true≢false}
use Rattle.std.specs.Prelude.{◌⊎◌, ◌==◌, slice_set, if◌then◌else◌}
use Rattle.std.proofs.lemmas.Bool.{cases_Bool, eqb-true, eq-eqb}
use Rattle.std.proofs.lemmas.List.{append_assoc, append-nil}
use Rattle.lines_layout.specs.Lines.{line_of}
use Rattle.store_buffer.specs.declared.entry.Entry.{Entry}
use Rattle.store_buffer.specs.declared.entry.Entry.TheVariants as entries
use Rattle.persist_buffer.specs.declared.entry.PendingEntry.{PendingEntry}
use Rattle.persist_buffer.specs.declared.entry.PendingEntry.TheVariants.{Write, Marker}
use Rattle.explore.specs.Canonical.{MayLeave, with_line}
use Rattle.explore.specs.FenceMemories.{is_flushed, pending_in, unflushed, with_flushed}
use Rattle.explore.proofs.DominatedLists.{below_behind, below_then, fewer_markers, is_there, is_there_too, marker_goes, among_the_others}
use Rattle.explore.proofs.Late.{IsBelow, IsLate, is_among, markers, pending_by, without}
use Rattle.explore.proofs.ListWindows.{AreOpen, applied_other, open_later, set_other, still_open, applied, carried, has_marker}

-- whether no fence is there
abbrev pub is_window : List Entry → Bool
is_window [] = true
is_window (entries.Write word value ∷ later) = is_window later
is_window (entries.Flush line ∷ later) = is_window later
is_window (entries.FlushOpt line ∷ later) = is_window later
is_window (entries.Sfence ∷ later) = false

-- ---- a late list in two parts, at a fence

abbrev pub Splits : List ℕ → List Entry → List Entry → List PendingEntry → Type 0
Splits waiting es later late = (first : List PendingEntry) × (next : List PendingEntry) × (late ≡ first ++ next) × IsLate waiting (es ++ entries.Sfence ∷ []) first × IsLate [] later next

pub late_splits : (waiting : List ℕ) (es later : List Entry) (late : List PendingEntry) → IsLate waiting (es ++ entries.Sfence ∷ later) late → Splits waiting es later late
late_splits waiting [] later late (rest, whole, is) = (markers waiting ++ [], rest, whole ∙ ap (λ (xs : List PendingEntry). xs ++ rest) (sym (append-nil (markers waiting))), ([], refl, refl), is)
late_splits waiting (entries.Write word value ∷ es) later late (inl (rest, whole, is)) =
    let (first, next, both, there, after) = late_splits waiting es later rest is in
    (Write word value ∷ first, next, whole ∙ ap (λ (xs : List PendingEntry). Write word value ∷ xs) both, inl (first, refl, there), after)
late_splits waiting (entries.Write word value ∷ es) later late (inr (rest, waits, whole, is)) =
    let (first, next, both, there, after) = late_splits (without (line_of word) waiting) es later rest is in
    (Marker (line_of word) ∷ Write word value ∷ first, next, whole ∙ ap (λ (xs : List PendingEntry). Marker (line_of word) ∷ Write word value ∷ xs) both, inr (first, waits, refl, there), after)
late_splits waiting (entries.Flush line ∷ es) later late (rest, whole, is) =
    let (first, next, both, there, after) = late_splits (without line waiting) es later rest is in
    (Marker line ∷ first, next, whole ∙ ap (λ (xs : List PendingEntry). Marker line ∷ xs) both, (first, refl, there), after)
late_splits waiting (entries.FlushOpt line ∷ es) later late is = late_splits (line ∷ waiting) es later late is
late_splits waiting (entries.Sfence ∷ es) later late (rest, whole, is) =
    let (first, next, both, there, after) = late_splits [] es later rest is in
    (markers waiting ++ first, next, whole ∙ ap (λ (xs : List PendingEntry). markers waiting ++ xs) both ∙ sym (append_assoc (markers waiting) first next), (first, refl, there), after)

-- ---- where nothing is behind it: no optimized flush is needed

pub late_is_plain : (waiting : List ℕ) (es : List Entry) (late : List PendingEntry) → IsLate waiting es late → IsBelow late (pending_in es)
late_is_plain waiting [] late is = subst (λ (xs : List PendingEntry). IsBelow xs []) (sym is) (λ blocked old new may. may)
late_is_plain waiting (entries.Write word value ∷ es) late (inl (rest, whole, is)) =
    subst (λ (xs : List PendingEntry). IsBelow xs (Write word value ∷ pending_in es)) (sym whole) (below_behind (Write word value) rest (pending_in es) (late_is_plain waiting es rest is))
late_is_plain waiting (entries.Write word value ∷ es) late (inr (rest, waits, whole, is)) =
    subst (λ (xs : List PendingEntry). IsBelow xs (Write word value ∷ pending_in es)) (sym whole)
    (below_then (Marker (line_of word) ∷ Write word value ∷ rest) (Write word value ∷ rest) (Write word value ∷ pending_in es) (marker_goes (line_of word) (Write word value ∷ rest))
    (below_behind (Write word value) rest (pending_in es) (late_is_plain (without (line_of word) waiting) es rest is)))
late_is_plain waiting (entries.Flush line ∷ es) late (rest, whole, is) =
    subst (λ (xs : List PendingEntry). IsBelow xs (Marker line ∷ pending_in es)) (sym whole) (below_behind (Marker line) rest (pending_in es) (late_is_plain (without line waiting) es rest is))
late_is_plain waiting (entries.FlushOpt line ∷ es) late is = late_is_plain (line ∷ waiting) es late is
late_is_plain waiting (entries.Sfence ∷ es) late (rest, whole, is) =
    subst (λ (xs : List PendingEntry). IsBelow xs (pending_in es)) (sym whole) (below_then (markers waiting ++ rest) rest (pending_in es) (fewer_markers waiting [] rest (λ l e. absurd (true≢false (sym e)))) (late_is_plain [] es rest is))

pub closed_is_plain : (es : List Entry) → pending_in (es ++ entries.Sfence ∷ []) ≡ pending_in es
closed_is_plain [] = refl
closed_is_plain (entries.Write word value ∷ es) = ap (λ (xs : List PendingEntry). Write word value ∷ xs) (closed_is_plain es)
closed_is_plain (entries.Flush line ∷ es) = ap (λ (xs : List PendingEntry). Marker line ∷ xs) (closed_is_plain es)
closed_is_plain (entries.FlushOpt line ∷ es) = closed_is_plain es
closed_is_plain (entries.Sfence ∷ es) = closed_is_plain es

-- ---- what is flushed has a marker

pub with_first : (line other : ℕ) (b : Bool) → (if other == line then true else b) ≡ true → (other ≡ line) ⊎ (b ≡ true)
with_first line other b e = elim (cases_Bool (other == line)) [
  | inl same ↦ inl (eqb-true other line same)
  | inr apart ↦ inr (sym (ap (λ (c : Bool). if c then true else b) apart) ∙ e)
]

first_marker : (line other : ℕ) (es : List PendingEntry) → ((other ≢ line) → has_marker line es ≡ true) → has_marker line (Marker other ∷ es) ≡ true
first_marker line other es h = elim (cases_Bool (other == line)) [
  | inl same ↦ ap (λ (b : Bool). if b then true else has_marker line es) same
  | inr apart ↦ ap (λ (b : Bool). if b then true else has_marker line es) apart ∙ h (λ same. true≢false (sym (eq-eqb other line same) ∙ apart))
]

among_markers : (line : ℕ) (lines : List ℕ) (es : List PendingEntry) → (is_among line lines ≡ true) ⊎ (has_marker line es ≡ true) → has_marker line (markers lines ++ es) ≡ true
among_markers line [] es (inl e) = absurd (true≢false (sym e))
among_markers line [] es (inr e) = e
among_markers line (other ∷ lines) es h = first_marker line other (markers lines ++ es) (λ apart. among_markers line lines es (elim h [
  | inl e ↦ elim (with_first line other (is_among line lines) e) [ inl same ↦ absurd (apart same) | inr too ↦ inl too ]
  | inr e ↦ inr e
]))

-- it waits, or will
abbrev pub Comes : ℕ → List ℕ → List Entry → Type 0
Comes line waiting es = (is_among line waiting ≡ true) ⊎ (is_flushed line es ≡ true)

comes_apart : (line other : ℕ) (waiting : List ℕ) (es : List Entry) → other ≢ line → Comes line waiting es → Comes line (without other waiting) es
comes_apart line other waiting es apart (inl e) = inl (among_the_others other line waiting apart e)
comes_apart line other waiting es apart (inr e) = inr e

pub marker_comes : (line : ℕ) (waiting : List ℕ) (es : List Entry) (late : List PendingEntry) → Comes line waiting es → IsLate waiting (es ++ entries.Sfence ∷ []) late → has_marker line late ≡ true
marker_comes line waiting [] late (inl e) (rest, whole, is) = ap (has_marker line) whole ∙ among_markers line waiting rest (inl e)
marker_comes line waiting [] late (inr e) is = absurd (true≢false (sym e))
marker_comes line waiting (entries.Write word value ∷ es) late comes (inl (rest, whole, is)) = ap (has_marker line) whole ∙ marker_comes line waiting es rest comes is
marker_comes line waiting (entries.Write word value ∷ es) late comes (inr (rest, waits, whole, is)) =
    ap (has_marker line) whole ∙ first_marker line (line_of word) (Write word value ∷ rest) (λ apart. marker_comes line (without (line_of word) waiting) es rest (comes_apart line (line_of word) waiting es apart comes) is)
marker_comes line waiting (entries.Flush other ∷ es) late comes (rest, whole, is) =
    ap (has_marker line) whole ∙ first_marker line other rest (λ apart. marker_comes line (without other waiting) es rest (comes_apart line other waiting es apart (still apart comes)) is)
  where
    still : other ≢ line → Comes line waiting (entries.Flush other ∷ es) → Comes line waiting es
    still apart (inl e) = inl e
    still apart (inr e) = elim (with_first line other (is_flushed line es) e) [ inl same ↦ absurd (apart same) | inr too ↦ inr too ]
marker_comes line waiting (entries.FlushOpt other ∷ es) late comes is = marker_comes line (other ∷ waiting) es late (still comes) is
  where
    still : Comes line waiting (entries.FlushOpt other ∷ es) → Comes line (other ∷ waiting) es
    still (inl e) = inl (is_there_too line other waiting e)
    still (inr e) = elim (with_first line other (is_flushed line es) e) [
      | inl same ↦ inl (subst (λ (x : ℕ). is_among x (other ∷ waiting) ≡ true) same (is_there other waiting))
      | inr too ↦ inr too
    ]
marker_comes line waiting (entries.Sfence ∷ es) late (inl e) (rest, whole, is) = ap (has_marker line) whole ∙ among_markers line waiting rest (inl e)
marker_comes line waiting (entries.Sfence ∷ es) late (inr e) (rest, whole, is) = ap (has_marker line) whole ∙ among_markers line waiting rest (inr (marker_comes line [] es rest (inr e) is))

-- ---- what is flushed, by the program

flushed_other : (word value : ℕ) (es : List Entry) (old : List ℕ) → is_flushed (line_of word) es ≡ false → with_flushed es (slice_set old word value) ≡ slice_set (with_flushed es old) word value
flushed_other word value [] old none = refl
flushed_other word value (entries.Write other number ∷ es) old none =
    elim (cases_Bool (is_flushed (line_of other) es)) [
      | inl covered ↦
          let apart : word ≢ other = λ same. true≢false (sym covered ∙ ap (λ (x : ℕ). is_flushed (line_of x) es) (sym same) ∙ none) in
          rw (covered, set_other old word other value number apart) (flushed_other word value es (slice_set old other number) none)
      | inr not ↦ rw not (flushed_other word value es old none)
    ]
flushed_other word value (entries.Flush line ∷ es) old none = flushed_other word value es old (not_first (line == line_of word) (is_flushed (line_of word) es) none)
  where
    not_first : (b c : Bool) → (if b then true else c) ≡ false → c ≡ false
    not_first true c e = absurd (true≢false e)
    not_first false c e = e
flushed_other word value (entries.FlushOpt line ∷ es) old none = flushed_other word value es old (not_first (line == line_of word) (is_flushed (line_of word) es) none)
  where
    not_first : (b c : Bool) → (if b then true else c) ≡ false → c ≡ false
    not_first true c e = absurd (true≢false e)
    not_first false c e = e
flushed_other word value (entries.Sfence ∷ es) old none = flushed_other word value es old none

-- what is left behind a late list is left behind its program
abbrev Carries : List PendingEntry → List PendingEntry → List Entry → Type 0
Carries ys late es = (blocked : ℕ → Bool) (old new : List ℕ) → AreOpen blocked late → MayLeave blocked (carried late ++ ys) (applied late old) new → MayLeave blocked (pending_by (unflushed es) ++ ys) (with_flushed es old) new

-- a write first
write_carries : (word value : ℕ) (ys late : List PendingEntry) (es : List Entry) → (is_flushed (line_of word) es ≡ true → has_marker (line_of word) late ≡ true) → Carries ys late es → Carries ys (Write word value ∷ late) (entries.Write word value ∷ es)
write_carries word value ys late es comes h blocked old new opened may = by (cases_Bool (has_marker (line_of word) late)) (cases_Bool (is_flushed (line_of word) es))
  where
    -- the program does not cover it: it is there, and leaves
    leaves : is_flushed (line_of word) es ≡ false → blocked (line_of word) ≡ false → MayLeave blocked (carried late ++ ys) (applied late (slice_set old word value)) new
        → MayLeave blocked (Write word value ∷ pending_by (unflushed es) ++ ys) (with_flushed es old) new
    leaves not free more = inl (free, subst (λ (values : List ℕ). MayLeave blocked (pending_by (unflushed es) ++ ys) values new) (flushed_other word value es old not) (h blocked (slice_set old word value) new opened more))

    by : (has_marker (line_of word) late ≡ true) ⊎ (has_marker (line_of word) late ≡ false) → (is_flushed (line_of word) es ≡ true) ⊎ (is_flushed (line_of word) es ≡ false)
        → MayLeave blocked (pending_by (unflushed (entries.Write word value ∷ es)) ++ ys) (with_flushed (entries.Write word value ∷ es) old) new
    by (inl marked) (inl is) =
        let more : MayLeave blocked (carried late ++ ys) (applied late (slice_set old word value)) new = rw marked at may in
        rw is (h blocked (slice_set old word value) new opened more)
    by (inl marked) (inr not) =
        let more : MayLeave blocked (carried late ++ ys) (applied late (slice_set old word value)) new = rw marked at may in
        let gone : MayLeave blocked (Write word value ∷ pending_by (unflushed es) ++ ys) (with_flushed es old) new = leaves not (opened (line_of word) marked) more in
        rw not gone
    by (inr none) (inl is) = absurd (true≢false (sym (comes is) ∙ none))
    by (inr none) (inr not) =
        let more : MayLeave blocked (Write word value ∷ carried late ++ ys) (applied late old) new = rw none at may in
        let gone : MayLeave blocked (Write word value ∷ pending_by (unflushed es) ++ ys) (with_flushed es old) new = elim more [
          | inl (free, rest) ↦ leaves not free (subst (λ (values : List ℕ). MayLeave blocked (carried late ++ ys) values new) (sym (applied_other word value late old none)) rest)
          | inr rest ↦ inr (h (with_line (line_of word) blocked) old new (still_open (line_of word) blocked late none opened) rest)
        ] in
        rw not gone

marker_carries : (line : ℕ) (ys late : List PendingEntry) (es : List Entry) → Carries ys late es → Carries ys (Marker line ∷ late) es
marker_carries line ys late es h blocked old new opened may = h blocked old new (open_later line blocked late opened) may

markers_carry : (lines : List ℕ) (ys late : List PendingEntry) (es : List Entry) → Carries ys late es → Carries ys (markers lines ++ late) es
markers_carry [] ys late es h = h
markers_carry (line ∷ lines) ys late es h = marker_carries line ys (markers lines ++ late) es (markers_carry lines ys late es h)

pub late_carries : (waiting : List ℕ) (es : List Entry) (ys late : List PendingEntry) → IsLate waiting (es ++ entries.Sfence ∷ []) late → Carries ys late es
late_carries waiting [] ys late (rest, whole, is) =
    subst (λ (xs : List PendingEntry). Carries ys xs []) (sym whole) (markers_carry waiting ys rest [] (subst (λ (xs : List PendingEntry). Carries ys xs []) (sym is) (λ blocked old new opened may. may)))
late_carries waiting (entries.Write word value ∷ es) ys late (inl (rest, whole, is)) =
    subst (λ (xs : List PendingEntry). Carries ys xs (entries.Write word value ∷ es)) (sym whole)
    (write_carries word value ys rest es (λ e. marker_comes (line_of word) waiting es rest (inr e) is) (late_carries waiting es ys rest is))
late_carries waiting (entries.Write word value ∷ es) ys late (inr (rest, waits, whole, is)) =
    subst (λ (xs : List PendingEntry). Carries ys xs (entries.Write word value ∷ es)) (sym whole)
    (marker_carries (line_of word) ys (Write word value ∷ rest) (entries.Write word value ∷ es)
    (write_carries word value ys rest es (λ e. marker_comes (line_of word) (without (line_of word) waiting) es rest (inr e) is) (late_carries (without (line_of word) waiting) es ys rest is)))
late_carries waiting (entries.Flush line ∷ es) ys late (rest, whole, is) =
    subst (λ (xs : List PendingEntry). Carries ys xs es) (sym whole) (marker_carries line ys rest es (late_carries (without line waiting) es ys rest is))
late_carries waiting (entries.FlushOpt line ∷ es) ys late is = late_carries (line ∷ waiting) es ys late is
late_carries waiting (entries.Sfence ∷ es) ys late (rest, whole, is) =
    subst (λ (xs : List PendingEntry). Carries ys xs es) (sym whole) (markers_carry waiting ys rest es (late_carries [] es ys rest is))
