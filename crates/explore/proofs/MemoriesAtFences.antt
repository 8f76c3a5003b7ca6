-- The memories of a program, one for each fence and one for the end, leave what its late lists leave.
use Rattle.std.proofs.Common.{◌≡◌, ℕ, inl, inr, Bool, true, false, List, [], ◌∷◌, ◌++◌, refl, sym, ap, subst, ◌∙◌, true≢false}
use Rattle.std.specs.Prelude.{◌⊎◌, ◌↔◌, ◌==◌, slice_set, if◌then◌else◌}
use Rattle.std.proofs.lemmas.Bool.{cases_Bool, eq-eqb}
use Rattle.std.proofs.lemmas.List.{append_assoc, append-nil}
use Rattle.lines_layout.specs.Lines.{line_of}
use Rattle.store_buffer.specs.declared.entry.Entry.{Entry}
use Rattle.store_buffer.specs.declared.entry.Entry.TheVariants as entries
use Rattle.persist_buffer.specs.declared.entry.PendingEntry.{PendingEntry}
use Rattle.persist_buffer.specs.declared.entry.PendingEntry.TheVariants.{Write, Marker}
use Rattle.explore.specs.Canonical.{MayLeave, no_line}
use Rattle.explore.specs.FenceMemories.{IsReachedInOne, is_flushed, memories_from, pending_in, unflushed, with_flushed}
use Rattle.explore.proofs.LeftByEntries.{may_leave_reached, reached_may_leave}
use Rattle.explore.proofs.DominatedLists.{goes_on, is_there, is_there_too, by_line, without_is_fewer}
use Rattle.explore.proofs.Late.{IsLate, IsLeftByALate, is_among, markers, pending_by, without}
use Rattle.explore.proofs.LateLists.{some_late}
use Rattle.explore.proofs.ListWindows.{all_open, one_window, two_windows, applied, carried, has_marker}
use Rattle.explore.proofs.ProgramWindows.{Comes, closed_is_plain, late_carries, late_is_plain, late_splits, marker_comes, with_first, is_window}

-- ---- the late list whose markers are as early as the choice lets them, up to a fence

abbrev pub earliest : List ℕ → List Entry → List PendingEntry
earliest waiting [] = markers waiting ++ []
earliest waiting (entries.Write word value ∷ later) =
    if is_among (line_of word) waiting then Marker (line_of word) ∷ Write word value ∷ earliest (without (line_of word) waiting) later else Write word value ∷ earliest waiting later
earliest waiting (entries.Flush line ∷ later) = Marker line ∷ earliest (without line waiting) later
earliest waiting (entries.FlushOpt line ∷ later) = earliest (line ∷ waiting) later
earliest waiting (entries.Sfence ∷ later) = markers waiting ++ earliest [] later

earliest_is_late : (waiting : List ℕ) (es later : List Entry) (next : List PendingEntry) → IsLate [] later next → IsLate waiting (es ++ entries.Sfence ∷ later) (earliest waiting es ++ next)
earliest_is_late waiting [] later next is = (next, ap (λ (xs : List PendingEntry). xs ++ next) (append-nil (markers waiting)), is)
earliest_is_late waiting (entries.Write word value ∷ es) later next is = elim (cases_Bool (is_among (line_of word) waiting)) [
  | inl waits ↦ inr (earliest (without (line_of word) waiting) es ++ next, waits, rw waits refl, earliest_is_late (without (line_of word) waiting) es later next is)
  | inr none ↦ inl (earliest waiting es ++ next, rw none refl, earliest_is_late waiting es later next is)
]
earliest_is_late waiting (entries.Flush line ∷ es) later next is = (earliest (without line waiting) es ++ next, refl, earliest_is_late (without line waiting) es later next is)
earliest_is_late waiting (entries.FlushOpt line ∷ es) later next is = earliest_is_late (line ∷ waiting) es later next is
earliest_is_late waiting (entries.Sfence ∷ es) later next is = (earliest [] es ++ next, append_assoc (markers waiting) (earliest [] es) next, earliest_is_late [] es later next is)

markers_among : (line : ℕ) (lines : List ℕ) (es : List PendingEntry) → has_marker line (markers lines ++ es) ≡ true → (is_among line lines ≡ true) ⊎ (has_marker line es ≡ true)
markers_among line [] es e = inr e
markers_among line (other ∷ lines) es e = elim (with_first line other (has_marker line (markers lines ++ es)) e) [
  | inl same ↦ inl (subst (λ (x : ℕ). is_among x (other ∷ lines) ≡ true) same (is_there other lines))
  | inr more ↦ elim (markers_among line lines es more) [ inl there ↦ inl (is_there_too line other lines there) | inr behind ↦ inr behind ]
]

with_first_flush : (line other : ℕ) (b : Bool) → (other ≡ line) ⊎ (b ≡ true) → (if other == line then true else b) ≡ true
with_first_flush line other b (inl same) = ap (λ (c : Bool). if c then true else b) (eq-eqb other line same)
with_first_flush line other b (inr e) = by (other == line)
  where
    by : (c : Bool) → (if c then true else b) ≡ true
    by true = refl
    by false = e

-- a marker is one of a flush that waits or comes
marker_waits : (line : ℕ) (waiting : List ℕ) (es : List Entry) → has_marker line (earliest waiting es) ≡ true → Comes line waiting es
marker_waits line waiting [] e = elim (markers_among line waiting [] e) [ inl there ↦ inl there | inr none ↦ absurd (true≢false (sym none)) ]
marker_waits line waiting (entries.Write word value ∷ es) e = elim (cases_Bool (is_among (line_of word) waiting)) [
  | inl waits ↦
      let now : has_marker line (Marker (line_of word) ∷ Write word value ∷ earliest (without (line_of word) waiting) es) ≡ true = rw waits at e in
      elim (with_first line (line_of word) (has_marker line (earliest (without (line_of word) waiting) es)) now) [
        | inl same ↦ inl (subst (λ (x : ℕ). is_among x waiting ≡ true) same waits)
        | inr more ↦ elim (marker_waits line (without (line_of word) waiting) es more) [ inl there ↦ inl (without_is_fewer (line_of word) line waiting there).1 | inr comes ↦ inr comes ]
      ]
  | inr none ↦ let now : has_marker line (earliest waiting es) ≡ true = rw none at e in marker_waits line waiting es now
]
marker_waits line waiting (entries.Flush other ∷ es) e = elim (with_first line other (has_marker line (earliest (without other waiting) es)) e) [
  | inl same ↦ inr (with_first_flush line other (is_flushed line es) (inl same))
  | inr more ↦ elim (marker_waits line (without other waiting) es more) [
    | inl there ↦ inl (without_is_fewer other line waiting there).1
    | inr comes ↦ inr (with_first_flush line other (is_flushed line es) (inr comes))
  ]
]
marker_waits line waiting (entries.FlushOpt other ∷ es) e = elim (marker_waits line (other ∷ waiting) es e) [
  | inl there ↦ elim (by_line line other waiting there) [ inl same ↦ inr (with_first_flush line other (is_flushed line es) (inl same)) | inr too ↦ inl too ]
  | inr comes ↦ inr (with_first_flush line other (is_flushed line es) (inr comes))
]
marker_waits line waiting (entries.Sfence ∷ es) e = elim (markers_among line waiting (earliest [] es) e) [
  | inl there ↦ inl there
  | inr more ↦ elim (marker_waits line [] es more) [ inl none ↦ absurd (true≢false (sym none)) | inr comes ↦ inr comes ]
]

same_truth : (b c : Bool) → (b ≡ true → c ≡ true) → (c ≡ true → b ≡ true) → b ≡ c
same_truth true true there back = refl
same_truth true false there back = sym (there refl)
same_truth false true there back = back refl
same_truth false false there back = refl

-- of a line that does not wait
marked : (line : ℕ) (waiting : List ℕ) (es : List Entry) → is_among line waiting ≡ false → has_marker line (earliest waiting es) ≡ is_flushed line es
marked line waiting es none = same_truth (has_marker line (earliest waiting es)) (is_flushed line es)
    (λ e. elim (marker_waits line waiting es e) [ inl there ↦ absurd (true≢false (sym there ∙ none)) | inr comes ↦ comes ])
    (λ e. sym (ap (has_marker line) (append-nil (earliest waiting es))) ∙ marker_comes line waiting es (earliest waiting es ++ []) (inr e) (earliest_is_late waiting es [] [] refl))

no_more : (line : ℕ) (waiting : List ℕ) → is_among line (without line waiting) ≡ false
no_more line waiting = elim (cases_Bool (is_among line (without line waiting))) [ inl there ↦ absurd ((without_is_fewer line line waiting there).0 refl) | inr none ↦ none ]

carried_behind : (lines : List ℕ) (es : List PendingEntry) → carried (markers lines ++ es) ≡ carried es
carried_behind [] es = refl
carried_behind (line ∷ lines) es = carried_behind lines es

applied_behind : (lines : List ℕ) (es : List PendingEntry) (old : List ℕ) → applied (markers lines ++ es) old ≡ applied es old
applied_behind [] es old = refl
applied_behind (line ∷ lines) es old = applied_behind lines es old

-- a write first
write_carried : (word value : ℕ) (xs : List PendingEntry) (es : List Entry) → has_marker (line_of word) xs ≡ is_flushed (line_of word) es → carried xs ≡ pending_by (unflushed es)
    → carried (Write word value ∷ xs) ≡ pending_by (unflushed (entries.Write word value ∷ es))
write_carried word value xs es same h = elim (cases_Bool (is_flushed (line_of word) es)) [
  | inl is ↦ rw (same, is) h
  | inr not ↦ rw (same, not) (ap (λ (ys : List PendingEntry). Write word value ∷ ys) h)
]

write_applied : (word value : ℕ) (xs : List PendingEntry) (es : List Entry) (old : List ℕ) → has_marker (line_of word) xs ≡ is_flushed (line_of word) es → ((values : List ℕ) → applied xs values ≡ with_flushed es values)
    → applied (Write word value ∷ xs) old ≡ with_flushed (entries.Write word value ∷ es) old
write_applied word value xs es old same h = elim (cases_Bool (is_flushed (line_of word) es)) [
  | inl is ↦ rw (same, is) (h (slice_set old word value))
  | inr not ↦ rw (same, not) (h old)
]

earliest_carried : (waiting : List ℕ) (es : List Entry) → carried (earliest waiting es) ≡ pending_by (unflushed es)
earliest_carried waiting [] = carried_behind waiting []
earliest_carried waiting (entries.Write word value ∷ es) = elim (cases_Bool (is_among (line_of word) waiting)) [
  | inl waits ↦ ap (λ (b : Bool). carried (if b then Marker (line_of word) ∷ Write word value ∷ earliest (without (line_of word) waiting) es else Write word value ∷ earliest waiting es)) waits
      ∙ write_carried word value (earliest (without (line_of word) waiting) es) es (marked (line_of word) (without (line_of word) waiting) es (no_more (line_of word) waiting)) (earliest_carried (without (line_of word) waiting) es)
  | inr none ↦ ap (λ (b : Bool). carried (if b then Marker (line_of word) ∷ Write word value ∷ earliest (without (line_of word) waiting) es else Write word value ∷ earliest waiting es)) none
      ∙ write_carried word value (earliest waiting es) es (marked (line_of word) waiting es none) (earliest_carried waiting es)
]
earliest_carried waiting (entries.Flush line ∷ es) = earliest_carried (without line waiting) es
earliest_carried waiting (entries.FlushOpt line ∷ es) = earliest_carried (line ∷ waiting) es
earliest_carried waiting (entries.Sfence ∷ es) = carried_behind waiting (earliest [] es) ∙ earliest_carried [] es

earliest_applied : (waiting : List ℕ) (es : List Entry) (old : List ℕ) → applied (earliest waiting es) old ≡ with_flushed es old
earliest_applied waiting [] old = applied_behind waiting [] old
earliest_applied waiting (entries.Write word value ∷ es) old = elim (cases_Bool (is_among (line_of word) waiting)) [
  | inl waits ↦ ap (λ (b : Bool). applied (if b then Marker (line_of word) ∷ Write word value ∷ earliest (without (line_of word) waiting) es else Write word value ∷ earliest waiting es) old) waits
      ∙ write_applied word value (earliest (without (line_of word) waiting) es) es old (marked (line_of word) (without (line_of word) waiting) es (no_more (line_of word) waiting)) (earliest_applied (without (line_of word) waiting) es)
  | inr none ↦ ap (λ (b : Bool). applied (if b then Marker (line_of word) ∷ Write word value ∷ earliest (without (line_of word) waiting) es else Write word value ∷ earliest waiting es) old) none
      ∙ write_applied word value (earliest waiting es) es old (marked (line_of word) waiting es none) (earliest_applied waiting es)
]
earliest_applied waiting (entries.Flush line ∷ es) old = earliest_applied (without line waiting) es old
earliest_applied waiting (entries.FlushOpt line ∷ es) old = earliest_applied (line ∷ waiting) es old
earliest_applied waiting (entries.Sfence ∷ es) old = applied_behind waiting (earliest [] es) old ∙ earliest_applied [] es old

-- ---- the late list whose optimized flushes all wait

plain_first : (waiting : List ℕ) (es later : List Entry) (next : List PendingEntry) → is_window es ≡ true → IsLate [] later next → (rest : List PendingEntry) × IsLate waiting (es ++ entries.Sfence ∷ later) (pending_in es ++ rest)
plain_first waiting [] later next window is = (markers waiting ++ next, (next, refl, is))
plain_first waiting (entries.Write word value ∷ es) later next window is = let more = plain_first waiting es later next window is in (more.0, inl (pending_in es ++ more.0, refl, more.1))
plain_first waiting (entries.Flush line ∷ es) later next window is = let more = plain_first (without line waiting) es later next window is in (more.0, (pending_in es ++ more.0, refl, more.1))
plain_first waiting (entries.FlushOpt line ∷ es) later next window is = plain_first (line ∷ waiting) es later next window is
plain_first waiting (entries.Sfence ∷ es) later next window is = absurd (true≢false (sym window))

plain_is_late : (waiting : List ℕ) (es : List Entry) → is_window es ≡ true → IsLate waiting es (pending_in es)
plain_is_late waiting [] window = refl
plain_is_late waiting (entries.Write word value ∷ es) window = inl (pending_in es, refl, plain_is_late waiting es window)
plain_is_late waiting (entries.Flush line ∷ es) window = (pending_in es, refl, plain_is_late (without line waiting) es window)
plain_is_late waiting (entries.FlushOpt line ∷ es) window = plain_is_late (line ∷ waiting) es window
plain_is_late waiting (entries.Sfence ∷ es) window = absurd (true≢false (sym window))

-- ---- what is stored again

abbrev pub are_writes : List Entry → Bool
are_writes [] = true
are_writes (entries.Write word value ∷ later) = are_writes later
are_writes (entries.Flush line ∷ later) = false
are_writes (entries.FlushOpt line ∷ later) = false
are_writes (entries.Sfence ∷ later) = false

pub unflushed_writes : (es : List Entry) → are_writes (unflushed es) ≡ true
unflushed_writes [] = refl
unflushed_writes (entries.Write word value ∷ es) = by (is_flushed (line_of word) es) (unflushed_writes es)
  where
    by : (b : Bool) → are_writes (unflushed es) ≡ true → are_writes (if b then unflushed es else entries.Write word value ∷ unflushed es) ≡ true
    by true h = h
    by false h = h
unflushed_writes (entries.Flush line ∷ es) = unflushed_writes es
unflushed_writes (entries.FlushOpt line ∷ es) = unflushed_writes es
unflushed_writes (entries.Sfence ∷ es) = unflushed_writes es

pub writes_are_window : (es : List Entry) → are_writes es ≡ true → is_window es ≡ true
writes_are_window [] h = refl
writes_are_window (entries.Write word value ∷ es) h = writes_are_window es h
writes_are_window (entries.Flush line ∷ es) h = absurd (true≢false (sym h))
writes_are_window (entries.FlushOpt line ∷ es) h = absurd (true≢false (sym h))
writes_are_window (entries.Sfence ∷ es) h = absurd (true≢false (sym h))

writes_then : (es later : List Entry) (next : List PendingEntry) → are_writes es ≡ true → IsLate [] later next → IsLate [] (es ++ later) (pending_by es ++ next)
writes_then [] later next h is = is
writes_then (entries.Write word value ∷ es) later next h is = inl (pending_by es ++ next, refl, writes_then es later next h is)
writes_then (entries.Flush line ∷ es) later next h is = absurd (true≢false (sym h))
writes_then (entries.FlushOpt line ∷ es) later next h is = absurd (true≢false (sym h))
writes_then (entries.Sfence ∷ es) later next h is = absurd (true≢false (sym h))

then_writes : (es later : List Entry) (late : List PendingEntry) → are_writes es ≡ true → IsLate [] (es ++ later) late → (next : List PendingEntry) × (late ≡ pending_by es ++ next) × IsLate [] later next
then_writes [] later late h is = (late, refl, is)
then_writes (entries.Write word value ∷ es) later late h (inl (rest, whole, is)) =
    let (next, both, after) = then_writes es later rest h is in (next, whole ∙ ap (λ (xs : List PendingEntry). Write word value ∷ xs) both, after)
then_writes (entries.Write word value ∷ es) later late h (inr (rest, waits, whole, is)) = absurd (true≢false (sym waits))
then_writes (entries.Flush line ∷ es) later late h is = absurd (true≢false (sym h))
then_writes (entries.FlushOpt line ∷ es) later late h is = absurd (true≢false (sym h))
then_writes (entries.Sfence ∷ es) later late h is = absurd (true≢false (sym h))

-- ---- at a fence

before_or_after : (es later : List Entry) (old new : List ℕ) → IsLeftByALate (es ++ entries.Sfence ∷ later) old new → MayLeave no_line (pending_in es) old new ⊎ IsLeftByALate (unflushed es ++ later) (with_flushed es old) new
before_or_after es later old new (late, is, may) =
    let (first, next, both, there, after) = late_splits [] es later late is in
    elim (two_windows first next old new (subst (λ (xs : List PendingEntry). MayLeave no_line xs old new) both may)) [
      | inl before ↦ inl (subst (λ (xs : List PendingEntry). MayLeave no_line xs old new) (closed_is_plain es) (late_is_plain [] (es ++ entries.Sfence ∷ []) first there no_line old new before))
      | inr more ↦ inr (pending_by (unflushed es) ++ next, writes_then (unflushed es) later next (unflushed_writes es) after, late_carries [] es next first there no_line old new (all_open first) more)
    ]

before_and_after : (es later : List Entry) (old new : List ℕ) → is_window es ≡ true → MayLeave no_line (pending_in es) old new ⊎ IsLeftByALate (unflushed es ++ later) (with_flushed es old) new → IsLeftByALate (es ++ entries.Sfence ∷ later) old new
before_and_after es later old new window (inl may) =
    let next = some_late [] later in
    let more = plain_first [] es later next.0 window next.1 in
    (pending_in es ++ more.0, more.1, goes_on (pending_in es) more.0 no_line old new may)
before_and_after es later old new window (inr (late, is, may)) =
    let (next, both, after) = then_writes (unflushed es) later late (unflushed_writes es) is in
    let first = earliest [] es in
    let now : MayLeave no_line (pending_by (unflushed es) ++ next) (with_flushed es old) new = subst (λ (xs : List PendingEntry). MayLeave no_line xs (with_flushed es old) new) both may in
    let here : MayLeave no_line (carried first ++ next) (applied first old) new =
    subst (λ (values : List ℕ). MayLeave no_line (carried first ++ next) values new) (sym (earliest_applied [] es old))
    (subst (λ (xs : List PendingEntry). MayLeave no_line (xs ++ next) (with_flushed es old) new) (sym (earliest_carried [] es)) now) in
    (first ++ next, earliest_is_late [] es later next after, one_window first next old new (inr here))

-- ---- all windows

window_and : (es more : List Entry) → is_window es ≡ true → is_window more ≡ true → is_window (es ++ more) ≡ true
window_and [] more h k = k
window_and (entries.Write word value ∷ es) more h k = window_and es more h k
window_and (entries.Flush line ∷ es) more h k = window_and es more h k
window_and (entries.FlushOpt line ∷ es) more h k = window_and es more h k
window_and (entries.Sfence ∷ es) more h k = absurd (true≢false (sym h))

-- one more entry of the window
regrouped : (window : List Entry) (entry : Entry) (es : List Entry) (old new : List ℕ) → ((IsLeftByALate ((window ++ entry ∷ []) ++ es) old new) ↔ IsReachedInOne (memories_from (window ++ entry ∷ []) es old) new)
    → (IsLeftByALate (window ++ entry ∷ es) old new) ↔ IsReachedInOne (memories_from (window ++ entry ∷ []) es old) new
regrouped window entry es old new h = subst (λ (xs : List Entry). (IsLeftByALate xs old new) ↔ IsReachedInOne (memories_from (window ++ entry ∷ []) es old) new) (append_assoc window (entry ∷ []) es) h

pub in_one_memory : (window es : List Entry) (old new : List ℕ) → is_window window ≡ true → (IsLeftByALate (window ++ es) old new) ↔ IsReachedInOne (memories_from window es old) new
in_one_memory window [] old new is = (
  (λ (late, there, may). inl (may_leave_reached (record { pending = pending_in window; persisted = old }) new
      (late_is_plain [] window late (subst (λ (xs : List Entry). IsLate [] xs late) (append-nil window) there) no_line old new may))),
  (λ reached. elim reached [
    | inl here ↦ (pending_in window, subst (λ (xs : List Entry). IsLate [] xs (pending_in window)) (sym (append-nil window)) (plain_is_late [] window is), reached_may_leave (record { pending = pending_in window; persisted = old }) new here)
    | inr none ↦ absurd none
  ]),
)
in_one_memory window (entries.Write word value ∷ es) old new is =
    regrouped window (entries.Write word value) es old new (in_one_memory (window ++ entries.Write word value ∷ []) es old new (window_and window (entries.Write word value ∷ []) is refl))
in_one_memory window (entries.Flush line ∷ es) old new is =
    regrouped window (entries.Flush line) es old new (in_one_memory (window ++ entries.Flush line ∷ []) es old new (window_and window (entries.Flush line ∷ []) is refl))
in_one_memory window (entries.FlushOpt line ∷ es) old new is =
    regrouped window (entries.FlushOpt line) es old new (in_one_memory (window ++ entries.FlushOpt line ∷ []) es old new (window_and window (entries.FlushOpt line ∷ []) is refl))
in_one_memory window (entries.Sfence ∷ es) old new is =
    let rest = in_one_memory (unflushed window) es (with_flushed window old) new (writes_are_window (unflushed window) (unflushed_writes window)) in (
      (λ left. elim (before_or_after window es old new left) [
        | inl may ↦ inl (may_leave_reached (record { pending = pending_in window; persisted = old }) new may)
        | inr more ↦ inr (rest.0 more)
      ]),
      (λ reached. before_and_after window es old new is (elim reached [
        | inl here ↦ inl (reached_may_leave (record { pending = pending_in window; persisted = old }) new here)
        | inr more ↦ inr (rest.1 more)
      ])),
    )
