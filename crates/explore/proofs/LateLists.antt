-- What an order of leaving entries leaves is dominated by a late list.
use Rattle.std.proofs.Common.{◌≡◌, ℕ, inl, inr, Bool, true, false, List, [], ◌∷◌, ◌++◌, refl, sym, ap, subst, ◌∙◌, true≢false}
use Rattle.std.specs.Prelude.{◌==◌, if◌then◌else◌}
use Rattle.std.specs.List.{list_any}
use Rattle.std.proofs.lemmas.Bool.{cases_Bool, eqb-true, eq-eqb, or_parts}
use Rattle.lines_layout.specs.Lines.{line_of}
use Rattle.store_buffer.specs.declared.entry.Entry.{Entry}
use Rattle.store_buffer.specs.declared.entry.Entry.TheVariants as entries
use Rattle.store_buffer.specs.Buffers.{is_held_by}
use Rattle.persist_buffer.specs.declared.entry.PendingEntry.{PendingEntry}
use Rattle.persist_buffer.specs.declared.entry.PendingEntry.TheVariants.{Write, Marker}
use Rattle.explore.proofs.DominatedLists.{among_the_others, below_behind, below_behind_all, below_same, below_then, by_line, fewer_markers, is_there, is_there_too, line_goes_first, marker_goes, markers_go_behind, markers_go_with, markers_have_left, markers_leave, more_lines, stays, without_is_fewer}
use Rattle.explore.proofs.Late.{IsBelow, IsLate, LeaveInOrder, Leaves, is_among, markers, pending_by, without}

-- a late list that dominates this one
abbrev pub HasLate : List ℕ → List Entry → List PendingEntry → Type 0
HasLate waiting es pending = (late : List PendingEntry) × IsLate waiting es late × IsBelow pending late

pub some_late : (waiting : List ℕ) (es : List Entry) → (late : List PendingEntry) × IsLate waiting es late
some_late waiting [] = ([], refl)
some_late waiting (entries.Write word value ∷ es) = let rest = some_late waiting es in (Write word value ∷ rest.0, inl (rest.0, refl, rest.1))
some_late waiting (entries.Flush line ∷ es) = let rest = some_late (without line waiting) es in (Marker line ∷ rest.0, (rest.0, refl, rest.1))
some_late waiting (entries.FlushOpt line ∷ es) = some_late (line ∷ waiting) es
some_late waiting (entries.Sfence ∷ es) = let rest = some_late [] es in (markers waiting ++ rest.0, (rest.0, refl, rest.1))

-- ---- where fewer flushes wait

pub fewer_without : (line : ℕ) (ls ms : List ℕ) → ((l : ℕ) → is_among l ms ≡ true → is_among l ls ≡ true) → (l : ℕ) → is_among l (without line ms) ≡ true → is_among l (without line ls) ≡ true
fewer_without line ls ms h l e = let others = without_is_fewer line l ms e in among_the_others line l ls others.0 (h l others.1)

none_of : (line : ℕ) (ls ms : List ℕ) → ((l : ℕ) → is_among l ms ≡ true → is_among l ls ≡ true) → is_among line ms ≡ false → (l : ℕ) → is_among l ms ≡ true → is_among l (without line ls) ≡ true
none_of line ls ms h none l e = among_the_others line l ls (λ same. true≢false (sym e ∙ ap (λ (x : ℕ). is_among x ms) (sym same) ∙ none)) (h l e)

fewer_wait : (ls ms : List ℕ) (es : List Entry) (late : List PendingEntry) → ((l : ℕ) → is_among l ms ≡ true → is_among l ls ≡ true) → IsLate ls es late → HasLate ms es late
fewer_wait ls ms [] late h is = (late, is, below_same late)
fewer_wait ls ms (entries.Write word value ∷ es) late h (inl (rest, whole, is)) =
    let (other, there, below) = fewer_wait ls ms es rest h is in
    (Write word value ∷ other, inl (other, refl, there), subst (λ (xs : List PendingEntry). IsBelow xs (Write word value ∷ other)) (sym whole) (below_behind (Write word value) rest other below))
fewer_wait ls ms (entries.Write word value ∷ es) late h (inr (rest, waits, whole, is)) = subst (HasLate ms (entries.Write word value ∷ es)) (sym whole) (elim (cases_Bool (is_among (line_of word) ms)) [
  | inl too ↦ waits_too (fewer_wait (without (line_of word) ls) (without (line_of word) ms) es rest (fewer_without (line_of word) ls ms h) is) too
  | inr none ↦ no_longer (fewer_wait (without (line_of word) ls) ms es rest (none_of (line_of word) ls ms h none) is)
])
  where
    waits_too : HasLate (without (line_of word) ms) es rest → is_among (line_of word) ms ≡ true → HasLate ms (entries.Write word value ∷ es) (Marker (line_of word) ∷ Write word value ∷ rest)
    waits_too (other, there, below) too = (
      Marker (line_of word) ∷ Write word value ∷ other,
      inr (other, too, refl, there),
      below_behind (Marker (line_of word)) (Write word value ∷ rest) (Write word value ∷ other) (below_behind (Write word value) rest other below),
    )

    no_longer : HasLate ms es rest → HasLate ms (entries.Write word value ∷ es) (Marker (line_of word) ∷ Write word value ∷ rest)
    no_longer (other, there, below) = (
      Write word value ∷ other,
      inl (other, refl, there),
      below_then (Marker (line_of word) ∷ Write word value ∷ rest) (Write word value ∷ rest) (Write word value ∷ other) (marker_goes (line_of word) (Write word value ∷ rest)) (below_behind (Write word value) rest other below),
    )
fewer_wait ls ms (entries.Flush line ∷ es) late h (rest, whole, is) =
    let (other, there, below) = fewer_wait (without line ls) (without line ms) es rest (fewer_without line ls ms h) is in
    (Marker line ∷ other, (other, refl, there), subst (λ (xs : List PendingEntry). IsBelow xs (Marker line ∷ other)) (sym whole) (below_behind (Marker line) rest other below))
fewer_wait ls ms (entries.FlushOpt line ∷ es) late h is = fewer_wait (line ∷ ls) (line ∷ ms) es late (more_lines line ls ms h) is
fewer_wait ls ms (entries.Sfence ∷ es) late h (rest, whole, is) =
    (markers ms ++ rest, (rest, refl, is), subst (λ (xs : List PendingEntry). IsBelow xs (markers ms ++ rest)) (sym whole) (fewer_markers ls ms rest h))

-- ---- an optimized flush that leaves is like one that is earlier in the program

-- behind what dominates, another
late_then : (waiting : List ℕ) (es : List Entry) (xs ys : List PendingEntry) → IsBelow xs ys → HasLate waiting es ys → HasLate waiting es xs
late_then waiting es xs ys h (late, is, below) = (late, is, below_then xs ys late h below)

swapped : (a b : ℕ) (ls : List ℕ) (l : ℕ) → is_among l (b ∷ a ∷ ls) ≡ true → is_among l (a ∷ b ∷ ls) ≡ true
swapped a b ls l e = elim (by_line l b (a ∷ ls) e) [
  | inl same ↦ is_there_too l a (b ∷ ls) (subst (λ (x : ℕ). is_among x (b ∷ ls) ≡ true) same (is_there b ls))
  | inr too ↦ elim (by_line l a ls too) [
    | inl same ↦ subst (λ (x : ℕ). is_among x (a ∷ b ∷ ls) ≡ true) same (is_there a (b ∷ ls))
    | inr more ↦ is_there_too l a (b ∷ ls) (is_there_too l b ls more)
  ]
]

-- another line's flush waits on
keeps : (line other : ℕ) (ls : List ℕ) → (other == line) ≡ false → without line (other ∷ ls) ≡ other ∷ without line ls
keeps line other ls apart = ap (λ (b : Bool). if b then without line ls else other ∷ without line ls) apart

waited : (line other : ℕ) (ls : List ℕ) → (other == line) ≡ false → is_among line (other ∷ ls) ≡ true → is_among line ls ≡ true
waited line other ls apart e = sym (ap (λ (b : Bool). if b then true else is_among line ls) apart) ∙ e

turned : (a b : ℕ) → (a == b) ≡ false → (b == a) ≡ false
turned a b apart = elim (cases_Bool (b == a)) [ inl same ↦ absurd (true≢false (sym (eq-eqb a b (sym (eqb-true b a same))) ∙ apart)) | inr other ↦ other ]

leaves_early : (line : ℕ) (waiting : List ℕ) (before later : List Entry) (late : List PendingEntry) → list_any (is_held_by (entries.FlushOpt line)) before ≡ false
    → IsLate (line ∷ waiting) (before ++ later) late → HasLate waiting (before ++ entries.FlushOpt line ∷ later) late
leaves_early line waiting [] later late free is = (late, is, below_same late)
leaves_early line waiting (entries.Write word value ∷ before) later late free (inl (rest, whole, is)) =
    let parts = or_parts (line_of word == line) (list_any (is_held_by (entries.FlushOpt line)) before) free in
    let (other, there, below) = leaves_early line waiting before later rest parts.1 is in
    (Write word value ∷ other, inl (other, refl, there), subst (λ (xs : List PendingEntry). IsBelow xs (Write word value ∷ other)) (sym whole) (below_behind (Write word value) rest other below))
leaves_early line waiting (entries.Write word value ∷ before) later late free (inr (rest, waits, whole, is)) =
    let parts = or_parts (line_of word == line) (list_any (is_held_by (entries.FlushOpt line)) before) free in
    let apart : (line == line_of word) ≡ false = turned (line_of word) line parts.0 in
    let (other, there, below) = leaves_early line (without (line_of word) waiting) before later rest parts.1 (subst (λ (ls : List ℕ). IsLate ls (before ++ later) rest) (keeps (line_of word) line waiting apart) is) in (
      Marker (line_of word) ∷ Write word value ∷ other,
      inr (other, waited (line_of word) line waiting apart waits, refl, there),
      subst (λ (xs : List PendingEntry). IsBelow xs (Marker (line_of word) ∷ Write word value ∷ other)) (sym whole)
          (below_behind (Marker (line_of word)) (Write word value ∷ rest) (Write word value ∷ other) (below_behind (Write word value) rest other below)),
    )
leaves_early line waiting (entries.Flush flushed ∷ before) later late free (rest, whole, is) =
    let parts = or_parts (flushed == line) (list_any (is_held_by (entries.FlushOpt line)) before) free in
    let apart : (line == flushed) ≡ false = turned flushed line parts.0 in
    let (other, there, below) = leaves_early line (without flushed waiting) before later rest parts.1 (subst (λ (ls : List ℕ). IsLate ls (before ++ later) rest) (keeps flushed line waiting apart) is) in
    (Marker flushed ∷ other, (other, refl, there), subst (λ (xs : List PendingEntry). IsBelow xs (Marker flushed ∷ other)) (sym whole) (below_behind (Marker flushed) rest other below))
leaves_early line waiting (entries.FlushOpt flushed ∷ before) later late free is =
    let (other, there, below) = fewer_wait (flushed ∷ line ∷ waiting) (line ∷ flushed ∷ waiting) (before ++ later) late (swapped flushed line waiting) is in
    late_then (flushed ∷ waiting) (before ++ entries.FlushOpt line ∷ later) late other below (leaves_early line (flushed ∷ waiting) before later other free there)
leaves_early line waiting (entries.Sfence ∷ before) later late free is = absurd (true≢false free)

-- ---- a write that leaves past optimized flushes

write_leaves : (word value : ℕ) (waiting : List ℕ) (before later : List Entry) (rest : List PendingEntry) → list_any (is_held_by (entries.Write word value)) before ≡ false
    → IsLate waiting (before ++ later) rest → IsLate waiting (before ++ entries.Write word value ∷ later) (Write word value ∷ rest)
write_leaves word value waiting [] later rest free is = inl (rest, refl, is)
write_leaves word value waiting (entries.Write other number ∷ before) later rest free is = absurd (true≢false free)
write_leaves word value waiting (entries.Flush flushed ∷ before) later rest free is = absurd (true≢false free)
write_leaves word value waiting (entries.FlushOpt flushed ∷ before) later rest free is = write_leaves word value (flushed ∷ waiting) before later rest free is
write_leaves word value waiting (entries.Sfence ∷ before) later rest free is = absurd (true≢false free)

-- with one more before both
others_more : (line flushed : ℕ) (waiting smaller : List ℕ) → ((l : ℕ) → is_among l (without line waiting) ≡ true → is_among l smaller ≡ true)
    → (l : ℕ) → is_among l (without line (flushed ∷ waiting)) ≡ true → is_among l (flushed ∷ smaller) ≡ true
others_more line flushed waiting smaller h l e =
    let others = without_is_fewer line l (flushed ∷ waiting) e in
    elim (by_line l flushed waiting others.1) [
      | inl same ↦ subst (λ (x : ℕ). is_among x (flushed ∷ smaller) ≡ true) same (is_there flushed smaller)
      | inr too ↦ is_there_too l flushed smaller (h l (among_the_others line l waiting others.0 too))
    ]

write_leaves_behind : (word value : ℕ) (waiting smaller : List ℕ) (before later : List Entry) (rest : List PendingEntry) → list_any (is_held_by (entries.Write word value)) before ≡ false
    → is_among (line_of word) waiting ≡ true → ((l : ℕ) → is_among l (without (line_of word) waiting) ≡ true → is_among l smaller ≡ true)
    → IsLate smaller (before ++ later) rest → HasLate waiting (before ++ entries.Write word value ∷ later) (Marker (line_of word) ∷ Write word value ∷ rest)
write_leaves_behind word value waiting smaller [] later rest free waits h is =
    let (other, there, below) = fewer_wait smaller (without (line_of word) waiting) later rest h is in (
      Marker (line_of word) ∷ Write word value ∷ other,
      inr (other, waits, refl, there),
      below_behind (Marker (line_of word)) (Write word value ∷ rest) (Write word value ∷ other) (below_behind (Write word value) rest other below),
    )
write_leaves_behind word value waiting smaller (entries.Write other number ∷ before) later rest free waits h is = absurd (true≢false free)
write_leaves_behind word value waiting smaller (entries.Flush flushed ∷ before) later rest free waits h is = absurd (true≢false free)
write_leaves_behind word value waiting smaller (entries.FlushOpt flushed ∷ before) later rest free waits h is =
    write_leaves_behind word value (flushed ∷ waiting) (flushed ∷ smaller) before later rest free (is_there_too (line_of word) flushed waiting waits) (others_more (line_of word) flushed waiting smaller h) is
write_leaves_behind word value waiting smaller (entries.Sfence ∷ before) later rest free waits h is = absurd (true≢false free)

flush_leaves : (line : ℕ) (waiting smaller : List ℕ) (before later : List Entry) (rest : List PendingEntry) → list_any (is_held_by (entries.Flush line)) before ≡ false
    → ((l : ℕ) → is_among l (without line waiting) ≡ true → is_among l smaller ≡ true)
    → IsLate smaller (before ++ later) rest → HasLate waiting (before ++ entries.Flush line ∷ later) (Marker line ∷ rest)
flush_leaves line waiting smaller [] later rest free h is =
    let (other, there, below) = fewer_wait smaller (without line waiting) later rest h is in
    (Marker line ∷ other, (other, refl, there), below_behind (Marker line) rest other below)
flush_leaves line waiting smaller (entries.Write other number ∷ before) later rest free h is = absurd (true≢false free)
flush_leaves line waiting smaller (entries.Flush flushed ∷ before) later rest free h is = absurd (true≢false free)
flush_leaves line waiting smaller (entries.FlushOpt flushed ∷ before) later rest free h is =
    flush_leaves line (flushed ∷ waiting) (flushed ∷ smaller) before later rest (or_parts (flushed == line) (list_any (is_held_by (entries.Flush line)) before) free).1 (others_more line flushed waiting smaller h) is
flush_leaves line waiting smaller (entries.Sfence ∷ before) later rest free h is = absurd (true≢false free)

fence_is_oldest : (before : List Entry) → list_any (is_held_by entries.Sfence) before ≡ false → before ≡ []
fence_is_oldest [] free = refl
fence_is_oldest (entries.Write other number ∷ before) free = absurd (true≢false free)
fence_is_oldest (entries.Flush flushed ∷ before) free = absurd (true≢false free)
fence_is_oldest (entries.FlushOpt flushed ∷ before) free = absurd (true≢false free)
fence_is_oldest (entries.Sfence ∷ before) free = absurd (true≢false free)

-- ---- the law

only_markers : (waiting : List ℕ) (late : List PendingEntry) → IsBelow (markers waiting ++ []) late
only_markers waiting late blocked old new may = elim (markers_leave blocked waiting [] old new may) [
  | inl all ↦ stays blocked late old new all.1
  | inr same ↦ stays blocked late old new same
]

first_marker : (waiting : List ℕ) (line : ℕ) (es : List PendingEntry) → IsBelow (markers waiting ++ Marker line ∷ es) (Marker line ∷ markers waiting ++ es)
first_marker waiting line es blocked old new may = elim (markers_leave blocked waiting (Marker line ∷ es) old new may) [
  | inl all ↦ elim all.1 [
    | inl (free, rest) ↦ inl (free, markers_have_left blocked waiting es old new all.0 rest)
    | inr same ↦ inr same
  ]
  | inr same ↦ inr same
]

-- by what leaves first, where what follows has a late list behind the flushes that have left
flush_opt_first : (line : ℕ) (waiting : List ℕ) (es mid : List Entry) (pending : List PendingEntry) → Leaves (entries.FlushOpt line) es mid
    → HasLate (line ∷ waiting) mid (Marker line ∷ markers waiting ++ pending) → HasLate waiting es (markers waiting ++ Marker line ∷ pending)
flush_opt_first line waiting es mid pending left (late, is, below) =
    let early = leaves_early line waiting left.before left.later late left.free (subst (λ (xs : List Entry). IsLate (line ∷ waiting) xs late) left.rest is) in
    subst (λ (xs : List Entry). HasLate waiting xs (markers waiting ++ Marker line ∷ pending)) (sym left.whole)
    (late_then waiting (left.before ++ entries.FlushOpt line ∷ left.later) (markers waiting ++ Marker line ∷ pending) late
    (below_then (markers waiting ++ Marker line ∷ pending) (Marker line ∷ markers waiting ++ pending) late (first_marker waiting line pending) below) early)

write_first : (word value : ℕ) (waiting : List ℕ) (es mid : List Entry) (pending : List PendingEntry) → Leaves (entries.Write word value) es mid
    → is_among (line_of word) waiting ≡ false → HasLate waiting mid (markers waiting ++ pending) → HasLate waiting es (markers waiting ++ Write word value ∷ pending)
write_first word value waiting es mid pending left none (late, is, below) =
    subst (λ (xs : List Entry). HasLate waiting xs (markers waiting ++ Write word value ∷ pending)) (sym left.whole) (
      Write word value ∷ late,
      write_leaves word value waiting left.before left.later late left.free (subst (λ (xs : List Entry). IsLate waiting xs late) left.rest is),
      below_then (markers waiting ++ Write word value ∷ pending) (Write word value ∷ markers waiting ++ pending) (Write word value ∷ late)
          (markers_go_behind waiting word value pending none) (below_behind (Write word value) (markers waiting ++ pending) late below),
    )

-- the marker of a line, the write, and the other markers
marker_then_write : (word value : ℕ) (waiting : List ℕ) (pending : List PendingEntry) → is_among (line_of word) waiting ≡ true
    → IsBelow (markers waiting ++ Write word value ∷ pending) (Marker (line_of word) ∷ Write word value ∷ markers (without (line_of word) waiting) ++ pending)
marker_then_write word value waiting pending waits =
    let others = without (line_of word) waiting in
    below_then (markers waiting ++ Write word value ∷ pending) (Marker (line_of word) ∷ markers others ++ Write word value ∷ pending) (Marker (line_of word) ∷ Write word value ∷ markers others ++ pending)
    (line_goes_first waiting (line_of word) (Write word value ∷ pending) waits)
    (below_behind (Marker (line_of word)) (markers others ++ Write word value ∷ pending) (Write word value ∷ markers others ++ pending) (markers_go_behind others word value pending (gone (line_of word) waiting)))
  where
    gone : (line : ℕ) (ls : List ℕ) → is_among line (without line ls) ≡ false
    gone line ls = elim (cases_Bool (is_among line (without line ls))) [ inl there ↦ absurd ((without_is_fewer line line ls there).0 refl) | inr none ↦ none ]

write_first_behind : (word value : ℕ) (waiting : List ℕ) (es mid : List Entry) (pending : List PendingEntry) → Leaves (entries.Write word value) es mid
    → is_among (line_of word) waiting ≡ true → HasLate (without (line_of word) waiting) mid (markers (without (line_of word) waiting) ++ pending) → HasLate waiting es (markers waiting ++ Write word value ∷ pending)
write_first_behind word value waiting es mid pending left waits (late, is, below) =
    let others = without (line_of word) waiting in
    let there = write_leaves_behind word value waiting others left.before left.later late left.free waits (λ l e. e) (subst (λ (xs : List Entry). IsLate others xs late) left.rest is) in
    subst (λ (xs : List Entry). HasLate waiting xs (markers waiting ++ Write word value ∷ pending)) (sym left.whole)
    (late_then waiting (left.before ++ entries.Write word value ∷ left.later) (markers waiting ++ Write word value ∷ pending) (Marker (line_of word) ∷ Write word value ∷ late)
    (below_then (markers waiting ++ Write word value ∷ pending) (Marker (line_of word) ∷ Write word value ∷ markers others ++ pending) (Marker (line_of word) ∷ Write word value ∷ late)
    (marker_then_write word value waiting pending waits)
    (below_behind (Marker (line_of word)) (Write word value ∷ markers others ++ pending) (Write word value ∷ late) (below_behind (Write word value) (markers others ++ pending) late below))) there)

flush_first : (line : ℕ) (waiting : List ℕ) (es mid : List Entry) (pending : List PendingEntry) → Leaves (entries.Flush line) es mid
    → HasLate (without line waiting) mid (markers (without line waiting) ++ pending) → HasLate waiting es (markers waiting ++ Marker line ∷ pending)
flush_first line waiting es mid pending left (late, is, below) =
    let others = without line waiting in
    let there = flush_leaves line waiting others left.before left.later late left.free (λ l e. e) (subst (λ (xs : List Entry). IsLate others xs late) left.rest is) in
    subst (λ (xs : List Entry). HasLate waiting xs (markers waiting ++ Marker line ∷ pending)) (sym left.whole)
    (late_then waiting (left.before ++ entries.Flush line ∷ left.later) (markers waiting ++ Marker line ∷ pending) (Marker line ∷ late)
    (below_then (markers waiting ++ Marker line ∷ pending) (Marker line ∷ markers others ++ pending) (Marker line ∷ late)
    (markers_go_with waiting line pending) (below_behind (Marker line) (markers others ++ pending) late below)) there)

fence_first : (waiting : List ℕ) (es mid : List Entry) (pending : List PendingEntry) → Leaves entries.Sfence es mid → HasLate [] mid pending → HasLate waiting es (markers waiting ++ pending)
fence_first waiting es mid pending left (late, is, below) =
    let none = fence_is_oldest left.before left.free in
    let after : mid ≡ left.later = left.rest ∙ ap (λ (xs : List Entry). xs ++ left.later) none in
    let whole : es ≡ entries.Sfence ∷ left.later = left.whole ∙ ap (λ (xs : List Entry). xs ++ entries.Sfence ∷ left.later) none in
    subst (λ (xs : List Entry). HasLate waiting xs (markers waiting ++ pending)) (sym whole)
    (markers waiting ++ late, (late, refl, subst (λ (xs : List Entry). IsLate [] xs late) after is), below_behind_all (markers waiting) pending late below)

pub order_has_late : (waiting : List ℕ) (es order end : List Entry) → LeaveInOrder es order end → HasLate waiting es (markers waiting ++ pending_by order)
order_has_late waiting es [] end done = let late = some_late waiting es in (late.0, late.1, only_markers waiting late.0)
order_has_late waiting es (entries.FlushOpt line ∷ order) end (mid, left, more) =
    flush_opt_first line waiting es mid (pending_by order) left (order_has_late (line ∷ waiting) mid order end more)
order_has_late waiting es (entries.Write word value ∷ order) end (mid, left, more) =
    elim (cases_Bool (is_among (line_of word) waiting)) [
      | inl waits ↦ write_first_behind word value waiting es mid (pending_by order) left waits (order_has_late (without (line_of word) waiting) mid order end more)
      | inr none ↦ write_first word value waiting es mid (pending_by order) left none (order_has_late waiting mid order end more)
    ]
order_has_late waiting es (entries.Flush line ∷ order) end (mid, left, more) =
    flush_first line waiting es mid (pending_by order) left (order_has_late (without line waiting) mid order end more)
order_has_late waiting es (entries.Sfence ∷ order) end (mid, left, more) = fence_first waiting es mid (pending_by order) left (order_has_late [] mid order end more)
