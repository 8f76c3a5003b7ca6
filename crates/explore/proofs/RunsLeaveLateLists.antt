-- Whatever a crash anywhere in a run of a straight-line program leaves, one of its late lists leaves.
use Rattle.std.proofs.Common.{◌≡◌, ℕ, zero, suc, List, [], ◌∷◌, ◌++◌, refl, sym, ap, subst, ◌∙◌}
use Rattle.std.proofs.lemmas.List.{append_assoc, append-nil}
use Rattle.store_buffer.specs.declared.entry.Entry.{Entry}
use Rattle.store_buffer.specs.declared.entry.Entry.TheVariants as entries
use Rattle.persist_buffer.specs.declared.entry.PendingEntry.{PendingEntry}
use Rattle.persist_buffer.specs.declared.entry.PendingEntry.TheVariants.{Write}
use Rattle.persist_buffer.specs.State.{Memory}
use Rattle.pending_images.specs.Changes.{IsReached}
use Rattle.explore.specs.Canonical.{MayLeave, no_line}
use Rattle.explore.specs.Covering.{grown}
use Rattle.explore.specs.FenceMemories.{entries_of}
use Rattle.explore.specs.StraightLine.Transition.{delays, waits, locks, drains, changes}
use Rattle.explore.specs.StraightLine.{Configuration, IsLeftBy, Transition, Transitions, pending_of}
use Rattle.explore.specs.declared.event.Event.{Event}
use Rattle.explore.proofs.LaterMemories.{change_grown}
use Rattle.explore.proofs.LeftByEntries.{may_leave_reached, reached_may_leave}
use Rattle.explore.proofs.DominatedLists.{below_behind_all}
use Rattle.explore.proofs.Late.{IsLeftByLate, LeaveInOrder, Leaves, leaves_of_take, pending_by}
use Rattle.explore.proofs.LateLists.{order_has_late}

-- what a state has before it: the entries of its buffer and of its events
abbrev all_of : Configuration → List Entry
all_of s = s.buffer ++ entries_of s.events

-- an order in which some of them leave, and what it leaves
abbrev IsLeftInOrder : List Entry → Memory → List ℕ → Type 0
IsLeftInOrder es m persisted = (order : List Entry) × (end : List Entry) × LeaveInOrder es order end × MayLeave no_line (m.pending ++ pending_by order) m.persisted persisted

-- an entry leaves first
one_first : (entry : Entry) (es mid : List Entry) (m : Memory) (persisted : List ℕ) → Leaves entry es mid → IsLeftInOrder mid (grown m (pending_of entry)) persisted → IsLeftInOrder es m persisted
one_first entry es mid m persisted left (order, end, more, may) =
    (entry ∷ order, end, (mid, left, more), subst (λ (xs : List PendingEntry). MayLeave no_line xs m.persisted persisted) (append_assoc m.pending (pending_of entry) (pending_by order)) may)

pub oldest : (entry : Entry) (es : List Entry) → Leaves entry (entry ∷ es) es
oldest entry es = record { before = []; later = es; whole = refl; free = refl; rest = refl }

leaves_of_more : (entry : Entry) (old new more : List Entry) → Leaves entry old new → Leaves entry (old ++ more) (new ++ more)
leaves_of_more entry old new more left = record {
  before = left.before;
  later = left.later ++ more;
  whole = ap (λ (xs : List Entry). xs ++ more) left.whole ∙ append_assoc left.before (entry ∷ left.later) more;
  free = left.free;
  rest = ap (λ (xs : List Entry). xs ++ more) left.rest ∙ append_assoc left.before left.later more;
}

-- a memory with nothing more
pub none_more : (m : Memory) → grown m [] ≡ m
none_more m = λ k. record { pending = append-nil m.pending k; persisted = m.persisted }

-- one step before
step_before : (s mid : Configuration) (persisted : List ℕ) → Transition s mid → IsLeftInOrder (all_of mid) mid.memory persisted → IsLeftInOrder (all_of s) s.memory persisted
step_before s mid persisted (delays entry events doing is) left =
    let now : IsLeftInOrder ((s.buffer ++ entry ∷ []) ++ entries_of events) s.memory persisted = subst (λ (x : Configuration). IsLeftInOrder (all_of x) x.memory persisted) is left in
    subst (λ (es : List Entry). IsLeftInOrder es s.memory persisted) (append_assoc s.buffer (entry ∷ []) (entries_of events) ∙ ap (λ (xs : List Event). s.buffer ++ entries_of xs) (sym doing)) now
step_before s mid persisted (waits events doing empty is) left =
    let now : IsLeftInOrder (entries_of events) s.memory persisted = subst (λ (x : Configuration). IsLeftInOrder (all_of x) x.memory persisted) is left in
    let whole : all_of s ≡ entries.Sfence ∷ entries_of events = ap (λ (b : List Entry). b ++ entries_of s.events) empty ∙ ap entries_of doing in
    subst (λ (es : List Entry). IsLeftInOrder es s.memory persisted) (sym whole)
    (one_first entries.Sfence (entries.Sfence ∷ entries_of events) (entries_of events) s.memory persisted (oldest entries.Sfence (entries_of events))
    (subst (λ (m : Memory). IsLeftInOrder (entries_of events) m persisted) (sym (none_more s.memory)) now))
step_before s mid persisted (locks word value events doing empty is) left =
    let now : IsLeftInOrder (entries_of events) (grown s.memory (Write word value ∷ [])) persisted = subst (λ (x : Configuration). IsLeftInOrder (all_of x) x.memory persisted) is left in
    let rest : List Entry = entries.Write word value ∷ entries_of events in
    let whole : all_of s ≡ entries.Sfence ∷ rest = ap (λ (b : List Entry). b ++ entries_of s.events) empty ∙ ap entries_of doing in
    subst (λ (es : List Entry). IsLeftInOrder es s.memory persisted) (sym whole)
    (one_first entries.Sfence (entries.Sfence ∷ rest) rest s.memory persisted (oldest entries.Sfence rest)
    (subst (λ (m : Memory). IsLeftInOrder rest m persisted) (sym (none_more s.memory))
    (one_first (entries.Write word value) rest (entries_of events) s.memory persisted (oldest (entries.Write word value) (entries_of events)) now)))
step_before s mid persisted (drains i entry buffer taken is) left =
    let now : IsLeftInOrder (buffer ++ entries_of s.events) (grown s.memory (pending_of entry)) persisted = subst (λ (x : Configuration). IsLeftInOrder (all_of x) x.memory persisted) is left in
    one_first entry (all_of s) (buffer ++ entries_of s.events) s.memory persisted (leaves_of_more entry s.buffer buffer (entries_of s.events) (leaves_of_take s.buffer buffer i entry taken)) now
step_before s mid persisted (changes memory change is) left =
    let now : IsLeftInOrder (all_of s) memory persisted = subst (λ (x : Configuration). IsLeftInOrder (all_of x) x.memory persisted) is left in
    let (order, end, more, may) = now in
    let more_pending : List PendingEntry = pending_by order in
    let (n, last, run, same) = may_leave_reached (grown memory more_pending) persisted may in
    (order, end, more, reached_may_leave (grown s.memory more_pending) persisted (suc n, last, (grown memory more_pending, change_grown s.memory memory more_pending change, run), same))

run_before : (n : ℕ) (s end : Configuration) (persisted : List ℕ) → Transitions n s end → IsReached end.memory persisted → IsLeftInOrder (all_of s) s.memory persisted
run_before zero s end persisted same reached =
    let here : IsReached s.memory persisted = subst (λ (x : Configuration). IsReached x.memory persisted) same reached in
    ([], all_of s, refl, subst (λ (xs : List PendingEntry). MayLeave no_line xs s.memory.persisted persisted) (sym (append-nil s.memory.pending)) (reached_may_leave s.memory persisted here))
run_before (suc n) s end persisted (mid, goes, run) reached = step_before s mid persisted goes (run_before n mid end persisted run reached)

pub left_by_late : (events : List Event) (m : Memory) (persisted : List ℕ) → IsLeftBy events m persisted → IsLeftByLate (entries_of events) m persisted
left_by_late events m persisted (n, end, run, reached) =
    let (order, last, leave, may) = run_before n (record { events = events; buffer = []; memory = m }) end persisted run reached in
    let (late, is, below) = order_has_late [] (entries_of events) order last leave in
    (late, is, below_behind_all m.pending (pending_by order) late below no_line m.persisted persisted may)
