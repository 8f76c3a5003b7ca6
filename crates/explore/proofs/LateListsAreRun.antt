-- Whatever a late list may leave, a crash in some run of its program leaves.
use Rattle.std.proofs.Common.{◌≡◌, ℕ, zero, suc, inl, inr, Bool, true, false, List, [], ◌∷◌, ◌++◌, length, refl, sym, ap, subst, ◌∙◌, true≢false}
use Rattle.std.specs.Prelude.{◌↔◌, ◌==◌, ◌||◌, if◌then◌else◌}
use Rattle.std.specs.List.{list_any}
use Rattle.std.proofs.lemmas.Bool.{cases_Bool, eqb-true}
use Rattle.std.proofs.lemmas.List.{append_assoc, append-nil}
use Rattle.lines_layout.specs.Lines.{line_of}
use Rattle.store_buffer.specs.declared.entry.Entry.{Entry}
use Rattle.store_buffer.specs.declared.entry.Entry.TheVariants as entries
use Rattle.store_buffer.specs.Buffers.{is_held_by}
use Rattle.persist_buffer.specs.declared.entry.PendingEntry.{PendingEntry}
use Rattle.persist_buffer.specs.declared.entry.PendingEntry.TheVariants.{Write, Marker}
use Rattle.persist_buffer.specs.State.{Memory}
use Rattle.pending_images.specs.Changes.{IsReached}
use Rattle.explore.specs.Canonical.{MayLeave, no_line}
use Rattle.explore.specs.Covering.{grown}
use Rattle.explore.specs.FenceMemories.{IsReachedInOne, entries_of, fence_memories}
use Rattle.explore.specs.StraightLine.Transition.{delays, waits, locks, drains}
use Rattle.explore.specs.StraightLine.{Configuration, IsLeftBy, Transition, Transitions, nothing_pending, pending_of}
use Rattle.explore.specs.declared.event.Event.TheVariants.{Delayed, Waited, LockedWrite}
use Rattle.explore.specs.declared.event.Event.{Event}
use Rattle.explore.proofs.LeftByEntries.{may_leave_reached}
use Rattle.explore.proofs.DominatedLists.{below_behind_all, by_line, fewer_markers, is_there, is_there_too, markers_have_left, stays, without_is_fewer}
use Rattle.explore.proofs.Late.{IsBelow, IsLate, IsLeftByLate, Leaves, is_among, markers, take_of_leaves, without}
use Rattle.explore.proofs.LateLists.{fewer_without}
use Rattle.explore.proofs.MemoriesAtFences.{in_one_memory}
use Rattle.explore.proofs.RunsLeaveLateLists.{left_by_late, none_more, oldest}

abbrev at : List Event → List Entry → Memory → Configuration
at events buffer m = record { events = events; buffer = buffer; memory = m }

-- some run, and a crash there, leaves these
abbrev Leads : Configuration → List ℕ → Type 0
Leads s new = (n : ℕ) × (end : Configuration) × Transitions n s end × IsReached end.memory new

goes_then : (s mid : Configuration) (new : List ℕ) → Transition s mid → Leads mid new → Leads s new
goes_then s mid new goes (n, end, run, reached) = (suc n, end, (mid, goes, run), reached)

-- an entry leaves
drained : (old : Configuration) (entry : Entry) (buffer : List Entry) → Leaves entry old.buffer buffer
    → Transition old (record { events = old.events; buffer = buffer; memory = grown old.memory (pending_of entry) })
drained old entry buffer left = drains (length left.before) entry buffer (take_of_leaves old.buffer buffer entry left) refl

-- optimized flushes that wait
abbrev optimized : List ℕ → List Entry
optimized [] = []
optimized (line ∷ lines) = entries.FlushOpt line ∷ optimized lines

optimized_join : (ls ms : List ℕ) → optimized (ls ++ ms) ≡ optimized ls ++ optimized ms
optimized_join [] ms = refl
optimized_join (l ∷ ls) ms = ap (λ (es : List Entry). entries.FlushOpt l ∷ es) (optimized_join ls ms)

optimized_free : (line : ℕ) (ls : List ℕ) → list_any (is_held_by (entries.FlushOpt line)) (optimized ls) ≡ false
optimized_free line [] = refl
optimized_free line (l ∷ ls) = optimized_free line ls

write_free : (word value : ℕ) (ls : List ℕ) → list_any (is_held_by (entries.Write word value)) (optimized ls) ≡ false
write_free word value [] = refl
write_free word value (l ∷ ls) = write_free word value ls

flush_free : (line : ℕ) (ls : List ℕ) → is_among line ls ≡ false → list_any (is_held_by (entries.Flush line)) (optimized ls) ≡ false
flush_free line [] none = refl
flush_free line (l ∷ ls) none = by (l == line) none (flush_free line ls)
  where
    by : (b : Bool) → (if b then true else is_among line ls) ≡ false → (is_among line ls ≡ false → list_any (is_held_by (entries.Flush line)) (optimized ls) ≡ false) → (b || list_any (is_held_by (entries.Flush line)) (optimized ls)) ≡ false
    by true e h = absurd (true≢false e)
    by false e h = h e

grown_on : (m : Memory) (p q : List PendingEntry) → grown (grown m p) q ≡ grown m (p ++ q)
grown_on m p q = λ k. record { pending = append_assoc m.pending p q k; persisted = m.persisted }

-- all leave
all_leave : (ls : List ℕ) (events : List Event) (m : Memory) (new : List ℕ) → Leads (at events [] (grown m (markers ls))) new → Leads (at events (optimized ls) m) new
all_leave [] events m new h = subst (λ (x : Memory). Leads (at events [] x) new) (none_more m) h
all_leave (l ∷ ls) events m new h =
    goes_then (at events (optimized (l ∷ ls)) m) (at events (optimized ls) (grown m (Marker l ∷ []))) new (drained (at events (optimized (l ∷ ls)) m) (entries.FlushOpt l) (optimized ls) (oldest (entries.FlushOpt l) (optimized ls)))
    (all_leave ls events (grown m (Marker l ∷ [])) new (subst (λ (x : Memory). Leads (at events [] x) new) (sym (grown_on m (Marker l ∷ []) (markers ls))) h))

-- those of one line leave, past others
record LineLeaves (line : ℕ) (kept ls : List ℕ) (events : List Event) (m : Memory) : Type 0 where
  gone : List ℕ
  one : (l : ℕ) → is_among l gone ≡ true → line ≡ l
  leads : (new : List ℕ) → Leads (at events (optimized kept ++ optimized (without line ls)) (grown m (markers gone))) new → Leads (at events (optimized kept ++ optimized ls) m) new

line_leaves : (line : ℕ) (kept ls : List ℕ) (events : List Event) (m : Memory) → LineLeaves line kept ls events m
line_leaves line kept [] events m = record {
  gone = [];
  one = λ l e. absurd (true≢false (sym e));
  leads = λ new h. subst (λ (x : Memory). Leads (at events (optimized kept ++ []) x) new) (none_more m) h;
}
line_leaves line kept (l ∷ ls) events m = elim (cases_Bool (l == line)) [
  | inl same ↦ first same (line_leaves line kept ls events (grown m (Marker l ∷ [])))
  | inr apart ↦ other apart (line_leaves line (kept ++ l ∷ []) ls events m)
]
  where
    first : (l == line) ≡ true → LineLeaves line kept ls events (grown m (Marker l ∷ [])) → LineLeaves line kept (l ∷ ls) events m
    first same h = record {
      gone = l ∷ h.gone;
      one = λ x e. elim (by_line x l h.gone e) [ inl is ↦ sym (eqb-true l line same) ∙ is | inr too ↦ h.one x too ];
      leads = λ new more.
          let here : Leads (at events (optimized kept ++ optimized (without line ls)) (grown m (Marker l ∷ markers h.gone))) new =
          subst (λ (ms : List ℕ). Leads (at events (optimized kept ++ optimized ms) (grown m (Marker l ∷ markers h.gone))) new) (ap (λ (b : Bool). if b then without line ls else l ∷ without line ls) same) more in
          goes_then (at events (optimized kept ++ optimized (l ∷ ls)) m) (at events (optimized kept ++ optimized ls) (grown m (Marker l ∷ []))) new
          (drained (at events (optimized kept ++ optimized (l ∷ ls)) m) (entries.FlushOpt l) (optimized kept ++ optimized ls) (record { before = optimized kept; later = optimized ls; whole = refl; free = optimized_free l kept; rest = refl }))
          (h.leads new (subst (λ (x : Memory). Leads (at events (optimized kept ++ optimized (without line ls)) x) new) (sym (grown_on m (Marker l ∷ []) (markers h.gone))) here));
    }

    grouped : (ms : List ℕ) → optimized (kept ++ l ∷ []) ++ optimized ms ≡ optimized kept ++ entries.FlushOpt l ∷ optimized ms
    grouped ms = ap (λ (es : List Entry). es ++ optimized ms) (optimized_join kept (l ∷ [])) ∙ append_assoc (optimized kept) (entries.FlushOpt l ∷ []) (optimized ms)

    other : (l == line) ≡ false → LineLeaves line (kept ++ l ∷ []) ls events m → LineLeaves line kept (l ∷ ls) events m
    other apart h = record {
      gone = h.gone;
      one = h.one;
      leads = λ new more.
          let here : Leads (at events (optimized kept ++ entries.FlushOpt l ∷ optimized (without line ls)) (grown m (markers h.gone))) new =
          subst (λ (ms : List ℕ). Leads (at events (optimized kept ++ optimized ms) (grown m (markers h.gone))) new) (ap (λ (b : Bool). if b then without line ls else l ∷ without line ls) apart) more in
          subst (λ (es : List Entry). Leads (at events es m) new) (grouped ls)
          (h.leads new (subst (λ (es : List Entry). Leads (at events es (grown m (markers h.gone))) new) (sym (grouped (without line ls))) here));
    }

-- an entry is delayed, and leaves past optimized flushes
passes : (entry : Entry) (ls : List ℕ) (events : List Event) (m : Memory) (new : List ℕ) → list_any (is_held_by entry) (optimized ls) ≡ false → Leads (at events (optimized ls) (grown m (pending_of entry))) new → Leads (at (Delayed entry ∷ events) (optimized ls) m) new
passes entry ls events m new free h =
    goes_then (at (Delayed entry ∷ events) (optimized ls) m) (at events (optimized ls ++ entry ∷ []) m) new (delays entry events refl refl)
    (goes_then (at events (optimized ls ++ entry ∷ []) m) (at events (optimized ls) (grown m (pending_of entry))) new
    (drained (at events (optimized ls ++ entry ∷ []) m) entry (optimized ls) (record { before = optimized ls; later = []; whole = refl; free = free; rest = sym (append-nil (optimized ls)) })) h)

-- ---- markers of one line

one_line : (line : ℕ) (gone : List ℕ) (es : List PendingEntry) → ((l : ℕ) → is_among l gone ≡ true → line ≡ l) → IsBelow (Marker line ∷ es) (markers gone ++ es)
one_line line gone es one = fewer_markers (line ∷ []) gone es (λ l e. subst (λ (x : ℕ). is_among x (line ∷ []) ≡ true) (one l e) (is_there line []))

once_more : (line : ℕ) (gone : List ℕ) (es : List PendingEntry) → ((l : ℕ) → is_among l gone ≡ true → line ≡ l) → IsBelow (Marker line ∷ es) (markers gone ++ Marker line ∷ es)
once_more line gone es one blocked old new (inl (free, more)) = markers_have_left blocked gone (Marker line ∷ es) old new (λ l e. ap blocked (sym (one l e)) ∙ free) (inl (free, more))
once_more line gone es one blocked old new (inr same) = stays blocked (markers gone ++ Marker line ∷ es) old new same

-- what may leave a memory and more
abbrev May : Memory → List PendingEntry → List ℕ → Type 0
May m more new = MayLeave no_line (m.pending ++ more) m.persisted new

may_grow : (m : Memory) (p q : List PendingEntry) (new : List ℕ) → May m (p ++ q) new → May (grown m p) q new
may_grow m p q new h = subst (λ (es : List PendingEntry). MayLeave no_line es m.persisted new) (sym (append_assoc m.pending p q)) h

may_below : (m : Memory) (p q : List PendingEntry) (new : List ℕ) → IsBelow p q → May m p new → May m q new
may_below m p q new h may = below_behind_all m.pending p q h no_line m.persisted new may

gone_line : (line : ℕ) (ls : List ℕ) → is_among line (without line ls) ≡ false
gone_line line ls = elim (cases_Bool (is_among line (without line ls))) [ inl there ↦ absurd ((without_is_fewer line line ls there).0 refl) | inr none ↦ none ]

-- ---- the law

late_leads : (waiting ls : List ℕ) (events : List Event) (m : Memory) (late : List PendingEntry) (new : List ℕ) → ((l : ℕ) → is_among l ls ≡ true → is_among l waiting ≡ true)
    → IsLate waiting (entries_of events) late → May m late new → Leads (at events (optimized ls) m) new
late_leads waiting ls [] m late new h is may =
    (zero, at [] (optimized ls) m, refl, may_leave_reached m new (subst (λ (es : List PendingEntry). MayLeave no_line es m.persisted new) (ap (λ (es : List PendingEntry). m.pending ++ es) is ∙ append-nil m.pending) may))
late_leads waiting ls (Delayed (entries.Write word value) ∷ events) m late new h (inl (rest, whole, is)) may =
    let one : List PendingEntry = Write word value ∷ [] in
    passes (entries.Write word value) ls events m new (write_free word value ls)
    (late_leads waiting ls events (grown m one) rest new h is (may_grow m one rest new (subst (λ (es : List PendingEntry). May m es new) whole may)))
late_leads waiting ls (Delayed (entries.Write word value) ∷ events) m late new h (inr (rest, there, whole, is)) may =
    let line = line_of word in
    let left = line_leaves line [] ls (Delayed (entries.Write word value) ∷ events) m in
    let after : Memory = grown m (markers left.gone) in
    let one : List PendingEntry = Write word value ∷ [] in
    let here : May m (Marker line ∷ Write word value ∷ rest) new = subst (λ (es : List PendingEntry). May m es new) whole may in
    let now : May after (Write word value ∷ rest) new =
    may_grow m (markers left.gone) (Write word value ∷ rest) new (may_below m (Marker line ∷ Write word value ∷ rest) (markers left.gone ++ Write word value ∷ rest) new (one_line line left.gone (Write word value ∷ rest) left.one) here) in
    left.leads new (passes (entries.Write word value) (without line ls) events after new (write_free word value (without line ls))
    (late_leads (without line waiting) (without line ls) events (grown after one) rest new (fewer_without line waiting ls h) is (may_grow after one rest new now)))
late_leads waiting ls (Delayed (entries.Flush line) ∷ events) m late new h (rest, whole, is) may =
    let left = line_leaves line [] ls (Delayed (entries.Flush line) ∷ events) m in
    let after : Memory = grown m (markers left.gone) in
    let one : List PendingEntry = Marker line ∷ [] in
    let here : May m (Marker line ∷ rest) new = subst (λ (es : List PendingEntry). May m es new) whole may in
    let now : May after (Marker line ∷ rest) new =
    may_grow m (markers left.gone) (Marker line ∷ rest) new (may_below m (Marker line ∷ rest) (markers left.gone ++ Marker line ∷ rest) new (once_more line left.gone rest left.one) here) in
    left.leads new (passes (entries.Flush line) (without line ls) events after new (flush_free line (without line ls) (gone_line line ls))
    (late_leads (without line waiting) (without line ls) events (grown after one) rest new (fewer_without line waiting ls h) is (may_grow after one rest new now)))
late_leads waiting ls (Delayed (entries.FlushOpt line) ∷ events) m late new h is may =
    goes_then (at (Delayed (entries.FlushOpt line) ∷ events) (optimized ls) m) (at events (optimized ls ++ entries.FlushOpt line ∷ []) m) new (delays (entries.FlushOpt line) events refl refl)
    (subst (λ (es : List Entry). Leads (at events es m) new) (optimized_join ls (line ∷ [])) (late_leads (line ∷ waiting) (ls ++ line ∷ []) events m late new (more ls h) is may))
  where
    more : (ms : List ℕ) → ((l : ℕ) → is_among l ms ≡ true → is_among l waiting ≡ true) → (l : ℕ) → is_among l (ms ++ line ∷ []) ≡ true → is_among l (line ∷ waiting) ≡ true
    more [] k l e = elim (by_line l line [] e) [ inl same ↦ subst (λ (x : ℕ). is_among x (line ∷ waiting) ≡ true) same (is_there line waiting) | inr none ↦ absurd (true≢false (sym none)) ]
    more (x ∷ ms) k l e = elim (by_line l x (ms ++ line ∷ []) e) [
      | inl same ↦ is_there_too l line waiting (k l (subst (λ (y : ℕ). is_among y (x ∷ ms) ≡ true) same (is_there x ms)))
      | inr too ↦ more ms (λ y there. k y (is_there_too y x ms there)) l too
    ]
late_leads waiting ls (Delayed entries.Sfence ∷ events) m late new h (rest, whole, is) may =
    let after : Memory = grown m (markers ls) in
    let now : May after rest new =
    may_grow m (markers ls) rest new (may_below m (markers waiting ++ rest) (markers ls ++ rest) new (fewer_markers waiting ls rest h) (subst (λ (es : List PendingEntry). May m es new) whole may)) in
    all_leave ls (Delayed entries.Sfence ∷ events) m new
    (passes entries.Sfence [] events after new refl (subst (λ (x : Memory). Leads (at events [] x) new) (sym (none_more after)) (late_leads [] [] events after rest new (λ l e. e) is now)))
late_leads waiting ls (Waited ∷ events) m late new h (rest, whole, is) may =
    let after : Memory = grown m (markers ls) in
    let now : May after rest new =
    may_grow m (markers ls) rest new (may_below m (markers waiting ++ rest) (markers ls ++ rest) new (fewer_markers waiting ls rest h) (subst (λ (es : List PendingEntry). May m es new) whole may)) in
    all_leave ls (Waited ∷ events) m new
    (goes_then (at (Waited ∷ events) [] after) (at events [] after) new (waits events refl refl refl) (late_leads [] [] events after rest new (λ l e. e) is now))
late_leads waiting ls (LockedWrite word value ∷ events) m late new h (rest, whole, inl (more, next, is)) may =
    let after : Memory = grown m (markers ls) in
    let one : List PendingEntry = Write word value ∷ [] in
    let now : May after rest new =
    may_grow m (markers ls) rest new (may_below m (markers waiting ++ rest) (markers ls ++ rest) new (fewer_markers waiting ls rest h) (subst (λ (es : List PendingEntry). May m es new) whole may)) in
    all_leave ls (LockedWrite word value ∷ events) m new
    (goes_then (at (LockedWrite word value ∷ events) [] after) (at events [] (grown after one)) new (locks word value events refl refl refl)
    (late_leads [] [] events (grown after one) more new (λ l e. e) is (may_grow after one more new (subst (λ (es : List PendingEntry). May after es new) next now))))
late_leads waiting ls (LockedWrite word value ∷ events) m late new h (rest, whole, inr (more, there, next, is)) may = absurd (true≢false (sym there))

late_left : (events : List Event) (m : Memory) (persisted : List ℕ) → IsLeftByLate (entries_of events) m persisted → IsLeftBy events m persisted
late_left events m persisted (late, is, may) = late_leads [] [] events m late persisted (λ l e. e) is may

-- ---- both ways, and by the memories at the fences

pub left_in_one : (events : List Event) (old persisted : List ℕ) → (IsLeftBy events (nothing_pending old) persisted) ↔ IsReachedInOne (fence_memories events old) persisted
left_in_one events old persisted =
    let by_memories = in_one_memory [] (entries_of events) old persisted refl in
    ((λ left. by_memories.0 (left_by_late events (nothing_pending old) persisted left)), (λ reached. late_left events (nothing_pending old) persisted (by_memories.1 reached)))
