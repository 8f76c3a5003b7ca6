-- Nodes whose images are left to later ones.
use Rattle.std.proofs.Common.{◌≡◌, ℕ, zero, suc, ◌+◌, ◌≤◌, inl, inr, Bool, true, false, Some, Ok, List, [], ◌∷◌, ◌++◌, length, map, refl, sym, ap, subst, ◌∙◌, arith, append_assoc, true≢false}
use Rattle.std.specs.Prelude.{◌⊎◌, Contains, slice_get}
use Rattle.std.specs.Option.{option_map_or}
use Rattle.store_buffer.specs.declared.entry.Entry.{Entry}
use Rattle.store_buffer.specs.declared.entry.Entry.TheVariants.{Write, Flush, FlushOpt, Sfence}
use Rattle.persist_buffer.specs.declared.entry.PendingEntry.{PendingEntry}
use Rattle.persist_buffer.specs.declared.entry.PendingEntry.TheVariants as pendings
use Rattle.persist_buffer.specs.State.{Memory}
use Rattle.machine.specs.declared.step.Seen.{Seen}
use Rattle.machine.specs.declared.step.Step.{Step}
use Rattle.machine.specs.declared.step.Step.TheVariants.{Exec, Drain, Persist, Settle, Crash}
use Rattle.machine.specs.Processors.{receive_of, restart_of}
use Rattle.machine.specs.State.{Processor, State}
use Rattle.machine.specs.Steps.{step_of}
use Rattle.machine.proofs.DrainingIsASplit.{fence_disappears, write_arrives}
use Rattle.machine.proofs.ProcessorSteps.{drain_only}
use Rattle.explore.specs.declared.question.Question.{Question}
use Rattle.explore.specs.Ahead.{AreClosedAhead, IsAdvanced, IsIdle, IsPassed, IsTried}
use Rattle.explore.specs.Covering.{grown}
use Rattle.explore.specs.LineSets.{AreHeld}
use Rattle.explore.specs.Questions.{is_move}
use Rattle.explore.specs.Visits.{leaves_no_marker, takes_nothing}
use Rattle.explore.proofs.AheadSteps.{HasAtMostOneWrite, exec_writes}
use Rattle.explore.specs.Found.{led_to, nodes_of}
use Rattle.explore.proofs.FoundPaths.{Grows, get_grown, within_list}
use Rattle.explore.proofs.Members.{get_mapped, get_of, place_of, there_at}
use Rattle.explore.proofs.WithinMemories.{unmarked_both}

-- the kind of a node
pub kind_of : (sets locals : Bool) (question : Question) (nodes : List State) (r : State) → AreClosedAhead sets locals question nodes → Contains nodes r → IsTried sets locals question nodes r ⊎ IsAdvanced sets locals nodes r
kind_of sets locals question nodes r closed there =
    let (i, at) = place_of nodes r there in
    elim (closed.each i r at) [ inl both ↦ inl both.0 | inr advanced ↦ inr advanced ]

-- ---- from one to the next, up to one that is not left to a later one

-- A node that is not, of the same machine: what lines may hold at first, its lines may.
pub record IsLater (nodes : List State) (Is : State → Type 0) (r : State) (persisted : List ℕ) : Type 0 where
  pub node : State
  pub there : Contains nodes node
  pub is : Is node
  pub shape : r.shape ≡ node.shape
  pub restarts : map restart_of r.processors ≡ map restart_of node.processors
  pub held : AreHeld node.memory persisted

module _ (locals : Bool) (nodes : List State) (Is : State → Type 0) (each : (i : ℕ) (r : State) → slice_get nodes i ≡ Some r → IsIdle locals r → IsPassed locals nodes i r ⊎ Is r) where
  later_by : (n i : ℕ) (r : State) (persisted : List ℕ) → length nodes ≤ i + n → slice_get nodes i ≡ Some r → IsIdle locals r → AreHeld r.memory persisted → IsLater nodes Is r persisted
  later_by zero i r persisted few at idle held = let inside = within_list nodes r i at in absurd (omega (arith, few, inside))
  later_by (suc n) i r persisted few at idle held =
      elim (each i r at idle) [
        | inl p ↦
            let later = p.later in
            let l = later_by n p.place p.node persisted (omega (arith, few, later)) p.there p.idle (p.held persisted held) in
            record { node = l.node; there = l.there; is = l.is; shape = p.shape ∙ l.shape; restarts = p.restarts ∙ l.restarts; held = l.held }
        | inr is ↦ record { node = r; there = there_at nodes r i at; is = is; shape = refl; restarts = refl; held = held }
      ]

  pub later_node : (r : State) (persisted : List ℕ) → Contains nodes r → IsIdle locals r → AreHeld r.memory persisted → IsLater nodes Is r persisted
  later_node r persisted there idle held = let (i, at) = place_of nodes r there in later_by (length nodes) i r persisted (omega arith) at idle held

-- ---- a step that takes nothing

-- it is a processor's
pub takes_moves : (s : State) (step : Step) → takes_nothing s step ≡ true → is_move step ≡ true
takes_moves s (Exec p) keeps = refl
takes_moves s (Drain p i) keeps = refl
takes_moves s (Persist line) keeps = absurd (true≢false (sym keeps))
takes_moves s Settle keeps = absurd (true≢false (sym keeps))
takes_moves s Crash keeps = absurd (true≢false (sym keeps))

-- what lines may hold, they may once a write is pending
held_written : (m : Memory) (word value : ℕ) (persisted : List ℕ) → AreHeld m persisted → AreHeld (grown m (pendings.Write word value ∷ [])) persisted
held_written m word value persisted held = record {
  words = held.words;
  each = λ line.
      let x = held.each line in
      let one : List PendingEntry = pendings.Write word value ∷ [] in
      record {
        before = x.before;
        since = x.since ++ one;
        whole = ap (λ (es : List PendingEntry). es ++ one) x.whole ∙ append_assoc x.before x.since one;
        unmarked = unmarked_both line x.since one x.unmarked refl;
        shown = x.shown;
      };
}

held_on : (m n : Memory) (persisted : List ℕ) → HasAtMostOneWrite m n → AreHeld m persisted → AreHeld n persisted
held_on m n persisted (inl same) held = subst (λ (x : Memory). AreHeld x persisted) (sym same) held
held_on m n persisted (inr (word, value, is)) held = subst (λ (x : Memory). AreHeld x persisted) (sym is) (held_written m word value persisted held)

-- the entry that leaves
get_behind : (earlier later : List Entry) (entry : Entry) → slice_get (earlier ++ entry ∷ later) (length earlier) ≡ Some entry
get_behind [] later entry = refl
get_behind (e ∷ earlier) later entry = get_behind earlier later entry

received_writes : (entry : Entry) (m n : Memory) → leaves_no_marker entry ≡ true → receive_of m entry ≡ Ok n → HasAtMostOneWrite m n
received_writes (Write word value) m n none e = let a = write_arrives m n word value e in inr (word, value, λ k. record { pending = a.pending k; persisted = a.persisted k })
received_writes (Flush line) m n none e = absurd (true≢false (sym none))
received_writes (FlushOpt line) m n none e = absurd (true≢false (sym none))
received_writes Sfence m n none e = inl (fence_disappears m n e)

drain_writes : (t u : State) (p i : ℕ) (seen : Seen) → takes_nothing t (Drain p i) ≡ true → step_of t (Drain p i) ≡ Ok (seen, u) → HasAtMostOneWrite t.memory u.memory
drain_writes t u p i seen keeps e =
    let x = drain_only t u p i seen e in
    let at : slice_get x.before.buffer i ≡ Some x.entry =
    (λ k. slice_get (x.split.whole k) (sym x.split.place k)) ∙ get_behind x.earlier x.later x.entry in
    let none : leaves_no_marker x.entry ≡ true =
    sym (ap (λ o. option_map_or leaves_no_marker o false) at)
    ∙ sym (ap (λ o. option_map_or (λ (c : Processor). option_map_or leaves_no_marker (slice_get c.buffer i) false) o false) x.there) ∙ keeps in
    received_writes x.entry t.memory u.memory none x.arrived

pub keeps_held : (t u : State) (step : Step) (seen : Seen) (persisted : List ℕ) → takes_nothing t step ≡ true → step_of t step ≡ Ok (seen, u) → AreHeld t.memory persisted → AreHeld u.memory persisted
keeps_held t u (Exec p) seen persisted keeps e held = held_on t.memory u.memory persisted (exec_writes t u p seen e) held
keeps_held t u (Drain p i) seen persisted keeps e held = held_on t.memory u.memory persisted (drain_writes t u p i seen keeps e) held
keeps_held t u (Persist line) seen persisted keeps e held = absurd (true≢false (sym keeps))
keeps_held t u Settle seen persisted keeps e held = absurd (true≢false (sym keeps))
keeps_held t u Crash seen persisted keeps e held = absurd (true≢false (sym keeps))

-- ---- more is found

pub more_passed : (locals : Bool) (start : State) (xs ys : List (List Step)) (i : ℕ) (r : State) → Grows xs ys → IsPassed locals (nodes_of start xs) i r → IsPassed locals (nodes_of start ys) i r
more_passed locals start xs ys i r grows p =
    let (path, at, is) = get_of (led_to start) xs p.place p.node p.there in
    let there = get_mapped (led_to start) ys p.place path (get_grown xs ys p.place grows (within_list xs path p.place at) ∙ at) in
    record { place = p.place; later = p.later; node = p.node; there = there ∙ ap (λ (n : State). Some n) is; idle = p.idle; shape = p.shape; restarts = p.restarts; held = p.held }
