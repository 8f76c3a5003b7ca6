-- The runs of a machine with one processor are runs of a straight-line program.
use Rattle.std.proofs.Common.{◌≡◌, ℕ, zero, suc, inl, inr, false, Some, None, Ok, List, [], ◌∷◌, ◌++◌, length, refl, sym, ap, subst, ◌∙◌, true≢false}
use Rattle.std.specs.Prelude.{◌⊎◌, slice_get, slice_set}
use Rattle.std.proofs.lemmas.List.{append_assoc}
use Rattle.store_buffer.specs.declared.entry.Entry.{Entry}
use Rattle.store_buffer.specs.declared.entry.Entry.TheVariants as entries
use Rattle.persist_buffer.specs.declared.entry.PendingEntry.{PendingEntry}
use Rattle.persist_buffer.specs.declared.entry.PendingEntry.TheVariants.{Write, Marker}
use Rattle.persist_buffer.specs.State.{Memory}
use Rattle.persist_buffer.proofs.PersistingIsASplit.{persisting_always, settling_always}
use Rattle.pending_images.specs.Changes.{Change, IsReached, persists, settles}
use Rattle.processor.specs.declared.act.Act.{Act}
use Rattle.processor.specs.declared.act.Act.TheVariants.{Local, Fence, Read, Delay, Locked, Trap}
use Rattle.processor.specs.Acts.{IsShown}
use Rattle.processor.specs.Contents.{Contents}
use Rattle.machine.specs.declared.step.Seen.{Seen}
use Rattle.machine.specs.declared.step.Step.{Step}
use Rattle.machine.specs.declared.step.Step.TheVariants.{Exec, Drain, Persist, Settle, Crash}
use Rattle.machine.specs.Processors.{contents_of, receive_of}
use Rattle.machine.specs.State.{Processor, State}
use Rattle.machine.specs.Steps.{step_of}
use Rattle.machine.proofs.DrainingIsASplit.{fence_disappears, flush_arrives, optimized_flush_arrives, write_arrives}
use Rattle.machine.proofs.ExecShowsAll.{exec_shown}
use Rattle.machine.proofs.PersistAndSettleStepsSplit.{persist_only, settle_only}
use Rattle.machine.proofs.ProcessorSteps.{drain_only, exec_only}
use Rattle.explore.specs.Covering.{grown}
use Rattle.explore.specs.Reachable.{is_crash}
use Rattle.explore.specs.Alone.{events_shown}
use Rattle.explore.specs.FenceMemories.{IsReachedInOne, fence_memories}
use Rattle.explore.specs.OneProcessor.{IsAlone}
use Rattle.explore.specs.StraightLine.Transition.{delays, waits, locks, drains, changes}
use Rattle.explore.specs.StraightLine.{Configuration, nothing_pending, Transition, Transitions, pending_of}
use Rattle.explore.specs.declared.event.Event.TheVariants.{Waited}
use Rattle.explore.specs.declared.event.Event.{Event}
use Rattle.explore.proofs.Late.{Leaves, take_of_leaves}
use Rattle.explore.proofs.LateListsAreRun.{left_in_one}
use Rattle.explore.proofs.RunsLeaveLateLists.{none_more}
use Rattle.explore.proofs.Shown.{Shows, events_of}

abbrev pub at : List Event → List Entry → Memory → Configuration
at events buffer m = record { events = events; buffer = buffer; memory = m }

-- a step is one of a straight-line program, or none
abbrev Matches : List Event → List Entry → Memory → List Entry → Memory → Type 0
Matches events b m d n = (rest : List Event) → Transition (at (events ++ rest) b m) (at rest d n) ⊎ (at rest d n ≡ at (events ++ rest) b m)

same_both : (shape : List ℕ) (b d : List Entry) (m n : Memory) → contents_of shape d n ≡ contents_of shape b m → (d ≡ b) × (n ≡ m)
same_both shape b d m n e = (ap (λ (x : Contents). x.buffer) e, ap (λ (x : Contents). x.memory) e)

stays_put : (b d : List Entry) (m n : Memory) → d ≡ b → n ≡ m → Matches [] b m d n
stays_put b d m n buffer memory rest = inr (λ k. at rest (buffer k) (memory k))

waits_put : (b d : List Entry) (m n : Memory) → b ≡ [] → d ≡ b → n ≡ m → Matches (Waited ∷ []) b m d n
waits_put b d m n empty buffer memory rest = inl (waits rest refl empty (λ k. at rest ((buffer ∙ empty) k) (memory k)))

memory_is : (m n : Memory) (q : List PendingEntry) → n.pending ≡ m.pending ++ q → n.persisted ≡ m.persisted → n ≡ grown m q
memory_is m n q pending persisted = λ k. record { pending = pending k; persisted = persisted k }

act_matches : (shape : List ℕ) (act : Act) (b d : List Entry) (m n : Memory) → IsShown act (contents_of shape b m) (contents_of shape d n) → Matches (events_shown act) b m d n
act_matches shape Local b d m n shown = let both = same_both shape b d m n shown in stays_put b d m n both.0 both.1
act_matches shape Fence b d m n shown = let both = same_both shape b d m n shown.1 in waits_put b d m n shown.0 both.0 both.1
act_matches shape (Read word value) b d m n shown = let both = same_both shape b d m n shown.1 in stays_put b d m n both.0 both.1
act_matches shape (Delay entry) b d m n shown = λ rest. inl (delays entry rest refl (λ k. at rest (shown.buffer k) (shown.memory k)))
act_matches shape (Locked word value (Some new)) b d m n shown = λ rest.
    inl (locks word new rest refl shown.0 (λ k. at rest ((shown.2.buffer ∙ shown.0) k) (memory_is m n (Write word new ∷ []) shown.2.pending shown.2.persisted k)))
act_matches shape (Locked word value None) b d m n shown = let both = same_both shape b d m n shown.2 in waits_put b d m n shown.0 both.0 both.1
act_matches shape (Trap address) b d m n shown = let both = same_both shape b d m n shown.1 in stays_put b d m n both.0 both.1

pub entry_arrives : (m n : Memory) (entry : Entry) → receive_of m entry ≡ Ok n → n ≡ grown m (pending_of entry)
entry_arrives m n (entries.Write word value) e = let a = write_arrives m n word value e in memory_is m n (Write word value ∷ []) a.pending a.persisted
entry_arrives m n (entries.Flush line) e = let a = flush_arrives m n line e in memory_is m n (Marker line ∷ []) a.pending a.persisted
entry_arrives m n (entries.FlushOpt line) e = let a = optimized_flush_arrives m n line e in memory_is m n (Marker line ∷ []) a.pending a.persisted
entry_arrives m n entries.Sfence e = fence_disappears m n e ∙ sym (none_more m)

-- the only processor
pub only_one : (c b : Processor) (p : ℕ) → slice_get (c ∷ []) p ≡ Some b → (b ≡ c) × ((d : Processor) → slice_set (c ∷ []) p d ≡ d ∷ [])
only_one c b zero e = let same : c ≡ b = cc in (sym same, λ d. refl)
only_one c b (suc p) e = absurd (cc)

-- a step: the processor after it, and what it is
pub record IsStep (s t : State) (c : Processor) (seen : Seen) : Type 0 where
  pub after : Processor
  pub only : t.processors ≡ after ∷ []
  pub matches : Matches (events_of seen) c.buffer s.memory after.buffer t.memory

pub one_step : (s t : State) (c : Processor) (step : Step) (seen : Seen) → s.processors ≡ c ∷ [] → is_crash step ≡ false → step_of s step ≡ Ok (seen, t) → IsStep s t c seen
one_step s t c (Exec p) seen only crash e =
    let x = exec_only s t p seen e in
    let one = only_one c x.before p (ap (λ (cpus : List Processor). slice_get cpus p) (sym only) ∙ x.there) in
    let shown = exec_shown s.shape x.before x.after s.memory t.memory x.act x.ran in
    record {
      after = x.after;
      only = x.alone.processors ∙ ap (λ (cpus : List Processor). slice_set cpus p x.after) only ∙ one.1 x.after;
      matches = subst (λ (y : Seen). Matches (events_of y) c.buffer s.memory x.after.buffer t.memory) (sym x.shown)
          (subst (λ (b : Processor). Matches (events_shown x.act) b.buffer s.memory x.after.buffer t.memory) one.0 (act_matches s.shape x.act x.before.buffer x.after.buffer s.memory t.memory shown));
    }
one_step s t c (Drain p i) seen only crash e =
    let x = drain_only s t p i seen e in
    let one = only_one c x.before p (ap (λ (cpus : List Processor). slice_get cpus p) (sym only) ∙ x.there) in
    let buffer : x.after.buffer ≡ x.earlier ++ x.later = ap (λ (a : Processor). a.buffer) x.split.rest in
    let left : Leaves x.entry c.buffer x.after.buffer = record {
      before = x.earlier;
      later = x.later;
      whole = ap (λ (b : Processor). b.buffer) (sym one.0) ∙ x.split.whole;
      free = x.split.free;
      rest = buffer;
    } in
    record {
      after = x.after;
      only = x.alone.processors ∙ ap (λ (cpus : List Processor). slice_set cpus p x.after) only ∙ one.1 x.after;
      matches = subst (λ (y : Seen). Matches (events_of y) c.buffer s.memory x.after.buffer t.memory) (sym x.shown)
          (λ rest. inl (drains (length left.before) x.entry x.after.buffer (take_of_leaves c.buffer x.after.buffer x.entry left) (λ k. at rest x.after.buffer (entry_arrives s.memory t.memory x.entry x.arrived k))));
    }
one_step s t c (Persist line) seen only crash e =
    let x = persist_only s t line seen e in
    let change : Change s.memory t.memory = persists line x.word x.value (persisting_always line s.memory t.memory x.word x.value x.before x.later x.split) in
    record {
      after = c;
      only = x.alone.processors ∙ only;
      matches = subst (λ (y : Seen). Matches (events_of y) c.buffer s.memory c.buffer t.memory) (sym x.shown) (λ rest. inl (changes t.memory change refl));
    }
one_step s t c Settle seen only crash e =
    let x = settle_only s t seen e in
    let change : Change s.memory t.memory = settles x.line (settling_always x.line s.memory t.memory x.before x.later x.split) in
    record {
      after = c;
      only = x.alone.processors ∙ only;
      matches = subst (λ (y : Seen). Matches (events_of y) c.buffer s.memory c.buffer t.memory) (sym x.shown) (λ rest. inl (changes t.memory change refl));
    }
one_step s t c Crash seen only crash e = absurd (true≢false crash)

-- some run of a straight-line program, and a crash there, leaves these
abbrev Leads : Configuration → List ℕ → Type 0
Leads s new = (n : ℕ) × (end : Configuration) × Transitions n s end × IsReached end.memory new

step_leads : (s mid : Configuration) (new : List ℕ) → Transition s mid ⊎ (mid ≡ s) → Leads mid new → Leads s new
step_leads s mid new (inl goes) (n, end, run, reached) = (suc n, end, (mid, goes, run), reached)
step_leads s mid new (inr same) leads = subst (λ (x : Configuration). Leads x new) same leads

run_leads : (steps : List Step) (s t : State) (c : Processor) (events rest : List Event) (persisted : List ℕ) → s.processors ≡ c ∷ [] → Shows s steps events t → IsReached t.memory persisted
    → Leads (at (events ++ rest) c.buffer s.memory) persisted
run_leads [] s t c events rest persisted only (none, same) reached =
    (zero, at (events ++ rest) c.buffer s.memory, refl, subst (λ (x : State). IsReached x.memory persisted) same reached)
run_leads (step ∷ steps) s t c events rest persisted only (seen, mid, more, crash, e, all, shows) reached =
    let x = one_step s mid c step seen only crash e in
    let later = run_leads steps mid t x.after more rest persisted x.only shows reached in
    subst (λ (xs : List Event). Leads (at xs c.buffer s.memory) persisted) (sym (append_assoc (events_of seen) more rest) ∙ ap (λ (xs : List Event). xs ++ rest) (sym all))
    (step_leads (at (events_of seen ++ (more ++ rest)) c.buffer s.memory) (at (more ++ rest) x.after.buffer mid.memory) persisted (x.matches (more ++ rest)) later)

pub machine_left : (steps : List Step) (s t : State) (c : Processor) (events rest : List Event) (persisted : List ℕ) → IsAlone s c → Shows s steps events t → IsReached t.memory persisted
    → IsReachedInOne (fence_memories (events ++ rest) s.memory.persisted) persisted
machine_left steps s t c events rest persisted alone shows reached =
    let lead = run_leads steps s t c events rest persisted alone.only shows reached in
    let memory : s.memory ≡ nothing_pending s.memory.persisted = λ k. record { pending = alone.pending k; persisted = s.memory.persisted } in
    (left_in_one (events ++ rest) s.memory.persisted persisted).0
    (subst (λ (m : Memory). Leads (at (events ++ rest) [] m) persisted) memory (subst (λ (b : List Entry). Leads (at (events ++ rest) b s.memory) persisted) alone.buffer lead))
