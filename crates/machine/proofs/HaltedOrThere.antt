-- After any step each processor is at a place of its program, or at its end.
use Rattle.std.proofs.Common.{◌≡◌, ℕ, ◌<◌, true, false, Option, Some, None, Result, Ok, Err, List, ◌++◌, length, option_map, refl, sym, ◌∙◌, ap, subst, inl, inr, arith}
use Rattle.std.specs.Prelude.{slice_get, is_none, is_some, if◌then◌else◌}
use Rattle.isa.specs.declared.instr.Instr.{Instr}
use Rattle.std.proofs.lemmas.Bool.{cases_Bool, cases_eq}
use Rattle.std.proofs.lemmas.Option.{slice_get_within, slice_get_cases, slice_get-map}
use Rattle.isa.specs.declared.programs.Programs.{Programs}
use Rattle.isa.specs.Programs.{is_program}
use Rattle.isa.specs.Objects.{Object}
use Rattle.outcomes.specs.Outcomes.{◌>>=◌, refused_as}
use Rattle.outcomes.proofs.PartsOfOutcomes.{answer_of}
use Rattle.persist_buffer.specs.State.{Memory}
use Rattle.processor.specs.declared.act.Act.{Act}
use Rattle.processor.specs.declared.refusal.Refusal as exec
use Rattle.processor.specs.Contents.{Contents}
use Rattle.processor.specs.Cpus.{Cpu}
use Rattle.processor.specs.Executions.{exec_of}
use Rattle.processor.proofs.PlacesStayWithin.{stays_within}
use Rattle.machine.specs.declared.refusal.Refusal.{Refusal}
use Rattle.machine.specs.declared.step.Step.{Step}
use Rattle.machine.specs.declared.step.Step.TheVariants.{Exec, Drain, Persist, Settle, Crash}
use Rattle.machine.specs.declared.step.Seen.{Seen}
use Rattle.machine.specs.State.{Processor, State}
use Rattle.machine.specs.Refusals.{of_exec}
use Rattle.machine.specs.Objects.{opening_processor, opening}
use Rattle.machine.specs.Processors.{program_of, halted, cpu_of, contents_of, with_cpu, run_by}
use Rattle.machine.specs.Steps.{step_of}
use Rattle.machine.specs.StepRelations.{IsRestarted, IsProcessorTurn, IsPlaced, ArePlaced}
use Rattle.machine.proofs.ProcessorSteps.{exec_only, drain_only, processor_is_now, other_processor_stays}
use Rattle.machine.proofs.PersistAndSettleStepsSplit.{persist_only, settle_only}
use Rattle.machine.proofs.CrashKeepsWhatIsPersisted.{processors_restart}

-- what running comes to, where what the instruction does is known
abbrev ran : Processor → Result (Act × (Cpu × Contents)) exec.Refusal → Result (Act × (Processor × Memory)) Refusal
ran c did = refused_as of_exec did >>= λ done. Ok (done.0, (with_cpu c done.1.0 done.1.1, done.1.1.memory))

chosen_is_program : (c : Processor) → IsPlaced c → is_program (program_of c) ≡ true
chosen_is_program c placed =
    elim (cases_Bool c.recovering) [ inl recovering ↦ rw recovering placed.recovery | inr not ↦ rw not placed.main ]

ran_placed : (shape : List ℕ) (c d : Processor) (m n : Memory) (act : Act) (did : Result (Act × (Cpu × Contents)) exec.Refusal)
    → exec_of (program_of c) (cpu_of c) (contents_of shape c.buffer m) ≡ did → ran c did ≡ Ok (act, (d, n)) → IsPlaced c → IsPlaced d
ran_placed shape c d m n act (Ok done) is e placed =
    let parts = answer_of done.0 act (with_cpu c done.1.0 done.1.1, done.1.1.memory) (d, n) e in
    let same : d ≡ with_cpu c done.1.0 done.1.1 = ap (λ (p : Processor × Memory). p.0) parts.1 in
    let within = stays_within (program_of c) (cpu_of c) done.1.0 (contents_of shape c.buffer m) done.1.1 done.0 (chosen_is_program c placed) is in
    let now : IsPlaced (with_cpu c done.1.0 done.1.1) = record { main = placed.main; recovery = placed.recovery; within = within } in
    subst (λ (x : Processor). IsPlaced x) (sym same) now
ran_placed shape c d m n act (Err refusal) is e placed = absurd (cc)

run_placed : (shape : List ℕ) (c d : Processor) (m n : Memory) (act : Act) → run_by shape c m ≡ Ok (act, (d, n)) → IsPlaced c → IsPlaced d
run_placed shape c d m n act e placed = ran_placed shape c d m n act (exec_of (program_of c) (cpu_of c) (contents_of shape c.buffer m)) refl e placed

same_processor : (a b : Processor) → Some a ≡ Some b → a ≡ b
same_processor a b e = cc

-- one processor changes, and is placed
turn_placed : (s t : State) (p : ℕ) (before now : Processor) → ArePlaced s → slice_get s.processors p ≡ Some before → IsProcessorTurn p now s t → IsPlaced now → ArePlaced t
turn_placed s t p before now all there turn placed q c at =
    elim (cases_eq q p) [
      | inl here ↦
          let is_now = processor_is_now s t p now turn (slice_get_within s.processors p before there) in
          let read : slice_get t.processors p ≡ Some c = subst (λ (n : ℕ). slice_get t.processors n ≡ Some c) here at in
          subst (λ (x : Processor). IsPlaced x) (same_processor now c (sym is_now ∙ read)) placed
      | inr other ↦ all q c (sym (other_processor_stays s t p now turn q other) ∙ at)
    ]

-- no processor changes
still_placed : (s t : State) → ArePlaced s → t.processors ≡ s.processors → ArePlaced t
still_placed s t all same p c at = all p c (subst (λ (cpus : List Processor). slice_get cpus p ≡ Some c) same at)

restarted_placed : (old c : Processor) → IsPlaced old → IsRestarted old c → IsPlaced c
restarted_placed old c placed r = record {
  main = ap is_program r.main ∙ placed.main;
  recovery = ap is_program r.recovery ∙ placed.recovery;
  within = omega (arith, r.place);
}

pub step_placed : (s t : State) (step : Step) (seen : Seen) → ArePlaced s → step_of s step ≡ Ok (seen, t) → ArePlaced t
step_placed s t (Exec p) seen all e =
    let x = exec_only s t p seen e in
    turn_placed s t p x.before x.after all x.there x.alone (run_placed s.shape x.before x.after s.memory t.memory x.act x.ran (all p x.before x.there))
step_placed s t (Drain p i) seen all e =
    let x = drain_only s t p i seen e in
    let was = all p x.before x.there in
    let now : IsPlaced (record x.before { buffer = x.earlier ++ x.later }) = record { main = was.main; recovery = was.recovery; within = was.within } in
    turn_placed s t p x.before x.after all x.there x.alone (subst (λ (c : Processor). IsPlaced c) (sym x.split.rest) now)
step_placed s t (Persist line) seen all e = still_placed s t all ((persist_only s t line seen e).alone.processors)
step_placed s t Settle seen all e = still_placed s t all ((settle_only s t seen e).alone.processors)
step_placed s t Crash seen all e = λ p c at.
    let was = processors_restart s t seen p c e at in
    restarted_placed was.0 c (all p was.0 was.1) was.2

-- the programs of a processor are programs
abbrev ArePrograms : Programs → Type 0
ArePrograms programs = (is_program programs.main ≡ true) × (is_program programs.recovery ≡ true)

loaded_placed : (there : Option Programs) (c : Processor) → ((programs : Programs) → there ≡ Some programs → ArePrograms programs)
    → option_map opening_processor there ≡ Some c → IsPlaced c
loaded_placed None c are e = absurd (cc)
loaded_placed (Some programs) c are e =
    let both = are programs refl in
    let first : IsPlaced (opening_processor programs) = record { main = both.0; recovery = both.1; within = omega (arith) } in
    subst (λ (x : Processor). IsPlaced x) (same_processor (opening_processor programs) c e) first

pub opening_placed : (o : Object) → ((p : ℕ) (programs : Programs) → slice_get o.processors p ≡ Some programs → (is_program programs.main ≡ true) × (is_program programs.recovery ≡ true))
    → ArePlaced (opening o)
opening_placed o are p c at = loaded_placed (slice_get o.processors p) c (are p) (sym (slice_get-map opening_processor o.processors p) ∙ at)

runs_on : (trap : Option ℕ) (found : Option Instr) → is_none (if is_some trap then None else found) ≡ false → is_none found ≡ false
runs_on None found e = e
runs_on (Some address) found e = absurd (cc)

pub there_is_within : (c : Processor) → IsPlaced c → halted c ≡ false → c.place < length (program_of c)
there_is_within c placed e =
    let runs : is_none (slice_get (program_of c) c.place) ≡ false = runs_on c.trap (slice_get (program_of c) c.place) e in
    elim (slice_get_cases (program_of c) c.place).1 [
      | inl found ↦ found.1
      | inr past ↦ let none : is_none (slice_get (program_of c) c.place) ≡ true = rw past.1 refl in absurd (cc)
    ]

pub halted_is_end : (c : Processor) → IsPlaced c → c.trap ≡ None → halted c ≡ true → c.place ≡ length (program_of c)
halted_is_end c placed free e =
    let ended : is_none (slice_get (program_of c) c.place) ≡ true = sym (ap (λ (trap : Option ℕ). is_none (if is_some trap then None else slice_get (program_of c) c.place)) free) ∙ e in
    elim (slice_get_cases (program_of c) c.place).1 [
      | inl found ↦ let some : is_none (slice_get (program_of c) c.place) ≡ false = rw found.2 refl in absurd (cc)
      | inr past ↦ omega (arith, past.0, placed.within)
    ]

pub trapped_is_halted : (c : Processor) (address : ℕ) → c.trap ≡ Some address → halted c ≡ true
trapped_is_halted c address trapped = ap (λ (trap : Option ℕ). is_none (if is_some trap then None else slice_get (program_of c) c.place)) trapped
