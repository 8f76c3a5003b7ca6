-- What an accepted crash leaves: nothing pending, the shape, the counts, and each processor at its recovery program.
use Rattle.std.proofs.Common.{◌≡◌, ℕ, ◌+◌, ◌<◌, Bool, true, false, Option, Some, None, Result, Ok, Err, List, [], map, option_map, length, arith, sym, ◌∙◌, ap, subst, refl, inl, inr}
use Rattle.std.specs.Prelude.{slice_get, nat_le, if◌then◌else◌}
use Rattle.std.proofs.lemmas.Bool.{cases_Bool}
use Rattle.std.proofs.lemmas.Bool.Decides.{nat_tests}
use Rattle.std.proofs.lemmas.List.{length-map}
use Rattle.std.proofs.lemmas.Option.{slice_get-map}
use Rattle.machine.specs.declared.step.Step.TheVariants.{Crash}
use Rattle.machine.specs.declared.step.Seen.{Seen}
use Rattle.machine.specs.declared.step.Seen.TheVariants.{Crashed}
use Rattle.machine.specs.declared.refusal.Refusal.{Refusal}
use Rattle.machine.specs.declared.refusal.Refusal.TheVariants.{Spent}
use Rattle.persist_buffer.specs.Memories.{with_pending}
use Rattle.machine.specs.Limits.{max_turns}
use Rattle.machine.specs.State.{Processor, State}
use Rattle.machine.specs.Processors.{program_of, restart_of}
use Rattle.machine.specs.Steps.{crash_of, step_of}
use Rattle.outcomes.proofs.PartsOfOutcomes.{answer_of}
use Rattle.machine.specs.StepRelations.{IsRestarted, StartsRecovery}

-- an accepted crash shows its number and leaves what the rule says
crash_is : (s t : State) (seen : Seen) → step_of s Crash ≡ Ok (seen, t) → t ≡ record (crash_of s) { turns = s.turns + 1 }
crash_is s t seen e =
    elim (cases_Bool (nat_le max_turns s.turns)) [
      | inl spent ↦ let refused : ◌≡◌ {A = Result (Seen × State) Refusal} (Err Spent) (Ok (seen, t)) = rw spent at e in absurd (cc)
      | inr goes ↦ let accepted : ◌≡◌ {A = Result (Seen × State) Refusal} (Ok (Crashed (s.crashes + 1), record (crash_of s) { turns = s.turns + 1 })) (Ok (seen, t)) = rw goes at e in (answer_of _ _ _ _ accepted).1
    ]

-- the processor of that number before
abbrev WasBefore : Option Processor → Processor → Type 0
WasBefore there c = (old : Processor) × (there ≡ Some old) × IsRestarted old c

by_restart : (there : Option Processor) (c : Processor) → option_map restart_of there ≡ Some c → WasBefore there c
by_restart None c e = absurd (cc)
by_restart (Some old) c e =
    let same : restart_of old ≡ c = cc in
    subst (λ (x : Processor). WasBefore (Some old) x) same (old, refl, record { main = refl; recovery = refl; recovering = refl; place = refl; regs = refl; trap = refl; buffer = refl })

pub processors_restart : (s t : State) (seen : Seen) (p : ℕ) (c : Processor) → step_of s Crash ≡ Ok (seen, t) → slice_get t.processors p ≡ Some c
    → WasBefore (slice_get s.processors p) c
processors_restart s t seen p c e there =
    let after : t.processors ≡ map restart_of s.processors = ap (λ (x : State). x.processors) (crash_is s t seen e) in
    let now : slice_get (map restart_of s.processors) p ≡ Some c = ap (λ (cpus : List Processor). slice_get cpus p) (sym after) ∙ there in
    by_restart (slice_get s.processors p) c (sym (slice_get-map restart_of s.processors p) ∙ now)

pub processors_after : (s t : State) (seen : Seen) → step_of s Crash ≡ Ok (seen, t) → t.processors ≡ map restart_of s.processors
processors_after s t seen e = ap (λ (x : State). x.processors) (crash_is s t seen e)

pub memory_after : (s t : State) (seen : Seen) → step_of s Crash ≡ Ok (seen, t) → t.memory ≡ with_pending s.memory []
memory_after s t seen e = ap (λ (x : State). x.memory) (crash_is s t seen e)

pub processors_stay : (s t : State) (seen : Seen) → step_of s Crash ≡ Ok (seen, t) → length t.processors ≡ length s.processors
processors_stay s t seen e = ap (λ (x : State). length x.processors) (crash_is s t seen e) ∙ length-map s.processors restart_of

pub crash_counts : (s t : State) (seen : Seen) → step_of s Crash ≡ Ok (seen, t) → t.crashes ≡ s.crashes + 1
crash_counts s t seen e = ap (λ (x : State). x.crashes) (crash_is s t seen e)

pub lines_stay : (s t : State) (seen : Seen) → step_of s Crash ≡ Ok (seen, t) → t.shape ≡ s.shape
lines_stay s t seen e = ap (λ (x : State). x.shape) (crash_is s t seen e)

pub crash_always : (s : State) → s.turns < max_turns → (t : State) × (step_of s Crash ≡ Ok (Crashed (s.crashes + 1), t))
crash_always s below =
    let goes : nat_le max_turns s.turns ≡ false = grind (arith, nat_tests) in
    (record (crash_of s) { turns = s.turns + 1 }, rw goes refl)

pub recovery_runs : (s t : State) (seen : Seen) (p : ℕ) (c : Processor) → step_of s Crash ≡ Ok (seen, t) → slice_get t.processors p ≡ Some c
    → (old : Processor) × (slice_get s.processors p ≡ Some old) × StartsRecovery old c
recovery_runs s t seen p c e there =
    let was = processors_restart s t seen p c e there in
    let runs : program_of c ≡ c.recovery = ap (λ (b : Bool). if b then c.recovery else c.main) (was.2.recovering) in
    (was.0, was.1, (runs ∙ was.2.recovery, was.2.place))

same_processor : (a b : Processor) → Some a ≡ Some b → a ≡ b
same_processor a b e = cc

pub recovery_runs_again : (s t : State) (seen : Seen) (p : ℕ) (old c : Processor) → step_of s Crash ≡ Ok (seen, t) → slice_get s.processors p ≡ Some old
    → slice_get t.processors p ≡ Some c → old.recovering ≡ true → program_of c ≡ program_of old
recovery_runs_again s t seen p old c e before there recovering =
    let runs = recovery_runs s t seen p c e there in
    let same : runs.0 ≡ old = same_processor runs.0 old (sym runs.1 ∙ before) in
    let ran : program_of old ≡ old.recovery = ap (λ (b : Bool). if b then old.recovery else old.main) recovering in
    runs.2.0 ∙ ap (λ (x : Processor). x.recovery) same ∙ sym ran
