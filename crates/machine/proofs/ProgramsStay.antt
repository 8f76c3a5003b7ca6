-- An accepted step keeps the shape and the programs.
use Rattle.std.proofs.Common.{◌≡◌, ℕ, zero, suc, ◌+◌, ◌<◌, Some, Result, Ok, Err, List, [], ◌∷◌, ◌++◌, map, length, take, drop, refl, sym, ap, ◌∙◌, arith}
use Rattle.std.specs.Prelude.{slice_get, slice_set, slice_index_or}
use Rattle.std.proofs.lemmas.List.{length-map}
use Rattle.isa.specs.declared.programs.Programs.{Programs}
use Rattle.outcomes.specs.Outcomes.{◌>>=◌, refused_as}
use Rattle.outcomes.proofs.PartsOfOutcomes.{answer_of}
use Rattle.persist_buffer.specs.State.{Memory}
use Rattle.processor.specs.declared.act.Act.{Act}
use Rattle.processor.specs.declared.refusal.Refusal as exec
use Rattle.processor.specs.Contents.{Contents}
use Rattle.processor.specs.Cpus.{Cpu}
use Rattle.processor.specs.Executions.{exec_of}
use Rattle.machine.specs.declared.refusal.Refusal.{Refusal}
use Rattle.machine.specs.declared.step.Step.{Step}
use Rattle.machine.specs.declared.step.Step.TheVariants.{Exec, Drain, Persist, Settle, Crash}
use Rattle.machine.specs.declared.step.Seen.{Seen}
use Rattle.machine.specs.State.{Processor, State}
use Rattle.machine.specs.Refusals.{of_exec}
use Rattle.machine.specs.Processors.{program_of, programs_of, cpu_of, contents_of, with_cpu, restart_of, run_by}
use Rattle.machine.specs.Programs.{AreSiblings}
use Rattle.machine.specs.Steps.{End, end_after, step_of, run_of}
use Rattle.machine.proofs.ProcessorSteps.{exec_only, drain_only}
use Rattle.machine.proofs.PersistAndSettleStepsSplit.{persist_only, settle_only}
use Rattle.machine.proofs.CrashKeepsWhatIsPersisted.{processors_after}
use Rattle.machine.proofs.RunIsAPrefix.{step_shape}

-- what running comes to, where what the instruction does is known
abbrev ran : Processor → Result (Act × (Cpu × Contents)) exec.Refusal → Result (Act × (Processor × Memory)) Refusal
ran c did = refused_as of_exec did >>= λ done. Ok (done.0, (with_cpu c done.1.0 done.1.1, done.1.1.memory))

ran_keeps : (c d : Processor) (n : Memory) (act : Act) (did : Result (Act × (Cpu × Contents)) exec.Refusal) → ran c did ≡ Ok (act, (d, n)) → programs_of d ≡ programs_of c
ran_keeps c d n act (Ok done) e =
    let parts = answer_of done.0 act (with_cpu c done.1.0 done.1.1, done.1.1.memory) (d, n) e in
    ap (λ (p : Processor × Memory). programs_of p.0) parts.1
ran_keeps c d n act (Err refusal) e = absurd (cc)

run_keeps_programs : (shape : List ℕ) (c d : Processor) (m n : Memory) (act : Act) → run_by shape c m ≡ Ok (act, (d, n)) → programs_of d ≡ programs_of c
run_keeps_programs shape c d m n act e = ran_keeps c d n act (exec_of (program_of c) (cpu_of c) (contents_of shape c.buffer m)) e

-- a processor with the programs of the one whose place it takes
pub set_keeps : (cpus : List Processor) (p : ℕ) (before after : Processor) → slice_get cpus p ≡ Some before → programs_of after ≡ programs_of before
    → map programs_of (slice_set cpus p after) ≡ map programs_of cpus
set_keeps [] p before after there same = refl
set_keeps (c ∷ cpus) zero before after there same =
    let here : before ≡ c = cc in
    ap (λ (x : Programs). x ∷ map programs_of cpus) (same ∙ ap programs_of here)
set_keeps (c ∷ cpus) (suc p) before after there same = ap (λ (xs : List Programs). programs_of c ∷ xs) (set_keeps cpus p before after there same)

restart_keeps : (cpus : List Processor) → map programs_of (map restart_of cpus) ≡ map programs_of cpus
restart_keeps [] = refl
restart_keeps (c ∷ cpus) = ap (λ (xs : List Programs). programs_of c ∷ xs) (restart_keeps cpus)

step_programs : (s t : State) (step : Step) (seen : Seen) → step_of s step ≡ Ok (seen, t) → map programs_of t.processors ≡ map programs_of s.processors
step_programs s t (Exec p) seen e =
    let x = exec_only s t p seen e in
    ap (map programs_of) x.alone.processors
    ∙ set_keeps s.processors p x.before x.after x.there (run_keeps_programs s.shape x.before x.after s.memory t.memory x.act x.ran)
step_programs s t (Drain p i) seen e =
    let x = drain_only s t p i seen e in
    ap (map programs_of) x.alone.processors ∙ set_keeps s.processors p x.before x.after x.there (ap programs_of x.split.rest)
step_programs s t (Persist line) seen e = ap (map programs_of) ((persist_only s t line seen e).alone.processors)
step_programs s t Settle seen e = ap (map programs_of) ((settle_only s t seen e).alone.processors)
step_programs s t Crash seen e = ap (map programs_of) (processors_after s t seen e) ∙ restart_keeps s.processors

pub step_sibling : (s t : State) (step : Step) (seen : Seen) → step_of s step ≡ Ok (seen, t) → AreSiblings t s
step_sibling s t step seen e = record { shape = step_shape s t step seen e; programs = step_programs s t step seen e }

sibling_on : (step : Step) (s : State) (r : Result (Seen × State) Refusal) (rest : State → End) → step_of s step ≡ r → ((t : State) → AreSiblings (rest t).state t)
    → AreSiblings (end_after s r rest).state s
sibling_on step s (Ok done) rest is each =
    let first = step_sibling s done.1 step done.0 is in
    let then = each done.1 in
    record { shape = then.shape ∙ first.shape; programs = then.programs ∙ first.programs }
sibling_on step s (Err refusal) rest is each = record { shape = refl; programs = refl }

pub run_sibling : (steps : List Step) (s : State) → AreSiblings (run_of steps s).state s
run_sibling [] s = record { shape = refl; programs = refl }
run_sibling (step ∷ steps) s = sibling_on step s (step_of s step) (run_of steps) refl (run_sibling steps)

-- ---- processors that are restored one after another

no_shorter : (old from : List Processor) → map programs_of old ≡ map programs_of from → length old ≡ length from
no_shorter old from same = sym (length-map old programs_of) ∙ ap length same ∙ length-map from programs_of

-- the next has the programs of the one that it is made equal to
pub next_programs : (old from now : List Processor) (p : ℕ) (c x : Processor) → map programs_of old ≡ map programs_of from → p < length from
    → now ≡ take p from ++ drop p old → slice_index_or from p x ≡ x → programs_of (slice_index_or now p c) ≡ programs_of x
next_programs old [] now p c x same within is there = absurd (omega (arith, within))
next_programs [] (f ∷ from) now p c x same within is there = absurd (cc)
next_programs (o ∷ old) (f ∷ from) now zero c x same within is there =
    let first : programs_of o ≡ programs_of f = cc in
    ap (λ (xs : List Processor). programs_of (slice_index_or xs 0 c)) is ∙ first ∙ ap programs_of there
next_programs (o ∷ old) (f ∷ from) now (suc p) c x same within is there =
    let others : map programs_of old ≡ map programs_of from = cc in
    ap (λ (xs : List Processor). programs_of (slice_index_or xs (suc p) c)) is
    ∙ next_programs old from (take p from ++ drop p old) p c x others (omega (arith, within)) refl there

set_next : (old from : List Processor) (p : ℕ) (x : Processor) → length old ≡ length from → p < length from → slice_index_or from p x ≡ x
    → slice_set (take p from ++ drop p old) p x ≡ take (suc p) from ++ drop (suc p) old
set_next old [] p x same within there = absurd (omega (arith, within))
set_next [] (f ∷ from) p x same within there = absurd (omega (arith, same))
set_next (o ∷ old) (f ∷ from) zero x same within there = ap (λ (y : Processor). y ∷ old) (sym there)
set_next (o ∷ old) (f ∷ from) (suc p) x same within there =
    ap (λ (xs : List Processor). f ∷ xs) (set_next old from p x (omega (arith, same)) (omega (arith, within)) there)

pub one_restored : (old from now : List Processor) (p : ℕ) (x : Processor) → map programs_of old ≡ map programs_of from → p < length from
    → now ≡ take p from ++ drop p old → slice_index_or from p x ≡ x → slice_set now p x ≡ take (p + 1) from ++ drop (p + 1) old
one_restored old from now p x same within is there =
    let more : suc p ≡ p + 1 = omega arith in
    ap (λ (xs : List Processor). slice_set xs p x) is ∙ set_next old from p x (no_shorter old from same) within there
    ∙ ap (λ (n : ℕ). take n from ++ drop n old) more
