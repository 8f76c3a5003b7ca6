-- Where no room is told of all runs, a run leads to a state in which a processor waits for it.
use Rattle.std.proofs.Common.{◌≡◌, ℕ, ◌<◌, ◌^◌, inl, inr, Result, Ok, Err, List, length, ap, arith}
use Rattle.std.specs.Prelude.{IfOk}
use Rattle.isa.specs.Objects.{Object}
use Rattle.machine.specs.declared.step.Step.{Step}
use Rattle.machine.specs.Objects.{opening}
use Rattle.machine.specs.State.{State}
use Rattle.machine.specs.Steps.{run_of}
use Rattle.machine.proofs.RunIsAPrefix.{run_turns, run_within}
use Rattle.explore.specs.declared.fault.ExploreFault.{ExploreFault}
use Rattle.explore.specs.declared.fault.ExploreFault.TheVariants as runs
use Rattle.explore.specs.declared.verdict.Verdict.{Verdict}
use Rattle.explore.specs.Questions.{IsVerdict, IsWorn, LacksRoom}
use Rattle.commands.specs.declared.fault.Fault.{Fault}
use Rattle.commands.specs.declared.fault.Fault.TheVariants as faults
use Rattle.commands.specs.declared.fault.Refused.TheVariants as refusals
use Rattle.commands.specs.Serving.{Report}
use Rattle.jobs.specs.declared.start.Start.{Start}
use Rattle.jobs.specs.Starts.{IsTold, IsToldOf}

-- ---- the machine from which runs start has made no more turns than there are steps

pub unworn : (object : Object) (list : List Step) (made : Result State Fault) → length list < 2 ^ 60 → IfOk made (λ machine. machine ≡ (run_of list (opening object)).state)
    → IfOk made (λ machine. IsWorn machine → ⊥)
unworn object list (Ok machine) short left = λ worn.
    let at = ap (λ (s : State). s.turns) left in
    let turns = run_turns list (opening object) in
    let within = run_within list (opening object) in
    absurd (omega (arith, at, turns, within, short, worn))
unworn object list (Err fault) short left = tt

-- ---- so it is not worn

by_verdict : (may : Start → Verdict → Report → Type 0) (states : ℕ) (start : Start) (verdict : Result Verdict ExploreFault) → (IsWorn start.machine → ⊥)
    → IsVerdict start.question start.machine states verdict → IsToldOf may start verdict (Err (faults.Refused refusals.NoRoom)) → LacksRoom start.question.crashes start.machine
by_verdict may states start (Ok verdict) fresh is told = absurd told
by_verdict may states start (Err runs.TooManyStates) fresh is told = absurd (cc)
by_verdict may states start (Err runs.NoRoom) fresh (inl lacks) told = lacks
by_verdict may states start (Err runs.NoRoom) fresh (inr worn) told = absurd (fresh worn)
by_verdict may states start (Err runs.TooMany) fresh is told = absurd (cc)
by_verdict may states start (Err runs.NoMemory) fresh is told = absurd (cc)

pub room_lacks : (may : Start → Verdict → Report → Type 0) (states : ℕ) (start : Start) → IsTold may states start (Err (faults.Refused refusals.NoRoom))
    → LacksRoom start.question.crashes start.machine
room_lacks may states start (ready, (verdict, is, told)) = by_verdict may states start verdict ready.fresh is told
