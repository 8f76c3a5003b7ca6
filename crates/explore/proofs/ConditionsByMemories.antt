-- A condition on persisted values, by what crashes leave.
use Rattle.std.proofs.Common.{◌≡◌, ℕ, Bool, true, List, sym, ap, ◌∙◌, Contains}
use Rattle.machine.specs.State.{Processor, State}
use Rattle.machine.proofs.RunIsAPrefix.{run_shape}
use Rattle.conditions.specs.Formulas.{Formula}
use Rattle.conditions.specs.Truth.{reads_persisted}
use Rattle.images.specs.Images.{image_at}
use Rattle.images.specs.Truth.{holds_on}
use Rattle.explore.specs.Reachable.{IsAlwaysKept, IsReachable}
use Rattle.explore.specs.Sound.{IsSound}
use Rattle.explore.specs.OneProcessor.{IsAlone, IsClosedUnderCrashes}
use Rattle.explore.proofs.ClosedStates.{same_persisted}
use Rattle.explore.proofs.CrashAfterCrash.{all_left}

reachable_shape : (crashes : Bool) (s t : State) → IsReachable crashes s t → t.shape ≡ s.shape
reachable_shape crashes s t (steps, run) = ap (λ (x : State). x.shape) (sym run.leads) ∙ run_shape steps s

pub kept_by_memories : (most : ℕ) (start : State) (c : Processor) (list : List (List ℕ)) (condition : Formula) → IsSound start → IsAlone start c → IsClosedUnderCrashes most start c list → reads_persisted condition ≡ true
    → ((persisted : List ℕ) → Contains list persisted → holds_on start condition (image_at start.shape persisted) ≡ true) → IsAlwaysKept true condition start
kept_by_memories most start c list condition sound single all reads holds t reachable image (persisted, reached, is) =
    let shape = reachable_shape true start t reachable in
    let there = all_left most start c list all true t persisted sound single reachable reached in
    same_persisted start t condition image shape reads
    ∙ ap (λ (x : List ℕ). holds_on start condition x) (is ∙ ap (λ (lines : List ℕ). image_at lines persisted) shape)
    ∙ holds persisted there
