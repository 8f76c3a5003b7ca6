-- A program into which one instruction was put that may be, and the program as it was.
use Rattle.std.proofs.Common.{◌≡◌, Bool, zero, suc, Some, List, [], ◌∷◌, refl, subst, arith, inl, inr}
use Rattle.std.specs.Prelude.{Contains}
use Rattle.isa.specs.Objects.{Object}
use Rattle.machine.specs.declared.step.Step.{Step}
use Rattle.machine.specs.Objects.{opening}
use Rattle.machine.specs.State.{State}
use Rattle.explore.specs.declared.question.Question.{Question}
use Rattle.explore.specs.Reachable.{IsRun}
use Rattle.verdicts.specs.Verdicts.{IsBrokenBy, IsKeptBy}
use Rattle.image_reasons.specs.declared.repair.Repair.{Repair}
use Rattle.image_reasons.specs.Repairs.{repaired}
use Rattle.added_fences.specs.Added.{AreAdded}
use Rattle.added_fences.specs.Sets.{IsCandidate, IsSet, MayBePutIn}
use Rattle.added_fences.specs.Traced.{IsRunToo}
use Rattle.added_fences.proofs.OnePutIn.{loads, one_added}
use Rattle.added_fences.proofs.QuestionsKept.{broken_too, kept_too, run_too}
use Rattle.added_fences.proofs.SetsPutIn.{part_added}

no_other : (other : Repair) → Contains [] other → ⊥
no_other other (k, within, e) = omega (arith, within)

-- a candidate alone is a set
alone : (object : Object) (repair : Repair) → IsCandidate object repair → IsSet object (repair ∷ [])
alone object repair candidate = record { each = each; order = (λ other c. absurd (no_other other c), tt) }
  where
    each : (other : Repair) → Contains (repair ∷ []) other → IsCandidate object other
    each other (zero, within, e) = subst (λ (x : Repair). IsCandidate object x) e candidate
    each other (suc k, within, e) = absurd (omega (arith, within))

pub is_added : (object : Object) (repair : Repair) (changed : Object) → MayBePutIn object repair → repaired object repair ≡ Some changed → AreAdded changed object
is_added object repair changed (inl may) e = one_added object repair changed may e
is_added object repair changed (inr candidate) e = part_added object (repair ∷ []) [] changed object (alone object repair candidate) (inr (refl, refl)) e refl

pub holds_stays : (question : Question) (object : Object) (repair : Repair) (changed : Object) → MayBePutIn object repair → repaired object repair ≡ Some changed → IsKeptBy question object
    → IsKeptBy question changed
holds_stays question object repair changed may e = kept_too changed object (loads object repair changed e) (is_added object repair changed may e) question

pub breaks_before : (question : Question) (object : Object) (repair : Repair) (changed : Object) → MayBePutIn object repair → repaired object repair ≡ Some changed
    → IsBrokenBy question changed → IsBrokenBy question object
breaks_before question object repair changed may e = broken_too changed object (loads object repair changed e) (is_added object repair changed may e) question

pub runs_before : (crashes : Bool) (object : Object) (repair : Repair) (changed : Object) (steps : List Step) (t : State) → MayBePutIn object repair → repaired object repair ≡ Some changed
    → IsRun crashes steps (opening changed) t → IsRunToo crashes steps (opening object) t
runs_before crashes object repair changed steps t may e = run_too changed object (loads object repair changed e) (is_added object repair changed may e) crashes steps t
