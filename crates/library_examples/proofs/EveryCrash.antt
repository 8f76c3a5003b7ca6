-- What a verdict on every crash decides.
use Rattle.std.proofs.Common.{◌≡◌, ◌∙◌, ℕ, true, not, Result, Ok, List, refl, sym, ap, subst, true≢false}
use Rattle.px86_machine.specs.Conditions.{Formula, holds_on}
use Rattle.px86_machine.specs.EveryRun.{All, AreFindings, Asked, Ends, ExploreFault, FailsBy, Findings, Holds, IsAlwaysKept, IsVerdict, Question, Recovered, Verdict}
use Rattle.px86_machine.specs.Machine.{State, Step, run_of}
use Rattle.library_examples.specs.EveryCrash.{every_crash}

-- where all holds, the rule is kept always
pub holds : (rule : Formula) (question : Question) (s : State) (limit : ℕ) (answer : Result Verdict ExploreFault) (found : Findings) → question ≡ every_crash rule
    → answer ≡ Ok (Holds found) → IsVerdict question s limit answer → IsAlwaysKept true rule s
holds rule question s limit answer found asked same is =
    let told : IsVerdict question s limit (Ok (Holds found)) = subst (IsVerdict question s limit) same is in
    let are : AreFindings (every_crash rule) s limit found = subst (λ (q : Question). AreFindings q s limit found) asked told in
    are.answered.all rule refl

-- where a run fails, it is not
pub fails : (rule : Formula) (s : State) (which : Asked) (run : List Step) (values : List ℕ) → FailsBy which (every_crash rule) s run values → IsAlwaysKept true rule s → ⊥
fails rule s All run values (condition, same, broken) kept =
    let t : State = (run_of run s).state in
    let (image, breaks, least) = broken.least in
    let there : holds_on t rule values ≡ true = kept t (run, broken.is_run) values image in
    let asked : rule ≡ condition = cc in
    let yes : holds_on t condition values ≡ true = subst (λ (f : Formula). holds_on t f values ≡ true) asked there in
    true≢false (sym breaks ∙ ap not yes)
fails rule s Ends run values (condition, none, end) kept = absurd (cc)
fails rule s Recovered run values (condition, none, end) kept = absurd (cc)
