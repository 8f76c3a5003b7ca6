-- What is made on a program that was read is made of its bytes.
use Rattle.std.proofs.Common.{◌≡◌, ◌∙◌, ℕ, Bool, false, true, Result, Ok, Err, List, subst, sym}
use Rattle.std.specs.Prelude.{IsOk}
use Rattle.commands.specs.declared.fault.Fault.{Fault}
use Rattle.commands.specs.declared.fault.Refused.{Refused}
use Rattle.commands.specs.declared.jobs.Job.{Job}
use Rattle.commands.specs.Programs.{questioned_work}
use Rattle.commands.specs.Serving.{Report, Sources}
use Rattle.commands.specs.Works.{Makes, Work}
use Rattle.commands.proofs.WorksInTurn.{made_first, made_next}
use Rattle.questions.specs.Questions.{Questioned}
use Rattle.json_jobs.specs.JsonAnswers.{json_on, IsExact, MayMakeJson}

-- whatever the bytes are read as, they were read as this
same_program : (P : Questioned → Type 0) (program : List ℕ) (read other : Questioned) → Makes (questioned_work program) (Ok read)
    → (questioned_work program).told ≡ Ok other → P read → P other
unfolding Makes
same_program P program read other is told holds =
    let same : ◌≡◌ {A = Result Questioned Refused} (Ok read) (Ok other) = sym is ∙ told in
    let program_is : read ≡ other = cc in
    subst P program_is holds

-- what is done once the program is read
abbrev done_on : Job → Sources → Questioned → Work Report
done_on job both program = json_on job program both.steps

pub made_of_program : (job : Job) (both : Sources) (program : Questioned) (made : Result Report Fault) → Makes (questioned_work both.program) (Ok program)
    → Makes (json_on job program both.steps) made → (IsOk made → IsExact job program both.steps) → MayMakeJson job both made
made_of_program job both program made read makes exact = (
  made_next (questioned_work both.program) (done_on job both) program made read makes,
  λ ok other is. same_program (λ (q : Questioned). IsExact job q both.steps) both.program program other read is (exact ok),
)

no_report : (fault : Fault) → IsOk {T = Report} {E = Fault} (Err fault) → ⊥
no_report fault ok =
    let unlike : ◌≡◌ {A = Bool} false true = ok in
    absurd cc

-- where there is no program, there is no report
pub unmade : (job : Job) (both : Sources) (fault : Fault) → Makes (questioned_work both.program) (Err fault) → MayMakeJson job both (Err fault)
unmade job both fault read = (made_first (questioned_work both.program) (done_on job both) fault read, λ ok. absurd (no_report fault ok))
