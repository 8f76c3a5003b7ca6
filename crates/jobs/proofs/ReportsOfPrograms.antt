-- What is made on a program that was read is made of its bytes.
use Rattle.std.proofs.Common.{◌≡◌, ◌∙◌, ℕ, Bool, false, true, Result, Ok, Err, List, subst, sym}
use Rattle.std.specs.Prelude.{IsOk}
use Rattle.isa.specs.Objects.{Object}
use Rattle.commands.specs.declared.fault.Fault.{Fault}
use Rattle.commands.specs.declared.fault.Refused.{Refused}
use Rattle.commands.specs.declared.fault.Stage.TheVariants as stages
use Rattle.commands.specs.declared.jobs.Job.{Job}
use Rattle.commands.specs.declared.jobs.Job.TheVariants as jobs
use Rattle.commands.specs.Programs.{lined_work, program_of, program_work, questioned_work}
use Rattle.commands.specs.Serving.{Report, Sources}
use Rattle.commands.specs.Works.{Makes, work}
use Rattle.commands.proofs.LinedPrograms.{asked_fault, asked_is_lined, fault_is_read, lined_is_read}
use Rattle.commands.proofs.WorksInTurn.{made_first, made_next}
use Rattle.litmus_text.specs.declared.text_lines.LinedObject.{LinedObject}
use Rattle.questions.specs.Questions.{Questioned}
use Rattle.jobs.specs.Answers.{MayMake, MayMakeOn}
use Rattle.jobs.specs.Reports.{asm_of, dis_of, images_on, law_on, next_on, replay_on, run_on, set_on, trace_on, IsOfImagesOn, IsOfLooseRunOn, IsOfSetOn, IsSpelled}

-- whatever the bytes are read as, they were read as this
same_program : (P : Object → Type 0) (program : List ℕ) (object other : Object) → Makes (program_work program) (Ok object)
    → program_of program ≡ Ok other → P object → P other
unfolding Makes
same_program P program object other read is holds =
    let same : ◌≡◌ {A = Result Object Refused} (Ok object) (Ok other) = sym read ∙ is in
    let object_is : object ≡ other = cc in
    subst P object_is holds

-- the same of a program that was read with its names
same_read : (P : Questioned → Type 0) (program : List ℕ) (read other : Questioned) → Makes (questioned_work program) (Ok read)
    → (questioned_work program).told ≡ Ok other → P read → P other
unfolding Makes
same_read P program read other is told holds =
    let same : ◌≡◌ {A = Result Questioned Refused} (Ok read) (Ok other) = sym is ∙ told in
    let program_is : read ≡ other = cc in
    subst P program_is holds

-- its object alone, and a fault of it
read_as : (program : List ℕ) (read : Questioned) → Makes (questioned_work program) (Ok read) → Makes (program_work program) (Ok read.lined.object)
read_as program read made = lined_is_read program read.lined (asked_is_lined program read made)

refused_as : (program : List ℕ) (fault : Fault) → Makes (questioned_work program) (Err fault) → Makes (program_work program) (Err fault)
refused_as program fault made = fault_is_read program fault (asked_fault program fault made)

pub made_of_program : (job : Job) (both : Sources) (program : Questioned) (made : Result Report Fault) → Makes (questioned_work both.program) (Ok program)
    → MayMakeOn job program both.steps made → MayMake job both made
made_of_program jobs.Run both program made read h = made_next (program_work both.program) (λ (o : Object). run_on o both.steps) program.lined.object made (read_as both.program program read) h
made_of_program jobs.Asm both program made read h = (
  made_next (program_work both.program) (λ (o : Object). work stages.Object (Ok (asm_of o))) program.lined.object made (read_as both.program program read) h.0,
  λ ok o is. same_program IsSpelled both.program program.lined.object o (read_as both.program program read) is (h.1 ok),
)
made_of_program jobs.Dis both program made read h = made_next (program_work both.program) (λ (o : Object). work stages.Text (Ok (dis_of o))) program.lined.object made (read_as both.program program read) h
made_of_program (jobs.Images options) both program made read h = (
  made_next (questioned_work both.program) (λ (q : Questioned). images_on options q both.steps) program made read h.0,
  λ ok other question list is asked listed looked. same_read (λ (q : Questioned). IsOfImagesOn options q both.steps) both.program program other read is (h.1 ok) question list asked listed looked,
)
made_of_program (jobs.Set options) both program made read h = (
  made_next (lined_work both.program) (λ (l : LinedObject). set_on options l.object l.lines both.steps) program.lined made (asked_is_lined both.program program read) h.0,
  λ ok o image list is valued listed. same_program (λ (z : Object). IsOfSetOn options.values.now z both.steps) both.program program.lined.object o (read_as both.program program read) is (h.1 ok) image list valued listed,
)
made_of_program jobs.Law both program made read h = (
  made_next (program_work both.program) (λ (o : Object). law_on o both.steps) program.lined.object made (read_as both.program program read) h.0,
  λ ok o list is listed. same_program (λ (z : Object). IsOfLooseRunOn z both.steps) both.program program.lined.object o (read_as both.program program read) is (h.1 ok) list listed,
)
made_of_program (jobs.Trace options) both program made read h = made_next (program_work both.program) (λ (o : Object). trace_on o both.steps) program.lined.object made (read_as both.program program read) h
made_of_program (jobs.Next options) both program made read h = made_next (program_work both.program) (λ (o : Object). next_on options o both.steps) program.lined.object made (read_as both.program program read) h
made_of_program (jobs.Replay options) both program made read h = made_next (program_work both.program) (λ (o : Object). replay_on options o both.steps) program.lined.object made (read_as both.program program read) h

no_report : (fault : Fault) → IsOk {T = Report} {E = Fault} (Err fault) → ⊥
no_report fault ok =
    let unlike : ◌≡◌ {A = Bool} false true = ok in
    absurd cc

-- where there is no program, there is no report
pub unmade : (job : Job) (both : Sources) (fault : Fault) → Makes (questioned_work both.program) (Err fault) → MayMake job both (Err fault)
unmade jobs.Run both fault read = made_first (program_work both.program) (λ (o : Object). run_on o both.steps) fault (refused_as both.program fault read)
unmade jobs.Asm both fault read = (made_first (program_work both.program) (λ (o : Object). work stages.Object (Ok (asm_of o))) fault (refused_as both.program fault read), λ ok. absurd (no_report fault ok))
unmade jobs.Dis both fault read = made_first (program_work both.program) (λ (o : Object). work stages.Text (Ok (dis_of o))) fault (refused_as both.program fault read)
unmade (jobs.Images options) both fault read = (made_first (questioned_work both.program) (λ (q : Questioned). images_on options q both.steps) fault read, λ ok. absurd (no_report fault ok))
unmade (jobs.Set options) both fault read = (made_first (lined_work both.program) (λ (l : LinedObject). set_on options l.object l.lines both.steps) fault (asked_fault both.program fault read), λ ok. absurd (no_report fault ok))
unmade jobs.Law both fault read = (made_first (program_work both.program) (λ (o : Object). law_on o both.steps) fault (refused_as both.program fault read), λ ok. absurd (no_report fault ok))
unmade (jobs.Trace options) both fault read = made_first (program_work both.program) (λ (o : Object). trace_on o both.steps) fault (refused_as both.program fault read)
unmade (jobs.Next options) both fault read = made_first (program_work both.program) (λ (o : Object). next_on options o both.steps) fault (refused_as both.program fault read)
unmade (jobs.Replay options) both fault read = made_first (program_work both.program) (λ (o : Object). replay_on options o both.steps) fault (refused_as both.program fault read)

pub ruleset of_programs = (made_of_program, unmade)
