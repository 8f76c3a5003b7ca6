-- The command line is one of which `clap` tells the faults; what a misread one is declined for; what a task that was
-- asked for may have.
use Rattle.std.proofs.Common.{refl, ◌≡◌, ℕ, inl, inr, List, [], ◌∷◌, true, false, ◌∙◌, ap, subst, Bool, Option, None, Some, codes}
use Rattle.std.specs.Prelude.{◌⊎◌, ◌||◌, Result, Ok, Err, IfErr, IsErrAnd}
use Rattle.std.specs.List.{list_any}
use Rattle.clap.specs.Words.{is_simple_and_free, fault_of, first_of, kind_of, subcommand_of, HasKind, IsAmong, Kinds, Row, Text}
use Rattle.clap.specs.declared.error.Error.{Error}
use Rattle.clap.specs.declared.error.kind.ErrorKind.{ErrorKind}
use Rattle.clap.specs.declared.error.kind.ErrorKind.TheVariants.{InvalidValue, UnknownArgument, InvalidSubcommand, NoEquals, ValueValidation, TooManyValues, TooFewValues, WrongNumberOfValues, ArgumentConflict, MissingRequiredArgument, MissingSubcommand, DisplayHelp, DisplayHelpOnMissingArgumentOrSubcommand, DisplayVersion, Io, Format, OutOfMemory}
use Rattle.clap.proofs.OnLiterals.{clap_on_literals}
use Rattle.px86.specs.declared.request.Declined.{Declined}
use Rattle.px86.specs.declared.request.Declined.TheVariants.{Usage, NoMemory}
use Rattle.px86.specs.declared.request.Input.{Input}
use Rattle.commands.specs.declared.jobs.ScheduleJob.{ScheduleJob}
use Rattle.commands.specs.declared.jobs.HuntOptions.{HuntOptions}
use Rattle.commands.specs.declared.jobs.ScheduleJob.TheVariants as schedules
use Rattle.commands.specs.declared.jobs.Task.{Task}
use Rattle.commands.specs.declared.jobs.Task.TheVariants.{Schedules}
use Rattle.px86.specs.Commands.{command_line, command_named}
use Rattle.px86.specs.CommandLines.{asks_text, declined_by, declined_of, Asks, AsksFor, AsksForThreads, AsksIn, has_question, IsCheckTask, IsRefusedFor, IsTallyJob, IsTallyOf, IsTaskOf}
use Rattle.px86.specs.declared.command.Command.{Command}
use Rattle.px86.specs.declared.command.Command.TheVariants.{Asm, Dis, Run, Trace, Next, Law, Debug, Images, Replay, Check, Outcomes, Tally, Hunt, Fences, Mend, Live}
use Rattle.px86.specs.Starts.{Declines}
use Rattle.commands.specs.Serving.{Used}

-- no argument has a rule on another
pub is_free : is_simple_and_free command_line ≡ true
unfolding clap_on_literals
is_free = refl

-- an error of a kind that asks for no text is of the words, or of memory
by_kind : (kind : ErrorKind) (error : Error) → asks_text kind ≡ false → (declined_by kind error ≡ Usage) ⊎ (declined_by kind error ≡ NoMemory)
by_kind InvalidValue error silent = inl refl
by_kind UnknownArgument error silent = inl refl
by_kind InvalidSubcommand error silent = inl refl
by_kind NoEquals error silent = inl refl
by_kind ValueValidation error silent = inl refl
by_kind TooManyValues error silent = inl refl
by_kind TooFewValues error silent = inl refl
by_kind WrongNumberOfValues error silent = inl refl
by_kind ArgumentConflict error silent = inl refl
by_kind MissingRequiredArgument error silent = inl refl
by_kind MissingSubcommand error silent = inl refl
by_kind DisplayHelp error silent = absurd cc
by_kind DisplayHelpOnMissingArgumentOrSubcommand error silent = inl refl
by_kind DisplayVersion error silent = absurd cc
by_kind Io error silent = inl refl
by_kind Format error silent = inl refl
by_kind OutOfMemory error silent = inr refl

left_false : (a b : Bool) → (a || b) ≡ false → a ≡ false
left_false true b e = absurd cc
left_false false b e = refl

right_false : (a b : Bool) → (a || b) ≡ false → b ≡ false
right_false true b e = absurd cc
right_false false b e = e

-- none of the kinds asks for a text, so this one does not
among_silent : (kinds : Kinds) (kind : ErrorKind) → list_any asks_text kinds ≡ false → IsAmong kind kinds → asks_text kind ≡ false
among_silent [] kind silent never = absurd never
among_silent (x ∷ xs) kind silent (inl same) = ap asks_text same ∙ left_false (asks_text x) (list_any asks_text xs) silent
among_silent (x ∷ xs) kind silent (inr later) = among_silent xs kind (right_false (asks_text x) (list_any asks_text xs) silent) later

-- an error of such kinds is answered as a misread command line, or as want of memory
pub silent_declined : (kinds : Kinds) (error : Error) → list_any asks_text kinds ≡ false → HasKind kinds error → (declined_of error ≡ Usage) ⊎ (declined_of error ≡ NoMemory)
silent_declined kinds error silent (inl memory) = inr (ap (λ (k : ErrorKind). declined_by k error) memory)
silent_declined kinds error silent (inr found) = by_kind (kind_of error) error (among_silent kinds (kind_of error) silent found)

-- a fact of the error that a result has
pub of_error : {T E : Type 0} (r : Result T E) (P Q : E → Type 0) → ((e : E) → P e → Q e) → IsErrAnd r P → IfErr r Q
of_error (Ok x) P Q f h = tt
of_error (Err e) P Q f h = f e h

-- a misread command line ends with status 2, or 4 for want of memory
pub misread_exit : {W : Type 0} (words : List Text) (declined : Declined) (out : Used W) (status : ℕ) → list_any asks_text (fault_of command_line words) ≡ false
    → IsRefusedFor words declined → Declines declined out status → (status ≡ 2) ⊎ (status ≡ 4)
misread_exit words declined out status silent (inl (inl memory)) declines = inr (subst (λ (d : Declined). Declines d out status) memory declines).1
misread_exit words declined out status silent (inl (inr found)) declines = elim (silent_declined (fault_of command_line words) found.0 silent found.1) [
  | inl usage ↦ inl (subst (λ (d : Declined). Declines d out status) (found.2 ∙ usage) declines).1
  | inr memory ↦ inr (subst (λ (d : Declined). Declines d out status) (found.2 ∙ memory) declines).1
]
misread_exit words declined out status silent (inr none) declines = inl (subst (λ (d : Declined). Declines d out status) none.0 declines).1

-- a tally is no hunt
no_hunt : (all ends recovered : Option Text) (options : HuntOptions) → IsTallyOf all ends recovered (schedules.Hunt options) → ⊥
no_hunt None None None options is = is
no_hunt None None (Some recovered) options is = is
no_hunt None (Some ends) None options is = is
no_hunt None (Some ends) (Some recovered) options is = is
no_hunt (Some all) None None options is = is
no_hunt (Some all) None (Some recovered) options is = is
no_hunt (Some all) (Some ends) recovered options is = is

-- a tally works alone
run_alone : (rows : List Row) (job : ScheduleJob) → IsTallyJob rows job → AsksForThreads (Schedules job)
run_alone rows (schedules.Tally options) is = tt
run_alone rows (schedules.Losses options) is = tt
run_alone rows (schedules.Ends options) is = tt
run_alone rows (schedules.Hunt options) is = absurd (no_hunt (first_of (codes "all") rows) (first_of (codes "ends") rows) (first_of (codes "recovered") rows) options is.0)

-- nor do all runs take threads
check_alone : (asks : Bool) (rows : List Row) (task : Task) → IsCheckTask asks rows task → AsksForThreads task
check_alone true rows task is = rw is.2 tt
check_alone false rows task is = rw is.2 tt

-- what a parse of a command found asks for as many threads as there may be
threads_of : (command : Command) (rows : List Row) (task : Task) → IsTaskOf command rows task → AsksForThreads task
threads_of Asm rows task is = rw is tt
threads_of Dis rows task is = rw is tt
threads_of Run rows task is = rw is tt
threads_of Trace rows task is = rw is.2 tt
threads_of Next rows task is = rw is.2 tt
threads_of Law rows task is = rw is tt
threads_of Debug rows task is = rw is.1 tt
threads_of Images rows task is = rw is.2 tt
threads_of Replay rows task is = rw is.2 tt
threads_of Check rows task is = check_alone (has_question rows) rows task is
threads_of Outcomes rows task is = rw is.2 tt
threads_of Tally rows task is = rw is.2 (run_alone rows is.0 is.1)
threads_of Hunt rows task is = rw is.2 is.1.workers.1
threads_of Fences rows task is = rw is.2 tt
threads_of Mend rows task is = rw is.2 tt
threads_of Live rows task is = rw is.2 is.1.1

-- the same of what was entered
threads_in : (command : Option Command) (rows : List Row) (task : Task) (file : Text) (input : Input) → Asks command rows task file input → AsksForThreads task
threads_in None rows task file input asked = absurd asked
threads_in (Some command) rows task file input asked = threads_of command rows task asked.0

threads_entered : (entered : Option (Text × List Row)) (task : Task) (file : Text) (input : Input) → AsksIn entered task file input → AsksForThreads task
threads_entered None task file input asked = absurd asked
threads_entered (Some entered) task file input asked = threads_in (command_named entered.0) entered.1 task file input asked

-- what the words ask for asks for as many threads as there may be
pub threads_asked : (words : List Text) (task : Task) (file : Text) (input : Input) → AsksFor words task file input → AsksForThreads task
threads_asked words task file input asked = threads_entered (subcommand_of command_line words) task file input asked
