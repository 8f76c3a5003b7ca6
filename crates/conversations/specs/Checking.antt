-- What is asked of all runs from a place, and what is answered.
use Rattle.std.specs.Prelude.{ℕ, true, false, Some, None, Result, Ok, Err, List, [], ◌++◌, codes}
use Rattle.lines_layout.specs.Names.{Text}
use Rattle.litmus_text.specs.declared.text_lines.LinedObject.{LinedObject}
use Rattle.machine.specs.Objects.{opening}
use Rattle.machine.specs.State.{State}
use Rattle.machine.specs.Steps.{run_of}
use Rattle.machine.specs.declared.step.Step.{Step}
use Rattle.conditions.specs.Formulas.{Formula}
use Rattle.explore.specs.declared.fault.ExploreFault.{ExploreFault}
use Rattle.explore.specs.declared.fault.ExploreFault.TheVariants.{NoMemory}
use Rattle.explore.specs.declared.question.Question.{Question}
use Rattle.explore.specs.declared.verdict.Verdict.{Verdict}
use Rattle.explore.specs.declared.verdict.Verdict.TheVariants.{Holds, Fails}
use Rattle.explore.specs.Questions.{IsVerdict}
use Rattle.commands.specs.FaultTexts.{fault_text}
use Rattle.commands.specs.StateTexts.{end_of_line}
use Rattle.jobs.specs.CheckReports.{failed_text}
use Rattle.jobs.specs.Starts.{fault_of}
use Rattle.debug_scripts.specs.Ahead.{Ahead, steps_ahead}

-- what is found for a line that asks of all runs: a verdict on them
abbrev pub Found : Type 0
Found = Result Verdict ExploreFault

-- where nothing is asked of them nothing is looked for
abbrev pub nothing_found : Found
nothing_found = Err NoMemory

-- how many states are told apart at most
abbrev pub most_states : ℕ
most_states = 1000000

-- what is asked: whether a condition is true of all that crashes may leave, in all runs, with any number of crashes
abbrev pub question_of : Formula → Question
question_of cond = record { crashes = true; all = Some cond; ends = None; recovered = None; images = false }

-- the state to which these steps of a program lead
abbrev pub reached : LinedObject → List Step → State
reached lined steps = (run_of steps (opening lined.object)).state

-- It is right of all runs from the state to which these steps lead.
abbrev pub IsFound : LinedObject → List Step → Formula → Found → Type 0
IsFound lined steps cond found = IsVerdict (question_of cond) (reached lined steps) most_states found

-- what is answered: the first line of the report of `check`, and of a run that fails how many steps it has; or the line of the fault
abbrev pub found_text : Found → Text
found_text (Ok (Holds found)) = codes "all holds" ++ end_of_line
found_text (Ok (Fails failure)) = failed_text failure
found_text (Err fault) = fault_text (fault_of fault) ++ end_of_line

-- the steps ahead: those of a run that fails, where one is found
abbrev pub ahead_found : Ahead → Found → Ahead
ahead_found a (Ok (Holds found)) = a
ahead_found a (Ok (Fails failure)) = steps_ahead [] failure.run
ahead_found a (Err fault) = a
