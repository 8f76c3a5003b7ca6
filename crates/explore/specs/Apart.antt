-- A question taken apart: its condition on images as two, each asked alone. No rule, and in no public clause.
use Rattle.std.specs.Prelude.{◌≡◌, ℕ, Bool, true, false, Option, Some, None, Result, Ok, Err, List, [], ◌∷◌, ◌++◌, max, take}
use Rattle.std.specs.List.{list_all, list_any}
use Rattle.std.specs.Option.{option_to_list}
use Rattle.machine.specs.declared.step.Step.{Step}
use Rattle.machine.specs.State.{State}
use Rattle.machine.specs.Steps.{run_of}
use Rattle.conditions.specs.declared.cond.Operand.{Operand}
use Rattle.conditions.specs.Terms.{Term}
use Rattle.conditions.specs.Formulas.{Formula, And}
use Rattle.conditions.specs.Truth.{holds_by}
use Rattle.conditions.specs.Conjuncts.{AreConjuncts, tests}
use Rattle.images.specs.Images.{IsImage}
use Rattle.explore.specs.declared.question.Question.{Question}
use Rattle.explore.specs.declared.verdict.Verdict.{Verdict}
use Rattle.explore.specs.declared.verdict.Verdict.TheVariants.{Holds, Fails}
use Rattle.explore.specs.declared.fault.ExploreFault.{ExploreFault}
use Rattle.explore.specs.Found.{led_to}
use Rattle.explore.specs.Questions.{AreFindings, IsVerdict}
use Rattle.explore.specs.Reachable.{IsRun, breaks}

-- A question is taken apart: the first part asks one condition of images, and all else; the other part asks another condition of
-- images, and nothing else. Both conditions together say what the question's condition says.
pub record IsApart (question first other : Question) : Type 0 where
  pub whole : Formula
  pub asked : question.all ≡ Some whole
  pub one : Formula
  pub two : Formula
  pub conjuncts : AreConjuncts (one ∷ two ∷ []) whole
  pub first_asks : first ≡ record question { all = Some one }
  pub other_asks : other ≡ record { crashes = question.crashes; all = Some two; ends = None; recovered = None; images = false }

-- ---- how the conditions are sorted

-- a formula, and those before it
abbrev pub with_more : Option Formula → Formula → Formula
with_more None f = f
with_more (Some before) f = And before f

-- two formulas, as far as they are there
abbrev pub both : Option Formula → Option Formula → List Formula
both one other = option_to_list one ++ option_to_list other

-- All of some formulas hold where all of others do, and they test the same terms.
pub record AreOf (parts wholes : List Formula) : Type 0 where
  pub same : (value : Operand → Option ℕ) → list_all (holds_by value) parts ≡ list_all (holds_by value) wholes
  pub within : (among : Term → Bool) → list_any (tests among) parts ≡ list_any (tests among) wholes

-- A formula is sorted in: if two said what some formulas say, they say what these and the formula say.
abbrev pub IsSortedIn : Formula → Option Formula → Option Formula → Option Formula → Option Formula → Type 0
IsSortedIn f persisted others now later = (fs : List Formula) → AreOf (both persisted others) fs → AreOf (both now later) (fs ++ f ∷ [])

-- ---- what a part tells of the whole

-- A condition follows from another, and tests no term that it does not.
pub record IsPart (part whole : Formula) : Type 0 where
  pub follows : (value : Operand → Option ℕ) → holds_by value whole ≡ true → holds_by value part ≡ true
  pub within : (among : Term → Bool) → tests among part ≡ true → tests among whole ≡ true

-- A question asks nothing that another does not ask.
pub record AsksNoMore (part question : Question) : Type 0 where
  pub crashes : part.crashes ≡ question.crashes
  pub all : (f : Formula) → part.all ≡ Some f → (whole : Formula) × (question.all ≡ Some whole) × IsPart f whole
  pub ends : (f : Formula) → part.ends ≡ Some f → question.ends ≡ Some f
  pub recovered : (f : Formula) → part.recovered ≡ Some f → question.recovered ≡ Some f
  pub images : part.images ≡ true → question.images ≡ true

-- A run leads to a state in which a crash may leave an image that makes the condition on images false.
pub record BreaksAlong (question : Question) (start : State) (run : List Step) : Type 0 where
  pub whole : Formula
  pub asked : question.all ≡ Some whole
  pub is_run : IsRun question.crashes run start (led_to start run)
  pub image : List ℕ
  pub left : IsImage (led_to start run) image
  pub broken : breaks whole (led_to start run) image ≡ true

-- These are the first steps of a run. If all its steps are accepted, they lead to this state.
pub record IsOnTheWay (start : State) (run : List Step) (count : ℕ) (path : List Step) (s : State) : Type 0 where
  pub first : path ≡ take count run
  pub leads : (run_of run start).refusal ≡ None → led_to start path ≡ s

-- What is answered of a part: what it finds where it holds; otherwise what is answered of the whole.
abbrev pub IsToldOfPart : Question → Question → State → ℕ → Result Verdict ExploreFault → Type 0
IsToldOfPart question part start limit (Ok (Holds found)) = AreFindings part start limit found
IsToldOfPart question part start limit (Ok (Fails failure)) = IsVerdict question start limit (Ok (Fails failure))
IsToldOfPart question part start limit (Err fault) = IsVerdict question start limit (Err fault)

-- What is told of the whole by what is told of its two parts: a failure; without one the first fault; without any what was found.
abbrev pub told_of_both : Result Verdict ExploreFault → Result Verdict ExploreFault → Result Verdict ExploreFault
told_of_both (Ok (Fails failure)) other = Ok (Fails failure)
told_of_both first (Ok (Fails failure)) = Ok (Fails failure)
told_of_both (Err fault) other = Err fault
told_of_both first (Err fault) = Err fault
told_of_both (Ok (Holds found)) (Ok (Holds more)) = Ok (Holds (record found { states = max found.states more.states }))
