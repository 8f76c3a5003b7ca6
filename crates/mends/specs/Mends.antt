-- The least of all sets of flushes and fences with which what is asked holds.
use Rattle.std.specs.Prelude.{◌≡◌, ◌⊎◌, ℕ, ◌<◌, Bool, true, Option, Some, Result, Ok, Err, List, [], length, slice_get, take}
use Rattle.std.specs.Prelude.{Contains}
use Rattle.isa.specs.Objects.{Object}
use Rattle.machine.specs.Objects.{opening}
use Rattle.explore.specs.declared.fault.ExploreFault.{ExploreFault}
use Rattle.explore.specs.declared.question.Question.{Question}
use Rattle.explore.specs.Findings.{Findings}
use Rattle.explore.specs.Questions.{AreFindings}
use Rattle.verdicts.specs.Verdicts.{IsBrokenBy, IsUntold}
use Rattle.image_reasons.specs.declared.repair.Repair.{Repair}
use Rattle.candidates.specs.Candidates.{candidates_of}
use Rattle.candidates.specs.Sets.{costs_of, with_all}
use Rattle.mends.specs.declared.outcome.Mended.{Mended}
use Rattle.mends.specs.declared.outcome.Mended.TheVariants.{NoneNeeded, Put, None, NotKnown}
use Rattle.mends.specs.declared.outcome.Open.{Open}
use Rattle.choices.specs.Choices.{comes_before, is_within, picked}

-- ---- of one choice

-- It is a choice among the candidates of an object.
abbrev pub IsChoice : Object → List Bool → Type 0
IsChoice object choice = length choice ≡ length (candidates_of object)

-- what it puts in
abbrev pub chosen : Object → List Bool → List Repair
chosen object choice = picked choice (candidates_of object)

-- the object with that, if it can be loaded
abbrev pub mended : Object → List Bool → Option Object
mended object choice = with_all (chosen object choice) object

-- With a set, what is asked is broken, or there is no such program.
abbrev pub IsRuledOutSet : Question → Object → List Repair → Type 0
IsRuledOutSet question object set = (changed : Object) → with_all set object ≡ Some changed → IsBrokenBy question changed

-- With what a choice puts in, it is so.
abbrev pub IsRuledOut : Question → Object → List Bool → Type 0
IsRuledOut question object choice = IsRuledOutSet question object (chosen object choice)

-- With it, it is not told whether what is asked holds.
abbrev pub IsUntoldWith : Question → ℕ → Object → List Bool → ExploreFault → Type 0
IsUntoldWith question limit object choice fault =
    (changed : Object) × (mended object choice ≡ Some changed) × IsUntold question limit changed fault

-- With it, what is asked holds, and this is found.
abbrev pub HoldsWith : Question → ℕ → Object → List Bool → Findings → Type 0
HoldsWith question limit object choice found =
    (changed : Object) × (mended object choice ≡ Some changed) × AreFindings question (opening changed) limit found

-- ---- of many

-- with how many choices that are not told a search ends
abbrev pub most_open : ℕ
most_open = 8

-- It puts in no more than one of those that are open.
abbrev pub IsLeftOpen : List Open → List Bool → Type 0
IsLeftOpen untold choice = (one : Open) × Contains untold one × (is_within choice one.choice.items ≡ true)

-- It is ruled out, or left open.
abbrev pub IsSettled : Question → Object → List Open → List Bool → Type 0
IsSettled question object untold choice = IsRuledOut question object choice ⊎ IsLeftOpen untold choice

-- Each choice that comes before this one is ruled out, or left open.
abbrev pub AreSettledBefore : Question → Object → List Open → List Bool → Type 0
AreSettledBefore question object untold choice = (other : List Bool) → IsChoice object other
    → comes_before (costs_of (candidates_of object)) other choice ≡ true → IsSettled question object untold other

-- Each choice at all is.
abbrev pub AreAllSettled : Question → Object → List Open → Type 0
AreAllSettled question object untold = (choice : List Bool) → IsChoice object choice → IsSettled question object untold choice

-- It is a choice that is not told, and all before it are settled, but it is not: it is the first of which nothing was known.
pub record IsOpened (question : Question) (limit : ℕ) (object : Object) (before : List Open) (one : Open) : Type 0 where
  pub choice : IsChoice object one.choice.items
  pub set : one.set.items ≡ chosen object one.choice.items
  pub not_told : IsUntoldWith question limit object one.choice.items one.fault
  pub new : IsLeftOpen before one.choice.items → ⊥
  pub first : AreSettledBefore question object before one.choice.items

-- Each of those that are open is so, behind those before it.
abbrev pub AreOpened : Question → ℕ → Object → List Open → Type 0
AreOpened question limit object untold = (at : ℕ) (one : Open) → slice_get untold at ≡ Some one → IsOpened question limit object (take at untold) one

-- ---- what is found

-- With this set what is asked holds, and it is the first of all but for those that are left open, of which it is none. They are few.
pub record IsFirst (question : Question) (limit : ℕ) (object : Object) (set : List Repair) (found : Findings) (untold : List Open) : Type 0 where
  pub choice : List Bool
  pub is_choice : IsChoice object choice
  pub is : set ≡ chosen object choice
  pub holds : HoldsWith question limit object choice found
  pub not_open : IsLeftOpen untold choice → ⊥
  pub first : AreSettledBefore question object untold choice
  pub opened : AreOpened question limit object untold
  pub few : length untold < most_open

-- None was found, and some are open: so many that no more were tried; or fewer, and all others are ruled out or left open.
pub record IsNotKnown (question : Question) (limit : ℕ) (object : Object) (untold : List Open) : Type 0 where
  pub opened : AreOpened question limit object untold
  pub enough : (length untold ≡ most_open) ⊎ ((length untold < most_open) × AreAllSettled question object untold)
  pub some : 0 < length untold

-- What comes of all sets, of a program of which what is asked is broken.
abbrev pub IsFoundAmong : Question → ℕ → Object → Mended → Type 0
IsFoundAmong question limit object (NoneNeeded found) = ⊥
IsFoundAmong question limit object (Put put) = IsFirst question limit object put.set.items put.found put.«open».items
IsFoundAmong question limit object None = AreAllSettled question object []
IsFoundAmong question limit object (NotKnown untold) = IsNotKnown question limit object untold.items

-- What is found of a program.
abbrev pub IsFound : Question → ℕ → Object → Mended → Type 0
IsFound question limit object (NoneNeeded found) = AreFindings question (opening object) limit found
IsFound question limit object mended = IsBrokenBy question object × IsFoundAmong question limit object mended

-- The same; or why it is not told of the program as it is.
abbrev pub IsMended : Question → ℕ → Object → Result Mended ExploreFault → Type 0
IsMended question limit object (Ok mended) = IsFound question limit object mended
IsMended question limit object (Err fault) = IsUntold question limit object fault
