-- What comes of all moves.
use Rattle.std.specs.Prelude.{◌≡◌, ℕ, Option, Some, None as Nothing, Result, Ok, [], length, slice_get, take}
use Rattle.std.specs.List.{All}
use Rattle.isa.specs.Objects.{Object}
use Rattle.explore.specs.declared.fault.ExploreFault.{ExploreFault}
use Rattle.explore.specs.declared.question.Question.{Question}
use Rattle.mends.specs.declared.outcome.Mended.{Mended}
use Rattle.mends.specs.declared.outcome.Mended.TheVariants as mends
use Rattle.mends.specs.declared.outcome.Put.{Put}
use Rattle.mends.specs.Mends.{IsMended}
use Rattle.moves.specs.declared.one_move.Move.{Move}
use Rattle.moves.specs.declared.outcome.FirstMove.{FirstMove}
use Rattle.moves.specs.declared.outcome.MovesTried.{MovesTried}
use Rattle.moves.specs.declared.outcome.MovesTried.TheVariants.{Helps, NoneHelps}
use Rattle.moves.specs.Moves.{moved, moves_of}

-- ---- of one move

-- This is put in by a mend: nothing where none is needed.
abbrev pub IsPutBy : Mended → Put → Type 0
IsPutBy (mends.NoneNeeded found) put = (put.set.items ≡ []) × (put.found ≡ found) × (put.«open».items ≡ [])
IsPutBy (mends.Put own) put = put ≡ own
IsPutBy _ put = ⊥

-- No set with which what is asked holds is told.
abbrev pub IsNoMend : Result Mended ExploreFault → Type 0
IsNoMend (Ok (mends.NoneNeeded found)) = ⊥
IsNoMend (Ok (mends.Put put)) = ⊥
IsNoMend _ = Unit {0}

-- There is a program, and this is put into it by its mend.
abbrev pub IsMendedBy : Question → ℕ → Option Object → Put → Type 0
IsMendedBy question limit Nothing put = ⊥
IsMendedBy question limit (Some changed) put = (mended : Mended) × IsMended question limit changed (Ok mended) × IsPutBy mended put

-- There is no program, or no mend of it is told.
abbrev pub IsUnmended : Question → ℕ → Option Object → Type 0
IsUnmended question limit Nothing = Unit {0}
IsUnmended question limit (Some changed) = (answer : Result Mended ExploreFault) × IsMended question limit changed answer × IsNoMend answer

-- With a move, and with this put into the moved program, what is asked holds.
abbrev pub IsHelp : Question → ℕ → Object → Move → Put → Type 0
IsHelp question limit object one put = IsMendedBy question limit (moved object one) put

-- A move was tried, and no mend of the moved program is told.
abbrev pub IsVain : Question → ℕ → Object → Move → Type 0
IsVain question limit object one = IsUnmended question limit (moved object one)

-- What comes of a move.
abbrev pub IsTried : Question → ℕ → Object → Move → Option Put → Type 0
IsTried question limit object one (Some put) = IsHelp question limit object one put
IsTried question limit object one Nothing = IsVain question limit object one

-- ---- of all

-- The move helps, and each before it is in vain.
pub record IsFirstMove (question : Question) (limit : ℕ) (object : Object) (first : FirstMove) : Type 0 where
  pub at : ℕ
  pub is : slice_get (moves_of object) at ≡ Some first.made
  pub helps : IsHelp question limit object first.made first.put
  pub before : All (IsVain question limit object) (take at (moves_of object))

-- What comes of all moves: the first that helps; or each of so many is in vain.
abbrev pub AreTried : Question → ℕ → Object → MovesTried → Type 0
AreTried question limit object (Helps first) = IsFirstMove question limit object first
AreTried question limit object (NoneHelps count) = (count ≡ length (moves_of object)) × All (IsVain question limit object) (moves_of object)
