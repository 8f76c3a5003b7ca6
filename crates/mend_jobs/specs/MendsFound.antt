-- What is found of what may be put into a program, and with which status `mend` ends.
use Rattle.std.specs.Prelude.{◌≡◌, ℕ, Bool, true, false, ◌&&◌, Result, Ok, Err}
use Rattle.explore.specs.declared.fault.ExploreFault.{ExploreFault}
use Rattle.commands.specs.declared.status.Status.{Status}
use Rattle.commands.specs.declared.status.Status.TheVariants.{Unmet}
use Rattle.jobs.specs.CheckReports.{found_status}
use Rattle.mends.specs.declared.outcome.Mended.{Mended}
use Rattle.mends.specs.declared.outcome.Mended.TheVariants.{NoneNeeded, Put, None, NotKnown}
use Rattle.mends.specs.Mends.{IsMended}
use Rattle.moves.specs.declared.outcome.MovesTried.TheVariants.{Helps, NoneHelps}
use Rattle.moves.specs.Tried.{AreTried}
use Rattle.mend_jobs.specs.declared.mend_found.MendFound.{MendFound}
use Rattle.mend_jobs.specs.declared.mend_found.MendFound.TheVariants.{AsItIs, Moved, NoneMoved}
use Rattle.mend_jobs.specs.declared.asked_program.AskedProgram.{AskedProgram}

-- ---- what is found

-- whether no set of any size holds
abbrev pub is_none : Mended → Bool
is_none None = true
is_none _ = false

-- What is found, where moves are tried or are not: what comes of all sets, of the program as it is. But where moves are tried and no set of
-- any size holds, it is what comes of the moves.
abbrev pub IsMendFound : Bool → ℕ → AskedProgram → MendFound → Type 0
IsMendFound moves limit asked (AsItIs mended) =
    IsMended asked.question limit asked.object (Ok mended) × ((moves && is_none mended) ≡ false)
IsMendFound moves limit asked (Moved first) =
    (moves ≡ true) × IsMended asked.question limit asked.object (Ok None) × AreTried asked.question limit asked.object (Helps first)
IsMendFound moves limit asked (NoneMoved count) =
    (moves ≡ true) × IsMended asked.question limit asked.object (Ok None) × AreTried asked.question limit asked.object (NoneHelps count)

-- What is answered is found; or it is why it is not told of the program as it is.
abbrev pub IsMendAnswer : Bool → ℕ → AskedProgram → Result MendFound ExploreFault → Type 0
IsMendAnswer moves limit asked (Ok found) = IsMendFound moves limit asked found
IsMendAnswer moves limit asked (Err fault) = IsMended asked.question limit asked.object (Err fault)

-- ---- the status

-- status 1 where nothing is found with which what is asked holds, or a condition is asked of no state
abbrev pub mended_status : AskedProgram → Mended → Status
mended_status asked (NoneNeeded found) = found_status asked.question found
mended_status asked (Put put) = found_status asked.question put.found
mended_status asked None = Unmet
mended_status asked (NotKnown untold) = Unmet

-- the same where moves may have been tried
abbrev pub mend_status : AskedProgram → MendFound → Status
mend_status asked (AsItIs mended) = mended_status asked mended
mend_status asked (Moved first) = found_status asked.question first.put.found
mend_status asked (NoneMoved count) = Unmet
