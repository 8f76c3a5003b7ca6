-- A thread that was sent on a hunt's errand.
use Rattle.std.specs.Prelude.{◌≡◌, Result}
use Rattle.std.specs.declared.thread.PromisedHandle.{PromisedHandle}
use Rattle.std.specs.declared.alloc.AllocError.{AllocError}
use Rattle.hunt.specs.declared.seats.Board.{Board}
use Rattle.hunt.specs.declared.search.Target.{Target}
use Rattle.hunt.specs.declared.errand.Errand.{Errand}
use Rattle.hunt.specs.declared.errand.Returned.{Returned}

-- The thread works at this board for this target.
abbrev pub WorksFor : Board → Target → PromisedHandle (Result Returned AllocError) Errand → Type 0
WorksFor board target worker = (worker.promise.board.value ≡ board) × (worker.promise.target.value ≡ target)
