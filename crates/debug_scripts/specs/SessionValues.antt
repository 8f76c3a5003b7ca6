-- Where a script is, by the session that plays it.
use Rattle.std.specs.Prelude.{String, string_bytes}
use Rattle.debugger.specs.Notes.{Meaning}
use Rattle.debugger.specs.declared.session.Session.{Session}
use Rattle.debugger.specs.Values.{session_value}
use Rattle.debug_scripts.specs.Ahead.{Ahead}
use Rattle.debug_scripts.specs.DebugReports.{Stand, stand}

-- where a script is, by a session, the steps ahead and the text so far
abbrev pub stand_by : {I J Z : Type 0} {V : I → Type 0} {W : J → Type 0} {G : _} → (((j : J) × W j) → Meaning) → Session I J V W G → Ahead → String Z → Stand
stand_by means s ahead text = stand (session_value means s) ahead (string_bytes text)
