-- Words for clauses that speak of sessions of the debugger.
pub use Rattle.debugger.specs.Notes.{Meaning, meaning, told}
pub use Rattle.debugger.specs.Stops.{AnswersFor, armed}
pub use Rattle.debugger.specs.Writes.{word_selection}
pub use Rattle.debugger.specs.Sessions.{SessionValue, after, gone_back, opened, stop_of, watch_of, with_stop, with_watch}
pub use Rattle.debugger.specs.Halts.{HaltsAt, made, steps_made}
pub use Rattle.debugger.specs.Values.{session_of, session_value, stop_armed, watch_by}
pub use Rattle.debugger.specs.Changes.{GainsStop, GainsWatch, GoesBack, HasStop, HasWatch, IsOpenedAt, LosesStop, LosesWatch, Makes, Stays, stop_in, watch_in}
