-- Words for clauses that speak of every run.
pub use Rattle.explore.specs.Sound.{IsSound}
pub use Rattle.explore.specs.Reachable.{IsAlwaysKept, IsKept, IsReachable, IsRun}
pub use Rattle.explore.specs.Ends.{IsEnd, IsEndOf, IsTrueAtEnds}
pub use Rattle.explore.specs.Outcomes.{AreOutcomes, outcome_of}
pub use Rattle.explore.specs.Ran.{Executes, IsRan}
pub use Rattle.explore.specs.RunImages.{AreImagesOfRuns}
pub use Rattle.explore.specs.Questions.{AreFindings, AreStates, FailsBy, HasTooMany, IsAnswered, IsBroken, IsFalseEnd, IsMany, IsVerdict, IsWaiting, IsWorn, LacksRoom}
pub use Rattle.explore.specs.declared.question.Question.{Question}
pub use Rattle.explore.specs.Findings.{Findings, HasRun}
pub use Rattle.explore.specs.declared.fault.ExploreFault.{ExploreFault}
pub use Rattle.explore.specs.declared.fault.ExploreFault.TheVariants.{TooManyStates, NoRoom, TooMany, NoMemory}
pub use Rattle.explore.specs.declared.verdict.Asked.{Asked}
pub use Rattle.explore.specs.declared.verdict.Asked.TheVariants.{All, Ends, Recovered}
pub use Rattle.explore.specs.declared.verdict.Verdict.{Verdict}
pub use Rattle.explore.specs.declared.verdict.Verdict.TheVariants.{Holds, Fails}
