-- Words for clauses that speak of conditions, and of whether they hold.
pub use Rattle.conditions.specs.Terms.{Term, Number, Read, PersistedAt, CoherentAt, Plus}
pub use Rattle.conditions.specs.Formulas.{Formula, Compared, Test, Not, And, Or}
pub use Rattle.conditions.specs.Statements.{stated, truth}
pub use Rattle.conditions.specs.Texts.{condition_of}
pub use Rattle.images.specs.Truth.{holds_in, holds_on}
pub use Rattle.images.specs.Firsts.{IsLeastImage}
