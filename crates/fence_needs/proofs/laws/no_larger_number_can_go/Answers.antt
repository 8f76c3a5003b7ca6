use Rattle.fence_needs.proofs.NoLargerNumberCanGo.{is_most, most_where_none_is_kept}
use Rattle.fence_needs.proofs.laws.no_larger_number_can_go.Goals as goal

pub returns-clause-choices : goal.returns-clause-choices
returns-clause-choices c question limit object needs loadable are = is_most question limit object needs are loadable

pub returns-clause-none_kept : goal.returns-clause-none_kept
returns-clause-none_kept c question limit object needs loadable are = most_where_none_is_kept question limit object needs are loadable
