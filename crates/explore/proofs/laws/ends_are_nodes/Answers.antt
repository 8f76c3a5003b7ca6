use Rattle.explore.proofs.EndsAreNodes.{ends_are_nodes, mode_of_run, nodes_are_ends}
use Rattle.explore.proofs.laws.ends_are_nodes.Goals as goal

pub returns-clause-node : goal.returns-clause-node
returns-clause-node c = ends_are_nodes

pub returns-clause-end : goal.returns-clause-end
returns-clause-end c = nodes_are_ends

pub returns-clause-crashed : goal.returns-clause-crashed
returns-clause-crashed c = mode_of_run
