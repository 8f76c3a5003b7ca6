use Rattle.fence_needs.proofs.WeakerOnesAreSo.{each_is_tried, left_out_has_none, weaker_does, weaker_does_not, weaker_is_of, weaker_keep, weaker_not_known}
use Rattle.fence_needs.proofs.laws.weaker_is_so.Goals as goal

pub returns-clause-is_weaker : goal.returns-clause-is_weaker
returns-clause-is_weaker c question limit object needs i one weaker are = weaker_is_of question limit object needs are i one weaker

pub returns-clause-does : goal.returns-clause-does
returns-clause-does c question limit object needs i one weaker are = weaker_does question limit object needs are i one weaker

pub returns-clause-does_not : goal.returns-clause-does_not
returns-clause-does_not c question limit object needs i one weaker failure are = weaker_does_not question limit object needs are i one weaker failure

pub returns-clause-not_known : goal.returns-clause-not_known
returns-clause-not_known c question limit object needs i one weaker fault are = weaker_not_known question limit object needs are i one weaker fault

pub returns-clause-tried : goal.returns-clause-tried
returns-clause-tried c question limit object needs i one instr are = each_is_tried question limit object needs are i one instr

pub returns-clause-left_out : goal.returns-clause-left_out
returns-clause-left_out c question limit object needs i one are = left_out_has_none question limit object needs are i one

pub returns-clause-together : goal.returns-clause-together
returns-clause-together c question limit object needs are = weaker_keep question limit object needs are
