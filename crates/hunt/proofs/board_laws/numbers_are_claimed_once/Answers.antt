use Rattle.hunt.proofs.NumbersAreClaimedOnce.{claimed_once, claimed_alone}
use Rattle.hunt.proofs.board_laws.numbers_are_claimed_once.Goals as goal

pub returns-clause-once : goal.returns-clause-once
returns-clause-once c = claimed_once

pub returns-clause-alone : goal.returns-clause-alone
returns-clause-alone c = claimed_alone
