use Rattle.conversations.proofs.reversing.is_stopped.Goals as goal

pub returns : goal.returns
returns c k = rw (k.machine.ensures, k.deref.ensures.value) at k.is_one_true.ensures
