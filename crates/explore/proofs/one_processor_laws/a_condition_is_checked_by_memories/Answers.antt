use Rattle.explore.proofs.ConditionsByMemories.{kept_by_memories}
use Rattle.explore.proofs.one_processor_laws.a_condition_is_checked_by_memories.Goals as goal

pub returns : goal.returns
returns c = kept_by_memories
