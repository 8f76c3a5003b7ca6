use Rattle.std.proofs.Common.{refl}
use Rattle.fence_needs.specs.Changes.{replaced_in}
use Rattle.fence_needs.proofs.ChangesKeepObjects.{change_keeps_object, change_length}
use Rattle.fence_needs.proofs.OneInstructionIsChanged.{instr_here, lengths_stay, nop_here, others_stay}
use Rattle.fence_needs.proofs.laws.one_instruction_is_changed.Goals as goal

pub returns-clause-there : goal.returns-clause-there
returns-clause-there c = instr_here

pub returns-clause-nop : goal.returns-clause-nop
returns-clause-nop c = nop_here

pub returns-clause-others : goal.returns-clause-others
returns-clause-others c = others_stay

pub returns-clause-lengths : goal.returns-clause-lengths
returns-clause-lengths c = lengths_stay

pub returns-clause-processors : goal.returns-clause-processors
returns-clause-processors c object site instr = change_length (replaced_in site.recovering site.place instr) site.processor object.processors

pub returns-clause-words : goal.returns-clause-words
returns-clause-words c object site instr = (refl, refl)

pub returns-clause-object : goal.returns-clause-object
returns-clause-object c = change_keeps_object
