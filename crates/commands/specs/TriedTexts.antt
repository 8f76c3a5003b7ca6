-- What a step tries, as text.
use Rattle.std.specs.Prelude.{Option, Some, None, [], ◌++◌, codes}
use Rattle.lines_layout.specs.Layouts.{NamedLines}
use Rattle.lines_layout.specs.Names.{Text}
use Rattle.isa.specs.declared.instr.Instr.{Instr}
use Rattle.litmus_text.specs.Rows.{row_text}
use Rattle.litmus_text.specs.Written.{instruction_row}
use Rattle.machine.specs.declared.step.Step.{Step}
use Rattle.machine.specs.declared.step.Step.TheVariants.{Exec}
use Rattle.machine.specs.Processors.{instruction_at}
use Rattle.machine.specs.State.{State}
use Rattle.schedule.specs.Written.{written}

-- an instruction, as texts of programs write it
abbrev pub instruction_text : NamedLines → Instr → Text
instruction_text names instr = row_text (instruction_row names instr)

-- the same after its step, if there is one
abbrev pub instruction_behind : NamedLines → Option Instr → Text
instruction_behind names None = []
instruction_behind names (Some instr) = codes ": " ++ instruction_text names instr

-- what is tried: the step in its written form, and of an Exec the instruction at the place of its processor
abbrev pub tried_text : NamedLines → State → Step → Text
tried_text names s (Exec p) = written (Exec p) ++ instruction_behind names (instruction_at s p)
tried_text names s step = written step
