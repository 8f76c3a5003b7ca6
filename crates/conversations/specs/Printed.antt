-- What is printed of a word, of a register, and of the steps that may come next, in the words that reports have for them.
use Rattle.std.specs.Prelude.{ℕ, false, Option, Some, None, [], ◌++◌, codes, decimal, if◌then◌else◌, option_map}
use Rattle.lines_layout.specs.Layouts.{NamedLines}
use Rattle.lines_layout.specs.Lines.{has_word}
use Rattle.lines_layout.specs.Names.{Text}
use Rattle.isa.specs.declared.register.Reg.{Reg}
use Rattle.isa.specs.Registers.{name_of, reg}
use Rattle.machine.specs.declared.refusal.Refusal.TheVariants.{NoCpu}
use Rattle.machine.specs.RefusalTexts.{refusal_text}
use Rattle.machine.specs.State.{State, processor_at}
use Rattle.machine.specs.declared.step.Step.{Step}
use Rattle.commands.specs.StateTexts.{end_of_line, name_text, placed_lines, word_line}
use Rattle.jobs.specs.NextSteps.{next_steps}
use Rattle.jobs.specs.Traces.{attempt_text}

-- the values of a word, as the report of a state has them; a machine has each word that its program names
abbrev pub word_text : NamedLines → State → ℕ → Text
word_text names s word = if has_word s.shape word then word_line s.memory (name_text names word) word else []

-- P:R=VALUE, as reports of ends have it; where there is no such processor, what a step of it is refused as
abbrev pub valued_text : ℕ → Reg → Option ℕ → Text
valued_text p r (Some value) = decimal p ++ codes ":" ++ name_of r ++ codes "=" ++ decimal value ++ end_of_line
valued_text p r None = refusal_text NoCpu ++ end_of_line

-- the value of a register of a processor
abbrev pub register_text : State → ℕ → Reg → Text
register_text s p r = valued_text p r (option_map (λ c. reg c.regs r) (processor_at s p))

-- a step that is tried in a state, and what it shows
abbrev pub tried_in : NamedLines → State → Step → Text
tried_in names s step = attempt_text names (record { before = s; step = step })

-- the steps that a state accepts, and what each would show: the lines of the report of `next`, each behind its number, from 0
abbrev pub next_text : NamedLines → State → Text
next_text names s = placed_lines [] (tried_in names s) 0 (next_steps false s)
