-- What a form has at a place, and which tokens may be there.
use Rattle.std.specs.Prelude.{ℕ, Bool, true, false, not, ◌&&◌, List, ◌++◌, is_some, bytes_eq, codes}
use Rattle.std.specs.Option.{option_map_or}
use Rattle.text_tokens.specs.Numbers.{begins_number, number_of, small_number_of}
use Rattle.text_tokens.specs.Cursors.{Token}
use Rattle.isa.specs.Registers.{register_named}
use Rattle.isa.specs.Immediates.{is_sign_extended}
use Rattle.litmus_text.specs.Instructions.{is_mark_token}
use Rattle.litmus_text.specs.LineFaults as reader
use Rattle.line_forms.specs.declared.slots.Slot.{Slot}
use Rattle.line_forms.specs.declared.slots.Slot.TheVariants as slots

-- What may be at a place of a line.
pub data Spot : Type 0 where
  -- what the forms of the lines of litmus texts have
  in_text : reader.Slot → Spot
  -- the number of a step
  a_step_number : Spot
  -- CONDITION
  a_condition : Spot
  -- what has forms of its own
  an_instruction : Spot
  a_label_line : Spot
  a_step : Spot
  -- a byte that a line may have
  a_character : Spot
  -- the end of the line
  the_end : Spot

-- this token
abbrev pub exactly : Token → Spot
exactly word = in_text (reader.exactly word)

-- NAME
abbrev pub a_name : Spot
a_name = in_text reader.a_name

-- what a slot is
abbrev pub spot_of : Slot → Spot
spot_of (slots.Word word) = exactly word.now
spot_of slots.Register = in_text reader.a_register
spot_of slots.Number = in_text reader.a_number
spot_of slots.ShortNumber = in_text reader.a_short_number
spot_of slots.StepNumber = a_step_number
spot_of slots.Name = a_name
spot_of slots.Operand = in_text reader.an_operand
spot_of slots.Label = in_text reader.a_label
spot_of slots.Condition = a_condition
spot_of slots.Instruction = an_instruction
spot_of slots.LabelLine = a_label_line
spot_of slots.Step = a_step
spot_of slots.Character = a_character
spot_of slots.End = the_end

-- Whether the token may be there. Of names and labels this asks only that they are no mark. What has forms of its own has no token here.
abbrev pub fits : Spot → Token → Bool
fits (in_text (reader.exactly word)) token = bytes_eq token word
fits (in_text reader.a_register) token = is_some (register_named token)
fits (in_text reader.a_number) token = begins_number token && is_some (number_of token)
fits (in_text reader.a_short_number) token = begins_number token && option_map_or is_sign_extended (number_of token) false
fits a_step_number token = is_some (small_number_of token)
fits (in_text reader.a_name) token = not (is_mark_token token)
fits (in_text reader.an_operand) token = not (is_mark_token token)
fits (in_text reader.a_label) token = not (is_mark_token token)
fits a_condition token = true
fits an_instruction token = false
fits a_label_line token = false
fits a_step token = false
fits a_character token = false
fits the_end token = false

-- the token, or what else it is called
abbrev pub spot_name : Spot → List ℕ
spot_name (in_text (reader.exactly word)) = word
spot_name (in_text reader.a_register) = codes "a register"
spot_name (in_text reader.a_number) = codes "a number"
spot_name (in_text reader.a_short_number) = codes "a short number"
spot_name a_step_number = codes "a number"
spot_name (in_text reader.a_name) = codes "a name"
spot_name (in_text reader.an_operand) = codes "a name or a register"
spot_name (in_text reader.a_label) = codes "a label"
spot_name a_condition = codes "a condition"
spot_name an_instruction = codes "an instruction"
spot_name a_label_line = codes "a label and `:`"
spot_name a_step = codes "a step"
spot_name a_character = codes "a blank or a visible character"
spot_name the_end = codes "the end of the line"

-- both are called the same
abbrev pub same_spot : Spot → Spot → Bool
same_spot a b = bytes_eq (spot_name a) (spot_name b)

-- what is printed of it
abbrev pub spot_text : Spot → List ℕ
spot_text (in_text (reader.exactly word)) = codes "`" ++ word ++ codes "`"
spot_text spot = spot_name spot
