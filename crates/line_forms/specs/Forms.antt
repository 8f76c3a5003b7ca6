-- The forms of the lines of litmus texts, of step lists and of scripts.
use Rattle.std.specs.Prelude.{ℕ, Bool, false, not, ◌&&◌, ◌==◌, if◌then◌else◌, nat_lt, nat_le, List, [], ◌∷◌, length, map, bytes_eq, codes}
use Rattle.std.specs.Borrow.{Bor}
use Rattle.std.specs.List.{list_any}
use Rattle.text_tokens.specs.Text.{tokens_by, tokens_of}
use Rattle.text_tokens.specs.Cursors.{Token}
use Rattle.line_forms.specs.Misfits.{Departs, Form, fitting, furthest}
use Rattle.line_forms.specs.declared.misfits.Misfit.{Misfit}
use Rattle.line_forms.specs.declared.slots.Slot.{Slot}
use Rattle.litmus_text.specs.LineFaults.{LineForm, a_label, forms_at}
use Rattle.litmus_text.specs.LineFaults as reader
use Rattle.litmus_text.specs.declared.draft.Stage.TheVariants as stages
use Rattle.line_forms.specs.Slots.{in_text, spot_of, exactly, a_step_number, a_name, a_condition, an_instruction, a_label_line, a_step}
use Rattle.line_forms.specs.Stages.{has_colon}
use Rattle.line_forms.specs.declared.stages.Stage.{Stage}
use Rattle.line_forms.specs.declared.stages.Stage.TheVariants.{Opening, Data, Main, Recovery, Between}

-- the forms of the reader of litmus texts
abbrev pub reader_forms : List LineForm → List Form
reader_forms forms = map (λ form. map in_text form) forms

-- the forms of instructions
unfoldable pub instruction_forms : List Form
instruction_forms = reader_forms reader.instruction_forms

-- the form of a label line
abbrev pub label_forms : List Form
label_forms = (in_text a_label ∷ exactly (codes ":") ∷ []) ∷ []

-- a line of a program: a label line, an instruction if it begins as one, otherwise these
abbrev pub program_forms : List Form → List Token → List Form
program_forms others tokens =
    if has_colon tokens then label_forms
    else if nat_lt 0 (furthest instruction_forms tokens) then instruction_forms
    else others

-- The forms of a line of these tokens in a litmus text. The names of a cache line have faults of their own.
unfoldable pub text_forms : Stage → List Token → List Form
text_forms Opening tokens = reader_forms (forms_at stages.Opening)
text_forms Data tokens = (exactly (codes "line") ∷ []) ∷ reader_forms (forms_at stages.Data)
text_forms Main tokens = program_forms ((an_instruction ∷ []) ∷ (a_label_line ∷ []) ∷ (exactly (codes "recover") ∷ []) ∷ (exactly (codes "end") ∷ []) ∷ []) tokens
text_forms Recovery tokens = program_forms ((an_instruction ∷ []) ∷ (a_label_line ∷ []) ∷ (exactly (codes "end") ∷ []) ∷ []) tokens
text_forms Between tokens = reader_forms (forms_at stages.Between)

-- where a line of a litmus text departs from all forms of its stage
abbrev pub DepartsAt : Stage → List ℕ → Misfit → Type 0
DepartsAt stage line misfit = Departs (text_forms stage (tokens_of line)) line misfit

-- the forms of steps
unfoldable pub step_forms : List Form
step_forms =
    (exactly (codes "exec") ∷ a_step_number ∷ [])
    ∷ (exactly (codes "drain") ∷ a_step_number ∷ a_step_number ∷ [])
    ∷ (exactly (codes "persist") ∷ a_step_number ∷ [])
    ∷ (exactly (codes "settle") ∷ [])
    ∷ (exactly (codes "crash") ∷ [])
    ∷ []

-- the forms of a script's commands
unfoldable pub command_forms : List Form
command_forms =
    (a_step ∷ [])
    ∷ (exactly (codes "go") ∷ [])
    ∷ (exactly (codes "continue") ∷ [])
    ∷ (exactly (codes "back") ∷ a_step_number ∷ [])
    ∷ (exactly (codes "show") ∷ [])
    ∷ (exactly (codes "images") ∷ [])
    ∷ (exactly (codes "values") ∷ a_name ∷ [])
    ∷ (exactly (codes "disarm") ∷ a_step_number ∷ [])
    ∷ (exactly (codes "detach") ∷ a_step_number ∷ [])
    ∷ []

-- the forms of a script's lines before its first command
abbrev pub first_forms : List Form
first_forms =
    (exactly (codes "stop") ∷ a_step_number ∷ a_condition ∷ [])
    ∷ (exactly (codes "watch") ∷ a_step_number ∷ a_name ∷ [])
    ∷ command_forms

-- the forms of a line of these tokens in a script, before or after its first command: a step if it begins as one
unfoldable pub script_forms : Bool → List Token → List Form
script_forms begun tokens =
    if nat_lt 0 (furthest step_forms tokens) then step_forms
    else if begun then command_forms
    else first_forms

-- the first of the pieces, which blanks alone separate, is stop
abbrev pub is_stop : List Token → Bool
is_stop [] = false
is_stop (first ∷ pieces) = bytes_eq first (codes "stop")

-- the same of a line
abbrev pub is_stop_line : List ℕ → Bool
is_stop_line line = is_stop (tokens_by [] (codes "#") line)

-- and it may declare one: no command came before it
abbrev pub declares_stop : Bool → List ℕ → Bool
declares_stop begun line = is_stop_line line && not begun

-- the first token is watch
abbrev pub is_watch : List Token → Bool
is_watch [] = false
is_watch (first ∷ tokens) = bytes_eq first (codes "watch")

-- the index of the name on a line that is of a form with one: behind watch and an id, or behind values
abbrev pub script_name_index : List Token → ℕ
script_name_index tokens = if is_watch tokens then 2 else 1

-- a line of a script that has tokens, and declares no stop and no watch
abbrev pub is_command : List ℕ → Bool
is_command line = nat_lt 0 (length (tokens_of line)) && not (is_stop_line line) && not (is_watch (tokens_of line))

-- these tokens are all of the form
abbrev pub is_of : Form → List Token → Bool
is_of form tokens = fitting form tokens == length form && nat_le (length tokens) (length form)

-- of one of the forms
abbrev pub is_whole : List Form → List Token → Bool
is_whole forms tokens = list_any (λ form. is_of form tokens) forms

-- of one of the forms that a table has
abbrev pub is_whole_in : List (Bor (List Slot)) → List Token → Bool
is_whole_in table tokens = list_any (λ form. is_of (map spot_of form.now) tokens) table
