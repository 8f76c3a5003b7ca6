-- Where on its line a fault of a litmus text is.
use Rattle.std.specs.Prelude.{◌≡◌, ℕ, ◌+◌, Bool, true, false, not, ◌&&◌, ◌||◌, bytes_eq, find, if◌then◌else◌, nat_lt, nat_le, Option, Some, None, List, [], ◌∷◌, codes, drop, length, slice_get, take, unwrap_or}
use Rattle.std.specs.List.{list_any, prefix_len, range_with_len}
use Rattle.std.specs.Option.{option_map_or}
use Rattle.lines_layout.specs.Lines.{line_words}
use Rattle.lines_layout.specs.Names.{is_name}
use Rattle.lines_layout.specs.declared.fault.LayoutFault.TheVariants.{TooManyLines, LineTooLong, DoubleName, BadName}
use Rattle.litmus_text.specs.declared.fault.LineFault.{LineFault}
use Rattle.litmus_text.specs.declared.fault.LineFault.TheVariants as faults
use Rattle.litmus_text.specs.declared.fault.LineFault.TheVariants.{BadWord, UnknownName, BadNumber, BadLabel, TooLong, MissingEnd, NotAscii, Layout, BadCond}
use Rattle.text_tokens.specs.Cursors.{Token}
use Rattle.text_tokens.specs.Text.{tokens_of}
use Rattle.line_forms.specs.declared.places.Place.{Place}
use Rattle.line_forms.specs.Misfits.{Form, fitting, furthest, strange_place}
use Rattle.line_forms.specs.Places.{IsPlaceOf, line_at}
use Rattle.litmus_text.specs.LineFaults.{a_name, an_operand}
use Rattle.line_forms.specs.Slots.{Spot, in_text}
use Rattle.line_forms.specs.Stages.{has_colon}

-- the line of this number, from 1, or the empty line
abbrev pub line_of : List ℕ → ℕ → List ℕ
line_of text number = if nat_lt 0 number then unwrap_or (line_at text number) [] else []

-- the name of a word may be there
abbrev pub takes_name : Spot → Bool
takes_name (in_text a_name) = true
takes_name (in_text an_operand) = true
takes_name _ = false

-- the index of the first place of the form where a name may be, or its length
abbrev pub name_spot : Form → ℕ
name_spot form = prefix_len (λ spot. not (takes_name spot)) form

-- that index, if there is such a place and all tokens before it fit
abbrev pub name_in : Form → List Token → Option ℕ
name_in form tokens = if nat_lt (name_spot form) (length form) && nat_le (name_spot form) (fitting form tokens) then Some (name_spot form) else None

-- the index of the name in the first of the forms that has one after tokens that fit
abbrev pub name_index : List Form → List Token → ℕ
name_index [] tokens = 0
name_index (form ∷ forms) tokens = unwrap_or (name_in form tokens) (name_index forms tokens)

-- the index of the first of a cache line's up to eight names that is no name
abbrev pub bad_index : List Token → ℕ
bad_index tokens = 1 + prefix_len is_name (take line_words (drop 1 tokens))

-- the name is one of the tokens
abbrev pub is_in : List Token → Token → Bool
is_in tokens name = list_any (λ other. bytes_eq other name) tokens

-- a line of these tokens is that of a cache line, and gives the name
abbrev pub gives : Token → List Token → Bool
gives name [] = false
gives name (first ∷ names) = bytes_eq first (codes "line") && is_in names name

-- one of these lines gives the name
abbrev pub is_given_in : List (List ℕ) → Token → Bool
is_given_in lines name = list_any (λ line. gives name (tokens_of line)) lines

-- a name that one of the lines above gives, or an earlier place of the same line
abbrev pub is_given : List (List ℕ) → List Token → Token → Bool
is_given above earlier name = is_given_in above name || is_in earlier name

-- the token of this index is such a name
abbrev pub is_double : List (List ℕ) → List Token → ℕ → Bool
is_double above tokens index = option_map_or (is_given above (drop 1 (take index tokens))) (slice_get tokens index) false

-- the index of the first of a cache line's up to eight names that is given already; else 0
abbrev pub double_index : List (List ℕ) → List Token → ℕ
double_index above tokens = unwrap_or (find (is_double above tokens) (range_with_len 1 line_words)) 0

-- the token of this index is there
abbrev pub IsToken : List ℕ → ℕ → Place → Type 0
IsToken line index place = IsPlaceOf (codes ",[]:") (codes "#") line index place

-- where a fault is on a line that is below these lines, and has these forms
abbrev pub IsFaultPlace : List (List ℕ) → List ℕ → List Form → LineFault → Place → Type 0
IsFaultPlace above line forms BadWord place = IsToken line (furthest forms (tokens_of line)) place
IsFaultPlace above line forms UnknownName place = IsToken line (name_index forms (tokens_of line)) place
IsFaultPlace above line forms BadNumber place = IsToken line (furthest forms (tokens_of line)) place
IsFaultPlace above line forms BadLabel place = IsToken line (if has_colon (tokens_of line) then 0 else 1) place
IsFaultPlace above line forms TooLong place = IsToken line 0 place
IsFaultPlace above line forms MissingEnd place = place ≡ record { from = length line; to = length line }
IsFaultPlace above line forms NotAscii place = place ≡ strange_place line
IsFaultPlace above line forms (Layout TooManyLines) place = IsToken line 0 place
IsFaultPlace above line forms (Layout LineTooLong) place = IsToken line (line_words + 1) place
IsFaultPlace above line forms (Layout DoubleName) place = IsToken line (double_index above (tokens_of line)) place
IsFaultPlace above line forms (Layout BadName) place = IsToken line (bad_index (tokens_of line)) place
IsFaultPlace above line forms faults.BadName place = IsToken line 1 place
IsFaultPlace above line forms BadCond place = IsToken line 0 place
