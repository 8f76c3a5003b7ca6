-- What the lines of a sheet say, one after another, in lines of a litmus text.
use Rattle.std.specs.Prelude.{ℕ, ◌+◌, ◌-◌, Bool, not, ◌||◌, ◌&&◌, ◌==◌, true, false, nat_lt, nat_le, if◌then◌else◌, Option, Some, None, is_some, Result, Ok, Err, List, [], ◌∷◌, ◌++◌, bytes_eq, codes}
use Rattle.std.specs.List.{range_with_len}
use Rattle.outcomes.specs.Outcomes.{◌>>=◌, refuse, required}
use Rattle.text_tokens.specs.Cursors.{Token, end_at}
use Rattle.text_tokens.specs.Numbers.{small_number_of}
use Rattle.text_tokens.specs.Text.{is_plain_line, lines_of, tokens_of}
use Rattle.lines_layout.specs.Lines.{max_lines}
use Rattle.lines_layout.specs.Layouts.{word_of}
use Rattle.isa.specs.Loadables.{max_processors}
use Rattle.litmus_text.specs.Reading.{is_label_line}
use Rattle.litmus_text.specs.declared.fault.LineFault.{LineFault}
use Rattle.litmus_text.specs.declared.fault.LineFault.TheVariants.{BadWord, BadNumber, TooLong}
use Rattle.litmus_text.specs.declared.fault.TextFault.{TextFault}
use Rattle.litmus_text.specs.declared.fault.TextFault.TheVariants.{At}
use Rattle.sheets.specs.declared.sheet.Stage.{Stage}
use Rattle.sheets.specs.declared.sheet.Stage.TheVariants as stages
use Rattle.sheets.specs.declared.block.Part.{Part}
use Rattle.sheets.specs.declared.block.Part.TheVariants as parts
use Rattle.sheets.specs.Abbreviations.{Names, constant_at, copies, count_at, in_copy, numbered_copy}
use Rattle.sheets.specs.Texts.{Said, plain_row, said_row, says}
use Rattle.sheets.specs.Words.{all_lines_said, lines_given, values_from}

-- The processors of one `cpu`, whose lines go on.
pub record Block : Type 0 where
  -- the number of its first processor; how many they are, if `* N` says so; the line of `cpu`
  pub first : ℕ
  pub count : Option ℕ
  pub line : ℕ
  -- the lines after that one, as they stand
  pub rows : List ℕ
  -- where the copy is that is read
  pub part : Part

-- before the first block
abbrev pub no_block : Block
no_block = record { first = 0; count = None; line = 0; rows = []; part = parts.Main }

-- The lines from the first question on, as they stand, and the number of the first of them.
pub record Items : Type 0 where
  pub first : ℕ
  pub rows : List ℕ

abbrev pub no_items : Items
no_items = record { first = 1; rows = [] }

-- What was read of a sheet so far.
pub record Sheet : Type 0 where
  -- what may come next
  pub stage : Stage
  -- what it says, and what its abbreviations stand for
  pub said : Said
  pub names : Names
  -- the block that goes on, or the last one
  pub block : Block
  -- its questions
  pub items : Items
  -- what is wrong with the first line that has a fault of a sheet: from it on nothing is read
  pub fault : Option TextFault

-- before the first line
abbrev pub empty_sheet : Sheet
empty_sheet = record { stage = stages.Opening; said = record { text = []; lines = [] }; names = record { layout = []; constants = [] }; block = no_block; items = no_items; fault = None }

-- line n says this
abbrev pub saying : ℕ → List ℕ → Sheet → Sheet
saying n piece s = record s { said = says n piece s.said }

-- line n has a fault
abbrev pub stopped : ℕ → LineFault → Sheet → Sheet
stopped n kind s = record s { fault = Some (At kind n) }

-- the sheet after what line n says, or its fault
abbrev pub settled : {A : Type 0} → ℕ → Sheet → (A → Sheet) → Result A LineFault → Sheet
settled n s next (Ok a) = next a
settled n s next (Err kind) = stopped n kind s

-- ---- lines outside of blocks

-- const CONSTANT NUMBER, which says an empty line
abbrev pub with_constant : Token × ℕ → Names → Names
with_constant c names = record names { constants = names.constants ++ c ∷ [] }

unfoldable pub const_after : ℕ → Sheet → List Token → Sheet
const_after n s tokens =
    settled n s (λ c. saying n (codes "\n") (record s { names = with_constant c s.names })) (constant_at s.names tokens)

-- line WORDS.., line * N WORDS..
unfoldable pub lines_at : Names → List Token → Result (List ℕ) LineFault
lines_at names tokens = do
  count ← count_at names max_lines tokens
  all_lines_said names count.0 count.1

abbrev pub with_lines : List ℕ → Names → Names
with_lines piece names = record names { layout = lines_given names.layout (lines_of piece) }

unfoldable pub lines_after : ℕ → Sheet → List Token → Sheet
lines_after n s tokens = settled n s (λ piece. saying n piece (record s { names = with_lines piece s.names })) (lines_at s.names tokens)

-- init NAME NUMBER..; without a value, or where no word has the name, it stands as it is
abbrev pub values_at : Names → Option ℕ → Token → List Token → Result (List ℕ) LineFault
values_at names (Some word) name (value ∷ values) = values_from names [] word (value ∷ values)
values_at names _ name values = Ok (plain_row (codes "init") (name ∷ values))

unfoldable pub init_at : Names → List Token → Result (List ℕ) LineFault
init_at names [] = Ok (plain_row (codes "init") [])
init_at names (name ∷ values) = values_at names (word_of names.layout name) name values

unfoldable pub init_after : ℕ → Sheet → List Token → Sheet
init_after n s tokens = settled n s (λ piece. saying n piece s) (init_at s.names tokens)

-- cpu, cpu * N: the first line of a block
abbrev pub processors_after : Block → ℕ
processors_after block = block.first + copies block.count

abbrev pub next_block : Stage → Block → ℕ
next_block stages.Between block = processors_after block
next_block _ block = 0

unfoldable pub cpu_at : Names → ℕ → List Token → Result (Option ℕ × List ℕ) LineFault
cpu_at names first tokens = do
  count ← count_at names max_processors tokens
  few ← refuse TooLong (nat_lt max_processors (first + copies count.0))
  piece ← said_row names None (codes "cpu") count.1
  Ok (count.0, piece)

abbrev pub block_begun : ℕ → Sheet → ℕ → Option ℕ × List ℕ → Sheet
block_begun n s first c =
    saying n c.1 (record s { stage = stages.Block; block = record { first = first; count = c.0; line = n; rows = []; part = parts.Main } })

unfoldable pub cpu_after : ℕ → Sheet → List Token → Sheet
cpu_after n s tokens = settled n s (block_begun n s (next_block s.stage s.block)) (cpu_at s.names (next_block s.stage s.block) tokens)

-- a line that has no abbreviations there, as it stands
abbrev pub plain_after : ℕ → Sheet → Token → List Token → Sheet
plain_after n s first tokens = saying n (plain_row first tokens) s

-- sheet 1, the first line
unfoldable pub opening_after : ℕ → Sheet → Token → List Token → Sheet
opening_after n s first tokens =
    plain_after n (record s { stage = stages.Data }) (if bytes_eq first (codes "sheet") then codes "litmus" else first) tokens

-- line n outside of blocks, by its first token and those after it
unfoldable pub row_after : Stage → ℕ → Sheet → Token → List Token → Sheet
row_after stages.Opening n s first tokens = opening_after n s first tokens
row_after stages.Data n s first tokens =
    if bytes_eq first (codes "const") then const_after n s tokens
    else if bytes_eq first (codes "line") then lines_after n s tokens
    else if bytes_eq first (codes "init") then init_after n s tokens
    else if bytes_eq first (codes "cpu") then cpu_after n s tokens
    else plain_after n s first tokens
row_after _ n s first tokens = if bytes_eq first (codes "cpu") then cpu_after n s tokens else plain_after n s first tokens

-- a line without tokens says an empty line
abbrev pub tokens_after : ℕ → Sheet → List Token → Sheet
tokens_after n s [] = saying n (codes "\n") s
tokens_after n s (first ∷ tokens) = row_after s.stage n s first tokens

-- ---- lines of a block, read for one of its processors

-- end, and no label
abbrev pub is_end : Token → List Token → Bool
is_end first tokens = bytes_eq first (codes "end") && not (is_label_line tokens)

-- recover or recover P, and no label
abbrev pub is_recover : Token → List Token → Bool
is_recover first tokens = bytes_eq first (codes "recover") && not (is_label_line tokens)

-- P, one of the processors of the block: whether it is processor p
unfoldable pub recovers_at : Block → ℕ → Token → List Token → Result Bool LineFault
recovers_at block p token tokens = do
  q ← required BadWord (small_number_of token)
  among ← refuse BadNumber (nat_lt q block.first || nat_le (processors_after block) q)
  end ← end_at BadWord tokens
  Ok (q == p)

-- the copy goes on in this part
abbrev pub turned : Part → Sheet → Sheet
turned part s = record s { block = record s.block { part = part } }

-- the recovery program begins here, or there is none in this copy
abbrev pub recovery_begun : ℕ → Sheet → Bool → Sheet
recovery_begun n s recovers =
    if recovers then saying n (codes "recover\n") (turned parts.Recovery s) else saying n (codes "\n") (turned parts.Skipped s)

-- a row of the main program where `recover` is: recover, or recover P
abbrev pub recovers_in : Block → Option ℕ → ℕ → List Token → Result Bool LineFault
recovers_in block copy p [] = Ok true
recovers_in block copy p (token ∷ tokens) = recovers_at block p (in_copy copy token) tokens

unfoldable pub recover_after : Option ℕ → ℕ → ℕ → Sheet → List Token → Sheet
recover_after copy p n s tokens = settled n s (recovery_begun n s) (recovers_in s.block copy p tokens)

-- a row that is passed on with its abbreviations replaced
unfoldable pub said_after : Option ℕ → ℕ → Sheet → Token → List Token → Sheet
said_after copy n s first tokens = settled n s (λ piece. saying n piece s) (said_row s.names copy first tokens)

-- a row for processor p, where the copy is in this part, by its first token, as it is in the copy, and those after it
unfoldable pub part_after : Part → Option ℕ → ℕ → ℕ → Sheet → Token → List Token → Sheet
part_after parts.Skipped copy p n s first tokens =
    if is_end first tokens then said_after copy n s first tokens else saying n (codes "\n") s
part_after parts.Main copy p n s first tokens =
    if is_recover first tokens then recover_after copy p n s tokens else said_after copy n s first tokens
part_after parts.Recovery copy p n s first tokens = said_after copy n s first tokens

abbrev pub copy_tokens_after : ℕ → ℕ → Sheet → List Token → Sheet
copy_tokens_after p n s [] = saying n (codes "\n") s
copy_tokens_after p n s (first ∷ tokens) =
    part_after s.block.part (numbered_copy s.block.count p) p n s (in_copy (numbered_copy s.block.count p) first) tokens

-- line n for processor p; a line with a byte that may not be there stands as it is, and litmus texts refuse it
unfoldable pub copy_after : ℕ → ℕ → Sheet → List ℕ → Sheet
copy_after p n s line =
    if is_some s.fault then s
    else if not (is_plain_line line) then saying n (line ++ codes "\n") s
    else copy_tokens_after p n s (tokens_of line)

-- lines for processor p, of which the first has the number n
unfoldable pub copy_from : ℕ → ℕ → Sheet → List (List ℕ) → Sheet
copy_from p n s [] = s
copy_from p n s (line ∷ lines) = copy_from p (n + 1) (copy_after p n s line) lines

-- the whole block once more, for processor p
unfoldable pub copy_of : List ℕ → Sheet → ℕ → Sheet
copy_of rows s p =
    if is_some s.fault then s
    else copy_from p (s.block.line + 1) (saying s.block.line (codes "cpu\n") (turned parts.Main s)) (lines_of rows)

unfoldable pub copies_from : List ℕ → Sheet → List ℕ → Sheet
copies_from rows s [] = s
copies_from rows s (p ∷ ps) = copies_from rows (copy_of rows s p) ps

-- the numbers of a block's processors but the first
abbrev pub other_processors : Block → List ℕ
other_processors block = range_with_len (block.first + 1) (processors_after block - (block.first + 1))

-- the block ends: its lines are read for the other processors
abbrev pub without_rows : Sheet → Sheet
without_rows s = record s { block = record s.block { rows = [] }; stage = stages.Between }

unfoldable pub block_ended : Sheet → Sheet
block_ended s = copies_from s.block.rows (without_rows s) (other_processors s.block)

-- whether a line of these tokens ends its block
abbrev pub ends_block : List Token → Bool
ends_block [] = false
ends_block (first ∷ tokens) = is_end first tokens

-- line n of a block: it is read for the first processor, and kept for the others
abbrev pub kept : List ℕ → Sheet → Sheet
kept line s = record s { block = record s.block { rows = s.block.rows ++ line ++ codes "\n" } }

unfoldable pub block_line_after : ℕ → Sheet → List ℕ → Sheet
block_line_after n s line =
    if ends_block (tokens_of line) then block_ended (kept line (copy_after s.block.first n s line))
    else kept line (copy_after s.block.first n s line)

-- ---- the whole sheet

-- line n outside of blocks
unfoldable pub head_line_after : ℕ → Sheet → List ℕ → Sheet
head_line_after n s line =
    if not (is_plain_line line) then saying n (line ++ codes "\n") s
    else tokens_after n s (tokens_of line)

-- whether a line of these tokens begins a question, or a name for a condition or a value
abbrev pub begins_item : List Token → Bool
begins_item [] = false
begins_item (first ∷ tokens) = bytes_eq first (codes "let") || (bytes_eq first (codes "every") || bytes_eq first (codes "some"))

-- line n is one of questions: it says an empty line, and is kept
abbrev pub item_line_after : ℕ → Sheet → List ℕ → Sheet
item_line_after n s line = saying n (codes "\n") (record s { items = record s.items { rows = s.items.rows ++ line ++ codes "\n" } })

-- with line n questions begin
abbrev pub items_begun : ℕ → Sheet → Sheet
items_begun n s = record s { stage = stages.Items; items = record { first = n; rows = [] } }

-- line n behind a block: with the first question no more blocks follow
unfoldable pub between_after : ℕ → Sheet → List ℕ → Sheet
between_after n s line = if begins_item (tokens_of line) then item_line_after n (items_begun n s) line else head_line_after n s line

-- line n
unfoldable pub stage_after : Stage → ℕ → Sheet → List ℕ → Sheet
stage_after stages.Block n s line = block_line_after n s line
stage_after stages.Between n s line = between_after n s line
stage_after stages.Items n s line = item_line_after n s line
stage_after _ n s line = head_line_after n s line

unfoldable pub line_after : ℕ → Sheet → List ℕ → Sheet
line_after n s line = if is_some s.fault then s else stage_after s.stage n s line

-- lines, of which the first has the number n
unfoldable pub sheet_from : ℕ → Sheet → List (List ℕ) → Sheet
sheet_from n s [] = s
sheet_from n s (line ∷ lines) = sheet_from (n + 1) (line_after n s line) lines

-- what was read at the end; lines are counted from 1
abbrev pub read_of : List ℕ → Sheet
read_of text = sheet_from 1 empty_sheet (lines_of text)
