-- What a line of a conversation asks.
use Rattle.std.specs.Prelude.{ℕ, Bool, true, false, not, ◌&&◌, ◌==◌, if◌then◌else◌, Option, Some, None, Result, Ok, Err, List, [], length, take, drop, bytes_eq, codes}
use Rattle.std.specs.List.{prefix_len}
use Rattle.outcomes.specs.Outcomes.{◌>>=◌, refused_as, required}
use Rattle.lines_layout.specs.Layouts.{NamedLines, word_of}
use Rattle.isa.specs.Registers.{register_named}
use Rattle.machine.specs.declared.step.Step.{Step}
use Rattle.text_tokens.specs.Cursors.{Token}
use Rattle.text_tokens.specs.Numbers.{small_number_of}
use Rattle.text_tokens.specs.Text.{past_blanks}
use Rattle.conditions.specs.Texts.{condition_of}
use Rattle.jobs.specs.Values.{values_in}
use Rattle.debug_scripts.specs.declared.row.BadRow.{BadRow}
use Rattle.debug_scripts.specs.declared.orders.Command.{Command}
use Rattle.debug_scripts.specs.declared.orders.Command.TheVariants as commands
use Rattle.debug_scripts.specs.Asked.{asked}
use Rattle.debug_scripts.specs.Pieces.{piece_of, uncommented}
use Rattle.debug_scripts.specs.Rows.{Said, Blank, Stop, Watch, Ask, Do, bad_row, given_from, row_of}
use Rattle.conversations.specs.Eager.{most_steps}
use Rattle.conversations.specs.HelpTexts.{word_named}
use Rattle.conversations.specs.declared.asked.Asked.{Asked}
use Rattle.conversations.specs.declared.asked.Asked.TheVariants as asks
use Rattle.conversations.specs.declared.asked.Order.{Order}
use Rattle.conversations.specs.declared.asked.Order.TheVariants as orders
use Rattle.conversations.specs.declared.line_fault.LineFault.{LineFault}
use Rattle.conversations.specs.declared.line_fault.LineFault.TheVariants.{BadLine, Condition}
use Rattle.conversations.specs.declared.moment.Moment.{Moment}
use Rattle.conversations.specs.declared.moment.Moment.TheVariants as moments

-- ---- lines of a script

-- a stop, where this text is a condition
unfoldable pub stop_as : NamedLines → ℕ → List ℕ → Result Asked LineFault
stop_as names id text = do
  cond ← refused_as Condition (condition_of names text)
  Ok (asks.Stop id cond)

-- the values of a word, where these tokens say what is given
unfoldable pub values_as : NamedLines → ℕ → List Token → Result Asked LineFault
values_as names word tokens = do
  given ← refused_as (λ bad. BadLine) (given_from names [] tokens)
  Ok (asks.Order (orders.Script (commands.Values (asked word given))))

-- what a line asks that says this in a script
abbrev pub asked_as : NamedLines → Said → Result Asked LineFault
asked_as names Blank = Ok (asks.Order orders.Nothing)
asked_as names (Stop id text) = stop_as names id text
asked_as names (Watch id word) = Ok (asks.Watch (record { id = id; word = word }) false)
asked_as names (Ask word tokens) = values_as names word tokens
asked_as names (Do command) = Ok (asks.Order (orders.Script command))

-- ---- words that a conversation has beside those of scripts

-- the step that a command gathers, if it does
abbrev pub gathered : Command → Result Step BadRow
gathered (commands.Gather step) = Ok step
gathered commands.Go = Err bad_row
gathered commands.Continue = Err bad_row
gathered (commands.Back n) = Err bad_row
gathered commands.Show = Err bad_row
gathered commands.Images = Err bad_row
gathered (commands.Values asked) = Err bad_row
gathered (commands.Disarm id) = Err bad_row
gathered (commands.Detach id) = Err bad_row

-- the step that a line of a script says, if it says one
abbrev pub step_of : Said → Result Step BadRow
step_of Blank = Err bad_row
step_of (Stop id condition) = Err bad_row
step_of (Watch id word) = Err bad_row
step_of (Ask word tokens) = Err bad_row
step_of (Do command) = gathered command

-- what comes after `step`: a step, as in a list of steps
unfoldable pub step_on : NamedLines → List ℕ → Result Step BadRow
step_on names behind = row_of names behind >>= step_of

-- what comes after `step` orders, if something does
unfoldable pub make_as : NamedLines → List ℕ → Result Order LineFault
make_as names behind = do
  step ← refused_as (λ bad. BadLine) (step_on names behind)
  Ok (orders.Make step)

-- what `step` orders, by what comes after it: the first of the steps ahead is made, if that is nothing
abbrev pub step_as : NamedLines → List ℕ → Result Order LineFault
step_as names behind = if length (past_blanks behind) == 0 then Ok orders.Walk else make_as names behind

-- a number, by a piece and what is behind it: that is nothing but blanks
unfoldable pub number_in : List ℕ × List ℕ → Result ℕ LineFault
number_in piece = if length (past_blanks piece.1) == 0 then required BadLine (small_number_of piece.0) else Err BadLine

-- a number, with nothing behind it but blanks
abbrev pub lone_number : List ℕ → Result ℕ LineFault
lone_number text = number_in (piece_of text)

-- how many steps `undo` takes back, by what comes after it: one, if that is nothing
abbrev pub undone : List ℕ → Result ℕ LineFault
undone behind = if length (past_blanks behind) == 0 then Ok 1 else lone_number behind

-- what comes after `undo` orders
unfoldable pub undo_as : List ℕ → Result Order LineFault
undo_as behind = do
  n ← undone behind
  Ok (orders.Undo n)

-- what comes after `goto` orders: how many steps are to be left
unfoldable pub goto_as : List ℕ → Result Order LineFault
goto_as behind = do
  n ← lone_number behind
  Ok (orders.Goto n)

-- how many steps `run` makes at most, by what comes after it: as many as a line may make, if that is nothing
abbrev pub run_up_to : List ℕ → Result ℕ LineFault
run_up_to behind = if length (past_blanks behind) == 0 then Ok most_steps else lone_number behind

-- what comes after `run` orders
unfoldable pub run_as : List ℕ → Result Order LineFault
run_as behind = do
  n ← run_up_to behind
  Ok (orders.Run n)

-- what comes after `until` orders: a processor, and the place up to which steps are made
unfoldable pub until_as : List ℕ → Result Order LineFault
until_as behind = do
  p ← required BadLine (small_number_of (piece_of behind).0)
  place ← lone_number (piece_of behind).1
  Ok (orders.Until p place)

-- what comes after `finish` orders: which processor is to run
unfoldable pub finish_as : List ℕ → Result Order LineFault
finish_as behind = do
  p ← lone_number behind
  Ok (orders.Finish p)

-- what comes after `delete` orders: whose id is to be taken out
unfoldable pub delete_as : List ℕ → Result Order LineFault
delete_as behind = do
  id ← lone_number behind
  Ok (orders.Delete id)

-- the row of the word that is written so
unfoldable pub row_by_name : List ℕ → Result Order LineFault
row_by_name name = do
  word ← required BadLine (word_named name)
  Ok (orders.Row word)

-- what comes after `help` orders: the row of a word
unfoldable pub row_as : List ℕ → Result Order LineFault
row_as behind =
    if length (past_blanks (piece_of behind).1) == 0 then row_by_name (piece_of behind).0 else Err BadLine

-- ':'
abbrev pub colon : ℕ
colon = 58

-- a byte that does not end a processor's number
abbrev pub stands_before_colon : ℕ → Bool
stands_before_colon b = not (b == colon)

-- P:REG: the bytes before the first colon, and those behind it
unfoldable pub processor_and_register : List ℕ → List ℕ × List ℕ
processor_and_register token = (take (prefix_len stands_before_colon token) token, drop 1 (drop (prefix_len stands_before_colon token) token))

-- P:REG: a register of a processor
unfoldable pub register_as : List ℕ → Result Order LineFault
register_as token = do
  p ← required BadLine (small_number_of (processor_and_register token).0)
  r ← required BadLine (register_named (processor_and_register token).1)
  Ok (orders.Register p r)

-- what has this name: a word, or otherwise a register of a processor
abbrev pub named_by : Option ℕ → List ℕ → Result Order LineFault
named_by (Some word) token = Ok (orders.Word word)
named_by None token = register_as token

-- what comes after `print` orders: NAME or P:REG, with nothing behind it but blanks
unfoldable pub print_as : NamedLines → List ℕ → Result Order LineFault
print_as names behind =
    if length (past_blanks (piece_of behind).1) == 0 then named_by (word_of names (piece_of behind).0) (piece_of behind).0 else Err BadLine

-- what a line orders that is a number alone: the step of this number of `next`
unfoldable pub pick_as : List ℕ × List ℕ → Result Order LineFault
pick_as piece = do
  n ← number_in piece
  Ok (orders.Pick n)

-- whether a line is this word alone; blanks and a comment may stand beside it
abbrev pub is_word : List ℕ → List ℕ → Bool
is_word line word =
    let piece = piece_of (uncommented line) in
    bytes_eq piece.0 word && (length (past_blanks piece.1) == 0)

-- where a break halts on a line, by what comes after `line`: its number
unfoldable pub line_as : List ℕ → Result Moment LineFault
line_as behind = do
  n ← lone_number behind
  Ok (moments.Line n)

-- where a break halts, by what comes after its id
abbrev pub moment_as : List ℕ → Result Moment LineFault
moment_as text =
    if is_word text (codes "crash") then Ok moments.Crash
    else if is_word text (codes "trap") then Ok moments.Trap
    else if bytes_eq (piece_of text).0 (codes "line") then line_as (piece_of text).1
    else Err BadLine

-- what comes after `break` orders: an id, and where it halts
unfoldable pub break_as : List ℕ → Result Order LineFault
break_as behind = do
  id ← required BadLine (small_number_of (piece_of behind).0)
  moment ← moment_as (piece_of behind).1
  Ok (orders.Break id moment)

-- what a line orders that is one word alone, if it is such a word
abbrev pub lone_of : List ℕ → Option Order
lone_of line =
    if is_word line (codes "quit") then Some orders.Quit
    else if is_word line (codes "help") then Some orders.Help
    else if is_word line (codes "notes") then Some orders.Notes
    else if is_word line (codes "next") then Some orders.Next
    else if is_word line (codes "info") then Some orders.Info
    else if is_word line (codes "history") then Some orders.History
    else if is_word line (codes "reverse") then Some orders.Reverse
    else if is_word line (codes "list") then Some orders.List
    else if is_word line (codes "ahead") then Some orders.Ahead
    else if is_word line (codes "changed") then Some orders.Changed
    else None

-- what a line orders whose first piece is a word that has more behind it, or a number
abbrev pub worded_of : NamedLines → List ℕ × List ℕ → Result Order LineFault
worded_of names piece =
    if bytes_eq piece.0 (codes "step") then step_as names piece.1
    else if bytes_eq piece.0 (codes "run") then run_as piece.1
    else if bytes_eq piece.0 (codes "until") then until_as piece.1
    else if bytes_eq piece.0 (codes "finish") then finish_as piece.1
    else if bytes_eq piece.0 (codes "undo") then undo_as piece.1
    else if bytes_eq piece.0 (codes "goto") then goto_as piece.1
    else if bytes_eq piece.0 (codes "print") then print_as names piece.1
    else if bytes_eq piece.0 (codes "delete") then delete_as piece.1
    else if bytes_eq piece.0 (codes "break") then break_as piece.1
    else if bytes_eq piece.0 (codes "help") then row_as piece.1
    else pick_as piece

-- the one order, or otherwise the other
abbrev pub first_of : Option Order → Result Order LineFault → Result Order LineFault
first_of (Some order) other = Ok order
first_of None other = other

-- what is asked of all runs, by what comes after `check`: a condition, before which `--all` may stand
abbrev pub asked_of_runs : List ℕ → List ℕ
asked_of_runs text = if bytes_eq (piece_of text).0 (codes "--all") then (piece_of text).1 else text

-- what comes after `check` asks: a condition is asked of all that crashes may leave in all runs
unfoldable pub check_as : NamedLines → List ℕ → Result Asked LineFault
check_as names text = do
  cond ← refused_as Condition (condition_of names (asked_of_runs text))
  Ok (asks.Check cond)

-- a watch of a word that halts, where nothing but `stop` is behind its id and its name
abbrev pub halting_if : Bool → ℕ → ℕ → Result Asked LineFault
halting_if is_stop id word = if is_stop then Ok (asks.Watch (record { id = id; word = word }) true) else Err BadLine

-- what comes after `watch` asks, where the line is none of a script
unfoldable pub halting_as : NamedLines → List ℕ → Result Asked LineFault
halting_as names text = do
  id ← required BadLine (small_number_of (piece_of text).0)
  word ← required BadLine (word_of names (piece_of (piece_of text).1).0)
  halting_if (is_word (piece_of (piece_of text).1).1 (codes "stop")) id word

-- what comes after `all` orders: a condition is asked of all images
unfoldable pub all_as : NamedLines → List ℕ → Result Order LineFault
all_as names text = do
  cond ← refused_as Condition (condition_of names text)
  Ok (orders.All cond)

-- what comes after `images` orders, if anything does: the images for which a condition does not hold
unfoldable pub broken_as : NamedLines → List ℕ → Result Order LineFault
broken_as names text = do
  cond ← refused_as Condition (condition_of names text)
  Ok (orders.Broken cond)

-- the values of an image: one for each word, in order, and nothing else
unfoldable pub image_as : NamedLines → List ℕ → Result (List ℕ) LineFault
image_as names text = refused_as (λ refused. BadLine) (values_in names text)

-- what comes after `set` orders: which pending entries leave these values
unfoldable pub set_as : NamedLines → List ℕ → Result Order LineFault
set_as names text = do
  image ← image_as names text
  Ok (orders.Set image)

-- what comes after `why` orders: which writes are missing in these values
unfoldable pub why_as : NamedLines → List ℕ → Result Order LineFault
why_as names text = do
  image ← image_as names text
  Ok (orders.Why image)

-- what comes after `crash` orders, if anything does: a crash is to leave these values
unfoldable pub crash_as : NamedLines → List ℕ → Result Order LineFault
crash_as names text = do
  image ← image_as names text
  Ok (orders.CrashTo image)

-- what a line orders whose first piece is a word that has a condition or values behind it, or another word
abbrev pub imaged_of : NamedLines → List ℕ × List ℕ → Result Order LineFault
imaged_of names piece =
    if bytes_eq piece.0 (codes "all") then all_as names piece.1
    else if bytes_eq piece.0 (codes "images") then broken_as names piece.1
    else if bytes_eq piece.0 (codes "set") then set_as names piece.1
    else if bytes_eq piece.0 (codes "why") then why_as names piece.1
    else if bytes_eq piece.0 (codes "crash") then crash_as names piece.1
    else worded_of names piece

-- what a line orders by the words that are none of a script, but for `check`
abbrev pub own_of : NamedLines → List ℕ → Result Order LineFault
own_of names line = first_of (lone_of line) (imaged_of names (piece_of (uncommented line)))

-- ---- any line

-- an order, as what is asked
abbrev pub as_asked : Result Order LineFault → Result Asked LineFault
as_asked (Ok order) = Ok (asks.Order order)
as_asked (Err fault) = Err fault

-- what a line asks that is none of a script
abbrev pub own_asked : NamedLines → List ℕ → Result Asked LineFault
own_asked names line =
    let piece = piece_of (uncommented line) in
    if bytes_eq piece.0 (codes "check") then check_as names piece.1
    else if bytes_eq piece.0 (codes "watch") then halting_as names piece.1
    else as_asked (own_of names line)

-- What a line asks, by what it says in a script. Where it is a line of a script, it asks that and nothing else.
abbrev pub asked_by : NamedLines → List ℕ → Result Said BadRow → Result Asked LineFault
asked_by names line (Ok row) = asked_as names row
asked_by names line (Err bad) = own_asked names line

-- what a line asks
abbrev pub asked_of : NamedLines → List ℕ → Result Asked LineFault
asked_of names line = asked_by names line (row_of names line)
