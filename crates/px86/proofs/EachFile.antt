-- Files that are answered one after another.
use Rattle.std.proofs.Common.{◌≡◌, ◌∙◌, ◌<◌, ◌+◌, ℕ, Bool, true, false, Option, None, Some, Result, Ok, Err, List, [], ◌∷◌, ◌++◌, ap, arith, get_or, inl, inr, length, map, max, subst, sym, take, true≢false}
use Rattle.std.specs.Prelude.{Contains, option_copied}
use Rattle.std.proofs.lemmas.List.{get_or-map, length-map, take_more}
use Rattle.std.specs.Borrow.{Bor}
use Rattle.clap.specs.Words.{Row, Text, subcommand_of}
use Rattle.commands.specs.declared.fault.Fault.{Fault}
use Rattle.commands.specs.declared.jobs.Task.{Task}
use Rattle.commands.specs.Devices.{Device, CanCountOneMore}
use Rattle.commands.specs.Serving.{Report, Used, WritesOutcome, after, before, used}
use Rattle.px86.specs.Commands.{command_line, command_named}
use Rattle.px86.specs.CommandLines.{are_several, entered_files, files_in, Asks, AsksFor, AsksIn, HasFiles, HasForm, HasMoves}
use Rattle.px86.specs.Starts.{exit_status, is_console, is_unwritten, name_if, Answer, AreAnswered, Does, DoesAsAsked, IsAnswered}
use Rattle.px86.specs.Worlds.{World}
use Rattle.px86.specs.declared.command.Command.{Command}
use Rattle.px86.specs.declared.request.Input.{Input}
use Rattle.px86.specs.declared.request.Request.{Request}

-- ---- the same task on another of the files

asked_by : (command : Option Command) (rows : List Row) (task : Task) (file other : Text) (input : Input) → Asks command rows task file input → Contains (files_in rows) other
    → Asks command rows task other input
asked_by None rows task file other input asked there = absurd asked
asked_by (Some command) rows task file other input asked there = (asked.0, there, asked.2, asked.3)

asked_in : (entered : Option (Text × List Row)) (task : Task) (file other : Text) (input : Input) → AsksIn entered task file input → Contains (entered_files entered) other
    → AsksIn entered task other input
asked_in None task file other input asked there = absurd asked
asked_in (Some entered) task file other input asked there = asked_by (command_named entered.0) entered.1 task file other input asked there

pub asked_of_file : (words : List Text) (task : Task) (file other : Text) (input : Input) (files : List Text) → AsksFor words task file input → HasFiles words files → Contains files other
    → AsksFor words task other input
asked_of_file words task file other input files asked has there =
    asked_in (subcommand_of command_line words) task file other input asked (subst (λ (fs : List Text). Contains fs other) has there)

-- there is a file
some_by : (command : Option Command) (rows : List Row) (task : Task) (file : Text) (input : Input) → Asks command rows task file input → files_in rows ≡ [] → ⊥
some_by None rows task file input asked none = asked
some_by (Some command) rows task file input asked none =
    let (k, inside, is) = asked.1 in
    let never : k < 0 = subst (λ (fs : List Text). k < length fs) none inside in
    absurd (omega (arith, never))

some_in : (entered : Option (Text × List Row)) (task : Task) (file : Text) (input : Input) → AsksIn entered task file input → entered_files entered ≡ [] → ⊥
some_in None task file input asked none = asked
some_in (Some entered) task file input asked none = some_by (command_named entered.0) entered.1 task file input asked none

pub some_file : (words : List Text) (task : Task) (file : Text) (input : Input) (files : List Text) → AsksFor words task file input → HasFiles words files → files ≡ [] → ⊥
some_file words task file input files asked has none = some_in (subcommand_of command_line words) task file input asked (sym has ∙ none)

-- ---- a report that is written leaves room for the failure of another

module _ {F S C W : Type 0} (outside : World F S C) (request : Request) (out : Used W) (answer : Answer) (written : is_unwritten answer ≡ false) where
  abbrev HasSameFailures : Type 0
  HasSameFailures = (after out).failures ≡ (before out).failures

  untouched : out.new ≡ out.old → HasSameFailures
  untouched same = ap (λ (w : W). (out.seen w).failures) same

  by_outcome : (made : Result Report Fault) (result : Answer) → is_unwritten result ≡ false → WritesOutcome out made result → HasSameFailures
  by_outcome (Err fault) result goes writes = untouched writes.0
  by_outcome (Ok report) (Ok status) goes writes = let (whole, is) = writes in whole.1
  by_outcome (Ok report) (Err fault) goes writes =
      let (fails, is) = writes in
      absurd (true≢false (ap (λ (f : Fault). is_unwritten (Err f)) (sym is) ∙ goes))

  by_console : (console : Bool) → DoesAsAsked outside console request out answer → HasSameFailures
  by_console true does = let (talk, same) = does in untouched same
  by_console false does = by_outcome does.serves.made answer written does.serves.writes

  same_failures : Does outside request out answer → HasSameFailures
  same_failures (inl (streams, inl does)) = by_console (is_console request.input) does
  same_failures (inl (streams, inr (lacks, begun))) = let (is, same) = begun in untouched same
  same_failures (inr (lacks, begun)) = let (is, same) = begun in untouched same

  pub room_is_left : Does outside request out answer → CanCountOneMore (before out) → CanCountOneMore (after out)
  room_is_left does room = rw (same_failures does) room

-- ---- one more file

abbrev pub texts : List (Bor Text) → List Text
texts items = map (λ (item : Bor Text). item.now) items

module _ {F S C W : Type 0} (outside : World F S C) (words : List Text) (seen : W → Device) (first : Request) (items : List (Bor Text)) where
  -- what is asked for, on the first of these files
  pub record IsAsked : Type 0 where
    pub task : AsksFor words first.task first.file.now first.input
    pub files : HasFiles words (texts items)
    pub form : HasForm words first.form
    pub moves : HasMoves words first.ways.moves

  -- a request is the same on another of the files
  pub record IsSame (several : Bool) (one : Request) (file : Text) : Type 0 where
    pub file_is : one.file.now ≡ file
    pub several_is : several ≡ are_several (texts items)
    pub named : option_copied one.named ≡ name_if several file
    pub task : one.task ≡ first.task
    pub input : one.input ≡ first.input
    pub moves : one.ways.moves ≡ first.ways.moves
    pub form : one.form ≡ first.form

  answered_as : (old new : W) (several : Bool) (one : Request) (file : Text) (answer : Answer) → IsAsked → IsSame several one file → Contains (texts items) file → Does outside one (used seen old new) answer
      → IsAnswered outside words (are_several (texts items)) file (used seen old new) answer
  answered_as old new several one file answer asked same there does = record {
    request = one;
    is_of = same.file_is;
    named = same.named ∙ ap (λ (b : Bool). name_if b file) same.several_is;
    asked = rw (same.task, same.file_is, same.input) (asked_of_file words first.task first.file.now file first.input (texts items) asked.task asked.files there);
    formed = rw same.form asked.form;
    moves = rw same.moves asked.moves;
    does = does;
  }

  pub next_answered : (started old new : W) (i status : ℕ) (d : Bor Text) (several : Bool) (one : Request) (answer : Answer) → i < length items → IsAsked → IsSame several one (get_or items i d).now
      → AreAnswered outside words (are_several (texts items)) seen started (take i (texts items)) old status false → Does outside one (used seen old new) answer
      → AreAnswered outside words (are_several (texts items)) seen started (take (i + 1) (texts items)) new (max status (exit_status answer)) (is_unwritten answer)
  next_answered started old new i status d several one answer inside asked same done does =
      let file = (get_or items i d).now in
      let within : i < length (texts items) = rw (length-map items (λ (item : Bor Text). item.now)) inside in
      let is : get_or (texts items) i file ≡ file = get_or-map (λ (item : Bor Text). item.now) items i d file inside in
      let more : take (i + 1) (texts items) ≡ take i (texts items) ++ file ∷ [] = take_more (texts items) i file within ∙ ap (λ (f : Text). take i (texts items) ++ f ∷ []) is in
      rw more (AreAnswered.one_more file new answer done (answered_as old new several one file answer asked same (i, within, is) does))
