-- What a caller reads of the matches, as rows.
use Rattle.std.proofs.Common.{◌≡◌, ◌∙◌, ℕ, arith, refl, sym, ap, Bool, true, false, List, [], ◌∷◌, map, Option, Some, None, rules, codes, inl, inr, subst, true≢false}
use Rattle.std.proofs.lemmas.Bool.{cases_Bool, false_from_ne_true}
use Rattle.std.proofs.lemmas.Slice.Eq.{bytes_eq-Decides}
use Rattle.std.specs.Prelude.{Contains, ◌&&◌, not, find, option_map, option_and_then, option_copied, IfSome, slice_get, unwrap_or, Box}
use Rattle.std.specs.Borrow.{Bor}
use Rattle.std.specs.Prelude.{IfOk, Result, Ok, Err}
use Rattle.std.specs.Global.{Vec}
use Rattle.std.specs.declared.alloc.AllocError.{AllocError}
use Rattle.std.specs.Box.{box_value}
use Rattle.std.specs.Str.{bytes_eq}
use Rattle.std.specs.Str.Parse.{ParsesBool}
use Rattle.clap.specs.Words.{Row, Text, all_of, first_of, first_value, one_of, one_text, rows_of}
use Rattle.clap.specs.Matches.{matched_of, raw_values}
use Rattle.clap.proofs.WalkLemmas.{raw_values-rows}
use Rattle.clap.specs.Simple.{subcommand_rows, subcommand_rows_of}
use Rattle.clap.specs.Facts.{Entry}
use Rattle.clap.specs.Matches.{subcommand_name_of, ReadsOne}
use Rattle.clap.specs.Walk.{row_of, texts}
use Rattle.clap.specs.Values.{read_as}
use Rattle.clap.specs.declared.builder.value_parser.Reading.{Reading}
use Rattle.clap.specs.declared.parser.matches.ArgMatches.{ArgMatches}
use Rattle.clap.specs.declared.parser.matches.ArgMatches.TheViews.{out-ArgMatches, out-SubCommand}
use Rattle.clap.specs.declared.parser.matches.SubCommand.{SubCommand}
use Rattle.clap.specs.declared.parser.matches.Found.{Found}
use Rattle.commands.specs.declared.jobs.Job.{Job}
use Rattle.commands.specs.declared.jobs.Job.TheVariants as jobs
use Rattle.px86.specs.Commands.{command_named}
use Rattle.px86.specs.CommandLines.{asks_of_all, entered_files, files_in, form_of, has_value, is_given, is_yes, lacks_image, Asks, AsksIn, Finds, HasFormIn, HasMovesIn, HasProgressIn, IsImagesJob, IsNumber, IsNumberIfAny, IsNumberOr}
use Rattle.px86.specs.declared.command.Command.{Command}
use Rattle.px86.specs.declared.request.Request.{Request}

-- the first value of an id, of an entry or its row
abbrev value_of_entry : Option Entry → Option Text
value_of_entry found = option_and_then (λ a. option_map (λ s. s.now) (slice_get a.vals.items 0)) (option_map (λ e. e.1) found)

first_get : (vs : List (Bor Text)) → option_map (λ s. s.now) (slice_get vs 0) ≡ slice_get (texts vs) 0
first_get [] = refl
first_get (v ∷ vs) = refl

first_text : (id : Text) (es : List Entry) → value_of_entry (find (λ e. bytes_eq e.0.now id) es) ≡ first_of id (map row_of es)
first_text id [] = refl
first_text id (e ∷ es) = elim (cases_Bool (bytes_eq e.0.now id)) [
  | inl found ↦ rw found (first_get e.1.vals.items)
  | inr other ↦ rw other (first_text id es)
]

-- `get_str`, of the rows
pub value_is : (found : Found) (id file : Text) → Some file ≡ first_value found id → first_of id (rows_of found) ≡ Some file
value_is found id file is = sym (is ∙ first_text id found.entries.items)

-- the name of a subcommand is that of its rows
rows_name : {Z : Type 0} (o : Option (Box SubCommand Z)) → option_map (λ p. p.0) (subcommand_rows o) ≡ option_map (λ b. (out-SubCommand (box_value b)).name.now) o
rows_name None = refl
rows_name (Some b) = refl

both : (entered : Option (Text × List Row)) (name : Text) (rows : List Row) → Some name ≡ option_map (λ p. p.0) entered → Some rows ≡ option_map (λ p. p.1) entered
    → entered ≡ Some (name, rows)
both None name rows n r = absurd cc
both (Some p) name rows n r = search rules

-- what was entered, from what the calls answer
pub entered_is : (m : ArgMatches) (name : Text) (rows : List Row) → Some name ≡ subcommand_name_of m → Some rows ≡ option_map (λ p. p.1) (subcommand_rows_of m)
    → subcommand_rows_of m ≡ Some (name, rows)
entered_is m name rows n r = both (subcommand_rows_of m) name rows (n ∙ sym (rows_name (out-ArgMatches m).subcommand)) r

-- the same of the text that `get_flag` reads
abbrev text_of_entry : Option Entry → Option Text
text_of_entry found = option_and_then (λ a. option_map (λ s. read_as a.reading s.now) (slice_get a.vals.items 0)) (option_map (λ e. e.1) found)

read_get : (reading : Reading) (vs : List (Bor Text)) → option_map (λ s. read_as reading s.now) (slice_get vs 0) ≡ option_map (read_as reading) (slice_get (texts vs) 0)
read_get reading [] = refl
read_get reading (v ∷ vs) = refl

one_entry : (id : Text) (es : List Entry) → text_of_entry (find (λ e. bytes_eq e.0.now id) es) ≡ one_of id (map row_of es)
one_entry id [] = refl
one_entry id (e ∷ es) = elim (cases_Bool (bytes_eq e.0.now id)) [
  | inl found ↦ rw found (read_get e.1.reading e.1.vals.items)
  | inr other ↦ rw other (one_entry id es)
]

-- `get_str` of an option that may be absent, of the rows
pub option_is : (found : Found) (id : Text) (value : Option (Bor Text)) → option_map (λ s. s.now) value ≡ first_value found id → first_of id (rows_of found) ≡ option_copied value
option_is found id None is = sym (is ∙ first_text id found.entries.items)
option_is found id (Some v) is = sym (is ∙ first_text id found.entries.items)

-- `get_strs` of FILE, of the rows
pub files_are : (found : Found) (files : Option (Bor (List (Bor Text)))) → option_map (λ s. map (λ v. v.now) s.now) files ≡ option_map raw_values (matched_of found (codes "FILE"))
    → option_map (λ s. map (λ v. v.now) s.now) files ≡ all_of (codes "FILE") (rows_of found)
files_are found files is = is ∙ raw_values-rows found (codes "FILE")

-- those that are given, and where none is
pub files_some : (found : Found) (files : Option (Bor (List (Bor Text)))) (given : Bor (List (Bor Text)))
    → option_map (λ s. map (λ v. v.now) s.now) files ≡ option_map raw_values (matched_of found (codes "FILE")) → files ≡ Some given
    → map (λ v. v.now) given.now ≡ files_in (rows_of found)
files_some found files given is some =
    let all : Some (map (λ v. v.now) given.now) ≡ all_of (codes "FILE") (rows_of found) = rw some at (files_are found files is) in
    ap (λ (all : Option (List Text)). unwrap_or all []) all

pub files_none : (found : Found) (files : Option (Bor (List (Bor Text)))) → option_map (λ s. map (λ v. v.now) s.now) files ≡ option_map raw_values (matched_of found (codes "FILE"))
    → files ≡ None → [] ≡ files_in (rows_of found)
files_none found files is none =
    let all : None ≡ all_of (codes "FILE") (rows_of found) = rw none at (files_are found files is) in
    ap (λ (all : Option (List Text)). unwrap_or all []) all

-- a copy of them
pub copied_files : (made : Result (Vec (Bor Text)) AllocError) (given : List (Bor Text)) (files : List Text)
    → IfOk made (λ v. ((x y : Bor Text) → y ≡ x → y ≡ x) → v.items ≡ given) → map (λ v. v.now) given ≡ files → IfOk made (λ v. map (λ v. v.now) v.items ≡ files)
copied_files (Ok v) given files same is = ap (map (λ v. v.now)) (same (λ x y e. e)) ∙ is
copied_files (Err error) given files same is = tt

-- the first of them
first_in : (file : Text) (files : List Text) → slice_get files 0 ≡ Some file → Contains files file
first_in file [] is = absurd cc
first_in file (f ∷ files) is = (0, omega arith, cc)

first_by : (file : Text) (row : Option Row) → option_and_then (λ (r : Row). slice_get r.values 0) row ≡ Some file → Contains (unwrap_or (option_map (λ (r : Row). r.values) row) []) file
first_by file None is = absurd cc
first_by file (Some row) is = first_in file row.values is

pub first_given : (rows : List Row) (file : Text) → first_of (codes "FILE") rows ≡ Some file → Contains (files_in rows) file
first_given rows file is = first_by file (find (λ r. bytes_eq r.id (codes "FILE")) rows) is

none_in : (files : List Text) (file : Text) → slice_get files 0 ≡ None → Contains files file → ⊥
none_in [] file is there = let (k, inside, same) = there in absurd (omega (arith, inside))
none_in (f ∷ files) file is there = absurd cc

none_by : (row : Option Row) (file : Text) → option_and_then (λ (r : Row). slice_get r.values 0) row ≡ None → Contains (unwrap_or (option_map (λ (r : Row). r.values) row) []) file → ⊥
none_by None file is there = let (k, inside, same) = there in absurd (omega (arith, inside))
none_by (Some row) file is there = none_in row.values file is there

pub none_given : (rows : List Row) (file : Text) → first_of (codes "FILE") rows ≡ None → Contains (files_in rows) file → ⊥
none_given rows file is there = none_by (find (λ r. bytes_eq r.id (codes "FILE")) rows) file is there

-- the files of what was entered
pub entered_some : (entered : Option (Text × List Row)) (rows : List Row) → Some rows ≡ option_map (λ p. p.1) entered → files_in rows ≡ entered_files entered
entered_some None rows is = absurd cc
entered_some (Some p) rows is = let same : rows ≡ p.1 = cc in ap files_in same

pub entered_none : (entered : Option (Text × List Row)) → None ≡ option_map (λ p. p.1) entered → [] ≡ entered_files entered
entered_none None is = refl
entered_none (Some p) is = absurd cc

-- what is so, and what is not
pub may_be : (asks beyond : Bool) → (asks && not beyond) ≡ true → (asks ≡ true) × (beyond ≡ false)
may_be true true may = absurd cc
may_be true false may = (refl, refl)
may_be false beyond may = absurd cc

-- `get_one` of a flag, of its text
yes_text : (E : Type 0) (read : Option Bool) (text : Text) → ReadsOne {T = Bool} {E = E} ParsesBool text read → unwrap_or read false ≡ is_yes (Some text)
yes_text E None text gives = sym (false_from_ne_true (bytes_eq text (codes "true")) (λ same. gives.1.0 ((bytes_eq-Decides text (codes "true")).0 same)))
yes_text E (Some true) text gives = rw gives refl
yes_text E (Some false) text gives = rw gives refl

yes_read : (E : Type 0) (read : Option Bool) (text : Option Text) → (text ≡ None → read ≡ None)
    → ((t : Text) → text ≡ Some t → ReadsOne {T = Bool} {E = E} ParsesBool t read) → unwrap_or read false ≡ is_yes text
yes_read E read None absent given = rw (absent refl) refl
yes_read E read (Some text) absent given = yes_text E read text (given text refl)

-- the same, of the rows
pub yes_is : (E : Type 0) (found : Found) (id : Text) (read : Option Bool) → (one_text found id ≡ None → read ≡ None)
    → ((t : Text) → one_text found id ≡ Some t → ReadsOne {T = Bool} {E = E} ParsesBool t read) → unwrap_or read false ≡ is_yes (one_of id (rows_of found))
yes_is E found id read absent given = yes_read E read (one_text found id) absent given ∙ ap is_yes (one_entry id found.entries.items)

-- where `--set` stands beside another option, `images` is asked for nothing
pub asks_both : (rows : List Row) (text : Text) → first_of (codes "set") rows ≡ Some text → asks_of_all rows ≡ true → (job : Job) → IsImagesJob rows job → ⊥
asks_both rows text set more jobs.Run is = is
asks_both rows text set more jobs.Asm is = is
asks_both rows text set more jobs.Dis is = is
asks_both rows text set more (jobs.Images options) is = let none = is.0 in cc
asks_both rows text set more (jobs.Set options) is = true≢false (sym more ∙ is.1)
asks_both rows text set more jobs.Law is = is
asks_both rows text set more (jobs.Trace options) is = is
asks_both rows text set more (jobs.Next options) is = is
asks_both rows text set more (jobs.Replay options) is = is

-- where an image is to be explained that is not named, `images` is asked for nothing
pub explains_none : (rows : List Row) → first_of (codes "set") rows ≡ None → lacks_image rows ≡ true → (job : Job) → IsImagesJob rows job → ⊥
explains_none rows set lacks jobs.Run is = is
explains_none rows set lacks jobs.Asm is = is
explains_none rows set lacks jobs.Dis is = is
explains_none rows set lacks (jobs.Images options) is = true≢false (sym lacks ∙ is.1)
explains_none rows set lacks (jobs.Set options) is = let some = is.0 in cc
explains_none rows set lacks jobs.Law is = is
explains_none rows set lacks (jobs.Trace options) is = is
explains_none rows set lacks (jobs.Next options) is = is
explains_none rows set lacks (jobs.Replay options) is = is

-- a request of a command that was entered
pub request_is : (m : ArgMatches) (name : Text) (rows : List Row) (command : Command) (request : Option Request) → Some name ≡ subcommand_name_of m
    → Some rows ≡ option_map (λ p. p.1) (subcommand_rows_of m) → command_named name ≡ Some command
    → Finds (λ (r : Request). Asks (Some command) rows r.task r.file.now r.input) request
    → Finds (λ (r : Request). AsksIn (subcommand_rows_of m) r.task r.file.now r.input) request
request_is m name rows command request n r named finds =
    rw (entered_is m name rows n r)
    (subst (λ (c : Option Command). Finds (λ (r : Request). Asks c rows r.task r.file.now r.input) request) (sym named) finds)

-- whether moves are asked for, of the rows
pub moves_are : (m : ArgMatches) (name : Text) (rows : List Row) (request : Option Request) → Some name ≡ subcommand_name_of m
    → Some rows ≡ option_map (λ p. p.1) (subcommand_rows_of m) → IfSome request (λ r. r.ways.moves ≡ is_given (codes "moves") rows)
    → IfSome request (λ r. HasMovesIn (subcommand_rows_of m) r.ways.moves)
moves_are m name rows request n r is = rw (entered_is m name rows n r) is

-- whether lines of progress are asked for, of the rows
pub progress_is : (m : ArgMatches) (name : Text) (rows : List Row) (request : Option Request) → Some name ≡ subcommand_name_of m
    → Some rows ≡ option_map (λ p. p.1) (subcommand_rows_of m) → IfSome request (λ r. r.progress ≡ is_given (codes "progress") rows)
    → IfSome request (λ r. HasProgressIn (subcommand_rows_of m) r.progress)
progress_is m name rows request n r is = rw (entered_is m name rows n r) is

-- how the report is asked for, of the rows
pub form_is : (m : ArgMatches) (name : Text) (rows : List Row) (request : Option Request) → Some name ≡ subcommand_name_of m
    → Some rows ≡ option_map (λ p. p.1) (subcommand_rows_of m) → IfSome request (λ r. r.form ≡ form_of (is_given (codes "json") rows) (has_value (codes "format") rows))
    → IfSome request (λ r. HasFormIn (subcommand_rows_of m) r.form)
form_is m name rows request n r is = rw (entered_is m name rows n r) is

-- where an option's text is no number, no number is asked for
pub no_number_or : (bound default : ℕ) (read : Option Text) (n : ℕ) → ((found : Option ℕ) → IsNumberIfAny bound read found → ⊥) → IsNumberOr bound default read n → ⊥
no_number_or bound default None n none is = none None refl
no_number_or bound default (Some text) n none is = none (Some n) is

pub no_number_of : (bound : ℕ) (read : Option Text) (n : ℕ) → ((found : Option ℕ) → IsNumberIfAny bound read found → ⊥) → IsNumber bound read n → ⊥
no_number_of bound None n none is = is
no_number_of bound (Some text) n none is = none (Some n) is
