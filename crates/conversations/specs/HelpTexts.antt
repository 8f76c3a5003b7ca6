-- What may be said.
use Rattle.std.specs.Prelude.{ℕ, Option, Some, None, List, [], ◌∷◌, ◌++◌, bytes_eq, codes}
use Rattle.std.specs.List.{find, flat_map}
use Rattle.lines_layout.specs.Names.{Text}
use Rattle.commands.specs.StateTexts.{end_of_line}
use Rattle.debug_scripts.specs.Pieces.{piece_of, uncommented}
use Rattle.conversations.specs.declared.help.Word.{Word}
use Rattle.conversations.specs.declared.help.Word.TheVariants as words

-- how a line goes on that begins with a word, and what it does
abbrev pub row_of : Word → Text
row_of words.Stop = codes "stop ID COND        stops a go where COND holds after a step"
row_of words.Watch = codes "watch ID NAME       notes each write of a word; with stop behind NAME it halts steps behind each, too, as a break does"
row_of words.Break = codes "break ID line N     halts steps behind one with which a processor comes to line N of the text; break ID crash where the power fails, break ID trap where a processor traps"
row_of words.Disarm = codes "disarm ID           takes out a stop"
row_of words.Detach = codes "detach ID           takes out a watch, with its notes"
row_of words.Info = codes "info                prints the lines that declared the stops, watches and breaks that there are"
row_of words.Delete = codes "delete ID           takes out the stop, the watch and the break of this id, whichever there is"
row_of words.Exec = codes "exec P              for the next go: processor P runs an instruction"
row_of words.Drain = codes "drain P I           for the next go: entry I of its store buffer leaves"
row_of words.Persist = codes "persist LINE        for the next go: the oldest pending write of a line persists"
row_of words.Settle = codes "settle              for the next go: the oldest marker leaves the pending list"
row_of words.Crash = codes "crash               for the next go: the power fails, and recovery begins; crash V .. does so now, leaving these values, unless a stop or a break comes before"
row_of words.Go = codes "go                  makes these steps"
row_of words.Continue = codes "continue            makes the rest of them after a stop, or after one that was refused, and the steps after it"
row_of words.Ahead = codes "ahead               prints the steps that wait for go or continue, as a list of steps"
row_of words.Step = codes "step [STEP]         makes this step now, or the first of those that are ahead; the others stay"
row_of words.Run = codes "run [N]             makes the first step of next, again and again, up to a stop, a break or N steps, at most 1000"
row_of words.Until = codes "until P PLACE       makes the first step of next, again and again, up to where processor P is at PLACE, a stop, a break or 1000 steps"
row_of words.Finish = codes "finish P            makes exec P now, again and again, up to a stop, a break, a refusal or 1000 steps"
row_of words.Next = codes "next                prints the steps that may be made now, and what each would do"
row_of words.Number = codes "K                   makes the step that next has under this number, as step does; the numbers begin at 0"
row_of words.Back = codes "back N              goes back before the last N steps; what was noted of them stays"
row_of words.Undo = codes "undo [N]            goes back before the last step, or before the last N, and forgets what was noted of them"
row_of words.Goto = codes "goto N              goes back to the state after the first N steps, as undo does; it never goes forward"
row_of words.Reverse = codes "reverse             goes back, as undo does, to the last state behind in which a stop's condition holds, or to the beginning; it knows no breaks"
row_of words.Show = codes "show                prints the machine's state"
row_of words.Changed = codes "changed             prints the lines of show that were not there before the last step, those of a processor below its line cpu"
row_of words.List = codes "list                prints the program that each processor runs, with > before the place where it is"
row_of words.Print = codes "print NAME          prints the values of a word; print P:REG the value of a register"
row_of words.Images = codes "images [COND]       lists what a crash may leave, or of that what makes COND false"
row_of words.All = codes "all COND            says whether COND holds in all that a crash may leave, and if not, where it does not, as images --all does"
row_of words.Set = codes "set V ..            prints which pending entries leave these values, one for each word, as images --set does"
row_of words.Why = codes "why V ..            says which writes are missing where a crash leaves these values, and why each may be, as images --set --explain-image does"
row_of words.Check = codes "check COND          asks COND of all that crashes may leave in all runs from here, as px86 check --all does; a run that fails is ahead then"
row_of words.Values = codes "values NAME [NAME=V ..]   lists the values that a word may then have, where others have these"
row_of words.Notes = codes "notes               prints the notes of each watch"
row_of words.History = codes "history             prints the steps that led here, as a list of steps"
row_of words.Help = codes "help [WORD]         prints these lines, or that of a word"
row_of words.Quit = codes "quit                ends; so does the end of the input"

-- the words that begin a line
abbrev pub all_words : List Word
all_words = words.Stop ∷ words.Watch ∷ words.Break ∷ words.Disarm ∷ words.Detach ∷ words.Info ∷ words.Delete ∷ words.Exec ∷ words.Drain ∷ words.Persist ∷ words.Settle ∷ words.Crash ∷ words.Go ∷ words.Continue ∷ words.Ahead ∷ words.Step ∷ words.Run ∷ words.Until ∷ words.Finish ∷ words.Next ∷ words.Number ∷ words.Back ∷ words.Undo ∷ words.Goto ∷ words.Reverse ∷ words.Show ∷ words.Changed ∷ words.List ∷ words.Print ∷ words.Images ∷ words.All ∷ words.Set ∷ words.Why ∷ words.Check ∷ words.Values ∷ words.Notes ∷ words.History ∷ words.Help ∷ words.Quit ∷ []

-- a row for each of them
abbrev pub row_line : Word → Text
row_line word = row_of word ++ end_of_line

abbrev pub help_text : Text
help_text = flat_map row_line all_words

-- the word that is written so
unfoldable pub word_named : List ℕ → Option Word
word_named name = find (λ word. bytes_eq (piece_of (row_of word)).0 name) all_words

-- the row of a word, and that of `help` where there is none
abbrev pub row_by : Option Word → Text
row_by (Some word) = row_line word
row_by None = row_line words.Help

-- what may stand where a line is wrong: the row of its first word
abbrev pub hint_text : List ℕ → Text
hint_text line = row_by (word_named (piece_of (uncommented line)).0)
