-- What a conversation keeps of the lines that declared stops, watches and breaks.
use Rattle.std.specs.Prelude.{ℕ, Bool, true, false, not, ◌==◌, ◌&&◌, if◌then◌else◌, Option, List, [], ◌∷◌, ◌++◌, nat_lt}
use Rattle.std.specs.List.{filter, flat_map}
use Rattle.lines_layout.specs.Names.{Text}
use Rattle.text_tokens.specs.Text.{past_blanks}
use Rattle.commands.specs.StateTexts.{end_of_line}
use Rattle.debug_scripts.specs.Pieces.{uncommented}
use Rattle.debug_scripts.specs.declared.orders.Command.{Command}
use Rattle.debug_scripts.specs.declared.orders.Command.TheVariants as commands
use Rattle.conversations.specs.declared.declaration.Kind.{Kind}
use Rattle.conversations.specs.declared.declaration.Kind.TheVariants as kinds
use Rattle.conversations.specs.declared.moment.Moment.{Moment}

-- a stop that is armed, a watch that is attached, or a break: its id, and the line that declared it
pub record Declaration : Type 0 where
  pub kind : Kind
  pub id : ℕ
  -- where it halts steps, if it is a break, or a watch that halts
  pub halts : Option Moment
  pub text : Text

-- a byte, if it is of ASCII
abbrev pub ascii : ℕ → List ℕ
ascii b = if nat_lt b 0x80 then b ∷ [] else []

-- What such a line declares. What is kept of it begins behind its blanks, and ends before its comment; it is of ASCII, as a line is
-- that declares something.
abbrev pub declaration : Kind → ℕ → Option Moment → List ℕ → Declaration
declaration kind id halts line = record { kind = kind; id = id; halts = halts; text = flat_map ascii (past_blanks (uncommented line)) }

-- whether two declare alike
abbrev pub is_kind : Kind → Kind → Bool
is_kind kinds.Stop kinds.Stop = true
is_kind kinds.Stop kinds.Watch = false
is_kind kinds.Stop kinds.Break = false
is_kind kinds.Watch kinds.Stop = false
is_kind kinds.Watch kinds.Watch = true
is_kind kinds.Watch kinds.Break = false
is_kind kinds.Break kinds.Stop = false
is_kind kinds.Break kinds.Watch = false
is_kind kinds.Break kinds.Break = true

-- whether one stays where that of a kind and an id is taken out
abbrev pub stays : Kind → ℕ → Declaration → Bool
stays kind id d = not ((d.id == id) && is_kind kind d.kind)

-- those that stay then
abbrev pub without : Kind → ℕ → List Declaration → List Declaration
without kind id ds = filter (stays kind id) ds

-- whether one stays where all of an id are taken out
abbrev pub is_other : ℕ → Declaration → Bool
is_other id d = not (d.id == id)

-- those that stay then
abbrev pub without_all : ℕ → List Declaration → List Declaration
without_all id ds = filter (is_other id) ds

-- those that stay where a command of a script is followed
abbrev pub declared_after : Command → List Declaration → List Declaration
declared_after (commands.Gather step) ds = ds
declared_after commands.Go ds = ds
declared_after commands.Continue ds = ds
declared_after (commands.Back n) ds = ds
declared_after commands.Show ds = ds
declared_after commands.Images ds = ds
declared_after (commands.Values asked) ds = ds
declared_after (commands.Disarm id) ds = without kinds.Stop id ds
declared_after (commands.Detach id) ds = without kinds.Watch id ds

-- the line that declared one
abbrev pub declared_line : Declaration → Text
declared_line d = d.text ++ end_of_line

-- the lines that declared the stops, watches and breaks that there are, in their order
abbrev pub info_text : List Declaration → Text
info_text ds = flat_map declared_line ds
