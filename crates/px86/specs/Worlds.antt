-- What lies outside of the program, as the trait `Outside` shows it.
use Rattle.std.specs.Prelude.{◌≡◌, Bool, List}
use Rattle.clap.specs.Words.{Text}
use Rattle.commands.specs.Devices.{Device}
use Rattle.talks.specs.Events.{Event}

-- What is true of files `F`, of a standard input `S` and of a console `C`, and how they are seen.
pub record World (F S C : Type 0) : Type 1 where
  -- how a file is seen, and how the standard input is
  pub file : F → Device
  pub standard : S → Device
  -- what went on between two values of the console
  pub went : C → C → List Event → Type 0
  -- this is the file of a name, of which nothing was read; or no file of this name could be opened
  pub IsFile : Text → F → Type 0
  pub CannotOpen : Text → Type 0
  -- this is the standard input, of which nothing was read
  pub IsStandard : S → Type 0
  -- this is the standard input and the standard output as one console, at which nothing went on
  pub IsConsole : C → Type 0
  -- the standard streams are open that a command needs, which reads the standard input or does not; or one is closed
  pub HasStreams : Bool → Type 0
  pub LacksStream : Bool → Type 0

-- In this world a file is seen in this way, and the standard input in that; and what went on at the console, went on here.
abbrev pub IsSeenBy : {F S C : Type 0} → World F S C → (F → Device) → (S → Device) → (C → C → List Event → Type 0) → Type 0
IsSeenBy world file standard went =
    (world.file ≡ file) × (world.standard ≡ standard) × ((a b : _) (talk : List Event) → went a b talk → world.went a b talk)
