-- The delayed operations of a processor, by the entries of its store buffer and by which operations took effect.
use Rattle.std.specs.Prelude.{◌≡◌, ◌≢◌, ℕ, ◌<◌, Some, List, length, slice_get}
use Rattle.store_buffer.specs.declared.entry.Entry.{Entry}
use Rattle.processor.specs.declared.act.Act.TheVariants.{Delay}
use Rattle.machine.specs.declared.step.Seen.{Seen}
use Rattle.machine.specs.declared.step.Seen.TheVariants.{Ran, Crashed}
use Rattle.machine.specs.State.{Processor, State}
use Rattle.machine.specs.Effects.{effect_at, delayed_in}

-- the n-th step of a run delays an entry of processor q
abbrev pub DelaysAt : List Seen → ℕ → ℕ → Entry → Type 0
DelaysAt run q n entry = (place : ℕ) × (slice_get run n ≡ Some (Ran q place (Delay entry)))

-- no crash comes after a step of a run
abbrev pub NoCrashAfter : List Seen → ℕ → Type 0
NoCrashAfter run n = (k count : ℕ) → n < k → slice_get run k ≢ Some (Crashed count)

-- an operation has not taken effect
abbrev pub NoEffect : List Seen → ℕ → Type 0
NoEffect run n = (k : ℕ) → effect_at run k ≢ Some n

-- A processor's delayed operations, by the places of the steps that executed them, are the entries of its store buffer in
-- order: those that were delayed since the last crash and have not taken effect.
pub record AreBuffered (run : List Seen) (q : ℕ) (delayed : List ℕ) (buffer : List Entry) : Type 0 where
  pub same_length : length delayed ≡ length buffer
  pub entries : (j a : ℕ) (entry : Entry) → slice_get delayed j ≡ Some a → slice_get buffer j ≡ Some entry → DelaysAt run q a entry
  pub ascending : (j k a b : ℕ) → j < k → slice_get delayed j ≡ Some a → slice_get delayed k ≡ Some b → a < b
  pub no_crash : (j a : ℕ) → slice_get delayed j ≡ Some a → NoCrashAfter run a
  pub no_effect : (j a : ℕ) → slice_get delayed j ≡ Some a → NoEffect run a
  pub whole : (a : ℕ) (entry : Entry) → DelaysAt run q a entry → NoCrashAfter run a → NoEffect run a → (j : ℕ) × (slice_get delayed j ≡ Some a)

-- the entries of each processor's store buffer are its operations that are delayed after a run
abbrev pub AllAreBuffered : List Seen → State → Type 0
AllAreBuffered run s = (p : ℕ) (c : Processor) → slice_get s.processors p ≡ Some c → AreBuffered run p (delayed_in p run) c.buffer
