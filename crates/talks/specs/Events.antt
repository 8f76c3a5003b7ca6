-- What goes on at a terminal.
use Rattle.talks.specs.declared.fault.TalkFault.{TalkFault}
use Rattle.talks.specs.declared.fault.TalkFault.TheVariants as faults
use Rattle.std.specs.Prelude.{ℕ, List, [], ◌∷◌, ◌++◌, map, take, Option, Some, None, Result, Ok, Err}

pub data Event : Type 0 where
  -- a read gave this byte
  Heard : (byte : ℕ) → Event
  -- a write took this byte
  Told : (byte : ℕ) → Event
  -- a read was at the end
  Ended : Event
  -- a read failed
  ReadFailed : Event
  -- a write failed
  WriteFailed : Event

-- these bytes are heard, one after another
abbrev pub heard : List ℕ → List Event
heard bytes = map (λ b. Heard b) bytes

-- these bytes are told, one after another
abbrev pub told : List ℕ → List Event
told bytes = map (λ b. Told b) bytes

-- one read
abbrev pub hearing : {E : Type 0} → Result (Option ℕ) E → List Event
hearing (Ok (Some b)) = Heard b ∷ []
hearing (Ok None) = Ended ∷ []
hearing (Err _) = ReadFailed ∷ []

-- a text is told whole, or a beginning of it before a write fails
abbrev pub Tells : {E : Type 0} → (List Event → Type 0) → List ℕ → Result (Unit {0}) E → Type 0
Tells Went text (Ok done) = Went (told text)
Tells Went text (Err _) = (n : ℕ) × Went (told (take n text) ++ WriteFailed ∷ [])

-- the same, where a failed write is a fault
abbrev pub Says : (List Event → Type 0) → List ℕ → Result (Unit {0}) TalkFault → Type 0
Says Went text (Ok done) = Went (told text)
Says Went text (Err faults.WriteFailed) = (n : ℕ) × Went (told (take n text) ++ WriteFailed ∷ [])
Says Went text (Err faults.ReadFailed) = ⊥
Says Went text (Err faults.TooLong) = ⊥
Says Went text (Err faults.NoMemory) = ⊥
