-- A line is heard.
use Rattle.std.specs.Prelude.{◌≡◌, ℕ, ◌+◌, List, [], ◌∷◌, ◌++◌, length, Result, Ok, Err, Bool, true, false, not, ◌==◌, if◌then◌else◌}
use Rattle.std.specs.List.{list_all}
use Rattle.talks.specs.declared.line.Line as code
use Rattle.talks.specs.declared.fault.TalkFault.{TalkFault}
use Rattle.talks.specs.declared.fault.TalkFault.TheVariants as faults
use Rattle.talks.specs.Events.{Event, Heard, Ended, ReadFailed, heard}

abbrev pub line_feed : ℕ
line_feed = 10

-- no line feed is among the bytes
abbrev pub IsOneLine : List ℕ → Type 0
IsOneLine line = list_all (λ b. not (b == line_feed)) line ≡ true

-- what ends a line: a line feed, or the end
abbrev pub line_end : Bool → List Event
line_end is_fed = if is_fed then Heard line_feed ∷ [] else (Ended ∷ [])

-- how many bytes of the limit a line takes: its own, and its line feed
abbrev pub line_size : Bool → List ℕ → ℕ
line_size is_fed line = length line + (if is_fed then 1 else 0)

-- What goes on while a line is heard, where so many bytes may be heard, and then so many.
abbrev pub Hears : (List Event → Type 0) → ℕ → ℕ → Result code.Line TalkFault → Type 0
Hears Went old new (Ok line) = Went (heard line.bytes.items ++ line_end line.is_fed) × IsOneLine line.bytes.items × (new + line_size line.is_fed line.bytes.items ≡ old)
Hears Went old new (Err faults.ReadFailed) = (part : List ℕ) × Went (heard part ++ ReadFailed ∷ []) × IsOneLine part
Hears Went old new (Err faults.NoMemory) = (part : List ℕ) × Went (heard part) × IsOneLine part
Hears Went old new (Err faults.TooLong) = (part : List ℕ) × Went (heard part) × IsOneLine part × (length part ≡ old)
Hears Went old new (Err faults.WriteFailed) = ⊥
