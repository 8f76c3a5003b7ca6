-- One state stands for another. Laws speak of it; no rule.
use Rattle.std.specs.Prelude.{◌≡◌, ℕ, Bool, true, false, List, ◌++◌}
use Rattle.persist_buffer.specs.declared.entry.PendingEntry.{PendingEntry}
use Rattle.persist_buffer.specs.Memories.{coherent}
use Rattle.persist_buffer.specs.State.{Memory}
use Rattle.pending_images.specs.Changes.{IsReached}
use Rattle.machine.specs.State.{State}
use Rattle.explore.specs.Canonical.{canonical}
use Rattle.explore.specs.LineSets.{Within}

-- a memory with more entries at the end of its pending list
abbrev pub grown : Memory → List PendingEntry → Memory
grown m more = record { pending = m.pending ++ more; persisted = m.persisted }

-- One memory stands for another: all words have the same coherent values, and what changes reach in the other, whatever is
-- appended to both, they reach in the one.
pub record StandsFor (one other : Memory) : Type 0 where
  pub same : (word : ℕ) → coherent other word ≡ coherent one word
  pub reached : (more : List PendingEntry) (persisted : List ℕ) → IsReached (grown other more) persisted → IsReached (grown one more) persisted

-- In what follows `sets` is true where keys tell what each line may hold, and false where they tell what is pending and persisted (`Keys: memory_key`).

-- One memory speaks for another: where keys tell what each line may hold, it has all of it; elsewhere it stands for it.
abbrev pub SpeaksFor : Bool → Memory → Memory → Type 0
SpeaksFor true one other = Within one other
SpeaksFor false one other = StandsFor one other

-- All that t may do and leave, r may do and leave.
pub record Covers (sets : Bool) (r t : State) : Type 0 where
  pub shape : t.shape ≡ r.shape
  pub processors : t.processors ≡ r.processors
  pub memory : SpeaksFor sets r.memory t.memory

-- Two memories are the same but for what keys leave out: each has all of the other; or their pending lists have one canonical form.
abbrev pub AreLike : Bool → Memory → Memory → Type 0
AreLike true a b = Within a b × Within b a
AreLike false a b = (b.persisted ≡ a.persisted) × (canonical b.pending ≡ canonical a.pending)

-- Two states are the same but for the counts of turns and crashes, and for what keys leave out of their memories.
pub record IsLike (sets : Bool) (a b : State) : Type 0 where
  pub shape : b.shape ≡ a.shape
  pub processors : b.processors ≡ a.processors
  pub memory : AreLike sets a.memory b.memory
