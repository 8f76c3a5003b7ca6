-- One memory that speaks for another: what is so both where keys tell what lines may hold, and elsewhere.
use Rattle.std.proofs.Common.{◌≡◌, ℕ, Bool, true, false, List, refl, sym, ◌∙◌}
use Rattle.persist_buffer.specs.declared.entry.PendingEntry.{PendingEntry}
use Rattle.persist_buffer.specs.Memories.{coherent}
use Rattle.persist_buffer.specs.State.{Memory}
use Rattle.pending_images.specs.Changes.{Change, IsReached}
use Rattle.explore.specs.Covering.{AreLike, SpeaksFor, grown}
use Rattle.explore.specs.LineSets.{AreHeld}
use Rattle.explore.proofs.HeldByLines.{held_are_reached}
use Rattle.explore.proofs.LaterMemories.{IsWhole, changed_once, joined, later_grown, reached_before, same_canonical, stands_for_same}
use Rattle.explore.proofs.WithinMemories.{within_changed, within_grown, within_held, within_same, within_then}

pub same_coherent : (sets : Bool) (a b : Memory) → SpeaksFor sets a b → (word : ℕ) → coherent b word ≡ coherent a word
same_coherent true a b h = h.same
same_coherent false a b h = h.same

pub speaks_for_same : (sets : Bool) (a b : Memory) → b ≡ a → SpeaksFor sets a b
speaks_for_same true a b e = within_same a b e
speaks_for_same false a b e = stands_for_same a b e

pub speaks_then : (sets : Bool) (a b c : Memory) → SpeaksFor sets a b → SpeaksFor sets b c → SpeaksFor sets a c
speaks_then true a b c h k = within_then a b c h k
speaks_then false a b c h k = joined a b c h k

pub speaks_grown : (sets : Bool) (a b : Memory) (q : List PendingEntry) → SpeaksFor sets a b → SpeaksFor sets (grown a q) (grown b q)
speaks_grown true a b q h = within_grown a b q h
speaks_grown false a b q h = later_grown a b q h

pub speaks_changed : (sets : Bool) (a b : Memory) → IsWhole a → Change a b → SpeaksFor sets a b
speaks_changed true a b whole change = within_changed a b whole change
speaks_changed false a b whole change = changed_once a b whole change

pub like_speaks : (sets : Bool) (a b : Memory) → AreLike sets a b → SpeaksFor sets a b
like_speaks true a b alike = alike.0
like_speaks false a b alike = same_canonical a b alike.0 alike.1

pub like_itself : (sets : Bool) (m : Memory) → AreLike sets m m
like_itself true m = (within_same m m refl, within_same m m refl)
like_itself false m = (refl, refl)

-- What a memory is asked for: where keys tell what lines may hold, what its lines may hold; elsewhere what changes reach.
abbrev pub Leaves : Bool → Memory → List ℕ → Type 0
Leaves true m persisted = AreHeld m persisted
Leaves false m persisted = IsReached m persisted

pub leaves_reached : (sets : Bool) (m : Memory) (persisted : List ℕ) → IsWhole m → Leaves sets m persisted → IsReached m persisted
leaves_reached true m persisted whole held = held_are_reached m persisted whole held
leaves_reached false m persisted whole reached = reached

-- what the lines of the other may hold, the one leaves
pub speaks_leaves : (sets : Bool) (a b : Memory) (persisted : List ℕ) → IsWhole a → IsWhole b → SpeaksFor sets a b → AreHeld b persisted → Leaves sets a persisted
speaks_leaves true a b persisted whole_a whole_b h held = within_held a b persisted (whole_b.persisted ∙ sym whole_a.persisted) h held
speaks_leaves false a b persisted whole_a whole_b h held = reached_before a b persisted h (held_are_reached b persisted whole_b held)
