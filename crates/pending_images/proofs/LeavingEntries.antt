-- How entries leave the pending list: one that no earlier one keeps there, after another.
use Rattle.std.specs.Prelude.{ℕ, zero, suc, ◌≡◌, false, List, ◌∷◌, ◌++◌}
use Rattle.std.specs.List.{AllByRecursion}
use Rattle.persist_buffer.specs.declared.entry.PendingEntry.{PendingEntry}
use Rattle.persist_buffer.specs.State.{Memory}
use Rattle.pending_images.specs.ClosedSets.{line_named, leaves_first}
use Rattle.pending_images.specs.Cuts.{after}

-- nothing must leave before an entry of the line
abbrev pub IsFree : ℕ → List PendingEntry → Type 0
IsFree line earlier = AllByRecursion (λ e. leaves_first line e ≡ false) earlier

-- one entry leaves, which need not wait for an earlier one
pub record Leaves (old new : Memory) : Type 0 where
  pub earlier : List PendingEntry
  pub entry : PendingEntry
  pub later : List PendingEntry
  pub pending_was : old.pending ≡ earlier ++ entry ∷ later
  pub free : IsFree (line_named entry) earlier
  pub pending_is : new.pending ≡ earlier ++ later
  pub persisted_is : new.persisted ≡ after entry old.persisted

-- n of them, one after another
abbrev pub Leaving : ℕ → Memory → Memory → Type 0
Leaving zero old new = new ≡ old
Leaving (suc n) old new = (mid : Memory) × Leaves old mid × Leaving n mid new

-- what some number of them may leave persisted
abbrev pub IsLeft : Memory → List ℕ → Type 0
IsLeft m image = (n : ℕ) × (end : Memory) × Leaving n m end × (end.persisted ≡ image)
