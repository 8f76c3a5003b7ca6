-- Further persisting leaves the coherent values.
use Rattle.std.proofs.Common.{◌≡◌, ◌≢◌, ℕ, Bool, true, false, Option, Some, None, List, [], ◌∷◌, refl, sym, ap, ◌∙◌, get_or-set_other}
use Rattle.std.specs.Prelude.{slice_index, slice_set, unwrap_or}
use Rattle.std.specs.Option.{option_or}
use Rattle.std.proofs.lemmas.Bool.{eq-eqb}
use Rattle.outcomes.specs.Lists.{newest}
use Rattle.persist_buffer.specs.declared.entry.PendingEntry.{PendingEntry}
use Rattle.persist_buffer.specs.declared.entry.PendingEntry.TheVariants.{Write, Marker}
use Rattle.persist_buffer.specs.State.{Memory}
use Rattle.persist_buffer.specs.Memories.{coherent, value_to}
use Rattle.pending_images.specs.Changes.{IsReached}
use Rattle.pending_images.specs.ClosedSets.{flagged}
use Rattle.pending_images.specs.Cuts.{written}
use Rattle.pending_images.proofs.ImagesAreCuts.{closed_law}

-- no entry writes to the word
abbrev Spares : ℕ → List PendingEntry → Type 0
Spares word es = newest (value_to word) es ≡ None

-- neither of two is there
both_none : (a b : Option ℕ) → option_or a b ≡ None → (a ≡ None) × (b ≡ None)
both_none None b e = (refl, e)
both_none (Some x) b e = absurd cc

other_word : (word target value : ℕ) → value_to word (Write target value) ≡ None → word ≢ target
other_word word target value e same =
    let is : ◌≡◌ {A = Option ℕ} (Some value) None = rw (eq-eqb target word (sym same)) at e in absurd cc

spared : (word : ℕ) (es : List PendingEntry) (flags : List Bool) (xs : List ℕ) → Spares word es → slice_index (written (flagged es flags) xs) word ≡ slice_index xs word
spared word [] flags xs h = refl
spared word (e ∷ es) [] xs h = refl
spared word (e ∷ es) (false ∷ flags) xs h = spared word es flags xs (both_none (newest (value_to word) es) (value_to word e) h).0
spared word (Marker line ∷ es) (true ∷ flags) xs h = spared word es flags xs (both_none (newest (value_to word) es) None h).0
spared word (Write target value ∷ es) (true ∷ flags) xs h =
    let parts = both_none (newest (value_to word) es) (value_to word (Write target value)) h in
    spared word es flags (slice_set xs target value) parts.0 ∙ get_or-set_other xs target word value 0 (other_word word target value parts.1)

reached_spares : (m : Memory) (persisted : List ℕ) (word : ℕ) → IsReached m persisted → newest (value_to word) m.pending ≡ None → slice_index persisted word ≡ slice_index m.persisted word
reached_spares m persisted word reached h =
    let closed = (closed_law m persisted).0 reached in
    ap (λ (xs : List ℕ). slice_index xs word) closed.2 ∙ spared word m.pending closed.0 m.persisted h

unwrapped : (o : Option ℕ) (a b : ℕ) → (o ≡ None → a ≡ b) → unwrap_or o a ≡ unwrap_or o b
unwrapped None a b same = same refl
unwrapped (Some x) a b same = refl

pub coherent_stays : (m : Memory) (persisted : List ℕ) (word : ℕ) → IsReached m persisted → coherent m word ≡ coherent (record m { persisted = persisted }) word
coherent_stays m persisted word reached =
    unwrapped (newest (value_to word) m.pending) (slice_index m.persisted word) (slice_index persisted word) (λ none. sym (reached_spares m persisted word reached none))
