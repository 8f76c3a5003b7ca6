-- The coherent values are kept.
use Rattle.std.proofs.Common.{◌≡◌, ℕ, ◌<◌, true, false, List, [], ◌∷◌, ◌++◌, length, unwrap_or, refl, sym, ◌∙◌, ap, arith, inl, inr, length-set, get_or-set_same, get_or-set_other}
use Rattle.std.specs.Prelude.{slice_index, slice_set, ◌==◌}
use Rattle.std.specs.Option.{option_or}
use Rattle.std.proofs.lemmas.Bool.{cases_eq}
use Rattle.std.proofs.lemmas.Bool.Decides.{nat_tests}
use Rattle.lines_layout.specs.Lines.{line_of}
use Rattle.outcomes.specs.Lists.{newest}
use Rattle.outcomes.proofs.NewestGiven.{newest-append}
use Rattle.persist_buffer.specs.declared.entry.PendingEntry.{PendingEntry}
use Rattle.persist_buffer.specs.declared.entry.PendingEntry.TheVariants.{Write, Marker}
use Rattle.persist_buffer.specs.State.{Memory}
use Rattle.persist_buffer.specs.Memories.{value_to, coherent, is_write_on, is_marker}
use Rattle.persist_buffer.specs.CoherentValues.{AreCoherent}
use Rattle.persist_buffer.specs.Nexts.{IsNextWrite, IsNextMarker}
use Rattle.persist_buffer.specs.Firsts.{drop_first}
use Rattle.persist_buffer.proofs.PersistAndSettle.{persist_on_kept, settle_kept}
use Rattle.persist_buffer.proofs.PersistingIsASplit.{persisting_only, settling_only}
use Rattle.persist_buffer.proofs.PersistedValues.{persist_shows_nowhere, settle_shows_nowhere}

-- one more entry
with_last : (word : ℕ) (ws : List PendingEntry) (entry : PendingEntry) → newest (value_to word) (ws ++ entry ∷ []) ≡ option_or (value_to word entry) (newest (value_to word) ws)
with_last word ws entry = newest-append (value_to word) ws (entry ∷ [])

pub write_added : (values : List ℕ) (m : Memory) (grown : List PendingEntry) (word value : ℕ) → AreCoherent values m → word < 512 → grown ≡ m.pending ++ Write word value ∷ []
    → AreCoherent (slice_set values word value) (record { pending = grown; persisted = m.persisted })
write_added values m grown word value a h e =
    let within : word < length values = omega (arith, a.kept) in
    record {
      kept = length-set values word value ∙ a.kept;
      whole = a.whole;
      same = λ x l.
          let shown : coherent (record { pending = grown; persisted = m.persisted }) x ≡ unwrap_or (option_or (value_to x (Write word value)) (newest (value_to x) m.pending)) (slice_index m.persisted x) =
          ap (λ o. unwrap_or o (slice_index m.persisted x)) (ap (newest (value_to x)) e ∙ with_last x m.pending (Write word value)) in
          elim (cases_eq word x) [
            | inl is ↦
                let k : (word == x) ≡ true = grind (arith, nat_tests) in
                ap (slice_index (slice_set values word value)) (sym is) ∙ (get_or-set_same values word value 0 within ∙ sym (shown ∙ rw k refl))
            | inr other ↦
                let k : (word == x) ≡ false = grind (arith, nat_tests) in
                get_or-set_other values word x value 0 (λ q. other (sym q)) ∙ (a.same x l ∙ sym (shown ∙ rw k refl))
          ];
    }

pub marker_added : (values : List ℕ) (m : Memory) (grown : List PendingEntry) (line : ℕ) → AreCoherent values m → grown ≡ m.pending ++ Marker line ∷ []
    → AreCoherent values (record { pending = grown; persisted = m.persisted })
marker_added values m grown line a e = record {
  kept = a.kept;
  whole = a.whole;
  same = λ x l. a.same x l ∙ sym (ap (λ o. unwrap_or o (slice_index m.persisted x)) (ap (newest (value_to x)) e ∙ with_last x m.pending (Marker line)));
}

-- what persists and what settles shows nowhere
pub write_persisted : (values : List ℕ) (m : Memory) (left : List PendingEntry) (line word value : ℕ) → AreCoherent values m → word < 512 → IsNextWrite line word value m.pending
    → left ≡ drop_first (is_write_on (line_of word)) m.pending → AreCoherent values (record { pending = left; persisted = slice_set m.persisted word value })
write_persisted values m left line word value a h next e =
    let new : Memory = record { pending = left; persisted = slice_set m.persisted word value } in
    let split = persisting_only line m new word value (persist_on_kept m line word value left next e) in
    let within : word < length m.persisted = omega (arith, a.whole) in
    record {
      kept = a.kept;
      whole = length-set m.persisted word value ∙ a.whole;
      same = λ x l. a.same x l ∙ sym (persist_shows_nowhere line m new word value split.0 split.1 split.2 within x);
    }

pub marker_settled : (values : List ℕ) (m : Memory) (left : List PendingEntry) (line : ℕ) → AreCoherent values m → IsNextMarker line m.pending
    → left ≡ drop_first is_marker m.pending → AreCoherent values (record { pending = left; persisted = m.persisted })
marker_settled values m left line a next e =
    let new : Memory = record { pending = left; persisted = m.persisted } in
    let split = settling_only m new line (settle_kept m line left next e) in
    record {
      kept = a.kept;
      whole = a.whole;
      same = λ x l. a.same x l ∙ sym (settle_shows_nowhere line m new split.0 split.1 split.2 x);
    }
