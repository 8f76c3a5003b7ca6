-- What is persisted, where all that is pending is, is coherent.
use Rattle.std.proofs.Common.{◌≡◌, ◌≢◌, ℕ, ◌<◌, inl, inr, true, Option, Some, None, List, [], ◌∷◌, length, unwrap_or, refl, sym, ap, ◌∙◌, arith, length-set, get_or-set_same, get_or-set_other}
use Rattle.std.proofs.lemmas.Bool.{cases_Bool, eqb-true, eq-eqb}
use Rattle.std.specs.Prelude.{◌==◌, slice_index, slice_set}
use Rattle.std.specs.Option.{option_or}
use Rattle.lines_layout.specs.Lines.{line_of}
use Rattle.outcomes.specs.Lists.{newest}
use Rattle.outcomes.proofs.NewestGiven.{option_or_none}
use Rattle.persist_buffer.specs.declared.entry.PendingEntry.{PendingEntry}
use Rattle.persist_buffer.specs.declared.entry.PendingEntry.TheVariants.{Write, Marker}
use Rattle.persist_buffer.specs.Listings.{LinesBelow}
use Rattle.persist_buffer.specs.Memories.{value_to}
use Rattle.pending_images.specs.Cuts.{written}

one_written : (es : List PendingEntry) (xs : List ℕ) (target value word : ℕ) → target < length xs
    → unwrap_or (newest (value_to word) es) (slice_index (slice_set xs target value) word) ≡ unwrap_or (option_or (newest (value_to word) es) (value_to word (Write target value))) (slice_index xs word)
one_written es xs target value word inside =
    elim (cases_Bool (target == word)) [
      | inl same ↦
          let is : target ≡ word = eqb-true target word same in
          let gives : value_to word (Write target value) ≡ Some value = rw same refl in
          ap (λ (w : ℕ). unwrap_or (newest (value_to word) es) (slice_index (slice_set xs target value) w)) (sym is) ∙ ap (unwrap_or (newest (value_to word) es)) (get_or-set_same xs target value 0 inside)
          ∙ later (newest (value_to word) es) ∙ ap (λ (o : Option ℕ). unwrap_or (option_or (newest (value_to word) es) o) (slice_index xs word)) (sym gives)
      | inr other ↦
          let apart : word ≢ target = λ e. (let same : (target == word) ≡ true = eq-eqb target word (sym e) in absurd (cc)) in
          let gives : value_to word (Write target value) ≡ None = rw other refl in
          ap (unwrap_or (newest (value_to word) es)) (get_or-set_other xs target word value 0 apart)
          ∙ ap (λ (o : Option ℕ). unwrap_or o (slice_index xs word)) (sym (option_or_none (newest (value_to word) es)))
          ∙ ap (λ (o : Option ℕ). unwrap_or (option_or (newest (value_to word) es) o) (slice_index xs word)) (sym gives)
    ]
  where
    later : (o : Option ℕ) → unwrap_or o value ≡ unwrap_or (option_or o (Some value)) (slice_index xs word)
    later None = refl
    later (Some x) = refl

pub written_shows : (es : List PendingEntry) (xs : List ℕ) (word : ℕ) → LinesBelow 64 es → length xs ≡ 512 → slice_index (written es xs) word ≡ unwrap_or (newest (value_to word) es) (slice_index xs word)
written_shows [] xs word below long = refl
written_shows (Write target value ∷ es) xs word below long =
    let inside : line_of target < 64 = below.0 in
    written_shows es (slice_set xs target value) word below.1 (length-set xs target value ∙ long) ∙ one_written es xs target value word (omega (arith, inside, long))
written_shows (Marker line ∷ es) xs word below long =
    written_shows es xs word below long ∙ ap (λ (o : Option ℕ). unwrap_or o (slice_index xs word)) (sym (option_or_none (newest (value_to word) es)))

pub written_long : (es : List PendingEntry) (xs : List ℕ) → length (written es xs) ≡ length xs
written_long [] xs = refl
written_long (Write word value ∷ es) xs = written_long es (slice_set xs word value) ∙ length-set xs word value
written_long (Marker line ∷ es) xs = written_long es xs
