-- A line of which no write is pending holds no other values.
use Rattle.std.proofs.Common.{◌≡◌, ℕ, ◌+◌, inl, inr, Bool, List, [], ◌∷◌, ◌++◌, length, refl, sym, ap, subst, ◌∙◌, arith, append-nil}
use Rattle.std.specs.Prelude.{cond, filter, nat_eq, not, ◌*◌, ◌%◌, ◌==◌, count_by, if◌then◌else◌, map, slice_index, slice_set}
use Rattle.std.specs.List.{range_with_len}
use Rattle.std.specs.Cmp.Lexicographic.{pointwise}
use Rattle.std.proofs.lemmas.Bool.{cases_Bool}
use Rattle.lines_layout.specs.Lines.{line_of, line_words}
use Rattle.persist_buffer.specs.declared.entry.PendingEntry.{PendingEntry}
use Rattle.persist_buffer.specs.declared.entry.PendingEntry.TheVariants.{Write, Marker}
use Rattle.persist_buffer.specs.Memories.{is_write_on, write_count}
use Rattle.persist_buffer.specs.State.{Memory}
use Rattle.pending_images.specs.Listings.{in_order}
use Rattle.pending_images.proofs.CountsBeforeMarkers.{count_by-cons}
use Rattle.explore.specs.Codes.{code_of, coded}
use Rattle.explore.specs.Keys.{joined, line_key}
use Rattle.explore.specs.LineSets.{Held, held_after, held_by, held_from, others}

nothing_passed : (line : ℕ) (held : Held) (es : List PendingEntry) → held.passed ≡ [] → count_by (is_write_on line) es ≡ 0 → (held_from line held es).passed ≡ []
nothing_passed line held [] none few = none
nothing_passed line held (Write word value ∷ es) none few =
    let one = count_by-cons (is_write_on line) (Write word value) es in
    elim (cases_Bool (line_of word == line)) [
      | inl here ↦
          let more : count_by (is_write_on line) (Write word value ∷ es) ≡ 1 + count_by (is_write_on line) es = one ∙ ap (λ (b : Bool). cond b 1 0 + count_by (is_write_on line) es) here in
          absurd (omega (arith, more, few))
      | inr other ↦
          let less : count_by (is_write_on line) (Write word value ∷ es) ≡ 0 + count_by (is_write_on line) es = one ∙ ap (λ (b : Bool). cond b 1 0 + count_by (is_write_on line) es) other in
          let written : Held = record { values = slice_set held.values (word % line_words) value; passed = held.passed ++ held.values ∷ [] } in
          let same : held_after line held (Write word value) ≡ held = ap (λ (b : Bool). if b then written else held) other in
          subst (λ (h : Held). (held_from line h es).passed ≡ []) (sym same) (nothing_passed line held es none (omega (arith, less, few)))
    ]
nothing_passed line held (Marker other ∷ es) none few =
    let less : count_by (is_write_on line) (Marker other ∷ es) ≡ 0 + count_by (is_write_on line) es = count_by-cons (is_write_on line) (Marker other) es in
    let marked : Held = record { values = held.values; passed = [] } in
    elim (cases_Bool (other == line)) [
      | inl here ↦
          let same : held_after line held (Marker other) ≡ marked = ap (λ (b : Bool). if b then marked else held) here in
          subst (λ (h : Held). (held_from line h es).passed ≡ []) (sym same) (nothing_passed line marked es refl (omega (arith, less, few)))
      | inr elsewhere ↦
          let same : held_after line held (Marker other) ≡ held = ap (λ (b : Bool). if b then marked else held) elsewhere in
          subst (λ (h : Held). (held_from line h es).passed ≡ []) (sym same) (nothing_passed line held es none (omega (arith, less, few)))
    ]

nothing_held : (m : Memory) (line count : ℕ) → write_count m line ≡ 0 → line_key m line count ≡ 0 ∷ []
nothing_held m line count few =
    let none : (held_by m line count).passed ≡ [] = nothing_passed line (record { values = map (slice_index m.persisted) (range_with_len (line_words * line) count); passed = [] }) m.pending refl few in
    let no : others (held_by m line count) ≡ [] = ap (λ (lists : List (List ℕ)). filter (λ values. not (pointwise nat_eq values (held_by m line count).values)) (in_order lists)) none in
    ap (λ (found : List (List ℕ)). length found ∷ joined found) no

pub none_written : (m : Memory) (line count : ℕ) (old new : List ℕ) → write_count m line ≡ 0 → new ≡ old ++ code_of 0 → new ≡ old ++ coded (line_key m line count)
none_written m line count old new few one =
    one ∙ ap (λ (ys : List ℕ). old ++ ys) (sym (append-nil (code_of 0))) ∙ ap (λ (key : List ℕ). old ++ coded key) (sym (nothing_held m line count few))
