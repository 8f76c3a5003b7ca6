-- What takes one thing more is put in, place by place.
use Rattle.std.proofs.Common.{◌≡◌, ℕ, ◌+◌, ◌*◌, ◌<◌, ◌≤◌, Bool, true, false, Some, List, length, ap, sym, subst, ◌∙◌, inl, inr, arith}
use Rattle.std.specs.Prelude.{Contains, slice_get, slice_index_or}
use Rattle.std.specs.Global.{Vec}
use Rattle.std.proofs.lemmas.Bool.{cases_lt, false≢true}
use Rattle.std.proofs.lemmas.Option.{get_or_from_slice_get, slice_get_within}
use Rattle.choices.specs.Choices.{with_one}
use Rattle.choices.specs.Waiting.{HasWithin, IsPut, IsSpread, weight, weight_of}
use Rattle.choices.proofs.Waited.{lighter_in_all}

has_still : (queue more : List (Vec Bool)) (choice : List Bool) → ((other : Vec Bool) → Contains queue other → Contains more other) → HasWithin queue choice → HasWithin more choice
has_still queue more choice kept (one, there, within) = (one, kept one there, within)

module _ (choice bound : List Bool) where
  abbrev pub Above : List (Vec Bool) → ℕ → Type 0
  Above queue place = (at : ℕ) → at < place → slice_get bound at ≡ Some false → HasWithin queue (with_one at choice)

  pub above_more : (queue more : List (Vec Bool)) (place : ℕ) (one : Vec Bool) → one.items ≡ with_one place choice → IsPut queue more one → Above queue place → Above more (place + 1)
  above_more queue more place one is put before at less free = elim (cases_lt at place) [
    | inl earlier ↦ has_still queue more (with_one at choice) put.kept (before at earlier free)
    | inr here ↦
        let same : place ≡ at = omega (arith, here, less) in
        subst (λ (n : ℕ). HasWithin more (with_one n choice)) same (subst (λ (zs : List Bool). HasWithin more zs) is put.has)
  ]

  pub above_still : (queue : List (Vec Bool)) (place : ℕ) → slice_index_or bound place false ≡ true → Above queue place → Above queue (place + 1)
  above_still queue place taken before at less free = elim (cases_lt at place) [
    | inl earlier ↦ before at earlier free
    | inr here ↦
        let same : place ≡ at = omega (arith, here, less) in
        absurd (false≢true (sym (get_or_from_slice_get bound at false false free) ∙ sym (ap (λ (n : ℕ). slice_index_or bound n false) same) ∙ taken))
  ]

  pub all_spread : (begin queue : List (Vec Bool)) (place : ℕ) → length bound ≡ length choice → place ≤ length choice → length choice ≤ place
      → ((other : Vec Bool) → Contains begin other → Contains queue other) → Above queue place
      → (length choice + 1) * weight queue ≤ (length choice + 1) * weight begin + place * weight_of choice → IsSpread begin queue choice bound
  all_spread begin queue place same few all kept above light = record {
    kept = kept;
    above = λ at free. above at (let within = slice_get_within bound at false free in omega (arith, within, same, all)) free;
    weight = lighter_in_all choice (weight queue) (weight begin) place few light;
  }
