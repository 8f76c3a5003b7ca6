-- Seats that made no call yet.
use Rattle.std.proofs.Common.{◌≡◌, ℕ, ◌+◌, ◌<◌, Some, List, [], ◌∷◌, ◌++◌, length, zero, suc, refl, sym, ◌∙◌, arith, inl, inr, length-append}
use Rattle.std.specs.Prelude.{slice_get, nat_lt}
use Rattle.std.proofs.lemmas.Bool.{cases_Bool}
use Rattle.std.proofs.lemmas.Bool.Decides.{nat_tests}
use Rattle.live.specs.Seats.{Sitting, AreFresh, fresh}

earlier : (seats more : List Sitting) (k : ℕ) → k < length seats → slice_get (seats ++ more) k ≡ slice_get seats k
earlier [] more k low = absurd (omega (arith, low))
earlier (seat ∷ seats) more zero low = refl
earlier (seat ∷ seats) more (suc k) low = earlier seats more k (omega (arith, low))

last : (seats : List Sitting) (seat : Sitting) → slice_get (seats ++ seat ∷ []) (length seats) ≡ Some seat
last [] seat = refl
last (first ∷ seats) seat = last seats seat

pub one_more : (seats : List Sitting) (n : ℕ) → AreFresh seats n → AreFresh (seats ++ fresh n ∷ []) (n + 1)
one_more seats n are = record {
  count = omega (arith, length-append seats (fresh n ∷ []), are.count);
  each = λ k low.
      elim (cases_Bool (nat_lt k n)) [
        | inl before ↦
            let less : k < n = grind (arith, nat_tests, before) in
            earlier seats (fresh n ∷ []) k (omega (arith, less, are.count)) ∙ are.each k less
        | inr not_before ↦
            let is : k ≡ n = grind (arith, nat_tests, not_before, low) in
            let end : k ≡ length seats = is ∙ sym are.count in
            rw (end, last seats (fresh n), sym is ∙ end) refl
      ];
}
