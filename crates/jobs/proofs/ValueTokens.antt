-- One more value of an image.
use Rattle.std.proofs.Common.{◌≡◌, ℕ, Some, None, Result, Ok, Err, List, [], ◌∷◌, ◌++◌, sym, ◌∙◌, ap, refl, append_assoc, append-nil}
use Rattle.outcomes.specs.Outcomes.{◌>>=◌}
use Rattle.text_tokens.specs.Cursors.{Token}
use Rattle.commands.specs.declared.fault.Refused.{Refused}
use Rattle.commands.specs.declared.fault.Refused.TheVariants.{Usage}
use Rattle.jobs.specs.Values.{value_of, values_of}

-- more values in front of those that were read
abbrev pub with_front : List ℕ → Result (List ℕ) Refused → Result (List ℕ) Refused
with_front front (Ok values) = Ok (front ++ values)
with_front front (Err fault) = Err fault

more_values : (front : List ℕ) (value : ℕ) (read : Result (List ℕ) Refused) → with_front front (read >>= λ others. Ok (value ∷ others)) ≡ with_front (front ++ value ∷ []) read
more_values front value (Ok values) = ap (λ (xs : List ℕ). Ok xs) (sym (append_assoc front (value ∷ []) values))
more_values front value (Err fault) = refl

module _ (front : List ℕ) (tokens : List Token) (total : Result (List ℕ) Refused) (so_far : with_front front (values_of tokens) ≡ total) where
  pub at_end : tokens ≡ [] → total ≡ Ok front
  at_end e =
      let one : with_front front (values_of tokens) ≡ Ok front = rw e (ap (λ (xs : List ℕ). Ok xs) (append-nil front)) in
      sym so_far ∙ one

  pub at_bad : (token : Token) (others : List Token) → tokens ≡ token ∷ others → value_of token ≡ None → total ≡ Err Usage
  at_bad token others e none =
      let one : with_front front (values_of tokens) ≡ Err Usage = rw (e, none) refl in
      sym so_far ∙ one

  pub at_value : (token : Token) (others : List Token) (value : ℕ) → tokens ≡ token ∷ others → value_of token ≡ Some value → with_front (front ++ value ∷ []) (values_of others) ≡ total
  at_value token others value e found =
      let one : with_front front (values_of tokens) ≡ with_front front (values_of others >>= λ xs. Ok (value ∷ xs)) = rw (e, found) refl in
      sym (more_values front value (values_of others)) ∙ sym one ∙ so_far

pub ruleset value_steps = (at_end, at_bad, at_value)
