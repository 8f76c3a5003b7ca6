-- A count is a number, or a number of millions and an M behind it: never both.
use Rattle.std.proofs.Common.{◌≡◌, ◌*◌, ℕ, Bool, true, false, inl, inr, Option, None, Some, List, [], ◌∷◌, ◌++◌, refl, sym, ◌∙◌, subst, arith, codes, nat_lt}
use Rattle.std.proofs.lemmas.Bool.Decides.{nat_tests}
use Rattle.std.specs.Prelude.{if◌then◌else◌}
use Rattle.std.specs.Str.Parse.{AllDigits}
use Rattle.px86.specs.CommandLines.{Finds, Spells, SpellsCount, million, millions_of}

-- an M is no digit
no_digits : (front : List ℕ) → AllDigits 10 (front ++ codes "M") → ⊥
no_digits [] is = absurd (omega (arith, is.0))
no_digits (b ∷ front) is = no_digits front is.1

-- what ends with an M is no number
no_number_so : (bound : ℕ) (front : List ℕ) (n : ℕ) → Spells bound (front ++ codes "M") n → ⊥
no_number_so bound front n is = no_digits front is.0.1

same_front : (one other : List ℕ) → one ++ codes "M" ≡ other ++ codes "M" → one ≡ other
same_front [] [] is = refl
same_front [] (b ∷ []) is = absurd cc
same_front [] (b ∷ c ∷ other) is = absurd cc
same_front (b ∷ []) [] is = absurd cc
same_front (b ∷ c ∷ one) [] is = absurd cc
same_front (b ∷ one) (c ∷ other) is = let same = same_front one other cc in cc

-- with an M at its end
pub with_millions : (bound : ℕ) (text front : List ℕ) (found : Option ℕ) → text ≡ front ++ codes "M" → Finds (Spells bound front) found → Finds (SpellsCount bound text) (millions_of bound found)
with_millions bound text front None is none = λ n count. by n count
  where
    by : (n : ℕ) → SpellsCount bound text n → ⊥
    by n (inl number) = no_number_so bound front n (subst (λ (t : List ℕ). Spells bound t n) is number)
    by n (inr (digits, millions, ends, spelt, value, within)) =
        none millions (subst (λ (t : List ℕ). Spells bound t millions) (same_front digits front (sym ends ∙ is)) spelt)
with_millions bound text front (Some m) is found = by (nat_lt (m * million) bound) refl
  where
    no : nat_lt (m * million) bound ≡ false → (n : ℕ) → SpellsCount bound text n → ⊥
    no above n (inl number) = no_number_so bound front n (subst (λ (t : List ℕ). Spells bound t n) is number)
    no above n (inr (digits, millions, ends, spelt, value, within)) =
        let same : digits ≡ front = same_front digits front (sym ends ∙ is) in
        let again : Spells bound front millions = subst (λ (t : List ℕ). Spells bound t millions) same spelt in
        let one : millions ≡ m = sym again.1 ∙ found.1 in
        absurd (grind (arith, nat_tests, above, value, one, within))

    by : (below : Bool) → nat_lt (m * million) bound ≡ below → Finds (SpellsCount bound text) (if below then Some (m * million) else None)
    by true below = inr (front, m, is, found, refl, grind (arith, nat_tests, below))
    by false above = no above

-- with none
pub without_millions : (bound : ℕ) (text : List ℕ) (found : Option ℕ) → ((front : List ℕ) → text ≡ front ++ codes "M" → ⊥) → Finds (Spells bound text) found → Finds (SpellsCount bound text) found
without_millions bound text None other none = λ n count. by n count
  where
    by : (n : ℕ) → SpellsCount bound text n → ⊥
    by n (inl number) = none n number
    by n (inr (digits, millions, ends, spelt, value, within)) = other digits ends
without_millions bound text (Some n) other found = inl found
