-- What takes more than a choice.
use Rattle.std.proofs.Common.{◌≡◌, ◌⊎◌, ℕ, zero, suc, ◌+◌, ◌<◌, Bool, true, false, not, ◌||◌, Some, List, [], ◌∷◌, length, refl, ap, sym, ◌∙◌, inl, inr, arith}
use Rattle.std.specs.Prelude.{slice_get}
use Rattle.std.specs.List.{All}
use Rattle.std.proofs.lemmas.Bool.{and_from, and_parts, false≢true}
use Rattle.std.proofs.lemmas.List.Elements.{All-head, All-tail}
use Rattle.std.proofs.lemmas.List.Sums.{sum_by-cons}
use Rattle.choices.specs.Choices.{cost_of, is_within, picked, with_one}

pub within_itself : (choice : List Bool) → is_within choice choice ≡ true
within_itself [] = refl
within_itself (true ∷ choice) = within_itself choice
within_itself (false ∷ choice) = within_itself choice

one_longer : (m n : ℕ) → suc m ≡ suc n → m ≡ n
one_longer m n is = omega (arith, is)

no_end : {A : Type 0} (n : ℕ) → zero ≡ suc n → A
no_end n is = absurd (omega (arith, is))

pub within_chain : (a b c : List Bool) → length a ≡ length b → length b ≡ length c → is_within a b ≡ true → is_within b c ≡ true → is_within a c ≡ true
within_chain [] b c s t p q = refl
within_chain (x ∷ a) [] c s t p q = no_end (length a) (sym s)
within_chain (x ∷ a) (y ∷ b) [] s t p q = no_end (length b) (sym t)
within_chain (false ∷ a) (y ∷ b) (z ∷ c) s t p q =
    within_chain a b c (one_longer (length a) (length b) s) (one_longer (length b) (length c) t) (rest false y a b p) (rest y z b c q)
  where
    rest : (u v : Bool) (us vs : List Bool) → is_within (u ∷ us) (v ∷ vs) ≡ true → is_within us vs ≡ true
    rest u v us vs is = (and_parts (not u || v) (is_within us vs) is).1
within_chain (true ∷ a) (true ∷ b) (true ∷ c) s t p q = within_chain a b c (one_longer (length a) (length b) s) (one_longer (length b) (length c) t) p q
within_chain (true ∷ a) (true ∷ b) (false ∷ c) s t p q = absurd (false≢true q)
within_chain (true ∷ a) (false ∷ b) c s t p q = absurd (false≢true p)

-- Each of two choices takes what the other takes, so they are the same.
pub same_within : (a b : List Bool) → length a ≡ length b → is_within a b ≡ true → is_within b a ≡ true → a ≡ b
same_within [] [] s p q = refl
same_within [] (y ∷ b) s p q = no_end (length b) s
same_within (x ∷ a) [] s p q = no_end (length a) (sym s)
same_within (true ∷ a) (true ∷ b) s p q = ap (λ (zs : List Bool). true ∷ zs) (same_within a b (one_longer (length a) (length b) s) p q)
same_within (true ∷ a) (false ∷ b) s p q = absurd (false≢true p)
same_within (false ∷ a) (true ∷ b) s p q = absurd (false≢true q)
same_within (false ∷ a) (false ∷ b) s p q = ap (λ (zs : List Bool). false ∷ zs) (same_within a b (one_longer (length a) (length b) s) p q)

-- What takes all that a choice takes is within a bound, or it takes one thing more that the bound does not take.
abbrev pub TakesOneMore : List Bool → List Bool → List Bool → Type 0
TakesOneMore choice bound more = (place : ℕ) × (slice_get bound place ≡ Some false) × (is_within (with_one place choice) more ≡ true)

further : (x y z : Bool) (choice bound more : List Bool) → (not x || z) ≡ true → TakesOneMore choice bound more → TakesOneMore (x ∷ choice) (y ∷ bound) (z ∷ more)
further x y z choice bound more here (place, free, within) =
    (suc place, free, and_from (not x || z) (is_within (with_one place choice) more) here within)

pub within_or_more : (choice bound more : List Bool) → length bound ≡ length choice → length more ≡ length choice → is_within choice more ≡ true
    → (is_within more bound ≡ true) ⊎ TakesOneMore choice bound more
within_or_more [] bound [] s t is = inl refl
within_or_more [] bound (z ∷ more) s t is = no_end (length more) (sym t)
within_or_more (x ∷ choice) [] more s t is = no_end (length choice) s
within_or_more (x ∷ choice) (y ∷ bound) [] s t is = no_end (length choice) t
within_or_more (x ∷ choice) (y ∷ bound) (z ∷ more) s t is =
    let parts = and_parts (not x || z) (is_within choice more) is in
    let rest = within_or_more choice bound more (one_longer (length bound) (length choice) s) (one_longer (length more) (length choice) t) parts.1 in
    here x y z parts.0 rest parts.1
  where
    here : (x y z : Bool) → (not x || z) ≡ true → (is_within more bound ≡ true) ⊎ TakesOneMore choice bound more → is_within choice more ≡ true
        → (is_within (z ∷ more) (y ∷ bound) ≡ true) ⊎ TakesOneMore (x ∷ choice) (y ∷ bound) (z ∷ more)
    here x y z first (inr later) within = inr (further x y z choice bound more first later)
    here x true true first (inl within_bound) within = inl within_bound
    here x y false first (inl within_bound) within = inl within_bound
    here x false true first (inl within_bound) within = inr (zero, refl, within)

-- ---- what it costs

module _ (costs : List ℕ) where
  -- each thing costs something
  abbrev pub AllCost : Type 0
  AllCost = All (λ cost. 0 < cost) costs

tail_costs : (cost : ℕ) (costs : List ℕ) → AllCost (cost ∷ costs) → AllCost costs
tail_costs cost costs all = All-tail (λ c. 0 < c) cost costs all

taken_cost : (cost : ℕ) (costs : List ℕ) (choice : List Bool) → cost_of (cost ∷ costs) (true ∷ choice) ≡ cost + cost_of costs choice
taken_cost cost costs choice = sum_by-cons (λ (c : ℕ). c) cost (picked choice costs)

-- What takes more costs more.
pub costs_more : (costs : List ℕ) (less more : List Bool) → AllCost costs → length less ≡ length costs → length more ≡ length costs → is_within less more ≡ true
    → (less ≡ more) ⊎ (cost_of costs less < cost_of costs more)
costs_more costs [] [] all s t is = inl refl
costs_more costs [] (y ∷ more) all s t is = no_end (length more) (s ∙ sym t)
costs_more costs (x ∷ less) [] all s t is = no_end (length less) (t ∙ sym s)
costs_more [] (x ∷ less) (y ∷ more) all s t is = no_end (length less) (sym s)
costs_more (cost ∷ costs) (true ∷ less) (false ∷ more) all s t is = absurd (false≢true is)
costs_more (cost ∷ costs) (false ∷ less) (false ∷ more) all s t is =
    elim (costs_more costs less more (tail_costs cost costs all) (one_longer (length less) (length costs) s) (one_longer (length more) (length costs) t) is) [
      | inl same ↦ inl (ap (λ (zs : List Bool). false ∷ zs) same)
      | inr dearer ↦ inr dearer
    ]
costs_more (cost ∷ costs) (true ∷ less) (true ∷ more) all s t is =
    elim (costs_more costs less more (tail_costs cost costs all) (one_longer (length less) (length costs) s) (one_longer (length more) (length costs) t) is) [
      | inl same ↦ inl (ap (λ (zs : List Bool). true ∷ zs) same)
      | inr dearer ↦ inr (omega (arith, dearer, taken_cost cost costs less, taken_cost cost costs more))
    ]
costs_more (cost ∷ costs) (false ∷ less) (true ∷ more) all s t is =
    let some : 0 < cost = All-head (λ c. 0 < c) cost costs all in
    elim (costs_more costs less more (tail_costs cost costs all) (one_longer (length less) (length costs) s) (one_longer (length more) (length costs) t) is) [
      | inl same ↦ inr (omega (arith, some, taken_cost cost costs more, ap (λ (zs : List Bool). cost_of costs zs) same))
      | inr dearer ↦ inr (omega (arith, dearer, some, taken_cost cost costs more))
    ]
