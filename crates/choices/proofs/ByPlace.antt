-- What comes of one thing more, where the rest is still to come.
use Rattle.std.proofs.Common.{◌≡◌, ℕ, ◌+◌, ◌<◌, Bool, true, false, cond, not, ◌&&◌, ◌||◌, List, ◌∷◌, length, drop, get_or, slice_index_or, refl, ap, sym, subst, ◌∙◌, arith, add-one}
use Rattle.std.proofs.Math.Seq.{drop-cons}
use Rattle.std.proofs.lemmas.Bool.{false≢true}
use Rattle.std.proofs.lemmas.List.Sums.{sum_by-cons}
use Rattle.choices.specs.Choices.{cost_of, count_of, is_within, picked}

split_at : {A : Type 0} (xs : List A) (i : ℕ) (d : A) → i < length xs → drop i xs ≡ get_or xs i d ∷ drop (i + 1) xs
split_at xs i d within = drop-cons xs i d within ∙ ap (λ (n : ℕ). get_or xs i d ∷ drop n xs) (sym (add-one i))

same_test : (a b rest : Bool) → (not a || b) ≡ true → ((not a || b) && rest) ≡ rest
same_test a b rest is = ap (λ (c : Bool). c && rest) is

module _ (xs ys : List Bool) (i : ℕ) (here : i < length xs) (same : length xs ≡ length ys) where
  there : i < length ys
  there = subst (λ (n : ℕ). i < n) same here

  abbrev a : Bool
  a = slice_index_or xs i false

  abbrev b : Bool
  b = slice_index_or ys i false

  split_within : is_within (drop i xs) (drop i ys) ≡ ((not a || b) && is_within (drop (i + 1) xs) (drop (i + 1) ys))
  split_within = ap (λ (zs : List Bool). is_within zs (drop i ys)) (split_at xs i false here) ∙ ap (λ (zs : List Bool). is_within (a ∷ drop (i + 1) xs) zs) (split_at ys i false there)

  from_left : (x y : Bool) → x ≡ false → (not x || y) ≡ true
  from_left false y is = refl
  from_left true y is = absurd (false≢true (sym is))

  from_right : (x y : Bool) → y ≡ true → (not x || y) ≡ true
  from_right false y is = refl
  from_right true y is = is

  pub within_not_taken : a ≡ false → is_within (drop (i + 1) xs) (drop (i + 1) ys) ≡ is_within (drop i xs) (drop i ys)
  within_not_taken is = sym (split_within ∙ same_test a b (is_within (drop (i + 1) xs) (drop (i + 1) ys)) (from_left a b is))

  pub within_both_taken : b ≡ true → is_within (drop (i + 1) xs) (drop (i + 1) ys) ≡ is_within (drop i xs) (drop i ys)
  within_both_taken is = sym (split_within ∙ same_test a b (is_within (drop (i + 1) xs) (drop (i + 1) ys)) (from_right a b is))

picked_cost : (taken : Bool) (cost : ℕ) (costs : List ℕ) (choice : List Bool) → cost_of (cost ∷ costs) (taken ∷ choice) ≡ cond taken cost 0 + cost_of costs choice
picked_cost true cost costs choice = sum_by-cons (λ (c : ℕ). c) cost (picked choice costs)
picked_cost false cost costs choice = omega arith

picked_count : (taken : Bool) (cost : ℕ) (costs : List ℕ) (choice : List Bool) → count_of (cost ∷ costs) (taken ∷ choice) ≡ cond taken 1 0 + count_of costs choice
picked_count true cost costs choice = omega arith
picked_count false cost costs choice = omega arith

module _ (costs : List ℕ) (choice : List Bool) (i : ℕ) (here : i < length costs) (same : length choice ≡ length costs) where
  abbrev cost : ℕ
  cost = slice_index_or costs i 0

  abbrev taken : Bool
  taken = slice_index_or choice i false

  choice_there : i < length choice
  choice_there = subst (λ (n : ℕ). i < n) (sym same) here

  pub cost_here : cost_of (drop i costs) (drop i choice) ≡ cond taken cost 0 + cost_of (drop (i + 1) costs) (drop (i + 1) choice)
  cost_here =
      ap (λ (zs : List ℕ). cost_of zs (drop i choice)) (split_at costs i 0 here) ∙ ap (λ (zs : List Bool). cost_of (cost ∷ drop (i + 1) costs) zs) (split_at choice i false choice_there)
      ∙ picked_cost taken cost (drop (i + 1) costs) (drop (i + 1) choice)

  pub count_here : count_of (drop i costs) (drop i choice) ≡ cond taken 1 0 + count_of (drop (i + 1) costs) (drop (i + 1) choice)
  count_here =
      ap (λ (zs : List ℕ). count_of zs (drop i choice)) (split_at costs i 0 here) ∙ ap (λ (zs : List Bool). count_of (cost ∷ drop (i + 1) costs) zs) (split_at choice i false choice_there)
      ∙ picked_count taken cost (drop (i + 1) costs) (drop (i + 1) choice)

  amount : (t : Bool) (n rest all : ℕ) → t ≡ true → all ≡ cond t n 0 + rest → all ≡ n + rest
  amount true n rest all is h = h
  amount false n rest all is h = absurd (false≢true is)

  no_amount : (t : Bool) (n rest all : ℕ) → t ≡ false → all ≡ cond t n 0 + rest → all ≡ rest
  no_amount false n rest all is h = h ∙ omega arith
  no_amount true n rest all is h = absurd (false≢true (sym is))

  pub cost_taken : taken ≡ true → cost_of (drop i costs) (drop i choice) ≡ cost + cost_of (drop (i + 1) costs) (drop (i + 1) choice)
  cost_taken is = amount taken cost (cost_of (drop (i + 1) costs) (drop (i + 1) choice)) (cost_of (drop i costs) (drop i choice)) is cost_here

  pub cost_left : taken ≡ false → cost_of (drop i costs) (drop i choice) ≡ cost_of (drop (i + 1) costs) (drop (i + 1) choice)
  cost_left is = no_amount taken cost (cost_of (drop (i + 1) costs) (drop (i + 1) choice)) (cost_of (drop i costs) (drop i choice)) is cost_here

  pub count_taken : taken ≡ true → count_of (drop i costs) (drop i choice) ≡ 1 + count_of (drop (i + 1) costs) (drop (i + 1) choice)
  count_taken is = amount taken 1 (count_of (drop (i + 1) costs) (drop (i + 1) choice)) (count_of (drop i costs) (drop i choice)) is count_here

  pub count_left : taken ≡ false → count_of (drop i costs) (drop i choice) ≡ count_of (drop (i + 1) costs) (drop (i + 1) choice)
  count_left is = no_amount taken 1 (count_of (drop (i + 1) costs) (drop (i + 1) choice)) (count_of (drop i costs) (drop i choice)) is count_here
