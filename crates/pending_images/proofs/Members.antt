-- Members of a list with a first item, and tests of all members.
use Rattle.std.proofs.Common.{◌≡◌, ◌<◌, Bool, true, List, [], ◌∷◌, ◌⊎◌, inl, inr, refl, subst, arith}
use Rattle.std.specs.List.{Contains, list_all}
use Rattle.std.proofs.lemmas.Bool.{and_parts}
use Rattle.std.proofs.lemmas.List.Elements.{Contains-append_left, Contains-append_right, Contains-push, Contains-push_cases, Contains-append_cases}

module _ {Item : Type 0} where
  pub first_has : (x : Item) (xs : List Item) → Contains (x ∷ xs) x
  first_has x xs = Contains-append_left (x ∷ []) xs x (Contains-push [] x)

  pub later_has : (x : Item) (xs : List Item) (z : Item) → Contains xs z → Contains (x ∷ xs) z
  later_has x xs z h = Contains-append_right (x ∷ []) xs z h

  pub none_has : (P : Type 0) (z : Item) → Contains [] z → P
  none_has P z h = absurd (let k : h.0 < 0 = h.1 in omega arith)

  pub has_cases : (x : Item) (xs : List Item) (z : Item) → Contains (x ∷ xs) z → (x ≡ z) ⊎ Contains xs z
  has_cases x xs z h =
      elim (Contains-append_cases (x ∷ []) xs z h) [
        | inl here ↦ elim (Contains-push_cases [] x z here) [ inl none ↦ none_has _ z none | inr is ↦ inl is ]
        | inr there ↦ inr there
      ]

  -- a test that all pass, and one that each passes
  pub each_passes : (p : Item → Bool) (xs : List Item) → list_all p xs ≡ true → (x : Item) → Contains xs x → p x ≡ true
  each_passes p [] all x h = none_has _ x h
  each_passes p (y ∷ ys) all x h =
      let parts = and_parts (p y) (list_all p ys) all in
      elim (has_cases y ys x h) [
        | inl is ↦ subst (λ (z : Item). p z ≡ true) is parts.0
        | inr there ↦ each_passes p ys parts.1 x there
      ]

  pub all_pass : (p : Item → Bool) (xs : List Item) → ((x : Item) → Contains xs x → p x ≡ true) → list_all p xs ≡ true
  all_pass p [] each = refl
  all_pass p (y ∷ ys) each =
      let first = each y (first_has y ys) in
      let rest = all_pass p ys (λ x h. each x (later_has y ys x h)) in
      rw first rest
