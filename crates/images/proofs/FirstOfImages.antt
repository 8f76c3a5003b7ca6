-- The first of some items that pass a test, item by item.
use Rattle.std.proofs.Common.{◌≡◌, ◌∙◌, ℕ, ◌+◌, ◌<◌, Bool, Some, List, ◌∷◌, length, drop, drop-cons, get_or, find, cond, add-one, sym, ap, ap₂}

pub first_from : {X : Type 0} (test : X → Bool) (xs : List X) (i : ℕ) (x : X) → i < length xs → x ≡ get_or xs i x → find test (drop i xs) ≡ cond (test x) (Some x) (find test (drop (i + 1) xs))
first_from test xs i x less is = ap (find test) (drop-cons xs i x less ∙ ap₂ (λ y ys. y ∷ ys) (sym is) (ap (λ (n : ℕ). drop n xs) (sym (add-one i))))
