-- A loop that makes one item for each item of a list.
use Rattle.std.proofs.Common.{◌≡◌, ◌∙◌, ap, ap₂, sym, ℕ, ◌+◌, ◌<◌, List, [], ◌∷◌, ◌++◌, map, take, length, get_or}
use Rattle.std.proofs.lemmas.List.{map-append, take_more}

-- what is shown of the items made so far, with one more
pub one_more : {A B C : Type 0} (f : A → C) (g : B → C) (old now : List A) (x : A) (ys : List B) (i : ℕ) (y : B) → now ≡ old ++ x ∷ [] → map f old ≡ map g (take i ys)
    → i < length ys → y ≡ get_or ys i y → f x ≡ g y → map f now ≡ map g (take (i + 1) ys)
one_more f g old now x ys i y is so_far within there same =
    ap (map f) is ∙ map-append f old (x ∷ []) ∙ ap₂ (λ a b. a ++ b ∷ []) so_far same
    ∙ sym (ap (map g) (take_more ys i y within) ∙ map-append g (take i ys) _ ∙ ap (λ z. map g (take i ys) ++ g z ∷ []) (sym there))
