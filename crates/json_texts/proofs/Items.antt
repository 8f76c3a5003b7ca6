-- Lists of values, item by item, and objects, field by field.
use Rattle.std.proofs.Common.{◌≡◌, ◌∙◌, ℕ, ◌+◌, ◌<◌, List, [], ◌∷◌, ◌++◌, length, get_or, drop, take, map, refl, sym, ap, append_assoc}
use Rattle.std.specs.List.{flat_map}
use Rattle.std.proofs.lemmas.List.{at_drop_more, flat_map_more, map-append, take_more}
use Rattle.std.proofs.lemmas.Grind.{common_steps}
use Rattle.serde_json.specs.Data.{Data, Members, item, put}
use Rattle.serde_json.specs.View.{items_of, view}
use Rattle.serde_json.specs.declared.value.Value.{Value}
use Rattle.json_texts.specs.Objects.{Field, IsJsonOf, Tree, json_items, json_of, trees_of, with_fields}

-- one more value
pub one_more : (items new : List Value) (v : Value) (later total : List Data) → new ≡ items ++ v ∷ []
    → map view items ++ view v ∷ later ≡ total → map view new ++ later ≡ total
one_more items new v later total pushed so_far =
    ap (λ vs. map view vs ++ later) pushed ∙ ap (λ ds. ds ++ later) (map-append view items (v ∷ [])) ∙ append_assoc (map view items) (view v ∷ []) later ∙ so_far

-- the value of one more of some things
pub one_more_of : {A : Type 0} (f : A → Tree) (xs : List A) (i : ℕ) (d : A) (items new : List Value) (v : Value) (total : List Data) → i < length xs
    → new ≡ items ++ v ∷ [] → IsJsonOf (f (get_or xs i d)) v → map view items ++ map json_of (map f (drop i xs)) ≡ total
    → map view new ++ map json_of (map f (drop (i + 1) xs)) ≡ total
one_more_of f xs i d items new v total inside pushed is so_far =
    let others = map json_of (map f (drop (i + 1) xs)) in
    let next : map f (drop i xs) ≡ f (get_or xs i d) ∷ map f (drop (i + 1) xs) = at_drop_more (map f) xs i d inside in
    one_more items new v others total pushed
    (ap (λ (e : Data). map view items ++ e ∷ others) is ∙ ap (λ (ts : List Tree). map view items ++ map json_of ts) (sym next) ∙ so_far)

-- the items of a list are those of its trees
pub items_are : (ts : List Tree) → json_items (trees_of ts) ≡ items_of (map json_of ts)
items_are [] = refl
items_are (t ∷ ts) = ap (item (json_of t)) (items_are ts)

-- how a list of values is one of trees
pub ruleset list_steps = (items_are, common_steps)

-- some fields, and then others
pub fields_in_turn : (fields more : List Field) (ms : Members) → with_fields ms (fields ++ more) ≡ with_fields (with_fields ms fields) more
fields_in_turn [] more ms = refl
fields_in_turn (field ∷ fields) more ms = fields_in_turn fields more (put field.0 (json_of field.1) ms)

-- the fields of one more of some things
pub fields_more : {A : Type 0} (f : A → List Field) (xs : List A) (i : ℕ) (d : A) (first before after : Members) → i < length xs
    → before ≡ with_fields first (flat_map f (take i xs)) → after ≡ with_fields before (f (get_or xs i d))
    → after ≡ with_fields first (flat_map f (take (i + 1) xs))
fields_more f xs i d first before after inside so_far one =
    let x = get_or xs i d in
    one ∙ ap (λ ms. with_fields ms (f x)) so_far ∙ sym (fields_in_turn (flat_map f (take i xs)) (f x) first)
    ∙ ap (with_fields first) (flat_map_more f [] (take i xs) x ∙ ap (flat_map f) (sym (take_more xs i d inside)))
