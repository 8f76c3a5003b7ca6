-- Texts of items and of named values, one after another.
use Rattle.std.proofs.Common.{◌≡◌, ℕ, ◌+◌, ◌<◌, List, [], ◌∷◌, ◌++◌, length, drop, get_or, refl, sym, ap, ap₂, ◌∙◌, append_assoc, arith}
use Rattle.std.specs.List.{flat_map}
use Rattle.std.proofs.lemmas.List.{at_drop_more}
use Rattle.std.proofs.lemmas.List.Concat.{flat_map-cons}
use Rattle.lines_layout.specs.Layouts.{NamedLines}
use Rattle.lines_layout.specs.Names.{Text}
use Rattle.commands.specs.OutcomeTexts.{named_texts, names_of}

-- one more of what is told of each item
pub one_more : {A : Type 0} (f : A → Text) (xs : List A) (i : ℕ) (d : A) (text new total : Text) → i < length xs
    → text ++ flat_map f (drop i xs) ≡ total → new ≡ text ++ f (get_or xs i d) → new ++ flat_map f (drop (i + 1) xs) ≡ total
one_more f xs i d text new total inside so_far one =
    let rest : flat_map f (drop i xs) ≡ f (get_or xs i d) ++ flat_map f (drop (i + 1) xs) = at_drop_more (flat_map f) xs i d inside ∙ flat_map-cons f (get_or xs i d) (drop (i + 1) xs) in
    ap (λ (t : Text). t ++ flat_map f (drop (i + 1) xs)) one ∙ append_assoc text (f (get_or xs i d)) (flat_map f (drop (i + 1) xs)) ∙ ap (λ (t : Text). text ++ t) (sym rest) ∙ so_far

names_join : {A : Type 0} (f : Text → A → Text) (names more : List Text) (values : List A)
    → named_texts f (names ++ more) values ≡ named_texts f names values ++ named_texts f more (drop (length names) values)
names_join f [] more values = refl
names_join f (name ∷ names) [] [] = refl
names_join f (name ∷ names) (other ∷ more) [] = refl
names_join f (name ∷ names) more (value ∷ values) =
    ap (λ t. f name value ++ t) (names_join f names more values) ∙ sym (append_assoc (f name value) (named_texts f names values) (named_texts f more (drop (length names) values)))

-- the words from the next line on
pub lines_more : {A : Type 0} (f : Text → A → Text) (items layout : NamedLines) (i : ℕ) (line names same : List Text) (rest behind : List A) (text new total : Text) → items ≡ layout → i < length items
    → line ≡ get_or items i line → names ≡ line → same ≡ line → behind ≡ drop (length same) rest → new ≡ text ++ named_texts f names rest
    → text ++ named_texts f (names_of (drop i layout)) rest ≡ total → new ++ named_texts f (names_of (drop (i + 1) layout)) behind ≡ total
lines_more {A = A} f items layout i line names same rest behind text new total is inside here named again left one so_far =
    let more = names_of (drop (i + 1) layout) in
    let there = ap length is in
    let whole : names_of (drop i layout) ≡ line ++ more =
    at_drop_more names_of layout i line (omega (arith, inside, there)) ∙ flat_map-cons (λ (n : List Text). n) (get_or layout i line) (drop (i + 1) layout)
    ∙ ap (λ (n : List Text). n ++ more) (sym (here ∙ ap (λ (ls : NamedLines). get_or ls i line) is)) in
    ap₂ (λ (t : Text) (values : List A). t ++ named_texts f more values) (one ∙ ap (λ (n : List Text). text ++ named_texts f n rest) named) (left ∙ ap (λ (n : List Text). drop (length n) rest) again)
    ∙ append_assoc text (named_texts f line rest) (named_texts f more (drop (length line) rest))
    ∙ ap (λ (t : Text). text ++ t) (sym (names_join f line more rest) ∙ ap (λ (n : List Text). named_texts f n rest) (sym whole)) ∙ so_far
