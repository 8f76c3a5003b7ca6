-- The values of words, and the outcomes of schedules, one after another.
use Rattle.std.proofs.Common.{◌≡◌, ℕ, zero, suc, ◌+◌, ◌*◌, List, [], ◌∷◌, ◌++◌, Some, map, take, slice_get, ap, ap₂, add-one, append_assoc, refl, sym, ◌∙◌}
use Rattle.std.specs.Prelude.{option_map}
use Rattle.std.specs.List.{range_with_len}
use Rattle.std.proofs.lemmas.List.FromFn.{map-range_with_len_more}
use Rattle.std.proofs.lemmas.List.{map-append}
use Rattle.lines_layout.specs.Shapes.{words_from}
use Rattle.persist_buffer.specs.State.{Memory}
use Rattle.hunt.specs.declared.observed.WordPair.{WordPair}
use Rattle.hunt.specs.Outcomes.{pair_of}

pub words_next : (m : Memory) (old now : List WordPair) (first n : ℕ) (pair : WordPair) → now ≡ old ++ map (pair_of m) (range_with_len first n) → pair ≡ pair_of m (first + n)
    → now ++ pair ∷ [] ≡ old ++ map (pair_of m) (range_with_len first (n + 1))
words_next m old now first n pair is one =
    ap₂ (λ (ys : List WordPair) (y : WordPair). ys ++ y ∷ []) is one ∙ append_assoc old (map (pair_of m) (range_with_len first n)) (pair_of m (first + n) ∷ [])
    ∙ ap (λ (ys : List WordPair). old ++ ys) (sym (map-range_with_len_more (pair_of m) first n (first + n) refl))

-- the words of one more line
pub line_over : (m : Memory) (now : List WordPair) (line n : ℕ) (shape rest : List ℕ) → rest ≡ n ∷ shape
    → (now ++ map (pair_of m) (range_with_len (8 * line) n)) ++ map (pair_of m) (words_from (line + 1) shape) ≡ now ++ map (pair_of m) (words_from line rest)
line_over m now line n shape rest is =
    append_assoc now (map (pair_of m) (range_with_len (8 * line) n)) (map (pair_of m) (words_from (line + 1) shape))
    ∙ ap (λ (ys : List WordPair). now ++ ys) (sym (map-append (pair_of m) (range_with_len (8 * line) n) (words_from (line + 1) shape)) ∙ ap (λ (r : List ℕ). map (pair_of m) (words_from line r)) (sym is))

-- a list of what a function gives, one item further
pub given_next : {A B : Type 0} (f : A → B) (xs : List A) (p : ℕ) (y : B) → option_map f (slice_get xs p) ≡ Some y → map f (take (p + 1) xs) ≡ map f (take p xs) ++ y ∷ []
given_next {A = A} {B = B} f xs p y e = ap (λ n. map f (take n xs)) (add-one p) ∙ by xs p e
  where
    by : (xs : List A) (p : ℕ) → option_map f (slice_get xs p) ≡ Some y → map f (take (suc p) xs) ≡ map f (take p xs) ++ y ∷ []
    by [] p e = absurd (cc e)
    by (x ∷ xs) zero e = let is : f x ≡ y = cc e in ap (λ z. z ∷ []) is
    by (x ∷ xs) (suc p) e = ap (λ l. f x ∷ l) (by xs p e)
