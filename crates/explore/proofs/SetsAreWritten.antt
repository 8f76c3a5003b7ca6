-- What each line may hold is written one line after another.
use Rattle.std.proofs.Common.{◌≡◌, ℕ, zero, suc, ◌+◌, ◌*◌, ◌<◌, List, [], ◌∷◌, ◌++◌, drop, length, map, refl, sym, ap, ◌∙◌, arith, append_assoc, append-nil, drop-cons}
use Rattle.std.proofs.lemmas.List.{map-append}
use Rattle.std.specs.Prelude.{slice_index, slice_index_or}
use Rattle.std.specs.List.{range_with_len}
use Rattle.lines_layout.specs.Shapes.{words_from}
use Rattle.persist_buffer.specs.State.{Memory}
use Rattle.explore.specs.Codes.{code_of, coded}
use Rattle.explore.specs.Keys.{joined, line_key, lines_key, none_key}
use Rattle.explore.proofs.CodesTell.{coded_append}
use Rattle.explore.proofs.KeysAreWritten.{coded_more}

-- ---- words

words_more : (f : ℕ → ℕ) (first n : ℕ) → map f (range_with_len first n) ++ f (first + n) ∷ [] ≡ map f (range_with_len first (suc n))
words_more f first zero = let same : first + zero ≡ first = omega arith in ap (λ (word : ℕ). f word ∷ []) same
words_more f first (suc n) =
    let same : first + suc n ≡ (first + 1) + n = omega arith in
    (λ k. f first ∷ (map f (range_with_len (first + 1) n) ++ f (same k) ∷ [])) ∙ ap (λ (xs : List ℕ). f first ∷ xs) (words_more f (first + 1) n)

pub coded_words_next : (f : ℕ → ℕ) (old now : List ℕ) (first n value : ℕ) → now ≡ old ++ coded (map f (range_with_len first n)) → value ≡ f (first + n)
    → now ++ code_of value ≡ old ++ coded (map f (range_with_len first (n + 1)))
coded_words_next f old now first n value is one =
    let values = map f (range_with_len first n) in
    let next : suc n ≡ n + 1 = omega arith in
    ap (λ (ys : List ℕ). ys ++ code_of value) is ∙ append_assoc old (coded values) (code_of value)
    ∙ ap (λ (ys : List ℕ). old ++ ys)
    (ap (λ (ys : List ℕ). coded values ++ ys) (sym (append-nil (code_of value))) ∙ sym (coded_append values (value ∷ []))
    ∙ ap coded (ap (λ (v : ℕ). values ++ v ∷ []) one ∙ words_more f first n ∙ ap (λ (k : ℕ). map f (range_with_len first k)) next))

-- ---- lines

-- the numbers of one more line
over_lines : (one : ℕ → ℕ → List ℕ) (all : ℕ → List ℕ → List ℕ) → ((g n : ℕ) (rest : List ℕ) → one g n ++ all (g + 1) rest ≡ all g (n ∷ rest))
    → (shape was now bytes : List ℕ) (line n : ℕ) → line < length shape → n ≡ slice_index shape line → now ≡ was ++ coded (one line n)
    → was ++ coded (all line (drop line shape)) ≡ bytes → now ++ coded (all (line + 1) (drop (line + 1) shape)) ≡ bytes
over_lines one all each shape was now bytes line n within count is before =
    let next : line + 1 ≡ suc line = omega arith in
    let rest : drop line shape ≡ n ∷ drop (line + 1) shape = drop-cons shape line 0 within ∙ (λ k. sym count k ∷ drop (sym next k) shape) in
    coded_more was now bytes (one line n) (all (line + 1) (drop (line + 1) shape)) (all line (drop line shape)) is (each line n (drop (line + 1) shape) ∙ ap (all line) (sym rest)) before

pub words_line_next : (f : ℕ → ℕ) (shape was now bytes : List ℕ) (line n : ℕ) → line < length shape → n ≡ slice_index shape line → now ≡ was ++ coded (map f (range_with_len (8 * line) n))
    → was ++ coded (map f (words_from line (drop line shape))) ≡ bytes → now ++ coded (map f (words_from (line + 1) (drop (line + 1) shape))) ≡ bytes
words_line_next f = over_lines (λ g n. map f (range_with_len (8 * g) n)) (λ g shape. map f (words_from g shape)) (λ g n rest. sym (map-append f (range_with_len (8 * g) n) (words_from (g + 1) rest)))

pub lines_next : (m : Memory) (shape was now bytes : List ℕ) (line n : ℕ) → line < length shape → n ≡ slice_index shape line → now ≡ was ++ coded (line_key m line n)
    → was ++ coded (lines_key m line (drop line shape)) ≡ bytes → now ++ coded (lines_key m (line + 1) (drop (line + 1) shape)) ≡ bytes
lines_next m = over_lines (line_key m) (lines_key m) (λ g n rest. refl)

none_bytes : 0 ∷ [] ≡ coded (0 ∷ [])
unfolding code_of
none_bytes = refl

pub none_next : (shape was now bytes : List ℕ) (line : ℕ) → line < length shape → now ≡ was ++ 0 ∷ []
    → was ++ coded (none_key (drop line shape)) ≡ bytes → now ++ coded (none_key (drop (line + 1) shape)) ≡ bytes
none_next shape was now bytes line within is before =
    over_lines (λ g n. 0 ∷ []) (λ g lines. none_key lines) (λ g n rest. refl) shape was now bytes line (slice_index shape line) within refl (is ∙ ap (λ (xs : List ℕ). was ++ xs) none_bytes) before

-- ---- lists

split_lists : (xs : List (List ℕ)) (i : ℕ) (x : List ℕ) → i < length xs → x ≡ slice_index_or xs i x → drop i xs ≡ x ∷ drop (suc i) xs
split_lists [] i x within same = absurd (omega (arith, within))
split_lists (y ∷ xs) zero x within same = ap (λ (z : List ℕ). z ∷ xs) (sym same)
split_lists (y ∷ xs) (suc i) x within same = split_lists xs i x (omega (arith, within)) same

pub lists_next : (xs : List (List ℕ)) (i : ℕ) (x was now bytes : List ℕ) → i < length xs → x ≡ slice_index_or xs i x → now ≡ was ++ coded x → was ++ coded (joined (drop i xs)) ≡ bytes
    → now ++ coded (joined (drop (i + 1) xs)) ≡ bytes
lists_next xs i x was now bytes within same is before =
    let next : i + 1 ≡ suc i = omega arith in
    ap (λ (n : ℕ). now ++ coded (joined (drop n xs))) next
    ∙ coded_more was now bytes x (joined (drop (suc i) xs)) (joined (drop i xs)) is (sym (ap joined (split_lists xs i x within same))) before
