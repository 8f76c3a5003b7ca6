-- The words of an image, and their values.
use Rattle.std.proofs.Common.{◌≡◌, ℕ, zero, suc, ◌+◌, ◌*◌, ◌%◌, ◌<◌, inl, inr, true, false, Some, None, List, [], ◌∷◌, ◌++◌, length, map, refl, sym, ap, ◌∙◌, arith, slice_get}
use Rattle.std.specs.Prelude.{slice_index, ◌==◌, nat_lt, if◌then◌else◌}
use Rattle.std.specs.List.{range_with_len}
use Rattle.std.proofs.lemmas.Bool.{cases_Bool, cases_lt, eqb-true, eq-eqb}
use Rattle.std.proofs.lemmas.Bool.Decides.{nat_tests}
use Rattle.std.proofs.lemmas.List.{get_or_past, map-append}
use Rattle.lines_layout.specs.Lines.{has_word, line_of}
use Rattle.lines_layout.specs.Shapes.{words_from}
use Rattle.pending_images.specs.Images.{image_at, place_from, value_of}

-- the value at a place of a line's block
in_block : (xs : List ℕ) (n i start : ℕ) (rest : List ℕ) → i < n → slice_get (map (slice_index xs) (range_with_len start n) ++ rest) i ≡ Some (slice_index xs (start + i))
in_block xs zero i start rest below = absurd (omega (arith, below))
in_block xs (suc n) zero start rest below = ap (λ (k : ℕ). Some (slice_index xs k)) (omega arith)
in_block xs (suc n) (suc i) start rest below = in_block xs n i (start + 1) rest (omega (arith, below)) ∙ ap (λ (k : ℕ). Some (slice_index xs k)) (omega arith)

behind_block : (xs : List ℕ) (n start j : ℕ) (rest : List ℕ) → slice_get (map (slice_index xs) (range_with_len start n) ++ rest) (n + j) ≡ slice_get rest j
behind_block xs zero start j rest = ap (λ (k : ℕ). slice_get rest k) (omega arith)
behind_block xs (suc n) start j rest =
    let same : suc n + j ≡ suc (n + j) = omega arith in
    ap (λ (k : ℕ). slice_get (map (slice_index xs) (range_with_len start (suc n)) ++ rest) k) same ∙ behind_block xs n (start + 1) j rest

abbrev image_from : ℕ → List ℕ → List ℕ → List ℕ
image_from g shape xs = map (slice_index xs) (words_from g shape)

-- the number of words that lines of which the first has the number g have of a word, 0 before them
abbrev words_on : ℕ → List ℕ → ℕ → ℕ
words_on g [] line = 0
words_on g (n ∷ shape) line = if line == g then n else words_on (g + 1) shape line

first_line : (xs : List ℕ) (g n : ℕ) (shape : List ℕ) → image_from g (n ∷ shape) xs ≡ map (slice_index xs) (range_with_len (8 * g) n) ++ image_from (g + 1) shape xs
first_line xs g n shape = map-append (slice_index xs) (range_with_len (8 * g) n) (words_from (g + 1) shape)

-- a word of an earlier line
none_before : (g line : ℕ) (shape : List ℕ) → line < g → words_on g shape line ≡ 0
none_before g line [] below = refl
none_before g line (n ∷ shape) below =
    let other : (line == g) ≡ false = grind (arith, nat_tests, below) in
    rw other (none_before (g + 1) line shape (omega (arith, below)))

-- the number of a line's words stands at its place in the shape
words_at : (g line : ℕ) (shape : List ℕ) → words_on g shape (g + line) ≡ slice_index shape line
words_at g line [] = refl
words_at g zero (n ∷ shape) =
    let same : (g + 0 == g) ≡ true = eq-eqb (g + 0) g (omega arith) in
    rw same refl
words_at g (suc line) (n ∷ shape) =
    let other : (g + suc line == g) ≡ false = grind (arith, nat_tests) in
    let next : g + suc line ≡ g + 1 + line = omega arith in
    rw other (ap (λ (k : ℕ). words_on (g + 1) shape k) next ∙ words_at (g + 1) line shape)

none_below_zero : (k : ℕ) → nat_lt k 0 ≡ false
none_below_zero k = grind (arith, nat_tests)

-- the value of a word on lines of which the first has the number g
line_value : (xs : List ℕ) (word g : ℕ) (shape : List ℕ) → slice_get (image_from g shape xs) (place_from g shape word) ≡ (if nat_lt (word % 8) (words_on g shape (line_of word)) then Some (slice_index xs word) else None)
line_value xs word g [] = rw (none_below_zero (word % 8)) refl
line_value xs word g (n ∷ shape) =
    ap (λ (ys : List ℕ). slice_get ys (place_from g (n ∷ shape) word)) (first_line xs g n shape) ∙ (
    let rest : List ℕ = image_from (g + 1) shape xs in
    let block : List ℕ = map (slice_index xs) (range_with_len (8 * g) n) in
    elim (cases_Bool (line_of word == g)) [
      | inl on ↦ elim (cases_Bool (nat_lt (word % 8) n)) [
        | inl inside ↦
            let line : line_of word ≡ g = eqb-true (line_of word) g on in
            let below : word % 8 < n = grind (arith, nat_tests, inside) in
            let number : 8 * g + word % 8 ≡ word = omega (arith, line) in
            rw (on, inside) (in_block xs n (word % 8) (8 * g) rest below ∙ ap (λ (k : ℕ). Some (slice_index xs k)) number)
        | inr outside ↦
            let line : line_of word ≡ g = eqb-true (line_of word) g on in
            let none : words_on (g + 1) shape (line_of word) ≡ 0 = none_before (g + 1) (line_of word) shape (omega (arith, line)) in
            let later = line_value xs word (g + 1) shape in
            let nothing : slice_get rest (place_from (g + 1) shape word) ≡ None = later ∙ rw (none, none_below_zero (word % 8)) refl in
            rw (on, outside) (behind_block xs n (8 * g) (place_from (g + 1) shape word) rest ∙ nothing)
      ]
      | inr off ↦ rw off (behind_block xs n (8 * g) (place_from (g + 1) shape word) rest ∙ line_value xs word (g + 1) shape)
    ])

-- the value of a word in an image
pub value_read : (shape xs : List ℕ) (word : ℕ) → value_of shape (image_at shape xs) word ≡ (if has_word shape word then Some (slice_index xs word) else None)
value_read shape xs word =
    let line : 0 + line_of word ≡ line_of word = omega arith in
    let count : words_on 0 shape (line_of word) ≡ slice_index shape (line_of word) = ap (λ (k : ℕ). words_on 0 shape k) (sym line) ∙ words_at 0 (line_of word) shape in
    line_value xs word 0 shape ∙ ap (λ (n : ℕ). if nat_lt (word % 8) n then Some (slice_index xs word) else None) count

-- the value at a place of a line's words
pub word_in_line : (xs : List ℕ) (n i start : ℕ) → i < n → slice_get (map (slice_index xs) (range_with_len start n)) i ≡ Some (slice_index xs (start + i))
word_in_line xs zero i start below = absurd (omega (arith, below))
word_in_line xs (suc n) zero start below = ap (λ (k : ℕ). Some (slice_index xs k)) (omega arith)
word_in_line xs (suc n) (suc i) start below = word_in_line xs n i (start + 1) (omega (arith, below)) ∙ ap (λ (k : ℕ). Some (slice_index xs k)) (omega arith)

-- a word that is there is on one of the lines
pub word_inside : (shape : List ℕ) (word : ℕ) → has_word shape word ≡ true → line_of word < length shape
word_inside shape word there =
    elim (cases_lt (line_of word) (length shape)) [
      | inl lt ↦ lt
      | inr past ↦
          let none : slice_index shape (line_of word) ≡ 0 = get_or_past shape (line_of word) 0 past in
          let below : word % 8 < slice_index shape (line_of word) = grind (arith, nat_tests, there) in
          absurd (omega (arith, none, below))
    ]
