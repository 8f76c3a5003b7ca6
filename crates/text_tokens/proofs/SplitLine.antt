-- The first line of a text.
use Rattle.std.proofs.Common.{◌≡◌, ℕ, suc, ◌+◌, ◌-◌, ◌<◌, ◌≤◌, List, [], ◌∷◌, length, take, drop, refl, sym, ◌∙◌, ap, inl, inr, arith, add-one, one-add, length-drop}
use Rattle.std.proofs.lemmas.Bool.{cases_Bool}
use Rattle.std.proofs.lemmas.List.{drop-drop, take_all}
use Rattle.std.specs.List.{prefix_len}
use Rattle.text_tokens.specs.Text.{is_line_byte, onto_first, lines_of}

pub first_line : (b : ℕ) (text : List ℕ) →
    lines_of (b ∷ text) ≡ take (prefix_len is_line_byte (b ∷ text)) (b ∷ text) ∷ lines_of (drop (suc (prefix_len is_line_byte (b ∷ text))) (b ∷ text))
unfolding lines_of
first_line b [] =
    elim (cases_Bool (is_line_byte b)) [
      | inl h ↦ rw h refl
      | inr h ↦ rw h refl
    ]
first_line b (c ∷ text) =
    elim (cases_Bool (is_line_byte b)) [
      | inl h ↦
          let n = prefix_len is_line_byte (c ∷ text) in
          let left : lines_of (b ∷ c ∷ text) ≡ onto_first b (lines_of (c ∷ text)) = rw h refl in
          let len : prefix_len is_line_byte (b ∷ c ∷ text) ≡ suc n = rw (h, one-add n) refl in
          left ∙ ap (onto_first b) (first_line c text) ∙ sym (rw len refl)
      | inr h ↦ rw h refl
    ]

pub no_lines : (text : List ℕ) → length text ≡ 0 → lines_of text ≡ []
unfolding lines_of
no_lines [] h = refl
no_lines (b ∷ text) h = absurd (omega arith)

pub lines_step : (text : List ℕ) → 0 < length text →
    lines_of text ≡ take (prefix_len is_line_byte text) text ∷ lines_of (drop 1 (drop (prefix_len is_line_byte text) text))
lines_step [] h = absurd (omega arith)
lines_step (b ∷ text) h =
    let e : drop 1 (drop (prefix_len is_line_byte (b ∷ text)) (b ∷ text)) ≡ drop (suc (prefix_len is_line_byte (b ∷ text))) (b ∷ text) = rw (drop-drop, add-one) refl in
    first_line b text ∙ ap (λ (rest : List ℕ). take (prefix_len is_line_byte (b ∷ text)) (b ∷ text) ∷ lines_of rest) (sym e)

-- what a pattern [_, rest @ ..] leaves
pub rest_is_drop : (xs : List ℕ) → take (length xs - 1) (drop 1 xs) ≡ drop 1 xs
rest_is_drop xs = take_all (length xs - 1) (drop 1 xs) (omega (arith, length-drop 1 xs))

pub ruleset lines_steps = (no_lines, lines_step, rest_is_drop)

length-onto_first : (b n : ℕ) (lines : List (List ℕ)) → length lines ≤ n → length (onto_first b lines) ≤ n + 1
length-onto_first b n [] h = omega arith
length-onto_first b n (first ∷ others) h = omega arith

-- a line takes a byte of the text
pub few_lines : (text : List ℕ) → length (lines_of text) ≤ length text
unfolding lines_of
few_lines [] = omega arith
few_lines (b ∷ text) =
    elim (cases_Bool (is_line_byte b)) [
      | inl h ↦ rw h (omega (arith, length-onto_first b (length text) (lines_of text) (few_lines text)))
      | inr h ↦ rw h (omega (arith, few_lines text))
    ]
