-- The first token of a text, where some characters are tokens by themselves and some end the text.
use Rattle.std.proofs.Common.{◌≡◌, ℕ, suc, ◌<◌, true, false, not, ◌&&◌, cond, List, [], ◌∷◌, length, get_or, take, drop, refl, sym, ◌∙◌, ap, inl, inr, arith, one-add, add-zero, length-drop}
use Rattle.std.proofs.lemmas.Bool.{cases_Bool, and_parts, not-true}
use Rattle.std.proofs.lemmas.List.{get_or-drop}
use Rattle.std.proofs.lemmas.List.Sums.{prefix_len_stops}
use Rattle.std.specs.List.{prefix_len}
use Rattle.text_tokens.specs.Text.{is_blank, is_one_of, is_run_by, onto_first, past_blanks, goes_on_by, tokens_by}

-- blanks before the first token
pub behind_blanks : (marks ends text : List ℕ) → tokens_by marks ends text ≡ tokens_by marks ends (past_blanks text)
behind_blanks marks ends [] = refl
behind_blanks marks ends (b ∷ text) =
    elim (cases_Bool (is_blank b)) [
      | inl h ↦
          let left : tokens_by marks ends (b ∷ text) ≡ tokens_by marks ends text = rw h refl in
          let len : prefix_len is_blank (b ∷ text) ≡ suc (prefix_len is_blank text) = rw (h, one-add) refl in
          left ∙ behind_blanks marks ends text ∙ sym (rw len refl)
      | inr h ↦
          let len : prefix_len is_blank (b ∷ text) ≡ 0 = rw h refl in
          rw len refl
    ]

-- no blank stands behind the blanks
pub no_blank_follows : (text : List ℕ) → 0 < length (past_blanks text) → is_blank (get_or (past_blanks text) 0 0) ≡ false
no_blank_follows text h =
    let lt : prefix_len is_blank text < length text = omega (arith, length-drop (prefix_len is_blank text) text) in
    rw get_or-drop (rw add-zero (prefix_len_stops is_blank text 0 lt))

-- what the tests of a byte in a run come to
record IsInRun (marks ends : List ℕ) (b : ℕ) : Type 0 where
  blank : is_blank b ≡ false
  mark : is_one_of marks b ≡ false
  end : is_one_of ends b ≡ false

in_run : (marks ends : List ℕ) (b : ℕ) → is_run_by marks ends b ≡ true → IsInRun marks ends b
in_run marks ends b h =
    let p = and_parts (not (is_blank b) && not (is_one_of marks b)) (not (is_one_of ends b)) h in
    let q = and_parts (not (is_blank b)) (not (is_one_of marks b)) p.0 in
    record { blank = not-true (is_blank b) q.0; mark = not-true (is_one_of marks b) q.1; end = not-true (is_one_of ends b) p.1 }

-- the tokens from a byte of a run on
pub tokens_at_run : (marks ends : List ℕ) (b : ℕ) (text : List ℕ) → is_run_by marks ends b ≡ true →
    tokens_by marks ends (b ∷ text) ≡ cond (goes_on_by marks ends text) (onto_first b (tokens_by marks ends text)) ((b ∷ []) ∷ tokens_by marks ends text)
tokens_at_run marks ends b text h =
    let r = in_run marks ends b h in
    rw (r.blank, r.mark, r.end) refl

-- a text whose first token is this run
abbrev pub BeginsWithRun : List ℕ → List ℕ → List ℕ → Type 0
BeginsWithRun marks ends text =
    tokens_by marks ends text ≡ take (prefix_len (is_run_by marks ends) text) text ∷ tokens_by marks ends (drop (prefix_len (is_run_by marks ends) text) text)

-- a run at the front
first_run : (marks ends : List ℕ) (b : ℕ) (text : List ℕ) → is_run_by marks ends b ≡ true → BeginsWithRun marks ends (b ∷ text)
first_run marks ends b [] h =
    let len : prefix_len (is_run_by marks ends) (b ∷ []) ≡ 1 = rw h refl in
    tokens_at_run marks ends b [] h ∙ sym (rw len refl)
first_run marks ends b (c ∷ text) h =
    elim (cases_Bool (is_run_by marks ends c)) [
      | inl g ↦
          let n = prefix_len (is_run_by marks ends) (c ∷ text) in
          let left : tokens_by marks ends (b ∷ c ∷ text) ≡ onto_first b (tokens_by marks ends (c ∷ text)) = tokens_at_run marks ends b (c ∷ text) h ∙ rw g refl in
          let len : prefix_len (is_run_by marks ends) (b ∷ c ∷ text) ≡ suc n = rw (h, one-add n) refl in
          left ∙ ap (onto_first b) (first_run marks ends c text g) ∙ sym (rw len refl)
      | inr g ↦
          let left : tokens_by marks ends (b ∷ c ∷ text) ≡ (b ∷ []) ∷ tokens_by marks ends (c ∷ text) = tokens_at_run marks ends b (c ∷ text) h ∙ rw g refl in
          let len : prefix_len (is_run_by marks ends) (b ∷ c ∷ text) ≡ 1 = rw (h, g) refl in
          left ∙ sym (rw len refl)
    ]

pub no_tokens : (marks ends text : List ℕ) → length text ≡ 0 → tokens_by marks ends text ≡ []
no_tokens marks ends [] h = refl
no_tokens marks ends (b ∷ text) h = absurd (omega arith)

pub tokens_at_end : (marks ends text : List ℕ) → 0 < length text → is_blank (get_or text 0 0) ≡ false → is_one_of marks (get_or text 0 0) ≡ false → is_one_of ends (get_or text 0 0) ≡ true
    → tokens_by marks ends text ≡ []
tokens_at_end marks ends [] h blank mark end = absurd (omega arith)
tokens_at_end marks ends (b ∷ text) h blank mark end = rw (blank, mark, end) refl

pub tokens_at_mark : (marks ends text : List ℕ) → 0 < length text → is_blank (get_or text 0 0) ≡ false → is_one_of marks (get_or text 0 0) ≡ true
    → tokens_by marks ends text ≡ take 1 text ∷ tokens_by marks ends (drop 1 text)
tokens_at_mark marks ends [] h blank mark = absurd (omega arith)
tokens_at_mark marks ends (b ∷ text) h blank mark = rw (blank, mark) refl

pub token_step : (marks ends text : List ℕ) → 0 < length text → is_blank (get_or text 0 0) ≡ false → is_one_of marks (get_or text 0 0) ≡ false → is_one_of ends (get_or text 0 0) ≡ false
    → BeginsWithRun marks ends text
token_step marks ends [] h blank mark end = absurd (omega arith)
token_step marks ends (b ∷ text) h blank mark end = first_run marks ends b text (rw (blank, mark, end) refl)

pub ruleset token_steps = (behind_blanks, no_tokens, tokens_at_end, tokens_at_mark, token_step)

pub ruleset blank_steps = (no_blank_follows)
