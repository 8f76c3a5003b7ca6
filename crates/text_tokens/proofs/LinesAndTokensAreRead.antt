-- The lines and tokens of a text that is made of known parts.
use Rattle.std.proofs.Common.{◌≡◌, ℕ, ◌<◌, true, false, cond, List, [], ◌∷◌, ◌++◌, length, codes, refl, sym, ◌∙◌, ap, arith, append-nil}
use Rattle.std.proofs.lemmas.Bool.{and_parts}
use Rattle.std.proofs.lemmas.Bool.Decides.{nat_tests}
use Rattle.std.specs.List.{list_all}
use Rattle.text_tokens.specs.Text.{hash, is_line_byte, is_blank, is_mark, is_run_byte, onto_first, goes_on, lines_of, tokens_of}
use Rattle.text_tokens.proofs.SplitToken.{tokens_at_run}

-- a line, its line feed and more text
pub lines_of-line : (line text : List ℕ) → list_all is_line_byte line ≡ true → lines_of (line ++ (10 ∷ text)) ≡ line ∷ lines_of text
unfolding lines_of
lines_of-line [] text h = refl
lines_of-line (b ∷ line) text h =
    let p = and_parts (is_line_byte b) (list_all is_line_byte line) h in
    rw p.0 (ap (onto_first b) (lines_of-line line text p.1))

-- bytes without a line feed are one line
pub last_line : (line : List ℕ) → 0 < length line → list_all is_line_byte line ≡ true → lines_of line ≡ line ∷ []
unfolding lines_of
last_line [] some h = absurd (omega arith)
last_line (b ∷ []) some h =
    let p = and_parts (is_line_byte b) true h in
    rw p.0 refl
last_line (b ∷ c ∷ line) some h =
    let p = and_parts (is_line_byte b) (list_all is_line_byte (c ∷ line)) h in
    let others : lines_of (c ∷ line) ≡ (c ∷ line) ∷ [] = last_line (c ∷ line) (omega arith) p.1 in
    let left : lines_of (b ∷ c ∷ line) ≡ onto_first b (lines_of (c ∷ line)) = rw p.0 refl in
    left ∙ ap (onto_first b) others

pub no_text : lines_of [] ≡ []
unfolding lines_of
no_text = refl

-- the tokens from a byte of a run on
tokens_of-more : (b : ℕ) (line : List ℕ) → is_run_byte b ≡ true → tokens_of (b ∷ line) ≡ cond (goes_on line) (onto_first b (tokens_of line)) ((b ∷ []) ∷ tokens_of line)
unfolding tokens_of
tokens_of-more b line h = tokens_at_run (codes ",[]:") (codes "#") b line h

-- a run, and what does not go on with it
pub tokens_of-run : (b : ℕ) (token rest : List ℕ) → list_all is_run_byte (b ∷ token) ≡ true → goes_on rest ≡ false → tokens_of ((b ∷ token) ++ rest) ≡ (b ∷ token) ∷ tokens_of rest
tokens_of-run b [] rest h ends =
    let p = and_parts (is_run_byte b) true h in
    tokens_of-more b rest p.0 ∙ rw ends refl
tokens_of-run b (c ∷ token) rest h ends =
    let p = and_parts (is_run_byte b) (list_all is_run_byte (c ∷ token)) h in
    let q = and_parts (is_run_byte c) (list_all is_run_byte token) p.1 in
    tokens_of-more b (c ∷ (token ++ rest)) p.0 ∙ rw q.0 (ap (onto_first b) (tokens_of-run c token rest p.1 ends))

-- the same for a token that is not empty
pub tokens_of-token : (token rest : List ℕ) → 0 < length token → list_all is_run_byte token ≡ true → goes_on rest ≡ false → tokens_of (token ++ rest) ≡ token ∷ tokens_of rest
tokens_of-token [] rest some h ends = absurd (omega arith)
tokens_of-token (b ∷ token) rest some h ends = tokens_of-run b token rest h ends

pub no_more : tokens_of [] ≡ []
unfolding tokens_of
no_more = refl

pub last_token : (token : List ℕ) → 0 < length token → list_all is_run_byte token ≡ true → tokens_of token ≡ token ∷ []
last_token token some h = ap tokens_of (sym (append-nil token)) ∙ tokens_of-token token [] some h refl ∙ ap (λ (tokens : List (List ℕ)). token ∷ tokens) no_more

pub tokens_of-blank : (b : ℕ) (line : List ℕ) → is_blank b ≡ true → tokens_of (b ∷ line) ≡ tokens_of line
unfolding tokens_of
tokens_of-blank b line h = rw h refl

pub tokens_of-mark : (b : ℕ) (line : List ℕ) → is_mark b ≡ true → tokens_of (b ∷ line) ≡ (b ∷ []) ∷ tokens_of line
unfolding tokens_of
tokens_of-mark b line h = let other : is_blank b ≡ false = grind (arith, nat_tests) in rw (other, h) refl

pub tokens_of-comment : (comment : List ℕ) → tokens_of (hash ∷ comment) ≡ []
unfolding tokens_of
tokens_of-comment comment = refl

pub ruleset line_laws = (no_text, lines_of-line, last_line)

pub ruleset token_laws = (no_more, tokens_of-blank, tokens_of-mark, tokens_of-token, tokens_of-comment)
