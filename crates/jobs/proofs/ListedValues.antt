-- Values as `images` lists them are read as they were.
use Rattle.std.proofs.Common.{◌≡◌, ℕ, ◌+◌, ◌<◌, ◌^◌, Bool, true, false, not, ◌||◌, ◌&&◌, ◌==◌, List, [], ◌∷◌, ◌++◌, length, map, refl, ◌∙◌, ap, arith, Ok, Some}
use Rattle.std.specs.Prelude.{decimal}
use Rattle.std.specs.Char.{is_ascii_digit}
use Rattle.std.specs.List.{All, list_all, list_any}
use Rattle.std.proofs.lemmas.Bool.Decides.{nat_tests}
use Rattle.std.proofs.lemmas.List.Elements.{All-head, All-tail}
use Rattle.std.proofs.lemmas.List.Folds.{list_any-append}
use Rattle.text_tokens.specs.Text.{goes_on, hash, tokens_of}
use Rattle.text_tokens.proofs.NumbersAreRead.{decimal_all, decimal_token, number_of-decimal}
use Rattle.text_tokens.proofs.LinesAndTokensAreRead.{no_more, tokens_of-blank}
use Rattle.jobs.specs.ImageReports.{values_text}
use Rattle.lines_layout.specs.Layouts.{NamedLines}
use Rattle.jobs.specs.Values.{has_comment, value_of, values_in, values_of, word_count}

digit_is_digit : (k : ℕ) → k < 10 → is_ascii_digit (48 + k) ≡ true
digit_is_digit k h = grind (arith, nat_tests)

digit_is_no_hash : (k : ℕ) → k < 10 → not ((48 + k) == hash) ≡ true
digit_is_no_hash k h = grind (arith, nat_tests)

none_passes : (p : ℕ → Bool) (xs : List ℕ) → list_all (λ x. not (p x)) xs ≡ true → list_any p xs ≡ false
none_passes p [] none = refl
none_passes p (x ∷ xs) none = first (p x) (list_any p xs) (none_passes p xs) none
  where
    first : (b later : Bool) → (list_all (λ x. not (p x)) xs ≡ true → later ≡ false) → not b && list_all (λ x. not (p x)) xs ≡ true → b || later ≡ false
    first true later others h = absurd cc
    first false later others h = others h

-- a number is read as its value
value_of-decimal : (n : ℕ) → n < 2 ^ 64 → value_of (decimal n) ≡ Some n
value_of-decimal n h = rw (decimal_all is_ascii_digit digit_is_digit n h) (number_of-decimal n h)

values_of-decimals : (values : List ℕ) → All (λ value. value < 2 ^ 64) values → values_of (map decimal values) ≡ Ok values
values_of-decimals [] small = refl
values_of-decimals (value ∷ values) small =
    rw (value_of-decimal value (All-head (λ n. n < 2 ^ 64) value values small), values_of-decimals values (All-tail (λ n. n < 2 ^ 64) value values small)) refl

stops : (values : List ℕ) → goes_on (values_text values) ≡ false
stops [] = refl
stops (value ∷ values) = refl

tokens_of-values : (values : List ℕ) → All (λ value. value < 2 ^ 64) values → tokens_of (values_text values) ≡ map decimal values
tokens_of-values [] small = no_more
tokens_of-values (value ∷ values) small =
    tokens_of-blank 32 (decimal value ++ values_text values) refl
    ∙ decimal_token value (values_text values) (All-head (λ n. n < 2 ^ 64) value values small) (stops values)
    ∙ ap (λ (tokens : List (List ℕ)). decimal value ∷ tokens) (tokens_of-values values (All-tail (λ n. n < 2 ^ 64) value values small))

no_comment : (values : List ℕ) → All (λ value. value < 2 ^ 64) values → has_comment (values_text values) ≡ false
no_comment [] small = refl
no_comment (value ∷ values) small =
    let number : list_any (λ byte. byte == hash) (decimal value) ≡ false =
    none_passes (λ byte. byte == hash) (decimal value) (decimal_all (λ byte. not (byte == hash)) digit_is_no_hash value (All-head (λ n. n < 2 ^ 64) value values small)) in
    list_any-append (λ byte. byte == hash) (decimal value) (values_text values)
    ∙ rw (number, no_comment values (All-tail (λ n. n < 2 ^ 64) value values small)) refl

-- an image whose values are listed is read as itself
pub listed_again : (names : NamedLines) (image : List ℕ) → length image ≡ word_count names → All (λ value. value < 2 ^ 64) image → values_in names (values_text image) ≡ Ok image
listed_again names image count small =
    let whole : (length image == word_count names) ≡ true = grind (arith, nat_tests) in
    rw (no_comment image small, tokens_of-values image small, values_of-decimals image small, whole) refl
