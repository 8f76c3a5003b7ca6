-- The numbers that digits and tokens spell.
use Rattle.std.proofs.Common.{◌≡◌, ℕ, ◌+◌, ◌*◌, ◌%◌, ◌^◌, ◌<◌, ◌≤◌, Bool, true, false, List, [], ◌∷◌, ◌++◌, length, Option, Some, None, SomeIff, ltb, eqb, leb, refl, ◌∙◌, ap, inl, inr, arith, codes, nat_eq}
use Rattle.std.proofs.lemmas.Bool.{cases_Bool, lt-ltb, ltb-true, ltb-false, le-leb, ne_eqb}
use Rattle.std.proofs.lemmas.Bool.Decides.{nat_tests}
use Rattle.std.proofs.lemmas.Fmt.{decimal_by_steps, decimal_is_IsNumeral, decimal_nonempty, length-decimal-le}
use Rattle.std.proofs.lemmas.List.Folds.{list_all-append}
use Rattle.std.specs.Fmt.{decimal}
use Rattle.std.specs.Char.{digit_value, is_digit}
use Rattle.std.specs.List.{list_all, starts_with}
use Rattle.std.specs.Str.Parse.{AllDigits, IsNumeral, digits_value, digits_value_after}
use Rattle.text_tokens.specs.Text.{is_line_byte, is_run_byte, is_plain, goes_on, tokens_of}
use Rattle.text_tokens.specs.Numbers.{digits_from, digits_of, few_digits_of, negative, minus, number_of, small_number_of}
use Rattle.text_tokens.proofs.LinesAndTokensAreRead.{tokens_of-token, last_token}

-- one more condition that holds
with_fact : (P Q : Type 0) (o : Option ℕ) (v : ℕ) → P → SomeIff o Q v → SomeIff o (P × Q) v
with_fact P Q None v p h = λ both. h both.1
with_fact P Q (Some x) v p h = ((p, h.0), h.1)

-- digits behind digits of value n
digits_from-cases : (radix n : ℕ) (token : List ℕ) → SomeIff (digits_from radix n token) (AllDigits radix token) (digits_value_after radix n token)
digits_from-cases radix n [] = (tt, refl)
digits_from-cases radix n (c ∷ cs) =
    elim (cases_Bool (is_digit c radix)) [
      | inl h ↦
          let digit : digit_value c < radix = ltb-true (digit_value c) radix h in
          rw h (with_fact (digit_value c < radix) (AllDigits radix cs) (digits_from radix (n * radix + digit_value c) cs) (digits_value_after radix (n * radix + digit_value c) cs) digit (digits_from-cases radix (n * radix + digit_value c) cs))
      | inr h ↦
          let other : radix ≤ digit_value c = ltb-false (digit_value c) radix h in
          rw h (λ both. absurd (omega (arith, both.0)))
    ]

-- a token spells a number in a radix just where it is one digit or more and nothing else
pub digits_of-cases : (radix : ℕ) (token : List ℕ) → SomeIff (digits_of radix token) (IsNumeral radix token) (digits_value radix token)
digits_of-cases radix [] = λ both. absurd (omega (arith, both.0))
digits_of-cases radix (c ∷ cs) =
    let some : 0 < length (c ∷ cs) = omega arith in
    let e : eqb (length (c ∷ cs)) 0 ≡ false = ne_eqb (length (c ∷ cs)) 0 (λ none. omega arith) in
    rw e (with_fact (0 < length (c ∷ cs)) (AllDigits radix (c ∷ cs)) (digits_from radix 0 (c ∷ cs)) (digits_value radix (c ∷ cs)) some (digits_from-cases radix 0 (c ∷ cs)))

some_value : {P : Type 0} (o : Option ℕ) (v : ℕ) → P → SomeIff o P v → o ≡ Some v
some_value None v p h = absurd (h p)
some_value (Some x) v p h = ap (λ (y : ℕ). Some y) h.1

pub digits_of-numeral : (radix : ℕ) (token : List ℕ) → IsNumeral radix token → digits_of radix token ≡ Some (digits_value radix token)
digits_of-numeral radix token h = some_value (digits_of radix token) (digits_value radix token) h (digits_of-cases radix token)

pub few_digits_of-numeral : (most radix : ℕ) (token : List ℕ) → length token ≤ most → IsNumeral radix token → few_digits_of most radix token ≡ Some (digits_value radix token)
few_digits_of-numeral most radix token few h = let e : leb (length token) most ≡ true = le-leb (length token) most few in rw e (digits_of-numeral radix token h)

-- decimal digits begin with none of the signs of the other numbers
no_minus : (token : List ℕ) → IsNumeral 10 token → starts_with nat_eq token (codes "-") ≡ false
no_minus [] h = absurd (omega (arith, h.0))
no_minus (c ∷ cs) h =
    let other : eqb 45 c ≡ false = ne_eqb 45 c (λ e. let wrong = rw (← e) at h.1.0 in omega (arith, wrong)) in
    rw other refl

no_hex : (token : List ℕ) → IsNumeral 10 token → starts_with nat_eq token (codes "0x") ≡ false
no_hex [] h = absurd (omega (arith, h.0))
no_hex (c ∷ []) h = elim (cases_Bool (eqb 48 c)) [ inl e ↦ rw e refl | inr e ↦ rw e refl ]
no_hex (c ∷ d ∷ cs) h =
    let other : eqb 120 d ≡ false = ne_eqb 120 d (λ e. let wrong = rw (← e) at h.1.1.0 in omega (arith, wrong)) in
    elim (cases_Bool (eqb 48 c)) [ inl e ↦ rw (e, other) refl | inr e ↦ rw e refl ]

-- decimal digits
pub number_of-numeral : (token : List ℕ) → IsNumeral 10 token → length token ≤ 20 → digits_value 10 token < 2 ^ 64 → number_of token ≡ Some (digits_value 10 token)
unfolding number_of
number_of-numeral token h few fits =
    let under : ltb (digits_value 10 token) (2 ^ 64) ≡ true = lt-ltb (digits_value 10 token) (2 ^ 64) fits in
    rw (no_hex token h, no_minus token h, few_digits_of-numeral 20 10 token few h, under) refl

-- decimal digits behind a minus
pub number_of-minus : (token : List ℕ) → IsNumeral 10 token → digits_value 10 token ≤ 2 ^ 63 → number_of (minus ∷ token) ≡ Some (negative (digits_value 10 token))
unfolding number_of
number_of-minus token h fits =
    let under : ltb (digits_value 10 token) (2 ^ 63 + 1) ≡ true = lt-ltb (digits_value 10 token) (2 ^ 63 + 1) (omega arith) in
    rw (digits_of-numeral 10 token h, under) refl

-- hexadecimal digits behind 0x
pub number_of-hex : (token : List ℕ) → IsNumeral 16 token → length token ≤ 16 → number_of (codes "0x" ++ token) ≡ Some (digits_value 16 token)
unfolding number_of
number_of-hex token h few = few_digits_of-numeral 16 16 token few h

pub number_of-decimal : (n : ℕ) → n < 2 ^ 64 → number_of (decimal n) ≡ Some n
number_of-decimal n h =
    let numeral = decimal_is_IsNumeral n h in
    let few : length (decimal n) ≤ 20 = length-decimal-le 20 n (omega arith) (omega arith) h in
    number_of-numeral (decimal n) numeral.0 few (rw numeral.1 h) ∙ ap (λ (x : ℕ). Some x) numeral.1

pub small_number_of-decimal : (n : ℕ) → n < 2 ^ 32 → small_number_of (decimal n) ≡ Some n
unfolding small_number_of
small_number_of-decimal n h =
    let wide : n < 2 ^ 64 = omega arith in
    let numeral = decimal_is_IsNumeral n wide in
    let few : length (decimal n) ≤ 10 = length-decimal-le 10 n (omega arith) (omega arith) wide in
    let under : ltb n (2 ^ 32) ≡ true = lt-ltb n (2 ^ 32) h in
    rw (few_digits_of-numeral 10 10 (decimal n) few numeral.0, numeral.1, under) refl

-- a digit goes on with a run, may stand in a line, and ends none
pub digit_is_run_byte : (k : ℕ) → k < 10 → is_run_byte (48 + k) ≡ true
digit_is_run_byte k h = grind (arith, nat_tests)

pub digit_is_plain : (k : ℕ) → k < 10 → is_plain (48 + k) ≡ true
digit_is_plain k h = grind (arith, nat_tests)

pub digit_is_line_byte : (k : ℕ) → k < 10 → is_line_byte (48 + k) ≡ true
digit_is_line_byte k h = grind (arith, nat_tests)

-- what holds of each digit holds all along a number
pub decimal_all : (q : ℕ → Bool) → ((k : ℕ) → k < 10 → q (48 + k) ≡ true) → (n : ℕ) → n < 2 ^ 64 → list_all q (decimal n) ≡ true
decimal_all q each n h =
    decimal_by_steps (λ m ds. list_all q ds ≡ true)
    (λ m small. rw (each m small) refl)
    (λ m ds large so_far. list_all-append q ds ((48 + m % 10) ∷ []) ∙ rw (so_far, each (m % 10) (omega arith)) refl)
    n h

-- a number as the next token
pub decimal_token : (n : ℕ) (rest : List ℕ) → n < 2 ^ 64 → goes_on rest ≡ false → tokens_of (decimal n ++ rest) ≡ decimal n ∷ tokens_of rest
decimal_token n rest h ends = tokens_of-token (decimal n) rest (decimal_nonempty n h) (decimal_all is_run_byte digit_is_run_byte n h) ends

-- a number as the last token
pub last_decimal : (n : ℕ) → n < 2 ^ 64 → tokens_of (decimal n) ≡ decimal n ∷ []
last_decimal n h = last_token (decimal n) (decimal_nonempty n h) (decimal_all is_run_byte digit_is_run_byte n h)

pub ruleset number_laws = (digits_of-cases, number_of-numeral, number_of-minus, number_of-hex, number_of-decimal, small_number_of-decimal)
