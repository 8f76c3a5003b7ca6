-- One more digit.
use Rattle.std.proofs.Common.{◌≡◌, ℕ, suc, ◌+◌, ◌*◌, ◌^◌, ◌<◌, ◌≤◌, true, false, List, [], ◌∷◌, length, get_or, drop, None, ltb, eqb, leb, refl, ◌∙◌, ap, inl, inr, arith, add-one}
use Rattle.std.proofs.lemmas.Bool.{cases_Bool, le-ltb, lt-ltb, ltb-true, leb-true}
use Rattle.std.proofs.Math.Nat.{mul-le-mul_left, pow-le-pow_right}
use Rattle.std.proofs.Math.Seq.{drop-cons}
use Rattle.std.specs.Char.{digit_value, is_digit}
use Rattle.text_tokens.specs.Numbers.{digits_from, few_digits_of, below, most_hex_digits}

-- a byte that is no digit
pub digits_stop : (radix n : ℕ) (digits : List ℕ) (i b : ℕ) → i < length digits → b ≡ get_or digits i 0 → radix ≤ digit_value b → digits_from radix n (drop i digits) ≡ None
digits_stop radix n digits i b inside item other =
    let front : drop i digits ≡ get_or digits i 0 ∷ drop (suc i) digits = drop-cons digits i 0 inside in
    let stops : is_digit b radix ≡ false = le-ltb (digit_value b) radix other in
    rw (front, ← item, stops) refl

-- a digit
pub digits_more : (radix n : ℕ) (digits : List ℕ) (i b : ℕ) → i < length digits → b ≡ get_or digits i 0 → digit_value b < radix → digits_from radix n (drop i digits) ≡ digits_from radix (n * radix + digit_value b) (drop (i + 1) digits)
digits_more radix n digits i b inside item digit =
    let front : drop i digits ≡ get_or digits i 0 ∷ drop (suc i) digits = drop-cons digits i 0 inside in
    let goes : is_digit b radix ≡ true = lt-ltb (digit_value b) radix digit in
    rw (add-one, front, ← item, goes) refl

-- from a number at the limit on, no digits lead below it
past_limit : (radix limit n : ℕ) (cs : List ℕ) → 1 ≤ radix → limit ≤ n → below limit (digits_from radix n cs) ≡ None
past_limit radix limit n [] low past = let over : ltb n limit ≡ false = le-ltb n limit past in rw over refl
past_limit radix limit n (c ∷ cs) low past =
    elim (cases_Bool (is_digit c radix)) [
      | inl h ↦
          let grows : n * 1 ≤ n * radix = mul-le-mul_left n low in
          rw h (past_limit radix limit (n * radix + digit_value c) cs low (omega arith))
      | inr h ↦ rw h refl
    ]

-- a digit that leads past the limit
pub digits_past : (radix most n : ℕ) (digits : List ℕ) (i b d : ℕ) → i < length digits → b ≡ get_or digits i 0 → digit_value b < radix → d ≡ digit_value b → 2 ≤ radix → (n * radix + d ≤ most → ⊥) → below (most + 1) (digits_from radix n (drop i digits)) ≡ None
digits_past radix most n digits i b d inside item digit is low past =
    ap (below (most + 1)) (digits_more radix n digits i b inside item digit) ∙ past_limit radix (most + 1) (n * radix + digit_value b) (drop (i + 1) digits) (omega arith) (omega arith)

pub ruleset digit_steps = (digits_stop, digits_more, digits_past)

-- so many hexadecimal digits say a number below 2^64
hex_below : (k n : ℕ) (cs : List ℕ) → n < 16 ^ k → k + length cs ≤ 16 → below (2 ^ 64) (digits_from 16 n cs) ≡ digits_from 16 n cs
hex_below k n [] small few =
    let within : k ≤ 16 = omega arith in
    let top : 16 ^ k ≤ 16 ^ 16 = pow-le-pow_right (omega arith) within in
    let under : ltb n (2 ^ 64) ≡ true = lt-ltb n (2 ^ 64) (omega arith) in
    rw under refl
hex_below k n (c ∷ cs) small few =
    elim (cases_Bool (is_digit c 16)) [
      | inl h ↦
          let digit : digit_value c < 16 = ltb-true (digit_value c) 16 h in
          rw h (hex_below (suc k) (n * 16 + digit_value c) cs (omega arith) (omega arith))
      | inr h ↦ rw h refl
    ]

pub hex_fits : (digits : List ℕ) → below (2 ^ 64) (few_digits_of most_hex_digits 16 digits) ≡ few_digits_of most_hex_digits 16 digits
hex_fits digits =
    elim (cases_Bool (leb (length digits) 16)) [
      | inl few ↦
          let within : length digits ≤ 16 = leb-true (length digits) 16 few in
          elim (cases_Bool (eqb (length digits) 0)) [
            | inl none ↦ rw (few, none) refl
            | inr some ↦ rw (few, some) (hex_below 0 0 digits (omega arith) (omega arith))
          ]
      | inr long ↦ rw long refl
    ]
