-- The numbers that tokens spell.
use Rattle.std.specs.Prelude.{ℕ, ◌+◌, ◌-◌, ◌*◌, ◌%◌, ◌^◌, Bool, false, ◌==◌, ◌||◌, nat_eq, nat_lt, nat_le, if◌then◌else◌, Option, Some, None, option_map, List, [], ◌∷◌, length, drop, codes}
use Rattle.std.specs.Char.{digit_value, is_digit, is_ascii_digit}
use Rattle.std.specs.List.{starts_with}
use Rattle.std.specs.Option.{option_and_then}

-- how many digits a decimal number may have, if no - is before them
abbrev pub most_digits : ℕ
most_digits = 20

-- how many digits a hexadecimal number may have
abbrev pub most_hex_digits : ℕ
most_hex_digits = 16

-- how many digits a number of a step may have
abbrev pub most_small_digits : ℕ
most_small_digits = 10

-- '-'
abbrev pub minus : ℕ
minus = 45

-- the value of digits that follow digits of value n, unless something else is among them
abbrev pub digits_from : ℕ → ℕ → List ℕ → Option ℕ
digits_from radix n [] = Some n
digits_from radix n (c ∷ cs) = if is_digit c radix then digits_from radix (n * radix + digit_value c) cs else None

-- the value of one digit or more and nothing else
abbrev pub digits_of : ℕ → List ℕ → Option ℕ
digits_of radix digits = if length digits == 0 then None else digits_from radix 0 digits

-- the value of one digit to so many and nothing else
abbrev pub few_digits_of : ℕ → ℕ → List ℕ → Option ℕ
few_digits_of most radix digits = if nat_le (length digits) most then digits_of radix digits else None

-- a number if it is below a limit
abbrev pub below : ℕ → Option ℕ → Option ℕ
below limit number = option_and_then (λ n. if nat_lt n limit then Some n else None) number

-- -n, modulo 2^64
abbrev pub negative : ℕ → ℕ
negative n = (2 ^ 64 - n) % 2 ^ 64

-- 0x and 1 to 16 hexadecimal digits; - and decimal digits, however many, up to 2^63; or 1 to 20 decimal digits, below 2^64
unfoldable pub number_of : List ℕ → Option ℕ
number_of token =
    if starts_with nat_eq token (codes "0x") then few_digits_of most_hex_digits 16 (drop 2 token)
    else if starts_with nat_eq token (codes "-") then option_map negative (below (2 ^ 63 + 1) (digits_of 10 (drop 1 token)))
    else below (2 ^ 64) (few_digits_of most_digits 10 token)

-- a token that is meant as a number: it begins with a digit or -
abbrev pub begins_number : List ℕ → Bool
begins_number [] = false
begins_number (c ∷ _) = is_ascii_digit c || c == minus

-- a number of a step: 1 to 10 decimal digits, below 2^32
unfoldable pub small_number_of : List ℕ → Option ℕ
small_number_of token = below (2 ^ 32) (few_digits_of most_small_digits 10 token)
