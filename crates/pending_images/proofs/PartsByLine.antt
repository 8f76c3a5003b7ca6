-- The parts of an image, line by line.
use Rattle.std.proofs.Common.{◌≡◌, ℕ, zero, suc, ◌+◌, ◌-◌, ◌<◌, ◌≤◌, List, [], ◌∷◌, length, length-drop, take, drop, refl, ap, ap₂, sym, ◌∙◌, arith, inl, inr}
use Rattle.std.specs.Prelude.{min, slice_index, slice_range}
use Rattle.std.proofs.Math.Seq.{take-length}
use Rattle.std.proofs.lemmas.Bool.{cases_lt}
use Rattle.std.proofs.lemmas.List.{nil_from_length, take_all}
use Rattle.pending_images.specs.LeastCuts.{part_of}

pub part_past : (shape image : List ℕ) (line : ℕ) → length shape ≤ line → part_of shape image line ≡ []
part_past [] image line past = refl
part_past (count ∷ shape) image zero past = absurd (omega arith)
part_past (count ∷ shape) image (suc line) past = part_past shape (drop count image) line (omega (arith, past))

-- what is left of a list past a place
past_place : (n count : ℕ) (xs : List ℕ) → count ≡ min n (length xs) → slice_range xs count (length xs) ≡ drop n xs
past_place n count xs is =
    elim (cases_lt (length xs) n) [
      | inl past ↦
          let all : length xs - count ≡ 0 = omega (arith, is, past) in
          let left = length-drop n xs in
          ap (λ (k : ℕ). take k (drop count xs)) all ∙ sym (nil_from_length (drop n xs) (omega (arith, left, past)))
      | inr within ↦
          let same : count ≡ n = omega (arith, is, within) in
          let left = length-drop n xs in
          ap (λ (k : ℕ). take (length xs - k) (drop k xs)) same ∙ ap (λ (k : ℕ). take k (drop n xs)) (sym left) ∙ take-length (drop n xs)
    ]

-- the first of a list up to a place
up_to_place : (n count : ℕ) (xs : List ℕ) → count ≡ min n (length xs) → take count xs ≡ take n xs
up_to_place n count xs is =
    elim (cases_lt (length xs) n) [
      | inl past ↦
          let same : count ≡ length xs = omega (arith, is, past) in
          ap (λ (k : ℕ). take k xs) same ∙ take-length xs ∙ sym (take_all n xs (omega (arith, past)))
      | inr within ↦ (let same : count ≡ n = omega (arith, is, within) in ap (λ (k : ℕ). take k xs) same)
    ]

-- one more line is passed
part_next : (shape rest : List ℕ) (n line : ℕ) → n < length shape → n < line → part_of (drop (n + 1) shape) (drop (slice_index shape n) rest) (line - (n + 1)) ≡ part_of (drop n shape) rest (line - n)
part_next [] rest n line there below = absurd (omega (arith, there))
part_next (count ∷ shape) rest zero line there below =
    let e : line - 0 ≡ suc (line - 1) = omega (arith, below) in
    sym (ap (part_of (count ∷ shape) rest) e)
part_next (count ∷ shape) rest (suc n) line there below =
    let e : line - suc n ≡ line - 1 - n = omega arith in
    let f : line - (suc n + 1) ≡ line - 1 - (n + 1) = omega arith in
    let g : suc n + 1 ≡ suc (n + 1) = omega arith in
    ap₂ (λ (xs : List ℕ) (l : ℕ). part_of xs (drop (slice_index shape n) rest) l) (ap (λ (k : ℕ). drop k (count ∷ shape)) g) f
    ∙ part_next shape rest n (line - 1) (omega (arith, there)) (omega (arith, below))
    ∙ ap (part_of (drop n shape) rest) (sym e)

pub part_step : (shape rest : List ℕ) (n line count : ℕ) → n < length shape → n < line → count ≡ min (slice_index shape n) (length rest)
    → part_of (drop (n + 1) shape) (slice_range rest count (length rest)) (line - (n + 1)) ≡ part_of (drop n shape) rest (line - n)
part_step shape rest n line count there below is =
    ap (λ (xs : List ℕ). part_of (drop (n + 1) shape) xs (line - (n + 1))) (past_place (slice_index shape n) count rest is) ∙ part_next shape rest n line there below

first_part : (shape rest : List ℕ) (n : ℕ) → n < length shape → part_of (drop n shape) rest 0 ≡ take (slice_index shape n) rest
first_part [] rest n there = absurd (omega (arith, there))
first_part (count ∷ shape) rest zero there = refl
first_part (count ∷ shape) rest (suc n) there = first_part shape rest n (omega (arith, there))

-- the part of the line that is reached
pub part_reached : (shape rest : List ℕ) (n line count : ℕ) → n < length shape → n ≡ line → count ≡ min (slice_index shape line) (length rest) → take count rest ≡ part_of (drop n shape) rest (line - n)
part_reached shape rest n line count there at is =
    let e : line - n ≡ 0 = omega (arith, at) in
    up_to_place (slice_index shape line) count rest is ∙ ap (λ (l : ℕ). take (slice_index shape l) rest) (sym at) ∙ sym (first_part shape rest n there) ∙ sym (ap (part_of (drop n shape) rest) e)

pub ruleset part_steps = (part_past, part_step, part_reached)
