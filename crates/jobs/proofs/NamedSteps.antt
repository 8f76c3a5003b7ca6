-- The steps that name what is there are listed one after another.
use Rattle.std.proofs.Common.{◌≡◌, ◌∙◌, ℕ, zero, suc, ◌+◌, ◌<◌, List, [], ◌∷◌, ◌++◌, drop, length, map, ap, append_assoc, arith, refl, sym}
use Rattle.std.specs.Prelude.{slice_get}
use Rattle.std.specs.List.{range_with_len}
use Rattle.std.specs.Option.{option_map_or}
use Rattle.std.proofs.lemmas.List.FromFn.{map-range_with_len_more}
use Rattle.machine.specs.declared.step.Step.{Step}
use Rattle.machine.specs.State.{Processor}
use Rattle.schedule.specs.Enabled.{drains_from, drains_of}

-- one more of numbered steps
pub numbered_next : (f : ℕ → Step) (i n : ℕ) (old was now : List Step) → was ≡ old ++ map f (range_with_len 0 i) → n ≡ i → now ≡ was ++ f n ∷ []
    → now ≡ old ++ map f (range_with_len 0 (i + 1))
numbered_next f i n old was now before same is =
    is ∙ ap (λ (xs : List Step). xs ++ f n ∷ []) before ∙ append_assoc old (map f (range_with_len 0 i)) (f n ∷ [])
    ∙ ap (λ (xs : List Step). old ++ xs) (ap (λ (k : ℕ). map f (range_with_len 0 i) ++ f k ∷ []) same ∙ sym (map-range_with_len_more f 0 i i (omega arith)))

one_more : (cpus : List Processor) (p q : ℕ) → p < length cpus → option_map_or (drains_of q) (slice_get cpus p) [] ++ drains_from (q + 1) (drop (suc p) cpus) ≡ drains_from q (drop p cpus)
one_more [] p q within = absurd (omega (arith, within))
one_more (c ∷ cpus) zero q within = refl
one_more (c ∷ cpus) (suc p) q within = one_more cpus p q (omega (arith, within))

-- the drains of one more processor
pub drains_next : (cpus : List Processor) (p : ℕ) (was now all : List Step) → p < length cpus → now ≡ was ++ option_map_or (drains_of p) (slice_get cpus p) []
    → was ++ drains_from p (drop p cpus) ≡ all → now ++ drains_from (p + 1) (drop (p + 1) cpus) ≡ all
drains_next cpus p was now all within is before =
    let next : p + 1 ≡ suc p = omega arith in
    ap (λ (n : ℕ). now ++ drains_from (p + 1) (drop n cpus)) next
    ∙ ap (λ (xs : List Step). xs ++ drains_from (p + 1) (drop (suc p) cpus)) is
    ∙ append_assoc was (option_map_or (drains_of p) (slice_get cpus p) []) (drains_from (p + 1) (drop (suc p) cpus))
    ∙ ap (λ (xs : List Step). was ++ xs) (one_more cpus p p within) ∙ before
