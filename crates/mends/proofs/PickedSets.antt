-- What a choice puts in.
use Rattle.std.proofs.Common.{◌≡◌, ℕ, zero, suc, ◌+◌, ◌<◌, Bool, true, false, List, [], ◌∷◌, ◌++◌, length, drop, get_or, replicate, slice_index_or, refl, ap, sym, subst, ◌∙◌, inl, inr, arith, add-one, append_assoc}
use Rattle.std.proofs.Math.Seq.{drop-cons}
use Rattle.std.proofs.lemmas.Bool.{false≢true}
use Rattle.std.proofs.lemmas.List.Elements.{All-cons, All-nil}
use Rattle.std.proofs.lemmas.List.Sums.{sum_by-cons}
use Rattle.isa.specs.declared.instr.Instr.{Instr}
use Rattle.isa.specs.declared.instr.Access.TheVariants.{Flush}
use Rattle.isa.specs.declared.instr.FenceKind.TheVariants.{Mfence}
use Rattle.isa.specs.declared.instr.FlushKind.TheVariants.{Clflush}
use Rattle.isa.specs.declared.instr.Instr.TheVariants.{Fence, Memory}
use Rattle.image_reasons.specs.declared.repair.Repair.{Repair}
use Rattle.fewer_fences.specs.Thinner.{Thins}
use Rattle.candidates.specs.Sets.{cost, costs_of}
use Rattle.candidates.specs.Sets.{cost_of as cost_of_instr}
use Rattle.choices.specs.Choices.{cost_of, is_within, picked}
use Rattle.choices.proofs.Above.{AllCost}

one_longer : (m n : ℕ) → suc m ≡ suc n → m ≡ n
one_longer m n is = omega (arith, is)

no_end : {A : Type 0} (n : ℕ) → zero ≡ suc n → A
no_end n is = absurd (omega (arith, is))

abbrev pub Any : Repair → Bool
Any repair = true

-- A choice that is within another picks some of what the other picks.
pub picks_some : (candidates : List Repair) (less more : List Bool) → length less ≡ length candidates → length more ≡ length candidates → is_within less more ≡ true
    → Thins Any (picked more candidates) (picked less candidates)
picks_some [] [] [] s t is = refl
picks_some [] [] (m ∷ more) s t is = no_end (length more) (sym t)
picks_some [] (l ∷ less) more s t is = no_end (length less) (sym s)
picks_some (x ∷ xs) [] more s t is = no_end (length xs) s
picks_some (x ∷ xs) (l ∷ less) [] s t is = no_end (length xs) t
picks_some (x ∷ xs) (true ∷ less) (true ∷ more) s t is = inl (picked less xs, refl, picks_some xs less more (one_longer (length less) (length xs) s) (one_longer (length more) (length xs) t) is)
picks_some (x ∷ xs) (false ∷ less) (true ∷ more) s t is = inr (refl, picks_some xs less more (one_longer (length less) (length xs) s) (one_longer (length more) (length xs) t) is)
picks_some (x ∷ xs) (false ∷ less) (false ∷ more) s t is = picks_some xs less more (one_longer (length less) (length xs) s) (one_longer (length more) (length xs) t) is
picks_some (x ∷ xs) (true ∷ less) (false ∷ more) s t is = absurd (false≢true is)

-- It picks some of all.
pub picks_some_of_all : (candidates : List Repair) (choice : List Bool) → length choice ≡ length candidates → Thins Any candidates (picked choice candidates)
picks_some_of_all [] [] s = refl
picks_some_of_all [] (c ∷ choice) s = no_end (length choice) (sym s)
picks_some_of_all (x ∷ xs) [] s = no_end (length xs) s
picks_some_of_all (x ∷ xs) (true ∷ choice) s = inl (picked choice xs, refl, picks_some_of_all xs choice (one_longer (length choice) (length xs) s))
picks_some_of_all (x ∷ xs) (false ∷ choice) s = inr (refl, picks_some_of_all xs choice (one_longer (length choice) (length xs) s))

-- Some of all are what a choice picks.
pub some_are_picked : (candidates set : List Repair) → Thins Any candidates set → (choice : List Bool) × (length choice ≡ length candidates) × (picked choice candidates ≡ set)
some_are_picked [] set is = ([], refl, sym is)
some_are_picked (x ∷ xs) set (inl (rest, is, some)) =
    let (choice, long, same) = some_are_picked xs rest some in (true ∷ choice, ap suc long, ap (λ (ys : List Repair). x ∷ ys) same ∙ sym is)
some_are_picked (x ∷ xs) set (inr (gone, some)) = let (choice, long, same) = some_are_picked xs set some in (false ∷ choice, ap suc long, same)

-- A choice of nothing picks nothing, and is within each.
pub nothing_picked : (candidates : List Repair) → picked (replicate (length candidates) false) candidates ≡ []
nothing_picked [] = refl
nothing_picked (x ∷ xs) = nothing_picked xs

pub nothing_within : (n : ℕ) (choice : List Bool) → is_within (replicate n false) choice ≡ true
nothing_within zero choice = refl
nothing_within (suc n) [] = refl
nothing_within (suc n) (c ∷ choice) = nothing_within n choice

-- ---- cost

-- What a choice costs is what those cost that it picks.
pub cost_of_picked : (candidates : List Repair) (choice : List Bool) → length choice ≡ length candidates → cost_of (costs_of candidates) choice ≡ cost (picked choice candidates)
cost_of_picked [] [] s = refl
cost_of_picked [] (c ∷ choice) s = no_end (length choice) (sym s)
cost_of_picked (x ∷ xs) [] s = no_end (length xs) s
cost_of_picked (x ∷ xs) (true ∷ choice) s =
    let rest = cost_of_picked xs choice (one_longer (length choice) (length xs) s) in
    let here = sum_by-cons (λ (c : ℕ). c) (cost_of_instr x.instr) (picked choice (costs_of xs)) in
    let there = sum_by-cons (λ (repair : Repair). cost_of_instr repair.instr) x (picked choice xs) in
    omega (arith, rest, here, there)
cost_of_picked (x ∷ xs) (false ∷ choice) s = cost_of_picked xs choice (one_longer (length choice) (length xs) s)

some_cost : (instr : Instr) → 0 < cost_of_instr instr
some_cost (Memory (Flush Clflush) operand) = omega arith
some_cost (Fence Mfence) = omega arith
some_cost _ = omega arith

-- Each candidate costs something.
pub all_cost : (candidates : List Repair) → AllCost (costs_of candidates)
all_cost [] = All-nil (λ c. 0 < c)
all_cost (x ∷ xs) = All-cons (λ c. 0 < c) (cost_of_instr x.instr) (costs_of xs) (some_cost x.instr) (all_cost xs)

-- ---- one candidate more

split_at : {A : Type 0} (xs : List A) (i : ℕ) (d : A) → i < length xs → drop i xs ≡ get_or xs i d ∷ drop (i + 1) xs
split_at xs i d within = drop-cons xs i d within ∙ ap (λ (n : ℕ). get_or xs i d ∷ drop n xs) (sym (add-one i))

module _ (candidates : List Repair) (choice : List Bool) (at : ℕ) (one : Repair) (old new : List Repair) (within : at < length candidates) (long : length choice ≡ length candidates)
    (read : one ≡ get_or candidates at one) (before : old ++ picked (drop at choice) (drop at candidates) ≡ picked choice candidates) where
  abbrev rest : List Repair
  rest = picked (drop (at + 1) choice) (drop (at + 1) candidates)

  here : (taken : Bool) → slice_index_or choice at false ≡ taken → picked (drop at choice) (drop at candidates) ≡ picked (taken ∷ drop (at + 1) choice) (one ∷ drop (at + 1) candidates)
  here taken is =
      ap (λ (flags : List Bool). picked flags (drop at candidates)) (split_at choice at false (subst (λ (n : ℕ). at < n) (sym long) within) ∙ ap (λ (c : Bool). c ∷ drop (at + 1) choice) is)
      ∙ ap (λ (xs : List Repair). picked (taken ∷ drop (at + 1) choice) xs) (split_at candidates at one within ∙ ap (λ (x : Repair). x ∷ drop (at + 1) candidates) (sym read))

  pub one_picked : slice_index_or choice at false ≡ true → new ≡ old ++ one ∷ [] → new ++ rest ≡ picked choice candidates
  one_picked is more =
      ap (λ (xs : List Repair). xs ++ rest) more ∙ append_assoc old (one ∷ []) rest ∙ ap (λ (xs : List Repair). old ++ xs) (sym (here true is)) ∙ before

  pub one_passed : slice_index_or choice at false ≡ false → new ≡ old → new ++ rest ≡ picked choice candidates
  one_passed is same = ap (λ (xs : List Repair). xs ++ rest) same ∙ ap (λ (xs : List Repair). old ++ xs) (sym (here false is)) ∙ before
