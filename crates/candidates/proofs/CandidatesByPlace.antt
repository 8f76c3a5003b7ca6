-- What comes of one element more, where the rest is still to come.
use Rattle.std.proofs.Common.{◌≡◌, ℕ, ◌+◌, ◌<◌, ◌≤◌, Bool, true, List, ◌∷◌, ◌++◌, length, drop, get_or, ap, sym, ◌∙◌, add-one, append_assoc}
use Rattle.std.specs.Prelude.{nat_le}
use Rattle.std.specs.List.{enumerate_from, flat_map, list_all}
use Rattle.std.proofs.Math.Seq.{drop-cons}
use Rattle.std.proofs.lemmas.Bool.{and_parts, leb-true}
use Rattle.isa.specs.declared.instr.Instr.{Instr}
use Rattle.isa.specs.declared.programs.Programs.{Programs}
use Rattle.isa.specs.Loadables.{is_loadable, max_processors, runs_on}
use Rattle.image_reasons.specs.declared.repair.Repair.{Repair}
use Rattle.candidates.specs.Candidates.{candidates_at, candidates_by}

split_at : {A : Type 0} (xs : List A) (i : ℕ) (d : A) → i < length xs → drop i xs ≡ get_or xs i d ∷ drop (i + 1) xs
split_at xs i d within = drop-cons xs i d within ∙ ap (λ (n : ℕ). get_or xs i d ∷ drop n xs) (sym (add-one i))

-- a list grows by what comes of an element
pub grown : {A B : Type 0} (f : A → List B) (xs : List A) (i : ℕ) (d : A) (old new all : List B) → i < length xs
    → old ++ flat_map f (drop i xs) ≡ all → new ≡ old ++ f (get_or xs i d) → new ++ flat_map f (drop (i + 1) xs) ≡ all
grown {A} {B} f xs i d old new all within before made =
    let rest : List B = flat_map f (drop (i + 1) xs) in
    ap (λ (ys : List B). ys ++ rest) made ∙ append_assoc old (f (get_or xs i d)) rest
    ∙ ap (λ (ys : List A). old ++ flat_map f ys) (sym (split_at xs i d within)) ∙ before

-- the same of an element with its place
pub grown_by_place : {A B : Type 0} (f : ℕ × A → List B) (xs : List A) (i : ℕ) (d : A) (old new all : List B) → i < length xs
    → old ++ flat_map f (enumerate_from i (drop i xs)) ≡ all → new ≡ old ++ f (i, get_or xs i d)
    → new ++ flat_map f (enumerate_from (i + 1) (drop (i + 1) xs)) ≡ all
grown_by_place {A} {B} f xs i d old new all within before made =
    let rest : List B = flat_map f (enumerate_from (i + 1) (drop (i + 1) xs)) in
    ap (λ (ys : List B). ys ++ rest) made ∙ append_assoc old (f (i, get_or xs i d)) rest
    ∙ ap (λ (ys : List A). old ++ flat_map f (enumerate_from i ys)) (sym (split_at xs i d within)) ∙ before

-- what may be put in behind an instruction of a program, with its place
abbrev pub behind : ℕ → Bool → ℕ × Instr → List Repair
behind processor recovering e = candidates_at (record { processor = processor; recovering = recovering; place = e.0 }) e.1

-- what may be put into the programs of a processor, with its number
abbrev pub into : ℕ × Programs → List Repair
into e = candidates_by e.0 e.1

pub few_processors : (shape : List ℕ) (processors : List Programs) → is_loadable shape processors ≡ true → length processors ≤ max_processors
few_processors shape processors is =
    leb-true (length processors) max_processors (and_parts (nat_le (length processors) max_processors) (list_all (runs_on shape) processors) is).0
