-- The sites of one instruction more, and of one processor more.
use Rattle.std.proofs.Common.{◌≡◌, ℕ, zero, suc, ◌+◌, ◌<◌, Bool, true, false, cond, List, [], ◌∷◌, ◌++◌, length, map, take, get_or, refl, ap, ◌∙◌, arith, add-one}
use Rattle.std.specs.List.{enumerate_from, filter, flat_map}
use Rattle.std.proofs.lemmas.List.{map-append, append-nil}
use Rattle.std.proofs.lemmas.List.Concat.{flat_map-append}
use Rattle.std.proofs.lemmas.List.Elements.{filter-append}
use Rattle.isa.specs.declared.instr.Instr.{Instr}
use Rattle.isa.specs.declared.programs.Programs.{Programs}
use Rattle.image_reasons.specs.declared.entries.Site.{Site}
use Rattle.fence_needs.specs.Sites.{is_fence, sites_by, sites_in}

pub numbered_more : {A : Type 0} (n : ℕ) (xs : List A) (i : ℕ) (d : A) → i < length xs
    → enumerate_from n (take (suc i) xs) ≡ enumerate_from n (take i xs) ++ (n + i, get_or xs i d) ∷ []
numbered_more n [] i d within = absurd (omega (arith, within))
numbered_more n (x ∷ xs) zero d within = ap (λ m. (m, x) ∷ []) (omega arith)
numbered_more n (x ∷ xs) (suc i) d within =
    ap (λ es. (n, x) ∷ es)
    (numbered_more (n + 1) xs i d (omega (arith, within))
    ∙ ap (λ m. enumerate_from (n + 1) (take i xs) ++ (m, get_or xs i d) ∷ []) (omega arith))

module _ (processor : ℕ) (recovering : Bool) where
  abbrev site : ℕ → Site
  site place = record { processor = processor; recovering = recovering; place = place }

  abbrev chosen : List (ℕ × Instr) → List Site
  chosen es = map (λ (e : ℕ × Instr). site e.0) (filter (λ (e : ℕ × Instr). is_fence e.1) es)

  chosen_one : (b : Bool) (place : ℕ) (instr : Instr) → map (λ (e : ℕ × Instr). site e.0) (cond b ((place, instr) ∷ []) []) ≡ cond b (site place ∷ []) []
  chosen_one true place instr = refl
  chosen_one false place instr = refl

  chosen_more : (es : List (ℕ × Instr)) (place : ℕ) (instr : Instr) → chosen (es ++ (place, instr) ∷ []) ≡ chosen es ++ cond (is_fence instr) (site place ∷ []) []
  chosen_more es place instr =
      ap (map (λ (e : ℕ × Instr). site e.0)) (filter-append (λ (e : ℕ × Instr). is_fence e.1) es ((place, instr) ∷ []))
      ∙ map-append (λ (e : ℕ × Instr). site e.0) (filter (λ (e : ℕ × Instr). is_fence e.1) es) (filter (λ (e : ℕ × Instr). is_fence e.1) ((place, instr) ∷ []))
      ∙ ap (λ sites. chosen es ++ sites) (chosen_one (is_fence instr) place instr)

  sites_more : (code : List Instr) (i : ℕ) (d : Instr) → i < length code
      → sites_in processor recovering (take (suc i) code) ≡ sites_in processor recovering (take i code) ++ cond (is_fence (get_or code i d)) (site i ∷ []) []
  sites_more code i d within =
      ap chosen (numbered_more 0 code i d within)
      ∙ chosen_more (enumerate_from 0 (take i code)) (0 + i) (get_or code i d)
      ∙ ap (λ place. sites_in processor recovering (take i code) ++ cond (is_fence (get_or code i d)) (site place ∷ []) []) (omega arith)

  pub site_added : (code : List Instr) (i : ℕ) (d : Instr) → i < length code → is_fence (get_or code i d) ≡ true
      → sites_in processor recovering (take (i + 1) code) ≡ sites_in processor recovering (take i code) ++ site i ∷ []
  site_added code i d within is =
      ap (λ n. sites_in processor recovering (take n code)) (add-one i) ∙ sites_more code i d within ∙ ap (λ b. sites_in processor recovering (take i code) ++ cond b (site i ∷ []) []) is

  pub site_passed_over : (code : List Instr) (i : ℕ) (d : Instr) → i < length code → is_fence (get_or code i d) ≡ false
      → sites_in processor recovering (take (i + 1) code) ≡ sites_in processor recovering (take i code)
  site_passed_over code i d within is =
      ap (λ n. sites_in processor recovering (take n code)) (add-one i) ∙ sites_more code i d within ∙ ap (λ b. sites_in processor recovering (take i code) ++ cond b (site i ∷ []) []) is
      ∙ append-nil (sites_in processor recovering (take i code))

abbrev by : ℕ × Programs → List Site
by e = sites_by e.0 e.1

pub processor_added : (processors : List Programs) (i : ℕ) (d : Programs) → i < length processors
    → flat_map by (enumerate_from 0 (take (i + 1) processors)) ≡ flat_map by (enumerate_from 0 (take i processors)) ++ sites_by i (get_or processors i d)
processor_added processors i d within =
    ap (λ n. flat_map by (enumerate_from 0 (take n processors))) (add-one i)
    ∙ ap (flat_map by) (numbered_more 0 processors i d within)
    ∙ flat_map-append by (enumerate_from 0 (take i processors)) ((0 + i, get_or processors i d) ∷ [])
    ∙ ap (λ sites. flat_map by (enumerate_from 0 (take i processors)) ++ sites)
    (append-nil (sites_by (0 + i) (get_or processors i d)) ∙ ap (λ p. sites_by p (get_or processors i d)) (omega arith))
