-- No site is listed twice.
use Rattle.std.proofs.Common.{◌≡◌, ◌≢◌, ℕ, zero, suc, ◌+◌, ◌≤◌, Bool, true, false, true≢false, cond, Some, List, [], ◌∷◌, ◌++◌, map, refl, sym, ap, subst, ◌∙◌, arith}
use Rattle.std.specs.Prelude.{slice_get}
use Rattle.std.specs.List.{enumerate_from, filter, flat_map}
use Rattle.isa.specs.declared.instr.Instr.{Instr}
use Rattle.isa.specs.declared.programs.Programs.{Programs}
use Rattle.isa.specs.Objects.{Object}
use Rattle.image_reasons.specs.declared.entries.Site.{Site}
use Rattle.fence_needs.specs.Sites.{is_fence, sites_by, sites_in, sites_of}

abbrev Each : (Site → Type 0) → List Site → Type 0
Each P [] = Unit {0}
Each P (x ∷ xs) = P x × Each P xs

abbrev Apart : List Site → Type 0
Apart [] = Unit {0}
Apart (x ∷ xs) = Each (λ y. y ≢ x) xs × Apart xs

weaker : (P Q : Site → Type 0) → ((s : Site) → P s → Q s) → (xs : List Site) → Each P xs → Each Q xs
weaker P Q gives [] each = tt
weaker P Q gives (x ∷ xs) each = (gives x each.0, weaker P Q gives xs each.1)

both : (P : Site → Type 0) (xs ys : List Site) → Each P xs → Each P ys → Each P (xs ++ ys)
both P [] ys one other = other
both P (x ∷ xs) ys one other = (one.0, both P xs ys one.1 other)

-- two lists, where something is so of each of the one, and of none of the other
joined : (P : Site → Type 0) (xs ys : List Site) → Each P xs → Each (λ y. P y → ⊥) ys → Apart xs → Apart ys → Apart (xs ++ ys)
joined P [] ys one other a b = b
joined P (x ∷ xs) ys one other a b = (
  both (λ y. y ≢ x) xs ys a.0 (weaker (λ y. P y → ⊥) (λ y. y ≢ x) (λ y no e. no (subst P (sym e) one.0)) ys other),
  joined P xs ys one.1 other a.1 b,
)

at_place : (P : Site → Type 0) (xs : List Site) (i : ℕ) (x : Site) → Each P xs → slice_get xs i ≡ Some x → P x
at_place P [] i x each e = absurd cc
at_place P (y ∷ xs) zero x each e = let is : y ≡ x = cc in subst P is each.0
at_place P (y ∷ xs) (suc i) x each e = at_place P xs i x each.1 e

once : (xs : List Site) (i j : ℕ) (x : Site) → Apart xs → slice_get xs i ≡ Some x → slice_get xs j ≡ Some x → i ≡ j
once [] i j x apart e f = absurd cc
once (y ∷ xs) zero zero x apart e f = refl
once (y ∷ xs) zero (suc j) x apart e f = let is : y ≡ x = cc in absurd (at_place (λ z. z ≢ y) xs j x apart.0 f (sym is))
once (y ∷ xs) (suc i) zero x apart e f = let is : y ≡ x = cc in absurd (at_place (λ z. z ≢ y) xs i x apart.0 e (sym is))
once (y ∷ xs) (suc i) (suc j) x apart e f = ap suc (once xs i j x apart.1 e f)

-- ---- of one program

module _ (processor : ℕ) (recovering : Bool) where
  abbrev site : ℕ → Site
  site place = record { processor = processor; recovering = recovering; place = place }

  abbrev from_place : ℕ → List Instr → List Site
  from_place n code = map (λ (e : ℕ × Instr). site e.0) (filter (λ (e : ℕ × Instr). is_fence e.1) (enumerate_from n code))

  abbrev made : Bool → ℕ × Instr → List (ℕ × Instr) → List Site
  made b e es = map (λ (e : ℕ × Instr). site e.0) (cond b (e ∷ es) es)

  -- the rest of a program, behind its first place
  abbrev rest : ℕ → List Instr → List (ℕ × Instr)
  rest n code = filter (λ (e : ℕ × Instr). is_fence e.1) (enumerate_from (n + 1) code)

  one_or_none : (P : Site → Type 0) (b : Bool) (n : ℕ) (instr : Instr) (code : List Instr) → P (site n) → Each P (from_place (n + 1) code)
      → Each P (made b (n, instr) (rest n code))
  one_or_none P true n instr code here later = (here, later)
  one_or_none P false n instr code here later = later

  not_below : (n : ℕ) (code : List Instr) → Each (λ s. n ≤ s.place) (from_place n code)
  not_below n [] = tt
  not_below n (instr ∷ code) =
      one_or_none (λ s. n ≤ s.place) (is_fence instr) n instr code (omega arith)
      (weaker (λ s. n + 1 ≤ s.place) (λ s. n ≤ s.place) (λ s above. omega (arith, above)) (from_place (n + 1) code) (not_below (n + 1) code))

  other : (n : ℕ) (s : Site) → n + 1 ≤ s.place → s ≢ site n
  other n s above e = let same : s.place ≡ n = ap (λ (t : Site). t.place) e in omega (arith, above, same)

  apart_more : (b : Bool) (n : ℕ) (instr : Instr) (code : List Instr) → Apart (from_place (n + 1) code) → Apart (made b (n, instr) (rest n code))
  apart_more true n instr code later =
      (weaker (λ s. n + 1 ≤ s.place) (λ s. s ≢ site n) (other n) (from_place (n + 1) code) (not_below (n + 1) code), later)
  apart_more false n instr code later = later

  apart_in : (n : ℕ) (code : List Instr) → Apart (from_place n code)
  apart_in n [] = tt
  apart_in n (instr ∷ code) = apart_more (is_fence instr) n instr code (apart_in (n + 1) code)

  -- each is of this program
  of_program : (n : ℕ) (code : List Instr) → Each (λ s. (s.processor ≡ processor) × (s.recovering ≡ recovering)) (from_place n code)
  of_program n [] = tt
  of_program n (instr ∷ code) =
      one_or_none (λ s. (s.processor ≡ processor) × (s.recovering ≡ recovering)) (is_fence instr) n instr code (refl, refl) (of_program (n + 1) code)

-- ---- of one processor, and of all

abbrev IsOf : ℕ → Bool → Site → Type 0
IsOf p r s = (s.processor ≡ p) × (s.recovering ≡ r)

apart_by : (p : ℕ) (programs : Programs) → Apart (sites_by p programs)
apart_by p programs =
    joined (IsOf p false) (sites_in p false programs.main) (sites_in p true programs.recovery) (of_program p false 0 programs.main)
    (weaker (IsOf p true) (λ s. IsOf p false s → ⊥) (λ s is no. true≢false (sym is.1 ∙ no.1)) (sites_in p true programs.recovery) (of_program p true 0 programs.recovery))
    (apart_in p false 0 programs.main) (apart_in p true 0 programs.recovery)

of_processor : (p : ℕ) (programs : Programs) → Each (λ s. s.processor ≡ p) (sites_by p programs)
of_processor p programs =
    both (λ s. s.processor ≡ p) (sites_in p false programs.main) (sites_in p true programs.recovery)
    (weaker (IsOf p false) (λ s. s.processor ≡ p) (λ s is. is.0) (sites_in p false programs.main) (of_program p false 0 programs.main))
    (weaker (IsOf p true) (λ s. s.processor ≡ p) (λ s is. is.0) (sites_in p true programs.recovery) (of_program p true 0 programs.recovery))

abbrev from_processor : ℕ → List Programs → List Site
from_processor n processors = flat_map (λ (e : ℕ × Programs). sites_by e.0 e.1) (enumerate_from n processors)

not_before : (n : ℕ) (processors : List Programs) → Each (λ s. n ≤ s.processor) (from_processor n processors)
not_before n [] = tt
not_before n (programs ∷ processors) =
    both (λ s. n ≤ s.processor) (sites_by n programs) (from_processor (n + 1) processors)
    (weaker (λ s. s.processor ≡ n) (λ s. n ≤ s.processor) (λ s is. omega (arith, is)) (sites_by n programs) (of_processor n programs))
    (weaker (λ s. n + 1 ≤ s.processor) (λ s. n ≤ s.processor) (λ s above. omega (arith, above)) (from_processor (n + 1) processors) (not_before (n + 1) processors))

apart_from : (n : ℕ) (processors : List Programs) → Apart (from_processor n processors)
apart_from n [] = tt
apart_from n (programs ∷ processors) =
    joined (λ s. s.processor ≡ n) (sites_by n programs) (from_processor (n + 1) processors) (of_processor n programs)
    (weaker (λ s. n + 1 ≤ s.processor) (λ s. s.processor ≡ n → ⊥) (λ s above is. omega (arith, above, is)) (from_processor (n + 1) processors) (not_before (n + 1) processors))
    (apart_by n programs) (apart_from (n + 1) processors)

pub listed_once : (object : Object) (i j : ℕ) (site : Site) → slice_get (sites_of object) i ≡ Some site → slice_get (sites_of object) j ≡ Some site → i ≡ j
listed_once object i j site = once (sites_of object) i j site (apart_from 0 object.processors)
