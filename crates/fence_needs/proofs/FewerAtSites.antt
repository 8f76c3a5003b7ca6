-- A program without the instructions at some sites has more flushes and fences than without those at more sites.
use Rattle.std.proofs.Common.{◌≡◌, ◌≢◌, ℕ, zero, suc, ◌<◌, ◌⊎◌, Bool, true, false, Option, Some, List, [], ◌∷◌, ◌++◌, length, get_or, refl, sym, ap, subst, ◌∙◌, arith, inl, inr}
use Rattle.std.specs.Prelude.{Contains, slice_get}
use Rattle.std.specs.Option.{option_map_or}
use Rattle.std.proofs.lemmas.Bool.{cases_eq}
use Rattle.isa.specs.declared.instr.Instr.{Instr}
use Rattle.isa.specs.declared.instr.Instr.TheVariants.{Nop}
use Rattle.isa.specs.declared.programs.Programs.{Programs}
use Rattle.isa.specs.Objects.{Object, shape}
use Rattle.machine.specs.Objects.{IsLoadable}
use Rattle.image_reasons.specs.declared.entries.Site.{Site}
use Rattle.image_reasons.specs.PutIn.{code_at}
use Rattle.image_reasons.specs.Repairs.{code_of}
use Rattle.explore.specs.declared.question.Question.{Question}
use Rattle.verdicts.specs.Verdicts.{IsBrokenBy}
use Rattle.fewer_fences.specs.Thinner.{AreFewer, HasNops, IsOrIsNop, may_be_nop}
use Rattle.fewer_fences.proofs.QuestionsKept.{broken_too}
use Rattle.fence_needs.specs.Changes.{replaced_in, without, without_all}
use Rattle.fence_needs.specs.Sites.{instr_at}
use Rattle.fence_needs.proofs.ChangesKeepObjects.{change_keeps_loadable, change_length}
use Rattle.fence_needs.proofs.OneInstructionIsChanged.{lengths_stay, nop_here, others_stay, same_flag}

-- ---- sites of a list

abbrev pub In : Site → List Site → Type 0
In s [] = ⊥
In s (x ∷ xs) = (x ≡ s) ⊎ In s xs

pub in_first : (xs ys : List Site) (s : Site) → In s xs → In s (xs ++ ys)
in_first [] ys s is = absurd is
in_first (x ∷ xs) ys s (inl e) = inl e
in_first (x ∷ xs) ys s (inr is) = inr (in_first xs ys s is)

pub in_last : (xs ys : List Site) (s : Site) → In s ys → In s (xs ++ ys)
in_last [] ys s is = is
in_last (x ∷ xs) ys s is = inr (in_last xs ys s is)

in_behind : (x : Site) (xs ys : List Site) (s : Site) → In s xs ⊎ In s ys → In s (x ∷ xs) ⊎ In s ys
in_behind x xs ys s (inl is) = inl (inr is)
in_behind x xs ys s (inr is) = inr is

pub in_either : (xs ys : List Site) (s : Site) → In s (xs ++ ys) → In s xs ⊎ In s ys
in_either [] ys s is = inr is
in_either (x ∷ xs) ys s (inl e) = inl (inl e)
in_either (x ∷ xs) ys s (inr is) = in_behind x xs ys s (in_either xs ys s is)

pub in_one : (x s : Site) → In s (x ∷ []) → x ≡ s
in_one x s (inl e) = e
in_one x s (inr is) = absurd is

pub contains_in : (xs : List Site) (s : Site) → In s xs → Contains xs s
contains_in [] s is = absurd is
contains_in (x ∷ xs) s (inl e) = (0, omega arith, e)
contains_in (x ∷ xs) s (inr is) =
    let c = contains_in xs s is in
    let k = c.0 in let within : k < length xs = c.1 in (suc k, omega (arith, within), c.2)

in_at : (xs : List Site) (k : ℕ) (s : Site) → k < length xs → get_or xs k s ≡ s → In s xs
in_at [] k s within is = absurd (omega (arith, within))
in_at (x ∷ xs) zero s within is = inl is
in_at (x ∷ xs) (suc k) s within is = inr (in_at xs k s (omega (arith, within)) is)

pub in_contains : (xs : List Site) (s : Site) → Contains xs s → In s xs
in_contains xs s c = in_at xs c.0 s c.1 c.2

-- ---- what is at a site

same_parts : (a b : Site) → (a.processor ≡ b.processor) ⊎ (a.processor ≢ b.processor) → (a.recovering ≡ b.recovering) ⊎ (a.recovering ≢ b.recovering)
    → (a.place ≡ b.place) ⊎ (a.place ≢ b.place) → (a ≡ b) ⊎ (a ≢ b)
same_parts a b (inl p) (inl r) (inl k) = inl (λ i. record { processor = p i; recovering = r i; place = k i })
same_parts a b (inr apart) r k = inr (λ e. apart (ap (λ (s : Site). s.processor) e))
same_parts a b (inl p) (inr apart) k = inr (λ e. apart (ap (λ (s : Site). s.recovering) e))
same_parts a b (inl p) (inl r) (inr apart) = inr (λ e. apart (ap (λ (s : Site). s.place) e))

pub same_site : (a b : Site) → (a ≡ b) ⊎ (a ≢ b)
same_site a b = same_parts a b (cases_eq a.processor b.processor) (same_flag a.recovering b.recovering) (cases_eq a.place b.place)

pub neither : (x s : Site) (xs : List Site) → x ≢ s → (In s xs → ⊥) → In s (x ∷ xs) → ⊥
neither x s xs other away (inl e) = other e
neither x s xs other away (inr is) = away is

-- a nop, or what was there
abbrev IsLeftAt : Object → List Site → Object → Site → Type 0
IsLeftAt object sites left s = (In s sites × (instr_at left s ≡ Nop)) ⊎ ((In s sites → ⊥) × (instr_at left s ≡ instr_at object s))

one_more : (object left : Object) (x : Site) (sites : List Site) (s : Site) → (x ≡ s) ⊎ (x ≢ s) → IsLeftAt (without object x) sites left s → IsLeftAt object (x ∷ sites) left s
one_more object left x sites s same (inl (there, nop)) = inl (inr there, nop)
one_more object left x sites s (inl e) (inr (away, is)) =
    inl (inl e, is ∙ subst (λ (y : Site). instr_at (without object x) y ≡ Nop) e (nop_here object x))
one_more object left x sites s (inr other) (inr (away, is)) =
    inr (neither x s sites other away, is ∙ others_stay object x Nop s (λ e. other (sym e)))

left_at : (object : Object) (sites : List Site) (s : Site) → IsLeftAt object sites (without_all object sites) s
left_at object [] s = inr (λ none. none, refl)
left_at object (x ∷ sites) s = one_more object (without_all (without object x) sites) x sites s (same_site x s) (left_at (without object x) sites s)

-- ---- what stays the same

lengths_all : (object : Object) (sites : List Site) (p : ℕ) (recovering : Bool) → length (code_at (without_all object sites) p recovering) ≡ length (code_at object p recovering)
lengths_all object [] p recovering = refl
lengths_all object (x ∷ sites) p recovering = lengths_all (without object x) sites p recovering ∙ lengths_stay object x Nop p recovering

processors_all : (object : Object) (sites : List Site) → length (without_all object sites).processors ≡ length object.processors
processors_all object [] = refl
processors_all object (x ∷ sites) =
    processors_all (without object x) sites ∙ change_length (replaced_in x.recovering x.place Nop) x.processor object.processors

layout_all : (object : Object) (sites : List Site) → (without_all object sites).layout ≡ object.layout
layout_all object [] = refl
layout_all object (x ∷ sites) = layout_all (without object x) sites

values_all : (object : Object) (sites : List Site) → (without_all object sites).values ≡ object.values
values_all object [] = refl
values_all object (x ∷ sites) = values_all (without object x) sites

pub loadable_all : (object : Object) (sites : List Site) → IsLoadable object → IsLoadable (without_all object sites)
loadable_all object [] loadable = loadable
loadable_all object (x ∷ sites) loadable =
    loadable_all (without object x) sites (change_keeps_loadable (shape object) x Nop object.processors refl loadable)

-- ---- fewer, site by site

read_at : (code : List Instr) (k : ℕ) (instr : Instr) → slice_get code k ≡ Some instr → get_or code k Nop ≡ instr
read_at [] k instr at = absurd cc
read_at (x ∷ code) zero instr at = let is : x ≡ instr = cc in is
read_at (x ∷ code) (suc k) instr at = read_at code k instr at

code_is : (object : Object) (p : ℕ) (recovering : Bool) (programs : Programs) → slice_get object.processors p ≡ Some programs → code_at object p recovering ≡ code_of recovering programs
code_is object p recovering programs at = ap (λ (o : Option Programs). option_map_or (code_of recovering) o []) at

instr_is : (object : Object) (p : ℕ) (recovering : Bool) (place : ℕ) (programs : Programs) (instr : Instr) → slice_get object.processors p ≡ Some programs
    → slice_get (code_of recovering programs) place ≡ Some instr → instr_at object (record { processor = p; recovering = recovering; place = place }) ≡ instr
instr_is object p recovering place programs instr at there =
    ap (λ (code : List Instr). get_or code place Nop) (code_is object p recovering programs at) ∙ read_at (code_of recovering programs) place instr there

module _ (more less : Object) (same_count : length less.processors ≡ length more.processors)
    (same_lengths : (p : ℕ) (recovering : Bool) → length (code_at less p recovering) ≡ length (code_at more p recovering))
    (at_each : (s : Site) → IsOrIsNop may_be_nop (instr_at more s) (instr_at less s)) where
  code_fewer : (p : ℕ) (recovering : Bool) (this other : Programs) → slice_get more.processors p ≡ Some this → slice_get less.processors p ≡ Some other
      → HasNops may_be_nop (code_of recovering this) (code_of recovering other)
  code_fewer p recovering this other at and = record {
    count =
        ap (λ (code : List Instr). length code) (sym (code_is less p recovering other and)) ∙ same_lengths p recovering
        ∙ ap (λ (code : List Instr). length code) (code_is more p recovering this at);
    each = λ place a b here there.
        let s : Site = record { processor = p; recovering = recovering; place = place } in
        subst (λ (x : Instr). IsOrIsNop may_be_nop x b) (instr_is more p recovering place this a at here)
        (subst (λ (y : Instr). IsOrIsNop may_be_nop (instr_at more s) y) (instr_is less p recovering place other b and there) (at_each s));
  }

  by_site : less.layout ≡ more.layout → less.values ≡ more.values → AreFewer more less
  by_site layout values = record {
    layout = layout;
    values = values;
    processors = record {
      count = same_count;
      each = λ p this other at and. record { main = code_fewer p false this other at and; recovery = code_fewer p true this other at and };
    };
  }

-- ---- without more

module _ (object : Object) (some more : List Site) (within : (s : Site) → In s some → In s more)
    (may : (s : Site) → In s more → In s some ⊎ (may_be_nop (instr_at object s) ≡ true)) where
  nop_too : (s : Site) → (In s some → ⊥) → instr_at (without_all object some) s ≡ instr_at object s → instr_at (without_all object more) s ≡ Nop
      → In s some ⊎ (may_be_nop (instr_at object s) ≡ true) → IsOrIsNop may_be_nop (instr_at (without_all object some) s) (instr_at (without_all object more) s)
  nop_too s away same nop (inl there) = absurd (away there)
  nop_too s away same nop (inr passes) = inr (ap may_be_nop same ∙ passes, nop)

  at_both : (s : Site) → IsLeftAt object some (without_all object some) s → IsLeftAt object more (without_all object more) s
      → IsOrIsNop may_be_nop (instr_at (without_all object some) s) (instr_at (without_all object more) s)
  at_both s (inl (there, nop)) (inl (too, nop_then)) = inl (nop_then ∙ sym nop)
  at_both s (inl (there, nop)) (inr (away, same)) = absurd (away (within s there))
  at_both s (inr (away, same)) (inl (too, nop)) = nop_too s away same nop (may s too)
  at_both s (inr (away, same)) (inr (out, same_then)) = inl (same_then ∙ sym same)

  fewer_without : AreFewer (without_all object some) (without_all object more)
  fewer_without =
      by_site (without_all object some) (without_all object more)
      (processors_all object more ∙ sym (processors_all object some))
      (λ p recovering. lengths_all object more p recovering ∙ sym (lengths_all object some p recovering))
      (λ s. at_both s (left_at object some s) (left_at object more s))
      (layout_all object more ∙ sym (layout_all object some))
      (values_all object more ∙ sym (values_all object some))

  -- what some run breaks without some, some run breaks without more
  pub broken_without_more : (question : Question) → IsLoadable object → IsBrokenBy question (without_all object some) → IsBrokenBy question (without_all object more)
  broken_without_more question loadable =
      broken_too (without_all object some) (without_all object more) (loadable_all object some loadable) fewer_without question
