-- A program into which an instruction was put, and the program as it was.
use Rattle.std.proofs.Common.{◌≡◌, ◌≢◌, ℕ, zero, suc, ◌⊎◌, Bool, true, false, Option, Some, None, List, [], ◌∷◌, length, option_map, refl, sym, ap, subst, ◌∙◌, inl, inr}
use Rattle.std.specs.Prelude.{if◌then◌else◌, slice_get, slice_set}
use Rattle.std.specs.Option.{option_and_then, option_map_or}
use Rattle.std.proofs.lemmas.Bool.{cases_eq}
use Rattle.isa.specs.declared.instr.Instr.{Instr}
use Rattle.isa.specs.declared.programs.Programs.{Programs}
use Rattle.isa.specs.Loadables.{is_loadable}
use Rattle.isa.specs.Objects.{Object, shape}
use Rattle.isa.specs.Programs.{is_program}
use Rattle.machine.specs.Objects.{IsLoadable}
use Rattle.image_reasons.specs.declared.repair.Repair.{Repair}
use Rattle.image_reasons.specs.PutIn.{code_at, code_there, new_processors}
use Rattle.image_reasons.specs.Repairs.{code_of, repaired, repaired_code, repaired_programs, with_code, with_instr, with_processors, with_programs}
use Rattle.image_reasons.proofs.OneInstructionIsPutIn.{others, rest}
use Rattle.fewer_fences.specs.Thinner.{may_be_nop}
use Rattle.added_fences.specs.Added.{AreAdded, HasAdded}
use Rattle.added_fences.proofs.Inserted.{itself, one_more}

-- ---- the parts of an object into which an instruction was put

abbrev new_object : Object → Repair → Programs → Object
new_object object repair programs = record object { processors = new_processors object repair programs }

record IsRepaired (object : Object) (repair : Repair) (changed : Object) : Type 0 where
  programs : Programs
  at : slice_get object.processors repair.site.processor ≡ Some programs
  loadable : is_loadable (shape object) (new_processors object repair programs) ≡ true
  is : new_object object repair programs ≡ changed

only_if : {X : Type 0} (b : Bool) (x y : X) → (if b then Some x else None) ≡ Some y → (b ≡ true) × (x ≡ y)
only_if true x y e = let same : x ≡ y = cc in (refl, same)
only_if false x y e = absurd cc

module _ (object : Object) (repair : Repair) where
  abbrev by_programs : Option Programs → Option Object
  by_programs found = option_and_then (λ programs. option_and_then (with_programs object repair.site.processor) (repaired_programs repair programs)) found

  abbrev by_code : Programs → Option (List Instr) → Option Object
  by_code programs code = option_and_then (with_programs object repair.site.processor) (option_map (with_code repair.site.recovering programs) code)

  code_only : (programs : Programs) (b : Bool) (changed : Object) → by_code programs (if b then Some (repaired_code repair programs) else None) ≡ Some changed
      → with_processors object (new_processors object repair programs) ≡ Some changed
  code_only programs true changed e = e
  code_only programs false changed e = absurd cc

  programs_only : (found : Option Programs) (changed : Object) → slice_get object.processors repair.site.processor ≡ found → by_programs found ≡ Some changed → IsRepaired object repair changed
  programs_only None changed at e = absurd cc
  programs_only (Some programs) changed at e =
      let code = code_only programs (is_program (repaired_code repair programs)) changed e in
      let loaded = only_if (is_loadable (shape object) (new_processors object repair programs)) (new_object object repair programs) changed code in
      record { programs = programs; at = at; loadable = loaded.0; is = loaded.1 }

  is_repaired : (changed : Object) → repaired object repair ≡ Some changed → IsRepaired object repair changed
  is_repaired changed e = programs_only (slice_get object.processors repair.site.processor) changed refl e

pub loads : (object : Object) (repair : Repair) (changed : Object) → repaired object repair ≡ Some changed → IsLoadable changed
loads object repair changed e = let done = is_repaired object repair changed e in subst (λ (o : Object). IsLoadable o) done.is done.loadable

-- ---- the program of the site

set_is_there : {X : Type 0} (xs : List X) (n : ℕ) (x old : X) → slice_get xs n ≡ Some old → slice_get (slice_set xs n x) n ≡ Some x
set_is_there [] n x old e = absurd cc
set_is_there (y ∷ xs) zero x old e = refl
set_is_there (y ∷ xs) (suc n) x old e = set_is_there xs n x old e

code_changed : (recovering : Bool) (programs : Programs) (code : List Instr) → code_of recovering (with_code recovering programs code) ≡ code
code_changed true programs code = refl
code_changed false programs code = refl

abbrev code_in : Bool → Option Programs → List Instr
code_in recovering found = option_map_or (code_of recovering) found []

abbrev with_it : Repair → List Instr → List Instr
with_it repair code = with_instr repair.side repair.site.place repair.instr code

pub site_has : (object : Object) (repair : Repair) (changed : Object) → repaired object repair ≡ Some changed → code_there changed repair ≡ with_it repair (code_there object repair)
site_has object repair changed e =
    let done = is_repaired object repair changed e in
    let p : ℕ = repair.site.processor in
    let r : Bool = repair.site.recovering in
    ap (λ (o : Object). code_there o repair) (sym done.is)
    ∙ (ap (code_in r) (set_is_there object.processors p (with_code r done.programs (repaired_code repair done.programs)) done.programs done.at)
    ∙ (code_changed r done.programs (repaired_code repair done.programs) ∙ ap (λ (code : List Instr). with_it repair code) (sym (ap (code_in r) done.at))))

-- ---- which programs are those of the site

same_mode : (a b : Bool) → (a ≡ b) ⊎ (a ≢ b)
same_mode true true = inl refl
same_mode true false = inr (λ e. absurd cc)
same_mode false true = inr (λ e. absurd cc)
same_mode false false = inl refl

-- a program of a processor is that of the site, or it is what it was
abbrev pub SiteOrNot : Object → Repair → Object → ℕ → Bool → Type 0
SiteOrNot object repair changed p recovering =
    ((p ≡ repair.site.processor) × (recovering ≡ repair.site.recovering) × (code_at changed p recovering ≡ with_it repair (code_at object p recovering)))
    ⊎ (((p ≢ repair.site.processor) ⊎ (recovering ≢ repair.site.recovering)) × (code_at changed p recovering ≡ code_at object p recovering))

pub site_or_not : (object : Object) (repair : Repair) (changed : Object) → repaired object repair ≡ Some changed → (p : ℕ) (recovering : Bool) → SiteOrNot object repair changed p recovering
site_or_not object repair changed e p recovering = by (cases_eq p repair.site.processor) (same_mode recovering repair.site.recovering)
  where
    by : (p ≡ repair.site.processor) ⊎ (p ≢ repair.site.processor) → (recovering ≡ repair.site.recovering) ⊎ (recovering ≢ repair.site.recovering) → SiteOrNot object repair changed p recovering
    by (inr apart) mode = inr (inl apart, others object repair changed e p recovering (inl apart))
    by (inl same) (inr apart) = inr (inr apart, others object repair changed e p recovering (inr apart))
    by (inl same) (inl mode) =
        inl (
          same,
          mode,
          subst (λ (q : ℕ). code_at changed q recovering ≡ with_it repair (code_at object q recovering)) (sym same) (
              subst (λ (b : Bool). code_at changed repair.site.processor b ≡ with_it repair (code_at object repair.site.processor b)) (sym mode)
              (site_has object repair changed e)),
        )

-- ---- objects, by their programs

pub added_by_code : (more less : Object) → less.layout ≡ more.layout → less.values ≡ more.values → length less.processors ≡ length more.processors
    → ((p : ℕ) (recovering : Bool) → HasAdded may_be_nop (code_at more p recovering) (code_at less p recovering)) → AreAdded more less
added_by_code more less layout values count added = record {
  layout = layout;
  values = values;
  processors = record { count = count; each = λ p this other at and recovering. code_there_by p this other recovering at and };
}
  where
    code_there_by : (p : ℕ) (this other : Programs) (recovering : Bool) → slice_get more.processors p ≡ Some this → slice_get less.processors p ≡ Some other
        → HasAdded may_be_nop (code_of recovering this) (code_of recovering other)
    code_there_by p this other recovering at and =
        subst (λ (code : List Instr). HasAdded may_be_nop code (code_of recovering other)) (ap (code_in recovering) at) (
        subst (λ (code : List Instr). HasAdded may_be_nop (code_at more p recovering) code) (ap (code_in recovering) and) (added p recovering))

-- ---- one put in

pub one_added : (object : Object) (repair : Repair) (changed : Object) → may_be_nop repair.instr ≡ true → repaired object repair ≡ Some changed → AreAdded changed object
one_added object repair changed may e =
    let stays = rest object repair changed e in
    added_by_code changed object (sym stays.0) (sym stays.1) (sym stays.2) (λ p recovering. by p recovering (site_or_not object repair changed e p recovering))
  where
    by : (p : ℕ) (recovering : Bool) → SiteOrNot object repair changed p recovering → HasAdded may_be_nop (code_at changed p recovering) (code_at object p recovering)
    by p recovering (inl (same, mode, is)) =
        subst (λ (code : List Instr). HasAdded may_be_nop code (code_at object p recovering)) (sym is)
        (one_more may_be_nop repair.side repair.site.place repair.instr (code_at object p recovering) may)
    by p recovering (inr (apart, is)) =
        subst (λ (code : List Instr). HasAdded may_be_nop code (code_at object p recovering)) (sym is) (itself may_be_nop (code_at object p recovering))
