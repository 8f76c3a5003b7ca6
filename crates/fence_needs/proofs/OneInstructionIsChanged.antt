-- One instruction is changed and no other.
use Rattle.std.proofs.Common.{◌≡◌, ◌≢◌, ℕ, zero, suc, ◌<◌, ◌⊎◌, Bool, true, false, true≢false, Option, Some, None, List, [], ◌∷◌, length, get_or, refl, sym, ap, ◌∙◌, subst, inl, inr, arith}
use Rattle.std.specs.Prelude.{option_map, slice_get, slice_set}
use Rattle.std.specs.Option.{option_map_or}
use Rattle.std.proofs.lemmas.Bool.{cases_eq}
use Rattle.std.proofs.lemmas.List.{get_or-set_other, length-set}
use Rattle.isa.specs.declared.instr.Instr.{Instr}
use Rattle.isa.specs.declared.instr.Instr.TheVariants.{Nop}
use Rattle.isa.specs.declared.programs.Programs.{Programs}
use Rattle.isa.specs.Objects.{Object}
use Rattle.image_reasons.specs.declared.entries.Site.{Site}
use Rattle.fence_needs.specs.Changes.{IsAPlace, replaced, replaced_in, without}
use Rattle.image_reasons.specs.PutIn.{code_at}
use Rattle.image_reasons.specs.Repairs.{code_of}
use Rattle.fence_needs.specs.Sites.{instr_at}
use Rattle.fence_needs.proofs.ChangesAtPlaces.{changed_there, same_elsewhere}

set_read : (code : List Instr) (i : ℕ) (instr : Instr) → get_or (slice_set code i instr) i instr ≡ instr
set_read [] i instr = refl
set_read (x ∷ code) zero instr = refl
set_read (x ∷ code) (suc i) instr = set_read code i instr

set_there : (code : List Instr) (i : ℕ) (instr d : Instr) → i < length code → get_or (slice_set code i instr) i d ≡ instr
set_there [] i instr d within = absurd (omega (arith, within))
set_there (x ∷ code) zero instr d within = refl
set_there (x ∷ code) (suc i) instr d within = set_there code i instr d (omega (arith, within))

pub same_flag : (a b : Bool) → (a ≡ b) ⊎ (a ≢ b)
same_flag false false = inl refl
same_flag false true = inr (λ e. true≢false (sym e))
same_flag true false = inr (λ e. true≢false e)
same_flag true true = inl refl

code_changed : (recovering : Bool) (place : ℕ) (instr : Instr) (programs : Programs) → code_of recovering (replaced_in recovering place instr programs) ≡ slice_set (code_of recovering programs) place instr
code_changed false place instr programs = refl
code_changed true place instr programs = refl

code_kept : (recovering other : Bool) (place : ℕ) (instr : Instr) (programs : Programs) → other ≢ recovering → code_of other (replaced_in recovering place instr programs) ≡ code_of other programs
code_kept false false place instr programs apart = absurd (apart refl)
code_kept false true place instr programs apart = refl
code_kept true false place instr programs apart = refl
code_kept true true place instr programs apart = absurd (apart refl)

-- a program of a processor that may be there
abbrev code_in : Bool → Option Programs → List Instr
code_in recovering o = option_map_or (code_of recovering) o []

changed_in : (recovering : Bool) (place : ℕ) (instr : Instr) (o : Option Programs) → code_in recovering (option_map (replaced_in recovering place instr) o) ≡ slice_set (code_in recovering o) place instr
changed_in recovering place instr None = refl
changed_in recovering place instr (Some programs) = code_changed recovering place instr programs

kept_in : (recovering other : Bool) (place : ℕ) (instr : Instr) (o : Option Programs) → other ≢ recovering → code_in other (option_map (replaced_in recovering place instr) o) ≡ code_in other o
kept_in recovering other place instr None apart = refl
kept_in recovering other place instr (Some programs) apart = code_kept recovering other place instr programs apart

module _ (object : Object) (site : Site) (instr : Instr) where
  code_here : code_at (replaced object site instr) site.processor site.recovering ≡ slice_set (code_at object site.processor site.recovering) site.place instr
  code_here =
      ap (code_in site.recovering) (changed_there (replaced_in site.recovering site.place instr) site.processor object.processors)
      ∙ changed_in site.recovering site.place instr (slice_get object.processors site.processor)

  code_beside : (other : Bool) → other ≢ site.recovering → code_at (replaced object site instr) site.processor other ≡ code_at object site.processor other
  code_beside other apart =
      ap (code_in other) (changed_there (replaced_in site.recovering site.place instr) site.processor object.processors)
      ∙ kept_in site.recovering other site.place instr (slice_get object.processors site.processor) apart

  code_elsewhere : (p : ℕ) (recovering : Bool) → p ≢ site.processor → code_at (replaced object site instr) p recovering ≡ code_at object p recovering
  code_elsewhere p recovering apart = ap (code_in recovering) (same_elsewhere (replaced_in site.recovering site.place instr) site.processor object.processors p apart)

  pub instr_here : IsAPlace object site → instr_at (replaced object site instr) site ≡ instr
  instr_here there =
      ap (λ (code : List Instr). get_or code site.place Nop) code_here
      ∙ set_there (code_at object site.processor site.recovering) site.place instr Nop there

  -- the instruction at a place of a program, where that program is known to be as it was
  same_place : (p : ℕ) (recovering : Bool) (place : ℕ) → code_at (replaced object site instr) p recovering ≡ code_at object p recovering
      → get_or (code_at (replaced object site instr) p recovering) place Nop ≡ get_or (code_at object p recovering) place Nop
  same_place p recovering place same = ap (λ (code : List Instr). get_or code place Nop) same

  in_program : (place : ℕ) → (place ≡ site.place) ⊎ (place ≢ site.place) → record { processor = site.processor; recovering = site.recovering; place = place } ≢ site
      → get_or (code_at (replaced object site instr) site.processor site.recovering) place Nop ≡ get_or (code_at object site.processor site.recovering) place Nop
  in_program place (inl e) apart =
      absurd (apart (ap (λ (n : ℕ). let s : Site = record { processor = site.processor; recovering = site.recovering; place = n } in s) e))
  in_program place (inr ne) apart =
      ap (λ (code : List Instr). get_or code place Nop) code_here ∙ get_or-set_other (code_at object site.processor site.recovering) site.place place instr Nop ne

  in_processor : (recovering : Bool) (place : ℕ) → (recovering ≡ site.recovering) ⊎ (recovering ≢ site.recovering) → record { processor = site.processor; recovering = recovering; place = place } ≢ site
      → get_or (code_at (replaced object site instr) site.processor recovering) place Nop ≡ get_or (code_at object site.processor recovering) place Nop
  in_processor recovering place (inl e) apart =
      subst
      (λ (k : Bool). (let s : Site = record { processor = site.processor; recovering = k; place = place } in s ≢ site)
      → get_or (code_at (replaced object site instr) site.processor k) place Nop ≡ get_or (code_at object site.processor k) place Nop)
      (sym e) (in_program place (cases_eq place site.place)) apart
  in_processor recovering place (inr ne) apart = same_place site.processor recovering place (code_beside recovering ne)

  anywhere : (p : ℕ) (recovering : Bool) (place : ℕ) → (p ≡ site.processor) ⊎ (p ≢ site.processor) → record { processor = p; recovering = recovering; place = place } ≢ site
      → get_or (code_at (replaced object site instr) p recovering) place Nop ≡ get_or (code_at object p recovering) place Nop
  anywhere p recovering place (inl e) apart =
      subst
      (λ (q : ℕ). (let s : Site = record { processor = q; recovering = recovering; place = place } in s ≢ site)
      → get_or (code_at (replaced object site instr) q recovering) place Nop ≡ get_or (code_at object q recovering) place Nop)
      (sym e) (in_processor recovering place (same_flag recovering site.recovering)) apart
  anywhere p recovering place (inr ne) apart = same_place p recovering place (code_elsewhere p recovering ne)

  pub others_stay : (other : Site) → other ≢ site → instr_at (replaced object site instr) other ≡ instr_at object other
  others_stay other apart = anywhere other.processor other.recovering other.place (cases_eq other.processor site.processor) apart

  length_by : (p : ℕ) (recovering : Bool) → (p ≡ site.processor) ⊎ (p ≢ site.processor) → (recovering ≡ site.recovering) ⊎ (recovering ≢ site.recovering)
      → length (code_at (replaced object site instr) p recovering) ≡ length (code_at object p recovering)
  length_by p recovering (inr ne) k = ap (λ (code : List Instr). length code) (code_elsewhere p recovering ne)
  length_by p recovering (inl e) (inr ne) =
      subst (λ (q : ℕ). length (code_at (replaced object site instr) q recovering) ≡ length (code_at object q recovering)) (sym e) (ap (λ (code : List Instr). length code) (code_beside recovering ne))
  length_by p recovering (inl e) (inl same) =
      subst (λ (q : ℕ). length (code_at (replaced object site instr) q recovering) ≡ length (code_at object q recovering)) (sym e)
      (subst (λ (k : Bool). length (code_at (replaced object site instr) site.processor k) ≡ length (code_at object site.processor k)) (sym same)
      (ap (λ (code : List Instr). length code) code_here ∙ length-set (code_at object site.processor site.recovering) site.place instr))

  pub lengths_stay : (p : ℕ) (recovering : Bool) → length (code_at (replaced object site instr) p recovering) ≡ length (code_at object p recovering)
  lengths_stay p recovering = length_by p recovering (cases_eq p site.processor) (same_flag recovering site.recovering)

pub nop_here : (object : Object) (site : Site) → instr_at (without object site) site ≡ Nop
nop_here object site =
    ap (λ (code : List Instr). get_or code site.place Nop) (code_here object site Nop) ∙ set_read (code_at object site.processor site.recovering) site.place Nop
