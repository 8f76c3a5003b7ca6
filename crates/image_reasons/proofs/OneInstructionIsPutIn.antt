-- A repaired program is the old one with one instruction more.
use Rattle.std.proofs.Common.{◌≡◌, ◌≢◌, ℕ, zero, suc, ◌+◌, ◌<◌, ◌≤◌, ◌⊎◌, Bool, true, false, Option, Some, None, List, [], ◌∷◌, length, map, option_map, refl, sym, ap, subst, ◌∙◌, arith, inl, inr}
use Rattle.std.specs.Prelude.{if◌then◌else◌, nat_lt, slice_get, slice_set}
use Rattle.std.specs.List.{insert}
use Rattle.std.specs.Option.{option_and_then, option_map_or}
use Rattle.std.proofs.lemmas.Bool.{cases_eq, ltb-false, ltb-true}
use Rattle.std.proofs.lemmas.List.{length-map, length-set}
use Rattle.std.proofs.lemmas.Option.{slice_get-map}
use Rattle.isa.specs.declared.instr.Instr.{Instr}
use Rattle.isa.specs.declared.programs.Programs.{Programs}
use Rattle.isa.specs.Loadables.{is_loadable}
use Rattle.isa.specs.Objects.{IsObject, Object, shape}
use Rattle.isa.specs.Programs.{is_program}
use Rattle.image_reasons.specs.declared.repair.Repair.{Repair}
use Rattle.image_reasons.specs.declared.repair.Side.{Side}
use Rattle.image_reasons.specs.declared.repair.Side.TheVariants.{Before, Behind}
use Rattle.image_reasons.specs.PutIn.{HasOneMore, IsNoRepair, IsThere, OthersStay, RestStays, code_at, code_there, new_processors}
use Rattle.image_reasons.specs.Repairs.{code_of, led_on, put_at, repaired, repaired_code, repaired_programs, shifted, with_code, with_instr, with_processors, with_programs}

-- ---- lists with one more

module _ {X : Type 0} where
  length_insert : (xs : List X) (n : ℕ) (x : X) → length (insert xs n x) ≡ length xs + 1
  length_insert [] zero x = refl
  length_insert [] (suc n) x = refl
  length_insert (y ∷ xs) zero x = omega arith
  length_insert (y ∷ xs) (suc n) x = let rest = length_insert xs n x in omega (arith, rest)

  insert_there : (xs : List X) (n : ℕ) (x : X) → n ≤ length xs → slice_get (insert xs n x) n ≡ Some x
  insert_there xs zero x within = refl
  insert_there [] (suc n) x within = absurd (omega (arith, within))
  insert_there (y ∷ xs) (suc n) x within = insert_there xs n x (omega (arith, within))

  insert_before : (xs : List X) (n i : ℕ) (x : X) → n ≤ length xs → i < n → slice_get (insert xs n x) i ≡ slice_get xs i
  insert_before xs zero i x within below = absurd (omega (arith, below))
  insert_before [] (suc n) i x within below = absurd (omega (arith, within))
  insert_before (y ∷ xs) (suc n) zero x within below = refl
  insert_before (y ∷ xs) (suc n) (suc i) x within below = insert_before xs n i x (omega (arith, within)) (omega (arith, below))

  insert_behind : (xs : List X) (n i : ℕ) (x : X) → n ≤ i → slice_get (insert xs n x) (suc i) ≡ slice_get xs i
  insert_behind xs zero i x from = refl
  insert_behind [] (suc n) zero x from = refl
  insert_behind [] (suc n) (suc i) x from = refl
  insert_behind (y ∷ xs) (suc n) zero x from = absurd (omega (arith, from))
  insert_behind (y ∷ xs) (suc n) (suc i) x from = insert_behind xs n i x (omega (arith, from))

  set_there : (xs : List X) (n : ℕ) (x old : X) → slice_get xs n ≡ Some old → slice_get (slice_set xs n x) n ≡ Some x
  set_there [] n x old e = absurd cc
  set_there (y ∷ xs) zero x old e = refl
  set_there (y ∷ xs) (suc n) x old e = set_there xs n x old e

  set_elsewhere : (xs : List X) (n i : ℕ) (x : X) → i ≢ n → slice_get (slice_set xs n x) i ≡ slice_get xs i
  set_elsewhere [] n i x other = refl
  set_elsewhere (y ∷ xs) zero zero x other = absurd (other refl)
  set_elsewhere (y ∷ xs) zero (suc i) x other = refl
  set_elsewhere (y ∷ xs) (suc n) zero x other = refl
  set_elsewhere (y ∷ xs) (suc n) (suc i) x other = set_elsewhere xs n i x (λ e. other (ap suc e))

-- ---- a program with one instruction more

-- where a jump leads, told by where it led
abbrev IsShifted : ℕ → ℕ → Bool → Type 0
IsShifted place target true = (place < target) × (shifted place target ≡ target + 1)
IsShifted place target false = (target ≤ place) × (shifted place target ≡ target)

is_shifted : (place target : ℕ) (b : Bool) → nat_lt place target ≡ b → IsShifted place target b
is_shifted place target true e = (ltb-true place target e, ap (λ c. if c then target + 1 else target) e)
is_shifted place target false e = (ltb-false place target e, ap (λ c. if c then target + 1 else target) e)

put_beyond : (side : Side) (place target : ℕ) → place < target → put_at side place ≤ target
put_beyond Before place target e = omega (arith, e)
put_beyond Behind place target e = omega (arith, e)

put_within : (side : Side) (place count : ℕ) → place < count → put_at side place ≤ count
put_within Before place count e = omega (arith, e)
put_within Behind place count e = omega (arith, e)

-- the last place from which a jump is not led on is before what is put in, or it is the place itself
kept_below : (side : Side) (place target : ℕ) → target ≤ place → target ≢ put_at side place → target < put_at side place
kept_below Before place target e other = omega (arith, e, other)
kept_below Behind place target e other = omega (arith, e)

met_before : (side : Side) (place target : ℕ) → target ≤ place → target ≡ put_at side place → (side ≡ Before) × (target ≡ place)
met_before Before place target e same = (refl, same)
met_before Behind place target e same = absurd (omega (arith, e, same))

module _ (side : Side) (place : ℕ) (instr : Instr) (code : List Instr) (there : place < length code) where
  abbrev moved : List Instr
  moved = map (led_on place) code

  abbrev new : List Instr
  new = with_instr side place instr code

  abbrev at : ℕ
  at = put_at side place

  as_many : length moved ≡ length code
  as_many = length-map code (led_on place)

  within : at ≤ length moved
  within = let put = put_within side place (length code) there in omega (arith, put, as_many)

  old_moved : (i : ℕ) → slice_get moved i ≡ option_map (led_on place) (slice_get code i)
  old_moved i = slice_get-map (led_on place) code i

  one_more : length new ≡ length code + 1
  one_more = let longer = length_insert moved at instr in omega (arith, longer, as_many)

  is_there : slice_get new at ≡ Some instr
  is_there = insert_there moved at instr within

  is_before : (i : ℕ) → i < at → slice_get new i ≡ option_map (led_on place) (slice_get code i)
  is_before i below = insert_before moved at i instr within below ∙ old_moved i

  is_behind : (i : ℕ) → at ≤ i → slice_get new (i + 1) ≡ option_map (led_on place) (slice_get code i)
  is_behind i from =
      let next : i + 1 ≡ suc i = omega arith in
      ap (slice_get new) next ∙ (insert_behind moved at i instr from ∙ old_moved i)

  jump_by : (target : ℕ) (b : Bool) → IsShifted place target b → shifted place target ≢ at → slice_get new (shifted place target) ≡ option_map (led_on place) (slice_get code target)
  jump_by target true (beyond, e) other = ap (slice_get new) e ∙ is_behind target (put_beyond side place target beyond)
  jump_by target false (kept, e) other =
      ap (slice_get new) e ∙ is_before target (kept_below side place target kept (λ same. other (e ∙ same)))

  led_by : (target : ℕ) (b : Bool) → IsShifted place target b → shifted place target ≡ at → (side ≡ Before) × (target ≡ place)
  led_by target true (beyond, e) same =
      let put = put_beyond side place target beyond in
      absurd (omega (arith, put, e, same))
  led_by target false (kept, e) same = met_before side place target kept (sym e ∙ same)

  jump : (target : ℕ) → shifted place target ≢ at → slice_get new (shifted place target) ≡ option_map (led_on place) (slice_get code target)
  jump target other = jump_by target (nat_lt place target) (is_shifted place target (nat_lt place target) refl) other

  led : (target : ℕ) → shifted place target ≡ at → (side ≡ Before) × (target ≡ place)
  led target same = led_by target (nat_lt place target) (is_shifted place target (nat_lt place target) refl) same

has_one_more : (repair : Repair) (code : List Instr) → repair.site.place < length code → is_program (with_instr repair.side repair.site.place repair.instr code) ≡ true
    → HasOneMore repair code (with_instr repair.side repair.site.place repair.instr code)
has_one_more repair code there is =
    let side = repair.side in
    let place = repair.site.place in
    record {
      program = is;
      count = one_more side place repair.instr code there;
      there = is_there side place repair.instr code there;
      before = is_before side place repair.instr code there;
      behind = is_behind side place repair.instr code there;
      jumps = jump side place repair.instr code there;
      led = led side place repair.instr code there;
    }

-- ---- the parts of an object that is repaired

abbrev new_object : Object → Repair → Programs → Object
new_object object repair programs = record object { processors = new_processors object repair programs }

record IsRepaired (object : Object) (repair : Repair) (changed : Object) : Type 0 where
  pub programs : Programs
  pub at : slice_get object.processors repair.site.processor ≡ Some programs
  pub program : is_program (repaired_code repair programs) ≡ true
  pub loadable : is_loadable (shape object) (new_processors object repair programs) ≡ true
  pub is : new_object object repair programs ≡ changed

only_if : {X : Type 0} (b : Bool) (x y : X) → (if b then Some x else None) ≡ Some y → (b ≡ true) × (x ≡ y)
only_if true x y e = let same : x ≡ y = cc in (refl, same)
only_if false x y e = absurd cc

none_if : {X : Type 0} (b : Bool) (x : X) → (if b then Some x else None) ≡ None → b ≡ false
none_if true x e = absurd cc
none_if false x e = refl

module _ (object : Object) (repair : Repair) where
  -- the object with the programs, as they may be
  abbrev by_programs : Option Programs → Option Object
  by_programs found = option_and_then (λ programs. option_and_then (with_programs object repair.site.processor) (repaired_programs repair programs)) found

  abbrev by_code : Programs → Option (List Instr) → Option Object
  by_code programs code = option_and_then (with_programs object repair.site.processor) (option_map (with_code repair.site.recovering programs) code)

  code_only : (programs : Programs) (b : Bool) (changed : Object) → by_code programs (if b then Some (repaired_code repair programs) else None) ≡ Some changed
      → (b ≡ true) × (with_processors object (new_processors object repair programs) ≡ Some changed)
  code_only programs true changed e = (refl, e)
  code_only programs false changed e = absurd cc

  programs_only : (found : Option Programs) (changed : Object) → slice_get object.processors repair.site.processor ≡ found → by_programs found ≡ Some changed → IsRepaired object repair changed
  programs_only None changed at e = absurd cc
  programs_only (Some programs) changed at e =
      let code = code_only programs (is_program (repaired_code repair programs)) changed e in
      let loaded = only_if (is_loadable (shape object) (new_processors object repair programs)) (new_object object repair programs) changed code.1 in
      record { programs = programs; at = at; program = code.0; loadable = loaded.0; is = loaded.1 }

  is_repaired : (changed : Object) → repaired object repair ≡ Some changed → IsRepaired object repair changed
  is_repaired changed e = programs_only (slice_get object.processors repair.site.processor) changed refl e

  code_none : (programs : Programs) (b : Bool) → is_program (repaired_code repair programs) ≡ b → by_code programs (if b then Some (repaired_code repair programs) else None) ≡ None
      → IsNoRepair object repair programs
  code_none programs true is e = inr (none_if (is_loadable (shape object) (new_processors object repair programs)) (new_object object repair programs) e)
  code_none programs false is e = inl is

pub is_no_repair : (object : Object) (repair : Repair) (programs : Programs) → repaired object repair ≡ None → slice_get object.processors repair.site.processor ≡ Some programs → IsNoRepair object repair programs
is_no_repair object repair programs e at =
    code_none object repair programs (is_program (repaired_code repair programs)) refl (ap (by_programs object repair) (sym at) ∙ e)

-- ---- programs of a processor

same_flag : (a b : Bool) → (a ≡ b) ⊎ (a ≢ b)
same_flag true true = inl refl
same_flag true false = inr (λ e. absurd cc)
same_flag false true = inr (λ e. absurd cc)
same_flag false false = inl refl

code_changed : (recovering : Bool) (programs : Programs) (code : List Instr) → code_of recovering (with_code recovering programs code) ≡ code
code_changed true programs code = refl
code_changed false programs code = refl

code_kept : (recovering other : Bool) (programs : Programs) (code : List Instr) → other ≢ recovering → code_of other (with_code recovering programs code) ≡ code_of other programs
code_kept true true programs code apart = absurd (apart refl)
code_kept true false programs code apart = refl
code_kept false true programs code apart = refl
code_kept false false programs code apart = absurd (apart refl)

-- ---- the laws

abbrev code_in : Bool → Option Programs → List Instr
code_in recovering found = option_map_or (code_of recovering) found []

module _ (object : Object) (repair : Repair) where
  abbrev p : ℕ
  p = repair.site.processor

  abbrev r : Bool
  r = repair.site.recovering

  module _ (changed : Object) (e : repaired object repair ≡ Some changed) where
    abbrev done : IsRepaired object repair changed
    done = is_repaired object repair changed e

    abbrev programs : Programs
    programs = done.programs

    code_was : code_there object repair ≡ code_of r programs
    code_was = ap (code_in r) done.at

    new_there : slice_get (new_processors object repair programs) p ≡ Some (with_code r programs (repaired_code repair programs))
    new_there = set_there object.processors p (with_code r programs (repaired_code repair programs)) programs done.at

    code_is : code_there changed repair ≡ repaired_code repair programs
    code_is =
        ap (λ (o : Object). code_there o repair) (sym done.is)
        ∙ (ap (code_in r) new_there ∙ code_changed r programs (repaired_code repair programs))

    pub more : IsThere object repair → HasOneMore repair (code_there object repair) (code_there changed repair)
    more there =
        let one = has_one_more repair (code_of r programs) (subst (λ (code : List Instr). repair.site.place < length code) code_was there) done.program in
        subst (λ (code : List Instr). HasOneMore repair code (code_there changed repair)) (sym code_was)
        (subst (λ (code : List Instr). HasOneMore repair (code_of r programs) code) (sym code_is) one)

    other_processor : (q : ℕ) (recovering : Bool) → q ≢ p → code_at changed q recovering ≡ code_at object q recovering
    other_processor q recovering apart =
        ap (λ (o : Object). code_at o q recovering) (sym done.is)
        ∙ ap (code_in recovering) (set_elsewhere object.processors p q (with_code r programs (repaired_code repair programs)) apart)

    beside : (recovering : Bool) → recovering ≢ r → code_at changed p recovering ≡ code_at object p recovering
    beside recovering apart =
        ap (λ (o : Object). code_at o p recovering) (sym done.is)
        ∙ (ap (code_in recovering) new_there
        ∙ (code_kept r recovering programs (repaired_code repair programs) apart ∙ ap (code_in recovering) (sym done.at)))

    by_place : (q : ℕ) (recovering : Bool) → (q ≡ p) ⊎ (q ≢ p) → (q ≢ p) ⊎ (recovering ≢ r) → code_at changed q recovering ≡ code_at object q recovering
    by_place q recovering (inr other) apart = other_processor q recovering other
    by_place q recovering (inl same) (inl other) = other_processor q recovering other
    by_place q recovering (inl same) (inr apart) =
        ap (λ (i : ℕ). code_at changed i recovering) same ∙ (beside recovering apart ∙ ap (λ (i : ℕ). code_at object i recovering) (sym same))

    pub others : OthersStay object repair changed
    others q recovering apart = by_place q recovering (cases_eq q p) apart

    pub rest : RestStays object changed
    rest = (
      ap (λ (o : Object). o.layout) (sym done.is),
      ap (λ (o : Object). o.values) (sym done.is),
      ap (λ (o : Object). length o.processors) (sym done.is) ∙ length-set object.processors p (with_code r programs (repaired_code repair programs)),
    )

    pub stays_object : IsObject object → IsObject changed
    stays_object is = subst (λ (o : Object). IsObject o) done.is (record { loadable = done.loadable; count = is.count; zero = is.zero })
