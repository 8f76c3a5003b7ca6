-- A site is listed exactly where a flush or a fence stands.
use Rattle.std.proofs.Common.{◌≡◌, ℕ, zero, suc, ◌<◌, ◌≤◌, ◌⊎◌, Bool, true, false, true≢false, cond, Option, Some, None, List, [], ◌∷◌, length, map, get_or, refl, sym, ap, subst, ◌∙◌, arith, inl, inr}
use Rattle.std.specs.Prelude.{slice_get}
use Rattle.std.specs.Option.{option_map_or}
use Rattle.std.specs.List.{All, Contains, enumerate_from, filter, flat_map}
use Rattle.std.proofs.lemmas.Bool.{cases_lt}
use Rattle.std.proofs.lemmas.List.{get_or-map, get_or_default, get_or_past, length-map}
use Rattle.std.proofs.lemmas.List.FromFn.{get_or-enumerate_from, length-enumerate_from}
use Rattle.std.proofs.lemmas.List.Elements.{All-append, All-filter, All-head, All-map, All-nil, All-tail, Contains-append_left, Contains-append_right, filter_passes}
use Rattle.isa.specs.declared.instr.Instr.{Instr}
use Rattle.isa.specs.declared.instr.Instr.TheVariants.{Nop}
use Rattle.isa.specs.declared.programs.Programs.{Programs}
use Rattle.isa.specs.Objects.{Object}
use Rattle.image_reasons.specs.declared.entries.Site.{Site}
use Rattle.image_reasons.specs.PutIn.{code_at}
use Rattle.image_reasons.specs.Repairs.{code_of}
use Rattle.fence_needs.specs.Sites.{instr_at, is_fence, sites_by, sites_in, sites_of}

-- ---- lists ----

there : {A : Type 0} (xs : List A) (i : ℕ) (d : A) → i < length xs → slice_get xs i ≡ Some (get_or xs i d)
there [] i d within = absurd (omega (arith, within))
there (x ∷ xs) zero d within = refl
there (x ∷ xs) (suc i) d within = there xs i d (omega (arith, within))

gone : {A : Type 0} (xs : List A) (i : ℕ) → length xs ≤ i → slice_get xs i ≡ None
gone [] i past = refl
gone (x ∷ xs) zero past = absurd (omega (arith, past))
gone (x ∷ xs) (suc i) past = gone xs i (omega (arith, past))

all_flat : {A B : Type 0} (P : B → Type 0) (f : A → List B) (es : List A) → All (λ e. All P (f e)) es → All P (flat_map f es)
all_flat P f [] all = All-nil P
all_flat P f (e ∷ es) all =
    All-append P (f e) (flat_map f es) (All-head (λ x. All P (f x)) e es all) (all_flat P f es (All-tail (λ x. All P (f x)) e es all))

in_map : {A B : Type 0} (f : A → B) (xs : List A) (x : A) → Contains xs x → Contains (map f xs) (f x)
in_map f xs x h = (h.0, subst (λ (n : ℕ). h.0 < n) (sym (length-map xs f)) h.1, get_or-map f xs h.0 x (f x) h.1 ∙ ap f h.2)

kept_by : {A : Type 0} (b : Bool) (y : A) (ys : List A) (x : A) → Contains ys x → Contains (cond b (y ∷ ys) ys) x
kept_by true y ys x h = let k = h.0 in let within : k < length ys = h.1 in (suc k, omega (arith, within), h.2)
kept_by false y ys x h = h

in_filter : {A : Type 0} (p : A → Bool) (xs : List A) (x : A) (k : ℕ) → p x ≡ true → k < length xs → get_or xs k x ≡ x → Contains (filter p xs) x
in_filter p [] x k passes within is = absurd (omega (arith, within))
in_filter p (y ∷ xs) x zero passes within is =
    subst (λ (b : Bool). Contains (cond b (y ∷ filter p xs) (filter p xs)) x) (sym (ap p is ∙ passes)) (0, omega arith, is)
in_filter p (y ∷ xs) x (suc k) passes within is = kept_by (p y) y (filter p xs) x (in_filter p xs x k passes (omega (arith, within)) is)

in_flat : {A B : Type 0} (f : A → List B) (es : List A) (d : A) (k : ℕ) (x : B) → k < length es → Contains (f (get_or es k d)) x → Contains (flat_map f es) x
in_flat f [] d k x within h = absurd (omega (arith, within))
in_flat f (e ∷ es) d zero x within h = Contains-append_left (f e) (flat_map f es) x h
in_flat f (e ∷ es) d (suc k) x within h = Contains-append_right (f e) (flat_map f es) x (in_flat f es d k x (omega (arith, within)) h)

numbered : {A : Type 0} (xs : List A) (i : ℕ) (d : ℕ × A) → i < length xs → get_or (enumerate_from 0 xs) i d ≡ (i, get_or xs i d.1)
numbered xs i d within = get_or-enumerate_from 0 xs i d within ∙ ap (λ (n : ℕ). (n, get_or xs i d.1)) (omega arith)

fewer : {A : Type 0} (xs : List A) (i : ℕ) → i < length (enumerate_from 0 xs) → i < length xs
fewer xs i within = subst (λ (n : ℕ). i < n) (length-enumerate_from 0 xs) within

-- ---- each that is listed is of a flush or a fence ----

abbrev IsOf : Object → Site → Type 0
IsOf object site = is_fence (instr_at object site) ≡ true

abbrev fence : ℕ × Instr → Bool
fence e = is_fence e.1

abbrev site_at : ℕ → Bool → ℕ × Instr → Site
site_at processor recovering e = record { processor = processor; recovering = recovering; place = e.0 }

reads : (code : List Instr) → All (λ (e : ℕ × Instr). e.1 ≡ get_or code e.0 Nop) (enumerate_from 0 code)
reads code = λ i d within.
    let inside = fewer code i within in
    subst (λ (e : ℕ × Instr). e.1 ≡ get_or code e.0 Nop) (sym (numbered code i d inside)) (get_or_default code i d.1 Nop inside)

program_only : (object : Object) (p : ℕ) (recovering : Bool) (code : List Instr) → code_at object p recovering ≡ code → All (IsOf object) (sites_in p recovering code)
program_only object p recovering code same =
    let es = filter fence (enumerate_from 0 code) in
    let read = All-filter fence (λ (e : ℕ × Instr). e.1 ≡ get_or code e.0 Nop) (enumerate_from 0 code) (reads code) in
    let passes = filter_passes fence (enumerate_from 0 code) in
    All-map (IsOf object) (site_at p recovering) es
    (λ i d within. ap (λ (c : List Instr). is_fence (get_or c (get_or es i d).0 Nop)) same ∙ sym (ap is_fence (read i d within)) ∙ passes i d within)

code_there : (object : Object) (p : ℕ) (recovering : Bool) (d : Programs) → p < length object.processors → code_at object p recovering ≡ code_of recovering (get_or object.processors p d)
code_there object p recovering d within = ap (λ (o : Option Programs). option_map_or (code_of recovering) o []) (there object.processors p d within)

abbrev by : ℕ × Programs → List Site
by e = sites_by e.0 e.1

pub listed_only : (object : Object) → All (IsOf object) (sites_of object)
listed_only object =
    all_flat (IsOf object) by (enumerate_from 0 object.processors)
    (λ i d within.
    let inside = fewer object.processors i within in
    let programs = get_or object.processors i d.1 in
    subst (λ (e : ℕ × Programs). All (IsOf object) (by e)) (sym (numbered object.processors i d inside))
    (All-append (IsOf object) (sites_in i false programs.main) (sites_in i true programs.recovery)
    (program_only object i false programs.main (code_there object i false d.1 inside))
    (program_only object i true programs.recovery (code_there object i true d.1 inside))))

-- ---- each flush and each fence is listed ----

place_within : (code : List Instr) (place : ℕ) → (place < length code) ⊎ (length code ≤ place) → is_fence (get_or code place Nop) ≡ true → place < length code
place_within code place (inl within) is = within
place_within code place (inr past) is = absurd (true≢false (sym is ∙ ap is_fence (get_or_past code place Nop past)))

in_program : (p : ℕ) (recovering : Bool) (code : List Instr) (place : ℕ) → is_fence (get_or code place Nop) ≡ true
    → Contains (sites_in p recovering code) (record { processor = p; recovering = recovering; place = place })
in_program p recovering code place is =
    let inside = place_within code place (cases_lt place (length code)) is in
    let e : ℕ × Instr = (place, get_or code place Nop) in
    let within : place < length (enumerate_from 0 code) = subst (λ (n : ℕ). place < n) (sym (length-enumerate_from 0 code)) inside in
    let here : get_or (enumerate_from 0 code) place e ≡ e =
    numbered code place e inside ∙ ap (λ (instr : Instr). let x : ℕ × Instr = (place, instr) in x) (get_or_default code place e.1 Nop inside) in
    in_map (site_at p recovering) (filter fence (enumerate_from 0 code)) e (in_filter fence (enumerate_from 0 code) e place is within here)

in_processor : (p : ℕ) (recovering : Bool) (programs : Programs) (place : ℕ) → is_fence (get_or (code_of recovering programs) place Nop) ≡ true
    → Contains (sites_by p programs) (record { processor = p; recovering = recovering; place = place })
in_processor p false programs place is =
    Contains-append_left (sites_in p false programs.main) (sites_in p true programs.recovery) (record { processor = p; recovering = false; place = place })
    (in_program p false programs.main place is)
in_processor p true programs place is =
    Contains-append_right (sites_in p false programs.main) (sites_in p true programs.recovery) (record { processor = p; recovering = true; place = place })
    (in_program p true programs.recovery place is)

no_programs : Programs
no_programs = record { main = []; recovery = [] }

processor_within : (object : Object) (site : Site) → (site.processor < length object.processors) ⊎ (length object.processors ≤ site.processor)
    → IsOf object site → site.processor < length object.processors
processor_within object site (inl within) is = within
processor_within object site (inr past) is =
    let none : instr_at object site ≡ Nop =
    ap (λ (o : Option Programs). get_or (option_map_or (code_of site.recovering) o []) site.place Nop) (gone object.processors site.processor past) in
    absurd (true≢false (sym is ∙ ap is_fence none))

pub listed_always : (object : Object) (site : Site) → IsOf object site → Contains (sites_of object) site
listed_always object site is =
    let p = site.processor in
    let inside = processor_within object site (cases_lt p (length object.processors)) is in
    let programs = get_or object.processors p no_programs in
    let fenced : is_fence (get_or (code_of site.recovering programs) site.place Nop) ≡ true =
    ap (λ (code : List Instr). is_fence (get_or code site.place Nop)) (sym (code_there object p site.recovering no_programs inside)) ∙ is in
    let within : p < length (enumerate_from 0 object.processors) = subst (λ (n : ℕ). p < n) (sym (length-enumerate_from 0 object.processors)) inside in
    in_flat by (enumerate_from 0 object.processors) (0, no_programs) p site within
    (subst (λ (e : ℕ × Programs). Contains (by e) site) (sym (numbered object.processors p (0, no_programs) inside))
    (in_processor p site.recovering programs site.place fenced))
