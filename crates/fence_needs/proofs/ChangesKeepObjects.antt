-- Another instruction in place of one: a program stays one, and an object too.
use Rattle.std.proofs.Common.{◌≡◌, ℕ, zero, suc, Bool, true, false, None, List, [], ◌∷◌, length, refl, sym, ap, ◌∙◌}
use Rattle.std.specs.Prelude.{Option, map, nat_le, slice_index, slice_set}
use Rattle.std.specs.Option.{option_map_or}
use Rattle.lines_layout.specs.Layouts.{NamedLines}
use Rattle.lines_layout.specs.Lines.{has_word}
use Rattle.std.specs.List.{list_all}
use Rattle.std.proofs.lemmas.Bool.{and_parts, and_from}
use Rattle.std.proofs.lemmas.List.{length-set}
use Rattle.isa.specs.declared.instr.Instr.{Instr}
use Rattle.isa.specs.declared.programs.Programs.{Programs}
use Rattle.isa.specs.Loadables.{is_loadable, max_processors, names_its_words, runs_on}
use Rattle.isa.specs.Objects.{IsObject, Object, shape}
use Rattle.isa.specs.Operands.{target_of}
use Rattle.isa.specs.Programs.{is_program, leads_within, max_instructions}
use Rattle.image_reasons.specs.declared.entries.Site.{Site}
use Rattle.fence_needs.specs.Changes.{MayStandIn, changed_at, replaced, replaced_in}

set_passes : {A : Type 0} (p : A → Bool) (xs : List A) (i : ℕ) (x : A) → list_all p xs ≡ true → p x ≡ true → list_all p (slice_set xs i x) ≡ true
set_passes p [] i x all h = refl
set_passes p (y ∷ xs) zero x all h = and_from (p x) (list_all p xs) h ((and_parts (p y) (list_all p xs) all).1)
set_passes p (y ∷ xs) (suc i) x all h =
    let parts = and_parts (p y) (list_all p xs) all in
    and_from (p y) (list_all p (slice_set xs i x)) parts.0 (set_passes p xs i x parts.1 h)

change_passes : {A : Type 0} (p : A → Bool) (change : A → A) → ((x : A) → p x ≡ true → p (change x) ≡ true)
    → (n : ℕ) (xs : List A) → list_all p xs ≡ true → list_all p (changed_at n change xs) ≡ true
change_passes p change keeps n [] all = refl
change_passes p change keeps zero (x ∷ xs) all =
    let parts = and_parts (p x) (list_all p xs) all in
    and_from (p (change x)) (list_all p xs) (keeps x parts.0) parts.1
change_passes p change keeps (suc n) (x ∷ xs) all =
    let parts = and_parts (p x) (list_all p xs) all in
    and_from (p x) (list_all p (changed_at n change xs)) parts.0 (change_passes p change keeps n xs parts.1)

pub change_length : {A : Type 0} (change : A → A) (n : ℕ) (xs : List A) → length (changed_at n change xs) ≡ length xs
change_length change n [] = refl
change_length change zero (x ∷ xs) = refl
change_length change (suc n) (x ∷ xs) = ap suc (change_length change n xs)

pub leads_nowhere : (count : ℕ) (instr : Instr) → target_of instr ≡ None → leads_within count instr ≡ true
leads_nowhere count instr nowhere = ap (λ (o : Option ℕ). option_map_or (λ target. nat_le target count) o true) nowhere

pub change_keeps_program : (code : List Instr) (place : ℕ) (instr : Instr) → target_of instr ≡ None → is_program code ≡ true
    → is_program (slice_set code place instr) ≡ true
change_keeps_program code place instr nowhere is =
    let parts = and_parts (nat_le (length code) max_instructions) (list_all (leads_within (length code)) code) is in
    let same = length-set code place instr in
    let leads = set_passes (leads_within (length code)) code place instr parts.1 (leads_nowhere (length code) instr nowhere) in
    and_from (nat_le (length (slice_set code place instr)) max_instructions) (list_all (leads_within (length (slice_set code place instr))) (slice_set code place instr))
    (ap (λ n. nat_le n max_instructions) same ∙ parts.0)
    (ap (λ n. list_all (leads_within n) (slice_set code place instr)) same ∙ leads)

change_keeps_words : (on : List ℕ) (recovering : Bool) (place : ℕ) (instr : Instr) (programs : Programs) → names_its_words on instr ≡ true
    → runs_on on programs ≡ true → runs_on on (replaced_in recovering place instr programs) ≡ true
change_keeps_words on false place instr programs names is =
    let parts = and_parts (list_all (names_its_words on) programs.main) (list_all (names_its_words on) programs.recovery) is in
    and_from (list_all (names_its_words on) (slice_set programs.main place instr)) (list_all (names_its_words on) programs.recovery)
    (set_passes (names_its_words on) programs.main place instr parts.0 names) parts.1
change_keeps_words on true place instr programs names is =
    let parts = and_parts (list_all (names_its_words on) programs.main) (list_all (names_its_words on) programs.recovery) is in
    and_from (list_all (names_its_words on) programs.main) (list_all (names_its_words on) (slice_set programs.recovery place instr))
    parts.0 (set_passes (names_its_words on) programs.recovery place instr parts.1 names)

pub change_keeps_loadable : (on : List ℕ) (site : Site) (instr : Instr) (processors : List Programs) → names_its_words on instr ≡ true → is_loadable on processors ≡ true
    → is_loadable on (changed_at site.processor (replaced_in site.recovering site.place instr) processors) ≡ true
change_keeps_loadable on site instr processors names is =
    let parts = and_parts (nat_le (length processors) max_processors) (list_all (runs_on on) processors) is in
    let change = replaced_in site.recovering site.place instr in
    let changed = changed_at site.processor change processors in
    and_from (nat_le (length changed) max_processors) (list_all (runs_on on) changed)
    (ap (λ n. nat_le n max_processors) (change_length change site.processor processors) ∙ parts.0)
    (change_passes (runs_on on) change (λ programs runs. change_keeps_words on site.recovering site.place instr programs names runs) site.processor processors parts.1)

pub change_keeps_object : (object : Object) (site : Site) (instr : Instr) → MayStandIn object instr → IsObject object → IsObject (replaced object site instr)
change_keeps_object object site instr may is = record {
  loadable = change_keeps_loadable (shape object) site instr object.processors may.words is.loadable;
  count = is.count;
  zero = is.zero;
}

-- an object, told by its parts
pub object_of_parts : (object : Object) (layout : NamedLines) (values : List ℕ) (processors : List Programs)
    → layout ≡ object.layout → values ≡ object.values → processors ≡ object.processors → IsObject object
    → IsObject (record { layout = layout; values = values; processors = processors })
object_of_parts object layout values processors a b c is = record {
  loadable = ap (λ (p : List Programs). is_loadable (map length layout) p) c ∙ ap (λ (l : NamedLines). is_loadable (map length l) object.processors) a ∙ is.loadable;
  count = ap (λ (v : List ℕ). length v) b ∙ is.count;
  zero = λ number no. ap (λ (v : List ℕ). slice_index v number) b ∙ is.zero number (ap (λ (l : NamedLines). has_word (map length l) number) (sym a) ∙ no);
}
