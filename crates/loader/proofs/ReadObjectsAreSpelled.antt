-- What is read as an object is spelled so.
use Rattle.std.proofs.Common.{◌≡◌, ℕ, zero, suc, ◌+◌, ◌*◌, ◌/◌, ◌%◌, ◌^◌, ◌<◌, ◌≤◌, Bool, true, false, ltb, leb, not, List, [], ◌∷◌, ◌++◌, length, map, get_or, take, Some, None, Result, Ok, refl, sym, ap, subst, ◌∙◌, arith, replicate, inl, inr, ◌⊎◌}
use Rattle.std.specs.Prelude.{nat_eq, ◌&&◌, ◌==◌, if◌then◌else◌}
use Rattle.std.proofs.lemmas.Bool.Decides.{nat_tests}
use Rattle.std.specs.List.{starts_with, list_all, flat_map, AllByRecursion}
use Rattle.std.proofs.lemmas.Bool.{ltb-false, le-leb}
use Rattle.std.proofs.lemmas.List.{append-nil, nil_from_length, length-replicate}
use Rattle.std.proofs.lemmas.List.Elements.{All-from_recursion}
use Rattle.std.proofs.lemmas.Slice.Eq.{bytes_eq-Decides}
use Rattle.lines_layout.specs.Lines.{max_words, has_word}
use Rattle.lines_layout.specs.Values.{zeros}
use Rattle.lines_layout.specs.Shapes.{IsShape, words_of}
use Rattle.lines_layout.specs.Drafts.{empty_draft}
use Rattle.lines_layout.specs.Layouts.{NamedLines, IsLayout, numbered_lines}
use Rattle.lines_layout.proofs.LayoutsAreAccepted.{is_layout_of}
use Rattle.lines_layout.proofs.NumberedLayouts.{sizes_of_numbered, kept_numbered}
use Rattle.loader.specs.declared.version.Version.{Version}
use Rattle.loader.specs.declared.version.Version.TheVariants.{One, Two}
use Rattle.loader.specs.Versions.{CanName, digit_of, most_processors, version_of}
use Rattle.loader.proofs.ReadNamesAreSpelled.{byte_takes, lines_take}
use Rattle.isa.specs.declared.programs.Programs.{Programs}
use Rattle.isa.specs.Loadables.{max_processors, names_its_words, runs_on}
use Rattle.loader.specs.declared.fault.ObjectFault.{ObjectFault}
use Rattle.loader.specs.declared.fault.ObjectFault.TheVariants.{BadMagic, Trailing}
use Rattle.outcomes.specs.Outcomes.{◌>>=◌, refuse, required}
use Rattle.outcomes.proofs.PartsOfOutcomes.{bind_ok}
use Rattle.loader.specs.Reading.{Field, byte_at, front_at, after_magic, version_at, count_at, shape_at, layout_at, lines_at, values_at, processors_at, object_at, object_of}
use Rattle.isa.specs.Objects.{Object, shape}
use Rattle.loader.specs.Spelling.{magic, version_bytes, names_bytes, value_bytes, programs_bytes, object_bytes, HasSpelling, HaveCodes, IsSpelled}
use Rattle.codec.proofs.Numbers.{IsBytes}
use Rattle.loader.proofs.NumberFields.{refuse_ok, ok_is, Takes, Takes-then, front_takes}
use Rattle.loader.proofs.ValueFields.{Sizes, words_rise, values_take}
use Rattle.loader.proofs.ReadFieldsAreSpelled.{front_is, count_takes, shape_takes, Codes, processors_take, Absent, absent_words, values_other, values_len}

not_not : (b : Bool) → not b ≡ false → b ≡ true
not_not true e = refl
not_not false e = absurd cc

pub magic_takes : (bytes rest : List ℕ) → IsBytes bytes → after_magic bytes ≡ Ok rest → Takes bytes magic rest
unfolding after_magic
magic_takes bytes rest fits e =
    let g = refuse_ok BadMagic (not (starts_with nat_eq magic (take 7 bytes))) (λ same. front_at 7 bytes >>= λ front. Ok front.1) rest e in
    let f = bind_ok (front_at 7 bytes) (λ front. Ok front.1) rest g.1 in
    let there = front_is 7 bytes f.0 fits f.1 in
    let same = not_not (starts_with nat_eq magic (take 7 bytes)) g.0 in
    let front : f.0.0 ≡ take 7 bytes = ap (λ (p : List ℕ × List ℕ). p.0) (front_takes 7 bytes f.0 f.1).1 in
    let len : length (take 7 bytes) ≡ 7 = ap (λ (l : List ℕ). length l) (sym front) ∙ there.1 in
    let equal : take 7 bytes ≡ take (length (take 7 bytes)) magic = (bytes_eq-Decides (take 7 bytes) (take (length (take 7 bytes)) magic)).0 same in
    let is_magic : f.0.0 ≡ magic = front ∙ equal ∙ ap (λ (n : ℕ). take n magic) len in
    let after : f.0.1 ≡ rest = ok_is f.0.1 rest f.2 in
    subst (λ (r : List ℕ). Takes bytes magic r) {x = f.0.1} after (subst (λ (m : List ℕ). Takes bytes m f.0.1) {x = f.0.0} is_magic there.0)

-- the digit of a version that was read
digit_is : (p q : Bool) (v : Version) → required BadMagic (if p then Some One else if q then Some Two else None) ≡ Ok v → ((p ≡ true) × (v ≡ One)) ⊎ ((q ≡ true) × (v ≡ Two))
digit_is true q v e = inl (refl, sym (ok_is One v e))
digit_is false true v e = inr (refl, sym (ok_is Two v e))
digit_is false false v e = absurd cc

version_digit : (b : ℕ) (v : Version) → required BadMagic (version_of b) ≡ Ok v → b ≡ digit_of v
version_digit b v e =
    elim (digit_is (b == 0x31) (b == 0x32) v e) [
      | inl one ↦ let same : b ≡ 0x31 = grind (arith, nat_tests, one.0) in rw one.1 same
      | inr two ↦ let same : b ≡ 0x32 = grind (arith, nat_tests, two.0) in rw two.1 same
    ]

pub version_takes : (bytes : List ℕ) (x : Version × List ℕ) → IsBytes bytes → version_at bytes ≡ Ok x → Takes bytes (version_bytes x.0) x.1
unfolding version_at
version_takes bytes x fits e =
    let m = bind_ok (after_magic bytes) (λ rest. byte_at rest >>= λ digit. required BadMagic (version_of digit.0) >>= λ version. Ok (version, digit.1)) x e in
    let d = bind_ok (byte_at m.0) (λ digit. required BadMagic (version_of digit.0) >>= λ version. Ok (version, digit.1)) x m.2 in
    let v = bind_ok (required BadMagic (version_of d.0.0)) (λ version. Ok (version, d.0.1)) x d.2 in
    let first = magic_takes bytes m.0 fits m.1 in
    let second = byte_takes m.0 d.0 first.rest_fits d.1 in
    let digit = version_digit d.0.0 v.0 v.1 in
    let both : Takes bytes (magic ++ d.0.0 ∷ []) d.0.1 = Takes-then bytes magic m.0 (d.0.0 ∷ []) d.0.1 first second in
    let made : Takes bytes (version_bytes v.0) d.0.1 = subst (λ (k : ℕ). Takes bytes (magic ++ k ∷ []) d.0.1) digit both in
    subst (λ (y : Version × List ℕ). Takes bytes (version_bytes y.0) y.1) {x = (v.0, d.0.1)} (ok_is (v.0, d.0.1) x v.2) made

-- the names of all words
pub record NamesTake (version : Version) (shape bytes : List ℕ) (x : NamedLines × List ℕ) : Type 0 where
  pub takes : Takes bytes (names_bytes version x.0) x.1
  pub sizes : map length x.0 ≡ shape
  pub layout : IsLayout x.0
  pub names : CanName version x.0

pub layout_takes : (version : Version) (shape bytes : List ℕ) (x : NamedLines × List ℕ) → IsBytes bytes → IsShape shape → layout_at version shape bytes ≡ Ok x → NamesTake version shape bytes x
unfolding layout_at
layout_takes One shape bytes x fits is e =
    let sizes = sizes_of_numbered 0 shape in
    subst (λ (y : NamedLines × List ℕ). NamesTake One shape bytes y) {x = (numbered_lines shape, bytes)} (ok_is (numbered_lines shape, bytes) x e)
    (record { takes = record { parts = refl; rest_fits = fits }; sizes = sizes; layout = (kept_numbered shape is).layout; names = ap (λ (l : List ℕ). numbered_lines l) (sym sizes) })
layout_takes Two shape bytes x fits is e =
    let d = bind_ok (lines_at empty_draft shape bytes) (λ draft. Ok (draft.0.lines, draft.1)) x e in
    let lines = lines_take [] shape bytes d.0 fits (is_layout_of [] [] refl).1 (omega (arith, is.lines)) d.1 in
    let made : NamesTake Two shape bytes (lines.more, d.0.1) = record { takes = lines.takes; sizes = lines.sizes; layout = subst (λ (l : NamedLines). IsLayout l) lines.same lines.layout; names = tt } in
    let same : (lines.more, d.0.1) ≡ x = ap (λ (l : NamedLines). (l, d.0.1)) (sym lines.same) ∙ ok_is (d.0.0.lines, d.0.1) x d.2 in
    subst (λ (y : NamedLines × List ℕ). NamesTake Two shape bytes y) {x = (lines.more, d.0.1)} same made

both_true : (p q : Bool) → p ≡ true → q ≡ true → (p && q) ≡ true
both_true p q e f = rw (e, f) refl

all_run : (shape : List ℕ) (ps : List Programs) → AllByRecursion (HaveCodes shape) ps → list_all (runs_on shape) ps ≡ true
all_run shape [] h = refl
all_run shape (p ∷ ps) h = both_true (runs_on shape p) (list_all (runs_on shape) ps) (both_true (list_all (names_its_words shape) p.main) (list_all (names_its_words shape) p.recovery) h.0.0.words h.0.1.words) (all_run shape ps h.1)

abbrev zero_list : ℕ → List ℕ
zero_list n = replicate n 0

zeros_zero : (w n : ℕ) → get_or (zero_list n) w 0 ≡ 0
zeros_zero w zero = refl
zeros_zero zero (suc n) = refl
zeros_zero (suc w) (suc n) = zeros_zero w n

zeros_are : zeros ≡ zero_list max_words
unfolding zeros
zeros_are = refl

pub zero_at : (w : ℕ) → get_or zeros w 0 ≡ 0
zero_at w = ap (λ (l : List ℕ). get_or l w 0) zeros_are ∙ zeros_zero w max_words

pub zeros_len : length zeros ≡ 512
zeros_len = ap (λ (l : List ℕ). length l) zeros_are ∙ length-replicate {A = ℕ} max_words 0

absent_is : (shape : List ℕ) (w : ℕ) → has_word shape w ≡ false → Absent 0 shape w
absent_is shape w none = λ k e.
    let at : w / 8 ≡ k = omega (arith, e) in
    subst (λ (j : ℕ). get_or shape j 0 ≤ w % 8) at (ltb-false _ _ none)

-- the fields one after another are the spelling, with what stands behind it
spelled : (v : Version) (o : Object) (bytes a b b1 c : List ℕ) (n : ℕ) (d e : List ℕ) → Takes bytes (version_bytes v) a → Takes a (length (shape o) ∷ shape o) b → Takes b (names_bytes v o.layout) b1 → Takes b1 (flat_map (value_bytes o.values) (words_of (shape o))) c
    → Takes c (n ∷ []) d → Takes d (flat_map programs_bytes o.processors) e → length o.processors ≡ n → bytes ≡ object_bytes v o ++ e
spelled v o bytes a b b1 c n d e t0 t1 tn t2 t3 t4 len =
    let shape_text : List ℕ = length (shape o) ∷ shape o in
    let name_text : List ℕ = names_bytes v o.layout in
    let value_text : List ℕ = flat_map (value_bytes o.values) (words_of (shape o)) in
    let program_text : List ℕ = n ∷ flat_map programs_bytes o.processors in
    let e3 = Takes-then c (n ∷ []) d (flat_map programs_bytes o.processors) e t3 t4 in
    let e2 = Takes-then b1 value_text c program_text e t2 e3 in
    let en = Takes-then b name_text b1 (value_text ++ program_text) e tn e2 in
    let e1 = Takes-then a shape_text b (name_text ++ (value_text ++ program_text)) e t1 en in
    let e0 = Takes-then bytes (version_bytes v) a (shape_text ++ (name_text ++ (value_text ++ program_text))) e t0 e1 in
    e0.parts ∙ ap (λ (k : ℕ). (version_bytes v ++ (shape_text ++ (name_text ++ (value_text ++ (k ∷ flat_map programs_bytes o.processors))))) ++ e) (sym len)

most_are_few : (v : Version) (n : ℕ) → n ≤ most_processors v → n ≤ max_processors
most_are_few One n le = omega (arith, le)
most_are_few Two n le = le

-- what was read field by field is an object
spelling_is : (v : Version) (layout : NamedLines) (b : List ℕ) (x : List ℕ × List ℕ) (ps : List Programs) → IsLayout layout → CanName v layout → Sizes (map length layout) → values_at (words_of (map length layout)) zeros b ≡ Ok x → AllByRecursion (λ w. get_or x.0 w 0 < 2 ^ 64) (words_of (map length layout))
    → length ps ≤ most_processors v → AllByRecursion (HaveCodes (map length layout)) ps → HasSpelling v (record { layout = layout; values = x.0; processors = ps })
spelling_is v layout b x ps is names sizes e fits few codes =
    let s : List ℕ = map length layout in
    record {
      object = record {
        loadable = both_true (leb (length ps) max_processors) (list_all (runs_on s) ps) (le-leb _ _ (most_are_few v (length ps) few)) (all_run s ps codes);
        count = values_len (words_of s) zeros b x e ∙ zeros_len;
        zero = λ w none. values_other (words_of s) zeros b x w e (absent_words 0 s w sizes (absent_is s w none)) ∙ zero_at w;
      };
      layout = is;
      names = names;
      few = few;
      fits = All-from_recursion (λ w. get_or x.0 w 0 < 2 ^ 64) (words_of s) fits;
      codes = All-from_recursion (HaveCodes s) ps codes;
    }

-- the rest of an object behind its version, its shape, its names, its values and its count
abbrev pub last : NamedLines → List ℕ → List Programs × List ℕ → Field Object
last layout values p = Ok (record { layout = layout; values = values; processors = p.0 }, p.1)

abbrev pub after_count : NamedLines → List ℕ → List ℕ → ℕ × List ℕ → Field Object
after_count layout shape values count = processors_at shape 0 count.0 count.1 >>= last layout values

abbrev pub after_values : Version → NamedLines → List ℕ → List ℕ × List ℕ → Field Object
after_values v layout shape values = count_at (most_processors v) values.1 >>= after_count layout shape values.0

abbrev pub after_names : Version → List ℕ → NamedLines × List ℕ → Field Object
after_names v shape layout = values_at (words_of shape) zeros layout.1 >>= after_values v layout.0 shape

abbrev pub after_shape : Version → List ℕ × List ℕ → Field Object
after_shape v shape = layout_at v shape.0 shape.1 >>= after_names v shape.0

abbrev pub after_version : Version × List ℕ → Field Object
after_version v = shape_at v.1 >>= after_shape v.0

abbrev pub ending : Object × List ℕ → Result Object ObjectFault
ending o = refuse Trailing (ltb 0 (length o.1)) >>= λ end. Ok o.0

-- These bytes are the spelling of an object in that version, and then rest.
abbrev pub Begins : Version → List ℕ → Object × List ℕ → Type 0
Begins v bytes x = HasSpelling v x.0 × (bytes ≡ object_bytes v x.0 ++ x.1)

values_end : (codes : Codes) (version : Version) (bytes a b : List ℕ) (l : NamedLines × List ℕ) (v : List ℕ × List ℕ) (o : Object × List ℕ) → Takes bytes (version_bytes version) a → Takes a (length (map length l.0) ∷ map length l.0) b → Takes b (names_bytes version l.0) l.1
    → IsLayout l.0 → CanName version l.0 → length (map length l.0) ≤ 64 → Sizes (map length l.0) → values_at (words_of (map length l.0)) zeros l.1 ≡ Ok v → after_values version l.0 (map length l.0) v ≡ Ok o
    → Begins version bytes o
values_end codes version bytes a b l v o t0 t1 tn is names lines sizes e f =
    let s : List ℕ = map length l.0 in
    let c = bind_ok (count_at (most_processors version) v.1) (after_count l.0 s v.0) o f in
    let p = bind_ok (processors_at s 0 c.0.0 c.0.1) (last l.0 v.0) o c.2 in
    let object : Object = record { layout = l.0; values = v.0; processors = p.0.0 } in
    let made : Object × List ℕ = (object, p.0.1) in
    let same : made ≡ o = ok_is made o p.2 in
    let room : 8 * (0 + length s) ≤ length zeros = omega (arith, lines, zeros_len) in
    let t2 = values_take (words_of s) zeros l.1 v 0 (8 * (0 + length s)) tn.rest_fits room (words_rise 0 s sizes) e in
    let t3 = count_takes (most_processors version) v.1 c.0 t2.0.rest_fits c.1 in
    let t4 = processors_take codes s c.0.0 0 c.0.1 p.0 t3.0.rest_fits p.1 in
    let few : length p.0.0 ≤ most_processors version = subst (λ (k : ℕ). k ≤ most_processors version) (sym t4.1) t3.1 in
    let whole = spelled version object bytes a b l.1 v.1 c.0.0 c.0.1 p.0.1 t0 t1 tn t2.0 t3.0 t4.0 t4.1 in
    subst (λ (x : Object × List ℕ). Begins version bytes x) {x = made} same (spelling_is version l.0 l.1 v p.0.0 is names sizes e t2.1 few t4.2, whole)

pub object_takes : (codes : Codes) (bytes : List ℕ) (o : Object × List ℕ) → IsBytes bytes → object_at bytes ≡ Ok o → (v : Version) × Begins v bytes o
unfolding object_at
object_takes codes bytes o fits e =
    let m = bind_ok (version_at bytes) after_version o e in
    let s = bind_ok (shape_at m.0.1) (after_shape m.0.0) o m.2 in
    let l = bind_ok (layout_at m.0.0 s.0.0 s.0.1) (after_names m.0.0 s.0.0) o s.2 in
    let t0 = version_takes bytes m.0 fits m.1 in
    let t1 = shape_takes m.0.1 s.0 t0.rest_fits s.1 in
    let names = layout_takes m.0.0 s.0.0 s.0.1 l.0 t1.0.rest_fits (record { lines = t1.1; words = All-from_recursion (λ n. n ≤ 8) s.0.0 t1.2 }) l.1 in
    let back = sym names.sizes in
    let behind : after_names m.0.0 (map length l.0.0) l.0 ≡ Ok o = subst (λ (t : List ℕ). after_names m.0.0 t l.0 ≡ Ok o) back l.2 in
    let v = bind_ok (values_at (words_of (map length l.0.0)) zeros l.0.1) (after_values m.0.0 l.0.0 (map length l.0.0)) o behind in (
      m.0.0,
      values_end codes m.0.0 bytes m.0.1 s.0.1 l.0 v.0 o t0 (subst (λ (t : List ℕ). Takes m.0.1 (length t ∷ t) s.0.1) back t1.0) names.takes names.layout names.names
          (subst (λ (t : List ℕ). length t ≤ 64) back t1.1) (subst Sizes back t1.2) v.1 v.2,
    )

pub object_is : (codes : Codes) (bytes : List ℕ) (o : Object) → IsBytes bytes → object_of bytes ≡ Ok o → IsSpelled o bytes
unfolding object_of
object_is codes bytes o fits e =
    let x = bind_ok (object_at bytes) ending o e in
    let end = refuse_ok Trailing (ltb 0 (length x.0.1)) (λ end. Ok x.0.0) o x.2 in
    let nothing : x.0.1 ≡ [] = nil_from_length x.0.1 (omega (arith, ltb-false _ _ end.0)) in
    let begins = object_takes codes bytes x.0 fits x.1 in
    let text : List ℕ = object_bytes begins.0 x.0.0 in
    let whole : bytes ≡ text = begins.1.1 ∙ ap (λ (rest : List ℕ). text ++ rest) nothing ∙ append-nil text in
    subst (λ (y : Object). IsSpelled y bytes) {x = x.0.0} (ok_is x.0.0 o end.1) (begins.0, record { has = begins.1.0; same = whole })
