-- What is spelled as an object is read as that object.
use Rattle.std.proofs.Common.{◌≡◌, ◌≢◌, ℕ, zero, suc, ◌+◌, ◌*◌, ◌/◌, ◌%◌, ◌^◌, ◌<◌, ◌≤◌, false, ltb, List, [], ◌∷◌, ◌++◌, length, get_or, take, Result, Ok, refl, sym, ap, ◌∙◌, append_assoc, arith, inl, inr}
use Rattle.std.specs.Prelude.{slice_set}
use Rattle.std.specs.Int.{w32, to_le_bytes}
use Rattle.std.specs.List.{list_any, range_with_len, flat_map, AllByRecursion}
use Rattle.std.proofs.lemmas.Bool.{cases_eq, cases_lt, le-ltb}
use Rattle.std.proofs.lemmas.List.{ext_get_or, get_or-set_same, get_or-set_other, length-set, take_at}
use Rattle.std.proofs.lemmas.List.Concat.{flat_map-cons}
use Rattle.std.proofs.lemmas.List.Elements.{recursion_from_All}
use Rattle.outcomes.specs.Outcomes.{◌>>=◌, refused_as, required}
use Rattle.lines_layout.specs.declared.fault.LayoutFault.{LayoutFault}
use Rattle.lines_layout.specs.Lines.{max_lines}
use Rattle.lines_layout.specs.Shapes.{IsShape, shape_of, words_from, words_of}
use Rattle.lines_layout.specs.Values.{zeros}
use Rattle.isa.specs.declared.instr.Instr.{Instr}
use Rattle.isa.specs.declared.programs.Programs.{Programs}
use Rattle.lines_layout.specs.Layouts.{NamedLines}
use Rattle.loader.specs.declared.version.Version.{Version}
use Rattle.loader.specs.declared.version.Version.TheVariants.{One, Two}
use Rattle.loader.specs.Versions.{digit_of, most_processors, version_of}
use Rattle.loader.proofs.SpelledNamesAreRead.{layout_again, shape_is}
use Rattle.codec.specs.declared.fault.CodeFault.{CodeFault}
use Rattle.codec.specs.Code.{HasCode, IsCode, code_of, max_code}
use Rattle.codec.specs.Programs.{program_of}
use Rattle.loader.specs.declared.fault.ObjectFault.{ObjectFault}
use Rattle.loader.specs.declared.fault.ObjectFault.TheVariants.{BadMagic, BadCode}
use Rattle.loader.specs.declared.fault.ProgramRole.{ProgramRole}
use Rattle.loader.specs.declared.fault.ProgramRole.TheVariants.{Main, Recovery}
use Rattle.isa.specs.Objects.{Object, IsObject, shape}
use Rattle.loader.specs.Spelling.{magic, version_bytes, names_bytes, shape_bytes, value_bytes, code_bytes, programs_bytes, processors_bytes, object_bytes, HaveCodes, HasSpelling}
use Rattle.loader.specs.Reading.{Field, byte_at, front_at, number_at, after_magic, version_at, count_at, shape_at, code_at, programs_at, processors_at, object_at}
use Rattle.codec.proofs.Numbers.{wide32}
use Rattle.loader.proofs.NumberFields.{number_again, front_again}
use Rattle.loader.proofs.ValueFields.{Sizes, put, values_again}
use Rattle.loader.proofs.ReadFieldsAreSpelled.{Absent, bad_count}
use Rattle.loader.proofs.ReadObjectsAreSpelled.{zero_at, zeros_len, last, after_count, after_values, after_names, after_shape, after_version}

pub magic_again : (rest : List ℕ) → after_magic (magic ++ rest) ≡ Ok rest
unfolding after_magic
magic_again rest = ap (λ (r : Field (List ℕ)). r >>= λ front. Ok front.1) (front_again 7 magic rest refl)

abbrev pub behind_digit : ℕ × List ℕ → Field Version
behind_digit digit = required BadMagic (version_of digit.0) >>= λ version. Ok (version, digit.1)

abbrev pub behind_magic : Result (List ℕ) ObjectFault → Field Version
behind_magic r = r >>= λ rest. byte_at rest >>= behind_digit

pub version_again : (v : Version) (rest : List ℕ) → version_at (version_bytes v ++ rest) ≡ Ok (v, rest)
unfolding version_at
version_again v rest =
    ap (λ (bytes : List ℕ). behind_magic (after_magic bytes)) (append_assoc magic (digit_of v ∷ []) rest)
    ∙ ap behind_magic (magic_again (digit_of v ∷ rest))
    ∙ digit_again v rest
  where
    digit_again : (v : Version) (rest : List ℕ) → behind_digit (digit_of v, rest) ≡ Ok (v, rest)
    digit_again One rest = refl
    digit_again Two rest = refl

pub count_again : (most n : ℕ) (rest : List ℕ) → n ≤ most → count_at most (n ∷ rest) ≡ Ok (n, rest)
unfolding count_at
count_again most n rest few = rw (le-ltb most n few) refl

-- ---- the shape

no_long : (shape : List ℕ) → Sizes shape → list_any (ltb 8) shape ≡ false
no_long [] sizes = refl
no_long (n ∷ shape) sizes = rw (le-ltb 8 n sizes.0, no_long shape sizes.1) refl

pub shape_ok : (shape : List ℕ) → IsShape shape → shape_of shape ≡ Ok shape
shape_ok shape is = rw (le-ltb 64 (length shape) is.lines, no_long shape (recursion_from_All (λ n. n ≤ 8) shape is.words)) refl

pub shape_again : (shape rest : List ℕ) → IsShape shape → shape_at (shape_bytes shape ++ rest) ≡ Ok (shape, rest)
unfolding shape_at
shape_again shape rest is =
    let n : ℕ = length shape in
    ap (λ (r : Field ℕ). r >>= λ n. refused_as bad_count (shape_of (take n.0 n.1)) >>= λ s. front_at n.0 n.1 >>= λ front. Ok (s, front.1)) (count_again max_lines n (shape ++ rest) is.lines)
    ∙ ap (λ (t : List ℕ). refused_as bad_count (shape_of t) >>= λ s. front_at n (shape ++ rest) >>= λ front. Ok (s, front.1)) (take_at shape rest n refl)
    ∙ ap (λ (r : Result (List ℕ) LayoutFault). refused_as bad_count r >>= λ s. front_at n (shape ++ rest) >>= λ front. Ok (s, front.1)) (shape_ok shape is)
    ∙ ap (λ (r : Field (List ℕ)). r >>= λ front. Ok (shape, front.1)) (front_again n shape rest refl)

-- ---- the values

tail_differs : (w : ℕ) (some words : List ℕ) → AllByRecursion (λ v. v ≢ w) (some ++ words) → AllByRecursion (λ v. v ≢ w) words
tail_differs w [] words h = h
tail_differs w (v ∷ some) words h = tail_differs w some words h.1

range_meets : (a n w : ℕ) (words : List ℕ) → AllByRecursion (λ v. v ≢ w) (range_with_len a n ++ words) → a ≤ w → w < a + n → ⊥
range_meets a zero w words h lo hi = absurd (omega (arith, lo, hi))
range_meets a (suc n) w words h lo hi =
    elim (cases_eq a w) [
      | inl same ↦ h.0 same
      | inr other ↦ range_meets (a + 1) n w words h.1 (omega (arith, lo, other)) (omega (arith, hi))
    ]

-- what differs from each word of the lines is none of them
words_absent : (g : ℕ) (shape : List ℕ) (w : ℕ) → AllByRecursion (λ v. v ≢ w) (words_from g shape) → Absent g shape w
words_absent g [] w h k e = omega arith
words_absent g (n ∷ shape) w h zero e =
    elim (cases_lt (w % 8) n) [
      | inl lt ↦ absurd (range_meets (8 * g) n w (words_from (g + 1) shape) h (omega (arith, e)) (omega (arith, e, lt)))
      | inr le ↦ le
    ]
words_absent g (n ∷ shape) w h (suc k) e =
    words_absent (g + 1) shape w (tail_differs w (range_with_len (8 * g) n) (words_from (g + 1) shape) h) k (omega (arith, e))

put_length : (words from values : List ℕ) → length (put words from values) ≡ length values
put_length [] from values = refl
put_length (v ∷ words) from values = put_length words from (slice_set values v (get_or from v 0)) ∙ length-set values v (get_or from v 0)

-- a value is that of the first list, if it is for a number that is none of the words
put_is : (words from values : List ℕ) (w : ℕ) → w < length values → (AllByRecursion (λ v. v ≢ w) words → get_or values w 0 ≡ get_or from w 0) → get_or (put words from values) w 0 ≡ get_or from w 0
put_is [] from values w lt h = h tt
put_is (v ∷ words) from values w lt h =
    put_is words from (slice_set values v (get_or from v 0)) w (omega (arith, lt, length-set values v (get_or from v 0)))
    (λ absent. elim (cases_eq w v) [
      | inl same ↦ rw same (get_or-set_same values v (get_or from v 0) 0 (rw same at lt))
      | inr other ↦ get_or-set_other values v w (get_or from v 0) 0 other ∙ h ((λ (e : v ≡ w). other (sym e)), absent)
    ])

all_put : (o : Object) → IsObject o → put (words_of (shape o)) o.values zeros ≡ o.values
all_put o is =
    let same : length (put (words_of (shape o)) o.values zeros) ≡ length o.values = put_length (words_of (shape o)) o.values zeros ∙ zeros_len ∙ sym is.count in
    ext_get_or 0 (put (words_of (shape o)) o.values zeros) o.values same
    (λ w lt. put_is (words_of (shape o)) o.values zeros w (omega (arith, lt, put_length (words_of (shape o)) o.values zeros))
    (λ absent. zero_at w ∙ sym (is.zero w (le-ltb (w % 8) (get_or (shape o) (w / 8) 0) (words_absent 0 (shape o) w absent (w / 8) (omega arith))))))

-- ---- the codes

abbrev pub CodesAgain : Type 0
CodesAgain = (shape bytes : List ℕ) (program : List Instr) → IsCode shape program bytes → program_of shape bytes ≡ Ok program

abbrev pub CodesShort : Type 0
CodesShort = (shape : List ℕ) (program : List Instr) → HasCode shape program → length (code_of program) ≤ max_code

module _ (codes : CodesAgain) (short : CodesShort) (shape : List ℕ) where
  pub code_again : (cpu : ℕ) (role : ProgramRole) (program : List Instr) (rest : List ℕ) → HasCode shape program → code_at shape cpu role (code_bytes program ++ rest) ≡ Ok (program, rest)
  unfolding code_at
  code_again cpu role program rest has =
      let code : List ℕ = code_of program in
      let n : ℕ = length code in
      let read : program_of shape code ≡ Ok program = codes shape code program (record { has = has; same = refl }) in
      ap (λ (bytes : List ℕ). number_at w32 bytes >>= λ n. front_at n.0 n.1 >>= λ front. refused_as (BadCode cpu role) (program_of shape front.0) >>= λ program. Ok (program, front.1)) (append_assoc (to_le_bytes w32 n) code rest)
      ∙ ap (λ (r : Field ℕ). r >>= λ n. front_at n.0 n.1 >>= λ front. refused_as (BadCode cpu role) (program_of shape front.0) >>= λ program. Ok (program, front.1)) (number_again w32 (2 ^ 32) wide32 n (code ++ rest) (omega (arith, short shape program has)))
      ∙ ap (λ (r : Field (List ℕ)). r >>= λ front. refused_as (BadCode cpu role) (program_of shape front.0) >>= λ program. Ok (program, front.1)) (front_again n code rest refl)
      ∙ ap (λ (r : Result (List Instr) CodeFault). refused_as (BadCode cpu role) r >>= λ program. Ok (program, rest)) read

  pub programs_again : (cpu : ℕ) (p : Programs) (rest : List ℕ) → HaveCodes shape p → programs_at shape cpu (programs_bytes p ++ rest) ≡ Ok (p, rest)
  unfolding programs_at
  programs_again cpu p rest has =
      ap (λ (bytes : List ℕ). code_at shape cpu Main bytes >>= λ main. code_at shape cpu Recovery main.1 >>= λ recovery. Ok (record { main = main.0; recovery = recovery.0 }, recovery.1)) (append_assoc (code_bytes p.main) (code_bytes p.recovery) rest)
      ∙ ap (λ (r : Field (List Instr)). r >>= λ main. code_at shape cpu Recovery main.1 >>= λ recovery. Ok (record { main = main.0; recovery = recovery.0 }, recovery.1)) (code_again cpu Main p.main (code_bytes p.recovery ++ rest) has.0)
      ∙ ap (λ (r : Field (List Instr)). r >>= λ recovery. Ok (record { main = p.main; recovery = recovery.0 }, recovery.1)) (code_again cpu Recovery p.recovery rest has.1)

  pub processors_again : (cpu : ℕ) (ps : List Programs) (rest : List ℕ) → AllByRecursion (HaveCodes shape) ps → processors_at shape cpu (length ps) (flat_map programs_bytes ps ++ rest) ≡ Ok (ps, rest)
  unfolding processors_at
  processors_again cpu [] rest has = refl
  processors_again cpu (p ∷ ps) rest has =
      let regrouped : flat_map programs_bytes (p ∷ ps) ++ rest ≡ programs_bytes p ++ (flat_map programs_bytes ps ++ rest) = ap (λ (t : List ℕ). t ++ rest) (flat_map-cons programs_bytes p ps) ∙ append_assoc (programs_bytes p) (flat_map programs_bytes ps) rest in
      ap (processors_at shape cpu (length (p ∷ ps))) regrouped
      ∙ ap (λ (r : Field Programs). r >>= λ first. processors_at shape (cpu + 1) (length ps) first.1 >>= λ others. Ok (first.0 ∷ others.0, others.1)) (programs_again cpu p (flat_map programs_bytes ps ++ rest) has.0)
      ∙ ap (λ (r : Field (List Programs)). r >>= λ others. Ok (p ∷ others.0, others.1)) (processors_again (cpu + 1) ps rest has.1)

-- ---- the object

-- the spelling and more bytes, field by field
abbrev value_text : Object → List ℕ
value_text o = flat_map (value_bytes o.values) (words_of (shape o))

abbrev codes_text : Object → List ℕ
codes_text o = flat_map programs_bytes o.processors

regrouped : (v : Version) (o : Object) (rest : List ℕ) → object_bytes v o ++ rest ≡ version_bytes v ++ (shape_bytes (shape o) ++ (names_bytes v o.layout ++ (value_text o ++ (length o.processors ∷ (codes_text o ++ rest)))))
regrouped v o rest =
    append_assoc (version_bytes v) (shape_bytes (shape o) ++ (names_bytes v o.layout ++ (value_text o ++ processors_bytes o.processors))) rest
    ∙ ap (λ (t : List ℕ). version_bytes v ++ t) (append_assoc (shape_bytes (shape o)) (names_bytes v o.layout ++ (value_text o ++ processors_bytes o.processors)) rest
    ∙ ap (λ (t : List ℕ). shape_bytes (shape o) ++ t) (append_assoc (names_bytes v o.layout) (value_text o ++ processors_bytes o.processors) rest
    ∙ ap (λ (t : List ℕ). names_bytes v o.layout ++ t) (append_assoc (value_text o) (processors_bytes o.processors) rest)))

count_end : (codes : CodesAgain) (short : CodesShort) (v : Version) (o : Object) (rest : List ℕ) → HasSpelling v o → after_values v o.layout (shape o) (o.values, length o.processors ∷ (codes_text o ++ rest)) ≡ Ok (o, rest)
count_end codes short v o rest has =
    ap (λ (r : Field ℕ). r >>= after_count o.layout (shape o) o.values) (count_again (most_processors v) (length o.processors) (codes_text o ++ rest) has.few)
    ∙ ap (λ (r : Field (List Programs)). r >>= last o.layout o.values) (processors_again codes short (shape o) 0 o.processors rest (recursion_from_All (HaveCodes (shape o)) o.processors has.codes))

pub at_again : (codes : CodesAgain) (short : CodesShort) (v : Version) (o : Object) (rest : List ℕ) → HasSpelling v o → object_at (object_bytes v o ++ rest) ≡ Ok (o, rest)
unfolding object_at
at_again codes short v o rest has =
    let last_text : List ℕ = length o.processors ∷ (codes_text o ++ rest) in
    let name_text : List ℕ = names_bytes v o.layout in
    let fits = recursion_from_All (λ w. get_or o.values w 0 < 2 ^ 64) (words_of (shape o)) has.fits in
    ap (λ (bytes : List ℕ). version_at bytes >>= after_version) (regrouped v o rest)
    ∙ ap (λ (r : Field Version). r >>= after_version) (version_again v (shape_bytes (shape o) ++ (name_text ++ (value_text o ++ last_text))))
    ∙ ap (λ (r : Field (List ℕ)). r >>= after_shape v) (shape_again (shape o) (name_text ++ (value_text o ++ last_text)) (shape_is o.layout has.layout))
    ∙ ap (λ (r : Field NamedLines). r >>= after_names v (shape o)) (layout_again v o.layout (value_text o ++ last_text) has.names has.layout)
    ∙ ap (λ (r : Field (List ℕ)). r >>= after_values v o.layout (shape o)) (values_again (words_of (shape o)) o.values zeros last_text fits)
    ∙ ap (λ (values : List ℕ). after_values v o.layout (shape o) (values, last_text)) (all_put o has.object)
    ∙ count_end codes short v o rest has
