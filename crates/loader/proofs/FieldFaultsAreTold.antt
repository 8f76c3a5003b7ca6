-- The fault of a field's relation is what is told of the field.
use Rattle.std.proofs.Common.{◌≡◌, ◌≢◌, ℕ, zero, suc, ◌+◌, ◌-◌, ◌*◌, ◌^◌, ◌<◌, ◌≤◌, Bool, true, false, leb, ltb, not, List, [], ◌∷◌, ◌++◌, length, map, take, drop, Option, None, Result, Ok, Err, refl, sym, ap, subst, ◌∙◌, append-nil, append_assoc, add-zero, arith, inl, inr, ◌⊎◌}
use Rattle.std.specs.Prelude.{◌||◌, ◌==◌, slice_set}
use Rattle.std.specs.Int.{w32, w64, from_le_bytes, to_le_bytes}
use Rattle.std.specs.List.{list_any, flat_map, AllByRecursion}
use Rattle.std.proofs.lemmas.Bool.{cases_Bool, cases_lt, le-ltb, lt-ltb}
use Rattle.std.proofs.lemmas.Bool.Decides.{nat_tests}
use Rattle.std.proofs.lemmas.List.{length-append, length-drop, nil_from_length, take_all, take_at}
use Rattle.std.proofs.lemmas.List.Concat.{flat_map-cons}
use Rattle.std.proofs.lemmas.Slice.Eq.{bytes_eq-Decides}
use Rattle.outcomes.specs.Outcomes.{◌>>=◌, refuse, refused_as, required}
use Rattle.outcomes.proofs.PartsOfOutcomes.{bind_ok}
use Rattle.lines_layout.specs.declared.fault.LayoutFault.{LayoutFault}
use Rattle.lines_layout.specs.declared.fault.LayoutFault.TheVariants as layouts
use Rattle.lines_layout.specs.Lines.{max_lines}
use Rattle.lines_layout.specs.Names.{Text, is_name}
use Rattle.lines_layout.specs.Shapes.{IsShape, shape_of}
use Rattle.lines_layout.specs.Drafts.{LayoutDraft, add_name_of, end_line_of}
use Rattle.lines_layout.specs.Layouts.{IsLayout, NamedLines, is_taken, name_test, names_test}
use Rattle.lines_layout.proofs.LayoutsAreAccepted.{follows}
use Rattle.isa.specs.declared.instr.Instr.{Instr}
use Rattle.isa.specs.declared.programs.Programs.{Programs}
use Rattle.codec.specs.declared.fault.CodeFault.{CodeFault}
use Rattle.codec.specs.Programs.{program_of}
use Rattle.codec.specs.Faults.{IsFault as IsFaultOfProgram}
use Rattle.loader.specs.declared.fault.ObjectFault.{ObjectFault}
use Rattle.loader.specs.declared.fault.ObjectFault.TheVariants.{BadMagic, Short, BadCount, BadCode, BadName}
use Rattle.loader.specs.declared.fault.ProgramRole.{ProgramRole}
use Rattle.loader.specs.declared.fault.ProgramRole.TheVariants.{Main, Recovery}
use Rattle.loader.specs.declared.version.Version.{Version}
use Rattle.loader.specs.declared.version.Version.TheVariants.{One, Two}
use Rattle.loader.specs.Versions.{digit_of, version_of}
use Rattle.loader.specs.Spelling.{HaveCodes, code_bytes, magic, name_bytes, programs_bytes}
use Rattle.loader.specs.Reading.{Field, after_magic, byte_at, code_at, count_at, front_at, lines_at, name_at, names_at, number_at, processors_at, programs_at, shape_at, values_at, version_at}
use Rattle.loader.specs.FileFaults.{IsFaultOfCode, IsFaultOfCount, IsFaultOfName, IsFaultOfProcessor, IsFaultOfShape, IsFaultOfVersion}
use Rattle.loader.specs.FileFaults.IsFaultOfCode.{bad_code, cut_code, cut_size}
use Rattle.loader.specs.FileFaults.IsFaultOfCount.{high_count, no_count}
use Rattle.loader.specs.FileFaults.IsFaultOfName.{bad_length, bad_name, cut_name, no_length}
use Rattle.loader.specs.FileFaults.IsFaultOfProcessor.{in_main, in_recovery}
use Rattle.loader.specs.FileFaults.IsFaultOfShape.{in_lines, in_words}
use Rattle.loader.specs.FileFaults.IsFaultOfVersion.{cut_version, other_byte, other_digit}
use Rattle.loader.proofs.SpelledObjectsAreRead.{CodesAgain, CodesShort, behind_magic, code_again, count_again, magic_again, programs_again, shape_ok}
use Rattle.loader.proofs.FieldFaults.{Agree}
use Rattle.loader.proofs.ListFaults.{behind_front, behind_size}
use Rattle.loader.proofs.NameFields.{after_length, after_name, bad_name as named_badly}
use Rattle.loader.proofs.SpelledNamesAreRead.{draft_of, name_again, names_again}
use Rattle.codec.proofs.Numbers.{IsBytes, IsBytes-take, wide32}
use Rattle.loader.proofs.NumberFields.{front_again, number_again}
use Rattle.loader.proofs.ReadBeginningsStay.{front_is_there, front_short, front_there, has_magic, sized}
use Rattle.loader.proofs.ReadFieldsAreSpelled.{bad_count}

-- ---- the version

unlike : (front : List ℕ) (b c : ℕ) (rest more : List ℕ) → b ≢ c → ¬ Agree (front ++ c ∷ more) (front ++ b ∷ rest)
unlike [] b c rest more apart = λ (same : Agree (c ∷ more) (b ∷ rest)). apart cc
unlike (x ∷ front) b c rest more apart = λ (same : Agree (x ∷ (front ++ c ∷ more)) (x ∷ (front ++ b ∷ rest))). unlike front b c rest more apart cc

wrong_magic : (bytes : List ℕ) → ¬ Agree magic bytes → version_at bytes ≡ Err BadMagic
unfolding version_at after_magic
wrong_magic bytes apart = ap behind_magic after
  where
    wrong : has_magic bytes ≡ false
    wrong =
        elim (cases_Bool (has_magic bytes)) [
          | inl right ↦ absurd (apart ((bytes_eq-Decides (take 7 bytes) (take (length (take 7 bytes)) magic)).0 right))
          | inr none ↦ none
        ]

    after : after_magic bytes ≡ Err BadMagic
    after = rw wrong refl

cut_magic : (bytes more : List ℕ) → magic ≡ bytes ++ more → length bytes < 7 → version_at bytes ≡ Err Short
unfolding version_at after_magic
cut_magic bytes more whole few = ap behind_magic after
  where
    all : take 7 bytes ≡ bytes
    all = take_all 7 bytes (omega (arith, few))

    begins : bytes ≡ take (length bytes) magic
    begins = sym (take_at bytes more (length bytes) refl) ∙ ap (λ (t : List ℕ). take (length bytes) t) (sym whole)

    right : has_magic bytes ≡ true
    right = (bytes_eq-Decides (take 7 bytes) (take (length (take 7 bytes)) magic)).1 (subst (λ (t : List ℕ). t ≡ take (length t) magic) (sym all) begins)

    after : after_magic bytes ≡ Err Short
    after = rw (right, front_short 7 bytes few) refl

no_digit : version_at magic ≡ Err Short
unfolding version_at
no_digit = ap behind_magic (ap after_magic (sym (append-nil magic)) ∙ magic_again [])

no_version : (digit : ℕ) → ((v : Version) → digit ≢ digit_of v) → version_of digit ≡ None
no_version digit apart =
    let one : (digit == 0x31) ≡ false = grind (arith, nat_tests, apart One) in
    let two : (digit == 0x32) ≡ false = grind (arith, nat_tests, apart Two) in
    rw (one, two) refl

wrong_digit : (digit : ℕ) (rest : List ℕ) → ((v : Version) → digit ≢ digit_of v) → version_at (magic ++ digit ∷ rest) ≡ Err BadMagic
unfolding version_at
wrong_digit digit rest apart =
    ap behind_magic (magic_again (digit ∷ rest))
    ∙ ap (λ (v : Option Version). required BadMagic v >>= λ version. Ok (version, rest)) (no_version digit apart)

pub version_refused : (bytes : List ℕ) (e : ObjectFault) → IsFaultOfVersion bytes e → version_at bytes ≡ Err e
version_refused bytes e (other_byte front b c rest more here there apart) =
    wrong_magic bytes (λ (same : Agree magic bytes). unlike front b c rest more apart
    (subst (λ (whole : List ℕ). Agree whole (front ++ b ∷ rest)) there (subst (λ (t : List ℕ). Agree magic t) here same)))
version_refused bytes e (other_digit digit rest here apart) = ap version_at here ∙ wrong_digit digit rest apart
version_refused bytes e (cut_version more whole) =
    elim (cases_lt (length bytes) 7) [
      | inl few ↦ cut_magic bytes more whole few
      | inr le ↦
          let none : more ≡ [] = nil_from_length more (omega (arith, le, ap (λ (t : List ℕ). length t) whole, length-append bytes more)) in
          let same : magic ≡ bytes = whole ∙ ap (λ (t : List ℕ). bytes ++ t) none ∙ append-nil bytes in
          ap version_at (sym same) ∙ no_digit
    ]

-- ---- counts and the shape

pub count_refused : (most : ℕ) (bytes : List ℕ) (e : ObjectFault) → IsFaultOfCount most bytes e → count_at most bytes ≡ Err e
unfolding count_at
count_refused most bytes e (high_count n rest here high) = rw (here, lt-ltb most n high) refl
count_refused most bytes e (no_count here) = rw here refl

any_long : (n : ℕ) (sizes : List ℕ) (size : ℕ) (more : List ℕ) → length sizes < n → 8 < size → list_any (ltb 8) (take n (sizes ++ size ∷ more)) ≡ true
any_long zero sizes size more room long = absurd (omega (arith, room))
any_long (suc n) [] size more room long = rw (lt-ltb 8 size long) refl
any_long (suc n) (s ∷ sizes) size more room long = or_true (ltb 8 s) (any_long n sizes size more (omega (arith, room)) long)
  where
    or_true : (p : Bool) {q : Bool} → q ≡ true → (p || q) ≡ true
    or_true true e = refl
    or_true false e = e

long_refused : (words : List ℕ) → list_any (ltb 8) words ≡ true → refused_as bad_count (shape_of words) ≡ Err BadCount
long_refused words long = by_tests (ltb 64 (length words)) (list_any (ltb 8) words) long
  where
    by_tests : (many any : Bool) → any ≡ true → refused_as bad_count (refuse layouts.TooManyLines many >>= λ few. refuse layouts.LineTooLong any >>= λ short. Ok words) ≡ Err BadCount
    by_tests true any e = refl
    by_tests false true e = refl
    by_tests false false e = absurd cc

sized_refused : (n : ℕ) (sizes rest : List ℕ) (e : ObjectFault) → n ≤ 64 → length sizes < n → IsShape sizes → IsFaultOfCount 8 rest e → sized n (sizes ++ rest) ≡ Err e
sized_refused n sizes rest e few room is (high_count size more here high) =
    let long : list_any (ltb 8) (take n (sizes ++ rest)) ≡ true = rw here (any_long n sizes size more room high) in
    rw (long_refused (take n (sizes ++ rest)) long) refl
sized_refused n sizes rest e few room is (no_count here) =
    let all : sizes ++ rest ≡ sizes = ap (λ (t : List ℕ). sizes ++ t) here ∙ append-nil sizes in
    let front : take n sizes ≡ sizes = take_all n sizes (omega (arith, room)) in
    ap (sized n) all
    ∙ ap (λ (t : List ℕ). refused_as bad_count (shape_of t) >>= λ shape. front_at n sizes >>= λ front. Ok (shape, front.1)) front
    ∙ ap (λ (r : Result (List ℕ) LayoutFault). refused_as bad_count r >>= λ shape. front_at n sizes >>= λ front. Ok (shape, front.1)) (shape_ok sizes is)
    ∙ ap (λ (r : Field (List ℕ)). r >>= λ front. Ok (sizes, front.1)) (front_short n sizes room)

pub shape_refused : (bytes : List ℕ) (e : ObjectFault) → IsFaultOfShape bytes e → shape_at bytes ≡ Err e
unfolding shape_at
shape_refused bytes e (in_lines fault h) = ap (λ (r : Field ℕ). r >>= λ n. sized n.0 n.1) (count_refused max_lines bytes fault h)
shape_refused bytes e (in_words n sizes rest fault here few room good h) =
    ap (λ (t : List ℕ). count_at max_lines t >>= λ n. sized n.0 n.1) here
    ∙ ap (λ (r : Field ℕ). r >>= λ n. sized n.0 n.1) (count_again max_lines n (sizes ++ rest) few)
    ∙ sized_refused n sizes rest fault few room (record { lines = omega (arith, few, room); words = good }) h

-- ---- the names

size_refused : (n : ℕ) → (n ≡ 0) ⊎ (16 < n) → (n == 0 || ltb 16 n) ≡ true
size_refused n (inl none) = rw none refl
size_refused n (inr high) = or_right (n == 0) (lt-ltb 16 n high)
  where
    or_right : (p : Bool) {q : Bool} → q ≡ true → (p || q) ≡ true
    or_right true e = refl
    or_right false e = e

size_passes : (n : ℕ) → n ≢ 0 → n ≤ 16 → (n == 0 || ltb 16 n) ≡ false
size_passes n some few =
    let one : (n == 0) ≡ false = grind (arith, nat_tests, some) in
    rw (one, le-ltb 16 n few) refl

abbrev with_line : LayoutDraft → List Text → Result LayoutDraft LayoutFault
with_line draft line = Ok (record { lines = draft.lines; line = line })

name_taken : (draft : LayoutDraft) (word : ℕ) (name : Text) → (is_name name ≡ false) ⊎ (is_taken draft.lines draft.line name ≡ true) → refused_as (named_badly word) (add_name_of draft name) ≡ Err (BadName word)
name_taken draft word name bad = by_tests (leb 8 (length draft.line)) (is_name name) (is_taken draft.lines draft.line name) bad
  where
    by_tests : (full good taken : Bool) → (good ≡ false) ⊎ (taken ≡ true)
        → refused_as (named_badly word) (refuse layouts.LineTooLong full >>= λ room. ((refuse layouts.BadName (not good) >>= λ good. refuse layouts.DoubleName taken) >>= λ free. Ok (draft.line ++ name ∷ [])) >>= with_line draft) ≡ Err (BadName word)
    by_tests true good taken bad = refl
    by_tests false false taken bad = refl
    by_tests false true true bad = refl
    by_tests false true false (inl e) = absurd cc
    by_tests false true false (inr e) = absurd cc

bad_name_refused : (draft : LayoutDraft) (word : ℕ) (name rest : List ℕ) → (is_name name ≡ false) ⊎ (is_taken draft.lines draft.line name ≡ true) → after_length draft word (length name, name ++ rest) ≡ Err (BadName word)
bad_name_refused draft word name rest bad =
    elim (cases_Bool (length name == 0 || ltb 16 (length name))) [
      | inl refused ↦ rw refused refl
      | inr passes ↦
          ap (λ (b : Bool). refuse (BadName word) b >>= λ size. front_at (length name) (name ++ rest) >>= after_name draft word) passes
          ∙ ap (λ (r : Field (List ℕ)). r >>= after_name draft word) (front_again (length name) name rest refl)
          ∙ ap (λ (r : Result LayoutDraft ObjectFault). r >>= λ more. Ok (more, rest)) (name_taken draft word name bad)
    ]

pub name_refused : (draft : LayoutDraft) (word : ℕ) (bytes : List ℕ) (e : ObjectFault) → IsFaultOfName draft.lines draft.line word bytes e → name_at draft word bytes ≡ Err e
unfolding name_at
name_refused draft word bytes e (bad_length n rest here size) = rw (here, size_refused n size) refl
name_refused draft word bytes e (bad_name name rest here bad) = ap (λ (t : List ℕ). byte_at t >>= after_length draft word) here ∙ bad_name_refused draft word name rest bad
name_refused draft word bytes e (no_length here) = rw here refl
name_refused draft word bytes e (cut_name n rest here few room) =
    let some : n ≢ 0 = λ (none : n ≡ 0). omega (arith, none, room) in
    rw (here, size_passes n some few, front_short n rest room) refl

-- more names than these are read
names_then : (lines : NamedLines) (done names : List Text) (word k n : ℕ) (rest : List ℕ) → k ≡ length names + n → length done + length names ≤ 8 → names_test lines done names ≡ Ok tt
    → names_at (draft_of lines done) word k (flat_map name_bytes names ++ rest) ≡ names_at (draft_of lines (done ++ names)) (word + length names) n rest
unfolding names_at
names_then lines done [] word k n rest count few free =
    let same : k ≡ n = omega (arith, count) in
    let here : word ≡ word + 0 = omega arith in
    ap (λ (k : ℕ). names_at (draft_of lines done) word k rest) same ∙ ap (λ (w : ℕ). names_at (draft_of lines done) w n rest) here ∙ ap (λ (line : List Text). names_at (draft_of lines line) (word + 0) n rest) (sym (append-nil done))
names_then lines done (name ∷ names) word zero n rest count few free = absurd (omega (arith, count))
names_then lines done (name ∷ names) word (suc k) n rest count few free =
    let first = bind_ok (name_test lines done name) (λ free. names_test lines (done ++ name ∷ []) names) tt free in
    let others : List ℕ = flat_map name_bytes names ++ rest in
    let regrouped : flat_map name_bytes (name ∷ names) ++ rest ≡ name_bytes name ++ others = ap (λ (t : List ℕ). t ++ rest) (flat_map-cons name_bytes name names) ∙ append_assoc (name_bytes name) (flat_map name_bytes names) rest in
    let number : word + 1 + length names ≡ word + length (name ∷ names) = omega arith in
    ap (names_at (draft_of lines done) word (suc k)) regrouped
    ∙ ap (λ (r : Field LayoutDraft). r >>= λ more. names_at more.0 (word + 1) k more.1) (name_again lines done name word others (omega (arith, few)) first.1)
    ∙ names_then lines (done ++ name ∷ []) names (word + 1) k n rest (omega (arith, count)) (omega (arith, few, length-append done (name ∷ []))) first.2
    ∙ ap (λ (line : List Text). names_at (draft_of lines line) (word + 1 + length names) n rest) (append_assoc done (name ∷ []) names)
    ∙ ap (λ (w : ℕ). names_at (draft_of lines (done ++ name ∷ names)) w n rest) number

names_refused : (lines : NamedLines) (line : List Text) (word size : ℕ) (rest : List ℕ) (e : ObjectFault) → length line < size → length line ≤ 8 → names_test lines [] line ≡ Ok tt
    → IsFaultOfName lines line (word + length line) rest e → names_at (draft_of lines []) word size (flat_map name_bytes line ++ rest) ≡ Err e
unfolding names_at
names_refused lines line word size rest e room few free h =
    names_then lines [] line word size (suc (size - length line - 1)) rest (omega (arith, room)) (omega (arith, few)) free ∙ next (size - length line - 1)
  where
    next : (n : ℕ) → names_at (draft_of lines line) (word + length line) (suc n) rest ≡ Err e
    next n = ap (λ (r : Field LayoutDraft). r >>= λ more. names_at more.0 (word + length line + 1) n more.1) (name_refused (draft_of lines line) (word + length line) rest e h)

pub lines_refused : (done before : NamedLines) (line : List Text) (size : ℕ) (sizes rest : List ℕ) (e : ObjectFault) → length line < size → IsLayout ((done ++ before) ++ line ∷ [])
    → IsFaultOfName (done ++ before) line (8 * length (done ++ before) + length line) rest e
    → lines_at (draft_of done []) (map length before ++ size ∷ sizes) (flat_map (flat_map name_bytes) before ++ (flat_map name_bytes line ++ rest)) ≡ Err e
unfolding lines_at
lines_refused done [] line size sizes rest e room layout h =
    let none : done ++ [] ≡ done = append-nil done in
    let good : IsLayout (done ++ line ∷ []) = subst (λ (ls : NamedLines). IsLayout (ls ++ line ∷ [])) none layout in
    let fault : IsFaultOfName done line (8 * length done + length line) rest e = subst (λ (ls : NamedLines). IsFaultOfName ls line (8 * length ls + length line) rest e) none h in
    let may = follows done line [] good in
    ap (λ (r : Field LayoutDraft). r >>= λ line. lines_at (end_line_of line.0) sizes line.1) (names_refused done line (8 * length done) size rest e room may.few may.free fault)
lines_refused done (names ∷ before) line size sizes rest e room layout h =
    let text : List ℕ = flat_map name_bytes line ++ rest in
    let others : List ℕ = flat_map (flat_map name_bytes) before ++ text in
    let grouped : (done ++ names ∷ []) ++ before ≡ done ++ names ∷ before = append_assoc done (names ∷ []) before in
    let good : IsLayout (done ++ names ∷ (before ++ line ∷ [])) = subst IsLayout (append_assoc done (names ∷ before) (line ∷ [])) layout in
    let may = follows done names (before ++ line ∷ []) good in
    let regrouped : flat_map (flat_map name_bytes) (names ∷ before) ++ text ≡ flat_map name_bytes names ++ others = ap (λ (t : List ℕ). t ++ text) (flat_map-cons (flat_map name_bytes) names before) ∙ append_assoc (flat_map name_bytes names) (flat_map (flat_map name_bytes) before) text in
    ap (lines_at (draft_of done []) (map length (names ∷ before) ++ size ∷ sizes)) regrouped
    ∙ ap (λ (r : Field LayoutDraft). r >>= λ line. lines_at (end_line_of line.0) (map length before ++ size ∷ sizes) line.1) (names_again done [] names (8 * length done) others (omega (arith, may.few)) may.free)
    ∙ lines_refused (done ++ names ∷ []) before line size sizes rest e room (subst (λ (ls : NamedLines). IsLayout (ls ++ line ∷ [])) (sym grouped) layout)
    (subst (λ (ls : NamedLines). IsFaultOfName ls line (8 * length ls + length line) rest e) (sym grouped) h)

-- ---- the values

abbrev from_front : List ℕ × List ℕ → Field ℕ
from_front front = Ok (from_le_bytes w64 front.0, front.1)

pub values_short : (words values bytes : List ℕ) → length bytes < 8 * length words → values_at words values bytes ≡ Err Short
unfolding values_at
values_short [] values bytes short = absurd (omega (arith, short))
values_short (w ∷ words) values bytes short =
    elim (cases_lt (length bytes) 8) [
      | inl lt ↦ ap (λ (r : Field (List ℕ)). r >>= from_front >>= λ n. values_at words (slice_set values w n.0) n.1) (front_short 8 bytes lt)
      | inr le ↦
          ap (λ (r : Field (List ℕ)). r >>= from_front >>= λ n. values_at words (slice_set values w n.0) n.1) (front_is_there 8 bytes le)
          ∙ values_short words (slice_set values w (from_le_bytes w64 (take 8 bytes))) (drop 8 bytes) (omega (arith, short, le, length-drop 8 bytes))
    ]

-- values of so many bytes are read
pub values_pass : (words values front rest : List ℕ) → length front ≡ 8 * length words → (read : List ℕ) × (values_at words values (front ++ rest) ≡ Ok (read, rest))
unfolding values_at
values_pass [] values front rest count =
    let none : front ≡ [] = nil_from_length front (omega (arith, count)) in
    (values, rw none refl)
values_pass (w ∷ words) values front rest count =
    let there = front_there 8 front rest (omega (arith, count)) in
    let later = values_pass words (slice_set values w (from_le_bytes w64 (take 8 front))) (drop 8 front) rest (omega (arith, count, length-drop 8 front)) in
    (later.0, ap (λ (r : Field (List ℕ)). r >>= from_front >>= λ n. values_at words (slice_set values w n.0) n.1) there ∙ later.1)

-- ---- the codes

pub IsBytes-behind : (a b : List ℕ) → IsBytes (a ++ b) → IsBytes b
IsBytes-behind [] b h = h
IsBytes-behind (x ∷ a) b h = IsBytes-behind a b (λ i. h (suc i))

abbrev pub CodesRefused : Type 0
CodesRefused = (shape bytes : List ℕ) (fault : CodeFault) → IsBytes bytes → IsFaultOfProgram shape bytes fault → program_of shape bytes ≡ Err fault

module _ (refused : CodesRefused) (codes : CodesAgain) (short : CodesShort) (shape : List ℕ) where
  pub code_refused : (cpu : ℕ) (role : ProgramRole) (bytes : List ℕ) (e : ObjectFault) → IsBytes bytes → IsFaultOfCode shape cpu role bytes e → code_at shape cpu role bytes ≡ Err e
  unfolding code_at
  code_refused cpu role bytes e fits (bad_code code rest fault here small bad) =
      let behind : IsBytes (code ++ rest) = IsBytes-behind (to_le_bytes w32 (length code)) (code ++ rest) (subst IsBytes here fits) in
      let front : IsBytes code = subst IsBytes (take_at code rest (length code) refl) (IsBytes-take (length code) (code ++ rest) behind) in
      ap (λ (t : List ℕ). number_at w32 t >>= behind_size shape cpu role) here
      ∙ ap (λ (r : Field ℕ). r >>= behind_size shape cpu role) (number_again w32 (2 ^ 32) wide32 (length code) (code ++ rest) small)
      ∙ ap (λ (r : Field (List ℕ)). r >>= behind_front shape cpu role) (front_again (length code) code rest refl)
      ∙ ap (λ (r : Result (List Instr) CodeFault). refused_as (BadCode cpu role) r >>= λ program. Ok (program, rest)) (refused shape code fault front bad)
  code_refused cpu role bytes e fits (cut_size few) = rw (front_short 4 bytes few) refl
  code_refused cpu role bytes e fits (cut_code n rest here small few) =
      ap (λ (t : List ℕ). number_at w32 t >>= behind_size shape cpu role) here
      ∙ ap (λ (r : Field ℕ). r >>= behind_size shape cpu role) (number_again w32 (2 ^ 32) wide32 n rest small)
      ∙ ap (λ (r : Field (List ℕ)). r >>= behind_front shape cpu role) (front_short n rest few)

  abbrev behind_recovery : List Instr → List Instr × List ℕ → Field Programs
  behind_recovery main recovery = Ok (record { main = main; recovery = recovery.0 }, recovery.1)

  abbrev behind_main : ℕ → List Instr × List ℕ → Field Programs
  behind_main cpu main = code_at shape cpu Recovery main.1 >>= behind_recovery main.0

  processor_refused : (cpu : ℕ) (bytes : List ℕ) (e : ObjectFault) → IsBytes bytes → IsFaultOfProcessor shape cpu bytes e → programs_at shape cpu bytes ≡ Err e
  unfolding programs_at
  processor_refused cpu bytes e fits (in_main fault h) = ap (λ (r : Field (List Instr)). r >>= behind_main cpu) (code_refused cpu Main bytes fault fits h)
  processor_refused cpu bytes e fits (in_recovery main rest fault here has h) =
      let behind : IsBytes rest = IsBytes-behind (code_bytes main) rest (subst IsBytes here fits) in
      ap (λ (t : List ℕ). code_at shape cpu Main t >>= behind_main cpu) here
      ∙ ap (λ (r : Field (List Instr)). r >>= behind_main cpu) (code_again codes short shape cpu Main main rest has)
      ∙ ap (λ (r : Field (List Instr)). r >>= behind_recovery main) (code_refused cpu Recovery rest fault behind h)

  abbrev behind_others : Programs → List Programs × List ℕ → Field (List Programs)
  behind_others first others = Ok (first ∷ others.0, others.1)

  abbrev behind_first : ℕ → ℕ → Programs × List ℕ → Field (List Programs)
  behind_first cpu n first = processors_at shape (cpu + 1) n first.1 >>= behind_others first.0

  pub processors_refused : (cpu n : ℕ) (before : List Programs) (rest : List ℕ) (e : ObjectFault) → IsBytes rest → length before < n → AllByRecursion (HaveCodes shape) before
      → IsFaultOfProcessor shape (cpu + length before) rest e → processors_at shape cpu n (flat_map programs_bytes before ++ rest) ≡ Err e
  unfolding processors_at
  processors_refused cpu zero before rest e fits room have h = absurd (omega (arith, room))
  processors_refused cpu (suc n) [] rest e fits room have h =
      let here : IsFaultOfProcessor shape cpu rest e = rw add-zero at h in
      ap (λ (r : Field Programs). r >>= behind_first cpu n) (processor_refused cpu rest e fits here)
  processors_refused cpu (suc n) (p ∷ before) rest e fits room have h =
      let others : List ℕ = flat_map programs_bytes before ++ rest in
      let number : cpu + length (p ∷ before) ≡ cpu + 1 + length before = omega arith in
      let regrouped : flat_map programs_bytes (p ∷ before) ++ rest ≡ programs_bytes p ++ others = ap (λ (t : List ℕ). t ++ rest) (flat_map-cons programs_bytes p before) ∙ append_assoc (programs_bytes p) (flat_map programs_bytes before) rest in
      ap (processors_at shape cpu (suc n)) regrouped
      ∙ ap (λ (r : Field Programs). r >>= behind_first cpu n) (programs_again codes short shape cpu p others have.0)
      ∙ ap (λ (r : Field (List Programs)). r >>= behind_others p) (processors_refused (cpu + 1) n before rest e fits (omega (arith, room)) have.1 (subst (λ (k : ℕ). IsFaultOfProcessor shape k rest e) number h))
