-- What a beginning is read as stays so, however the bytes go on, unless bytes were missing.
use Rattle.std.proofs.Common.{◌≡◌, ◌≢◌, ℕ, zero, suc, ◌+◌, ◌*◌, ◌<◌, ◌≤◌, Bool, true, false, ltb, not, List, [], ◌∷◌, ◌++◌, length, take, drop, Result, Ok, Err, refl, sym, ap, subst, ◌∙◌, append_assoc, arith, inl, inr, ◌⊎◌}
use Rattle.std.specs.Prelude.{nat_eq, ◌||◌, ◌==◌, slice_set}
use Rattle.std.specs.Int.{Width, w32, w64, byte_len, from_le_bytes}
use Rattle.std.specs.List.{starts_with, list_any}
use Rattle.std.proofs.lemmas.Bool.{cases_Bool, cases_lt, lt-ltb, le-ltb, ltb-true}
use Rattle.std.proofs.lemmas.List.{length-append, length-take, take-append-drop, take-append-le, take_at}
use Rattle.std.proofs.lemmas.Slice.Eq.{bytes_eq-Decides}
use Rattle.outcomes.specs.Outcomes.{◌>>=◌, refuse, refused_as, required}
use Rattle.lines_layout.specs.declared.fault.LayoutFault.TheVariants as layouts
use Rattle.lines_layout.specs.Lines.{line_words, max_lines}
use Rattle.lines_layout.specs.Drafts.{LayoutDraft, add_name_of, empty_draft, end_line_of}
use Rattle.loader.specs.declared.version.Version.{Version}
use Rattle.loader.specs.declared.version.Version.TheVariants.{One, Two}
use Rattle.loader.specs.Versions.{most_processors, version_of}
use Rattle.loader.proofs.NameFields.{bad_name, after_length, after_name}
use Rattle.lines_layout.specs.Shapes.{shape_of, words_of}
use Rattle.lines_layout.specs.Values.{zeros}
use Rattle.codec.specs.Programs.{program_of}
use Rattle.loader.specs.declared.fault.ObjectFault.{ObjectFault}
use Rattle.loader.specs.declared.fault.ObjectFault.TheVariants.{BadMagic, Short, Trailing, BadCount, BadCode, BadName}
use Rattle.loader.specs.declared.fault.ProgramRole.{ProgramRole}
use Rattle.loader.specs.declared.fault.ProgramRole.TheVariants.{Main, Recovery}
use Rattle.isa.specs.Objects.{Object}
use Rattle.loader.specs.Spelling.{magic}
use Rattle.loader.specs.Reading.{Field, front_at, byte_at, number_at, after_magic, version_at, name_at, names_at, lines_at, layout_at, count_at, shape_at, values_at, code_at, programs_at, processors_at, object_at, object_of}
use Rattle.loader.proofs.NumberFields.{ok_is, front_again}
use Rattle.loader.proofs.ReadFieldsAreSpelled.{bad_count}
use Rattle.loader.proofs.ReadObjectsAreSpelled.{last, after_count, after_values, after_names, after_shape, after_version, ending}

abbrev pub Stays : {A : Type 0} → Field A → Field A → List ℕ → Type 0
Stays (Ok x) longer more = longer ≡ Ok (x.0, x.1 ++ more)
Stays (Err fault) longer more = fault ≢ Short → longer ≡ Err fault

-- one field after another
stays_then : {A B : Type 0} (r s : Field A) (f : A × List ℕ → Field B) (more : List ℕ) → Stays r s more → ((x : A × List ℕ) → Stays (f x) (f (x.0, x.1 ++ more)) more) → Stays (r >>= f) (s >>= f) more
stays_then {A} {B} (Ok x) s f more h next = subst (λ (t : Field A). Stays (f x) (t >>= f) more) (sym h) (next x)
stays_then {A} {B} (Err fault) s f more h next = λ other. ap (λ (t : Field A). t >>= f) (h other)

-- a field behind what does not look at the bytes
stays_behind : {A X : Type 0} (r : Result X ObjectFault) (f g : X → Field A) (more : List ℕ) → ((x : X) → Stays (f x) (g x) more) → Stays (r >>= f) (r >>= g) more
stays_behind (Ok x) f g more next = next x
stays_behind (Err fault) f g more next = λ other. refl

short_stays : {A : Type 0} (r longer : Field A) (more : List ℕ) → r ≡ Err Short → Stays r longer more
short_stays {A} r longer more e = subst (λ (t : Field A). Stays t longer more) (sym e) (λ other. absurd (other refl))

-- ---- the fields of each kind

pub front_short : (n : ℕ) (bytes : List ℕ) → length bytes < n → front_at n bytes ≡ Err Short
front_short n bytes lt = rw (lt-ltb (length bytes) n lt) refl

pub front_there : (n : ℕ) (bytes more : List ℕ) → n ≤ length bytes → front_at n (bytes ++ more) ≡ Ok (take n bytes, drop n bytes ++ more)
front_there n bytes more le =
    let parts : bytes ++ more ≡ take n bytes ++ (drop n bytes ++ more) = ap (λ (t : List ℕ). t ++ more) (sym (take-append-drop n bytes)) ∙ append_assoc (take n bytes) (drop n bytes) more in
    ap (front_at n) parts ∙ front_again n (take n bytes) (drop n bytes ++ more) (omega (arith, length-take n bytes, le))

pub front_is_there : (n : ℕ) (bytes : List ℕ) → n ≤ length bytes → front_at n bytes ≡ Ok (take n bytes, drop n bytes)
front_is_there n bytes le = rw (le-ltb (length bytes) n le) refl

front_stays : (n : ℕ) (bytes more : List ℕ) → Stays (front_at n bytes) (front_at n (bytes ++ more)) more
front_stays n bytes more =
    elim (cases_lt (length bytes) n) [
      | inl lt ↦ short_stays (front_at n bytes) (front_at n (bytes ++ more)) more (front_short n bytes lt)
      | inr le ↦ subst (λ (t : Field (List ℕ)). Stays t (front_at n (bytes ++ more)) more) (sym (front_is_there n bytes le)) (front_there n bytes more le)
    ]

byte_stays : (bytes more : List ℕ) → Stays (byte_at bytes) (byte_at (bytes ++ more)) more
byte_stays [] more = λ other. absurd (other refl)
byte_stays (b ∷ bytes) more = refl

number_stays : (w : Width) (bytes more : List ℕ) → Stays (number_at w bytes) (number_at w (bytes ++ more)) more
number_stays w bytes more = stays_then (front_at (byte_len w) bytes) (front_at (byte_len w) (bytes ++ more)) (λ front. Ok (from_le_bytes w front.0, front.1)) more (front_stays (byte_len w) bytes more) (λ x. refl)

count_stays : (most : ℕ) (bytes more : List ℕ) → Stays (count_at most bytes) (count_at most (bytes ++ more)) more
unfolding count_at
count_stays most bytes more =
    stays_then (byte_at bytes) (byte_at (bytes ++ more)) (λ n. refuse BadCount (ltb most n.0) >>= λ few. Ok n) more (byte_stays bytes more)
    (λ n. stays_behind (refuse BadCount (ltb most n.0)) (λ few. Ok n) (λ few. Ok (n.0, n.1 ++ more)) more (λ few. refl))

-- ---- the magic

-- the first bytes of a beginning are a beginning of the first bytes
take_goes_on : (n : ℕ) (bytes more : List ℕ) → (u : List ℕ) × (take n (bytes ++ more) ≡ take n bytes ++ u)
take_goes_on zero bytes more = ([], refl)
take_goes_on (suc n) [] more = (take (suc n) more, refl)
take_goes_on (suc n) (b ∷ bytes) more =
    let r = take_goes_on n bytes more in
    (r.0, ap (λ (t : List ℕ). b ∷ t) r.1)

begins : (whole part u : List ℕ) → starts_with nat_eq whole (part ++ u) ≡ true → starts_with nat_eq whole part ≡ true
begins whole part u e =
    let same : part ++ u ≡ take (length (part ++ u)) whole = (bytes_eq-Decides (part ++ u) (take (length (part ++ u)) whole)).0 e in
    let front : part ≡ take (length part) whole =
    sym (take_at part u (length part) refl) ∙ ap (λ (t : List ℕ). take (length part) t) same ∙ take_less (length part) (length (part ++ u)) whole (omega (arith, length-append part u)) in
    (bytes_eq-Decides part (take (length part) whole)).1 front
  where
    take_less : (m n : ℕ) (xs : List ℕ) → m ≤ n → take m (take n xs) ≡ take m xs
    take_less zero n xs le = refl
    take_less (suc m) zero xs le = absurd (omega (arith, le))
    take_less (suc m) (suc n) [] le = refl
    take_less (suc m) (suc n) (x ∷ xs) le = ap (λ (t : List ℕ). x ∷ t) (take_less m n xs (omega (arith, le)))

-- the same for what follows the magic
abbrev Follows : Result (List ℕ) ObjectFault → Result (List ℕ) ObjectFault → List ℕ → Type 0
Follows (Ok rest) longer more = longer ≡ Ok (rest ++ more)
Follows (Err fault) longer more = fault ≢ Short → longer ≡ Err fault

follows_then : {A : Type 0} (r s : Result (List ℕ) ObjectFault) (f : List ℕ → Field A) (more : List ℕ) → Follows r s more → ((rest : List ℕ) → Stays (f rest) (f (rest ++ more)) more) → Stays (r >>= f) (s >>= f) more
follows_then {A} (Ok rest) s f more h next = subst (λ (t : Result (List ℕ) ObjectFault). Stays (f rest) (t >>= f) more) (sym h) (next rest)
follows_then {A} (Err fault) s f more h next = λ other. ap (λ (t : Result (List ℕ) ObjectFault). t >>= f) (h other)

follows_front : (r s : Field (List ℕ)) (more : List ℕ) → Stays r s more → Follows (r >>= λ front. Ok front.1) (s >>= λ front. Ok front.1) more
follows_front (Ok x) s more h = ap (λ (t : Field (List ℕ)). t >>= λ front. Ok front.1) h
follows_front (Err fault) s more h = λ other. ap (λ (t : Field (List ℕ)). t >>= λ front. Ok front.1) (h other)

follows_wrong : (b : Bool) (r s : Result (List ℕ) ObjectFault) (more : List ℕ) → (b ≡ false → Follows r s more) → (c : Bool) → (b ≡ true → c ≡ true) → (b ≡ false → (c ≡ false) ⊎ (r ≡ Err Short)) → Follows (refuse BadMagic b >>= λ same. r) (refuse BadMagic c >>= λ same. s) more
follows_wrong true r s more h c wrong right = λ other. rw (wrong refl) refl
follows_wrong false r s more h c wrong right =
    elim (right refl) [
      | inl good ↦ rw good (h refl)
      | inr short ↦ rw short (λ other. absurd (other refl))
    ]

abbrev pub has_magic : List ℕ → Bool
has_magic bytes = starts_with nat_eq magic (take (length magic) bytes)

magic_stays_wrong : (bytes more : List ℕ) → has_magic bytes ≡ false → has_magic (bytes ++ more) ≡ false
magic_stays_wrong bytes more wrong =
    elim (cases_Bool (has_magic (bytes ++ more))) [
      | inl right ↦
          let t = take_goes_on (length magic) bytes more in
          let good : has_magic bytes ≡ true = begins magic (take (length magic) bytes) t.0 (ap (λ (p : List ℕ). starts_with nat_eq magic p) (sym t.1) ∙ right) in
          absurd (let same : true ≡ false = sym good ∙ wrong in cc)
      | inr none ↦ none
    ]

magic_follows : (bytes more : List ℕ) → Follows (after_magic bytes) (after_magic (bytes ++ more)) more
unfolding after_magic
magic_follows bytes more =
    follows_wrong (not (has_magic bytes)) (front_at (length magic) bytes >>= λ front. Ok front.1) (front_at (length magic) (bytes ++ more) >>= λ front. Ok front.1) more
    (λ right. follows_front (front_at (length magic) bytes) (front_at (length magic) (bytes ++ more)) more (front_stays (length magic) bytes more))
    (not (has_magic (bytes ++ more)))
    (λ wrong. elim (cases_Bool (has_magic bytes)) [
      | inl there ↦ absurd (let none : not true ≡ true = ap not (sym there) ∙ wrong in cc)
      | inr missing ↦ ap not (magic_stays_wrong bytes more missing)
    ])
    (λ right. elim (cases_lt (length bytes) (length magic)) [
      | inl lt ↦ inr (ap (λ (t : Field (List ℕ)). t >>= λ front. Ok front.1) (front_short (length magic) bytes lt))
      | inr le ↦ inl (ap (λ (t : List ℕ). not (starts_with nat_eq magic t)) (take-append-le (length magic) bytes more le) ∙ right)
    ])

-- ---- the shape

any_goes_on : (words u : List ℕ) → list_any (ltb 8) words ≡ true → list_any (ltb 8) (words ++ u) ≡ true
any_goes_on [] u e = absurd cc
any_goes_on (n ∷ words) u e = or_goes_on (ltb 8 n) (list_any (ltb 8) words) (list_any (ltb 8) (words ++ u)) e (any_goes_on words u)
  where
    or_goes_on : (p q r : Bool) → (p || q) ≡ true → (q ≡ true → r ≡ true) → (p || r) ≡ true
    or_goes_on true q r e h = refl
    or_goes_on false q r e h = h e

-- counts that are too high stay so
counts_refused : (words u : List ℕ) (fault : ObjectFault) → refused_as bad_count (shape_of words) ≡ Err fault → refused_as bad_count (shape_of (words ++ u)) ≡ Err fault
counts_refused words u fault e =
    by_tests (ltb 64 (length words)) (list_any (ltb 8) words) (ltb 64 (length (words ++ u))) (list_any (ltb 8) (words ++ u)) fault
    (λ high. lt-ltb 64 (length (words ++ u)) (omega (arith, ltb-true 64 (length words) high, length-append words u))) (any_goes_on words u) e
  where
    by_tests : (a b c d : Bool) (fault : ObjectFault) → (a ≡ true → c ≡ true) → (b ≡ true → d ≡ true)
        → refused_as bad_count (refuse layouts.TooManyLines a >>= λ few. refuse layouts.LineTooLong b >>= λ short. Ok words) ≡ Err fault
        → refused_as bad_count (refuse layouts.TooManyLines c >>= λ few. refuse layouts.LineTooLong d >>= λ short. Ok (words ++ u)) ≡ Err fault
    by_tests true b c d fault h k e = rw (h refl) e
    by_tests false true true d fault h k e = e
    by_tests false true false d fault h k e = rw (k refl) e
    by_tests false false c d fault h k e = absurd cc

abbrev pub sized : ℕ → List ℕ → Field (List ℕ)
sized n bytes = refused_as bad_count (shape_of (take n bytes)) >>= λ shape. front_at n bytes >>= λ front. Ok (shape, front.1)

-- all counts are there
sized_stays : (n : ℕ) (bytes more : List ℕ) → n ≤ length bytes → Stays (sized n bytes) (sized n (bytes ++ more)) more
sized_stays n bytes more le =
    let same : sized n (bytes ++ more) ≡ (refused_as bad_count (shape_of (take n bytes)) >>= λ shape. front_at n (bytes ++ more) >>= λ front. Ok (shape, front.1)) =
    ap (λ (t : List ℕ). refused_as bad_count (shape_of t) >>= λ shape. front_at n (bytes ++ more) >>= λ front. Ok (shape, front.1)) (take-append-le n bytes more le) in
    subst (λ (t : Field (List ℕ)). Stays (sized n bytes) t more) (sym same)
    (stays_behind (refused_as bad_count (shape_of (take n bytes))) (λ shape. front_at n bytes >>= λ front. Ok (shape, front.1)) (λ shape. front_at n (bytes ++ more) >>= λ front. Ok (shape, front.1)) more
    (λ shape. stays_then (front_at n bytes) (front_at n (bytes ++ more)) (λ front. Ok (shape, front.1)) more (front_stays n bytes more) (λ x. refl)))

-- some are missing
sized_short : (n : ℕ) (bytes more : List ℕ) (r : Result (List ℕ) ObjectFault) → length bytes < n → refused_as bad_count (shape_of (take n bytes)) ≡ r
    → Stays (r >>= λ shape. front_at n bytes >>= λ front. Ok (shape, front.1)) (sized n (bytes ++ more)) more
sized_short n bytes more (Ok shape) lt e =
    short_stays (front_at n bytes >>= λ front. Ok (shape, front.1)) (sized n (bytes ++ more)) more
    (ap (λ (t : Field (List ℕ)). t >>= λ front. Ok (shape, front.1)) (front_short n bytes lt))
sized_short n bytes more (Err fault) lt e = λ other.
    let t = take_goes_on n bytes more in
    ap (λ (p : List ℕ). refused_as bad_count (shape_of p) >>= λ shape. front_at n (bytes ++ more) >>= λ front. Ok (shape, front.1)) t.1
    ∙ ap (λ (r : Result (List ℕ) ObjectFault). r >>= λ shape. front_at n (bytes ++ more) >>= λ front. Ok (shape, front.1)) (counts_refused (take n bytes) t.0 fault e)

shape_stays : (bytes more : List ℕ) → Stays (shape_at bytes) (shape_at (bytes ++ more)) more
unfolding shape_at
shape_stays bytes more =
    stays_then (count_at max_lines bytes) (count_at max_lines (bytes ++ more)) (λ n. sized n.0 n.1) more (count_stays max_lines bytes more)
    (λ n. elim (cases_lt (length n.1) n.0) [
      | inl lt ↦ sized_short n.0 n.1 more (refused_as bad_count (shape_of (take n.0 n.1))) lt refl
      | inr le ↦ sized_stays n.0 n.1 more le
    ])

-- ---- the names

name_stays : (draft : LayoutDraft) (word : ℕ) (bytes more : List ℕ) → Stays (name_at draft word bytes) (name_at draft word (bytes ++ more)) more
unfolding name_at
name_stays draft word bytes more =
    stays_then (byte_at bytes) (byte_at (bytes ++ more)) (after_length draft word) more (byte_stays bytes more)
    (λ n. stays_behind (refuse (BadName word) (n.0 == 0 || ltb 16 n.0)) (λ size. front_at n.0 n.1 >>= after_name draft word) (λ size. front_at n.0 (n.1 ++ more) >>= after_name draft word) more
    (λ size. stays_then (front_at n.0 n.1) (front_at n.0 (n.1 ++ more)) (after_name draft word) more (front_stays n.0 n.1 more)
    (λ name. stays_behind (refused_as (bad_name word) (add_name_of draft name.0)) (λ new. Ok (new, name.1)) (λ new. Ok (new, name.1 ++ more)) more (λ new. refl))))

names_stay : (draft : LayoutDraft) (word n : ℕ) (bytes more : List ℕ) → Stays (names_at draft word n bytes) (names_at draft word n (bytes ++ more)) more
unfolding names_at
names_stay draft word zero bytes more = refl
names_stay draft word (suc n) bytes more =
    stays_then (name_at draft word bytes) (name_at draft word (bytes ++ more)) (λ new. names_at new.0 (word + 1) n new.1) more (name_stays draft word bytes more)
    (λ new. names_stay new.0 (word + 1) n new.1 more)

lines_stay : (draft : LayoutDraft) (shape bytes more : List ℕ) → Stays (lines_at draft shape bytes) (lines_at draft shape (bytes ++ more)) more
unfolding lines_at
lines_stay draft [] bytes more = refl
lines_stay draft (count ∷ shape) bytes more =
    stays_then (names_at draft (line_words * length draft.lines) count bytes) (names_at draft (line_words * length draft.lines) count (bytes ++ more)) (λ line. lines_at (end_line_of line.0) shape line.1) more (names_stay draft (line_words * length draft.lines) count bytes more)
    (λ line. lines_stay (end_line_of line.0) shape line.1 more)

layout_stays : (v : Version) (shape bytes more : List ℕ) → Stays (layout_at v shape bytes) (layout_at v shape (bytes ++ more)) more
unfolding layout_at
layout_stays One shape bytes more = refl
layout_stays Two shape bytes more =
    stays_then (lines_at empty_draft shape bytes) (lines_at empty_draft shape (bytes ++ more)) (λ draft. Ok (draft.0.lines, draft.1)) more (lines_stay empty_draft shape bytes more) (λ draft. refl)

version_stays : (bytes more : List ℕ) → Stays (version_at bytes) (version_at (bytes ++ more)) more
unfolding version_at
version_stays bytes more =
    follows_then (after_magic bytes) (after_magic (bytes ++ more)) (λ rest. byte_at rest >>= λ digit. required BadMagic (version_of digit.0) >>= λ version. Ok (version, digit.1)) more (magic_follows bytes more) (λ rest.
    stays_then (byte_at rest) (byte_at (rest ++ more)) (λ digit. required BadMagic (version_of digit.0) >>= λ version. Ok (version, digit.1)) more (byte_stays rest more) (λ digit.
    stays_behind (required BadMagic (version_of digit.0)) (λ version. Ok (version, digit.1)) (λ version. Ok (version, digit.1 ++ more)) more (λ version. refl)))

-- ---- values, codes and processors

values_stay : (words values bytes more : List ℕ) → Stays (values_at words values bytes) (values_at words values (bytes ++ more)) more
unfolding values_at
values_stay [] values bytes more = refl
values_stay (w ∷ words) values bytes more =
    stays_then (number_at w64 bytes) (number_at w64 (bytes ++ more)) (λ n. values_at words (slice_set values w n.0) n.1) more (number_stays w64 bytes more)
    (λ n. values_stay words (slice_set values w n.0) n.1 more)

code_stays : (shape : List ℕ) (cpu : ℕ) (role : ProgramRole) (bytes more : List ℕ) → Stays (code_at shape cpu role bytes) (code_at shape cpu role (bytes ++ more)) more
unfolding code_at
code_stays shape cpu role bytes more =
    stays_then (number_at w32 bytes) (number_at w32 (bytes ++ more)) (λ n. front_at n.0 n.1 >>= λ front. refused_as (BadCode cpu role) (program_of shape front.0) >>= λ program. Ok (program, front.1)) more (number_stays w32 bytes more)
    (λ n. stays_then (front_at n.0 n.1) (front_at n.0 (n.1 ++ more)) (λ front. refused_as (BadCode cpu role) (program_of shape front.0) >>= λ program. Ok (program, front.1)) more (front_stays n.0 n.1 more)
    (λ front. stays_behind (refused_as (BadCode cpu role) (program_of shape front.0)) (λ program. Ok (program, front.1)) (λ program. Ok (program, front.1 ++ more)) more (λ program. refl)))

programs_stay : (shape : List ℕ) (cpu : ℕ) (bytes more : List ℕ) → Stays (programs_at shape cpu bytes) (programs_at shape cpu (bytes ++ more)) more
unfolding programs_at
programs_stay shape cpu bytes more =
    stays_then (code_at shape cpu Main bytes) (code_at shape cpu Main (bytes ++ more)) (λ main. code_at shape cpu Recovery main.1 >>= λ recovery. Ok (record { main = main.0; recovery = recovery.0 }, recovery.1)) more (code_stays shape cpu Main bytes more)
    (λ main. stays_then (code_at shape cpu Recovery main.1) (code_at shape cpu Recovery (main.1 ++ more)) (λ recovery. Ok (record { main = main.0; recovery = recovery.0 }, recovery.1)) more (code_stays shape cpu Recovery main.1 more) (λ recovery. refl))

processors_stay : (shape : List ℕ) (n cpu : ℕ) (bytes more : List ℕ) → Stays (processors_at shape cpu n bytes) (processors_at shape cpu n (bytes ++ more)) more
unfolding processors_at
processors_stay shape zero cpu bytes more = refl
processors_stay shape (suc n) cpu bytes more =
    stays_then (programs_at shape cpu bytes) (programs_at shape cpu (bytes ++ more)) (λ first. processors_at shape (cpu + 1) n first.1 >>= λ others. Ok (first.0 ∷ others.0, others.1)) more (programs_stay shape cpu bytes more)
    (λ first. stays_then (processors_at shape (cpu + 1) n first.1) (processors_at shape (cpu + 1) n (first.1 ++ more)) (λ others. Ok (first.0 ∷ others.0, others.1)) more (processors_stay shape n (cpu + 1) first.1 more) (λ others. refl))

-- ---- the object

object_stays : (bytes more : List ℕ) → Stays (object_at bytes) (object_at (bytes ++ more)) more
unfolding object_at
object_stays bytes more =
    stays_then (version_at bytes) (version_at (bytes ++ more)) after_version more (version_stays bytes more) (λ v.
    stays_then (shape_at v.1) (shape_at (v.1 ++ more)) (after_shape v.0) more (shape_stays v.1 more) (λ s.
    stays_then (layout_at v.0 s.0 s.1) (layout_at v.0 s.0 (s.1 ++ more)) (after_names v.0 s.0) more (layout_stays v.0 s.0 s.1 more) (λ l.
    stays_then (values_at (words_of s.0) zeros l.1) (values_at (words_of s.0) zeros (l.1 ++ more)) (after_values v.0 l.0 s.0) more (values_stay (words_of s.0) zeros l.1 more) (λ values.
    stays_then (count_at (most_processors v.0) values.1) (count_at (most_processors v.0) (values.1 ++ more)) (after_count l.0 s.0 values.0) more (count_stays (most_processors v.0) values.1 more) (λ count.
    stays_then (processors_at s.0 0 count.0 count.1) (processors_at s.0 0 count.0 (count.1 ++ more)) (last l.0 values.0) more (processors_stay s.0 count.0 0 count.1 more) (λ processors. refl))))))

no_more : (a b : List ℕ) → a ++ b ≡ [] → b ≡ []
no_more [] b e = e
no_more (x ∷ a) b e = absurd cc

-- a beginning of what is read to its end
cut : (r longer : Field Object) (more : List ℕ) (o : Object) → Stays r longer more → longer ≡ Ok (o, []) → more ≢ [] → (r >>= ending) ≡ Err Short
cut (Ok x) longer more o h e some =
    let same : (x.0, x.1 ++ more) ≡ (o, []) = ok_is (x.0, x.1 ++ more) (o, []) (sym h ∙ e) in
    absurd (some (no_more x.1 more (ap (λ (p : Object × List ℕ). p.1) same)))
cut (Err Short) longer more o h e some = refl
cut (Err BadMagic) longer more o h e some = absurd (let same = sym (h (λ (s : BadMagic ≡ Short). absurd cc)) ∙ e in cc)
cut (Err Trailing) longer more o h e some = absurd (let same = sym (h (λ (s : Trailing ≡ Short). absurd cc)) ∙ e in cc)
cut (Err BadCount) longer more o h e some = absurd (let same = sym (h (λ (s : BadCount ≡ Short). absurd cc)) ∙ e in cc)
cut (Err (BadName word)) longer more o h e some = absurd (let same = sym (h (λ (s : BadName word ≡ Short). absurd cc)) ∙ e in cc)
cut (Err (BadCode cpu role fault)) longer more o h e some = absurd (let same = sym (h (λ (s : BadCode cpu role fault ≡ Short). absurd cc)) ∙ e in cc)

-- a beginning of bytes that are read to their end lacks bytes
pub beginning_is_short : (bytes more : List ℕ) (o : Object) → object_at (bytes ++ more) ≡ Ok (o, []) → more ≢ [] → object_of bytes ≡ Err Short
unfolding object_of
beginning_is_short bytes more o e some = cut (object_at bytes) (object_at (bytes ++ more)) more o (object_stays bytes more) e some
