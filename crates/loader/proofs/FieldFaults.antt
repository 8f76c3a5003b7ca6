-- The fault that is told of a field is that of its relation.
use Rattle.std.proofs.Common.{◌≡◌, ◌≢◌, ℕ, ◌<◌, ◌≤◌, Bool, true, false, leb, ltb, not, List, [], ◌∷◌, ◌++◌, length, take, drop, Option, Some, None, Ok, Err, refl, sym, ap, subst, ◌∙◌, append-nil, append_assoc, arith, inl, inr, ◌⊎◌}
use Rattle.std.specs.Prelude.{◌||◌, ◌==◌}
use Rattle.std.specs.List.{list_any}
use Rattle.std.proofs.lemmas.Bool.{cases_eq, cases_lt, or_cases, le-ltb, lt-leb, ltb-true}
use Rattle.std.proofs.lemmas.Bool.Decides.{nat_tests}
use Rattle.std.proofs.lemmas.List.{length-append, length-take, take_all, take-append-drop}
use Rattle.std.proofs.lemmas.List.Elements.{All-from_recursion}
use Rattle.std.proofs.lemmas.Slice.Eq.{bytes_eq-Decides}
use Rattle.outcomes.specs.Outcomes.{◌>>=◌, refuse, refused_as, required}
use Rattle.lines_layout.specs.declared.fault.LayoutFault.{LayoutFault}
use Rattle.lines_layout.specs.declared.fault.LayoutFault.TheVariants as layouts
use Rattle.lines_layout.specs.Lines.{max_lines}
use Rattle.lines_layout.specs.Names.{Text, is_name}
use Rattle.lines_layout.specs.Shapes.{shape_of}
use Rattle.lines_layout.specs.Drafts.{LayoutDraft, add_name_of}
use Rattle.lines_layout.specs.Layouts.{is_taken, more_names, name_test}
use Rattle.loader.specs.declared.fault.ObjectFault.{ObjectFault}
use Rattle.loader.specs.declared.fault.ObjectFault.TheVariants.{BadMagic, Short, BadCount, BadName}
use Rattle.loader.specs.declared.version.Version.{Version}
use Rattle.loader.specs.declared.version.Version.TheVariants.{One, Two}
use Rattle.loader.specs.Versions.{digit_of, version_of}
use Rattle.loader.specs.Spelling.{magic}
use Rattle.loader.specs.Reading.{Field, after_magic, byte_at, count_at, front_at, name_at, shape_at, version_at}
use Rattle.loader.specs.FileFaults.{IsFaultOfCount, IsFaultOfName, IsFaultOfShape, IsFaultOfVersion}
use Rattle.loader.specs.FileFaults.IsFaultOfCount.{high_count, no_count}
use Rattle.loader.specs.FileFaults.IsFaultOfName.{bad_length, bad_name, cut_name, no_length}
use Rattle.loader.specs.FileFaults.IsFaultOfShape.{in_lines, in_words}
use Rattle.loader.specs.FileFaults.IsFaultOfVersion.{cut_version, other_byte, other_digit}
use Rattle.loader.proofs.FaultSteps.{bind_err, byte_err, front_err, ok_no_err, refuse_err, refused_err, required_err}
use Rattle.loader.proofs.NameFields.{after_length, after_name, bad_name as named_badly}
use Rattle.loader.proofs.ReadNamesAreSpelled.{byte_takes}
use Rattle.codec.proofs.Numbers.{IsBytes}
use Rattle.loader.proofs.NumberFields.{ok_is}
use Rattle.loader.proofs.ReadObjectsAreSpelled.{magic_takes}
use Rattle.loader.proofs.ReadBeginningsStay.{has_magic, sized}
use Rattle.loader.proofs.ReadFieldsAreSpelled.{bad_count, count_takes, front_is, refused_ok, shape_is}
use Rattle.loader.proofs.ValueFields.{Sizes}

-- ---- the version

-- bytes that do not begin as a text does, as far as they go
pub record Differs (whole bytes : List ℕ) : Type 0 where
  front : List ℕ
  b : ℕ
  c : ℕ
  rest : List ℕ
  more : List ℕ
  here : bytes ≡ front ++ b ∷ rest
  there : whole ≡ front ++ c ∷ more
  apart : b ≢ c

abbrev pub Agree : List ℕ → List ℕ → Type 0
Agree whole bytes = take (length whole) bytes ≡ take (length (take (length whole) bytes)) whole

differ : (whole bytes : List ℕ) → ¬ Agree whole bytes → Differs whole bytes
differ [] bytes h = absurd (h refl)
differ (c ∷ whole) [] h = absurd (h refl)
differ (c ∷ whole) (b ∷ bytes) h =
    elim (cases_eq b c) [
      | inl same ↦
          let later = differ whole bytes (λ (e : Agree whole bytes). h (cc)) in
          record {
            front = b ∷ later.front;
            b = later.b;
            c = later.c;
            rest = later.rest;
            more = later.more;
            here = ap (λ (t : List ℕ). b ∷ t) later.here;
            there = rw same (ap (λ (t : List ℕ). c ∷ t) later.there);
            apart = later.apart;
          }
      | inr apart ↦ record { front = []; b = b; c = c; rest = bytes; more = whole; here = refl; there = refl; apart = apart }
    ]

not_true : (b : Bool) → not b ≡ true → b ≡ false
not_true true e = absurd cc
not_true false e = refl

not_false : (b : Bool) → not b ≡ false → b ≡ true
not_false true e = refl
not_false false e = absurd cc

magic_fault : (bytes : List ℕ) (e : ObjectFault) → after_magic bytes ≡ Err e → IsFaultOfVersion bytes e
unfolding after_magic
magic_fault bytes e h =
    let front : List ℕ = take 7 bytes in
    let agree = bytes_eq-Decides front (take (length front) magic) in
    elim (refuse_err BadMagic (not (has_magic bytes)) (λ same. front_at 7 bytes >>= λ front. Ok front.1) e h) [
      | inl wrong ↦
          let d = differ magic bytes (λ (same : Agree magic bytes). let e : true ≡ false = sym (agree.1 same) ∙ not_true (has_magic bytes) wrong.0 in cc) in
          rw wrong.1 (other_byte d.front d.b d.c d.rest d.more d.here d.there d.apart)
      | inr right ↦ elim (bind_err (front_at 7 bytes) (λ front. Ok front.1) e right.1) [
        | inl short ↦
            let s = front_err 7 bytes e short in
            let all : front ≡ bytes = take_all 7 bytes (omega (arith, s.0)) in
            let same : bytes ≡ take (length bytes) magic = subst (λ (t : List ℕ). t ≡ take (length t) magic) all (agree.0 (not_false (has_magic bytes) right.0)) in
            rw s.1 (cut_version (drop (length bytes) magic) (sym (take-append-drop (length bytes) magic) ∙ ap (λ (t : List ℕ). t ++ drop (length bytes) magic) (sym same)))
        | inr there ↦ ok_no_err _ _ there.2
      ]
    ]

known : (v : Version) → version_of (digit_of v) ≡ Some v
known One = refl
known Two = refl

abbrev some_version : Version → Option Version
some_version v = Some v

digit_apart : (digit : ℕ) → version_of digit ≡ None → (v : Version) → digit ≢ digit_of v
digit_apart digit none v = λ (same : digit ≡ digit_of v). let e : some_version v ≡ None = sym (known v) ∙ sym (ap version_of same) ∙ none in cc

abbrev behind_digit : ℕ × List ℕ → Field Version
behind_digit digit = required BadMagic (version_of digit.0) >>= λ version. Ok (version, digit.1)

pub version_fault : (bytes : List ℕ) (e : ObjectFault) → IsBytes bytes → version_at bytes ≡ Err e → IsFaultOfVersion bytes e
unfolding version_at
version_fault bytes e fits h =
    elim (bind_err (after_magic bytes) (λ rest. byte_at rest >>= behind_digit) e h) [
      | inl front ↦ magic_fault bytes e front
      | inr behind ↦
          let first = magic_takes bytes behind.0 fits behind.1 in
          elim (bind_err (byte_at behind.0) behind_digit e behind.2) [
            | inl none ↦
                let b = byte_err behind.0 e none in
                rw b.1 (cut_version [] (sym (append-nil magic) ∙ ap (λ (t : List ℕ). magic ++ t) (sym b.0) ∙ sym first.parts ∙ sym (append-nil bytes)))
            | inr digit ↦
                let second = byte_takes behind.0 digit.0 first.rest_fits digit.1 in
                elim (bind_err (required BadMagic (version_of digit.0.0)) (λ version. Ok (version, digit.0.1)) e digit.2) [
                  | inl other ↦
                      let r = required_err BadMagic (version_of digit.0.0) e other in
                      rw r.1 (other_digit digit.0.0 digit.0.1 (first.parts ∙ ap (λ (t : List ℕ). magic ++ t) second.parts) (digit_apart digit.0.0 r.0))
                  | inr v ↦ ok_no_err _ _ v.2
                ]
          ]
    ]

-- ---- counts and the shape

pub count_fault : (most : ℕ) (bytes : List ℕ) (e : ObjectFault) → count_at most bytes ≡ Err e → IsFaultOfCount most bytes e
unfolding count_at
count_fault most bytes e h =
    elim (bind_err (byte_at bytes) (λ n. refuse BadCount (ltb most n.0) >>= λ few. Ok n) e h) [
      | inl none ↦ let b = byte_err bytes e none in rw b.1 (no_count b.0)
      | inr n ↦ elim (refuse_err BadCount (ltb most n.0.0) (λ few. Ok n.0) e n.2) [
        | inl high ↦ rw high.1 (high_count n.0.0 n.0.1 (byte_is bytes n.0 n.1) (ltb-true _ _ high.0))
        | inr few ↦ ok_no_err _ _ few.1
      ]
    ]
  where
    byte_is : (bytes : List ℕ) (x : ℕ × List ℕ) → byte_at bytes ≡ Ok x → bytes ≡ x.0 ∷ x.1
    byte_is [] x h = absurd cc
    byte_is (b ∷ bytes) x h = ap (λ (y : ℕ × List ℕ). y.0 ∷ y.1) (ok_is (b, bytes) x h)

-- the first count that is too high
record IsLong (words : List ℕ) : Type 0 where
  sizes : List ℕ
  size : ℕ
  more : List ℕ
  parts : words ≡ sizes ++ size ∷ more
  good : Sizes sizes
  long : 8 < size

first_long : (words : List ℕ) → list_any (ltb 8) words ≡ true → IsLong words
first_long [] e = absurd cc
first_long (n ∷ words) e =
    elim (cases_lt 8 n) [
      | inl long ↦ record { sizes = []; size = n; more = words; parts = refl; good = tt; long = long }
      | inr le ↦
          let later = first_long words (rw (le-ltb 8 n le) at e) in
          record { sizes = n ∷ later.sizes; size = later.size; more = later.more; parts = ap (λ (t : List ℕ). n ∷ t) later.parts; good = (le, later.good); long = later.long }
    ]

long_of : (words : List ℕ) (x : LayoutFault) → length words ≤ 64 → shape_of words ≡ Err x → list_any (ltb 8) words ≡ true
long_of words x few e =
    elim (refuse_err layouts.TooManyLines (ltb 64 (length words)) (λ few. refuse layouts.LineTooLong (list_any (ltb 8) words) >>= λ short. Ok words) x e) [
      | inl many ↦ absurd (omega (arith, ltb-true _ _ many.0, few))
      | inr short ↦ elim (refuse_err layouts.LineTooLong (list_any (ltb 8) words) (λ short. Ok words) x short.1) [
        | inl long ↦ long.0
        | inr good ↦ ok_no_err _ _ good.1
      ]
    ]

-- what follows the count of lines
sized_fault : (bytes : List ℕ) (n : ℕ) (after : List ℕ) (e : ObjectFault) → bytes ≡ n ∷ after → n ≤ 64 → sized n after ≡ Err e → IsFaultOfShape bytes e
sized_fault bytes n after e first few h =
    elim (bind_err (refused_as bad_count (shape_of (take n after))) (λ shape. front_at n after >>= λ front. Ok (shape, front.1)) e h) [
      | inl bad ↦
          let r = refused_err bad_count (shape_of (take n after)) e bad in
          let long = first_long (take n after) (long_of (take n after) r.0 (omega (arith, few, length-take n after)) r.1) in
          let whole : after ≡ long.sizes ++ long.size ∷ (long.more ++ drop n after) =
          sym (take-append-drop n after) ∙ ap (λ (t : List ℕ). t ++ drop n after) long.parts ∙ append_assoc long.sizes (long.size ∷ long.more) (drop n after) in
          let fewer : length long.sizes < n = omega (arith, length-take n after, ap (λ (t : List ℕ). length t) long.parts, length-append long.sizes (long.size ∷ long.more)) in
          rw r.2 (in_words n long.sizes (long.size ∷ (long.more ++ drop n after)) BadCount (first ∙ ap (λ (t : List ℕ). n ∷ t) whole) few fewer (All-from_recursion (λ size. size ≤ 8) long.sizes long.good)
          (high_count long.size (long.more ++ drop n after) refl long.long))
      | inr good ↦ elim (bind_err (front_at n after) (λ front. Ok (good.0, front.1)) e good.2) [
        | inl short ↦
            let s = front_err n after e short in
            let is = shape_is (take n after) good.0 (refused_ok bad_count (shape_of (take n after)) good.0 good.1) in
            let all : take n after ≡ after = take_all n after (omega (arith, s.0)) in
            rw s.1 (in_words n after [] Short (first ∙ ap (λ (t : List ℕ). n ∷ t) (sym (append-nil after))) few s.0 (All-from_recursion (λ size. size ≤ 8) after (subst Sizes all is.2)) (no_count refl))
        | inr there ↦ ok_no_err _ _ there.2
      ]
    ]

pub shape_fault : (bytes : List ℕ) (e : ObjectFault) → IsBytes bytes → shape_at bytes ≡ Err e → IsFaultOfShape bytes e
unfolding shape_at
shape_fault bytes e fits h =
    elim (bind_err (count_at max_lines bytes) (λ n. sized n.0 n.1) e h) [
      | inl count ↦ in_lines e (count_fault max_lines bytes e count)
      | inr n ↦
          let first = count_takes max_lines bytes n.0 fits n.1 in
          sized_fault bytes n.0.0 n.0.1 e first.0.parts first.1 n.2
    ]

-- ---- a name

-- a name that may not stand there
name_refused : (draft : LayoutDraft) (name : Text) (x : LayoutFault) → length draft.line < 8 → add_name_of draft name ≡ Err x → (is_name name ≡ false) ⊎ (is_taken draft.lines draft.line name ≡ true)
name_refused draft name x room e =
    elim (refuse_err layouts.LineTooLong (leb 8 (length draft.line)) (λ room. more_names draft.lines draft.line name >>= λ line. Ok (record { lines = draft.lines; line = line })) x e) [
      | inl full ↦ absurd (let e : true ≡ false = sym full.0 ∙ lt-leb 8 (length draft.line) room in cc)
      | inr roomy ↦ elim (bind_err (more_names draft.lines draft.line name) (λ line. Ok (record { lines = draft.lines; line = line })) x roomy.1) [
        | inl bad ↦ elim (bind_err (name_test draft.lines draft.line name) (λ free. Ok (draft.line ++ name ∷ [])) x bad) [
          | inl test ↦ elim (refuse_err layouts.BadName (not (is_name name)) (λ good. refuse layouts.DoubleName (is_taken draft.lines draft.line name)) x test) [
            | inl misspelled ↦ inl (not_true (is_name name) misspelled.0)
            | inr good ↦ inr (refused (is_taken draft.lines draft.line name) good.1)
          ]
          | inr free ↦ ok_no_err _ _ free.2
        ]
        | inr line ↦ ok_no_err _ _ line.2
      ]
    ]
  where
    refused : (b : Bool) → refuse layouts.DoubleName b ≡ Err x → b ≡ true
    refused true e = refl
    refused false e = absurd cc

no_size : (n : ℕ) → (n == 0 || ltb 16 n) ≡ true → (n ≡ 0) ⊎ (16 < n)
no_size n e =
    elim (or_cases (n == 0) (ltb 16 n) e) [
      | inl none ↦ inl (grind (arith, nat_tests, none))
      | inr high ↦ inr (ltb-true _ _ high)
    ]

some_size : (n : ℕ) → (n == 0 || ltb 16 n) ≡ false → n ≤ 16
some_size n e = grind (arith, nat_tests, e)

pub name_fault : (draft : LayoutDraft) (word : ℕ) (bytes : List ℕ) (e : ObjectFault) → IsBytes bytes → length draft.line < 8 → name_at draft word bytes ≡ Err e → IsFaultOfName draft.lines draft.line word bytes e
unfolding name_at
name_fault draft word bytes e fits room h =
    elim (bind_err (byte_at bytes) (after_length draft word) e h) [
      | inl none ↦ let b = byte_err bytes e none in rw b.1 (no_length b.0)
      | inr n ↦
          let first = byte_takes bytes n.0 fits n.1 in
          elim (refuse_err (BadName word) (n.0.0 == 0 || ltb 16 n.0.0) (λ size. front_at n.0.0 n.0.1 >>= after_name draft word) e n.2) [
            | inl size ↦ rw size.1 (bad_length n.0.0 n.0.1 first.parts (no_size n.0.0 size.0))
            | inr size ↦ elim (bind_err (front_at n.0.0 n.0.1) (after_name draft word) e size.1) [
              | inl short ↦ let s = front_err n.0.0 n.0.1 e short in rw s.1 (cut_name n.0.0 n.0.1 first.parts (some_size n.0.0 size.0) s.0)
              | inr name ↦
                  let second = front_is n.0.0 n.0.1 name.0 first.rest_fits name.1 in
                  elim (bind_err (refused_as (named_badly word) (add_name_of draft name.0.0)) (λ more. Ok (more, name.0.1)) e name.2) [
                    | inl bad ↦
                        let r = refused_err (named_badly word) (add_name_of draft name.0.0) e bad in
                        let parts : bytes ≡ (length name.0.0 ∷ name.0.0) ++ name.0.1 = first.parts ∙ ap (λ (t : List ℕ). n.0.0 ∷ t) second.0.parts ∙ ap (λ (k : ℕ). k ∷ (name.0.0 ++ name.0.1)) (sym second.1) in
                        rw r.2 (bad_name name.0.0 name.0.1 parts (name_refused draft name.0.0 r.0 room r.1))
                    | inr more ↦ ok_no_err _ _ more.2
                  ]
            ]
          ]
    ]
