-- The fault that is told of bytes is the one that the relation says, and no other.
use Rattle.std.proofs.Common.{◌≡◌, ℕ, suc, ◌+◌, ◌≤◌, true, ltb, List, [], ◌∷◌, ◌++◌, length, map, Ok, Err, refl, sym, ap, subst, ◌∙◌, append_assoc, zero-add, arith, inl, inr}
use Rattle.std.proofs.lemmas.List.Elements.{All-from_recursion, recursion_from_All}
use Rattle.outcomes.specs.Outcomes.{◌>>=◌}
use Rattle.lines_layout.specs.Drafts.{LayoutDraft, empty_draft}
use Rattle.lines_layout.specs.Shapes.{IsShape, words_of}
use Rattle.lines_layout.specs.Values.{zeros}
use Rattle.lines_layout.specs.Layouts.{NamedLines}
use Rattle.lines_layout.proofs.LayoutsAreAccepted.{is_layout_of}
use Rattle.isa.specs.declared.programs.Programs.{Programs}
use Rattle.isa.specs.Objects.{Object}
use Rattle.loader.specs.declared.fault.ObjectFault.{ObjectFault}
use Rattle.loader.specs.declared.fault.ObjectFault.TheVariants.{Trailing}
use Rattle.loader.specs.declared.version.Version.{Version}
use Rattle.loader.specs.declared.version.Version.TheVariants.{One, Two}
use Rattle.loader.specs.Versions.{most_processors}
use Rattle.loader.specs.Spelling.{HaveCodes, names_bytes, object_bytes, shape_bytes, version_bytes}
use Rattle.loader.specs.Reading.{Field, count_at, layout_at, lines_at, object_at, object_of, processors_at, shape_at, values_at, version_at}
use Rattle.loader.specs.FileFaults.{HasNames, IsFault, IsFaultOfNames, IsFaultOfProcessor, named_bytes, values_length}
use Rattle.loader.specs.FileFaults.IsFault.{behind, in_count, in_names, in_processors, in_shape, in_values, in_version}
use Rattle.loader.proofs.SpelledObjectsAreRead.{CodesAgain, CodesShort, count_again, shape_again, version_again}
use Rattle.loader.proofs.FaultSteps.{bind_err, ok_no_err, refuse_err}
use Rattle.loader.proofs.FieldFaultsAreTold.{CodesRefused, IsBytes-behind, count_refused, lines_refused, processors_refused, shape_refused, values_pass, values_short, version_refused}
use Rattle.loader.proofs.FieldFaults.{count_fault, shape_fault, version_fault}
use Rattle.loader.proofs.ListFaults.{CodeFaults, lines_fault, processors_fault, values_fault, values_front}
use Rattle.loader.proofs.SpelledNamesAreRead.{layout_again, shape_is}
use Rattle.codec.proofs.Numbers.{IsBytes}
use Rattle.loader.proofs.ReadObjectsAreSpelled.{after_count, after_names, after_shape, after_values, after_version, ending, last, layout_takes, object_takes, version_takes}
use Rattle.loader.proofs.ObjectsAreRead.{more_refused}
use Rattle.loader.proofs.ReadFieldsAreSpelled.{Codes, count_takes, shape_takes}

-- ---- what is told is of the relation

-- version 1 has no names that could be wrong
layout_fault : (v : Version) (shape bytes : List ℕ) (e : ObjectFault) → IsBytes bytes → IsShape shape → layout_at v shape bytes ≡ Err e → (v ≡ Two) × IsFaultOfNames shape bytes e
unfolding layout_at
layout_fault One shape bytes e fits is h = ok_no_err _ _ h
layout_fault Two shape bytes e fits is h =
    elim (bind_err (lines_at empty_draft shape bytes) (λ draft. Ok (draft.0.lines, draft.1)) e h) [
      | inl bad ↦
          let b = lines_fault [] shape bytes e fits (is_layout_of [] [] refl).1 (omega (arith, is.lines)) (recursion_from_All (λ n. n ≤ 8) shape is.words) bad in (
            refl,
            record {
              before = b.before;
              line = b.line;
              size = b.size;
              sizes = b.sizes;
              rest = b.rest;
              lines = b.shaped;
              room = b.room;
              layout = b.layout;
              parts = b.parts;
              here = b.here;
            },
          )
      | inr draft ↦ ok_no_err _ _ draft.2
    ]

module _ (faults : CodeFaults) (codes : Codes) where
  -- behind the names
  values_end : (v : Version) (layout : NamedLines) (bytes rest : List ℕ) (e : ObjectFault) → bytes ≡ named_bytes v layout ++ rest → IsBytes rest → HasNames v layout
      → after_names v (map length layout) (layout, rest) ≡ Err e → IsFault bytes e
  values_end v layout bytes rest e parts fits names h =
      let s : List ℕ = map length layout in
      let front : List ℕ = named_bytes v layout in
      elim (bind_err (values_at (words_of s) zeros rest) (after_values v layout s) e h) [
        | inl bad ↦ let short = values_fault (words_of s) zeros rest e bad in rw short.1 (in_values v layout rest parts names short.0)
        | inr x ↦
            let values = values_front (words_of s) zeros rest x.0 x.1 in
            let fits2 : IsBytes x.0.1 = IsBytes-behind values.0 x.0.1 (subst IsBytes values.1 fits) in
            let parts2 : bytes ≡ front ++ (values.0 ++ x.0.1) = parts ∙ ap (λ (t : List ℕ). front ++ t) values.1 in
            elim (bind_err (count_at (most_processors v) x.0.1) (after_count layout s x.0.0) e x.2) [
              | inl bad ↦ in_count v layout values.0 x.0.1 e parts2 names values.2 (count_fault (most_processors v) x.0.1 e bad)
              | inr n ↦
                  let count = count_takes (most_processors v) x.0.1 n.0 fits2 n.1 in
                  let parts3 : bytes ≡ front ++ (values.0 ++ n.0.0 ∷ n.0.1) = parts2 ∙ ap (λ (t : List ℕ). front ++ (values.0 ++ t)) count.0.parts in
                  elim (bind_err (processors_at s 0 n.0.0 n.0.1) (last layout x.0.0) e n.2) [
                    | inl bad ↦
                        let b = processors_fault faults codes s 0 n.0.0 n.0.1 e count.0.rest_fits bad in
                        in_processors v layout values.0 n.0.0 n.0.1 e parts3 names values.2 count.1 (record {
                          before = b.before;
                          rest = b.rest;
                          room = b.room;
                          codes = All-from_recursion (HaveCodes s) b.before b.have;
                          parts = b.parts;
                          here = subst (λ (k : ℕ). IsFaultOfProcessor s k b.rest e) (zero-add (length b.before)) b.here;
                        })
                    | inr processors ↦ ok_no_err _ _ processors.2
                  ]
            ]
      ]

  shape_end : (v : Version) (bytes after : List ℕ) (e : ObjectFault) → bytes ≡ version_bytes v ++ after → IsBytes after → after_version (v, after) ≡ Err e → IsFault bytes e
  shape_end v bytes after e parts fits h =
      elim (bind_err (shape_at after) (after_shape v) e h) [
        | inl bad ↦ in_shape v after e parts (shape_fault after e fits bad)
        | inr s ↦
            let t = shape_takes after s.0 fits s.1 in
            let is : IsShape s.0.0 = record { lines = t.1; words = All-from_recursion (λ n. n ≤ 8) s.0.0 t.2 } in
            let parts2 : bytes ≡ version_bytes v ++ (shape_bytes s.0.0 ++ s.0.1) = parts ∙ ap (λ (r : List ℕ). version_bytes v ++ r) t.0.parts in
            elim (bind_err (layout_at v s.0.0 s.0.1) (after_names v s.0.0) e s.2) [
              | inl bad ↦
                  let b = layout_fault v s.0.0 s.0.1 e t.0.rest_fits is bad in
                  in_names s.0.0 s.0.1 e (subst (λ (w : Version). bytes ≡ version_bytes w ++ (shape_bytes s.0.0 ++ s.0.1)) b.0 parts2) is b.1
              | inr l ↦
                  let names = layout_takes v s.0.0 s.0.1 l.0 t.0.rest_fits is l.1 in
                  let back = sym names.sizes in
                  let front : List ℕ = shape_bytes (map length l.0.0) ++ names_bytes v l.0.0 in
                  let sized : bytes ≡ version_bytes v ++ (shape_bytes (map length l.0.0) ++ s.0.1) = subst (λ (k : List ℕ). bytes ≡ version_bytes v ++ (shape_bytes k ++ s.0.1)) back parts2 in
                  let named : shape_bytes (map length l.0.0) ++ s.0.1 ≡ front ++ l.0.1 =
                  ap (λ (r : List ℕ). shape_bytes (map length l.0.0) ++ r) names.takes.parts ∙ sym (append_assoc (shape_bytes (map length l.0.0)) (names_bytes v l.0.0) l.0.1) in
                  let whole : bytes ≡ named_bytes v l.0.0 ++ l.0.1 = sized ∙ ap (λ (r : List ℕ). version_bytes v ++ r) named ∙ sym (append_assoc (version_bytes v) front l.0.1) in
                  values_end v l.0.0 bytes l.0.1 e whole names.takes.rest_fits (record { good = names.layout; told = names.names })
                  (subst (λ (k : List ℕ). after_names v k l.0 ≡ Err e) back l.2)
            ]
      ]

  object_at_fault : (bytes : List ℕ) (e : ObjectFault) → IsBytes bytes → object_at bytes ≡ Err e → IsFault bytes e
  unfolding object_at
  object_at_fault bytes e fits h =
      elim (bind_err (version_at bytes) after_version e h) [
        | inl bad ↦ in_version e (version_fault bytes e fits bad)
        | inr v ↦ let t = version_takes bytes v.0 fits v.1 in shape_end v.0.0 bytes v.0.1 e t.parts t.rest_fits v.2
      ]

  some_left : (bytes front rest : List ℕ) → bytes ≡ front ++ rest → ltb 0 (length rest) ≡ true → (b : ℕ) × (more : List ℕ) × (bytes ≡ front ++ b ∷ more)
  some_left bytes front [] parts e = absurd cc
  some_left bytes front (b ∷ more) parts e = (b, more, parts)

  pub object_fault : (bytes : List ℕ) (e : ObjectFault) → IsBytes bytes → object_of bytes ≡ Err e → IsFault bytes e
  unfolding object_of
  object_fault bytes e fits h =
      elim (bind_err (object_at bytes) ending e h) [
        | inl bad ↦ object_at_fault bytes e fits bad
        | inr o ↦ elim (refuse_err Trailing (ltb 0 (length o.0.1)) (λ end. Ok o.0.0) e o.2) [
          | inl more ↦
              let begins = object_takes codes bytes o.0 fits o.1 in
              let left = some_left bytes (object_bytes begins.0 o.0.0) o.0.1 begins.1.1 more.0 in
              rw more.1 (behind begins.0 o.0.0 left.0 left.1 left.2 begins.1.0)
          | inr end ↦ ok_no_err _ _ end.1
        ]
      ]

-- ---- what is of the relation is told

names_refused : (shape bytes : List ℕ) (e : ObjectFault) → IsFaultOfNames shape bytes e → layout_at Two shape bytes ≡ Err e
unfolding layout_at
names_refused shape bytes e f =
    ap (λ (s : List ℕ). layout_at Two s bytes) f.lines
    ∙ ap (λ (t : List ℕ). layout_at Two (map length f.before ++ f.size ∷ f.sizes) t) f.parts
    ∙ ap (λ (r : Field LayoutDraft). r >>= λ draft. Ok (draft.0.lines, draft.1)) (lines_refused [] f.before f.line f.size f.sizes f.rest e f.room f.layout f.here)

shape_then : (v : Version) (shape rest : List ℕ) → IsShape shape → object_at (version_bytes v ++ (shape_bytes shape ++ rest)) ≡ after_shape v (shape, rest)
unfolding object_at
shape_then v shape rest is =
    ap (λ (r : Field Version). r >>= after_version) (version_again v (shape_bytes shape ++ rest))
    ∙ ap (λ (r : Field (List ℕ)). r >>= after_shape v) (shape_again shape rest is)

names_then : (v : Version) (layout : NamedLines) (rest : List ℕ) → HasNames v layout → object_at (named_bytes v layout ++ rest) ≡ after_names v (map length layout) (layout, rest)
names_then v layout rest names =
    let s : List ℕ = map length layout in
    let grouped : named_bytes v layout ++ rest ≡ version_bytes v ++ (shape_bytes s ++ (names_bytes v layout ++ rest)) =
    append_assoc (version_bytes v) (shape_bytes s ++ names_bytes v layout) rest ∙ ap (λ (t : List ℕ). version_bytes v ++ t) (append_assoc (shape_bytes s) (names_bytes v layout) rest) in
    ap object_at grouped
    ∙ shape_then v s (names_bytes v layout ++ rest) (shape_is layout names.good)
    ∙ ap (λ (r : Field NamedLines). r >>= after_names v s) (layout_again v layout rest names.told names.good)

values_then : (v : Version) (layout : NamedLines) (values rest : List ℕ) → HasNames v layout → length values ≡ values_length layout
    → (read : List ℕ) × (object_at (named_bytes v layout ++ (values ++ rest)) ≡ after_values v layout (map length layout) (read, rest))
values_then v layout values rest names count =
    let s : List ℕ = map length layout in
    let x = values_pass (words_of s) zeros values rest count in
    (x.0, names_then v layout (values ++ rest) names ∙ ap (λ (r : Field (List ℕ)). r >>= after_values v layout s) x.1)

module _ (refused : CodesRefused) (codes : CodesAgain) (short : CodesShort) where
  object_at_refused : (bytes : List ℕ) (e : ObjectFault) → object_at bytes ≡ Err e → object_of bytes ≡ Err e
  unfolding object_of
  object_at_refused bytes e h = ap (λ (r : Field Object). r >>= ending) h

  version_refuses : (bytes : List ℕ) (e : ObjectFault) → version_at bytes ≡ Err e → object_at bytes ≡ Err e
  unfolding object_at
  version_refuses bytes e h = ap (λ (r : Field Version). r >>= after_version) h

  shape_refuses : (v : Version) (rest : List ℕ) (e : ObjectFault) → shape_at rest ≡ Err e → object_at (version_bytes v ++ rest) ≡ Err e
  unfolding object_at
  shape_refuses v rest e h = ap (λ (r : Field Version). r >>= after_version) (version_again v rest) ∙ ap (λ (r : Field (List ℕ)). r >>= after_shape v) h

  pub fault_told : (bytes : List ℕ) (e : ObjectFault) → IsBytes bytes → IsFault bytes e → object_of bytes ≡ Err e
  fault_told bytes e fits (in_version fault h) = object_at_refused bytes fault (version_refuses bytes fault (version_refused bytes fault h))
  fault_told bytes e fits (in_shape v rest fault here h) = object_at_refused bytes fault (ap object_at here ∙ shape_refuses v rest fault (shape_refused rest fault h))
  fault_told bytes e fits (in_names shape rest fault here is h) =
      object_at_refused bytes fault (ap object_at here ∙ shape_then Two shape rest is ∙ ap (λ (r : Field NamedLines). r >>= after_names Two shape) (names_refused shape rest fault h))
  fault_told bytes e fits (in_values v layout rest here names few) =
      let s : List ℕ = map length layout in
      object_at_refused bytes e (ap object_at here ∙ names_then v layout rest names ∙ ap (λ (r : Field (List ℕ)). r >>= after_values v layout s) (values_short (words_of s) zeros rest few))
  fault_told bytes e fits (in_count v layout values rest fault here names count h) =
      let x = values_then v layout values rest names count in
      object_at_refused bytes fault (ap object_at here ∙ x.1 ∙ ap (λ (r : Field ℕ). r >>= after_count layout (map length layout) x.0) (count_refused (most_processors v) rest fault h))
  fault_told bytes e fits (in_processors v layout values n rest fault here names count few h) =
      let s : List ℕ = map length layout in
      let x = values_then v layout values (n ∷ rest) names count in
      let behind_values : IsBytes (values ++ n ∷ rest) = IsBytes-behind (named_bytes v layout) (values ++ n ∷ rest) (subst IsBytes here fits) in
      let behind_count : IsBytes rest = λ i. IsBytes-behind values (n ∷ rest) behind_values (suc i) in
      let behind_before : IsBytes h.rest = IsBytes-behind _ h.rest (subst IsBytes h.parts behind_count) in
      let processor : IsFaultOfProcessor s (0 + length h.before) h.rest fault = subst (λ (k : ℕ). IsFaultOfProcessor s k h.rest fault) (sym (zero-add (length h.before))) h.here in
      let told = processors_refused refused codes short s 0 n h.before h.rest fault behind_before h.room (recursion_from_All (HaveCodes s) h.before h.codes) processor in
      object_at_refused bytes fault (ap object_at here ∙ x.1 ∙ ap (λ (r : Field ℕ). r >>= after_count layout s x.0) (count_again (most_processors v) n rest few)
      ∙ ap (λ (r : Field (List Programs)). r >>= last layout x.0) (ap (processors_at s 0 n) h.parts ∙ told))
  fault_told bytes e fits (behind v o b rest here has) = ap object_of here ∙ more_refused codes short v o b rest has
