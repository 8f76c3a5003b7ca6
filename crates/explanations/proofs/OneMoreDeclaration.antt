-- One more line of a script, which may declare something.
use Rattle.std.proofs.Common.{◌≡◌, ◌∙◌, ℕ, ◌+◌, Bool, true, false, Option, Some, None, List, [], ◌∷◌, ◌++◌, length, refl, sym, ap, inl, inr, arith}
use Rattle.std.specs.Prelude.{◌==◌, if◌then◌else◌}
use Rattle.std.specs.List.{position_from}
use Rattle.std.specs.Option.{option_or}
use Rattle.std.proofs.lemmas.Bool.{cases_Bool, eqb-true}
use Rattle.std.proofs.lemmas.List.{length-append}
use Rattle.explanations.specs.Declarations.{declaration_of, declares, double_from, earlier_of}

-- the first place of a list that is one longer
place_more : (test : List ℕ → Bool) (from : ℕ) (lines : List (List ℕ)) (line : List ℕ)
    → position_from test from (lines ++ line ∷ []) ≡ option_or (position_from test from lines) (if test line then Some (from + length lines) else None)
place_more test from [] line = let e : from + 0 ≡ from = omega arith in rw e refl
place_more test from (first ∷ lines) line =
    let e : from + length (first ∷ lines) ≡ from + 1 + length lines = omega arith in
    elim (cases_Bool (test first)) [
      | inl passes ↦ rw passes refl
      | inr fails ↦ rw (fails, e) (place_more test (from + 1) lines line)
    ]

place_none : (found : Option ℕ) → option_or found None ≡ found
place_none None = refl
place_none (Some n) = refl

-- The lines before were read: what is known is the first line of each declaration, and no line declares what an earlier one does.
pub record IsReadTo (known_line : ℕ → Option ℕ) (script : List (List ℕ)) (n : ℕ) (rest : List (List ℕ)) : Type 0 where
  pub before : List (List ℕ)
  pub count : length before ≡ n
  pub known : (wanted : ℕ) → known_line wanted ≡ position_from (declares wanted) 1 before
  pub same : double_from before rest ≡ double_from [] script

module _ (known_line : ℕ → Option ℕ) (script : List (List ℕ)) (n : ℕ) (rest : List (List ℕ)) (line : List ℕ) (others : List (List ℕ))
    (read : IsReadTo known_line script n rest) (e : rest ≡ line ∷ others) where
  step : (found : Option ℕ) → earlier_of read.before line ≡ found → (found ≡ None) → double_from (read.before ++ line ∷ []) others ≡ double_from [] script
  step found is none =
      let one : double_from read.before rest ≡ double_from (read.before ++ line ∷ []) others = rw (e, is, none) refl in
      sym one ∙ read.same

  longer : length (read.before ++ line ∷ []) ≡ n + 1
  longer = length-append read.before (line ∷ []) ∙ ap (λ (m : ℕ). m + 1) read.count

  undeclared : (wanted : ℕ) → declares wanted line ≡ false → known_line wanted ≡ position_from (declares wanted) 1 (read.before ++ line ∷ [])
  undeclared wanted does_not =
      read.known wanted ∙ sym (place_more (declares wanted) 1 read.before line ∙ rw does_not (place_none (position_from (declares wanted) 1 read.before)))

  pub read_plain : declaration_of line ≡ None → IsReadTo known_line script (n + 1) others
  read_plain none = record {
    before = read.before ++ line ∷ [];
    count = longer;
    known = λ wanted. undeclared wanted (rw none refl);
    same = step None (rw none refl) refl;
  }

  pub read_new : (declaration : ℕ) (more : ℕ → Option ℕ) → declaration_of line ≡ Some declaration → known_line declaration ≡ None
      → ((wanted : ℕ) → more wanted ≡ (if declaration == wanted then Some (n + 1) else known_line wanted)) → IsReadTo more script (n + 1) others
  read_new declaration more some none added = record {
    before = read.before ++ line ∷ [];
    count = longer;
    known = λ wanted. elim (cases_Bool (declaration == wanted)) [
      | inl alike ↦
          let same : declaration ≡ wanted = eqb-true declaration wanted alike in
          let does : declares wanted line ≡ true = rw some alike in
          let absent : position_from (declares wanted) 1 read.before ≡ None = sym (read.known wanted) ∙ rw (sym same) none in
          let place : 1 + length read.before ≡ n + 1 = omega (arith, read.count) in
          added wanted ∙ rw alike (sym (place_more (declares wanted) 1 read.before line ∙ rw (does, absent, place) refl))
      | inr apart ↦ added wanted ∙ rw apart (undeclared wanted (rw some apart))
    ];
    same = step None (rw some (sym (read.known declaration) ∙ none)) refl;
  }
