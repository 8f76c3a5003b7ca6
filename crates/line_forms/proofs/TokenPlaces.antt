-- The place of a token is that of its bytes.
use Rattle.std.proofs.Common.{◌≡◌, ℕ, suc, ◌+◌, ◌-◌, ◌<◌, ◌≤◌, Bool, true, false, List, [], ◌∷◌, length, get_or, take, drop, refl, sym, subst, codes, ◌∙◌, ap, inl, inr, arith, add-one, length-drop}
use Rattle.std.specs.Prelude.{slice_range, not, ◌&&◌, ◌||◌}
use Rattle.std.proofs.Math.Seq.{take-add}
use Rattle.std.proofs.lemmas.List.Folds.{list_all-append}
use Rattle.std.proofs.lemmas.Bool.{cases_Bool}
use Rattle.std.proofs.lemmas.List.{drop-drop, length-take-le, nil_from_length}
use Rattle.line_forms.specs.declared.places.Place.{Place}
use Rattle.line_forms.specs.Places.{IsConditionPlace, IsFirstOf, IsPlaceOf, before_comment, is_no_end}
use Rattle.std.proofs.lemmas.List.Sums.{prefix_len-le-length}
use Rattle.std.specs.List.{list_all, prefix_len}
use Rattle.text_tokens.specs.Text.{is_blank, is_one_of, is_run_by, past_blanks, tokens_by}
use Rattle.text_tokens.proofs.SplitToken.{behind_blanks, tokens_at_end, tokens_at_mark, token_step}

-- the bytes of a run are all of a kind that contains it
run_all : (test kind : ℕ → Bool) → ((b : ℕ) → test b ≡ true → kind b ≡ true) → (text : List ℕ) → list_all kind (take (prefix_len test text) text) ≡ true
run_all test kind within [] = refl
run_all test kind within (b ∷ text) = elim (cases_Bool (test b)) [
  | inl passes ↦
      let more : prefix_len test (b ∷ text) ≡ 1 + prefix_len test text = rw passes refl in
      let next : 1 + prefix_len test text ≡ suc (prefix_len test text) = omega arith in
      let all : list_all kind (b ∷ take (prefix_len test text) text) ≡ true = rw (within b passes) (run_all test kind within text) in
      ap (λ (n : ℕ). list_all kind (take n (b ∷ text))) (more ∙ next) ∙ all
  | inr fails ↦ rw fails refl
]

blank_goes_on : (marks ends : List ℕ) (b : ℕ) → is_blank b ≡ true → is_no_end marks ends b ≡ true
blank_goes_on marks ends b blank = rw blank refl

mark_goes_on : (marks ends : List ℕ) (b : ℕ) → is_one_of marks b ≡ true → is_no_end marks ends b ≡ true
mark_goes_on marks ends b mark = elim (cases_Bool (is_blank b)) [
  | inl blank ↦ rw blank refl
  | inr solid ↦ rw (solid, mark) refl
]

run_without : (a b : Bool) → (a && b && not true) ≡ false
run_without true true = refl
run_without true false = refl
run_without false b = refl

all_or : (a b : Bool) → (a || b || not false) ≡ true
all_or true b = refl
all_or false true = refl
all_or false false = refl

run_goes_on : (marks ends : List ℕ) (b : ℕ) → is_run_by marks ends b ≡ true → is_no_end marks ends b ≡ true
run_goes_on marks ends b run = elim (cases_Bool (is_one_of ends b)) [
  | inl end ↦ let none : is_run_by marks ends b ≡ false = rw end (run_without (not (is_blank b)) (not (is_one_of marks b))) in absurd cc
  | inr goes ↦ rw goes (all_or (is_blank b) (is_one_of marks b))
]

-- the token is the front of the text, and the others are behind it
pub record IsFront (marks ends text token : List ℕ) (others : List (List ℕ)) : Type 0 where
  pub short : length token ≤ length text
  pub front : take (length token) text ≡ token
  pub behind : tokens_by marks ends (drop (length token) text) ≡ others
  pub goes_on : list_all (is_no_end marks ends) token ≡ true

front_of : (marks ends text token : List ℕ) (others : List (List ℕ)) (n : ℕ) → n ≤ length text → list_all (is_no_end marks ends) (take n text) ≡ true
    → tokens_by marks ends text ≡ take n text ∷ tokens_by marks ends (drop n text) → tokens_by marks ends text ≡ token ∷ others → IsFront marks ends text token others
front_of marks ends text token others n fits goes_on split e =
    let front : take n text ≡ token = cc in
    let behind : tokens_by marks ends (drop n text) ≡ others = cc in
    let len : length token ≡ n = ap length (sym front) ∙ length-take-le n text fits in
    record { short = omega arith; front = rw len front; behind = rw len behind; goes_on = subst (λ (bytes : List ℕ). list_all (is_no_end marks ends) bytes ≡ true) front goes_on }

-- a text that begins with no blank begins with its first token
pub front_token : (marks ends text token : List ℕ) (others : List (List ℕ)) → (0 < length text → is_blank (get_or text 0 0) ≡ false)
    → tokens_by marks ends text ≡ token ∷ others → IsFront marks ends text token others
front_token marks ends [] token others solid e = absurd (cc)
front_token marks ends (b ∷ text) token others solid e =
    let some : 0 < length (b ∷ text) = omega arith in
    elim (cases_Bool (is_one_of marks b)) [
      | inl mark ↦ front_of marks ends (b ∷ text) token others 1 (omega arith) (rw (mark_goes_on marks ends b mark) refl) (tokens_at_mark marks ends (b ∷ text) some (solid some) mark) e
      | inr no_mark ↦ elim (cases_Bool (is_one_of ends b)) [
        | inl end ↦
            let none : tokens_by marks ends (b ∷ text) ≡ [] = tokens_at_end marks ends (b ∷ text) some (solid some) no_mark end in
            absurd (cc)
        | inr no_end ↦
            front_of marks ends (b ∷ text) token others (prefix_len (is_run_by marks ends) (b ∷ text)) (prefix_len-le-length {X = ℕ} (is_run_by marks ends) (b ∷ text))
            (run_all (is_run_by marks ends) (is_no_end marks ends) (run_goes_on marks ends) (b ∷ text)) (token_step marks ends (b ∷ text) some (solid some) no_mark no_end) e
      ]
    ]

-- a text of which the front goes on, and then so many more bytes, and then so many more
open_to : (kind : ℕ → Bool) (text : List ℕ) (from blanks size : ℕ) → list_all kind (take from text) ≡ true → list_all kind (take blanks (drop from text)) ≡ true
    → list_all kind (take size (drop (from + blanks) text)) ≡ true → list_all kind (take (from + blanks + size) text) ≡ true
open_to kind text from blanks size one two three =
    let first : list_all kind (take (from + blanks) text) ≡ true =
    ap (list_all kind) (take-add from blanks text) ∙ list_all-append kind (take from text) (take blanks (drop from text)) ∙ rw (one, two) refl in
    ap (list_all kind) (take-add (from + blanks) size text) ∙ list_all-append kind (take (from + blanks) text) (take size (drop (from + blanks) text)) ∙ rw (first, three) refl

-- the first token behind this byte, where it begins as many bytes before the end as the text behind the blanks has
pub record IsNext (marks ends text : List ℕ) (from : ℕ) (rest token : List ℕ) : Type 0 where
  pub short : length token ≤ length rest
  pub late : length rest ≤ length text
  pub first : IsFirstOf marks ends text (tokens_by marks ends (drop from text)) record { from = length text - length rest; to = length text - length rest + length token }

pub next_is : (marks ends text : List ℕ) (from : ℕ) (rest token : List ℕ) (others : List (List ℕ)) → from ≤ length text → list_all (is_no_end marks ends) (take from text) ≡ true
    → rest ≡ past_blanks (drop from text) → (0 < length rest → is_blank (get_or rest 0 0) ≡ false) → tokens_by marks ends rest ≡ token ∷ others → IsNext marks ends text from rest token
next_is marks ends text from rest token others within goes_on behind solid e =
    let front : IsFront marks ends rest token others = front_token marks ends rest token others solid e in
    let blanks : ℕ = prefix_len is_blank (drop from text) in
    let few : blanks ≤ length text - from = omega (arith, prefix_len-le-length is_blank (drop from text), length-drop from text) in
    let dropped : rest ≡ drop (from + blanks) text = behind ∙ drop-drop blanks from text in
    let len : length rest ≡ length text - (from + blanks) = ap length dropped ∙ length-drop (from + blanks) text in
    let start : length text - length rest ≡ from + blanks = omega arith in
    let at : drop (length text - length rest) text ≡ rest = rw start (sym dropped) in
    let size : length text - length rest + length token - (length text - length rest) ≡ length token = omega arith in
    let cut : slice_range text (length text - length rest) (length text - length rest + length token) ≡ token = rw (size, at) front.front in
    let other : tokens_by marks ends (drop (length text - length rest + length token) text) ≡ others =
    ap (tokens_by marks ends) (sym (drop-drop (length token) (length text - length rest) text) ∙ ap (drop (length token)) at) ∙ front.behind in
    let all : tokens_by marks ends (drop from text) ≡ token ∷ others = behind_blanks marks ends (drop from text) ∙ ap (tokens_by marks ends) (sym behind) ∙ e in
    let blank : list_all (is_no_end marks ends) (take blanks (drop from text)) ≡ true = run_all is_blank (is_no_end marks ends) (blank_goes_on marks ends) (drop from text) in
    let last : list_all (is_no_end marks ends) (take (length token) (drop (from + blanks) text)) ≡ true =
    ap (list_all (is_no_end marks ends)) (ap (take (length token)) (sym dropped) ∙ front.front) ∙ front.goes_on in
    record {
      short = front.short;
      late = omega arith;
      first = record {
        token = all ∙ sym (rw (cut, other) refl);
        goes_on = rw start (open_to (is_no_end marks ends) text from blanks (length token) goes_on blank last);
      };
    }

-- no token behind blanks
pub none_is : (marks ends text rest : List ℕ) → rest ≡ past_blanks text → tokens_by marks ends rest ≡ [] → tokens_by marks ends text ≡ []
none_is marks ends text rest behind e = behind_blanks marks ends text ∙ ap (tokens_by marks ends) (sym behind) ∙ e

-- behind the last token is none
pub none_behind : (tokens others : List (List ℕ)) (token : List ℕ) (index : ℕ) → 0 < index → length tokens ≤ index → drop (index - 1) tokens ≡ token ∷ others → others ≡ []
none_behind tokens others token index some few e =
    let len : length tokens - (index - 1) ≡ length others + 1 = sym (length-drop (index - 1) tokens) ∙ ap length e ∙ sym (add-one (length others)) in
    nil_from_length others (omega arith)

-- a token at a place is one of so many
pub some_behind : (tokens others : List (List ℕ)) (token : List ℕ) (index : ℕ) → drop (index - 1) tokens ≡ token ∷ others → index - 1 < length tokens
some_behind tokens others token index e =
    let len : length tokens - (index - 1) ≡ length others + 1 = sym (length-drop (index - 1) tokens) ∙ ap length e ∙ sym (add-one (length others)) in
    omega arith

-- fewer tokens than were looked for
pub few_behind : (tokens others : List (List ℕ)) (token : List ℕ) (at index : ℕ) → at < index → drop at tokens ≡ token ∷ others → others ≡ [] → length tokens ≤ index
few_behind tokens others token at index before e none =
    let len : length tokens - at ≡ length others + 1 = sym (length-drop at tokens) ∙ ap length e ∙ sym (add-one (length others)) in
    let empty : length others ≡ 0 = ap length none in
    omega arith

-- the tokens behind one more
pub more_behind : (tokens others : List (List ℕ)) (token : List ℕ) (at : ℕ) → drop at tokens ≡ token ∷ others → drop (at + 1) tokens ≡ others
more_behind tokens others token at e = sym (drop-drop 1 at tokens) ∙ ap (drop 1) e

-- a place of a condition is one of its line
pub condition_is : (line before condition : List ℕ) (index : ℕ) (id place : Place) → before ≡ before_comment line → condition ≡ drop id.to before
    → IsPlaceOf [] (codes "#") before 1 id → IsPlaceOf (codes "()") [] condition index place → IsConditionPlace line index record { from = id.to + place.from; to = id.to + place.to }
condition_is line before condition index id place e rest second token =
    let from : id.to + place.from - id.to ≡ place.from = omega arith in
    let to : id.to + place.to - id.to ≡ place.to = omega arith in
    record {
      id = id;
      second = subst (λ (text : List ℕ). IsPlaceOf [] (codes "#") text 1 id) e second;
      behind = omega arith;
      token = rw (from, to) (subst (λ (text : List ℕ). IsPlaceOf (codes "()") [] text index place) (rest ∙ ap (drop id.to) e) token);
    }
