-- What is given to values is read just where each token is of the form NAME=V.
use Rattle.std.proofs.Common.{◌≡◌, ◌≢◌, ℕ, zero, suc, ◌+◌, ◌<◌, Bool, true, false, not, Some, Result, Ok, Err, List, [], ◌∷◌, ◌++◌, length, take, drop, codes, refl, sym, ◌∙◌, ap, subst, arith, append_assoc, inl, inr}
use Rattle.std.specs.List.{list_all, prefix_len}
use Rattle.std.proofs.lemmas.Bool.Decides.{nat_tests}
use Rattle.std.proofs.lemmas.List.{append-nil}
use Rattle.lines_layout.specs.Layouts.{NamedLines, word_of}
use Rattle.text_tokens.specs.Numbers.{number_of}
use Rattle.text_tokens.specs.Cursors.{Token}
use Rattle.text_tokens.proofs.TestsThatPassed.{required_ok, same_ok}
use Rattle.outcomes.specs.Outcomes.{◌>>=◌, required}
use Rattle.outcomes.proofs.PartsOfOutcomes.{bind_ok}
use Rattle.debug_scripts.specs.declared.row.BadRow.{BadRow}
use Rattle.debug_scripts.specs.Pieces.{equals, name_and_value, stands_before_equals}
use Rattle.debug_scripts.specs.Rows.{bad_row, given_from, given_on}
use Rattle.debug_scripts.specs.Grammar.{AreGiven, IsGiven}
use Rattle.debug_scripts.proofs.PiecesAreRead.{both_parts, drop_front, span_all, span_len, span_stops, stops, take_front}

-- ---- one token

pub given_is_read : (names : NamedLines) (token : Token) (word value : ℕ) → IsGiven names token word value → given_on names token ≡ Ok (word, value)
unfolding given_on name_and_value
given_is_read names token word value g =
    let parts : token ≡ g.name ++ (codes "=" ++ g.number) = g.parts ∙ append_assoc g.name (codes "=") g.number in
    let len : prefix_len stands_before_equals token ≡ length g.name =
    ap (prefix_len stands_before_equals) parts ∙ span_len stands_before_equals g.name (codes "=" ++ g.number) g.plain refl in
    let name : take (prefix_len stands_before_equals token) token ≡ g.name =
    ap (λ (n : ℕ). take n token) len ∙ ap (take (length g.name)) parts ∙ take_front g.name (codes "=" ++ g.number) in
    let rest : drop (length g.name) token ≡ equals ∷ g.number = ap (drop (length g.name)) parts ∙ drop_front g.name (codes "=" ++ g.number) in
    let number : drop 1 (drop (prefix_len stands_before_equals token) token) ≡ g.number =
    ap (λ (n : ℕ). drop 1 (drop n token)) len ∙ ap (drop 1) rest in
    rw (name, number, g.named, g.valued) refl

none_given : (digits : List ℕ) (value : ℕ) → number_of digits ≡ Some value → digits ≢ []
unfolding number_of
none_given digits value is none = let wrong : number_of [] ≡ Some value = rw none at is in absurd (cc)

-- bytes behind a name that give a number begin with =
begins : (rest : List ℕ) (value : ℕ) → stops stands_before_equals rest ≡ true → number_of (drop 1 rest) ≡ Some value → rest ≡ equals ∷ drop 1 rest
begins [] value stop is = absurd (none_given [] value is refl)
begins (b ∷ rest) value stop is = ap (λ (c : ℕ). c ∷ rest) (ends b stop)
  where
    ends : (c : ℕ) → not (stands_before_equals c) ≡ true → c ≡ equals
    ends c h = grind (arith, nat_tests, h)

pub only_given : (names : NamedLines) (token : Token) (next : ℕ × ℕ) → given_on names token ≡ Ok next → IsGiven names token next.0 next.1
unfolding given_on name_and_value
only_given names token next e =
    let len = prefix_len stands_before_equals token in
    let a = bind_ok (required bad_row (word_of names (take len token))) (λ word. required bad_row (number_of (drop 1 (drop len token))) >>= λ value. Ok (word, value)) next e in
    let b = bind_ok (required bad_row (number_of (drop 1 (drop len token)))) (λ value. Ok (a.0, value)) next a.2 in
    let both : (a.0, b.0) ≡ next = same_ok {E = BadRow} (a.0, b.0) next b.2 in
    let value = required_ok bad_row (number_of (drop 1 (drop len token))) b.0 b.1 in
    let rest = begins (drop len token) b.0 (span_stops stands_before_equals token) value in
    subst (λ (g : ℕ × ℕ). IsGiven names token g.0 g.1) both (record {
      name = take len token;
      number = drop 1 (drop len token);
      parts = both_parts len token ∙ ap (λ (t : List ℕ). take len token ++ t) rest ∙ sym (append_assoc (take len token) (codes "=") (drop 1 (drop len token)));
      plain = span_all stands_before_equals token;
      named = required_ok bad_row (word_of names (take len token)) a.0 a.1;
      valued = value;
    })

-- ---- all tokens

pub given_are_read : (names : NamedLines) (before : List (ℕ × ℕ)) (tokens : List Token) (given : List (ℕ × ℕ)) → AreGiven names tokens given → given_from names before tokens ≡ Ok (before ++ given)
unfolding given_from
given_are_read names before [] given none = ap (λ (g : List (ℕ × ℕ)). Ok g) (sym (ap (λ (g : List (ℕ × ℕ)). before ++ g) none ∙ append-nil before))
given_are_read names before (token ∷ tokens) given (word, value, later, is, are, all) =
    rw (given_is_read names token word value is)
    (given_are_read names (before ++ (word, value) ∷ []) tokens later are
    ∙ ap (λ (g : List (ℕ × ℕ)). Ok g) (append_assoc before ((word, value) ∷ []) later ∙ ap (λ (g : List (ℕ × ℕ)). before ++ g) (sym all)))

-- and no others
pub only_are_given : (names : NamedLines) (before : List (ℕ × ℕ)) (tokens : List Token) (made : List (ℕ × ℕ)) → given_from names before tokens ≡ Ok made
    → (given : List (ℕ × ℕ)) × AreGiven names tokens given × (made ≡ before ++ given)
unfolding given_from
only_are_given names before [] made e = ([], refl, sym (append-nil before ∙ same_ok {E = BadRow} before made e))
only_are_given names before (token ∷ tokens) made e =
    let a = bind_ok (given_on names token) (λ next. given_from names (before ++ next ∷ []) tokens) made e in
    let (later, are, is) = only_are_given names (before ++ a.0 ∷ []) tokens made a.2 in
    (a.0 ∷ later, (a.0.0, a.0.1, later, only_given names token a.0 a.1, are, refl), is ∙ append_assoc before (a.0 ∷ []) later)

-- ---- one token more

module _ (names : NamedLines) (given : List (ℕ × ℕ)) (tokens : List Token) where
  pub given_end : tokens ≡ [] → given_from names given tokens ≡ Ok given
  unfolding given_from
  given_end e = rw e refl

  pub given_bad : (token : Token) (others : List Token) (bad : BadRow) → tokens ≡ token ∷ others → given_on names token ≡ Err bad → given_from names given tokens ≡ Err bad
  unfolding given_from
  given_bad token others bad e read = rw (e, read) refl

  pub given_next : (token : Token) (others : List Token) (next : ℕ × ℕ) (more : List (ℕ × ℕ)) → tokens ≡ token ∷ others → given_on names token ≡ Ok next → more ≡ given ++ next ∷ [] → given_from names more others ≡ given_from names given tokens
  unfolding given_from
  given_next token others next more e read pushed = rw (e, read, pushed) refl

pub ruleset given_steps = (given_end, given_bad, given_next)
