-- Reading the tokens of a line from left to right, up to the first fault. Who reads says which fault it is.
use Rattle.std.specs.Prelude.{ℕ, Result, Ok, Err, List, [], ◌∷◌, not, bytes_eq}
use Rattle.outcomes.specs.Calls.{TakesOff}
use Rattle.outcomes.specs.Outcomes.{◌>>=◌, refuse}
use Rattle.text_tokens.specs.declared.token.Tokens.{Tokens}
use Rattle.text_tokens.specs.Text.{tokens_of}

-- a token of a line, as its bytes
abbrev pub Token : Type 0
Token = List ℕ

-- the next token, and the tokens after it
unfoldable pub token_at : {E : Type 0} → E → List Token → Result (Token × List Token) E
token_at fault [] = Err fault
token_at fault (token ∷ tokens) = Ok (token, tokens)

-- this token and no other
unfoldable pub expected_at : {E : Type 0} → E → Token → List Token → Result (Unit {0} × List Token) E
expected_at fault wanted tokens = do
  token ← token_at fault tokens
  same ← refuse fault (not (bytes_eq token.0 wanted))
  Ok (tt, token.1)

-- no more tokens
unfoldable pub end_at : {E : Type 0} → E → List Token → Result (Unit {0} × List Token) E
end_at fault [] = Ok (tt, [])
end_at fault (token ∷ tokens) = Err fault

-- the tokens of a line that are not taken yet
abbrev pub unread : Tokens → List Token
unread tokens = tokens_of tokens.rest.now

-- A call reads what is stated of the unread tokens, and takes it off their front. After a fault nothing is stated of what is left.
abbrev pub Reads : {A E : Type 0} → (List Token → Result (A × List Token) E) → Tokens → Result A E → Tokens → Type 0
Reads stated old result new = TakesOff (stated (unread old)) result (unread new)
