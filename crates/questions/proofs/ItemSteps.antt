-- One more token of a line, and one more line.
use Rattle.std.proofs.Common.{◌≡◌, ℕ, ◌+◌, Ok, Err, List, [], ◌∷◌, refl}
use Rattle.text_tokens.specs.Cursors.{Token}
use Rattle.litmus_text.specs.declared.fault.TextFault.{TextFault}
use Rattle.questions.specs.Items.{Items, line_after, lines_from, token_after, tokens_from}

-- ---- tokens

pub no_token : (n : ℕ) (items : Items) (tokens : List Token) → tokens ≡ [] → tokens_from n items tokens ≡ Ok items
unfolding tokens_from
no_token n items tokens e = rw e refl

pub one_token : (n : ℕ) (items next : Items) (tokens : List Token) (token : Token) (others : List Token)
    → tokens ≡ token ∷ others → token_after n items token ≡ Ok next → tokens_from n next others ≡ tokens_from n items tokens
unfolding tokens_from
one_token n items next tokens token others e read = rw (e, read) refl

pub fault_token : (n : ℕ) (items : Items) (tokens : List Token) (token : Token) (others : List Token) (fault : TextFault)
    → tokens ≡ token ∷ others → token_after n items token ≡ Err fault → tokens_from n items tokens ≡ Err fault
unfolding tokens_from
fault_token n items tokens token others fault e read = rw (e, read) refl

pub ruleset token_steps = (no_token, one_token, fault_token)

-- ---- lines

pub no_line : (n : ℕ) (items : Items) (lines : List (List ℕ)) → lines ≡ [] → lines_from n items lines ≡ Ok items
unfolding lines_from
no_line n items lines e = rw e refl

pub one_line : (n : ℕ) (items next : Items) (lines : List (List ℕ)) (line : List ℕ) (others : List (List ℕ))
    → lines ≡ line ∷ others → line_after n items line ≡ Ok next → lines_from (n + 1) next others ≡ lines_from n items lines
unfolding lines_from
one_line n items next lines line others e read = rw (e, read) refl

pub fault_line : (n : ℕ) (items : Items) (lines : List (List ℕ)) (line : List ℕ) (others : List (List ℕ)) (fault : TextFault)
    → lines ≡ line ∷ others → line_after n items line ≡ Err fault → lines_from n items lines ≡ Err fault
unfolding lines_from
fault_line n items lines line others fault e read = rw (e, read) refl

pub ruleset line_steps = (no_line, one_line, fault_line)
