-- Steps that are written are read again.
use Rattle.std.proofs.Common.{◌≡◌, ℕ, ◌+◌, ◌<◌, ◌≤◌, Bool, true, Some, Ok, List, [], ◌∷◌, ◌++◌, length, take, refl, ap, ◌∙◌, append_assoc, arith}
use Rattle.std.specs.Prelude.{codes, decimal}
use Rattle.std.specs.List.{AllByRecursion, list_all}
use Rattle.std.proofs.lemmas.List.{take_all}
use Rattle.std.proofs.lemmas.List.Folds.{list_all-append}
use Rattle.machine.specs.declared.step.Step.{Step}
use Rattle.machine.specs.declared.step.Step.TheVariants.{Exec, Drain, Persist, Settle, Crash}
use Rattle.text_tokens.specs.Cursors.{Token}
use Rattle.text_tokens.specs.Text.{is_line_byte, is_plain, line_feed, lines_of, tokens_of}
use Rattle.text_tokens.proofs.NumbersAreRead.{decimal_all, decimal_token, digit_is_line_byte, digit_is_plain, last_decimal, small_number_of-decimal}
use Rattle.text_tokens.proofs.LinesAndTokensAreRead.{lines_of-line, no_text}
use Rattle.schedule.specs.StepTexts.{IsForm, step_on, steps_from, steps_of}
use Rattle.schedule.specs.Written.{IsWritable, steps_text, written}
use Rattle.schedule.proofs.StepLinesAreRead.{form_is_read}

-- the tokens of a written step
abbrev tokens_written : Step → List Token
tokens_written (Exec p) = codes "exec" ∷ decimal p ∷ []
tokens_written (Drain p i) = codes "drain" ∷ decimal p ∷ decimal i ∷ []
tokens_written (Persist line) = codes "persist" ∷ decimal line ∷ []
tokens_written Settle = codes "settle" ∷ []
tokens_written Crash = codes "crash" ∷ []

abbrev behind : Token → List Token → List Token
behind token tokens = token ∷ tokens

tokens_are : (step : Step) → IsWritable step → tokens_of (written step) ≡ tokens_written step
unfolding tokens_of
tokens_are (Exec p) h = ap (behind (codes "exec")) (last_decimal p (omega (arith, h)))
tokens_are (Drain p i) h =
    let regrouped : written (Drain p i) ≡ codes "drain " ++ (decimal p ++ (32 ∷ decimal i)) = simp append_assoc in
    ap tokens_of regrouped
    ∙ ap (behind (codes "drain")) (decimal_token p (32 ∷ decimal i) (omega (arith, h.0)) refl ∙ ap (behind (decimal p)) (last_decimal i (omega (arith, h.1))))
tokens_are (Persist line) h = ap (behind (codes "persist")) (last_decimal line (omega (arith, h)))
tokens_are Settle h = refl
tokens_are Crash h = refl

form_is : (step : Step) → IsWritable step → IsForm (tokens_written step) step
form_is (Exec p) h = (decimal p, refl, small_number_of-decimal p h)
form_is (Drain p i) h = (decimal p, decimal i, refl, small_number_of-decimal p h.0, small_number_of-decimal i h.1)
form_is (Persist line) h = (decimal line, refl, small_number_of-decimal line h)
form_is Settle h = refl
form_is Crash h = refl

-- each byte passes a test that digits and the letters of the steps pass
all_written : (q : ℕ → Bool) → ((k : ℕ) → k < 10 → q (48 + k) ≡ true)
    → list_all q (codes "exec ") ≡ true → list_all q (codes "drain ") ≡ true → list_all q (codes " ") ≡ true → list_all q (codes "persist ") ≡ true
    → list_all q (codes "settle") ≡ true → list_all q (codes "crash") ≡ true → (step : Step) → IsWritable step → list_all q (written step) ≡ true
all_written q each exec drain space persist settle crash (Exec p) h = list_all-append q (codes "exec ") (decimal p) ∙ rw (exec, decimal_all q each p (omega (arith, h))) refl
all_written q each exec drain space persist settle crash (Drain p i) h =
    list_all-append q (codes "drain " ++ decimal p ++ codes " ") (decimal i)
    ∙ rw (list_all-append q (codes "drain " ++ decimal p) (codes " "), list_all-append q (codes "drain ") (decimal p), drain, space, decimal_all q each p (omega (arith, h.0)), decimal_all q each i (omega (arith, h.1))) refl
all_written q each exec drain space persist settle crash (Persist line) h = list_all-append q (codes "persist ") (decimal line) ∙ rw (persist, decimal_all q each line (omega (arith, h))) refl
all_written q each exec drain space persist settle crash Settle h = settle
all_written q each exec drain space persist settle crash Crash h = crash

line_says : (step : Step) → IsWritable step → step_on (written step) ≡ Ok (Some step)
line_says step h =
    form_is_read (written step) step (all_written is_plain digit_is_plain refl refl refl refl refl refl step h) (rw (tokens_are step h) (form_is step h))

text_says : (n : ℕ) (steps : List Step) → AllByRecursion IsWritable steps → steps_from n (lines_of (steps_text steps)) ≡ Ok steps
unfolding steps_from
text_says n [] h = rw no_text refl
text_says n (step ∷ steps) (first, others) =
    let regrouped : steps_text (step ∷ steps) ≡ written step ++ (line_feed ∷ steps_text steps) = append_assoc (written step) (line_feed ∷ []) (steps_text steps) in
    let lines : lines_of (steps_text (step ∷ steps)) ≡ written step ∷ lines_of (steps_text steps) =
    ap lines_of regrouped ∙ lines_of-line (written step) (steps_text steps) (all_written is_line_byte digit_is_line_byte refl refl refl refl refl refl step first) in
    ap (steps_from n) lines ∙ rw (line_says step first, text_says (n + 1) steps others) refl

-- the written form of steps says them
pub written_is_read : (steps : List Step) → AllByRecursion IsWritable steps → steps_of (steps_text steps) ≡ Ok steps
written_is_read steps h = text_says 1 steps h

-- and no others
pub written_is_single : (some others : List Step) → AllByRecursion IsWritable some → AllByRecursion IsWritable others → steps_text some ≡ steps_text others → some ≡ others
written_is_single some others is_some is_other same =
    let one = written_is_read some is_some in
    let two = written_is_read others is_other in
    let both = ap steps_of same in
    cc

-- where a loop over the steps ends
pub written_again : (steps : List Step) (n : ℕ) (text : List ℕ) → length steps ≤ n → AllByRecursion IsWritable (take n steps) → text ≡ steps_text (take n steps) → steps_of text ≡ Ok steps
written_again steps n text all h e =
    ap steps_of e ∙ written_is_read (take n steps) h ∙ ap (λ (xs : List Step). Ok xs) (take_all n steps all)
