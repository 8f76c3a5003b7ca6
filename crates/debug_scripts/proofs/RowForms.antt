-- A line is read just where it is of a form.
use Rattle.std.proofs.Common.{◌≡◌, ℕ, ◌<◌, true, false, not, Some, Result, Ok, List, [], ◌∷◌, ◌++◌, length, codes, bytes_eq, refl, sym, ◌∙◌, ap, subst, inl, inr, arith, append_assoc}
use Rattle.std.proofs.lemmas.Bool.{cases_Bool, and_parts}
use Rattle.std.specs.List.{list_all}
use Rattle.lines_layout.specs.Layouts.{NamedLines, word_of}
use Rattle.machine.specs.declared.step.Step.{Step}
use Rattle.machine.specs.declared.step.Step.TheVariants.{Exec, Drain, Persist, Settle, Crash}
use Rattle.text_tokens.specs.Numbers.{small_number_of}
use Rattle.text_tokens.specs.Text.{is_blank, is_plain_line, tokens_of}
use Rattle.text_tokens.specs.Cursors.{Token, token_at, end_at}
use Rattle.text_tokens.proofs.TestsThatPassed.{required_ok, refuse_ok, refused_as_ok, not_false, same_ok, named, end_form}
use Rattle.outcomes.specs.Outcomes.{◌>>=◌, refuse, refused_as, required}
use Rattle.outcomes.proofs.PartsOfOutcomes.{bind_ok}
use Rattle.schedule.specs.StepTexts.{IsForm, step_at}
use Rattle.schedule.specs.StepTexts as steps
use Rattle.schedule.proofs.StepLinesAreRead.{step_form}
use Rattle.debug_scripts.specs.declared.orders.Command.{Command}
use Rattle.debug_scripts.specs.declared.orders.Command.TheVariants.{Gather, Go, Continue, Back, Show, Images, Disarm, Detach, Values}
use Rattle.debug_scripts.specs.declared.row.BadRow.{BadRow}
use Rattle.debug_scripts.specs.Pieces.{is_solid, piece_of, uncommented}
use Rattle.debug_scripts.specs.Rows.{Said, Blank, Stop, Watch, Ask, Do, bad_row, number_at, stop_on, values_on, watch_on, command_at, command_on, tokens_row, row_in, row_of}
use Rattle.debug_scripts.specs.Grammar.{IsStopLine, IsOtherLine, IsCommandForm, IsRow, Says, is_apart}
use Rattle.debug_scripts.proofs.PiecesAreRead.{piece_is, piece_parts}

other_is : (line : List ℕ) → IsOtherLine line → bytes_eq (piece_of (uncommented line)).0 (codes "stop") ≡ false
other_is line other = elim (cases_Bool (bytes_eq (piece_of (uncommented line)).0 (codes "stop"))) [
  | inl is ↦ absurd (other (named (piece_of (uncommented line)).0 (codes "stop") is))
  | inr differs ↦ differs
]

is_other : (line : List ℕ) → bytes_eq (piece_of (uncommented line)).0 (codes "stop") ≡ false → IsOtherLine line
is_other line differs = λ (is : (piece_of (uncommented line)).0 ≡ codes "stop"). let yes : bytes_eq (piece_of (uncommented line)).0 (codes "stop") ≡ true = rw is refl in absurd (cc)

blank_is_apart : (gap behind : List ℕ) → 0 < length gap → list_all is_blank gap ≡ true → is_apart (gap ++ behind) ≡ true
blank_is_apart [] behind some blank = absurd (omega arith)
blank_is_apart (b ∷ gap) behind some blank = let h = (and_parts (is_blank b) (list_all is_blank gap) blank).0 in rw h refl

some_digits : (digits : List ℕ) (id : ℕ) → small_number_of digits ≡ Some id → 0 < length digits
unfolding small_number_of
some_digits [] id h = absurd cc
some_digits (d ∷ digits) id h = omega arith

nested : (a b c d e : List ℕ) → a ++ b ++ c ++ d ++ e ≡ a ++ (b ++ (c ++ (d ++ e)))
nested a b c d e = simp append_assoc

stop_is_read : (line : List ℕ) (id : ℕ) (condition : List ℕ) → IsStopLine line id condition
    → (piece : List ℕ × List ℕ) × (piece_of (uncommented line) ≡ piece) × (piece.0 ≡ codes "stop") × (stop_on piece.1 ≡ Ok (Stop id condition))
unfolding stop_on
stop_is_read line id condition s =
    let behind = s.gap ++ (s.digits ++ condition) in
    let first : piece_of (uncommented line) ≡ (codes "stop", behind) =
    ap piece_of (s.parts ∙ nested s.front (codes "stop") s.gap s.digits condition) ∙ piece_is s.front (codes "stop") behind s.front_blank (omega arith) refl (blank_is_apart s.gap (s.digits ++ condition) s.gap_there s.gap_blank) in
    let second : piece_of behind ≡ (s.digits, condition) = piece_is s.gap s.digits condition s.gap_blank (some_digits s.digits id s.number) s.solid s.apart in
    ((codes "stop", behind), first, refl, rw (second, s.number) refl)

tokens_are_read : (names : NamedLines) (ts : List Token) (command : Command) → IsCommandForm ts command → tokens_row names ts ≡ Ok (Do command)
unfolding tokens_row command_on command_at number_at token_at end_at step_at steps.number_at
tokens_are_read names ts (Gather (Exec p)) (number, tokens, value) = rw (tokens, value) refl
tokens_are_read names ts (Gather (Drain p i)) (number, place, tokens, value, index) = rw (tokens, value, index) refl
tokens_are_read names ts (Gather (Persist g)) (number, tokens, value) = rw (tokens, value) refl
tokens_are_read names ts (Gather Settle) tokens = rw tokens refl
tokens_are_read names ts (Gather Crash) tokens = rw tokens refl
tokens_are_read names ts Go tokens = rw tokens refl
tokens_are_read names ts Continue tokens = rw tokens refl
tokens_are_read names ts (Back n) (number, tokens, value) = rw (tokens, value) refl
tokens_are_read names ts Show tokens = rw tokens refl
tokens_are_read names ts Images tokens = rw tokens refl
tokens_are_read names ts (Disarm id) (number, tokens, value) = rw (tokens, value) refl
tokens_are_read names ts (Detach id) (number, tokens, value) = rw (tokens, value) refl
tokens_are_read names ts (Values asks) form = absurd form

watch_is_read : (names : NamedLines) (ts : List Token) (number name : Token) (id word : ℕ) → ts ≡ codes "watch" ∷ number ∷ name ∷ [] → small_number_of number ≡ Some id → word_of names name ≡ Some word
    → tokens_row names ts ≡ Ok (Watch id word)
unfolding tokens_row watch_on number_at token_at end_at
watch_is_read names ts number name id word tokens value named_word = rw (tokens, value, named_word) refl

values_are_read : (names : NamedLines) (ts : List Token) (name : Token) (given : List Token) (word : ℕ) → ts ≡ codes "values" ∷ name ∷ given → word_of names name ≡ Some word → tokens_row names ts ≡ Ok (Ask word given)
unfolding tokens_row values_on token_at
values_are_read names ts name given word tokens named_word = rw (tokens, named_word) refl

blank_is_read : (names : NamedLines) (ts : List Token) → ts ≡ [] → tokens_row names ts ≡ Ok Blank
unfolding tokens_row
blank_is_read names ts tokens = rw tokens refl

by_tokens : (names : NamedLines) (line : List ℕ) (row : Said) → is_plain_line line ≡ true → IsOtherLine line → tokens_row names (tokens_of line) ≡ Ok row → row_of names line ≡ Ok row
unfolding row_of
by_tokens names line row plain other read = rw (plain, other_is line other) read

-- what is of a form is read
pub row_is_read : (names : NamedLines) (line : List ℕ) (row : Said) → IsRow names line row → row_of names line ≡ Ok row
unfolding row_of
row_is_read names line Blank (plain, (other, tokens)) = by_tokens names line Blank plain other (blank_is_read names (tokens_of line) tokens)
row_is_read names line (Stop id condition) (plain, s) =
    let r = stop_is_read line id condition s in
    let is : bytes_eq r.0.0 (codes "stop") ≡ true = rw r.2 refl in
    rw (plain, r.1, is) r.3
row_is_read names line (Watch id word) (plain, (other, number, name, tokens, value, named_word)) =
    by_tokens names line (Watch id word) plain other (watch_is_read names (tokens_of line) number name id word tokens value named_word)
row_is_read names line (Ask word given) (plain, (other, name, tokens, named_word)) =
    by_tokens names line (Ask word given) plain other (values_are_read names (tokens_of line) name given word tokens named_word)
row_is_read names line (Do command) (plain, (other, form)) = by_tokens names line (Do command) plain other (tokens_are_read names (tokens_of line) command form)

same_pair : {A : Type 0} (a c : A) (b d : List Token) → ◌≡◌ {A = Result (A × List Token) BadRow} (Ok (a, b)) (Ok (c, d)) → (a ≡ c) × (b ≡ d)
same_pair {A} a c b d e =
    let pair = same_ok {E = BadRow} (a, b) (c, d) e in
    (ap (λ (q : A × List Token). q.0) pair, ap (λ (q : A × List Token). q.1) pair)

number_form : (tokens : List Token) (n : ℕ) (rest : List Token) → number_at tokens ≡ Ok (n, rest) → (number : Token) × (tokens ≡ number ∷ rest) × (small_number_of number ≡ Some n)
unfolding number_at token_at
number_form [] n rest e = absurd cc
number_form (token ∷ tokens) n rest e =
    let b = bind_ok (required bad_row (small_number_of token)) (λ m. Ok (m, tokens)) (n, rest) e in
    let p = same_pair b.0 n tokens rest b.2 in
    (token, ap (λ (ts : List Token). token ∷ ts) p.1, required_ok bad_row (small_number_of token) b.0 b.1 ∙ ap (λ (m : ℕ). Some m) p.0)

-- a command of a number that was read, and the tokens behind it
abbrev made_of : (ℕ → Command) → ℕ × List Token → Result (Command × List Token) BadRow
made_of f p = Ok (f p.0, p.1)

-- a number, and a command of it
one_number : (f : ℕ → Command) (tokens : List Token) (command : Command) → (number_at tokens >>= made_of f) ≡ Ok (command, [])
    → (number : Token) × (n : ℕ) × (tokens ≡ number ∷ []) × (small_number_of number ≡ Some n) × (f n ≡ command)
one_number f tokens command e =
    let b = bind_ok (number_at tokens) (made_of f) (command, []) e in
    let h = number_form tokens b.0.0 b.0.1 b.1 in
    let p = same_pair (f b.0.0) command b.0.1 [] b.2 in
    (h.0, b.0.0, h.1 ∙ ap (λ (ts : List Token). h.0 ∷ ts) p.1, h.2, p.0)

-- the command that gathers a step that was read, and the tokens behind it
abbrev gathered_of : Step × List Token → Result (Command × List Token) BadRow
gathered_of p = Ok (Gather p.0, p.1)

one_step : (first : Token) (tokens : List Token) (command : Command) → (refused_as (λ bad. bad_row) (step_at first tokens) >>= gathered_of) ≡ Ok (command, [])
    → (step : Step) × (step_at first tokens ≡ Ok (step, [])) × (Gather step ≡ command)
one_step first tokens command e =
    let b = bind_ok (refused_as (λ bad. bad_row) (step_at first tokens)) gathered_of (command, []) e in
    let p = same_pair (Gather b.0.0) command b.0.1 [] b.2 in
    (b.0.0, refused_as_ok (λ bad. bad_row) (step_at first tokens) b.0 b.1 ∙ ap (λ (ts : List Token). Ok (b.0.0, ts)) p.1, p.0)

command_form : (first : Token) (tokens : List Token) (command : Command) → command_at first tokens ≡ Ok (command, []) → IsCommandForm (first ∷ tokens) command
unfolding command_at
command_form first tokens command e =
    elim (cases_Bool (bytes_eq first (codes "go"))) [
      | inl go ↦
          let is = named first (codes "go") go in
          let p = same_pair Go command tokens [] (rw go at e) in
          subst (IsCommandForm (first ∷ tokens)) p.0 cc
      | inr go ↦ elim (cases_Bool (bytes_eq first (codes "continue"))) [
        | inl go_on ↦
            let is = named first (codes "continue") go_on in
            let p = same_pair Continue command tokens [] (rw (go, go_on) at e) in
            subst (IsCommandForm (first ∷ tokens)) p.0 cc
        | inr go_on ↦ elim (cases_Bool (bytes_eq first (codes "back"))) [
          | inl back ↦
              let is = named first (codes "back") back in
              let n = one_number (λ k. Back k) tokens command (rw (go, go_on, back) at e) in
              subst (IsCommandForm (first ∷ tokens)) n.4 (n.0, cc, n.3)
          | inr back ↦ elim (cases_Bool (bytes_eq first (codes "show"))) [
            | inl show ↦
                let is = named first (codes "show") show in
                let p = same_pair Show command tokens [] (rw (go, go_on, back, show) at e) in
                subst (IsCommandForm (first ∷ tokens)) p.0 cc
            | inr show ↦ elim (cases_Bool (bytes_eq first (codes "images"))) [
              | inl images ↦
                  let is = named first (codes "images") images in
                  let p = same_pair Images command tokens [] (rw (go, go_on, back, show, images) at e) in
                  subst (IsCommandForm (first ∷ tokens)) p.0 cc
              | inr images ↦ elim (cases_Bool (bytes_eq first (codes "disarm"))) [
                | inl disarm ↦
                    let is = named first (codes "disarm") disarm in
                    let n = one_number (λ k. Disarm k) tokens command (rw (go, go_on, back, show, images, disarm) at e) in
                    subst (IsCommandForm (first ∷ tokens)) n.4 (n.0, cc, n.3)
                | inr disarm ↦ elim (cases_Bool (bytes_eq first (codes "detach"))) [
                  | inl detach ↦
                      let is = named first (codes "detach") detach in
                      let n = one_number (λ k. Detach k) tokens command (rw (go, go_on, back, show, images, disarm, detach) at e) in
                      subst (IsCommandForm (first ∷ tokens)) n.4 (n.0, cc, n.3)
                  | inr detach ↦
                      let n = one_step first tokens command (rw (go, go_on, back, show, images, disarm, detach) at e) in
                      subst (IsCommandForm (first ∷ tokens)) n.2 (step_form first tokens n.0 n.1)
                ]
              ]
            ]
          ]
        ]
      ]
    ]

-- what all the tokens of a line say that declares no stop
abbrev SaysTokens : NamedLines → List Token → Said → Type 0
SaysTokens names ts Blank = ts ≡ []
SaysTokens names ts (Stop id condition) = ⊥
SaysTokens names ts (Watch id word) = (number : Token) × (name : Token) × (ts ≡ codes "watch" ∷ number ∷ name ∷ []) × (small_number_of number ≡ Some id) × (word_of names name ≡ Some word)
SaysTokens names ts (Ask word given) = (name : Token) × (ts ≡ codes "values" ∷ name ∷ given) × (word_of names name ≡ Some word)
SaysTokens names ts (Do command) = IsCommandForm ts command

name_form : (tokens : List Token) (name : Token) (rest : List Token) → token_at bad_row tokens ≡ Ok (name, rest) → tokens ≡ name ∷ rest
unfolding token_at
name_form [] name rest e = absurd cc
name_form (token ∷ tokens) name rest e =
    let p = same_pair token name tokens rest e in
    ap (λ (t : Token). t ∷ tokens) p.0 ∙ ap (λ (ts : List Token). name ∷ ts) p.1

watch_form : (names : NamedLines) (first : Token) (tokens : List Token) (row : Said) → first ≡ codes "watch" → watch_on names tokens ≡ Ok row → SaysTokens names (first ∷ tokens) row
unfolding watch_on
watch_form names first tokens row is e =
    let a = bind_ok (number_at tokens) (λ id. token_at bad_row id.1 >>= λ name. required bad_row (word_of names name.0) >>= λ word. end_at bad_row name.1 >>= λ end. Ok (Watch id.0 word)) row e in
    let b = bind_ok (token_at bad_row a.0.1) (λ name. required bad_row (word_of names name.0) >>= λ word. end_at bad_row name.1 >>= λ end. Ok (Watch a.0.0 word)) row a.2 in
    let d = bind_ok (required bad_row (word_of names b.0.0)) (λ word. end_at bad_row b.0.1 >>= λ end. Ok (Watch a.0.0 word)) row b.2 in
    let f = bind_ok (end_at bad_row b.0.1) (λ end. Ok (Watch a.0.0 d.0)) row d.2 in
    let number = number_form tokens a.0.0 a.0.1 a.1 in
    let name = name_form a.0.1 b.0.0 b.0.1 b.1 in
    let none = end_form bad_row b.0.1 f.0 f.1 in
    let all : tokens ≡ number.0 ∷ b.0.0 ∷ [] = number.1 ∙ ap (λ (ts : List Token). number.0 ∷ ts) (name ∙ ap (λ (ts : List Token). b.0.0 ∷ ts) none) in
    subst (SaysTokens names (first ∷ tokens)) (same_ok {E = BadRow} (Watch a.0.0 d.0) row f.2)
    (number.0, b.0.0, ap (λ (t : Token). t ∷ tokens) is ∙ ap (λ (ts : List Token). codes "watch" ∷ ts) all, number.2, required_ok bad_row (word_of names b.0.0) d.0 d.1)

values_form : (names : NamedLines) (first : Token) (tokens : List Token) (row : Said) → first ≡ codes "values" → values_on names tokens ≡ Ok row → SaysTokens names (first ∷ tokens) row
unfolding values_on
values_form names first tokens row is e =
    let a = bind_ok (token_at bad_row tokens) (λ name. required bad_row (word_of names name.0) >>= λ word. Ok (Ask word name.1)) row e in
    let b = bind_ok (required bad_row (word_of names a.0.0)) (λ word. Ok (Ask word a.0.1)) row a.2 in
    let name = name_form tokens a.0.0 a.0.1 a.1 in
    subst (SaysTokens names (first ∷ tokens)) (same_ok {E = BadRow} (Ask b.0 a.0.1) row b.2)
    (a.0.0, ap (λ (t : Token). t ∷ tokens) is ∙ ap (λ (ts : List Token). codes "values" ∷ ts) name, required_ok bad_row (word_of names a.0.0) b.0 b.1)

do_form : (names : NamedLines) (first : Token) (tokens : List Token) (row : Said) → command_on first tokens ≡ Ok row → SaysTokens names (first ∷ tokens) row
unfolding command_on
do_form names first tokens row e =
    let a = bind_ok (command_at first tokens) (λ command. end_at bad_row command.1 >>= λ end. Ok (Do command.0)) row e in
    let b = bind_ok (end_at bad_row a.0.1) (λ end. Ok (Do a.0.0)) row a.2 in
    let none = end_form bad_row a.0.1 b.0 b.1 in
    subst (SaysTokens names (first ∷ tokens)) (same_ok {E = BadRow} (Do a.0.0) row b.2)
    (command_form first tokens a.0.0 (a.1 ∙ ap (λ (ts : List Token). Ok (a.0.0, ts)) none))

tokens_form : (names : NamedLines) (ts : List Token) (row : Said) → tokens_row names ts ≡ Ok row → SaysTokens names ts row
unfolding tokens_row
tokens_form names [] row e = subst (SaysTokens names []) (same_ok {E = BadRow} Blank row e) refl
tokens_form names (first ∷ tokens) row e =
    elim (cases_Bool (bytes_eq first (codes "watch"))) [
      | inl is ↦ watch_form names first tokens row (named first (codes "watch") is) (rw is at e)
      | inr differs ↦ elim (cases_Bool (bytes_eq first (codes "values"))) [
        | inl asks ↦ values_form names first tokens row (named first (codes "values") asks) (rw (differs, asks) at e)
        | inr others ↦ do_form names first tokens row (rw (differs, others) at e)
      ]
    ]

stop_form : (line : List ℕ) (row : Said) → (piece_of (uncommented line)).0 ≡ codes "stop" → stop_on (piece_of (uncommented line)).1 ≡ Ok row
    → (id : ℕ) × (condition : List ℕ) × (Stop id condition ≡ row) × IsStopLine line id condition
unfolding stop_on
stop_form line row is e =
    let text = uncommented line in
    let behind = (piece_of text).1 in
    let b = bind_ok (required bad_row (small_number_of (piece_of behind).0)) (λ id. Ok (Stop id (piece_of behind).1)) row e in
    let first = piece_parts text in
    let second = piece_parts behind in
    let number = required_ok bad_row (small_number_of (piece_of behind).0) b.0 b.1 in (
      b.0,
      (piece_of behind).1,
      same_ok {E = BadRow} (Stop b.0 (piece_of behind).1) row b.2,
      record {
        front = first.front;
        gap = second.front;
        digits = (piece_of behind).0;
        parts = first.parts ∙ ap (λ (w : List ℕ). first.front ++ (w ++ behind)) is ∙ ap (λ (t : List ℕ). first.front ++ (codes "stop" ++ t)) second.parts ∙ sym (nested first.front (codes "stop") second.front (piece_of behind).0 (piece_of behind).1);
        front_blank = first.blank;
        gap_blank = second.blank;
        gap_there = gap_of second.front (piece_of behind).0 (piece_of behind).1 (some_digits (piece_of behind).0 b.0 number) second.solid (subst (λ (t : List ℕ). is_apart t ≡ true) second.parts first.apart);
        solid = second.solid;
        number = number;
        apart = second.apart;
      },
    )
  where
    gap_of : (gap digits condition : List ℕ) → 0 < length digits → list_all is_solid digits ≡ true → is_apart (gap ++ (digits ++ condition)) ≡ true → 0 < length gap
    gap_of [] [] condition some solid apart = absurd (omega arith)
    gap_of [] (d ∷ digits) condition some solid apart = let h = (and_parts (is_solid d) (list_all is_solid digits) solid).0 in let wrong : not true ≡ true = rw h at apart in absurd (cc)
    gap_of (b ∷ gap) digits condition some solid apart = omega arith

says : (names : NamedLines) (line : List ℕ) (row : Said) → IsOtherLine line → SaysTokens names (tokens_of line) row → Says names line row
says names line Blank other h = (other, h)
says names line (Stop id condition) other h = absurd h
says names line (Watch id word) other h = (other, h.0, h.1, h.2, h.3, h.4)
says names line (Ask word given) other h = (other, h.0, h.1, h.2)
says names line (Do command) other h = (other, h)

-- no other line is read
pub only_rows : (names : NamedLines) (line : List ℕ) (row : Said) → row_of names line ≡ Ok row → IsRow names line row
unfolding row_of
only_rows names line row e =
    let a = bind_ok (refuse bad_row (not (is_plain_line line))) (λ plain. row_in names (piece_of (uncommented line)) (tokens_of line)) row e in
    let plain = not_false (is_plain_line line) (refuse_ok bad_row (not (is_plain_line line)) a.0 a.1) in
    elim (cases_Bool (bytes_eq (piece_of (uncommented line)).0 (codes "stop"))) [
      | inl is ↦
          let s = stop_form line row (named (piece_of (uncommented line)).0 (codes "stop") is) (rw is at a.2) in
          (plain, subst (Says names line) s.2 s.3)
      | inr differs ↦ (plain, says names line row (is_other line differs) (tokens_form names (tokens_of line) row (rw differs at a.2)))
    ]
