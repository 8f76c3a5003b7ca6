-- One more token that is read before a fault, and one more line. A line has no more tokens than bytes.
use Rattle.std.proofs.Common.{◌≡◌, ◌≤◌, ℕ, ◌+◌, true, false, nat_eq, Ok, Err, List, [], ◌∷◌, length, codes, refl, inl, inr, arith}
use Rattle.std.proofs.lemmas.Bool.{cases_Bool}
use Rattle.std.proofs.lemmas.Bool.Decides.{eqb_tells}
use Rattle.text_tokens.specs.Cursors.{Token}
use Rattle.text_tokens.specs.Text.{goes_on_by, is_blank, is_one_of, onto_first, tokens_by}
use Rattle.litmus_text.specs.declared.fault.TextFault.{TextFault}
use Rattle.questions.specs.Items.{Items, line_after, token_after}
use Rattle.questions.specs.Tokens.{item_tokens}
use Rattle.questions.specs.Places.{others_read, read_among, tokens_read}

-- ---- tokens

pub no_token : (n : ℕ) (items : Items) (tokens : List Token) → tokens ≡ [] → others_read n items tokens ≡ 0
unfolding others_read
no_token n items tokens e = rw e refl

pub one_token : (n : ℕ) (items next : Items) (tokens : List Token) (token : Token) (others : List Token)
    → tokens ≡ token ∷ others → token_after n items token ≡ Ok next → others_read n items tokens ≡ 1 + others_read n next others
unfolding others_read
one_token n items next tokens token others e read = rw (e, read) refl

pub fault_token : (n : ℕ) (items : Items) (tokens : List Token) (token : Token) (others : List Token) (fault : TextFault)
    → tokens ≡ token ∷ others → token_after n items token ≡ Err fault → others_read n items tokens ≡ 0
unfolding others_read
fault_token n items tokens token others fault e read = rw (e, read) refl

few_with : (b n : ℕ) (tokens : List Token) → length tokens ≤ n → length (onto_first b tokens) ≤ n + 1
few_with b n [] h = omega arith
few_with b n (first ∷ others) h = omega arith

few_by : (marks ends line : List ℕ) → length (tokens_by marks ends line) ≤ length line
few_by marks ends [] = omega arith
few_by marks ends (b ∷ line) =
    let few = few_by marks ends line in
    elim (cases_Bool (is_blank b)) [
      | inl h ↦ rw h (omega (arith, few))
      | inr h ↦ elim (cases_Bool (is_one_of marks b)) [
        | inl m ↦ rw (h, m) (omega (arith, few))
        | inr m ↦ elim (cases_Bool (is_one_of ends b)) [
          | inl e ↦ rw (h, m, e) (omega arith)
          | inr e ↦ elim (cases_Bool (goes_on_by marks ends line)) [
            | inl g ↦ rw (h, m, e, g) (omega (arith, few_with b (length line) (tokens_by marks ends line) few))
            | inr g ↦ rw (h, m, e, g) (omega (arith, few))
          ]
        ]
      ]
    ]

pub few_tokens : (line : List ℕ) → length (item_tokens line) ≤ length line
unfolding item_tokens
few_tokens line = few_by (codes ",[]:()") (codes "#") line

pub ruleset token_steps = (no_token, one_token, fault_token, few_tokens)

-- ---- lines

pub another : (m n : ℕ) → (m ≡ n → ⊥) → nat_eq m n ≡ false
another m n other = elim (eqb_tells m n) [
  | inl same ↦ absurd (other same.1)
  | inr told ↦ told.0
]

pub no_line : (m n : ℕ) (items : Items) (lines : List (List ℕ)) → lines ≡ [] → read_among m n items lines ≡ Ok 0
unfolding read_among
no_line m n items lines e = rw e refl

pub this_line : (m n : ℕ) (items : Items) (lines : List (List ℕ)) (line : List ℕ) (others : List (List ℕ))
    → lines ≡ line ∷ others → nat_eq n m ≡ true → read_among m n items lines ≡ Ok (tokens_read n items (item_tokens line))
unfolding read_among
this_line m n items lines line others e this = rw (e, this) refl

pub one_line : (m n : ℕ) (items next : Items) (lines : List (List ℕ)) (line : List ℕ) (others : List (List ℕ))
    → lines ≡ line ∷ others → nat_eq n m ≡ false → line_after n items line ≡ Ok next → read_among m (n + 1) next others ≡ read_among m n items lines
unfolding read_among
one_line m n items next lines line others e before read = rw (e, before, read) refl

pub fault_line : (m n : ℕ) (items : Items) (lines : List (List ℕ)) (line : List ℕ) (others : List (List ℕ)) (fault : TextFault)
    → lines ≡ line ∷ others → nat_eq n m ≡ false → line_after n items line ≡ Err fault → read_among m n items lines ≡ Err fault
unfolding read_among
fault_line m n items lines line others fault e before read = rw (e, before, read) refl

pub ruleset line_steps = (no_line, this_line, one_line, fault_line)
