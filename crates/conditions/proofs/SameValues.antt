-- Where operands have the same values, so have terms, and conditions hold alike. These laws are for the crates above.
use Rattle.std.proofs.Common.{◌≡◌, ◌∙◌, ℕ, Bool, true, false, Option, Some, None, refl, sym, ap, ap₂, true≢false}
use Rattle.std.proofs.lemmas.Bool.{and_parts, eq-eqb, or_left, or_parts, or_right}
use Rattle.std.specs.Prelude.{not, ◌&&◌, ◌||◌}
use Rattle.std.specs.Option.{option_and_then}
use Rattle.lines_layout.specs.Lines.{line_of}
use Rattle.conditions.specs.declared.cond.Comparison.{Comparison}
use Rattle.conditions.specs.declared.cond.Operand.{Operand}
use Rattle.conditions.specs.declared.cond.Operand.TheVariants.{Persisted, Coherent, Register}
use Rattle.conditions.specs.Terms.{Term, Number, Read, PersistedAt, CoherentAt, Plus}
use Rattle.conditions.specs.Formulas.{Formula, Compared, Not, And, Or}
use Rattle.conditions.specs.Truth.{asks_line, asks_persisted, both_compared, holds_by, is_persisted, is_register, reads_persisted, reads_registers, sum_of, term_asks_line, term_asks_persisted, term_reads_persisted, term_reads_registers, term_value, value_at, word_with}

then_same : (f g : ℕ → Option ℕ) → ((n : ℕ) → f n ≡ g n) → (x : Option ℕ) → option_and_then f x ≡ option_and_then g x
then_same f g same None = refl
then_same f g same (Some n) = same n

-- what two words that have the same values give at the same address
at_same : (f g : ℕ → Option ℕ) (x y : Option ℕ) → ((n : ℕ) → f n ≡ g n) → x ≡ y → value_at f x ≡ value_at g y
at_same f g x y same e = ap (λ (z : Option ℕ). value_at f z) e ∙ then_same f g same (option_and_then word_with y)

module _ (v w : Operand → Option ℕ) where
  abbrev Same : Term → Type 0
  Same t = term_value v t ≡ term_value w t

  abbrev Alike : Formula → Type 0
  Alike f = holds_by v f ≡ holds_by w f

  at_persisted : (a : Term) → ((word : ℕ) → v (Persisted word) ≡ w (Persisted word)) → Same a → Same (PersistedAt a)
  at_persisted a same e = at_same (λ (word : ℕ). v (Persisted word)) (λ (word : ℕ). w (Persisted word)) (term_value v a) (term_value w a) same e

  at_coherent : (a : Term) → ((word : ℕ) → v (Coherent word) ≡ w (Coherent word)) → Same a → Same (CoherentAt a)
  at_coherent a same e = at_same (λ (word : ℕ). v (Coherent word)) (λ (word : ℕ). w (Coherent word)) (term_value v a) (term_value w a) same e

  sums : (a b : Term) → Same a → Same b → Same (Plus a b)
  sums a b one other = ap₂ (λ (x y : Option ℕ). sum_of x y) one other

  sides : (a b : Term) (c : Comparison) → Same a → Same b → Alike (Compared a c b)
  sides a b c one other = ap₂ (λ (x y : Option ℕ). both_compared c x y) one other

  negation : (f : Formula) → Alike f → Alike (Not f)
  negation f e = ap (λ (b : Bool). not b) e

  conjunction : (f g : Formula) → Alike f → Alike g → Alike (And f g)
  conjunction f g one other = ap₂ (λ (a b : Bool). a && b) one other

  disjunction : (f g : Formula) → Alike f → Alike g → Alike (Or f g)
  disjunction f g one other = ap₂ (λ (a b : Bool). a || b) one other

  -- ---- all operands

  pub same_truth : ((operand : Operand) → v operand ≡ w operand) → (f : Formula) → holds_by v f ≡ holds_by w f
  same_truth same f = λ i. holds_by (λ operand. same operand i) f

  -- ---- words alone

  module _ (same : (operand : Operand) → is_register operand ≡ false → v operand ≡ w operand) where
    by_words : (t : Term) → term_reads_registers t ≡ false → Same t
    by_words (Number n) none = refl
    by_words (Read operand) none = same operand none
    by_words (PersistedAt a) none = at_persisted a (λ word. same (Persisted word) refl) (by_words a none)
    by_words (CoherentAt a) none = at_coherent a (λ word. same (Coherent word) refl) (by_words a none)
    by_words (Plus a b) none = let both = or_parts (term_reads_registers a) (term_reads_registers b) none in sums a b (by_words a both.0) (by_words b both.1)

    pub words_decide : (f : Formula) → reads_registers f ≡ false → holds_by v f ≡ holds_by w f
    words_decide (Compared a c b) none = let both = or_parts (term_reads_registers a) (term_reads_registers b) none in sides a b c (by_words a both.0) (by_words b both.1)
    words_decide (Not f) none = negation f (words_decide f none)
    words_decide (And f g) none = let both = or_parts (reads_registers f) (reads_registers g) none in conjunction f g (words_decide f both.0) (words_decide g both.1)
    words_decide (Or f g) none = let both = or_parts (reads_registers f) (reads_registers g) none in disjunction f g (words_decide f both.0) (words_decide g both.1)

  -- ---- persisted values alone

  module _ (same : (operand : Operand) → is_persisted operand ≡ true → v operand ≡ w operand) where
    by_persisted : (t : Term) → term_reads_persisted t ≡ true → Same t
    by_persisted (Number n) all = refl
    by_persisted (Read operand) all = same operand all
    by_persisted (PersistedAt a) all = at_persisted a (λ word. same (Persisted word) refl) (by_persisted a all)
    by_persisted (CoherentAt a) all = absurd (true≢false (sym all))
    by_persisted (Plus a b) all = let both = and_parts (term_reads_persisted a) (term_reads_persisted b) all in sums a b (by_persisted a both.0) (by_persisted b both.1)

    pub persisted_decide : (f : Formula) → reads_persisted f ≡ true → holds_by v f ≡ holds_by w f
    persisted_decide (Compared a c b) all = let both = and_parts (term_reads_persisted a) (term_reads_persisted b) all in sides a b c (by_persisted a both.0) (by_persisted b both.1)
    persisted_decide (Not f) all = negation f (persisted_decide f all)
    persisted_decide (And f g) all = let both = and_parts (reads_persisted f) (reads_persisted g) all in conjunction f g (persisted_decide f both.0) (persisted_decide g both.1)
    persisted_decide (Or f g) all = let both = and_parts (reads_persisted f) (reads_persisted g) all in disjunction f g (persisted_decide f both.0) (persisted_decide g both.1)

  module _ (same : (operand : Operand) → is_persisted operand ≡ false → v operand ≡ w operand) where
    -- ---- all but persisted values

    by_others : (t : Term) → term_asks_persisted t ≡ false → Same t
    by_others (Number n) none = refl
    by_others (Read operand) none = same operand none
    by_others (PersistedAt a) none = absurd (true≢false none)
    by_others (CoherentAt a) none = at_coherent a (λ word. same (Coherent word) refl) (by_others a none)
    by_others (Plus a b) none = let both = or_parts (term_asks_persisted a) (term_asks_persisted b) none in sums a b (by_others a both.0) (by_others b both.1)

    pub others_decide : (f : Formula) → asks_persisted f ≡ false → holds_by v f ≡ holds_by w f
    others_decide (Compared a c b) none = let both = or_parts (term_asks_persisted a) (term_asks_persisted b) none in sides a b c (by_others a both.0) (by_others b both.1)
    others_decide (Not f) none = negation f (others_decide f none)
    others_decide (And f g) none = let both = or_parts (asks_persisted f) (asks_persisted g) none in conjunction f g (others_decide f both.0) (others_decide g both.1)
    others_decide (Or f g) none = let both = or_parts (asks_persisted f) (asks_persisted g) none in disjunction f g (others_decide f both.0) (others_decide g both.1)

    -- ---- beside these, the persisted values of the lines that are asked

    abbrev Agree : (ℕ → Bool) → Type 0
    Agree asks = (word : ℕ) → asks (line_of word) ≡ true → v (Persisted word) ≡ w (Persisted word)

    by_lines : (t : Term) → Agree (λ line. term_asks_line line t) → Same t
    by_lines (Number n) agree = refl
    by_lines (Read (Persisted word)) agree = agree word (eq-eqb (line_of word) (line_of word) refl)
    by_lines (Read (Coherent word)) agree = same (Coherent word) refl
    by_lines (Read (Register p r)) agree = same (Register p r) refl
    by_lines (PersistedAt a) agree = at_persisted a (λ word. agree word refl) (by_lines a (λ word asks. agree word refl))
    by_lines (CoherentAt a) agree = at_coherent a (λ word. same (Coherent word) refl) (by_lines a agree)
    by_lines (Plus a b) agree =
        sums a b (by_lines a (λ word asks. agree word (or_left (term_asks_line (line_of word) a) (term_asks_line (line_of word) b) asks)))
        (by_lines b (λ word asks. agree word (or_right (term_asks_line (line_of word) a) (term_asks_line (line_of word) b) asks)))

    pub lines_decide : (f : Formula) → Agree (λ line. asks_line line f) → holds_by v f ≡ holds_by w f
    lines_decide (Compared a c b) agree =
        sides a b c (by_lines a (λ word asks. agree word (or_left (term_asks_line (line_of word) a) (term_asks_line (line_of word) b) asks)))
        (by_lines b (λ word asks. agree word (or_right (term_asks_line (line_of word) a) (term_asks_line (line_of word) b) asks)))
    lines_decide (Not f) agree = negation f (lines_decide f agree)
    lines_decide (And f g) agree =
        conjunction f g (lines_decide f (λ word asks. agree word (or_left (asks_line (line_of word) f) (asks_line (line_of word) g) asks)))
        (lines_decide g (λ word asks. agree word (or_right (asks_line (line_of word) f) (asks_line (line_of word) g) asks)))
    lines_decide (Or f g) agree =
        disjunction f g (lines_decide f (λ word asks. agree word (or_left (asks_line (line_of word) f) (asks_line (line_of word) g) asks)))
        (lines_decide g (λ word asks. agree word (or_right (asks_line (line_of word) f) (asks_line (line_of word) g) asks)))
