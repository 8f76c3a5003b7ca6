-- What is made of the conjuncts of two formulas.
use Rattle.std.proofs.Common.{◌≡◌, ◌∙◌, ◌⊎◌, inl, inr, ℕ, ◌+◌, ◌≤◌, Bool, true, false, Option, List, [], ◌∷◌, ◌++◌, length, length-append, map, drop, drop-cons, get_or, append_assoc, add-one, ◌<◌, refl, sym, ap, ap₂, subst, arith, true≢false}
use Rattle.std.proofs.Math.Nat.{suc-mul}
use Rattle.std.proofs.lemmas.Bool.{or_left, or_right}
use Rattle.std.proofs.lemmas.List.{length-map}
use Rattle.std.proofs.lemmas.List.Folds.{list_all-append, list_any-append}
use Rattle.std.specs.Prelude.{not, ◌&&◌, ◌||◌, ◌*◌}
use Rattle.std.specs.List.{list_all, list_any}
use Rattle.conditions.specs.declared.cond.Operand.{Operand}
use Rattle.conditions.specs.Terms.{Term}
use Rattle.conditions.specs.Formulas.{Formula, Not, And, Or}
use Rattle.conditions.specs.Truth.{holds_by}
use Rattle.conditions.specs.Conjuncts.{AreConjuncts, claimed, combined, crossed, tests}

-- ---- a formula and its copies

and_true : (a : Bool) → (a && true) ≡ a
and_true true = refl
and_true false = refl

either : (a b : Bool) → (a || b) ≡ true → (a ≡ true) ⊎ (b ≡ true)
either true b e = inl refl
either false b e = inr e

only : (a : Bool) → (a || false) ≡ true → a ≡ true
only true e = refl
only false e = e

pub alone_are : (f : Formula) → AreConjuncts (f ∷ []) f
alone_are f = record {
  same = λ value. and_true (holds_by value f);
  within = λ among any. only (tests among f) any;
}

-- the conjuncts of a formula are those of another that says the same
said_so : (parts : List Formula) (f g : Formula) → ((value : Operand → Option ℕ) → holds_by value f ≡ holds_by value g) → ((among : Term → Bool) → tests among f ≡ tests among g)
    → AreConjuncts parts f → AreConjuncts parts g
said_so parts f g says asks are = record {
  same = λ value. are.same value ∙ says value;
  within = λ among any. sym (asks among) ∙ are.within among any;
}

-- ---- and

joined_are : (f g : Formula) (fs gs : List Formula) → AreConjuncts fs f → AreConjuncts gs g → AreConjuncts (fs ++ gs) (And f g)
joined_are f g fs gs one other = record {
  same = λ value. list_all-append (holds_by value) fs gs ∙ ap₂ (λ (a b : Bool). a && b) (one.same value) (other.same value);
  within = λ among any. elim (either (list_any (tests among) fs) (list_any (tests among) gs) (sym (list_any-append (tests among) fs gs) ∙ any)) [
    | inl first ↦ or_left (tests among f) (tests among g) (one.within among first)
    | inr later ↦ or_right (tests among f) (tests among g) (other.within among later)
  ];
}

-- ---- or

module _ (value : Operand → Option ℕ) where
  each_holds : (f : Formula) (gs : List Formula) → list_all (holds_by value) (map (Or f) gs) ≡ (holds_by value f || list_all (holds_by value) gs)
  each_holds f [] = sym (or_right (holds_by value f) true refl)
  each_holds f (g ∷ gs) = ap (λ (a : Bool). (holds_by value f || holds_by value g) && a) (each_holds f gs) ∙ spread (holds_by value f) (holds_by value g) (list_all (holds_by value) gs)
    where
      spread : (a b c : Bool) → ((a || b) && (a || c)) ≡ (a || (b && c))
      spread true b c = refl
      spread false b c = refl

  crossed_hold : (fs gs : List Formula) → list_all (holds_by value) (crossed fs gs) ≡ (list_all (holds_by value) fs || list_all (holds_by value) gs)
  crossed_hold [] gs = refl
  crossed_hold (f ∷ fs) gs =
      list_all-append (holds_by value) (map (Or f) gs) (crossed fs gs)
      ∙ ap₂ (λ (a b : Bool). a && b) (each_holds f gs) (crossed_hold fs gs)
      ∙ gather (holds_by value f) (list_all (holds_by value) fs) (list_all (holds_by value) gs)
    where
      gather : (a b c : Bool) → ((a || c) && (b || c)) ≡ ((a && b) || c)
      gather true true c = refl
      gather true false c = refl
      gather false true true = refl
      gather false true false = refl
      gather false false true = refl
      gather false false false = refl

module _ (among : Term → Bool) where
  each_tests : (f : Formula) (gs : List Formula) → list_any (tests among) (map (Or f) gs) ≡ true → (tests among f || list_any (tests among) gs) ≡ true
  each_tests f [] any = absurd (true≢false (sym any))
  each_tests f (g ∷ gs) any = found (tests among f) (tests among g) (list_any (tests among) gs) (list_any (tests among) (map (Or f) gs)) any (each_tests f gs)
    where
      found : (a b c d : Bool) → ((a || b) || d) ≡ true → (d ≡ true → (a || c) ≡ true) → (a || (b || c)) ≡ true
      found true b c d e rest = refl
      found false true c d e rest = refl
      found false false c d e rest = rest e

  crossed_test : (fs gs : List Formula) → list_any (tests among) (crossed fs gs) ≡ true → (list_any (tests among) fs || list_any (tests among) gs) ≡ true
  crossed_test [] gs any = absurd (true≢false (sym any))
  crossed_test (f ∷ fs) gs any =
      elim (either (list_any (tests among) (map (Or f) gs)) (list_any (tests among) (crossed fs gs)) (sym (list_any-append (tests among) (map (Or f) gs) (crossed fs gs)) ∙ any)) [
        | inl first ↦ one (tests among f) (list_any (tests among) fs) (list_any (tests among) gs) (each_tests f gs first)
        | inr later ↦ rest (tests among f) (list_any (tests among) fs) (list_any (tests among) gs) (crossed_test fs gs later)
      ]
    where
      one : (a b c : Bool) → (a || c) ≡ true → ((a || b) || c) ≡ true
      one true b c e = refl
      one false true c e = refl
      one false false c e = e

      rest : (a b c : Bool) → (b || c) ≡ true → ((a || b) || c) ≡ true
      rest true b c e = refl
      rest false b c e = e

crossed_are : (f g : Formula) (fs gs : List Formula) → AreConjuncts fs f → AreConjuncts gs g → AreConjuncts (crossed fs gs) (Or f g)
crossed_are f g fs gs one other = record {
  same = λ value. crossed_hold value fs gs ∙ ap₂ (λ (a b : Bool). a || b) (one.same value) (other.same value);
  within = λ among any. elim (either (list_any (tests among) fs) (list_any (tests among) gs) (crossed_test among fs gs any)) [
    | inl first ↦ or_left (tests among f) (tests among g) (one.within among first)
    | inr later ↦ or_right (tests among f) (tests among g) (other.within among later)
  ];
}

-- ---- what is claimed of a formula

no_or : (a b : Bool) → (not a && not b) ≡ not (a || b)
no_or true b = refl
no_or false b = refl

no_and : (a b : Bool) → (not a || not b) ≡ not (a && b)
no_and true b = refl
no_and false b = refl

twice : (a : Bool) → a ≡ not (not a)
twice true = refl
twice false = refl

pub and_claimed : (wanted : Bool) (f g : Formula) (fs gs : List Formula) → AreConjuncts fs (claimed wanted f) → AreConjuncts gs (claimed wanted g)
    → AreConjuncts (combined wanted fs gs) (claimed wanted (And f g))
and_claimed true f g fs gs one other = joined_are f g fs gs one other
and_claimed false f g fs gs one other =
    said_so (crossed fs gs) (Or (Not f) (Not g)) (Not (And f g)) (λ value. no_and (holds_by value f) (holds_by value g)) (λ among. refl) (crossed_are (Not f) (Not g) fs gs one other)

pub or_claimed : (wanted : Bool) (f g : Formula) (fs gs : List Formula) → AreConjuncts fs (claimed wanted f) → AreConjuncts gs (claimed wanted g)
    → AreConjuncts (combined (not wanted) fs gs) (claimed wanted (Or f g))
or_claimed true f g fs gs one other = crossed_are f g fs gs one other
or_claimed false f g fs gs one other =
    said_so (fs ++ gs) (And (Not f) (Not g)) (Not (Or f g)) (λ value. no_or (holds_by value f) (holds_by value g)) (λ among. refl) (joined_are (Not f) (Not g) fs gs one other)

pub not_claimed : (wanted : Bool) (f : Formula) (fs : List Formula) → AreConjuncts fs (claimed (not wanted) f) → AreConjuncts fs (claimed wanted (Not f))
not_claimed true f fs are = are
not_claimed false f fs are = said_so fs f (Not (Not f)) (λ value. twice (holds_by value f)) (λ among. refl) are

-- ---- how many there are

crossed_count : (fs gs : List Formula) → length (crossed fs gs) ≡ length fs * length gs
crossed_count [] gs = omega arith
crossed_count (f ∷ fs) gs =
    let each = length-map gs (Or f) in
    let rest = crossed_count fs gs in
    let all = length-append (map (Or f) gs) (crossed fs gs) in
    let more = suc-mul (length fs) (length gs) in
    omega (arith, each, rest, all, more)

pub crossed_few : (fs gs made : List Formula) (m n most : ℕ) → made ≡ crossed fs gs → m ≡ length fs → n ≡ length gs → m * n ≤ most → length made ≤ most
crossed_few fs gs made m n most is one other few = subst (λ (count : ℕ). count ≤ most) (sym (ap length is ∙ crossed_count fs gs ∙ ap₂ (λ (a b : ℕ). a * b) (sym one) (sym other))) few

-- ---- a step of the loop

pub crossed_step : (ones others before after : List Formula) (f : Formula) (i : ℕ) → i < length ones → f ≡ get_or ones i f → after ≡ before ++ map (Or f) others
    → before ++ crossed (drop i ones) others ≡ crossed ones others → after ++ crossed (drop (i + 1) ones) others ≡ crossed ones others
crossed_step ones others before after f i less is made so_far =
    let rest = crossed (drop (i + 1) ones) others in
    let head : drop i ones ≡ f ∷ drop (i + 1) ones = drop-cons ones i f less ∙ ap₂ (λ (x : Formula) (xs : List Formula). x ∷ xs) (sym is) (ap (λ (n : ℕ). drop n ones) (sym (add-one i))) in
    ap (λ (xs : List Formula). xs ++ rest) made ∙ append_assoc before (map (Or f) others) rest ∙ ap (λ (xs : List Formula). before ++ crossed xs others) (sym head) ∙ so_far
