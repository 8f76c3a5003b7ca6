-- Outcomes are the same exactly when they are equal.
use Rattle.std.proofs.Common.{◌≡◌, ℕ, true, ◌&&◌, List, ◌++◌, ap, ap₂, subst, arith}
use Rattle.std.specs.Prelude.{nat_eq}
use Rattle.std.specs.Cmp.{IsEquivalence, IsPartialEquivalence, and_equiv, on_equiv, nat_eq_equiv, partial_equiv_from_equiv}
use Rattle.std.specs.Cmp.Lexicographic.{pointwise_decides, bytes_decides, lists_equiv}
use Rattle.std.specs.Hash as fed
use Rattle.std.proofs.lemmas.Bool.{and_parts}
use Rattle.std.proofs.lemmas.Bool.Decides.{nat_tests}
use Rattle.hunt.specs.declared.observed.WordPair.{WordPair}
use Rattle.hunt.specs.Outcomes.{Observed, is_same, is_same_pair}

pub same_equiv : IsEquivalence is_same
same_equiv =
    and_equiv (on_equiv (λ (o : Observed). o.registers) (lists_equiv (lists_equiv nat_eq_equiv)))
    (on_equiv (λ (o : Observed). o.words) (lists_equiv (and_equiv (on_equiv (λ (w : WordPair). w.coherent) nat_eq_equiv) (on_equiv (λ (w : WordPair). w.persisted) nat_eq_equiv))))

pub same_partial : IsPartialEquivalence is_same
same_partial = partial_equiv_from_equiv same_equiv

own_number : (n : ℕ) → nat_eq n n ≡ true
own_number n = nat_eq_equiv.refl n

same_number : (m n : ℕ) → nat_eq m n ≡ true → m ≡ n
same_number m n h = grind (arith, nat_tests, h)

own_pair : (a : WordPair) → is_same_pair a a ≡ true
own_pair a = ap₂ (λ b c. b && c) (own_number a.coherent) (own_number a.persisted)

same_pair : (a b : WordPair) → is_same_pair a b ≡ true → a ≡ b
same_pair a b h =
    let both = and_parts _ _ h in
    let coherent = same_number a.coherent b.coherent both.0 in let persisted = same_number a.persisted b.persisted both.1 in
    λ i. record { coherent = coherent i; persisted = persisted i }

pub own_outcome : (a : Observed) → is_same a a ≡ true
own_outcome a = same_equiv.refl a

pub same_outcome : (a b : Observed) → is_same a b ≡ true → a ≡ b
same_outcome a b h =
    let both = and_parts _ _ h in
    let registers = (pointwise_decides bytes_decides a.registers b.registers).0 both.0 in
    let words = (pointwise_decides (λ x y. (same_pair x y, λ e. subst (λ z. is_same_pair x z ≡ true) e (own_pair x))) a.words b.words).0 both.1 in
    λ i. record { registers = registers i; words = words i }

-- what an outcome gives to a hash
abbrev pub hash_input : Observed → List (List ℕ)
hash_input o = fed.slice (fed.slice fed.u64) o.registers ++ fed.slice (λ (w : WordPair). fed.u64 w.coherent ++ fed.u64 w.persisted) o.words

pub same_hash_input : (a b : Observed) → is_same a b ≡ true → hash_input a ≡ hash_input b
same_hash_input a b h = ap hash_input (same_outcome a b h)
