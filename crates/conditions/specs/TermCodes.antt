-- How the logic stores a term. Nothing here says anything about terms.
use Rattle.std.proofs.Common.{◌≡◌, ◌≢◌, ℕ, ap, arith}
use Rattle.std.specs.Coded.{Coded, coded_ℕ}
use base.Stored.{Gv, gnil, gnum, gcons}
use Rattle.conditions.specs.contracts.cond.Operand as operand
use Rattle.conditions.specs.Terms.{Term, Number, Read, PersistedAt, CoherentAt, Plus}

abbrev pub head : Gv → Gv
head gnil = gnil
head (gnum n) = gnil
head (gcons a b) = a

abbrev pub tail : Gv → Gv
tail gnil = gnil
tail (gnum n) = gnil
tail (gcons a b) = b

pub apart : (m n : ℕ) {a b : Gv} → gcons (gnum m) a ≡ gcons (gnum n) b → m ≢ n → ⊥
apart m n p other = other (cc)

abbrev pub term_code : Term → Gv
term_code (Number n) = gcons (gnum 0) (coded_ℕ.code n)
term_code (Read o) = gcons (gnum 1) (operand.the_row.coded.code o)
term_code (PersistedAt a) = gcons (gnum 2) (term_code a)
term_code (CoherentAt a) = gcons (gnum 3) (term_code a)
term_code (Plus a b) = gcons (gnum 4) (gcons (term_code a) (term_code b))

pub term_inj : (x y : Term) → term_code x ≡ term_code y → x ≡ y
term_inj (Number a) (Number b) p = λ i. Number (coded_ℕ.inj a b (ap (λ g. tail g) p) i)
term_inj (Number a) (Read b) p = absurd (apart 0 1 p (omega arith))
term_inj (Number a) (PersistedAt b) p = absurd (apart 0 2 p (omega arith))
term_inj (Number a) (CoherentAt b) p = absurd (apart 0 3 p (omega arith))
term_inj (Number a) (Plus b b') p = absurd (apart 0 4 p (omega arith))
term_inj (Read a) (Number b) p = absurd (apart 1 0 p (omega arith))
term_inj (Read a) (Read b) p = λ i. Read (operand.the_row.coded.inj a b (ap (λ g. tail g) p) i)
term_inj (Read a) (PersistedAt b) p = absurd (apart 1 2 p (omega arith))
term_inj (Read a) (CoherentAt b) p = absurd (apart 1 3 p (omega arith))
term_inj (Read a) (Plus b b') p = absurd (apart 1 4 p (omega arith))
term_inj (PersistedAt a) (Number b) p = absurd (apart 2 0 p (omega arith))
term_inj (PersistedAt a) (Read b) p = absurd (apart 2 1 p (omega arith))
term_inj (PersistedAt a) (PersistedAt b) p = λ i. PersistedAt (term_inj a b (ap (λ g. tail g) p) i)
term_inj (PersistedAt a) (CoherentAt b) p = absurd (apart 2 3 p (omega arith))
term_inj (PersistedAt a) (Plus b b') p = absurd (apart 2 4 p (omega arith))
term_inj (CoherentAt a) (Number b) p = absurd (apart 3 0 p (omega arith))
term_inj (CoherentAt a) (Read b) p = absurd (apart 3 1 p (omega arith))
term_inj (CoherentAt a) (PersistedAt b) p = absurd (apart 3 2 p (omega arith))
term_inj (CoherentAt a) (CoherentAt b) p = λ i. CoherentAt (term_inj a b (ap (λ g. tail g) p) i)
term_inj (CoherentAt a) (Plus b b') p = absurd (apart 3 4 p (omega arith))
term_inj (Plus a a') (Number b) p = absurd (apart 4 0 p (omega arith))
term_inj (Plus a a') (Read b) p = absurd (apart 4 1 p (omega arith))
term_inj (Plus a a') (PersistedAt b) p = absurd (apart 4 2 p (omega arith))
term_inj (Plus a a') (CoherentAt b) p = absurd (apart 4 3 p (omega arith))
term_inj (Plus a a') (Plus b b') p = λ i. Plus (term_inj a b (ap (λ g. head (tail g)) p) i) (term_inj a' b' (ap (λ g. tail (tail g)) p) i)

abbrev pub coded_term : Coded Term
coded_term = record { code = term_code; inj = term_inj }
