-- What was tested and read, where all of it passed.
use Rattle.std.proofs.Common.{◌≡◌, Bool, true, false, not, cond, Option, Some, None, Result, Ok, Err, List, [], ◌∷◌, bytes_eq, refl, ap}
use Rattle.std.proofs.lemmas.Slice.Eq.{bytes_eq-Decides}
use Rattle.outcomes.specs.Outcomes.{◌>>=◌, refuse, required, refused_as}
use Rattle.outcomes.proofs.PartsOfOutcomes.{bind_ok}
use Rattle.text_tokens.specs.Cursors.{Token, token_at, expected_at, end_at}

pub required_ok : {A E : Type 0} (fault : E) (o : Option A) (a : A) → required fault o ≡ Ok a → o ≡ Some a
required_ok fault None a e = absurd cc
required_ok fault (Some b) a e = cc

pub refuse_ok : {E : Type 0} (fault : E) (b : Bool) (u : Unit {0}) → refuse fault b ≡ Ok u → b ≡ false
refuse_ok fault true u e = absurd cc
refuse_ok fault false u e = refl

pub refused_as_ok : {A E F : Type 0} (f : E → F) (r : Result A E) (a : A) → refused_as f r ≡ Ok a → r ≡ Ok a
refused_as_ok f (Ok b) a e = cc
refused_as_ok f (Err fault) a e = absurd cc

pub not_false : (b : Bool) → not b ≡ false → b ≡ true
not_false true e = refl
not_false false e = absurd cc

-- a test that passed
pub passed : {A E : Type 0} (b : Bool) (r : Result A E) (fault : E) (a : A) → cond b r (Err fault) ≡ Ok a → (b ≡ true) × (r ≡ Ok a)
passed true r fault a e = (refl, e)
passed false r fault a e = absurd cc

-- a test that did not pass
pub not_passed : {A E : Type 0} (b : Bool) (r : Result A E) (fault : E) (a : A) → cond b (Err fault) r ≡ Ok a → (b ≡ false) × (r ≡ Ok a)
not_passed true r fault a e = absurd cc
not_passed false r fault a e = (refl, e)

abbrev given : {A E : Type 0} → A → Result A E → A
given a (Ok b) = b
given a (Err fault) = a

pub same_ok : {A E : Type 0} (a b : A) → ◌≡◌ {A = Result A E} (Ok a) (Ok b) → a ≡ b
same_ok a b e = ap (given a) e

-- a token is this one
pub named : (token name : Token) → bytes_eq token name ≡ true → token ≡ name
named token name h = (bytes_eq-Decides token name).0 h

pub expected_form : {E : Type 0} (fault : E) (wanted : Token) (ts : List Token) (p : Unit {0} × List Token) → expected_at fault wanted ts ≡ Ok p → ts ≡ wanted ∷ p.1
unfolding expected_at token_at
expected_form fault wanted [] p e = absurd cc
expected_form {E} fault wanted (token ∷ ts) p e =
    let b = bind_ok (refuse fault (not (bytes_eq token wanted))) (λ same. Ok (tt, ts)) p e in
    let is = named token wanted (not_false (bytes_eq token wanted) (refuse_ok fault (not (bytes_eq token wanted)) b.0 b.1)) in
    let others : ts ≡ p.1 = ap (λ (q : Unit {0} × List Token). q.1) (same_ok {E = E} (tt, ts) p b.2) in
    cc

pub end_form : {E : Type 0} (fault : E) (ts : List Token) (p : Unit {0} × List Token) → end_at fault ts ≡ Ok p → ts ≡ []
unfolding end_at
end_form fault [] p e = refl
end_form fault (token ∷ ts) p e = absurd cc

-- what was read behind a test that refused nothing
pub not_refused : {A E : Type 0} (fault : E) (b : Bool) (r : Result A E) (a : A) → (refuse fault b >>= λ passed. r) ≡ Ok a → (b ≡ false) × (r ≡ Ok a)
not_refused fault true r a e = absurd cc
not_refused fault false r a e = (refl, e)
