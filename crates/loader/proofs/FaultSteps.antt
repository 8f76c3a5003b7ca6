-- The fault of fields one after another is that of the first that has one.
use Rattle.std.proofs.Common.{◌≡◌, ℕ, ◌<◌, Bool, true, false, ltb, List, [], ◌∷◌, length, take, drop, Option, Some, None, Result, Ok, Err, refl, inl, inr, ◌⊎◌}
use Rattle.std.specs.Int.{Width, byte_len, from_le_bytes}
use Rattle.std.proofs.lemmas.Bool.{ltb-true}
use Rattle.outcomes.specs.Outcomes.{◌>>=◌, refuse, refused_as, required}
use Rattle.loader.specs.declared.fault.ObjectFault.{ObjectFault}
use Rattle.loader.specs.declared.fault.ObjectFault.TheVariants.{Short}
use Rattle.loader.specs.Reading.{byte_at, front_at, number_at}

-- in the first part, or behind what it gave
pub bind_err : {A B E : Type 0} (r : Result A E) (f : A → Result B E) (e : E) → (r >>= f) ≡ Err e → (r ≡ Err e) ⊎ ((a : A) × (r ≡ Ok a) × (f a ≡ Err e))
bind_err (Ok a) f e h = inr (a, refl, h)
bind_err (Err x) f e h = inl cc

pub refuse_err : {A E : Type 0} (fault : E) (b : Bool) (f : Unit {0} → Result A E) (e : E) → (refuse fault b >>= f) ≡ Err e → ((b ≡ true) × (e ≡ fault)) ⊎ ((b ≡ false) × (f tt ≡ Err e))
refuse_err fault true f e h = inl (refl, cc)
refuse_err fault false f e h = inr (refl, h)

pub required_err : {A E : Type 0} (fault : E) (o : Option A) (e : E) → required fault o ≡ Err e → (o ≡ None) × (e ≡ fault)
required_err fault (Some a) e h = absurd cc
required_err fault None e h = (refl, cc)

pub refused_err : {A E F : Type 0} (f : E → F) (r : Result A E) (e : F) → refused_as f r ≡ Err e → (x : E) × (r ≡ Err x) × (e ≡ f x)
refused_err f (Ok a) e h = absurd cc
refused_err f (Err x) e h = (x, refl, cc)

-- what answers has no fault
pub ok_no_err : {A E : Type 0} (a : A) (e : E) {P : Type 0} → ◌≡◌ {A = Result A E} (Ok a) (Err e) → P
ok_no_err a e h = absurd cc

pub byte_err : (bytes : List ℕ) (e : ObjectFault) → byte_at bytes ≡ Err e → (bytes ≡ []) × (e ≡ Short)
byte_err [] e h = (refl, cc)
byte_err (b ∷ bytes) e h = absurd cc

pub front_err : (n : ℕ) (bytes : List ℕ) (e : ObjectFault) → front_at n bytes ≡ Err e → (length bytes < n) × (e ≡ Short)
front_err n bytes e h =
    elim (refuse_err Short (ltb (length bytes) n) (λ there. Ok (take n bytes, drop n bytes)) e h) [
      | inl short ↦ (ltb-true _ _ short.0, short.1)
      | inr there ↦ ok_no_err _ _ there.1
    ]

pub number_err : (w : Width) (bytes : List ℕ) (e : ObjectFault) → number_at w bytes ≡ Err e → (length bytes < byte_len w) × (e ≡ Short)
number_err w bytes e h =
    elim (bind_err (front_at (byte_len w) bytes) (λ front. Ok (from_le_bytes w front.0, front.1)) e h) [
      | inl short ↦ front_err (byte_len w) bytes e short
      | inr there ↦ ok_no_err _ _ there.2
    ]
