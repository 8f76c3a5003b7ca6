-- A number that is read is spelled so, and one that is spelled so is read.
use Rattle.std.proofs.Common.{◌≡◌, ℕ, ◌<◌, ◌≤◌, Bool, true, false, ltb, List, ◌++◌, length, take, drop, Result, Ok, refl, sym, ap, ◌∙◌, append_assoc, arith}
use Rattle.std.specs.Int.{Width, byte_len, from_le_bytes, to_le_bytes}
use Rattle.std.proofs.lemmas.Bool.{ltb-false, le-ltb}
use Rattle.std.proofs.lemmas.List.{take_at, drop_at, take-append-drop, length-append, length-take}
use Rattle.loader.specs.declared.fault.ObjectFault.{ObjectFault}
use Rattle.loader.specs.declared.fault.ObjectFault.TheVariants.{Short}
use Rattle.outcomes.specs.Outcomes.{◌>>=◌, refuse}
use Rattle.outcomes.proofs.PartsOfOutcomes.{bind_ok}
use Rattle.codec.proofs.Numbers.{IsBytes, IsBytes-drop, IsBytes-take, IsWide}
use Rattle.loader.specs.Reading.{front_at, number_at}

-- a test that did not fail
pub refuse_ok : {A E : Type 0} (fault : E) (b : Bool) (f : Unit {0} → Result A E) (y : A) → (refuse fault b >>= f) ≡ Ok y → (b ≡ false) × (f tt ≡ Ok y)
refuse_ok fault true f y e = absurd cc
refuse_ok fault false f y e = (refl, e)

abbrev done : {A : Type 0} → A → Result A ObjectFault
done x = Ok x

pub ok_is : {A : Type 0} (x y : A) → done x ≡ done y → x ≡ y
ok_is x y e = cc

-- what a reader took from the front
pub record Takes (bytes text rest : List ℕ) : Type 0 where
  pub parts : bytes ≡ text ++ rest
  pub rest_fits : IsBytes rest

pub Takes-then : (a x b y c : List ℕ) → Takes a x b → Takes b y c → Takes a (x ++ y) c
Takes-then a x b y c p q = record { parts = p.parts ∙ ap (λ (t : List ℕ). x ++ t) q.parts ∙ sym (append_assoc x y c); rest_fits = q.rest_fits }

pub front_again : (n : ℕ) (front rest : List ℕ) → length front ≡ n → front_at n (front ++ rest) ≡ Ok (front, rest)
front_again n front rest len =
    let long : ltb (length (front ++ rest)) n ≡ false = le-ltb _ _ (omega (arith, length-append front rest)) in
    rw (long, take_at front rest n len, drop_at front rest n len) refl

pub front_takes : (n : ℕ) (bytes : List ℕ) (x : List ℕ × List ℕ) → front_at n bytes ≡ Ok x → (n ≤ length bytes) × (x ≡ (take n bytes, drop n bytes))
front_takes n bytes x e =
    let g = refuse_ok Short (ltb (length bytes) n) (λ there. Ok (take n bytes, drop n bytes)) x e in
    (ltb-false _ _ g.0, sym (ok_is (take n bytes, drop n bytes) x g.1))

pub number_takes : (w : Width) (limit : ℕ) (wide : IsWide w limit) (bytes : List ℕ) (n : ℕ) (rest : List ℕ) → IsBytes bytes → number_at w bytes ≡ Ok (n, rest) → Takes bytes (to_le_bytes w n) rest × (n < limit)
number_takes w limit wide bytes n rest fits e =
    let b = bind_ok (front_at (byte_len w) bytes) (λ front. Ok (from_le_bytes w front.0, front.1)) (n, rest) e in
    let f = front_takes (byte_len w) bytes b.0 b.1 in
    let made = ok_is (from_le_bytes w b.0.0, b.0.1) (n, rest) b.2 in
    let front-is : b.0.0 ≡ take (byte_len w) bytes = ap (λ (p : List ℕ × List ℕ). p.0) f.1 in
    let after-is : b.0.1 ≡ drop (byte_len w) bytes = ap (λ (p : List ℕ × List ℕ). p.1) f.1 in
    let n-is : from_le_bytes w (take (byte_len w) bytes) ≡ n = ap (from_le_bytes w) (sym front-is) ∙ ap (λ (p : ℕ × List ℕ). p.0) made in
    let rest-is : drop (byte_len w) bytes ≡ rest = sym after-is ∙ ap (λ (p : ℕ × List ℕ). p.1) made in
    let front : to_le_bytes w n ≡ take (byte_len w) bytes = rw (← n-is) (wide.back (take (byte_len w) bytes) (omega (arith, length-take (byte_len w) bytes, f.0)) (IsBytes-take (byte_len w) bytes fits)) in
    (record { parts = rw (front, ← rest-is) (sym (take-append-drop (byte_len w) bytes)); rest_fits = rw (← rest-is) (IsBytes-drop (byte_len w) bytes fits) }, rw (← n-is) (wide.below (take (byte_len w) bytes) (IsBytes-take (byte_len w) bytes fits)))

pub number_again : (w : Width) (limit : ℕ) (wide : IsWide w limit) (n : ℕ) (rest : List ℕ) → n < limit → number_at w (to_le_bytes w n ++ rest) ≡ Ok (n, rest)
number_again w limit wide n rest lt =
    ap (λ (r : Result (List ℕ × List ℕ) ObjectFault). r >>= λ front. Ok (from_le_bytes w front.0, front.1)) (front_again (byte_len w) (to_le_bytes w n) rest (wide.len n))
    ∙ ap (λ (k : ℕ). Ok (k, rest)) (wide.again n lt)
