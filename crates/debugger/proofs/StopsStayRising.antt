-- Stops stay in rising order.
use Rattle.std.proofs.Common.{◌≡◌, ◌≢◌, ℕ, suc, ◌<◌, ◌≤◌, List, [], ◌∷◌, length, map, Bool, true, false, Option, Some, None, ap, sym, arith, subst, inl, inr}
use Rattle.std.specs.Prelude.{nat_lt, ◌==◌, if◌then◌else◌}
use Rattle.std.specs.List.{All, find, insert, remove, position_or_len}
use Rattle.std.proofs.lemmas.Bool.{cases_Bool, ltb-true, ltb-false, eqb-false}
use Rattle.std.proofs.lemmas.List.Elements.{All-cons, All-tail}
use Rattle.std.proofs.lemmas.List.Kept.{AllPairs-cons}
use Rattle.std.proofs.lemmas.List.Quantifiers.{all_pairs_remove}
use Rattle.debugger.specs.Stops.{Armed}
use Rattle.debugger.specs.Orders.{AreRising}
use Rattle.debugger.specs.Sessions.{put}
use Rattle.debugger.proofs.PlacesInMappedLists.{put_in}

-- a stop of no larger id stays in front
put_behind : (t x : Armed) (xs : List Armed) → nat_lt t.id x.id ≡ false → put t (x ∷ xs) ≡ x ∷ put t xs
put_behind t x xs off =
    let more : position_or_len (λ y. nat_lt t.id y.id) (x ∷ xs) ≡ suc (position_or_len (λ y. nat_lt t.id y.id) xs) = rw off (omega arith) in
    ap (λ n. insert (x ∷ xs) n t) more

all_put : (P : Armed → Type 0) (t : Armed) (xs : List Armed) → P t → All P xs → All P (put t xs)
all_put P t [] one all = All-cons P t [] one all
all_put P t (x ∷ xs) one all =
    elim (cases_Bool (nat_lt t.id x.id)) [
      | inl lt ↦ rw lt (All-cons P t (x ∷ xs) one all)
      | inr off ↦ subst (λ (ys : List Armed). All P ys) (sym (put_behind t x xs off)) (All-cons P x (put t xs) (all 0 x (omega arith)) (all_put P t xs one (All-tail P x xs all)))
    ]

-- the first is before the others
pub head_before : (x : Armed) (xs : List Armed) → AreRising (x ∷ xs) → All (λ y. x.id < y.id) xs
head_before x xs up k d lt = up 0 (suc k) d (omega arith) (omega arith)

pub tail_rises : (x : Armed) (xs : List Armed) → AreRising (x ∷ xs) → AreRising xs
tail_rises x xs up i j d lt within = up (suc i) (suc j) d (omega arith) (omega arith)

pub rising_put : (t : Armed) (xs : List Armed) → AreRising xs → find (λ x. x.id == t.id) xs ≡ None → AreRising (put t xs)
rising_put t [] up free = AllPairs-cons (λ x y. x.id < y.id) t [] (λ k d lt. absurd (omega arith)) up
rising_put t (x ∷ xs) up free =
    elim (cases_Bool (nat_lt t.id x.id)) [
      | inl lt ↦ rw lt (AllPairs-cons (λ x y. x.id < y.id) t (x ∷ xs) (All-cons (λ y. t.id < y.id) x xs (ltb-true t.id x.id lt) (λ k d below. omega (arith, ltb-true t.id x.id lt, head_before x xs up k d below))) up)
      | inr off ↦ elim (cases_Bool (x.id == t.id)) [
        | inl same ↦ let wrong : ◌≡◌ {A = Option Armed} (Some x) None = rw same at free in absurd (cc)
        | inr other ↦
            let rest : find (λ y. y.id == t.id) xs ≡ None = rw other at free in
            subst (λ (ys : List Armed). AreRising ys) (sym (put_behind t x xs off)) (AllPairs-cons (λ x y. x.id < y.id) x (put t xs) (all_put (λ y. x.id < y.id) t xs (let ge : x.id ≤ t.id = ltb-false t.id x.id off in let ne : x.id ≢ t.id = eqb-false x.id t.id other in omega (arith, ge, ne)) (head_before x xs up)) (rising_put t xs (tail_rises x xs up) rest))
      ]
    ]

pub rising_by : {xs ys : List Armed} → ys ≡ xs → AreRising xs → AreRising ys
rising_by e up = subst (λ (zs : List Armed). AreRising zs) (sym e) up

pub rising_removed : (xs : List Armed) (i : ℕ) → i < length xs → AreRising xs → AreRising (remove xs i)
rising_removed xs i lt up = all_pairs_remove (λ x y. x.id < y.id) xs i lt up

-- the stops after one more was put among them, or not
pub rising_if_put : {X : Type 0} (xs : List X) (f : X → Armed) (x : X) (i : ℕ) (ys new : List X) (done : Bool) → AreRising (map f xs) → find (λ t. t.id == (f x).id) (map f xs) ≡ None
    → i ≡ position_or_len (λ y. nat_lt (f x).id (f y).id) ys → ys ≡ xs → new ≡ (if done then insert xs i x else xs) → AreRising (map f new)
rising_if_put xs f x i ys new true up free e is at = rising_by (put_in xs f (λ t. nat_lt (f x).id t.id) x i ys new e is at) (rising_put (f x) (map f xs) up free)
rising_if_put {X} xs f x i ys new false up free e is at = rising_by (ap (λ (zs : List X). map f zs) at) up
