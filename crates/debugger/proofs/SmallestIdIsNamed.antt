-- What the stop that is named says of the others.
use Rattle.std.proofs.Common.{◌≡◌, ℕ, suc, ◌≤◌, List, [], ◌∷◌, true, false, Option, Some, None, refl, arith, inl, inr}
use Rattle.std.specs.Prelude.{IfSome, IfNone}
use Rattle.std.specs.List.{All, Any}
use Rattle.std.proofs.lemmas.Bool.{cases_Bool}
use Rattle.std.proofs.lemmas.List.Elements.{All-cons}
use Rattle.machine.specs.State.{State}
use Rattle.images.specs.Truth.{holds_in}
use Rattle.debugger.specs.Stops.{Armed}
use Rattle.debugger.specs.Orders.{AreRising}
use Rattle.debugger.specs.Halts.{stop_at}
use Rattle.debugger.specs.Stopping.{NamesHolding, NamesSmallest}
use Rattle.debugger.proofs.StopsStayRising.{head_before, tail_rises}

any_later : {X : Type 0} (P : X → Type 0) (x : X) (xs : List X) → Any P xs → Any P (x ∷ xs)
any_later P x xs h = (suc h.0, h.1, omega (arith, h.2), h.3, h.4)

named_holds : (stops : List Armed) (s : State) (id : ℕ) → stop_at stops s ≡ Some id → Any (λ t. (t.id ≡ id) × (holds_in s t.cond ≡ true)) stops
named_holds [] s id e = absurd (cc)
named_holds (t ∷ ts) s id e =
    elim (cases_Bool (holds_in s t.cond)) [
      | inl on ↦
          let is : ◌≡◌ {A = Option ℕ} (Some t.id) (Some id) = rw on at e in
          let same : t.id ≡ id = cc in
          (0, t, omega arith, refl, (same, on))
      | inr off ↦ any_later (λ x. (x.id ≡ id) × (holds_in s x.cond ≡ true)) t ts (named_holds ts s id (rw off at e))
    ]

named_smallest : (stops : List Armed) (s : State) (id : ℕ) → AreRising stops → stop_at stops s ≡ Some id → All (λ t. holds_in s t.cond ≡ true → id ≤ t.id) stops
named_smallest [] s id up e = λ k d lt. absurd (omega arith)
named_smallest (t ∷ ts) s id up e =
    elim (cases_Bool (holds_in s t.cond)) [
      | inl on ↦
          let is : ◌≡◌ {A = Option ℕ} (Some t.id) (Some id) = rw on at e in
          let same : t.id ≡ id = cc in
          All-cons (λ x. holds_in s x.cond ≡ true → id ≤ x.id) t ts (λ h. omega (arith, same)) (λ k d lt h. omega (arith, same, head_before t ts up k d lt))
      | inr off ↦ All-cons (λ x. holds_in s x.cond ≡ true → id ≤ x.id) t ts (λ h. absurd (cc)) (named_smallest ts s id (tail_rises t ts up) (rw off at e))
    ]

none_holds : (stops : List Armed) (s : State) → stop_at stops s ≡ None → All (λ t. holds_in s t.cond ≡ false) stops
none_holds [] s e = λ k d lt. absurd (omega arith)
none_holds (t ∷ ts) s e =
    elim (cases_Bool (holds_in s t.cond)) [
      | inl on ↦ let wrong : ◌≡◌ {A = Option ℕ} (Some t.id) None = rw on at e in absurd (cc)
      | inr off ↦ All-cons (λ x. holds_in s x.cond ≡ false) t ts off (none_holds ts s (rw off at e))
    ]

pub if_some : {A : Type 0} (o : Option A) (P : A → Type 0) → ((a : A) → o ≡ Some a → P a) → IfSome o P
if_some None P h = tt
if_some (Some a) P h = h a refl

if_none : {A : Type 0} (o : Option A) (P : Type 0) → (o ≡ None → P) → IfNone o P
if_none None P h = h refl
if_none (Some a) P h = tt

pub names_holding : (stops : List Armed) (s : State) → NamesHolding stops s
names_holding stops s = (if_some (stop_at stops s) _ (named_holds stops s), if_none (stop_at stops s) _ (none_holds stops s))

pub names_smallest : (stops : List Armed) (s : State) → AreRising stops → NamesSmallest stops s
names_smallest stops s up = if_some (stop_at stops s) _ (λ id. named_smallest stops s id up)
