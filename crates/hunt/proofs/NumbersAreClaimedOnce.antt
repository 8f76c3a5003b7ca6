-- A number is claimed once.
use Rattle.std.proofs.Common.{◌≡◌, ◌≢◌, ℕ, zero, suc, ◌+◌, ◌≤◌, List, [], ◌∷◌, sym, refl, ap, arith}
use mathlib.Core.Option.{some, some-injective, some-ne-none}
use native.Mathlib.Decide.{dec_le}
use lib.ListN.{get_elem?}
use Rattle.atomic_table.specs.Table.{State}
use Rattle.hunt.specs.declared.rule.SeatView.{SeatView}
use Rattle.hunt.specs.Counts.{times, Has}
use Rattle.hunt.specs.Rule.{total, claims_of, IsBoard}
use Rattle.hunt.proofs.SumsOverSeats.{part_of_total}

-- two views' parts of the total
two_of_total : (f : SeatView → ℕ) (views : List SeatView) (i j : ℕ) (v w : SeatView) → i ≢ j → get_elem? views i ≡ some v → get_elem? views j ≡ some w → f v + f w ≤ total f views
two_of_total f [] i j v w ne at there = absurd (some-ne-none v (sym at))
two_of_total f (x ∷ xs) zero zero v w ne at there = absurd (ne refl)
two_of_total f (x ∷ xs) zero (suc j) v w ne at there =
    let a : f x ≡ f v = ap f (some-injective x v at) in let b = part_of_total f xs j w there in omega arith
two_of_total f (x ∷ xs) (suc i) zero v w ne at there =
    let a : f x ≡ f w = ap f (some-injective x w there) in let b = part_of_total f xs i v at in omega arith
two_of_total f (x ∷ xs) (suc i) (suc j) v w ne at there =
    let a = two_of_total f xs i j v w (λ e. ne (ap suc e)) at there in omega arith

claims_once : (n seats : ℕ) (s : State (Unit {0}) SeatView) → IsBoard n seats s → (x : ℕ) → claims_of x s.views ≤ 1
claims_once n seats s r x = elim (dec_le r.count x) [ yes le ↦ (let a = r.ahead x le in omega arith) | no lt ↦ (let a = r.handed x (omega arith) in omega arith) ]

pub claimed_once : (n seats : ℕ) (s : State (Unit {0}) SeatView) → IsBoard n seats s → (seat : ℕ) (v : SeatView) → get_elem? s.views seat ≡ some v → (x : ℕ) → times x v.claimed ≤ 1
claimed_once n seats s r seat v at x = let a = claims_once n seats s r x in let b = part_of_total (λ u. times x u.claimed) s.views seat v at in omega arith

pub claimed_alone : (n seats : ℕ) (s : State (Unit {0}) SeatView) → IsBoard n seats s
    → (seat other : ℕ) (v w : SeatView) → seat ≢ other → get_elem? s.views seat ≡ some v → get_elem? s.views other ≡ some w
    → (x : ℕ) → Has v.claimed x → Has w.claimed x → ⊥
claimed_alone n seats s r seat other v w ne at there x mine its =
    let a = claims_once n seats s r x in let b = two_of_total (λ u. times x u.claimed) s.views seat other v w ne at there in omega arith
