-- The rule of a board: what holds between any two of its steps, whichever seats make them.
use Rattle.std.specs.Prelude.{◌≡◌, ℕ, ◌+◌, ◌<◌, ◌≤◌, ◌⊎◌, List, [], ◌∷◌}
use mathlib.Core.Option.{some}
use lib.ListN.{get_elem?}
use Rattle.atomic_table.specs.Table.{State}
use Rattle.hunt.specs.declared.rule.SeatView.{SeatView}
use Rattle.hunt.specs.Counts.{times, Has, beyond, IsRising}

-- the view of a seat: the board's limit, its parts of the board, and what it claimed, saw and reported
abbrev pub seat_view : ℕ → ℕ → List ℕ → List ℕ → List ℕ → SeatView
seat_view limit parts claimed bounds reported = record { limit = limit; parts = parts; claimed = claimed; bounds = bounds; reported = reported }

-- the least word while nothing was reported: the greatest u64
abbrev pub no_report : ℕ
no_report = 18446744073709551615

-- a number of each view, added up
abbrev pub total : (SeatView → ℕ) → List SeatView → ℕ
total f [] = 0
total f (v ∷ vs) = f v + total f vs

-- how often x was claimed, by all seats together
abbrev pub claims_of : ℕ → List SeatView → ℕ
claims_of x views = total (λ v. times x v.claimed) views

-- how often x was reported, by all seats together
abbrev pub reports_of : ℕ → List SeatView → ℕ
reports_of x views = total (λ v. times x v.reported) views

-- What holds of each view, on a board of n numbers with this least word and these views. A seat has one
-- part of the board; a view without parts is of a seat that was given back to another, which has its parts then.
pub record IsView (n least : ℕ) (views : List SeatView) (v : SeatView) : Type 0 where
  pub limit : 0 < v.parts → v.limit ≡ n
  pub spent : v.parts ≡ 0 → (v.claimed ≡ []) × (v.bounds ≡ []) × (v.reported ≡ [])
  -- the numbers that a seat claimed rise
  pub rising : v.parts ≤ 1 → IsRising v.claimed
  -- at most one of them, so the last, is not below n
  pub ends : beyond n v.claimed ≤ v.parts
  -- a seat reports only numbers below n that it claimed
  pub own : (x : ℕ) → Has v.reported x → (x < n) × Has v.claimed x
  -- the least word is at most what a seat saw and reported
  pub under_bounds : (x : ℕ) → Has v.bounds x → least ≤ x
  pub under_reports : (x : ℕ) → Has v.reported x → least ≤ x
  -- what it saw was reported by some seat, unless nothing was yet
  pub bounds : (x : ℕ) → Has v.bounds x → (x ≡ no_report) ⊎ (0 < reports_of x views)

-- The rule of a board of n numbers and so many seats. Its words are how many numbers were claimed, and the
-- least that was reported.
pub record IsBoard (n seats : ℕ) (s : State (Unit {0}) SeatView) : Type 0 where
  pub count : ℕ
  pub least : ℕ
  pub words : s.words ≡ count ∷ least ∷ []
  -- no part of the board is lost
  pub parts : total (λ v. v.parts) s.views ≡ seats
  -- each number below the first word was claimed once, and no other was
  pub handed : (x : ℕ) → x < count → claims_of x s.views ≡ 1
  pub ahead : (x : ℕ) → count ≤ x → claims_of x s.views ≡ 0
  -- the first word passes n only by claims that ended a seat, so it does not wrap
  pub room : count ≤ n + total (λ v. beyond n v.claimed) s.views
  -- the second word was reported, unless nothing was yet
  pub least_is : (least ≡ no_report) ⊎ (0 < reports_of least s.views)
  pub each : (id : ℕ) (v : SeatView) → get_elem? s.views id ≡ some v → IsView n least s.views v
