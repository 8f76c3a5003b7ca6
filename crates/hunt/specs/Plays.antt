-- What each step does to the view of the seat that makes it, and what it shows.
use Rattle.std.specs.Prelude.{◌≡◌, ℕ, ◌+◌, ◌-◌, ◌<◌, ◌≤◌, ◌⊎◌, [], ◌∷◌, ◌++◌}
use Rattle.atomic_table.specs.Table.{Me, Step}
use Rattle.hunt.specs.declared.rule.SeatView.{SeatView}
use Rattle.hunt.specs.Counts.{times, Has}
use Rattle.hunt.specs.Rule.{seat_view, no_report}

-- a seat at the table: its view, and the slots that it holds, which are none
abbrev pub Place : Type 0
Place = Me (Unit {0}) SeatView

-- the view of a seat that has made no call
abbrev pub fresh : ℕ → SeatView
fresh limit = seat_view limit 1 [] [] []

-- the view of a seat that was given back to another
abbrev pub spent : SeatView
spent = seat_view 0 0 [] [] []

-- the view with a part less
abbrev pub cut : SeatView → SeatView
cut v = seat_view v.limit (v.parts - 1) v.claimed v.bounds v.reported

-- two views put together
abbrev pub joined : SeatView → SeatView → SeatView
joined v w = seat_view v.limit (v.parts + w.parts) (v.claimed ++ w.claimed) (v.bounds ++ w.bounds) (v.reported ++ w.reported)

-- the view after a claim that found x
abbrev pub after_claim : SeatView → ℕ → SeatView
after_claim v x = seat_view v.limit v.parts (v.claimed ++ x ∷ []) v.bounds v.reported

-- the view after a look that found x
abbrev pub after_look : SeatView → ℕ → SeatView
after_look v x = seat_view v.limit v.parts v.claimed (v.bounds ++ x ∷ []) v.reported

-- the view after a report of x
abbrev pub after_report : SeatView → ℕ → SeatView
after_report v x = seat_view v.limit v.parts v.claimed v.bounds (v.reported ++ x ∷ [])

-- x is at most all that the seat saw and reported
abbrev pub IsLowFor : SeatView → ℕ → Type 0
IsLowFor v x = ((y : ℕ) → Has v.bounds y → x ≤ y) × ((y : ℕ) → Has v.reported y → x ≤ y)

-- What is true of a board when one view has all its parts: so many numbers were claimed, each once, and
-- this is the least that was reported.
pub record Settled (v : SeatView) (count least : ℕ) : Type 0 where
  pub handed : (x : ℕ) → x < count → times x v.claimed ≡ 1
  pub ahead : (x : ℕ) → count ≤ x → times x v.claimed ≡ 0
  pub least_is : (least ≡ no_report) ⊎ Has v.reported least
  pub low : IsLowFor v least
  pub own : (x : ℕ) → Has v.reported x → (x < v.limit) × Has v.claimed x
  pub bounds : (x : ℕ) → Has v.bounds x → (x ≡ no_report) ⊎ Has v.reported x

-- A claim that found x: x is above all that the seat had claimed.
abbrev pub Claims : Step (Unit {0}) → Place → ℕ → Place → Type 0
Claims st m x m' = (m' ≡ (after_claim m.0 x, m.1)) × ((y : ℕ) → Has m.0.claimed y → y < x)

-- A look that found x.
abbrev pub Looks : Step (Unit {0}) → Place → ℕ → Place → Type 0
Looks st m x m' = (m' ≡ (after_look m.0 x, m.1)) × IsLowFor m.0 x × ((x ≡ no_report) ⊎ (x < m.0.limit))

-- A report of the number that the step was given, where the least word was x.
abbrev pub Reports : Step (Unit {0}) → Place → ℕ → Place → Type 0
Reports st m x m' = m' ≡ (after_report m.0 st.first, m.1)

-- The last look, of a seat with all parts, which found x.
abbrev pub Settles : Step (Unit {0}) → Place → ℕ → Place → Type 0
Settles st m x m' = (m' ≡ m) × ((count : ℕ) × Settled m.0 count x)
