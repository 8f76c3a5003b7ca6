-- What a worker has done, as its seat's view shows it.
use Rattle.std.specs.Prelude.{◌≡◌, ℕ, ◌+◌, ◌<◌, ◌⊎◌, Bool, true, false, Option, Some, List, [], ◌∷◌, max}
use Rattle.hunt.specs.declared.rule.SeatView.{SeatView}
use Rattle.hunt.specs.Counts.{Has}
use Rattle.hunt.specs.Plays.{after_report}
use Rattle.hunt.specs.Seats.{IsOver}
use Rattle.hunt.specs.Founds.{lesser}
use Rattle.hunt.specs.declared.found.Found.{Found}
use Rattle.hunt.specs.declared.verdict.Verdict.{Verdict}
use Rattle.hunt.specs.declared.verdict.Verdict.TheVariants.{Holds, Fails, Skipped}

-- A number is not looked for, or it was reported, or a smaller bound was seen.
abbrev pub Tried : (ℕ → Bool) → SeatView → ℕ → Type 0
Tried test v x = (test x ≡ false) ⊎ Has v.reported x ⊎ ((bound : ℕ) × Has v.bounds bound × (bound < x))

-- Each number below the limit that was claimed was tried, and each that was reported is looked for.
pub record Did (test : ℕ → Bool) (v : SeatView) : Type 0 where
  pub tried : (x : ℕ) → Has v.claimed x → x < v.limit → Tried test v x
  pub right : (x : ℕ) → Has v.reported x → test x ≡ true

-- A worker needs no further number: the board has none left, or a number that the worker claimed is above a
-- bound that it saw. Its further numbers would be greater still.
abbrev pub IsDone : SeatView → Type 0
IsDone v = IsOver v ⊎ ((x bound : ℕ) × Has v.claimed x × Has v.bounds bound × (bound < x))

-- one more than the greatest of the list, or 0
abbrev pub top : List ℕ → ℕ
top [] = 0
top (x ∷ xs) = max (x + 1) (top xs)

-- the view after a verdict on the claim x, which is reported where the condition does not hold
abbrev pub after_verdict : SeatView → ℕ → Verdict → SeatView
after_verdict v x Holds = v
after_verdict v x (Fails found) = after_report v x
after_verdict v x Skipped = v

-- what a worker found, after a verdict on a claim
abbrev pub found_after : Option Found → Verdict → Option Found
found_after found Holds = found
found_after found (Fails other) = lesser found (Some other)
found_after found Skipped = found

-- whether a worker is done after this verdict
abbrev pub ends_by : Verdict → Bool
ends_by Holds = false
ends_by (Fails found) = false
ends_by Skipped = true
