-- What schedules come to, run by run.
use Rattle.std.specs.Prelude.{◌≡◌, ℕ, ◌+◌, ◌-◌, ◌*◌, ◌≤◌, List, [], ◌∷◌, min}
use Rattle.schedule.specs.Ranges.{max_schedules}

-- what so many schedules come to, of which the first has this number
abbrev pub Meaning : Type 0 → Type 1
Meaning A = ℕ → ℕ → A → Type 0

-- what run k of so many schedules comes to: of the 256 behind the first 256 * k, or of as many as there are
abbrev pub IsRunAt : {A : Type 0} → Meaning A → ℕ → ℕ → ℕ → A → Type 0
IsRunAt IsRun first n k run = IsRun (first + 256 * k) (min 256 (n - 256 * k)) run

-- These are what the runs of so many schedules come to, one run after another: the first 256 of them are a run, or as many as
-- there are, and then come the runs of the others.
abbrev pub AreRuns : {A : Type 0} → Meaning A → ℕ → ℕ → List A → Type 0
AreRuns IsRun first n [] = n ≡ 0
AreRuns IsRun first n (run ∷ runs) = IsRun first (min 256 n) run × AreRuns IsRun (first + min 256 n) (n - min 256 n) runs

-- An answer is of some schedules, and a run is of those after them.
pub record Adjoin {A B : Type 0} (IsAnswer : Meaning A) (IsRun : Meaning B) (answer : A) (run : B) : Type 0 where
  pub first : ℕ
  pub done : ℕ
  pub more : ℕ
  pub before : IsAnswer first done answer
  pub after : IsRun (first + done) more run
  pub few : first + (done + more) ≤ max_schedules

-- Where an answer was of some schedules, and a run is of those after them, the new answer is of all of them.
abbrev pub Adds : {A B : Type 0} → Meaning A → Meaning B → A → B → A → Type 0
Adds IsAnswer IsRun answer run new =
    (first done more : ℕ) → IsAnswer first done answer → IsRun (first + done) more run → IsAnswer first (done + more) new
