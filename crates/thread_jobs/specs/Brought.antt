-- What the threads of a live machine bring back.
use Rattle.std.specs.Prelude.{◌≡◌, ℕ, ◌+◌, Option, Some, None, List, [], ◌∷◌, length, map, All}
use Rattle.std.specs.List.{flat_map}
use Rattle.machine.specs.declared.step.Step.{Step}
use Rattle.live.specs.declared.journal.JournalEntry.{JournalEntry}
use Rattle.live.specs.declared.journal.Receipt.{Receipt}
use Rattle.live.specs.Journal.{Stands}
use Rattle.live.specs.Seats.{Sitting}
use Rattle.live.specs.Receipts.{Rises}
use Rattle.thread_jobs.specs.declared.worker.Dealing.{Dealing}
use Rattle.thread_jobs.specs.Dealings.{dealt}

-- the steps that the receipts name
abbrev pub seat_steps : List Receipt → List (Option Step)
seat_steps rs = map (λ r. r.step) rs

abbrev pub last_of : List Receipt → Option Receipt
last_of [] = None
last_of (r ∷ []) = Some r
last_of (r ∷ q ∷ rs) = last_of (q ∷ rs)

-- all receipts are of this seat
abbrev pub AllOf : ℕ → List Receipt → Type 0
AllOf s [] = Unit {0}
AllOf s (r ∷ rs) = (r.seat ≡ s) × AllOf s rs

-- the receipts of a seat that made just these steps, in order
pub record HasWorked (seat : Sitting) (rs : List Receipt) (n : ℕ) (xs : List Step) : Type 0 where
  pub number : seat.number ≡ n
  pub calls : seat.calls ≡ length rs
  pub last : seat.last ≡ last_of rs
  pub seats : AllOf n rs
  pub steps : seat_steps rs ≡ map (λ x. Some x) xs
  pub rising : Rises 0 rs

-- these are the seat of this number and its receipts, when it has made just its own steps of a dealing
abbrev pub HasMadeOwn : Dealing → ℕ → Sitting → List Receipt → Type 0
HasMadeOwn dealing n seat rs = HasWorked seat rs n (dealt n dealing.threads dealing.steps.now)

-- a seat, and the receipts that it was given
abbrev pub Brought : Type 0
Brought = Sitting × List Receipt

-- the seats, of which the first has number k, made their steps of those that are dealt to so many
abbrev pub AllWorked : ℕ → ℕ → List Step → List Brought → Type 0
AllWorked k seats steps [] = Unit {0}
AllWorked k seats steps (w ∷ ws) = HasWorked w.0 w.1 k (dealt k seats steps) × AllWorked (k + 1) seats steps ws

-- all their receipts are in the journal
abbrev pub AllStand : List JournalEntry → List Brought → Type 0
AllStand es [] = Unit {0}
AllStand es (w ∷ ws) = All (Stands es) w.1 × AllStand es ws

-- how many receipts there are
abbrev pub receipt_count : List Brought → ℕ
receipt_count [] = 0
receipt_count (w ∷ ws) = length w.1 + receipt_count ws

-- seats, and their receipts one seat after another, are what the first n of so many threads bring back that made the steps dealt to them
abbrev pub AreBrought : ℕ → ℕ → List Step → List Sitting → List Receipt → Type 0
AreBrought n threads steps seats receipts =
    (ws : List Brought) × AllWorked 0 threads steps ws × (length ws ≡ n)
    × (seats ≡ map (λ w. w.0) ws) × (receipts ≡ flat_map (λ w. w.1) ws)

-- they are what all threads of a dealing bring back
abbrev pub AreAllBrought : Dealing → List Sitting → List Receipt → Type 0
AreAllBrought dealing seats receipts = AreBrought dealing.threads dealing.threads dealing.steps.now seats receipts
