-- What a receipt says, and what a close finds.
use Rattle.std.specs.Prelude.{◌≡◌, ◌≢◌, ℕ, ◌+◌, ◌<◌, ◌≤◌, List, [], ◌∷◌, ◌++◌, length, Option, Some, None, All}
use Rattle.std.specs.List.{sum_by}
use Rattle.machine.specs.State.{State}
use Rattle.live.specs.declared.journal.Call.{Call}
use Rattle.live.specs.declared.journal.JournalEntry.{JournalEntry}
use Rattle.live.specs.declared.journal.Receipt.{Receipt}
use Rattle.live.specs.declared.fault.CloseRefusal.{CloseRefusal}
use Rattle.live.specs.declared.fault.CloseRefusal.TheVariants.{MissingSeat, Stranger}
use Rattle.live.specs.Journal.{entry, IsLegal, Stands, receipt_of, shown_at, step_asked}
use Rattle.live.specs.Seats.{Sitting}

-- the receipt is in the journal, where there is one
abbrev pub StandsIfAny : List JournalEntry → Option Receipt → Type 0
StandsIfAny es None = Unit {0}
StandsIfAny es (Some r) = Stands es r

-- its number is greater than that of the receipt before, where there is one
abbrev pub IsAfter : Option Receipt → Receipt → Type 0
IsAfter None r = Unit {0}
IsAfter (Some b) r = b.number < r.number

-- the receipt's call is the last entry of a journal that is legal from the opening state, and which has the receipt before
abbrev pub IsIssued : State → Option Receipt → Call → Receipt → Type 0
IsIssued opening before call r =
    (front : List JournalEntry) × (length front ≡ r.number) × IsLegal opening (front ++ entry r.seat call r.answer ∷ []) × StandsIfAny front before

-- the receipt has the next number of a journal, and the seat and the step of a call
abbrev pub IsReceiptFor : List JournalEntry → ℕ → Call → Receipt → Type 0
IsReceiptFor es seat call r = (r.number ≡ length es) × (r.seat ≡ seat) × (r.step ≡ step_asked call)

-- how many calls of the seats were answered
abbrev pub calls_of : List Sitting → ℕ
calls_of seats = sum_by (λ s. s.calls) seats

-- the first of the receipts that is not in the journal
abbrev pub IsFirstStranger : List JournalEntry → List Receipt → Receipt → Type 0
IsFirstStranger es rs r =
    (good : List Receipt) × (rest : List Receipt) × (rs ≡ good ++ r ∷ rest) × All (Stands es) good × (shown_at es r.number ≢ Some r)

-- the first of the receipts that is not in the journal, and what is shown at its number
abbrev pub IsStrangerFound : List JournalEntry → List Receipt → Receipt × Option Receipt → Type 0
IsStrangerFound es rs found = (found.1 ≡ shown_at es found.0.number) × IsFirstStranger es rs found.0

-- why a close was refused: a seat is missing, or the first receipt that is not in a legal journal of all calls
abbrev pub IsRefused : State → ℕ → List Sitting → List Receipt → CloseRefusal → Type 0
IsRefused opening parts seats rs MissingSeat = length seats ≢ parts
IsRefused opening parts seats rs (Stranger r shown) =
    (length seats ≡ parts)
    × ((es : List JournalEntry) × IsLegal opening es × (length es ≡ calls_of seats) × (shown ≡ shown_at es r.number) × IsFirstStranger es rs r)

-- the numbers of the receipts rise, from n on
abbrev pub Rises : ℕ → List Receipt → Type 0
Rises n [] = Unit {0}
Rises n (r ∷ rs) = (n ≤ r.number) × Rises (r.number + 1) rs

-- the entries in the form of receipts, where the first has number n
abbrev pub receipts_from : ℕ → List JournalEntry → List Receipt
receipts_from n [] = []
receipts_from n (e ∷ es) = receipt_of n e ∷ receipts_from (n + 1) es
