-- No seat has more receipts that stand than calls in the journal.
use Rattle.std.proofs.Common.{◌≡◌, ℕ, ◌+◌, ◌<◌, ◌≤◌, ◌==◌, Bool, true, false, List, [], ◌∷◌, length, refl, sym, ap, ◌∙◌, subst, arith}
use Rattle.std.specs.Prelude.{if◌then◌else◌}
use Rattle.std.proofs.lemmas.Bool.Decides.{nat_tests}
use Rattle.live.specs.declared.journal.Call.{Call}
use Rattle.live.specs.declared.journal.JournalEntry.{JournalEntry}
use Rattle.live.specs.declared.journal.Receipt.{Receipt}
use Rattle.live.specs.Journal.{step_asked}
use Rattle.live.specs.Receipts.{Rises}
use Rattle.live.proofs.ReceiptsAreTheJournal.{StandsFrom, StandsFrom-tail, at_head}
use Rattle.thread_jobs.specs.Dealings.{calls_by, step_list}
use Rattle.thread_jobs.specs.Brought.{seat_steps}

-- the receipts are all of this seat, and stand in a journal whose first entry has number n
abbrev pub Fit : ℕ → ℕ → List JournalEntry → List Receipt → Type 0
Fit s n es [] = Unit {0}
Fit s n es (r ∷ rs) = (r.seat ≡ s) × StandsFrom n es r × Fit s n es rs

-- past the first entry
Fit-tail : (s n m : ℕ) (e : JournalEntry) (es : List JournalEntry) (rs : List Receipt) → n < m → Rises m rs → Fit s n (e ∷ es) rs → Fit s (n + 1) es rs
Fit-tail s n m e es [] lt rise fit = tt
Fit-tail s n m e es (r ∷ rs) lt rise fit = (
  fit.0,
  StandsFrom-tail n e es r (omega (arith, rise.0, lt)) fit.1,
  Fit-tail s n (r.number + 1) e es rs (omega (arith, rise.0, lt)) rise.1 fit.2,
)

-- as many as the seat's calls at most, and then just these
abbrev pub Picked : List Call → List Receipt → Type 0
Picked cs rs = (length rs ≤ length cs) × (length rs ≡ length cs → step_list cs ≡ seat_steps rs)

nothing : (cs : List Call) → Picked cs []
nothing [] = (omega arith, λ _. refl)
nothing (c ∷ cs) = (omega arith, λ h. absurd (omega (arith, h)))

-- one call more, which is the first receipt's
Picked-more : (c : Call) (cs : List Call) (r : Receipt) (rs : List Receipt) → step_asked c ≡ r.step → Picked cs rs → Picked (c ∷ cs) (r ∷ rs)
Picked-more c cs r rs is p = (omega (arith, p.0), λ h. cc (is, p.1 (omega (arith, h))))

-- one call more, which no receipt has
Picked-besides : (c : Call) (cs : List Call) (rs : List Receipt) → Picked cs rs → Picked (c ∷ cs) rs
Picked-besides c cs rs p = (omega (arith, p.0), λ h. absurd (omega (arith, p.0, h)))

-- an entry of this seat or of another
Picked-entry : (s : ℕ) (e : JournalEntry) (es : List JournalEntry) (rs : List Receipt) (b : Bool) → (e.seat == s) ≡ b → Picked (calls_by s es) rs → Picked (calls_by s (e ∷ es)) rs
Picked-entry s e es rs true is p = subst (λ b. Picked (if b then e.call ∷ calls_by s es else calls_by s es) rs) (sym is) (Picked-besides e.call (calls_by s es) rs p)
Picked-entry s e es rs false is p = subst (λ b. Picked (if b then e.call ∷ calls_by s es else calls_by s es) rs) (sym is) p

Picked-here : (s : ℕ) (e : JournalEntry) (es : List JournalEntry) (r : Receipt) (rs : List Receipt) → e.seat ≡ s → step_asked e.call ≡ r.step → Picked (calls_by s es) rs → Picked (calls_by s (e ∷ es)) (r ∷ rs)
Picked-here s e es r rs mine is p =
    let yes : (e.seat == s) ≡ true = grind (arith, nat_tests) in
    subst (λ b. Picked (if b then e.call ∷ calls_by s es else calls_by s es) (r ∷ rs)) (sym yes) (Picked-more e.call (calls_by s es) r rs is p)

pick_step : (s n : ℕ) (e : JournalEntry) (es : List JournalEntry) (r : Receipt) (rs : List Receipt) → Rises n (r ∷ rs) → Fit s n (e ∷ es) (r ∷ rs)
    → ((k : ℕ) (qs : List Receipt) → Rises k qs → Fit s k es qs → Picked (calls_by s es) qs)
    → (b : Bool) → (r.number == n) ≡ b → Picked (calls_by s (e ∷ es)) (r ∷ rs)
pick_step s n e es r rs rise fit rest true is =
    let same : r.number ≡ n = grind (arith, nat_tests) in
    let shown = at_head e es n r same fit.1 in
    Picked-here s e es r rs (ap (λ x. x.seat) shown ∙ fit.0) (ap (λ x. x.step) shown)
    (rest (n + 1) rs (subst (λ k. Rises (k + 1) rs) same rise.1) (Fit-tail s n (r.number + 1) e es rs (omega (arith, rise.0)) rise.1 fit.2))
pick_step s n e es r rs rise fit rest false is =
    let above : n < r.number = grind (arith, nat_tests, rise.0) in
    Picked-entry s e es (r ∷ rs) (e.seat == s) refl
    (rest (n + 1) (r ∷ rs) (omega (arith, above), rise.1) (Fit-tail s n (n + 1) e es (r ∷ rs) (omega arith) (omega (arith, above), rise.1) fit))

pub picks : (s n : ℕ) (es : List JournalEntry) (rs : List Receipt) → Rises n rs → Fit s n es rs → Picked (calls_by s es) rs
picks s n [] [] rise fit = nothing []
picks s n [] (r ∷ rs) rise fit = absurd (cc (fit.1))
picks s n (e ∷ es) [] rise fit = nothing (calls_by s (e ∷ es))
picks s n (e ∷ es) (r ∷ rs) rise fit = pick_step s n e es r rs rise fit (λ k qs. picks s k es qs) (r.number == n) refl
