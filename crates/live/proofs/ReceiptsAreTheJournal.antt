-- Receipts of rising numbers that stand, as many as there are entries, are the journal.
use Rattle.std.proofs.Common.{◌≡◌, ℕ, suc, ◌+◌, ◌-◌, ◌<◌, ◌≤◌, ◌==◌, Bool, true, false, List, [], ◌∷◌, length, Some, refl, sym, ap, ◌∙◌, subst, arith}
use Rattle.std.specs.Prelude.{slice_get, All}
use Rattle.std.specs.Option.{option_map}
use Rattle.std.proofs.lemmas.Bool.Decides.{nat_tests}
use Rattle.live.specs.declared.journal.JournalEntry.{JournalEntry}
use Rattle.live.specs.declared.journal.Receipt.{Receipt}
use Rattle.live.specs.Journal.{receipt_of, Stands}
use Rattle.live.specs.Receipts.{Rises, receipts_from}

-- the receipt agrees with the entry of its number, in a journal whose first entry has number n
abbrev pub StandsFrom : ℕ → List JournalEntry → Receipt → Type 0
StandsFrom n es r = option_map (receipt_of r.number) (slice_get es (r.number - n)) ≡ Some r

-- each of the receipts does
abbrev pub FitsAll : ℕ → List JournalEntry → List Receipt → Type 0
FitsAll n es [] = Unit {0}
FitsAll n es (r ∷ rs) = StandsFrom n es r × FitsAll n es rs

-- the entry at a place behind the first
at_tail : (e : JournalEntry) (es : List JournalEntry) (m k : ℕ) → m ≡ suc k → slice_get (e ∷ es) m ≡ slice_get es k
at_tail e es m k is = ap (slice_get (e ∷ es)) is

-- past the first entry
pub StandsFrom-tail : (n : ℕ) (e : JournalEntry) (es : List JournalEntry) (r : Receipt) → n < r.number → StandsFrom n (e ∷ es) r → StandsFrom (n + 1) es r
StandsFrom-tail n e es r lt fit = sym (ap (option_map (receipt_of r.number)) (at_tail e es (r.number - n) (r.number - (n + 1)) (omega (arith, lt)))) ∙ fit

-- receipts that stand in a journal
pub stand_from : (es : List JournalEntry) (r : Receipt) → Stands es r → StandsFrom 0 es r
stand_from es r stands = let same : r.number - 0 ≡ r.number = omega arith in ap (λ n. option_map (receipt_of r.number) (slice_get es n)) same ∙ stands

FitsAll-tail : (n m : ℕ) (e : JournalEntry) (es : List JournalEntry) (rs : List Receipt) → n < m → Rises m rs → FitsAll n (e ∷ es) rs → FitsAll (n + 1) es rs
FitsAll-tail n m e es [] lt rise fit = tt
FitsAll-tail n m e es (r ∷ rs) lt rise fit = (
  StandsFrom-tail n e es r (omega (arith, rise.0, lt)) fit.0,
  FitsAll-tail n (r.number + 1) e es rs (omega (arith, rise.0, lt)) rise.1 fit.1,
)

-- the first entry, where it has the number
pub at_head : (e : JournalEntry) (es : List JournalEntry) (n : ℕ) (r : Receipt) → r.number ≡ n → StandsFrom n (e ∷ es) r → receipt_of n e ≡ r
at_head e es n r is fit =
    let zero_is : r.number - n ≡ 0 = omega (arith, is) in
    let here : option_map (receipt_of r.number) (slice_get (e ∷ es) 0) ≡ Some r = sym (ap (λ k. option_map (receipt_of r.number) (slice_get (e ∷ es) k)) zero_is) ∙ fit in
    ap (λ k. receipt_of k e) (sym is) ∙ cc (here)

-- no more than there are
few : (n : ℕ) (es : List JournalEntry) (rs : List Receipt) → Rises n rs → FitsAll n es rs → length rs ≤ length es
few n [] [] rise fit = omega arith
few n [] (r ∷ rs) rise fit = absurd (cc (fit.0))
few n (e ∷ es) [] rise fit = omega arith
few n (e ∷ es) (r ∷ rs) rise fit = omega (arith, few (n + 1) es rs (weaken (n + 1) (r.number + 1) rs (omega (arith, rise.0)) rise.1) (FitsAll-tail n (r.number + 1) e es rs (omega (arith, rise.0)) rise.1 fit.1))
  where
    weaken : (a b : ℕ) (rs : List Receipt) → a ≤ b → Rises b rs → Rises a rs
    weaken a b [] le h = tt
    weaken a b (r ∷ rs) le h = (omega (arith, h.0, le), h.1)

whole_step : (n : ℕ) (e : JournalEntry) (es : List JournalEntry) (r : Receipt) (rs : List Receipt) → Rises n (r ∷ rs) → FitsAll n (e ∷ es) (r ∷ rs) → length (r ∷ rs) ≡ length (e ∷ es)
    → ((k : ℕ) (qs : List Receipt) → Rises k qs → FitsAll k es qs → length qs ≡ length es → receipts_from k es ≡ qs)
    → (b : Bool) → (r.number == n) ≡ b → receipts_from n (e ∷ es) ≡ r ∷ rs
whole_step n e es r rs rise fit same rest true is =
    let same_number : r.number ≡ n = grind (arith, nat_tests) in
    let shown = at_head e es n r same_number fit.0 in
    cc (shown, rest (n + 1) rs (subst (λ k. Rises (k + 1) rs) same_number rise.1) (FitsAll-tail n (r.number + 1) e es rs (omega (arith, rise.0)) rise.1 fit.1) (omega (arith, same)))
whole_step n e es r rs rise fit same rest false is =
    let above : n < r.number = grind (arith, nat_tests, rise.0) in
    absurd (omega (arith, same, few (n + 1) es (r ∷ rs) (omega (arith, above), rise.1) (FitsAll-tail n (n + 1) e es (r ∷ rs) (omega arith) (omega (arith, above), rise.1) fit)))

whole_from : (n : ℕ) (es : List JournalEntry) (rs : List Receipt) → Rises n rs → FitsAll n es rs → length rs ≡ length es → receipts_from n es ≡ rs
whole_from n [] [] rise fit same = refl
whole_from n [] (r ∷ rs) rise fit same = absurd (omega (arith, same))
whole_from n (e ∷ es) [] rise fit same = absurd (omega (arith, same))
whole_from n (e ∷ es) (r ∷ rs) rise fit same = whole_step n e es r rs rise fit same (λ k qs. whole_from k es qs) (r.number == n) refl

fits : (es : List JournalEntry) (rs : List Receipt) → All (Stands es) rs → FitsAll 0 es rs
fits es [] stand = tt
fits es (r ∷ rs) stand = (stand_from es r (stand 0 r (omega arith)), fits es rs (λ i d lt. stand (suc i) d (omega (arith, lt))))

-- receipts that stand, as many as there are entries, are the entries'
pub whole : (es : List JournalEntry) (rs : List Receipt) → Rises 0 rs → All (Stands es) rs → length rs ≡ length es → rs ≡ receipts_from 0 es
whole es rs rise stand same = sym (whole_from 0 es rs rise (fits es rs stand) same)
