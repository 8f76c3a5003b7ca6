-- As many receipts as entries: each seat's calls are its receipts'.
use Rattle.std.proofs.Common.{◌≡◌, ◌≢◌, ℕ, zero, suc, ◌+◌, ◌<◌, ◌≤◌, ◌==◌, Bool, true, false, List, [], ◌∷◌, length, Some, refl, sym, ap, ◌∙◌, subst, arith}
use Rattle.std.specs.Prelude.{map, All, if◌then◌else◌}
use Rattle.std.proofs.lemmas.Bool.Decides.{nat_tests}
use Rattle.std.proofs.lemmas.List.Elements.{All-nil, All-cons}
use Rattle.machine.specs.State.{State}
use Rattle.machine.specs.declared.step.Step.{Step}
use Rattle.live.specs.declared.journal.JournalEntry.{JournalEntry}
use Rattle.live.specs.declared.journal.Receipt.{Receipt}
use Rattle.live.specs.Journal.{IsLegal, Stands}
use Rattle.live.specs.Seats.{Sitting}
use Rattle.live.proofs.ReceiptsAreTheJournal.{stand_from}
use Rattle.thread_jobs.specs.Dealings.{IsDealt, calls_by, step_list, dealt}
use Rattle.thread_jobs.specs.Brought.{AllOf, HasWorked, AllWorked, AllStand, receipt_count}
use Rattle.thread_jobs.proofs.ReceiptsOfOneSeat.{Fit, picks, Picked}

-- how many calls the n seats made, of which the first has number k
abbrev pub call_count : ℕ → ℕ → List JournalEntry → ℕ
call_count k zero es = 0
call_count k (suc n) es = length (calls_by k es) + call_count (k + 1) n es

-- one more call of seat s
calls_by-of : (s : ℕ) (e : JournalEntry) (es : List JournalEntry) → e.seat ≡ s → length (calls_by s (e ∷ es)) ≡ length (calls_by s es) + 1
calls_by-of s e es is = let yes : (e.seat == s) ≡ true = grind (arith, nat_tests) in ap (λ b. length (if b then e.call ∷ calls_by s es else calls_by s es)) yes ∙ omega arith

calls_by-not : (s : ℕ) (e : JournalEntry) (es : List JournalEntry) → e.seat ≢ s → length (calls_by s (e ∷ es)) ≡ length (calls_by s es)
calls_by-not s e es not = let no : (e.seat == s) ≡ false = grind (arith, nat_tests) in ap (λ b. length (if b then e.call ∷ calls_by s es else calls_by s es)) no

-- a call of an earlier seat counts for none of them
count-before : (k n : ℕ) (e : JournalEntry) (es : List JournalEntry) → e.seat < k → call_count k n (e ∷ es) ≡ call_count k n es
count-before k zero e es low = refl
count-before k (suc n) e es low =
    let a = calls_by-not k e es (λ is. absurd (omega (arith, low, is))) in
    let b = count-before (k + 1) n e es (omega (arith, low)) in omega (arith, a, b)

-- a call counts once at most
count-more : (k n : ℕ) (e : JournalEntry) (es : List JournalEntry) (b : Bool) → (e.seat == k) ≡ b → call_count k n (e ∷ es) ≤ call_count k n es + 1
count-more k zero e es b is = omega arith
count-more k (suc n) e es true is =
    let same : e.seat ≡ k = grind (arith, nat_tests) in
    let a = calls_by-of k e es same in let c = count-before (k + 1) n e es (omega (arith, same)) in omega (arith, a, c)
count-more k (suc n) e es false is =
    let other : e.seat ≢ k = λ same. absurd (grind (arith, nat_tests, same, is)) in
    let a = calls_by-not k e es other in let c = count-more (k + 1) n e es (e.seat == (k + 1)) refl in omega (arith, a, c)

pub count-few : (k n : ℕ) (es : List JournalEntry) → call_count k n es ≤ length es
count-few k zero es = omega arith
count-few k (suc n) [] = let a = count-few (k + 1) n [] in omega (arith, a)
count-few k (suc n) (e ∷ es) =
    let a = count-few k (suc n) es in let c = count-more k (suc n) e es (e.seat == k) refl in omega (arith, a, c)

-- receipts that stand, of one seat
fit : (s : ℕ) (es : List JournalEntry) (rs : List Receipt) → AllOf s rs → All (Stands es) rs → Fit s 0 es rs
fit s es [] of stand = tt
fit s es (r ∷ rs) of stand = (of.0, stand_from es r (stand 0 r (omega arith)), fit s es rs of.1 (λ i d lt. stand (suc i) d (omega (arith, lt))))

picked : (k : ℕ) (t : ℕ) (steps : List Step) (es : List JournalEntry) (w : Sitting × List Receipt) → HasWorked w.0 w.1 k (dealt k t steps) → All (Stands es) w.1 → Picked (calls_by k es) w.1
picked k t steps es w h stand = picks k 0 es w.1 h.rising (fit k es w.1 h.seats stand)

-- no seat has more receipts than calls, so none has fewer where all together have not
pub count-each : (k t : ℕ) (steps : List Step) (es : List JournalEntry) (ws : List (Sitting × List Receipt)) → AllWorked k t steps ws → AllStand es ws
    → receipt_count ws ≤ call_count k (length ws) es
count-each k t steps es [] h stand = omega arith
count-each k t steps es (w ∷ ws) h stand =
    let a = (picked k t steps es w h.0 stand.0).0 in let b = count-each (k + 1) t steps es ws h.1 stand.1 in omega (arith, a, b)

pub calls-each : (k t : ℕ) (steps : List Step) (es : List JournalEntry) (ws : List (Sitting × List Receipt)) → AllWorked k t steps ws → AllStand es ws
    → receipt_count ws ≡ call_count k (length ws) es → (s : ℕ) → k ≤ s → s < k + length ws → step_list (calls_by s es) ≡ map (λ x. Some x) (dealt s t steps)
calls-each k t steps es [] h stand all s low high = absurd (omega (arith, low, high))
calls-each k t steps es (w ∷ ws) h stand all s low high =
    let p = picked k t steps es w h.0 stand.0 in let rest = count-each (k + 1) t steps es ws h.1 stand.1 in
    here (s == k) refl (p.1 (omega (arith, p.0, rest, all)) ∙ h.0.steps) (calls-each (k + 1) t steps es ws h.1 stand.1 (omega (arith, p.0, rest, all)) s)
  where
    here : (b : Bool) → (s == k) ≡ b → step_list (calls_by k es) ≡ map (λ x. Some x) (dealt k t steps)
        → (k + 1 ≤ s → s < k + 1 + length ws → step_list (calls_by s es) ≡ map (λ x. Some x) (dealt s t steps))
        → step_list (calls_by s es) ≡ map (λ x. Some x) (dealt s t steps)
    here true is mine others = let same : s ≡ k = grind (arith, nat_tests) in subst (λ n. step_list (calls_by n es) ≡ map (λ x. Some x) (dealt n t steps)) (sym same) mine
    here false is mine others = let above : k < s = grind (arith, nat_tests, low) in others (omega (arith, above)) (omega (arith, high))

-- where every entry counts, every entry is of one of the seats
pub every-each : (n : ℕ) (es : List JournalEntry) → call_count 0 n es ≡ length es → All (λ e. e.seat < n) es
every-each n [] all = All-nil (λ e. e.seat < n)
every-each n (e ∷ es) all =
    let few = count-few 0 n es in
    All-cons (λ e. e.seat < n) e es (below n (omega (arith, few, all))) (every-each n es (let m = count-more 0 n e es (e.seat == 0) refl in omega (arith, few, all, m)))
  where
    beyond : (k n : ℕ) → k + n ≤ e.seat → call_count k n (e ∷ es) ≡ call_count k n es
    beyond k zero high = refl
    beyond k (suc n) high =
        let a = calls_by-not k e es (λ is. absurd (omega (arith, high, is))) in let b = beyond (k + 1) n (omega (arith, high)) in omega (arith, a, b)

    below : (n : ℕ) → call_count 0 n es < call_count 0 n (e ∷ es) → e.seat < n
    below n more = elim (native.Mathlib.Decide.dec_le n e.seat) [ yes le ↦ absurd (let a = beyond 0 n (omega (arith, le)) in omega (arith, a, more)) | no lt ↦ omega (arith, lt) ]

pub dealt_whole : (opening : State) (steps : List Step) (es : List JournalEntry) (ws : List (Sitting × List Receipt))
    → IsLegal opening es → AllWorked 0 (length ws) steps ws → AllStand es ws → length es ≡ receipt_count ws → IsDealt opening (length ws) steps es
dealt_whole opening steps es ws legal worked stand all =
    let few = count-few 0 (length ws) es in let each = count-each 0 (length ws) steps es ws worked stand in
    let same : receipt_count ws ≡ call_count 0 (length ws) es = omega (arith, few, each, all) in
    record {
      legal = legal;
      every = every-each (length ws) es (omega (arith, same, all));
      calls = λ s low. calls-each 0 (length ws) steps es ws worked stand same s (omega arith) (omega (arith, low));
    }
