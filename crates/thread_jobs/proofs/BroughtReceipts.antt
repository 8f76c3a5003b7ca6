-- What the threads bring back, one thread more, and what follows of the journal.
use Rattle.std.proofs.Common.{◌≡◌, ◌≢◌, ℕ, zero, suc, ◌+◌, ◌<◌, List, [], ◌∷◌, ◌++◌, length, get_or, refl, sym, ap, ◌∙◌, subst, arith, length-append}
use Rattle.std.specs.Prelude.{Result, Ok, Err, IfOk, map, All}
use Rattle.std.specs.List.{flat_map}
use Rattle.std.proofs.lemmas.List.{map-append, flat_map_more}
use Rattle.std.proofs.lemmas.List.Sums.{sum_by-cons}
use Rattle.machine.specs.State.{State}
use Rattle.machine.specs.declared.step.Step.{Step}
use Rattle.live.specs.declared.journal.JournalEntry.{JournalEntry}
use Rattle.live.specs.declared.journal.Receipt.{Receipt}
use Rattle.live.specs.declared.fault.CloseRefusal.{CloseRefusal}
use Rattle.live.specs.declared.fault.CloseRefusal.TheVariants.{MissingSeat, Stranger}
use Rattle.live.specs.Journal.{IsLegal, Stands}
use Rattle.live.specs.Seats.{Sitting}
use Rattle.live.specs.Receipts.{IsRefused, calls_of}
use Rattle.thread_jobs.specs.Dealings.{IsDealt, dealt}
use Rattle.thread_jobs.specs.Brought.{HasWorked, Brought, AllWorked, AllStand, AreBrought, receipt_count}
use Rattle.thread_jobs.proofs.ReceiptsTellTheJournal.{dealt_whole}

AllWorked-push : (k t : ℕ) (steps : List Step) (ws : List Brought) (w : Brought) → AllWorked k t steps ws
    → HasWorked w.0 w.1 (k + length ws) (dealt (k + length ws) t steps) → AllWorked k t steps (ws ++ w ∷ [])
AllWorked-push k t steps [] w all h = (subst (λ n. HasWorked w.0 w.1 n (dealt n t steps)) (omega arith) h, tt)
AllWorked-push k t steps (x ∷ ws) w all h =
    let same : k + length (x ∷ ws) ≡ (k + 1) + length ws = omega arith in
    (all.0, AllWorked-push (k + 1) t steps ws w all.1 (subst (λ n. HasWorked w.0 w.1 n (dealt n t steps)) same h))

pub none_brought : (t : ℕ) (steps : List Step) → AreBrought 0 t steps [] []
none_brought t steps = ([], tt, refl, refl, refl)

pub brought-more : (n t : ℕ) (steps : List Step) (seats : List Sitting) (receipts : List Receipt) (u : Sitting) (rs : List Receipt)
    → AreBrought n t steps seats receipts → HasWorked u rs n (dealt n t steps) → AreBrought (n + 1) t steps (seats ++ u ∷ []) (receipts ++ rs)
brought-more n t steps seats receipts u rs (ws, worked, count, seats_are, receipts_are) h = (
  ws ++ (u, rs) ∷ [],
  AllWorked-push 0 t steps ws (u, rs) worked (subst (λ m. HasWorked u rs m (dealt m t steps)) (omega (arith, count)) h),
  omega (arith, count, length-append ws ((u, rs) ∷ [])),
  ap (λ l. l ++ u ∷ []) seats_are ∙ sym (map-append (λ (w : Brought). w.0) ws ((u, rs) ∷ [])),
  ap (λ l. l ++ rs) receipts_are ∙ flat_map_more (λ (w : Brought). w.1) [] ws (u, rs),
)

pub brought-next : (n m t : ℕ) (steps : List Step) (seats after : List Sitting) (receipts all : List Receipt) (u : Sitting) (rs : List Receipt)
    → AreBrought n t steps seats receipts → HasWorked u rs n (dealt n t steps) → m ≡ n + 1 → after ≡ seats ++ u ∷ [] → all ≡ receipts ++ rs → AreBrought m t steps after all
brought-next n m t steps seats after receipts all u rs before h count after_is all_is =
    subst (λ k. AreBrought k t steps after all) (sym count)
    (subst (λ l. AreBrought (n + 1) t steps l all) (sym after_is)
    (subst (AreBrought (n + 1) t steps (seats ++ u ∷ [])) (sym all_is) (brought-more n t steps seats receipts u rs before h)))

-- as many receipts as the seats made calls
calls_are : (k t : ℕ) (steps : List Step) (ws : List Brought) → AllWorked k t steps ws → calls_of (map (λ w. w.0) ws) ≡ receipt_count ws
calls_are k t steps [] all = refl
calls_are k t steps (w ∷ ws) all =
    let first = all.0.calls in let others = calls_are (k + 1) t steps ws all.1 in
    let sum : calls_of (map (λ (x : Brought). x.0) (w ∷ ws)) ≡ w.0.calls + calls_of (map (λ (x : Brought). x.0) ws) = sum_by-cons (λ (s : Sitting). s.calls) w.0 (map (λ (x : Brought). x.0) ws) in
    omega (arith, sum, first, others)

-- receipts that all stand do so seat by seat
front_stand : (es : List JournalEntry) (rs others : List Receipt) → All (Stands es) (rs ++ others) → All (Stands es) rs × All (Stands es) others
front_stand es [] others all = ((λ k d lt. absurd (omega (arith, lt))), all)
front_stand es (r ∷ rs) others all =
    let rest = front_stand es rs others (λ k d lt. all (suc k) d (omega (arith, lt))) in
    (All-both r rs (all 0 r (omega arith)) rest.0, rest.1)
  where
    All-both : (r : Receipt) (rs : List Receipt) → Stands es r → All (Stands es) rs → All (Stands es) (r ∷ rs)
    All-both r rs first others zero d lt = first
    All-both r rs first others (suc k) d lt = others k d (omega (arith, lt))

all_stand : (es : List JournalEntry) (ws : List Brought) → All (Stands es) (flat_map (λ w. w.1) ws) → AllStand es ws
all_stand es [] all = tt
all_stand es (w ∷ ws) all = let parts = front_stand es w.1 (flat_map (λ (x : Brought). x.1) ws) all in (parts.0, all_stand es ws parts.1)

pub brought_is_dealt : (opening : State) (t : ℕ) (steps : List Step) (es : List JournalEntry) (seats : List Sitting) (receipts : List Receipt)
    → AreBrought t t steps seats receipts → IsLegal opening es → length es ≡ calls_of seats → All (Stands es) receipts → IsDealt opening t steps es
brought_is_dealt opening t steps es seats receipts (ws, worked, count, seats_are, receipts_are) legal as_many stand =
    let here = dealt_whole opening steps es ws legal (subst (λ n. AllWorked 0 n steps ws) (sym count) worked)
    (all_stand es ws (subst (All (Stands es)) receipts_are stand))
    (as_many ∙ ap calls_of seats_are ∙ calls_are 0 t steps ws worked) in
    subst (λ n. IsDealt opening n steps es) count here

-- with all seats at hand none is missing
pub none_missing : (opening : State) (t parts : ℕ) (steps : List Step) (seats : List Sitting) (receipts : List Receipt) (why : CloseRefusal)
    → AreBrought t t steps seats receipts → t ≡ parts → IsRefused opening parts seats receipts why → why ≢ MissingSeat
none_missing opening t parts steps seats receipts MissingSeat (ws, worked, count, seats_are, receipts_are) same refused =
    absurd (refused (ap length seats_are ∙ count_of ws ∙ count ∙ same))
  where
    count_of : (ws : List Brought) → length (map (λ w. w.0) ws) ≡ length ws
    count_of [] = refl
    count_of (w ∷ ws) = let others = count_of ws in omega (arith, others)
none_missing opening t parts steps seats receipts (Stranger r shown) brought same refused = λ is. absurd cc

-- what holds at each place of a list and of one element more holds at each place of both
pub at_push : {X : Type 0} (P : ℕ → X → Type 0) (xs ys : List X) (n : ℕ) (x d : X) → ys ≡ xs ++ x ∷ [] → n ≡ length xs
    → ((i : ℕ) → i < n → P i (get_or xs i d)) → P n x → (k : ℕ) → k < n + 1 → P k (get_or ys k d)
at_push P xs ys n x d is count before last k lt = subst (λ l. P k (get_or l k d)) (sym is) (go xs n P count before last k lt)
  where
    go : (xs : List _) (n : ℕ) (P : ℕ → _ → Type 0) → n ≡ length xs → ((i : ℕ) → i < n → P i (get_or xs i d)) → P n x → (k : ℕ) → k < n + 1 → P k (get_or (xs ++ x ∷ []) k d)
    go [] n P count before last zero lt = subst (λ m. P m x) (omega (arith, count)) last
    go [] n P count before last (suc k) lt = absurd (omega (arith, count, lt))
    go (y ∷ xs) n P count before last zero lt = before 0 (omega (arith, count))
    go (y ∷ xs) n P count before last (suc k) lt =
        go xs (length xs) (λ i z. P (suc i) z) refl (λ i low. before (suc i) (omega (arith, count, low))) (subst (λ m. P m x) (omega (arith, count)) last) k (omega (arith, count, lt))

pub IfOk-weaker : {A F : Type 0} (r : Result A F) (P Q : A → Type 0) → ((a : A) → P a → Q a) → IfOk r P → IfOk r Q
IfOk-weaker (Ok a) P Q f h = f a h
IfOk-weaker (Err e) P Q f h = tt
