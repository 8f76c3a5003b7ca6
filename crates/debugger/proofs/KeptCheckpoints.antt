-- Checkpoints and their lengths.
use Rattle.std.proofs.Common.{◌≡◌, ◌≢◌, ℕ, suc, ◌+◌, ◌-◌, ◌<◌, ◌≤◌, Bool, true, false, cond, List, [], ◌∷◌, ◌++◌, length, get_or, take, drop, refl, sym, ◌∙◌, ap, arith, subst, inl, inr, Option, Some, None, Result, Ok, Err}
use Rattle.std.proofs.Common.{Bor}
use Rattle.std.specs.Prelude.{IfSome, OnOk, is_err, option_copied, ◌==◌, nat_le, nat_lt, not, ◌&&◌, unwrap_or, option_map, slice_get, ◌%◌}
use Rattle.std.specs.List.{All, list_any, count_by}
use Rattle.std.proofs.lemmas.Bool.{cases_Bool, leb-true, leb-false, eqb-false}
use Rattle.std.proofs.lemmas.List.{map-append, length-map, length-append, length-drop, drop-map, get_or-drop, take-take, take-append-le, take_all, length-take-le}
use Rattle.std.proofs.lemmas.List.Elements.{All-push, All-drop, All-filter, filter_passes, All-cons, All-head, All-tail, All-nil}
use Rattle.std.proofs.lemmas.List.Sums.{sum_by-cons}
use Rattle.std.proofs.lemmas.List.Quantifiers.{all_pairs_push}
use Rattle.std.proofs.lemmas.List.Kept.{AllPairs-filter}
use Rattle.std.proofs.lemmas.Option.{slice_get-map, slice_get_within, get_or_from_slice_get}
use Rattle.circular_buffer.specs.Buffer.{keep_last, last_item}
use Rattle.outcomes.specs.declared.or_no_memory.OrNoMemory.{OrNoMemory}
use Rattle.outcomes.specs.declared.or_no_memory.OrNoMemory.TheVariants.{Fault, NoMemory}
use Rattle.machine.specs.declared.refusal.Refusal.{Refusal}
use Rattle.machine.specs.declared.step.Seen.{Seen}
use Rattle.machine.specs.declared.step.Step.{Step}
use Rattle.machine.specs.State.{State}
use Rattle.machine.specs.Steps.{run_of}
use Rattle.debugger.specs.Pasts.{Past, past, Leads, undone, IsPast}
use Rattle.debugger.specs.Marks.{mark_room, mark_distance, is_due, marked, marks_after, marks_kept}
use Rattle.debugger.specs.Checkpoints.{begun_at, checkpoint, lengths, IsCheckpoint, IsReachedBy, AreCheckpoints, AreRisingLengths, with_checkpoint, kept}
use Rattle.debugger.specs.declared.checkpoint.Checkpoint.{Checkpoint}
use Rattle.debugger.specs.Turns.{HasMarked, HasTried}
use Rattle.debugger.proofs.Replays.{led_to}

pub any_length : (n : ℕ) (cs : List Checkpoint) → list_any (λ m. m == n) (lengths cs) ≡ list_any (λ c. c.length == n) cs
any_length n [] = refl
any_length n (c ∷ cs) = rw (any_length n cs) refl

last_lengths : (cs : List Checkpoint) (n : ℕ) (s : State) → lengths (keep_last mark_room (cs ++ checkpoint n s ∷ [])) ≡ keep_last mark_room (lengths cs ++ n ∷ [])
last_lengths cs n s =
    let all : lengths (cs ++ checkpoint n s ∷ []) ≡ lengths cs ++ n ∷ [] = map-append (λ (c : Checkpoint). c.length) cs (checkpoint n s ∷ []) in
    let long : length (cs ++ checkpoint n s ∷ []) ≡ length (lengths (cs ++ checkpoint n s ∷ [])) = sym (length-map (cs ++ checkpoint n s ∷ []) (λ (c : Checkpoint). c.length)) in
    sym (drop-map (λ (c : Checkpoint). c.length) (length (cs ++ checkpoint n s ∷ []) - mark_room) (cs ++ checkpoint n s ∷ []))
    ∙ ap (λ (k : ℕ). drop (k - mark_room) (lengths (cs ++ checkpoint n s ∷ []))) long
    ∙ ap (λ (xs : List ℕ). keep_last mark_room xs) all

either_lengths : (b : Bool) (cs : List Checkpoint) (n : ℕ) (s : State) → lengths (cond b (keep_last mark_room (cs ++ checkpoint n s ∷ [])) cs) ≡ cond b (keep_last mark_room (lengths cs ++ n ∷ [])) (lengths cs)
either_lengths true cs n s = last_lengths cs n s
either_lengths false cs n s = refl

pub marked_lengths : (cs : List Checkpoint) (n : ℕ) (s : State) → lengths (with_checkpoint cs n s) ≡ marked (lengths cs) n
marked_lengths cs n s = either_lengths (is_due (lengths cs) n) cs n s

pub kept_lengths : (cs : List Checkpoint) (aim : ℕ) → lengths (kept cs aim) ≡ marks_kept (lengths cs) aim
kept_lengths [] aim = refl
kept_lengths (c ∷ cs) aim =
    elim (cases_Bool (nat_le c.length aim)) [
      | inl le ↦ rw le (ap (λ (xs : List ℕ). c.length ∷ xs) (kept_lengths cs aim))
      | inr off ↦ rw off (kept_lengths cs aim)
    ]

-- a checkpoint of a past is one of a longer past
pub still_one : (p q : Past) (more : List Step) → q.opening ≡ p.opening → q.history ≡ p.history ++ more → (c : Checkpoint) → IsCheckpoint p c → IsCheckpoint q c
still_one p q more o h c is =
    let long : length q.history ≡ length p.history + length more = ap (λ (xs : List Step). length xs) h ∙ length-append p.history more in
    let le : c.length ≤ length p.history = is.within in
    record {
      within = omega (arith, long, le);
      state = is.state ∙ ap (λ (xs : List Step). (run_of xs p.opening).state) (sym (take-append-le c.length p.history more is.within) ∙ ap (λ (xs : List Step). take c.length xs) (sym h)) ∙ ap (λ (x : State). (run_of (take c.length q.history) x).state) (sym o);
    }

pub one_here : (p : Past) → IsPast p → IsCheckpoint p (checkpoint (length p.history) p.state)
one_here p led = record {
  within = omega arith;
  state = led_to p.opening p.state p.history led ∙ ap (λ (xs : List Step). (run_of xs p.opening).state) (sym (take_all (length p.history) p.history (omega arith)));
}

either_all : (P : Checkpoint → Type 0) (b : Bool) (n : ℕ) (cs : List Checkpoint) (c : Checkpoint) → All P cs → P c → All P (cond b (drop n (cs ++ c ∷ [])) cs)
either_all P true n cs c all one = All-drop P n (cs ++ c ∷ []) (All-push P cs c all one)
either_all P false n cs c all one = all

pub all_marked : (p : Past) (cs : List Checkpoint) → IsPast p → AreCheckpoints p cs → AreCheckpoints p (with_checkpoint cs (length p.history) p.state)
all_marked p cs led all = either_all (IsCheckpoint p) (is_due (lengths cs) (length p.history)) (length (cs ++ checkpoint (length p.history) p.state ∷ []) - mark_room) cs (checkpoint (length p.history) p.state) all (one_here p led)

pub all_longer : (p q : Past) (more : List Step) (cs : List Checkpoint) → q.opening ≡ p.opening → q.history ≡ p.history ++ more → AreCheckpoints p cs → AreCheckpoints q cs
all_longer p q more cs o h all i d lt = still_one p q more o h _ (all i d lt)

-- a checkpoint that is not beyond the aim is one of the shorter past
pub still_before : (p : Past) (n : ℕ) (c : Checkpoint) → n ≤ length p.history → IsCheckpoint p c → c.length ≤ length p.history - n → IsCheckpoint (undone p n) c
still_before p n c within is le =
    let long : length (take (length p.history - n) p.history) ≡ length p.history - n = length-take-le (length p.history - n) p.history (omega arith) in
    record {
      within = omega (arith, long, le);
      state = is.state ∙ ap (λ (xs : List Step). (run_of xs p.opening).state) (sym (take-take c.length (length p.history - n) p.history le));
    }

pub all_reached : (p : Past) (n : ℕ) (cs : List Checkpoint) → AreCheckpoints p cs → All (IsReachedBy p n) (kept cs (length p.history - n))
all_reached p n cs all i d lt = (
  All-filter (λ (c : Checkpoint). nat_le c.length (length p.history - n)) (IsCheckpoint p) cs all i d lt,
  leb-true _ _ (filter_passes (λ (c : Checkpoint). nat_le c.length (length p.history - n)) cs i d lt),
)

pub all_before : (p : Past) (n : ℕ) (cs : List Checkpoint) → n ≤ length p.history → AreCheckpoints p cs → AreCheckpoints (undone p n) (kept cs (length p.history - n))
all_before p n cs within all i d lt =
    let r = all_reached p n cs all i d lt in still_before p n _ within r.0 r.1

pub last_of : (P : Checkpoint → Type 0) (cs : List Checkpoint) (c : Checkpoint) → All P cs → last_item cs ≡ Some c → P c
last_of P cs c all is = subst P (get_or_from_slice_get cs (length cs - 1) c c is) (all (length cs - 1) c (slice_get_within cs (length cs - 1) c is))

pub last_length : (cs : List Checkpoint) → last_item (lengths cs) ≡ option_map (λ (c : Checkpoint). c.length) (last_item cs)
last_length cs =
    ap (λ (n : ℕ). slice_get (lengths cs) (n - 1)) (length-map cs (λ (c : Checkpoint). c.length)) ∙ slice_get-map (λ (c : Checkpoint). c.length) cs (length cs - 1)

-- lengths rise
pub rising_dropped : (n : ℕ) (cs : List Checkpoint) → AreRisingLengths cs → AreRisingLengths (drop n cs)
rising_dropped n cs up i j d lt within =
    let long : length (drop n cs) ≡ length cs - n = length-drop n cs in
    rw (get_or-drop n cs i d, get_or-drop n cs j d) (up (n + i) (n + j) d (omega (arith, lt)) (omega (arith, long, within)))

all_less : (n : ℕ) (cs : List Checkpoint) → All (λ c. c.length ≤ n) cs → list_any (λ c. c.length == n) cs ≡ false → All (λ c. c.length < n) cs
all_less n [] all off = All-nil (λ (c : Checkpoint). c.length < n)
all_less n (c ∷ cs) all off =
    elim (cases_Bool (c.length == n)) [
      | inl same ↦ let wrong : true ≡ false = rw same at off in absurd (cc)
      | inr other ↦
          let rest : list_any (λ (x : Checkpoint). x.length == n) cs ≡ false = rw other at off in
          let ne : c.length ≢ n = eqb-false c.length n other in
          let le : c.length ≤ n = All-head (λ (x : Checkpoint). x.length ≤ n) c cs all in
          All-cons (λ (x : Checkpoint). x.length < n) c cs (omega (arith, ne, le)) (all_less n cs (All-tail (λ (x : Checkpoint). x.length ≤ n) c cs all) rest)
    ]

pub rising_pushed : (n : ℕ) (cs new : List Checkpoint) (s : State) → AreRisingLengths cs → All (λ c. c.length ≤ n) cs → list_any (λ c. c.length == n) cs ≡ false
    → new ≡ keep_last mark_room (cs ++ checkpoint n s ∷ []) → AreRisingLengths new
rising_pushed n cs new s up all off is =
    let low : All (λ (c : Checkpoint). c.length < n) cs = all_less n cs all off in
    subst (λ (xs : List Checkpoint). AreRisingLengths xs) (sym is) (rising_dropped (length (cs ++ checkpoint n s ∷ []) - mark_room) (cs ++ checkpoint n s ∷ []) (all_pairs_push (λ (x y : Checkpoint). x.length < y.length) cs (checkpoint n s) up (λ k d lt. low k d lt)))

none_kept : (aim : ℕ) (cs : List Checkpoint) → All (λ c. aim < c.length) cs → (count_by (λ c. nat_le c.length aim) cs ≡ 0) × (kept cs aim ≡ [])
none_kept aim [] all = (refl, refl)
none_kept aim (c ∷ cs) all =
    elim (cases_Bool (nat_le c.length aim)) [
      | inl le ↦ let a : c.length ≤ aim = leb-true c.length aim le in let b : aim < c.length = All-head (λ (x : Checkpoint). aim < x.length) c cs all in absurd (omega (arith, a, b))
      | inr off ↦ rw off (none_kept aim cs (All-tail (λ (x : Checkpoint). aim < x.length) c cs all))
    ]

count_yes : (aim : ℕ) (c : Checkpoint) (cs : List Checkpoint) → nat_le c.length aim ≡ true → count_by (λ x. nat_le x.length aim) (c ∷ cs) ≡ suc (count_by (λ x. nat_le x.length aim) cs)
count_yes aim c cs le =
    let one : ◌≡◌ {A = ℕ} (cond (nat_le c.length aim) 1 0) 1 = rw le refl in
    let more : count_by (λ (x : Checkpoint). nat_le x.length aim) (c ∷ cs) ≡ cond (nat_le c.length aim) 1 0 + count_by (λ (x : Checkpoint). nat_le x.length aim) cs = sum_by-cons (λ (x : Checkpoint). cond (nat_le x.length aim) 1 0) c cs in
    omega (arith, one, more)

pub front_kept : (aim : ℕ) (cs : List Checkpoint) → AreRisingLengths cs → take (count_by (λ c. nat_le c.length aim) cs) cs ≡ kept cs aim
front_kept aim [] up = refl
front_kept aim (c ∷ cs) up =
    elim (cases_Bool (nat_le c.length aim)) [
      | inl le ↦
          let rest = front_kept aim cs (λ i j d lt within. up (suc i) (suc j) d (omega (arith, lt)) (omega (arith, within))) in
          let here : kept (c ∷ cs) aim ≡ c ∷ kept cs aim = rw le refl in
          ap (λ (n : ℕ). take n (c ∷ cs)) (count_yes aim c cs le) ∙ ap (λ (xs : List Checkpoint). c ∷ xs) rest ∙ sym here
      | inr off ↦
          let far : aim < c.length = leb-false c.length aim off in
          let none = none_kept aim cs (λ k d lt. let f : c.length < (get_or cs k d).length = up 0 (suc k) d (omega arith) (omega (arith, lt)) in omega (arith, far, f)) in
          rw off (ap (λ (n : ℕ). take n (c ∷ cs)) none.0 ∙ sym none.1)
    ]

pub rising_kept : (aim : ℕ) (cs : List Checkpoint) → AreRisingLengths cs → AreRisingLengths (kept cs aim)
rising_kept aim cs up = AllPairs-filter (λ (x y : Checkpoint). x.length < y.length) (λ (c : Checkpoint). nat_le c.length aim) cs up

pub of_Some : (P : Checkpoint → Type 0) (q : Option (Bor Checkpoint)) (b : Bor Checkpoint) → q ≡ Some b → IfSome (option_copied q) P → P b.now
of_Some P q b e h = let k : IfSome (option_copied (Some b)) P = subst (λ (x : Option (Bor Checkpoint)). IfSome (option_copied x) P) e h in k

new_by : (a b x : Bool) → (a && b && not x) ≡ true → x ≡ false
new_by true true false e = refl
new_by true true true e = absurd (cc)
new_by true false x e = absurd (cc)
new_by false b x e = absurd (cc)

pub due_new : (n : ℕ) (cs : List Checkpoint) → is_due (lengths cs) n ≡ true → list_any (λ c. c.length == n) cs ≡ false
due_new n cs due = sym (any_length n cs) ∙ new_by (nat_lt 0 n) (n % mark_distance == 0) (list_any (λ m. m == n) (lengths cs)) due

pub due_tests : (n : ℕ) (cs : List Checkpoint) (r : Bool) → nat_lt 0 n ≡ true → (n % mark_distance == 0) ≡ true → r ≡ list_any (λ c. c.length == n) cs → not r ≡ is_due (lengths cs) n
due_tests n cs r a b e = rw (a, b) (ap not (e ∙ sym (any_length n cs)))

pub pushed : (n cap : ℕ) (xs ys : List Checkpoint) (m s : State) → cap ≡ mark_room → xs ≡ ys → m ≡ s → keep_last cap (xs ++ checkpoint n m ∷ []) ≡ keep_last mark_room (ys ++ checkpoint n s ∷ [])
pushed n cap xs ys m s p q r = rw (p, q, r) refl

pub tried_marks : (p : Past) (old new : List Checkpoint) (seen : Seen) (named : Option ℕ) → HasMarked p old new (Ok seen) → HasTried (lengths old) (lengths new) (length p.history) (Ok named)
tried_marks p old new seen named is = ap lengths is ∙ marked_lengths old (length p.history) p.state

-- the same of a step that was not made
pub barred_marks : (p : Past) (old new : List Checkpoint) (e : OrNoMemory Refusal) → HasMarked p old new (Err e) → HasTried (lengths old) (lengths new) (length p.history) (Err e)
barred_marks p old new (Fault refusal) is = ap lengths is ∙ marked_lengths old (length p.history) p.state
barred_marks p old new NoMemory is = ap lengths is

pub marks_more : (old new m : List ℕ) (n k len : ℕ) → new ≡ marked old len → old ≡ marks_after m n k → len ≡ n + k → new ≡ marks_after m n (k + 1)
marks_more old new m n k len p q r =
    let e : k + 1 ≡ suc k = omega arith in
    rw e (p ∙ ap (λ (xs : List ℕ). marked xs len) q ∙ ap (λ (j : ℕ). marked (marks_after m n k) j) r)

last_for : (P : Checkpoint → Type 0) (cs : List Checkpoint) (o : Option Checkpoint) → last_item cs ≡ o → All P cs → IfSome o P
last_for P cs (Some c) e all = last_of P cs c all e
last_for P cs None e all = tt

pub last_reached : (P : Checkpoint → Type 0) (cs : List Checkpoint) (q : Option (Bor Checkpoint)) → option_copied q ≡ last_item cs → All P cs → IfSome (option_copied q) P
last_reached P cs q e all = last_for P cs (option_copied q) (sym e) all

-- where a past runs again from, by the lengths alone
begun : (o : Option Checkpoint) → unwrap_or (option_map (λ (c : Checkpoint). c.length) o) 0 ≡ begun_at o
begun None = refl
begun (Some c) = refl

pub begun_last : (cs : List Checkpoint) (q : Option (Bor Checkpoint)) → option_copied q ≡ last_item cs → begun_at (option_copied q) ≡ unwrap_or (last_item (lengths cs)) 0
begun_last cs q e =
    ap begun_at e ∙ sym (begun (last_item cs)) ∙ ap (λ (o : Option ℕ). unwrap_or o 0) (sym (last_length cs))

pub ok_says : {X E : Type 0} (r : Result X E) (P : Type 0) → is_err r ≡ false → OnOk r P → P
ok_says (Ok x) P off says = says
ok_says (Err e) P off says = absurd (cc)

pub marked_here : (o s : State) (h : List Step) (p : Past) (cs new : List Checkpoint) (n : ℕ) → past o h s ≡ p → Leads o h s → AreCheckpoints p cs → n ≡ length h → new ≡ with_checkpoint cs n s → AreCheckpoints (past o h s) new
marked_here o s h p cs new n is led all long marks =
    subst (λ (xs : List Checkpoint). AreCheckpoints (past o h s) xs) (sym (marks ∙ ap (λ (k : ℕ). with_checkpoint cs k s) long))
    (all_marked (past o h s) cs led (subst (λ (q : Past). AreCheckpoints q cs) (sym is) all))
