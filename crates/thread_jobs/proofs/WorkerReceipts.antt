-- A worker's receipts grow by one.
use Rattle.std.proofs.Common.{◌≡◌, ◌≢◌, ℕ, ◌+◌, ◌%◌, ◌<◌, ◌≤◌, ◌==◌, Bool, true, false, List, [], ◌∷◌, ◌++◌, length, take, get_or, Some, refl, sym, ap, ◌∙◌, subst, arith, length-append}
use Rattle.std.specs.Prelude.{map, if◌then◌else◌}
use Rattle.std.proofs.lemmas.List.{take_more, append-nil, length-take-le}
use Rattle.std.proofs.lemmas.Bool.Decides.{nat_tests}
use Rattle.machine.specs.declared.step.Step.{Step}
use Rattle.live.specs.declared.journal.Receipt.{Receipt}
use Rattle.live.specs.Seats.{Sitting, IsNextSitting}
use Rattle.live.specs.Receipts.{IsAfter, Rises}
use Rattle.thread_jobs.specs.Dealings.{dealt_from, dealt}
use Rattle.thread_jobs.specs.Brought.{AllOf, HasWorked, last_of, seat_steps}

AllOf-push : (s : ℕ) (rs : List Receipt) (r : Receipt) → AllOf s rs → r.seat ≡ s → AllOf s (rs ++ r ∷ [])
AllOf-push s [] r h is = (is, tt)
AllOf-push s (x ∷ xs) r h is = (h.0, AllOf-push s xs r h.1 is)

last_of-push : (rs : List Receipt) (r : Receipt) → last_of (rs ++ r ∷ []) ≡ Some r
last_of-push [] r = refl
last_of-push (x ∷ []) r = refl
last_of-push (x ∷ y ∷ ys) r = last_of-push (y ∷ ys) r

seat_steps-push : (rs : List Receipt) (r : Receipt) (xs : List Step) (x : Step) → seat_steps rs ≡ map (λ y. Some y) xs → r.step ≡ Some x → seat_steps (rs ++ r ∷ []) ≡ map (λ y. Some y) (xs ++ x ∷ [])
seat_steps-push [] r [] x h is = ap (λ o. o ∷ []) is
seat_steps-push [] r (y ∷ ys) x h is = absurd (cc h)
seat_steps-push (q ∷ qs) r [] x h is = absurd (cc h)
seat_steps-push (q ∷ qs) r (y ∷ ys) x h is = cc (h, seat_steps-push qs r ys x (cc h) is)

Rises-push : (n : ℕ) (rs : List Receipt) (r : Receipt) → Rises n rs → n ≤ r.number → IsAfter (last_of rs) r → Rises n (rs ++ r ∷ [])
Rises-push n [] r h le after = (le, tt)
Rises-push n (x ∷ []) r h le after = (h.0, (omega (arith, after), tt))
Rises-push n (x ∷ y ∷ ys) r h le after = (h.0, Rises-push (x.number + 1) (y ∷ ys) r h.1 (below_last (x.number + 1) y ys r h.1 after) after)
  where
    below_last : (n : ℕ) (y : Receipt) (ys : List Receipt) (r : Receipt) → Rises n (y ∷ ys) → IsAfter (last_of (y ∷ ys)) r → n ≤ r.number
    below_last n y [] r h after = omega (arith, h.0, after)
    below_last n y (z ∷ zs) r h after = omega (arith, h.0, below_last (y.number + 1) z zs r h.1 after)

-- one step more
worked-more : (s t : Sitting) (rs : List Receipt) (number : ℕ) (xs : List Step) (r : Receipt) (x : Step)
    → HasWorked s rs number xs → IsNextSitting s t r → r.seat ≡ s.number → r.step ≡ Some x → IsAfter s.last r
    → HasWorked t (rs ++ r ∷ []) number (xs ++ x ∷ [])
worked-more s t rs number xs r x w next seat step after = record {
  number = ap (λ u. u.number) next ∙ w.number;
  calls = ap (λ u. u.calls) next ∙ omega (arith, w.calls, length-append rs (r ∷ []));
  last = ap (λ u. u.last) next ∙ sym (last_of-push rs r);
  seats = AllOf-push number rs r w.seats (seat ∙ w.number);
  steps = seat_steps-push rs r xs x w.steps step;
  rising = Rises-push 0 rs r w.rising (omega arith) (subst (λ o. IsAfter o r) w.last after);
}

-- the last of the steps is this seat's, or not
pub dealt_from-push : (k s t : ℕ) (xs : List Step) (x : Step) → dealt_from k s t (xs ++ x ∷ []) ≡ dealt_from k s t xs ++ (if (k + length xs) % t == s then x ∷ [] else [])
dealt_from-push k s t [] x = ap (λ n. if n % t == s then x ∷ [] else []) (omega arith)
dealt_from-push k s t (y ∷ ys) x =
    let more : (k + 1) + length ys ≡ k + length (y ∷ ys) = omega arith in
    let rest = dealt_from-push (k + 1) s t ys x ∙ ap (λ n. dealt_from (k + 1) s t ys ++ (if n % t == s then x ∷ [] else [])) more in
    split (k % t == s) (dealt_from (k + 1) s t (ys ++ x ∷ [])) (dealt_from (k + 1) s t ys) (if (k + length (y ∷ ys)) % t == s then x ∷ [] else []) rest
  where
    split : (b : Bool) (all front back : List Step) → all ≡ front ++ back → (if b then y ∷ all else all) ≡ (if b then y ∷ front else front) ++ back
    split true all front back is = ap (λ l. y ∷ l) is
    split false all front back is = is

-- how far the list goes
at_end : (i : ℕ) (xs : List Step) → i < length xs → 0 + length (take i xs) ≡ i
at_end i xs lt = omega (arith, length-take-le i xs (omega arith))

dealt-more : (s t i : ℕ) (xs : List Step) (d : Step) (b : Bool) → i < length xs → (i % t == s) ≡ b → dealt s t (take (i + 1) xs) ≡ dealt s t (take i xs) ++ (if b then get_or xs i d ∷ [] else [])
dealt-more s t i xs d b lt is =
    ap (dealt s t) (take_more xs i d lt) ∙ dealt_from-push 0 s t (take i xs) (get_or xs i d)
    ∙ ap (λ v. dealt s t (take i xs) ++ (if v then get_or xs i d ∷ [] else [])) (ap (λ n. n % t == s) (at_end i xs lt) ∙ is)

-- the same where room is made before, and the receipt is added then
pub worked-next : (s t : Sitting) (rs kept all : List Receipt) (number : ℕ) (xs : List Step) (r : Receipt) (x : Step)
    → all ≡ kept ++ r ∷ [] → kept ≡ rs → HasWorked s rs number xs → IsNextSitting s t r → r.seat ≡ s.number → r.step ≡ Some x → IsAfter s.last r
    → HasWorked t all number (xs ++ x ∷ [])
worked-next s t rs kept all number xs r x all_is kept_is w next seat step after =
    subst (λ (l : List Receipt). HasWorked t l number (xs ++ x ∷ [])) (sym (all_is ∙ ap (λ (l : List Receipt). l ++ r ∷ []) kept_is)) (worked-more s t rs number xs r x w next seat step after)

pub worked-here : (v : Sitting) (rs : List Receipt) (s t i : ℕ) (xs : List Step) (d : Step) → i < length xs → i % t ≡ s
    → HasWorked v rs s (dealt s t (take i xs) ++ get_or xs i d ∷ []) → HasWorked v rs s (dealt s t (take (i + 1) xs))
worked-here v rs s t i xs d lt is w =
    let yes : (i % t == s) ≡ true = grind (arith, nat_tests) in
    subst (HasWorked v rs s) (sym (dealt-more s t i xs d true lt yes)) w

pub worked-elsewhere : (u : Sitting) (rs : List Receipt) (s t i : ℕ) (xs : List Step) (d : Step) → i < length xs → i % t ≢ s
    → HasWorked u rs s (dealt s t (take i xs)) → HasWorked u rs s (dealt s t (take (i + 1) xs))
worked-elsewhere u rs s t i xs d lt not w =
    let no : (i % t == s) ≡ false = grind (arith, nat_tests) in
    subst (HasWorked u rs s) (sym (dealt-more s t i xs d false lt no ∙ append-nil (dealt s t (take i xs)))) w
