-- Laws of the lengths with a checkpoint.
use Rattle.std.proofs.Common.{◌≡◌, ◌≢◌, ℕ, zero, suc, ◌+◌, ◌*◌, ◌-◌, ◌/◌, ◌%◌, ◌<◌, ◌≤◌, Bool, true, false, List, [], ◌∷◌, ◌++◌, length, get_or, drop, refl, sym, ◌∙◌, ap, arith, subst, inl, inr, Option, Some}
use Rattle.std.specs.Prelude.{◌==◌, ◌&&◌, ◌||◌, not, cond, nat_le, nat_lt, slice_get, unwrap_or}
use Rattle.std.specs.List.{All}
use Rattle.std.proofs.lemmas.Bool.{cases_Bool, leb-true, leb-false, le-leb, lt-ltb, ltb-true, ltb-false, eqb-true, eq-eqb, eqb-false}
use Rattle.std.proofs.lemmas.List.{length-drop, get_or-drop}
use Rattle.std.proofs.lemmas.List.Elements.{All-push, All-drop, All-filter, All-cons, All-head, All-tail, All-nil, filter_passes}
use Rattle.std.proofs.lemmas.List.Folds.{list_any_at, list_any-append}
use Rattle.std.proofs.lemmas.List.Quantifiers.{all_pairs_push}
use Rattle.std.proofs.lemmas.List.Kept.{AllPairs-filter}
use Rattle.std.proofs.lemmas.Option.{slice_get_within, get_or_from_slice_get}
use Rattle.circular_buffer.specs.Buffer.{keep_last, last_item}
use Rattle.machine.specs.declared.step.Step.{Step}
use Rattle.debugger.specs.Marks.{mark_room, mark_distance, is_marked, is_due, marked, marks_after, marks_kept, replayed_of, tried}
use Rattle.debugger.specs.MarkLaws.{IsRising, AreMarks, IsGreatest, LastIsGreatest, mark_reach}
use Rattle.debugger.specs.Halts.{made}
use Rattle.debugger.proofs.SmallestIdIsNamed.{if_some}
use Rattle.debugger.specs.declared.halt.Halt.{Halt}
use Rattle.debugger.specs.declared.halt.Halt.TheVariants.{Stop, Refused, NoMemory, End}

abbrev Multiple : ℕ → Type 0
Multiple m = (0 < m) × (m % mark_distance ≡ 0)

rising_tail : (y : ℕ) (ys : List ℕ) → IsRising (y ∷ ys) → IsRising ys
rising_tail y ys up i j d lt within = up (suc i) (suc j) d (omega (arith, lt)) (omega (arith, within))

rising_head : (y z : ℕ) (zs : List ℕ) → IsRising (y ∷ z ∷ zs) → y < z
rising_head y z zs up = up 0 1 0 (omega arith) (omega arith)

rising_dropped : (n : ℕ) (xs : List ℕ) → IsRising xs → IsRising (drop n xs)
rising_dropped n xs up i j d lt within =
    let long : length (drop n xs) ≡ length xs - n = length-drop n xs in
    rw (get_or-drop n xs i d, get_or-drop n xs j d) (up (n + i) (n + j) d (omega (arith, lt)) (omega (arith, long, within)))

-- multiples that rise are at least the distance apart
spaced : (y : ℕ) (ys : List ℕ) (n : ℕ) → IsRising (y ∷ ys) → All Multiple (y ∷ ys) → All (λ m. m ≤ n) (y ∷ ys) → y + 64 * length ys ≤ n
spaced y [] n up each low = let one : y ≤ n = All-head (λ (m : ℕ). m ≤ n) y [] low in omega (arith, one)
spaced y (z ∷ zs) n up each low =
    let rest : z + 64 * length zs ≤ n = spaced z zs n (rising_tail y (z ∷ zs) up) (All-tail Multiple y (z ∷ zs) each) (All-tail (λ (m : ℕ). m ≤ n) y (z ∷ zs) low) in
    let a : y % 64 ≡ 0 = (All-head Multiple y (z ∷ zs) each).1 in
    let b : z % 64 ≡ 0 = (All-head Multiple z zs (All-tail Multiple y (z ∷ zs) each)).1 in
    let lt : y < z = rising_head y z zs up in
    omega (arith, rest, a, b, lt)

-- the last 32 have each that is less than 32 distances below
still_kept : (xs : List ℕ) (n m : ℕ) → IsRising xs → All Multiple xs → All (λ x. x ≤ n) xs → n < m + 2048 → is_marked xs m ≡ true → is_marked (drop (length xs - 32) xs) m ≡ true
still_kept [] n m up each low near has = has
still_kept (x ∷ xs) n m up each low near has =
    elim (cases_Bool (nat_le (length (x ∷ xs)) 32)) [
      | inl le ↦ let few : length (x ∷ xs) ≤ 32 = leb-true (length (x ∷ xs)) 32 le in let none : length (x ∷ xs) - 32 ≡ 0 = omega (arith, few) in subst (λ (k : ℕ). is_marked (drop k (x ∷ xs)) m ≡ true) (sym none) has
      | inr gt ↦
          let many : 32 < length (x ∷ xs) = leb-false (length (x ∷ xs)) 32 gt in
          let more : length (x ∷ xs) - 32 ≡ suc (length xs - 32) = omega (arith, many) in
          subst (λ (k : ℕ). is_marked (drop k (x ∷ xs)) m ≡ true) (sym more)
          (elim (cases_Bool (x == m)) [
            | inl same ↦ let e : x ≡ m = eqb-true x m same in let far : x + 64 * length xs ≤ n = spaced x xs n up each low in absurd (omega (arith, e, far, many, near))
            | inr other ↦ let rest : is_marked xs m ≡ true = rw other at has in
                still_kept xs n m (rising_tail x xs up) (All-tail Multiple x xs each) (All-tail (λ (y : ℕ). y ≤ n) x xs low) near rest
          ])
    ]

all_less : (n : ℕ) (xs : List ℕ) → All (λ x. x ≤ n) xs → is_marked xs n ≡ false → All (λ x. x < n) xs
all_less n [] all off = All-nil (λ (x : ℕ). x < n)
all_less n (x ∷ xs) all off =
    elim (cases_Bool (x == n)) [
      | inl same ↦ let wrong : true ≡ false = rw same at off in absurd (cc)
      | inr other ↦
          let rest : is_marked xs n ≡ false = rw other at off in
          let ne : x ≢ n = eqb-false x n other in
          let le : x ≤ n = All-head (λ (y : ℕ). y ≤ n) x xs all in
          All-cons (λ (y : ℕ). y < n) x xs (omega (arith, ne, le)) (all_less n xs (All-tail (λ (y : ℕ). y ≤ n) x xs all) rest)
    ]

due_parts : (a b x : Bool) → (a && b && not x) ≡ true → (a ≡ true) × (b ≡ true) × (x ≡ false)
due_parts true true false e = (refl, refl, refl)
due_parts true true true e = absurd (cc)
due_parts true false x e = absurd (cc)
due_parts false b x e = absurd (cc)

undue : (a b x : Bool) → a ≡ true → b ≡ true → (a && b && not x) ≡ false → x ≡ true
undue true true true p q e = refl
undue true true false p q e = absurd (cc)
undue true false x p q e = absurd (cc)
undue false b x p q e = absurd (cc)

or_left : (a b : Bool) → a ≡ true → (a || b) ≡ true
or_left true b e = refl
or_left false b e = absurd (cc)

or_right : (a b : Bool) → b ≡ true → (a || b) ≡ true
or_right true b e = refl
or_right false b e = e

one_here : (n : ℕ) → is_marked (n ∷ []) n ≡ true
one_here n = rw (eq-eqb n n refl) refl

module _ (marks : List ℕ) (n top : ℕ) (is : AreMarks marks n top) where
  pushed_marks : is_due marks n ≡ true → AreMarks (keep_last mark_room (marks ++ n ∷ [])) n top
  pushed_marks due =
      let p = due_parts (nat_lt 0 n) (n % mark_distance == 0) (is_marked marks n) due in
      let one : Multiple n = (ltb-true 0 n p.0, eqb-true (n % mark_distance) 0 p.1) in
      let up : IsRising (marks ++ n ∷ []) = all_pairs_push (λ (x y : ℕ). x < y) marks n is.rising (λ k d lt. all_less n marks is.within p.2 k d lt) in
      let each : All Multiple (marks ++ n ∷ []) = All-push Multiple marks n is.multiples one in
      let low : All (λ x. x ≤ n) (marks ++ n ∷ []) = All-push (λ (x : ℕ). x ≤ n) marks n is.within (omega arith) in
      record {
        rising = rising_dropped (length (marks ++ n ∷ []) - mark_room) (marks ++ n ∷ []) up;
        multiples = All-drop Multiple (length (marks ++ n ∷ []) - mark_room) (marks ++ n ∷ []) each;
        within = All-drop (λ (x : ℕ). x ≤ n) (length (marks ++ n ∷ []) - mark_room) (marks ++ n ∷ []) low;
        seen = is.seen;
        recent = λ m pos lt mul near. still_kept (marks ++ n ∷ []) n m up each low (let s = is.seen in omega (arith, s, near))
            (list_any-append (λ (x : ℕ). x == m) marks (n ∷ []) ∙ or_left _ _ (is.recent m pos lt mul near));
      }

  pushed_here : is_due marks n ≡ true → is_marked (keep_last mark_room (marks ++ n ∷ [])) n ≡ true
  pushed_here due =
      let p = due_parts (nat_lt 0 n) (n % mark_distance == 0) (is_marked marks n) due in
      let one : Multiple n = (ltb-true 0 n p.0, eqb-true (n % mark_distance) 0 p.1) in
      still_kept (marks ++ n ∷ []) n n (all_pairs_push (λ (x y : ℕ). x < y) marks n is.rising (λ k d lt. all_less n marks is.within p.2 k d lt))
      (All-push Multiple marks n is.multiples one) (All-push (λ (x : ℕ). x ≤ n) marks n is.within (omega arith)) (omega arith)
      (list_any-append (λ (x : ℕ). x == n) marks (n ∷ []) ∙ or_right (is_marked marks n) _ (one_here n))

  either_marks : (b : Bool) → is_due marks n ≡ b → AreMarks (cond b (keep_last mark_room (marks ++ n ∷ [])) marks) n top
  either_marks true due = pushed_marks due
  either_marks false due = is

  -- a step is tried at the length
  tried_marks : AreMarks (marked marks n) n top
  tried_marks = either_marks (is_due marks n) refl

  either_here : (b : Bool) → is_due marks n ≡ b → 0 < n → n % mark_distance ≡ 0 → is_marked (cond b (keep_last mark_room (marks ++ n ∷ [])) marks) n ≡ true
  either_here true due pos mul = pushed_here due
  either_here false due pos mul = undue (nat_lt 0 n) (n % mark_distance == 0) (is_marked marks n) (lt-ltb 0 n pos) (eq-eqb (n % mark_distance) 0 mul) due

  -- and is made
  made_marks : (reached : ℕ) → top ≤ reached → n + 1 ≤ reached → AreMarks (marked marks n) (n + 1) reached
  made_marks reached le in_reach = record {
    rising = tried_marks.rising;
    multiples = tried_marks.multiples;
    within = λ i d lt. let w : get_or (marked marks n) i d ≤ n = tried_marks.within i d lt in omega (arith, w);
    seen = in_reach;
    recent = λ m pos lt mul near.
        elim (cases_Bool (n == m)) [
          | inl same ↦ subst (λ (k : ℕ). is_marked (marked marks n) k ≡ true) (eqb-true n m same) (either_here (is_due marks n) refl (let e : n ≡ m = eqb-true n m same in omega (arith, e, pos)) (subst (λ (k : ℕ). k % mark_distance ≡ 0) (sym (eqb-true n m same)) mul))
          | inr other ↦ let ne : n ≢ m = eqb-false n m other in tried_marks.recent m pos (omega (arith, ne, lt)) mul (omega (arith, le, near))
        ];
  }

raised : (marks : List ℕ) (n top reached : ℕ) → AreMarks marks n top → top ≤ reached → AreMarks marks n reached
raised marks n top reached is le = record {
  rising = is.rising;
  multiples = is.multiples;
  within = is.within;
  seen = let s = is.seen in omega (arith, s, le);
  recent = λ m pos lt mul near. is.recent m pos lt mul (omega (arith, le, near));
}

marks_on : (marks : List ℕ) (n top reached k : ℕ) → AreMarks marks n top → top ≤ reached → n + k ≤ reached → AreMarks (marks_after marks n k) (n + k) reached
marks_on marks n top reached zero is le in_reach = let e : n ≡ n + 0 = omega arith in subst (λ (j : ℕ). AreMarks marks j reached) e (raised marks n top reached is le)
marks_on marks n top reached (suc k) is le in_reach =
    let e : n + k + 1 ≡ n + suc k = omega arith in
    subst (λ (j : ℕ). AreMarks (marked (marks_after marks n k) (n + k)) j reached) e
    (made_marks (marks_after marks n k) (n + k) reached (marks_on marks n top reached k is le (omega (arith, in_reach))) reached (omega arith) (omega (arith, in_reach)))

pub marks_gone : (marks : List ℕ) (n top reached : ℕ) (steps : List Step) (halt : Halt) → AreMarks marks n top → top ≤ reached → n + made steps halt ≤ reached → AreMarks (marks_after marks n (tried steps halt)) (n + made steps halt) reached
marks_gone marks n top reached steps (Stop id k) is le in_reach = marks_on marks n top reached k is le in_reach
marks_gone marks n top reached steps (Refused k refusal) is le in_reach =
    let e : suc k ≡ k + 1 = omega arith in
    subst (λ (j : ℕ). AreMarks (marks_after marks n j) (n + k) reached) e
    (tried_marks (marks_after marks n k) (n + k) reached (marks_on marks n top reached k is le in_reach))
marks_gone marks n top reached steps (NoMemory k) is le in_reach = marks_on marks n top reached k is le in_reach
marks_gone marks n top reached steps End is le in_reach = marks_on marks n top reached (length steps) is le in_reach

-- going back
still_marked : (marks : List ℕ) (aim m : ℕ) → m ≤ aim → is_marked marks m ≡ true → is_marked (marks_kept marks aim) m ≡ true
still_marked [] aim m le has = has
still_marked (x ∷ xs) aim m le has =
    elim (cases_Bool (x == m)) [
      | inl same ↦
          let e : x ≡ m = eqb-true x m same in
          let in_aim : nat_le x aim ≡ true = le-leb x aim (omega (arith, e, le)) in
          rw in_aim (rw same refl)
      | inr other ↦
          let rest : is_marked xs m ≡ true = rw other at has in
          elim (cases_Bool (nat_le x aim)) [
            | inl in_aim ↦ rw in_aim (rw other (still_marked xs aim m le rest))
            | inr off ↦ rw off (still_marked xs aim m le rest)
          ]
    ]

was_marked : (marks : List ℕ) (aim m : ℕ) → is_marked (marks_kept marks aim) m ≡ true → is_marked marks m ≡ true
was_marked [] aim m has = has
was_marked (x ∷ xs) aim m has =
    elim (cases_Bool (x == m)) [
      | inl same ↦ rw same refl
      | inr other ↦
          elim (cases_Bool (nat_le x aim)) [
            | inl in_aim ↦ let rest : is_marked (marks_kept xs aim) m ≡ true = rw (in_aim, other) at has in rw other (was_marked xs aim m rest)
            | inr off ↦ let rest : is_marked (marks_kept xs aim) m ≡ true = rw off at has in rw other (was_marked xs aim m rest)
          ]
    ]

rising_kept : (marks : List ℕ) (aim : ℕ) → IsRising marks → IsRising (marks_kept marks aim)
rising_kept marks aim up = AllPairs-filter (λ (x y : ℕ). x < y) (λ (m : ℕ). nat_le m aim) marks up

all_within : (marks : List ℕ) (aim : ℕ) → All (λ m. m ≤ aim) (marks_kept marks aim)
all_within marks aim i d lt = leb-true _ _ (filter_passes (λ (m : ℕ). nat_le m aim) marks i d lt)

pub marks_back : (marks : List ℕ) (n top aim : ℕ) → AreMarks marks n top → aim ≤ n → AreMarks (marks_kept marks aim) aim top
marks_back marks n top aim is le = record {
  rising = rising_kept marks aim is.rising;
  multiples = All-filter (λ (m : ℕ). nat_le m aim) Multiple marks is.multiples;
  within = all_within marks aim;
  seen = let s = is.seen in omega (arith, s, le);
  recent = λ m pos lt mul near. still_marked marks aim m (omega (arith, lt)) (is.recent m pos (omega (arith, lt, le)) mul near);
}

pub no_marks : AreMarks [] 0 0
no_marks = record {
  rising = λ i j d lt within. absurd (omega (arith, within));
  multiples = All-nil Multiple;
  within = All-nil (λ (m : ℕ). m ≤ 0);
  seen = omega arith;
  recent = λ m pos lt mul near. absurd (omega (arith, lt));
}

-- the last
same_last : (x y : ℕ) (ys : List ℕ) → last_item (x ∷ y ∷ ys) ≡ last_item (y ∷ ys)
same_last x y ys =
    let a : length (x ∷ y ∷ ys) - 1 ≡ suc (length ys) = omega arith in
    let b : length (y ∷ ys) - 1 ≡ length ys = omega arith in
    ap (λ (k : ℕ). slice_get (x ∷ y ∷ ys) k) a ∙ sym (ap (λ (k : ℕ). slice_get (y ∷ ys) k) b)

low_last : (xs : List ℕ) (m : ℕ) → IsRising xs → is_marked xs m ≡ true → m ≤ unwrap_or (last_item xs) 0
low_last [] m up has = absurd (cc)
low_last (x ∷ []) m up has =
    elim (cases_Bool (x == m)) [
      | inl same ↦ let e : x ≡ m = eqb-true x m same in omega (arith, e)
      | inr other ↦ let wrong : false ≡ true = rw other at has in absurd (cc)
    ]
low_last (x ∷ y ∷ ys) m up has =
    elim (cases_Bool (x == m)) [
      | inl same ↦
          let e : x ≡ m = eqb-true x m same in
          let lt : x < y = rising_head x y ys up in
          let next : y ≤ unwrap_or (last_item (y ∷ ys)) 0 = low_last (y ∷ ys) y (rising_tail x (y ∷ ys) up) (rw (eq-eqb y y refl) refl) in
          let last : unwrap_or (last_item (x ∷ y ∷ ys)) 0 ≡ unwrap_or (last_item (y ∷ ys)) 0 = ap (λ (o : Option ℕ). unwrap_or o 0) (same_last x y ys) in
          omega (arith, e, lt, next, last)
      | inr other ↦ let rest : is_marked (y ∷ ys) m ≡ true = rw other at has in
          subst (λ (o : Option ℕ). m ≤ unwrap_or o 0) (sym (same_last x y ys)) (low_last (y ∷ ys) m (rising_tail x (y ∷ ys) up) rest)
    ]

last_marked : (xs : List ℕ) (m : ℕ) → last_item xs ≡ Some m → is_marked xs m ≡ true
last_marked xs m is = list_any_at (λ (x : ℕ). x == m) xs (length xs - 1) m (slice_get_within xs (length xs - 1) m is) (eq-eqb _ m (get_or_from_slice_get xs (length xs - 1) m m is))

last_within : (marks : List ℕ) (aim m : ℕ) → last_item (marks_kept marks aim) ≡ Some m → m ≤ aim
last_within marks aim m is = subst (λ (x : ℕ). x ≤ aim) (get_or_from_slice_get (marks_kept marks aim) (length (marks_kept marks aim) - 1) m m is) (all_within marks aim (length (marks_kept marks aim) - 1) m (slice_get_within (marks_kept marks aim) (length (marks_kept marks aim) - 1) m is))

greatest_of : (marks : List ℕ) (n top aim m : ℕ) → AreMarks marks n top → last_item (marks_kept marks aim) ≡ Some m → IsGreatest marks aim m
greatest_of marks n top aim m is last = record {
  marked = was_marked marks aim m (last_marked (marks_kept marks aim) m last);
  within = last_within marks aim m last;
  greatest = λ x has le. subst (λ (o : Option ℕ). x ≤ unwrap_or o 0) last (low_last (marks_kept marks aim) x (rising_kept marks aim is.rising) (still_marked marks aim x le has));
}

pub last_greatest : (marks : List ℕ) (n top aim : ℕ) → AreMarks marks n top → LastIsGreatest marks aim
last_greatest marks n top aim is = if_some (last_item (marks_kept marks aim)) _ (λ m. greatest_of marks n top aim m is)

pub short_back : (marks : List ℕ) (n top aim : ℕ) → AreMarks marks n top → aim < n → top ≤ aim + mark_reach → replayed_of marks aim < mark_distance
short_back marks n top aim is lt near =
    elim (cases_Bool (nat_lt 0 (64 * (aim / 64)))) [
      | inl some ↦
          let pos : 0 < 64 * (aim / 64) = ltb-true 0 (64 * (aim / 64)) some in
          let has : is_marked marks (64 * (aim / 64)) ≡ true = is.recent (64 * (aim / 64)) pos (omega (arith, lt)) (omega arith) (omega (arith, near)) in
          let last : 64 * (aim / 64) ≤ unwrap_or (last_item (marks_kept marks aim)) 0 = low_last (marks_kept marks aim) (64 * (aim / 64)) (rising_kept marks aim is.rising) (still_marked marks aim (64 * (aim / 64)) (omega arith) has) in
          omega (arith, last)
      | inr none ↦ let low : 64 * (aim / 64) ≤ 0 = ltb-false 0 (64 * (aim / 64)) none in omega (arith, low)
    ]

pub short_here : (marks : List ℕ) (n top : ℕ) → AreMarks marks n top → top < n + mark_reach → replayed_of marks n ≤ mark_distance
short_here marks n top is near =
    elim (cases_Bool (nat_lt 64 n)) [
      | inl some ↦
          let far : 64 < n = ltb-true 64 n some in
          let has : is_marked marks (64 * ((n - 1) / 64)) ≡ true = is.recent (64 * ((n - 1) / 64)) (omega (arith, far)) (omega (arith, far)) (omega arith) (omega (arith, near, far)) in
          let last : 64 * ((n - 1) / 64) ≤ unwrap_or (last_item (marks_kept marks n)) 0 = low_last (marks_kept marks n) (64 * ((n - 1) / 64)) (rising_kept marks n is.rising) (still_marked marks n (64 * ((n - 1) / 64)) (omega (arith, far)) has) in
          omega (arith, last)
      | inr none ↦ let low : n ≤ 64 = ltb-false 64 n none in omega (arith, low)
    ]
