-- Each enabled step comes before those behind it.
use Rattle.std.proofs.Common.{◌≡◌, ℕ, zero, suc, ◌+◌, ◌<◌, ◌≤◌, Bool, true, false, List, [], ◌∷◌, ◌++◌, length, map, filter, AllPairs, slice_index_or, refl, arith, inl, inr}
use Rattle.std.specs.Prelude.{if◌then◌else◌}
use Rattle.std.specs.List.{AllByRecursion, range_with_len}
use Rattle.machine.specs.declared.step.Step.{Step}
use Rattle.machine.specs.declared.step.Step.TheVariants.{Exec, Drain, Persist, Settle, Crash}
use Rattle.machine.specs.State.{Processor, State}
use Rattle.machine.specs.Accepted.{accepts}
use Rattle.schedule.specs.Enabled.{execs, drains_of, drains_from, persists, possible_steps, enabled_of, ComesBefore}

-- each comes before all behind it
abbrev IsOrdered : List Step → Type 0
IsOrdered [] = Unit {0}
IsOrdered (x ∷ xs) = AllByRecursion (ComesBefore x) xs × IsOrdered xs

-- ---- lists

all_append : (P : Step → Type 0) (xs ys : List Step) → AllByRecursion P xs → AllByRecursion P ys → AllByRecursion P (xs ++ ys)
all_append P [] ys one two = two
all_append P (x ∷ xs) ys (h, one) two = (h, all_append P xs ys one two)

all_with : (P Q : Step → Type 0) (xs : List Step) → ((x : Step) → P x → Q x) → AllByRecursion P xs → AllByRecursion Q xs
all_with P Q [] h all = tt
all_with P Q (x ∷ xs) h (here, all) = (h x here, all_with P Q xs h all)

all_filter : (P : Step → Type 0) (p : Step → Bool) (xs : List Step) → AllByRecursion P xs → AllByRecursion P (filter p xs)
all_filter P p [] all = tt
all_filter P p (x ∷ xs) (here, all) = by (p x) (all_filter P p xs all)
  where
    by : (b : Bool) → AllByRecursion P (filter p xs) → AllByRecursion P (if b then x ∷ filter p xs else filter p xs)
    by true rest = (here, rest)
    by false rest = rest

filter_ordered : (p : Step → Bool) (xs : List Step) → IsOrdered xs → IsOrdered (filter p xs)
filter_ordered p [] o = tt
filter_ordered p (x ∷ xs) (first, o) = by (p x) (filter_ordered p xs o)
  where
    by : (b : Bool) → IsOrdered (filter p xs) → IsOrdered (if b then x ∷ filter p xs else filter p xs)
    by true rest = (all_filter (ComesBefore x) p xs first, rest)
    by false rest = rest

-- ordered parts, of which all steps of the first come before all of the second
append_ordered : (P Q : Step → Type 0) (xs ys : List Step) → ((x y : Step) → P x → Q y → ComesBefore x y) → AllByRecursion P xs → AllByRecursion Q ys
    → IsOrdered xs → IsOrdered ys → IsOrdered (xs ++ ys)
append_ordered P Q [] ys h all others one two = two
append_ordered P Q (x ∷ xs) ys h (here, all) others (first, one) two =
    (all_append (ComesBefore x) xs ys first (all_with Q (ComesBefore x) ys (λ y. h x y here) others), append_ordered P Q xs ys h all others one two)

-- ---- the parts

-- numbered steps, where the lower number comes first
numbered_all : (P : Step → Type 0) (f : ℕ → Step) (a n : ℕ) → ((k : ℕ) → a ≤ k → P (f k)) → AllByRecursion P (map f (range_with_len a n))
numbered_all P f a zero h = tt
numbered_all P f a (suc n) h = (h a (omega arith), numbered_all P f (a + 1) n (λ k more. h k (omega (arith, more))))

numbered_ordered : (f : ℕ → Step) → ((j k : ℕ) → j < k → ComesBefore (f j) (f k)) → (a n : ℕ) → IsOrdered (map f (range_with_len a n))
numbered_ordered f h a zero = tt
numbered_ordered f h a (suc n) = (numbered_all (ComesBefore (f a)) f (a + 1) n (λ k more. h a k (omega (arith, more))), numbered_ordered f h (a + 1) n)

-- a Drain of a processor from this number on
abbrev IsDrainFrom : ℕ → Step → Type 0
IsDrainFrom p (Drain q i) = p ≤ q
IsDrainFrom p _ = ⊥

-- a Drain of this processor
abbrev IsDrainOf : ℕ → Step → Type 0
IsDrainOf p (Drain q i) = q ≡ p
IsDrainOf p _ = ⊥

lower_processor : (p : ℕ) (x y : Step) → IsDrainOf p x → IsDrainFrom (p + 1) y → ComesBefore x y
lower_processor p (Drain q i) (Drain r j) same more = inl (omega (arith, same, more))
lower_processor p (Drain q i) (Exec r) same more = absurd more
lower_processor p (Drain q i) (Persist g) same more = absurd more
lower_processor p (Drain q i) Settle same more = absurd more
lower_processor p (Drain q i) Crash same more = absurd more
lower_processor p (Exec q) y same more = absurd same
lower_processor p (Persist g) y same more = absurd same
lower_processor p Settle y same more = absurd same
lower_processor p Crash y same more = absurd same

drain_further : (p : ℕ) (x : Step) → IsDrainFrom (p + 1) x → IsDrainFrom p x
drain_further p (Drain q i) more = omega (arith, more)
drain_further p (Exec q) more = absurd more
drain_further p (Persist g) more = absurd more
drain_further p Settle more = absurd more
drain_further p Crash more = absurd more

drains_all : (p : ℕ) (cs : List Processor) → AllByRecursion (IsDrainFrom p) (drains_from p cs)
drains_all p [] = tt
drains_all p (c ∷ cs) =
    all_append (IsDrainFrom p) (drains_of p c) (drains_from (p + 1) cs) (numbered_all (IsDrainFrom p) (Drain p) 0 (length c.buffer) (λ k low. omega arith))
    (all_with (IsDrainFrom (p + 1)) (IsDrainFrom p) (drains_from (p + 1) cs) (drain_further p) (drains_all (p + 1) cs))

drains_ordered : (p : ℕ) (cs : List Processor) → IsOrdered (drains_from p cs)
drains_ordered p [] = tt
drains_ordered p (c ∷ cs) =
    append_ordered (IsDrainOf p) (IsDrainFrom (p + 1)) (drains_of p c) (drains_from (p + 1) cs) (lower_processor p)
    (numbered_all (IsDrainOf p) (Drain p) 0 (length c.buffer) (λ k low. refl)) (drains_all (p + 1) cs)
    (numbered_ordered (Drain p) (λ j k less. inr (refl, less)) 0 (length c.buffer)) (drains_ordered (p + 1) cs)

-- ---- kinds

-- the place of a step's kind
abbrev kind : Step → ℕ
kind (Exec p) = 0
kind (Drain p i) = 1
kind (Persist g) = 2
kind Settle = 3
kind Crash = 4

lower : (x y : Step) → kind x < kind y → ComesBefore x y
lower (Exec p) (Exec q) less = absurd (omega (arith, less))
lower (Exec p) (Drain q j) less = tt
lower (Exec p) (Persist h) less = tt
lower (Exec p) Settle less = tt
lower (Exec p) Crash less = tt
lower (Drain p i) (Exec q) less = absurd (omega (arith, less))
lower (Drain p i) (Drain q j) less = absurd (omega (arith, less))
lower (Drain p i) (Persist h) less = tt
lower (Drain p i) Settle less = tt
lower (Drain p i) Crash less = tt
lower (Persist g) (Exec q) less = absurd (omega (arith, less))
lower (Persist g) (Drain q j) less = absurd (omega (arith, less))
lower (Persist g) (Persist h) less = absurd (omega (arith, less))
lower (Persist g) Settle less = tt
lower (Persist g) Crash less = tt
lower Settle (Exec q) less = absurd (omega (arith, less))
lower Settle (Drain q j) less = absurd (omega (arith, less))
lower Settle (Persist h) less = absurd (omega (arith, less))
lower Settle Settle less = absurd (omega (arith, less))
lower Settle Crash less = tt
lower Crash (Exec q) less = absurd (omega (arith, less))
lower Crash (Drain q j) less = absurd (omega (arith, less))
lower Crash (Persist h) less = absurd (omega (arith, less))
lower Crash Settle less = absurd (omega (arith, less))
lower Crash Crash less = absurd (omega (arith, less))

-- steps of one kind behind steps of lower kinds
kinds_ordered : (n : ℕ) (xs ys : List Step) → AllByRecursion (λ x. kind x < n) xs → AllByRecursion (λ y. kind y ≡ n) ys → IsOrdered xs → IsOrdered ys
    → IsOrdered (xs ++ ys)
kinds_ordered n xs ys before behind one two =
    append_ordered (λ x. kind x < n) (λ y. kind y ≡ n) xs ys (λ x y less same. lower x y (omega (arith, less, same))) before behind one two

-- steps below the next kind
kinds_below : (n : ℕ) (xs ys : List Step) → AllByRecursion (λ x. kind x < n) xs → AllByRecursion (λ y. kind y ≡ n) ys → AllByRecursion (λ x. kind x < suc n) (xs ++ ys)
kinds_below n xs ys before behind =
    all_append (λ x. kind x < suc n) xs ys
    (all_with (λ x. kind x < n) (λ x. kind x < suc n) xs (λ x less. omega (arith, less)) before)
    (all_with (λ x. kind x ≡ n) (λ x. kind x < suc n) ys (λ x same. omega (arith, same)) behind)

drain_kind : (x : Step) → IsDrainFrom 0 x → kind x ≡ 1
drain_kind (Drain p i) h = refl
drain_kind (Exec p) h = absurd h
drain_kind (Persist g) h = absurd h
drain_kind Settle h = absurd h
drain_kind Crash h = absurd h

possible_steps_ordered : (s : State) → IsOrdered (possible_steps s)
possible_steps_ordered s =
    let one = execs s in let two = drains_from 0 s.processors in let three = persists s in
    let execs_all = numbered_all (λ x. kind x < 1) Exec 0 (length s.processors) (λ k low. omega arith) in
    let drains_are = all_with (IsDrainFrom 0) (λ x. kind x ≡ 1) two drain_kind (drains_all 0 s.processors) in
    let persists_all = numbered_all (λ x. kind x ≡ 2) Persist 0 (length s.shape) (λ k low. refl) in
    let below_two = kinds_below 1 one two execs_all drains_are in
    kinds_ordered 3 ((one ++ two) ++ three) (Settle ∷ []) (kinds_below 2 (one ++ two) three below_two persists_all) (refl, tt)
    (kinds_ordered 2 (one ++ two) three below_two persists_all
    (kinds_ordered 1 one two execs_all drains_are (numbered_ordered Exec (λ j k less. less) 0 (length s.processors)) (drains_ordered 0 s.processors))
    (numbered_ordered Persist (λ j k less. less) 0 (length s.shape)))
    (tt, tt)

-- ---- by places

all_at_place : (P : Step → Type 0) (xs : List Step) (j : ℕ) (d : Step) → AllByRecursion P xs → j < length xs → P (slice_index_or xs j d)
all_at_place P [] j d all low = absurd (omega (arith, low))
all_at_place P (x ∷ xs) zero d (here, all) low = here
all_at_place P (x ∷ xs) (suc j) d (here, all) low = all_at_place P xs j d all (omega (arith, low))

by_places : (xs : List Step) → IsOrdered xs → AllPairs ComesBefore xs
by_places [] o i j d less low = absurd (omega (arith, low))
by_places (x ∷ xs) (first, o) i zero d less low = absurd (omega (arith, less))
by_places (x ∷ xs) (first, o) zero (suc j) d less low = all_at_place (ComesBefore x) xs j d first (omega (arith, low))
by_places (x ∷ xs) (first, o) (suc i) (suc j) d less low = by_places xs o i j d (omega (arith, less)) (omega (arith, low))

pub enabled_ordered : (s : State) → AllPairs ComesBefore (enabled_of s)
enabled_ordered s = by_places (enabled_of s) (filter_ordered (accepts s) (possible_steps s) (possible_steps_ordered s))
