-- Lists in the order of their serials.
use Rattle.std.proofs.Common.{◌≡◌, ◌≢◌, ℕ, ◌<◌, ◌≤◌, Bool, true, false, cond, List, [], ◌∷◌, ◌++◌, refl, sym, arith, inl, inr}
use Rattle.std.specs.Prelude.{nat_lt}
use Rattle.std.specs.List.{AllByRecursion}
use Rattle.std.proofs.lemmas.Bool.{cases_lt}
use Rattle.std.proofs.lemmas.Bool.Decides.{nat_tests}
use Rattle.persist_buffer.specs.declared.ring.StampedEntry.{StampedEntry}
use Rattle.persist_buffer.specs.Rings.{placed, by_serial, Rising}

abbrev pub Apart : StampedEntry → List StampedEntry → Type 0
Apart e xs = AllByRecursion (λ y. y.serial ≢ e.serial) xs

abbrev pub Below : ℕ → List StampedEntry → Type 0
Below n xs = AllByRecursion (λ y. y.serial < n) xs

pub lt_true : (m n : ℕ) → m < n → nat_lt m n ≡ true
lt_true m n h = grind (arith, nat_tests)

pub lt_false : (m n : ℕ) → n ≤ m → nat_lt m n ≡ false
lt_false m n h = grind (arith, nat_tests)

-- two entries with serials apart may be placed in either order
pub placed_comm : (a e : StampedEntry) (xs : List StampedEntry) → a.serial ≢ e.serial → placed a (placed e xs) ≡ placed e (placed a xs)
placed_comm a e [] ne = elim (cases_lt a.serial e.serial) [
  | inl lt ↦ rw (lt_true a.serial e.serial lt, lt_false e.serial a.serial (omega arith))
  | inr ge ↦ rw (lt_false a.serial e.serial ge, lt_true e.serial a.serial (omega arith))
]
placed_comm a e (x ∷ xs) ne = elim (cases_lt a.serial x.serial) [
  | inl ax ↦ elim (cases_lt e.serial x.serial) [
    | inl ex ↦ elim (cases_lt a.serial e.serial) [
      | inl lt ↦ simp (lt_true a.serial x.serial ax, lt_true e.serial x.serial ex, lt_true a.serial e.serial lt, lt_false e.serial a.serial (omega arith))
      | inr ge ↦ let el : e.serial < a.serial = omega arith in simp (lt_true a.serial x.serial ax, lt_true e.serial x.serial ex, lt_false a.serial e.serial ge, lt_true e.serial a.serial el)
    ]
    | inr ex ↦ let el : a.serial ≤ e.serial = omega arith in simp (lt_true a.serial x.serial ax, lt_false e.serial x.serial ex, lt_false e.serial a.serial el)
  ]
  | inr ax ↦ elim (cases_lt e.serial x.serial) [
    | inl ex ↦ let el : e.serial ≤ a.serial = omega arith in simp (lt_false a.serial x.serial ax, lt_true e.serial x.serial ex, lt_false a.serial e.serial el)
    | inr ex ↦ simp (lt_false a.serial x.serial ax, lt_false e.serial x.serial ex, placed_comm a e xs ne)
  ]
]

-- wherever an entry stands
pub placed_within : (us vs : List StampedEntry) (e : StampedEntry) → Apart e us → by_serial (us ++ e ∷ vs) ≡ placed e (by_serial (us ++ vs))
placed_within [] vs e ap' = refl
placed_within (a ∷ us) vs e ap' = rw (placed_within us vs e ap'.1) (placed_comm a e (by_serial (us ++ vs)) ap'.0)

-- the greatest goes to the end
pub placed_last : (e : StampedEntry) (xs : List StampedEntry) → Below e.serial xs → placed e xs ≡ xs ++ e ∷ []
placed_last e [] h = refl
placed_last e (x ∷ xs) h =
    let le : x.serial ≤ e.serial = omega (arith, h.0) in
    rw (lt_false e.serial x.serial le, placed_last e xs h.1)

pub all_push : (P : StampedEntry → Type 0) (xs : List StampedEntry) (e : StampedEntry) → AllByRecursion P xs → P e → AllByRecursion P (xs ++ e ∷ [])
all_push P [] e a b = (b, tt)
all_push P (x ∷ xs) e a b = (a.0, all_push P xs e a.1 b)

pub rising_push : (xs : List StampedEntry) (e : StampedEntry) → Rising xs → Below e.serial xs → Rising (xs ++ e ∷ [])
rising_push [] e r h = (tt, tt)
rising_push (x ∷ xs) e r h = (all_push (λ y. x.serial < y.serial) xs e r.0 h.0, rising_push xs e r.1 h.1)

-- what holds of all that is placed
all_placed_at : (P : StampedEntry → Type 0) (e x : StampedEntry) (xs : List StampedEntry) (b : Bool) → (AllByRecursion P (placed e xs) → P e × AllByRecursion P xs) → AllByRecursion P (cond b (e ∷ x ∷ xs) (x ∷ placed e xs)) → P e × AllByRecursion P (x ∷ xs)
all_placed_at P e x xs true f k = k
all_placed_at P e x xs false f k = ((f k.1).0, (k.0, (f k.1).1))

pub all_placed : (P : StampedEntry → Type 0) (e : StampedEntry) (xs : List StampedEntry) → AllByRecursion P (placed e xs) → P e × AllByRecursion P xs
all_placed P e [] h = h
all_placed P e (x ∷ xs) h = all_placed_at P e x xs (nat_lt e.serial x.serial) (all_placed P e xs) h

pub all_sorted : (P : StampedEntry → Type 0) (xs : List StampedEntry) → AllByRecursion P (by_serial xs) → AllByRecursion P xs
all_sorted P [] h = tt
all_sorted P (x ∷ xs) h = let m = all_placed P x (by_serial xs) h in (m.0, all_sorted P xs m.1)

pub all_front : (P : StampedEntry → Type 0) (us vs : List StampedEntry) → AllByRecursion P (us ++ vs) → AllByRecursion P us
all_front P [] vs h = tt
all_front P (a ∷ us) vs h = (h.0, all_front P us vs h.1)

pub all_at : (P : StampedEntry → Type 0) (us vs : List StampedEntry) (e : StampedEntry) → AllByRecursion P (us ++ e ∷ vs) → P e
all_at P [] vs e h = h.0
all_at P (a ∷ us) vs e h = all_at P us vs e h.1

pub all_weaker : (P Q : StampedEntry → Type 0) (xs : List StampedEntry) → ((x : StampedEntry) → P x → Q x) → AllByRecursion P xs → AllByRecursion Q xs
all_weaker P Q [] f h = tt
all_weaker P Q (x ∷ xs) f h = (f x h.0, all_weaker P Q xs f h.1)

-- what was placed in a rising list stands apart from the others
rising_placed_at : (e x : StampedEntry) (xs : List StampedEntry) (b : Bool) → (Rising (placed e xs) → Apart e xs × Rising xs) → Rising (cond b (e ∷ x ∷ xs) (x ∷ placed e xs)) → Apart e (x ∷ xs) × Rising (x ∷ xs)
rising_placed_at e x xs true f k = (all_weaker (λ y. e.serial < y.serial) (λ y. y.serial ≢ e.serial) (x ∷ xs) (λ y lt eq. omega arith) k.0, k.1)
rising_placed_at e x xs false f k =
    let a = all_placed (λ y. x.serial < y.serial) e xs k.0 in
    let lt = a.0 in
    ((λ eq. omega arith, (f k.1).0), (a.1, (f k.1).1))

pub rising_placed : (e : StampedEntry) (xs : List StampedEntry) → Rising (placed e xs) → Apart e xs × Rising xs
rising_placed e [] h = (tt, tt)
rising_placed e (x ∷ xs) h = rising_placed_at e x xs (nat_lt e.serial x.serial) (rising_placed e xs) h

-- so do all that stand before one in a list that comes to rise
pub apart_front : (us vs : List StampedEntry) (e : StampedEntry) → Rising (by_serial (us ++ e ∷ vs)) → Apart e us
apart_front [] vs e h = tt
apart_front (a ∷ us) vs e h =
    let m = rising_placed a (by_serial (us ++ e ∷ vs)) h in
    let ne = all_at (λ y. y.serial ≢ a.serial) us vs e (all_sorted (λ y. y.serial ≢ a.serial) (us ++ e ∷ vs) m.0) in
    (λ eq. ne (sym eq), apart_front us vs e m.1)

-- what holds of all holds of them in order
all_to_placed : (P : StampedEntry → Type 0) (e : StampedEntry) (xs : List StampedEntry) → P e → AllByRecursion P xs → AllByRecursion P (placed e xs)
all_to_placed P e [] h k = (h, tt)
all_to_placed P e (x ∷ xs) h k = elim (nat_lt e.serial x.serial) as (λ b. AllByRecursion P (cond b (e ∷ x ∷ xs) (x ∷ placed e xs))) [ true ↦ (h, k) | false ↦ (k.0, all_to_placed P e xs h k.1) ]

pub all_to_sorted : (P : StampedEntry → Type 0) (xs : List StampedEntry) → AllByRecursion P xs → AllByRecursion P (by_serial xs)
all_to_sorted P [] h = tt
all_to_sorted P (x ∷ xs) h = all_to_placed P x (by_serial xs) h.0 (all_to_sorted P xs h.1)
