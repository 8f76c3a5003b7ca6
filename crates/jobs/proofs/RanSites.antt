-- Whether a list of numbers is one of some.
use Rattle.std.proofs.Common.{◌≡◌, ℕ, zero, suc, inl, inr, Bool, true, false, List, [], ◌∷◌, refl, sym, arith, true≢false}
use Rattle.std.proofs.lemmas.Bool.{cases_Bool}
use Rattle.std.specs.Prelude.{◌↔◌, ◌||◌, Contains, IfOk, IsTrue, Result, Ok, Err, bytes_eq}
use Rattle.explore.specs.Findings.{Findings}
use Rattle.explore.specs.Ran.{site}
use Rattle.jobs.specs.CheckReports.{has_run}
use Rattle.std.specs.List.{list_any}
use Rattle.std.specs.Cmp.Lexicographic.{bytes_decides}

later_here : {A : Type 0} (x y : A) (xs : List A) → Contains xs y → Contains (x ∷ xs) y
later_here x y xs (k, less, is) = (suc k, omega (arith, less), is)

any_has : (x : List ℕ) (xs : List (List ℕ)) → list_any (bytes_eq x) xs ≡ true → Contains xs x
any_has x [] any = absurd (true≢false (sym any))
any_has x (y ∷ xs) any =
    elim (cases_Bool (bytes_eq x y)) [
      | inl same ↦ (zero, omega arith, sym ((bytes_decides x y).0 same))
      | inr other ↦ later_here y x xs (any_has x xs (rw other at any))
    ]

or_later : (a b : Bool) → b ≡ true → (a || b) ≡ true
or_later true b is = refl
or_later false b is = is

has_any : (x : List ℕ) (xs : List (List ℕ)) → Contains xs x → list_any (bytes_eq x) xs ≡ true
has_any x [] (k, less, is) = absurd (omega (arith, less))
has_any x (y ∷ xs) (zero, less, is) = let equal : bytes_eq x y ≡ true = (bytes_decides x y).1 (sym is) in rw equal refl
has_any x (y ∷ xs) (suc k, less, is) = or_later (bytes_eq x y) (list_any (bytes_eq x) xs) (has_any x xs (k, omega (arith, less), is))

by_both : (a b : Bool) → (a ≡ true → b ≡ true) → (b ≡ true → a ≡ true) → a ≡ b
by_both true b there back = sym (there refl)
by_both false true there back = back refl
by_both false false there back = refl

pub is_ran : (b : Bool) (x : List ℕ) (xs : List (List ℕ)) → (b ≡ true) ↔ Contains xs x → b ≡ list_any (bytes_eq x) xs
is_ran b x xs exact = by_both b (list_any (bytes_eq x) xs) (λ yes. has_any x xs (exact.0 yes)) (λ any. exact.1 (any_has x xs any))

pub ran_told : {E : Type 0} (found : Findings) (p : ℕ) (recovery : Bool) (place : ℕ) (result : Result Bool E)
    → IfOk result (λ ran. IsTrue ran ↔ Contains found.ran (site p recovery place)) → IfOk result (λ ran. ran ≡ has_run found p recovery place)
ran_told found p recovery place (Ok ran) exact = is_ran ran (site p recovery place) found.ran exact
ran_told found p recovery place (Err e) exact = tt
