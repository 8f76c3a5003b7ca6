-- One more item in a tally.
use Rattle.std.proofs.Common.{◌≡◌, ℕ, ◌+◌, ◌≤◌, Bool, true, false, cond, not, ◌||◌, List, [], ◌∷◌, ◌++◌, map, length, Some, None, refl, sym, ap, ap₂, subst, ◌∙◌, true≢false, arith}
use Rattle.std.specs.Prelude.{count_by, unwrap_or}
use Rattle.std.specs.List.{AllByRecursion, filter, list_any}
use Rattle.std.specs.Map.{lookup}
use Rattle.std.proofs.lemmas.List.{append-nil}
use Rattle.std.proofs.lemmas.List.Elements.{filter-append}
use Rattle.std.proofs.lemmas.List.Sums.{sum_by-append, sum_by-cons, count_by-le-length}
use Rattle.indexmap.specs.IndexMap.{insert_entry}
use Rattle.hunt.specs.Tallies.{distinct, tally_of}

module _ {A : Type 0} (P : A → Type 0) (p : A → Bool) where
  pub all_filter : (xs : List A) → AllByRecursion P xs → AllByRecursion P (filter p xs)
  all_filter [] h = tt
  all_filter (x ∷ xs) h = by (p x) (all_filter xs h.1)
    where
      by : (b : Bool) → AllByRecursion P (filter p xs) → AllByRecursion P (cond b (x ∷ filter p xs) (filter p xs))
      by true rest = (h.0, rest)
      by false rest = rest

module _ {A : Type 0} (p : A → Bool) where
  -- what passes a test passes it
  pub all_pass : (xs : List A) → AllByRecursion (λ x. p x ≡ true) (filter p xs)
  all_pass [] = tt
  all_pass (x ∷ xs) = by (p x) refl (all_pass xs)
    where
      by : (b : Bool) → p x ≡ b → AllByRecursion (λ y. p y ≡ true) (filter p xs) → AllByRecursion (λ y. p y ≡ true) (cond b (x ∷ filter p xs) (filter p xs))
      by true e rest = (e, rest)
      by false e rest = rest

  pub count_none : (xs : List A) → list_any p xs ≡ false → count_by p xs ≡ 0
  count_none [] h = refl
  count_none (x ∷ xs) h = by (p x) refl (count_none xs)
    where
      by : (b : Bool) → p x ≡ b → (list_any p xs ≡ false → count_by p xs ≡ 0) → count_by p (x ∷ xs) ≡ 0
      by true e rest = absurd (true≢false (sym (ap (λ b. b || list_any p xs) e) ∙ h))
      by false e rest = sum_by-cons (λ y. cond (p y) 1 0) x xs ∙ ap₂ (λ b n. cond b 1 0 + n) e (rest (sym (ap (λ b. b || list_any p xs) e) ∙ h))

  count_more : (xs : List A) (y : A) → count_by p (xs ++ y ∷ []) ≡ count_by p xs + cond (p y) 1 0
  count_more xs y =
      let one : 0 + cond (p y) 1 0 ≡ cond (p y) 1 0 = omega arith in
      sum_by-append (λ x. cond (p x) 1 0) xs (y ∷ []) ∙ ap (λ n. count_by p xs + n) one

not_true : (b : Bool) → not b ≡ true → b ≡ false
not_true true e = sym e
not_true false e = refl

module _ {A : Type 0} (same : A → A → Bool) (sound : (x y : A) → same x y ≡ true → x ≡ y) (own : (x : A) → same x x ≡ true) where
  pub flip : (x y : A) → same x y ≡ same y x
  flip x y = by (same x y) (same y x) refl refl
    where
      by : (b c : Bool) → same x y ≡ b → same y x ≡ c → same x y ≡ same y x
      by true c e f = subst (λ z. same x z ≡ same z x) (sound x y e) refl
      by false true e f = subst (λ z. same x z ≡ same z x) (sym (sound y x f)) refl
      by false false e f = e ∙ sym f

  -- other items than x
  pub apart_filter : (x : A) (xs : List A) → AllByRecursion (λ y. same x y ≡ false) (filter (λ y. not (same x y)) xs)
  apart_filter x xs = by (filter (λ y. not (same x y)) xs) (all_pass (λ y. not (same x y)) xs)
    where
      by : (ys : List A) → AllByRecursion (λ y. not (same x y) ≡ true) ys → AllByRecursion (λ y. same x y ≡ false) ys
      by [] h = tt
      by (y ∷ ys) h = (not_true (same x y) h.0, by ys h.1)

  -- no two items are the same
  abbrev pub Apart : List A → Type 0
  Apart [] = Unit {0}
  Apart (x ∷ xs) = AllByRecursion (λ y. same x y ≡ false) xs × Apart xs

  distinct_filter : (p : A → Bool) (xs : List A) → Apart xs → Apart (filter p xs)
  distinct_filter p [] h = tt
  distinct_filter p (x ∷ xs) h = by (p x) (distinct_filter p xs h.1)
    where
      by : (b : Bool) → Apart (filter p xs) → Apart (cond b (x ∷ filter p xs) (filter p xs))
      by true rest = (all_filter (λ y. same x y ≡ false) p xs h.0, rest)
      by false rest = rest

  pub distinct_apart : (xs : List A) → Apart (distinct same xs)
  distinct_apart [] = tt
  distinct_apart (x ∷ xs) = (apart_filter x (distinct same xs), distinct_filter (λ y. not (same x y)) (distinct same xs) (distinct_apart xs))

  any_filter : (x y : A) → same y x ≡ false → (xs : List A) → list_any (same y) (filter (λ z. not (same x z)) xs) ≡ list_any (same y) xs
  any_filter x y other [] = refl
  any_filter x y other (z ∷ zs) = by (same x z) refl (any_filter x y other zs)
    where
      rest : List A
      rest = filter (λ z. not (same x z)) zs

      by : (b : Bool) → same x z ≡ b → list_any (same y) rest ≡ list_any (same y) zs → list_any (same y) (cond (not (same x z)) (z ∷ rest) rest) ≡ (same y z || list_any (same y) zs)
      by true e more =
          let gone : same y z ≡ false = ap (same y) (sym (sound x z e)) ∙ other in
          ap (λ b. list_any (same y) (cond (not b) (z ∷ rest) rest)) e ∙ more ∙ sym (ap (λ b. b || list_any (same y) zs) gone)
      by false e more = ap (λ b. list_any (same y) (cond (not b) (z ∷ rest) rest)) e ∙ ap (λ b. same y z || b) more

  -- an item is among the different ones exactly where it comes
  pub any_distinct : (y : A) (xs : List A) → list_any (same y) (distinct same xs) ≡ list_any (same y) xs
  any_distinct y [] = refl
  any_distinct y (x ∷ xs) = by (same y x) refl (any_distinct y xs)
    where
      rest : List A
      rest = filter (λ z. not (same x z)) (distinct same xs)

      by : (b : Bool) → same y x ≡ b → list_any (same y) (distinct same xs) ≡ list_any (same y) xs → (same y x || list_any (same y) rest) ≡ (same y x || list_any (same y) xs)
      by true e more = ap (λ b. b || list_any (same y) rest) e ∙ sym (ap (λ b. b || list_any (same y) xs) e)
      by false e more =
          ap (λ b. b || list_any (same y) rest) e ∙ (any_filter x y e (distinct same xs) ∙ more) ∙ sym (ap (λ b. b || list_any (same y) xs) e)

  -- one more item goes last, unless it came before
  distinct_more : (y : A) (xs : List A) → distinct same (xs ++ y ∷ []) ≡ cond (list_any (same y) xs) (distinct same xs) (distinct same xs ++ y ∷ [])
  distinct_more y [] = refl
  distinct_more y (x ∷ xs) =
      ap (λ ds. x ∷ filter p ds) (distinct_more y xs) ∙ by (same y x) (list_any (same y) xs) refl
    where
      p : A → Bool
      p z = not (same x z)

      ds : List A
      ds = distinct same xs

      by : (b c : Bool) → same y x ≡ b → x ∷ filter p (cond c ds (ds ++ y ∷ [])) ≡ cond (same y x || c) (x ∷ filter p ds) ((x ∷ filter p ds) ++ y ∷ [])
      by true true e = ap (λ b. cond (b || true) (x ∷ filter p ds) ((x ∷ filter p ds) ++ y ∷ [])) (sym e)
      by false true e = ap (λ b. cond (b || true) (x ∷ filter p ds) ((x ∷ filter p ds) ++ y ∷ [])) (sym e)
      by true false e =
          ap (λ l. x ∷ l) (filter-append p ds (y ∷ []) ∙ ap (λ b. filter p ds ++ cond (not b) (y ∷ []) []) (flip x y ∙ e) ∙ append-nil (filter p ds))
          ∙ ap (λ b. cond (b || false) (x ∷ filter p ds) ((x ∷ filter p ds) ++ y ∷ [])) (sym e)
      by false false e =
          ap (λ l. x ∷ l) (filter-append p ds (y ∷ []) ∙ ap (λ b. filter p ds ++ cond (not b) (y ∷ []) []) (flip x y ∙ e))
          ∙ ap (λ b. cond (b || false) (x ∷ filter p ds) ((x ∷ filter p ds) ++ y ∷ [])) (sym e)

  -- items with their counts
  abbrev pub entries : (A → ℕ) → List A → List (A × ℕ)
  entries count xs = map (λ x. (x, count x)) xs

  -- the count of one item is n
  abbrev pub with_count : (A → ℕ) → A → ℕ → A → ℕ
  with_count count y n x = cond (same y x) n (count x)

  others_stay : (count : A → ℕ) (y : A) (n : ℕ) (xs : List A) → AllByRecursion (λ x. same y x ≡ false) xs → entries count xs ≡ entries (with_count count y n) xs
  others_stay count y n [] h = refl
  others_stay count y n (x ∷ xs) h = ap₂ (λ (k : ℕ) (l : List (A × ℕ)). (x, k) ∷ l) (sym (ap (λ b. cond b n (count x)) h.0)) (others_stay count y n xs h.1)

  inserted : (count : A → ℕ) (y : A) (n : ℕ) (xs : List A) → Apart xs
      → insert_entry same (entries count xs) y n ≡ entries (with_count count y n) (cond (list_any (same y) xs) xs (xs ++ y ∷ []))
  inserted count y n [] h = ap (λ b. (y, cond b n (count y)) ∷ []) (sym (own y))
  inserted count y n (x ∷ xs) h = by (same y x) (list_any (same y) xs) refl (inserted count y n xs h.1)
    where
      to : List (A × ℕ)
      to = insert_entry same (entries count xs) y n

      by : (b c : Bool) → same y x ≡ b → to ≡ entries (with_count count y n) (cond c xs (xs ++ y ∷ []))
          → cond (same y x) ((x, n) ∷ entries count xs) ((x, count x) ∷ to) ≡ entries (with_count count y n) (cond (same y x || c) (x ∷ xs) ((x ∷ xs) ++ y ∷ []))
      by true c e rest =
          let apart : AllByRecursion (λ z. same y z ≡ false) xs = subst (λ w. AllByRecursion (λ z. same w z ≡ false) xs) (sym (sound y x e)) h.0 in
          ap (λ b. cond b ((x, n) ∷ entries count xs) ((x, count x) ∷ to)) e
          ∙ ap₂ (λ (b : Bool) (l : List (A × ℕ)). (x, cond b n (count x)) ∷ l) (sym e) (others_stay count y n xs apart)
          ∙ ap (λ b. entries (with_count count y n) (cond (b || c) (x ∷ xs) ((x ∷ xs) ++ y ∷ []))) (sym e)
      by false true e rest =
          ap (λ b. cond b ((x, n) ∷ entries count xs) ((x, count x) ∷ to)) e
          ∙ ap₂ (λ (b : Bool) (l : List (A × ℕ)). (x, cond b n (count x)) ∷ l) (sym e) rest
          ∙ ap (λ b. entries (with_count count y n) (cond (b || true) (x ∷ xs) ((x ∷ xs) ++ y ∷ []))) (sym e)
      by false false e rest =
          ap (λ b. cond b ((x, n) ∷ entries count xs) ((x, count x) ∷ to)) e
          ∙ ap₂ (λ (b : Bool) (l : List (A × ℕ)). (x, cond b n (count x)) ∷ l) (sym e) rest
          ∙ ap (λ b. entries (with_count count y n) (cond (b || false) (x ∷ xs) ((x ∷ xs) ++ y ∷ []))) (sym e)

  pub found : (count : A → ℕ) (y : A) (xs : List A) → lookup (same y) (entries count xs) ≡ cond (list_any (same y) xs) (Some (count y)) None
  found count y [] = refl
  found count y (x ∷ xs) = by (same y x) refl (found count y xs)
    where
      by : (b : Bool) → same y x ≡ b → lookup (same y) (entries count xs) ≡ cond (list_any (same y) xs) (Some (count y)) None
          → cond (same y x) (Some (count x)) (lookup (same y) (entries count xs)) ≡ cond (same y x || list_any (same y) xs) (Some (count y)) None
      by true e more =
          ap (λ b. cond b (Some (count x)) (lookup (same y) (entries count xs))) e ∙ ap (λ z. Some (count z)) (sym (sound y x e))
          ∙ ap (λ b. cond (b || list_any (same y) xs) (Some (count y)) None) (sym e)
      by false e more =
          ap (λ b. cond b (Some (count x)) (lookup (same y) (entries count xs))) e ∙ more
          ∙ ap (λ b. cond (b || list_any (same y) xs) (Some (count y)) None) (sym e)

  -- what is counted of an item is how often it came
  pub counted_so_far : (xs : List A) (y : A) → unwrap_or (lookup (same y) (tally_of same xs)) 0 ≡ count_by (same y) xs
  counted_so_far xs y =
      ap (λ o. unwrap_or o 0) (found (λ x. count_by (same x) xs) y (distinct same xs) ∙ ap (λ b. cond b (Some (count_by (same y) xs)) None) (any_distinct y xs))
      ∙ by (list_any (same y) xs) refl
    where
      by : (b : Bool) → list_any (same y) xs ≡ b → unwrap_or (cond b (Some (count_by (same y) xs)) None) 0 ≡ count_by (same y) xs
      by true e = refl
      by false e = sym (count_none (same y) xs e)

  pub counted_within : (xs : List A) (y : A) → unwrap_or (lookup (same y) (tally_of same xs)) 0 ≤ length xs
  counted_within xs y = let is = counted_so_far xs y in let within = count_by-le-length (same y) xs in omega (arith, is, within)

  count_goes_on : (xs : List A) (y x : A) → count_by (same x) (xs ++ y ∷ []) ≡ with_count (λ z. count_by (same z) xs) y (count_by (same y) xs + 1) x
  count_goes_on xs y x = count_more (same x) xs y ∙ (ap (λ b. count_by (same x) xs + cond b 1 0) (flip x y) ∙ by (same y x) refl)
    where
      by : (b : Bool) → same y x ≡ b → count_by (same x) xs + cond (same y x) 1 0 ≡ cond (same y x) (count_by (same y) xs + 1) (count_by (same x) xs)
      by true e =
          ap (λ b. count_by (same x) xs + cond b 1 0) e ∙ ap (λ z. count_by (same z) xs + 1) (sym (sound y x e))
          ∙ ap (λ b. cond b (count_by (same y) xs + 1) (count_by (same x) xs)) (sym e)
      by false e =
          let none : count_by (same x) xs + 0 ≡ count_by (same x) xs = omega arith in
          ap (λ b. count_by (same x) xs + cond b 1 0) e ∙ none ∙ ap (λ b. cond b (count_by (same y) xs + 1) (count_by (same x) xs)) (sym e)

  -- a tally with one more item
  pub tally_more : (xs : List A) (y : A) → tally_of same (xs ++ y ∷ []) ≡ insert_entry same (tally_of same xs) y (unwrap_or (lookup (same y) (tally_of same xs)) 0 + 1)
  tally_more xs y =
      let count : A → ℕ = λ x. count_by (same x) xs in
      (λ i. map (λ x. (x, count_goes_on xs y x i)) (distinct same (xs ++ y ∷ [])))
      ∙ (ap (entries (with_count count y (count y + 1))) (distinct_more y xs ∙ ap (λ b. cond b (distinct same xs) (distinct same xs ++ y ∷ [])) (sym (any_distinct y xs)))
      ∙ (sym (inserted count y (count y + 1) (distinct same xs) (distinct_apart xs))
      ∙ ap (λ n. insert_entry same (tally_of same xs) y (n + 1)) (sym (counted_so_far xs y))))
