-- Which pairs a tally has, and in which order.
use Rattle.std.proofs.Common.{inl, inr, ◌≡◌, ℕ, ◌+◌, ◌<◌, Bool, true, false, cond, not, List, [], ◌∷◌, map, Contains, AllPairs, sym, ap, subst, ◌∙◌, arith}
use Rattle.std.specs.Prelude.{count_by}
use Rattle.std.specs.List.{AllByRecursion, filter, list_any}
use Rattle.std.proofs.lemmas.List.Elements.{Contains-append_left, Contains-append_right, Contains-push, Contains-push_cases, Contains-append_cases, All-from_recursion}
use Rattle.std.proofs.lemmas.List.Kept.{AllPairs-cons}
use Rattle.std.proofs.lemmas.Map.Views.{list_any-from_Contains}
use Rattle.indexmap.proofs.CallerLemmas.{Contains-list_any}
use Rattle.hunt.specs.Outcomes.{Observed, is_same}
use Rattle.hunt.specs.Same.{own_outcome, same_equiv, same_outcome}
use Rattle.hunt.specs.Tallies.{distinct, first_place, tally_of}
use Rattle.hunt.proofs.TallyOfOneMore.{all_filter, any_distinct, apart_filter, flip}

contains_one : {X : Type 0} (x y : X) → Contains (x ∷ []) y → x ≡ y
contains_one x y h = elim (Contains-push_cases [] x y h) [ inl none ↦ absurd (let k : none.0 < 0 = none.1 in omega arith) | inr is ↦ is ]

from_map : {X Y : Type 0} (f : X → Y) (xs : List X) (y : Y) → Contains (map f xs) y → (x : X) × Contains xs x × (y ≡ f x)
from_map f [] y h = absurd (let k : h.0 < 0 = h.1 in omega arith)
from_map f (x ∷ xs) y h =
    elim (Contains-append_cases (f x ∷ []) (map f xs) y h) [
      | inl here ↦ (x, Contains-append_left (x ∷ []) xs x (Contains-push [] x), sym (contains_one (f x) y here))
      | inr there ↦ (let (z, among, is) = from_map f xs y there in (z, Contains-append_right (x ∷ []) xs z among, is))
    ]

to_map : {X Y : Type 0} (f : X → Y) (xs : List X) (x : X) → Contains xs x → Contains (map f xs) (f x)
to_map f [] x h = absurd (let k : h.0 < 0 = h.1 in omega arith)
to_map f (z ∷ xs) x h =
    elim (Contains-append_cases (z ∷ []) xs x h) [
      | inl here ↦ Contains-append_left (f z ∷ []) (map f xs) (f x) (subst (λ w. Contains (f z ∷ []) (f w)) (contains_one z x here) (Contains-push [] (f z)))
      | inr there ↦ Contains-append_right (f z ∷ []) (map f xs) (f x) (to_map f xs x there)
    ]

comes_to : (xs ys : List Observed) (x : Observed) → list_any (is_same x) xs ≡ list_any (is_same x) ys → Contains xs x → Contains ys x
comes_to xs ys x alike h = Contains-list_any is_same same_outcome ys x (sym alike ∙ list_any-from_Contains same_equiv x xs h)

pub pair_only : (xs : List Observed) (x : Observed) (n : ℕ) → Contains (tally_of is_same xs) (x, n) → Contains xs x × (n ≡ count_by (is_same x) xs)
pair_only xs x n h =
    let (d, among, is) = from_map (λ (d : Observed). (d, count_by (is_same d) xs)) (distinct is_same xs) (x, n) h in
    let outcome : x ≡ d = ap (λ (e : Observed × ℕ). e.0) is in
    let there : Contains xs d = comes_to (distinct is_same xs) xs d (any_distinct is_same same_outcome own_outcome d xs) among in
    (subst (Contains xs) (sym outcome) there, ap (λ (e : Observed × ℕ). e.1) is ∙ ap (λ z. count_by (is_same z) xs) (sym outcome))

pub pair_always : (xs : List Observed) (x : Observed) → Contains xs x → Contains (tally_of is_same xs) (x, count_by (is_same x) xs)
pair_always xs x h =
    to_map (λ (d : Observed). (d, count_by (is_same d) xs)) (distinct is_same xs) x
    (comes_to xs (distinct is_same xs) x (sym (any_distinct is_same same_outcome own_outcome x xs)) h)

-- the first places of items rise
abbrev Rising : List Observed → List Observed → Type 0
Rising xs [] = Unit {0}
Rising xs (d ∷ ds) = AllByRecursion (λ e. first_place xs d < first_place xs e) ds × Rising xs ds

rising_filter : (p : Observed → Bool) (xs ds : List Observed) → Rising xs ds → Rising xs (filter p ds)
rising_filter p xs [] h = tt
rising_filter p xs (d ∷ ds) h = by (p d) (rising_filter p xs ds h.1)
  where
    by : (b : Bool) → Rising xs (filter p ds) → Rising xs (cond b (d ∷ filter p ds) (filter p ds))
    by true rest = (all_filter (λ e. first_place xs d < first_place xs e) p ds h.0, rest)
    by false rest = rest

place_later : (x : Observed) (xs : List Observed) (d : Observed) → is_same d x ≡ false → first_place (x ∷ xs) d ≡ 1 + first_place xs d
place_later x xs d other = ap (λ b. cond (not b) (1 + first_place xs d) 0) other

place_first : (x : Observed) (xs : List Observed) → first_place (x ∷ xs) x ≡ 0
place_first x xs = ap (λ b. cond (not b) (1 + first_place xs x) 0) (own_outcome x)

all_later : (x : Observed) (xs : List Observed) (d : Observed) (ds : List Observed) → is_same d x ≡ false → AllByRecursion (λ e. is_same e x ≡ false) ds
    → AllByRecursion (λ e. first_place xs d < first_place xs e) ds → AllByRecursion (λ e. first_place (x ∷ xs) d < first_place (x ∷ xs) e) ds
all_later x xs d [] other others h = tt
all_later x xs d (e ∷ ds) other others h =
    let one = place_later x xs d other in let two = place_later x xs e others.0 in let before = h.0 in
    (omega (arith, one, two, before), all_later x xs d ds other others.1 h.1)

rising_later : (x : Observed) (xs ds : List Observed) → AllByRecursion (λ d. is_same d x ≡ false) ds → Rising xs ds → Rising (x ∷ xs) ds
rising_later x xs [] others h = tt
rising_later x xs (d ∷ ds) others h = (all_later x xs d ds others.0 others.1 h.0, rising_later x xs ds others.1 h.1)

all_behind : (x : Observed) (xs ds : List Observed) → AllByRecursion (λ d. is_same d x ≡ false) ds → AllByRecursion (λ e. first_place (x ∷ xs) x < first_place (x ∷ xs) e) ds
all_behind x xs [] others = tt
all_behind x xs (d ∷ ds) others =
    let one = place_first x xs in let two = place_later x xs d others.0 in (omega (arith, one, two), all_behind x xs ds others.1)

turned : (x : Observed) (ds : List Observed) → AllByRecursion (λ d. is_same x d ≡ false) ds → AllByRecursion (λ d. is_same d x ≡ false) ds
turned x [] h = tt
turned x (d ∷ ds) h = (flip is_same same_outcome own_outcome d x ∙ h.0, turned x ds h.1)

rising : (xs : List Observed) → Rising xs (distinct is_same xs)
rising [] = tt
rising (x ∷ xs) =
    let others : List Observed = filter (λ y. not (is_same x y)) (distinct is_same xs) in
    let apart : AllByRecursion (λ d. is_same d x ≡ false) others = turned x others (apart_filter is_same same_outcome own_outcome x (distinct is_same xs)) in
    (all_behind x xs others apart, rising_later x xs others apart (rising_filter (λ y. not (is_same x y)) xs (distinct is_same xs) (rising xs)))

-- each entry comes first before each later one does
abbrev pub ComesFirst : List Observed → Observed × ℕ → Observed × ℕ → Type 0
ComesFirst xs a b = first_place xs a.0 < first_place xs b.0

all_entries : (xs : List Observed) (count : Observed → ℕ) (d : Observed) (ds : List Observed) → AllByRecursion (λ e. first_place xs d < first_place xs e) ds
    → AllByRecursion (ComesFirst xs (d, count d)) (map (λ e. (e, count e)) ds)
all_entries xs count d [] h = tt
all_entries xs count d (e ∷ ds) h = (h.0, all_entries xs count d ds h.1)

ordered : (xs : List Observed) (count : Observed → ℕ) (ds : List Observed) → Rising xs ds → AllPairs (ComesFirst xs) (map (λ e. (e, count e)) ds)
ordered xs count [] h = λ i j d lt low. absurd (omega (arith, low))
ordered xs count (d ∷ ds) h =
    AllPairs-cons (ComesFirst xs) (d, count d) (map (λ e. (e, count e)) ds)
    (All-from_recursion (ComesFirst xs (d, count d)) (map (λ e. (e, count e)) ds) (all_entries xs count d ds h.0)) (ordered xs count ds h.1)

pub tally_rises : (xs : List Observed) → AllPairs (λ (a b : Observed × ℕ). first_place xs a.0 < first_place xs b.0) (tally_of is_same xs)
tally_rises xs = ordered xs (λ e. count_by (is_same e) xs) (distinct is_same xs) (rising xs)
