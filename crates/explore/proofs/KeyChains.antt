-- Keys that stand one after another, and the chains by which they are found.
use Rattle.std.proofs.Common.{◌≡◌, ◌≢◌, ℕ, zero, suc, ◌+◌, ◌-◌, ◌<◌, ◌≤◌, ◌==◌, inl, inr, Bool, true, false, Option, Some, None, List, [], ◌∷◌, ◌++◌, drop, take, length, get_or, refl, sym, ap, subst, ◌∙◌, arith, append_assoc, true≢false, eq-eqb, length-set, get_or-set_same, get_or-set_other, length-append}
use Rattle.std.specs.Prelude.{◌⊎◌, Contains, nat_eq, replicate, slice_get, slice_index, slice_set, slice_index_or}
use Rattle.std.specs.List.{list_any}
use Rattle.std.specs.Cmp.Lexicographic.{bytes_decides, pointwise}
use Rattle.std.proofs.lemmas.Bool.{cases_Bool, cases_lt, eqb-true}
use Rattle.std.proofs.lemmas.List.{drop-append-le, length-drop, take-append-le}
use Rattle.std.proofs.Math.Seq.{drop-append_seam, take-length, get_or-append_seam}
use Rattle.std.proofs.Math.ListN.{get_or-append}
use Rattle.std.proofs.lemmas.Option.{get_or_from_slice_get, slice_get-get_or, slice_get_within}
use Rattle.explore.specs.KeyTables.{AreEnds, AreLinked, GoesOver, IsOn, IsTable, chain_of, parts, start_of}
use Rattle.explore.proofs.SetsHold.{any_has, has_any}

-- ---- keys one after another

pub ends_last : (start : ℕ) (ends : List ℕ) (last : ℕ) → AreEnds start ends last → start ≤ last
ends_last start [] last same = omega (arith, same)
ends_last start (end ∷ ends) last (up, more) = let rest = ends_last end ends last more in omega (arith, up, rest)

pub part_at : {A : Type 0} (start : ℕ) (ends : List ℕ) (bytes : List A) (i : ℕ) → i < length ends → slice_get (parts start ends bytes) i ≡ Some (take (slice_index ends i - start_of start ends i) (drop (start_of start ends i) bytes))
part_at start [] bytes i less = absurd (omega (arith, less))
part_at start (end ∷ ends) bytes zero less = refl
part_at start (end ∷ ends) bytes (suc zero) less = part_at end ends bytes zero (omega (arith, less))
part_at start (end ∷ ends) bytes (suc (suc i)) less = part_at end ends bytes (suc i) (omega (arith, less))

pub part_within : (start : ℕ) (ends : List ℕ) (last i : ℕ) → AreEnds start ends last → i < length ends → (start_of start ends i ≤ slice_index ends i) × (slice_index ends i ≤ last)
part_within start [] last i up less = absurd (omega (arith, less))
part_within start (end ∷ ends) last zero (up, more) less = (up, ends_last end ends last more)
part_within start (end ∷ ends) last (suc zero) (up, more) less = part_within end ends last zero more (omega (arith, less))
part_within start (end ∷ ends) last (suc (suc i)) (up, more) less = part_within end ends last (suc i) more (omega (arith, less))

pub parts_long : {A : Type 0} (start : ℕ) (ends : List ℕ) (bytes : List A) → length (parts start ends bytes) ≡ length ends
parts_long start [] bytes = refl
parts_long start (end ∷ ends) bytes = let rest = parts_long end ends bytes in omega (arith, rest)

pub ends_more : (start : ℕ) (ends : List ℕ) (last more : ℕ) → AreEnds start ends last → last ≤ more → AreEnds start (ends ++ more ∷ []) more
ends_more start [] last more same le = (omega (arith, same, le), refl)
ends_more start (end ∷ ends) last more (up, rest) le = (up, ends_more end ends last more rest le)

pub parts_more : {A : Type 0} (start : ℕ) (ends : List ℕ) (bytes key : List A) (end : ℕ) → AreEnds start ends (length bytes) → end ≡ length bytes + length key → parts start (ends ++ end ∷ []) (bytes ++ key) ≡ parts start ends bytes ++ key ∷ []
parts_more {A} start [] bytes key end same is =
    let long : end - start ≡ length key = omega (arith, same, is) in
    let behind : drop start (bytes ++ key) ≡ key = ap (λ (n : ℕ). drop n (bytes ++ key)) same ∙ drop-append_seam bytes key in
    let whole : take (end - start) (drop start (bytes ++ key)) ≡ key = (λ k. take (long k) (behind k)) ∙ take-length key in
    ap (λ (x : List A). x ∷ []) whole
parts_more {A} start (first ∷ ends) bytes key end (up, more) is =
    let top : first ≤ length bytes = ends_last first ends (length bytes) more in
    let inside : start ≤ length bytes = omega (arith, up, top) in
    let rest : length (drop start bytes) ≡ length bytes - start = length-drop start bytes in
    let part : take (first - start) (drop start (bytes ++ key)) ≡ take (first - start) (drop start bytes) =
    ap (λ (xs : List A). take (first - start) xs) (drop-append-le start bytes key inside) ∙ take-append-le (first - start) (drop start bytes) key (omega (arith, rest, top)) in
    let later = parts_more first ends bytes key end more is in
    λ k. part k ∷ later k

-- ---- chains

goes_nowhere : (most : ℕ) (before : List ℕ) (i : ℕ) → GoesOver most before i 0 → ⊥
goes_nowhere zero before i none = none
goes_nowhere (suc most) before i (inl here) = absurd (omega (arith, here))
goes_nowhere (suc most) before i (inr (j, there, rest)) = absurd (omega (arith, there))

pub on_nothing : (before : List ℕ) (i : ℕ) → IsOn before i 0 → ⊥
on_nothing before i (most, goes) = goes_nowhere most before i goes

past_end : (xs : List ℕ) (j : ℕ) → length xs ≤ j → slice_index xs j ≡ 0
past_end [] j past = refl
past_end (x ∷ xs) zero past = absurd (omega (arith, past))
past_end (x ∷ xs) (suc j) past = past_end xs j (omega (arith, past))

goes_more : (most : ℕ) (before : List ℕ) (x i at : ℕ) → GoesOver most before i at → GoesOver most (before ++ x ∷ []) i at
goes_more zero before x i at none = none
goes_more (suc most) before x i at (inl here) = inl here
goes_more (suc most) before x i at (inr (j, there, rest)) =
    inr (
      j,
      there,
      elim (cases_lt j (length before)) [
        | inl less ↦ subst (λ (n : ℕ). GoesOver most (before ++ x ∷ []) i n) (sym (get_or-append before (x ∷ []) 0 j less)) (goes_more most before x i (slice_index before j) rest)
        | inr past ↦ absurd (goes_nowhere most before i (subst (λ (n : ℕ). GoesOver most before i n) (past_end before j past) rest))
      ],
    )

-- one more key is linked
pub linked_more : (n : ℕ) (keys : List (List ℕ)) (last before now more : List ℕ) (key : List ℕ) (b : ℕ) → AreLinked n keys last before → slice_get keys n ≡ Some key → b ≡ chain_of (length last) key → b < length last
    → now ≡ slice_set last b (n + 1) → more ≡ before ++ slice_index last b ∷ [] → AreLinked (n + 1) keys now more
linked_more n keys last before now more key b l there chain inside is grown = record {
  each = ap length grown ∙ length-append before (slice_index last b ∷ []) ∙ ap (λ (k : ℕ). k + 1) l.each;
  lasts = lasts;
  olds = olds;
  found = found;
}
  where
    count : length before ≡ n
    count = l.each

    long : length now ≡ length last
    long = ap length is ∙ length-set last b (n + 1)

    at_b : slice_index now b ≡ n + 1
    at_b = ap (λ (xs : List ℕ). slice_index xs b) is ∙ get_or-set_same last b (n + 1) 0 inside

    at_other : (c : ℕ) → c ≢ b → slice_index now c ≡ slice_index last c
    at_other c apart = ap (λ (xs : List ℕ). slice_index xs c) is ∙ get_or-set_other last b c (n + 1) 0 apart

    lasts : (c : ℕ) → slice_index now c ≤ n + 1
    lasts c = elim (cases_Bool (c == b)) [
      | inl same ↦ (let e = eqb-true c b same in let f : slice_index now c ≡ n + 1 = ap (λ (k : ℕ). slice_index now k) e ∙ at_b in omega (arith, f))
      | inr not ↦ (let apart : c ≢ b = λ e. true≢false (sym (eq-eqb c b e) ∙ not) in let f = at_other c apart in let g = l.lasts c in omega (arith, f, g))
    ]

    olds : (i : ℕ) → slice_index more i ≤ i
    olds i = elim (cases_lt i (length before)) [
      | inl less ↦ (let f : slice_index more i ≡ slice_index before i = ap (λ (xs : List ℕ). slice_index xs i) grown ∙ get_or-append before (slice_index last b ∷ []) 0 i less in let g = l.olds i in omega (arith, f, g))
      | inr past ↦ elim (cases_Bool (i == length before)) [
        | inl same ↦ (
            let e = eqb-true i (length before) same in
            let f : slice_index more i ≡ slice_index last b = (λ k. slice_index (grown k) (e k)) ∙ get_or-append_seam before (slice_index last b) [] 0 in
            let g = l.lasts b in
            omega (arith, f, g, e, count))
        | inr not ↦ (
            let apart : i ≢ length before = λ e. true≢false (sym (eq-eqb i (length before) e) ∙ not) in
            let size : length more ≡ length before + 1 = ap length grown ∙ length-append before (slice_index last b ∷ []) in
            let f : slice_index more i ≡ 0 = past_end more i (omega (arith, size, past, apart)) in
            omega (arith, f))
      ]
    ]

    found : (i : ℕ) (k : List ℕ) → i < n + 1 → slice_get keys i ≡ Some k → IsOn more i (slice_index now (chain_of (length now) k))
    found i k less is_key =
        elim (cases_Bool (i == n)) [
          | inl same ↦ newest (eqb-true i n same)
          | inr not ↦ older (less_or_same not)
        ]
      where
        one : n + 1 ≡ suc n
        one = omega arith

        of_now : (c : ℕ) → chain_of (length last) k ≡ c → IsOn more i (slice_index now c) → IsOn more i (slice_index now (chain_of (length now) k))
        of_now c is_c on = subst (λ (d : ℕ). IsOn more i (slice_index now d)) (sym (ap (λ (m : ℕ). chain_of m k) long ∙ is_c)) on

        less_or_same : (i == n) ≡ false → i < n
        less_or_same not = let apart : i ≢ n = λ e. true≢false (sym (eq-eqb i n e) ∙ not) in omega (arith, less, apart)

        newest : i ≡ n → IsOn more i (slice_index now (chain_of (length now) k))
        newest e =
            let both : slice_get keys n ≡ Some k = ap (λ (m : ℕ). slice_get keys m) (sym e) ∙ is_key in
            let whole : Some key ≡ Some k = sym there ∙ both in
            let same_key : key ≡ k = cc in
            let is_b : chain_of (length last) k ≡ b = ap (λ (x : List ℕ). chain_of (length last) x) (sym same_key) ∙ sym chain in
            of_now b is_b (suc zero, inl (at_b ∙ one ∙ ap suc (sym e)))

        older : i < n → IsOn more i (slice_index now (chain_of (length now) k))
        older before_n =
            let was : IsOn before i (slice_index last (chain_of (length last) k)) = l.found i k before_n is_key in
            let still : GoesOver was.0 more i (slice_index last (chain_of (length last) k)) =
            subst (λ (xs : List ℕ). GoesOver was.0 xs i (slice_index last (chain_of (length last) k))) (sym grown) (goes_more was.0 before (slice_index last b) i (slice_index last (chain_of (length last) k)) was.1) in
            elim (cases_Bool (chain_of (length last) k == b)) [
              | inl same ↦ (
                  let is_b = eqb-true (chain_of (length last) k) b same in
                  let then_last : slice_index more n ≡ slice_index last b =
                  (λ j. slice_index (grown j) (sym count j)) ∙ get_or-append_seam before (slice_index last b) [] 0 in
                  let rest : GoesOver was.0 more i (slice_index more n) = subst (λ (m : ℕ). GoesOver was.0 more i m) (ap (slice_index last) is_b ∙ sym then_last) still in
                  of_now b is_b (suc was.0, inr (n, at_b ∙ one, rest)))
              | inr not ↦ (
                  let apart : chain_of (length last) k ≢ b = λ e. true≢false (sym (eq-eqb (chain_of (length last) k) b e) ∙ not) in
                  of_now (chain_of (length last) k) refl (was.0, subst (λ (m : ℕ). GoesOver was.0 more i m) (sym (at_other (chain_of (length last) k) apart)) still))
            ]

-- chains of no keys
pub linked_none : (keys : List (List ℕ)) (last : List ℕ) → ((b : ℕ) → slice_index last b ≡ 0) → AreLinked 0 keys last []
linked_none keys last none = record {
  each = refl;
  lasts = λ b. let z = none b in omega (arith, z);
  olds = λ i. omega arith;
  found = λ i key less is. absurd (omega (arith, less));
}

pub zeros_are_none : (n b : ℕ) → slice_index (replicate n 0) b ≡ 0
zeros_are_none zero b = refl
zeros_are_none (suc n) zero = refl
zeros_are_none (suc n) (suc b) = zeros_are_none n b

got_before : (xs ys : List (List ℕ)) (i : ℕ) (k : List ℕ) → i < length xs → slice_get (xs ++ ys) i ≡ Some k → slice_get xs i ≡ Some k
got_before [] ys i k less is = absurd (omega (arith, less))
got_before (x ∷ xs) ys zero k less is = is
got_before (x ∷ xs) ys (suc i) k less is = got_before xs ys i k (omega (arith, less)) is

got_last : (xs : List (List ℕ)) (k : List ℕ) → slice_get (xs ++ k ∷ []) (length xs) ≡ Some k
got_last [] k = refl
got_last (x ∷ xs) k = got_last xs k

-- with one more key
pub table_more : (bytes ends last before key bytes_then places now more : List ℕ) → IsTable bytes ends last before → length ends < length last
    → now ≡ slice_set last (chain_of (length last) key) (length before + 1) → more ≡ before ++ slice_index last (chain_of (length last) key) ∷ [] → chain_of (length last) key < length last
    → bytes_then ≡ bytes ++ key → places ≡ ends ++ length bytes_then ∷ [] → IsTable bytes_then places now more × (parts 0 places bytes_then ≡ parts 0 ends bytes ++ key ∷ [])
table_more bytes ends last before key bytes_then places now more t room is grown inside longer ended = (
  record {
    ascend = subst (λ (xs : List ℕ). AreEnds 0 xs (length bytes_then)) (sym ended) (ends_more 0 ends (length bytes) (length bytes_then) t.ascend (omega (arith, size)));
    room = omega (arith, counted, room, long);
    linked = subst (λ (m : ℕ). AreLinked m (parts 0 places bytes_then) now more) (sym counted) linked;
  },
  keys,
)
  where
    size : length bytes_then ≡ length bytes + length key
    size = ap length longer ∙ length-append bytes key

    counted : length places ≡ length ends + 1
    counted = ap length ended ∙ length-append ends (length bytes_then ∷ [])

    long : length now ≡ length last
    long = ap length is ∙ length-set last (chain_of (length last) key) (length before + 1)

    keys : parts 0 places bytes_then ≡ parts 0 ends bytes ++ key ∷ []
    keys = (λ k. parts 0 (ended k) (longer k)) ∙ parts_more 0 ends bytes key (length bytes_then) t.ascend size

    wider : AreLinked (length ends) (parts 0 places bytes_then) last before
    wider = record {
      each = t.linked.each;
      lasts = t.linked.lasts;
      olds = t.linked.olds;
      found = λ i k less got. t.linked.found i k less (got_before (parts 0 ends bytes) (key ∷ []) i k (let n = parts_long 0 ends bytes in omega (arith, n, less)) (ap (λ (xs : List (List ℕ)). slice_get xs i) (sym keys) ∙ got));
    }

    there : slice_get (parts 0 places bytes_then) (length ends) ≡ Some key
    there = (λ k. slice_get (keys k) (sym (parts_long 0 ends bytes) k)) ∙ got_last (parts 0 ends bytes) key

    linked : AreLinked (length ends + 1) (parts 0 places bytes_then) now more
    linked = linked_more (length ends) (parts 0 places bytes_then) last before now more key (chain_of (length last) key) wider there refl inside (is ∙ ap (λ (m : ℕ). slice_set last (chain_of (length last) key) (m + 1)) t.linked.each) grown

-- ---- looking for a key

pub goes_on : (before : List ℕ) (i j at : ℕ) → at ≡ suc j → i ≢ j → IsOn before i at → IsOn before i (slice_index before j)
goes_on before i j at is apart (zero, none) = absurd none
goes_on before i j at is apart (suc most, inl here) = absurd (apart (omega (arith, here, is)))
goes_on before i j at is apart (suc most, inr (k, there, rest)) =
    let same : k ≡ j = omega (arith, there, is) in
    (most, subst (λ (n : ℕ). GoesOver most before i (slice_index before n)) same rest)

pub nowhere : (keys : List (List ℕ)) (key before : List ℕ) (at : ℕ) → at ≡ 0 → ((i : ℕ) → slice_get keys i ≡ Some key → IsOn before i at) → list_any (pointwise nat_eq key) keys ≡ false
nowhere keys key before at ended on =
    elim (cases_Bool (list_any (pointwise nat_eq key) keys)) [
      | inl any ↦ absurd (none (any_has key keys any))
      | inr not ↦ not
    ]
  where
    none : Contains keys key → ⊥
    none (i, less, is) = on_nothing before i (subst (λ (n : ℕ). IsOn before i n) ended (on i (slice_get-get_or keys i key less ∙ ap (λ (x : List ℕ). Some x) is)))

pub somewhere : (keys : List (List ℕ)) (i : ℕ) (k key : List ℕ) → slice_get keys i ≡ Some k → pointwise nat_eq k key ≡ true → list_any (pointwise nat_eq key) keys ≡ true
somewhere keys i k key got same =
    let is : k ≡ key = (bytes_decides k key).0 same in
    has_any key keys (i, slice_get_within keys i k got, get_or_from_slice_get keys i k key got ∙ is)

pub not_here : (keys : List (List ℕ)) (i j : ℕ) (k key : List ℕ) → slice_get keys j ≡ Some k → pointwise nat_eq k key ≡ false → slice_get keys i ≡ Some key → i ≢ j
not_here keys i j k key at_j differ at_i same =
    let one : Some k ≡ Some key = sym at_j ∙ ap (λ (n : ℕ). slice_get keys n) (sym same) ∙ at_i in
    let equal : k ≡ key = cc in
    true≢false (sym ((bytes_decides k key).1 equal) ∙ differ)
