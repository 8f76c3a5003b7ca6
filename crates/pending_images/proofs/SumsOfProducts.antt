-- The products of the choices, and their sum as far as it is told.
use Rattle.std.proofs.Common.{◌≡◌, ◌≢◌, ℕ, zero, suc, ◌+◌, ◌-◌, ◌*◌, ◌<◌, ◌≤◌, ◌==◌, true, false, cond, List, refl, ap, ap₂, sym, ◌∙◌, Some, arith, add-one, length, length-set, replicate, get_or-set_same, get_or-set_other, inl, inr}
use Rattle.std.specs.Prelude.{slice_index, slice_set, min, nat_le}
use Rattle.std.proofs.lemmas.Bool.{cases_Bool, cases_lt, eqb-true, eq-eqb}
use Rattle.std.proofs.lemmas.Bool.Decides.{nat_tests}
use Rattle.std.proofs.lemmas.List.{get_or-replicate, get_or_past, length-replicate}
use Rattle.std.proofs.lemmas.Nat.{mul-le}
use Rattle.lines_layout.specs.Lines.{max_lines}
use Rattle.persist_buffer.specs.declared.entry.PendingEntry.{PendingEntry}
use Rattle.persist_buffer.specs.declared.entry.PendingEntry.TheVariants.{Marker}
use Rattle.pending_images.specs.declared.total.Count.TheVariants.{Number, More}
use Rattle.pending_images.specs.Candidates.{markers, marker_at, before, low, choices, product, products_below, all_lines, candidates, count_of}
use Rattle.pending_images.specs.Gone.{AreLows}

-- zeros
pub all_zero : (n line : ℕ) → slice_index (replicate n 0) line ≡ 0
all_zero n line =
    elim (cases_lt line n) [
      | inl within ↦ get_or-replicate n line 0 0 within
      | inr past ↦ get_or_past (replicate n 0) line 0 (let size = length-replicate {A = ℕ} n 0 in omega (arith, size, past))
    ]

-- before the oldest marker no write has to be persisted
pub none_low : (es : List PendingEntry) → AreLows 0 es (replicate 64 0)
none_low es = record { few = omega arith; size = length-replicate {A = ℕ} 64 0; each = λ line within. all_zero 64 line }

low_next : (line k l : ℕ) (es : List PendingEntry) → marker_at k es ≡ Some (Marker l) → low line (k + 1) es ≡ cond (l == line) (before line k es) (low line k es)
low_next line k l es is = rw (add-one, is) refl

-- marker k goes, and of its line all writes before it must be persisted
lows_next : (k l n : ℕ) (es : List PendingEntry) (lows : List ℕ) → AreLows k es lows → k < markers es → marker_at k es ≡ Some (Marker l) → l < max_lines → n ≡ before l k es → AreLows (k + 1) es (slice_set lows l n)
lows_next k l n es lows are there is below count = record {
  few = omega (arith, there);
  size = (let s = are.size in length-set lows l n ∙ s);
  each = λ line within.
      elim (cases_Bool (l == line)) [
        | inl on ↦
            let same : l ≡ line = eqb-true l line on in
            let inside : l < length lows = (let s = are.size in omega (arith, s, below)) in
            rw (low_next line k l es is, on, ← same) (get_or-set_same lows l n 0 inside ∙ count)
        | inr off ↦
            let apart : line ≢ l = λ e. let on : (l == line) ≡ true = eq-eqb l line (sym e) in absurd (cc) in
            rw (low_next line k l es is, off) (get_or-set_other lows l line n 0 apart ∙ are.each line within)
      ];
}

pub lows_passed : (k next l n : ℕ) (es : List PendingEntry) (lows : List ℕ) → AreLows k es lows → next ≡ k + 1 → k < markers es → marker_at k es ≡ Some (Marker l) → l < max_lines → n ≡ before l k es → AreLows next es (slice_set lows l n)
lows_passed k next l n es lows are more there is below count = rw more (lows_next k l n es lows are there is below count)

-- one more line
product_next : (line k : ℕ) (es : List PendingEntry) → product (line + 1) k es ≡ product line k es * choices line k es
product_next line k es = rw (add-one _) refl

-- a product does not shrink
product_later : (line n k : ℕ) (es : List PendingEntry) → product line k es ≤ product (line + n) k es
product_later line zero k es = let e : line + 0 ≡ line = omega arith in let f = ap (λ (m : ℕ). product m k es) e in omega (arith, f)
product_later line (suc n) k es =
    let e : line + suc n ≡ suc (line + n) = omega arith in
    let f = ap (λ (m : ℕ). product m k es) e in
    let g = product_later line n k es in
    omega (arith, f, g)

-- the choices of one more line, counted up to a bound that no product passes
pub one_more : (line k n most least m : ℕ) (es : List PendingEntry) → n ≡ product line k es → most ≡ before line k es → least ≡ low line k es → m ≡ min (most - least) 65536 → n * (m + 1) < 65537
    → n * (m + 1) ≡ product (line + 1) k es
one_more line k n most least m es is up down same few =
    let next = product_next line k es in
    elim (cases_lt (most - least) 65537) [
      | inl within ↦
          let e : m ≡ before line k es - low line k es = omega (arith, same, within, up, down) in
          ap₂ (λ (a b : ℕ). a * (b + 1)) is e ∙ sym next
      | inr past ↦
          let e : m ≡ 65536 = omega (arith, same, past) in
          let f = ap (λ (b : ℕ). n * (b + 1)) e in
          let none : n ≡ 0 = omega (arith, f, few) in
          let first : product line k es ≡ 0 = sym is ∙ none in
          let left = ap (λ (a : ℕ). a * (m + 1)) none in
          let right = next ∙ ap (λ (a : ℕ). a * choices line k es) first in
          omega (arith, left, right)
    ]

pub too_many : (line k n most least m : ℕ) (es : List PendingEntry) → n ≡ product line k es → most ≡ before line k es → least ≡ low line k es → m ≡ min (most - least) 65536 → 65537 ≤ n * (m + 1)
    → line < all_lines → 65537 ≡ min 65537 (product all_lines k es)
too_many line k n most least m es is up down same many within =
    let few : m ≤ choices line k es - 1 = omega (arith, same, up, down) in
    let next = product_next line k es ∙ ap (λ (a : ℕ). a * choices line k es) (sym is) in
    let less = mul-le n (m + 1) n (choices line k es) (omega arith) (omega (arith, few)) in
    let later = product_later (line + 1) (all_lines - (line + 1)) k es in
    let e : line + 1 + (all_lines - (line + 1)) ≡ all_lines = omega (arith, within) in
    let f = ap (λ (l : ℕ). product l k es) e in
    omega (arith, next, less, later, f, many)

products_next : (lines k : ℕ) (es : List PendingEntry) → products_below lines (k + 1) es ≡ products_below lines k es + product lines k es
products_next lines k es = rw (add-one _) refl

products_later : (lines j n : ℕ) (es : List PendingEntry) → products_below lines j es ≤ products_below lines (j + n) es
products_later lines j zero es = let e : j + 0 ≡ j = omega arith in let f = ap (λ (m : ℕ). products_below lines m es) e in omega (arith, f)
products_later lines j (suc n) es =
    let e : j + suc n ≡ suc (j + n) = omega arith in
    let f = ap (λ (m : ℕ). products_below lines m es) e in
    let g = products_later lines j n es in
    omega (arith, f, g)

-- A sum of products that are told up to a number: it is the sum as far as it is told.
pub record IsSum (k : ℕ) (es : List PendingEntry) (sum : ℕ) : Type 0 where
  pub same : min 65537 sum ≡ min 65537 (products_below all_lines k es)
  pub small : sum ≤ 131074

pub sum_first : (es : List PendingEntry) (n : ℕ) → n ≡ min 65537 (product all_lines 0 es) → IsSum 1 es n
sum_first es n is =
    let p = products_next all_lines 0 es in
    record { same = omega (arith, p, is); small = omega (arith, is) }

pub sum_next : (k : ℕ) (es : List PendingEntry) (sum n : ℕ) → IsSum (k + 1) es sum → sum ≤ 65536 → n ≡ min 65537 (product all_lines (k + 1) es) → IsSum (k + 1 + 1) es (sum + n)
sum_next k es sum n before few is =
    let p = products_next all_lines (k + 1) es in
    let s = before.same in
    record { same = omega (arith, p, is, s); small = omega (arith, is) }

-- too many early are too many in the end
pub more_early : (k : ℕ) (es : List PendingEntry) (sum : ℕ) → IsSum (k + 1) es sum → 65536 < sum → k < markers es → count_of (candidates es) ≡ More
more_early k es sum is many within =
    let e : k + 1 + (markers es - k) ≡ markers es + 1 = omega (arith, within) in
    let g = products_later all_lines (k + 1) (markers es - k) es in
    let f = ap (λ (m : ℕ). products_below all_lines m es) e in
    let s = is.same in
    let over : 65536 < candidates es = omega (arith, f, g, s, many) in
    let test : nat_le (candidates es) 65536 ≡ false = grind (arith, nat_tests, over) in
    rw test refl

pub told_more : (es : List PendingEntry) (sum : ℕ) → IsSum (markers es + 1) es sum → 65536 < sum → count_of (candidates es) ≡ More
told_more es sum is many =
    let s = is.same in
    let over : 65536 < candidates es = omega (arith, s, many) in
    let test : nat_le (candidates es) 65536 ≡ false = grind (arith, nat_tests, over) in
    rw test refl

pub told_number : (es : List PendingEntry) (sum : ℕ) → IsSum (markers es + 1) es sum → sum ≤ 65536 → count_of (candidates es) ≡ Number sum
told_number es sum is few =
    let s = is.same in
    let same : candidates es ≡ sum = omega (arith, s, few) in
    let test : nat_le sum 65536 ≡ true = grind (arith, nat_tests, few) in
    rw (same, test) refl

pub ruleset count_steps = (sum_first, sum_next, more_early, told_more, told_number)
