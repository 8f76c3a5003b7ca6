-- How many candidates a pending list has without the writes of other lines: the products over the lines that are asked.
use Rattle.std.proofs.Common.{◌≡◌, ℕ, zero, suc, ◌+◌, ◌-◌, ◌≤◌, inl, inr, Bool, true, false, cond, List, [], ◌∷◌, length, refl, sym, ap, ap₂, ◌∙◌, arith, true≢false, mul-le-mul_left, mul-le-mul_right}
use Rattle.std.proofs.lemmas.Bool.{cases_Bool, eqb-true}
use Rattle.std.specs.Prelude.{◌==◌, ◌*◌, count_by, filter, if◌then◌else◌, slice_get}
use Rattle.lines_layout.specs.Lines.{line_of}
use Rattle.persist_buffer.specs.declared.entry.PendingEntry.{PendingEntry}
use Rattle.persist_buffer.specs.declared.entry.PendingEntry.TheVariants.{Write, Marker}
use Rattle.persist_buffer.specs.Listings.{before_marker}
use Rattle.persist_buffer.specs.Memories.{is_marker, is_write_on}
use Rattle.pending_images.specs.Candidates.{all_lines, before, candidates, choices, is_of, low, markers, product, products_below}
use Rattle.pending_images.proofs.CountsBeforeMarkers.{count_by-cons}
use Rattle.explore.specs.Asked.{only_on}
use Rattle.persist_buffer.specs.State.{Memory}
use Rattle.explore.specs.Narrow.{IsNarrow, open_writes, product_on, products_on}
use Rattle.explore.proofs.LaterMemories.{IsWhole}
use Rattle.explore.proofs.NarrowImages.{all_before, length_part, narrow_plain, narrow_writes, part, plain_markers}

module _ (asked : ℕ → Bool) where
  write_behind : (b : Bool) (k word value : ℕ) (es : List PendingEntry) → before_marker k (only_on asked es) ≡ only_on asked (before_marker k es)
      → before_marker k (if b then Write word value ∷ only_on asked es else only_on asked es) ≡ (if b then Write word value ∷ only_on asked (before_marker k es) else only_on asked (before_marker k es))
  write_behind true k word value es same = ap (λ (xs : List PendingEntry). Write word value ∷ xs) same
  write_behind false k word value es same = same

  before_only : (k : ℕ) (es : List PendingEntry) → before_marker k (only_on asked es) ≡ only_on asked (before_marker k es)
  before_only k [] = refl
  before_only k (Write word value ∷ es) = write_behind (asked (line_of word)) k word value es (before_only k es)
  before_only zero (Marker line ∷ es) = refl
  before_only (suc k) (Marker line ∷ es) = ap (λ (xs : List PendingEntry). Marker line ∷ xs) (before_only k es)

  apart : (line word : ℕ) (b c : Bool) → asked line ≡ b → asked (line_of word) ≡ c → (b ≡ c → ⊥) → (line_of word == line) ≡ false
  apart line word b c is at differ =
      elim (cases_Bool (line_of word == line)) [
        | inl same ↦ absurd (differ (sym is ∙ ap asked (sym (eqb-true (line_of word) line same)) ∙ at))
        | inr other ↦ other
      ]

  write_counted : (c : Bool) (line word value : ℕ) (es : List PendingEntry) → asked line ≡ true → asked (line_of word) ≡ c → count_by (is_write_on line) (only_on asked es) ≡ count_by (is_write_on line) es
      → count_by (is_write_on line) (if c then Write word value ∷ only_on asked es else only_on asked es) ≡ count_by (is_write_on line) (Write word value ∷ es)
  write_counted true line word value es is at same =
      count_by-cons (is_write_on line) (Write word value) (only_on asked es) ∙ ap (λ (n : ℕ). cond (line_of word == line) 1 0 + n) same ∙ sym (count_by-cons (is_write_on line) (Write word value) es)
  write_counted false line word value es is at same =
      let other = apart line word true false is at (λ e. true≢false e) in
      let more : count_by (is_write_on line) (Write word value ∷ es) ≡ 0 + count_by (is_write_on line) es =
      count_by-cons (is_write_on line) (Write word value) es ∙ ap (λ (b : Bool). cond b 1 0 + count_by (is_write_on line) es) other in
      omega (arith, same, more)

  counted : (line : ℕ) (es : List PendingEntry) → asked line ≡ true → count_by (is_write_on line) (only_on asked es) ≡ count_by (is_write_on line) es
  counted line [] is = refl
  counted line (Write word value ∷ es) is = write_counted (asked (line_of word)) line word value es is refl (counted line es is)
  counted line (Marker other ∷ es) is =
      count_by-cons (is_write_on line) (Marker other) (only_on asked es) ∙ ap (λ (n : ℕ). 0 + n) (counted line es is) ∙ sym (count_by-cons (is_write_on line) (Marker other) es)

  write_uncounted : (c : Bool) (line word value : ℕ) (es : List PendingEntry) → asked line ≡ false → asked (line_of word) ≡ c → count_by (is_write_on line) (only_on asked es) ≡ 0
      → count_by (is_write_on line) (if c then Write word value ∷ only_on asked es else only_on asked es) ≡ 0
  write_uncounted true line word value es is at none =
      let other = apart line word false true is at (λ e. true≢false (sym e)) in
      let more : count_by (is_write_on line) (Write word value ∷ only_on asked es) ≡ 0 + count_by (is_write_on line) (only_on asked es) =
      count_by-cons (is_write_on line) (Write word value) (only_on asked es) ∙ ap (λ (b : Bool). cond b 1 0 + count_by (is_write_on line) (only_on asked es)) other in
      omega (arith, none, more)
  write_uncounted false line word value es is at none = none

  uncounted : (line : ℕ) (es : List PendingEntry) → asked line ≡ false → count_by (is_write_on line) (only_on asked es) ≡ 0
  uncounted line [] is = refl
  uncounted line (Write word value ∷ es) is = write_uncounted (asked (line_of word)) line word value es is refl (uncounted line es is)
  uncounted line (Marker other ∷ es) is =
      let more = count_by-cons (is_write_on line) (Marker other) (only_on asked es) in
      let rest = uncounted line es is in
      more ∙ ap (λ (n : ℕ). 0 + n) rest

  write_markers : (b : Bool) (word value : ℕ) (es : List PendingEntry) → filter is_marker (only_on asked es) ≡ filter is_marker es → filter is_marker (if b then Write word value ∷ only_on asked es else only_on asked es) ≡ filter is_marker es
  write_markers true word value es same = same
  write_markers false word value es same = same

  markers_same : (es : List PendingEntry) → filter is_marker (only_on asked es) ≡ filter is_marker es
  markers_same [] = refl
  markers_same (Write word value ∷ es) = write_markers (asked (line_of word)) word value es (markers_same es)
  markers_same (Marker line ∷ es) = ap (λ (xs : List PendingEntry). Marker line ∷ xs) (markers_same es)

  write_number : (b : Bool) (word value : ℕ) (es : List PendingEntry) → markers (only_on asked es) ≡ markers es → markers (if b then Write word value ∷ only_on asked es else only_on asked es) ≡ markers (Write word value ∷ es)
  write_number true word value es same =
      count_by-cons is_marker (Write word value) (only_on asked es) ∙ ap (λ (n : ℕ). 0 + n) same ∙ sym (count_by-cons is_marker (Write word value) es)
  write_number false word value es same = let more : markers (Write word value ∷ es) ≡ 0 + markers es = count_by-cons is_marker (Write word value) es in omega (arith, same, more)

  as_many_markers : (es : List PendingEntry) → markers (only_on asked es) ≡ markers es
  as_many_markers [] = refl
  as_many_markers (Write word value ∷ es) = write_number (asked (line_of word)) word value es (as_many_markers es)
  as_many_markers (Marker line ∷ es) = count_by-cons is_marker (Marker line) (only_on asked es) ∙ ap (λ (n : ℕ). 1 + n) (as_many_markers es) ∙ sym (count_by-cons is_marker (Marker line) es)

  before_same : (line k : ℕ) (es : List PendingEntry) → asked line ≡ true → before line k (only_on asked es) ≡ before line k es
  before_same line k es is = ap (count_by (is_write_on line)) (before_only k es) ∙ counted line (before_marker k es) is

  before_zero : (line k : ℕ) (es : List PendingEntry) → asked line ≡ false → before line k (only_on asked es) ≡ 0
  before_zero line k es is = ap (count_by (is_write_on line)) (before_only k es) ∙ uncounted line (before_marker k es) is

  low_same : (line k : ℕ) (es : List PendingEntry) → asked line ≡ true → low line k (only_on asked es) ≡ low line k es
  low_same line zero es is = refl
  low_same line (suc k) es is =
      λ i. if is_of line (slice_get (markers_same es i) k) then before_same line k es is i else low_same line k es is i

  choices_same : (line k : ℕ) (es : List PendingEntry) → asked line ≡ true → choices line k (only_on asked es) ≡ choices line k es
  choices_same line k es is = λ i. before_same line k es is i - low_same line k es is i + 1

  one_choice : (line k : ℕ) (es : List PendingEntry) → asked line ≡ false → choices line k (only_on asked es) ≡ 1
  one_choice line k es is = let none = before_zero line k es is in omega (arith, none)

  product_by : (b : Bool) (line k : ℕ) (es : List PendingEntry) → asked line ≡ b → product line k (only_on asked es) ≡ product_on asked line k es
      → product line k (only_on asked es) * choices line k (only_on asked es) ≡ (if b then product_on asked line k es * choices line k es else product_on asked line k es)
  product_by true line k es is same = ap₂ (λ (a b : ℕ). a * b) same (choices_same line k es is)
  product_by false line k es is same = ap (λ (n : ℕ). product line k (only_on asked es) * n) (one_choice line k es is) ∙ times_one (product line k (only_on asked es)) ∙ same
    where
      times_one : (n : ℕ) → n * 1 ≡ n
      times_one n = omega arith

  products_same : (lines k : ℕ) (es : List PendingEntry) → product lines k (only_on asked es) ≡ product_on asked lines k es
  products_same zero k es = refl
  products_same (suc line) k es = product_by (asked line) line k es refl (products_same line k es)

  sums_same : (lines n : ℕ) (es : List PendingEntry) → products_below lines n (only_on asked es) ≡ products_on asked lines n es
  sums_same lines zero es = refl
  sums_same lines (suc k) es = ap₂ (λ (a b : ℕ). a + b) (sums_same lines k es) (products_same lines k es)

  -- the candidates of the shorter list
  pub candidates_on : (es : List PendingEntry) → candidates (only_on asked es) ≡ products_on asked all_lines (markers es + 1) es
  candidates_on es = ap (λ (n : ℕ). products_below all_lines (n + 1) (only_on asked es)) (as_many_markers es) ∙ sums_same all_lines (markers es + 1) es

-- ---- those of narrowed memories

times_one : (n : ℕ) → n * 1 ≡ n
times_one n = omega arith

module _ (asked : ℕ → Bool) (m : Memory) (k : ℕ) (whole : IsWhole m) (narrow : Memory) (is : IsNarrow asked m k narrow) where
  part_choices : (b : Bool) (line : ℕ) (n : ℕ) → n ≡ length (part b (open_writes line k m.pending)) → (p q : ℕ) → p ≡ q → p * (n - 0 + 1) ≡ (if b then q * choices line k m.pending else q)
  part_choices true line n size p q same = let is = length_part line k m.pending in let n_is : n - 0 + 1 ≡ choices line k m.pending = omega (arith, size, is) in ap₂ (λ (a b : ℕ). a * b) same n_is
  part_choices false line n size p q same = let one : n - 0 + 1 ≡ 1 = omega (arith, size) in ap (λ (a : ℕ). p * a) one ∙ times_one p ∙ same

  narrow_product : (lines : ℕ) → product lines 0 narrow.pending ≡ product_on asked lines k m.pending
  narrow_product zero = refl
  narrow_product (suc line) =
      part_choices (asked line) line (before line 0 narrow.pending)
      (all_before line narrow.pending (narrow_plain asked m k whole narrow is) ∙ ap length (narrow_writes asked m k whole narrow is line)) (product line 0 narrow.pending) (product_on asked line k m.pending) (narrow_product line)

  pub narrow_candidates : candidates narrow.pending ≡ product_on asked all_lines k m.pending
  narrow_candidates =
      let none = plain_markers narrow.pending (narrow_plain asked m k whole narrow is) in
      let one : markers narrow.pending + 1 ≡ suc zero = omega (arith, none) in
      ap (λ (n : ℕ). products_below all_lines n narrow.pending) one ∙ alone (product all_lines 0 narrow.pending) ∙ narrow_product all_lines
    where
      alone : (n : ℕ) → 0 + n ≡ n
      alone n = omega arith

-- ---- sums

pub sum_grows : (asked : ℕ → Bool) (lines n more : ℕ) (es : List PendingEntry) → products_on asked lines n es ≤ products_on asked lines (n + more) es
sum_grows asked lines n zero es = let same : n + 0 ≡ n = omega arith in let e = ap (λ (i : ℕ). products_on asked lines i es) same in omega (arith, e)
sum_grows asked lines n (suc more) es =
    let same : n + suc more ≡ suc (n + more) = omega arith in
    let e = ap (λ (i : ℕ). products_on asked lines i es) same in
    let rest = sum_grows asked lines n more es in
    omega (arith, e, rest)

-- where fewer markers went there are no more
pub many_early : (asked : ℕ → Bool) (k : ℕ) (es : List PendingEntry) → k ≤ markers es → products_on asked all_lines (k + 1) es ≤ candidates (only_on asked es)
many_early asked k es within =
    let there : k + 1 + (markers es - k) ≡ markers es + 1 = omega (arith, within) in
    let e = ap (λ (n : ℕ). products_on asked all_lines n es) there in
    let all = candidates_on asked es in
    let grows = sum_grows asked all_lines (k + 1) (markers es - k) es in
    omega (arith, e, all, grows)

-- and there are no more than over all lines
fewer : (b : Bool) (p q c : ℕ) → p ≤ q → 1 ≤ c → (if b then p * c else p) ≤ q * c
fewer true p q c le one = mul-le-mul_right c le
fewer false p q c le one = let grows : q * 1 ≤ q * c = mul-le-mul_left q one in let same = times_one q in omega (arith, le, grows, same)

product_fewer : (asked : ℕ → Bool) (lines k : ℕ) (es : List PendingEntry) → product_on asked lines k es ≤ product lines k es
product_fewer asked zero k es = omega arith
product_fewer asked (suc line) k es = fewer (asked line) (product_on asked line k es) (product line k es) (choices line k es) (product_fewer asked line k es) (omega arith)

sums_fewer : (asked : ℕ → Bool) (lines n : ℕ) (es : List PendingEntry) → products_on asked lines n es ≤ products_below lines n es
sums_fewer asked lines zero es = omega arith
sums_fewer asked lines (suc k) es = let one = product_fewer asked lines k es in let rest = sums_fewer asked lines k es in omega (arith, one, rest)

pub fewer_asked : (asked : ℕ → Bool) (es : List PendingEntry) → candidates (only_on asked es) ≤ candidates es
fewer_asked asked es = let all = candidates_on asked es in let few = sums_fewer asked all_lines (markers es + 1) es in omega (arith, all, few)
