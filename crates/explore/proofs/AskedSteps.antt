-- The steps of the loops that go over the lines that a condition asks.
use Rattle.std.proofs.Common.{◌≡◌, ◌≢◌, ◌⊎◌, ℕ, zero, suc, ◌+◌, ◌-◌, ◌*◌, ◌<◌, ◌≤◌, inl, inr, Bool, true, false, Option, Some, None, List, [], ◌∷◌, ◌++◌, append_assoc, append-nil, get_or-set_other, get_or-set_same, length, map, take, drop, unwrap_or, count_by, slice_get, nat_le, Ok, refl, sym, ap, ap₂, subst, ◌∙◌, arith, eq-eqb, ne_eqb, true≢false}
use Rattle.std.specs.Prelude.{if◌then◌else◌, slice_index, slice_range, slice_set}
use Rattle.std.specs.Option.{option_or}
use Rattle.std.specs.List.{range_with_len}
use Rattle.std.specs.declared.cmp.Ordering.TheVariants.{Less, Greater}
use Rattle.std.specs.Ordering.{is_gt, nat_cmp, ordering_reverse}
use Rattle.std.specs.Cmp.Lexicographic.{nat_list_cmp_total, slice_cmp}
use Rattle.std.proofs.lemmas.Bool.{cases_lt}
use Rattle.std.proofs.lemmas.List.FromFn.{length-map-range_with_len, map-range_with_len_more}
use Rattle.lines_layout.specs.Lines.{line_of}
use Rattle.outcomes.specs.Lists.{newest}
use Rattle.persist_buffer.specs.declared.entry.PendingEntry.{PendingEntry}
use Rattle.persist_buffer.specs.declared.entry.PendingEntry.TheVariants.{Write, Marker}
use Rattle.persist_buffer.specs.Listings.{writes_on}
use Rattle.persist_buffer.specs.Limits.{line_room}
use Rattle.persist_buffer.specs.declared.fault.PendingFault.TheVariants.{LineFull}
use Rattle.persist_buffer.specs.Memories.{add_write_of, is_write_on, value_to, with_pending}
use Rattle.outcomes.specs.Outcomes.{◌>>=◌, refuse}
use Rattle.std.proofs.lemmas.List.Sums.{length-filter}
use Rattle.persist_buffer.specs.State.{Memory}
use Rattle.pending_images.specs.Candidates.{all_lines, before, candidates, is_of, low, marker_at, markers, most_candidates}
use Rattle.pending_images.proofs.CountsBeforeMarkers.{before_within, low_within}
use Rattle.explore.specs.Asked.{only_on}
use Rattle.explore.proofs.AskedCounts.{candidates_on, many_early}
use Rattle.explore.specs.Narrow.{AreChosen, IsChosen, IsLeastCount, line_values, open_writes, opens, product_on, products_on, value_after}
use Rattle.explore.proofs.ImageOrder.{Upto, from_answer, least_or_same, not_above, then_upto, upto}

low_step : (b : Bool) (line j : ℕ) (es : List PendingEntry) → is_of line (marker_at j es) ≡ b → low line (j + 1) es ≡ (if b then before line j es else low line j es)
low_step b line j es is = let next : j + 1 ≡ suc j = omega arith in ap (λ (n : ℕ). low line n es) next ∙ ap (λ (c : Bool). if c then before line j es else low line j es) is

pub low_here : (line j other n : ℕ) (es : List PendingEntry) → marker_at j es ≡ Some (Marker other) → other ≡ line → n ≡ before line j es → n ≡ low line (j + 1) es
low_here line j other n es at same is = is ∙ sym (low_step true line j es (ap (is_of line) at ∙ eq-eqb other line same))

pub low_stays : (line j other n : ℕ) (es : List PendingEntry) → marker_at j es ≡ Some (Marker other) → other ≢ line → n ≡ low line j es → n ≡ low line (j + 1) es
low_stays line j other n es at differ is = is ∙ sym (low_step false line j es (ap (is_of line) at ∙ ne_eqb other line differ))

pub ruleset low_steps = (low_here, low_stays)

-- ---- one more write

take_one : (ws : List PendingEntry) (i : ℕ) (e : PendingEntry) → slice_get ws i ≡ Some e → take (suc i) ws ≡ take i ws ++ e ∷ []
take_one [] i e is = absurd (cc)
take_one (x ∷ ws) zero e is = let same : x ≡ e = cc in ap (λ (y : PendingEntry). y ∷ []) same
take_one (x ∷ ws) (suc i) e is = ap (λ (l : List PendingEntry). x ∷ l) (take_one ws i e is)

newest_last : (gives : PendingEntry → Option ℕ) (xs : List PendingEntry) (e : PendingEntry) (x : ℕ) → unwrap_or (newest gives (xs ++ e ∷ [])) x ≡ unwrap_or (gives e) (unwrap_or (newest gives xs) x)
newest_last gives [] e x = by (gives e)
  where
    by : (o : Option ℕ) → unwrap_or (option_or None o) x ≡ unwrap_or o x
    by None = refl
    by (Some y) = refl
newest_last gives (f ∷ xs) e x = both (newest gives (xs ++ e ∷ [])) (gives e) (newest gives xs) (gives f) (λ y. newest_last gives xs e y)
  where
    both : (o p q r : Option ℕ) → ((y : ℕ) → unwrap_or o y ≡ unwrap_or p (unwrap_or q y)) → unwrap_or (option_or o r) x ≡ unwrap_or p (unwrap_or (option_or q r) x)
    both o p q r same = shown o r x ∙ same (unwrap_or r x) ∙ ap (unwrap_or p) (sym (shown q r x))
      where
        shown : (o r : Option ℕ) (x : ℕ) → unwrap_or (option_or o r) x ≡ unwrap_or o (unwrap_or r x)
        shown None r x = refl
        shown (Some y) r x = refl

one_more : (m : Memory) (i word : ℕ) (e : PendingEntry) → slice_get (writes_on (line_of word) m.pending) i ≡ Some e → value_after m (i + 1) word ≡ unwrap_or (value_to word e) (value_after m i word)
one_more m i word e is =
    let next : i + 1 ≡ suc i = omega arith in
    ap (λ (n : ℕ). value_after m n word) next
    ∙ ap (λ (ws : List PendingEntry). unwrap_or (newest (value_to word) ws) (slice_index m.persisted word)) (take_one (writes_on (line_of word) m.pending) i e is)
    ∙ newest_last (value_to word) (take i (writes_on (line_of word) m.pending)) e (slice_index m.persisted word)

pub value_written : (m : Memory) (i word target written : ℕ) → slice_get (writes_on (line_of word) m.pending) i ≡ Some (Write target written) → target ≡ word → written ≡ value_after m (i + 1) word
value_written m i word target written is same = sym (one_more m i word (Write target written) is ∙ ap (λ (b : Bool). unwrap_or (if b then Some written else None) (value_after m i word)) (eq-eqb target word same))

pub value_stays : (m : Memory) (i word target written value : ℕ) → slice_get (writes_on (line_of word) m.pending) i ≡ Some (Write target written) → target ≢ word → value ≡ value_after m i word → value ≡ value_after m (i + 1) word
value_stays m i word target written value is differ was =
    was ∙ sym (one_more m i word (Write target written) is ∙ ap (λ (b : Bool). unwrap_or (if b then Some written else None) (value_after m i word)) (ne_eqb target word differ))

pub ruleset value_steps = (value_written, value_stays)

-- ---- the words of a line

pub words_next : (m : Memory) (line n place word v : ℕ) (now : List ℕ) → now ≡ map (value_after m n) (range_with_len (8 * line) place) → word ≡ 8 * line + place → v ≡ value_after m n word
    → now ++ v ∷ [] ≡ map (value_after m n) (range_with_len (8 * line) (place + 1))
words_next m line n place word v now is at value =
    ap₂ (λ (l : List ℕ) (x : ℕ). l ++ x ∷ []) is (value ∙ ap (value_after m n) at) ∙ sym (map-range_with_len_more (value_after m n) (8 * line) place (8 * line + place) refl)

pub word_there : (line place word : ℕ) (es : List PendingEntry) (n : ℕ) → place < 8 → word ≡ 8 * line + place → n ≤ count_by (is_write_on line) es → n ≤ count_by (is_write_on (line_of word)) es
word_there line place word es n less at few =
    let on : line_of word ≡ line = omega (arith, less, at) in
    subst (λ (l : ℕ). n ≤ count_by (is_write_on l) es) (sym on) few

-- ---- the least number

pub least_begins : (m : Memory) (line least : ℕ) → IsLeastCount m line least least least
least_begins m line least = record {
  from = omega arith;
  to = omega arith;
  first = λ i from to. (let same : i ≡ least = omega (arith, from, to) in subst (λ (j : ℕ). slice_cmp nat_cmp (line_values m line least) (line_values m line j) ≢ Greater) (sym same) (not_above (line_values m line least)));
}

length_values : (m : Memory) (line n : ℕ) → length (line_values m line n) ≡ 8
length_values m line n = length-map-range_with_len (value_after m n) (8 * line) 8

as_long : (m : Memory) (line a b : ℕ) → length (line_values m line a) ≡ length (line_values m line b)
as_long m line a b = length_values m line a ∙ sym (length_values m line b)

not_greater : (xs ys : List ℕ) → Upto xs ys → slice_cmp nat_cmp xs ys ≢ Greater
not_greater xs ys h = by (least_or_same xs ys h)
  where
    by : (xs ≡ ys) ⊎ (slice_cmp nat_cmp xs ys ≡ Less) → slice_cmp nat_cmp xs ys ≢ Greater
    by (inl same) = subst (λ (zs : List ℕ). slice_cmp nat_cmp xs zs ≢ Greater) same (not_above xs)
    by (inr less) = λ e. (let clash : Less ≡ Greater = sym less ∙ e in true≢false (sym (ap is_gt clash)))

pub less_found : (m : Memory) (line least count first : ℕ) (others values : List ℕ) → IsLeastCount m line least count first → values ≡ line_values m line first → others ≡ line_values m line (count + 1)
    → slice_cmp nat_cmp others values ≡ Less → IsLeastCount m line least (count + 1) (count + 1)
less_found m line least count first others values was is new less =
    let from = was.from in
    let to = was.to in
    let now = line_values m line (count + 1) in
    let below : Upto now (line_values m line first) = from_answer now (line_values m line first) (as_long m line (count + 1) first) (inr ((λ i. slice_cmp nat_cmp (sym new i) (sym is i)) ∙ less)) in record {
      from = omega (arith, from, to);
      to = omega arith;
      first = λ i at_least at_most.
          elim (cases_lt count i) [
            | inl more ↦ (let same : i ≡ count + 1 = omega (arith, more, at_most) in subst (λ (j : ℕ). slice_cmp nat_cmp now (line_values m line j) ≢ Greater) (sym same) (not_above now))
            | inr few ↦
                not_greater now (line_values m line i)
                (then_upto now (line_values m line first) (line_values m line i) below (upto (line_values m line first) (line_values m line i) (as_long m line first i) (was.first i at_least few)))
          ];
    }

pub none_less : (m : Memory) (line least count first : ℕ) (others values : List ℕ) → IsLeastCount m line least count first → values ≡ line_values m line first → others ≡ line_values m line (count + 1)
    → slice_cmp nat_cmp others values ≢ Less → IsLeastCount m line least (count + 1) first
none_less m line least count first others values was is new not_less =
    let to = was.to in record {
      from = was.from;
      to = omega (arith, to);
      first = λ i at_least at_most.
          elim (cases_lt count i) [
            | inl more ↦
                let same : count + 1 ≡ i = omega (arith, more, at_most) in
                subst (λ (j : ℕ). slice_cmp nat_cmp (line_values m line first) (line_values m line j) ≢ Greater) same
                (λ above. not_less ((λ k. slice_cmp nat_cmp (new k) (is k)) ∙ nat_list_cmp_total.antisymm (line_values m line (count + 1)) (line_values m line first) ∙ ap ordering_reverse above))
            | inr few ↦ was.first i at_least few
          ];
    }

pub ruleset least_steps = (least_begins, less_found, none_less)

-- ---- one number more in a list

one_set : (P : ℕ → ℕ → Type 0) (xs : List ℕ) (at n : ℕ) → at < length xs → ((i : ℕ) → i < at → P i (slice_index xs i)) → P at n → (i : ℕ) → i < at + 1 → P i (slice_index (slice_set xs at n) i)
one_set P xs at n inside each here i below =
    elim (cases_lt i at) [
      | inl before ↦ let apart : i ≢ at = omega (arith, before) in subst (P i) (sym (get_or-set_other xs at i n 0 apart)) (each i before)
      | inr after ↦
          let same : at ≡ i = omega (arith, after, below) in
          subst (λ (j : ℕ). P j (slice_index (slice_set xs at n) j)) same (subst (P at) (sym (get_or-set_same xs at n 0 inside)) here)
    ]

pub count_next : (asked : ℕ → Bool) (m : Memory) (k : ℕ) (counts : List ℕ) (number n : ℕ) → length counts ≡ 64 → number < 64 → ((line : ℕ) → line < number → IsChosen (asked line) m k line (slice_index counts line)) → IsChosen (asked number) m k number n
    → (line : ℕ) → line < number + 1 → IsChosen (asked line) m k line (slice_index (slice_set counts number n) line)
count_next asked m k counts number n size inside each here = one_set (λ line c. IsChosen (asked line) m k line c) counts number n (omega (arith, size, inside)) each here

pub value_next : (m : Memory) (counts values : List ℕ) (number v : ℕ) → length values ≡ 512 → number < 512 → ((word : ℕ) → word < number → slice_index values word ≡ value_after m (slice_index counts (line_of word)) word)
    → v ≡ value_after m (slice_index counts (line_of number)) number → (word : ℕ) → word < number + 1 → slice_index (slice_set values number v) word ≡ value_after m (slice_index counts (line_of word)) word
value_next m counts values number v size inside each here = one_set (λ word x. x ≡ value_after m (slice_index counts (line_of word)) word) values number v (omega (arith, size, inside)) each here

-- no more are made than there are
counts_by : (b : Bool) (m : Memory) (k line n : ℕ) → IsChosen b m k line n → n ≤ count_by (is_write_on line) m.pending
counts_by true m k line n is =
    let least = low_within line k m.pending in
    let most = before_within line k m.pending in
    let all = length-filter (is_write_on line) m.pending in
    omega (arith, is, least, most, all)
counts_by false m k line n is =
    let few = is.to in
    let most = before_within line k m.pending in
    let all = length-filter (is_write_on line) m.pending in
    omega (arith, few, most, all)

pub counts_within : (asked : ℕ → Bool) (m : Memory) (k : ℕ) (counts : List ℕ) → AreChosen asked m k counts → (line : ℕ) → line < 64 → slice_index counts line ≤ count_by (is_write_on line) m.pending
counts_within asked m k counts chosen line inside = counts_by (asked line) m k line (slice_index counts line) (chosen.each line inside)

pub before_fits : (line k n : ℕ) (es : List PendingEntry) → n ≡ before line k es → n ≤ count_by (is_write_on line) es
before_fits line k n es is = let most = before_within line k es in let all = length-filter (is_write_on line) es in omega (arith, is, most, all)

pub low_fits : (line k n most : ℕ) (es : List PendingEntry) → n ≡ low line k es → most ≡ before line k es → n ≤ most
low_fits line k n most es is to = let least = low_within line k es in omega (arith, is, to, least)

-- ---- writes that are added

drop_get : (ws : List PendingEntry) (a j n : ℕ) → a + j ≡ n → slice_get (drop a ws) j ≡ slice_get ws n
drop_get ws zero j n e = let same : j ≡ n = omega (arith, e) in ap (slice_get ws) same
drop_get [] (suc a) j n e = refl
drop_get (x ∷ ws) (suc a) j zero e = absurd (omega (arith, e))
drop_get (x ∷ ws) (suc a) j (suc n) e = drop_get ws a j n (omega (arith, e))

range_one : (ws : List PendingEntry) (a i : ℕ) (e : PendingEntry) → a ≤ i → slice_get ws i ≡ Some e → slice_range ws a (i + 1) ≡ slice_range ws a i ++ e ∷ []
range_one ws a i e from is =
    let next : i + 1 - a ≡ suc (i - a) = omega (arith, from) in
    ap (λ (n : ℕ). take n (drop a ws)) next ∙ take_one (drop a ws) (i - a) e (drop_get ws a (i - a) i (omega (arith, from)) ∙ is)

added : (full : Bool) (m m' : Memory) (entry : PendingEntry) → (refuse LineFull full >>= λ free. Ok (with_pending m (m.pending ++ entry ∷ []))) ≡ Ok m' → m' ≡ with_pending m (m.pending ++ entry ∷ [])
added true m m' entry e = absurd (cc)
added false m m' entry e = cc

write_added : (m m' : Memory) (word value : ℕ) → add_write_of m word value ≡ Ok m' → m' ≡ with_pending m (m.pending ++ Write word value ∷ [])
write_added m m' word value e = added (nat_le line_room (count_by (is_write_on (line_of word)) m.pending)) m m' (Write word value) e

pub write_next : (m m' : Memory) (word value line from i : ℕ) (old es : List PendingEntry) → m.pending ≡ old ++ slice_range (writes_on line es) from i → from ≤ i → slice_get (writes_on line es) i ≡ Some (Write word value)
    → add_write_of m word value ≡ Ok m' → m'.pending ≡ old ++ slice_range (writes_on line es) from (i + 1)
write_next m m' word value line from i old es is le at made =
    ap (λ (n : Memory). n.pending) (write_added m m' word value made)
    ∙ ap (λ (l : List PendingEntry). l ++ Write word value ∷ []) is
    ∙ append_assoc old (slice_range (writes_on line es) from i) (Write word value ∷ [])
    ∙ ap (λ (l : List PendingEntry). old ++ l) (sym (range_one (writes_on line es) from i (Write word value) le at))

pub write_keeps : (m m' : Memory) (word value : ℕ) → add_write_of m word value ≡ Ok m' → m'.persisted ≡ m.persisted
write_keeps m m' word value made = ap (λ (n : Memory). n.persisted) (write_added m m' word value made)

pub none_yet : (ws old : List PendingEntry) (from : ℕ) → old ≡ old ++ slice_range ws from from
none_yet ws old from = let none : from - from ≡ zero = omega arith in sym (ap (λ (n : ℕ). old ++ take n (drop from ws)) none ∙ append-nil old)

opens_next : (asked : ℕ → Bool) (line k : ℕ) (es : List PendingEntry) → opens asked (line + 1) k es ≡ opens asked line k es ++ (if asked line then open_writes line k es else [])
opens_next asked line k es = let next : line + 1 ≡ suc line = omega arith in ap (λ (n : ℕ). opens asked n k es) next

pub opens_more : (asked : ℕ → Bool) (line k from to : ℕ) (es old now new : List PendingEntry) → asked line ≡ true → from ≡ low line k es → to ≡ before line k es → now ≡ old ++ opens asked line k es
    → new ≡ now ++ slice_range (writes_on line es) from to → new ≡ old ++ opens asked (line + 1) k es
opens_more asked line k from to es old now new on is_from is_to was is =
    is ∙ ap₂ (λ (l r : List PendingEntry). l ++ r) was (λ i. slice_range (writes_on line es) (is_from i) (is_to i))
    ∙ append_assoc old (opens asked line k es) (open_writes line k es)
    ∙ ap (λ (l : List PendingEntry). old ++ l) (ap (λ (b : Bool). opens asked line k es ++ (if b then open_writes line k es else [])) (sym on) ∙ sym (opens_next asked line k es))

pub opens_stay : (asked : ℕ → Bool) (line k : ℕ) (es old now : List PendingEntry) → asked line ≡ false → now ≡ old ++ opens asked line k es → now ≡ old ++ opens asked (line + 1) k es
opens_stay asked line k es old now off was =
    was ∙ ap (λ (l : List PendingEntry). old ++ l) (sym (append-nil (opens asked line k es)) ∙ ap (λ (b : Bool). opens asked line k es ++ (if b then open_writes line k es else [])) (sym off) ∙ sym (opens_next asked line k es))

-- ---- sums

sum_step : (asked : ℕ → Bool) (lines n : ℕ) (es : List PendingEntry) → products_on asked lines (n + 1) es ≡ products_on asked lines n es + product_on asked lines n es
sum_step asked lines n es = let next : n + 1 ≡ suc n = omega arith in ap (λ (i : ℕ). products_on asked lines i es) next

pub sum_begins : (asked : ℕ → Bool) (lines n : ℕ) (es : List PendingEntry) → n ≡ product_on asked lines 0 es → n ≡ products_on asked lines (0 + 1) es
sum_begins asked lines n es is = let step = sum_step asked lines 0 es in omega (arith, is, step)

pub sum_next : (asked : ℕ → Bool) (lines k sum n : ℕ) (es : List PendingEntry) → sum ≡ products_on asked lines (k + 1) es → n ≡ product_on asked lines (k + 1) es → sum + n ≡ products_on asked lines (k + 1 + 1) es
sum_next asked lines k sum n es was is = let step = sum_step asked lines (k + 1) es in omega (arith, was, is, step)

-- one product is too many
pub one_is_many : (asked : ℕ → Bool) (k : ℕ) (es : List PendingEntry) → k ≤ markers es → most_candidates < product_on asked all_lines k es → most_candidates < candidates (only_on asked es)
one_is_many asked k es within many =
    let step = sum_step asked all_lines k es in
    let early = many_early asked k es within in
    omega (arith, many, step, early)

pub sum_is_many : (asked : ℕ → Bool) (k sum : ℕ) (es : List PendingEntry) → k ≤ markers es → sum ≡ products_on asked all_lines (k + 1) es → most_candidates < sum → most_candidates < candidates (only_on asked es)
sum_is_many asked k sum es within is many = let early = many_early asked k es within in omega (arith, many, is, early)

pub sum_is_all : (asked : ℕ → Bool) (k sum : ℕ) (es : List PendingEntry) → k ≡ markers es → sum ≡ products_on asked all_lines (k + 1) es → sum ≤ most_candidates → candidates (only_on asked es) ≤ most_candidates
sum_is_all asked k sum es last is few =
    let all = candidates_on asked es in
    let e = ap (λ (n : ℕ). products_on asked all_lines (n + 1) es) last in
    omega (arith, few, is, all, e)
