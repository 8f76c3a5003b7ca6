-- What the code has found after some of its rounds: flags of a line's writes, counts of lines, a cut.
use Rattle.std.proofs.Common.{◌≡◌, ℕ, zero, suc, ◌+◌, ◌-◌, ◌<◌, ◌≤◌, Bool, false, Option, None, Some, List, [], ◌∷◌, ◌++◌, drop, length, length-drop, slice_set, refl, ap, ap₂, sym, ◌∙◌, arith, add-one, append_assoc, inl, inr, nat_eq, ◌%◌}
use Rattle.std.specs.Prelude.{get_or, slice_get}
use Rattle.std.specs.Cmp.Lexicographic.{pointwise}
use Rattle.std.proofs.lemmas.Bool.Decides.{eqb_tells}
use Rattle.std.proofs.lemmas.List.{append-nil, get_or_default, nil_from_length}
use Rattle.lines_layout.specs.Lines.{line_words, max_lines}
use Rattle.persist_buffer.specs.declared.entry.PendingEntry.{PendingEntry}
use Rattle.persist_buffer.specs.declared.entry.PendingEntry.TheVariants.{Write}
use Rattle.pending_images.proofs.CountsBeforeMarkers.{before_within}
use Rattle.pending_images.specs.Candidates.{before}
use Rattle.pending_images.specs.LeastCuts.{FitsPending, counts_at, counts_below, first_cut, first_true, fits_later, or_later, with_count}

-- one write more
later_next : (i : ℕ) (wanted values : List ℕ) (ws : List PendingEntry) (word value : ℕ) → slice_get ws i ≡ Some (Write word value)
    → fits_later wanted values (drop i ws) ≡ pointwise nat_eq (slice_set values (word % line_words) value) wanted ∷ fits_later wanted (slice_set values (word % line_words) value) (drop (i + 1) ws)
later_next i wanted values [] word value is = absurd (cc)
later_next zero wanted values (e ∷ ws) word value is =
    let same : e ≡ Write word value = cc in
    ap (λ (x : PendingEntry). fits_later wanted values (x ∷ ws)) same
later_next (suc i) wanted values (e ∷ ws) word value is =
    let g : suc i + 1 ≡ suc (i + 1) = omega arith in
    later_next i wanted values ws word value is
    ∙ ap (λ (n : ℕ). pointwise nat_eq (slice_set values (word % line_words) value) wanted ∷ fits_later wanted (slice_set values (word % line_words) value) (drop n (e ∷ ws))) (sym g)

-- and its flag
pub flag_pushed : (i : ℕ) (wanted values more : List ℕ) (ws : List PendingEntry) (word value : ℕ) (old new all : List Bool) → slice_get ws i ≡ Some (Write word value) → more ≡ slice_set values (word % line_words) value
    → old ++ fits_later wanted values (drop i ws) ≡ all → new ≡ old ++ pointwise nat_eq more wanted ∷ [] → new ++ fits_later wanted more (drop (i + 1) ws) ≡ all
flag_pushed i wanted values more ws word value old new all has set before pushed =
    ap (λ (fs : List Bool). fs ++ fits_later wanted more (drop (i + 1) ws)) pushed
    ∙ append_assoc old (pointwise nat_eq more wanted ∷ []) (fits_later wanted more (drop (i + 1) ws))
    ∙ ap (λ (vs : List ℕ). old ++ pointwise nat_eq vs wanted ∷ fits_later wanted vs (drop (i + 1) ws)) set
    ∙ ap (λ (fs : List Bool). old ++ fs) (sym (later_next i wanted values ws word value has))
    ∙ before

-- no write is left
pub flags_whole : (i : ℕ) (wanted values : List ℕ) (ws : List PendingEntry) (old all : List Bool) → length ws ≤ i → old ++ fits_later wanted values (drop i ws) ≡ all → old ≡ all
flags_whole i wanted values ws old all past is =
    let left = length-drop i ws in
    let none : drop i ws ≡ [] = nil_from_length (drop i ws) (omega (arith, left, past)) in
    sym (append-nil old) ∙ ap (λ (xs : List PendingEntry). old ++ fits_later wanted values xs) (sym none) ∙ is

-- one more flag is false
pub first_next : (flags : List Bool) (n most : ℕ) → n ≤ most → get_or flags n false ≡ false → first_true flags n (most + 1 - n) ≡ first_true flags (n + 1) (most + 1 - (n + 1))
first_next flags n most within off =
    let e : most + 1 - n ≡ suc (most - n) = omega (arith, within) in
    let f : most + 1 - (n + 1) ≡ most - n = omega arith in
    ap (first_true flags n) e ∙ rw off refl ∙ sym (ap (first_true flags (n + 1)) f)

-- a line without a number that fits
counts_none : (fits : List (List Bool)) (least most : ℕ → ℕ) (lines line : ℕ) → line < lines → first_true (get_or fits line []) (least line) (most line - least line + 1) ≡ None → counts_below fits least most lines ≡ None
counts_none fits least most zero line lt none = absurd (omega (arith, lt))
counts_none fits least most (suc last) line lt none =
    elim (eqb_tells line last) [
      | inl h ↦
          let off : first_true (get_or fits last []) (least last) (most last - least last + 1) ≡ None = ap (λ (l : ℕ). first_true (get_or fits l []) (least l) (most l - least l + 1)) (sym h.1) ∙ none in
          ap (with_count last (counts_below fits least most last)) off ∙ go (counts_below fits least most last)
      | inr h ↦
          ap (λ (c : Option (List ℕ)). with_count last c (first_true (get_or fits last []) (least last) (most last - least last + 1)))
          (counts_none fits least most last line (let ne = h.1 in omega (arith, ne, lt)) none)
    ]
  where
    go : (c : Option (List ℕ)) → with_count last c None ≡ None
    go None = refl
    go (Some c) = refl

-- the counts of k markers are there
pub cut_now : (fits : List (List Bool)) (es : List PendingEntry) (k last : ℕ) (counts : List ℕ) → k ≤ last → counts_at fits k es ≡ Some counts
    → first_cut fits es k (last + 1 - k) ≡ Some (record { markers = k; counts = counts })
cut_now fits es k last counts within is =
    let e : last + 1 - k ≡ suc (last - k) = omega (arith, within) in
    ap (first_cut fits es k) e ∙ ap (λ (c : Option (List ℕ)). or_later k c (first_cut fits es (k + 1) (last - k))) is

-- they are not there
pub cut_later : (fits : List (List Bool)) (es : List PendingEntry) (k last : ℕ) → k ≤ last → counts_at fits k es ≡ None
    → first_cut fits es k (last + 1 - k) ≡ first_cut fits es (k + 1) (last + 1 - (k + 1))
cut_later fits es k last within is =
    let e : last + 1 - k ≡ suc (last - k) = omega (arith, within) in
    let f : last + 1 - (k + 1) ≡ last - k = omega arith in
    ap (first_cut fits es k) e ∙ ap (λ (c : Option (List ℕ)). or_later k c (first_cut fits es (k + 1) (last - k))) is ∙ sym (ap (first_cut fits es (k + 1)) f)

-- no more markers are there
pub cut_last : (fits : List (List Bool)) (es : List PendingEntry) (last : ℕ) → counts_at fits last es ≡ None → first_cut fits es last (last + 1 - last) ≡ None
cut_last fits es last is =
    let e : last + 1 - (last + 1) ≡ 0 = omega arith in
    cut_later fits es last last (omega arith) is ∙ ap (first_cut fits es (last + 1)) e

-- what the flags of a line tell, as the code reads them
line_found : (fits : List (List Bool)) (flags : List Bool) (least most : ℕ → ℕ) (line from to : ℕ) (found : Option ℕ) → line < length fits → flags ≡ get_or fits line flags → from ≡ least line → to ≡ most line
    → first_true flags from (to - from + 1) ≡ found → first_true (get_or fits line []) (least line) (most line - least line + 1) ≡ found
line_found fits flags least most line from to found there is low high first =
    let same : get_or fits line [] ≡ flags = get_or_default fits line [] flags there ∙ sym is in
    ap (λ (f : List Bool). first_true f (least line) (most line - least line + 1)) same
    ∙ ap₂ (λ (a b : ℕ). first_true flags a (b - a + 1)) (sym low) (sym high)
    ∙ first

pub none_fits : (fits : List (List Bool)) (flags : List Bool) (least most : ℕ → ℕ) (lines line from to : ℕ) → line < lines → line < length fits → flags ≡ get_or fits line flags → from ≡ least line → to ≡ most line
    → first_true flags from (to - from + 1) ≡ None → None ≡ counts_below fits least most lines
none_fits fits flags least most lines line from to below there is low high none =
    sym (counts_none fits least most lines line below (line_found fits flags least most line from to None there is low high none))

-- what is read of the flags of a line is there
pub flags_there : (fits : List (List Bool)) (flags : List Bool) (es : List PendingEntry) (line k most : ℕ) → FitsPending fits es → line < max_lines → flags ≡ get_or fits line flags → most ≡ before line k es → most < length flags
flags_there fits flags es line k most there within is high =
    let size = there.lines in
    let same : get_or fits line [] ≡ flags = get_or_default fits line [] flags (omega (arith, size, within)) ∙ sym is in
    let long = ap length same in
    let writes = there.writes line within in
    let few = before_within line k es in
    omega (arith, long, writes, few, high)

-- one line more
pub counts_next : (fits : List (List Bool)) (flags : List Bool) (least most : ℕ → ℕ) (line from to n : ℕ) (counts : List ℕ) → line < length fits → flags ≡ get_or fits line flags → from ≡ least line → to ≡ most line
    → counts_below fits least most line ≡ Some counts → first_true flags from (to - from + 1) ≡ Some n → counts_below fits least most (line + 1) ≡ Some (slice_set counts line n)
counts_next fits flags least most line from to n counts there is low high before found =
    ap (counts_below fits least most) (add-one line)
    ∙ ap₂ (with_count line) before (line_found fits flags least most line from to (Some n) there is low high found)

pub ruleset cut_steps = (cut_now, cut_later, cut_last)
