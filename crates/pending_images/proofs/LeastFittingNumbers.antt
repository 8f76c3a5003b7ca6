-- Which numbers of writes fit, and the least of them.
use Rattle.std.proofs.Common.{◌≡◌, ◌≢◌, ℕ, zero, suc, ◌+◌, ◌-◌, ◌<◌, ◌≤◌, Bool, true, false, Option, None, Some, List, [], ◌∷◌, ◌++◌, take, length, length-append, length-set, get_or-set_same, get_or-set_other, refl, ap, ap₂, sym, subst, ◌∙◌, arith, inl, inr, true≢false, nat_eq, replicate, ◌%◌}
use Rattle.std.specs.Prelude.{get_or, slice_index, slice_set}
use Rattle.std.specs.Cmp.Lexicographic.{pointwise}
use Rattle.std.proofs.Math.Seq.{get_or-append_seam}
use Rattle.std.proofs.lemmas.Bool.{cases_Bool}
use Rattle.std.proofs.lemmas.Bool.Decides.{eqb_tells}
use Rattle.std.proofs.lemmas.List.{get_or_append_left, length-replicate}
use Rattle.lines_layout.specs.Lines.{line_of, line_words, max_lines}
use Rattle.persist_buffer.specs.declared.entry.PendingEntry.{PendingEntry}
use Rattle.persist_buffer.specs.declared.entry.PendingEntry.TheVariants.{Write, Marker}
use Rattle.persist_buffer.specs.Listings.{writes_on}
use Rattle.pending_images.specs.LeastCuts.{Cut, counts_at, counts_below, first_cut, first_true, fits_below, fits_of, or_later, part_of, with_count}
use Rattle.pending_images.proofs.SumsOfProducts.{all_zero}
use Rattle.pending_images.proofs.ImageParts.{line_after}

-- one flag a number of first writes
pub length-fits_of : (line : ℕ) (wanted values : List ℕ) (es : List PendingEntry) → length (fits_of line wanted values es) ≡ 1 + length (writes_on line es)
length-fits_of line wanted values [] = refl
length-fits_of line wanted values (Write word value ∷ es) =
    elim (eqb_tells (line_of word) line) [
      | inl h ↦ rw h.0 (let rest = length-fits_of line wanted (slice_set values (word % line_words) value) es in omega (arith, rest))
      | inr h ↦ rw h.0 (length-fits_of line wanted values es)
    ]
length-fits_of line wanted values (Marker other ∷ es) = length-fits_of line wanted values es

-- a flag tells whether so many first writes leave what is wanted
pub fits_tell : (n line : ℕ) (wanted values : List ℕ) (es : List PendingEntry) → n ≤ length (writes_on line es)
    → get_or (fits_of line wanted values es) n false ≡ pointwise nat_eq (line_after (take n (writes_on line es)) values) wanted
fits_tell zero line wanted values es within = refl
fits_tell (suc n) line wanted values [] within = absurd (omega (arith, within))
fits_tell (suc n) line wanted values (Write word value ∷ es) within =
    elim (eqb_tells (line_of word) line) [
      | inl h ↦
          let left : n ≤ length (writes_on line es) = (let w : suc n ≤ length (writes_on line (Write word value ∷ es)) = within in let w' : suc n ≤ suc (length (writes_on line es)) = rw h.0 at w in omega (arith, w')) in
          rw h.0 (fits_tell n line wanted (slice_set values (word % line_words) value) es left)
      | inr h ↦
          let left : suc n ≤ length (writes_on line es) = (let w : suc n ≤ length (writes_on line (Write word value ∷ es)) = within in rw h.0 at w) in
          rw h.0 (fits_tell (suc n) line wanted values es left)
    ]
fits_tell (suc n) line wanted values (Marker other ∷ es) within = fits_tell (suc n) line wanted values es within

pub length-fits_below : (shape wanted now : List ℕ) (es : List PendingEntry) (lines : ℕ) → length (fits_below shape wanted now es lines) ≡ lines
length-fits_below shape wanted now es zero = refl
length-fits_below shape wanted now es (suc line) =
    let a = length-append (fits_below shape wanted now es line) (fits_of line (part_of shape wanted line) (part_of shape now line) es ∷ []) in
    let b = length-fits_below shape wanted now es line in
    omega (arith, a, b)

-- the flags of a line
pub fits_at : (shape wanted now : List ℕ) (es : List PendingEntry) (lines line : ℕ) → line < lines
    → get_or (fits_below shape wanted now es lines) line [] ≡ fits_of line (part_of shape wanted line) (part_of shape now line) es
fits_at shape wanted now es zero line below = absurd (omega (arith, below))
fits_at shape wanted now es (suc last) line below =
    let size = length-fits_below shape wanted now es last in
    let one : List (List Bool) = fits_of last (part_of shape wanted last) (part_of shape now last) es ∷ [] in
    elim (eqb_tells line last) [
      | inl h ↦
          ap (λ (i : ℕ). get_or (fits_below shape wanted now es last ++ one) i []) (h.1 ∙ sym size)
          ∙ get_or-append_seam (fits_below shape wanted now es last) (fits_of last (part_of shape wanted last) (part_of shape now last) es) [] []
          ∙ ap (λ (l : ℕ). fits_of l (part_of shape wanted l) (part_of shape now l) es) (sym h.1)
      | inr h ↦
          let earlier : line < last = (let ne = h.1 in omega (arith, ne, below)) in
          get_or_append_left (fits_below shape wanted now es last) one [] line (omega (arith, size, earlier)) ∙ fits_at shape wanted now es last line earlier
    ]

-- what is found is in range and has a true flag
pub first_true_is : (flags : List Bool) (n count i : ℕ) → first_true flags n count ≡ Some i → (n ≤ i) × (i < n + count) × (get_or flags i false ≡ true)
first_true_is flags n zero i is = absurd (cc)
first_true_is flags n (suc more) i is =
    elim (cases_Bool (get_or flags n false)) [
      | inl on ↦
          let now : Some n ≡ Some i = rw on at is in
          let same : n ≡ i = cc in
          (omega (arith, same), omega (arith, same), subst (λ (j : ℕ). get_or flags j false ≡ true) same on)
      | inr off ↦
          let later : first_true flags (n + 1) more ≡ Some i = rw off at is in
          let rest = first_true_is flags (n + 1) more i later in
          let a = rest.0 in
          let b = rest.1 in
          (omega (arith, a), omega (arith, b), rest.2)
    ]

-- where a flag in range is true, one that is no greater is found
pub first_true_there : (flags : List Bool) (n count j : ℕ) → n ≤ j → j < n + count → get_or flags j false ≡ true → (i : ℕ) × (first_true flags n count ≡ Some i) × (i ≤ j)
first_true_there flags n zero j from to on = absurd (omega (arith, from, to))
first_true_there flags n (suc more) j from to on =
    elim (cases_Bool (get_or flags n false)) [
      | inl here ↦ (n, rw here refl, from)
      | inr off ↦
          let ne : j ≢ n = λ e. true≢false (sym on ∙ ap (λ (k : ℕ). get_or flags k false) e ∙ off) in
          let (i, is, le) = first_true_there flags (n + 1) more j (omega (arith, from, ne)) (omega (arith, to)) on in
          (i, rw off is, le)
    ]

-- what counts tell of the lines below a number
pub record AreFirst (fits : List (List Bool)) (least most : ℕ → ℕ) (lines : ℕ) (counts : List ℕ) : Type 0 where
  pub size : length counts ≡ max_lines
  pub first : (line : ℕ) → line < lines → first_true (get_or fits line []) (least line) (most line - least line + 1) ≡ Some (slice_index counts line)
  pub none : (line : ℕ) → lines ≤ line → slice_index counts line ≡ 0

more_first : (fits : List (List Bool)) (least most : ℕ → ℕ) (line n : ℕ) (counts : List ℕ) → line < max_lines → AreFirst fits least most line counts
    → first_true (get_or fits line []) (least line) (most line - least line + 1) ≡ Some n → AreFirst fits least most (suc line) (slice_set counts line n)
more_first fits least most line n counts below are is =
    let size = are.size in
    record {
      size = length-set counts line n ∙ size;
      first = λ l lt. elim (eqb_tells l line) [
        | inl h ↦
            let there : slice_index (slice_set counts line n) l ≡ n = ap (λ (i : ℕ). slice_index (slice_set counts line n) i) h.1 ∙ get_or-set_same counts line n 0 (omega (arith, size, below)) in
            ap (λ (i : ℕ). first_true (get_or fits i []) (least i) (most i - least i + 1)) h.1 ∙ is ∙ ap (λ (i : ℕ). Some i) (sym there)
        | inr h ↦ are.first l (let ne = h.1 in omega (arith, ne, lt)) ∙ ap (λ (i : ℕ). Some i) (sym (get_or-set_other counts line l n 0 h.1))
      ];
      none = λ l past. get_or-set_other counts line l n 0 (λ e. omega (arith, e, past)) ∙ are.none l (omega (arith, past));
    }

pub counts_are : (fits : List (List Bool)) (least most : ℕ → ℕ) (lines : ℕ) (counts : List ℕ) → lines ≤ max_lines → counts_below fits least most lines ≡ Some counts → AreFirst fits least most lines counts
counts_are fits least most zero counts few is =
    let same : replicate 64 0 ≡ counts = cc in
    subst (AreFirst fits least most 0) same (record { size = length-replicate {A = ℕ} 64 0; first = λ line lt. absurd (omega (arith, lt)); none = λ line past. all_zero 64 line })
counts_are fits least most (suc line) counts few is =
    go (counts_below fits least most line) (first_true (get_or fits line []) (least line) (most line - least line + 1)) refl refl is (λ c e. counts_are fits least most line c (omega (arith, few)) e)
  where
    go : (earlier : Option (List ℕ)) (found : Option ℕ) → counts_below fits least most line ≡ earlier → first_true (get_or fits line []) (least line) (most line - least line + 1) ≡ found
        → with_count line earlier found ≡ Some counts → ((c : List ℕ) → counts_below fits least most line ≡ Some c → AreFirst fits least most line c) → AreFirst fits least most (suc line) counts
    go None found e f g rest = absurd (cc)
    go (Some c) None e f g rest = absurd (cc)
    go (Some c) (Some n) e f g rest =
        let same : slice_set c line n ≡ counts = cc in
        subst (AreFirst fits least most (suc line)) same (more_first fits least most line n c (omega (arith, few)) (rest c e) f)

-- where each line has a number that fits, there are counts
pub counts_there : (fits : List (List Bool)) (least most : ℕ → ℕ) (lines : ℕ) → ((line : ℕ) → line < lines → (n : ℕ) × (first_true (get_or fits line []) (least line) (most line - least line + 1) ≡ Some n))
    → (counts : List ℕ) × (counts_below fits least most lines ≡ Some counts)
counts_there fits least most zero each = (replicate 64 0, refl)
counts_there fits least most (suc line) each =
    let (counts, is) = counts_there fits least most line (λ l lt. each l (omega (arith, lt))) in
    let (n, found) = each line (omega arith) in
    (slice_set counts line n, ap₂ (with_count line) is found)

-- the cut that is found: its number of markers is in range, and it has its counts
pub first_cut_is : (fits : List (List Bool)) (es : List PendingEntry) (k count : ℕ) (cut : Cut) → first_cut fits es k count ≡ Some cut → (k ≤ cut.markers) × (cut.markers < k + count) × (counts_at fits cut.markers es ≡ Some cut.counts)
first_cut_is fits es k zero cut is = absurd (cc)
first_cut_is fits es k (suc more) cut is =
    go (counts_at fits k es) refl is (λ e. first_cut_is fits es (k + 1) more cut e)
  where
    go : (counts : Option (List ℕ)) → counts_at fits k es ≡ counts → or_later k counts (first_cut fits es (k + 1) more) ≡ Some cut
        → (first_cut fits es (k + 1) more ≡ Some cut → (k + 1 ≤ cut.markers) × (cut.markers < k + 1 + more) × (counts_at fits cut.markers es ≡ Some cut.counts))
        → (k ≤ cut.markers) × (cut.markers < k + suc more) × (counts_at fits cut.markers es ≡ Some cut.counts)
    go None e f rest = let r = rest f in let a = r.0 in let b = r.1 in (omega (arith, a), omega (arith, b), r.2)
    go (Some c) e f rest =
        let same : (record { markers = k; counts = c }) ≡ cut = cc in
        let m : k ≡ cut.markers = ap (λ (x : Cut). x.markers) same in
        let n : c ≡ cut.counts = ap (λ (x : Cut). x.counts) same in
        (omega (arith, m), omega (arith, m), ap (λ (j : ℕ). counts_at fits j es) (sym m) ∙ e ∙ ap (λ (x : List ℕ). Some x) n)

-- where a number of markers in range has counts, a cut with no more markers is found
pub first_cut_there : (fits : List (List Bool)) (es : List PendingEntry) (k count j : ℕ) (counts : List ℕ) → k ≤ j → j < k + count → counts_at fits j es ≡ Some counts → (cut : Cut) × (first_cut fits es k count ≡ Some cut) × (cut.markers ≤ j)
first_cut_there fits es k zero j counts from to is = absurd (omega (arith, from, to))
first_cut_there fits es k (suc more) j counts from to is =
    go (counts_at fits k es) refl (λ past. first_cut_there fits es (k + 1) more j counts past (omega (arith, to)) is)
  where
    go : (found : Option (List ℕ)) → counts_at fits k es ≡ found
        → (k + 1 ≤ j → (cut : Cut) × (first_cut fits es (k + 1) more ≡ Some cut) × (cut.markers ≤ j))
        → (cut : Cut) × (or_later k (counts_at fits k es) (first_cut fits es (k + 1) more) ≡ Some cut) × (cut.markers ≤ j)
    go (Some c) e rest = (record { markers = k; counts = c }, ap (λ (x : Option (List ℕ)). or_later k x (first_cut fits es (k + 1) more)) e, from)
    go None e rest =
        let ne : j ≢ k = λ same. (let bad : Some counts ≡ None = sym is ∙ ap (λ (i : ℕ). counts_at fits i es) same ∙ e in absurd (cc)) in
        let (cut, f, le) = rest (omega (arith, ne, from)) in
        (cut, ap (λ (x : Option (List ℕ)). or_later k x (first_cut fits es (k + 1) more)) e ∙ f, le)
