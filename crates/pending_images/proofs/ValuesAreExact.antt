-- The values that the code finds are those that the images have.
use Rattle.std.proofs.Common.{◌≡◌, ◌↔◌, ℕ, zero, suc, ◌+◌, ◌-◌, ◌*◌, ◌%◌, ◌<◌, ◌≤◌, ◌==◌, ◌||◌, not, Bool, true, false, Option, None, Some, List, [], ◌∷◌, ◌++◌, take, length, length-append, length-set, get_or-set_same, get_or-set_other, refl, ap, sym, subst, ◌∙◌, arith, inl, inr, eq-eqb, eqb-true, true≢false}
use Rattle.std.specs.Prelude.{get_or, is_some, slice_get, slice_index, slice_set, if◌then◌else◌}
use Rattle.std.specs.List.{Contains, list_all}
use Rattle.std.proofs.Math.Seq.{get_or-append_seam}
use Rattle.std.proofs.lemmas.Bool.{and_parts, cases_Bool, cases_lt}
use Rattle.std.proofs.lemmas.Bool.Decides.{eqb_tells}
use Rattle.std.proofs.lemmas.List.{get_or_append_left}
use Rattle.std.proofs.lemmas.List.Elements.{Contains-append_left, Contains-append_right, Contains-append_cases}
use Rattle.lines_layout.specs.Lines.{has_word, line_of, line_words, max_lines, max_words}
use Rattle.lines_layout.specs.Shapes.{IsShape}
use Rattle.persist_buffer.specs.declared.entry.PendingEntry.{PendingEntry}
use Rattle.persist_buffer.specs.declared.entry.PendingEntry.TheVariants.{Write, Marker}
use Rattle.std.proofs.lemmas.List.Sums.{length-filter}
use Rattle.persist_buffer.specs.Memories.{is_write_on, write_count}
use Rattle.persist_buffer.specs.Listings.{LinesBelow, writes_on}
use Rattle.persist_buffer.specs.State.{Memory}
use Rattle.pending_images.specs.Agreements.{agree, agree_below, agree_of, allowed_at, allowed_below, column_later, column_of, has_all, line_now, picked, value_next}
use Rattle.pending_images.specs.Candidates.{all_lines, before, low, markers}
use Rattle.pending_images.specs.Cuts.{IsCut, image_of, written}
use Rattle.pending_images.specs.Images.{IsImage, image_at, value_of}
use Rattle.pending_images.specs.LeastCuts.{FitsPending, counts_at}
use Rattle.pending_images.specs.Values.{Agrees, is_value}
use Rattle.pending_images.proofs.CountsBeforeMarkers.{asked_low, before_none, before_within, low_asked, low_within}
use Rattle.pending_images.proofs.ImageParts.{line_after, take_of, word_of_cut, writes_made, writes_of}
use Rattle.pending_images.proofs.ImagesAreCuts.{cut_law}
use Rattle.pending_images.proofs.LeastFittingNumbers.{counts_are, counts_there, first_true_is, first_true_there}
use Rattle.pending_images.proofs.LeastSetsAreFound.{all_is}
use Rattle.pending_images.proofs.Members.{all_pass, each_passes, first_has, has_cases, later_has, none_has}
use Rattle.pending_images.proofs.WordsInImages.{value_read, word_in_line, word_inside}

-- ---- flags of a line

pub length-agree_of : (line : ℕ) (given : List (ℕ × ℕ)) (values : List ℕ) (es : List PendingEntry) → length (agree_of line given values es) ≡ 1 + length (writes_on line es)
length-agree_of line given values [] = refl
length-agree_of line given values (Write word value ∷ es) =
    elim (eqb_tells (line_of word) line) [
      | inl h ↦ rw h.0 (let rest = length-agree_of line given (slice_set values (word % line_words) value) es in omega (arith, rest))
      | inr h ↦ rw h.0 (length-agree_of line given values es)
    ]
length-agree_of line given values (Marker other ∷ es) = length-agree_of line given values es

-- a flag tells whether so many first writes leave the given values
agree_tells : (n line : ℕ) (given : List (ℕ × ℕ)) (values : List ℕ) (es : List PendingEntry) → n ≤ length (writes_on line es)
    → get_or (agree_of line given values es) n false ≡ agree line given (line_after (take n (writes_on line es)) values)
agree_tells zero line given values es within = refl
agree_tells (suc n) line given values [] within = absurd (omega (arith, within))
agree_tells (suc n) line given values (Write word value ∷ es) within =
    elim (eqb_tells (line_of word) line) [
      | inl h ↦
          let left : n ≤ length (writes_on line es) = (let w : suc n ≤ length (writes_on line (Write word value ∷ es)) = within in let w' : suc n ≤ suc (length (writes_on line es)) = rw h.0 at w in omega (arith, w')) in
          rw h.0 (agree_tells n line given (slice_set values (word % line_words) value) es left)
      | inr h ↦
          let left : suc n ≤ length (writes_on line es) = (let w : suc n ≤ length (writes_on line (Write word value ∷ es)) = within in rw h.0 at w) in
          rw h.0 (agree_tells (suc n) line given values es left)
    ]
agree_tells (suc n) line given values (Marker other ∷ es) within = agree_tells (suc n) line given values es within

length-agree_below : (given : List (ℕ × ℕ)) (m : Memory) (lines : ℕ) → length (agree_below given m lines) ≡ lines
length-agree_below given m zero = refl
length-agree_below given m (suc line) =
    let a = length-append (agree_below given m line) (agree_of line given (line_now m.persisted line) m.pending ∷ []) in
    let b = length-agree_below given m line in
    omega (arith, a, b)

-- the flags of a line
agree_at : (given : List (ℕ × ℕ)) (m : Memory) (lines line : ℕ) → line < lines → get_or (agree_below given m lines) line [] ≡ agree_of line given (line_now m.persisted line) m.pending
agree_at given m zero line below = absurd (omega (arith, below))
agree_at given m (suc last) line below =
    let size = length-agree_below given m last in
    let one : List (List Bool) = agree_of last given (line_now m.persisted last) m.pending ∷ [] in
    elim (eqb_tells line last) [
      | inl h ↦
          ap (λ (i : ℕ). get_or (agree_below given m last ++ one) i []) (h.1 ∙ sym size)
          ∙ get_or-append_seam (agree_below given m last) (agree_of last given (line_now m.persisted last) m.pending) [] []
          ∙ ap (λ (l : ℕ). agree_of l given (line_now m.persisted l) m.pending) (sym h.1)
      | inr h ↦
          let earlier : line < last = (let ne = h.1 in omega (arith, ne, below)) in
          get_or_append_left (agree_below given m last) one [] line (omega (arith, size, earlier)) ∙ agree_at given m last line earlier
    ]

agree_pending : (given : List (ℕ × ℕ)) (m : Memory) → FitsPending (agree_below given m all_lines) m.pending
agree_pending given m = record {
  lines = length-agree_below given m all_lines ∙ all_is;
  writes = λ line lt.
      let all = all_is in
      ap length (agree_at given m all_lines line (omega (arith, all, lt))) ∙ length-agree_of line given (line_now m.persisted line) m.pending;
}

pub pending_agree : (given : List (ℕ × ℕ)) (m : Memory) (flags : List (List Bool)) → flags ≡ agree_below given m all_lines → FitsPending flags m.pending
pending_agree given m flags is = subst (λ (f : List (List Bool)). FitsPending f m.pending) (sym is) (agree_pending given m)

-- ---- the values of a word

length-column_from : (line word value : ℕ) (es : List PendingEntry) → length (column_later word value (writes_on line es)) ≡ length (writes_on line es)
length-column_from line word value [] = refl
length-column_from line word value (Write target written ∷ es) =
    elim (eqb_tells (line_of target) line) [
      | inl h ↦ rw h.0 (let rest = length-column_from line word (value_next word value target written) es in omega (arith, rest))
      | inr h ↦ rw h.0 (length-column_from line word value es)
    ]
length-column_from line word value (Marker other ∷ es) = length-column_from line word value es

pub length-column : (word : ℕ) (m : Memory) → length (column_of word m) ≡ 1 + length (writes_on (line_of word) m.pending)
length-column word m = let rest = length-column_from (line_of word) word (slice_index m.persisted word) m.pending in omega (arith, rest)

next_shows : (xs : List ℕ) (word value target new : ℕ) → value ≡ slice_index xs word → word < length xs → value_next word value target new ≡ slice_index (slice_set xs target new) word
next_shows xs word value target new now inside =
    elim (cases_Bool (target == word)) [
      | inl hit ↦
          let is : target ≡ word = eqb-true target word hit in
          let set : new ≡ slice_index (slice_set xs target new) word =
          sym (ap (λ (w : ℕ). slice_index (slice_set xs w new) word) is ∙ get_or-set_same xs word new 0 inside) in
          rw hit set
      | inr miss ↦
          let other : value ≡ slice_index (slice_set xs target new) word =
          now ∙ sym (get_or-set_other xs target word new 0 (λ e. true≢false (sym (eq-eqb target word (sym e)) ∙ miss))) in
          rw miss other
    ]

-- as many as the code counts
pub column_counted : (word : ℕ) (m : Memory) → length (column_of word m) ≡ 1 + write_count m (line_of word)
column_counted word m = let long = length-column word m in let same = length-filter (is_write_on (line_of word)) m.pending in omega (arith, long, same)

column_tells : (n line word value : ℕ) (es : List PendingEntry) (xs : List ℕ) → value ≡ slice_index xs word → word < length xs → n ≤ length (writes_on line es)
    → slice_index (value ∷ column_later word value (writes_on line es)) n ≡ slice_index (written (take n (writes_on line es)) xs) word
column_tells zero line word value es xs now inside within = now
column_tells (suc n) line word value [] xs now inside within = absurd (omega (arith, within))
column_tells (suc n) line word value (Write target new ∷ es) xs now inside within =
    elim (eqb_tells (line_of target) line) [
      | inl h ↦
          let left : n ≤ length (writes_on line es) = (let w : suc n ≤ length (writes_on line (Write target new ∷ es)) = within in let w' : suc n ≤ suc (length (writes_on line es)) = rw h.0 at w in omega (arith, w')) in
          let size = length-set xs target new in
          let there : word < length (slice_set xs target new) = omega (arith, size, inside) in
          rw h.0 (column_tells n line word (value_next word value target new) es (slice_set xs target new) (next_shows xs word value target new now inside) there left)
      | inr h ↦
          let left : suc n ≤ length (writes_on line es) = (let w : suc n ≤ length (writes_on line (Write target new ∷ es)) = within in rw h.0 at w) in
          rw h.0 (column_tells (suc n) line word value es xs now inside left)
    ]
column_tells (suc n) line word value (Marker other ∷ es) xs now inside within = column_tells (suc n) line word value es xs now inside within

-- ---- what is picked

pub picked_has : (flags : List Bool) (values : List ℕ) (n more v : ℕ) → Contains (picked flags values n more) v → (i : ℕ) × (n ≤ i) × (i < n + more) × (get_or flags i false ≡ true) × (slice_index values i ≡ v)
picked_has flags values n zero v h = none_has _ v h
picked_has flags values n (suc more) v h =
    elim (cases_Bool (get_or flags n false)) [
      | inl on ↦
          let k : Contains (slice_index values n ∷ picked flags values (n + 1) more) v = rw on at h in
          elim (has_cases (slice_index values n) (picked flags values (n + 1) more) v k) [
            | inl is ↦ (n, omega arith, omega arith, on, is)
            | inr there ↦ (let (i, from, to, f, e) = picked_has flags values (n + 1) more v there in (i, omega (arith, from), omega (arith, to), f, e))
          ]
      | inr off ↦
          let k : Contains (picked flags values (n + 1) more) v = rw off at h in
          let (i, from, to, f, e) = picked_has flags values (n + 1) more v k in
          (i, omega (arith, from), omega (arith, to), f, e)
    ]

pub has_picked : (flags : List Bool) (values : List ℕ) (n more i : ℕ) → n ≤ i → i < n + more → get_or flags i false ≡ true → Contains (picked flags values n more) (slice_index values i)
has_picked flags values n zero i from to on = absurd (omega (arith, from, to))
has_picked flags values n (suc more) i from to on =
    elim (eqb_tells i n) [
      | inl h ↦
          let here : get_or flags n false ≡ true = ap (λ (j : ℕ). get_or flags j false) (sym h.1) ∙ on in
          rw here (subst (λ (j : ℕ). Contains (slice_index values n ∷ picked flags values (n + 1) more) (slice_index values j)) (sym h.1) (first_has (slice_index values n) (picked flags values (n + 1) more)))
      | inr h ↦
          let rest = has_picked flags values (n + 1) more i (let ne = h.1 in omega (arith, ne, from)) (omega (arith, to)) on in
          elim (cases_Bool (get_or flags n false)) [
            | inl here ↦ rw here (later_has (slice_index values n) (picked flags values (n + 1) more) (slice_index values i) rest)
            | inr off ↦ rw off rest
          ]
    ]

below_has : (fits : List (List Bool)) (line : ℕ) (values : List ℕ) (n : ℕ) (es : List PendingEntry) (v : ℕ) → Contains (allowed_below fits line values n es) v → (k : ℕ) × (k < n) × Contains (allowed_at fits line values k es) v
below_has fits line values zero es v h = none_has _ v h
below_has fits line values (suc k) es v h =
    elim (Contains-append_cases (allowed_below fits line values k es) (allowed_at fits line values k es) v h) [
      | inl earlier ↦ (let (j, lt, there) = below_has fits line values k es v earlier in (j, omega (arith, lt), there))
      | inr here ↦ (k, omega arith, here)
    ]

has_below : (fits : List (List Bool)) (line : ℕ) (values : List ℕ) (n k : ℕ) (es : List PendingEntry) (v : ℕ) → k < n → Contains (allowed_at fits line values k es) v → Contains (allowed_below fits line values n es) v
has_below fits line values zero k es v lt h = absurd (omega (arith, lt))
has_below fits line values (suc last) k es v lt h =
    elim (eqb_tells k last) [
      | inl e ↦ Contains-append_right (allowed_below fits line values last es) (allowed_at fits line values last es) v (subst (λ (j : ℕ). Contains (allowed_at fits line values j es) v) e.1 h)
      | inr e ↦ Contains-append_left (allowed_below fits line values last es) (allowed_at fits line values last es) v (has_below fits line values last k es v (let ne = e.1 in omega (arith, ne, lt)) h)
    ]

-- where each line has a number that fits
at_has : (fits : List (List Bool)) (line : ℕ) (values : List ℕ) (k : ℕ) (es : List PendingEntry) (v : ℕ) → Contains (allowed_at fits line values k es) v
    → (counts : List ℕ) × (counts_at fits k es ≡ Some counts) × Contains (picked (get_or fits line []) values (low line k es) (before line k es - low line k es + 1)) v
at_has fits line values k es v h = go (counts_at fits k es) refl h
  where
    go : (found : Option (List ℕ)) → counts_at fits k es ≡ found → Contains (if is_some found then picked (get_or fits line []) values (low line k es) (before line k es - low line k es + 1) else []) v
        → (counts : List ℕ) × (counts_at fits k es ≡ Some counts) × Contains (picked (get_or fits line []) values (low line k es) (before line k es - low line k es + 1)) v
    go None e there = none_has _ v there
    go (Some counts) e there = (counts, e, there)

has_at : (fits : List (List Bool)) (line : ℕ) (values : List ℕ) (k : ℕ) (es : List PendingEntry) (v : ℕ) (counts : List ℕ) → counts_at fits k es ≡ Some counts
    → Contains (picked (get_or fits line []) values (low line k es) (before line k es - low line k es + 1)) v → Contains (allowed_at fits line values k es) v
has_at fits line values k es v counts is there =
    subst (λ (found : Option (List ℕ)). Contains (if is_some found then picked (get_or fits line []) values (low line k es) (before line k es - low line k es + 1) else []) v) (sym is) there

value_is : (found : Option ℕ) (value : ℕ) → found ≡ Some value → is_value value found ≡ true
value_is found value is = ap (is_value value) is ∙ eq-eqb value value refl

not_other : (b : Bool) → (not b || true) ≡ true
not_other true = refl
not_other false = refl

-- ---- images

module _ (shape : List ℕ) (m : Memory) (given : List (ℕ × ℕ)) (word : ℕ) (is_shape : IsShape shape) (below : LinesBelow max_lines m.pending) (size : length m.persisted ≡ max_words) where
  abbrev es : List PendingEntry
  es = m.pending

  abbrev xs : List ℕ
  xs = m.persisted

  abbrev fits : List (List Bool)
  fits = agree_below given m all_lines

  -- an image has such values
  abbrev pub Sees : ℕ → Type 0
  Sees value = (image : List ℕ) × IsImage shape m image × Agrees shape image given × (value_of shape image word ≡ Some value)

  inside : (w : ℕ) → has_word shape w ≡ true → line_of w < 64
  inside w there = let on = word_inside shape w there in let few = is_shape.lines in omega (arith, on, few)

  -- the value of a word where so many first writes of its line are persisted
  abbrev after : ℕ → ℕ → ℕ
  after w n = slice_index (written (take n (writes_on (line_of w) es)) xs) w

  -- a line's words then
  look : (line n w : ℕ) → line < 64 → line_of w ≡ line → slice_get (line_after (take n (writes_on line es)) (line_now xs line)) (w % line_words) ≡ Some (after w n)
  look line n w lt on =
      let ws = take n (writes_on line es) in
      let number : 8 * line + w % 8 ≡ w = omega (arith, on) in
      let room : 8 * line + 8 ≤ length xs = omega (arith, lt, size) in
      ap (λ (ys : List ℕ). slice_get ys (w % 8)) (sym (writes_made ws xs line 8 (take_of n line (writes_on line es) (writes_of line es)) room))
      ∙ word_in_line (written ws xs) 8 (w % 8) (8 * line) (omega arith)
      ∙ ap (λ (i : ℕ). Some (slice_index (written ws xs) i)) number
      ∙ ap (λ (l : ℕ). Some (slice_index (written (take n (writes_on l es)) xs) w)) (sym on)

  -- the given words of a line have their values after so many writes
  abbrev AreAfter : ℕ → ℕ → Type 0
  AreAfter line n = (w x : ℕ) → Contains given (w, x) → line_of w ≡ line → after w n ≡ x

  flag_is : (line n : ℕ) → line < 64 → n ≤ length (writes_on line es) → get_or (get_or fits line []) n false ≡ agree line given (line_after (take n (writes_on line es)) (line_now xs line))
  flag_is line n lt few =
      let all = all_is in
      ap (λ (f : List Bool). get_or f n false) (agree_at given m all_lines line (omega (arith, all, lt))) ∙ agree_tells n line given (line_now xs line) es few

  abbrev test : ℕ → ℕ → ℕ × ℕ → Bool
  test line n g = not (line_of g.0 == line) || is_value g.1 (slice_get (line_after (take n (writes_on line es)) (line_now xs line)) (g.0 % line_words))

  flag_says : (line n : ℕ) → line < 64 → n ≤ length (writes_on line es) → get_or (get_or fits line []) n false ≡ true → AreAfter line n
  flag_says line n lt few on w x there same =
      let all : list_all (test line n) given ≡ true = sym (flag_is line n lt few) ∙ on in
      let one : test line n (w, x) ≡ true = each_passes (test line n) given all (w, x) there in
      let here : (line_of w == line) ≡ true = eq-eqb (line_of w) line same in
      let value : is_value x (slice_get (line_after (take n (writes_on line es)) (line_now xs line)) (w % line_words)) ≡ true = rw here at one in
      let is : (after w n == x) ≡ true = sym (ap (is_value x) (look line n w lt same)) ∙ value in
      eqb-true (after w n) x is

  says_flag : (line n : ℕ) → line < 64 → n ≤ length (writes_on line es) → AreAfter line n → get_or (get_or fits line []) n false ≡ true
  says_flag line n lt few are =
      flag_is line n lt few
      ∙ all_pass (test line n) given (λ g there.
      elim (cases_Bool (line_of g.0 == line)) [
        | inl on ↦
            let same : line_of g.0 ≡ line = eqb-true (line_of g.0) line on in
            rw on (value_is (slice_get (line_after (take n (writes_on line es)) (line_now xs line)) (g.0 % line_words)) g.1 (look line n g.0 lt same ∙ ap (λ (v : ℕ). Some v) (are g.0 g.1 there same)))
        | inr off ↦ rw off refl
      ])

  -- the value of a word in what a cut leaves
  value_cut : (count : ℕ → ℕ) (w : ℕ) → has_word shape w ≡ true → value_of shape (image_at shape (image_of all_lines count es xs)) w ≡ Some (after w (count (line_of w)))
  value_cut count w there =
      let lt = inside w there in
      let all = all_is in
      value_read shape (image_of all_lines count es xs) w ∙ rw there (
      ap (λ (v : ℕ). Some v) (word_of_cut all_lines count es xs w (omega (arith, all, lt)) (omega (arith, lt, size))))

  below_all : LinesBelow all_lines es
  below_all = subst (λ (n : ℕ). LinesBelow n es) (sym all_is) below

  -- numbers of writes within what is allowed are a cut
  abbrev Within : ℕ → (ℕ → ℕ) → Type 0
  Within k count = (line : ℕ) → (low line k es ≤ count line) × (count line ≤ before line k es)

  cut_of : (k : ℕ) (count : ℕ → ℕ) → k ≤ markers es → Within k count → IsCut k count es
  cut_of k count few within = record {
    few = few;
    inside = λ line. (within line).1;
    settled = λ j line lt at. (let least = (within line).0 in let asked = asked_low line k j es lt at in omega (arith, least, asked));
  }

  -- the counts that were found, with another number for the line of the word
  abbrev counted : List ℕ → ℕ → ℕ → ℕ
  counted counts n line = if line == line_of word then n else slice_index counts line

  module _ (k : ℕ) (counts : List ℕ) (is : counts_at fits k es ≡ Some counts) where
    are : (line : ℕ) → line < 64 → (low line k es ≤ slice_index counts line) × (slice_index counts line ≤ before line k es) × (get_or (get_or fits line []) (slice_index counts line) false ≡ true)
    are line lt =
        let all = all_is in
        let first = (counts_are fits (λ line. low line k es) (λ line. before line k es) all_lines counts (omega (arith, all)) is).first line (omega (arith, all, lt)) in
        let f = first_true_is (get_or fits line []) (low line k es) (before line k es - low line k es + 1) (slice_index counts line) first in
        let b = low_within line k es in
        let at_most = f.1 in
        (f.0, omega (arith, at_most, b), f.2)

    within_all : (line : ℕ) → (low line k es ≤ slice_index counts line) × (slice_index counts line ≤ before line k es)
    within_all line =
        elim (cases_lt line 64) [
          | inl lt ↦ ((are line lt).0, (are line lt).1)
          | inr past ↦
              let all = all_is in
              let none = (counts_are fits (λ line. low line k es) (λ line. before line k es) all_lines counts (omega (arith, all)) is).none line (omega (arith, all, past)) in
              let most = before_none 64 line k es below past in
              let least = low_within line k es in
              (omega (arith, none, most, least), omega (arith, none))
        ]

    module _ (n : ℕ) (least : low (line_of word) k es ≤ n) (most : n ≤ before (line_of word) k es) (on : get_or (get_or fits (line_of word) []) n false ≡ true) where
      within : Within k (counted counts n)
      within line =
          elim (cases_Bool (line == line_of word)) [
            | inl same ↦ (let e : line ≡ line_of word = eqb-true line (line_of word) same in rw same (subst (λ (l : ℕ). (low l k es ≤ n) × (n ≤ before l k es)) (sym e) (least, most)))
            | inr other ↦ rw other (within_all line)
          ]

      flag_of : (line : ℕ) → line < 64 → get_or (get_or fits line []) (counted counts n line) false ≡ true
      flag_of line lt =
          elim (cases_Bool (line == line_of word)) [
            | inl same ↦ (let e : line ≡ line_of word = eqb-true line (line_of word) same in rw same (subst (λ (l : ℕ). get_or (get_or fits l []) n false ≡ true) (sym e) on))
            | inr other ↦ rw other ((are line lt).2)
          ]

  counted_here : (counts : List ℕ) (n : ℕ) → counted counts n (line_of word) ≡ n
  counted_here counts n = rw (eq-eqb (line_of word) (line_of word) refl) refl

  module _ (there : has_all shape given word ≡ true) where
    word_there : has_word shape word ≡ true
    word_there = (and_parts (list_all (λ g. has_word shape g.0) given) (has_word shape word) there).1

    given_there : (w x : ℕ) → Contains given (w, x) → has_word shape w ≡ true
    given_there w x h = each_passes (λ (g : ℕ × ℕ). has_word shape g.0) given (and_parts (list_all (λ g. has_word shape g.0) given) (has_word shape word) there).0 (w, x) h

    column_is : (n : ℕ) → n ≤ length (writes_on (line_of word) es) → slice_index (column_of word m) n ≡ after word n
    column_is n few = column_tells n (line_of word) word (slice_index xs word) es xs refl (let lt = inside word word_there in omega (arith, lt, size)) few

    -- what is found, an image has
    seen_found : (k : ℕ) (v : ℕ) → k < markers es + 1 → Contains (allowed_at fits (line_of word) (column_of word m) k es) v → Sees v
    seen_found k v lt h =
        let (counts, is, h') = at_has fits (line_of word) (column_of word m) k es v h in
        let (n, from, to, on, e) = picked_has (get_or fits (line_of word) []) (column_of word m) (low (line_of word) k es) (before (line_of word) k es - low (line_of word) k es + 1) v h' in
        let ordered = low_within (line_of word) k es in
        let most : n ≤ before (line_of word) k es = omega (arith, to, ordered) in
        let count : ℕ → ℕ = counted counts n in
        let persisted = image_of all_lines count es xs in
        let cut = cut_of k count (omega (arith, lt)) (within k counts is n from most on) in
        let reached = (cut_law all_lines m persisted below_all).1 (k, count, cut, refl) in
        let few : (line : ℕ) → count line ≤ length (writes_on line es) = λ line. (let a = cut.inside line in let b = before_within line k es in omega (arith, a, b)) in (
          image_at shape persisted,
          (persisted, reached, refl),
          (λ w x g.
              let here = given_there w x g in
              let lt' = inside w here in
              value_cut count w here ∙ ap (λ (y : ℕ). Some y) (flag_says (line_of w) (count (line_of w)) lt' (few (line_of w)) (flag_of k counts is n from most on (line_of w) lt') w x g refl)),
          value_cut count word word_there
              ∙ ap (λ (i : ℕ). Some (after word i)) (counted_here counts n)
              ∙ ap (λ (y : ℕ). Some y) (sym (column_is n (let b = before_within (line_of word) k es in omega (arith, most, b))) ∙ e),
        )

    -- what an image has, is found
    found_seen : (v : ℕ) → Sees v → Contains (allowed_below fits (line_of word) (column_of word m) (markers es + 1) es) v
    found_seen v (image, (persisted, reached, shown), agrees, value) =
        let (k, count, cut, left) = (cut_law all_lines m persisted below_all).0 reached in
        let is : image ≡ image_at shape (image_of all_lines count es xs) = shown ∙ ap (image_at shape) left in
        let all = all_is in
        let few : (line : ℕ) → count line ≤ length (writes_on line es) = λ line. (let a = cut.inside line in let b = before_within line k es in omega (arith, a, b)) in
        let least : (line : ℕ) → low line k es ≤ count line = λ line. low_asked line k es (count line) (λ j lt' is'. cut.settled j line lt' is') in
        let known : (w x : ℕ) → has_word shape w ≡ true → value_of shape image w ≡ Some x → after w (count (line_of w)) ≡ x =
        λ w x here e. (let both : Some (after w (count (line_of w))) ≡ Some x = sym (value_cut count w here) ∙ ap (λ (i : List ℕ). value_of shape i w) (sym is) ∙ e in cc) in
        let flag : (line : ℕ) → line < 64 → get_or (get_or fits line []) (count line) false ≡ true =
        λ line lt. says_flag line (count line) lt (few line) (λ w x g same. ap (λ (l : ℕ). after w (count l)) (sym same) ∙ known w x (given_there w x g) (agrees w x g)) in
        let (counts, there') = counts_there fits (λ line. low line k es) (λ line. before line k es) all_lines (λ line lt. (
        let a = least line in
        let b = cut.inside line in
        let f = first_true_there (get_or fits line []) (low line k es) (before line k es - low line k es + 1) (count line) a (omega (arith, a, b)) (flag line (omega (arith, all, lt))) in
        (f.0, f.1))) in
        let own = line_of word in
        let n = count own in
        let a = least own in
        let b = cut.inside own in
        let one = has_picked (get_or fits own []) (column_of word m) (low own k es) (before own k es - low own k es + 1) n a (omega (arith, a, b)) (flag own (inside word word_there)) in
        let e : slice_index (column_of word m) n ≡ v = column_is n (few own) ∙ known word v word_there value in
        has_below fits own (column_of word m) (markers es + 1) k es v (let c = cut.few in omega (arith, c))
        (has_at fits own (column_of word m) k es v counts there' (subst (λ (y : ℕ). Contains (picked (get_or fits own []) (column_of word m) (low own k es) (before own k es - low own k es + 1)) y) e one))

    pub found_exact : (v : ℕ) → Contains (allowed_below fits (line_of word) (column_of word m) (markers es + 1) es) v ↔ Sees v
    found_exact v = (
      (λ h. let (k, lt, here) = below_has fits (line_of word) (column_of word m) (markers es + 1) es v h in seen_found k v lt here),
      (λ h. found_seen v h),
    )

  -- where the shape lacks a word, no image has these values
  lacks : (w x : ℕ) (image : List ℕ) → IsImage shape m image → value_of shape image w ≡ Some x → has_word shape w ≡ true
  lacks w x image (persisted, reached, shown) e =
      elim (cases_Bool (has_word shape w)) [
        | inl here ↦ here
        | inr off ↦
            let none : value_of shape image w ≡ None = ap (λ (i : List ℕ). value_of shape i w) shown ∙ value_read shape persisted w ∙ rw off refl in
            absurd (let bad : Some x ≡ None = sym e ∙ none in cc)
      ]

  pub none_seen : has_all shape given word ≡ false → (v : ℕ) → Sees v → ⊥
  none_seen off v (image, is, agrees, value) =
      let each : list_all (λ (g : ℕ × ℕ). has_word shape g.0) given ≡ true = all_pass (λ (g : ℕ × ℕ). has_word shape g.0) given (λ g h. lacks g.0 g.1 image is (agrees g.0 g.1 h)) in
      let own = lacks word v image is value in
      true≢false (sym (rw (each, own) refl) ∙ off)
