-- The parts of an image: what cuts leave of each line.
use Rattle.std.proofs.Common.{◌≡◌, ℕ, zero, suc, ◌+◌, ◌*◌, ◌%◌, ◌<◌, ◌≤◌, List, [], ◌∷◌, ◌++◌, take, drop, length, length-append, length-drop, length-set, get_or-set_same, get_or-set_other, refl, ap, ap₂, sym, ◌∙◌, arith, inl, inr}
use Rattle.std.specs.Prelude.{All, slice_index, slice_set}
use Rattle.std.proofs.Math.Seq.{take-append_seam, drop-append_seam}
use Rattle.std.proofs.lemmas.Bool.{cases_lt}
use Rattle.std.proofs.lemmas.Bool.Decides.{eqb_tells}
use Rattle.std.proofs.lemmas.List.{nil_from_length, set_past, take-append-drop}
use Rattle.std.proofs.lemmas.List.Elements.{All-head, All-tail}
use Rattle.std.proofs.lemmas.List.FromFn.{length-map-range_with_len}
use Rattle.lines_layout.specs.Lines.{line_of, line_words}
use Rattle.persist_buffer.specs.declared.entry.PendingEntry.{PendingEntry}
use Rattle.persist_buffer.specs.declared.entry.PendingEntry.TheVariants.{Write, Marker}
use Rattle.persist_buffer.specs.Listings.{writes_on}
use Rattle.pending_images.specs.LeastCuts.{part_of}
use Rattle.pending_images.specs.Cuts.{image_of, written}
use Rattle.pending_images.proofs.CutOfRun.{AreElsewhere, elsewhere-take, elsewhere-writes}
use Rattle.pending_images.proofs.PartsByLine.{part_past}
use Rattle.pending_images.proofs.WritesChangeOnePlace.{apart_block, block, first_line, image_from, set_block}
use Rattle.pending_images.proofs.SettledImages.{length-image_of}

-- writes of other lines leave a word as it is
other_written : (es : List PendingEntry) (xs : List ℕ) (word : ℕ) → AreElsewhere (line_of word) es → slice_index (written es xs) word ≡ slice_index xs word
other_written [] xs word h = refl
other_written (Write x v ∷ es) xs word h = other_written es (slice_set xs x v) word h.1 ∙ get_or-set_other xs x word v 0 (λ e. h.0 (ap line_of (sym e)))
other_written (Marker l ∷ es) xs word h = other_written es xs word h.1

-- a word's value after writes rests on its value before them alone
same_written : (es : List PendingEntry) (xs ys : List ℕ) (word : ℕ) → word < length xs → length xs ≡ length ys → slice_index xs word ≡ slice_index ys word → slice_index (written es xs) word ≡ slice_index (written es ys) word
same_written [] xs ys word inside size same = same
same_written (Write x v ∷ es) xs ys word inside size same =
    let a = length-set xs x v in
    let b = length-set ys x v in
    same_written es (slice_set xs x v) (slice_set ys x v) word (omega (arith, inside, a)) (omega (arith, a, b, size)) (
    elim (eqb_tells word x) [
      | inl h ↦
          let there : x < length xs = (let e = h.1 in omega (arith, e, inside)) in
          let there' : x < length ys = omega (arith, there, size) in
          ap (λ (w : ℕ). slice_index (slice_set xs x v) w) h.1 ∙ get_or-set_same xs x v 0 there ∙ sym (get_or-set_same ys x v 0 there') ∙ ap (λ (w : ℕ). slice_index (slice_set ys x v) w) (sym h.1)
      | inr h ↦ get_or-set_other xs x word v 0 h.1 ∙ same ∙ sym (get_or-set_other ys x word v 0 h.1)
    ]
    )
same_written (Marker l ∷ es) xs ys word inside size same = same_written es xs ys word inside size same

-- lines below that of a word leave it as it is
earlier_lines : (lines : ℕ) (count : ℕ → ℕ) (es : List PendingEntry) (xs : List ℕ) (word : ℕ) → lines ≤ line_of word → slice_index (image_of lines count es xs) word ≡ slice_index xs word
earlier_lines zero count es xs word low = refl
earlier_lines (suc line) count es xs word low =
    other_written (take (count line) (writes_on line es)) (image_of line count es xs) word
    (elsewhere-take (count line) (line_of word) (writes_on line es) (elsewhere-writes (line_of word) line es (omega (arith, low))))
    ∙ earlier_lines line count es xs word (omega (arith, low))

-- a word's value is what the writes of its line leave
pub word_of_cut : (lines : ℕ) (count : ℕ → ℕ) (es : List PendingEntry) (xs : List ℕ) (word : ℕ) → line_of word < lines → word < length xs
    → slice_index (image_of lines count es xs) word ≡ slice_index (written (take (count (line_of word)) (writes_on (line_of word) es)) xs) word
word_of_cut zero count es xs word below inside = absurd (omega (arith, below))
word_of_cut (suc line) count es xs word below inside =
    elim (eqb_tells line (line_of word)) [
      | inl h ↦
          let low : line ≤ line_of word = (let e = h.1 in omega (arith, e)) in
          let size = length-image_of line count es xs in
          same_written (take (count line) (writes_on line es)) (image_of line count es xs) xs word (omega (arith, size, inside)) size (earlier_lines line count es xs word low)
          ∙ ap (λ (l : ℕ). slice_index (written (take (count l) (writes_on l es)) xs) word) h.1
      | inr h ↦
          other_written (take (count line) (writes_on line es)) (image_of line count es xs) word
          (elsewhere-take (count line) (line_of word) (writes_on line es) (elsewhere-writes (line_of word) line es h.1))
          ∙ word_of_cut line count es xs word (let ne = h.1 in omega (arith, ne, below)) inside
    ]

-- words whose values are the same
same_block : (n start : ℕ) (xs ys : List ℕ) → ((k : ℕ) → k < n → slice_index xs (start + k) ≡ slice_index ys (start + k)) → block xs start n ≡ block ys start n
same_block zero start xs ys h = refl
same_block (suc n) start xs ys h =
    let e : start + 0 ≡ start = omega arith in
    ap₂ (λ (x : ℕ) (zs : List ℕ). x ∷ zs) (ap (slice_index xs) (sym e) ∙ h 0 (omega arith) ∙ ap (slice_index ys) e)
    (same_block n (start + 1) xs ys (λ k lt. let f : start + 1 + k ≡ start + (k + 1) = omega arith in ap (slice_index xs) f ∙ h (k + 1) (omega (arith, lt)) ∙ ap (slice_index ys) (sym f)))

-- a line's values are what its own writes leave
pub line_of_cut : (lines : ℕ) (count : ℕ → ℕ) (es : List PendingEntry) (xs : List ℕ) (line n : ℕ) → n ≤ 8 → line < lines → 8 * lines ≤ length xs
    → block (image_of lines count es xs) (8 * line) n ≡ block (written (take (count line) (writes_on line es)) xs) (8 * line) n
line_of_cut lines count es xs line n short below size =
    same_block n (8 * line) (image_of lines count es xs) (written (take (count line) (writes_on line es)) xs) (λ k lt.
    let on : line_of (8 * line + k) ≡ line = omega (arith, lt, short) in
    let there : line_of (8 * line + k) < lines = omega (arith, on, below) in
    let inside : 8 * line + k < length xs = omega (arith, lt, short, below, size) in
    word_of_cut lines count es xs (8 * line + k) there inside
    ∙ ap (λ (l : ℕ). slice_index (written (take (count l) (writes_on l es)) xs) (8 * line + k)) on)

-- a line's values after writes of it
abbrev pub line_after : List PendingEntry → List ℕ → List ℕ
line_after [] values = values
line_after (Write word value ∷ es) values = line_after es (slice_set values (word % 8) value)
line_after (Marker l ∷ es) values = line_after es values

-- no entry is of another line
abbrev pub AreOf : ℕ → List PendingEntry → Type 0
AreOf line [] = Unit {0}
AreOf line (Write word value ∷ es) = (line_of word ≡ line) × AreOf line es
AreOf line (Marker l ∷ es) = AreOf line es

pub take_of : (n line : ℕ) (es : List PendingEntry) → AreOf line es → AreOf line (take n es)
take_of zero line es h = tt
take_of (suc n) line [] h = tt
take_of (suc n) line (Write word value ∷ es) h = (h.0, take_of n line es h.1)
take_of (suc n) line (Marker l ∷ es) h = take_of n line es h

pub writes_of : (line : ℕ) (es : List PendingEntry) → AreOf line (writes_on line es)
writes_of line [] = tt
writes_of line (Write word value ∷ es) =
    elim (eqb_tells (line_of word) line) [
      | inl h ↦ rw h.0 (h.1, writes_of line es)
      | inr h ↦ rw h.0 (writes_of line es)
    ]
writes_of line (Marker l ∷ es) = writes_of line es

one_write : (xs : List ℕ) (word value line n : ℕ) → line_of word ≡ line → word < length xs → block (slice_set xs word value) (8 * line) n ≡ slice_set (block xs (8 * line) n) (word % 8) value
one_write xs word value line n on inside =
    let number : word ≡ 8 * line + word % 8 = omega (arith, on) in
    elim (cases_lt (word % 8) n) [
      | inl lt ↦ set_block xs word value (word % 8) n (8 * line) lt number inside
      | inr ge ↦
          apart_block xs word value n (8 * line) (λ k b e. omega (arith, number, ge, b, e))
          ∙ sym (set_past (block xs (8 * line) n) (word % 8) value (let s = length-map-range_with_len (slice_index xs) (8 * line) n in omega (arith, s, ge)))
    ]

pub writes_made : (es : List PendingEntry) (xs : List ℕ) (line n : ℕ) → AreOf line es → 8 * line + 8 ≤ length xs → block (written es xs) (8 * line) n ≡ line_after es (block xs (8 * line) n)
writes_made [] xs line n h size = refl
writes_made (Write word value ∷ es) xs line n h size =
    let on = h.0 in
    let inside : word < length xs = omega (arith, on, size) in
    let s = length-set xs word value in
    writes_made es (slice_set xs word value) line n h.1 (omega (arith, s, size)) ∙ ap (line_after es) (one_write xs word value line n on inside)
writes_made (Marker l ∷ es) xs line n h size = writes_made es xs line n h size

-- a part of an image is the values of a line's words
part_is_block : (shape : List ℕ) (xs : List ℕ) (g line : ℕ) → line < length shape → part_of shape (image_from g shape xs) line ≡ block xs (8 * (g + line)) (slice_index shape line)
part_is_block [] xs g line lt = absurd (omega (arith, lt))
part_is_block (n ∷ shape) xs g zero lt =
    let size = length-map-range_with_len (slice_index xs) (8 * g) n in
    let here : g + 0 ≡ g = omega arith in
    ap (take n) (first_line xs g n shape)
    ∙ ap (λ (m : ℕ). take m (block xs (8 * g) n ++ image_from (g + 1) shape xs)) (sym size)
    ∙ take-append_seam (block xs (8 * g) n) (image_from (g + 1) shape xs)
    ∙ ap (λ (h : ℕ). block xs (8 * h) n) (sym here)
part_is_block (n ∷ shape) xs g (suc line) lt =
    let size = length-map-range_with_len (slice_index xs) (8 * g) n in
    let there : g + 1 + line ≡ g + suc line = omega arith in
    let rest : drop n (image_from g (n ∷ shape) xs) ≡ image_from (g + 1) shape xs =
    ap (drop n) (first_line xs g n shape)
    ∙ ap (λ (m : ℕ). drop m (block xs (8 * g) n ++ image_from (g + 1) shape xs)) (sym size)
    ∙ drop-append_seam (block xs (8 * g) n) (image_from (g + 1) shape xs) in
    ap (λ (ys : List ℕ). part_of shape ys line) rest
    ∙ part_is_block shape xs (g + 1) line (omega (arith, lt))
    ∙ ap (λ (h : ℕ). block xs (8 * h) (slice_index shape line)) there

after_nothing : (es : List PendingEntry) → line_after es [] ≡ []
after_nothing [] = refl
after_nothing (Write word value ∷ es) = ap (line_after es) (set_past [] (word % 8) value (omega arith)) ∙ after_nothing es
after_nothing (Marker l ∷ es) = after_nothing es

short_line : (shape : List ℕ) (line : ℕ) → All (λ n. n ≤ line_words) shape → line < length shape → slice_index shape line ≤ 8
short_line [] line short lt = absurd (omega (arith, lt))
short_line (n ∷ shape) zero short lt = All-head (λ m. m ≤ line_words) n shape short
short_line (n ∷ shape) (suc line) short lt = short_line shape line (All-tail (λ m. m ≤ line_words) n shape short) (omega (arith, lt))

-- what a cut leaves of a line is what its own writes leave
pub part_of_cut : (lines : ℕ) (count : ℕ → ℕ) (es : List PendingEntry) (xs shape : List ℕ) (line : ℕ) → All (λ n. n ≤ line_words) shape → line < lines → 8 * lines ≤ length xs
    → part_of shape (image_from 0 shape (image_of lines count es xs)) line ≡ line_after (take (count line) (writes_on line es)) (part_of shape (image_from 0 shape xs) line)
part_of_cut lines count es xs shape line short below size =
    elim (cases_lt line (length shape)) [
      | inl there ↦
          let n = slice_index shape line in
          let e : 0 + line ≡ line = omega arith in
          let few = short_line shape line short there in
          part_is_block shape (image_of lines count es xs) 0 line there
          ∙ ap (λ (h : ℕ). block (image_of lines count es xs) (8 * h) n) e
          ∙ line_of_cut lines count es xs line n few below size
          ∙ writes_made (take (count line) (writes_on line es)) xs line n (take_of (count line) line (writes_on line es) (writes_of line es)) (omega (arith, below, size))
          ∙ ap (line_after (take (count line) (writes_on line es))) (ap (λ (h : ℕ). block xs (8 * h) n) (sym e) ∙ sym (part_is_block shape xs 0 line there))
      | inr past ↦
          part_past shape (image_from 0 shape (image_of lines count es xs)) line past
          ∙ sym (after_nothing (take (count line) (writes_on line es)))
          ∙ ap (line_after (take (count line) (writes_on line es))) (sym (part_past shape (image_from 0 shape xs) line past))
    ]

-- how many words a shape has
abbrev pub total : List ℕ → ℕ
total [] = 0
total (n ∷ shape) = n + total shape

pub length-image_from : (shape : List ℕ) (xs : List ℕ) (g : ℕ) → length (image_from g shape xs) ≡ total shape
length-image_from [] xs g = refl
length-image_from (n ∷ shape) xs g =
    let a = ap length (first_line xs g n shape) in
    let b = length-append (block xs (8 * g) n) (image_from (g + 1) shape xs) in
    let c = length-map-range_with_len (slice_index xs) (8 * g) n in
    let d = length-image_from shape xs (g + 1) in
    omega (arith, a, b, c, d)

-- images with the same parts are the same
pub same_parts : (shape a b : List ℕ) → length a ≡ total shape → length b ≡ total shape → ((line : ℕ) → part_of shape a line ≡ part_of shape b line) → a ≡ b
same_parts [] a b size_a size_b h = nil_from_length a size_a ∙ sym (nil_from_length b size_b)
same_parts (n ∷ shape) a b size_a size_b h =
    let x = length-drop n a in
    let y = length-drop n b in
    sym (take-append-drop n a)
    ∙ ap₂ (λ (c d : List ℕ). c ++ d) (h 0) (same_parts shape (drop n a) (drop n b) (omega (arith, x, size_a)) (omega (arith, y, size_b)) (λ line. h (suc line)))
    ∙ take-append-drop n b
