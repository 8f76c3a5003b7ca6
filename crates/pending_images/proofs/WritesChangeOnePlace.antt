-- A write changes one place of an image, or none.
use Rattle.std.proofs.Common.{◌≡◌, ◌≢◌, ℕ, zero, suc, ◌+◌, ◌-◌, ◌*◌, ◌%◌, ◌<◌, ◌≤◌, true, false, cond, List, take, drop, [], ◌∷◌, ◌++◌, length, map, get_or, set, refl, sym, ap, subst, ◌∙◌, arith, inl, inr, true≢false, length-set, get_or-set_same, get_or-set_other, ap₂}
use Rattle.std.specs.Prelude.{Some, count_by, slice_get, slice_index, slice_range, slice_set, ◌==◌, ◌&&◌, nat_lt, All}
use Rattle.std.specs.List.{range_with_len}
use Rattle.std.proofs.lemmas.List.Elements.{All-head, All-tail}
use Rattle.std.proofs.lemmas.Bool.{cases_Bool, eqb-true, eq-eqb, and_parts}
use Rattle.std.proofs.lemmas.Bool.Decides.{nat_tests}
use Rattle.std.proofs.lemmas.List.{map-append, set-append_left, set-append_right}
use Rattle.std.proofs.lemmas.List.Edits.{length-between}
use Rattle.std.proofs.lemmas.List.Sums.{length-filter}
use Rattle.std.proofs.lemmas.List.FromFn.{length-map-range_with_len}
use Rattle.lines_layout.specs.Lines.{line_words, line_of, max_lines, max_words}
use Rattle.persist_buffer.specs.declared.entry.PendingEntry.{PendingEntry}
use Rattle.persist_buffer.specs.declared.entry.PendingEntry.TheVariants.{Write, Marker}
use Rattle.pending_images.specs.Cuts.{written}
use Rattle.pending_images.specs.Images.{image_at, place_from, place_of}
use Rattle.pending_images.specs.Candidates.{before, low}
use Rattle.pending_images.specs.Products.{made, open_at, placed, placed_on}
use Rattle.pending_images.proofs.CountsBeforeMarkers.{before_within}
use Rattle.lines_layout.specs.Shapes.{words_from}
use Rattle.persist_buffer.specs.Memories.{is_write_on}
use Rattle.persist_buffer.specs.Listings.{LinesBelow, writes_on}

-- the values of words from a first one on
abbrev pub block : List ℕ → ℕ → ℕ → List ℕ
block xs start n = map (slice_index xs) (range_with_len start n)

-- a write to a word before or behind them
pub apart_block : (xs : List ℕ) (word v n start : ℕ) → ((k : ℕ) → k < n → start + k ≢ word) → block (slice_set xs word v) start n ≡ block xs start n
apart_block xs word v zero start apart = refl
apart_block xs word v (suc n) start apart =
    ap₂ (λ (x : ℕ) (ys : List ℕ). x ∷ ys) (get_or-set_other xs word start v 0 (λ same. apart 0 (omega arith) (omega (arith, same))))
    (apart_block xs word v n (start + 1) (λ k below same. apart (k + 1) (omega (arith, below)) (omega (arith, same))))

-- a write to the one at place i
pub set_block : (xs : List ℕ) (word v i n start : ℕ) → i < n → word ≡ start + i → word < length xs → block (slice_set xs word v) start n ≡ slice_set (block xs start n) i v
set_block xs word v i zero start below is within = absurd (omega (arith, below))
set_block xs word v zero (suc n) start below is within =
    let same : start ≡ word = omega (arith, is) in
    ap₂ (λ (x : ℕ) (ys : List ℕ). x ∷ ys) (ap (λ (k : ℕ). get_or (set xs word v) k 0) same ∙ get_or-set_same xs word v 0 within)
    (apart_block xs word v n (start + 1) (λ k b e. omega (arith, same, e)))
set_block xs word v (suc i) (suc n) start below is within =
    ap₂ (λ (x : ℕ) (ys : List ℕ). x ∷ ys) (get_or-set_other xs word start v 0 (λ e. omega (arith, is, e)))
    (set_block xs word v i n (start + 1) (omega (arith, below)) (omega (arith, is)) within)

abbrev pub image_from : ℕ → List ℕ → List ℕ → List ℕ
image_from g shape xs = map (slice_index xs) (words_from g shape)

-- the values of a line's words, and those of the lines after it
pub first_line : (xs : List ℕ) (g n : ℕ) (shape : List ℕ) → image_from g (n ∷ shape) xs ≡ block xs (8 * g) n ++ image_from (g + 1) shape xs
first_line xs g n shape = map-append (slice_index xs) (range_with_len (8 * g) n) (words_from (g + 1) shape)

-- a write to a word of a line before these
earlier_line : (xs : List ℕ) (word v g : ℕ) (shape : List ℕ) → word < 8 * g → image_from g shape (slice_set xs word v) ≡ image_from g shape xs
earlier_line xs word v g [] below = refl
earlier_line xs word v g (n ∷ shape) below =
    first_line (slice_set xs word v) g n shape
    ∙ ap₂ (λ (a b : List ℕ). a ++ b) (apart_block xs word v n (8 * g) (λ k b e. omega (arith, below, e))) (earlier_line xs word v (g + 1) shape (omega (arith, below)))
    ∙ sym (first_line xs g n shape)

-- a word that a line lacks is before or behind its words
not_there : (word g n k : ℕ) → n ≤ 8 → (line_of word == g) && nat_lt (word % 8) n ≡ false → k < n → 8 * g + k ≢ word
not_there word g n k short off below same =
    let line : line_of word ≡ g = omega (arith, same, short, below) in
    let inside : word % 8 < n = omega (arith, same, short, below) in
    let on : (line_of word == g) ≡ true = eq-eqb (line_of word) g line in
    let short_of : nat_lt (word % 8) n ≡ true = grind (arith, nat_tests, inside) in
    true≢false (sym (rw (on, short_of) refl) ∙ off)

pub set_image : (xs : List ℕ) (word v g : ℕ) (shape : List ℕ) → All (λ n. n ≤ line_words) shape → word < length xs
    → image_from g shape (slice_set xs word v) ≡ slice_set (image_from g shape xs) (place_from g shape word) v
set_image xs word v g [] short within = refl
set_image xs word v g (n ∷ shape) short within =
    let few : n ≤ 8 = All-head (λ m. m ≤ line_words) n shape short in
    let size = length-map-range_with_len (slice_index xs) (8 * g) n in
    elim (cases_Bool ((line_of word == g) && nat_lt (word % 8) n)) [
      | inl on ↦
          let here = and_parts _ _ on in
          let line : line_of word ≡ g = eqb-true (line_of word) g here.0 in
          let test = here.1 in
          let inside : word % 8 < n = grind (arith, nat_tests, test) in
          let number : word ≡ 8 * g + word % 8 = omega (arith, line) in
          let place : place_from g (n ∷ shape) word ≡ word % 8 = rw on refl in
          let left : word % 8 < length (block xs (8 * g) n) = subst (λ (m : ℕ). word % 8 < m) (sym size) inside in
          first_line (slice_set xs word v) g n shape
          ∙ ap₂ (λ (a b : List ℕ). a ++ b) (set_block xs word v (word % 8) n (8 * g) inside number within) (earlier_line xs word v (g + 1) shape (omega (arith, line)))
          ∙ sym (set-append_left (block xs (8 * g) n) (image_from (g + 1) shape xs) (word % 8) v left)
          ∙ ap₂ (λ (ys : List ℕ) (k : ℕ). slice_set ys k v) (sym (first_line xs g n shape)) (sym place)
      | inr off ↦
          let place : place_from g (n ∷ shape) word ≡ n + place_from (g + 1) shape word = rw off refl in
          let less : n + place_from (g + 1) shape word - n ≡ place_from (g + 1) shape word = omega arith in
          first_line (slice_set xs word v) g n shape
          ∙ ap₂ (λ (a b : List ℕ). a ++ b) (apart_block xs word v n (8 * g) (λ k b. not_there word g n k few off b)) (set_image xs word v (g + 1) shape (All-tail (λ m. m ≤ line_words) n shape short) within)
          ∙ sym (set-append_right (block xs (8 * g) n) (image_from (g + 1) shape xs) n (n + place_from (g + 1) shape word) v size (omega arith)
          ∙ ap (λ (k : ℕ). block xs (8 * g) n ++ slice_set (image_from (g + 1) shape xs) k v) less)
          ∙ ap₂ (λ (ys : List ℕ) (k : ℕ). slice_set ys k v) (sym (first_line xs g n shape)) (sym place)
    ]

-- entries that write to words below a number
abbrev pub AreBelow : ℕ → List PendingEntry → Type 0
AreBelow most [] = Unit {0}
AreBelow most (Write word value ∷ es) = (word < most) × AreBelow most es
AreBelow most (Marker line ∷ es) = AreBelow most es

pub written_image : (shape : List ℕ) → All (λ n. n ≤ line_words) shape → (es : List PendingEntry) (xs : List ℕ) → AreBelow (length xs) es
    → image_at shape (written es xs) ≡ made (placed shape es) (image_at shape xs)
written_image shape short [] xs below = refl
written_image shape short (Write word value ∷ es) xs below =
    let same : length xs ≡ length (slice_set xs word value) = sym (length-set xs word value) in
    written_image shape short es (slice_set xs word value) (subst (λ (n : ℕ). AreBelow n es) same below.1)
    ∙ ap (λ (ys : List ℕ). made (placed shape es) ys) (set_image xs word value 0 shape short below.0)
written_image shape short (Marker line ∷ es) xs below = written_image shape short es xs below

pub writes_below : (line : ℕ) (es : List PendingEntry) → LinesBelow max_lines es → AreBelow max_words (writes_on line es)
writes_below line [] below = tt
writes_below line (Write word value ∷ es) below =
    let rest = writes_below line es below.1 in
    elim (line_of word == line) as (λ b. AreBelow max_words (cond b (Write word value ∷ writes_on line es) (writes_on line es))) [ true ↦ (omega (arith, below.0), rest) | false ↦ rest ]
writes_below line (Marker other ∷ es) below = writes_below line es below

pub take_below : (most n : ℕ) (es : List PendingEntry) → AreBelow most es → AreBelow most (take n es)
take_below most zero es below = tt
take_below most (suc n) [] below = tt
take_below most (suc n) (Write word value ∷ es) below = (below.0, take_below most n es below.1)
take_below most (suc n) (Marker line ∷ es) below = take_below most n es below

pub drop_below : (most n : ℕ) (es : List PendingEntry) → AreBelow most es → AreBelow most (drop n es)
drop_below most zero es below = below
drop_below most (suc n) [] below = tt
drop_below most (suc n) (Write word value ∷ es) below = drop_below most n es below.1
drop_below most (suc n) (Marker line ∷ es) below = drop_below most n es below

pub length-written : (es : List PendingEntry) (xs : List ℕ) → length (written es xs) ≡ length xs
length-written [] xs = refl
length-written (Write word value ∷ es) xs = length-written es (slice_set xs word value) ∙ length-set xs word value
length-written (Marker line ∷ es) xs = length-written es xs

-- no entry is a marker
abbrev pub AreWrites : List PendingEntry → Type 0
AreWrites [] = Unit {0}
AreWrites (Write word value ∷ es) = AreWrites es
AreWrites (Marker line ∷ es) = ⊥

pub writes_are : (line : ℕ) (es : List PendingEntry) → AreWrites (writes_on line es)
writes_are line [] = tt
writes_are line (Write word value ∷ es) =
    let rest = writes_are line es in
    elim (line_of word == line) as (λ b. AreWrites (cond b (Write word value ∷ writes_on line es) (writes_on line es))) [ true ↦ rest | false ↦ rest ]
writes_are line (Marker other ∷ es) = writes_are line es

drop_writes : (n : ℕ) (es : List PendingEntry) → AreWrites es → AreWrites (drop n es)
drop_writes zero es h = h
drop_writes (suc n) [] h = tt
drop_writes (suc n) (Write word value ∷ es) h = drop_writes n es h
drop_writes (suc n) (Marker line ∷ es) h = absurd h

take_placed : (shape : List ℕ) (n : ℕ) (es : List PendingEntry) → AreWrites es → take n (placed shape es) ≡ placed shape (take n es)
take_placed shape zero es h = refl
take_placed shape (suc n) [] h = refl
take_placed shape (suc n) (Write word value ∷ es) h = ap (λ (ws : List (ℕ × ℕ)). (place_of shape word, value) ∷ ws) (take_placed shape n es h)
take_placed shape (suc n) (Marker line ∷ es) h = absurd h

drop_placed : (shape : List ℕ) (n : ℕ) (es : List PendingEntry) → AreWrites es → drop n (placed shape es) ≡ placed shape (drop n es)
drop_placed shape zero es h = refl
drop_placed shape (suc n) [] h = refl
drop_placed shape (suc n) (Write word value ∷ es) h = drop_placed shape n es h
drop_placed shape (suc n) (Marker line ∷ es) h = absurd h

length_placed : (shape : List ℕ) (es : List PendingEntry) → AreWrites es → length (placed shape es) ≡ length es
length_placed shape [] h = refl
length_placed shape (Write word value ∷ es) h = ap (λ n. suc n) (length_placed shape es h)
length_placed shape (Marker line ∷ es) h = absurd h

-- the first writes of a line, some from a place on, and how many there are
pub first_placed : (shape : List ℕ) (line n : ℕ) (es : List PendingEntry) → take n (placed_on shape line es) ≡ placed shape (take n (writes_on line es))
first_placed shape line n es = take_placed shape n (writes_on line es) (writes_are line es)

pub range_placed : (shape : List ℕ) (line a b : ℕ) (es : List PendingEntry) → slice_range (placed_on shape line es) a b ≡ placed shape (slice_range (writes_on line es) a b)
range_placed shape line a b es =
    ap (λ (ws : List (ℕ × ℕ)). take (b - a) ws) (drop_placed shape a (writes_on line es) (writes_are line es))
    ∙ take_placed shape (b - a) (drop a (writes_on line es)) (drop_writes a (writes_on line es) (writes_are line es))

pub length_placed_on : (shape : List ℕ) (line : ℕ) (es : List PendingEntry) → length (placed_on shape line es) ≡ length (writes_on line es)
length_placed_on shape line es = length_placed shape (writes_on line es) (writes_are line es)

-- how many writes of a line are open
pub length_open : (shape : List ℕ) (line k : ℕ) (es : List PendingEntry) → length (open_at shape line k es) ≡ before line k es - low line k es
length_open shape line k es =
    let few = before_within line k es in
    let size = length_placed_on shape line es in
    length-between (placed_on shape line es) (low line k es) (before line k es) (omega (arith, few, size))

-- a write with the place of its word
placed_get : (shape : List ℕ) (i word value : ℕ) (es : List PendingEntry) → AreWrites es → slice_get es i ≡ Some (Write word value) → slice_get (placed shape es) i ≡ Some (place_of shape word, value)
placed_get shape i word value [] h is = absurd (cc)
placed_get shape zero word value (Write x v ∷ es) h is =
    let a : x ≡ word = cc in
    let b : v ≡ value = cc in
    ap₂ (λ (w u : ℕ). Some (place_of shape w, u)) a b
placed_get shape (suc i) word value (Write x v ∷ es) h is = placed_get shape i word value es h is
placed_get shape i word value (Marker line ∷ es) h is = absurd h

pub placed_at : (shape : List ℕ) (line i word value : ℕ) (es : List PendingEntry) → slice_get (writes_on line es) i ≡ Some (Write word value) → slice_get (placed_on shape line es) i ≡ Some (place_of shape word, value)
placed_at shape line i word value es is = placed_get shape i word value (writes_on line es) (writes_are line es) is

pub written_there : (line i : ℕ) (es : List PendingEntry) → i < length (writes_on line es) → i < count_by (is_write_on line) es
written_there line i es within = let same = length-filter (is_write_on line) es in omega (arith, within, same)
