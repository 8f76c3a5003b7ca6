-- What the first markers waited for, and nothing else, is persisted.
use Rattle.std.proofs.Common.{◌≡◌, ◌≢◌, ℕ, zero, suc, ◌-◌, ◌<◌, ◌≤◌, true, false, cond, List, [], take, drop, length, refl, ap, ap₂, sym, subst, ◌∙◌, Option, None, Some, arith, inl, inr, ne_eqb, eq-eqb}
use Rattle.std.specs.Prelude.{All, slice_range}
use Rattle.std.proofs.lemmas.Bool.{cases_lt}
use Rattle.std.proofs.lemmas.Bool.Decides.{eqb_tells}
use Rattle.lines_layout.specs.Lines.{line_words, max_lines, max_words}
use Rattle.persist_buffer.specs.declared.entry.PendingEntry.{PendingEntry}
use Rattle.persist_buffer.specs.declared.entry.PendingEntry.TheVariants.{Write, Marker}
use Rattle.persist_buffer.specs.Listings.{LinesBelow, writes_on}
use Rattle.pending_images.specs.Candidates.{all_lines, before, is_of, low, marker_at}
use Rattle.pending_images.specs.Cuts.{image_of, written}
use Rattle.pending_images.specs.Images.{image_at}
use Rattle.pending_images.specs.Products.{awaited_at, made, placed, settled_image}
use Rattle.pending_images.proofs.ClosedSetOfCut.{image_of-zero}
use Rattle.pending_images.proofs.CountsBeforeMarkers.{before_none, low_within}
use Rattle.pending_images.proofs.WritesChangeOnePlace.{AreBelow, drop_below, length-written, range_placed, take_below, writes_below, written_image}
use Rattle.pending_images.proofs.NeededWritesComeFirst.{tail_of, tail_whole}

pub length-image_of : (lines : ℕ) (count : ℕ → ℕ) (es : List PendingEntry) (xs : List ℕ) → length (image_of lines count es xs) ≡ length xs
length-image_of zero count es xs = refl
length-image_of (suc line) count es xs = length-written (take (count line) (writes_on line es)) (image_of line count es xs) ∙ length-image_of line count es xs

-- an image of persisted values that writes changed
pub made_is : (shape : List ℕ) → All (λ n. n ≤ line_words) shape → (es : List PendingEntry) (ys : List ℕ) → AreBelow max_words es → length ys ≡ max_words
    → made (placed shape es) (image_at shape ys) ≡ image_at shape (written es ys)
made_is shape short es ys below size = sym (written_image shape short es ys (subst (λ (n : ℕ). AreBelow n es) (sym size) below))

-- what must be persisted where k markers went, line by line
abbrev pub lows : ℕ → List PendingEntry → ℕ → ℕ
lows k es line = low line k es

low_grows : (line k : ℕ) (es : List PendingEntry) → low line k es ≤ low line (suc k) es
low_grows line k es =
    let h = low_within line k es in
    elim (is_of line (marker_at k es)) as (λ b. low line k es ≤ cond b (before line k es) (low line k es)) [ true ↦ h | false ↦ omega arith ]

-- nothing from a number to the same
none_between : (a b : ℕ) (ws : List PendingEntry) → a ≡ b → slice_range ws a b ≡ []
none_between a b ws same = let none : b - a ≡ 0 = omega (arith, same) in ap (λ (n : ℕ). take n (drop a ws)) none

no_tail : (lines : ℕ) (from to : ℕ → ℕ) (es : List PendingEntry) (xs : List ℕ) → ((line : ℕ) → line < lines → from line ≡ to line) → tail_of lines from to es xs ≡ xs
no_tail zero from to es xs same = refl
no_tail (suc line) from to es xs same =
    ap₂ (λ (ws : List PendingEntry) (ys : List ℕ). written ws ys) (none_between (from line) (to line) (writes_on line es) (same line (omega arith))) (no_tail line from to es xs (λ l lt. same l (omega arith)))

-- the writes of one line alone
tail_of_line : (lines l : ℕ) (from to : ℕ → ℕ) (es : List PendingEntry) (xs : List ℕ) → l < lines → ((line : ℕ) → line ≢ l → from line ≡ to line)
    → tail_of lines from to es xs ≡ written (slice_range (writes_on l es) (from l) (to l)) xs
tail_of_line zero l from to es xs lt same = absurd (omega arith)
tail_of_line (suc line) l from to es xs lt same =
    elim (eqb_tells line l) [
      | inl here ↦
          ap (written (slice_range (writes_on line es) (from line) (to line))) (no_tail line from to es xs (λ m below. same m (omega (arith, here.1))))
          ∙ ap (λ (m : ℕ). written (slice_range (writes_on m es) (from m) (to m)) xs) here.1
      | inr other ↦
          ap₂ (λ (ws : List PendingEntry) (ys : List ℕ). written ws ys) (none_between (from line) (to line) (writes_on line es) (same line other.1)) (tail_of_line line l from to es xs (omega (arith, other.1)) same)
    ]

-- the entries that a marker, where there is one, waits for where k markers went
abbrev awaited : ℕ → List PendingEntry → Option PendingEntry → List PendingEntry
awaited k es (Some (Marker line)) = slice_range (writes_on line es) (low line k es) (before line k es)
awaited k es _ = []

-- they are all that is persisted more
more_by : (k : ℕ) (es : List PendingEntry) (xs : List ℕ) (o : Option PendingEntry) → LinesBelow all_lines es → marker_at k es ≡ o
    → tail_of all_lines (lows k es) (lows (suc k) es) es xs ≡ written (awaited k es o) xs
more_by k es xs None below is = no_tail all_lines (lows k es) (lows (suc k) es) es xs (λ line lt. rw is refl)
more_by k es xs (Some (Write word value)) below is = no_tail all_lines (lows k es) (lows (suc k) es) es xs (λ line lt. rw is refl)
more_by k es xs (Some (Marker l)) below is =
    elim (cases_lt l all_lines) [
      | inl within ↦
          let here : low l (suc k) es ≡ before l k es = rw (is, eq-eqb l l refl) refl in
          tail_of_line all_lines l (lows k es) (lows (suc k) es) es xs within (λ line other. rw (is, ne_eqb l line (λ e. other (sym e))) refl)
          ∙ ap (λ (n : ℕ). written (slice_range (writes_on l es) (low l k es) n) xs) here
      | inr past ↦
          let none = before_none all_lines l k es below past in
          let few = low_within l k es in
          no_tail all_lines (lows k es) (lows (suc k) es) es xs (λ line lt. rw (is, ne_eqb l line (omega (arith, lt, past))) refl)
          ∙ ap (λ (ws : List PendingEntry). written ws xs) (sym (none_between (low l k es) (before l k es) (writes_on l es) (omega (arith, none, few))))
    ]

-- the same in an image
awaited_is : (shape : List ℕ) → All (λ n. n ≤ line_words) shape → (k : ℕ) (es : List PendingEntry) (ys : List ℕ) (o : Option PendingEntry) → LinesBelow max_lines es → length ys ≡ max_words
    → made (awaited_at shape k es o) (image_at shape ys) ≡ image_at shape (written (awaited k es o) ys)
awaited_is shape short k es ys None below size = refl
awaited_is shape short k es ys (Some (Write word value)) below size = refl
awaited_is shape short k es ys (Some (Marker l)) below size =
    let ws = writes_on l es in
    ap (λ (vs : List (ℕ × ℕ)). made vs (image_at shape ys)) (range_placed shape l (low l k es) (before l k es) es)
    ∙ made_is shape short (slice_range ws (low l k es) (before l k es)) ys (take_below max_words (before l k es - low l k es) (drop (low l k es) ws) (drop_below max_words (low l k es) ws (writes_below l es below))) size

all_below : (es : List PendingEntry) → LinesBelow max_lines es → LinesBelow all_lines es
unfolding all_lines
all_below es below = below

pub settled_is : (shape : List ℕ) → All (λ n. n ≤ line_words) shape → (k : ℕ) (es : List PendingEntry) (xs : List ℕ) → LinesBelow max_lines es → length xs ≡ max_words
    → settled_image shape k es (image_at shape xs) ≡ image_at shape (image_of all_lines (lows k es) es xs)
settled_is shape short zero es xs below size = ap (image_at shape) (sym (image_of-zero all_lines (lows zero es) es xs (λ line. refl)))
settled_is shape short (suc k) es xs below size =
    let ys : List ℕ = image_of all_lines (lows k es) es xs in
    ap (made (awaited_at shape k es (marker_at k es))) (settled_is shape short k es xs below size)
    ∙ awaited_is shape short k es ys (marker_at k es) below (length-image_of all_lines (lows k es) es xs ∙ size)
    ∙ ap (image_at shape) (sym (more_by k es ys (marker_at k es) (all_below es below) refl) ∙ tail_whole all_lines (lows k es) (lows (suc k) es) es xs (λ line lt. low_grows line k es))
