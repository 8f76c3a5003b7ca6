-- What is formed is what cuts leave.
use Rattle.std.proofs.Common.{◌≡◌, ◌≢◌, ℕ, zero, suc, ◌+◌, ◌-◌, ◌*◌, ◌<◌, ◌≤◌, ◌==◌, cond, List, [], ◌∷◌, take, drop, map, length, refl, ap, ap₂, sym, subst, ◌∙◌, arith, ◌⊎◌, inl, inr, length-append, ne_eqb, eq-eqb, ◌↔◌}
use Rattle.std.specs.Prelude.{All, slice_range}
use Rattle.std.proofs.lemmas.Bool.{cases_lt}
use Rattle.std.proofs.lemmas.Bool.Decides.{eqb_tells}
use Rattle.std.proofs.lemmas.List.{take-take}
use Rattle.std.proofs.lemmas.List.Elements.{Contains-append_left, Contains-append_right, Contains-push, Contains-push_cases, Contains-append_cases}
use Rattle.std.specs.List.{Contains}
use Rattle.lines_layout.specs.Lines.{line_words, max_lines, max_words}
use Rattle.lines_layout.specs.Shapes.{IsShape}
use Rattle.persist_buffer.specs.declared.entry.PendingEntry.{PendingEntry}
use Rattle.persist_buffer.specs.Listings.{LinesBelow, writes_on}
use Rattle.persist_buffer.specs.State.{Memory}
use Rattle.pending_images.specs.Candidates.{all_lines, before, candidates, low, markers, product, products_below}
use Rattle.pending_images.specs.Changes.{IsReached}
use Rattle.pending_images.specs.Cuts.{image_of}
use Rattle.pending_images.specs.Images.{IsImage, IsListing, image_at}
use Rattle.pending_images.specs.Listings.{formed_of, images_of}
use Rattle.pending_images.specs.Products.{block, blocks, images_at, images_below, made, open_at, placed_on, settled_image}
use Rattle.pending_images.proofs.OrderedImages.{in_order_has, in_order_rises, same_images}
use Rattle.pending_images.proofs.CountsBeforeMarkers.{asked_low, before_none, low_asked, low_within}
use Rattle.pending_images.proofs.WritesChangeOnePlace.{drop_below, length-written, length_open, range_placed, take_below, writes_below}
use Rattle.pending_images.proofs.FormingImages.{length_blocks}
use Rattle.pending_images.proofs.SettledImages.{length-image_of, lows, made_is, settled_is}
use Rattle.pending_images.proofs.ImagesAreCuts.{cut_law}
use Rattle.pending_images.proofs.NeededWritesComeFirst.{tail_of, tail_whole}

-- an element of a list of one
contains_one : {X : Type 0} (x y : X) → Contains (x ∷ []) y → x ≡ y
contains_one x y h = elim (Contains-push_cases [] x y h) [ inl none ↦ absurd (let k : none.0 < 0 = none.1 in omega arith) | inr is ↦ is ]

from_map : {X Y : Type 0} (f : X → Y) (xs : List X) (y : Y) → Contains (map f xs) y → (x : X) × Contains xs x × (y ≡ f x)
from_map f [] y h = absurd (let k : h.0 < 0 = h.1 in omega arith)
from_map f (x ∷ xs) y h =
    elim (Contains-append_cases (f x ∷ []) (map f xs) y h) [
      | inl here ↦ (x, Contains-append_left (x ∷ []) xs x (Contains-push [] x), sym (contains_one (f x) y here))
      | inr there ↦ (let (z, among, is) = from_map f xs y there in (z, Contains-append_right (x ∷ []) xs z among, is))
    ]

to_map : {X Y : Type 0} (f : X → Y) (xs : List X) (x : X) → Contains xs x → Contains (map f xs) (f x)
to_map f [] x h = absurd (let k : h.0 < 0 = h.1 in omega arith)
to_map f (z ∷ xs) x h =
    elim (Contains-append_cases (z ∷ []) xs x h) [
      | inl here ↦ Contains-append_left (f z ∷ []) (map f xs) (f x) (subst (λ w. Contains (f z ∷ []) (f w)) (contains_one z x here) (Contains-push [] (f z)))
      | inr there ↦ Contains-append_right (f z ∷ []) (map f xs) (f x) (to_map f xs x there)
    ]

from_blocks : (ws : List (ℕ × ℕ)) (n : ℕ) (images : List (List ℕ)) (image : List ℕ) → Contains (blocks ws n images) image
    → (i : ℕ) × (i ≤ n) × (old : List ℕ) × Contains images old × (image ≡ made (take i ws) old)
from_blocks ws zero images image h = (0, omega arith, image, h, refl)
from_blocks ws (suc n) images image h =
    elim (Contains-append_cases (blocks ws n images) (block ws (suc n) images) image h) [
      | inl earlier ↦ (let (i, le, old, among, is) = from_blocks ws n images image earlier in (i, omega (arith, le), old, among, is))
      | inr last ↦ (let (old, among, is) = from_map (λ (old : List ℕ). made (take (suc n) ws) old) images image last in (suc n, omega arith, old, among, is))
    ]

to_blocks : (ws : List (ℕ × ℕ)) (n : ℕ) (images : List (List ℕ)) (old : List ℕ) (i : ℕ) → i ≤ n → Contains images old → Contains (blocks ws n images) (made (take i ws) old)
to_blocks ws zero images old i le h = let e : i ≡ 0 = omega arith in subst (λ (j : ℕ). Contains images (made (take j ws) old)) (sym e) h
to_blocks ws (suc n) images old i le h =
    elim (eqb_tells i (suc n)) [
      | inl same ↦ subst (λ (j : ℕ). Contains (blocks ws (suc n) images) (made (take j ws) old)) (sym same.1)
          (Contains-append_right (blocks ws n images) (block ws (suc n) images) _ (to_map (λ (x : List ℕ). made (take (suc n) ws) x) images old h))
      | inr other ↦ Contains-append_left (blocks ws n images) _ _ (to_blocks ws n images old i (omega (arith, other.1)) h)
    ]

length-tail_of : (lines : ℕ) (from to : ℕ → ℕ) (es : List PendingEntry) (xs : List ℕ) → length (tail_of lines from to es xs) ≡ length xs
length-tail_of zero from to es xs = refl
length-tail_of (suc line) from to es xs = length-written (slice_range (writes_on line es) (from line) (to line)) (tail_of line from to es xs) ∙ length-tail_of line from to es xs

-- of each line below a number the writes from one number to another are made in an image
abbrev tail_image : List ℕ → ℕ → (ℕ → ℕ) → (ℕ → ℕ) → List PendingEntry → List ℕ → List ℕ
tail_image shape zero from to es image = image
tail_image shape (suc line) from to es image = made (slice_range (placed_on shape line es) (from line) (to line)) (tail_image shape line from to es image)

tail_image_is : (shape : List ℕ) → All (λ n. n ≤ line_words) shape → (lines : ℕ) (from to : ℕ → ℕ) (es : List PendingEntry) (xs : List ℕ) → LinesBelow max_lines es → length xs ≡ max_words
    → tail_image shape lines from to es (image_at shape xs) ≡ image_at shape (tail_of lines from to es xs)
tail_image_is shape short zero from to es xs below size = refl
tail_image_is shape short (suc line) from to es xs below size =
    let ws = writes_on line es in
    ap₂ (λ (vs : List (ℕ × ℕ)) (zs : List ℕ). made vs zs) (range_placed shape line (from line) (to line) es) (tail_image_is shape short line from to es xs below size)
    ∙ made_is shape short (slice_range ws (from line) (to line)) (tail_of line from to es xs)
    (take_below max_words (to line - from line) (drop (from line) ws) (drop_below max_words (from line) ws (writes_below line es below))) (length-tail_of line from to es xs ∙ size)

tail_image-agree : (shape : List ℕ) (lines : ℕ) (from c d : ℕ → ℕ) (es : List PendingEntry) (image : List ℕ) → ((line : ℕ) → line < lines → c line ≡ d line)
    → tail_image shape lines from c es image ≡ tail_image shape lines from d es image
tail_image-agree shape zero from c d es image h = refl
tail_image-agree shape (suc line) from c d es image h =
    ap₂ (λ (n : ℕ) (ys : List ℕ). made (slice_range (placed_on shape line es) (from line) n) ys) (h line (omega arith)) (tail_image-agree shape line from c d es image (λ l lt. h l (omega arith)))

-- the settled image and a tail are what a cut leaves
cut_of_tail : (shape : List ℕ) → All (λ n. n ≤ line_words) shape → (k : ℕ) (count : ℕ → ℕ) (es : List PendingEntry) (xs : List ℕ) → LinesBelow max_lines es → length xs ≡ max_words
    → ((line : ℕ) → line < all_lines → low line k es ≤ count line)
    → tail_image shape all_lines (lows k es) count es (settled_image shape k es (image_at shape xs)) ≡ image_at shape (image_of all_lines count es xs)
cut_of_tail shape short k count es xs below size least =
    ap (tail_image shape all_lines (lows k es) count es) (settled_is shape short k es xs below size)
    ∙ tail_image_is shape short all_lines (lows k es) count es (image_of all_lines (lows k es) es xs) below (length-image_of all_lines (lows k es) es xs ∙ size)
    ∙ ap (image_at shape) (tail_whole all_lines (lows k es) count es xs least)

-- counts within what k markers allow, and none from a line on
record IsWithin (lines k : ℕ) (count : ℕ → ℕ) (es : List PendingEntry) : Type 0 where
  pub least : (line : ℕ) → line < lines → low line k es ≤ count line
  pub most : (line : ℕ) → line < lines → count line ≤ before line k es
  pub none : (line : ℕ) → lines ≤ line → count line ≡ 0

abbrev put : ℕ → ℕ → (ℕ → ℕ) → ℕ → ℕ
put line n count other = cond (other == line) n (count other)

put_same : (line n : ℕ) (count : ℕ → ℕ) → put line n count line ≡ n
put_same line n count = rw (eq-eqb line line refl) refl

put_other : (line n : ℕ) (count : ℕ → ℕ) (other : ℕ) → other ≢ line → put line n count other ≡ count other
put_other line n count other ne = rw (ne_eqb _ _ ne) refl

-- the first of the open writes
first_open : (shape : List ℕ) (line k i : ℕ) (es : List PendingEntry) → i ≤ before line k es - low line k es
    → take i (open_at shape line k es) ≡ slice_range (placed_on shape line es) (low line k es) (low line k es + i)
first_open shape line k i es le =
    let e : low line k es + i - low line k es ≡ i = omega arith in
    take-take i (before line k es - low line k es) (drop (low line k es) (placed_on shape line es)) le
    ∙ ap (λ (n : ℕ). take n (drop (low line k es) (placed_on shape line es))) (sym e)

from_images_at : (shape : List ℕ) (lines k : ℕ) (es : List PendingEntry) (start image : List ℕ) → Contains (images_at shape lines k es start) image
    → (count : ℕ → ℕ) × IsWithin lines k count es × (image ≡ tail_image shape lines (lows k es) count es start)
from_images_at shape zero k es start image h =
    ((λ _. 0), record { least = λ line lt. absurd (omega arith); most = λ line lt. absurd (omega arith); none = λ line lt. refl }, sym (contains_one start image h))
from_images_at shape (suc line) k es start image h =
    let ws : List (ℕ × ℕ) = open_at shape line k es in
    let (i, le, x, among, gave) = from_blocks ws (length ws) (images_at shape line k es start) image h in
    let (count, within, is) = from_images_at shape line k es start x among in
    let n = low line k es + i in
    let inside = low_within line k es in
    let size = length_open shape line k es in
    let few : i ≤ before line k es - low line k es = omega (arith, le, size) in (
      put line n count,
      record {
        least = λ l below. elim (eqb_tells l line) [
          | inl same ↦ (let e : put line n count l ≡ n = ap (put line n count) same.1 ∙ put_same line n count in let f = ap (λ (o : ℕ). low o k es) same.1 in omega (arith, e, f))
          | inr other ↦ (let e = put_other line n count l other.1 in let f = within.least l (omega (arith, other.1)) in omega (arith, e, f))
        ];
        most = λ l below. elim (eqb_tells l line) [
          | inl same ↦ (let e : put line n count l ≡ n = ap (put line n count) same.1 ∙ put_same line n count in let f = ap (λ (o : ℕ). before o k es) same.1 in omega (arith, e, f, few, inside))
          | inr other ↦ (let e = put_other line n count l other.1 in let f = within.most l (omega (arith, other.1)) in omega (arith, e, f))
        ];
        none = λ l above. (let e = put_other line n count l (omega arith) in let f = within.none l (omega arith) in e ∙ f);
      },
      gave
          ∙ ap₂ (λ (vs : List (ℕ × ℕ)) (y : List ℕ). made vs y) (first_open shape line k i es few)
          (is ∙ tail_image-agree shape line (lows k es) count (put line n count) es start (λ l below. sym (put_other line n count l (omega arith))))
          ∙ ap (λ (m : ℕ). made (slice_range (placed_on shape line es) (low line k es) m) (tail_image shape line (lows k es) (put line n count) es start)) (sym (put_same line n count)),
    )

to_images_at : (shape : List ℕ) (lines k : ℕ) (count : ℕ → ℕ) (es : List PendingEntry) (start : List ℕ) → ((line : ℕ) → line < lines → low line k es ≤ count line)
    → ((line : ℕ) → line < lines → count line ≤ before line k es) → Contains (images_at shape lines k es start) (tail_image shape lines (lows k es) count es start)
to_images_at shape zero k count es start least most = Contains-push [] start
to_images_at shape (suc line) k count es start least most =
    let rest = to_images_at shape line k count es start (λ l lt. least l (omega arith)) (λ l lt. most l (omega arith)) in
    let a = least line (omega arith) in
    let b = most line (omega arith) in
    let size = length_open shape line k es in
    let i : ℕ = count line - low line k es in
    let few : i ≤ before line k es - low line k es = omega (arith, a, b) in
    let is : low line k es + i ≡ count line = omega (arith, a) in
    let same : take i (open_at shape line k es) ≡ slice_range (placed_on shape line es) (low line k es) (count line) =
    first_open shape line k i es few ∙ ap (λ (n : ℕ). slice_range (placed_on shape line es) (low line k es) n) is in
    subst (λ (vs : List (ℕ × ℕ)). Contains (images_at shape (suc line) k es start) (made vs (tail_image shape line (lows k es) count es start))) same
    (to_blocks (open_at shape line k es) (length (open_at shape line k es)) (images_at shape line k es start) (tail_image shape line (lows k es) count es start) i (omega (arith, few, size)) rest)

from_images_below : (shape : List ℕ) (n : ℕ) (es : List PendingEntry) (xs image : List ℕ) → Contains (images_below shape n es xs) image → (k : ℕ) × (k < n) × Contains (images_at shape all_lines k es (settled_image shape k es xs)) image
from_images_below shape zero es xs image h = absurd (let k : h.0 < 0 = h.1 in omega arith)
from_images_below shape (suc n) es xs image h =
    elim (Contains-append_cases (images_below shape n es xs) (images_at shape all_lines n es (settled_image shape n es xs)) image h) [
      | inl earlier ↦ (let (k, lt, is) = from_images_below shape n es xs image earlier in (k, omega (arith, lt), is))
      | inr last ↦ (n, omega arith, last)
    ]

to_images_below : (shape : List ℕ) (n k : ℕ) (es : List PendingEntry) (xs image : List ℕ) → k < n → Contains (images_at shape all_lines k es (settled_image shape k es xs)) image → Contains (images_below shape n es xs) image
to_images_below shape zero k es xs image lt h = absurd (omega arith)
to_images_below shape (suc n) k es xs image lt h =
    elim (eqb_tells k n) [
      | inl same ↦ Contains-append_right (images_below shape n es xs) _ image (subst (λ j. Contains (images_at shape all_lines j es (settled_image shape j es xs)) image) same.1 h)
      | inr other ↦ Contains-append_left _ _ image (to_images_below shape n k es xs image (omega (arith, other.1)) h)
    ]

split : (line lines : ℕ) → (line < lines) ⊎ (lines ≤ line)
split line lines = cases_lt line lines

cut_from_counts : (k : ℕ) (count : ℕ → ℕ) (m : Memory) → LinesBelow all_lines m.pending → k < markers m.pending + 1 → IsWithin all_lines k count m.pending
    → IsReached m (image_of all_lines count m.pending m.persisted)
cut_from_counts k count m below lt within =
    (cut_law all_lines m (image_of all_lines count m.pending m.persisted) below).1 (
      k,
      count,
      record {
        few = omega (arith, lt);
        inside = λ line. elim (split line all_lines) [ inl l ↦ within.most line l | inr r ↦ (let z = within.none line r in omega (arith, z)) ];
        settled = λ j line lt' is'. elim (split line all_lines) [
          | inl l ↦ (let a = asked_low line k j m.pending lt' is' in let b = within.least line l in omega (arith, a, b))
          | inr r ↦ (let z = before_none all_lines line j m.pending below r in omega (arith, z))
        ];
      },
      refl,
    )

-- what is formed, is reached
formed_is_image : (shape : List ℕ) (m : Memory) (image : List ℕ) → IsShape shape → LinesBelow max_lines m.pending → length m.persisted ≡ max_words → Contains (formed_of shape m) image → IsImage shape m image
unfolding all_lines
formed_is_image shape m image is_shape below size h =
    let es = m.pending in
    let base = image_at shape m.persisted in
    let (k, lt, among) = from_images_below shape (markers es + 1) es base image h in
    let (count, within, is) = from_images_at shape all_lines k es (settled_image shape k es base) image among in
    (image_of all_lines count es m.persisted, cut_from_counts k count m below lt within, is ∙ cut_of_tail shape is_shape.words k count es m.persisted below size within.least)

-- what is reached, is formed
image_is_formed : (shape : List ℕ) (m : Memory) (image : List ℕ) → IsShape shape → LinesBelow max_lines m.pending → length m.persisted ≡ max_words → IsImage shape m image → Contains (formed_of shape m) image
unfolding all_lines
image_is_formed shape m image is_shape below size (persisted, reached, shown) =
    let es = m.pending in
    let base = image_at shape m.persisted in
    let (k, count, cut, is) = (cut_law all_lines m persisted below).0 reached in
    let least : (line : ℕ) → line < all_lines → low line k es ≤ count line = λ line lt. low_asked line k es (count line) (λ j lt' is'. cut.settled j line lt' is') in
    let same : tail_image shape all_lines (lows k es) count es (settled_image shape k es base) ≡ image =
    cut_of_tail shape is_shape.words k count es m.persisted below size least ∙ ap (image_at shape) (sym is) ∙ sym shown in
    subst (Contains (formed_of shape m)) same
    (to_images_below shape (markers es + 1) k es base _ (let f = cut.few in omega (arith, f))
    (to_images_at shape all_lines k count es (settled_image shape k es base) least (λ line lt. cut.inside line)))

-- how many there are
length_images_at : (shape : List ℕ) (lines k : ℕ) (es : List PendingEntry) (start : List ℕ) → length (images_at shape lines k es start) ≡ product lines k es
length_images_at shape zero k es start = refl
length_images_at shape (suc line) k es start =
    let ws : List (ℕ × ℕ) = open_at shape line k es in
    length_blocks ws (length ws) (images_at shape line k es start)
    ∙ ap₂ (λ (a b : ℕ). a * (b + 1)) (length_images_at shape line k es start) (length_open shape line k es)

length_images_below : (shape : List ℕ) (n : ℕ) (es : List PendingEntry) (xs : List ℕ) → length (images_below shape n es xs) ≡ products_below all_lines n es
length_images_below shape zero es xs = refl
length_images_below shape (suc n) es xs =
    length-append (images_below shape n es xs) (images_at shape all_lines n es (settled_image shape n es xs))
    ∙ ap₂ (λ (a b : ℕ). a + b) (length_images_below shape n es xs) (length_images_at shape all_lines n es (settled_image shape n es xs))

pub length_formed : (shape : List ℕ) (m : Memory) → length (formed_of shape m) ≡ candidates m.pending
length_formed shape m = length_images_below shape (markers m.pending + 1) m.pending (image_at shape m.persisted)

-- a list that is this one has the images and nothing else
pub exact_from : (shape : List ℕ) (m : Memory) → IsShape shape → LinesBelow max_lines m.pending → length m.persisted ≡ max_words → (items : List (List ℕ)) → items ≡ formed_of shape m
    → (image : List ℕ) → Contains items image ↔ IsImage shape m image
exact_from shape m is_shape below size items is image =
    ((λ h. formed_is_image shape m image is_shape below size (subst (λ xs. Contains xs image) is h)), (λ h. subst (λ xs. Contains xs image) (sym is) (image_is_formed shape m image is_shape below size h)))

-- the images in order, each once, are all images
pub is_listing : (shape : List ℕ) (m : Memory) → IsShape shape → LinesBelow max_lines m.pending → length m.persisted ≡ max_words → IsListing shape m (images_of shape m)
is_listing shape m is_shape below size = record {
  exact = λ image.
      let has = in_order_has (formed_of shape m) image in
      let exact = exact_from shape m is_shape below size (formed_of shape m) refl image in
      ((λ h. exact.0 (has.0 h)), (λ h. has.1 (exact.1 h)));
  ascending = in_order_rises (formed_of shape m);
}

pub only_listing : (shape : List ℕ) (m : Memory) (images : List (List ℕ)) → IsShape shape → LinesBelow max_lines m.pending → length m.persisted ≡ max_words → IsListing shape m images
    → images ≡ images_of shape m
only_listing shape m images is_shape below size listing =
    let listed = is_listing shape m is_shape below size in
    same_images images (images_of shape m) listing.ascending listed.ascending
    (λ image. ((λ h. (listed.exact image).1 ((listing.exact image).0 h)), (λ h. (listing.exact image).1 ((listed.exact image).0 h))))
