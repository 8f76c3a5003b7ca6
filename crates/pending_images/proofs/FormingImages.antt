-- Images, one after another.
use Rattle.std.proofs.Common.{◌≡◌, ℕ, zero, suc, ◌+◌, ◌-◌, ◌*◌, ◌≤◌, ◌<◌, List, [], ◌∷◌, ◌++◌, take, drop, map, length, get_or, refl, ap, ap₂, sym, ◌∙◌, Option, Some, arith, add-one, slice_set, slice_get, append_assoc, length-append}
use Rattle.std.proofs.lemmas.List.{map_more, map-id, length-map, get_or_append_left, get_or-drop, get_or-take, length-drop, take_all}
use Rattle.std.proofs.Math.Seq.{drop-append_seam, drop-append-add, take-append_seam}
use Rattle.std.proofs.lemmas.Option.{slice_get-get_or, get_or_from_slice_get}
use Rattle.persist_buffer.specs.declared.entry.PendingEntry.{PendingEntry}
use Rattle.persist_buffer.specs.declared.entry.PendingEntry.TheVariants.{Marker}
use Rattle.pending_images.specs.Candidates.{all_lines, before, low, marker_at}
use Rattle.pending_images.specs.Products.{awaited_at, block, blocks, images_at, images_below, made, open_at, placed_on, settled_image}
use Rattle.pending_images.proofs.WritesChangeOnePlace.{length_open}

-- images after none of some writes, up to all
abbrev grown : List (ℕ × ℕ) → List (List ℕ) → List (List ℕ)
grown ws images = blocks ws (length ws) images

-- one more element of a part of a list is copied, changed, to its end
pub block_more : {X : Type 0} (f : X → X) (old now : List X) (from i : ℕ) (x d : X) → from ≤ i → i < length old → now ≡ old ++ map f (take (i - from) (drop from old)) → get_or now i d ≡ x
    → now ++ f x ∷ [] ≡ old ++ map f (take (i + 1 - from) (drop from old))
block_more {X = X} f old now from i x d at_least within is has =
    let n : ℕ = i - from in
    let place : from + n ≡ i = omega (arith, at_least) in
    let next : i + 1 - from ≡ n + 1 = omega (arith, at_least) in
    let inside : n < length (drop from old) = (let e = length-drop from old in omega (arith, e, at_least, within)) in
    let same : get_or (drop from old) n d ≡ x = get_or-drop from old n d ∙ ap (λ (j : ℕ). get_or old j d) place ∙ sym (get_or_append_left old (map f (take n (drop from old))) d i within) ∙ ap (λ (ys : List X). get_or ys i d) (sym is) ∙ has in
    ap (λ (ys : List X). ys ++ f x ∷ []) is ∙ append_assoc old (map f (take n (drop from old))) (f x ∷ [])
    ∙ ap (λ (ys : List X). old ++ ys) (ap (λ (y : X). map f (take n (drop from old)) ++ f y ∷ []) (sym same) ∙ sym (map_more f (drop from old) n d inside))
    ∙ ap (λ (j : ℕ). old ++ map f (take j (drop from old))) (sym next)

pub copied : (old now new : List (List ℕ)) (from i place value : ℕ) (x image d : List ℕ) → from ≤ i → i < length old → now ≡ old ++ map (λ (y : List ℕ). slice_set y place value) (take (i - from) (drop from old))
    → x ≡ get_or now i d → image ≡ slice_set x place value → new ≡ now ++ image ∷ [] → new ≡ old ++ map (λ (y : List ℕ). slice_set y place value) (take (i + 1 - from) (drop from old))
copied old now new from i place value x image d at_least within is has made pushed =
    pushed ∙ ap (λ (y : List ℕ). now ++ y ∷ []) made ∙ block_more (λ (y : List ℕ). slice_set y place value) old now from i x d at_least within is (sym has)

-- one more write
made_next : (i : ℕ) (ws : List (ℕ × ℕ)) (w : ℕ × ℕ) (xs : List ℕ) → slice_get ws i ≡ Some w → made (take (suc i) ws) xs ≡ slice_set (made (take i ws) xs) w.0 w.1
made_next i [] w xs is = absurd (cc)
made_next zero (v ∷ ws) w xs is = (let e : v ≡ w = cc in ap (λ (u : ℕ × ℕ). slice_set xs u.0 u.1) e)
made_next (suc i) (v ∷ ws) w xs is = made_next i ws w (slice_set xs v.0 v.1) is

block_next : (i : ℕ) (ws : List (ℕ × ℕ)) (w : ℕ × ℕ) (images : List (List ℕ)) → slice_get ws i ≡ Some w → block ws (suc i) images ≡ map (λ (image : List ℕ). slice_set image w.0 w.1) (block ws i images)
block_next i ws w [] is = refl
block_next i ws w (xs ∷ images) is = ap₂ (λ (x : List ℕ) (ys : List (List ℕ)). x ∷ ys) (made_next i ws w xs is) (block_next i ws w images is)

-- how many there are
pub length_blocks : (ws : List (ℕ × ℕ)) (n : ℕ) (images : List (List ℕ)) → length (blocks ws n images) ≡ length images * (n + 1)
length_blocks ws zero images = omega arith
length_blocks ws (suc n) images =
    let h = length_blocks ws n images in
    let a = length-append (blocks ws n images) (block ws (suc n) images) in
    let b = length-map images (λ (image : List ℕ). made (take (suc n) ws) image) in
    omega (arith, h, a, b)

-- there are no fewer than before
pub fewer_before : (ws : List (ℕ × ℕ)) (n : ℕ) (images : List (List ℕ)) → length images ≤ length (blocks ws n images)
fewer_before ws zero images = omega arith
fewer_before ws (suc n) images =
    let h = fewer_before ws n images in
    let a = length-append (blocks ws n images) (block ws (suc n) images) in
    omega (arith, h, a)

-- the last block
last_block : (ws : List (ℕ × ℕ)) (n from : ℕ) (images : List (List ℕ)) → from ≡ length (blocks ws n images) - length images → drop from (blocks ws n images) ≡ block ws n images
last_block ws zero from images is =
    let e : from ≡ 0 = omega (arith, is) in
    ap (λ (k : ℕ). drop k images) e ∙ sym (map-id images)
last_block ws (suc n) from images is =
    let a = length-append (blocks ws n images) (block ws (suc n) images) in
    let b = length-map images (λ (image : List ℕ). made (take (suc n) ws) image) in
    let e : from ≡ length (blocks ws n images) = omega (arith, is, a, b) in
    ap (λ (k : ℕ). drop k (blocks ws (suc n) images)) e ∙ drop-append_seam (blocks ws n images) (block ws (suc n) images)

-- one more block behind others
blocks_on : (ws : List (ℕ × ℕ)) (i from count : ℕ) (w : ℕ × ℕ) (old base now new : List (List ℕ)) → slice_get ws i ≡ Some w → now ≡ old ++ blocks ws i base → count ≡ length base → from ≡ length now - count
    → new ≡ now ++ map (λ (image : List ℕ). slice_set image w.0 w.1) (drop from now) → new ≡ old ++ blocks ws (suc i) base
blocks_on ws i from count w old base now new has same size at is =
    let n : ℕ = length (blocks ws i base) - length base in
    let few = fewer_before ws i base in
    let long = ap length same ∙ length-append old (blocks ws i base) in
    let place : from ≡ length old + n = omega (arith, at, size, few, long) in
    let last : drop from now ≡ block ws i base =
    ap₂ (λ (k : ℕ) (ys : List (List ℕ)). drop k ys) place same ∙ drop-append-add old (blocks ws i base) n ∙ last_block ws i n base refl in
    is
    ∙ ap₂ (λ (ys zs : List (List ℕ)). ys ++ map (λ (image : List ℕ). slice_set image w.0 w.1) zs) same last
    ∙ append_assoc old (blocks ws i base) (map (λ (image : List ℕ). slice_set image w.0 w.1) (block ws i base))
    ∙ ap (λ (zs : List (List ℕ)). old ++ (blocks ws i base ++ zs)) (sym (block_next i ws w base has))

-- one of the open writes of a line
open_has : (shape : List ℕ) (line k i : ℕ) (es : List PendingEntry) (w : ℕ × ℕ) → low line k es ≤ i → i < before line k es → slice_get (placed_on shape line es) i ≡ Some w
    → slice_get (open_at shape line k es) (i - low line k es) ≡ Some w
open_has shape line k i es w from to has =
    let a : ℕ = low line k es in
    let ws : List (ℕ × ℕ) = placed_on shape line es in
    let size = length_open shape line k es in
    let place : a + (i - a) ≡ i = omega (arith, from) in
    slice_get-get_or (open_at shape line k es) (i - a) w (omega (arith, from, to, size))
    ∙ ap Some (get_or-take (before line k es - a) (drop a ws) (i - a) w (omega (arith, from, to))
    ∙ get_or-drop a ws (i - a) w
    ∙ ap (λ (j : ℕ). get_or ws j w) place
    ∙ get_or_from_slice_get ws i w w has)

-- the open writes of a line, one after another, in one image
pub one_made : (shape : List ℕ) (line k i : ℕ) (es : List PendingEntry) (w : ℕ × ℕ) (image now : List ℕ) → low line k es ≤ i → i < before line k es → slice_get (placed_on shape line es) i ≡ Some w
    → now ≡ made (take (i - low line k es) (open_at shape line k es)) image → slice_set now w.0 w.1 ≡ made (take (i + 1 - low line k es) (open_at shape line k es)) image
one_made shape line k i es w image now from to has is =
    let next : i + 1 - low line k es ≡ suc (i - low line k es) = omega (arith, from) in
    ap (λ (ys : List ℕ). slice_set ys w.0 w.1) is
    ∙ sym (made_next (i - low line k es) (open_at shape line k es) w image (open_has shape line k i es w from to has))
    ∙ ap (λ (n : ℕ). made (take n (open_at shape line k es)) image) (sym next)

pub all_made : (shape : List ℕ) (line k : ℕ) (es : List PendingEntry) (image : List ℕ) → made (take (before line k es - low line k es) (open_at shape line k es)) image ≡ made (open_at shape line k es) image
all_made shape line k es image =
    let size = length_open shape line k es in
    ap (λ (ws : List (ℕ × ℕ)). made ws image) (take_all (before line k es - low line k es) (open_at shape line k es) (omega (arith, size)))

-- and in images behind others
pub one_spread : (shape : List ℕ) (line k i from count : ℕ) (es : List PendingEntry) (w : ℕ × ℕ) (old base now new : List (List ℕ)) → low line k es ≤ i → i < before line k es
    → slice_get (placed_on shape line es) i ≡ Some w → now ≡ old ++ blocks (open_at shape line k es) (i - low line k es) base → count ≡ length base → from ≡ length now - count
    → new ≡ now ++ map (λ (image : List ℕ). slice_set image w.0 w.1) (drop from now) → new ≡ old ++ blocks (open_at shape line k es) (i + 1 - low line k es) base
one_spread shape line k i from count es w old base now new first last has same size at is =
    let next : i + 1 - low line k es ≡ suc (i - low line k es) = omega (arith, first) in
    blocks_on (open_at shape line k es) (i - low line k es) from count w old base now new (open_has shape line k i es w first last has) same size at is
    ∙ ap (λ (n : ℕ). old ++ blocks (open_at shape line k es) n base) (sym next)

pub all_spread : (shape : List ℕ) (line k : ℕ) (es : List PendingEntry) (base : List (List ℕ)) → blocks (open_at shape line k es) (before line k es - low line k es) base ≡ grown (open_at shape line k es) base
all_spread shape line k es base = ap (λ (n : ℕ). blocks (open_at shape line k es) n base) (sym (length_open shape line k es))

-- the images of one more line
pub line_spread : (shape : List ℕ) (line k start : ℕ) (es : List PendingEntry) (settled : List ℕ) (old now new : List (List ℕ)) → start ≡ length old → now ≡ old ++ images_at shape line k es settled
    → new ≡ take start now ++ grown (open_at shape line k es) (drop start now) → new ≡ old ++ images_at shape (line + 1) k es settled
line_spread shape line k start es settled old now new at is pushed =
    let more : List (List ℕ) = images_at shape line k es settled in
    let first : take start now ≡ old = ap₂ (λ (n : ℕ) (ys : List (List ℕ)). take n ys) at is ∙ take-append_seam old more in
    let rest : drop start now ≡ more = ap₂ (λ (n : ℕ) (ys : List (List ℕ)). drop n ys) at is ∙ drop-append_seam old more in
    pushed ∙ ap₂ (λ (xs ys : List (List ℕ)). xs ++ grown (open_at shape line k es) ys) first rest
    ∙ ap (λ (n : ℕ). old ++ images_at shape n k es settled) (sym (add-one line))

-- the images of one more marker
pub marker_pushed : (shape : List ℕ) (k : ℕ) (es : List PendingEntry) (base settled : List ℕ) (old new : List (List ℕ)) → settled ≡ settled_image shape k es base → old ≡ images_below shape k es base
    → new ≡ old ++ images_at shape all_lines k es settled → new ≡ images_below shape (k + 1) es base
marker_pushed shape k es base settled old new is was pushed =
    pushed ∙ ap₂ (λ (xs : List (List ℕ)) (ys : List ℕ). xs ++ images_at shape all_lines k es ys) was is ∙ ap (λ (n : ℕ). images_below shape n es base) (sym (add-one k))

-- the image after one more marker
pub marker_settled : (shape : List ℕ) (k line : ℕ) (es : List PendingEntry) (base now new : List ℕ) → marker_at k es ≡ Some (Marker line) → now ≡ settled_image shape k es base → new ≡ made (open_at shape line k es) now
    → new ≡ settled_image shape (k + 1) es base
marker_settled shape k line es base now new marker is made_it =
    made_it ∙ ap₂ (λ (o : Option PendingEntry) (ys : List ℕ). made (awaited_at shape k es o) ys) (sym marker) is ∙ ap (λ (n : ℕ). settled_image shape n es base) (sym (add-one k))

pub ruleset forming_steps = (marker_pushed, marker_settled)
