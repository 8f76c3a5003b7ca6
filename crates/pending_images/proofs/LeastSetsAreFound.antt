-- The set that the code finds is the least, and it finds none only where there is none.
use Rattle.std.proofs.Common.{◌≡◌, ℕ, ◌+◌, ◌-◌, ◌<◌, ◌≤◌, ◌==◌, Bool, true, false, Option, None, Some, List, [], take, length, refl, ap, sym, subst, ◌∙◌, arith, inl, inr, eq-eqb, eqb-true}
use Rattle.std.specs.Prelude.{get_or, slice_index}
use Rattle.std.specs.Cmp.Lexicographic.{bytes_decides}
use Rattle.std.proofs.lemmas.Bool.{cases_Bool, cases_lt}
use Rattle.lines_layout.specs.Lines.{max_lines, max_words}
use Rattle.lines_layout.specs.Shapes.{IsShape}
use Rattle.persist_buffer.specs.declared.entry.PendingEntry.{PendingEntry}
use Rattle.persist_buffer.specs.Listings.{LinesBelow, writes_on}
use Rattle.persist_buffer.specs.State.{Memory}
use Rattle.pending_images.specs.Candidates.{all_lines, before, low, markers}
use Rattle.pending_images.specs.LeastCuts.{Cut, FitsPending, closed_set_of, counts_at, cut_flags, first_cut, first_true, fits_below, part_of, places_of_cut}
use Rattle.pending_images.specs.ClosedSets.{flagged}
use Rattle.pending_images.specs.Cuts.{IsCut, image_of}
use Rattle.pending_images.specs.Images.{IsImage, image_at}
use Rattle.pending_images.specs.LeastSets.{IsLeast, IsLeastSet}
use Rattle.pending_images.proofs.CountsBeforeMarkers.{asked_low, before_none, before_within, low_asked, low_within}
use Rattle.pending_images.proofs.CutFlags.{cut_flags_are}
use Rattle.pending_images.proofs.CutOfSet.{held, held_by_set}
use Rattle.pending_images.proofs.LeastFittingNumbers.{counts_are, counts_there, first_cut_is, first_cut_there, first_true_is, first_true_there, fits_at, fits_tell, length-fits_below, length-fits_of}
use Rattle.pending_images.proofs.ClosedSetsByEntry.{closed_of, none_is_left}
use Rattle.pending_images.proofs.ImageParts.{length-image_from, line_after, part_of_cut, same_parts}
use Rattle.pending_images.proofs.PartsByLine.{part_past}
use Rattle.pending_images.proofs.ImagesAreCuts.{cut_law}
use Rattle.pending_images.proofs.SetsWithinSets.{cut_within}

pub all_is : all_lines ≡ max_lines
unfolding all_lines
all_is = refl

-- there is a flag for each number of first writes
fits_pending : (shape wanted now : List ℕ) (es : List PendingEntry) → FitsPending (fits_below shape wanted now es all_lines) es
fits_pending shape wanted now es = record {
  lines = length-fits_below shape wanted now es all_lines ∙ all_is;
  writes = λ line lt.
      let all = all_is in
      ap length (fits_at shape wanted now es all_lines line (omega (arith, all, lt))) ∙ length-fits_of line (part_of shape wanted line) (part_of shape now line) es;
}

pub pending_fits : (shape wanted now : List ℕ) (es : List PendingEntry) (flags : List (List Bool)) → flags ≡ fits_below shape wanted now es all_lines → FitsPending flags es
pending_fits shape wanted now es flags is = subst (λ (f : List (List Bool)). FitsPending f es) (sym is) (fits_pending shape wanted now es)

module _ (shape image : List ℕ) (m : Memory) (is_shape : IsShape shape) (below : LinesBelow max_lines m.pending) (size : length m.persisted ≡ max_words) where
  abbrev es : List PendingEntry
  es = m.pending

  abbrev now : List ℕ
  now = image_at shape m.persisted

  abbrev fits : List (List Bool)
  fits = fits_below shape image now es all_lines

  below_all : LinesBelow all_lines es
  below_all = subst (λ (n : ℕ). LinesBelow n es) (sym all_is) below

  -- what a cut leaves, line by line
  part_cut : (c : ℕ → ℕ) (line : ℕ) → line < all_lines
      → part_of shape (image_at shape (image_of all_lines c es m.persisted)) line ≡ line_after (take (c line) (writes_on line es)) (part_of shape now line)
  part_cut c line lt = part_of_cut all_lines c es m.persisted shape line is_shape.words lt (let all = all_is in omega (arith, all, size))

  -- a cut that leaves the image fits
  cut_fits : (k : ℕ) (c : ℕ → ℕ) → IsCut k c es → image ≡ image_at shape (image_of all_lines c es m.persisted) → (line : ℕ) → line < all_lines → get_or (get_or fits line []) (c line) false ≡ true
  cut_fits k c cut is line lt =
      let inside = cut.inside line in
      let few = before_within line k es in
      let same : line_after (take (c line) (writes_on line es)) (part_of shape now line) ≡ part_of shape image line =
      sym (part_cut c line lt) ∙ ap (λ (a : List ℕ). part_of shape a line) (sym is) in
      ap (λ (f : List Bool). get_or f (c line) false) (fits_at shape image now es all_lines line lt)
      ∙ fits_tell (c line) line (part_of shape image line) (part_of shape now line) es (omega (arith, inside, few))
      ∙ (bytes_decides _ _).1 same

  -- so there are counts for its markers, of each line no more writes
  counts_of_cut : (k : ℕ) (c : ℕ → ℕ) → IsCut k c es → image ≡ image_at shape (image_of all_lines c es m.persisted)
      → (counts : List ℕ) × (counts_at fits k es ≡ Some counts) × ((line : ℕ) → line < all_lines → slice_index counts line ≤ c line)
  counts_of_cut k c cut is =
      let found : (line : ℕ) → line < all_lines → (n : ℕ) × (first_true (get_or fits line []) (low line k es) (before line k es - low line k es + 1) ≡ Some n) × (n ≤ c line) =
      λ line lt. (
      let least = low_asked line k es (c line) (λ j lt' is'. cut.settled j line lt' is') in
      let most = cut.inside line in
      first_true_there (get_or fits line []) (low line k es) (before line k es - low line k es + 1) (c line) least (omega (arith, least, most)) (cut_fits k c cut is line lt)
      ) in
      let (counts, there) = counts_there fits (λ line. low line k es) (λ line. before line k es) all_lines (λ line lt. let f = found line lt in (f.0, f.1)) in
      let are = counts_are fits (λ line. low line k es) (λ line. before line k es) all_lines counts (let all = all_is in omega (arith, all)) there in (
        counts,
        there,
        λ line lt. (
            let f = found line lt in
            let both : Some f.0 ≡ Some (slice_index counts line) = sym f.1 ∙ are.first line lt in
            let same : f.0 ≡ slice_index counts line = cc in
            let le = f.2 in
            omega (arith, same, le)
            ),
      )

  -- counts are a cut
  cut_of_counts : (k : ℕ) (counts : List ℕ) → k ≤ markers es → counts_at fits k es ≡ Some counts → IsCut k (slice_index counts) es
  cut_of_counts k counts few is =
      let are = counts_are fits (λ line. low line k es) (λ line. before line k es) all_lines counts (let all = all_is in omega (arith, all)) is in
      record {
        few = few;
        inside = λ line. elim (cases_lt line all_lines) [
          | inl lt ↦ (
              let f = first_true_is (get_or fits line []) (low line k es) (before line k es - low line k es + 1) (slice_index counts line) (are.first line lt) in
              let a = f.1 in
              let b = low_within line k es in
              omega (arith, a, b)
              )
          | inr past ↦ (let z = are.none line past in omega (arith, z))
        ];
        settled = λ j line lt' is'. elim (cases_lt line all_lines) [
          | inl lt ↦ (
              let f = first_true_is (get_or fits line []) (low line k es) (before line k es - low line k es + 1) (slice_index counts line) (are.first line lt) in
              let a = f.0 in
              let b = asked_low line k j es lt' is' in
              omega (arith, a, b)
              )
          | inr past ↦ (let z = before_none all_lines line j es below_all past in omega (arith, z))
        ];
      }

  -- and it leaves the image
  image_of_counts : (k : ℕ) (counts : List ℕ) → k ≤ markers es → counts_at fits k es ≡ Some counts → length now ≡ length image → image ≡ image_at shape (image_of all_lines (slice_index counts) es m.persisted)
  image_of_counts k counts few is same_size =
      let are = counts_are fits (λ line. low line k es) (λ line. before line k es) all_lines counts (let all = all_is in omega (arith, all)) is in
      let cut = cut_of_counts k counts few is in
      let size_now = length-image_from shape m.persisted 0 in
      same_parts shape image (image_at shape (image_of all_lines (slice_index counts) es m.persisted)) (sym same_size ∙ size_now) (length-image_from shape (image_of all_lines (slice_index counts) es m.persisted) 0) (
      λ line. elim (cases_lt line all_lines) [
        | inl lt ↦ (
            let f = first_true_is (get_or fits line []) (low line k es) (before line k es - low line k es + 1) (slice_index counts line) (are.first line lt) in
            let inside = cut.inside line in
            let fewer = before_within line k es in
            let told = sym (fits_tell (slice_index counts line) line (part_of shape image line) (part_of shape now line) es (omega (arith, inside, fewer)))
            ∙ sym (ap (λ (g : List Bool). get_or g (slice_index counts line) false) (fits_at shape image now es all_lines line lt)) ∙ f.2 in
            sym ((bytes_decides _ _).0 told) ∙ sym (part_cut (slice_index counts) line lt)
            )
        | inr past ↦ (
            let all = all_is in
            let lines = is_shape.lines in
            let gone : length shape ≤ line = omega (arith, all, lines, past) in
            part_past shape image line gone ∙ sym (part_past shape (image_at shape (image_of all_lines (slice_index counts) es m.persisted)) line gone)
            )
      ]
      )

  -- the counts of a number of markers are the least, also where more markers went
  counts_least : (k k' : ℕ) (c : ℕ → ℕ) (counts : List ℕ) → k ≤ k' → counts_at fits k es ≡ Some counts → IsCut k' c es → image ≡ image_at shape (image_of all_lines c es m.persisted)
      → (line : ℕ) → line < all_lines → slice_index counts line ≤ c line
  counts_least k k' c counts more there cut is line lt =
      let are = counts_are fits (λ line. low line k es) (λ line. before line k es) all_lines counts (let all = all_is in omega (arith, all)) there in
      let inside = low_within line k es in
      elim (cases_lt (before line k es) (c line)) [
        | inl past ↦
            let f = first_true_is (get_or fits line []) (low line k es) (before line k es - low line k es + 1) (slice_index counts line) (are.first line lt) in
            let a = f.1 in
            omega (arith, a, inside, past)
        | inr within ↦
            let least = low_asked line k es (c line) (λ j lt' is'. cut.settled j line (omega (arith, lt', more)) is') in
            let found = first_true_there (get_or fits line []) (low line k es) (before line k es - low line k es + 1) (c line) least (omega (arith, inside, least, within)) (cut_fits k' c cut is line lt) in
            let both : Some found.0 ≡ Some (slice_index counts line) = sym found.1 ∙ are.first line lt in
            let same : found.0 ≡ slice_index counts line = cc in
            let le = found.2 in
            omega (arith, same, le)
      ]

  -- the cut that is found is the least
  least_of_cut : (cut : Cut) → first_cut fits es 0 (markers es + 1) ≡ Some cut → length now ≡ length image → IsLeast shape m image (cut_flags cut.markers cut.counts es)
  least_of_cut cut is same_size =
      let found = first_cut_is fits es 0 (markers es + 1) cut is in
      let range = found.1 in
      let few : cut.markers ≤ markers es = omega (arith, range) in
      let counted = found.2 in
      let are = counts_are fits (λ line. low line cut.markers es) (λ line. before line cut.markers es) all_lines cut.counts (let all = all_is in omega (arith, all)) counted in
      let chosen = cut_flags_are es cut.markers cut.counts are.size below (cut_of_counts cut.markers cut.counts few counted) in
      record {
        leaving = record {
          closed = closed_of es (cut_flags cut.markers cut.counts es) chosen.closed;
          leaves = image_of_counts cut.markers cut.counts few counted same_size ∙ ap (image_at shape) (sym (chosen.gives all_lines m.persisted below_all));
        };
        pending = chosen.size;
        least = λ other place l held_it. (
            let closed = none_is_left es other l.closed in
            let h = held_by_set es other closed in
            let k' = markers (flagged es other) in
            let c : ℕ → ℕ = held (flagged es other) in
            let gives : image ≡ image_at shape (image_of all_lines c es m.persisted) = l.leaves ∙ ap (image_at shape) (h.gives all_lines m.persisted below_all) in
            let (counts, is', le') = counts_of_cut k' c h.cut gives in
            let few' = h.cut.few in
            let (cut', is'', le'') = first_cut_there fits es 0 (markers es + 1) k' counts (omega arith) (omega (arith, few')) is' in
            let both : Some cut ≡ Some cut' = sym is ∙ is'' in
            let same : cut ≡ cut' = cc in
            let number : cut.markers ≡ cut'.markers = ap (λ (x : Cut). x.markers) same in
            let fewer : cut.markers ≤ k' = omega (arith, number, le'') in
            cut_within es cut.markers cut.counts other closed are.size below fewer (
            λ line. elim (cases_lt line all_lines) [
              | inl lt ↦ counts_least cut.markers k' c cut.counts fewer counted h.cut gives line lt
              | inr past ↦ (let z = are.none line past in omega (arith, z))
            ]
            ) place held_it
            );
      }

  -- where further changes leave the image, a cut is found
  cut_of_image : IsImage shape m image → (length now ≡ length image) × ((cut : Cut) × (first_cut fits es 0 (markers es + 1) ≡ Some cut))
  cut_of_image (persisted, reached, shown) =
      let (k, c, cut, is) = (cut_law all_lines m persisted below_all).0 reached in
      let (counts, there, le) = counts_of_cut k c cut (shown ∙ ap (image_at shape) is) in
      let few = cut.few in
      let (found, f, le') = first_cut_there fits es 0 (markers es + 1) k counts (omega arith) (omega (arith, few)) there in
      (length-image_from shape m.persisted 0 ∙ sym (length-image_from shape persisted 0) ∙ ap length (sym shown), (found, f))

  set_found : (found : Option Cut) → first_cut fits es 0 (markers es + 1) ≡ found → length now ≡ length image → IsLeastSet shape m image (places_of_cut es found)
  set_found None is same_size = λ image_is. (
      let (cut, f) = (cut_of_image image_is).1 in
      let bad : None ≡ Some cut = sym is ∙ f in
      absurd (cc)
      )
  set_found (Some cut) is same_size = (cut_flags cut.markers cut.counts es, least_of_cut cut is same_size, refl)

  pub is_least_set : IsLeastSet shape m image (closed_set_of shape m image)
  is_least_set =
      elim (cases_Bool (length now == length image)) [
        | inl on ↦ (
            let same_size : length now ≡ length image = eqb-true _ _ on in
            let is : closed_set_of shape m image ≡ places_of_cut es (first_cut fits es 0 (markers es + 1)) = rw on refl in
            subst (IsLeastSet shape m image) (sym is) (set_found (first_cut fits es 0 (markers es + 1)) refl same_size)
            )
        | inr off ↦ (
            let is : closed_set_of shape m image ≡ None = rw off refl in
            subst (IsLeastSet shape m image) (sym is) (λ image_is. let bad : (length now == length image) ≡ true = eq-eqb _ _ (cut_of_image image_is).0 in absurd (cc))
            )
      ]
