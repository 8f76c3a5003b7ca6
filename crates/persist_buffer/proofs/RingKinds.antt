-- The entries of one ring are the writes of one line, or the markers.
use Rattle.std.proofs.Common.{◌≡◌, ℕ, zero, suc, ◌+◌, Bool, true, false, cond, List, [], ◌∷◌, Option, Some, None, refl, sym, ◌∙◌, ap, subst, arith, inl, inr, map}
use Rattle.std.specs.Prelude.{◌==◌, filter, find, count_by, slice_get, option_map, IsSome}
use Rattle.std.specs.List.{list_any}
use Rattle.std.proofs.lemmas.Bool.{cases_Bool}
use Rattle.std.proofs.lemmas.Bool.Decides.{nat_tests}
use Rattle.std.proofs.lemmas.Option.{slice_get-map}
use Rattle.lines_layout.specs.Lines.{line_of}
use Rattle.persist_buffer.specs.declared.entry.PendingEntry.{PendingEntry}
use Rattle.persist_buffer.specs.declared.entry.PendingEntry.TheVariants.{Write, Marker}
use Rattle.persist_buffer.specs.declared.ring.StampedEntry.{StampedEntry}
use Rattle.persist_buffer.specs.Memories.{is_write_on, is_marker}
use Rattle.persist_buffer.specs.Listings.{before_marker}
use Rattle.persist_buffer.specs.Rings.{goes_in, is_in, entries}
use Rattle.persist_buffer.specs.Firsts.{drop_first, before_first, before_nth}
use Rattle.persist_buffer.proofs.EntriesAndTheirSerials.{find_passes, find-map, drop_first-map, count_by-map, before-map}

same_more : (a b : ℕ) → (a + 1 == b + 1) ≡ (a == b)
same_more a b = grind (arith, nat_tests)

none_more : (b : ℕ) → (0 == b + 1) ≡ false
none_more b = grind (arith, nat_tests)

more_none : (b : ℕ) → (b + 1 == 0) ≡ false
more_none b = grind (arith, nat_tests)

on_line : (line : ℕ) (w : PendingEntry) → goes_in (line + 1) w ≡ is_write_on line w
on_line line (Write word value) = same_more (line_of word) line
on_line line (Marker other) = none_more line

with_markers : (w : PendingEntry) → goes_in 0 w ≡ is_marker w
with_markers (Write word value) = more_none (line_of word)
with_markers (Marker line) = refl

-- the entries of a ring, by a test of entries alone
abbrev pub IsKind : ℕ → (PendingEntry → Bool) → Type 0
IsKind r p = goes_in r ≡ p

pub line_kind : (r line : ℕ) → r ≡ line + 1 → IsKind r (is_write_on line)
line_kind r line e = ap goes_in e ∙ (λ i w. on_line line w i)

pub marker_kind : IsKind 0 is_marker
marker_kind = λ i w. with_markers w i

module _ {X Y : Type 0} (f : X → Y) where
  filter-map : (p : Y → Bool) (xs : List X) → filter p (map f xs) ≡ map f (filter (λ x. p (f x)) xs)
  filter-map p [] = refl
  filter-map p (x ∷ xs) = elim (cases_Bool (p (f x))) [ inl y ↦ simp (y, filter-map p xs) | inr n ↦ simp (n, filter-map p xs) ]

  before_nth-map : (k : ℕ) (p : Y → Bool) (xs : List X) → before_nth k p (map f xs) ≡ map f (before_nth k (λ x. p (f x)) xs)
  before_nth-map k p [] = refl
  before_nth-map zero p (x ∷ xs) = elim (cases_Bool (p (f x))) [ inl y ↦ rw y refl | inr n ↦ rw n (ap (λ ys. f x ∷ ys) (before_nth-map 0 p xs)) ]
  before_nth-map (suc k) p (x ∷ xs) = ap (λ ys. f x ∷ ys) (before_nth-map (cond (p (f x)) k (suc k)) p xs)

passes_at : (p : PendingEntry → Bool) (w : PendingEntry) (ws : List PendingEntry) (i : ℕ) (e : PendingEntry) → p w ≡ true → slice_get (w ∷ filter p ws) i ≡ Some e
    → ((j : ℕ) (d : PendingEntry) → slice_get (filter p ws) j ≡ Some d → p d ≡ true) → p e ≡ true
passes_at p w ws zero e y g later = let same : w ≡ e = cc in subst (λ z. p z ≡ true) same y
passes_at p w ws (suc i) e y g later = later i e g

nth_passes : (p : PendingEntry → Bool) (ws : List PendingEntry) (i : ℕ) (e : PendingEntry) → slice_get (filter p ws) i ≡ Some e → p e ≡ true
nth_passes p [] i e h = absurd (cc)
nth_passes p (w ∷ ws) i e h = elim (cases_Bool (p w)) [
  | inl y ↦ let g = rw y at h in passes_at p w ws i e y g (nth_passes p ws)
  | inr n ↦ nth_passes p ws i e (rw n at h)
]

some_mapped : (o : Option StampedEntry) → IsSome (option_map (λ (s : StampedEntry). s.entry) o) → IsSome o
some_mapped (Some s) h = refl
some_mapped None h = h

-- what stands before a marker, by the test of markers
before_is : (k : ℕ) (ws : List PendingEntry) → before_nth k is_marker ws ≡ before_marker k ws
before_is k [] = refl
before_is zero (Write word value ∷ ws) = ap (λ ys. Write word value ∷ ys) (before_is 0 ws)
before_is (suc k) (Write word value ∷ ws) = ap (λ ys. Write word value ∷ ys) (before_is (suc k) ws)
before_is zero (Marker line ∷ ws) = refl
before_is (suc k) (Marker line ∷ ws) = ap (λ ys. Marker line ∷ ys) (before_is k ws)

module _ (all : List StampedEntry) (ws : List PendingEntry) (view : entries all ≡ ws) where
  -- the first of a ring
  pub kind_one : (r : ℕ) (p : PendingEntry → Bool) (found : Option StampedEntry) → IsKind r p → found ≡ find (is_in r) all → find p ws ≡ option_map (λ (s : StampedEntry). s.entry) found
  kind_one r p found e h =
      ap (find p) (sym view) ∙ (ap (λ q. find q (entries all)) (sym e)
      ∙ (find-map (λ (s : StampedEntry). s.entry) (goes_in r) all ∙ ap (option_map (λ (s : StampedEntry). s.entry)) (sym h)))

  pub kind_there : (r : ℕ) (p : PendingEntry → Bool) → IsKind r p → IsSome (find p ws) → IsSome (find (is_in r) all)
  kind_there r p e h = some_mapped (find (is_in r) all) (rw (kind_one r p (find (is_in r) all) e refl) at h)

  -- one of a ring
  pub kind_nth : (r i : ℕ) (p : PendingEntry → Bool) (found : StampedEntry) → IsKind r p → slice_get (filter (is_in r) all) i ≡ Some found → slice_get (filter p ws) i ≡ Some found.entry
  kind_nth r i p found e h =
      ap (λ ys. slice_get (filter p ys) i) (sym view) ∙ (ap (λ q. slice_get (filter q (entries all)) i) (sym e)
      ∙ (ap (λ ys. slice_get ys i) (filter-map (λ (s : StampedEntry). s.entry) (goes_in r) all)
      ∙ (slice_get-map (λ (s : StampedEntry). s.entry) (filter (is_in r) all) i ∙ ap (option_map (λ (s : StampedEntry). s.entry)) h)))

  -- without the first of a ring
  pub kind_dropped : (r : ℕ) (p : PendingEntry → Bool) → IsKind r p → entries (drop_first (is_in r) all) ≡ drop_first p ws
  kind_dropped r p e = sym (drop_first-map (λ (s : StampedEntry). s.entry) (goes_in r) all) ∙ (ap (λ q. drop_first q (entries all)) e ∙ ap (drop_first p) view)

  -- what stands before the first of a ring
  pub kind_before : (a b : ℕ) (q p : PendingEntry → Bool) → IsKind a q → IsKind b p → list_any (is_in a) (before_first (is_in b) all) ≡ list_any q (before_first p ws)
  kind_before a b q p e f =
      sym (before-map (λ (s : StampedEntry). s.entry) (goes_in b) (goes_in a) all)
      ∙ (ap (λ t. list_any t (before_first (goes_in b) (entries all))) e
      ∙ (ap (λ t. list_any q (before_first t (entries all))) f ∙ ap (λ ys. list_any q (before_first p ys)) view))

  -- how many stand before one of the markers
  pub kind_count_before : (a k : ℕ) (q : PendingEntry → Bool) → IsKind a q → count_by (is_in a) (before_nth k (is_in 0) all) ≡ count_by q (before_marker k ws)
  kind_count_before a k q e =
      sym (count_by-map (λ (s : StampedEntry). s.entry) (goes_in a) (before_nth k (is_in 0) all))
      ∙ (ap (λ ys. count_by (goes_in a) ys) (sym (before_nth-map (λ (s : StampedEntry). s.entry) k (goes_in 0) all))
      ∙ (ap (λ t. count_by t (before_nth k (goes_in 0) (entries all))) e
      ∙ (ap (λ t. count_by q (before_nth k t (entries all))) marker_kind
      ∙ (ap (λ ys. count_by q (before_nth k is_marker ys)) view ∙ ap (count_by q) (before_is k ws)))))

-- what is found on a line is a write, and what is found of the markers is one
pub no_marker_found : (line other : ℕ) (ws : List PendingEntry) (e : PendingEntry) → find (is_write_on line) ws ≡ Some e → e ≡ Marker other → ⊥
no_marker_found line other ws e h is = let passes = find_passes (is_write_on line) ws e h in let clash = rw is at passes in absurd (cc)

pub no_write_found : (word value : ℕ) (ws : List PendingEntry) (e : PendingEntry) → find is_marker ws ≡ Some e → e ≡ Write word value → ⊥
no_write_found word value ws e h is = let passes = find_passes is_marker ws e h in let clash = rw is at passes in absurd (cc)

pub no_nth_marker : (line other i : ℕ) (ws : List PendingEntry) (e : PendingEntry) → slice_get (filter (is_write_on line) ws) i ≡ Some e → e ≡ Marker other → ⊥
no_nth_marker line other i ws e h is = let passes = nth_passes (is_write_on line) ws i e h in let clash = rw is at passes in absurd (cc)

pub no_nth_write : (word value i : ℕ) (ws : List PendingEntry) (e : PendingEntry) → slice_get (filter is_marker ws) i ≡ Some e → e ≡ Write word value → ⊥
no_nth_write word value i ws e h is = let passes = nth_passes is_marker ws i e h in let clash = rw is at passes in absurd (cc)
