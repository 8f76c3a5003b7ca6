-- How the code finds the least closed set that leaves an image: for each number of markers, from none on, the least number
-- of writes of each line that leaves its words as they are wanted. Which set it is, `LeastSets: IsLeastSet` says.
use Rattle.std.specs.Prelude.{◌≡◌, ℕ, zero, suc, ◌+◌, ◌-◌, ◌<◌, ◌%◌, ◌==◌, Bool, true, false, Option, None, Some, List, [], ◌∷◌, ◌++◌, if◌then◌else◌, drop, get_or, length, nat_eq, nat_lt, replicate, slice_index, slice_set, take}
use Rattle.std.specs.Cmp.Lexicographic.{pointwise}
use Rattle.lines_layout.specs.Lines.{line_of, line_words, max_lines}
use Rattle.persist_buffer.specs.declared.entry.PendingEntry.{PendingEntry}
use Rattle.persist_buffer.specs.declared.entry.PendingEntry.TheVariants.{Write, Marker}
use Rattle.persist_buffer.specs.State.{Memory, Pending}
use Rattle.persist_buffer.specs.Listings.{writes_on}
use Rattle.pending_images.specs.Candidates.{all_lines, before, low, markers}
use Rattle.pending_images.specs.Gone.{Gone}
use Rattle.pending_images.specs.Images.{image_at}
use Rattle.pending_images.specs.LeastSets.{places_from}

-- how many markers go, and how many writes of each line are persisted
pub record Cut : Type 0 where
  pub markers : ℕ
  pub counts : List ℕ

-- the values of a line's words in an image
abbrev pub part_of : List ℕ → List ℕ → ℕ → List ℕ
part_of [] image line = []
part_of (count ∷ shape) image zero = take count image
part_of (count ∷ shape) image (suc line) = part_of shape (drop count image) line

-- after each of these writes, whether a line's words, which had these values before them, have those that are wanted
abbrev pub fits_later : List ℕ → List ℕ → List PendingEntry → List Bool
fits_later wanted values [] = []
fits_later wanted values (Write word value ∷ later) =
    pointwise nat_eq (slice_set values (word % line_words) value) wanted ∷ fits_later wanted (slice_set values (word % line_words) value) later
fits_later wanted values (Marker line ∷ later) = fits_later wanted values later

-- for each number of a line's first writes, from none to all: whether they leave its words as they are wanted
abbrev pub fits_of : ℕ → List ℕ → List ℕ → List PendingEntry → List Bool
fits_of line wanted values pending = pointwise nat_eq values wanted ∷ fits_later wanted values (writes_on line pending)

-- the same of each line below a number, for two images
abbrev pub fits_below : List ℕ → List ℕ → List ℕ → List PendingEntry → ℕ → List (List Bool)
fits_below shape wanted now pending zero = []
fits_below shape wanted now pending (suc line) = fits_below shape wanted now pending line ++ fits_of line (part_of shape wanted line) (part_of shape now line) pending ∷ []

-- both of what has left the store buffers
abbrev pub fits_in : Pending → ℕ → List ℕ → List ℕ → List Bool
fits_in p line wanted values = fits_of line wanted values p.memory.pending

abbrev pub all_fits_in : Pending → List ℕ → List ℕ → List (List Bool)
all_fits_in p wanted now = fits_below p.shape wanted now p.memory.pending all_lines

-- the first of so many numbers from n on whose flag is true
abbrev pub first_true : List Bool → ℕ → ℕ → Option ℕ
first_true flags n zero = None
first_true flags n (suc more) = if get_or flags n false then Some n else first_true flags (n + 1) more

-- the same counts with that of one line set, where both are there
abbrev pub with_count : ℕ → Option (List ℕ) → Option ℕ → Option (List ℕ)
with_count line (Some counts) (Some n) = Some (slice_set counts line n)
with_count line _ _ = None

-- of each line below a number the least number of writes that fits, from a least one to a most one, where each line has such a number
abbrev pub counts_below : List (List Bool) → (ℕ → ℕ) → (ℕ → ℕ) → ℕ → Option (List ℕ)
counts_below fits least most zero = Some (replicate max_lines 0)
counts_below fits least most (suc line) =
    with_count line (counts_below fits least most line) (first_true (get_or fits line []) (least line) (most line - least line + 1))

-- the same of all lines, where k markers went
abbrev pub counts_at : List (List Bool) → ℕ → List PendingEntry → Option (List ℕ)
counts_at fits k pending = counts_below fits (λ line. low line k pending) (λ line. before line k pending) all_lines

-- the same, of what has left the store buffers once these markers went
abbrev pub counts_in : List (List Bool) → Gone → Option (List ℕ)
counts_in fits g = counts_at fits g.markers g.pending.memory.pending

-- counts for k markers, where they are there
abbrev pub or_later : ℕ → Option (List ℕ) → Option Cut → Option Cut
or_later k (Some counts) later = Some (record { markers = k; counts = counts })
or_later k None later = later

-- the first of so many numbers of markers, from k on, for which each line has a number of writes that fits; and these
abbrev pub first_cut : List (List Bool) → List PendingEntry → ℕ → ℕ → Option Cut
first_cut fits pending k zero = None
first_cut fits pending k (suc more) = or_later k (counts_at fits k pending) (first_cut fits pending (k + 1) more)

-- the same of all numbers of markers, from none to all
abbrev pub least_cut : List (List Bool) → List PendingEntry → Option Cut
least_cut fits pending = first_cut fits pending 0 (markers pending + 1)

-- the first k markers and of each line the first writes, as many as counts say, up to a marker that stays
abbrev pub cut_flags : ℕ → List ℕ → List PendingEntry → List Bool
cut_flags k counts [] = []
cut_flags k counts (Write word value ∷ later) =
    if nat_lt 0 (slice_index counts (line_of word))
    then true ∷ cut_flags k (slice_set counts (line_of word) (slice_index counts (line_of word) - 1)) later
    else false ∷ cut_flags k counts later
cut_flags zero counts (Marker line ∷ later) = []
cut_flags (suc k) counts (Marker line ∷ later) = true ∷ cut_flags k counts later

-- the places of its entries, ascending
abbrev pub places_in : List PendingEntry → Cut → List ℕ
places_in pending cut = places_from 0 (cut_flags cut.markers cut.counts pending)

-- the same, where there is a cut
abbrev pub places_of_cut : List PendingEntry → Option Cut → Option (List ℕ)
places_of_cut pending None = None
places_of_cut pending (Some cut) = Some (places_in pending cut)

-- the places of the least closed set that leaves an image, where this one is persisted now; none where the two differ in length
abbrev pub set_among : List ℕ → List PendingEntry → List ℕ → List ℕ → Option (List ℕ)
set_among shape pending now image =
    if length now == length image
    then places_of_cut pending (least_cut (fits_below shape image now pending all_lines) pending)
    else None

-- the places of the least closed set that leaves an image
abbrev pub closed_set_of : List ℕ → Memory → List ℕ → Option (List ℕ)
closed_set_of shape m image = set_among shape m.pending (image_at shape m.persisted) image

-- the same of what has left the store buffers
abbrev pub closed_set_in : Pending → List ℕ → Option (List ℕ)
closed_set_in p image = closed_set_of p.shape p.memory image

-- There is a flag for each number of first writes of each line.
pub record FitsPending (fits : List (List Bool)) (pending : List PendingEntry) : Type 0 where
  pub lines : length fits ≡ max_lines
  pub writes : (line : ℕ) → line < max_lines → length (get_or fits line []) ≡ 1 + length (writes_on line pending)
