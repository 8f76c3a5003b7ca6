-- How the code finds the values of a word: of each line which numbers of its first writes leave the given values, and for each number of markers
-- what the word's own line then allows. Which values they are, `Values: AreValues` says.
use Rattle.std.specs.Prelude.{ℕ, zero, suc, ◌+◌, ◌-◌, ◌*◌, ◌%◌, ◌==◌, ◌&&◌, ◌||◌, not, Bool, false, List, [], ◌∷◌, ◌++◌, get_or, if◌then◌else◌, is_some, map, slice_get, slice_index, slice_set}
use Rattle.std.specs.List.{list_all, range_with_len}
use Rattle.lines_layout.specs.Lines.{has_word, line_of, line_words}
use Rattle.persist_buffer.specs.declared.entry.PendingEntry.{PendingEntry}
use Rattle.persist_buffer.specs.declared.entry.PendingEntry.TheVariants.{Write, Marker}
use Rattle.persist_buffer.specs.Listings.{writes_on}
use Rattle.persist_buffer.specs.State.{Memory, Pending}
use Rattle.pending_images.specs.Candidates.{all_lines, before, low, markers}
use Rattle.pending_images.specs.Gone.{Gone}
use Rattle.pending_images.specs.LeastCuts.{counts_at}
use Rattle.pending_images.specs.Values.{is_value}

-- whether a word has this value, where it is on a line whose words have these
abbrev pub agrees_on : ℕ → List ℕ → ℕ → ℕ → Bool
agrees_on line values word value = not (line_of word == line) || is_value value (slice_get values (word % line_words))

-- whether the given words of a line have their values, where the line's words have these
abbrev pub agree : ℕ → List (ℕ × ℕ) → List ℕ → Bool
agree line given values = list_all (λ g. agrees_on line values g.0 g.1) given

-- the same after each of these writes
abbrev pub agree_later : ℕ → List (ℕ × ℕ) → List ℕ → List PendingEntry → List Bool
agree_later line given values [] = []
agree_later line given values (Write word value ∷ later) =
    agree line given (slice_set values (word % line_words) value) ∷ agree_later line given (slice_set values (word % line_words) value) later
agree_later line given values (Marker other ∷ later) = agree_later line given values later

-- for each number of a line's first writes, from none to all: whether they leave the given values
abbrev pub agree_of : ℕ → List (ℕ × ℕ) → List ℕ → List PendingEntry → List Bool
agree_of line given values pending = agree line given values ∷ agree_later line given values (writes_on line pending)

-- the persisted values of a line's words
abbrev pub line_now : List ℕ → ℕ → List ℕ
line_now persisted line = map (slice_index persisted) (range_with_len (line_words * line) line_words)

-- the flags of each line below a number
abbrev pub agree_below : List (ℕ × ℕ) → Memory → ℕ → List (List Bool)
agree_below given m zero = []
agree_below given m (suc line) = agree_below given m line ++ agree_of line given (line_now m.persisted line) m.pending ∷ []

-- both of what has left the store buffers
abbrev pub agree_in : Pending → ℕ → List (ℕ × ℕ) → List Bool
agree_in p line given = agree_of line given (line_now p.memory.persisted line) p.memory.pending

abbrev pub all_agree_in : Pending → List (ℕ × ℕ) → List (List Bool)
all_agree_in p given = agree_below given p.memory all_lines

-- a word's value after a write of its line, which may be to another word
abbrev pub value_next : ℕ → ℕ → ℕ → ℕ → ℕ
value_next word value target written = if target == word then written else value

-- a word's value after each of these writes
abbrev pub column_later : ℕ → ℕ → List PendingEntry → List ℕ
column_later word value [] = []
column_later word value (Write target written ∷ later) = value_next word value target written ∷ column_later word (value_next word value target written) later
column_later word value (Marker other ∷ later) = column_later word value later

-- a word's value after each number of its line's first writes, from none to all
abbrev pub column_of : ℕ → Memory → List ℕ
column_of word m = slice_index m.persisted word ∷ column_later word (slice_index m.persisted word) (writes_on (line_of word) m.pending)

abbrev pub column_in : Pending → ℕ → List ℕ
column_in p word = column_of word p.memory

-- the value at place n, if its flag is true
abbrev pub picked_at : List Bool → List ℕ → ℕ → List ℕ
picked_at flags values n = if get_or flags n false then slice_index values n ∷ [] else []

-- the values whose flags are true, of so many from place n on
abbrev pub picked : List Bool → List ℕ → ℕ → ℕ → List ℕ
picked flags values n zero = []
picked flags values n (suc more) = picked_at flags values n ++ picked flags values (n + 1) more

-- a line's values where k markers went: those after the numbers of writes that are allowed and fit, if each line has such a number
abbrev pub allowed_at : List (List Bool) → ℕ → List ℕ → ℕ → List PendingEntry → List ℕ
allowed_at fits line values k pending =
    if is_some (counts_at fits k pending)
    then picked (get_or fits line []) values (low line k pending) (before line k pending - low line k pending + 1)
    else []

-- the same where fewer than n markers went, with repeats
abbrev pub allowed_below : List (List Bool) → ℕ → List ℕ → ℕ → List PendingEntry → List ℕ
allowed_below fits line values zero pending = []
allowed_below fits line values (suc k) pending = allowed_below fits line values k pending ++ allowed_at fits line values k pending

-- the same once these markers went
abbrev pub allowed_in : List (List Bool) → ℕ → List ℕ → Gone → List ℕ
allowed_in fits line values g = allowed_at fits line values g.markers g.pending.memory.pending

-- a word's values among all numbers of markers, with repeats
abbrev pub found_in : Pending → List (ℕ × ℕ) → ℕ → List ℕ
found_in p given word =
    allowed_below (agree_below given p.memory all_lines) (line_of word) (column_of word p.memory) (markers p.memory.pending + 1) p.memory.pending

-- whether a shape has all given words; and another one too
abbrev pub has_given : List ℕ → List (ℕ × ℕ) → Bool
has_given shape given = list_all (λ g. has_word shape g.0) given

abbrev pub has_all : List ℕ → List (ℕ × ℕ) → ℕ → Bool
has_all shape given word = has_given shape given && has_word shape word

-- the same values, where the shape has all these words; none where it lacks one
abbrev pub all_found_in : Pending → List (ℕ × ℕ) → ℕ → List ℕ
all_found_in p given word = if has_all p.shape given word then found_in p given word else []
