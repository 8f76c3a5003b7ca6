-- What further changes reach, line by line: where all markers go, each line has values that it may hold, and each choice of such values is reached.
use Rattle.std.proofs.Common.{◌≡◌, ◌≢◌, ℕ, zero, suc, ◌+◌, ◌*◌, ◌<◌, ◌≤◌, inl, inr, Bool, true, false, List, [], ◌∷◌, ◌++◌, length, map, refl, sym, ap, subst, ◌∙◌, arith, true≢false, length-set, get_or-set_same, get_or-set_other}
use Rattle.std.specs.Prelude.{◌⊎◌, ◌||◌, ◌==◌, slice_index, slice_set}
use Rattle.std.specs.List.{list_any, range_with_len}
use Rattle.std.proofs.lemmas.Bool.{cases_Bool, cases_lt, eqb-true, eq-eqb}
use Rattle.std.proofs.lemmas.Grind.{same_number_lists}
use Rattle.std.proofs.lemmas.List.{set_past}
use Rattle.lines_layout.specs.Lines.{line_of}
use Rattle.persist_buffer.specs.declared.entry.PendingEntry.{PendingEntry}
use Rattle.persist_buffer.specs.declared.entry.PendingEntry.TheVariants.{Write, Marker}
use Rattle.persist_buffer.specs.Listings.{LinesBelow}
use Rattle.persist_buffer.specs.Memories.{coherent}
use Rattle.persist_buffer.specs.State.{Memory}
use Rattle.pending_images.specs.Changes.{IsReached}
use Rattle.pending_images.specs.Cuts.{written}
use Rattle.explore.specs.Canonical.{MayLeave, no_line, with_line}
use Rattle.explore.specs.Covering.{grown}
use Rattle.explore.specs.LineSets.{AreHeld, MayHold, is_marker_of, values_on}
use Rattle.explore.proofs.WrittenValues.{written_shows}
use Rattle.explore.proofs.LaterMemories.{IsWhole}
use Rattle.explore.proofs.LeftByEntries.{may_leave_reached, reached_may_leave}

-- ---- all markers go

-- Some entries leave, as in `MayLeave`, and all markers do.
abbrev AllGo : (ℕ → Bool) → List PendingEntry → List ℕ → List ℕ → Type 0
AllGo blocked [] old new = new ≡ old
AllGo blocked (Write word value ∷ later) old new =
    ((blocked (line_of word) ≡ false) × AllGo blocked later (slice_set old word value) new) ⊎ AllGo (with_line (line_of word) blocked) later old new
AllGo blocked (Marker line ∷ later) old new = (blocked line ≡ false) × AllGo blocked later old new

all_may_leave : (blocked : ℕ → Bool) (es : List PendingEntry) (old new : List ℕ) → AllGo blocked es old new → MayLeave blocked es old new
all_may_leave blocked [] old new go = go
all_may_leave blocked (Write word value ∷ es) old new (inl (free, more)) = inl (free, all_may_leave blocked es (slice_set old word value) new more)
all_may_leave blocked (Write word value ∷ es) old new (inr more) = inr (all_may_leave (with_line (line_of word) blocked) es old new more)
all_may_leave blocked (Marker line ∷ es) old new (free, more) = inl (free, all_may_leave blocked es old new more)

-- the last entry stays, and is not asked for; or all markers go
last_or_all : (blocked : ℕ → Bool) (es : List PendingEntry) (e : PendingEntry) (old new : List ℕ) → MayLeave blocked (es ++ e ∷ []) old new → MayLeave blocked es old new ⊎ AllGo blocked (es ++ e ∷ []) old new
last_or_all blocked [] (Write word value) old new (inl (free, more)) = inr (inl (free, more))
last_or_all blocked [] (Write word value) old new (inr more) = inl more
last_or_all blocked [] (Marker line) old new (inl (free, more)) = inr (free, more)
last_or_all blocked [] (Marker line) old new (inr same) = inl same
last_or_all blocked (Write word value ∷ es) e old new (inl (free, more)) =
    elim (last_or_all blocked es e (slice_set old word value) new more) [ inl stays ↦ inl (inl (free, stays)) | inr all ↦ inr (inl (free, all)) ]
last_or_all blocked (Write word value ∷ es) e old new (inr more) =
    elim (last_or_all (with_line (line_of word) blocked) es e old new more) [ inl stays ↦ inl (inr stays) | inr all ↦ inr (inr all) ]
last_or_all blocked (Marker line ∷ es) e old new (inl (free, more)) =
    elim (last_or_all blocked es e old new more) [ inl stays ↦ inl (inl (free, stays)) | inr all ↦ inr (free, all) ]
last_or_all blocked (Marker line ∷ es) e old new (inr same) = inl (inr same)

-- ---- the words of one line

-- two lists have the same values on a line
abbrev pub AgreeOn : ℕ → List ℕ → List ℕ → Type 0
AgreeOn line xs ys = (word : ℕ) → line_of word ≡ line → slice_index xs word ≡ slice_index ys word

pub agree_back : (line : ℕ) (xs ys : List ℕ) → AgreeOn line xs ys → AgreeOn line ys xs
agree_back line xs ys same word on = sym (same word on)

pub agree_then : (line : ℕ) (xs ys zs : List ℕ) → AgreeOn line xs ys → AgreeOn line ys zs → AgreeOn line xs zs
agree_then line xs ys zs first more word on = first word on ∙ more word on

-- a write of another line
pub agree_other : (line word value : ℕ) (xs : List ℕ) → line_of word ≢ line → AgreeOn line (slice_set xs word value) xs
agree_other line word value xs apart other on = get_or-set_other xs word other value 0 (λ same. apart (ap line_of (sym same) ∙ on))

pub agree_set : (line word value : ℕ) (xs ys : List ℕ) → length xs ≡ length ys → AgreeOn line xs ys → AgreeOn line (slice_set xs word value) (slice_set ys word value)
agree_set line word value xs ys long same other on =
    elim (cases_Bool (word == other)) [
      | inl is ↦ here (eqb-true word other is)
      | inr not ↦ (let apart : word ≢ other = λ e. true≢false (sym (eq-eqb word other e) ∙ not) in
          get_or-set_other xs word other value 0 (λ e. apart (sym e)) ∙ same other on ∙ sym (get_or-set_other ys word other value 0 (λ e. apart (sym e))))
    ]
  where
    here : word ≡ other → slice_index (slice_set xs word value) other ≡ slice_index (slice_set ys word value) other
    here is =
        subst (λ (w : ℕ). slice_index (slice_set xs word value) w ≡ slice_index (slice_set ys word value) w) is
        (elim (cases_lt word (length xs)) [
          | inl inside ↦ get_or-set_same xs word value 0 inside ∙ sym (get_or-set_same ys word value 0 (subst (λ (n : ℕ). word < n) long inside))
          | inr past ↦
              ap (λ (zs : List ℕ). slice_index zs word) (set_past xs word value past) ∙ same word (ap line_of is ∙ on)
              ∙ sym (ap (λ (zs : List ℕ). slice_index zs word) (set_past ys word value (subst (λ (n : ℕ). n ≤ word) long past)))
        ])

pub agree_written : (line : ℕ) (es : List PendingEntry) (xs ys : List ℕ) → length xs ≡ length ys → AgreeOn line xs ys → AgreeOn line (written es xs) (written es ys)
agree_written line [] xs ys long same = same
agree_written line (Write word value ∷ es) xs ys long same =
    agree_written line es (slice_set xs word value) (slice_set ys word value) (length-set xs word value ∙ long ∙ sym (length-set ys word value)) (agree_set line word value xs ys long same)
agree_written line (Marker other ∷ es) xs ys long same = agree_written line es xs ys long same

-- ---- what a line is left with, where all markers go

-- a line that is not blocked: with its values at a moment since its last marker
pub record Gone (line : ℕ) (es : List PendingEntry) (old new : List ℕ) : Type 0 where
  pub before : List PendingEntry
  pub since : List PendingEntry
  pub whole : es ≡ before ++ since
  pub unmarked : list_any (is_marker_of line) since ≡ false
  pub left : AgreeOn line new (written before old)

-- a line that is blocked: with the old ones, and it has no marker
record Kept (line : ℕ) (es : List PendingEntry) (old new : List ℕ) : Type 0 where
  unmarked : list_any (is_marker_of line) es ≡ false
  left : AgreeOn line new old

abbrev Goes : Bool → ℕ → List PendingEntry → List ℕ → List ℕ → Type 0
Goes true line es old new = Kept line es old new
Goes false line es old new = Gone line es old new

goes_as : (b c : Bool) (line : ℕ) (es : List PendingEntry) (old new : List ℕ) → b ≡ c → Goes b line es old new → Goes c line es old new
goes_as b c line es old new same = subst (λ (x : Bool). Goes x line es old new) same

nothing_gone : (line : ℕ) (es : List PendingEntry) (old new : List ℕ) → list_any (is_marker_of line) es ≡ false → AgreeOn line new old → Gone line es old new
nothing_gone line es old new unmarked same = record { before = []; since = es; whole = refl; unmarked = unmarked; left = same }

pub same_line : (a b : ℕ) → (a ≡ b) ⊎ (a ≢ b)
same_line a b = elim (cases_Bool (a == b)) [ inl is ↦ inl (eqb-true a b is) | inr not ↦ inr (λ e. true≢false (sym (eq-eqb a b e) ∙ not)) ]

with_this : (line : ℕ) (blocked : ℕ → Bool) → with_line line blocked line ≡ true
with_this line blocked = rw (eq-eqb line line refl) refl

with_other : (line other : ℕ) (blocked : ℕ → Bool) → line ≢ other → with_line line blocked other ≡ blocked other
with_other line other blocked apart = elim (cases_Bool (line == other)) [ inl same ↦ absurd (apart (eqb-true line other same)) | inr not ↦ rw not refl ]

-- a write that goes, for each line
went : (blocked : Bool) (line word value : ℕ) (es : List PendingEntry) (old new : List ℕ) → (blocked ≡ true → line_of word ≢ line) → Goes blocked line es (slice_set old word value) new → Goes blocked line (Write word value ∷ es) old new
went true line word value es old new apart k = record { unmarked = k.unmarked; left = agree_then line new (slice_set old word value) old k.left (agree_other line word value old (apart refl)) }
went false line word value es old new apart g =
    record { before = Write word value ∷ g.before; since = g.since; whole = ap (λ (xs : List PendingEntry). Write word value ∷ xs) g.whole; unmarked = g.unmarked; left = g.left }

-- a write that stays, for each other line
stayed : (blocked : Bool) (line word value : ℕ) (es : List PendingEntry) (old new : List ℕ) → line_of word ≢ line → Goes blocked line es old new → Goes blocked line (Write word value ∷ es) old new
stayed true line word value es old new apart k = record { unmarked = k.unmarked; left = k.left }
stayed false line word value es old new apart g = record {
  before = Write word value ∷ g.before;
  since = g.since;
  whole = ap (λ (xs : List PendingEntry). Write word value ∷ xs) g.whole;
  unmarked = g.unmarked;
  left = agree_then line new (written g.before old) (written g.before (slice_set old word value)) g.left
      (agree_written line g.before old (slice_set old word value) (sym (length-set old word value)) (agree_back line (slice_set old word value) old (agree_other line word value old apart)));
}

-- a marker that goes, for each line
passed : (blocked : Bool) (line other : ℕ) (es : List PendingEntry) (old new : List ℕ) → (blocked ≡ true → other ≢ line) → Goes blocked line es old new → Goes blocked line (Marker other ∷ es) old new
passed true line other es old new apart k =
    record { unmarked = elim (cases_Bool (other == line)) [ inl same ↦ absurd (apart refl (eqb-true other line same)) | inr not ↦ rw not (k.unmarked) ]; left = k.left }
passed false line other es old new apart g =
    record { before = Marker other ∷ g.before; since = g.since; whole = ap (λ (xs : List PendingEntry). Marker other ∷ xs) g.whole; unmarked = g.unmarked; left = g.left }

lines_go : (blocked : ℕ → Bool) (es : List PendingEntry) (old new : List ℕ) → AllGo blocked es old new → (line : ℕ) → Goes (blocked line) line es old new
lines_go blocked [] old new go line = by (blocked line)
  where
    same : AgreeOn line new old
    same word on = ap (λ (xs : List ℕ). slice_index xs word) go

    by : (b : Bool) → Goes b line [] old new
    by true = record { unmarked = refl; left = same }
    by false = nothing_gone line [] old new refl same
lines_go blocked (Write word value ∷ es) old new (inl (free, more)) line =
    went (blocked line) line word value es old new (λ is on. true≢false (sym is ∙ ap blocked (sym on) ∙ free)) (lines_go blocked es (slice_set old word value) new more line)
lines_go blocked (Write word value ∷ es) old new (inr more) line =
    let rest : Goes (with_line (line_of word) blocked line) line es old new = lines_go (with_line (line_of word) blocked) es old new more line in
    elim (same_line (line_of word) line) [
      | inl here ↦ kept (blocked line) (goes_as (with_line (line_of word) blocked line) true line es old new (ap (with_line (line_of word) blocked) (sym here) ∙ with_this (line_of word) blocked) rest)
      | inr apart ↦ stayed (blocked line) line word value es old new apart (goes_as (with_line (line_of word) blocked line) (blocked line) line es old new (with_other (line_of word) line blocked apart) rest)
    ]
  where
    kept : (b : Bool) → Kept line es old new → Goes b line (Write word value ∷ es) old new
    kept true k = record { unmarked = k.unmarked; left = k.left }
    kept false k = nothing_gone line (Write word value ∷ es) old new k.unmarked k.left
lines_go blocked (Marker other ∷ es) old new (free, more) line =
    passed (blocked line) line other es old new (λ is on. true≢false (sym is ∙ ap blocked (sym on) ∙ free)) (lines_go blocked es old new more line)

-- ---- and each choice of such values is left

-- where a line's values are taken behind a first entry, or before it
record Behind (line : ℕ) (e : PendingEntry) (es : List PendingEntry) (old new : List ℕ) : Type 0 where
  before : List PendingEntry
  since : List PendingEntry
  whole : es ≡ before ++ since
  unmarked : list_any (is_marker_of line) since ≡ false
  left : AgreeOn line new (written (e ∷ before) old)

first_or_behind : (line : ℕ) (e : PendingEntry) (es : List PendingEntry) (old new : List ℕ) → Gone line (e ∷ es) old new
    → ((list_any (is_marker_of line) (e ∷ es) ≡ false) × AgreeOn line new old) ⊎ Behind line e es old new
first_or_behind line e es old new g = by g.before g.since g.whole g.unmarked g.left
  where
    by : (before since : List PendingEntry) → e ∷ es ≡ before ++ since → list_any (is_marker_of line) since ≡ false → AgreeOn line new (written before old)
        → ((list_any (is_marker_of line) (e ∷ es) ≡ false) × AgreeOn line new old) ⊎ Behind line e es old new
    by [] since whole unmarked left = inl (ap (list_any (is_marker_of line)) whole ∙ unmarked, left)
    by (x ∷ before) since whole unmarked left =
        let first : e ≡ x = cc in
        let rest : es ≡ before ++ since = cc in
        inr (record {
          before = before;
          since = since;
          whole = rest;
          unmarked = unmarked;
          left = subst (λ (y : PendingEntry). AgreeOn line new (written (y ∷ before) old)) (sym first) left;
        })

-- a write of another line is passed
past_write : (blocked : Bool) (line word value : ℕ) (es : List PendingEntry) (old mid new : List ℕ) → length mid ≡ length old → AgreeOn line (slice_set old word value) old → AgreeOn line mid old
    → Goes blocked line (Write word value ∷ es) old new → Goes blocked line es mid new
past_write true line word value es old mid new long still same k = record { unmarked = k.unmarked; left = agree_then line new old mid k.left (agree_back line mid old same) }
past_write false line word value es old mid new long still same g =
    elim (first_or_behind line (Write word value) es old new g) [
      | inl first ↦ nothing_gone line es mid new first.0 (agree_then line new old mid first.1 (agree_back line mid old same))
      | inr b ↦ record {
        before = b.before;
        since = b.since;
        whole = b.whole;
        unmarked = b.unmarked;
        left = agree_then line new (written b.before (slice_set old word value)) (written b.before mid) b.left
            (agree_written line b.before (slice_set old word value) mid (length-set old word value ∙ sym long) (agree_then line (slice_set old word value) old mid still (agree_back line mid old same)));
      }
    ]

-- a marker is passed
past_marker : (blocked : Bool) (line other : ℕ) (es : List PendingEntry) (old new : List ℕ) → Goes blocked line (Marker other ∷ es) old new → Goes blocked line es old new
past_marker true line other es old new k = record { unmarked = later (other == line) (list_any (is_marker_of line) es) k.unmarked; left = k.left }
  where
    later : (a b : Bool) → (a || b) ≡ false → b ≡ false
    later true b e = absurd (true≢false e)
    later false b e = e
past_marker false line other es old new g =
    elim (first_or_behind line (Marker other) es old new g) [
      | inl first ↦ nothing_gone line es old new (later (other == line) (list_any (is_marker_of line) es) first.0) first.1
      | inr b ↦ record { before = b.before; since = b.since; whole = b.whole; unmarked = b.unmarked; left = b.left }
    ]
  where
    later : (a b : Bool) → (a || b) ≡ false → b ≡ false
    later true b e = absurd (true≢false e)
    later false b e = e

all_same : (old new : List ℕ) → length new ≡ length old → ((line : ℕ) → AgreeOn line new old) → new ≡ old
all_same old new long same = same_number_lists new old long (λ word within. same (line_of word) word refl)

-- the first write of a line that is not blocked goes, or stays
write_goes : (blocked : ℕ → Bool) (word value : ℕ) (es : List PendingEntry) (old new : List ℕ) → blocked (line_of word) ≡ false → Behind (line_of word) (Write word value) es old new
    → ((line : ℕ) → Goes (blocked line) line (Write word value ∷ es) old new) → (line : ℕ) → Goes (blocked line) line es (slice_set old word value) new
write_goes blocked word value es old new free b each line =
    elim (same_line (line_of word) line) [
      | inl here ↦ goes_as false (blocked line) line es (slice_set old word value) new (sym (ap blocked (sym here) ∙ free)) (subst (λ (l : ℕ). Gone l es (slice_set old word value) new) here
          (record { before = b.before; since = b.since; whole = b.whole; unmarked = b.unmarked; left = b.left }))
      | inr apart ↦ (let still = agree_other line word value old apart in past_write (blocked line) line word value es old (slice_set old word value) new (length-set old word value) still still (each line))
    ]

write_stays : (blocked : ℕ → Bool) (word value : ℕ) (es : List PendingEntry) (old new : List ℕ) → list_any (is_marker_of (line_of word)) es ≡ false → AgreeOn (line_of word) new old
    → ((line : ℕ) → Goes (blocked line) line (Write word value ∷ es) old new) → (line : ℕ) → Goes (with_line (line_of word) blocked line) line es old new
write_stays blocked word value es old new unmarked same each line =
    elim (same_line (line_of word) line) [
      | inl here ↦ goes_as true (with_line (line_of word) blocked line) line es old new (sym (ap (with_line (line_of word) blocked) (sym here) ∙ with_this (line_of word) blocked))
          (subst (λ (l : ℕ). Kept l es old new) here (record { unmarked = unmarked; left = same }))
      | inr apart ↦ goes_as (blocked line) (with_line (line_of word) blocked line) line es old new (sym (with_other (line_of word) line blocked apart))
          (past_write (blocked line) line word value es old old new refl (agree_other line word value old apart) (λ w on. refl) (each line))
    ]

write_all_goes : (blocked : ℕ → Bool) (word value : ℕ) (es : List PendingEntry) (old new : List ℕ) → length new ≡ length old → ((line : ℕ) → Goes (blocked line) line (Write word value ∷ es) old new)
    → ((lines : ℕ → Bool) (mid : List ℕ) → length new ≡ length mid → ((line : ℕ) → Goes (lines line) line es mid new) → AllGo lines es mid new)
    → (b : Bool) → blocked (line_of word) ≡ b → Goes b (line_of word) (Write word value ∷ es) old new → AllGo blocked (Write word value ∷ es) old new
write_all_goes blocked word value es old new long each next true is k = inr (next (with_line (line_of word) blocked) old long (write_stays blocked word value es old new k.unmarked k.left each))
write_all_goes blocked word value es old new long each next false is g =
    elim (first_or_behind (line_of word) (Write word value) es old new g) [
      | inl first ↦ inr (next (with_line (line_of word) blocked) old long (write_stays blocked word value es old new first.0 first.1 each))
      | inr b ↦ inl (is, next blocked (slice_set old word value) (long ∙ sym (length-set old word value)) (write_goes blocked word value es old new is b each))
    ]

all_go : (blocked : ℕ → Bool) (es : List PendingEntry) (old new : List ℕ) → length new ≡ length old → ((line : ℕ) → Goes (blocked line) line es old new) → AllGo blocked es old new
all_go blocked [] old new long each = all_same old new long (λ line. by line (blocked line) (each line))
  where
    by : (line : ℕ) (b : Bool) → Goes b line [] old new → AgreeOn line new old
    by line true k = k.left
    by line false g = none g.before g.since g.whole g.left
      where
        none : (before since : List PendingEntry) → [] ≡ before ++ since → AgreeOn line new (written before old) → AgreeOn line new old
        none [] since whole left = left
        none (x ∷ before) since whole left = absurd (cc)
all_go blocked (Write word value ∷ es) old new long each =
    write_all_goes blocked word value es old new long each (λ lines mid same more. all_go lines es mid new same more) (blocked (line_of word)) refl (each (line_of word))
all_go blocked (Marker other ∷ es) old new long each = (open_line (blocked other) refl (each other), all_go blocked es old new long (λ line. past_marker (blocked line) line other es old new (each line)))
  where
    open_line : (b : Bool) → blocked other ≡ b → Goes b other (Marker other ∷ es) old new → blocked other ≡ false
    open_line true is k = absurd (true≢false (sym (rw (eq-eqb other other refl) refl) ∙ k.unmarked))
    open_line false is g = is

-- ---- memories

-- the first entries of a list
first_lines : (before since : List PendingEntry) → LinesBelow 64 (before ++ since) → LinesBelow 64 before
first_lines [] since below = tt
first_lines (Write word value ∷ before) since below = (below.0, first_lines before since below.1)
first_lines (Marker line ∷ before) since below = first_lines before since below

-- a memory with the first entries
abbrev pub earlier : Memory → List PendingEntry → Memory
earlier m before = record { pending = before; persisted = m.persisted }

pub coherent_written : (m : Memory) (before since : List PendingEntry) → IsWhole m → m.pending ≡ before ++ since → (word : ℕ) → coherent (earlier m before) word ≡ slice_index (written before m.persisted) word
coherent_written m before since is whole word = sym (written_shows before m.persisted word (first_lines before since (subst (LinesBelow 64) whole is.lines)) is.persisted)

pub map_at : (f g : ℕ → ℕ) (start n : ℕ) → map f (range_with_len start n) ≡ map g (range_with_len start n) → (word : ℕ) → start ≤ word → word < start + n → f word ≡ g word
map_at f g start zero same word from to = absurd (omega (arith, from, to))
map_at f g start (suc n) same word from to =
    let first : f start ≡ g start = cc in
    let rest : map f (range_with_len (start + 1) n) ≡ map g (range_with_len (start + 1) n) = cc in
    elim (same_line start word) [
      | inl here ↦ subst (λ (w : ℕ). f w ≡ g w) here first
      | inr apart ↦ map_at f g (start + 1) n rest word (omega (arith, from, apart)) (omega (arith, to))
    ]

pub map_as : (f g : ℕ → ℕ) (start n : ℕ) → ((word : ℕ) → start ≤ word → word < start + n → f word ≡ g word) → map f (range_with_len start n) ≡ map g (range_with_len start n)
map_as f g start zero same = refl
map_as f g start (suc n) same =
    λ k. same start (omega arith) (omega arith) k ∷ map_as f g (start + 1) n (λ word from to. same word (omega (arith, from)) (omega (arith, to))) k

-- all words of a line
pub on_line : (f g : ℕ → ℕ) (line : ℕ) → ((word : ℕ) → line_of word ≡ line → f word ≡ g word) → map f (range_with_len (8 * line) 8) ≡ map g (range_with_len (8 * line) 8)
on_line f g line same = map_as f g (8 * line) 8 (λ word from to. same word (omega (arith, from, to)))

pub line_at : (f g : ℕ → ℕ) (line : ℕ) → map f (range_with_len (8 * line) 8) ≡ map g (range_with_len (8 * line) 8) → (word : ℕ) → line_of word ≡ line → f word ≡ g word
line_at f g line same word on = map_at f g (8 * line) 8 same word (omega (arith, on)) (omega (arith, on))

gone_holds : (m : Memory) (new : List ℕ) (line : ℕ) → IsWhole m → Gone line m.pending m.persisted new → MayHold m line (values_on line new)
gone_holds m new line is g = record {
  before = g.before;
  since = g.since;
  whole = g.whole;
  unmarked = g.unmarked;
  shown = on_line (slice_index new) (coherent (earlier m g.before)) line (λ word on. g.left word on ∙ sym (coherent_written m g.before g.since is g.whole word));
}

holds_gone : (m : Memory) (new : List ℕ) (line : ℕ) → IsWhole m → MayHold m line (values_on line new) → Gone line m.pending m.persisted new
holds_gone m new line is h = record {
  before = h.before;
  since = h.since;
  whole = h.whole;
  unmarked = h.unmarked;
  left = λ word on. line_at (slice_index new) (coherent (earlier m h.before)) line h.shown word on ∙ coherent_written m h.before h.since is h.whole word;
}

all_long : (blocked : ℕ → Bool) (es : List PendingEntry) (old new : List ℕ) → AllGo blocked es old new → length new ≡ length old
all_long blocked [] old new go = ap length go
all_long blocked (Write word value ∷ es) old new (inl (free, more)) = all_long blocked es (slice_set old word value) new more ∙ length-set old word value
all_long blocked (Write word value ∷ es) old new (inr more) = all_long (with_line (line_of word) blocked) es old new more
all_long blocked (Marker line ∷ es) old new (free, more) = all_long blocked es old new more

-- each choice of values that the lines may hold is reached
pub held_are_reached : (m : Memory) (persisted : List ℕ) → IsWhole m → AreHeld m persisted → IsReached m persisted
held_are_reached m persisted is h =
    may_leave_reached m persisted (all_may_leave no_line m.pending m.persisted persisted (all_go no_line m.pending m.persisted persisted h.words (λ line. holds_gone m persisted line is (h.each line))))

all_held : (m : Memory) (persisted : List ℕ) → IsWhole m → AllGo no_line m.pending m.persisted persisted → AreHeld m persisted
all_held m persisted is go = record {
  words = all_long no_line m.pending m.persisted persisted go;
  each = λ line. gone_holds m persisted line is (lines_go no_line m.pending m.persisted persisted go line);
}

-- what is reached once one more entry is pending, was reached before, or the lines may hold it
pub reached_or_held : (m : Memory) (e : PendingEntry) (persisted : List ℕ) → IsWhole (grown m (e ∷ [])) → IsReached (grown m (e ∷ [])) persisted → IsReached m persisted ⊎ AreHeld (grown m (e ∷ [])) persisted
reached_or_held m e persisted is reached =
    elim (last_or_all no_line m.pending e m.persisted persisted (reached_may_leave (grown m (e ∷ [])) persisted reached)) [
      | inl stays ↦ inl (may_leave_reached m persisted stays)
      | inr all ↦ inr (all_held (grown m (e ∷ [])) persisted is all)
    ]

-- where nothing is pending, what is reached the lines may hold
pub nothing_pending_held : (m : Memory) (persisted : List ℕ) → IsWhole m → m.pending ≡ [] → IsReached m persisted → AreHeld m persisted
nothing_pending_held m persisted is none reached =
    all_held m persisted is (subst (λ (es : List PendingEntry). AllGo no_line es m.persisted persisted) (sym none) (subst (λ (es : List PendingEntry). MayLeave no_line es m.persisted persisted) none (reached_may_leave m persisted reached)))
