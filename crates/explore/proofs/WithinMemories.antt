-- One memory has all of another still, once the same was appended to both, and once the other persisted what was pending.
use Rattle.std.proofs.Common.{◌≡◌, ◌≢◌, ℕ, inl, inr, Bool, true, false, List, [], ◌∷◌, ◌++◌, length, refl, sym, ap, subst, ◌∙◌, append_assoc, length-set, true≢false}
use Rattle.std.specs.Prelude.{◌⊎◌, ◌||◌, ◌==◌, slice_index, slice_set, unwrap_or}
use Rattle.std.specs.List.{list_any}
use Rattle.std.proofs.lemmas.Bool.{cases_Bool, eqb-true, eq-eqb}
use Rattle.std.proofs.lemmas.List.Folds.{list_any-append}
use Rattle.lines_layout.specs.Lines.{line_of}
use Rattle.outcomes.specs.Lists.{newest}
use Rattle.persist_buffer.specs.declared.entry.PendingEntry.{PendingEntry}
use Rattle.persist_buffer.specs.declared.entry.PendingEntry.TheVariants.{Write, Marker}
use Rattle.persist_buffer.specs.Memories.{coherent, value_to}
use Rattle.persist_buffer.specs.State.{Memory}
use Rattle.pending_images.specs.Changes.{Change}
use Rattle.pending_images.specs.ClosedSets.{line_named}
use Rattle.pending_images.specs.Cuts.{after, written}
use Rattle.pending_images.proofs.ChangesAreLeavingEntries.{leaves_of}
use Rattle.pending_images.proofs.LeavingEntries.{IsFree, Leaves}
use Rattle.explore.specs.Covering.{grown}
use Rattle.explore.specs.LineSets.{AreHeld, MayHold, Within, is_marker_of, now, values_on}
use Rattle.explore.proofs.WrittenValues.{written_long}
use Rattle.explore.proofs.HeldByLines.{AgreeOn, agree_back, agree_other, agree_set, agree_then, agree_written, coherent_written, earlier, on_line, same_line}
use Rattle.explore.proofs.LaterMemories.{IsWhole, change_shows_nowhere, change_whole, coherent_grown}

pub within_same : (a b : Memory) → b ≡ a → Within a b
within_same a b e = record { same = λ word. ap (λ (m : Memory). coherent m word) e; held = λ line values h. subst (λ (m : Memory). MayHold m line values) e h }

pub within_then : (a b c : Memory) → Within a b → Within b c → Within a c
within_then a b c h k = record { same = λ word. k.same word ∙ h.same word; held = λ line values held. h.held line values (k.held line values held) }

pub within_held : (a b : Memory) (persisted : List ℕ) → length b.persisted ≡ length a.persisted → Within a b → AreHeld b persisted → AreHeld a persisted
within_held a b persisted long h held = record { words = held.words ∙ long; each = λ line. h.held line (values_on line persisted) (held.each line) }

-- ---- two ways to split a list

-- the second way splits behind the first, or before it
pub split_twice : {A : Type 0} (xs ys before since : List A) → xs ++ ys ≡ before ++ since
    → ((mid : List A) × (before ≡ xs ++ mid) × (ys ≡ mid ++ since)) ⊎ ((mid : List A) × (xs ≡ before ++ mid) × (since ≡ mid ++ ys))
split_twice [] ys before since e = inl (before, refl, e)
split_twice (x ∷ xs) ys [] since e = inr (x ∷ xs, refl, sym e)
split_twice {A} (x ∷ xs) ys (y ∷ before) since e =
    let first : x ≡ y = cc in
    let rest : xs ++ ys ≡ before ++ since = cc in
    elim (split_twice xs ys before since rest) [
      | inl (mid, is, more) ↦ inl (mid, (λ k. sym first k ∷ is k), more)
      | inr (mid, is, more) ↦ inr (mid, (λ k. first k ∷ is k), more)
    ]

pub unmarked_parts : (line : ℕ) (xs ys : List PendingEntry) → list_any (is_marker_of line) (xs ++ ys) ≡ false → (list_any (is_marker_of line) xs ≡ false) × (list_any (is_marker_of line) ys ≡ false)
unmarked_parts line xs ys none = neither (list_any (is_marker_of line) xs) (list_any (is_marker_of line) ys) (sym (list_any-append (is_marker_of line) xs ys) ∙ none)
  where
    neither : (a b : Bool) → (a || b) ≡ false → (a ≡ false) × (b ≡ false)
    neither true b e = absurd (true≢false e)
    neither false b e = (refl, e)

pub unmarked_both : (line : ℕ) (xs ys : List PendingEntry) → list_any (is_marker_of line) xs ≡ false → list_any (is_marker_of line) ys ≡ false → list_any (is_marker_of line) (xs ++ ys) ≡ false
unmarked_both line xs ys first more = list_any-append (is_marker_of line) xs ys ∙ rw (first, more) refl

-- ---- the same is appended

-- the values of a line once some of what is appended has come
now_grown : (a b : Memory) (q : List PendingEntry) (line : ℕ) → ((word : ℕ) → coherent b word ≡ coherent a word) → now (grown b q) line ≡ now (grown a q) line
now_grown a b q line same =
    on_line (coherent (grown b q)) (coherent (grown a q)) line (λ word on. coherent_grown b q word ∙ ap (unwrap_or (newest (value_to word) q)) (same word) ∙ sym (coherent_grown a q word))

pub within_grown : (a b : Memory) (q : List PendingEntry) → Within a b → Within (grown a q) (grown b q)
within_grown a b q h = record {
  same = λ word. coherent_grown b q word ∙ ap (unwrap_or (newest (value_to word) q)) (h.same word) ∙ sym (coherent_grown a q word);
  held = λ line values x. elim (split_twice b.pending q x.before x.since x.whole) [
    | inl (mid, is, more) ↦ record {
      before = a.pending ++ mid;
      since = x.since;
      whole = ap (λ (es : List PendingEntry). a.pending ++ es) more ∙ sym (append_assoc a.pending mid x.since);
      unmarked = x.unmarked;
      shown = x.shown ∙ ap (λ (es : List PendingEntry). now (record { pending = es; persisted = b.persisted }) line) is ∙ now_grown a b mid line h.same;
    }
    | inr (mid, is, more) ↦ (
        let parts = unmarked_parts line mid q (ap (list_any (is_marker_of line)) (sym more) ∙ x.unmarked) in
        let y : MayHold a line values = h.held line values (record { before = x.before; since = mid; whole = is; unmarked = parts.0; shown = x.shown }) in
        record {
          before = y.before;
          since = y.since ++ q;
          whole = ap (λ (es : List PendingEntry). es ++ q) y.whole ∙ append_assoc y.before y.since q;
          unmarked = unmarked_both line y.since q y.unmarked parts.1;
          shown = y.shown;
        })
  ];
}

-- ---- what was pending is persisted

-- entries of other lines leave a line as it is
free_written : (line : ℕ) (es : List PendingEntry) (xs : List ℕ) → IsFree line es → AgreeOn line (written es xs) xs
free_written line [] xs free = λ word on. refl
free_written line (Write word value ∷ es) xs free =
    agree_then line (written es (slice_set xs word value)) (slice_set xs word value) xs (free_written line es (slice_set xs word value) free.1)
    (agree_other line word value xs (λ on. true≢false (sym (eq-eqb (line_of word) line on) ∙ free.0)))
free_written line (Marker other ∷ es) xs free = absurd (true≢false free.0)

free_first : (line : ℕ) (xs ys : List PendingEntry) → IsFree line (xs ++ ys) → IsFree line xs
free_first line [] ys free = tt
free_first line (x ∷ xs) ys free = (free.0, free_first line xs ys free.1)

agree_after : (line : ℕ) (e : PendingEntry) (xs ys : List ℕ) → length xs ≡ length ys → AgreeOn line xs ys → AgreeOn line (after e xs) (after e ys)
agree_after line (Write word value) xs ys long same = agree_set line word value xs ys long same
agree_after line (Marker other) xs ys long same = same

-- an entry of another line
other_after : (line : ℕ) (e : PendingEntry) (xs : List ℕ) → line_named e ≢ line → AgreeOn line (after e xs) xs
other_after line (Write word value) xs apart = agree_other line word value xs apart
other_after line (Marker other) xs apart = λ word on. refl

long_after : (e : PendingEntry) (xs : List ℕ) → length (after e xs) ≡ length xs
long_after (Write word value) xs = length-set xs word value
long_after (Marker other) xs = refl

-- an entry that waits for none of these is made before them, or after
agree_swapped : (line : ℕ) (e : PendingEntry) (es : List PendingEntry) (xs : List ℕ) → IsFree (line_named e) es → AgreeOn line (written es (after e xs)) (after e (written es xs))
agree_swapped line e es xs free =
    elim (same_line (line_named e) line) [
      | inl here ↦ subst (λ (l : ℕ). AgreeOn l (written es (after e xs)) (after e (written es xs))) here
          (agree_then (line_named e) (written es (after e xs)) (after e xs) (after e (written es xs)) (free_written (line_named e) es (after e xs) free)
          (agree_after (line_named e) e xs (written es xs) (sym (written_long es xs)) (agree_back (line_named e) (written es xs) xs (free_written (line_named e) es xs free))))
      | inr apart ↦ agree_then line (written es (after e xs)) (written es xs) (after e (written es xs))
          (agree_written line es (after e xs) xs (long_after e xs) (other_after line e xs apart))
          (agree_back line (after e (written es xs)) (written es xs) (other_after line e (written es xs) apart))
    ]

written_then : (xs ys : List PendingEntry) (values : List ℕ) → written (xs ++ ys) values ≡ written ys (written xs values)
written_then [] ys values = refl
written_then (x ∷ xs) ys values = written_then xs ys (after x values)

unmarked_entry : (line : ℕ) (e : PendingEntry) → line_named e ≢ line → is_marker_of line e ≡ false
unmarked_entry line (Write word value) apart = refl
unmarked_entry line (Marker other) apart = elim (cases_Bool (other == line)) [ inl same ↦ absurd (apart (eqb-true other line same)) | inr not ↦ not ]

module _ (t u : Memory) (whole : IsWhole t) (l : Leaves t u) where
  -- the values of a line there, where it is told that they are those of other persisted values
  shown_as : (line : ℕ) (values : List ℕ) (before since first then_since : List PendingEntry) → u.pending ≡ before ++ since → t.pending ≡ first ++ then_since → IsWhole u → values ≡ now (earlier u before) line
      → AgreeOn line (written before u.persisted) (written first t.persisted) → values ≡ now (earlier t first) line
  shown_as line values before since first then_since is was whole_u shown same =
      shown ∙ on_line (coherent (earlier u before)) (coherent (earlier t first)) line (λ word on.
      coherent_written u before since whole_u is word ∙ same word on ∙ sym (coherent_written t first then_since whole was word))

  after_then : (line : ℕ) (first : List PendingEntry) → AgreeOn line (written first u.persisted) (written first (after l.entry t.persisted))
  after_then line first word on = ap (λ (xs : List ℕ). slice_index (written first xs) word) l.persisted_is

  -- a moment behind the entry that left
  later_held : (line : ℕ) (values : List ℕ) (x : MayHold u line values) (mid : List PendingEntry) → IsWhole u → x.before ≡ l.earlier ++ mid → l.later ≡ mid ++ x.since → MayHold t line values
  later_held line values x mid whole_u is more =
      let split : t.pending ≡ (l.earlier ++ l.entry ∷ mid) ++ x.since = l.pending_was ∙ ap (λ (es : List PendingEntry). l.earlier ++ l.entry ∷ es) more ∙ sym (append_assoc l.earlier (l.entry ∷ mid) x.since) in
      let swapped : AgreeOn line (written mid (written l.earlier (after l.entry t.persisted))) (written mid (after l.entry (written l.earlier t.persisted))) =
      agree_written line mid (written l.earlier (after l.entry t.persisted)) (after l.entry (written l.earlier t.persisted))
      (written_long l.earlier (after l.entry t.persisted) ∙ long_after l.entry t.persisted ∙ sym (long_after l.entry (written l.earlier t.persisted) ∙ written_long l.earlier t.persisted))
      (agree_swapped line l.entry l.earlier t.persisted l.free) in
      let same : AgreeOn line (written x.before u.persisted) (written (l.earlier ++ l.entry ∷ mid) t.persisted) =
      λ word on. ap (λ (es : List PendingEntry). slice_index (written es u.persisted) word) is ∙ after_then line (l.earlier ++ mid) word on
      ∙ ap (λ (xs : List ℕ). slice_index xs word) (written_then l.earlier mid (after l.entry t.persisted)) ∙ swapped word on
      ∙ ap (λ (xs : List ℕ). slice_index xs word) (sym (written_then l.earlier (l.entry ∷ mid) t.persisted)) in
      record {
        before = l.earlier ++ l.entry ∷ mid;
        since = x.since;
        whole = split;
        unmarked = x.unmarked;
        shown = shown_as line values x.before x.since (l.earlier ++ l.entry ∷ mid) x.since x.whole split whole_u x.shown same;
      }

  -- a moment before it, of its own line
  own_held : (line : ℕ) (values : List ℕ) (x : MayHold u line values) (mid : List PendingEntry) → line_named l.entry ≡ line → IsWhole u → l.earlier ≡ x.before ++ mid → x.since ≡ mid ++ l.later → MayHold t line values
  own_held line values x mid here whole_u is more =
      let split : t.pending ≡ (l.earlier ++ l.entry ∷ []) ++ l.later = l.pending_was ∙ sym (append_assoc l.earlier (l.entry ∷ []) l.later) in
      let alone : IsFree line l.earlier = subst (λ (n : ℕ). IsFree n l.earlier) here l.free in
      let free : IsFree line x.before = free_first line x.before mid (subst (IsFree line) is alone) in
      let first : AgreeOn line (written x.before (after l.entry t.persisted)) (after l.entry t.persisted) = free_written line x.before (after l.entry t.persisted) free in
      let last : AgreeOn line (after l.entry t.persisted) (after l.entry (written l.earlier t.persisted)) =
      agree_after line l.entry t.persisted (written l.earlier t.persisted) (sym (written_long l.earlier t.persisted)) (agree_back line (written l.earlier t.persisted) t.persisted (free_written line l.earlier t.persisted alone)) in
      let same : AgreeOn line (written x.before u.persisted) (written (l.earlier ++ l.entry ∷ []) t.persisted) =
      λ word on. after_then line x.before word on ∙ first word on ∙ last word on ∙ ap (λ (xs : List ℕ). slice_index xs word) (sym (written_then l.earlier (l.entry ∷ []) t.persisted)) in
      record {
        before = l.earlier ++ l.entry ∷ [];
        since = l.later;
        whole = split;
        unmarked = (unmarked_parts line mid l.later (ap (list_any (is_marker_of line)) (sym more) ∙ x.unmarked)).1;
        shown = shown_as line values x.before x.since (l.earlier ++ l.entry ∷ []) l.later x.whole split whole_u x.shown same;
      }

  -- a moment before it, of another line
  other_held : (line : ℕ) (values : List ℕ) (x : MayHold u line values) (mid : List PendingEntry) → line_named l.entry ≢ line → IsWhole u → l.earlier ≡ x.before ++ mid → x.since ≡ mid ++ l.later → MayHold t line values
  other_held line values x mid apart whole_u is more =
      let split : t.pending ≡ x.before ++ (mid ++ l.entry ∷ l.later) = l.pending_was ∙ ap (λ (es : List PendingEntry). es ++ l.entry ∷ l.later) is ∙ append_assoc x.before mid (l.entry ∷ l.later) in
      let parts = unmarked_parts line mid l.later (ap (list_any (is_marker_of line)) (sym more) ∙ x.unmarked) in
      let same : AgreeOn line (written x.before u.persisted) (written x.before t.persisted) =
      λ word on. after_then line x.before word on ∙ agree_written line x.before (after l.entry t.persisted) t.persisted (long_after l.entry t.persisted) (other_after line l.entry t.persisted apart) word on in
      record {
        before = x.before;
        since = mid ++ l.entry ∷ l.later;
        whole = split;
        unmarked = unmarked_both line mid (l.entry ∷ l.later) parts.0 (rw (unmarked_entry line l.entry apart) (parts.1));
        shown = shown_as line values x.before x.since x.before (mid ++ l.entry ∷ l.later) x.whole split whole_u x.shown same;
      }

  was_held : (line : ℕ) (values : List ℕ) → IsWhole u → MayHold u line values → MayHold t line values
  was_held line values whole_u x =
      elim (split_twice l.earlier l.later x.before x.since (sym l.pending_is ∙ x.whole)) [
        | inl (mid, is, more) ↦ later_held line values x mid whole_u is more
        | inr (mid, is, more) ↦ elim (same_line (line_named l.entry) line) [
          | inl here ↦ own_held line values x mid here whole_u is more
          | inr apart ↦ other_held line values x mid apart whole_u is more
        ]
      ]

-- what was pending persists
pub within_changed : (t u : Memory) → IsWhole t → Change t u → Within t u
within_changed t u whole change = record {
  same = change_shows_nowhere t u change whole;
  held = λ line values x. was_held t u whole (leaves_of t u change) line values (change_whole t u change whole) x;
}
