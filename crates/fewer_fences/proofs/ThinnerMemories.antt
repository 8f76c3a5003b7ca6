-- A memory with fewer markers takes in what the other does, persists what the other does, and settles the markers that it has.
use Rattle.std.proofs.Common.{◌≡◌, ℕ, zero, suc, ◌≤◌, Bool, true, false, None, Result, Ok, List, [], ◌∷◌, ◌++◌, refl, sym, ◌∙◌, ap, subst, arith, inl, inr, true≢false, append-nil}
use Rattle.std.specs.Prelude.{◌⊎◌, count_by, nat_le, slice_index, slice_set, unwrap_or}
use Rattle.std.proofs.lemmas.Bool.Decides.{nat_tests}
use Rattle.lines_layout.specs.Lines.{line_of}
use Rattle.outcomes.specs.Outcomes.{◌>>=◌, refuse}
use Rattle.store_buffer.specs.declared.entry.Entry.{Entry}
use Rattle.store_buffer.specs.declared.entry.Entry.TheVariants as entries
use Rattle.persist_buffer.specs.declared.entry.PendingEntry.{PendingEntry}
use Rattle.persist_buffer.specs.declared.entry.PendingEntry.TheVariants.{Write, Marker}
use Rattle.persist_buffer.specs.declared.fault.PendingFault.{PendingFault}
use Rattle.persist_buffer.specs.declared.fault.PendingFault.TheVariants.{LineFull, MarkersFull}
use Rattle.persist_buffer.specs.Limits.{line_room, marker_room}
use Rattle.persist_buffer.specs.State.{Memory}
use Rattle.persist_buffer.specs.Memories.{coherent, is_marker, is_write_on, value_to, with_pending}
use Rattle.persist_buffer.specs.Splits.{PersistSplit, SettleSplit}
use Rattle.persist_buffer.proofs.PersistingIsASplit.{persisting_only, persisting_always, settling_only, settling_always}
use Rattle.machine.specs.Processors.{receive_of}
use Rattle.machine.specs.StepRelations.{Arrives}
use Rattle.machine.proofs.DrainingIsASplit.{flush_arrives, optimized_flush_arrives}
use Rattle.pending_images.specs.Changes.{Change, persists, settles, Run, IsReached}
use Rattle.fewer_fences.specs.Thinner.{IsThinnerMemory, Thins, is_no_write}
use Rattle.fewer_fences.proofs.ThinnedLists.{GoesAt, StaysAt, thins_any, thins_count, thins_joined, thins_newest, thins_split}

-- ---- coherent values

no_value : (word : ℕ) (e : PendingEntry) → is_marker e ≡ true → value_to word e ≡ None
no_value word (Write target value) is = absurd (true≢false (sym is))
no_value word (Marker line) is = refl

pub same_coherent : (more less : Memory) (word : ℕ) → IsThinnerMemory more less → coherent less word ≡ coherent more word
same_coherent more less word h =
    λ i. unwrap_or (thins_newest is_marker (value_to word) (no_value word) more.pending less.pending h.pending i) (slice_index (h.persisted i) word)

-- ---- what is taken in

keeps_room : (room a b : ℕ) → a ≤ b → nat_le room b ≡ false → nat_le room a ≡ false
keeps_room room a b fewer left = grind (arith, nat_tests)

had_room : (fault : PendingFault) (full : Bool) (m n : Memory) → (refuse fault full >>= λ free. Ok m) ≡ Ok n → (full ≡ false) × (n ≡ m)
had_room fault true m n e = absurd (cc)
had_room fault false m n e = (refl, let is : m ≡ n = cc in sym is)

abbrev with_one : Memory → PendingEntry → Memory
with_one m entry = with_pending m (m.pending ++ entry ∷ [])

abbrev taken : PendingFault → ℕ → (PendingEntry → Bool) → PendingEntry → Memory → Result Memory PendingFault
taken fault room test entry m = refuse fault (nat_le room (count_by test m.pending)) >>= λ free. Ok (with_one m entry)

-- a memory with fewer markers takes an entry too
abbrev pub TakesToo : Entry → Memory → Memory → Type 0
TakesToo entry less n = (after : Memory) × (receive_of less entry ≡ Ok after) × IsThinnerMemory n after

takes : (fault : PendingFault) (room : ℕ) (test : PendingEntry → Bool) (entry : PendingEntry) (more less n : Memory) → IsThinnerMemory more less
    → taken fault room test entry more ≡ Ok n → (after : Memory) × (taken fault room test entry less ≡ Ok after) × IsThinnerMemory n after
takes fault room test entry more less n h e =
    let had = had_room fault (nat_le room (count_by test more.pending)) (with_one more entry) n e in
    let left = keeps_room room (count_by test less.pending) (count_by test more.pending) (thins_count is_marker test more.pending less.pending h.pending) had.0 in (
      with_one less entry,
      ap (λ (full : Bool). refuse fault full >>= λ free. Ok (with_one less entry)) left,
      subst (λ (x : Memory). IsThinnerMemory x (with_one less entry)) (sym had.1) (record {
        pending = thins_joined is_marker more.pending (entry ∷ []) less.pending (entry ∷ []) h.pending (inl ([], refl, refl));
        persisted = h.persisted;
      }),
    )

pub received : (entry : Entry) (more less n : Memory) → IsThinnerMemory more less → receive_of more entry ≡ Ok n → TakesToo entry less n
received (entries.Write word value) more less n h e = takes LineFull line_room (is_write_on (line_of word)) (Write word value) more less n h e
received (entries.Flush line) more less n h e = takes MarkersFull marker_room is_marker (Marker line) more less n h e
received (entries.FlushOpt line) more less n h e = takes MarkersFull marker_room is_marker (Marker line) more less n h e
received entries.Sfence more less n h e =
    let is : more ≡ n = cc in (less, refl, subst (λ (x : Memory). IsThinnerMemory x less) is h)

-- what the other alone takes in: a marker, or nothing

one_marker : (line : ℕ) (more less n : Memory) → IsThinnerMemory more less → Arrives more n (Marker line ∷ []) → IsThinnerMemory n less
one_marker line more less n h a = record {
  pending = subst (λ (xs : List PendingEntry). Thins is_marker xs less.pending) (sym a.pending) (
      subst (λ (ys : List PendingEntry). Thins is_marker (more.pending ++ Marker line ∷ []) ys) (append-nil less.pending)
      (thins_joined is_marker more.pending (Marker line ∷ []) less.pending [] h.pending (inr (refl, refl))));
  persisted = h.persisted ∙ sym a.persisted;
}

pub received_alone : (entry : Entry) (more less n : Memory) → is_no_write entry ≡ true → IsThinnerMemory more less → receive_of more entry ≡ Ok n → IsThinnerMemory n less
received_alone (entries.Write word value) more less n drops h e = absurd (true≢false (sym drops))
received_alone (entries.Flush line) more less n drops h e = one_marker line more less n h (flush_arrives more n line e)
received_alone (entries.FlushOpt line) more less n drops h e = one_marker line more less n h (optimized_flush_arrives more n line e)
received_alone entries.Sfence more less n drops h e = let is : more ≡ n = cc in subst (λ (x : Memory). IsThinnerMemory x less) is h

-- ---- what is persisted, and what is settled

-- a memory with fewer markers persists it too
pub record PersistsToo (line word value : ℕ) (less n : Memory) : Type 0 where
  pub after : Memory
  pub before : List PendingEntry
  pub later : List PendingEntry
  pub split : PersistSplit line less after word value before later
  pub thinner : IsThinnerMemory n after

pub persisted_too : (line word value : ℕ) (more less n : Memory) (before later : List PendingEntry) → IsThinnerMemory more less
    → PersistSplit line more n word value before later → PersistsToo line word value less n
persisted_too line word value more less n before later h split =
    by (thins_split is_marker (Write word value) before later less.pending (subst (λ (xs : List PendingEntry). Thins is_marker xs less.pending) split.whole h.pending))
  where
    by : StaysAt is_marker (Write word value) before later less.pending ⊎ GoesAt is_marker (Write word value) before later less.pending → PersistsToo line word value less n
    by (inl s) = record {
      after = record { pending = s.first ++ s.last; persisted = slice_set less.persisted word value };
      before = s.first;
      later = s.last;
      split = record {
        on_line = split.on_line;
        whole = s.whole;
        no_marker = thins_any is_marker is_marker before s.first s.before_it split.no_marker;
        no_write = thins_any is_marker (is_write_on line) before s.first s.before_it split.no_write;
        rest = refl;
        persisted = refl;
      };
      thinner = record {
        pending = subst (λ (xs : List PendingEntry). Thins is_marker xs (s.first ++ s.last)) (sym split.rest)
            (thins_joined is_marker before later s.first s.last s.before_it s.behind_it);
        persisted = ap (λ (values : List ℕ). slice_set values word value) h.persisted ∙ sym split.persisted;
      };
    }
    by (inr s) = absurd (true≢false (sym s.gone))

-- a memory with fewer markers settles it too
pub record SettlesToo (line : ℕ) (less n : Memory) : Type 0 where
  pub after : Memory
  pub before : List PendingEntry
  pub later : List PendingEntry
  pub split : SettleSplit line less after before later
  pub thinner : IsThinnerMemory n after

-- or it lacks it
pub settled_too : (line : ℕ) (more less n : Memory) (before later : List PendingEntry) → IsThinnerMemory more less
    → SettleSplit line more n before later → SettlesToo line less n ⊎ IsThinnerMemory n less
settled_too line more less n before later h split =
    by (thins_split is_marker (Marker line) before later less.pending (subst (λ (xs : List PendingEntry). Thins is_marker xs less.pending) split.whole h.pending))
  where
    joined : (first last : List PendingEntry) → Thins is_marker before first → Thins is_marker later last → Thins is_marker n.pending (first ++ last)
    joined first last one other =
        subst (λ (xs : List PendingEntry). Thins is_marker xs (first ++ last)) (sym split.rest) (thins_joined is_marker before later first last one other)

    by : StaysAt is_marker (Marker line) before later less.pending ⊎ GoesAt is_marker (Marker line) before later less.pending → SettlesToo line less n ⊎ IsThinnerMemory n less
    by (inl s) = inl (record {
      after = record { pending = s.first ++ s.last; persisted = less.persisted };
      before = s.first;
      later = s.last;
      split = record {
        whole = s.whole;
        no_marker = thins_any is_marker is_marker before s.first s.before_it split.no_marker;
        no_write = thins_any is_marker (is_write_on line) before s.first s.before_it split.no_write;
        rest = refl;
        persisted = refl;
      };
      thinner = record { pending = joined s.first s.last s.before_it s.behind_it; persisted = h.persisted ∙ sym split.persisted };
    })
    by (inr s) = inr (record {
      pending = subst (λ (ys : List PendingEntry). Thins is_marker n.pending ys) (sym s.whole) (joined s.first s.last s.before_it s.behind_it);
      persisted = h.persisted ∙ sym split.persisted;
    })

-- ---- what further changes leave

-- so many changes, or fewer, lead to such a memory
abbrev ChangesToo : Memory → Memory → Type 0
ChangesToo less end = (n : ℕ) × (after : Memory) × Run n less after × IsThinnerMemory end after

one_more : (less mid end : Memory) → Change less mid → ChangesToo mid end → ChangesToo less end
one_more less mid end change (n, after, run, thinner) = (suc n, after, (mid, change, run), thinner)

changes : (n : ℕ) (more less end : Memory) → IsThinnerMemory more less → Run n more end → ChangesToo less end
changes zero more less end h is = (zero, less, refl, subst (λ (x : Memory). IsThinnerMemory x less) (sym is) h)
changes (suc n) more less end h (mid, persists line word value e, run) =
    let split = persisting_only line more mid word value e in
    let too = persisted_too line word value more less mid split.0 split.1 h split.2 in
    one_more less too.after end (persists line word value (persisting_always line less too.after word value too.before too.later too.split))
    (changes n mid too.after end too.thinner run)
changes (suc n) more less end h (mid, settles line e, run) =
    let split = settling_only more mid line e in
    elim (settled_too line more less mid split.0 split.1 h split.2) [
      | inl too ↦ one_more less too.after end (settles line (settling_always line less too.after too.before too.later too.split)) (changes n mid too.after end too.thinner run)
      | inr thinner ↦ changes n mid less end thinner run
    ]

pub reached_too : (more less : Memory) (persisted : List ℕ) → IsThinnerMemory more less → IsReached more persisted → IsReached less persisted
reached_too more less persisted h (n, end, run, is) =
    let (k, after, too, thinner) = changes n more less end h run in (k, after, too, thinner.persisted ∙ is)
