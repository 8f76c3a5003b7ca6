-- The reason that is told of each missing write is so.
use Rattle.std.proofs.Common.{◌≡◌, ℕ, ◌+◌, ◌-◌, ◌<◌, Bool, true, false, Option, Some, None, List, map, drop, unwrap_or, refl, sym, ap, subst, ◌∙◌, eq-eqb, eqb-true, arith, inl, inr}
use Rattle.std.specs.Prelude.{◌≢◌, ◌≤◌, ◌⊎◌, ◌==◌, ◌&&◌, Contains, nat_lt, slice_get}
use Rattle.std.specs.List.{find, list_any}
use Rattle.std.proofs.lemmas.Bool.{and_parts, cases_Bool}
use Rattle.std.proofs.lemmas.Bool.Decides.{nat_tests}
use Rattle.std.proofs.lemmas.List.Elements.{Contains-append_right}
use Rattle.lines_layout.specs.Lines.{line_of}
use Rattle.isa.specs.Objects.{Object}
use Rattle.store_buffer.specs.declared.entry.Entry.{Entry}
use Rattle.store_buffer.specs.declared.entry.Entry.TheVariants as entries
use Rattle.persist_buffer.specs.declared.entry.PendingEntry.{PendingEntry}
use Rattle.persist_buffer.specs.declared.entry.PendingEntry.TheVariants.{Write, Marker}
use Rattle.persist_buffer.specs.Memories.{is_write_on}
use Rattle.pending_images.specs.LeastCuts.{closed_set_of}
use Rattle.processor.specs.declared.act.Act.{Act}
use Rattle.processor.specs.declared.act.Act.TheVariants.{Local, Fence, Read, Delay, Locked, Trap}
use Rattle.machine.specs.declared.step.Step.{Step}
use Rattle.machine.specs.declared.step.Seen.{Seen}
use Rattle.machine.specs.declared.step.Seen.TheVariants.{Ran}
use Rattle.machine.specs.Objects.{opening}
use Rattle.machine.specs.State.{State, buffer_at}
use Rattle.machine.specs.Steps.{run_of}
use Rattle.image_reasons.specs.declared.entries.Delayed.{Delayed}
use Rattle.image_reasons.specs.declared.entries.Flushed.{Flushed}
use Rattle.image_reasons.specs.declared.entries.Operation.{Operation}
use Rattle.image_reasons.specs.declared.entries.Pended.{Pended}
use Rattle.image_reasons.specs.declared.entries.Site.{Site}
use Rattle.image_reasons.specs.declared.missing.Missing.{Missing}
use Rattle.image_reasons.specs.declared.missing.Why.{Why}
use Rattle.image_reasons.specs.declared.missing.Why.TheVariants.{FlushBuffered, FlushBehind}
use Rattle.image_reasons.specs.Origins.{AreOrigins, Origins, origins_of, trace_of}
use Rattle.image_reasons.specs.Reasoned.{AreNotBehind, AreReasoned, HasLeft, HasNoMarkerBehind, HasPassed, HasPersisted, HasWrite, HoldsFlush, HoldsWrite, IsBetween, IsEffectBefore, IsFlushAt, IsLastFlush, IsNotBehind, IsPassedBy, IsReasonSo, IsReasoned, IsRunSinceCrash, IsStillBuffered, IsStoredBefore}
use Rattle.image_reasons.specs.Reasons.{Stores, comes_before, comes_between, has_passed, is_buffered_flush, is_delayed, is_later_flush, is_later_own, is_marker_of, is_write, marker_among, missing_after, missing_buffered_write, missing_write, missing_writes, newest_flush, stores_of, why_delayed, why_flushed, why_later, why_missing, write_before}
use Rattle.image_reasons.specs.Told.{act_put, entry_put}
use Rattle.image_reasons.proofs.EffectsInOrder.{AreInOrder, effects_in_order, ordered_at}
use Rattle.image_reasons.proofs.EntriesAreThere.{own_there, delayed_kept, entries_are_there, entry_kept, entry_there}
use Rattle.image_reasons.proofs.FlushesAreAll.{AreAll, IsNewest, flushes_are_all}
use Rattle.image_reasons.proofs.LaterFlushes.{IsStoreBy, IsToldBehind, IsToldBuffered, IsToldLater, IsToldPassed, kept_cases, left_cases, no_site, none_later, store_before, told_later}
use Rattle.image_reasons.proofs.ListMembers.{among, any_at, any_in, drop_get, from_drop, from_map, in_map, none_found}
use Rattle.image_reasons.proofs.MissingOneByOne.{IsBufferedOne, IsPendingOne, by_set, first_marker, missing_one}
use Rattle.image_reasons.proofs.OperationsAreNoted.{AreNoted, all_noted, delayed_flush, delayed_own, entry_ran, flush_ran, kept_ran, left_ran}

first_false : (a b : Bool) → b ≡ true → (a && b) ≡ false → a ≡ false
first_false false b is e = refl
first_false true b is e = let bad : true ≡ false = sym is ∙ e in absurd cc

-- ---- what is a write

write_of : (entry : PendingEntry) → is_write entry ≡ true → (word : ℕ) × (value : ℕ) × (entry ≡ Write word value)
write_of (Write word value) e = (word, value, refl)
write_of (Marker line) e = absurd cc

write_on : (line : ℕ) (entry : PendingEntry) → is_write_on line entry ≡ true → (word : ℕ) × (value : ℕ) × (entry ≡ Write word value) × (line_of word ≡ line)
write_on line (Write word value) e = (word, value, refl, eqb-true (line_of word) line e)
write_on line (Marker other) e = absurd cc

later_parts : (f g : Operation) → is_later_own f g ≡ true → (g.site.processor ≡ f.site.processor) × (f.step < g.step)
later_parts f g e =
    let (own, less) = and_parts (g.site.processor == f.site.processor) (nat_lt f.step g.step) e in
    (eqb-true g.site.processor f.site.processor own, grind (arith, nat_tests, less))

not_later : (f g : Operation) → is_later_own f g ≡ false → (g.site.processor ≢ f.site.processor) ⊎ (g.step ≤ f.step)
not_later f g e =
    elim (cases_Bool (g.site.processor == f.site.processor)) [
      | inl own ↦ let least : nat_lt f.step g.step ≡ false = rw own at e in inr (grind (arith, nat_tests, least))
      | inr other ↦ inl (λ same. (let bad : false ≡ true = sym other ∙ eq-eqb g.site.processor f.site.processor same in absurd cc))
    ]

module _ (run : List Seen) (o : Origins) (s : State) (noted : AreNoted run o) (all : AreAll run o.flushed) (kept : AreOrigins o s) (known : AreInOrder run o) where
  -- ---- flushes

  record IsHeldKept (line p : ℕ) : Type 0 where
    flush : Flushed
    held : Contains o.flushed flush
    buffered : is_buffered_flush o.buffered line flush ≡ true
    not_behind : (n : ℕ) → flush.operation.step ≤ n → IsNotBehind run line n p

  -- what was executed by the step of a flush, and is delayed, is the flush
  flush_held : (line : ℕ) (f : Flushed) → IsRunSinceCrash run f.operation.step f.operation.site (Marker line) → is_delayed o.buffered f.operation.step ≡ true → HoldsFlush s line f.operation.site.processor
  flush_held line f ran delayed =
      let n = f.operation.step in
      let (p, own, at, some) = any_at (λ (xs : List Delayed). list_any (λ (x : Delayed). x.operation.step == n) xs) o.buffered delayed in
      let (i, d, d_at, same) = any_at (λ (x : Delayed). x.operation.step == n) own some in
      let held = among own i d d_at in
      let by = noted.buffered p own d at held in
      let shown : slice_get run n ≡ Some (Ran p d.operation.site.place (Delay d.entry)) = subst (λ (k : ℕ). slice_get run k ≡ Some (Ran p d.operation.site.place (Delay d.entry))) (eqb-true d.operation.step n same) by.shown in
      let (is_own, is_flush) = delayed_flush run n p d.operation.site.place line d.entry f.operation.site ran.ran.act shown ran.ran.shown ran.ran.puts in
      let entries = map (λ (x : Delayed). x.entry) own in
      subst (λ (q : ℕ). HoldsFlush s line q) is_own (record { buffer = entries; entry = d.entry; there = own_there o s kept p own at; held = in_map (λ (x : Delayed). x.entry) own d held; flush = is_flush })

  -- of what a store buffer holds, the flush is kept
  held_kept : (line p : ℕ) → HoldsFlush s line p → IsHeldKept line p
  held_kept line p h =
      let (own, at, d, held, is) = delayed_kept o s kept p h.buffer h.entry h.there h.held in
      let by = noted.buffered p own d at held in
      let n = d.operation.step in
      let ran : IsFlushAt run line n = record { processor = p; place = d.operation.site.place; entry = d.entry; shown = by.shown; flush = ap (λ (x : Entry). entry_put x) is ∙ h.flush } in
      let k = all.each line n by.since ran in
      let f = k.flush in
      let m = f.operation.step in
      let mine = any_in (λ (x : Delayed). x.operation.step == m) own d held (eq-eqb n m (sym k.step)) in
      let delayed : is_delayed o.buffered m ≡ true = any_in (λ (xs : List Delayed). list_any (λ (x : Delayed). x.operation.step == m) xs) o.buffered own (among o.buffered p own at) mine in
      let on : (f.line == line) ≡ true = eq-eqb f.line line k.on in
      record { flush = f; held = k.held; buffered = rw (on, delayed) refl; not_behind = λ last before. record { step = n; flush = ran; own = refl; since = by.since; before = subst (λ (x : ℕ). x ≤ last) k.step before } }

  -- where no later flush of the line is buffered, each that is held is not behind
  none_behind : (stores : Stores) (line n : ℕ) → why_later o stores line n ≡ None → AreNotBehind run s line n
  none_behind stores line n none p h =
      let k = held_kept line p h in
      let not_later_here = none_later o line n stores k.flush none k.held in
      let least : nat_lt n k.flush.operation.step ≡ false = first_false (nat_lt n k.flush.operation.step) (is_buffered_flush o.buffered line k.flush) k.buffered not_later_here in
      k.not_behind n (grind (arith, nat_tests, least))

  -- a later flush that is buffered
  still_buffered : (line n : ℕ) (f : Flushed) → Contains o.flushed f → is_later_flush o.buffered line n f ≡ true → (b : IsStillBuffered run s n line f.operation.site) × (b.step ≡ f.operation.step)
  still_buffered line n f held later =
      let (after, buffered) = and_parts (nat_lt n f.operation.step) (is_buffered_flush o.buffered line f) later in
      let (on, delayed) = and_parts (f.line == line) (is_delayed o.buffered f.operation.step) buffered in
      let ran = flush_ran run o noted line f held on in
      (record { held = flush_held line f ran delayed; step = f.operation.step; ran = ran; behind = grind (arith, nat_tests, after) }, refl)

  -- ---- stores

  persisted_left : (q : Pended) (word value : ℕ) → Contains o.persisted q → q.entry ≡ Write word value → HasPersisted run word value
  persisted_left q word value held entry =
      let p = known.persisted q held in
      let same : Write p.word p.value ≡ Write word value = sym p.entry ∙ entry in
      let word_is : p.word ≡ word = cc in
      let value_is : p.value ≡ value = cc in
      subst (λ (v : ℕ). HasPersisted run word v) value_is (subst (λ (w : ℕ). HasPersisted run w p.value) word_is p.persisted)

  pending_left : (q : Pended) (word value : ℕ) → Contains o.pended q → q.entry ≡ Write word value → Contains s.memory.pending (Write word value)
  pending_left q word value held entry =
      let there : Contains s.memory.pending q.entry = subst (λ (es : List PendingEntry). Contains es q.entry) kept.pending (in_map (λ (x : Pended). x.entry) o.pended q held) in
      subst (λ (x : PendingEntry). Contains s.memory.pending x) entry there

  module _ (image places : List ℕ) (set : closed_set_of s.shape s.memory image ≡ Some places) where
    abbrev stores : Stores
    stores = stores_of o places

    left_has : (q : Pended) (word value : ℕ) → Contains stores.left q → q.entry ≡ Write word value → HasLeft run s word value
    left_has q word value held entry =
        elim (left_cases o places q held) [
          | inl old ↦ inl (persisted_left q word value old entry)
          | inr there ↦ inr (pending_left q word value there entry)
        ]

    kept_has : (q : Pended) (word value : ℕ) → Contains stores.kept q → q.entry ≡ Write word value → HasWrite run s image word value
    kept_has q word value held entry =
        elim (kept_cases o places q held) [
          | inl old ↦ inl (persisted_left q word value old entry)
          | inr there ↦ inr (record { places = places; place = there.place; set = set; held = there.held; there = entry_there o s kept there.place q there.at ∙ ap (λ (x : PendingEntry). Some x) entry })
        ]

    kept_left : (q : Pended) (word value : ℕ) → Contains stores.kept q → q.entry ≡ Write word value → HasLeft run s word value
    kept_left q word value held entry =
        elim (kept_cases o places q held) [
          | inl old ↦ inl (persisted_left q word value old entry)
          | inr there ↦ inr (pending_left q word value (among o.pended there.place q there.at) entry)
        ]

    kept_by : (q : Pended) (word value : ℕ) → Contains stores.kept q → q.entry ≡ Write word value → IsRunSinceCrash run q.operation.step q.operation.site (Write word value)
    kept_by q word value held entry = subst (λ (x : PendingEntry). IsRunSinceCrash run q.operation.step q.operation.site x) entry (kept_ran run o noted places q held)

    -- ---- a store has passed a flush, or comes before it

    passed_so : (given : List Pended) (line n : ℕ) (f : Flushed) (site : Site) → ((q : Pended) → Contains given q → IsRunSinceCrash run q.operation.step q.operation.site q.entry)
        → ((q : Pended) (word value : ℕ) → Contains given q → q.entry ≡ Write word value → HasLeft run s word value) → IsStoreBy (has_passed f.operation) given site → HasPassed run s f.operation.step f.operation.site site
    passed_so given line n f site ran left by =
        let q = by.store in
        let (writes, later) = and_parts (is_write q.entry) (is_later_own f.operation q.operation) by.passes in
        let (own, less) = later_parts f.operation q.operation later in
        let (word, value, entry) = write_of q.entry writes in
        subst (λ (x : Site). HasPassed run s f.operation.step f.operation.site x) by.is (record {
          step = q.operation.step;
          word = word;
          value = value;
          own = own;
          later = less;
          ran = subst (λ (x : PendingEntry). IsRunSinceCrash run q.operation.step q.operation.site x) entry (ran q by.held);
          left = left q word value by.held entry;
        })

    between_so : (n : ℕ) (f : Flushed) (site : Site) → IsStoreBy (comes_between n f.operation) stores.kept site → IsBetween run s image n f.operation.step f.operation.site site
    between_so n f site by =
        let q = by.store in
        let (writes, rest) = and_parts (is_write q.entry) (nat_lt n q.operation.step && is_later_own q.operation f.operation) by.passes in
        let (after, later) = and_parts (nat_lt n q.operation.step) (is_later_own q.operation f.operation) rest in
        let (own, less) = later_parts q.operation f.operation later in
        let (word, value, entry) = write_of q.entry writes in
        let behind : n < q.operation.step = grind (arith, nat_tests, after) in
        subst (λ (x : Site). IsBetween run s image n f.operation.step f.operation.site x) by.is (record {
          step = q.operation.step;
          word = word;
          value = value;
          own = sym own;
          after = behind;
          before = less;
          ran = kept_by q word value by.held entry;
          has = kept_has q word value by.held entry;
        })

    before_so : (n : ℕ) (w : Missing) (f : Operation) (site : Site) → f.step ≡ n → f.site ≡ w.site → IsStoreBy (comes_before (line_of w.word) f) stores.kept site → IsStoredBefore run s image n w site
    before_so n w f site step_is site_is by =
        let q = by.store in
        let (writes, later) = and_parts (is_write_on (line_of w.word) q.entry) (is_later_own q.operation f) by.passes in
        let (own, less) = later_parts q.operation f later in
        let (word, value, entry, on) = write_on (line_of w.word) q.entry writes in
        let own_is : q.operation.site.processor ≡ w.site.processor = sym own ∙ ap (λ (x : Site). x.processor) site_is in
        let first : q.operation.step < n = subst (λ (k : ℕ). q.operation.step < k) step_is less in
        subst (λ (x : Site). IsStoredBefore run s image n w x) by.is (record {
          step = q.operation.step;
          word = word;
          value = value;
          own = own_is;
          on = on;
          before = first;
          ran = kept_by q word value by.held entry;
          has = kept_has q word value by.held entry;
        })

    unpassed_so : (f : Operation) → ((q : Pended) → Contains stores.left q → has_passed f q ≡ false) → IsPassedBy run s f.step f.site None
    unpassed_so f none word value there =
        let (q, held, entry) = from_map (λ (x : Pended). x.entry) o.pended (Write word value) (subst (λ (es : List PendingEntry). Contains es (Write word value)) (sym kept.pending) there) in
        let not_passed = none q (Contains-append_right o.persisted o.pended q held) in
        let writes : is_write q.entry ≡ true = ap (λ (x : PendingEntry). is_write x) entry in
        let earlier : is_later_own f q.operation ≡ false = rw writes at not_passed in
        record { store = q.operation.site; step = q.operation.step; ran = entry_ran run o noted q (Write word value) held entry; not_passed = not_later f q.operation earlier }

    -- ---- a later flush

    abbrev IsLaterSo : ℕ → Missing → Why → Type 0
    IsLaterSo n w why = HasNoMarkerBehind s w → IsReasonSo run s image n w why

    passed_reason : (given : List Pended) (n : ℕ) (w : Missing) (why : Why) → ((q : Pended) → Contains given q → IsRunSinceCrash run q.operation.step q.operation.site q.entry)
        → ((q : Pended) (word value : ℕ) → Contains given q → q.entry ≡ Write word value → HasLeft run s word value) → IsToldPassed o given (line_of w.word) n why → IsLaterSo n w why
    passed_reason given n w why ran left t none =
        let (b, step_is) = still_buffered (line_of w.word) n t.flush t.held t.later in
        let passed = passed_so given (line_of w.word) n t.flush t.site ran left t.store in
        let so : IsReasonSo run s image n w (FlushBuffered t.flush.operation.site (Some t.site)) =
        (none, (b, subst (λ (k : ℕ). HasPassed run s k t.flush.operation.site t.site) (sym step_is) passed)) in
        subst (λ (x : Why). IsReasonSo run s image n w x) (sym t.is) so

    behind_reason : (n : ℕ) (w : Missing) (why : Why) → IsToldBehind o stores.kept (line_of w.word) n why → IsLaterSo n w why
    behind_reason n w why t none =
        let (b, step_is) = still_buffered (line_of w.word) n t.flush t.held t.later in
        let between = between_so n t.flush t.site t.store in
        let so : IsReasonSo run s image n w (FlushBehind t.flush.operation.site t.site) =
        (none, (b, subst (λ (k : ℕ). IsBetween run s image n k t.flush.operation.site t.site) (sym step_is) between)) in
        subst (λ (x : Why). IsReasonSo run s image n w x) (sym t.is) so

    buffered_reason : (n : ℕ) (w : Missing) (why : Why) → IsToldBuffered o stores.left (line_of w.word) n why → IsLaterSo n w why
    buffered_reason n w why t none =
        let (b, step_is) = still_buffered (line_of w.word) n t.flush t.held t.later in
        let unpassed = unpassed_so t.flush.operation t.unpassed in
        let so : IsReasonSo run s image n w (FlushBuffered t.flush.operation.site None) =
        (none, (b, subst (λ (k : ℕ). IsPassedBy run s k t.flush.operation.site None) (sym step_is) unpassed)) in
        subst (λ (x : Why). IsReasonSo run s image n w x) (sym t.is) so

    later_reason : (n : ℕ) (w : Missing) (why : Why) → IsToldLater o stores (line_of w.word) n why → IsLaterSo n w why
    later_reason n w why told none =
        elim told [
          | inl kept_one ↦ passed_reason stores.kept n w why (λ q held. kept_ran run o noted places q held) (λ q word value held entry. kept_left q word value held entry) kept_one none
          | inr rest ↦ elim rest [
            | inl left_one ↦ passed_reason stores.left n w why (λ q held. left_ran run o noted places q held) (λ q word value held entry. left_has q word value held entry) left_one none
            | inr last ↦ elim last [
              | inl behind ↦ behind_reason n w why behind none
              | inr buffered ↦ buffered_reason n w why buffered none
            ]
          ]
        ]

    -- ---- markers

    -- the last flush of a line is kept
    last_is : (line : ℕ) (flush : Site) (last : IsLastFlush run line flush) → (f : Flushed) × Contains o.flushed f × (f.line ≡ line) × (f.operation.site.processor ≡ flush.processor) × (f.operation.step ≡ last.step)
    last_is line flush last =
        let k = all.each line last.step last.ran.since (flush_at line last.step flush last.ran.ran.act last.ran.ran.shown last.ran.ran.puts) in
        (k.flush, k.held, k.on, same_processor k.flush k.held k.step, k.step)
      where
        flush_at : (line n : ℕ) (flush : Site) (act : Act) → slice_get run n ≡ Some (Ran flush.processor flush.place act) → act_put act ≡ Some (Marker line) → IsFlushAt run line n
        flush_at line n flush (Delay entry) shown puts = record { processor = flush.processor; place = flush.place; entry = entry; shown = shown; flush = puts }
        flush_at line n flush (Locked word value (Some written)) shown puts = absurd cc
        flush_at line n flush (Locked word value None) shown puts = absurd cc
        flush_at line n flush Local shown puts = absurd cc
        flush_at line n flush Fence shown puts = absurd cc
        flush_at line n flush (Read word value) shown puts = absurd cc
        flush_at line n flush (Trap address) shown puts = absurd cc

        same_processor : (f : Flushed) → Contains o.flushed f → f.operation.step ≡ last.step → f.operation.site.processor ≡ flush.processor
        same_processor f held step_is =
            let ran = noted.flushed f held in
            let one : slice_get run last.step ≡ Some (Ran f.operation.site.processor f.operation.site.place ran.ran.act) = subst (λ (k : ℕ). slice_get run k ≡ Some (Ran f.operation.site.processor f.operation.site.place ran.ran.act)) step_is ran.ran.shown in
            let both : ◌≡◌ {A = Option Seen} (Some (Ran f.operation.site.processor f.operation.site.place ran.ran.act)) (Some (Ran flush.processor flush.place last.ran.ran.act)) = sym one ∙ last.ran.ran.shown in
            cc

    module _ (i : ℕ) (q : Pended) (word value : ℕ) (at : slice_get o.pended i ≡ Some q) (entry : q.entry ≡ Write word value) where
      write_there : slice_get s.memory.pending i ≡ Some (Write word value)
      write_there = entry_there o s kept i q at ∙ ap (λ (x : PendingEntry). Some x) entry

      -- no marker of the line is among the entries behind the write
      unmarked : marker_among (line_of word) (drop (i + 1) o.pended) ≡ None → (m : Pended) → Contains (drop (i + 1) o.pended) m → m.entry ≡ Marker (line_of word) → ⊥
      unmarked none m behind is =
          let line = line_of word in
          let not_found = no_site (find (λ (x : Pended). is_marker_of line x.entry) (drop (i + 1) o.pended)) none in
          let is_not = none_found (λ (x : Pended). is_marker_of line x.entry) (drop (i + 1) o.pended) not_found m behind in
          let marks : is_marker_of line m.entry ≡ true = ap (λ (x : PendingEntry). is_marker_of line x) is ∙ eq-eqb line line refl in
          let bad : true ≡ false = sym marks ∙ is_not in
          absurd cc

      no_marker : marker_among (line_of word) (drop (i + 1) o.pended) ≡ None → (later : ℕ) → i < later → slice_get s.memory.pending later ≢ Some (Marker (line_of word))
      no_marker none later less = λ there. (
          let line = line_of word in
          let (m, m_at, is) = entry_kept o s kept later (Marker line) there in
          let j = later - (i + 1) in
          let behind = among (drop (i + 1) o.pended) j m (drop_get o.pended (i + 1) j later (omega (arith, less)) ∙ m_at) in
          unmarked none m behind is
          )

      -- ---- each reason

      abbrev told : Missing
      told = missing_write o stores word value q.operation (drop (i + 1) o.pended)

      -- of the last flush of the line: it ran before the write, or took effect before it
      before_write : marker_among (line_of word) (drop (i + 1) o.pended) ≡ None → why_later o stores (line_of word) q.operation.step ≡ None → (f : Flushed) → Contains o.flushed f → f.line ≡ line_of word
          → (f.operation.step < q.operation.step) ⊎ IsEffectBefore run (line_of word) f.operation.site.processor q.operation.site.processor (Write word value)
      before_write none no_later f held on =
          elim (ordered_at run o.flushed o.buffered o.pended i q known.ordered at f word value held entry on) [
            | inl delayed ↦ inl (first_ran f held on delayed)
            | inr left ↦ elim left [
              | inl marked ↦ absurd (unmarked none marked.0 marked.1 (marked.2 ∙ ap (λ (l : ℕ). Marker l) on))
              | inr before ↦ inr (subst (λ (l : ℕ). IsEffectBefore run l f.operation.site.processor q.operation.site.processor (Write word value)) on
                  (subst (λ (x : PendingEntry). IsEffectBefore run f.line f.operation.site.processor q.operation.site.processor x) entry before))
            ]
          ]
        where
          -- no step executes a write and a flush
          not_of_one : (f : Flushed) → Contains o.flushed f → f.line ≡ line_of word → f.operation.step ≢ q.operation.step
          not_of_one f held on same =
              let flush = noted.flushed f held in
              let written = entry_ran run o noted q (Write word value) (among o.pended i q at) entry in
              let one : slice_get run q.operation.step ≡ Some (Ran f.operation.site.processor f.operation.site.place flush.ran.act) = subst (λ (k : ℕ). slice_get run k ≡ Some (Ran f.operation.site.processor f.operation.site.place flush.ran.act)) same flush.ran.shown in
              let both : ◌≡◌ {A = Option Seen} (Some (Ran f.operation.site.processor f.operation.site.place flush.ran.act)) (Some (Ran q.operation.site.processor q.operation.site.place written.ran.act)) = sym one ∙ written.ran.shown in
              let acts : flush.ran.act ≡ written.ran.act = cc in
              let bad : ◌≡◌ {A = Option PendingEntry} (Some (Marker f.line)) (Some (Write word value)) = sym flush.ran.puts ∙ (ap (λ (x : Act). act_put x) acts ∙ written.ran.puts) in
              absurd cc

          first_ran : (f : Flushed) → Contains o.flushed f → f.line ≡ line_of word → is_delayed o.buffered f.operation.step ≡ true → f.operation.step < q.operation.step
          first_ran f held on delayed =
              let not_later_here = none_later o (line_of word) q.operation.step stores f no_later held in
              let on_line : (f.line == line_of word) ≡ true = eq-eqb f.line (line_of word) on in
              let buffered : is_buffered_flush o.buffered (line_of word) f ≡ true = rw (on_line, delayed) refl in
              let least : nat_lt q.operation.step f.operation.step ≡ false = first_false (nat_lt q.operation.step f.operation.step) (is_buffered_flush o.buffered (line_of word) f) buffered not_later_here in
              let most : f.operation.step ≤ q.operation.step = grind (arith, nat_tests, least) in
              let other = not_of_one f held on in
              omega (arith, most, other)

      unflushed_so : marker_among (line_of word) (drop (i + 1) o.pended) ≡ None → why_later o stores (line_of word) q.operation.step ≡ None → (newest : Option Site) → newest_flush (line_of word) o.flushed ≡ newest
          → IsNewest run (line_of word) newest → HasNoMarkerBehind s told → IsReasonSo run s image q.operation.step told (why_flushed newest)
      unflushed_so none no_later None is unflushed out = (out, unflushed)
      unflushed_so none no_later (Some flush) is last out =
          let (f, held, on, own_is, step_is) = last_is (line_of word) flush last in
          let before = before_write none no_later f held on in
          let by_step : (last.step < q.operation.step) ⊎ IsEffectBefore run (line_of word) flush.processor q.operation.site.processor (Write word value) =
          subst (λ (k : ℕ). (k < q.operation.step) ⊎ IsEffectBefore run (line_of word) flush.processor q.operation.site.processor (Write word value)) step_is
          (subst (λ (x : ℕ). (f.operation.step < q.operation.step) ⊎ IsEffectBefore run (line_of word) x q.operation.site.processor (Write word value)) own_is before) in
          (out, record { last = last; before = by_step; none = none_behind stores (line_of word) q.operation.step no_later })

      later_so : marker_among (line_of word) (drop (i + 1) o.pended) ≡ None → (later : Option Why) → why_later o stores (line_of word) q.operation.step ≡ later → HasNoMarkerBehind s told
          → IsReasonSo run s image q.operation.step told (unwrap_or later (why_flushed (newest_flush (line_of word) o.flushed)))
      later_so none None e out = unflushed_so none e (newest_flush (line_of word) o.flushed) refl (all.newest (line_of word)) out
      later_so none (Some why) e out = later_reason q.operation.step told why (told_later o stores (line_of word) q.operation.step why e) out

      reason_so : (marker : Option Site) → marker_among (line_of word) (drop (i + 1) o.pended) ≡ marker → IsReasonSo run s image q.operation.step told (why_missing o stores (line_of word) q.operation.step marker)
      reason_so None e = later_so e (why_later o stores (line_of word) q.operation.step) refl (record { place = i; write = write_there; none = no_marker e })
      reason_so (Some flush) e =
          let line = line_of word in
          let m = first_marker line (drop (i + 1) o.pended) flush e in
          let j = (i + 1) + m.place in
          let behind : i < j = omega arith in
          let there : slice_get s.memory.pending j ≡ Some (Marker line) =
          entry_there o s kept j m.marker (sym (drop_get o.pended (i + 1) m.place j refl) ∙ m.at) ∙ ap (λ (x : PendingEntry). Some x) m.entry in
          let held = from_drop o.pended (i + 1) m.marker (among (drop (i + 1) o.pended) m.place m.marker m.at) in
          let ran = entry_ran run o noted m.marker (Marker line) held m.entry in
          (record { place = i; later = j; write = write_there; behind = behind; marker = there }, (m.marker.operation.step, subst (λ (x : Site). IsRunSinceCrash run m.marker.operation.step x (Marker line)) m.site_is ran))

    pending_reasoned : (w : Missing) → IsPendingOne o s.shape image places w → IsReasoned run s image w
    pending_reasoned w one =
        let q = one.pended in
        let marker = marker_among (line_of one.word) (drop (one.place + 1) o.pended) in
        subst (λ (x : Missing). IsReasoned run s image x) one.is (record {
          step = q.operation.step;
          ran = entry_ran run o noted q (Write one.word one.value) (among o.pended one.place q one.at) one.entry;
          why = reason_so one.place q one.word one.value one.at one.entry marker refl;
        })

    delayed_so : (w : Missing) (f : Operation) (newest : Option Site) → write_before stores.kept (line_of w.word) f ≡ newest → f.site ≡ w.site → HoldsWrite s w → IsReasonSo run s image f.step w (why_delayed newest)
    delayed_so w f None e site_is holds = holds
    delayed_so w f (Some site) e site_is holds = (holds, before_so f.step w f site refl site_is (store_before stores.kept (line_of w.word) f site e))

    buffered_reasoned : (w : Missing) → IsBufferedOne o s.shape image places w → IsReasoned run s image w
    buffered_reasoned w one =
        let by = noted.buffered one.processor one.own one.delayed one.at one.held in
        let f = one.delayed.operation in
        let own = one.own in
        let ran = by.puts (Write one.word one.value) (ap (λ (x : Entry). entry_put x) one.entry) in
        let is_own = delayed_own run f.step one.processor f.site.place one.delayed.entry f.site ran.ran.act by.shown ran.ran.shown in
        let there : buffer_at s f.site.processor ≡ Some (map (λ (x : Delayed). x.entry) own) =
        subst (λ (q : ℕ). buffer_at s q ≡ Some (map (λ (x : Delayed). x.entry) own)) is_own (own_there o s kept one.processor own one.at) in
        let held : Contains (map (λ (x : Delayed). x.entry) own) (entries.Write one.word one.value) =
        subst (λ (x : Entry). Contains (map (λ (x : Delayed). x.entry) own) x) one.entry (in_map (λ (x : Delayed). x.entry) own one.delayed one.held) in
        let told : Missing = missing_buffered_write stores.kept one.word one.value f in
        subst (λ (x : Missing). IsReasoned run s image x) one.is (record {
          step = f.step;
          ran = ran;
          why = delayed_so (missing_buffered_write stores.kept one.word one.value f) f (write_before stores.kept (line_of one.word) f) refl refl (record { buffer = map (λ (x : Delayed). x.entry) own; there = there; held = held });
        })

    all_reasoned : AreReasoned run s image (missing_writes o s.shape image places)
    all_reasoned w held =
        elim (missing_one o s.shape image places w held) [
          | inl pending ↦ pending_reasoned w pending
          | inr buffered ↦ buffered_reasoned w buffered
        ]

pub reasons_are_so : (object : Object) (steps : List Step) (image : List ℕ) (missing : List Missing) → missing_after object steps image ≡ Some missing
    → AreReasoned (trace_of steps (opening object)) (run_of steps (opening object)).state image missing
reasons_are_so object steps image missing e =
    let run = trace_of steps (opening object) in
    let o = origins_of object steps in
    let end = run_of steps (opening object) in
    let by = by_set o end image missing e in
    subst (λ (ms : List Missing). AreReasoned run end.state image ms) by.is
    (all_reasoned run o end.state (all_noted object steps) (flushes_are_all object steps) (entries_are_there object steps) (effects_in_order object steps) image by.places by.set)
