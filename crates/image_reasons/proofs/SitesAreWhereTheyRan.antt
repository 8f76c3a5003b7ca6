-- The sites that are reported are those of instructions that ran, and that wrote and flushed what is reported.
use Rattle.std.proofs.Common.{◌≡◌, ℕ, ◌+◌, Bool, true, false, Option, Some, None, List, [], ◌∷◌, drop, unwrap_or, refl, sym, ap, subst, inl, inr}
use Rattle.std.specs.Prelude.{◌==◌, ◌&&◌, Contains, nat_lt, if◌then◌else◌}
use Rattle.std.specs.List.{fold}
use Rattle.std.proofs.lemmas.Bool.{and_parts}
use Rattle.lines_layout.specs.Lines.{line_of}
use Rattle.isa.specs.Objects.{Object}
use Rattle.store_buffer.specs.declared.entry.Entry.{Entry}
use Rattle.persist_buffer.specs.declared.entry.PendingEntry.{PendingEntry}
use Rattle.persist_buffer.specs.declared.entry.PendingEntry.TheVariants.{Write, Marker}
use Rattle.persist_buffer.specs.Memories.{is_write_on}
use Rattle.machine.specs.declared.step.Step.{Step}
use Rattle.machine.specs.declared.step.Seen.{Seen}
use Rattle.machine.specs.Objects.{opening}
use Rattle.machine.specs.Steps.{run_of}
use Rattle.image_reasons.specs.declared.entries.Flushed.{Flushed}
use Rattle.image_reasons.specs.declared.entries.Operation.{Operation}
use Rattle.image_reasons.specs.declared.entries.Pended.{Pended}
use Rattle.image_reasons.specs.declared.entries.Site.{Site}
use Rattle.image_reasons.specs.declared.missing.Missing.{Missing}
use Rattle.image_reasons.specs.declared.missing.Why.{Why}
use Rattle.image_reasons.specs.Origins.{Origins, origins_of, trace_of}
use Rattle.image_reasons.specs.Reasons.{comes_before, comes_between, has_passed, is_buffered_flush, is_delayed, is_later_flush, is_later_own, is_write, marker_among, missing_after, missing_buffered_write, missing_write, missing_writes, newer_flush, newest_flush, stores_of, why_delayed, why_flushed, why_later, why_missing, write_before}
use Rattle.image_reasons.specs.Told.{AreTold, IsReasonOf, IsSiteOf, IsSiteOfWrite, IsTold, entry_put}
use Rattle.image_reasons.proofs.LaterFlushes.{IsStoreBy, IsToldBehind, IsToldBuffered, IsToldPassed, store_before, told_later}
use Rattle.image_reasons.proofs.ListMembers.{among, first_here, from_drop, later_here}
use Rattle.image_reasons.proofs.OperationsAreNoted.{AreNoted, IsBy, all_noted, entry_ran, flush_ran, kept_ran, left_ran}
use Rattle.image_reasons.proofs.MissingOneByOne.{IsBufferedOne, IsPendingOne, by_set, first_marker, missing_one}

-- ---- what is a write

write_of : (entry : PendingEntry) → is_write entry ≡ true → (word : ℕ) × (value : ℕ) × (entry ≡ Write word value)
write_of (Write word value) e = (word, value, refl)
write_of (Marker line) e = absurd cc

write_on : (line : ℕ) (entry : PendingEntry) → is_write_on line entry ≡ true → (word : ℕ) × (value : ℕ) × (entry ≡ Write word value)
write_on line (Write word value) e = (word, value, refl)
write_on line (Marker other) e = absurd cc

passing_writes : (f : Operation) (q : Pended) → has_passed f q ≡ true → (word : ℕ) × (value : ℕ) × (q.entry ≡ Write word value)
passing_writes f q passes = write_of q.entry (and_parts (is_write q.entry) (is_later_own f q.operation) passes).0

between_writes : (n : ℕ) (f : Operation) (q : Pended) → comes_between n f q ≡ true → (word : ℕ) × (value : ℕ) × (q.entry ≡ Write word value)
between_writes n f q passes = write_of q.entry (and_parts (is_write q.entry) (nat_lt n q.operation.step && is_later_own q.operation f) passes).0

before_writes : (line : ℕ) (f : Operation) (q : Pended) → comes_before line f q ≡ true → (word : ℕ) × (value : ℕ) × (q.entry ≡ Write word value)
before_writes line f q passes = write_on line q.entry (and_parts (is_write_on line q.entry) (is_later_own q.operation f) passes).0

-- ---- what is told of it

module _ (run : List Seen) (o : Origins) (kept : AreNoted run o) where
  -- a flush of a line that was noted
  flush_told : (line : ℕ) (f : Flushed) → Contains o.flushed f → (f.line == line) ≡ true → IsSiteOf run (Marker line) f.operation.site
  flush_told line f held on = (f.operation.step, (flush_ran run o kept line f held on).ran)

  newest_told : (line : ℕ) (flushed : List Flushed) (newest : Option Site) (site : Site) → ((f : Flushed) → Contains flushed f → Contains o.flushed f)
      → ((old : Site) → newest ≡ Some old → IsSiteOf run (Marker line) old) → fold (newer_flush line) newest flushed ≡ Some site → IsSiteOf run (Marker line) site
  newest_told line [] newest site held old e = old site e
  newest_told line (f ∷ flushed) newest site held old e =
      newest_told line flushed (newer_flush line newest f) site (λ g there. held g (later_here f g flushed there)) (newer (f.line == line) refl) e
    where
      newer : (on : Bool) → (f.line == line) ≡ on → (site : Site) → (if on then Some f.operation.site else newest) ≡ Some site → IsSiteOf run (Marker line) site
      newer true on site is = let same : f.operation.site ≡ site = cc in subst (λ (x : Site). IsSiteOf run (Marker line) x) same (flush_told line f (held f (first_here f flushed)) on)
      newer false on site is = old site is

  -- a store that stands at a site wrote something
  store_told : (test : Pended → Bool) (stores : List Pended) (site : Site) → ((q : Pended) → Contains stores q → IsBy run q.operation q.entry) → ((q : Pended) → test q ≡ true → (word : ℕ) × (value : ℕ) × (q.entry ≡ Write word value))
      → IsStoreBy test stores site → IsSiteOfWrite run site
  store_told test stores site ran writes s =
      let q = s.store in
      let (word, value, entry) = writes q s.passes in
      let by : IsBy run q.operation (Write word value) = subst (λ (x : PendingEntry). IsBy run q.operation x) entry (ran q s.held) in
      let told : IsSiteOf run (Write word value) q.operation.site = (q.operation.step, by.ran) in
      (word, value, subst (λ (x : Site). IsSiteOf run (Write word value) x) s.is told)

  flushed_told : (line : ℕ) (newest : Option Site) → newest_flush line o.flushed ≡ newest → IsReasonOf run line (why_flushed newest)
  flushed_told line None e = tt
  flushed_told line (Some site) e = newest_told line o.flushed None site (λ f held. held) (λ old none. absurd cc) e

  -- a later flush of a line
  later_told : (line n : ℕ) (f : Flushed) → Contains o.flushed f → is_later_flush o.buffered line n f ≡ true → IsSiteOf run (Marker line) f.operation.site
  later_told line n f held later =
      let (after, buffered) = and_parts (nat_lt n f.operation.step) (is_buffered_flush o.buffered line f) later in
      flush_told line f held (and_parts (f.line == line) (is_delayed o.buffered f.operation.step) buffered).0

  passed_told : (line n : ℕ) (stores : List Pended) (why : Why) → ((q : Pended) → Contains stores q → IsBy run q.operation q.entry) → IsToldPassed o stores line n why → IsReasonOf run line why
  passed_told line n stores why ran t =
      let flush = later_told line n t.flush t.held t.later in
      let store = store_told (has_passed t.flush.operation) stores t.site ran (λ q passes. passing_writes t.flush.operation q passes) t.store in
      subst (λ (w : Why). IsReasonOf run line w) (sym t.is) (flush, store)

  behind_told : (line n : ℕ) (stores : List Pended) (why : Why) → ((q : Pended) → Contains stores q → IsBy run q.operation q.entry) → IsToldBehind o stores line n why → IsReasonOf run line why
  behind_told line n stores why ran t =
      let flush = later_told line n t.flush t.held t.later in
      let store = store_told (comes_between n t.flush.operation) stores t.site ran (λ q passes. between_writes n t.flush.operation q passes) t.store in
      subst (λ (w : Why). IsReasonOf run line w) (sym t.is) (flush, store)

  buffered_why_told : (line n : ℕ) (stores : List Pended) (why : Why) → IsToldBuffered o stores line n why → IsReasonOf run line why
  buffered_why_told line n stores why t = subst (λ (w : Why). IsReasonOf run line w) (sym t.is) (later_told line n t.flush t.held t.later, tt)

  unmarked_told : (places : List ℕ) (line n : ℕ) (later : Option Why) → why_later o (stores_of o places) line n ≡ later → IsReasonOf run line (unwrap_or later (why_flushed (newest_flush line o.flushed)))
  unmarked_told places line n None e = flushed_told line (newest_flush line o.flushed) refl
  unmarked_told places line n (Some why) e =
      let stores = stores_of o places in
      elim (told_later o stores line n why e) [
        | inl one ↦ passed_told line n stores.kept why (kept_ran run o kept places) one
        | inr rest ↦ elim rest [
          | inl left ↦ passed_told line n stores.left why (left_ran run o kept places) left
          | inr last ↦ elim last [
            | inl behind ↦ behind_told line n stores.kept why (kept_ran run o kept places) behind
            | inr buffered ↦ buffered_why_told line n stores.left why buffered
          ]
        ]
      ]

  why_told : (places : List ℕ) (line n i : ℕ) (marker : Option Site) → marker_among line (drop i o.pended) ≡ marker → IsReasonOf run line (why_missing o (stores_of o places) line n marker)
  why_told places line n i None e = unmarked_told places line n (why_later o (stores_of o places) line n) refl
  why_told places line n i (Some flush) e =
      let m = first_marker line (drop i o.pended) flush e in
      let held = from_drop o.pended i m.marker (among (drop i o.pended) m.place m.marker m.at) in
      let by : IsBy run m.marker.operation (Marker line) = entry_ran run o kept m.marker (Marker line) held m.entry in
      let told : IsSiteOf run (Marker line) m.marker.operation.site = (m.marker.operation.step, by.ran) in
      subst (λ (x : Site). IsSiteOf run (Marker line) x) m.site_is told

  delayed_told : (places : List ℕ) (line : ℕ) (f : Operation) (newest : Option Site) → write_before (stores_of o places).kept line f ≡ newest → IsReasonOf run line (why_delayed newest)
  delayed_told places line f None e = tt
  delayed_told places line f (Some site) e =
      store_told (comes_before line f) (stores_of o places).kept site (kept_ran run o kept places) (λ q passes. before_writes line f q passes) (store_before (stores_of o places).kept line f site e)

  pending_told : (shape image places : List ℕ) (w : Missing) → IsPendingOne o shape image places w → IsTold run w
  pending_told shape image places w one =
      let f = one.pended.operation in
      let later = drop (one.place + 1) o.pended in
      let by : IsBy run f (Write one.word one.value) = entry_ran run o kept one.pended (Write one.word one.value) (among o.pended one.place one.pended one.at) one.entry in
      let done : IsTold run (missing_write o (stores_of o places) one.word one.value f later) =
      record { site = (f.step, by.ran); why = why_told places (line_of one.word) f.step (one.place + 1) (marker_among (line_of one.word) later) refl } in
      subst (λ (x : Missing). IsTold run x) one.is done

  buffered_told : (shape image places : List ℕ) (w : Missing) → IsBufferedOne o shape image places w → IsTold run w
  buffered_told shape image places w one =
      let f = one.delayed.operation in
      let by = (kept.buffered one.processor one.own one.delayed one.at one.held).puts (Write one.word one.value) (ap (λ (x : Entry). entry_put x) one.entry) in
      let done : IsTold run (missing_buffered_write (stores_of o places).kept one.word one.value f) =
      record { site = (f.step, by.ran); why = delayed_told places (line_of one.word) f (write_before (stores_of o places).kept (line_of one.word) f) refl } in
      subst (λ (x : Missing). IsTold run x) one.is done

  all_told : (shape image places : List ℕ) → AreTold run (missing_writes o shape image places)
  all_told shape image places w held =
      elim (missing_one o shape image places w held) [
        | inl pending ↦ pending_told shape image places w pending
        | inr buffered ↦ buffered_told shape image places w buffered
      ]

pub sites_are_where_they_ran : (object : Object) (steps : List Step) (image : List ℕ) (missing : List Missing) → missing_after object steps image ≡ Some missing → AreTold (trace_of steps (opening object)) missing
sites_are_where_they_ran object steps image missing e =
    let o = origins_of object steps in
    let end = run_of steps (opening object) in
    let by = by_set o end image missing e in
    subst (λ (ms : List Missing). AreTold (trace_of steps (opening object)) ms) by.is (all_told (trace_of steps (opening object)) o (all_noted object steps) end.state.shape image by.places)
