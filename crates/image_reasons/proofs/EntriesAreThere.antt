-- What is kept of a run has the entries of the state to which the run leads.
use Rattle.std.proofs.Common.{◌≡◌, ℕ, suc, ◌+◌, Bool, true, false, Option, Some, None, Result, Ok, Err, List, [], ◌∷◌, ◌++◌, length, map, remove, replicate, get_or, unwrap_or, option_map, refl, sym, ap, subst, ◌∙◌, length-append, eq-eqb, arith, inl, inr}
use Rattle.std.specs.Prelude.{◌⊎◌, Contains, nat_le, nat_lt, position, slice_get, slice_set}
use Rattle.std.specs.List.{cons_option, find, list_any, position_or_len}
use Rattle.std.specs.Option.{option_map_or}
use Rattle.std.proofs.lemmas.Bool.{cases_Bool, or_parts}
use Rattle.std.proofs.lemmas.Bool.Decides.{nat_tests}
use Rattle.std.proofs.lemmas.List.{map-append, map-set, set-get_or}
use Rattle.std.proofs.lemmas.Option.{get_or_from_slice_get, slice_get-map}
use Rattle.std.proofs.Math.Seq.{take-append_seam}
use Rattle.isa.specs.declared.programs.Programs.{Programs}
use Rattle.isa.specs.Objects.{Object}
use Rattle.lines_layout.specs.Lines.{line_of}
use Rattle.outcomes.proofs.PartsOfOutcomes.{answer_of}
use Rattle.outcomes.proofs.ListsByPlace.{drop_past_seam, slice_get_seam}
use Rattle.store_buffer.specs.declared.entry.Entry.{Entry}
use Rattle.store_buffer.specs.declared.entry.Entry.TheVariants as entries
use Rattle.persist_buffer.specs.declared.entry.PendingEntry.{PendingEntry}
use Rattle.persist_buffer.specs.declared.entry.PendingEntry.TheVariants.{Write, Marker}
use Rattle.persist_buffer.specs.State.{Memory}
use Rattle.persist_buffer.specs.Memories.{is_marker, is_write_on}
use Rattle.processor.specs.declared.act.Act.{Act}
use Rattle.processor.specs.declared.act.Act.TheVariants.{Local, Fence, Read, Delay, Locked, Trap}
use Rattle.processor.specs.Acts.{IsShown}
use Rattle.processor.specs.Contents.{Contents}
use Rattle.machine.specs.declared.step.Step.{Step}
use Rattle.machine.specs.declared.step.Step.TheVariants.{Exec, Drain, Persist, Settle, Crash}
use Rattle.machine.specs.declared.step.Seen.{Seen}
use Rattle.machine.specs.declared.step.Seen.TheVariants.{Ran, Left, Persisted, Settled, Crashed}
use Rattle.machine.specs.declared.refusal.Refusal.{Refusal}
use Rattle.machine.specs.declared.refusal.Refusal.TheVariants.{Spent}
use Rattle.machine.specs.Limits.{max_turns}
use Rattle.machine.specs.Objects.{opening, opening_processor}
use Rattle.machine.specs.Processors.{contents_of, receive_of, restart_of}
use Rattle.machine.specs.State.{Processor, State, buffer_at}
use Rattle.machine.specs.Steps.{crash_of, run_of, step_of}
use Rattle.machine.proofs.DrainingIsASplit.{fence_disappears, flush_arrives, optimized_flush_arrives, write_arrives}
use Rattle.machine.proofs.ExecShowsAll.{exec_shown}
use Rattle.machine.proofs.PersistAndSettleStepsSplit.{persist_only, settle_only}
use Rattle.machine.proofs.ProcessorSteps.{drain_only, exec_only}
use Rattle.image_reasons.specs.declared.entries.Delayed.{Delayed}
use Rattle.image_reasons.specs.declared.entries.Operation.{Operation}
use Rattle.image_reasons.specs.declared.entries.Pended.{Pended}
use Rattle.image_reasons.specs.Origins.{AreOrigins, Origins, delayed_at, delayed_by, delayed_of, first_alone, flush_noted, left_by, no_origins, operation_at, origins_next, origins_of, origins_on, put, put_as, released_by, trace_of, without_first}
use Rattle.image_reasons.proofs.ListMembers.{at_map, from_map}

abbrev pub entries_of : List Delayed → List Entry
entries_of own = map (λ d. d.entry) own

abbrev pub buffers_of : List Processor → List (List Entry)
buffers_of cpus = map (λ c. c.buffer) cpus

abbrev pub pending_of : List Pended → List PendingEntry
pending_of pended = map (λ p. p.entry) pended

-- ---- lists

module _ {X Y : Type 0} (f : X → Y) where
  -- a list whose images are split is split
  split_map : (xs : List X) (front : List Y) (y : Y) (later : List Y) → map f xs ≡ front ++ y ∷ later
      → (a : List X) × (x : X) × (b : List X) × (xs ≡ a ++ x ∷ b) × (map f a ≡ front) × (f x ≡ y) × (map f b ≡ later)
  split_map [] [] y later e = absurd cc
  split_map (x ∷ xs) [] y later e = let first : f x ≡ y = cc in let rest : map f xs ≡ later = cc in ([], x, xs, refl, refl, first, rest)
  split_map [] (z ∷ front) y later e = absurd cc
  split_map (x ∷ xs) (z ∷ front) y later e =
      let first : f x ≡ z = cc in
      let rest : map f xs ≡ front ++ y ∷ later = cc in
      let (a, w, b, whole, one, two, three) = split_map xs front y later rest in
      (x ∷ a, w, b, ap (λ (ys : List X). x ∷ ys) whole, rw (first, one) refl, two, three)

  any_map : (test : Y → Bool) (xs : List X) → list_any (λ x. test (f x)) xs ≡ list_any test (map f xs)
  any_map test [] = refl
  any_map test (x ∷ xs) = rw (any_map test xs) refl

  length_map : (xs : List X) → length (map f xs) ≡ length xs
  length_map [] = refl
  length_map (x ∷ xs) = ap suc (length_map xs)

module _ {X : Type 0} where
  remove_seam : (before later : List X) (x : X) → remove (before ++ x ∷ later) (length before) ≡ before ++ later
  remove_seam before later x = rw (take-append_seam before (x ∷ later), drop_past_seam before later x) refl

  position_or_len_seam : (test : X → Bool) (before later : List X) (x : X) → list_any test before ≡ false → test x ≡ true → position_or_len test (before ++ x ∷ later) ≡ length before
  position_or_len_seam test [] later x none passes = rw passes refl
  position_or_len_seam test (y ∷ before) later x none passes =
      let p = or_parts (test y) (list_any test before) none in
      let rest = position_or_len_seam test before later x p.1 passes in
      rw (p.0, rest) (omega arith)

  position_seam : (test : X → Bool) (before later : List X) (x : X) → list_any test before ≡ false → test x ≡ true → position test (before ++ x ∷ later) ≡ Some (length before)
  position_seam test before later x none passes =
      let longer : length (before ++ x ∷ later) ≡ length before + suc (length later) = length-append before (x ∷ later) in
      let within : nat_lt (length before) (length (before ++ x ∷ later)) ≡ true = grind (arith, nat_tests, longer) in
      rw (position_or_len_seam test before later x none passes, within) refl

find_seam : {X : Type 0} (test : X → Bool) (before later : List X) (x : X) → list_any test before ≡ false → test x ≡ true → find test (before ++ x ∷ later) ≡ Some x
find_seam test [] later x none passes = rw passes refl
find_seam test (y ∷ before) later x none passes =
    let (not_here, rest) = or_parts (test y) (list_any test before) none in
    rw not_here (find_seam test before later x rest passes)

-- the first pending entry that passes a test, and what is before and behind it
pub record GoesFirst (test : PendingEntry → Bool) (pended : List Pended) (before : List PendingEntry) (entry : PendingEntry) : Type 0 where
  pub a : List Pended
  pub p : Pended
  pub b : List Pended
  pub split : pended ≡ a ++ p ∷ b
  pub front : pending_of a ≡ before
  pub here : p.entry ≡ entry
  pub gone : without_first test pended ≡ a ++ b
  pub alone : first_alone test pended ≡ p ∷ []

pub goes_first : (test : PendingEntry → Bool) (pended : List Pended) (before later : List PendingEntry) (entry : PendingEntry) → pending_of pended ≡ before ++ entry ∷ later → list_any test before ≡ false → test entry ≡ true
    → GoesFirst test pended before entry
goes_first test pended before later entry whole none passes =
    let (a, p, b, split, front, here, rest) = split_map (λ (q : Pended). q.entry) pended before entry later whole in
    let none_there : list_any (λ (q : Pended). test q.entry) a ≡ false = any_map (λ (q : Pended). q.entry) test a ∙ (ap (λ (es : List PendingEntry). list_any test es) front ∙ none) in
    let found = position_seam (λ (q : Pended). test q.entry) a b p none_there (ap test here ∙ passes) in
    let first = find_seam (λ (q : Pended). test q.entry) a b p none_there (ap test here ∙ passes) in
    let removed : without_first test (a ++ p ∷ b) ≡ a ++ b = ap (λ (o : Option ℕ). option_map_or (remove (a ++ p ∷ b)) o (a ++ p ∷ b)) found ∙ remove_seam a b p in
    record {
      a = a;
      p = p;
      b = b;
      split = split;
      front = front;
      here = here;
      gone = ap (λ (qs : List Pended). without_first test qs) split ∙ removed;
      alone = ap (λ (qs : List Pended). first_alone test qs) split ∙ ap (λ (q : Option Pended). cons_option q []) first;
    }

-- the first pending entry that passes a test goes
first_goes : (test : PendingEntry → Bool) (pended : List Pended) (before later : List PendingEntry) (entry : PendingEntry) → pending_of pended ≡ before ++ entry ∷ later → list_any test before ≡ false → test entry ≡ true
    → pending_of (without_first test pended) ≡ before ++ later
first_goes test pended before later entry whole none passes =
    let (a, p, b, split, front, here, rest) = split_map (λ (q : Pended). q.entry) pended before entry later whole in
    let none_there : list_any (λ (q : Pended). test q.entry) a ≡ false = any_map (λ (q : Pended). q.entry) test a ∙ (ap (λ (es : List PendingEntry). list_any test es) front ∙ none) in
    let found = position_seam (λ (q : Pended). test q.entry) a b p none_there (ap test here ∙ passes) in
    let removed : without_first test (a ++ p ∷ b) ≡ a ++ b = ap (λ (o : Option ℕ). option_map_or (remove (a ++ p ∷ b)) o (a ++ p ∷ b)) found ∙ remove_seam a b p in
    ap (λ (ps : List Pended). pending_of (without_first test ps)) split ∙ (ap (λ (ps : List Pended). pending_of ps) removed ∙ (map-append (λ (q : Pended). q.entry) a b ∙ rw (front, rest) refl))

-- ---- one processor

-- its store buffer changes
module _ (o : Origins) (s t : State) (p : ℕ) (before after : Processor) (kept : AreOrigins o s) (there : slice_get s.processors p ≡ Some before) (alone : t.processors ≡ slice_set s.processors p after) where
  buffer_there : slice_get (buffers_of s.processors) p ≡ Some before.buffer
  buffer_there = slice_get-map (λ (c : Processor). c.buffer) s.processors p ∙ ap (λ (c : Option Processor). option_map (λ (d : Processor). d.buffer) c) there

  new_buffers : buffers_of t.processors ≡ slice_set (buffers_of s.processors) p after.buffer
  new_buffers = ap (λ (cpus : List Processor). buffers_of cpus) alone ∙ map-set (λ (c : Processor). c.buffer) s.processors p after

  same_buffers : after.buffer ≡ before.buffer → buffers_of t.processors ≡ buffers_of s.processors
  same_buffers same =
      let read : get_or (buffers_of s.processors) p [] ≡ before.buffer = get_or_from_slice_get (buffers_of s.processors) p before.buffer [] buffer_there in
      new_buffers ∙ (ap (λ (b : List Entry). slice_set (buffers_of s.processors) p b) (same ∙ sym read) ∙ set-get_or (buffers_of s.processors) p [])

  -- what is kept of it
  own_entries : (own : Option (List Delayed)) → option_map entries_of own ≡ Some before.buffer → entries_of (unwrap_or own []) ≡ before.buffer
  own_entries None e = absurd cc
  own_entries (Some own) e = cc

  delayed_entries : entries_of (delayed_of p o) ≡ before.buffer
  delayed_entries =
      own_entries (slice_get o.buffered p)
      (sym (slice_get-map entries_of o.buffered p) ∙ (ap (λ (bs : List (List Entry)). slice_get bs p) kept.buffers ∙ buffer_there))

  changed_buffers : (own : List Delayed) → entries_of own ≡ after.buffer → map entries_of (slice_set o.buffered p own) ≡ buffers_of t.processors
  changed_buffers own is =
      map-set entries_of o.buffered p own
      ∙ (ap (λ (bs : List (List Entry)). slice_set bs p (entries_of own)) kept.buffers ∙ (ap (λ (b : List Entry). slice_set (buffers_of s.processors) p b) is ∙ sym new_buffers))

  -- nothing is buffered or pending that was not
  stays : after.buffer ≡ before.buffer → t.memory.pending ≡ s.memory.pending → AreOrigins o t
  stays buffer pending = record { buffers = kept.buffers ∙ sym (same_buffers buffer); pending = kept.pending ∙ sym pending }

  delays : (f : Operation) (entry : Entry) → after.buffer ≡ before.buffer ++ entry ∷ [] → t.memory.pending ≡ s.memory.pending → AreOrigins (delayed_by p (record { entry = entry; operation = f }) o) t
  delays f entry buffer pending = record {
    buffers = changed_buffers (delayed_of p o ++ record { entry = entry; operation = f } ∷ [])
        (map-append (λ (d : Delayed). d.entry) (delayed_of p o) (record { entry = entry; operation = f } ∷ []) ∙ (ap (λ (b : List Entry). b ++ entry ∷ []) delayed_entries ∙ sym buffer));
    pending = kept.pending ∙ sym pending;
  }

  puts : (f : Operation) (entry : PendingEntry) → after.buffer ≡ before.buffer → t.memory.pending ≡ s.memory.pending ++ entry ∷ [] → AreOrigins (put entry f o) t
  puts f entry buffer pending = record {
    buffers = kept.buffers ∙ sym (same_buffers buffer);
    pending = map-append (λ (q : Pended). q.entry) o.pended (record { entry = entry; operation = f } ∷ []) ∙ (ap (λ (es : List PendingEntry). es ++ entry ∷ []) kept.pending ∙ sym pending);
  }

flush_keeps : (o : Origins) (s : State) (entry : Entry) (f : Operation) → AreOrigins o s → AreOrigins (flush_noted entry f o) s
flush_keeps o s (entries.Write word value) f kept = kept
flush_keeps o s (entries.Flush line) f kept = record { buffers = kept.buffers; pending = kept.pending }
flush_keeps o s (entries.FlushOpt line) f kept = record { buffers = kept.buffers; pending = kept.pending }
flush_keeps o s entries.Sfence f kept = kept

same_buffer : (shape : List ℕ) (b c : List Entry) (m k : Memory) → contents_of shape c k ≡ contents_of shape b m → c ≡ b
same_buffer shape b c m k e = ap (λ (s : Contents). s.buffer) e

same_pending : (shape : List ℕ) (b c : List Entry) (m k : Memory) → contents_of shape c k ≡ contents_of shape b m → k.pending ≡ m.pending
same_pending shape b c m k e = ap (λ (s : Contents). s.memory.pending) e

exec_keeps : (n : ℕ) (o : Origins) (s t : State) (p place : ℕ) (before after : Processor) (act : Act) → AreOrigins o s → slice_get s.processors p ≡ Some before → t.processors ≡ slice_set s.processors p after
    → IsShown act (contents_of s.shape before.buffer s.memory) (contents_of s.shape after.buffer t.memory) → AreOrigins (origins_next n o (Ran p place act)) t
unfolding origins_next
exec_keeps n o s t p place before after Local kept there alone e =
    stays o s t p before after kept there alone (same_buffer s.shape before.buffer after.buffer s.memory t.memory e) (same_pending s.shape before.buffer after.buffer s.memory t.memory e)
exec_keeps n o s t p place before after Fence kept there alone (empty, e) =
    stays o s t p before after kept there alone (same_buffer s.shape before.buffer after.buffer s.memory t.memory e) (same_pending s.shape before.buffer after.buffer s.memory t.memory e)
exec_keeps n o s t p place before after (Read word value) kept there alone (read, e) =
    stays o s t p before after kept there alone (same_buffer s.shape before.buffer after.buffer s.memory t.memory e) (same_pending s.shape before.buffer after.buffer s.memory t.memory e)
exec_keeps n o s t p place before after (Delay entry) kept there alone shown =
    let f = operation_at n o p place in
    delays (flush_noted entry f o) s t p before after (flush_keeps o s entry f kept) there alone f entry shown.buffer (ap (λ (m : Memory). m.pending) shown.memory)
exec_keeps n o s t p place before after (Locked word value None) kept there alone (empty, read, e) =
    stays o s t p before after kept there alone (same_buffer s.shape before.buffer after.buffer s.memory t.memory e) (same_pending s.shape before.buffer after.buffer s.memory t.memory e)
exec_keeps n o s t p place before after (Locked word value (Some written)) kept there alone (empty, read, shown) =
    puts o s t p before after kept there alone (operation_at n o p place) (Write word written) shown.buffer shown.pending
exec_keeps n o s t p place before after (Trap address) kept there alone (none, e) =
    stays o s t p before after kept there alone (same_buffer s.shape before.buffer after.buffer s.memory t.memory e) (same_pending s.shape before.buffer after.buffer s.memory t.memory e)

-- ---- an entry leaves

-- the store buffer is changed already, and the memory takes the entry
takes : (o : Origins) (s t : State) (entry : Entry) (f : Operation) → map entries_of o.buffered ≡ buffers_of t.processors → pending_of o.pended ≡ s.memory.pending → receive_of s.memory entry ≡ Ok t.memory
    → AreOrigins (put_as entry f o) t
takes o s t (entries.Write word value) f buffers pending e =
    let a = write_arrives s.memory t.memory word value e in
    record { buffers = buffers; pending = map-append (λ (q : Pended). q.entry) o.pended (record { entry = Write word value; operation = f } ∷ []) ∙ (ap (λ (es : List PendingEntry). es ++ Write word value ∷ []) pending ∙ sym a.pending) }
takes o s t (entries.Flush line) f buffers pending e =
    let a = flush_arrives s.memory t.memory line e in
    record { buffers = buffers; pending = map-append (λ (q : Pended). q.entry) o.pended (record { entry = Marker line; operation = f } ∷ []) ∙ (ap (λ (es : List PendingEntry). es ++ Marker line ∷ []) pending ∙ sym a.pending) }
takes o s t (entries.FlushOpt line) f buffers pending e =
    let a = optimized_flush_arrives s.memory t.memory line e in
    record { buffers = buffers; pending = map-append (λ (q : Pended). q.entry) o.pended (record { entry = Marker line; operation = f } ∷ []) ∙ (ap (λ (es : List PendingEntry). es ++ Marker line ∷ []) pending ∙ sym a.pending) }
takes o s t entries.Sfence f buffers pending e =
    let same = fence_disappears s.memory t.memory e in
    record { buffers = buffers; pending = pending ∙ sym (ap (λ (m : Memory). m.pending) same) }

drain_keeps : (o : Origins) (s t : State) (p i : ℕ) (before after : Processor) (entry : Entry) (earlier later : List Entry) → AreOrigins o s → slice_get s.processors p ≡ Some before
    → t.processors ≡ slice_set s.processors p after → before.buffer ≡ earlier ++ entry ∷ later → length earlier ≡ i → after.buffer ≡ earlier ++ later → receive_of s.memory entry ≡ Ok t.memory → AreOrigins (left_by p i o) t
drain_keeps o s t p i before after entry earlier later kept there alone whole place rest arrived =
    let own = delayed_of p o in
    let (a, d, b, split, front, here, behind) = split_map (λ (x : Delayed). x.entry) own earlier entry later (delayed_entries o s t p before after kept there alone ∙ whole) in
    let at : length a ≡ i = sym (length_map (λ (x : Delayed). x.entry) a) ∙ (ap (λ (es : List Entry). length es) front ∙ place) in
    let found : delayed_at p i o ≡ Some d = ap (λ (xs : List Delayed). slice_get xs i) split ∙ (ap (λ (k : ℕ). slice_get (a ++ d ∷ b) k) (sym at) ∙ slice_get_seam a b d) in
    let removed : remove own i ≡ a ++ b = ap (λ (xs : List Delayed). remove xs i) split ∙ (ap (λ (k : ℕ). remove (a ++ d ∷ b) k) (sym at) ∙ remove_seam a b d) in
    let left : entries_of (remove own i) ≡ after.buffer = ap (λ (xs : List Delayed). entries_of xs) removed ∙ (map-append (λ (x : Delayed). x.entry) a b ∙ (rw (front, behind) (sym rest))) in
    let buffers = changed_buffers o s t p before after kept there alone (remove own i) left in
    let done : AreOrigins (put_as d.entry d.operation (released_by p i o)) t = takes (released_by p i o) s t d.entry d.operation buffers kept.pending (ap (λ (x : Entry). receive_of s.memory x) here ∙ arrived) in
    subst (λ (x : Option Delayed). AreOrigins (option_map_or (λ (y : Delayed). put_as y.entry y.operation (released_by p i o)) x o) t) (sym found) done

-- what is kept of the store buffer of a processor
pub buffer_kept : (o : Origins) (s : State) (p : ℕ) (c : Processor) → AreOrigins o s → slice_get s.processors p ≡ Some c → (own : List Delayed) × (slice_get o.buffered p ≡ Some own) × (entries_of own ≡ c.buffer)
buffer_kept o s p c kept there =
    let at : slice_get (map entries_of o.buffered) p ≡ Some c.buffer =
    ap (λ (bs : List (List Entry)). slice_get bs p) kept.buffers ∙ (slice_get-map (λ (x : Processor). x.buffer) s.processors p ∙ ap (λ (x : Option Processor). option_map (λ (y : Processor). y.buffer) x) there) in
    at_map entries_of o.buffered p c.buffer at

-- the entry that leaves it
pub record IsDrained (o : Origins) (p i : ℕ) (entry : Entry) : Type 0 where
  pub own : List Delayed
  pub a : List Delayed
  pub d : Delayed
  pub b : List Delayed
  pub at : slice_get o.buffered p ≡ Some own
  pub split : own ≡ a ++ d ∷ b
  pub is : d.entry ≡ entry
  pub found : delayed_at p i o ≡ Some d
  pub removed : remove (delayed_of p o) i ≡ a ++ b

pub drained : (o : Origins) (s : State) (p i : ℕ) (c : Processor) (entry : Entry) (earlier later : List Entry) → AreOrigins o s → slice_get s.processors p ≡ Some c → c.buffer ≡ earlier ++ entry ∷ later → length earlier ≡ i → IsDrained o p i entry
drained o s p i c entry earlier later kept there whole place =
    let (own, own_at, are) = buffer_kept o s p c kept there in
    let (a, d, b, split, front, here, behind) = split_map (λ (x : Delayed). x.entry) own earlier entry later (are ∙ whole) in
    let at : length a ≡ i = sym (length_map (λ (x : Delayed). x.entry) a) ∙ (ap (λ (es : List Entry). length es) front ∙ place) in
    let own_is : delayed_of p o ≡ a ++ d ∷ b = ap (λ (found : Option (List Delayed)). unwrap_or found []) own_at ∙ split in
    record {
      own = own;
      a = a;
      d = d;
      b = b;
      at = own_at;
      split = split;
      is = here;
      found = ap (λ (xs : List Delayed). slice_get xs i) own_is ∙ (ap (λ (k : ℕ). slice_get (a ++ d ∷ b) k) (sym at) ∙ slice_get_seam a b d);
      removed = ap (λ (xs : List Delayed). remove xs i) own_is ∙ (ap (λ (k : ℕ). remove (a ++ d ∷ b) k) (sym at) ∙ remove_seam a b d);
    }

-- ---- a crash

none_left : (xs : List (List Delayed)) (cpus : List Processor) → map entries_of xs ≡ buffers_of cpus → map entries_of (replicate (length xs) []) ≡ buffers_of (map restart_of cpus)
none_left [] [] e = refl
none_left [] (c ∷ cpus) e = absurd cc
none_left (x ∷ xs) [] e = absurd cc
none_left (x ∷ xs) (c ∷ cpus) e = let rest : map entries_of xs ≡ buffers_of cpus = cc in ap (λ (bs : List (List Entry)). [] ∷ bs) (none_left xs cpus rest)

abbrev crashed : State → State
crashed s = record (crash_of s) { turns = s.turns + 1 }

pub crash_is : (s t : State) (seen : Seen) → step_of s Crash ≡ Ok (seen, t) → (seen ≡ Crashed (s.crashes + 1)) × (t ≡ crashed s)
crash_is s t seen e =
    elim (cases_Bool (nat_le max_turns s.turns)) [
      | inl spent ↦ let refused : ◌≡◌ {A = Result (Seen × State) Refusal} (Err Spent) (Ok (seen, t)) = rw spent at e in absurd cc
      | inr goes ↦
          let accepted : ◌≡◌ {A = Result (Seen × State) Refusal} (Ok (Crashed (s.crashes + 1), crashed s)) (Ok (seen, t)) = rw goes at e in
          answer_of (Crashed (s.crashes + 1)) seen (crashed s) t accepted
    ]

crash_keeps : (n count : ℕ) (o : Origins) (s : State) → AreOrigins o s → AreOrigins (origins_next n o (Crashed count)) (crashed s)
unfolding origins_next
crash_keeps n count o s kept = record { buffers = none_left o.buffered s.processors kept.buffers; pending = refl }

-- ---- each step

persist_keeps : (n : ℕ) (o : Origins) (s t : State) (word value line : ℕ) (before later : List PendingEntry) → AreOrigins o s → t.processors ≡ s.processors → s.memory.pending ≡ before ++ Write word value ∷ later
    → line_of word ≡ line → list_any (is_write_on line) before ≡ false → t.memory.pending ≡ before ++ later → AreOrigins (origins_next n o (Persisted word value)) t
unfolding origins_next
persist_keeps n o s t word value line before later kept same whole on none rest =
    let none_here : list_any (is_write_on (line_of word)) before ≡ false = subst (λ (l : ℕ). list_any (is_write_on l) before ≡ false) (sym on) none in
    record {
      buffers = kept.buffers ∙ sym (ap (λ (cpus : List Processor). buffers_of cpus) same);
      pending = first_goes (is_write_on (line_of word)) o.pended before later (Write word value) (kept.pending ∙ whole) none_here (eq-eqb (line_of word) (line_of word) refl) ∙ sym rest;
    }

settle_keeps : (n : ℕ) (o : Origins) (s t : State) (line : ℕ) (before later : List PendingEntry) → AreOrigins o s → t.processors ≡ s.processors → s.memory.pending ≡ before ++ Marker line ∷ later
    → list_any is_marker before ≡ false → t.memory.pending ≡ before ++ later → AreOrigins (origins_next n o (Settled line)) t
unfolding origins_next
settle_keeps n o s t line before later kept same whole none rest = record {
  buffers = kept.buffers ∙ sym (ap (λ (cpus : List Processor). buffers_of cpus) same);
  pending = first_goes is_marker o.pended before later (Marker line) (kept.pending ∙ whole) none refl ∙ sym rest;
}

left_keeps : (n : ℕ) (o : Origins) (t : State) (p i : ℕ) (entry : Entry) → AreOrigins (left_by p i o) t → AreOrigins (origins_next n o (Left p i entry)) t
unfolding origins_next
left_keeps n o t p i entry kept = kept

by_seen : (n : ℕ) (o : Origins) (t : State) (seen shown : Seen) → seen ≡ shown → AreOrigins (origins_next n o shown) t → AreOrigins (origins_next n o seen) t
by_seen n o t seen shown e kept = subst (λ (x : Seen). AreOrigins (origins_next n o x) t) (sym e) kept

pub step_keeps : (n : ℕ) (o : Origins) (s t : State) (step : Step) (seen : Seen) → AreOrigins o s → step_of s step ≡ Ok (seen, t) → AreOrigins (origins_next n o seen) t
step_keeps n o s t (Exec p) seen kept e =
    let x = exec_only s t p seen e in
    by_seen n o t seen (Ran p x.before.place x.act) x.shown
    (exec_keeps n o s t p x.before.place x.before x.after x.act kept x.there x.alone.processors (exec_shown s.shape x.before x.after s.memory t.memory x.act x.ran))
step_keeps n o s t (Drain p i) seen kept e =
    let x = drain_only s t p i seen e in
    by_seen n o t seen (Left p i x.entry) x.shown
    (left_keeps n o t p i x.entry (drain_keeps o s t p i x.before x.after x.entry x.earlier x.later kept x.there x.alone.processors x.split.whole x.split.place (ap (λ (c : Processor). c.buffer) x.split.rest) x.arrived))
step_keeps n o s t (Persist line) seen kept e =
    let x = persist_only s t line seen e in
    by_seen n o t seen (Persisted x.word x.value) x.shown
    (persist_keeps n o s t x.word x.value line x.before x.later kept x.alone.processors x.split.whole x.split.on_line x.split.no_write x.split.rest)
step_keeps n o s t Settle seen kept e =
    let x = settle_only s t seen e in
    by_seen n o t seen (Settled x.line) x.shown (settle_keeps n o s t x.line x.before x.later kept x.alone.processors x.split.whole x.split.no_marker x.split.rest)
step_keeps n o s t Crash seen kept e =
    let x = crash_is s t seen e in
    by_seen n o t seen (Crashed (s.crashes + 1)) x.0 (subst (λ (u : State). AreOrigins (origins_next n o (Crashed (s.crashes + 1))) u) (sym x.1) (crash_keeps n (s.crashes + 1) o s kept))

-- ---- runs

pub cases_step : (r : Result (Seen × State) Refusal) → ((seen : Seen) × (t : State) × (r ≡ Ok (seen, t))) ⊎ ((refusal : Refusal) × (r ≡ Err refusal))
cases_step (Ok done) = inl (done.0, done.1, refl)
cases_step (Err refusal) = inr (refusal, refl)

run_keeps : (steps : List Step) (n : ℕ) (o : Origins) (s : State) → AreOrigins o s → AreOrigins (origins_on n o (trace_of steps s)) (run_of steps s).state
run_keeps [] n o s kept = kept
run_keeps (step ∷ steps) n o s kept =
    elim (cases_step (step_of s step)) [
      | inl did ↦ rw did.2 (run_keeps steps (n + 1) (origins_next n o did.0) did.1 (step_keeps n o s did.1 step did.0 kept did.2))
      | inr refused ↦ rw refused.1 kept
    ]

opening_buffers : (processors : List Programs) → map entries_of (replicate (length processors) []) ≡ buffers_of (map opening_processor processors)
opening_buffers [] = refl
opening_buffers (programs ∷ processors) = ap (λ (bs : List (List Entry)). [] ∷ bs) (opening_buffers processors)

pub opened : (object : Object) → AreOrigins (no_origins (length object.processors)) (opening object)
opened object = record { buffers = opening_buffers object.processors; pending = refl }

pub entries_are_there : (object : Object) (steps : List Step) → AreOrigins (origins_of object steps) (run_of steps (opening object)).state
entries_are_there object steps =
    run_keeps steps 0 (no_origins (length object.processors)) (opening object) (opened object)

-- ---- what is at a place

module _ (o : Origins) (s : State) (kept : AreOrigins o s) where
  pub entry_there : (i : ℕ) (p : Pended) → slice_get o.pended i ≡ Some p → slice_get s.memory.pending i ≡ Some p.entry
  entry_there i p at =
      sym (ap (λ (es : List PendingEntry). slice_get es i) kept.pending) ∙ (slice_get-map (λ (q : Pended). q.entry) o.pended i ∙ ap (λ (q : Option Pended). option_map (λ (x : Pended). x.entry) q) at)

  pub entry_kept : (i : ℕ) (entry : PendingEntry) → slice_get s.memory.pending i ≡ Some entry → (p : Pended) × (slice_get o.pended i ≡ Some p) × (p.entry ≡ entry)
  entry_kept i entry at = at_map (λ (q : Pended). q.entry) o.pended i entry (ap (λ (es : List PendingEntry). slice_get es i) kept.pending ∙ at)

  pub own_there : (p : ℕ) (own : List Delayed) → slice_get o.buffered p ≡ Some own → buffer_at s p ≡ Some (map (λ (d : Delayed). d.entry) own)
  own_there p own at =
      sym (slice_get-map (λ (c : Processor). c.buffer) s.processors p)
      ∙ (sym (ap (λ (bs : List (List Entry)). slice_get bs p) kept.buffers)
      ∙ (slice_get-map (λ (ds : List Delayed). map (λ (d : Delayed). d.entry) ds) o.buffered p ∙ ap (λ (ds : Option (List Delayed)). option_map (λ (x : List Delayed). map (λ (d : Delayed). d.entry) x) ds) at))

  -- an entry of a store buffer is kept there
  pub delayed_kept : (p : ℕ) (buffer : List Entry) (entry : Entry) → buffer_at s p ≡ Some buffer → Contains buffer entry
      → (own : List Delayed) × (slice_get o.buffered p ≡ Some own) × (d : Delayed) × Contains own d × (d.entry ≡ entry)
  delayed_kept p buffer entry at held =
      let there : slice_get (map (λ (own : List Delayed). map (λ (d : Delayed). d.entry) own) o.buffered) p ≡ Some buffer =
      ap (λ (bs : List (List Entry)). slice_get bs p) kept.buffers ∙ (slice_get-map (λ (c : Processor). c.buffer) s.processors p ∙ at) in
      let (own, own_at, are) = at_map (λ (ds : List Delayed). map (λ (d : Delayed). d.entry) ds) o.buffered p buffer there in
      let (d, delayed, is) = from_map (λ (x : Delayed). x.entry) own entry (subst (λ (es : List Entry). Contains es entry) (sym are) held) in
      (own, own_at, d, delayed, is)
