-- What is kept of a run is of its steps: each buffered and pending entry, and each flush, is of a step since the last crash.
use Rattle.std.proofs.Common.{◌≡◌, ℕ, zero, suc, ◌+◌, ◌<◌, Bool, true, false, Option, Some, None, List, [], ◌∷◌, ◌++◌, length, drop, remove, replicate, refl, sym, ap, subst, ◌∙◌, length-append, append-nil, append_assoc, eqb-true, arith, inl, inr}
use Rattle.std.specs.Prelude.{◌==◌, ◌≤◌, ◌||◌, Contains, slice_get, slice_set}
use Rattle.std.specs.List.{cons_option, find, list_any}
use Rattle.std.specs.Option.{option_map_or}
use Rattle.std.proofs.lemmas.List.{drop-append-le, take-append-le}
use Rattle.std.proofs.lemmas.List.Elements.{Contains-append_cases, Contains-push_cases}
use Rattle.std.proofs.lemmas.List.Folds.{list_any-append}
use Rattle.std.proofs.lemmas.Option.{slice_get_within}
use Rattle.std.proofs.Math.Seq.{take-append_seam}
use Rattle.lines_layout.specs.Lines.{line_of}
use Rattle.isa.specs.Objects.{Object}
use Rattle.outcomes.proofs.ListsByPlace.{slice_get_seam}
use Rattle.store_buffer.specs.declared.entry.Entry.{Entry}
use Rattle.store_buffer.specs.declared.entry.Entry.TheVariants as entries
use Rattle.persist_buffer.specs.declared.entry.PendingEntry.{PendingEntry}
use Rattle.persist_buffer.specs.declared.entry.PendingEntry.TheVariants.{Write, Marker}
use Rattle.persist_buffer.specs.Memories.{is_marker, is_write_on}
use Rattle.processor.specs.declared.act.Act.{Act}
use Rattle.processor.specs.declared.act.Act.TheVariants.{Local, Fence, Read, Delay, Locked, Trap}
use Rattle.machine.specs.declared.step.Step.{Step}
use Rattle.machine.specs.declared.step.Seen.{Seen}
use Rattle.machine.specs.declared.step.Seen.TheVariants.{Ran, Left, Persisted, Settled, Crashed}
use Rattle.machine.specs.Objects.{opening}
use Rattle.image_reasons.specs.declared.entries.Delayed.{Delayed}
use Rattle.image_reasons.specs.declared.entries.Flushed.{Flushed}
use Rattle.image_reasons.specs.declared.entries.Operation.{Operation}
use Rattle.image_reasons.specs.declared.entries.Pended.{Pended}
use Rattle.image_reasons.specs.declared.entries.Site.{Site}
use Rattle.image_reasons.specs.Origins.{Origins, act_noted, delayed_at, delayed_by, delayed_of, executed_by, first_alone, first_place, flush_noted, left_by, no_origins, operation_at, origins_next, origins_of, origins_on, put, put_as, released_by, trace_of, with_flush, without_first, without_place}
use Rattle.image_reasons.specs.Reasoned.{IsFlush, IsRunSinceCrash, IsSinceCrash}
use Rattle.image_reasons.specs.Reasons.{stores_of}
use Rattle.image_reasons.specs.Told.{act_put, entry_put, is_crash}
use Rattle.image_reasons.proofs.LaterFlushes.{kept_cases, left_cases}
use Rattle.image_reasons.proofs.ListMembers.{among, at_set, drop_seam, either, found_at, from_equal, from_own, from_remove, nothing_here}

-- ---- what is kept of a run is of its steps

abbrev pub IsBy : List Seen → Operation → PendingEntry → Type 0
IsBy run f entry = IsRunSinceCrash run f.step f.site entry

abbrev pub IsPutBy : List Seen → Delayed → Type 0
IsPutBy run d = (entry : PendingEntry) → entry_put d.entry ≡ Some entry → IsBy run d.operation entry

-- processor p ran the operation of a buffered entry, since the last crash
pub record IsDelayedBy (run : List Seen) (p : ℕ) (d : Delayed) : Type 0 where
  pub shown : slice_get run d.operation.step ≡ Some (Ran p d.operation.site.place (Delay d.entry))
  pub since : IsSinceCrash run d.operation.step
  pub puts : IsPutBy run d

pub record AreNoted (run : List Seen) (o : Origins) : Type 0 where
  pub buffered : (p : ℕ) (own : List Delayed) (d : Delayed) → slice_get o.buffered p ≡ Some own → Contains own d → IsDelayedBy run p d
  pub pended : (q : Pended) → Contains o.pended q → IsBy run q.operation q.entry
  pub flushed : (f : Flushed) → Contains o.flushed f → IsBy run f.operation (Marker f.line)
  pub persisted : (q : Pended) → Contains o.persisted q → IsBy run q.operation q.entry
  pub recovering : o.recovering ≡ list_any is_crash run

-- what a run showed it has shown after one step more
module _ (run : List Seen) (seen : Seen) where
  pub get_more : (n : ℕ) (x : Seen) → slice_get run n ≡ Some x → slice_get (run ++ seen ∷ []) n ≡ Some x
  get_more = get_front run
    where
      get_front : (front : List Seen) (n : ℕ) (x : Seen) → slice_get front n ≡ Some x → slice_get (front ++ seen ∷ []) n ≡ Some x
      get_front [] n x e = absurd cc
      get_front (y ∷ front) zero x e = e
      get_front (y ∷ front) (suc n) x e = get_front front n x e

  pub crashes_behind : (n : ℕ) → n ≤ length run → list_any is_crash (drop n (run ++ seen ∷ [])) ≡ (list_any is_crash (drop n run) || (is_crash seen || false))
  crashes_behind n within = ap (λ (ss : List Seen). list_any is_crash ss) (drop-append-le n run (seen ∷ []) within) ∙ list_any-append is_crash (drop n run) (seen ∷ [])

  module _ (none : is_crash seen ≡ false) where
    pub still_since : (n : ℕ) → n < length run → IsSinceCrash run n → IsSinceCrash (run ++ seen ∷ []) n
    still_since n within since = crashes_behind n (omega (arith, within)) ∙ rw (since, none) refl

    pub still_by : (f : Operation) (entry : PendingEntry) → IsBy run f entry → IsBy (run ++ seen ∷ []) f entry
    still_by f entry by =
        let ran = by.ran in
        let within : f.step < length run = slice_get_within run f.step (Ran f.site.processor f.site.place ran.act) ran.shown in
        record {
          ran = record {
            act = ran.act;
            shown = get_more f.step (Ran f.site.processor f.site.place ran.act) ran.shown;
            puts = ran.puts;
            recovering = ran.recovering ∙ ap (λ (ss : List Seen). list_any is_crash ss) (sym (take-append-le f.step run (seen ∷ []) (omega (arith, within))));
          };
          since = still_since f.step within by.since;
        }

    still_delayed : (p : ℕ) (d : Delayed) → IsDelayedBy run p d → IsDelayedBy (run ++ seen ∷ []) p d
    still_delayed p d by =
        let within : d.operation.step < length run = slice_get_within run d.operation.step (Ran p d.operation.site.place (Delay d.entry)) by.shown in
        record {
          shown = get_more d.operation.step (Ran p d.operation.site.place (Delay d.entry)) by.shown;
          since = still_since d.operation.step within by.since;
          puts = λ entry puts. still_by d.operation entry (by.puts entry puts);
        }

    still_noted : (o : Origins) → AreNoted run o → AreNoted (run ++ seen ∷ []) o
    still_noted o kept = record {
      buffered = λ p own d at held. still_delayed p d (kept.buffered p own d at held);
      pended = λ q held. still_by q.operation q.entry (kept.pended q held);
      flushed = λ f held. still_by f.operation (Marker f.line) (kept.flushed f held);
      persisted = λ q held. still_by q.operation q.entry (kept.persisted q held);
      recovering = kept.recovering ∙ sym (list_any-append is_crash run (seen ∷ []) ∙ rw none (or_nothing (list_any is_crash run)));
    }
      where
        or_nothing : (b : Bool) → (b || (false || false)) ≡ b
        or_nothing true = refl
        or_nothing false = refl

-- ---- what a step ran

-- a step that delayed an entry was of the processor at the site that it ran
pub delayed_own : (run : List Seen) (n p place : ℕ) (entry : Entry) (site : Site) (act : Act) → slice_get run n ≡ Some (Ran p place (Delay entry)) → slice_get run n ≡ Some (Ran site.processor site.place act)
    → p ≡ site.processor
delayed_own run n p place entry site act delayed ran =
    let one : ◌≡◌ {A = Option Seen} (Some (Ran p place (Delay entry))) (Some (Ran site.processor site.place act)) = sym delayed ∙ ran in
    cc

-- a step that delayed an entry, and ran a flush, delayed the flush
pub delayed_flush : (run : List Seen) (n p place line : ℕ) (entry : Entry) (flush : Site) (act : Act) → slice_get run n ≡ Some (Ran p place (Delay entry)) → slice_get run n ≡ Some (Ran flush.processor flush.place act)
    → act_put act ≡ Some (Marker line) → (p ≡ flush.processor) × IsFlush line entry
delayed_flush run n p place line entry flush act delayed ran puts =
    let one : ◌≡◌ {A = Option Seen} (Some (Ran p place (Delay entry))) (Some (Ran flush.processor flush.place act)) = sym delayed ∙ ran in
    let same : Delay entry ≡ act = cc in
    (delayed_own run n p place entry flush act delayed ran, ap (λ (x : Act). act_put x) same ∙ puts)

-- ---- an operation more

module _ (run : List Seen) (o : Origins) (kept : AreNoted run o) where
  flushes : (line : ℕ) (f : Operation) → IsBy run f (Marker line) → AreNoted run (with_flush line f o)
  flushes line f by = record {
    buffered = kept.buffered;
    pended = kept.pended;
    flushed = λ g held. elim (Contains-push_cases o.flushed (record { line = line; operation = f }) g held) [
      | inl old ↦ kept.flushed g old
      | inr is ↦ subst (λ (x : Flushed). IsBy run x.operation (Marker x.line)) is by
    ];
    persisted = kept.persisted;
    recovering = kept.recovering;
  }

  notes_flush : (entry : Entry) (f : Operation) → IsPutBy run (record { entry = entry; operation = f }) → AreNoted run (flush_noted entry f o)
  notes_flush (entries.Flush line) f by = flushes line f (by (Marker line) refl)
  notes_flush (entries.FlushOpt line) f by = flushes line f (by (Marker line) refl)
  notes_flush (entries.Write word value) f by = kept
  notes_flush entries.Sfence f by = kept

  own_by : (p : ℕ) (d : Delayed) → Contains (delayed_of p o) d → IsDelayedBy run p d
  own_by p d held = let (own, at, there) = from_own o.buffered p d held in kept.buffered p own d at there

  -- a processor's store buffer changes
  changes : (p : ℕ) (own : List Delayed) → ((d : Delayed) → Contains own d → IsDelayedBy run p d) → AreNoted run (record o { buffered = slice_set o.buffered p own })
  changes p own all = record {
    buffered = λ p' own' d at held. elim (at_set o.buffered p p' own own' at) [
      | inl is ↦ subst (λ (k : ℕ). IsDelayedBy run k d) is.0 (all d (subst (λ (x : List Delayed). Contains x d) (sym is.1) held))
      | inr old ↦ kept.buffered p' own' d old held
    ];
    pended = kept.pended;
    flushed = kept.flushed;
    persisted = kept.persisted;
    recovering = kept.recovering;
  }

  delays : (p : ℕ) (d : Delayed) → IsDelayedBy run p d → AreNoted run (delayed_by p d o)
  delays p d by = changes p (delayed_of p o ++ d ∷ []) (λ x held. elim (Contains-push_cases (delayed_of p o) d x held) [
    | inl old ↦ own_by p x old
    | inr is ↦ subst (λ (y : Delayed). IsDelayedBy run p y) is by
  ])

  releases : (p i : ℕ) → AreNoted run (released_by p i o)
  releases p i = changes p (remove (delayed_of p o) i) (λ x held. own_by p x (from_remove (delayed_of p o) i x held))

  puts : (entry : PendingEntry) (f : Operation) → IsBy run f entry → AreNoted run (put entry f o)
  puts entry f by = record {
    buffered = kept.buffered;
    pended = λ q held. elim (Contains-push_cases o.pended (record { entry = entry; operation = f }) q held) [
      | inl old ↦ kept.pended q old
      | inr is ↦ subst (λ (x : Pended). IsBy run x.operation x.entry) is by
    ];
    flushed = kept.flushed;
    persisted = kept.persisted;
    recovering = kept.recovering;
  }

  puts_as : (entry : Entry) (f : Operation) → IsPutBy run (record { entry = entry; operation = f }) → AreNoted run (put_as entry f o)
  puts_as (entries.Write word value) f by = puts (Write word value) f (by (Write word value) refl)
  puts_as (entries.Flush line) f by = puts (Marker line) f (by (Marker line) refl)
  puts_as (entries.FlushOpt line) f by = puts (Marker line) f (by (Marker line) refl)
  puts_as entries.Sfence f by = kept

  goes : (test : PendingEntry → Bool) → AreNoted run (record o { pended = without_first test o.pended })
  goes test = record {
    buffered = kept.buffered;
    pended = λ q held. kept.pended q (still_there (first_place test o.pended) q held);
    flushed = kept.flushed;
    persisted = kept.persisted;
    recovering = kept.recovering;
  }
    where
      still_there : (place : Option ℕ) (q : Pended) → Contains (without_place place o.pended) q → Contains o.pended q
      still_there None q held = held
      still_there (Some i) q held = from_remove o.pended i q held

  persists : (test : PendingEntry → Bool) → AreNoted run (record o { pended = without_first test o.pended; persisted = o.persisted ++ first_alone test o.pended })
  persists test =
      let gone = goes test in
      record {
        buffered = kept.buffered;
        pended = gone.pended;
        flushed = kept.flushed;
        persisted = λ q held. elim (Contains-append_cases o.persisted (first_alone test o.pended) q held) [
          | inl old ↦ kept.persisted q old
          | inr new ↦ kept.pended q (from_alone (find (λ (x : Pended). test x.entry) o.pended) refl q new)
        ];
        recovering = kept.recovering;
      }
    where
      from_alone : (found : Option Pended) → find (λ (x : Pended). test x.entry) o.pended ≡ found → (q : Pended) → Contains (cons_option found []) q → Contains o.pended q
      from_alone None e q held = absurd (nothing_here q held)
      from_alone (Some p) e q held =
          let (i, at, passes) = found_at (λ (x : Pended). test x.entry) o.pended p e in
          elim (either p q [] held) [
            | inl here ↦ subst (λ (x : Pended). Contains o.pended x) here (among o.pended i p at)
            | inr later ↦ absurd (nothing_here q later)
          ]

executes : (run : List Seen) (o : Origins) (p : ℕ) (d : Delayed) → AreNoted run o → IsDelayedBy run p d → AreNoted run (executed_by p d o)
executes run o p d kept by = delays run (flush_noted d.entry d.operation o) (notes_flush run o kept d.entry d.operation by.puts) p d by

leaves : (run : List Seen) (o : Origins) (p i : ℕ) → AreNoted run o → AreNoted run (left_by p i o)
leaves run o p i kept = by_found (delayed_at p i o) refl
  where
    by_found : (found : Option Delayed) → delayed_at p i o ≡ found → AreNoted run (option_map_or (λ d. put_as d.entry d.operation (released_by p i o)) found o)
    by_found None e = kept
    by_found (Some d) e = puts_as run (released_by p i o) (releases run o kept p i) d.entry d.operation (own_by run o kept p d (among (delayed_of p o) i d e)).puts

-- ---- a step more

none_own : {X : Type 0} (n p : ℕ) (own : List Delayed) (d : Delayed) → slice_get (replicate n []) p ≡ Some own → Contains own d → X
none_own n p own d at held =
    let empty : [] ≡ own = from_equal n [] own (among (replicate n []) p own at) in
    absurd (nothing_here d (subst (λ (x : List Delayed). Contains x d) (sym empty) held))

notes_act : (run : List Seen) (o : Origins) (p : ℕ) (f : Operation) (act : Act) → AreNoted run o → slice_get run f.step ≡ Some (Ran p f.site.place act) → IsSinceCrash run f.step → ((entry : PendingEntry) → act_put act ≡ Some entry → IsBy run f entry) → AreNoted run (act_noted p act f o)
notes_act run o p f (Delay entry) kept shown since by = executes run o p (record { entry = entry; operation = f }) kept (record { shown = shown; since = since; puts = by })
notes_act run o p f (Locked word value (Some written)) kept shown since by = puts run o kept (Write word written) f (by (Write word written) refl)
notes_act run o p f (Locked word value None) kept shown since by = kept
notes_act run o p f Local kept shown since by = kept
notes_act run o p f Fence kept shown since by = kept
notes_act run o p f (Read word value) kept shown since by = kept
notes_act run o p f (Trap address) kept shown since by = kept

pub next_noted : (run : List Seen) (o : Origins) (seen : Seen) → AreNoted run o → AreNoted (run ++ seen ∷ []) (origins_next (length run) o seen)
unfolding origins_next
next_noted run o (Ran p place act) kept =
    let more = run ++ Ran p place act ∷ [] in
    let still = still_noted run (Ran p place act) refl o kept in
    let shown = slice_get_seam run [] (Ran p place act) in
    let since : IsSinceCrash more (length run) = ap (λ (ss : List Seen). list_any is_crash ss) (drop_seam run (Ran p place act ∷ [])) in
    notes_act more o p (operation_at (length run) o p place) act still shown since (λ entry puts. record {
      ran = record {
        act = act;
        shown = shown;
        puts = puts;
        recovering = kept.recovering ∙ ap (λ (ss : List Seen). list_any is_crash ss) (sym (take-append_seam run (Ran p place act ∷ [])));
      };
      since = since;
    })
next_noted run o (Left p i entry) kept = leaves (run ++ Left p i entry ∷ []) o p i (still_noted run (Left p i entry) refl o kept)
next_noted run o (Persisted word value) kept =
    persists (run ++ Persisted word value ∷ []) o (still_noted run (Persisted word value) refl o kept) (is_write_on (line_of word))
next_noted run o (Settled line) kept = goes (run ++ Settled line ∷ []) o (still_noted run (Settled line) refl o kept) is_marker
next_noted run o (Crashed count) kept = record {
  buffered = λ p own d at held. none_own (length o.buffered) p own d at held;
  pended = λ q held. absurd (nothing_here q held);
  flushed = λ f held. absurd (nothing_here f held);
  persisted = λ q held. absurd (nothing_here q held);
  recovering = sym (list_any-append is_crash run (Crashed count ∷ []) ∙ or_some (list_any is_crash run));
}
  where
    or_some : (b : Bool) → (b || (true || false)) ≡ true
    or_some true = refl
    or_some false = refl

run_noted : (later run : List Seen) (n : ℕ) (o : Origins) → n ≡ length run → AreNoted run o → AreNoted (run ++ later) (origins_on n o later)
run_noted [] run n o e kept = subst (λ (ss : List Seen). AreNoted ss o) (sym (append-nil run)) kept
run_noted (seen ∷ later) run n o e kept =
    let here : AreNoted (run ++ seen ∷ []) (origins_next n o seen) = subst (λ (k : ℕ). AreNoted (run ++ seen ∷ []) (origins_next k o seen)) (sym e) (next_noted run o seen kept) in
    let longer : n + 1 ≡ length (run ++ seen ∷ []) = omega (arith, e, length-append run (seen ∷ [])) in
    let rest = run_noted later (run ++ seen ∷ []) (n + 1) (origins_next n o seen) longer here in
    subst (λ (ss : List Seen). AreNoted ss (origins_on (n + 1) (origins_next n o seen) later)) (append_assoc run (seen ∷ []) later) rest

pub none_noted : (object : Object) → AreNoted [] (no_origins (length object.processors))
none_noted object = record {
  buffered = λ p own d at held. none_own (length object.processors) p own d at held;
  pended = λ q held. absurd (nothing_here q held);
  flushed = λ f held. absurd (nothing_here f held);
  persisted = λ q held. absurd (nothing_here q held);
  recovering = refl;
}

pub all_noted : (object : Object) (steps : List Step) → AreNoted (trace_of steps (opening object)) (origins_of object steps)
all_noted object steps = run_noted (trace_of steps (opening object)) [] 0 (no_origins (length object.processors)) refl (none_noted object)

-- ---- what ran

module _ (run : List Seen) (o : Origins) (noted : AreNoted run o) where
  -- a flush of a line that was noted
  pub flush_ran : (line : ℕ) (f : Flushed) → Contains o.flushed f → (f.line == line) ≡ true → IsBy run f.operation (Marker line)
  flush_ran line f held on = subst (λ (l : ℕ). IsBy run f.operation (Marker l)) (eqb-true f.line line on) (noted.flushed f held)

  -- what put this entry into the pending list
  pub entry_ran : (q : Pended) (entry : PendingEntry) → Contains o.pended q → q.entry ≡ entry → IsBy run q.operation entry
  entry_ran q entry held e = subst (λ (x : PendingEntry). IsBy run q.operation x) e (noted.pended q held)

  -- what put a write that has persisted there
  pub persisted_ran : (q : Pended) (entry : PendingEntry) → Contains o.persisted q → q.entry ≡ entry → IsBy run q.operation entry
  persisted_ran q entry held e = subst (λ (x : PendingEntry). IsBy run q.operation x) e (noted.persisted q held)

  -- what put one of the stores there, by which a reason is found
  pub left_ran : (places : List ℕ) (q : Pended) → Contains (stores_of o places).left q → IsBy run q.operation q.entry
  left_ran places q held =
      elim (left_cases o places q held) [
        | inl old ↦ noted.persisted q old
        | inr there ↦ noted.pended q there
      ]

  pub kept_ran : (places : List ℕ) (q : Pended) → Contains (stores_of o places).kept q → IsBy run q.operation q.entry
  kept_ran places q held =
      elim (kept_cases o places q held) [
        | inl old ↦ noted.persisted q old
        | inr there ↦ noted.pended q (among o.pended there.place q there.at)
      ]
