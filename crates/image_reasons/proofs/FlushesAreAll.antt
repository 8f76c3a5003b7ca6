-- Each flush since the last crash is kept, and the newest of a line is the last that ran.
use Rattle.std.proofs.Common.{◌≡◌, ℕ, zero, suc, ◌+◌, ◌<◌, Bool, true, false, Option, Some, None, List, [], ◌∷◌, ◌++◌, length, refl, sym, ap, subst, ◌∙◌, length-append, append-nil, append_assoc, eq-eqb, eqb-true, arith, inl, inr}
use Rattle.std.specs.Prelude.{◌≤◌, ◌⊎◌, ◌==◌, ◌||◌, Contains, drop, slice_get, if◌then◌else◌}
use Rattle.std.specs.List.{list_any}
use Rattle.std.specs.Option.{option_map_or}
use Rattle.std.proofs.lemmas.Bool.{or_parts}
use Rattle.std.proofs.lemmas.List.Elements.{Contains-append_left, Contains-append_right}
use Rattle.std.proofs.lemmas.List.Sums.{fold-append}
use Rattle.std.proofs.lemmas.Option.{slice_get_within}
use Rattle.isa.specs.Objects.{Object}
use Rattle.store_buffer.specs.declared.entry.Entry.{Entry}
use Rattle.store_buffer.specs.declared.entry.Entry.TheVariants as entries
use Rattle.persist_buffer.specs.declared.entry.PendingEntry.{PendingEntry}
use Rattle.persist_buffer.specs.declared.entry.PendingEntry.TheVariants.{Marker}
use Rattle.processor.specs.declared.act.Act.TheVariants.{Local, Fence, Read, Delay, Locked, Trap}
use Rattle.machine.specs.declared.step.Step.{Step}
use Rattle.machine.specs.declared.step.Seen.{Seen}
use Rattle.machine.specs.declared.step.Seen.TheVariants.{Ran, Left, Persisted, Settled, Crashed}
use Rattle.machine.specs.Objects.{opening}
use Rattle.image_reasons.specs.declared.entries.Delayed.{Delayed}
use Rattle.image_reasons.specs.declared.entries.Flushed.{Flushed}
use Rattle.image_reasons.specs.declared.entries.Operation.{Operation}
use Rattle.image_reasons.specs.declared.entries.Site.{Site}
use Rattle.image_reasons.specs.Origins.{Origins, delayed_at, left_by, no_origins, operation_at, origins_next, origins_of, origins_on, put_as, released_by, trace_of}
use Rattle.image_reasons.specs.Reasoned.{IsFlushAt, IsLastFlush, IsRunSinceCrash, IsSinceCrash, IsUnflushed}
use Rattle.image_reasons.specs.Reasons.{newer_flush, newest_flush}
use Rattle.image_reasons.specs.Told.{act_put, is_crash}
use Rattle.image_reasons.proofs.ListMembers.{first_here}
use Rattle.image_reasons.proofs.OperationsAreNoted.{AreNoted, crashes_behind, next_noted, none_noted, still_by}

-- the flush of a line that step n executed is kept
pub record IsKept (flushed : List Flushed) (line n : ℕ) : Type 0 where
  pub flush : Flushed
  pub held : Contains flushed flush
  pub on : flush.line ≡ line
  pub step : flush.operation.step ≡ n

abbrev pub IsNewest : List Seen → ℕ → Option Site → Type 0
IsNewest run line None = IsUnflushed run line
IsNewest run line (Some flush) = IsLastFlush run line flush

pub record AreAll (run : List Seen) (flushed : List Flushed) : Type 0 where
  pub each : (line n : ℕ) → IsSinceCrash run n → IsFlushAt run line n → IsKept flushed line n
  pub newest : (line : ℕ) → IsNewest run line (newest_flush line flushed)

-- ---- a step more

-- what a step puts into the pending list, at once or later
abbrev seen_put : Seen → Option PendingEntry
seen_put (Ran p place act) = act_put act
seen_put _ = None

abbrev IsFlushOf : ℕ → Seen → Type 0
IsFlushOf line seen = seen_put seen ≡ Some (Marker line)

module _ (run : List Seen) (seen : Seen) where
  get_cases : (front : List Seen) (n : ℕ) (x : Seen) → slice_get (front ++ seen ∷ []) n ≡ Some x → (slice_get front n ≡ Some x) ⊎ ((n ≡ length front) × (seen ≡ x))
  get_cases [] zero x e = inr (refl, cc)
  get_cases [] (suc n) x e = absurd cc
  get_cases (y ∷ front) zero x e = inl e
  get_cases (y ∷ front) (suc n) x e =
      elim (get_cases front n x e) [
        | inl old ↦ inl old
        | inr new ↦ inr (ap suc new.0, new.1)
      ]

  within : (line n : ℕ) → IsFlushAt run line n → n < length run
  within line n f = slice_get_within run n (Ran f.processor f.place (Delay f.entry)) f.shown

  within_more : (line n : ℕ) → IsFlushAt (run ++ seen ∷ []) line n → n ≤ length run
  within_more line n f =
      let less : n < length (run ++ seen ∷ []) = slice_get_within (run ++ seen ∷ []) n (Ran f.processor f.place (Delay f.entry)) f.shown in
      omega (arith, less, length-append run (seen ∷ []))

  -- a flush is one of the old steps, or this one
  flush_cases : (line n : ℕ) → IsFlushAt (run ++ seen ∷ []) line n → IsFlushAt run line n ⊎ ((n ≡ length run) × IsFlushOf line seen)
  flush_cases line n f =
      elim (get_cases run n (Ran f.processor f.place (Delay f.entry)) f.shown) [
        | inl old ↦ inl (record { processor = f.processor; place = f.place; entry = f.entry; shown = old; flush = f.flush })
        | inr new ↦ inr (new.0, ap seen_put new.1 ∙ f.flush)
      ]

  was_since : (line n : ℕ) → IsFlushAt run line n → IsSinceCrash (run ++ seen ∷ []) n → IsSinceCrash run n
  was_since line n f since =
      let less = within line n f in
      (or_parts (list_any is_crash (drop n run)) (is_crash seen || false) (sym (crashes_behind run seen n (omega (arith, less))) ∙ since)).0

  module _ (none : is_crash seen ≡ false) where
    -- the newest flush of a line stays so, if this is no flush of the line
    still_newest : (line : ℕ) (newest : Option Site) → (IsFlushOf line seen → ⊥) → IsNewest run line newest → IsNewest (run ++ seen ∷ []) line newest
    still_newest line None quiet unflushed = λ n since f. elim (flush_cases line n f) [
      | inl old ↦ unflushed n (was_since line n old since) old
      | inr new ↦ quiet new.1
    ]
    still_newest line (Some flush) quiet last = record {
      step = last.step;
      ran = still_by run seen none (record { step = last.step; site = flush }) (Marker line) last.ran;
      last = λ later less f. elim (flush_cases line later f) [
        | inl old ↦ last.last later less old
        | inr new ↦ quiet new.1
      ];
    }

    still_all : (flushed : List Flushed) → ((line : ℕ) → IsFlushOf line seen → ⊥) → AreAll run flushed → AreAll (run ++ seen ∷ []) flushed
    still_all flushed quiet all = record {
      each = λ line n since f. elim (flush_cases line n f) [
        | inl old ↦ all.each line n (was_since line n old since) old
        | inr new ↦ absurd (quiet line new.1)
      ];
      newest = λ line. still_newest line (newest_flush line flushed) (quiet line) (all.newest line);
    }

    -- this is a flush, and it is kept
    more_all : (flushed : List Flushed) (own : ℕ) (site : Site) → IsFlushOf own seen → IsRunSinceCrash (run ++ seen ∷ []) (length run) site (Marker own) → AreAll run flushed
        → AreAll (run ++ seen ∷ []) (flushed ++ record { line = own; operation = record { step = length run; site = site } } ∷ [])
    more_all flushed own site is by all = record {
      each = λ line n since g. elim (flush_cases line n g) [
        | inl old ↦
            let k = all.each line n (was_since line n old since) old in
            record { flush = k.flush; held = Contains-append_left flushed (f ∷ []) k.flush k.held; on = k.on; step = k.step }
        | inr new ↦ record { flush = f; held = Contains-append_right flushed (f ∷ []) f (first_here f []); on = same_line line new.1; step = sym new.0 }
      ];
      newest = λ line. subst (λ (x : Option Site). IsNewest (run ++ seen ∷ []) line x) (sym (fold-append (newer_flush line) None flushed (f ∷ []))) (newer line (own == line) refl);
    }
      where
        f : Flushed
        f = record { line = own; operation = record { step = length run; site = site } }

        same_line : (line : ℕ) → IsFlushOf line seen → own ≡ line
        same_line line other = let same : ◌≡◌ {A = Option PendingEntry} (Some (Marker own)) (Some (Marker line)) = sym is ∙ other in cc

        newer : (line : ℕ) (on : Bool) → (own == line) ≡ on → IsNewest (run ++ seen ∷ []) line (if on then Some site else newest_flush line flushed)
        newer line true e = record {
          step = length run;
          ran = subst (λ (l : ℕ). IsRunSinceCrash (run ++ seen ∷ []) (length run) site (Marker l)) (eqb-true own line e) by;
          last = λ later less g. (let most = within_more line later g in absurd (omega (arith, less, most)));
        }
        newer line false e = still_newest line (newest_flush line flushed) (λ other. (
            let bad : false ≡ true = sym e ∙ eq-eqb own line (same_line line other) in
            absurd cc
            )) (all.newest line)

-- a crash is behind each flush
crash_all : (run : List Seen) (count : ℕ) → AreAll (run ++ Crashed count ∷ []) []
crash_all run count = record {
  each = λ line n since f. absurd (unflushed line n since f);
  newest = unflushed;
}
  where
    unflushed : (line : ℕ) → IsUnflushed (run ++ Crashed count ∷ []) line
    unflushed line n since f =
        let behind = or_parts (list_any is_crash (drop n run)) true (sym (crashes_behind run (Crashed count) n (within_more run (Crashed count) line n f)) ∙ since) in
        let bad : true ≡ false = behind.1 in
        absurd cc

-- ---- runs

left_flushed : (o : Origins) (p i : ℕ) → (left_by p i o).flushed ≡ o.flushed
left_flushed o p i = by_found (delayed_at p i o)
  where
    by_entry : (entry : Entry) (f : Operation) → (put_as entry f (released_by p i o)).flushed ≡ o.flushed
    by_entry (entries.Write word value) f = refl
    by_entry (entries.Flush line) f = refl
    by_entry (entries.FlushOpt line) f = refl
    by_entry entries.Sfence f = refl

    by_found : (found : Option Delayed) → (option_map_or (λ d. put_as d.entry d.operation (released_by p i o)) found o).flushed ≡ o.flushed
    by_found None = refl
    by_found (Some d) = by_entry d.entry d.operation

next_all : (run : List Seen) (o : Origins) (seen : Seen) → AreNoted (run ++ seen ∷ []) (origins_next (length run) o seen) → AreAll run o.flushed → AreAll (run ++ seen ∷ []) (origins_next (length run) o seen).flushed
unfolding origins_next
next_all run o (Ran p place (Delay (entries.Flush line))) noted all =
    let f : Flushed = record { line = line; operation = operation_at (length run) o p place } in
    more_all run (Ran p place (Delay (entries.Flush line))) refl o.flushed line f.operation.site refl (noted.flushed f (Contains-append_right o.flushed (f ∷ []) f (first_here f []))) all
next_all run o (Ran p place (Delay (entries.FlushOpt line))) noted all =
    let f : Flushed = record { line = line; operation = operation_at (length run) o p place } in
    more_all run (Ran p place (Delay (entries.FlushOpt line))) refl o.flushed line f.operation.site refl (noted.flushed f (Contains-append_right o.flushed (f ∷ []) f (first_here f []))) all
next_all run o (Ran p place (Delay (entries.Write word value))) noted all = still_all run (Ran p place (Delay (entries.Write word value))) refl o.flushed (λ line is. absurd cc) all
next_all run o (Ran p place (Delay entries.Sfence)) noted all = still_all run (Ran p place (Delay entries.Sfence)) refl o.flushed (λ line is. absurd cc) all
next_all run o (Ran p place (Locked word value (Some written))) noted all = still_all run (Ran p place (Locked word value (Some written))) refl o.flushed (λ line is. absurd cc) all
next_all run o (Ran p place (Locked word value None)) noted all = still_all run (Ran p place (Locked word value None)) refl o.flushed (λ line is. absurd cc) all
next_all run o (Ran p place Local) noted all = still_all run (Ran p place Local) refl o.flushed (λ line is. absurd cc) all
next_all run o (Ran p place Fence) noted all = still_all run (Ran p place Fence) refl o.flushed (λ line is. absurd cc) all
next_all run o (Ran p place (Read word value)) noted all = still_all run (Ran p place (Read word value)) refl o.flushed (λ line is. absurd cc) all
next_all run o (Ran p place (Trap address)) noted all = still_all run (Ran p place (Trap address)) refl o.flushed (λ line is. absurd cc) all
next_all run o (Left p i entry) noted all =
    subst (λ (fs : List Flushed). AreAll (run ++ Left p i entry ∷ []) fs) (sym (left_flushed o p i)) (still_all run (Left p i entry) refl o.flushed (λ line is. absurd cc) all)
next_all run o (Persisted word value) noted all = still_all run (Persisted word value) refl o.flushed (λ line is. absurd cc) all
next_all run o (Settled line) noted all = still_all run (Settled line) refl o.flushed (λ line is. absurd cc) all
next_all run o (Crashed count) noted all = crash_all run count

run_all : (later run : List Seen) (n : ℕ) (o : Origins) → n ≡ length run → AreNoted run o → AreAll run o.flushed → AreAll (run ++ later) (origins_on n o later).flushed
run_all [] run n o e noted all = subst (λ (ss : List Seen). AreAll ss o.flushed) (sym (append-nil run)) all
run_all (seen ∷ later) run n o e noted all =
    let more = run ++ seen ∷ [] in
    let noted_here : AreNoted more (origins_next n o seen) = subst (λ (k : ℕ). AreNoted more (origins_next k o seen)) (sym e) (next_noted run o seen noted) in
    let here : AreAll more (origins_next n o seen).flushed = subst (λ (k : ℕ). AreAll more (origins_next k o seen).flushed) (sym e) (next_all run o seen (next_noted run o seen noted) all) in
    let longer : n + 1 ≡ length more = omega (arith, e, length-append run (seen ∷ [])) in
    let rest = run_all later more (n + 1) (origins_next n o seen) longer noted_here here in
    subst (λ (ss : List Seen). AreAll ss (origins_on (n + 1) (origins_next n o seen) later).flushed) (append_assoc run (seen ∷ []) later) rest

pub flushes_are_all : (object : Object) (steps : List Step) → AreAll (trace_of steps (opening object)) (origins_of object steps).flushed
flushes_are_all object steps =
    run_all (trace_of steps (opening object)) [] 0 (no_origins (length object.processors)) refl (none_noted object) (record {
      each = λ line n since f. absurd (nothing line n f);
      newest = λ line n since f. absurd (nothing line n f);
    })
  where
    nothing : (line n : ℕ) → IsFlushAt [] line n → ⊥
    nothing line n f = let less = within [] (Crashed 0) line n f in absurd (omega (arith, less))
