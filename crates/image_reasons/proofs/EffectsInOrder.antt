-- In which order the flushes and the pending writes of a line took effect, and which writes have persisted.
use Rattle.std.proofs.Common.{◌≡◌, ℕ, zero, suc, ◌+◌, Bool, true, false, Option, Some, None, Ok, List, [], ◌∷◌, ◌++◌, length, drop, unwrap_or, refl, sym, ap, subst, ◌∙◌, length-append, append-nil, append_assoc, eq-eqb, eqb-true, arith, inl, inr}
use Rattle.std.specs.Prelude.{◌⊎◌, ◌==◌, ◌||◌, Contains, slice_get, slice_set}
use Rattle.std.specs.List.{list_any}
use Rattle.std.specs.Option.{option_map_or}
use Rattle.std.proofs.lemmas.Bool.{cases_Bool, or_left, or_parts, or_right}
use Rattle.std.proofs.lemmas.List.Elements.{Contains-append_cases, Contains-append_left, Contains-append_right, Contains-push_cases}
use Rattle.std.proofs.lemmas.List.Folds.{list_any-append}
use Rattle.std.proofs.lemmas.Option.{slice_get_within}
use Rattle.lines_layout.specs.Lines.{line_of}
use Rattle.isa.specs.Objects.{Object}
use Rattle.outcomes.proofs.ListsByPlace.{slice_get_seam}
use Rattle.store_buffer.specs.declared.entry.Entry.{Entry}
use Rattle.store_buffer.specs.declared.entry.Entry.TheVariants as entries
use Rattle.persist_buffer.specs.declared.entry.PendingEntry.{PendingEntry}
use Rattle.persist_buffer.specs.declared.entry.PendingEntry.TheVariants.{Write, Marker}
use Rattle.persist_buffer.specs.Memories.{is_marker, is_write_on}
use Rattle.processor.specs.declared.act.Act.{Act}
use Rattle.processor.specs.declared.act.Act.TheVariants.{Local, Fence, Read, Delay, Locked, Trap}
use Rattle.machine.specs.declared.step.Step.{Step}
use Rattle.machine.specs.declared.step.Step.TheVariants.{Exec, Drain, Persist, Settle, Crash}
use Rattle.machine.specs.declared.step.Seen.{Seen}
use Rattle.machine.specs.declared.step.Seen.TheVariants.{Ran, Left, Persisted, Settled, Crashed}
use Rattle.machine.specs.Objects.{opening}
use Rattle.machine.specs.State.{Processor, State}
use Rattle.machine.specs.Steps.{step_of}
use Rattle.machine.proofs.PersistAndSettleStepsSplit.{persist_only, settle_only}
use Rattle.machine.proofs.ProcessorSteps.{drain_only, exec_only}
use Rattle.image_reasons.specs.declared.entries.Delayed.{Delayed}
use Rattle.image_reasons.specs.declared.entries.Flushed.{Flushed}
use Rattle.image_reasons.specs.declared.entries.Operation.{Operation}
use Rattle.image_reasons.specs.declared.entries.Pended.{Pended}
use Rattle.image_reasons.specs.Origins.{AreOrigins, Origins, act_noted, delayed_of, executed_by, first_alone, left_by, no_origins, operation_at, origins_next, origins_of, origins_on, put, put_as, released_by, trace_of}
use Rattle.image_reasons.specs.Reasoned.{HasPersisted, IsEffectAt, IsEffectBefore, IsLeftAt, IsSinceCrash}
use Rattle.image_reasons.specs.Reasons.{is_delayed}
use Rattle.image_reasons.specs.Told.{entry_put, is_crash}
use Rattle.image_reasons.proofs.EntriesAreThere.{buffer_kept, cases_step, crash_is, drained, goes_first, opened, pending_of, step_keeps}
use Rattle.image_reasons.proofs.ListMembers.{drop_seam, either, first_here, nothing_here}
use Rattle.image_reasons.proofs.OperationsAreNoted.{AreNoted, IsDelayedBy, delayed_flush, delayed_own, get_more, next_noted, none_noted, still_since}

-- ---- what is known of the order

-- since the last crash a flush left its store buffer
pub record IsFlushDone (run : List Seen) (f : Flushed) : Type 0 where
  pub step : ℕ
  pub left : IsLeftAt run step f.operation.site.processor (Marker f.line)
  pub since : IsSinceCrash run step

abbrev pub IsMarked : ℕ → List Pended → Type 0
IsMarked line rest = (m : Pended) × Contains rest m × (m.entry ≡ Marker line)

abbrev pub IsBefore : List Seen → Flushed → Pended → Type 0
IsBefore run f q = IsEffectBefore run f.line f.operation.site.processor q.operation.site.processor q.entry

abbrev pub IsDelayed : List (List Delayed) → Flushed → Type 0
IsDelayed buffered f = is_delayed buffered f.operation.step ≡ true

-- each flush of the line of a pending write is still buffered, or its marker is behind the write, or it took effect before
abbrev pub IsOrdered : List Seen → List Flushed → List (List Delayed) → Pended → List Pended → Type 0
IsOrdered run flushed buffered q rest = (f : Flushed) (word value : ℕ) → Contains flushed f → q.entry ≡ Write word value → f.line ≡ line_of word
    → IsDelayed buffered f ⊎ (IsMarked f.line rest ⊎ IsBefore run f q)

abbrev pub AreOrdered : List Seen → List Flushed → List (List Delayed) → List Pended → Type 0
AreOrdered run flushed buffered [] = Unit {0}
AreOrdered run flushed buffered (q ∷ rest) = IsOrdered run flushed buffered q rest × AreOrdered run flushed buffered rest

pub record IsPersistedBy (run : List Seen) (q : Pended) : Type 0 where
  pub word : ℕ
  pub value : ℕ
  pub entry : q.entry ≡ Write word value
  pub persisted : HasPersisted run word value

pub record AreInOrder (run : List Seen) (o : Origins) : Type 0 where
  pub done : (f : Flushed) → Contains o.flushed f → IsDelayed o.buffered f ⊎ IsFlushDone run f
  pub ordered : AreOrdered run o.flushed o.buffered o.pended
  pub persisted : (q : Pended) → Contains o.persisted q → IsPersistedBy run q

-- ---- lists

module _ {X : Type 0} (test : X → Bool) where
  -- a list of which one place was changed
  any_set : (xs : List X) (p : ℕ) (new old : X) → slice_get xs p ≡ Some old → (test old ≡ true → test new ≡ true) → list_any test xs ≡ true → list_any test (slice_set xs p new) ≡ true
  any_set [] p new old at keeps some = absurd cc
  any_set (x ∷ xs) zero new old at keeps some =
      let same : x ≡ old = cc in
      elim (cases_Bool (test x)) [
        | inl passes ↦ or_left (test new) (list_any test xs) (keeps (ap test (sym same) ∙ passes))
        | inr fails ↦ or_right (test new) (list_any test xs) (rw fails at some)
      ]
  any_set (x ∷ xs) (suc p) new old at keeps some =
      elim (cases_Bool (test x)) [
        | inl passes ↦ or_left (test x) (list_any test (slice_set xs p new)) passes
        | inr fails ↦ or_right (test x) (list_any test (slice_set xs p new)) (any_set xs p new old at keeps (rw fails at some))
      ]

  set_any : (xs : List X) (p : ℕ) (new old : X) → slice_get xs p ≡ Some old → test new ≡ true → list_any test (slice_set xs p new) ≡ true
  set_any [] p new old at passes = absurd cc
  set_any (x ∷ xs) zero new old at passes = or_left (test new) (list_any test xs) passes
  set_any (x ∷ xs) (suc p) new old at passes = or_right (test x) (list_any test (slice_set xs p new)) (set_any xs p new old at passes)

has_step : ℕ → List Delayed → Bool
has_step n own = list_any (λ (d : Delayed). d.operation.step == n) own

module _ (buffered : List (List Delayed)) (p : ℕ) (own : List Delayed) (at : slice_get buffered p ≡ Some own) (n : ℕ) where
  -- an entry goes into a store buffer
  still_pushed : (d : Delayed) → is_delayed buffered n ≡ true → is_delayed (slice_set buffered p (own ++ d ∷ [])) n ≡ true
  still_pushed d delayed =
      any_set (λ (xs : List Delayed). list_any (λ (x : Delayed). x.operation.step == n) xs) buffered p (own ++ d ∷ []) own at
      (λ some. list_any-append (λ (x : Delayed). x.operation.step == n) own (d ∷ []) ∙ or_left (list_any (λ (x : Delayed). x.operation.step == n) own) (list_any (λ (x : Delayed). x.operation.step == n) (d ∷ [])) some) delayed

  pushed : (d : Delayed) → d.operation.step ≡ n → is_delayed (slice_set buffered p (own ++ d ∷ [])) n ≡ true
  pushed d same =
      set_any (λ (xs : List Delayed). list_any (λ (x : Delayed). x.operation.step == n) xs) buffered p (own ++ d ∷ []) own at
      (list_any-append (λ (x : Delayed). x.operation.step == n) own (d ∷ [])
      ∙ or_right (list_any (λ (x : Delayed). x.operation.step == n) own) (list_any (λ (x : Delayed). x.operation.step == n) (d ∷ [])) (rw (eq-eqb d.operation.step n same) refl))

  -- another one leaves it
  still_left : (a b : List Delayed) (d : Delayed) → own ≡ a ++ d ∷ b → (d.operation.step == n) ≡ false → is_delayed buffered n ≡ true → is_delayed (slice_set buffered p (a ++ b)) n ≡ true
  still_left a b d split other delayed =
      let test = λ (x : Delayed). x.operation.step == n in
      any_set (λ (xs : List Delayed). list_any (λ (x : Delayed). x.operation.step == n) xs) buffered p (a ++ b) own at (λ some. (
      let whole : list_any (λ (x : Delayed). x.operation.step == n) (a ++ d ∷ b) ≡ true = ap (λ (xs : List Delayed). list_any (λ (x : Delayed). x.operation.step == n) xs) (sym split) ∙ some in
      let parts : (list_any (λ (x : Delayed). x.operation.step == n) a || ((d.operation.step == n) || list_any (λ (x : Delayed). x.operation.step == n) b)) ≡ true = sym (list_any-append (λ (x : Delayed). x.operation.step == n) a (d ∷ b)) ∙ whole in
      list_any-append (λ (x : Delayed). x.operation.step == n) a b ∙ (rw other at parts)
      )) delayed

-- ---- a step more keeps what is known

module _ (run : List Seen) (seen : Seen) (none : is_crash seen ≡ false) where
  abbrev more : List Seen
  more = run ++ seen ∷ []

  left_more : (n p : ℕ) (entry : PendingEntry) → IsLeftAt run n p entry → IsLeftAt more n p entry
  left_more n p entry l = record { place = l.place; buffered = l.buffered; shown = get_more run seen n (Left p l.place l.buffered) l.shown; puts = l.puts }

  effect_more : (n p : ℕ) (entry : PendingEntry) → IsEffectAt run n p entry → IsEffectAt more n p entry
  effect_more n p entry (inl l) = inl (left_more n p entry l)
  effect_more n p entry (inr l) = inr (record { place = l.place; word = l.word; value = l.value; written = l.written; shown = get_more run seen n (Ran p l.place (Locked l.word l.value (Some l.written))) l.shown; writes = l.writes })

  since_left : (n p : ℕ) (entry : PendingEntry) → IsLeftAt run n p entry → IsSinceCrash run n → IsSinceCrash more n
  since_left n p entry l since = still_since run seen none n (slice_get_within run n (Left p l.place l.buffered) l.shown) since

  before_more : (f : Flushed) (q : Pended) → IsBefore run f q → IsBefore more f q
  before_more f q b = record {
    first = b.first;
    next = b.next;
    flushed = left_more b.first f.operation.site.processor (Marker f.line) b.flushed;
    since = since_left b.first f.operation.site.processor (Marker f.line) b.flushed b.since;
    written = effect_more b.next q.operation.site.processor q.entry b.written;
    before = b.before;
  }

  done_more : (f : Flushed) → IsFlushDone run f → IsFlushDone more f
  done_more f d = record {
    step = d.step;
    left = left_more d.step f.operation.site.processor (Marker f.line) d.left;
    since = since_left d.step f.operation.site.processor (Marker f.line) d.left d.since;
  }

  persisted_more : (q : Pended) → IsPersistedBy run q → IsPersistedBy more q
  persisted_more q p =
      let h = p.persisted in
      record {
        word = p.word;
        value = p.value;
        entry = p.entry;
        persisted = record {
          step = h.step;
          shown = get_more run seen h.step (Persisted p.word p.value) h.shown;
          since = still_since run seen none h.step (slice_get_within run h.step (Persisted p.word p.value) h.shown) h.since;
        };
      }

  -- this is the step after the run, and no crash is behind it
  shown_here : slice_get more (length run) ≡ Some seen
  shown_here = slice_get_seam run [] seen

  since_here : IsSinceCrash more (length run)
  since_here = ap (λ (ss : List Seen). list_any is_crash ss) (drop_seam run (seen ∷ [])) ∙ rw none refl

  -- ---- entries go to the end of the pending list

  module _ (flushed others : List Flushed) (buffered after : List (List Delayed)) (tail : List Pended)
      (old_or_new : (f : Flushed) → Contains others f → Contains flushed f ⊎ IsDelayed after f)
      (stays : (f : Flushed) → Contains flushed f → IsDelayed buffered f → IsDelayed after f ⊎ IsMarked f.line tail) where
    ordered_here : (q : Pended) (rest : List Pended) → IsOrdered run flushed buffered q rest → IsOrdered more others after q (rest ++ tail)
    ordered_here q rest old f word value held entry on =
        elim (old_or_new f held) [
          | inr new ↦ inl new
          | inl was ↦ elim (old f word value was entry on) [
            | inl delayed ↦ elim (stays f was delayed) [
              | inl still ↦ inl still
              | inr marked ↦ inr (inl (marked.0, Contains-append_right rest tail marked.0 marked.1, marked.2))
            ]
            | inr left ↦ elim left [
              | inl marked ↦ inr (inl (marked.0, Contains-append_left rest tail marked.0 marked.1, marked.2))
              | inr before ↦ inr (inr (before_more f q before))
            ]
          ]
        ]

    ordered_behind : (pended : List Pended) → AreOrdered run flushed buffered pended → AreOrdered more others after tail → AreOrdered more others after (pended ++ tail)
    ordered_behind [] all new = new
    ordered_behind (q ∷ rest) all new = (ordered_here q rest all.0, ordered_behind rest all.1 new)

    ordered_alone : (pended : List Pended) → AreOrdered run flushed buffered pended → tail ≡ [] → AreOrdered more others after pended
    ordered_alone pended all empty =
        subst (λ (qs : List Pended). AreOrdered more others after qs) (ap (λ (qs : List Pended). pended ++ qs) empty ∙ append-nil pended)
        (ordered_behind pended all (subst (λ (qs : List Pended). AreOrdered more others after qs) (sym empty) tt))

  -- ---- an entry goes

  module _ (flushed : List Flushed) (buffered : List (List Delayed)) where
    ordered_still : (pended : List Pended) → AreOrdered run flushed buffered pended → AreOrdered more flushed buffered pended
    ordered_still pended all = ordered_alone flushed flushed buffered buffered [] (λ f held. inl held) (λ f held delayed. inl delayed) pended all refl

    ordered_without : (a b : List Pended) (x : Pended) → ((line : ℕ) → x.entry ≡ Marker line → list_any (is_write_on line) (pending_of a) ≡ false) → AreOrdered run flushed buffered (a ++ x ∷ b) → AreOrdered more flushed buffered (a ++ b)
    ordered_without [] b x free all = ordered_still b all.1
    ordered_without (q ∷ a) b x free all = (
      λ f word value held entry on. elim (all.0 f word value held entry on) [
        | inl delayed ↦ inl delayed
        | inr left ↦ elim left [
          | inr before ↦ inr (inr (before_more f q before))
          | inl marked ↦ inr (inl (marked.0, stays_there f word value marked.0 marked.1 marked.2 entry on, marked.2))
        ]
      ],
      ordered_without a b x (λ line is. (or_parts (is_write_on line q.entry) (list_any (is_write_on line) (pending_of a)) (free line is)).1) all.1,
    )
      where
        stays_there : (f : Flushed) (word value : ℕ) (m : Pended) → Contains (a ++ x ∷ b) m → m.entry ≡ Marker f.line → q.entry ≡ Write word value → f.line ≡ line_of word → Contains (a ++ b) m
        stays_there f word value m held marks entry on =
            elim (Contains-append_cases a (x ∷ b) m held) [
              | inl front ↦ Contains-append_left a b m front
              | inr rest ↦ elim (either x m b rest) [
                | inr behind ↦ Contains-append_right a b m behind
                | inl same ↦ (
                    let is : x.entry ≡ Marker f.line = ap (λ (y : Pended). y.entry) same ∙ marks in
                    let none_on = (or_parts (is_write_on f.line q.entry) (list_any (is_write_on f.line) (pending_of a)) (free f.line is)).0 in
                    let some_on : is_write_on f.line q.entry ≡ true = ap (λ (y : PendingEntry). is_write_on f.line y) entry ∙ eq-eqb (line_of word) f.line (sym on) in
                    let bad : true ≡ false = sym some_on ∙ none_on in
                    absurd cc
                    )
              ]
            ]

  -- ---- steps that change nothing

  quiet : (o : Origins) → AreInOrder run o → AreInOrder more o
  quiet o known = record {
    done = λ f held. elim (known.done f held) [
      | inl delayed ↦ inl delayed
      | inr done ↦ inr (done_more f done)
    ];
    ordered = ordered_still o.flushed o.buffered o.pended known.ordered;
    persisted = λ q held. persisted_more q (known.persisted q held);
  }

  -- ---- a write is put at the end, which takes effect in this step

  writes_more : (o : Origins) (q : Pended) → AreInOrder run o → IsEffectAt more (length run) q.operation.site.processor q.entry → AreOrdered more o.flushed o.buffered (q ∷ [])
  writes_more o q known effect = (
    λ f word value held entry on. elim (known.done f held) [
      | inl delayed ↦ inl delayed
      | inr done ↦ inr (inr (record {
        first = done.step;
        next = length run;
        flushed = left_more done.step f.operation.site.processor (Marker f.line) done.left;
        since = since_left done.step f.operation.site.processor (Marker f.line) done.left done.since;
        written = effect;
        before = slice_get_within run done.step (Left f.operation.site.processor done.left.place done.left.buffered) done.left.shown;
      }))
    ],
    tt,
  )

  locks : (o : Origins) (word written : ℕ) (f : Operation) → AreInOrder run o → IsEffectAt more (length run) f.site.processor (Write word written) → AreInOrder more (put (Write word written) f o)
  locks o word written f known effect =
      let q : Pended = record { entry = Write word written; operation = f } in
      let still = quiet o known in
      record {
        done = still.done;
        ordered = ordered_behind o.flushed o.flushed o.buffered o.buffered (q ∷ []) (λ g held. inl held) (λ g held delayed. inl delayed) o.pended known.ordered (writes_more o q known effect);
        persisted = still.persisted;
      }

  -- ---- an entry goes into a store buffer

  delays : (o : Origins) (p : ℕ) (own : List Delayed) (d : Delayed) (flushed : List Flushed) → slice_get o.buffered p ≡ Some own → ((f : Flushed) → Contains flushed f → Contains o.flushed f ⊎ (d.operation.step ≡ f.operation.step)) → AreInOrder run o
      → AreInOrder more (record o { buffered = slice_set o.buffered p (own ++ d ∷ []); flushed = flushed })
  delays o p own d flushed at cases known =
      let after = slice_set o.buffered p (own ++ d ∷ []) in
      let old_or_new : (f : Flushed) → Contains flushed f → Contains o.flushed f ⊎ IsDelayed after f = λ f held. elim (cases f held) [
        | inl old ↦ inl old
        | inr same ↦ inr (pushed o.buffered p own at f.operation.step d same)
      ] in
      record {
        done = λ f held. elim (old_or_new f held) [
          | inr new ↦ inl new
          | inl old ↦ elim (known.done f old) [
            | inl delayed ↦ inl (still_pushed o.buffered p own at f.operation.step d delayed)
            | inr done ↦ inr (done_more f done)
          ]
        ];
        ordered = ordered_alone o.flushed flushed o.buffered after [] old_or_new (λ f held delayed. inl (still_pushed o.buffered p own at f.operation.step d delayed)) o.pended known.ordered refl;
        persisted = λ q held. persisted_more q (known.persisted q held);
      }

-- ---- an entry leaves a store buffer

module _ (run : List Seen) (p i : ℕ) (entry : Entry) (o : Origins) (own a b : List Delayed) (d : Delayed) (at : slice_get o.buffered p ≡ Some own) (split : own ≡ a ++ d ∷ b) (is : d.entry ≡ entry)
    (noted : AreNoted run o) (known : AreInOrder run o) where
  abbrev longer : List Seen
  longer = run ++ Left p i entry ∷ []

  abbrev after : List (List Delayed)
  after = slice_set o.buffered p (a ++ b)

  by : IsDelayedBy run p d
  by = noted.buffered p own d at (subst (λ (xs : List Delayed). Contains xs d) (sym split) (Contains-append_right a (d ∷ b) d (first_here d b)))

  left_here : (processor : ℕ) (puts : PendingEntry) → p ≡ processor → entry_put d.entry ≡ Some puts → IsLeftAt longer (length run) processor puts
  left_here processor puts own_is put_is = record {
    place = i;
    buffered = entry;
    shown = shown_here run (Left p i entry) refl ∙ ap (λ (k : ℕ). Some (Left k i entry)) own_is;
    puts = ap (λ (x : Entry). entry_put x) (sym is) ∙ put_is;
  }

  -- a flush of its step is this entry
  flush_is : (f : Flushed) → Contains o.flushed f → d.operation.step ≡ f.operation.step → (p ≡ f.operation.site.processor) × (entry_put d.entry ≡ Some (Marker f.line))
  flush_is f held same =
      let ran = noted.flushed f held in
      let shown : slice_get run f.operation.step ≡ Some (Ran p d.operation.site.place (Delay d.entry)) = subst (λ (k : ℕ). slice_get run k ≡ Some (Ran p d.operation.site.place (Delay d.entry))) same by.shown in
      delayed_flush run f.operation.step p d.operation.site.place f.line d.entry f.operation.site ran.ran.act shown ran.ran.shown ran.ran.puts

  done_left : (f : Flushed) → Contains o.flushed f → IsDelayed after f ⊎ IsFlushDone longer f
  done_left f held =
      elim (known.done f held) [
        | inr done ↦ inr (done_more run (Left p i entry) refl f done)
        | inl delayed ↦ elim (cases_Bool (d.operation.step == f.operation.step)) [
          | inr other ↦ inl (still_left o.buffered p own at f.operation.step a b d split other delayed)
          | inl same ↦
              let (own_is, put_is) = flush_is f held (eqb-true d.operation.step f.operation.step same) in
              inr (record { step = length run; left = left_here f.operation.site.processor (Marker f.line) own_is put_is; since = since_here run (Left p i entry) refl })
        ]
      ]

  stays_left : (tail : List Pended) → ((f : Flushed) → entry_put d.entry ≡ Some (Marker f.line) → IsMarked f.line tail) → (f : Flushed) → Contains o.flushed f → IsDelayed o.buffered f → IsDelayed after f ⊎ IsMarked f.line tail
  stays_left tail marked f held delayed =
      elim (cases_Bool (d.operation.step == f.operation.step)) [
        | inr other ↦ inl (still_left o.buffered p own at f.operation.step a b d split other delayed)
        | inl same ↦ inr (marked f (flush_is f held (eqb-true d.operation.step f.operation.step same)).1)
      ]

  leaves_with : (tail : List Pended) → ((f : Flushed) → entry_put d.entry ≡ Some (Marker f.line) → IsMarked f.line tail) → AreOrdered longer o.flushed after tail
      → AreInOrder longer (record o { buffered = after; pended = o.pended ++ tail })
  leaves_with tail marked new = record {
    done = done_left;
    ordered = ordered_behind run (Left p i entry) refl o.flushed o.flushed o.buffered after tail (λ f held. inl held) (stays_left tail marked) o.pended known.ordered new;
    persisted = λ q held. persisted_more run (Left p i entry) refl q (known.persisted q held);
  }

  -- the written entry, behind each flush that is not buffered any more
  write_ordered : (word value : ℕ) → d.entry ≡ entries.Write word value → AreOrdered longer o.flushed after (record { entry = Write word value; operation = d.operation } ∷ [])
  write_ordered word value writes =
      let put_is : entry_put d.entry ≡ Some (Write word value) = ap (λ (x : Entry). entry_put x) writes in
      let ran = by.puts (Write word value) put_is in
      let own_is = delayed_own run d.operation.step p d.operation.site.place d.entry d.operation.site ran.ran.act by.shown ran.ran.shown in (
        λ f w v held here on. elim (known.done f held) [
          | inr done ↦ inr (inr (record {
            first = done.step;
            next = length run;
            flushed = left_more run (Left p i entry) refl done.step f.operation.site.processor (Marker f.line) done.left;
            since = since_left run (Left p i entry) refl done.step f.operation.site.processor (Marker f.line) done.left done.since;
            written = inl (left_here d.operation.site.processor (Write word value) own_is put_is);
            before = slice_get_within run done.step (Left f.operation.site.processor done.left.place done.left.buffered) done.left.shown;
          }))
          | inl delayed ↦ elim (stays_left [] (λ g marks. absurd (no_marker g marks put_is)) f held delayed) [
            | inl still ↦ inl still
            | inr marked ↦ absurd (nothing_here marked.0 marked.1)
          ]
        ],
        tt,
      )
    where
      no_marker : (g : Flushed) → entry_put d.entry ≡ Some (Marker g.line) → entry_put d.entry ≡ Some (Write word value) → ⊥
      no_marker g marks put_is = let bad : ◌≡◌ {A = Option PendingEntry} (Some (Marker g.line)) (Some (Write word value)) = sym marks ∙ put_is in absurd cc

  marks_line : (line : ℕ) → entry_put d.entry ≡ Some (Marker line) → (f : Flushed) → entry_put d.entry ≡ Some (Marker f.line) → IsMarked f.line (record { entry = Marker line; operation = d.operation } ∷ [])
  marks_line line put_is f marks =
      let same : ◌≡◌ {A = Option PendingEntry} (Some (Marker line)) (Some (Marker f.line)) = sym put_is ∙ marks in
      let m : Pended = record { entry = Marker line; operation = d.operation } in
      (m, first_here m [], cc)

  line_ordered : (line : ℕ) → AreOrdered longer o.flushed after (record { entry = Marker line; operation = d.operation } ∷ [])
  line_ordered line = (λ f w v held here on. absurd cc, tt)

  leaves_as : (x : Entry) → d.entry ≡ x → AreInOrder longer (put_as x d.operation (record o { buffered = after }))
  leaves_as (entries.Write word value) e =
      leaves_with (record { entry = Write word value; operation = d.operation } ∷ []) (λ f marks. (
      let bad : ◌≡◌ {A = Option PendingEntry} (Some (Marker f.line)) (Some (Write word value)) = sym marks ∙ ap (λ (x : Entry). entry_put x) e in
      absurd cc
      )) (write_ordered word value e)
  leaves_as (entries.Flush line) e =
      leaves_with (record { entry = Marker line; operation = d.operation } ∷ []) (marks_line line (ap (λ (x : Entry). entry_put x) e)) (line_ordered line)
  leaves_as (entries.FlushOpt line) e =
      leaves_with (record { entry = Marker line; operation = d.operation } ∷ []) (marks_line line (ap (λ (x : Entry). entry_put x) e)) (line_ordered line)
  leaves_as entries.Sfence e = record {
    done = done_left;
    ordered = ordered_alone run (Left p i entry) refl o.flushed o.flushed o.buffered after [] (λ f held. inl held) (stays_left [] (λ f marks. (
        let bad : ◌≡◌ {A = Option PendingEntry} (Some (Marker f.line)) None = sym marks ∙ ap (λ (x : Entry). entry_put x) e in
        absurd cc
        ))) o.pended known.ordered refl;
    persisted = λ q held. persisted_more run (Left p i entry) refl q (known.persisted q held);
  }

-- ---- each step

left_known : (run : List Seen) (o : Origins) (s : State) (p i : ℕ) (c : Processor) (entry : Entry) (earlier later : List Entry) → AreOrigins o s → slice_get s.processors p ≡ Some c → c.buffer ≡ earlier ++ entry ∷ later → length earlier ≡ i
    → AreNoted run o → AreInOrder run o → AreInOrder (run ++ Left p i entry ∷ []) (left_by p i o)
left_known run o s p i c entry earlier later kept there whole place noted known =
    let x = drained o s p i c entry earlier later kept there whole place in
    let here = leaves_as run p i entry o x.own x.a x.b x.d x.at x.split x.is noted known x.d.entry refl in
    let released : AreInOrder (run ++ Left p i entry ∷ []) (put_as x.d.entry x.d.operation (released_by p i o)) =
    subst (λ (ds : List Delayed). AreInOrder (run ++ Left p i entry ∷ []) (put_as x.d.entry x.d.operation (record o { buffered = slice_set o.buffered p ds }))) (sym x.removed) here in
    subst (λ (f : Option Delayed). AreInOrder (run ++ Left p i entry ∷ []) (option_map_or (λ (y : Delayed). put_as y.entry y.operation (released_by p i o)) f o)) (sym x.found) released

delay_known : (run : List Seen) (o : Origins) (s : State) (p place : ℕ) (c : Processor) (entry : Entry) → AreOrigins o s → slice_get s.processors p ≡ Some c → AreInOrder run o
    → AreInOrder (run ++ Ran p place (Delay entry) ∷ []) (executed_by p (record { entry = entry; operation = operation_at (length run) o p place }) o)
delay_known run o s p place c entry kept there known = by_entry entry
  where
    f : Operation
    f = operation_at (length run) o p place

    at_own : (own : List Delayed) × (slice_get o.buffered p ≡ Some own)
    at_own = let x = buffer_kept o s p c kept there in (x.0, x.1)

    -- the store buffer with one entry more
    goes_in : (x : Entry) (flushed : List Flushed) → ((g : Flushed) → Contains flushed g → Contains o.flushed g ⊎ (f.step ≡ g.operation.step))
        → AreInOrder (run ++ Ran p place (Delay x) ∷ []) (record o { buffered = slice_set o.buffered p (delayed_of p o ++ record { entry = x; operation = f } ∷ []); flushed = flushed })
    goes_in x flushed cases =
        let own_is : at_own.0 ≡ delayed_of p o = ap (λ (found : Option (List Delayed)). unwrap_or found []) (sym at_own.1) in
        subst (λ (own : List Delayed). AreInOrder (run ++ Ran p place (Delay x) ∷ []) (record o { buffered = slice_set o.buffered p (own ++ record { entry = x; operation = f } ∷ []); flushed = flushed })) own_is
        (delays run (Ran p place (Delay x)) refl o p at_own.0 (record { entry = x; operation = f }) flushed at_own.1 cases known)

    flushes : (line : ℕ) (g : Flushed) → Contains (o.flushed ++ record { line = line; operation = f } ∷ []) g → Contains o.flushed g ⊎ (f.step ≡ g.operation.step)
    flushes line g held =
        elim (Contains-push_cases o.flushed (record { line = line; operation = f }) g held) [
          | inl old ↦ inl old
          | inr same ↦ inr (ap (λ (x : Flushed). x.operation.step) same)
        ]

    by_entry : (x : Entry) → AreInOrder (run ++ Ran p place (Delay x) ∷ []) (executed_by p (record { entry = x; operation = f }) o)
    by_entry (entries.Write word value) = goes_in (entries.Write word value) o.flushed (λ g held. inl held)
    by_entry (entries.Flush line) = goes_in (entries.Flush line) (o.flushed ++ record { line = line; operation = f } ∷ []) (flushes line)
    by_entry (entries.FlushOpt line) = goes_in (entries.FlushOpt line) (o.flushed ++ record { line = line; operation = f } ∷ []) (flushes line)
    by_entry entries.Sfence = goes_in entries.Sfence o.flushed (λ g held. inl held)

act_known : (run : List Seen) (o : Origins) (s : State) (p place : ℕ) (c : Processor) (act : Act) → AreOrigins o s → slice_get s.processors p ≡ Some c → AreInOrder run o
    → AreInOrder (run ++ Ran p place act ∷ []) (act_noted p act (operation_at (length run) o p place) o)
act_known run o s p place c (Delay entry) kept there known = delay_known run o s p place c entry kept there known
act_known run o s p place c (Locked word value (Some written)) kept there known =
    locks run (Ran p place (Locked word value (Some written))) refl o word written (operation_at (length run) o p place) known
    (inr (record { place = place; word = word; value = value; written = written; shown = shown_here run (Ran p place (Locked word value (Some written))) refl; writes = refl }))
act_known run o s p place c (Locked word value None) kept there known = quiet run (Ran p place (Locked word value None)) refl o known
act_known run o s p place c Local kept there known = quiet run (Ran p place Local) refl o known
act_known run o s p place c Fence kept there known = quiet run (Ran p place Fence) refl o known
act_known run o s p place c (Read word value) kept there known = quiet run (Ran p place (Read word value)) refl o known
act_known run o s p place c (Trap address) kept there known = quiet run (Ran p place (Trap address)) refl o known

persist_known : (run : List Seen) (o : Origins) (s : State) (word value line : ℕ) (before later : List PendingEntry) → AreOrigins o s → s.memory.pending ≡ before ++ Write word value ∷ later → line_of word ≡ line
    → list_any (is_write_on line) before ≡ false → AreInOrder run o → AreInOrder (run ++ Persisted word value ∷ []) (origins_next (length run) o (Persisted word value))
unfolding origins_next
persist_known run o s word value line before later kept whole on none known =
    let seen = Persisted word value in
    let none_here : list_any (is_write_on (line_of word)) before ≡ false = subst (λ (l : ℕ). list_any (is_write_on l) before ≡ false) (sym on) none in
    let g = goes_first (is_write_on (line_of word)) o.pended before later (Write word value) (kept.pending ∙ whole) none_here (eq-eqb (line_of word) (line_of word) refl) in
    let still = quiet run (Persisted word value) refl o known in
    let free : (l : ℕ) → g.p.entry ≡ Marker l → list_any (is_write_on l) (pending_of g.a) ≡ false = λ l marks. (let bad : Write word value ≡ Marker l = sym g.here ∙ marks in absurd cc) in
    let left = ordered_without run (Persisted word value) refl o.flushed o.buffered g.a g.b g.p free (subst (λ (qs : List Pended). AreOrdered run o.flushed o.buffered qs) g.split known.ordered) in
    record {
      done = still.done;
      ordered = subst (λ (qs : List Pended). AreOrdered (run ++ Persisted word value ∷ []) o.flushed o.buffered qs) (sym g.gone) left;
      persisted = λ q held. elim (Contains-append_cases o.persisted (first_alone (is_write_on (line_of word)) o.pended) q held) [
        | inl old ↦ still.persisted q old
        | inr new ↦ elim (either g.p q [] (subst (λ (qs : List Pended). Contains qs q) g.alone new)) [
          | inr later ↦ absurd (nothing_here q later)
          | inl same ↦ record {
            word = word;
            value = value;
            entry = ap (λ (x : Pended). x.entry) (sym same) ∙ g.here;
            persisted = record { step = length run; shown = shown_here run (Persisted word value) refl; since = since_here run (Persisted word value) refl };
          }
        ]
      ];
    }

settle_known : (run : List Seen) (o : Origins) (s : State) (line : ℕ) (before later : List PendingEntry) → AreOrigins o s → s.memory.pending ≡ before ++ Marker line ∷ later → list_any is_marker before ≡ false
    → list_any (is_write_on line) before ≡ false → AreInOrder run o → AreInOrder (run ++ Settled line ∷ []) (origins_next (length run) o (Settled line))
unfolding origins_next
settle_known run o s line before later kept whole none no_write known =
    let g = goes_first is_marker o.pended before later (Marker line) (kept.pending ∙ whole) none refl in
    let still = quiet run (Settled line) refl o known in
    let free : (l : ℕ) → g.p.entry ≡ Marker l → list_any (is_write_on l) (pending_of g.a) ≡ false = λ l marks. (
    let one : Marker line ≡ Marker l = sym g.here ∙ marks in
    let same : line ≡ l = cc in
    ap (λ (es : List PendingEntry). list_any (is_write_on l) es) g.front ∙ subst (λ (k : ℕ). list_any (is_write_on k) before ≡ false) same no_write
    ) in
    let left = ordered_without run (Settled line) refl o.flushed o.buffered g.a g.b g.p free (subst (λ (qs : List Pended). AreOrdered run o.flushed o.buffered qs) g.split known.ordered) in
    record {
      done = still.done;
      ordered = subst (λ (qs : List Pended). AreOrdered (run ++ Settled line ∷ []) o.flushed o.buffered qs) (sym g.gone) left;
      persisted = still.persisted;
    }

crash_known : (run : List Seen) (count n : ℕ) (o : Origins) → AreInOrder (run ++ Crashed count ∷ []) (origins_next n o (Crashed count))
unfolding origins_next
crash_known run count n o = record { done = λ f held. absurd (nothing_here f held); ordered = tt; persisted = λ q held. absurd (nothing_here q held) }

ran_known : (run : List Seen) (o : Origins) (p place : ℕ) (act : Act) → AreInOrder (run ++ Ran p place act ∷ []) (act_noted p act (operation_at (length run) o p place) o) → AreInOrder (run ++ Ran p place act ∷ []) (origins_next (length run) o (Ran p place act))
unfolding origins_next
ran_known run o p place act known = known

gone_known : (run : List Seen) (o : Origins) (p i : ℕ) (entry : Entry) → AreInOrder (run ++ Left p i entry ∷ []) (left_by p i o) → AreInOrder (run ++ Left p i entry ∷ []) (origins_next (length run) o (Left p i entry))
unfolding origins_next
gone_known run o p i entry known = known

by_seen : (run : List Seen) (o : Origins) (seen shown : Seen) → seen ≡ shown → AreInOrder (run ++ shown ∷ []) (origins_next (length run) o shown) → AreInOrder (run ++ seen ∷ []) (origins_next (length run) o seen)
by_seen run o seen shown e known = subst (λ (x : Seen). AreInOrder (run ++ x ∷ []) (origins_next (length run) o x)) (sym e) known

step_known : (run : List Seen) (o : Origins) (s t : State) (step : Step) (seen : Seen) → AreOrigins o s → AreNoted run o → AreInOrder run o → step_of s step ≡ Ok (seen, t) → AreInOrder (run ++ seen ∷ []) (origins_next (length run) o seen)
step_known run o s t (Exec p) seen kept noted known e =
    let x = exec_only s t p seen e in
    by_seen run o seen (Ran p x.before.place x.act) x.shown (ran_known run o p x.before.place x.act (act_known run o s p x.before.place x.before x.act kept x.there known))
step_known run o s t (Drain p i) seen kept noted known e =
    let x = drain_only s t p i seen e in
    by_seen run o seen (Left p i x.entry) x.shown (gone_known run o p i x.entry (left_known run o s p i x.before x.entry x.earlier x.later kept x.there x.split.whole x.split.place noted known))
step_known run o s t (Persist line) seen kept noted known e =
    let x = persist_only s t line seen e in
    by_seen run o seen (Persisted x.word x.value) x.shown (persist_known run o s x.word x.value line x.before x.later kept x.split.whole x.split.on_line x.split.no_write known)
step_known run o s t Settle seen kept noted known e =
    let x = settle_only s t seen e in
    by_seen run o seen (Settled x.line) x.shown (settle_known run o s x.line x.before x.later kept x.split.whole x.split.no_marker x.split.no_write known)
step_known run o s t Crash seen kept noted known e =
    let x = crash_is s t seen e in
    by_seen run o seen (Crashed (s.crashes + 1)) x.0 (crash_known run (s.crashes + 1) (length run) o)

-- ---- runs

run_known : (steps : List Step) (run : List Seen) (n : ℕ) (o : Origins) (s : State) → n ≡ length run → AreOrigins o s → AreNoted run o → AreInOrder run o → AreInOrder (run ++ trace_of steps s) (origins_on n o (trace_of steps s))
run_known [] run n o s e kept noted known = subst (λ (ss : List Seen). AreInOrder ss o) (sym (append-nil run)) known
run_known (step ∷ steps) run n o s e kept noted known =
    elim (cases_step (step_of s step)) [
      | inr refused ↦ rw refused.1 (subst (λ (ss : List Seen). AreInOrder ss o) (sym (append-nil run)) known)
      | inl did ↦
          let seen = did.0 in
          let t = did.1 in
          let next = subst (λ (k : ℕ). AreInOrder (run ++ did.0 ∷ []) (origins_next k o did.0)) (sym e) (step_known run o s did.1 step did.0 kept noted known did.2) in
          let noted_next = subst (λ (k : ℕ). AreNoted (run ++ did.0 ∷ []) (origins_next k o did.0)) (sym e) (next_noted run o did.0 noted) in
          let more : n + 1 ≡ length (run ++ did.0 ∷ []) = omega (arith, e, length-append run (did.0 ∷ [])) in
          let rest = run_known steps (run ++ did.0 ∷ []) (n + 1) (origins_next n o did.0) did.1 more (step_keeps n o s did.1 step did.0 kept did.2) noted_next next in
          rw did.2 (subst (λ (ss : List Seen). AreInOrder ss (origins_on (n + 1) (origins_next n o did.0) (trace_of steps did.1))) (append_assoc run (did.0 ∷ []) (trace_of steps did.1)) rest)
    ]

pub effects_in_order : (object : Object) (steps : List Step) → AreInOrder (trace_of steps (opening object)) (origins_of object steps)
effects_in_order object steps =
    run_known steps [] 0 (no_origins (length object.processors)) (opening object) refl (opened object) (none_noted object)
    (record { done = λ f held. absurd (nothing_here f held); ordered = tt; persisted = λ q held. absurd (nothing_here q held) })

-- ---- a pending write

-- what is known of one at a place
pub ordered_at : (run : List Seen) (flushed : List Flushed) (buffered : List (List Delayed)) (pended : List Pended) (i : ℕ) (q : Pended) → AreOrdered run flushed buffered pended → slice_get pended i ≡ Some q
    → IsOrdered run flushed buffered q (drop (i + 1) pended)
ordered_at run flushed buffered [] i q all at = absurd cc
ordered_at run flushed buffered (x ∷ rest) zero q all at = let same : x ≡ q = cc in subst (λ (y : Pended). IsOrdered run flushed buffered y rest) same all.0
ordered_at run flushed buffered (x ∷ rest) (suc i) q all at =
    let more : suc (i + 1) ≡ suc i + 1 = omega arith in
    subst (λ (k : ℕ). IsOrdered run flushed buffered q (drop k (x ∷ rest))) more (ordered_at run flushed buffered rest i q all.1 at)
