-- Whether processors have ended, one after another; and the end of a state whose processors have.
use Rattle.std.proofs.Common.{◌≡◌, ℕ, zero, suc, ◌+◌, ◌<◌, ◌≤◌, inl, inr, Bool, true, false, Option, Some, None, List, [], ◌∷◌, ◌++◌, map, length, drop, refl, sym, ap, subst, ◌∙◌, arith, true≢false}
use Rattle.std.proofs.lemmas.Bool.{and_parts}
use Rattle.std.specs.Prelude.{◌⊎◌, ◌&&◌, slice_get, if◌then◌else◌}
use Rattle.std.specs.List.{list_all}
use Rattle.std.specs.Option.{option_map_or}
use Rattle.machine.specs.declared.step.Step.{Step}
use Rattle.machine.specs.Limits.{max_turns}
use Rattle.machine.specs.State.{Processor, State}
use Rattle.persist_buffer.specs.State.{Memory}
use Rattle.conditions.specs.Formulas.{Formula}
use Rattle.images.specs.Images.{image_at}
use Rattle.images.proofs.StepsReach.{lines_within}
use Rattle.explore.specs.declared.node.Node.{Node}
use Rattle.explore.specs.declared.question.Question.{Question}
use Rattle.explore.specs.declared.verdict.Asked.{Asked}
use Rattle.explore.specs.declared.verdict.Failure.{Failure}
use Rattle.explore.specs.declared.visit.Stop.{Stop}
use Rattle.explore.specs.declared.visit.Stop.TheVariants.{Fails}
use Rattle.explore.specs.Ahead.{counts_locals, may_pass}
use Rattle.explore.specs.Ends.{all_run_as, has_ended, holds_at, is_met, runs_as}
use Rattle.explore.specs.Explored.{IsEndNode, ended, have_ended}
use Rattle.explore.specs.Falls.{step_for}
use Rattle.explore.specs.Found.{Found, led_to, moves_of, tries_of}
use Rattle.explore.specs.declared.gathered.Gathered.{Gathered}
use Rattle.explore.specs.Gathered.{IsNoted, ends_at, if_asked, runs_behind_all, with_images}
use Rattle.explore.specs.Outcomes.{outcome_of}
use Rattle.explore.specs.Questions.{FailsBy, IsFalseEnd}
use Rattle.explore.specs.Reachable.{IsRun}
use Rattle.explore.specs.Sets.{included, included_all}
use Rattle.explore.specs.Sound.{IsSound}
use Rattle.explore.specs.Visits.{AreEndsSeen, AreKept, AreKeptOr, GoesOn, GoesOnIf, HasTurns, IsEndSeen, IsLook, IsStop, IsWhole, ask_of, asked_at, fallen_if}
use Rattle.explore.proofs.EndsAreNodes.{Empties, empties, quiet_too}
use Rattle.explore.proofs.EndsByNodes.{holds_at_end, outcome_at_end}
use Rattle.explore.proofs.Visits.{longer_run, path_then}

-- ---- one after another

abbrev Rest : Bool → List Processor → Bool
Rest recovered cpus = list_all has_ended cpus && all_run_as recovered cpus

abbrev First : (Processor → Bool) → List Processor → ℕ → Bool
First f cpus p = option_map_or f (slice_get cpus p) true

pub goes_on : (recovered : Bool) (cpus : List Processor) (p : ℕ) → First has_ended cpus p ≡ true → First (runs_as recovered) cpus p ≡ true → Rest recovered (drop (p + 1) cpus) ≡ Rest recovered (drop p cpus)
goes_on recovered [] p e r = ap (Rest recovered) (dropped (p + 1) ∙ sym (dropped p))
  where
    dropped : (n : ℕ) → drop {A = Processor} n [] ≡ []
    dropped zero = refl
    dropped (suc n) = refl
goes_on recovered (c ∷ cpus) zero e r = sym (rw (e, r) refl)
goes_on recovered (c ∷ cpus) (suc p) e r = ap (λ (n : ℕ). Rest recovered (drop n (c ∷ cpus))) next ∙ goes_on recovered cpus p e r
  where
    next : suc p + 1 ≡ suc (p + 1)
    next = omega arith

pub stops_ended : (recovered : Bool) (cpus : List Processor) (p : ℕ) → First has_ended cpus p ≡ false → Rest recovered (drop p cpus) ≡ false
stops_ended recovered [] p e = absurd (true≢false e)
stops_ended recovered (c ∷ cpus) zero e = rw e refl
stops_ended recovered (c ∷ cpus) (suc p) e = stops_ended recovered cpus p e

pub stops_mode : (recovered : Bool) (cpus : List Processor) (p : ℕ) → First (runs_as recovered) cpus p ≡ false → Rest recovered (drop p cpus) ≡ false
stops_mode recovered [] p e = absurd (true≢false e)
stops_mode recovered (c ∷ cpus) zero e = rw e (no_and (list_all has_ended (c ∷ cpus)))
  where
    no_and : (b : Bool) → (b && false) ≡ false
    no_and true = refl
    no_and false = refl
stops_mode recovered (c ∷ cpus) (suc p) e = stops_mode recovered cpus p e

pub all_done : (recovered : Bool) (cpus : List Processor) (p : ℕ) → length cpus ≤ p → Rest recovered (drop p cpus) ≡ true
all_done recovered [] zero past = refl
all_done recovered [] (suc p) past = refl
all_done recovered (c ∷ cpus) zero past = absurd (omega (arith, past))
all_done recovered (c ∷ cpus) (suc p) past = all_done recovered cpus p (omega (arith, past))

pub less_or_same : (a b : ℕ) → a < b → a ≤ b
less_or_same a b less = omega (arith, less)

-- ---- the end of a state

emptied : (s : State) → IsSound s → s.turns + length s.memory.pending ≤ max_turns → Empties s (map step_for s.memory.pending)
emptied s sound room = empties s.memory.pending s refl (lines_within s sound.within) room

-- a state whose processors have ended, and its end
pub is_its_end : (recovered : Bool) (s : State) → IsSound s → s.turns + length s.memory.pending ≤ max_turns → have_ended recovered s ≡ true → IsEndNode recovered s (led_to s (map step_for s.memory.pending))
is_its_end recovered s sound room done = let p = emptied s sound room in record { ended = done; shape = p.shape; processors = p.processors; memory = p.memory }

-- ---- what a look at it tells

none_is_some : {A : Type 0} (x : A) → ◌≡◌ {A = Option A} None (Some x) → ⊥
none_is_some x e = absurd (cc)

some_is_none : {A : Type 0} (x : A) → ◌≡◌ {A = Option A} (Some x) None → ⊥
some_is_none x e = absurd (cc)

one_some : {A : Type 0} (x y : A) → ◌≡◌ {A = Option A} (Some x) (Some y) → x ≡ y
one_some x y e = cc

pub seen_not : (question : Question) (recovered : Bool) (s : State) (path : List Step) (old new : List (List ℕ)) → have_ended recovered s ≡ false → new ≡ old → IsEndSeen question recovered s path old None new
seen_not question recovered s path old new none same = record {
  noted = same ∙ sym (ap (included_all old) (no_outcome (have_ended recovered s) (outcome_of (ended s)) none));
  kept = λ stop condition asked done. absurd (true≢false (sym done ∙ none));
  stops = λ by e. absurd (none_is_some by e);
}
  where
    no_outcome : (b : Bool) (o : List ℕ) → b ≡ false → (if b then o ∷ [] else []) ≡ []
    no_outcome b o is = rw is refl

module _ (question : Question) (recovered : Bool) (s : State) (path : List Step) (old new : List (List ℕ)) (sound : IsSound s) (turns : HasTurns s) (done : have_ended recovered s ≡ true)
    (is_new : new ≡ included old (outcome_of (led_to s (map step_for s.memory.pending)))) where
  steps : List Step
  steps = map step_for s.memory.pending

  room : s.turns + length s.memory.pending ≤ max_turns
  room = less_or_same _ _ turns

  node : IsEndNode recovered s (led_to s (map step_for s.memory.pending))
  node = is_its_end recovered s sound room done

  is_noted : new ≡ included_all old (ends_at recovered s)
  is_noted = is_new ∙ ap (included old) (outcome_at_end recovered s (led_to s (map step_for s.memory.pending)) node) ∙ sym (ap (included_all old) (an_outcome (have_ended recovered s) (outcome_of (ended s)) done))
    where
      an_outcome : (b : Bool) (o : List ℕ) → b ≡ true → (if b then o ∷ [] else []) ≡ o ∷ []
      an_outcome b o is = rw is refl

  pub seen_true : ((condition : Formula) → asked_at recovered question ≡ Some condition → holds_at condition (led_to s (map step_for s.memory.pending)) ≡ true) → IsEndSeen question recovered s path old None new
  seen_true holds = record {
    noted = is_noted;
    kept = λ stop condition asked ends. sym (holds_at_end recovered condition s (led_to s (map step_for s.memory.pending)) node) ∙ holds condition asked;
    stops = λ by e. absurd (none_is_some by e);
  }

  module _ (condition : Formula) (failure : Failure) (asked : asked_at recovered question ≡ Some condition) (fails : holds_at condition (led_to s (map step_for s.memory.pending)) ≡ false)
      (which : failure.asked ≡ ask_of recovered) (values : failure.values ≡ image_at (led_to s (map step_for s.memory.pending)).shape (led_to s (map step_for s.memory.pending)).memory.persisted)
      (run : failure.run ≡ path ++ map step_for s.memory.pending) where
    false_end : (start : State) → IsRun question.crashes path start s → IsFalseEnd question.crashes recovered condition start failure.run failure.values
    false_end start ran =
        let p = emptied s sound room in
        let parts = and_parts (list_all has_ended s.processors) (all_run_as recovered s.processors) done in
        let whole_run = subst (λ (r : List Step). IsRun question.crashes r start (led_to start r)) (sym run) (longer_run question.crashes start s path (map step_for s.memory.pending) ran (quiet_too question.crashes (map step_for s.memory.pending) p.crashes) p.accepted) in
        let leads : led_to start failure.run ≡ led_to s (map step_for s.memory.pending) = ap (led_to start) run ∙ (path_then start s path (map step_for s.memory.pending) ran.accepted ran.leads).1 in
        record {
          is_run = whole_run;
          end = record {
            reached = (failure.run, whole_run);
            end = record {
              processors = ap (λ (x : State). list_all has_ended x.processors) leads ∙ ap (list_all has_ended) p.processors ∙ parts.0;
              pending = ap (λ (x : State). x.memory.pending) leads ∙ ap (λ (m : Memory). m.pending) p.memory;
            };
            mode = ap (λ (x : State). all_run_as recovered x.processors) leads ∙ ap (all_run_as recovered) p.processors ∙ parts.1;
          };
          false_there = ap (holds_at condition) leads ∙ fails;
          shown = values ∙ sym (ap (λ (x : State). image_at x.shape x.memory.persisted) leads);
        }

    stops_so : IsStop question s path (Fails failure)
    stops_so start limit ran = subst (λ (a : Asked). FailsBy a question start failure.run failure.values) (sym which) (by recovered asked (false_end start ran))
      where
        by : (b : Bool) → asked_at b question ≡ Some condition → IsFalseEnd question.crashes b condition start failure.run failure.values → FailsBy (ask_of b) question start failure.run failure.values
        by false is_asked end = (condition, is_asked, end)
        by true is_asked end = (condition, is_asked, end)

    pub seen_false : IsEndSeen question recovered s path old (Some (Fails failure)) new
    seen_false = record {
      noted = is_noted;
      kept = λ stop. absurd (some_is_none (Fails failure) stop);
      stops = λ by e. subst (IsStop question s path) (one_some (Fails failure) by e) stops_so;
    }

-- ---- whether a condition is met, if there is one

pub met_each : (asked : Option Formula) (t : State) (condition : Formula) → is_met asked t ≡ true → asked ≡ Some condition → holds_at condition t ≡ true
met_each None t condition met is = absurd (none_is_some condition is)
met_each (Some f) t condition met is = ap (λ (g : Formula). holds_at g t) (sym (one_some f condition is)) ∙ met

pub unmet_one : (asked : Option Formula) (t : State) → is_met asked t ≡ false → (condition : Formula) × (asked ≡ Some condition) × (holds_at condition t ≡ false)
unmet_one None t unmet = absurd (true≢false unmet)
unmet_one (Some f) t unmet = (f, refl, unmet)

-- ---- both kinds

pub both_seen : (question : Question) (s : State) (path : List Step) (old mid new : Gathered) (stop : Option Stop) → IsEndSeen question false s path old.ends None mid.ends → mid.recovered ≡ old.recovered → mid.images ≡ old.images → mid.ran ≡ old.ran → mid.looked ≡ old.looked
    → IsEndSeen question true s path mid.recovered stop new.recovered → new.ends ≡ mid.ends → new.images ≡ mid.images → new.ran ≡ mid.ran → new.looked ≡ mid.looked → AreEndsSeen question s path old stop new
both_seen question s path old mid new stop one same_recovered same_images same_ran same_looked other same_ends still_images still_ran still_looked = record {
  noted = λ none. record {
    ends = same_ends ∙ one.noted;
    recovered = other.noted ∙ ap (λ (xs : List (List ℕ)). included_all xs (ends_at true s)) same_recovered;
    images = still_images ∙ same_images;
    ran = still_ran ∙ same_ran;
  };
  looked = λ none. still_looked ∙ same_looked;
  ends = λ none condition asked done. one.kept refl condition asked done;
  recovered = λ none condition asked done. other.kept none condition asked done;
  stops = λ by e. other.stops by e;
}

pub first_stops : (question : Question) (s : State) (path : List Step) (old new : Gathered) (stop : Stop) (xs ys : List (List ℕ)) → IsEndSeen question false s path xs (Some stop) ys → AreEndsSeen question s path old (Some stop) new
first_stops question s path old new stop xs ys seen = record {
  noted = λ none. absurd (some_is_none stop none);
  looked = λ none. absurd (some_is_none stop none);
  ends = λ none. absurd (some_is_none stop none);
  recovered = λ none. absurd (some_is_none stop none);
  stops = λ by e. seen.stops by e;
}

-- ---- the whole look at a state

-- What runs behind a state was noted, and then what ends give, and then images.
all_noted : (s : State) (images runs ran looked : List (List ℕ)) (before mid : Gathered) → ran ≡ included_all before.ran runs → IsNoted s [] [] (record before { ran = ran; looked = looked }) mid
    → IsNoted s images runs before (with_images mid images)
all_noted s images runs ran looked before mid is seen = record {
  ends = seen.ends;
  recovered = seen.recovered;
  images = ap (λ (xs : List (List ℕ)). included_all xs images) seen.images;
  ran = seen.ran ∙ is;
}

pub turns_or : (left : Bool) (question : Question) (s : State) (images : List (List ℕ)) → AreKeptOr left question s images → HasTurns s
turns_or false question s images kept = kept.turns
turns_or true question s images none = none.0

pub look_turns : (left once : Bool) (question : Question) (s : State) (images was looked : List (List ℕ)) → IsLook left once question s images was looked → HasTurns s
look_turns left once question s images was looked (inl (kept, same)) = turns_or left question s images kept
look_turns left once question s images was looked (inr (inl kept, more)) = kept.turns
look_turns left once question s images was looked (inr (inr again, more)) = again.1

pub whole_by : (question : Question) (s : State) (path : List Step) (images ran looked : List (List ℕ)) (old mid new : Found) (before seen : Gathered) (left : Bool)
    → IsLook left (counts_locals question) question s images before.looked looked
    → (left ≡ true → (may_pass mid.sets question ≡ true) × GoesOn (counts_locals question) s path old mid) → ran ≡ included_all before.ran (runs_behind_all (counts_locals question) s (moves_of s))
    → AreEndsSeen question s path (record before { ran = ran; looked = looked }) None seen → ◌≡◌ {A = Option Step × Found} (tries_of (counts_locals question) s path (moves_of s) old) (None, mid)
    → new ≡ fallen_if question.crashes s path images mid → IsWhole question s path old before new (with_images seen (if_asked question.images images))
whole_by question s path images ran looked old mid new before seen left look goes runs ends tried falls = record {
  images = images;
  mid = mid;
  turns = look_turns left (counts_locals question) question s images before.looked looked look;
  looked = elim look [ inl kept ↦ inl (by left refl kept.0, ends.looked refl ∙ kept.1) | inr once ↦ inr (once.0, ends.looked refl ∙ once.1) ];
  ends = ends.ends refl;
  recovered = ends.recovered refl;
  gives = all_noted s (if_asked question.images images) (runs_behind_all (counts_locals question) s (moves_of s)) ran looked before seen runs (ends.noted refl);
  tried = tried;
  fallen = falls;
}
  where
    by : (b : Bool) → left ≡ b → AreKeptOr b question s images → AreKept question s images ⊎ ((images ≡ []) × (may_pass mid.sets question ≡ true) × GoesOn (counts_locals question) s path old mid)
    by false is kept = inl kept
    by true is none = let (may, on) = goes is in inr (none.1, may, on)

-- where images are left to a later state, they may be, and there is one
pub goes_if : (question : Question) (node : Node) (old mid : Found) (told left sets : Bool) → (left ≡ true → (told && may_pass sets question) ≡ true) → sets ≡ mid.sets → GoesOnIf told (counts_locals question) node old mid
    → left ≡ true → (may_pass mid.sets question ≡ true) × GoesOn (counts_locals question) node.state node.path old mid
goes_if question here old mid told left sets is same on it =
    let both = and_parts told (may_pass sets question) (is it) in
    (ap (λ (b : Bool). may_pass b question) (sym same) ∙ both.1, on both.0)
