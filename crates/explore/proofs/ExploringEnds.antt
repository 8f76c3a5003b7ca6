-- An exploration begins, goes on and ends.
use Rattle.std.proofs.Common.{◌≡◌, ℕ, ◌+◌, ◌<◌, ◌≤◌, inl, inr, Bool, true, false, Option, Some, None, Result, Ok, Err, List, [], ◌∷◌, ◌++◌, length, map, refl, sym, ap, subst, ◌∙◌, arith, length-append, true≢false}
use Rattle.std.proofs.lemmas.Bool.{and_parts, cases_Bool, eqb-true}
use Rattle.std.proofs.lemmas.Bool.Decides.{nat_tests}
use Rattle.pending_images.specs.Changes.{IsReached}
use Rattle.pending_images.proofs.LeastSetsAreFound.{is_least_set}
use Rattle.machine.specs.declared.refusal.Refusal.{Refusal}
use Rattle.machine.specs.declared.step.Seen.{Seen}
use Rattle.machine.specs.declared.step.Step.{Step}
use Rattle.machine.specs.Limits.{max_turns}
use Rattle.machine.specs.Processors.{programs_of}
use Rattle.machine.specs.Programs.{AreSiblings}
use Rattle.machine.specs.State.{State}
use Rattle.machine.specs.Steps.{step_of}
use Rattle.conditions.specs.Formulas.{Formula}
use Rattle.images.specs.Images.{IsImage, IsLeastSet, IsListing, closed_set_of, image_at}
use Rattle.std.specs.Prelude.{◌⊎◌, ◌&&◌, ◌==◌, Contains, is_some, not, nat_lt, slice_get}
use Rattle.std.specs.Option.{option_map_or}
use Rattle.conditions.specs.Truth.{reads_registers}
use Rattle.persist_buffer.specs.declared.entry.PendingEntry.{PendingEntry}
use Rattle.explore.specs.declared.question.Question.{Question}
use Rattle.explore.specs.declared.visit.Stop.{Stop}
use Rattle.explore.specs.Ahead.{AreClosedAhead, AreClosedFrom, CoversAhead, IsAdvanced, IsClosed, IsIdle, IsLookedAt, IsPassed, IsSeen, IsTried, Keeps, by_sets, counts_locals, is_unmixed, may_pass}
use Rattle.explore.specs.Explored.{IsAmong, fallen}
use Rattle.explore.specs.Followed.{first_own, own_end, owns_of}
use Rattle.explore.specs.Findings.{Findings}
use Rattle.explore.specs.Exploring.{AreFound, IsExplored, IsExploring, IsUnderWay, IsVisit, IsVisited}
use Rattle.explore.specs.Found.{Found, added, advanced_if, led_to, moves_of, no_states, nodes_of, tries_of}
use Rattle.explore.specs.declared.gathered.Gathered.{Gathered}
use Rattle.explore.specs.Gathered.{AreGatheredImages, IsGathered, WasLookedAt, WereLookedAt, ends_at, findings_of, if_asked, later_runs, none_gathered, followed_runs, runs_at, visit_runs}
use Rattle.explore.specs.Keys.{key_of, list_key}
use Rattle.explore.specs.Questions.{AreFindings, AreToldApart, IsMany, is_move, is_room}
use Rattle.explore.specs.Reachable.{IsRun}
use Rattle.explore.specs.Sets.{included, included_all}
use Rattle.explore.specs.Sound.{IsOf, IsSound}
use Rattle.explore.specs.Visits.{AreKept, GoesOn, HasTurns, IsStopOf, IsTrial, IsWhole, MayBeToldFor, fallen_if}
use Rattle.explore.proofs.AheadSteps.{gone_restarts, same_restarts}
use Rattle.explore.proofs.ClosedAhead.{kept_by_few}
use Rattle.explore.proofs.CoveredSteps.{sound_whole}
use Rattle.explore.proofs.Endings.{less_or_same}
use Rattle.explore.proofs.EndsByNodes.{no_end_ahead, outcomes_are, ran_is, sound_nodes, there_at, true_at_ends}
use Rattle.explore.proofs.FoundPaths.{Grows, adds, among_more, get_grown, grows_not, grows_then, within_list}
use Rattle.explore.proofs.LaterNodes.{keeps_held, more_passed, takes_moves}
use Rattle.explore.proofs.LookedMemories.{given_again, more_seen, one_looked, seen_again, still_looked}
use Rattle.explore.proofs.Members.{get_mapped, get_of}
use Rattle.explore.proofs.VisitsGathered.{collected, collected_nothing, images_gathered, images_stay, nothing_gathered, same_some}
use Rattle.explore.proofs.ImagesOfRuns.{images_are}
use Rattle.explore.proofs.KeysTell.{alike_keys}
use Rattle.explore.proofs.MovesAreAll.{moves_are_all, moves_move}
use Rattle.explore.proofs.OwnStepsFollowed.{end_covers, end_idle, first_is_own, none_idle, own_accepted, own_quiet, owns_own, some_busy}
use Rattle.explore.proofs.OwnStepsNoted.{nothing_ran}
use Rattle.explore.proofs.SetsHold.{all_has, all_then}
use Rattle.explore.proofs.SoundRuns.{of_itself, run_of_it, step_sound}
use Rattle.explore.proofs.Stops.{lists_asked, lists_crashing}
use Rattle.explore.proofs.Visits.{AreFallen, AreTried, all_fallen, all_tried, longer_run, none_quiet, nothing_there, path_then, same_refusal, step_then}
use Rattle.explore.proofs.WithinMemories.{within_held}
use Rattle.machine.proofs.ProgramsStay.{step_sibling}

longer : (xs ys : List (List Step)) → Grows xs ys → length xs ≤ length ys
longer xs ys (more, is) = let all = ap length is ∙ length-append xs more in omega (arith, all)

-- ---- one more is visited

more_tried : (sets locals : Bool) (question : Question) (start : State) (xs ys : List (List Step)) (r : State) → Grows xs ys → IsTried sets locals question (nodes_of start xs) r → IsTried sets locals question (nodes_of start ys) r
more_tried sets locals question start xs ys r grows tried = record {
  idle = tried.idle;
  expanded = record {
    time = tried.expanded.time;
    moves = λ step seen t move made. among_more sets start xs ys (own_end locals t) grows (tried.expanded.moves step seen t move made);
    room = tried.expanded.room;
  };
  kept = tried.kept;
}

more_looked_at : (sets locals : Bool) (question : Question) (start : State) (xs ys : List (List Step)) (i : ℕ) (r : State) → Grows xs ys → IsLookedAt sets locals question (nodes_of start xs) i r
    → IsLookedAt sets locals question (nodes_of start ys) i r
more_looked_at sets locals question start xs ys i r grows (inl seen) = inl (more_seen sets question start xs ys r grows seen)
more_looked_at sets locals question start xs ys i r grows (inr passed) = inr (passed.0, more_passed locals start xs ys i r grows passed.1)

more_visited : (sets locals : Bool) (question : Question) (start : State) (xs ys : List (List Step)) (i : ℕ) (path : List Step) → Grows xs ys → IsVisited sets locals question start xs i path → IsVisited sets locals question start ys i path
more_visited sets locals question start xs ys i path grows (inl (tried, looked)) =
    inl (more_tried sets locals question start xs ys (led_to start path) grows tried, more_looked_at sets locals question start xs ys i (led_to start path) grows looked)
more_visited sets locals question start xs ys i path grows (inr advanced) =
    inr (record { step = advanced.step; first = advanced.first; there = among_more sets start xs ys (own_end locals (led_to start path)) grows advanced.there })

-- those before stay visited, and so is the next
all_visited : (sets locals : Bool) (question : Question) (start : State) (path : List Step) (old new : Found) (at : ℕ) → IsExploring sets locals question start old at → slice_get old.paths at ≡ Some path → Grows old.paths new.paths
    → IsVisited sets locals question start new.paths at path → (i : ℕ) (other : List Step) → i < at + 1 → slice_get new.paths i ≡ Some other → IsVisited sets locals question start new.paths i other
all_visited sets locals question start path old new at x there grown here i other less at_i =
    let within = within_list old.paths path at there in
    let before : slice_get old.paths i ≡ Some other = sym (get_grown old.paths new.paths i grown (omega (arith, less, within))) ∙ at_i in
    elim (cases_Bool (nat_lt i at)) [
      | inl earlier ↦ more_visited sets locals question start old.paths new.paths i other grown (x.visited i other (grind (arith, nat_tests, earlier)) before)
      | inr last ↦
          let place : at ≡ i = grind (arith, nat_tests, last, less) in
          let same : path ≡ other = same_some path other (sym there ∙ ap (slice_get old.paths) place ∙ before) in
          subst (λ (k : ℕ). IsVisited sets locals question start new.paths k other) place (subst (IsVisited sets locals question start new.paths at) same here)
    ]

-- what falls find, where runs crash
record Fell (sets crashes : Bool) (start s : State) (images : List (List ℕ)) (mid new : Found) : Type 0 where
  found : AreFound sets crashes start new
  grows : Grows mid.paths new.paths
  falls : crashes ≡ true → (image persisted : List ℕ) → Contains images image → IsReached s.memory persisted → image ≡ image_at s.shape persisted → IsAmong sets (nodes_of start new.paths) (fallen s persisted)

-- its images are listed, or left to a later state, or were looked at before
abbrev pub IsListedOrLeft : Bool → Bool → Question → State → State → List Step → List (List ℕ) → Found → Found → Type 0
IsListedOrLeft sets locals question start s path images old mid =
    AreKept question s images ⊎ ((images ≡ []) × (((may_pass mid.sets question ≡ true) × GoesOn locals s path old mid) ⊎ IsSeen sets question (nodes_of start old.paths) s))

module _ (sets locals : Bool) (question : Question) (start s : State) (path : List Step) (images : List (List ℕ)) (old mid new : Found) (at : ℕ) (sound : IsSound start) (x : IsExploring sets locals question start old at)
    (none : first_own locals s ≡ None)
    (there : slice_get old.paths at ≡ Some path) (is : led_to start path ≡ s) (turns : HasTurns s) (looked : IsListedOrLeft sets locals question start s path images old mid) (keeps : Keeps question s)
    (tried : ◌≡◌ {A = Option Step × Found} (tries_of locals s path (moves_of s) old) (None, mid)) (end : new ≡ fallen_if question.crashes s path images mid) where
  ran : IsRun question.crashes path start s
  ran = subst (IsRun question.crashes path start) is (x.found.runs path (there_at old.paths path at there))

  it : IsOf start s
  it = subst (IsOf start) is (run_of_it start path start (of_itself start sound))

  tries : AreTried sets locals question.crashes start s (moves_of s) old mid
  tries = all_tried sets locals question.crashes start s path ran (moves_of s) old mid (moves_move s) x.found tried

  set : (image : List ℕ) → IsLeastSet s image (closed_set_of s image)
  set image = is_least_set s.shape image s.memory it.sound.shape (sound_whole s it.sound).lines it.sound.persisted

  fell_by : (b : Bool) → question.crashes ≡ b → new ≡ fallen_if b s path images mid → Fell sets question.crashes start s images mid new
  fell_by true asked same =
      let f = subst (AreFallen sets locals question.crashes start s path ran images mid) (sym same) (all_fallen sets locals question.crashes start s path ran asked it.sound turns set images mid tries.found) in record {
        found = f.found;
        grows = f.grows;
        falls = λ is_asked image persisted among reached shown. f.falls sound image persisted among reached shown;
      }
  fell_by false asked same = record {
    found = subst (AreFound sets question.crashes start) (sym same) tries.found;
    grows = subst (λ (y : Found). Grows mid.paths y.paths) (sym same) (grows_not mid.paths);
    falls = λ is_asked. absurd (true≢false (sym is_asked ∙ asked));
  }

  falls : Fell sets question.crashes start s images mid new
  falls = fell_by question.crashes refl end

  in_time : s.turns < max_turns
  in_time = omega (arith, turns)

  pub whole_grown : Grows old.paths new.paths
  whole_grown = grows_then old.paths mid.paths new.paths tries.grows falls.grows

  moved : (step : Step) (seen : Seen) (t : State) → is_move step ≡ true → step_of s step ≡ Ok (seen, t) → IsAmong sets (nodes_of start new.paths) (own_end locals t)
  moved step seen t move made =
      elim (moves_are_all s step in_time move) [
        | inl among ↦ among_more sets start mid.paths new.paths (own_end locals t) falls.grows (tries.moves sound step seen t among made)
        | inr (refusal, refused, none) ↦ absurd (no_both refusal seen t (sym refused ∙ made))
      ]
    where
      no_both : (refusal : Refusal) (seen : Seen) (t : State) → ◌≡◌ {A = Result (Seen × State) Refusal} (Err refusal) (Ok (seen, t)) → ⊥
      no_both refusal seen t e = absurd (cc)

  roomy : (step : Step) (refusal : Refusal) → is_move step ≡ true → step_of s step ≡ Err refusal → is_room refusal ≡ false
  roomy step refusal move refused =
      elim (moves_are_all s step in_time move) [
        | inl among ↦ tries.room step refusal among refused
        | inr (other, is_other, none) ↦ ap is_room (sym (same_refusal other refusal (sym is_other ∙ refused))) ∙ none
      ]

  idle : IsIdle locals s
  idle = none_idle locals s none

  -- the images of the state are listed
  pub seen_by : AreKept question s images → IsSeen sets question (nodes_of start new.paths) s
  seen_by kept = record {
    all = kept.kept;
    falls = λ asked persisted reached.
        let image = image_at s.shape persisted in
        falls.falls asked image persisted (((kept.listing (lists_crashing question asked)).exact image).1 (persisted, reached, refl)) reached refl;
  }

  -- or a later state was found that has all that they show
  pub passed_by : GoesOn locals s path old mid → IsPassed locals (nodes_of start new.paths) at s
  passed_by g =
      let owns = owns_of locals g.end in
      let long = path ++ g.step ∷ owns in
      let more = step_then locals s g.end g.step g.seen (takes_moves s g.step g.keeps) g.made in
      let leads : led_to start long ≡ own_end locals g.end = (path_then start s path (g.step ∷ owns) ran.accepted ran.leads).1 ∙ more.leads in
      let node = led_to start long in
      let on : slice_get new.paths g.place ≡ Some long = get_grown mid.paths new.paths g.place falls.grows (within_list mid.paths long g.place g.there) ∙ g.there in
      let within = within_list old.paths path at there in
      let behind = g.later in
      let same = step_sibling s g.end g.step g.seen g.made in
      let end_sound : IsSound g.end = step_sound s g.end g.step g.seen it.sound g.made in
      let node_sound : IsSound node = (run_of_it start long start (of_itself start sound)).sound in
      let c : CoversAhead true locals node g.end = subst (λ (n : State). CoversAhead true locals n g.end) (sym leads) (end_covers true locals g.end) in
      record {
        place = g.place;
        later = omega (arith, within, behind);
        node = node;
        there = get_mapped (led_to start) new.paths g.place long on;
        idle = subst (IsIdle locals) (sym leads) (end_idle locals g.end);
        shape = sym same.shape ∙ c.shape;
        restarts = same_restarts s.processors g.end.processors (sym same.programs) ∙ gone_restarts locals node.shape g.end.processors node.processors c.processors;
        held = λ persisted held.
            within_held node.memory g.end.memory persisted (end_sound.persisted ∙ sym node_sound.persisted) c.memory (keeps_held s g.end g.step g.seen persisted g.keeps g.made held);
      }

  pub may_as : may_pass mid.sets question ≡ true → may_pass sets question ≡ true
  may_as may = ap (λ (b : Bool). may_pass b question) (sym tries.found.mode) ∙ may

  looked_here : IsLookedAt sets locals question (nodes_of start new.paths) at s
  looked_here = elim looked [
    | inl kept ↦ inl (seen_by kept)
    | inr (nothing, other) ↦ elim other [ inl passed ↦ inr (may_as passed.0, passed_by passed.1) | inr seen ↦ inl (more_seen sets question start old.paths new.paths s whole_grown seen) ]
  ]

  here_tried : IsTried sets locals question (nodes_of start new.paths) s
  here_tried = record { idle = idle; expanded = record { time = in_time; moves = moved; room = roomy }; kept = keeps }

  here_visited : IsVisited sets locals question start new.paths at path
  here_visited = inl (subst (λ (t : State). IsTried sets locals question (nodes_of start new.paths) t × IsLookedAt sets locals question (nodes_of start new.paths) at t) (sym is) (here_tried, looked_here))

  pub goes_on : IsExploring sets locals question start new (at + 1)
  goes_on = record {
    found = falls.found;
    first = among_more sets start old.paths new.paths start whole_grown x.first;
    within = let within = within_list old.paths path at there in let long = longer old.paths new.paths whole_grown in omega (arith, within, long);
    visited = all_visited sets locals question start path old new at x there whole_grown here_visited;
  }

-- own steps are followed
module _ (sets locals : Bool) (question : Question) (start s : State) (path : List Step) (old new : Found) (at : ℕ) (sound : IsSound start) (x : IsExploring sets locals question start old at) (there : slice_get old.paths at ≡ Some path)
    (is : led_to start path ≡ s) (step : Step) (first : first_own locals s ≡ Some step) (followed : new ≡ added old (key_of old.sets (own_end locals s)) (path ++ owns_of locals s)) where
  abbrev longer_path : List Step
  longer_path = path ++ owns_of locals s

  to_here : IsRun question.crashes path start s
  to_here = subst (IsRun question.crashes path start) is (x.found.runs path (there_at old.paths path at there))

  leads : led_to start longer_path ≡ own_end locals s
  leads = (path_then start s path (owns_of locals s) to_here.accepted to_here.leads).1

  pub own_goes_on : Grows old.paths new.paths × IsExploring sets locals question start new (at + 1)
  own_goes_on =
      let owns = owns_of locals s in
      let own = owns_own locals s in
      let same : added old (key_of sets (led_to start longer_path)) longer_path ≡ new = (λ k. added old (key_of (sym x.found.mode k) (leads k)) longer_path) ∙ sym followed in
      let quiet = none_quiet question.crashes owns (own_quiet locals owns s own) in
      let (now, grows, among) = adds sets question.crashes start old longer_path x.found (longer_run question.crashes start s path owns to_here quiet (own_accepted locals owns s own)) in
      let grown : Grows old.paths new.paths = subst (λ (y : Found). Grows old.paths y.paths) same grows in
      let end_among : IsAmong sets (nodes_of start new.paths) (own_end locals s) =
      subst (λ (y : Found). IsAmong sets (nodes_of start y.paths) (own_end locals s)) same (subst (IsAmong sets (nodes_of start (added old (key_of sets (led_to start longer_path)) longer_path).paths)) leads (among sound)) in
      let advanced : IsAdvanced sets locals (nodes_of start new.paths) s = record { step = step; first = first; there = end_among } in (
        grown,
        record {
          found = subst (AreFound sets question.crashes start) same now;
          first = among_more sets start old.paths new.paths start grown x.first;
          within = let within = within_list old.paths path at there in let long = longer old.paths new.paths grown in omega (arith, within, long);
          visited = all_visited sets locals question start path old new at x there grown (inr (subst (IsAdvanced sets locals (nodes_of start new.paths)) (sym is) advanced));
        },
      )

-- ---- it begins

nothing_found : (sets crashes : Bool) (start : State) → AreFound sets crashes start (no_states sets)
nothing_found sets crashes start = record {
  mode = refl;
  runs = λ path there. absurd (nothing_there path there);
  keyed = refl;
  distinct = λ i j p q less at_i. absurd (nowhere i p at_i);
}
  where
    nowhere : (i : ℕ) (p : List Step) → slice_get [] i ≡ Some p → ⊥
    nowhere i p e = absurd (cc)

-- no step at all
still_there : (crashes : Bool) (start : State) → IsRun crashes [] start start
still_there crashes start = record { accepted = refl; leads = refl; crashing = λ any. absurd (true≢false (sym any)) }

pub begins : (sets locals : Bool) (question : Question) (start : State) (found : Found) → found ≡ added (no_states sets) (key_of sets start) [] → IsSound start → IsExploring sets locals question start found 0
begins sets locals question start found e sound =
    let (now, grows, among) = adds sets question.crashes start (no_states sets) [] (nothing_found sets question.crashes start) (still_there question.crashes start) in
    subst (λ (f : Found). IsExploring sets locals question start f 0) (sym e) (record {
      found = now;
      first = among sound;
      within = omega arith;
      visited = λ i path less at_i. absurd (omega (arith, less));
    })

-- ---- it ends

all_closed : (sets locals : Bool) (question : Question) (start : State) (found : Found) (at : ℕ) → IsSound start → length found.paths ≤ at → IsExploring sets locals question start found at → AreClosedAhead sets locals question (nodes_of start found.paths)
all_closed sets locals question start found at sound all x = record {
  each = λ i r there.
      let (path, at_i, is) = get_of (led_to start) found.paths i r there in
      let less = within_list found.paths path i at_i in
      subst (λ (y : State). IsClosed sets locals question (nodes_of start found.paths) i y) is (x.visited i path (omega (arith, less, all)) at_i);
}

-- the paths lead to states that are told apart
told_apart : (sets crashes : Bool) (start : State) (found : Found) → AreFound sets crashes start found → AreToldApart crashes start found.paths
told_apart sets crashes start found f = record {
  each = λ run there. f.runs run there;
  apart = λ i j p q less at_i at_j alike. f.distinct i j p q less at_i at_j (alike_keys sets (led_to start p) (led_to start q) alike);
}

pub too_large : (question : Question) (start : State) (found : Found) (gathered : Gathered) (at limit : ℕ) → limit < length found.paths → IsUnderWay question start found gathered at → IsMany question.crashes start limit
too_large question start found gathered at limit many x = (found.paths, told_apart (by_sets question start) question.crashes start found x.exploring.found, many)

no_registers : (question : Question) (condition : Formula) → question.all ≡ Some condition → (counts_locals question && reads_registers condition) ≡ false
no_registers question condition asked = ap (λ (all : Option Formula). option_map_or (λ f. not (reads_registers f)) all true && reads_registers condition) asked ∙ by (reads_registers condition)
  where
    by : (b : Bool) → (not b && b) ≡ false
    by true = refl
    by false = refl

-- where keys tell what lines may hold, nothing is pending at first, and what is asked mixes no persisted values with others
nothing_at_first : (question : Question) (start : State) → by_sets question start ≡ true → start.memory.pending ≡ []
nothing_at_first question start is =
    none start.memory.pending (eqb-true (length start.memory.pending) 0 (and_parts (option_map_or is_unmixed question.all true) (length start.memory.pending == 0) is).1)
  where
    none : (es : List PendingEntry) → length es ≡ 0 → es ≡ []
    none [] long = refl
    none (e ∷ es) long = absurd (omega (arith, long))

nothing_mixed : (question : Question) (start : State) (condition : Formula) → question.all ≡ Some condition → by_sets question start ≡ true → is_unmixed condition ≡ true
nothing_mixed question start condition asked is =
    ap (λ (all : Option Formula). option_map_or is_unmixed all true) (sym asked) ∙ (and_parts (option_map_or is_unmixed question.all true) (length start.memory.pending == 0) is).0

-- all that was found was visited: what is asked is answered
pub finished : (question : Question) (start : State) (found : Found) (gathered : Gathered) (at limit : ℕ) → IsSound start → length found.paths ≤ at → at ≤ limit → IsUnderWay question start found gathered at
    → AreFindings question start limit (findings_of at gathered)
finished question start found gathered at limit sound all few way =
    let locals = counts_locals question in
    let sets = by_sets question start in
    let x = way.exploring in
    let nodes = nodes_of start found.paths in
    let from : AreClosedFrom sets locals question nodes start =
    record { closed = all_closed sets locals question start found at sound all x; sound = sound; there = x.first; sound_nodes = sound_nodes start found.paths sound; begins = nothing_at_first question start } in
    let within = x.within in record {
      answered = record {
        all = λ condition asked. kept_by_few sets locals question condition nodes start (no_registers question condition asked) (nothing_mixed question start condition asked) asked from;
        ends = λ condition asked. true_at_ends sets locals question false condition nodes start from (λ r tried done. tried.kept.ends condition asked done);
        recovered = λ condition asked. true_at_ends sets locals question true condition nodes start from (λ r tried done. tried.kept.recovered condition asked done);
      };
      states = (found.paths, told_apart sets question.crashes start found x.found, omega (arith, all, within));
      within = few;
      ends = outcomes_are sets locals question start found at all x from false gathered.ends way.gives.ends;
      recovered = outcomes_are sets locals question start found at all x from true gathered.recovered way.gives.recovered;
      images = λ asked. images_are sets locals question start found at all x from gathered.images (way.gives.images asked);
      ran = λ p recovery place. ran_is sets locals question start found at all x from gathered.ran p recovery place way.gives.ran;
    }

-- ---- the verdict

pub told_by : (question : Question) (start : State) (limit : ℕ) (found : Found) (gathered : Gathered) (states : ℕ) (what : Findings) → IsSound start → states ≡ length found.paths → IsExplored question start limit None found gathered
    → what ≡ findings_of states gathered → AreFindings question start limit what
told_by question start limit found gathered states what sound is (at, all, few, way) same =
    let within = way.exploring.within in
    let count : at ≡ states = omega (arith, all, within, is) in
    subst (λ (f : Findings). AreFindings question start limit f) (sym same)
    (subst (λ (n : ℕ). AreFindings question start limit (findings_of n gathered)) count (finished question start found gathered at limit sound all few way))

pub stopped_by : (question : Question) (start : State) (limit : ℕ) (found : Found) (gathered : Gathered) (stop : Option Stop) (by : Stop) → stop ≡ Some by → IsExplored question start limit stop found gathered → IsStopOf question start limit by
stopped_by question start limit found gathered stop by is explored = subst (λ (s : Option Stop). IsExplored question start limit s found gathered) is explored

-- ---- it begins, with nothing gathered

pub way_begins : (question : Question) (start : State) (found : Found) (gathered : Gathered) → found ≡ added (no_states (by_sets question start)) (key_of (by_sets question start) start) [] → gathered ≡ none_gathered → IsSound start
    → IsUnderWay question start found gathered 0
way_begins question start found gathered is none sound = record {
  exploring = begins (by_sets question start) (counts_locals question) question start found is sound;
  gives = subst (IsGathered question start found.paths 0) (sym none) (nothing_gathered question start found.paths);
}

-- ---- a visit

module _ (question : Question) (start s : State) (path : List Step) (old : Found) (before : Gathered) (at : ℕ) (sound : IsSound start) (way : IsUnderWay question start old before at)
    (there : slice_get old.paths at ≡ Some path) (is : led_to start path ≡ s) where
  abbrev locals : Bool
  locals = counts_locals question

  abbrev sets : Bool
  sets = by_sets question start

  give_is : (give : State → List (List ℕ)) → give (led_to start path) ≡ give s
  give_is give = ap give is

  -- what the visit notes, where own steps are followed, and where not
  all_noted : (first : Option Step) (mid new : List (List ℕ)) → first_own locals s ≡ first → mid ≡ included_all before.ran (runs_at s) → new ≡ included_all mid (later_runs locals s first)
      → new ≡ included_all before.ran (visit_runs locals (led_to start path))
  all_noted first mid new firsts noted more =
      more ∙ ap (λ (xs : List (List ℕ)). included_all xs (later_runs locals s first)) noted ∙ sym (all_then (runs_at s) (later_runs locals s first) before.ran)
      ∙ ap (λ (o : Option Step). included_all before.ran (runs_at s ++ later_runs locals s o)) (sym firsts) ∙ sym (ap (included_all before.ran) (give_is (visit_runs locals)))

  -- own steps are followed
  pub own_visit : (new : Found) (ran mid : List (List ℕ)) (step : Step) → first_own locals s ≡ Some step → new ≡ added old (key_of old.sets (own_end locals s)) (path ++ owns_of locals s)
      → mid ≡ included_all before.ran (runs_at s) → ran ≡ included_all mid (followed_runs locals s) → IsUnderWay question start new (record before { ran = ran }) (at + 1)
  own_visit new ran mid step first followed noted more =
      let (grows, goes) = own_goes_on sets locals question start s path old new at sound way.exploring there is step first followed in
      let o = first_is_own locals s step first in
      record {
        exploring = goes;
        gives = record {
          ends = collected_nothing old.paths new.paths at path grows there (ends_at false) start before.ends way.gives.ends (give_is (ends_at false) ∙ no_end_ahead false s o.end step o.seen o.move o.made);
          recovered = collected_nothing old.paths new.paths at path grows there (ends_at true) start before.recovered way.gives.recovered (give_is (ends_at true) ∙ no_end_ahead true s o.end step o.seen o.move o.made);
          images = λ asked. images_stay old.paths new.paths at path grows there (may_pass sets question) locals start before.images (way.gives.images asked)
              (λ idle. absurd (some_busy locals s step first (subst (IsIdle locals) is idle)));
          ran = collected old.paths new.paths at path grows there (visit_runs locals) start before.ran ran way.gives.ran (all_noted (Some step) mid ran first noted more);
          looked = λ key known. still_looked question start sound old.paths new.paths before.images before.images key grows (λ image given. given) (way.gives.looked key known);
        };
      }

  here : IsOf start s
  here = subst (IsOf start) is (run_of_it start path start (of_itself start sound))

  to_path : IsRun question.crashes path start s
  to_path = subst (IsRun question.crashes path start) is (way.exploring.found.runs path (there_at old.paths path at there))

  -- all steps were tried
  module _ (new : Found) (begun noted : Gathered) (none : first_own locals s ≡ None) (same : begun ≡ record before { ran = included_all before.ran (runs_at s) }) (w : IsWhole question s path old begun new noted) where
    keeps : Keeps question s
    keeps = record { ends = w.ends; recovered = w.recovered; room = less_or_same _ _ w.turns }

    as_may : may_pass w.mid.sets question ≡ true → may_pass sets question ≡ true
    as_may may =
        let tries = all_tried sets locals question.crashes start s path to_path (moves_of s) old w.mid (moves_move s) way.exploring.found w.tried in
        ap (λ (b : Bool). may_pass b question) (sym tries.found.mode) ∙ may

    known_before : Contains begun.looked (list_key s) → Contains before.looked (list_key s)
    known_before known = subst (λ (g : Gathered). Contains g.looked (list_key s)) same known

    was_looked : Contains begun.looked (list_key s) → WasLookedAt question start old.paths before.images (list_key s)
    was_looked known = way.gives.looked (list_key s) (known_before known)

    listed : IsListedOrLeft sets locals question start s path w.images old w.mid
    listed = elim w.looked [
      | inl left ↦ elim left.0 [ inl kept ↦ inl kept | inr passed ↦ inr (passed.0, inl (passed.1, passed.2)) ]
      | inr once ↦ elim once.0 [ inl kept ↦ inl kept | inr again ↦ inr (again.2, inr (seen_again question start sound old.paths before.images s here (was_looked again.3) again.0)) ]
    ]

    grows : Grows old.paths new.paths
    grows = whole_grown sets locals question start s path w.images old w.mid new at sound way.exploring none there is w.turns listed keeps w.tried w.fallen

    images_noted : noted.images ≡ included_all before.images (if_asked question.images w.images)
    images_noted = w.gives.images ∙ ap (λ (g : Gathered). included_all g.images (if_asked question.images w.images)) same

    stays_given : (image : List ℕ) → Contains before.images image → Contains noted.images image
    stays_given image given = subst (λ (xs : List (List ℕ)). Contains xs image) (sym images_noted) ((all_has (if_asked question.images w.images) before.images image).1 (inl given))

    -- the images of the state are gathered, or left to another one
    images_listed : question.images ≡ true → AreKept question s w.images → AreGatheredImages (may_pass sets question) locals start new.paths (at + 1) noted.images
    images_listed asked kept =
        images_gathered old.paths new.paths at path grows there (may_pass sets question) locals start w.images before.images noted.images (way.gives.images asked)
        (subst (λ (t : State). IsListing t w.images) (sym is) (kept.listing (lists_asked question asked)))
        (images_noted ∙ (λ k. included_all before.images (if_asked (asked k) w.images)))

    images_left : question.images ≡ true → w.images ≡ [] → ((may_pass sets question ≡ true) × IsPassed locals (nodes_of start new.paths) at s) ⊎ ((image : List ℕ) → IsImage s image → Contains before.images image)
        → AreGatheredImages (may_pass sets question) locals start new.paths (at + 1) noted.images
    images_left asked nothing either =
        let still : noted.images ≡ before.images = images_noted ∙ (λ k. included_all before.images (if_asked (asked k) (nothing k))) in
        subst (AreGatheredImages (may_pass sets question) locals start new.paths (at + 1)) (sym still)
        (images_stay old.paths new.paths at path grows there (may_pass sets question) locals start before.images (way.gives.images asked)
        (λ idle. subst (λ (t : State). ((may_pass sets question ≡ true) × IsPassed locals (nodes_of start new.paths) at t) ⊎ ((image : List ℕ) → IsImage t image → Contains before.images image)) (sym is) either))

    images_now : question.images ≡ true → AreGatheredImages (may_pass sets question) locals start new.paths (at + 1) noted.images
    images_now asked = elim w.looked [
      | inl left ↦ elim left.0 [
        | inl kept ↦ images_listed asked kept
        | inr passed ↦
            let on = passed_by sets locals question start s path w.images old w.mid new at sound way.exploring none there is w.turns listed keeps w.tried w.fallen passed.2 in
            images_left asked passed.0 (inl (as_may passed.1, on))
      ]
      | inr once ↦ elim once.0 [
        | inl kept ↦ images_listed asked kept
        | inr again ↦ images_left asked again.2 (inr (given_again question start sound old.paths before.images s here (was_looked again.3) asked))
      ]
    ]

    -- and its memory is one of those that were looked at
    before_looked : WereLookedAt question start new.paths noted.images before.looked
    before_looked = λ key known. still_looked question start sound old.paths new.paths before.images noted.images key grows stays_given (way.gives.looked key known)

    looked_here_by : AreKept question s w.images → WasLookedAt question start new.paths noted.images (list_key s)
    looked_here_by kept = record {
      path = path;
      memory = ap list_key is;
      seen = subst (IsSeen sets question (nodes_of start new.paths)) (sym is)
          (seen_by sets locals question start s path w.images old w.mid new at sound way.exploring none there is w.turns listed keeps w.tried w.fallen kept);
      given = λ asked image left.
          let now : noted.images ≡ included_all before.images w.images = images_noted ∙ (λ k. included_all before.images (if_asked (asked k) w.images)) in
          let among = ((kept.listing (lists_asked question asked)).exact image).1 (subst (λ (t : State). IsImage t image) is left) in
          subst (λ (xs : List (List ℕ)). Contains xs image) (sym now) ((all_has w.images before.images image).1 (inr among));
    }

    looked_now : WereLookedAt question start new.paths noted.images noted.looked
    looked_now = elim w.looked [
      | inl left ↦ subst (WereLookedAt question start new.paths noted.images) (sym (left.1 ∙ ap (λ (g : Gathered). g.looked) same)) before_looked
      | inr once ↦
          let one : WasLookedAt question start new.paths noted.images (list_key s) = elim once.0 [ inl kept ↦ looked_here_by kept | inr again ↦ before_looked (list_key s) (known_before again.3) ] in
          one_looked question start sound new.paths noted.images before.looked noted.looked (list_key s) before_looked one (once.1 ∙ ap (λ (g : Gathered). included g.looked (list_key s)) same)
    ]

    pub whole_visit : IsUnderWay question start new noted (at + 1)
    whole_visit = record {
      exploring = goes_on sets locals question start s path w.images old w.mid new at sound way.exploring none there is w.turns listed keeps w.tried w.fallen;
      gives = record {
        ends = collected old.paths new.paths at path grows there (ends_at false) start before.ends noted.ends way.gives.ends
            (w.gives.ends ∙ (λ k. included_all (same k).ends (sym (give_is (ends_at false)) k)));
        recovered = collected old.paths new.paths at path grows there (ends_at true) start before.recovered noted.recovered way.gives.recovered
            (w.gives.recovered ∙ (λ k. included_all (same k).recovered (sym (give_is (ends_at true)) k)));
        images = images_now;
        ran = collected old.paths new.paths at path grows there (visit_runs locals) start before.ran noted.ran way.gives.ran
            (all_noted None begun.ran noted.ran none (ap (λ (g : Gathered). g.ran) same) w.gives.ran);
        looked = looked_now;
      };
    }

  -- as the code has it: whether the state has own steps, and what following them finds
  some_first : (first : Option Step) → is_some first ≡ true → (step : Step) × (first ≡ Some step)
  some_first None is = absurd (true≢false (sym is))
  some_first (Some step) is = (step, refl)

  no_first : (first : Option Step) → is_some first ≡ false → first ≡ None
  no_first None is = refl
  no_first (Some step) is = absurd (true≢false is)

  pub followed_visit : (new : Found) (ran mid : List (List ℕ)) (has : Bool) → has ≡ true → has ≡ is_some (first_own locals s) → new ≡ advanced_if has locals s path old
      → mid ≡ included_all before.ran (runs_at s) → ran ≡ included_all mid (followed_runs locals s) → IsUnderWay question start new (record before { ran = ran }) (at + 1)
  followed_visit new ran mid has true_of is_has followed noted more =
      let (step, first) = some_first (first_own locals s) (sym is_has ∙ true_of) in
      own_visit new ran mid step first (followed ∙ ap (λ (b : Bool). advanced_if b locals s path old) true_of) noted more

  pub has_none : (has : Bool) → has ≡ false → has ≡ is_some (first_own locals s) → first_own locals s ≡ None
  has_none has false_of is_has = no_first (first_own locals s) (sym is_has ∙ false_of)

  pub none_found : (new : Found) (has : Bool) → has ≡ false → new ≡ advanced_if has locals s path old → new ≡ old
  none_found new has false_of followed = followed ∙ ap (λ (b : Bool). advanced_if b locals s path old) false_of

  pub none_noted : (more_ran mid : List (List ℕ)) → first_own locals s ≡ None → mid ≡ included_all before.ran (runs_at s) → more_ran ≡ included_all mid (followed_runs locals s)
      → ◌≡◌ {A = Gathered} (record before { ran = more_ran }) (record before { ran = included_all before.ran (runs_at s) })
  none_noted more_ran mid none noted more = λ k. record before { ran = (more ∙ sym (nothing_ran locals s none mid) ∙ noted) k }

  -- or the exploration ends
  pub trial_visit : (new : Found) (begun noted : Gathered) (limit : ℕ) (stop : Option Stop) → first_own locals s ≡ None → begun ≡ record before { ran = included_all before.ran (runs_at s) }
      → IsTrial question s path old begun stop new noted → IsVisit question start limit at stop new noted
  trial_visit new begun noted limit None none same w = whole_visit new begun noted none same w
  trial_visit new begun noted limit (Some stop) none same stops =
      stops start limit (subst (IsRun question.crashes path start) is (way.exploring.found.runs path (there_at old.paths path at there)))

  -- the same, where another stop may be told in its place
  pub told_visit : (new : Found) (noted : Gathered) (limit : ℕ) (stop told : Option Stop) → IsVisit question start limit at stop new noted → MayBeToldFor question start path stop told
      → IsVisit question start limit at told new noted
  told_visit new noted limit None told visit same = subst (λ (by : Option Stop). IsVisit question start limit at by new noted) (sym same) visit
  told_visit new noted limit (Some stop) told visit by_it =
      let (by, same, ends) = by_it limit (way.exploring.found.runs path (there_at old.paths path at there)) visit in
      subst (λ (one : Option Stop). IsVisit question start limit at one new noted) (sym same) ends

pub same_siblings : (a b : State) → a ≡ b → AreSiblings a b
same_siblings a b e = record { shape = ap (λ (s : State). s.shape) e; programs = ap (λ (s : State). map programs_of s.processors) e }
