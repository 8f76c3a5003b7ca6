-- What a visit to a state finds: all that the state leads to.
use Rattle.std.proofs.Common.{◌≡◌, ℕ, ◌+◌, ◌<◌, inl, inr, Bool, true, false, Option, Some, None, Result, Ok, Err, List, [], ◌∷◌, ◌++◌, length, refl, sym, ap, subst, ◌∙◌, arith, true≢false}
use Rattle.std.specs.Prelude.{◌||◌, Contains}
use Rattle.std.specs.List.{list_any}
use Rattle.std.proofs.lemmas.List.Folds.{list_any-append}
use Rattle.std.proofs.lemmas.Bool.{cases_Bool}
use Rattle.persist_buffer.specs.State.{Memory}
use Rattle.pending_images.specs.Changes.{IsReached}
use Rattle.machine.specs.declared.refusal.Refusal.{Refusal}
use Rattle.machine.specs.declared.step.Seen.{Seen}
use Rattle.machine.specs.declared.step.Step.{Step}
use Rattle.machine.specs.declared.step.Step.TheVariants.{Exec, Drain, Persist, Settle, Crash}
use Rattle.machine.specs.Limits.{max_turns}
use Rattle.machine.specs.State.{State}
use Rattle.machine.specs.Steps.{end_after, run_of, step_of}
use Rattle.machine.proofs.RunIsAPrefix.{run_parts}
use Rattle.images.specs.Images.{IsLeastSet, closed_set_of, image_at}
use Rattle.explore.specs.Questions.{AreAlike}
use Rattle.explore.specs.Covering.{AreLike, IsLike}
use Rattle.explore.specs.Explored.{IsAmong, fallen}
use Rattle.explore.specs.Reachable.{IsRun, is_crash}
use Rattle.explore.specs.Questions.{is_move, is_room}
use Rattle.explore.specs.Exploring.{AreFound}
use Rattle.explore.specs.Falls.{fall_at}
use Rattle.explore.specs.Followed.{own_end, owns_of}
use Rattle.explore.specs.Found.{Found, added, fallen_by, falls_of, led_to, nodes_of, then_tried, tried_by, tries_of}
use Rattle.explore.specs.Keys.{fallen_key, key_of}
use Rattle.explore.specs.Sound.{IsOf, IsSound}
use Rattle.explore.proofs.FoundPaths.{Grows, adds, among_more, first_or_later, first_there, grows_not, grows_then, later_there}
use Rattle.explore.proofs.FallsAreSteps.{falls_by_places}
use Rattle.explore.proofs.FallsByImages.{reached_once}
use Rattle.explore.proofs.KeysTell.{alike_keys}
pub use Rattle.explore.proofs.Members.{nothing_there}
use Rattle.explore.proofs.OwnStepsFollowed.{own_accepted, own_quiet, owns_own}
use Rattle.explore.proofs.SetsTell.{fallen_keys}
use Rattle.explore.proofs.SoundRuns.{of_itself, run_of_it}

-- ---- a path that goes on

pub path_then : (start s : State) (path more : List Step) → (run_of path start).refusal ≡ None → led_to start path ≡ s
    → ((run_of (path ++ more) start).refusal ≡ (run_of more s).refusal) × (led_to start (path ++ more) ≡ led_to s more)
path_then start s path more ok is =
    let whole = run_parts path more start ok in (
      ap (λ e. e.refusal) whole ∙ ap (λ (x : State). (run_of more x).refusal) is,
      ap (λ e. e.state) whole ∙ ap (λ (x : State). led_to x more) is,
    )

pub one_step : (s t : State) (step : Step) (seen : Seen) → step_of s step ≡ Ok (seen, t) → ((run_of (step ∷ []) s).refusal ≡ None) × (led_to s (step ∷ []) ≡ t)
one_step s t step seen e = (ap (λ r. (end_after s r (run_of [])).refusal) e, ap (λ r. (end_after s r (run_of [])).state) e)

-- whether a step is of a processor, and so no crash
pub no_crash : (step : Step) → is_move step ≡ true → is_crash step ≡ false
no_crash (Exec p) move = refl
no_crash (Drain p i) move = refl
no_crash (Persist line) move = absurd (true≢false (sym move))
no_crash Settle move = absurd (true≢false (sym move))
no_crash Crash move = absurd (true≢false (sym move))

-- a run that goes on
pub longer_run : (crashes : Bool) (start s : State) (path more : List Step) → IsRun crashes path start s → (list_any is_crash more ≡ true → crashes ≡ true) → (run_of more s).refusal ≡ None
    → IsRun crashes (path ++ more) start (led_to start (path ++ more))
longer_run crashes start s path more ran asked accepted = record {
  accepted = (path_then start s path more ran.accepted ran.leads).0 ∙ accepted;
  leads = refl;
  crashing = λ any. either (list_any is_crash path) (list_any is_crash more) (sym (list_any-append is_crash path more) ∙ any) ran.crashing asked;
}
  where
    either : (a b : Bool) → (a || b) ≡ true → (a ≡ true → crashes ≡ true) → (b ≡ true → crashes ≡ true) → crashes ≡ true
    either true b e one other = one refl
    either false b e one other = other e

pub run_itself : (crashes : Bool) (start : State) (path : List Step) (s : State) → IsRun crashes path start s → IsRun crashes path start (led_to start path)
run_itself crashes start path s ran = record { accepted = ran.accepted; leads = refl; crashing = ran.crashing }

pub none_quiet : (crashes : Bool) (steps : List Step) → list_any is_crash steps ≡ false → list_any is_crash steps ≡ true → crashes ≡ true
none_quiet crashes steps quiet any = absurd (true≢false (sym any ∙ quiet))

-- a step and the own steps that follow it
pub record IsStepThen (locals : Bool) (s t : State) (step : Step) : Type 0 where
  pub accepted : (run_of (step ∷ owns_of locals t) s).refusal ≡ None
  pub quiet : list_any is_crash (step ∷ owns_of locals t) ≡ false
  pub leads : led_to s (step ∷ owns_of locals t) ≡ own_end locals t

pub step_then : (locals : Bool) (s t : State) (step : Step) (seen : Seen) → is_move step ≡ true → step_of s step ≡ Ok (seen, t) → IsStepThen locals s t step
step_then locals s t step seen move made =
    let owns = owns_of locals t in
    let own = owns_own locals t in record {
      accepted = ap (λ r. (end_after s r (run_of owns)).refusal) made ∙ own_accepted locals owns t own;
      quiet = rw (no_crash step move) (own_quiet locals owns t own);
      leads = ap (λ r. (end_after s r (run_of owns)).state) made;
    }

-- ---- tries

-- what was found before stays found, and what a step leads to by own steps is found
pub record AreTried (sets locals crashes : Bool) (start s : State) (steps : List Step) (old new : Found) : Type 0 where
  pub found : AreFound sets crashes start new
  pub grows : Grows old.paths new.paths
  pub moves : IsSound start → (step : Step) (seen : Seen) (t : State) → Contains steps step → step_of s step ≡ Ok (seen, t) → IsAmong sets (nodes_of start new.paths) (own_end locals t)
  pub room : (step : Step) (refusal : Refusal) → Contains steps step → step_of s step ≡ Err refusal → is_room refusal ≡ false

same_state : (seen other : Seen) (t u : State) → ◌≡◌ {A = Result (Seen × State) Refusal} (Ok (seen, t)) (Ok (other, u)) → t ≡ u
same_state seen other t u e =
    let pair : ◌≡◌ {A = Seen × State} (seen, t) (other, u) = cc in
    ap (λ (p : Seen × State). p.1) pair

pub same_refusal : (a b : Refusal) → ◌≡◌ {A = Result (Seen × State) Refusal} (Err a) (Err b) → a ≡ b
same_refusal a b e = cc

same_found : (a b : Found) (x y : Option Step) → ◌≡◌ {A = Option Step × Found} (x, a) (y, b) → a ≡ b
same_found a b x y e = ap (λ (p : Option Step × Found). p.1) e

not_stopped : (step : Step) (a b : Found) → ◌≡◌ {A = Option Step × Found} (Some step, a) (None, b) → ⊥
not_stopped step a b e = let apart : ◌≡◌ {A = Option Step} (Some step) None = ap (λ (p : Option Step × Found). p.0) e in absurd (cc)

module _ (sets locals crashes : Bool) (start s : State) (path : List Step) (ran : IsRun crashes path start s) where
  ok : (run_of path start).refusal ≡ None
  ok = ran.accepted

  is : led_to start path ≡ s
  is = ran.leads

  -- the first step was made, or was refused for no room's sake, and the rest was tried
  went_on : (step : Step) (steps : List Step) (r : Result (Seen × State) Refusal) (old new : Found) → is_move step ≡ true → step_of s step ≡ r → AreFound sets crashes start old
      → ((mid : Found) → AreFound sets crashes start mid → tries_of locals s path steps mid ≡ (None, new) → AreTried sets locals crashes start s steps mid new)
      → then_tried (tried_by locals r old path step) (tries_of locals s path steps) ≡ (None, new) → AreTried sets locals crashes start s (step ∷ steps) old new
  went_on step steps (Ok done) old new move made f each e =
      let owns = owns_of locals done.1 in
      let end = own_end locals done.1 in
      let more = step_then locals s done.1 step done.0 move made in
      let goes = path_then start s path (step ∷ owns) ok is in
      let leads : led_to start (path ++ step ∷ owns) ≡ end = goes.1 ∙ more.leads in
      let mid : Found = added old (key_of old.sets end) (path ++ step ∷ owns) in
      let same : mid ≡ added old (key_of sets (led_to start (path ++ step ∷ owns))) (path ++ step ∷ owns) = λ k. added old (key_of (f.mode k) (sym leads k)) (path ++ step ∷ owns) in
      let (now, grows, among) = adds sets crashes start old (path ++ step ∷ owns) f (longer_run crashes start s path (step ∷ owns) ran (none_quiet crashes (step ∷ owns) more.quiet) more.accepted) in
      let rest = each mid (subst (AreFound sets crashes start) (sym same) now) e in
      record {
        found = rest.found;
        grows = grows_then old.paths mid.paths new.paths (subst (λ (x : Found). Grows old.paths x.paths) (sym same) grows) rest.grows;
        moves = λ sound other seen t there did. elim (first_or_later step other steps there) [
          | inl here ↦
              let state : done.1 ≡ t = same_state done.0 seen done.1 t (sym made ∙ ap (step_of s) here ∙ did) in
              subst (λ (x : State). IsAmong sets (nodes_of start new.paths) (own_end locals x)) state (among_more sets start mid.paths new.paths end rest.grows
              (subst (λ (x : Found). IsAmong sets (nodes_of start x.paths) end) (sym same) (subst (IsAmong sets (nodes_of start (added old (key_of sets (led_to start (path ++ step ∷ owns))) (path ++ step ∷ owns)).paths)) leads (among sound))))
          | inr later ↦ rest.moves sound other seen t later did
        ];
        room = λ other refusal there did. elim (first_or_later step other steps there) [
          | inl here ↦ let clash : ◌≡◌ {A = Result (Seen × State) Refusal} (Ok done) (Err refusal) = sym made ∙ ap (step_of s) here ∙ did in absurd (cc)
          | inr later ↦ rest.room other refusal later did
        ];
      }
  went_on step steps (Err refusal) old new move made f each e =
      elim (cases_Bool (is_room refusal)) [
        | inl full ↦ absurd (not_stopped step old new (rw full at e))
        | inr none ↦
            let rest = each old f (rw none at e) in record {
              found = rest.found;
              grows = rest.grows;
              moves = λ sound other seen t there did. elim (first_or_later step other steps there) [
                | inl here ↦ let clash : ◌≡◌ {A = Result (Seen × State) Refusal} (Err refusal) (Ok (seen, t)) = sym made ∙ ap (step_of s) here ∙ did in absurd (cc)
                | inr later ↦ rest.moves sound other seen t later did
              ];
              room = λ other why there did. elim (first_or_later step other steps there) [
                | inl here ↦ ap is_room (sym (same_refusal refusal why (sym made ∙ ap (step_of s) here ∙ did))) ∙ none
                | inr later ↦ rest.room other why later did
              ];
            }
      ]

  pub all_tried : (steps : List Step) (old new : Found) → ((step : Step) → Contains steps step → is_move step ≡ true) → AreFound sets crashes start old → tries_of locals s path steps old ≡ (None, new) → AreTried sets locals crashes start s steps old new
  all_tried [] old new moves f e =
      let same : old ≡ new = same_found old new None None e in
      record {
        found = subst (AreFound sets crashes start) same f;
        grows = subst (λ (x : Found). Grows old.paths x.paths) same (grows_not old.paths);
        moves = λ sound step seen t there did. absurd (nothing_there step there);
        room = λ step refusal there did. absurd (nothing_there step there);
      }
  all_tried (step ∷ steps) old new moves f e =
      went_on step steps (step_of s step) old new (moves step (first_there step steps)) refl f (λ mid. all_tried steps mid new (λ other there. moves other (later_there step other steps there))) e

  -- ---- falls

  pub record AreFallen (images : List (List ℕ)) (old new : Found) : Type 0 where
    pub found : AreFound sets crashes start new
    pub grows : Grows old.paths new.paths
    pub falls : IsSound start → (image persisted : List ℕ) → Contains images image → IsReached s.memory persisted → image ≡ image_at s.shape persisted → IsAmong sets (nodes_of start new.paths) (fallen s persisted)

  module _ (asked : crashes ≡ true) (sound : IsSound s) (room : s.turns + length s.memory.pending < max_turns) where
    one_fallen : (image : List ℕ) (set : Option (List ℕ)) (old : Found) → AreFound sets crashes start old → IsLeastSet s image set
        → AreFound sets crashes start (fallen_by s path image set old) × Grows old.paths (fallen_by s path image set old).paths
        × (IsSound start → (persisted : List ℕ) → IsReached s.memory persisted → image ≡ image_at s.shape persisted → IsAmong sets (nodes_of start (fallen_by s path image set old).paths) (fallen s persisted))
    one_fallen image None old f least = (f, grows_not old.paths, λ begun persisted reached shown. absurd (least (persisted, reached, shown)))
    one_fallen image (Some places) old f least =
        let (values, shown_by, reached_by, fall) = falls_by_places s places image sound room least in
        let more = fall_at s.memory.pending places in
        let goes = path_then start s path more ok is in
        let leads : led_to start (path ++ more) ≡ led_to s more = goes.1 in
        let keyed : fallen_key old.sets s image ≡ key_of sets (led_to start (path ++ more)) =
        (λ k. fallen_key (f.mode k) s (shown_by k)) ∙ sym (fallen_keys sets s values) ∙ sym (alike_keys sets (led_to s more) (fallen s values) fall.leaves) ∙ ap (key_of sets) (sym leads) in
        let same : fallen_by s path image (Some places) old ≡ added old (key_of sets (led_to start (path ++ more))) (path ++ more) = ap (λ (key : List ℕ). added old key (path ++ more)) keyed in
        let (now, grows, among) = adds sets crashes start old (path ++ more) f (longer_run crashes start s path more ran (λ any. asked) fall.accepted) in (
          subst (AreFound sets crashes start) (sym same) now,
          subst (λ (x : Found). Grows old.paths x.paths) (sym same) grows,
          λ begun persisted reached shown.
              let it : IsOf start s = subst (IsOf start) is (run_of_it start path start (of_itself start begun)) in
              let one : values ≡ persisted = reached_once start s values persisted it (omega (arith, room)) reached_by reached (sym shown_by ∙ shown) in
              let (r, there, alike) = among begun in
              let far : IsLike sets r (led_to s more) = subst (IsLike sets r) leads alike in
              let near : AreAlike (led_to s more) (fallen s persisted) = subst (λ (xs : List ℕ). AreAlike (led_to s more) (fallen s xs)) one fall.leaves in (
                r,
                subst (λ (x : Found). Contains (nodes_of start x.paths) r) (sym same) there,
                record { shape = near.shape ∙ far.shape; processors = near.processors ∙ far.processors; memory = subst (λ (m : Memory). AreLike sets r.memory m) (sym near.memory) far.memory },
              ),
        )

    pub all_fallen : ((image : List ℕ) → IsLeastSet s image (closed_set_of s image)) → (images : List (List ℕ)) (old : Found) → AreFound sets crashes start old → AreFallen images old (falls_of s path images old)
    all_fallen set [] old f = record { found = f; grows = grows_not old.paths; falls = λ begun image persisted there reached shown. absurd (nothing_there image there) }
    all_fallen set (image ∷ images) old f =
        let mid = fallen_by s path image (closed_set_of s image) old in
        let one = one_fallen image (closed_set_of s image) old f (set image) in
        let rest = all_fallen set images mid one.0 in
        let end = falls_of s path images mid in record {
          found = rest.found;
          grows = grows_then old.paths mid.paths end.paths one.1 rest.grows;
          falls = λ begun other persisted there reached shown. elim (first_or_later image other images there) [
            | inl here ↦ among_more sets start mid.paths end.paths (fallen s persisted) rest.grows (one.2 begun persisted reached (here ∙ shown))
            | inr later ↦ rest.falls begun other persisted later reached shown
          ];
        }
