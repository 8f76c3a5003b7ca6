-- What is answered to `crash V ..` leads to a state that a crash leaves.
use Rattle.std.proofs.Common.{◌≡◌, ℕ, ◌+◌, ◌<◌, List, [], ◌∷◌, length, take, Option, Some, None, refl, sym, ap, subst}
use Rattle.std.specs.Option.{option_map_or}
use Rattle.litmus_text.specs.declared.text_lines.LinedObject.{LinedObject}
use Rattle.machine.specs.Limits.{max_turns}
use Rattle.machine.specs.Steps.{run_of}
use Rattle.machine.specs.declared.refusal.Refusal.{Refusal}
use Rattle.machine.specs.declared.step.Step.{Step}
use Rattle.images.specs.Images.{IsImage, IsLeastSet, closed_set_of, image_at}
use Rattle.pending_images.proofs.LeastSetsAreFound.{is_least_set}
use Rattle.explore.specs.Explored.{fallen}
use Rattle.explore.specs.Falls.{fall_at}
use Rattle.explore.specs.Questions.{AreAlike}
use Rattle.explore.specs.Sound.{IsSound}
use Rattle.explore.proofs.CoveredSteps.{sound_whole}
use Rattle.explore.proofs.FallsAreSteps.{falls_by_places}
use Rattle.debugger.specs.Halts.{halt_of, made, stopped, stopping_prefix, unstopped}
use Rattle.debugger.specs.Sessions.{SessionValue}
use Rattle.debugger.specs.declared.halt.Halt.{Halt}
use Rattle.debugger.specs.declared.halt.Halt.TheVariants as halts
use Rattle.conversations.specs.declared.breaks.Cut.{Cut}
use Rattle.conversations.specs.Answered.{Place, crashed_at}
use Rattle.conversations.specs.Breaks.{cut_of, up_to}
use Rattle.conversations.specs.Crashing.{CrashesLeaveTheImage, IsUnstoppedCrash}

-- steps that are all accepted are all made, where no stop comes before the last
all_made : (v : SessionValue) (steps : List Step) (accepted : ℕ) (first : Option ℕ) (refusal : Option Refusal) (h : Halt) → refusal ≡ None
    → option_map_or (stopped v steps) first (unstopped accepted refusal) ≡ h → ((id n : ℕ) → h ≡ halts.Stop id n → n ≡ length steps) → made steps h ≡ length steps
all_made v steps accepted first refusal (halts.Stop id n) none is last = last id n refl
all_made v steps accepted first refusal halts.End none is last = refl
all_made v steps accepted None None (halts.Refused n r) none is last = absurd (cc)
all_made v steps accepted None (Some x) (halts.Refused n r) none is last = absurd (cc)
all_made v steps accepted (Some k) refusal (halts.Refused n r) none is last = absurd (cc)
all_made v steps accepted None None (halts.NoMemory n) none is last = absurd (cc)
all_made v steps accepted None (Some x) (halts.NoMemory n) none is last = absurd (cc)
all_made v steps accepted (Some k) refusal (halts.NoMemory n) none is last = absurd (cc)

whole : {A : Type 0} (xs : List A) (n : ℕ) → n ≡ length xs → take n xs ≡ xs
whole [] n is = rw is refl
whole (x ∷ xs) n is = rw is (ap (λ (ys : List _). x ∷ ys) (whole xs (length xs) refl))

-- no break comes before the last
uncut : (steps : List Step) (o : Option Cut) → ((cut : Cut) → o ≡ Some cut → cut.count ≡ length steps) → up_to o steps ≡ steps
uncut steps None last = refl
uncut steps (Some cut) last = whole steps cut.count (last cut refl)

by_set : (lined : LinedObject) (p : Place) (image : List ℕ) (found : Option (List ℕ)) → IsSound p.session.past.state → p.session.past.state.turns + length p.session.past.state.memory.pending < max_turns
    → IsImage p.session.past.state image → IsLeastSet p.session.past.state image found → IsUnstoppedCrash lined p found
    → (persisted : List ℕ) × (image ≡ image_at p.session.past.state.shape persisted) × AreAlike (crashed_at lined p found).place.session.past.state (fallen p.session.past.state persisted)
by_set lined p image None sound room is least unstopped-crash = absurd (least is)
by_set lined p image (Some places) sound room is least unstopped-crash =
    let v = p.session in
    let s = v.past.state in
    let steps = fall_at s.memory.pending places in
    let (persisted, shown, reached, fall) = falls_by_places s places image sound room least in
    let all : made steps (halt_of v steps) ≡ length steps =
    all_made v steps (run_of steps s).accepted (stopping_prefix v steps) (run_of steps s).refusal (halt_of v steps) fall.accepted refl unstopped-crash.stops in
    let they : take (made steps (halt_of v steps)) steps ≡ steps = whole steps (made steps (halt_of v steps)) all in
    let none : up_to (cut_of lined p.declared s steps) steps ≡ steps = uncut steps (cut_of lined p.declared s steps) unstopped-crash.breaks in (
      persisted,
      shown,
      rw none (subst (λ (xs : List Step). AreAlike (run_of xs s).state (fallen s persisted)) (sym they) fall.leaves),
    )

pub crashes_leave_the_image : CrashesLeaveTheImage
crashes_leave_the_image lined p image sound room is unstopped-crash =
    let s = p.session.past.state in
    let known = sound_whole s sound in
    by_set lined p image (closed_set_of s image) sound room is (is_least_set s.shape image s.memory sound.shape known.lines known.persisted) unstopped-crash
