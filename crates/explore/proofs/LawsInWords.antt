-- Laws in words of the model: of persists, of crashes after own steps, and of keys.
use Rattle.std.proofs.Common.{◌≡◌, ℕ, inl, inr, Bool, true, false, Ok, List, map, sym, ap, subst, ◌∙◌}
use Rattle.std.specs.Prelude.{◌⊎◌}
use Rattle.persist_buffer.specs.State.{Memory}
use Rattle.pending_images.specs.Changes.{IsReached}
use Rattle.pending_images.specs.Images.{image_at}
use Rattle.machine.specs.declared.step.Seen.{Seen}
use Rattle.machine.specs.declared.step.Step.{Step}
use Rattle.machine.specs.declared.step.Step.TheVariants.{Persist, Settle}
use Rattle.machine.specs.Processors.{restart_of}
use Rattle.machine.specs.State.{State}
use Rattle.machine.specs.Steps.{step_of}
use Rattle.images.specs.Images.{IsImage}
use Rattle.explore.specs.Covering.{StandsFor}
use Rattle.explore.specs.Own.{is_private}
use Rattle.explore.specs.Questions.{is_move}
use Rattle.explore.specs.Sound.{IsSound}
use Rattle.explore.specs.LineSets.{AreHeld, Within}
use Rattle.explore.proofs.AheadSteps.{covers_itself, gone_restarts, move_adds}
use Rattle.explore.proofs.CoveredSteps.{persist_covered, settle_covered, sound_whole}
use Rattle.explore.proofs.HeldByLines.{reached_or_held}
use Rattle.explore.proofs.LaterMemories.{IsWhole, reached_before}
use Rattle.explore.proofs.OwnStepsEnd.{own_step_leads}
use Rattle.explore.proofs.SoundRuns.{step_sound}

-- ---- persisting

-- what a state that another covers may leave, the other may leave
pub left_before : (s t : State) (image : List ℕ) → t.shape ≡ s.shape → StandsFor s.memory t.memory → IsImage t image → IsImage s image
left_before s t image same stands (persisted, reached, shown) =
    (persisted, reached_before s.memory t.memory persisted stands reached, shown ∙ ap (λ (shape : List ℕ). image_at shape persisted) same)

pub persist_adds_none : (s t : State) (line : ℕ) (seen : Seen) (image : List ℕ) → IsSound s → step_of s (Persist line) ≡ Ok (seen, t) → IsImage t image → IsImage s image
persist_adds_none s t line seen image sound e left =
    let c = persist_covered false s s t line seen sound (covers_itself false s) e in
    left_before s t image c.shape c.memory left

pub settle_adds_none : (s t : State) (seen : Seen) (image : List ℕ) → IsSound s → step_of s Settle ≡ Ok (seen, t) → IsImage t image → IsImage s image
settle_adds_none s t seen image sound e left =
    let c = settle_covered false s s t seen sound (covers_itself false s) e in
    left_before s t image c.shape c.memory left

-- ---- own steps

pub restarts_alike : (locals : Bool) (s t : State) (step : Step) (seen : Seen) → is_move step ≡ true → step_of s step ≡ Ok (seen, t) → is_private locals t seen ≡ true
    → map restart_of s.processors ≡ map restart_of t.processors
restarts_alike locals s t step seen move made own =
    let leads = own_step_leads false locals s t step seen move made own in
    gone_restarts locals t.shape s.processors t.processors leads.covers.processors

pub own_loses_none : (locals : Bool) (s t : State) (step : Step) (seen : Seen) (image : List ℕ) → is_move step ≡ true → step_of s step ≡ Ok (seen, t) → is_private locals t seen ≡ true
    → IsImage s image → IsImage t image
own_loses_none locals s t step seen image move made own left =
    let leads = own_step_leads false locals s t step seen move made own in
    left_before t s image leads.covers.shape leads.covers.memory left

-- ---- what lines may hold

-- after a step of a processor
pub moved_or_held : (s t : State) (step : Step) (seen : Seen) (persisted : List ℕ) → IsSound s → is_move step ≡ true → step_of s step ≡ Ok (seen, t) → IsReached t.memory persisted → IsReached s.memory persisted ⊎ AreHeld t.memory persisted
moved_or_held s t step seen persisted sound move made reached =
    elim (move_adds s t step seen move made) [
      | inl same ↦ inl (subst (λ (m : Memory). IsReached m persisted) same reached)
      | inr (entry, is) ↦
          elim (reached_or_held s.memory entry persisted (subst IsWhole is (sound_whole t (step_sound s t step seen sound made))) (subst (λ (m : Memory). IsReached m persisted) is reached)) [
            | inl before ↦ inl before
            | inr held ↦ inr (subst (λ (m : Memory). AreHeld m persisted) (sym is) held)
          ]
    ]

pub persist_within : (s t : State) (line : ℕ) (seen : Seen) → IsSound s → step_of s (Persist line) ≡ Ok (seen, t) → Within s.memory t.memory
persist_within s t line seen sound e = (persist_covered true s s t line seen sound (covers_itself true s) e).memory

pub settle_within : (s t : State) (seen : Seen) → IsSound s → step_of s Settle ≡ Ok (seen, t) → Within s.memory t.memory
settle_within s t seen sound e = (settle_covered true s s t seen sound (covers_itself true s) e).memory
