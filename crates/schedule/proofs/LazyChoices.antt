-- From what a lazy turn chooses.
use Rattle.std.proofs.Common.{◌≡◌, ℕ, ◌+◌, ◌^◌, ◌<◌, Bool, true, false, List, [], ◌∷◌, ◌++◌, length, map, refl, sym, ap, ◌∙◌, inl, inr}
use Rattle.std.specs.Prelude.{not, if◌then◌else◌}
use Rattle.std.specs.List.{Contains, filter, range_with_len}
use Rattle.std.proofs.lemmas.Bool.{cases_Bool}
use Rattle.std.proofs.lemmas.List.Elements.{filter-append}
use Rattle.machine.specs.declared.step.Step.{Step}
use Rattle.machine.specs.declared.step.Step.TheVariants.{Exec, Drain, Persist, Settle}
use Rattle.machine.specs.Accepted.{accepts, runnable_of}
use Rattle.machine.specs.State.{State}
use Rattle.schedule.specs.Choices.{drains_in, steps_in}
use Rattle.schedule.specs.Enabled.{choices_of, drains, enabled_of, execs, is_memory_step, persists}
use Rattle.schedule.specs.Masks.{mask_room, numbers_in}
use Rattle.schedule.proofs.EnabledStepsAreThoseAccepted.{passes}
use Rattle.schedule.proofs.MaskNumbers.{none_in}
use Rattle.schedule.proofs.MaskedSteps.{filter-map, numbered}

-- whether a lazy turn may choose a step
abbrev stays : Step → Bool
stays step = not (is_memory_step step)

-- ---- what it chooses

pub are_enabled : (lazy : Bool) (s : State) (step : Step) → Contains (choices_of lazy s) step → Contains (enabled_of s) step
are_enabled true s step there = (passes stays (enabled_of s) step there).1
are_enabled false s step there = there

pub no_memory_step : (s : State) (step : Step) → Contains (choices_of true s) step → is_memory_step step ≡ false
no_memory_step s step there = by (is_memory_step step) (passes stays (enabled_of s) step there).0
  where
    by : (b : Bool) → not b ≡ true → b ≡ false
    by true is = absurd (cc)
    by false is = refl

-- ---- the same by masks

all_stay : (f : ℕ → Step) → ((k : ℕ) → stays (f k) ≡ true) → (ks : List ℕ) → filter stays (map f ks) ≡ map f ks
all_stay f each [] = refl
all_stay f each (k ∷ ks) = rw (each k, all_stay f each ks) refl

none_stay : (f : ℕ → Step) → ((k : ℕ) → stays (f k) ≡ false) → (ks : List ℕ) → filter stays (map f ks) ≡ []
none_stay f each [] = refl
none_stay f each (k ∷ ks) = rw (each k) (none_stay f each ks)

drains_stay : (p : ℕ) (masks : List ℕ) → filter stays (drains_in p masks) ≡ drains_in p masks
drains_stay p [] = refl
drains_stay p (mask ∷ masks) =
    filter-append stays (map (Drain p) (numbers_in mask)) (drains_in (p + 1) masks)
    ∙ ap (λ l. l ++ filter stays (drains_in (p + 1) masks)) (all_stay (Drain p) (λ k. refl) (numbers_in mask))
    ∙ ap (λ l. map (Drain p) (numbers_in mask) ++ l) (drains_stay (p + 1) masks)

settle_goes : (p : Step → Bool) → filter stays (filter p (Settle ∷ [])) ≡ []
settle_goes p = elim (cases_Bool (p Settle)) [ inl passed ↦ rw passed refl | inr failed ↦ rw failed refl ]

-- of four kinds of steps each is filtered by itself
each_filtered : (p : Step → Bool) (one two three four : List Step) → filter p (((one ++ two) ++ three) ++ four) ≡ ((filter p one ++ filter p two) ++ filter p three) ++ filter p four
each_filtered p one two three four = rw (filter-append p ((one ++ two) ++ three) four, filter-append p (one ++ two) three, filter-append p one two) refl

module _ (s : State) (runnable : ℕ) (masks : List ℕ) where
  pub lazy_steps : runnable < 2 ^ mask_room → runnable ≡ runnable_of s → drains_in 0 masks ≡ filter (accepts s) (drains s) → steps_in runnable masks 0 false ≡ choices_of true s
  lazy_steps fits run drained =
      let some : Step → Bool = accepts s in
      let one : filter stays (filter some (execs s)) ≡ map Exec (numbers_in runnable) =
      ap (filter stays) (sym (numbered s Exec (length s.processors) runnable fits run)) ∙ all_stay Exec (λ k. refl) (numbers_in runnable) in
      let two : filter stays (filter some (drains s)) ≡ drains_in 0 masks = ap (filter stays) (sym drained) ∙ drains_stay 0 masks in
      let three : filter stays (filter some (persists s)) ≡ [] =
      ap (filter stays) (filter-map some Persist (range_with_len 0 (length s.shape))) ∙ none_stay Persist (λ k. refl) (filter (λ k. some (Persist k)) (range_with_len 0 (length s.shape))) in
      let all : choices_of true s ≡ ((map Exec (numbers_in runnable) ++ drains_in 0 masks) ++ []) ++ [] =
      ap (filter stays) (each_filtered some (execs s) (drains s) (persists s) (Settle ∷ []))
      ∙ each_filtered stays (filter some (execs s)) (filter some (drains s)) (filter some (persists s)) (filter some (Settle ∷ []))
      ∙ rw (one, two, three, settle_goes some) refl in
      rw none_in (sym all)
