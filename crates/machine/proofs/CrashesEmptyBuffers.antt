-- What a crash leaves of a processor.
use Rattle.std.proofs.Common.{◌≡◌, ℕ, ◌+◌, Option, Some, None, Result, Ok, Err, List, [], map, option_map, sym, ◌∙◌, ap, subst, inl, inr}
use Rattle.std.specs.Prelude.{slice_get, nat_le}
use Rattle.std.proofs.lemmas.Bool.{cases_Bool}
use Rattle.std.proofs.lemmas.Option.{slice_get-map}
use Rattle.machine.specs.declared.step.Step.TheVariants.{Crash}
use Rattle.machine.specs.declared.step.Seen.{Seen}
use Rattle.machine.specs.declared.step.Seen.TheVariants.{Crashed}
use Rattle.machine.specs.declared.refusal.Refusal.{Refusal}
use Rattle.machine.specs.declared.refusal.Refusal.TheVariants.{Spent}
use Rattle.machine.specs.Limits.{max_turns}
use Rattle.machine.specs.State.{Processor, State}
use Rattle.machine.specs.Processors.{restart_of}
use Rattle.machine.specs.Steps.{crash_of, step_of}
use Rattle.outcomes.proofs.PartsOfOutcomes.{answer_of}

by_restart : (o : Option Processor) (c : Processor) → option_map restart_of o ≡ Some c → c.buffer ≡ []
by_restart None c e = absurd (cc)
by_restart (Some old) c e =
    let same : c ≡ restart_of old = cc in
    ap (λ (x : Processor). x.buffer) same

pub buffers_empty : (cpus : List Processor) (p : ℕ) (c : Processor) → slice_get (map restart_of cpus) p ≡ Some c → c.buffer ≡ []
buffers_empty cpus p c there = by_restart (slice_get cpus p) c (sym (slice_get-map restart_of cpus p) ∙ there)

-- an accepted crash leaves what the rule says
crash_leaves : (s t : State) (seen : Seen) → step_of s Crash ≡ Ok (seen, t) → t ≡ record (crash_of s) { turns = s.turns + 1 }
crash_leaves s t seen e =
    elim (cases_Bool (nat_le max_turns s.turns)) [
      | inl spent ↦ let refused : ◌≡◌ {A = Result (Seen × State) Refusal} (Err Spent) (Ok (seen, t)) = rw spent at e in absurd (cc)
      | inr goes ↦ let accepted : ◌≡◌ {A = Result (Seen × State) Refusal} (Ok (Crashed (s.crashes + 1), record (crash_of s) { turns = s.turns + 1 })) (Ok (seen, t)) = rw goes at e in (answer_of _ _ _ _ accepted).1
    ]

pub nothing_buffered : (s t : State) (seen : Seen) (p : ℕ) (c : Processor) → step_of s Crash ≡ Ok (seen, t) → slice_get t.processors p ≡ Some c → c.buffer ≡ []
nothing_buffered s t seen p c e there =
    let after : t.processors ≡ map restart_of s.processors = ap (λ (x : State). x.processors) (crash_leaves s t seen e) in
    buffers_empty s.processors p c (subst (λ (cpus : List Processor). slice_get cpus p ≡ Some c) after there)
