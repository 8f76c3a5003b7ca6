-- Outcomes of ranges, put together.
use Rattle.std.proofs.Common.{◌≡◌, ℕ, zero, suc, ◌+◌, ◌∷◌, ◌++◌, length, drop, sym, ap, ◌∙◌, arith}
use Rattle.std.proofs.Math.Seq.{drop-append_seam}
use Rattle.std.proofs.lemmas.List.FromFn.{length-map-range_with_len}
use Rattle.machine.specs.State.{State}
use Rattle.schedule.specs.declared.plan.Plan.{Plan}
use Rattle.hunt.specs.Outcomes.{outcome_of, outcomes_below, outcomes_from}

pub outcomes_join : (plan : Plan) (s : State) (a p q : ℕ) → outcomes_from plan s a (p + q) ≡ outcomes_from plan s a p ++ outcomes_from plan s (a + p) q
outcomes_join plan s a zero q =
    let e : 0 + q ≡ q = omega arith in let g : a ≡ a + 0 = omega arith in
    ap (outcomes_from plan s a) e ∙ ap (λ n. outcomes_from plan s n q) g
outcomes_join plan s a (suc p) q =
    let e : suc p + q ≡ suc (p + q) = omega arith in let g : (a + 1) + p ≡ a + suc p = omega arith in
    ap (outcomes_from plan s a) e
    ∙ ap (λ l. outcome_of plan s a ∷ l) (outcomes_join plan s (a + 1) p q ∙ ap (λ n. outcomes_from plan s (a + 1) p ++ outcomes_from plan s n q) g)

-- the outcomes of a range are those of all schedules up to its end, without those before it
pub outcomes_are_parts : (plan : Plan) (s : State) (first n : ℕ) → outcomes_from plan s first n ≡ drop first (outcomes_below plan s (first + n))
outcomes_are_parts plan s first n =
    let place : 0 + first ≡ first = omega arith in
    let before : length (outcomes_below plan s first) ≡ first = length-map-range_with_len (outcome_of plan s) 0 first in
    sym (drop-append_seam (outcomes_below plan s first) (outcomes_from plan s first n))
    ∙ ap (λ k. drop k (outcomes_below plan s first ++ outcomes_from plan s first n)) before
    ∙ ap (λ k. drop first (outcomes_below plan s first ++ outcomes_from plan s k n)) (sym place)
    ∙ ap (drop first) (sym (outcomes_join plan s 0 first n))
