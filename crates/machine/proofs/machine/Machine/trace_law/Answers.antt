use Rattle.std.proofs.Common.{◌≡◌, ℕ, ◌+◌, List, [], get_or, length, map, arith, sym, ◌∙◌, ap, subst}
use Rattle.std.proofs.lemmas.Option.{slice_get-get_or}
use Rattle.machine.specs.State.{Processor, State}
use Rattle.machine.specs.Objects.{opening}
use Rattle.outcomes.specs.Outcomes.{tested}
use Rattle.machine.specs.declared.step.Step.TheVariants.{Exec}
use Rattle.machine.specs.LooseSteps.{loose_step_of}
use Rattle.machine.specs.Noted.{CanNote, IsNoted}
use Rattle.machine.proofs.RunsAreRefusedForOrder.{answered_in_order}
use Rattle.machine.proofs.TraceLawFollowsRuns.{Follows, follows_first, follows_step, can_note, answer_end, answer_refused, answer_passed, tested_ok, tested_err, written_back}
use Rattle.machine.proofs.machine.Machine.trace_law.Goals as goal
use Rattle.machine.proofs.machine.Machine.trace_law.Goals.{in-Ok-test_unordered, in-Err-test_unordered}

pub loop-at-init : goal.loop-at-init
loop-at-init c =
    let o = c.args.object.now in
    let steps = c.args.steps.now in
    let at : c.in_ok-machine.machine ≡ opening o = c.in_ok-machine.ensures in
    let cpus : c.cpus.result.now ≡ (opening o).processors = c.cpus.ensures.value ∙ ap (λ (s : State). s.processors) at in
    let none : List Processor → List (List ℕ) = map (λ (x : Processor). []) in
    let items : c.in_ok-delayed.delayed.items ≡ none (opening o).processors = c.in_ok-delayed.ensures ∙ ap none cpus in
    subst (λ (d : List (List ℕ)). Follows o steps 0 c.in_ok-machine.machine d) (sym items)
    (subst (λ (s : State). Follows o steps 0 s (none (opening o).processors)) (sym at) (follows_first o steps))

pub note-requires : goal.note-requires
note-requires c =
    let there = slice_get-get_or c.args.steps.now c.loop-at.at (Exec 0) (omega arith) in
    subst (λ (d : List (List ℕ)). CanNote d c.in-Ok.seen) (sym c.deref_mut.ensures.value)
    (can_note c.args.object.now c.args.steps.now c.loop-at.at c.loop-at.machine c.step.new.self c.loop-at.delayed.items _ c.in-Ok.seen c.loop-at.invariant c.in-Ok.ensures.accepted)

pub loop-at-preserved : goal.loop-at-preserved
loop-at-preserved c =
    let there = slice_get-get_or c.args.steps.now c.loop-at.at (Exec 0) (omega arith) in
    let noted = subst (λ (d : List (List ℕ)). IsNoted c.loop-at.at c.in-Ok.seen d c.note.new.delayed) c.deref_mut.ensures.value c.note.ensures in
    let long : c.loop-at.delayed.len ≡ length c.note.new.delayed = omega (arith, c.loop-at.delayed.ok.0, noted.count) in
    let back = written_back c.note.new.delayed c.loop-at.delayed.items c.loop-at.delayed.len long in
    subst (λ (d : List (List ℕ)). Follows c.args.object.now c.args.steps.now (c.loop-at.at + 1) c.step.new.self d) (sym back)
    (follows_step c.args.object.now c.args.steps.now c.loop-at.at c.loop-at.machine c.step.new.self _ c.in-Ok.seen c.loop-at.delayed.items c.note.new.delayed
    c.loop-at.invariant there c.in-Ok.ensures.accepted noted)

pub returns-in-Err-clause-answer : goal.returns-in-Err-clause-answer
returns-in-Err-clause-answer c =
    let there = slice_get-get_or c.args.steps.now c.loop-at.at (Exec 0) (omega arith) in
    let step = get_or c.args.steps.now c.loop-at.at (Exec 0) in
    let same : c.step.new.self ≡ c.loop-at.machine = c.in-Err.ensures.same in
    let test : c.test_unordered.result ≡ tested (loose_step_of c.loop-at.machine step) =
    c.test_unordered.ensures ∙ ap (λ (s : State). tested (loose_step_of s step)) same in
    elim c.match-test_unordered.branch [
      | in-Ok-test_unordered w ↦
          let passed = tested_ok (loose_step_of c.loop-at.machine step) _ (sym test ∙ w.in-Ok-test_unordered.is) in
          let answer = answer_passed c.args.object.now c.args.steps.now c.loop-at.at c.loop-at.machine passed.1 c.loop-at.delayed.items _ c.in-Err.refusal passed.0
          c.loop-at.invariant there c.in-Err.ensures.refused passed.2 in
          rw (w.result-is, w.pair_by.ensures, w.deref.ensures.value) answer
      | in-Err-test_unordered w ↦
          let refused = tested_err (loose_step_of c.loop-at.machine step) _ (sym test ∙ w.in-Err-test_unordered.is) in
          rw w.result-is (answer_refused c.args.object.now c.args.steps.now c.loop-at.at c.loop-at.machine c.loop-at.delayed.items _ c.in-Err.refusal _ c.loop-at.invariant there c.in-Err.ensures.refused refused)
    ]

pub returns-in-Err-clause-order : goal.returns-in-Err-clause-order
returns-in-Err-clause-order c = answered_in_order c.args.object.now c.args.steps.now _ (returns-in-Err-clause-answer c)

pub returns-clause-answer : goal.returns-clause-answer
returns-clause-answer c = answer_end c.args.object.now c.args.steps.now c.loop-at.at c.loop-at.machine c.loop-at.delayed.items c.loop-at.invariant (omega arith)
