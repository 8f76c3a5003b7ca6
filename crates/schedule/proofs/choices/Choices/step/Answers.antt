use Rattle.std.proofs.Common.{◌∙◌, List, ap, sym, take, arith}
use Rattle.std.specs.Prelude.{slice_get}
use Rattle.machine.specs.declared.step.Step.{Step}
use Rattle.schedule.proofs.MaskedSteps.{exec_taken, drain_taken, persist_taken, settle_taken, none_behind}
use Rattle.schedule.proofs.choices.Choices.step.Goals as goal

pub returns-in-Ok : goal.returns-in-Ok
returns-in-Ok c =
    let self = c.self.inside in
    sym (ap (λ (steps : List Step). slice_get steps c.args.n) (sym c.self.view_is) ∙ exec_taken self.execs (take self.processors self.drains) self.persists self.settles c.args.n c.in-Ok.p (sym c.nth_in.ensures ∙ c.in-Ok.is))

pub returns-in-Ok-nth_drain : goal.returns-in-Ok-nth_drain
returns-in-Ok-nth_drain c =
    let self = c.self.inside in
    let drain = sym c.nth_drain.ensures ∙ c.in-Ok-nth_drain.is in
    sym (ap (λ (steps : List Step). slice_get steps c.args.n) (sym c.self.view_is)
    ∙ drain_taken self.execs (take self.processors self.drains) self.persists self.settles c.args.n c.in-Err.passed (sym c.nth_in.ensures ∙ c.in-Err.is) c.in-Ok-nth_drain.step drain)

pub returns-in-Ok-nth_in : goal.returns-in-Ok-nth_in
returns-in-Ok-nth_in c =
    let self = c.self.inside in
    let no_drain = sym c.nth_drain.ensures ∙ c.in-Err-nth_drain.is in
    sym (ap (λ (steps : List Step). slice_get steps c.args.n) (sym c.self.view_is)
    ∙ persist_taken self.execs (take self.processors self.drains) self.persists self.settles c.args.n c.in-Err.passed (sym c.nth_in.ensures ∙ c.in-Err.is) c.in-Err-nth_drain.passed no_drain
    c.in-Ok-nth_in.line (sym c.nth_in-2.ensures ∙ c.in-Ok-nth_in.is))

pub returns-then-n-gt0 : goal.returns-then-n-gt0
returns-then-n-gt0 c =
    let self = c.self.inside in
    let no_drain = sym c.nth_drain.ensures ∙ c.in-Err-nth_drain.is in
    sym (ap (λ (steps : List Step). slice_get steps c.args.n) (sym c.self.view_is)
    ∙ none_behind self.execs (take self.processors self.drains) self.persists self.settles c.args.n c.in-Err.passed (sym c.nth_in.ensures ∙ c.in-Err.is) c.in-Err-nth_drain.passed no_drain
    c.in-Err-nth_in.passed (sym c.nth_in-2.ensures ∙ c.in-Err-nth_in.is) c.if-n-gt0.true)

pub returns : goal.returns
returns c =
    let self = c.self.inside in
    let no_drain = sym c.nth_drain.ensures ∙ c.in-Err-nth_drain.is in
    c.then_some.ensures
    ∙ sym (ap (λ (steps : List Step). slice_get steps c.args.n) (sym c.self.view_is)
    ∙ settle_taken self.execs (take self.processors self.drains) self.persists self.settles c.args.n c.in-Err.passed (sym c.nth_in.ensures ∙ c.in-Err.is) c.in-Err-nth_drain.passed no_drain
    c.in-Err-nth_in.passed (sym c.nth_in-2.ensures ∙ c.in-Err-nth_in.is) (omega (arith, c.if-n-gt0.false)))
