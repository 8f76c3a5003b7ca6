use Rattle.std.proofs.Common.{◌∙◌, List, ap, sym}
use Rattle.machine.specs.declared.step.Step.{Step}
use Rattle.debugger.specs.Halts.{made}
use Rattle.debugger.specs.Values.{session_of}
use Rattle.debug_scripts.proofs.PlayedCommands.{tried_ahead, went, went_shape, words_of, made_halt}
use Rattle.debug_scripts.proofs.session.go.Goals as goal

pub leave-requires : goal.leave-requires
leave-requires g c =
    tried_ahead (session_of (λ b. (goal.Watcher-dyn g (b.vtable, b.value)).meaning_of b.value) c.args.session.now)
    c.all.result.now _ c.go-halt.result c.go-halt.ensures.halt c.all.ensures

pub returns-in-NoMemory-clause-words : goal.returns-in-NoMemory-clause-words
returns-in-NoMemory-clause-words g c = words_of _ _ (went_shape _ _ _ c.go-halt.ensures.session)

pub returns-in_default-clause-made : goal.returns-in_default-clause-made
returns-in_default-clause-made g c = went _ _ c.args.ahead.now _ c.all.result.now c.go-halt.result _ c.all.ensures c.go-halt.ensures.halt c.go-halt.ensures.session c.leave.ensures
    (c.count_made-count.ensures ∙ ap (λ (xs : List Step). made xs c.go-halt.result) (c.all-2.ensures ∙ sym c.all.ensures)) (made_halt _ c.in_default.not-NoMemory)

pub returns-in_default-clause-words : goal.returns-in_default-clause-words
returns-in_default-clause-words g c = words_of _ _ (went_shape _ _ _ c.go-halt.ensures.session)
