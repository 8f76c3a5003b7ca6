use Rattle.std.proofs.Common.{◌∙◌, sym, ap}
use Rattle.debugger.specs.Values.{session_of}
use Rattle.debug_scripts.specs.declared.orders.Command.{Command}
use Rattle.debug_scripts.specs.Replies.{Went, WentOn, turn}
use Rattle.debug_scripts.proofs.PlayedCommands.{back_shape, either_shape, forgot, words_of}
use Rattle.debug_scripts.proofs.session.answer.Goals as goal

pub returns-in_ok-halt-in-Go-clause-turn : goal.returns-in_ok-halt-in-Go-clause-turn
returns-in_ok-halt-in-Go-clause-turn g c = rw c.in-Go.is (c.in_ok-halt-in-Go.ensures.made Went ∙ forgot Went _ c.args.ahead.now _ c.forget_rest.ensures)

pub returns-in_ok-halt-in-Continue-clause-turn : goal.returns-in_ok-halt-in-Continue-clause-turn
returns-in_ok-halt-in-Continue-clause-turn g c = rw c.in-Continue.is (c.in_ok-halt-in-Continue.ensures.made WentOn)

pub returns-in-Back-clause-words : goal.returns-in-Back-clause-words
returns-in-Back-clause-words g c = words_of _ _ (either_shape _ _ _ c.back.result (back_shape _ c.in-Back.count) c.back.ensures.session c.back.ensures.same)
