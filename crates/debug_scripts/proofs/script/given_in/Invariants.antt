use Rattle.std.proofs.Common.{◌≡◌, []}
use Rattle.text_tokens.specs.Cursors.{unread}
use Rattle.debug_scripts.specs.Rows.{given_from}
use Rattle.debug_scripts.proofs.script.given_in.Given as goal

abbrev pub invariant-loop-token : goal.invariant-loop-token
invariant-loop-token l = given_from l.layout l.given.items (unread l.token-iterator) ≡ given_from l.layout [] (unread l.fn.tokens)
