use Rattle.std.proofs.Common.{◌≡◌, drop}
use Rattle.questions.specs.Scopes.{entry_named}
use Rattle.questions.proofs.scope.entry_named.Given as goal

abbrev pub invariant-loop-entry : goal.invariant-loop-entry
invariant-loop-entry l = entry_named (drop l.entry-index l.entries) l.token ≡ entry_named l.entries l.token
