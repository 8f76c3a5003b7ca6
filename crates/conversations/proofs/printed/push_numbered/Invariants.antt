use Rattle.std.proofs.Common.{◌≡◌, ◌++◌, [], drop, string_bytes}
use Rattle.machine.specs.Programs.{AreSiblings}
use Rattle.commands.specs.StateTexts.{placed_lines}
use Rattle.conversations.specs.Printed.{tried_in}
use Rattle.conversations.proofs.printed.push_numbered.Given as goal

abbrev pub invariant-loop-i : goal.invariant-loop-i
invariant-loop-i l = record {
  text : string_bytes l.text ++ placed_lines [] (tried_in l.layout l.machine) l.i (drop l.i l.steps)
      ≡ string_bytes l.fn.text ++ placed_lines [] (tried_in l.layout l.machine) 0 l.steps;
  siblings : AreSiblings l.spare l.machine;
}
