use Rattle.std.proofs.Common.{◌≡◌, ◌+◌, length}
use Rattle.std.specs.Prelude.{nat_eq}
use Rattle.indexmap.specs.IndexMap.{get}
use Rattle.text_tokens.specs.Text.{lines_of}
use Rattle.explanations.proofs.OneMoreDeclaration.{IsReadTo}
use Rattle.explanations.proofs.script_faults.double_line.Given as goal

abbrev pub invariant-loop-line : goal.invariant-loop-line
invariant-loop-line l = record {
  read : IsReadTo (get nat_eq l.declared) (lines_of l.script) l.number (lines_of l.line-iterator.rest.now);
  count : l.number + length (lines_of l.line-iterator.rest.now) ≡ length (lines_of l.script);
}
