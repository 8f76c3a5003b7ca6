use Rattle.std.proofs.Common.{◌≡◌, ◌+◌, length}
use Rattle.text_tokens.specs.Text.{lines_of}
use Rattle.debug_scripts.specs.Scripts.{script_from, script_of}
use Rattle.debug_scripts.proofs.script.script_in.Given as goal

abbrev pub invariant-loop-line : goal.invariant-loop-line
invariant-loop-line l = record {
  same : script_from l.layout (l.number + 1) l.script (lines_of l.line-iterator.rest.now) ≡ script_of l.layout l.text;
  count : l.number + length (lines_of l.line-iterator.rest.now) ≡ length (lines_of l.text);
}
