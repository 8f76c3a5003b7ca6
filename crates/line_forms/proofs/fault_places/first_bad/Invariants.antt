use Rattle.std.proofs.Common.{◌≡◌, ◌+◌, ◌-◌, take}
use Rattle.std.specs.List.{prefix_len}
use Rattle.lines_layout.specs.Names.{is_name}
use Rattle.text_tokens.specs.Text.{tokens_of}
use Rattle.line_forms.specs.FaultPlaces.{bad_index}
use Rattle.line_forms.proofs.fault_places.first_bad.Given as goal

abbrev pub invariant-loop-passed : goal.invariant-loop-passed
invariant-loop-passed l = 1 + l.passed + prefix_len is_name (take (8 - l.passed) (tokens_of l.tokens.rest.now)) ≡ bad_index (tokens_of l.line)
