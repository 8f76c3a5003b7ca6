use Rattle.std.proofs.Common.{drop}
use Rattle.text_tokens.specs.Text.{tokens_by}
use Rattle.line_forms.specs.Places.{IsFirstOf, IsWithin}
use Rattle.line_forms.proofs.places.nth_place.Given as goal

abbrev pub invariant-loop-passed : goal.invariant-loop-passed
invariant-loop-passed l = record {
  within : IsWithin l.text l.place;
  token : IsFirstOf l.marks l.ends l.text (drop l._passed (tokens_by l.marks l.ends l.text)) l.place;
}
