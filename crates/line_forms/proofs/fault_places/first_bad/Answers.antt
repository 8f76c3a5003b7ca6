use Rattle.std.proofs.Common.{◌≡◌, ◌-◌, ◌∙◌, arith, false, sym, take}
use Rattle.std.specs.List.{prefix_len}
use Rattle.lines_layout.specs.Names.{is_name}
use Rattle.text_tokens.specs.Text.{tokens_of}
use Rattle.line_forms.proofs.NamedTokens.{first_unnamed}
use Rattle.line_forms.proofs.fault_places.first_bad.Goals as goal

pub returns-then-not-is_name : goal.returns-then-not-is_name
returns-then-not-is_name c =
    let unnamed : is_name c.in-Some.name.now ≡ false = sym c.is_name.ensures ∙ c.if-not-is_name.true in
    let none : prefix_len is_name (take (8 - c.loop-passed.passed) (tokens_of c.loop-passed.tokens.rest.now)) ≡ 0 = first_unnamed (8 - c.loop-passed.passed) _ _ _ c.in-Some.ensures.steps unnamed in
    omega (arith, none, c.loop-passed.invariant)
