use Rattle.std.proofs.Common.{◌≤◌, ◌∙◌, length}
use Rattle.text_tokens.specs.Text.{tokens_by}
use Rattle.line_forms.proofs.TokenPlaces.{few_behind, more_behind}
use Rattle.line_forms.proofs.places.nth_place.Goals as goal

pub returns-in_err-place-2-clause-token : goal.returns-in_err-place-2-clause-token
returns-in_err-place-2-clause-token c =
    let few : length (tokens_by c.args.marks.now c.args.ends.now c.args.text.now) ≤ c.args.index =
    few_behind _ _ _ c.loop-passed._passed c.args.index c.loop-passed-test.true c.loop-passed.invariant.token.token c.in_err-place-2.ensures.token in
    rw c.from_residual-in_err-place-2.ensures few

pub loop-passed-preserved : goal.loop-passed-preserved
loop-passed-preserved c = record {
  within = c.in_ok-place-2.ensures.within;
  token = record {
    token = more_behind (tokens_by c.args.marks.now c.args.ends.now c.args.text.now) _ _ c.loop-passed._passed c.loop-passed.invariant.token.token ∙ c.in_ok-place-2.ensures.token.token;
    goes_on = c.in_ok-place-2.ensures.token.goes_on;
  };
}
