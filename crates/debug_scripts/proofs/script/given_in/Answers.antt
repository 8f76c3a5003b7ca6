use Rattle.std.proofs.Common.{◌≡◌, sym, ◌∙◌}
use Rattle.debug_scripts.proofs.GivenForms.{given_bad, given_end, given_next}
use Rattle.debug_scripts.proofs.script.given_in.Goals as goal

pub loop-token-preserved : goal.loop-token-preserved
loop-token-preserved c = given_next _ _ _ _ _ _ _ c.in-Some.ensures.steps (sym c.in-Ok.ensures) c.in_ok-push-in-Ok.ensures.items ∙ c.loop-token.invariant

pub returns-in-Err : goal.returns-in-Err
returns-in-Err c = sym c.loop-token.invariant ∙ given_bad _ _ _ _ _ _ c.in-Some.ensures.steps (sym c.in-Err.ensures)

pub returns : goal.returns
returns c = sym c.loop-token.invariant ∙ given_end _ _ _ c.in-None.ensures.steps.0
