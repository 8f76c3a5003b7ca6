use Rattle.std.proofs.Common.{◌≡◌, ◌∙◌, true, subst, sym}
use Rattle.machine.specs.State.{State}
use Rattle.images.specs.Truth.{holds_in}
use Rattle.causes.proofs.Leads.{holds_here}
use Rattle.causes.proofs.keeps.keeps_image.Goals as goal

pub returns-in-Some : goal.returns-in-Some
returns-in-Some c = λ is. record {
  condition = c.in-Some.condition;
  asked = c.in-Some.is;
  holds = holds_here c.args.machine.now c.in-Some.condition (subst (λ (s : State). holds_in s c.in-Some.condition ≡ true) c.view.ensures (sym c.holds.ensures ∙ is));
}
