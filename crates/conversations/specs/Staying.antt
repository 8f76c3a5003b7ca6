-- A conversation stays about its program: `why` and `check`, which speak of the steps made, speak of the state that all else is about.
use Rattle.std.specs.Prelude.{◌≡◌, ℕ, List}
use Rattle.litmus_text.specs.declared.text_lines.LinedObject.{LinedObject}
use Rattle.machine.specs.Objects as machines
use Rattle.debugger.specs.Pasts.{IsPast}
use Rattle.debugger.specs.Sessions.{SessionValue}
use Rattle.conversations.specs.Checking.{Found, reached}
use Rattle.conversations.specs.Answered.{Place, answer_to, first_place}

-- A session began at the machine of the program, and its steps led to its state.
pub record IsAbout (lined : LinedObject) (v : SessionValue) : Type 0 where
  pub begun : v.past.opening ≡ machines.opening lined.object
  pub led : IsPast v.past

-- It is so at first, and where it is so, also after the answer to a line, whatever is found for it. The steps made lead to the state
-- then.
pub record StaysAbout (lined : LinedObject) : Type 0 where
  pub first : IsAbout lined (first_place (machines.opening lined.object)).session
  pub next : (p : Place) (line : List ℕ) (found : Found) → IsAbout lined p.session → IsAbout lined (answer_to lined p line found).place.session
  pub here : (p : Place) → IsAbout lined p.session → reached lined p.session.past.history ≡ p.session.past.state
