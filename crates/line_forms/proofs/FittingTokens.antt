-- How far tokens fit forms.
use Rattle.std.proofs.Common.{◌≡◌, refl, List, [], ◌∷◌}
use Rattle.text_tokens.specs.Cursors.{Token}
use Rattle.line_forms.specs.Misfits.{Form, fitting}

-- no tokens fit nothing
pub none_fit : (form : Form) (tokens : List Token) → tokens ≡ [] → fitting form tokens ≡ 0
none_fit [] tokens e = refl
none_fit (slot ∷ form) tokens e = rw e refl
