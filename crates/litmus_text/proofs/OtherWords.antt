-- A word with which no instruction begins.
use Rattle.std.proofs.Common.{◌≡◌, ℕ, Bool, true, false, Err, List, [], ◌∷◌, bytes_eq, refl}
use Rattle.std.specs.Prelude.{◌||◌}
use Rattle.std.specs.List.{list_any, AllByRecursion}
use Rattle.lines_layout.specs.Layouts.{NamedLines}
use Rattle.litmus_text.specs.declared.fault.LineFault.TheVariants.{BadWord}
use Rattle.text_tokens.specs.Cursors.{Token}
use Rattle.litmus_text.specs.Instructions.{instruction_at, program_line_at, operations, is_operation}

neither_of : (a b : Bool) → (a || b) ≡ false → (a ≡ false) × (b ≡ false)
neither_of true b h = absurd cc
neither_of false b h = (refl, h)

none_of_these : (w : Token) (others : List Token) → list_any (bytes_eq w) others ≡ false → AllByRecursion (λ v. bytes_eq w v ≡ false) others
none_of_these w [] h = tt
none_of_these w (v ∷ others) h =
    let both = neither_of (bytes_eq w v) (list_any (bytes_eq w) others) h in
    (both.0, none_of_these w others both.1)

-- it is a token out of place
pub no_operation : (layout : NamedLines) (n : ℕ) (w : Token) (ts : List Token) → is_operation w ≡ false → program_line_at layout n w ts ≡ Err BadWord
unfolding program_line_at instruction_at
no_operation layout n w ts none =
    let no = none_of_these w operations none in
    rw (no.0, no.1.0, no.1.1.0, no.1.1.1.0, no.1.1.1.1.0, no.1.1.1.1.1.0, no.1.1.1.1.1.1.0, no.1.1.1.1.1.1.1.0, no.1.1.1.1.1.1.1.1.0, no.1.1.1.1.1.1.1.1.1.0, no.1.1.1.1.1.1.1.1.1.1.0, no.1.1.1.1.1.1.1.1.1.1.1.0, no.1.1.1.1.1.1.1.1.1.1.1.1.0, no.1.1.1.1.1.1.1.1.1.1.1.1.1.0) refl
