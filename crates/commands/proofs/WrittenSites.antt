-- A site that a report writes is the one that its text names.
use Rattle.std.proofs.Common.{◌≡◌, ℕ, ◌<◌, ◌^◌, Bool, true, false, Some, List, [], ◌∷◌, ◌++◌, refl, ap, ◌∙◌, append_assoc, arith}
use Rattle.std.specs.Prelude.{codes, decimal}
use Rattle.text_tokens.specs.Cursors.{Token, end_at, token_at}
use Rattle.text_tokens.specs.Text.{tokens_of}
use Rattle.text_tokens.proofs.NumbersAreRead.{decimal_token, last_decimal, small_number_of-decimal}
use Rattle.commands.specs.AskedSites.{number_at, processor_at, program_at, site_at, site_named}
use Rattle.commands.specs.StateTexts.{program_text, site_text}

abbrev behind : Token → List Token → List Token
behind token tokens = token ∷ tokens

-- the tokens of a written site
tokens_are : (p : ℕ) (recovery : Bool) (place : ℕ) → p < 2 ^ 32 → place < 2 ^ 32
    → tokens_of (site_text p recovery place) ≡ codes "cpu" ∷ decimal p ∷ program_text recovery ∷ decimal place ∷ []
unfolding tokens_of
tokens_are p false place low h =
    let regrouped : site_text p false place ≡ codes "cpu " ++ (decimal p ++ (32 ∷ (codes "main " ++ decimal place))) = simp append_assoc in
    ap tokens_of regrouped
    ∙ ap (behind (codes "cpu"))
    (decimal_token p (32 ∷ (codes "main " ++ decimal place)) (omega (arith, low)) refl
    ∙ ap (behind (decimal p)) (ap (behind (codes "main")) (last_decimal place (omega (arith, h)))))
tokens_are p true place low h =
    let regrouped : site_text p true place ≡ codes "cpu " ++ (decimal p ++ (32 ∷ (codes "recover " ++ decimal place))) = simp append_assoc in
    ap tokens_of regrouped
    ∙ ap (behind (codes "cpu"))
    (decimal_token p (32 ∷ (codes "recover " ++ decimal place)) (omega (arith, low)) refl
    ∙ ap (behind (decimal p)) (ap (behind (codes "recover")) (last_decimal place (omega (arith, h)))))

pub written_site : (p : ℕ) (recovery : Bool) (place : ℕ) → p < 2 ^ 32 → place < 2 ^ 32
    → site_named (site_text p recovery place) ≡ Some (record { processor = p; recovery = recovery; place = place })
unfolding site_at processor_at program_at number_at token_at end_at
written_site p false place low h = rw (tokens_are p false place low h, small_number_of-decimal p low, small_number_of-decimal place h) refl
written_site p true place low h = rw (tokens_are p true place low h, small_number_of-decimal p low, small_number_of-decimal place h) refl
