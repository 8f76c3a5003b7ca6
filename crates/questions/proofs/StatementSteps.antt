-- One more token of a condition.
use Rattle.std.proofs.Common.{◌≡◌, ℕ, ◌+◌, true, false, Ok, Err, List, [], ◌∷◌, nat_le, refl}
use Rattle.text_tokens.specs.Cursors.{Token}
use Rattle.litmus_text.specs.declared.fault.LineFault.{LineFault}
use Rattle.conditions.specs.declared.fault.TokenFault.TheVariants.{BadCond}
use Rattle.conditions.specs.declared.fault.CondFault.TheVariants.{At}
use Rattle.questions.specs.Limits.{max_tokens}
use Rattle.questions.specs.Scopes.{Scope}
use Rattle.questions.specs.Bodies.{Body, body_after}
use Rattle.questions.specs.Conditions.{statement_at_end, statement_from, told_at}

pub at_end : (scope : Scope) (n : ℕ) (b : Body) (ws : List Token) → ws ≡ [] → statement_from scope n b ws ≡ statement_at_end n b
unfolding statement_from
at_end scope n b ws e = rw e refl

pub at_limit : (scope : Scope) (n : ℕ) (b : Body) (ws : List Token) (w : Token) (others : List Token) → ws ≡ w ∷ others → nat_le max_tokens n ≡ true → statement_from scope n b ws ≡ Err (At BadCond n)
unfolding statement_from
at_limit scope n b ws w others e limit = rw (e, limit) refl

pub at_fault : (scope : Scope) (n : ℕ) (b : Body) (ws : List Token) (w : Token) (others : List Token) (kind : LineFault)
    → ws ≡ w ∷ others → nat_le max_tokens n ≡ false → body_after scope b w ≡ Err kind → statement_from scope n b ws ≡ Err (told_at n kind)
unfolding statement_from
at_fault scope n b ws w others kind e few fault = rw (e, few, fault) refl

pub at_read : (scope : Scope) (n : ℕ) (b next : Body) (ws : List Token) (w : Token) (others : List Token)
    → ws ≡ w ∷ others → nat_le max_tokens n ≡ false → body_after scope b w ≡ Ok next → statement_from scope (n + 1) next others ≡ statement_from scope n b ws
unfolding statement_from
at_read scope n b next ws w others e few read = rw (e, few, read) refl

pub ruleset statement_steps = (at_end, at_limit, at_fault, at_read)
