-- How many of the first tokens are names.
use Rattle.std.proofs.Common.{◌≡◌, ℕ, zero, suc, ◌+◌, true, false, List, [], ◌∷◌, take, refl, arith}
use Rattle.std.specs.List.{prefix_len}
use Rattle.lines_layout.specs.Names.{is_name}
use Rattle.text_tokens.specs.Cursors.{Token}

-- none of no tokens
pub none_named : (n : ℕ) (tokens : List Token) → n ≡ 0 → prefix_len is_name (take n tokens) ≡ 0
none_named n tokens e = rw e refl

pub end_named : (n : ℕ) (tokens : List Token) → tokens ≡ [] → prefix_len is_name (take n tokens) ≡ 0
end_named zero tokens e = refl
end_named (suc n) tokens e = rw e refl

-- the first is no name
pub first_unnamed : (n : ℕ) (tokens others : List Token) (w : Token) → tokens ≡ w ∷ others → is_name w ≡ false → prefix_len is_name (take n tokens) ≡ 0
first_unnamed zero tokens others w e h = refl
first_unnamed (suc n) tokens others w e h = rw (e, h) refl

-- the first is a name
pub first_named : (n m : ℕ) (tokens others : List Token) (w : Token) → n ≡ m + 1 → tokens ≡ w ∷ others → is_name w ≡ true
    → prefix_len is_name (take n tokens) ≡ 1 + prefix_len is_name (take m others)
first_named zero m tokens others w s e h = absurd (omega arith)
first_named (suc n) m tokens others w s e h = let same : n ≡ m = omega arith in rw (e, h, same) refl

pub ruleset named_steps = (none_named, end_named, first_unnamed, first_named)
