use Rattle.std.proofs.Common.{◌≡◌, ◌≤◌, ℕ, zero, suc, None, List, [], ◌∷◌, append-nil, arith, length, refl, sym}
use Rattle.std.specs.Prelude.{slice_get}
use Rattle.image_reasons.proofs.stores.push_place.Goals as goal

nothing_past : {X : Type 0} (xs : List X) (i : ℕ) → length xs ≤ i → slice_get xs i ≡ None
nothing_past [] i past = refl
nothing_past (x ∷ xs) zero past = absurd (omega (arith, past))
nothing_past (x ∷ xs) (suc i) past = nothing_past xs i (omega (arith, past))

pub returns-in-None : goal.returns-in-None
returns-in-None c =
    let past : length c.args.pended.now ≤ c.args.place = c.in-None.ensures.lookup.3 in
    rw (nothing_past c.args.pended.now c.args.place past) (sym (append-nil c.args.kept.now.items))
