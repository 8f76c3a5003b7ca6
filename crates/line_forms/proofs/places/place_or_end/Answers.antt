use Rattle.std.proofs.Common.{◌≡◌, ◌<◌, ◌≤◌, [], arith, drop, length, refl}
use Rattle.text_tokens.specs.Text.{tokens_by}
use Rattle.line_forms.proofs.TokenPlaces.{none_behind, some_behind}
use Rattle.line_forms.proofs.places.place_or_end.Goals as goal

pub returns-in-Some-nth_place-clause-token : goal.returns-in-Some-nth_place-clause-token
returns-in-Some-nth_place-clause-token c =
    let some : 0 < c.args.index = omega arith in
    let few : length (tokens_by c.args.marks.now c.args.ends.now c.args.text.now) ≤ c.args.index = c.in_default.ensures.token in
    let none : tokens_by c.args.marks.now c.args.ends.now (drop c.in-Some-nth_place.before.to c.args.text.now) ≡ [] = none_behind _ _ _ c.args.index some few c.in-Some-nth_place.ensures.token.token in
    rw c.at-in-Some-nth_place.ensures (record { token = λ h. absurd (omega arith); end = λ _. (refl, none); missing = λ _ _. record { before = c.in-Some-nth_place.before; token = c.in-Some-nth_place.ensures.token; start = refl }; none = λ zero _. absurd (omega arith); past = λ far. absurd (omega (arith, some_behind _ _ _ c.args.index c.in-Some-nth_place.ensures.token.token)) })
