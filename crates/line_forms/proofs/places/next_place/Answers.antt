use Rattle.std.proofs.Common.{◌∙◌, ap, arith, drop}
use Rattle.text_tokens.specs.Text.{past_blanks, tokens_by}
use Rattle.line_forms.proofs.TokenPlaces.{IsNext, next_is, none_is}
use Rattle.line_forms.proofs.places.next_place.Goals as goal

pub returns-in_default-clause-token : goal.returns-in_default-clause-token
returns-in_default-clause-token c =
    none_is c.args.marks.now c.args.ends.now (drop c.args.from c.args.text.now) c.skip_blanks-rest.result.now
    (c.skip_blanks-rest.ensures.text ∙ ap past_blanks c.split_at.ensures.back) c.in_default.ensures

next : (c : goal.In-Some) → IsNext c.args.marks.now c.args.ends.now c.args.text.now c.args.from c.skip_blanks-rest.result.now c.in-Some.token.now
next c =
    next_is c.args.marks.now c.args.ends.now c.args.text.now c.args.from c.skip_blanks-rest.result.now c.in-Some.token.now (tokens_by c.args.marks.now c.args.ends.now c.in-Some.field-0-1.now)
    c.requires.within c.requires.goes_on (c.skip_blanks-rest.ensures.text ∙ ap past_blanks c.split_at.ensures.back) c.skip_blanks-rest.ensures.front c.in-Some.ensures

pub returns-clause-within : goal.returns-clause-within
returns-clause-within c =
    let there : IsNext c.args.marks.now c.args.ends.now c.args.text.now c.args.from c.skip_blanks-rest.result.now c.in-Some.token.now = next c in
    (omega arith, omega (arith, there.short, there.late))

pub returns-clause-token : goal.returns-clause-token
returns-clause-token c = (next c).first
