use Rattle.std.proofs.Common.{◌≡◌, ◌∙◌, ap, sym, true, false, List, map}
use Rattle.text_tokens.specs.Text.{tokens_of}
use Rattle.line_forms.specs.Forms.{is_of, is_whole, script_forms}
use Rattle.line_forms.specs.Misfits.{Form}
use Rattle.line_forms.specs.Slots.{spot_of}
use Rattle.line_forms.proofs.SlotsBehind.{any_read}
use Rattle.line_forms.proofs.misfits.script_misfit.Goals as goal

pub returns-then-is_whole-clause-departs : goal.returns-then-is_whole-clause-departs
returns-then-is_whole-clause-departs c = λ plain other none.
    let whole : is_whole (script_forms c.args.commands_begun (tokens_of c.args.line.now)) (tokens_of c.args.line.now) ≡ true =
    ap (λ (forms : List Form). is_whole forms (tokens_of c.args.line.now)) (sym c.script_forms-forms.ensures)
    ∙ any_read (λ form. is_of form (tokens_of c.args.line.now)) (λ form. map spot_of form.now) c.script_forms-forms.result.now
    ∙ sym c.is_whole.ensures ∙ c.if-is_whole.true in
    absurd (cc)

pub returns-clause-name : goal.returns-clause-name
returns-clause-name c = λ plain other some.
    let none : is_whole (script_forms c.args.commands_begun (tokens_of c.args.line.now)) (tokens_of c.args.line.now) ≡ false =
    ap (λ (forms : List Form). is_whole forms (tokens_of c.args.line.now)) (sym c.script_forms-forms.ensures)
    ∙ any_read (λ form. is_of form (tokens_of c.args.line.now)) (λ form. map spot_of form.now) c.script_forms-forms.result.now
    ∙ sym c.is_whole.ensures ∙ c.if-is_whole.false in
    absurd (cc)
