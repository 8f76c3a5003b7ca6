use Rattle.std.proofs.Common.{rules, ◌≡◌, true, false, subst, sym, Ok}
use Rattle.questions.specs.Questions.{Questioned}
use Rattle.commands.specs.Programs.{is_object_file, questioned_work}
use Rattle.commands.specs.Works.{Makes}
use Rattle.commands.proofs.LinedPrograms.{object_is_asked, text_is_asked}
use Rattle.commands.proofs.program.read_questions.Goals as goal

pub returns-in-Ok : goal.returns-in-Ok
returns-in-Ok c =
    let object : is_object_file c.args.bytes.now ≡ true = search rules in
    let made = object_is_asked c.args.bytes.now c.in-Ok.object c.none-lines.result object c.in-Ok.ensures.told c.none-lines.ensures in
    subst (λ (asked : Questioned). Makes (questioned_work c.args.bytes.now) (Ok asked)) (sym c.unasked.ensures) made

pub returns-in-Ok-read_text : goal.returns-in-Ok-read_text
returns-in-Ok-read_text c =
    let other : is_object_file c.args.bytes.now ≡ false = search rules in
    text_is_asked c.args.bytes.now c.in-Ok-read_text.asked other c.in-Ok-read_text.ensures
