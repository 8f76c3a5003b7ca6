use Rattle.std.proofs.Common.{◌≡◌, ◌+◌, ◌++◌, ◌∷◌, Ok, drop, get_or, lit<, refl, string_bytes}
use Rattle.std.specs.Prelude.{codes, decimal}
use Rattle.std.proofs.lemmas.List.{drop_more}
use Rattle.commands.specs.StateTexts.{end_of_line}
use Rattle.machine.specs.Steps.{step_of}
use Rattle.machine.specs.declared.step.Step.TheVariants.{Exec}
use Rattle.commands.specs.TriedTexts.{tried_text}
use Rattle.jobs.specs.Traces.{shown_text}
use Rattle.jobs.proofs.TracedAttempts.{refusal_later, text_more}
use Rattle.jobs.proofs.trace.push_trace.Goals as goal

pub loop-i-preserved : goal.loop-i-preserved
loop-i-preserved c =
    let i = c.loop-i.i in
    let steps = c.args.steps.now in
    let names = c.args.layout.now in
    let step = get_or steps i (Exec 0) in
    let later = drop (i + 1) steps in
    let parts : drop i steps ≡ step ∷ later = drop_more steps i (Exec 0) c.loop-i-test.true in
    let made : step_of c.loop-i.machine step ≡ Ok (c.in-Ok.seen, c.step.new.self) = c.in-Ok.ensures.accepted in
    let asked : string_bytes c.push_tried.new.text ≡ string_bytes c.push_str.new.self ++ tried_text names c.loop-i.machine step = rw c.view.ensures at c.in_ok-push_tried.ensures in
    let shown : string_bytes c.push_shown.new.text ≡ string_bytes c.push_str-in-loop-i.new.self ++ shown_text names c.in-Ok.seen = c.in_ok-push_shown-in-Ok.ensures in
    let said : string_bytes c.push.new.self ≡ string_bytes c.loop-i.text ++ decimal i ++ codes " " ++ tried_text names c.loop-i.machine step ++ codes ": " ++ shown_text names c.in-Ok.seen ++ end_of_line =
    rw (c.in_ok-push.ensures.bytes, c.in_ok-push.ensures.ascii (lit< tt), shown, c.in_ok-push_str-2.ensures.bytes, asked, c.in_ok-push_str.ensures.bytes, c.in_ok-push_number.ensures) refl in
    record {
      text = text_more names i step later c.loop-i.machine (string_bytes c.loop-i.text) (drop i steps) c.in-Ok.seen c.step.new.self (string_bytes c.push.new.self) _ parts made said c.loop-i.invariant.text;
      refusal = refusal_later step later (drop i steps) c.loop-i.machine c.step.new.self c.in-Ok.seen _ parts made c.loop-i.invariant.refusal;
    }
