use Rattle.std.proofs.Common.{rules, inl, sym, ◌∙◌, refl}
use Rattle.px86.specs.Starts.{reads_input}
use Rattle.px86.proofs.task.do_task.Goals as goal

-- it is asked line by line
pub returns-then-is_console : goal.returns-then-is_console
returns-then-is_console g c =
    let world = g.O.Outside.world c.args.outside.now in
    let streams : world.HasStreams (reads_input c.args.request.now) = search rules in
    inl (streams, inl (rw (sym c.is_console.ensures ∙ c.if-is_console.true) (c.converse.ensures, refl)))

pub returns : goal.returns
returns g c =
    let world = g.O.Outside.world c.args.outside.now in
    let seen = g.met.O.Outside.seen c.args.outside.now in
    rw c.explained.ensures
    (let streams : world.HasStreams (reads_input c.args.request.now) = search rules in
    inl (
      streams,
      inl (rw (sym c.is_console.ensures ∙ c.if-is_console.false) (record {
        program = c.in-Ok.program;
        program_after = c.do_in_form-answer.new.program;
        steps = c.in-Ok-open_steps.steps;
        steps_after = c.do_in_form-answer.new.steps;
        is_file = c.in-Ok.ensures.file;
        come_from = c.in-Ok-open_steps.ensures.source;
        serves = rw seen.0 (rw seen.1 c.do_in_form-answer.ensures);
      })),
    ))
