use Rattle.std.proofs.Common.{Ok, refl}
use Rattle.isa.specs.Objects.{Object}
use Rattle.commands.specs.declared.fault.Stage.TheVariants as stages
use Rattle.commands.specs.Works.{work}
use Rattle.litmus_text.specs.TextLines.{TextLines}
use Rattle.schedule.specs.Written.{steps_text}
use Rattle.jobs.specs.PairTexts.{pair_text}
use Rattle.jobs.specs.Reports as texts
use Rattle.json_jobs.specs.JsonReports as values
use Rattle.json_jobs.specs.JsonReports.{json_form}
use Rattle.json_jobs.specs.EndReports as end_values
use Rattle.json_jobs.specs.NextReports as next_values
use Rattle.json_jobs.specs.StepReports as step_values
use Rattle.questions.specs.Questions.{Questioned}
use Rattle.json_jobs.proofs.EndsAsText.{end_alike, lined_alike, next_alike, printed_alike, read_alike, run_alike, trace_alike}
use Rattle.json_jobs.proofs.RunsEndAsText.{check_alike, outcomes_alike, same_failed, same_found}
use Rattle.json_jobs.proofs.laws.statuses_are_those_of_text.Goals as goal

pub returns : goal.returns
returns c = record {
  run = λ both. end_alike both.program (λ (lines : TextLines) (object : Object). end_values.run_on object lines both.steps)
      (λ (object : Object). texts.run_on object both.steps) (λ lines object. run_alike object lines both.steps);
  images = λ options both. read_alike both.program (λ (read : Questioned). values.images_on options read both.steps)
      (λ (read : Questioned). texts.images_on options read both.steps)
      (λ read. printed_alike (texts.images_found options read both.steps) stages.Images (json_form (values.images_data_of (values.source_of read.lined.object read.lined.lines)))
      (texts.images_text options.names read.lined.object.layout read.lined.lines));
  set = λ options both. lined_alike both.program (λ (lines : TextLines) (object : Object). values.set_on options object lines both.steps)
      (λ (lines : TextLines) (object : Object). texts.set_on options object lines both.steps)
      (λ lines object. printed_alike (texts.set_found options object both.steps) stages.Images (json_form (values.set_data (values.source_of object lines))) (texts.set_lines object.layout lines));
  law = λ both. end_alike both.program (λ (lines : TextLines) (object : Object). values.law_on object both.steps)
      (λ (object : Object). texts.law_on object both.steps) (λ lines object. printed_alike (texts.law_found object both.steps) stages.Machine (json_form values.law_data) pair_text);
  trace = λ options both. end_alike both.program (λ (lines : TextLines) (object : Object). step_values.trace_on options object lines both.steps)
      (λ (object : Object). texts.trace_on object both.steps) (λ lines object. trace_alike options object lines both.steps);
  next = λ options both. end_alike both.program (λ (lines : TextLines) (object : Object). next_values.next_on options object lines both.steps)
      (λ (object : Object). texts.next_on options object both.steps) (λ lines object. next_alike options object lines both.steps);
  replay = λ options both. end_alike both.program (λ (lines : TextLines) (object : Object). values.replay_on options object both.steps)
      (λ (object : Object). texts.replay_on options object both.steps) (λ lines object. printed_alike (texts.replay_found options object both.steps) stages.Machine (json_form values.replay_data) steps_text);
  asm = λ both. end_alike both.program (λ (lines : TextLines) (object : Object). work stages.Object (Ok (texts.asm_of object)))
      (λ (object : Object). work stages.Object (Ok (texts.asm_of object))) (λ lines object. (refl, refl));
  dis = λ both. end_alike both.program (λ (lines : TextLines) (object : Object). work stages.Text (Ok (texts.dis_of object)))
      (λ (object : Object). work stages.Text (Ok (texts.dis_of object))) (λ lines object. (refl, refl));
  check = check_alike;
  found_report = same_found;
  failed_report = same_failed;
  outcomes = outcomes_alike;
}
