use Rattle.jobs.proofs.NextLines.{accepted_among_named, accepted_have_lines, done_where_enabled, lines_of_accepted, traced_line, unmet_where_crash_alone}
use Rattle.jobs.proofs.laws.next_steps_are_those_accepted.Goals as goal

pub returns : goal.returns
returns c = record {
  line = traced_line;
  only = lines_of_accepted;
  always = accepted_have_lines;
  named = accepted_among_named;
  done = done_where_enabled;
  unmet = unmet_where_crash_alone;
}
