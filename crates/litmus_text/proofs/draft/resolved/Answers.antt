use Rattle.std.proofs.Common.{◌+◌, ◌∷◌, ◌++◌, [], sym, ap, ap₂, ◌∙◌, drop, Option, ℕ, List}
use Rattle.std.specs.Option.{option_or}
use Rattle.std.proofs.lemmas.List.{map_more}
use Rattle.isa.specs.declared.instr.Instr.{Instr}
use Rattle.litmus_text.specs.Labels.{first_lost, line_instruction, lost_of_line}
use Rattle.litmus_text.proofs.ProgramLines.{lost_step}
use Rattle.litmus_text.proofs.draft.resolved.Goals as goal

pub loop-line-preserved : goal.loop-line-preserved
loop-line-preserved c =
    let labels = c.args.labels.now in
    let lines = c.args.lines.now in
    let k = c.loop-line.line-index in
    let instruction = c.resolved-instr.ensures.instruction ∙ ap (line_instruction labels) c.line-item.is in
    let lost = c.resolved-instr.ensures.lost ∙ ap (lost_of_line labels) c.line-item.is in
    record {
      same = c.in_ok-extend_from_slice.ensures.items
          ∙ ap₂ (λ (code : List Instr) (instr : Instr). code ++ instr ∷ []) c.loop-line.invariant.same instruction
          ∙ sym (map_more (line_instruction labels) lines k c.line-item.result c.loop-line-test.true);
      first = ap (λ (o : Option ℕ). option_or o (first_lost labels (drop (k + 1) lines))) (c.or-lost.ensures ∙ ap (option_or c.loop-line.lost) lost)
          ∙ lost_step labels lines k c.line-item.result c.loop-line.lost c.loop-line-test.true
          ∙ c.loop-line.invariant.first;
    }
