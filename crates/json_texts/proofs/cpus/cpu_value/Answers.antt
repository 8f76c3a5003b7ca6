use Rattle.std.proofs.Common.{◌∙◌, ap, codes, sym}
use Rattle.std.specs.Prelude.{option_map}
use Rattle.serde_json.specs.Data.{object, put}
use Rattle.serde_json.specs.View.{members_view, view}
use Rattle.json_texts.specs.SourceMaps.{SourceMap}
use Rattle.json_texts.proofs.StateParts.{cpu_more}
use Rattle.json_texts.proofs.cpus.cpu_value.Goals as goal

pub returns : goal.returns
returns c =
    cpu_more c.args.source.now c.args.origins.now c.source.inside.lines.now _ c.args.p (members_view c.new-fields.result.entries)
    (members_view c.put_progress.new.fields.entries) (view c.in_ok-registers.registers) (view c.in_ok-buffer.buffer) (view c.from.result) c.unwrap.result.now
    (ap (λ (s : SourceMap). s.lines) c.source.view_is) (ap members_view c.new-fields.ensures.empty) c.in_ok-put_progress.ensures c.in_ok-registers.ensures
    (sym c.buffer.ensures.value ∙ ap (option_map (λ b. b.now)) c.unwrap.ensures) c.in_ok-buffer.ensures
    (c.from.ensures ∙ ap object (c.in_ok-put-2.ensures.ok ∙ ap (put (codes "buffer") (view c.in_ok-buffer.buffer)) c.in_ok-put.ensures.ok))
