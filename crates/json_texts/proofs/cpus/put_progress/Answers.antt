use Rattle.std.proofs.Common.{◌∙◌, refl, sym}
use Rattle.serde_json.specs.View.{members_view}
use Rattle.json_texts.proofs.StateParts.{progress_more}
use Rattle.json_texts.proofs.cpus.put_progress.Goals as goal

pub returns : goal.returns
returns c =
    progress_more c.args.lines.now _ c.args.p _ _ _ _ _ (members_view c.args.fields.now.entries) (members_view c.put_number.new.fields.entries)
    (sym c.recovering.ensures ∙ c.unwrap-recovering.ensures) (sym c.place.ensures ∙ c.unwrap-place.ensures)
    (sym c.halted.ensures.value ∙ c.unwrap.ensures) (sym c.zf.ensures ∙ c.unwrap-2.ensures)
    c.trap-trap.ensures
    (rw (c.in_ok-put_number.ensures, c.in_ok-put.ensures.ok, c.in_ok-put_text.ensures, c.in_ok-put_site.ensures, c.flag_number-zero.ensures, c.number_or_null.ensures, c.progress_text-progress.ensures) refl)
