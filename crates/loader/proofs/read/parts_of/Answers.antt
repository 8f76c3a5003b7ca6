use Rattle.std.proofs.Common.{ap, ◌∙◌}
use Rattle.std.proofs.lemmas.Result.{err_from_is_err_and}
use Rattle.loader.specs.Reading.{object_of}
use Rattle.loader.proofs.Contents.{contents_fail, contents_follow, made}
use Rattle.loader.proofs.read.parts_of.Goals as goal

pub returns-in_err-values : goal.returns-in_err-values
returns-in_err-values c =
    let p = err_from_is_err_and c.from_residual-in_err-values.result c.from_residual-in_err-values.ensures.1 in
    rw (p.1, p.2) (contents_fail c.in_err-values.field-0.0 c.in_ok-layout.layout (object_of c.args.bytes.now) _
    (contents_follow c.args.bytes.now _ _ _ _ _ _ c.in_ok-version.ensures c.in_ok-shape.ensures c.in_ok-layout.ensures) c.in_err-values.ensures)

pub returns : goal.returns
returns c =
    contents_follow c.args.bytes.now _ _ _ _ _ _ c.in_ok-version.ensures c.in_ok-shape.ensures c.in_ok-layout.ensures
    ∙ ap (made c.in_ok-layout.layout) c.in_ok-values.ensures
