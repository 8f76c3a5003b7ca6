use Rattle.std.proofs.Common.{◌∙◌, ap, length, arith}
use Rattle.pending_images.proofs.ImagesAreListed.{exact_from, length_formed}
use Rattle.pending_images.proofs.formed.products.Goals as goal

pub returns-clause-exact : goal.returns-clause-exact
returns-clause-exact c =
    let law = c.keeps_to_layouts.ensures in
    exact_from c.args.pending.now.shape c.args.pending.now.memory law.shape law.lines law.every_word _ c.in_ok-formed.ensures

pub returns-clause-len : goal.returns-clause-len
returns-clause-len c =
    let formed_len = ap length c.in_ok-formed.ensures ∙ length_formed c.args.pending.now.shape c.args.pending.now.memory in
    let len = c.in_ok-formed.field-0.ok in
    omega (arith, formed_len, len)
