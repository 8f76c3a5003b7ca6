use Rattle.std.proofs.Common.{◌∙◌, ap}
use Rattle.sheets.specs.Abbreviations.{Constants, value_of}
use Rattle.sheets.proofs.Constants.{found_by_bytes}
use Rattle.sheets.proofs.constant.Constants.value.Goals as goal

pub returns : goal.returns
returns c =
    c.copied.ensures ∙ c.get.ensures.value ∙ found_by_bytes (λ v. v.items) c.args.token.now c.self.inside.values.entries
    ∙ ap (λ (constants : Constants). value_of constants c.args.token.now) c.self.view_is
