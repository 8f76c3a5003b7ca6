use Rattle.std.proofs.Common.{rules, ◌≡◌, None}
use Rattle.sheets.specs.Abbreviations.{value_of}
use Rattle.sheets.proofs.Constants.{by_bytes, new_by_bytes}
use Rattle.sheets.proofs.constant.Constants.add.Goals as goal

pub returns : goal.returns
returns c =
    let items : c.in_ok-to_vec.field-0.items ≡ c.args.token.now = search rules in
    let none : value_of (by_bytes (λ v. v.items) c.self.inside.values.entries) c.in_ok-to_vec.field-0.items ≡ None = rw (items, c.self.view_is) c.requires in
    rw (c.in_ok-insert.ensures.entries, ← c.self.view_is, ← items) (new_by_bytes (λ v. v.items) c.self.inside.values.entries c.in_ok-to_vec.field-0 c.args.value none)
