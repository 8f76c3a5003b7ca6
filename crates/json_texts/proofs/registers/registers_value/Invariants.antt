use Rattle.std.proofs.Common.{◌≡◌, take}
use Rattle.std.specs.List.{flat_map}
use Rattle.serde_json.specs.Data.{no_members}
use Rattle.serde_json.specs.View.{members_view}
use Rattle.json_texts.specs.Objects.{with_fields}
use Rattle.json_texts.specs.RegisterData.{value_fields}
use Rattle.json_texts.proofs.registers.registers_value.Given as goal

abbrev pub invariant-loop-r : goal.invariant-loop-r
invariant-loop-r l = members_view l.fields.entries ≡ with_fields no_members (flat_map (value_fields l.values) (take l.r-index l.r-items))
