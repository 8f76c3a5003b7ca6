use Rattle.std.proofs.Common.{◌≡◌, take}
use Rattle.std.specs.Prelude.{IfSome, slice_get}
use Rattle.std.specs.List.{flat_map}
use Rattle.serde_json.specs.Data.{no_members}
use Rattle.serde_json.specs.View.{members_view}
use Rattle.json_texts.specs.Objects.{with_fields}
use Rattle.json_texts.specs.StateData.{register_fields}
use Rattle.json_texts.proofs.cpus.registers_value.Given as goal

abbrev pub invariant-loop-r : goal.invariant-loop-r
invariant-loop-r l =
    IfSome (slice_get l.view.processors l.p)
    (λ c. members_view l.fields.entries ≡ with_fields no_members (flat_map (register_fields c.regs) (take l.r-index l.r-items)))
