use Rattle.json_texts.proofs.Items.{fields_more}
use Rattle.json_texts.specs.RegisterData.{value_fields}
use Rattle.json_texts.proofs.registers.registers_value.Goals as goal

pub loop-r-preserved : goal.loop-r-preserved
loop-r-preserved c = fields_more (value_fields c.args.values.now) _ _ _ _ _ _ c.loop-r-test.true c.loop-r.invariant c.in_ok-put_value.ensures
