use Rattle.pending_images.proofs.ListedValues.{are_values, only_values}
use Rattle.pending_images.proofs.laws.values_are_listed.Goals as goal

pub returns-clause-values : goal.returns-clause-values
returns-clause-values c = λ shape m given word is_shape below size. are_values shape m given word is_shape below size

pub returns-clause-only : goal.returns-clause-only
returns-clause-only c = λ shape m given word values is_shape below size are. only_values shape m given word is_shape below size values are
