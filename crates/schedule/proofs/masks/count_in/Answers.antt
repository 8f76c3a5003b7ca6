use Rattle.schedule.proofs.MaskNumbers.{counted}
use Rattle.schedule.proofs.masks.count_in.Goals as goal

pub returns-clause-value : goal.returns-clause-value
returns-clause-value c = counted c.args.mask c.ranges.mask.fits
