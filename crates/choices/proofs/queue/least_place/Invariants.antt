use Rattle.std.proofs.Common.{◌<◌, Bool, take, length, get_or}
use Rattle.std.specs.Global.{Vec}
use Rattle.choices.specs.Waiting.{IsLeast}
use Rattle.choices.proofs.queue.least_place.Given as goal

abbrev pub invariant-loop-place : goal.invariant-loop-place
invariant-loop-place l = record {
  within : l.least < length l.queue;
  least : (other : Vec Bool) → IsLeast l.costs (take l.place l.queue) (get_or l.queue l.least other).items;
}
