-- What is made of one part of a work, and of the next.
use Rattle.std.proofs.Common.{Result, Ok, Err, refl}
use Rattle.std.proofs.lemmas.List.Elements.{Contains-append_left, Contains-append_right}
use Rattle.commands.specs.declared.fault.Fault.{Fault}
use Rattle.commands.specs.declared.fault.Fault.TheVariants as faults
use Rattle.commands.specs.Faults.{stage_of}
use Rattle.commands.specs.Works.{and_then, Makes, Work, done, reached_after}

-- a fault of the first part is one of both
pub made_first : {A B : Type 0} (first : Work A) (rest : A → Work B) (fault : Fault) → Makes first (Err fault) → Makes (and_then first rest) (Err fault)
unfolding and_then Makes
made_first first rest (faults.Refused refused) h = rw h refl
made_first first rest (faults.Missing missing) h = Contains-append_left first.reached (reached_after first.told rest) (stage_of missing) h
made_first first rest (faults.Device device) h = h

-- what the rest makes, both make
pub made_next : {A B : Type 0} (first : Work A) (rest : A → Work B) (a : A) (made : Result B Fault) → Makes first (Ok a) → Makes (rest a) made
    → Makes (and_then first rest) made
unfolding and_then Makes
made_next first rest a (Ok b) is h = rw is h
made_next first rest a (Err (faults.Refused refused)) is h = rw is h
made_next first rest a (Err (faults.Missing missing)) is h = rw is (Contains-append_right first.reached (rest a).reached (stage_of missing) h)
made_next first rest a (Err (faults.Device device)) is h = h

-- where nothing is left to do
pub made_done : {A : Type 0} (a : A) → Makes (done a) (Ok a)
unfolding Makes done
made_done a = refl

pub ruleset turns = (made_first, made_next, made_done)
