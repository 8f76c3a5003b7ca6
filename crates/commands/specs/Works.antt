-- What a command makes of its sources, one part after another: what comes of it, and where something may be missing.
use Rattle.std.specs.Prelude.{◌≡◌, ◌++◌, ◌⊎◌, Result, Ok, Err, List, [], ◌∷◌, Contains}
use Rattle.commands.specs.declared.fault.Stage.{Stage}
use Rattle.commands.specs.declared.fault.Refused.{Refused}
use Rattle.commands.specs.declared.fault.Fault.{Fault}
use Rattle.commands.specs.declared.fault.Fault.TheVariants as faults
use Rattle.commands.specs.Faults.{stage_of}

-- A work: what comes of it, made or refused, and the stages that it reaches, up to its first refusal.
pub record Work (A : Type 0) : Type 0 where
  pub told : Result A Refused
  pub reached : List Stage

-- a part that is one stage
abbrev pub work : {A : Type 0} → Stage → Result A Refused → Work A
work stage told = record { told = told; reached = stage ∷ [] }

-- a test, which takes nothing that may be missing
abbrev pub test : {A : Type 0} → Result A Refused → Work A
test told = record { told = told; reached = [] }

-- nothing is left to do
unfoldable pub done : {A : Type 0} → A → Work A
done a = record { told = Ok a; reached = [] }

-- what the rest tells, and the stages that it reaches, after a first part that told this
abbrev pub told_after : {A B : Type 0} → Result A Refused → (A → Work B) → Result B Refused
told_after (Ok a) rest = (rest a).told
told_after (Err refused) rest = Err refused

abbrev pub reached_after : {A B : Type 0} → Result A Refused → (A → Work B) → List Stage
reached_after (Ok a) rest = (rest a).reached
reached_after (Err refused) rest = []

-- one part and then the rest, which is not begun where the first is refused
unfoldable pub and_then : {A B : Type 0} → Work A → (A → Work B) → Work B
and_then first rest = record { told = told_after first.told rest; reached = first.reached ++ reached_after first.told rest }

infixl 10 ◌>>=◌
-- the same, as `do` writes it
abbrev pub ◌>>=◌ : {A B : Type 0} → Work A → (A → Work B) → Work B
first >>= rest = and_then first rest

-- What is made is what the work tells, and so is a refusal. Something is missing only of a stage that is reached.
unfoldable pub Makes : {A : Type 0} → Work A → Result A Fault → Type 0
Makes work (Ok made) = work.told ≡ Ok made
Makes work (Err (faults.Refused refused)) = work.told ≡ Err refused
Makes work (Err (faults.Missing missing)) = Contains work.reached (stage_of missing)
Makes work (Err (faults.Device device)) = ⊥

-- The same where several things may come of the rest: those for which `May` holds. Something is missing only of these stages.
unfoldable pub MakesOneOf : {A : Type 0} → (Result A Fault → Type 0) → List Stage → Result A Fault → Type 0
MakesOneOf May reached (Ok made) = May (Ok made)
MakesOneOf May reached (Err (faults.Refused refused)) = May (Err (faults.Refused refused))
MakesOneOf May reached (Err (faults.Missing missing)) = Contains reached (stage_of missing)
MakesOneOf May reached (Err (faults.Device device)) = ⊥

-- a work, and then one of the things that may come of what it made
abbrev pub MakesThen : {A B : Type 0} → Work A → (A → Result B Fault → Type 0) → Result B Fault → Type 0
MakesThen {A} first Rest made =
    ((a : A) × Makes first (Ok a) × Rest a made) ⊎ ((fault : Fault) × Makes first (Err fault) × (made ≡ Err fault))
