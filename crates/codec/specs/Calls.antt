-- What calls answer, unless memory ran out.
use Rattle.std.specs.Prelude.{◌≡◌, ℕ, List, Result, Ok, Err, IfSome, MatchResult}
use Rattle.std.specs.Global.{Vec}
use Rattle.outcomes.specs.declared.or_no_memory.OrNoMemory.{OrNoMemory}
use Rattle.outcomes.specs.declared.or_no_memory.OrNoMemory.TheVariants.{NoMemory}
use Rattle.outcomes.specs.Calls.{Answers}
use Rattle.outcomes.specs.Faults.{fault_in}
use Rattle.isa.specs.declared.instr.Instr.{Instr}
use Rattle.codec.specs.declared.fault.CodeFault.{CodeFault}
use Rattle.codec.specs.Code.{IsCode}

-- the list that is stated, or the stated fault
abbrev pub Lists : {A F : Type 0} → Result (List A) F → Result (Vec A) (OrNoMemory F) → Type 0
Lists told result = MatchResult result (λ v. told ≡ Ok v.items) (λ error. IfSome (fault_in error) (λ fault. told ≡ Err fault))

-- the program whose code these bytes are, if they are that of one
abbrev pub AnswersItsProgram : List ℕ → List ℕ → Result (List Instr) (OrNoMemory CodeFault) → Type 0
AnswersItsProgram shape bytes result = (program : List Instr) → IsCode shape program bytes → Answers fault_in (Ok program) result

-- this program again
abbrev pub AnswersAgain : List Instr → Result (List Instr) (OrNoMemory CodeFault) → Type 0
AnswersAgain program result = MatchResult result (λ again. again ≡ program) (λ error. error ≡ NoMemory)
