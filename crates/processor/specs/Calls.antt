-- What a call does to a processor and to a storage, by what the storage contains.
use Rattle.std.specs.Prelude.{◌≡◌, ◌<◌, ◌≤◌, ℕ, true, Result, IfOk, ◌==◌, length}
use Rattle.outcomes.specs.Calls.{Does, DoesAlone}
use Rattle.isa.specs.declared.instr.Instr.{Instr}
use Rattle.isa.specs.Programs.{leads_within}
use Rattle.processor.specs.declared.act.Act.{Act}
use Rattle.processor.specs.declared.refusal.Refusal.{Refusal}
use Rattle.processor.specs.Contents.{Contents}
use Rattle.processor.specs.Cpus.{Cpu}

-- A call runs on a processor and a storage what is stated of the processor and the contents, or leaves both as they were.
abbrev pub Runs : {X : Type 0} → (X → Contents) → (Cpu → Contents → Result (Act × (Cpu × Contents)) Refusal) → Cpu → X → Result Act Refusal → Cpu → X → Type 0
Runs contents stated c old result d new = Does (stated c (contents old)) (c, contents old) result (d, contents new)

-- A call changes the contents of a storage as stated, or leaves them as they were.
abbrev pub Changes : {X : Type 0} → (X → Contents) → (Contents → Result Contents Refusal) → X → Result (Unit {0}) Refusal → X → Type 0
Changes contents stated old result new = DoesAlone (stated (contents old)) (contents old) result (contents new)

-- In every program in which an instruction leads to places of the program or its end, so does the place after it.
abbrev pub StaysWithin : Instr → ℕ → Result Act Refusal → ℕ → Type 0
StaysWithin instr place result next = (count : ℕ) → place < count → leads_within count instr ≡ true → IfOk result (λ _. next ≤ count)
