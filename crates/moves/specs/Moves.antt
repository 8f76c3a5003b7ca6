-- A store that is put elsewhere in its straight stretch, and all such moves of a program.
use Rattle.std.specs.Prelude.{ℕ, zero, suc, ◌+◌, ◌-◌, ◌==◌, Bool, true, false, not, ◌&&◌, ◌||◌, Option, Some, if◌then◌else◌, List, [], ◌∷◌, ◌++◌, length, map, slice_index_or}
use Rattle.std.specs.List.{enumerate_from, flat_map, list_any}
use Rattle.isa.specs.declared.immediate.Immediate.{Immediate}
use Rattle.isa.specs.declared.instr.Access.{Access}
use Rattle.isa.specs.declared.instr.Access.TheVariants as accesses
use Rattle.isa.specs.declared.instr.Computation.TheVariants.{Add, Compare}
use Rattle.isa.specs.declared.instr.Instr.{Instr}
use Rattle.isa.specs.declared.instr.Instr.TheVariants.{Set, Compute, Jump, Nop, Memory, Fence}
use Rattle.isa.specs.declared.instr.MemoryOperand.{MemoryOperand}
use Rattle.isa.specs.declared.instr.MemoryOperand.TheVariants as operands
use Rattle.isa.specs.declared.instr.Source.{Source}
use Rattle.isa.specs.declared.instr.Source.TheVariants as sources
use Rattle.isa.specs.declared.programs.Programs.{Programs}
use Rattle.isa.specs.declared.register.Reg.{Reg}
use Rattle.isa.specs.Objects.{Object}
use Rattle.isa.specs.Operands.{word_named}
use Rattle.image_reasons.specs.declared.entries.Site.{Site}
use Rattle.image_reasons.specs.declared.repair.Repair.{Repair}
use Rattle.image_reasons.specs.declared.repair.Side.{Side}
use Rattle.image_reasons.specs.declared.repair.Side.TheVariants.{Before, Behind}
use Rattle.image_reasons.specs.Repairs.{repaired}
use Rattle.candidates.specs.Candidates.{is_same_reg, locked_writes}
use Rattle.fence_needs.specs.Changes.{without}
use Rattle.fence_needs.specs.Sites.{instr_at}
use Rattle.moves.specs.declared.one_move.Move.{Move}

-- ---- one move

-- the store, on its side of the instruction to which it is moved
abbrev pub put_by : Object → Move → Repair
put_by object one = record { side = one.side; site = record one.from { place = one.to }; instr = instr_at object one.from }

-- The object with the store there, and a nop where it stood. None where that cannot be loaded.
abbrev pub moved : Object → Move → Option Object
moved object one = repaired (without object one.from) (put_by object one)

-- ---- what a store may pass

-- whether a store reads a register for its value
abbrev pub reads_value : Source Immediate → Reg → Bool
reads_value (sources.Register own) r = is_same_reg own r
reads_value (sources.Number number) r = false

-- whether it reads a register for its address
abbrev pub reads_address : MemoryOperand → Reg → Bool
reads_address (operands.Word word) r = false
reads_address (operands.Register own) r = is_same_reg own r

-- whether a store reads a register
abbrev pub reads : Instr → Reg → Bool
reads (Memory (accesses.Store source) operand) r = reads_value source r || reads_address operand r
reads _ r = false

-- whether two words are named, and are not one
abbrev pub are_apart : Option ℕ → Option ℕ → Bool
are_apart (Some a) (Some b) = not (a == b)
are_apart _ _ = false

-- whether an access sets no register that a store reads
abbrev pub keeps_read : Instr → Access → Bool
keeps_read store (accesses.Load written) = not (reads store written)
keeps_read store (accesses.Locked operation own) = not (reads store (locked_writes operation own))
keeps_read store _ = true

-- whether a store may pass an access of what is named by its address, if a word is: a flush; or one of another word that is known to be
-- another, which sets no register that the store reads
abbrev pub may_pass_access : Instr → Access → Option ℕ → Bool
may_pass_access store (accesses.Flush kind) word = true
may_pass_access store access word = keeps_read store access && are_apart (word_named store) word

-- whether a store may pass an instruction: it does not jump, sets no register that the store reads, and accesses no memory but by
-- another word
abbrev pub may_pass : Instr → Instr → Bool
may_pass store (Set r source) = not (reads store r)
may_pass store (Compute Add r number) = not (reads store r)
may_pass store (Compute Compare r number) = true
may_pass store (Jump kind target) = false
may_pass store Nop = true
may_pass store (Memory access operand) = may_pass_access store access (word_named (Memory access operand))
may_pass store (Fence kind) = true

-- ---- how far

-- whether an instruction jumps to a place
abbrev pub leads_to : ℕ → Instr → Bool
leads_to place (Jump kind target) = target == place
leads_to place _ = false

-- whether a jump of a program leads to a place
abbrev pub is_led_to : List Instr → ℕ → Bool
is_led_to code place = list_any (leads_to place) code

-- whether a store that came up to the instruction at a place may go behind it: no jump leads between the two
abbrev pub may_go_behind : List Instr → Instr → ℕ → Bool
may_go_behind code store place = may_pass store (slice_index_or code place Nop) && not (is_led_to code place)

-- whether a store that came down to it may go before it
abbrev pub may_go_before : List Instr → Instr → ℕ → Bool
may_go_before code store place = may_pass store (slice_index_or code place Nop) && not (is_led_to code (place + 1))

-- the places from one on, so many at most, up to the first that fails a test
abbrev pub upward : (ℕ → Bool) → ℕ → ℕ → List ℕ
upward test at zero = []
upward test at (suc count) = if test at then at ∷ upward test (at + 1) count else []

-- the places below one, the nearest first, up to the first that fails a test
abbrev pub downward : (ℕ → Bool) → ℕ → List ℕ
downward test zero = []
downward test (suc at) = if test at then at ∷ downward test at else []

-- ---- all moves

-- a store put on a side of the instruction at a place
abbrev pub to_side : Site → Side → ℕ → Move
to_side from side place = record { from = from; side = side; to = place }

-- behind each later instruction of its stretch, the nearest first
abbrev pub moves_behind : List Instr → Site → Instr → List Move
moves_behind code from store = map (to_side from Behind) (upward (may_go_behind code store) (from.place + 1) (length code - (from.place + 1)))

-- before each earlier one, the nearest first
abbrev pub moves_before : List Instr → Site → Instr → List Move
moves_before code from store = map (to_side from Before) (downward (may_go_before code store) from.place)

-- those of the instruction at a site, if it is a store
abbrev pub moves_at : List Instr → Site → Instr → List Move
moves_at code from (Memory (accesses.Store source) operand) =
    moves_behind code from (Memory (accesses.Store source) operand) ++ moves_before code from (Memory (accesses.Store source) operand)
moves_at code from _ = []

-- those of a program, by place of the store
abbrev pub moves_in : ℕ → Bool → List Instr → List Move
moves_in processor recovering code =
    flat_map (λ (e : ℕ × Instr). moves_at code (record { processor = processor; recovering = recovering; place = e.0 }) e.1) (enumerate_from 0 code)

-- those of a processor: of its main program, and then of its recovery program
abbrev pub moves_by : ℕ → Programs → List Move
moves_by processor programs = moves_in processor false programs.main ++ moves_in processor true programs.recovery

-- those of an object, processor by processor
abbrev pub moves_of : Object → List Move
moves_of object = flat_map (λ (e : ℕ × Programs). moves_by e.0 e.1) (enumerate_from 0 object.processors)
