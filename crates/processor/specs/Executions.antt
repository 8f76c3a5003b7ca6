-- A processor runs the instruction at its place.
use Rattle.std.specs.Prelude.{ℕ, Bool, true, ◌&&◌, not, ◌==◌, if◌then◌else◌, Option, Some, None, Result, Ok, List, length, slice_get, is_some}
use Rattle.std.specs.Option.{option_map_or}
use Rattle.lines_layout.specs.Lines.{word_at}
use Rattle.isa.specs.declared.instr.Access.{Access}
use Rattle.isa.specs.declared.instr.FenceKind.{FenceKind}
use Rattle.isa.specs.declared.instr.FenceKind.TheVariants.{Mfence, Sfence}
use Rattle.isa.specs.declared.instr.Instr.{Instr}
use Rattle.isa.specs.declared.instr.Instr.TheVariants as instrs
use Rattle.isa.specs.declared.instr.Next.TheVariants.{Following}
use Rattle.isa.specs.declared.register.Regs.{Regs}
use Rattle.isa.specs.Effects.{local_of}
use Rattle.isa.specs.Operands.{address_meant}
use Rattle.store_buffer.specs.declared.entry.Entry.{Entry}
use Rattle.store_buffer.specs.declared.entry.Entry.TheVariants as entries
use Rattle.store_buffer.specs.Buffers.{push_of, room_of}
use Rattle.persist_buffer.specs.Memories.{add_write_of, coherent, write_room_of}
use Rattle.outcomes.specs.Outcomes.{◌>>=◌, refuse, required, refused_as}
use Rattle.processor.specs.declared.act.Act.{Act}
use Rattle.processor.specs.declared.act.Act.TheVariants.{Local, Fence, Read, Delay, Locked, Trap}
use Rattle.processor.specs.declared.need.Need.{Need}
use Rattle.processor.specs.declared.need.Need.TheVariants as needs
use Rattle.processor.specs.declared.refusal.Refusal.{Refusal}
use Rattle.processor.specs.declared.refusal.Refusal.TheVariants.{Halted, BufferNotEmpty, BufferFull, LineFull}
use Rattle.processor.specs.Contents.{Contents}
use Rattle.processor.specs.Cpus.{Cpu, next_cpu, trapped_at}
use Rattle.processor.specs.Accesses.{is_locked, value_read, need_of, act_of, regs_of}

-- the instruction that a processor runs next: none where it is trapped, or its place is its program's length
abbrev pub next_instruction : List Instr → Cpu → Option Instr
next_instruction program c = if is_some c.trap then None else slice_get program c.place

-- an entry goes to the end of the store buffer
abbrev pub delay_of : Contents → Entry → Result Contents Refusal
delay_of s entry = do
  buffer ← refused_as (λ full. BufferFull) (push_of s.buffer entry)
  Ok (record s { buffer = buffer })

-- a write goes to the end of the pending list, past the store buffer
abbrev pub write_of : Contents → ℕ → ℕ → Result Contents Refusal
write_of s word value = do
  memory ← refused_as (λ full. LineFull) (add_write_of s.memory word value)
  Ok (record s { memory = memory })

-- what store buffer and memory are after an act
abbrev pub contents_after : Act → Contents → Result Contents Refusal
contents_after (Delay entry) s = delay_of s entry
contents_after (Locked word value (Some new)) s = write_of s word new
contents_after (Locked word value None) s = Ok s
contents_after (Read word value) s = Ok s
contents_after Fence s = Ok s
contents_after Local s = Ok s
contents_after (Trap address) s = Ok s

-- where something waits for an empty store buffer, that is tested first
abbrev pub waited : {X : Type 0} → Bool → Bool → Result X Refusal → Result X Refusal
waited waits empty next = refuse BufferNotEmpty (waits && not empty) >>= λ drained. next

-- what an access to a word does
abbrev pub access_of : Access → ℕ → Cpu → Contents → Result (Act × (Cpu × Contents)) Refusal
access_of access word c s =
    let value = value_read access word s in
    let act = act_of access word c.regs value in
    contents_after act s >>= λ after. Ok (act, (next_cpu c Following (regs_of access c.regs value), after))

-- the same where a locked operation first waits for an empty store buffer
abbrev pub ready_access_of : Access → ℕ → Cpu → Contents → Result (Act × (Cpu × Contents)) Refusal
ready_access_of access word c s = waited (is_locked access) (length s.buffer == 0) (access_of access word c s)

-- what a fence does: mfence waits, and sfence goes to the end of the store buffer
abbrev pub fence_of : FenceKind → Cpu → Contents → Result (Act × (Cpu × Contents)) Refusal
fence_of Mfence c s = waited true (length s.buffer == 0) (Ok (Fence, (next_cpu c Following c.regs, s)))
fence_of Sfence c s = contents_after (Delay entries.Sfence) s >>= λ after. Ok (Delay entries.Sfence, (next_cpu c Following c.regs, after))

-- what an instruction does: an access, at the word of its address, or a trap where that is no word's; a fence; or what it
-- does without memory
abbrev pub effect_of : Instr → Cpu → Contents → Result (Act × (Cpu × Contents)) Refusal
effect_of (instrs.Memory access operand) c s =
    let address = address_meant c.regs operand in
    option_map_or (λ word. ready_access_of access word c s) (word_at s.shape address) (Ok (Trap address, (trapped_at c address, s)))
effect_of (instrs.Fence kind) c s = fence_of kind c s
effect_of instr c s = option_map_or (λ after. Ok (Local, (next_cpu c after.0 after.1, s))) (local_of instr c.regs) (Ok (Local, (c, s)))

-- a processor runs the instruction at its place in a program
abbrev pub exec_of : List Instr → Cpu → Contents → Result (Act × (Cpu × Contents)) Refusal
exec_of program c s = do
  instr ← required Halted (next_instruction program c)
  effect_of instr c s

-- what an instruction with these registers needs room for over words of a shape, unless it has to wait; nothing where it traps
abbrev pub ready_need : List ℕ → Regs → Bool → Instr → Result Need Refusal
ready_need shape regs empty (instrs.Memory access operand) =
    option_map_or (λ word. waited (is_locked access) empty (Ok (need_of access word regs))) (word_at shape (address_meant regs operand)) (Ok needs.Nothing)
ready_need shape regs empty (instrs.Fence Mfence) = waited true empty (Ok needs.Nothing)
ready_need shape regs empty (instrs.Fence Sfence) = Ok needs.Entry
ready_need shape regs empty _ = Ok needs.Nothing

-- what the instruction at a processor's place needs room for
abbrev pub next_need : List Instr → List ℕ → Cpu → Bool → Result Need Refusal
next_need program shape c empty = do
  instr ← required Halted (next_instruction program c)
  ready_need shape c.regs empty instr

-- refused where what an instruction needs finds no room
abbrev pub room_for : Need → Contents → Result (Unit {0}) Refusal
room_for needs.Nothing s = Ok tt
room_for needs.Entry s = refused_as (λ full. BufferFull) (room_of s.buffer)
room_for (needs.Write word) s = refused_as (λ full. LineFull) (write_room_of s.memory word)
room_for (needs.WriteIf word value) s = if value == coherent s.memory word then refused_as (λ full. LineFull) (write_room_of s.memory word) else Ok tt

-- the tests of exec_of alone: the instruction is ready, and there is room for what it needs
abbrev pub check_of : List Instr → Cpu → Contents → Result (Unit {0}) Refusal
check_of program c s = do
  need ← next_need program s.shape c (length s.buffer == 0)
  room_for need s
