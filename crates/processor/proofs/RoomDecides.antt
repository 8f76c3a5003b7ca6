-- An instruction runs exactly where its tests pass.
use Rattle.std.proofs.Common.{◌≡◌, ◌∙◌, ℕ, Bool, true, false, Option, Some, None, Result, Ok, Err, List, length, refl}
use Rattle.std.specs.Prelude.{not, ◌&&◌, ◌==◌, if◌then◌else◌}
use Rattle.std.specs.Option.{option_map_or}
use Rattle.lines_layout.specs.Lines.{word_at}
use Rattle.isa.specs.declared.instr.Access.{Access}
use Rattle.isa.specs.declared.instr.Access.TheVariants as accesses
use Rattle.isa.specs.declared.instr.FenceKind.TheVariants.{Mfence, Sfence}
use Rattle.isa.specs.declared.instr.Instr.{Instr}
use Rattle.isa.specs.declared.instr.Instr.TheVariants as instrs
use Rattle.isa.specs.declared.instr.LockedOperation.TheVariants.{Exchange, ExchangeAdd, CompareExchange}
use Rattle.isa.specs.declared.instr.Next.TheVariants.{Following}
use Rattle.isa.specs.declared.register.Reg.TheVariants.{Rax}
use Rattle.isa.specs.Operands.{address_meant}
use Rattle.isa.specs.Registers.{reg}
use Rattle.outcomes.specs.Outcomes.{◌>>=◌, refuse, refused_as, required, tested}
use Rattle.outcomes.proofs.PartsOfOutcomes.{tested_made}
use Rattle.store_buffer.specs.declared.entry.Entry.{Entry}
use Rattle.store_buffer.specs.declared.entry.Entry.TheVariants as entries
use Rattle.store_buffer.specs.Buffers.{room_of}
use Rattle.persist_buffer.specs.Memories.{coherent, write_room_of}
use Rattle.processor.specs.declared.act.Act.{Act}
use Rattle.processor.specs.declared.act.Act.TheVariants.{Fence, Delay, Locked, Trap}
use Rattle.processor.specs.declared.need.Need.TheVariants as needs
use Rattle.processor.specs.declared.refusal.Refusal.{Refusal}
use Rattle.processor.specs.declared.refusal.Refusal.TheVariants.{Halted, BufferNotEmpty}
use Rattle.processor.specs.Contents.{Contents}
use Rattle.processor.specs.Cpus.{Cpu, next_cpu, trapped_at}
use Rattle.processor.specs.Accesses.{is_locked, value_read, need_of, act_of, regs_of}
use Rattle.processor.specs.Executions.{next_instruction, waited, access_of, contents_after, delay_of, write_of, effect_of, exec_of, ready_need, room_for, check_of}

-- what two tests precede, each the other's refusal told in other words, meets the refusals of the first
told_on : {A B E F : Type 0} (room : Result (Unit {0}) E) (f : E → F) (a : A) (b : A → B) → tested {A = B} {E = F} (refused_as f (room >>= λ go. Ok a) >>= λ x. Ok (b x)) ≡ refused_as f room
told_on (Ok go) f a b = refl
told_on (Err refusal) f a b = refl

tested_again : (r : Result (Unit {0}) Refusal) → r ≡ tested r
tested_again (Ok go) = refl
tested_again (Err refusal) = refl

module _ (c : Cpu) (s : Contents) where
  access_made : (access : Access) (word : ℕ) → tested (access_of access word c s) ≡ tested (contents_after (act_of access word c.regs (value_read access word s)) s)
  access_made access word =
      tested_made (contents_after (act_of access word c.regs (value_read access word s)) s) (λ after. (act_of access word c.regs (value_read access word s), (next_cpu c Following (regs_of access c.regs (value_read access word s)), after)))

  delayed : (entry : Entry) → tested (delay_of s entry) ≡ room_for needs.Entry s
  delayed entry = told_on (room_of s.buffer) _ _ _

  written : (word value : ℕ) → tested (write_of s word value) ≡ room_for (needs.Write word) s
  written word value = told_on (write_room_of s.memory word) _ _ _

  compared : (word value new : ℕ) (equal : Bool) → tested (contents_after (Locked word value (if equal then Some new else None)) s) ≡ (if equal then room_for (needs.Write word) s else Ok tt)
  compared word value new true = written word new
  compared word value new false = refl

  access_checked : (access : Access) (word : ℕ) → tested (access_of access word c s) ≡ room_for (need_of access word c.regs) s
  access_checked (accesses.Load r) word = access_made (accesses.Load r) word
  access_checked (accesses.Store source) word = access_made (accesses.Store source) word ∙ delayed _
  access_checked (accesses.Locked Exchange r) word = access_made (accesses.Locked Exchange r) word ∙ written _ _
  access_checked (accesses.Locked ExchangeAdd r) word = access_made (accesses.Locked ExchangeAdd r) word ∙ written _ _
  access_checked (accesses.Locked CompareExchange r) word =
      access_made (accesses.Locked CompareExchange r) word ∙ compared word (coherent s.memory word) (reg c.regs r) (reg c.regs Rax == coherent s.memory word)
  access_checked (accesses.Flush kind) word = access_made (accesses.Flush kind) word ∙ delayed _

  word_checked : (access : Access) (word : ℕ) (waits : Bool)
      → tested (refuse BufferNotEmpty waits >>= λ drained. access_of access word c s)
      ≡ tested ((refuse BufferNotEmpty waits >>= λ drained. Ok (need_of access word c.regs)) >>= λ need. room_for need s)
  word_checked access word true = refl
  word_checked access word false = access_checked access word ∙ tested_again (room_for (need_of access word c.regs) s)

  memory_checked : (access : Access) (address : ℕ) (o : Option ℕ)
      → tested (option_map_or (λ word. waited (is_locked access) (length s.buffer == 0) (access_of access word c s)) o (Ok (Trap address, (trapped_at c address, s))))
      ≡ tested (option_map_or (λ word. waited (is_locked access) (length s.buffer == 0) (Ok (need_of access word c.regs))) o (Ok needs.Nothing) >>= λ need. room_for need s)
  memory_checked access address None = refl
  memory_checked access address (Some word) = word_checked access word (is_locked access && not (length s.buffer == 0))

  fence_checked : (waits : Bool)
      → tested {A = Act × (Cpu × Contents)} (refuse BufferNotEmpty waits >>= λ drained. Ok (Fence, (next_cpu c Following c.regs, s)))
      ≡ tested ((refuse BufferNotEmpty waits >>= λ drained. Ok needs.Nothing) >>= λ need. room_for need s)
  fence_checked true = refl
  fence_checked false = refl

  sfence_checked : tested (effect_of (instrs.Fence Sfence) c s) ≡ tested (room_for needs.Entry s)
  sfence_checked =
      tested_made (contents_after (Delay entries.Sfence) s) (λ after. (Delay entries.Sfence, (next_cpu c Following c.regs, after)))
      ∙ delayed entries.Sfence ∙ tested_again (room_for needs.Entry s)

  effect_checked : (instr : Instr) → tested (effect_of instr c s) ≡ tested (ready_need s.shape c.regs (length s.buffer == 0) instr >>= λ need. room_for need s)
  effect_checked (instrs.Set r source) = refl
  effect_checked (instrs.Compute operation r number) = refl
  effect_checked (instrs.Jump kind target) = refl
  effect_checked instrs.Nop = refl
  effect_checked (instrs.Memory access operand) = memory_checked access (address_meant c.regs operand) (word_at s.shape (address_meant c.regs operand))
  effect_checked (instrs.Fence Mfence) = fence_checked (not (length s.buffer == 0))
  effect_checked (instrs.Fence Sfence) = sfence_checked

  found_checked : (there : Option Instr)
      → tested (required Halted there >>= λ i. effect_of i c s)
      ≡ tested ((required Halted there >>= λ i. ready_need s.shape c.regs (length s.buffer == 0) i) >>= λ need. room_for need s)
  found_checked None = refl
  found_checked (Some instr) = effect_checked instr

pub room_decides : (program : List Instr) (c : Cpu) (s : Contents) → tested (exec_of program c s) ≡ tested (check_of program c s)
room_decides program c s = found_checked c s (next_instruction program c)
