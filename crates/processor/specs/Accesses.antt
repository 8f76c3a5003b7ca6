-- What an access to a word does: what it needs, what it shows, and the registers then.
use Rattle.std.specs.Prelude.{ℕ, Bool, true, false, Option, Some, None, ◌==◌, if◌then◌else◌}
use Rattle.lines_layout.specs.Lines.{line_of}
use Rattle.isa.specs.declared.instr.Access.{Access}
use Rattle.isa.specs.declared.instr.Access.TheVariants.{Load, Store, Locked, Flush}
use Rattle.isa.specs.declared.instr.LockedOperation.{LockedOperation}
use Rattle.isa.specs.declared.instr.LockedOperation.TheVariants.{Exchange, ExchangeAdd, CompareExchange}
use Rattle.isa.specs.declared.instr.FlushKind.{FlushKind}
use Rattle.isa.specs.declared.instr.FlushKind.TheVariants.{Clflush, Clflushopt, Clwb}
use Rattle.isa.specs.declared.register.Reg.{Reg}
use Rattle.isa.specs.declared.register.Reg.TheVariants.{Rax}
use Rattle.isa.specs.declared.register.Regs.{Regs}
use Rattle.isa.specs.Effects.{source_value}
use Rattle.isa.specs.Registers.{reg, with_reg, with_zero, word_sum}
use Rattle.store_buffer.specs.declared.entry.Entry.{Entry}
use Rattle.store_buffer.specs.declared.entry.Entry.TheVariants as entries
use Rattle.persist_buffer.specs.Memories.{coherent}
use Rattle.processor.specs.declared.need.Need.{Need}
use Rattle.processor.specs.declared.need.Need.TheVariants as needs
use Rattle.processor.specs.declared.act.Act.{Act}
use Rattle.processor.specs.declared.act.Act.TheVariants as acts
use Rattle.processor.specs.Contents.{Contents, seen_value}

-- whether an access is a locked operation
abbrev pub is_locked : Access → Bool
is_locked (Locked operation r) = true
is_locked _ = false

-- the value that an access reads: a load what the processor sees, a locked operation the coherent value; 0 where it
-- reads none
abbrev pub value_read : Access → ℕ → Contents → ℕ
value_read (Load r) word s = seen_value s word
value_read (Locked operation r) word s = coherent s.memory word
value_read _ word s = 0

-- the entry that a flush of a cache line delays
abbrev pub flush_entry : FlushKind → ℕ → Entry
flush_entry Clflush line = entries.Flush line
flush_entry Clflushopt line = entries.FlushOpt line
flush_entry Clwb line = entries.FlushOpt line

-- what a locked operation with a register writes, where it reads this value; none where its comparison fails
abbrev pub value_written : LockedOperation → Reg → Regs → ℕ → Option ℕ
value_written Exchange r regs value = Some (reg regs r)
value_written ExchangeAdd r regs value = Some (word_sum value (reg regs r))
value_written CompareExchange r regs value = if reg regs Rax == value then Some (reg regs r) else None

-- the registers and ZF after a locked operation with a register that reads this value
abbrev pub locked_regs : LockedOperation → Reg → Regs → ℕ → Regs
locked_regs Exchange r regs value = with_reg regs r value
locked_regs ExchangeAdd r regs value = with_zero (with_reg regs r value) (word_sum value (reg regs r) == 0)
locked_regs CompareExchange r regs value =
    if reg regs Rax == value then with_zero regs true else with_zero (with_reg regs Rax value) false

-- what has to find room where a locked operation on a word is to run
abbrev pub locked_need : LockedOperation → ℕ → Regs → Need
locked_need CompareExchange word regs = needs.WriteIf word (reg regs Rax)
locked_need _ word regs = needs.Write word

-- what has to find room where an access to a word with these registers is to run: an entry, or a write past the store buffer
abbrev pub need_of : Access → ℕ → Regs → Need
need_of (Load r) word regs = needs.Nothing
need_of (Store source) word regs = needs.Entry
need_of (Locked operation r) word regs = locked_need operation word regs
need_of (Flush kind) word regs = needs.Entry

-- what an access to a word shows, with these registers, where it reads this value
abbrev pub act_of : Access → ℕ → Regs → ℕ → Act
act_of (Load r) word regs value = acts.Read word value
act_of (Store source) word regs value = acts.Delay (entries.Write word (source_value source regs))
act_of (Locked operation r) word regs value = acts.Locked word value (value_written operation r regs value)
act_of (Flush kind) word regs value = acts.Delay (flush_entry kind (line_of word))

-- the registers and ZF after an access: those that read set some of them
abbrev pub regs_of : Access → Regs → ℕ → Regs
regs_of (Load r) regs value = with_reg regs r value
regs_of (Locked operation r) regs value = locked_regs operation r regs value
regs_of _ regs value = regs
