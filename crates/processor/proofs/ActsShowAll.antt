-- What an instruction shows is what it did.
use Rattle.std.proofs.Common.{◌≡◌, ℕ, ◌<◌, arith, Bool, true, false, Option, Some, None, Result, Ok, List, [], ◌∷◌, ◌++◌, length, refl, sym, ◌∙◌, ap, subst}
use Rattle.std.specs.Prelude.{nat_le, not, ◌&&◌, ◌==◌, count_by}
use Rattle.std.specs.Option.{option_map_or}
use Rattle.std.proofs.lemmas.Bool.Decides.{nat_tests}
use Rattle.lines_layout.specs.Lines.{line_of, word_at}
use Rattle.isa.specs.declared.instr.Instr.{Instr}
use Rattle.isa.specs.declared.instr.Instr.TheVariants as instrs
use Rattle.isa.specs.declared.instr.FenceKind.TheVariants.{Mfence, Sfence}
use Rattle.isa.specs.declared.instr.Access.{Access}
use Rattle.isa.specs.declared.instr.Access.TheVariants as accesses
use Rattle.isa.specs.Operands.{address_meant}
use Rattle.isa.specs.declared.instr.Next.TheVariants.{Following}
use Rattle.store_buffer.specs.declared.entry.Entry.{Entry}
use Rattle.store_buffer.specs.declared.entry.Entry.TheVariants as entries
use Rattle.store_buffer.specs.declared.fault.BufferFault.TheVariants.{Full}
use Rattle.store_buffer.specs.Buffers.{buffer_room}
use Rattle.persist_buffer.specs.declared.entry.PendingEntry.TheVariants.{Write}
use Rattle.persist_buffer.specs.declared.fault.PendingFault.TheVariants as pendings
use Rattle.persist_buffer.specs.Limits.{line_room}
use Rattle.persist_buffer.specs.Memories.{coherent, is_write_on, with_pending}
use Rattle.outcomes.specs.Outcomes.{◌>>=◌, refuse, required, refused_as}
use Rattle.outcomes.proofs.PartsOfOutcomes.{answer_of, bind_ok}
use Rattle.processor.specs.declared.act.Act.{Act}
use Rattle.processor.specs.declared.act.Act.TheVariants.{Local, Fence, Read, Delay, Locked, Trap}
use Rattle.processor.specs.declared.refusal.Refusal.{Refusal}
use Rattle.processor.specs.declared.refusal.Refusal.TheVariants.{Halted, BufferNotEmpty, BufferFull, LineFull}
use Rattle.processor.specs.Contents.{Contents, seen_value}
use Rattle.processor.specs.Cpus.{Cpu, next_cpu, trapped_at}
use Rattle.processor.specs.Accesses.{is_locked, value_read, act_of}
use Rattle.processor.specs.Executions.{next_instruction, waited, contents_after, access_of, effect_of, exec_of}
use Rattle.processor.specs.Acts.{IsShown}

-- what was waited for is there
pub waited_if : {X : Type 0} (q : Bool) (next : Result X Refusal) (x : X) → (refuse BufferNotEmpty q >>= λ drained. next) ≡ Ok x → (q ≡ false) × (next ≡ Ok x)
waited_if true next x e = absurd (cc)
waited_if false next x e = (refl, e)

no_entry : (n : ℕ) → not (n == 0) ≡ false → n ≡ 0
no_entry n e = grind (arith, nat_tests)

pub empty_of : (buffer : List Entry) → not (length buffer == 0) ≡ false → buffer ≡ []
empty_of [] e = refl
empty_of (entry ∷ entries) e = absurd (omega (arith, no_entry (length (entry ∷ entries)) e))

-- what holds before an act is left
abbrev pub Before : Act → Contents → Type 0
Before Local s = Unit {0}
Before Fence s = s.buffer ≡ []
Before (Read word value) s = value ≡ seen_value s word
Before (Delay entry) s = Unit {0}
Before (Locked word value new) s = (s.buffer ≡ []) × (value ≡ coherent s.memory word)
Before (Trap address) s = word_at s.shape address ≡ None

delay_if : (s t : Contents) (entry : Entry) (full : Bool)
    → (refused_as (λ f. BufferFull) (refuse Full full >>= λ room. Ok (s.buffer ++ entry ∷ [])) >>= λ buffer. Ok (record s { buffer = buffer })) ≡ Ok t
    → (full ≡ false) × (t ≡ record s { buffer = s.buffer ++ entry ∷ [] })
delay_if s t entry true e = absurd (cc)
delay_if s t entry false e = (refl, cc)

write_if : (s t : Contents) (word value : ℕ) (full : Bool)
    → (refused_as (λ f. LineFull) (refuse pendings.LineFull full >>= λ room. Ok (with_pending s.memory (s.memory.pending ++ Write word value ∷ []))) >>= λ memory. Ok (record s { memory = memory })) ≡ Ok t
    → (full ≡ false) × (t ≡ record s { memory = with_pending s.memory (s.memory.pending ++ Write word value ∷ []) })
write_if s t word value true e = absurd (cc)
write_if s t word value false e = (refl, cc)

below : (n room : ℕ) → nat_le room n ≡ false → n < room
below n room e = grind (arith, nat_tests)

pub left_shown : (act : Act) (s t : Contents) → Before act s → contents_after act s ≡ Ok t → IsShown act s t
left_shown Local s t before e = cc
left_shown Fence s t before e = (before, cc)
left_shown (Read word value) s t before e = (before, cc)
left_shown (Delay entry) s t before e =
    let left = delay_if s t entry (nat_le buffer_room (length s.buffer)) e in
    record {
      room = below (length s.buffer) buffer_room left.0;
      buffer = ap (λ (x : Contents). x.buffer) left.1;
      memory = ap (λ (x : Contents). x.memory) left.1;
      shape = ap (λ (x : Contents). x.shape) left.1;
    }
left_shown (Locked word value None) s t before e = (before.0, before.1, cc)
left_shown (Locked word value (Some new)) s t before e =
    let left = write_if s t word new (nat_le line_room (count_by (is_write_on (line_of word)) s.memory.pending)) e in (
      before.0,
      before.1,
      record {
        room = below (count_by (is_write_on (line_of word)) s.memory.pending) line_room left.0;
        pending = ap (λ (x : Contents). x.memory.pending) left.1;
        persisted = ap (λ (x : Contents). x.memory.persisted) left.1;
        buffer = ap (λ (x : Contents). x.buffer) left.1;
        shape = ap (λ (x : Contents). x.shape) left.1;
      },
    )
left_shown (Trap address) s t before e = (before, cc)

-- no act changes the shape
pub shown_shape : (act : Act) (s t : Contents) → IsShown act s t → t.shape ≡ s.shape
shown_shape Local s t x = ap (λ (y : Contents). y.shape) x
shown_shape Fence s t x = ap (λ (y : Contents). y.shape) x.1
shown_shape (Read word value) s t x = ap (λ (y : Contents). y.shape) x.1
shown_shape (Delay entry) s t x = x.shape
shown_shape (Locked word value None) s t x = ap (λ (y : Contents). y.shape) x.2
shown_shape (Locked word value (Some new)) s t x = x.2.shape
shown_shape (Trap address) s t x = ap (λ (y : Contents). y.shape) x.1

module _ (c d : Cpu) (s t : Contents) (act : Act) where
  shown_local : (x : Cpu) → ◌≡◌ {A = Result (Act × (Cpu × Contents)) Refusal} (Ok (Local, (x, s))) (Ok (act, (d, t))) → IsShown act s t
  shown_local x e =
      let parts = answer_of Local act (x, s) (d, t) e in
      subst (λ (a : Act). IsShown a s t) (sym parts.0) (ap (λ (p : Cpu × Contents). p.1) parts.1)

  shown_access : (shows : Act) (x : Cpu) → Before shows s
      → ◌≡◌ {A = Result (Act × (Cpu × Contents)) Refusal} (contents_after shows s >>= λ after. Ok (shows, (x, after))) (Ok (act, (d, t))) → IsShown act s t
  shown_access shows x before e =
      let b = bind_ok (contents_after shows s) (λ after. Ok (shows, (x, after))) (act, (d, t)) e in
      let parts = answer_of shows act (x, b.0) (d, t) b.2 in
      let same : t ≡ b.0 = ap (λ (p : Cpu × Contents). p.1) parts.1 in
      subst (λ (a : Act). IsShown a s t) (sym parts.0) (left_shown shows s t before (b.1 ∙ ap (λ (y : Contents). Ok y) (sym same)))

  access_before : (access : Access) (word : ℕ) → (is_locked access && not (length s.buffer == 0)) ≡ false → Before (act_of access word c.regs (value_read access word s)) s
  access_before (accesses.Load r) word w = refl
  access_before (accesses.Store source) word w = tt
  access_before (accesses.Locked operation r) word w = (empty_of s.buffer w, refl)
  access_before (accesses.Flush kind) word w = tt

  abbrev Did : Result (Act × (Cpu × Contents)) Refusal → Type 0
  Did r = ◌≡◌ {A = Result (Act × (Cpu × Contents)) Refusal} r (Ok (act, (d, t)))

  memory_shown : (access : Access) (address : ℕ) (o : Option ℕ) → word_at s.shape address ≡ o
      → Did (option_map_or (λ word. waited (is_locked access) (length s.buffer == 0) (access_of access word c s)) o (Ok (Trap address, (trapped_at c address, s)))) → IsShown act s t
  memory_shown access address None none e = shown_access (Trap address) (trapped_at c address) none e
  memory_shown access address (Some word) there e =
      let w = waited_if (is_locked access && not (length s.buffer == 0)) (access_of access word c s) (act, (d, t)) e in
      shown_access (act_of access word c.regs (value_read access word s)) _ (access_before access word w.0) w.1

  shown_effect : (instr : Instr) → Did (effect_of instr c s) → IsShown act s t
  shown_effect (instrs.Memory access operand) e = memory_shown access (address_meant c.regs operand) (word_at s.shape (address_meant c.regs operand)) refl e
  shown_effect (instrs.Fence Mfence) e =
      let w = waited_if (not (length s.buffer == 0)) (Ok (Fence, (next_cpu c Following c.regs, s))) (act, (d, t)) e in
      shown_access Fence _ (empty_of s.buffer w.0) w.1
  shown_effect (instrs.Fence Sfence) e = shown_access (Delay entries.Sfence) _ tt e
  shown_effect (instrs.Set r source) e = shown_local _ e
  shown_effect (instrs.Compute operation r number) e = shown_local _ e
  shown_effect (instrs.Jump kind target) e = shown_local _ e
  shown_effect instrs.Nop e = shown_local _ e

pub acts_show_all : (program : List Instr) (c d : Cpu) (s t : Contents) (act : Act) → exec_of program c s ≡ Ok (act, (d, t)) → IsShown act s t
acts_show_all program c d s t act e =
    let a = bind_ok (required Halted (next_instruction program c)) (λ instr. effect_of instr c s) (act, (d, t)) e in
    shown_effect c d s t act a.0 a.2
