-- Which steps are a processor's own, told by its instruction and its oldest entry.
use Rattle.std.proofs.Common.{◌≡◌, ℕ, zero, suc, ◌+◌, ◌<◌, ◌≤◌, inl, inr, Bool, true, false, Option, Some, None, Result, Ok, Err, List, [], ◌∷◌, ◌++◌, drop, length, refl, sym, ap, ◌∙◌, arith, true≢false}
use Rattle.std.proofs.lemmas.Bool.{cases_Bool, eqb-true, eq-eqb}
use Rattle.std.proofs.lemmas.Bool.Decides.{nat_tests}
use Rattle.std.proofs.lemmas.List.{drop_all}
use Rattle.std.specs.Prelude.{◌&&◌, ◌||◌, ◌==◌, not, MatchOption, is_none, is_some, option_map, slice_get, if◌then◌else◌}
use Rattle.std.specs.Option.{option_and_then, option_or}
use Rattle.lines_layout.specs.Lines.{word_at}
use Rattle.isa.specs.declared.instr.Access.{Access}
use Rattle.isa.specs.declared.instr.Access.TheVariants as accesses
use Rattle.isa.specs.declared.instr.Computation.TheVariants.{Add, Compare}
use Rattle.isa.specs.declared.instr.FenceKind.TheVariants.{Mfence, Sfence}
use Rattle.isa.specs.declared.instr.FlushKind.TheVariants.{Clflush, Clflushopt, Clwb}
use Rattle.isa.specs.declared.instr.Instr.{Instr}
use Rattle.isa.specs.declared.instr.Instr.TheVariants as instrs
use Rattle.isa.specs.declared.instr.JumpKind.TheVariants.{Always, IfZero, IfNotZero}
use Rattle.isa.specs.declared.instr.LockedOperation.TheVariants.{Exchange, ExchangeAdd, CompareExchange}
use Rattle.isa.specs.declared.instr.Source.TheVariants.{Register, Number}
use Rattle.isa.specs.declared.register.Reg.TheVariants.{Rax}
use Rattle.isa.specs.declared.register.Regs.{Regs}
use Rattle.isa.specs.Operands.{address_meant}
use Rattle.isa.specs.Registers.{reg}
use Rattle.store_buffer.specs.declared.entry.Entry.{Entry}
use Rattle.store_buffer.specs.declared.entry.Entry.TheVariants as entries
use Rattle.persist_buffer.specs.Memories.{coherent}
use Rattle.persist_buffer.specs.State.{Memory}
use Rattle.outcomes.specs.Outcomes.{◌>>=◌, refusal_of, refused_as}
use Rattle.outcomes.proofs.PartsOfOutcomes.{answer_of}
use Rattle.processor.specs.declared.act.Act.{Act}
use Rattle.processor.specs.declared.act.Act.TheVariants.{Local, Delay}
use Rattle.processor.specs.declared.refusal.Refusal as exec
use Rattle.processor.specs.declared.refusal.Refusal.TheVariants as execs
use Rattle.processor.specs.Contents.{Contents}
use Rattle.processor.specs.Cpus.{Cpu}
use Rattle.processor.specs.Executions.{exec_of, next_instruction}
use Rattle.processor.specs.Instructions.{GoesOn, IsAccessTo, IsRunOf, Jumps, Traps}
use Rattle.processor.proofs.InstructionsRunAsTold.{halted, run_only}
use Rattle.machine.specs.declared.refusal.Refusal.{Refusal}
use Rattle.machine.specs.declared.step.Seen.{Seen}
use Rattle.machine.specs.declared.step.Seen.TheVariants.{Left}
use Rattle.machine.specs.declared.step.Step.{Step}
use Rattle.machine.specs.declared.step.Step.TheVariants.{Exec, Drain}
use Rattle.machine.specs.Processors.{contents_of, cpu_of, instruction_at, instruction_there, program_of, run_by, with_cpu}
use Rattle.machine.specs.Refusals.{of_exec}
use Rattle.machine.specs.State.{Processor, State, buffer_at}
use Rattle.machine.specs.Steps.{check_of, step_of}
use Rattle.machine.proofs.ProcessorSteps.{drain_only, exec_only}
use Rattle.explore.specs.Followed.{begins_with_fence, first_from, makes_own, own_at, runs_own, was_own}
use Rattle.explore.specs.Own.{is_before, is_own, is_private, place_at}
use Rattle.explore.proofs.AheadSteps.{place_is}

-- ---- by the instruction

-- the place rises
goes_on : (c d : Cpu) (regs : Regs) → GoesOn c d regs → is_before c.place d.place ≡ true
goes_on c d regs e = let next : d.place ≡ c.place + 1 = ap (λ (x : Cpu). x.place) e in grind (arith, nat_tests, next)

jumps_to : (c d : Cpu) (target : ℕ) → Jumps c d target → is_before c.place d.place ≡ is_before c.place target
jumps_to c d target e = ap (λ (x : Cpu). is_before c.place x.place) e

and_true : (b : Bool) → (b && true) ≡ b
and_true true = refl
and_true false = refl

or_false : (b : Bool) → b ≡ (b || false)
or_false true = refl
or_false false = refl

or_true : (b : Bool) → true ≡ (b || true)
or_true true = refl
or_true false = refl

module _ (locals : Bool) (c d : Cpu) (act : Act) where
  abbrev Tells : Bool → Type 0
  Tells own = (is_own locals act && is_before c.place d.place) ≡ own

  local_on : (regs : Regs) → act ≡ Local → GoesOn c d regs → Tells locals
  local_on regs is goes = (λ k. is_own locals (is k) && goes_on c d regs goes k) ∙ and_true locals

  delay_on : (regs : Regs) (entry : Entry) → act ≡ Delay entry → GoesOn c d regs → Tells true
  delay_on regs entry is goes = λ k. is_own locals (is k) && goes_on c d regs goes k

  no_own : (other : Act) → act ≡ other → is_own locals other ≡ false → Tells false
  no_own other is none = ap (λ (b : Bool). b && is_before c.place d.place) (ap (is_own locals) is ∙ none)

  local_to : (target : ℕ) → act ≡ Local → Jumps c d target → Tells (locals && is_before c.place target)
  local_to target is goes = λ k. is_own locals (is k) && jumps_to c d target goes k

  -- whether an access to a word, if there is one, is an own step
  abbrev own_access : Access → Option ℕ → Bool
  own_access (accesses.Store source) word = is_some word
  own_access (accesses.Flush kind) word = is_some word
  own_access access word = false

  access_tells : (access : Access) (word : ℕ) (s t : Contents) → IsAccessTo word access c s act d t → Tells (own_access access (Some word))
  access_tells (accesses.Load r) word s t e = no_own _ e.0 refl
  access_tells (accesses.Store (Register r)) word s t e = delay_on _ _ e.0 e.1
  access_tells (accesses.Store (Number n)) word s t e = delay_on _ _ e.0 e.1
  access_tells (accesses.Flush Clflush) word s t e = delay_on _ _ e.0 e.1
  access_tells (accesses.Flush Clflushopt) word s t e = delay_on _ _ e.0 e.1
  access_tells (accesses.Flush Clwb) word s t e = delay_on _ _ e.0 e.1
  access_tells (accesses.Locked Exchange r) word s t e = no_own _ e.1 refl
  access_tells (accesses.Locked ExchangeAdd r) word s t e = no_own _ e.1 refl
  access_tells (accesses.Locked CompareExchange r) word s t e =
      elim (cases_Bool (reg c.regs Rax == coherent s.memory word)) [
        | inl same ↦ no_own _ (e.1 (eqb-true (reg c.regs Rax) (coherent s.memory word) same)).0 refl
        | inr other ↦ no_own _ (e.2 (λ same. true≢false (sym (eq-eqb (reg c.regs Rax) (coherent s.memory word) same) ∙ other))).0 refl
      ]

  memory_tells : (access : Access) (o : Option ℕ) (address : ℕ) (s t : Contents) → MatchOption o (Traps c s act d t address) (λ word. IsAccessTo word access c s act d t) → Tells (own_access access o)
  memory_tells access (Some word) address s t e = access_tells access word s t e
  memory_tells (accesses.Load r) None address s t e = no_own _ e.0 refl
  memory_tells (accesses.Store source) None address s t e = no_own _ e.0 refl
  memory_tells (accesses.Flush kind) None address s t e = no_own _ e.0 refl
  memory_tells (accesses.Locked operation r) None address s t e = no_own _ e.0 refl

run_tells : (locals : Bool) (shape : List ℕ) (c : Processor) (d : Cpu) (m : Memory) (t : Contents) (act : Act) (instr : Instr) → IsRunOf instr (cpu_of c) (contents_of shape c.buffer m) act d t
    → Tells locals (cpu_of c) d act (runs_own locals shape c instr)
run_tells locals shape c d m t act (instrs.Set r (Number n)) e = local_on locals (cpu_of c) d act _ e.0 e.1
run_tells locals shape c d m t act (instrs.Set r (Register other)) e = local_on locals (cpu_of c) d act _ e.0 e.1
run_tells locals shape c d m t act (instrs.Compute Add r n) e = local_on locals (cpu_of c) d act _ e.0 e.1
run_tells locals shape c d m t act (instrs.Compute Compare r n) e = local_on locals (cpu_of c) d act _ e.0 e.1
run_tells locals shape c d m t act instrs.Nop e = local_on locals (cpu_of c) d act _ e.0 e.1
run_tells locals shape c d m t act (instrs.Jump Always target) e = local_to locals (cpu_of c) d act target e.0 e.1 ∙ ap (λ (b : Bool). locals && b) (or_false (is_before c.place target))
run_tells locals shape c d m t act (instrs.Jump IfZero target) e =
    elim (cases_Bool c.regs.zero) [
      | inl taken ↦ local_to locals (cpu_of c) d act target e.0 (e.1 taken) ∙ ap (λ (b : Bool). locals && b) (or_false (is_before c.place target)) ∙ ap (λ (z : Bool). locals && (is_before c.place target || not z)) (sym taken)
      | inr not_taken ↦ local_on locals (cpu_of c) d act _ e.0 (e.2 not_taken) ∙ sym (and_true locals) ∙ ap (λ (b : Bool). locals && b) (or_true (is_before c.place target)) ∙ ap (λ (z : Bool). locals && (is_before c.place target || not z)) (sym not_taken)
    ]
run_tells locals shape c d m t act (instrs.Jump IfNotZero target) e =
    elim (cases_Bool c.regs.zero) [
      | inl not_taken ↦ local_on locals (cpu_of c) d act _ e.0 (e.2 not_taken) ∙ sym (and_true locals) ∙ ap (λ (b : Bool). locals && b) (or_true (is_before c.place target)) ∙ ap (λ (z : Bool). locals && (is_before c.place target || not (not z))) (sym not_taken)
      | inr taken ↦ local_to locals (cpu_of c) d act target e.0 (e.1 taken) ∙ ap (λ (b : Bool). locals && b) (or_false (is_before c.place target)) ∙ ap (λ (z : Bool). locals && (is_before c.place target || not (not z))) (sym taken)
    ]
run_tells locals shape c d m t act (instrs.Fence Mfence) e = no_own locals (cpu_of c) d act _ e.1 refl
run_tells locals shape c d m t act (instrs.Fence Sfence) e = delay_on locals (cpu_of c) d act _ _ e.0 e.1
run_tells locals shape c d m t act (instrs.Memory access operand) e =
    memory_tells locals (cpu_of c) d act access (word_at shape (address_meant c.regs operand)) (address_meant c.regs operand) (contents_of shape c.buffer m) t e ∙ same access
  where
    same : (access : Access) → own_access locals (cpu_of c) d act access (word_at shape (address_meant c.regs operand)) ≡ runs_own locals shape c (instrs.Memory access operand)
    same (accesses.Load r) = refl
    same (accesses.Store source) = refl
    same (accesses.Flush kind) = refl
    same (accesses.Locked operation r) = refl

-- ---- what runs is at an instruction, and does what this does

abbrev Outcome : Type 0
Outcome = Result (Act × (Cpu × Contents)) exec.Refusal

abbrev did : Processor → Outcome → Result (Act × (Processor × Memory)) Refusal
did c r = refused_as of_exec r >>= λ done. Ok (done.0, (with_cpu c done.1.0 done.1.1, done.1.1.memory))

record DidParts (c after : Processor) (act : Act) (r : Outcome) : Type 0 where
  cpu : Cpu
  contents : Contents
  done : r ≡ Ok (act, (cpu, contents))
  place : after.place ≡ cpu.place

did_parts : (c after : Processor) (n : Memory) (act : Act) (r : Outcome) → did c r ≡ Ok (act, (after, n)) → DidParts c after act r
did_parts c after n act (Ok done) e =
    let parts = answer_of done.0 act (with_cpu c done.1.0 done.1.1, done.1.1.memory) (after, n) e in
    record { cpu = done.1.0; contents = done.1.1; done = λ k. Ok (sym parts.0 k, done.1); place = ap (λ (p : Processor × Memory). p.0.place) parts.1 }
did_parts c after n act (Err refusal) e = absurd (cc)

untrapped : (trapped : Bool) (there : Option Instr) (instr : Instr) → (if trapped then None else there) ≡ Some instr → there ≡ Some instr
untrapped true there instr e = absurd (cc)
untrapped false there instr e = e

record RanInstruction (locals : Bool) (shape : List ℕ) (c after : Processor) (act : Act) : Type 0 where
  instr : Instr
  there : instruction_there c ≡ Some instr
  tells : (is_own locals act && is_before c.place after.place) ≡ runs_own locals shape c instr

ran_by : (locals : Bool) (shape : List ℕ) (c after : Processor) (m : Memory) (act : Act) (next : Option Instr) → next_instruction (program_of c) (cpu_of c) ≡ next
    → DidParts c after act (exec_of (program_of c) (cpu_of c) (contents_of shape c.buffer m)) → RanInstruction locals shape c after act
ran_by locals shape c after m act None is p = absurd (refused (sym (halted (program_of c) (cpu_of c) (contents_of shape c.buffer m) is) ∙ p.done))
  where
    refused : ◌≡◌ {A = Outcome} (Err execs.Halted) (Ok (act, (p.cpu, p.contents))) → ⊥
    refused e = absurd (cc)
ran_by locals shape c after m act (Some instr) is p =
    let runs = run_only (program_of c) (cpu_of c) p.cpu (contents_of shape c.buffer m) p.contents act instr is p.done in
    record {
      instr = instr;
      there = untrapped (is_some c.trap) (slice_get (program_of c) c.place) instr is;
      tells = ap (λ (place : ℕ). is_own locals act && is_before c.place place) p.place ∙ run_tells locals shape c p.cpu m p.contents act instr runs;
    }

ran_instruction : (locals : Bool) (shape : List ℕ) (c after : Processor) (m n : Memory) (act : Act) → run_by shape c m ≡ Ok (act, (after, n)) → RanInstruction locals shape c after act
ran_instruction locals shape c after m n act e = ran_by locals shape c after m act (next_instruction (program_of c) (cpu_of c)) refl (did_parts c after n act (exec_of (program_of c) (cpu_of c) (contents_of shape c.buffer m)) e)

-- ---- by a step of a state

record ExecTells (locals : Bool) (s t : State) (p : ℕ) (seen : Seen) : Type 0 where
  cpu : Processor
  cpu_there : slice_get s.processors p ≡ Some cpu
  instr : Instr
  there : instruction_at s p ≡ Some instr
  tells : is_private locals t seen ≡ runs_own locals s.shape cpu instr

exec_tells : (locals : Bool) (s t : State) (p : ℕ) (seen : Seen) → step_of s (Exec p) ≡ Ok (seen, t) → ExecTells locals s t p seen
exec_tells locals s t p seen made =
    let x = exec_only s t p seen made in
    let r = ran_instruction locals s.shape x.before x.after s.memory t.memory x.act x.ran in
    let now : place_at t.processors p ≡ x.after.place = ap (λ (cpus : List Processor). place_at cpus p) x.alone.processors ∙ place_is s.processors p x.before x.after x.there in
    record {
      cpu = x.before;
      cpu_there = x.there;
      instr = r.instr;
      there = ap (λ (o : Option Processor). option_and_then instruction_there o) x.there ∙ r.there;
      tells = ap (is_private locals t) x.shown ∙ ap (λ (k : ℕ). is_own locals x.act && is_before x.before.place k) now ∙ r.tells;
    }

same_instr : (a b : Instr) → ◌≡◌ {A = Option Instr} (Some a) (Some b) → a ≡ b
same_instr a b e = cc

and_false : (b : Bool) → (b && false) ≡ false
and_false true = refl
and_false false = refl

-- what was asked of a refusal
pub tells_none : (refusal : Option Refusal) (none : Bool) → is_some refusal ≡ not none → none ≡ is_none refusal
tells_none None true is = refl
tells_none None false is = is
tells_none (Some refusal) true is = is
tells_none (Some refusal) false is = refl

abbrev Stepped : Type 0
Stepped = Result (Seen × State) Refusal

-- as the code tells it: by the instruction, and by whether the step is accepted
pub exec_is_own : (locals : Bool) (s : State) (p : ℕ) (instr : Instr) (own : Bool) → instruction_at s p ≡ Some instr → ((c : Processor) → slice_get s.processors p ≡ Some c → own ≡ runs_own locals s.shape c instr)
    → (own && is_none (check_of s (Exec p))) ≡ makes_own locals s (Exec p)
exec_is_own locals s p instr own there is = by (step_of s (Exec p)) refl
  where
    by : (r : Stepped) → step_of s (Exec p) ≡ r → (own && is_none (refusal_of r)) ≡ was_own locals r
    by (Ok done) made =
        let x = exec_tells locals s done.1 p done.0 made in
        let same = same_instr instr x.instr (sym there ∙ x.there) in
        and_true own ∙ is x.cpu x.cpu_there ∙ ap (runs_own locals s.shape x.cpu) same ∙ sym x.tells
    by (Err refusal) made = and_false own

pub exec_is_none : (locals : Bool) (s : State) (p : ℕ) → instruction_at s p ≡ None → makes_own locals s (Exec p) ≡ false
exec_is_none locals s p none = by (step_of s (Exec p)) refl
  where
    not_both : (instr : Instr) → ◌≡◌ {A = Option Instr} None (Some instr) → ⊥
    not_both instr e = absurd (cc)

    by : (r : Stepped) → step_of s (Exec p) ≡ r → was_own locals r ≡ false
    by (Ok done) made = let x = exec_tells locals s done.1 p done.0 made in absurd (not_both x.instr (sym none ∙ x.there))
    by (Err refusal) made = refl

-- ---- the oldest entry

oldest_tells : (locals : Bool) (t : State) (p : ℕ) (earlier buffer later : List Entry) (entry : Entry) → length earlier ≡ 0 → buffer ≡ earlier ++ entry ∷ later → is_private locals t (Left p 0 entry) ≡ begins_with_fence buffer
oldest_tells locals t p [] buffer later entry none whole = sym (ap begins_with_fence whole ∙ first entry)
  where
    first : (entry : Entry) → begins_with_fence (entry ∷ later) ≡ is_private locals t (Left p 0 entry)
    first entries.Sfence = refl
    first (entries.Write word value) = refl
    first (entries.Flush line) = refl
    first (entries.FlushOpt line) = refl
oldest_tells locals t p (x ∷ earlier) buffer later entry none whole = absurd (omega (arith, none))

same_cpu : (a b : Processor) → ◌≡◌ {A = Option Processor} (Some a) (Some b) → a ≡ b
same_cpu a b e = cc

pub drain_is_own : (locals : Bool) (s : State) (p : ℕ) (c : Processor) (own : Bool) → slice_get s.processors p ≡ Some c → own ≡ begins_with_fence c.buffer → (own && is_none (check_of s (Drain p 0))) ≡ makes_own locals s (Drain p 0)
drain_is_own locals s p c own there is = by (step_of s (Drain p 0)) refl
  where
    by : (r : Stepped) → step_of s (Drain p 0) ≡ r → (own && is_none (refusal_of r)) ≡ was_own locals r
    by (Ok done) made =
        let x = drain_only s done.1 p 0 done.0 made in
        let same = same_cpu c x.before (sym there ∙ x.there) in
        let tells = ap (is_private locals done.1) x.shown ∙ oldest_tells locals done.1 p x.earlier x.before.buffer x.later x.entry x.split.place x.split.whole in
        and_true own ∙ is ∙ ap (λ (d : Processor). begins_with_fence d.buffer) same ∙ sym tells
    by (Err refusal) made = and_false own

there_by : (o : Option Processor) (buffer : List Entry) → option_map (λ (c : Processor). c.buffer) o ≡ Some buffer → (c : Processor) × (o ≡ Some c) × (c.buffer ≡ buffer)
there_by None buffer e = absurd (cc)
there_by (Some c) buffer e = (c, refl, same_buffer c.buffer buffer e)
  where
    same_buffer : (a b : List Entry) → ◌≡◌ {A = Option (List Entry)} (Some a) (Some b) → a ≡ b
    same_buffer a b e = cc

-- the same by its store buffer
pub leaves_is_own : (locals : Bool) (s : State) (p : ℕ) (buffer : List Entry) (own : Bool) → buffer_at s p ≡ Some buffer → own ≡ begins_with_fence buffer → (own && is_none (check_of s (Drain p 0))) ≡ makes_own locals s (Drain p 0)
leaves_is_own locals s p buffer own at is =
    let (c, there, same) = there_by (slice_get s.processors p) buffer at in
    drain_is_own locals s p c own there (is ∙ ap begins_with_fence (sym same))

pub drain_is_none : (locals : Bool) (s : State) (p : ℕ) → buffer_at s p ≡ None → makes_own locals s (Drain p 0) ≡ false
drain_is_none locals s p none = by (step_of s (Drain p 0)) refl
  where
    not_both : (buffer : List Entry) → ◌≡◌ {A = Option (List Entry)} None (Some buffer) → ⊥
    not_both buffer e = absurd (cc)

    by : (r : Stepped) → step_of s (Drain p 0) ≡ r → was_own locals r ≡ false
    by (Ok done) made =
        let x = drain_only s done.1 p 0 done.0 made in
        absurd (not_both x.before.buffer (sym none ∙ ap (λ (o : Option Processor). option_map (λ (c : Processor). c.buffer) o) x.there))
    by (Err refusal) made = refl

-- ---- one processor after another, as the code goes

from_then : (locals : Bool) (s : State) (q : ℕ) (cpus : List Processor) (p : ℕ) → p < length cpus
    → first_from locals s (q + p) (drop p cpus) ≡ option_or (own_at locals s (q + p)) (first_from locals s (q + (p + 1)) (drop (suc p) cpus))
from_then locals s q [] p within = absurd (omega (arith, within))
from_then locals s q (c ∷ cpus) zero within =
    let next : (q + zero) + 1 ≡ q + (zero + 1) = omega arith in
    ap (λ (n : ℕ). option_or (own_at locals s (q + zero)) (first_from locals s n cpus)) next
from_then locals s q (c ∷ cpus) (suc p) within =
    let here : q + suc p ≡ (q + 1) + p = omega arith in
    let next : (q + 1) + (p + 1) ≡ q + (suc p + 1) = omega arith in
    ap (λ (n : ℕ). first_from locals s n (drop p cpus)) here ∙ from_then locals s (q + 1) cpus p (omega (arith, within))
    ∙ (λ k. option_or (own_at locals s (sym here k)) (first_from locals s (next k) (drop (suc p) cpus)))

first_or_next : (locals : Bool) (s : State) (p : ℕ) → p < length s.processors
    → first_from locals s p (drop p s.processors) ≡ option_or (own_at locals s p) (first_from locals s (p + 1) (drop (p + 1) s.processors))
first_or_next locals s p within =
    let here : 0 + p ≡ p = omega arith in
    let there : 0 + (p + 1) ≡ p + 1 = omega arith in
    let next : suc p ≡ p + 1 = omega arith in
    ap (λ (n : ℕ). first_from locals s n (drop p s.processors)) (sym here) ∙ from_then locals s 0 s.processors p within
    ∙ (λ k. option_or (own_at locals s (here k)) (first_from locals s (there k) (drop (next k) s.processors)))

-- processor p has none
pub none_here : (locals : Bool) (s : State) (p : ℕ) (all : Option Step) → p < length s.processors → None ≡ own_at locals s p → first_from locals s p (drop p s.processors) ≡ all
    → first_from locals s (p + 1) (drop (p + 1) s.processors) ≡ all
none_here locals s p all within none before =
    ap (λ (o : Option Step). option_or o (first_from locals s (p + 1) (drop (p + 1) s.processors))) none ∙ sym (first_or_next locals s p within) ∙ before

-- or it has one
pub one_here : (locals : Bool) (s : State) (p : ℕ) (step : Step) (all : Option Step) → p < length s.processors → Some step ≡ own_at locals s p → first_from locals s p (drop p s.processors) ≡ all → Some step ≡ all
one_here locals s p step all within one before =
    ap (λ (o : Option Step). option_or o (first_from locals s (p + 1) (drop (p + 1) s.processors))) one ∙ sym (first_or_next locals s p within) ∙ before

-- all processors were asked
pub none_later : (locals : Bool) (s : State) (p : ℕ) (all : Option Step) → length s.processors ≤ p → first_from locals s p (drop p s.processors) ≡ all → None ≡ all
none_later locals s p all past before = ap (λ (cpus : List Processor). first_from locals s p cpus) (sym (drop_all p s.processors past)) ∙ before
