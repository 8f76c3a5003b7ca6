-- A processor with fewer flushes and fences does what the other does.
use Rattle.std.proofs.Common.{◌≡◌, ℕ, Bool, true, false, Option, Some, None, Result, Ok, Err, List, ◌++◌, length, refl, sym, ◌∙◌, ap, subst, inl, inr}
use Rattle.std.specs.Prelude.{◌⊎◌, if◌then◌else◌, is_some, slice_get}
use Rattle.isa.specs.declared.instr.Instr.{Instr}
use Rattle.isa.specs.declared.instr.Instr.TheVariants.{Nop}
use Rattle.outcomes.specs.Outcomes.{◌>>=◌, refused_as}
use Rattle.outcomes.proofs.PartsOfOutcomes.{answer_of}
use Rattle.store_buffer.specs.declared.entry.Entry.{Entry}
use Rattle.persist_buffer.specs.State.{Memory}
use Rattle.processor.specs.declared.act.Act.{Act}
use Rattle.processor.specs.declared.act.Act.TheVariants.{Local}
use Rattle.processor.specs.declared.refusal.Refusal as exec
use Rattle.processor.specs.Contents.{Contents}
use Rattle.processor.specs.Cpus.{Cpu}
use Rattle.processor.specs.Executions.{exec_of, next_instruction}
use Rattle.processor.specs.Instructions.{IsRunOf}
use Rattle.processor.proofs.InstructionsRunAsTold.{exec_with, run_always, run_only}
use Rattle.store_buffer.specs.Buffers.{is_held_by}
use Rattle.machine.specs.declared.refusal.Refusal.{Refusal}
use Rattle.machine.specs.Processors.{contents_of, cpu_of, program_of, receive_of, restart_of, run_by, with_cpu}
use Rattle.machine.specs.Refusals.{of_exec}
use Rattle.machine.specs.State.{Processor}
use Rattle.machine.specs.StepRelations.{DrainSplit}
use Rattle.machine.proofs.ExecAndDrainByProcessor.{run_by_ok}
use Rattle.fewer_fences.specs.Thinner.{HasNops, IsOrIsNop, IsThinnerMemory, IsThinnerProcessor, Thins, is_no_write, may_be_nop_on}
use Rattle.fewer_fences.proofs.ThinnedLists.{GoesAt, StaysAt, none_there, other_there, thins_any, thins_joined, thins_split}
use Rattle.fewer_fences.proofs.ThinnerContents.{IsThinnerContents, nops_too, runs_too}
use Rattle.fewer_fences.proofs.ThinnerMemories.{received, received_alone}

-- ---- the instruction that is next

programs : (over : List ℕ) (c e : Processor) → IsThinnerProcessor over c e → HasNops (may_be_nop_on over) (program_of c) (program_of e)
programs over c e h = subst (λ (b : Bool). HasNops (may_be_nop_on over) (program_of c) (if b then e.recovery else e.main)) (sym h.recovering) (by c.recovering)
  where
    by : (b : Bool) → HasNops (may_be_nop_on over) (if b then c.recovery else c.main) (if b then e.recovery else e.main)
    by true = h.recovery
    by false = h.main

same_cpu : (over : List ℕ) (c e : Processor) → IsThinnerProcessor over c e → cpu_of e ≡ cpu_of c
same_cpu over c e h = λ i. record { place = h.place i; regs = h.regs i; trap = h.trap i }

abbrev next_at : Option ℕ → List Instr → ℕ → Option Instr
next_at trap program place = if is_some trap then None else slice_get program place

-- an instruction of the other: the same, or a nop
abbrev IsThereToo : List ℕ → Instr → Option Instr → Type 0
IsThereToo over instr found = (other : Instr) × (found ≡ Some other) × IsOrIsNop (may_be_nop_on over) instr other

there_too : (over : List ℕ) (trap : Option ℕ) (more less : List Instr) (place : ℕ) (instr : Instr) → HasNops (may_be_nop_on over) more less → next_at trap more place ≡ Some instr
    → IsThereToo over instr (next_at trap less place)
there_too over (Some address) more less place instr h e = absurd (cc)
there_too over None more less place instr h e = let other = other_there more less place instr h.count e in (other.0, other.1, h.each place instr other.0 e other.1)

next_too : (over : List ℕ) (c e : Processor) (instr : Instr) → IsThinnerProcessor over c e → next_instruction (program_of c) (cpu_of c) ≡ Some instr
    → IsThereToo over instr (next_instruction (program_of e) (cpu_of c))
next_too over c e instr h there = there_too over c.trap (program_of c) (program_of e) c.place instr (programs over c e h) there

none_too : (trap : Option ℕ) (more less : List Instr) (place : ℕ) → length less ≡ length more → next_at trap more place ≡ None → next_at trap less place ≡ None
none_too (Some address) more less place long e = refl
none_too None more less place long e = none_there more less place long e

-- where none is next, none is
pub nothing_next : (over : List ℕ) (c e : Processor) → IsThinnerProcessor over c e → next_instruction (program_of c) (cpu_of c) ≡ None → next_instruction (program_of e) (cpu_of e) ≡ None
nothing_next over c e h none =
    ap (next_instruction (program_of e)) (same_cpu over c e h) ∙ none_too c.trap (program_of c) (program_of e) c.place (programs over c e h).count none

-- ---- it runs

abbrev Outcome : Type 0
Outcome = Result (Act × (Cpu × Contents)) exec.Refusal

abbrev left_by : Processor → Act × (Cpu × Contents) → Result (Act × (Processor × Memory)) Refusal
left_by c done = Ok (done.0, (with_cpu c done.1.0 done.1.1, done.1.1.memory))

-- what ran, and what it left
record IsRun (over : List ℕ) (c c' : Processor) (m m' : Memory) (act : Act) : Type 0 where
  cpu : Cpu
  contents : Contents
  ran : exec_of (program_of c) (cpu_of c) (contents_of over c.buffer m) ≡ Ok (act, (cpu, contents))
  after : c' ≡ with_cpu c cpu contents
  memory : m' ≡ contents.memory

run_parts : (over : List ℕ) (c c' : Processor) (m m' : Memory) (act : Act) (r : Outcome) → exec_of (program_of c) (cpu_of c) (contents_of over c.buffer m) ≡ r
    → (refused_as of_exec r >>= left_by c) ≡ Ok (act, (c', m')) → IsRun over c c' m m' act
run_parts over c c' m m' act (Ok done) is e =
    let parts = answer_of done.0 act (with_cpu c done.1.0 done.1.1, done.1.1.memory) (c', m') e in record {
      cpu = done.1.0;
      contents = done.1.1;
      ran = is ∙ ap (λ (a : Act). Ok (a, done.1)) (sym parts.0);
      after = ap (λ (p : Processor × Memory). p.0) parts.1;
      memory = ap (λ (p : Processor × Memory). p.1) parts.1;
    }
run_parts over c c' m m' act (Err refusal) is e = absurd (cc)

next_there : (program : List Instr) (c : Cpu) (s : Contents) (x : Act × (Cpu × Contents)) (there : Option Instr) → next_instruction program c ≡ there → exec_of program c s ≡ Ok x
    → (instr : Instr) × (next_instruction program c ≡ Some instr)
next_there program c s x None is e = let refused : exec_with c s None ≡ Ok x = sym (ap (exec_with c s) is) ∙ e in absurd (cc)
next_there program c s x (Some instr) is e = (instr, is)

-- the thinner processor runs it, or a nop, and is the thinner one still
pub record RunsToo (over : List ℕ) (e : Processor) (n : Memory) (c' : Processor) (m' : Memory) : Type 0 where
  pub act : Act
  pub after : Processor
  pub memory : Memory
  pub ran : run_by over e n ≡ Ok (act, (after, memory))
  pub thinner : IsThinnerProcessor over c' after
  pub thin_memory : IsThinnerMemory m' memory

module _ (over : List ℕ) (c c' e : Processor) (m m' n : Memory) (act : Act) (h : IsThinnerProcessor over c e) (k : IsThinnerMemory m n) (did : IsRun over c c' m m' act) where
  abbrev before : Contents
  before = contents_of over c.buffer m

  abbrev other : Contents
  other = contents_of over e.buffer n

  thin : IsThinnerContents before other
  thin = record { shape = refl; buffer = h.buffer; memory = k }

  left_too : (shown : Act) (v : Contents) → IsThinnerContents did.contents v → exec_of (program_of e) (cpu_of c) other ≡ Ok (shown, (did.cpu, v)) → RunsToo over e n c' m'
  left_too shown v is ran = record {
    act = shown;
    after = with_cpu e did.cpu v;
    memory = v.memory;
    ran = run_by_ok over e n (program_of e) shown did.cpu v refl (ap (λ (x : Cpu). exec_of (program_of e) x other) (same_cpu over c e h) ∙ ran);
    thinner = subst (λ (x : Processor). IsThinnerProcessor over x (with_cpu e did.cpu v)) (sym did.after) (record {
      main = h.main;
      recovery = h.recovery;
      recovering = h.recovering;
      place = refl;
      regs = refl;
      trap = refl;
      buffer = is.buffer;
    });
    thin_memory = subst (λ (x : Memory). IsThinnerMemory x v.memory) (sym did.memory) is.memory;
  }

  instr_too : (instr next : Instr) → next_instruction (program_of e) (cpu_of c) ≡ Some next → IsRunOf instr (cpu_of c) before act did.cpu did.contents
      → IsOrIsNop (may_be_nop_on over) instr next → RunsToo over e n c' m'
  instr_too instr next there runs (inl same) =
      let too = runs_too (cpu_of c) did.cpu before did.contents other act thin instr runs in
      left_too act too.0 too.2 (run_always (program_of e) (cpu_of c) did.cpu other too.0 act instr (there ∙ ap (λ (x : Instr). Some x) same) too.1)
  instr_too instr next there runs (inr (may, is)) =
      let too = nops_too (cpu_of c) did.cpu before did.contents other act thin instr may runs in
      left_too Local other too.1 (run_always (program_of e) (cpu_of c) did.cpu other other Local Nop (there ∙ ap (λ (x : Instr). Some x) is) (refl, too.0, refl))

  did_too : RunsToo over e n c' m'
  did_too =
      let next = next_there (program_of c) (cpu_of c) before (act, (did.cpu, did.contents)) (next_instruction (program_of c) (cpu_of c)) refl did.ran in
      let there = next_too over c e next.0 h next.1 in
      instr_too next.0 there.0 there.1 (run_only (program_of c) (cpu_of c) did.cpu before did.contents act next.0 next.1 did.ran) there.2

pub run_too : (over : List ℕ) (c c' e : Processor) (m m' n : Memory) (act : Act) → IsThinnerProcessor over c e → IsThinnerMemory m n
    → run_by over c m ≡ Ok (act, (c', m')) → RunsToo over e n c' m'
run_too over c c' e m m' n act h k ran =
    did_too over c c' e m m' n act h k (run_parts over c c' m m' act (exec_of (program_of c) (cpu_of c) (contents_of over c.buffer m)) refl ran)

-- ---- an entry leaves

-- it leaves the thinner processor too
pub record DrainsToo (over : List ℕ) (entry : Entry) (e : Processor) (n : Memory) (c' : Processor) (m' : Memory) : Type 0 where
  pub place : ℕ
  pub after : Processor
  pub memory : Memory
  pub before : List Entry
  pub later : List Entry
  pub split : DrainSplit place entry e after before later
  pub arrived : receive_of n entry ≡ Ok memory
  pub thinner : IsThinnerProcessor over c' after
  pub thin_memory : IsThinnerMemory m' memory

-- or the thinner processor lacks it
pub record LacksIt (over : List ℕ) (entry : Entry) (e : Processor) (n : Memory) (c' : Processor) (m' : Memory) : Type 0 where
  pub drops : is_no_write entry ≡ true
  pub thinner : IsThinnerProcessor over c' e
  pub thin_memory : IsThinnerMemory m' n

pub drained_too : (over : List ℕ) (i : ℕ) (entry : Entry) (c c' e : Processor) (m m' n : Memory) (before later : List Entry) → IsThinnerProcessor over c e → IsThinnerMemory m n
    → DrainSplit i entry c c' before later → receive_of m entry ≡ Ok m' → DrainsToo over entry e n c' m' ⊎ LacksIt over entry e n c' m'
drained_too over i entry c c' e m m' n before later h k split arrived =
    by (thins_split is_no_write entry before later e.buffer (subst (λ (xs : List Entry). Thins is_no_write xs e.buffer) split.whole h.buffer))
  where
    left : (x : Processor) → x ≡ record e { buffer = x.buffer } → Thins is_no_write (before ++ later) x.buffer → IsThinnerProcessor over c' x
    left x is thins =
        subst (λ (y : Processor). IsThinnerProcessor over y x) (sym split.rest) (
        subst (λ (y : Processor). IsThinnerProcessor over (record c { buffer = before ++ later }) y) (sym is) (record {
          main = h.main;
          recovery = h.recovery;
          recovering = h.recovering;
          place = h.place;
          regs = h.regs;
          trap = h.trap;
          buffer = thins;
        }))

    by : StaysAt is_no_write entry before later e.buffer ⊎ GoesAt is_no_write entry before later e.buffer → DrainsToo over entry e n c' m' ⊎ LacksIt over entry e n c' m'
    by (inl s) =
        let too = received entry m n m' k arrived in
        inl (record {
          place = length s.first;
          after = record e { buffer = s.first ++ s.last };
          memory = too.0;
          before = s.first;
          later = s.last;
          split = record {
            whole = s.whole;
            place = refl;
            free = thins_any is_no_write (is_held_by entry) before s.first s.before_it split.free;
            rest = refl;
          };
          arrived = too.1;
          thinner = left (record e { buffer = s.first ++ s.last }) refl (thins_joined is_no_write before later s.first s.last s.before_it s.behind_it);
          thin_memory = too.2;
        })
    by (inr s) = inr (record {
      drops = s.gone;
      thinner = left e refl (subst (λ (ys : List Entry). Thins is_no_write (before ++ later) ys) (sym s.whole) (thins_joined is_no_write before later s.first s.last s.before_it s.behind_it));
      thin_memory = received_alone entry m n m' s.gone k arrived;
    })

-- ---- a crash

pub restarts_too : (over : List ℕ) (c e : Processor) → IsThinnerProcessor over c e → IsThinnerProcessor over (restart_of c) (restart_of e)
restarts_too over c e h = record { main = h.main; recovery = h.recovery; recovering = refl; place = refl; regs = refl; trap = refl; buffer = refl }
