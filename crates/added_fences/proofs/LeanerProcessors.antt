-- A processor without some flushes and fences does what the other does.
use Rattle.std.proofs.Common.{◌≡◌, ℕ, ◌+◌, Bool, true, false, true≢false, Option, Some, None, Result, Ok, Err, List, ◌++◌, length, refl, sym, ◌∙◌, ap, subst, arith, inl, inr}
use Rattle.std.specs.Prelude.{◌⊎◌, MatchOption, if◌then◌else◌, is_some, slice_get}
use Rattle.std.proofs.lemmas.Bool.{and_parts}
use Rattle.outcomes.specs.Outcomes.{◌>>=◌, refused_as}
use Rattle.outcomes.proofs.PartsOfOutcomes.{answer_of}
use Rattle.lines_layout.specs.Lines.{address_of}
use Rattle.lines_layout.proofs.Addresses.{word_again}
use Rattle.isa.specs.declared.instr.Access.TheVariants as accesses
use Rattle.isa.specs.declared.instr.FenceKind.TheVariants.{Mfence, Sfence}
use Rattle.isa.specs.declared.instr.FlushKind.{FlushKind}
use Rattle.isa.specs.declared.instr.FlushKind.TheVariants.{Clflush, Clflushopt, Clwb}
use Rattle.isa.specs.declared.instr.Instr.{Instr}
use Rattle.isa.specs.declared.instr.Instr.TheVariants as instrs
use Rattle.isa.specs.declared.instr.MemoryOperand.TheVariants as operands
use Rattle.isa.specs.Loadables.{names_its_words}
use Rattle.isa.specs.Operands.{address_meant}
use Rattle.store_buffer.specs.declared.entry.Entry.{Entry}
use Rattle.store_buffer.specs.Buffers.{is_held_by}
use Rattle.persist_buffer.specs.State.{Memory}
use Rattle.processor.specs.declared.act.Act.{Act}
use Rattle.processor.specs.declared.refusal.Refusal as exec
use Rattle.processor.specs.Contents.{Contents}
use Rattle.processor.specs.Cpus.{Cpu}
use Rattle.processor.specs.Executions.{exec_of, next_instruction}
use Rattle.processor.specs.Instructions.{IsAccessTo, IsRunOf, Traps}
use Rattle.processor.proofs.InstructionsRunAsTold.{exec_with, run_always, run_only}
use Rattle.machine.specs.declared.refusal.Refusal.{Refusal}
use Rattle.machine.specs.Processors.{contents_of, cpu_of, program_of, programs_of, receive_of, restart_of, run_by, with_cpu}
use Rattle.machine.specs.Refusals.{of_exec}
use Rattle.machine.specs.State.{Processor}
use Rattle.machine.specs.StepRelations.{DrainSplit}
use Rattle.machine.proofs.ExecAndDrainByProcessor.{run_by_ok}
use Rattle.image_reasons.specs.Repairs.{code_of}
use Rattle.fewer_fences.specs.Thinner.{IsThinnerMemory, Thins, is_no_write, may_be_nop, may_be_nop_on}
use Rattle.fewer_fences.proofs.ThinnedLists.{GoesAt, StaysAt, thins_any, thins_joined, thins_split}
use Rattle.fewer_fences.proofs.ThinnerContents.{IsThinnerContents, nops_too, runs_too}
use Rattle.fewer_fences.proofs.ThinnerMemories.{received, received_alone}
use Rattle.added_fences.specs.Added.{CanAccessAgain, HasAdded, IsLeanerProcessor, OrdersAlone, StandsFor, WasThere}
use Rattle.added_fences.specs.Traced.{orders_alone}
use Rattle.added_fences.proofs.AccessedAgain.{flush_as_named, means_again, named_orders}
use Rattle.added_fences.proofs.Relocated.{at, runs_there}

-- ---- the instruction that is next

-- the program that a processor runs, by the word of its mode
abbrev run_as : Bool → Processor → List Instr
run_as recovering c = code_of recovering (programs_of c)

program_is : (c : Processor) → program_of c ≡ run_as c.recovering c
program_is c = by c.recovering
  where
    by : (b : Bool) → (if b then c.recovery else c.main) ≡ run_as b c
    by true = refl
    by false = refl

other_program : (over : List ℕ) (c e : Processor) → IsLeanerProcessor over c e → program_of e ≡ run_as c.recovering e
other_program over c e h = program_is e ∙ ap (λ (b : Bool). run_as b e) h.recovering

abbrev next_at : Option ℕ → List Instr → ℕ → Option Instr
next_at trap program place = if is_some trap then None else slice_get program place

goes_by : (trap : Option ℕ) (program : List Instr) (place : ℕ) (instr : Instr) → next_at trap program place ≡ Some instr → (trap ≡ None) × (slice_get program place ≡ Some instr)
goes_by (Some address) program place instr e = absurd (cc)
goes_by None program place instr e = (refl, e)

none_by : (back : ℕ → ℕ) (trap : Option ℕ) (more less : List Instr) (place other : ℕ) → ((i : ℕ) → slice_get more i ≡ None → slice_get less (back i) ≡ None)
    → StandsFor back more less place other → next_at trap more place ≡ None → next_at trap less other ≡ None
none_by back (Some address) more less place other end stands e = refl
none_by back None more less place other end (inl is) e = ap (slice_get less) is ∙ end place e
none_by back None more less place other end (inr (none, nor)) e = nor

-- where none is next, none is
pub nothing_next : (over : List ℕ) (c e : Processor) → IsLeanerProcessor over c e → next_instruction (program_of c) (cpu_of c) ≡ None → next_instruction (program_of e) (cpu_of e) ≡ None
nothing_next over c e h none =
    let code : HasAdded (may_be_nop_on over) (run_as c.recovering c) (run_as c.recovering e) = h.code c.recovering in
    ap (λ (program : List Instr). next_at e.trap program e.place) (other_program over c e h)
    ∙ (ap (λ (trap : Option ℕ). next_at trap (run_as c.recovering e) e.place) h.trap
    ∙ none_by code.back c.trap (run_as c.recovering c) (run_as c.recovering e) c.place e.place code.end h.place
    (ap (λ (program : List Instr). next_at c.trap program c.place) (sym (program_is c)) ∙ none))

-- where one is at a place, the other place is the one that it is led back to
led_there : (back : ℕ → ℕ) (more less : List Instr) (place other : ℕ) (instr : Instr) → StandsFor back more less place other → slice_get more place ≡ Some instr → other ≡ back place
led_there back more less place other instr (inl is) here = is
led_there back more less place other instr (inr (none, nor)) here = let both : Some instr ≡ None = sym here ∙ none in absurd (cc)

-- ---- what a fence or a flush shows

module _ (c d : Cpu) (s t : Contents) (act : Act) where
  flush_shown : (kind : FlushKind) (word : ℕ) → IsAccessTo word (accesses.Flush kind) c s act d t → orders_alone act ≡ true
  flush_shown Clflush word (shown, on, is) = ap orders_alone shown
  flush_shown Clflushopt word (shown, on, is) = ap orders_alone shown
  flush_shown Clwb word (shown, on, is) = ap orders_alone shown

  shown_by : (instr : Instr) → may_be_nop instr ≡ true → names_its_words s.shape instr ≡ true → IsRunOf instr c s act d t → orders_alone act ≡ true
  shown_by (instrs.Set r source) may named did = absurd (true≢false (sym may))
  shown_by (instrs.Compute operation r n) may named did = absurd (true≢false (sym may))
  shown_by (instrs.Jump kind target) may named did = absurd (true≢false (sym may))
  shown_by instrs.Nop may named did = absurd (true≢false (sym may))
  shown_by (instrs.Memory (accesses.Load r) operand) may named did = absurd (true≢false (sym may))
  shown_by (instrs.Memory (accesses.Store source) operand) may named did = absurd (true≢false (sym may))
  shown_by (instrs.Memory (accesses.Locked operation r) operand) may named did = absurd (true≢false (sym may))
  shown_by (instrs.Memory (accesses.Flush kind) (operands.Register r)) may named did = absurd (true≢false (sym may))
  shown_by (instrs.Memory (accesses.Flush kind) (operands.Word word)) may named did =
      flush_shown kind word (subst (λ (o : Option ℕ). MatchOption o (Traps c s act d t (address_of word)) (λ found. IsAccessTo found (accesses.Flush kind) c s act d t))
      (word_again s.shape word named) did)
  shown_by (instrs.Fence Mfence) may named (empty, shown, on, e) = ap orders_alone shown
  shown_by (instrs.Fence Sfence) may named (shown, on, is) = ap orders_alone shown

  order_shown : (instr : Instr) → may_be_nop_on s.shape instr ≡ true → IsRunOf instr c s act d t → orders_alone act ≡ true
  order_shown instr may did = let parts = and_parts (may_be_nop instr) (names_its_words s.shape instr) may in shown_by instr parts.0 parts.1 did

-- ---- it runs

abbrev Outcome : Type 0
Outcome = Result (Act × (Cpu × Contents)) exec.Refusal

abbrev left_by : Processor → Act × (Cpu × Contents) → Result (Act × (Processor × Memory)) Refusal
left_by c done = Ok (done.0, (with_cpu c done.1.0 done.1.1, done.1.1.memory))

-- what ran, and what it left
record IsRun (over : List ℕ) (c c' : Processor) (m m' : Memory) (act : Act) : Type 0 where
  cpu : Cpu
  contents : Contents
  ran : exec_of (program_of c) (cpu_of c) (contents_of over c.buffer m) ≡ Ok (act, (cpu, contents))
  after : c' ≡ with_cpu c cpu contents
  memory : m' ≡ contents.memory

run_parts : (over : List ℕ) (c c' : Processor) (m m' : Memory) (act : Act) (r : Outcome) → exec_of (program_of c) (cpu_of c) (contents_of over c.buffer m) ≡ r
    → (refused_as of_exec r >>= left_by c) ≡ Ok (act, (c', m')) → IsRun over c c' m m' act
run_parts over c c' m m' act (Ok done) is e =
    let parts = answer_of done.0 act (with_cpu c done.1.0 done.1.1, done.1.1.memory) (c', m') e in record {
      cpu = done.1.0;
      contents = done.1.1;
      ran = is ∙ ap (λ (a : Act). Ok (a, done.1)) (sym parts.0);
      after = ap (λ (p : Processor × Memory). p.0) parts.1;
      memory = ap (λ (p : Processor × Memory). p.1) parts.1;
    }
run_parts over c c' m m' act (Err refusal) is e = absurd (cc)

next_there : (program : List Instr) (c : Cpu) (s : Contents) (x : Act × (Cpu × Contents)) (there : Option Instr) → next_instruction program c ≡ there → exec_of program c s ≡ Ok x
    → (instr : Instr) × (next_instruction program c ≡ Some instr)
next_there program c s x None is e = let refused : exec_with c s None ≡ Ok x = sym (ap (exec_with c s) is) ∙ e in absurd (cc)
next_there program c s x (Some instr) is e = (instr, is)

-- the leaner processor runs it, and is the leaner one still
pub record RunsToo (over : List ℕ) (e : Processor) (n : Memory) (c' : Processor) (m' : Memory) : Type 0 where
  pub act : Act
  pub after : Processor
  pub memory : Memory
  pub ran : run_by over e n ≡ Ok (act, (after, memory))
  pub leaner : IsLeanerProcessor over c' after
  pub thin_memory : IsThinnerMemory m' memory

-- or it lacks what ran
pub record LacksInstr (over : List ℕ) (act : Act) (e : Processor) (n : Memory) (c' : Processor) (m' : Memory) : Type 0 where
  pub orders : orders_alone act ≡ true
  pub leaner : IsLeanerProcessor over c' e
  pub thin_memory : IsThinnerMemory m' n

module _ (over : List ℕ) (c c' e : Processor) (m m' n : Memory) (act : Act) (h : IsLeanerProcessor over c e) (k : IsThinnerMemory m n) (did : IsRun over c c' m m' act) where
  abbrev before : Contents
  before = contents_of over c.buffer m

  abbrev other : Contents
  other = contents_of over e.buffer n

  thin : IsThinnerContents before other
  thin = record { shape = refl; buffer = h.buffer; memory = k }

  -- the code that both run
  abbrev more : List Instr
  more = run_as c.recovering c

  abbrev less : List Instr
  less = run_as c.recovering e

  abbrev code : HasAdded (may_be_nop_on over) more less
  code = h.code c.recovering

  -- where it is behind an access then, it has accessed a word
  again_then : (instr : Instr) → slice_get more c.place ≡ Some instr → IsRunOf instr (cpu_of c) before act did.cpu did.contents → CanAccessAgain over (with_cpu c did.cpu did.contents)
  again_then instr here runs operand b = means_again more operand (cpu_of c) did.cpu before did.contents act (h.again operand) instr here runs b

  -- the leaner one as it is then
  is_leaner : CanAccessAgain over (with_cpu c did.cpu did.contents) → (x : Processor) → x ≡ record e { place = x.place; regs = x.regs; trap = x.trap; buffer = x.buffer } → StandsFor code.back more less did.cpu.place x.place → x.regs ≡ did.cpu.regs
      → x.trap ≡ did.cpu.trap → Thins is_no_write did.contents.buffer x.buffer → IsLeanerProcessor over c' x
  is_leaner again x is stands regs trap thins =
      subst (λ (y : Processor). IsLeanerProcessor over y x) (sym did.after) (
      subst (λ (y : Processor). IsLeanerProcessor over (with_cpu c did.cpu did.contents) y) (sym is) (record {
        code = h.code;
        recovering = h.recovering;
        place = stands;
        regs = regs;
        trap = trap;
        buffer = thins;
        again = again;
      }))

  then_memory : (x : Memory) → IsThinnerMemory did.contents.memory x → IsThinnerMemory m' x
  then_memory x is = subst (λ (y : Memory). IsThinnerMemory y x) (sym did.memory) is

  -- the instruction was there
  ran_there : (instr : Instr) → c.trap ≡ None → slice_get more c.place ≡ Some instr → e.place ≡ code.back c.place → IsRunOf instr (cpu_of c) before act did.cpu did.contents → WasThere code.back more less c.place instr
      → RunsToo over e n c' m'
  ran_there instr free here led runs was =
      let too = runs_too (cpu_of c) did.cpu before did.contents other act thin instr runs in
      let v : Contents = too.0 in
      let there = runs_there code.back more less e.place (cpu_of c) did.cpu other v act led (was.next ∙ ap (λ (i : ℕ). i + 1) (sym led)) instr was.other was.alike too.1 in
      let next : next_instruction (program_of e) (at e.place (cpu_of c)) ≡ Some was.other =
      ap (λ (program : List Instr). next_at c.trap program e.place) (other_program over c e h)
      ∙ (ap (λ (trap : Option ℕ). next_at trap less e.place) free ∙ (ap (slice_get less) led ∙ was.there)) in
      let ran = run_always (program_of e) (at e.place (cpu_of c)) (at there.0 did.cpu) other v act was.other next there.1 in
      let same : cpu_of e ≡ at e.place (cpu_of c) = λ i. record { place = e.place; regs = h.regs i; trap = h.trap i } in
      record {
        act = act;
        after = with_cpu e (at there.0 did.cpu) v;
        memory = v.memory;
        ran = run_by_ok over e n (program_of e) act (at there.0 did.cpu) v refl (ap (λ (x : Cpu). exec_of (program_of e) x other) same ∙ ran);
        leaner = is_leaner (again_then instr here runs) (with_cpu e (at there.0 did.cpu) v) refl there.2 refl refl too.2.buffer;
        thin_memory = then_memory v.memory too.2.memory;
      }

  -- what ran is a fence, or a flush of a word by its address
  lacks_by : CanAccessAgain over (with_cpu c did.cpu did.contents) → (instr : Instr) → e.place ≡ code.back c.place → code.back (c.place + 1) ≡ code.back c.place
      → IsRunOf instr (cpu_of c) before act did.cpu did.contents → may_be_nop_on over instr ≡ true → LacksInstr over act e n c' m'
  lacks_by again instr led next runs may =
      let too = nops_too (cpu_of c) did.cpu before did.contents other act thin instr may runs in
      let back : did.cpu.place ≡ c.place + 1 = ap (λ (x : Cpu). x.place) too.0 in
      record {
        orders = order_shown (cpu_of c) did.cpu before did.contents act instr may runs;
        leaner = is_leaner again e refl (inl (led ∙ (sym next ∙ ap code.back (sym back)))) (h.regs ∙ sym (ap (λ (x : Cpu). x.regs) too.0)) (h.trap ∙ sym (ap (λ (x : Cpu). x.trap) too.0)) too.1.buffer;
        thin_memory = then_memory n too.1.memory;
      }

  -- the instruction was put in: a flush of what an access before it accessed does what one of that word by its address does
  ran_alone : (instr : Instr) → slice_get more c.place ≡ Some instr → e.place ≡ code.back c.place → code.back (c.place + 1) ≡ code.back c.place
      → IsRunOf instr (cpu_of c) before act did.cpu did.contents → OrdersAlone (may_be_nop_on over) more c.place instr → LacksInstr over act e n c' m'
  ran_alone instr here led next runs (inl may) = lacks_by (again_then instr here runs) instr led next runs may
  ran_alone instr here led next runs (inr flush) =
      let (word, is) = h.again flush.operand flush.behind in
      let named = flush_as_named (cpu_of c) did.cpu before did.contents act flush.kind flush.operand word is
      (subst (λ (y : Instr). IsRunOf y (cpu_of c) before act did.cpu did.contents) flush.is runs) in
      lacks_by (again_then instr here runs) (instrs.Memory (accesses.Flush flush.kind) (operands.Word word)) led next named
      (named_orders over (address_meant c.regs flush.operand) flush.kind word is)

  did_too : RunsToo over e n c' m' ⊎ LacksInstr over act e n c' m'
  did_too =
      let next = next_there (program_of c) (cpu_of c) before (act, (did.cpu, did.contents)) (next_instruction (program_of c) (cpu_of c)) refl did.ran in
      let runs = run_only (program_of c) (cpu_of c) did.cpu before did.contents act next.0 next.1 did.ran in
      let here = goes_by c.trap more c.place next.0 (ap (λ (program : List Instr). next_at c.trap program c.place) (sym (program_is c)) ∙ next.1) in
      let led = led_there code.back more less c.place e.place next.0 h.place here.1 in
      elim (code.each c.place next.0 here.1) [
        | inl put ↦ inr (ran_alone next.0 here.1 led put.next runs put.passes)
        | inr was ↦ inl (ran_there next.0 here.0 here.1 led runs was)
      ]

pub run_too : (over : List ℕ) (c c' e : Processor) (m m' n : Memory) (act : Act) → IsLeanerProcessor over c e → IsThinnerMemory m n
    → run_by over c m ≡ Ok (act, (c', m')) → RunsToo over e n c' m' ⊎ LacksInstr over act e n c' m'
run_too over c c' e m m' n act h k ran =
    did_too over c c' e m m' n act h k (run_parts over c c' m m' act (exec_of (program_of c) (cpu_of c) (contents_of over c.buffer m)) refl ran)

-- ---- an entry leaves

-- it leaves the leaner processor too
pub record DrainsToo (over : List ℕ) (entry : Entry) (e : Processor) (n : Memory) (c' : Processor) (m' : Memory) : Type 0 where
  pub place : ℕ
  pub after : Processor
  pub memory : Memory
  pub before : List Entry
  pub later : List Entry
  pub split : DrainSplit place entry e after before later
  pub arrived : receive_of n entry ≡ Ok memory
  pub leaner : IsLeanerProcessor over c' after
  pub thin_memory : IsThinnerMemory m' memory

-- or the leaner processor lacks it
pub record LacksEntry (over : List ℕ) (entry : Entry) (e : Processor) (n : Memory) (c' : Processor) (m' : Memory) : Type 0 where
  pub drops : is_no_write entry ≡ true
  pub leaner : IsLeanerProcessor over c' e
  pub thin_memory : IsThinnerMemory m' n

pub drained_too : (over : List ℕ) (i : ℕ) (entry : Entry) (c c' e : Processor) (m m' n : Memory) (before later : List Entry) → IsLeanerProcessor over c e → IsThinnerMemory m n
    → DrainSplit i entry c c' before later → receive_of m entry ≡ Ok m' → DrainsToo over entry e n c' m' ⊎ LacksEntry over entry e n c' m'
drained_too over i entry c c' e m m' n before later h k split arrived =
    by (thins_split is_no_write entry before later e.buffer (subst (λ (xs : List Entry). Thins is_no_write xs e.buffer) split.whole h.buffer))
  where
    left : (x : Processor) → x ≡ record e { buffer = x.buffer } → Thins is_no_write (before ++ later) x.buffer → IsLeanerProcessor over c' x
    left x is thins =
        subst (λ (y : Processor). IsLeanerProcessor over y x) (sym split.rest) (
        subst (λ (y : Processor). IsLeanerProcessor over (record c { buffer = before ++ later }) y) (sym is) (record {
          code = h.code;
          recovering = h.recovering;
          place = h.place;
          regs = h.regs;
          trap = h.trap;
          buffer = thins;
          again = h.again;
        }))

    by : StaysAt is_no_write entry before later e.buffer ⊎ GoesAt is_no_write entry before later e.buffer → DrainsToo over entry e n c' m' ⊎ LacksEntry over entry e n c' m'
    by (inl s) =
        let too = received entry m n m' k arrived in
        inl (record {
          place = length s.first;
          after = record e { buffer = s.first ++ s.last };
          memory = too.0;
          before = s.first;
          later = s.last;
          split = record {
            whole = s.whole;
            place = refl;
            free = thins_any is_no_write (is_held_by entry) before s.first s.before_it split.free;
            rest = refl;
          };
          arrived = too.1;
          leaner = left (record e { buffer = s.first ++ s.last }) refl (thins_joined is_no_write before later s.first s.last s.before_it s.behind_it);
          thin_memory = too.2;
        })
    by (inr s) = inr (record {
      drops = s.gone;
      leaner = left e refl (subst (λ (ys : List Entry). Thins is_no_write (before ++ later) ys) (sym s.whole) (thins_joined is_no_write before later s.first s.last s.before_it s.behind_it));
      thin_memory = received_alone entry m n m' s.gone k arrived;
    })

-- ---- a crash

pub restarts_too : (over : List ℕ) (c e : Processor) → IsLeanerProcessor over c e → IsLeanerProcessor over (restart_of c) (restart_of e)
restarts_too over c e h =
    record { code = h.code; recovering = refl; place = inl (sym (h.code true).start); regs = refl; trap = refl; buffer = refl; again = not_at_start }
  where
    not_at_start : CanAccessAgain over (restart_of c)
    not_at_start operand b = let before = b.before in absurd (omega (arith, before))
