-- Own steps come to an end, and leave all but one processor; where no local steps count they leave its registers too.
use Rattle.std.proofs.Common.{◌≡◌, ℕ, zero, suc, ◌+◌, ◌-◌, ◌<◌, ◌≤◌, Bool, true, false, Option, Some, None, Result, Ok, Err, List, [], ◌∷◌, ◌++◌, length, refl, sym, ap, subst, ◌∙◌, arith, length-append, true≢false}
use Rattle.std.proofs.lemmas.Bool.{and_parts}
use Rattle.std.proofs.lemmas.Bool.Decides.{nat_tests}
use Rattle.std.specs.Prelude.{not, ◌==◌, is_some, slice_get, slice_set, if◌then◌else◌}
use Rattle.std.specs.List.{list_any}
use Rattle.std.specs.Option.{option_map_or}
use Rattle.lines_layout.specs.Lines.{word_at}
use Rattle.isa.specs.declared.instr.Access.{Access}
use Rattle.isa.specs.declared.instr.Access.TheVariants as accesses
use Rattle.isa.specs.declared.instr.FenceKind.TheVariants.{Mfence, Sfence}
use Rattle.isa.specs.declared.instr.Instr.{Instr}
use Rattle.isa.specs.declared.instr.Instr.TheVariants as instrs
use Rattle.isa.specs.declared.instr.Next.{Next}
use Rattle.isa.specs.declared.instr.Next.TheVariants.{Following}
use Rattle.isa.specs.declared.register.Regs.{Regs}
use Rattle.isa.specs.Effects.{local_of}
use Rattle.isa.specs.Operands.{address_meant}
use Rattle.store_buffer.specs.declared.entry.Entry.{Entry}
use Rattle.store_buffer.specs.declared.entry.Entry.TheVariants as entries
use Rattle.store_buffer.specs.Buffers.{is_held_by}
use Rattle.persist_buffer.specs.State.{Memory}
use Rattle.outcomes.specs.Outcomes.{◌>>=◌, refuse, refused_as, required}
use Rattle.outcomes.proofs.PartsOfOutcomes.{answer_of}
use Rattle.processor.specs.declared.act.Act.{Act}
use Rattle.processor.specs.declared.act.Act.TheVariants.{Local, Fence, Read, Delay, Locked, Trap}
use Rattle.processor.specs.declared.refusal.Refusal as exec
use Rattle.processor.specs.declared.refusal.Refusal.TheVariants as execs
use Rattle.processor.specs.Accesses.{act_of, is_locked, regs_of, value_read}
use Rattle.processor.specs.Contents.{Contents}
use Rattle.processor.specs.Cpus.{Cpu, next_cpu, trapped_at}
use Rattle.processor.specs.Executions.{access_of, contents_after, effect_of, exec_of, next_instruction, waited}
use Rattle.machine.specs.declared.refusal.Refusal.{Refusal}
use Rattle.machine.specs.declared.step.Seen.{Seen}
use Rattle.machine.specs.declared.step.Seen.TheVariants.{Left}
use Rattle.machine.specs.declared.step.Step.{Step}
use Rattle.machine.specs.declared.step.Step.TheVariants.{Exec, Drain, Persist, Settle, Crash}
use Rattle.machine.specs.Processors.{contents_of, cpu_of, program_of, receive_of, run_by, with_cpu}
use Rattle.machine.specs.Refusals.{of_exec}
use Rattle.machine.specs.State.{Processor, State}
use Rattle.machine.specs.Steps.{step_of}
use Rattle.machine.proofs.DrainingIsASplit.{fence_disappears}
use Rattle.machine.proofs.ProcessorSteps.{drain_only, exec_only}
use Rattle.explore.specs.Ahead.{LeadsAhead}
use Rattle.explore.specs.Followed.{all_own, most_own}
use Rattle.explore.specs.Questions.{is_move}
use Rattle.explore.specs.Own.{Advance, Advances, HasGone, HaveGone, is_before, is_own, is_private, leaves, place_at, runs}
use Rattle.explore.proofs.AheadSteps.{gone_none, place_is, within}
use Rattle.explore.proofs.OwnSteps.{fence_is_oldest, no_memory, own_run, own_runs}
use Rattle.explore.proofs.SpeakingFor.{speaks_for_same}
use Rattle.explore.proofs.QuietRuns.{appended}

abbrev Outcome : Type 0
Outcome = Result (Act × (Cpu × Contents)) exec.Refusal

abbrev did : Processor → Outcome → Result (Act × (Processor × Memory)) Refusal
did c r = refused_as of_exec r >>= λ done. Ok (done.0, (with_cpu c done.1.0 done.1.1, done.1.1.memory))

-- ---- what runs is at an instruction of its program

untrapped : (trapped : Bool) (there : Option Instr) (instr : Instr) → (if trapped then None else there) ≡ Some instr → there ≡ Some instr
untrapped true there instr e = absurd (cc)
untrapped false there instr e = e

there_by : (c : Processor) (s : Contents) (found : Option Instr) (x : Act × (Processor × Memory)) → next_instruction (program_of c) (cpu_of c) ≡ found
    → did c (required execs.Halted found >>= λ i. effect_of i (cpu_of c) s) ≡ Ok x → c.place < length (program_of c)
there_by c s None x is e = absurd (cc)
there_by c s (Some instr) x is e = within (program_of c) c.place instr (untrapped (is_some c.trap) (slice_get (program_of c) c.place) instr is)

run_there : (shape : List ℕ) (c d : Processor) (m n : Memory) (act : Act) → run_by shape c m ≡ Ok (act, (d, n)) → c.place < length (program_of c)
run_there shape c d m n act e = there_by c (contents_of shape c.buffer m) (next_instruction (program_of c) (cpu_of c)) (act, (d, n)) refl e

-- ---- what delays an entry keeps the registers

module _ (c : Cpu) (s : Contents) where
  abbrev Keeps : Outcome → Type 0
  Keeps r = (act : Act) (d : Cpu) (t : Contents) (entry : Entry) → r ≡ Ok (act, (d, t)) → act ≡ Delay entry → d.regs ≡ c.regs

  refused : (refusal : exec.Refusal) → Keeps (Err refusal)
  refused refusal act d t entry e is = absurd (cc)

  kept : (shows : Act) (x : Cpu) (r : Result Contents exec.Refusal) → x.regs ≡ c.regs → Keeps (r >>= λ after. Ok (shows, (x, after)))
  kept shows x (Err refusal) same act d t entry e is = absurd (cc)
  kept shows x (Ok after) same act d t entry e is = ap (λ (p : Cpu × Contents). p.0.regs) ((answer_of shows act (x, after) (d, t) e).1) ∙ same

  another : (shows : Act) (x : Cpu) (r : Result Contents exec.Refusal) → ((entry : Entry) → shows ≡ Delay entry → ⊥) → Keeps (r >>= λ after. Ok (shows, (x, after)))
  another shows x (Err refusal) differs act d t entry e is = absurd (cc)
  another shows x (Ok after) differs act d t entry e is = absurd (differs entry (sym ((answer_of shows act (x, after) (d, t) e).0) ∙ is))

  waits : (q : Bool) (r : Outcome) → Keeps r → Keeps (refuse execs.BufferNotEmpty q >>= λ drained. r)
  waits true r h = refused execs.BufferNotEmpty
  waits false r h = h

  memory_keeps : (access : Access) (address : ℕ) (o : Option ℕ)
      → Keeps (option_map_or (λ word. waited (is_locked access) (length s.buffer == 0) (access_of access word c s)) o (Ok (Trap address, (trapped_at c address, s))))
  memory_keeps access address None = another (Trap address) (trapped_at c address) (Ok s) (λ entry e. cc)
  memory_keeps (accesses.Load r) address (Some word) =
      let value = value_read (accesses.Load r) word s in
      another (Read word value) (next_cpu c Following (regs_of (accesses.Load r) c.regs value)) (Ok s) (λ entry e. cc)
  memory_keeps (accesses.Store source) address (Some word) =
      let shows = act_of (accesses.Store source) word c.regs 0 in
      kept shows (next_cpu c Following c.regs) (contents_after shows s) refl
  memory_keeps (accesses.Flush kind) address (Some word) =
      let shows = act_of (accesses.Flush kind) word c.regs 0 in
      kept shows (next_cpu c Following c.regs) (contents_after shows s) refl
  memory_keeps (accesses.Locked operation r) address (Some word) =
      let value = value_read (accesses.Locked operation r) word s in
      let shows = act_of (accesses.Locked operation r) word c.regs value in
      waits (not (length s.buffer == 0)) (access_of (accesses.Locked operation r) word c s)
      (another shows (next_cpu c Following (regs_of (accesses.Locked operation r) c.regs value)) (contents_after shows s) (λ entry e. cc))

  local_keeps : (o : Option (Next × Regs)) → Keeps (option_map_or (λ after. Ok (Local, (next_cpu c after.0 after.1, s))) o (Ok (Local, (c, s))))
  local_keeps None = kept Local c (Ok s) refl
  local_keeps (Some after) = another Local (next_cpu c after.0 after.1) (Ok s) (λ entry e. cc)

  effect_keeps : (instr : Instr) → Keeps (effect_of instr c s)
  effect_keeps (instrs.Memory access operand) = memory_keeps access (address_meant c.regs operand) (word_at s.shape (address_meant c.regs operand))
  effect_keeps (instrs.Fence Mfence) = waits (not (length s.buffer == 0)) (Ok (Fence, (next_cpu c Following c.regs, s))) (kept Fence (next_cpu c Following c.regs) (Ok s) refl)
  effect_keeps (instrs.Fence Sfence) = kept (Delay entries.Sfence) (next_cpu c Following c.regs) (contents_after (Delay entries.Sfence) s) refl
  effect_keeps (instrs.Set r source) = local_keeps (local_of (instrs.Set r source) c.regs)
  effect_keeps (instrs.Compute operation r number) = local_keeps (local_of (instrs.Compute operation r number) c.regs)
  effect_keeps (instrs.Jump kind target) = local_keeps (local_of (instrs.Jump kind target) c.regs)
  effect_keeps instrs.Nop = local_keeps (local_of instrs.Nop c.regs)

  found_keeps : (o : Option Instr) → Keeps (required execs.Halted o >>= λ i. effect_of i c s)
  found_keeps None = refused execs.Halted
  found_keeps (Some instr) = effect_keeps instr

keeps_by : (c d : Processor) (n : Memory) (act : Act) (entry : Entry) (r : Outcome) → ((a : Act) (x : Cpu) (t : Contents) (y : Entry) → r ≡ Ok (a, (x, t)) → a ≡ Delay y → x.regs ≡ c.regs)
    → did c r ≡ Ok (act, (d, n)) → act ≡ Delay entry → d.regs ≡ c.regs
keeps_by c d n act entry (Err refusal) h e is = absurd (cc)
keeps_by c d n act entry (Ok done) h e is =
    let parts = answer_of done.0 act (with_cpu c done.1.0 done.1.1, done.1.1.memory) (d, n) e in
    ap (λ (p : Processor × Memory). p.0.regs) parts.1 ∙ h done.0 done.1.0 done.1.1 entry refl (sym parts.0 ∙ is)

delay_keeps : (shape : List ℕ) (c d : Processor) (m n : Memory) (entry : Entry) → run_by shape c m ≡ Ok (Delay entry, (d, n)) → d.regs ≡ c.regs
delay_keeps shape c d m n entry e =
    keeps_by c d n (Delay entry) entry (exec_of (program_of c) (cpu_of c) (contents_of shape c.buffer m))
    (found_keeps (cpu_of c) (contents_of shape c.buffer m) (next_instruction (program_of c) (cpu_of c))) e refl

own_act_keeps : (shape : List ℕ) (c d : Processor) (act : Act) → is_own false act ≡ true → run_by shape c no_memory ≡ Ok (act, (d, no_memory)) → d.regs ≡ c.regs
own_act_keeps shape c d (Delay entry) own e = delay_keeps shape c d no_memory no_memory entry e
own_act_keeps shape c d Local own e = absurd (true≢false (sym own))
own_act_keeps shape c d Fence own e = absurd (true≢false (sym own))
own_act_keeps shape c d (Trap address) own e = absurd (true≢false (sym own))
own_act_keeps shape c d (Read word value) own e = absurd (true≢false (sym own))
own_act_keeps shape c d (Locked word value written) own e = absurd (true≢false (sym own))

one_keeps : (shape : List ℕ) (c d : Processor) → Advance false shape c d → d.regs ≡ c.regs
one_keeps shape c d (runs act own rises ran) = own_act_keeps shape c d act own (ran no_memory)
one_keeps shape c d (leaves later whole is) = ap (λ (x : Processor). x.regs) is

pub registers_stay : (shape : List ℕ) (n : ℕ) (c d : Processor) → Advances false shape n c d → d.regs ≡ c.regs
registers_stay shape zero c d gone = ap (λ (x : Processor). x.regs) gone
registers_stay shape (suc n) c d (mid, first, rest) = registers_stay shape n mid d rest ∙ one_keeps shape c mid first

-- ---- how many own steps a processor can make at most

few_appended : (act : Act) → length (appended act) ≤ 1
few_appended (Delay entry) = omega arith
few_appended Local = omega arith
few_appended Fence = omega arith
few_appended (Trap address) = omega arith
few_appended (Read word value) = omega arith
few_appended (Locked word value written) = omega arith

fewer : (len place next buffer more : ℕ) → place < len → place < next → more ≤ 1 → (len - next) + (len - next) + (buffer + more) < (len - place) + (len - place) + buffer
fewer len place next buffer more there rises few = omega arith

pub one_fewer : (locals : Bool) (shape : List ℕ) (c d : Processor) → Advance locals shape c d → most_own d < most_own c
one_fewer locals shape c d (runs act own rises ran) =
    let too = own_run locals shape c d no_memory no_memory no_memory act c.buffer own (omega arith) (ran no_memory) in
    let program : program_of d ≡ program_of c = λ i. if too.recovering i then too.recovery i else too.main i in
    let more : length d.buffer ≡ length c.buffer + length (appended act) = ap length too.buffer ∙ length-append c.buffer (appended act) in
    let less = fewer (length (program_of c)) c.place d.place (length c.buffer) (length (appended act)) (run_there shape c d no_memory no_memory act (ran no_memory)) rises (few_appended act) in
    subst (λ (n : ℕ). n < most_own c) (sym (λ i. (length (program i) - d.place) + (length (program i) - d.place) + more i)) less
one_fewer locals shape c d (leaves later whole is) =
    let less : most_own (record c { buffer = later }) < most_own c = omega (arith, ap length whole) in
    subst (λ (x : Processor). most_own x < most_own c) (sym is) less

fewer_of : (a b x y : ℕ) → a < b → a + x < b + x
fewer_of a b x y less = omega arith

fewer_in : (a x y : ℕ) → x < y → a + x < a + y
fewer_in a x y less = omega arith

all_fewer : (cs : List Processor) (p : ℕ) (c d : Processor) → slice_get cs p ≡ Some c → most_own d < most_own c → all_own (slice_set cs p d) < all_own cs
all_fewer [] p c d there less = absurd (cc)
all_fewer (x ∷ cs) zero c d there less =
    let same : c ≡ x = cc in
    fewer_of (most_own d) (most_own x) (all_own cs) 0 (subst (λ (y : Processor). most_own d < most_own y) same less)
all_fewer (x ∷ cs) (suc p) c d there less = fewer_in (most_own x) (all_own (slice_set cs p d)) (all_own cs) (all_fewer cs p c d there less)

-- ---- an accepted step that is an own one

gone_set : (locals : Bool) (shape : List ℕ) (cs : List Processor) (p : ℕ) (c d : Processor) → slice_get cs p ≡ Some c → HasGone locals shape c d → HaveGone locals shape cs (slice_set cs p d)
gone_set locals shape [] p c d there gone = tt
gone_set locals shape (x ∷ cs) zero c d there gone = let same : c ≡ x = cc in (subst (λ (y : Processor). HasGone locals shape y d) same gone, gone_none locals shape cs)
gone_set locals shape (x ∷ cs) (suc p) c d there gone = ((zero, refl), gone_set locals shape cs p c d there gone)

leads_on : (sets locals : Bool) (s t : State) (p : ℕ) (c d : Processor) → slice_get s.processors p ≡ Some c → t.shape ≡ s.shape → t.processors ≡ slice_set s.processors p d → t.memory ≡ s.memory → Advance locals s.shape c d → LeadsAhead sets locals s t
leads_on sets locals s t p c d there shape processors memory advance = record {
  covers = record {
    shape = sym shape;
    processors = subst (λ (lines : List ℕ). HaveGone locals lines s.processors t.processors) (sym shape)
        (subst (λ (cpus : List Processor). HaveGone locals s.shape s.processors cpus) (sym processors) (gone_set locals s.shape s.processors p c d there (suc zero, (d, advance, refl))));
    memory = speaks_for_same sets t.memory s.memory (sym memory);
  };
  fewer = subst (λ (cpus : List Processor). all_own cpus < all_own s.processors) (sym processors) (all_fewer s.processors p c d there (one_fewer locals s.shape c d advance));
}

pub only_fence : (locals : Bool) (t : State) (p i : ℕ) (entry : Entry) → is_private locals t (Left p i entry) ≡ true → entry ≡ entries.Sfence
only_fence locals t p i entries.Sfence own = refl
only_fence locals t p i (entries.Write word value) own = absurd (true≢false (sym own))
only_fence locals t p i (entries.Flush line) own = absurd (true≢false (sym own))
only_fence locals t p i (entries.FlushOpt line) own = absurd (true≢false (sym own))

pub own_step_leads : (sets locals : Bool) (s t : State) (step : Step) (seen : Seen) → is_move step ≡ true → step_of s step ≡ Ok (seen, t) → is_private locals t seen ≡ true → LeadsAhead sets locals s t
own_step_leads sets locals s t (Exec p) seen move e own =
    let x = exec_only s t p seen e in
    let now : place_at t.processors p ≡ x.after.place = ap (λ (cpus : List Processor). place_at cpus p) x.alone.processors ∙ place_is s.processors p x.before x.after x.there in
    let mine = and_parts (is_own locals x.act) (is_before x.before.place (place_at t.processors p)) (ap (is_private locals t) (sym x.shown) ∙ own) in
    let before : is_before x.before.place x.after.place ≡ true = ap (is_before x.before.place) (sym now) ∙ mine.1 in
    let rises : x.before.place < x.after.place = grind (arith, nat_tests, before) in
    let still = (own_run locals s.shape x.before x.after s.memory t.memory s.memory x.act x.before.buffer mine.0 (omega arith) x.ran).memory in
    leads_on sets locals s t p x.before x.after x.there x.alone.shape x.alone.processors still (runs x.act mine.0 rises (own_runs locals s.shape x.before x.after s.memory t.memory x.act mine.0 x.ran))
own_step_leads sets locals s t (Drain p i) seen move e own =
    let x = drain_only s t p i seen e in
    let fence = only_fence locals t p i x.entry (ap (is_private locals t) (sym x.shown) ∙ own) in
    let none : x.earlier ≡ [] = fence_is_oldest x.earlier (ap (λ (y : Entry). list_any (is_held_by y) x.earlier) (sym fence) ∙ x.split.free) in
    let whole : x.before.buffer ≡ entries.Sfence ∷ x.later = x.split.whole ∙ (λ k. none k ++ fence k ∷ x.later) in
    let after : x.after ≡ record x.before { buffer = x.later } = x.split.rest ∙ ap (λ (b : List Entry). record x.before { buffer = b ++ x.later }) none in
    let still : t.memory ≡ s.memory = fence_disappears s.memory t.memory (ap (receive_of s.memory) (sym fence) ∙ x.arrived) in
    leads_on sets locals s t p x.before x.after x.there x.alone.shape x.alone.processors still (leaves x.later whole after)
own_step_leads sets locals s t (Persist line) seen move e own = absurd (true≢false (sym move))
own_step_leads sets locals s t Settle seen move e own = absurd (true≢false (sym move))
own_step_leads sets locals s t Crash seen move e own = absurd (true≢false (sym move))
