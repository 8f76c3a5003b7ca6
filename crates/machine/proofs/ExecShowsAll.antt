-- What a processor's instruction shows is what it did to store buffer and memory.
use Rattle.std.proofs.Common.{List, ℕ, ◌∙◌, ◌≡◌, Result, Ok, Err, refl, sym, ap, subst}
use Rattle.outcomes.specs.Outcomes.{◌>>=◌, refused_as}
use Rattle.outcomes.proofs.PartsOfOutcomes.{answer_of}
use Rattle.persist_buffer.specs.State.{Memory}
use Rattle.processor.specs.declared.act.Act.{Act}
use Rattle.processor.specs.declared.refusal.Refusal as exec
use Rattle.processor.specs.Contents.{Contents}
use Rattle.processor.specs.Cpus.{Cpu}
use Rattle.processor.specs.Executions.{exec_of}
use Rattle.processor.specs.Acts.{IsShown}
use Rattle.processor.proofs.ActsShowAll.{acts_show_all, shown_shape}
use Rattle.machine.specs.declared.refusal.Refusal.{Refusal}
use Rattle.machine.specs.State.{Processor}
use Rattle.machine.specs.Refusals.{of_exec}
use Rattle.machine.specs.Processors.{program_of, cpu_of, contents_of, with_cpu, run_by}

-- what running comes to, where what the core does is known
abbrev ran : Processor → Result (Act × (Cpu × Contents)) exec.Refusal → Result (Act × (Processor × Memory)) Refusal
ran c did = refused_as of_exec did >>= λ done. Ok (done.0, (with_cpu c done.1.0 done.1.1, done.1.1.memory))

shown_from : (shape : List ℕ) (c d : Processor) (m n : Memory) (act : Act) (did : Result (Act × (Cpu × Contents)) exec.Refusal) → exec_of (program_of c) (cpu_of c) (contents_of shape c.buffer m) ≡ did
    → ran c did ≡ Ok (act, (d, n)) → IsShown act (contents_of shape c.buffer m) (contents_of shape d.buffer n)
shown_from shape c d m n act (Ok done) is e =
    let parts = answer_of done.0 act (with_cpu c done.1.0 done.1.1, done.1.1.memory) (d, n) e in
    let shown : IsShown done.0 (contents_of shape c.buffer m) done.1.1 = acts_show_all (program_of c) (cpu_of c) done.1.0 (contents_of shape c.buffer m) done.1.1 done.0 is in
    let kept : done.1.1.shape ≡ shape = shown_shape done.0 (contents_of shape c.buffer m) done.1.1 shown in
    let contents : contents_of shape d.buffer n ≡ done.1.1 = ap (λ (p : Processor × Memory). contents_of shape p.0.buffer p.1) parts.1 ∙ ap (λ (lines : List ℕ). contents_of lines done.1.1.buffer done.1.1.memory) (sym kept) in
    subst (λ (a : Act). IsShown a (contents_of shape c.buffer m) (contents_of shape d.buffer n)) (sym parts.0)
    (subst (λ (x : Contents). IsShown done.0 (contents_of shape c.buffer m) x) (sym contents) shown)
shown_from shape c d m n act (Err refusal) is e = absurd (cc)

pub exec_shown : (shape : List ℕ) (c d : Processor) (m n : Memory) (act : Act) → run_by shape c m ≡ Ok (act, (d, n)) → IsShown act (contents_of shape c.buffer m) (contents_of shape d.buffer n)
exec_shown shape c d m n act e = shown_from shape c d m n act (exec_of (program_of c) (cpu_of c) (contents_of shape c.buffer m)) refl e
