-- One more processor of which it is told what changed.
use Rattle.std.proofs.Common.{◌≡◌, ℕ, ◌+◌, ◌<◌, Option, List, ◌++◌, length, get_or, drop, sym, ap, subst, ◌∙◌, append_assoc, arith, inl, inr}
use Rattle.std.specs.Prelude.{IfSome, slice_get}
use Rattle.std.proofs.lemmas.List.{at_drop_more}
use Rattle.std.proofs.lemmas.Option.{slice_get_cases}
use Rattle.lines_layout.specs.Layouts.{NamedLines}
use Rattle.lines_layout.specs.Names.{Text}
use Rattle.machine.specs.State.{Processor}
use Rattle.conversations.specs.Changed.{changed_cpu, changed_cpus, text_of_cpu}

-- the processors from the next on
pub cpus_more : (names : NamedLines) (olds cs : List Processor) (p : ℕ) (had text new total : Text)
    → p < length cs → had ≡ text_of_cpu names p (slice_get olds p)
    → IfSome (slice_get cs p) (λ c. new ≡ text ++ changed_cpu names had p c)
    → text ++ changed_cpus names olds p (drop p cs) ≡ total
    → new ++ changed_cpus names olds (p + 1) (drop (p + 1) cs) ≡ total
cpus_more names olds cs p had text new total inside is one so_far =
    elim (slice_get_cases cs p).1 [
      | inl found ↦
          let c = found.0 in
          let own = text_of_cpu names p (slice_get olds p) in
          let others = changed_cpus names olds (p + 1) (drop (p + 1) cs) in
          let line : new ≡ text ++ changed_cpu names had p c = subst (λ (o : Option Processor). IfSome o (λ c. new ≡ text ++ changed_cpu names had p c)) found.2 one in
          let rest : changed_cpus names olds p (drop p cs) ≡ changed_cpu names own p (get_or cs p c) ++ others = at_drop_more (changed_cpus names olds p) cs p c inside in
          let same : changed_cpu names own p (get_or cs p c) ≡ changed_cpu names own p c = ap (changed_cpu names own p) found.3 in
          ap (λ (t : Text). t ++ others) line ∙ append_assoc text (changed_cpu names had p c) others
          ∙ ap (λ (t : Text). text ++ (changed_cpu names t p c ++ others)) is
          ∙ ap (λ (t : Text). text ++ (t ++ others)) (sym same) ∙ ap (λ (t : Text). text ++ t) (sym rest) ∙ so_far
      | inr past ↦ absurd (omega arith)
    ]
