-- A run has one answer.
use Rattle.std.proofs.Common.{◌≡◌, ℕ, ◌≤◌, Option, Some, None, List, refl, sym, ◌∙◌, ap, subst, arith}
use Rattle.std.specs.Prelude.{slice_get}
use Rattle.std.proofs.lemmas.Option.{same_Some}
use Rattle.processor.specs.declared.act.Act.{Act}
use Rattle.machine.specs.declared.step.Seen.{Seen}
use Rattle.machine.specs.declared.step.Seen.TheVariants.{Ran}
use Rattle.machine.specs.declared.trace_law.Pair.{Pair}
use Rattle.machine.specs.Effects.{IsBroken, IsFirstBroken, IsAnswer}

same_number : (a b : ℕ) → a ≤ b → b ≤ a → a ≡ b
same_number a b most least = omega (arith, most, least)

same_cpu : (p q at place : ℕ) (act other : Act) → ◌≡◌ {A = Option Seen} (Some (Ran p at act)) (Some (Ran q place other)) → p ≡ q
same_cpu p q at place act other e = cc

same_pair : (run : List Seen) (x y : Pair) → IsFirstBroken run x → IsFirstBroken run y → x ≡ y
same_pair run x y one two =
    let at : x.at ≡ y.at = same_number x.at y.at (one.soonest y.cpu y.first y.second y.at two.broken) (two.soonest x.cpu x.first x.second x.at one.broken) in
    let there : IsBroken run y.cpu y.first y.second x.at = subst (λ (n : ℕ). IsBroken run y.cpu y.first y.second n) (sym at) two.broken in
    let here : IsBroken run x.cpu x.first x.second y.at = subst (λ (n : ℕ). IsBroken run x.cpu x.first x.second n) at one.broken in
    let first : x.first ≡ y.first = same_number x.first y.first (one.oldest y.cpu y.first y.second there) (two.oldest x.cpu x.first x.second here) in
    let second : x.second ≡ y.second = same_Some x.second y.second (sym one.broken.effect ∙ there.effect) in
    let mine = one.broken.executed in
    let other = two.broken.executed in
    let read : slice_get run x.first ≡ Some (Ran y.cpu other.0 other.1) = ap (λ (n : ℕ). slice_get run n) first ∙ other.2 in
    let cpu : x.cpu ≡ y.cpu = same_cpu x.cpu y.cpu mine.0 other.0 mine.1 other.1 (sym mine.2 ∙ read) in
    λ i. record { cpu = cpu i; first = first i; second = second i; at = at i }

pub one_answer : (run : List Seen) (x y : Option Pair) → IsAnswer run x → IsAnswer run y → x ≡ y
one_answer run None None one two = refl
one_answer run None (Some y) one two = absurd (one y.cpu y.first y.second y.at two.broken)
one_answer run (Some x) None one two = absurd (two x.cpu x.first x.second x.at one.broken)
one_answer run (Some x) (Some y) one two = ap (λ (p : Pair). Some p) (same_pair run x y one two)
