-- What a verdict tells breaks a question, and what is kept is not broken.
use Rattle.std.proofs.Common.{◌≡◌, ◌∙◌, ℕ, Bool, true, false, true≢false, List, refl, sym}
use Rattle.std.specs.Prelude.{not}
use Rattle.isa.specs.Objects.{Object}
use Rattle.machine.specs.declared.step.Step.{Step}
use Rattle.machine.specs.Objects.{opening}
use Rattle.explore.specs.declared.question.Question.{Question}
use Rattle.explore.specs.declared.verdict.Asked.{Asked}
use Rattle.explore.specs.declared.verdict.Asked.TheVariants.{All, Ends, Recovered}
use Rattle.explore.specs.Questions.{FailsBy}
use Rattle.verdicts.specs.Verdicts.{IsBrokenBy, IsKeptBy, MakesFalse}

not_true : (b : Bool) → not b ≡ true → b ≡ false
not_true true e = absurd (true≢false (sym e))
not_true false e = refl

pub failure_breaks : (asked : Asked) (question : Question) (object : Object) (run : List Step) (values : List ℕ)
    → FailsBy asked question (opening object) run values → MakesFalse asked question object run values
failure_breaks All question object run values fails =
    let broken = fails.2 in
    (fails.0, fails.1, record { is_run = broken.is_run; image_there = broken.least.0; false_there = not_true _ broken.least.1 })
failure_breaks Ends question object run values fails = fails
failure_breaks Recovered question object run values fails = fails

kept_by : (asked : Asked) (question : Question) (object : Object) (run : List Step) (values : List ℕ)
    → IsKeptBy question object → MakesFalse asked question object run values → ⊥
kept_by All question object run values kept made =
    let one = made.2 in
    true≢false (sym (kept.all made.0 made.1 _ (run, one.is_run) values one.image_there) ∙ one.false_there)
kept_by Ends question object run values kept made = true≢false (sym (kept.ends made.0 made.1 _ made.2.end) ∙ made.2.false_there)
kept_by Recovered question object run values kept made = true≢false (sym (kept.recovered made.0 made.1 _ made.2.end) ∙ made.2.false_there)

pub kept_is_not_broken : (question : Question) (object : Object) → IsKeptBy question object → IsBrokenBy question object → ⊥
kept_is_not_broken question object kept broken = kept_by broken.0 question object broken.1 broken.2 kept broken.3
