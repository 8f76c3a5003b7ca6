use Rattle.std.proofs.Common.{◌≡◌, ℕ, List, ap, sym, ◌∙◌}
use Rattle.std.specs.Prelude.{nat_eq}
use Rattle.std.specs.List.{list_any}
use Rattle.std.specs.Cmp.Lexicographic.{pointwise}
use Rattle.explore.specs.Findings.{Findings}
use Rattle.explore.specs.Ran.{site}
use Rattle.explore.proofs.SetsHold.{any_has, any_is, has_any}
use Rattle.explore.proofs.verdict.Findings.has_run.Goals as goal

pub returns : goal.returns
returns c =
    let x = site c.args.p c.args.recovery c.args.place in
    let ran : c.self.inside.ran.items ≡ c.args.self.now.ran = ap (λ (f : Findings). f.ran) c.self.view_is in
    let told : c.contains.result ≡ list_any (pointwise nat_eq x) c.args.self.now.ran =
    c.contains.ensures.value
    ∙ ap (λ (xs : List (List ℕ)). list_any (λ z. pointwise nat_eq z c.in_ok-site.site) xs) c.deref.ensures.value
    ∙ ap (λ (y : List ℕ). list_any (λ z. pointwise nat_eq z y) c.self.inside.ran.items) c.in_ok-site.ensures
    ∙ ap (λ (xs : List (List ℕ)). list_any (λ z. pointwise nat_eq z x) xs) ran
    ∙ any_is x c.args.self.now.ran in (
      λ yes. any_has x c.args.self.now.ran (sym told ∙ yes),
      λ there. told ∙ has_any x c.args.self.now.ran there,
    )
