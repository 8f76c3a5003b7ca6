use Rattle.std.proofs.Common.{◌≡◌, ℕ, Option, ◌++◌, sym, subst, arith, codes, Bor, ◌^◌}
use Rattle.std.specs.Option.{MatchOption}
use Rattle.std.specs.Prelude.{◌≢◌}
use Rattle.std.proofs.lemmas.Str.Pattern.{strip_suffix_char}
use Rattle.clap.specs.Words.{Text}
use Rattle.px86.specs.CommandLines.{Finds, SpellsCount}
use Rattle.px86.proofs.Counts.{with_millions, without_millions}
use Rattle.px86.proofs.options.count.Goals as goal

pub returns-in-Some : goal.returns-in-Some
returns-in-Some c =
    let text = c.args.text.now in
    let front = c.in-Some.digits.now in
    let ends = strip_suffix_char 77 text c.strip_suffix.result c.strip_suffix.ensures.cases (omega arith) in
    let is : text ≡ front ++ codes "M" = subst (λ (r : Option (Bor Text)). MatchOption r ((front : Text) → text ≢ front ++ codes "M") (λ (x : Bor Text). text ≡ x.now ++ codes "M")) c.in-Some.is ends in
    subst (λ (found : Option ℕ). Finds (SpellsCount (2 ^ 64) text) found) (sym c.millions.ensures) (with_millions (2 ^ 64) text front c.number.result is c.number.ensures)

pub returns-in-None : goal.returns-in-None
returns-in-None c =
    let text = c.args.text.now in
    let ends = strip_suffix_char 77 text c.strip_suffix.result c.strip_suffix.ensures.cases (omega arith) in
    let none : (front : Text) → text ≢ front ++ codes "M" = subst (λ (r : Option (Bor Text)). MatchOption r ((front : Text) → text ≢ front ++ codes "M") (λ (x : Bor Text). text ≡ x.now ++ codes "M")) c.in-None.is ends in
    without_millions (2 ^ 64) text c.number-in-None.result none c.number-in-None.ensures
