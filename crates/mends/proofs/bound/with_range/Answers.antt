use Rattle.std.proofs.Common.{rules, ◌≡◌, ◌∙◌, Bool, List, length, ap, subst, sym, true}
use Rattle.std.proofs.lemmas.List.{length-set}
use Rattle.choices.specs.Choices.{is_within}
use Rattle.choices.proofs.Above.{within_itself}
use Rattle.mends.proofs.MoreWithin.{still_within}
use Rattle.mends.proofs.bound.with_range.Goals as goal

pub loop-place-init : goal.loop-place-init
loop-place-init c =
    let choice = c.args.choice.now in
    let same : c.in_ok-more.more.items ≡ choice = search rules in record {
      length = ap (λ (flags : List Bool). length flags) same;
      within = subst (λ (flags : List Bool). is_within choice flags ≡ true) (sym same) (within_itself choice);
    }

pub loop-place-preserved : goal.loop-place-preserved
loop-place-preserved c = record {
  length = length-set c.loop-place.more.items c.loop-place.place true ∙ c.loop-place.invariant.length;
  within = still_within c.args.choice.now c.loop-place.more.items c.loop-place.place c.loop-place.invariant.within;
}
