use Rattle.std.proofs.Common.{ℕ, ◌≡◌, ◌+◌, ◌-◌, ◌<◌, ◌≤◌, List, Some, ap, arith, length, subst, suc, sym, ◌∙◌}
use Rattle.std.specs.Prelude.{slice_get, slice_index}
use Rattle.std.proofs.lemmas.Option.{slice_get_within}
use Rattle.explore.specs.KeyTables.{IsOn, chain_of, parts}
use Rattle.explore.proofs.KeyChains.{goes_on, not_here, nowhere, parts_long, somewhere}
use Rattle.explore.proofs.keys.is_there.Goals as goal

pub loop-at-init : goal.loop-at-init
loop-at-init c =
    let last = c.args.last.now in
    let chain = c.chain_of.ensures.value in
    record {
      within = c.requires.linked.lasts c.chain_of.result;
      on = λ i is.
          let long = parts_long 0 c.args.ends.now c.args.bytes.now in
          let less : i < length (parts 0 c.args.ends.now c.args.bytes.now) = slice_get_within (parts 0 c.args.ends.now c.args.bytes.now) i c.args.key.now is in
          subst (λ (n : ℕ). IsOn c.args.before.now i n) (ap (slice_index last) (sym chain)) (c.requires.linked.found i c.args.key.now (omega (arith, long, less)) is);
    }

pub returns-then-eq : goal.returns-then-eq
returns-then-eq c =
    sym (somewhere (parts 0 c.args.ends.now c.args.bytes.now) (c.loop-at.at - 1) c.key_at.result.now c.args.key.now c.key_at.ensures (sym c.eq.ensures ∙ c.if-eq.true))

pub loop-at-preserved : goal.loop-at-preserved
loop-at-preserved c =
    let j = c.loop-at.at - 1 in
    let keys = parts 0 c.args.ends.now c.args.bytes.now in
    let before = c.args.before.now in
    let is : c.loop-at.at ≡ suc j = omega (arith, c.loop-at-test.true) in
    let old = c.requires.linked.olds j in
    record {
      within = omega (arith, old, c.loop-at.invariant.within, is);
      on = λ i got.
          goes_on before i j c.loop-at.at is (not_here keys i j c.key_at.result.now c.args.key.now c.key_at.ensures (sym c.eq.ensures ∙ c.if-eq.false) got) (c.loop-at.invariant.on i got);
    }

pub returns : goal.returns
returns c =
    sym (nowhere (parts 0 c.args.ends.now c.args.bytes.now) c.args.key.now c.args.before.now c.loop-at.at (omega (arith, c.loop-at-test.false)) c.loop-at.invariant.on)
