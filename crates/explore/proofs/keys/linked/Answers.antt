use Rattle.std.proofs.Common.{ℕ, ◌≡◌, ◌+◌, ◌<◌, ◌++◌, ◌∷◌, [], List, ap, arith, length, length-set, sym, ◌∙◌}
use Rattle.std.specs.Prelude.{slice_index, slice_set}
use Rattle.explore.specs.KeyTables.{chain_of, parts}
use Rattle.explore.proofs.KeyChains.{linked_more}
use Rattle.explore.proofs.keys.linked.Goals as goal

pub loop-i-preserved : goal.loop-i-preserved
loop-i-preserved c =
    let n = c.loop-i.i in
    let last = c.loop-i.last.items in
    let before = c.loop-i.before.items in
    let linked = c.loop-i.invariant.linked in
    let count = c.loop-i.invariant.chains in
    let b = c.chain_of.result in
    let chain : b ≡ chain_of (length last) c.key_at.result.now = c.chain_of.ensures.value ∙ ap (λ (m : ℕ). chain_of m c.key_at.result.now) (sym count) in
    let inside : b < length last = omega (arith, c.chain_of.ensures.within, count) in
    let same = c.in_ok-reserve.ensures.items in
    let is : c.link.new.last.items ≡ slice_set last b (n + 1) = c.link.ensures.last ∙ ap (λ (xs : List ℕ). slice_set last b (length xs + 1)) same ∙ ap (λ (m : ℕ). slice_set last b (m + 1)) linked.each in
    let grown : c.link.new.before.items ≡ before ++ slice_index last b ∷ [] = c.link.ensures.before ∙ ap (λ (xs : List ℕ). xs ++ slice_index last b ∷ []) same in
    record {
      chains = ap length is ∙ length-set last b (n + 1) ∙ count;
      linked = linked_more n (parts 0 c.args.ends.now c.args.bytes.now) last before c.link.new.last.items c.link.new.before.items c.key_at.result.now b linked c.key_at.ensures chain inside is grown;
    }
