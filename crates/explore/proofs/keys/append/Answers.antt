use Rattle.std.proofs.Common.{ℕ, ◌≡◌, ◌+◌, ◌<◌, ◌++◌, ◌∷◌, [], ap, arith, length, subst, ◌∙◌}
use Rattle.std.specs.Prelude.{slice_index, slice_set}
use Rattle.explore.specs.KeyTables.{chain_of}
use Rattle.explore.proofs.KeyChains.{table_more}
use Rattle.explore.proofs.keys.append.Goals as goal

pub returns-clause-table : goal.returns-clause-table
returns-clause-table c =
    let bytes = c.args.bytes.now.items in
    let ends = c.args.ends.now.items in
    let last = c.args.chains.now.last.items in
    let before = c.args.chains.now.before.items in
    let key = c.args.key.now in
    let whole = c.extend_from_slice.new.self.items in
    let count : c.len.result ≡ length last = omega arith in
    let chain : c.chain_of-chain.result ≡ chain_of (length last) key = c.chain_of-chain.ensures.value ∙ ap (λ (m : ℕ). chain_of m key) count in
    let inside : chain_of (length last) key < length last = subst (λ (b : ℕ). b < length last) chain (omega (arith, c.chain_of-chain.ensures.within, count)) in
    let same = c.in_ok-reserve-2.ensures.items in
    let is : c.link.new.last.items ≡ slice_set last (chain_of (length last) key) (length before + 1) = c.link.ensures.last ∙ (λ k. slice_set last (chain k) (length (same k) + 1)) in
    let grown : c.link.new.before.items ≡ before ++ slice_index last (chain_of (length last) key) ∷ [] = c.link.ensures.before ∙ (λ k. same k ++ slice_index last (chain k) ∷ []) in
    let long : c.len-2.result ≡ length whole = omega arith in
    let ended : c.push_reserved.new.self.items ≡ ends ++ length whole ∷ [] = c.push_reserved.ensures.items ∙ (λ k. c.in_ok-reserve.ensures.items k ++ long k ∷ []) in
    (table_more bytes ends last before key whole c.push_reserved.new.self.items c.link.new.last.items c.link.new.before.items c.requires.table c.requires.room is grown inside c.in_ok-extend_from_slice.ensures.items ended).0

pub returns-clause-keys : goal.returns-clause-keys
returns-clause-keys c =
    let bytes = c.args.bytes.now.items in
    let ends = c.args.ends.now.items in
    let last = c.args.chains.now.last.items in
    let before = c.args.chains.now.before.items in
    let key = c.args.key.now in
    let whole = c.extend_from_slice.new.self.items in
    let count : c.len.result ≡ length last = omega arith in
    let chain : c.chain_of-chain.result ≡ chain_of (length last) key = c.chain_of-chain.ensures.value ∙ ap (λ (m : ℕ). chain_of m key) count in
    let inside : chain_of (length last) key < length last = subst (λ (b : ℕ). b < length last) chain (omega (arith, c.chain_of-chain.ensures.within, count)) in
    let same = c.in_ok-reserve-2.ensures.items in
    let is : c.link.new.last.items ≡ slice_set last (chain_of (length last) key) (length before + 1) = c.link.ensures.last ∙ (λ k. slice_set last (chain k) (length (same k) + 1)) in
    let grown : c.link.new.before.items ≡ before ++ slice_index last (chain_of (length last) key) ∷ [] = c.link.ensures.before ∙ (λ k. same k ++ slice_index last (chain k) ∷ []) in
    let long : c.len-2.result ≡ length whole = omega arith in
    let ended : c.push_reserved.new.self.items ≡ ends ++ length whole ∷ [] = c.push_reserved.ensures.items ∙ (λ k. c.in_ok-reserve.ensures.items k ++ long k ∷ []) in
    (table_more bytes ends last before key whole c.push_reserved.new.self.items c.link.new.last.items c.link.new.before.items c.requires.table c.requires.room is grown inside c.in_ok-extend_from_slice.ensures.items ended).1
