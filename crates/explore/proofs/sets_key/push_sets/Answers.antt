use Rattle.std.proofs.Common.{◌≡◌, ◌++◌, List, ℕ, ◌∙◌}
use Rattle.machine.specs.State.{State}
use Rattle.explore.specs.Codes.{coded}
use Rattle.explore.specs.Keys.{lines_key, words_now}
use Rattle.explore.proofs.KeysAreWritten.{coded_then}
use Rattle.explore.proofs.sets_key.push_sets.Goals as goal

pub returns : goal.returns
returns c =
    let s : State = c.args.view.now in
    let was : List ℕ = c.args.bytes.now.items in
    let one : List ℕ = c.push_words_now.new.bytes.items in
    let last : List ℕ = c.push_lines.new.bytes.items in
    let words : one ≡ was ++ coded (words_now s.memory s.shape) = c.in_ok-push_words_now.ensures ∙ (λ k. was ++ coded (words_now (c.pending-pending.ensures k).memory (c.pending-pending.ensures k).shape)) in
    let lines : last ≡ one ++ coded (lines_key s.memory 0 s.shape) = c.in_ok-push_lines.ensures ∙ (λ k. one ++ coded (lines_key (c.pending-pending.ensures k).memory 0 (c.pending-pending.ensures k).shape)) in
    coded_then was one last (words_now s.memory s.shape) (lines_key s.memory 0 s.shape) words lines
