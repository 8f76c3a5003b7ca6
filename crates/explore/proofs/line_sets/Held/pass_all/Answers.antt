use Rattle.std.proofs.Common.{ℕ, ◌≡◌, ◌≤◌, ◌%◌, nat_lt, ap, ◌∙◌, sym, arith}
use Rattle.std.proofs.lemmas.Bool.{ltb-false, ltb-true}
use Rattle.persist_buffer.specs.Listings.{writes_on}
use Rattle.persist_buffer.specs.Memories.{write_count}
use Rattle.explore.specs.LineSets.{held_with}
use Rattle.explore.proofs.HeldThrough.{write_comes, writes_end}
use Rattle.explore.proofs.line_sets.Held.pass_all.Goals as goal

pub loop-i-preserved : goal.loop-i-preserved
loop-i-preserved c =
    let ws = writes_on c.args.line c.args.pending.now.memory.pending in
    let i = c.loop-i.i in
    let n = c.args.settled in
    let word = c.write-word.result.0 in
    let value = c.write-word.result.1 in
    let is : c.pass.new.self ≡ held_with (nat_lt i n) (word % 8) value c.loop-i.self = c.in_ok-pass.ensures ∙ ap (λ (w : ℕ). held_with (nat_lt i n) (w % 8) value c.loop-i.self) c.number.ensures.value in
    write_comes ws i n word value c.loop-i.self c.pass.new.self _ (nat_lt i n) c.write-word.ensures (ltb-true i n) (ltb-false i n) is c.loop-i.invariant

pub returns : goal.returns
returns c =
    let count = c.writes-i-end.ensures.value in
    let past : write_count c.args.pending.now.memory c.args.line ≤ c.loop-i.i = omega (arith, count, c.loop-i-test.false) in
    writes_end c.args.line c.args.settled c.loop-i.i c.args.pending.now.memory c.loop-i.self _ past c.loop-i.invariant
