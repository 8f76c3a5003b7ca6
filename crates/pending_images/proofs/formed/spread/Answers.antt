use Rattle.std.proofs.Common.{◌≡◌, ◌-◌, ◌<◌, ◌≤◌, ◌∙◌, ◌++◌, List, ℕ, ap, arith, drop, length, length-append, take}
use Rattle.std.proofs.lemmas.List.{length-drop, length-take-le}
use Rattle.pending_images.specs.Candidates.{before, low}
use Rattle.pending_images.specs.Products.{blocks, open_at}
use Rattle.pending_images.proofs.FormingImages.{all_spread, fewer_before, one_spread}
use Rattle.pending_images.proofs.formed.spread.Goals as goal

pub placed_write-place-requires : goal.placed_write-place-requires
placed_write-place-requires c =
    omega (arith, c.before-i-end.ensures, c.loop-i-test.true)

pub overflow_sub-from : goal.overflow_sub-from
overflow_sub-from c =
    let old = c.args.images.now.items in
    let base = drop c.args.start old in
    let writes = open_at c.args.gone.now.pending.shape c.args.line c.args.gone.now.markers c.args.gone.now.pending.memory.pending in
    let n = c.loop-i.i - low c.args.line c.args.gone.now.markers c.args.gone.now.pending.memory.pending in
    let now = ap length c.loop-i.invariant.images in
    let both = length-append (take c.args.start old) (blocks writes n base) in
    let few = fewer_before writes n base in
    let first = length-take-le c.args.start old c.requires in
    let rest = length-drop c.args.start old in
    omega (arith, now, both, few, first, rest, c.len.ensures, c.len-in-loop-i.ensures)

pub loop-i-preserved : goal.loop-i-preserved
loop-i-preserved c =
    let old = c.args.images.now.items in
    let inside : c.loop-i.i < before c.args.line c.args.gone.now.markers c.args.gone.now.pending.memory.pending = omega (arith, c.before-i-end.ensures, c.loop-i-test.true) in
    let rest = length-drop c.args.start old in
    let count : c.len.result - c.args.start ≡ length (drop c.args.start old) = omega (arith, rest, c.len.ensures) in
    let from : c.len-in-loop-i.result - (c.len.result - c.args.start) ≡ length c.loop-i.images.items - (c.len.result - c.args.start) = omega (arith, c.len-in-loop-i.ensures) in record {
      images = one_spread c.args.gone.now.pending.shape c.args.line c.args.gone.now.markers c.loop-i.i _ _ c.args.gone.now.pending.memory.pending c.placed_write-place.result (take c.args.start old) (drop c.args.start old) c.loop-i.images.items _
          c.loop-i.invariant.from inside c.placed_write-place.ensures c.loop-i.invariant.images count from c.in_ok-push_block.ensures;
      from = omega (arith, c.loop-i.invariant.from);
    }

pub returns : goal.returns
returns c =
    let old = c.args.images.now.items in
    let from : c.low-i.result ≤ c.before-i-end.result = omega (arith, c.low-i.ensures.within, c.before-i-end.ensures) in
    let to = c.loop-i.auto.i-end from in
    let at : c.loop-i.i ≡ before c.args.line c.args.gone.now.markers c.args.gone.now.pending.memory.pending = omega (arith, to, c.loop-i-test.false, c.before-i-end.ensures) in
    c.loop-i.invariant.images
    ∙ ap (λ (i : ℕ). take c.args.start old ++ blocks (open_at c.args.gone.now.pending.shape c.args.line c.args.gone.now.markers c.args.gone.now.pending.memory.pending) (i - low c.args.line c.args.gone.now.markers c.args.gone.now.pending.memory.pending) (drop c.args.start old)) at
    ∙ ap (λ (ys : List (List ℕ)). take c.args.start old ++ ys) (all_spread c.args.gone.now.pending.shape c.args.line c.args.gone.now.markers c.args.gone.now.pending.memory.pending (drop c.args.start old))
