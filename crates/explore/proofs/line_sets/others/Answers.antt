use Rattle.std.proofs.Common.{ℕ, ◌≡◌, ◌*◌, ◌++◌, List, [], filter, map, nat_eq, not, ap, sym, ◌∙◌}
use Rattle.std.specs.Prelude.{slice_index}
use Rattle.std.specs.List.{range_with_len}
use Rattle.std.specs.Cmp.Lexicographic.{pointwise}
use Rattle.persist_buffer.specs.Listings.{writes_on}
use Rattle.pending_images.specs.Candidates.{low, markers}
use Rattle.pending_images.specs.Listings.{in_order}
use Rattle.explore.specs.LineSets.{Held, held_by, held_through}
use Rattle.explore.proofs.HeldThrough.{first_of, held_open, nothing_open}
use Rattle.explore.proofs.line_sets.others.Goals as goal

pub returns-then-settled-writes : goal.returns-then-settled-writes
returns-then-settled-writes c =
    let m = c.args.pending.now.memory in
    let line = c.args.line in
    let settled : c.low-settled.result ≡ low line (markers m.pending) m.pending = c.low-settled.ensures ∙ ap (λ (k : ℕ). low line k m.pending) c.markers.ensures in
    c.new.ensures.items ∙ sym (nothing_open m line c.args.count c.low-settled.result settled (c.if-settled-writes.true ∙ c.writes.ensures.value))

pub returns : goal.returns
returns c =
    let m = c.args.pending.now.memory in
    let line = c.args.line in
    let count = c.args.count in
    let settled : c.low-settled.result ≡ low line (markers m.pending) m.pending = c.low-settled.ensures ∙ ap (λ (k : ℕ). low line k m.pending) c.markers.ensures in
    let values : c.push_values.new.words.items ≡ map (slice_index m.persisted) (range_with_len (8 * line) count) =
    c.in_ok-push_values.ensures ∙ (λ k. c.in_ok-values.ensures.items k ++ map (slice_index m.persisted) (range_with_len (8 * c.number.ensures.value k) count)) in
    let before : Held = record { values = c.push_values.new.words.items; passed = c.new-2.result.items } in
    let begins : held_through c.low-settled.result before (writes_on line m.pending) ≡ held_through (low line (markers m.pending) m.pending) (first_of m line count) (writes_on line m.pending) =
    λ k. held_through (settled k) (record { values = values k; passed = c.new-2.ensures.items k }) (writes_on line m.pending) in
    let whole : ◌≡◌ {A = Held} (record { values = c.held.inside.values.items; passed = c.held.inside.passed.items }) (held_by m line count) =
    c.held.view_is ∙ c.in_ok-pass_all.ensures ∙ begins ∙ sym (held_open m line count) in
    let now : c.deref.result.now ≡ (held_by m line count).values = c.deref.ensures.value ∙ ap (λ (h : Held). h.values) whole in
    let passed : c.sort.new.lists.items ≡ in_order (held_by m line count).passed = c.sort.ensures ∙ ap (λ (h : Held). in_order h.passed) whole in
    c.drop_like.ensures ∙ (λ k. filter (λ list. not (pointwise nat_eq list (now k))) (passed k))
