use Rattle.std.proofs.Common.{◌<◌, arith}
use Rattle.order_table.specs.declared.masks.TheConstants.{PLACES}
use Rattle.order_table.proofs.DecodedOperations.{counted}
use Rattle.order_table.proofs.MasksPushAndTake.{push_none, push_none_stands, push_some, push_some_stands}
use Rattle.order_table.proofs.LinesInUse.{line_used}
use Rattle.order_table.proofs.masks.Masks.push.Goals as goal
use Rattle.order_table.proofs.masks.Masks.push.Goals.{in-Some, in_default}

pub invariant_of-self : goal.invariant_of-self
invariant_of-self c =
    let stands = c.self.invariant.0 in
    let count = counted c.self.inside.kinds c.self.inside.lines c.self.inside.len c.args.self.now c.self.view_is in
    let room : c.self.inside.len < PLACES = omega arith in
    elim c.match-line.branch [
      | in-Some w ↦ rw (w.self-inside-is, c.number.ensures.value) (push_some_stands PLACES c.self.inside.kinds c.self.inside.lines c.self.inside.len stands c.self.told.0 c.self.told.1 room c.args.kind w.in-Some.line (rw w.in-Some.is at c.requires.line), omega arith, line_used c.self.inside.in_use w.in-Some.line _ c.self.inside.lines (rw w.in-Some.is at c.requires.line) c.self.invariant.2)
      | in_default w ↦ rw (w.self-inside-is, c.number.ensures.value) (push_none_stands PLACES c.self.inside.kinds c.self.inside.lines c.self.inside.len stands c.self.told.0 c.self.told.1 room c.args.kind, omega arith, c.self.invariant.2)
    ]

pub returns : goal.returns
returns c =
    let stands = c.self.invariant.0 in
    let count = counted c.self.inside.kinds c.self.inside.lines c.self.inside.len c.args.self.now c.self.view_is in
    let room : c.self.inside.len < PLACES = omega arith in
    elim c.match-line.branch [
      | in-Some w ↦ rw (w.self-inside-is, c.number.ensures.value, w.in-Some.is, ← c.self.view_is) (push_some PLACES c.self.inside.kinds c.self.inside.lines c.self.inside.len stands c.self.told.0 c.self.told.1 room c.args.kind w.in-Some.line (rw w.in-Some.is at c.requires.line))
      | in_default w ↦ rw (w.self-inside-is, c.number.ensures.value, w.in_default.is, ← c.self.view_is) (push_none PLACES c.self.inside.kinds c.self.inside.lines c.self.inside.len stands c.self.told.0 c.self.told.1 room c.args.kind)
    ]
