use Rattle.std.proofs.Common.{◌≡◌, ◌+◌, ℕ, sym, ap, ◌∙◌, subst, ⊎_elim, arith, Option, Some, List}
use Rattle.std.specs.Prelude.{option_map}
use Rattle.std.proofs.lemmas.List.Elements.{All-pop}
use Rattle.hunt.specs.declared.found.Found.{Found}
use Rattle.hunt.specs.declared.search.Target.{Target}
use Rattle.hunt.specs.Plays.{joined}
use Rattle.hunt.specs.Seats.{view_of, whole_of}
use Rattle.hunt.specs.Founds.{found_at, IsOfLeast}
use Rattle.hunt.specs.Known.{breaks}
use Rattle.hunt.specs.Least.{least}
use Rattle.hunt.specs.Done.{Did, IsDone}
use Rattle.hunt.specs.Returns.{Worked}
use Rattle.hunt.proofs.FoundsOfClaims.{of_both, of_least}
use Rattle.hunt.proofs.TriedNumbers.{did_both, done_both, found_none, found_some}
use Rattle.hunt.proofs.hunts.conclusion.Goals as goal

-- what is told of the least claim
abbrev told : Target → Option ℕ → Option Found
told target o = option_map (found_at target.asked target.search) (option_map (λ claim. target.search.range.first + claim) o)

pub loop-returned-preserved : goal.loop-returned-preserved
loop-returned-preserved c =
    let target = c.args.target.now in
    let test = breaks target in
    let v = whole_of c.loop-returned.whole in let returned = c.in-Some-pop.returned in
    let w = view_of returned.seat in
    let e : whole_of c.absorb.new.whole ≡ joined v w = c.absorb.ensures.whole.1 in
    let P = Worked c.args.board.now target in
    let rest = All-pop P c.loop-returned.back.items c.pop-in-loop-returned.new.self.items (Some returned) c.in-Some-pop.ensures.items c.loop-returned.invariant.back in
    let its = rest.1 in
    let i = c.loop-returned.invariant in
    let both = of_both target v.reported w.reported c.loop-returned.found returned.found i.found its.found in
    record {
      back = rest.0;
      whole = c.absorb.ensures.whole.0;
      parts = let a = c.absorb.ensures.parts in let b = i.parts in let d = c.in-Some-pop.ensures.len in omega arith;
      done = subst IsDone (sym e) (done_both v w i.done);
      did = subst (Did test) (sym e) (did_both test v w (i.whole.1 ∙ sym its.seat.1) i.did its.did);
      found = subst (λ (z : List ℕ × Option Found). IsOfLeast target z.0 z.1) (λ i. ((sym e i).reported, sym c.lesser-found.ensures i)) both;
    }

pub returns-then-least : goal.returns-then-least
returns-then-least c =
    let target = c.args.target.now in
    let test = breaks target in let v = whole_of c.loop-returned.whole in let i = c.loop-returned.invariant in
    let s = c.settle-least.ensures.settled in
    sym (ap (λ n. told target (least test n)) (sym i.whole.1)
    ∙ ap (told target) (found_none test v s.0 c.settle-least.result (omega (arith, i.whole.1, c.requires.fits)) s.1 i.did i.done c.if-least.true))

pub returns : goal.returns
returns c =
    let target = c.args.target.now in
    let test = breaks target in let v = whole_of c.loop-returned.whole in let i = c.loop-returned.invariant in
    let s = c.settle-least.ensures.settled in
    let least_is = found_some test v s.0 c.settle-least.result s.1 i.did i.done c.if-least.false in
    let reported = ⊎_elim (λ none. absurd (c.if-least.false none)) (λ has. has) s.1.least_is in
    of_least target v.reported c.settle-least.result c.loop-returned.found i.found reported s.1.low.1
    ∙ sym (ap (λ n. told target (least test n)) (sym i.whole.1) ∙ ap (told target) least_is)
