use Rattle.std.proofs.Common.{◌≡◌, ◌+◌, ◌-◌, ℕ, [], sym, ap, ap₂, ◌∙◌, subst, arith, All}
use Rattle.std.proofs.lemmas.List.Elements.{All-push}
use Rattle.hunt.specs.declared.seats.Seat.{Seat}
use Rattle.hunt.specs.Rule.{seat_view}
use Rattle.hunt.specs.Plays.{fresh, Place}
use Rattle.hunt.specs.Seats.{view_of, IsSeatOf}
use Rattle.hunt.proofs.seats.Board.new.Goals as goal

-- a place that has so many parts of a board, and made no call
abbrev unused : ℕ → ℕ → Place
unused limit parts = (seat_view limit parts [] [] [], [])

pub loop-k-preserved : goal.loop-k-preserved
loop-k-preserved c =
    let i = c.loop-k.invariant in
    let limit = c.in_ok-board.ensures.board.0 in
    let P = λ (s : Seat). IsSeatOf c.in_ok-board.board s × (view_of s ≡ fresh c.args.limit) in
    let had : c.loop-k.first.me.0.parts ≡ (c.args.seats + 1) - c.loop-k.k = ap (λ (m : Place). m.0.parts) i.rest in
    let parts : c.loop-k.first.me.0.parts - 1 ≡ (c.args.seats + 1) - (c.loop-k.k + 1) = omega (arith, had) in
    record {
      length = let a = c.push_reserved.ensures.len in let b = i.length in omega (arith, a, b);
      room = let a = c.push_reserved.ensures.capacity in let b = i.room in omega (arith, a, b);
      place = c.cut.ensures.first.0;
      rest = c.cut.ensures.first.1 ∙ ap₂ unused limit parts;
      given = subst (All P) (sym c.push_reserved.ensures.items)
          (All-push P c.loop-k.all.items c.cut.result i.given (c.cut.ensures.seat.0, c.cut.ensures.seat.1 ∙ ap fresh limit));
    }

pub returns : goal.returns
returns c =
    let i = c.loop-k.invariant in
    let P = λ (s : Seat). IsSeatOf c.in_ok-board.board s × (view_of s ≡ fresh c.args.limit) in
    let one : (c.args.seats + 1) - c.loop-k.k ≡ 1 = omega arith in
    let me : c.loop-k.first.me ≡ unused c.args.limit 1 = i.rest ∙ ap (unused c.args.limit) one in
    record {
      board = c.in_ok-board.ensures.board;
      seats = (
        let a = c.push_reserved-2.ensures.len in let b = i.length in omega (arith, a, b),
        subst (All P) (sym c.push_reserved-2.ensures.items)
            (All-push P c.loop-k.all.items _ i.given
            ((i.place, ap (λ (m : Place). m.0.limit) me ∙ sym c.in_ok-board.ensures.board.0), ap (λ (m : Place). m.0) me)),
      );
    }
