use Rattle.std.proofs.Common.{rules, sym, ap, ◌∙◌, arith, true≢false}
use Rattle.hunt.specs.Counts.{beyond}
use Rattle.hunt.proofs.StepsKeepTheRule.{claims}
use Rattle.hunt.proofs.SumsOverSeats.{beyond-low, beyond-high}
use Rattle.hunt.proofs.seats.Board.claim.Goals as goal

pub fetch_add-found-requires : goal.fetch_add-found-requires
fetch_add-found-requires c =
    let b = c.args.self.now in let p = c.args.seat.now in
    (search rules, search rules, claims b.table.shared.key.limit b.table.shared.key.seats _ _ _ (omega (arith, b.terms.0, b.bounded.0)) (omega (arith, b.terms.1, b.bounded.1)) p.one_part (p.«open» c.if-seat.false))

pub invariant_of-seat : goal.invariant_of-seat
invariant_of-seat c = let e = c.fetch_add-found.ensures.2.0 in let p = c.args.seat.now in let same = c.requires.1 in record {
  empty_handed = ap (λ m. m.1) e ∙ p.empty_handed;
  one_part = ap (λ m. m.0.parts) e ∙ p.one_part;
  «open» = λ h. ap (λ m. beyond m.0.limit m.0.claimed) e ∙ (beyond-low _ _ _ (omega (arith, same, c.if-found-self.true)) ∙ p.«open» h);
  ended = λ h. absurd (true≢false (sym h ∙ c.if-seat.false));
}

pub invariant_of-seat-else-found-self : goal.invariant_of-seat-else-found-self
invariant_of-seat-else-found-self c = let e = c.fetch_add-found.ensures.2.0 in let p = c.args.seat.now in let same = c.requires.1 in record {
  empty_handed = ap (λ m. m.1) e ∙ p.empty_handed;
  one_part = ap (λ m. m.0.parts) e ∙ p.one_part;
  «open» = λ h. absurd (true≢false h);
  ended = λ h. let a = ap (λ m. beyond m.0.limit m.0.claimed) e in let b = beyond-high p.place.me.0.limit c.fetch_add-found.result p.place.me.0.claimed (omega (arith, same, c.if-found-self.false)) in omega arith;
}
