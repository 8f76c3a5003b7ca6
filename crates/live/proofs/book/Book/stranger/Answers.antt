use Rattle.std.proofs.Common.{◌≡◌, get_or, sym, ◌∙◌, subst}
use Rattle.std.specs.Prelude.{All}
use Rattle.std.proofs.lemmas.List.{take_all}
use Rattle.std.proofs.lemmas.List.Elements.{All-more}
use Rattle.std.proofs.lemmas.Bool.{false≢true}
use Rattle.live.specs.Journal.{Stands}
use Rattle.live.specs.Receipts.{IsFirstStranger}
use Rattle.live.proofs.IssuedReceipts.{first_stranger}
use Rattle.live.proofs.book.Book.stranger.Goals as goal

pub returns-then-not-has-clause-some : goal.returns-then-not-has-clause-some
returns-then-not-has-clause-some g c =
    let es = c.args.self.now.journal in let rs = c.args.receipts.now in let r = c.index-receipts-k.result in
    let at : get_or rs c.loop-k.k r ≡ r = cc (c.index-receipts-k.is) in (
      c.shown.ensures,
      subst (IsFirstStranger es rs) at (first_stranger es rs c.loop-k.k r c.loop-k-test.true c.loop-k.invariant
          (λ stands. false≢true (sym c.if-not-has.true ∙ c.has.ensures.1 (subst (Stands es) at stands)))),
    )

pub loop-k-preserved : goal.loop-k-preserved
loop-k-preserved g c =
    let es = c.args.self.now.journal in let rs = c.args.receipts.now in let r = c.index-receipts-k.result in
    let at : get_or rs c.loop-k.k r ≡ r = cc (c.index-receipts-k.is) in
    All-more (Stands es) rs c.loop-k.k r c.loop-k-test.true c.loop-k.invariant (subst (Stands es) (sym at) (c.has.ensures.0 c.if-not-has.false))

pub returns-clause-none : goal.returns-clause-none
returns-clause-none g c = subst (All (Stands c.args.self.now.journal)) (take_all _ _ c.loop-k-test.false) c.loop-k.invariant
