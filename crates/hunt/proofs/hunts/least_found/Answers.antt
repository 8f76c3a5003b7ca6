use Rattle.std.proofs.Common.{rules, ◌≡◌, ℕ, sym, ap, ◌∙◌, subst, arith, All, Option}
use Rattle.std.specs.Prelude.{option_map, IfOk}
use Rattle.std.specs.Arc.{arc_value}
use Rattle.hunt.specs.declared.seats.Board.{Board}
use Rattle.hunt.specs.declared.search.Asked.{Asked}
use Rattle.hunt.specs.declared.search.Search.{Search}
use Rattle.hunt.specs.declared.found.Found.{Found}
use Rattle.hunt.specs.Plays.{fresh}
use Rattle.hunt.specs.Seats.{limit_of, seats_of}
use Rattle.hunt.specs.Founds.{found_at}
use Rattle.hunt.specs.Known.{breaks_in}
use Rattle.hunt.specs.Least.{least_from}
use Rattle.hunt.specs.Returns.{IsReady}
use Rattle.hunt.proofs.hunts.least_found.Goals as goal

-- what is found of the least of so many numbers
abbrev found_among : Asked → Search → ℕ → Option Found
found_among asked s n = option_map (found_at asked s) (least_from (breaks_in asked s.plan s.cond s.machine) s.range.first n)

same_found : (a b : Asked) (s t : Search) (m n : ℕ) → a ≡ b → s ≡ t → m ≡ n → found_among a s m ≡ found_among b t n
same_found a b s t m n e f g = λ i. found_among (e i) (f i) (g i)

pub found_by-requires : goal.found_by-requires
found_by-requires g c =
    let board = c.in_ok-board.ensures.board in
    let seats = c.in_ok-board.ensures.seats in
    let same = c.in_ok-task.ensures.board in
    let limit = ap (λ (b : Board). limit_of b) same in
    let fits = c.in_ok-board.board.bounded.0 in
    let n = seats.0 in (
      search rules,
      (
        search rules,
        (
          search rules,
          (
            subst (λ (b : Board). All (IsReady b) c.in_ok-board.seats.items) (sym same)
                (λ k d within. let seat = seats.1 k d within in (seat.0, seat.1 ∙ ap fresh (sym board.0))),
            (
              (n ∙ sym (ap (λ (b : Board). seats_of b) same ∙ board.1), omega (arith, n)),
              omega (arith, limit, fits),
            ),
          ),
        ),
      ),
    )

pub returns : goal.returns
returns g c =
    let target = c.in_ok-task.ensures.target in let search = c.args.search.now in
    let limit = ap (λ (b : Board). limit_of b) c.in_ok-task.ensures.board ∙ c.in_ok-board.ensures.board.0 in
    subst (λ (o : Option Found). IfOk c.found_by.result (λ found. found ≡ o))
    (same_found _ _ _ _ _ _ target.1 target.0 limit) c.found_by.ensures
