use Rattle.std.proofs.Common.{◌≡◌, ◌++◌, ◌∷◌, [], false, List, ℕ, ap, sym, ◌∙◌}
use Rattle.std.specs.Prelude.{nat_eq}
use Rattle.std.specs.List.{list_any}
use Rattle.std.specs.Cmp.Lexicographic.{pointwise}
use Rattle.explore.specs.Found.{Link, added, linked, path_at}
use Rattle.explore.proofs.LinksGoOn.{found_more}
use Rattle.explore.proofs.found.Found.add.Goals as goal

pub returns : goal.returns
returns c =
    let links = c.self.inside.links in
    let keys = c.self.inside.keys in
    let key = c.args.key in
    let link : Link = record { parent = c.args.parent; steps = c.args.steps.now } in
    let none : list_any (pointwise nat_eq key) keys ≡ false = ap (λ (k : List ℕ). list_any (pointwise nat_eq k) keys) (sym c.bytes.ensures) ∙ sym c.has.ensures ∙ c.if-has.false in
    let all_keys : c.push.new.self ≡ keys ++ key ∷ [] = c.in_ok-push.ensures ∙ ap (λ (k : List ℕ). keys ++ k ∷ []) c.bytes-2.ensures in
    let all_links : c.push-2.new.self ≡ links ++ link ∷ [] = c.in_ok-push-2.ensures in
    (λ k. record { sets = c.self.inside.sets; paths = linked [] (all_links k); keys = all_keys k })
    ∙ found_more c.self.inside.sets links keys key link none
    ∙ (λ k. added (c.self.view_is k) key (path_at (c.self.view_is k).paths c.args.parent ++ c.args.steps.now))
