-- Links, kept as the numbers of states and the steps of each.
use Rattle.std.proofs.Common.{◌≡◌, ℕ, zero, suc, ◌+◌, ◌<◌, Some, List, [], ◌∷◌, ◌++◌, length, refl, sym, ap, ◌∙◌, arith, length-append}
use Rattle.std.specs.Prelude.{slice_get}
use Rattle.machine.specs.declared.step.Step.{Step}
use Rattle.explore.specs.Found.{Link, links_of}
use Rattle.explore.specs.KeyTables.{AreEnds, parts}
use Rattle.explore.proofs.KeyChains.{ends_more, parts_long, parts_more}

pub links_long : (ps : List ℕ) (xs : List (List Step)) → length ps ≡ length xs → length (links_of ps xs) ≡ length xs
links_long [] [] same = refl
links_long [] (x ∷ xs) same = absurd (omega (arith, same))
links_long (p ∷ ps) [] same = absurd (omega (arith, same))
links_long (p ∷ ps) (x ∷ xs) same = let rest = links_long ps xs (omega (arith, same)) in omega (arith, rest)

pub link_parent : (ps : List ℕ) (xs : List (List Step)) (i : ℕ) (link : Link) → slice_get (links_of ps xs) i ≡ Some link → slice_get ps i ≡ Some link.parent
link_parent [] xs i link is = absurd (cc)
link_parent (p ∷ ps) [] i link is = absurd (cc)
link_parent (p ∷ ps) (x ∷ xs) zero link is = let same : ◌≡◌ {A = Link} (record { parent = p; steps = x }) link = cc in ap (λ (l : Link). Some l.parent) same
link_parent (p ∷ ps) (x ∷ xs) (suc i) link is = link_parent ps xs i link is

pub link_steps : (ps : List ℕ) (xs : List (List Step)) (i : ℕ) (link : Link) → slice_get (links_of ps xs) i ≡ Some link → slice_get xs i ≡ Some link.steps
link_steps [] xs i link is = absurd (cc)
link_steps (p ∷ ps) [] i link is = absurd (cc)
link_steps (p ∷ ps) (x ∷ xs) zero link is = let same : ◌≡◌ {A = Link} (record { parent = p; steps = x }) link = cc in ap (λ (l : Link). Some l.steps) same
link_steps (p ∷ ps) (x ∷ xs) (suc i) link is = link_steps ps xs i link is

pub links_more : (ps : List ℕ) (xs : List (List Step)) (p : ℕ) (x : List Step) → length ps ≡ length xs → links_of (ps ++ p ∷ []) (xs ++ x ∷ []) ≡ links_of ps xs ++ record { parent = p; steps = x } ∷ []
links_more [] [] p x same = refl
links_more [] (y ∷ xs) p x same = absurd (omega (arith, same))
links_more (q ∷ ps) [] p x same = absurd (omega (arith, same))
links_more (q ∷ ps) (y ∷ xs) p x same = ap (λ (links : List Link). record { parent = q; steps = y } ∷ links) (links_more ps xs p x (omega (arith, same)))

-- one more is kept
pub kept_more : (parents ends now places : List ℕ) (steps more all : List Step) (parent : ℕ) → AreEnds 0 ends (length steps) → length parents ≡ length ends
    → now ≡ parents ++ parent ∷ [] → all ≡ steps ++ more → places ≡ ends ++ length all ∷ []
    → (AreEnds 0 places (length all) × (length now ≡ length places)) × (links_of now (parts 0 places all) ≡ links_of parents (parts 0 ends steps) ++ record { parent = parent; steps = more } ∷ [])
kept_more parents ends now places steps more all parent up same is longer ended =
    let size : length all ≡ length steps + length more = ap length longer ∙ length-append steps more in
    let keeps : AreEnds 0 (ends ++ length all ∷ []) (length all) = ends_more 0 ends (length steps) (length all) up (omega (arith, size)) in
    let a : length now ≡ length parents + 1 = ap length is ∙ length-append parents (parent ∷ []) in
    let b : length places ≡ length ends + 1 = ap length ended ∙ length-append ends (length all ∷ []) in
    let long = parts_long 0 ends steps in (
      (rw ended keeps, omega (arith, a, b, same)),
      (λ k. links_of (is k) (parts 0 (ended k) (longer k))) ∙ ap (links_of (parents ++ parent ∷ [])) (parts_more 0 ends steps more (length all) up size)
          ∙ links_more parents (parts 0 ends steps) parent more (omega (arith, long, same)),
    )
