-- One more image of which it is told whether a condition holds for it.
use Rattle.std.proofs.Common.{◌≡◌, ℕ, ◌+◌, ◌<◌, List, ◌++◌, length, get_or, drop, sym, ap, ◌∙◌, append_assoc}
use Rattle.std.proofs.lemmas.List.{at_drop_more}
use Rattle.conditions.specs.Formulas.{Formula}
use Rattle.machine.specs.State.{State}
use Rattle.jobs.specs.ImageReports.{failing_at, failing_from}

-- the places up to one more, and those of the images behind it
pub failing_more : (s : State) (f : Formula) (images : List (List ℕ)) (place : ℕ) (image d places new total : List ℕ)
    → place < length images → image ≡ get_or images place d → new ≡ places ++ failing_at s f place image
    → places ++ failing_from s f place (drop place images) ≡ total
    → new ++ failing_from s f (place + 1) (drop (place + 1) images) ≡ total
failing_more s f images place image d places new total inside item one so_far =
    let others = failing_from s f (place + 1) (drop (place + 1) images) in
    let rest : failing_from s f place (drop place images) ≡ failing_at s f place (get_or images place d) ++ others = at_drop_more (failing_from s f place) images place d inside in
    ap (λ (t : List ℕ). t ++ others) one ∙ append_assoc places (failing_at s f place image) others
    ∙ ap (λ (x : List ℕ). places ++ (failing_at s f place x ++ others)) item ∙ ap (λ (t : List ℕ). places ++ t) (sym rest) ∙ so_far
