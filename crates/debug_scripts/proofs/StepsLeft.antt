-- Steps of one list: the rest stands from one place to another, and those behind it are gathered.
use Rattle.std.proofs.Common.{◌≡◌, ℕ, ◌+◌, ◌≤◌, List, [], ◌++◌, length, take, drop, sym, ◌∙◌, ap, arith}
use Rattle.std.proofs.lemmas.List.{length-take-le, take-append-drop, drop-append-le, drop-drop, drop_all, take_all}
use Rattle.machine.specs.declared.step.Step.{Step}
use Rattle.debug_scripts.specs.Ahead.{steps_ahead}

-- both are what stands from the first place on
pub both_from : (xs : List Step) (r g : ℕ) → r ≤ g → g ≤ length xs → drop r (take g xs) ++ drop g xs ≡ drop r xs
both_from xs r g below within =
    let whole = length-take-le g xs within in
    sym (drop-append-le r (take g xs) (drop g xs) (omega arith)) ∙ ap (λ (ys : List Step). drop r ys) (take-append-drop g xs)

-- n more are passed, and all others are the rest
pub passed : (xs : List Step) (r g n : ℕ) → r ≤ g → g ≤ length xs → steps_ahead (drop (r + n) (take (length xs) xs)) (drop (length xs) xs) ≡ steps_ahead (drop n (drop r (take g xs) ++ drop g xs)) []
passed xs r g n below within =
    let left : drop (r + n) (take (length xs) xs) ≡ drop n (drop r (take g xs) ++ drop g xs) =
    ap (λ (ys : List Step). drop (r + n) ys) (take_all (length xs) xs (omega arith)) ∙ sym (drop-drop n r xs) ∙ ap (λ (ys : List Step). drop n ys) (sym (both_from xs r g below within)) in
    ap (λ (ys : List Step). steps_ahead ys (drop (length xs) xs)) left ∙ ap (λ (ys : List Step). steps_ahead (drop n (drop r (take g xs) ++ drop g xs)) ys) (drop_all (length xs) xs (omega arith))
