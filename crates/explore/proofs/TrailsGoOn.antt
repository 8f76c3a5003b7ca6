-- Machines from along a path, where another path begins as it does, and where the path is run on.
use Rattle.std.proofs.Common.{◌≡◌, ℕ, zero, suc, ◌+◌, ◌-◌, ◌*◌, ◌≤◌, ◌<◌, inl, inr, true, false, Option, Some, None, Result, Ok, Err, List, [], ◌∷◌, ◌++◌, length, take, drop, get_or, set, refl, sym, ap, subst, ◌∙◌, arith, true≢false}
use Rattle.std.specs.Prelude.{is_some}
use Rattle.std.specs.List.{All}
use Rattle.std.proofs.Math.Seq.{get_or-append_seam}
use Rattle.std.proofs.lemmas.Bool.{cases_lt}
use Rattle.std.proofs.lemmas.List.{get_or_append_left, get_or-set_other, get_or-set_same, length-append, length-drop, length-set, take-append-drop, take-take, take_all, drop-take}
use Rattle.machine.specs.declared.refusal.Refusal.{Refusal}
use Rattle.machine.specs.declared.step.Seen.{Seen}
use Rattle.machine.specs.declared.step.Step.{Step}
use Rattle.machine.specs.Programs.{AreSiblings}
use Rattle.machine.specs.State.{State}
use Rattle.machine.specs.Steps.{End, end_after, run_of, step_of}
use Rattle.machine.proofs.ProgramsStay.{run_sibling}
use Rattle.machine.proofs.RunIsAPrefix.{run_parts}
use Rattle.explore.specs.Found.{led_to}
use Rattle.explore.specs.Trails.{AreAlong, IsAlong, IsKeptBehind, distance, nearest}
use Rattle.explore.proofs.OwnStepsNoted.{siblings_on}

-- ---- lists of steps

-- the first steps, and so many behind them
pub parts : (path : List Step) (n more : ℕ) → take n path ++ take more (drop n path) ≡ take (n + more) path
parts path n more =
    let first : take n (take (n + more) path) ≡ take n path = take-take n (n + more) path (omega arith) in
    let rest : drop n (take (n + more) path) ≡ take more (drop n path) = drop-take n more path in
    ap (λ (xs : List Step). xs ++ take more (drop n path)) (sym first) ∙ ap (λ (xs : List Step). take n (take (n + more) path) ++ xs) (sym rest) ∙ take-append-drop n (take (n + more) path)

-- ---- runs

-- a run that is refused does not go on
stopped_on : (s : State) (r : Result (Seen × State) Refusal) (front both : State → End) → ((t : State) → is_some (front t).refusal ≡ true → (both t).state ≡ (front t).state)
    → is_some (end_after s r front).refusal ≡ true → (end_after s r both).state ≡ (end_after s r front).state
stopped_on s (Ok done) front both h e = h done.1 e
stopped_on s (Err refusal) front both h e = refl

stopped : (first second : List Step) (s : State) → is_some (run_of first s).refusal ≡ true → (run_of (first ++ second) s).state ≡ (run_of first s).state
stopped [] second s e = absurd (true≢false (sym e))
stopped (step ∷ first) second s e = stopped_on s (step_of s step) (run_of first) (run_of (first ++ second)) (λ t. stopped first second t) e

-- steps behind those that lead somewhere
then_more : (start s : State) (steps more : List Step) → IsAlong start steps s → ((run_of (steps ++ more) start).refusal ≡ (run_of more s).refusal) × ((run_of (steps ++ more) start).state ≡ (run_of more s).state)
then_more start s steps more along =
    let whole = run_parts steps more start along.accepted in (
      ap (λ (e : End). e.refusal) whole ∙ ap (λ (x : State). (run_of more x).refusal) along.leads,
      ap (λ (e : End). e.state) whole ∙ ap (λ (x : State). (run_of more x).state) along.leads,
    )

-- so many more steps that are accepted
pub further : (start s t : State) (path : List Step) (n more : ℕ) → IsAlong start (take n path) s → (run_of (take more (drop n path)) s).refusal ≡ None → (run_of (take more (drop n path)) s).state ≡ t
    → IsAlong start (take (n + more) path) t
further start s t path n more along accepted leads =
    let whole = then_more start s (take n path) (take more (drop n path)) along in
    subst (λ (xs : List Step). IsAlong start xs t) (parts path n more) (record { accepted = whole.0 ∙ accepted; leads = whole.1 ∙ leads })

-- all the others
pub led_on : (start s t : State) (path : List Step) (n : ℕ) → IsAlong start (take n path) s → (run_of (drop n path) s).state ≡ t → t ≡ led_to start path
led_on start s t path n along leads =
    sym leads ∙ sym ((then_more start s (take n path) (drop n path) along).1) ∙ ap (λ (xs : List Step). (run_of xs start).state) (take-append-drop n path)

-- the same, as the code counts them
pub led_rest : (start s t : State) (path : List Step) (n : ℕ) → IsAlong start (take n path) s → (run_of (take (length path - n) (drop n path)) s).state ≡ t → t ≡ led_to start path
led_rest start s t path n along leads =
    let long : length (drop n path) ≡ length path - n = length-drop n path in
    let all : take (length path - n) (drop n path) ≡ drop n path = take_all (length path - n) (drop n path) (omega (arith, long)) in
    led_on start s t path n along (ap (λ (xs : List Step). (run_of xs s).state) (sym all) ∙ leads)

-- steps of which one is refused
pub led_no_further : (start s t : State) (path : List Step) (n more : ℕ) → IsAlong start (take n path) s → is_some (run_of (take more (drop n path)) s).refusal ≡ true
    → (run_of (take more (drop n path)) s).state ≡ t → t ≡ led_to start path
led_no_further start s t path n more along refused leads =
    let here = stopped (take more (drop n path)) (drop more (drop n path)) s refused in
    let all : take more (drop n path) ++ drop more (drop n path) ≡ drop n path = take-append-drop more (drop n path) in
    led_on start s t path n along (ap (λ (xs : List Step). (run_of xs s).state) (sym all) ∙ here ∙ leads)

-- a state along a path has the programs of the start
pub along_siblings : (start s : State) (steps : List Step) → IsAlong start steps s → AreSiblings s start
along_siblings start s steps along = subst (λ (x : State). AreSiblings x start) along.leads (run_sibling steps start)

pub siblings_back : (a b : State) → AreSiblings a b → AreSiblings b a
siblings_back a b s = record { shape = sym s.shape; programs = sym s.programs }

-- ---- machines

pub all_alike : (a b : State) (machines : List State) → AreSiblings a b → All (λ m. AreSiblings m a) machines → All (λ m. AreSiblings m b) machines
all_alike a b machines same all i d lt = siblings_on (get_or machines i d) a b (all i d lt) same

-- none is kept: so nothing is said but that they are alike
pub none_along : (start : State) (path : List Step) (machines : List State) → All (λ m. AreSiblings m start) machines → AreAlong start path machines 0
none_along start path machines alike = record {
  alike = alike;
  within = omega arith;
  along = λ n le. first n le;
}
  where
    first : (n : ℕ) → n ≤ 0 → IsAlong start (take (distance * n) path) (nearest start machines n)
    first zero le = record { accepted = refl; leads = refl }
    first (suc n) le = absurd (omega (arith, le))

-- those that are from along one path are from along another, as far as it begins as the one
pub along_too : (start : State) (path other : List Step) (machines : List State) (kept shared n : ℕ) → AreAlong start path machines kept → take shared path ≡ take shared other
    → n ≤ kept → distance * n ≤ shared → AreAlong start other machines n
along_too start path other machines kept shared n are same fewer within = record {
  alike = are.alike;
  within = omega (arith, are.within, fewer);
  along = λ i le.
      let before : distance * i ≤ shared = omega (arith, le, within) in
      let begin : take (distance * i) path ≡ take (distance * i) other =
      sym (take-take (distance * i) shared path before) ∙ ap (λ (xs : List Step). take (distance * i) xs) same ∙ take-take (distance * i) shared other before in
      subst (λ (xs : List Step). IsAlong start xs (nearest start machines i)) begin (are.along i (omega (arith, le, fewer)));
}

-- in the place of another
pub kept_there : (machines : List State) (n : ℕ) (s : State) → n < length machines → IsKeptBehind machines n s (set machines n s)
kept_there machines n s there = record {
  within = omega (arith, there, length-set machines n s);
  here = λ other. get_or-set_same machines n s other there;
  others = λ i other lt. get_or-set_other machines n i s other (λ e. absurd (omega (arith, lt, e)));
}

-- as one more
pub kept_last : (machines : List State) (s : State) → IsKeptBehind machines (length machines) s (machines ++ s ∷ [])
kept_last machines s = record {
  within = omega (arith, length-append machines (s ∷ []));
  here = λ other. get_or-append_seam machines s [] other;
  others = λ i other lt. get_or_append_left machines (s ∷ []) other i lt;
}

-- one more is kept
pub kept_along : (start s : State) (path : List Step) (old new : List State) (n : ℕ) → AreAlong start path old n → All (λ m. AreSiblings m start) new → IsKeptBehind old n s new
    → IsAlong start (take (distance * (n + 1)) path) s → AreAlong start path new (n + 1)
kept_along start s path old new n are alike kept here = record {
  alike = alike;
  within = omega (arith, kept.within);
  along = λ i le. each i le;
}
  where
    last : (i : ℕ) → suc i ≡ n + 1 → IsAlong start (take (distance * suc i) path) (nearest start new (suc i))
    last i e =
        let same : i ≡ n = omega (arith, e) in
        let one : n + 1 ≡ suc n = omega arith in
        let there : IsAlong start (take (distance * suc n) path) s = subst (λ (j : ℕ). IsAlong start (take (distance * j) path) s) one here in
        subst (λ (j : ℕ). IsAlong start (take (distance * suc j) path) (nearest start new (suc j))) (sym same)
        (subst (λ (x : State). IsAlong start (take (distance * suc n) path) x) (sym (kept.here start)) there)

    earlier : (i : ℕ) → suc i ≤ n → IsAlong start (take (distance * suc i) path) (nearest start new (suc i))
    earlier i le =
        subst (λ (x : State). IsAlong start (take (distance * suc i) path) x) (sym (kept.others i start (omega (arith, le)))) (are.along (suc i) le)

    each : (i : ℕ) → i ≤ n + 1 → IsAlong start (take (distance * i) path) (nearest start new i)
    each zero le = record { accepted = refl; leads = refl }
    each (suc i) le =
        elim (cases_lt i n) [
          | inl less ↦ earlier i (omega (arith, less))
          | inr more ↦ last i (omega (arith, le, more))
        ]

-- so has one to which more steps lead from there
pub ran_siblings : (start here new : State) (steps more : List Step) → IsAlong start steps here → (run_of more here).state ≡ new → AreSiblings new start
ran_siblings start here new steps more along leads =
    let on : AreSiblings new here = subst (λ (x : State). AreSiblings x here) leads (run_sibling more here) in
    siblings_on new here start on (along_siblings start here steps along)

pub none_is : (refusal : Option Refusal) → is_some refusal ≡ false → refusal ≡ None
none_is None e = refl
none_is (Some refusal) e = absurd (true≢false e)
