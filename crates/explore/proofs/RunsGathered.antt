-- What is gathered of the instructions that run.
use Rattle.std.proofs.Common.{◌≡◌, ℕ, zero, suc, ◌+◌, ◌<◌, inl, inr, Bool, true, false, Option, Some, None, Result, Ok, Err, List, [], ◌∷◌, ◌++◌, refl, sym, ap, subst, ◌∙◌, arith, append_assoc, true≢false}
use Rattle.std.specs.Prelude.{Contains, drop, is_none, length, slice_get, if◌then◌else◌}
use Rattle.std.specs.Option.{option_map_or}
use Rattle.std.proofs.lemmas.List.Elements.{Contains-append_left, Contains-append_right, Contains-append_cases}
use Rattle.outcomes.specs.Outcomes.{refusal_of}
use Rattle.machine.specs.declared.refusal.Refusal.{Refusal}
use Rattle.machine.specs.declared.step.Seen.{Seen}
use Rattle.machine.specs.declared.step.Step.{Step}
use Rattle.machine.specs.declared.step.Step.TheVariants.{Exec, Drain, Persist, Settle, Crash}
use Rattle.machine.specs.State.{Processor, State}
use Rattle.machine.specs.Steps.{step_of}
use Rattle.machine.proofs.CheckIsNoneWhereAccepted.{none_always, none_only}
use Rattle.explore.specs.Gathered.{executed, followed_runs, run_at, run_by, runs_at, runs_behind, runs_behind_all, runs_from}
use Rattle.explore.specs.Outcomes.{processor_outcome, processors_outcome}
use Rattle.explore.specs.Ran.{Executes, flag_number, site}
use Rattle.explore.specs.Sets.{included_all}
use Rattle.explore.proofs.FoundPaths.{first_or_later, first_there, later_there}
use Rattle.explore.proofs.SetsHold.{all_then}
use Rattle.explore.proofs.Visits.{nothing_there}

-- ---- which processor gives what

record GivenBy (s : State) (q : ℕ) (cpus : List Processor) (x : List ℕ) : Type 0 where
  k : ℕ
  cpu : Processor
  there : slice_get cpus k ≡ Some cpu
  gave : Contains (run_by s (q + k) cpu) x

given_later : (s : State) (q : ℕ) (c : Processor) (cpus : List Processor) (x : List ℕ) → GivenBy s (q + 1) cpus x → GivenBy s q (c ∷ cpus) x
given_later s q c cpus x g =
    let same : (q + 1) + g.k ≡ q + suc g.k = omega arith in
    record { k = suc g.k; cpu = g.cpu; there = g.there; gave = subst (λ (n : ℕ). Contains (run_by s n g.cpu) x) same g.gave }

given : (s : State) (q : ℕ) (cpus : List Processor) (x : List ℕ) → Contains (runs_from s q cpus) x → GivenBy s q cpus x
given s q [] x there = absurd (nothing_there x there)
given s q (c ∷ cpus) x there =
    elim (Contains-append_cases (run_by s q c) (runs_from s (q + 1) cpus) x there) [
      | inl here ↦ (let same : q ≡ q + zero = omega arith in record { k = zero; cpu = c; there = refl; gave = subst (λ (n : ℕ). Contains (run_by s n c) x) same here })
      | inr later ↦ given_later s q c cpus x (given s (q + 1) cpus x later)
    ]

gives : (s : State) (q : ℕ) (cpus : List Processor) (k : ℕ) (c : Processor) (x : List ℕ) → slice_get cpus k ≡ Some c → Contains (run_by s (q + k) c) x → Contains (runs_from s q cpus) x
gives s q [] k c x there gave = absurd (cc)
gives s q (y ∷ cpus) zero c x there gave =
    let same : q + zero ≡ q = omega arith in
    let here : c ≡ y = cc in
    Contains-append_left (run_by s q y) (runs_from s (q + 1) cpus) x (subst (λ (d : Processor). Contains (run_by s q d) x) here (subst (λ (n : ℕ). Contains (run_by s n c) x) same gave))
gives s q (y ∷ cpus) (suc k) c x there gave =
    let same : q + suc k ≡ (q + 1) + k = omega arith in
    Contains-append_right (run_by s q y) (runs_from s (q + 1) cpus) x (gives s (q + 1) cpus k c x there (subst (λ (n : ℕ). Contains (run_by s n c) x) same gave))

-- ---- what it is

flag_tells : (a b : Bool) → flag_number a ≡ flag_number b → a ≡ b
flag_tells true true e = refl
flag_tells true false e = absurd (omega (arith, e))
flag_tells false true e = absurd (omega (arith, e))
flag_tells false false e = refl

first_number : (a b : ℕ) (xs ys : List ℕ) → a ∷ xs ≡ b ∷ ys → a ≡ b
first_number a b xs ys e = cc

other_numbers : (a b : ℕ) (xs ys : List ℕ) → a ∷ xs ≡ b ∷ ys → xs ≡ ys
other_numbers a b xs ys e = cc

site_tells : (p q : ℕ) (a b : Bool) (i j : ℕ) → site p a i ≡ site q b j → (p ≡ q) × (a ≡ b) × (i ≡ j)
site_tells p q a b i j e =
    let later = other_numbers p q (flag_number a ∷ i ∷ []) (flag_number b ∷ j ∷ []) e in
    let last = other_numbers (flag_number a) (flag_number b) (i ∷ []) (j ∷ []) later in
    (first_number p q _ _ e, flag_tells a b (first_number (flag_number a) (flag_number b) _ _ later), first_number i j [] [] last)

only_one : (b : Bool) (o x : List ℕ) → Contains (if b then o ∷ [] else []) x → (b ≡ true) × (o ≡ x)
only_one true o x there = elim (first_or_later o x [] there) [ inl same ↦ (refl, same) | inr none ↦ absurd (nothing_there x none) ]
only_one false o x there = absurd (nothing_there x there)

is_no_refusal : (refusal : Option Refusal) → is_none refusal ≡ true → refusal ≡ None
is_no_refusal None e = refl
is_no_refusal (Some r) e = absurd (true≢false (sym e))

ran_there : (s : State) (p : ℕ) (recovery : Bool) (place : ℕ) → GivenBy s 0 s.processors (site p recovery place) → Executes s p recovery place
ran_there s p recovery place g =
    let (free, same) = only_one (is_none (refusal_of (step_of s (Exec (0 + g.k))))) (site (0 + g.k) g.cpu.recovering g.cpu.place) (site p recovery place) g.gave in
    let (is_p, is_recovery, is_place) = site_tells (0 + g.k) p g.cpu.recovering recovery g.cpu.place place same in
    let k_is : g.k ≡ p = omega (arith, is_p) in
    let (seen, end, made) = none_only s (Exec (0 + g.k)) (is_no_refusal (refusal_of (step_of s (Exec (0 + g.k)))) free) in
    record {
      cpu = g.cpu;
      there = ap (slice_get s.processors) (sym k_is) ∙ g.there;
      program = is_recovery;
      at = is_place;
      seen = seen;
      end = end;
      made = ap (λ (n : ℕ). step_of s (Exec n)) (sym is_p) ∙ made;
    }

pub runs_execute : (s : State) (p : ℕ) (recovery : Bool) (place : ℕ) → Contains (runs_at s) (site p recovery place) → Executes s p recovery place
runs_execute s p recovery place there = ran_there s p recovery place (given s 0 s.processors (site p recovery place) there)

pub executed_runs : (s : State) (p : ℕ) (recovery : Bool) (place : ℕ) → Executes s p recovery place → Contains (runs_at s) (site p recovery place)
executed_runs s p recovery place e =
    let free : is_none (refusal_of (step_of s (Exec p))) ≡ true = ap (λ (r : Option Refusal). is_none r) (none_always s e.end (Exec p) e.seen e.made) in
    let one : Contains (run_by s p e.cpu) (site p e.cpu.recovering e.cpu.place) = rw free (first_there (site p e.cpu.recovering e.cpu.place) []) in
    let here : Contains (run_by s p e.cpu) (site p recovery place) = subst (λ (x : List ℕ). Contains (run_by s p e.cpu) x) (λ k. site p (e.program k) (e.at k)) one in
    let same : p ≡ 0 + p = omega arith in
    gives s 0 s.processors p e.cpu (site p recovery place) e.there (subst (λ (n : ℕ). Contains (run_by s n e.cpu) (site p recovery place)) same here)

-- the same of the instruction that one step executes
pub executed_run : (s : State) (p : ℕ) (recovery : Bool) (place : ℕ) → Executes s p recovery place → Contains (run_at s p) (site p recovery place)
executed_run s p recovery place e =
    let free : is_none (refusal_of (step_of s (Exec p))) ≡ true = ap (λ (r : Option Refusal). is_none r) (none_always s e.end (Exec p) e.seen e.made) in
    let one : Contains (run_by s p e.cpu) (site p e.cpu.recovering e.cpu.place) = rw free (first_there (site p e.cpu.recovering e.cpu.place) []) in
    let here : Contains (run_by s p e.cpu) (site p recovery place) = subst (λ (x : List ℕ). Contains (run_by s p e.cpu) x) (λ k. site p (e.program k) (e.at k)) one in
    subst (λ (o : Option Processor). Contains (option_map_or (run_by s p) o []) (site p recovery place)) (sym e.there) here

-- and what one step executes, the state executes
pub run_among : (s : State) (p : ℕ) (x : List ℕ) → Contains (run_at s p) x → Contains (runs_at s) x
run_among s p x gave = by (slice_get s.processors p) refl gave
  where
    by : (o : Option Processor) → slice_get s.processors p ≡ o → Contains (option_map_or (run_by s p) o []) x → Contains (runs_at s) x
    by None is gave = absurd (nothing_there x gave)
    by (Some c) is gave = let same : p ≡ 0 + p = omega arith in gives s 0 s.processors p c x is (subst (λ (n : ℕ). Contains (run_by s n c) x) same gave)

pub executed_among : (s : State) (step : Step) (x : List ℕ) → Contains (executed s step) x → Contains (runs_at s) x
executed_among s (Exec p) x gave = run_among s p x gave
executed_among s (Drain p i) x gave = absurd (nothing_there x gave)
executed_among s (Persist line) x gave = absurd (nothing_there x gave)
executed_among s Settle x gave = absurd (nothing_there x gave)
executed_among s Crash x gave = absurd (nothing_there x gave)

-- ---- the own steps that are followed

-- of one step among some
pub behind_there : (locals : Bool) (s : State) (steps : List Step) (step : Step) (x : List ℕ) → Contains steps step → Contains (runs_behind locals (step_of s step)) x → Contains (runs_behind_all locals s steps) x
behind_there locals s [] step x there gave = absurd (nothing_there step there)
behind_there locals s (other ∷ steps) step x there gave =
    elim (first_or_later other step steps there) [
      | inl here ↦ Contains-append_left (runs_behind locals (step_of s other)) (runs_behind_all locals s steps) x (subst (λ (y : Step). Contains (runs_behind locals (step_of s y)) x) (sym here) gave)
      | inr later ↦ Contains-append_right (runs_behind locals (step_of s other)) (runs_behind_all locals s steps) x (behind_there locals s steps step x later gave)
    ]

-- which one it is
pub record IsBehind (locals : Bool) (s : State) (steps : List Step) (x : List ℕ) : Type 0 where
  pub step : Step
  pub there : Contains steps step
  pub seen : Seen
  pub end : State
  pub made : step_of s step ≡ Ok (seen, end)
  pub gave : Contains (followed_runs locals end) x

behind_one : (locals : Bool) (s : State) (steps : List Step) (step : Step) (x : List ℕ) (r : Result (Seen × State) Refusal) → step_of s step ≡ r → Contains (runs_behind locals r) x → IsBehind locals s (step ∷ steps) x
behind_one locals s steps step x (Ok done) made gave = record { step = step; there = first_there step steps; seen = done.0; end = done.1; made = made; gave = gave }
behind_one locals s steps step x (Err refusal) made gave = absurd (nothing_there x gave)

pub is_behind : (locals : Bool) (s : State) (steps : List Step) (x : List ℕ) → Contains (runs_behind_all locals s steps) x → IsBehind locals s steps x
is_behind locals s [] x gave = absurd (nothing_there x gave)
is_behind locals s (step ∷ steps) x gave =
    elim (Contains-append_cases (runs_behind locals (step_of s step)) (runs_behind_all locals s steps) x gave) [
      | inl here ↦ behind_one locals s steps step x (step_of s step) refl here
      | inr later ↦ (let b = is_behind locals s steps x later in record { step = b.step; there = later_there step b.step steps b.there; seen = b.seen; end = b.end; made = b.made; gave = b.gave })
    ]

-- ---- one processor after another, as the code goes

one_more : (s : State) (q : ℕ) (cpus : List Processor) (p : ℕ) → p < length cpus → option_map_or (run_by s (q + p)) (slice_get cpus p) [] ++ runs_from s (q + (p + 1)) (drop (suc p) cpus) ≡ runs_from s (q + p) (drop p cpus)
one_more s q [] p within = absurd (omega (arith, within))
one_more s q (c ∷ cpus) zero within =
    let here : q + (zero + 1) ≡ (q + zero) + 1 = omega arith in
    ap (λ (n : ℕ). run_by s (q + zero) c ++ runs_from s n cpus) here
one_more s q (c ∷ cpus) (suc p) within =
    let here : q + suc p ≡ (q + 1) + p = omega arith in
    let next : q + (suc p + 1) ≡ (q + 1) + (p + 1) = omega arith in
    (λ k. option_map_or (run_by s (here k)) (slice_get cpus p) [] ++ runs_from s (next k) (drop (suc p) cpus))
    ∙ one_more s (q + 1) cpus p (omega (arith, within)) ∙ ap (λ (n : ℕ). runs_from s n (drop p cpus)) (sym here)

pub runs_next : (s : State) (p : ℕ) (was now all : List (List ℕ)) → p < length s.processors → now ≡ included_all was (option_map_or (run_by s p) (slice_get s.processors p) [])
    → included_all was (runs_from s p (drop p s.processors)) ≡ all → included_all now (runs_from s (p + 1) (drop (p + 1) s.processors)) ≡ all
runs_next s p was now all within is before =
    let next : p + 1 ≡ suc p = omega arith in
    let here : 0 + p ≡ p = omega arith in
    let there : 0 + (p + 1) ≡ p + 1 = omega arith in
    let more : option_map_or (run_by s p) (slice_get s.processors p) [] ++ runs_from s (p + 1) (drop (suc p) s.processors) ≡ runs_from s p (drop p s.processors) =
    (λ k. option_map_or (run_by s (sym here k)) (slice_get s.processors p) [] ++ runs_from s (sym there k) (drop (suc p) s.processors)) ∙ one_more s 0 s.processors p within
    ∙ ap (λ (n : ℕ). runs_from s n (drop p s.processors)) here in
    (λ k. included_all (is k) (runs_from s (p + 1) (drop (next k) s.processors)))
    ∙ sym (all_then (option_map_or (run_by s p) (slice_get s.processors p) []) (runs_from s (p + 1) (drop (suc p) s.processors)) was)
    ∙ ap (included_all was) more ∙ before

outcome_more : (cpus : List Processor) (p : ℕ) → p < length cpus → option_map_or processor_outcome (slice_get cpus p) [] ++ processors_outcome (drop (suc p) cpus) ≡ processors_outcome (drop p cpus)
outcome_more [] p within = absurd (omega (arith, within))
outcome_more (c ∷ cpus) zero within = refl
outcome_more (c ∷ cpus) (suc p) within = outcome_more cpus p (omega (arith, within))

pub outcome_next : (cpus : List Processor) (p : ℕ) (was now all : List ℕ) → p < length cpus → now ≡ was ++ option_map_or processor_outcome (slice_get cpus p) []
    → was ++ processors_outcome (drop p cpus) ≡ all → now ++ processors_outcome (drop (p + 1) cpus) ≡ all
outcome_next cpus p was now all within is before =
    let next : p + 1 ≡ suc p = omega arith in
    ap (λ (n : ℕ). now ++ processors_outcome (drop n cpus)) next
    ∙ ap (λ (xs : List ℕ). xs ++ processors_outcome (drop (suc p) cpus)) is
    ∙ append_assoc was (option_map_or processor_outcome (slice_get cpus p) []) (processors_outcome (drop (suc p) cpus))
    ∙ ap (λ (xs : List ℕ). was ++ xs) (outcome_more cpus p within) ∙ before
