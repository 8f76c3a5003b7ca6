-- Ends to which schedules come: that runs reach them, and counts of them, put together.
use Rattle.std.proofs.Common.{◌≡◌, ◌↔◌, ℕ, zero, suc, ◌+◌, ◌<◌, ◌≤◌, Bool, true, false, true≢false, cond, Option, Some, None, Result, Ok, Err, List, [], ◌∷◌, ◌++◌, length, refl, sym, ap, ap₂, ◌∙◌, subst, arith}
use Rattle.std.specs.Prelude.{◌&&◌, ◌==◌, not, count_by, IfOk, IfSome, if◌then◌else◌, option_map}
use Rattle.std.specs.List.{range_with_len, list_any}
use Rattle.std.specs.Option.{option_or}
use Rattle.std.proofs.lemmas.Bool.{and_parts, eqb-true}
use Rattle.std.proofs.lemmas.List.FromFn.{length-range_with_len}
use Rattle.std.proofs.lemmas.List.Sums.{count_by-le-length, sum_by-append}
use Rattle.rayon.specs.Shown.{run-append}
use Rattle.machine.specs.State.{State}
use Rattle.machine.specs.Steps.{End}
use Rattle.persist_buffer.specs.declared.entry.PendingEntry.{PendingEntry}
use Rattle.conditions.specs.Formulas.{Formula}
use Rattle.images.specs.Truth.{holds_in}
use Rattle.schedule.specs.Ranges.{max_schedules}
use Rattle.schedule.specs.declared.plan.Plan.{Plan}
use Rattle.schedule.specs.Schedules.{end_of, schedule_of}
use Rattle.schedule.proofs.OneTurn.{run_turns}
use Rattle.explore.specs.Ends.{IsEnd, IsEndOf, IsTrueAtEnds, all_run_as, has_ended, holds_at}
use Rattle.explore.specs.Explored.{have_ended}
use Rattle.explore.specs.Reachable.{IsReachable, IsRun}
use Rattle.hunt.specs.declared.end_counts.EndCounts.{EndCounts}
use Rattle.hunt.specs.Ends.{BreaksEnd, EndsAreKept, IsEndAs, IsLeastEnd, both_ends, breaks_end, comes_to_end, ends_among, is_end, one_end}
use Rattle.hunt.specs.Least.{IsLeastFrom, fails, least_from}
use Rattle.hunt.proofs.LeastNumbersAreFirst.{least_joins, none_of_range, some_is_first_of}

-- ---- what an end is

nothing_left : {A : Type 0} (xs : List A) → length xs ≡ 0 → xs ≡ []
nothing_left [] e = refl
nothing_left (x ∷ xs) e = absurd (omega (arith, e))

pub end_is : (recovered : Bool) (s : State) → is_end recovered s ≡ true → IsEndAs recovered s
end_is recovered s is =
    let both = and_parts (have_ended recovered s) (length s.memory.pending == 0) is in
    let cpus = and_parts _ (all_run_as recovered s.processors) both.0 in
    record {
      end = record { processors = cpus.0; pending = nothing_left s.memory.pending (eqb-true (length s.memory.pending) 0 both.1) };
      mode = cpus.1;
    }

pub is_an_end : (recovered : Bool) (s : State) → IsEndAs recovered s → is_end recovered s ≡ true
is_an_end recovered s is =
    ap₂ (λ (a b : Bool). (a && b) && (length s.memory.pending == 0)) is.end.processors is.mode ∙ ap (λ xs. length {A = PendingEntry} xs == 0) is.end.pending

-- ---- the end of a schedule

module _ (recovered : Bool) (plan : Plan) (start : State) where
  -- a run reaches the last state of a schedule
  reached : (number : ℕ) → IsReachable true start (end_of plan number start)
  reached number =
      let run = run_turns plan number 0 plan.length start in
      ((schedule_of plan number start).steps, record { accepted = ap (λ (end : End). end.refusal) run; leads = ap (λ (end : End). end.state) run; crashing = λ e. refl })

  pub end_of_run : (number : ℕ) → comes_to_end recovered plan start number ≡ true → IsEndOf true recovered start (end_of plan number start)
  end_of_run number is =
      let end = end_is recovered (end_of plan number start) is in
      record { reached = reached number; end = end.end; mode = end.mode }

  module _ (condition : Formula) where
    is_false : (b : Bool) → not b ≡ true → b ≡ false
    is_false true e = absurd (true≢false (sym e))
    is_false false e = refl

    false_or : (a b : Bool) → (a ≡ true → b ≡ true) → (a && not b) ≡ false
    false_or true b e = ap not (e refl)
    false_or false b e = refl

    pub broken_end : (number : ℕ) → breaks_end recovered plan condition start number ≡ true → BreaksEnd recovered plan condition start number
    broken_end number is =
        let both = and_parts (comes_to_end recovered plan start number) (fails plan condition start number) is in
        record { end = end_of_run number both.0; fails = is_false _ both.1 }

    pub kept_end : (number : ℕ) → breaks_end recovered plan condition start number ≡ false → IsEndAs recovered (end_of plan number start) → holds_at condition (end_of plan number start) ≡ true
    kept_end number is end =
        by (comes_to_end recovered plan start number) (holds_at condition (end_of plan number start)) (is_an_end recovered (end_of plan number start) end) is
      where
        by : (a b : Bool) → a ≡ true → (a && not b) ≡ false → b ≡ true
        by true true e f = refl
        by true false e f = absurd (true≢false f)
        by false b e f = absurd (true≢false (sym e))

    pub not_broken : (number : ℕ) → (IsEndAs recovered (end_of plan number start) → holds_at condition (end_of plan number start) ≡ true)
        → breaks_end recovered plan condition start number ≡ false
    not_broken number kept =
        false_or (comes_to_end recovered plan start number) (holds_at condition (end_of plan number start)) (λ e. kept (end_is recovered (end_of plan number start) e))

    -- what every run keeps, schedules keep
    pub kept_by_runs : IsTrueAtEnds true recovered condition start → (first n : ℕ) → least_from (breaks_end recovered plan condition start) first n ≡ None
    kept_by_runs kept first n = (none_of_range (breaks_end recovered plan condition start) first n).1 (λ k from below.
        false_or (comes_to_end recovered plan start k) (holds_at condition (end_of plan k start)) (λ e. kept (end_of plan k start) (end_of_run k e)))

    -- ---- the least

    pub none_is_kept : (first n : ℕ) → (least_from (breaks_end recovered plan condition start) first n ≡ None) ↔ EndsAreKept recovered plan condition start first (first + n)
    none_is_kept first n =
        let none = none_of_range (breaks_end recovered plan condition start) first n in
        (λ e number from below. kept_end number (none.0 e number from below), λ kept. none.1 (λ k from below. not_broken k (kept k from below)))

    pub found_is_least : (first n k : ℕ) → least_from (breaks_end recovered plan condition start) first n ≡ Some k → IsLeastEnd recovered plan condition start first n k
    found_is_least first n k e =
        let is = (some_is_first_of (breaks_end recovered plan condition start) first n k).0 e in
        record { from = is.from; below = is.below; breaks = broken_end k is.passes; before = λ number up low. kept_end number (is.before number up low) }

    pub least_if_some : (first n : ℕ) (o : Option ℕ) → o ≡ least_from (breaks_end recovered plan condition start) first n → IfSome o (IsLeastEnd recovered plan condition start first n)
    least_if_some first n None e = tt
    least_if_some first n (Some k) e = found_is_least first n k (sym e)

    pub ends_none : {E : Type 0} (first n : ℕ) (r : Result (Option ℕ) E) → IfOk r (λ found. found ≡ least_from (breaks_end recovered plan condition start) first n)
        → IfOk r (λ found. (found ≡ None) ↔ EndsAreKept recovered plan condition start first (first + n))
    ends_none first n (Ok found) is = subst (λ (o : Option ℕ). (o ≡ None) ↔ EndsAreKept recovered plan condition start first (first + n)) (sym is) (none_is_kept first n)
    ends_none first n (Err fault) is = tt

    pub ends_some : {E : Type 0} (first n : ℕ) (r : Result (Option ℕ) E) → IfOk r (λ found. found ≡ least_from (breaks_end recovered plan condition start) first n)
        → IfOk r (λ found. IfSome found (IsLeastEnd recovered plan condition start first n))
    ends_some first n (Ok found) is = least_if_some first n found is
    ends_some first n (Err fault) is = tt

-- ---- counts

counts_split : (test : ℕ → Bool) (first a b : ℕ) → count_by test (range_with_len first (a + b)) ≡ count_by test (range_with_len first a) + count_by test (range_with_len (first + a) b)
counts_split test first a b =
    ap (count_by test) (sym (run-append first a b)) ∙ sum_by-append (λ k. cond (test k) 1 0) (range_with_len first a) (range_with_len (first + a) b)

few_counted : (test : ℕ → Bool) (first n : ℕ) → count_by test (range_with_len first n) ≤ n
few_counted test first n =
    let few = count_by-le-length test (range_with_len first n) in let long = length-range_with_len first n in
    omega (arith, few, long)

module _ (recovered : Bool) (plan : Plan) (condition : Formula) (start : State) where
  abbrev from : ℕ → ℕ → EndCounts
  from first n = ends_among recovered plan condition start first n

  abbrev one : ℕ → EndCounts
  one number = one_end (comes_to_end recovered plan start number) (breaks_end recovered plan condition start number) number

  abbrev made : ℕ → ℕ → Option ℕ → EndCounts
  made ended broken first = record { ended = ended; broken = broken; first = first }

  pub ends_of_both : (first a b : ℕ) → from first (a + b) ≡ both_ends (from first a) (from (first + a) b)
  ends_of_both first a b = λ i. made
      (counts_split (comes_to_end recovered plan start) first a b i)
      (counts_split (breaks_end recovered plan condition start) first a b i)
      (least_joins (breaks_end recovered plan condition start) first a b i)

  one_counted : (test : ℕ → Bool) (number : ℕ) (b : Bool) → test number ≡ b → (if b then 1 else 0) ≡ count_by test (range_with_len number 1)
  one_counted test number true is = rw is refl
  one_counted test number false is = rw is refl

  one_least : (test : ℕ → Bool) (number : ℕ) (b : Bool) → test number ≡ b → (if b then Some number else None) ≡ least_from test number 1
  one_least test number true is = sym ((some_is_first_of test number 1 number).1 record { from = omega arith; below = omega arith; passes = is; before = λ j up low. absurd (omega (arith, up, low)) })
  one_least test number false is = sym ((none_of_range test number 1).1 (λ k up low. ap test (omega (arith, up, low)) ∙ is))

  pub one_is : (number : ℕ) → one number ≡ from number 1
  one_is number = λ i. made
      (one_counted (comes_to_end recovered plan start) number (comes_to_end recovered plan start number) refl i)
      (one_counted (breaks_end recovered plan condition start) number (breaks_end recovered plan condition start number) refl i)
      (one_least (breaks_end recovered plan condition start) number (breaks_end recovered plan condition start number) refl i)

  -- one number more
  pub ends_more : (first n : ℕ) → both_ends (from first n) (one (first + n)) ≡ from first (n + 1)
  ends_more first n = ap (both_ends (from first n)) (one_is (first + n)) ∙ sym (ends_of_both first n 1)

  -- the sums of one number more
  pub one_fits : (first n : ℕ) (some later : EndCounts) → some ≡ from first n → later ≡ one (first + n) → n < max_schedules
      → (some.ended + later.ended ≤ max_schedules) × (some.broken + later.broken ≤ max_schedules)
  one_fits first n some later was is low =
      let ended = ap (λ (c : EndCounts). c.ended) was in let other = ap (λ (c : EndCounts). c.ended) (is ∙ one_is (first + n)) in
      let broken = ap (λ (c : EndCounts). c.broken) was in let more = ap (λ (c : EndCounts). c.broken) (is ∙ one_is (first + n)) in
      let few = few_counted (comes_to_end recovered plan start) first n in let at_most = few_counted (comes_to_end recovered plan start) (first + n) 1 in
      let fewer = few_counted (breaks_end recovered plan condition start) first n in let at = few_counted (breaks_end recovered plan condition start) (first + n) 1 in
      (omega (arith, ended, other, few, at_most, low), omega (arith, broken, more, fewer, at, low))

  -- those of so many schedules, and then those of the schedules after them
  pub sums_fit : (first done more : ℕ) (some later : EndCounts) → some ≡ from first done → later ≡ from (first + done) more → first + (done + more) ≤ max_schedules
      → (some.ended + later.ended ≤ max_schedules) × (some.broken + later.broken ≤ max_schedules)
  sums_fit first done more some later was is low =
      let ended = ap (λ (c : EndCounts). c.ended) was in let other = ap (λ (c : EndCounts). c.ended) is in
      let broken = ap (λ (c : EndCounts). c.broken) was in let others = ap (λ (c : EndCounts). c.broken) is in
      let few = few_counted (comes_to_end recovered plan start) first done in let at_most = few_counted (comes_to_end recovered plan start) (first + done) more in
      let fewer = few_counted (breaks_end recovered plan condition start) first done in let at = few_counted (breaks_end recovered plan condition start) (first + done) more in
      (omega (arith, ended, other, few, at_most, low), omega (arith, broken, others, fewer, at, low))
