-- Breaks halt where they say.
use Rattle.std.proofs.Common.{◌≡◌, ℕ, zero, suc, ◌+◌, ◌-◌, ◌<◌, List, [], ◌∷◌, ◌++◌, length, take, Bool, true, false, Option, Some, None, Result, Ok, Err, refl, sym, ◌∙◌, ap, subst, arith, inl, inr}
use Rattle.std.proofs.lemmas.Bool.{cases_Bool}
use Rattle.std.proofs.lemmas.List.{length-take-le, take_all}
use Rattle.std.specs.Prelude.{if◌then◌else◌, is_some}
use Rattle.std.specs.List.{filter}
use Rattle.litmus_text.specs.declared.text_lines.LinedObject.{LinedObject}
use Rattle.machine.specs.State.{State}
use Rattle.machine.specs.Steps.{run_of, step_of}
use Rattle.machine.specs.declared.refusal.Refusal.{Refusal}
use Rattle.machine.specs.declared.step.Seen.{Seen}
use Rattle.machine.specs.declared.step.Step.{Step}
use Rattle.debugger.specs.Halts.{halt_of}
use Rattle.debugger.specs.declared.halt.Halt.{Halt}
use Rattle.debugger.specs.declared.halt.Halt.TheVariants as halts
use Rattle.debug_scripts.specs.Ahead.{all_ahead}
use Rattle.debug_scripts.specs.SessionTexts.{halt_line}
use Rattle.debug_scripts.specs.declared.orders.Command.{Command}
use Rattle.debug_scripts.specs.declared.orders.Command.TheVariants as commands
use Rattle.conversations.specs.declared.breaks.Cut.{Cut}
use Rattle.conversations.specs.declared.declaration.Kind.{Kind}
use Rattle.conversations.specs.declared.moment.Moment.{Moment}
use Rattle.conversations.specs.Answered.{Answer, Place, answer, scripted_at}
use Rattle.conversations.specs.Breaking.{HaltsThere, IsCut, IsCutOr, IsUncut, MakesNoDifference, break_behind}
use Rattle.conversations.specs.Breaks.{break_at, cut, cut_behind, cut_from, cut_line, cut_of, cut_or, has_breaks}
use Rattle.conversations.specs.Desks.{Declaration, declaration, declared_after}

-- ---- without breaks

none_of : (o : Option Moment) → is_some o ≡ false → o ≡ None
none_of None free = refl
none_of (Some moment) free = absurd (cc)

none_at : (lined : LinedObject) (ds : List Declaration) (s : State) (seen : Seen) (t : State) → has_breaks ds ≡ false → break_at lined ds s seen t ≡ None
none_at lined [] s seen t free = refl
none_at lined (d ∷ ds) s seen t free =
    elim (cases_Bool (is_some d.halts)) [
      | inl some ↦ let wrong : true ≡ false = rw some at free in absurd (cc)
      | inr none ↦ rw (none_of d.halts none) (none_at lined ds s seen t (rw none at free))
    ]

none_behind : (n : ℕ) (lined : LinedObject) (ds : List Declaration) (s : State) (r : Result (Seen × State) Refusal) (later : State → Option Cut) → has_breaks ds ≡ false
    → ((t : State) → later t ≡ None) → cut_behind n lined ds s r later ≡ None
none_behind n lined ds s (Ok done) later free none = rw (none_at lined ds s done.0 done.1 free) (none done.1)
none_behind n lined ds s (Err refusal) later free none = refl

pub none_from : (n : ℕ) (lined : LinedObject) (ds : List Declaration) (s : State) (steps : List Step) → has_breaks ds ≡ false → cut_from n lined ds s steps ≡ None
none_from n lined ds s [] free = refl
none_from n lined ds s (step ∷ steps) free = none_behind (n + 1) lined ds s (step_of s step) _ free (λ t. none_from (n + 1) lined ds t steps free)

same_line : (h : Halt) → cut_line None h ≡ halt_line h
same_line (halts.Stop id n) = refl
same_line (halts.Refused n refusal) = refl
same_line (halts.NoMemory n) = refl
same_line halts.End = refl

pub gone_alike : (lined : LinedObject) (p : Place) → MakesNoDifference lined p
gone_alike lined p free (commands.Gather step) = refl
gone_alike lined p free commands.Go =
    rw (none_from 0 lined p.declared p.session.past.state p.ahead.gathered free) (ap (answer _) (same_line (halt_of p.session p.ahead.gathered)))
gone_alike lined p free commands.Continue =
    rw (none_from 0 lined p.declared p.session.past.state (all_ahead p.ahead) free) (ap (answer _) (same_line (halt_of p.session (all_ahead p.ahead))))
gone_alike lined p free (commands.Back n) = refl
gone_alike lined p free commands.Show = refl
gone_alike lined p free commands.Images = refl
gone_alike lined p free (commands.Values asked) = refl
gone_alike lined p free (commands.Disarm id) = refl
gone_alike lined p free (commands.Detach id) = refl

-- ---- lines that declare none

none_filtered : (test : Declaration → Bool) (ds : List Declaration) → has_breaks ds ≡ false → has_breaks (filter test ds) ≡ false
none_filtered test [] free = refl
none_filtered test (d ∷ ds) free =
    elim (cases_Bool (is_some d.halts)) [
      | inl some ↦ let wrong : true ≡ false = rw some at free in absurd (cc)
      | inr none ↦ elim (cases_Bool (test d)) [
        | inl stays ↦ rw (stays, none) (none_filtered test ds (rw none at free))
        | inr goes ↦ rw goes (none_filtered test ds (rw none at free))
      ]
    ]

pub none_after : (command : Command) (ds : List Declaration) → has_breaks ds ≡ false → has_breaks (declared_after command ds) ≡ false
none_after (commands.Gather step) ds free = free
none_after commands.Go ds free = free
none_after commands.Continue ds free = free
none_after (commands.Back n) ds free = free
none_after commands.Show ds free = free
none_after commands.Images ds free = free
none_after (commands.Values asked) ds free = free
none_after (commands.Disarm id) ds free = none_filtered _ ds free
none_after (commands.Detach id) ds free = none_filtered _ ds free

pub none_more : (ds : List Declaration) (kind : Kind) (id : ℕ) (line : List ℕ) → has_breaks ds ≡ false → has_breaks (ds ++ declaration kind id None line ∷ []) ≡ false
none_more [] kind id line free = refl
none_more (d ∷ ds) kind id line free =
    elim (cases_Bool (is_some d.halts)) [
      | inl some ↦ let wrong : true ≡ false = rw some at free in absurd (cc)
      | inr none ↦ rw none (none_more ds kind id line (rw none at free))
    ]

pub none_scripted : (lined : LinedObject) (p : Place) (command : Command) → has_breaks p.declared ≡ false → has_breaks (scripted_at lined p command).place.declared ≡ false
none_scripted lined p command free = rw (gone_alike lined p free command) (none_after command p.declared free)

pub none_either : (b : Bool) (x y : Answer) → has_breaks x.place.declared ≡ false → has_breaks y.place.declared ≡ false → has_breaks (if b then x else y).place.declared ≡ false
none_either true x y one other = one
none_either false x y one other = other

-- ---- where the first is

-- Where n steps were made before these, the first break is behind m more of them.
record IsFirst (n : ℕ) (lined : LinedObject) (ds : List Declaration) (s : State) (steps : List Step) (found : Cut) : Type 0 where
  pub m : ℕ
  pub count : found ≡ cut (n + m) found.id
  pub is : IsCut lined ds s steps (cut m found.id)

abbrev IsFirstOr : ℕ → LinedObject → List Declaration → State → List Step → Option Cut → Type 0
IsFirstOr n lined ds s steps (Some found) = IsFirst n lined ds s steps found
IsFirstOr n lined ds s steps None = IsUncut lined ds s steps

module _ (lined : LinedObject) (ds : List Declaration) (s : State) (step : Step) (steps : List Step) where
  -- the step is refused
  refused_first : (refusal : Refusal) → step_of s step ≡ Err refusal → IsUncut lined ds s (step ∷ steps)
  refused_first refusal e k less = absurd (omega (arith, (rw e at less)))

  module _ (done : Seen × State) (e : step_of s step ≡ Ok done) where
    -- the breaks behind the first step, and behind the others
    first_behind : break_behind lined ds s (step ∷ steps) 0 ≡ break_at lined ds s done.0 done.1
    first_behind = rw e refl

    next_behind : (k : ℕ) → break_behind lined ds s (step ∷ steps) (suc k) ≡ break_behind lined ds done.1 steps k
    next_behind k = rw e refl

    one_first : (n id : ℕ) → break_at lined ds s done.0 done.1 ≡ Some id → IsFirst n lined ds s (step ∷ steps) (cut (n + 1) id)
    one_first n id is = record {
      m = 1;
      count = refl;
      is = record {
        some = omega arith;
        within = omega arith;
        accepted = rw e refl;
        halts = first_behind ∙ is;
        least = λ k less. absurd (omega (arith, less));
      };
    }

    none_yet : break_at lined ds s done.0 done.1 ≡ None → (bound : ℕ) → ((k : ℕ) → k < bound → break_behind lined ds done.1 steps k ≡ None)
        → (k : ℕ) → k < bound + 1 → break_behind lined ds s (step ∷ steps) k ≡ None
    none_yet free bound others zero less = first_behind ∙ free
    none_yet free bound others (suc k) less = next_behind k ∙ others k (omega (arith, less))

    later_first : (n : ℕ) (found : Cut) → break_at lined ds s done.0 done.1 ≡ None → IsFirst (n + 1) lined ds done.1 steps found → IsFirst n lined ds s (step ∷ steps) found
    later_first n found free first =
        let m : ℕ = first.m in
        let some : 0 < m = first.is.some in
        let here : suc m - 1 ≡ suc (m - 1) = omega (arith, some) in
        let sum : (n + 1) + m ≡ n + suc m = omega arith in
        record {
          m = suc m;
          count = rw sum at first.count;
          is = record {
            some = omega arith;
            within = omega (arith, first.is.within);
            accepted = rw e (first.is.accepted);
            halts = ap (break_behind lined ds s (step ∷ steps)) here ∙ next_behind (m - 1) ∙ first.is.halts;
            least = λ k less. none_yet free (m - 1) (λ j below. first.is.least j (omega (arith, below, some))) k (omega (arith, less, some));
          };
        }

    never_first : break_at lined ds s done.0 done.1 ≡ None → IsUncut lined ds done.1 steps → IsUncut lined ds s (step ∷ steps)
    never_first free others k less = none_yet free (run_of steps done.1).accepted others k (rw e at less)

-- where n steps were made before
abbrev Firsts : ℕ → LinedObject → List Declaration → List Step → Type 0
Firsts n lined ds steps = (s : State) → IsFirstOr n lined ds s steps (cut_from n lined ds s steps)

by_others : (n : ℕ) (lined : LinedObject) (ds : List Declaration) (s : State) (step : Step) (steps : List Step) (done : Seen × State) → step_of s step ≡ Ok done
    → break_at lined ds s done.0 done.1 ≡ None → (o : Option Cut) → IsFirstOr (n + 1) lined ds done.1 steps o → IsFirstOr n lined ds s (step ∷ steps) o
by_others n lined ds s step steps done e free (Some found) first = later_first lined ds s step steps done e n found free first
by_others n lined ds s step steps done e free None others = never_first lined ds s step steps done e free others

by_break : (n : ℕ) (lined : LinedObject) (ds : List Declaration) (s : State) (step : Step) (steps : List Step) (done : Seen × State) → step_of s step ≡ Ok done
    → (o : Option ℕ) → break_at lined ds s done.0 done.1 ≡ o → Firsts (n + 1) lined ds steps → IsFirstOr n lined ds s (step ∷ steps) (cut_or (n + 1) o (cut_from (n + 1) lined ds done.1 steps))
by_break n lined ds s step steps done e (Some id) is others = one_first lined ds s step steps done e n id is
by_break n lined ds s step steps done e None is others = by_others n lined ds s step steps done e is (cut_from (n + 1) lined ds done.1 steps) (others done.1)

by_step : (n : ℕ) (lined : LinedObject) (ds : List Declaration) (s : State) (step : Step) (steps : List Step) (r : Result (Seen × State) Refusal) → step_of s step ≡ r
    → Firsts (n + 1) lined ds steps → IsFirstOr n lined ds s (step ∷ steps) (cut_behind (n + 1) lined ds s r (λ t. cut_from (n + 1) lined ds t steps))
by_step n lined ds s step steps (Ok done) e others = by_break n lined ds s step steps done e (break_at lined ds s done.0 done.1) refl others
by_step n lined ds s step steps (Err refusal) e others = refused_first lined ds s step steps refusal e

firsts : (n : ℕ) (lined : LinedObject) (ds : List Declaration) (s : State) (steps : List Step) → IsFirstOr n lined ds s steps (cut_from n lined ds s steps)
firsts n lined ds s [] = λ k less. absurd (omega (arith, less))
firsts n lined ds s (step ∷ steps) = by_step n lined ds s step steps (step_of s step) refl (λ t. firsts (n + 1) lined ds t steps)

from_none : (lined : LinedObject) (ds : List Declaration) (s : State) (steps : List Step) (o : Option Cut) → IsFirstOr 0 lined ds s steps o → IsCutOr lined ds s steps o
from_none lined ds s steps (Some found) first =
    let count : 0 + first.m ≡ first.m = omega arith in
    subst (λ (c : Cut). IsCut lined ds s steps c) (sym (first.count ∙ ap (λ (k : ℕ). cut k found.id) count)) first.is
from_none lined ds s steps None none = none

pub cuts_are_first : (lined : LinedObject) (ds : List Declaration) (s : State) (steps : List Step) → IsCutOr lined ds s steps (cut_of lined ds s steps)
cuts_are_first lined ds s steps = from_none lined ds s steps (cut_of lined ds s steps) (firsts 0 lined ds s steps)

-- ---- what is made then

pub halts_there : (lined : LinedObject) (p : Place) (steps : List Step) → HaltsThere lined p steps
halts_there lined p steps found is ends =
    let first : IsCut lined p.declared p.session.past.state steps found = rw is at (cuts_are_first lined p.declared p.session.past.state steps) in
    let long : length (take found.count steps) ≡ found.count = length-take-le found.count steps first.within in
    let all : take found.count (take found.count steps) ≡ take found.count steps = take_all found.count (take found.count steps) (omega (arith, long)) in
    rw (is, ends, long, all) refl
