-- Breaks halt where they say: what a law states of them.
use Rattle.std.specs.Prelude.{◌≡◌, ℕ, ◌+◌, ◌-◌, ◌<◌, ◌≤◌, false, Option, Some, None, Result, Ok, Err, List, [], drop, length, slice_get, take}
use Rattle.std.specs.Option.{option_and_then}
use Rattle.litmus_text.specs.declared.text_lines.LinedObject.{LinedObject}
use Rattle.machine.specs.State.{State}
use Rattle.machine.specs.Steps.{run_of, step_of}
use Rattle.machine.specs.declared.refusal.Refusal.{Refusal}
use Rattle.machine.specs.declared.step.Seen.{Seen}
use Rattle.machine.specs.declared.step.Step.{Step}
use Rattle.debugger.specs.Halts.{halt_of}
use Rattle.debugger.specs.Pasts.{AreAccepted}
use Rattle.debugger.specs.Sessions.{after}
use Rattle.debugger.specs.declared.halt.Halt.TheVariants.{End}
use Rattle.debug_scripts.specs.Ahead.{steps_ahead}
use Rattle.debug_scripts.specs.declared.orders.Command.{Command}
use Rattle.conversations.specs.declared.breaks.Cut.{Cut}
use Rattle.conversations.specs.Answered.{Place, answer, followed_at, gone_at, place, scripted_at}
use Rattle.conversations.specs.Breaks.{break_at, cut_of, end_line, has_breaks}
use Rattle.conversations.specs.Desks.{Declaration}

-- the break that halts behind a step, if it is accepted
abbrev pub break_by : LinedObject → List Declaration → State → Result (Seen × State) Refusal → Option ℕ
break_by lined ds s (Ok done) = break_at lined ds s done.0 done.1
break_by lined ds s (Err refusal) = None

-- the break that halts behind the step at place n of these, made from where those before it lead
abbrev pub break_behind : LinedObject → List Declaration → State → List Step → ℕ → Option ℕ
break_behind lined ds s steps n =
    let t = (run_of (take n steps) s).state in
    option_and_then (λ step. break_by lined ds t (step_of t step)) (slice_get steps n)

-- Where a break halts steps: they are accepted up to there, behind the last of these it is this break that halts, and behind none of those before is there one.
pub record IsCut (lined : LinedObject) (ds : List Declaration) (s : State) (steps : List Step) (cut : Cut) : Type 0 where
  pub some : 0 < cut.count
  pub within : cut.count ≤ length steps
  pub accepted : AreAccepted (take cut.count steps) s
  pub halts : break_behind lined ds s steps (cut.count - 1) ≡ Some cut.id
  pub least : (k : ℕ) → k + 1 < cut.count → break_behind lined ds s steps k ≡ None

-- No break halts steps: behind none of those that are accepted is there one.
abbrev pub IsUncut : LinedObject → List Declaration → State → List Step → Type 0
IsUncut lined ds s steps = (k : ℕ) → k < (run_of steps s).accepted → break_behind lined ds s steps k ≡ None

abbrev pub IsCutOr : LinedObject → List Declaration → State → List Step → Option Cut → Type 0
IsCutOr lined ds s steps (Some cut) = IsCut lined ds s steps cut
IsCutOr lined ds s steps None = IsUncut lined ds s steps

-- Where a break halts steps that were ahead, and no stop halts them with it or before: they are made up to there and no further, it is told which break, and all behind are ahead still.
abbrev pub HaltsThere : LinedObject → Place → List Step → Type 0
HaltsThere lined p steps = (cut : Cut) → cut_of lined p.declared p.session.past.state steps ≡ Some cut → halt_of p.session (take cut.count steps) ≡ End
    → gone_at lined p steps ≡ answer (place (after p.session (take cut.count steps)) (steps_ahead (drop cut.count steps) []) p.declared) (end_line (Some cut))

-- where no line declares a break, a command of a script does and writes what it does there
abbrev pub MakesNoDifference : LinedObject → Place → Type 0
MakesNoDifference lined p = has_breaks p.declared ≡ false → (command : Command) → scripted_at lined p command ≡ followed_at lined p command
