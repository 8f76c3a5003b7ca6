-- Scripts of the debugger.
use Rattle.std.specs.Prelude.{◌≡◌, ◌≢◌, ℕ, ◌+◌, not, ◌==◌, Option, Some, None, Result, Ok, Err, List, [], ◌∷◌, ◌++◌, length, map}
use Rattle.std.specs.List.{AllPairs, list_any}
use Rattle.outcomes.specs.Outcomes.{◌>>=◌, refuse, refused_as}
use Rattle.text_tokens.specs.Text.{lines_of}
use Rattle.lines_layout.specs.Layouts.{NamedLines}
use Rattle.conditions.specs.Texts.{condition_of}
use Rattle.debug_scripts.specs.declared.orders.Command.{Command}
use Rattle.debug_scripts.specs.declared.orders.Command.TheVariants.{Values}
use Rattle.debug_scripts.specs.declared.orders.StopOrder.{StopOrder}
use Rattle.debug_scripts.specs.declared.orders.WatchOrder.{WatchOrder}
use Rattle.commands.specs.declared.script_fault.ScriptFault.{ScriptFault}
use Rattle.commands.specs.declared.script_fault.ScriptFault.TheVariants.{BadLine, Condition, DoubleId}
use Rattle.commands.specs.declared.fault.Fault.{Fault}
use Rattle.commands.specs.declared.fault.Fault.TheVariants as faults
use Rattle.commands.specs.declared.fault.Refused.TheVariants as refusals
use Rattle.commands.specs.declared.fault.Stage.TheVariants as stages
use Rattle.commands.specs.Faults.{missing}
use Rattle.commands.specs.Works.{Work}
use Rattle.debug_scripts.specs.declared.fault.ScriptError.{ScriptError}
use Rattle.debug_scripts.specs.declared.fault.ScriptError.TheVariants as errors
use Rattle.text_tokens.specs.Cursors.{Token}
use Rattle.debug_scripts.specs.Asked.{asked}
use Rattle.debug_scripts.specs.Rows.{Said, Blank, Stop, Watch, Ask, Do, given_from, row_of}

-- a script: its stops, its watches and its commands, each in the order of the text
pub record Script : Type 0 where
  pub stops : List StopOrder
  pub watches : List WatchOrder
  pub commands : List Command

-- without a line
abbrev pub empty_script : Script
empty_script = record { stops = []; watches = []; commands = [] }

-- no two stops have one id, nor have two watches
pub record HasOwnIds (s : Script) : Type 0 where
  pub stops : AllPairs ◌≢◌ (map (λ t. t.id) s.stops)
  pub watches : AllPairs ◌≢◌ (map (λ w. w.id) s.watches)

-- line n declares a stop: no command is above it, its condition is one, and its id is new among the stops
unfoldable pub stop_after : NamedLines → ℕ → Script → ℕ → List ℕ → Result Script ScriptFault
stop_after names n s id text = do
  early ← refuse (BadLine n) (not (length s.commands == 0))
  cond ← refused_as Condition (condition_of names text)
  free ← refuse DoubleId (list_any (λ t. t.id == id) s.stops)
  Ok (record s { stops = s.stops ++ (record { id = id; cond = cond }) ∷ [] })

-- line n declares a watch: no command is above it, and its id is new among the watches
unfoldable pub watch_after : ℕ → Script → ℕ → ℕ → Result Script ScriptFault
watch_after n s id word = do
  early ← refuse (BadLine n) (not (length s.commands == 0))
  free ← refuse DoubleId (list_any (λ w. w.id == id) s.watches)
  Ok (record s { watches = s.watches ++ (record { id = id; word = word }) ∷ [] })

-- line n asks for the values of a word: each of these tokens gives a word its value
unfoldable pub values_after : NamedLines → ℕ → Script → ℕ → List Token → Result Script ScriptFault
values_after names n s word tokens = do
  given ← refused_as (λ bad. BadLine n) (given_from names [] tokens)
  Ok (record s { commands = s.commands ++ Values (asked word given) ∷ [] })

-- the script with what line n says
abbrev pub script_after : NamedLines → ℕ → Script → Said → Result Script ScriptFault
script_after names n s Blank = Ok s
script_after names n s (Stop id text) = stop_after names n s id text
script_after names n s (Watch id word) = watch_after n s id word
script_after names n s (Ask word tokens) = values_after names n s word tokens
script_after names n s (Do command) = Ok (record s { commands = s.commands ++ command ∷ [] })

-- the script with lines of which the first has the number n
unfoldable pub script_from : NamedLines → ℕ → Script → List (List ℕ) → Result Script ScriptFault
script_from names n s [] = Ok s
script_from names n s (line ∷ lines) = do
  row ← refused_as (λ bad. BadLine n) (row_of names line)
  next ← script_after names n s row
  script_from names (n + 1) next lines

-- the script that a text says, or its fault; lines are counted from 1
abbrev pub script_of : NamedLines → List ℕ → Result Script ScriptFault
script_of names text = script_from names 1 empty_script (lines_of text)

-- the fault of the text that an error stands for, None where memory ran out
abbrev pub script_fault_in : ScriptError → Option ScriptFault
script_fault_in (errors.Fault fault) = Some fault
script_fault_in errors.ConditionMemory = None
script_fault_in errors.NoMemory = None

-- why there is no script
abbrev pub script_fault : ScriptError → Fault
script_fault (errors.Fault fault) = faults.Refused (refusals.Script fault)
script_fault errors.ConditionMemory = missing stages.Conditions
script_fault errors.NoMemory = missing stages.Steps

-- reading a script; memory may run out for it, or for a condition of it
abbrev pub script_work : NamedLines → List ℕ → Work Script
script_work names text = record {
  told = refused_as (λ fault. refusals.Script fault) (script_of names text);
  reached = stages.Steps ∷ stages.Conditions ∷ [];
}

-- a text is read as this script
abbrev pub IsReadAs : NamedLines → List ℕ → Script → Type 0
IsReadAs names text script = script_of names text ≡ Ok script

-- a text is refused with this fault
abbrev pub IsRefusedAs : NamedLines → List ℕ → ScriptFault → Type 0
IsRefusedAs names text fault = script_of names text ≡ Err fault

-- one relation of a text holds wherever another does
abbrev pub Whenever : {A : Type 0} → (NamedLines → List ℕ → A → Type 0) → (NamedLines → List ℕ → A → Type 0) → Type 0
Whenever {A} Holds Follows = (names : NamedLines) (text : List ℕ) (said : A) → Holds names text said → Follows names text said
