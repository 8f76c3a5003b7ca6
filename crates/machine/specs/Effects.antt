-- The operations of a run and the order in which they take effect. The run is given by what its steps show; an
-- operation is named by the place in that list, from 0, of the step that executes it.
use Rattle.std.specs.Prelude.{◌≡◌, ◌≢◌, ℕ, ◌+◌, ◌<◌, ◌≤◌, Bool, true, false, Option, Some, None, List, [], ◌∷◌, ◌++◌, length, take, remove, slice_get, ◌==◌, if◌then◌else◌}
use Rattle.std.specs.Option.{option_and_then, option_map}
use Rattle.lines_layout.specs.Lines.{line_of}
use Rattle.order_table.specs.declared.Kind.{Kind}
use Rattle.order_table.specs.declared.Kind.TheVariants as kinds
use Rattle.order_table.specs.Operations.{Operation, is_kept_after}
use Rattle.store_buffer.specs.Buffers.{kind_of, line_named}
use Rattle.processor.specs.declared.act.Act.{Act}
use Rattle.processor.specs.declared.act.Act.TheVariants.{Local, Fence, Read, Delay, Locked, Trap}
use Rattle.machine.specs.declared.step.Seen.{Seen}
use Rattle.machine.specs.declared.step.Seen.TheVariants.{Ran, Left, Crashed}
use Rattle.machine.specs.declared.trace_law.Pair.{Pair}

-- the operation that an executed instruction is, its kind and the line that it names: none for one that neither touches
-- memory nor fences, and none for a trap
abbrev pub operation_shown : Act → Option Operation
operation_shown (Read word value) = Some (kinds.Read, Some (line_of word))
operation_shown (Delay entry) = Some (kind_of entry, line_named entry)
operation_shown (Locked word value written) = Some (kinds.Rmw, Some (line_of word))
operation_shown Fence = Some (kinds.Mfence, None)
operation_shown Local = None
operation_shown (Trap address) = None

-- its kind alone
abbrev pub kind_shown : Act → Option Kind
kind_shown act = option_map (λ operation. operation.0) (operation_shown act)

-- whether an operation takes effect where it is executed: all do but those that the store buffer delays
abbrev pub is_immediate : Act → Bool
is_immediate (Read word value) = true
is_immediate (Locked word value written) = true
is_immediate Fence = true
is_immediate (Delay entry) = false
is_immediate Local = false
is_immediate (Trap address) = false

-- Processor p's delayed operations in the order of its store buffer, after the n-th step: one that is delayed now comes
-- last, the one whose entry leaves takes effect, and a crash loses all.
abbrev pub delayed_next : ℕ → ℕ → List ℕ → Seen → List ℕ
delayed_next p n delayed (Ran q place (Delay entry)) = if q == p then delayed ++ n ∷ [] else delayed
delayed_next p n delayed (Left q i entry) = if q == p then remove delayed i else delayed
delayed_next p n delayed (Crashed count) = []
delayed_next p n delayed _ = delayed

-- the same after a run that begins with the n-th step
abbrev pub delayed_on : ℕ → ℕ → List ℕ → List Seen → List ℕ
delayed_on p n delayed [] = delayed
delayed_on p n delayed (seen ∷ run) = delayed_on p (n + 1) (delayed_next p n delayed seen) run

-- processor p's operations that are delayed after a run
abbrev pub delayed_in : ℕ → List Seen → List ℕ
delayed_in p run = delayed_on p 0 [] run

-- the operation that takes effect by a step after a run: one that is executed, or the one whose entry leaves
abbrev pub effect_by : List Seen → Seen → Option ℕ
effect_by run (Ran p place act) = if is_immediate act then Some (length run) else None
effect_by run (Left p i entry) = slice_get (delayed_in p run) i
effect_by run _ = None

-- the operation that takes effect by the n-th step of a run
abbrev pub effect_at : List Seen → ℕ → Option ℕ
effect_at run n = option_and_then (effect_by (take n run)) (slice_get run n)

-- the n-th step of a run executes this operation of processor p
abbrev pub IsExecuted : List Seen → ℕ → ℕ → Operation → Type 0
IsExecuted run p n operation = (place : ℕ) × (act : Act) × (slice_get run n ≡ Some (Ran p place act)) × (operation_shown act ≡ Some operation)

-- Two operations of one processor with no crash between, executed in this order, which the table keeps; yet the second
-- took effect by a step up to which the first had not.
pub record IsBroken (run : List Seen) (p first second at : ℕ) : Type 0 where
  pub earlier : Operation
  pub later : Operation
  pub executed : IsExecuted run p first earlier
  pub executed_later : IsExecuted run p second later
  pub in_order : first < second
  pub no_crash : (k count : ℕ) → first < k → k < second → slice_get run k ≢ Some (Crashed count)
  pub kept : is_kept_after later earlier ≡ true
  pub effect : effect_at run at ≡ Some second
  pub not_before : (k : ℕ) → k ≤ at → effect_at run k ≢ Some first

-- A pair is broken, by no later step than any other, and of those that its step breaks its first operation is the oldest.
pub record IsFirstBroken (run : List Seen) (pair : Pair) : Type 0 where
  pub broken : IsBroken run pair.cpu pair.first pair.second pair.at
  pub soonest : (p first second at : ℕ) → IsBroken run p first second at → pair.at ≤ at
  pub oldest : (p first second : ℕ) → IsBroken run p first second pair.at → pair.first ≤ first

-- the first broken pair of a run, none exactly when no pair is broken
abbrev pub IsAnswer : List Seen → Option Pair → Type 0
IsAnswer run None = (p first second at : ℕ) → IsBroken run p first second at → ⊥
IsAnswer run (Some pair) = IsFirstBroken run pair

-- two answers of a run are the same
abbrev pub HasOneAnswer : List Seen → Type 0
HasOneAnswer run = (found other : Option Pair) → IsAnswer run found → IsAnswer run other → found ≡ other
