-- Which lengths of a history have a checkpoint, and how many steps going back replays.
use Rattle.std.specs.Prelude.{ℕ, zero, suc, ◌+◌, ◌-◌, ◌%◌, ◌==◌, ◌&&◌, Bool, not, cond, List, [], ◌∷◌, ◌++◌, length, nat_lt, nat_le, unwrap_or}
use Rattle.std.specs.List.{filter, list_any}
use Rattle.circular_buffer.specs.Buffer.{keep_last, last_item}
use Rattle.machine.specs.declared.step.Step.{Step}
use Rattle.debugger.specs.declared.halt.Halt.{Halt}
use Rattle.debugger.specs.declared.halt.Halt.TheVariants.{Stop, Refused, NoMemory, End}

-- every so many steps a checkpoint is made
abbrev pub mark_distance : ℕ
mark_distance = 64

-- how many checkpoints are kept
abbrev pub mark_room : ℕ
mark_room = 32

-- whether a length has a checkpoint
abbrev pub is_marked : List ℕ → ℕ → Bool
is_marked marks n = list_any (λ m. m == n) marks

-- whether a step at a length of the history is preceded by a checkpoint
abbrev pub is_due : List ℕ → ℕ → Bool
is_due marks n = nat_lt 0 n && (n % mark_distance == 0) && not (is_marked marks n)

-- the lengths with a checkpoint before a step at a length
abbrev pub marked : List ℕ → ℕ → List ℕ
marked marks n = cond (is_due marks n) (keep_last mark_room (marks ++ n ∷ [])) marks

-- the lengths with a checkpoint after k steps from a length on
abbrev pub marks_after : List ℕ → ℕ → ℕ → List ℕ
marks_after marks n zero = marks
marks_after marks n (suc k) = marked (marks_after marks n k) (n + k)

-- the lengths with a checkpoint that are not beyond an aim
abbrev pub marks_kept : List ℕ → ℕ → List ℕ
marks_kept marks aim = filter (λ m. nat_le m aim) marks

-- how many steps going back to a length replays: those after the last checkpoint that is not beyond it, or all
abbrev pub replayed_of : List ℕ → ℕ → ℕ
replayed_of marks aim = aim - unwrap_or (last_item (marks_kept marks aim)) 0

-- how many steps of the list were tried: those that were made, and the one that was refused
abbrev pub tried : List Step → Halt → ℕ
tried steps (Stop id n) = n
tried steps (Refused n refusal) = n + 1
tried steps (NoMemory n) = n
tried steps End = length steps
