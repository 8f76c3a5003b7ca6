-- Masks of places: bit i of a mask stands for place i.
use Rattle.std.specs.Prelude.{◌≡◌, ℕ, ◌<◌, Bool, Option, Some, List, map, slice_index, position, ◌==◌, if◌then◌else◌, length, suc, ◌+◌, ◌*◌, ◌/◌, ◌%◌, ◌^◌}
use Rattle.std.proofs.Common.{get_or}
use Rattle.std.specs.Int.{bit_at}
use Rattle.std.specs.List.{position_or_len, range_with_len}
use Rattle.std.specs.Simd.Lanes.{mask_l}
use Rattle.order_table.specs.declared.Kind.{Kind}
use Rattle.order_table.specs.declared.Kind.TheVariants.{Read, Write, Rmw, Mfence, Sfence, FlushOpt, Flush}
use Rattle.order_table.specs.declared.masks.TheConstants.{LINES}
use Rattle.order_table.specs.Operations.{Operation, IsLine, is_one_line, is_kept_after}

-- the number of a kind among the kinds
abbrev pub number_of : Kind → ℕ
number_of Read = 0
number_of Write = 1
number_of Rmw = 2
number_of Mfence = 3
number_of Sfence = 4
number_of FlushOpt = 5
number_of Flush = 6

-- the kind of a number
abbrev pub kind_numbered : ℕ → Kind
kind_numbered n = if n == 0 then Read else if n == 1 then Write else if n == 2 then Rmw else if n == 3 then Mfence else if n == 4 then Sfence else if n == 5 then FlushOpt else Flush

-- whether an operation is of a kind
abbrev pub is_of : Kind → Operation → Bool
is_of kind operation = number_of operation.0 == number_of kind

-- whether an operation names a line
abbrev pub is_on : ℕ → Operation → Bool
is_on line operation = is_one_line operation.1 (Some line)

-- the mask of the places whose operation passes a test
abbrev pub places_of : (Operation → Bool) → List Operation → ℕ
places_of test operations = mask_l (map test operations)

-- whether a mask has a place
abbrev pub has_place : ℕ → ℕ → Bool
has_place place mask = bit_at mask place == 1

-- the operation at a place: its kind is the one whose mask has the place, and so is its line; no line where none has
abbrev pub operation_at : List ℕ → List ℕ → ℕ → Operation
operation_at kinds lines place = (kind_numbered (position_or_len (has_place place) kinds), position (has_place place) lines)

-- the operations that the masks of the kinds and of the lines stand for
abbrev pub operations_in : List ℕ → List ℕ → ℕ → List Operation
operations_in kinds lines len = map (operation_at kinds lines) (range_with_len 0 len)

-- each kind's mask has the places of its operations
abbrev pub AreOfKinds : List Operation → List ℕ → Type 0
AreOfKinds operations kinds = (kind : Kind) → slice_index kinds (number_of kind) ≡ places_of (is_of kind) operations

-- each line's mask has the places of the operations that name it
abbrev pub AreOfLines : List Operation → List ℕ → Type 0
AreOfLines operations lines = (line : ℕ) → line < LINES → slice_index lines line ≡ places_of (is_on line) operations

-- The masks of the kinds and of the lines are those of a list of operations, whose lines are all there.
pub record AreMasks (operations : List Operation) (kinds lines : List ℕ) : Type 0 where
  pub of_kinds : AreOfKinds operations kinds
  pub of_lines : AreOfLines operations lines
  pub named : (place : ℕ) (d : Operation) → place < length operations → IsLine (get_or operations place d).1

-- a line whose bit is not set among the lines in use has no place
abbrev pub AreInUse : ℕ → List ℕ → Type 0
AreInUse in_use lines = (line : ℕ) → line < LINES → bit_at in_use line ≡ 0 → slice_index lines line ≡ 0

-- a mask without a place: the places after it move down by one
abbrev pub without_place : ℕ → ℕ → ℕ
without_place place mask = mask / 2 ^ suc place * 2 ^ place + mask % 2 ^ place

-- A mask has the places of the operations that name this line, whatever list the masks of the lines stand for.
abbrev pub HasLine : ℕ → List ℕ → Option ℕ → Type 0
HasLine mask lines line = (operations : List Operation) → AreOfLines operations lines → mask ≡ places_of (λ operation. is_one_line operation.1 line) operations

-- A mask has the places of the operations after which one of this kind must take effect, whatever
-- list the masks of the kinds stand for, where `on_line` has the places on its line.
abbrev pub HasKept : ℕ → List ℕ → ℕ → Kind → Type 0
HasKept mask kinds on_line kind = (operations : List Operation) (line : Option ℕ) → AreOfKinds operations kinds
    → on_line ≡ places_of (λ operation. is_one_line operation.1 line) operations
    → mask ≡ places_of (is_kept_after (kind, line)) operations
