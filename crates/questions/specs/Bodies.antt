-- Reading the condition or the value of an item, token by token.
use Rattle.std.specs.Prelude.{ℕ, ◌+◌, Bool, true, false, ◌&&◌, is_none, is_some, nat_lt, nat_le, if◌then◌else◌, Option, Some, None, Result, Ok, Err, List, [], ◌∷◌, length, bytes_eq, codes}
use Rattle.outcomes.specs.Outcomes.{◌>>=◌, refuse, refused_as, required}
use Rattle.text_tokens.specs.Cursors.{Token}
use Rattle.lines_layout.specs.Layouts.{NamedLines, word_of}
use Rattle.isa.specs.Registers.{register_named}
use Rattle.litmus_text.specs.declared.fault.LineFault.{LineFault}
use Rattle.litmus_text.specs.declared.fault.LineFault.TheVariants.{BadWord, UnknownName, BadCond, TooLong}
use Rattle.sheets.specs.Abbreviations.{Names, number_said}
use Rattle.conditions.specs.declared.cond.Comparison.{Comparison}
use Rattle.conditions.specs.declared.cond.Operand.{Operand}
use Rattle.conditions.specs.declared.cond.Operand.TheVariants as operands
use Rattle.conditions.specs.Atoms.{comparison_of, processor_of}
use Rattle.conditions.specs.Terms.{Term, Number, Read, PersistedAt, CoherentAt}
use Rattle.conditions.specs.Formulas.{Formula}
use Rattle.questions.specs.declared.body.Stage.{Stage}
use Rattle.questions.specs.declared.body.Stage.TheVariants.{Factor, Part, Persisted, Coherent, Processor, Register, Behind, Joint}
use Rattle.questions.specs.declared.level.Level.{Level}
use Rattle.questions.specs.declared.test.Test.{Test}
use Rattle.questions.specs.declared.test.Pointer.{Pointer}
use Rattle.questions.specs.declared.sum.Sum.{Sum}
use Rattle.questions.specs.declared.scope.Meaning.{Meaning}
use Rattle.questions.specs.declared.scope.Meaning.TheVariants.{Condition, Value}
use Rattle.questions.specs.Limits.{max_depth, max_size}
use Rattle.questions.specs.Tokens.{is_identifier, is_sign}
use Rattle.questions.specs.Sums.{alone, joined_terms, no_sum, signed, summed, sums_compared}
use Rattle.questions.specs.Levels.{empty_level, implied, is_untouched, level_said, opened, side_said, with_factor}
use Rattle.questions.specs.Scopes.{Scope, entry_named}

-- no token of a test is read
abbrev pub no_test : Test
no_test = record { left = None; side = no_sum; takes = false }

-- What was read: what may come next, the level of round brackets that goes on and those around it, the test that goes on, its open
-- square brackets, and how many numbers, words, registers, `not`s and square brackets there are. The nearest brackets are first.
pub record Body : Type 0 where
  pub stage : Stage
  pub level : Level
  pub outer : List Level
  pub test : Test
  pub pointers : List Pointer
  pub size : ℕ

-- before the first token
abbrev pub at_start : Body
at_start = record { stage = Factor; level = empty_level 0; outer = []; test = no_test; pointers = []; size = 0 }

-- the same with another stage
abbrev pub at : Stage → Body → Body
at stage b = record b { stage = stage }

-- one more bracket or `not`, unless too many are open
abbrev pub is_deep : Body → Bool
is_deep b = nat_le max_depth (opened b.level + length b.pointers)

abbrev pub deeper : Body → Body → Result Body LineFault
deeper b next = do
  room ← refuse BadCond (is_deep b)
  Ok next

-- it gets so much larger
abbrev pub counted : ℕ → Body → Result Body LineFault
counted more b = do
  few ← refuse TooLong (nat_lt max_size (b.size + more))
  Ok (record b { size = b.size + more })

-- ---- parts of values

-- a part is added to the side that goes on, or taken away from it
abbrev pub side_with : Sum → Test → Result Test LineFault
side_with part test = do
  side ← summed test.side (signed test.takes part)
  Ok (record test { side = side })

-- a part is added to an address
abbrev pub address_with : Sum → Pointer → Result Pointer LineFault
address_with part pointer = do
  sum ← joined_terms pointer.sum part.plus
  Ok (record pointer { sum = sum })

-- a part ends
abbrev pub part_in : List Pointer → Sum → Body → Result Body LineFault
part_in [] part b = do
  test ← side_with part b.test
  Ok (record b { stage = Behind; test = test })
part_in (pointer ∷ pointers) part b = do
  wider ← address_with part pointer
  Ok (record b { stage = Behind; pointers = wider ∷ pointers })

abbrev pub part_ended : Sum → Body → Result Body LineFault
part_ended part b = part_in b.pointers part b

-- a number, a word or a register
unfoldable pub leaf_after : Term → Body → Result Body LineFault
leaf_after term b = do
  few ← counted 1 b
  part_ended (alone term) few

-- a factor ends
abbrev pub factor_ended : Formula → Body → Body
factor_ended f b = record b { stage = Joint; level = with_factor b.level f }

-- the name of a condition is a factor, but no part
abbrev pub condition_named : Stage → Formula → ℕ → Body → Result Body LineFault
condition_named Factor f size b = do
  few ← counted size b
  Ok (factor_ended f few)
condition_named _ f size b = Err BadCond

-- between square brackets nothing may be taken away
abbrev pub takes_inside : List Pointer → Sum → Bool
takes_inside [] sum = false
takes_inside (pointer ∷ pointers) sum = is_some sum.minus

-- the name of a value is a part
abbrev pub meaning_after : Meaning → ℕ → Body → Result Body LineFault
meaning_after (Condition f) size b = condition_named b.stage f size b
meaning_after (Value sum) size b = do
  adds ← refuse BadCond (takes_inside b.pointers sum)
  few ← counted size b
  part_ended sum few

unfoldable pub name_after : Scope → Body → Token → Result Body LineFault
name_after scope b token = do
  entry ← required UnknownName (entry_named scope.entries token)
  meaning_after entry.meaning entry.size b

-- what is wrong with a token that is no number: it may not be there
abbrev pub no_number : LineFault → LineFault
no_number BadWord = BadCond
no_number kind = kind

unfoldable pub number_in : Names → Token → Result ℕ LineFault
number_in names token = do
  no_sign ← refuse BadCond (is_sign token)
  refused_as no_number (number_said names token)

-- a part, or the first token of one
unfoldable pub part_after : Scope → Body → Token → Result Body LineFault
part_after scope b token =
    if bytes_eq token (codes "persisted") then Ok (at Persisted b)
    else if bytes_eq token (codes "coherent") then Ok (at Coherent b)
    else if bytes_eq token (codes "reg") then Ok (at Processor b)
    else if is_identifier token then name_after scope b token
    else (number_in scope.names token >>= λ n. leaf_after (Number n) b)

-- not
unfoldable pub not_after : Body → Result Body LineFault
not_after b = do
  inner ← deeper b (record b { level = record b.level { nots = b.level.nots + 1 } })
  counted 1 inner

-- not, ( or the first token of a part
unfoldable pub factor_after : Scope → Body → Token → Result Body LineFault
factor_after scope b token =
    if bytes_eq token (codes "not") then not_after b
    else if bytes_eq token (codes "(") then deeper b (record b { level = empty_level (opened b.level + 1); outer = b.level ∷ b.outer })
    else part_after scope b token

-- ---- words and registers

-- NAME of a word
unfoldable pub word_named : NamedLines → Token → Result ℕ LineFault
word_named layout token = required (if is_identifier token then UnknownName else BadCond) (word_of layout token)

abbrev pub word_operand : Bool → ℕ → Operand
word_operand coherent word = if coherent then operands.Coherent word else operands.Persisted word

-- [
unfoldable pub pointer_opened : Bool → Body → Result Body LineFault
pointer_opened coherent b = do
  inner ← deeper b (record b { stage = Part; pointers = record { coherent = coherent; sum = None } ∷ b.pointers })
  counted 1 inner

-- [ or NAME, behind `coherent` or `persisted`
unfoldable pub word_after : Bool → Scope → Body → Token → Result Body LineFault
word_after coherent scope b token =
    if bytes_eq token (codes "[") then pointer_opened coherent b
    else (word_named scope.names.layout token >>= λ word. leaf_after (Read (word_operand coherent word)) b)

-- P, a processor of the program
unfoldable pub processor_in : ℕ → Token → Result ℕ LineFault
processor_in processors token = do
  p ← required BadCond (processor_of token)
  there ← refuse UnknownName (nat_le processors p)
  Ok p

-- ---- behind a part

-- the word whose address the value is
abbrev pub pointed : Bool → Term → Term
pointed coherent address = if coherent then CoherentAt address else PersistedAt address

-- ]
abbrev pub pointer_closed : List Pointer → Body → Result Body LineFault
pointer_closed [] b = Err BadCond
pointer_closed (pointer ∷ pointers) b = do
  address ← required BadCond pointer.sum
  part_ended (alone (pointed pointer.coherent address)) (record b { pointers = pointers })

-- what brackets say ends a factor of the level around them
abbrev pub closed : List Level → Body → Result Body LineFault
closed [] b = Err BadCond
closed (around ∷ outer) b = do
  f ← required BadCond (level_said b.level)
  Ok (factor_ended f (record b { level = around; outer = outer }))

-- the left side ends; there is one `->` on a level
abbrev pub left_ended : Level → Result Level LineFault
left_ended level = do
  first ← refuse BadCond (is_some level.left)
  Ok (record level { left = side_said level; terms = None; factors = None })

-- and, or, ->, )
unfoldable pub joint_after : Body → Token → Result Body LineFault
joint_after b token =
    if bytes_eq token (codes "and") then Ok (at Factor b)
    else if bytes_eq token (codes "or") then Ok (record b { stage = Factor; level = record b.level { terms = side_said b.level; factors = None } })
    else if bytes_eq token (codes "->") then (left_ended b.level >>= λ level. Ok (record b { stage = Factor; level = level }))
    else if bytes_eq token (codes ")") then closed b.outer b
    else Err BadCond

-- a test ends whose left side and comparison are these
abbrev pub test_ended : Sum × Comparison → Body → Result Body LineFault
test_ended left b = do
  f ← sums_compared left.0 left.1 b.test.side
  Ok (factor_ended f (record b { test = no_test }))

-- behind a side of a test: its comparison, or what comes behind the test
abbrev pub side_ended : Option (Sum × Comparison) → Body → Token → Result Body LineFault
side_ended None b token = do
  comparison ← required BadCond (comparison_of token)
  Ok (record b { stage = Part; test = record { left = Some (b.test.side, comparison); side = no_sum; takes = false } })
side_ended (Some left) b token = do
  ended ← test_ended left b
  joint_after ended token

-- the next part is added, or taken away
abbrev pub with_sign : Bool → Body → Body
with_sign takes b = record b { stage = Part; test = record b.test { takes = takes } }

-- between square brackets: + or ]
unfoldable pub address_after : Body → Token → Result Body LineFault
address_after b token =
    if bytes_eq token (codes "+") then Ok (at Part b)
    else if bytes_eq token (codes "]") then pointer_closed b.pointers b
    else Err BadCond

-- outside of them: + or -, or the side ends
unfoldable pub side_after : Body → Token → Result Body LineFault
side_after b token =
    if bytes_eq token (codes "+") then Ok (with_sign false b)
    else if bytes_eq token (codes "-") then Ok (with_sign true b)
    else side_ended b.test.left b token

abbrev pub behind_after : List Pointer → Body → Token → Result Body LineFault
behind_after [] b token = side_after b token
behind_after (pointer ∷ pointers) b token = address_after b token

-- ---- the next token, and the end

-- what was read with one more token, where this may come next
unfoldable pub stage_after : Stage → Scope → Body → Token → Result Body LineFault
stage_after Factor scope b token = factor_after scope b token
stage_after Part scope b token = part_after scope b token
stage_after Persisted scope b token = word_after false scope b token
stage_after Coherent scope b token = word_after true scope b token
stage_after Processor scope b token = do
  p ← processor_in scope.processors token
  Ok (at (Register p) b)
stage_after (Register p) scope b token = do
  register ← required BadCond (register_named token)
  leaf_after (Read (operands.Register p register)) b
stage_after Behind scope b token = behind_after b.pointers b token
stage_after Joint scope b token = joint_after b token

abbrev pub body_after : Scope → Body → Token → Result Body LineFault
body_after scope b token = stage_after b.stage scope b token

-- at the end the test ends whose right side was read
abbrev pub last_test_ended : Stage → List Pointer → Option (Sum × Comparison) → Body → Result Body LineFault
last_test_ended Behind [] (Some left) b = test_ended left b
last_test_ended _ pointers left b = Ok b

unfoldable pub body_ended : Body → Result Body LineFault
body_ended b = last_test_ended b.stage b.pointers b.test.left b

-- the level of the condition, where a factor has ended and no bracket is open
abbrev pub whole : Stage → List Level → Level → Option Level
whole Joint [] level = Some level
whole _ outer level = None

-- what is left of the `->` outside of brackets, if there is one, and the whole condition
unfoldable pub condition_at_end : Body → Result (Option Formula × Formula) LineFault
condition_at_end b = do
  ended ← body_ended b
  level ← required BadCond (whole ended.stage ended.outer ended.level)
  side ← required BadCond (side_said level)
  Ok (level.left, implied level.left side)

-- whether a value alone was read: no token of a condition, and no bracket is open
abbrev pub is_value_at : Stage → List Pointer → List Level → Body → Bool
is_value_at Behind [] [] b = is_none b.test.left && is_untouched b.level
is_value_at _ pointers outer b = false

abbrev pub is_value : Body → Bool
is_value b = is_value_at b.stage b.pointers b.outer b

-- what a name stands for that is given to this: a value, or a condition
unfoldable pub meaning_at_end : Body → Result Meaning LineFault
meaning_at_end b =
    if is_value b then Ok (Value b.test.side)
    else (condition_at_end b >>= λ said. Ok (Condition said.1))
