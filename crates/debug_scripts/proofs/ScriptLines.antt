-- One more line of a script.
use Rattle.std.proofs.Common.{◌≡◌, ℕ, ◌+◌, Option, Some, None, Ok, Err, List, [], ◌∷◌, refl}
use Rattle.std.specs.Prelude.{IfSome}
use Rattle.lines_layout.specs.Layouts.{NamedLines}
use Rattle.commands.specs.declared.script_fault.ScriptFault.{ScriptFault}
use Rattle.commands.specs.declared.script_fault.ScriptFault.TheVariants.{BadLine}
use Rattle.debug_scripts.specs.declared.fault.ScriptError.{ScriptError}
use Rattle.debug_scripts.specs.declared.row.BadRow.{BadRow}
use Rattle.debug_scripts.specs.Rows.{Said, row_of}
use Rattle.debug_scripts.specs.Scripts.{Script, script_after, script_fault_in, script_from}

module _ (names : NamedLines) (n : ℕ) (s : Script) (lines : List (List ℕ)) where
  pub at_end : lines ≡ [] → script_from names n s lines ≡ Ok s
  unfolding script_from
  at_end e = rw e refl

  pub at_bad : (line : List ℕ) (others : List (List ℕ)) (bad : BadRow) → lines ≡ line ∷ others → row_of names line ≡ Err bad → script_from names n s lines ≡ Err (BadLine n)
  unfolding script_from
  at_bad line others bad e read = rw (e, read) refl

  pub at_fault : (line : List ℕ) (others : List (List ℕ)) (row : Said) (fault : ScriptFault) → lines ≡ line ∷ others → row_of names line ≡ Ok row → script_after names n s row ≡ Err fault → script_from names n s lines ≡ Err fault
  unfolding script_from
  at_fault line others row fault e read refused = rw (e, read, refused) refl

  pub at_error : (line : List ℕ) (others : List (List ℕ)) (row : Said) (error : ScriptError) → lines ≡ line ∷ others → row_of names line ≡ Ok row
      → IfSome (script_fault_in error) (λ fault. script_after names n s row ≡ Err fault) → IfSome (script_fault_in error) (λ fault. script_from names n s lines ≡ Err fault)
  at_error line others row error e read refused = by_fault (script_fault_in error) refused
    where
      by_fault : (o : Option ScriptFault) → IfSome o (λ fault. script_after names n s row ≡ Err fault) → IfSome o (λ fault. script_from names n s lines ≡ Err fault)
      by_fault None h = h
      by_fault (Some fault) h = at_fault line others row fault e read h

  pub at_row : (line : List ℕ) (others : List (List ℕ)) (row : Said) (next : Script) → lines ≡ line ∷ others → row_of names line ≡ Ok row → script_after names n s row ≡ Ok next → script_from names (n + 1) next others ≡ script_from names n s lines
  unfolding script_from
  at_row line others row next e read made = rw (e, read, made) refl

pub ruleset line_steps = (at_end, at_bad, at_fault, at_row)
