-- Which fault a text has that is no script, in the words of its lines. `faults_are_the_first` ties it to the function that
-- reads.
use Rattle.std.specs.Prelude.{◌≡◌, ◌≢◌, ℕ, ◌+◌, ◌==◌, true, Ok, Err, List, [], ◌∷◌, ◌++◌, length}
use Rattle.std.specs.List.{list_any}
use Rattle.lines_layout.specs.Layouts.{NamedLines}
use Rattle.text_tokens.specs.Text.{lines_of}
use Rattle.conditions.specs.declared.fault.CondFault.{CondFault}
use Rattle.conditions.specs.Formulas.{Formula}
use Rattle.conditions.specs.Texts.{condition_of}
use Rattle.commands.specs.declared.script_fault.ScriptFault.{ScriptFault}
use Rattle.commands.specs.declared.script_fault.ScriptFault.TheVariants.{BadLine, Condition, DoubleId}
use Rattle.debug_scripts.specs.Rows.{Said, Stop, Watch, Ask}
use Rattle.debug_scripts.specs.Scripts.{Script, empty_script}
use Rattle.text_tokens.specs.Cursors.{Token}
use Rattle.debug_scripts.specs.Grammar.{AddAll, AreGiven, IsRow}

-- The fault of line n, where the lines above it say this script. A blank line and a command other than `values`, as `images` and
-- `continue`, have none, wherever they are.
pub data IsFaultOfLine (names : NamedLines) (n : ℕ) (above : Script) (line : List ℕ) : ScriptFault → Type 0 where
  -- it is no line of a script
  no_row : ((row : Said) → ¬ IsRow names line row) → IsFaultOfLine names n above line (BadLine n)
  -- it asks for the values of a word, and one of its tokens gives no word a value
  bad_given : (word : ℕ) (tokens : List Token) → IsRow names line (Ask word tokens) → ((given : List (ℕ × ℕ)) → ¬ AreGiven names tokens given)
      → IsFaultOfLine names n above line (BadLine n)
  -- it declares a stop or a watch after a command, whatever its condition and its id are
  late_stop : (id : ℕ) (text : List ℕ) → IsRow names line (Stop id text) → above.commands ≢ [] → IsFaultOfLine names n above line (BadLine n)
  late_watch : (id word : ℕ) → IsRow names line (Watch id word) → above.commands ≢ [] → IsFaultOfLine names n above line (BadLine n)
  -- it declares a stop before all commands, whose condition is none, whatever its id is
  bad_condition : (id : ℕ) (text : List ℕ) (fault : CondFault) → IsRow names line (Stop id text) → above.commands ≡ [] → condition_of names text ≡ Err fault
      → IsFaultOfLine names n above line (Condition fault)
  -- it declares a stop before all commands, its condition is one, and a stop above has its id
  double_stop : (id : ℕ) (text : List ℕ) (cond : Formula) → IsRow names line (Stop id text) → above.commands ≡ [] → condition_of names text ≡ Ok cond
      → list_any (λ t. t.id == id) above.stops ≡ true → IsFaultOfLine names n above line DoubleId
  -- it declares a watch before all commands, and a watch above has its id
  double_watch : (id word : ℕ) → IsRow names line (Watch id word) → above.commands ≡ [] → list_any (λ w. w.id == id) above.watches ≡ true
      → IsFaultOfLine names n above line DoubleId

-- The fault of a text is that of its first line at fault: the lines above that line say a script. Lines are counted from 1,
-- and what is below is not looked at.
pub record IsFault (names : NamedLines) (text : List ℕ) (fault : ScriptFault) : Type 0 where
  pub above : List (List ℕ)
  pub line : List ℕ
  pub below : List (List ℕ)
  pub parts : lines_of text ≡ above ++ line ∷ below
  pub script : Script
  pub says : AddAll names empty_script above script
  pub at_fault : IsFaultOfLine names (length above + 1) script line fault
