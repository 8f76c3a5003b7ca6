-- The fault that is told of a text is that of the first line that has one.
use Rattle.std.proofs.Common.{◌≡◌, ◌≢◌, ℕ, ◌+◌, ◌==◌, true, not, Result, Ok, Err, List, [], ◌∷◌, ◌++◌, length, refl, ◌∙◌, ap, subst, arith}
use Rattle.std.proofs.lemmas.Bool.Decides.{nat_tests}
use Rattle.lines_layout.specs.Layouts.{NamedLines}
use Rattle.text_tokens.specs.Cursors.{Token}
use Rattle.text_tokens.specs.Text.{lines_of}
use Rattle.outcomes.specs.Outcomes.{refused_as}
use Rattle.commands.specs.declared.script_fault.ScriptFault.{ScriptFault}
use Rattle.commands.specs.declared.script_fault.ScriptFault.TheVariants.{BadLine}
use Rattle.debug_scripts.specs.declared.orders.Command.{Command}
use Rattle.debug_scripts.specs.declared.row.BadRow.{BadRow}
use Rattle.debug_scripts.specs.Rows.{Said, Stop, Watch, Ask, given_from, row_of}
use Rattle.debug_scripts.specs.Scripts.{Script, empty_script, stop_after, values_after, watch_after, script_from, script_of}
use Rattle.debug_scripts.specs.Grammar.{AddAll, AreGiven}
use Rattle.debug_scripts.specs.ScriptFaults.{IsFault, IsFaultOfLine}
use Rattle.debug_scripts.specs.ScriptFaults.IsFaultOfLine.{no_row, bad_given, late_stop, late_watch, bad_condition, double_stop, double_watch}
use Rattle.debug_scripts.proofs.GivenForms.{only_are_given}
use Rattle.debug_scripts.proofs.RowForms.{row_is_read, only_rows}
use Rattle.debug_scripts.proofs.LinesAreTold.{FaultFrom, ToldOf, at_fault, lines_told}
use Rattle.debug_scripts.proofs.ScriptsAreRead.{none_stand, row_adds}

some_stand : (commands : List Command) → commands ≢ [] → not (length commands == 0) ≡ true
some_stand [] some = absurd (some refl)
some_stand (c ∷ commands) some = grind (arith, nat_tests)

nothing_read : (n : ℕ) (r : Result Said BadRow) → ((row : Said) → r ≡ Ok row → ⊥) → refused_as (λ bad. BadLine n) r ≡ Err (BadLine n)
nothing_read n (Ok row) none = absurd (none row refl)
nothing_read n (Err bad) none = refl

none_given : (n : ℕ) (names : NamedLines) (tokens : List Token) (r : Result (List (ℕ × ℕ)) BadRow) → given_from names [] tokens ≡ r → ((given : List (ℕ × ℕ)) → AreGiven names tokens given → ⊥)
    → refused_as (λ bad. BadLine n) r ≡ Err (BadLine n)
none_given n names tokens (Ok given) e none = let all = only_are_given names [] tokens given e in absurd (none all.0 all.1)
none_given n names tokens (Err bad) e none = refl

-- a line at fault is refused
line_is_refused : (names : NamedLines) (n : ℕ) (s : Script) (line : List ℕ) (lines : List (List ℕ)) (fault : ScriptFault) → IsFaultOfLine names n s line fault
    → script_from names n s (line ∷ lines) ≡ Err fault
unfolding script_from stop_after values_after watch_after
line_is_refused names n s line lines fault (no_row none) = rw (nothing_read n (row_of names line) (λ row e. none row (only_rows names line row e))) refl
line_is_refused names n s line lines fault (bad_given word tokens is none) = rw (row_is_read names line (Ask word tokens) is, none_given n names tokens (given_from names [] tokens) refl none) refl
line_is_refused names n s line lines fault (late_stop id text is late) = rw (row_is_read names line (Stop id text) is, some_stand s.commands late) refl
line_is_refused names n s line lines fault (late_watch id word is late) = rw (row_is_read names line (Watch id word) is, some_stand s.commands late) refl
line_is_refused names n s line lines fault (bad_condition id text e is none bad) = rw (row_is_read names line (Stop id text) is, none_stand s.commands none, bad) refl
line_is_refused names n s line lines fault (double_stop id text cond is none good taken) = rw (row_is_read names line (Stop id text) is, none_stand s.commands none, good, taken) refl
line_is_refused names n s line lines fault (double_watch id word is none taken) = rw (row_is_read names line (Watch id word) is, none_stand s.commands none, taken) refl

-- behind lines that add to a script
first_is_refused : (names : NamedLines) (n : ℕ) (s t : Script) (above : List (List ℕ)) (line : List ℕ) (below : List (List ℕ)) (fault : ScriptFault) → AddAll names s above t
    → IsFaultOfLine names (length above + n) t line fault → script_from names n s (above ++ line ∷ below) ≡ Err fault
unfolding script_from
first_is_refused names n s t [] line below fault is bad =
    line_is_refused names n s line below fault (subst (λ (k : ℕ). IsFaultOfLine names k s line fault) (omega arith) (subst (λ (u : Script). IsFaultOfLine names (length {A = List ℕ} [] + n) u line fault) is bad))
first_is_refused names n s t (l ∷ above) line below fault (row, u, is, adds, all) bad =
    rw (row_is_read names l row is, row_adds names n s u row adds)
    (first_is_refused names (n + 1) u t above line below fault all (subst (λ (k : ℕ). IsFaultOfLine names k t line fault) (omega arith) bad))

pub fault_is_told : (names : NamedLines) (text : List ℕ) (fault : ScriptFault) → IsFault names text fault → script_of names text ≡ Err fault
fault_is_told names text fault is = ap (script_from names 1 empty_script) is.parts ∙ first_is_refused names 1 empty_script is.script is.above is.line is.below fault is.says is.at_fault

only_from : (names : NamedLines) (n : ℕ) (s : Script) (lines : List (List ℕ)) (fault : ScriptFault) → ToldOf names n s lines (Err fault) → FaultFrom names n s lines fault
only_from names n s lines fault (at_fault e bad) = bad

pub only_faults : (names : NamedLines) (text : List ℕ) (fault : ScriptFault) → script_of names text ≡ Err fault → IsFault names text fault
only_faults names text fault e =
    let bad = only_from names 1 empty_script (lines_of text) fault (subst (ToldOf names 1 empty_script (lines_of text)) e (lines_told names 1 empty_script (lines_of text))) in
    record { above = bad.0; line = bad.1; below = bad.2; script = bad.3; parts = bad.4; says = bad.5; at_fault = bad.6 }
