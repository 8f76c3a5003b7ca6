-- A text is a script just where its lines are.
use Rattle.std.proofs.Common.{◌≡◌, ℕ, ◌+◌, ◌==◌, false, not, Ok, List, [], ◌∷◌, length, refl, sym, ap, subst}
use Rattle.lines_layout.specs.Layouts.{NamedLines}
use Rattle.text_tokens.specs.Text.{lines_of}
use Rattle.debug_scripts.specs.declared.orders.Command.{Command}
use Rattle.debug_scripts.specs.Rows.{Said, Blank, Stop, Watch, Ask, Do}
use Rattle.debug_scripts.specs.Scripts.{Script, empty_script, stop_after, values_after, watch_after, script_after, script_from, script_of}
use Rattle.debug_scripts.specs.Grammar.{AddAll, Adds, IsScript}
use Rattle.debug_scripts.proofs.GivenForms.{given_are_read}
use Rattle.debug_scripts.proofs.RowForms.{row_is_read}
use Rattle.debug_scripts.proofs.LinesAreTold.{ToldOf, said, lines_told}

pub none_stand : (commands : List Command) → commands ≡ [] → not (length commands == 0) ≡ false
none_stand commands h = rw h refl

pub row_adds : (names : NamedLines) (n : ℕ) (s t : Script) (row : Said) → Adds names s row t → script_after names n s row ≡ Ok t
unfolding stop_after values_after watch_after
row_adds names n s t Blank h = ap (λ (x : Script). Ok x) (sym h)
row_adds names n s t (Stop id text) (none, cond, read, free, is) = rw (none_stand s.commands none, read, free) (ap (λ (x : Script). Ok x) (sym is))
row_adds names n s t (Watch id word) (none, free, is) = rw (none_stand s.commands none, free) (ap (λ (x : Script). Ok x) (sym is))
row_adds names n s t (Ask word tokens) (given, are, is) = rw (given_are_read names [] tokens given are) (ap (λ (x : Script). Ok x) (sym is))
row_adds names n s t (Do command) h = ap (λ (x : Script). Ok x) (sym h)

all_from : (names : NamedLines) (n : ℕ) (s t : Script) (lines : List (List ℕ)) → AddAll names s lines t → script_from names n s lines ≡ Ok t
unfolding script_from
all_from names n s t [] h = ap (λ (x : Script). Ok x) (sym h)
all_from names n s t (line ∷ lines) (row, u, is, adds, others) = rw (row_is_read names line row is, row_adds names n s u row adds) (all_from names (n + 1) u t lines others)

only_from : (names : NamedLines) (n : ℕ) (s t : Script) (lines : List (List ℕ)) → ToldOf names n s lines (Ok t) → AddAll names s lines t
only_from names n s t lines (said u all) = all

pub script_is_read : (names : NamedLines) (text : List ℕ) (script : Script) → IsScript names text script → script_of names text ≡ Ok script
script_is_read names text script h = all_from names 1 empty_script script (lines_of text) h

pub only_scripts : (names : NamedLines) (text : List ℕ) (script : Script) → script_of names text ≡ Ok script → IsScript names text script
only_scripts names text script e = only_from names 1 empty_script script (lines_of text) (subst (ToldOf names 1 empty_script (lines_of text)) e (lines_told names 1 empty_script (lines_of text)))

pub ruleset script_forms = (script_is_read, only_scripts)
