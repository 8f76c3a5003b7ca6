-- What is told of lines: a script that they say, or their fault.
use Rattle.std.proofs.Common.{◌≡◌, ◌≢◌, ℕ, ◌+◌, ◌==◌, Bool, true, false, not, Result, Ok, Err, List, [], ◌∷◌, ◌++◌, length, refl, sym, ◌∙◌, ap, subst, arith}
use Rattle.std.proofs.lemmas.Bool.Decides.{nat_tests}
use Rattle.std.specs.List.{list_any}
use Rattle.lines_layout.specs.Layouts.{NamedLines}
use Rattle.conditions.specs.declared.fault.CondFault.{CondFault}
use Rattle.conditions.specs.Formulas.{Formula}
use Rattle.conditions.specs.Texts.{condition_of}
use Rattle.commands.specs.declared.script_fault.ScriptFault.{ScriptFault}
use Rattle.commands.specs.declared.script_fault.ScriptFault.TheVariants.{BadLine}
use Rattle.debug_scripts.specs.declared.orders.Command.{Command}
use Rattle.debug_scripts.specs.declared.row.BadRow.{BadRow}
use Rattle.text_tokens.specs.Cursors.{Token}
use Rattle.debug_scripts.specs.Rows.{Said, Blank, Stop, Watch, Ask, Do, given_from, row_of}
use Rattle.debug_scripts.specs.Scripts.{Script, stop_after, values_after, watch_after, script_after, script_from}
use Rattle.debug_scripts.specs.Grammar.{AddAll, Adds, AreGiven, IsRow}
use Rattle.debug_scripts.specs.ScriptFaults.{IsFaultOfLine}
use Rattle.debug_scripts.specs.ScriptFaults.IsFaultOfLine.{no_row, bad_given, late_stop, late_watch, bad_condition, double_stop, double_watch}
use Rattle.debug_scripts.proofs.GivenForms.{given_are_read, only_are_given}
use Rattle.debug_scripts.proofs.RowForms.{row_is_read, only_rows}

-- ---- one line

none_left : (commands : List Command) → not (length commands == 0) ≡ false → commands ≡ []
none_left [] h = refl
none_left (c ∷ commands) h = absurd (grind (arith, nat_tests))

some_left : (commands : List Command) → not (length commands == 0) ≡ true → commands ≢ []
some_left commands h = λ none. let wrong : false ≡ true = rw none at h in absurd (cc)

-- what is told of a line that says this, behind a script
data ToldOfRow (names : NamedLines) (n : ℕ) (s : Script) (line : List ℕ) (row : Said) : Result Script ScriptFault → Type 0 where
  added : (t : Script) → Adds names s row t → ToldOfRow names n s line row (Ok t)
  refused : (fault : ScriptFault) → IsFaultOfLine names n s line fault → ToldOfRow names n s line row (Err fault)

stop_told : (names : NamedLines) (n : ℕ) (s : Script) (line : List ℕ) (id : ℕ) (text : List ℕ) → IsRow names line (Stop id text)
    → (late : Bool) → not (length s.commands == 0) ≡ late → (cond : Result Formula CondFault) → condition_of names text ≡ cond → (taken : Bool) → list_any (λ t. t.id == id) s.stops ≡ taken
    → ToldOfRow names n s line (Stop id text) (stop_after names n s id text)
unfolding stop_after
stop_told names n s line id text is true late cond read taken found = rw late (refused _ (late_stop id text is (some_left s.commands late)))
stop_told names n s line id text is false late (Err fault) read taken found = rw (late, read) (refused _ (bad_condition id text fault is (none_left s.commands late) read))
stop_told names n s line id text is false late (Ok cond) read true found = rw (late, read, found) (refused _ (double_stop id text cond is (none_left s.commands late) read found))
stop_told names n s line id text is false late (Ok cond) read false found = rw (late, read, found) (added _ (none_left s.commands late, cond, read, found, refl))

watch_told : (names : NamedLines) (n : ℕ) (s : Script) (line : List ℕ) (id word : ℕ) → IsRow names line (Watch id word)
    → (late : Bool) → not (length s.commands == 0) ≡ late → (taken : Bool) → list_any (λ w. w.id == id) s.watches ≡ taken → ToldOfRow names n s line (Watch id word) (watch_after n s id word)
unfolding watch_after
watch_told names n s line id word is true late taken found = rw late (refused _ (late_watch id word is (some_left s.commands late)))
watch_told names n s line id word is false late true found = rw (late, found) (refused _ (double_watch id word is (none_left s.commands late) found))
watch_told names n s line id word is false late false found = rw (late, found) (added _ (none_left s.commands late, found, refl))

values_told : (names : NamedLines) (n : ℕ) (s : Script) (line : List ℕ) (word : ℕ) (tokens : List Token) → IsRow names line (Ask word tokens)
    → (made : Result (List (ℕ × ℕ)) BadRow) → given_from names [] tokens ≡ made → ToldOfRow names n s line (Ask word tokens) (values_after names n s word tokens)
unfolding values_after
values_told names n s line word tokens is (Ok given) read =
    let all = only_are_given names [] tokens given read in
    rw read (added _ (given, subst (AreGiven names tokens) (sym all.2) all.1, refl))
values_told names n s line word tokens is (Err bad) read = rw read (refused _ (bad_given word tokens is none))
  where
    none : (given : List (ℕ × ℕ)) → ¬ AreGiven names tokens given
    none given are = let wrong : ◌≡◌ {A = Result (List (ℕ × ℕ)) BadRow} (Ok given) (Err bad) = sym (given_are_read names [] tokens given are) ∙ read in absurd (cc)

row_told : (names : NamedLines) (n : ℕ) (s : Script) (line : List ℕ) (row : Said) → IsRow names line row → ToldOfRow names n s line row (script_after names n s row)
row_told names n s line Blank is = added s refl
row_told names n s line (Stop id text) is = stop_told names n s line id text is _ refl _ refl _ refl
row_told names n s line (Watch id word) is = watch_told names n s line id word is _ refl _ refl
row_told names n s line (Ask word tokens) is = values_told names n s line word tokens is _ refl
row_told names n s line (Do command) is = added _ refl

-- ---- all lines

-- the first of lines that is at fault, where the first of all has the number n
abbrev pub FaultFrom : NamedLines → ℕ → Script → List (List ℕ) → ScriptFault → Type 0
FaultFrom names n s lines fault = (above : List (List ℕ)) × (line : List ℕ) × (below : List (List ℕ)) × (t : Script)
    × (lines ≡ above ++ line ∷ below) × AddAll names s above t × IsFaultOfLine names (length above + n) t line fault

-- what is told of lines behind a script
pub data ToldOf (names : NamedLines) (n : ℕ) (s : Script) (lines : List (List ℕ)) : Result Script ScriptFault → Type 0 where
  said : (t : Script) → AddAll names s lines t → ToldOf names n s lines (Ok t)
  at_fault : (fault : ScriptFault) → FaultFrom names n s lines fault → ToldOf names n s lines (Err fault)

first_at_fault : (names : NamedLines) (n : ℕ) (s : Script) (line : List ℕ) (lines : List (List ℕ)) (fault : ScriptFault) → IsFaultOfLine names n s line fault → FaultFrom names n s (line ∷ lines) fault
first_at_fault names n s line lines fault is = ([], line, lines, s, refl, refl, subst (λ (k : ℕ). IsFaultOfLine names k s line fault) (omega arith) is)

one_more : (names : NamedLines) (n : ℕ) (s t : Script) (line : List ℕ) (row : Said) (lines : List (List ℕ)) (told : Result Script ScriptFault) → IsRow names line row → Adds names s row t
    → ToldOf names (n + 1) t lines told → ToldOf names n s (line ∷ lines) told
one_more names n s t line row lines told is adds (said u all) = said u (row, t, is, adds, all)
one_more names n s t line row lines told is adds (at_fault fault (above, l, below, u, parts, all, bad)) =
    at_fault fault (line ∷ above, l, below, u, ap (λ (ls : List (List ℕ)). line ∷ ls) parts, (row, t, is, adds, all), subst (λ (k : ℕ). IsFaultOfLine names k u l fault) (omega arith) bad)

abbrev Rest : NamedLines → ℕ → List (List ℕ) → Type 0
Rest names n lines = (t : Script) → ToldOf names n t lines (script_from names n t lines)

behind_row : (names : NamedLines) (n : ℕ) (s : Script) (line : List ℕ) (row : Said) (lines : List (List ℕ)) (made : Result Script ScriptFault) → row_of names line ≡ Ok row
    → script_after names n s row ≡ made → ToldOfRow names n s line row made → Rest names (n + 1) lines → ToldOf names n s (line ∷ lines) (script_from names n s (line ∷ lines))
unfolding script_from
behind_row names n s line row lines made read e (added t adds) rest = rw (read, e) (one_more names n s t line row lines _ (only_rows names line row read) adds (rest t))
behind_row names n s line row lines made read e (refused fault is) rest = rw (read, e) (at_fault fault (first_at_fault names n s line lines fault is))

line_told : (names : NamedLines) (n : ℕ) (s : Script) (line : List ℕ) (lines : List (List ℕ)) (read : Result Said BadRow) → row_of names line ≡ read → Rest names (n + 1) lines
    → ToldOf names n s (line ∷ lines) (script_from names n s (line ∷ lines))
unfolding script_from
line_told names n s line lines (Ok row) read rest = behind_row names n s line row lines _ read refl (row_told names n s line row (only_rows names line row read)) rest
line_told names n s line lines (Err bad) read rest = rw read (at_fault (BadLine n) (first_at_fault names n s line lines (BadLine n) (no_row none)))
  where
    none : (row : Said) → ¬ IsRow names line row
    none row is = let wrong : ◌≡◌ {A = Result Said BadRow} (Ok row) (Err bad) = sym (row_is_read names line row is) ∙ read in absurd (cc)

pub lines_told : (names : NamedLines) (n : ℕ) (s : Script) (lines : List (List ℕ)) → ToldOf names n s lines (script_from names n s lines)
unfolding script_from
lines_told names n s [] = said s refl
lines_told names n s (line ∷ lines) = line_told names n s line lines _ refl (λ t. lines_told names (n + 1) t lines)
