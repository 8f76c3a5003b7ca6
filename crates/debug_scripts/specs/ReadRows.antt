-- What the code hands on of a line, as what the line says. No definition of scripts speaks of it.
use Rattle.std.specs.Prelude.{◌≡◌, ℕ, List, Result, Ok, Err, IfSome}
use Rattle.std.specs.Global.{Vec}
use Rattle.std.specs.Result.{result_map_both}
use Rattle.outcomes.specs.declared.or_no_memory.OrNoMemory.{OrNoMemory}
use Rattle.outcomes.specs.Faults.{fault_in}
use Rattle.debug_scripts.specs.declared.row.ScriptRow as code
use Rattle.debug_scripts.specs.declared.row.ScriptRow.TheVariants as rows
use Rattle.text_tokens.specs.Cursors.{unread}
use Rattle.debug_scripts.specs.Rows.{Said, Blank, Stop, Watch, Ask, Do}

abbrev pub said : code.ScriptRow → Said
said rows.Blank = Blank
said (rows.Stop id condition) = Stop id condition.now
said (rows.Watch id word) = Watch id word
said (rows.Ask word tokens) = Ask word (unread tokens)
said (rows.Do command) = Do command

-- what the code hands on is this, or is refused as this
abbrev pub Says : {E : Type 0} → Result code.ScriptRow E → Result Said E → Type 0
Says result told = result_map_both said (λ bad. bad) result ≡ told

-- A call hands on a list of what is stated, unless memory ran out.
abbrev pub IsListed : {E : Type 0} → Result (List (ℕ × ℕ)) E → Result (Vec (ℕ × ℕ)) (OrNoMemory E) → Type 0
IsListed told (Ok list) = told ≡ Ok list.items
IsListed told (Err error) = IfSome (fault_in error) (λ fault. told ≡ Err fault)
