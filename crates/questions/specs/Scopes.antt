-- What the tokens of an item may name.
use Rattle.std.specs.Prelude.{ℕ, Bool, not, ◌&&◌, is_some, Option, List, bytes_eq}
use Rattle.std.specs.List.{find}
use Rattle.text_tokens.specs.Cursors.{Token}
use Rattle.lines_layout.specs.Names.{is_name}
use Rattle.sheets.specs.Abbreviations.{Names}
use Rattle.questions.specs.declared.scope.Meaning.{Meaning}
use Rattle.questions.specs.Tokens.{is_keyword}

-- What an earlier item named.
pub record Entry : Type 0 where
  pub name : Token
  pub meaning : Meaning
  -- how large it is
  pub size : ℕ

pub record Scope : Type 0 where
  -- the words and constants of the sheet, and how many processors it has
  pub names : Names
  pub processors : ℕ
  -- the earlier items
  pub entries : List Entry

-- the entry of a name, if an earlier item has it
abbrev pub entry_named : List Entry → Token → Option Entry
entry_named entries token = find (λ entry. bytes_eq token entry.name) entries

-- whether the next item may have this name: that of a word it may be
abbrev pub is_item_name : Scope → Token → Bool
is_item_name scope token = is_name token && not (is_keyword token) && not (is_some (entry_named scope.entries token))
