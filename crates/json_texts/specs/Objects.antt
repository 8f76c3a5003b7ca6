-- The values of JSON that reports are made of: trees of numbers without a point, texts, lists, and objects of named values. No tree
-- has a float.
use Rattle.std.specs.Prelude.{◌≡◌, ℕ, Bool, Option, None, Some, String, List, [], ◌∷◌, ◌++◌, codes, map}
use Rattle.std.specs.declared.alloc.Global.{Global}
use Rattle.serde_json.specs.Data as values
use Rattle.serde_json.specs.Data.{Data, Items, Members, no_members, put}
use Rattle.serde_json.specs.View.{members_view, view}
use Rattle.serde_json.specs.Written.{compact_text}
use Rattle.serde_json.specs.declared.value.Value.{Value}

-- bytes of a text
abbrev pub Text : Type 0
Text = List ℕ

mutual
  -- null, a truth, a number, a text, a list, or an object
  pub data Tree : Type 0 where
    null : Tree
    boolean : Bool → Tree
    num : ℕ → Tree
    word : Text → Tree
    items : Trees → Tree
    fields : Fields → Tree

  pub data Trees : Type 0 where
    no_trees : Trees
    tree : Tree → Trees → Trees

  -- what an object has, each with its name
  pub data Fields : Type 0 where
    no_fields : Fields
    field : Text → Tree → Fields → Fields

-- ---- a tree as a value of `serde_json`

abbrev mutual
  pub json_of : Tree → Data
  json_of null = values.null
  json_of (boolean truth) = values.boolean truth
  json_of (num n) = values.number (values.unsigned n)
  json_of (word text) = values.string text
  json_of (items trees) = values.array (json_items trees)
  json_of (fields named) = values.object (put_in no_members named)

  pub json_items : Trees → Items
  json_items no_trees = values.no_items
  json_items (tree first later) = values.item (json_of first) (json_items later)

  -- members, and then these fields put to them in turn
  pub put_in : Members → Fields → Members
  put_in members no_fields = members
  put_in members (field name first later) = put_in (put name (json_of first) members) later

-- This value is the JSON of a tree.
abbrev pub IsJsonOf : Tree → Value → Type 0
IsJsonOf whole value = view value ≡ json_of whole

-- It is the JSON of some tree.
abbrev pub IsOfTree : Value → Type 0
IsOfTree value = (whole : Tree) × IsJsonOf whole value

-- ---- lists

abbrev pub trees_of : List Tree → Trees
trees_of [] = no_trees
trees_of (first ∷ later) = tree first (trees_of later)

-- a list
abbrev pub list : List Tree → Tree
list trees = items (trees_of trees)

-- a list of numbers
abbrev pub nums : List ℕ → Tree
nums numbers = list (map num numbers)

-- Values that are being listed have got these behind them.
abbrev pub GetsItems : List Value → List Value → List Tree → Type 0
GetsItems old new trees = map view new ≡ map view old ++ map json_of trees

-- ---- objects

-- what an object has, and its name there
abbrev pub Field : Type 0
Field = Text × Tree

abbrev pub fields_of : List Field → Fields
fields_of [] = no_fields
fields_of (first ∷ later) = field first.0 first.1 (fields_of later)

-- an object
abbrev pub obj : List Field → Tree
obj named = fields (fields_of named)

-- members, and then these put to them in turn
abbrev pub with_fields : Members → List Field → Members
with_fields members named = put_in members (fields_of named)

-- the members of an object
abbrev pub Entries : Type 0
Entries = List (String Global × Value)

-- An object that is being made has these fields.
abbrev pub HasFields : Entries → List Field → Type 0
HasFields entries named = members_view entries ≡ with_fields no_members named

-- It has got these.
abbrev pub GetsFields : Entries → Entries → List Field → Type 0
GetsFields old new named = members_view new ≡ with_fields (members_view old) named

-- ---- what may be absent

abbrev pub or_null : {A : Type 0} → (A → Tree) → Option A → Tree
or_null tree_of None = null
or_null tree_of (Some a) = tree_of a

-- ---- reports

-- which version of these reports it is
abbrev pub format : ℕ
format = 1

-- what each report begins with: the version, and the command that it is of
abbrev pub header : Text → List Field
header command = (codes "format", num format) ∷ (codes "command", word command) ∷ []

-- a value on one line
abbrev pub line_text : Data → Text
line_text value = compact_text value ++ 10 ∷ []

-- the whole text of a report
abbrev pub report_text : Tree → Text
report_text whole = line_text (json_of whole)
