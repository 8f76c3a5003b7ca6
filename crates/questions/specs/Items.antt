-- The items of a sheet, one after another: names for conditions and values, and questions.
use Rattle.std.specs.Prelude.{ℕ, ◌+◌, Bool, true, false, not, ◌&&◌, nat_le, if◌then◌else◌, Option, Some, None, Result, Ok, Err, List, [], ◌∷◌, ◌++◌, length, bytes_eq, codes}
use Rattle.outcomes.specs.Outcomes.{◌>>=◌, refuse, refused_as, required}
use Rattle.text_tokens.specs.Cursors.{Token}
use Rattle.text_tokens.specs.Text.{is_plain_line, lines_of}
use Rattle.litmus_text.specs.declared.fault.LineFault.{LineFault}
use Rattle.litmus_text.specs.declared.fault.LineFault.TheVariants.{BadWord, BadName, NotAscii, TooLong}
use Rattle.litmus_text.specs.declared.fault.TextFault.{TextFault}
use Rattle.litmus_text.specs.declared.fault.TextFault.TheVariants.{At}
use Rattle.questions.specs.declared.item.Head.{Head}
use Rattle.questions.specs.declared.item.Head.TheVariants as heads
use Rattle.questions.specs.declared.item.Purpose.{Purpose}
use Rattle.questions.specs.declared.item.Purpose.TheVariants.{Let, Asks}
use Rattle.questions.specs.declared.question.Place.{Place}
use Rattle.questions.specs.declared.scope.Meaning.{Meaning}
use Rattle.questions.specs.declared.scope.Meaning.TheVariants.{Condition}
use Rattle.questions.specs.Limits.{max_questions, max_tokens}
use Rattle.questions.specs.Tokens.{item_tokens, place_of}
use Rattle.questions.specs.Scopes.{Scope, is_item_name}
use Rattle.questions.specs.Bodies.{Body, at_start, body_after, condition_at_end, meaning_at_end}
use Rattle.questions.specs.Questions.{NamedQuestion}

-- What was read of an item.
pub record Item : Type 0 where
  -- what may come next, and what it is for
  pub head : Head
  pub name : Token
  -- its condition or its value
  pub body : Body
  -- its first line, and that of its last token
  pub line : ℕ
  pub last : ℕ
  pub tokens : ℕ

-- the first token of an item is on line n
abbrev pub item_begun : Head → ℕ → Item
item_begun head n = record { head = head; name = []; body = at_start; line = n; last = n; tokens = 1 }

-- what the first token of an item says comes next
unfoldable pub head_of : Token → Option Head
head_of token =
    if bytes_eq token (codes "let") then Some (heads.Name Let)
    else if bytes_eq token (codes "every") then Some (heads.Place true)
    else if bytes_eq token (codes "some") then Some (heads.Place false)
    else None

-- what stands behind the name
abbrev pub mark_of : Purpose → Token
mark_of Let = codes "="
mark_of (Asks every place) = codes ":"

-- the item with one more token
unfoldable pub head_after : Head → Scope → Item → Token → Result Item LineFault
head_after (heads.Place every) scope item token = do
  place ← required BadWord (place_of token)
  Ok (record item { head = heads.Name (Asks every place) })
head_after (heads.Name purpose) scope item token = do
  good ← refuse BadName (not (is_item_name scope token))
  Ok (record item { head = heads.Mark purpose; name = token })
head_after (heads.Mark purpose) scope item token = do
  there ← refuse BadWord (not (bytes_eq token (mark_of purpose)))
  Ok (record item { head = heads.Body purpose })
head_after (heads.Body purpose) scope item token = do
  body ← body_after scope item.body token
  Ok (record item { body = body })

-- what is too much is told at the item's first line, and another fault at that of its token
abbrev pub told : ℕ → ℕ → LineFault → TextFault
told line n TooLong = At TooLong line
told line n kind = At kind n

-- one more token is on line n
abbrev pub token_counted : ℕ → Item → Item
token_counted n item = record item { last = n; tokens = item.tokens + 1 }

unfoldable pub item_after : Scope → ℕ → Item → Token → Result Item TextFault
item_after scope n item token = do
  few ← refuse (At TooLong item.line) (nat_le max_tokens item.tokens)
  refused_as (told item.line n) (head_after item.head scope (token_counted n item) token)

-- What was read of the items.
pub record Items : Type 0 where
  pub scope : Scope
  pub questions : List NamedQuestion
  -- the item that goes on
  pub item : Option Item

-- ---- the end of an item

-- the item names this
abbrev pub with_entry : Item → Meaning → Scope → Scope
with_entry item meaning scope = record scope { entries = scope.entries ++ record { name = item.name; meaning = meaning; size = item.body.size } ∷ [] }

-- a name for a condition or a value
abbrev pub name_given : Item → Items → Result Items LineFault
name_given item items = do
  meaning ← meaning_at_end item.body
  Ok (record items { scope = with_entry item meaning items.scope })

-- a question, whose name is that of its condition
abbrev pub question_asked : Bool → Place → Item → Items → Result Items LineFault
question_asked every place item items = do
  said ← condition_at_end item.body
  Ok (record items {
    scope = with_entry item (Condition said.1) items.scope;
    questions = items.questions ++ record { name = item.name; every = every; place = place; left = said.0; condition = said.1 } ∷ [];
  })

unfoldable pub item_said : Head → Item → Items → Result Items LineFault
item_said (heads.Body Let) item items = name_given item items
item_said (heads.Body (Asks every place)) item items = question_asked every place item items
item_said _ item items = Err BadWord

abbrev pub ended_item : Option Item → Items → Result Items TextFault
ended_item None items = Ok items
ended_item (Some item) items = refused_as (told item.line item.last) (item_said item.head item (record items { item = None }))

-- the item that goes on ends
unfoldable pub item_ended : Items → Result Items TextFault
item_ended items = ended_item items.item items

-- ---- lines

-- whether an item that begins so is a question
abbrev pub is_question : Head → Bool
is_question (heads.Place every) = true
is_question _ = false

-- an item begins on line n
unfoldable pub begun : Head → ℕ → Items → Result Items TextFault
begun head n items = do
  ended ← item_ended items
  few ← refuse (At TooLong n) (is_question head && nat_le max_questions (length ended.questions))
  Ok (record ended { item = Some (item_begun head n) })

-- one more token of the item that goes on
abbrev pub going_on : Option Item → ℕ → Items → Token → Result Items TextFault
going_on None n items token = Err (At BadWord n)
going_on (Some item) n items token = do
  next ← item_after items.scope n item token
  Ok (record items { item = Some next })

unfoldable pub token_after : ℕ → Items → Token → Result Items TextFault
token_after n items token = going_on items.item n items token

-- the first token of line n
abbrev pub first_by : Option Head → ℕ → Items → Token → Result Items TextFault
first_by None n items token = token_after n items token
first_by (Some head) n items token = begun head n items

unfoldable pub first_after : ℕ → Items → Token → Result Items TextFault
first_after n items token = first_by (head_of token) n items token

unfoldable pub tokens_from : ℕ → Items → List Token → Result Items TextFault
tokens_from n items [] = Ok items
tokens_from n items (token ∷ tokens) = do
  next ← token_after n items token
  tokens_from n next tokens

unfoldable pub tokens_after : ℕ → Items → List Token → Result Items TextFault
tokens_after n items [] = Ok items
tokens_after n items (first ∷ others) = do
  next ← first_after n items first
  tokens_from n next others

-- line n
unfoldable pub line_after : ℕ → Items → List ℕ → Result Items TextFault
line_after n items line = do
  plain ← refuse (At NotAscii n) (not (is_plain_line line))
  tokens_after n items (item_tokens line)

-- lines, of which the first has the number n
unfoldable pub lines_from : ℕ → Items → List (List ℕ) → Result Items TextFault
lines_from n items [] = Ok items
lines_from n items (line ∷ lines) = do
  next ← line_after n items line
  lines_from (n + 1) next lines

-- before the first item
abbrev pub no_items : Scope → Items
no_items scope = record { scope = scope; questions = []; item = None }

-- what was read at the end of a text, of whose lines the first has the number n
unfoldable pub text_after : ℕ → Items → List ℕ → Result Items TextFault
text_after n items rows = do
  read ← lines_from n items (lines_of rows)
  item_ended read

-- what the items in a text say
abbrev pub items_in : Scope → ℕ → List ℕ → Result Items TextFault
items_in scope n rows = text_after n (no_items scope) rows
