-- What a test compares.
use Rattle.std.specs.Prelude.{ℕ, ◌+◌}
use Rattle.conditions.specs.declared.cond.Operand.{Operand}
use Rattle.conditions.specs.declared.tree.Node.{Node}
use Rattle.conditions.specs.declared.tree.Node.TheVariants as nodes

pub data Term : Type 0 where
  -- a number
  Number : (number : ℕ) → Term
  -- the value of an operand
  Read : (operand : Operand) → Term
  -- the persisted value of the word whose address the inner term's value is
  PersistedAt : (address : Term) → Term
  -- the coherent value of that word
  CoherentAt : (address : Term) → Term
  -- the sum of two terms; it does not wrap
  Plus : (left right : Term) → Term

-- how many numbers and operands a term is made of
abbrev pub addends : Term → ℕ
addends (Number n) = 1
addends (Read operand) = 1
addends (PersistedAt address) = addends address
addends (CoherentAt address) = addends address
addends (Plus left right) = addends left + addends right

-- the term that a tree is, without where its nodes lie in memory; a tree of a condition is none
abbrev pub term : Node → Term
term (nodes.Number n) = Number n
term (nodes.Read operand) = Read operand
term (nodes.PersistedAt' p address) = PersistedAt (term address)
term (nodes.CoherentAt' p address) = CoherentAt (term address)
term (nodes.Plus' p left q right) = Plus (term left) (term right)
term _ = Number 0

-- how many nodes of a term's tree are none of a term
abbrev pub strays_in_term : Node → ℕ
strays_in_term (nodes.Number n) = 0
strays_in_term (nodes.Read operand) = 0
strays_in_term (nodes.PersistedAt' p address) = strays_in_term address
strays_in_term (nodes.CoherentAt' p address) = strays_in_term address
strays_in_term (nodes.Plus' p left q right) = strays_in_term left + strays_in_term right
strays_in_term _ = 1
