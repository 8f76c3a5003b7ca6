-- The questions of a sheet.
use Rattle.std.specs.Prelude.{ℕ, Bool, Option, List}
use Rattle.conditions.specs.Formulas.{Formula}
use Rattle.litmus_text.specs.declared.text_lines.LinedObject.{LinedObject}
use Rattle.questions.specs.declared.question.Place.{Place}
use Rattle.questions.specs.Scopes.{Scope}

-- A condition with a name, that is asked of every state of a place, or of some.
pub record NamedQuestion : Type 0 where
  pub name : List ℕ
  -- asked of every state, or of some
  pub every : Bool
  pub place : Place
  -- the left side of its `->`, if it has one outside of brackets
  pub left : Option Formula
  pub condition : Formula

-- What a program says, with its questions in the order of their lines.
pub record Questioned : Type 0 where
  pub lined : LinedObject
  pub questions : List NamedQuestion
  -- what a condition of it may name, where it is a sheet
  pub scope : Option Scope
