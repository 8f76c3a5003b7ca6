use Rattle.std.proofs.Common.{inl, inr, subst, sym, ℕ, List, ◌≡◌, Ok}
use Rattle.commands.specs.Programs.{program_of}
use Rattle.commands.proofs.ProgramFiles.{object_is_program, program_is, sheet_is_program, text_is_program}
use Rattle.sheets.specs.Reading.{litmus_said}
use Rattle.commands.proofs.laws.programs_are_texts_or_objects.Goals as goal

pub returns-clause-only : goal.returns-clause-only
returns-clause-only c = λ bytes o fits is. elim (program_is bytes o is) [
  | inl object ↦ inl (c.objects_are_read.ensures.only bytes o fits object)
  | inr text ↦ inr (elim text [
    | inl plain ↦ inl (c.texts_are_read.ensures.only bytes o plain)
    | inr sheet ↦ inr (sheet.0, c.texts_are_read.ensures.only (litmus_said bytes) o sheet.1, sheet.2)
  ])
]

pub returns-clause-sheet : goal.returns-clause-sheet
returns-clause-sheet c = λ bytes o sheet. sheet_is_program bytes o sheet.0 (c.texts_are_read.ensures.text (litmus_said bytes) o sheet.1) sheet.2

pub returns-clause-text : goal.returns-clause-text
returns-clause-text c = λ bytes o text. text_is_program bytes o text (c.texts_are_read.ensures.text bytes o text)

pub returns-clause-object : goal.returns-clause-object
returns-clause-object c = λ bytes o spelled.
    let read = object_is_program spelled.0 o (c.objects_are_read.ensures.all spelled.0 o spelled.1.has) in
    subst (λ (b : List ℕ). program_of b ≡ Ok o) (sym spelled.1.same) read
