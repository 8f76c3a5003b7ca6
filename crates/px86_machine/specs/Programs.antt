-- Words for clauses that speak of programs: layouts, objects, and their texts.
pub use Rattle.outcomes.specs.Calls.{Answers}
pub use Rattle.outcomes.specs.Faults.{fault_in}
pub use Rattle.lines_layout.specs.Lines.{address_of, has_word, line_of}
pub use Rattle.lines_layout.specs.Layouts.{NamedLines, layout_of, name_of, word_of}
pub use Rattle.lines_layout.specs.Values.{zeros}
pub use Rattle.isa.specs.Programs.{is_program}
pub use Rattle.isa.specs.Objects.{IsObject, Object, shape}
pub use Rattle.litmus_text.specs.Texts.{litmus_of}
pub use Rattle.litmus_text.specs.Written.{written}
pub use Rattle.loader.specs.Spelling.{IsSpelled}
