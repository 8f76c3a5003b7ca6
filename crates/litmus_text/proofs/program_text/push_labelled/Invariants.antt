use Rattle.std.proofs.Common.{◌≡◌, ◌++◌, drop, string_bytes}
use Rattle.std.specs.List.{AllByRecursion}
use Rattle.litmus_text.specs.Rows.{rows_text}
use Rattle.litmus_text.specs.Written.{FitsBits, rows_from}
use Rattle.litmus_text.proofs.program_text.push_labelled.Given as goal

abbrev pub invariant-loop-place : goal.invariant-loop-place
invariant-loop-place l = record {
  text : string_bytes l.text ++ rows_text (rows_from l.layout l.code l.place (drop l.place l.code))
      ≡ string_bytes l.fn.text ++ rows_text (rows_from l.layout l.code 0 l.code);
  bits : AllByRecursion FitsBits (drop l.place l.code) → AllByRecursion FitsBits l.code;
}
