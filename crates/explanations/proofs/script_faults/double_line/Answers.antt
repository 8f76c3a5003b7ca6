use Rattle.std.proofs.Common.{◌≡◌, ◌+◌, ◌∷◌, None, Some, ℕ, if◌then◌else◌, rules}
use Rattle.std.specs.Prelude.{◌==◌, nat_eq}
use Rattle.indexmap.specs.IndexMap.{get}
use Rattle.text_tokens.specs.Text.{lines_of}
use Rattle.explanations.specs.Declarations.{declaration_of}
use Rattle.explanations.proofs.OneMoreDeclaration.{read_new, read_plain}
use Rattle.explanations.proofs.script_faults.double_line.Goals as goal

pub loop-line-preserved-in_ok-insert : goal.loop-line-preserved-in_ok-insert
loop-line-preserved-in_ok-insert c =
    let next : lines_of c.loop-line.line-iterator.rest.now ≡ c.in-Some.line.now ∷ lines_of c.next.new.self.rest.now = search rules in
    let some : declaration_of c.in-Some.line.now ≡ Some c.in-Some-declaration_of.declaration = search rules in
    let none : get nat_eq c.loop-line.declared c.in-Some-declaration_of.declaration ≡ None = search rules in
    let added : (wanted : ℕ) → get nat_eq c.insert.new.self wanted
    ≡ (if c.in-Some-declaration_of.declaration == wanted then Some (c.loop-line.number + 1) else get nat_eq c.loop-line.declared wanted) = search rules in
    record {
      read = read_new _ _ _ _ _ _ c.loop-line.invariant.read next _ _ some none added;
      count = search rules;
    }

pub loop-line-preserved : goal.loop-line-preserved
loop-line-preserved c =
    let next : lines_of c.loop-line.line-iterator.rest.now ≡ c.in-Some.line.now ∷ lines_of c.next.new.self.rest.now = search rules in
    let none : declaration_of c.in-Some.line.now ≡ None = search rules in
    record {
      read = read_plain _ _ _ _ _ _ c.loop-line.invariant.read next none;
      count = search rules;
    }
