-- First states of programs with fewer flushes and fences.
use Rattle.std.proofs.Common.{◌≡◌, ℕ, Bool, true, List, ap, arith, inl, inr, length, map, refl}
use Rattle.std.specs.Prelude.{◌&&◌, nat_le}
use Rattle.std.specs.List.{list_all}
use Rattle.std.proofs.lemmas.Bool.{and_parts}
use Rattle.isa.specs.declared.instr.Instr.{Instr}
use Rattle.isa.specs.declared.programs.Programs.{Programs}
use Rattle.isa.specs.Loadables.{max_processors, names_its_words, runs_on}
use Rattle.isa.specs.Objects.{Object, shape}
use Rattle.processor.proofs.PlacesStayWithin.{all_at}
use Rattle.machine.specs.Objects.{IsLoadable, opening, opening_processor}
use Rattle.fewer_fences.specs.Thinner.{AreByPlace, AreFewer, HasNops, HaveNops, IsOrIsNop, IsThinner, IsThinnerProcessor, may_be_nop, may_be_nop_on}
use Rattle.fewer_fences.proofs.ThinnedLists.{mapped_by_place}

both : (a b : Bool) → a ≡ true → b ≡ true → (a && b) ≡ true
both a b e f = rw (e, f) refl

on_words : (over : List ℕ) (instr other : Instr) → names_its_words over instr ≡ true → IsOrIsNop may_be_nop instr other → IsOrIsNop (may_be_nop_on over) instr other
on_words over instr other named (inl same) = inl same
on_words over instr other named (inr (may, is)) = inr (both (may_be_nop instr) (names_its_words over instr) may named, is)

code_on_words : (over : List ℕ) (more less : List Instr) → list_all (names_its_words over) more ≡ true → HasNops may_be_nop more less → HasNops (may_be_nop_on over) more less
code_on_words over more less named h = record {
  count = h.count;
  each = λ place this other at and. on_words over this other (all_at (names_its_words over) more place this named at) (h.each place this other at and);
}

-- the programs of each processor name their words
named_by_place : (over : List ℕ) (more less : List Programs) → list_all (runs_on over) more ≡ true → AreByPlace (HaveNops may_be_nop) more less
    → AreByPlace (HaveNops (may_be_nop_on over)) more less
named_by_place over more less loadable h = record {
  count = h.count;
  each = λ place this other at and.
      let parts = and_parts (list_all (names_its_words over) this.main) (list_all (names_its_words over) this.recovery) (all_at (runs_on over) more place this loadable at) in
      let here = h.each place this other at and in
      record { main = code_on_words over this.main other.main parts.0 here.main; recovery = code_on_words over this.recovery other.recovery parts.1 here.recovery };
}

at_start : (over : List ℕ) (more less : Programs) → HaveNops (may_be_nop_on over) more less → IsThinnerProcessor over (opening_processor more) (opening_processor less)
at_start over more less h = record { main = h.main; recovery = h.recovery; recovering = refl; place = refl; regs = refl; trap = refl; buffer = refl }

pub opened : (more less : Object) → IsLoadable more → AreFewer more less → IsThinner (opening more) (opening less)
opened more less loadable h =
    let parts = and_parts (nat_le (length more.processors) max_processors) (list_all (runs_on (shape more)) more.processors) loadable in record {
      turns = omega arith;
      crashes = refl;
      shape = ap (map length) h.layout;
      processors = mapped_by_place (HaveNops (may_be_nop_on (shape more))) (IsThinnerProcessor (shape more)) opening_processor more.processors less.processors (at_start (shape more))
          (named_by_place (shape more) more.processors less.processors parts.1 h.processors);
      memory = record { pending = refl; persisted = h.values };
    }
