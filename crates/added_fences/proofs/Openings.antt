-- First states of programs with and without what was put in.
use Rattle.std.proofs.Common.{◌≡◌, ℕ, Bool, true, false, List, Some, ap, arith, inl, inr, length, map, refl, sym}
use Rattle.std.specs.Prelude.{◌⊎◌, ◌&&◌, nat_le, slice_get}
use Rattle.std.specs.List.{list_all}
use Rattle.std.proofs.lemmas.Bool.{and_parts}
use Rattle.isa.specs.declared.instr.Instr.{Instr}
use Rattle.isa.specs.declared.programs.Programs.{Programs}
use Rattle.isa.specs.Loadables.{max_processors, names_its_words, runs_on}
use Rattle.isa.specs.Objects.{Object, shape}
use Rattle.processor.proofs.PlacesStayWithin.{all_at}
use Rattle.machine.specs.Objects.{IsLoadable, opening, opening_processor}
use Rattle.image_reasons.specs.Repairs.{code_of}
use Rattle.fewer_fences.specs.Thinner.{AreByPlace, may_be_nop, may_be_nop_on}
use Rattle.fewer_fences.proofs.ThinnedLists.{mapped_by_place}
use Rattle.added_fences.specs.Added.{AreAdded, CanAccessAgain, HasAdded, HaveAdded, IsLeaner, IsLeanerProcessor, IsPutIn, OrdersAlone, WasThere}

both : (a b : Bool) → a ≡ true → b ≡ true → (a && b) ≡ true
both a b e f = rw (e, f) refl

code_on_words : (over : List ℕ) (more less : List Instr) → list_all (names_its_words over) more ≡ true → HasAdded may_be_nop more less → HasAdded (may_be_nop_on over) more less
code_on_words over more less named h = record { back = h.back; start = h.start; each = λ place instr at. on_words place instr at (h.each place instr at); end = h.end }
  where
    orders_on_words : (place : ℕ) (instr : Instr) → slice_get more place ≡ Some instr → OrdersAlone may_be_nop more place instr → OrdersAlone (may_be_nop_on over) more place instr
    orders_on_words place instr at (inl may) = inl (both (may_be_nop instr) (names_its_words over instr) may (all_at (names_its_words over) more place instr named at))
    orders_on_words place instr at (inr flush) = inr flush

    on_words : (place : ℕ) (instr : Instr) → slice_get more place ≡ Some instr → IsPutIn (OrdersAlone may_be_nop more) h.back place instr ⊎ WasThere h.back more less place instr
        → IsPutIn (OrdersAlone (may_be_nop_on over) more) h.back place instr ⊎ WasThere h.back more less place instr
    on_words place instr at (inl put) = inl (record { passes = orders_on_words place instr at put.passes; next = put.next })
    on_words place instr at (inr was) = inr was

-- the programs of a processor name their words
named_by : (over : List ℕ) (programs : Programs) → runs_on over programs ≡ true → (recovering : Bool) → list_all (names_its_words over) (code_of recovering programs) ≡ true
named_by over programs named true = (and_parts (list_all (names_its_words over) programs.main) (list_all (names_its_words over) programs.recovery) named).1
named_by over programs named false = (and_parts (list_all (names_its_words over) programs.main) (list_all (names_its_words over) programs.recovery) named).0

named_by_place : (over : List ℕ) (more less : List Programs) → list_all (runs_on over) more ≡ true → AreByPlace (HaveAdded may_be_nop) more less
    → AreByPlace (HaveAdded (may_be_nop_on over)) more less
named_by_place over more less loadable h = record {
  count = h.count;
  each = λ place this other at and recovering.
      code_on_words over (code_of recovering this) (code_of recovering other) (named_by over this (all_at (runs_on over) more place this loadable at) recovering)
      (h.each place this other at and recovering);
}

at_start : (over : List ℕ) (more less : Programs) → HaveAdded (may_be_nop_on over) more less → IsLeanerProcessor over (opening_processor more) (opening_processor less)
at_start over more less h = record { code = h; recovering = refl; place = inl (sym (h false).start); regs = refl; trap = refl; buffer = refl; again = not_at_start }
  where
    not_at_start : CanAccessAgain over (opening_processor more)
    not_at_start operand b = let before = b.before in absurd (omega (arith, before))

pub opened : (more less : Object) → IsLoadable more → AreAdded more less → IsLeaner (opening more) (opening less)
opened more less loadable h =
    let parts = and_parts (nat_le (length more.processors) max_processors) (list_all (runs_on (shape more)) more.processors) loadable in record {
      turns = omega arith;
      crashes = refl;
      shape = ap (map length) h.layout;
      processors = mapped_by_place (HaveAdded (may_be_nop_on (shape more))) (IsLeanerProcessor (shape more)) opening_processor more.processors less.processors (at_start (shape more))
          (named_by_place (shape more) more.processors less.processors parts.1 h.processors);
      memory = record { pending = refl; persisted = h.values };
    }
