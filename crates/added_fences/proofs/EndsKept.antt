-- A state that is leaner than an end is an end.
use Rattle.std.proofs.Common.{◌≡◌, ℕ, ◌≤◌, Bool, true, false, Option, Some, None, List, length, refl, sym, ◌∙◌, ap, subst, arith, [], ◌∷◌, ◌++◌, map}
use Rattle.std.specs.Prelude.{◌==◌, is_none, not}
use Rattle.std.proofs.lemmas.Bool.{and_parts, eqb-true, eq-eqb}
use Rattle.isa.specs.Registers.{reg, registers}
use Rattle.isa.specs.declared.instr.Instr.{Instr}
use Rattle.persist_buffer.specs.declared.entry.PendingEntry.{PendingEntry}
use Rattle.persist_buffer.specs.Memories.{is_marker}
use Rattle.processor.specs.Executions.{next_instruction}
use Rattle.machine.specs.Processors.{cpu_of, halted, program_of}
use Rattle.machine.specs.State.{Processor, State}
use Rattle.images.specs.Images.{IsImage, image_at}
use Rattle.explore.specs.Outcomes.{outcome_of, processor_outcome, processors_outcome, trap_numbers}
use Rattle.explore.specs.Ends.{IsEnd, all_run_as, has_ended, runs_as}
use Rattle.fewer_fences.specs.Thinner.{AreByPlace, Thins, is_no_write}
use Rattle.fewer_fences.proofs.ThinnedLists.{all_by_place, tail_by_place, thins_length}
use Rattle.fewer_fences.proofs.ThinnerMemories.{reached_too}
use Rattle.added_fences.specs.Added.{IsLeaner, IsLeanerProcessor}
use Rattle.added_fences.proofs.LeanerProcessors.{nothing_next}

is_there_none : (o : Option Instr) → is_none o ≡ true → o ≡ None
is_there_none None e = refl
is_there_none (Some instr) e = absurd (cc)

no_entry : (a b : ℕ) → a ≤ b → b ≡ 0 → a ≡ 0
no_entry a b fewer none = omega (arith, fewer, none)

ended_too : (over : List ℕ) (c e : Processor) → IsLeanerProcessor over c e → has_ended c ≡ true → has_ended e ≡ true
ended_too over c e h ended =
    let parts = and_parts (halted c) (length c.buffer == 0) ended in
    let halts : halted e ≡ true = ap is_none (nothing_next over c e h (is_there_none (next_instruction (program_of c) (cpu_of c)) parts.0)) in
    let empty : length e.buffer ≡ 0 = no_entry (length e.buffer) (length c.buffer) (thins_length is_no_write c.buffer e.buffer h.buffer) (eqb-true (length c.buffer) 0 parts.1) in
    rw (halts, eq-eqb (length e.buffer) 0 empty) refl

pub end_kept : (more less : State) → IsLeaner more less → IsEnd more → IsEnd less
end_kept more less h end = record {
  processors = all_by_place (IsLeanerProcessor more.shape) has_ended (ended_too more.shape) more.processors less.processors h.processors end.processors;
  pending = subst (λ (xs : List PendingEntry). Thins is_marker xs less.memory.pending) end.pending h.memory.pending;
}

runs_alike : (recovered : Bool) (over : List ℕ) (c e : Processor) → IsLeanerProcessor over c e → runs_as recovered c ≡ true → runs_as recovered e ≡ true
runs_alike true over c e h runs = h.recovering ∙ runs
runs_alike false over c e h runs = ap not h.recovering ∙ runs

pub mode_kept : (recovered : Bool) (more less : State) → IsLeaner more less → all_run_as recovered more.processors ≡ true → all_run_as recovered less.processors ≡ true
mode_kept recovered more less h all = all_by_place (IsLeanerProcessor more.shape) (runs_as recovered) (runs_alike recovered more.shape) more.processors less.processors h.processors all

-- ---- the outcome of an end

same_outcome : (over : List ℕ) (c e : Processor) → IsLeanerProcessor over c e → processor_outcome e ≡ processor_outcome c
same_outcome over c e h = λ i. trap_numbers (h.trap i) ++ map (reg (h.regs i)) registers

same_outcomes : (over : List ℕ) (xs ys : List Processor) → AreByPlace (IsLeanerProcessor over) xs ys → processors_outcome ys ≡ processors_outcome xs
same_outcomes over [] [] h = refl
same_outcomes over [] (e ∷ ys) h = let long = h.count in absurd (omega (arith, long))
same_outcomes over (c ∷ xs) [] h = let long = h.count in absurd (omega (arith, long))
same_outcomes over (c ∷ xs) (e ∷ ys) h =
    λ i. same_outcome over c e (h.each 0 c e refl refl) i ++ same_outcomes over xs ys (tail_by_place (IsLeanerProcessor over) c e xs ys h) i

pub outcome_kept : (more less : State) → IsLeaner more less → outcome_of less ≡ outcome_of more
outcome_kept more less h =
    λ i. same_outcomes more.shape more.processors less.processors h.processors i ++ image_at (h.shape i) (h.memory.persisted i)

-- ---- what a crash may leave

pub image_kept : (more less : State) (image : List ℕ) → IsLeaner more less → IsImage more image → IsImage less image
image_kept more less image h (persisted, reached, shown) =
    (persisted, reached_too more.memory less.memory persisted h.memory reached, shown ∙ ap (λ over. image_at over persisted) (sym h.shape))
