-- A persist and a settle are steps of the memory alone.
use Rattle.std.proofs.Common.{◌≡◌, ℕ, ◌+◌, ◌<◌, ◌≤◌, true, false, Result, Ok, Err, List, length, arith, sym, ◌∙◌, ap, refl, inl, inr}
use Rattle.std.specs.Prelude.{nat_le}
use Rattle.std.proofs.lemmas.Bool.{cases_Bool}
use Rattle.std.proofs.lemmas.Bool.Decides.{nat_tests}
use Rattle.machine.specs.declared.step.Step.{Step}
use Rattle.machine.specs.declared.step.Step.TheVariants.{Persist, Settle}
use Rattle.machine.specs.declared.step.Seen.{Seen}
use Rattle.machine.specs.declared.step.Seen.TheVariants.{Persisted, Settled}
use Rattle.machine.specs.declared.refusal.Refusal.{Refusal}
use Rattle.machine.specs.declared.refusal.Refusal.TheVariants.{Spent}
use Rattle.persist_buffer.specs.declared.fault.PendingFault.{PendingFault}
use Rattle.persist_buffer.specs.declared.fault.PendingFault.TheVariants.{NoLine}
use Rattle.machine.specs.Refusals.{of_pending}
use Rattle.machine.specs.Limits.{max_turns}
use Rattle.persist_buffer.specs.State.{Memory}
use Rattle.machine.specs.State.{State}
use Rattle.outcomes.specs.Outcomes.{◌>>=◌, refused_as}
use Rattle.persist_buffer.specs.Memories.{persist_on, persist_of, settle_of}
use Rattle.machine.specs.Steps.{step_of}
use Rattle.outcomes.proofs.PartsOfOutcomes.{answer_of}
use Rattle.persist_buffer.proofs.PersistingIsASplit.{persisting_only, persisting_always, settling_only, settling_always}
use Rattle.machine.specs.StepRelations.{IsMemoryTurn, IsPersistStep, IsSettleStep}

-- the state in which the memory is another, one turn later
abbrev turned : State → Memory → State
turned s m = record s { turns = s.turns + 1; memory = m }

-- what a step of the memory alone comes to, where what it does there is known
abbrev memory_step : {A : Type 0} → State → (A → Seen) → Result (A × Memory) PendingFault → Result (Seen × State) Refusal
memory_step s shows (Ok done) = Ok (shows done.0, turned s done.1)
memory_step s shows (Err fault) = Err (of_pending fault)

-- an accepted step of the memory alone
pub record IsMemoryStep {A : Type 0} (s t : State) (seen : Seen) (shows : A → Seen) (did : Result (A × Memory) PendingFault) : Type 0 where
  pub answer : A
  pub is : did ≡ Ok (answer, t.memory)
  pub shown : seen ≡ shows answer
  pub frame : IsMemoryTurn s t

memory_step_only : {A : Type 0} (s t : State) (seen : Seen) (shows : A → Seen) (did : Result (A × Memory) PendingFault) → memory_step s shows did ≡ Ok (seen, t) → IsMemoryStep s t seen shows did
memory_step_only s t seen shows (Ok done) e =
    let parts = answer_of (shows done.0) seen (turned s done.1) t e in
    record {
      answer = done.0;
      is = λ i. Ok (done.0, sym (ap (λ (x : State). x.memory) parts.1) i);
      shown = parts.0;
      frame = record {
        turns = ap (λ (x : State). x.turns) parts.1;
        crashes = ap (λ (x : State). x.crashes) parts.1;
        shape = ap (λ (x : State). x.shape) parts.1;
        processors = ap (λ (x : State). x.processors) parts.1;
      };
    }
memory_step_only s t seen shows (Err fault) e = absurd (cc)

memory_step_always : {A : Type 0} (s t : State) (seen : Seen) (shows : A → Seen) (answer : A) (did : Result (A × Memory) PendingFault)
    → did ≡ Ok (answer, t.memory) → seen ≡ shows answer → IsMemoryTurn s t → memory_step s shows did ≡ Ok (seen, t)
memory_step_always s t seen shows answer did e shown f =
    let whole : turned s t.memory ≡ t = λ i. record { turns = sym f.turns i; crashes = sym f.crashes i; shape = sym f.shape i; processors = sym f.processors i; memory = t.memory } in
    ap (memory_step s shows) e ∙ (λ i. Ok (sym shown i, whole i))

abbrev counted : ℕ → Seen × State → Result (Seen × State) Refusal
counted turns done = Ok (done.0, record done.1 { turns = turns + 1 })

one_step : {A : Type 0} (s : State) (shows : A → Seen) (did : Result (A × Memory) PendingFault)
    → ((refused_as of_pending did >>= λ done. Ok (shows done.0, record s { memory = done.1 })) >>= counted s.turns) ≡ memory_step s shows did
one_step s shows (Ok done) = refl
one_step s shows (Err fault) = refl

abbrev persists : ℕ × ℕ → Seen
persists written = Persisted written.0 written.1

persist_is : (s : State) (line : ℕ) → nat_le max_turns s.turns ≡ false → step_of s (Persist line) ≡ memory_step s persists (persist_of s.shape s.memory line)
persist_is s line goes = rw goes (one_step s persists (persist_of s.shape s.memory line))

settle_is : (s : State) → nat_le max_turns s.turns ≡ false → step_of s Settle ≡ memory_step s (λ line. Settled line) (settle_of s.memory)
settle_is s goes = rw goes (one_step s (λ line. Settled line) (settle_of s.memory))

pub below : (a b : ℕ) → nat_le b a ≡ false → a < b
below a b e = grind (arith, nat_tests, e)

pub not_past : (a b : ℕ) → a < b → nat_le b a ≡ false
not_past a b e = grind (arith, nat_tests, e)

pub turn_left : (s t : State) (step : Step) (seen : Seen) → step_of s step ≡ Ok (seen, t) → nat_le max_turns s.turns ≡ false
turn_left s t step seen e =
    elim (cases_Bool (nat_le max_turns s.turns)) [
      | inl spent ↦ let refused : ◌≡◌ {A = Result (Seen × State) Refusal} (Err Spent) (Ok (seen, t)) = rw spent at e in absurd (cc)
      | inr goes ↦ goes
    ]

pub step_in_time : (s t : State) (step : Step) (seen : Seen) → step_of s step ≡ Ok (seen, t) → s.turns < max_turns
step_in_time s t step seen e = below s.turns max_turns (turn_left s t step seen e)

pub step_spent : (s : State) (step : Step) → max_turns ≤ s.turns → step_of s step ≡ Err Spent
step_spent s step past =
    let spent : nat_le max_turns s.turns ≡ true = grind (arith, nat_tests) in
    rw spent refl

line_there : (shape : List ℕ) (m : Memory) (line : ℕ) (answer : ℕ × ℕ) (n : Memory) → persist_of shape m line ≡ Ok (answer, n) → nat_le (length shape) line ≡ false
line_there shape m line answer n e =
    elim (cases_Bool (nat_le (length shape) line)) [
      | inl past ↦ let refused : ◌≡◌ {A = Result ((ℕ × ℕ) × Memory) PendingFault} (Err NoLine) (Ok (answer, n)) = rw past at e in absurd (cc)
      | inr there ↦ there
    ]

-- persisting on a line that is there
persist_there : (shape : List ℕ) (m : Memory) (line : ℕ) → nat_le (length shape) line ≡ false → persist_of shape m line ≡ persist_on m line
persist_there shape m line there = rw there refl

persist_step : (s t : State) (line : ℕ) (seen : Seen) → step_of s (Persist line) ≡ Ok (seen, t) → IsMemoryStep s t seen persists (persist_of s.shape s.memory line)
persist_step s t line seen e = memory_step_only s t seen persists (persist_of s.shape s.memory line) (sym (persist_is s line (turn_left s t (Persist line) seen e)) ∙ e)

settle_step : (s t : State) (seen : Seen) → step_of s Settle ≡ Ok (seen, t) → IsMemoryStep s t seen (λ line. Settled line) (settle_of s.memory)
settle_step s t seen e = memory_step_only s t seen (λ line. Settled line) (settle_of s.memory) (sym (settle_is s (turn_left s t Settle seen e)) ∙ e)

pub persist_only : (s t : State) (line : ℕ) (seen : Seen) → step_of s (Persist line) ≡ Ok (seen, t) → IsPersistStep line s t seen
persist_only s t line seen e =
    let did = persist_step s t line seen e in
    let there = line_there s.shape s.memory line did.answer t.memory did.is in
    let split = persisting_only line s.memory t.memory did.answer.0 did.answer.1 (sym (persist_there s.shape s.memory line there) ∙ did.is) in
    record {
      word = did.answer.0;
      value = did.answer.1;
      before = split.0;
      later = split.1;
      turn_left = step_in_time s t (Persist line) seen e;
      there = below line (length s.shape) there;
      split = split.2;
      shown = did.shown;
      alone = did.frame;
    }

pub persist_always : (s t : State) (line : ℕ) (seen : Seen) → IsPersistStep line s t seen → step_of s (Persist line) ≡ Ok (seen, t)
persist_always s t line seen x =
    let on_line = not_past line (length s.shape) x.there in
    let did : persist_of s.shape s.memory line ≡ Ok ((x.word, x.value), t.memory) =
    persist_there s.shape s.memory line on_line ∙ persisting_always line s.memory t.memory x.word x.value x.before x.later x.split in
    persist_is s line (not_past s.turns max_turns x.turn_left)
    ∙ memory_step_always s t seen persists (x.word, x.value) (persist_of s.shape s.memory line) did x.shown x.alone

pub settle_only : (s t : State) (seen : Seen) → step_of s Settle ≡ Ok (seen, t) → IsSettleStep s t seen
settle_only s t seen e =
    let did = settle_step s t seen e in
    let split = settling_only s.memory t.memory did.answer did.is in
    record {
      line = did.answer;
      before = split.0;
      later = split.1;
      turn_left = step_in_time s t Settle seen e;
      split = split.2;
      shown = did.shown;
      alone = did.frame;
    }

pub settle_always : (s t : State) (seen : Seen) → IsSettleStep s t seen → step_of s Settle ≡ Ok (seen, t)
settle_always s t seen x =
    let did : settle_of s.memory ≡ Ok (x.line, t.memory) = settling_always x.line s.memory t.memory x.before x.later x.split in
    settle_is s (not_past s.turns max_turns x.turn_left)
    ∙ memory_step_always s t seen (λ line. Settled line) x.line (settle_of s.memory) did x.shown x.alone
