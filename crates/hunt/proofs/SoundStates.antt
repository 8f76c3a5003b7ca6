-- Steps keep a state one that a loaded machine can have, and so its images are listed.
use Rattle.std.proofs.Common.{◌≡◌, ℕ, ◌≤◌, Some, None, Result, Ok, Err, List, [], ◌∷◌, length, refl, sym, ap, ◌∙◌, subst, arith, length-set}
use Rattle.std.proofs.lemmas.List.{length-map}
use Rattle.std.proofs.lemmas.List.Elements.{All-map}
use Rattle.isa.specs.Objects.{IsObject, Object}
use Rattle.lines_layout.specs.Layouts.{IsLayout}
use Rattle.lines_layout.specs.Lines.{line_words, max_lines}
use Rattle.lines_layout.specs.Names.{Text}
use Rattle.lines_layout.specs.Shapes.{IsShape}
use Rattle.store_buffer.specs.declared.entry.Entry.{Entry}
use Rattle.store_buffer.specs.declared.entry.Entry.TheVariants as entries
use Rattle.persist_buffer.specs.declared.entry.PendingEntry.{PendingEntry}
use Rattle.persist_buffer.specs.declared.entry.PendingEntry.TheVariants.{Write, Marker}
use Rattle.persist_buffer.specs.Listings.{LinesBelow}
use Rattle.persist_buffer.specs.State.{Memory}
use Rattle.processor.specs.declared.act.Act.{Act}
use Rattle.processor.specs.declared.act.Act.TheVariants.{Local, Fence, Read, Delay, Locked, Trap}
use Rattle.processor.specs.Contents.{Contents}
use Rattle.processor.specs.Acts.{IsShown}
use Rattle.machine.specs.declared.refusal.Refusal.{Refusal}
use Rattle.machine.specs.declared.step.Step.{Step}
use Rattle.machine.specs.declared.step.Step.TheVariants.{Exec, Drain, Persist, Settle, Crash}
use Rattle.machine.specs.declared.step.Seen.{Seen}
use Rattle.machine.specs.Objects.{opening}
use Rattle.machine.specs.State.{State}
use Rattle.machine.specs.Processors.{contents_of, receive_of}
use Rattle.machine.specs.Steps.{End, end_after, run_of, step_of}
use Rattle.machine.proofs.CrashKeepsWhatIsPersisted.{memory_after}
use Rattle.machine.proofs.DrainingIsASplit.{fence_disappears, flush_arrives, optimized_flush_arrives, write_arrives}
use Rattle.machine.proofs.ExecShowsAll.{exec_shown}
use Rattle.machine.proofs.PersistAndSettleStepsSplit.{persist_only, settle_only}
use Rattle.machine.proofs.ProcessorSteps.{drain_only, exec_only}
use Rattle.machine.proofs.RunIsAPrefix.{run_shape}
use Rattle.machine.proofs.WritesKeepToTheShape.{opening_within, run_within_shape}
use Rattle.pending_images.proofs.ImagesAreListed.{is_listing}
use Rattle.images.specs.Images.{IsListing, images_of}
use Rattle.images.proofs.StepsReach.{lines_within}
use Rattle.hunt.specs.Losses.{IsSound}

persisted_shown : (act : Act) (s t : Contents) → IsShown act s t → t.memory.persisted ≡ s.memory.persisted
persisted_shown Local s t shown = ap (λ (x : Contents). x.memory.persisted) shown
persisted_shown Fence s t shown = ap (λ (x : Contents). x.memory.persisted) shown.1
persisted_shown (Read word value) s t shown = ap (λ (x : Contents). x.memory.persisted) shown.1
persisted_shown (Delay entry) s t shown = ap (λ (m : Memory). m.persisted) shown.memory
persisted_shown (Locked word value None) s t shown = ap (λ (x : Contents). x.memory.persisted) shown.2
persisted_shown (Locked word value (Some new)) s t shown = shown.2.persisted
persisted_shown (Trap address) s t shown = ap (λ (x : Contents). x.memory.persisted) shown.1

received : (entry : Entry) (m n : Memory) → receive_of m entry ≡ Ok n → n.persisted ≡ m.persisted
received (entries.Write word value) m n e = (write_arrives m n word value e).persisted
received (entries.Flush line) m n e = (flush_arrives m n line e).persisted
received (entries.FlushOpt line) m n e = (optimized_flush_arrives m n line e).persisted
received entries.Sfence m n e = ap (λ (x : Memory). x.persisted) (fence_disappears m n e)

step_words : (s u : State) (step : Step) (seen : Seen) → step_of s step ≡ Ok (seen, u) → length u.memory.persisted ≡ length s.memory.persisted
step_words s u (Exec p) seen e =
    let x = exec_only s u p seen e in
    ap (λ (xs : List ℕ). length xs) (persisted_shown x.act (contents_of s.shape x.before.buffer s.memory) (contents_of s.shape x.after.buffer u.memory)
    (exec_shown s.shape x.before x.after s.memory u.memory x.act x.ran))
step_words s u (Drain p i) seen e = let x = drain_only s u p i seen e in ap (λ (xs : List ℕ). length xs) (received x.entry s.memory u.memory x.arrived)
step_words s u (Persist line) seen e =
    let x = persist_only s u line seen e in ap (λ (xs : List ℕ). length xs) x.split.persisted ∙ length-set s.memory.persisted x.word x.value
step_words s u Settle seen e = let x = settle_only s u seen e in ap (λ (xs : List ℕ). length xs) x.split.persisted
step_words s u Crash seen e = ap (λ (m : Memory). length m.persisted) (memory_after s u seen e)

words_on : (step : Step) (s : State) (r : Result (Seen × State) Refusal) (rest : State → End) → step_of s step ≡ r
    → ((u : State) → length (rest u).state.memory.persisted ≡ length u.memory.persisted) → length (end_after s r rest).state.memory.persisted ≡ length s.memory.persisted
words_on step s (Ok done) rest is each = each done.1 ∙ step_words s done.1 step done.0 is
words_on step s (Err refusal) rest is each = refl

run_words : (steps : List Step) (s : State) → length (run_of steps s).state.memory.persisted ≡ length s.memory.persisted
run_words [] s = refl
run_words (step ∷ steps) s = words_on step s (step_of s step) (run_of steps) refl (run_words steps)

pub run_sound : (steps : List Step) (s : State) → IsSound s → IsSound (run_of steps s).state
run_sound steps s sound = record {
  shape = subst IsShape (sym (run_shape steps s)) sound.shape;
  persisted = run_words steps s ∙ sound.persisted;
  within = run_within_shape steps s sound.within;
}

sound_opening : (object : Object) → IsLayout object.layout → IsObject object → IsSound (opening object)
sound_opening object named is = record {
  shape = record {
    lines = subst (λ (n : ℕ). n ≤ max_lines) (sym (length-map object.layout (λ (line : List Text). length line))) named.few;
    words = All-map (λ (n : ℕ). n ≤ line_words) (λ (line : List Text). length line) object.layout named.short;
  };
  persisted = is.count;
  within = opening_within object is.loadable;
}

-- the state of a program after steps
pub loaded_sound : (object : Object) (steps : List Step) → IsLayout object.layout → IsObject object → IsSound (run_of steps (opening object)).state
loaded_sound object steps named is = run_sound steps (opening object) (sound_opening object named is)

fewer_lines : (lines most : ℕ) (es : List PendingEntry) → lines ≤ most → LinesBelow lines es → LinesBelow most es
fewer_lines lines most [] few below = tt
fewer_lines lines most (Write word value ∷ es) few below = let first = below.0 in (omega (arith, first, few), fewer_lines lines most es few below.1)
fewer_lines lines most (Marker line ∷ es) few below = fewer_lines lines most es few below

pub sound_listing : (s : State) → IsSound s → IsListing s (images_of s)
sound_listing s sound =
    is_listing s.shape s.memory sound.shape (fewer_lines (length s.shape) max_lines s.memory.pending sound.shape.lines (lines_within s sound.within)) sound.persisted
