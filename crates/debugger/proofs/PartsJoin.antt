-- Steps made in two parts leave the session that they leave in one; and what watchers note of steps, one after another.
use Rattle.std.proofs.Common.{◌≡◌, None, ℕ, suc, ◌+◌, Result, Ok, Err, List, [], ◌∷◌, ◌++◌, length, map, refl, ap, sym, ◌∙◌, arith, append_assoc, append-nil}
use Rattle.std.proofs.lemmas.List.{length-append}
use Rattle.outcomes.specs.declared.or_no_memory.OrNoMemory.{OrNoMemory}
use Rattle.outcomes.specs.declared.or_no_memory.OrNoMemory.TheVariants.{Fault, NoMemory}
use Rattle.machine.specs.State.{State}
use Rattle.machine.specs.declared.step.Seen.{Seen}
use Rattle.machine.specs.declared.step.Step.{Step}
use Rattle.machine.specs.declared.refusal.Refusal.{Refusal}
use Rattle.machine.specs.Steps.{End, step_of, end_after, run_of}
use Rattle.debugger.specs.Notes.{Selection, meaning, noted}
use Rattle.debugger.specs.Stops.{Armed}
use Rattle.debugger.specs.declared.note.Note.{Note}
use Rattle.debugger.specs.Pasts.{Past, past, AreAccepted}
use Rattle.debugger.specs.Sessions.{Watch, watch, watch_told, SessionValue, session, notes_after, notes_of, watched, after}
use Rattle.debugger.specs.Turns.{HasAdvanced, HasTurned}
use Rattle.debugger.proofs.HistoriesLeadToStates.{run_state, one_state}

module _ (selects : Selection) (ys : List Step) where
  notes_parts_on : (number n : ℕ) (s : State) (r : Result (Seen × State) Refusal) (first both : State → List Note) (end : State → End)
      → ((t : State) → (end t).refusal ≡ None → both t ≡ first t ++ notes_of selects n (end t).state ys)
      → (end_after s r end).refusal ≡ None → notes_after selects number r both ≡ notes_after selects number r first ++ notes_of selects n (end_after s r end).state ys
  notes_parts_on number n s (Ok done) first both end h a =
      ap (λ (ns : List Note). noted selects number done.0 done.1 ++ ns) (h done.1 a)
      ∙ sym (append_assoc (noted selects number done.0 done.1) (first done.1) (notes_of selects n (end done.1).state ys))
  notes_parts_on number n s (Err refusal) first both end h a = absurd (cc)

  pub notes_parts : (n : ℕ) (xs : List Step) (s : State) → AreAccepted xs s → notes_of selects n s (xs ++ ys) ≡ notes_of selects n s xs ++ notes_of selects (n + length xs) (run_of xs s).state ys
  notes_parts n [] s a = let e : n ≡ n + 0 = omega arith in ap (λ (k : ℕ). notes_of selects k s ys) e
  notes_parts n (x ∷ xs) s a =
      let e : (n + 1) + length xs ≡ n + suc (length xs) = omega arith in
      notes_parts_on (n + 1) (n + suc (length xs)) s (step_of s x) (λ t. notes_of selects (n + 1) t xs) (λ t. notes_of selects (n + 1) t (xs ++ ys)) (run_of xs)
      (λ t b. notes_parts (n + 1) xs t b ∙ ap (λ (k : ℕ). notes_of selects (n + 1) t xs ++ notes_of selects k (run_of xs t).state ys) e) a

pub map_same : {X Y : Type 0} (f g : X → Y) (xs : List X) → ((x : X) → f x ≡ g x) → map f xs ≡ map g xs
map_same f g [] h = refl
map_same f g (x ∷ xs) h = ap (λ y. y ∷ map f xs) (h x) ∙ ap (λ ys. g x ∷ ys) (map_same f g xs h)

pub map-map_same : {X : Type 0} (f g h : X → X) (xs : List X) → ((x : X) → g (f x) ≡ h x) → map g (map f xs) ≡ map h xs
map-map_same f g h [] e = refl
map-map_same f g h (x ∷ xs) e = ap (λ y. y ∷ map g (map f xs)) (e x) ∙ ap (λ ys. h x ∷ ys) (map-map_same f g h xs e)

map_still : {X : Type 0} (f : X → X) (xs : List X) → ((x : X) → f x ≡ x) → map f xs ≡ xs
map_still f [] e = refl
map_still f (x ∷ xs) e = ap (λ y. y ∷ map f xs) (e x) ∙ ap (λ ys. x ∷ ys) (map_still f xs e)

pub session_same : {p q : Past} {ts : List Armed} {ws ws' : List Watch} → p ≡ q → ws ≡ ws' → session p ts ws ≡ session q ts ws'
session_same {p} {q} {ts} {ws} {ws'} e h = ap (λ (x : Past). session x ts ws) e ∙ ap (λ (x : List Watch). session q ts x) h

pub stops_same : {p : Past} {ts us : List Armed} {ws : List Watch} → ts ≡ us → session p ts ws ≡ session p us ws
stops_same {p} {ts} {us} {ws} e = ap (λ (x : List Armed). session p x ws) e

pub past_same : {o : State} {h h' : List Step} {s s' : State} → h ≡ h' → s ≡ s' → past o h s ≡ past o h' s'
past_same {o} {h} {h'} {s} {s'} p q = ap (λ (x : List Step). past o x s) p ∙ ap (λ (x : State). past o h' x) q

notes_same : {i : ℕ} {f : Selection} {ms ns : List Note} → ms ≡ ns → watch i (meaning ms f) ≡ watch i (meaning ns f)
notes_same {i} {f} e = ap (λ ns. watch i (meaning ns f)) e

pub after-append : (v : SessionValue) (xs ys : List Step) → AreAccepted xs v.past.state → after (after v xs) ys ≡ after v (xs ++ ys)
after-append v xs ys a =
    session_same (past_same (append_assoc v.past.history xs ys) (sym (run_state xs ys v.past.state a)))
    (map-map_same (watched (length v.past.history) v.past.state xs) (watched (length (v.past.history ++ xs)) (run_of xs v.past.state).state ys) (watched (length v.past.history) v.past.state (xs ++ ys)) v.watches (λ w.
    notes_same (append_assoc w.means.notes (notes_of w.means.selects (length v.past.history) v.past.state xs) (notes_of w.means.selects (length (v.past.history ++ xs)) (run_of xs v.past.state).state ys)
    ∙ ap (λ (ns : List Note). w.means.notes ++ ns) (ap (λ (k : ℕ). notes_of w.means.selects (length v.past.history) v.past.state xs ++ notes_of w.means.selects k (run_of xs v.past.state).state ys) (length-append v.past.history xs) ∙ sym (notes_parts w.means.selects ys (length v.past.history) xs v.past.state a)))))

pub after-none : (v : SessionValue) → after v [] ≡ v
after-none v = session_same (past_same (append-nil v.past.history) refl) (map_still (watched (length v.past.history) v.past.state []) v.watches (λ w. notes_same (append-nil w.means.notes)))

-- a step that was not made
pub stood : (p q : Past) (ts : List Armed) (ws ws' : List Watch) (step : Step) (e : OrNoMemory Refusal) → HasAdvanced p q step (Err e) → ws' ≡ ws → HasTurned (session p ts ws) (session q ts ws') step (Err e)
stood p q ts ws ws' step (Fault refusal) is same = (session_same is.1 same, is.0)
stood p q ts ws ws' step NoMemory is same = session_same is same

one_noted : (e : Step) (s t : State) (d : Seen) (n k : ℕ) (w : Watch) → step_of s e ≡ Ok (d, t) → k ≡ n + 1 → watch_told k d t w ≡ watched n s (e ∷ []) w
one_noted e s t d n k w r p = notes_same (rw (r, p) (ap (λ (ns : List Note). w.means.notes ++ ns) (sym (append-nil (noted w.means.selects (n + 1) d t)))))

-- one accepted step
pub stepped : (p q : Past) (ts : List Armed) (ws ws' : List Watch) (e : Step) (d : Seen) (n : ℕ) → step_of p.state e ≡ Ok (d, q.state) → q ≡ past p.opening (p.history ++ e ∷ []) q.state → n ≡ length p.history + 1 → ws' ≡ map (watch_told n d q.state) ws → session q ts ws' ≡ after (session p ts ws) (e ∷ [])
stepped p q ts ws ws' e d n r is k h =
    session_same (is ∙ ap (λ (x : State). past p.opening (p.history ++ e ∷ []) x) (sym (one_state e p.state q.state d r)))
    (h ∙ map_same (watch_told n d q.state) (watched (length p.history) p.state (e ∷ [])) ws (λ w. one_noted e p.state q.state d (length p.history) n w r k))
