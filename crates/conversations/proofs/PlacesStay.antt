-- A conversation stays about its program.
use Rattle.std.proofs.Common.{◌≡◌, ℕ, zero, suc, List, [], ◌∷◌, ◌++◌, Bool, true, false, Option, Some, None, Result, Ok, Err, length, take, refl, sym, ◌∙◌, ap, subst}
use Rattle.std.specs.Prelude.{◌-◌, ◌&&◌, if◌then◌else◌, is_some, min, nat_lt, slice_get}
use Rattle.litmus_text.specs.declared.text_lines.LinedObject.{LinedObject}
use Rattle.images.specs.Images.{closed_set_of}
use Rattle.machine.specs.State.{State}
use Rattle.machine.specs.Steps.{End, run_of}
use Rattle.machine.specs.declared.step.Step.{Step}
use Rattle.explore.specs.Falls.{fall_at}
use Rattle.jobs.specs.NextSteps.{next_steps}
use Rattle.debugger.specs.Halts.{halt_of, made}
use Rattle.debugger.specs.Pasts.{AreAccepted, IsPast, Leads, Past, undone}
use Rattle.debugger.specs.Sessions.{SessionValue, after, gone_back, stop_of, unmade, watch, watch_of, with_stop, with_watch, without_stop, without_watch}
use Rattle.debugger.specs.Stops.{armed}
use Rattle.debugger.specs.Notes.{meaning}
use Rattle.debugger.specs.Writes.{word_selection}
use Rattle.debugger.specs.Stopping.{IsHalt}
use Rattle.debugger.specs.declared.halt.Halt.{Halt}
use Rattle.debugger.specs.declared.halt.Halt.TheVariants as halts
use Rattle.debugger.proofs.HistoriesLeadToStates.{front_accepted, leads, led_front, run_accepted, run_state}
use Rattle.debugger.proofs.LeastPrefixStops.{halt_so}
use Rattle.debug_scripts.specs.Ahead.{all_ahead}
use Rattle.debug_scripts.specs.DebugReports.{Stand}
use Rattle.debug_scripts.specs.declared.orders.Command.{Command}
use Rattle.debug_scripts.specs.declared.orders.Command.TheVariants as commands
use Rattle.conversations.specs.declared.asked.Asked.{Asked}
use Rattle.conversations.specs.declared.asked.Asked.TheVariants as asks
use Rattle.conversations.specs.declared.asked.Order.{Order}
use Rattle.conversations.specs.declared.asked.Order.TheVariants as orders
use Rattle.conversations.specs.declared.line_fault.LineFault.{LineFault}
use Rattle.conversations.specs.Asking.{asked_of}
use Rattle.conversations.specs.Checking.{Found}
use Rattle.conversations.specs.declared.moment.Moment.{Moment}
use Rattle.conversations.specs.Answered.{Answer, Place, answered, broken_at, crashed_at, deleted_at, gone_to, ordered, picked_at, scripted_at, unarmed, unmade_at, walked_by}
use Rattle.conversations.specs.Breaks.{has_break, may_come, session_made, unbroken}
use Rattle.conversations.specs.Desks.{Declaration}
use Rattle.conversations.specs.Eager.{is_met, most_steps, runs_of, steps_to, steps_until}
use Rattle.conversations.specs.declared.eager.Aim.TheVariants.{Nowhere}
use Rattle.conversations.specs.Reversing.{is_stopped, reversed}
use Rattle.conversations.specs.Staying.{IsAbout, StaysAbout}

module _ (lined : LinedObject) where
  -- a session with the same past
  same_past : (v w : SessionValue) → w.past ≡ v.past → IsAbout lined v → IsAbout lined w
  same_past v w same is = record { begun = ap (λ (p : Past). p.opening) same ∙ is.begun; led = subst IsPast (sym same) is.led }

  -- more steps, which are accepted
  with_steps : (v : SessionValue) (steps : List Step) → AreAccepted steps v.past.state → IsAbout lined v → IsAbout lined (after v steps)
  with_steps v steps ok is =
      let first : AreAccepted v.past.history v.past.opening = ap (λ (x : End). x.refusal) is.led in
      let here : (run_of v.past.history v.past.opening).state ≡ v.past.state = ap (λ (x : End). x.state) is.led in
      let second : AreAccepted steps (run_of v.past.history v.past.opening).state = subst (λ (s : State). AreAccepted steps s) (sym here) ok in
      let there : (run_of (v.past.history ++ steps) v.past.opening).state ≡ (run_of steps v.past.state).state =
      run_state v.past.history steps v.past.opening first ∙ ap (λ (s : State). (run_of steps s).state) here in
      record {
        begun = is.begun;
        led = subst (λ (t : State). Leads v.past.opening (v.past.history ++ steps) t) there
            (leads (v.past.history ++ steps) v.past.opening (run_accepted v.past.history steps v.past.opening first second));
      }

  -- steps that are made, up to where they halt
  made_accepted : (v : SessionValue) (steps : List Step) (h : Halt) → IsHalt v steps h → AreAccepted (take (made steps h) steps) v.past.state
  made_accepted v steps (halts.Stop id n) is = is.accepted
  made_accepted v steps (halts.Refused n refusal) is = is.accepted
  made_accepted v steps (halts.NoMemory n) never = absurd never
  made_accepted v steps halts.End is = front_accepted (length steps) steps v.past.state is.accepted

  made_about : (v : SessionValue) (ds : List Declaration) (steps : List Step) → IsAbout lined v → IsAbout lined (session_made lined ds v steps)
  made_about v ds steps is =
      let some = unbroken lined ds v.past.state steps in
      with_steps v (take (made some (halt_of v some)) some) (made_accepted v some (halt_of v some) (halt_so v some)) is

  -- fewer steps
  fewer_about : (v w : SessionValue) (n : ℕ) → w.past ≡ undone v.past n → IsAbout lined v → IsAbout lined w
  fewer_about v w n gone is =
      let kept = take (length v.past.history - n) v.past.history in
      let led : Leads v.past.opening kept (run_of kept v.past.opening).state =
      led_front v.past.opening v.past.state (run_of kept v.past.opening).state v.past.history kept (length v.past.history - n) is.led refl refl in
      record { begun = ap (λ (p : Past). p.opening) gone ∙ is.begun; led = subst IsPast (sym gone) led }

  -- the one session or the other
  one_about : (b : Bool) (v w : SessionValue) → IsAbout lined v → IsAbout lined w → IsAbout lined (if b then v else w)
  one_about true v w one other = one
  one_about false v w one other = other

  reversed_about : (n : ℕ) (v : SessionValue) → IsAbout lined v → IsAbout lined (reversed n v)
  reversed_about zero v is = is
  reversed_about (suc n) v is =
      let back : IsAbout lined (unmade v 1) = fewer_about v (unmade v 1) 1 refl is in
      one_about (is_stopped (unmade v 1)) (unmade v 1) (reversed n (unmade v 1)) back (reversed_about n (unmade v 1) back)

  -- ---- answers

  picked_about : (p : Place) (n : ℕ) (found : Option Step) → IsAbout lined p.session → IsAbout lined (picked_at lined p n found).place.session
  picked_about p n (Some step) is = made_about p.session p.declared (step ∷ []) is
  picked_about p n None is = is

  walked_about : (p : Place) (found : Option Step) → IsAbout lined p.session → IsAbout lined (walked_by lined p found).place.session
  walked_about p (Some step) is = made_about p.session p.declared (step ∷ []) is
  walked_about p None is = is

  crashed_about : (p : Place) (found : Option (List ℕ)) → IsAbout lined p.session → IsAbout lined (crashed_at lined p found).place.session
  crashed_about p (Some places) is = made_about p.session p.declared (fall_at p.session.past.state.memory.pending places) is
  crashed_about p None is = is

  -- the one answer or the other, and the one stand or the other
  answer_about : (b : Bool) (x y : Answer) → IsAbout lined x.place.session → IsAbout lined y.place.session → IsAbout lined (if b then x else y).place.session
  answer_about true x y one other = one
  answer_about false x y one other = other

  stand_about : (b : Bool) (x y : Stand) → IsAbout lined x.session → IsAbout lined y.session → IsAbout lined (if b then x else y).session
  stand_about true x y one other = one
  stand_about false x y one other = other

  unmade_about : (p : Place) (n : ℕ) → IsAbout lined p.session → IsAbout lined (unmade_at p n).place.session
  unmade_about p n is = answer_about (nat_lt (length p.session.past.history) n) _ _ is (fewer_about p.session (unmade p.session n) n refl is)

  gone_about : (p : Place) (n : ℕ) → IsAbout lined p.session → IsAbout lined (gone_to p n).place.session
  gone_about p n is = answer_about (nat_lt (length p.session.past.history) n) _ _ is (unmade_about p (length p.session.past.history - n) is)

  deleted_about : (p : Place) (id : ℕ) → IsAbout lined p.session → IsAbout lined (deleted_at p id).place.session
  deleted_about p id is =
      let v = p.session in
      let one : IsAbout lined (unarmed v id) = one_about (is_some (stop_of v id)) (without_stop v id) v (same_past v (without_stop v id) refl is) is in
      one_about (is_some (watch_of (unarmed v id) id)) (without_watch (unarmed v id) id) (unarmed v id) (same_past (unarmed v id) (without_watch (unarmed v id) id) refl one) one

  scripted_about : (p : Place) (command : Command) → IsAbout lined p.session → IsAbout lined (scripted_at lined p command).place.session
  scripted_about p (commands.Gather step) is = is
  scripted_about p commands.Go is = made_about p.session p.declared p.ahead.gathered is
  scripted_about p commands.Continue is = made_about p.session p.declared (all_ahead p.ahead) is
  scripted_about p (commands.Back n) is =
      stand_about (nat_lt (length p.session.past.history) n) _ _ is (fewer_about p.session (gone_back p.session n) n refl is)
  scripted_about p commands.Show is = is
  scripted_about p commands.Images is = is
  scripted_about p (commands.Values asked) is = is
  scripted_about p (commands.Disarm id) is = one_about (is_some (stop_of p.session id)) (without_stop p.session id) p.session (same_past p.session (without_stop p.session id) refl is) is
  scripted_about p (commands.Detach id) is = one_about (is_some (watch_of p.session id)) (without_watch p.session id) p.session (same_past p.session (without_watch p.session id) refl is) is

  broken_about : (p : Place) (line : List ℕ) (id : ℕ) (moment : Moment) → IsAbout lined p.session → IsAbout lined (broken_at lined p line id moment).place.session
  broken_about p line id moment is = answer_about (may_come lined moment) _ _ (answer_about (has_break p.declared id) _ _ is is) is

  ordered_about : (p : Place) (line : List ℕ) (order : Order) → IsAbout lined p.session → IsAbout lined (ordered lined p line order).place.session
  ordered_about p line orders.Nothing is = is
  ordered_about p line (orders.Script command) is = scripted_about p command is
  ordered_about p line (orders.Make step) is = made_about p.session p.declared (step ∷ []) is
  ordered_about p line orders.Walk is = walked_about p (slice_get (all_ahead p.ahead) 0) is
  ordered_about p line (orders.Run n) is = made_about p.session p.declared (steps_to (is_met Nowhere) (min n most_steps) p.session.past.state) is
  ordered_about p line (orders.Until processor place) is = made_about p.session p.declared (steps_until processor place p.session.past.state) is
  ordered_about p line (orders.Finish processor) is = made_about p.session p.declared (runs_of processor) is
  ordered_about p line (orders.Undo n) is = unmade_about p n is
  ordered_about p line (orders.Goto n) is = gone_about p n is
  ordered_about p line orders.Reverse is = reversed_about (length p.session.past.history) p.session is
  ordered_about p line orders.Ahead is = is
  ordered_about p line orders.List is = is
  ordered_about p line orders.Next is = is
  ordered_about p line (orders.Pick n) is = picked_about p n (slice_get (next_steps false p.session.past.state) n) is
  ordered_about p line (orders.Word word) is = is
  ordered_about p line (orders.Register processor r) is = is
  ordered_about p line (orders.All cond) is = is
  ordered_about p line (orders.Broken cond) is = is
  ordered_about p line (orders.Set image) is = is
  ordered_about p line (orders.Why image) is = is
  ordered_about p line (orders.CrashTo image) is = crashed_about p (closed_set_of p.session.past.state image) is
  ordered_about p line orders.Info is = is
  ordered_about p line (orders.Delete id) is = deleted_about p id is
  ordered_about p line (orders.Break id moment) is = broken_about p line id moment is
  ordered_about p line orders.Changed is = is
  ordered_about p line orders.Notes is = is
  ordered_about p line orders.History is = is
  ordered_about p line orders.Help is = is
  ordered_about p line (orders.Row word) is = is
  ordered_about p line orders.Quit is = is

  answered_about : (p : Place) (line : List ℕ) (asked : Result Asked LineFault) (found : Found) → IsAbout lined p.session → IsAbout lined (answered lined p line asked found).place.session
  answered_about p line (Ok (asks.Stop id cond)) found is =
      answer_about (is_some (stop_of p.session id)) _ _ is (same_past p.session (with_stop p.session (armed id cond)) refl is)
  answered_about p line (Ok (asks.Watch order halts)) found is =
      let w = watch order.id (meaning [] (word_selection order.word)) in
      answer_about (halts && has_break p.declared order.id) _ _ is
      (answer_about (is_some (watch_of p.session order.id)) _ _ is (same_past p.session (with_watch p.session w) refl is))
  answered_about p line (Ok (asks.Check cond)) found is = is
  answered_about p line (Ok (asks.Order order)) found is = ordered_about p line order is
  answered_about p line (Err fault) found is = is

pub stays_about : (lined : LinedObject) → StaysAbout lined
stays_about lined = record {
  first = record { begun = refl; led = refl };
  next = λ p line found is. answered_about lined p line (asked_of lined.object.layout line) found is;
  here = λ p is. ap (λ (s : State). (run_of p.session.past.history s).state) (sym is.begun) ∙ ap (λ (x : End). x.state) is.led;
}
