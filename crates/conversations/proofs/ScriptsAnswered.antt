-- What is answered to the lines of a script is the report that `debug` writes of it.
use Rattle.std.proofs.Common.{◌≡◌, ℕ, ◌==◌, List, [], ◌∷◌, ◌++◌, true, false, None, Ok, map, refl, sym, ◌∙◌, ap, append_assoc, inl, inr, subst}
use Rattle.std.proofs.lemmas.Bool.{cases_Bool}
use Rattle.std.proofs.lemmas.List.{append-nil, map-append}
use Rattle.std.specs.List.{find, flat_map, list_any}
use Rattle.lines_layout.specs.Layouts.{NamedLines}
use Rattle.lines_layout.specs.Names.{Text}
use Rattle.litmus_text.specs.declared.text_lines.LinedObject.{LinedObject}
use Rattle.machine.specs.State.{State}
use Rattle.conditions.specs.Formulas.{Formula}
use Rattle.debugger.specs.Stops.{Armed, armed}
use Rattle.debugger.specs.Notes.{meaning}
use Rattle.debugger.specs.Writes.{word_selection}
use Rattle.debugger.specs.declared.fault.SessionFault.TheVariants.{DoubleId}
use Rattle.debugger.specs.Sessions as sessions
use Rattle.debugger.specs.Sessions.{SessionValue, opened, stop_of, watch_of, with_stop, with_watch}
use Rattle.debug_scripts.specs.declared.orders.Command.{Command}
use Rattle.debug_scripts.specs.declared.orders.StopOrder.{StopOrder}
use Rattle.debug_scripts.specs.declared.orders.WatchOrder.{WatchOrder}
use Rattle.debug_scripts.specs.Ahead.{steps_ahead}
use Rattle.debug_scripts.specs.DebugPlans.{stop_ordered, watch_ordered}
use Rattle.debug_scripts.specs.DebugReports.{Stand, follow, followed, prepared, stand, with_stops, with_watches}
use Rattle.debug_scripts.specs.Grammar.{AddAll, Adds}
use Rattle.debug_scripts.specs.Rows.{Said, Blank, Stop, Watch, Ask, Do, row_of}
use Rattle.debug_scripts.specs.Scripts.{Script, empty_script}
use Rattle.debug_scripts.specs.SessionTexts.{fault_line, watch_text}
use Rattle.debug_scripts.proofs.Apart.{none_behind, none_put}
use Rattle.debug_scripts.proofs.GivenForms.{given_are_read}
use Rattle.debug_scripts.proofs.RowForms.{row_is_read}
use Rattle.debug_scripts.proofs.ScriptsAreRead.{only_scripts}
use Rattle.std.specs.Prelude.{is_some, nat_lt}
use Rattle.std.specs.List.{position_or_len}
use Rattle.talks.specs.Conversations.{Exchange, place_after}
use Rattle.conversations.specs.Checking.{Found}
use Rattle.conversations.specs.Asking.{stop_as, values_as}
use Rattle.conversations.specs.Desks.{Declaration, declaration}
use Rattle.conversations.specs.declared.declaration.Kind.TheVariants as kinds
use Rattle.conversations.specs.Answered.{Answer, Place, answer, answer_to, armed_at, partner, place, watched_at}
use Rattle.conversations.specs.Breaks.{has_breaks}
use Rattle.conversations.specs.SameText.{ScriptsAreAnswered, lines_in, replies}
use Rattle.conversations.proofs.BreaksHalt.{gone_alike, none_either, none_more, none_scripted}
use Rattle.conversations.proofs.TextsOfScripts.{follow_onto, onto}

-- ---- where a script stands

-- a session with the stops and watches of a script
abbrev pub begun : State → Script → SessionValue
begun s script = prepared s (map stop_ordered script.stops) (map watch_ordered script.watches)

-- where a script stands, when all its commands are followed
abbrev pub stands : NamedLines → State → Script → Stand
stands names s script = followed names (stand (begun s script) (steps_ahead [] []) []) script.commands

followed_more : (names : NamedLines) (z : Stand) (cs : List Command) (c : Command) → followed names z (cs ++ c ∷ []) ≡ follow names (followed names z cs) c
followed_more names z [] c = refl
followed_more names z (d ∷ cs) c = followed_more names (follow names z d) cs c

-- ---- one stop or watch more

stops_more : (v : SessionValue) (ts : List Armed) (t : Armed) → with_stops v (ts ++ t ∷ []) ≡ with_stop (with_stops v ts) t
stops_more v [] t = refl
stops_more v (x ∷ ts) t = stops_more (with_stop v x) ts t

watches_more : (v : SessionValue) (ws : List sessions.Watch) (w : sessions.Watch) → with_watches v (ws ++ w ∷ []) ≡ with_watch (with_watches v ws) w
watches_more v [] w = refl
watches_more v (x ∷ ws) w = watches_more (with_watch v x) ws w

stop_behind : (v : SessionValue) (ws : List sessions.Watch) (t : Armed) → with_watches (with_stop v t) ws ≡ with_stop (with_watches v ws) t
stop_behind v [] t = refl
stop_behind v (x ∷ ws) t = stop_behind (with_watch v x) ws t

one_stop : (s : State) (stops : List StopOrder) (watches : List WatchOrder) (t : StopOrder)
    → prepared s (map stop_ordered (stops ++ t ∷ [])) (map watch_ordered watches) ≡ with_stop (prepared s (map stop_ordered stops) (map watch_ordered watches)) (stop_ordered t)
one_stop s stops watches t =
    ap (λ (ts : List Armed). prepared s ts (map watch_ordered watches)) (map-append stop_ordered stops (t ∷ []))
    ∙ ap (λ (v : SessionValue). with_watches v (map watch_ordered watches)) (stops_more (opened s) (map stop_ordered stops) (stop_ordered t))
    ∙ stop_behind (with_stops (opened s) (map stop_ordered stops)) (map watch_ordered watches) (stop_ordered t)

one_watch : (s : State) (stops : List StopOrder) (watches : List WatchOrder) (w : WatchOrder)
    → prepared s (map stop_ordered stops) (map watch_ordered (watches ++ w ∷ [])) ≡ with_watch (prepared s (map stop_ordered stops) (map watch_ordered watches)) (watch_ordered w)
one_watch s stops watches w =
    ap (λ (ws : List sessions.Watch). prepared s (map stop_ordered stops) ws) (map-append watch_ordered watches (w ∷ []))
    ∙ watches_more (with_stops (opened s) (map stop_ordered stops)) (map watch_ordered watches) (watch_ordered w)

-- ---- an id that is new is free

stops_kept : (v : SessionValue) (ws : List sessions.Watch) → (with_watches v ws).stops ≡ v.stops
stops_kept v [] = refl
stops_kept v (x ∷ ws) = stops_kept (with_watch v x) ws

watches_kept : (v : SessionValue) (ts : List Armed) → (with_stops v ts).watches ≡ v.watches
watches_kept v [] = refl
watches_kept v (x ∷ ts) = watches_kept (with_stop v x) ts

free_among : (v : SessionValue) (stops : List StopOrder) (id : ℕ) → stop_of v id ≡ None → list_any (λ t. t.id == id) stops ≡ false → stop_of (with_stops v (map stop_ordered stops)) id ≡ None
free_among v [] id free new = free
free_among v (t ∷ stops) id free new =
    elim (cases_Bool (t.id == id)) [
      | inl same ↦ let wrong : true ≡ false = rw same at new in absurd (cc)
      | inr other ↦ free_among (with_stop v (stop_ordered t)) stops id
          (none_put (λ x. x.id == id) v.stops (position_or_len (λ x. nat_lt t.id x.id) v.stops) (stop_ordered t) free other) (rw other at new)
    ]

unwatched_among : (v : SessionValue) (watches : List WatchOrder) (id : ℕ) → watch_of v id ≡ None → list_any (λ w. w.id == id) watches ≡ false
    → watch_of (with_watches v (map watch_ordered watches)) id ≡ None
unwatched_among v [] id free new = free
unwatched_among v (w ∷ watches) id free new =
    elim (cases_Bool (w.id == id)) [
      | inl same ↦ let wrong : true ≡ false = rw same at new in absurd (cc)
      | inr other ↦ unwatched_among (with_watch v (watch_ordered w)) watches id (none_behind (λ x. x.id == id) v.watches (watch_ordered w) free other) (rw other at new)
    ]

stop_is_free : (s : State) (script : Script) (id : ℕ) → list_any (λ t. t.id == id) script.stops ≡ false → stop_of (begun s script) id ≡ None
stop_is_free s script id new =
    ap (find (λ (t : Armed). t.id == id)) (stops_kept (with_stops (opened s) (map stop_ordered script.stops)) (map watch_ordered script.watches)) ∙ free_among (opened s) script.stops id refl new

watch_is_free : (s : State) (script : Script) (id : ℕ) → list_any (λ w. w.id == id) script.watches ≡ false → watch_of (begun s script) id ≡ None
watch_is_free s script id new =
    unwatched_among (with_stops (opened s) (map stop_ordered script.stops)) script.watches id
    (ap (find (λ (w : sessions.Watch). w.id == id)) (watches_kept (opened s) (map stop_ordered script.stops))) new

-- ---- lines

-- where an answer leads, with its text behind this one
abbrev pub behind : Text → Answer → Stand
behind t a = stand a.place.session a.place.ahead (t ++ a.text)

-- a command that a line asks is followed
commanded : (names : NamedLines) (s : State) (script : Script) (c : Command)
    → onto (stands names s script).text (follow names (stand (stands names s script).session (stands names s script).ahead []) c)
    ≡ stands names s (record script { commands = script.commands ++ c ∷ [] })
commanded names s script c =
    let z = stands names s script in
    sym (follow_onto names z.session z.ahead z.text c) ∙ sym (followed_more names (stand (begun s script) (steps_ahead [] []) []) script.commands c)

-- the answer to a line that adds to a script leads where the script with it stands
one_line : (lined : LinedObject) (s : State) (script next : Script) (line : List ℕ) (found : Found) (row : Said) (ds : List Declaration) → has_breaks ds ≡ false → row_of lined.object.layout line ≡ Ok row → Adds lined.object.layout script row next
    → behind (stands lined.object.layout s script).text (answer_to lined (place (stands lined.object.layout s script).session (stands lined.object.layout s script).ahead ds) line found) ≡ stands lined.object.layout s next
unfolding stop_as values_as
one_line lined s script next line found Blank ds free read adds = rw (read, adds) (ap (λ (x : Text). stand (stands lined.object.layout s script).session (stands lined.object.layout s script).ahead x) (append-nil (stands lined.object.layout s script).text))
one_line lined s script next line found (Stop id text) ds free read (none, cond, good, new, is) =
    let order : StopOrder = record { id = id; cond = cond } in
    rw (read, good, is, none, stop_is_free s script id new)
    (ap (λ (x : SessionValue). stand x (steps_ahead [] []) []) (sym (one_stop s script.stops script.watches order)))
one_line lined s script next line found (Watch id word) ds free read (none, new, is) =
    let order : WatchOrder = record { id = id; word = word } in
    rw (read, is, none, watch_is_free s script id new)
    (ap (λ (x : SessionValue). stand x (steps_ahead [] []) []) (sym (one_watch s script.stops script.watches order)))
one_line lined s script next line found (Ask word tokens) ds free read (given, are, is) = rw (read, given_are_read lined.object.layout [] tokens given are, is) (commanded lined.object.layout s script _)
one_line lined s script next line found (Do command) ds free read is =
    let z = stands lined.object.layout s script in
    rw (read, is) (ap (behind z.text) (gone_alike lined (place z.session z.ahead ds) free command) ∙ commanded lined.object.layout s script command)

-- a stop is no break, and a watch that halts nothing is none
stop_unbroken : (p : Place) (line : List ℕ) (id : ℕ) (cond : Formula) → has_breaks p.declared ≡ false → has_breaks (armed_at p line id cond).place.declared ≡ false
stop_unbroken p line id cond free =
    none_either (is_some (stop_of p.session id)) (answer p (fault_line DoubleId))
    (answer (place (with_stop p.session (armed id cond)) p.ahead (p.declared ++ declaration kinds.Stop id None line ∷ [])) []) free (none_more p.declared kinds.Stop id line free)

watch_unbroken : (p : Place) (line : List ℕ) (id word : ℕ) → has_breaks p.declared ≡ false → has_breaks (watched_at p line id word false).place.declared ≡ false
watch_unbroken p line id word free =
    let w = sessions.watch id (meaning [] (word_selection word)) in
    none_either (is_some (watch_of p.session id)) (answer p (fault_line DoubleId))
    (answer (place (with_watch p.session w) p.ahead (p.declared ++ declaration kinds.Watch id None line ∷ [])) []) free (none_more p.declared kinds.Watch id line free)

-- and it declares no break
no_break : (lined : LinedObject) (p : Place) (script next : Script) (line : List ℕ) (found : Found) (row : Said) → has_breaks p.declared ≡ false → row_of lined.object.layout line ≡ Ok row → Adds lined.object.layout script row next
    → has_breaks (answer_to lined p line found).place.declared ≡ false
unfolding stop_as values_as
no_break lined p script next line found Blank free read adds = rw read free
no_break lined p script next line found (Stop id text) free read (none, cond, good, new, is) = rw (read, good) (stop_unbroken p line id cond free)
no_break lined p script next line found (Watch id word) free read (none, new, is) = rw read (watch_unbroken p line id word free)
no_break lined p script next line found (Ask word tokens) free read (given, are, is) = rw (read, given_are_read lined.object.layout [] tokens given are) free
no_break lined p script next line found (Do command) free read is = rw read (none_scripted lined p command free)

-- where the answers to lines lead, with their texts behind that of a stand
abbrev pub after_lines : LinedObject → List (Exchange Found) → List Declaration → Stand → Stand
after_lines lined lines ds z =
    let p = place z.session z.ahead ds in
    let end = place_after (partner lined) p lines in
    stand end.session end.ahead (z.text ++ replies lined p lines)

-- lines that are added to a script lead where the script with them stands
all_lines : (lined : LinedObject) (s : State) (script whole : Script) (lines : List (Exchange Found)) (ds : List Declaration) → has_breaks ds ≡ false → AddAll lined.object.layout script (lines_in lines) whole
    → after_lines lined lines ds (stands lined.object.layout s script) ≡ stands lined.object.layout s whole
all_lines lined s script whole [] ds free is =
    ap (λ (x : Text). stand (stands lined.object.layout s script).session (stands lined.object.layout s script).ahead x) (append-nil (stands lined.object.layout s script).text) ∙ ap (stands lined.object.layout s) (sym is)
all_lines lined s script whole (x ∷ lines) ds free (row, next, is, adds, others) =
    let z = stands lined.object.layout s script in
    let a = answer_to lined (place z.session z.ahead ds) x.line x.found in
    let end = place_after (partner lined) a.place lines in
    let read = row_is_read lined.object.layout x.line row is in
    let still : has_breaks a.place.declared ≡ false = no_break lined (place z.session z.ahead ds) script next x.line x.found row free read adds in
    ap (λ (y : Text). stand end.session end.ahead y) (sym (append_assoc z.text a.text (replies lined a.place lines)))
    ∙ ap (after_lines lined lines a.place.declared) (one_line lined s script next x.line x.found row ds free read adds)
    ∙ all_lines lined s next whole lines a.place.declared still others

pub scripts_are_answered : ScriptsAreAnswered
scripts_are_answered lined s text script lines is same =
    let added : AddAll lined.object.layout empty_script (lines_in lines) script =
    subst (λ (them : List (List ℕ)). AddAll lined.object.layout empty_script them script) (sym same) (only_scripts lined.object.layout text script is) in
    ap (λ (z : Stand). z.text ++ flat_map (watch_text lined.object.layout) z.session.watches) (all_lines lined s empty_script script lines [] refl added)
