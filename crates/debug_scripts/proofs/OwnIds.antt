-- No two stops of a script have one id, nor have two watches.
use Rattle.std.proofs.Common.{◌≡◌, ◌≢◌, ◌∙◌, ℕ, Ok, List, [], ◌∷◌, ap, length, map, refl, sym, subst}
use Rattle.std.specs.List.{AllPairs}
use Rattle.lines_layout.specs.Layouts.{NamedLines}
use Rattle.text_tokens.specs.Text.{lines_of}
use Rattle.text_tokens.proofs.TestsThatPassed.{refused_as_ok}
use Rattle.commands.specs.declared.fault.Refused.TheVariants as refusals
use Rattle.commands.specs.declared.fault.Stage.TheVariants as stages
use Rattle.commands.specs.Works.{Makes, work}
use Rattle.isa.specs.Objects.{Object}
use Rattle.machine.specs.Objects.{opening}
use Rattle.machine.specs.State.{State}
use Rattle.debugger.specs.Stops.{Armed}
use Rattle.debugger.specs.Sessions as sessions
use Rattle.debug_scripts.specs.Rows.{Said, Blank, Stop, Watch, Ask, Do}
use Rattle.debug_scripts.specs.Scripts.{HasOwnIds, Script, empty_script, script_of, script_work}
use Rattle.debug_scripts.specs.Grammar.{AddAll, Adds}
use Rattle.debug_scripts.specs.DebugPlans.{IsPlan, Plan, plan, stop_ordered, watch_ordered}
use Rattle.debug_scripts.proofs.Apart.{apart_push, none_apart, same_ids}
use Rattle.debug_scripts.proofs.ScriptsAreRead.{only_scripts}

-- a line that is added keeps it so
adds_own : (names : NamedLines) (s t : Script) (row : Said) → Adds names s row t → HasOwnIds s → HasOwnIds t
adds_own names s t Blank is own = subst HasOwnIds (sym is) own
adds_own names s t (Stop id text) (none, cond, read, free, is) own =
    subst HasOwnIds (sym is) (record { stops = apart_push (λ x. x.id) s.stops (record { id = id; cond = cond }) own.stops free; watches = own.watches })
adds_own names s t (Watch id word) (none, free, is) own =
    subst HasOwnIds (sym is) (record { stops = own.stops; watches = apart_push (λ x. x.id) s.watches (record { id = id; word = word }) own.watches free })
adds_own names s t (Ask word tokens) (given, are, is) own = subst HasOwnIds (sym is) (record { stops = own.stops; watches = own.watches })
adds_own names s t (Do command) is own = subst HasOwnIds (sym is) (record { stops = own.stops; watches = own.watches })

all_own : (names : NamedLines) (s t : Script) (lines : List (List ℕ)) → AddAll names s lines t → HasOwnIds s → HasOwnIds t
all_own names s t [] is own = subst HasOwnIds (sym is) own
all_own names s t (line ∷ lines) (row, u, is, adds, others) own = all_own names u t lines others (adds_own names s u row adds own)

pub own_ids : (names : NamedLines) (text : List ℕ) (script : Script) → script_of names text ≡ Ok script → HasOwnIds script
own_ids names text script e = all_own names empty_script script (lines_of text) (only_scripts names text script e) (record { stops = none_apart; watches = none_apart })

pub made_own : (names : NamedLines) (text : List ℕ) (script : Script) → Makes (script_work names text) (Ok script) → HasOwnIds script
unfolding Makes
made_own names text script is = own_ids names text script (refused_as_ok (λ fault. refusals.Script fault) (script_of names text) script is)

-- nor have two of the stops, or of the watchers, that stand for those of a plan
pub stops_own : {X : Type 0} (f : X → Armed) (xs : List X) (p q : Plan) → q ≡ p → IsPlan q → map f xs ≡ map stop_ordered p.script.stops → AllPairs ◌≢◌ (map (λ x. (f x).id) xs)
stops_own f xs p q is own same = same_ids f stop_ordered (λ (t : Armed). t.id) xs p.script.stops same ((subst IsPlan is own).ids.stops)

pub watches_own : {X : Type 0} (f : X → sessions.Watch) (xs : List X) (p q : Plan) → q ≡ p → IsPlan q → map f xs ≡ map watch_ordered p.script.watches → AllPairs ◌≢◌ (map (λ x. (f x).id) xs)
watches_own f xs p q is own same = same_ids f watch_ordered (λ (w : sessions.Watch). w.id) xs p.script.watches same ((subst IsPlan is own).ids.watches)

-- a script that was read is a plan on the program's machine
pub script_is_plan : (object : Object) (names layout : NamedLines) (text : List ℕ) (script : Script) (machine : State) → names ≡ object.layout → layout ≡ object.layout
    → Makes (script_work layout text) (Ok script) → Makes (work stages.Machine (Ok (opening object))) (Ok machine) → IsPlan (plan names machine script)
unfolding Makes
script_is_plan object names layout text script machine named laid read loaded =
    let is : opening object ≡ machine = cc in
    let shape : (opening object).shape ≡ map length object.layout = refl in
    record {
      shape = ap (λ (s : State). s.shape) (sym is) ∙ shape ∙ ap (λ (x : NamedLines). map length x) (sym named);
      ids = own_ids layout text script (refused_as_ok (λ fault. refusals.Script fault) (script_of layout text) script read);
    }
