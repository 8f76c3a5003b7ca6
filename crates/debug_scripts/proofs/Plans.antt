-- The plan of a program and a script, and what comes of it.
use Rattle.std.proofs.Common.{◌≡◌, ◌∙◌, ℕ, suc, Result, Ok, Err, List, [], ◌∷◌, arith, ap, refl, subst, sym, map}
use Rattle.std.specs.Prelude.{Contains}
use Rattle.std.specs.List.{flat_map}
use Rattle.commands.specs.declared.fault.Fault.{Fault}
use Rattle.commands.specs.declared.fault.Fault.TheVariants as faults
use Rattle.commands.specs.declared.fault.Stage.{Stage}
use Rattle.commands.specs.declared.fault.Stage.TheVariants as stages
use Rattle.commands.specs.declared.fault.Refused.{Refused}
use Rattle.commands.specs.Faults.{missing, stage_of}
use Rattle.commands.specs.Serving.{Report}
use Rattle.commands.specs.Works.{Makes, Work, and_then, work}
use Rattle.commands.proofs.WorksInTurn.{made_first, made_next}
use Rattle.isa.specs.Objects.{Object}
use Rattle.lines_layout.specs.Layouts.{NamedLines}
use Rattle.machine.specs.Objects.{opening}
use Rattle.machine.specs.State.{State}
use Rattle.debug_scripts.specs.Scripts.{Script, script_work}
use Rattle.debugger.specs.Stops.{Armed}
use Rattle.debugger.specs.Sessions.{Watch}
use Rattle.debug_scripts.specs.declared.fault.PlayFault.{PlayFault}
use Rattle.debug_scripts.specs.declared.fault.PlayFault.TheVariants as wants
use Rattle.debug_scripts.specs.declared.orders.Command.{Command}
use Rattle.debug_scripts.specs.DebugReports.{prepared}
use Rattle.debug_scripts.specs.DebugPlans.{debug_report, orders_work, plan, play_lack, play_work, played_work, plan_replies, replies_work, script_replies, stop_ordered, text_report, watch_ordered, Plan, Puts}
use Rattle.debug_scripts.specs.Replies.{Told, replies, told_text}
use Rattle.debug_scripts.proofs.RepliesAreTheReport.{text_of_replies}

-- a page tells what commands come to with stops and watchers that are those of a plan
pub put_as : {P : Type 0} (Tells : P → List Told → Type 0) (p : Plan) (page : P) (ts : List Armed) (ws : List Watch) (cs : List Command) → cs ≡ p.script.commands → ts ≡ map stop_ordered p.script.stops
    → ws ≡ map watch_ordered p.script.watches → Tells page (replies (prepared p.machine ts ws) cs) → Puts Tells (played_work p) page (Ok tt)
unfolding Makes played_work
put_as Tells p page ts ws cs commands stops watches tells = (
  plan_replies p,
  refl,
  subst (λ (xs : List Armed). Tells page (replies (prepared p.machine xs (map watch_ordered p.script.watches)) p.script.commands)) stops
      (subst (λ (ys : List Watch). Tells page (replies (prepared p.machine ts ys) p.script.commands)) watches
      (subst (λ (zs : List Command). Tells page (replies (prepared p.machine ts ws) zs)) commands tells)),
)

-- what playing takes is missing
pub put_lacks : (p : Plan) (want : PlayFault) → Makes (played_work p) (Err (play_lack want))
unfolding Makes played_work
put_lacks p wants.Session = (1, omega arith, refl)
put_lacks p wants.Report = (0, omega arith, refl)

-- what the stops and watchers take is missing
pub replies_lack : (p : Plan) (stage : Stage) → Contains (stages.Conditions ∷ stages.Machine ∷ stages.Session ∷ []) stage → Makes (replies_work p) (Err (missing stage))
unfolding Makes replies_work
replies_lack p stage one = one

wider : (stage : Stage) → Contains (stages.Machine ∷ stages.Session ∷ []) stage → Contains (stages.Conditions ∷ stages.Machine ∷ stages.Session ∷ []) stage
wider stage (k, below, is) = (suc k, omega (arith, below), is)

-- a plan is played with its stops and watchers
pub put_wider : {P : Type 0} (Tells : P → List Told → Type 0) (p : Plan) (page : P) (made : Result (Unit {0}) Fault) → Puts Tells (played_work p) page made → Puts Tells (replies_work p) page made
unfolding Makes played_work replies_work
put_wider Tells p page (Ok done) h = h
put_wider Tells p page (Err (faults.Refused refused)) h = h
put_wider Tells p page (Err (faults.Missing missing)) h = wider (stage_of missing) h
put_wider Tells p page (Err (faults.Device device)) h = h

-- the text of a page on which that was put is the report
text_is : (p : Plan) (text : List ℕ) (told : List Told) → ◌≡◌ {A = Result (List Told) Refused} (Ok (plan_replies p)) (Ok told) → text ≡ flat_map (told_text p.layout) told
    → flat_map (told_text p.layout) (plan_replies p) ≡ text
text_is p text told made is =
    let same : plan_replies p ≡ told = cc in
    ap (λ (ts : List Told). flat_map (told_text p.layout) ts) same ∙ sym is

whole : (p : Plan) → flat_map (told_text p.layout) (plan_replies p) ≡ (debug_report p)
whole p = sym (text_of_replies p.layout (prepared p.machine (map stop_ordered p.script.stops) (map watch_ordered p.script.watches)) p.script.commands)

pub report_put : (p : Plan) (text : List ℕ) → Puts (λ (x : List ℕ) told. x ≡ flat_map (told_text p.layout) told) (played_work p) text (Ok tt) → Makes (play_work p) (Ok (text_report text))
unfolding Makes played_work play_work
report_put p text (told, made, is) = ap (λ (x : List ℕ). Ok (text_report x)) (sym (whole p) ∙ text_is p text told made is)

pub report_unput : (p : Plan) (fault : Fault) → Makes (played_work p) (Err fault) → Makes (play_work p) (Err fault)
unfolding Makes played_work play_work
report_unput p (faults.Refused refused) h = absurd cc
report_unput p (faults.Missing missing) h = h
report_unput p (faults.Device device) h = h

-- the same with the stops and watchers made before
pub orders_put : (p : Plan) (text : List ℕ) → Puts (λ (x : List ℕ) told. x ≡ flat_map (told_text p.layout) told) (replies_work p) text (Ok tt) → Makes (orders_work p) (Ok (text_report text))
unfolding Makes replies_work orders_work
orders_put p text (told, made, is) = ap (λ (x : List ℕ). Ok (text_report x)) (sym (whole p) ∙ text_is p text told made is)

pub orders_unput : (p : Plan) (fault : Fault) → Makes (replies_work p) (Err fault) → Makes (orders_work p) (Err fault)
unfolding Makes replies_work orders_work
orders_unput p (faults.Refused refused) h = absurd cc
orders_unput p (faults.Missing missing) h = h
orders_unput p (faults.Device device) h = h

-- ---- of a plan that is told in parts

-- the plan by another name of its words
same_plan : (p : Plan) (names layout : NamedLines) (machine : State) (script : Script) → names ≡ layout → plan layout machine script ≡ p → plan names machine script ≡ p
same_plan p names layout machine script named is = ap (λ (x : NamedLines). plan x machine script) named ∙ is

pub report_put_as : (p : Plan) (names layout : NamedLines) (machine : State) (script : Script) (text : List ℕ) → names ≡ layout → plan layout machine script ≡ p
    → Puts (λ (x : List ℕ) told. x ≡ flat_map (told_text names) told) (played_work (plan names machine script)) text (Ok tt) → Makes (play_work p) (Ok (text_report text))
report_put_as p names layout machine script text named is put =
    subst (λ (q : Plan). Makes (play_work q) (Ok (text_report text))) (same_plan p names layout machine script named is) (report_put (plan names machine script) text put)

pub report_unput_as : (p : Plan) (names layout : NamedLines) (machine : State) (script : Script) (fault : Fault) → names ≡ layout → plan layout machine script ≡ p
    → Makes (played_work (plan names machine script)) (Err fault) → Makes (play_work p) (Err fault)
report_unput_as p names layout machine script fault named is put =
    subst (λ (q : Plan). Makes (play_work q) (Err fault)) (same_plan p names layout machine script named is) (report_unput (plan names machine script) fault put)

pub orders_put_as : (p : Plan) (names layout : NamedLines) (machine : State) (script : Script) (text : List ℕ) → names ≡ layout → plan layout machine script ≡ p
    → Puts (λ (x : List ℕ) told. x ≡ flat_map (told_text names) told) (replies_work (plan names machine script)) text (Ok tt) → Makes (orders_work p) (Ok (text_report text))
orders_put_as p names layout machine script text named is put =
    subst (λ (q : Plan). Makes (orders_work q) (Ok (text_report text))) (same_plan p names layout machine script named is) (orders_put (plan names machine script) text put)

pub orders_unput_as : (p : Plan) (names layout : NamedLines) (machine : State) (script : Script) (fault : Fault) → names ≡ layout → plan layout machine script ≡ p
    → Makes (replies_work (plan names machine script)) (Err fault) → Makes (orders_work p) (Err fault)
orders_unput_as p names layout machine script fault named is put =
    subst (λ (q : Plan). Makes (orders_work q) (Err fault)) (same_plan p names layout machine script named is) (orders_unput (plan names machine script) fault put)

-- ---- of a script on a program

-- what is put of the rest is put of both
puts_next : {A P : Type 0} (Tells : P → List Told → Type 0) (first : Work A) (rest : A → Work (List Told)) (a : A) (page : P) (done : Result (Unit {0}) Fault) → Makes first (Ok a)
    → Puts Tells (rest a) page done → Puts Tells (and_then first rest) page done
puts_next Tells first rest a page (Ok done) is (told, made, tells) = (told, made_next first rest a (Ok told) is made, tells)
puts_next Tells first rest a page (Err fault) is h = made_next first rest a (Err fault) is h

loaded : {A : Type 0} (a : A) → Makes (work stages.Machine (Ok a)) (Ok a)
unfolding Makes
loaded a = refl

is_loaded : (s machine : State) → Makes (work stages.Machine (Ok s)) (Ok machine) → machine ≡ s
unfolding Makes
is_loaded s machine made = cc

pub put_scripted : {P : Type 0} (Tells : P → List Told → Type 0) (object : Object) (names layout : NamedLines) (text : List ℕ) (script : Script) (machine : State) (page : P) (done : Result (Unit {0}) Fault)
    → names ≡ object.layout → layout ≡ object.layout → Makes (script_work layout text) (Ok script) → Makes (work stages.Machine (Ok (opening object))) (Ok machine)
    → Puts Tells (replies_work (plan names machine script)) page done → Puts Tells (script_replies object text) page done
put_scripted Tells object names layout text script machine page done named laid read made put =
    let whole : Plan = plan object.layout (opening object) script in
    let later : Script → Work (List Told) = λ (orders : Script). and_then (work stages.Machine (Ok (plan object.layout (opening object) orders))) replies_work in
    let same : plan names machine script ≡ plan object.layout (opening object) script =
    ap (λ (x : NamedLines). plan x machine script) named ∙ ap (λ (x : State). plan object.layout x script) (is_loaded (opening object) machine made) in
    puts_next Tells (script_work object.layout text) later script page done (subst (λ (x : NamedLines). Makes (script_work x text) (Ok script)) laid read)
    (puts_next Tells (work stages.Machine (Ok whole)) replies_work whole page done (loaded whole) (subst (λ (q : Plan). Puts Tells (replies_work q) page done) same put))

-- what loading takes is missing for a plan too
unloaded : {A B : Type 0} (a : A) (b : B) (fault : Fault) → Makes (work stages.Machine (Ok a)) (Err fault) → Makes (work stages.Machine (Ok b)) (Err fault)
unfolding Makes
unloaded a b (faults.Refused refused) h = absurd cc
unloaded a b (faults.Missing missing) h = h
unloaded a b (faults.Device device) h = h

pub put_unloaded : (object : Object) (layout : NamedLines) (text : List ℕ) (script : Script) (fault : Fault) → layout ≡ object.layout → Makes (script_work layout text) (Ok script)
    → Makes (work stages.Machine (Ok (opening object))) (Err fault) → Makes (script_replies object text) (Err fault)
put_unloaded object layout text script fault laid read made =
    let later : Script → Work (List Told) = λ (orders : Script). and_then (work stages.Machine (Ok (plan object.layout (opening object) orders))) replies_work in
    made_next (script_work object.layout text) later script (Err fault) (subst (λ (x : NamedLines). Makes (script_work x text) (Ok script)) laid read)
    (made_first (work stages.Machine (Ok (plan object.layout (opening object) script))) replies_work fault (unloaded (opening object) (plan object.layout (opening object) script) fault made))
