-- One command, and one more.
use Rattle.std.proofs.Common.{◌≡◌, ℕ, zero, suc, ◌+◌, ◌-◌, ◌<◌, ◌≤◌, List, [], ◌∷◌, ◌++◌, length, take, drop, get_or, refl, sym, ◌∙◌, ap, arith, subst, map, Bool, true, false, Result, Ok, Err, Some, None, inl, inr}
use Rattle.std.proofs.lemmas.Bool.{cases_Bool, lt-ltb}
use Rattle.std.proofs.lemmas.Bool.Decides.{nat_tests}
use Rattle.std.specs.Prelude.{OnOk, OnErr, IfErr, IfOk, is_ok, nat_lt, ◌↔◌}
use Rattle.std.proofs.lemmas.List.{append-nil, drop_more}
use Rattle.std.proofs.lemmas.Option.{slice_get_within}
use Rattle.lines_layout.specs.Layouts.{NamedLines}
use Rattle.machine.specs.declared.step.Step.{Step}
use Rattle.machine.proofs.RunIsAPrefix.{run_shape}
use Rattle.debugger.specs.Stops.{Armed}
use Rattle.debugger.specs.declared.halt.Halt.{Halt}
use Rattle.debugger.specs.declared.halt.Halt.TheVariants as halts
use Rattle.debugger.specs.declared.fault.SessionFault.{SessionFault}
use Rattle.debugger.specs.declared.fault.SessionFault.TheVariants as faults
use Rattle.debugger.specs.Sessions.{SessionValue, Watch, after, gone_back, stop_of, watch_of, without_stop, without_watch}
use Rattle.debugger.specs.Halts.{halt_of, HaltsAt, made}
use Rattle.debugger.specs.Marks.{tried}
use Rattle.debugger.proofs.LeastPrefixStops.{refused_only, stop_only}
use Rattle.debug_scripts.specs.Ahead.{Ahead, all_ahead, left_ahead, steps_ahead, with_gathered}
use Rattle.debug_scripts.specs.declared.orders.Command.{Command}
use Rattle.debug_scripts.specs.declared.orders.Command.TheVariants as commands
use Rattle.debug_scripts.specs.SessionTexts.{IsMade}
use Rattle.debug_scripts.specs.DebugReports.{HasShape}
use Rattle.debug_scripts.specs.Replies.{Course, Detached, Disarmed, IsCoursed, KeepsWords, Kept, Told, Turn, WentBack, course, course_on, coursed, makes, turn, turn_to}

-- the one session has the words of a layout where the other has them
pub record KeepsShape (v w : SessionValue) : Type 0 where
  pub keeps : (names : NamedLines) → HasShape names v → HasShape names w

-- steps that are made, or gone back, keep the shape
after_shape : (v : SessionValue) (steps : List Step) → KeepsShape v (after v steps)
after_shape v steps = record { keeps = λ names h. record { now = run_shape steps v.past.state ∙ h.now; opening = h.opening } }

pub back_shape : (v : SessionValue) (n : ℕ) → KeepsShape v (gone_back v n)
back_shape v n = record { keeps = λ names h. record { now = run_shape (take (length v.past.history - n) v.past.history) v.past.opening ∙ h.opening; opening = h.opening } }

pub stop_shape : (v : SessionValue) (id : ℕ) → KeepsShape v (without_stop v id)
stop_shape v id = record { keeps = λ names h. record { now = h.now; opening = h.opening } }

pub watch_shape : (v : SessionValue) (id : ℕ) → KeepsShape v (without_watch v id)
watch_shape v id = record { keeps = λ names h. record { now = h.now; opening = h.opening } }

pub same_shape : (v : SessionValue) → KeepsShape v v
same_shape v = record { keeps = λ names h. h }

-- a session that is another which keeps it
shape_of : (v w x : SessionValue) → KeepsShape v x → w ≡ x → KeepsShape v w
shape_of v w x k e = subst (λ (y : SessionValue). KeepsShape v y) (sym e) k

pub went_shape : (v w : SessionValue) (steps : List Step) → w ≡ after v steps → KeepsShape v w
went_shape v w steps e = shape_of v w (after v steps) (after_shape v steps) e

-- a session that is one of two which keep it
pub either_shape : {S F : Type 0} (v x w : SessionValue) (r : Result S F) → KeepsShape v x → OnOk r (w ≡ x) → OnErr r (w ≡ v) → KeepsShape v w
either_shape v x w (Ok done) k moved same = shape_of v w x k moved
either_shape v x w (Err fault) k moved same = shape_of v w v (same_shape v) same

-- the same as the code says it
pub words_of : (v w : SessionValue) → KeepsShape v w → KeepsWords v w
words_of v w kept = kept.keeps

turn_same : {v w : SessionValue} (g : Ahead) (t : Told) → v ≡ w → turn_to v g t ≡ turn_to w g t
turn_same g t e = ap (λ (x : SessionValue). turn_to x g t) e

-- a step is gathered; g' are the steps ahead after it
pub gathered_one : (v : SessionValue) (g g' : Ahead) (step : Step) → g' ≡ with_gathered g step → turn_to v g' Kept ≡ turn v g (commands.Gather step)
gathered_one v g g' step kept = ap (λ (x : Ahead). turn_to v x Kept) kept

halt_is : (v : SessionValue) (es : List Step) (h : Halt) → HaltsAt v es h → IsMade h → halt_of v es ≡ h
halt_is v es (halts.Stop id n) e m = e
halt_is v es (halts.Refused n r) e m = e
halt_is v es (halts.NoMemory n) e m = absurd m
halt_is v es halts.End e m = e

-- no more steps are tried than there are
tried_at : (v : SessionValue) (es : List Step) (h : Halt) → HaltsAt v es h → tried es h ≤ length es
tried_at v es (halts.Stop id n) e = (stop_only v es id n e).within
tried_at v es (halts.Refused n r) e =
    let next = refused_only v es n r e in
    omega (arith, slice_get_within es n next.step next.next)
tried_at v es (halts.NoMemory n) e = omega arith
tried_at v es halts.End e = omega arith

-- the same of steps that lie ahead
pub tried_ahead : (v : SessionValue) (es steps : List Step) (h : Halt) → HaltsAt v es h → es ≡ steps → tried steps h ≤ length steps
tried_ahead v es steps h halted all = subst (λ (zs : List Step). tried zs h ≤ length zs) all (tried_at v es h halted)

-- steps were made, k of them, up to where they halt; g' are the steps ahead after it
made_on : (v w : SessionValue) (g' : Ahead) (es : List Step) (h : Halt) (k : ℕ) → HaltsAt v es h → w ≡ after v (take (made es h) es) → g' ≡ steps_ahead (drop (tried es h) es) []
    → k ≡ made es h → IsMade h → (tells : Halt → ℕ → Told) → turn_to w g' (tells h k) ≡ makes tells v es
made_on v w g' es h k halted moved left count answered tells =
    ap (λ (x : Ahead). turn_to w x (tells h k)) left ∙ turn_same (steps_ahead (drop (tried es h) es) []) (tells h k) moved
    ∙ ap (λ (n : ℕ). turn_to (after v (take (made es h) es)) (steps_ahead (drop (tried es h) es) []) (tells h n)) count
    ∙ ap (λ (x : Halt). turn_to (after v (take (made es x) es)) (steps_ahead (drop (tried es x) es) []) (tells x (made es x))) (sym (halt_is v es h halted answered))

-- the same of all steps that were ahead
pub went : (v w : SessionValue) (g g' : Ahead) (es : List Step) (h : Halt) (k : ℕ) → es ≡ all_ahead g → HaltsAt v es h → w ≡ after v (take (made es h) es) → g' ≡ left_ahead g h
    → k ≡ made es h → IsMade h → (tells : Halt → ℕ → Told) → turn_to w g' (tells h k) ≡ makes tells v (all_ahead g)
went v w g g' es h k all halted moved left count answered tells =
    made_on v w g' es h k halted moved (left ∙ ap (λ (zs : List Step). steps_ahead (drop (tried zs h) zs) []) (sym all)) count answered tells
    ∙ ap (λ (zs : List Step). makes tells v zs) all

-- a halt that is not out of memory
pub made_halt : (h : Halt) → ((n : ℕ) → h ≡ halts.NoMemory n → ⊥) → IsMade h
made_halt (halts.Stop id n) other = tt
made_halt (halts.Refused n refusal) other = tt
made_halt (halts.NoMemory n) other = other n refl
made_halt halts.End other = tt

-- steps that are ahead without the rest are those that were gathered
pub forgot : (tells : Halt → ℕ → Told) (v : SessionValue) (g g1 : Ahead) → g1 ≡ steps_ahead [] g.gathered → makes tells v (all_ahead g1) ≡ makes tells v g.gathered
forgot tells v g g1 is = ap (λ (x : Ahead). makes tells v (all_ahead x)) is

lt_false : (a b : ℕ) → (a < b → ⊥) → nat_lt a b ≡ false
lt_false a b h = elim (cases_Bool (nat_lt a b)) [ inl less ↦ (let below : a < b = grind (arith, nat_tests) in absurd (h below)) | inr more ↦ more ]

-- back
pub backed : (v w : SessionValue) (g : Ahead) (n : ℕ) (r : Result (Unit {0}) SessionFault)
    → OnOk r (w ≡ gone_back v n) → OnErr r (w ≡ v) → IfErr r (λ fault. fault ≡ faults.TooFar)
    → (r ≡ Err faults.TooFar ↔ (length v.past.history < n)) → turn_to w g (WentBack n r) ≡ turn v g (commands.Back n)
backed v w g n (Ok done) gone same others far =
    let near : nat_lt (length v.past.history) n ≡ false = lt_false (length v.past.history) n (λ below. (let wrong : ◌≡◌ {A = Result (Unit {0}) SessionFault} (Ok done) (Err faults.TooFar) = far.1 below in absurd (cc))) in
    rw near (turn_same g (WentBack n (Ok done)) gone)
backed v w g n (Err fault) gone same others far =
    let is : ◌≡◌ {A = Result (Unit {0}) SessionFault} (Err fault) (Err faults.TooFar) = ap (λ (f : SessionFault). Err f) others in
    let below : nat_lt (length v.past.history) n ≡ true = lt-ltb (length v.past.history) n (far.0 is) in
    rw below (turn_same g (WentBack n (Err fault)) same ∙ ap (λ (f : SessionFault). turn_to v g (WentBack n (Err f))) others)

-- disarm; b says whether there was a stop
pub disarmed : {S : Type 0} (v w : SessionValue) (g : Ahead) (id : ℕ) (m : S → Armed) (r : Result S SessionFault) (b : Bool) → b ≡ is_ok r
    → IfOk r (λ stop. stop_of v id ≡ Some (m stop)) → OnOk r (w ≡ without_stop v id) → OnErr r (stop_of v id ≡ None) → OnErr r (w ≡ v)
    → turn_to w g (Disarmed id b) ≡ turn v g (commands.Disarm id)
disarmed v w g id m (Ok stop) b is taken session none same = rw (taken, is) (turn_same g (Disarmed id true) session)
disarmed v w g id m (Err fault) b is taken session none same = rw (none, is) (turn_same g (Disarmed id false) same)

-- detach
pub detached : {S : Type 0} (v w : SessionValue) (g : Ahead) (id : ℕ) (m : S → Watch) (r : Result S SessionFault) (b : Bool) → b ≡ is_ok r
    → IfOk r (λ watcher. watch_of v id ≡ Some (m watcher)) → OnOk r (w ≡ without_watch v id) → OnErr r (watch_of v id ≡ None) → OnErr r (w ≡ v)
    → turn_to w g (Detached id b) ≡ turn v g (commands.Detach id)
detached v w g id m (Ok watcher) b is taken session none same = rw (taken, is) (turn_same g (Detached id true) session)
detached v w g id m (Err fault) b is taken session none same = rw (none, is) (turn_same g (Detached id false) same)

-- the command at place i was followed
next_line : (c d total : Course) (script : List Command) (i : ℕ) (y : Command) → i < length script → coursed c (drop i script) ≡ total
    → d ≡ course_on c (get_or script i y) → coursed d (drop (i + 1) script) ≡ total
next_line c d total script i y lt same next =
    ap (λ (x : Course). coursed x (drop (i + 1) script)) next ∙ sym (ap (λ (cs : List Command). coursed c cs) (drop_more script i y lt)) ∙ same

-- the same of a command that is lent, and of what it came to
pub next_item : (v w : SessionValue) (g g' : Ahead) (told : List Told) (t : Told) (total : Course) (script : List Command) (i : ℕ) (command : Command) → i < length script
    → coursed (course v g told) (drop i script) ≡ total → command ≡ get_or script i command → turn_to w g' t ≡ turn v g command
    → coursed (course w g' (told ++ t ∷ [])) (drop (i + 1) script) ≡ total
next_item v w g g' told t total script i command lt same is next =
    next_line (course v g told) (course w g' (told ++ t ∷ [])) total script i command lt same
    (ap (λ (x : Turn). course x.session x.ahead (told ++ x.told ∷ [])) next ∙ ap (λ (y : Command). course_on (course v g told) y) is)

-- where no command is left
pub all_coursed : (c total : Course) (script : List Command) (i : ℕ) → length script ≤ i → coursed c (drop i script) ≡ total → c ≡ total
all_coursed c total [] zero le e = e
all_coursed c total [] (suc i) le e = e
all_coursed c total (y ∷ ys) zero le e = absurd (omega arith)
all_coursed c total (y ∷ ys) (suc i) le e = all_coursed c total ys i (omega arith) e

-- a page that tells what was told on the way tells what is told at the end
pub ends_coursed : (Tells : List Told → Type 0) (v : SessionValue) (g : Ahead) (told : List Told) (total : Course) → course v g told ≡ total → Tells told → IsCoursed Tells v total
ends_coursed Tells v g told total is tells = record {
  session = ap (λ (c : Course). c.session) is;
  tells = subst Tells (ap (λ (c : Course). c.told) is) tells;
}
