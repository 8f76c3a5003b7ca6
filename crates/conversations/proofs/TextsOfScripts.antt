-- What the commands of a script write does not depend on what was written before.
use Rattle.std.proofs.Common.{◌≡◌, List, [], ◌∷◌, ◌++◌, Bool, true, false, Result, length, refl, sym, ◌∙◌, ap, append_assoc, nat_lt}
use Rattle.std.proofs.lemmas.List.{append-nil}
use Rattle.std.specs.Prelude.{if◌then◌else◌}
use Rattle.std.specs.List.{flat_map}
use Rattle.lines_layout.specs.Layouts.{NamedLines}
use Rattle.lines_layout.specs.Names.{Text}
use Rattle.litmus_text.specs.declared.text_lines.LinedObject.{LinedObject}
use Rattle.debugger.specs.Sessions.{SessionValue}
use Rattle.debug_scripts.specs.declared.orders.Command.{Command}
use Rattle.debug_scripts.specs.declared.orders.Command.TheVariants as commands
use Rattle.debug_scripts.specs.Ahead.{Ahead, steps_ahead}
use Rattle.debug_scripts.specs.DebugReports.{Stand, follow, followed, stand}
use Rattle.debug_scripts.specs.SessionTexts.{watch_text}
use Rattle.talks.specs.Conversations.{Exchange, place_after}
use Rattle.conversations.specs.declared.asked.Asked.{Asked}
use Rattle.conversations.specs.declared.line_fault.LineFault.{LineFault}
use Rattle.conversations.specs.Checking.{Found}
use Rattle.conversations.specs.Answered.{Answer, Place, answer_by, answer_to, answered, first_place, partner, place}
use Rattle.conversations.specs.Breaks.{has_breaks}
use Rattle.conversations.specs.Desks.{declared_after}
use Rattle.conversations.specs.SameText.{AnswersAreTheReport, AskCommands, lines_in, replies}
use Rattle.conversations.proofs.BreaksHalt.{gone_alike, none_after}

-- a stand with this before its text
abbrev pub onto : Text → Stand → Stand
onto t s = stand s.session s.ahead (t ++ s.text)

either_onto : (b : Bool) (v w : SessionValue) (a : Ahead) (t x y : Text)
    → (if b then stand v a (t ++ x) else stand w a (t ++ y)) ≡ onto t (if b then stand v a x else stand w a y)
either_onto true v w a t x y = refl
either_onto false v w a t x y = refl

pub follow_onto : (names : NamedLines) (v : SessionValue) (a : Ahead) (t : Text) (command : Command) → follow names (stand v a t) command ≡ onto t (follow names (stand v a []) command)
follow_onto names v a t (commands.Gather step) = ap (λ (x : Text). stand v (steps_ahead a.rest (a.gathered ++ step ∷ [])) x) (sym (append-nil t))
follow_onto names v a t commands.Go = refl
follow_onto names v a t commands.Continue = refl
follow_onto names v a t (commands.Back n) = either_onto (nat_lt (length v.past.history) n) _ _ a t _ _
follow_onto names v a t commands.Show = refl
follow_onto names v a t commands.Images = refl
follow_onto names v a t (commands.Values asked) = refl
follow_onto names v a t (commands.Disarm id) = refl
follow_onto names v a t (commands.Detach id) = refl

followed_onto : (names : NamedLines) (cs : List Command) (v : SessionValue) (a : Ahead) (t : Text) → followed names (stand v a t) cs ≡ onto t (followed names (stand v a []) cs)
followed_onto names [] v a t = ap (λ (x : Text). stand v a x) (sym (append-nil t))
followed_onto names (command ∷ cs) v a t =
    let s = follow names (stand v a []) command in
    let rest = followed names (stand s.session s.ahead []) cs in
    ap (λ (z : Stand). followed names z cs) (follow_onto names v a t command)
    ∙ followed_onto names cs s.session s.ahead (t ++ s.text)
    ∙ ap (λ (x : Text). stand rest.session rest.ahead x) (append_assoc t s.text rest.text)
    ∙ ap (onto t) (sym (followed_onto names cs s.session s.ahead s.text))

-- lines that ask commands lead where the commands lead, and their answers are what the commands write
asked_all : (lined : LinedObject) (p : Place) (lines : List (Exchange Found)) (cs : List Command) → has_breaks p.declared ≡ false → AskCommands lined.object.layout (lines_in lines) cs
    → stand (place_after (partner lined) p lines).session (place_after (partner lined) p lines).ahead (replies lined p lines) ≡ followed lined.object.layout (stand p.session p.ahead []) cs
asked_all lined p [] [] free asks-all = refl
asked_all lined p [] (command ∷ cs) free asks-all = absurd asks-all
asked_all lined p (x ∷ lines) [] free asks-all = absurd asks-all
asked_all lined p (x ∷ lines) (command ∷ cs) free (is, others) =
    let s = follow lined.object.layout (stand p.session p.ahead []) command in
    let q : Place = place s.session s.ahead (declared_after command p.declared) in
    let one : answer_to lined p x.line x.found ≡ answer_by s (declared_after command p.declared) =
    ap (λ (y : Result Asked LineFault). answered lined p x.line y x.found) is ∙ gone_alike lined p free command in
    let first : Answer → Stand = λ (a : Answer). stand (place_after (partner lined) a.place lines).session (place_after (partner lined) a.place lines).ahead (a.text ++ replies lined a.place lines) in
    ap first one ∙ ap (onto s.text) (asked_all lined q lines cs (none_after command p.declared free) others) ∙ sym (followed_onto lined.object.layout cs s.session s.ahead s.text)

pub answers_are_the_report : AnswersAreTheReport
answers_are_the_report lined s lines cs all =
    ap (λ (z : Stand). z.text ++ flat_map (watch_text lined.object.layout) z.session.watches) (asked_all lined (first_place s) lines cs refl all)
