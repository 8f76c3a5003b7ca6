-- The report of a script is the texts of what it comes to, one after another.
use Rattle.std.proofs.Common.{◌≡◌, ◌∙◌, ℕ, Bool, true, false, Ok, Err, List, [], ◌∷◌, ◌++◌, ap, ap₂, length, map, refl, sym, if◌then◌else◌}
use Rattle.std.specs.Prelude.{nat_lt}
use Rattle.std.specs.List.{flat_map}
use Rattle.std.proofs.lemmas.List.{append-nil, flat_map_more}
use Rattle.std.proofs.lemmas.List.Concat.{flat_map-append}
use Rattle.lines_layout.specs.Layouts.{NamedLines}
use Rattle.lines_layout.specs.Names.{Text}
use Rattle.debugger.specs.Sessions.{SessionValue, Watch, gone_back}
use Rattle.debugger.specs.declared.fault.SessionFault.TheVariants.{TooFar}
use Rattle.debug_scripts.specs.Ahead.{Ahead, steps_ahead, with_gathered}
use Rattle.debug_scripts.specs.declared.orders.Command.{Command}
use Rattle.debug_scripts.specs.declared.orders.Command.TheVariants.{Gather, Go, Continue, Back, Show, Images, Values, Disarm, Detach}
use Rattle.debug_scripts.specs.DebugReports.{Stand, debug_text, follow, followed, stand}
use Rattle.debug_scripts.specs.SessionTexts.{back_text, watch_text}
use Rattle.debug_scripts.specs.Replies.{Course, Told, Turn, WentBack, course, course_on, coursed, noted, replies, told_text, turn, turn_to}

-- where a turn leads, from a text
abbrev written : NamedLines → Text → Turn → Stand
written names text t = stand t.session t.ahead (text ++ told_text names t.told)

backed : (names : NamedLines) (v : SessionValue) (a : Ahead) (text : Text) (n : ℕ) (far : Bool)
    → ◌≡◌ {A = Stand} (if far then stand v a (text ++ back_text n (Err TooFar)) else stand (gone_back v n) a (text ++ back_text n (Ok tt)))
    (written names text (if far then turn_to v a (WentBack n (Err TooFar)) else turn_to (gone_back v n) a (WentBack n (Ok tt))))
backed names v a text n true = refl
backed names v a text n false = refl

-- following a command is its turn, with the text of what is told
pub follows : (names : NamedLines) (v : SessionValue) (a : Ahead) (text : Text) (command : Command) → follow names (stand v a text) command ≡ written names text (turn v a command)
follows names v a text (Gather step) = ap (λ (x : Text). stand v (with_gathered a step) x) (sym (append-nil text))
follows names v a text Go = refl
follows names v a text Continue = refl
follows names v a text (Back n) = backed names v a text n (nat_lt (length v.past.history) n)
follows names v a text Show = refl
follows names v a text Images = refl
follows names v a text (Values asked) = refl
follows names v a text (Disarm id) = refl
follows names v a text (Detach id) = refl

-- where a course stands, with the text of all that was told
abbrev stood : NamedLines → Course → Stand
stood names c = stand c.session c.ahead (flat_map (told_text names) c.told)

one_more : (names : NamedLines) (c : Course) (command : Command) → follow names (stood names c) command ≡ stood names (course_on c command)
one_more names c command =
    let t = turn c.session c.ahead command in
    follows names c.session c.ahead (flat_map (told_text names) c.told) command
    ∙ ap (λ (x : Text). stand t.session t.ahead x) (flat_map_more (told_text names) [] c.told t.told)

all_stood : (names : NamedLines) (c : Course) (commands : List Command) → followed names (stood names c) commands ≡ stood names (coursed c commands)
all_stood names c [] = refl
all_stood names c (command ∷ others) = ap (λ (s : Stand). followed names s others) (one_more names c command) ∙ all_stood names (course_on c command) others

notes_are : (names : NamedLines) (watches : List Watch) → flat_map (watch_text names) watches ≡ flat_map (told_text names) (map noted watches)
notes_are names [] = refl
notes_are names (w ∷ watches) = ap (λ (x : Text). watch_text names w ++ x) (notes_are names watches)

pub text_of_replies : (names : NamedLines) (v : SessionValue) (commands : List Command) → debug_text names v commands ≡ flat_map (told_text names) (replies v commands)
text_of_replies names v commands =
    let end = coursed (course v (steps_ahead [] []) []) commands in
    ap (λ (s : Stand). s.text ++ flat_map (watch_text names) s.session.watches) (all_stood names (course v (steps_ahead [] []) []) commands)
    ∙ ap (λ (x : Text). flat_map (told_text names) end.told ++ x) (notes_are names end.session.watches)
    ∙ sym (flat_map-append (told_text names) end.told (map noted end.session.watches))
