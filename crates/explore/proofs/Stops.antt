-- Where an exploration ends.
use Rattle.std.proofs.Common.{◌≡◌, ℕ, ◌+◌, ◌<◌, ◌≤◌, inl, inr, Bool, true, false, not, Option, Some, None, Result, Ok, Err, List, [], ◌∷◌, length, refl, sym, ap, subst, ◌∙◌, arith, true≢false}
use Rattle.std.specs.Prelude.{◌↔◌, ◌||◌, Contains, IfOk, IsSome, is_some}
use Rattle.std.proofs.lemmas.Bool.{cases_Bool, cases_lt}
use Rattle.persist_buffer.specs.State.{Pending}
use Rattle.pending_images.specs.Candidates.{candidates, most_candidates}
use Rattle.machine.specs.declared.refusal.Refusal.{Refusal}
use Rattle.machine.specs.declared.step.Seen.{Seen}
use Rattle.machine.specs.declared.step.Step.{Step}
use Rattle.machine.specs.Limits.{max_turns}
use Rattle.machine.specs.State.{State}
use Rattle.machine.specs.Steps.{run_of, step_of}
use Rattle.machine.proofs.RunIsAPrefix.{run_turns, run_whole}
use Rattle.conditions.specs.Formulas.{Formula}
use Rattle.explore.specs.declared.question.Question.{Question}
use Rattle.images.specs.Firsts.{IsLeastImage}
use Rattle.images.specs.Truth.{holds_on}
use Rattle.explore.specs.Asked.{asked_by, tried_candidates, only_on}
use Rattle.explore.specs.Questions.{FailsBy, is_move, is_room, lists, looks, most_turns_before}
use Rattle.explore.specs.Found.{Found, led_to, then_tried, tried_by, tries_of}
use Rattle.explore.specs.Reachable.{IsKept, IsRun}
use Rattle.explore.specs.declared.visit.Sight.{Sight}
use Rattle.explore.specs.declared.visit.Sight.TheVariants.{Ends}
use Rattle.explore.specs.Visits.{BreaksBy, IsSight, IsStop}
use Rattle.explore.specs.declared.fault.ExploreFault.TheVariants.{TooMany, NoRoom}
use Rattle.explore.specs.declared.verdict.Asked.{Asked}
use Rattle.explore.specs.declared.verdict.Asked.TheVariants.{All}
use Rattle.explore.specs.declared.verdict.Failure.{Failure}
use Rattle.explore.specs.declared.visit.Stop.TheVariants.{Fails, Untold}
use Rattle.explore.proofs.AskedCounts.{fewer_asked}
use Rattle.explore.proofs.FoundPaths.{first_there, later_there}
use Rattle.explore.proofs.Visits.{run_itself}

-- what is not counted has many candidates
pub many_means : (found : Option Pending) (n : ℕ) → (IsSome found ↔ (n ≤ most_candidates)) → found ≡ None → most_candidates < n
many_means found n few none =
    elim (cases_lt most_candidates n) [
      | inl many ↦ many
      | inr fits ↦ absurd (let some : IsSome {T = Pending} None = subst (λ (o : Option Pending). IsSome o) none (few.1 fits) in true≢false (sym some))
    ]

pub stop_broken : (question : Question) (condition : Formula) (s : State) (path : List Step) (failure : Failure) → question.all ≡ Some condition → failure.asked ≡ All → failure.run ≡ path
    → tried_candidates (lists question) (Some condition) s ≤ most_candidates → IsLeastImage s (λ other. not (holds_on s condition other)) (Some failure.values) → IsStop question s path (Fails failure)
stop_broken question condition s path failure is_asked all same few least start limit ran =
    let leads : led_to start failure.run ≡ s = ap (led_to start) same ∙ ran.leads in
    subst (λ (asked : Asked). FailsBy asked question start failure.run failure.values) (sym all) (
      condition,
      is_asked,
      record {
        is_run = subst (λ (p : List Step). IsRun question.crashes p start (led_to start p)) (sym same) (run_itself question.crashes start path s ran);
        few = subst (λ (x : State). tried_candidates (lists question) (Some condition) x ≤ most_candidates) (sym leads) few;
        least = subst (λ (x : State). IsLeastImage x (λ other. not (holds_on x condition other)) (Some failure.values)) (sym leads) least;
      },
    )

pub stop_many : (question : Question) (s : State) (path : List Step) → looks question ≡ true → most_candidates < tried_candidates (lists question) question.all s → IsStop question s path (Untold TooMany)
stop_many question s path looked many start limit ran = record { looked = looked; state = s; reached = (path, ran); many = many }

-- where each image is listed, or no condition on images is asked, all candidates count; and no more count than there are
pub all_count : (listed : Bool) (all : Option Formula) (s : State) → listed ≡ true → tried_candidates listed all s ≡ candidates s.memory.pending
all_count listed all s on = ap (λ (b : Bool). tried_candidates b all s) on

pub none_asked : (listed : Bool) (all : Option Formula) (s : State) → all ≡ None → tried_candidates listed all s ≡ candidates s.memory.pending
none_asked listed all s none = ap (λ (o : Option Formula). tried_candidates listed o s) none ∙ by listed
  where
    by : (b : Bool) → tried_candidates b None s ≡ candidates s.memory.pending
    by true = refl
    by false = refl

pub asked_count : (listed : Bool) (all : Option Formula) (condition : Formula) (s : State) → listed ≡ false → all ≡ Some condition → tried_candidates listed all s ≡ candidates (only_on (asked_by condition) s.memory.pending)
asked_count listed all condition s off asked = λ i. tried_candidates (off i) (asked i) s

-- each image is listed where runs crash, and where the images are asked for
pub lists_crashing : (question : Question) → question.crashes ≡ true → lists question ≡ true
lists_crashing question on = ap (λ (b : Bool). b || question.images) on

pub lists_asked : (question : Question) → question.images ≡ true → lists question ≡ true
lists_asked question on = ap (λ (b : Bool). question.crashes || b) on ∙ by question.crashes
  where
    by : (b : Bool) → (b || true) ≡ true
    by true = refl
    by false = refl

pub few_count : (listed : Bool) (condition : Formula) (s : State) → candidates s.memory.pending ≤ most_candidates → tried_candidates listed (Some condition) s ≤ most_candidates
few_count true condition s few = few
few_count false condition s few = let fewer = fewer_asked (asked_by condition) s.memory.pending in omega (arith, few, fewer)

-- turns lack at the end of a short path: so they did at its start
pub stop_turns : (question : Question) (s : State) (path : List Step) → length path + length s.memory.pending < most_turns_before → max_turns ≤ s.turns + length s.memory.pending
    → IsStop question s path (Untold NoRoom)
stop_turns question s path short spent start limit ran =
    let all = run_turns path start in
    let whole = run_whole path start ran.accepted in
    let there : (run_of path start).state.turns ≡ s.turns = ap (λ (x : State). x.turns) ran.leads in
    inr (omega (arith, all, whole, there, short, spent))

-- ---- a step that lacks room

abbrev LacksHere : State → Step → Type 0
LacksHere s step = (is_move step ≡ true) × (refusal : Refusal) × (step_of s step ≡ Err refusal) × (is_room refusal ≡ true)

same_step : (a b : Step) (x y : Found) → ◌≡◌ {A = Option Step × Found} (Some a, x) (Some b, y) → a ≡ b
same_step a b x y e = let same : ◌≡◌ {A = Option Step} (Some a) (Some b) = ap (λ (p : Option Step × Found). p.0) e in cc

stopped_not : (b : Step) (x y : Found) → ◌≡◌ {A = Option Step × Found} (None, x) (Some b, y) → ⊥
stopped_not b x y e = let same : ◌≡◌ {A = Option Step} None (Some b) = ap (λ (p : Option Step × Found). p.0) e in absurd (cc)

lacking_by : (locals : Bool) (s : State) (path : List Step) (step other : Step) (steps : List Step) (r : Result (Seen × State) Refusal) (old new : Found) → is_move step ≡ true → step_of s step ≡ r
    → ((mid : Found) → tries_of locals s path steps mid ≡ (Some other, new) → LacksHere s other)
    → then_tried (tried_by locals r old path step) (tries_of locals s path steps) ≡ (Some other, new) → LacksHere s other
lacking_by locals s path step other steps (Ok done) old new move made each e = each _ e
lacking_by locals s path step other steps (Err refusal) old new move made each e =
    elim (cases_Bool (is_room refusal)) [
      | inl full ↦ let here = same_step step other old new (rw full at e) in (ap is_move (sym here) ∙ move, refusal, ap (step_of s) (sym here) ∙ made, full)
      | inr none ↦ each old (rw none at e)
    ]

pub lacking : (locals : Bool) (s : State) (path steps : List Step) (other : Step) (old new : Found) → ((step : Step) → Contains steps step → is_move step ≡ true) → tries_of locals s path steps old ≡ (Some other, new) → LacksHere s other
lacking locals s path [] other old new moves e = absurd (stopped_not other old new e)
lacking locals s path (step ∷ steps) other old new moves e =
    lacking_by locals s path step other steps (step_of s step) old new (moves step (first_there step steps)) refl (λ mid. lacking locals s path steps other mid new (λ one there. moves one (later_there step one steps there))) e

pub stop_room : (question : Question) (s : State) (path : List Step) (step : Step) → LacksHere s step → IsStop question s path (Untold NoRoom)
stop_room question s path step (move, refusal, refused, room) start limit ran = inl (s, (path, ran), record { step = step; move = move; refusal = refusal; refused = refused; room = room })

pub lacks_room : (question : Question) (locals : Bool) (s : State) (path steps : List Step) (lacks : Option Step) (old new : Found) → ((step : Step) → Contains steps step → is_move step ≡ true)
    → is_some lacks ≡ true → tries_of locals s path steps old ≡ (lacks, new) → IsStop question s path (Untold NoRoom)
lacks_room question locals s path steps None old new moves some e = absurd (true≢false (sym some))
lacks_room question locals s path steps (Some step) old new moves some e = stop_room question s path step (lacking locals s path steps step old new moves e)

-- ---- none breaks the condition

not_false : (b : Bool) → not b ≡ false → b ≡ true
not_false true e = refl
not_false false e = absurd (true≢false e)

pub none_breaks : (condition : Formula) (s : State) → IsLeastImage s (λ other. not (holds_on s condition other)) None → IsKept condition s
none_breaks condition s none image is = not_false (holds_on s condition image) (none image is)

pub breaks_some : (all : Option Formula) (s : State) (image : List ℕ) → BreaksBy all s (Some image) → (condition : Formula) × (all ≡ Some condition) × IsLeastImage s (λ other. not (holds_on s condition other)) (Some image)
breaks_some None s image is = absurd (cc)
breaks_some (Some condition) s image least = (condition, refl, least)

pub breaks_none : (all : Option Formula) (s : State) → BreaksBy all s None → (condition : Formula) → all ≡ Some condition → IsKept condition s
breaks_none None s is condition asked = absurd (cc)
breaks_none (Some f) s least condition asked = let same : f ≡ condition = cc in subst (λ (g : Formula). IsKept g s) same (none_breaks f s least)

-- an image that breaks the condition ends the exploration
pub broken_sight : {E : Type 0} (question : Question) (condition : Formula) (s : State) (path : List Step) (image : List ℕ) (r : Result Sight E) → IfOk r (λ sight. sight ≡ Ends (Fails (record { asked = All; values = image; run = path })))
    → question.all ≡ Some condition → tried_candidates (lists question) (Some condition) s ≤ most_candidates → IsLeastImage s (λ other. not (holds_on s condition other)) (Some image) → IfOk r (λ sight. IsSight question s path sight)
broken_sight question condition s path image (Ok sight) is asked few least =
    subst (IsSight question s path) (sym is) (stop_broken question condition s path (record { asked = All; values = image; run = path }) asked refl refl few least)
broken_sight question condition s path image (Err e) is asked few least = tt
