-- Closed states stand for all that is reachable, where own steps come first.
use Rattle.std.proofs.Common.{◌≡◌, ℕ, zero, suc, ◌<◌, inl, inr, Bool, true, false, not, Option, Some, List, [], ◌∷◌, refl, sym, ap, subst, ◌∙◌, arith, true≢false}
use Rattle.std.proofs.lemmas.Bool.{cases_Bool}
use Rattle.std.specs.Prelude.{◌⊎◌, ◌&&◌, ◌||◌, Contains, option_map, slice_get}
use Rattle.std.specs.Option.{option_map_or}
use Rattle.isa.specs.Registers.{reg}
use Rattle.isa.specs.declared.register.Reg.{Reg}
use Rattle.machine.specs.State.{Processor, State}
use Rattle.conditions.specs.declared.cond.Operand.{Operand}
use Rattle.conditions.specs.declared.cond.Operand.TheVariants.{Persisted, Coherent, Register}
use Rattle.conditions.specs.Formulas.{Formula}
use Rattle.conditions.proofs.SameValues.{same_truth, words_decide}
use Rattle.images.specs.Images.{IsImage, image_at}
use Rattle.images.specs.Truth.{holds_on, value_on}
use Rattle.explore.specs.Ahead.{AreClosedAhead, AreClosedFrom, CoversAhead, IsAdvanced, IsCoveredAhead, IsIdle, IsPassed, IsSeen, IsTried, is_unmixed, may_pass}
use Rattle.conditions.specs.Truth.{asks_persisted, is_register, reads_persisted, reads_registers}
use Rattle.explore.specs.Covering.{IsLike}
use Rattle.explore.specs.declared.question.Question.{Question}
use Rattle.explore.specs.Followed.{all_own, own_end}
use Rattle.explore.specs.Own.{HaveGone}
use Rattle.explore.specs.Reachable.{IsAlwaysKept, IsKept, IsReachable}
use Rattle.explore.proofs.AheadSteps.{AreLookedAt, Ends, IsKnown, IsLeftBy, ahead_of, covered_then, covers_ahead_of, first_known, gone_none, run_known}
use Rattle.explore.proofs.ClosedStates.{kept_covered, kept_without, same_persisted}
use Rattle.explore.proofs.OwnStepsEnd.{registers_stay}
use Rattle.explore.proofs.CoveredSteps.{sound_whole}
use Rattle.explore.proofs.LaterNodes.{kind_of, later_node}
use Rattle.explore.proofs.Members.{place_of}
use Rattle.explore.proofs.OwnStepsFollowed.{end_covers, end_fewer, some_busy}
use Rattle.explore.proofs.SpeakingFor.{Leaves, leaves_reached, like_speaks}

-- ---- a node in which no step is an own one, from each

alike_leads : (sets locals : Bool) (r t : State) → IsLike sets r t → CoversAhead sets locals r t
alike_leads sets locals r t alike = record {
  shape = alike.shape;
  processors = subst (λ (cpus : List Processor). HaveGone locals r.shape cpus r.processors) (sym alike.processors) (gone_none locals r.shape r.processors);
  memory = like_speaks sets r.memory t.memory alike.memory;
}

module _ (sets locals : Bool) (question : Question) (nodes : List State) (closed : AreClosedAhead sets locals question nodes) where
  further : (r : State) → IsAdvanced sets locals nodes r → (n : ℕ) → all_own r.processors < suc n
      → ((next t : State) → Contains nodes next → IsLike sets next t → all_own next.processors < n → IsCoveredAhead sets locals question nodes t) → IsCoveredAhead sets locals question nodes r
  further r advanced n few each =
      let (next, is_there, same) = advanced.there in
      let less : all_own (own_end locals r).processors < all_own r.processors = end_fewer locals r advanced.step advanced.first in
      let fewer : all_own next.processors < all_own r.processors = subst (λ (cpus : List Processor). all_own cpus < all_own r.processors) same.processors less in
      covered_then sets locals question nodes (own_end locals r) r (each next (own_end locals r) is_there same (omega (arith, fewer, few))) (end_covers sets locals r)

  from_node : (n : ℕ) (r t : State) → Contains nodes r → IsLike sets r t → all_own r.processors < n → IsCoveredAhead sets locals question nodes t
  from_node zero r t there alike few = absurd (omega (arith, few))
  from_node (suc n) r t there alike few =
      elim (kind_of sets locals question nodes r closed there) [
        | inl tried ↦ (r, there, tried, alike_leads sets locals r t alike)
        | inr advanced ↦ covered_then sets locals question nodes r t (further r advanced n few (from_node n)) (alike_leads sets locals r t alike)
      ]

  pub ends_ahead : Ends sets locals question nodes
  ends_ahead t (r, there, alike) = from_node (suc (all_own r.processors)) r t there alike (omega arith)

  -- ---- images that are looked at

  -- a node in which no step is an own one, whose images are looked at
  abbrev IsLooked : State → Type 0
  IsLooked r = IsTried sets locals question nodes r × IsSeen sets question nodes r

  passed_or_looked : (i : ℕ) (r : State) → slice_get nodes i ≡ Some r → IsIdle locals r → IsPassed locals nodes i r ⊎ IsLooked r
  passed_or_looked i r at idle =
      elim (closed.each i r at) [
        | inl (tried, looked) ↦ elim looked [ inl seen ↦ inr (tried, seen) | inr passed ↦ inl passed.1 ]
        | inr advanced ↦ absurd (some_busy locals r advanced.step advanced.first idle)
      ]

  -- where none are left to a later node, they are those of each
  pub seen_always : may_pass sets question ≡ false → (r : State) → Contains nodes r → IsIdle locals r → IsSeen sets question nodes r
  seen_always never r there idle =
      let (i, at) = place_of nodes r there in
      elim (closed.each i r at) [
        | inl (tried, looked) ↦ elim looked [ inl seen ↦ seen | inr passed ↦ absurd (true≢false (sym passed.0 ∙ never)) ]
        | inr advanced ↦ absurd (some_busy locals r advanced.step advanced.first idle)
      ]

  looked_by : (b : Bool) → sets ≡ b → (r : State) (persisted : List ℕ) → Contains nodes r → IsTried sets locals question nodes r → Leaves b r.memory persisted → IsLeftBy sets locals question nodes r persisted
  looked_by true is r persisted there tried held =
      let l = later_node locals nodes IsLooked passed_or_looked r persisted there tried.idle held in
      (l.node, l.there, l.is.0, l.is.1, l.shape, l.restarts, subst (λ (b : Bool). Leaves b l.node.memory persisted) (sym is) l.held)
  looked_by false is r persisted there tried reached =
      let never : may_pass sets question ≡ false = ap (λ (b : Bool). b && option_map_or reads_persisted question.all true) is in
      (r, there, tried, seen_always never r there tried.idle, refl, refl, subst (λ (b : Bool). Leaves b r.memory persisted) (sym is) reached)

  pub all_looked : AreLookedAt sets locals question nodes
  all_looked r persisted there tried left = looked_by sets refl r persisted there tried left

  -- what is reachable
  module _ (start : State) (from : AreClosedFrom sets locals question nodes start) where
    abbrev pub Known : State → Type 0
    Known t = IsKnown sets locals question nodes ends_ahead (end_covers sets locals) from.sound_nodes t

    pub start_known : Known start
    start_known = first_known sets locals question nodes ends_ahead (end_covers sets locals) from.sound_nodes all_looked start from.sound from.begins (ends_ahead start from.there)

    pub all_known : (t : State) → IsReachable question.crashes start t → Known t
    all_known t (steps, ran) =
        subst Known ran.leads (run_known sets locals question nodes ends_ahead (end_covers sets locals) from.sound_nodes all_looked steps start ran.crashing start_known)

pub all_covered : (sets locals : Bool) (question : Question) (nodes : List State) (start t : State) → AreClosedFrom sets locals question nodes start → IsReachable question.crashes start t → IsCoveredAhead sets locals question nodes t
all_covered sets locals question nodes start t from reachable = (all_known sets locals question nodes from.closed start from t reachable).covered

-- ---- conditions

abbrev register_in : List Processor → ℕ → Reg → Option ℕ
register_in cpus p x = option_map (λ (cpu : Processor). reg cpu.regs x) (slice_get cpus p)

registers_same : (shape : List ℕ) (cs ds : List Processor) (p : ℕ) (x : Reg) → HaveGone false shape cs ds → register_in cs p x ≡ register_in ds p x
registers_same shape [] [] p x gone = refl
registers_same shape [] (d ∷ ds) p x gone = absurd gone
registers_same shape (c ∷ cs) [] p x gone = absurd gone
registers_same shape (c ∷ cs) (d ∷ ds) zero x gone = λ k. Some (reg (sym (registers_stay shape gone.0.0 c d gone.0.1) k) x)
registers_same shape (c ∷ cs) (d ∷ ds) (suc p) x gone = registers_same shape cs ds p x gone.1

holds_ahead : (sets locals : Bool) (condition : Formula) (r t : State) → (locals && reads_registers condition) ≡ false → CoversAhead sets locals r t → (image : List ℕ) → holds_on t condition image ≡ holds_on (ahead_of r t) condition image
holds_ahead sets true condition r t none c image = words_decide (value_on t image) (value_on (ahead_of r t) image) same condition none
  where
    same : (operand : Operand) → is_register operand ≡ false → value_on t image operand ≡ value_on (ahead_of r t) image operand
    same (Persisted word) is = refl
    same (Coherent word) is = refl
    same (Register p x) is = absurd (true≢false is)
holds_ahead sets false condition r t none c image = same_truth (value_on t image) (value_on (ahead_of r t) image) same condition
  where
    same : (operand : Operand) → value_on t image operand ≡ value_on (ahead_of r t) image operand
    same (Persisted word) = refl
    same (Coherent word) = refl
    same (Register p x) = registers_same r.shape t.processors r.processors p x c.processors

kept_ahead : (locals : Bool) (condition : Formula) (r t : State) → (locals && reads_registers condition) ≡ false → CoversAhead false locals r t → IsKept condition r → IsKept condition t
kept_ahead locals condition r t none c kept image is =
    holds_ahead false locals condition r t none c image ∙ kept_covered condition r (ahead_of r t) (covers_ahead_of false locals r t c) kept image is

pub kept_by_few : (sets locals : Bool) (question : Question) (condition : Formula) (nodes : List State) (start : State) → (locals && reads_registers condition) ≡ false → (sets ≡ true → is_unmixed condition ≡ true)
    → question.all ≡ Some condition → AreClosedFrom sets locals question nodes start → IsAlwaysKept question.crashes condition start
kept_by_few sets locals question condition nodes start none unmixed asked from t reachable image left =
    elim (cases_Bool (reads_persisted condition)) [ inl alone ↦ by_images alone left | inr others ↦ by_states sets refl others left ]
  where
    -- an image alone decides
    by_images : reads_persisted condition ≡ true → IsImage t image → holds_on t condition image ≡ true
    by_images alone (persisted, reached, shown) =
        let (r, there, tried, looked, shape, restarted, left_there) = (all_known sets locals question nodes from.closed start from t reachable).left persisted reached in
        let here = leaves_reached sets r.memory persisted (sound_whole r (from.sound_nodes r there)) left_there in
        same_persisted r t condition image shape alone ∙ looked.all condition asked image (persisted, here, shown ∙ ap (λ (lines : List ℕ). image_at lines persisted) shape)

    untested : reads_persisted condition ≡ false → (is_unmixed condition) ≡ true → asks_persisted condition ≡ false
    untested others is = not_true (asks_persisted condition) (ap (λ (b : Bool). b || not (asks_persisted condition)) (sym others) ∙ is)
      where
        not_true : (b : Bool) → not b ≡ true → b ≡ false
        not_true true e = absurd (true≢false (sym e))
        not_true false e = refl

    -- the states decide, and the images of each are looked at
    by_states : (b : Bool) → sets ≡ b → reads_persisted condition ≡ false → IsImage t image → holds_on t condition image ≡ true
    by_states b is others here =
        let (r, there, tried, c) = all_covered sets locals question nodes start t from reachable in
        let never : may_pass sets question ≡ false = (λ k. sets && option_map_or reads_persisted (asked k) true) ∙ ap (λ (x : Bool). sets && x) others ∙ nothing sets in
        let kept = (seen_always sets locals question nodes from.closed never r there tried.idle).all condition asked in
        as_kept b is r c kept here
      where
        nothing : (x : Bool) → (x && false) ≡ false
        nothing true = refl
        nothing false = refl

        as_kept : (x : Bool) → sets ≡ x → (r : State) → CoversAhead sets locals r t → IsKept condition r → IsImage t image → holds_on t condition image ≡ true
        as_kept true on r c kept here =
            holds_ahead sets locals condition r t none c image
            ∙ kept_without sets condition r (ahead_of r t) (covers_ahead_of sets locals r t c) (untested others (unmixed on)) kept image
        as_kept false on r c kept here = kept_ahead locals condition r t none (subst (λ (x : Bool). CoversAhead x locals r t) on c) kept image here
