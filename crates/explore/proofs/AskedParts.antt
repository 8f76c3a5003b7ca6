-- What the parts of a question tell of the whole.
use Rattle.std.proofs.Common.{◌≡◌, ◌∙◌, ◌⊎◌, inl, inr, ℕ, zero, suc, ◌+◌, ◌≤◌, Bool, true, false, Option, Some, None, Result, Ok, Err, List, [], ◌∷◌, refl, sym, ap, ap₂, subst, arith, true≢false, mul-le-mul_left, mul-le-mul_right}
use Rattle.std.specs.Prelude.{◌↔◌, not, ◌&&◌, ◌||◌, ◌*◌, is_some, if◌then◌else◌, max}
use Rattle.std.specs.List.{list_all}
use Rattle.std.proofs.lemmas.Bool.{and_from, cases_lt, or_cases, or_left, or_right}
use Rattle.persist_buffer.specs.declared.entry.PendingEntry.{PendingEntry}
use Rattle.pending_images.specs.Candidates.{all_lines, choices, markers}
use Rattle.machine.specs.declared.step.Step.{Step}
use Rattle.machine.specs.State.{State}
use Rattle.conditions.specs.Formulas.{Formula, Compared, Not, And, Or}
use Rattle.conditions.specs.Truth.{asks_line, holds_by, term_asks_line}
use Rattle.conditions.specs.Conjuncts.{tests}
use Rattle.images.specs.Truth.{value_on}
use Rattle.explore.specs.declared.fault.ExploreFault.{ExploreFault}
use Rattle.explore.specs.declared.fault.ExploreFault.TheVariants.{TooManyStates, NoRoom, TooMany, NoMemory}
use Rattle.explore.specs.declared.question.Question.{Question}
use Rattle.explore.specs.declared.verdict.Verdict.{Verdict}
use Rattle.explore.specs.declared.verdict.Verdict.TheVariants.{Holds, Fails}
use Rattle.explore.specs.declared.verdict.Asked.{Asked}
use Rattle.explore.specs.declared.verdict.Asked.TheVariants.{All, Ends, Recovered}
use Rattle.explore.specs.Apart.{AsksNoMore, BreaksAlong, IsApart, IsPart, IsToldOfPart, told_of_both}
use Rattle.explore.specs.Asked.{asked_by, asked_candidates, tried_candidates}
use Rattle.explore.specs.Ends.{IsTrueAtEnds}
use Rattle.explore.specs.Findings.{Findings, HasRun}
use Rattle.explore.specs.Found.{led_to}
use Rattle.explore.specs.Narrow.{product_on, products_on}
use Rattle.explore.specs.Outcomes.{AreOutcomes}
use Rattle.explore.specs.Questions.{AreFindings, AreStates, FailsBy, IsFalseEnd, IsMany, IsVerdict, IsWorn, LacksRoom, lists, looks}
use Rattle.explore.specs.Ran.{IsRan}
use Rattle.explore.specs.Reachable.{IsKept, IsReachable, IsRun}
use Rattle.explore.specs.RunImages.{AreImagesOfRuns}
use Rattle.explore.specs.declared.visit.Stop.{Stop}
use Rattle.explore.specs.Visits.{AreKept, IsStop, IsStopOf}
use Rattle.explore.proofs.AskedCounts.{candidates_on, fewer_asked}

-- ---- a part asks fewer lines, which have fewer candidates

lines_are_tests : (line : ℕ) (f : Formula) → asks_line line f ≡ tests (term_asks_line line) f
lines_are_tests line (Compared left comparison right) = refl
lines_are_tests line (Not f) = lines_are_tests line f
lines_are_tests line (And f g) = ap₂ (λ (a b : Bool). a || b) (lines_are_tests line f) (lines_are_tests line g)
lines_are_tests line (Or f g) = ap₂ (λ (a b : Bool). a || b) (lines_are_tests line f) (lines_are_tests line g)

asked_within : (part whole : Formula) → IsPart part whole → (line : ℕ) → asks_line line part ≡ true → asks_line line whole ≡ true
asked_within part whole is line asks = lines_are_tests line whole ∙ is.within (term_asks_line line) (sym (lines_are_tests line part) ∙ asks)

times_one : (n : ℕ) → n * 1 ≡ n
times_one n = omega arith

wider : (a b : Bool) → (a ≡ true → b ≡ true) → (p q c : ℕ) → p ≤ q → 1 ≤ c → (if a then p * c else p) ≤ (if b then q * c else q)
wider true true within p q c le one = mul-le-mul_right c le
wider true false within p q c le one = absurd (true≢false (sym (within refl)))
wider false true within p q c le one = let grows : q * 1 ≤ q * c = mul-le-mul_left q one in let same = times_one q in omega (arith, le, grows, same)
wider false false within p q c le one = le

module _ (a b : ℕ → Bool) (within : (line : ℕ) → a line ≡ true → b line ≡ true) where
  product_wider : (lines k : ℕ) (es : List PendingEntry) → product_on a lines k es ≤ product_on b lines k es
  product_wider zero k es = omega arith
  product_wider (suc line) k es =
      wider (a line) (b line) (within line) (product_on a line k es) (product_on b line k es) (choices line k es) (product_wider line k es) (omega arith)

  sums_wider : (lines n : ℕ) (es : List PendingEntry) → products_on a lines n es ≤ products_on b lines n es
  sums_wider lines zero es = omega arith
  sums_wider lines (suc k) es = let rest = sums_wider lines k es in let one = product_wider lines k es in omega (arith, rest, one)

asked_wider : (part whole : Formula) → IsPart part whole → (s : State) → asked_candidates part s ≤ asked_candidates whole s
asked_wider part whole is s =
    let es = s.memory.pending in
    let few = candidates_on (asked_by part) es in
    let many = candidates_on (asked_by whole) es in
    let le = sums_wider (asked_by part) (asked_by whole) (asked_within part whole is) all_lines (markers es + 1) es in
    omega (arith, few, many, le)

same_some : (f g : Formula) → ◌≡◌ {A = Option Formula} (Some f) (Some g) → f ≡ g
same_some f g e = cc

none_some : (f : Formula) → ◌≡◌ {A = Option Formula} None (Some f) → ⊥
none_some f e = cc

tried_wider : (listed lists : Bool) (part whole : Option Formula) → (listed ≡ true → lists ≡ true) → ((f : Formula) → part ≡ Some f → (g : Formula) × (whole ≡ Some g) × IsPart f g)
    → (listed || is_some part) ≡ true → (s : State) → tried_candidates listed part s ≤ tried_candidates lists whole s
tried_wider true true part whole on all looked s = omega arith
tried_wider true false part whole on all looked s = absurd (true≢false (sym (on refl)))
tried_wider false lists None whole on all looked s = absurd (true≢false (sym looked))
tried_wider false true (Some f) whole on all looked s = fewer_asked (asked_by f) s.memory.pending
tried_wider false false (Some f) None on all looked s = let (g, is, part) = all f refl in absurd (none_some g is)
tried_wider false false (Some f) (Some h) on all looked s =
    let (g, is, part) = all f refl in
    asked_wider f h (subst (IsPart f) (sym (same_some h g is)) part) s

lists_too : (part question : Question) → AsksNoMore part question → lists part ≡ true → lists question ≡ true
lists_too part question asks on =
    elim (or_cases part.crashes part.images on) [
      | inl crashes ↦ or_left question.crashes question.images (sym asks.crashes ∙ crashes)
      | inr images ↦ or_right question.crashes question.images (asks.images images)
    ]

some_too : (part whole : Option Formula) → ((f : Formula) → part ≡ Some f → (g : Formula) × (whole ≡ Some g) × IsPart f g) → is_some part ≡ true → is_some whole ≡ true
some_too None whole all some = absurd (true≢false (sym some))
some_too (Some f) whole all some = let (g, is, part) = all f refl in ap is_some is

looks_too : (part question : Question) → AsksNoMore part question → looks part ≡ true → looks question ≡ true
looks_too part question asks looked =
    elim (or_cases (lists part) (is_some part.all) looked) [
      | inl listed ↦ or_left (lists question) (is_some question.all) (lists_too part question asks listed)
      | inr asked ↦ or_right (lists question) (is_some question.all) (some_too part.all question.all asks.all asked)
    ]

pub fault_of_whole : (part question : Question) (start : State) (limit : ℕ) (fault : ExploreFault) → AsksNoMore part question → IsVerdict part start limit (Err fault) → IsVerdict question start limit (Err fault)
fault_of_whole part question start limit TooManyStates asks told = subst (λ (crashes : Bool). IsMany crashes start limit) asks.crashes told
fault_of_whole part question start limit NoRoom asks told = subst (λ (crashes : Bool). LacksRoom crashes start ⊎ IsWorn start) asks.crashes told
fault_of_whole part question start limit TooMany asks told =
    let le = tried_wider (lists part) (lists question) part.all question.all (lists_too part question asks) asks.all told.looked told.state in
    let many = told.many in record {
      looked = looks_too part question asks told.looked;
      state = told.state;
      reached = subst (λ (crashes : Bool). IsReachable crashes start told.state) asks.crashes told.reached;
      many = omega (arith, le, many);
    }
fault_of_whole part question start limit NoMemory asks told = tt

-- ---- what fails

pub end_of_whole : (asked : Asked) (part question : Question) (start : State) (run : List Step) (values : List ℕ) → (asked ≡ All → ⊥) → AsksNoMore part question
    → FailsBy asked part start run values → FailsBy asked question start run values
end_of_whole All part question start run values other asks told = absurd (other refl)
end_of_whole Ends part question start run values other asks told =
    (told.0, asks.ends told.0 told.1, subst (λ (crashes : Bool). IsFalseEnd crashes false told.0 start run values) asks.crashes told.2)
end_of_whole Recovered part question start run values other asks told =
    (told.0, asks.recovered told.0 told.1, subst (λ (crashes : Bool). IsFalseEnd crashes true told.0 start run values) asks.crashes told.2)

contrary : (a b : Bool) → (a ≡ true → b ≡ true) → not b ≡ true → not a ≡ true
contrary true b follows fails = absurd (true≢false (sym fails ∙ ap not (follows refl)))
contrary false b follows fails = refl

pub breaks_along : (part question : Question) (start : State) (run : List Step) (values : List ℕ) → AsksNoMore part question → FailsBy All part start run values → BreaksAlong question start run
breaks_along part question start run values asks told =
    let (f, asked, broken) = told in
    let (whole, is, follows) = asks.all f asked in
    let value = value_on (led_to start run) values in record {
      whole = whole;
      asked = is;
      is_run = subst (λ (crashes : Bool). IsRun crashes run start (led_to start run)) asks.crashes broken.is_run;
      image = values;
      left = broken.least.0;
      broken = contrary (holds_by value whole) (holds_by value f) (follows.follows value) broken.least.1;
    }

-- where a run leads to a state in which an image makes the whole condition false, a look at this state ends the exploration
pub stops_again : (question : Question) (start s : State) (run path : List Step) (limit : ℕ) (stop : Stop) → path ≡ run → s ≡ led_to start run → IsStop question s path stop
    → BreaksAlong question start run → IsStopOf question start limit stop
stops_again question start s run path limit stop same leads stops along =
    stops start limit (subst (λ (steps : List Step). IsRun question.crashes steps start s) (sym same) (subst (λ (x : State). IsRun question.crashes run start x) (sym leads) along.is_run))

pub never_kept : (question : Question) (start s : State) (run : List Step) (images : List (List ℕ)) → s ≡ led_to start run → AreKept question s images → BreaksAlong question start run → ⊥
never_kept question start s run images leads are along =
    let kept : IsKept along.whole (led_to start run) = subst (λ (x : State). IsKept along.whole x) leads (are.kept along.whole along.asked) in
    true≢false (sym along.broken ∙ ap not (kept along.image along.left))

-- ---- all holds

more_states : (question : Question) (start : State) (limit n : ℕ) (found : Findings) → AreStates question.crashes start n → n ≤ limit → AreFindings question start limit found
    → AreFindings question start limit (record found { states = max found.states n })
more_states question start limit n found states within are = record {
  answered = are.answered;
  states = elim (cases_lt found.states n) [
    | inl less ↦ let e : n ≡ max found.states n = omega arith in subst (λ (m : ℕ). AreStates question.crashes start m) e states
    | inr more ↦ let e : found.states ≡ max found.states n = omega arith in subst (λ (m : ℕ). AreStates question.crashes start m) e are.states
  ];
  within = let one = are.within in omega (arith, one);
  ends = are.ends;
  recovered = are.recovered;
  images = are.images;
  ran = are.ran;
}

first_of : (p : Formula → Bool) (f g : Formula) → list_all p (f ∷ g ∷ []) ≡ true → p f ≡ true
first_of p f g e = left (p f) (p g && true) e
  where
    left : (a b : Bool) → (a && b) ≡ true → a ≡ true
    left true b e = refl
    left false b e = e

second_of : (p : Formula → Bool) (f g : Formula) → list_all p (f ∷ g ∷ []) ≡ true → p g ≡ true
second_of p f g e = right (p f) (p g) e
  where
    right : (a b : Bool) → (a && (b && true)) ≡ true → b ≡ true
    right true true e = refl
    right true false e = e
    right false b e = absurd (true≢false (sym e))

both_pass : (p : Formula → Bool) (f g : Formula) → p f ≡ true → p g ≡ true → list_all p (f ∷ g ∷ []) ≡ true
both_pass p f g one other = and_from (p f) (p g && true) one (and_from (p g) true other refl)

findings_of_whole : (question first other : Question) (start : State) (limit : ℕ) (found more : Findings) → IsApart question first other
    → AreFindings first start limit found → AreFindings other start limit more → AreFindings question start limit (record found { states = max found.states more.states })
findings_of_whole question first other start limit found more apart one two =
    let crashes : first.crashes ≡ question.crashes = ap (λ (q : Question). q.crashes) apart.first_asks in
    let crash_too : other.crashes ≡ question.crashes = ap (λ (q : Question). q.crashes) apart.other_asks in
    more_states question start limit more.states found (subst (λ (c : Bool). AreStates c start more.states) crash_too two.states) two.within (record {
      answered = record {
        all = λ condition asked t reached image is.
            let same : condition ≡ apart.whole = same_some condition apart.whole (sym asked ∙ apart.asked) in
            let value = value_on t image in
            ap (holds_by value) same ∙ sym (apart.conjuncts.same value)
            ∙ both_pass (holds_by value) apart.one apart.two
            (one.answered.all apart.one (ap (λ (q : Question). q.all) apart.first_asks) t (subst (λ (c : Bool). IsReachable c start t) (sym crashes) reached) image is)
            (two.answered.all apart.two (ap (λ (q : Question). q.all) apart.other_asks) t (subst (λ (c : Bool). IsReachable c start t) (sym crash_too) reached) image is);
        ends = λ condition asked. subst (λ (c : Bool). IsTrueAtEnds c false condition start) crashes
            (one.answered.ends condition (ap (λ (q : Question). q.ends) apart.first_asks ∙ asked));
        recovered = λ condition asked. subst (λ (c : Bool). IsTrueAtEnds c true condition start) crashes
            (one.answered.recovered condition (ap (λ (q : Question). q.recovered) apart.first_asks ∙ asked));
      };
      states = subst (λ (c : Bool). AreStates c start found.states) crashes one.states;
      within = one.within;
      ends = subst (λ (c : Bool). AreOutcomes c false start found.ends) crashes one.ends;
      recovered = subst (λ (c : Bool). AreOutcomes c true start found.recovered) crashes one.recovered;
      images = λ asked. subst (λ (c : Bool). AreImagesOfRuns c start found.images) crashes
          (one.images (ap (λ (q : Question). q.images) apart.first_asks ∙ asked));
      ran = λ p recovery place. subst (λ (c : Bool). ◌↔◌ (HasRun found p recovery place) (IsRan c start p recovery place)) crashes (one.ran p recovery place);
    })

-- ---- the parts ask no more

pub first_asks : (question first other : Question) → IsApart question first other → AsksNoMore first question
first_asks question first other apart = record {
  crashes = ap (λ (q : Question). q.crashes) apart.first_asks;
  all = λ f is. (
    apart.whole,
    apart.asked,
    subst (λ (g : Formula). IsPart g apart.whole) (same_some apart.one f (sym (ap (λ (q : Question). q.all) apart.first_asks) ∙ is)) (record {
      follows = λ value holds. first_of (holds_by value) apart.one apart.two (apart.conjuncts.same value ∙ holds);
      within = λ among tested. apart.conjuncts.within among (or_left (tests among apart.one) (tests among apart.two || false) tested);
    }),
  );
  ends = λ f is. ap (λ (q : Question). q.ends) (sym apart.first_asks) ∙ is;
  recovered = λ f is. ap (λ (q : Question). q.recovered) (sym apart.first_asks) ∙ is;
  images = λ on. ap (λ (q : Question). q.images) (sym apart.first_asks) ∙ on;
}

pub other_asks : (question first other : Question) → IsApart question first other → AsksNoMore other question
other_asks question first other apart = record {
  crashes = ap (λ (q : Question). q.crashes) apart.other_asks;
  all = λ f is. (
    apart.whole,
    apart.asked,
    subst (λ (g : Formula). IsPart g apart.whole) (same_some apart.two f (sym (ap (λ (q : Question). q.all) apart.other_asks) ∙ is)) (record {
      follows = λ value holds. second_of (holds_by value) apart.one apart.two (apart.conjuncts.same value ∙ holds);
      within = λ among tested. apart.conjuncts.within among
          (or_right (tests among apart.one) (tests among apart.two || false) (or_left (tests among apart.two) false tested));
    }),
  );
  ends = λ f is. absurd (none_some f (sym (ap (λ (q : Question). q.ends) apart.other_asks) ∙ is));
  recovered = λ f is. absurd (none_some f (sym (ap (λ (q : Question). q.recovered) apart.other_asks) ∙ is));
  images = λ on. absurd (true≢false (sym on ∙ ap (λ (q : Question). q.images) apart.other_asks));
}

-- ---- what is told of both

pub told_of_whole : (question first other : Question) (start : State) (limit : ℕ) (one two : Result Verdict ExploreFault) → IsApart question first other
    → IsToldOfPart question first start limit one → IsToldOfPart question other start limit two → IsVerdict question start limit (told_of_both one two)
told_of_whole question first other start limit (Ok (Fails failure)) two apart told too = told
told_of_whole question first other start limit (Err fault) (Ok (Fails failure)) apart told too = too
told_of_whole question first other start limit (Err fault) (Ok (Holds more)) apart told too = told
told_of_whole question first other start limit (Err fault) (Err later) apart told too = told
told_of_whole question first other start limit (Ok (Holds found)) (Ok (Fails failure)) apart told too = too
told_of_whole question first other start limit (Ok (Holds found)) (Err fault) apart told too = too
told_of_whole question first other start limit (Ok (Holds found)) (Ok (Holds more)) apart told too =
    findings_of_whole question first other start limit found more apart told too
