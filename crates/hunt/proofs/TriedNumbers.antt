-- The numbers that a worker tried, with one more, and what they tell of the least.
use Rattle.std.proofs.Common.{◌≡◌, ◌≢◌, ℕ, ◌+◌, ◌-◌, ◌<◌, ◌≤◌, ◌⊎◌, max, Bool, true, false, true≢false, Option, Some, None, List, [], ◌∷◌, ◌++◌, sym, refl, ap, ◌∙◌, subst, inl, inr, ⊎_elim, arith}
use native.Mathlib.Decide.{dec_le}
use Rattle.hunt.specs.declared.rule.SeatView.{SeatView}
use Rattle.hunt.specs.Counts.{Has, beyond}
use Rattle.hunt.specs.Rule.{no_report}
use Rattle.hunt.proofs.LeastNumbersAreFirst.{least-none, least-some}
use Rattle.hunt.specs.Plays.{Settled, fresh, joined, after_claim, after_look, after_report}
use Rattle.hunt.proofs.SumsOverSeats.{beyond-append, one-same, has_snoc, has_append, has_left, has_right, has_last}
use Rattle.std.proofs.lemmas.Bool.Decides.{nat_tests}
use Rattle.hunt.specs.declared.verdict.Verdict.{Verdict}
use Rattle.hunt.specs.declared.verdict.Verdict.TheVariants.{Holds, Fails, Skipped}
use Rattle.hunt.specs.declared.search.Target.{Target}
use Rattle.hunt.specs.Least.{least}
use Rattle.hunt.specs.declared.found.Found.{Found}
use Rattle.hunt.specs.Founds.{IsOfLeast}
use Rattle.hunt.specs.Known.{breaks, IsKnown}
use Rattle.hunt.specs.Done.{Tried, Did, IsDone, top, after_verdict, ends_by, found_after}
use Rattle.hunt.proofs.FoundsOfClaims.{of_both, of_one}

pub top-snoc : (x : ℕ) (xs : List ℕ) → top (xs ++ x ∷ []) ≡ max (top xs) (x + 1)
top-snoc x [] = omega arith
top-snoc x (y ∷ ys) = let h = top-snoc x ys in omega arith

pub top_low : (x : ℕ) (xs : List ℕ) → ((y : ℕ) → Has xs y → y < x) → top xs ≤ x
top_low x [] h = omega arith
top_low x (y ∷ ys) h = let a = one-same y y refl in let b = h y (omega arith) in let c = top_low x ys (λ z k. h z (omega arith)) in omega arith

-- the measure falls
pub falls_short : (limit x : ℕ) (xs ys : List ℕ) → x < limit → ((y : ℕ) → Has xs y → y < x) → ys ≡ xs ++ x ∷ [] → limit - top ys < limit - top xs
falls_short limit x xs ys low above is = let a = top_low x xs above in let b : top ys ≡ max (top xs) (x + 1) = ap top is ∙ top-snoc x xs in omega arith

pub did_nothing : (test : ℕ → Bool) (limit : ℕ) → Did test (fresh limit)
did_nothing test limit = record { tried = λ x h. absurd (omega arith); right = λ x h. absurd (omega arith) }

-- what was tried stays so
still : (test : ℕ → Bool) (v w : SeatView) (x : ℕ) → ((y : ℕ) → Has v.reported y → Has w.reported y) → ((y : ℕ) → Has v.bounds y → Has w.bounds y) → Tried test v x → Tried test w x
still test v w x reports bounds t = ⊎_elim (λ a. inl a) (λ t'. inr (⊎_elim (λ b. inl (reports x b)) (λ c. inr (c.0, bounds c.0 c.1, c.2)) t')) t

-- x was drawn, the bound b was seen, and the number is no counterexample or was skipped
pub did_next : (test : ℕ → Bool) (v : SeatView) (x b : ℕ) → Did test v → (test x ≡ false) ⊎ (b < x) → Did test (after_look (after_claim v x) b)
did_next test v x b d found =
    let w : SeatView = after_look (after_claim v x) b in
    let here : Tried test w x = ⊎_elim (λ a. inl a) (λ l. inr (inr (b, has_last b v.bounds, l))) found in
    record {
      tried = λ y h low. ⊎_elim (λ k. still test v w y (λ z a. a) (λ z a. has_left z v.bounds (b ∷ []) a) (d.tried y k low)) (λ (e : y ≡ x). subst (Tried test w) (sym e) here) (has_snoc y x v.claimed h);
      right = d.right;
    }

-- x was drawn, and is a counterexample, and was reported
pub did_report : (test : ℕ → Bool) (v : SeatView) (x b : ℕ) → Did test v → test x ≡ true → Did test (after_report (after_look (after_claim v x) b) x)
did_report test v x b d found =
    let w : SeatView = after_report (after_look (after_claim v x) b) x in
    let here : Tried test w x = inr (inl (has_last x v.reported)) in
    record {
      tried = λ y h low. ⊎_elim (λ k. still test v w y (λ z a. has_left z v.reported (x ∷ []) a) (λ z a. has_left z v.bounds (b ∷ []) a) (d.tried y k low)) (λ (e : y ≡ x). subst (Tried test w) (sym e) here) (has_snoc y x v.claimed h);
      right = λ y h. ⊎_elim (d.right y) (λ (e : y ≡ x). ap test e ∙ found) (has_snoc y x v.reported h);
    }

-- what the verdict says
pub did_verdict : (target : Target) (v : SeatView) (x b : ℕ) (verdict : Verdict) → IsKnown target x b verdict
    → Did (breaks target) v → Did (breaks target) (after_verdict (after_look (after_claim v x) b) x verdict)
did_verdict target v x b Holds known d = did_next (breaks target) v x b d (inl known)
did_verdict target v x b (Fails found) known d = did_report (breaks target) v x b d known.0
did_verdict target v x b Skipped known d = did_next (breaks target) v x b d (inr known)

-- what a seat's view is after one round
pub did_round : (target : Target) (v v₁ v₂ v₃ : SeatView) (x b : ℕ) (verdict : Verdict) → v₁ ≡ after_claim v x → v₂ ≡ after_look v₁ b → v₃ ≡ after_verdict v₂ x verdict
    → IsKnown target x b verdict → Did (breaks target) v → Did (breaks target) v₃
did_round target v v₁ v₂ v₃ x b verdict e₁ e₂ e₃ known d =
    subst (Did (breaks target)) (sym (e₃ ∙ ap (λ u. after_verdict u x verdict) (e₂ ∙ ap (λ u. after_look u b) e₁))) (did_verdict target v x b verdict known d)

-- what was found, after a verdict
found_verdict : (target : Target) (v : SeatView) (x b : ℕ) (found : Option Found) (verdict : Verdict) → IsKnown target x b verdict
    → IsOfLeast target v.reported found → IsOfLeast target (after_verdict (after_look (after_claim v x) b) x verdict).reported (found_after found verdict)
found_verdict target v x b found Holds known of = of
found_verdict target v x b found (Fails other) known of = of_both target v.reported (x ∷ []) found (Some other) of (of_one target x other known.1)
found_verdict target v x b found Skipped known of = of

-- what was found after one round
pub found_round : (target : Target) (v v₁ v₂ v₃ : SeatView) (x b : ℕ) (verdict : Verdict) (found next : Option Found) → v₁ ≡ after_claim v x → v₂ ≡ after_look v₁ b → v₃ ≡ after_verdict v₂ x verdict
    → next ≡ found_after found verdict → IsKnown target x b verdict → IsOfLeast target v.reported found → IsOfLeast target v₃.reported next
found_round target v v₁ v₂ v₃ x b verdict found next e₁ e₂ e₃ is known of =
    subst (λ (z : SeatView × Option Found). IsOfLeast target z.0.reported z.1) (λ i. (sym (e₃ ∙ ap (λ u. after_verdict u x verdict) (e₂ ∙ ap (λ u. after_look u b) e₁)) i, sym is i))
    (found_verdict target v x b found verdict known of)

-- a claim that found no number reports none
pub found_end : (target : Target) (v w : SeatView) (found : Option Found) → (w ≡ v) ⊎ ((x : ℕ) × (v.limit ≤ x) × (w ≡ after_claim v x)) → IsOfLeast target v.reported found → IsOfLeast target w.reported found
found_end target v w found e of =
    let same : w.reported ≡ v.reported = ⊎_elim (λ s. ap (λ (u : SeatView). u.reported) s) (λ t. ap (λ (u : SeatView). u.reported) t.2) e in
    subst (λ (xs : List ℕ). IsOfLeast target xs found) (sym same) of

-- a worker that skipped a number is done
pub done_skipped : (target : Target) (v v₁ v₂ v₃ : SeatView) (x b : ℕ) (verdict : Verdict) → v₁ ≡ after_claim v x → v₂ ≡ after_look v₁ b → v₃ ≡ after_verdict v₂ x verdict
    → IsKnown target x b verdict → ends_by verdict ≡ true → IsDone v₃
done_skipped target v v₁ v₂ v₃ x b Holds e₁ e₂ e₃ known ends = absurd (true≢false (sym ends))
done_skipped target v v₁ v₂ v₃ x b (Fails found) e₁ e₂ e₃ known ends = absurd (true≢false (sym ends))
done_skipped target v v₁ v₂ v₃ x b Skipped e₁ e₂ e₃ known ends =
    subst IsDone (sym (e₃ ∙ (e₂ ∙ ap (λ u. after_look u b) e₁))) (inr (x, b, has_last x v.claimed, has_last b v.bounds, known))

-- what was claimed does not change by a verdict
pub after_verdict-claimed : (v : SeatView) (x : ℕ) (verdict : Verdict) → (after_verdict v x verdict).claimed ≡ v.claimed
after_verdict-claimed v x Holds = refl
after_verdict-claimed v x (Fails found) = refl
after_verdict-claimed v x Skipped = refl

-- the claim that found no number below the limit
did_past : (test : ℕ → Bool) (v : SeatView) (x : ℕ) → v.limit ≤ x → Did test v → Did test (after_claim v x)
did_past test v x high d = record {
  tried = λ y h low. ⊎_elim (λ k. d.tried y k low) (λ (e : y ≡ x). absurd (omega arith)) (has_snoc y x v.claimed h);
  right = d.right;
}

pub did_end : (test : ℕ → Bool) (v w : SeatView) → (w ≡ v) ⊎ ((x : ℕ) × (v.limit ≤ x) × (w ≡ after_claim v x)) → Did test v → Did test w
did_end test v w e d = ⊎_elim (λ s. subst (Did test) (sym s) d) (λ t. subst (Did test) (sym t.2) (did_past test v t.0 t.1 d)) e

-- two workers' work, put together
pub did_both : (test : ℕ → Bool) (v w : SeatView) → v.limit ≡ w.limit → Did test v → Did test w → Did test (joined v w)
did_both test v w same d e = record {
  tried = λ y h low. ⊎_elim
      (λ k. still test v (joined v w) y (λ z a. has_left z v.reported w.reported a) (λ z a. has_left z v.bounds w.bounds a) (d.tried y k low))
      (λ k. still test w (joined v w) y (λ z a. has_right z v.reported w.reported a) (λ z a. has_right z v.bounds w.bounds a) (e.tried y k (omega arith)))
      (has_append y v.claimed w.claimed h);
  right = λ y h. ⊎_elim (d.right y) (e.right y) (has_append y v.reported w.reported h);
}

some_beyond : (n : ℕ) (xs : List ℕ) → 0 < beyond n xs → (x : ℕ) × (n ≤ x) × Has xs x
some_beyond n [] h = absurd (omega arith)
some_beyond n (y ∷ ys) h = elim (dec_le n y) [
  | yes le ↦ (y, le, let a = one-same y y refl in omega arith)
  | no lt ↦ let z : beyond n (y ∷ []) ≡ 0 = grind (arith, nat_tests) in let t = some_beyond n ys (omega arith) in (t.0, t.1, let b = t.2 in omega arith)
]

-- where one worker needs no further number, each number below the least that was reported was drawn
all_drawn : (v : SeatView) (count least x : ℕ) → Settled v count least → IsDone v → x < v.limit → x < least → x < count
all_drawn v count least x s (inl over) below low =
    let t = some_beyond v.limit v.claimed over in
    elim (dec_le count t.0) [ yes le ↦ absurd (let a = s.ahead t.0 le in let b = t.2 in omega arith) | no lt ↦ let a = t.1 in omega arith ]
all_drawn v count least x s (inr (y, b, claimed, seen, above)) below low =
    let under : least ≤ b = s.low.0 b seen in
    elim (dec_le count y) [ yes le ↦ absurd (let a = s.ahead y le in omega arith) | no lt ↦ omega arith ]

tried_below : (test : ℕ → Bool) (v : SeatView) (count low : ℕ) → Settled v count low → Did test v → IsDone v → (x : ℕ) → x < v.limit → x < low → test x ≡ false
tried_below test v count low s d done x lt below =
    let a = all_drawn v count low x s done lt below in let b = s.handed x a in
    ⊎_elim (λ t. t) (λ t'. ⊎_elim (λ r. absurd (let c = s.low.1 x r in omega arith)) (λ t''. absurd (let c = s.low.0 t''.0 t''.1 in let e = t''.2 in omega arith)) t') (d.tried x (omega arith) lt)

pub found_none : (test : ℕ → Bool) (v : SeatView) (count low : ℕ) → v.limit < 18446744073709551615 → Settled v count low → Did test v → IsDone v → low ≡ no_report → least test v.limit ≡ None
found_none test v count low small s d done is = least-none test v.limit (λ x lt. tried_below test v count low s d done x lt (omega arith))

pub found_some : (test : ℕ → Bool) (v : SeatView) (count low : ℕ) → Settled v count low → Did test v → IsDone v → low ≢ no_report → least test v.limit ≡ Some low
found_some test v count low s d done is = ⊎_elim (λ e. absurd (is e))
    (λ r. let o = s.own low r in least-some test v.limit low o.0 (d.right low r) (λ x below. tried_below test v count low s d done x (let a = o.0 in omega arith) below)) s.least_is

pub done_both : (v w : SeatView) → IsDone v → IsDone (joined v w)
done_both v w (inl over) = inl (let a = beyond-append v.limit v.claimed w.claimed in omega arith)
done_both v w (inr (x, b, claimed, seen, above)) = inr (x, b, has_left x v.claimed w.claimed claimed, has_left b v.bounds w.bounds seen, above)
