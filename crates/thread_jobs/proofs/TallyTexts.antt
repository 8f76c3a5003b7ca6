-- The texts of outcomes, one after another.
use Rattle.std.proofs.Common.{◌≡◌, ℕ, zero, suc, ◌+◌, List, [], ◌∷◌, ◌++◌, Some, drop, slice_get, sym, ap, ◌∙◌, append_assoc, add-one}
use Rattle.std.specs.List.{flat_map}
use Rattle.std.proofs.lemmas.List.Concat.{flat_map-cons}
use Rattle.lines_layout.specs.Layouts.{NamedLines}
use Rattle.lines_layout.specs.Names.{Text}
use Rattle.hunt.specs.Outcomes.{Observed}
use Rattle.thread_jobs.specs.TallyReports.{outcome_text, tally_text}

drop_here : {A : Type 0} (xs : List A) (k : ℕ) (x : A) → slice_get xs k ≡ Some x → drop k xs ≡ x ∷ drop (k + 1) xs
drop_here {A = A} xs k x e = by xs k e ∙ ap (λ n. x ∷ drop n xs) (sym (add-one k))
  where
    by : (xs : List A) (k : ℕ) → slice_get xs k ≡ Some x → drop k xs ≡ x ∷ drop (suc k) xs
    by [] k e = absurd (cc e)
    by (y ∷ ys) zero e = let is : y ≡ x = cc e in ap (λ z. z ∷ ys) is
    by (y ∷ ys) (suc k) e = by ys k e

-- the outcomes from the next on
pub outcomes_more : (layout : NamedLines) (tally : List (Observed × ℕ)) (k : ℕ) (entry : Observed × ℕ) (text new total : Text) → slice_get tally k ≡ Some entry
    → new ≡ text ++ outcome_text layout entry → text ++ tally_text layout (drop k tally) ≡ total → new ++ tally_text layout (drop (k + 1) tally) ≡ total
outcomes_more layout tally k entry text new total at one so_far =
    let f = outcome_text layout in
    let rest : tally_text layout (drop k tally) ≡ f entry ++ tally_text layout (drop (k + 1) tally) = ap (flat_map f) (drop_here tally k entry at) ∙ flat_map-cons f entry (drop (k + 1) tally) in
    ap (λ (t : Text). t ++ tally_text layout (drop (k + 1) tally)) one ∙ append_assoc text (f entry) (tally_text layout (drop (k + 1) tally))
    ∙ ap (λ (t : Text). text ++ t) (sym rest) ∙ so_far
