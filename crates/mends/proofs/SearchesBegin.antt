-- A search begins.
use Rattle.std.proofs.Common.{◌≡◌, ℕ, Bool, false, true, List, [], ◌∷◌, length, refl, ap, arith, inl, inr, subst, sym, ◌∙◌}
use Rattle.std.specs.Global.{Vec}
use Rattle.std.specs.List.{All}
use Rattle.std.proofs.lemmas.List.{length-replicate}
use Rattle.std.proofs.lemmas.List.Elements.{All-cons, All-nil}
use Rattle.std.proofs.lemmas.Option.{slice_get_within}
use Rattle.isa.specs.Objects.{Object}
use Rattle.explore.specs.declared.question.Question.{Question}
use Rattle.verdicts.specs.Verdicts.{IsBrokenBy}
use Rattle.image_reasons.specs.declared.repair.Repair.{Repair}
use Rattle.candidates.specs.Candidates.{candidates_of}
use Rattle.candidates.specs.Sets.{with_all}
use Rattle.choices.specs.Choices.{is_within, nothing}
use Rattle.choices.specs.Waiting.{AreChoices, HasWithin}
use Rattle.mends.specs.declared.outcome.Open.{Open}
use Rattle.mends.specs.declared.search.Search.{Search}
use Rattle.mends.specs.Mends.{AreAllSettled, AreOpened}
use Rattle.mends.specs.Searches.{IsBound, IsSearch}
use Rattle.mends.proofs.PickedSets.{nothing_picked, nothing_within}

-- What is broken is broken with nothing.
pub nothing_breaks : (question : Question) (object : Object) → IsBrokenBy question object → IsBound question object (nothing (length (candidates_of object)))
nothing_breaks question object broken = record {
  is_choice = length-replicate (length (candidates_of object)) false;
  changed = object;
  is = ap (λ (set : List Repair). with_all set object) (nothing_picked (candidates_of object));
  broken = broken;
}

module _ (question : Question) (limit : ℕ) (object : Object) where
  none_opened : AreOpened question limit object []
  none_opened at one here = absurd (let within = slice_get_within [] at one here in omega (arith, within))

  pub search_begins : (search : Search) (first bound : Vec Bool) → first.items ≡ nothing (length (candidates_of object)) → IsBound question object bound.items
      → search.queue.items ≡ first ∷ [] → search.ruled.items ≡ bound ∷ [] → search.untold.items ≡ [] → IsSearch question limit object search
  search_begins search first bound is_first broken queue ruled untold =
      let n = length (candidates_of object) in
      let size : length first.items ≡ n = ap (λ (flags : List Bool). length flags) is_first ∙ length-replicate n false in record {
        known = record {
          choices = subst (λ (xs : List (Vec Bool)). AreChoices n xs) (sym queue) (All-cons (λ (v : Vec Bool). length v.items ≡ n) first [] size (All-nil (λ (v : Vec Bool). length v.items ≡ n)));
          ruled = subst (λ (xs : List (Vec Bool)). All (λ b. IsBound question object b.items) xs) (sym ruled)
              (All-cons (λ (b : Vec Bool). IsBound question object b.items) bound [] broken (All-nil (λ (b : Vec Bool). IsBound question object b.items)));
          opened = subst (λ (xs : List Open). AreOpened question limit object xs) (sym untold) none_opened;
          few = (let none = ap (λ (xs : List Open). length xs) untold in omega (arith, none));
        };
        covered = λ other is. inr (subst (λ (xs : List (Vec Bool)). HasWithin xs other) (sym queue)
            (first, (0, omega arith, refl), subst (λ (flags : List Bool). is_within flags other ≡ true) (sym is_first) (nothing_within n other)));
      }

  -- ---- and ends

  pub nothing_waits : (search : Search) → IsSearch question limit object search → search.queue.items ≡ [] → AreAllSettled question object search.untold.items
  nothing_waits search known empty other is = elim (known.covered other is) [
    | inl settled ↦ settled
    | inr (one, (k, within, e), below) ↦ absurd (let none = ap (λ (xs : List (Vec Bool)). length xs) empty in omega (arith, within, none))
  ]
