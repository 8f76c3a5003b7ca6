-- What is told of the first move that helps.
use Rattle.std.proofs.Common.{◌≡◌, ℕ, zero, suc, ◌+◌, ◌<◌, Option, Some, None, Ok, List, [], ◌∷◌, ap, arith, get_or, length, sym, subst, ◌∙◌}
use Rattle.std.specs.Prelude.{slice_get, take}
use Rattle.std.specs.List.{All}
use Rattle.std.specs.Option.{option_and_then}
use Rattle.std.proofs.lemmas.List.Elements.{All-head, All-more, All-tail}
use Rattle.isa.specs.Objects.{Object}
use Rattle.machine.specs.Objects.{opening}
use Rattle.explore.specs.declared.question.Question.{Question}
use Rattle.explore.specs.Questions.{AreFindings}
use Rattle.image_reasons.specs.declared.repair.Repair.{Repair}
use Rattle.candidates.specs.Sets.{with_all}
use Rattle.mends.specs.declared.outcome.Mended.{Mended}
use Rattle.mends.specs.declared.outcome.Mended.TheVariants as mends
use Rattle.mends.specs.declared.outcome.Put.{Put}
use Rattle.mends.specs.Mends.{IsMended}
use Rattle.moves.specs.declared.one_move.Move.{Move}
use Rattle.moves.specs.declared.outcome.FirstMove.{FirstMove}
use Rattle.moves.specs.Moves.{moved, moves_of}
use Rattle.moves.specs.Tried.{IsFirstMove, IsMendedBy, IsPutBy, IsTried, IsVain}

-- what holds of each that is taken holds of each of these
taken_holds : {A : Type 0} (P : A → Type 0) (xs : List A) (at before : ℕ) (x : A) → All P (take at xs) → before < at → slice_get xs before ≡ Some x → P x
taken_holds P xs zero before x all less is = absurd (omega (arith, less))
taken_holds P [] (suc at) before x all less is = absurd (cc is)
taken_holds P (y ∷ xs) (suc at) zero x all less is = let same : y ≡ x = cc is in subst P same (All-head P y (take at xs) all)
taken_holds P (y ∷ xs) (suc at) (suc before) x all less is = taken_holds P xs at before x (All-tail P y (take at xs) all) (omega (arith, less)) is

-- a move of which no mend is told is in vain
pub none_told : (question : Question) (limit : ℕ) (object : Object) (one : Move) (tried : Option Put) → IsTried question limit object one tried → tried ≡ None
    → IsVain question limit object one
none_told question limit object one None is none = is
none_told question limit object one (Some put) is none = absurd (cc none)

-- one more is in vain
pub one_more : {A : Type 0} (P : A → Type 0) (xs ys : List A) (at : ℕ) (d : A) → ys ≡ xs → at < length ys → All P (take at xs) → P (get_or ys at d) → All P (take (at + 1) xs)
one_more {A} P xs ys at d same within all is =
    All-more P xs at d (subst (λ (zs : List A). at < length zs) same within) all (subst (λ (zs : List A). P (get_or zs at d)) same is)

-- With this put into a program, this is found.
abbrev Holds : Question → ℕ → Option Object → Put → Type 0
Holds question limit o put =
    (changed : Object) × (option_and_then (with_all put.set.items) o ≡ Some changed) × AreFindings question (opening changed) limit put.found

module _ (question : Question) (limit : ℕ) where
  put_holds : (object : Object) (mended : Mended) (put : Put) → IsMended question limit object (Ok mended) → IsPutBy mended put → Holds question limit (Some object) put
  put_holds object (mends.NoneNeeded found) put is by =
      (object, ap (λ (set : List Repair). with_all set object) by.0, subst (λ f. AreFindings question (opening object) limit f) (sym by.1) is)
  put_holds object (mends.Put own) put is by =
      let (changed, there, found) = is.1.holds in (
        changed,
        ap (λ (p : Put). with_all p.set.items object) by ∙ ap (λ (set : List Repair). with_all set object) is.1.is ∙ there,
        subst (λ (p : Put). AreFindings question (opening changed) limit p.found) (sym by) found,
      )
  put_holds object mends.None put is by = absurd by
  put_holds object (mends.NotKnown untold) put is by = absurd by

  mended_holds : (o : Option Object) (put : Put) → IsMendedBy question limit o put → Holds question limit o put
  mended_holds None put is = absurd is
  mended_holds (Some object) put (mended, is, by) = put_holds object mended put is by

  pub told_holds : (object : Object) (first : FirstMove) → IsFirstMove question limit object first → Holds question limit (moved object first.made) first.put
  told_holds object first is = mended_holds (moved object first.made) first.put is.helps

  pub each_before : (object : Object) (first : FirstMove) → IsFirstMove question limit object first
      → (at : ℕ) × (slice_get (moves_of object) at ≡ Some first.made)
      × ((before : ℕ) (other : Move) → before < at → slice_get (moves_of object) before ≡ Some other → IsVain question limit object other)
  each_before object first is = (is.at, is.is, λ before other less there. taken_holds (IsVain question limit object) (moves_of object) is.at before other is.before less there)
