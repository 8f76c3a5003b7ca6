-- Choices that are asked before their turn.
use Rattle.std.proofs.Common.{◌≡◌, ℕ, ◌+◌, Bool, Some, List, [], ◌∷◌, ◌++◌, length, take, drop, get_or, refl, sym, subst}
use Rattle.std.specs.Prelude.{slice_get}
use Rattle.std.specs.Global.{Vec}
use Rattle.std.proofs.lemmas.List.Elements.{All-append, All-contains, All-drop, All-take, Contains-get_or}
use Rattle.std.proofs.lemmas.Option.{get_or_from_slice_get, slice_get_read}
use Rattle.isa.specs.Objects.{Object}
use Rattle.explore.specs.declared.question.Question.{Question}
use Rattle.choices.specs.Waiting.{AreChoices, IsTakenOut}
use Rattle.mends.specs.declared.ahead.Asked.{Asked}
use Rattle.mends.specs.Ahead.{AreAsked, IsAsked, IsPlaceOf}
use Rattle.mends.specs.Searches.{IsTried}

module _ (question : Question) (limit : ℕ) (object : Object) where
  -- One is taken out of those that were asked.
  pub still_asked : (old new : List Asked) (place : ℕ) → AreAsked question limit object old → new ≡ take place old ++ drop (place + 1) old
      → AreAsked question limit object new
  still_asked old new place all parts =
      subst (λ (xs : List Asked). AreAsked question limit object xs) (sym parts)
      (All-append (IsAsked question limit object) (take place old) (drop (place + 1) old) (All-take (IsAsked question limit object) place old all)
      (All-drop (IsAsked question limit object) (place + 1) old all))

  -- What is told of it is so of the choice.
  pub told_of : (asked : List Asked) (choice : List Bool) (place : ℕ) (one : Asked) → AreAsked question limit object asked → IsPlaceOf asked choice (Some place)
      → one ≡ get_or asked place one → IsTried question limit object choice one.tried
  told_of asked choice place one all (there, same) is =
      let read : slice_get asked place ≡ Some one = slice_get_read asked (length asked) place one refl there is in
      let this : IsAsked question limit object one =
      subst (λ (o : Asked). IsAsked question limit object o) (get_or_from_slice_get asked place one one read) (all place one there) in
      subst (λ (flags : List Bool). IsTried question limit object flags one.tried) (same one read) this.tried

-- The least is taken out of a copy of the queue.
pub left_are_choices : (n : ℕ) (costs : List ℕ) (queue left : List (Vec Bool)) (choice : Vec Bool) → AreChoices n queue → IsTakenOut costs queue left choice
    → AreChoices n left × (length choice.items ≡ n)
left_are_choices n costs queue left choice all taken = (
  λ k d within.
      All-contains (λ (v : Vec Bool). length v.items ≡ n) queue (get_or left k d) all (taken.from (get_or left k d) (Contains-get_or left k d within)),
  All-contains (λ (v : Vec Bool). length v.items ≡ n) queue choice all taken.was_there,
)
