-- What is put in is the least of all sets.
use Rattle.std.proofs.Common.{◌≡◌, ℕ, ◌<◌, Bool, Ok, List, [], arith, inl, inr, subst, ap}
use Rattle.isa.specs.Objects.{Object}
use Rattle.explore.specs.declared.question.Question.{Question}
use Rattle.explore.specs.Findings.{Findings}
use Rattle.image_reasons.specs.declared.repair.Repair.{Repair}
use Rattle.added_fences.specs.Sets.{IsWithin}
use Rattle.candidates.specs.Candidates.{candidates_of}
use Rattle.candidates.specs.Sets.{cost, costs_of}
use Rattle.choices.proofs.Orders.{cheaper}
use Rattle.mends.specs.declared.outcome.Mended.TheVariants.{None}
use Rattle.mends.specs.Mends.{IsChoice, IsFirst, IsMended, IsRuledOutSet, IsSettled, chosen}
use Rattle.mends.proofs.PickedSets.{cost_of_picked, some_are_picked}

pub is_chosen : (object : Object) (set : List Repair) → IsWithin (candidates_of object) set → (choice : List Bool) × IsChoice object choice × (chosen object choice ≡ set)
is_chosen object set within = some_are_picked (candidates_of object) set within

none_open : (question : Question) (object : Object) (choice : List Bool) → IsSettled question object [] choice → IsRuledOutSet question object (chosen object choice)
none_open question object choice (inl ruled) = ruled
none_open question object choice (inr (one, (k, within, e), below)) = absurd (omega (arith, within))

pub is_least : (question : Question) (limit : ℕ) (object : Object) (set other : List Repair) (found : Findings) → IsFirst question limit object set found []
    → IsWithin (candidates_of object) other → cost other < cost set → IsRuledOutSet question object other
is_least question limit object set other found first within less =
    let candidates = candidates_of object in
    let costs = costs_of candidates in
    let (choice, is, same) = is_chosen object other within in
    let this = cost_of_picked candidates choice is in
    let that = cost_of_picked candidates first.choice first.is_choice in
    let these = ap cost same in
    let those = ap cost first.is in
    let before = cheaper costs choice first.choice (omega (arith, this, that, these, those, less)) in
    subst (λ (s : List Repair). IsRuledOutSet question object s) same (none_open question object choice (first.first choice is before))

pub none_at_all : (question : Question) (limit : ℕ) (object : Object) (set : List Repair) → IsMended question limit object (Ok None) → IsWithin (candidates_of object) set
    → IsRuledOutSet question object set
none_at_all question limit object set mended within =
    let (choice, is, same) = is_chosen object set within in
    subst (λ (s : List Repair). IsRuledOutSet question object s) same (none_open question object choice (mended.1 choice is))
