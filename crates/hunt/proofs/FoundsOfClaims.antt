-- What was found of the least of some claims.
use Rattle.std.proofs.Common.{◌≡◌, ℕ, ◌+◌, ◌<◌, ◌≤◌, Bool, true, false, Option, Some, None, List, [], ◌∷◌, ◌++◌, refl, ap, ◌∙◌, ⊎_elim, arith}
use Rattle.std.proofs.lemmas.Bool.Decides.{nat_tests}
use Rattle.std.specs.Prelude.{nat_lt, option_map, option_and_then, if◌then◌else◌}
use Rattle.hunt.specs.Counts.{Has}
use Rattle.hunt.specs.declared.found.Found.{Found}
use Rattle.hunt.specs.declared.search.Asked.TheVariants.{Last, Ends, Crashes}
use Rattle.hunt.specs.declared.search.Search.{Search}
use Rattle.hunt.specs.declared.search.Target.{Target}
use Rattle.hunt.specs.Founds.{found_at, found_of, lesser, IsOfLeast}
use Rattle.hunt.specs.Searches.{crash_of}
use Rattle.hunt.proofs.SumsOverSeats.{has_append, has_left, has_right, one-same, has_snoc}

-- the number of what was found is that of the claim
number_is : (target : Target) (x : ℕ) (found : Found) → found ≡ found_of target x → found.number ≡ target.search.range.first + x
number_is target x found is = ap (λ (f : Found). f.number) is

module _ (target : Target) where
  pub of_none : IsOfLeast target [] None
  of_none y h = absurd (omega arith)

  pub of_one : (x : ℕ) (found : Found) → found ≡ found_of target x → IsOfLeast target (x ∷ []) (Some found)
  of_one x found is = (x, let a = one-same x x refl in omega arith, is, λ y h. ⊎_elim (λ k. absurd (omega arith)) (λ (e : y ≡ x). omega arith) (has_snoc y x [] h))

  chosen : (xs ys : List ℕ) (f g : Found) (b : Bool) → nat_lt g.number f.number ≡ b
      → IsOfLeast target xs (Some f) → IsOfLeast target ys (Some g) → IsOfLeast target (xs ++ ys) (if b then Some g else Some f)
  chosen xs ys f g true less (x, has_x, is_x, low_x) (y, has_y, is_y, low_y) =
      let a = number_is target x f is_x in let b = number_is target y g is_y in
      let below : y < x = grind (arith, nat_tests, less, a, b) in
      (y, has_right y xs ys has_y, is_y, λ z h. ⊎_elim (λ k. let c = low_x z k in omega arith) (λ k. low_y z k) (has_append z xs ys h))
  chosen xs ys f g false less (x, has_x, is_x, low_x) (y, has_y, is_y, low_y) =
      let a = number_is target x f is_x in let b = number_is target y g is_y in
      let below : x ≤ y = grind (arith, nat_tests, less, a, b) in
      (x, has_left x xs ys has_x, is_x, λ z h. ⊎_elim (λ k. low_x z k) (λ k. let c = low_y z k in omega arith) (has_append z xs ys h))

  -- of some claims and of others
  pub of_both : (xs ys : List ℕ) (f g : Option Found) → IsOfLeast target xs f → IsOfLeast target ys g → IsOfLeast target (xs ++ ys) (lesser f g)
  of_both xs ys None None some other = λ z h. ⊎_elim (λ k. some z k) (λ k. other z k) (has_append z xs ys h)
  of_both xs ys None (Some g) none (y, has, is, low) =
      (y, has_right y xs ys has, is, λ z h. ⊎_elim (λ k. absurd (none z k)) (λ k. low z k) (has_append z xs ys h))
  of_both xs ys (Some f) None (x, has, is, low) none =
      (x, has_left x xs ys has, is, λ z h. ⊎_elim (λ k. low z k) (λ k. absurd (none z k)) (has_append z xs ys h))
  of_both xs ys (Some f) (Some g) some other = chosen xs ys f g (nat_lt g.number f.number) refl some other

  -- the least of them is known
  pub of_least : (xs : List ℕ) (m : ℕ) (found : Option Found) → IsOfLeast target xs found → Has xs m → ((y : ℕ) → Has xs y → m ≤ y) → found ≡ Some (found_of target m)
  of_least xs m None none has low = absurd (none m has)
  of_least xs m (Some f) (x, has_x, is, low_x) has low =
      let a = low x has_x in let b = low_x m has in
      ap (λ (g : Found). Some g) (is ∙ ap (found_of target) (omega (arith, a, b)))

-- the number of what is found of a number
pub found_number : (search : Search) (o : Option ℕ) → option_map (λ (f : Found). f.number) (option_map (found_at Last search) o) ≡ o
found_number search None = refl
found_number search (Some number) = refl

-- the same where ends are asked
pub found_end_number : (recovered : Bool) (search : Search) (o : Option ℕ) → option_map (λ (f : Found). f.number) (option_map (found_at (Ends recovered) search) o) ≡ o
found_end_number recovered search None = refl
found_end_number recovered search (Some number) = refl

-- the loss of what is found of a number
pub found_loss : (search : Search) (o : Option ℕ) → option_and_then (λ (f : Found). f.loss) (option_map (found_at Crashes search) o) ≡ option_and_then (crash_of search) o
found_loss search None = refl
found_loss search (Some number) = refl
