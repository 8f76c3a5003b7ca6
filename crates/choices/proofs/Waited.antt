-- What the queue does.
use Rattle.std.proofs.Common.{◌≡◌, ◌⊎◌, ℕ, zero, suc, ◌+◌, ◌*◌, ◌<◌, ◌≤◌, ◌^◌, Bool, true, false, cond, not, ◌||◌, List, [], ◌∷◌, ◌++◌, length, take, drop, get_or, add-one, refl, ap, sym, subst, ◌∙◌, inl, inr, arith}
use Rattle.std.specs.Prelude.{Contains, remove, slice_index_or}
use Rattle.std.specs.Global.{Vec}
use Rattle.std.specs.List.{count_by}
use Rattle.std.proofs.Math.Seq.{drop-cons}
use Rattle.std.proofs.lemmas.List.{get_or_default, length-set, take-append-drop, take_all}
use Rattle.std.proofs.lemmas.List.Elements.{All-more, All-nil, All-push, All-weaker, Contains-append_cases, Contains-append_left, Contains-append_right, Contains-push}
use Rattle.std.proofs.lemmas.List.Sums.{sum_by-remove, sum_by-set, sum_by_push}
use Rattle.std.proofs.Math.Nat.{lt_of_mul-lt-mul_left, mul-add, mul-le-mul_left, mul-le-mul_right, pow-succ', pow-zero, suc-mul}
use Rattle.std.proofs.lemmas.Bool.{and_parts, false≢true}
use Rattle.choices.specs.Choices.{comes_before, is_within, with_one}
use Rattle.choices.specs.Waiting.{AreChoices, HasWithin, IsLeast, IsLeastPlace, IsPut, IsTakenOut, weight, weight_of}
use Rattle.choices.proofs.Above.{within_itself}
use Rattle.choices.proofs.Orders.{not_before_itself, still_not_before}

-- ---- the least

module _ (costs : List ℕ) (queue : List (Vec Bool)) where
  abbrev NotBefore : Vec Bool → Vec Bool → Type 0
  NotBefore choice other = comes_before costs other.items choice.items ≡ false

  abbrev pub LeastOf : ℕ → ℕ → Type 0
  LeastOf place least = (other : Vec Bool) → IsLeast costs (take place queue) (get_or queue least other).items

  pub first_is_least : 0 < length queue → LeastOf 1 0
  first_is_least some other =
      All-more (NotBefore (get_or queue 0 other)) queue 0 other some (All-nil (NotBefore (get_or queue 0 other))) (not_before_itself costs (get_or queue 0 other).items)

  module _ (place least : ℕ) (x y : Vec Bool) (here : place < length queue) (there : least < length queue) (is_x : x ≡ get_or queue place x) (is_y : y ≡ get_or queue least y)
      (so_far : LeastOf place least) where
    y_least : IsLeast costs (take place queue) y.items
    y_least = subst (λ (z : Vec Bool). IsLeast costs (take place queue) z.items) (sym is_y) (so_far y)

    pub takes : comes_before costs x.items y.items ≡ true → LeastOf (place + 1) place
    takes is other =
        subst (λ (z : Vec Bool). IsLeast costs (take (place + 1) queue) z.items) (is_x ∙ get_or_default queue place x other here)
        (All-more (NotBefore x) queue place x here
        (All-weaker (NotBefore y) (NotBefore x) (λ z not_y. still_not_before costs z.items x.items y.items not_y is) (take place queue) y_least)
        (subst (λ (z : Vec Bool). NotBefore x z) is_x (not_before_itself costs x.items)))

    pub keeps : comes_before costs x.items y.items ≡ false → LeastOf (place + 1) least
    keeps is other =
        subst (λ (z : Vec Bool). IsLeast costs (take (place + 1) queue) z.items) (is_y ∙ get_or_default queue least y other there)
        (All-more (NotBefore y) queue place x here y_least (subst (λ (z : Vec Bool). NotBefore y z) is_x is))

  pub least_of_all : (least place : ℕ) → length queue ≤ place → LeastOf place least → (other : Vec Bool) → IsLeast costs queue (get_or queue least other).items
  least_of_all least place past so_far other =
      subst (λ (these : List (Vec Bool)). IsLeast costs these (get_or queue least other).items) (take_all place queue past) (so_far other)

  pub taken_out : (least : ℕ) (choice : Vec Bool) (left : List (Vec Bool)) → IsLeastPlace costs queue least → choice ≡ get_or queue least choice → left ≡ remove queue least
      → left ≡ take least queue ++ drop (least + 1) queue → IsTakenOut costs queue left choice
  taken_out least choice left (within, is_least) is same parts = record {
    was_there = (least, within, sym is);
    least = subst (λ (z : Vec Bool). IsLeast costs queue z.items) (sym is) (is_least choice);
    kept = λ other there. elim (Contains-append_cases front (choice ∷ rest) other (subst (λ (zs : List (Vec Bool)). Contains zs other) whole there)) [
      | inl before ↦ inr (subst (λ (zs : List (Vec Bool)). Contains zs other) (sym parts) (Contains-append_left front rest other before))
      | inr behind ↦ elim (first_or_later other behind) [
        | inl this ↦ inl this
        | inr later ↦ inr (subst (λ (zs : List (Vec Bool)). Contains zs other) (sym parts) (Contains-append_right front rest other later))
      ]
    ];
    from = λ other there. subst (λ (zs : List (Vec Bool)). Contains zs other) (sym whole)
        (elim (Contains-append_cases front rest other (subst (λ (zs : List (Vec Bool)). Contains zs other) parts there)) [
          | inl before ↦ Contains-append_left front (choice ∷ rest) other before
          | inr behind ↦ Contains-append_right front (choice ∷ rest) other (later_there other behind)
        ]);
    weight = ap weight_plus same ∙ added;
  }
    where
      front : List (Vec Bool)
      front = take least queue

      rest : List (Vec Bool)
      rest = drop (least + 1) queue

      whole : queue ≡ front ++ choice ∷ rest
      whole =
          sym (take-append-drop least queue)
          ∙ ap (λ (zs : List (Vec Bool)). front ++ zs)
          (drop-cons queue least choice within ∙ ap (λ (n : ℕ). get_or queue least choice ∷ drop n queue) (sym (add-one least)) ∙ ap (λ (z : Vec Bool). z ∷ rest) (sym is))

      first_or_later : (other : Vec Bool) → Contains (choice ∷ rest) other → (other ≡ choice) ⊎ Contains rest other
      first_or_later other (zero, within_it, e) = inl (sym e)
      first_or_later other (suc k, within_it, e) = inr (k, omega (arith, within_it), e)

      later_there : (other : Vec Bool) → Contains rest other → Contains (choice ∷ rest) other
      later_there other (k, within_it, e) = (suc k, omega (arith, within_it), e)

      weight_plus : List (Vec Bool) → ℕ
      weight_plus zs = weight zs + weight_of choice.items

      added : weight_plus (remove queue least) ≡ weight queue
      added =
          ap (λ (z : Vec Bool). weight (remove queue least) + weight_of z.items) is
          ∙ sum_by-remove (λ (z : Vec Bool). weight_of z.items) queue least choice within

-- ---- what is put in

pub seen_within : (queue : List (Vec Bool)) (choice now : List Bool) (one : Vec Bool) (at : ℕ) (test : Bool) → at < length queue → one ≡ get_or queue at one → now ≡ one.items
    → test ≡ is_within now choice → test ≡ true → HasWithin queue choice
seen_within queue choice now one at test within is same told passes =
    (one, (at, within, sym is), ap (λ (zs : List Bool). is_within zs choice) (sym same) ∙ sym told ∙ passes)

pub put_in : (queue more : List (Vec Bool)) (choice : Vec Bool) → AreChoices (length choice.items) queue → more ≡ queue ++ choice ∷ [] → IsPut queue more choice
put_in queue more choice choices is = record {
  kept = λ other there. subst (λ (zs : List (Vec Bool)). Contains zs other) (sym is) (Contains-append_left queue (choice ∷ []) other there);
  has = (choice, subst (λ (zs : List (Vec Bool)). Contains zs choice) (sym is) (Contains-push queue choice), within_itself choice.items);
  choices = subst (λ (zs : List (Vec Bool)). AreChoices (length choice.items) zs) (sym is) (All-push (λ (z : Vec Bool). length z.items ≡ length choice.items) queue choice choices refl);
  weight = (let grown = ap weight is ∙ sum_by_push (λ (z : Vec Bool). weight_of z.items) queue choice in omega (arith, grown));
}

pub not_needed : (queue : List (Vec Bool)) (choice : Vec Bool) → AreChoices (length choice.items) queue → HasWithin queue choice.items → IsPut queue queue choice
not_needed queue choice choices has = record { kept = λ other there. there; has = has; choices = choices; weight = omega arith }

pub held_within : (queue now : List (Vec Bool)) (choice seen : List Bool) (test : Bool) → now ≡ queue → seen ≡ choice → (test ≡ true → HasWithin now seen) → test ≡ true → HasWithin queue choice
held_within queue now choice seen test same also has passes =
    subst (λ (zs : List (Vec Bool)). HasWithin zs choice) same (subst (λ (zs : List Bool). HasWithin now zs) also (has passes))

-- ---- how much is left

pub not_taken : (choice bound : List Bool) (place : ℕ) → is_within choice bound ≡ true → length bound ≡ length choice → place < length choice → slice_index_or bound place false ≡ false
    → slice_index_or choice place false ≡ false
not_taken [] bound place within same less out = refl
not_taken (x ∷ choice) [] place within same less out = absurd (omega (arith, same))
not_taken (false ∷ choice) (y ∷ bound) zero within same less out = refl
not_taken (true ∷ choice) (true ∷ bound) zero within same less out = absurd (false≢true (sym out))
not_taken (true ∷ choice) (false ∷ bound) zero within same less out = absurd (false≢true within)
not_taken (x ∷ choice) (y ∷ bound) (suc place) within same less out =
    not_taken choice bound place (and_parts (not x || y) (is_within choice bound) within).1 (omega (arith, same)) (omega (arith, less)) out

some_weight : (n k : ℕ) → 0 < (n + 1) ^ k
some_weight n zero = subst (λ (m : ℕ). 0 < m) (sym (pow-zero (n + 1))) (omega arith)
some_weight n (suc k) =
    let less = some_weight n k in
    let whole = pow-succ' (n + 1) k in
    let more : (n + 1) ^ k ≤ (n + 1) * (n + 1) ^ k = subst (λ (m : ℕ). (n + 1) ^ k ≤ m) (sym (suc-mul-here n ((n + 1) ^ k))) (omega arith) in
    omega (arith, less, whole, more)
  where
    suc-mul-here : (n m : ℕ) → (n + 1) * m ≡ n * m + m
    suc-mul-here n m = ap (λ (k : ℕ). k * m) (add-one n) ∙ suc-mul n m

more_by_one : (n m : ℕ) → (n + 1) * m ≡ n * m + m
more_by_one n m = ap (λ (k : ℕ). k * m) (add-one n) ∙ suc-mul n m

abbrev free : Bool → ℕ
free taken = cond (not taken) 1 0

-- With one thing more, one is left less.
one_less : (choice : List Bool) (place : ℕ) → place < length choice → slice_index_or choice place false ≡ false → count_by not choice ≡ suc (count_by not (with_one place choice))
one_less choice place within is =
    let sums = sum_by-set free choice place true false within in
    let here : free (get_or choice place false) ≡ 1 = ap free is in
    omega (arith, sums, here)

pub lighter : (choice : List Bool) (place : ℕ) → place < length choice → slice_index_or choice place false ≡ false
    → (length choice + 1) * weight_of (with_one place choice) ≡ weight_of choice
lighter choice place within is =
    let n = length choice in
    let same : length (with_one place choice) ≡ n = length-set choice place true in
    ap (λ (m : ℕ). (n + 1) * (m + 1) ^ count_by not (with_one place choice)) same ∙ sym (pow-succ' (n + 1) (count_by not (with_one place choice)))
    ∙ ap (λ (k : ℕ). (n + 1) ^ k) (sym (one_less choice place within is))

-- What was put in weighs no more, so many times.
pub weighs : (n old new begin done one whole : ℕ) → n * one ≡ whole → new ≤ old + one → n * old ≤ n * begin + done * whole → n * new ≤ n * begin + (done + 1) * whole
weighs n old new begin done one whole is more before =
    let scaled : n * new ≤ n * (old + one) = mul-le-mul_left n more in
    let parts : n * (old + one) ≡ n * old + n * one = mul-add n old one in
    let next : (done + 1) * whole ≡ done * whole + whole = more_by_one done whole in
    omega (arith, scaled, parts, next, before, is)

pub weighs_still : (n new begin done whole : ℕ) → n * new ≤ n * begin + done * whole → n * new ≤ n * begin + (done + 1) * whole
weighs_still n new begin done whole before = let next : (done + 1) * whole ≡ done * whole + whole = more_by_one done whole in omega (arith, next, before)

-- All that was put in weighs less than what was taken out.
pub lighter_in_all : (choice : List Bool) (new begin done : ℕ) → done ≤ length choice → (length choice + 1) * new ≤ (length choice + 1) * begin + done * weight_of choice
    → new < begin + weight_of choice
lighter_in_all choice new begin done few before =
    let n = length choice in
    let w = weight_of choice in
    let some : 0 < w = some_weight n (count_by not choice) in
    let parts : (n + 1) * (begin + w) ≡ (n + 1) * begin + (n + 1) * w = mul-add (n + 1) begin w in
    let split : (n + 1) * w ≡ n * w + w = more_by_one n w in
    let most : done * w ≤ n * w = mul-le-mul_right w few in
    let less : (n + 1) * new < (n + 1) * (begin + w) = omega (arith, before, some, parts, split, most) in
    lt_of_mul-lt-mul_left (n + 1) less
