-- The lists of steps that links give.
use Rattle.std.proofs.Common.{◌≡◌, ℕ, zero, suc, ◌+◌, ◌<◌, ◌≤◌, Bool, true, false, not, true≢false, Option, Some, None, List, [], ◌∷◌, ◌++◌, length, refl, sym, ap, subst, ◌∙◌, arith, append_assoc, append-nil, length-append, take, ◌-◌}
use Rattle.std.proofs.lemmas.List.{reverse-append, reverse-reverse}
use Rattle.std.specs.Prelude.{nat_eq, reverse, slice_get, slice_index_or}
use Rattle.std.specs.List.{list_any}
use Rattle.std.specs.Cmp.Lexicographic.{pointwise}
use Rattle.std.specs.Option.{option_map_or}
use Rattle.machine.specs.declared.step.Step.{Step}
use Rattle.explore.specs.Found.{Found, IsBefore, Link, added, linked, path_at, steps_at}

-- one more link
pub linked_push : (paths : List (List Step)) (links : List Link) (link : Link) → linked paths (links ++ link ∷ []) ≡ linked paths links ++ (path_at (linked paths links) link.parent ++ link.steps) ∷ []
linked_push paths [] link = refl
linked_push paths (x ∷ links) link = linked_push (paths ++ (path_at paths x.parent ++ x.steps) ∷ []) links link

pub linked_long : (paths : List (List Step)) (links : List Link) → length (linked paths links) ≡ length paths + length links
linked_long paths [] = omega arith
linked_long paths (x ∷ links) =
    let more = linked_long (paths ++ (path_at paths x.parent ++ x.steps) ∷ []) links in
    let long = length-append paths ((path_at paths x.parent ++ x.steps) ∷ []) in
    omega (arith, more, long)

-- ---- what is at a place

at_before : (paths more : List (List Step)) (j : ℕ) → j < length paths → path_at (paths ++ more) j ≡ path_at paths j
at_before [] more j less = absurd (omega (arith, less))
at_before (x ∷ paths) more zero less = refl
at_before (x ∷ paths) more (suc j) less = at_before paths more j (omega (arith, less))

at_end : (paths : List (List Step)) (x : List Step) → path_at (paths ++ x ∷ []) (length paths) ≡ x
at_end [] x = refl
at_end (y ∷ paths) x = at_end paths x

at_nowhere : (paths : List (List Step)) (j : ℕ) → length paths ≤ j → path_at paths j ≡ []
at_nowhere [] j past = refl
at_nowhere (x ∷ paths) zero past = absurd (omega (arith, past))
at_nowhere (x ∷ paths) (suc j) past = at_nowhere paths j (omega (arith, past))

kept_before : (links : List Link) (paths : List (List Step)) (j : ℕ) → j < length paths → path_at (linked paths links) j ≡ path_at paths j
kept_before [] paths j less = refl
kept_before (x ∷ links) paths j less =
    let long = length-append paths ((path_at paths x.parent ++ x.steps) ∷ []) in
    kept_before links (paths ++ (path_at paths x.parent ++ x.steps) ∷ []) j (omega (arith, less, long)) ∙ at_before paths ((path_at paths x.parent ++ x.steps) ∷ []) j less

record LinkAt (paths : List (List Step)) (at : ℕ) (link : Link) : Type 0 where
  first : List Step
  is : path_at paths at ≡ first ++ link.steps
  found : link.parent < at → path_at paths link.parent ≡ first
  none : at ≤ link.parent → first ≡ []

link_at : (links : List Link) (paths : List (List Step)) (k : ℕ) (link : Link) → slice_get links k ≡ Some link → LinkAt (linked paths links) (length paths + k) link
link_at [] paths k link there = absurd (cc)
link_at (x ∷ links) paths zero link there =
    let same : link ≡ x = cc in
    let more : List (List Step) = paths ++ (path_at paths x.parent ++ x.steps) ∷ [] in
    let long : length more ≡ length paths + 1 = length-append paths ((path_at paths x.parent ++ x.steps) ∷ []) in
    let here : length paths + zero ≡ length paths = omega arith in
    let one : LinkAt (linked more links) (length paths) x = record {
      first = path_at paths x.parent;
      is = kept_before links more (length paths) (omega (arith, long)) ∙ at_end paths (path_at paths x.parent ++ x.steps);
      found = λ less. kept_before links more x.parent (omega (arith, less, long)) ∙ at_before paths ((path_at paths x.parent ++ x.steps) ∷ []) x.parent less;
      none = λ past. at_nowhere paths x.parent past;
    } in
    subst (λ (l : Link). LinkAt (linked more links) (length paths + zero) l) (sym same) (subst (λ (n : ℕ). LinkAt (linked more links) n x) (sym here) one)
link_at (x ∷ links) paths (suc k) link there =
    let more : List (List Step) = paths ++ (path_at paths x.parent ++ x.steps) ∷ [] in
    let long : length more ≡ length paths + 1 = length-append paths ((path_at paths x.parent ++ x.steps) ∷ []) in
    let here : length more + k ≡ length paths + suc k = omega (arith, long) in
    subst (λ (n : ℕ). LinkAt (linked more links) n link) here (link_at links more k link there)

pub steps_is : (links : List Link) (at : ℕ) (link : Link) → slice_get links at ≡ Some link → steps_at links at ≡ link.steps
steps_is links at link there = ap (λ (o : Option Link). option_map_or (λ l. l.steps) o []) there

module _ (links : List Link) (at : ℕ) (link : Link) (there : slice_get links at ≡ Some link) where
  it : LinkAt (linked [] links) at link
  it = let here : 0 + at ≡ at = omega arith in subst (λ (n : ℕ). LinkAt (linked [] links) n link) here (link_at links [] at link there)

  pub before_some : link.parent < at → IsBefore (linked [] links) links at (Some link.parent)
  before_some less = (less, it.is ∙ (λ k. sym (it.found less) k ++ sym (steps_is links at link there) k))

  pub before_none : at ≤ link.parent → IsBefore (linked [] links) links at None
  before_none past = it.is ∙ (λ k. it.none past k ++ sym (steps_is links at link there) k)

-- ---- a list of steps, from its end

last_taken : (xs : List Step) (n : ℕ) (d : Step) → n < length xs → take (suc n) xs ≡ take n xs ++ slice_index_or xs n d ∷ []
last_taken [] n d less = absurd (omega (arith, less))
last_taken (x ∷ xs) zero d less = refl
last_taken (x ∷ xs) (suc n) d less = ap (λ (ys : List Step). x ∷ ys) (last_taken xs n d (omega (arith, less)))

all_taken : (xs : List Step) → take (length xs) xs ≡ xs
all_taken [] = refl
all_taken (x ∷ xs) = ap (λ (ys : List Step). x ∷ ys) (all_taken xs)

-- steps are appended, the last one first
pub back_begins : (xs was : List Step) → was ++ reverse (take (length xs - 0) xs) ≡ was ++ reverse xs
back_begins xs was = let same : length xs - 0 ≡ length xs = omega arith in ap (λ (n : ℕ). was ++ reverse (take n xs)) same ∙ ap (λ (ys : List Step). was ++ reverse ys) (all_taken xs)

pub back_next : (xs was now all : List Step) (i : ℕ) (d : Step) → i < length xs → now ≡ was ++ slice_index_or xs (length xs - 1 - i) d ∷ []
    → was ++ reverse (take (length xs - i) xs) ≡ all → now ++ reverse (take (length xs - (i + 1)) xs) ≡ all
back_next xs was now all i d less is before =
    let n : ℕ = length xs - 1 - i in
    let first : length xs - i ≡ suc n = omega (arith, less) in
    let later : length xs - (i + 1) ≡ n = omega (arith, less) in
    let inside : n < length xs = omega (arith, less) in
    (λ k. is k ++ reverse (take (later k) xs))
    ∙ append_assoc was (slice_index_or xs n d ∷ []) (reverse (take n xs))
    ∙ ap (λ (ys : List Step). was ++ ys) (sym (reverse-append (take n xs) (slice_index_or xs n d ∷ [])))
    ∙ ap (λ (ys : List Step). was ++ reverse ys) (sym (last_taken xs n d inside))
    ∙ ap (λ (m : ℕ). was ++ reverse (take m xs)) (sym first)
    ∙ before

pub back_ends : (xs was all : List Step) (i : ℕ) → length xs ≤ i → was ++ reverse (take (length xs - i) xs) ≡ all → was ≡ all
back_ends xs was all i past is =
    let none : length xs - i ≡ zero = omega (arith, past) in
    sym (append-nil was) ∙ sym (ap (λ (n : ℕ). was ++ reverse (take n xs)) none) ∙ is

-- what is still to come
abbrev pub rest_of : List (List Step) → Option ℕ → List Step
rest_of paths next = option_map_or (path_at paths) next []

turned : (xs ys : List Step) → reverse (ys ++ reverse xs) ≡ xs ++ reverse ys
turned xs ys = reverse-append ys (reverse xs) ∙ ap (λ (zs : List Step). zs ++ reverse ys) (reverse-reverse xs)

-- one link more is behind
pub back_more : (paths : List (List Step)) (links : List Link) (i : ℕ) (next : Option ℕ) (was now all : List Step) → IsBefore paths links i next → now ≡ was ++ reverse (steps_at links i)
    → all ≡ rest_of paths (Some i) ++ reverse was → all ≡ rest_of paths next ++ reverse now
back_more paths links i None was now all before is so_far =
    so_far ∙ ap (λ (xs : List Step). xs ++ reverse was) before ∙ sym (turned (steps_at links i) was) ∙ ap (λ (xs : List Step). reverse xs) (sym is)
back_more paths links i (Some parent) was now all (less, before) is so_far =
    so_far ∙ ap (λ (xs : List Step). xs ++ reverse was) before ∙ append_assoc (path_at paths parent) (steps_at links i) (reverse was)
    ∙ ap (λ (xs : List Step). path_at paths parent ++ xs) (sym (turned (steps_at links i) was) ∙ ap (λ (xs : List Step). reverse xs) (sym is))

pub there_read : (links : List Link) (at : ℕ) (link : Link) → at < length links → link ≡ slice_index_or links at link → slice_get links at ≡ Some link
there_read [] at link less is = absurd (omega (arith, less))
there_read (x ∷ links) zero link less is = ap (λ (l : Link). Some l) (sym is)
there_read (x ∷ links) (suc at) link less is = there_read links at link (omega (arith, less)) is

pub there_is : (paths : List (List Step)) (at : ℕ) (path : List Step) → at < length paths → path_at paths at ≡ path → slice_get paths at ≡ Some path
there_is [] at path less is = absurd (omega (arith, less))
there_is (x ∷ paths) zero path less is = ap (λ (p : List Step). Some p) is
there_is (x ∷ paths) (suc at) path less is = there_is paths at path (omega (arith, less)) is

pub link_there : (links : List Link) (at : ℕ) → at < length (linked [] links) → at < length links
link_there links at less = let long = linked_long [] links in omega (arith, less, long)

-- what is found with one more
pub found_more : (sets : Bool) (links : List Link) (keys : List (List ℕ)) (key : List ℕ) (link : Link) → list_any (pointwise nat_eq key) keys ≡ false
    → ◌≡◌ {A = Found} (record { sets = sets; paths = linked [] (links ++ link ∷ []); keys = keys ++ key ∷ [] }) (added (record { sets = sets; paths = linked [] links; keys = keys }) key (path_at (linked [] links) link.parent ++ link.steps))
found_more sets links keys key link none =
    (λ k. record { sets = sets; paths = linked_push [] links link k; keys = keys ++ key ∷ [] }) ∙ rw none refl

pub not_true : (b : Bool) → not b ≡ true → b ≡ false
not_true true e = absurd (true≢false (sym e))
not_true false e = refl
