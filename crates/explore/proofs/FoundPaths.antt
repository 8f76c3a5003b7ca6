-- What is found stays found, and what is added is among it.
use Rattle.std.proofs.Common.{◌≡◌, ℕ, zero, suc, ◌<◌, inl, inr, Bool, true, false, Some, List, [], ◌∷◌, ◌++◌, length, map, refl, sym, ap, subst, ◌∙◌, arith, append_assoc, append-nil, true≢false}
use Rattle.std.specs.Prelude.{◌⊎◌, Contains, nat_eq, slice_get, slice_index_or, if◌then◌else◌}
use Rattle.std.specs.List.{list_any}
use Rattle.std.specs.Cmp.Lexicographic.{bytes_decides, pointwise}
use Rattle.std.proofs.lemmas.Bool.{cases_Bool}
use Rattle.std.proofs.lemmas.List.{length-map, map-append}
use Rattle.std.proofs.lemmas.List.Elements.{Contains-append_left, Contains-push, Contains-push_cases}
use Rattle.machine.specs.declared.step.Step.{Step}
use Rattle.machine.specs.State.{State}
use Rattle.explore.specs.Covering.{IsLike}
use Rattle.explore.specs.Explored.{IsAmong}
use Rattle.explore.specs.Exploring.{AreFound}
use Rattle.explore.specs.Found.{Found, HasPath, added, led_to, nodes_of, path_at}
use Rattle.explore.specs.Keys.{key_of}
use Rattle.explore.specs.Reachable.{IsRun}
use Rattle.explore.specs.Sound.{IsSound}
pub use Rattle.explore.proofs.Members.{first_or_later, first_there, later_there}
use Rattle.explore.proofs.SetsTell.{keys_tell}
use Rattle.explore.proofs.SoundRuns.{of_itself, run_of_it}
use Rattle.explore.proofs.SpeakingFor.{like_itself}

-- ---- what is found

-- more paths come last
abbrev pub Grows : List (List Step) → List (List Step) → Type 0
Grows old new = (more : List (List Step)) × (new ≡ old ++ more)

pub grows_not : (xs : List (List Step)) → Grows xs xs
grows_not xs = ([], sym (append-nil xs))

pub grows_then : (xs ys zs : List (List Step)) → Grows xs ys → Grows ys zs → Grows xs zs
grows_then xs ys zs (more, is) (last, also) = (more ++ last, also ∙ ap (λ (us : List (List Step)). us ++ last) is ∙ append_assoc xs more last)

get_map : {A B : Type 0} (f : A → B) (xs : List A) (k : ℕ) (x : A) → slice_index_or (map f xs) k (f x) ≡ f (slice_index_or xs k x)
get_map f [] k x = refl
get_map f (y ∷ xs) zero x = refl
get_map f (y ∷ xs) (suc k) x = get_map f xs k x

pub contains_map : {A B : Type 0} (f : A → B) (xs : List A) (x : A) → Contains xs x → Contains (map f xs) (f x)
contains_map f xs x (k, less, is) = (k, (let same = length-map xs f in omega (arith, less, same)), get_map f xs k x ∙ ap f is)

pub among_more : (sets : Bool) (start : State) (xs ys : List (List Step)) (t : State) → Grows xs ys → IsAmong sets (nodes_of start xs) t → IsAmong sets (nodes_of start ys) t
among_more sets start xs ys t (more, is) (r, there, alike) =
    let all : nodes_of start ys ≡ nodes_of start xs ++ nodes_of start more = ap (map (led_to start)) is ∙ map-append (led_to start) xs more in
    (r, subst (λ (ns : List State). Contains ns r) (sym all) (Contains-append_left (nodes_of start xs) (nodes_of start more) r there), alike)

pub alike_itself : (sets : Bool) (s : State) → IsLike sets s s
alike_itself sets s = record { shape = refl; processors = refl; memory = like_itself sets s.memory }

pub path_among : (sets : Bool) (start : State) (paths : List (List Step)) (path : List Step) → Contains paths path → IsAmong sets (nodes_of start paths) (led_to start path)
path_among sets start paths path there = (led_to start path, contains_map (led_to start) paths path there, alike_itself sets (led_to start path))

-- ---- one more

-- a path whose key is this one
key_there : (sets : Bool) (start : State) (paths : List (List Step)) (key : List ℕ) → list_any (pointwise nat_eq key) (map (λ path. key_of sets (led_to start path)) paths) ≡ true
    → (path : List Step) × Contains paths path × (key ≡ key_of sets (led_to start path))
key_there sets start [] key e = absurd (true≢false (sym e))
key_there sets start (path ∷ paths) key e =
    elim (cases_Bool (pointwise nat_eq key (key_of sets (led_to start path)))) [
      | inl same ↦ (path, first_there path paths, (bytes_decides key (key_of sets (led_to start path))).0 same)
      | inr other ↦
          let rest = key_there sets start paths key (rw other at e) in
          (rest.0, later_there path rest.0 paths rest.1, rest.2)
    ]

no_key_there : (sets : Bool) (start : State) (paths : List (List Step)) (key : List ℕ) → list_any (pointwise nat_eq key) (map (λ path. key_of sets (led_to start path)) paths) ≡ false
    → (i : ℕ) (path : List Step) → slice_get paths i ≡ Some path → key_of sets (led_to start path) ≡ key → ⊥
no_key_there sets start [] key e i path there same = absurd (cc)
no_key_there sets start (x ∷ paths) key e zero path there same =
    let here : x ≡ path = cc in
    let equal : pointwise nat_eq key (key_of sets (led_to start x)) ≡ true = (bytes_decides key (key_of sets (led_to start x))).1 (sym (ap (λ (p : List Step). key_of sets (led_to start p)) here ∙ same)) in
    absurd (true≢false (sym (rw equal refl) ∙ e))
no_key_there sets start (x ∷ paths) key e (suc i) path there same =
    elim (cases_Bool (pointwise nat_eq key (key_of sets (led_to start x)))) [
      | inl equal ↦ absurd (true≢false (sym (rw equal refl) ∙ e))
      | inr other ↦ no_key_there sets start paths key (rw other at e) i path there same
    ]

-- the last place
last_place : {A : Type 0} (xs : List A) (x y : A) (j : ℕ) → slice_get (xs ++ x ∷ []) j ≡ Some y → (slice_get xs j ≡ Some y) ⊎ ((j ≡ length xs) × (x ≡ y))
last_place [] x y zero e = let same : x ≡ y = cc in inr (refl, same)
last_place [] x y (suc j) e = absurd (cc)
last_place (z ∷ xs) x y zero e = inl e
last_place (z ∷ xs) x y (suc j) e = elim (last_place xs x y j e) [ inl before ↦ inl before | inr last ↦ inr (ap suc last.0, last.1) ]

pub within_list : {A : Type 0} (xs : List A) (y : A) (j : ℕ) → slice_get xs j ≡ Some y → j < length xs
within_list [] y j e = absurd (cc)
within_list (x ∷ xs) y zero e = omega arith
within_list (x ∷ xs) y (suc j) e = let less = within_list xs y j e in omega (arith, less)

-- whatever the key list was
abbrev Adds : Bool → Bool → State → Found → List Step → Found → Type 0
Adds sets crashes start found path new = AreFound sets crashes start new × Grows found.paths new.paths × (IsSound start → IsAmong sets (nodes_of start new.paths) (led_to start path))

added_new : (sets crashes : Bool) (start : State) (found : Found) (path : List Step) → AreFound sets crashes start found → IsRun crashes path start (led_to start path)
    → list_any (pointwise nat_eq (key_of sets (led_to start path))) found.keys ≡ false
    → Adds sets crashes start found path (record { sets = found.sets; paths = found.paths ++ path ∷ []; keys = found.keys ++ key_of sets (led_to start path) ∷ [] })
added_new sets crashes start found path f ok none = (
  record {
    mode = f.mode;
    runs = λ other there. elim (Contains-push_cases found.paths path other there) [
      | inl before ↦ f.runs other before
      | inr here ↦ subst (λ (p : List Step). IsRun crashes p start (led_to start p)) here ok
    ];
    keyed = ap (λ (ks : List (List ℕ)). ks ++ key_of sets (led_to start path) ∷ []) f.keyed ∙ sym (map-append (λ p. key_of sets (led_to start p)) found.paths (path ∷ []));
    distinct = λ i j p q less at_i at_j same. elim (last_place found.paths path q j at_j) [
      | inl before ↦ elim (last_place found.paths path p i at_i) [
        | inl first ↦ f.distinct i j p q less first before same
        | inr last ↦ let inside = within_list found.paths q j before in let end = last.0 in absurd (omega (arith, inside, end, less))
      ]
      | inr last ↦ elim (last_place found.paths path p i at_i) [
        | inl first ↦ no_key_there sets start found.paths (key_of sets (led_to start path)) (ap (list_any (pointwise nat_eq (key_of sets (led_to start path)))) (sym f.keyed) ∙ none) i p first
            (same ∙ ap (λ (x : List Step). key_of sets (led_to start x)) (sym last.1))
        | inr also ↦ let a = also.0 in let b = last.0 in absurd (omega (arith, a, b, less))
      ]
    ];
  },
  (path ∷ [], refl),
  λ sound. path_among sets start (found.paths ++ path ∷ []) path (Contains-push found.paths path),
)

added_old : (sets crashes : Bool) (start : State) (found : Found) (path : List Step) → AreFound sets crashes start found
    → list_any (pointwise nat_eq (key_of sets (led_to start path))) found.keys ≡ true → Adds sets crashes start found path found
added_old sets crashes start found path f there = (
  f,
  grows_not found.paths,
  λ sound.
      let (other, is_there, same) = key_there sets start found.paths (key_of sets (led_to start path)) (ap (list_any (pointwise nat_eq (key_of sets (led_to start path)))) (sym f.keyed) ∙ there) in
      let it = of_itself start sound in (
        led_to start other,
        contains_map (led_to start) found.paths other is_there,
        keys_tell sets start (led_to start other) (led_to start path) (run_of_it start other start it) (run_of_it start path start it) (sym same),
      ),
)

added_if : (sets crashes : Bool) (start : State) (found : Found) (path : List Step) (there : Bool) → AreFound sets crashes start found → IsRun crashes path start (led_to start path)
    → list_any (pointwise nat_eq (key_of sets (led_to start path))) found.keys ≡ there
    → Adds sets crashes start found path (if there then found else record { sets = found.sets; paths = found.paths ++ path ∷ []; keys = found.keys ++ key_of sets (led_to start path) ∷ [] })
added_if sets crashes start found path true f ok is = added_old sets crashes start found path f is
added_if sets crashes start found path false f ok is = added_new sets crashes start found path f ok is

pub adds : (sets crashes : Bool) (start : State) (found : Found) (path : List Step) → AreFound sets crashes start found → IsRun crashes path start (led_to start path)
    → Adds sets crashes start found path (added found (key_of sets (led_to start path)) path)
adds sets crashes start found path f ok = added_if sets crashes start found path (list_any (pointwise nat_eq (key_of sets (led_to start path))) found.keys) f ok refl

-- ---- what stays at its place

get_before : {A : Type 0} (xs more : List A) (i : ℕ) → i < length xs → slice_get (xs ++ more) i ≡ slice_get xs i
get_before [] more i less = absurd (omega (arith, less))
get_before (x ∷ xs) more zero less = refl
get_before (x ∷ xs) more (suc i) less = get_before xs more i (omega (arith, less))

pub get_grown : (xs ys : List (List Step)) (i : ℕ) → Grows xs ys → i < length xs → slice_get ys i ≡ slice_get xs i
get_grown xs ys i (more, is) less = ap (λ (zs : List (List Step)). slice_get zs i) is ∙ get_before xs more i less

-- one more leaves each path at its place
pub has_more : (found : Found) (at : ℕ) (path : List Step) (key : List ℕ) (other : List Step) → HasPath found at path → HasPath (added found key other) at path
has_more found at path key other there = by (list_any (pointwise nat_eq key) found.keys)
  where
    by : (b : Bool) → HasPath (if b then found else record { sets = found.sets; paths = found.paths ++ other ∷ []; keys = found.keys ++ key ∷ [] }) at path
    by true = there
    by false = get_before found.paths (other ∷ []) at (within_list found.paths path at there) ∙ there

pub path_there : (found : Found) (at : ℕ) (path : List Step) → HasPath found at path → path_at found.paths at ≡ path
path_there found at path there = read found.paths at path there
  where
    read : (xs : List (List Step)) (i : ℕ) (x : List Step) → slice_get xs i ≡ Some x → slice_index_or xs i [] ≡ x
    read [] i x e = absurd (cc)
    read (y ∷ xs) zero x e = let same : y ≡ x = cc in same
    read (y ∷ xs) (suc i) x e = read xs i x e

-- what is added to a found path is added to the path itself
pub added_to : (found : Found) (at : ℕ) (path more : List Step) (key : List ℕ) → HasPath found at path → added found key (path_at found.paths at ++ more) ≡ added found key (path ++ more)
added_to found at path more key there = ap (λ (p : List Step). added found key (p ++ more)) (path_there found at path there)

-- ---- what is mapped

pub record Mapped {A B : Type 0} (f : A → B) (xs : List A) (y : B) : Type 0 where
  pub place : ℕ
  pub of : A
  pub there : slice_get xs place ≡ Some of
  pub is : f of ≡ y

mapped_at : {A B : Type 0} (f : A → B) (xs : List A) (y : B) (k : ℕ) → k < length (map f xs) → slice_index_or (map f xs) k y ≡ y → Mapped f xs y
mapped_at f [] y k less e = absurd (omega (arith, less))
mapped_at f (x ∷ xs) y zero less e = record { place = zero; of = x; there = refl; is = e }
mapped_at f (x ∷ xs) y (suc k) less e =
    let m = mapped_at f xs y k (omega (arith, less)) e in record { place = suc m.place; of = m.of; there = m.there; is = m.is }

pub mapped : {A B : Type 0} (f : A → B) (xs : List A) (y : B) → Contains (map f xs) y → Mapped f xs y
mapped f xs y (k, less, is) = mapped_at f xs y k less is
