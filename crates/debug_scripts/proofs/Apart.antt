-- Items whose ids differ, and what is found among them.
use Rattle.std.proofs.Common.{◌≡◌, ◌≢◌, ℕ, zero, suc, ◌==◌, Bool, true, false, Option, Some, None, Result, Ok, Err, List, [], ◌∷◌, ◌++◌, length, map, refl, sym, ◌∙◌, ap, subst, inl, inr, arith}
use Rattle.std.specs.Prelude.{OnOk, nat_lt, slice_index_or}
use Rattle.std.specs.List.{All, AllPairs, find, insert, list_any, position_or_len}
use Rattle.std.proofs.lemmas.Bool.{cases_Bool, eqb-false, ne_eqb}
use Rattle.std.proofs.lemmas.List.{map-append}
use Rattle.std.proofs.lemmas.List.Elements.{All-cons}
use Rattle.std.proofs.lemmas.List.Quantifiers.{all_pairs_push}
use Rattle.machine.specs.State.{State}
use Rattle.debugger.specs.Stops.{Armed}
use Rattle.debugger.specs.Sessions.{SessionValue, Watch, opened, stop_of, watch_of, with_stop, with_watch}
use Rattle.debugger.specs.Pasts.{Past}
use Rattle.lines_layout.specs.Layouts.{NamedLines}
use Rattle.debug_scripts.specs.DebugReports.{HasShape, prepared, with_stops, with_watches}

-- ---- ids

-- the first differs from the others, and these from one another
pub first_apart : (n : ℕ) (ns : List ℕ) → AllPairs ◌≢◌ (n ∷ ns) → All (λ m. n ≢ m) ns
first_apart n ns apart k d lt = apart 0 (suc k) d (omega arith) (omega arith)

pub others_apart : (n : ℕ) (ns : List ℕ) → AllPairs ◌≢◌ (n ∷ ns) → AllPairs ◌≢◌ ns
others_apart n ns apart i j d lt within = apart (suc i) (suc j) d (omega arith) (omega arith)

pub none_apart : AllPairs {X = ℕ} ◌≢◌ []
none_apart i j d lt within = absurd (omega arith)

module _ {X : Type 0} (id : X → ℕ) where
  fresh : (n : ℕ) (xs : List X) → list_any (λ x. id x == n) xs ≡ false → All (λ m. m ≢ n) (map id xs)
  fresh n [] none = λ k d lt. absurd (omega arith)
  fresh n (x ∷ xs) none =
      elim (cases_Bool (id x == n)) [
        | inl same ↦ let wrong : true ≡ false = rw same at none in absurd (cc)
        | inr other ↦ All-cons (λ m. m ≢ n) (id x) (map id xs) (eqb-false (id x) n other) (fresh n xs (rw other at none))
      ]

  -- one more, with an id that is none of the others'
  pub apart_push : (xs : List X) (x : X) → AllPairs ◌≢◌ (map id xs) → list_any (λ y. id y == id x) xs ≡ false → AllPairs ◌≢◌ (map id (xs ++ x ∷ []))
  apart_push xs x apart none =
      subst (λ (ns : List ℕ). AllPairs ◌≢◌ ns) (sym (map-append id xs (x ∷ []))) (all_pairs_push ◌≢◌ (map id xs) (id x) apart (fresh (id x) xs none))

-- ---- what is found with one item more

module _ {X : Type 0} (p : X → Bool) where
  pub none_put : (xs : List X) (i : ℕ) (y : X) → find p xs ≡ None → p y ≡ false → find p (insert xs i y) ≡ None
  none_put [] zero y none off = rw off refl
  none_put [] (suc i) y none off = rw off refl
  none_put (x ∷ xs) zero y none off = rw off none
  none_put (x ∷ xs) (suc i) y none off =
      elim (cases_Bool (p x)) [
        | inl found ↦ let wrong : ◌≡◌ {A = Option X} (Some x) None = rw found at none in absurd (cc)
        | inr other ↦ rw other (none_put xs i y (rw other at none) off)
      ]

  pub none_behind : (xs : List X) (y : X) → find p xs ≡ None → p y ≡ false → find p (xs ++ y ∷ []) ≡ None
  none_behind [] y none off = rw off refl
  none_behind (x ∷ xs) y none off =
      elim (cases_Bool (p x)) [
        | inl found ↦ let wrong : ◌≡◌ {A = Option X} (Some x) None = rw found at none in absurd (cc)
        | inr other ↦ rw other (none_behind xs y (rw other at none) off)
      ]

-- ---- stops and watchers that are armed and attached one after another

-- each stop has an id that is free when its turn comes
abbrev pub MayArm : SessionValue → List Armed → Type 0
MayArm v [] = Unit {0}
MayArm v (t ∷ ts) = (stop_of v t.id ≡ None) × MayArm (with_stop v t) ts

abbrev pub MayAttach : SessionValue → List Watch → Type 0
MayAttach v [] = Unit {0}
MayAttach v (w ∷ ws) = (watch_of v w.id ≡ None) × MayAttach (with_watch v w) ws

-- it is, where the ids differ and none of them is armed
arm_each : (v : SessionValue) (ts : List Armed) → AllPairs ◌≢◌ (map (λ t. t.id) ts) → All (λ n. stop_of v n ≡ None) (map (λ t. t.id) ts) → MayArm v ts
arm_each v [] apart free = tt
arm_each v (t ∷ ts) apart free = (
  free 0 0 (omega arith),
  arm_each (with_stop v t) ts (others_apart t.id (map (λ t. t.id) ts) apart) (λ k d lt.
      let n = slice_index_or (map (λ t. t.id) ts) k d in
      none_put (λ x. x.id == n) v.stops (position_or_len (λ x. nat_lt t.id x.id) v.stops) t (free (suc k) d (omega arith)) (ne_eqb t.id n (first_apart t.id (map (λ t. t.id) ts) apart k d lt))),
)

attach_each : (v : SessionValue) (ws : List Watch) → AllPairs ◌≢◌ (map (λ w. w.id) ws) → All (λ n. watch_of v n ≡ None) (map (λ w. w.id) ws) → MayAttach v ws
attach_each v [] apart free = tt
attach_each v (w ∷ ws) apart free = (
  free 0 0 (omega arith),
  attach_each (with_watch v w) ws (others_apart w.id (map (λ w. w.id) ws) apart) (λ k d lt.
      let n = slice_index_or (map (λ w. w.id) ws) k d in
      none_behind (λ x. x.id == n) v.watches w (free (suc k) d (omega arith)) (ne_eqb w.id n (first_apart w.id (map (λ w. w.id) ws) apart k d lt))),
)

watches_stay : (v : SessionValue) (ts : List Armed) → (with_stops v ts).watches ≡ v.watches
watches_stay v [] = refl
watches_stay v (t ∷ ts) = watches_stay (with_stop v t) ts

-- ---- ids of what stands for an item

map_twice : {X Y Z : Type 0} (g : Y → Z) (f : X → Y) (xs : List X) → map g (map f xs) ≡ map (λ x. g (f x)) xs
map_twice g f [] = refl
map_twice {Z} g f (x ∷ xs) = ap (λ (zs : List Z). g (f x) ∷ zs) (map_twice g f xs)

-- items that stand for the same have the same ids
pub same_ids : {X Y Z : Type 0} (f : X → Z) (g : Y → Z) (id : Z → ℕ) (xs : List X) (ys : List Y) → map f xs ≡ map g ys → AllPairs ◌≢◌ (map (λ y. id (g y)) ys) → AllPairs ◌≢◌ (map (λ x. id (f x)) xs)
same_ids f g id xs ys same apart = subst (λ (ns : List ℕ). AllPairs ◌≢◌ ns) (sym (sym (map_twice id f xs) ∙ ap (λ zs. map id zs) same ∙ map_twice id g ys)) apart

-- ---- where a loop over them begins; ys are xs by another name

pub begins_arm : {X : Type 0} (f : X → Armed) (v : SessionValue) (xs ys : List X) → v.stops ≡ [] → ys ≡ xs → AllPairs ◌≢◌ (map (λ x. (f x).id) xs) → MayArm v (map f ys)
begins_arm f v xs ys none ys_is apart =
    rw ys_is (arm_each v (map f xs) (subst (λ (ns : List ℕ). AllPairs ◌≢◌ ns) (sym (map_twice (λ t. t.id) f xs)) apart)
    (λ k d lt. ap (λ (ts : List Armed). find (λ t. t.id == slice_index_or (map (λ t. t.id) (map f xs)) k d) ts) none))

pub begins_stops : {X : Type 0} (f : X → Armed) (v : SessionValue) (xs ys : List X) → ys ≡ xs → with_stops v (map f ys) ≡ with_stops v (map f xs)
begins_stops f v xs ys ys_is = rw ys_is refl

pub begins_attach : {X : Type 0} (f : X → Watch) (v : SessionValue) (xs ys : List X) → v.watches ≡ [] → ys ≡ xs → AllPairs ◌≢◌ (map (λ x. (f x).id) xs) → MayAttach v (map f ys)
begins_attach f v xs ys none ys_is apart =
    rw ys_is (attach_each v (map f xs) (subst (λ (ns : List ℕ). AllPairs ◌≢◌ ns) (sym (map_twice (λ w. w.id) f xs)) apart)
    (λ k d lt. ap (λ (ws : List Watch). find (λ w. w.id == slice_index_or (map (λ w. w.id) (map f xs)) k d) ws) none))

pub begins_watches : {X : Type 0} (f : X → Watch) (v : SessionValue) (xs ys : List X) → ys ≡ xs → with_watches v (map f ys) ≡ with_watches v (map f xs)
begins_watches f v xs ys ys_is = rw ys_is refl

-- ---- a session that begins, with both

-- it has none
pub none_armed : (v : SessionValue) (s : State) → v ≡ opened s → v.stops ≡ []
none_armed v s is = ap (λ (x : SessionValue). x.stops) is

pub none_watched : (v : SessionValue) (s : State) → v ≡ opened s → v.watches ≡ []
none_watched v s is = ap (λ (x : SessionValue). x.watches) is

-- nor is one attached when its stops are armed
pub none_attached : (v w : SessionValue) (ts : List Armed) → v.watches ≡ [] → w ≡ with_stops v ts → w.watches ≡ []
none_attached v w ts none is = ap (λ (x : SessionValue). x.watches) is ∙ watches_stay v ts ∙ none

pub both_made : {F : Type 0} (v w x : SessionValue) (ts : List Armed) (ws : List Watch) (r : Result (Unit {0}) F) → w ≡ with_stops v ts → OnOk r (x ≡ with_watches w ws)
    → OnOk r (x ≡ with_watches (with_stops v ts) ws)
both_made v w x ts ws (Ok done) stopped watched = watched ∙ ap (λ (y : SessionValue). with_watches y ws) stopped
both_made v w x ts ws (Err fault) stopped watched = tt

pub is_prepared : (v x : SessionValue) (s : State) (ts : List Armed) (ws : List Watch) → v ≡ opened s → x ≡ with_watches (with_stops v ts) ws → x ≡ prepared s ts ws
is_prepared v x s ts ws v_is x_is = x_is ∙ ap (λ (y : SessionValue). with_watches (with_stops y ts) ws) v_is

stops_past : (v : SessionValue) (ts : List Armed) → (with_stops v ts).past ≡ v.past
stops_past v [] = refl
stops_past v (t ∷ ts) = stops_past (with_stop v t) ts

watches_past : (v : SessionValue) (ws : List Watch) → (with_watches v ws).past ≡ v.past
watches_past v [] = refl
watches_past v (w ∷ ws) = watches_past (with_watch v w) ws

-- it keeps the words of its machine
pub prepared_shape : (names : NamedLines) (x : SessionValue) (s : State) (ts : List Armed) (ws : List Watch) → x ≡ prepared s ts ws → s.shape ≡ map length names → HasShape names x
prepared_shape names x s ts ws is shape =
    let past_is = ap (λ (y : SessionValue). y.past) is ∙ watches_past (with_stops (opened s) ts) ws ∙ stops_past (opened s) ts in
    record { now = ap (λ (p : Past). p.state.shape) past_is ∙ shape; opening = ap (λ (p : Past). p.opening.shape) past_is ∙ shape }
