-- What trying steps finds: whether a state was not found before.
use Rattle.std.proofs.Common.{◌≡◌, ℕ, ◌<◌, Bool, true, false, Option, Some, None, Result, Ok, Err, List, [], ◌∷◌, ◌++◌, length, refl, sym, ap, subst, ◌∙◌, arith, length-append, true≢false}
use Rattle.std.specs.Prelude.{◌||◌, is_some, nat_eq, slice_get, if◌then◌else◌}
use Rattle.std.specs.List.{list_any}
use Rattle.std.specs.Cmp.Lexicographic.{pointwise}
use Rattle.machine.specs.declared.refusal.Refusal.{Refusal}
use Rattle.machine.specs.declared.step.Seen.{Seen}
use Rattle.machine.specs.declared.step.Step.{Step}
use Rattle.machine.specs.State.{State}
use Rattle.machine.specs.Steps.{step_of}
use Rattle.explore.specs.declared.node.Node.{Node}
use Rattle.explore.specs.Followed.{own_end, owns_of}
use Rattle.explore.specs.Found.{Found, added, tried_by}
use Rattle.explore.specs.Keys.{key_of}
use Rattle.explore.specs.Visits.{GoesOn, GoesOnIf, takes_nothing}
use Rattle.explore.proofs.FoundPaths.{Grows, get_grown, grows_not, within_list}

abbrev Tried : Type 0
Tried = Option Step × Found

pub none_is : (lacks : Option Step) → is_some lacks ≡ false → lacks ≡ None
none_is None e = refl
none_is (Some step) e = absurd (true≢false e)

-- ---- what is found grows

added_grows : (found : Found) (key : List ℕ) (path : List Step) → Grows found.paths (added found key path).paths
added_grows found key path = by (list_any (pointwise nat_eq key) found.keys)
  where
    by : (b : Bool) → Grows found.paths (if b then found else record { sets = found.sets; paths = found.paths ++ path ∷ []; keys = found.keys ++ key ∷ [] }).paths
    by true = grows_not found.paths
    by false = (path ∷ [], refl)

second : (a b : Option Step) (x y : Found) → ◌≡◌ {A = Tried} (a, x) (b, y) → y ≡ x
second a b x y e = ap (λ (p : Tried). p.1) (sym e)

grows_by : (locals : Bool) (r : Result (Seen × State) Refusal) (path : List Step) (step : Step) (old new : Found) (lacks : Option Step) → ◌≡◌ {A = Tried} (lacks, new) (tried_by locals r old path step) → Grows old.paths new.paths
grows_by locals (Ok done) path step old new lacks e =
    let key = key_of old.sets (own_end locals done.1) in
    let long = path ++ step ∷ owns_of locals done.1 in
    subst (λ (x : Found). Grows old.paths x.paths) (second lacks None new (added old key long) e) (added_grows old key long)
grows_by locals (Err refusal) path step old new lacks e = subst (λ (x : Found). Grows old.paths x.paths) (second lacks _ new old e) (grows_not old.paths)

pub tried_grows : (locals : Bool) (s : State) (path : List Step) (step : Step) (old new : Found) (lacks : Option Step) → ◌≡◌ {A = Tried} (lacks, new) (tried_by locals (step_of s step) old path step) → Grows old.paths new.paths
tried_grows locals s path step old new lacks e = grows_by locals (step_of s step) path step old new lacks e

-- ---- a state that was not found before

get_last : {A : Type 0} (xs : List A) (x : A) → slice_get (xs ++ x ∷ []) (length xs) ≡ Some x
get_last [] x = refl
get_last (y ∷ xs) x = get_last xs x

added_last : (found : Found) (key : List ℕ) (path : List Step) → length found.paths < length (added found key path).paths → slice_get (added found key path).paths (length found.paths) ≡ Some path
added_last found key path = by (list_any (pointwise nat_eq key) found.keys)
  where
    After : Bool → Found
    After b = if b then found else record { sets = found.sets; paths = found.paths ++ path ∷ []; keys = found.keys ++ key ∷ [] }

    by : (b : Bool) → length found.paths < length (After b).paths → slice_get (After b).paths (length found.paths) ≡ Some path
    by true more = absurd (omega (arith, more))
    by false more = get_last found.paths path

goes_from : (locals : Bool) (s : State) (r : Result (Seen × State) Refusal) (path : List Step) (step : Step) (old new : Found) (lacks : Option Step) → step_of s step ≡ r → ◌≡◌ {A = Tried} (lacks, new) (tried_by locals r old path step)
    → length old.paths < length new.paths → takes_nothing s step ≡ true → GoesOn locals s path old new
goes_from locals s (Ok done) path step old new lacks made e more keeps =
    let key = key_of old.sets (own_end locals done.1) in
    let long = path ++ step ∷ owns_of locals done.1 in
    let same : added old key long ≡ new = second lacks None new (added old key long) e in
    record {
      step = step;
      seen = done.0;
      end = done.1;
      made = made;
      keeps = keeps;
      place = length old.paths;
      later = omega arith;
      there = subst (λ (x : Found). slice_get x.paths (length old.paths) ≡ Some long) same
          (added_last old key long (subst (λ (x : Found). length old.paths < length x.paths) (sym same) more));
    }
goes_from locals s (Err refusal) path step old new lacks made e more keeps =
    let same : old ≡ new = second lacks _ new old e in
    absurd (none (length old.paths) (subst (λ (x : Found). length old.paths < length x.paths) (sym same) more))
  where
    none : (n : ℕ) → n < n → ⊥
    none n less = omega (arith, less)

pub goes_on : (locals : Bool) (s : State) (path : List Step) (step : Step) (old new : Found) (lacks : Option Step) → ◌≡◌ {A = Tried} (lacks, new) (tried_by locals (step_of s step) old path step)
    → length old.paths < length new.paths → takes_nothing s step ≡ true → GoesOn locals s path old new
goes_on locals s path step old new lacks e more keeps = goes_from locals s (step_of s step) path step old new lacks refl e more keeps

-- and then more is found, or some was found before
pub goes_then : (locals : Bool) (s : State) (path : List Step) (old mid new : Found) → Grows mid.paths new.paths → GoesOn locals s path old mid → GoesOn locals s path old new
goes_then locals s path old mid new grows g = record {
  step = g.step;
  seen = g.seen;
  end = g.end;
  made = g.made;
  keeps = g.keeps;
  place = g.place;
  later = g.later;
  there = get_grown mid.paths new.paths g.place grows (within_list mid.paths (path ++ g.step ∷ owns_of locals g.end) g.place g.there) ∙ g.there;
}

pub goes_before : (locals : Bool) (s : State) (path : List Step) (old mid new : Found) → Grows old.paths mid.paths → GoesOn locals s path mid new → GoesOn locals s path old new
goes_before locals s path old mid new (more, is) g =
    let long = ap length is ∙ length-append old.paths more in
    let later = g.later in
    record { step = g.step; seen = g.seen; end = g.end; made = g.made; keeps = g.keeps; place = g.place; later = omega (arith, long, later); there = g.there }

-- and so of both
pub goes_or : (told more locals : Bool) (node : Node) (old mid new : Found) → Grows old.paths mid.paths → Grows mid.paths new.paths → GoesOnIf told locals node old mid → GoesOnIf more locals node mid new
    → GoesOnIf (told || more) locals node old new
goes_or true more locals node old mid new first grows before on = λ is. goes_then locals node.state node.path old mid new grows (before refl)
goes_or false more locals node old mid new first grows before on = λ is. goes_before locals node.state node.path old mid new first (on is)
