-- What is told of a later flush that is still buffered, and of the store that has passed it, or comes before it.
use Rattle.std.proofs.Common.{◌≡◌, ℕ, Bool, true, false, Option, Some, None, List, [], ◌∷◌, refl, subst, arith, inl, inr}
use Rattle.std.specs.Prelude.{◌⊎◌, Contains, filter_map, find, fold, option_map, slice_get, if◌then◌else◌}
use Rattle.std.specs.Option.{option_or}
use Rattle.std.proofs.lemmas.List.Elements.{Contains-append_cases}
use Rattle.image_reasons.specs.declared.entries.Flushed.{Flushed}
use Rattle.image_reasons.specs.declared.entries.Operation.{Operation}
use Rattle.image_reasons.specs.declared.entries.Pended.{Pended}
use Rattle.image_reasons.specs.declared.entries.Site.{Site}
use Rattle.image_reasons.specs.declared.missing.Why.{Why}
use Rattle.image_reasons.specs.declared.missing.Why.TheVariants.{FlushBuffered, FlushBehind}
use Rattle.image_reasons.specs.Origins.{Origins}
use Rattle.image_reasons.specs.Reasons.{Stores, comes_before, comes_between, first_given, first_later, has_passed, is_later_flush, newer_write, of_later, passing_write, stores_of, why_behind, why_buffered, why_later, why_passed, write_before, write_between}
use Rattle.image_reasons.proofs.ListMembers.{among, either, first_here, found_at, from_filter, later_here, none_found}

-- ---- the first reason that is given

neither : {A : Type 0} (a b : Option A) → option_or a b ≡ None → (a ≡ None) × (b ≡ None)
neither None b e = (refl, e)
neither (Some x) b e = absurd cc

is_option_or : {A : Type 0} (a b : Option A) (x : A) → option_or a b ≡ Some x → (a ≡ Some x) ⊎ ((a ≡ None) × (b ≡ Some x))
is_option_or None b x e = inr (refl, e)
is_option_or (Some y) b x e = inl e

first_is : (why : Flushed → Option Why) (flushed : List Flushed) (w : Why) → first_given why flushed ≡ Some w → (f : Flushed) × Contains flushed f × (why f ≡ Some w)
first_is why [] w e = absurd cc
first_is why (f ∷ flushed) w e =
    elim (is_option_or (why f) (first_given why flushed) w e) [
      | inl here ↦ (f, first_here f flushed, here)
      | inr later ↦ let (g, held, is) = first_is why flushed w later.1 in (g, later_here f g flushed held, is)
    ]

none_is : (why : Flushed → Option Why) (flushed : List Flushed) (f : Flushed) → first_given why flushed ≡ None → Contains flushed f → why f ≡ None
none_is why [] f e (k, less, is) = absurd (omega (arith, less))
none_is why (g ∷ flushed) f e held =
    let (here, rest) = neither (why g) (first_given why flushed) e in
    elim (either g f flushed held) [
      | inl same ↦ subst (λ (x : Flushed). why x ≡ None) same here
      | inr later ↦ none_is why flushed f rest later
    ]

given_if : (b : Bool) (x : Option Why) (w : Why) → (if b then x else None) ≡ Some w → (b ≡ true) × (x ≡ Some w)
given_if true x w e = (refl, e)
given_if false x w e = absurd cc

none_if : (b : Bool) (x : Option Why) → (if b then x else None) ≡ None → b ≡ true → x ≡ None
none_if true x e is = e
none_if false x e is = absurd cc

-- ---- the store

site_found : (found : Option Pended) (site : Site) → option_map (λ (p : Pended). p.operation.site) found ≡ Some site → (p : Pended) × (found ≡ Some p) × (p.operation.site ≡ site)
site_found None site e = absurd cc
site_found (Some p) site e = (p, refl, cc)

pub no_site : (found : Option Pended) → option_map (λ (p : Pended). p.operation.site) found ≡ None → found ≡ None
no_site None e = refl
no_site (Some p) e = absurd cc

-- a store that passes a test stands at this site
pub record IsStoreBy (test : Pended → Bool) (stores : List Pended) (site : Site) : Type 0 where
  pub store : Pended
  pub held : Contains stores store
  pub passes : test store ≡ true
  pub is : store.operation.site ≡ site

store_by : (test : Pended → Bool) (stores : List Pended) (site : Site) → option_map (λ (p : Pended). p.operation.site) (find test stores) ≡ Some site → IsStoreBy test stores site
store_by test stores site e =
    let (p, found, is) = site_found (find test stores) site e in
    let (i, at, passes) = found_at test stores p found in
    record { store = p; held = among stores i p at; passes = passes; is = is }

-- the newest store before an operation
pub store_before : (stores : List Pended) (line : ℕ) (f : Operation) (site : Site) → write_before stores line f ≡ Some site → IsStoreBy (comes_before line f) stores site
store_before stores line f site e = from stores None (λ p held. held) (λ old none. absurd cc) e
  where
    from : (later : List Pended) (newest : Option Site) → ((p : Pended) → Contains later p → Contains stores p) → ((old : Site) → newest ≡ Some old → IsStoreBy (comes_before line f) stores old)
        → fold (newer_write line f) newest later ≡ Some site → IsStoreBy (comes_before line f) stores site
    from [] newest held old e = old site e
    from (p ∷ later) newest held old e =
        from later (newer_write line f newest p) (λ q there. held q (later_here p q later there)) (newer (comes_before line f p) refl) e
      where
        newer : (on : Bool) → comes_before line f p ≡ on → (old : Site) → (if on then Some p.operation.site else newest) ≡ Some old → IsStoreBy (comes_before line f) stores old
        newer true passes given is = record { store = p; held = held p (first_here p later); passes = passes; is = cc }
        newer false passes given is = old given is

-- ---- what is told

pub record IsToldPassed (o : Origins) (stores : List Pended) (line n : ℕ) (why : Why) : Type 0 where
  pub flush : Flushed
  pub site : Site
  pub held : Contains o.flushed flush
  pub later : is_later_flush o.buffered line n flush ≡ true
  pub store : IsStoreBy (has_passed flush.operation) stores site
  pub is : why ≡ FlushBuffered flush.operation.site (Some site)

pub record IsToldBehind (o : Origins) (stores : List Pended) (line n : ℕ) (why : Why) : Type 0 where
  pub flush : Flushed
  pub site : Site
  pub held : Contains o.flushed flush
  pub later : is_later_flush o.buffered line n flush ≡ true
  pub store : IsStoreBy (comes_between n flush.operation) stores site
  pub is : why ≡ FlushBehind flush.operation.site site

pub record IsToldBuffered (o : Origins) (stores : List Pended) (line n : ℕ) (why : Why) : Type 0 where
  pub flush : Flushed
  pub held : Contains o.flushed flush
  pub later : is_later_flush o.buffered line n flush ≡ true
  pub unpassed : (p : Pended) → Contains stores p → has_passed flush.operation p ≡ false
  pub is : why ≡ FlushBuffered flush.operation.site None

module _ (o : Origins) (line n : ℕ) where
  told_passed : (stores : List Pended) (w : Why) → first_later o line n (why_passed stores) ≡ Some w → IsToldPassed o stores line n w
  told_passed stores w e =
      let (f, held, given) = first_is (of_later o line n (why_passed stores)) o.flushed w e in
      let (later, is) = given_if (is_later_flush o.buffered line n f) (why_passed stores f) w given in
      by_store f held later (passing_write stores f.operation) refl is
    where
      by_store : (f : Flushed) → Contains o.flushed f → is_later_flush o.buffered line n f ≡ true → (found : Option Site) → passing_write stores f.operation ≡ found
          → option_map (λ (store : Site). FlushBuffered f.operation.site (Some store)) found ≡ Some w → IsToldPassed o stores line n w
      by_store f held later None at is = absurd cc
      by_store f held later (Some site) at is = record { flush = f; site = site; held = held; later = later; store = store_by (has_passed f.operation) stores site at; is = cc }

  told_behind : (stores : List Pended) (w : Why) → first_later o line n (why_behind stores n) ≡ Some w → IsToldBehind o stores line n w
  told_behind stores w e =
      let (f, held, given) = first_is (of_later o line n (why_behind stores n)) o.flushed w e in
      let (later, is) = given_if (is_later_flush o.buffered line n f) (why_behind stores n f) w given in
      by_store f held later (write_between stores n f.operation) refl is
    where
      by_store : (f : Flushed) → Contains o.flushed f → is_later_flush o.buffered line n f ≡ true → (found : Option Site) → write_between stores n f.operation ≡ found
          → option_map (λ (store : Site). FlushBehind f.operation.site store) found ≡ Some w → IsToldBehind o stores line n w
      by_store f held later None at is = absurd cc
      by_store f held later (Some site) at is = record { flush = f; site = site; held = held; later = later; store = store_by (comes_between n f.operation) stores site at; is = cc }

  told_buffered : (stores : List Pended) (w : Why) → first_later o line n (why_passed stores) ≡ None → first_later o line n why_buffered ≡ Some w → IsToldBuffered o stores line n w
  told_buffered stores w none e =
      let (f, held, given) = first_is (of_later o line n why_buffered) o.flushed w e in
      let (later, is) = given_if (is_later_flush o.buffered line n f) (why_buffered f) w given in
      let not_given = none_if (is_later_flush o.buffered line n f) (why_passed stores f) (none_is (of_later o line n (why_passed stores)) o.flushed f none held) later in
      let unpassed = none_found (has_passed f.operation) stores (no_site (find (has_passed f.operation) stores) (no_why f (passing_write stores f.operation) not_given)) in
      record { flush = f; held = held; later = later; unpassed = unpassed; is = cc }
    where
      no_why : (f : Flushed) (found : Option Site) → option_map (λ (store : Site). FlushBuffered f.operation.site (Some store)) found ≡ None → found ≡ None
      no_why f None e = refl
      no_why f (Some site) e = absurd cc

  -- where no reason is given, no later flush is buffered
  pub none_later : (stores : Stores) (f : Flushed) → why_later o stores line n ≡ None → Contains o.flushed f → is_later_flush o.buffered line n f ≡ false
  none_later stores f e held =
      let one = neither (first_later o line n (why_passed stores.kept)) (option_or (first_later o line n (why_passed stores.left)) (option_or (first_later o line n (why_behind stores.kept n)) (first_later o line n why_buffered))) e in
      let two = neither (first_later o line n (why_passed stores.left)) (option_or (first_later o line n (why_behind stores.kept n)) (first_later o line n why_buffered)) one.1 in
      let three = neither (first_later o line n (why_behind stores.kept n)) (first_later o line n why_buffered) two.1 in
      not_given (is_later_flush o.buffered line n f) (none_is (of_later o line n why_buffered) o.flushed f three.1 held)
    where
      not_given : (b : Bool) → (if b then why_buffered f else None) ≡ None → b ≡ false
      not_given true e = absurd cc
      not_given false e = refl

-- ---- each of the reasons

abbrev pub IsToldLater : Origins → Stores → ℕ → ℕ → Why → Type 0
IsToldLater o stores line n why =
    IsToldPassed o stores.kept line n why ⊎ (IsToldPassed o stores.left line n why ⊎ (IsToldBehind o stores.kept line n why ⊎ IsToldBuffered o stores.left line n why))

pub told_later : (o : Origins) (stores : Stores) (line n : ℕ) (w : Why) → why_later o stores line n ≡ Some w → IsToldLater o stores line n w
told_later o stores line n w e =
    elim (is_option_or (first_later o line n (why_passed stores.kept)) (option_or (first_later o line n (why_passed stores.left)) (option_or (first_later o line n (why_behind stores.kept n)) (first_later o line n why_buffered))) w e) [
      | inl kept ↦ inl (told_passed o line n stores.kept w kept)
      | inr rest ↦ inr (elim (is_option_or (first_later o line n (why_passed stores.left)) (option_or (first_later o line n (why_behind stores.kept n)) (first_later o line n why_buffered)) w rest.1) [
        | inl left ↦ inl (told_passed o line n stores.left w left)
        | inr last ↦ inr (elim (is_option_or (first_later o line n (why_behind stores.kept n)) (first_later o line n why_buffered) w last.1) [
          | inl behind ↦ inl (told_behind o line n stores.kept w behind)
          | inr buffered ↦ inr (told_buffered o line n stores.left w last.0 buffered.1)
        ])
      ])
    ]

-- ---- the stores

-- what is among the stores has persisted, or is pending
pub left_cases : (o : Origins) (places : List ℕ) (q : Pended) → Contains (stores_of o places).left q → Contains o.persisted q ⊎ Contains o.pended q
left_cases o places q held = Contains-append_cases o.persisted o.pended q held

-- the place of what is pending and kept
pub record IsKeptPlace (o : Origins) (places : List ℕ) (q : Pended) : Type 0 where
  pub place : ℕ
  pub held : Contains places place
  pub at : slice_get o.pended place ≡ Some q

pub kept_cases : (o : Origins) (places : List ℕ) (q : Pended) → Contains (stores_of o places).kept q → Contains o.persisted q ⊎ IsKeptPlace o places q
kept_cases o places q held =
    elim (Contains-append_cases o.persisted (filter_map (slice_get o.pended) places) q held) [
      | inl persisted ↦ inl persisted
      | inr chosen ↦ let (i, among_places, at) = from_filter (slice_get o.pended) places q chosen in inr (record { place = i; held = among_places; at = at })
    ]
