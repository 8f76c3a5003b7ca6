-- What is found of one instruction after another, put together.
use Rattle.std.proofs.Common.{◌≡◌, ℕ, ◌<◌, ◌⊎◌, inl, inr, Option, Some, None, Result, Ok, List, [], ◌∷◌, ◌++◌, length, append_assoc, refl, sym, ap, subst, ◌∙◌, arith}
use Rattle.std.specs.Prelude.{map, IfOk}
use Rattle.std.specs.List.{AllZip}
use Rattle.std.proofs.lemmas.List.{append-nil}
use Rattle.isa.specs.Objects.{Object}
use Rattle.image_reasons.specs.declared.entries.Site.{Site}
use Rattle.explore.specs.declared.question.Question.{Question}
use Rattle.verdicts.specs.Verdicts.{IsFailureOf, IsKeptBy, IsUntold}
use Rattle.fence_needs.specs.declared.need.Need.{Need}
use Rattle.fence_needs.specs.declared.need.Need.TheVariants.{Needed, LeftOut, Kept, Untold, KeptUntold}
use Rattle.fence_needs.specs.declared.need.SiteNeed.{SiteNeed}
use Rattle.fence_needs.specs.Changes.{without, without_all}
use Rattle.fence_needs.specs.Needs.{AreNeedsBehind, IsNeed, left_out, what_stays, with_left_out}
use Rattle.fence_needs.specs.Sites.{sites_of}
use Rattle.fence_needs.specs.Tried.{AreEachAlone, AreFound, GoesOn, IsLeft, IsNeedAlone, IsOneAlone, IsTriedOn}

-- what was made of each, where all were made
pub all_made : {X A E : Type 0} (P : X → A → Type 0) (xs : List X) (made : List (Result A E)) (ys : List A)
    → AllZip (λ x r. IfOk r (P x)) xs made → made ≡ map Ok ys → AllZip P xs ys
all_made P [] [] [] each is = tt
all_made P [] [] (y ∷ ys) each is = absurd (cc is)
all_made P [] (r ∷ made) ys each is = absurd each
all_made P (x ∷ xs) [] ys each is = absurd each
all_made P (x ∷ xs) (r ∷ made) [] each is = absurd (cc is)
all_made P (x ∷ xs) (r ∷ made) (y ∷ ys) each is =
    let head : r ≡ Ok y = cc is in
    let tail : made ≡ map Ok ys = cc is in
    (subst (λ (m : Result _ _). IfOk m (P x)) head each.0, all_made P xs made ys each.1 tail)

pub one_more_without : (object : Object) (before : List Site) (site : Site) → without_all object (before ++ site ∷ []) ≡ without (without_all object before) site
one_more_without object [] site = refl
one_more_without object (first ∷ before) site = one_more_without (without object first) before site

pub behind_them : (before : List Site) (site : Site) (need : Need) → with_left_out before site need ≡ before ++ with_left_out [] site need
behind_them before site (Needed failure) = sym (append-nil before)
behind_them before site LeftOut = refl
behind_them before site (Kept failure) = sym (append-nil before)
behind_them before site (Untold fault) = sym (append-nil before)
behind_them before site (KeptUntold fault) = sym (append-nil before)

-- one more at the end
pub left_out_more : (needs : List SiteNeed) (one : SiteNeed) → left_out (needs ++ one ∷ []) ≡ with_left_out (left_out needs) one.site one.need
left_out_more [] one = append-nil (with_left_out [] one.site one.need)
left_out_more (first ∷ needs) one =
    ap (λ (sites : List Site). with_left_out [] first.site first.need ++ sites) (left_out_more needs one ∙ behind_them (left_out needs) one.site one.need)
    ∙ sym (append_assoc (with_left_out [] first.site first.need) (left_out needs) (with_left_out [] one.site one.need))
    ∙ sym (behind_them (with_left_out [] first.site first.need ++ left_out needs) one.site one.need)

module _ (question : Question) (limit : ℕ) (object : Object) where
  -- what is so of one alone is so behind any
  pub alone_behind : (before : List Site) (site : Site) (need : Need) → IsNeedAlone question limit object site need → IsNeed question limit object before site need
  alone_behind before site (Needed failure) is = is
  alone_behind before site LeftOut is = is
  alone_behind before site (Kept failure) is = absurd is
  alone_behind before site (Untold fault) is = is
  alone_behind before site (KeptUntold fault) is = absurd is

  pub all_behind : (before sites : List Site) (alone : List SiteNeed) → AllZip (IsOneAlone question limit object) sites alone
      → AreNeedsBehind question limit object before sites alone
  all_behind before [] [] each = tt
  all_behind before [] (one ∷ alone) each = absurd each
  all_behind before (site ∷ sites) [] each = absurd each
  all_behind before (site ∷ sites) (one ∷ alone) each =
      let here = each.0 in (
        here.site_is,
        here.instr_is,
        alone_behind before site one.need here.need,
        all_behind (with_left_out before site one.need) sites alone each.1,
      )

  -- what is asked holds without each alone that is left out
  abbrev HoldEach : List Site → Type 0
  HoldEach [] = Unit {0}
  HoldEach (site ∷ sites) = IsKeptBy question (without object site) × HoldEach sites

  hold_with : (site : Site) (need : Need) (sites : List Site) → IsNeedAlone question limit object site need → HoldEach sites → HoldEach (with_left_out [] site need ++ sites)
  hold_with site (Needed failure) sites is hold = hold
  hold_with site LeftOut sites is hold = (is, hold)
  hold_with site (Kept failure) sites is hold = hold
  hold_with site (Untold fault) sites is hold = hold
  hold_with site (KeptUntold fault) sites is hold = hold

  hold_each : (sites : List Site) (alone : List SiteNeed) → AllZip (IsOneAlone question limit object) sites alone → HoldEach (left_out alone)
  hold_each [] [] each = tt
  hold_each [] (one ∷ alone) each = absurd each
  hold_each (site ∷ sites) [] each = absurd each
  hold_each (site ∷ sites) (one ∷ alone) each =
      let here = each.0 in
      hold_with one.site one.need (left_out alone) (subst (λ (s : Site). IsNeedAlone question limit object s one.need) (sym here.site_is) here.need) (hold_each sites alone each.1)

  few_hold : (sites : List Site) → HoldEach sites → length sites < 2 → IsKeptBy question object → IsKeptBy question (without_all object sites)
  few_hold [] hold few kept = kept
  few_hold (site ∷ []) hold few kept = hold.0
  few_hold (site ∷ other ∷ sites) hold few kept = absurd (omega (arith, few))

  pub all_alone : (alone : List SiteNeed) → AreEachAlone question limit object alone
      → (length (left_out alone) < 2) ⊎ IsKeptBy question (what_stays object alone) → AreFound question limit object alone
  all_alone alone each (inl few) = record {
    each = all_behind [] (sites_of object) alone each;
    together = λ kept. few_hold (left_out alone) (hold_each (sites_of object) alone each) few kept;
  }
  all_alone alone each (inr holds) = record { each = all_behind [] (sites_of object) alone each; together = λ kept. holds }

  -- ---- one more, behind those that are left out

  pub first_left_out : (site : Site) (changed : Object) → changed ≡ without object site → IsKeptBy question (without object site)
      → GoesOn question limit object site LeftOut None (Some changed)
  first_left_out site changed is kept = λ before none. (
    kept,
    (is ∙ ap (λ (sites : List Site). without_all object (sites ++ site ∷ [])) (sym none), subst (λ (o : Object). IsKeptBy question o) (sym is) kept),
  )

  pub next_tried : (site : Site) (left new : Object) (need : Need) → IsKeptBy question (without object site) → IsTriedOn question limit left site new need
      → GoesOn question limit object site need (Some left) (Some new)
  next_tried site left new (Needed failure) kept tried = absurd tried
  next_tried site left new LeftOut kept tried = λ before was.
      (kept, (tried.0 ∙ ap (λ (o : Object). without o site) was.0 ∙ sym (one_more_without object before site), tried.1))
  next_tried site left new (Kept failure) kept tried = λ before was.
      let program : without left site ≡ without_all object (before ++ site ∷ []) = ap (λ (o : Object). without o site) was.0 ∙ sym (one_more_without object before site) in (
        (kept, subst (λ (o : Object). IsFailureOf question o failure) program tried.1),
        (tried.0 ∙ was.0, subst (λ (o : Object). IsKeptBy question o) (sym tried.0) was.1),
      )
  next_tried site left new (Untold fault) kept tried = absurd tried
  next_tried site left new (KeptUntold fault) kept tried = λ before was.
      let program : without left site ≡ without_all object (before ++ site ∷ []) = ap (λ (o : Object). without o site) was.0 ∙ sym (one_more_without object before site) in (
        (kept, subst (λ (o : Object). IsUntold question limit o fault) program tried.1),
        (tried.0 ∙ was.0, subst (λ (o : Object). IsKeptBy question o) (sym tried.0) was.1),
      )

  -- one that is not left out alone: nothing changes
  abbrev IsOther : Need → Type 0
  IsOther LeftOut = ⊥
  IsOther _ = Unit {0}

  pub other_goes_on : (site : Site) (need : Need) (left : Option Object) → IsOther need → IsNeedAlone question limit object site need
      → GoesOn question limit object site need left left
  other_goes_on site (Needed failure) left other is = λ before was. (is, was)
  other_goes_on site LeftOut left other is = absurd other
  other_goes_on site (Kept failure) left other is = absurd is
  other_goes_on site (Untold fault) left other is = λ before was. (is, was)
  other_goes_on site (KeptUntold fault) left other is = absurd is

  -- ---- the loop over all

  -- what was found so far of the first, with what is known of the rest
  pub record AreFoundSoFar (left : Option Object) (needs rest : List SiteNeed) : Type 0 where
    pub later : List Site
    pub alone : AllZip (IsOneAlone question limit object) later rest
    pub is_left : IsLeft question object (left_out needs) left
    pub so_far : (more : List SiteNeed) → AreNeedsBehind question limit object (left_out needs) later more
        → AreNeedsBehind question limit object [] (sites_of object) (needs ++ more)

  pub nothing_found : (alone : List SiteNeed) → AreEachAlone question limit object alone → AreFoundSoFar None [] alone
  nothing_found alone each = record { later = sites_of object; alone = each; is_left = refl; so_far = λ more found. found }

  one_found : (later : List Site) (left new : Option Object) (needs rest : List SiteNeed) (one : SiteNeed) (need : Need)
      → AllZip (IsOneAlone question limit object) later (one ∷ rest)
      → IsLeft question object (left_out needs) left
      → ((more : List SiteNeed) → AreNeedsBehind question limit object (left_out needs) later more → AreNeedsBehind question limit object [] (sites_of object) (needs ++ more))
      → GoesOn question limit object one.site need left new
      → AreFoundSoFar new (needs ++ (record { site = one.site; instr = one.instr; need = need; weaker = None }) ∷ []) rest
  one_found [] left new needs rest one need each was so_far goes = absurd each
  one_found (site ∷ later) left new needs rest one need each was so_far goes =
      let here = each.0 in
      let found : SiteNeed = record { site = one.site; instr = one.instr; need = need; weaker = None } in
      let now = goes (left_out needs) was in
      let same = left_out_more needs found in
      record {
        later = later;
        alone = each.1;
        is_left = subst (λ (sites : List Site). IsLeft question object sites new) (sym same) now.1;
        so_far = λ more rest_found.
            subst (λ (all : List SiteNeed). AreNeedsBehind question limit object [] (sites_of object) all) (sym (append_assoc needs (found ∷ []) more))
            (so_far (found ∷ more) (
              here.site_is,
              here.instr_is,
              subst (λ (s : Site). IsNeed question limit object (left_out needs) s need) here.site_is now.0,
              subst (λ (sites : List Site). AreNeedsBehind question limit object sites later more)
                  (same ∙ ap (λ (s : Site). with_left_out (left_out needs) s need) here.site_is) rest_found,
            ));
      }

  first_of : (later : List Site) (rest : List SiteNeed) (one : SiteNeed) → AllZip (IsOneAlone question limit object) later (one ∷ rest)
      → IsNeedAlone question limit object one.site one.need
  first_of [] rest one each = absurd each
  first_of (site ∷ later) rest one each = let here = each.0 in subst (λ (s : Site). IsNeedAlone question limit object s one.need) (sym here.site_is) here.need

  pub first_alone : (left : Option Object) (needs rest : List SiteNeed) (one : SiteNeed) → AreFoundSoFar left needs (one ∷ rest)
      → IsNeedAlone question limit object one.site one.need
  first_alone left needs rest one found = first_of found.later rest one found.alone

  pub one_more_found : (left new : Option Object) (needs rest : List SiteNeed) (one : SiteNeed) (need : Need)
      → AreFoundSoFar left needs (one ∷ rest) → GoesOn question limit object one.site need left new
      → AreFoundSoFar new (needs ++ (record { site = one.site; instr = one.instr; need = need; weaker = None }) ∷ []) rest
  one_more_found left new needs rest one need found goes = one_found found.later left new needs rest one need found.alone found.is_left found.so_far goes

  kept_at_last : (left : Option Object) (sites : List Site) → IsLeft question object sites left → IsKeptBy question object → IsKeptBy question (without_all object sites)
  kept_at_last None sites is kept = subst (λ (s : List Site). IsKeptBy question (without_all object s)) (sym is) kept
  kept_at_last (Some left) sites is kept = subst (λ (o : Object). IsKeptBy question o) is.0 is.1

  ended : (later : List Site) (left : Option Object) (needs : List SiteNeed) → AllZip (IsOneAlone question limit object) later []
      → ((more : List SiteNeed) → AreNeedsBehind question limit object (left_out needs) later more → AreNeedsBehind question limit object [] (sites_of object) (needs ++ more))
      → AreNeedsBehind question limit object [] (sites_of object) needs
  ended [] left needs each so_far = subst (λ (all : List SiteNeed). AreNeedsBehind question limit object [] (sites_of object) all) (append-nil needs) (so_far [] tt)
  ended (site ∷ later) left needs each so_far = absurd each

  pub all_found : (left : Option Object) (needs : List SiteNeed) → AreFoundSoFar left needs [] → AreFound question limit object needs
  all_found left needs found = record {
    each = ended found.later left needs found.alone found.so_far;
    together = λ kept. kept_at_last left (left_out needs) found.is_left kept;
  }
