-- What is said of one weaker instruction after another, put together.
use Rattle.std.proofs.Common.{◌≡◌, ℕ, true, Option, Some, None, List, [], ◌∷◌, ◌++◌, append_assoc, refl, sym, ap, subst, ◌∙◌}
use Rattle.std.specs.Prelude.{length, map}
use Rattle.std.proofs.lemmas.List.{append-nil}
use Rattle.lines_layout.specs.Layouts.{NamedLines}
use Rattle.isa.specs.declared.instr.Instr.{Instr}
use Rattle.isa.specs.Loadables.{is_loadable, names_its_words}
use Rattle.isa.specs.Objects.{Object, shape}
use Rattle.image_reasons.specs.declared.entries.Site.{Site}
use Rattle.explore.specs.declared.question.Question.{Question}
use Rattle.verdicts.specs.Verdicts.{IsKeptBy}
use Rattle.fence_needs.specs.declared.need.SiteNeed.{SiteNeed}
use Rattle.fence_needs.specs.declared.need.Weaker.{Weaker}
use Rattle.fence_needs.specs.declared.need.WeakerSaid.{WeakerSaid}
use Rattle.fence_needs.specs.declared.need.WeakerSaid.TheVariants.{Does, DoesNot, NotKnown}
use Rattle.fence_needs.specs.Changes.{replaced, without, without_all}
use Rattle.fence_needs.specs.Needs.{AreNeeds, AreNeedsBehind, left_out, what_stays, with_left_out}
use Rattle.fence_needs.specs.Sites.{instr_at, sites_of}
use Rattle.fence_needs.specs.Tried.{AreFound, IsTriedIn}
use Rattle.fence_needs.specs.Weakened.{AreWeakened, IsSaid, IsWeakened, kept_if_it_does, weaker_tried, weakened, weakened_at}
use Rattle.fence_needs.proofs.WeakerOnesMayStand.{instr_names}

-- one of the list, with what is said of its weaker one
abbrev pub said_of : SiteNeed → Option Weaker → SiteNeed
said_of one said = record { site = one.site; instr = one.instr; need = one.need; weaker = said }

same_left_out : (needs rest : List SiteNeed) (one : SiteNeed) (said : Option Weaker) → left_out (needs ++ said_of one said ∷ rest) ≡ left_out (needs ++ one ∷ rest)
same_left_out [] rest one said = refl
same_left_out (first ∷ needs) rest one said = ap (λ (sites : List Site). with_left_out [] first.site first.need ++ sites) (same_left_out needs rest one said)

pub weakened_more : (program : Object) (needs : List SiteNeed) (one : SiteNeed)
    → weakened program (needs ++ one ∷ []) ≡ weakened_at (weakened program needs) one.site one.weaker
weakened_more program [] one = refl
weakened_more program (first ∷ needs) one = weakened_more (weakened_at program first.site first.weaker) needs one

-- ---- names stay

names_kept : (program changed : Object) (said : WeakerSaid) → changed.layout ≡ program.layout → (kept_if_it_does program changed said).layout ≡ program.layout
names_kept program changed Does same = same
names_kept program changed (DoesNot failure) same = refl
names_kept program changed (NotKnown fault) same = refl

names_at : (program : Object) (site : Site) (said : Option Weaker) → (weakened_at program site said).layout ≡ program.layout
names_at program site None = refl
names_at program site (Some weaker) = names_kept program (replaced program site weaker.instr) weaker.said refl

names_stay : (program : Object) (needs : List SiteNeed) → (weakened program needs).layout ≡ program.layout
names_stay program [] = refl
names_stay program (one ∷ needs) = names_stay (weakened_at program one.site one.weaker) needs ∙ names_at program one.site one.weaker

names_without : (object : Object) (sites : List Site) → (without_all object sites).layout ≡ object.layout
names_without object [] = refl
names_without object (site ∷ sites) = names_without (without object site) sites

-- ---- one after another

module _ (question : Question) (limit : ℕ) (object : Object) where
  same_needs : (before sites : List Site) (needs rest : List SiteNeed) (one : SiteNeed) (said : Option Weaker)
      → AreNeedsBehind question limit object before sites (needs ++ one ∷ rest) → AreNeedsBehind question limit object before sites (needs ++ said_of one said ∷ rest)
  same_needs before [] [] rest one said are = absurd are
  same_needs before [] (first ∷ needs) rest one said are = absurd are
  same_needs before (site ∷ sites) [] rest one said are = (are.0, are.1, are.2, are.3)
  same_needs before (site ∷ sites) (first ∷ needs) rest one said are =
      (are.0, are.1, are.2, same_needs (with_left_out before site first.need) sites needs rest one said are.3)

  instr_is : (before sites : List Site) (needs rest : List SiteNeed) (one : SiteNeed)
      → AreNeedsBehind question limit object before sites (needs ++ one ∷ rest) → one.instr ≡ instr_at object one.site
  instr_is before [] [] rest one are = absurd are
  instr_is before [] (first ∷ needs) rest one are = absurd are
  instr_is before (site ∷ sites) [] rest one are = are.1 ∙ ap (λ (s : Site). instr_at object s) (sym are.0)
  instr_is before (site ∷ sites) (first ∷ needs) rest one are = instr_is (with_left_out before site first.need) sites needs rest one are.3

  are_more : (program : Object) (needs : List SiteNeed) (one : SiteNeed) → AreWeakened question limit program needs
      → IsWeakened question limit (weakened program needs) one.site (weaker_tried one.need one.instr) one.weaker
      → AreWeakened question limit program (needs ++ one ∷ [])
  are_more program [] one are said = (said, tt)
  are_more program (first ∷ needs) one are said = (are.0, are_more (weakened_at program first.site first.weaker) needs one are.1 said)

  kept_as : (program : Object) (site : Site) (weaker instr : Instr) (said : WeakerSaid) → instr ≡ weaker → IsSaid question limit (replaced program site weaker) said
      → IsKeptBy question program → IsKeptBy question (kept_if_it_does program (replaced program site instr) said)
  kept_as program site weaker instr Does same is kept = subst (λ (w : Instr). IsKeptBy question (replaced program site w)) (sym same) is
  kept_as program site weaker instr (DoesNot failure) same is kept = kept
  kept_as program site weaker instr (NotKnown fault) same is kept = kept

  kept_then : (program : Object) (site : Site) (weaker : Option Instr) (said : Option Weaker) → IsWeakened question limit program site weaker said
      → IsKeptBy question program → IsKeptBy question (weakened_at program site said)
  kept_then program site None None is kept = kept
  kept_then program site None (Some said) is kept = absurd (cc is)
  kept_then program site (Some weaker) None is kept = absurd is
  kept_then program site (Some weaker) (Some said) is kept = kept_as program site weaker said.instr said.said is.0 is.1 kept

  -- What is said of the first so far, with the rest behind them.
  pub record AreWeakenedSoFar (program : Object) (needs rest : List SiteNeed) : Type 0 where
    pub each : AreNeedsBehind question limit object [] (sites_of object) (needs ++ rest)
    pub together : IsKeptBy question object → IsKeptBy question (what_stays object (needs ++ rest))
    pub so_far : AreWeakened question limit (what_stays object (needs ++ rest)) needs
    pub program_is : program ≡ weakened (what_stays object (needs ++ rest)) needs
    pub kept : IsKeptBy question object → IsKeptBy question program

  pub none_so_far : (found : List SiteNeed) (program : Object) → AreFound question limit object found → program ≡ what_stays object found
      → AreWeakenedSoFar program [] found
  none_so_far found program are is = record {
    each = are.each;
    together = are.together;
    so_far = tt;
    program_is = is;
    kept = λ k. subst (λ (p : Object). IsKeptBy question p) (sym is) (are.together k);
  }

  pub words_there : (program : Object) (needs rest : List SiteNeed) (one : SiteNeed) → is_loadable (shape object) object.processors ≡ true
      → AreWeakenedSoFar program needs (one ∷ rest) → names_its_words (shape program) one.instr ≡ true
  words_there program needs rest one loadable so =
      let first = what_stays object (needs ++ one ∷ rest) in
      let names : program.layout ≡ object.layout =
      ap (λ (p : Object). p.layout) so.program_is ∙ names_stay first needs ∙ names_without object (left_out (needs ++ one ∷ rest)) in
      let instr = instr_is [] (sites_of object) needs rest one so.each in
      ap (λ (l : NamedLines). names_its_words (map length l) one.instr) names ∙ ap (λ (i : Instr). names_its_words (shape object) i) instr
      ∙ instr_names object one.site loadable

  pub one_more_so_far : (program new : Object) (needs rest : List SiteNeed) (one : SiteNeed) (said : Option Weaker)
      → AreWeakenedSoFar program needs (one ∷ rest) → IsTriedIn question limit program one.site (weaker_tried one.need one.instr) new said
      → AreWeakenedSoFar new (needs ++ said_of one said ∷ []) rest
  one_more_so_far program new needs rest one said so tried =
      let then = said_of one said in
      let first = what_stays object (needs ++ one ∷ rest) in
      let joined : (needs ++ then ∷ []) ++ rest ≡ needs ++ then ∷ rest = append_assoc needs (then ∷ []) rest in
      let same : what_stays object ((needs ++ then ∷ []) ++ rest) ≡ first =
      ap (λ (all : List SiteNeed). what_stays object all) joined ∙ ap (λ (sites : List Site). without_all object sites) (same_left_out needs rest one said) in
      record {
        each =
            subst (λ (all : List SiteNeed). AreNeedsBehind question limit object [] (sites_of object) all) (sym joined)
            (same_needs [] (sites_of object) needs rest one said so.each);
        together = λ k. subst (λ (p : Object). IsKeptBy question p) (sym same) (so.together k);
        so_far =
            subst (λ (p : Object). AreWeakened question limit p (needs ++ then ∷ [])) (sym same)
            (are_more first needs then so.so_far
            (subst (λ (p : Object). IsWeakened question limit p one.site (weaker_tried one.need one.instr) said) so.program_is tried.0));
        program_is =
            tried.1 ∙ ap (λ (p : Object). weakened_at p one.site said) so.program_is ∙ sym (weakened_more first needs then)
            ∙ ap (λ (p : Object). weakened p (needs ++ then ∷ [])) (sym same);
        kept = λ k.
            subst (λ (p : Object). IsKeptBy question p) (sym tried.1)
            (kept_then program one.site (weaker_tried one.need one.instr) said tried.0 (so.kept k));
      }

  pub all_so_far : (program : Object) (needs : List SiteNeed) → AreWeakenedSoFar program needs [] → IsKeptBy question object → AreNeeds question limit object needs
  all_so_far program needs so k =
      let all : needs ++ [] ≡ needs = append-nil needs in
      let first : what_stays object (needs ++ []) ≡ what_stays object needs = ap (λ (l : List SiteNeed). what_stays object l) all in
      record {
        each = subst (λ (l : List SiteNeed). AreNeedsBehind question limit object [] (sites_of object) l) all so.each;
        together = subst (λ (p : Object). IsKeptBy question p) first (so.together k);
        each_weaker = subst (λ (p : Object). AreWeakened question limit p needs) first so.so_far;
        weaker_together =
            subst (λ (p : Object). IsKeptBy question p) (so.program_is ∙ ap (λ (p : Object). weakened p needs) first) (so.kept k);
      }
