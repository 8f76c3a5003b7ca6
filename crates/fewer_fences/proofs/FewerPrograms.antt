-- Fewer flushes and fences than fewer are fewer, and a nop makes fewer.
use Rattle.std.proofs.Common.{◌≡◌, ◌≢◌, ℕ, Bool, true, Option, Some, List, length-set, refl, sym, ◌∙◌, ap, subst, inl, inr}
use Rattle.std.specs.Prelude.{◌⊎◌, slice_get, slice_set}
use Rattle.isa.specs.declared.instr.Instr.{Instr}
use Rattle.isa.specs.declared.instr.Instr.TheVariants.{Nop}
use Rattle.isa.specs.declared.programs.Programs.{Programs}
use Rattle.isa.specs.Objects.{Object}
use Rattle.fewer_fences.specs.Thinner.{AreByPlace, AreFewer, HasNops, HaveNops, IsOrIsNop, may_be_nop}
use Rattle.fewer_fences.proofs.ThinnedLists.{other_there, set_at}

one_there : {A : Type 0} (o : Option A) (x y : A) → o ≡ Some x → o ≡ Some y → y ≡ x
one_there o x y e f = let both : Some x ≡ Some y = sym e ∙ f in let same : x ≡ y = cc in sym same

by_place_itself : {A : Type 0} (Are : A → A → Type 0) (xs : List A) → ((x : A) → Are x x) → AreByPlace Are xs xs
by_place_itself Are xs itself = record {
  count = refl;
  each = λ place this other at and. subst (λ y. Are this y) (sym (one_there (slice_get xs place) this other at and)) (itself this);
}

by_place_joined : {A : Type 0} (Are : A → A → Type 0) (xs ys zs : List A) → ((x y z : A) → Are x y → Are y z → Are x z) → AreByPlace Are xs ys → AreByPlace Are ys zs → AreByPlace Are xs zs
by_place_joined Are xs ys zs joined h k = record {
  count = k.count ∙ h.count;
  each = λ place this other at and.
      let between = other_there xs ys place this h.count at in
      joined this between.0 other (h.each place this between.0 at between.1) (k.each place between.0 other between.1 and);
}

module _ (may : Instr → Bool) where
  nop_joined : (x y z : Instr) → IsOrIsNop may x y → IsOrIsNop may y z → IsOrIsNop may x z
  nop_joined x y z (inl e) (inl f) = inl (f ∙ e)
  nop_joined x y z (inl e) (inr (there, f)) = inr (ap may (sym e) ∙ there, f)
  nop_joined x y z (inr (here, e)) (inl f) = inr (here, f ∙ e)
  nop_joined x y z (inr (here, e)) (inr (there, f)) = inr (here, f)

  code_itself : (code : List Instr) → HasNops may code code
  code_itself code = by_place_itself (IsOrIsNop may) code (λ x. inl refl)

  code_joined : (a b c : List Instr) → HasNops may a b → HasNops may b c → HasNops may a c
  code_joined a b c h k = by_place_joined (IsOrIsNop may) a b c nop_joined h k

  both_joined : (a b c : Programs) → HaveNops may a b → HaveNops may b c → HaveNops may a c
  both_joined a b c h k = record { main = code_joined a.main b.main c.main h.main k.main; recovery = code_joined a.recovery b.recovery c.recovery h.recovery k.recovery }

  nop_there : (code : List Instr) (place at : ℕ) (instr this other : Instr) → slice_get code place ≡ Some instr → may instr ≡ true → slice_get code at ≡ Some this
      → ((at ≡ place) × (other ≡ Nop)) ⊎ ((at ≢ place) × (slice_get code at ≡ Some other)) → IsOrIsNop may this other
  nop_there code place at instr this other there passes here (inl (same, is)) =
      let found : this ≡ instr = one_there (slice_get code place) instr this there (ap (slice_get code) (sym same) ∙ here) in
      inr (ap may found ∙ passes, is)
  nop_there code place at instr this other there passes here (inr (apart, stays)) = inl (one_there (slice_get code at) this other here stays)

  pub one_nop : (code : List Instr) (place : ℕ) (instr : Instr) → slice_get code place ≡ Some instr → may instr ≡ true → HasNops may code (slice_set code place Nop)
  one_nop code place instr there passes = record {
    count = length-set code place Nop;
    each = λ at this other here now. nop_there code place at instr this other there passes here (set_at code place at Nop other now);
  }

pub fewer_itself : (object : Object) → AreFewer object object
fewer_itself object = record {
  layout = refl;
  values = refl;
  processors = by_place_itself (HaveNops may_be_nop) object.processors (λ programs. record { main = code_itself may_be_nop programs.main; recovery = code_itself may_be_nop programs.recovery });
}

pub fewer_joined : (a b c : Object) → AreFewer a b → AreFewer b c → AreFewer a c
fewer_joined a b c h k = record {
  layout = k.layout ∙ h.layout;
  values = k.values ∙ h.values;
  processors = by_place_joined (HaveNops may_be_nop) a.processors b.processors c.processors (both_joined may_be_nop) h.processors k.processors;
}
