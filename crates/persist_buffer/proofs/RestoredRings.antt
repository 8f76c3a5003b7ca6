-- Rings whose entries become those of others.
use Rattle.std.proofs.Common.{◌≡◌, ℕ, zero, suc, ◌+◌, ◌<◌, List, [], ◌∷◌, ◌++◌, length, take, drop, get_or, refl, sym, ◌∙◌, ap, subst, arith}
use Rattle.std.proofs.Math.ListN.{set}
use Rattle.std.proofs.lemmas.List.{get_or_default}
use Rattle.circular_buffer.specs.Buffer.{Buffer, buffer}
use Rattle.persist_buffer.specs.declared.ring.StampedEntry.{StampedEntry}
use Rattle.persist_buffer.specs.Rings.{IsMerged, IsRefillable}

module _ {X : Type 0} where
  -- of a list that is made another from the front, the next is still its own
  pub next_own : (from old : List X) (r : ℕ) (d : X) → length old ≡ length from → r < length from → get_or (take r from ++ drop r old) r d ≡ get_or old r d
  next_own [] old r d same h = absurd (omega (arith, h))
  next_own (x ∷ from) [] r d same h = absurd (omega (arith, same))
  next_own (x ∷ from) (y ∷ old) zero d same h = refl
  next_own (x ∷ from) (y ∷ old) (suc r) d same h = next_own from old r d (omega (arith, same)) (omega arith)

  -- one more
  set_next : (from old : List X) (r : ℕ) (x : X) → length old ≡ length from → r < length from → x ≡ get_or from r x → set (take r from ++ drop r old) r x ≡ take (suc r) from ++ drop (suc r) old
  set_next [] old r x same h is = absurd (omega (arith, h))
  set_next (f ∷ from) [] r x same h is = absurd (omega (arith, same))
  set_next (f ∷ from) (o ∷ old) zero x same h is = ap (λ y. y ∷ old) is
  set_next (f ∷ from) (o ∷ old) (suc r) x same h is = ap (λ ys. f ∷ ys) (set_next from old r x (omega (arith, same)) (omega arith) is)

  pub one_copied : (from old now : List X) (r : ℕ) (x : X) → length old ≡ length from → r < length from → now ≡ take r from ++ drop r old → x ≡ get_or from r x
      → set now r x ≡ take (r + 1) from ++ drop (r + 1) old
  one_copied from old now r x same h so_far is =
      let more : suc r ≡ r + 1 = omega arith in
      ap (λ ys. set ys r x) so_far ∙ (set_next from old r x same h is ∙ ap (λ n. take n from ++ drop n old) more)

-- one more ring takes over the entries of its number
pub one_refilled : (from old now : List (Buffer StampedEntry)) (r : ℕ) (had given b : Buffer StampedEntry) → IsRefillable old from → r < length from → now ≡ take r from ++ drop r old
    → had ≡ get_or now r had → given ≡ get_or from r given → b ≡ buffer given.items had.capacity → set now r b ≡ take (r + 1) from ++ drop (r + 1) old
one_refilled from old now r had given b f h so_far is there made =
    let own : had ≡ get_or old r had = is ∙ (ap (λ ys. get_or ys r had) so_far ∙ next_own from old r had f.count h) in
    let other : get_or from r had ≡ given = get_or_default from r had given h ∙ sym there in
    let room : had.capacity ≡ given.capacity = ap (λ c. c.capacity) own ∙ (f.room r had h ∙ ap (λ c. c.capacity) other) in
    let same : b ≡ given = made ∙ ap (λ n. buffer given.items n) room in
    one_copied from old now r b f.count h so_far (same ∙ (there ∙ get_or_default from r given b h))

-- any two sets of rings have the same room
pub refillable : (rings others given : List (Buffer StampedEntry)) (all more : List StampedEntry) (next other : ℕ) → IsMerged rings all next → IsMerged others more other → given ≡ others
    → IsRefillable rings given
refillable rings others given all more next other m f same = subst (λ bs. IsRefillable rings bs) (sym same) (record {
  count = m.count ∙ sym f.count;
  room = λ r d h. let k : r < 65 = omega (arith, f.count) in m.room r d k ∙ sym (f.room r d k);
  fits = λ r d h. let k : r < 65 = omega (arith, f.count) in omega (arith, f.room r d k, f.sizes r d k);
})
