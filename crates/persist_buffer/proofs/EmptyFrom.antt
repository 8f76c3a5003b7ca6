-- Rings that have no entries from one on.
use Rattle.std.proofs.Common.{◌≡◌, ◌≢◌, ℕ, zero, suc, ◌+◌, ◌<◌, ◌≤◌, List, [], ◌∷◌, ◌++◌, length, take, drop, get_or, map, refl, sym, ◌∙◌, ap, subst, arith, length-set, get_or-set_other, get_or-set_same, inl, inr, true, false, true≢false, eq-eqb, ◌==◌}
use Rattle.std.specs.Prelude.{◌⊎◌, replicate}
use Rattle.std.proofs.Math.ListN.{set}
use Rattle.std.proofs.lemmas.Bool.{cases_Bool, eqb-true}
use Rattle.std.proofs.lemmas.List.{length-map, get_or-map, get_or-replicate, length-replicate}
use Rattle.circular_buffer.specs.Buffer.{Buffer, buffer}
use Rattle.persist_buffer.specs.declared.ring.StampedEntry.{StampedEntry}
use Rattle.persist_buffer.specs.Rings.{AreEmptyFrom, IsRefillable, empty_ring, emptied}
use Rattle.persist_buffer.specs.Renumbering.{shifted_ring}

pub empty_fresh : (n : ℕ) (rings : List (Buffer StampedEntry)) → rings ≡ replicate n empty_ring → AreEmptyFrom 0 rings
empty_fresh n rings is = subst (λ (bs : List (Buffer StampedEntry)). AreEmptyFrom 0 bs) (sym is) (record {
  within = omega arith;
  each = λ r d past less. let inside : r < n = omega (arith, less, length-replicate n empty_ring) in ap (λ (b : Buffer StampedEntry). b.items) (get_or-replicate n r empty_ring d inside);
})

empty_map : (f : Buffer StampedEntry → Buffer StampedEntry) (used : ℕ) (rings : List (Buffer StampedEntry)) → ((b : Buffer StampedEntry) → b.items ≡ [] → (f b).items ≡ []) → AreEmptyFrom used rings → AreEmptyFrom used (map f rings)
empty_map f used rings stays e =
    let long : length (map f rings) ≡ length rings = length-map rings f in
    record {
      within = omega (arith, long, e.within);
      each = λ r d past less. let inside : r < length rings = omega (arith, long, less) in
          ap (λ (b : Buffer StampedEntry). b.items) (get_or-map f rings r d d inside) ∙ stays (get_or rings r d) (e.each r d past inside);
    }

pub empty_shifted : (from gap used : ℕ) (rings now : List (Buffer StampedEntry)) → now ≡ map (shifted_ring from gap) rings → AreEmptyFrom used rings → AreEmptyFrom used now
empty_shifted from gap used rings now is e =
    subst (λ (bs : List (Buffer StampedEntry)). AreEmptyFrom used bs) (sym is) (empty_map (shifted_ring from gap) used rings (λ b none. ap (λ (es : List StampedEntry). (shifted_ring from gap (buffer es b.capacity)).items) none) e)

pub empty_cleared : (rings now : List (Buffer StampedEntry)) → now ≡ map emptied rings → AreEmptyFrom 0 now
empty_cleared rings now is = subst (λ (bs : List (Buffer StampedEntry)). AreEmptyFrom 0 bs) (sym is) (record {
  within = omega arith;
  each = λ r d past less. let inside : r < length rings = omega (arith, less, length-map rings emptied) in ap (λ (b : Buffer StampedEntry). b.items) (get_or-map emptied rings r d d inside);
})

-- more of them may have entries
pub empty_later : (used more : ℕ) (rings : List (Buffer StampedEntry)) → used ≤ more → more ≤ length rings → AreEmptyFrom used rings → AreEmptyFrom more rings
empty_later used more rings le within e = record { within = within; each = λ r d past less. e.each r d (omega (arith, le, past)) less }

-- a ring among the first ones changes
pub empty_set : (used n : ℕ) (rings : List (Buffer StampedEntry)) (r : ℕ) (b : Buffer StampedEntry) → used ≤ n → r < n → n ≤ length rings → AreEmptyFrom used rings → AreEmptyFrom n (set rings r b)
empty_set used n rings r b le small within e =
    let long : length (set rings r b) ≡ length rings = length-set rings r b in
    record {
      within = omega (arith, long, within);
      each = λ k d past less.
          let apart : k ≢ r = omega (arith, small, past) in
          let inside : k < length rings = omega (arith, long, less) in
          ap (λ (x : Buffer StampedEntry). x.items) (get_or-set_other rings r k b d apart) ∙ e.each k d (omega (arith, le, past)) inside;
    }

-- rings that are made others from the front are these, once those that have entries are
same_rest : (old from : List (Buffer StampedEntry)) (n : ℕ) → length old ≡ length from → ((r : ℕ) (d : Buffer StampedEntry) → n ≤ r → r < length from → get_or old r d ≡ get_or from r d) → take n from ++ drop n old ≡ from
same_rest [] [] zero long same = refl
same_rest [] [] (suc n) long same = refl
same_rest [] (y ∷ from) n long same = absurd (omega (arith, long))
same_rest (x ∷ old) [] n long same = absurd (omega (arith, long))
same_rest (x ∷ old) (y ∷ from) zero long same =
    let first : x ≡ y = same zero x (omega arith) (omega arith) in
    let rest : old ≡ from = same_rest old from zero (omega (arith, long)) (λ r d past less. same (suc r) d (omega arith) (omega (arith, less))) in
    λ k. first k ∷ rest k
same_rest (x ∷ old) (y ∷ from) (suc n) long same =
    ap (λ (zs : List (Buffer StampedEntry)). y ∷ zs) (same_rest old from n (omega (arith, long)) (λ r d past less. same (suc r) d (omega (arith, past)) (omega (arith, less))))

pub all_refilled : (old from now : List (Buffer StampedEntry)) (used n : ℕ) → IsRefillable old from → AreEmptyFrom used old → AreEmptyFrom used from → used ≤ n → now ≡ take n from ++ drop n old → now ≡ from
all_refilled old from now used n f before after le is =
    is ∙ same_rest old from n f.count each
  where
    each : (r : ℕ) (d : Buffer StampedEntry) → n ≤ r → r < length from → get_or old r d ≡ get_or from r d
    each r d past less =
        let count = f.count in
        let inside : r < length old = omega (arith, count, less) in
        let none : (get_or old r d).items ≡ [] = before.each r d (omega (arith, le, past)) inside in
        let nothing : (get_or from r d).items ≡ [] = after.each r d (omega (arith, le, past)) less in
        λ k. buffer ((none ∙ sym nothing) k) (f.room r d less k)

-- the first entry of a ring goes
pub empty_popped : (used : ℕ) (rings : List (Buffer StampedEntry)) (r : ℕ) (old b : Buffer StampedEntry) → r < length rings → old ≡ get_or rings r old → b ≡ buffer (drop 1 old.items) old.capacity → AreEmptyFrom used rings
    → AreEmptyFrom used (set rings r b)
empty_popped used rings r old b inside was now e =
    let long : length (set rings r b) ≡ length rings = length-set rings r b in
    record {
      within = omega (arith, long, e.within);
      each = λ k d past less. by k d past (omega (arith, long, less)) (cases_Bool (k == r));
    }
  where
    by : (k : ℕ) (d : Buffer StampedEntry) → used ≤ k → k < length rings → ((k == r) ≡ true) ⊎ ((k == r) ≡ false) → (get_or (set rings r b) k d).items ≡ []
    by k d past there (inl is) =
        let same : k ≡ r = eqb-true k r is in
        let none : old.items ≡ [] = ap (λ (x : Buffer StampedEntry). x.items) was ∙ e.each r old (subst (λ (n : ℕ). used ≤ n) same past) inside in
        ap (λ (n : ℕ). (get_or (set rings r b) n d).items) same ∙ ap (λ (x : Buffer StampedEntry). x.items) (get_or-set_same rings r b d inside) ∙ ap (λ (x : Buffer StampedEntry). x.items) now
        ∙ ap (λ (es : List StampedEntry). drop 1 es) none
    by k d past there (inr not) =
        let apart : k ≢ r = λ same. true≢false (sym (eq-eqb k r same) ∙ not) in
        ap (λ (x : Buffer StampedEntry). x.items) (get_or-set_other rings r k b d apart) ∙ e.each k d past there
