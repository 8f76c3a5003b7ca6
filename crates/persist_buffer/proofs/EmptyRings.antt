-- Rings without entries.
use Rattle.std.proofs.Common.{◌≡◌, ℕ, zero, suc, ◌^◌, ◌<◌, ◌≤◌, List, [], ◌∷◌, length, get_or, refl, ◌∙◌, ap, arith, map}
use Rattle.std.specs.Prelude.{replicate}
use Rattle.std.proofs.lemmas.List.{length-map, get_or-map, get_or-replicate, length-replicate}
use Rattle.circular_buffer.specs.Buffer.{Buffer}
use Rattle.persist_buffer.specs.declared.ring.StampedEntry.{StampedEntry}
use Rattle.persist_buffer.specs.Rings.{by_serial, joined, merged, IsMerged, empty_ring, emptied}

joined_emptied : (rings : List (Buffer StampedEntry)) → joined (map emptied rings) ≡ []
joined_emptied [] = refl
joined_emptied (b ∷ bs) = joined_emptied bs

merged_emptied : (rings : List (Buffer StampedEntry)) → merged (map emptied rings) ≡ []
unfolding merged
merged_emptied rings = ap by_serial (joined_emptied rings)

emptied_at : (rings : List (Buffer StampedEntry)) (r : ℕ) (d : Buffer StampedEntry) → r < length rings → get_or (map emptied rings) r d ≡ emptied (get_or rings r d)
emptied_at rings r d h = get_or-map emptied rings r d d h

pub cleared : (rings : List (Buffer StampedEntry)) (all : List StampedEntry) (next : ℕ) → IsMerged rings all next → IsMerged (map emptied rings) [] next
cleared rings all next m =
    let at : (r : ℕ) (d : Buffer StampedEntry) → r < 65 → get_or (map emptied rings) r d ≡ emptied (get_or rings r d) = λ r d k. emptied_at rings r d (omega (arith, m.count)) in
    record {
      merges = merged_emptied rings;
      count = length-map rings emptied ∙ m.count;
      rising = tt;
      below = tt;
      room = λ r d k. rw (at r d k) (m.room r d k);
      sizes = λ r d k. rw (at r d k) (omega arith);
      each = λ r d k. rw (at r d k) refl;
      bound = m.bound;
    }

joined_fresh : (n : ℕ) → joined (replicate n empty_ring) ≡ []
joined_fresh zero = refl
joined_fresh (suc n) = joined_fresh n

merged_fresh : (n : ℕ) → merged (replicate n empty_ring) ≡ []
unfolding merged
merged_fresh n = ap by_serial (joined_fresh n)

pub fresh : (rings : List (Buffer StampedEntry)) (n first : ℕ) → n ≡ 65 → first ≤ 2 ^ 63 → rings ≡ replicate n empty_ring → IsMerged rings [] first
fresh rings n first e low is =
    let at : (r : ℕ) (d : Buffer StampedEntry) → r < 65 → get_or rings r d ≡ empty_ring = λ r d k. rw is (get_or-replicate n r empty_ring d (omega arith)) in
    record {
      merges = rw is (merged_fresh n);
      count = rw is (length-replicate n empty_ring ∙ e);
      rising = tt;
      below = tt;
      room = λ r d k. rw (at r d k) refl;
      sizes = λ r d k. rw (at r d k) (omega arith);
      each = λ r d k. rw (at r d k) refl;
      bound = low;
    }
