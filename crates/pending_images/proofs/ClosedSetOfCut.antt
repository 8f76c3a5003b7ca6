-- What a cut gives is what a closed set gives.
use Rattle.std.proofs.Common.{◌≡◌, ◌≢◌, ℕ, zero, suc, ◌-◌, ◌<◌, Bool, true, false, List, [], ◌∷◌, take, refl, ap, sym, ◌∙◌, Some, arith, inl, inr, ap₂, ne_eqb, eq-eqb}
use Rattle.std.proofs.lemmas.Bool.Decides.{eqb_tells}
use Rattle.persist_buffer.specs.declared.entry.PendingEntry.{PendingEntry}
use Rattle.persist_buffer.specs.declared.entry.PendingEntry.TheVariants.{Write, Marker}
use Rattle.lines_layout.specs.Lines.{line_of}
use Rattle.pending_images.specs.Candidates.{marker_at}
use Rattle.pending_images.specs.ClosedSets.{flagged}
use Rattle.pending_images.proofs.ClosedSetsByEntry.{NoneIsLeft, NoneWaits}
use Rattle.pending_images.specs.Cuts.{IsCut, image_of, written}
use Rattle.persist_buffer.specs.Listings.{LinesBelow, writes_on}
use Rattle.pending_images.proofs.CountsBeforeMarkers.{one, before_more, before_past, markers_write, markers_more}
use Rattle.pending_images.proofs.CutOfRun.{with_one, image_of-write, image_of-marker}

-- one fewer of the line of a word
abbrev pub less_one : ℕ → (ℕ → ℕ) → ℕ → ℕ
less_one word count line = count line - one line word

-- no write is persisted
pub image_of-zero : (lines : ℕ) (count : ℕ → ℕ) (es : List PendingEntry) (persisted : List ℕ) → ((line : ℕ) → count line ≡ 0) → image_of lines count es persisted ≡ persisted
image_of-zero zero count es persisted none = refl
image_of-zero (suc line) count es persisted none =
    ap₂ (λ n xs. written (take n (writes_on line es)) xs) (none line) (image_of-zero line count es persisted none)

-- the first write of a line of which none is persisted
pub image_of-skip : (lines : ℕ) (count : ℕ → ℕ) (word value : ℕ) (es : List PendingEntry) (persisted : List ℕ) → count (line_of word) ≡ 0 → image_of lines count (Write word value ∷ es) persisted ≡ image_of lines count es persisted
image_of-skip zero count word value es persisted none = refl
image_of-skip (suc line) count word value es persisted none =
    let rest = image_of-skip line count word value es persisted none in
    elim (eqb_tells (line_of word) line) [
      | inl h ↦
          let n : count line ≡ 0 = ap count (sym h.1) ∙ none in
          rw (n, rest) refl
      | inr h ↦ rw (h.0, rest) refl
    ]

-- what a set of flags is to a cut
pub record Chosen (k : ℕ) (count : ℕ → ℕ) (es : List PendingEntry) : Type 0 where
  pub flags : List Bool
  pub closed : NoneIsLeft es flags
  pub waits : (word value : ℕ) → count (line_of word) ≡ 0 → ((j : ℕ) → j < k → marker_at j es ≢ Some (Marker (line_of word))) → NoneWaits (Write word value) es flags
  pub gives : (lines : ℕ) (persisted : List ℕ) → LinesBelow lines es → written (flagged es flags) persisted ≡ image_of lines count es persisted

pub one_same : (word : ℕ) → one (line_of word) word ≡ 1
one_same word = rw (eq-eqb _ _ refl) refl

pub chosen-skip : (k : ℕ) (count : ℕ → ℕ) (word value : ℕ) (es : List PendingEntry) → count (line_of word) ≡ 0 → IsCut k count (Write word value ∷ es) → IsCut k count es
chosen-skip k count word value es none cut = record {
  few = (let f = cut.few in let m = markers_write word value es in omega (arith, f, m));
  inside = λ line. elim (eqb_tells (line_of word) line) [
    | inl h ↦ (let n : count line ≡ 0 = ap count (sym h.1) ∙ none in omega (arith, n))
    | inr h ↦ (let i = cut.inside line in let a = before_more line k word value es in let o : one line word ≡ 0 = rw h.0 refl in omega (arith, i, a, o))
  ];
  settled = λ j line lt is. (let i = cut.settled j line lt is in let a = before_more line j word value es in omega (arith, i, a));
}

pub cut-take : (k : ℕ) (count : ℕ → ℕ) (word value : ℕ) (es : List PendingEntry) → IsCut k count (Write word value ∷ es) → IsCut k (less_one word count) es
cut-take k count word value es cut = record {
  few = (let f = cut.few in let m = markers_write word value es in omega (arith, f, m));
  inside = λ line. (let i = cut.inside line in let a = before_more line k word value es in omega (arith, i, a));
  settled = λ j line lt is. (let i = cut.settled j line lt is in let a = before_more line j word value es in omega (arith, i, a));
}

pub cut-passed : (k : ℕ) (count : ℕ → ℕ) (other : ℕ) (es : List PendingEntry) → IsCut (suc k) count (Marker other ∷ es) → IsCut k count es
cut-passed k count other es cut = record {
  few = (let i = cut.few in let m = markers_more other es in omega (arith, i, m));
  inside = λ line. (let i = cut.inside line in let a = before_past line k other es in omega (arith, i, a));
  settled = λ j line lt is. (let i = cut.settled (suc j) line (omega arith) is in let a = before_past line j other es in omega (arith, i, a));
}

pub less_back : (word : ℕ) (count : ℕ → ℕ) (n : ℕ) → count (line_of word) ≡ suc n → (line : ℕ) → with_one word (less_one word count) line ≡ count line
less_back word count n some line =
    elim (eqb_tells (line_of word) line) [
      | inl h ↦
          let o : one line word ≡ 1 = rw h.0 refl in
          let s : count line ≡ suc n = ap count (sym h.1) ∙ some in
          omega (arith, o, s)
      | inr h ↦ (let o : one line word ≡ 0 = rw h.0 refl in omega (arith, o))
    ]

chosen-write : (word value : ℕ) (es : List PendingEntry) (k : ℕ) (count : ℕ → ℕ) (n : ℕ) → count (line_of word) ≡ n → IsCut k count (Write word value ∷ es) → ((c : ℕ → ℕ) → IsCut k c es → Chosen k c es) → Chosen k count (Write word value ∷ es)
chosen-write word value es k count zero none cut chosen_rest =
    let rest = chosen_rest count (chosen-skip k count word value es none cut) in
    record {
      flags = false ∷ rest.flags;
      closed = (rest.waits word value none (λ j lt is. let i = cut.settled j (line_of word) lt is in let a = before_more (line_of word) j word value es in let o = one_same word in absurd (omega (arith, i, a, o, none))), rest.closed);
      waits = rest.waits;
      gives = λ lines persisted below. rest.gives lines persisted below.1 ∙ sym (image_of-skip lines count word value es persisted none);
    }
chosen-write word value es k count (suc n) some cut chosen_rest =
    let rest = chosen_rest (less_one word count) (cut-take k count word value es cut) in
    record {
      flags = true ∷ rest.flags;
      closed = rest.closed;
      waits = λ x v none unmarked. (
        ne_eqb _ _ (λ e. let c = ap count e in absurd (omega (arith, c, some, none))),
        rest.waits x v (omega (arith, none)) unmarked,
      );
      gives = λ lines persisted below.
          let back : with_one word (less_one word count) ≡ count = λ i line. less_back word count n some line i in
          rest.gives lines _ below.1
          ∙ sym (image_of-write (less_one word count) word value [] es tt lines persisted below.0)
          ∙ ap (λ f. image_of lines f (Write word value ∷ es) persisted) back;
    }

-- each cut is a closed set
pub chosen : (es : List PendingEntry) (k : ℕ) (count : ℕ → ℕ) → IsCut k count es → Chosen k count es
chosen [] k count cut = record {
  flags = [];
  closed = tt;
  waits = λ word value none unmarked. tt;
  gives = λ lines persisted below. sym (image_of-zero lines count [] persisted (λ line. let i = cut.inside line in omega (arith, i)));
}
chosen (Write word value ∷ es) k count cut = chosen-write word value es k count (count (line_of word)) refl cut (chosen es k)
chosen (Marker other ∷ es) zero count cut = record {
  flags = [];
  closed = tt;
  waits = λ word value none unmarked. tt;
  gives = λ lines persisted below. sym (image_of-zero lines count (Marker other ∷ es) persisted (λ line. let i = cut.inside line in omega (arith, i)));
}
chosen (Marker other ∷ es) (suc k) count cut =
    let rest = chosen es k count (cut-passed k count other es cut) in
    record {
      flags = true ∷ rest.flags;
      closed = rest.closed;
      waits = λ word value none unmarked. (
        ne_eqb _ _ (λ e. unmarked 0 (omega arith) (ap (λ (l : ℕ). Some (Marker l)) (sym e))),
        rest.waits word value none (λ j lt is. unmarked (suc j) (omega arith) is),
      );
      gives = λ lines persisted below. rest.gives lines persisted below ∙ sym (image_of-marker count other [] es lines persisted);
    }
