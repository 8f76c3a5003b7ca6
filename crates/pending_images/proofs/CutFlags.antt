-- The set of a cut: it is closed, leaves what the cut leaves, and holds as much of each kind as the cut says.
use Rattle.std.proofs.Common.{◌≡◌, ◌≢◌, ℕ, zero, suc, ◌-◌, ◌<◌, ◌≤◌, Bool, true, false, List, [], ◌∷◌, length, refl, ap, sym, subst, ◌∙◌, Some, arith, inl, inr, ne_eqb, length-set, get_or-set_same, get_or-set_other}
use Rattle.std.specs.Prelude.{count_by, nat_lt, slice_index, slice_set}
use Rattle.std.proofs.lemmas.Bool.Decides.{eqb_tells, nat_tests}
use Rattle.lines_layout.specs.Lines.{line_of, max_lines}
use Rattle.persist_buffer.specs.declared.entry.PendingEntry.{PendingEntry}
use Rattle.persist_buffer.specs.declared.entry.PendingEntry.TheVariants.{Write, Marker}
use Rattle.persist_buffer.specs.Memories.{is_write_on}
use Rattle.persist_buffer.specs.Listings.{LinesBelow}
use Rattle.pending_images.specs.Candidates.{markers, marker_at}
use Rattle.pending_images.specs.LeastCuts.{cut_flags}
use Rattle.pending_images.specs.ClosedSets.{flagged}
use Rattle.pending_images.specs.Cuts.{IsCut, image_of, written}
use Rattle.pending_images.proofs.ClosedSetsByEntry.{NoneIsLeft, NoneWaits}
use Rattle.pending_images.proofs.CountsBeforeMarkers.{one, before_more, count_by-cons, markers_more}
use Rattle.pending_images.proofs.CutOfRun.{image_of-write, image_of-marker, with_one}
use Rattle.pending_images.proofs.ClosedSetOfCut.{chosen-skip, cut-passed, cut-take, image_of-skip, image_of-zero, less_back, less_one, one_same}

-- what flags are to a cut
pub record IsChosen (k : ℕ) (counts : List ℕ) (es : List PendingEntry) (flags : List Bool) : Type 0 where
  pub closed : NoneIsLeft es flags
  pub waits : (word value : ℕ) → slice_index counts (line_of word) ≡ 0 → ((j : ℕ) → j < k → marker_at j es ≢ Some (Marker (line_of word))) → NoneWaits (Write word value) es flags
  pub gives : (lines : ℕ) (persisted : List ℕ) → LinesBelow lines es → written (flagged es flags) persisted ≡ image_of lines (slice_index counts) es persisted
  pub taken : markers (flagged es flags) ≡ k
  pub writes : (line : ℕ) → count_by (is_write_on line) (flagged es flags) ≡ slice_index counts line
  pub size : length flags ≤ length es

-- one fewer of a line
pub set_less : (counts : List ℕ) (word : ℕ) → line_of word < length counts → (line : ℕ) → slice_index (slice_set counts (line_of word) (slice_index counts (line_of word) - 1)) line ≡ less_one word (slice_index counts) line
set_less counts word inside line =
    elim (eqb_tells (line_of word) line) [
      | inl h ↦
          let o : one line word ≡ 1 = rw h.0 refl in
          let a = get_or-set_same counts (line_of word) (slice_index counts (line_of word) - 1) 0 inside in
          let b = ap (λ (l : ℕ). slice_index (slice_set counts (line_of word) (slice_index counts (line_of word) - 1)) l) h.1 in
          let c = ap (λ (l : ℕ). slice_index counts l) h.1 in
          omega (arith, a, b, c, o)
      | inr h ↦
          let o : one line word ≡ 0 = rw h.0 refl in
          let a = get_or-set_other counts (line_of word) line (slice_index counts (line_of word) - 1) 0 (λ e. h.1 (sym e)) in
          omega (arith, a, o)
    ]

nothing : (k : ℕ) (counts : List ℕ) (es : List PendingEntry) → k ≡ 0 → ((line : ℕ) → slice_index counts line ≡ 0) → flagged es [] ≡ [] → NoneIsLeft es [] → ((word value : ℕ) → NoneWaits (Write word value) es []) → IsChosen k counts es []
nothing k counts es none zeros empty closed waits = record {
  closed = closed;
  waits = λ word value z unmarked. waits word value;
  gives = λ lines persisted below. ap (λ (fs : List PendingEntry). written fs persisted) empty ∙ sym (image_of-zero lines (slice_index counts) es persisted zeros);
  taken = ap markers empty ∙ sym none;
  writes = λ line. ap (count_by (is_write_on line)) empty ∙ sym (zeros line);
  size = omega arith;
}

skipped : (k : ℕ) (counts : List ℕ) (word value : ℕ) (es : List PendingEntry) (flags : List Bool) → slice_index counts (line_of word) ≡ 0 → IsCut k (slice_index counts) (Write word value ∷ es) → IsChosen k counts es flags → IsChosen k counts (Write word value ∷ es) (false ∷ flags)
skipped k counts word value es flags none cut rest = record {
  closed = (rest.waits word value none (λ j lt is. let i = cut.settled j (line_of word) lt is in let a = before_more (line_of word) j word value es in let o = one_same word in absurd (omega (arith, i, a, o, none))), rest.closed);
  waits = rest.waits;
  gives = λ lines persisted below. rest.gives lines persisted below.1 ∙ sym (image_of-skip lines (slice_index counts) word value es persisted none);
  taken = rest.taken;
  writes = rest.writes;
  size = (let s = rest.size in omega (arith, s));
}

taken : (k : ℕ) (counts fewer : List ℕ) (word value : ℕ) (es : List PendingEntry) (flags : List Bool) (n : ℕ) → slice_index counts (line_of word) ≡ suc n
    → ((line : ℕ) → slice_index fewer line ≡ less_one word (slice_index counts) line) → IsChosen k fewer es flags → IsChosen k counts (Write word value ∷ es) (true ∷ flags)
taken k counts fewer word value es flags n some less rest = record {
  closed = rest.closed;
  waits = λ x v none unmarked. (
    ne_eqb _ _ (λ e. let c = ap (slice_index counts) e in absurd (omega (arith, c, some, none))),
    rest.waits x v (let l = less (line_of x) in omega (arith, none, l)) unmarked,
  );
  gives = λ lines persisted below.
      let same : slice_index fewer ≡ less_one word (slice_index counts) = λ i line. less line i in
      let back : with_one word (less_one word (slice_index counts)) ≡ slice_index counts = λ i line. less_back word (slice_index counts) n some line i in
      rest.gives lines _ below.1
      ∙ ap (λ f. image_of lines f es (slice_set persisted word value)) same
      ∙ sym (image_of-write (less_one word (slice_index counts)) word value [] es tt lines persisted below.0)
      ∙ ap (λ f. image_of lines f (Write word value ∷ es) persisted) back;
  taken = rest.taken;
  writes = λ line.
      let a = count_by-cons (is_write_on line) (Write word value) (flagged es flags) in
      let b = rest.writes line in
      let c = less line in
      let d = less_back word (slice_index counts) n some line in
      omega (arith, a, b, c, d);
  size = (let s = rest.size in omega (arith, s));
}

cut_flags_write : (word value : ℕ) (es : List PendingEntry) (k : ℕ) (counts : List ℕ) → length counts ≡ max_lines → LinesBelow max_lines (Write word value ∷ es) → IsCut k (slice_index counts) (Write word value ∷ es)
    → ((c : List ℕ) → length c ≡ max_lines → IsCut k (slice_index c) es → IsChosen k c es (cut_flags k c es))
    → (n : ℕ) → slice_index counts (line_of word) ≡ n → IsChosen k counts (Write word value ∷ es) (cut_flags k counts (Write word value ∷ es))
cut_flags_write word value es k counts size below cut rest_of zero none =
    let test : nat_lt 0 (slice_index counts (line_of word)) ≡ false = rw none refl in
    let flags : cut_flags k counts (Write word value ∷ es) ≡ false ∷ cut_flags k counts es = rw test refl in
    subst (IsChosen k counts (Write word value ∷ es)) (sym flags)
    (skipped k counts word value es (cut_flags k counts es) none cut (rest_of counts size (chosen-skip k (slice_index counts) word value es none cut)))
cut_flags_write word value es k counts size below cut rest_of (suc n) some =
    let some_left : 0 < slice_index counts (line_of word) = omega (arith, some) in
    let test : nat_lt 0 (slice_index counts (line_of word)) ≡ true = grind (arith, nat_tests, some_left) in
    let fewer : List ℕ = slice_set counts (line_of word) (slice_index counts (line_of word) - 1) in
    let flags : cut_flags k counts (Write word value ∷ es) ≡ true ∷ cut_flags k fewer es = rw test refl in
    let less = set_less counts word (let b = below.0 in omega (arith, b, size)) in
    let same : slice_index fewer ≡ less_one word (slice_index counts) = λ i line. less line i in
    let rest = rest_of fewer (length-set counts (line_of word) (slice_index counts (line_of word) - 1) ∙ size)
    (subst (λ (f : ℕ → ℕ). IsCut k f es) (sym same) (cut-take k (slice_index counts) word value es cut)) in
    subst (IsChosen k counts (Write word value ∷ es)) (sym flags) (taken k counts fewer word value es (cut_flags k fewer es) n some less rest)

-- the set of a cut
pub cut_flags_are : (es : List PendingEntry) (k : ℕ) (counts : List ℕ) → length counts ≡ max_lines → LinesBelow max_lines es → IsCut k (slice_index counts) es → IsChosen k counts es (cut_flags k counts es)
cut_flags_are [] k counts size below cut =
    nothing k counts [] (let f = cut.few in omega (arith, f)) (λ line. let i = cut.inside line in omega (arith, i)) refl tt (λ word value. tt)
cut_flags_are (Write word value ∷ es) k counts size below cut =
    cut_flags_write word value es k counts size below cut (λ c s cut_of. cut_flags_are es k c s below.1 cut_of) (slice_index counts (line_of word)) refl
cut_flags_are (Marker other ∷ es) zero counts size below cut =
    nothing zero counts (Marker other ∷ es) refl (λ line. let i = cut.inside line in omega (arith, i)) refl tt (λ word value. tt)
cut_flags_are (Marker other ∷ es) (suc k) counts size below cut =
    let rest = cut_flags_are es k counts size below (cut-passed k (slice_index counts) other es cut) in
    record {
      closed = rest.closed;
      waits = λ word value none unmarked. (
        ne_eqb _ _ (λ e. unmarked 0 (omega arith) (ap (λ (l : ℕ). Some (Marker l)) (sym e))),
        rest.waits word value none (λ j lt is. unmarked (suc j) (omega (arith, lt)) is),
      );
      gives = λ lines persisted below. rest.gives lines persisted below ∙ sym (image_of-marker (slice_index counts) other [] es lines persisted);
      taken = (let a = markers_more other (flagged es (cut_flags k counts es)) in let t = rest.taken in omega (arith, a, t));
      writes = λ line. (let a = count_by-cons (is_write_on line) (Marker other) (flagged es (cut_flags k counts es)) in let w = rest.writes line in omega (arith, a, w));
      size = (let s = rest.size in omega (arith, s));
    }
