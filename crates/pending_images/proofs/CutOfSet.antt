-- A closed set is a cut: as many markers went as it holds, and as many writes of each line are persisted.
use Rattle.std.proofs.Common.{◌≡◌, ◌≢◌, ℕ, zero, suc, ◌<◌, ◌==◌, Bool, true, false, List, [], ◌∷◌, refl, ap, sym, subst, ◌∙◌, Some, arith, inl, inr, ne_eqb, eq-eqb, true≢false}
use Rattle.std.specs.Prelude.{count_by, slice_set}
use Rattle.std.proofs.lemmas.Bool.Decides.{eqb_tells}
use Rattle.lines_layout.specs.Lines.{line_of}
use Rattle.persist_buffer.specs.declared.entry.PendingEntry.{PendingEntry}
use Rattle.persist_buffer.specs.declared.entry.PendingEntry.TheVariants.{Write, Marker}
use Rattle.persist_buffer.specs.Memories.{is_write_on}
use Rattle.persist_buffer.specs.Listings.{LinesBelow}
use Rattle.pending_images.specs.Candidates.{markers, marker_at}
use Rattle.pending_images.specs.ClosedSets.{flagged}
use Rattle.pending_images.specs.Cuts.{IsCut, image_of, written}
use Rattle.pending_images.proofs.ClosedSetsByEntry.{NoneIsLeft, NoneWaits}
use Rattle.pending_images.proofs.CountsBeforeMarkers.{one, before_more, count_by-cons, markers_more, markers_write}
use Rattle.pending_images.proofs.CutOfRun.{cut-marker, cut-write, cut_none, image_of-marker, image_of-none, image_of-write, with_one}
use Rattle.pending_images.proofs.ClosedSetOfCut.{image_of-skip}

-- how many writes of a line are among entries
abbrev pub held : List PendingEntry → ℕ → ℕ
held taken line = count_by (is_write_on line) taken

-- what taken entries are to a cut
pub record IsHeld (es taken : List PendingEntry) : Type 0 where
  pub cut : IsCut (markers taken) (held taken) es
  pub gives : (lines : ℕ) (persisted : List ℕ) → LinesBelow lines es → written taken persisted ≡ image_of lines (held taken) es persisted

none_held : (es : List PendingEntry) → IsHeld es []
none_held es = record { cut = cut_none es; gives = λ lines persisted below. sym (image_of-none lines es persisted) }

-- behind a marker that stays nothing is taken
pub all_wait : (line : ℕ) (es : List PendingEntry) (flags : List Bool) → NoneWaits (Marker line) es flags → flagged es flags ≡ []
all_wait line [] flags h = refl
all_wait line (e ∷ es) [] h = refl
all_wait line (e ∷ es) (true ∷ flags) h = absurd (true≢false h.0)
all_wait line (e ∷ es) (false ∷ flags) h = all_wait line es flags h

-- behind a write that stays no other of its line is taken
pub none_of_line : (word value : ℕ) (es : List PendingEntry) (flags : List Bool) → NoneWaits (Write word value) es flags → held (flagged es flags) (line_of word) ≡ 0
none_of_line word value [] flags h = refl
none_of_line word value (e ∷ es) [] h = refl
none_of_line word value (Write x v ∷ es) (true ∷ flags) h =
    let rest = none_of_line word value es flags h.1 in
    let a = count_by-cons (is_write_on (line_of word)) (Write x v) (flagged es flags) in
    let apart : (line_of x == line_of word) ≡ false = ne_eqb _ _ (λ e. true≢false (sym (eq-eqb _ _ (sym e)) ∙ h.0)) in
    let o : one (line_of word) x ≡ 0 = rw apart refl in
    omega (arith, a, o, rest)
none_of_line word value (Marker l ∷ es) (true ∷ flags) h =
    let rest = none_of_line word value es flags h.1 in
    let a = count_by-cons (is_write_on (line_of word)) (Marker l) (flagged es flags) in
    omega (arith, a, rest)
none_of_line word value (e ∷ es) (false ∷ flags) h = none_of_line word value es flags h

-- nor a marker of its line
no_marker_of_line : (word value : ℕ) (es : List PendingEntry) (flags : List Bool) → NoneWaits (Write word value) es flags → NoneIsLeft es flags
    → (j : ℕ) → j < markers (flagged es flags) → marker_at j es ≢ Some (Marker (line_of word))
no_marker_of_line word value [] flags h closed j lt is = absurd (omega (arith, lt))
no_marker_of_line word value (e ∷ es) [] h closed j lt is = absurd (omega (arith, lt))
no_marker_of_line word value (Write x v ∷ es) (true ∷ flags) h closed j lt is = no_marker_of_line word value es flags h.1 closed j lt is
no_marker_of_line word value (Write x v ∷ es) (false ∷ flags) h closed j lt is = no_marker_of_line word value es flags h closed.1 j lt is
no_marker_of_line word value (Marker l ∷ es) (true ∷ flags) h closed zero lt is =
    let same : l ≡ line_of word = cc in
    true≢false (sym (eq-eqb _ _ (sym same)) ∙ h.0)
no_marker_of_line word value (Marker l ∷ es) (true ∷ flags) h closed (suc j) lt is =
    let a = markers_more l (flagged es flags) in
    no_marker_of_line word value es flags h.1 closed j (omega (arith, a, lt)) is
no_marker_of_line word value (Marker l ∷ es) (false ∷ flags) h closed j lt is =
    let none = ap markers (all_wait l es flags closed.0) in
    absurd (omega (arith, none, lt))

held_more : (word value : ℕ) (taken : List PendingEntry) → held (Write word value ∷ taken) ≡ with_one word (held taken)
held_more word value taken = λ i line. count_by-cons (is_write_on line) (Write word value) taken i

held_past : (other : ℕ) (taken : List PendingEntry) (line : ℕ) → held (Marker other ∷ taken) line ≡ held taken line
held_past other taken line = let a = count_by-cons (is_write_on line) (Marker other) taken in omega (arith, a)

write_held : (word value : ℕ) (es taken : List PendingEntry) → IsHeld es taken → IsHeld (Write word value ∷ es) (Write word value ∷ taken)
write_held word value es taken rest =
    let more = held_more word value taken in
    record {
      cut = subst (λ (f : ℕ → ℕ). IsCut (markers taken) f (Write word value ∷ es)) (sym more) (cut-write (markers taken) (held taken) word value [] es tt rest.cut);
      gives = λ lines persisted below.
          rest.gives lines (slice_set persisted word value) below.1
          ∙ sym (image_of-write (held taken) word value [] es tt lines persisted below.0)
          ∙ ap (λ (f : ℕ → ℕ). image_of lines f (Write word value ∷ es) persisted) (sym more);
    }

marker_held : (other : ℕ) (es taken : List PendingEntry) → IsHeld es taken → IsHeld (Marker other ∷ es) (Marker other ∷ taken)
marker_held other es taken rest =
    let same : held (Marker other ∷ taken) ≡ held taken = λ i line. held_past other taken line i in
    let more : suc (markers taken) ≡ markers (Marker other ∷ taken) = (let a = markers_more other taken in omega (arith, a)) in
    record {
      cut = subst (λ (f : ℕ → ℕ). IsCut (markers (Marker other ∷ taken)) f (Marker other ∷ es)) (sym same)
          (subst (λ (n : ℕ). IsCut n (held taken) (Marker other ∷ es)) more (cut-marker (markers taken) (held taken) other [] es tt rest.cut));
      gives = λ lines persisted below.
          rest.gives lines persisted below
          ∙ sym (image_of-marker (held taken) other [] es lines persisted)
          ∙ ap (λ (f : ℕ → ℕ). image_of lines f (Marker other ∷ es) persisted) (sym same);
    }

write_left : (word value : ℕ) (es taken : List PendingEntry) → held taken (line_of word) ≡ 0 → ((j : ℕ) → j < markers taken → marker_at j es ≢ Some (Marker (line_of word))) → IsHeld es taken
    → IsHeld (Write word value ∷ es) taken
write_left word value es taken none unmarked rest = record {
  cut = record {
    few = (let f = rest.cut.few in let m = markers_write word value es in omega (arith, f, m));
    inside = λ line. (let i = rest.cut.inside line in let a = before_more line (markers taken) word value es in omega (arith, i, a));
    settled = λ j line lt is.
        elim (eqb_tells (line_of word) line) [
          | inl h ↦ absurd (unmarked j lt (is ∙ ap (λ (l : ℕ). Some (Marker l)) (sym h.1)))
          | inr h ↦
              let o : one line word ≡ 0 = rw h.0 refl in
              let a = before_more line j word value es in
              let i = rest.cut.settled j line lt is in
              omega (arith, o, a, i)
        ];
  };
  gives = λ lines persisted below. rest.gives lines persisted below.1 ∙ sym (image_of-skip lines (held taken) word value es persisted none);
}

-- what a closed set takes is a cut
pub held_by_set : (es : List PendingEntry) (flags : List Bool) → NoneIsLeft es flags → IsHeld es (flagged es flags)
held_by_set [] flags h = none_held []
held_by_set (e ∷ es) [] h = none_held (e ∷ es)
held_by_set (Write word value ∷ es) (true ∷ flags) h = write_held word value es (flagged es flags) (held_by_set es flags h)
held_by_set (Write word value ∷ es) (false ∷ flags) h =
    write_left word value es (flagged es flags) (none_of_line word value es flags h.0) (no_marker_of_line word value es flags h.0 h.1) (held_by_set es flags h.1)
held_by_set (Marker other ∷ es) (true ∷ flags) h = marker_held other es (flagged es flags) (held_by_set es flags h)
held_by_set (Marker other ∷ es) (false ∷ flags) h = subst (λ (taken : List PendingEntry). IsHeld (Marker other ∷ es) taken) (sym (all_wait other es flags h.0)) (none_held (Marker other ∷ es))
