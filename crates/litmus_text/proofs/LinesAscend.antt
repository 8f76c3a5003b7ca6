-- The lines that are found ascend.
use Rattle.std.proofs.Common.{◌≡◌, ℕ, ◌+◌, ◌<◌, not, List, [], ◌∷◌, ◌++◌, bytes_eq, codes, refl, sym, ap, subst, ◌∙◌, append_assoc, append-nil, length, length-append, get_or, arith, inl, inr, ◌⊎◌}
use Rattle.std.specs.Prelude.{◌&&◌, All, AllPairs}
use Rattle.std.proofs.lemmas.Bool.{cases_Bool}
use Rattle.std.proofs.lemmas.List.{get_or_append_left}
use Rattle.std.proofs.lemmas.List.Concat.{flat_map-append}
use Rattle.std.proofs.lemmas.List.Elements.{All-append, All-cons, All-nil, All-weaker, All-get_or}
use Rattle.std.proofs.lemmas.List.Quantifiers.{all_pairs_push}
use Rattle.text_tokens.specs.Text.{lines_of, tokens_of}
use Rattle.text_tokens.specs.Cursors.{Token}
use Rattle.litmus_text.specs.Reading.{is_label_line}
use Rattle.litmus_text.specs.declared.found.Part.{Part}
use Rattle.litmus_text.specs.declared.found.Part.TheVariants as parts
use Rattle.litmus_text.specs.SourceLines.{Found, ProgramLines, all_lines, begun, ended, found_after, found_from, lines_found, nothing_found, program_row_found, programs_found, recovery_begun, row_found, tokens_found}

-- all lines that were found so far
abbrev lines_so_far : Found → List ℕ
lines_so_far f = all_lines f.processors ++ (f.main ++ f.lines)

-- what is not begun yet has no lines
abbrev IsQuiet : Part → List ℕ → List ℕ → Type 0
IsQuiet parts.Outside main lines = (main ≡ []) × (lines ≡ [])
IsQuiet parts.Main main lines = main ≡ []
IsQuiet parts.Recovery main lines = Unit {0}

-- those found so far ascend, and are below n
record Rises (n : ℕ) (f : Found) : Type 0 where
  pairs : AllPairs (λ (a b : ℕ). a < b) (lines_so_far f)
  below : All (λ (a : ℕ). a < n) (lines_so_far f)
  quiet : IsQuiet f.part f.main f.lines

-- the same lines
same_lines : (n : ℕ) (f g : Found) → lines_so_far f ≡ lines_so_far g → IsQuiet g.part g.main g.lines → Rises n f → Rises (n + 1) g
same_lines n f g e quiet r = record {
  pairs = subst (λ (xs : List ℕ). AllPairs (λ (a b : ℕ). a < b) xs) e r.pairs;
  below = subst (λ (xs : List ℕ). All (λ (a : ℕ). a < n + 1) xs) e (All-weaker (λ (a : ℕ). a < n) (λ (a : ℕ). a < n + 1) (λ a h. omega arith) (lines_so_far f) r.below);
  quiet = quiet;
}

-- line n too
more_lines : (n : ℕ) (f g : Found) → lines_so_far g ≡ lines_so_far f ++ n ∷ [] → IsQuiet g.part g.main g.lines → Rises n f → Rises (n + 1) g
more_lines n f g e quiet r =
    let longer : All (λ (a : ℕ). a < n + 1) (lines_so_far f) = All-weaker (λ (a : ℕ). a < n) (λ (a : ℕ). a < n + 1) (λ a h. omega arith) (lines_so_far f) r.below in
    let last : All (λ (a : ℕ). a < n + 1) (n ∷ []) = All-cons (λ (a : ℕ). a < n + 1) n [] (omega arith) (All-nil (λ (a : ℕ). a < n + 1)) in
    record {
      pairs = subst (λ (xs : List ℕ). AllPairs (λ (a b : ℕ). a < b) xs) (sym e) (all_pairs_push (λ (a b : ℕ). a < b) (lines_so_far f) n r.pairs (λ k d within. All-get_or (λ (a : ℕ). a < n) (lines_so_far f) k d within r.below));
      below = subst (λ (xs : List ℕ). All (λ (a : ℕ). a < n + 1) xs) (sym e) (All-append (λ (a : ℕ). a < n + 1) (lines_so_far f) (n ∷ []) longer last);
      quiet = quiet;
    }

-- a processor more
all_push : (ps : List ProgramLines) (p : ProgramLines) → all_lines (ps ++ p ∷ []) ≡ all_lines ps ++ (p.main ++ p.recovery)
all_push ps p = flat_map-append (λ q. q.main ++ q.recovery) ps (p ∷ []) ∙ ap (λ (xs : List ℕ). all_lines ps ++ xs) (append-nil (p.main ++ p.recovery))

programs_lines : (part : Part) (f : Found) → IsQuiet part f.main f.lines → (programs_found part f).main ++ (programs_found part f).recovery ≡ f.main ++ f.lines
programs_lines parts.Outside f quiet = rw (quiet.0, quiet.1) refl
programs_lines parts.Main f quiet = append-nil f.lines ∙ rw quiet refl
programs_lines parts.Recovery f quiet = refl

end_lines : (f : Found) → IsQuiet f.part f.main f.lines → lines_so_far f ≡ lines_so_far (ended f)
end_lines f quiet =
    sym (append-nil (all_lines (f.processors ++ programs_found f.part f ∷ []))
    ∙ (all_push f.processors (programs_found f.part f) ∙ ap (λ (xs : List ℕ). all_lines f.processors ++ xs) (programs_lines f.part f quiet)))

recover_lines : (f : Found) → f.main ≡ [] → lines_so_far f ≡ lines_so_far (recovery_begun f)
recover_lines f none = rw none (ap (λ (xs : List ℕ). all_lines f.processors ++ xs) (sym (append-nil f.lines)))

push_lines : (f : Found) (n : ℕ) → all_lines f.processors ++ (f.main ++ (f.lines ++ n ∷ [])) ≡ lines_so_far f ++ n ∷ []
push_lines f n = sym (append_assoc (all_lines f.processors) (f.main ++ f.lines) (n ∷ []) ∙ ap (λ (xs : List ℕ). all_lines f.processors ++ xs) (append_assoc f.main f.lines (n ∷ [])))

-- a line of a program keeps what is not begun
quiet_push : (part : Part) (main lines : List ℕ) (n : ℕ) → (part ≡ parts.Main) ⊎ (part ≡ parts.Recovery) → IsQuiet part main lines → IsQuiet part main (lines ++ n ∷ [])
quiet_push parts.Outside main lines n (inl is) quiet = absurd cc
quiet_push parts.Outside main lines n (inr is) quiet = absurd cc
quiet_push parts.Main main lines n is quiet = quiet
quiet_push parts.Recovery main lines n is quiet = tt

program_rises : (n : ℕ) (f : Found) (w : Token) (ts : List Token) → (f.part ≡ parts.Main) ⊎ (f.part ≡ parts.Recovery) → Rises n f → Rises (n + 1) (program_row_found n f w ts)
unfolding program_row_found
program_rises n f w ts is r =
    elim (cases_Bool (is_label_line ts)) [
      | inl colon ↦ rw colon (same_lines n f f refl r.quiet r)
      | inr colon ↦ elim (cases_Bool (bytes_eq w (codes "end"))) [
        | inl last ↦ rw (colon, last) (same_lines n f (ended f) (end_lines f r.quiet) (refl, refl) r)
        | inr other ↦ rw (colon, other) (more_lines n f (record f { lines = f.lines ++ n ∷ [] }) (push_lines f n) (quiet_push f.part f.main f.lines n is r.quiet) r)
      ]
    ]

outside_rises : (n : ℕ) (f : Found) (w : Token) (ts : List Token) → f.part ≡ parts.Outside → Rises n f → Rises (n + 1) (row_found parts.Outside n f w ts)
unfolding row_found
outside_rises n f w ts is r =
    let quiet : IsQuiet parts.Outside f.main f.lines = subst (λ (part : Part). IsQuiet part f.main f.lines) is r.quiet in
    elim (cases_Bool (bytes_eq w (codes "cpu"))) [
      | inl cpu ↦ rw cpu (same_lines n f (begun f) refl quiet.0 r)
      | inr other ↦ rw other (same_lines n f f refl r.quiet r)
    ]

main_rises : (n : ℕ) (f : Found) (w : Token) (ts : List Token) → f.part ≡ parts.Main → Rises n f → Rises (n + 1) (row_found parts.Main n f w ts)
unfolding row_found
main_rises n f w ts is r =
    let quiet : f.main ≡ [] = subst (λ (part : Part). IsQuiet part f.main f.lines) is r.quiet in
    elim (cases_Bool (not (is_label_line ts) && bytes_eq w (codes "recover"))) [
      | inl turns ↦ rw turns (same_lines n f (recovery_begun f) (recover_lines f quiet) tt r)
      | inr stays ↦ rw stays (program_rises n f w ts (inl is) r)
    ]

recovery_rises : (n : ℕ) (f : Found) (w : Token) (ts : List Token) → f.part ≡ parts.Recovery → Rises n f → Rises (n + 1) (row_found parts.Recovery n f w ts)
unfolding row_found
recovery_rises n f w ts is r = program_rises n f w ts (inr is) r

row_rises : (part : Part) (n : ℕ) (f : Found) (w : Token) (ts : List Token) → f.part ≡ part → Rises n f → Rises (n + 1) (row_found part n f w ts)
row_rises parts.Outside n f w ts is r = outside_rises n f w ts is r
row_rises parts.Main n f w ts is r = main_rises n f w ts is r
row_rises parts.Recovery n f w ts is r = recovery_rises n f w ts is r

tokens_rise : (n : ℕ) (f : Found) (ts : List Token) → Rises n f → Rises (n + 1) (tokens_found n f ts)
tokens_rise n f [] r = same_lines n f f refl r.quiet r
tokens_rise n f (w ∷ ts) r = row_rises f.part n f w ts refl r

from_rises : (lines : List (List ℕ)) (n : ℕ) (f : Found) → Rises n f → (m : ℕ) × Rises m (found_from n f lines)
unfolding found_from
from_rises [] n f r = (n, r)
from_rises (line ∷ lines) n f r = from_rises lines (n + 1) (found_after n f line) (tokens_rise n f (tokens_of line) r)

first_rises : Rises 1 nothing_found
first_rises = record { pairs = λ i j d before within. absurd (omega arith); below = All-nil (λ (a : ℕ). a < 1); quiet = (refl, refl) }

-- the first of two lists in order
pairs_front : (xs ys : List ℕ) → AllPairs (λ (a b : ℕ). a < b) (xs ++ ys) → AllPairs (λ (a b : ℕ). a < b) xs
pairs_front xs ys pairs i j d before within =
    let whole : j < length (xs ++ ys) = omega (arith, within, length-append xs ys) in
    let one = get_or_append_left xs ys d i (omega arith) in
    let two = get_or_append_left xs ys d j within in
    subst (λ (a : ℕ). a < get_or xs j d) one (subst (λ (b : ℕ). get_or (xs ++ ys) i d < b) two (pairs i j d before whole))

pub found_ascend : (text : List ℕ) → AllPairs (λ (a b : ℕ). a < b) (all_lines (lines_found text))
found_ascend text =
    let (m, r) = from_rises (lines_of text) 1 nothing_found first_rises in
    let f = found_from 1 nothing_found (lines_of text) in
    pairs_front (all_lines f.processors) (f.main ++ f.lines) r.pairs
