-- The names of the words: what is spelled so is read.
use Rattle.std.proofs.Common.{◌≡◌, ℕ, ◌+◌, ◌*◌, ◌≤◌, ◌<◌, Bool, true, false, ltb, not, List, [], ◌∷◌, ◌++◌, length, map, Result, Ok, refl, sym, ap, subst, ◌∙◌, append-nil, append_assoc, arith}
use Rattle.std.specs.Prelude.{◌||◌, ◌==◌}
use Rattle.std.specs.List.{flat_map, AllByRecursion}
use Rattle.std.proofs.lemmas.Bool.{lt-leb, le-ltb}
use Rattle.std.proofs.lemmas.Bool.Decides.{nat_tests}
use Rattle.std.proofs.lemmas.List.{length-append, length-map}
use Rattle.std.proofs.lemmas.List.Concat.{flat_map-cons}
use Rattle.std.proofs.lemmas.List.Elements.{All-from_recursion, recursion_from_All}
use Rattle.outcomes.specs.Outcomes.{◌>>=◌, refuse, refused_as}
use Rattle.outcomes.proofs.PartsOfOutcomes.{bind_ok}
use Rattle.lines_layout.specs.declared.fault.LayoutFault.{LayoutFault}
use Rattle.lines_layout.specs.declared.fault.LayoutFault.TheVariants as layouts
use Rattle.lines_layout.specs.Drafts.{LayoutDraft, add_name_of, end_line_of}
use Rattle.lines_layout.specs.Names.{Text, is_name}
use Rattle.lines_layout.specs.Shapes.{IsShape}
use Rattle.lines_layout.specs.Layouts.{NamedLines, IsLayout, is_taken, name_test, names_test}
use Rattle.lines_layout.proofs.LayoutsAreAccepted.{follows}
use Rattle.lines_layout.proofs.NameText.{short_name}
use Rattle.loader.specs.declared.version.Version.{Version}
use Rattle.loader.specs.declared.version.Version.TheVariants.{One, Two}
use Rattle.loader.specs.Versions.{CanName}
use Rattle.loader.specs.declared.fault.ObjectFault.TheVariants.{BadName}
use Rattle.loader.specs.Spelling.{name_bytes, names_bytes}
use Rattle.loader.specs.Reading.{Field, front_at, name_at, names_at, lines_at, layout_at}
use Rattle.loader.proofs.NumberFields.{front_again}
use Rattle.loader.proofs.ValueFields.{Sizes}
use Rattle.loader.proofs.NameFields.{after_name, bad_name}

abbrev pub draft_of : NamedLines → List Text → LayoutDraft
draft_of lines line = record { lines = lines; line = line }

size_fits : (name : Text) → is_name name ≡ true → (length name == 0 || ltb 16 (length name)) ≡ false
size_fits [] h = absurd cc
size_fits (c ∷ cs) h =
    let some : (length (c ∷ cs) == 0) ≡ false = grind (arith, nat_tests) in
    rw some (le-ltb 16 (length (c ∷ cs)) (short_name (c ∷ cs) h))

good_name : (good taken : Bool) → (refuse layouts.BadName (not good) >>= λ free. refuse layouts.DoubleName taken) ≡ Ok tt → good ≡ true
good_name true taken e = refl
good_name false taken e = absurd cc

pub name_again : (lines : NamedLines) (done : List Text) (name : Text) (word : ℕ) (rest : List ℕ) → length done < 8 → name_test lines done name ≡ Ok tt → name_at (draft_of lines done) word (length name ∷ (name ++ rest)) ≡ Ok (draft_of lines (done ++ name ∷ []), rest)
unfolding name_at
name_again lines done name word rest room free =
    let added : add_name_of (draft_of lines done) name ≡ Ok (draft_of lines (done ++ name ∷ [])) = rw (lt-leb 8 (length done) room, free) refl in
    ap (λ (b : Bool). refuse (BadName word) b >>= λ size. front_at (length name) (name ++ rest) >>= after_name (draft_of lines done) word) (size_fits name (good_name (is_name name) (is_taken lines done name) free))
    ∙ ap (λ (r : Field (List ℕ)). r >>= after_name (draft_of lines done) word) (front_again (length name) name rest refl)
    ∙ ap (λ (r : Result LayoutDraft LayoutFault). refused_as (bad_name word) r >>= λ more. Ok (more, rest)) added

pub names_again : (lines : NamedLines) (done names : List Text) (word : ℕ) (rest : List ℕ) → length done + length names ≤ 8 → names_test lines done names ≡ Ok tt
    → names_at (draft_of lines done) word (length names) (flat_map name_bytes names ++ rest) ≡ Ok (draft_of lines (done ++ names), rest)
unfolding names_at
names_again lines done [] word rest few free = ap (λ (line : List Text). Ok (draft_of lines line, rest)) (sym (append-nil done))
names_again lines done (name ∷ names) word rest few free =
    let first = bind_ok (name_test lines done name) (λ free. names_test lines (done ++ name ∷ []) names) tt free in
    let regrouped : flat_map name_bytes (name ∷ names) ++ rest ≡ name_bytes name ++ (flat_map name_bytes names ++ rest) = ap (λ (t : List ℕ). t ++ rest) (flat_map-cons name_bytes name names) ∙ append_assoc (name_bytes name) (flat_map name_bytes names) rest in
    ap (names_at (draft_of lines done) word (length (name ∷ names))) regrouped
    ∙ ap (λ (r : Field LayoutDraft). r >>= λ more. names_at more.0 (word + 1) (length names) more.1) (name_again lines done name word (flat_map name_bytes names ++ rest) (omega (arith, few)) first.1)
    ∙ names_again lines (done ++ name ∷ []) names (word + 1) rest (omega (arith, few, length-append done (name ∷ []))) first.2
    ∙ ap (λ (line : List Text). Ok (draft_of lines line, rest)) (append_assoc done (name ∷ []) names)

lines_again : (before lines : NamedLines) (rest : List ℕ) → IsLayout (before ++ lines) → lines_at (draft_of before []) (map length lines) (flat_map (flat_map name_bytes) lines ++ rest) ≡ Ok (draft_of (before ++ lines) [], rest)
unfolding lines_at
lines_again before [] rest layout = ap (λ (ls : NamedLines). Ok (draft_of ls [], rest)) (sym (append-nil before))
lines_again before (names ∷ lines) rest layout =
    let may = follows before names lines layout in
    let others : List ℕ = flat_map (flat_map name_bytes) lines ++ rest in
    let regrouped : flat_map (flat_map name_bytes) (names ∷ lines) ++ rest ≡ flat_map name_bytes names ++ others = ap (λ (t : List ℕ). t ++ rest) (flat_map-cons (flat_map name_bytes) names lines) ∙ append_assoc (flat_map name_bytes names) (flat_map (flat_map name_bytes) lines) rest in
    ap (lines_at (draft_of before []) (map length (names ∷ lines))) regrouped
    ∙ ap (λ (r : Field LayoutDraft). r >>= λ line. lines_at (end_line_of line.0) (map length lines) line.1) (names_again before [] names (8 * length before) others (omega (arith, may.few)) may.free)
    ∙ lines_again (before ++ names ∷ []) lines rest (subst (λ (ls : NamedLines). IsLayout ls) (sym (append_assoc before (names ∷ []) lines)) layout)
    ∙ ap (λ (ls : NamedLines). Ok (draft_of ls [], rest)) (append_assoc before (names ∷ []) lines)

pub layout_again : (v : Version) (layout : NamedLines) (rest : List ℕ) → CanName v layout → IsLayout layout → layout_at v (map length layout) (names_bytes v layout ++ rest) ≡ Ok (layout, rest)
unfolding layout_at
layout_again One layout rest names is = ap (λ (ls : NamedLines). Ok (ls, rest)) (sym names)
layout_again Two layout rest names is = ap (λ (r : Field LayoutDraft). r >>= λ draft. Ok (draft.0.lines, draft.1)) (lines_again [] layout rest is)

-- the lines of a layout have a shape
sizes_of : (lines : NamedLines) → AllByRecursion (λ line. length line ≤ 8) lines → Sizes (map length lines)
sizes_of [] h = tt
sizes_of (line ∷ lines) h = (h.0, sizes_of lines h.1)

pub shape_is : (layout : NamedLines) → IsLayout layout → IsShape (map length layout)
shape_is layout is = record {
  lines = omega (arith, is.few, length-map layout length);
  words = All-from_recursion (λ n. n ≤ 8) (map length layout) (sizes_of layout (recursion_from_All (λ line. length line ≤ 8) layout is.short));
}
