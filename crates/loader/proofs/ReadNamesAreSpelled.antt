-- The names of the words: what is read is spelled so.
use Rattle.std.proofs.Common.{◌≡◌, ℕ, zero, suc, ◌+◌, ◌*◌, ◌≤◌, ◌<◌, List, [], ◌∷◌, ◌++◌, length, map, Ok, refl, sym, ap, subst, ◌∙◌, append-nil, append_assoc, arith}
use Rattle.std.specs.List.{flat_map}
use Rattle.std.proofs.lemmas.Bool.{leb-false}
use Rattle.std.proofs.lemmas.List.{length-append}
use Rattle.std.proofs.lemmas.List.Concat.{flat_map-cons}
use Rattle.outcomes.proofs.PartsOfOutcomes.{bind_ok}
use Rattle.lines_layout.specs.Drafts.{LayoutDraft, IsDraft, end_line_of}
use Rattle.lines_layout.specs.Names.{Text}
use Rattle.lines_layout.specs.Layouts.{NamedLines, IsLayout}
use Rattle.lines_layout.proofs.DraftsAddNames.{one_more_test}
use Rattle.lines_layout.proofs.LayoutsAddLines.{kept_more}
use Rattle.loader.specs.Spelling.{name_bytes}
use Rattle.loader.specs.Reading.{byte_at, name_at, names_at, lines_at}
use Rattle.codec.proofs.Numbers.{IsBytes}
use Rattle.loader.proofs.NumberFields.{ok_is, Takes, Takes-then}
use Rattle.loader.proofs.ReadFieldsAreSpelled.{front_is, IsBytes-rest}
use Rattle.loader.proofs.NameFields.{HasNameToo, is_name}

pub byte_takes : (bytes : List ℕ) (x : ℕ × List ℕ) → IsBytes bytes → byte_at bytes ≡ Ok x → Takes bytes (x.0 ∷ []) x.1
byte_takes [] x fits e = absurd cc
byte_takes (b ∷ bytes) x fits e =
    subst (λ (y : ℕ × List ℕ). Takes (b ∷ bytes) (y.0 ∷ []) y.1) (ok_is (b, bytes) x e) (record { parts = refl; rest_fits = IsBytes-rest b bytes fits })

-- a draft with one name more is one
pub draft_more : (old : LayoutDraft) (name : Text) (new : LayoutDraft) → IsDraft old → HasNameToo old name new → IsDraft new
draft_more old name new draft more =
    let room = leb-false 8 (length old.line) more.room in
    let made : IsDraft (record { lines = old.lines; line = old.line ++ name ∷ [] }) = record {
      short = omega (arith, room, length-append old.line (name ∷ []));
      free = one_more_test old.lines [] old.line name ∙ rw draft.free more.free;
    } in
    subst IsDraft (sym more.same) made

pub name_takes : (draft : LayoutDraft) (word : ℕ) (bytes : List ℕ) (x : LayoutDraft × List ℕ) → IsBytes bytes → name_at draft word bytes ≡ Ok x → (name : Text) × Takes bytes (name_bytes name) x.1 × HasNameToo draft name x.0
name_takes draft word bytes x fits e =
    let n = is_name draft word bytes x e in
    let first = byte_takes bytes n.size fits n.size_is in
    let second = front_is n.size.0 n.size.1 n.name first.rest_fits n.name_is in
    let both : Takes bytes (n.size.0 ∷ n.name.0) n.name.1 = Takes-then bytes (n.size.0 ∷ []) n.size.1 n.name.0 n.name.1 first second.0 in
    let sized : Takes bytes (name_bytes n.name.0) n.name.1 = subst (λ (k : ℕ). Takes bytes (k ∷ n.name.0) n.name.1) (sym second.1) both in
    (n.name.0, subst (λ (rest : List ℕ). Takes bytes (name_bytes n.name.0) rest) n.rest sized, n.more)

-- names that were read behind those of a draft
pub record AreNames (draft : LayoutDraft) (n : ℕ) (bytes : List ℕ) (x : LayoutDraft × List ℕ) : Type 0 where
  pub names : List Text
  pub count : length names ≡ n
  pub takes : Takes bytes (flat_map name_bytes names) x.1
  pub same : x.0 ≡ record { lines = draft.lines; line = draft.line ++ names }
  pub still : IsDraft x.0

pub names_take : (draft : LayoutDraft) (word n : ℕ) (bytes : List ℕ) (x : LayoutDraft × List ℕ) → IsBytes bytes → IsDraft draft → names_at draft word n bytes ≡ Ok x → AreNames draft n bytes x
unfolding names_at
names_take draft word zero bytes x fits is e =
    let same = ok_is (draft, bytes) x e in
    let none : draft ≡ record { lines = draft.lines; line = draft.line ++ [] } = ap (λ (l : List Text). record { lines = draft.lines; line = l }) (sym (append-nil draft.line)) in
    subst (λ (y : LayoutDraft × List ℕ). AreNames draft 0 bytes y) same (record { names = []; count = refl; takes = record { parts = refl; rest_fits = fits }; same = none; still = is })
names_take draft word (suc n) bytes x fits is e =
    let first = bind_ok (name_at draft word bytes) (λ more. names_at more.0 (word + 1) n more.1) x e in
    let one = name_takes draft word bytes first.0 fits first.1 in
    let others = names_take first.0.0 (word + 1) n first.0.1 x one.1.rest_fits (draft_more draft one.0 first.0.0 is one.2) first.2 in
    let both = Takes-then bytes (name_bytes one.0) first.0.1 (flat_map name_bytes others.names) x.1 one.1 others.takes in
    let line : ◌≡◌ {A = LayoutDraft} (record { lines = first.0.0.lines; line = first.0.0.line ++ others.names }) (record { lines = draft.lines; line = draft.line ++ one.0 ∷ others.names }) = ap (λ (d : LayoutDraft). record { lines = d.lines; line = d.line ++ others.names }) one.2.same ∙ ap (λ (l : List Text). record { lines = draft.lines; line = l }) (append_assoc draft.line (one.0 ∷ []) others.names) in
    record {
      names = one.0 ∷ others.names;
      count = omega (arith, others.count);
      takes = rw flat_map-cons both;
      same = others.same ∙ line;
      still = others.still;
    }

-- lines that were read behind those of a draft
pub record AreLines (draft : LayoutDraft) (shape bytes : List ℕ) (x : LayoutDraft × List ℕ) : Type 0 where
  pub more : NamedLines
  pub sizes : map length more ≡ shape
  pub takes : Takes bytes (flat_map (flat_map name_bytes) more) x.1
  pub same : x.0.lines ≡ draft.lines ++ more
  pub layout : IsLayout x.0.lines

pub layout_more : (lines : NamedLines) (names : List Text) → IsLayout lines → length lines < 64 → IsDraft (record { lines = lines; line = names }) → IsLayout (lines ++ names ∷ [])
layout_more lines names layout room draft =
    (kept_more lines names (map length lines) (length names) (record { layout = layout; sizes = refl }) room refl draft.short draft.free).layout

pub lines_take : (lines : NamedLines) (shape bytes : List ℕ) (x : LayoutDraft × List ℕ) → IsBytes bytes → IsLayout lines → length lines + length shape ≤ 64
    → lines_at (record { lines = lines; line = [] }) shape bytes ≡ Ok x → AreLines (record { lines = lines; line = [] }) shape bytes x
unfolding lines_at
lines_take lines [] bytes x fits layout few e =
    let same = ok_is (record { lines = lines; line = [] }, bytes) x e in
    subst (λ (y : LayoutDraft × List ℕ). AreLines (record { lines = lines; line = [] }) [] bytes y) same
    (record { more = []; sizes = refl; takes = record { parts = refl; rest_fits = fits }; same = sym (append-nil lines); layout = layout })
lines_take lines (count ∷ shape) bytes x fits layout few e =
    let empty : LayoutDraft = record { lines = lines; line = [] } in
    let line = bind_ok (names_at empty (8 * length lines) count bytes) (λ line. lines_at (end_line_of line.0) shape line.1) x e in
    let no_name : IsDraft empty = record { short = omega arith; free = refl } in
    let names = names_take empty (8 * length lines) count bytes line.0 fits no_name line.1 in
    let ended : end_line_of line.0.0 ≡ record { lines = lines ++ names.names ∷ []; line = [] } = rw names.same refl in
    let draft : IsDraft (record { lines = lines; line = names.names }) = subst IsDraft names.same names.still in
    let next : lines_at (record { lines = lines ++ names.names ∷ []; line = [] }) shape line.0.1 ≡ Ok x = sym (ap (λ (d : LayoutDraft). lines_at d shape line.0.1) ended) ∙ line.2 in
    let others = lines_take (lines ++ names.names ∷ []) shape line.0.1 x names.takes.rest_fits (layout_more lines names.names layout (omega (arith, few)) draft) (omega (arith, few, length-append lines (names.names ∷ []))) next in
    let both = Takes-then bytes (flat_map name_bytes names.names) line.0.1 (flat_map (flat_map name_bytes) others.more) x.1 names.takes others.takes in
    record {
      more = names.names ∷ others.more;
      sizes = rw (names.count, others.sizes) refl;
      takes = rw flat_map-cons both;
      same = others.same ∙ append_assoc lines (names.names ∷ []) others.more;
      layout = others.layout;
    }
