-- The fault that is told of fields of which there are many is that of the first that has one.
use Rattle.std.proofs.Common.{◌≡◌, ℕ, zero, suc, ◌+◌, ◌*◌, ◌^◌, ◌<◌, ◌≤◌, List, [], ◌∷◌, ◌++◌, length, map, take, drop, Ok, Err, refl, sym, ap, subst, ◌∙◌, append-nil, append_assoc, add-zero, arith, inl, inr}
use Rattle.std.specs.Prelude.{slice_set}
use Rattle.std.specs.Int.{Width, w32, w64, byte_len, from_le_bytes, to_le_bytes}
use Rattle.std.specs.List.{flat_map, AllByRecursion}
use Rattle.std.proofs.lemmas.List.{length-append, length-take, take-append-drop}
use Rattle.std.proofs.lemmas.List.Concat.{flat_map-cons}
use Rattle.outcomes.specs.Outcomes.{◌>>=◌, refused_as}
use Rattle.outcomes.proofs.PartsOfOutcomes.{bind_ok}
use Rattle.lines_layout.specs.Drafts.{LayoutDraft, IsDraft, end_line_of}
use Rattle.lines_layout.specs.Names.{Text}
use Rattle.lines_layout.specs.Layouts.{NamedLines, IsLayout}
use Rattle.isa.specs.declared.instr.Instr.{Instr}
use Rattle.isa.specs.declared.programs.Programs.{Programs}
use Rattle.codec.specs.declared.fault.CodeFault.{CodeFault}
use Rattle.codec.specs.Programs.{program_of}
use Rattle.codec.specs.Faults.{IsFault as IsFaultOfProgram}
use Rattle.loader.specs.declared.fault.ObjectFault.{ObjectFault}
use Rattle.loader.specs.declared.fault.ObjectFault.TheVariants.{Short, BadCode}
use Rattle.loader.specs.declared.fault.ProgramRole.{ProgramRole}
use Rattle.loader.specs.declared.fault.ProgramRole.TheVariants.{Main, Recovery}
use Rattle.loader.specs.Spelling.{HaveCodes, name_bytes, programs_bytes}
use Rattle.loader.specs.Reading.{Field, code_at, front_at, lines_at, name_at, names_at, number_at, processors_at, programs_at, values_at}
use Rattle.loader.specs.FileFaults.{IsFaultOfCode, IsFaultOfName, IsFaultOfProcessor}
use Rattle.loader.specs.FileFaults.IsFaultOfCode.{bad_code, cut_code, cut_size}
use Rattle.loader.specs.FileFaults.IsFaultOfProcessor.{in_main, in_recovery}
use Rattle.loader.proofs.FaultSteps.{bind_err, front_err, number_err, ok_no_err, refused_err}
use Rattle.loader.proofs.FieldFaults.{name_fault}
use Rattle.loader.proofs.ReadNamesAreSpelled.{draft_more, layout_more, name_takes, names_take}
use Rattle.codec.proofs.Numbers.{IsBytes, wide32}
use Rattle.loader.proofs.NumberFields.{front_takes, number_takes, ok_is}
use Rattle.loader.proofs.ReadFieldsAreSpelled.{Codes, code_takes, front_is, programs_take}
use Rattle.loader.proofs.ValueFields.{Sizes}

-- ---- the names

-- names of a line that are spelled behind those of a draft, and the fault of the next
pub record HasBadName (draft : LayoutDraft) (word n : ℕ) (bytes : List ℕ) (e : ObjectFault) : Type 0 where
  pub names : List Text
  pub rest : List ℕ
  pub few : length names < n
  pub parts : bytes ≡ flat_map name_bytes names ++ rest
  pub still : IsDraft (record { lines = draft.lines; line = draft.line ++ names })
  pub here : IsFaultOfName draft.lines (draft.line ++ names) (word + length names) rest e

abbrev IsBad : LayoutDraft → List Text → ℕ → List ℕ → ObjectFault → Type 0
IsBad draft names word rest e = IsDraft (record { lines = draft.lines; line = draft.line ++ names }) × IsFaultOfName draft.lines (draft.line ++ names) word rest e

pub names_fault : (draft : LayoutDraft) (word n : ℕ) (bytes : List ℕ) (e : ObjectFault) → IsBytes bytes → IsDraft draft → length draft.line + n ≤ 8 → names_at draft word n bytes ≡ Err e → HasBadName draft word n bytes e
unfolding names_at
names_fault draft word zero bytes e fits is room h = ok_no_err _ _ h
names_fault draft word (suc n) bytes e fits is room h =
    elim (bind_err (name_at draft word bytes) (λ more. names_at more.0 (word + 1) n more.1) e h) [
      | inl bad ↦
          let fault = name_fault draft word bytes e fits (omega (arith, room)) bad in
          let same : draft.line ≡ draft.line ++ [] = sym (append-nil draft.line) in
          let moved : IsBad draft [] word bytes e = subst (λ (line : List Text). IsDraft (record { lines = draft.lines; line = line }) × IsFaultOfName draft.lines line word bytes e) same (is, fault) in
          record { names = []; rest = bytes; few = omega arith; parts = refl; still = moved.0; here = rw add-zero moved.1 }
      | inr first ↦
          let one = name_takes draft word bytes first.0 fits first.1 in
          let longer : length first.0.0.line ≡ length draft.line + 1 = ap (λ (d : LayoutDraft). length d.line) one.2.same ∙ length-append draft.line (one.0 ∷ []) in
          let later = names_fault first.0.0 (word + 1) n first.0.1 e one.1.rest_fits (draft_more draft one.0 first.0.0 is one.2) (omega (arith, longer, room)) first.2 in
          let grouped : (draft.line ++ one.0 ∷ []) ++ later.names ≡ draft.line ++ one.0 ∷ later.names = append_assoc draft.line (one.0 ∷ []) later.names in
          let behind : IsDraft (record { lines = draft.lines; line = (draft.line ++ one.0 ∷ []) ++ later.names }) × IsFaultOfName draft.lines ((draft.line ++ one.0 ∷ []) ++ later.names) (word + 1 + length later.names) later.rest e =
          subst (λ (d : LayoutDraft). IsBad d later.names (word + 1 + length later.names) later.rest e) one.2.same (later.still, later.here) in
          let moved : IsDraft (record { lines = draft.lines; line = draft.line ++ one.0 ∷ later.names }) × IsFaultOfName draft.lines (draft.line ++ one.0 ∷ later.names) (word + 1 + length later.names) later.rest e =
          subst (λ (line : List Text). IsDraft (record { lines = draft.lines; line = line }) × IsFaultOfName draft.lines line (word + 1 + length later.names) later.rest e) grouped behind in
          let number : word + 1 + length later.names ≡ word + length (one.0 ∷ later.names) = omega arith in
          record {
            names = one.0 ∷ later.names;
            rest = later.rest;
            few = omega (arith, later.few);
            parts = one.1.parts ∙ ap (λ (t : List ℕ). name_bytes one.0 ++ t) later.parts ∙ sym (append_assoc (name_bytes one.0) (flat_map name_bytes later.names) later.rest) ∙ ap (λ (t : List ℕ). t ++ later.rest) (sym (flat_map-cons name_bytes one.0 later.names));
            still = moved.0;
            here = subst (λ (k : ℕ). IsFaultOfName draft.lines (draft.line ++ one.0 ∷ later.names) k later.rest e) number moved.1;
          }
    ]

-- lines that are spelled behind others, and the fault of a name of the next
pub record HasBadLine (lines : NamedLines) (shape bytes : List ℕ) (e : ObjectFault) : Type 0 where
  pub before : NamedLines
  pub line : List Text
  pub size : ℕ
  pub sizes : List ℕ
  pub rest : List ℕ
  pub shaped : shape ≡ map length before ++ size ∷ sizes
  pub room : length line < size
  pub parts : bytes ≡ flat_map (flat_map name_bytes) before ++ (flat_map name_bytes line ++ rest)
  pub layout : IsLayout ((lines ++ before) ++ line ∷ [])
  pub here : IsFaultOfName (lines ++ before) line (8 * length (lines ++ before) + length line) rest e

abbrev IsBadBehind : NamedLines → List Text → List ℕ → ObjectFault → Type 0
IsBadBehind lines line rest e = IsLayout (lines ++ line ∷ []) × IsFaultOfName lines line (8 * length lines + length line) rest e

pub lines_fault : (lines : NamedLines) (shape bytes : List ℕ) (e : ObjectFault) → IsBytes bytes → IsLayout lines → length lines + length shape ≤ 64 → Sizes shape
    → lines_at (record { lines = lines; line = [] }) shape bytes ≡ Err e → HasBadLine lines shape bytes e
unfolding lines_at
lines_fault lines [] bytes e fits layout few sizes h = ok_no_err _ _ h
lines_fault lines (count ∷ shape) bytes e fits layout few sizes h =
    let empty : LayoutDraft = record { lines = lines; line = [] } in
    let no_name : IsDraft empty = record { short = omega arith; free = refl } in
    elim (bind_err (names_at empty (8 * length lines) count bytes) (λ line. lines_at (end_line_of line.0) shape line.1) e h) [
      | inl bad ↦
          let b = names_fault empty (8 * length lines) count bytes e fits no_name (omega (arith, sizes.0)) bad in
          let moved : IsBadBehind (lines ++ []) b.names b.rest e = subst (λ (ls : NamedLines). IsBadBehind ls b.names b.rest e) (sym (append-nil lines)) (layout_more lines b.names layout (omega (arith, few)) b.still, b.here) in
          record { before = []; line = b.names; size = count; sizes = shape; rest = b.rest; shaped = refl; room = b.few; parts = b.parts; layout = moved.0; here = moved.1 }
      | inr first ↦
          let names = names_take empty (8 * length lines) count bytes first.0 fits no_name first.1 in
          let ended : end_line_of first.0.0 ≡ record { lines = lines ++ names.names ∷ []; line = [] } = ap (λ (d : LayoutDraft). end_line_of d) names.same in
          let draft : IsDraft (record { lines = lines; line = names.names }) = subst IsDraft names.same names.still in
          let next : lines_at (record { lines = lines ++ names.names ∷ []; line = [] }) shape first.0.1 ≡ Err e = sym (ap (λ (d : LayoutDraft). lines_at d shape first.0.1) ended) ∙ first.2 in
          let later = lines_fault (lines ++ names.names ∷ []) shape first.0.1 e names.takes.rest_fits (layout_more lines names.names layout (omega (arith, few)) draft) (omega (arith, few, length-append lines (names.names ∷ []))) sizes.1 next in
          let moved : IsBadBehind (lines ++ names.names ∷ later.before) later.line later.rest e =
          subst (λ (ls : NamedLines). IsBadBehind ls later.line later.rest e) (append_assoc lines (names.names ∷ []) later.before) (later.layout, later.here) in
          let text : List ℕ = flat_map name_bytes later.line ++ later.rest in
          record {
            before = names.names ∷ later.before;
            line = later.line;
            size = later.size;
            sizes = later.sizes;
            rest = later.rest;
            shaped = ap (λ (s : List ℕ). count ∷ s) later.shaped ∙ ap (λ (k : ℕ). k ∷ (map length later.before ++ later.size ∷ later.sizes)) (sym names.count);
            room = later.room;
            parts = names.takes.parts ∙ ap (λ (t : List ℕ). flat_map name_bytes names.names ++ t) later.parts ∙ sym (append_assoc (flat_map name_bytes names.names) (flat_map (flat_map name_bytes) later.before) text) ∙ ap (λ (t : List ℕ). t ++ text) (sym (flat_map-cons (flat_map name_bytes) names.names later.before));
            layout = moved.0;
            here = moved.1;
          }
    ]

-- ---- the values

number_front : (w : Width) (bytes : List ℕ) (x : ℕ × List ℕ) → number_at w bytes ≡ Ok x → (front : List ℕ) × (bytes ≡ front ++ x.1) × (length front ≡ byte_len w)
number_front w bytes x e =
    let b = bind_ok (front_at (byte_len w) bytes) (λ front. Ok (from_le_bytes w front.0, front.1)) x e in
    let f = front_takes (byte_len w) bytes b.0 b.1 in
    let after : drop (byte_len w) bytes ≡ x.1 = sym (ap (λ (p : List ℕ × List ℕ). p.1) f.1) ∙ ap (λ (p : ℕ × List ℕ). p.1) (ok_is (from_le_bytes w b.0.0, b.0.1) x b.2) in
    (take (byte_len w) bytes, sym (take-append-drop (byte_len w) bytes) ∙ ap (λ (t : List ℕ). take (byte_len w) bytes ++ t) after, omega (arith, length-take (byte_len w) bytes, f.0))

-- so many bytes for so many values
pub values_front : (words values bytes : List ℕ) (x : List ℕ × List ℕ) → values_at words values bytes ≡ Ok x → (front : List ℕ) × (bytes ≡ front ++ x.1) × (length front ≡ 8 * length words)
unfolding values_at
values_front [] values bytes x e = ([], ap (λ (p : List ℕ × List ℕ). p.1) (ok_is (values, bytes) x e), refl)
values_front (w ∷ words) values bytes x e =
    let n = bind_ok (number_at w64 bytes) (λ n. values_at words (slice_set values w n.0) n.1) x e in
    let first = number_front w64 bytes n.0 n.1 in
    let later = values_front words (slice_set values w n.0.0) n.0.1 x n.2 in
    (first.0 ++ later.0, first.1 ∙ ap (λ (t : List ℕ). first.0 ++ t) later.1 ∙ sym (append_assoc first.0 later.0 x.1), omega (arith, length-append first.0 later.0, first.2, later.2))

pub values_fault : (words values bytes : List ℕ) (e : ObjectFault) → values_at words values bytes ≡ Err e → (length bytes < 8 * length words) × (e ≡ Short)
unfolding values_at
values_fault [] values bytes e h = ok_no_err _ _ h
values_fault (w ∷ words) values bytes e h =
    elim (bind_err (number_at w64 bytes) (λ n. values_at words (slice_set values w n.0) n.1) e h) [
      | inl short ↦ let s = number_err w64 bytes e short in (omega (arith, s.0), s.1)
      | inr n ↦
          let first = number_front w64 bytes n.0 n.1 in
          let later = values_fault words (slice_set values w n.0.0) n.0.1 e n.2 in
          (omega (arith, later.0, first.2, ap (λ (t : List ℕ). length t) first.1, length-append first.0 n.0.1), later.1)
    ]

-- ---- the codes

abbrev pub CodeFaults : Type 0
CodeFaults = (shape bytes : List ℕ) (fault : CodeFault) → IsBytes bytes → program_of shape bytes ≡ Err fault → IsFaultOfProgram shape bytes fault

abbrev pub behind_front : List ℕ → ℕ → ProgramRole → List ℕ × List ℕ → Field (List Instr)
behind_front shape cpu role front = refused_as (BadCode cpu role) (program_of shape front.0) >>= λ program. Ok (program, front.1)

abbrev pub behind_size : List ℕ → ℕ → ProgramRole → ℕ × List ℕ → Field (List Instr)
behind_size shape cpu role n = front_at n.0 n.1 >>= behind_front shape cpu role

module _ (faults : CodeFaults) (codes : Codes) (shape : List ℕ) where
  pub code_fault : (cpu : ℕ) (role : ProgramRole) (bytes : List ℕ) (e : ObjectFault) → IsBytes bytes → code_at shape cpu role bytes ≡ Err e → IsFaultOfCode shape cpu role bytes e
  unfolding code_at
  code_fault cpu role bytes e fits h =
      elim (bind_err (number_at w32 bytes) (behind_size shape cpu role) e h) [
        | inl short ↦ let s = number_err w32 bytes e short in rw s.1 (cut_size s.0)
        | inr n ↦
            let first = number_takes w32 (2 ^ 32) wide32 bytes n.0.0 n.0.1 fits n.1 in
            elim (bind_err (front_at n.0.0 n.0.1) (behind_front shape cpu role) e n.2) [
              | inl short ↦ let s = front_err n.0.0 n.0.1 e short in rw s.1 (cut_code n.0.0 n.0.1 first.0.parts first.1 s.0)
              | inr front ↦
                  let second = front_is n.0.0 n.0.1 front.0 first.0.rest_fits front.1 in
                  elim (bind_err (refused_as (BadCode cpu role) (program_of shape front.0.0)) (λ program. Ok (program, front.0.1)) e front.2) [
                    | inl bad ↦
                        let r = refused_err (BadCode cpu role) (program_of shape front.0.0) e bad in
                        let parts : bytes ≡ to_le_bytes w32 (length front.0.0) ++ (front.0.0 ++ front.0.1) = first.0.parts ∙ ap (λ (t : List ℕ). to_le_bytes w32 n.0.0 ++ t) second.0.parts ∙ ap (λ (k : ℕ). to_le_bytes w32 k ++ (front.0.0 ++ front.0.1)) (sym second.1) in
                        rw r.2 (bad_code front.0.0 front.0.1 r.0 parts (omega (arith, second.1, first.1)) (faults shape front.0.0 r.0 second.2 r.1))
                    | inr program ↦ ok_no_err _ _ program.2
                  ]
            ]
      ]

  processor_fault : (cpu : ℕ) (bytes : List ℕ) (e : ObjectFault) → IsBytes bytes → programs_at shape cpu bytes ≡ Err e → IsFaultOfProcessor shape cpu bytes e
  unfolding programs_at
  processor_fault cpu bytes e fits h =
      elim (bind_err (code_at shape cpu Main bytes) (λ main. code_at shape cpu Recovery main.1 >>= λ recovery. Ok (record { main = main.0; recovery = recovery.0 }, recovery.1)) e h) [
        | inl bad ↦ in_main e (code_fault cpu Main bytes e fits bad)
        | inr main ↦
            let first = code_takes codes shape cpu Main bytes main.0 fits main.1 in
            elim (bind_err (code_at shape cpu Recovery main.0.1) (λ recovery. Ok (record { main = main.0.0; recovery = recovery.0 }, recovery.1)) e main.2) [
              | inl bad ↦ in_recovery main.0.0 main.0.1 e first.0.parts first.1 (code_fault cpu Recovery main.0.1 e first.0.rest_fits bad)
              | inr recovery ↦ ok_no_err _ _ recovery.2
            ]
      ]

  -- processors that are spelled, and the fault of the next, where the first has this number
  pub record HasBadProcessor (cpu n : ℕ) (bytes : List ℕ) (e : ObjectFault) : Type 0 where
    pub before : List Programs
    pub rest : List ℕ
    pub room : length before < n
    pub have : AllByRecursion (HaveCodes shape) before
    pub parts : bytes ≡ flat_map programs_bytes before ++ rest
    pub here : IsFaultOfProcessor shape (cpu + length before) rest e

  pub processors_fault : (cpu n : ℕ) (bytes : List ℕ) (e : ObjectFault) → IsBytes bytes → processors_at shape cpu n bytes ≡ Err e → HasBadProcessor cpu n bytes e
  unfolding processors_at
  processors_fault cpu zero bytes e fits h = ok_no_err _ _ h
  processors_fault cpu (suc n) bytes e fits h =
      elim (bind_err (programs_at shape cpu bytes) (λ first. processors_at shape (cpu + 1) n first.1 >>= λ others. Ok (first.0 ∷ others.0, others.1)) e h) [
        | inl bad ↦ record { before = []; rest = bytes; room = omega arith; have = tt; parts = refl; here = rw add-zero (processor_fault cpu bytes e fits bad) }
        | inr first ↦
            let one = programs_take codes shape cpu bytes first.0 fits first.1 in
            elim (bind_err (processors_at shape (cpu + 1) n first.0.1) (λ others. Ok (first.0.0 ∷ others.0, others.1)) e first.2) [
              | inl bad ↦
                  let later = processors_fault (cpu + 1) n first.0.1 e one.0.rest_fits bad in
                  let number : cpu + 1 + length later.before ≡ cpu + length (first.0.0 ∷ later.before) = omega arith in
                  record {
                    before = first.0.0 ∷ later.before;
                    rest = later.rest;
                    room = omega (arith, later.room);
                    have = (one.1, later.have);
                    parts = one.0.parts ∙ ap (λ (t : List ℕ). programs_bytes first.0.0 ++ t) later.parts ∙ sym (append_assoc (programs_bytes first.0.0) (flat_map programs_bytes later.before) later.rest) ∙ ap (λ (t : List ℕ). t ++ later.rest) (sym (flat_map-cons programs_bytes first.0.0 later.before));
                    here = subst (λ (k : ℕ). IsFaultOfProcessor shape k later.rest e) number later.here;
                  }
              | inr others ↦ ok_no_err _ _ others.2
            ]
      ]
