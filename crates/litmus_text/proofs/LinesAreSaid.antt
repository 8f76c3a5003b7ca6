-- The lines that are found in a text say the instructions of what is read of it.
use Rattle.std.proofs.Common.{◌≡◌, ℕ, ◌+◌, ◌⊎◌, Bool, true, false, not, nat_le, Option, None, Some, Result, Ok, Err, List, [], ◌∷◌, ◌++◌, length, map, max, slice_set, bytes_eq, codes, refl, sym, ap, subst, ◌∙◌, append_assoc, length-append, arith, inl, inr}
use Rattle.std.specs.Prelude.{◌||◌, ◌&&◌, is_some}
use Rattle.std.proofs.lemmas.Bool.{cases_Bool}
use Rattle.std.proofs.lemmas.List.{length-map}
use Rattle.text_tokens.specs.Text.{lines_of, tokens_of, is_plain_line}
use Rattle.text_tokens.specs.Cursors.{Token, expected_at, end_at}
use Rattle.text_tokens.proofs.TestsThatPassed.{not_refused, same_ok, named, end_form}
use Rattle.outcomes.specs.Outcomes.{◌>>=◌, refuse}
use Rattle.outcomes.proofs.PartsOfOutcomes.{bind_ok}
use Rattle.lines_layout.specs.Names.{is_name}
use Rattle.isa.specs.declared.instr.Instr.{Instr}
use Rattle.isa.specs.declared.programs.Programs.{Programs}
use Rattle.isa.specs.Programs.{max_instructions}
use Rattle.isa.specs.Objects.{Object}
use Rattle.litmus_text.specs.declared.fault.LineFault.{LineFault}
use Rattle.litmus_text.specs.declared.fault.LineFault.TheVariants.{BadWord, BadLabel, TooLong, NotAscii}
use Rattle.litmus_text.specs.declared.draft.Stage.{Stage}
use Rattle.litmus_text.specs.declared.draft.Stage.TheVariants.{Opening, Data, Main, Recovery, Between}
use Rattle.litmus_text.specs.declared.program_line.ProgramLine.{ProgramLine}
use Rattle.litmus_text.specs.Labels.{line_instruction, place_of}
use Rattle.litmus_text.specs.Instructions.{is_mark_token, program_line_at, is_operation}
use Rattle.litmus_text.specs.Reading.{Draft, empty_draft, draft_after, tokens_after, row_after, program_row_after, recover_after, label_after, end_after, instruction_after, is_label_line, program_so_far, programs_so_far, lost_so_far}
use Rattle.litmus_text.specs.Relations.{InProgram, Line, Lines, Leads}
use Rattle.litmus_text.specs.Texts.{litmus_at_end, litmus_from, litmus_of, unless_lost, value_of}
use Rattle.litmus_text.specs.Relations.Line.{blank, first, cache_line, initial_value, processor, label, instruction, jump, recovery, processor_end}
use Rattle.litmus_text.proofs.LinesAreRead.{line_is_read, only_line}
use Rattle.litmus_text.specs.declared.found.Part.{Part}
use Rattle.litmus_text.specs.declared.found.Part.TheVariants as parts
use Rattle.litmus_text.specs.SourceLines.{Found, ProgramLines, begun, ended, found_after, found_from, lines_found, nothing_found, program_row_found, programs_found, recovery_begun, row_found, tokens_found}
use Rattle.litmus_text.specs.SaidLines.{AreLinesOf, AreLinesOfAll, AreLinesOfPrograms, SaysAt, SaysEach, instruction_counts, line_counts}

-- ---- what a line of a program leaves

label_leaves : (s t : Draft) (w : Token) (ts : List Token) → label_after s w ts ≡ Ok t → record s { labels = s.labels ++ (w, length s.lines) ∷ [] } ≡ t
unfolding label_after
label_leaves s t w ts e =
    let u : Draft = record s { labels = s.labels ++ (w, length s.lines) ∷ [] } in
    let rest : Result Draft LineFault = expected_at BadWord (codes ":") ts >>= λ colon. end_at BadWord colon.1 >>= λ end. Ok u in
    let mark = not_refused BadWord (is_mark_token w) (refuse BadLabel (not (is_name w) || is_some (place_of s.labels w)) >>= λ passed. rest) t e in
    let spelled = not_refused BadLabel (not (is_name w) || is_some (place_of s.labels w)) rest t mark.1 in
    let b = bind_ok (expected_at BadWord (codes ":") ts) (λ colon. end_at BadWord colon.1 >>= λ end. Ok u) t spelled.1 in
    let c = bind_ok (end_at BadWord b.0.1) (λ end. Ok u) t b.2 in
    same_ok u t c.2

abbrev recovered : Draft → Draft
recovered s = record s { stage = Recovery; main = program_so_far s; lines = []; labels = []; lost = lost_so_far s }

recover_leaves : (s t : Draft) (ts : List Token) → recover_after s ts ≡ Ok t → (ts ≡ []) × (recovered s ≡ t)
unfolding recover_after
recover_leaves s t ts e =
    let b = bind_ok (end_at BadWord ts) (λ end. Ok (recovered s)) t e in
    (end_form BadWord ts b.0 b.1, same_ok (recovered s) t b.2)

abbrev processor_ended : Draft → Draft
processor_ended s = record s { stage = Between; processors = s.processors ++ programs_so_far s.stage s ∷ []; main = []; lines = []; labels = []; lost = lost_so_far s }

end_leaves : (s t : Draft) (ts : List Token) → end_after s ts ≡ Ok t → (ts ≡ []) × (processor_ended s ≡ t)
unfolding end_after
end_leaves s t ts e =
    let b = bind_ok (end_at BadWord ts) (λ end. Ok (processor_ended s)) t e in
    (end_form BadWord ts b.0 b.1, same_ok (processor_ended s) t b.2)

-- a line of a program with what was read before it
abbrev with_line : Draft → ProgramLine → Draft
with_line s line = record s { lines = s.lines ++ line ∷ [] }

abbrev added : Draft → ProgramLine × List Token → Result Draft LineFault
added s i = end_at BadWord i.1 >>= λ end. Ok (with_line s i.0)

instruction_leaves : (n : ℕ) (s t : Draft) (w : Token) (ts : List Token) → instruction_after n s w ts ≡ Ok t → (x : ProgramLine) × (with_line s x ≡ t)
unfolding instruction_after
instruction_leaves n s t w ts e =
    let room = not_refused TooLong (nat_le max_instructions (length s.lines) && is_operation w) (program_line_at s.layout n w ts >>= added s) t e in
    let a = bind_ok (program_line_at s.layout n w ts) (added s) t room.1 in
    let c = bind_ok (end_at BadWord a.0.1) (λ end. Ok (with_line s a.0.0)) t a.2 in
    (a.0.0, same_ok (with_line s a.0.0) t c.2)

-- ---- what was found beside what was read

-- where a line is, at each stage
abbrev part_of : Stage → Part
part_of Opening = parts.Outside
part_of Data = parts.Outside
part_of Main = parts.Main
part_of Recovery = parts.Recovery
part_of Between = parts.Outside

module _ (all : List (List ℕ)) where
  -- what is said of the programs of the processor that goes on
  abbrev GoesOn : Stage → ℕ → List Instr → List ProgramLine → List ℕ → List ℕ → Type 0
  GoesOn Opening p main said main_lines lines = (lines ≡ []) × (said ≡ [])
  GoesOn Data p main said main_lines lines = (lines ≡ []) × (said ≡ [])
  GoesOn Main p main said main_lines lines = SaysEach all p Main 0 lines said
  GoesOn Recovery p main said main_lines lines = AreLinesOf all p Main main_lines main × SaysEach all p Recovery 0 lines said
  GoesOn Between p main said main_lines lines = (lines ≡ []) × (said ≡ [])

  record Agrees (s : Draft) (f : Found) : Type 0 where
    stage : Stage
    at_stage : s.stage ≡ stage
    in_part : f.part ≡ part_of stage
    before : AreLinesOfAll all 0 f.processors s.processors
    goes_on : GoesOn stage (length s.processors) s.main s.lines f.main f.lines

  -- a line of the text, and what was read before it
  record Here (n : ℕ) (s : Draft) (line : List ℕ) : Type 0 where
    front : List (List ℕ)
    others : List (List ℕ)
    parts_are : all ≡ front ++ line ∷ others
    number : n ≡ length front + 1
    may_come : Lines 1 empty_draft front s

  says_push : (p : ℕ) (stage : Stage) (i : ℕ) (ns : List ℕ) (xs : List ProgramLine) (place n : ℕ) (x : ProgramLine) → place ≡ i + length xs → SaysEach all p stage i ns xs → SaysAt all p stage place n x
      → SaysEach all p stage i (ns ++ n ∷ []) (xs ++ x ∷ [])
  says_push p stage i [] [] place n x e h says = let here : place ≡ i = omega arith in (subst (λ (q : ℕ). SaysAt all p stage q n x) here says, tt)
  says_push p stage i [] (y ∷ xs) place n x e h says = absurd h
  says_push p stage i (m ∷ ns) [] place n x e h says = absurd h
  says_push p stage i (m ∷ ns) (y ∷ xs) place n x e (here, h) says = (here, says_push p stage (i + 1) ns xs place n x (omega arith) h says)

  all_push : (p : ℕ) (ns : List ProgramLines) (vs : List Programs) (q : ℕ) (n : ProgramLines) (v : Programs) → q ≡ p + length vs → AreLinesOfAll all p ns vs → AreLinesOfPrograms all q n v
      → AreLinesOfAll all p (ns ++ n ∷ []) (vs ++ v ∷ [])
  all_push p [] [] q n v e h last = let here : q ≡ p = omega arith in (subst (λ (k : ℕ). AreLinesOfPrograms all k n v) here last, tt)
  all_push p [] (u ∷ vs) q n v e h last = absurd h
  all_push p (m ∷ ns) [] q n v e h last = absurd h
  all_push p (m ∷ ns) (u ∷ vs) q n v e (here, h) last = (here, all_push (p + 1) ns vs q n v (omega arith) h last)

  -- ---- a line of a program

  -- the lines of a program that ends here
  lines_of_program : (n : ℕ) (s : Draft) (line : List ℕ) (stage : Stage) (numbers : List ℕ) → Here n s line → s.stage ≡ stage → (tokens_of line ≡ codes "recover" ∷ []) ⊎ (tokens_of line ≡ codes "end" ∷ [])
      → SaysEach all (length s.processors) stage 0 numbers s.lines → AreLinesOf all (length s.processors) stage numbers (program_so_far s)
  lines_of_program n s line stage numbers here at_stage tokens each = record {
    before = here.front;
    last = line;
    others = here.others;
    parts = here.parts_are;
    last_tokens = tokens;
    read = s;
    may_come = here.may_come;
    of_processor = refl;
    in_program = at_stage;
    code_is = refl;
    each = each;
  }

  -- those of the processor that ends here
  lines_of_programs : (stage : Stage) (n : ℕ) (s : Draft) (f : Found) (line : List ℕ) → InProgram stage → Here n s line → s.stage ≡ stage → tokens_of line ≡ codes "end" ∷ []
      → GoesOn stage (length s.processors) s.main s.lines f.main f.lines → AreLinesOfPrograms all (length s.processors) (programs_found (part_of stage) f) (programs_so_far stage s)
  lines_of_programs Opening n s f line (inl is) here at_stage tokens goes = absurd cc
  lines_of_programs Opening n s f line (inr is) here at_stage tokens goes = absurd cc
  lines_of_programs Data n s f line (inl is) here at_stage tokens goes = absurd cc
  lines_of_programs Data n s f line (inr is) here at_stage tokens goes = absurd cc
  lines_of_programs Main n s f line is here at_stage tokens goes = (lines_of_program n s line Main f.lines here at_stage (inr tokens) goes, inr (refl, refl))
  lines_of_programs Recovery n s f line is here at_stage tokens (main, goes) = (main, inl (lines_of_program n s line Recovery f.lines here at_stage (inr tokens) goes))
  lines_of_programs Between n s f line (inl is) here at_stage tokens goes = absurd cc
  lines_of_programs Between n s f line (inr is) here at_stage tokens goes = absurd cc

  -- one instruction more
  goes_on_push : (stage : Stage) (p : ℕ) (main : List Instr) (said : List ProgramLine) (main_lines lines : List ℕ) (n : ℕ) (x : ProgramLine) → InProgram stage → GoesOn stage p main said main_lines lines
      → SaysAt all p stage (length said) n x → GoesOn stage p main (said ++ x ∷ []) main_lines (lines ++ n ∷ [])
  goes_on_push Opening p main said main_lines lines n x (inl is) goes says = absurd cc
  goes_on_push Opening p main said main_lines lines n x (inr is) goes says = absurd cc
  goes_on_push Data p main said main_lines lines n x (inl is) goes says = absurd cc
  goes_on_push Data p main said main_lines lines n x (inr is) goes says = absurd cc
  goes_on_push Main p main said main_lines lines n x is goes says = says_push p Main 0 lines said (length said) n x (omega arith) goes says
  goes_on_push Recovery p main said main_lines lines n x is (ended_main, goes) says = (ended_main, says_push p Recovery 0 lines said (length said) n x (omega arith) goes says)
  goes_on_push Between p main said main_lines lines n x (inl is) goes says = absurd cc
  goes_on_push Between p main said main_lines lines n x (inr is) goes says = absurd cc

  module _ (stage : Stage) (is : InProgram stage) (n : ℕ) (s t : Draft) (f : Found) (line : List ℕ) (w : Token) (ts : List Token)
      (here : Here n s line) (tokens : tokens_of line ≡ w ∷ ts) (leads : Leads n s line t) (at_stage : s.stage ≡ stage) (in_part : f.part ≡ part_of stage)
      (before : AreLinesOfAll all 0 f.processors s.processors) (goes : GoesOn stage (length s.processors) s.main s.lines f.main f.lines) where
    label_agrees : label_after s w ts ≡ Ok t → Agrees t f
    label_agrees e =
        let one : Agrees (record s { labels = s.labels ++ (w, length s.lines) ∷ [] }) f = record { stage = stage; at_stage = at_stage; in_part = in_part; before = before; goes_on = goes } in
        subst (λ (u : Draft). Agrees u f) (label_leaves s t w ts e) one

    end_agrees : bytes_eq w (codes "end") ≡ true → end_after s ts ≡ Ok t → Agrees t (ended f)
    end_agrees last e =
        let left = end_leaves s t ts e in
        let words : tokens_of line ≡ codes "end" ∷ [] = tokens ∙ (ap (λ (v : Token). v ∷ ts) (named w (codes "end") last) ∙ ap (λ (vs : List Token). codes "end" ∷ vs) left.0) in
        let programs = lines_of_programs stage n s f line is here at_stage words goes in
        let same : AreLinesOfPrograms all (length s.processors) (programs_found f.part f) (programs_so_far s.stage s) =
        subst (λ (part : Part). AreLinesOfPrograms all (length s.processors) (programs_found part f) (programs_so_far s.stage s)) (sym in_part)
        (subst (λ (st : Stage). AreLinesOfPrograms all (length s.processors) (programs_found (part_of stage) f) (programs_so_far st s)) (sym at_stage) programs) in
        let one : Agrees (processor_ended s) (ended f) = record {
          stage = Between;
          at_stage = refl;
          in_part = refl;
          before = all_push 0 f.processors s.processors (length s.processors) (programs_found f.part f) (programs_so_far s.stage s) (omega arith) before same;
          goes_on = (refl, refl);
        } in
        subst (λ (u : Draft). Agrees u (ended f)) left.1 one

    instruction_agrees : instruction_after n s w ts ≡ Ok t → Agrees t (record f { lines = f.lines ++ n ∷ [] })
    instruction_agrees e =
        let (x, is_more) = instruction_leaves n s t w ts e in
        let says : SaysAt all (length s.processors) stage (length s.lines) n x = record {
          before = here.front;
          line = line;
          others = here.others;
          parts = here.parts_are;
          number = here.number;
          read = s;
          may_come = here.may_come;
          of_processor = refl;
          in_program = at_stage;
          at_place = refl;
          says = subst (λ (u : Draft). Leads n s line u) (sym is_more) leads;
        } in
        let one : Agrees (with_line s x) (record f { lines = f.lines ++ n ∷ [] }) = record {
          stage = stage;
          at_stage = at_stage;
          in_part = in_part;
          before = before;
          goes_on = goes_on_push stage (length s.processors) s.main s.lines f.main f.lines n x is goes says;
        } in
        subst (λ (u : Draft). Agrees u (record f { lines = f.lines ++ n ∷ [] })) is_more one

    program_agrees : program_row_after n s w ts ≡ Ok t → Agrees t (program_row_found n f w ts)
    unfolding program_row_after program_row_found
    program_agrees e =
        elim (cases_Bool (is_label_line ts)) [
          | inl colon ↦ rw colon (label_agrees (rw colon at e))
          | inr colon ↦ elim (cases_Bool (bytes_eq w (codes "end"))) [
            | inl last ↦ rw (colon, last) (end_agrees last (rw (colon, last) at e))
            | inr other ↦ rw (colon, other) (instruction_agrees (rw (colon, other) at e))
          ]
        ]

  -- ---- a line

  recover_agrees : (n : ℕ) (s t : Draft) (f : Found) (line : List ℕ) (w : Token) (ts : List Token) → Here n s line → tokens_of line ≡ w ∷ ts → s.stage ≡ Main → AreLinesOfAll all 0 f.processors s.processors
      → SaysEach all (length s.processors) Main 0 f.lines s.lines → bytes_eq w (codes "recover") ≡ true → recover_after s ts ≡ Ok t → Agrees t (recovery_begun f)
  recover_agrees n s t f line w ts here tokens at_stage before goes turns e =
      let left = recover_leaves s t ts e in
      let words : tokens_of line ≡ codes "recover" ∷ [] = tokens ∙ (ap (λ (v : Token). v ∷ ts) (named w (codes "recover") turns) ∙ ap (λ (vs : List Token). codes "recover" ∷ vs) left.0) in
      let one : Agrees (recovered s) (recovery_begun f) = record {
        stage = Recovery;
        at_stage = refl;
        in_part = refl;
        before = before;
        goes_on = (lines_of_program n s line Main f.lines here at_stage (inl words) goes, tt);
      } in
      subst (λ (u : Draft). Agrees u (recovery_begun f)) left.1 one

  both : (a b : Bool) → (a && b) ≡ true → b ≡ true
  both true b h = h
  both false b h = absurd cc

  main_agrees : (n : ℕ) (s t : Draft) (f : Found) (line : List ℕ) (w : Token) (ts : List Token) → Here n s line → tokens_of line ≡ w ∷ ts → Leads n s line t → s.stage ≡ Main → f.part ≡ parts.Main
      → AreLinesOfAll all 0 f.processors s.processors → SaysEach all (length s.processors) Main 0 f.lines s.lines → row_after Main n s w ts ≡ Ok t → Agrees t (row_found parts.Main n f w ts)
  unfolding row_after row_found
  main_agrees n s t f line w ts here tokens leads at_stage in_part before goes e =
      elim (cases_Bool (not (is_label_line ts) && bytes_eq w (codes "recover"))) [
        | inl turns ↦ rw turns (recover_agrees n s t f line w ts here tokens at_stage before goes (both (not (is_label_line ts)) (bytes_eq w (codes "recover")) turns) (rw turns at e))
        | inr stays ↦ rw stays (program_agrees Main (inl refl) n s t f line w ts here tokens leads at_stage in_part before goes (rw stays at e))
      ]

  recovery_agrees : (n : ℕ) (s t : Draft) (f : Found) (line : List ℕ) (w : Token) (ts : List Token) → Here n s line → tokens_of line ≡ w ∷ ts → Leads n s line t → s.stage ≡ Recovery → f.part ≡ parts.Recovery
      → AreLinesOfAll all 0 f.processors s.processors → GoesOn Recovery (length s.processors) s.main s.lines f.main f.lines → row_after Recovery n s w ts ≡ Ok t → Agrees t (row_found parts.Recovery n f w ts)
  unfolding row_after row_found
  recovery_agrees n s t f line w ts here tokens leads at_stage in_part before goes e = program_agrees Recovery (inr refl) n s t f line w ts here tokens leads at_stage in_part before goes e

  no_program : (stage : Stage) → InProgram stage → part_of stage ≡ parts.Outside → ⊥
  no_program stage (inl is) out = let wrong : parts.Main ≡ parts.Outside = rw is at out in absurd cc
  no_program stage (inr is) out = let wrong : parts.Recovery ≡ parts.Outside = rw is at out in absurd cc

  none_says : (p : ℕ) (stage : Stage) (lines : List ℕ) (said : List ProgramLine) → lines ≡ [] → said ≡ [] → SaysEach all p stage 0 lines said
  none_says p stage lines said none none_said = rw (none, none_said) tt

  not_begun : (n : ℕ) (f : Found) (w : Token) (ts : List Token) → f.part ≡ parts.Outside → bytes_eq w (codes "cpu") ≡ false → f ≡ tokens_found n f (w ∷ ts)
  unfolding row_found
  not_begun n f w ts out other = rw (out, other) refl

  is_begun : (n : ℕ) (f : Found) (ts : List Token) → f.part ≡ parts.Outside → begun f ≡ tokens_found n f (codes "cpu" ∷ ts)
  unfolding row_found
  is_begun n f ts out = rw out refl

  outside_agrees : {n : ℕ} {s t : Draft} {ts : List Token} → (f : Found) → Line n s ts t → Agrees s f → f.part ≡ parts.Outside → part_of s.stage ≡ parts.Outside → AreLinesOfAll all 0 f.processors s.processors
      → f.lines ≡ [] → s.lines ≡ [] → Agrees t (tokens_found n f ts)
  outside_agrees f blank a out is_out before none none_said = a
  outside_agrees {n} {s} f (first stage) a out is_out before none none_said =
      let one : Agrees (record s { stage = Data }) f = record { stage = Data; at_stage = refl; in_part = out; before = before; goes_on = (none, none_said) } in
      subst (Agrees (record s { stage = Data })) (not_begun n f (codes "litmus") (codes "1" ∷ []) out refl) one
  outside_agrees {n} {s} f (cache_line names layout stage more) a out is_out before none none_said =
      let one : Agrees (record s { layout = layout }) f = record { stage = Data; at_stage = stage; in_part = out; before = before; goes_on = (none, none_said) } in
      subst (Agrees (record s { layout = layout })) (not_begun n f (codes "line") names out refl) one
  outside_agrees {n} {s} f (initial_value name number word x stage is_name is_number) a out is_out before none none_said =
      let one : Agrees (record s { values = slice_set s.values word x }) f = record { stage = Data; at_stage = stage; in_part = out; before = before; goes_on = (none, none_said) } in
      subst (Agrees (record s { values = slice_set s.values word x })) (not_begun n f (codes "init") (name ∷ number ∷ []) out refl) one
  outside_agrees {n} {s} f (processor stage few) a out is_out before none none_said =
      let one : Agrees (record s { stage = Main }) (begun f) = record { stage = Main; at_stage = refl; in_part = refl; before = before; goes_on = none_says (length s.processors) Main f.lines s.lines none none_said } in
      subst (Agrees (record s { stage = Main })) (is_begun n f [] out) one
  outside_agrees {n} {s} f (label w stage name unused) a out is_out before none none_said = absurd (no_program s.stage stage is_out)
  outside_agrees {n} {s} f (instruction ts instr stage short form) a out is_out before none none_said = absurd (no_program s.stage stage is_out)
  outside_agrees {n} {s} f (jump kind w stage short mark) a out is_out before none none_said = absurd (no_program s.stage stage is_out)
  outside_agrees {n} {s} f (recovery stage) a out is_out before none none_said = absurd (no_program s.stage (inl stage) is_out)
  outside_agrees {n} {s} f (processor_end stage) a out is_out before none none_said = absurd (no_program s.stage stage is_out)

  row_agrees : (stage : Stage) (n : ℕ) (s t : Draft) (f : Found) (line : List ℕ) (w : Token) (ts : List Token) → Agrees s f → Here n s line → tokens_of line ≡ w ∷ ts → Leads n s line t → s.stage ≡ stage → f.part ≡ part_of stage
      → AreLinesOfAll all 0 f.processors s.processors → GoesOn stage (length s.processors) s.main s.lines f.main f.lines → row_after stage n s w ts ≡ Ok t → Agrees t (tokens_found n f (w ∷ ts))
  row_agrees Opening n s t f line w ts a here tokens leads at_stage in_part before goes e = outside_agrees f (subst (λ (vs : List Token). Line n s vs t) tokens leads.tokens) a in_part (ap part_of at_stage) before goes.0 goes.1
  row_agrees Data n s t f line w ts a here tokens leads at_stage in_part before goes e = outside_agrees f (subst (λ (vs : List Token). Line n s vs t) tokens leads.tokens) a in_part (ap part_of at_stage) before goes.0 goes.1
  row_agrees Main n s t f line w ts a here tokens leads at_stage in_part before goes e =
      subst (λ (part : Part). Agrees t (row_found part n f w ts)) (sym in_part) (main_agrees n s t f line w ts here tokens leads at_stage in_part before goes e)
  row_agrees Recovery n s t f line w ts a here tokens leads at_stage in_part before goes e =
      subst (λ (part : Part). Agrees t (row_found part n f w ts)) (sym in_part) (recovery_agrees n s t f line w ts here tokens leads at_stage in_part before goes e)
  row_agrees Between n s t f line w ts a here tokens leads at_stage in_part before goes e = outside_agrees f (subst (λ (vs : List Token). Line n s vs t) tokens leads.tokens) a in_part (ap part_of at_stage) before goes.0 goes.1

  words_agree : (n : ℕ) (s t : Draft) (f : Found) (line : List ℕ) (ts : List Token) → tokens_of line ≡ ts → Here n s line → Leads n s line t → Agrees s f → tokens_after n s ts ≡ Ok t → Agrees t (tokens_found n f ts)
  words_agree n s t f line [] tokens here leads a e = subst (λ (u : Draft). Agrees u f) (same_ok s t e) a
  words_agree n s t f line (w ∷ ts) tokens here leads a e =
      row_agrees a.stage n s t f line w ts a here tokens leads a.at_stage a.in_part a.before a.goes_on (subst (λ (stage : Stage). row_after stage n s w ts ≡ Ok t) a.at_stage e)

  line_agrees : (n : ℕ) (s t : Draft) (f : Found) (line : List ℕ) → Here n s line → Leads n s line t → Agrees s f → Agrees t (found_after n f line)
  unfolding draft_after
  line_agrees n s t f line here leads a =
      let read = not_refused NotAscii (not (is_plain_line line)) (tokens_after n s (tokens_of line)) t (line_is_read n s t line leads) in
      words_agree n s t f line (tokens_of line) refl here leads a read.1

  -- ---- all lines

  lines_push : (front : List (List ℕ)) (m : ℕ) (r s : Draft) (n : ℕ) (line : List ℕ) (t : Draft) → n ≡ m + length front → Lines m r front s → Leads n s line t → Lines m r (front ++ line ∷ []) t
  lines_push [] m r s n line t e h leads =
      let here : n ≡ m = omega arith in
      (t, subst (λ (u : Draft). Leads m u line t) h (subst (λ (k : ℕ). Leads k s line t) here leads), refl)
  lines_push (l ∷ front) m r s n line t e (u, one, h) leads = (u, one, lines_push front (m + 1) u s n line t (omega arith) h leads)

  lines_agree : (rest front : List (List ℕ)) (s t : Draft) (f : Found) (n : ℕ) → all ≡ front ++ rest → n ≡ length front + 1 → Lines 1 empty_draft front s → Lines n s rest t → Agrees s f → Agrees t (found_from n f rest)
  unfolding found_from
  lines_agree [] front s t f n e number came h a = subst (λ (u : Draft). Agrees u f) (sym h) a
  lines_agree (line ∷ rest) front s t f n e number came (u, leads, h) a =
      let here : Here n s line = record { front = front; others = rest; parts_are = e; number = number; may_come = came } in
      lines_agree rest (front ++ line ∷ []) u t (found_after n f line) (n + 1) (e ∙ sym (append_assoc front (line ∷ []) rest)) (omega (arith, number, length-append front (line ∷ [])))
      (lines_push front 1 empty_draft s n line u (omega arith) came leads) h (line_agrees n s u f line here leads a)

  first_agrees : Agrees empty_draft nothing_found
  first_agrees = record { stage = Opening; at_stage = refl; in_part = refl; before = tt; goes_on = (refl, refl) }

-- ---- a text that is read

value_if : (lost : Option ℕ) (t : Draft) (o : Object) → unless_lost lost t ≡ Ok o → o ≡ value_of t
value_if None t o e = sym (same_ok (value_of t) o e)
value_if (Some n) t o e = absurd cc

ends_as : (stage : Stage) (last : ℕ) (t : Draft) (o : Object) → litmus_at_end stage last t ≡ Ok o → o ≡ value_of t
ends_as Opening last t o e = absurd cc
ends_as Data last t o e = value_if t.lost t o e
ends_as Main last t o e = absurd cc
ends_as Recovery last t o e = absurd cc
ends_as Between last t o e = value_if t.lost t o e

cases_read : (r : Result Draft LineFault) → ((t : Draft) × (r ≡ Ok t)) ⊎ ((kind : LineFault) × (r ≡ Err kind))
cases_read (Ok t) = inl (t, refl)
cases_read (Err kind) = inr (kind, refl)

read_lines : (lines : List (List ℕ)) (s : Draft) (n last : ℕ) (o : Object) → litmus_from s n last lines ≡ Ok o → (t : Draft) × Lines n s lines t × (o ≡ value_of t)
unfolding litmus_from
read_lines [] s n last o e = (s, refl, ends_as s.stage last s o e)
read_lines (line ∷ lines) s n last o e =
    elim (cases_read (draft_after n s line)) [
      | inl read ↦ let h = read_lines lines read.0 (n + 1) last o (rw read.1 at e) in (h.0, (read.0, only_line n s read.0 line read.1, h.1), h.2)
      | inr fault ↦ let wrong = rw fault.1 at e in absurd cc
    ]

-- the lines that are found say the instructions
pub found_are_said : (text : List ℕ) (o : Object) → litmus_of text ≡ Ok o → AreLinesOfAll (lines_of text) 0 (lines_found text) o.processors
found_are_said text o e =
    let all = lines_of text in
    let h = read_lines all empty_draft 1 (max 1 (length all)) o e in
    let a = lines_agree all all [] empty_draft h.0 nothing_found 1 refl refl refl h.1 (first_agrees all) in
    subst (λ (v : Object). AreLinesOfAll all 0 (lines_found text) v.processors) (sym h.2) a.before

-- ---- how many there are

module _ (all : List (List ℕ)) where
  each_counts : (p : ℕ) (stage : Stage) (i : ℕ) (ns : List ℕ) (xs : List ProgramLine) → SaysEach all p stage i ns xs → length ns ≡ length xs
  each_counts p stage i [] [] h = refl
  each_counts p stage i [] (x ∷ xs) h = absurd h
  each_counts p stage i (n ∷ ns) [] h = absurd h
  each_counts p stage i (n ∷ ns) (x ∷ xs) (here, h) = let rest = each_counts p stage (i + 1) ns xs h in omega arith

  program_counts : (p : ℕ) (stage : Stage) (ns : List ℕ) (code : List Instr) → AreLinesOf all p stage ns code → length ns ≡ length code
  program_counts p stage ns code a =
      each_counts p stage 0 ns a.read.lines a.each ∙ sym (ap (λ (c : List Instr). length c) a.code_is ∙ length-map a.read.lines (line_instruction a.read.labels))

  recovery_counts : (p : ℕ) (ns : List ℕ) (code : List Instr) → AreLinesOf all p Recovery ns code ⊎ ((ns ≡ []) × (code ≡ [])) → length ns ≡ length code
  recovery_counts p ns code (inl a) = program_counts p Recovery ns code a
  recovery_counts p ns code (inr (none, no_code)) = rw (none, no_code) refl

  pub all_count : (p : ℕ) (ns : List ProgramLines) (vs : List Programs) → AreLinesOfAll all p ns vs → map line_counts ns ≡ map instruction_counts vs
  all_count p [] [] h = refl
  all_count p [] (v ∷ vs) h = absurd h
  all_count p (n ∷ ns) [] h = absurd h
  all_count p (n ∷ ns) (v ∷ vs) ((main, behind), h) =
      let one = program_counts p Main n.main v.main main in
      let two = recovery_counts p n.recovery v.recovery behind in
      let rest = all_count (p + 1) ns vs h in
      rw (one, two, rest) refl

pub found_count : (text : List ℕ) (o : Object) → litmus_of text ≡ Ok o → map line_counts (lines_found text) ≡ map instruction_counts o.processors
found_count text o e = all_count (lines_of text) 0 (lines_found text) o.processors (found_are_said text o e)
