-- The first line of questions is one of the sheet: no line of the sheet sets it to more than its own number.
use Rattle.std.proofs.Common.{◌≡◌, ℕ, ◌+◌, ◌≤◌, Bool, true, false, not, if◌then◌else◌, Option, is_some, ◌++◌, bytes_eq, codes, Result, Ok, Err, List, [], ◌∷◌, length, refl, ◌∙◌, arith}
use Rattle.outcomes.specs.Outcomes.{◌>>=◌}
use Rattle.text_tokens.specs.Cursors.{Token}
use Rattle.text_tokens.specs.Text.{is_plain_line, lines_of, tokens_of}
use Rattle.text_tokens.proofs.SplitLine.{few_lines}
use Rattle.litmus_text.specs.declared.fault.LineFault.{LineFault}
use Rattle.litmus_text.specs.declared.fault.TextFault.{TextFault}
use Rattle.litmus_text.specs.declared.text_lines.LinedObject.{LinedObject}
use Rattle.sheets.specs.declared.reading.SheetRead.{SheetRead}
use Rattle.sheets.specs.Reading.{sheet_of, sheet_read_of}
use Rattle.sheets.specs.declared.sheet.Stage.{Stage}
use Rattle.sheets.specs.declared.sheet.Stage.TheVariants as stages
use Rattle.sheets.specs.declared.block.Part.{Part}
use Rattle.sheets.specs.declared.block.Part.TheVariants as parts
use Rattle.sheets.specs.Abbreviations.{constant_at}
use Rattle.sheets.specs.Texts.{said_row}
use Rattle.sheets.specs.Sheets.{Sheet, block_begun, cpu_at, init_at, lines_at, next_block, recovers_in, with_constant, with_lines, begins_item, between_after, block_ended, block_line_after, const_after, copies_from, copy_after, copy_from, copy_of, copy_tokens_after, cpu_after, empty_sheet, ends_block, head_line_after, init_after, is_end, is_recover, item_line_after, items_begun, kept, line_after, lines_after, opening_after, other_processors, part_after, plain_after, read_of, recover_after, recovery_begun, row_after, said_after, saying, settled, sheet_from, stage_after, tokens_after, turned, without_rows}

-- a sheet that keeps the questions of another
record Keeps (s t : Sheet) : Type 0 where
  pub same : t.items ≡ s.items

on : {s t u : Sheet} → Keeps s t → Keeps t u → Keeps s u
on p q = record { same = q.same ∙ p.same }

of_if : (b : Bool) (s t u : Sheet) → Keeps s t → Keeps s u → Keeps s (if b then t else u)
of_if true s t u p q = p
of_if false s t u p q = q

of_settled : {A : Type 0} (n : ℕ) (s : Sheet) (r : Result A LineFault) (next : A → Sheet) → ((a : A) → Keeps s (next a)) → Keeps s (settled n s next r)
of_settled n s (Ok a) next keeps = keeps a
of_settled n s (Err kind) next keeps = record { same = refl }

-- ---- lines outside of blocks

of_const : (n : ℕ) (s : Sheet) (tokens : List Token) → Keeps s (const_after n s tokens)
unfolding const_after
of_const n s tokens = of_settled n s (constant_at s.names tokens) (λ c. saying n (codes "\n") (record s { names = with_constant c s.names })) (λ _. record { same = refl })

of_lines : (n : ℕ) (s : Sheet) (tokens : List Token) → Keeps s (lines_after n s tokens)
unfolding lines_after
of_lines n s tokens = of_settled n s (lines_at s.names tokens) (λ piece. saying n piece (record s { names = with_lines piece s.names })) (λ _. record { same = refl })

of_init : (n : ℕ) (s : Sheet) (tokens : List Token) → Keeps s (init_after n s tokens)
unfolding init_after
of_init n s tokens = of_settled n s (init_at s.names tokens) (λ piece. saying n piece s) (λ _. record { same = refl })

of_cpu : (n : ℕ) (s : Sheet) (tokens : List Token) → Keeps s (cpu_after n s tokens)
unfolding cpu_after
of_cpu n s tokens =
    let first = next_block s.stage s.block in
    of_settled n s (cpu_at s.names first tokens) (block_begun n s first) (λ _. record { same = refl })

of_cpu_row : (n : ℕ) (s : Sheet) (first : Token) (tokens : List Token)
    → Keeps s (if bytes_eq first (codes "cpu") then cpu_after n s tokens else plain_after n s first tokens)
of_cpu_row n s first tokens = of_if (bytes_eq first (codes "cpu")) s (cpu_after n s tokens) (plain_after n s first tokens) (of_cpu n s tokens) (record { same = refl })

of_row : (stage : Stage) (n : ℕ) (s : Sheet) (first : Token) (tokens : List Token) → Keeps s (row_after stage n s first tokens)
unfolding row_after opening_after
of_row stages.Opening n s first tokens = record { same = refl }
of_row stages.Data n s first tokens =
    let init = of_if (bytes_eq first (codes "init")) s (init_after n s tokens) _ (of_init n s tokens) (of_cpu_row n s first tokens) in
    let lines = of_if (bytes_eq first (codes "line")) s (lines_after n s tokens) _ (of_lines n s tokens) init in
    of_if (bytes_eq first (codes "const")) s (const_after n s tokens) _ (of_const n s tokens) lines
of_row stages.Block n s first tokens = of_cpu_row n s first tokens
of_row stages.Between n s first tokens = of_cpu_row n s first tokens
of_row stages.Items n s first tokens = of_cpu_row n s first tokens

of_tokens : (n : ℕ) (s : Sheet) (tokens : List Token) → Keeps s (tokens_after n s tokens)
of_tokens n s [] = record { same = refl }
of_tokens n s (first ∷ tokens) = of_row s.stage n s first tokens

of_head_line : (n : ℕ) (s : Sheet) (line : List ℕ) → Keeps s (head_line_after n s line)
unfolding head_line_after
of_head_line n s line = of_if (not (is_plain_line line)) s (saying n (line ++ codes "\n") s) (tokens_after n s (tokens_of line)) (record { same = refl }) (of_tokens n s (tokens_of line))

-- ---- lines of a block

of_recovery : (n : ℕ) (s : Sheet) (recovers : Bool) → Keeps s (recovery_begun n s recovers)
of_recovery n s true = record { same = refl }
of_recovery n s false = record { same = refl }

of_recover : (copy : Option ℕ) (p n : ℕ) (s : Sheet) (tokens : List Token) → Keeps s (recover_after copy p n s tokens)
unfolding recover_after
of_recover copy p n s tokens = of_settled n s (recovers_in s.block copy p tokens) (recovery_begun n s) (of_recovery n s)

of_said : (copy : Option ℕ) (n : ℕ) (s : Sheet) (first : Token) (tokens : List Token) → Keeps s (said_after copy n s first tokens)
unfolding said_after
of_said copy n s first tokens = of_settled n s (said_row s.names copy first tokens) (λ piece. saying n piece s) (λ _. record { same = refl })

of_part : (part : Part) (copy : Option ℕ) (p n : ℕ) (s : Sheet) (first : Token) (tokens : List Token) → Keeps s (part_after part copy p n s first tokens)
unfolding part_after
of_part parts.Skipped copy p n s first tokens = of_if (is_end first tokens) s (said_after copy n s first tokens) (saying n (codes "\n") s) (of_said copy n s first tokens) (record { same = refl })
of_part parts.Main copy p n s first tokens = of_if (is_recover first tokens) s (recover_after copy p n s tokens) (said_after copy n s first tokens) (of_recover copy p n s tokens) (of_said copy n s first tokens)
of_part parts.Recovery copy p n s first tokens = of_said copy n s first tokens

of_copy_tokens : (p n : ℕ) (s : Sheet) (tokens : List Token) → Keeps s (copy_tokens_after p n s tokens)
of_copy_tokens p n s [] = record { same = refl }
of_copy_tokens p n s (first ∷ tokens) = of_part s.block.part _ p n s _ tokens

of_copy_line : (p n : ℕ) (s : Sheet) (line : List ℕ) → Keeps s (copy_after p n s line)
unfolding copy_after
of_copy_line p n s line =
    let plain = of_if (not (is_plain_line line)) s (saying n (line ++ codes "\n") s) (copy_tokens_after p n s (tokens_of line)) (record { same = refl }) (of_copy_tokens p n s (tokens_of line)) in
    of_if (is_some s.fault) s s _ (record { same = refl }) plain

of_copy_from : (p n : ℕ) (s : Sheet) (lines : List (List ℕ)) → Keeps s (copy_from p n s lines)
unfolding copy_from
of_copy_from p n s [] = record { same = refl }
of_copy_from p n s (line ∷ lines) = on (of_copy_line p n s line) (of_copy_from p (n + 1) (copy_after p n s line) lines)

of_copy : (rows : List ℕ) (s : Sheet) (p : ℕ) → Keeps s (copy_of rows s p)
unfolding copy_of
of_copy rows s p =
    let begun = saying s.block.line (codes "cpu\n") (turned parts.Main s) in
    let copied = of_copy_from p (s.block.line + 1) begun (lines_of rows) in
    of_if (is_some s.fault) s s (copy_from p (s.block.line + 1) begun (lines_of rows)) (record { same = refl }) (record { same = copied.same })

of_copies : (rows : List ℕ) (s : Sheet) (ps : List ℕ) → Keeps s (copies_from rows s ps)
unfolding copies_from
of_copies rows s [] = record { same = refl }
of_copies rows s (p ∷ ps) = on (of_copy rows s p) (of_copies rows (copy_of rows s p) ps)

of_ended : (s : Sheet) → Keeps s (block_ended s)
unfolding block_ended
of_ended s = record { same = (of_copies s.block.rows (without_rows s) (other_processors s.block)).same }

of_block_line : (n : ℕ) (s : Sheet) (line : List ℕ) → Keeps s (block_line_after n s line)
unfolding block_line_after
of_block_line n s line =
    let read = of_copy_line s.block.first n s line in
    let next = kept line (copy_after s.block.first n s line) in
    let going : Keeps s next = record { same = read.same } in
    of_if (ends_block (tokens_of line)) s (block_ended next) next (on going (of_ended next)) going

-- ---- the whole sheet

-- line n keeps the questions, or begins them
record Within (n : ℕ) (s t : Sheet) : Type 0 where
  pub less : s.items.first ≤ n → t.items.first ≤ n

kept_within : (n : ℕ) (s t : Sheet) → Keeps s t → Within n s t
kept_within n s t keeps = record { less = λ below. rw keeps.same below }

within_if : (n : ℕ) (b : Bool) (s t u : Sheet) → Within n s t → Within n s u → Within n s (if b then t else u)
within_if n true s t u p q = p
within_if n false s t u p q = q

within_between : (n : ℕ) (s : Sheet) (line : List ℕ) → Within n s (between_after n s line)
unfolding between_after
within_between n s line =
    within_if n (begins_item (tokens_of line)) s (item_line_after n (items_begun n s) line) (head_line_after n s line) (record { less = λ below. omega arith }) (kept_within n s _ (of_head_line n s line))

within_stage : (stage : Stage) (n : ℕ) (s : Sheet) (line : List ℕ) → Within n s (stage_after stage n s line)
unfolding stage_after
within_stage stages.Opening n s line = kept_within n s _ (of_head_line n s line)
within_stage stages.Data n s line = kept_within n s _ (of_head_line n s line)
within_stage stages.Block n s line = kept_within n s _ (of_block_line n s line)
within_stage stages.Between n s line = within_between n s line
within_stage stages.Items n s line = record { less = λ below. below }

within_line : (n : ℕ) (s : Sheet) (line : List ℕ) → Within n s (line_after n s line)
unfolding line_after
within_line n s line = within_if n (is_some s.fault) s s (stage_after s.stage n s line) (record { less = λ below. below }) (within_stage s.stage n s line)

within_lines : (n : ℕ) (s : Sheet) (lines : List (List ℕ)) → s.items.first ≤ n → (sheet_from n s lines).items.first ≤ n + length lines
unfolding sheet_from
within_lines n s [] below = omega (arith, below)
within_lines n s (line ∷ lines) below =
    let here = (within_line n s line).less below in
    let later : (line_after n s line).items.first ≤ n + 1 = omega (arith, here) in
    omega (arith, within_lines (n + 1) (line_after n s line) lines later)

-- the questions of a sheet begin on one of its lines, or on the first
within_sheet : (text : List ℕ) → (read_of text).items.first ≤ length text + 1
within_sheet text = omega (arith, within_lines 1 empty_sheet (lines_of text) (omega arith), few_lines text)

items_kept : (text : List ℕ) (lined : Result LinedObject TextFault) (sheet : SheetRead)
    → (lined >>= λ l. Ok (record { lined = l; names = (read_of text).names; items = (read_of text).items })) ≡ Ok sheet → sheet.items ≡ (read_of text).items
items_kept text (Ok l) sheet e = (cc)
items_kept text (Err fault) sheet e = absurd (cc)

pub first_line_within : (text : List ℕ) (sheet : SheetRead) → sheet_read_of text ≡ Ok sheet → sheet.items.first ≤ length text + 1
first_line_within text sheet e = rw (items_kept text (sheet_of text) sheet e) (within_sheet text)
