-- One more register, processor or word in the text of a state.
use Rattle.std.proofs.Common.{◌≡◌, ℕ, ◌+◌, ◌*◌, ◌<◌, Option, Some, None, List, [], ◌∷◌, ◌++◌, length, get_or, take, drop, sym, ap, subst, ◌∙◌, append_assoc, arith, inl, inr}
use Rattle.std.specs.Prelude.{IfSome, slice_get}
use Rattle.std.specs.List.{flat_map}
use Rattle.std.specs.Option.{option_and_then}
use Rattle.std.proofs.lemmas.List.{at_drop_more, flat_map_more, take_more}
use Rattle.std.proofs.lemmas.Option.{slice_get_cases}
use Rattle.isa.specs.declared.register.Reg.{Reg}
use Rattle.lines_layout.specs.Layouts.{NamedLines}
use Rattle.persist_buffer.specs.State.{Memory}
use Rattle.machine.specs.State.{Processor}
use Rattle.commands.specs.StateTexts.{register_line, trap_line, cpu_text, cpu_texts, word_line, word_lines}
use Rattle.lines_layout.specs.Names.{Text}

-- the registers up to one more, where there is a processor
pub registers_more : (cpu : Option Processor) (rs : List Reg) (i : ℕ) (d : Reg) (before text new : Text)
    → i < length rs
    → IfSome cpu (λ c. text ≡ before ++ flat_map (register_line c.regs) (take i rs))
    → IfSome cpu (λ c. new ≡ text ++ register_line c.regs (get_or rs i d))
    → IfSome cpu (λ c. new ≡ before ++ flat_map (register_line c.regs) (take (i + 1) rs))
registers_more None rs i d before text new inside so_far one = tt
registers_more (Some c) rs i d before text new inside so_far one =
    let line = register_line c.regs in
    let more : take (i + 1) rs ≡ take i rs ++ get_or rs i d ∷ [] = take_more rs i d inside in
    one ∙ ap (λ (t : Text). t ++ line (get_or rs i d)) so_far ∙ flat_map_more line before (take i rs) (get_or rs i d)
    ∙ ap (λ (xs : List Reg). before ++ flat_map line xs) (sym more)

-- the line of a trap, where there is a processor
pub trap_more : (cpu : Option Processor) (trap : Option ℕ) (text new : Text) → trap ≡ option_and_then (λ c. c.trap) cpu
    → new ≡ text ++ trap_line trap → IfSome cpu (λ c. new ≡ text ++ trap_line c.trap)
trap_more None trap text new is more = tt
trap_more (Some c) trap text new is more = more ∙ ap (λ (o : Option ℕ). text ++ trap_line o) is

-- the processors from the next on
pub cpus_more : (names : NamedLines) (cs : List Processor) (p : ℕ) (text new total : Text)
    → p < length cs → IfSome (slice_get cs p) (λ c. new ≡ text ++ cpu_text names p c)
    → text ++ cpu_texts names p (drop p cs) ≡ total
    → new ++ cpu_texts names (p + 1) (drop (p + 1) cs) ≡ total
cpus_more names cs p text new total inside one so_far =
    elim (slice_get_cases cs p).1 [
      | inl found ↦
          let c = found.0 in
          let others = cpu_texts names (p + 1) (drop (p + 1) cs) in
          let line : new ≡ text ++ cpu_text names p c = subst (λ (o : Option Processor). IfSome o (λ c. new ≡ text ++ cpu_text names p c)) found.2 one in
          let rest : cpu_texts names p (drop p cs) ≡ cpu_text names p (get_or cs p c) ++ others = at_drop_more (cpu_texts names p) cs p c inside in
          let same : cpu_text names p (get_or cs p c) ≡ cpu_text names p c = ap (cpu_text names p) found.3 in
          ap (λ (t : Text). t ++ others) line ∙ append_assoc text (cpu_text names p c) others
          ∙ ap (λ (t : Text). text ++ (t ++ others)) (sym same) ∙ ap (λ (t : Text). text ++ t) (sym rest) ∙ so_far
      | inr past ↦ absurd (omega arith)
    ]

-- the words of a line from the next on
pub words_more : (m : Memory) (names : List Text) (g place word : ℕ) (name d text new total : Text)
    → place < length names → name ≡ get_or names place d → word ≡ 8 * g + place → new ≡ text ++ word_line m name word
    → text ++ word_lines m (8 * g + place) (drop place names) ≡ total
    → new ++ word_lines m (8 * g + (place + 1)) (drop (place + 1) names) ≡ total
words_more m names g place word name d text new total inside item number line so_far =
    let at = 8 * g + place in
    let others = word_lines m (at + 1) (drop (place + 1) names) in
    let next : 8 * g + (place + 1) ≡ at + 1 = omega arith in
    let rest : word_lines m at (drop place names) ≡ word_line m (get_or names place d) at ++ others = at_drop_more (word_lines m at) names place d inside in
    ap (λ (n : ℕ). new ++ word_lines m n (drop (place + 1) names)) next
    ∙ ap (λ (t : Text). t ++ others) line ∙ append_assoc text (word_line m name word) others
    ∙ ap (λ (n : ℕ). text ++ (word_line m name n ++ others)) number
    ∙ ap (λ (t : Text). text ++ (word_line m t at ++ others)) item
    ∙ ap (λ (t : Text). text ++ t) (sym rest) ∙ so_far
