-- One more processor or word of a state as JSON, and what a processor does next.
use Rattle.std.proofs.Common.{◌≡◌, ◌∙◌, ℕ, ◌+◌, ◌*◌, ◌<◌, Bool, Option, Some, None, List, [], ◌∷◌, ◌++◌, length, get_or, take, drop, map, refl, sym, ap, subst, arith, inl, inr, codes}
use Rattle.std.specs.Prelude.{IfSome, option_map, slice_get}
use Rattle.std.specs.List.{flat_map}
use Rattle.std.specs.Option.{option_and_then}
use Rattle.std.proofs.lemmas.List.{at_drop_more}
use Rattle.std.proofs.lemmas.Option.{same_Some, slice_get_cases}
use Rattle.isa.specs.declared.register.Reg.{Reg}
use Rattle.image_reasons.specs.Origins.{Origins}
use Rattle.lines_layout.specs.Names.{Text}
use Rattle.persist_buffer.specs.State.{Memory}
use Rattle.machine.specs.Processors.{halted}
use Rattle.machine.specs.State.{Processor}
use Rattle.store_buffer.specs.declared.entry.Entry.{Entry}
use Rattle.serde_json.specs.Data.{Data, Members, no_members, object, put}
use Rattle.serde_json.specs.View.{view}
use Rattle.serde_json.specs.declared.value.Value.{Value}
use Rattle.commands.specs.StateTexts.{progress_text}
use Rattle.json_texts.specs.Objects.{IsJsonOf, Tree, json_of, list, num, or_null, with_fields, word}
use Rattle.json_texts.proofs.Items.{fields_more, one_more}
use Rattle.litmus_text.specs.TextLines.{TextLines}
use Rattle.json_texts.specs.SourceMaps.{SourceMap}
use Rattle.json_texts.specs.StateData.{buffer_from, cpu_data, cpu_fields, cpus_from, flag_number, register_fields, registers_data, site_fields, word_data, words_from}

-- the registers up to one more, where there is a processor
pub registers_more : (cpu : Option Processor) (rs : List Reg) (i : ℕ) (d : Reg) (first before after : Members) → i < length rs
    → IfSome cpu (λ c. before ≡ with_fields first (flat_map (register_fields c.regs) (take i rs)))
    → IfSome cpu (λ c. after ≡ with_fields before (register_fields c.regs (get_or rs i d)))
    → IfSome cpu (λ c. after ≡ with_fields first (flat_map (register_fields c.regs) (take (i + 1) rs)))
registers_more None rs i d first before after inside so_far one = tt
registers_more (Some c) rs i d first before after inside so_far one = fields_more (register_fields c.regs) rs i d first before after inside so_far one

-- the processors from the next on
pub cpus_more : (source : SourceMap) (o : Origins) (cs : List Processor) (p : ℕ) (items new : List Value) (v : Value) (total : List Data) → p < length cs
    → new ≡ items ++ v ∷ [] → IfSome (slice_get cs p) (λ c. IsJsonOf (cpu_data source o p c) v)
    → map view items ++ map json_of (cpus_from source o p (drop p cs)) ≡ total
    → map view new ++ map json_of (cpus_from source o (p + 1) (drop (p + 1) cs)) ≡ total
cpus_more source o cs p items new v total inside pushed one so_far =
    elim (slice_get_cases cs p).1 [
      | inl found ↦
          let c = found.0 in
          let later = cpus_from source o (p + 1) (drop (p + 1) cs) in
          let others = map json_of later in
          let made : view v ≡ json_of (cpu_data source o p c) = subst (λ (cpu : Option Processor). IfSome cpu (λ c. IsJsonOf (cpu_data source o p c) v)) found.2 one in
          let rest : cpus_from source o p (drop p cs) ≡ cpu_data source o p (get_or cs p c) ∷ later = at_drop_more (cpus_from source o p) cs p c inside in
          let same : cpu_data source o p (get_or cs p c) ≡ cpu_data source o p c = ap (cpu_data source o p) found.3 in
          one_more items new v others total pushed
          (ap (λ (d : Data). map view items ++ d ∷ others) (made ∙ sym (ap json_of same)) ∙ ap (λ (ts : List Tree). map view items ++ map json_of ts) (sym rest) ∙ so_far)
      | inr past ↦ absurd (omega arith)
    ]

-- the words of a line from the next on
pub words_more : (m : Memory) (names : List Text) (g place number : ℕ) (name d : Text) (items new : List Value) (v : Value) (total : List Data) → place < length names
    → name ≡ get_or names place d → number ≡ 8 * g + place → new ≡ items ++ v ∷ [] → IsJsonOf (word_data m name number) v
    → map view items ++ map json_of (words_from m (8 * g + place) (drop place names)) ≡ total
    → map view new ++ map json_of (words_from m (8 * g + (place + 1)) (drop (place + 1) names)) ≡ total
words_more m names g place number name d items new v total inside item is pushed made so_far =
    let at = 8 * g + place in
    let later = words_from m (at + 1) (drop (place + 1) names) in
    let others = map json_of later in
    let next : 8 * g + (place + 1) ≡ at + 1 = omega arith in
    let rest : words_from m at (drop place names) ≡ word_data m (get_or names place d) at ∷ later = at_drop_more (words_from m at) names place d inside in
    let same : word_data m name number ≡ word_data m (get_or names place d) at = ap (λ (n : ℕ). word_data m name n) is ∙ ap (λ (t : Text). word_data m t at) item in
    ap (λ (n : ℕ). map view new ++ map json_of (words_from m n (drop (place + 1) names))) next
    ∙ one_more items new v others total pushed
    (ap (λ (e : Data). map view items ++ e ∷ others) (made ∙ ap json_of same) ∙ ap (λ (ts : List Tree). map view items ++ map json_of ts) (sym rest) ∙ so_far)

-- where processor p is, and what it does next
pub progress_more : (lines : TextLines) (cpu : Option Processor) (p place : ℕ) (trap : Option ℕ) (recovers stopped zero : Bool) (before after : Members)
    → option_map (λ c. c.recovering) cpu ≡ Some recovers → option_map (λ c. c.place) cpu ≡ Some place
    → option_map halted cpu ≡ Some stopped → option_map (λ c. c.regs.zero) cpu ≡ Some zero
    → trap ≡ option_and_then (λ c. c.trap) cpu
    → after ≡ with_fields (with_fields before (site_fields lines p recovers place))
    ((codes "progress", word (progress_text trap stopped)) ∷ (codes "trap", or_null num trap) ∷ (codes "zf", num (flag_number zero)) ∷ [])
    → IfSome cpu (λ c. after ≡ with_fields before (cpu_fields lines p c))
progress_more lines None p place trap recovers stopped zero before after a b d e t is = tt
progress_more lines (Some c) p place trap recovers stopped zero before after a b d e t is =
    rw (is, t, ← same_Some _ _ a, ← same_Some _ _ b, ← same_Some _ _ d, ← same_Some _ _ e) refl

-- processor p, with its registers and its store buffer
pub cpu_more : (source : SourceMap) (o : Origins) (lines : TextLines) (cpu : Option Processor) (p : ℕ) (first progress : Members) (registers buffer made : Data) (entries : List Entry)
    → lines ≡ source.lines → first ≡ no_members
    → IfSome cpu (λ c. progress ≡ with_fields first (cpu_fields lines p c)) → IfSome cpu (λ c. registers ≡ json_of (registers_data c.regs))
    → option_map (λ c. c.buffer) cpu ≡ Some entries → buffer ≡ json_of (list (buffer_from source o p 0 entries))
    → made ≡ object (put (codes "buffer") buffer (put (codes "registers") registers progress))
    → IfSome cpu (λ c. made ≡ json_of (cpu_data source o p c))
cpu_more source o lines None p first progress registers buffer made entries whole empty at held there listed is = tt
cpu_more source o lines (Some c) p first progress registers buffer made entries whole empty at held there listed is =
    rw (is, at, empty, held, listed, whole, ← same_Some _ _ there) refl
