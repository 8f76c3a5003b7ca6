-- Addresses and memory operands.
use Rattle.std.proofs.Common.{◌≡◌, ℕ, true, List, Option, Some, None, refl, sym, ap, subst, ◌∙◌}
use Rattle.std.specs.Prelude.{Bool, is_some, option_map, IfSome}
use Rattle.std.specs.Option.{option_map_or}
use Rattle.lines_layout.specs.Lines.{address_of, has_word, word_at}
pub use Rattle.lines_layout.proofs.Addresses.{both}
use Rattle.lines_layout.proofs.Addresses.{word_found, word_again}
use Rattle.isa.specs.declared.instr.MemoryOperand.{MemoryOperand}
use Rattle.isa.specs.declared.instr.MemoryOperand.TheVariants as operands
use Rattle.isa.specs.Operands.{word_of}
use Rattle.codec.specs.declared.form.Address.{Address}
use Rattle.codec.specs.declared.form.Address.TheVariants.{Absolute, Register}
use Rattle.codec.specs.declared.form.Form.{Form}
use Rattle.codec.specs.Code.{memory_address}
use Rattle.codec.specs.Faults.{address_in, IsAddress, NamesWord}
use Rattle.codec.specs.Programs.{operand_at, names_word}

-- whether a word that is named by its address is there
abbrev pub is_there : List ℕ → MemoryOperand → Bool
is_there shape operand = option_map_or (has_word shape) (word_of operand) true

mapped_found : (shape : List ℕ) (address : ℕ) (o : Option ℕ) (operand : MemoryOperand) → word_at shape address ≡ o → option_map operands.Word o ≡ Some operand
    → (memory_address operand ≡ Absolute address) × (is_there shape operand ≡ true)
mapped_found shape address None operand e f = absurd cc
mapped_found shape address (Some word) (operands.Word v) e f =
    let same : word ≡ v = cc in
    let found = word_found shape address v (e ∙ ap (λ (w : ℕ). Some w) same) in
    (ap (λ (a : ℕ). Absolute a) (sym found.1), found.0)
mapped_found shape address (Some word) (operands.Register r) e f = absurd cc

pub operand_found : (shape : List ℕ) (m : Address) (operand : MemoryOperand) → operand_at shape m ≡ Some operand → (memory_address operand ≡ m) × (is_there shape operand ≡ true)
operand_found shape (Absolute address) operand e = mapped_found shape address (word_at shape address) operand refl e
operand_found shape (Register r) operand e =
    let same : operands.Register r ≡ operand = cc in
    subst (λ (m : MemoryOperand). (memory_address m ≡ Register r) × (is_there shape m ≡ true)) same (refl, refl)

pub operand_again : (shape : List ℕ) (operand : MemoryOperand) → is_there shape operand ≡ true → operand_at shape (memory_address operand) ≡ Some operand
operand_again shape (operands.Word word) there = ap (option_map operands.Word) (word_again shape word there)
operand_again shape (operands.Register r) there = refl

pub operand_of_word : (shape : List ℕ) (m : Address) → IsAddress shape m → (operand : MemoryOperand) × (operand_at shape m ≡ Some operand)
operand_of_word shape (Absolute address) w = (operands.Word w.0, ap (λ (a : ℕ). option_map operands.Word (word_at shape a)) w.2 ∙ ap (option_map operands.Word) (word_again shape w.0 w.1))
operand_of_word shape (Register r) w = (operands.Register r, refl)

pub word_of_operand : (shape : List ℕ) (m : Address) (operand : MemoryOperand) → operand_at shape m ≡ Some operand → IsAddress shape m
word_of_operand shape (Absolute address) (operands.Word word) e =
    let found = operand_found shape (Absolute address) (operands.Word word) e in
    let same : address_of word ≡ address = cc in
    (word, found.1, sym same)
word_of_operand shape (Absolute address) (operands.Register r) e =
    let found = operand_found shape (Absolute address) (operands.Register r) e in
    absurd cc
word_of_operand shape (Register r) operand e = tt

is_word : (shape : List ℕ) (m : Address) (o : Option MemoryOperand) → operand_at shape m ≡ o → is_some o ≡ true → IsAddress shape m
is_word shape m None e f = absurd cc
is_word shape m (Some operand) e f = word_of_operand shape m operand e

is_named : (shape : List ℕ) (o : Option Address) → option_map_or (λ m. is_some (operand_at shape m)) o true ≡ true → IfSome o (IsAddress shape)
is_named shape None e = tt
is_named shape (Some m) e = is_word shape m (operand_at shape m) refl e

pub named : (shape : List ℕ) (x : Form) → names_word shape x ≡ true → NamesWord shape x
named shape x e = is_named shape (address_in x) e

tests_named : (shape : List ℕ) (o : Option Address) → IfSome o (IsAddress shape) → option_map_or (λ m. is_some (operand_at shape m)) o true ≡ true
tests_named shape None w = refl
tests_named shape (Some m) w =
    let there = operand_of_word shape m w in
    ap is_some there.1

pub test_named : (shape : List ℕ) (x : Form) → NamesWord shape x → names_word shape x ≡ true
test_named shape x w = tests_named shape (address_in x) w
