-- What a program file says: a text of the grammar, whose first word is `litmus`, does not begin as an object file does.
use Rattle.std.proofs.Common.{◌≡◌, ◌∙◌, ℕ, true, false, Ok, List, [], ◌∷◌, ◌++◌, get_or, refl, ap, sym, arith, codes, map, inl, inr}
use Rattle.std.specs.Prelude.{◌⊎◌, nat_eq}
use Rattle.std.specs.List.{filter, starts_with}
use Rattle.std.proofs.lemmas.Bool.{cases_Bool}
use Rattle.text_tokens.specs.Text.{goes_on_by, lines_of, tokens_by, tokens_of}
use Rattle.text_tokens.proofs.TestsThatPassed.{refused_as_ok}
use Rattle.isa.specs.Objects.{Object}
use Rattle.loader.specs.Reading.{object_of}
use Rattle.loader.specs.Spelling.{object_bytes}
use Rattle.loader.specs.declared.version.Version.{Version}
use Rattle.loader.specs.declared.version.Version.TheVariants.{One, Two}
use Rattle.litmus_text.specs.Grammar.{IsText}
use Rattle.litmus_text.specs.Rows.{has_tokens, rows_of}
use Rattle.litmus_text.specs.Texts.{litmus_of}
use Rattle.commands.specs.declared.fault.Refused.TheVariants as refusals
use Rattle.commands.specs.Programs.{HasGoodQuestions, is_object_file, program_of, text_program_of}
use Rattle.commands.proofs.AskedSheets.{sheet_tells, sheet_told}
use Rattle.sheets.specs.Reading.{are_of_sheet, is_sheet, litmus_said}

-- the first of these begins with P
record BeginsWithP (texts : List (List ℕ)) : Type 0 where
  first : List ℕ
  others : List (List ℕ)
  same : texts ≡ (80 ∷ first) ∷ others

line_begins : (text : List ℕ) (lines : List (List ℕ)) → lines_of text ≡ lines → BeginsWithP (lines_of (80 ∷ text))
unfolding lines_of
line_begins text [] e = record { first = []; others = []; same = rw e refl }
line_begins text (line ∷ lines) e = record { first = line; others = lines; same = rw e refl }

token_begins : (line : List ℕ) (tokens : List (List ℕ)) → tokens_by (codes ",[]:") (codes "#") line ≡ tokens → BeginsWithP (tokens_of (80 ∷ line))
unfolding tokens_of
token_begins line tokens e = elim (cases_Bool (goes_on_by (codes ",[]:") (codes "#") line)) [
  | inl more ↦ longer line tokens e more
  | inr last ↦ record { first = []; others = tokens; same = rw (last, e) refl }
]
  where
    longer : (line : List ℕ) (tokens : List (List ℕ)) → tokens_by (codes ",[]:") (codes "#") line ≡ tokens → goes_on_by (codes ",[]:") (codes "#") line ≡ true → BeginsWithP (tokens_of (80 ∷ line))
    longer line [] e more = record { first = []; others = []; same = rw (more, e) refl }
    longer line (token ∷ tokens) e more = record { first = token; others = tokens; same = rw (more, e) refl }

-- the first byte of the first token
abbrev first_byte : List (List (List ℕ)) → ℕ
first_byte rows = get_or (get_or (get_or rows 0 []) 0 []) 0 0

-- what begins with P has another first word
other_word : (text : List ℕ) (tokens : List (List ℕ)) (rows : List (List (List ℕ))) → rows_of (lines_of (80 ∷ text)) ≡ (codes "litmus" ∷ tokens) ∷ rows → ⊥
other_word text tokens rows is =
    let line = line_begins text (lines_of text) refl in
    let token = token_begins line.first (tokens_by (codes ",[]:") (codes "#") line.first) refl in
    let found : rows_of (lines_of (80 ∷ text)) ≡ ((80 ∷ token.first) ∷ token.others) ∷ filter has_tokens (map tokens_of line.others) = rw (line.same, token.same) refl in
    let both : ◌≡◌ {A = ℕ} 80 108 = ap first_byte (sym found ∙ is) in
    absurd (omega arith)

-- an object file has another first word
no_text : (bytes : List ℕ) (o : Object) → IsText (lines_of bytes) o → is_object_file bytes ≡ true → ⊥
no_text [] o text begins = absurd cc
no_text (b ∷ rest) o text begins = elim (cases_Bool (nat_eq 80 b)) [
  | inl p ↦ let is : b ≡ 80 = search arith in other_word rest (codes "1" ∷ []) (text.data_part ++ text.processor_part) (rw is at text.rows)
  | inr other ↦ let none : starts_with nat_eq (b ∷ rest) (codes "PX86OBJ") ≡ false = rw other refl in absurd cc
]

-- ---- sheets

-- what begins with `litmus` is none: a line tells by its tokens, and one without tokens leaves it to the lines after it
line_tells : (line : List ℕ) (lines : List (List ℕ)) (tokens : List (List ℕ)) (rows : List (List (List ℕ)))
    → (rows_of lines ≡ (codes "litmus" ∷ tokens) ∷ rows → are_of_sheet lines ≡ false)
    → (found : List (List ℕ)) → tokens_of line ≡ found → rows_of (line ∷ lines) ≡ (codes "litmus" ∷ tokens) ∷ rows → are_of_sheet (line ∷ lines) ≡ false
unfolding are_of_sheet
line_tells line lines tokens rows later [] none is = rw none (later (rw none at is))
line_tells line lines tokens rows later (first ∷ others) some is =
    let here : ((first ∷ others) ∷ rows_of lines) ≡ (codes "litmus" ∷ tokens) ∷ rows = rw some at is in
    let same : first ≡ codes "litmus" = ap (λ (found : List (List (List ℕ))). get_or (get_or found 0 []) 0 []) here in
    rw (some, same) refl

litmus_is_no_sheet : (lines : List (List ℕ)) (tokens : List (List ℕ)) (rows : List (List (List ℕ))) → rows_of lines ≡ (codes "litmus" ∷ tokens) ∷ rows → are_of_sheet lines ≡ false
litmus_is_no_sheet [] tokens rows is = absurd cc
litmus_is_no_sheet (line ∷ lines) tokens rows is = line_tells line lines tokens rows (litmus_is_no_sheet lines tokens rows) (tokens_of line) refl is

text_is_no_sheet : (bytes : List ℕ) (o : Object) → IsText (lines_of bytes) o → is_sheet bytes ≡ false
text_is_no_sheet bytes o text = litmus_is_no_sheet (lines_of bytes) (codes "1" ∷ []) (text.data_part ++ text.processor_part) text.rows

-- nor is what begins with P
object_is_no_sheet : (bytes : List ℕ) → is_object_file bytes ≡ true → is_sheet bytes ≡ false
unfolding are_of_sheet
object_is_no_sheet [] begins = absurd cc
object_is_no_sheet (b ∷ rest) begins = elim (cases_Bool (nat_eq 80 b)) [
  | inl p ↦
      let is : b ≡ 80 = search arith in
      let line = line_begins rest (lines_of rest) refl in
      let token = token_begins line.first (tokens_by (codes ",[]:") (codes "#") line.first) refl in
      rw (is, line.same, token.same) refl
  | inr other ↦ let none : starts_with nat_eq (b ∷ rest) (codes "PX86OBJ") ≡ false = rw other refl in absurd cc
]

-- ---- what is read

-- a text is read as a text
pub text_is_program : (bytes : List ℕ) (o : Object) → IsText (lines_of bytes) o → litmus_of bytes ≡ Ok o → program_of bytes ≡ Ok o
text_is_program bytes o text read = elim (cases_Bool (is_object_file bytes)) [
  | inl object ↦ absurd (no_text bytes o text object)
  | inr other ↦ let plain = text_is_no_sheet bytes o text in rw (other, plain, read) refl
]

-- a sheet is read as a sheet
pub sheet_is_program : (bytes : List ℕ) (o : Object) → is_sheet bytes ≡ true → litmus_of (litmus_said bytes) ≡ Ok o → HasGoodQuestions bytes → program_of bytes ≡ Ok o
sheet_is_program bytes o is read good = elim (cases_Bool (is_object_file bytes)) [
  | inl object ↦ let none = object_is_no_sheet bytes object in absurd (let both : true ≡ false = sym is ∙ none in cc)
  | inr other ↦ rw (other, is, sheet_tells bytes o read good) refl
]

-- an object is read as an object
pub object_is_program : (version : Version) (o : Object) → object_of (object_bytes version o) ≡ Ok o → program_of (object_bytes version o) ≡ Ok o
object_is_program One o read = rw read refl
object_is_program Two o read = rw read refl

-- and no other file is a program
abbrev IsReadSheet : List ℕ → Object → Type 0
IsReadSheet bytes o = (is_sheet bytes ≡ true) × (litmus_of (litmus_said bytes) ≡ Ok o) × HasGoodQuestions bytes

text_program_is : (bytes : List ℕ) (o : Object) → text_program_of bytes ≡ Ok o → (litmus_of bytes ≡ Ok o) ⊎ IsReadSheet bytes o
text_program_is bytes o is = elim (cases_Bool (is_sheet bytes)) [
  | inl sheet ↦ let told = sheet_told bytes o (rw sheet at is) in inr (sheet, told.0, told.1)
  | inr plain ↦ inl (rw plain at is)
]

pub program_is : (bytes : List ℕ) (o : Object) → program_of bytes ≡ Ok o → (object_of bytes ≡ Ok o) ⊎ ((litmus_of bytes ≡ Ok o) ⊎ IsReadSheet bytes o)
program_is bytes o is = elim (cases_Bool (is_object_file bytes)) [
  | inl object ↦ inl (refused_as_ok (λ fault. refusals.Object fault) (object_of bytes) o (rw object at is))
  | inr other ↦ inr (text_program_is bytes o (refused_as_ok (λ fault. refusals.Text fault) (text_program_of bytes) o (rw other at is)))
]
