-- One more token, and one more line.
use Rattle.std.proofs.Common.{◌≡◌, ℕ, ◌+◌, ◌++◌, false, Bool, Option, None, Some, Ok, Err, List, [], ◌∷◌, decimal, refl}
use Rattle.text_tokens.specs.Cursors.{Token}
use Rattle.text_tokens.specs.Text.{tokens_of}
use Rattle.lines_layout.specs.Layouts.{NamedLines}
use Rattle.litmus_text.specs.declared.fault.LineFault.{LineFault}
use Rattle.sheets.specs.Abbreviations.{Names, in_copy, numbered_copy}
use Rattle.sheets.specs.Texts.{plain_from, said_from, token_said, with_blank}
use Rattle.sheets.specs.Words.{Words, counted_from, line_given, line_said, lines_given, lines_said, value_said, values_from, word_after, words_from}
use Rattle.sheets.specs.Sheets.{Sheet, copies_from, copy_after, copy_from, copy_of, line_after, sheet_from}
use Rattle.sheets.specs.Reading.{are_of_sheet, begins_sheet}

-- ---- tokens as they stand

pub no_plain : (text : List ℕ) (tokens : List Token) → tokens ≡ [] → plain_from text tokens ≡ text
unfolding plain_from
no_plain text tokens e = rw e refl

pub one_plain : (text more : List ℕ) (tokens : List Token) (token : Token) (others : List Token) → tokens ≡ token ∷ others → more ≡ text ++ with_blank token → plain_from more others ≡ plain_from text tokens
unfolding plain_from
one_plain text more tokens token others e is = rw (e, is) refl

pub ruleset plain_steps = (no_plain, one_plain)

-- ---- tokens of a copy

pub none_said : (names : Names) (copy : Option ℕ) (text : List ℕ) (tokens : List Token) → tokens ≡ [] → said_from names copy text tokens ≡ Ok text
unfolding said_from
none_said names copy text tokens e = rw e refl

pub one_said : (names : Names) (copy : Option ℕ) (text more : List ℕ) (tokens : List Token) (token : Token) (others : List Token)
    → tokens ≡ token ∷ others → token_said names copy text token ≡ Ok more → said_from names copy more others ≡ said_from names copy text tokens
unfolding said_from
one_said names copy text more tokens token others e read = rw (e, read) refl

pub fault_said : (names : Names) (copy : Option ℕ) (text : List ℕ) (tokens : List Token) (token : Token) (others : List Token) (kind : LineFault)
    → tokens ≡ token ∷ others → token_said names copy text token ≡ Err kind → said_from names copy text tokens ≡ Err kind
unfolding said_from
fault_said names copy text tokens token others kind e read = rw (e, read) refl

pub ruleset said_steps = (none_said, one_said, fault_said)

-- ---- counted names

pub none_counted : (name : Token) (text : List ℕ) (numbers : List ℕ) → numbers ≡ [] → counted_from name text numbers ≡ text
unfolding counted_from
none_counted name text numbers e = rw e refl

pub one_counted : (name : Token) (text more : List ℕ) (numbers : List ℕ) (i : ℕ) (others : List ℕ) → numbers ≡ i ∷ others → more ≡ text ++ with_blank (name ++ decimal i)
    → counted_from name more others ≡ counted_from name text numbers
unfolding counted_from
one_counted name text more numbers i others e is = rw (e, is) refl

pub ruleset counted_steps = (none_counted, one_counted)

-- ---- words of a line

pub no_word : (names : Names) (copy : Option ℕ) (w : Words) (tokens : List Token) → tokens ≡ [] → words_from names copy w tokens ≡ Ok w
unfolding words_from
no_word names copy w tokens e = rw e refl

pub one_word : (names : Names) (copy : Option ℕ) (w next : Words) (tokens : List Token) (token : Token) (others : List Token)
    → tokens ≡ token ∷ others → word_after w.place names w (in_copy copy token) ≡ Ok next → words_from names copy next others ≡ words_from names copy w tokens
unfolding words_from
one_word names copy w next tokens token others e read = rw (e, read) refl

pub fault_word : (names : Names) (copy : Option ℕ) (w : Words) (tokens : List Token) (token : Token) (others : List Token) (kind : LineFault)
    → tokens ≡ token ∷ others → word_after w.place names w (in_copy copy token) ≡ Err kind → words_from names copy w tokens ≡ Err kind
unfolding words_from
fault_word names copy w tokens token others kind e read = rw (e, read) refl

pub ruleset word_steps = (no_word, one_word, fault_word)

-- ---- copies of a line

pub no_line : (names : Names) (count : Option ℕ) (tokens : List Token) (text : List ℕ) (numbers : List ℕ) → numbers ≡ [] → lines_said names count tokens text numbers ≡ Ok text
unfolding lines_said
no_line names count tokens text numbers e = rw e refl

pub one_line : (names : Names) (count : Option ℕ) (tokens : List Token) (text more : List ℕ) (numbers : List ℕ) (i : ℕ) (others : List ℕ)
    → numbers ≡ i ∷ others → line_said names tokens text (numbered_copy count i) ≡ Ok more → lines_said names count tokens more others ≡ lines_said names count tokens text numbers
unfolding lines_said
one_line names count tokens text more numbers i others e read = rw (e, read) refl

pub fault_line : (names : Names) (count : Option ℕ) (tokens : List Token) (text : List ℕ) (numbers : List ℕ) (i : ℕ) (others : List ℕ) (kind : LineFault)
    → numbers ≡ i ∷ others → line_said names tokens text (numbered_copy count i) ≡ Err kind → lines_said names count tokens text numbers ≡ Err kind
unfolding lines_said
fault_line names count tokens text numbers i others kind e read = rw (e, read) refl

pub ruleset line_steps = (no_line, one_line, fault_line)

-- ---- names that lines give

pub none_given : (layout : NamedLines) (lines : List (List ℕ)) → lines ≡ [] → lines_given layout lines ≡ layout
unfolding lines_given
none_given layout lines e = rw e refl

pub one_given : (layout more : NamedLines) (lines : List (List ℕ)) (line : List ℕ) (others : List (List ℕ)) → lines ≡ line ∷ others → more ≡ line_given layout line
    → lines_given more others ≡ lines_given layout lines
unfolding lines_given
one_given layout more lines line others e is = rw (e, is) refl

pub ruleset given_steps = (none_given, one_given)

-- ---- values

pub no_value : (names : Names) (text : List ℕ) (word : ℕ) (tokens : List Token) → tokens ≡ [] → values_from names text word tokens ≡ Ok text
unfolding values_from
no_value names text word tokens e = rw e refl

pub one_value : (names : Names) (text more : List ℕ) (word : ℕ) (tokens : List Token) (token : Token) (others : List Token)
    → tokens ≡ token ∷ others → value_said names text word token ≡ Ok more → values_from names more (word + 1) others ≡ values_from names text word tokens
unfolding values_from
one_value names text more word tokens token others e read = rw (e, read) refl

pub fault_value : (names : Names) (text : List ℕ) (word : ℕ) (tokens : List Token) (token : Token) (others : List Token) (kind : LineFault)
    → tokens ≡ token ∷ others → value_said names text word token ≡ Err kind → values_from names text word tokens ≡ Err kind
unfolding values_from
fault_value names text word tokens token others kind e read = rw (e, read) refl

pub ruleset value_steps = (no_value, one_value, fault_value)

-- ---- lines of a copy

pub no_copy_line : (p n : ℕ) (s : Sheet) (lines : List (List ℕ)) → lines ≡ [] → copy_from p n s lines ≡ s
unfolding copy_from
no_copy_line p n s lines e = rw e refl

pub one_copy_line : (p n : ℕ) (s t : Sheet) (lines : List (List ℕ)) (line : List ℕ) (others : List (List ℕ)) → lines ≡ line ∷ others → t ≡ copy_after p n s line
    → copy_from p (n + 1) t others ≡ copy_from p n s lines
unfolding copy_from
one_copy_line p n s t lines line others e is = rw (e, is) refl

pub ruleset copy_steps = (no_copy_line, one_copy_line)

-- ---- copies of a block

pub no_block_more : (rows : List ℕ) (s : Sheet) (ps : List ℕ) → ps ≡ [] → copies_from rows s ps ≡ s
unfolding copies_from
no_block_more rows s ps e = rw e refl

pub one_block_more : (rows : List ℕ) (s t : Sheet) (ps : List ℕ) (p : ℕ) (others : List ℕ) → ps ≡ p ∷ others → t ≡ copy_of rows s p
    → copies_from rows t others ≡ copies_from rows s ps
unfolding copies_from
one_block_more rows s t ps p others e is = rw (e, is) refl

pub ruleset block_steps = (no_block_more, one_block_more)

-- ---- lines of a sheet

pub no_sheet_line : (n : ℕ) (s : Sheet) (lines : List (List ℕ)) → lines ≡ [] → sheet_from n s lines ≡ s
unfolding sheet_from
no_sheet_line n s lines e = rw e refl

pub one_sheet_line : (n : ℕ) (s t : Sheet) (lines : List (List ℕ)) (line : List ℕ) (others : List (List ℕ)) → lines ≡ line ∷ others → t ≡ line_after n s line
    → sheet_from (n + 1) t others ≡ sheet_from n s lines
unfolding sheet_from
one_sheet_line n s t lines line others e is = rw (e, is) refl

pub ruleset sheet_steps = (no_sheet_line, one_sheet_line)

-- ---- the first line with tokens

pub no_opening : (lines : List (List ℕ)) → lines ≡ [] → are_of_sheet lines ≡ false
unfolding are_of_sheet
no_opening lines e = rw e refl

pub blank_opening : (lines : List (List ℕ)) (line : List ℕ) (others : List (List ℕ)) → lines ≡ line ∷ others → begins_sheet (tokens_of line) ≡ None → are_of_sheet others ≡ are_of_sheet lines
unfolding are_of_sheet
blank_opening lines line others e none = rw (e, none) refl

pub opening : (lines : List (List ℕ)) (line : List ℕ) (others : List (List ℕ)) (begins : Bool) → lines ≡ line ∷ others → begins_sheet (tokens_of line) ≡ Some begins → are_of_sheet lines ≡ begins
unfolding are_of_sheet
opening lines line others begins e some = rw (e, some) refl

pub ruleset opening_steps = (no_opening, blank_opening, opening)
