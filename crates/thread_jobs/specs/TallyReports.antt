-- A tally as text.
use Rattle.std.specs.Prelude.{ℕ, ◌+◌, List, [], ◌∷◌, ◌++◌, codes, decimal}
use Rattle.std.specs.List.{flat_map}
use Rattle.lines_layout.specs.Layouts.{NamedLines}
use Rattle.hunt.specs.declared.observed.WordPair.{WordPair}
use Rattle.hunt.specs.Outcomes.{Observed}
use Rattle.commands.specs.ImageTexts.{line}
use Rattle.commands.specs.OutcomeTexts.{named_texts, names_of, registers_text}
use Rattle.lines_layout.specs.Names.{Text}

-- the registers of processors that are not 0, where the first processor has the number p
abbrev pub processors_text : ℕ → List (List ℕ) → Text
processors_text p [] = []
processors_text p (values ∷ others) = registers_text p values ++ processors_text (p + 1) others

-- the values of a word
abbrev pub word_text : Text → WordPair → Text
word_text name pair = codes " " ++ name ++ codes "=" ++ decimal pair.coherent ++ codes "/" ++ decimal pair.persisted

-- an outcome and how often it comes
abbrev pub outcome_text : NamedLines → Observed × ℕ → Text
outcome_text layout entry =
    line (codes "outcome " ++ decimal entry.1 ++ processors_text 0 entry.0.registers ++ named_texts word_text (names_of layout) entry.0.words)

-- the outcomes of a tally
abbrev pub tally_text : NamedLines → List (Observed × ℕ) → Text
tally_text layout tally = flat_map (outcome_text layout) tally
