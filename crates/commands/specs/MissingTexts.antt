-- What is said of an image: the values of its words by name, each write that is missing in it, and why it may be.
use Rattle.std.specs.Prelude.{ℕ, Option, Some, None, List, [], ◌∷◌, ◌++◌, codes, decimal}
use Rattle.std.specs.List.{flat_map}
use Rattle.lines_layout.specs.Layouts.{NamedLines}
use Rattle.lines_layout.specs.Names.{Text}
use Rattle.isa.specs.Objects.{Object}
use Rattle.machine.specs.declared.step.Step.{Step}
use Rattle.litmus_text.specs.TextLines.{TextLines, line_at}
use Rattle.image_reasons.specs.declared.missing.Missing.{Missing}
use Rattle.image_reasons.specs.declared.entries.Site.{Site}
use Rattle.image_reasons.specs.declared.missing.Why.{Why}
use Rattle.image_reasons.specs.declared.missing.Why.TheVariants.{InStoreBuffer, StoredAfter, FlushPending, FlushBuffered, FlushBehind, FlushedBefore, NeverFlushed}
use Rattle.image_reasons.specs.Reasons.{missing_after}
use Rattle.commands.specs.ImageTexts.{line}
use Rattle.commands.specs.OutcomeTexts.{named_texts, names_of}
use Rattle.commands.specs.StateTexts.{name_text, site_text}

-- ---- where an instruction is

-- the line of an instruction, if it stands on one
abbrev pub line_of : TextLines → Site → Option ℕ
line_of lines site = line_at lines site.processor site.recovering site.place

-- where an instruction is, which stands on this line; where it is on none, as that of an object file, its processor, program and place
abbrev pub place_text : Site → Option ℕ → Text
place_text site (Some number) = codes "line " ++ decimal number
place_text site None = site_text site.processor site.recovering site.place

-- the word before it
abbrev pub preposition : Option ℕ → Text
preposition (Some number) = codes " on "
preposition None = codes " at "

-- where an instruction is
abbrev pub where_text : TextLines → Site → Text
where_text lines site = place_text site (line_of lines site)

-- the same after a word of a sentence
abbrev pub there_text : TextLines → Site → Text
there_text lines site = preposition (line_of lines site) ++ where_text lines site

-- ---- why a write may be missing

-- where an instruction is, between two texts
abbrev pub there_between : TextLines → Text → Site → Text → Text
there_between lines before site after = before ++ (there_text lines site ++ after)

-- which store has passed a flush, if one has
abbrev pub passed_text : TextLines → Option Site → Text
passed_text lines None = []
passed_text lines (Some store) = there_between lines (codes ", and the store") store (codes " has passed it")

-- behind which store a flush is
abbrev pub behind_text : TextLines → Site → Text
behind_text lines store = there_between lines (codes ", behind the store") store (codes " that has persisted")

-- after which store of its line a write was stored
abbrev pub after_text : TextLines → Site → Text
after_text lines store = codes "stored after " ++ (where_text lines store ++ codes ", on the same cache line")

-- a flush, and what is said of it
abbrev pub flushed_text : TextLines → Site → Text → Text
flushed_text lines flush said = there_between lines (codes "flushed") flush said

-- what is said of a flush that is pending
abbrev pub stuck_text : Text
stuck_text = codes "; the flush has left the store buffer, and nothing after it has persisted"

-- why a write may be missing
abbrev pub why_text : TextLines → Why → Text
why_text lines InStoreBuffer = codes "in the store buffer"
why_text lines (StoredAfter store) = after_text lines store
why_text lines (FlushPending flush) = flushed_text lines flush stuck_text
why_text lines (FlushBuffered flush passed) = flushed_text lines flush (codes "; that flush is buffered") ++ passed_text lines passed
why_text lines (FlushBehind flush store) = flushed_text lines flush (codes "") ++ behind_text lines store
why_text lines (FlushedBefore flush) = flushed_text lines flush (codes ", before it")
why_text lines NeverFlushed = codes "never flushed"

-- ---- the image

-- the value of a word
abbrev pub word_text : Text → ℕ → Text
word_text name value = codes " " ++ name ++ codes " " ++ decimal value

-- the line of an image: each word with its value
abbrev pub image_named : NamedLines → List ℕ → Text
image_named names image = line (codes "image" ++ named_texts word_text (names_of names) image)

-- what a missing write writes, and where it is
abbrev pub written_text : NamedLines → TextLines → Missing → Text
written_text names lines missing = word_text (name_text names missing.word) missing.value ++ codes " " ++ where_text lines missing.site

-- the line of a missing write
abbrev pub missing_line : NamedLines → TextLines → Missing → Text
missing_line names lines missing = line (codes "missing" ++ written_text names lines missing ++ codes ": " ++ why_text lines missing.why)

-- a line for each missing write, or that none is
abbrev pub missing_lines : NamedLines → TextLines → List Missing → Text
missing_lines names lines [] = line (codes "missing none")
missing_lines names lines (first ∷ others) = flat_map (missing_line names lines) (first ∷ others)

-- nothing of what is no image of the state
abbrev pub missing_text : NamedLines → TextLines → Option (List Missing) → Text
missing_text names lines None = []
missing_text names lines (Some missing) = missing_lines names lines missing

-- an image: its words by name, and the writes that are missing in it
abbrev pub image_lines : NamedLines → TextLines → List ℕ → Option (List Missing) → Text
image_lines names lines image missing = image_named names image ++ missing_text names lines missing

-- the same of an image of the state to which these steps lead
abbrev pub image_explained : Object → TextLines → List Step → List ℕ → Text
image_explained object lines steps image = image_lines object.layout lines image (missing_after object steps image)
