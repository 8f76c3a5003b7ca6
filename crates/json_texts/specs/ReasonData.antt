-- Why writes are missing in an image, and an instruction that is put into a program, as JSON.
use Rattle.std.specs.Prelude.{Bool, Option, None, Some, List, [], ◌∷◌, codes, map}
use Rattle.lines_layout.specs.Names.{Text}
use Rattle.litmus_text.specs.TextLines.{TextLines}
use Rattle.image_reasons.specs.declared.entries.Site.{Site}
use Rattle.image_reasons.specs.declared.missing.Missing.{Missing}
use Rattle.image_reasons.specs.declared.missing.Why.{Why}
use Rattle.image_reasons.specs.declared.missing.Why.TheVariants.{InStoreBuffer, StoredAfter, FlushPending, FlushBuffered, FlushBehind, FlushedBefore, NeverFlushed}
use Rattle.image_reasons.specs.declared.repair.Repair.{Repair}
use Rattle.image_reasons.specs.declared.repair.Side.{Side}
use Rattle.image_reasons.specs.declared.repair.Side.TheVariants.{Before, Behind}
use Rattle.commands.specs.StateTexts.{name_text}
use Rattle.json_texts.specs.Objects.{Tree, boolean, list, num, obj, or_null, word}
use Rattle.json_texts.specs.SourceMaps.{SourceMap}
use Rattle.json_texts.specs.StateData.{where_data, where_if}
use Rattle.json_texts.specs.StepData.{instruction_data}

-- which reason it is
abbrev pub reason_name : Why → Text
reason_name InStoreBuffer = codes "in the store buffer"
reason_name (StoredAfter store) = codes "stored after"
reason_name (FlushPending flush) = codes "flush pending"
reason_name (FlushBuffered flush passed) = codes "flush buffered"
reason_name (FlushBehind flush store) = codes "flush behind"
reason_name (FlushedBefore flush) = codes "flushed before"
reason_name NeverFlushed = codes "never flushed"

-- the flush that it is of
abbrev pub reason_flush : Why → Option Site
reason_flush InStoreBuffer = None
reason_flush (StoredAfter store) = None
reason_flush (FlushPending flush) = Some flush
reason_flush (FlushBuffered flush passed) = Some flush
reason_flush (FlushBehind flush store) = Some flush
reason_flush (FlushedBefore flush) = Some flush
reason_flush NeverFlushed = None

-- the store that has passed that flush
abbrev pub reason_passed : Why → Option Site
reason_passed (FlushBuffered flush passed) = passed
reason_passed _ = None

-- the store that the image has, and that the write or its flush is behind
abbrev pub reason_behind : Why → Option Site
reason_behind (StoredAfter store) = Some store
reason_behind (FlushBehind flush store) = Some store
reason_behind _ = None

-- why a write may be missing
abbrev pub why_data : TextLines → Why → Tree
why_data lines why =
    obj ((codes "reason", word (reason_name why)) ∷ (codes "flush", where_if lines (reason_flush why))
    ∷ (codes "passed", where_if lines (reason_passed why)) ∷ (codes "behind", where_if lines (reason_behind why)) ∷ [])

-- a write that is missing
abbrev pub missing_data : SourceMap → Missing → Tree
missing_data source missing =
    obj ((codes "word", word (name_text source.names missing.word)) ∷ (codes "value", num missing.value)
    ∷ (codes "site", where_data source.lines missing.site) ∷ (codes "why", why_data source.lines missing.why) ∷ [])

-- the same, and whether it is told that it alone is enough
abbrev pub told_data : SourceMap → Missing → Bool → Tree
told_data source missing enough =
    obj ((codes "word", word (name_text source.names missing.word)) ∷ (codes "value", num missing.value)
    ∷ (codes "site", where_data source.lines missing.site) ∷ (codes "why", why_data source.lines missing.why)
    ∷ (codes "enough", boolean enough) ∷ [])

-- writes that are missing, in their order
abbrev pub all_missing_data : SourceMap → List Missing → Tree
all_missing_data source missing = list (map (missing_data source) missing)

-- the writes that are missing in an image, if it is one of the state
abbrev pub missing_if : SourceMap → Option (List Missing) → Tree
missing_if source missing = or_null (all_missing_data source) missing

-- an image explained: these writes
abbrev pub explained_data : SourceMap → Option (List Missing) → Tree
explained_data source missing = obj ((codes "missing", missing_if source missing) ∷ [])

-- a side of an instruction
abbrev pub side_name : Side → Text
side_name Before = codes "before"
side_name Behind = codes "behind"

-- an instruction that is put into a program: on which side of the one that stands where
abbrev pub put_data : SourceMap → Repair → Tree
put_data source repair =
    obj ((codes "side", word (side_name repair.side)) ∷ (codes "site", where_data source.lines repair.site)
    ∷ (codes "instruction", instruction_data source.names repair.instr) ∷ [])
