-- That the sites in a report are those of the instructions that wrote and flushed, said of what the steps of a run show.
use Rattle.std.specs.Prelude.{◌≡◌, ℕ, Bool, true, false, Option, Some, None, IfSome, List, Contains, slice_get, take}
use Rattle.std.specs.List.{list_any}
use Rattle.lines_layout.specs.Lines.{line_of}
use Rattle.store_buffer.specs.declared.entry.Entry.{Entry}
use Rattle.store_buffer.specs.declared.entry.Entry.TheVariants as entries
use Rattle.persist_buffer.specs.declared.entry.PendingEntry.{PendingEntry}
use Rattle.persist_buffer.specs.declared.entry.PendingEntry.TheVariants.{Write, Marker}
use Rattle.processor.specs.declared.act.Act.{Act}
use Rattle.processor.specs.declared.act.Act.TheVariants.{Delay, Locked}
use Rattle.machine.specs.declared.step.Seen.{Seen}
use Rattle.machine.specs.declared.step.Seen.TheVariants.{Ran, Crashed}
use Rattle.image_reasons.specs.declared.entries.Site.{Site}
use Rattle.image_reasons.specs.declared.missing.Missing.{Missing}
use Rattle.image_reasons.specs.declared.missing.Why.{Why}
use Rattle.image_reasons.specs.declared.missing.Why.TheVariants.{InStoreBuffer, StoredAfter, FlushPending, FlushBuffered, FlushBehind, FlushedBefore, NeverFlushed}

-- whether a step was a crash
abbrev pub is_crash : Seen → Bool
is_crash (Crashed count) = true
is_crash _ = false

-- what a buffered entry puts into the pending list once it leaves
abbrev pub entry_put : Entry → Option PendingEntry
entry_put (entries.Write word value) = Some (Write word value)
entry_put (entries.Flush line) = Some (Marker line)
entry_put (entries.FlushOpt line) = Some (Marker line)
entry_put entries.Sfence = None

-- what an instruction puts there, at once or later
abbrev pub act_put : Act → Option PendingEntry
act_put (Delay entry) = entry_put entry
act_put (Locked word value (Some written)) = Some (Write word written)
act_put _ = None

-- Step n ran the instruction at a site, which puts this entry into the pending list. It is of the recovery program exactly where a
-- crash came before.
pub record IsRunOf (run : List Seen) (n : ℕ) (site : Site) (entry : PendingEntry) : Type 0 where
  pub act : Act
  pub shown : slice_get run n ≡ Some (Ran site.processor site.place act)
  pub puts : act_put act ≡ Some entry
  pub recovering : site.recovering ≡ list_any is_crash (take n run)

-- Some step did.
abbrev pub IsSiteOf : List Seen → PendingEntry → Site → Type 0
IsSiteOf run entry site = (n : ℕ) × IsRunOf run n site entry

-- The site of a write of some value
abbrev pub IsSiteOfWrite : List Seen → Site → Type 0
IsSiteOfWrite run site = (word : ℕ) × (value : ℕ) × IsSiteOf run (Write word value) site

-- The flush in a reason is one of this line. What has passed it is a write, and so is what comes before it, or before a buffered write.
abbrev pub IsReasonOf : List Seen → ℕ → Why → Type 0
IsReasonOf run line InStoreBuffer = Unit {0}
IsReasonOf run line (StoredAfter store) = IsSiteOfWrite run store
IsReasonOf run line (FlushPending flush) = IsSiteOf run (Marker line) flush
IsReasonOf run line (FlushBuffered flush passing) = IsSiteOf run (Marker line) flush × IfSome passing (IsSiteOfWrite run)
IsReasonOf run line (FlushBehind flush store) = IsSiteOf run (Marker line) flush × IsSiteOfWrite run store
IsReasonOf run line (FlushedBefore flush) = IsSiteOf run (Marker line) flush
IsReasonOf run line NeverFlushed = Unit {0}

-- The site of a missing write is that of an instruction that wrote this value to this word.
pub record IsTold (run : List Seen) (w : Missing) : Type 0 where
  pub site : IsSiteOf run (Write w.word w.value) w.site
  pub why : IsReasonOf run (line_of w.word) w.why

abbrev pub AreTold : List Seen → List Missing → Type 0
AreTold run missing = (w : Missing) → Contains missing w → IsTold run w
