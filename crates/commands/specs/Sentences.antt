-- What is said of a refused step where no names are known.
use Rattle.std.specs.Prelude.{ℕ, List, codes}
use Rattle.machine.specs.declared.refusal.Refusal.{Refusal}
use Rattle.machine.specs.declared.refusal.Refusal.TheVariants.{Spent, NoCpu, Halted, BufferNotEmpty, BufferFull, NoEntry, Held, LineFull, MarkersFull, NoLine, NoPending, BehindMarker, NoMarker, MarkerWaits}

-- a sentence on each refusal, after its number
abbrev pub refusal_sentence : Refusal → List ℕ
refusal_sentence Spent = codes "M1: 2^62 steps were accepted, and no more are."
refusal_sentence NoCpu = codes "M2: the program has no processor of this number: they count from 0."
refusal_sentence Halted = codes "M3: the processor has ended its program, or is trapped: only a crash starts it again."
refusal_sentence BufferNotEmpty = codes "M4: `mfence` and the locked operations wait until the store buffer is empty: drain it first."
refusal_sentence BufferFull = codes "M5: the store buffer is full, with 128 entries: drain one first."
refusal_sentence NoEntry = codes "M6: the store buffer has no entry at this place: places count from 0, and the oldest entry is at 0."
refusal_sentence (Held holder) = codes "M7: an earlier entry of the store buffer holds this one: drain that one first."
refusal_sentence LineFull = codes "M8: 256 writes of the cache line are pending, and there is no room for more: persist one first."
refusal_sentence MarkersFull = codes "M9: 256 flushes are pending, and there is no room for more: settle one first."
refusal_sentence NoLine = codes "M10: the program has no cache line of this number: they count from 0."
refusal_sentence NoPending = codes "M11: no write of the cache line is pending: drain one first."
refusal_sentence BehindMarker = codes "M12: a flush is pending before the oldest write of the cache line: settle it first."
refusal_sentence NoMarker = codes "M13: no flush is pending: drain one first."
refusal_sentence MarkerWaits = codes "M14: a write of the cache line that the oldest pending flush is of is before it: persist it first."
