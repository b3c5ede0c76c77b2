-- Why a trace is refused, in a word: docs/DEFINITIONS.md, "Trace file".
use Rattle.std.specs.Prelude.{ℕ, List, codes}
use Rattle.ra_trace.specs.declared.error.Why.{Why}
use Rattle.ra_trace.specs.declared.error.Why.TheVariants.{Header, Kind, Cut, PastMemory, Slot, EmptySlot}

-- why a trace is refused, in a word
abbrev pub trace_word : Why → List ℕ
trace_word Header = codes "header"
trace_word Kind = codes "kind"
trace_word Cut = codes "cut"
trace_word PastMemory = codes "memory"
trace_word Slot = codes "slot"
trace_word EmptySlot = codes "empty"
