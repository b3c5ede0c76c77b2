-- Nodes that have a row, and a row more.
use Rattle.std.proofs.Common.{ℕ, ◌<◌, inl, inr, [], ◌∷◌, ◌++◌, length, subst, sym}
use Rattle.std.proofs.lemmas.List.{get_or_append_left, get_or_past}
use Rattle.std.proofs.lemmas.Bool.{cases_lt}
use Rattle.ra_links.proofs.Listed.{none_listed}
use Rattle.ra_schedule.specs.Readers.{IsListed, ReadersSeen, Reads}

-- whoever reads a node names one that has a row
pub reads_within : (readers : ReadersSeen) (n reader : ℕ) → Reads readers n reader → n < length readers.rows
reads_within readers n reader reads = elim (cases_lt n (length readers.rows)) [
  | inl within ↦ within
  | inr past ↦ absurd (none_listed reader (subst (IsListed reader) (get_or_past readers.rows n [] past) reads))
]

-- with a row more nodes are read by whom they were read
pub reads_still : (readers : ReadersSeen) (n reader : ℕ) → Reads readers n reader
    → Reads (record readers { rows = readers.rows ++ [] ∷ [] }) n reader
reads_still readers n reader reads =
    let below = reads_within readers n reader reads in
    subst (IsListed reader) (sym (get_or_append_left readers.rows ([] ∷ []) [] n below)) reads
