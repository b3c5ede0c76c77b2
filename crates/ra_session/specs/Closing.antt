-- How a job ends before its last line, and what the last line adds: docs/DEFINITIONS.md, "Statuses".
use Rattle.std.specs.Prelude.{◌≡◌, ◌⊎◌, ℕ, Option, List, take}
use Rattle.std.specs.List.{concat}
use Rattle.ra_io.specs.Sink.{grown}
use Rattle.ra_jobs.specs.Closing.{Closes}
use Rattle.ra_jobs.specs.Writing.{GrewByPart}
use Rattle.ra_session.specs.Endings.{status_of, last_line}
use Rattle.ra_session.specs.Expected.{Expected, IsReadBehind, before_put}
use Rattle.ra_session.specs.declared.ending.Ending.{Ending}
use Rattle.ra_session.specs.declared.ending.Ending.TheVariants.{Done, NoMemory, ReadFault, SinkFault, SaveFault}

-- the status and the last line of a job that ended so
abbrev pub Finishes : Ending → (old new : Option (List ℕ)) → (sink : Type 0) → (status : ℕ) → Type 0
Finishes ending old new sink status = Closes (status_of ending) (last_line ending) old new sink status

-- what a job that is expected to say this has printed where it ends so
abbrev pub EndsBefore : Expected → (reads puts sink : Type 0) → Ending → (old new : Option (List ℕ)) → Type 0
EndsBefore e reads puts sink NoMemory old new = GrewByPart old new (concat e.pieces)
EndsBefore e reads puts sink SinkFault old new = sink × GrewByPart old new (concat e.pieces)
EndsBefore e reads puts sink ReadFault old new = reads
    × ((records : ℕ) × IsReadBehind e records × (new ≡ grown old (concat (take records e.pieces))))
EndsBefore e reads puts sink SaveFault old new = puts × (e.ending ≡ Done) × (new ≡ grown old (concat (before_put e)))
EndsBefore e reads puts sink ending old new = (e.ending ≡ ending) × (new ≡ grown old (concat e.pieces))

-- where a read failed: one of a file that decides before anything was printed, or also one of the trace after some
-- records
abbrev pub EndsAtRead : Expected → (reads trace : Type 0) → (old new : Option (List ℕ)) → Type 0
EndsAtRead e reads trace old new =
    reads × ((IsReadBehind e 0 × (new ≡ old)) ⊎ (trace × ((records : ℕ) × IsReadBehind e records
    × (new ≡ grown old (concat (take records e.pieces))))))

-- the same of a job, whose trace is told apart from the other files that decide
abbrev pub EndsJob : Expected → (reads trace puts sink : Type 0) → Ending → (old new : Option (List ℕ)) → Type 0
EndsJob e reads trace puts sink ReadFault old new = EndsAtRead e reads trace old new
EndsJob e reads trace puts sink ending old new = EndsBefore e reads puts sink ending old new
