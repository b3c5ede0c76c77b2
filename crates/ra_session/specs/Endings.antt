-- How a job ends: the status and the last line: docs/DEFINITIONS.md, "Statuses".
use Rattle.std.specs.Prelude.{ℕ, List, [], ◌∷◌, ◌++◌, codes, decimal}
use Rattle.ra_set.specs.Words.{set_words}
use Rattle.ra_set.specs.declared.refused.SetRefused.TheVariants.{Limit}
use Rattle.ra_progress.specs.Refusals.{progress_words}
use Rattle.ra_patch.specs.Words.{document_words}
use Rattle.ra_trace.specs.Refusals.{trace_word}
use Rattle.ra_trace.specs.Cutting.{Stop, Reached, RefusedAt, PastLimit}
use Rattle.ra_session.specs.declared.ending.Ending.{Ending}
use Rattle.ra_session.specs.declared.ending.Ending.TheVariants.{Done, NoMemory, NoJob, BadSet, ReadFault, SinkFault}
use Rattle.ra_session.specs.declared.ending.Ending.TheVariants.{BadProgress, BadTrace, LongTrace, SaveFault}
use Rattle.ra_session.specs.declared.ending.Ending.TheVariants.{BadDocument, LongNormal, NoAchievement, ManyRows}

-- the status of each ending
abbrev pub status_of : Ending → ℕ
status_of Done = 0
status_of NoMemory = 1
status_of NoJob = 2
status_of (BadSet why) = 3
status_of ReadFault = 4
status_of SinkFault = 5
status_of (BadProgress why) = 6
status_of (BadTrace at why) = 7
status_of LongTrace = 8
status_of SaveFault = 9
status_of (BadDocument why) = 10
status_of (LongNormal which found) = 11
status_of (NoAchievement id) = 12
status_of (ManyRows found) = 12

-- the line that says how the program is called, without its end
abbrev pub usage : List ℕ
usage = codes "usage: ra_player run SET TRACE [--restore FILE] [--save FILE] | check SET | make N | "
    ++ codes "import FILE SET | lint SET | normal SET OUT | explain SET TRACE ID"

-- the last line, where there is one
abbrev pub last_line : Ending → List ℕ
last_line Done = []
last_line NoMemory = []
last_line NoJob = usage ++ 10 ∷ []
last_line (BadSet why) = codes "set refused: " ++ set_words why ++ 10 ∷ []
last_line ReadFault = codes "read fault\n"
last_line SinkFault = []
last_line (BadProgress why) = codes "progress refused: " ++ progress_words why ++ 10 ∷ []
last_line (BadTrace at why) = codes "trace refused at " ++ decimal at ++ codes ": " ++ trace_word why ++ 10 ∷ []
last_line LongTrace = codes "trace too long\n"
last_line SaveFault = codes "save fault\n"
last_line (BadDocument why) = codes "import refused: " ++ document_words why ++ 10 ∷ []
last_line (LongNormal which found) = codes "normal refused: " ++ set_words (Limit which found) ++ 10 ∷ []
last_line (NoAchievement id) = codes "explain refused: no achievement " ++ decimal id ++ 10 ∷ []
last_line (ManyRows found) = codes "explain refused: rows " ++ decimal found ++ codes " over 67108864\n"

-- how a trace ends a run
abbrev pub ending_of : Stop → Ending
ending_of (Reached at) = Done
ending_of (RefusedAt at why) = BadTrace at why
ending_of PastLimit = LongTrace
