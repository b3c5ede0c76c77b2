-- Why a trace is watched no further, and how `explain` then ends: docs/DEFINITIONS.md, "Explanations".
use Rattle.ra_explain.specs.declared.refused.ExplainRefused.{ExplainRefused}
use Rattle.ra_explain.specs.declared.refused.ExplainRefused.TheVariants as refused
use Rattle.ra_session.specs.Failures.{ending_of_trace, trace_failed}
use Rattle.ra_session.specs.declared.ending.Ending.{Ending}
use Rattle.ra_session.specs.declared.ending.Ending.TheVariants.{NoMemory, ManyRows}
use Rattle.ra_explain_job.specs.declared.failed.Untaken.{Untaken}
use Rattle.ra_explain_job.specs.declared.failed.Untaken.TheVariants as untaken
use Rattle.ra_explain_job.specs.declared.failed.WatchFailed.{WatchFailed}
use Rattle.ra_explain_job.specs.declared.failed.WatchFailed.TheVariants.{Trace, Rows, Memory}

-- a frame that is refused is not taken
abbrev pub untaken_by : ExplainRefused → Untaken
untaken_by (refused.Rows found) = untaken.Rows found
untaken_by refused.Memory = untaken.Memory

-- how a job ends whose trace is watched no further
abbrev pub ending_of_watch : WatchFailed → Ending
ending_of_watch (Trace error) = ending_of_trace (trace_failed error)
ending_of_watch (Rows found) = ManyRows found
ending_of_watch Memory = NoMemory
