-- Why a phase of a job is not done, and how the job then ends: docs/DEFINITIONS.md, "A run".
use Rattle.std.specs.Prelude.{Result, Ok, Err}
use Rattle.ra_io.specs.declared.files.PutFailed.{PutFailed}
use Rattle.ra_io.specs.declared.files.PutFailed.TheVariants as put
use Rattle.ra_io.specs.declared.sink.SinkFailed.{SinkFailed}
use Rattle.ra_io.specs.declared.sink.SinkFailed.TheVariants as write
use Rattle.ra_trace.specs.declared.error.TraceError.{TraceError}
use Rattle.ra_trace.specs.declared.error.TraceError.TheVariants as error
use Rattle.ra_session.specs.declared.ending.Ending.{Ending}
use Rattle.ra_session.specs.declared.ending.Ending.TheVariants.{Done, NoMemory, BadSet, ReadFault, SinkFault}
use Rattle.ra_session.specs.declared.ending.Ending.TheVariants.{BadProgress, BadTrace, LongTrace, SaveFault}
use Rattle.ra_session.specs.declared.ending.Ending.TheVariants.{BadDocument, LongNormal}
use Rattle.ra_patch.specs.declared.refused.PatchRefused.{PatchRefused}
use Rattle.ra_patch.specs.declared.refused.PatchRefused.TheVariants as patch
use Rattle.ra_session.specs.declared.failures.DocumentFailed.{DocumentFailed}
use Rattle.ra_session.specs.declared.failures.DocumentFailed.TheVariants as document
use Rattle.ra_normal.specs.declared.refused.NormalRefused.TheVariants as normal
use Rattle.ra_session.specs.declared.failures.NormalFailed.{NormalFailed}
use Rattle.ra_session.specs.declared.failures.NormalFailed.TheVariants as no_normal
use Rattle.ra_jobs.specs.declared.reading.ReadFailed.{ReadFailed}
use Rattle.ra_jobs.specs.declared.reading.ReadFailed.TheVariants as read
use Rattle.ra_session.specs.declared.failures.SetFailed.{SetFailed}
use Rattle.ra_session.specs.declared.failures.SetFailed.TheVariants as set
use Rattle.ra_session.specs.declared.failures.ProgressFailed.{ProgressFailed}
use Rattle.ra_session.specs.declared.failures.ProgressFailed.TheVariants as progress
use Rattle.ra_session.specs.declared.failures.LoadFailed.{LoadFailed}
use Rattle.ra_session.specs.declared.failures.LoadFailed.TheVariants as load
use Rattle.ra_session.specs.declared.failures.TraceFailed.{TraceFailed}
use Rattle.ra_session.specs.declared.failures.TraceFailed.TheVariants as trace

-- a file that is not read gives no set
abbrev pub set_unread : ReadFailed → SetFailed
set_unread read.Memory = set.Memory
set_unread read.Failed = set.Read

-- and no document
abbrev pub document_unread : ReadFailed → DocumentFailed
document_unread read.Memory = document.Memory
document_unread read.Failed = document.Read

-- a file that is not read gives no normal text
abbrev pub normal_unread : ReadFailed → NormalFailed
normal_unread why = no_normal.Set (set_unread why)

-- a document that is refused; running out of memory is no refusal of it
abbrev pub document_refused : PatchRefused → DocumentFailed
document_refused patch.Memory = document.Memory
document_refused why = document.Refused why

-- a file that is not read gives no progress bytes
abbrev pub progress_unread : ReadFailed → ProgressFailed
progress_unread read.Memory = progress.Memory
progress_unread read.Failed = progress.Read

-- a trace whose next record is not read
abbrev pub trace_failed : TraceError → TraceFailed
trace_failed (error.Refused at why) = trace.Refused at why
trace_failed error.TooLong = trace.TooLong
trace_failed error.Read = trace.Read

-- a trace of which a text is not written
abbrev pub trace_unwritten : SinkFailed → TraceFailed
trace_unwritten write.Failed = trace.Write
trace_unwritten write.Memory = trace.Memory

-- how a job ends that has no set
abbrev pub ending_of_set : SetFailed → Ending
ending_of_set set.Memory = NoMemory
ending_of_set set.Read = ReadFault
ending_of_set (set.Refused why) = BadSet why

-- how an import ends whose document is refused
abbrev pub ending_of_refused : PatchRefused → Ending
ending_of_refused patch.Memory = NoMemory
ending_of_refused (patch.Set why) = BadSet why
ending_of_refused why = BadDocument why

-- how an import ends that has no document
abbrev pub ending_of_document : DocumentFailed → Ending
ending_of_document document.Memory = NoMemory
ending_of_document document.Read = ReadFault
ending_of_document (document.Refused why) = ending_of_refused why

-- how a job ends whose set has no normal text
abbrev pub ending_of_normal : NormalFailed → Ending
ending_of_normal (no_normal.Set failed) = ending_of_set failed
ending_of_normal (no_normal.Refused (normal.Limit which found)) = LongNormal which found
ending_of_normal (no_normal.Refused normal.Memory) = NoMemory

-- how a run ends that does not begin
abbrev pub ending_of_load : LoadFailed → Ending
ending_of_load (load.Set failed) = ending_of_set failed
ending_of_load (load.Progress progress.Memory) = NoMemory
ending_of_load (load.Progress progress.Read) = ReadFault
ending_of_load (load.Progress (progress.Refused why)) = BadProgress why

-- how a run ends whose trace is not played to its end
abbrev pub ending_of_trace : TraceFailed → Ending
ending_of_trace trace.Memory = NoMemory
ending_of_trace trace.Read = ReadFault
ending_of_trace trace.Write = SinkFault
ending_of_trace (trace.Refused at why) = BadTrace at why
ending_of_trace trace.TooLong = LongTrace

-- how a run ends that does not put its file
abbrev pub ending_of_put : PutFailed → Ending
ending_of_put put.Failed = SaveFault
ending_of_put put.Memory = NoMemory

-- how playing a trace ends
abbrev pub ending_at : {T : Type 0} → Result T TraceFailed → Ending
ending_at (Ok played) = Done
ending_at (Err failed) = ending_of_trace failed
