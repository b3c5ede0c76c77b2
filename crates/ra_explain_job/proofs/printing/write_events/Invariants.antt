use Rattle.std.proofs.Common.{◌≡◌, ◌++◌, take}
use Rattle.std.specs.List.{flat_map}
use Rattle.ra_session.specs.Explaining.{event_text}
use Rattle.ra_explain_job.proofs.printing.write_events.Given as goal

-- the events so far stand at the end of the text
abbrev pub invariant-loop-event : goal.invariant-loop-event
invariant-loop-event l = l.text.items ≡ l.fn.text.items ++ flat_map event_text (take l.event-index l.list)
