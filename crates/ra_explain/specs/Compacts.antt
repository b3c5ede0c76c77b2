-- What a compact explanation contains: docs/DEFINITIONS.md, "Explanations".
use Rattle.ra_explain.specs.declared.compact.CompactExplanation.{CompactExplanation}
use Rattle.ra_explain.specs.Explains.{ExplanationContents}
use Rattle.ra_explain.specs.HitChanges.{events_of}

-- the contents of a compact explanation
abbrev pub compact_contents : CompactExplanation → ExplanationContents
compact_contents e = record { last = e.last; since = e.since; waited = e.waited; events = events_of e.changes.items }
