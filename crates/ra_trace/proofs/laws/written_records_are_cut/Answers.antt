use Rattle.std.proofs.Common.{true, replicate}
use Rattle.std.proofs.lemmas.List.Elements.{recursion_from_All}
use Rattle.ra_trace.specs.Rules.{Fits}
use Rattle.ra_trace.proofs.CutBack.{trace_cut, all_take_filled}
use Rattle.ra_trace.proofs.laws.written_records_are_cut.Goals as goal

pub returns-clause-all_filled : goal.returns-clause-all_filled
returns-clause-all_filled c = λ size entries behind small fit. trace_cut
    (replicate 16 true) size entries behind small fit
    (all_take_filled size entries (recursion_from_All (Fits size) entries fit))

pub returns-clause-some_filled : goal.returns-clause-some_filled
returns-clause-some_filled c = trace_cut
