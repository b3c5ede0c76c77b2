use Rattle.std.proofs.Common.{◌∙◌, ◌==◌, ap, rules, tests}
use Rattle.std.specs.List.{slice_split}
use Rattle.std.specs.Slice.Iter.{split_rest, split_done, split_callee}
use Rattle.std.proofs.lemmas.Iterator.Consumers.{YieldsList-from_filter, count_from_yields_List}
use Rattle.std.proofs.lemmas.Iterator.Splits.{YieldsList-from_slice_split}
use Rattle.std.proofs.lemmas.List.Sums.{length-filter}
use Rattle.ra_session.specs.Expected.{is_unlock}
use Rattle.ra_session.proofs.counts.unlocks_in.Goals as goal

pub returns : goal.returns
returns c =
    let source = c.filter.ensures.source in
    count_from_yields_List c.filter.result c.count.result c.count.ensures.ran
    (YieldsList-from_filter _ is_unlock
    (YieldsList-from_slice_split _ (λ byte. byte == 10) c.args.text.now (ap split_rest source
    ∙ c.split.ensures.rest) (ap split_done source ∙ c.split.ensures.done) (ap split_callee source
    ∙ c.split.ensures.closure) (λ x r q k. search (rules, tests)))
    c.filter.ensures.closure (λ x r q k. search (rules, tests)))
    ∙ length-filter is_unlock (slice_split (λ byte. byte == 10) c.args.text.now)
