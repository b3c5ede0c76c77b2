use Rattle.std.proofs.Common.{◌≡◌, ap₂, ◌∙◌, ◌++◌, subst}
use Rattle.ra_text.specs.Words.{words}
use Rattle.ra_member.specs.MemberRuns.{FitWords}
use Rattle.ra_explain.proofs.SlotLemmas.{slot_of}
use Rattle.ra_explain.proofs.slot.Slot.new.Goals as goal

pub returns : goal.returns
returns c =
    let table = c.args.table.now in
    let trigger = c.args.run.now.trigger in
    let hits : c.put_words.new.bytes.items ≡ words trigger.hits = c.in_ok-put_words.ensures.words
    ∙ ap₂ (λ xs ys. xs ++ words ys) c.new-hits.ensures.items c.hits.ensures in
    let cells : c.put_words-2.new.bytes.items ≡ words table.cells =
    c.in_ok-put_words-2.ensures.words
    ∙ ap₂ (λ xs ys. xs ++ words ys) c.new-numbers.ensures.items c.cells.ensures in
    let numbers : c.put_words-3.new.bytes.items ≡ words table.cells ++ words table.priors =
    c.in_ok-put_words-3.ensures.words ∙ ap₂ (λ xs ys. xs ++ words ys) cells c.priors.ensures in
    slot_of table trigger
    (record {
      state = c.state-state.result;
      measured = c.measured-measured.result;
      hits = c.put_words.new.bytes;
      numbers = c.put_words-3.new.bytes;
      latest = c.args.latest;
    }) c.state-state.ensures c.measured-measured.ensures hits numbers
    (subst FitWords c.hits.ensures c.put_words.ensures.fit) (subst FitWords c.cells.ensures
    c.put_words-2.ensures.fit) (subst FitWords c.priors.ensures c.put_words-3.ensures.fit)
