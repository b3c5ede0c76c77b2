use Rattle.std.proofs.Common.{◌≡◌, ap₂, ◌∙◌, ◌++◌, subst}
use Rattle.ra_text.specs.Words.{words}
use Rattle.ra_member.specs.MemberRuns.{FitWords}
use Rattle.ra_why.proofs.kept.Kept.new.Goals as goal

pub returns : goal.returns
returns c =
    let table = c.args.table.now in
    let trigger = c.args.run.now.trigger in
    let hits : c.put_words.new.bytes.items ≡ words trigger.hits =
    c.in_ok-put_words.ensures.words ∙ ap₂ (λ xs ys. xs ++ words ys) c.new-hits.ensures.items c.hits.ensures in
    let cells : c.put_words-2.new.bytes.items ≡ words table.cells =
    c.in_ok-put_words-2.ensures.words ∙ ap₂ (λ xs ys. xs ++ words ys) c.new-numbers.ensures.items c.cells.ensures in
    let numbers : c.put_words-3.new.bytes.items ≡ words table.cells ++ words table.priors =
    c.in_ok-put_words-3.ensures.words ∙ ap₂ (λ xs ys. xs ++ words ys) cells c.priors.ensures in
    record {
      state = c.state.ensures;
      measured = c.measured.ensures;
      hits = hits;
      numbers = numbers;
      hits_fit = subst FitWords c.hits.ensures c.put_words.ensures.fit;
      cells_fit = subst FitWords c.cells.ensures c.put_words-2.ensures.fit;
      priors_fit = subst FitWords c.priors.ensures c.put_words-3.ensures.fit;
      account_too = (c.in_ok-account.ensures.ready, (c.in_ok-account.ensures.same, c.in_ok-account.ensures.frames));
    }
