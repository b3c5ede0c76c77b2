use Rattle.std.proofs.Common.{◌∙◌, ◌&&◌, ◌||◌, bytes_eq, cond, true, ap, sym}
use Rattle.std.specs.BTreeSet.{contains}
use Rattle.std.proofs.lemmas.Map.Text.{is_eq-slice_cmp}
use Rattle.ra_notices.specs.Keys.{key_of, key_cmp}
use Rattle.ra_notices.proofs.KeyLemmas.{or_cond}
use Rattle.ra_notices.proofs.twice.note.Goals as goal

pub returns-clause-noted : goal.returns-clause-noted
returns-clause-noted c = λ key.
    let own = key_of c.args.condition.now in
    let old = contains key_cmp c.args.seen.now key in
    (c.in_ok-is_new.ensures.updates).0 key
    ∙ ap (λ b. cond b true old) (is_eq-slice_cmp c.key_of.result key)
    ∙ ap (λ k. cond (bytes_eq k key) true old) c.key_of.ensures
    ∙ or_cond (bytes_eq own key) old ∙ ap (λ l. (l && bytes_eq own key) || old) (sym c.if-not-lone.false)
