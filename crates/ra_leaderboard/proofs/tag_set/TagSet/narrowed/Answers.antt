use Rattle.std.proofs.Common.{sym}
use Rattle.ra_leaderboard.proofs.TagLemmas.{narrowed-told}
use Rattle.ra_leaderboard.proofs.tag_set.TagSet.narrowed.Goals as goal

pub returns : goal.returns
returns c =
    rw (
      c.of.ensures,
      c.goes_on.ensures,
      c.goes_on-2.ensures,
      c.goes_on-3.ensures,
      c.goes_on-4.ensures,
      c.goes_on-5.ensures,
    )
    (sym (narrowed-told c.args.place c.args.byte c.self.inside.start c.self.inside.cancel
    c.self.inside.submit c.self.inside.value c.self.inside.progress c.args.self.now c.self.view_is
    c.self.invariant))
