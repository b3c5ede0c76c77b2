use Rattle.std.proofs.Common.{subst}
use Rattle.ra_member.specs.MemberRuns.{FitWords}
use Rattle.ra_display.proofs.SavedLines.{fit_behind, words_of}
use Rattle.ra_display.proofs.saved_presence.put_after.Goals as goal

pub returns : goal.returns
returns c =
    let all = c.in_ok-extend_from_slice.ensures.items in
    record {
      all = all;
      fit = fit_behind c.args.hits.now.items c.args.own.now
          (subst FitWords all (words_of c.extend_from_slice.new.self.items c.type_inv.hits));
    }
