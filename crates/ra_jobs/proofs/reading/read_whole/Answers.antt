use Rattle.std.proofs.Common.{arith}
use Rattle.std.proofs.lemmas.Grind.{common_steps}
use Rattle.ra_jobs.proofs.Stays.{stays_after}
use Rattle.ra_jobs.proofs.Whole.{front_grows, front_at_end, if_some}
use Rattle.ra_jobs.proofs.reading.read_whole.Goals as goal

pub returns-then-not-branch-clause-ok : goal.returns-then-not-branch-clause-ok
returns-then-not-branch-clause-ok g c =
    let e = c.in_ok-read_on.ensures in
    let i = c.loop-bytes.invariant in
    if_some (g.F.Files.content c.args.files.now c.args.name.now) _
    (front_at_end (g.F.Files.content c.args.files.now c.args.name.now)
    (g.F.Files.content c.loop-bytes.files c.args.name.now) c.loop-bytes.bytes.items
    c.read_on.new.bytes.items c.in_ok-read_on.field-0 e.ok.0 c.args.limit c.if-not-branch.true
    (i.stays.same.each c.args.name.now) e.ok.1 i.told i.within)

pub loop-bytes-preserved : goal.loop-bytes-preserved
loop-bytes-preserved g c =
    let e = c.in_ok-read_on.ensures in
    let i = c.loop-bytes.invariant in
    record {
      within = grind (arith, common_steps);
      told = front_grows _ _ _ _ _ e.ok.0 (i.stays.same.each c.args.name.now) e.ok.1 i.told;
      stays = stays_after _ _ _ i.stays e.stays;
    }
