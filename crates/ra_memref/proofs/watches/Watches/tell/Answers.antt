use Rattle.std.proofs.Common.{◌≡◌, ◌/◌, ◌+◌, ◌-◌, ◌<◌, arith, subst}
use Rattle.ra_memref.proofs.Telling.{IsTelling, telling_more, told_all, told_nothing}
use Rattle.ra_memref.proofs.watches.Watches.tell.Goals as goal

pub returns-then-count-eq0 : goal.returns-then-count-eq0
returns-then-count-eq0 c = told_nothing c.args.self.now c.args.at c.args.count c.if-count-eq0.true

pub loop-page-preserved : goal.loop-page-preserved
loop-page-preserved c =
    telling_more c.self.inside c.loop-page.self-inside
    (c.args.at / 16) c.loop-page.page c.mark_listed.new.marks c.loop-page.invariant
    (omega (arith, c.if-self.false)) c.self.invariant.indexed c.loop-page.auto.page
    c.mark_listed.ensures.long c.mark_listed.ensures.marked

pub returns : goal.returns
returns c =
    let some : 0 < c.args.count = omega (arith, c.if-count-eq0.false) in
    let end : c.loop-page.page ≡ (c.args.at + c.args.count - 1) / 16 + 1 =
    omega (arith, c.loop-page-test.false, c.loop-page.auto.page-end, some) in
    let e = rw (c.deref.ensures.value, c.deref-2.ensures.value) at c.mark_reaching.ensures in
    told_all c.self.inside c.loop-page.self-inside c.args.self.now c.mark_reaching.new.marks c.args.at c.args.count
    c.self.view_is (omega (arith, c.if-self.false)) c.self.invariant.indexed some (subst
    (IsTelling c.self.inside c.loop-page.self-inside (c.args.at / 16)) end c.loop-page.invariant) e.long e.marked
