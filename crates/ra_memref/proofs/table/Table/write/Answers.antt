use Rattle.std.proofs.Common.{subst, sym}
use Rattle.ra_memref.specs.Numbers.{NumbersSeen}
use Rattle.ra_memref.specs.Table.{IsTold}
use Rattle.ra_memref.specs.Seen.{table_seen}
use Rattle.ra_memref.proofs.TableLemmas.{told_by, with_numbers, with_watches}
use Rattle.ra_memref.proofs.table.Table.write.Goals as goal

pub returns : goal.returns
returns c =
    let watches = c.tell.new.self.watches in
    let told = subst (λ t. IsTold t (table_seen (with_watches c.self.inside
    c.tell.new.self.watches)) c.args.at c.args.count) c.self.view_is (told_by c.self.inside
    c.self.invariant c.tell.new.self.watches c.args.at c.args.count c.tell.ensures.marks) in
    subst (λ (n : NumbersSeen). IsTold c.args.self.now (table_seen (with_numbers c.self.inside n))
    c.args.at c.args.count) (sym c.tell.ensures.rest) told
