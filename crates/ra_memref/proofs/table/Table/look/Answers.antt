use Rattle.std.proofs.Common.{subst, sym}
use Rattle.ra_memref.specs.Numbers.{NumbersSeen}
use Rattle.ra_memref.specs.Table.{IsLooked}
use Rattle.ra_memref.specs.Seen.{table_seen}
use Rattle.ra_memref.proofs.TableLemmas.{with_numbers, with_watches}
use Rattle.ra_memref.proofs.LookedLemmas.{looked_by}
use Rattle.ra_memref.proofs.table.Table.look.Goals as goal

pub returns-clause-looked : goal.returns-clause-looked
returns-clause-looked g c =
    let image = g.I.Image.bytes c.args.image.now in
    let looked = subst (λ t. IsLooked t (table_seen
    (with_watches c.self.inside c.look.new.self.watches)) image) c.self.view_is
    (looked_by c.self.inside c.self.invariant c.look.new.self.watches image c.look.ensures.marks) in
    subst (λ (n : NumbersSeen). IsLooked c.args.self.now
    (table_seen (with_numbers c.self.inside n)) image) (sym c.look.ensures.rest) looked
