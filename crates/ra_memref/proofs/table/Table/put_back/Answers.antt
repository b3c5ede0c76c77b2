use Rattle.std.proofs.Common.{◌*◌, length, subst}
use Rattle.ra_memref.specs.Table.{TableSeen, IsPutBack}
use Rattle.ra_memref.specs.Seen.{table_seen}
use Rattle.ra_text.specs.Words.{words_at}
use Rattle.ra_memref.proofs.PuttingLemmas.{put, back_is_table, put_back_by}
use Rattle.ra_memref.proofs.table.Table.put_back.Goals as goal

pub invariant_of-self : goal.invariant_of-self
invariant_of-self c =
    back_is_table c.self.inside c.self.invariant c.put_back.new.self c.args.bytes.now c.put_back.ensures

pub returns : goal.returns
returns c =
    subst (λ (t : TableSeen). IsPutBack t (table_seen (put c.self.inside c.put_back.new.self))
    (words_at c.args.bytes.now 0 (length t.cells))
    (words_at c.args.bytes.now (4 * length t.cells) (length t.priors))) c.self.view_is
    (put_back_by c.self.inside c.self.invariant c.put_back.new.self c.args.bytes.now c.put_back.ensures)
