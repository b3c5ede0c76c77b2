use Rattle.std.proofs.Common.{add-one}
use Rattle.ra_calls.proofs.ByteLemmas.{bank_more}
use Rattle.ra_calls.proofs.bytes.are_bytes.Goals as goal

pub loop-bank-preserved : goal.loop-bank-preserved
loop-bank-preserved c =
    let k = c.loop-bank.bank-index in
    rw add-one
    (bank_more c.args.banks.now k _ c.loop-bank-test.true c.loop-bank.invariant c.is_bytes.ensures)
