use Rattle.std.proofs.Common.{arith}
use Rattle.ra_text.proofs.Saturation.{digits-start}
use Rattle.ra_text.proofs.cursor.Cursor.digits_behind.Goals as goal

pub loop-rest-init : goal.loop-rest-init
loop-rest-init c = digits-start c.args.base c.args.first c.args.self.now.rest.now (omega arith)
