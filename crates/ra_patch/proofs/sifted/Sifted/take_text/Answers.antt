use Rattle.std.proofs.Common.{Some}
use Rattle.ra_patch.proofs.SiftLemmas.{script-out}
use Rattle.ra_patch.proofs.sifted.Sifted.take_text.Goals as goal

pub returns-in-Some : goal.returns-in-Some
returns-in-Some c =
    script-out c.leave_out_script.result (Some c.args.script.now) c.args.self.now c.leave_out_script.new.self _
    (rw c.in-Some.is at c.in_ok-at.ensures) c.leave_out_script.ensures.text c.leave_out_script.ensures.rows
