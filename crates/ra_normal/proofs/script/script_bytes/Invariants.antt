use Rattle.std.proofs.Common.{◌≡◌, length, true}
use Rattle.ra_normal.specs.Text.{script_from}
use Rattle.ra_normal.proofs.script.script_bytes.Given as goal

-- what is left has the script of all bytes
abbrev pub invariant-bytes : goal.invariant-bytes
invariant-bytes l = script_from l.starts l.left ≡ script_from true l.bytes

abbrev pub decreases-bytes : goal.decreases-bytes
decreases-bytes l = length l.left
