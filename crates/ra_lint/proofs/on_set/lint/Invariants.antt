use Rattle.std.proofs.Common.{◌≡◌, map, take}
use Rattle.ra_set.specs.Contents.{item_contents}
use Rattle.ra_lint.specs.Warnings.{warnings_on}
use Rattle.ra_lint.proofs.on_set.lint.Given as goal

-- the warnings on the items so far
abbrev pub invariant-loop-number : goal.invariant-loop-number
invariant-loop-number l = l.found.items ≡ warnings_on 0 (map item_contents (take l.number l.set.items.items))
