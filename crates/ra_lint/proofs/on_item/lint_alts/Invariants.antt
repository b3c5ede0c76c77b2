use Rattle.std.proofs.Common.{◌≡◌, ◌++◌, ◌&&◌, not, eqb, length, map, take}
use Rattle.std.specs.List.{list_all}
use Rattle.ra_condition.specs.Contents.{group_contents}
use Rattle.ra_lint.specs.Warnings.{warnings_from}
use Rattle.ra_lint.proofs.RowLemmas.{is_dead_group}
use Rattle.ra_lint.proofs.on_item.lint_alts.Given as goal

-- the warnings on the alts so far, and whether they are dead
abbrev pub invariant-loop-place : goal.invariant-loop-place
invariant-loop-place l = record {
  found : l.found.items ≡ l.initial.found.items ++ warnings_from l.core.item l.core.place 1
      (map group_contents (take l.place l.alts));
  dead : l.dead ≡ (not (eqb (length l.alts) 0) && list_all is_dead_group (map group_contents (take l.place l.alts)));
}
