use Rattle.std.proofs.Common.{◌≡◌, ◌+◌, ◌++◌, drop, map, length, string_bytes, sum_by}
use Rattle.ra_condition.specs.Contents.{group_contents, groups_of, trigger_contents}
use Rattle.ra_why.specs.Text.{groups_wants}
use Rattle.ra_why.proofs.whole.write_wants.Given as goal

-- the places that are written, and those of the alts that are left, are all
abbrev pub invariant-loop-place : goal.invariant-loop-place
invariant-loop-place l = record {
  room : l.start + sum_by length
      (map group_contents (drop l.place l.trigger.alts.items)) ≡ length l.nearest.wants.items;
  written : string_bytes l.text ++ groups_wants (1 + l.place) (map group_contents (drop l.place l.trigger.alts.items))
      (drop l.start l.nearest.wants.items)
      ≡ string_bytes l.fn.text ++ groups_wants 0 (groups_of (trigger_contents l.trigger)) l.nearest.wants.items;
}
