use Rattle.std.proofs.Common.{map, take}
use Rattle.ra_condition.specs.Contents.{group_contents}
use Rattle.ra_trigger.proofs.GroupsLemmas.{HasStepped}
use Rattle.ra_trigger.proofs.together.step_all.Given as goal

-- the core and the alts so far are stepped
abbrev pub invariant-loop-place : goal.invariant-loop-place
invariant-loop-place l = HasStepped l.reads.truths.now l.reads.lefts.now l.fn.hits (group_contents
    l.text.core) (map group_contents (take l.place l.text.alts.items)) l.start l.gathered l.hits
