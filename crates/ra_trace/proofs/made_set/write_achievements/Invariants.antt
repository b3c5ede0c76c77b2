use Rattle.std.proofs.Common.{◌≡◌, ◌+◌, ◌-◌, ◌++◌, string_bytes}
use Rattle.ra_trace.specs.Workload.{achievement_lines}
use Rattle.ra_trace.proofs.made_set.write_achievements.Given as goal

abbrev pub invariant-loop-id : goal.invariant-loop-id
invariant-loop-id l = string_bytes l.text ++ achievement_lines (l.count + 1 - l.id) l.id l.draws
    ≡ string_bytes l.initial.text ++ achievement_lines l.count 1 l.initial.draws
