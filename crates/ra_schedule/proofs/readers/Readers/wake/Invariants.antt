use Rattle.std.proofs.Common.{◌+◌, map, take}
use Rattle.ra_schedule.specs.Readers.{Wakes}
use Rattle.ra_schedule.proofs.readers.Readers.wake.Given as goal

abbrev pub invariant-loop-node : goal.invariant-loop-node
invariant-loop-node l = Wakes (map (λ n. l.from + n) (take l.node-index l.nodes))
    (record { rows = l.initial.self-inside.rows; due = l.initial.self-inside.due })
    (record { rows = l.self-inside.rows; due = l.self-inside.due })
