use Rattle.std.proofs.Common.{◌+◌, ◌≤◌, [], ◌∷◌, ℕ, length, map, get_or, take, refl, sym, ap, ◌∙◌, subst, arith}
use Rattle.std.proofs.lemmas.List.{map-append, take_all, take_more}
use Rattle.ra_memref.specs.Flags.{SetsAll}
use Rattle.ra_schedule.specs.Readers.{ReadersSeen, IsListed, Wakes}
use Rattle.ra_schedule.proofs.WhoReads.WakeLemmas.{wakes_more, within_still}
use Rattle.ra_schedule.proofs.readers.Readers.wake.Goals as goal

pub invariant_of-self : goal.invariant_of-self
invariant_of-self c =
    within_still (map (λ n. c.args.from + n) (take c.loop-node.node-index c.args.nodes.now))
    (record { rows = c.self.inside.rows; due = c.self.inside.due })
    (record { rows = c.loop-node.self-inside.rows; due = c.loop-node.self-inside.due })
    c.loop-node.invariant c.self.invariant

pub set_all-requires : goal.set_all-requires
set_all-requires c = λ reader is.
    let node : ℕ = c.args.from + get_or c.args.nodes.now c.loop-node.node-index 0 in
    let row = c.row.ensures ∙ ap (λ rows. get_or rows node []) c.loop-node.invariant.rows in
    omega (arith, c.self.invariant node reader (subst (IsListed reader) row is), c.loop-node.invariant.long)

pub loop-node-preserved : goal.loop-node-preserved
loop-node-preserved c =
    let node = c.args.from + get_or c.args.nodes.now c.loop-node.node-index 0 in
    let first : ReadersSeen = record { rows = c.self.inside.rows; due = c.self.inside.due } in
    let before : ReadersSeen = record { rows = c.loop-node.self-inside.rows; due = c.loop-node.self-inside.due } in
    let after : ReadersSeen = record { rows = c.loop-node.self-inside.rows; due = c.set_all.new.flags } in
    let nodes = map (λ n. c.args.from + n) (take c.loop-node.node-index c.args.nodes.now) in
    let more = ap (map (λ n. c.args.from + n))
    (take_more c.args.nodes.now c.loop-node.node-index 0 c.loop-node-test.true)
    ∙ map-append (λ n. c.args.from + n) (take c.loop-node.node-index c.args.nodes.now)
    (get_or c.args.nodes.now c.loop-node.node-index 0 ∷ []) in
    subst (λ nodes. Wakes nodes first after) (sym more)
    (wakes_more nodes node first before after c.loop-node.invariant refl
    (subst (λ row. SetsAll row before.due after.due) c.row.ensures c.set_all.ensures))

pub returns : goal.returns
returns c =
    let all : length c.args.nodes.now ≤ c.loop-node.node-index = omega (arith, c.loop-node-test.false) in
    let first : ReadersSeen = record { rows = c.self.inside.rows; due = c.self.inside.due } in
    let last : ReadersSeen = record { rows = c.loop-node.self-inside.rows; due = c.loop-node.self-inside.due } in
    subst (λ old. Wakes (map (λ n. c.args.from + n) c.args.nodes.now) old last) c.self.view_is
    (subst (λ nodes. Wakes (map (λ n. c.args.from + n) nodes) first last)
    (take_all c.loop-node.node-index c.args.nodes.now all) c.loop-node.invariant)
