use Rattle.std.proofs.Common.{◌<◌, ℕ, refl, rules, slice_index, subst}
use Rattle.std.specs.Prelude.{OnOk}
use Rattle.ra_runtime.specs.Courses.{CourseSeen}
use Rattle.ra_calls.specs.Answers.{TakesProgress}
use Rattle.ra_calls.proofs.ByteLemmas.{all_bytes}
use Rattle.ra_calls.proofs.StandLemmas.{on_ok, restored_stands, said_opens}
use Rattle.ra_calls.proofs.Taken.{set_stays, still_held, takes_progress}
use Rattle.ra_calls.proofs.held.Held.restore.Goals as goal

pub invariant_of-self : goal.invariant_of-self
invariant_of-self c =
    let bytes = c.args.bytes.now in
    let small : (i : ℕ) → slice_index bytes i < 256 = search rules in
    let restore = c.restore.ensures in
    let old = c.self.inside.course in
    let new = c.restore.new.self in
    let held = c.self.invariant in
    let said = said_opens old.set bytes (all_bytes bytes small) held.spelled held.shape in
    still_held c.self.inside _ held (set_stays c.restore.result old new _ restore.ok restore.err) refl refl
    (restored_stands c.restore.result old new bytes (on_ok c.restore.result _ _ said restore.accepted) restore.ok
    restore.err held.standing)

pub returns-clause-ok : goal.returns-clause-ok
returns-clause-ok c =
    let restore = c.restore.ensures in
    let bytes = c.args.bytes.now in
    let new = c.restore.new.self in
    let takes =
    takes_progress c.restore.result c.self.inside.course new bytes restore.ok restore.accepted restore.size in
    subst (λ (old : CourseSeen). OnOk c.restore.result (TakesProgress bytes old new)) c.self.view_is takes
