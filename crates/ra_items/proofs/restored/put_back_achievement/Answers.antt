use Rattle.std.proofs.Common.{◌+◌, ◌-◌, ◌*◌, ◌||◌, Option, ℕ, Some, length, refl, sym, ◌∙◌, ap, ap₂, subst, arith}
use Rattle.ra_trigger.specs.States.{state_of}
use Rattle.ra_text.proofs.Rows.{words_piece}
use Rattle.ra_items.specs.declared.achievement_run.AchievementRun.{AchievementRun}
use Rattle.ra_items.specs.declared.item_run.ItemRun.TheVariants.{Achievement}
use Rattle.ra_items.specs.Restoring.{HasItem, PutsBackItem}
use Rattle.ra_items.specs.Shapes.{run_shape}
use Rattle.ra_items.proofs.RestoreLemmas.{achievement_back}
use Rattle.ra_items.proofs.restored.put_back_achievement.Goals as goal

pub returns-in-Some : goal.returns-in-Some
returns-in-Some c =
    let bytes = c.args.bytes.now in
    let at = c.in-Some.at in
    let block = c.achievement_block-block in
    let said = block.ensures in
    let old = c.args.run.now in
    let new : AchievementRun = record old {
      run = record { laid = old.run.laid; trigger = c.put_back.new.self };
      earned = c.is_earned-earned.result || block.result.earned;
    } in
    let has : HasItem bytes (Some at) (run_shape (Achievement old)) = subst (λ (place : Option ℕ).
    HasItem bytes place (run_shape (Achievement old))) c.in-Some.is c.requires in
    let count = length c.hits.result.now in
    let from = block.result.hits in
    let hits = words_piece bytes from (from + 4 * count - from) 0 (at + 5) (length
    old.run.trigger.hits) (omega (arith, ap length c.hits.ensures)) (omega (arith, said.hits)) in
    let state = c.of_byte-state.ensures ∙ ap state_of said.state in
    let trigger = c.put_back.ensures ∙ (λ i. record { state = state i; measured = said.measured i; hits = hits i }) in
    subst (λ (place : Option ℕ). PutsBackItem bytes place (Achievement old) (Achievement new))
    (sym c.in-Some.is) (achievement_back bytes at old new has.1 refl
    (ap₂ (λ x y. x || y) c.is_earned-earned.ensures said.earned) trigger)
