-- The shapes of items are those of their runs, and within the types of their numbers.
use Rattle.std.proofs.Common.{◌≡◌, suc, ◌≤◌, List, [], ◌∷◌, map, get_or, sum_by, All, refl, ap, ap₂, arith}
use Rattle.std.proofs.lemmas.List.Sums.{get_or-le-sum_by}
use Rattle.std.proofs.lemmas.List.Elements.{All-map}
use Rattle.ra_indirect.specs.declared.node.Node.{Node}
use Rattle.ra_set.specs.Contents.{ItemContents, Unlocks, Ranks}
use Rattle.ra_set.specs.Limits.{item_conditions}
use Rattle.ra_progress.specs.declared.shape.ItemShape.TheVariants as shapes
use Rattle.ra_member.specs.MemberRuns.{kept_by}
use Rattle.ra_member.proofs.Opened.{saved_long}
use Rattle.ra_member.proofs.Shaped.{member_shape}
use Rattle.ra_items.specs.declared.item_run.ItemRun.{ItemRun}
use Rattle.ra_items.specs.declared.item_run.ItemRun.TheVariants.{Achievement, Leaderboard}
use Rattle.ra_meaning.specs.Order.{board_member, item_shape}
use Rattle.ra_items.specs.ItemRuns.{IsItemRun}
use Rattle.ra_items.specs.AllRuns.{AreItemRuns, HaveDigits}
use Rattle.ra_items.specs.Shapes.{run_shape, IsSmall}
use Rattle.ra_set.specs.Spelled.{IsItem}
use Rattle.ra_meaning.proofs.Counts.Items.{board_within}

-- what a run keeps has the counts of its item
module _ (nodes : List Node) where
  run_shaped : (item : ItemContents) (run : ItemRun) → IsItemRun nodes item run → run_shape run ≡ item_shape item
  run_shaped (Unlocks id t) (Achievement run) is = ap shapes.Achievement is.hits
  run_shaped (Unlocks id t) (Leaderboard run) is = absurd is
  run_shaped (Ranks id format b) (Achievement run) is = absurd is
  run_shaped (Ranks id format b) (Leaderboard run) is =
      let long = saved_long (board_member b) (kept_by run.member) (member_shape nodes (board_member b) run.member is) in
      ap₂ shapes.Leaderboard long.0 long.1

  pub runs_shaped : (items : List ItemContents) (runs : List ItemRun) → AreItemRuns nodes items runs
      → map run_shape runs ≡ map item_shape items
  runs_shaped [] [] are = refl
  runs_shaped [] (run ∷ runs) are = absurd are
  runs_shaped (item ∷ items) [] are = absurd are
  runs_shaped (item ∷ items) (run ∷ runs) are =
      ap₂ (λ x xs. x ∷ xs) (run_shaped item run are.0) (runs_shaped items runs are.1)

-- an item within the limits of a set has a small shape, and so have all items of a set
item_small : (item : ItemContents) → IsItem item → item_conditions item ≤ 65536 → IsSmall (item_shape item)
item_small (Unlocks id t) is few = few
item_small (Ranks id format b) is few =
    let within = board_within id format b is.0 in
    (omega (arith, few, within.0), omega (arith, few, within.1))

pub items_small : (items : List ItemContents) → All IsItem items
    → sum_by item_conditions items ≤ 65536 → All IsSmall (map item_shape items)
items_small items spelled few =
    All-map IsSmall item_shape items (λ k d within. item_small (get_or items k d)
    (spelled k d within) (omega (arith, few, get_or-le-sum_by item_conditions items k d within)))

-- what a line spells has digits
pub have_digits : (items : List ItemContents) → All IsItem items → HaveDigits items
have_digits [] spelled = tt
have_digits (Unlocks id t ∷ items) spelled = (tt, have_digits items (λ k d within. spelled (suc k) d (omega arith)))
have_digits (Ranks id format b ∷ items) spelled =
    ((spelled 0 (Ranks id format b) (omega arith)).1, have_digits items (λ k d within. spelled (suc k) d (omega arith)))
