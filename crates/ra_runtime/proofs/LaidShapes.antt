-- The shape of a set is that of what is laid out for it, and within the types of its numbers.
use Rattle.std.proofs.Common.{◌≡◌, ℕ, ◌+◌, ◌<◌, ◌≤◌, ◌^◌, Option, None, Some, option_map, List, length, map, All, refl}
use Rattle.std.proofs.Common.{sym, subst, arith}
use Rattle.ra_indirect.specs.declared.node.Node.{Node}
use Rattle.ra_memref.specs.Table.{TableSeen}
use Rattle.ra_richpresence.specs.Contents.{ScriptContents}
use Rattle.ra_set.specs.Contents.{SetContents}
use Rattle.ra_set.specs.Limits.{script_conditions, IsWithinLimits}
use Rattle.ra_member.specs.MemberRuns.{kept_by}
use Rattle.ra_member.proofs.Opened.{members_long}
use Rattle.ra_member.proofs.SideBySide.{beside_length}
use Rattle.ra_items.specs.declared.item_run.ItemRun.{ItemRun}
use Rattle.ra_display.specs.declared.presence_run.PresenceRun.{PresenceRun}
use Rattle.ra_meaning.specs.Order.{script_members, item_shape, presence_shape}
use Rattle.ra_display.specs.PresenceRuns.{IsLineRun, IsOptionalPresence}
use Rattle.ra_items.specs.Shapes.{run_shape, IsSmall}
use Rattle.ra_display.specs.PresenceShapes.{optional_run_shape, IsSmallPresence}
use Rattle.ra_runtime.specs.Laid.{IsLaidOut}
use Rattle.ra_set.specs.Spelled.{OptionalScript, IsSpelled}
use Rattle.ra_meaning.proofs.Spelled.Lines.{shown_lines}
use Rattle.ra_display.proofs.ShownLines.{lines_fit_runs}
use Rattle.ra_meaning.proofs.Counts.Items.{lines_within}
use Rattle.ra_items.proofs.ShapeLemmas.{runs_shaped, items_small}

-- what a display keeps has the counts of its script
pub presence_shaped : (nodes : List Node) (script : Option ScriptContents)
    (run : Option PresenceRun) → IsOptionalPresence nodes script run → optional_run_shape run
    ≡ option_map presence_shape script
presence_shaped nodes None None is = refl
presence_shaped nodes None (Some run) is = absurd is
presence_shaped nodes (Some script) None is = absurd is
presence_shaped nodes (Some script) (Some run) is =
    let longs = members_long (script_members script) (map kept_by run.lines.items)
    (lines_fit_runs nodes script.lines run.lines.items is.lines) in
    let many = beside_length (IsLineRun nodes) script.lines run.lines.items is.lines in
    (λ i. Some (record { lines = many i; hits = longs.0 i; parts = longs.1 i }))

-- the shape of a display within the limits of a set is small
pub presence_small : (script : Option ScriptContents) → OptionalScript script
    → script_conditions script ≤ 65536 → IsSmallPresence (option_map presence_shape script)
presence_small None is few = tt
presence_small (Some script) is few =
    let within = lines_within script.lines (shown_lines script.lines is.0.lines) in
    (is.1, omega (arith, few, within.0), omega (arith, few, within.1))

-- what a table that is laid out keeps fits into the shape
module _ (set : SetContents) (size : ℕ) (table : TableSeen) (runs : List ItemRun)
    (presence : Option PresenceRun) (is : IsLaidOut set size table runs presence) where
  pub laid_few : length table.cells + length table.priors < 2 ^ 32
  laid_few = omega (arith, is.over.cells_many, is.over.priors_many, is.few_cells, is.few_tracked)

  pub laid_shapes : map run_shape runs ≡ map item_shape set.items
  laid_shapes = runs_shaped table.nodes set.items runs is.runs_too

  pub laid_small : IsWithinLimits set → IsSpelled set → All IsSmall (map run_shape runs)
  laid_small limits spelled =
      subst (All IsSmall) (sym laid_shapes) (items_small set.items spelled.items (omega (arith, limits.conditions)))

  pub laid_presence : optional_run_shape presence ≡ option_map presence_shape set.script
  laid_presence = presence_shaped table.nodes set.script presence is.presence_too

  pub laid_small_presence : IsWithinLimits set → IsSpelled set → IsSmallPresence (optional_run_shape presence)
  laid_small_presence limits spelled =
      subst IsSmallPresence (sym laid_presence)
      (presence_small set.script spelled.script (omega (arith, limits.conditions)))
