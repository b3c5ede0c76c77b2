-- What a laid plan reads at a frame is what the definitions say over the whole history.
use Rattle.std.proofs.Common.{◌≡◌, ℕ, Bool, List, [], ◌∷◌, ◌++◌, map, get_or, slice_index, refl, sym, ◌∙◌, ap, ap₂}
use Rattle.std.specs.List.{flat_map}
use Rattle.std.proofs.lemmas.Option.{slice_get_within, get_or_from_slice_get}
use Rattle.std.proofs.lemmas.List.{map-append, get_or-map}
use Rattle.std.proofs.lemmas.Simd.{map-map}
use Rattle.ra_condition.specs.declared.condition.Condition.{Condition}
use Rattle.ra_condition.specs.Chains.{places}
use Rattle.ra_condition.specs.Contents.{TriggerContents, groups_of}
use Rattle.ra_memory.specs.Image.{History}
use Rattle.ra_indirect.specs.declared.node.Node.{Node}
use Rattle.ra_indirect.specs.Trees.{Tree}
use Rattle.ra_indirect.specs.Pools.{IsTree, spelled_by, Spells}
use Rattle.ra_chain.specs.Elaboration.{right_of, rights_of}
use Rattle.ra_memref.specs.Values.{Start, cell_number, tracked_number, value_of}
use Rattle.ra_memref.specs.Table.{TableSeen, AreKept, Samples, spelled_value}
use Rattle.ra_member.specs.declared.laid.Laid.{Laid}
use Rattle.ra_member.specs.Plans.{AreSpelled}
use Rattle.ra_member.specs.Readings.{numbers_at}
use Rattle.ra_member.specs.Runs.{HasValues, IsLaid, StepsAchievement}
use Rattle.ra_member.proofs.LaidLemmas.{laid_lefts, laid_truths}
use Rattle.ra_trigger.specs.declared.change.Change.{Change}
use Rattle.ra_trigger.specs.Kept.{change_between}
use Rattle.ra_trigger.specs.Steps.{TriggerKept, step}
use Rattle.ra_explain.specs.Making.{IsOver}
use Rattle.ra_explain.specs.Recorders.{StandsFor, kept_after, plain_start, rows_behind}
use Rattle.ra_explain.specs.RowLists.{truths_laid}
use Rattle.ra_explain.specs.Slots.{kept_by}
use Rattle.ra_account.specs.Groups.{GroupRow}
use Rattle.ra_why.specs.Frames.{rights_at, row_at, shown_by}
use Rattle.ra_why.specs.Watching.{row_read}
use Rattle.ra_member.specs.declared.trigger_run.TriggerRun.{TriggerRun}

module _ (nodes : List Node) (values : List ℕ) (start : Start) (h : History)
    (has : values ≡ map (spelled_value start h) (spelled_by nodes)) where
  -- a node's number is the value of its tree
  read_one : (n : ℕ) (tree : Tree) → Spells nodes n tree → slice_index values n ≡ value_of start tree h
  read_one n tree is =
      ap (λ vs. get_or vs n 0) has
      ∙ get_or-map (spelled_value start h) (spelled_by nodes) n (IsTree tree) 0
      (slice_get_within (spelled_by nodes) n (IsTree tree) is)
      ∙ ap (spelled_value start h) (get_or_from_slice_get (spelled_by nodes) n (IsTree tree) (IsTree tree) is)

  read_all : (ns : List ℕ) (trees : List Tree) → AreSpelled nodes ns trees
      → numbers_at values ns ≡ map (λ tree. value_of start tree h) trees
  read_all [] [] are = refl
  read_all [] (tree ∷ trees) are = absurd are
  read_all (n ∷ ns) [] are = absurd are
  read_all (n ∷ ns) (tree ∷ trees) are = ap₂ (λ x xs. x ∷ xs) (read_one n tree are.0) (read_all ns trees are.1)

  abbrev value : Tree → ℕ
  value tree = value_of start tree h

  rights_row : (groups : List (List Condition)) → map value (flat_map rights_of groups) ≡ rights_at start h groups
  rights_row [] = refl
  rights_row (cs ∷ groups) =
      map-append value (rights_of cs) (flat_map rights_of groups)
      ∙ ap₂ (λ xs ys. xs ++ ys) (map-map value (right_of cs) (places cs)) (rights_row groups)

  -- what the right nodes of a laid plan give is what its conditions see
  laid_rights : (groups : List (List Condition)) (laid : Laid) → IsLaid nodes groups laid
      → numbers_at values laid.plan.rights ≡ rights_at start h groups
  laid_rights groups laid is =
      read_all laid.plan.rights (flat_map rights_of groups) is.plan.rights ∙ rights_row groups

module _ (t : TriggerContents) (old new : TableSeen) (image : List ℕ) (trigger : TriggerKept) (over : IsOver t old)
    (samples : Samples old new image) (history : History)
    (stands : StandsFor t (kept_by old trigger (rows_behind t history)) history) where
  are_kept : AreKept plain_start history old.nodes old.cells old.priors
  are_kept = record {
    numbers = stands.cells ∙ ap (map (λ c. cell_number plain_start c history)) (sym over.cells);
    priors_too = stands.priors ∙ ap (map (λ m. tracked_number plain_start m history)) (sym over.tracked);
  }

  pub has_values : HasValues new plain_start (image ∷ history)
  has_values =
      samples.values plain_start history are_kept
      ∙ ap (λ ns. map (spelled_value plain_start (image ∷ history)) (spelled_by ns)) (sym samples.pool.0)

  -- what was read is the row of the frame
  pub row_is : (laid : Laid) (row : GroupRow) → IsLaid new.nodes (groups_of t) laid
      → row.truths ≡ truths_laid new.values laid
      → row.lefts ≡ numbers_at new.values laid.plan.lefts
      → row.rights ≡ numbers_at new.values laid.plan.rights → row.hits ≡ trigger.hits
      → row ≡ row_at t (image ∷ history) (kept_after t history).hits
  row_is laid row is truths lefts rights hits = (λ i. record {
    truths = (truths ∙ laid_truths new.nodes new.values plain_start (image ∷ history) has_values (groups_of t) laid is)
        i;
    lefts = (lefts ∙ laid_lefts new.nodes new.values plain_start (image ∷ history) has_values (groups_of t) laid is) i;
    rights = (rights ∙ laid_rights new.nodes new.values plain_start (image ∷ history) has_values (groups_of t) laid is)
        i;
    hits = (hits ∙ ap (λ (k : TriggerKept). k.hits) stands.trigger) i;
  })

  -- what a frame shows is what was read at it
  pub shown_is : (run : TriggerRun) → run.trigger ≡ trigger → IsLaid new.nodes (groups_of t) run.laid
      → shown_by t run.trigger (row_read new.values run) ≡ shown_by t (kept_after t history)
      (row_at t (image ∷ history) (kept_after t history).hits)
  shown_is run same laid =
      (λ i. shown_by t ((same ∙ stands.trigger) i)
      (row_is run.laid (row_read new.values run) laid refl refl refl (ap (λ (k : TriggerKept). k.hits) same) i))

-- a step by what was read is a frame of the achievement
pub steps_read : (t : TriggerContents) (table : TableSeen) (old new : TriggerRun) (change : Change)
    (truths : List Bool) (lefts : List ℕ) → IsLaid table.nodes (groups_of t) old.laid
    → truths ≡ truths_laid table.values old.laid → lefts ≡ numbers_at table.values old.laid.plan.lefts
    → new.trigger ≡ step t truths lefts old.trigger → change ≡ change_between old.trigger new.trigger
    → StepsAchievement table t old new change
steps_read t table old new change truths lefts laid truths_are lefts_are next told = record {
  kept = λ start h has.
      let holds = truths_are ∙ laid_truths table.nodes table.values start h has (groups_of t) old.laid laid in
      let numbers = lefts_are ∙ laid_lefts table.nodes table.values start h has (groups_of t) old.laid laid in
      next ∙ (λ i. step t (holds i) (numbers i) old.trigger);
  told = told;
}
