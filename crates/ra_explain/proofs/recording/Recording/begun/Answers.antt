use Rattle.std.proofs.Common.{◌≡◌, ◌≤◌, ◌+◌, ◌-◌, ◌*◌, [], None, Option, true, length, map, replicate, refl, ap, sym}
use Rattle.std.proofs.Common.{subst, ◌∙◌, arith}
use Rattle.std.specs.List.{AllByRecursion}
use Rattle.std.proofs.lemmas.Bool.{false≢true}
use Rattle.std.proofs.lemmas.List.{length-replicate}
use Rattle.ra_condition.specs.Contents.{trigger_contents, trigger_hits}
use Rattle.ra_indirect.specs.Pools.{cells_of}
use Rattle.ra_memref.proofs.AgreeLemmas.{Agrees-marked}
use Rattle.ra_explain.specs.declared.slot.Slot.{Slot}
use Rattle.ra_explain.specs.Recorders.{StandsFor, most_rows}
use Rattle.ra_explain.specs.RowLists.{RowsSeen, rows_from}
use Rattle.ra_explain.specs.Slots.{kept_by, FitsOptional}
use Rattle.ra_explain.proofs.CurrentLemmas.{current_agrees}
use Rattle.ra_explain.proofs.MadeLemmas.{stands_first}
use Rattle.ra_explain.proofs.SlotLemmas.{slots_kept, slots_fit_none, none_kept}
use Rattle.ra_explain.proofs.recording.Recording.begun.Goals as goal

pub invariant_of-result : goal.invariant_of-result
invariant_of-result c =
    let t = trigger_contents c.args.text in
    let table = c.in_ok-table.table in
    let run = c.in_ok-table.run' in
    let laid = c.in_ok-table.ensures in
    let rows = c.new-rows.result in
    let one : length rows.behind ≡ 1 = ap (λ (r : RowsSeen). length r.behind) c.new-rows.ensures in
    let none : rows_from rows.behind 0 ≡ [] = ap (λ (r : RowsSeen). rows_from r.behind 0) c.new-rows.ensures in
    let frames : length rows.behind - 1 ≡ 0 = omega (arith, one) in
    let few : 0 * (trigger_hits t + 1) ≤ most_rows = omega arith in
    record {
      few = c.requires.few;
      over = laid.over;
      run_too = laid.run_too;
      width = ap (λ (r : RowsSeen). r.width) c.new-rows.ensures ∙ ap length c.hits.ensures ∙ laid.run_too.hits;
      rows_few = subst (λ n. n * (trigger_hits t + 1) ≤ most_rows) (sym frames) few;
      latest = omega (arith, one);
      somewhere =
          record {
            history = [];
            stands = subst (λ rs. StandsFor t (kept_by table run.trigger rs) []) (sym none)
                (stands_first t c.args.size table run laid);
          };
      unlock = λ is. absurd (false≢true is);
      sixteen = ap length c.in_ok-slots.ensures ∙ length-replicate {A = Option Slot} 16 None;
      slots_fit = subst (AllByRecursion (FitsOptional t rows.behind)) (sym c.in_ok-slots.ensures)
          (slots_fit_none t rows.behind 16);
    }

pub returns : goal.returns
returns c =
    let t = trigger_contents c.args.text in
    let table = c.in_ok-table.table in
    let run = c.in_ok-table.run' in
    let laid = c.in_ok-table.ensures in
    let rows = c.new-rows.result in
    let one : length rows.behind ≡ 1 = ap (λ (r : RowsSeen). length r.behind) c.new-rows.ensures in
    let none : rows_from rows.behind 0 ≡ [] = ap (λ (r : RowsSeen). rows_from r.behind 0) c.new-rows.ensures in
    record {
      made = record {
        trigger = refl;
        image = refl;
        frames = omega (arith, one);
        slots = ap (slots_kept t rows.behind) c.in_ok-slots.ensures ∙ none_kept t rows.behind 16;
        unlocked = refl;
        stands = subst (λ rs. StandsFor t (kept_by table run.trigger rs) []) (sym none)
            (stands_first t c.args.size table run laid);
      };
      size_too = laid.fresh.size_too;
      marked = laid.fresh.marked ∙ ap (λ cs. replicate (length cs) true) laid.over.cells;
      places = laid.fresh.places ∙ ap (map (λ c. c.address)) laid.over.cells;
      current = λ image. current_agrees t table image laid.over
          (Agrees-marked table image (length (cells_of table.nodes)) laid.fresh.marked);
    }
