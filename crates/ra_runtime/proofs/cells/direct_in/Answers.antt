use Rattle.std.proofs.Common.{◌≡◌, ◌<◌, ◌++◌, Some, length, sym, ◌∙◌, ap, arith}
use Rattle.std.specs.Option.{option_to_list}
use Rattle.std.proofs.lemmas.List.{append-nil}
use Rattle.ra_indirect.specs.Pools.{node_at, spelled_by}
use Rattle.ra_memref.specs.Layout.{cells_before}
use Rattle.ra_memref.proofs.LaidLemmas.{cells_all}
use Rattle.ra_runtime.specs.Cells.{direct_in, direct_of}
use Rattle.ra_runtime.proofs.CellLemmas.{direct_next}
use Rattle.ra_runtime.proofs.cells.direct_in.Goals.{in-Some+in_ok-push, in_default}
use Rattle.ra_runtime.proofs.cells.direct_in.Goals as goal

pub loop-number-preserved : goal.loop-number-preserved
loop-number-preserved c =
    let p = c.loop-number in
    let nodes = c.args.nodes.now in
    let within : p.number < length nodes = omega (arith, c.loop-number-test.true) in
    let so_far = direct_of (cells_before (spelled_by nodes) p.number) in
    let next = sym (direct_next nodes c.requires p.number within) in
    let here : option_to_list c.direct_at.result ≡ direct_in nodes (node_at nodes p.number) = c.direct_at.ensures in
    elim c.match-direct_at.branch [
      | in-Some+in_ok-push w ↦ ap (λ v. v.items) w.cells-is ∙ w.in_ok-push.ensures.items
          ∙ ap (λ xs. xs ++ option_to_list (Some w.in-Some.cell)) p.invariant
          ∙ ap (λ xs. so_far ++ xs) (ap option_to_list (sym w.in-Some.is) ∙ here) ∙ next
      | in_default w ↦ ap (λ v. v.items) w.cells-is ∙ p.invariant ∙ sym (append-nil so_far)
          ∙ ap (λ xs. so_far ++ xs) (ap option_to_list (sym w.in_default.is) ∙ here) ∙ next
    ]

pub returns : goal.returns
returns c =
    let end : c.loop-number.number ≡ length c.args.nodes.now =
    omega (arith, c.loop-number-test.false, c.loop-number.auto.number-end) in
    c.loop-number.invariant ∙ ap direct_of (ap (cells_before (spelled_by c.args.nodes.now)) end
    ∙ cells_all c.args.nodes.now)
