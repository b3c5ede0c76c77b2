use Rattle.std.proofs.Common.{◌≡◌, ◌≤◌, ◌^◌, ◌∙◌, arith, get_or, ap, sym, subst, false}
use Rattle.std.proofs.lemmas.List.{get_or-map}
use Rattle.std.proofs.lemmas.Bool.{false≢true}
use Rattle.ra_memory.specs.Image.{raw}
use Rattle.ra_indirect.specs.Pools.{cells_of}
use Rattle.ra_memref.specs.Table.{TableSeen, Agrees, no_cell}
use Rattle.ra_memref.proofs.AgendaLemmas.{count_all, gathered_idle, settled_idle}
use Rattle.ra_memref.proofs.TableLemmas.{few_cells}
use Rattle.ra_memref.proofs.table.Table.sample.Goals.{then-saw_many, else-saw_many, then-in_order, else-in_order}
use Rattle.ra_memref.proofs.table.Table.sample.Goals as goal

pub gather-requires-clause-cells : goal.gather-requires-clause-cells
gather-requires-clause-cells g c =
    let is = c.self.invariant in
    rw (c.deref.ensures.value, c.saw_many.ensures) (count_all is.agenda.cells ∙ sym is.sized.marked)

pub gather-requires-clause-few : goal.gather-requires-clause-few
gather-requires-clause-few g c =
    let is = c.self.invariant in
    rw c.deref.ensures.value
    (omega (arith, count_all is.agenda.cells, few_cells c.self.inside.nodes.items, is.few))

pub take_frame-in_order-requires-clause-agreed : goal.take_frame-in_order-requires-clause-agreed
take_frame-in_order-requires-clause-agreed g c =
    let is = c.self.invariant in
    let agrees = subst (λ (t : TableSeen). Agrees t (g.I.Image.bytes c.args.image.now)) (sym c.self.view_is)
    c.requires.agrees in
    rw (c.gather.ensures.same, c.saw_many.ensures) (λ k below unmarked.
    let width = ap (λ ws. get_or ws k 0) is.sized.widths
    ∙ get_or-map (λ d. d.width) (cells_of c.self.inside.nodes.items) k no_cell 0
    (omega (arith, below, is.sized.cells)) in
    agrees k below unmarked
    ∙ ap (λ w. raw w (g.I.Image.bytes c.args.image.now) (get_or c.self.inside.numbers.watches.places k 0)) (sym width))

pub take_frame-in_order-requires-clause-idle : goal.take_frame-in_order-requires-clause-idle
take_frame-in_order-requires-clause-idle g c = λ some.
    let is = c.self.invariant in
    let before : c.self.inside.agenda.all ≡ false = elim c.if-saw_many.branch [
      | then-saw_many w ↦ absurd (false≢true (sym some ∙ w.all-is ∙ w.if-saw_many.true))
      | else-saw_many w ↦ sym w.all-is ∙ some
    ] in
    rw (c.deref-2.ensures.value, c.deref-3.ensures.value, c.gather.ensures.same, c.saw_many.ensures)
    (gathered_idle c.self.inside.nodes.items is.pool c.self.inside.slots.items is.laid c.self.inside.numbers is.sized
    c.self.inside.agenda.cell_nodes.items is.agenda.cells c.self.inside.agenda.due c.gather.new.due (is.quiet before)
    (rw (c.deref.ensures.value, c.saw_many.ensures) at c.gather.ensures.gathered some))

pub note_cells-self-inside-requires-clause-cells : goal.note_cells-self-inside-requires-clause-cells
note_cells-self-inside-requires-clause-cells g c =
    let is = c.self.invariant in
    let sized = rw c.deref-2.ensures.value at c.take_frame-in_order.ensures.taken.sized in
    rw c.deref-then-in_order.ensures.value (count_all is.agenda.cells ∙ sym sized.cells)

pub invariant_of-self : goal.invariant_of-self
invariant_of-self g c =
    let is = c.self.invariant in
    let e = rw (c.deref-2.ensures.value, c.deref-3.ensures.value, c.gather.ensures.same, c.saw_many.ensures)
    at c.take_frame-in_order.ensures in
    let small : c.take_frame-in_order.new.self.watches.size ≤ 2 ^ 27 = omega (arith, e.taken.size, is.small) in
    elim c.if-in_order.branch [
      | then-in_order w ↦
          let noted = rw w.deref-then-in_order.ensures.value at w.note_cells-self-inside.ensures in
          rw (w.self-is, w.self-inside-is) (record {
            pool = is.pool;
            few = is.few;
            laid = is.laid;
            small = small;
            sized = e.taken.sized;
            agenda = record {
              dues = noted.long ∙ e.dues ∙ c.gather.ensures.long ∙ is.agenda.dues;
              dependents = is.agenda.dependents;
              cells = is.agenda.cells;
            };
            room = e.room ∙ is.room;
            quiet = λ some. (settled_idle c.self.inside.nodes.items is.pool c.self.inside.slots.items is.laid
                c.take_frame-in_order.new.self e.taken.sized c.self.inside.agenda.cell_nodes.items is.agenda.cells
                c.take_frame-in_order.new.due w.note_cells-self-inside.new.due (e.settled w.if-in_order.true) noted.kept
                (noted.noted some)).quiet;
          })
      | else-in_order w ↦
          rw (w.self-is, w.self-inside-is) (record {
            pool = is.pool;
            few = is.few;
            laid = is.laid;
            small = small;
            sized = e.taken.sized;
            agenda = record {
              dues = e.dues ∙ c.gather.ensures.long ∙ is.agenda.dues;
              dependents = is.agenda.dependents;
              cells = is.agenda.cells;
            };
            room = e.room ∙ is.room;
            quiet = λ some. (e.idle w.if-in_order.false).quiet;
          })
    ]
