use Rattle.std.proofs.Common.{◌≡◌, List, ℕ, length, ap, sym, subst, refl, ◌∙◌}
use Rattle.std.specs.Vec.{with_items}
use Rattle.std.proofs.lemmas.List.{with_items_is}
use Rattle.ra_progress.specs.Contents.{ShapeContents}
use Rattle.ra_progress.specs.Names.{IsOrder}
use Rattle.ra_runtime.specs.Lazy.{with_names}
use Rattle.ra_runtime.proofs.LazyNames.{made_names}
use Rattle.ra_runtime.proofs.lazy_shape.LazyShape.make.Goals as goal

pub returns-then-self : goal.returns-then-self
returns-then-self c = λ whole lazy names. record { lazy = lazy; whole_now = lazy.made c.if-self.true; room = refl }

pub returns : goal.returns
returns c = λ whole lazy names.
    let s = c.fill_names.new.shape in
    let filled = c.fill_names.ensures in
    let cells = with_items_is s.cells c.put_names.new.cells (c.put_names.auto.cells ∙ c.deref_mut.ensures.len) in
    let priors = with_items_is s.priors c.put_names.new.priors (c.put_names.auto.priors ∙ c.deref_mut-2.ensures.len) in
    let cell_order = with_items_is s.cell_order c.put_order.new.order (c.put_order.auto.order
    ∙ c.deref_mut-3.ensures.len) in
    let prior_order = with_items_is s.prior_order c.put_order-2.new.order (c.put_order-2.auto.order
    ∙ c.deref_mut-4.ensures.len) in
    made_names whole c.args.self.now _ lazy
    (ap (λ (x : ShapeContents). with_names x (with_items s.cells c.put_names.new.cells).items
    (with_items s.priors c.put_names.new.priors).items) filled.rest)
    (cells ∙ c.put_names.ensures.cells ∙ names.cells)
    (priors ∙ c.put_names.ensures.priors ∙ names.priors)
    (subst (λ o. IsOrder (with_items s.cells c.put_names.new.cells).items o) (sym cell_order) (subst
    (λ ns. IsOrder ns c.put_order.new.order) c.deref.ensures.value c.put_order.ensures.order))
    (subst (λ o. IsOrder (with_items s.priors c.put_names.new.priors).items o) (sym prior_order)
    (subst (λ ns. IsOrder ns c.put_order-2.new.order) c.deref-2.ensures.value
    c.put_order-2.ensures.order))
    (ap length cell_order ∙ c.put_order.auto.order ∙ ap length c.deref_mut-3.ensures.value ∙ filled.cell_order
    ∙ ap length c.cells.ensures ∙ names.many_cells)
    (ap length prior_order ∙ c.put_order-2.auto.order ∙ ap length c.deref_mut-4.ensures.value ∙ filled.prior_order
    ∙ ap length c.priors.ensures ∙ names.many_priors)
    filled.entry_order
    (c.put_order-2.ensures.room ∙ c.put_order.ensures.room)
    c.put_names.ensures.room
