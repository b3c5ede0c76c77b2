use Rattle.std.proofs.Common.{◌≡◌, ◌∙◌, ap, sym, subst, length, replicate, false, arith, refl}
use Rattle.std.proofs.lemmas.List.{length-map}
use Rattle.std.proofs.lemmas.Bool.{false≢true}
use Rattle.ra_indirect.specs.Pools.{cells_of}
use Rattle.ra_indirect.specs.Interned.{IsPool}
use Rattle.ra_memref.specs.declared.table.Table.TheInside.{Inside}
use Rattle.ra_memref.specs.Table.{IsFresh}
use Rattle.ra_memref.specs.Seen.{table_seen}
use Rattle.ra_memref.specs.Watches.{WatchesSeen}
use Rattle.ra_memref.specs.Numbers.{NumbersSeen}
use Rattle.ra_memref.specs.Changes.{ChangesSeen}
use Rattle.ra_memref.proofs.LayoutLemmas.{as_many_masks}
use Rattle.ra_memref.proofs.TableLemmas.{few_cells, made_sized, made_fresh}
use Rattle.ra_memref.proofs.table.Table.with_lists.Goals as goal

pub new-requires-clause-few : goal.new-requires-clause-few
new-requires-clause-few c =
    let places = length-map (cells_of c.deref.result.now) (λ d. d.address) in
    omega (
      arith,
      ap length c.in_ok-layout.ensures.places,
      places,
      few_cells c.deref.result.now,
      ap length c.deref.ensures.value,
      ap length c.into_nodes-nodes.ensures.nodes,
      c.requires.few,
    )

pub new-requires-clause-wide : goal.new-requires-clause-wide
new-requires-clause-wide c = λ k below.
    let places = length-map (cells_of c.deref.result.now) (λ d. d.address) in
    let widths = length-map (cells_of c.deref-2.result.now) (λ d. d.width) in
    c.in_ok-widths.ensures.wide k (omega (
      arith,
      below,
      ap length c.in_ok-layout.ensures.places,
      places,
      ap length c.in_ok-widths.ensures.widths,
      widths,
      ap (λ ns. length (cells_of ns)) c.deref.ensures.value,
      ap (λ ns. length (cells_of ns)) c.deref-2.ensures.value,
    ))

pub invariant_of-result : goal.invariant_of-result
invariant_of-result c =
    let nodes = c.into_nodes-nodes.result in
    let pool = c.into_nodes-nodes.ensures in
    let layout = rw c.deref.ensures.value at c.in_ok-layout.ensures in
    let widths = rw c.deref-2.ensures.value at c.in_ok-widths.ensures in
    let numbers = c.in_ok-numbers.ensures in
    let agenda = rw c.deref-3.ensures.value at c.in_ok-agenda.ensures in
    let count : c.len-2.result ≡ length nodes.items = c.len-2.ensures ∙ nodes.ok.0 in
    let watches = ap (λ (n : NumbersSeen). n.watches) numbers in
    let size : c.in_ok-numbers.numbers.watches.size ≡ c.args.size =
    ap (λ (w : WatchesSeen). w.size) (watches ∙ c.in_ok-watches.ensures) in
    record {
      pool = subst IsPool (sym pool.nodes) pool.pool;
      few = omega (arith, ap length pool.nodes, c.requires.few);
      laid = layout.slots;
      small = omega (arith, size, c.requires.size);
      sized = made_sized nodes.items c.args.size _ c.in_ok-layout.layout.places.items c.in_ok-widths.widths.items
          c.in_ok-watches.watches c.in_ok-numbers.numbers layout.places widths.widths
          (c.len.ensures.len ∙ as_many_masks _ _ layout.masks) c.in_ok-watches.ensures
          (ap (λ (n : NumbersSeen). n.cells) numbers) (ap (λ (n : NumbersSeen). n.earlier) numbers) watches
          (ap (λ (n : NumbersSeen). n.priors) numbers)
          (ap (λ (n : NumbersSeen). n.values) numbers ∙ ap (λ n. replicate n 0) count);
      agenda = record { dues = agenda.dues; dependents = agenda.dependents; cells = agenda.cells };
      room = ap (λ (seen : ChangesSeen). seen.room) c.in_ok-changes.ensures ∙ c.len-3.ensures ∙ nodes.ok.0;
      quiet = λ some. absurd (false≢true (sym some ∙ agenda.all));
    }

pub returns : goal.returns
returns c =
    let layout = rw c.deref.ensures.value at c.in_ok-layout.ensures in
    let numbers = c.in_ok-numbers.ensures in
    let table : Inside = record {
      nodes = c.into_nodes-nodes.result;
      slots = c.in_ok-layout.layout.slots;
      numbers = c.in_ok-numbers.numbers;
      agenda = c.in_ok-agenda.agenda;
      changes = c.in_ok-changes.changes;
      sampled = false;
    } in
    subst (λ ns. IsFresh ns c.args.size (table_seen table)) c.into_nodes-nodes.ensures.nodes
    (made_fresh c.into_nodes-nodes.result.items c.args.size _ c.in_ok-layout.layout.places.items
    c.in_ok-widths.widths.items c.in_ok-watches.watches table refl refl layout.places
    (c.len.ensures.len ∙ as_many_masks _ _ layout.masks) c.in_ok-watches.ensures
    (ap (λ (n : NumbersSeen). n.cells) numbers) (ap (λ (n : NumbersSeen). n.watches) numbers)
    (ap (λ (n : NumbersSeen). n.priors) numbers))
