use Rattle.std.proofs.Common.{subst, ◌≡◌, ◌∙◌, [], ap, length, replicate, true, arith}
use Rattle.std.proofs.lemmas.List.{length-replicate}
use Rattle.ra_memref.specs.Watches.{IsOrder, first_page, order_by, pages_of}
use Rattle.ra_memref.proofs.Indexed.{standing_more, standing_none, read_at}
use Rattle.ra_memref.proofs.watches.Watches.new.Goals as goal

pub loop-cell-init : goal.loop-cell-init
loop-cell-init c =
    standing_none c.args.listed c.args.places.items c.in_ok-pages.pages (c.in_ok-pages.ensures
    ∙ ap (λ n. record { lists = replicate n []; nodes = c.len-2.result }) (c.div_ceil.ensures ∙ omega arith)
    ∙ ap (λ n. record { lists = replicate (pages_of c.args.listed) []; nodes = n })
    (c.len-2.ensures ∙ c.args.places.ok.0))

pub loop-cell-preserved : goal.loop-cell-preserved
loop-cell-preserved c =
    let cell = c.loop-cell.cell in
    let place = read_at c.args.places.items cell _ (omega arith) c.index.ensures in
    standing_more c.args.listed c.args.places.items c.loop-cell.pages c.stand.new.pages cell c.loop-cell.invariant
    (record {
      stands = c.stand.ensures.stands ∙ ap (first_page c.args.listed) place;
      others = c.stand.ensures.others;
      lists = c.stand.ensures.lists;
      nodes = c.stand.ensures.nodes;
    })

pub invariant_of-result : goal.invariant_of-result
invariant_of-result c =
    let end : c.loop-cell.cell ≡ length c.args.places.items = omega arith in
    let standing = c.loop-cell.invariant in
    record {
      indexed = record {
        small = c.requires.listed;
        few = c.requires.few;
        widths_too = c.requires.widths;
        marks_too = ap length c.in_ok-marks.ensures ∙ length-replicate c.len.result true
            ∙ c.len.ensures ∙ c.args.places.ok.0;
        wide = c.requires.wide;
        lists = standing.lists;
        nodes = standing.nodes;
        stands = λ k below. standing.stands k (omega (arith, below, end));
      };
      ordered = subst (λ xs. IsOrder (length xs) (order_by (length xs) c.in_ok-order.order.items))
          c.deref.ensures.value c.in_ok-order.ensures;
    }
