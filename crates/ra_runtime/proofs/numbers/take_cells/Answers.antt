use Rattle.std.proofs.Common.{◌≡◌, ◌+◌, ◌<◌, ◌++◌, true, length, replicate, take, drop, slice_set, slice_index, sym}
use Rattle.std.proofs.Common.{◌∙◌, ap, arith, append-nil}
use Rattle.std.proofs.lemmas.List.{take_all, drop_all}
use Rattle.ra_memref.specs.Table.{TableSeen}
use Rattle.ra_runtime.proofs.TakenNumbers.{row_next, row_long}
use Rattle.ra_runtime.proofs.numbers.take_cells.Goals as goal

pub put_cell-requires : goal.put_cell-requires
put_cell-requires c =
    let p = c.loop-cell in
    let long = ap (λ (t : TableSeen). length t.cells) p.invariant.is
    ∙ row_long p.cell c.args.numbers.now c.args.table.now.cells c.requires.many (omega arith) in
    omega (arith, c.requires.many, long)

pub loop-cell-preserved : goal.loop-cell-preserved
loop-cell-preserved c =
    let p = c.loop-cell in
    let old = c.args.table.now in
    let numbers = c.args.numbers.now in
    let new = c.put_cell.new.self in
    let put = c.put_cell.ensures.is in
    let n = slice_index numbers p.cell in
    let less : p.cell < length numbers = omega arith in
    let row : slice_set p.table.cells p.cell n ≡ take (p.cell + 1) numbers
    ++ drop (p.cell + 1) old.cells = ap (λ (t : TableSeen). slice_set t.cells p.cell n)
    p.invariant.is ∙ row_next p.cell numbers old.cells c.requires.many less in
    let rest : record p.table
    { cells = slice_set p.table.cells p.cell n; sampled = new.sampled; marked = new.marked }
    ≡ record old
    { cells = slice_set p.table.cells p.cell n; sampled = new.sampled; marked = new.marked } =
    ap (λ (t : TableSeen). record t
    { cells = slice_set p.table.cells p.cell n; sampled = new.sampled; marked = new.marked })
    p.invariant.is in
    let same : new ≡ record p.table
    { cells = slice_set p.table.cells p.cell n; sampled = new.sampled; marked = new.marked } =
    put ∙ sym (λ i. record p.table
    { cells = slice_set p.table.cells p.cell n; sampled = (put i).sampled; marked = (put i).marked }) in
    let many : length p.table.cells ≡ length old.cells = ap (λ (t : TableSeen). length t.cells)
    p.invariant.is ∙ row_long p.cell numbers old.cells c.requires.many (omega (arith, less)) in
    record {
      is = same ∙ rest ∙ ap (λ row. record old { cells = row; sampled = new.sampled; marked = new.marked }) row;
      marked = λ some. ap (λ (t : TableSeen). t.marked) put ∙ ap (λ n. replicate n true) many;
      kept = λ none. absurd (omega (arith, none));
    }

pub returns : goal.returns
returns c =
    let p = c.loop-cell in
    let old = c.args.table.now in
    let numbers = c.args.numbers.now in
    let all : p.cell ≡ length numbers = omega arith in
    let row : take p.cell numbers ++ drop p.cell old.cells ≡ numbers =
    (λ i. take_all p.cell numbers (omega (arith, all)) i
    ++ drop_all p.cell old.cells (omega (arith, all, c.requires.many)) i) ∙ append-nil numbers in
    record {
      is = p.invariant.is ∙ ap (λ row. record old
          { cells = row; sampled = p.table.sampled; marked = p.table.marked }) row;
      marked = λ some. p.invariant.marked (omega (arith, some, all));
      kept = λ none. p.invariant.kept (omega (arith, none, all));
    }
