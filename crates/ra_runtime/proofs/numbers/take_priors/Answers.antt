use Rattle.std.proofs.Common.{◌≡◌, ◌+◌, ◌<◌, ◌++◌, true, length, replicate, take, drop, slice_set, slice_index, sym}
use Rattle.std.proofs.Common.{◌∙◌, ap, arith, append-nil}
use Rattle.std.proofs.lemmas.List.{take_all, drop_all}
use Rattle.ra_memref.specs.Table.{TableSeen}
use Rattle.ra_runtime.proofs.TakenNumbers.{row_next, row_long}
use Rattle.ra_runtime.proofs.numbers.take_priors.Goals as goal

pub put_prior-requires : goal.put_prior-requires
put_prior-requires c =
    let p = c.loop-prior in
    let long = ap (λ (t : TableSeen). length t.priors) p.invariant.is
    ∙ row_long p.prior c.args.numbers.now c.args.table.now.priors c.requires.many (omega arith) in
    omega (arith, c.requires.many, long)

pub loop-prior-preserved : goal.loop-prior-preserved
loop-prior-preserved c =
    let p = c.loop-prior in
    let old = c.args.table.now in
    let numbers = c.args.numbers.now in
    let new = c.put_prior.new.self in
    let put = c.put_prior.ensures.is in
    let n = slice_index numbers p.prior in
    let less : p.prior < length numbers = omega arith in
    let row : slice_set p.table.priors p.prior n ≡ take (p.prior + 1) numbers ++ drop (p.prior + 1)
    old.priors = ap (λ (t : TableSeen). slice_set t.priors p.prior n) p.invariant.is ∙ row_next
    p.prior numbers old.priors c.requires.many less in
    let rest : record p.table
    { priors = slice_set p.table.priors p.prior n; sampled = new.sampled; marked = new.marked }
    ≡ record old
    { priors = slice_set p.table.priors p.prior n; sampled = new.sampled; marked = new.marked } =
    ap (λ (t : TableSeen). record t
    { priors = slice_set p.table.priors p.prior n; sampled = new.sampled; marked = new.marked })
    p.invariant.is in
    let same : new ≡ record p.table
    { priors = slice_set p.table.priors p.prior n; sampled = new.sampled; marked = new.marked } =
    put ∙ sym (λ i. record p.table
    { priors = slice_set p.table.priors p.prior n; sampled = (put i).sampled; marked = (put i).marked }) in
    let many : length p.table.cells ≡ length old.cells = ap (λ (t : TableSeen). length t.cells) p.invariant.is in
    record {
      is = same ∙ rest ∙ ap (λ row. record old { priors = row; sampled = new.sampled; marked = new.marked }) row;
      marked = λ some. ap (λ (t : TableSeen). t.marked) put ∙ ap (λ n. replicate n true) many;
      kept = λ none. absurd (omega (arith, none));
    }

pub returns : goal.returns
returns c =
    let p = c.loop-prior in
    let old = c.args.table.now in
    let numbers = c.args.numbers.now in
    let all : p.prior ≡ length numbers = omega arith in
    let row : take p.prior numbers ++ drop p.prior old.priors ≡ numbers =
    (λ i. take_all p.prior numbers (omega (arith, all)) i
    ++ drop_all p.prior old.priors (omega (arith, all, c.requires.many)) i) ∙ append-nil numbers in
    record {
      is = p.invariant.is ∙ ap (λ row. record old
          { priors = row; sampled = p.table.sampled; marked = p.table.marked }) row;
      marked = λ some. p.invariant.marked (omega (arith, some, all));
      kept = λ none. p.invariant.kept (omega (arith, none, all));
    }
