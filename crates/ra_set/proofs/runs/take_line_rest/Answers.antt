use Rattle.std.proofs.Common.{◌≡◌, false, [], ◌∷◌, ◌++◌, refl, sym, subst, codes}
use Rattle.ra_set.specs.Runs.{any_but}
use Rattle.ra_set.proofs.RunLemmas.{RunSoFar, run-starts, run-next, run-ends, no-next}
use Rattle.ra_text.specs.Reading.{begins}
use Rattle.ra_text.specs.Table.{is_in}
use Rattle.ra_set.proofs.runs.take_line_rest.Goals as goal

pub bytes-init : goal.bytes-init
bytes-init c = ([], run-starts (any_but (codes "\n")) c.args.cursor.now.rest.now)

pub bytes-preserved : goal.bytes-preserved
bytes-preserved c = let p = c.bytes-test.ensures.passed refl in let i = c.bytes.invariant in (
  i.0 ++ p.v ∷ [],
  run-next (any_but (codes "\n")) i.0 p.byte p.v _ c.args.cursor.now.rest.now p.listed
      (subst (λ t. RunSoFar (any_but (codes "\n")) i.0 t c.args.cursor.now.rest.now) p.is i.1),
)

pub returns : goal.returns
returns c = let i = c.bytes.invariant in
    record {
      run = i.0;
      is = run-ends (any_but (codes "\n")) i.0 c.pass_in_line.new.cursor.rest.now c.args.cursor.now.rest.now
          (no-next (any_but (codes "\n")) c.pass_in_line.new.cursor.rest.now
          (subst (λ t. begins (is_in (any_but (codes "\n"))) t ≡ false)
          (sym (c.bytes-test.ensures.stayed refl)) (sym c.bytes-test.ensures.is_next)))
          (subst (λ t. RunSoFar (any_but (codes "\n")) i.0 t c.args.cursor.now.rest.now)
          (sym (c.bytes-test.ensures.stayed refl)) i.1);
    }
