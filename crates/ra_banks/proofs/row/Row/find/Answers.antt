use Rattle.std.proofs.Common.{◌-◌, ◌≤◌, [], drop, subst, arith}
use Rattle.ra_banks.specs.Banks.{bytes_of, IsPart}
use Rattle.ra_banks.proofs.Shifted.{part_of_last, part_first, part_after}
use Rattle.ra_banks.proofs.row.Row.find.Goals.{in-Some, in-None}
use Rattle.ra_banks.proofs.row.Row.find.Goals as goal

pub invariant_of-self : goal.invariant_of-self
invariant_of-self c =
    let inside = c.self.inside in
    let all = bytes_of inside.banks.now in
    let found = c.in-Some-bank_of.ensures in
    let last : IsPart all [] (bytes_of (drop c.match-past.first.0 inside.banks.now))
    (c.args.at - c.match-past.first.1) = elim c.match-past.branch [
      | in-Some w ↦ rw w.first-is (subst (IsPart all [] (bytes_of (drop inside.next
          inside.banks.now))) (omega (arith, w.in-Some.ensures)) (part_after all inside.here.now
          (bytes_of (drop inside.next inside.banks.now)) inside.start c.self.invariant.0.part))
      | in-None w ↦ rw w.first-is (subst (IsPart all [] all) (omega arith) (part_first all))
    ] in
    let less : c.match-past.first.1 ≤ c.args.at = elim c.match-past.branch [
      | in-Some w ↦ rw w.first-is (omega (arith, w.in-Some.ensures))
      | in-None w ↦ rw w.first-is (omega arith)
    ] in (
      record {
        part = part_of_last all (bytes_of (drop c.match-past.first.0 inside.banks.now))
            c.in-Some-bank_of.here.now _
            (c.args.at - c.match-past.first.1) c.in-Some-bank_of.from last found.found;
        low = omega (arith, less, found.before, c.requires);
        four = omega (arith, c.saturating_sub-self-inside.ensures, c.min.ensures);
        small = omega (arith, c.saturating_sub-self-inside.ensures, c.min.ensures);
      },
      found.next,
    )
