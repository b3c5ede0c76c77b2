use Rattle.std.proofs.Common.{◌≡◌, ◌∙◌, ap, length, rules, subst, sym}
use Rattle.std.proofs.lemmas.Bool.{false≢true}
use Rattle.ra_truths.specs.Comparisons.{AreOver, IsWithin, comparison_at}
use Rattle.ra_truths.specs.Truths.{TruthsSeen}
use Rattle.ra_table_tests.proofs.truths.Judge.new.Goals as goal

pub of-requires-clause-within : goal.of-requires-clause-within
of-requires-clause-within c = λ k below.
    subst (λ n. IsWithin n (comparison_at c.args.comparisons k)) (sym c.len.ensures.len)
    (c.requires.over k below).within

pub invariant_of-result : goal.invariant_of-result
invariant_of-result c =
    let fresh = c.in_ok-table.ensures in
    let truths = c.in_ok-truths.ensures in
    record {
      size = search rules;
      agrees = fresh.agrees c.in_ok-memory.memory (search rules);
      nodes = ap length fresh.pool ∙ sym (ap (λ (t : TruthsSeen). t.nodes) truths ∙ c.len.ensures.len);
      over = rw (fresh.pool, truths) c.requires.over;
      told = λ known. absurd (false≢true (sym (ap (λ (t : TruthsSeen). t.known) truths) ∙ known));
    }
