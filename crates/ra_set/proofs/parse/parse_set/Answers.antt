use Rattle.std.proofs.lemmas.Result.{err_from_is_err_and}
use Rattle.ra_set.specs.Contents.{set_contents}
use Rattle.ra_set.proofs.AnswerLemmas.{error-of_set, error-of_refused, named-set, set-not_refused, same-set}
use Rattle.ra_set.proofs.NamedSets.{set-named}
use Rattle.ra_set.proofs.parse.parse_set.Goals as goal

pub returns-in_err-read-clause-accepted : goal.returns-in_err-read-clause-accepted
returns-in_err-read-clause-accepted c =
    let p = err_from_is_err_and c.from_residual.result c.from_residual.ensures.1 in
    rw (p.1, p.2) (λ set s. error-of_set c.args.bytes.now c.in_err-read.field-0.0 c.in_err-read.ensures.err set s)

pub returns-in_err-read-clause-refused : goal.returns-in_err-read-clause-refused
returns-in_err-read-clause-refused c =
    let p = err_from_is_err_and c.from_residual.result c.from_residual.ensures.1 in
    rw (p.1, p.2) (λ why h. error-of_refused c.args.bytes.now c.in_err-read.field-0.0 c.in_err-read.ensures.err why h)

pub returns-clause-ok : goal.returns-clause-ok
returns-clause-ok c =
    named-set c.args.bytes.now (set_contents c.in_ok-read.read) c.digest.result c.in_ok-names.names.items.items
    c.in_ok-names.names.script (record {
      digest_is = c.digest.ensures;
      items_are = c.in_ok-names.ensures.items;
      script_is = c.in_ok-names.ensures.script;
    }) c.in_ok-read.ensures.ok

pub returns-clause-named : goal.returns-clause-named
returns-clause-named c = set-named c.args.bytes.now _ (returns-clause-ok c)

pub returns-clause-accepted : goal.returns-clause-accepted
returns-clause-accepted c = λ set s. same-set c.args.bytes.now _ set (returns-clause-ok c) s

pub returns-clause-refused : goal.returns-clause-refused
returns-clause-refused c = λ why h. set-not_refused c.args.bytes.now _ why (returns-clause-ok c) h
