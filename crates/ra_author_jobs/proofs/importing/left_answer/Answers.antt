use Rattle.std.proofs.Common.{◌≡◌, ◌⊎◌, List, subst, ℕ}
use Rattle.ra_set.specs.Accepted.{IsSet}
use Rattle.ra_set.specs.Contents.{set_contents}
use Rattle.ra_set.specs.Refusals.{Refuses}
use Rattle.ra_set.specs.declared.refused.SetRefused.TheVariants as set
use Rattle.ra_author_jobs.proofs.AnswerLemmas.{import_says, set_says}
use Rattle.ra_author_jobs.proofs.importing.left_answer.Goals as goal

pub returns-in-Ok-clause-says : goal.returns-in-Ok-clause-says
returns-in-Ok-clause-says c =
    (import_says c.imported_answer.result c.args.left.text.items c.args.left.left_out.items (set_contents c.in-Ok.set)
    (subst (λ (b : List ℕ). IsSet b (set_contents c.in-Ok.set)) c.as_slice.ensures.value
    c.in-Ok.ensures.ok) c.imported_answer.ensures).0

pub returns-in-Err : goal.returns-in-Err
returns-in-Err c =
    let both = set_says c.set_answer.result c.args.left.text.items c.args.left.left_out.items c.in-Err.why
    (subst (λ (b : List ℕ). c.in-Err.why
    ≡ set.Memory ⊎ Refuses b c.in-Err.why) c.as_slice.ensures.value c.in-Err.ensures.err)
    c.set_answer.ensures.told c.set_answer.ensures.says in
    record { says = both.0; own = both.1 }
