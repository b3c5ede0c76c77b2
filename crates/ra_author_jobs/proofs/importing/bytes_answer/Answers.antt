use Rattle.ra_author_jobs.proofs.AnswerLemmas.{document_says, left_says}
use Rattle.ra_author_jobs.proofs.importing.bytes_answer.Goals as goal

pub returns-in-Ok-clause-says : goal.returns-in-Ok-clause-says
returns-in-Ok-clause-says c =
    left_says c.left_answer.result c.args.bytes.now c.in-Ok.left.text.items
    c.in-Ok.left.left_out.items c.in-Ok.ensures.ok c.left_answer.ensures.says

pub returns-in-Err : goal.returns-in-Err
returns-in-Err c =
    let both = document_says c.document_answer.result c.args.bytes.now c.in-Err.why c.in-Err.ensures.err
    c.document_answer.ensures.told c.document_answer.ensures.says in
    record { says = both.0; own = both.1 }
