use Rattle.std.proofs.Common.{List, subst, sym, ℕ}
use Rattle.ra_author_jobs.specs.Expected.{SaysOfBytes, expected_of}
use Rattle.ra_author_jobs.proofs.AnswerLemmas.{file_says}
use Rattle.ra_author_jobs.proofs.importing.import_answer.Goals as goal

pub returns-in-Ok-clause-says : goal.returns-in-Ok-clause-says
returns-in-Ok-clause-says g c =
    file_says (g.F.Files.content c.args.files.now) c.args.name.now c.in_ok-bytes.bytes.items
    (expected_of c.in-Ok.answer) c.in_ok-bytes.ensures.ok
    (subst (λ (b : List ℕ). SaysOfBytes b (expected_of c.in-Ok.answer)) c.as_slice.ensures.value c.in-Ok.ensures.says)
