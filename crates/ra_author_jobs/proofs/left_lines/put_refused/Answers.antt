use Rattle.std.proofs.Common.{[], ◌∷◌, codes, string_bytes}
use Rattle.ra_author_jobs.specs.Importing.{document_words}
use Rattle.ra_author_jobs.proofs.AnswerLemmas.{three_parts}
use Rattle.ra_author_jobs.proofs.left_lines.put_refused.Goals as goal

pub returns-clause-line : goal.returns-clause-line
returns-clause-line c =
    three_parts (string_bytes c.args.text.now) (codes "import refused: ") (document_words c.args.why) (10 ∷ []) _ _ _
    c.in_ok-push_str.ensures.bytes c.in_ok-put_words.ensures.words c.in_ok-push_str-2.ensures.bytes
