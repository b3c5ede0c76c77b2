use Rattle.std.proofs.Common.{◌≡◌, ◌∙◌, rules, ap, map, refl, true}
use Rattle.std.specs.Prelude.{is_some, option_and_then, string_bytes}
use Rattle.std.proofs.lemmas.Bool.{both_ways}
use Rattle.ra_args.specs.JobCommand.{job_given}
use Rattle.ra_args.specs.JobWords.{job_of}
use Rattle.ra_args.proofs.Shapes.{job_taken}
use Rattle.ra_args.proofs.job_words.read_job.Goals as goal

pub returns-in-Ok : goal.returns-in-Ok
returns-in-Ok c =
    let job : is_some (job_of (map string_bytes c.args.words.now)) ≡ true = search rules in
    c.job_read.ensures ∙ ap (option_and_then (λ found. job_given found.0 found.1))
    c.in-Ok.ensures.found ∙ (job_taken (map string_bytes c.args.words.now) job).read

pub unreachable-requires : goal.unreachable-requires
unreachable-requires c =
    let job : is_some (job_of (map string_bytes c.args.words.now)) ≡ true = search rules in
    let kind = c.kind.ensures ∙ c.in-Err.ensures.passes (job_taken (map string_bytes c.args.words.now) job).taken in
    let same : c.eq.result ≡ true = c.eq.ensures ∙ rw kind refl in
    absurd (both_ways c.eq.result c.if-eq.false same)
