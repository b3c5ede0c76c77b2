use Rattle.serde_json.specs.View.{view}
use Rattle.ra_patch.specs.LeftAnswers.{LeavesOfficial}
use Rattle.ra_patch.proofs.LeftLemmas.{answer-left, answer-refused, refused-read}
use Rattle.ra_patch.proofs.LeftLemmas.{official-accepted, official-not_refused, official-read, one-official}
use Rattle.ra_patch.proofs.official.official_of.Goals as goal

pub returns-clause-left : goal.returns-clause-left
returns-clause-left c =
    let bytes = c.args.bytes.now in
    let d = view c.in_ok-document.document in
    let document = c.in_ok-document.ensures.ok in
    answer-left (λ v. v.text.items) (λ v. v.left_out) bytes (LeavesOfficial bytes)
    (λ t u r s. one-official bytes t u r s) (official-not_refused bytes) c.official_of_value.result
    (official-read (λ v. v.text.items) (λ v. v.left_out) bytes d c.official_of_value.result document
    c.official_of_value.ensures.ok)
    (refused-read bytes d c.official_of_value.result document c.official_of_value.ensures.err)

pub returns-clause-refused : goal.returns-clause-refused
returns-clause-refused c =
    let bytes = c.args.bytes.now in
    let d = view c.in_ok-document.document in
    let document = c.in_ok-document.ensures.ok in
    answer-refused (λ v. v.text.items) (λ v. v.left_out) bytes (LeavesOfficial bytes)
    (λ t u r s. one-official bytes t u r s) (official-not_refused bytes) c.official_of_value.result
    (official-read (λ v. v.text.items) (λ v. v.left_out) bytes d c.official_of_value.result document
    c.official_of_value.ensures.ok)
    (refused-read bytes d c.official_of_value.result document c.official_of_value.ensures.err)

pub returns-clause-accepted : goal.returns-clause-accepted
returns-clause-accepted c =
    official-accepted (λ v. v.text.items) (λ v. v.left_out) (view c.in_ok-document.document) c.official_of_value.result
    c.official_of_value.ensures.ok
