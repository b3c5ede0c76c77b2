use Rattle.std.proofs.Common.{[]}
use Rattle.serde_json.specs.View.{view}
use Rattle.ra_patch.specs.LeftAnswers.{LeavesDocument}
use Rattle.ra_patch.proofs.ImportedLemmas.{imported-leaves}
use Rattle.ra_patch.proofs.LeftLemmas.{answer-accepted, answer-left, answer-refused, answer-whole}
use Rattle.ra_patch.proofs.LeftLemmas.{left-not_refused, left-read, one-left, refused-read}
use Rattle.ra_patch.proofs.leave.left_of.Goals as goal

pub returns-clause-left : goal.returns-clause-left
returns-clause-left c =
    let bytes = c.args.bytes.now in
    let d = view c.in_ok-document.document in
    let document = c.in_ok-document.ensures.ok in
    answer-left (λ v. v.text.items) (λ v. v.left_out.items) bytes (LeavesDocument bytes)
    (λ t u r s. one-left bytes t u r s) (left-not_refused bytes) c.left_of_value.result
    (left-read (λ v. v.text.items) (λ v. v.left_out.items) bytes d c.left_of_value.result document
    c.left_of_value.ensures.ok)
    (refused-read bytes d c.left_of_value.result document c.left_of_value.ensures.err)

pub returns-clause-refused : goal.returns-clause-refused
returns-clause-refused c =
    let bytes = c.args.bytes.now in
    let d = view c.in_ok-document.document in
    let document = c.in_ok-document.ensures.ok in
    answer-refused (λ v. v.text.items) (λ v. v.left_out.items) bytes (LeavesDocument bytes)
    (λ t u r s. one-left bytes t u r s) (left-not_refused bytes) c.left_of_value.result
    (left-read (λ v. v.text.items) (λ v. v.left_out.items) bytes d c.left_of_value.result document
    c.left_of_value.ensures.ok)
    (refused-read bytes d c.left_of_value.result document c.left_of_value.ensures.err)

pub returns-clause-accepted : goal.returns-clause-accepted
returns-clause-accepted c =
    answer-accepted (λ v. v.text.items) (λ v. v.left_out.items) c.args.bytes.now (view c.in_ok-document.document)
    c.left_of_value.result
    c.left_of_value.ensures.ok

pub returns-clause-imported : goal.returns-clause-imported
returns-clause-imported c =
    let bytes = c.args.bytes.now in
    λ text x. returns-clause-left c text [] (imported-leaves bytes text x)

pub returns-clause-whole : goal.returns-clause-whole
returns-clause-whole c =
    answer-whole (λ v. v.text.items) (λ v. v.left_out.items) c.args.bytes.now c.left_of_value.result
    (left-read (λ v. v.text.items) (λ v. v.left_out.items) c.args.bytes.now (view c.in_ok-document.document)
    c.left_of_value.result c.in_ok-document.ensures.ok
    c.left_of_value.ensures.ok)
