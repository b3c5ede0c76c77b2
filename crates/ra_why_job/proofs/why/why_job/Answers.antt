use Rattle.std.proofs.Common.{refl, subst, arith, List, ℕ}
use Rattle.std.proofs.lemmas.Result.{IfOk-weaker}
use Rattle.ra_condition.specs.Contents.{trigger_contents}
use Rattle.ra_set.specs.Refusals.{Refuses}
use Rattle.ra_why_job.specs.Choosing.{IsChosen, IsFound}
use Rattle.ra_why_job.specs.Says.{lacks_line, set_line}
use Rattle.ra_why_job.specs.declared.choosing.Chosen.TheVariants.{Lacking}
use Rattle.ra_why_job.proofs.SayLemmas.{found_replies, lacking_decides, refused_decides, reply_decides}
use Rattle.ra_why_job.proofs.why.why_job.Goals as goal

pub returns-in-Ok-Found-clause-says : goal.returns-in-Ok-Found-clause-says
returns-in-Ok-Found-clause-says g c =
    let found = subst (λ (b : List ℕ). IsFound b c.args.id (trigger_contents c.in-Ok-Found.text))
    c.as_slice.ensures.value (subst
    (IsChosen c.as_slice.result.now c.args.id) c.in-Ok-Found.field-0-is c.in-Ok-Found.ensures) in
    IfOk-weaker c.trace_reply.result _ _ (λ r decides. decides.0)
    (found_replies (g.F.Files.content c.args.files.now) c.args.set.now c.args.trace.now c.args.id
    c.in_ok-bytes.bytes.items c.in_ok-bytes.ensures.ok (trigger_contents c.in-Ok-Found.text)
    (g.F.Files.content c.read_whole.new.files c.args.trace.now)
    (c.in_ok-bytes.ensures.stays.same.each c.args.trace.now) found c.trace_reply.result
    c.trace_reply.ensures.says c.trace_reply.ensures.own)

pub returns-in-Ok-Found-clause-one : goal.returns-in-Ok-Found-clause-one
returns-in-Ok-Found-clause-one g c =
    let found = subst (λ (b : List ℕ). IsFound b c.args.id (trigger_contents c.in-Ok-Found.text))
    c.as_slice.ensures.value (subst
    (IsChosen c.as_slice.result.now c.args.id) c.in-Ok-Found.field-0-is c.in-Ok-Found.ensures) in
    IfOk-weaker c.trace_reply.result _ _ (λ r decides. decides.1)
    (found_replies (g.F.Files.content c.args.files.now) c.args.set.now c.args.trace.now c.args.id
    c.in_ok-bytes.bytes.items c.in_ok-bytes.ensures.ok (trigger_contents c.in-Ok-Found.text)
    (g.F.Files.content c.read_whole.new.files c.args.trace.now)
    (c.in_ok-bytes.ensures.stays.same.each c.args.trace.now) found c.trace_reply.result
    c.trace_reply.ensures.says c.trace_reply.ensures.own)

pub returns-in-Ok-Found-clause-failed : goal.returns-in-Ok-Found-clause-failed
returns-in-Ok-Found-clause-failed g c = λ is.
    let rose = c.trace_reply.ensures.failed is in
    let low = c.in_ok-bytes.ensures.stays.reads.each c.args.trace.now in
    (1, c.args.trace.now, omega arith, refl, omega (arith, low, rose))

pub returns-in-Ok-Lacking-clause-says : goal.returns-in-Ok-Lacking-clause-says
returns-in-Ok-Lacking-clause-says g c =
    let chosen = subst (λ (b : List ℕ). IsChosen b c.args.id Lacking) c.as_slice.ensures.value
    (subst (IsChosen c.as_slice.result.now c.args.id) c.in-Ok-Lacking.field-0-is
    c.in-Ok-Lacking.ensures) in
    (reply_decides (g.F.Files.content c.args.files.now) c.args.set.now c.args.trace.now c.args.id
    c.in_ok-lacks_reply-in-Ok-Lacking.field-0 12
    (lacks_line c.args.id) c.in_ok-lacks_reply-in-Ok-Lacking.ensures
    (lacking_decides (g.F.Files.content c.args.files.now) c.args.set.now c.args.trace.now c.args.id
    c.in_ok-bytes.bytes.items c.in_ok-bytes.ensures.ok chosen.0 chosen.1 chosen.2)).0

pub returns-in-Ok-Lacking-clause-one : goal.returns-in-Ok-Lacking-clause-one
returns-in-Ok-Lacking-clause-one g c =
    let chosen = subst (λ (b : List ℕ). IsChosen b c.args.id Lacking) c.as_slice.ensures.value
    (subst (IsChosen c.as_slice.result.now c.args.id) c.in-Ok-Lacking.field-0-is
    c.in-Ok-Lacking.ensures) in
    (reply_decides (g.F.Files.content c.args.files.now) c.args.set.now c.args.trace.now c.args.id
    c.in_ok-lacks_reply-in-Ok-Lacking.field-0 12
    (lacks_line c.args.id) c.in_ok-lacks_reply-in-Ok-Lacking.ensures
    (lacking_decides (g.F.Files.content c.args.files.now) c.args.set.now c.args.trace.now c.args.id
    c.in_ok-bytes.bytes.items c.in_ok-bytes.ensures.ok chosen.0 chosen.1 chosen.2)).1

pub returns-in-Ok-Refused-clause-says : goal.returns-in-Ok-Refused-clause-says
returns-in-Ok-Refused-clause-says g c =
    let refuses = subst (λ (b : List ℕ). Refuses b c.in-Ok-Refused.why) c.as_slice.ensures.value
    (subst (IsChosen c.as_slice.result.now c.args.id) c.in-Ok-Refused.field-0-is
    c.in-Ok-Refused.ensures) in
    (reply_decides (g.F.Files.content c.args.files.now) c.args.set.now c.args.trace.now c.args.id
    c.in_ok-set_reply-in-Ok-Refused.field-0 3
    (set_line c.in-Ok-Refused.why) c.in_ok-set_reply-in-Ok-Refused.ensures
    (refused_decides (g.F.Files.content c.args.files.now) c.args.set.now c.args.trace.now c.args.id
    c.in_ok-bytes.bytes.items c.in_ok-bytes.ensures.ok c.in-Ok-Refused.why refuses)).0

pub returns-in-Ok-Refused-clause-one : goal.returns-in-Ok-Refused-clause-one
returns-in-Ok-Refused-clause-one g c =
    let refuses = subst (λ (b : List ℕ). Refuses b c.in-Ok-Refused.why) c.as_slice.ensures.value
    (subst (IsChosen c.as_slice.result.now c.args.id) c.in-Ok-Refused.field-0-is
    c.in-Ok-Refused.ensures) in
    (reply_decides (g.F.Files.content c.args.files.now) c.args.set.now c.args.trace.now c.args.id
    c.in_ok-set_reply-in-Ok-Refused.field-0 3
    (set_line c.in-Ok-Refused.why) c.in_ok-set_reply-in-Ok-Refused.ensures
    (refused_decides (g.F.Files.content c.args.files.now) c.args.set.now c.args.trace.now c.args.id
    c.in_ok-bytes.bytes.items c.in_ok-bytes.ensures.ok c.in-Ok-Refused.why refuses)).1
