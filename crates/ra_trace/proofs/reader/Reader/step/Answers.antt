use Rattle.std.proofs.Common.{rules, ◌≡◌, IfOk, sym, subst, ap}
use Rattle.ra_trace.specs.Cutting.{front}
use Rattle.ra_trace.specs.Heads.{head_of, why_of}
use Rattle.ra_trace.specs.Reading.{IsStop, Knows, next_stop, unanswered}
use Rattle.ra_trace.proofs.Looking.{if_some, found_past, stops_by}
use Rattle.ra_trace.proofs.reader.Reader.step.Goals as goal

pub returns-in-Ok-clause-found : goal.returns-in-Ok-clause-found
returns-in-Ok-clause-found g c =
    let content = g.F.Files.content c.args.files.now c.args.self.now.name in
    let looked = c.look.new.self in
    let e = c.in_ok-head.ensures in
    let is_head : c.in-Ok.head ≡ head_of (front (unanswered looked)) = subst
    (λ found. IfOk found (λ head. head ≡ head_of (front (unanswered looked)))) c.in-Ok.is e.head in
    found_past content c.unwrap_or-size.result (why_of c.in_ok-head.field-0) c.in-Ok.head
    c.args.self.now looked c.pass-at.new.self c.pass-at.result c.length.result
    e.knows (ap why_of c.in-Ok.is) (λ known is. search rules) is_head c.pass-at.ensures.front
    c.length.ensures c.pass-at.ensures.passed c.pass-at.ensures.within

pub returns-in-Err-clause-err : goal.returns-in-Err-clause-err
returns-in-Err-clause-err g c =
    let content = g.F.Files.content c.args.files.now c.args.self.now.name in
    let size = c.unwrap_or-size.result in
    let knows = subst (λ why. Knows content size why c.args.self.now c.look.new.self)
    (ap why_of c.in-Err.is) c.in_ok-head.ensures.knows in
    if_some content _ (λ bytes told holds. if_some c.args.self.now.size _ (λ known is.
    let known_size : size ≡ known = search rules in
    subst (λ error. IsStop error (next_stop c.args.self.now.limit known c.args.self.now.next bytes))
    (sym c.refused.ensures)
    (stops_by content size known c.in-Err.why c.args.self.now c.look.new.self bytes knows told holds known_size)))
