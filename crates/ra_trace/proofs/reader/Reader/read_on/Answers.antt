use Rattle.std.proofs.Common.{arith, ◌≡◌, ◌+◌, ◌-◌, ◌<◌, nat_lt, ap, sym, subst, ◌∙◌, length, drop}
use Rattle.std.proofs.lemmas.Bool.Decides.{nat_tests}
use Rattle.std.proofs.lemmas.List.{length-drop}
use Rattle.ra_trace.specs.Window.{ReadsBehind}
use Rattle.ra_trace.specs.Reading.{ReaderSeen, ReadsOn, unanswered}
use Rattle.ra_trace.proofs.Looking.{reads_on}
use Rattle.ra_trace.proofs.reader.Reader.read_on.Goals as goal

pub invariant_of-self : goal.invariant_of-self
invariant_of-self g c =
    let i = c.self.invariant in
    let here : length c.read_on.new.self ≡ length c.self.inside.window - c.front-front.result
    = ap length c.in_default.ensures.err ∙ ap length c.drop_front.ensures
    ∙ length-drop c.front-front.result c.self.inside.window in
    let left : length c.self.inside.window - c.front-front.result ≡ c.self.inside.taken - c.self.inside.next
    = subst (λ s. length s.held - c.front-front.result ≡ s.taken - s.next)
    (sym c.self.view_is) c.front-front.ensures.left in
    record {
      most = i.most;
      within = i.within;
      fewer = omega (arith, here, left);
      behind = i.behind;
      there = omega (arith, here, left, i.behind);
    }

pub returns-clause-on : goal.returns-clause-on
returns-clause-on g c =
    let inside = c.self.inside in
    let old : ReaderSeen =
    record {
      name = inside.name.bytes.items;
      limit = inside.limit;
      size = inside.size;
      last = inside.last;
      next = inside.next;
      taken = inside.taken;
      held = inside.window;
    } in
    let content = g.F.Files.content c.args.files.now in
    let named : c.deref.result.now ≡ c.args.self.now.name = c.deref.ensures ∙ ap (λ s. s.name) c.self.view_is in
    let left : drop c.front-front.result inside.window ≡ unanswered old = subst (λ s. drop
    c.front-front.result s.held ≡ unanswered s) (sym c.self.view_is) c.front-front.ensures.front in
    let short : length (unanswered old) < 65542 =
    subst (λ s. length (unanswered s) < 65542) (sym c.self.view_is) c.requires in
    let read = subst (λ held. ReadsBehind (content c.args.self.now.name) inside.taken (inside.limit
    - inside.taken) c.in-Ok.more held c.read_on.new.self) (c.drop_front.ensures ∙ left)
    (subst (λ name. ReadsBehind (content name) inside.taken (inside.limit - inside.taken)
    c.in-Ok.more c.drop_front.new.self c.read_on.new.self) named c.in-Ok.ensures.read) in
    let below : inside.taken < inside.limit = grind (arith, nat_tests, c.if-self.false, c.self.invariant.within) in
    subst (λ s. ReadsOn (content c.args.self.now.name) (nat_lt 0 c.in-Ok.more) s
    (record old { taken = inside.taken + c.in-Ok.more; held = c.read_on.new.self })) c.self.view_is
    (reads_on (content c.args.self.now.name) c.in-Ok.more old c.read_on.new.self c.self.invariant
    below short read)
