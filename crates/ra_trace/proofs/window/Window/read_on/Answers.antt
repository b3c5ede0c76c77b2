use Rattle.std.proofs.Common.{rules, ◌+◌, ◌-◌, ◌++◌, sym, subst, ap, ◌∙◌, take}
use Rattle.std.proofs.lemmas.List.{with_items_is, places}
use Rattle.ra_trace.specs.Window.{ReadsBehind}
use Rattle.ra_trace.proofs.Windows.{window_reads}
use borrow.Rule.Slice.PartMut.{post_of}
use Rattle.ra_trace.proofs.window.Window.read_on.Goals as goal

pub returns-clause-read : goal.returns-clause-read
returns-clause-read g c =
    let content = g.F.Files.content c.args.files.now c.args.name.now in
    let held = c.self.inside.held in
    let more = c.in_ok-more.more in
    let post = post_of held (held + c.min.result - held) c.deref_mut.result.now in
    let all = take held c.deref_mut.result.now ++ (c.read_at.new.buf ++ post) in
    let reads = window_reads content c.args.at c.args.most more held c.deref_mut.result.now
    c.read_at.new.buf post (search rules) c.in_ok-more.ensures.bound (search rules)
    (λ some below. search rules) c.in_ok-more.ensures.bytes in
    subst (λ xs. ReadsBehind content c.args.at c.args.most more c.args.self.now
    (take (held + more) xs)) (sym (with_items_is c.self.inside.buffer all (search (rules, places))))
    (subst (λ old. ReadsBehind content c.args.at c.args.most more old (take (held + more) all))
    (ap (take held) c.deref_mut.ensures.value ∙ c.self.view_is) reads)
