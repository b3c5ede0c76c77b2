use Rattle.std.proofs.Common.{ap, sym, ◌≡◌, ◌∙◌, take}
use Rattle.ra_trace.specs.Cutting.{header_size}
use Rattle.ra_trace.proofs.Looking.{if_some, header_refused, header_seen}
use Rattle.ra_trace.proofs.reader.Reader.header.Goals as goal

pub returns-in_default-clause-err : goal.returns-in_default-clause-err
returns-in_default-clause-err g c =
    if_some (g.F.Files.content c.args.files.now c.args.self.now.name) _ (λ bytes told.
    let read = c.in_ok-read_front.ensures.read in
    let seen : header_size (take c.args.self.now.limit bytes) ≡ header_size c.read_front.new.self.held
    = ap (λ k. header_size (take k bytes)) (sym read.same.limit) ∙ header_seen c.read_front.new.self
    bytes read.inside (read.holds bytes told) (read.whole bytes told) in
    header_refused c.args.self.now.limit bytes
    (seen ∙ ap header_size (sym (ap (λ s. s.held) c.self.view_is))
    ∙ ap header_size (sym c.bytes_from.ensures) ∙ sym c.read_header.ensures.size ∙ c.in_default.is))

pub returns-clause-ok : goal.returns-clause-ok
returns-clause-ok g c =
    if_some (g.F.Files.content c.args.files.now c.args.self.now.name) _ (λ bytes told.
    let read = c.in_ok-read_front.ensures.read in
    let seen : header_size (take c.args.self.now.limit bytes) ≡ header_size c.read_front.new.self.held
    = ap (λ k. header_size (take k bytes)) (sym read.same.limit) ∙ header_seen c.read_front.new.self
    bytes read.inside (read.holds bytes told) (read.whole bytes told) in
    seen ∙ ap header_size (sym (ap (λ s. s.held) c.self.view_is))
    ∙ ap header_size (sym c.bytes_from.ensures) ∙ sym c.read_header.ensures.size ∙ c.in-Some.is)
