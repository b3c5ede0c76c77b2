use Rattle.std.proofs.Common.{◌≡◌, ◌∙◌, ap, unwrap_or}
use Rattle.serde_json.specs.View.{view}
use Rattle.ra_patch.specs.Leaving.{id_of}
use Rattle.ra_patch.specs.Sifting.{holds}
use Rattle.ra_patch.proofs.SiftLemmas.{sifts-answer}
use Rattle.ra_patch.proofs.sifted.Sifted.take_item.Goals as goal

pub returns-clause-sifts : goal.returns-clause-sifts
returns-clause-sifts c =
    let same : c.unwrap_or-id.result ≡ id_of (view c.args.item.now) =
    c.unwrap_or-id.ensures ∙ ap (λ o. unwrap_or o 0) c.id_of.ensures in
    let known : c.contains-taken.result ≡ holds c.args.self.now (id_of (view c.args.item.now)) =
    c.contains-taken.ensures ∙ ap (holds c.args.self.now) same in
    sifts-answer c.put.result c.args.kind c.args.self.now c.put.new.self (view c.args.item.now) c.in_ok-cause.cause
    c.contains-taken.result c.in_ok-cause.ensures known c.put.ensures
