use Rattle.std.proofs.Common.{◌∙◌, [], ◌∷◌, ap}
use Rattle.std.specs.Option.{option_or}
use Rattle.ra_richpresence.specs.Texts.{first_over}
use Rattle.ra_richpresence.proofs.LongTexts.{adds-keys, adds-first, adds-later}
use Rattle.ra_richpresence.proofs.read_lookup.ReadLookup.add.Goals as goal

pub returns-in_ok-push-in-Keyed : goal.returns-in_ok-push-in-Keyed
returns-in_ok-push-in-Keyed c = λ name entries so_far. rw c.in-Keyed.is
    (adds-keys c.args.most name entries c.args.self.now c.in-Keyed.keys c.push.new.self
    c.or-self.result c.in_ok-push-in-Keyed.ensures.items (c.or-self.ensures
    ∙ ap (option_or c.args.self.now.long) (c.over.ensures ∙ ap
    (λ n. first_over c.args.most (n ∷ [])) (c.len.ensures ∙ c.in-Keyed.keys.text.ok.0))) so_far)

pub returns-then-is_none : goal.returns-then-is_none
returns-then-is_none c = λ name entries so_far. rw c.in-Other.is
    (adds-first c.args.most name entries c.args.self.now c.in-Other.text so_far
    c.or-self-then-is_none.result c.if-is_none.ensures (c.or-self-then-is_none.ensures
    ∙ ap (option_or c.args.self.now.long) (c.over-then-is_none.ensures ∙ ap
    (λ n. first_over c.args.most (n ∷ [])) (c.len-then-is_none.ensures ∙ c.in-Other.text.ok.0))))

pub returns-else-is_none : goal.returns-else-is_none
returns-else-is_none c = λ name entries so_far. rw c.in-Other.is (adds-later c.args.most name
    entries c.args.self.now c.in-Other.text so_far c.if-is_none.ensures)
