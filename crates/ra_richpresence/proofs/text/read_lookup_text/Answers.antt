use Rattle.std.proofs.Common.{◌≡◌, [], ◌∷◌, ◌++◌}
use Rattle.ra_richpresence.proofs.Turns.{text-starts, text-more}
use Rattle.ra_richpresence.proofs.text.read_lookup_text.Goals as goal

pub loop-text-init : goal.loop-text-init
loop-text-init c = rw c.new-text.ensures.items (text-starts c.args.cursor.now.rest.now)

pub loop-text-preserved : goal.loop-text-preserved
loop-text-preserved c =
    let items : c.push.new.self.items ≡ c.loop-text.text.items ++ c.in_ok-take_character.field-0
    ∷ [] = cc (c.in_ok-push.ensures.items) in
    rw items (text-more c.loop-text.text.items c.loop-text.cursor.rest.now
    c.take_character.new.cursor.rest.now c.in_ok-take_character.field-0 _
    c.in_ok-take_character.ensures c.loop-text.invariant)
