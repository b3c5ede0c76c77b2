use Rattle.std.proofs.Common.{◌≡◌, [], ◌∷◌}
use Rattle.std.proofs.lemmas.Result.{err_from_is_err_and}
use Rattle.ra_richpresence.proofs.Turns.{name-none, name-starts}
use Rattle.ra_richpresence.proofs.names.take_name.Goals as goal

pub returns-in_err-take_name_byte : goal.returns-in_err-take_name_byte
returns-in_err-take_name_byte c = let p = err_from_is_err_and c.from_residual.result c.from_residual.ensures.1 in
    rw (p.1, p.2) (name-none c.args.cursor.now.rest.now c.take_name_byte.new.cursor.rest.now
    c.in_err-take_name_byte.ensures)

pub loop-cursor-init : goal.loop-cursor-init
loop-cursor-init c =
    let items : c.push.new.self.items ≡ c.in_ok-take_name_byte.field-0 ∷ [] =
    cc (c.in_ok-push.ensures.items, c.new-name.ensures.items) in
    rw items (name-starts c.args.cursor.now.rest.now c.in_ok-take_name_byte.field-0
    c.take_name_byte.new.cursor.rest.now c.in_ok-take_name_byte.ensures)
