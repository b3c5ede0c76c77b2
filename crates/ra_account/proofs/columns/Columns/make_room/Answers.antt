use Rattle.std.proofs.Common.{◌≡◌, ◌+◌, ◌*◌, ◌≤◌, suc, ℕ, sym, subst, ap, arith, length}
use Rattle.ra_account.specs.Marks.{IsWidth}
use Rattle.ra_account.proofs.RunLemmas.{more_width}
use Rattle.ra_account.proofs.WidthLemmas.{doubled_width}
use Rattle.ra_account.proofs.columns.Columns.make_room.Goals as goal

pub returns-then-self-eq-COLUMNS-clause-width : goal.returns-then-self-eq-COLUMNS-clause-width
returns-then-self-eq-COLUMNS-clause-width c = λ earlier known more past room.
    let t = c.args.self.now in
    let full : t.full ≡ 60 = c.if-self-eq-COLUMNS.true in
    let begun : t.begun ≡ 0 = c.requires.sound.none_begun full in
    let sixty : t.full * t.width ≡ 60 * t.width = ap (λ n. n * t.width) full in
    let frames = known.columns_too.frames in
    let fits : more ≤ 60 * (t.width + t.width) = omega (arith, room, c.fold.ensures.width) in
    let doubled = doubled_width (length earlier) t.width (omega (arith, frames))
    (omega (arith, c.requires.sound.begun)) known.width_too in
    subst (λ (w : ℕ). IsWidth more w) (sym c.fold.ensures.width)
    (more_width (suc (length earlier)) more (t.width + t.width) past fits doubled)
