use Rattle.std.proofs.Common.{◌≡◌, ◌*◌, ◌+◌, ◌<◌, ◌≤◌, ◌++◌, sym, subst, arith, length, replicate, ℕ}
use Rattle.std.proofs.Math.Nat.{mul-le-mul_right}
use Rattle.ra_account.specs.Marks.{IsWidth}
use Rattle.ra_account.proofs.RunLemmas.{long_run}
use Rattle.ra_account.proofs.columns.Columns.note_some.Goals as goal

pub returns-clause-noted : goal.returns-clause-noted
returns-clause-noted c = λ earlier known.
    let t = c.make_room.new.self in
    let some = c.min-some.result in
    let ready = c.make_room.ensures.ready earlier known in
    let more : ℕ = length (replicate some c.args.now ++ earlier) in
    let long : more ≡ some + length earlier = long_run some c.args.now earlier in
    let lower : t.full + 1 ≤ 60 = omega (arith, c.make_room.ensures.room) in
    let most : (t.full + 1) * t.width ≤ 60 * t.width = mul-le-mul_right t.width lower in
    let above : 0 < some = omega (arith, c.make_room.ensures.sound.begun, c.min-some.ensures, c.requires.some) in
    record {
      columns_too = c.put.ensures.put earlier ready;
      width_too = subst (λ (w : ℕ). IsWidth more w) (sym c.put.ensures.width)
          (c.make_room.ensures.width earlier known more (omega (arith, long, above))
          (omega (arith, long, most, ready.frames, c.min-some.ensures, c.make_room.ensures.sound.begun)));
    }
