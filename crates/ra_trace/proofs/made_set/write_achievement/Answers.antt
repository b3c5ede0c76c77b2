use Rattle.std.proofs.Common.{◌≡◌, ◌+◌, ◌%◌, ◌++◌, ◌∙◌, ap, codes, string_bytes}
use Rattle.std.specs.Fmt.{decimal}
use Rattle.std.proofs.lemmas.Result.{on_ok_weaker}
use Rattle.ra_trace.specs.Workload.{hex4}
use Rattle.ra_trace.proofs.SetLines.{line_of_pieces, line_of_draws}
use Rattle.ra_trace.proofs.made_set.write_achievement.Goals as goal

pub returns-clause-text : goal.returns-clause-text
returns-clause-text c =
    let first : string_bytes c.write.new.self ≡ string_bytes c.args.text.now ++ (codes "A " ++
    (decimal c.args.id ++ (codes " I:0x " ++ hex4 c.draw.result))) = c.in_ok-write.ensures.bytes in
    let second : string_bytes c.write-2.new.self
    ≡ string_bytes c.write.new.self ++ (codes "_0xH" ++ (hex4 c.draw-2.result
    ++ (codes ">d0xH" ++ hex4 c.draw-2.result))) = c.in_ok-write-2.ensures.bytes in
    let drawn = line_of_draws c.args.id c.args.draws.now _ _ _ _ _ _ _ c.draw.ensures.number
    c.draw.ensures.state c.draw-2.ensures.number c.draw-2.ensures.state c.draw-3.ensures.number
    c.draw-3.ensures.state c.draw-4.ensures.number in
    on_ok_weaker c.write-3.result (λ third. line_of_pieces _ _ _ _ c.args.id _ _ _
    (1 + c.draw-4.result % 8) first second third
    ∙ ap (λ line. string_bytes c.args.text.now ++ line) drawn) c.write-3.ensures.bytes
