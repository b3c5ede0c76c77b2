use Rattle.ra_embed.proofs.Played.{plays_frame}
use Rattle.ra_embed.proofs.frame.play_frame.Goals as goal

pub returns-clause-played : goal.returns-clause-played
returns-clause-played c =
    plays_frame c.args.runtime.now c.write.new.self c.advance.new.self c.args.at c.args.bytes.now
    c.requires c.write.ensures c.advance.ensures.taken
