use Rattle.std.proofs.Common.{sym, subst}
use Rattle.ra_trace.specs.Entries.{entry_of}
use Rattle.ra_trace.specs.declared.record.Record.{Record}
use Rattle.ra_session.specs.Playing.{Plays}
use Rattle.ra_session.proofs.StandLemmas.{plays_frame, plays_show}
use Rattle.ra_session.proofs.player.Player.play.Goals as goal

pub returns-in_ok-put_lines-in-Frame-clause-played : goal.returns-in_ok-put_lines-in-Frame-clause-played
returns-in_ok-put_lines-in-Frame-clause-played c = λ set o m earned stands.
    let text = c.put_lines.new.text.items in
    let slots = c.args.self.now.slots.items in
    subst (λ (r : Record). Plays set o (entry_of r) m earned c.take_frame.new.runtime slots text) (sym c.in-Frame.is)
    (plays_frame set o m earned c.args.self.now.runtime c.take_frame.new.runtime slots text
    c.take_frame.ensures (rw c.requires.empty at c.in_ok-put_lines-in-Frame.ensures.put) stands)

pub returns-in_ok-show-in-Show-clause-played : goal.returns-in_ok-show-in-Show-clause-played
returns-in_ok-show-in-Show-clause-played c = λ set o m earned stands.
    let text = c.show.new.text.items in
    let slots = c.args.self.now.slots.items in
    subst (λ (r : Record). Plays set o (entry_of r) m earned c.args.self.now.runtime slots text) (sym c.in-Show.is)
    (plays_show set o m earned c.args.self.now.runtime slots text c.in_ok-show-in-Show.ensures stands)
