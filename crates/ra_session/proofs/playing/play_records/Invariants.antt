use Rattle.std.proofs.Common.{◌≡◌, ◌-◌, ◌≤◌, ℕ, List, Some}
use Rattle.ra_io.specs.Files.{OnlyRead}
use Rattle.ra_set.specs.Contents.{SetContents}
use Rattle.ra_progress.specs.Contents.{Opening}
use Rattle.ra_trace.specs.Cutting.{Pieces}
use Rattle.ra_meaning.specs.Earned.{Earned}
use Rattle.ra_meaning.specs.Play.{Moment}
use Rattle.ra_replay.specs.Left.{IsLeft}
use Rattle.ra_session.specs.Playing.{MayPlay, StandsAt}
use Rattle.ra_session.proofs.TraceLemmas.{PlayedTo}
use Rattle.ra_session.proofs.playing.play_records.Given as goal

abbrev pub invariant-loop-text : goal.invariant-loop-text
invariant-loop-text g l = record {
  to : (bytes : List ℕ) (set : SetContents) (o : Opening) (m : Moment) (earned : Earned)
      (left : Pieces) → g.F.Files.content l.initial.files l.initial.reader.name ≡ Some bytes
      → StandsAt set o m earned l.initial.player.runtime l.initial.player.slots.items
      → IsLeft bytes m l.initial.reader left
      → PlayedTo bytes set o m earned left l.reader l.player.runtime l.player.slots.items
      (g.K.Sink.text l.initial.out) (g.K.Sink.text l.out);
  may : MayPlay l.reader l.player.runtime l.player.slots.items;
  name : l.reader.name ≡ l.initial.reader.name;
  stays : OnlyRead g.F.Files.content g.F.Files.read_faults g.F.Files.put_faults l.initial.files l.files;
  later : g.K.Sink.faults l.initial.out ≤ g.K.Sink.faults l.out;
}

abbrev pub decreases-loop-text : goal.decreases-loop-text
decreases-loop-text g l = l.reader.limit - l.reader.next
