use Rattle.std.proofs.Common.{◌≡◌, drop}
use Rattle.ra_text.specs.Reading.{literal_at}
use Rattle.ra_text.proofs.cursor.Cursor.literal.Given as goal

abbrev pub invariant-loop-byte : goal.invariant-loop-byte
invariant-loop-byte l = literal_at l.wanted l.fn.self.rest.now ≡ literal_at (drop l.byte-index l.wanted) l.self.rest.now
