-- The record that a reader lends.
use Rattle.std.proofs.Common.{◌≡◌, ℕ, subst, Option, Ok, IfSome, List, drop}
use Rattle.ra_trace.specs.declared.record.Record.{Record}
use Rattle.ra_trace.specs.Entries.{entry_of}
use Rattle.ra_trace.specs.Cutting.{front}
use Rattle.ra_trace.specs.Reading.{ReaderSeen, Holds, Found, Stands, LiesWithin, IsBehindRecord}
use Rattle.ra_trace.specs.Ending.{Ends}
use Rattle.ra_trace.proofs.Looking.{if_some}

-- the reader is behind the record that it lends
pub ends_by : (content : Option (List ℕ)) (at : ℕ) (old new : ReaderSeen) (found : Record)
    → Found content at old new → front (drop at new.held) ≡ entry_of found → Ends content (Ok found) old new
ends_by content at old new found is lent = record {
  sized = is.moved.sized;
  moved = subst (λ entry. IsBehindRecord entry old new) lent is.moved;
  holds = is.holds;
  stays = tt;
}

-- the file has the record at its place
pub stands_by : (content : Option (List ℕ)) (at : ℕ) (old new : ReaderSeen) (found : Record)
    → Found content at old new → front (drop at new.held) ≡ entry_of found
    → IfSome content (λ bytes. Holds old bytes
    → IfSome old.size (λ size. Stands old.limit size old.next (entry_of found) bytes))
stands_by content at old new found is lent =
    if_some content (λ bytes. Holds old bytes
    → IfSome old.size (λ size. Stands old.limit size old.next (entry_of found) bytes))
    (λ bytes told holds. if_some old.size (λ size. Stands old.limit size old.next (entry_of found) bytes)
    (λ size known. subst (λ entry. Stands old.limit size old.next entry bytes) lent
    (is.stands bytes size told holds known)))

-- the record lies within the memory and the slots
pub lies_by : (content : Option (List ℕ)) (at : ℕ) (old new : ReaderSeen) (found : Record)
    → Found content at old new → front (drop at new.held) ≡ entry_of found
    → IfSome old.size (λ size. LiesWithin size (entry_of found))
lies_by content at old new found is lent =
    if_some old.size (λ size. LiesWithin size (entry_of found))
    (λ size known. subst (LiesWithin size) lent (is.lies size known))
