-- A read may come before the first record.
use Rattle.std.proofs.Common.{arith, ◌≡◌, ◌<◌, sym, subst, ℕ, zero, suc, length, nat_le, take, drop, map, is_some, List}
use Rattle.std.proofs.Common.{[], ◌∷◌, Bool, true, false, Option, Some, None}
use Rattle.ra_memory.specs.Image.{History}
use Rattle.ra_set.specs.Contents.{SetContents}
use Rattle.ra_progress.specs.Contents.{Opening}
use Rattle.ra_progress.specs.Saying.{says}
use Rattle.ra_meaning.specs.Order.{shape_of}
use Rattle.ra_trace.specs.declared.error.Why.{Why}
use Rattle.ra_trace.specs.declared.error.Why.TheVariants.{Header, Cut}
use Rattle.ra_trace.specs.Entries.{Entry, Written}
use Rattle.ra_trace.specs.Cutting.{Stop, RefusedAt, Pieces, cut, cut_unless, cut_behind, refusal, front, header_size}
use Rattle.ra_trace.specs.Cutting.{no_slots, trace_behind, stop_within}
use Rattle.ra_trace.specs.Reading.{ReaderSeen, seen_from}
use Rattle.ra_meaning.specs.Earned.{Earned, earned_in, none_earned}
use Rattle.ra_meaning.specs.Openings.{plain_opening}
use Rattle.ra_meaning.specs.Play.{Moment, first_moment, pieces_from}
use Rattle.ra_replay.specs.Left.{IsLeft, trace_limit}
use Rattle.ra_session.specs.Endings.{ending_of}
use Rattle.ra_session.specs.declared.ending.Ending.TheVariants.{Done, BadTrace, LongTrace}
use Rattle.ra_session.specs.Expected.{Expected, IsReadBehind, RunSays, refuses_set, refuses_file, begins, goes_on}
use Rattle.ra_session.specs.Expected.{SetSays, tells, ImportSays, refuses_document, imports, NormalSays, passes_limit}
use Rattle.ra_session.specs.Expected.{puts_text, played, takes_up}
use Rattle.ra_session.specs.Playing.{says_from}

-- a trace that is refused is not at its end
never_done : (full : Bool) (at : ℕ) (why : Why) → ending_of (stop_within full (RefusedAt at why)) ≡ Done → ⊥
never_done true at Cut is = let bad : LongTrace ≡ Done = is in absurd (cc)
never_done false at Cut is = let bad : BadTrace at Cut ≡ Done = is in absurd (cc)
never_done full at _ is = absurd (cc)

-- an end is reached behind a record
abbrev EndsBehindOne : Stop → List Entry → Type 0
EndsBehindOne stop entries = (full : Bool) → ending_of (stop_within full stop) ≡ Done → 0 < length entries

behind_one : (next : List Bool → ℕ → List ℕ → Pieces) (entry : Entry) (filled : List Bool) (at : ℕ)
    (bytes : List ℕ) → EndsBehindOne (cut_behind next entry filled at bytes).stop
    (cut_behind next entry filled at bytes).entries
behind_one next (Written place bytes') filled at bytes = λ full is. omega arith
behind_one next _ filled at bytes = λ full is. omega arith

unless_one : (next : List Bool → ℕ → List ℕ → Pieces) (refused : Option Why) (filled : List Bool)
    (at : ℕ) (bytes : List ℕ) → EndsBehindOne (cut_unless next refused filled at bytes).stop
    (cut_unless next refused filled at bytes).entries
unless_one next None filled at bytes = behind_one next (front bytes) filled at bytes
unless_one next (Some why) filled at bytes = λ full is. absurd (never_done full at why is)

cut_one : (more size : ℕ) (filled : List Bool) (at : ℕ) (bytes : List ℕ)
    → EndsBehindOne (cut more size filled at bytes).stop (cut more size filled at bytes).entries
cut_one zero size filled at bytes = λ full is. absurd (never_done full at Cut is)
cut_one (suc more) size filled at bytes = unless_one (cut more size) (refusal size filled bytes) filled at bytes

header_one : (header : Option ℕ) (bytes : List ℕ) → EndsBehindOne
    (trace_behind no_slots header bytes).stop (trace_behind no_slots header bytes).entries
header_one None bytes = λ full is. absurd (never_done full 0 Header is)
header_one (Some size) bytes = cut_one (suc (length bytes)) size no_slots 9 (drop 9 bytes)

some_pieces : (set : SetContents) (o : Opening) (m : Moment) (earned : Earned)
    (entries : List Entry) → 0 < length entries → 0 < length (pieces_from set o m earned entries)
some_pieces set o m earned [] some = absurd (omega (arith, some))
some_pieces set o m earned (entry ∷ entries) some = omega arith

-- before the records that are left
pub left_read : (bytes : List ℕ) (set : SetContents) (o : Opening) (m : Moment) (earned : Earned)
    (left : Pieces) (reader : ReaderSeen) → IsLeft bytes m reader left
    → IsReadBehind (says_from bytes set o m earned left) 0
left_read bytes set o m earned left reader is = record {
  there = omega arith;
  before_end = λ done. some_pieces set o m earned left.entries (subst (λ (p : Pieces). EndsBehindOne
      p.stop p.entries) (sym is.is) (cut_one (suc is.more) is.size (map is_some m.slots) reader.next
      (seen_from trace_limit reader.next bytes)) (nat_le trace_limit (length bytes)) done);
}

-- before the records of a trace
pub played_read : (set : SetContents) (o : Opening) (behind : History) (earned : Earned)
    (bytes : List ℕ) → IsReadBehind (played set o behind earned bytes) 0
played_read set o behind earned bytes =
    let seen = take trace_limit bytes in
    record {
      there = omega arith;
      before_end = λ done. some_pieces set o (first_moment (trace_behind no_slots (header_size seen)
          seen).size behind) earned (trace_behind no_slots (header_size seen) seen).entries
          (header_one (header_size seen) seen (nat_le trace_limit (length bytes)) done);
    }

-- before all that a run prints
pub run_read : (content : List ℕ → Option (List ℕ)) (set trace : List ℕ) (restore : Option (List ℕ))
    (e : Expected) → RunSays content set trace restore e → IsReadBehind e 0
run_read content set trace restore e (refuses_set file why told refuses) =
    record { there = omega arith; before_end = λ done. absurd (cc) }
run_read content set trace restore e (refuses_file name set_file file c why told_set told_file is
    refused) = record { there = omega arith; before_end = λ done. absurd (cc) }
run_read content set trace restore e (begins set_file trace_file c told_set told_trace is) =
    played_read c (plain_opening c) [] (none_earned c) trace_file
run_read content set trace restore e (goes_on name set_file trace_file c o behind earned told_set
    told_trace told_file is opening images holds) = played_read c o behind earned trace_file
run_read content set trace restore e (takes_up name set_file file trace_file c told_set told_trace
    told_file is accepted) =
    played_read c (says (shape_of c) file) [] (earned_in (says (shape_of c) file)) trace_file

-- before a text of a set
pub set_told : (text : SetContents → List ℕ) (content : List ℕ → Option (List ℕ)) (set : List ℕ)
    (e : Expected) → SetSays text content set e → IsReadBehind e 0
set_told text content set e (refuses_set file why told refuses) =
    record { there = omega arith; before_end = λ done. absurd (cc) }
set_told text content set e (tells file c told is) = record { there = omega arith; before_end = λ done. omega arith }

-- before the line of an import
pub import_read : (content : List ℕ → Option (List ℕ)) (file : List ℕ) (e : Expected)
    → ImportSays content file e → IsReadBehind e 0
import_read content file e (refuses_document bytes why told of_document is) =
    record { there = omega arith; before_end = λ done. absurd (cc) }
import_read content file e (refuses_set bytes why told is) =
    record { there = omega arith; before_end = λ done. absurd (cc) }
import_read content file e (imports bytes text c told gives is) =
    record { there = omega arith; before_end = λ done. omega arith }

-- before the line of a normal text
pub normal_read : (content : List ℕ → Option (List ℕ)) (set : List ℕ) (e : Expected)
    → NormalSays content set e → IsReadBehind e 0
normal_read content set e (refuses_set file why told refuses) =
    record { there = omega arith; before_end = λ done. absurd (cc) }
normal_read content set e (passes_limit file s which found told is past) =
    record { there = omega arith; before_end = λ done. absurd (cc) }
normal_read content set e (puts_text file s text told is text_is) =
    record { there = omega arith; before_end = λ done. omega arith }
