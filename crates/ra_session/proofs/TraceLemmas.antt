-- A run over the records of a trace.
use Rattle.std.proofs.Common.{arith, ◌≡◌, ap, sym, subst, refl, ◌∙◌, ℕ, ◌+◌, List, [], ◌∷◌, ◌++◌, length, take, nat_le}
use Rattle.std.proofs.Common.{append_assoc, append-nil, length-append, Bool, true, false, Option, Result, Ok, Err}
use Rattle.std.specs.List.{concat}
use Rattle.std.specs.Bool.{⊤}
use Rattle.std.proofs.lemmas.List.Folds.{concat-append}
use Rattle.std.proofs.Math.Seq.{take-append-add}
use Rattle.std.specs.Result.{IsErrAnd}
use Rattle.ra_io.specs.Sink.{grown}
use Rattle.ra_set.specs.Contents.{SetContents}
use Rattle.ra_progress.specs.Contents.{Opening}
use Rattle.ra_trace.specs.Entries.{Ended}
use Rattle.ra_trace.specs.Cutting.{Pieces, Reached, stop_within}
use Rattle.ra_trace.specs.Reading.{ReaderSeen}
use Rattle.ra_meaning.specs.Runtime.{RuntimeSeen}
use Rattle.ra_meaning.specs.Earned.{Earned}
use Rattle.ra_meaning.specs.Play.{Moment, moved, moment_after, printed, pieces_from, earned_next, earned_after}
use Rattle.ra_runtime.specs.Keeping.{KeptSeen}
use Rattle.ra_replay.specs.Left.{IsLeft, trace_limit}
use Rattle.ra_session.specs.Endings.{ending_of}
use Rattle.ra_session.specs.declared.ending.Ending.{Ending}
use Rattle.ra_session.specs.declared.ending.Ending.TheVariants.{Done, NoMemory, ReadFault, SinkFault, SaveFault}
use Rattle.ra_session.specs.Expected.{Expected, IsReadBehind}
use Rattle.ra_session.specs.Closing.{EndsBefore}
use Rattle.ra_session.specs.Failures.{ending_at, ending_of_trace}
use Rattle.ra_session.specs.Playing.{StandsAt, GoesOn, IsAtEnd, TakesNext, says_from}
use Rattle.ra_jobs.specs.Writing.{GrewByPart}
use Rattle.ra_session.specs.declared.failures.TraceFailed.{TraceFailed}
use Rattle.ra_jobs.proofs.Pieces.{grown-grown, grown-nil}
use Rattle.ra_jobs.proofs.Parts.{part_after}

-- The records so far have printed the first pieces, and those that are left print the rest.
pub record PlayedTo (bytes : List ℕ) (set : SetContents) (o : Opening) (m : Moment)
    (earned : Earned) (all : Pieces) (reader : ReaderSeen) (runtime : RuntimeSeen)
    (slots : List (Option KeptSeen)) (first now : Option (List ℕ)) : Type 0 where
  pub moment : Moment
  pub now_earned : Earned
  pub rest : Pieces
  pub left : IsLeft bytes moment reader rest
  pub stands : StandsAt set o moment now_earned runtime slots
  pub before : List (List ℕ)
  pub pieces : pieces_from set o m earned all.entries ≡ before ++ pieces_from set o moment now_earned rest.entries
  pub text : now ≡ grown first (concat before)
  pub stop : rest.stop ≡ all.stop
  pub last : moment_after moment rest.entries ≡ moment_after m all.entries
  pub last_earned : earned_after set o moment now_earned rest.entries ≡ earned_after set o m earned all.entries

module _ (bytes : List ℕ) (set : SetContents) (o : Opening) (m : Moment) (earned : Earned)
    (all : Pieces) (reader : ReaderSeen) (runtime : RuntimeSeen) (slots : List (Option KeptSeen))
    (first now : Option (List ℕ))
    (to : PlayedTo bytes set o m earned all reader runtime slots first now) where
  abbrev more : List (List ℕ)
  more = pieces_from set o to.moment to.now_earned to.rest.entries

  abbrev whole : List (List ℕ)
  whole = pieces_from set o m earned all.entries

  joined : concat to.before ++ concat more ≡ concat whole
  joined = sym (concat-append to.before more) ∙ ap concat (sym to.pieces)

  same_ending : (says_from bytes set o m earned all).ending
      ≡ (says_from bytes set o to.moment to.now_earned to.rest).ending
  same_ending = ap (λ s. ending_of (stop_within (nat_le trace_limit (length bytes)) s)) (sym to.stop)

  all_text : (new : Option (List ℕ)) → new ≡ grown now (concat more) → new ≡ grown first (concat whole)
  all_text new text = text ∙ ap (λ t. grown t (concat more)) to.text
      ∙ grown-grown first (concat to.before) (concat more) ∙ ap (grown first) joined

  part_text : (new : Option (List ℕ)) → GrewByPart now new (concat more) → GrewByPart first new (concat whole)
  part_text new part = part_after first now new (concat to.before) (concat more) [] (concat whole)
      to.text part (ap (λ x. concat to.before ++ x) (append-nil (concat more)) ∙ joined)

  cut_text : (new : Option (List ℕ)) (n : ℕ) → new ≡ grown now (concat (take n more)) → new
      ≡ grown first (concat (take (length to.before + n) whole))
  cut_text new n text = text ∙ ap (λ t. grown t (concat (take n more))) to.text
      ∙ grown-grown first (concat to.before) (concat (take n more))
      ∙ ap (grown first) (sym (concat-append to.before (take n more)) ∙ ap concat
      (sym (take-append-add to.before more n))
      ∙ ap (λ w. concat (take (length to.before + n) w)) (sym to.pieces))

  longer : length whole ≡ length to.before + length more
  longer = ap length to.pieces ∙ length-append to.before more

  -- behind some of what is left a read may come as behind the whole's
  read_behind : (n : ℕ) → IsReadBehind (says_from bytes set o to.moment to.now_earned to.rest) n
      → IsReadBehind (says_from bytes set o m earned all) (length to.before + n)
  read_behind n is = record {
    there = omega (arith, longer, is.there);
    before_end = λ done. omega (arith, longer, is.before_end (sym same_ending ∙ done));
  }

  -- how what is left ends is how the whole ends
  pub ends_after : (ending : Ending) (new : Option (List ℕ))
      → EndsBefore (says_from bytes set o to.moment to.now_earned to.rest) ⊤ ⊤ ⊤ ending now new
      → EndsBefore (says_from bytes set o m earned all) ⊤ ⊤ ⊤ ending first new
  ends_after NoMemory new before = part_text new before
  ends_after SinkFault new before = (before.0, part_text new before.1)
  ends_after ReadFault new before =
      (before.0, (length to.before + before.1.0, read_behind before.1.0 before.1.1, cut_text new before.1.0 before.1.2))
  ends_after SaveFault new before = (before.0, same_ending ∙ before.1, all_text new before.2)
  ends_after _ new before = (same_ending ∙ before.0, all_text new before.1)

  -- at the end record all is printed
  pub ends_at_end : (runtime' : RuntimeSeen) (slots' : List (Option KeptSeen))
      (new : Option (List ℕ)) → IsAtEnd set o to.moment to.now_earned to.rest runtime' slots' now
      new → EndsBefore (says_from bytes set o m earned all) ⊤ ⊤ ⊤ Done first new
  ends_at_end runtime' slots' new end =
      let says : says_from bytes set o to.moment to.now_earned to.rest ≡ says_from bytes set o
      to.moment to.now_earned (record { entries = Ended ∷ []; stop = Reached end.at }) =
      ap (says_from bytes set o to.moment to.now_earned) end.last in
      ends_after Done new (
        ap (λ (e : Expected). e.ending) says,
        end.text ∙ sym (grown-nil now) ∙ ap (λ (e : Expected). grown now (concat e.pieces)) (sym says),
      )

  -- and the player stands at the last moment
  stands_at_end : (runtime' : RuntimeSeen) (slots' : List (Option KeptSeen)) (new : Option (List ℕ))
      → IsAtEnd set o to.moment to.now_earned to.rest runtime' slots' now new → StandsAt set o
      (moment_after m all.entries) (earned_after set o m earned all.entries) runtime' slots'
  stands_at_end runtime' slots' new end =
      let there : to.moment ≡ moment_after m all.entries =
      ap (λ (p : Pieces). moment_after to.moment p.entries) (sym end.last) ∙ to.last in
      let earned_there : to.now_earned ≡ earned_after set o m earned all.entries = ap (λ
      (p : Pieces). earned_after set o to.moment to.now_earned p.entries) (sym end.last)
      ∙ to.last_earned in
      subst (λ (n : Moment). StandsAt set o n (earned_after set o m earned all.entries) runtime'
      slots') there
      (subst (λ (e : Earned). StandsAt set o to.moment e runtime' slots') earned_there end.stands)

  -- a record more
  pub played_more : (reader' : ReaderSeen) (runtime' : RuntimeSeen)
      (slots' : List (Option KeptSeen)) (new : Option (List ℕ))
      → GoesOn bytes set o to.moment to.now_earned to.rest reader' runtime' slots' now new
      → PlayedTo bytes set o m earned all reader' runtime' slots' first new
  played_more reader' runtime' slots' new on =
      let piece = printed set o on.entry (moved on.entry to.moment) to.now_earned in
      let next = earned_next set o on.entry (moved on.entry to.moment) to.now_earned in
      record {
        moment = moved on.entry to.moment;
        now_earned = next;
        rest = on.rest;
        left = on.behind;
        stands = on.stands;
        before = to.before ++ piece ∷ [];
        pieces = to.pieces ∙ ap (λ (p : Pieces). to.before ++ pieces_from set o to.moment
            to.now_earned p.entries) on.first ∙ sym (append_assoc to.before (piece ∷ [])
            (pieces_from set o (moved on.entry to.moment) next on.rest.entries));
        text = on.text ∙ ap (λ t. grown t piece) to.text
            ∙ grown-grown first (concat to.before) piece ∙ ap (grown first) (ap (λ x. concat
            to.before ++ x) (sym (append-nil piece)) ∙ sym (concat-append to.before (piece ∷ [])));
        stop = ap (λ (p : Pieces). p.stop) (sym on.first) ∙ to.stop;
        last = ap (λ (p : Pieces). moment_after to.moment p.entries) (sym on.first) ∙ to.last;
        last_earned = ap (λ (p : Pieces). earned_after set o to.moment to.now_earned p.entries)
            (sym on.first) ∙ to.last_earned;
      }

  -- the next record was played, by whether it was the end
  pub goes_on_with : (reader' : ReaderSeen) (runtime' : RuntimeSeen)
      (slots' : List (Option KeptSeen)) (new : Option (List ℕ)) (end : Bool) → end ≡ false
      → TakesNext bytes set o to.moment to.now_earned to.rest reader' runtime' slots' now new
      (Ok end) → PlayedTo bytes set o m earned all reader' runtime' slots' first new
  goes_on_with reader' runtime' slots' new false is next = played_more reader' runtime' slots' new next
  goes_on_with reader' runtime' slots' new true is next = let bad : true ≡ false = is in absurd (cc)

  pub ends_with : (reader' : ReaderSeen) (runtime' : RuntimeSeen) (slots' : List (Option KeptSeen))
      (new : Option (List ℕ)) (end : Bool) → end ≡ true
      → TakesNext bytes set o to.moment to.now_earned to.rest reader' runtime' slots' now new
      (Ok end) → EndsBefore (says_from bytes set o m earned all) ⊤ ⊤ ⊤ Done first new
  ends_with reader' runtime' slots' new true is next = ends_at_end runtime' slots' new next
  ends_with reader' runtime' slots' new false is next = let bad : false ≡ true = is in absurd (cc)

  pub stands_with : (reader' : ReaderSeen) (runtime' : RuntimeSeen) (slots' : List (Option
      KeptSeen)) (new : Option (List ℕ)) (end : Bool) → end ≡ true → TakesNext bytes set o to.moment
      to.now_earned to.rest reader' runtime' slots' now new (Ok end) → StandsAt set o (moment_after
      m all.entries) (earned_after set o m earned all.entries) runtime' slots'
  stands_with reader' runtime' slots' new true is next = stands_at_end runtime' slots' new next
  stands_with reader' runtime' slots' new false is next = let bad : false ≡ true = is in absurd (cc)

  -- the run was stopped at the next record
  pub stops_with : {T : Type 0} (s : TraceFailed) (r : Result T TraceFailed)
      → IsErrAnd r (λ e. e ≡ s) → (new : Option (List ℕ))
      → EndsBefore (says_from bytes set o to.moment to.now_earned to.rest) ⊤ ⊤ ⊤ (ending_of_trace s)
      now new → EndsBefore (says_from bytes set o m earned all) ⊤ ⊤ ⊤ (ending_at r) first new
  stops_with s (Ok done) is new before = absurd is
  stops_with s (Err e) is new before = ends_after (ending_of_trace e) new
      (subst (λ (k : TraceFailed). EndsBefore (says_from bytes set o to.moment to.now_earned
      to.rest) ⊤ ⊤ ⊤ (ending_of_trace k) now new) (sym is) before)
