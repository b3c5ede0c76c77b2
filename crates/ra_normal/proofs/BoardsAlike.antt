-- A board and its normal board are in the same state after each frame, and tell the same events.
use Rattle.std.proofs.Common.{◌≡◌, ◌∙◌, ℕ, ◌-◌, ◌&&◌, ◌||◌, not, ℤ, Bool, true, false, if◌then◌else◌, List, [], ◌∷◌}
use Rattle.std.proofs.Common.{◌++◌, length, map, get_or, replicate, Option, None, Some, option_map, IfSome, refl, sym}
use Rattle.std.proofs.Common.{ap, ap₂, subst, subst₂}
use Rattle.std.specs.List.{AllByRecursion}
use Rattle.std.proofs.Math.ListN.{get_or-map}
use Rattle.std.proofs.lemmas.List.{length-map}
use Rattle.std.proofs.lemmas.List.Elements.{recursion_from_All}
use Rattle.ra_condition.specs.Contents.{PartContents}
use Rattle.ra_condition.specs.Spelled.{IsPart, IsValue}
use Rattle.ra_leaderboard.specs.declared.state.BoardState.{BoardState}
use Rattle.ra_leaderboard.specs.Contents.{BoardContents}
use Rattle.ra_leaderboard.specs.Spelled.{IsBoard}
use Rattle.ra_leaderboard.specs.States.{is_running, begins, became_started, became_cancelled, became_submitted}
use Rattle.ra_value_format.specs.declared.format.Format.{Format}
use Rattle.ra_memory.specs.Image.{History}
use Rattle.ra_memref.specs.Values.{Start}
use Rattle.ra_value.specs.Steps.{ValueKept, no_value, signed_greatest}
use Rattle.ra_member.specs.Members.{MemberContents, no_member, no_values, tests_next, tests_hold, values_next}
use Rattle.ra_member.specs.Members.{member_hits, member_numbers, opened_member}
use Rattle.ra_member.proofs.Opened.{member_again, none_saved}
use Rattle.ra_member.proofs.Shaped.{no_member_shape}
use Rattle.ra_meaning.specs.Boards.{BoardKept, state_by, running_values, board_next, board_after, number_at}
use Rattle.ra_meaning.specs.Boards.{value_number, tracked_number, opened_board}
use Rattle.ra_progress.specs.Contents.{plain_item}
use Rattle.ra_meaning.specs.declared.event.Event.{Event}
use Rattle.ra_meaning.specs.declared.event.Event.TheVariants as events
use Rattle.ra_meaning.specs.Events.{event_if, is_started, same_number, board_events}
use Rattle.ra_meaning.specs.Order.{progress_in, board_member, item_shape}
use Rattle.ra_set.specs.Contents.{Ranks}
use Rattle.ra_normal.specs.Contents.{normal_value, normal_board}
use Rattle.ra_normal.proofs.ValuesAlike.{ValuesMatch, no_values_match, values_step}

-- ---- the values of a board

-- what is kept of values and of their normal values matches, one by one
abbrev pub AllMatch : List (List PartContents) → (kept others : List ValueKept) → Type 0
AllMatch [] [] [] = Unit {0}
AllMatch (value ∷ values) (k ∷ kept) (o ∷ others) = ValuesMatch value k o × AllMatch values kept others
AllMatch _ _ _ = ⊥

-- each part of each value is one that some text spells
abbrev AreSpelled : List (List PartContents) → Type 0
AreSpelled = AllByRecursion (AllByRecursion IsPart)

none_match : (values : List (List PartContents))
    → AllMatch values (no_values values) (no_values (map normal_value values))
none_match [] = tt
none_match (value ∷ values) = (no_values_match value, none_match values)

next_match : (start : Start) (history : History) (values : List (List PartContents))
    → AreSpelled values → (kept others : List ValueKept) → AllMatch values kept others
    → AllMatch values (values_next start values history kept)
    (values_next start (map normal_value values) history others)
next_match start history [] each [] [] h = tt
next_match start history [] each [] (o ∷ others) h = absurd h
next_match start history [] each (k ∷ kept) [] h = absurd h
next_match start history [] each (k ∷ kept) (o ∷ others) h = absurd h
next_match start history (value ∷ values) each [] [] h = absurd h
next_match start history (value ∷ values) each [] (o ∷ others) h = absurd h
next_match start history (value ∷ values) each (k ∷ kept) [] h = absurd h
next_match start history (value ∷ values) each (k ∷ kept) (o ∷ others) h =
    (values_step start history value each.0 k o h.0, next_match start history values each.1 kept others h.1)

running_match : (start : Start) (history : History) (values : List (List PartContents))
    → AreSpelled values → (old new : BoardState) (kept others : List ValueKept)
    → AllMatch values kept others → AllMatch values (running_values start values history old new
    kept) (running_values start (map normal_value values) history old new others)
running_match start history values each old new kept others h = cases (is_running new) (begins old new) where
  cases : (runs anew : Bool) → AllMatch values
      (if runs then values_next start values history (if anew then no_values values else kept)
      else kept) (if runs then values_next start (map normal_value values) history
      (if anew then no_values (map normal_value values) else others) else others)
  cases true true = next_match start history values each (no_values values)
      (no_values (map normal_value values)) (none_match values)
  cases true false = next_match start history values each kept others h
  cases false anew = h

-- matching values have the same numbers
same_numbers : (values : List (List PartContents)) (kept others : List ValueKept)
    → AllMatch values kept others → map (λ k. k.numbers) kept ≡ map (λ k. k.numbers) others
same_numbers [] [] [] h = refl
same_numbers [] [] (o ∷ others) h = absurd h
same_numbers [] (k ∷ kept) [] h = absurd h
same_numbers [] (k ∷ kept) (o ∷ others) h = absurd h
same_numbers (value ∷ values) [] [] h = absurd h
same_numbers (value ∷ values) [] (o ∷ others) h = absurd h
same_numbers (value ∷ values) (k ∷ kept) [] h = absurd h
same_numbers (value ∷ values) (k ∷ kept) (o ∷ others) h =
    ap₂ (λ x xs. x ∷ xs) h.0.numbers (same_numbers values kept others h.1)

same_number_at : (kept others : List ValueKept) → map (λ k. k.numbers) kept
    ≡ map (λ k. k.numbers) others → (place : ℕ) → number_at kept place ≡ number_at others place
same_number_at kept others same place =
    ap signed_greatest (sym (get_or-map (λ (k : ValueKept). k.numbers) kept place (no_value []))
    ∙ ap (λ rows. get_or rows place (no_value []).numbers) same
    ∙ get_or-map (λ (k : ValueKept). k.numbers) others place (no_value []))

same_many : (kept others : List ValueKept) → map (λ k. k.numbers) kept ≡ map (λ k. k.numbers) others
    → length kept ≡ length others
same_many kept others same = sym (length-map kept (λ (k : ValueKept). k.numbers)) ∙ ap length same
    ∙ length-map others (λ (k : ValueKept). k.numbers)

-- ---- a board

-- the values of a normal board
values_of : (b : BoardContents) → (board_member (normal_board b)).values ≡ map normal_value (board_member b).values
values_of b = cases b.progress where
  cases : (progress : Option (List PartContents)) → normal_value b.value ∷ progress_in
      (option_map normal_value progress) ≡ map normal_value (b.value ∷ progress_in progress)
  cases None = refl
  cases (Some parts) = refl

parts_are : (value : List PartContents) → IsValue value → AllByRecursion IsPart value
parts_are value is = recursion_from_All IsPart value is.each

are_spelled : (b : BoardContents) → IsBoard b → AreSpelled (board_member b).values
are_spelled b is = (parts_are b.value is.value, cases b.progress is.progress) where
  cases : (progress : Option (List PartContents)) → IfSome progress IsValue → AreSpelled (progress_in progress)
  cases None is = tt
  cases (Some parts) is = (parts_are parts is, tt)

-- what is kept of a board and of its normal board: the same state and tests, and matching values
pub record BoardsMatch (b : BoardContents) (kept other : BoardKept) : Type 0 where
  pub state : kept.state ≡ other.state
  pub tests : kept.member.tests ≡ other.member.tests
  pub values : AllMatch (board_member b).values kept.member.values other.member.values

board_step : (start : Start) (history : History) (b : BoardContents) → IsBoard b
    → (kept other : BoardKept) → BoardsMatch b kept other → BoardsMatch b
    (board_next start b history kept) (board_next start (normal_board b) history other)
board_step start history b is kept other h =
    let m = board_member b in
    let tests = h.tests in
    let old = h.state in
    let new : state_by kept.state (tests_hold start m.tests history kept.member.tests)
    ≡ state_by other.state (tests_hold start m.tests history other.member.tests) =
    (λ i. state_by (old i) (tests_hold start m.tests history (tests i))) in
    let state = state_by kept.state (tests_hold start m.tests history kept.member.tests) in
    let values = running_match start history m.values
    (are_spelled b is) kept.state state kept.member.values other.member.values h.values in
    let named = sym (values_of b) in
    record {
      state = new;
      tests = (λ i. tests_next start m.tests history (tests i));
      values = subst (λ t. t) (λ i. AllMatch m.values
          (running_values start m.values history kept.state state kept.member.values)
          (running_values start (named i) history (old i) (new i) other.member.values)) values;
    }

-- after each history
pub board_alike : (start : Start) (b : BoardContents) → IsBoard b → (kept other : BoardKept)
    → BoardsMatch b kept other → (history : History) → BoardsMatch b
    (board_after start b kept history) (board_after start (normal_board b) other history)
board_alike start b is kept other h [] = h
board_alike start b is kept other h (image ∷ earlier) =
    board_step start (image ∷ earlier) b is (board_after start b kept earlier)
    (board_after start (normal_board b) other earlier) (board_alike start b is kept other h earlier)

-- ---- events

-- the events of a board by its states and numbers
abbrev told : (id : ℕ) → Format → (old new : BoardState) → (before tracked value : ℤ) → List Event
told id format old new before tracked value =
    let started = became_started old new in
    let changed = not (same_number before tracked) in
    event_if started (events.Start id)
    ++ event_if (is_started new && (started || changed)) (events.Track id tracked format)
    ++ event_if (became_cancelled old new) (events.Cancel id)
    ++ event_if (became_submitted old new) (events.Submit id value format)

module _ (b : BoardContents) (kept other : BoardKept) (h : BoardsMatch b kept other) where
  same : map (λ k. k.numbers) kept.member.values ≡ map (λ k. k.numbers) other.member.values
  same = same_numbers (board_member b).values kept.member.values other.member.values h.values

  same_value : value_number kept ≡ value_number other
  same_value = same_number_at kept.member.values other.member.values same 0

  same_tracked : tracked_number kept ≡ tracked_number other
  same_tracked = ap (λ n. number_at kept.member.values (n - 1))
      (same_many kept.member.values other.member.values same)
      ∙ same_number_at kept.member.values other.member.values same (length other.member.values - 1)

-- boards that match before and after a frame tell the same
pub same_events : (b : BoardContents) (id : ℕ) (format : Format)
    (before before' after after' : BoardKept) → BoardsMatch b before before' → BoardsMatch b after
    after' → board_events id format before after ≡ board_events id format before' after'
same_events b id format before before' after after' h h' =
    let old = h.state in
    let new = h'.state in
    let tracked = same_tracked b before before' h in
    let tracked' = same_tracked b after after' h' in
    let value = same_value b after after' h' in
    (λ i. told id format (old i) (new i) (tracked i) (tracked' i) (value i))

-- ---- the plain opening

-- zeros are what is kept of a member that was never stepped
opened_none : (m : MemberContents)
    → opened_member m (replicate (member_hits m) 0) (replicate (member_numbers m) 0) ≡ no_member m
opened_none m =
    let saved = none_saved m in
    ap₂ (opened_member m) (sym saved.0) (sym saved.1) ∙ member_again m (no_member m) (no_member_shape m)

-- boards that were never stepped match
pub plain_match : (id : ℕ) (format : Format) (b : BoardContents)
    → BoardsMatch b (opened_board b (plain_item (item_shape (Ranks id format b))))
    (opened_board (normal_board b) (plain_item (item_shape (Ranks id format (normal_board b)))))
plain_match id format b =
    let m = board_member b in
    let m' = board_member (normal_board b) in
    let first = opened_none m in
    let other = opened_none m' in
    let named = values_of b in
    record {
      state = refl;
      tests = ap (λ k. k.tests) first ∙ sym (ap (λ k. k.tests) other);
      values = subst₂ (AllMatch m.values) (sym (ap (λ k. k.values) first)) (ap no_values (sym named)
          ∙ sym (ap (λ k. k.values) other)) (none_match m.values);
    }
