-- A frame has few events.
use Rattle.std.proofs.Common.{ℕ, ◌+◌, ◌≤◌, ◌&&◌, ◌||◌, not, Bool, true, false}
use Rattle.std.proofs.Common.{List, [], ◌∷◌, ◌++◌, length, length-append, zip, arith}
use Rattle.std.specs.List.{flat_map}
use Rattle.std.proofs.lemmas.List.Sums.{sum_by-cons}
use Rattle.ra_leaderboard.specs.States.{became_started, became_cancelled, became_submitted}
use Rattle.ra_leaderboard.specs.declared.state.BoardState.{BoardState}
use Rattle.ra_leaderboard.specs.declared.state.BoardState.TheVariants.{Waiting, Active, Started, Cancelled, Submitted}
use Rattle.ra_memory.specs.Image.{History}
use Rattle.ra_memref.specs.Values.{Start}
use Rattle.ra_progress.specs.Contents.{KeptItem, Opening}
use Rattle.ra_set.specs.Contents.{ItemContents, SetContents, Unlocks, Ranks}
use Rattle.ra_trigger.specs.States.{is_primed}
use Rattle.ra_meaning.specs.Boards.{board_after, opened_board, tracked_number}
use Rattle.ra_meaning.specs.Earned.{Earned}
use Rattle.ra_meaning.specs.Events.{event_if, is_started, same_number}
use Rattle.ra_meaning.specs.Histories.{achievement_after}
use Rattle.ra_meaning.specs.Openings.{opened_achievement, start_of}
use Rattle.ra_meaning.specs.Play.{events, item_events, unless_earned}
use Rattle.ra_meaning.specs.declared.event.Event.{Event}
use Rattle.ra_calls.specs.Most.{most_events, most_of}

one-event : (b : Bool) (e : Event) → length (event_if b e) ≤ 1
one-event true e = omega arith
one-event false e = omega arith

-- an achievement is not both primed and unprimed
few-primed : (before after : Bool) (e f : Event)
    → length (event_if (not before && after) e) + length (event_if (before && not after) f) ≤ 1
few-primed true true e f = omega arith
few-primed true false e f = omega arith
few-primed false true e f = omega arith
few-primed false false e f = omega arith

four : (a b c d : List Event) → length a ≤ 1 → length b + length c ≤ 1 → length d ≤ 1
    → length (a ++ b ++ c ++ d) ≤ 3
four a b c d one two three =
    let whole = length-append (a ++ b ++ c) d in
    let front = length-append (a ++ b) c in
    let first = length-append a b in omega (arith, one, two, three, whole, front, first)

-- an attempt that started or goes on does not end at the same frame
few-board : (before after : BoardState) (changed : Bool) (e f g h : Event)
    → length (event_if (became_started before after) e
    ++ event_if (is_started after && (became_started before after || changed)) f
    ++ event_if (became_cancelled before after) g ++ event_if (became_submitted before after) h) ≤ 2
few-board Waiting Waiting changed e f g h = omega arith
few-board Waiting Active changed e f g h = omega arith
few-board Waiting Started true e f g h = omega arith
few-board Waiting Started false e f g h = omega arith
few-board Waiting Cancelled changed e f g h = omega arith
few-board Waiting Submitted changed e f g h = omega arith
few-board Active Waiting changed e f g h = omega arith
few-board Active Active changed e f g h = omega arith
few-board Active Started true e f g h = omega arith
few-board Active Started false e f g h = omega arith
few-board Active Cancelled changed e f g h = omega arith
few-board Active Submitted changed e f g h = omega arith
few-board Started Waiting changed e f g h = omega arith
few-board Started Active changed e f g h = omega arith
few-board Started Started true e f g h = omega arith
few-board Started Started false e f g h = omega arith
few-board Started Cancelled changed e f g h = omega arith
few-board Started Submitted changed e f g h = omega arith
few-board Cancelled Waiting changed e f g h = omega arith
few-board Cancelled Active changed e f g h = omega arith
few-board Cancelled Started true e f g h = omega arith
few-board Cancelled Started false e f g h = omega arith
few-board Cancelled Cancelled changed e f g h = omega arith
few-board Cancelled Submitted changed e f g h = omega arith
few-board Submitted Waiting changed e f g h = omega arith
few-board Submitted Active changed e f g h = omega arith
few-board Submitted Started true e f g h = omega arith
few-board Submitted Started false e f g h = omega arith
few-board Submitted Cancelled changed e f g h = omega arith
few-board Submitted Submitted changed e f g h = omega arith

few-item : (start : Start) (image : List ℕ) (earlier : History) (item : ItemContents) (kept : KeptItem)
    → length (item_events start image earlier (item, kept)) ≤ most_of item
few-item start image earlier (Unlocks id t) kept =
    let before = achievement_after start t (opened_achievement kept) earlier in
    let after = achievement_after start t (opened_achievement kept) (image ∷ earlier) in
    four _ _ _ _ (one-event _ _) (few-primed (is_primed before.state) (is_primed after.state) _ _) (one-event _ _)
few-item start image earlier (Ranks id format b) kept =
    let before = board_after start b (opened_board b kept) earlier in
    let after = board_after start b (opened_board b kept) (image ∷ earlier) in
    few-board before.state after.state (not (same_number (tracked_number before) (tracked_number after))) _ _ _ _

few-items : (start : Start) (image : List ℕ) (earlier : History) (earned : Earned) (items : List ItemContents)
    (kept : List KeptItem)
    → length (flat_map (unless_earned (item_events start image earlier)) (zip earned (zip items kept)))
    ≤ most_events items
few-items start image earlier [] items kept = omega arith
few-items start image earlier (b ∷ earned) [] kept = omega arith
few-items start image earlier (b ∷ earned) (item ∷ items) [] = omega arith
few-items start image earlier (true ∷ earned) (item ∷ items) (k ∷ kept) =
    let rest = few-items start image earlier earned items kept in
    omega (arith, rest, sum_by-cons most_of item items)
few-items start image earlier (false ∷ earned) (item ∷ items) (k ∷ kept) =
    let rest = few-items start image earlier earned items kept in
    let own = few-item start image earlier item k in
    let both = length-append (item_events start image earlier (item, k))
    (flat_map (unless_earned (item_events start image earlier)) (zip earned (zip items kept))) in
    omega (arith, rest, own, both, sum_by-cons most_of item items)

-- the events of a frame are few
pub few-events : (set : SetContents) (o : Opening) (history : History) (earned : Earned)
    → length (events set o history earned) ≤ most_events set.items
few-events set o [] earned = omega arith
few-events set o (image ∷ earlier) earned = few-items (start_of set o) image earlier earned set.items o.items
