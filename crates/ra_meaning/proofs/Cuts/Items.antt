-- What items keep after a history that is cut, by an opening whose trees go on from the earlier part.
use Rattle.std.proofs.Common.{◌≡◌, List, [], ◌∷◌, ◌++◌, refl, ap, ◌∙◌, if◌then◌else◌}
use Rattle.std.specs.List.{flat_map}
use Rattle.ra_condition.specs.Contents.{TriggerContents}
use Rattle.ra_leaderboard.specs.declared.state.BoardState.{BoardState}
use Rattle.ra_leaderboard.specs.Contents.{BoardContents}
use Rattle.ra_leaderboard.specs.States.{is_running, begins}
use Rattle.ra_memory.specs.Image.{History}
use Rattle.ra_indirect.specs.Trees.{Tree}
use Rattle.ra_chain.specs.Occurrence.{trees_in_trigger, trees_in_value}
use Rattle.ra_memref.specs.Values.{Start}
use Rattle.ra_trigger.specs.Steps.{TriggerKept}
use Rattle.ra_member.specs.Frames.{achievement_next}
use Rattle.ra_member.specs.Members.{MemberContents, no_values, values_next, trees_in_member}
use Rattle.ra_member.proofs.Agreeing.{Agree, agree_front, agree_behind, achievement_agrees, tests_agree}
use Rattle.ra_member.proofs.Agreeing.{tests_hold_agree, values_agree}
use Rattle.ra_member.proofs.GoingOn.{GoesOn, fold_goes_on}
use Rattle.ra_meaning.specs.Order.{board_member}
use Rattle.ra_meaning.specs.Histories.{achievement_after}
use Rattle.ra_meaning.specs.Boards.{BoardKept, state_by, board_next, board_after}

-- a board at two frames at which its trees have one value
board_agrees : (start start' : Start) (h h' : History) (b : BoardContents)
    → Agree start start' h h' (trees_in_member (board_member b)) → (kept : BoardKept)
    → board_next start b h kept ≡ board_next start' b h' kept
board_agrees start start' h h' b agree kept =
    let m : MemberContents = board_member b in
    let front = agree_front start start' h h' (flat_map trees_in_trigger m.tests)
    (flat_map trees_in_value m.values) agree in
    let behind = agree_behind start start' h h' (flat_map trees_in_trigger m.tests)
    (flat_map trees_in_value m.values) agree in
    let truths = tests_hold_agree start start' h h' m.tests front kept.member.tests in
    let state = ap (state_by kept.state) truths in
    let hits = tests_agree start start' h h' m.tests front kept.member.tests in
    let values : (now : BoardState) → values_next start m.values h (if begins kept.state now
    then no_values m.values else kept.member.values)
    ≡ values_next start' m.values h' (if begins kept.state now then no_values m.values
    else kept.member.values) = λ now. values_agree start start' h h' m.values behind
    (if begins kept.state now then no_values m.values else kept.member.values) in
    (λ i. record {
      state = state i;
      member = record
          { tests = hits i; values = if is_running (state i) then values (state i) i else kept.member.values };
    })

module _ (start opened : Start) (earlier : History) where
  pub goes_front : (xs ys : List Tree) → GoesOn start opened earlier (xs ++ ys) → GoesOn start opened earlier xs
  goes_front xs ys goes image later =
      agree_front start opened (image ∷ (later ++ earlier)) (image ∷ later) xs ys (goes image later)

  pub goes_behind : (xs ys : List Tree) → GoesOn start opened earlier (xs ++ ys) → GoesOn start opened earlier ys
  goes_behind xs ys goes image later =
      agree_behind start opened (image ∷ (later ++ earlier)) (image ∷ later) xs ys (goes image later)

  -- an achievement
  pub achievement_cut : (t : TriggerContents) → GoesOn start opened earlier (trees_in_trigger t)
      → (k : TriggerKept) (later : History) → achievement_after start t k (later ++ earlier)
      ≡ achievement_after opened t (achievement_after start t k earlier) later
  achievement_cut t goes k [] = refl
  achievement_cut t goes k (image ∷ later) =
      achievement_agrees start opened (image ∷ (later ++ earlier)) (image ∷ later) t
      (goes image later) (achievement_after start t k (later ++ earlier))
      ∙ ap (achievement_next opened t (image ∷ later)) (achievement_cut t goes k later)

  -- a board
  pub board_cut : (b : BoardContents) → GoesOn start opened earlier
      (trees_in_member (board_member b)) → (k : BoardKept) (later : History) → board_after start b k
      (later ++ earlier) ≡ board_after opened b (board_after start b k earlier) later
  board_cut b goes k later =
      fold_goes_on (λ start. board_next start b) (trees_in_member (board_member b))
      (λ start start' h h' agree kept. board_agrees start start' h h' b agree kept) start opened
      earlier goes k later
