-- The law of cuts: what a set keeps, tells, prints and shows after a history is what it does from the opening at any
-- frame of it, over the frames since then.
use Rattle.std.proofs.Common.{◌≡◌, ◌≢◌, ℕ, ◌+◌, ◌&&◌, ◌||◌, not, Bool, true, false, if◌then◌else◌, Option, None, Some}
use Rattle.std.proofs.Common.{option_map, List, [], ◌∷◌, ◌++◌, length, map, zip, refl, sym, ◌∙◌, ap, arith}
use Rattle.std.proofs.Common.{length-append, codes, decimal}
use Rattle.std.specs.List.{flat_map}
use Rattle.ra_condition.specs.Contents.{TriggerContents}
use Rattle.ra_leaderboard.specs.Contents.{BoardContents}
use Rattle.ra_memory.specs.Image.{History}
use Rattle.ra_chain.specs.Occurrence.{trees_in_trigger}
use Rattle.ra_memref.specs.Values.{Start}
use Rattle.ra_trigger.specs.States.{state_byte, is_triggered}
use Rattle.ra_trigger.specs.Steps.{TriggerKept}
use Rattle.ra_richpresence.specs.Contents.{ScriptContents}
use Rattle.ra_set.specs.Contents.{ItemContents, Unlocks, Ranks, SetContents}
use Rattle.ra_progress.specs.Contents.{KeptItem, OfAchievement, KeptPresence, Opening, ItemFits, ItemsFit, PresenceFits}
use Rattle.ra_progress.specs.Contents.{IsOpening}
use Rattle.ra_member.specs.Members.{trees_in_member}
use Rattle.ra_meaning.specs.Order.{board_member, trees_in_item, trees_in_line, lines_in, item_shape, presence_shape}
use Rattle.ra_meaning.specs.Order.{shape_of}
use Rattle.ra_meaning.specs.Histories.{achievement_after}
use Rattle.ra_meaning.specs.Boards.{BoardKept, board_after, opened_board, kept_board}
use Rattle.ra_meaning.specs.Presence.{opened_display, kept_display, display_text}
use Rattle.ra_meaning.specs.Events.{achievement_events, board_events}
use Rattle.ra_meaning.specs.Lines.{line_of, event_lines}
use Rattle.ra_meaning.specs.Earned.{Earned, both_earned, is_earned}
use Rattle.ra_meaning.specs.Openings.{start_of, opened_achievement, kept_achievement, item_after, optional_presence}
use Rattle.ra_meaning.specs.Openings.{frames_after, snapshot}
use Rattle.ra_meaning.specs.Play.{item_events, events, lines, earns, unless_earned, unlocks, shown_by, shown}
use Rattle.ra_meaning.specs.Runtime.{CutsAnywhere}
use Rattle.ra_member.proofs.GoingOn.{GoesOn, goes_on}
use Rattle.ra_member.proofs.Listed.{In_front, In_behind}
use Rattle.ra_meaning.proofs.Cuts.Items.{goes_front, goes_behind, achievement_cut, board_cut}
use Rattle.ra_meaning.proofs.Counts.Fitting.{BoardFits, board_fits}
use Rattle.ra_meaning.proofs.Openings.Again.{achievement_again, board_again}
use Rattle.ra_meaning.proofs.Openings.Fits.{opened_fits, script_fits}
use Rattle.ra_meaning.proofs.Cuts.Presence.{display_goes_on}
use Rattle.ra_meaning.proofs.Openings.Covered.{tree_alike, cells_cut, priors_cut}

-- what is triggered stays so
stays : (b : Bool) (k other : TriggerKept) → b ≡ true → is_triggered k.state ≡ true
    → is_triggered (if b then k else other).state ≡ true
stays true k other e is = is
stays false k other e is = absurd (cc e)

triggered_later : (start : Start) (t : TriggerContents) (k : TriggerKept) (earlier later : History)
    → is_triggered (achievement_after start t k earlier).state ≡ true
    → is_triggered (achievement_after start t k (later ++ earlier)).state ≡ true
triggered_later start t k earlier [] is = is
triggered_later start t k earlier (image ∷ later) is =
    let before = triggered_later start t k earlier later is in
    stays (is_triggered (achievement_after start t k (later ++ earlier)).state)
    (achievement_after start t k (later ++ earlier)) _ before before

-- what was earned or triggered at a cut is earned behind it
earned_once : (earned before after : Bool) → (before ≡ true → after ≡ true) → (earned || after)
    ≡ ((earned || before) || after)
earned_once true before after stays = refl
earned_once false true after stays = stays refl
earned_once false false after stays = refl

module _ (start opened : Start) (earlier : History) where
  -- an achievement, from what is kept of it
  achievement_goes_on : (t : TriggerContents) → GoesOn start opened earlier (trees_in_trigger t)
      → (k : TriggerKept) (earned : Bool) (later : History)
      → achievement_after start t k (later ++ earlier) ≡ achievement_after opened t
      (opened_achievement (kept_achievement earned (achievement_after start t k earlier))) later
  achievement_goes_on t goes k earned later =
      achievement_cut start opened earlier t goes k later
      ∙ ap (λ x. achievement_after opened t x later)
      (sym (achievement_again earned (achievement_after start t k earlier)))

  -- a board, from what is kept of it
  board_goes_on : (b : BoardContents) → GoesOn start opened earlier
      (trees_in_member (board_member b)) → (k : BoardKept) → BoardFits b k → (later : History)
      → board_after start b k (later ++ earlier)
      ≡ board_after opened b (opened_board b (kept_board (board_after start b k earlier))) later
  board_goes_on b goes k fits later =
      board_cut start opened earlier b goes k later
      ∙ ap (λ x. board_after opened b x later)
      (sym (board_again b (board_after start b k earlier) (board_fits start b k earlier fits)))

  item_goes_on : (item : ItemContents) → GoesOn start opened earlier (trees_in_item item)
      → (kept : KeptItem) → ItemFits (item_shape item) kept → (later : History)
      → item_after start (later ++ earlier) (item, kept)
      ≡ item_after opened later (item, item_after start earlier (item, kept))
  item_goes_on (Unlocks id t) alike kept fits later =
      let k = opened_achievement kept in
      let earned = is_earned kept in
      let cut = achievement_after start t k earlier in
      let last = achievement_after start t k (later ++ earlier) in
      ap (λ b. OfAchievement (state_byte last.state) last.measured last.hits b)
      (earned_once earned (is_triggered cut.state) (is_triggered last.state) (triggered_later start t k earlier later))
      ∙ ap (kept_achievement (earned || is_triggered cut.state)) (achievement_goes_on t alike k earned later)
  item_goes_on (Ranks id format b) alike kept fits later =
      ap kept_board (board_goes_on b alike (opened_board b kept) (opened_fits b id format kept fits) later)

  items_go_on : (items : List ItemContents) → GoesOn start opened earlier
      (flat_map trees_in_item items) → (kept : List KeptItem) → ItemsFit (map item_shape items) kept
      → (later : History) → map (item_after start (later ++ earlier)) (zip items kept)
      ≡ map (item_after opened later) (zip items (map (item_after start earlier) (zip items kept)))
  items_go_on [] alike kept fits later = refl
  items_go_on (item ∷ items) alike [] fits later = refl
  items_go_on (item ∷ items) alike (k ∷ kept) fits later =
      let first = item_goes_on item (goes_front start opened earlier (trees_in_item item)
      (flat_map trees_in_item items) alike) k fits.0 later in
      let rest = items_go_on items (goes_behind start opened earlier (trees_in_item item)
      (flat_map trees_in_item items) alike) kept fits.1 later in
      (λ i. first i ∷ rest i)

  -- the events of an item at the last frame
  pub events_of_item : (item : ItemContents) → GoesOn start opened earlier (trees_in_item item)
      → (kept : KeptItem) → ItemFits (item_shape item) kept → (image : List ℕ) (later : History)
      → item_events start image (later ++ earlier) (item, kept)
      ≡ item_events opened image later (item, item_after start earlier (item, kept))
  events_of_item (Unlocks id t) alike kept fits image later =
      let before = achievement_goes_on t alike (opened_achievement kept) (is_earned kept) later in
      let after = achievement_goes_on t alike (opened_achievement kept) (is_earned kept) (image ∷ later) in
      (λ i. achievement_events id (before i) (after i))
  events_of_item (Ranks id format b) alike kept fits image later =
      let opened_fit = opened_fits b id format kept fits in
      let before = board_goes_on b alike (opened_board b kept) opened_fit later in
      let after = board_goes_on b alike (opened_board b kept) opened_fit (image ∷ later) in
      (λ i. board_events id format (before i) (after i))

  -- what is told of an item, unless it is earned
  told_of_item : (earned : Bool) (item : ItemContents) → GoesOn start opened earlier (trees_in_item
      item) → (kept : KeptItem) → ItemFits (item_shape item) kept → (image : List ℕ) (later
      : History) → unless_earned (item_events start image (later ++ earlier)) (earned, (item, kept))
      ≡ unless_earned (item_events opened image later)
      (earned, (item, item_after start earlier (item, kept)))
  told_of_item true item alike kept fits image later = refl
  told_of_item false item alike kept fits image later = events_of_item item alike kept fits image later

  events_go_on : (earned : Earned) (items : List ItemContents) → GoesOn start opened earlier
      (flat_map trees_in_item items) → (kept : List KeptItem) → ItemsFit (map item_shape items) kept
      → (image : List ℕ) (later : History) → flat_map (unless_earned (item_events start image (later
      ++ earlier))) (zip earned (zip items kept)) ≡ flat_map (unless_earned (item_events opened
      image later)) (zip earned (zip items (map (item_after start earlier) (zip items kept))))
  events_go_on [] items alike kept fits image later = refl
  events_go_on (e ∷ earned) [] alike kept fits image later = refl
  events_go_on (e ∷ earned) (item ∷ items) alike [] fits image later = refl
  events_go_on (e ∷ earned) (item ∷ items) alike (k ∷ kept) fits image later =
      let first = told_of_item e item (goes_front start opened earlier (trees_in_item item)
      (flat_map trees_in_item items) alike) k fits.0 image later in
      let rest = events_go_on earned items (goes_behind start opened earlier (trees_in_item item)
      (flat_map trees_in_item items) alike) kept fits.1 image later in
      (λ i. first i ++ rest i)

  -- whether an item unlocks at the last frame
  unlocks_of_item : (item : ItemContents) → GoesOn start opened earlier (trees_in_item item)
      → (kept : KeptItem) → (image : List ℕ) (later : History) → unlocks start image
      (later ++ earlier) (item, kept)
      ≡ unlocks opened image later (item, item_after start earlier (item, kept))
  unlocks_of_item (Unlocks id t) alike kept image later =
      let before = achievement_goes_on t alike (opened_achievement kept) (is_earned kept) later in
      let after = achievement_goes_on t alike (opened_achievement kept) (is_earned kept) (image ∷ later) in
      (λ i. not (is_triggered (before i).state) && is_triggered (after i).state)
  unlocks_of_item (Ranks id format b) alike kept image later = refl

  unlocks_go_on : (items : List ItemContents) → GoesOn start opened earlier
      (flat_map trees_in_item items) → (kept : List KeptItem) → (image : List ℕ) (later : History)
      → map (unlocks start image (later ++ earlier)) (zip items kept) ≡ map
      (unlocks opened image later) (zip items (map (item_after start earlier) (zip items kept)))
  unlocks_go_on [] alike kept image later = refl
  unlocks_go_on (item ∷ items) alike [] image later = refl
  unlocks_go_on (item ∷ items) alike (k ∷ kept) image later =
      let first = unlocks_of_item item (goes_front start opened earlier (trees_in_item item)
      (flat_map trees_in_item items) alike) k image later in
      let rest = unlocks_go_on items (goes_behind start opened earlier (trees_in_item item)
      (flat_map trees_in_item items) alike) kept image later in
      (λ i. first i ∷ rest i)

  -- what is kept of the presence
  presence_goes_on : (script : Option ScriptContents)
      → GoesOn start opened earlier (flat_map trees_in_line (lines_in script))
      → (kept : Option KeptPresence) → PresenceFits (option_map presence_shape script) kept
      → (later : History) → optional_presence start (later ++ earlier) script kept
      ≡ optional_presence opened later script (optional_presence start earlier script kept)
  presence_goes_on None alike kept fits later = refl
  presence_goes_on (Some script) alike None fits later = refl
  presence_goes_on (Some script) alike (Some kept) fits later =
      ap (λ k. Some (kept_display k)) (display_goes_on start opened earlier script alike
      (opened_display script kept) (script_fits script kept fits) later)

  pub shown_goes_on : (count : ℕ) (script : Option ScriptContents)
      → GoesOn start opened earlier (flat_map trees_in_line (lines_in script))
      → (kept : Option KeptPresence) → PresenceFits (option_map presence_shape script) kept
      → (later : History) → shown_by start count (later ++ earlier) script kept
      ≡ shown_by opened count later script (optional_presence start earlier script kept)
  shown_goes_on count None alike kept fits later = refl
  shown_goes_on count (Some script) alike None fits later = refl
  shown_goes_on count (Some script) alike (Some kept) fits later =
      ap (λ k. line_of (codes "presence" ∷ decimal count ∷ display_text script k ∷ []))
      (display_goes_on start opened earlier script alike (opened_display script kept)
      (script_fits script kept fits) later)

-- counts that stop at the last number go on as one
pub counts_go_on : (count m n : ℕ) → frames_after (frames_after count m) n ≡ frames_after count (n + m)
counts_go_on count m n = omega arith

length_both : (later earlier : History) → length (later ++ earlier) ≡ length later + length earlier
length_both later earlier = length-append later earlier

pub cuts_anywhere : (set : SetContents) → CutsAnywhere set
cuts_anywhere set = record { kept = kept; shows = shows; prints = prints; tells = tells; earned_too = earned_too }
  where
    items_alike : (o : Opening) (earlier : History) → GoesOn (start_of set o)
        (start_of set (snapshot set o earlier)) earlier (flat_map trees_in_item set.items)
    items_alike o earlier =
        goes_on (start_of set o) (start_of set (snapshot set o earlier)) earlier
        (flat_map trees_in_item set.items) (λ tree h history. sym
        (tree_alike set o earlier tree (In_front tree (flat_map trees_in_item set.items)
        (flat_map trees_in_line (lines_in set.script)) h) history))

    script_alike : (o : Opening) (earlier : History) → GoesOn (start_of set o) (start_of set
        (snapshot set o earlier)) earlier (flat_map trees_in_line (lines_in set.script))
    script_alike o earlier =
        goes_on (start_of set o) (start_of set (snapshot set o earlier)) earlier
        (flat_map trees_in_line (lines_in set.script))
        (λ tree h history. sym (tree_alike set o earlier tree (In_behind tree (flat_map
        trees_in_item set.items) (flat_map trees_in_line (lines_in set.script)) h) history))

    counts : (o : Opening) (earlier later : History) → frames_after o.frames
        (length (later ++ earlier)) ≡ frames_after (snapshot set o earlier).frames (length later)
    counts o earlier later =
        ap (λ n. frames_after o.frames n) (length_both later earlier)
        ∙ sym (counts_go_on o.frames (length earlier) (length later))

    kept : (o : Opening) (earlier later : History) → IsOpening (shape_of set) o
        → snapshot set o (later ++ earlier) ≡ snapshot set (snapshot set o earlier) later
    kept o earlier later fits =
        let start : Start = start_of set o in
        let opened : Start = start_of set (snapshot set o earlier) in
        let frames = counts o earlier later in
        let cells = cells_cut set o earlier later in
        let priors = priors_cut set o earlier later in
        let items = items_go_on start opened earlier set.items (items_alike o earlier) o.items fits.items later in
        let presence = presence_goes_on start opened earlier set.script
        (script_alike o earlier) o.presence fits.presence later in
        (λ i. record { frames = frames i; cells = cells i; priors = priors i; items = items i; presence = presence i })

    shows : (o : Opening) (earlier later : History) → IsOpening (shape_of set) o
        → shown set o (later ++ earlier) ≡ shown set (snapshot set o earlier) later
    shows o earlier later fits =
        let start : Start = start_of set o in
        let opened : Start = start_of set (snapshot set o earlier) in
        ap (λ n. shown_by start n (later ++ earlier) set.script o.presence) (counts o earlier later)
        ∙ shown_goes_on start opened earlier (frames_after (snapshot set o earlier).frames
        (length later)) set.script (script_alike o earlier) o.presence fits.presence later

    tells : (o : Opening) (earlier later : History) (earned : Earned) → IsOpening (shape_of set) o
        → later ≢ [] → events set o (later ++ earlier) earned
        ≡ events set (snapshot set o earlier) later earned
    tells o earlier [] earned fits some = absurd (some refl)
    tells o earlier (image ∷ later) earned fits some =
        events_go_on (start_of set o) (start_of set (snapshot set o earlier)) earlier earned
        set.items (items_alike o earlier) o.items fits.items image later

    prints : (o : Opening) (earlier later : History) (earned : Earned) → IsOpening (shape_of set) o
        → later ≢ [] → lines set o (later ++ earlier) earned
        ≡ lines set (snapshot set o earlier) later earned
    prints o earlier [] earned fits some = absurd (some refl)
    prints o earlier (image ∷ later) earned fits some =
        ap (λ n. event_lines n (events set o (image ∷ (later ++ earlier)) earned)) (counts o earlier later)
        ∙ ap (event_lines (frames_after (snapshot set o earlier).frames (length later)))
        (tells o earlier (image ∷ later) earned fits some)

    earned_too : (o : Opening) (earlier later : History) (earned : Earned)
        → IsOpening (shape_of set) o → later ≢ [] → earns set o (later ++ earlier) earned
        ≡ earns set (snapshot set o earlier) later earned
    earned_too o earlier [] earned fits some = absurd (some refl)
    earned_too o earlier (image ∷ later) earned fits some =
        ap (both_earned earned) (unlocks_go_on (start_of set o) (start_of set
        (snapshot set o earlier)) earlier set.items (items_alike o earlier) o.items image later)
