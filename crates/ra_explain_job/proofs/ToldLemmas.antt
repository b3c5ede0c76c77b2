-- The unlock of an achievement is told where it unlocks by itself.
use Rattle.std.proofs.Common.{◌≡◌, ℕ, zero, suc, ◌==◌, ◌||◌, ◌&&◌, not, Bool, true, false, if◌then◌else◌, None, Some}
use Rattle.std.proofs.Common.{List, [], ◌∷◌, ◌++◌, length, map, replicate, drop, slice_index, zip, refl, sym, ◌∙◌, ap}
use Rattle.std.proofs.Common.{ap₂, subst}
use Rattle.std.specs.List.{AllByRecursion, IsDistinct, flat_map}
use Rattle.std.proofs.lemmas.Bool.{eq-eqb, eqb-true}
use Rattle.std.proofs.lemmas.Map.Keys.{IsDistinct-head, IsDistinct-tail}
use Rattle.ra_condition.specs.Contents.{TriggerContents}
use Rattle.ra_memory.specs.Image.{History}
use Rattle.ra_indirect.specs.Trees.{Cell, Tracked, same_cell, same_tracked}
use Rattle.ra_memref.specs.Values.{Start}
use Rattle.ra_trigger.specs.Kept.{no_trigger}
use Rattle.ra_trigger.specs.States.{is_triggered, is_primed}
use Rattle.ra_trigger.specs.Steps.{TriggerKept}
use Rattle.ra_leaderboard.specs.States.{became_started, became_cancelled, became_submitted}
use Rattle.ra_value_format.specs.declared.format.Format.{Format}
use Rattle.ra_set.specs.Accepted.{repeats}
use Rattle.ra_set.specs.Contents.{ItemContents, Unlocks, Ranks, SetContents}
use Rattle.ra_progress.specs.Contents.{KeptItem, plain_item}
use Rattle.ra_member.specs.Folds.{after}
use Rattle.ra_member.specs.Frames.{achievement_next}
use Rattle.ra_meaning.specs.Boards.{BoardKept, tracked_number, value_number, board_after, opened_board}
use Rattle.ra_meaning.specs.Earned.{Earned}
use Rattle.ra_meaning.specs.Events.{event_if, achievement_events, board_events, is_started, same_number}
use Rattle.ra_meaning.specs.Histories.{achievement_after}
use Rattle.ra_meaning.specs.Openings.{number_beside, prior_beside, start_of, plain_opening}
use Rattle.ra_meaning.specs.Order.{item_shape, set_cells, set_tracked, shape_of}
use Rattle.ra_meaning.specs.Play.{item_events, unless_earned}
use Rattle.ra_meaning.specs.declared.event.Event.{Event}
use Rattle.ra_meaning.specs.declared.event.Event.TheVariants.{Measured, Primed, Unprimed, Unlock, Start as Began, Track}
use Rattle.ra_meaning.specs.declared.event.Event.TheVariants.{Cancel, Submit}
use Rattle.ra_meaning.proofs.Folded.Lines.{are_folds}
use Rattle.ra_explain.specs.Recorders.{plain_start, kept_after}
use Rattle.ra_goals.specs.Choosing.{trigger_of}
use Rattle.ra_explain_job.specs.Told.{is_unlock, tells_unlock, earned_of, UnlocksAreTold}

-- ---- the plain opening gives each cell and each mask the number 0

abbrev AllZero : List ℕ → Type 0
AllZero numbers = AllByRecursion (λ n. n ≡ 0) numbers

-- no numbers
abbrev empty : List ℕ
empty = []

all_zero : (n : ℕ) → AllZero (replicate n 0)
all_zero zero = tt
all_zero (suc n) = (refl, all_zero n)

zero_beside : (cells : List Cell) (numbers : List ℕ) → AllZero numbers → (c : Cell) → number_beside cells numbers c ≡ 0
zero_beside [] numbers zeros c = refl
zero_beside (d ∷ cells) [] zeros c = elim (same_cell d c) as
    (λ b. (if b then slice_index empty 0 else number_beside cells (drop 1 empty) c) ≡ 0) [
      | true ↦ refl
      | false ↦ zero_beside cells [] tt c
    ]
zero_beside (d ∷ cells) (n ∷ numbers) zeros c = elim (same_cell d c) as (λ b.
    (if b then slice_index (n ∷ numbers) 0 else number_beside cells (drop 1 (n ∷ numbers)) c) ≡ 0) [
      | true ↦ zeros.0
      | false ↦ zero_beside cells numbers zeros.1 c
    ]

zero_prior : (tracked : List Tracked) (numbers : List ℕ) → AllZero numbers → (t : Tracked)
    → prior_beside tracked numbers t ≡ 0
zero_prior [] numbers zeros t = refl
zero_prior (s ∷ tracked) [] zeros t = elim (same_tracked s t) as
    (λ b. (if b then slice_index empty 0 else prior_beside tracked (drop 1 empty) t) ≡ 0) [
      | true ↦ refl
      | false ↦ zero_prior tracked [] tt t
    ]
zero_prior (s ∷ tracked) (n ∷ numbers) zeros t = elim (same_tracked s t) as (λ b. (if b
    then slice_index (n ∷ numbers) 0 else prior_beside tracked (drop 1 (n ∷ numbers)) t) ≡ 0) [
      | true ↦ zeros.0
      | false ↦ zero_prior tracked numbers zeros.1 t
    ]

starts_plain : (set : SetContents) → start_of set (plain_opening set) ≡ plain_start
starts_plain set =
    let cells = all_zero (length (shape_of set).cells) in
    let priors = all_zero (length (shape_of set).priors) in
    (λ i. record
    { number = λ c. zero_beside (set_cells set) _ cells c i; prior = λ t. zero_prior (set_tracked set) _ priors t i })

-- ---- an unlock among events

or_false : (a : Bool) → (a || false) ≡ a
or_false true = refl
or_false false = refl

and_true : (a : Bool) → (a && true) ≡ a
and_true true = refl
and_true false = refl

and_false : (a : Bool) → (a && false) ≡ false
and_false true = refl
and_false false = refl

or_assoc : (a b c : Bool) → ((a || b) || c) ≡ (a || (b || c))
or_assoc true b c = refl
or_assoc false b c = refl

told_append : (id : ℕ) (xs ys : List Event) → tells_unlock id (xs ++ ys) ≡ (tells_unlock id xs || tells_unlock id ys)
told_append id [] ys = refl
told_append id (x ∷ xs) ys =
    ap (λ b. is_unlock id x || b) (told_append id xs ys)
    ∙ sym (or_assoc (is_unlock id x) (tells_unlock id xs) (tells_unlock id ys))

alone : (id : ℕ) (happened : Bool) (event : Event) → tells_unlock id (event_if happened event)
    ≡ (happened && is_unlock id event)
alone id true event = or_false (is_unlock id event)
alone id false event = refl

-- an event of another kind is none
other_kind : (id : ℕ) (happened : Bool) (event : Event) → is_unlock id event ≡ false
    → tells_unlock id (event_if happened event) ≡ false
other_kind id happened event other =
    alone id happened event ∙ ap (λ b. happened && b) other ∙ and_false happened

-- events of other kinds are passed over
told_last : (id : ℕ) (e f g h : List Event) → tells_unlock id e ≡ false → tells_unlock id f ≡ false
    → tells_unlock id g ≡ false → tells_unlock id (e ++ f ++ g ++ h) ≡ tells_unlock id h
told_last id e f g h no_e no_f no_g =
    told_append id (e ++ f ++ g) h
    ∙ ap (λ b. b || tells_unlock id h)
    (told_append id (e ++ f) g ∙ ap₂ (λ a b. a || b) (told_append id e f ∙ ap₂ (λ a b. a || b) no_e no_f) no_g)

achievement_tells : (id other : ℕ) (before now : TriggerKept)
    → tells_unlock id (achievement_events other before now)
    ≡ ((not (is_triggered before.state) && is_triggered now.state) && (other == id))
achievement_tells id other before now =
    let measured = not (before.measured == now.measured) in
    let primed = not (is_primed before.state) && is_primed now.state in
    let unprimed = is_primed before.state && not (is_primed now.state) in
    let unlocks = not (is_triggered before.state) && is_triggered now.state in
    told_last id (event_if measured (Measured other now.measured)) (event_if primed (Primed other))
    (event_if unprimed (Unprimed other)) (event_if unlocks (Unlock other))
    (other_kind id measured (Measured other now.measured) refl)
    (other_kind id primed (Primed other) refl) (other_kind id unprimed (Unprimed other) refl)
    ∙ alone id unlocks (Unlock other)

board_tells : (id other : ℕ) (format : Format) (before now : BoardKept)
    → tells_unlock id (board_events other format before now) ≡ false
board_tells id other format before now =
    let started = became_started before.state now.state in
    let changed = not (same_number (tracked_number before) (tracked_number now)) in
    let tracks = is_started now.state && (started || changed) in
    let cancelled = became_cancelled before.state now.state in
    let submitted = became_submitted before.state now.state in
    told_last id (event_if started (Began other))
    (event_if tracks (Track other (tracked_number now) format)) (event_if cancelled (Cancel other))
    (event_if submitted (Submit other (value_number now) format))
    (other_kind id started (Began other) refl) (other_kind id tracks
    (Track other (tracked_number now) format) refl) (other_kind id cancelled (Cancel other) refl)
    ∙ other_kind id submitted (Submit other (value_number now) format) refl

-- ---- items, one beside the other

module _ (start : Start) (image : List ℕ) (earlier : History) where
  abbrev plain : ItemContents → KeptItem
  plain item = plain_item (item_shape item)

  abbrev tells : ItemContents × KeptItem → List Event
  tells item = item_events start image earlier item

  -- what an achievement keeps, and whether it unlocks by that
  abbrev kept_of : TriggerContents → History → TriggerKept
  kept_of t history = achievement_after start t (no_trigger t) history

  abbrev unlocks_by : TriggerContents → Bool
  unlocks_by t =
      not (is_triggered (kept_of t earlier).state) && is_triggered (kept_of t (image ∷ earlier)).state

  abbrev all_told : List ItemContents → Earned → List Event
  all_told items earned =
      flat_map (unless_earned tells) (zip earned (zip items (map plain_item (map item_shape items))))

  -- what one item and those behind it tell
  told_first : (id : ℕ) (item : ItemContents) (items : List ItemContents) (e : Bool)
      (earned : Earned) → tells_unlock id (all_told (item ∷ items) (e ∷ earned)) ≡ (tells_unlock id
      (unless_earned tells (e, (item, plain item))) || tells_unlock id (all_told items earned))
  told_first id item items e earned =
      told_append id (unless_earned tells (e, (item, plain item))) (all_told items earned)

  -- an achievement has another id
  abbrev HasOther : ℕ → ItemContents → Type 0
  HasOther id (Unlocks other t) = (other == id) ≡ false
  HasOther id (Ranks other format b) = ⊥

  -- an item of another id tells no such unlock
  silent : (id : ℕ) (item : ItemContents) (e : Bool)
      → ((other : ℕ) (t : TriggerContents) → item ≡ Unlocks other t → (other == id) ≡ false)
      → tells_unlock id (unless_earned tells (e, (item, plain item))) ≡ false
  silent id item true apart = refl
  silent id (Unlocks other t) false apart =
      achievement_tells id other (kept_of t earlier) (kept_of t (image ∷ earlier))
      ∙ ap (λ b. unlocks_by t && b) (apart other t refl) ∙ and_false (unlocks_by t)
  silent id (Ranks other format b) false apart =
      let kept : History → BoardKept = board_after start b (opened_board b (plain (Ranks other format b))) in
      board_tells id other format (kept earlier) (kept (image ∷ earlier))

  -- an id that none of some items has
  abbrev Lacks : ℕ → List ItemContents → Type 0
  Lacks id items = AllByRecursion (λ (item : ItemContents). (other : ℕ) (t : TriggerContents) → item
      ≡ Unlocks other t → (other == id) ≡ false) items

  none_told : (id : ℕ) (items : List ItemContents) (earned : Earned) → Lacks id items
      → tells_unlock id (all_told items earned) ≡ false
  none_told id [] [] lacks = refl
  none_told id [] (e ∷ earned) lacks = refl
  none_told id (item ∷ items) [] lacks = refl
  none_told id (item ∷ items) (e ∷ earned) lacks =
      told_first id item items e earned
      ∙ ap₂ (λ a b. a || b) (silent id item e lacks.0) (none_told id items earned lacks.1)

  same_id : (m n : ℕ) → (m == n) ≡ true → m ≡ n
  same_id m n is = eqb-true m n is

  other_id : (m n : ℕ) → (m == n) ≡ false → (n == m) ≡ false
  other_id m n is = elim (n == m) as (λ b. (n == m) ≡ b → b ≡ false) [
    | true ↦ λ same. sym (eq-eqb m n (sym (same_id n m same))) ∙ is
    | false ↦ λ same. refl
  ] refl

  -- items that repeat no id lack that of one before them
  lack : (id : ℕ) (t : TriggerContents) (items : List ItemContents)
      → AllByRecursion (λ y. repeats (Unlocks id t) y ≡ false) items → Lacks id items
  lack id t [] apart = tt
  lack id t (Unlocks other u ∷ items) apart =
      ((λ k v is. subst (HasOther id) is (other_id id other apart.0)), lack id t items apart.1)
  lack id t (Ranks other format b ∷ items) apart = ((λ k v is. absurd (cc)), lack id t items apart.1)

  some_same : (t u : TriggerContents) → Some t ≡ Some u → t ≡ u
  some_same t u same = cc

  told_so : (id : ℕ) (t : TriggerContents) (items : List ItemContents) (earned : Earned)
      → IsDistinct repeats items → trigger_of id items ≡ Some t → earned_of id items earned ≡ false
      → tells_unlock id (all_told items earned) ≡ unlocks_by t
  told_so id t [] earned distinct is none = absurd (let bad : None ≡ Some t = is in cc)
  told_so id t (Ranks other format b ∷ items) [] distinct is none = absurd (cc)
  told_so id t (Ranks other format b ∷ items) (e ∷ earned) distinct is none =
      told_first id (Ranks other format b) items e earned
      ∙ ap₂ (λ a c. a || c) (silent id (Ranks other format b) e (λ k v bad. absurd (cc))) (told_so
      id t items earned (IsDistinct-tail repeats (Ranks other format b) items distinct) is none)
  told_so id t (Unlocks other u ∷ items) [] distinct is none = absurd (cc)
  told_so id t (Unlocks other u ∷ items) (e ∷ earned) distinct is none =
      by_id (λ is none. told_so id t items earned
      (IsDistinct-tail repeats (Unlocks other u) items distinct) is none) (other == id) refl is none
    where
      by_id : (trigger_of id items ≡ Some t → earned_of id items earned ≡ false
          → tells_unlock id (all_told items earned) ≡ unlocks_by t)
          → (b : Bool) → (other == id) ≡ b → (if b then Some u else trigger_of id items) ≡ Some t
          → (if b then e else earned_of id items earned) ≡ false
          → tells_unlock id (all_told (Unlocks other u ∷ items) (e ∷ earned)) ≡ unlocks_by t
      by_id rest true same is none =
          let lacks : Lacks id items = subst (λ k. Lacks k items) (same_id other id same)
          (lack other u items (IsDistinct-head repeats (Unlocks other u) items distinct)) in
          let here : tells_unlock id (unless_earned tells
          (false, (Unlocks other u, plain (Unlocks other u)))) ≡ unlocks_by u =
          achievement_tells id other (kept_of u earlier) (kept_of u (image ∷ earlier))
          ∙ ap (λ b. unlocks_by u && b) same ∙ and_true (unlocks_by u) in
          told_first id (Unlocks other u) items e earned
          ∙ ap₂ (λ a c. a || c) (ap (λ b. tells_unlock id
          (unless_earned tells (b, (Unlocks other u, plain (Unlocks other u))))) none ∙ here)
          (none_told id items earned lacks)
          ∙ or_false (unlocks_by u) ∙ ap unlocks_by (some_same u t is)
      by_id rest false other_one is none =
          told_first id (Unlocks other u) items e earned
          ∙ ap₂ (λ a c. a || c) (silent id (Unlocks other u) e
          (λ k v is. subst (HasOther id) is other_one)) (rest is none)

-- an achievement after a history from the plain opening is what a recorder keeps of it
kept_plain : (set : SetContents) (t : TriggerContents) (history : History) → achievement_after
    (start_of set (plain_opening set)) t (no_trigger t) history ≡ kept_after t history
kept_plain set t history =
    (are_folds (start_of set (plain_opening set))).achievement t (no_trigger t) history
    ∙ ap (λ s. after (achievement_next s t) (no_trigger t) history) (starts_plain set)

pub unlocks_are_told : (set : SetContents) → UnlocksAreTold set
unlocks_are_told set id t image earlier earned distinct is none =
    told_so (start_of set (plain_opening set)) image earlier id t set.items earned distinct is none
    ∙ ap₂ (λ (before after : TriggerKept). not (is_triggered before.state)
    && is_triggered after.state) (kept_plain set t earlier) (kept_plain set t (image ∷ earlier))
