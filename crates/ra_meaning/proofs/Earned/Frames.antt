-- Items whose earned flags are other ones keep the same after a frame but for these, and tell and earn the same.
use Rattle.std.proofs.Common.{◌≡◌, ℕ, ◌&&◌, ◌||◌, not, Bool, true, false, List, [], ◌∷◌, ◌++◌, map, zip, refl, sym}
use Rattle.std.proofs.Common.{subst, ap, ap₂}
use Rattle.std.specs.List.{flat_map}
use Rattle.ra_memory.specs.Image.{History}
use Rattle.ra_memref.specs.Values.{Start}
use Rattle.ra_trigger.specs.States.{is_triggered}
use Rattle.ra_trigger.specs.Steps.{TriggerKept}
use Rattle.ra_set.specs.Contents.{ItemContents, Unlocks, Ranks, SetContents}
use Rattle.ra_progress.specs.Contents.{KeptItem, OfAchievement, OfBoard, Opening}
use Rattle.ra_member.specs.Beside.{AreBeside}
use Rattle.ra_meaning.specs.Earned.{Earned, is_earned, item_with, items_with, with_earned, both_earned, earned_in}
use Rattle.ra_meaning.specs.Histories.{achievement_after}
use Rattle.ra_meaning.specs.Openings.{start_of, kept_achievement, opened_achievement, item_after, snapshot}
use Rattle.ra_meaning.specs.Play.{item_events, events, earns, unless_earned, unlocks}
use Rattle.ra_meaning.proofs.Openings.Again.{achievement_again}

module _ (start : Start) (history : History) where
  item_with_after : (e : Bool) (item : ItemContents) (k : KeptItem)
      → item_after start history (item, item_with e k) ≡ item_with (is_earned
      (item_after start history (item, item_with e k))) (item_after start history (item, k))
  item_with_after e (Unlocks id t) (OfAchievement state measured hits old) = refl
  item_with_after e (Unlocks id t) (OfBoard state hits numbers) = refl
  item_with_after e (Ranks id format b) (OfAchievement state measured hits old) = refl
  item_with_after e (Ranks id format b) (OfBoard state hits numbers) = refl

  items_with_after : (earned : Earned) (items : List ItemContents) (kept : List KeptItem)
      → map (item_after start history) (zip items (items_with earned kept))
      ≡ items_with (map is_earned (map (item_after start history)
      (zip items (items_with earned kept)))) (map (item_after start history) (zip items kept))
  items_with_after earned [] kept = refl
  items_with_after [] (item ∷ items) kept = refl
  items_with_after (e ∷ earned) (item ∷ items) [] = refl
  items_with_after (e ∷ earned) (item ∷ items) (k ∷ kept) =
      ap₂ (λ x xs. x ∷ xs) (item_with_after e item k) (items_with_after earned items kept)

-- the opening after a history is the same whatever was earned before it, but for what is earned
pub snapshot_with : (set : SetContents) (o : Opening) (earned : Earned) (history : History)
    → snapshot set (with_earned o earned) history
    ≡ with_earned (snapshot set o history) (earned_in (snapshot set (with_earned o earned) history))
snapshot_with set o earned history =
    let s = snapshot set o history in
    let items = items_with_after (start_of set o) history earned set.items o.items in
    (λ i. record s { items = items i })

module _ (start : Start) (image : List ℕ) (earlier : History) where
  pub item_with_tells : (item : ItemContents) (e : Bool) (k : KeptItem) → item_events start image
      earlier (item, item_with e k) ≡ item_events start image earlier (item, k)
  item_with_tells (Unlocks id t) e (OfAchievement state measured hits old) = refl
  item_with_tells (Unlocks id t) e (OfBoard state hits numbers) = refl
  item_with_tells (Ranks id format b) e (OfAchievement state measured hits old) = refl
  item_with_tells (Ranks id format b) e (OfBoard state hits numbers) = refl

  item_with_unlocks : (item : ItemContents) (e : Bool) (k : KeptItem)
      → unlocks start image earlier (item, item_with e k) ≡ unlocks start image earlier (item, k)
  item_with_unlocks (Unlocks id t) e (OfAchievement state measured hits old) = refl
  item_with_unlocks (Unlocks id t) e (OfBoard state hits numbers) = refl
  item_with_unlocks (Ranks id format b) e k = refl

  one_tells : (e : Bool) (item : ItemContents) (k : KeptItem)
      → unless_earned (item_events start image earlier) (e, (item, item_with e k))
      ≡ unless_earned (item_events start image earlier) (e, (item, k))
  one_tells true item k = refl
  one_tells false item k = item_with_tells item false k

  pub items_with_tell : (earned : Earned) (items : List ItemContents) (kept : List KeptItem)
      → flat_map (unless_earned (item_events start image earlier))
      (zip earned (zip items (items_with earned kept)))
      ≡ flat_map (unless_earned (item_events start image earlier)) (zip earned (zip items kept))
  items_with_tell [] items kept = refl
  items_with_tell (e ∷ earned) [] kept = refl
  items_with_tell (e ∷ earned) (item ∷ items) [] = refl
  items_with_tell (e ∷ earned) (item ∷ items) (k ∷ kept) =
      ap₂ (λ x xs. x ++ xs) (one_tells e item k) (items_with_tell earned items kept)

  pub items_with_earn : (earned : Earned) (items : List ItemContents) (kept : List KeptItem)
      → both_earned earned (map (unlocks start image earlier) (zip items (items_with earned kept)))
      ≡ both_earned earned (map (unlocks start image earlier) (zip items kept))
  items_with_earn [] items kept = refl
  items_with_earn (e ∷ earned) [] kept = refl
  items_with_earn (e ∷ earned) (item ∷ items) [] = refl
  items_with_earn (e ∷ earned) (item ∷ items) (k ∷ kept) =
      ap₂ (λ x xs. (e || x) ∷ xs) (item_with_unlocks item e k) (items_with_earn earned items kept)

-- the events of the last frame, where exactly what is silent is kept as earned
pub events_with : (set : SetContents) (o : Opening) (earned : Earned) (image : List ℕ)
    → events set (with_earned o earned) (image ∷ []) earned ≡ events set o (image ∷ []) earned
events_with set o earned image = items_with_tell (start_of set o) image [] earned set.items o.items

-- what is earned after the last frame, where exactly what was earned before is kept as earned
pub earns_with : (set : SetContents) (o : Opening) (earned : Earned) (image : List ℕ)
    → earns set (with_earned o earned) (image ∷ []) earned ≡ earns set o (image ∷ []) earned
earns_with set o earned image = items_with_earn (start_of set o) image [] earned set.items o.items

-- what was earned or triggered before a frame, and is triggered after it, was earned before or unlocks there
triggered_unlocks : (earned before same after : Bool) → same ≡ before
    → ((earned || before) || after) ≡ ((earned || before) || (not same && after))
triggered_unlocks true before same after is = refl
triggered_unlocks false true same after is = refl
triggered_unlocks false false true after is = absurd (cc is)
triggered_unlocks false false false after is = refl

-- what is kept of an achievement is its trigger's, and whether it is earned
pub record IsKeptAchievement (kept : KeptItem) : Type 0 where
  pub earned : Bool
  pub trigger : TriggerKept
  pub is : kept ≡ kept_achievement earned trigger

-- what an item is seen to keep: an achievement's, or what is never earned
abbrev pub IsSeen : ItemContents → KeptItem → Type 0
IsSeen (Unlocks id t) kept = IsKeptAchievement kept
IsSeen (Ranks id format b) kept = is_earned kept ≡ false

-- what each item is seen to keep
abbrev pub AreSeen : List ItemContents → List KeptItem → Type 0
AreSeen items kept = AreBeside IsSeen items kept

-- what items have earned after a frame
module _ (start : Start) (image : List ℕ) where
  seen_earns : (item : ItemContents) (kept : KeptItem) → IsSeen item kept → is_earned (item_after
      start (image ∷ []) (item, kept)) ≡ (is_earned kept || unlocks start image [] (item, kept))
  seen_earns (Unlocks id t) kept seen =
      let earned = seen.earned in
      let k = seen.trigger in
      subst (λ kept. is_earned (item_after start (image ∷ []) (Unlocks id t, kept))
      ≡ (is_earned kept || unlocks start image [] (Unlocks id t, kept))) (sym seen.is)
      (let opened : TriggerKept = opened_achievement (kept_achievement earned k) in
      triggered_unlocks earned (is_triggered k.state) (is_triggered opened.state)
      (is_triggered (achievement_after start t opened (image ∷ [])).state)
      (ap (λ (t : TriggerKept). is_triggered t.state) (achievement_again earned k)))
  seen_earns (Ranks id format b) kept is = sym (ap (λ e. e || false) is)

  pub runs_earn : (items : List ItemContents) (kept : List KeptItem) → AreSeen items kept
      → map is_earned (map (item_after start (image ∷ [])) (zip items kept))
      ≡ both_earned (map is_earned kept) (map (unlocks start image []) (zip items kept))
  runs_earn [] [] are = refl
  runs_earn [] (k ∷ kept) are = absurd are
  runs_earn (item ∷ items) [] are = absurd are
  runs_earn (item ∷ items) (k ∷ kept) are = ap₂ (λ x xs. x ∷ xs) (seen_earns item k are.0) (runs_earn items kept are.1)
