-- What is earned at the moments of a run: it holds what is triggered, and what slots and files keep goes on with it.
use Rattle.std.proofs.Common.{◌≡◌, ℕ, ◌||◌, Bool, true, false, List, [], ◌∷◌, map, zip, refl, sym, ◌∙◌, ap, ap₂, subst}
use Rattle.ra_memory.specs.Image.{History}
use Rattle.ra_set.specs.Contents.{ItemContents, Unlocks, Ranks, SetContents}
use Rattle.ra_progress.specs.Contents.{KeptItem, OfAchievement, OfBoard, Opening, ItemsFit, IsOpening}
use Rattle.ra_meaning.specs.Earned.{Earned, HoldTriggered, IsEarnedToo, is_earned, items_with, with_earned, both_earned}
use Rattle.ra_meaning.specs.Earned.{earned_in, none_earned}
use Rattle.ra_meaning.specs.Openings.{start_of, item_after, snapshot, plain_opening}
use Rattle.ra_meaning.specs.Order.{item_shape, shape_of}
use Rattle.ra_meaning.specs.Play.{earns}
use Rattle.ra_meaning.proofs.Earned.Items.{items_same, items_again, fit_hold, frame_holds, stay_earned}
use Rattle.ra_meaning.proofs.Openings.Snapshots.{snapshot_none}

or_self : (a : Bool) → (a || a) ≡ a
or_self true = refl
or_self false = refl

-- what was earned is earned still
pub earned_self : (earned : Earned) → IsEarnedToo earned earned
earned_self [] = refl
earned_self (e ∷ earned) = ap₂ (λ x xs. x ∷ xs) (or_self e) (earned_self earned)

or_later : (a b less : Bool) → (a || less) ≡ a → ((a || b) || less) ≡ (a || b)
or_later true b less is = refl
or_later false true less is = refl
or_later false false less is = is

heads : (x y : Bool) (xs ys : Earned) → x ∷ xs ≡ y ∷ ys → (x ≡ y) × (xs ≡ ys)
heads x y xs ys same = (cc, cc)

-- and so it is when more is earned
pub earned_later : (less earned others : Earned) → IsEarnedToo less earned
    → IsEarnedToo less (both_earned earned others)
earned_later less [] others still = refl
earned_later less (e ∷ earned) [] still = refl
earned_later [] (e ∷ earned) (o ∷ others) still = absurd (let bad : [] ≡ e ∷ earned = still in cc)
earned_later (l ∷ less) (e ∷ earned) (o ∷ others) still =
    let each = heads (e || l) e (both_earned earned less) earned still in
    ap₂ (λ x xs. x ∷ xs) (or_later e o l each.0) (earned_later less earned others each.1)

or_is : (a less : Bool) → (a || less) ≡ a → less ≡ true → a ≡ true
or_is true less same is = refl
or_is false less same is = sym same ∙ is

-- what is earned holds what was triggered after the frames of a save whose earned achievements it has
pub hold_still : (set : SetContents) (o : Opening) (history other : History)
    (items : List ItemContents) (opened : List KeptItem) (before earned : Earned)
    → HoldTriggered earned (map (item_after (start_of set o) history) (zip items opened))
    → HoldTriggered before (map (item_after (start_of set o) other) (zip items opened))
    → IsEarnedToo before earned
    → HoldTriggered earned (map (item_after (start_of set o) other) (zip items opened))
hold_still set o history other [] opened before [] hold was still = tt
hold_still set o history other [] opened before (e ∷ earned) hold was still = absurd hold
hold_still set o history other (item ∷ items) [] before [] hold was still = tt
hold_still set o history other (item ∷ items) [] before (e ∷ earned) hold was still = absurd hold
hold_still set o history other (item ∷ items) (k ∷ opened) before [] hold was still = absurd hold
hold_still set o history other (item ∷ items) (k ∷ opened) [] (e ∷ earned) hold was still = absurd was
hold_still set o history other (Unlocks id t ∷ items) (k ∷ opened) (b ∷ before) (e ∷ earned) hold was still =
    let each = heads (e || b) e (both_earned earned before) earned still in (
      (λ four. or_is e b each.0 (was.0 four)),
      hold_still set o history other items opened before earned hold.1 was.1 each.1,
    )
hold_still set o history other (Ranks id format b' ∷ items) (k ∷ opened) (b ∷ before) (e ∷ earned) hold was still =
    let each = heads (e || b) e (both_earned earned before) earned still in
    (hold.0, hold_still set o history other items opened before earned hold.1 was.1 each.1)

-- an opening with what it has earned is itself
items_own : (items : List KeptItem) → items_with (map is_earned items) items ≡ items
items_own [] = refl
items_own (OfAchievement state measured hits earned ∷ items) =
    ap (λ xs. OfAchievement state measured hits earned ∷ xs) (items_own items)
items_own (OfBoard state hits numbers ∷ items) = ap (λ xs. OfBoard state hits numbers ∷ xs) (items_own items)

pub with_own : (o : Opening) → with_earned o (earned_in o) ≡ o
with_own o = λ i. record o { items = items_own o.items i }

-- beside nothing, what is earned of items is that
none_hold : (set : SetContents) (o : Opening) (history : History) (items : List ItemContents)
    (opened : List KeptItem) (earned : Earned) → ItemsFit (map item_shape items) opened
    → HoldTriggered earned (map (item_after (start_of set o) history) (zip items opened))
    → both_earned (map (λ item. false) items) earned ≡ earned
none_hold set o history [] opened [] fit hold = refl
none_hold set o history [] opened (e ∷ earned) fit hold = absurd hold
none_hold set o history (item ∷ items) [] earned fit hold = absurd fit
none_hold set o history (item ∷ items) (k ∷ opened) [] fit hold = absurd hold
none_hold set o history (item ∷ items) (k ∷ opened) (e ∷ earned) fit hold =
    ap (λ es. e ∷ es) (none_hold set o history items opened earned fit.1 hold.1)

module _ (set : SetContents) (o : Opening) where
  -- what is kept with these earned has earned these
  pub kept_earned : (history : History) (earned : Earned) (kept : Opening)
      → HoldTriggered earned (snapshot set o history).items → kept
      ≡ with_earned (snapshot set o history) earned → earned_in kept ≡ earned
  kept_earned history earned kept hold is = ap earned_in is ∙ items_same earned (snapshot set o history).items hold

  -- after a frame
  pub earns_hold : (image : List ℕ) (history : History) (earned : Earned)
      → HoldTriggered earned (snapshot set o history).items → HoldTriggered
      (earns set o (image ∷ history) earned) (snapshot set o (image ∷ history)).items
  earns_hold image history earned hold = frame_holds (start_of set o) image history set.items o.items earned hold

  -- after a restore of a save
  pub save_holds : (history kept : History) (before earned : Earned)
      → HoldTriggered earned (snapshot set o history).items → HoldTriggered before (snapshot set o
      kept).items → IsEarnedToo before earned → HoldTriggered earned (snapshot set o kept).items
  save_holds history kept before earned hold was still =
      hold_still set o history kept set.items o.items before earned hold was still

  -- what is restored over this is the save's, with what is earned now
  pub restored_with : (kept : History) (before earned now : Earned) (said : Opening)
      → HoldTriggered before (snapshot set o kept).items → both_earned now before ≡ earned → said
      ≡ with_earned (snapshot set o kept) before
      → with_earned said (both_earned now (earned_in said)) ≡ with_earned (snapshot set o kept) earned
  restored_with kept before earned now said was still is =
      let q = snapshot set o kept in
      ap (λ s. with_earned s (both_earned now (earned_in s))) is
      ∙ ap (λ es. with_earned (with_earned q before) (both_earned now es)) (items_same before q.items was)
      ∙ ap (with_earned (with_earned q before)) still
      ∙ (λ i. record q { items = items_again earned before q.items was i })

  -- over nothing earned, a file brings what it has earned
  pub none_and_file : (behind : History) (earned : Earned) → IsOpening (shape_of set) o
      → HoldTriggered earned (snapshot set o behind).items → both_earned (none_earned set) earned
      ≡ earned
  none_and_file behind earned is hold = none_hold set o behind set.items o.items earned is.items hold

  -- an opening stands after no frames, with what it has earned
  pub opened_with : IsOpening (shape_of set) o → o ≡ with_earned (snapshot set o []) (earned_in o)
  opened_with is = sym (with_own o) ∙ ap (λ k. with_earned k (earned_in o)) (sym (snapshot_none set o is))

  pub opened_holds : IsOpening (shape_of set) o → HoldTriggered (earned_in o) (snapshot set o []).items
  opened_holds is = subst (λ (k : Opening). HoldTriggered (earned_in o) k.items)
      (sym (snapshot_none set o is)) (fit_hold (map item_shape set.items) o.items is.items)

-- in the plain opening nothing is earned
pub plain_earned : (set : SetContents) → earned_in (plain_opening set) ≡ none_earned set
plain_earned set = (stay_earned set).plain
