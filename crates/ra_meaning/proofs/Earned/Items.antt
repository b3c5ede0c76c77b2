-- What is earned, one answer beside each item, and the law that it holds what is triggered and only grows.
use Rattle.std.proofs.Common.{◌≡◌, ℕ, ◌&&◌, ◌||◌, not, Bool, true, false, List, [], ◌∷◌, length, map, zip, refl, sym}
use Rattle.std.proofs.Common.{ap, ap₂, arith}
use Rattle.ra_memory.specs.Image.{History}
use Rattle.ra_memref.specs.Values.{Start}
use Rattle.ra_trigger.specs.declared.state.State.{State}
use Rattle.ra_trigger.specs.declared.state.State.TheVariants.{Waiting, Active, Paused, Primed, Triggered}
use Rattle.ra_trigger.specs.States.{state_byte, is_triggered}
use Rattle.ra_trigger.specs.Steps.{TriggerKept}
use Rattle.ra_set.specs.Contents.{ItemContents, Unlocks, Ranks, SetContents}
use Rattle.ra_progress.specs.declared.shape.ItemShape.{ItemShape}
use Rattle.ra_progress.specs.declared.shape.ItemShape.TheVariants as shapes
use Rattle.ra_progress.specs.Contents.{KeptItem, OfAchievement, OfBoard, Opening, ItemsFit, IsOpening, plain_item}
use Rattle.ra_meaning.specs.Earned.{Earned, HoldsTriggered, HoldTriggered, IsEarnedToo, is_earned, items_with}
use Rattle.ra_meaning.specs.Earned.{with_earned, both_earned, earned_in}
use Rattle.ra_meaning.specs.EarnedLaws.{StayEarned}
use Rattle.ra_meaning.specs.Histories.{achievement_after}
use Rattle.ra_meaning.specs.Openings.{start_of, opened_achievement, item_after}
use Rattle.ra_meaning.specs.Order.{item_shape, shape_of}
use Rattle.ra_meaning.specs.Play.{unlocks}

-- what is one of two
or_true : (a b : Bool) → b ≡ true → (a || b) ≡ true
or_true true b is = refl
or_true false b is = is

or_false : (a : Bool) → a ≡ false → (a || false) ≡ false
or_false true is = is
or_false false is = refl

or_again : (a b : Bool) → ((a || b) || a) ≡ (a || b)
or_again true b = refl
or_again false true = refl
or_again false false = refl

-- only the byte of triggered is 4
byte_triggered : (s : State) → is_triggered s ≡ true → state_byte s ≡ 4
byte_triggered Waiting is = absurd (cc is)
byte_triggered Active is = absurd (cc is)
byte_triggered Paused is = absurd (cc is)
byte_triggered Primed is = absurd (cc is)
byte_triggered Triggered is = refl

triggered_byte : (s : State) → state_byte s ≡ 4 → is_triggered s ≡ true
triggered_byte Waiting is = absurd (omega (arith, is))
triggered_byte Active is = absurd (omega (arith, is))
triggered_byte Paused is = absurd (omega (arith, is))
triggered_byte Primed is = absurd (omega (arith, is))
triggered_byte Triggered is = refl

-- what is triggered after a frame was earned before it, or unlocks there
unlocked : (earned before after : Bool) → (before ≡ true → earned ≡ true) → after ≡ true
    → (earned || (not before && after)) ≡ true
unlocked true before after was is = refl
unlocked false true after was is = was refl
unlocked false false after was is = is

-- exactly the answers that are put beside items are read off them
pub items_same : (earned : Earned) (items : List KeptItem) → HoldTriggered earned items
    → map is_earned (items_with earned items) ≡ earned
items_same [] [] hold = refl
items_same [] (item ∷ items) hold = absurd hold
items_same (e ∷ earned) [] hold = absurd hold
items_same (e ∷ earned) (OfAchievement state measured hits old ∷ items) hold =
    ap (λ es. e ∷ es) (items_same earned items hold.1)
items_same (e ∷ earned) (OfBoard state hits numbers ∷ items) hold =
    ap₂ (λ x xs. x ∷ xs) (sym hold.0) (items_same earned items hold.1)

-- answers put beside items take the place of those before
pub items_again : (earned before : Earned) (items : List KeptItem) → HoldTriggered before items
    → items_with earned (items_with before items) ≡ items_with earned items
items_again [] before items hold = refl
items_again (e ∷ earned) [] [] hold = refl
items_again (e ∷ earned) [] (item ∷ items) hold = absurd hold
items_again (e ∷ earned) (b ∷ before) [] hold = absurd hold
items_again (e ∷ earned) (b ∷ before) (OfAchievement state measured hits old ∷ items) hold =
    ap (λ xs. OfAchievement state measured hits e ∷ xs) (items_again earned before items hold.1)
items_again (e ∷ earned) (b ∷ before) (OfBoard state hits numbers ∷ items) hold =
    ap (λ xs. OfBoard state hits numbers ∷ xs) (items_again earned before items hold.1)

-- items with these answers fit as they did
pub items_with_fit : (shapes : List ItemShape) (earned : Earned) (items : List KeptItem)
    → ItemsFit shapes items → HoldTriggered earned items → ItemsFit shapes (items_with earned items)
items_with_fit [] [] [] fit hold = tt
items_with_fit [] (e ∷ earned) [] fit hold = absurd hold
items_with_fit [] earned (item ∷ items) fit hold = absurd fit
items_with_fit (shape ∷ shapes) earned [] fit hold = absurd fit
items_with_fit (shape ∷ shapes) [] (item ∷ items) fit hold = absurd hold
items_with_fit (shapes.Achievement count ∷ shapes) (e ∷ earned)
    (OfAchievement state measured hits old ∷ items) fit hold =
    ((fit.0.0, hold.0, fit.0.2, fit.0.3), items_with_fit shapes earned items fit.1 hold.1)
items_with_fit (shapes.Achievement count ∷ shapes) (e ∷ earned)
    (OfBoard state hits numbers ∷ items) fit hold = absurd fit.0
items_with_fit (shapes.Leaderboard count parts ∷ shapes) (e ∷ earned)
    (OfAchievement state measured hits old ∷ items) fit hold = absurd fit.0
items_with_fit (shapes.Leaderboard count parts ∷ shapes) (e ∷ earned) (OfBoard state hits numbers ∷ items) fit hold =
    (fit.0, items_with_fit shapes earned items fit.1 hold.1)

-- items that fit have earned what is triggered
pub fit_hold : (shapes : List ItemShape) (items : List KeptItem) → ItemsFit shapes items
    → HoldTriggered (map is_earned items) items
fit_hold [] [] fit = tt
fit_hold [] (item ∷ items) fit = absurd fit
fit_hold (shape ∷ shapes) [] fit = absurd fit
fit_hold (shapes.Achievement count ∷ shapes)
    (OfAchievement state measured hits earned ∷ items) fit = (fit.0.1, fit_hold shapes items fit.1)
fit_hold (shapes.Achievement count ∷ shapes) (OfBoard state hits numbers ∷ items) fit = absurd fit.0
fit_hold (shapes.Leaderboard count parts ∷ shapes) (OfAchievement state measured hits earned ∷ items) fit = absurd fit.0
fit_hold (shapes.Leaderboard count parts ∷ shapes) (OfBoard state hits numbers ∷ items) fit =
    (refl, fit_hold shapes items fit.1)

-- what was earned is among what is earned in the one or in the other
pub earned_stays : (earned others : Earned) → IsEarnedToo earned (both_earned earned others)
earned_stays [] others = refl
earned_stays (e ∷ earned) [] = refl
earned_stays (e ∷ earned) (o ∷ others) = ap₂ (λ x xs. x ∷ xs) (or_again e o) (earned_stays earned others)

-- what is earned beside others of the same items holds what is triggered in these
pub said_hold : (shapes : List ItemShape) (olds said : List KeptItem) → ItemsFit shapes olds
    → ItemsFit shapes said
    → HoldTriggered (both_earned (map is_earned olds) (map is_earned said)) said
said_hold [] [] [] old fit = tt
said_hold [] [] (item ∷ said) old fit = absurd fit
said_hold [] (item ∷ olds) said old fit = absurd old
said_hold (shape ∷ shapes) [] said old fit = absurd old
said_hold (shape ∷ shapes) (item ∷ olds) [] old fit = absurd fit
said_hold (shapes.Achievement count ∷ shapes) (OfAchievement s m h before ∷ olds)
    (OfAchievement state measured hits earned ∷ said) old fit =
    ((λ four. or_true before earned (fit.0.1 four)), said_hold shapes olds said old.1 fit.1)
said_hold (shapes.Achievement count ∷ shapes) (OfBoard s h n ∷ olds) said old fit = absurd old.0
said_hold (shapes.Achievement count ∷ shapes) (OfAchievement s m h before ∷ olds)
    (OfBoard state hits numbers ∷ said) old fit = absurd fit.0
said_hold (shapes.Leaderboard count parts ∷ shapes) (OfAchievement s m h before ∷ olds) said old fit = absurd old.0
said_hold (shapes.Leaderboard count parts ∷ shapes) (OfBoard s h n ∷ olds)
    (OfAchievement state measured hits earned ∷ said) old fit = absurd fit.0
said_hold (shapes.Leaderboard count parts ∷ shapes) (OfBoard s h n ∷ olds) (OfBoard state hits numbers ∷ said) old fit =
    (refl, said_hold shapes olds said old.1 fit.1)

-- after a frame what was earned, with what unlocks there, holds what is triggered
module _ (start : Start) (image : List ℕ) (earlier : History) where
  item_holds : (item : ItemContents) (opened : KeptItem) (earned : Bool)
      → HoldsTriggered earned (item_after start earlier (item, opened))
      → HoldsTriggered (earned || unlocks start image earlier (item, opened))
      (item_after start (image ∷ earlier) (item, opened))
  item_holds (Unlocks id t) opened earned hold =
      let before : TriggerKept = achievement_after start t (opened_achievement opened) earlier in
      let after : TriggerKept = achievement_after start t (opened_achievement opened) (image ∷ earlier) in
      λ four. unlocked earned (is_triggered before.state) (is_triggered after.state)
      (λ was. hold (byte_triggered before.state was)) (triggered_byte after.state four)
  item_holds (Ranks id format b) opened earned hold = or_false earned hold

  pub frame_holds : (items : List ItemContents) (opened : List KeptItem) (earned : Earned)
      → HoldTriggered earned (map (item_after start earlier) (zip items opened))
      → HoldTriggered (both_earned earned (map (unlocks start image earlier) (zip items opened)))
      (map (item_after start (image ∷ earlier)) (zip items opened))
  frame_holds [] opened [] hold = tt
  frame_holds [] opened (e ∷ earned) hold = absurd hold
  frame_holds (item ∷ items) [] [] hold = tt
  frame_holds (item ∷ items) [] (e ∷ earned) hold = absurd hold
  frame_holds (item ∷ items) (k ∷ opened) [] hold = absurd hold
  frame_holds (item ∷ items) (k ∷ opened) (e ∷ earned) hold =
      (item_holds item k e hold.0, frame_holds items opened earned hold.1)

-- in the plain opening nothing is earned
plain_earned : (items : List ItemContents) → map is_earned (map plain_item (map item_shape items))
    ≡ map (λ item. false) items
plain_earned [] = refl
plain_earned (Unlocks id t ∷ items) = ap (λ es. false ∷ es) (plain_earned items)
plain_earned (Ranks id format b ∷ items) = ap (λ es. false ∷ es) (plain_earned items)

-- an opening with exactly these achievements earned
pub opening_with : (set : SetContents) (o : Opening) (earned : Earned) → IsOpening (shape_of set) o
    → HoldTriggered earned o.items → IsOpening (shape_of set) (with_earned o earned)
opening_with set o earned is hold = record {
  frames = is.frames;
  cells = is.cells;
  priors = is.priors;
  items = items_with_fit (map item_shape set.items) earned o.items is.items hold;
  presence = is.presence;
}

pub stay_earned : (set : SetContents) → StayEarned set
stay_earned set = record {
  plain = plain_earned set.items;
  opening = λ o is. fit_hold (map item_shape set.items) o.items is.items;
  kept = λ o earned is hold. record {
    opening = opening_with set o earned is hold;
    same = items_same earned o.items hold;
  };
  frame = λ o history image earned hold. record {
    stays = earned_stays earned (map (unlocks (start_of set o) image history) (zip set.items o.items));
    holds = frame_holds (start_of set o) image history set.items o.items earned hold;
  };
  restore = λ old said is fits. record {
    stays = earned_stays (earned_in old) (earned_in said);
    holds = said_hold (map item_shape set.items) old.items said.items is.items fits.items;
  };
}
