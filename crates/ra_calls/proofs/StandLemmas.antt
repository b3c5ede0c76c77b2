-- What a game keeps has stood, after each call.
use Rattle.std.proofs.Common.{◌≡◌, ◌≤◌, ◌∙◌, ℕ, None, refl, List, [], ◌∷◌, length, map, sym, ap, subst, arith}
use Rattle.std.specs.Prelude.{OnOk, OnErr}
use Rattle.std.specs.declared.result.Result.{Result}
use Rattle.std.specs.declared.result.Result.TheVariants.{Ok, Err}
use Rattle.ra_memory.specs.Image.{AreBytes}
use Rattle.ra_set.specs.Contents.{SetContents}
use Rattle.ra_set.specs.Spelled.{IsSpelled}
use Rattle.ra_progress.specs.Contents.{IsOpening, KeptItem, OfAchievement, OfBoard, Opening}
use Rattle.ra_progress.specs.Laws.{IsShape}
use Rattle.ra_progress.specs.Reading.{refusal}
use Rattle.ra_progress.specs.Saying.{says}
use Rattle.ra_progress.specs.declared.refused.ProgressRefused.{ProgressRefused}
use Rattle.ra_progress.proofs.Checks.{none_accepted}
use Rattle.ra_progress.proofs.SaysOpening.{says_opening}
use Rattle.ra_meaning.specs.Earned.{Earned, earned_in, is_earned, items_with, with_earned}
use Rattle.ra_meaning.specs.Openings.{plain_opening, snapshot}
use Rattle.ra_meaning.specs.Order.{shape_of}
use Rattle.ra_meaning.specs.declared.event.Event.{Event}
use Rattle.ra_meaning.proofs.Openings.Snapshots.{has_lines, opening_comes_back, plain_is_opening, snapshot_none}
use Rattle.ra_runtime.specs.Courses.{CourseSeen, EarnsToo, IsBegun, TakesImage}
use Rattle.ra_runtime.specs.Keeping.{Takes}
use Rattle.ra_runtime.proofs.EarnedCourses.{stands_too}
use Rattle.ra_calls.specs.Answers.{IsFirst}
use Rattle.ra_calls.specs.Most.{most_events}
use Rattle.ra_calls.specs.Standing.{HasStood, IsStanding}
use Rattle.ra_calls.proofs.MostLemmas.{few-events}
use Rattle.ra_calls.proofs.Taken.{TakesOver}

-- items with what is earned of them are these
own_items : (items : List KeptItem) → items_with (map is_earned items) items ≡ items
own_items [] = refl
own_items (OfAchievement state measured hits earned ∷ items) =
    ap (λ xs. OfAchievement state measured hits earned ∷ xs) (own_items items)
own_items (OfBoard state hits numbers ∷ items) = ap (λ xs. OfBoard state hits numbers ∷ xs) (own_items items)

-- an opening stands before the first frame
opening_stood : (set : SetContents) (o : Opening) → IsOpening (shape_of set) o → HasStood set o
opening_stood set o opens =
    let own : with_earned o (earned_in o) ≡ o = λ i. record o { items = own_items o.items i } in
    record {
      opening = o;
      history = [];
      opens = opens;
      images = tt;
      stands = sym own ∙ ap (λ k. with_earned k (earned_in o)) (sym (snapshot_none set o opens));
    }

-- what has stood has with whatever is earned
stood_with : (set : SetContents) (kept : Opening) (earned : Earned) → HasStood set kept
    → HasStood set (with_earned kept earned)
stood_with set kept earned stood = record {
  opening = stood.opening;
  history = stood.history;
  opens = stood.opens;
  images = stood.images;
  stands = stands_too kept (snapshot set stood.opening stood.history) earned stood.stands;
}

-- no events are few
none_few : (events : List Event) (most : ℕ) → events ≡ [] → length events ≤ most
none_few events most none = omega (arith, ap length none)

-- a course that was begun stands
pub begun_stands : (set : SetContents) (size : ℕ) (course : CourseSeen) → IsSpelled course.set
    → IsBegun set size course → IsStanding course
begun_stands set size course spelled begun =
    let plain = ap plain_opening (sym begun.set_too) in
    record {
      stood = subst (HasStood course.set) (sym (begun.kept ∙ plain))
          (opening_stood course.set (plain_opening course.set) (plain_is_opening course.set spelled));
      few = none_few course.events _ begun.events;
    }

-- after a frame it stands one image on
pub framed_stands : (image : List ℕ) (old new : CourseSeen) → AreBytes image → IsStanding old
    → TakesImage old new image → IsStanding new
framed_stands image old new fit standing takes =
    let at = standing.stood in
    let taken = takes.frame in
    let same = taken.set in
    let events = taken.events at.opening at.history at.opens at.images at.stands in
    let few = few-events old.set at.opening (image ∷ at.history) (earned_in old.kept) in
    let most = ap (λ (s : SetContents). most_events s.items) same in
    record {
      stood = record {
        opening = at.opening;
        history = image ∷ at.history;
        opens = subst (λ (s : SetContents). IsOpening (shape_of s) at.opening) (sym same) at.opens;
        images = (fit, at.images);
        stands = taken.kept at.opening at.history at.opens at.images at.stands;
      };
      few = omega (arith, few, ap length events, most);
    }

-- after more is earned it stands where it did
pub earned_stands : (old new : CourseSeen) (earned : Earned) → EarnsToo old new earned → IsStanding old
    → IsStanding new
earned_stands old new earned earns standing =
    subst IsStanding (sym earns.rest)
    (record { stood = stood_with old.set old.kept _ standing.stood; few = standing.few })

-- what has stood is taken up, whatever is earned
taken_stands : (old new : CourseSeen) (kept : Opening) (earned : Earned) → HasStood old.set kept
    → new.set ≡ old.set → new.kept ≡ with_earned kept earned → new.events ≡ [] → IsStanding new
taken_stands old new kept earned stood same is none =
    record {
      stood = subst (λ (s : SetContents). HasStood s new.kept) (sym same)
          (subst (HasStood old.set) (sym is) (stood_with old.set kept earned stood));
      few = none_few new.events _ none;
    }

-- after a take
pub kept_stands : (old new : CourseSeen) (kept : Opening) → HasStood old.set kept → Takes old new kept
    → IsStanding new
kept_stands old new kept stood takes = taken_stands old new kept _ stood takes.set takes.kept takes.events

-- what accepted bytes say is an opening
pub said_opens : (set : SetContents) (bytes : List ℕ) → AreBytes bytes → IsSpelled set → IsShape (shape_of set)
    → refusal (shape_of set) bytes ≡ None → IsOpening (shape_of set) (says (shape_of set) bytes)
said_opens set bytes fit spelled shape none =
    let accepted = none_accepted (shape_of set) bytes none in
    says_opening bytes fit (shape_of set) shape.paired (has_lines set spelled) accepted

-- and so is what those before the first frame say
pub first_opens : (set : SetContents) (bytes : List ℕ) → IsFirst set bytes → IsSpelled set → IsShape (shape_of set)
    → IsOpening (shape_of set) (says (shape_of set) bytes)
first_opens set bytes first spelled shape =
    let plain = plain_is_opening set spelled in
    let back = opening_comes_back set (plain_opening set) shape plain in
    subst (IsOpening (shape_of set)) (sym (ap (says (shape_of set)) first.is ∙ back.1)) plain

-- after a restore, also one that is refused
pub restored_stands : (result : Result (Unit {0}) ProgressRefused) (old new : CourseSeen) (bytes : List ℕ)
    → OnOk result (IsOpening (shape_of old.set) (says (shape_of old.set) bytes))
    → OnOk result (TakesOver bytes old new) → OnErr result (new ≡ old) → IsStanding old → IsStanding new
restored_stands (Ok done) old new bytes opens takes stays standing =
    let up = takes [] in
    let said = says (shape_of old.set) bytes in
    taken_stands old new said _ (opening_stood old.set said opens) up.set up.kept up.events
restored_stands (Err why) old new bytes opens takes stays standing = subst IsStanding (sym stays) standing

-- what holds of what came holds, in other words
pub on_ok : {V E : Type 0} (result : Result V E) (P Q : Type 0) → (P → Q) → OnOk result P → OnOk result Q
on_ok (Ok v) P Q turns p = turns p
on_ok (Err e) P Q turns p = tt
