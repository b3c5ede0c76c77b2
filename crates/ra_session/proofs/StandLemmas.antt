-- A player at the moments of a trace.
use Rattle.std.proofs.Common.{arith, ◌≡◌, ◌≤◌, ◌+◌, ap, sym, subst, refl, ◌∙◌, ℕ, zero, suc, slice_index_or, slice_set}
use Rattle.std.proofs.Common.{replicate, length, take, drop, map, zip, option_map, IfSome, Option, Some, None, List, []}
use Rattle.std.proofs.Common.{◌∷◌, ◌++◌}
use Rattle.std.specs.Global.{Vec}
use Rattle.ra_memory.specs.Image.{History, AreBytes, AreImages, written}
use Rattle.ra_set.specs.Contents.{SetContents}
use Rattle.ra_progress.specs.Contents.{Opening, IsOpening}
use Rattle.ra_progress.specs.Spelling.{progress_bytes}
use Rattle.ra_progress.specs.Laws.{IsShape}
use Rattle.ra_progress.specs.Reading.{refusal}
use Rattle.ra_progress.specs.Saying.{says}
use Rattle.ra_trace.specs.declared.record.Record.{Record}
use Rattle.ra_trace.specs.Entries.{entry_of, Written, Framed, Saved, Restored, Shown, Ended}
use Rattle.ra_trace.proofs.Looking.{if_some}
use Rattle.ra_meaning.specs.Runtime.{RuntimeSeen, IsMade, IsWritten, ShowsKept, StandsAfter, TakesFrame, TakesUp}
use Rattle.ra_meaning.specs.Order.{shape_of}
use Rattle.ra_meaning.specs.Earned.{Earned, HoldTriggered, both_earned, earned_in, none_earned, with_earned}
use Rattle.ra_meaning.specs.Openings.{start_of, snapshot, plain_opening}
use Rattle.ra_meaning.specs.Play.{Moment, moved, lines, unlocks, earns, shown, first_moment, kept_in}
use Rattle.ra_replay.specs.Left.{IsEmptySlot}
use Rattle.ra_session.specs.declared.player.Player.{Player}
use Rattle.ra_runtime.specs.Keeping.{KeptSeen, IsKeptFor, Takes, course_of}
use Rattle.ra_meaning.proofs.Earned.Items.{opening_with}
use Rattle.ra_meaning.proofs.Openings.Snapshots.{plain_is_opening, opening_comes_back, snapshot_fits}
use Rattle.ra_session.specs.Loading.{AreAccepted, BeginsAt}
use Rattle.ra_session.proofs.EarnedLemmas.{earned_self, earned_later, kept_earned, earns_hold, save_holds}
use Rattle.ra_session.proofs.EarnedLemmas.{restored_with, none_and_file, opened_with, opened_holds, plain_earned}
use Rattle.ra_session.specs.Playing.{StandsAt, IsPlayable, IsSaveOf, HoldsKept, HoldEachKept, TakesUpFrom, Plays}
use Rattle.ra_session.specs.Playing.{HoldsState}

zero_bytes : (n : ℕ) → AreBytes (replicate n 0)
zero_bytes zero = tt
zero_bytes (suc n) = (omega arith, zero_bytes n)

module _ (set : SetContents) (o : Opening) (earned : Earned) where
  hold_at : (kepts : List (Option History)) (slots : List (Option KeptSeen))
      → HoldEachKept set o earned kepts slots → (k : ℕ)
      → HoldsKept set o earned (slice_index_or kepts k None) (slice_index_or slots k None)
  hold_at [] [] held k = tt
  hold_at (kept ∷ kepts) (bytes ∷ slots) held zero = held.0
  hold_at (kept ∷ kepts) (bytes ∷ slots) held (suc k) = hold_at kepts slots held.1 k
  hold_at [] (bytes ∷ slots) held k = absurd held
  hold_at (kept ∷ kepts) [] held k = absurd held

  hold_set : (kepts : List (Option History)) (slots : List (Option KeptSeen))
      → HoldEachKept set o earned kepts slots → (k : ℕ) (kept : History) (bytes : KeptSeen)
      → HoldsKept set o earned (Some kept) (Some bytes)
      → HoldEachKept set o earned (slice_set kepts k (Some kept)) (slice_set slots k (Some bytes))
  hold_set [] [] held k kept bytes holds = tt
  hold_set (old ∷ kepts) (was ∷ slots) held zero kept bytes holds = (holds, held.1)
  hold_set (old ∷ kepts) (was ∷ slots) held (suc k) kept bytes holds =
      (held.0, hold_set kepts slots held.1 k kept bytes holds)
  hold_set [] (was ∷ slots) held k kept bytes holds = absurd held
  hold_set (old ∷ kepts) [] held k kept bytes holds = absurd held

  -- past the last slot nothing is kept
  hold_past : (kepts : List (Option History)) (slots : List (Option KeptSeen))
      → HoldEachKept set o earned kepts slots → (k : ℕ) (kept : Option History) → length slots ≤ k
      → HoldEachKept set o earned (slice_set kepts k kept) slots
  hold_past [] [] held k kept past = tt
  hold_past (old ∷ kepts) (was ∷ slots) held zero kept past = absurd (omega (arith, past))
  hold_past (old ∷ kepts) (was ∷ slots) held (suc k) kept past =
      (held.0, hold_past kepts slots held.1 k kept (omega (arith, past)))
  hold_past [] (was ∷ slots) held k kept past = absurd held
  hold_past (old ∷ kepts) [] held k kept past = absurd held

  hold_none : (n : ℕ) → HoldEachKept set o earned (replicate n None) (replicate n None)
  hold_none zero = tt
  hold_none (suc n) = (tt, hold_none n)

-- slots hold what they have kept when more is earned
hold_more : (set : SetContents) (o : Opening) (earned others : Earned)
    (kepts : List (Option History)) (slots : List (Option KeptSeen)) → HoldEachKept set o earned
    kepts slots → HoldEachKept set o (both_earned earned others) kepts slots
hold_more set o earned others [] [] held = tt
hold_more set o earned others [] (bytes ∷ slots) held = absurd held
hold_more set o earned others (kept ∷ kepts) [] held = absurd held
hold_more set o earned others (None ∷ kepts) (None ∷ slots) held =
    (tt, hold_more set o earned others kepts slots held.1)
hold_more set o earned others (None ∷ kepts) (Some bytes ∷ slots) held = absurd held.0
hold_more set o earned others (Some kept ∷ kepts) (None ∷ slots) held = absurd held.0
hold_more set o earned others (Some kept ∷ kepts) (Some state ∷ slots) held =
    let save : IsSaveOf set o kept earned state = held.0 in (
      record {
        before = save.before;
        images = save.images;
        holds = save.holds;
        still = earned_later save.before earned others save.still;
        of_set = save.of_set;
        is = save.is;
      },
      hold_more set o earned others kepts slots held.1,
    )

-- a save keeps what stands behind in its slot
pub stands_saved : (set : SetContents) (o : Opening) (m : Moment) (earned : Earned)
    (runtime : RuntimeSeen) (slots : List (Option KeptSeen)) (k : ℕ) (state : Option KeptSeen)
    → HoldsState runtime state
    → StandsAt set o m earned runtime slots
    → StandsAt set o (moved (Saved k) m) earned runtime (slice_set slots k state)
stands_saved set o m earned runtime slots k None keeps stands = absurd keeps
stands_saved set o m earned runtime slots k (Some state) keeps stands = record {
  same = stands.same;
  playable = stands.playable;
  shape = stands.shape;
  opening = stands.opening;
  image = stands.image;
  bytes = stands.bytes;
  behind = stands.behind;
  kept = stands.kept;
  holds = stands.holds;
  held = hold_set set o earned m.slots slots stands.held k m.behind state (record {
    before = earned;
    images = stands.behind;
    holds = stands.holds;
    still = earned_self earned;
    of_set = subst (λ (s : SetContents). IsKeptFor (shape_of s) state) stands.same keeps.0;
    is = keeps.1 ∙ stands.kept;
  });
}

pub stands_past : (set : SetContents) (o : Opening) (m : Moment) (earned : Earned)
    (runtime : RuntimeSeen) (slots : List (Option KeptSeen)) (k : ℕ) → length slots ≤ k
    → StandsAt set o m earned runtime slots → StandsAt set o (moved (Saved k) m) earned runtime slots
stands_past set o m earned runtime slots k past stands = record {
  same = stands.same;
  playable = stands.playable;
  shape = stands.shape;
  opening = stands.opening;
  image = stands.image;
  bytes = stands.bytes;
  behind = stands.behind;
  kept = stands.kept;
  holds = stands.holds;
  held = hold_past set o earned m.slots slots stands.held k (Some m.behind) past;
}

-- the runtime of a moment stands after the frames behind it, and has earned what is earned there
stands_after : (o : Opening) (m : Moment) (earned : Earned) (runtime : RuntimeSeen)
    (slots : List (Option KeptSeen)) → StandsAt runtime.set o m earned runtime slots
    → StandsAfter runtime o m.behind × (earned_in runtime.kept ≡ earned)
stands_after o m earned runtime slots stands =
    let now = kept_earned runtime.set o m.behind earned runtime.kept stands.holds stands.kept in
    (stands.kept ∙ ap (with_earned (snapshot runtime.set o m.behind)) (sym now), now)

-- a frame takes the player to the moment after it
own_frame : (old new : RuntimeSeen) (o : Opening) (m : Moment) (earned : Earned)
    (slots : List (Option KeptSeen)) → TakesFrame old new → StandsAt old.set o m earned old slots
    → StandsAt old.set o (moved Framed m) (earns old.set o (m.image ∷ m.behind) earned) new slots
    × (new.lines ≡ lines old.set o (m.image ∷ m.behind) earned)
own_frame old new o m earned slots takes stands =
    let after = stands_after o m earned old slots stands in
    let more : earned_in new.kept ≡ earns old.set o (m.image ∷ m.behind) earned =
    takes.earned o m.behind stands.opening stands.behind after.0
    ∙ (λ i. earns old.set o (stands.image i ∷ m.behind) (after.1 i)) in (
      record {
        same = takes.set;
        playable = stands.playable;
        shape = stands.shape;
        opening = stands.opening;
        image = takes.image ∙ stands.image;
        bytes = stands.bytes;
        behind = (stands.bytes, stands.behind);
        kept = takes.kept o m.behind stands.opening stands.behind after.0
            ∙ (λ i. with_earned (snapshot (takes.set i) o (stands.image i ∷ m.behind)) (more i));
        holds = earns_hold old.set o m.image m.behind earned stands.holds;
        held = hold_more old.set o earned (map (unlocks (start_of old.set o) m.image m.behind)
            (zip old.set.items o.items)) m.slots slots stands.held;
      },
      takes.lines o m.behind stands.opening stands.behind after.0
          ∙ (λ i. lines old.set o (stands.image i ∷ m.behind) (after.1 i)),
    )

pub plays_frame : (set : SetContents) (o : Opening) (m : Moment) (earned : Earned) (old
    new : RuntimeSeen) (slots : List (Option KeptSeen)) (text : List ℕ) → TakesFrame old new → text
    ≡ new.lines → StandsAt set o m earned old slots → Plays set o Framed m earned new slots text
plays_frame set o m earned old new slots text takes is stands =
    let framed = subst (λ (s : SetContents). StandsAt s o m earned old slots → StandsAt s o
    (moved Framed m) (earns s o (m.image ∷ m.behind) earned) new slots × (new.lines ≡ lines s o
    (m.image ∷ m.behind) earned)) stands.same (own_frame old new o m earned slots takes) stands in
    record { filled = λ no. no; stands = framed.0; prints = is ∙ framed.1 }

-- a show tells what the set shows over the frames that lie behind
own_show : (runtime : RuntimeSeen) (o : Opening) (m : Moment) (earned : Earned)
    (slots : List (Option KeptSeen)) (text : List ℕ) → ShowsKept runtime text
    → StandsAt runtime.set o m earned runtime slots → text ≡ shown runtime.set o m.behind
own_show runtime o m earned slots text shows stands =
    shows o m.behind stands.opening stands.behind (stands_after o m earned runtime slots stands).0

pub plays_show : (set : SetContents) (o : Opening) (m : Moment) (earned : Earned)
    (runtime : RuntimeSeen) (slots : List (Option KeptSeen)) (text : List ℕ) → ShowsKept runtime
    text → StandsAt set o m earned runtime slots → Plays set o Shown m earned runtime slots text
plays_show set o m earned runtime slots text shows stands = record {
  filled = λ no. no;
  stands = stands;
  prints = subst (λ (s : SetContents). StandsAt s o m earned runtime slots → text
      ≡ shown s o m.behind) stands.same (own_show runtime o m earned slots text shows) stands;
}

-- The bytes of what an opening and a history leave are accepted, and say it again.
pub record SavedComesBack (set : SetContents) (kept : Opening) : Type 0 where
  pub accepted : refusal (shape_of set) (progress_bytes (shape_of set) kept) ≡ None
  pub says_it : says (shape_of set) (progress_bytes (shape_of set) kept) ≡ kept

-- a slot that holds a state has kept some frames, and their state
pub record Keeps (set : SetContents) (o : Opening) (m : Moment) (earned : Earned) (k : ℕ)
    (state : KeptSeen) : Type 0 where
  pub kept : History
  pub is : slice_index_or m.slots k None ≡ Some kept
  pub save : IsSaveOf set o kept earned state

keeps_by : (set : SetContents) (o : Opening) (m : Moment) (earned : Earned) (k : ℕ)
    (state : KeptSeen) (kept : Option History) → slice_index_or m.slots k None ≡ kept
    → HoldsKept set o earned kept (Some state) → Keeps set o m earned k state
keeps_by set o m earned k state None is holds = absurd holds
keeps_by set o m earned k state (Some kept) is holds = record { kept = kept; is = is; save = holds }

pub keeps : (set : SetContents) (o : Opening) (m : Moment) (earned : Earned) (runtime : RuntimeSeen)
    (slots : List (Option KeptSeen)) (k : ℕ) (state : KeptSeen) → slice_index_or slots k None
    ≡ Some state → StandsAt set o m earned runtime slots → Keeps set o m earned k state
keeps set o m earned runtime slots k state some stands =
    keeps_by set o m earned k state _ refl (subst (HoldsKept set o earned
    (slice_index_or m.slots k None)) some (hold_at set o earned m.slots slots stands.held k))

-- a slot that keeps nothing is empty
empty_by : (set : SetContents) (o : Opening) (earned : Earned) (kept : Option History)
    → HoldsKept set o earned kept None → kept ≡ None
empty_by set o earned None holds = refl
empty_by set o earned (Some kept) holds = absurd holds

pub slot_empty : (set : SetContents) (o : Opening) (m : Moment) (earned : Earned)
    (runtime : RuntimeSeen) (slots : List (Option KeptSeen)) (k : ℕ) → slice_index_or slots k None
    ≡ None → StandsAt set o m earned runtime slots → IsEmptySlot (Restored k) m
slot_empty set o m earned runtime slots k none stands =
    empty_by set o earned _ (subst (HoldsKept set o earned (slice_index_or m.slots k None)) none
    (hold_at set o earned m.slots slots stands.held k))

-- a restore takes the frames of its slot up, and what is earned stays so
own_restore : (old new : RuntimeSeen) (o : Opening) (m : Moment) (earned : Earned)
    (slots : List (Option KeptSeen)) (k : ℕ) (state : KeptSeen) → Keeps old.set o m earned k state
    → Takes (course_of old) (course_of new) state.opening → new.image ≡ old.image
    → StandsAt old.set o m earned old slots
    → StandsAt old.set o (moved (Restored k) m) earned new slots
own_restore old new o m earned slots k state keep takes image stands =
    let save = keep.save in
    let now = (stands_after o m earned old slots stands).1 in
    let still : both_earned (earned_in old.kept) save.before ≡ earned =
    ap (λ es. both_earned es save.before) now ∙ save.still in
    let behind : keep.kept ≡ kept_in (slice_index_or m.slots k None) m.behind =
    ap (λ kept. kept_in kept m.behind) (sym keep.is) in
    record {
      same = takes.set;
      playable = stands.playable;
      shape = stands.shape;
      opening = stands.opening;
      image = image ∙ stands.image;
      bytes = stands.bytes;
      behind = subst AreImages behind save.images;
      kept = takes.kept ∙ restored_with old.set o keep.kept save.before earned
          (earned_in old.kept) state.opening save.holds still save.is
          ∙ ap (λ kept. with_earned (snapshot old.set o kept) earned) behind;
      holds = subst (λ kept. HoldTriggered earned (snapshot old.set o kept).items) behind
          (save_holds old.set o m.behind keep.kept save.before earned stands.holds save.holds
          save.still);
      held = stands.held;
    }

pub stands_restored : (set : SetContents) (o : Opening) (m : Moment) (earned : Earned)
    (old new : RuntimeSeen) (slots : List (Option KeptSeen)) (k : ℕ) (state : KeptSeen)
    → slice_index_or slots k None ≡ Some state
    → Takes (course_of old) (course_of new) state.opening → new.image ≡ old.image
    → StandsAt set o m earned old slots → StandsAt set o (moved (Restored k) m) earned new slots
    × (IsEmptySlot (Restored k) m → ⊥)
stands_restored set o m earned old new slots k state some takes image stands =
    let keep = keeps set o m earned old slots k state some stands in
    let own = subst (λ (s : SetContents). Keeps s o m earned k state → StandsAt s o m earned old
    slots → StandsAt s o (moved (Restored k) m) earned new slots) stands.same (λ keep stands.
    own_restore old new o m earned slots k state keep takes image stands) in
    let other : IsEmptySlot (Restored k) m → ⊥ = λ no. let bad : None ≡ Some keep.kept =
    sym no ∙ keep.is in absurd (cc) in
    (own keep stands, other)

-- the state of a slot is of the runtime's set
pub of_own_set : (set : SetContents) (o : Opening) (m : Moment) (earned : Earned)
    (runtime : RuntimeSeen) (slots : List (Option KeptSeen)) (k : ℕ) (state : KeptSeen)
    → slice_index_or slots k None ≡ Some state → StandsAt set o m earned runtime slots
    → IsKeptFor (shape_of runtime.set) state
of_own_set set o m earned runtime slots k state some stands =
    subst (λ (s : SetContents). IsKeptFor (shape_of s) state) (sym stands.same)
    (keeps set o m earned runtime slots k state some stands).save.of_set

-- a slot that is filled is so with a state of the runtime's set
pub filled_for : (set : SetContents) (o : Opening) (m : Moment) (earned : Earned)
    (runtime : RuntimeSeen) (slots : List (Option KeptSeen)) (k : ℕ) → StandsAt set o m earned
    runtime slots → IfSome (slice_index_or slots k None) (IsKeptFor (shape_of runtime.set))
filled_for set o m earned runtime slots k stands =
    if_some (slice_index_or slots k None) (IsKeptFor (shape_of runtime.set))
    (λ state some. of_own_set set o m earned runtime slots k state some stands)

-- what a runtime keeps at a moment is an opening of its set
pub opening_at : (set : SetContents) (o : Opening) (m : Moment) (earned : Earned)
    (runtime : RuntimeSeen) (slots : List (Option KeptSeen)) → StandsAt set o m earned runtime slots
    → IsOpening (shape_of runtime.set) runtime.kept
opening_at set o m earned runtime slots stands =
    subst (λ (k : Opening). IsOpening (shape_of runtime.set) k) (sym stands.kept)
    (subst (λ (s : SetContents). IsOpening (shape_of s)
    (with_earned (snapshot set o m.behind) earned)) (sym stands.same)
    (opening_with set (snapshot set o m.behind) earned (snapshot_fits set o m.behind
    stands.playable.spelled stands.opening stands.behind) stands.holds))

-- what an opening and a history leave comes back from its bytes, whatever is earned beside what is triggered
pub comes_back_of : (set : SetContents) (o : Opening) (behind : History) (earned : Earned)
    → IsPlayable set → IsShape (shape_of set) → IsOpening (shape_of set) o → AreImages behind
    → HoldTriggered earned (snapshot set o behind).items
    → SavedComesBack set (with_earned (snapshot set o behind) earned)
comes_back_of set o behind earned playable shape opening images holds =
    let kept = snapshot set o behind in
    let back = opening_comes_back set (with_earned kept earned) shape (opening_with set kept earned
    (snapshot_fits set o behind playable.spelled opening images) holds) in
    record { accepted = back.0; says_it = back.1 }

-- accepted bytes are those that the runtime of a set takes up
pub accepted_for : (set : SetContents) (progress : Option (Vec ℕ)) (runtime : RuntimeSeen)
    → runtime.set ≡ set → AreAccepted set (option_map (λ b. b.items) progress)
    → IfSome progress (λ b. refusal (shape_of runtime.set) b.items ≡ None)
accepted_for set None runtime same accepted = tt
accepted_for set (Some bytes) runtime same accepted =
    ap (λ (s : SetContents). refusal (shape_of s) bytes.items) same ∙ accepted.2

-- before the first record of a run that begins anew
stands_anew : (set : SetContents) (size : ℕ) (runtime : RuntimeSeen)
    (slots : List (Option KeptSeen)) → IsPlayable set → IsShape (shape_of set)
    → IsMade set size runtime → slots ≡ replicate 16 None
    → StandsAt set (plain_opening set) (first_moment size []) (none_earned set) runtime slots
stands_anew set size runtime slots playable shape made none =
    let opening = plain_is_opening set playable.spelled in
    let plain = plain_opening set in
    record {
      same = made.set_too;
      playable = playable;
      shape = shape;
      opening = opening;
      image = made.image;
      bytes = zero_bytes size;
      behind = tt;
      kept = made.kept ∙ opened_with set plain opening ∙ ap (with_earned (snapshot set plain [])) (plain_earned set);
      holds = subst (λ es. HoldTriggered es (snapshot set plain []).items) (plain_earned set)
          (opened_holds set plain opening);
      held = subst (HoldEachKept set plain (none_earned set) (replicate 16 None)) (sym none)
          (hold_none set plain (none_earned set) 16);
    }

-- before the first record of a run that goes on from bytes that say what is kept after an opening and a history
stands_behind : (set : SetContents) (size : ℕ) (o : Opening) (behind : History) (earned : Earned)
    (bytes : List ℕ) (made runtime : RuntimeSeen) (slots : List (Option KeptSeen)) → IsPlayable set
    → IsShape (shape_of set) → IsMade set size made → TakesUp made runtime bytes
    → BeginsAt set (Some bytes) o behind earned → slots ≡ replicate 16 None
    → StandsAt set o (first_moment size behind) earned runtime slots
stands_behind set size o behind earned bytes made runtime slots playable shape is takes begins none =
    let nothing : earned_in made.kept ≡ none_earned set = ap earned_in is.kept ∙ plain_earned set in
    let still : both_earned (earned_in made.kept) earned ≡ earned = ap
    (λ es. both_earned es earned) nothing ∙ none_and_file set o behind earned begins.0 begins.2 in
    let said : says (shape_of made.set) bytes ≡ with_earned (snapshot set o behind) earned =
    ap (λ (s : SetContents). says (shape_of s) bytes) is.set_too ∙ begins.3 in
    record {
      same = takes.set ∙ is.set_too;
      playable = playable;
      shape = shape;
      opening = begins.0;
      image = takes.image ∙ is.image;
      bytes = zero_bytes size;
      behind = begins.1;
      kept = takes.kept ∙ restored_with set o behind earned earned (earned_in made.kept)
          (says (shape_of made.set) bytes) begins.2 still said;
      holds = begins.2;
      held = subst (HoldEachKept set o earned (replicate 16 None)) (sym none) (hold_none set o earned 16);
    }

-- before the first record, wherever a run begins
pub stands_first : (set : SetContents) (size : ℕ) (progress : Option (List ℕ)) (o : Opening)
    (behind : History) (earned : Earned) (made runtime : RuntimeSeen)
    (slots : List (Option KeptSeen)) → IsPlayable set → IsShape (shape_of set)
    → IsMade set size made → TakesUpFrom progress made runtime
    → BeginsAt set progress o behind earned → slots ≡ replicate 16 None
    → StandsAt set o (first_moment size behind) earned runtime slots
stands_first set size None o behind earned made runtime slots playable shape is takes begins none =
    subst (λ (k : Opening). StandsAt set k (first_moment size behind) earned runtime slots) (sym begins.0)
    (subst (λ (h : History). StandsAt set (plain_opening set) (first_moment size h) earned runtime slots) (sym begins.1)
    (subst (λ (e : Earned). StandsAt set (plain_opening set) (first_moment size []) e runtime slots) (sym begins.2)
    (subst (λ (r : RuntimeSeen). StandsAt set (plain_opening set) (first_moment size [])
    (none_earned set) r slots) (sym takes)
    (stands_anew set size made slots playable shape is none))))
stands_first set size (Some bytes) o behind earned made runtime slots playable shape is takes begins none =
    stands_behind set size o behind earned bytes made runtime slots playable shape is takes begins none
