-- What both sets have goes on in the changed one as if nothing had been changed.
use Rattle.std.proofs.Common.{◌≡◌, ◌≢◌, ℕ, zero, suc, Bool, true, false, Some, List, [], ◌∷◌, ◌++◌, length, map, zip}
use Rattle.std.proofs.Common.{refl, sym, ◌∙◌, ap, subst, length-append}
use Rattle.std.specs.List.{flat_map, slice_get}
use Rattle.ra_memory.specs.Image.{History, AreImages}
use Rattle.ra_indirect.specs.Trees.{Tree, cells_in, tracked_in}
use Rattle.ra_memref.specs.Values.{Start}
use Rattle.ra_set.specs.Accepted.{IsSet}
use Rattle.ra_set.specs.Contents.{ItemContents, SetContents}
use Rattle.ra_set.specs.Texts.{item_texts, script_text}
use Rattle.ra_progress.specs.declared.shape.ItemShape.{ItemShape}
use Rattle.ra_progress.specs.Contents.{KeptItem, Opening, ItemFits, ItemsFit, IsOpening}
use Rattle.ra_progress.specs.Reading.{IsAccepted}
use Rattle.ra_progress.specs.Spelling.{progress_bytes}
use Rattle.ra_member.proofs.GoingOn.{GoesOn, goes_on}
use Rattle.ra_member.proofs.Listed.{In_flat}
use Rattle.ra_meaning.specs.Changed.{NamesApart, HaveOneStart, kept_behind, taken_up, told_at, events_at, lines_at}
use Rattle.ra_meaning.specs.Changed.{ItemGoesOn, ScriptGoesOn, SetsGoOn}
use Rattle.ra_meaning.specs.declared.event.Event.{Event}
use Rattle.ra_meaning.specs.Earned.{Earned, is_earned, item_with, earned_in, items_with, HoldTriggered}
use Rattle.ra_meaning.specs.Lines.{event_lines}
use Rattle.ra_meaning.specs.Openings.{start_of, item_after, frames_after, snapshot}
use Rattle.ra_meaning.specs.Order.{item_shape, trees_in_item, trees_in_line, lines_in, shape_of}
use Rattle.ra_meaning.specs.Play.{item_events, unless_earned, shown_by}
use Rattle.ra_meaning.proofs.Openings.Agreeing.{value_agrees}
use Rattle.ra_meaning.proofs.Openings.Covered.{tree_alike}
use Rattle.ra_meaning.proofs.Earned.Frames.{item_with_tells}
use Rattle.ra_meaning.proofs.Earned.Items.{items_same, opening_with}
use Rattle.ra_meaning.proofs.Cuts.Law.{events_of_item, shown_goes_on, counts_go_on}
use Rattle.ra_meaning.proofs.Changed.NamedNumbers.{TreesOf}
use Rattle.ra_meaning.proofs.Changed.ReadByOther.{map_at}
use Rattle.ra_meaning.proofs.SetFiles.{set_spelled}
use Rattle.ra_meaning.proofs.Changed.SharedOwns.{contains_in, HasItem, shared_item, HasBoth, shared_script}
use Rattle.ra_meaning.proofs.Openings.Snapshots.{snapshot_fits}
use Rattle.ra_meaning.proofs.Changed.TakenOver.{TakenItem, TakenScript, item_trees, script_trees, item_taken}
use Rattle.ra_meaning.proofs.Changed.TakenOver.{script_taken}

-- ---- what stands at a place

zip_at : {A B : Type 0} (xs : List A) (ys : List B) (k : ℕ) (x : A) (y : B) → slice_get xs k
    ≡ Some x → slice_get ys k ≡ Some y → slice_get (zip xs ys) k ≡ Some (x, y)
zip_at [] ys k x y at there = absurd cc
zip_at (a ∷ xs) [] k x y at there = absurd cc
zip_at (a ∷ xs) (b ∷ ys) zero x y at there =
    let is : a ≡ x = cc at in
    let same : b ≡ y = cc there in
    λ i. Some (is i, same i)
zip_at (a ∷ xs) (b ∷ ys) (suc k) x y at there = zip_at xs ys k x y at there

-- what an opening keeps for the item at a place
record OpenedAt (shape : ItemShape) (kept : List KeptItem) (k : ℕ) : Type 0 where
  pub opened : KeptItem
  pub there : slice_get kept k ≡ Some opened
  pub fits : ItemFits shape opened

opened_at : (items : List ItemContents) (kept : List KeptItem)
    → ItemsFit (map item_shape items) kept → (k : ℕ) (item : ItemContents) → slice_get items k
    ≡ Some item → OpenedAt (item_shape item) kept k
opened_at [] kept fits k item at = absurd cc
opened_at (x ∷ items) [] fits k item at = absurd fits
opened_at (x ∷ items) (o ∷ kept) fits zero item at =
    let is : x ≡ item = cc at in
    record { opened = o; there = refl; fits = subst (λ i. ItemFits (item_shape i) o) is fits.0 }
opened_at (x ∷ items) (o ∷ kept) fits (suc k) item at =
    let rest : OpenedAt (item_shape item) kept k = opened_at items kept fits.1 k item at in
    record { opened = rest.opened; there = rest.there; fits = rest.fits }

-- whether the item at a place is earned
record EarnedAt (earned : Earned) (k : ℕ) : Type 0 where
  pub answer : Bool
  pub there : slice_get earned k ≡ Some answer

earned_at : (earned : Earned) (items : List KeptItem) → HoldTriggered earned items
    → (k : ℕ) (item : KeptItem) → slice_get items k ≡ Some item → EarnedAt earned k
earned_at [] [] hold k item at = absurd cc
earned_at [] (x ∷ items) hold k item at = absurd hold
earned_at (b ∷ earned) [] hold k item at = absurd hold
earned_at (b ∷ earned) (x ∷ items) hold zero item at = record { answer = b; there = refl }
earned_at (b ∷ earned) (x ∷ items) hold (suc k) item at =
    let rest : EarnedAt earned k = earned_at earned items hold.1 k item at in
    record { answer = rest.answer; there = rest.there }

with_at : (earned : Earned) (items : List KeptItem) (k : ℕ) (b : Bool) (item : KeptItem)
    → slice_get earned k ≡ Some b → slice_get items k ≡ Some item
    → slice_get (items_with earned items) k ≡ Some (item_with b item)
with_at [] items k b item at there = absurd cc
with_at (e ∷ earned) [] k b item at there = absurd cc
with_at (e ∷ earned) (x ∷ items) zero b item at there =
    let is : e ≡ b = cc at in
    let same : x ≡ item = cc there in
    λ i. Some (item_with (is i) (same i))
with_at (e ∷ earned) (x ∷ items) (suc k) b item at there = with_at earned items k b item at there

-- what is earned is silent, and what is not is told alike
silent_alike : (b : Bool) (x y : ItemContents × KeptItem) (told other : ItemContents × KeptItem
    → List Event) → told x ≡ other y → unless_earned told (b, x) ≡ unless_earned other (b, y)
silent_alike true x y told other same = refl
silent_alike false x y told other same = same

-- ---- what goes on

-- the trees of a set go on from an opening of another that has one start with what is kept
goes_on_taken : (set : SetContents) (o : Opening) (behind : History) (opened : Start)
    (trees : List Tree) → TreesOf set trees → HaveOneStart (start_of set (snapshot set o behind))
    opened trees → GoesOn (start_of set o) opened behind trees
goes_on_taken set o behind opened trees within starts =
    goes_on (start_of set o) opened behind trees (λ tree h history.
    sym (tree_alike set o behind tree (within tree h) history)
    ∙ value_agrees (start_of set (snapshot set o behind)) opened tree (record {
      numbers = λ c at. sym (starts.numbers c
          (contains_in c (flat_map cells_in trees) (In_flat cells_in tree c trees h at)));
      priors = λ t at. sym (starts.priors t
          (contains_in t (flat_map tracked_in trees) (In_flat tracked_in tree t trees h at)));
    }) history)

module _ (file other : List ℕ) (set changed : SetContents) (s : IsSet file set)
    (t : IsSet other changed) (names : NamesApart file other set changed) (o : Opening)
    (behind : History) (earned : Earned) (opening : IsOpening (shape_of set) o)
    (images : AreImages behind) (hold : HoldTriggered earned (snapshot set o behind).items) where
  abbrev kept : Opening
  kept = kept_behind set o behind earned

  abbrev said : Opening
  said = taken_up set changed kept

  kept_opening : IsOpening (shape_of set) kept
  kept_opening =
      opening_with set (snapshot set o behind) earned
      (snapshot_fits set o behind (set_spelled file set s) opening images) hold

  counts : (frames : said.frames ≡ kept.frames) (later : History)
      → frames_after said.frames (length later) ≡ frames_after o.frames (length (later ++ behind))
  counts frames later =
      ap (λ n. frames_after n (length later)) frames
      ∙ counts_go_on o.frames (length behind) (length later)
      ∙ ap (frames_after o.frames) (sym (length-append later behind))

  item_goes_on : (place there : ℕ) (has : HasItem file other set changed s t names.texts place
      there) → TakenItem set changed kept place there (trees_in_item has.item)
      → ItemGoesOn set changed o behind earned kept said place there
  item_goes_on place there has taken =
      record {
        item = has.item;
        opened = item_with earned_so.answer after;
        there = has.there;
        there_too = has.there_too;
        kept_so = kept_at;
        said_so = said_at;
        starts = taken.rest.starts;
        frames = taken.rest.frames;
        tells = tells;
        prints = prints;
      }
    where
      first : OpenedAt (item_shape has.item) o.items place
      first = opened_at set.items o.items opening.items place has.item has.there

      after : KeptItem
      after = item_after (start_of set o) behind (has.item, first.opened)

      after_at : slice_get (snapshot set o behind).items place ≡ Some after
      after_at =
          map_at (item_after (start_of set o) behind) (zip set.items o.items) place
          (has.item, first.opened)
          (zip_at set.items o.items place has.item first.opened has.there first.there)

      earned_so : EarnedAt earned place
      earned_so = earned_at earned (snapshot set o behind).items hold place after after_at

      kept_at : slice_get kept.items place ≡ Some (item_with earned_so.answer after)
      kept_at =
          with_at earned (snapshot set o behind).items place earned_so.answer after earned_so.there after_at

      said_at : slice_get said.items there ≡ Some (item_with earned_so.answer after)
      said_at = taken.item ∙ kept_at

      answer : is_earned (item_with earned_so.answer after) ≡ earned_so.answer
      answer =
          let both : Some (is_earned (item_with earned_so.answer after)) ≡ Some earned_so.answer =
          sym (map_at is_earned kept.items place (item_with earned_so.answer after) kept_at)
          ∙ ap (λ answers. slice_get answers place) (items_same earned (snapshot set o behind).items hold)
          ∙ earned_so.there
          in
          cc both

      goes : GoesOn (start_of set o) (start_of changed said) behind (trees_in_item has.item)
      goes =
          goes_on_taken set o behind (start_of changed said) (trees_in_item has.item)
          (item_trees set place has.item has.there) taken.rest.starts

      tells : (later : History) → later ≢ [] → events_at changed said later (earned_in said) there
          ≡ events_at set o (later ++ behind) earned place
      tells [] some = absurd (some refl)
      tells (image ∷ later) some =
          let now : slice_get (zip (earned_in said) (zip changed.items said.items)) there
          ≡ Some (earned_so.answer, (has.item, item_with earned_so.answer after)) =
          zip_at (earned_in said) (zip changed.items said.items) there earned_so.answer
          (has.item, item_with earned_so.answer after)
          (map_at is_earned said.items there (item_with earned_so.answer after) said_at ∙ ap (λ b. Some b) answer)
          (zip_at changed.items said.items there has.item (item_with earned_so.answer after) has.there_too said_at)
          in
          let before : slice_get (zip earned (zip set.items o.items)) place
          ≡ Some (earned_so.answer, (has.item, first.opened)) =
          zip_at earned (zip set.items o.items) place earned_so.answer
          (has.item, first.opened) earned_so.there
          (zip_at set.items o.items place has.item first.opened has.there first.there)
          in
          ap (told_at (start_of changed said) image later) now
          ∙ silent_alike earned_so.answer (has.item, item_with earned_so.answer after)
          (has.item, first.opened) (item_events (start_of changed said) image later)
          (item_events (start_of set o) image (later ++ behind))
          (item_with_tells (start_of changed said) image later has.item earned_so.answer after
          ∙ sym (events_of_item (start_of set o)
          (start_of changed said) behind has.item goes first.opened first.fits image later))
          ∙ sym (ap (told_at (start_of set o) image (later ++ behind)) before)

      prints : (later : History) → later ≢ [] → lines_at changed said later (earned_in said) there
          ≡ lines_at set o (later ++ behind) earned place
      prints [] some = absurd (some refl)
      prints (image ∷ later) some =
          ap (λ n. event_lines n (events_at changed said (image ∷ later) (earned_in said) there))
          (counts taken.rest.frames later)
          ∙ ap (event_lines (frames_after o.frames (length (later ++ behind)))) (tells (image ∷ later) some)

  script_goes_on : (text : List ℕ) (has : HasBoth file other set changed s t names.texts text)
      → TakenScript set changed kept (flat_map trees_in_line (lines_in set.script))
      → ScriptGoesOn set changed o behind earned kept said
  script_goes_on text has taken = record {
    there = scripts;
    said_so = taken.script;
    starts = taken.rest.starts;
    frames = taken.rest.frames;
    shows = λ later.
        (λ i. shown_by (start_of changed said) (counts taken.rest.frames later i) later (scripts i) (taken.script i))
        ∙ sym (shown_goes_on (start_of set o) (start_of changed said) behind (frames_after o.frames
        (length (later ++ behind))) set.script goes o.presence opening.presence later);
  }
    where
      scripts : changed.script ≡ set.script
      scripts = has.script_too ∙ sym has.script

      goes : GoesOn (start_of set o) (start_of changed said) behind (flat_map trees_in_line (lines_in set.script))
      goes =
          goes_on_taken set o behind (start_of changed said)
          (flat_map trees_in_line (lines_in set.script)) (script_trees set) taken.rest.starts

  line_on : (place there : ℕ) (text : List ℕ) → slice_get (item_texts file) place ≡ Some text
      → slice_get (item_texts other) there ≡ Some text → IsAccepted (shape_of changed)
      (progress_bytes (shape_of set) kept)
      × ItemGoesOn set changed o behind earned kept said place there
  line_on place there text at at_too =
      let has : HasItem file other set changed s t names.texts place there =
      shared_item file other set changed s t names.texts place there text at at_too in
      let taken : TakenItem set changed kept place there (trees_in_item has.item) =
      item_taken file other set changed s t names kept kept_opening place there has in
      (taken.rest.accepted, item_goes_on place there has taken)

  text_on : (text : List ℕ) → script_text file ≡ Some text → script_text other ≡ Some text
      → IsAccepted (shape_of changed) (progress_bytes (shape_of set) kept)
      × ScriptGoesOn set changed o behind earned kept said
  text_on text at at_too =
      let has : HasBoth file other set changed s t names.texts text =
      shared_script file other set changed s t names.texts text at at_too in
      let taken : TakenScript set changed kept (flat_map trees_in_line (lines_in set.script)) =
      script_taken file other set changed s t names kept kept_opening text has in
      (taken.rest.accepted, script_goes_on text has taken)

pub sets_go_on : SetsGoOn
sets_go_on file other set changed s t names = record {
  items = λ o behind earned place there text opening images hold at at_too. line_on file other set
      changed s t names o behind earned opening images hold place there text at at_too;
  script = λ o behind earned text opening images hold at at_too. text_on file other set changed s t
      names o behind earned opening images hold text at at_too;
}
