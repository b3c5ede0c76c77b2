-- What a changed set takes up of the bytes that the set wrote.
use Rattle.std.proofs.Common.{◌≡◌, ◌≢◌, inl, inr, ℕ, Some, option_map, List, length, map, refl, sym, ◌∙◌, ap, subst}
use Rattle.std.specs.List.{flat_map, slice_get}
use Rattle.std.proofs.lemmas.List.{length-map}
use Rattle.ra_indirect.specs.Trees.{Tree, cells_in as tree_cells, tracked_in}
use Rattle.ra_memref.specs.Names.{cell_name, tracked_name}
use Rattle.ra_richpresence.specs.Grammar.{script_of}
use Rattle.ra_set.specs.Accepted.{IsSet}
use Rattle.ra_set.specs.Contents.{ItemContents, SetContents}
use Rattle.ra_set.proofs.AnswerLemmas.{same-set}
use Rattle.ra_progress.specs.Contents.{Opening, IsOpening}
use Rattle.ra_progress.specs.Layout.{cells_in, priors_in}
use Rattle.ra_progress.specs.Laws.{IsShape, ComesBack}
use Rattle.ra_progress.specs.Reading.{IsAccepted}
use Rattle.ra_progress.specs.Spelling.{progress_bytes}
use Rattle.ra_progress.proofs.ComesBack.{comes_back, own}
use Rattle.ra_member.proofs.Listed.{In_front, In_behind, In_flat}
use Rattle.ra_meaning.specs.Changed.{NamesApart, HaveOneStart, taken_up}
use Rattle.ra_meaning.specs.Openings.{start_of}
use Rattle.ra_meaning.specs.Order.{item_shape, presence_shape, trees_in_item, trees_in_line, lines_in, set_cells}
use Rattle.ra_meaning.specs.Order.{set_tracked, shape_of}
use Rattle.ra_meaning.proofs.Changed.NamedNumbers.{TreesOf, cell_listed, tracked_listed, one_number, one_prior}
use Rattle.ra_meaning.proofs.Changed.ReadByOther.{Wrote, IsSharedOwn, map_at, accepted_by, said_frames, said_cells}
use Rattle.ra_meaning.proofs.Changed.ReadByOther.{said_priors, wrote_cells, wrote_priors, said_item_is, said_script_is}
use Rattle.ra_meaning.proofs.SetFiles.{set_shape}
use Rattle.ra_meaning.proofs.Changed.SharedOwns.{in_contained, in_at, one_place, HasItem, HasBoth, one_shape}

-- what both sets have: the number of frames, and the numbers of the cells and tracked masks of some trees
pub record Taken (set changed : SetContents) (kept : Opening) (trees : List Tree) : Type 0 where
  pub accepted : IsAccepted (shape_of changed) (progress_bytes (shape_of set) kept)
  pub frames : (taken_up set changed kept).frames ≡ kept.frames
  pub starts : HaveOneStart (start_of set kept) (start_of changed (taken_up set changed kept)) trees

-- and what an item keeps
pub record TakenItem (set changed : SetContents) (kept : Opening) (place other : ℕ) (trees : List Tree) : Type 0 where
  pub rest : Taken set changed kept trees
  pub item : slice_get (taken_up set changed kept).items other ≡ slice_get kept.items place

-- or the script
pub record TakenScript (set changed : SetContents) (kept : Opening) (trees : List Tree) : Type 0 where
  pub rest : Taken set changed kept trees
  pub script : (taken_up set changed kept).presence ≡ kept.presence

-- the trees of an item of a set, and those of its script
pub item_trees : (set : SetContents) (k : ℕ) (item : ItemContents) → slice_get set.items k
    ≡ Some item → TreesOf set (trees_in_item item)
item_trees set k item at tree h =
    In_front tree (flat_map trees_in_item set.items) (flat_map trees_in_line (lines_in set.script))
    (In_flat trees_in_item item tree set.items (in_at set.items k item at) h)

pub script_trees : (set : SetContents) → TreesOf set (flat_map trees_in_line (lines_in set.script))
script_trees set tree h =
    In_behind tree (flat_map trees_in_item set.items) (flat_map trees_in_line (lines_in set.script)) h

-- ---- one file of both sets

module _ (set : SetContents) (kept : Opening) (shape : IsShape (shape_of set))
    (opening : IsOpening (shape_of set) kept) where
  back : ComesBack (shape_of set) kept
  back = comes_back (shape_of set) kept shape opening

  same_taken : (trees : List Tree) → Taken set set kept trees
  same_taken trees = record {
    accepted = back.accepted;
    frames = ap (λ q. q.frames) back.says_it;
    starts = record {
      numbers = λ c h. ap (λ q. (start_of set q).number c) back.says_it;
      priors = λ t h. ap (λ q. (start_of set q).prior t) back.says_it;
    };
  }

  same_item : (place other : ℕ) (trees : List Tree) → place ≡ other → TakenItem set set kept place other trees
  same_item place other trees same =
      record {
        rest = same_taken trees;
        item = ap (λ q. slice_get q.items other) back.says_it ∙ ap (slice_get kept.items) (sym same);
      }

  same_script : (trees : List Tree) → TakenScript set set kept trees
  same_script trees =
      record { rest = same_taken trees; script = ap (λ q. q.presence) back.says_it }

-- ---- two files

module _ (file other : List ℕ) (set changed : SetContents) (s : IsSet file set)
    (t : IsSet other changed) (names : NamesApart file other set changed) (kept : Opening)
    (opening : IsOpening (shape_of set) kept) where
  shape : IsShape (shape_of set)
  shape = set_shape file set s

  abbrev bytes : List ℕ
  bytes = progress_bytes (shape_of set) kept

  wrote : Wrote (shape_of set) bytes kept
  wrote =
      let back : ComesBack (shape_of set) kept = comes_back (shape_of set) kept shape opening in
      record {
        paired = shape.paired;
        three = refl;
        accepted = back.accepted;
        this_set = back.this_set;
        says_it = back.says_it;
        own = own (shape_of set) kept shape opening;
      }

  module _ (apart : set.digest ≢ changed.digest) where
    starts : (trees : List Tree) → TreesOf set trees → TreesOf changed trees
        → HaveOneStart (start_of set kept) (start_of changed (taken_up set changed kept)) trees
    starts trees within within_too =
        let one = one_shape file other set changed s t names.texts in
        record {
          numbers = λ c h.
              let at = in_contained c (flat_map tree_cells trees) h in
              one_number set changed (cells_in bytes) kept.cells (taken_up set changed kept).cells c
              (cell_listed set trees within c at)
              (cell_listed changed trees within_too c at) names.cells wrote.own.cells
              (wrote_cells (shape_of set) (shape_of changed) bytes kept wrote apart one)
              (opening.cells.as_many ∙ length-map (set_cells set) cell_name)
              (said_cells (shape_of set) (shape_of changed) bytes kept wrote apart one);
          priors = λ m h.
              let at = in_contained m (flat_map tracked_in trees) h in
              one_prior set changed (priors_in bytes) kept.priors
              (taken_up set changed kept).priors m (tracked_listed set trees within m at)
              (tracked_listed changed trees within_too m at) names.tracked wrote.own.priors
              (wrote_priors (shape_of set) (shape_of changed) bytes kept wrote apart one)
              (opening.priors.as_many ∙ length-map (set_tracked set) tracked_name)
              (said_priors (shape_of set) (shape_of changed) bytes kept wrote apart one);
        }

    named_taken : (trees : List Tree) → TreesOf set trees → TreesOf changed trees → (j k : ℕ)
        → IsSharedOwn (shape_of set) (shape_of changed) j k → Taken set changed kept trees
    named_taken trees within within_too j k shared =
        let one = one_shape file other set changed s t names.texts in
        record {
          accepted = accepted_by (shape_of set) (shape_of changed) bytes kept wrote apart one j k shared;
          frames = said_frames (shape_of set) (shape_of changed) bytes kept wrote apart one;
          starts = starts trees within within_too;
        }

    named_item : (place there : ℕ) (has : HasItem file other set changed s t names.texts place
        there) → TakenItem set changed kept place there (trees_in_item has.item)
    named_item place there has =
        let one = one_shape file other set changed s t names.texts in
        record {
          rest = named_taken (trees_in_item has.item) (item_trees set place has.item has.there)
              (item_trees changed there has.item has.there_too) place there has.own;
          item = said_item_is (shape_of set) (shape_of changed) bytes kept wrote apart one place
              there (item_shape has.item) has.own (map_at item_shape set.items place has.item
              has.there) (map_at item_shape changed.items there has.item has.there_too);
        }

    named_script : (text : List ℕ) (has : HasBoth file other set changed s t names.texts text)
        → TakenScript set changed kept (flat_map trees_in_line (lines_in set.script))
    named_script text has =
        let one = one_shape file other set changed s t names.texts in
        let scripts : changed.script ≡ set.script = has.script_too ∙ sym has.script in
        let within_too : TreesOf changed (flat_map trees_in_line (lines_in set.script)) =
        subst (λ script. TreesOf changed (flat_map trees_in_line (lines_in script))) scripts
        (script_trees changed) in
        let shared : IsSharedOwn (shape_of set) (shape_of changed)
        (length (map item_shape set.items)) (length (map item_shape changed.items)) =
        subst (λ k. IsSharedOwn (shape_of set) (shape_of changed)
        (length (map item_shape set.items)) k) (sym (length-map changed.items item_shape))
        (subst (λ j. IsSharedOwn (shape_of set) (shape_of changed) j (length changed.items))
        (sym (length-map set.items item_shape)) has.own)
        in
        record {
          rest = named_taken (flat_map trees_in_line (lines_in set.script))
              (script_trees set) within_too (length (map item_shape set.items))
              (length (map item_shape changed.items)) shared;
          script = said_script_is (shape_of set) (shape_of changed) bytes kept wrote apart one
              (presence_shape (script_of has.parts)) shared (ap (λ script. option_map presence_shape
              script) has.script) (ap (λ script. option_map presence_shape script) has.script_too);
        }

  module _ (same : file ≡ other) where
    same_set : set ≡ changed
    same_set = same-set file set changed s (subst (λ f. IsSet f changed) (sym same) t)

    one_item_taken : (place there : ℕ) (has : HasItem file other set changed s t names.texts place
        there) → TakenItem set changed kept place there (trees_in_item has.item)
    one_item_taken place there has =
        let at : slice_get set.items there ≡ Some has.item =
        ap (λ (c : SetContents). slice_get c.items there) same_set ∙ has.there_too in
        subst (λ c. TakenItem set c kept place there (trees_in_item has.item)) same_set
        (same_item set kept shape opening place there (trees_in_item has.item)
        (one_place set.items place there has.item s.ids has.there at))

    one_script_taken : TakenScript set changed kept (flat_map trees_in_line (lines_in set.script))
    one_script_taken =
        subst (λ c. TakenScript set c kept (flat_map trees_in_line (lines_in set.script))) same_set
        (same_script set kept shape opening (flat_map trees_in_line (lines_in set.script)))

  pub item_taken : (place there : ℕ) (has : HasItem file other set changed s t names.texts place
      there) → TakenItem set changed kept place there (trees_in_item has.item)
  item_taken place there has = elim names.digests [
    | inl same ↦ one_item_taken same place there has
    | inr apart ↦ named_item apart place there has
  ]

  pub script_taken : (text : List ℕ) (has : HasBoth file other set changed s t names.texts text)
      → TakenScript set changed kept (flat_map trees_in_line (lines_in set.script))
  script_taken text has = elim names.digests [
    | inl same ↦ one_script_taken same
    | inr apart ↦ named_script apart text has
  ]
