-- The progress of a set before its first frame is accepted.
use Rattle.std.proofs.Common.{◌≡◌, ◌≤◌, ℕ, List, [], ◌∷◌, map, Option, None, Some, option_map, Result, Ok, Err, IfOk}
use Rattle.std.proofs.Common.{OnOk, ap, subst, sym, ◌∙◌}
use Rattle.std.specs.Prelude.{IfSome, length}
use Rattle.std.specs.List.{AllByRecursion}
use Rattle.md5.specs.Md5.{md5}
use Rattle.md5.proofs.StandardFacts.{length-md5}
use Rattle.ra_set.specs.Accepted.{IsSet}
use Rattle.ra_set.specs.Contents.{SetContents}
use Rattle.ra_set.specs.Names.{IsNamed}
use Rattle.ra_set.specs.Spelled.{IsSpelled}
use Rattle.ra_set.specs.Texts.{item_texts, script_text}
use Rattle.ra_progress.specs.Layout.{length_of}
use Rattle.ra_progress.specs.Names.{IsName}
use Rattle.ra_progress.specs.Reading.{refusal}
use Rattle.ra_meaning.specs.Openings.{plain_opening}
use Rattle.ra_meaning.specs.OpeningLaws.{HasDigests}
use Rattle.ra_progress.specs.Spelling.{progress_bytes}
use Rattle.ra_runtime.specs.Courses.{CourseSeen, IsBegun}
use Rattle.ra_meaning.specs.Order.{shape_of}
use Rattle.ra_meaning.proofs.Digests.{md5_bytes}
use Rattle.ra_meaning.proofs.Openings.Snapshots.{is_shape, opening_comes_back, plain_is_opening}
use Rattle.ra_progress.specs.Contents.{IsOpening}
use Rattle.ra_progress.specs.Laws.{ComesBack, IsShape}
use Rattle.ra_progress.proofs.ComesBack.{comes_back}
use Rattle.ra_value_format.specs.Formats.{HasDigits}
use Rattle.ra_value_format.specs.declared.format.Format.{Format}
use Rattle.ra_items.proofs.ShapeLemmas.{have_digits}
use Rattle.ra_goals.specs.Goals.{format_in, goal_of}
use Rattle.ra_goals.specs.declared.goal.Goal.{Goal}
use Rattle.ra_calls.proofs.GoalLemmas.{digits_in}
use Rattle.ra_calls.specs.Answers.{IsFirst, IsSaveOf}

-- a digest is sixteen bytes
md5_named : (text : List ℕ) → IsName (md5 text)
md5_named text = record { long = length-md5 text; fit = md5_bytes text }

all_digests : (texts : List (List ℕ)) → AllByRecursion IsName (map md5 texts)
all_digests [] = tt
all_digests (text ∷ texts) = (md5_named text, all_digests texts)

some_digest : (text : Option (List ℕ)) → IfSome (option_map md5 text) IsName
some_digest None = tt
some_digest (Some text) = md5_named text

-- the digest and the names of a set that a text spells
digests_of : (text : List ℕ) (set : SetContents) → IsSet text set → HasDigests set
digests_of text set is = record {
  digest = subst IsName (sym is.digest) (md5_named text);
  items = subst (AllByRecursion IsName) (sym is.item_names) (all_digests (item_texts text));
  script = subst (λ (name : Option (List ℕ)). IfSome name IsName) (sym is.script_name) (some_digest (script_text text));
}

-- the progress before the first frame is accepted
first_accepted : (text : List ℕ) (set : SetContents) (bytes : List ℕ) → IsFirst set bytes
    → IsSet text set → IsSpelled set → IsNamed set → length_of (shape_of set) ≤ 8388608
    → refusal (shape_of set) bytes ≡ None
first_accepted text set bytes first is spelled named short =
    ap (refusal (shape_of set)) first.is
    ∙ (opening_comes_back set (plain_opening set) (is_shape set is.limits spelled named
    (digests_of text set is) short) (plain_is_opening set spelled)).0

-- bytes that are those of what is kept are a save
pub save_is : (course : CourseSeen) (bytes : List ℕ) → bytes
    ≡ progress_bytes (shape_of course.set) course.kept → IsSaveOf course bytes
unfolding IsSaveOf
save_is course bytes is = is

-- a save is the bytes of what is kept
pub of_save : (course : CourseSeen) (bytes : List ℕ) → IsSaveOf course bytes → bytes
    ≡ progress_bytes (shape_of course.set) course.kept
unfolding IsSaveOf
of_save course bytes is = is

-- a save is as long as each save of its set
pub long_save : {V E : Type 0} (items : V → List ℕ) (course : CourseSeen) (r : Result V E)
    → IsShape (shape_of course.set)
    → IfOk r (λ v. items v ≡ progress_bytes (shape_of course.set) course.kept)
    → OnOk r (IsOpening (shape_of course.set) course.kept)
    → IfOk r (λ v. length (items v) ≡ length_of (shape_of course.set))
long_save items course (Ok v) shape is opening =
    let back : ComesBack (shape_of course.set) course.kept =
    comes_back (shape_of course.set) course.kept shape opening in
    ap length is ∙ back.long
long_save items course (Err why) shape is opening = tt

-- a save right after a course was begun
first_saved : (set : SetContents) (size : ℕ) (course : CourseSeen) (bytes : List ℕ)
    → IsBegun set size course → IsSaveOf course bytes → IsFirst course.set bytes
first_saved set size course bytes begun saved = record {
  is = of_save course bytes saved ∙ ap (progress_bytes (shape_of course.set)) begun.kept ∙ ap (λ (s
      : SetContents). progress_bytes (shape_of course.set) (plain_opening s)) (sym begun.set_too);
}

-- what is held right after a course was begun
pub record IsFresh (course : CourseSeen) (first : List ℕ) : Type 0 where
  pub shape : IsShape (shape_of course.set)
  pub first_too : IsFirst course.set first
  pub accepted : refusal (shape_of course.set) first ≡ None
  pub long : length first ≡ length_of (shape_of course.set)

pub is_fresh : (text : List ℕ) (set : SetContents) (size : ℕ) (course : CourseSeen) (first : List ℕ)
    → IsSet text course.set → IsSpelled course.set → IsNamed course.set → IsBegun set size course
    → IsSaveOf course first → length_of (shape_of course.set) ≤ 8388608 → IsFresh course first
is_fresh text set size course first is spelled named begun saved short =
    let begins = first_saved set size course first begun saved in
    let shape = is_shape course.set is.limits spelled named (digests_of text course.set is) short in
    let back : ComesBack (shape_of course.set) (plain_opening course.set) = comes_back
    (shape_of course.set) (plain_opening course.set) shape (plain_is_opening course.set spelled) in
    record {
      shape = shape;
      first_too = begins;
      accepted = first_accepted text course.set first begins is spelled named short;
      long = ap length begins.is ∙ back.long;
    }

-- the goals of a new course are those of its set, and each format that they have has digits
pub has_digits : (set : SetContents) (goals : List Goal) → goals ≡ map goal_of set.items → IsSpelled
    set → (id : ℕ) (format : Format) → format_in id goals ≡ Some format → HasDigits format
has_digits set goals same spelled id format is = digits_in id format set.items
    (have_digits set.items spelled.items) (ap (format_in id) (sym same) ∙ is)
