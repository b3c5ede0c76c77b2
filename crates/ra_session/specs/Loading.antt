-- What a run begins with, and why it ends before its trace: docs/DEFINITIONS.md, "A run".
use Rattle.std.specs.Prelude.{◌≡◌, ℕ, ⊤, ◌+◌, Option, None, Some, option_map, List, [], take}
use Rattle.ra_memory.specs.Image.{History, AreBytes, AreImages}
use Rattle.ra_set.specs.Accepted.{IsSet, named_by}
use Rattle.ra_set.specs.Contents.{SetContents, set_contents}
use Rattle.ra_set.specs.Refusals.{Refuses}
use Rattle.ra_progress.specs.declared.refused.ProgressRefused.{ProgressRefused}
use Rattle.ra_progress.specs.Contents.{Opening, IsOpening}
use Rattle.ra_progress.specs.Laws.{IsShape}
use Rattle.ra_progress.specs.Reading.{refusal}
use Rattle.ra_progress.specs.Saying.{says}
use Rattle.ra_meaning.specs.Order.{shape_of}
use Rattle.ra_meaning.specs.Earned.{Earned, HoldTriggered, none_earned, with_earned}
use Rattle.ra_meaning.specs.Openings.{snapshot, plain_opening}
use Rattle.ra_io.specs.Causes.{Rose}
use Rattle.ra_args.specs.Words.{file_in}
use Rattle.ra_session.specs.Expected.{progress_limit, set_limit}
use Rattle.ra_jobs.specs.Outside.{AnyRose}
use Rattle.ra_session.specs.Playing.{IsPlayable}
use Rattle.ra_session.specs.declared.beginning.Beginning.{Beginning}
use Rattle.ra_session.specs.declared.failures.SetFailed.{SetFailed}
use Rattle.ra_session.specs.declared.failures.SetFailed.TheVariants as set
use Rattle.ra_session.specs.declared.failures.ProgressFailed.{ProgressFailed}
use Rattle.ra_session.specs.declared.failures.ProgressFailed.TheVariants as progress
use Rattle.ra_session.specs.declared.failures.LoadFailed.{LoadFailed}
use Rattle.ra_session.specs.declared.failures.LoadFailed.TheVariants as load

-- the progress bytes that a run goes on from, where there are some
abbrev pub progress_in : Beginning → Option (List ℕ)
progress_in beginning = option_map (λ bytes. bytes.items) beginning.progress

-- an opening, the frames after it and what is earned that a run begins with: the plain one, none and nothing, or those
-- after which is kept what its bytes say
abbrev pub BeginsAt : SetContents → Option (List ℕ) → Opening → History → Earned → Type 0
BeginsAt set None o behind earned = (o ≡ plain_opening set) × (behind ≡ []) × (earned ≡ none_earned set)
BeginsAt set (Some bytes) o behind earned =
    IsOpening (shape_of set) o × AreImages behind × HoldTriggered earned (snapshot set o behind).items
    × (says (shape_of set) bytes ≡ with_earned (snapshot set o behind) earned)

-- the bytes, where there are some, are a progress file that the set accepts, whose own bytes may be read
abbrev pub AreAccepted : SetContents → Option (List ℕ) → Type 0
AreAccepted set None = ⊤
AreAccepted set (Some bytes) = IsShape (shape_of set) × AreBytes bytes × (refusal (shape_of set) bytes ≡ None)

-- A run may begin so: a runtime can be made for the set, and it accepts the progress bytes, where there are some.
pub record MayBegin (beginning : Beginning) : Type 0 where
  pub playable : IsPlayable (set_contents beginning.set)
  pub accepted : AreAccepted (set_contents beginning.set) (progress_in beginning)

-- the bytes are those of the file that is named, where these are told; none where none is named
abbrev pub AreOfFile : (content : List ℕ → Option (List ℕ)) → (restore progress : Option (List ℕ)) → Type 0
AreOfFile content None progress = progress ≡ None
AreOfFile content (Some name) progress = (bytes : List ℕ) × (progress ≡ Some bytes)
    × ((file : List ℕ) → content name ≡ Some file → bytes ≡ file)

-- What is read of the file that is named, at most a byte more than a progress file may have, is refused so.
pub record RefusesFile (set : SetContents) (content : List ℕ → Option (List ℕ))
    (restore : Option (List ℕ)) (why : ProgressRefused) : Type 0 where
  pub name : List ℕ
  pub named : restore ≡ Some name
  pub refused : (file : List ℕ) → content name ≡ Some file
      → refusal (shape_of set) (take progress_limit file) ≡ Some why
  pub shape : IsShape (shape_of set)

-- What the file of a set tells of one that was accepted, where its bytes are told.
pub record IsTaken (file : Option (List ℕ)) (c : SetContents) : Type 0 where
  pub playable : IsPlayable c
  pub is_set : (bytes : List ℕ) → file ≡ Some bytes → IsSet bytes c

-- What the file of a set tells of one that was accepted and read without its names: they are those of a text, which is
-- what the file has.
pub record IsTakenUnnamed (file : Option (List ℕ)) (c : SetContents) : Type 0 where
  pub playable : IsPlayable c
  pub text : List ℕ
  pub taken : IsTaken file (named_by text c)

-- why there is no set: memory ran out, a read of its file failed, or the file is refused, where its bytes are told
abbrev pub HasNoSet : (file : Option (List ℕ)) → (rose : Type 0) → SetFailed → Type 0
HasNoSet file rose set.Memory = ⊤
HasNoSet file rose set.Read = rose
HasNoSet file rose (set.Refused why) = (bytes : List ℕ) → file ≡ Some bytes → Refuses (take (set_limit + 1) bytes) why

-- why there are no progress bytes of a set: memory ran out, a read of their file failed, or the file is refused
abbrev pub HasNoProgress : SetContents → (content : List ℕ → Option (List ℕ))
    → (restore : Option (List ℕ)) → (rose : Type 0) → ProgressFailed → Type 0
HasNoProgress c content restore rose progress.Memory = ⊤
HasNoProgress c content restore rose progress.Read = rose
HasNoProgress c content restore rose (progress.Refused why) = RefusesFile c content restore why

-- A set was accepted, and so was its progress file.
pub record IsLoaded (content : List ℕ → Option (List ℕ)) (set : List ℕ) (restore : Option (List ℕ))
    (c : SetContents) (progress : Option (List ℕ)) : Type 0 where
  pub taken : IsTaken (content set) c
  pub accepted : AreAccepted c progress
  pub of_file : AreOfFile content restore progress

-- why a run does not begin: there is no set; or there is one, and no progress bytes of it
abbrev pub IsNotLoaded : (content : List ℕ → Option (List ℕ)) → (before now : List ℕ → ℕ)
    → (set : List ℕ) → (restore : Option (List ℕ)) → LoadFailed → Type 0
IsNotLoaded content before now set restore (load.Set failed) =
    HasNoSet (content set) (Rose (before set) (now set)) failed
IsNotLoaded content before now set restore (load.Progress failed) =
    (c : SetContents) × IsTaken (content set) c
    × HasNoProgress c content restore (AnyRose before now (file_in restore)) failed
