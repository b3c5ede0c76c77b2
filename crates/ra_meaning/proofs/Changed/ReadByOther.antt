-- A file that one set wrote, read by another: it is accepted where they share an own entry, and says of what they
-- share what was written.
use Rattle.std.proofs.Common.{◌≡◌, ◌≢◌, ℕ, zero, suc, ◌+◌, ◌==◌, Bool, true, false, Option, None, Some, option_map}
use Rattle.std.proofs.Common.{List, [], ◌∷◌, length, map, bytes_eq, slice_index_or, refl, sym, ◌∙◌, ap, subst}
use Rattle.std.specs.List.{AllByRecursion, slice_get}
use Rattle.std.proofs.lemmas.Slice.Eq.{bytes_eq-Decides}
use Rattle.ra_progress.specs.declared.shape.ItemShape.{ItemShape}
use Rattle.ra_progress.specs.declared.shape.PresenceShape.{PresenceShape}
use Rattle.ra_progress.specs.Contents.{ShapeContents, Own, own_entries, Opening, plain_presence}
use Rattle.ra_progress.specs.Layout.{version_in, digest_in, cells_in, priors_in, entries_in}
use Rattle.ra_progress.specs.Names.{IsPaired}
use Rattle.ra_progress.specs.Laws.{IsOwn}
use Rattle.ra_progress.specs.Reading.{of_this_set, blocks_in, blocks_beside, bad_state, IsAccepted}
use Rattle.ra_progress.specs.Saying.{last_number, last_block, own_places, said_or, said_presence, script_place, says}
use Rattle.ra_progress.proofs.OwnNames.{own_names}
use Rattle.ra_progress.proofs.Passes.{both_true}
use Rattle.ra_progress.proofs.Placed.{sizes_of_this_set}
use Rattle.ra_meaning.proofs.Changed.ReadByNames.{StandFor, stand_for, EntryAt, entry_at_place, OneShape, entries_good}
use Rattle.ra_meaning.proofs.Changed.ReadByNames.{states_good, related, last_is, said_at}

pub map_at : {A B : Type 0} (f : A → B) (xs : List A) (k : ℕ) (x : A) → slice_get xs k ≡ Some x
    → slice_get (map f xs) k ≡ Some (f x)
map_at f [] k x at = absurd (cc at)
map_at f (y ∷ xs) zero x at = let is : y ≡ x = cc at in ap (λ z. Some (f z)) is
map_at f (y ∷ xs) (suc k) x at = map_at f xs k x at

pub index_at : {A : Type 0} (xs : List A) (k : ℕ) (x d : A) → slice_get xs k ≡ Some x → slice_index_or xs k d ≡ x
index_at [] k x d at = absurd (cc at)
index_at (y ∷ xs) zero x d at = cc at
index_at (y ∷ xs) (suc k) x d at = index_at xs k x d at

-- what a script's block says, where there is a script and a block
presence_said : (bytes : List ℕ) (presence : Option PresenceShape) (place : Option ℕ)
    (p : PresenceShape) (at : ℕ) → presence ≡ Some p → place ≡ Some at
    → option_map (λ q. said_or (said_presence bytes q) (plain_presence q) place) presence
    ≡ Some (said_presence bytes p at)
presence_said bytes presence place p at is there =
    λ i. option_map (λ q. said_or (said_presence bytes q) (plain_presence q) (there i)) (is i)

-- what one set wrote: bytes of version 3 that are its own
pub record Wrote (shape : ShapeContents) (bytes : List ℕ) (o : Opening) : Type 0 where
  pub paired : IsPaired shape
  pub three : version_in bytes ≡ 3
  pub accepted : IsAccepted shape bytes
  pub this_set : of_this_set shape bytes ≡ true
  pub says_it : says shape bytes ≡ o
  pub own : IsOwn shape bytes

-- an own entry of both sets, and the only one of its name in the one that wrote
pub record IsSharedOwn (shape other : ShapeContents) (j k : ℕ) : Type 0 where
  pub a : Own
  pub b : Own
  pub there : slice_get (own_entries shape) j ≡ Some a
  pub there_too : slice_get (own_entries other) k ≡ Some b
  pub named : a.name ≡ b.name
  pub only : (i : ℕ) (c : Own) → slice_get (own_entries shape) i ≡ Some c → c.name ≡ b.name → i ≡ j

module _ (shape other : ShapeContents) (bytes : List ℕ) (o : Opening) (wrote : Wrote shape bytes o)
    (apart : shape.digest ≢ other.digest)
    (one : OneShape (own_entries shape) (own_entries other)) where
  not_first : (version_in bytes == 1) ≡ false
  not_first = rw wrote.three refl

  other_digest : (same : Bool) → bytes_eq (digest_in bytes) other.digest ≡ same → same ≡ false
  other_digest false e = refl
  other_digest true e =
      let mine : digest_in bytes ≡ shape.digest = (bytes_eq-Decides (digest_in bytes)
      shape.digest).0 (both_true (bytes_eq (digest_in bytes) shape.digest) _ wrote.this_set).0 in
      absurd (apart (sym mine ∙ (bytes_eq-Decides (digest_in bytes) other.digest).0 e))

  by_names : of_this_set other bytes ≡ false
  by_names =
      let digest = other_digest (bytes_eq (digest_in bytes) other.digest) refl in rw digest refl

  states : AllByRecursion (λ block. bad_state bytes block ≡ None) (blocks_beside (own_entries shape) (entries_in bytes))
  states =
      let read : blocks_in shape bytes ≡ blocks_beside (own_entries shape) (entries_in bytes) =
      rw (not_first, wrote.this_set) refl in
      subst (AllByRecursion (λ block. bad_state bytes block ≡ None)) read wrote.accepted.states

  stand : StandFor bytes (own_entries shape) (entries_in bytes)
  stand =
      stand_for bytes (own_entries shape) (entries_in bytes) (wrote.own.entries ∙ sym (own_names shape wrote.paired))
      (sizes_of_this_set shape bytes wrote.this_set) states

  pub accepted_by : (j k : ℕ) → IsSharedOwn shape other j k → IsAccepted other bytes
  accepted_by j k shared =
      let owns = own_entries shape in
      let others = own_entries other in
      let entries = entries_in bytes in
      record {
        whole = record {
          fewest = wrote.accepted.whole.fewest;
          most = wrote.accepted.whole.most;
          marked = wrote.accepted.whole.marked;
          version = wrote.accepted.whole.version;
          as_long = rw not_first (rw not_first at wrote.accepted.whole.as_long);
        };
        sum = wrote.accepted.sum;
        related = rw (not_first, by_names) (related bytes owns others entries stand j k shared.a
            shared.b shared.there shared.there_too shared.named);
        entries = λ names. entries_good bytes owns others entries stand one;
        states = rw (not_first, by_names) (states_good bytes owns others entries stand one);
      }

  pub said_frames : (says other bytes).frames ≡ o.frames
  said_frames = ap (λ q. q.frames) wrote.says_it

  pub said_cells : (says other bytes).cells ≡ map (λ name. last_number name (cells_in bytes) 0) other.cells
  said_cells = rw (not_first, by_names) refl

  pub said_priors : (says other bytes).priors ≡ map (λ name. last_number name (priors_in bytes) 0) other.priors
  said_priors = rw (not_first, by_names) refl

  pub wrote_cells : map (λ n. n.number) (cells_in bytes) ≡ o.cells
  wrote_cells =
      let read : (says shape bytes).cells ≡ map (λ n. n.number) (cells_in bytes) =
      rw (not_first, wrote.this_set) refl in
      sym read ∙ ap (λ q. q.cells) wrote.says_it

  pub wrote_priors : map (λ n. n.number) (priors_in bytes) ≡ o.priors
  wrote_priors =
      let read : (says shape bytes).priors ≡ map (λ n. n.number) (priors_in bytes) =
      rw (not_first, wrote.this_set) refl in
      sym read ∙ ap (λ q. q.priors) wrote.says_it

  places_said : own_places other bytes ≡ map (λ own. last_block own.name (entries_in bytes) None) (own_entries other)
  places_said = rw (not_first, by_names) refl

  places_wrote : own_places shape bytes ≡ map (λ entry. Some (entry.at + 20)) (entries_in bytes)
  places_wrote = rw (not_first, wrote.this_set) refl

  -- the block of a shared own entry, as both sets read it
  pub record OneBlock (j k : ℕ) : Type 0 where
    pub at : ℕ
    pub wrote_it : slice_get (own_places shape bytes) j ≡ Some (Some at)
    pub says_it : slice_get (own_places other bytes) k ≡ Some (Some at)

  one_block : (j k : ℕ) → IsSharedOwn shape other j k → OneBlock j k
  one_block j k shared =
      let found : EntryAt bytes shared.a (entries_in bytes) j =
      entry_at_place bytes (own_entries shape) (entries_in bytes) stand j shared.a shared.there in
      let last : last_block shared.b.name (entries_in bytes) None ≡ Some (found.entry.at + 20) =
      last_is bytes (own_entries shape) (entries_in bytes) stand shared.b.name j shared.a
      found.entry shared.there shared.named found.there shared.only None in
      record {
        at = found.entry.at + 20;
        wrote_it = ap (λ places. slice_get places j) places_wrote
            ∙ map_at (λ entry. Some (entry.at + 20)) (entries_in bytes) j found.entry found.there;
        says_it = ap (λ places. slice_get places k) places_said
            ∙ map_at (λ own. last_block own.name (entries_in bytes) None)
            (own_entries other) k shared.b shared.there_too ∙ ap (λ place. Some place) last;
      }

  pub said_item_is : (j k : ℕ) (s : ItemShape) → IsSharedOwn shape other j k
      → slice_get shape.items j ≡ Some s → slice_get other.items k ≡ Some s
      → slice_get (says other bytes).items k ≡ slice_get o.items j
  said_item_is j k s shared at there =
      let block : OneBlock j k = one_block j k shared in
      said_at bytes other.items (own_places other bytes) k s (Some block.at) there block.says_it
      ∙ sym (said_at bytes shape.items (own_places shape bytes) j s (Some block.at) at block.wrote_it)
      ∙ ap (λ q. slice_get q.items j) wrote.says_it

  pub said_script_is : (p : PresenceShape) → IsSharedOwn shape other (length shape.items)
      (length other.items) → shape.presence ≡ Some p → other.presence ≡ Some p
      → (says other bytes).presence ≡ o.presence
  said_script_is p shared at there =
      let block : OneBlock (length shape.items) (length other.items) =
      one_block (length shape.items) (length other.items) shared in
      let mine : script_place shape bytes ≡ Some block.at =
      index_at (own_places shape bytes) (length shape.items) (Some block.at) None block.wrote_it in
      let theirs : script_place other bytes ≡ Some block.at =
      index_at (own_places other bytes) (length other.items) (Some block.at) None block.says_it in
      presence_said bytes other.presence (script_place other bytes) p block.at there theirs
      ∙ sym (presence_said bytes shape.presence (script_place shape bytes) p block.at at mine)
      ∙ ap (λ q. q.presence) wrote.says_it
