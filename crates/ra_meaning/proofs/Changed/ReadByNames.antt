-- The entries of a file, read by a set that finds them by their names.
use Rattle.std.proofs.Common.{◌≡◌, ℕ, zero, suc, ◌+◌, ◌==◌, not, Bool, true, false, if◌then◌else◌, Option, None, Some}
use Rattle.std.proofs.Common.{option_map, List, [], ◌∷◌, map, find, bytes_eq, refl, sym, ◌∙◌, ap, subst}
use Rattle.std.specs.List.{AllByRecursion, list_any, slice_get}
use Rattle.std.proofs.lemmas.Bool.{eqb-true, eq-eqb, or_left, or_right}
use Rattle.std.proofs.lemmas.Slice.Eq.{bytes_eq-Decides}
use Rattle.ra_progress.specs.declared.shape.ItemShape.{ItemShape}
use Rattle.ra_progress.specs.declared.refused.ProgressRefused.TheVariants.{BadEntry}
use Rattle.ra_progress.specs.Contents.{Name, Own, plain_item}
use Rattle.ra_progress.specs.Layout.{Entry, block_length, own_length}
use Rattle.ra_progress.specs.Reading.{have_sizes, owns_named, has_named, other_length, bad_entry, bad_state}
use Rattle.ra_progress.specs.Reading.{blocks_beside, blocks_of_entry, blocks_named}
use Rattle.ra_progress.specs.Saying.{last_block, said_item, said_items, said_or}
use Rattle.ra_progress.proofs.OwnOrder.{read_as, find_on}
use Rattle.ra_progress.proofs.Passes.{both_true}
use Rattle.ra_progress.proofs.Placed.{all_join}

-- an entry stands for an own one: its name, its length, and a state in its table
pub record StandsFor (bytes : List ℕ) (own : Own) (entry : Entry) : Type 0 where
  pub name : entry.name ≡ own.name
  pub size : entry.size ≡ own_length own
  pub state : bad_state bytes (read_as (entry.at + 20) own) ≡ None

abbrev pub StandFor : List ℕ → List Own → List Entry → Type 0
StandFor bytes [] [] = Unit {0}
StandFor bytes (own ∷ owns) (entry ∷ entries) = StandsFor bytes own entry × StandFor bytes owns entries
StandFor bytes _ _ = ⊥

pub stand_for : (bytes : List ℕ) (owns : List Own) (entries : List Entry) → map
    (λ entry. entry.name) entries ≡ map (λ own. own.name) owns → have_sizes owns entries ≡ true
    → AllByRecursion (λ block. bad_state bytes block ≡ None) (blocks_beside owns entries) → StandFor bytes owns entries
stand_for bytes [] [] names sizes states = tt
stand_for bytes [] (entry ∷ entries) names sizes states = absurd cc
stand_for bytes (own ∷ owns) [] names sizes states = absurd cc
stand_for bytes (own ∷ owns) (entry ∷ entries) names sizes states =
    let both = both_true (entry.size == own_length own) (have_sizes owns entries) sizes in
    let name : entry.name ≡ own.name = cc names in
    let rest : map (λ entry. entry.name) entries ≡ map (λ own. own.name) owns = cc names in (
      record { name = name; size = eqb-true entry.size (own_length own) both.0; state = states.0 },
      stand_for bytes owns entries rest both.1 states.1,
    )

-- the entry that stands for the own one at a place
pub record EntryAt (bytes : List ℕ) (own : Own) (entries : List Entry) (k : ℕ) : Type 0 where
  pub entry : Entry
  pub there : slice_get entries k ≡ Some entry
  pub stands : StandsFor bytes own entry

pub entry_at_place : (bytes : List ℕ) (owns : List Own) (entries : List Entry) → StandFor bytes owns
    entries → (k : ℕ) (a : Own) → slice_get owns k ≡ Some a → EntryAt bytes a entries k
entry_at_place bytes [] entries stand k a at = absurd (cc at)
entry_at_place bytes (own ∷ owns) [] stand k a at = absurd stand
entry_at_place bytes (own ∷ owns) (entry ∷ entries) stand zero a at =
    let is : own ≡ a = cc at in
    record { entry = entry; there = refl; stands = subst (λ o. StandsFor bytes o entry) is stand.0 }
entry_at_place bytes (own ∷ owns) (entry ∷ entries) stand (suc k) a at =
    let rest : EntryAt bytes a entries k = entry_at_place bytes owns entries stand.1 k a at in
    record { entry = rest.entry; there = rest.there; stands = rest.stands }

-- own entries of two sets that have one name have one shape
abbrev pub OneShape : List Own → List Own → Type 0
OneShape owns others =
    (j k : ℕ) (a b : Own) → slice_get owns j ≡ Some a → slice_get others k ≡ Some b → a.name
    ≡ b.name → a.shape ≡ b.shape

-- an entry whose length is that of each own one of its name is none of another length
good_length : (others : List Own) (entry : Entry) → ((k : ℕ) (b : Own) → slice_get others k ≡ Some b
    → b.name ≡ entry.name → own_length b ≡ entry.size) → other_length others entry ≡ None
good_length [] entry fits = refl
good_length (b ∷ others) entry fits = elim (bytes_eq b.name entry.name) as
    (λ t. bytes_eq b.name entry.name ≡ t → find (λ own. not (own_length own == entry.size))
    (if t then b ∷ owns_named entry.name others else owns_named entry.name others) ≡ None) [
      | true ↦ λ e.
          let long : own_length b ≡ entry.size = fits 0 b refl ((bytes_eq-Decides b.name entry.name).0 e) in
          let same = eq-eqb (own_length b) entry.size long in
          find_on (λ own. not (own_length own == entry.size)) b (owns_named entry.name others) (ap not same)
          ∙ good_length others entry (λ k c at named. fits (suc k) c at named)
      | false ↦ λ e. good_length others entry (λ k c at named. fits (suc k) c at named)
    ] refl

pub entries_good : (bytes : List ℕ) (owns others : List Own) (entries : List Entry)
    → StandFor bytes owns entries → OneShape owns others
    → AllByRecursion (λ entry. bad_entry others entry ≡ None) entries
entries_good bytes [] others [] stand one = tt
entries_good bytes [] others (entry ∷ entries) stand one = absurd stand
entries_good bytes (own ∷ owns) others [] stand one = tt
entries_good bytes (own ∷ owns) others (entry ∷ entries) stand one =
    let good = good_length others entry (λ k b at named. ap block_length
    (sym (one 0 k own b refl at (sym stand.0.name ∙ sym named))) ∙ sym stand.0.size) in (
      ap (option_map (λ other. BadEntry (entry.at + 16) (own_length other) entry.size)) good,
      entries_good bytes owns others entries stand.1 (λ j k a b there at named. one (suc j) k a b there at named),
    )

-- the blocks that an entry is read as have good states, where each own one of its name has the shape that it was
-- written by
good_blocks : (bytes : List ℕ) (own : Own) (entry : Entry) → StandsFor bytes own entry
    → (others : List Own)
    → ((k : ℕ) (b : Own) → slice_get others k ≡ Some b → b.name ≡ entry.name → own.shape ≡ b.shape)
    → AllByRecursion (λ block. bad_state bytes block ≡ None)
    (map (read_as (entry.at + 20)) (owns_named entry.name others))
good_blocks bytes own entry stands [] fits = tt
good_blocks bytes own entry stands (b ∷ others) fits =
    elim (bytes_eq b.name entry.name) as (λ t. bytes_eq b.name entry.name ≡ t
    → AllByRecursion (λ block. bad_state bytes block ≡ None) (map (read_as (entry.at + 20))
    (if t then b ∷ owns_named entry.name others else owns_named entry.name others))) [
      | true ↦ λ e.
          let shape : own.shape ≡ b.shape = fits 0 b refl ((bytes_eq-Decides b.name entry.name).0 e) in (
            subst (λ s. bad_state bytes (record { at = entry.at + 20; shape = s }) ≡ None) shape stands.state,
            good_blocks bytes own entry stands others (λ k c at named. fits (suc k) c at named),
          )
      | false ↦ λ e. good_blocks bytes own entry stands others (λ k c at named. fits (suc k) c at named)
    ] refl

pub states_good : (bytes : List ℕ) (owns others : List Own) (entries : List Entry)
    → StandFor bytes owns entries → OneShape owns others
    → AllByRecursion (λ block. bad_state bytes block ≡ None) (blocks_named others entries)
states_good bytes [] others [] stand one = tt
states_good bytes [] others (entry ∷ entries) stand one = absurd stand
states_good bytes (own ∷ owns) others [] stand one = tt
states_good bytes (own ∷ owns) others (entry ∷ entries) stand one =
    all_join (λ block. bad_state bytes block ≡ None) (blocks_of_entry others entry) (blocks_named others entries)
    (good_blocks bytes own entry stand.0 others (λ k b at named. one 0 k own b refl at (sym stand.0.name ∙ sym named)))
    (states_good bytes owns others entries stand.1 (λ j k a b there at named. one (suc j) k a b there at named))

-- something at a place passes a test
pub any_at : {A : Type 0} (test : A → Bool) (xs : List A) (k : ℕ) (x : A) → slice_get xs k ≡ Some x
    → test x ≡ true → list_any test xs ≡ true
any_at test [] k x at passes = absurd (cc at)
any_at test (y ∷ xs) zero x at passes =
    let is : y ≡ x = cc at in or_left (test y) (list_any test xs) (ap test is ∙ passes)
any_at test (y ∷ xs) (suc k) x at passes = or_right (test y) (list_any test xs) (any_at test xs k x at passes)

-- an own entry of either set that has one name relates them
pub related : (bytes : List ℕ) (owns others : List Own) (entries : List Entry)
    → StandFor bytes owns entries → (j k : ℕ) (a b : Own) → slice_get owns j ≡ Some a
    → slice_get others k ≡ Some b → a.name ≡ b.name
    → list_any (λ entry. has_named others entry.name) entries ≡ true
related bytes owns others entries stand j k a b there at named =
    let found : EntryAt bytes a entries j = entry_at_place bytes owns entries stand j a there in
    any_at (λ entry. has_named others entry.name) entries j found.entry found.there
    (any_at (λ own. bytes_eq own.name found.entry.name) others k b at
    ((bytes_eq-Decides b.name found.entry.name).1 (sym named ∙ sym found.stands.name)))

-- where no own entry has a name, no entry has
unnamed : (bytes : List ℕ) (owns : List Own) (entries : List Entry) → StandFor bytes owns entries
    → (name : Name) → ((j : ℕ) (a : Own) → slice_get owns j ≡ Some a → a.name ≡ name → ⊥)
    → (earlier : Option ℕ) → last_block name entries earlier ≡ earlier
unnamed bytes [] [] stand name none earlier = refl
unnamed bytes [] (entry ∷ entries) stand name none earlier = absurd stand
unnamed bytes (own ∷ owns) [] stand name none earlier = refl
unnamed bytes (own ∷ owns) (entry ∷ entries) stand name none earlier =
    elim (bytes_eq entry.name name) as (λ t. bytes_eq entry.name name ≡ t
    → last_block name entries (if t then Some (entry.at + 20) else earlier) ≡ earlier) [
      | true ↦ λ e. absurd (none 0 own refl (sym stand.0.name ∙ (bytes_eq-Decides entry.name name).0 e))
      | false ↦ λ e. unnamed bytes owns entries stand.1 name (λ j a at named. none (suc j) a at named) earlier
    ] refl

-- the block of an entry whose name no other has
pub last_is : (bytes : List ℕ) (owns : List Own) (entries : List Entry)
    → StandFor bytes owns entries → (name : Name) (k : ℕ) (a : Own) (entry : Entry)
    → slice_get owns k ≡ Some a → a.name ≡ name → slice_get entries k ≡ Some entry
    → ((j : ℕ) (b : Own) → slice_get owns j ≡ Some b → b.name ≡ name → j ≡ k) → (earlier : Option ℕ)
    → last_block name entries earlier ≡ Some (entry.at + 20)
last_is bytes [] entries stand name k a entry at named there only earlier = absurd (cc at)
last_is bytes (own ∷ owns) [] stand name k a entry at named there only earlier = absurd stand
last_is bytes (own ∷ owns) (first ∷ entries) stand name zero a entry at named there only earlier =
    let is : own ≡ a = cc at in
    let same : first ≡ entry = cc there in
    let named_so = (bytes_eq-Decides first.name name).1 (stand.0.name ∙ ap (λ o. o.name) is ∙ named) in
    rw named_so (unnamed bytes owns entries stand.1 name (λ j b at_b b_named. let e : suc j ≡ 0 =
    only (suc j) b at_b b_named in absurd (cc e)) (Some (first.at + 20))
    ∙ ap (λ e. Some (e.at + 20)) same)
last_is bytes (own ∷ owns) (first ∷ entries) stand name (suc k) a entry at named there only earlier =
    last_is bytes owns entries stand.1 name k a entry at named there
    (λ j b at_b b_named. let e : suc j ≡ suc k = only (suc j) b at_b b_named in
    cc e) (if bytes_eq first.name name then Some (first.at + 20) else earlier)

-- what items say at a place
pub said_at : (bytes : List ℕ) (shapes : List ItemShape) (places : List (Option ℕ)) (k : ℕ)
    (shape : ItemShape) (place : Option ℕ) → slice_get shapes k ≡ Some shape → slice_get places k
    ≡ Some place
    → slice_get (said_items bytes shapes places) k ≡ Some (said_or (said_item bytes shape) (plain_item shape) place)
said_at bytes [] places k shape place at there = absurd (cc at)
said_at bytes (s ∷ shapes) [] k shape place at there = absurd (cc there)
said_at bytes (s ∷ shapes) (p ∷ places) zero shape place at there =
    let is : s ≡ shape = cc at in
    let same : p ≡ place = cc there in
    λ i. Some (said_or (said_item bytes (is i)) (plain_item (is i)) (same i))
said_at bytes (s ∷ shapes) (p ∷ places) (suc k) shape place at there =
    said_at bytes shapes places k shape place at there
