-- Names with numbers and blocks that stand in a file, as they are read.
use Rattle.std.proofs.Common.{◌≡◌, ℕ, ◌+◌, ◌*◌, ◌<◌, ◌≤◌, ◌^◌, Bool, true, false, nat_lt, nat_le, Option, None, Some}
use Rattle.std.proofs.Common.{option_map, is_some, List, [], ◌∷◌, ◌++◌, length, length-append, map, sum_by, slice_index}
use Rattle.std.proofs.Common.{slice_index_or, refl, ◌∙◌, ap, ap₂, arith, inl, inr}
use Rattle.std.specs.List.{AllByRecursion}
use Rattle.std.specs.Int.{w32, to_le_bytes}
use Rattle.std.proofs.lemmas.Bool.{lt-ltb, le-ltb, le-leb, leb-true, eq-eqb, cases_lt}
use Rattle.std.proofs.lemmas.List.Sums.{sum_by-cons}
use Rattle.ra_progress.specs.declared.shape.ItemShape.{ItemShape}
use Rattle.ra_progress.specs.declared.shape.ItemShape.TheVariants.{Achievement, Leaderboard}
use Rattle.ra_progress.specs.declared.shape.PresenceShape.{PresenceShape}
use Rattle.ra_progress.specs.Contents.{Name, OfItem, OfPresence, Own, own_items, own_presence, KeptItem, OfAchievement}
use Rattle.ra_progress.specs.Contents.{OfBoard, KeptPresence, ItemFits, ItemsFit, PresenceFits, plain_presence}
use Rattle.ra_text.specs.Words.{word_at, words_at, words}
use Rattle.ra_progress.specs.Layout.{Entry, name_at, version_in, own_length, entry_after, entries_from, need_from}
use Rattle.ra_progress.specs.Names.{IsName}
use Rattle.ra_progress.specs.Spelling.{state_byte, item_bytes, presence_bytes, presence_block, named_words}
use Rattle.ra_progress.specs.Spelling.{named_blocks}
use Rattle.ra_progress.specs.Reading.{have_sizes, is_state, bad_state, blocks_beside}
use Rattle.ra_progress.specs.Saying.{is_earned, state_said, said_item, said_items, said_presence, said_or}
use Rattle.ra_progress.proofs.Blocks.{length_item, length_presence}
use Rattle.ra_progress.proofs.ByName.{numbered_from}
use Rattle.ra_progress.proofs.OwnOrder.{read_as}
use Rattle.ra_text.proofs.Pieces.{length_words, Stands, stands_first, stands_next, stands_take, stands_byte}
use Rattle.ra_text.proofs.Pieces.{stands_word, stands_words}

-- names with their numbers take twenty bytes each
pub length_named_words : (names : List Name) (numbers : List ℕ) → AllByRecursion IsName names
    → length numbers ≡ length names → length (named_words names numbers) ≡ 20 * length names
length_named_words [] [] are same = refl
length_named_words [] (number ∷ numbers) are same = absurd (omega (arith, same))
length_named_words (name ∷ names) [] are same = absurd (omega (arith, same))
length_named_words (name ∷ names) (number ∷ numbers) are same =
    let rest = length_named_words names numbers are.1 (omega (arith, same)) in
    omega (arith, rest, are.0.long, length-append name (to_le_bytes w32 number ++ named_words names numbers))

-- they are read again
pub numbered_stand : (bytes : List ℕ) (at j : ℕ) (names : List Name) (numbers : List ℕ)
    → AllByRecursion IsName names → length numbers ≡ length names → AllByRecursion (λ n. n < 2 ^ 32) numbers
    → Stands bytes (at + 20 * j) (named_words names numbers)
    → (map (λ n. n.name) (numbered_from bytes at j (length names))
    ≡ names) × (map (λ n. n.number) (numbered_from bytes at j (length names)) ≡ numbers)
numbered_stand bytes at j [] [] are same fit s = (refl, refl)
numbered_stand bytes at j [] (number ∷ numbers) are same fit s = absurd (omega (arith, same))
numbered_stand bytes at j (name ∷ names) [] are same fit s = absurd (omega (arith, same))
numbered_stand bytes at j (name ∷ names) (number ∷ numbers) are same fit s =
    let place = at + 20 * j in
    let later = to_le_bytes w32 number ++ named_words names numbers in
    let name_is : name_at bytes place ≡ name = stands_take bytes place 16 name are.0.long
    (stands_first bytes place name later s) in
    let word = stands_next bytes place (place + 16) name later (omega (arith, are.0.long)) s in
    let number_is : word_at bytes (place + 16) ≡ number = stands_word bytes (place + 16) number fit.0
    (stands_first bytes (place + 16) (to_le_bytes w32 number) (named_words names numbers) word) in
    let next : at + 20 * (j + 1) ≡ place + 16 + 4 = omega arith in
    let rest = numbered_stand bytes at (j + 1) names numbers are.1 (omega (arith, same)) fit.1
    (stands_next bytes (place + 16) (at + 20 * (j + 1)) (to_le_bytes w32 number)
    (named_words names numbers) next word) in
    (ap₂ (λ x xs. x ∷ xs) name_is rest.0, ap₂ (λ x xs. x ∷ xs) number_is rest.1)

-- a block of an own entry: as long as the shape says, and its state is in its table in version 3
pub record OwnBlock (own : Own) (block : List ℕ) : Type 0 where
  pub long : length block ≡ own_length own
  pub good : (bytes : List ℕ) (at : ℕ) → version_in bytes ≡ 3 → Stands bytes at block
      → bad_state bytes (read_as at own) ≡ None

abbrev pub Fitting : List Own → List (List ℕ) → Type 0
Fitting [] [] = Unit {0}
Fitting (own ∷ owns) (block ∷ blocks) = OwnBlock own block × Fitting owns blocks
Fitting _ _ = ⊥

-- entries of a file that have the names and blocks of own ones
abbrev pub StandBeside : List ℕ → List Own → List (List ℕ) → List Entry → Type 0
StandBeside bytes [] [] [] = Unit {0}
StandBeside bytes (own ∷ owns) (block ∷ blocks) (entry ∷ entries) =
    (entry.name ≡ own.name) × (entry.size ≡ length block) × Stands bytes
    (entry.at + 20) block × StandBeside bytes owns blocks entries
StandBeside bytes _ _ _ = ⊥

-- an own entry that a file can hold
pub record IsHeld (own : Own) : Type 0 where
  pub name : length own.name ≡ 16
  pub small : own_length own < 2 ^ 32

pub entries_stand : (bytes : List ℕ) (at : ℕ) (owns : List Own) (blocks : List (List ℕ)) → Fitting owns blocks
    → AllByRecursion IsHeld owns
    → Stands bytes at (named_blocks (map (λ own. own.name) owns) blocks)
    → StandBeside bytes owns blocks (entries_from bytes (length owns) at)
entries_stand bytes at [] [] fit held s = tt
entries_stand bytes at [] (block ∷ blocks) fit held s = absurd fit
entries_stand bytes at (own ∷ owns) [] fit held s = absurd fit
entries_stand bytes at (own ∷ owns) (block ∷ blocks) fit held s =
    let more = named_blocks (map (λ own. own.name) owns) blocks in
    let size = to_le_bytes w32 (length block) in
    let name_is : name_at bytes at ≡ own.name = stands_take bytes at 16 own.name held.0.name
    (stands_first bytes at own.name (size ++ (block ++ more)) s) in
    let sized = stands_next bytes at (at + 16) own.name (size ++ (block ++ more)) (omega (arith, held.0.name)) s in
    let size_is : word_at bytes (at + 16) ≡ length block = stands_word bytes (at + 16) (length block)
    (omega (arith, fit.0.long, held.0.small)) (stands_first bytes (at + 16) size (block ++ more) sized) in
    let next : at + 20 ≡ at + 16 + 4 = omega arith in
    let here = stands_next bytes (at + 16) (at + 20) size (block ++ more) next sized in
    let rest = stands_next bytes (at + 20) (entry_after bytes at) block more (omega (arith, size_is)) here in (
      name_is,
      size_is,
      stands_first bytes (at + 20) block more here,
      entries_stand bytes
          (entry_after bytes at) owns blocks fit.1 held.1 rest,
    )

-- the need of such entries
pub need_stand : (bytes : List ℕ) (at need : ℕ) (owns : List Own) (blocks : List (List ℕ)) → Fitting owns blocks
    → StandBeside bytes owns blocks (entries_from bytes (length owns) at)
    → need + sum_by own_length owns ≤ length bytes → need_from bytes (length owns) at need
    ≡ need + sum_by own_length owns
need_stand bytes at need [] [] fit stand within = omega arith
need_stand bytes at need [] (block ∷ blocks) fit stand within = absurd fit
need_stand bytes at need (own ∷ owns) [] fit stand within = absurd fit
need_stand bytes at need (own ∷ owns) (block ∷ blocks) fit stand within =
    let sum = sum_by-cons own_length own owns in
    let size : word_at bytes (at + 16) ≡ own_length own = stand.1 ∙ fit.0.long in
    let fine : nat_lt (length bytes) (need + word_at bytes (at + 16)) ≡ false = le-ltb (length bytes)
    (need + word_at bytes (at + 16)) (omega (arith, size, sum, within)) in
    let rest = need_stand bytes (entry_after bytes at) (need + word_at bytes (at + 16)) owns blocks fit.1 stand.3
    (omega (arith, size, sum, within)) in
    rw fine (rest ∙ sum_on need (word_at bytes (at + 16)) (own_length own) (sum_by own_length owns)
    (sum_by own_length (own ∷ owns)) size sum)
  where
    sum_on : (need size long more both : ℕ) → size ≡ long → both ≡ long + more → need + size + more ≡ need + both
    sum_on need size long more both same whole = omega (arith, same, whole)

pub sizes_stand : (bytes : List ℕ) (owns : List Own) (blocks : List (List ℕ)) (entries : List Entry)
    → Fitting owns blocks → StandBeside bytes owns blocks entries → have_sizes owns entries ≡ true
sizes_stand bytes [] [] [] fit stand = refl
sizes_stand bytes [] [] (entry ∷ entries) fit stand = absurd stand
sizes_stand bytes [] (block ∷ blocks) entries fit stand = absurd fit
sizes_stand bytes (own ∷ owns) [] entries fit stand = absurd fit
sizes_stand bytes (own ∷ owns) (block ∷ blocks) [] fit stand = absurd stand
sizes_stand bytes (own ∷ owns) (block ∷ blocks) (entry ∷ entries) fit stand =
    let same = eq-eqb entry.size (own_length own) (stand.1 ∙ fit.0.long) in
    rw same (sizes_stand bytes owns blocks entries fit.1 stand.3)

pub states_stand : (bytes : List ℕ) (owns : List Own) (blocks : List (List ℕ)) (entries : List Entry)
    → version_in bytes ≡ 3 → Fitting owns blocks → StandBeside bytes owns blocks entries
    → AllByRecursion (λ block. bad_state bytes block ≡ None) (blocks_beside owns entries)
states_stand bytes [] [] [] three fit stand = tt
states_stand bytes [] [] (entry ∷ entries) three fit stand = absurd stand
states_stand bytes [] (block ∷ blocks) entries three fit stand = absurd fit
states_stand bytes (own ∷ owns) [] entries three fit stand = absurd fit
states_stand bytes (own ∷ owns) (block ∷ blocks) [] three fit stand = absurd stand
states_stand bytes (own ∷ owns) (block ∷ blocks) (entry ∷ entries) three fit stand =
    (fit.0.good bytes (entry.at + 20) three stand.2, states_stand bytes owns blocks entries three fit.1 stand.3)

pub names_stand : (bytes : List ℕ) (owns : List Own) (blocks : List (List ℕ)) (entries : List Entry)
    → StandBeside bytes owns blocks entries → map (λ entry. entry.name) entries ≡ map (λ own. own.name) owns
names_stand bytes [] [] [] stand = refl
names_stand bytes [] [] (entry ∷ entries) stand = absurd stand
names_stand bytes [] (block ∷ blocks) entries stand = absurd stand
names_stand bytes (own ∷ owns) [] entries stand = absurd stand
names_stand bytes (own ∷ owns) (block ∷ blocks) [] stand = absurd stand
names_stand bytes (own ∷ owns) (block ∷ blocks) (entry ∷ entries) stand =
    ap₂ (λ x xs. x ∷ xs) stand.0 (names_stand bytes owns blocks entries stand.3)

pub length_named_blocks : (owns : List Own) (blocks : List (List ℕ)) → Fitting owns blocks
    → AllByRecursion IsHeld owns
    → length (named_blocks (map (λ own. own.name) owns) blocks) ≡ 20 * length owns + sum_by own_length owns
length_named_blocks [] [] fit held = refl
length_named_blocks [] (block ∷ blocks) fit held = absurd fit
length_named_blocks (own ∷ owns) [] fit held = absurd fit
length_named_blocks (own ∷ owns) (block ∷ blocks) fit held =
    let more = named_blocks (map (λ own. own.name) owns) blocks in
    let rest = length_named_blocks owns blocks fit.1 held.1 in
    omega (
      arith,
      rest,
      fit.0.long,
      held.0.name,
      sum_by-cons own_length own owns,
      length-append own.name
          (to_le_bytes w32 (length block) ++ (block ++ more)),
      length-append block more,
    )

not_le : (a b : ℕ) → b < a → nat_le a b ≡ false
not_le a b less = elim (nat_le a b) as (λ x. nat_le a b ≡ x → x ≡ false) [
  | true ↦ λ e. absurd (omega (arith, leb-true a b e, less))
  | false ↦ λ e. refl
] refl

-- the state byte of an achievement in version 3
state_in_table : (hits state : ℕ) (earned : Bool) → state ≤ 4 → (state ≡ 4 → earned ≡ true)
    → is_state 3 (Achievement hits) (state_byte state earned) ≡ true
state_in_table hits state true most triggered =
    let high : nat_lt (state + 8) 4 ≡ false = le-ltb (state + 8) 4 (omega (arith, most)) in
    let from : nat_le 8 (state + 8) ≡ true = le-leb 8 (state + 8) (omega arith) in
    let below : nat_lt (state + 8) 13 ≡ true = lt-ltb (state + 8) 13 (omega (arith, most)) in
    rw (high, from, below) refl
state_in_table hits state false most triggered = elim (cases_lt state 4) [
  | inl less ↦ let low : nat_lt (state + 0) 4 ≡ true = lt-ltb (state + 0) 4 (omega (arith, less)) in rw low refl
  | inr over ↦ absurd (cc (triggered (omega (arith, most, over))))
]

state_again : (state : ℕ) (earned : Bool) → state ≤ 4
    → (state_said 3 (state_byte state earned) ≡ state) × (is_earned 3 (state_byte state earned) ≡ earned)
state_again state true most =
    let from : nat_le 8 (state + 8) ≡ true = le-leb 8 (state + 8) (omega arith) in
    (rw from (omega arith), rw from refl)
state_again state false most =
    let low : nat_le 8 (state + 0) ≡ false = not_le 8 (state + 0) (omega (arith, most)) in
    (rw low (omega arith), rw low refl)

-- the block of an item that stands in version 3 says the item
said_item_is : (bytes : List ℕ) (at : ℕ) (shape : ItemShape) (item : KeptItem) → version_in bytes ≡ 3
    → ItemFits shape item → Stands bytes at (item_bytes item) → said_item bytes shape at ≡ item
said_item_is bytes at (Achievement count) (OfAchievement state measured hits earned) three fits s =
    let byte = state_byte state earned in
    let byte_is : slice_index bytes at ≡ byte = stands_byte bytes at byte (words (measured ∷ hits)) s in
    let behind = stands_next bytes at (at + 1) (byte ∷ []) (words (measured ∷ hits)) refl s in
    let measured_is = stands_word bytes (at + 1) measured fits.2
    (stands_first bytes (at + 1) (to_le_bytes w32 measured) (words hits) behind) in
    let hits_are = stands_words bytes (at + 5) count hits fits.3.as_many fits.3.fit
    (stands_next bytes (at + 1) (at + 5) (to_le_bytes w32 measured) (words hits) (omega arith) behind) in
    let again = state_again state earned fits.0 in
    rw (three, byte_is, measured_is, hits_are, again.0, again.1) refl
said_item_is bytes at (Leaderboard count parts) (OfBoard state hits numbers) three fits s =
    let byte_is : slice_index bytes at ≡ state = stands_byte bytes at state (words hits ++ words numbers) s in
    let behind = stands_next bytes at (at + 1) (state ∷ []) (words hits ++ words numbers) refl s in
    let hits_are = stands_words bytes (at + 1) count hits fits.1.as_many fits.1.fit
    (stands_first bytes (at + 1) (words hits) (words numbers) behind) in
    let next : at + 1 + 4 * count ≡ at + 1 + length (words hits) = omega
    (arith, length_words hits, fits.1.as_many) in
    let numbers_are = stands_words bytes (at + 1 + 4 * count) parts numbers fits.2.as_many fits.2.fit
    (stands_next bytes (at + 1) (at + 1 + 4 * count) (words hits) (words numbers) next behind) in
    rw (byte_is, hits_are, numbers_are) refl
said_item_is bytes at (Achievement count) (OfBoard state hits numbers) three fits s = absurd fits
said_item_is bytes at (Leaderboard count parts) (OfAchievement state measured hits earned) three fits s =
    absurd fits

item_good : (shape : ItemShape) (item : KeptItem) (bytes : List ℕ) (at : ℕ) → ItemFits shape item
    → version_in bytes ≡ 3 → Stands bytes at (item_bytes item)
    → is_state (version_in bytes) shape (slice_index bytes at) ≡ true
item_good (Achievement count) (OfAchievement state measured hits earned) bytes at fits three s =
    ap₂ (λ version byte. is_state version (Achievement count) byte) three
    (stands_byte bytes at (state_byte state earned) (words (measured ∷ hits)) s)
    ∙ state_in_table count state earned fits.0 fits.1
item_good (Leaderboard count parts) (OfBoard state hits numbers) bytes at fits three s =
    ap (λ byte. nat_lt byte 5) (stands_byte bytes at state (words hits ++ words numbers) s) ∙ lt-ltb state 5
    (omega (arith, fits.0))
item_good (Achievement count) (OfBoard state hits numbers) bytes at fits three s = absurd fits
item_good (Leaderboard count parts) (OfAchievement state measured hits earned) bytes at fits three s = absurd fits

own_item_block : (name : Name) (shape : ItemShape) (item : KeptItem) → ItemFits shape item
    → OwnBlock (record { name = name; shape = OfItem shape }) (item_bytes item)
own_item_block name shape item fits = record {
  long = length_item shape item fits;
  good = λ bytes at three s. rw (item_good shape item bytes at fits three s) refl;
}

-- the block of a script that stands says what is kept
pub said_presence_is : (bytes : List ℕ) (at : ℕ) (shape : PresenceShape) (p : KeptPresence) → shape.lines < 2 ^ 32
    → PresenceFits (Some shape) (Some p) → Stands bytes at (presence_bytes p)
    → (said_presence bytes shape at ≡ p) × (word_at bytes at ≡ p.shown)
said_presence_is bytes at shape p small fits s =
    let front : Stands bytes at (words (p.shown ∷ p.hits)) = stands_first bytes at (words (p.shown ∷ p.hits))
    (words p.numbers) s in
    let shown_is : word_at bytes at ≡ p.shown = stands_word bytes at p.shown (omega (arith, fits.0, small))
    (stands_first bytes at (to_le_bytes w32 p.shown) (words p.hits) front) in
    let hits_are : words_at bytes (at + 4) shape.hits ≡ p.hits = stands_words bytes
    (at + 4) shape.hits p.hits fits.1.as_many fits.1.fit
    (stands_next bytes at (at + 4) (to_le_bytes w32 p.shown) (words p.hits) refl front) in
    let next : at + 4 + 4 * shape.hits ≡ at + length (words (p.shown ∷ p.hits)) = omega
    (arith, length_words (p.shown ∷ p.hits), fits.1.as_many) in
    let numbers_are : words_at bytes (at + 4 + 4 * shape.hits) shape.parts ≡ p.numbers = stands_words bytes
    (at + 4 + 4 * shape.hits) shape.parts p.numbers fits.2.as_many fits.2.fit
    (stands_next bytes at (at + 4 + 4 * shape.hits) (words (p.shown ∷ p.hits)) (words p.numbers) next s) in
    (rw (shown_is, hits_are, numbers_are) refl, shown_is)

own_script_block : (name : Name) (shape : PresenceShape) (p : KeptPresence) → shape.lines < 2 ^ 32
    → PresenceFits (Some shape) (Some p)
    → OwnBlock (record { name = name; shape = OfPresence shape }) (presence_bytes p)
own_script_block name shape p small fits = record {
  long = length_presence shape p fits;
  good = λ bytes at three s.
      let below : nat_lt (word_at bytes at) shape.lines ≡ true = lt-ltb (word_at bytes at) shape.lines
      (omega (arith, (said_presence_is bytes at shape p small fits s).1, fits.0)) in
      rw below refl;
}

pub fitting_script : (name : Option Name) (shape : Option PresenceShape) (p : Option KeptPresence)
    → is_some name ≡ is_some shape → ((q : PresenceShape) → shape ≡ Some q → q.lines < 2 ^ 32)
    → PresenceFits shape p → Fitting (own_presence name shape) (presence_block p)
fitting_script None None None same small fits = tt
fitting_script None None (Some p) same small fits = absurd fits
fitting_script None (Some shape) p same small fits = absurd (cc same)
fitting_script (Some name) None p same small fits = absurd (cc same)
fitting_script (Some name) (Some shape) None same small fits = absurd fits
fitting_script (Some name) (Some shape) (Some p) same small fits =
    (own_script_block name shape p (small shape refl) fits, tt)

pub fitting : (names : List Name) (shapes : List ItemShape) (items : List KeptItem)
    (rest : List Own) (more : List (List ℕ)) → length names ≡ length shapes → ItemsFit shapes items
    → Fitting rest more → Fitting (own_items names shapes ++ rest) (map item_bytes items ++ more)
fitting [] [] [] rest more same fits behind = behind
fitting [] [] (item ∷ items) rest more same fits behind = absurd fits
fitting [] (shape ∷ shapes) items rest more same fits behind = absurd (omega (arith, same))
fitting (name ∷ names) [] items rest more same fits behind = absurd (omega (arith, same))
fitting (name ∷ names) (shape ∷ shapes) [] rest more same fits behind = absurd fits
fitting (name ∷ names) (shape ∷ shapes) (item ∷ items) rest more same fits behind = (
  own_item_block name shape item fits.0,
  fitting names shapes items rest more
      (omega (arith, same)) fits.1 behind,
)

-- where the block of an entry stands
abbrev pub place_of_block : Entry → Option ℕ
place_of_block entry = Some (entry.at + 20)

-- what comes of items that stand, and what stands behind them
pub record SaidItems (bytes : List ℕ) (shapes : List ItemShape) (items : List KeptItem)
    (rest : List Own) (more : List (List ℕ)) (entries : List Entry) : Type 0 where
  pub are : said_items bytes shapes (map place_of_block entries) ≡ items
  pub tail : List Entry
  pub behind : StandBeside bytes rest more tail
  pub script : slice_index_or (map place_of_block entries) (length shapes) None
      ≡ slice_index_or (map place_of_block tail) 0 None

pub said_items_are : (bytes : List ℕ) (names : List Name) (shapes : List ItemShape)
    (items : List KeptItem) (rest : List Own) (more : List (List ℕ)) (entries : List Entry)
    → version_in bytes ≡ 3 → length names ≡ length shapes → ItemsFit shapes items
    → StandBeside bytes (own_items names shapes ++ rest) (map item_bytes items ++ more) entries
    → SaidItems bytes shapes items rest more entries
said_items_are bytes [] [] [] rest more entries three same fits stand =
    record { are = refl; tail = entries; behind = stand; script = refl }
said_items_are bytes [] [] (item ∷ items) rest more entries three same fits stand = absurd fits
said_items_are bytes [] (shape ∷ shapes) items rest more entries three same fits stand =
    absurd (omega (arith, same))
said_items_are bytes (name ∷ names) [] items rest more entries three same fits stand = absurd (omega (arith, same))
said_items_are bytes (name ∷ names) (shape ∷ shapes) [] rest more entries three same fits stand = absurd fits
said_items_are bytes (name ∷ names) (shape ∷ shapes) (item ∷ items) rest more [] three same fits stand =
    absurd stand
said_items_are bytes (name ∷ names) (shape ∷ shapes) (item ∷ items) rest more (entry ∷ entries) three same fits stand =
    let later = said_items_are bytes names shapes items rest more entries three
    (omega (arith, same)) fits.1 stand.3 in
    record {
      are = ap₂ (λ x xs. x ∷ xs) (said_item_is bytes (entry.at + 20) shape item three fits.0 stand.2) later.are;
      tail = later.tail;
      behind = later.behind;
      script = later.script;
    }

-- what comes of the script, which stands behind the items
pub said_script_is : (bytes : List ℕ) (name : Option Name) (shape : Option PresenceShape)
    (p : Option KeptPresence) (tail : List Entry) → is_some name ≡ is_some shape
    → ((q : PresenceShape) → shape ≡ Some q → q.lines < 2 ^ 32) → PresenceFits shape p
    → StandBeside bytes (own_presence name shape) (presence_block p) tail
    → option_map (λ q. said_or (said_presence bytes q) (plain_presence q)
    (slice_index_or (map place_of_block tail) 0 None)) shape ≡ p
said_script_is bytes None None None tail same small fits stand = refl
said_script_is bytes None None (Some p) tail same small fits stand = absurd fits
said_script_is bytes None (Some shape) p tail same small fits stand = absurd (cc same)
said_script_is bytes (Some name) None p tail same small fits stand = absurd (cc same)
said_script_is bytes (Some name) (Some shape) None tail same small fits stand = absurd fits
said_script_is bytes (Some name) (Some shape) (Some p) [] same small fits stand = absurd stand
said_script_is bytes (Some name) (Some shape) (Some p) (entry ∷ tail) same small fits stand =
    ap Some (said_presence_is bytes (entry.at + 20) shape p (small shape refl) fits stand.2).0
