-- A worked example of a changed set: the names of two files tell what they are of, so the line that both have goes on.
use Rattle.std.proofs.Common.{◌≡◌, ◌≢◌, ℕ, ◌<◌, ◌≤◌, length, ◌==◌, false, if◌then◌else◌, None, Some, Ok, option_map}
use Rattle.std.proofs.Common.{List, [], ◌∷◌, ◌++◌, map, inl, inr, refl, sym, ◌∙◌, ap, codes, arith, slice_index}
use Rattle.std.proofs.Common.{slice_set, replicate}
use Rattle.std.specs.Fmt.{digits}
use Rattle.std.specs.List.{AllByRecursion, IsDistinct}
use Rattle.md5.specs.Md5.{md5, digest_bytes, hash_after, compress, rounds, block_words}
use Rattle.ra_text.specs.ReadingNumbers.{numeral_at, saturated_at, signed_at}
use Rattle.ra_operand.specs.declared.operand.Operand.TheVariants.{Cell as CellOperand, Const}
use Rattle.ra_operand.specs.declared.op.Op.TheVariants.{Eq}
use Rattle.ra_operand.specs.declared.kind.Kind.TheVariants.{Mem}
use Rattle.ra_operand.specs.declared.size.Size.TheVariants.{Byte}
use Rattle.ra_operand.specs.Reading.{memory_at, hex_constant_at, decimal_constant_at, unsigned_at, constant_at}
use Rattle.ra_operand.specs.Reading.{recall_at, cell_or_constant_at, operand_at}
use Rattle.ra_condition.specs.declared.flag.Flag.TheVariants.{Plain}
use Rattle.ra_condition.specs.Contents.{TriggerContents}
use Rattle.ra_condition.specs.Reading.{equal_at, unequal_at, less_at, greater_at, less_or_greater_at}
use Rattle.ra_condition.specs.Reading.{unequal_or_ordered_at, comparison_at, between_at, dotted_at, bracketed_at}
use Rattle.ra_condition.specs.Reading.{bracketed_or_none_at, target_at, compared_at, ignored_at, computed_at}
use Rattle.ra_condition.specs.Reading.{computed_or_bare_at, modified_at, compared_or_bare_at, unflagged_at, flagged_at}
use Rattle.ra_condition.specs.Reading.{condition_at, conditions_at, group_at, groups_at, trigger_at}
use Rattle.ra_indirect.specs.Trees.{Tree, constant, view, Cell}
use Rattle.ra_set.specs.Accepted.{IsSet, repeats}
use Rattle.ra_set.specs.Contents.{ItemContents, Unlocks, SetContents}
use Rattle.ra_set.specs.Grammar.{Line, items_of}
use Rattle.ra_set.specs.Limits.{IsWithinLimits}
use Rattle.ra_set.specs.Reading.{id_at, format_at, comment_at, head_at, achievement_at, leaderboard_at}
use Rattle.ra_set.specs.Reading.{leaderboard_or_empty_at, item_line_at, comment_row_at, item_row_at, row_at, front_at}
use Rattle.ra_set.specs.Reading.{lines_in}
use Rattle.ra_set.specs.Texts.{item_texts, script_text}
use Rattle.ra_set.proofs.FileLemmas.{lines-all}
use Rattle.ra_set.proofs.FileReaders.{reads-front}
use Rattle.ra_set.proofs.FrontLemmas.{file-of_lines}
use Rattle.ra_member.proofs.Listed.{In}
use Rattle.ra_memory.specs.Image.{History, AreBytes, AreImages}
use Rattle.ra_progress.specs.Contents.{IsOpening}
use Rattle.ra_meaning.specs.Changed.{NamesTell, Thing, OfText, OfTree, OfCell, thing_name, things_in, AllNamesApart}
use Rattle.ra_meaning.specs.Changed.{GoesOnIn, kept_behind, taken_up, lines_at}
use Rattle.ra_meaning.specs.Earned.{earned_in, HoldTriggered}
use Rattle.ra_meaning.specs.Openings.{plain_opening, snapshot}
use Rattle.ra_meaning.specs.Order.{shape_of}
use Rattle.ra_meaning.proofs.Changed.ChangedSets.{sets_go_on}
use Rattle.ra_meaning.proofs.Each.{each_replicate, each_set}
use Rattle.ra_meaning.proofs.Changed.NamedThings.{apart_within}
use Rattle.ra_meaning.proofs.SetFiles.{set_spelled}
use Rattle.ra_meaning.proofs.Changed.SharedOwns.{in_contained}
use Rattle.ra_meaning.proofs.Openings.Snapshots.{plain_is_opening}

-- an achievement, and a file in which another one stands before it
abbrev hits_text : List ℕ
hits_text = codes "A 1 0xH0010=5.3."

abbrev new_text : List ℕ
new_text = codes "A 2 0xH0011=1"

abbrev file : List ℕ
file = codes "A 1 0xH0010=5.3.\n"

abbrev changed_file : List ℕ
changed_file = codes "A 2 0xH0011=1\nA 1 0xH0010=5.3.\n"

-- a byte that equals a number, so many times
abbrev equals : (address number target : ℕ) → TriggerContents
equals address number target = record {
  core = record
      { flag = Plain; left = CellOperand Mem Byte address; op = Eq; right = Const number; target = target } ∷ [];
  alts = [];
}

abbrev hits_item : ItemContents
hits_item = Unlocks 1 (equals 0x10 5 3)

abbrev new_item : ItemContents
new_item = Unlocks 2 (equals 0x11 1 0)

-- the set of these items, with the digest and the names of its file
abbrev set_of : List ℕ → List ItemContents → SetContents
set_of text items = record {
  items = items;
  script = None;
  digest = md5 text;
  item_names = map md5 (item_texts text);
  script_name = option_map md5 (script_text text);
}

abbrev set : SetContents
set = set_of file (hits_item ∷ [])

abbrev changed : SetContents
changed = set_of changed_file (new_item ∷ hits_item ∷ [])

-- ---- the files are these sets

both_read : (lines_in (front_at file) ≡ Ok ((Some hits_item ∷ None ∷ [], false), [])) × (lines_in
    (front_at changed_file) ≡ Ok ((Some new_item ∷ Some hits_item ∷ None ∷ [], false), []))
unfolding front_at row_at item_row_at comment_row_at item_line_at leaderboard_or_empty_at
    leaderboard_at achievement_at head_at comment_at format_at id_at trigger_at groups_at group_at
    conditions_at condition_at flagged_at unflagged_at modified_at compared_or_bare_at
    computed_or_bare_at computed_at ignored_at compared_at comparison_at equal_at
    unequal_or_ordered_at unequal_at less_or_greater_at less_at greater_at operand_at recall_at
    cell_or_constant_at memory_at constant_at unsigned_at decimal_constant_at hex_constant_at
    signed_at saturated_at numeral_at target_at bracketed_or_none_at bracketed_at dotted_at
    between_at
both_read = (refl, refl)

-- a text that is read as lines without a script is the set of their items
read_is : (text : List ℕ) (lines : List Line) → lines_in (front_at text) ≡ Ok ((lines, false), [])
    → length text ≤ 4194304 → IsDistinct repeats (items_of lines)
    → IsWithinLimits (set_of text (items_of lines)) → IsSet text (set_of text (items_of lines))
read_is text lines read size ids limits = record {
  size = size;
  spelled = record {
    contents = record { lines = lines; script = None };
    spelled = file-of_lines text lines (lines-all text (front_at text) (reads-front text) lines [] read);
    items = refl;
    script = refl;
  };
  ids = ids;
  limits = limits;
  digest = refl;
  item_names = refl;
  script_name = refl;
}

is_set : IsSet file set
unfolding IsDistinct
is_set =
    read_is file (Some hits_item ∷ None ∷ []) both_read.0 (omega arith) (tt, tt)
    (record { items = omega arith; conditions = omega arith; script = tt })

changed_is_set : IsSet changed_file changed
unfolding IsDistinct
changed_is_set =
    read_is changed_file (Some new_item ∷ Some hits_item ∷ None ∷ []) both_read.1 (omega arith)
    ((refl, tt), (tt, tt))
    (record { items = omega arith; conditions = omega arith; script = tt })

-- ---- their names tell what they are of

holds_in : {A : Type 0} (P : A → Type 0) (x : A) (xs : List A) → In x xs → AllByRecursion P xs → P x
holds_in P x [] h all = absurd h
holds_in P x (y ∷ ys) h all = elim h [ inl e ↦ rw e all.0 | inr r ↦ holds_in P x ys r all.1 ]

-- names tell where something gives each thing back from its name
tell_back : {A : Type 0} (name : A → List ℕ) (back : List ℕ → A) (things : List A)
    → AllByRecursion (λ a. back (name a) ≡ a) things → NamesTell name things
tell_back name back things all a b here there named =
    sym (holds_in (λ x. back (name x) ≡ x) a things (in_contained a things here) all)
    ∙ ap back named
    ∙ holds_in (λ x. back (name x) ≡ x) b things (in_contained b things there) all

abbrev cell_at : ℕ → Cell
cell_at address = record { pointer = constant 0; address = address; width = 1 }

abbrev view_at : ℕ → Tree
view_at address = view Mem Byte (constant 0) address

-- the nine things of both files, each by the first byte of its name
abbrev thing_back : List ℕ → Thing
thing_back name =
    let first = slice_index name 0 in
    if first == 0x79 then OfText hits_text
    else if first == 0xcb then OfText new_text
    else if first == 0x16 then OfTree (view_at 0x10)
    else if first == 0xc9 then OfTree (view_at 0x11)
    else if first == 0x68 then OfTree (constant 0)
    else if first == 0x46 then OfTree (constant 5)
    else if first == 0xb6 then OfTree (constant 1)
    else if first == 0x59 then OfCell (cell_at 0x10)
    else OfCell (cell_at 0x11)

all_back : AllByRecursion (λ thing. thing_back (thing_name thing) ≡ thing)
    (things_in file set ++ things_in changed_file changed)
unfolding md5 digest_bytes hash_after compress rounds block_words
all_back = (
  refl,
  (refl, (refl, (refl, (refl, (refl, (refl, (refl, (refl, (refl, (refl, (refl, (refl, (refl, (refl, tt)))))))))))))),
)

digests_apart : set.digest ≢ changed.digest
unfolding md5 digest_bytes hash_after compress rounds block_words
digests_apart same =
    let bad : ◌≡◌ {A = ℕ} 0x95 0x30 = ap (λ digest. slice_index digest 0) same in absurd (omega (arith, bad))

all_apart : AllNamesApart file changed_file set changed
all_apart = record {
  names = tell_back thing_name thing_back (things_in file set ++ things_in changed_file changed) all_back;
  digests = inr digests_apart;
}

-- so the achievement goes on in the changed set
hits_go_on : GoesOnIn file changed_file set changed
hits_go_on =
    sets_go_on file changed_file set changed is_set changed_is_set
    (apart_within file changed_file set changed all_apart)

-- ---- the file that the set wrote after three frames, the byte being 5 at two of them, is gone on with

abbrev before : List ℕ
before = replicate 32 0

abbrev five : List ℕ
five = slice_set before 0x10 5

abbrev behind : History
behind = five ∷ five ∷ before ∷ []

bytes_so : AreImages behind
bytes_so =
    let zeros : AreBytes before = each_replicate (λ b. b < 256) 32 0 (omega arith) in
    let fives : AreBytes five = each_set (λ b. b < 256) before 0x10 5 (omega arith) zeros in
    (fives, (fives, (zeros, tt)))

opening : IsOpening (shape_of set) (plain_opening set)
opening = plain_is_opening set (set_spelled file set is_set)

waits : HoldTriggered (false ∷ []) (snapshot set (plain_opening set) behind).items
waits = (λ triggered. absurd (omega (arith, triggered)), tt)

third_hit_unlocks : lines_at changed (taken_up set changed
    (kept_behind set (plain_opening set) behind (false ∷ []))) (five ∷ []) (earned_in (taken_up set
    changed (kept_behind set (plain_opening set) behind (false ∷ [])))) 1 ≡ codes "unlock 3 1\n"
unfolding digits
third_hit_unlocks =
    (hits_go_on.items (plain_opening set) behind (false ∷ []) 0 1 hits_text opening bytes_so waits
    refl refl).1.prints (five ∷ []) (λ none. absurd cc)
