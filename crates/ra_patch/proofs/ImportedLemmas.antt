-- Where a document gives a set file, nothing is left out.
use Rattle.std.proofs.Common.{◌≡◌, ◌∙◌, ℕ, ◌+◌, ◌==◌, ◌||◌, suc, Bool, true, false, List, [], ◌∷◌, ◌++◌, length, map}
use Rattle.std.proofs.Common.{slice_get, Option, Some, None, is_some, option_map, option_and_then, unwrap_or, refl, sym}
use Rattle.std.proofs.Common.{ap, subst, subst₂, codes, append-nil, append_assoc, arith}
use Rattle.std.specs.List.{AllByRecursion, IsDistinct, flat_map}
use Rattle.std.proofs.lemmas.List.Folds.{list_any-append}
use Rattle.serde_json.specs.Data.{Data}
use Rattle.serde_json.specs.Find.{get, as_object}
use Rattle.ra_richpresence.specs.Grammar.{ScriptParts, script_of}
use Rattle.ra_set.specs.Accepted.{repeats}
use Rattle.ra_set.specs.Contents.{ItemContents}
use Rattle.ra_set.specs.Grammar.{items_of}
use Rattle.ra_set.specs.Names.{IsItemText, IsScriptText}
use Rattle.ra_set.proofs.ItemTexts.{Beside, texts-spelled}
use Rattle.ra_set.proofs.RepeatLemmas.{repeats-symm}
use Rattle.ra_patch.specs.declared.item_kind.ItemKind.{ItemKind}
use Rattle.ra_patch.specs.declared.item_kind.ItemKind.TheVariants.{Achievement, Leaderboard}
use Rattle.ra_patch.specs.declared.refused.PatchRefused.{PatchRefused}
use Rattle.ra_patch.specs.Answers.{GivesSet, Imports}
use Rattle.ra_patch.specs.Faults.{achievement_breaks, achievement_faults, achievements_or_none, board_breaks}
use Rattle.ra_patch.specs.Faults.{board_faults, boards_or_none, faults_from, root_faults, unless}
use Rattle.ra_patch.specs.Fields.{achievements_in, boards_in, has_patch, list_in, optional_list, optional_text}
use Rattle.ra_patch.specs.Fields.{patch_field, presence_in}
use Rattle.ra_patch.specs.LeftAnswers.{LeavesDocument, LeavesLists, LeavesValue}
use Rattle.ra_patch.specs.Leaving.{IsScriptPlace, IsScriptVerdict, Leaves, of_more, of_none, cause_of, fault_of, has_id}
use Rattle.ra_patch.specs.Leaving.{id_of, item_faults, line_of}
use Rattle.ra_patch.specs.Lines.{presence_lines}
use Rattle.ra_patch.specs.Patches.{holders_by, holders_in, holders_of, items_in, object_in, own_items, own_list}
use Rattle.ra_patch.specs.Patches.{patch_by, patch_in, script_in, wrong_field, wrong_holders, wrong_list, wrong_patch}
use Rattle.ra_patch.specs.Patches as patches
use Rattle.ra_patch.proofs.CutLemmas.{EachInner, HasTexts, SpellsText, bare_line, inner-bare, item-text, presence-texts}
use Rattle.ra_patch.proofs.CutLemmas.{shown, with-lines}
use Rattle.ra_patch.proofs.KeptLemmas.{same-repeats}
use Rattle.ra_patch.proofs.LineLemmas.{IsOf, none-before, none-behind, unless-holds}

-- ---- faults

-- each item of a list has no fault
abbrev pub Faultless : ItemKind → List Data → Type 0
Faultless kind [] = Unit {0}
Faultless kind (d ∷ ds) = (fault_of kind d ≡ None) × Faultless kind ds

pub unless-any : (holds : Bool) (why other : PatchRefused) → unless holds why ≡ [] → unless holds other ≡ []
unless-any true why other e = refl
unless-any false why other e = absurd (cc e)

pub none-both : (a b : List PatchRefused) → a ≡ [] → b ≡ [] → a ++ b ≡ []
none-both a b x y = rw (x, y) refl

-- faults that are none at an index are none at any
pub achievement-any : (n m : ℕ) (d : Data) → achievement_faults n d ≡ [] → achievement_faults m d ≡ []
achievement-any n m d e =
    none-both _ _ (unless-any _ _ _ (none-before _ _ e)) (unless-any _ _ _ (none-behind _ _ e))

pub board-any : (n m : ℕ) (d : Data) → board_faults n d ≡ [] → board_faults m d ≡ []
board-any n m d e =
    none-both _ _
    (none-both _ _ (unless-any _ _ _ (none-before _ _ (none-before _ _ e)))
    (unless-any _ _ _ (none-behind _ _ (none-before _ _ e))))
    (unless-any _ _ _ (none-behind _ _ e))

none-of : (faults : List PatchRefused) → faults ≡ [] → option_map cause_of (slice_get faults 0) ≡ None
none-of faults e = ap (λ f. option_map cause_of (slice_get f 0)) e

faultless-achievements : (n m : ℕ) (ds : List Data) → faults_from achievement_faults n ds ≡ []
    → faults_from achievement_breaks m ds ≡ []
    → Faultless Achievement ds
faultless-achievements n m [] e f = tt
faultless-achievements n m (d ∷ ds) e f = (
  none-of (item_faults Achievement d)
      (none-both _ _ (achievement-any n 0 d (none-before _ _ e)) (unless-any _ _ _ (none-before _ _ f))),
  faultless-achievements (n + 1) (m + 1) ds (none-behind (achievement_faults n d) _ e)
      (none-behind (achievement_breaks m d) _ f),
)

faultless-boards : (n m : ℕ) (ds : List Data) → faults_from board_faults n ds ≡ [] → faults_from board_breaks m ds ≡ []
    → Faultless Leaderboard ds
faultless-boards n m [] e f = tt
faultless-boards n m (d ∷ ds) e f = (
  none-of (item_faults Leaderboard d) (none-both _ _ (board-any n 0 d (none-before _ _ e))
      (unless-any _ _ _ (none-before _ _ f))),
  faultless-boards (n + 1) (m + 1) ds (none-behind (board_faults n d) _ e) (none-behind (board_breaks m d) _ f),
)

each-inner : (kind : ItemKind) (ds : List Data) → Faultless kind ds → EachInner kind ds
each-inner kind [] all = tt
each-inner kind (d ∷ ds) all = (inner-bare kind d all.0, each-inner kind ds all.1)

-- ---- items of a file

-- each item spells the item of a set that stands beside it
abbrev Pairs : ItemKind → List Data → List ItemContents → Type 0
Pairs kind [] [] = Unit {0}
Pairs kind (d ∷ ds) (x ∷ xs) = SpellsText kind d x × Pairs kind ds xs
Pairs kind _ _ = ⊥

beside-from : (texts : List (List ℕ)) (items : List ItemContents) → length texts ≡ length items
    → ((k : ℕ) (text : List ℕ) (item : ItemContents) → slice_get texts k ≡ Some text → slice_get items k ≡ Some item
    → IsItemText text item)
    → Beside texts items
beside-from [] [] e all = tt
beside-from [] (x ∷ items) e all = absurd (omega (arith, e))
beside-from (t ∷ texts) [] e all = absurd (omega (arith, e))
beside-from (t ∷ texts) (x ∷ items) e all =
    (all 0 t x refl refl, beside-from texts items (omega (arith, e)) (λ k text item a b. all (suc k) text item a b))

-- items of a set are those of a first list and others behind them
record Splits (kind : ItemKind) (ds : List Data) (texts : List (List ℕ)) (items : List ItemContents) : Type 0 where
  front : List ItemContents
  behind : List ItemContents
  parts : items ≡ front ++ behind
  pairs : Pairs kind ds front
  others : Beside texts behind

splits : (kind : ItemKind) (ds : List Data) (texts : List (List ℕ)) (items : List ItemContents) → Faultless kind ds
    → Beside (map (bare_line kind) ds ++ texts) items → Splits kind ds texts items
splits kind [] texts items all b = record { front = []; behind = items; parts = refl; pairs = tt; others = b }
splits kind (d ∷ ds) texts [] all b = absurd b
splits kind (d ∷ ds) texts (x ∷ items) all b = let s = splits kind ds texts items all.1 b.1 in record {
  front = x ∷ s.front;
  behind = s.behind;
  parts = ap (λ t. x ∷ t) s.parts;
  pairs = (item-text kind d x all.0 b.0, s.pairs);
  others = s.others;
}

-- ---- ids

all-front : (test : ItemContents → Bool) (xs ys : List ItemContents) → AllByRecursion (λ y. test y ≡ false) (xs ++ ys)
    → AllByRecursion (λ y. test y ≡ false) xs
all-front test [] ys all = tt
all-front test (x ∷ xs) ys all = (all.0, all-front test xs ys all.1)

distinct-front : (xs ys : List ItemContents) → IsDistinct repeats (xs ++ ys) → IsDistinct repeats xs
unfolding IsDistinct
distinct-front [] ys d = tt
distinct-front (x ∷ xs) ys d = (all-front (repeats x) xs ys d.0, distinct-front xs ys d.1)

distinct-behind : (xs ys : List ItemContents) → IsDistinct repeats (xs ++ ys) → IsDistinct repeats ys
unfolding IsDistinct
distinct-behind [] ys d = d
distinct-behind (x ∷ xs) ys d = distinct-behind xs ys d.1

-- no item of a list has the id of one of these
abbrev Fresh : List Data → List Data → Type 0
Fresh before [] = Unit {0}
Fresh before (d ∷ ds) = (has_id before (id_of d) ≡ false) × Fresh before ds

fresh-none : (ds : List Data) → Fresh [] ds
fresh-none [] = tt
fresh-none (d ∷ ds) = (refl, fresh-none ds)

fresh-more : (kind : ItemKind) (before : List Data) (d : Data) (x : ItemContents) (ds : List Data)
    (xs : List ItemContents)
    → IsOf kind (id_of d) x → Pairs kind ds xs → AllByRecursion (λ y. repeats x y ≡ false) xs → Fresh before ds
    → Fresh (before ++ d ∷ []) ds
fresh-more kind before d x [] xs is pairs apart fresh = tt
fresh-more kind before d x (e ∷ ds) [] is pairs apart fresh = absurd pairs
fresh-more kind before d x (e ∷ ds) (y ∷ xs) is pairs apart fresh = (
  list_any-append (λ f. id_of e == id_of f) before (d ∷ [])
      ∙ ap (λ b. b || ((id_of e == id_of d) || false)) fresh.0
      ∙ ap (λ b. b || false) (sym (same-repeats kind y x (id_of e) (id_of d) pairs.0.of_kind is) ∙ repeats-symm y x
      ∙ apart.0),
  fresh-more kind before d x ds xs is pairs.1 apart.1 fresh.1,
)

-- each item of a list stays
all-stay : (kind : ItemKind) (before ds : List Data) (xs : List ItemContents) → Leaves kind before before []
    → Faultless kind ds
    → Pairs kind ds xs → IsDistinct repeats xs → Fresh before ds → Leaves kind (before ++ ds) (before ++ ds) []
unfolding IsDistinct
all-stay kind before [] xs l all pairs distinct fresh = subst (λ t. Leaves kind t t []) (sym (append-nil before)) l
all-stay kind before (d ∷ ds) [] l all pairs distinct fresh = absurd pairs
all-stay kind before (d ∷ ds) (x ∷ xs) l all pairs distinct fresh =
    let here : Leaves kind (before ++ d ∷ []) (before ++ d ∷ []) [] =
    of_more before before [] d None l (all.0, pairs.0.text, fresh.0) in
    subst (λ t. Leaves kind t t []) (append_assoc before (d ∷ []) ds)
    (all-stay kind (before ++ d ∷ []) ds xs here all.1 pairs.1 distinct.1
    (fresh-more kind before d x ds xs pairs.0.of_kind pairs.1 distinct.0 fresh.1))

-- ---- the patch

-- the field "PatchData" is the patch
pub patch-found : (root : Data) (o : Option Data) → is_some (option_and_then as_object o) ≡ true
    → (p : Data) × (o ≡ Some p) × (patch_by root o ≡ Some p)
patch-found root None h = absurd (cc h)
patch-found root (Some p) h = (p, refl, rw h refl)

pub holders-found : (p : Data) (a s : Option Data) → is_some (option_and_then list_in a) ≡ true
    → holders_by p a s ≡ Some (p ∷ [])
holders-found p None s h = absurd (cc h)
holders-found p (Some own) s h = refl

some-of : {X : Type 0} (o : Option X) → is_some o ≡ true → (x : X) × (o ≡ Some x)
some-of None h = absurd (cc h)
some-of (Some x) h = (x, refl)

-- a document whose root has no fault has one patch with lists of its own
pub record OwnLists (d : Data) : Type 0 where
  pub whole : wrong_field d ≡ None
  pub achievements : items_in Achievement d ≡ achievements_or_none d
  pub boards : items_in Leaderboard d ≡ boards_or_none d
  pub script : patches.script_of d ≡ presence_in d

not-wrong : (p : Data) → is_some (own_list Achievement p) ≡ true → is_some (own_list Leaderboard p) ≡ true
    → wrong_list (p ∷ []) ≡ None
not-wrong p a b = rw (a, b) refl

pub own-lists : (d : Data) → has_patch d ≡ true → is_some (achievements_in d) ≡ true → is_some (boards_in d) ≡ true
    → OwnLists d
own-lists d h a b =
    let f = patch-found d (get (codes "PatchData") d) h in
    let p = f.0 in
    let field : (name : List ℕ) → patch_field name d ≡ get name p = λ name. ap (option_and_then (get name)) f.1 in
    let of_achievements : achievements_in d ≡ own_list Achievement p =
    ap (option_and_then list_in) (field (codes "Achievements")) in
    let of_boards : boards_in d ≡ own_list Leaderboard p = ap (λ o. optional_list o) (field (codes "Leaderboards")) in
    let a' : is_some (own_list Achievement p) ≡ true = subst (λ o. is_some o ≡ true) of_achievements a in
    let b' : is_some (own_list Leaderboard p) ≡ true = subst (λ o. is_some o ≡ true) of_boards b in
    let holders : holders_in p ≡ Some (p ∷ []) =
    holders-found p (get (codes "Achievements") p) (get (codes "Sets") p) a' in
    let all : holders_of d ≡ p ∷ [] =
    ap (λ o. unwrap_or (option_and_then holders_in o) []) f.2 ∙ ap (λ o. unwrap_or o []) holders in record {
      whole = ap wrong_patch f.2 ∙ ap wrong_holders holders ∙ not-wrong p a' b';
      achievements = ap (flat_map (own_items Achievement)) all ∙ append-nil (own_items Achievement p)
          ∙ ap (λ o. unwrap_or o []) (sym of_achievements);
      boards = ap (flat_map (own_items Leaderboard)) all ∙ append-nil (own_items Leaderboard p)
          ∙ ap (λ o. unwrap_or o []) (sym of_boards);
      script = ap (option_and_then script_in) f.2 ∙ ap (λ o. optional_text o) (sym (field (codes "RichPresencePatch")));
    }

-- ---- documents

-- the presence string of a file is a script, where it is not empty
script-stays : (script : Option (List ℕ)) (text : List ℕ) (parts : Option ScriptParts) → script ≡ Some text
    → IsScriptText (shown text) parts
    → IsScriptVerdict script None
script-stays None text parts e h = absurd (cc e)
script-stays (Some s) text parts e h = let same : s ≡ text = cc e in
    subst (λ t. IsScriptPlace t None) (sym same) (place text parts h) where
      place : (text : List ℕ) (parts : Option ScriptParts) → IsScriptText (shown text) parts → IsScriptPlace text None
      place [] parts h = tt
      place (c ∷ cs) None h = absurd h
      place (c ∷ cs) (Some parts) h = (script_of parts, record { parts = parts; spelled = h; made = refl })

-- all of a value that gives a set file stays
pub value-leaves : (d : Data) (text : List ℕ) → GivesSet d text → LeavesValue d text []
value-leaves d text given =
    let achievements = achievements_or_none d in
    let boards = boards_or_none d in
    let rest = given.whole in
    let four = none-before _ (faults_from board_breaks 0 boards) rest in
    let three = none-before _ (faults_from achievement_breaks 0 achievements) four in
    let two = none-before _ (faults_from board_faults 0 boards) three in
    let root = none-before (root_faults d) (faults_from achievement_faults 0 achievements) two in
    let of_achievements = faultless-achievements 0 0 achievements (none-behind (root_faults d) _ two)
    (none-behind _ _ four) in
    let of_boards = faultless-boards 0 0 boards (none-behind _ _ three) (none-behind _ _ rest) in
    let presence_known = unless-holds _ _ (none-behind _ _ root) in
    let lists_known = none-before _ _ root in
    let own = own-lists d (unless-holds _ _ (none-before _ _ (none-before _ _ lists_known)))
    (unless-holds _ _ (none-behind _ _ (none-before _ _ lists_known))) (unless-holds _ _ (none-behind _ _ lists_known))
    in
    let script = some-of (presence_in d) presence_known in
    let shown_script = ap (λ o. unwrap_or o []) script.1 in
    let set = given.accepted in
    let contents = set.spelled.contents in
    let spells = texts-spelled text contents set.spelled.spelled in
    let cut : HasTexts text (map (bare_line Achievement) achievements ++ (map (bare_line Leaderboard) boards ++ []))
    (shown script.0) =
    subst (λ t. HasTexts t (map (bare_line Achievement) achievements ++ (map (bare_line Leaderboard) boards ++ []))
    (shown script.0))
    (sym (given.is ∙ ap (λ s. flat_map (line_of Achievement) achievements ++ flat_map (line_of Leaderboard) boards
    ++ presence_lines s) shown_script
    ∙ append_assoc (flat_map (line_of Achievement) achievements) (flat_map (line_of Leaderboard) boards)
    (presence_lines script.0)))
    (with-lines Achievement achievements _ _ _ (each-inner Achievement achievements of_achievements)
    (with-lines Leaderboard boards _ _ _ (each-inner Leaderboard boards of_boards) (presence-texts script.0))) in
    let beside : Beside (map (bare_line Achievement) achievements ++ (map (bare_line Leaderboard) boards ++ []))
    (items_of contents.lines) =
    subst (λ t. Beside t (items_of contents.lines)) cut.of_items
    (beside-from _ (items_of contents.lines) spells.count spells.items) in
    let first = splits Achievement achievements _ (items_of contents.lines) of_achievements beside in
    let next = splits Leaderboard boards [] first.behind of_boards first.others in
    let distinct : IsDistinct repeats (first.front ++ first.behind) =
    subst (IsDistinct repeats) (set.spelled.items ∙ first.parts) set.ids in
    let distinct' : IsDistinct repeats (next.front ++ next.behind) =
    subst (IsDistinct repeats) next.parts (distinct-behind first.front first.behind distinct) in
    let stay_achievements : Leaves Achievement achievements achievements [] =
    all-stay Achievement [] achievements first.front of_none of_achievements first.pairs
    (distinct-front first.front first.behind distinct)
    (fresh-none achievements) in
    let stay_boards : Leaves Leaderboard boards boards [] =
    all-stay Leaderboard [] boards next.front of_none of_boards next.pairs
    (distinct-front next.front next.behind distinct') (fresh-none boards) in
    let verdict : IsScriptVerdict (presence_in d) None =
    script-stays (presence_in d) script.0 contents.script script.1
    (subst (λ t. IsScriptText t contents.script) cut.of_script spells.script) in
    let lists : LeavesLists achievements boards (presence_in d) text [] = record {
      achievements_kept = achievements;
      achievement_rows = [];
      of_achievements = stay_achievements;
      boards_kept = boards;
      board_rows = [];
      of_boards = stay_boards;
      cause = None;
      of_script = verdict;
      is = given.is;
      rows = refl;
    } in record {
      whole = own.whole;
      lists = subst (λ s. LeavesLists (items_in Achievement d) (items_in Leaderboard d) s text []) (sym own.script)
          (subst₂ (λ x y. LeavesLists x y (presence_in d) text []) (sym own.achievements) (sym own.boards) lists);
    }

-- all of a document that gives a set file stays
pub imported-leaves : (bytes text : List ℕ) → Imports bytes text → LeavesDocument bytes text []
imported-leaves bytes text x = record {
  value = x.value;
  document = x.document;
  leaves =
      value-leaves x.value text x.gives;
}
