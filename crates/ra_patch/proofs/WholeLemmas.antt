-- Where nothing is left out of a document with lists of its own, it gives the set file that is left.
use Rattle.std.proofs.Common.{◌≡◌, ◌∙◌, ℕ, ◌+◌, ◌&&◌, Bool, true, false, not, if◌then◌else◌, List, [], ◌∷◌, ◌++◌}
use Rattle.std.proofs.Common.{length, Option, Some, None, is_some, option_and_then, refl, sym, ap, subst, codes}
use Rattle.std.specs.List.{flat_map}
use Rattle.serde_json.specs.Data.{Data}
use Rattle.serde_json.specs.Find.{get}
use Rattle.ra_set.specs.Accepted.{IsSet}
use Rattle.ra_set.specs.Contents.{SetContents}
use Rattle.ra_patch.specs.declared.document_refused.RootField.TheVariants.{Achievements, Leaderboards}
use Rattle.ra_patch.specs.declared.item_kind.ItemKind.{ItemKind}
use Rattle.ra_patch.specs.declared.item_kind.ItemKind.TheVariants.{Achievement, Leaderboard}
use Rattle.ra_patch.specs.declared.left_out.LeftCause.{LeftCause}
use Rattle.ra_patch.specs.declared.left_out.LeftOut.{LeftOut}
use Rattle.ra_patch.specs.declared.refused.PatchRefused.{PatchRefused}
use Rattle.ra_patch.specs.Answers.{GivesSet, Imports}
use Rattle.ra_patch.specs.Faults.{achievement_breaks, achievement_faults, achievements_or_none, board_breaks}
use Rattle.ra_patch.specs.Faults.{board_faults, boards_or_none, faults_from, root_faults, unless}
use Rattle.ra_patch.specs.Fields.{achievements_in, boards_in, has_patch, list_in, optional_list, patch_field}
use Rattle.ra_patch.specs.Fields.{presence_in}
use Rattle.ra_patch.specs.LeftAnswers.{HasOwnLists, LeavesDocument, LeavesValue}
use Rattle.ra_patch.specs.Leaving.{IsScriptVerdict, Leaves, of_more, of_none, fault_of, item_row, kept_script, line_of}
use Rattle.ra_patch.specs.Leaving.{script_row}
use Rattle.ra_patch.specs.Lines.{presence_lines}
use Rattle.ra_patch.specs.Patches.{holders_in, items_in, own_list, patch_in, wrong_field, wrong_holders, wrong_list}
use Rattle.ra_patch.specs.Patches.{wrong_patch}
use Rattle.ra_patch.specs.Patches as patches
use Rattle.ra_patch.proofs.AnswerLemmas.{same-read}
use Rattle.ra_patch.proofs.ImportedLemmas.{Faultless, achievement-any, board-any, holders-found, none-both, own-lists}
use Rattle.ra_patch.proofs.ImportedLemmas.{patch-found, unless-any}
use Rattle.ra_patch.proofs.LineLemmas.{no-faults, none-before, none-behind}

-- ---- lists

no-row : (kind : ItemKind) (index : ℕ) (d : Data) (cause : Option LeftCause) → item_row kind index d cause ≡ []
    → cause ≡ None
no-row kind index d None e = refl
no-row kind index d (Some cause) e = absurd (cc e)

faultless-push : (kind : ItemKind) (ds : List Data) (d : Data) → Faultless kind ds → fault_of kind d ≡ None
    → Faultless kind (ds ++ d ∷ [])
faultless-push kind [] d all e = (e, tt)
faultless-push kind (x ∷ ds) d all e = (all.0, faultless-push kind ds d all.1 e)

-- a list of which nothing is left out stays, and has no fault
whole-list : (kind : ItemKind) (items stays : List Data) (out : List LeftOut) → Leaves kind items stays out → out ≡ []
    → (stays ≡ items) × Faultless kind items
whole-list kind items stays out of_none e = (refl, tt)
whole-list kind items stays out (of_more items0 stays0 out0 d None l v) e =
    let before = whole-list kind items0 stays0 out0 l (none-before out0 _ e) in
    (ap (λ t. t ++ d ∷ []) before.0, faultless-push kind items0 d before.1 v.0)
whole-list kind items stays out (of_more items0 stays0 out0 d (Some cause) l v) e =
    absurd (let none = no-row kind (length items0) d (Some cause) (none-behind out0 _ e) in cc none)

-- ---- faults

none-achievements : (n m : ℕ) (ds : List Data) → Faultless Achievement ds
    → (faults_from achievement_faults n ds ≡ []) × (faults_from achievement_breaks m ds ≡ [])
none-achievements n m [] all = (refl, refl)
none-achievements n m (d ∷ ds) all =
    let none = no-faults Achievement d all.0 in
    let others = none-achievements (n + 1) (m + 1) ds all.1 in (
      none-both _ _ (achievement-any 0 n d (none-before _ _ none)) others.0,
      none-both _ _ (unless-any _ _ _ (none-behind (achievement_faults 0 d) _ none)) others.1,
    )

none-boards : (n m : ℕ) (ds : List Data) → Faultless Leaderboard ds
    → (faults_from board_faults n ds ≡ []) × (faults_from board_breaks m ds ≡ [])
none-boards n m [] all = (refl, refl)
none-boards n m (d ∷ ds) all =
    let none = no-faults Leaderboard d all.0 in
    let others = none-boards (n + 1) (m + 1) ds all.1 in (
      none-both _ _ (board-any 0 n d (none-before _ _ none)) others.0,
      none-both _ _ (unless-any _ _ _ (none-behind (board_faults 0 d) _ none)) others.1,
    )

no-fault : (holds : Bool) (why : PatchRefused) → holds ≡ true → unless holds why ≡ []
no-fault true why e = refl
no-fault false why e = absurd (cc e)

-- ---- the root

no-script_row : (cause : Option LeftCause) → script_row cause ≡ [] → cause ≡ None
no-script_row None e = refl
no-script_row (Some cause) e = absurd (cc e)

known-script : (script : Option (List ℕ)) → IsScriptVerdict script None → is_some script ≡ true
known-script None v = absurd (cc v)
known-script (Some text) v = refl

-- an object alone whose lists are not wrong has leaderboards
listed-boards : (a b : Bool)
    → (if not (a && true) then Some Achievements else (if not (b && true) then Some Leaderboards else None)) ≡ None
    → b ≡ true
listed-boards true true e = refl
listed-boards true false e = absurd (cc e)
listed-boards false b e = absurd (cc e)

has-boards : (d : Data) → has_patch d ≡ true → is_some (achievements_in d) ≡ true → wrong_field d ≡ None
    → is_some (boards_in d) ≡ true
has-boards d h a whole =
    let f = patch-found d (get (codes "PatchData") d) h in
    let p = f.0 in
    let field : (name : List ℕ) → patch_field name d ≡ get name p = λ name. ap (option_and_then (get name)) f.1 in
    let of_achievements : achievements_in d ≡ own_list Achievement p =
    ap (option_and_then list_in) (field (codes "Achievements")) in
    let of_boards : boards_in d ≡ own_list Leaderboard p = ap (λ o. optional_list o) (field (codes "Leaderboards")) in
    let a' : is_some (own_list Achievement p) ≡ true = subst (λ o. is_some o ≡ true) of_achievements a in
    let holders : holders_in p ≡ Some (p ∷ []) =
    holders-found p (get (codes "Achievements") p) (get (codes "Sets") p) a' in
    let wrong : wrong_list (p ∷ []) ≡ None = sym (ap wrong_patch f.2 ∙ ap wrong_holders holders) ∙ whole in
    subst (λ o. is_some o ≡ true) (sym of_boards)
    (listed-boards (is_some (own_list Achievement p)) (is_some (own_list Leaderboard p)) wrong)

-- ---- documents

-- a value of which nothing is left out gives its set file, where that is accepted
value-given : (d : Data) (text : List ℕ) (out : List LeftOut) → out ≡ [] → LeavesValue d text out → has_patch d ≡ true
    → is_some (achievements_in d) ≡ true → (set : SetContents) → IsSet text set → GivesSet d text
value-given d text out nothing x h a set accepted =
    let b = has-boards d h a x.whole in
    let own = own-lists d h a b in
    let lists = x.lists in
    let rows = sym lists.rows ∙ nothing in
    let front = none-before (lists.achievement_rows ++ lists.board_rows) (script_row lists.cause) rows in
    let cause : lists.cause ≡ None =
    no-script_row lists.cause (none-behind (lists.achievement_rows ++ lists.board_rows) (script_row lists.cause) rows)
    in
    let first =
    whole-list Achievement _ lists.achievements_kept lists.achievement_rows lists.of_achievements
    (none-before _ _ front) in
    let next =
    whole-list Leaderboard _ lists.boards_kept lists.board_rows lists.of_boards
    (none-behind lists.achievement_rows _ front) in
    let achievements = achievements_or_none d in
    let boards = boards_or_none d in
    let of_achievements = none-achievements 0 0 achievements (subst (Faultless Achievement) own.achievements first.1) in
    let of_boards = none-boards 0 0 boards (subst (Faultless Leaderboard) own.boards next.1) in
    let verdict : IsScriptVerdict (patches.script_of d) None =
    subst (IsScriptVerdict (patches.script_of d)) cause lists.of_script in
    let script : is_some (presence_in d) ≡ true =
    subst (λ o. is_some o ≡ true) own.script (known-script (patches.script_of d) verdict) in
    let root : root_faults d ≡ [] =
    none-both _ _ (none-both _ _ (none-both _ _ (no-fault _ _ h) (no-fault _ _ a)) (no-fault _ _ b))
    (no-fault _ _ script) in
    let kept_achievements : lists.achievements_kept ≡ achievements = first.0 ∙ own.achievements in
    let kept_boards : lists.boards_kept ≡ boards = next.0 ∙ own.boards in
    let kept : kept_script (patches.script_of d) lists.cause ≡ kept_script (presence_in d) None =
    ap (kept_script (patches.script_of d)) cause ∙ ap (λ s. kept_script s None) own.script in record {
      whole = none-both _ _
          (none-both _ _ (none-both _ _ (none-both _ _ root of_achievements.0) of_boards.0) of_achievements.1)
          of_boards.1;
      is = lists.is
          ∙ ap (λ s. flat_map (line_of Achievement) lists.achievements_kept
          ++ flat_map (line_of Leaderboard) lists.boards_kept
          ++ presence_lines s) kept
          ∙ ap (λ t. flat_map (line_of Achievement) t ++ flat_map (line_of Leaderboard) lists.boards_kept
          ++ presence_lines (kept_script (presence_in d) None)) kept_achievements
          ∙ ap (λ t. flat_map (line_of Achievement) achievements ++ flat_map (line_of Leaderboard) t
          ++ presence_lines (kept_script (presence_in d) None)) kept_boards;
      set = set;
      accepted = accepted;
    }

-- a document of which nothing is left out gives its set file, where that is accepted
pub left-imported : (bytes text : List ℕ) (out : List LeftOut) → LeavesDocument bytes text out → out ≡ []
    → HasOwnLists bytes
    → (set : SetContents) → IsSet text set → Imports bytes text
left-imported bytes text out x nothing own set accepted =
    let read = same-read bytes own.value x.value own.document.reads x.document.reads in record {
      value = x.value;
      document = x.document;
      gives = value-given x.value text out nothing x.leaves (subst (λ d. has_patch d ≡ true) read own.patch)
          (subst (λ d. is_some (achievements_in d) ≡ true) read own.listed) set accepted;
    }
