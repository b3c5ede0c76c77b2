-- One thing is left of a document.
use Rattle.std.proofs.Common.{◌≡◌, ◌∙◌, ℕ, Bool, true, false, List, [], ◌∷◌, ◌++◌, Option, Some, None, option_map, refl}
use Rattle.std.proofs.Common.{sym, ap, subst}
use Rattle.std.proofs.lemmas.List.{same_from_push}
use Rattle.serde_json.specs.Data.{Data}
use Rattle.ra_condition.specs.Grammar.{trigger}
use Rattle.ra_leaderboard.specs.Grammar.{board}
use Rattle.ra_set.proofs.PlaceLemmas.{one-bad_place, one-first_bad}
use Rattle.ra_text.specs.Form.{Form}
use Rattle.ra_patch.specs.declared.item_kind.ItemKind.{ItemKind}
use Rattle.ra_patch.specs.declared.item_kind.ItemKind.TheVariants.{Achievement, Leaderboard}
use Rattle.ra_patch.specs.declared.left_out.LeftCause.{LeftCause}
use Rattle.ra_patch.specs.declared.left_out.LeftCause.TheVariants.{Field, Break, Syntax, Again}
use Rattle.ra_patch.specs.declared.left_out.LeftOut.{LeftOut}
use Rattle.ra_patch.specs.declared.refused.PatchField.TheVariants.{RichPresencePatch}
use Rattle.ra_patch.specs.LeftAnswers.{LeavesLists}
use Rattle.ra_patch.specs.Leaving.{IsItemPlace, IsPlace, IsScriptPlace, IsScriptVerdict, IsVerdict, Leaves, of_more}
use Rattle.ra_patch.specs.Leaving.{of_none, fault_of, has_id, id_of, item_text}

-- ---- places

one-place : {V : Type 0} (form : Form ℕ V) (text : List ℕ) (m n : Option ℕ) → IsPlace form text m → IsPlace form text n
    → m ≡ n
one-place form text None None a b = refl
one-place form text None (Some n) a b = absurd (b.outside a.0 a.1)
one-place form text (Some m) None a b = absurd (a.outside b.0 b.1)
one-place form text (Some m) (Some n) a b = ap (λ k. Some k) (one-bad_place form text m n a.place b.place)

-- the text of an item has one first bad place
pub one-item_place : (kind : ItemKind) (text : List ℕ) (m n : Option ℕ) → IsItemPlace kind text m
    → IsItemPlace kind text n → m ≡ n
one-item_place Achievement text m n a b = one-place trigger text m n a b
one-item_place Leaderboard text m n a b = one-place board text m n a b

one-script_place : (text : List ℕ) (m n : Option ℕ) → IsScriptPlace text m → IsScriptPlace text n → m ≡ n
one-script_place [] None None a b = refl
one-script_place [] None (Some n) a b = absurd b
one-script_place [] (Some m) n a b = absurd a
one-script_place (c ∷ cs) None None a b = refl
one-script_place (c ∷ cs) None (Some n) a b = absurd (b.outside a.0 a.1)
one-script_place (c ∷ cs) (Some m) None a b = absurd (a.outside b.0 b.1)
one-script_place (c ∷ cs) (Some m) (Some n) a b =
    ap (λ k. Some k) (one-first_bad (c ∷ cs) m n a.first_bad b.first_bad)

-- ---- verdicts

-- the verdict on an item without faults, by the first bad place of its text
abbrev pub by_place : (taken : Bool) → Option ℕ → Option LeftCause
by_place taken (Some at) = Some (Syntax at)
by_place true None = Some Again
by_place false None = None

-- an item is left out for its fault, or is judged by its text and its id
pub data Judged (kind : ItemKind) (taken : Bool) (d : Data) (verdict : Option LeftCause) : Type 0 where
  faulty : (cause : LeftCause) → fault_of kind d ≡ Some cause → verdict ≡ Some cause → Judged kind taken d verdict
  sound : (at : Option ℕ) → fault_of kind d ≡ None → IsItemPlace kind (item_text kind d) at
      → verdict ≡ by_place taken at
      → Judged kind taken d verdict

pub judged : (kind : ItemKind) (taken : Bool) (d : Data) (verdict : Option LeftCause) → IsVerdict kind taken d verdict
    → Judged kind taken d verdict
judged kind taken d None v = sound None v.0 v.1 (sym (ap (λ t. by_place t None) v.2))
judged kind taken d (Some (Field field)) v = faulty (Field field) v refl
judged kind taken d (Some Break) v = faulty Break v refl
judged kind taken d (Some (Syntax at)) v = sound (Some at) v.0 v.1 refl
judged kind taken d (Some Again) v = sound None v.0 v.1 (sym (ap (λ t. by_place t None) v.2))

-- an item has one verdict
one-verdict : (kind : ItemKind) (taken : Bool) (d : Data) (a b : Option LeftCause) → IsVerdict kind taken d a
    → IsVerdict kind taken d b
    → a ≡ b
one-verdict kind taken d a b v w = same (judged kind taken d a v) (judged kind taken d b w) where
  same : Judged kind taken d a → Judged kind taken d b → a ≡ b
  same (faulty cause f e) (faulty cause' f' e') = e ∙ sym f ∙ f' ∙ sym e'
  same (faulty cause f e) (sound at none place e') = absurd (cc (f, none))
  same (sound at none place e) (faulty cause f e') = absurd (cc (f, none))
  same (sound at none place e) (sound at' none' place' e') =
      e ∙ ap (by_place taken) (one-item_place kind (item_text kind d) at at' place place') ∙ sym e'

-- what is judged of a presence string: its field is wrong, or it is read
data ScriptJudged (script : Option (List ℕ)) (verdict : Option LeftCause) : Type 0 where
  wrong : script ≡ None → verdict ≡ Some (Field RichPresencePatch) → ScriptJudged script verdict
  was_read : (text : List ℕ) (at : Option ℕ) → script ≡ Some text → IsScriptPlace text at
      → verdict ≡ option_map (λ n. Syntax n) at
      → ScriptJudged script verdict

script-judged : (script : Option (List ℕ)) (verdict : Option LeftCause) → IsScriptVerdict script verdict
    → ScriptJudged script verdict
script-judged None verdict v = wrong refl v
script-judged (Some text) None v = was_read text None refl v refl
script-judged (Some text) (Some (Syntax at)) v = was_read text (Some at) refl v refl
script-judged (Some text) (Some (Field field)) v = absurd v
script-judged (Some text) (Some Break) v = absurd v
script-judged (Some text) (Some Again) v = absurd v

one-script_verdict : (script : Option (List ℕ)) (a b : Option LeftCause) → IsScriptVerdict script a
    → IsScriptVerdict script b → a ≡ b
one-script_verdict script a b v w = same (script-judged script a v) (script-judged script b w) where
  same : ScriptJudged script a → ScriptJudged script b → a ≡ b
  same (wrong none e) (wrong none' e') = e ∙ sym e'
  same (wrong none e) (was_read text at is place e') = absurd (cc (none, is))
  same (was_read text at is place e) (wrong none e') = absurd (cc (none, is))
  same (was_read text at is place e) (was_read text' at' is' place' e') =
      let one : ◌≡◌ {A = Option (List ℕ)} (Some text') (Some text) = sym is' ∙ is in
      let text-same : text' ≡ text = cc one in
      e ∙ ap (option_map (λ n. Syntax n))
      (one-script_place text at at' place (subst (λ t. IsScriptPlace t at') text-same place')) ∙ sym e'

-- ---- lists

no-push : {X : Type 0} (xs : List X) (x : X) → [] ≡ xs ++ x ∷ [] → ⊥
no-push [] x e = cc e
no-push (y ∷ xs) x e = cc e

-- the same items stay, and the same are left out
one-leaves : (kind : ItemKind) (items items' stays stays' : List Data) (out out' : List LeftOut)
    → Leaves kind items stays out
    → Leaves kind items' stays' out' → items ≡ items' → (stays ≡ stays') × (out ≡ out')
one-leaves kind items items' stays stays' out out' of_none of_none e = (refl, refl)
one-leaves kind items items' stays stays' out out' of_none (of_more items0 stays0 out0 d cause l v) e =
    absurd (no-push items0 d e)
one-leaves kind items items' stays stays' out out' (of_more items0 stays0 out0 d cause l v) of_none e =
    absurd (no-push items0 d (sym e))
one-leaves kind items items' stays stays' out out' (of_more items0 stays0 out0 d cause l v)
    (of_more items1 stays1 out1 d1 cause1 l1 v1) e =
    let p = same_from_push items0 items1 d d1 e in
    let q = one-leaves kind items0 items1 stays0 stays1 out0 out1 l l1 p.0 in
    let taken : has_id stays1 (id_of d1) ≡ has_id stays0 (id_of d) = cc (p.1, q.0) in
    let here : IsVerdict kind (has_id stays0 (id_of d)) d cause1 =
    subst (λ x. IsVerdict kind (has_id stays0 (id_of d)) x cause1) (sym p.1)
    (subst (λ t. IsVerdict kind t d1 cause1) taken v1) in
    let same : cause ≡ cause1 = one-verdict kind (has_id stays0 (id_of d)) d cause cause1 v here in
    (cc (p.1, q.0, same), cc (p.0, p.1, q.1, same))

-- one set file is left of the lists, and the same is left out
pub one-lists : (achievements boards : List Data) (script : Option (List ℕ)) (text text' : List ℕ)
    (out out' : List LeftOut)
    → LeavesLists achievements boards script text out → LeavesLists achievements boards script text' out'
    → (text ≡ text') × (out ≡ out')
one-lists achievements boards script text text' out out' x y =
    let p =
    one-leaves Achievement achievements achievements x.achievements_kept y.achievements_kept x.achievement_rows
    y.achievement_rows
    x.of_achievements y.of_achievements refl in
    let q = one-leaves Leaderboard boards boards x.boards_kept y.boards_kept x.board_rows y.board_rows x.of_boards
    y.of_boards refl in
    let r = one-script_verdict script x.cause y.cause x.of_script y.of_script in
    (cc (x.is, y.is, p.0, q.0, r), cc (x.rows, y.rows, p.1, q.1, r))
