-- The line of an item that stays is a line of a set file.
use Rattle.std.proofs.Common.{◌≡◌, ◌∙◌, ℕ, ◌<◌, ◌^◌, ◌==◌, ◌&&◌, ◌||◌, Bool, true, false, not, if◌then◌else◌, nat_lt}
use Rattle.std.proofs.Common.{ltb-true, List, [], ◌∷◌, ◌++◌, length, Option, Some, None, option_map, option_and_then}
use Rattle.std.proofs.Common.{unwrap_or, slice_get, refl, sym, ap, subst, arith, codes, inl, inr, append_assoc}
use Rattle.std.proofs.Common.{append-nil, lit<}
use Rattle.serde_json.specs.Data.{Data}
use Rattle.serde_json.specs.Find.{get, as_number, as_u64}
use Rattle.ra_condition.specs.Contents.{TriggerContents}
use Rattle.ra_condition.specs.Grammar.{trigger}
use Rattle.ra_leaderboard.specs.Contents.{BoardContents}
use Rattle.ra_leaderboard.specs.Grammar.{board}
use Rattle.ra_value_format.specs.Formats.{format_of_name}
use Rattle.ra_set.specs.Contents.{ItemContents, Unlocks, Ranks}
use Rattle.ra_set.specs.Grammar.{ended_line, format_name}
use Rattle.ra_set.proofs.SetSpelling.{head-spelled, head_text, in-name, run-spelled, with-end}
use Rattle.ra_text.specs.Table.{is_in, only}
use Rattle.ra_text.proofs.Items.{changed, one-byte}
use Rattle.ra_text.proofs.Tables.{all_pass}
use Rattle.ra_patch.specs.declared.item_kind.ItemKind.{ItemKind}
use Rattle.ra_patch.specs.declared.item_kind.ItemKind.TheVariants.{Achievement, Leaderboard}
use Rattle.ra_patch.specs.declared.refused.PatchRefused.{PatchRefused}
use Rattle.ra_patch.specs.Faults.{achievement_breaks, achievement_faults, board_breaks, board_faults, ends_word}
use Rattle.ra_patch.specs.Faults.{ends_line, text_or_empty, unless}
use Rattle.ra_patch.specs.Fields.{small}
use Rattle.ra_patch.specs.Leaving.{IsItemPlace, cause_of, fault_of, id_of, item_faults, item_text, line_of}
use Rattle.ra_text.proofs.Spelled.{then-spelled, none-spelled, one-spelled}

-- ---- ids

small-fits : (n : ℕ) → unwrap_or (small n) 0 < 2 ^ 32
small-fits n = cases (nat_lt n (2 ^ 32)) refl where
  cases : (b : Bool) → nat_lt n (2 ^ 32) ≡ b → unwrap_or (if b then Some n else None) 0 < 2 ^ 32
  cases true e = omega (arith, ltb-true n (2 ^ 32) e)
  cases false e = lit< tt

-- the id of an item is of 32 bits
pub id-fits : (d : Data) → id_of d < 2 ^ 32
id-fits d = cases (option_and_then as_u64 (option_and_then as_number (get (codes "ID") d))) where
  cases : (o : Option ℕ) → unwrap_or (option_and_then small o) 0 < 2 ^ 32
  cases None = lit< tt
  cases (Some n) = small-fits n

-- ---- faults

no-cause : (faults : List PatchRefused) → option_map cause_of (slice_get faults 0) ≡ None → faults ≡ []
no-cause [] e = refl
no-cause (why ∷ faults) e = absurd (cc e)

-- an item without a cause has no fault
pub no-faults : (kind : ItemKind) (d : Data) → fault_of kind d ≡ None → item_faults kind d ≡ []
no-faults kind d e = no-cause (item_faults kind d) e

pub none-behind : {X : Type 0} (xs ys : List X) → xs ++ ys ≡ [] → ys ≡ []
none-behind [] ys e = e
none-behind (x ∷ xs) ys e = absurd (cc e)

pub none-before : {X : Type 0} (xs ys : List X) → xs ++ ys ≡ [] → xs ≡ []
none-before [] ys e = refl
none-before (x ∷ xs) ys e = absurd (cc e)

pub unless-holds : (holds : Bool) (why : PatchRefused) → unless holds why ≡ [] → holds ≡ true
unless-holds true why e = refl
unless-holds false why e = absurd (cc e)

both : (a b : Bool) → (a && b) ≡ true → (a ≡ true) × (b ≡ true)
both true b e = (refl, e)
both false b e = absurd (cc e)

not-true : (b : Bool) → not b ≡ true → b ≡ false
not-true true e = absurd (cc e)
not-true false e = refl

-- ---- formats

-- a byte of a word is one of a name
name-byte : (c : ℕ) → (c == 32 || c == 13 || c == 10) ≡ false → not (is_in (only (codes " \n")) c) ≡ true
name-byte c e = let p = either (c == 32) (c == 13) (c == 10) e in by-tests (c == 32) (c == 10) p.0 p.1 where
  either : (a b d : Bool) → (a || b || d) ≡ false → (a ≡ false) × (d ≡ false)
  either true b d x = absurd (cc x)
  either false true d x = absurd (cc x)
  either false false d x = (refl, x)

  by-tests : (a b : Bool) → a ≡ false → b ≡ false
      → not (elim (if a then Some (tt {0}) else (if b then Some (tt {0}) else None)) [ Some v ↦ true | None ↦ false ])
      ≡ true
  by-tests true b x y = absurd (cc x)
  by-tests false true x y = absurd (cc y)
  by-tests false false x y = refl

name-bytes : (text : List ℕ) → ends_word text ≡ false → all_pass (λ c. not (is_in (only (codes " \n")) c)) text ≡ true
name-bytes [] e = refl
name-bytes (c ∷ text) e =
    let p = either (c == 32 || c == 13 || c == 10) (ends_word text) e in
    rw (name-byte c p.0) (name-bytes text p.1) where
      either : (a b : Bool) → (a || b) ≡ false → (a ≡ false) × (b ≡ false)
      either true b x = absurd (cc x)
      either false b x = (refl, x)

-- a word is the name of a format
pub word-named : (text : List ℕ) → not (length text == 0) ≡ true → ends_word text ≡ false
    → format_name text (format_of_name text)
word-named [] some word = absurd (cc some)
word-named (c ∷ others) some word =
    let all = name-bytes (c ∷ others) word in
    let p = both-if (not (is_in (only (codes " \n")) c)) _ all in
    then-spelled (c ∷ []) others c refl (one-spelled c (in-name c p.0)) (then-spelled others []
    others (sym (append-nil others)) (run-spelled others p.1) none-spelled) where
      both-if : (a b : Bool) → (if a then b else false) ≡ true → (a ≡ true) × (b ≡ true)
      both-if true b e = (refl, e)
      both-if false b e = absurd (cc e)

-- ---- lines

-- the format of a leaderboard
abbrev pub format_in : Data → List ℕ
format_in d = text_or_empty (codes "Format") d

-- what a leaderboard without faults has: a name of a format, and a text of one line
pub record IsWhole (d : Data) : Type 0 where
  pub named : format_name (format_in d) (format_of_name (format_in d))
  pub some : not (length (format_in d) == 0) ≡ true
  pub word : ends_word (format_in d) ≡ false
  pub ended : ends_line (text_or_empty (codes "Mem") d) ≡ false

pub whole-board : (d : Data) → fault_of Leaderboard d ≡ None → IsWhole d
whole-board d e =
    let none = none-behind (board_faults 0 d) (board_breaks 0 d) (no-faults Leaderboard d e) in
    let holds = unless-holds _ _ none in
    let p = both _ _ holds in
    let q = both _ _ p.0 in
    record {
      named = word-named (format_in d) q.1 (not-true _ p.1);
      some = q.1;
      word = not-true _ p.1;
      ended =
          not-true _ q.0;
    }

-- the text of an achievement without faults has no end of a line
pub whole-achievement : (d : Data) → fault_of Achievement d ≡ None → ends_line (item_text Achievement d) ≡ false
whole-achievement d e =
    not-true _ (unless-holds _ _ (none-behind (achievement_faults 0 d) (achievement_breaks 0 d)
    (no-faults Achievement d e)))

-- the line of an achievement whose text is a trigger
achievement-spelled : (d : Data) (t : TriggerContents) → trigger (item_text Achievement d) t
    → ended_line (line_of Achievement d) (Some (Unlocks (id_of d) t))
achievement-spelled d t h =
    with-end (head_text 65 (id_of d) ++ item_text Achievement d) (Some (Unlocks (id_of d) t))
    (inr (inl (then-spelled (head_text 65 (id_of d)) (item_text Achievement d) (id_of d) refl
    (head-spelled 65 (id_of d) refl (id-fits d))
    (changed trigger (λ t. Some (Unlocks (id_of d) t)) (item_text Achievement d) t h))))

-- the line of a leaderboard as its head, its format and its board
pub board-parts : (d : Data)
    → line_of Leaderboard d ≡ (head_text 76 (id_of d) ++ (format_in d ++ 32 ∷ item_text Leaderboard d)) ++ codes "\n"
board-parts d = let head = head_text 76 (id_of d) in
    ap (λ x. x ++ codes "\n")
    (append_assoc (head ++ format_in d) (codes " ") (item_text Leaderboard d)
    ∙ append_assoc head (format_in d) (32 ∷ item_text Leaderboard d))

board-spelled : (d : Data) (b : BoardContents) → IsWhole d → board (item_text Leaderboard d) b
    → ended_line (line_of Leaderboard d) (Some (Ranks (id_of d) (format_of_name (format_in d)) b))
board-spelled d b whole h =
    let format = format_of_name (format_in d) in
    let text = item_text Leaderboard d in
    subst (λ t. ended_line t (Some (Ranks (id_of d) format b))) (sym (board-parts d))
    (with-end (head_text 76 (id_of d) ++ (format_in d ++ 32 ∷ text)) (Some (Ranks (id_of d) format b))
    (inr (inr (inl (then-spelled (head_text 76 (id_of d)) (format_in d ++ 32 ∷ text) (id_of d) refl
    (head-spelled 76 (id_of d) refl (id-fits d))
    (then-spelled (format_in d) (32 ∷ text) format refl whole.named (then-spelled (codes " ") text
    tt refl (one-byte 32 refl)
    (changed board (λ b. Some (Ranks (id_of d) format b)) text b h))))))))

-- an item of this kind with this id
abbrev pub IsOf : ItemKind → ℕ → ItemContents → Type 0
IsOf Achievement n (Unlocks id t) = id ≡ n
IsOf Leaderboard n (Ranks id format b) = id ≡ n
IsOf _ n _ = ⊥

-- the line of an item without faults whose text is spelled
pub record SpellsItem (kind : ItemKind) (d : Data) : Type 0 where
  pub item : ItemContents
  pub spelled : ended_line (line_of kind d) (Some item)
  pub of_kind : IsOf kind (id_of d) item

pub item-spelled : (kind : ItemKind) (d : Data) → fault_of kind d ≡ None → IsItemPlace kind (item_text kind d) None
    → SpellsItem kind d
item-spelled Achievement d e h = record {
  item = Unlocks (id_of d) h.0;
  spelled =
      achievement-spelled d h.0 h.1;
  of_kind = refl;
}
item-spelled Leaderboard d e h = record {
  item = Ranks (id_of d) (format_of_name (format_in d)) h.0;
  spelled = board-spelled d h.0 (whole-board d e) h.1;
  of_kind = refl;
}
