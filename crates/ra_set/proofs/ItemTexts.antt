-- The texts of the items' lines spell the items, one for one, and the text behind a line "P" the script.
use Rattle.std.proofs.Common.{◌≡◌, ◌∙◌, inl, inr, ℕ, zero, suc, ◌≤◌, ◌==◌, Bool, true, false, cond, if◌then◌else◌, List}
use Rattle.std.proofs.Common.{[], ◌∷◌, ◌++◌, length, filter, slice_get, Option, Some, None, refl, sym, ap, subst}
use Rattle.std.proofs.Common.{subst₂, codes, arith, append-nil, append_assoc, length-append, eqb-true}
use Rattle.ra_set.specs.Contents.{ItemContents, Unlocks, Ranks}
use Rattle.ra_set.specs.Grammar.{Line, achievement, leaderboard, comment, line, FileContents, set_file, items_of}
use Rattle.ra_set.specs.Names.{IsItemText, IsScriptText, SpellsTexts}
use Rattle.ra_set.specs.Reading.{Tail, Ends, Letter, Opens}
use Rattle.ra_set.specs.Texts.{with_byte, first_line, without_return, text_of, is_item, is_script, cut_file, item_texts}
use Rattle.ra_set.specs.Texts.{script_text}
use Rattle.ra_set.proofs.CutLemmas.{begun_by, cut-more, cut-last, cut-script}
use Rattle.ra_set.proofs.FileReaders.{Ended, Front, TailOf, ended-no_letter, row-no_letter}
use Rattle.ra_set.proofs.FrontLemmas.{TailIn, front-of_file}
use Rattle.ra_set.proofs.LineBytes.{Feedless, Inner, each-append, feedless-line, inner-achievement, inner-behind_format}
use Rattle.ra_set.proofs.LineReaders.{row, begins-achievement, begins-comment, begins-leaderboard}
use Rattle.ra_set.proofs.RowLines.{cut, line-row}
use Rattle.ra_set.proofs.RunLemmas.{only-byte}
use Rattle.ra_text.specs.Form.{Form}
use Rattle.ra_text.specs.Reading.{begins}
use Rattle.ra_text.specs.Table.{is_in, only}
use Rattle.ra_text.proofs.Begins.{Begins}
use Rattle.ra_text.proofs.Tables.{In, OfEach, each-in}

-- ---- the first line of a text

-- a line feed ends the first line
pub first-ended : (front behind : List ℕ) → OfEach Feedless front
    → first_line (front ++ 10 ∷ behind) ≡ record { line = front; rest = Some behind }
first-ended [] behind all = refl
first-ended (byte ∷ front) behind all = other (byte == 10) refl (first-ended front behind all.1) where
  other : (same : Bool) → (byte == 10) ≡ same
      → first_line (front ++ 10 ∷ behind) ≡ record { line = front; rest = Some behind }
      → begun_by same byte (front ++ 10 ∷ behind) ≡ record { line = byte ∷ front; rest = Some behind }
  other true e next = absurd (all.0 (eqb-true byte 10 e))
  other false e next = ap (with_byte byte) next

-- without one the text is its first line
pub first-alone : (text : List ℕ) → OfEach Feedless text → first_line text ≡ record { line = text; rest = None }
first-alone [] all = refl
first-alone (byte ∷ text) all = other (byte == 10) refl (first-alone text all.1) where
  other : (same : Bool) → (byte == 10) ≡ same → first_line text ≡ record { line = text; rest = None }
      → begun_by same byte text ≡ record { line = byte ∷ text; rest = None }
  other true e next = absurd (all.0 (eqb-true byte 10 e))
  other false e next = ap (with_byte byte) next

-- ---- the carriage return at the end of a line

return-behind : (byte : ℕ) (bytes : List ℕ) → 1 ≤ length bytes
    → without_return (byte ∷ bytes) ≡ byte ∷ without_return bytes
return-behind byte [] some = absurd (omega (arith, some))
return-behind byte (next ∷ bytes) some = refl

-- it is cut
pub return-cut : (text : List ℕ) → without_return (text ++ codes "\r") ≡ text
return-cut [] = refl
return-cut (byte ∷ []) = refl
return-cut (byte ∷ next ∷ text) = ap (λ t. byte ∷ t) (return-cut (next ∷ text))

-- and a text that ends with none stays
pub inner-stays : (text : List ℕ) → OfEach Inner text → without_return text ≡ text
inner-stays [] all = refl
inner-stays (byte ∷ []) all = other (byte == 13) refl where
  other : (same : Bool) → (byte == 13) ≡ same → (if same then [] else byte ∷ []) ≡ byte ∷ []
  other true e = absurd (all.0.1 (eqb-true byte 13 e))
  other false e = refl
inner-stays (byte ∷ next ∷ text) all = ap (λ t. byte ∷ t) (inner-stays (next ∷ text) all.1)

pub behind-stays : (front text : List ℕ) → OfEach Inner text → 1 ≤ length text
    → without_return (front ++ text) ≡ front ++ text
behind-stays [] text all some = inner-stays text all
behind-stays (byte ∷ []) text all some = return-behind byte text some ∙ ap (λ t. byte ∷ t) (inner-stays text all)
behind-stays (byte ∷ next ∷ front) text all some = ap (λ t. byte ∷ t) (behind-stays (next ∷ front) text all some)

-- ---- one line

-- what the text of a line is: that of its item, or of none
data Told (text : List ℕ) (l : Line) : Type 0 where
  of_item : (item : ItemContents) → IsItemText text item → is_item text ≡ true → l ≡ Some item → Told text l
  of_none : is_item text ≡ false → l ≡ None → Told text l

-- each text of a form whose first byte passes a test
begun : {V : Type 0} (form : Form ℕ V) (keys : List ℕ) (test : ℕ → Bool) → Begins form (In keys)
    → OfEach (λ c. test c ≡ true) keys → (text : List ℕ) (v : V) → form text v → begins test text ≡ true
begun form keys test b all [] v h = absurd (b.not_empty v h)
begun form keys test b all (c ∷ text) v h = each-in (λ c. test c ≡ true) keys all c (b.first c text v h)

-- a comment is no text of an item, also without a CR
comment-none : (text : List ℕ) (l : Line) → comment text l → (is_item text ≡ false)
    × (is_item (without_return text) ≡ false)
comment-none [] l h = absurd (begins-comment.not_empty l h)
comment-none (c ∷ text) l h =
    let other : is_in (only (codes "AL")) c ≡ false = each-in (λ c. is_in (only (codes "AL")) c ≡ false) (codes "#")
    (refl, tt) c (begins-comment.first c text l h) in
    (other, cut-none text other) where
      alone : (b : Bool) → is_in (only (codes "AL")) c ≡ false → is_item (if b then [] else c ∷ []) ≡ false
      alone true other = refl
      alone false other = other

      cut-none : (text : List ℕ) → is_in (only (codes "AL")) c ≡ false → is_item (without_return (c ∷ text)) ≡ false
      cut-none [] other = alone (c == 13) other
      cut-none (next ∷ text) other = other

told-achievement : (text : List ℕ) (l : Line) → achievement text l → Told text l
told-achievement text l h =
    let is = h.of_next.of_next.is in
    of_item (Unlocks h.v h.of_next.v) (inl (subst (achievement text) is h))
    (begun achievement (codes "A") (is_in (only (codes "AL"))) begins-achievement (refl, tt) text l h) is

told-leaderboard : (text : List ℕ) (l : Line) → leaderboard text l → Told text l
told-leaderboard text l h =
    let is = h.of_next.of_next.of_next.of_next.is in
    of_item (Ranks h.v h.of_next.v h.of_next.of_next.of_next.v) (inr (subst (leaderboard text) is h))
    (begun leaderboard (codes "L") (is_in (only (codes "AL"))) begins-leaderboard (refl, tt) text l h) is

-- the text of a line
told-line : (text : List ℕ) (l : Line) → line text l → Told text l
told-line text l (inl h) = of_none (comment-none text l h).0 h.of_next.of_next.is
told-line text l (inr (inl h)) = told-achievement text l h
told-line text l (inr (inr (inl h))) = told-leaderboard text l h
told-line text l (inr (inr (inr h))) = of_none (ap is_item h.empty) h.is

-- a leaderboard ends with no CR
leaderboard-stays : (text : List ℕ) (l : Line) → leaderboard text l → without_return text ≡ text
leaderboard-stays text l h =
    let f = h.of_next in
    let s = f.of_next in
    let whole : (h.front ++ f.front) ++ f.behind ≡ text = append_assoc h.front f.front f.behind
    ∙ ap (λ t. h.front ++ t) (sym f.parts) ∙ sym h.parts in
    let some : 1 ≤ length f.behind = omega
    (arith, ap length s.parts, ap length s.of_first.alone, length-append s.front s.behind) in
    subst (λ t. without_return t ≡ t) whole
    (behind-stays (h.front ++ f.front) f.behind ((inner-behind_format h.v f.v).each f.behind l s) some)

-- the text of a line that ends with a line feed
told-ended : (text : List ℕ) (l : Line) → line text l → Told (without_return text) l
told-ended text l (inl h) = of_none (comment-none text l h).1 h.of_next.of_next.is
told-ended text l (inr (inl h)) = subst (λ t. Told t l) (sym (inner-stays text (inner-achievement.each text l h)))
    (told-achievement text l h)
told-ended text l (inr (inr (inl h))) = subst (λ t. Told t l) (sym (leaderboard-stays text l h))
    (told-leaderboard text l h)
told-ended text l (inr (inr (inr h))) = of_none (ap (λ t. is_item (without_return t)) h.empty) h.is

-- the text of a row
told-row : (text : List ℕ) (l : Line) (wants : Bool) → row text (l, wants) → Told (without_return text) l
told-row text l wants h = elim (cut text l wants h) [
  | inl c ↦ told-ended text l c.0
  | inr c ↦ subst (λ t. Told t l) (sym (ap without_return c.3 ∙ return-cut c.0)) (told-line c.0 l c.1)
]

-- a row has no line feed in it
feedless-row : (text : List ℕ) (l : Line) (wants : Bool) → row text (l, wants) → OfEach Feedless text
feedless-row text l wants h = elim (cut text l wants h) [
  | inl c ↦ feedless-line.each text l c.0
  | inr c ↦ subst (OfEach Feedless) (sym c.3)
      (each-append Feedless c.0 (codes "\r") (feedless-line.each c.0 l c.1) ((λ e. cc e), tt))
]

-- ---- the lines of a file

-- each text is that of the item beside it
abbrev pub Beside : List (List ℕ) → List ItemContents → Type 0
Beside [] [] = Unit {0}
Beside (text ∷ texts) (item ∷ items) = IsItemText text item × Beside texts items
Beside _ _ = ⊥

-- one line more before others
beside-line : (text : List ℕ) (l : Line) (texts : List (List ℕ)) (lines : List Line) → Told text l
    → Beside (filter is_item texts) (items_of lines) → Beside (filter is_item (text ∷ texts)) (items_of (l ∷ lines))
beside-line text l texts lines told others = elim told [
  | of_item item spelled is same ↦ subst₂
      (λ b l. Beside (cond b (text ∷ filter is_item texts) (filter is_item texts)) (items_of (l ∷ lines))) (sym is)
      (sym same) (spelled, others)
  | of_none is same ↦ subst₂
      (λ b l. Beside (cond b (text ∷ filter is_item texts) (filter is_item texts)) (items_of (l ∷ lines))) (sym is)
      (sym same) others
]

-- no text that begins with the letter "P"
no-script : (text : List ℕ) → ((s : List ℕ) → text ≡ 80 ∷ s → ⊥) → is_script text ≡ false
no-script [] other = refl
no-script (c ∷ text) other = cases (is_in (only (codes "P")) c) refl where
  cases : (b : Bool) → is_in (only (codes "P")) c ≡ b → b ≡ false
  cases true e = absurd (other text (ap (λ b. b ∷ text) (only-byte 80 c e)))
  cases false e = refl

-- the lines behind those that have their ends, and the text behind a line "P"
abbrev last_of : Tail → List Line
last_of (Ends l) = l ∷ []
last_of _ = []

abbrev behind_letter : Tail → Option (List ℕ)
behind_letter (Ends l) = None
behind_letter Letter = Some []
behind_letter (Opens text) = Some text

-- what the cut of a text gives
pub record Cuts (lines : List Line) (tail : Tail) (text : List ℕ) : Type 0 where
  pub items : Beside (item_texts text) (items_of lines)
  pub script : script_text text ≡ behind_letter tail

cuts-as : (lines : List Line) (tail : Tail) (text : List ℕ) (found : List (List ℕ) × Option (List ℕ))
    → cut_file text ≡ found → Beside (filter is_item found.0) (items_of lines) → found.1 ≡ behind_letter tail
    → Cuts lines tail text
cuts-as lines tail text found is items script =
    record {
      items = subst (λ f. Beside (filter is_item f.0) (items_of lines)) (sym is) items;
      script = ap (λ f. f.1)
          is ∙ script;
    }

cuts-tail : (tail : Tail) (text : List ℕ) → TailOf tail text → Cuts (last_of tail) tail text
cuts-tail (Ends l) text h =
    let first = first-alone text (feedless-line.each text l h) in
    let other = no-script text
    (λ s is. row-no_letter s (l, false) (subst (λ t. row t (l, false)) is (line-row text l h))) in
    cuts-as (l ∷ []) (Ends l) text (text ∷ [], None)
    (cut-last text other (ap (λ f. f.rest) first) ∙ ap (λ f. (text_of f ∷ [], None)) first)
    (beside-line text l [] [] (told-line text l h) tt) refl
cuts-tail Letter text h = subst (Cuts [] Letter) (sym h)
    (cuts-as [] Letter (codes "P") ([], Some []) (cut-script (codes "P") refl) tt refl)
cuts-tail (Opens behind) text (inl h) = subst (Cuts [] (Opens behind)) (sym h)
    (cuts-as [] (Opens behind) (80 ∷ 10 ∷ behind) ([], Some behind) (cut-script (80 ∷ 10 ∷ behind) refl) tt refl)
cuts-tail (Opens behind) text (inr h) = subst (Cuts [] (Opens behind)) (sym h)
    (cuts-as [] (Opens behind) (80 ∷ 13 ∷ 10 ∷ behind) ([], Some behind) (cut-script (80 ∷ 13 ∷ 10 ∷ behind) refl) tt
    refl)

cuts-line : (l : Line) (lines : List Line) (tail : Tail) (others : List ℕ → Type 0) (text : List ℕ)
    → (h : Ended l others text) → Cuts lines tail h.behind → Cuts (l ∷ lines) tail text
cuts-line l lines tail others text h c =
    let first : first_line text ≡ record { line = h.front; rest = Some h.behind } = ap first_line h.parts
    ∙ first-ended h.front h.behind (feedless-row h.front l h.wants h.of_row) in
    let other = no-script text (λ s is. ended-no_letter l others s (subst (Ended l others) is h)) in
    cuts-as (l ∷ lines) tail text (without_return h.front ∷ (cut_file h.behind).0, (cut_file h.behind).1)
    (cut-more text other h.behind (ap (λ f. f.rest) first)
    ∙ ap (λ f. (text_of f ∷ (cut_file h.behind).0, (cut_file h.behind).1)) first)
    (beside-line (without_return h.front) l (cut_file h.behind).0 lines (told-row h.front l h.wants h.of_row) c.items)
    c.script

-- a file is cut into the texts of its lines
cuts-front : (ended : List Line) (tail : Tail) (text : List ℕ) → Front ended tail text
    → Cuts (ended ++ last_of tail) tail text
cuts-front [] tail text h = cuts-tail tail text h
cuts-front (l ∷ ended) tail text h = cuts-line l (ended ++ last_of tail) tail (Front ended tail) text h
    (cuts-front ended tail h.behind h.of_others)

-- ---- what a file contains

beside-length : (texts : List (List ℕ)) (items : List ItemContents) → Beside texts items → length texts ≡ length items
beside-length [] [] all = refl
beside-length [] (item ∷ items) all = absurd all
beside-length (text ∷ texts) [] all = absurd all
beside-length (text ∷ texts) (item ∷ items) all = ap suc (beside-length texts items all.1)

beside-at : (texts : List (List ℕ)) (items : List ItemContents) → Beside texts items
    → (k : ℕ) (text : List ℕ) (item : ItemContents) → slice_get texts k ≡ Some text → slice_get items k ≡ Some item
    → IsItemText text item
beside-at [] [] all k text item t i = absurd (cc t)
beside-at [] (x ∷ items) all k text item t i = absurd all
beside-at (x ∷ texts) [] all k text item t i = absurd all
beside-at (x ∷ texts) (y ∷ items) all zero text item t i = let e : x ≡ text = cc t in let f : y ≡ item = cc i in subst₂
    IsItemText e f all.0
beside-at (x ∷ texts) (y ∷ items) all (suc k) text item t i = beside-at texts items all.1 k text item t i

-- the texts of a file spell what it contains
pub texts-spelled : (file : List ℕ) (contents : FileContents) → set_file file contents → SpellsTexts file contents
texts-spelled file contents h = let f = front-of_file file contents h in cases f.ended f.tail f.tells
    (cuts-front f.ended f.tail file f.spelled) where
      spells : (lines : List Line) (tail : Tail) → Cuts lines tail file → contents.lines ≡ lines
          → IsScriptText (behind_letter tail) contents.script → SpellsTexts file contents
      spells lines tail c is script =
          let beside : Beside (item_texts file) (items_of contents.lines) =
          subst (λ ls. Beside (item_texts file) (items_of ls)) (sym is) c.items in record {
            count = beside-length (item_texts file) (items_of contents.lines) beside;
            items = beside-at (item_texts file) (items_of contents.lines) beside;
            script = subst (λ text. IsScriptText text contents.script) (sym c.script) script;
          }

      cases : (ended : List Line) (tail : Tail) → TailIn contents tail ended → Cuts (ended ++ last_of tail) tail file
          → SpellsTexts file contents
      cases ended (Ends l) tells c = spells (ended ++ l ∷ []) (Ends l) c tells.0
          (subst (IsScriptText None) (sym tells.1) tt)
      cases ended Letter tells c = absurd tells
      cases ended (Opens text) tells c = spells (ended ++ []) (Opens text) c (tells.0 ∙ sym (append-nil ended))
          (subst (IsScriptText (Some text)) (sym tells.3) tells.2)
