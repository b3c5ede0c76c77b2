-- A line of a set file and the file of that line alone.
use Rattle.std.proofs.Common.{◌≡◌, ◌∙◌, inl, inr, ℕ, ◌==◌, ◌&&◌, ◌||◌, Bool, true, false, if◌then◌else◌, List, [], ◌∷◌}
use Rattle.std.proofs.Common.{◌++◌, None, Some, option_to_list, refl, sym, ap, subst, codes, append-nil, bytes_eq}
use Rattle.std.proofs.Common.{eqb-true}
use Rattle.std.specs.List.{list_all}
use Rattle.ra_richpresence.specs.Cut.{content_of, has_no_feed, is_end}
use Rattle.ra_richpresence.proofs.Cuts.{cons-no_feed}
use Rattle.ra_set.specs.Alone.{is_script_line, ContainsAlone}
use Rattle.ra_set.specs.Grammar.{Line, items_of, line}
use Rattle.ra_set.proofs.FileLemmas.{file-once}
use Rattle.ra_set.proofs.FrontLemmas.{file-of_lines, front-lines}
use Rattle.ra_set.proofs.LineBytes.{Feedless, each-append, feedless-line}
use Rattle.ra_set.proofs.LineReaders.{row, begins-achievement, begins-comment, begins-comment_row, begins-leaderboard}
use Rattle.ra_set.proofs.LineReaders.{firsts-item_row}
use Rattle.ra_set.proofs.RowLines.{cut, line-row}
use Rattle.ra_text.proofs.Tables.{OfEach, each-in}
use Rattle.ra_review.specs.Lines.{Verdict, Accepts, Refuses, IsVerdict, opens_script, is_space}
use Rattle.ra_text.proofs.Spelled.{none-spelled}

-- ---- bytes of a line

-- no byte of a row is a line feed
no_feeds : (text : List ℕ) → OfEach Feedless text → has_no_feed text ≡ true
no_feeds [] each = refl
no_feeds (c ∷ text) each = by_feed (c == 10) refl (no_feeds text each.1)
  where
    by_feed : (feed : Bool) → (c == 10) ≡ feed → has_no_feed text ≡ true → has_no_feed (c ∷ text) ≡ true
    by_feed true e clear = absurd (each.0 (eqb-true c 10 e))
    by_feed false e clear = cons-no_feed c text e clear

pub line_feedless : (text : List ℕ) (l : Line) → line text l → has_no_feed text ≡ true
line_feedless text l h = no_feeds text (feedless-line.each text l h)

pub row_feedless : (text : List ℕ) (l : Line) (wants : Bool) → row text (l, wants) → has_no_feed text ≡ true
row_feedless text l wants h = elim (cut text l wants h) [
  | inl c ↦ line_feedless text l c.0
  | inr c ↦ no_feeds text (subst (OfEach Feedless) (sym c.3)
      (each-append Feedless c.0 (codes "\r") (feedless-line.each c.0 l c.1) ((λ e. cc e), tt)))
]

-- a row begins with neither letter of a line P
not_letter : (c : ℕ) (text : List ℕ) (r : Line × Bool) → row (c ∷ text) r → ((c == 80) || (c == 112)) ≡ false
not_letter c text r (inl h) = each-in (λ c. ((c == 80) || (c == 112)) ≡ false) (codes "#")
    (refl, tt) c (begins-comment_row.first c text r h)
not_letter c text r (inr h) = each-in (λ c. ((c == 80) || (c == 112)) ≡ false) (codes "AL\r")
    (refl, (refl, (refl, tt))) c (firsts-item_row.first c text r h)

-- what begins with neither letter is no line P
pub no_letter_opens : (c : ℕ) (text : List ℕ) → ((c == 80) || (c == 112)) ≡ false
    → opens_script (content_of (c ∷ text)) ≡ false
no_letter_opens c text other = by_end (is_end (c ∷ text))
  where
    by_end : (end : Bool) → opens_script (if end then [] else c ∷ content_of text) ≡ false
    by_end true = refl
    by_end false = ap (λ b. b && list_all is_space (content_of text)) other

pub row_opens_none : (front : List ℕ) (l : Line) (wants : Bool) → row front (l, wants)
    → opens_script (content_of (front ++ 10 ∷ [])) ≡ false
row_opens_none [] l wants h = refl
row_opens_none (c ∷ front) l wants h = no_letter_opens c (front ++ 10 ∷ []) (not_letter c front (l, wants) h)

pub line_opens_none : (text : List ℕ) (l : Line) → line text l → opens_script (content_of text) ≡ false
line_opens_none [] l h = refl
line_opens_none (c ∷ text) l h = no_letter_opens c text (not_letter c text (l, false) (line-row (c ∷ text) l h))

-- the one byte "P" opens a script
pub script_opens : (content : List ℕ) → bytes_eq (codes "P") content ≡ true → content ≡ codes "P"
script_opens [] e = absurd (cc e)
script_opens (c ∷ []) e = by_letter (80 == c) refl e
  where
    by_letter : (same : Bool) → (80 == c) ≡ same → (same && true) ≡ true → c ∷ [] ≡ codes "P"
    by_letter true is e = let same : 80 ≡ c = eqb-true 80 c is in ap (λ c. c ∷ []) (sym same)
    by_letter false is e = absurd (cc e)
script_opens (c ∷ d ∷ content) e = by_letter (80 == c) e
  where
    by_letter : (same : Bool) → (same && false) ≡ true → c ∷ d ∷ content ≡ codes "P"
    by_letter true e = absurd (cc e)
    by_letter false e = absurd (cc e)

pub not_script_line : (text : List ℕ) → opens_script (content_of text) ≡ false → is_script_line text ≡ false
not_script_line text other = by_letter (bytes_eq (codes "P") (content_of text)) refl
  where
    by_letter : (same : Bool) → bytes_eq (codes "P") (content_of text) ≡ same → same ≡ false
    by_letter true e =
        let opens : opens_script (content_of text) ≡ true = ap opens_script (script_opens (content_of text) e) in
        absurd (cc (opens, other))
    by_letter false e = refl

-- the empty text is an empty line
pub empty_line : line [] None
empty_line = inr (inr (inr none-spelled))

pub empty_has_none : (l : Line) → line [] l → l ≡ None
empty_has_none l (inl h) = absurd (begins-comment.not_empty l h)
empty_has_none l (inr (inl h)) = absurd (begins-achievement.not_empty l h)
empty_has_none l (inr (inr (inl h))) = absurd (begins-leaderboard.not_empty l h)
empty_has_none l (inr (inr (inr h))) = h.is

-- ---- the file of a line alone

-- a row with its line feed
pub row_alone : (front : List ℕ) (l : Line) (wants : Bool) → row front (l, wants) → ContainsAlone (front ++ 10 ∷ []) l
row_alone front l wants h = record {
  lines = l ∷ None ∷ [];
  spelled = file-of_lines (front ++ 10 ∷ []) (l ∷ None ∷ []) (front-lines (front ++ 10 ∷ []) (l ∷ []) None
      (record { wants = wants; front = front; behind = []; parts = refl; of_row = h; of_others = empty_line }));
  items = append-nil (option_to_list l);
}

-- a line that ends with the text
pub line_alone : (text : List ℕ) (l : Line) → line text l → ContainsAlone text l
line_alone text l h = record {
  lines = l ∷ [];
  spelled = file-of_lines text (l ∷ []) (front-lines text [] l h);
  items = append-nil (option_to_list l);
}

-- one item or none
pub same_option : (l m : Line) → option_to_list l ≡ option_to_list m → l ≡ m
same_option None None e = refl
same_option None (Some y) e = absurd (cc e)
same_option (Some x) None e = absurd (cc e)
same_option (Some x) (Some y) e = cc e

same_line : (text : List ℕ) (l m : Line) → ContainsAlone text l → ContainsAlone text m → l ≡ m
same_line text l m a b =
    let same = file-once text (record { lines = a.lines; script = None })
    (record { lines = b.lines; script = None }) a.spelled b.spelled in
    same_option l m (sym a.items ∙ ap (λ c. items_of c.lines) same ∙ b.items)

-- a line whose file is a set file is accepted with what that has
pub only_verdict : (text : List ℕ) (l : Line) → is_script_line text ≡ false → ContainsAlone text l → (v : Verdict)
    → IsVerdict text v → v ≡ Accepts l
only_verdict text l other c (Accepts m) (inl h) = let no = h.0 in absurd (cc (no, other))
only_verdict text l other c (Accepts m) (inr h) = ap Accepts (same_line text m l h.1 c)
only_verdict text l other c (Refuses place) h =
    absurd (h.1.outside (record { lines = c.lines; script = None }) c.spelled)
