-- What a file has from its line "P" on, by the lines that the grammar finds in it.
use Rattle.std.proofs.Common.{◌≡◌, ◌∙◌, inl, inr, ℕ, ◌==◌, Bool, true, false, if◌then◌else◌, List, [], ◌∷◌, ◌++◌, refl}
use Rattle.std.proofs.Common.{sym, ap, subst, codes, append_assoc, ne_eqb}
use Rattle.ra_set.specs.Grammar.{Line, line, ended_line}
use Rattle.ra_set.specs.Reading.{Opens}
use Rattle.ra_set.specs.Runs.{many}
use Rattle.ra_set.proofs.FileReaders.{TailOf, row-no_letter}
use Rattle.ra_set.proofs.LineBytes.{Feedless, each-append, feedless-line}
use Rattle.ra_set.proofs.LineReaders.{row}
use Rattle.ra_set.proofs.RowLines.{cut, ended-row, line-row}
use Rattle.ra_text.proofs.Tables.{OfEach}
use Rattle.ra_normal.specs.Text.{begins_script, script_from}

-- ---- bytes of a line

-- a byte other than a line feed
other_byte : (c n : ℕ) → (c ≡ n → ⊥) → (c == n) ≡ false
other_byte c n other = ne_eqb c n other

-- in a line no script begins
rest_skipped : (rest behind : List ℕ) → OfEach Feedless rest
    → script_from false (rest ++ 10 ∷ behind) ≡ script_from true behind
rest_skipped [] behind all = refl
rest_skipped (c ∷ rest) behind all = ap (λ starts. script_from starts (rest ++ 10 ∷ behind))
    (other_byte c 10 all.0) ∙ rest_skipped rest behind all.1

rest_ended : (rest : List ℕ) → OfEach Feedless rest → script_from false rest ≡ []
rest_ended [] all = refl
rest_ended (c ∷ rest) all = ap (λ starts. script_from starts rest) (other_byte c 10 all.0) ∙ rest_ended rest all.1

-- a text that begins with another byte begins with no line "P"
begins_otherwise : (c : ℕ) (text : List ℕ) → (c ≡ 80 → ⊥) → begins_script (c ∷ text) ≡ false
begins_otherwise c text other = let no = other_byte c 80 other in rw no refl

-- a line that does not begin with the letter is passed
line_skipped : (text behind : List ℕ) → OfEach Feedless text → ((s : List ℕ) → text ≡ 80 ∷ s → ⊥)
    → script_from true (text ++ 10 ∷ behind) ≡ script_from true behind
line_skipped [] behind all other = refl
line_skipped (c ∷ text) behind all other =
    ap (λ b. if b then c ∷ (text ++ 10 ∷ behind) else script_from (c == 10) (text ++ 10 ∷ behind))
    (begins_otherwise c (text ++ 10 ∷ behind) (λ same. other text (ap (λ b. b ∷ text) same)))
    ∙ ap (λ starts. script_from starts (text ++ 10 ∷ behind)) (other_byte c 10 all.0)
    ∙ rest_skipped text behind all.1

line_ended : (text : List ℕ) → OfEach Feedless text → ((s : List ℕ) → text ≡ 80 ∷ s → ⊥) → script_from true text ≡ []
line_ended [] all other = refl
line_ended (c ∷ text) all other =
    ap (λ b. if b then c ∷ text else script_from (c == 10) text)
    (begins_otherwise c text (λ same. other text (ap (λ b. b ∷ text) same)))
    ∙ ap (λ starts. script_from starts text) (other_byte c 10 all.0)
    ∙ rest_ended text all.1

-- ---- lines

-- a row has no line feed in it
feedless_row : (text : List ℕ) (l : Line) (wants : Bool) → row text (l, wants) → OfEach Feedless text
feedless_row text l wants h = elim (cut text l wants h) [
  | inl c ↦ feedless-line.each text l c.0
  | inr c ↦ subst (OfEach Feedless) (sym c.3)
      (each-append Feedless c.0 (codes "\r") (feedless-line.each c.0 l c.1) ((λ e. cc e), tt))
]

-- no script begins in lines that have their ends
pub lines_skipped : (ended : List Line) (text : List ℕ) → many ended_line text ended
    → (behind : List ℕ) → script_from true (text ++ behind) ≡ script_from true behind
lines_skipped [] text h behind = ap (λ t. script_from true (t ++ behind)) h
lines_skipped (l ∷ ended) text h behind =
    let r = ended-row h.front l h.of_first in
    let parts : text ++ behind ≡ r.1 ++ 10 ∷ (h.behind ++ behind) =
    ap (λ t. t ++ behind) (h.parts ∙ ap (λ t. t ++ h.behind) r.3
    ∙ append_assoc r.1 (codes "\n") h.behind) ∙ append_assoc r.1 (10 ∷ h.behind) behind in
    ap (script_from true) parts
    ∙ line_skipped r.1 (h.behind ++ behind) (feedless_row r.1 l r.0 r.2)
    (λ s is. row-no_letter s (l, r.0) (subst (λ t. row t (l, r.0)) is r.2))
    ∙ lines_skipped ended h.behind h.of_next behind

-- a last line has no script
pub last_unscripted : (text : List ℕ) (l : Line) → line text l → script_from true text ≡ []
last_unscripted text l h = line_ended text (feedless-line.each text l h)
    (λ s is. row-no_letter s (l, false) (subst (λ t. row t (l, false)) is (line-row text l h)))

-- from a line "P" on all bytes are copied
pub script_stays : (text behind : List ℕ) → TailOf (Opens behind) text → script_from true text ≡ text
script_stays text behind (inl is) = ap (script_from true) is ∙ sym is
script_stays text behind (inr is) = ap (script_from true) is ∙ sym is
