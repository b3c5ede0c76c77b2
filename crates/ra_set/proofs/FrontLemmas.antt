-- The front of a file, and what the grammar says of its lines and of a line "P".
use Rattle.std.proofs.Common.{◌≡◌, ◌∙◌, ◌⊎◌, inl, inr, ℕ, List, [], ◌∷◌, ◌++◌, Some, None, refl, sym, ap, subst, subst₂}
use Rattle.std.proofs.Common.{codes, append-nil, append_assoc}
use Rattle.ra_richpresence.specs.Grammar.{ScriptParts, script_parts}
use Rattle.ra_set.specs.Grammar.{Line, line_end, ended_line, set_lines, last_head, script_head, FileContents, set_file}
use Rattle.ra_set.specs.Places.{HasScript}
use Rattle.ra_set.specs.Reading.{Tail, Ends, Letter, Opens, front_at}
use Rattle.ra_set.specs.Runs.{many}
use Rattle.ra_set.proofs.FileReaders.{Front, TailOf, file_front, reads-front}
use Rattle.ra_set.proofs.RowLines.{ended-row, row-ended, one-is, end-text, lf, crlf}
use Rattle.ra_text.specs.Place.{OneSpelling}
use Rattle.ra_text.proofs.Places.{spelled-once}
use Rattle.ra_text.proofs.Spelled.{then-spelled, none-spelled, one-spelled}

-- ---- lines with their ends, and how they end

pub ended-front : (tail : Tail) (ended : List Line) (t : List ℕ) → many ended_line t ended
    → (u : List ℕ) → TailOf tail u → Front ended tail (t ++ u)
ended-front tail [] t none u h = subst (λ x. TailOf tail (x ++ u)) (sym none) h
ended-front tail (l ∷ ended) t h u last =
    let e = ended-row h.front l h.of_first in record {
      wants = e.0;
      front = e.1;
      behind = h.behind ++ u;
      parts = ap (λ x. x ++ u) (h.parts ∙ ap (λ x. x ++ h.behind) e.3
          ∙ append_assoc e.1 (codes "\n") h.behind) ∙ append_assoc e.1 (10 ∷ h.behind) u;
      of_row = e.2;
      of_others = ended-front tail ended h.behind h.of_next u last;
    }

-- a text is cut behind its lines with their ends
pub record Parted (ended : List Line) (tail : Tail) (text : List ℕ) : Type 0 where
  pub front : List ℕ
  pub behind : List ℕ
  pub parts : text ≡ front ++ behind
  pub of_ended : many ended_line front ended
  pub of_tail : TailOf tail behind

pub front-ended : (tail : Tail) (ended : List Line) (text : List ℕ) → Front ended tail text → Parted ended tail text
front-ended tail [] text h = record { front = []; behind = text; parts = refl; of_ended = refl; of_tail = h }
front-ended tail (l ∷ ended) text h =
    let p = front-ended tail ended h.behind h.of_others in record {
      front = (h.front ++ codes "\n") ++ p.front;
      behind = p.behind;
      parts = h.parts ∙ sym (append_assoc h.front (codes "\n") h.behind) ∙ ap (λ x. (h.front ++
          codes "\n") ++ x) p.parts ∙ sym (append_assoc (h.front ++ codes "\n") p.front p.behind);
      of_ended =
          record {
            front = h.front ++ codes "\n";
            behind = p.front;
            parts = refl;
            of_first = row-ended h.front l h.wants h.of_row;
            of_next = p.of_ended;
          };
      of_tail = p.of_tail;
    }

-- ---- files without a script

pub lines-front : (text : List ℕ) (lines : List Line) → set_lines text lines → (ended : List Line)
    × (last : Line) × Front ended (Ends last) text × (lines ≡ ended ++ last ∷ [])
lines-front text lines h =
    let last = h.of_next in
    let parts : h.front ++ last.front ≡ text = sym (h.parts ∙ ap (λ x. h.front ++ x) (last.parts
    ∙ ap (λ x. last.front ++ x) last.of_next.empty ∙ append-nil last.front)) in (
      h.v,
      last.v,
      subst (Front h.v (Ends last.v)) parts (ended-front (Ends last.v) h.v h.front h.of_first last.front last.of_first),
      last.of_next.is,
    )

pub front-lines : (text : List ℕ) (ended : List Line) (last : Line) → Front ended (Ends last) text
    → set_lines text (ended ++ last ∷ [])
front-lines text ended last h = let p = front-ended (Ends last) ended text h in
    then-spelled p.front p.behind ended p.parts p.of_ended
    (then-spelled p.behind [] last (sym (append-nil p.behind)) p.of_tail none-spelled)

-- ---- files with a line "P"

pub front-letter : (text : List ℕ) (ended : List Line) → Front ended Letter text → last_head text ended
front-letter text ended h = let p = front-ended Letter ended text h in
    then-spelled p.front p.behind ended p.parts p.of_ended (then-spelled p.behind [] tt (sym
    (append-nil p.behind)) (record { symbol = 80; alone = p.of_tail; listed = refl }) none-spelled)

-- lines with their ends before the letter "P"
record BeforeLetter (text : List ℕ) (ended : List Line) : Type 0 where
  before : List ℕ
  parts : text ≡ before ++ codes "P"
  of_ended : many ended_line before ended

before-letter : (text : List ℕ) (ended : List Line) → last_head text ended → BeforeLetter text ended
before-letter text ended h = let l = h.of_next in record {
  before = h.front;
  parts = h.parts ∙ ap (λ x. h.front ++ x) (l.parts ∙ ap (λ x. l.front ++ x) l.of_next.empty
      ∙ append-nil l.front ∙ one-is 80 l.front l.v l.of_first);
  of_ended = subst (many ended_line h.front) (sym l.of_next.is) h.of_first;
}

pub letter-front : (text : List ℕ) (ended : List Line) → last_head text ended → Front ended Letter text
letter-front text ended h = let b = before-letter text ended h in
    subst (Front ended Letter) (sym b.parts) (ended-front Letter ended b.before b.of_ended (codes "P") refl)

-- the end of a line "P", and a text behind it
end-opens : (e : List ℕ) (behind : List ℕ) → (e ≡ codes "\n") ⊎ (e ≡ codes "\r\n")
    → TailOf (Opens behind) (codes "P" ++ (e ++ behind))
end-opens e behind (inl is) = inl (ap (λ x. codes "P" ++ (x ++ behind)) is)
end-opens e behind (inr is) = inr (ap (λ x. codes "P" ++ (x ++ behind)) is)

pub head-front : (text behind : List ℕ) (ended : List Line) → script_head text ended
    → Front ended (Opens behind) (text ++ behind)
head-front text behind ended h =
    let b = before-letter h.front h.v h.of_first in
    let e = h.of_next in
    let end : h.behind ≡ e.front = e.parts ∙ ap (λ x. e.front ++ x) e.of_next.empty ∙ append-nil e.front in
    let parts : text ++ behind ≡ b.before ++ (codes "P" ++ (e.front ++ behind)) =
    ap (λ x. x ++ behind) (h.parts ∙ ap (λ x. x ++ h.behind) b.parts ∙ ap (λ x. (b.before ++ codes "P") ++ x) end)
    ∙ append_assoc (b.before ++ codes "P") e.front behind ∙ append_assoc b.before (codes "P") (e.front ++ behind) in
    subst₂ (λ ls t. Front ls (Opens behind) t) (sym e.of_next.is) (sym parts)
    (ended-front (Opens behind) h.v b.before b.of_ended (codes "P" ++ (e.front ++ behind))
    (end-opens e.front behind (end-text e.front e.v e.of_first)))

-- a line "P" with its end
with-letter : (before e : List ℕ) (ended : List Line) → many ended_line before ended → line_end e tt
    → script_head ((before ++ codes "P") ++ e) ended
with-letter before e ended h end = then-spelled (before ++ codes "P") e ended refl
    (then-spelled before (codes "P") ended refl h (then-spelled (codes "P") [] tt refl (one-spelled
    80 refl) none-spelled)) (then-spelled e [] tt (sym (append-nil e)) end none-spelled)

-- the letter of a last line, with an end
pub letter-ended : (text : List ℕ) (ended : List Line) → Front ended Letter text
    → script_head (text ++ codes "\n") ended
letter-ended text ended h = let p = front-ended Letter ended text h in
    subst (λ x. script_head (x ++ codes "\n") ended) (sym (p.parts
    ∙ ap (λ x. p.front ++ x) p.of_tail)) (with-letter p.front (codes "\n") ended p.of_ended lf)

-- a head stands before a text
abbrev pub HeadBefore : List ℕ → List ℕ → List Line → Type 0
HeadBefore file text ended = (head : List ℕ) × (file ≡ head ++ text) × script_head head ended

pub front-head : (file text : List ℕ) (ended : List Line) → Front ended (Opens text) file → HeadBefore file text ended
front-head file text ended h = let p = front-ended (Opens text) ended file h in
    cases p.front p.behind p.parts p.of_ended p.of_tail where
      cases : (before behind : List ℕ) → file ≡ before ++ behind → many ended_line before ended
          → TailOf (Opens text) behind → HeadBefore file text ended
      cases before behind parts all (inl is) = (
        (before ++ codes "P") ++ codes "\n",
        parts ∙ ap (λ x. before ++ x) is ∙ sym (append_assoc before (codes "P") (10 ∷ text))
            ∙ sym (append_assoc (before ++ codes "P") (codes "\n") text),
        with-letter before (codes "\n") ended all lf,
      )
      cases before behind parts all (inr is) = (
        (before ++ codes "P") ++ codes "\r\n",
        parts ∙ ap (λ x. before ++ x) is ∙ sym (append_assoc before (codes "P") (13 ∷ 10 ∷ text))
            ∙ sym (append_assoc (before ++ codes "P") (codes "\r\n") text),
        with-letter before (codes "\r\n") ended all crlf,
      )

-- ---- what a file spells, and its front

-- a front is told in one way
pub front-once : OneSpelling file_front
front-once = spelled-once file_front front_at reads-front

-- a line "P" in a file
pub script-front : (file front text : List ℕ) → (h : HasScript file front text)
    → Front h.lines (Opens text) file ⊎ ((text ≡ []) × Front h.lines Letter file)
script-front file front text h = elim h.opens [
  | inl head ↦ inl (subst (Front h.lines (Opens text)) (sym h.parts) (head-front front text h.lines head))
  | inr last ↦
      inr (
        last.0,
        subst (Front h.lines Letter) (sym (h.parts ∙ ap (λ x. front ++ x) last.0
            ∙ append-nil front)) (letter-front front h.lines last.1),
      )
]

-- how the lines of a file end that is a set file
abbrev pub TailIn : FileContents → Tail → List Line → Type 0
TailIn contents (Ends last) ended = (contents.lines ≡ ended ++ last ∷ []) × (contents.script ≡ None)
TailIn contents Letter ended = ⊥
TailIn contents (Opens text) ended = (contents.lines ≡ ended) × (parts : ScriptParts)
    × script_parts text parts × (contents.script ≡ Some parts)

-- the front of a set file
pub record FileFront (file : List ℕ) (contents : FileContents) : Type 0 where
  pub ended : List Line
  pub tail : Tail
  pub spelled : Front ended tail file
  pub tells : TailIn contents tail ended

pub front-of_file : (file : List ℕ) (contents : FileContents) → set_file file contents → FileFront file contents
front-of_file file contents (inl h) =
    let s = h.of_next in
    let text : s.front ≡ h.behind =
    sym (s.parts ∙ ap (λ x. s.front ++ x) s.of_next.empty ∙ append-nil s.front) in record {
      ended = h.v;
      tail = Opens h.behind;
      spelled = subst (Front h.v (Opens h.behind)) (sym h.parts) (head-front h.front h.behind h.v h.of_first);
      tells = (
        ap (λ c. c.lines) s.of_next.is,
        s.v,
        subst (λ t. script_parts t s.v) text s.of_first,
        ap (λ c. c.script) s.of_next.is,
      );
    }
front-of_file file contents (inr h) =
    let text : h.front ≡ file = sym (h.parts ∙ ap (λ x. h.front ++ x) h.of_next.empty ∙ append-nil h.front) in
    let l = lines-front h.front h.v h.of_first in record {
      ended = l.0;
      tail = Ends l.1;
      spelled = subst (Front l.0 (Ends l.1)) text l.2;
      tells = (ap (λ c. c.lines) h.of_next.is ∙ l.3, ap (λ c. c.script) h.of_next.is);
    }

-- a file without a script
pub file-of_lines : (file : List ℕ) (lines : List Line) → set_lines file lines
    → set_file file (record { lines = lines; script = None })
file-of_lines file lines h = inr (then-spelled file [] lines (sym (append-nil file)) h none-spelled)

-- a file with a script
pub file-of_script : (file text : List ℕ) (ended : List Line) (parts : ScriptParts)
    → HeadBefore file text ended → script_parts text parts
    → set_file file (record { lines = ended; script = Some parts })
file-of_script file text ended parts h spelled = inl (then-spelled h.0 text ended h.1 h.2
    (then-spelled text [] parts (sym (append-nil text)) spelled none-spelled))
