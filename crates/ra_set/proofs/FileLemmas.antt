-- A file has its contents in one way, and what reading its lines says of it.
use Rattle.std.proofs.Common.{◌≡◌, ◌∙◌, ◌⊎◌, inl, inr, ℕ, Bool, true, false, List, [], ◌∷◌, ◌++◌, Option, Some, Ok, Err}
use Rattle.std.proofs.Common.{refl, sym, ap, subst, append_assoc}
use Rattle.ra_richpresence.specs.Grammar.{ScriptParts, script_parts}
use Rattle.ra_richpresence.proofs.ScriptForms.{parts-once}
use Rattle.ra_set.specs.Grammar.{Line, set_lines, FileContents, set_file}
use Rattle.ra_set.specs.Reading.{Tail, Ends, Letter, Opens, lines_in}
use Rattle.ra_set.proofs.FileReaders.{Front, file_front}
use Rattle.ra_set.proofs.FrontLemmas.{TailIn, HeadBefore, front-of_file, front-once, front-head, front-lines}
use Rattle.ra_set.proofs.FrontLemmas.{head-front, file-of_script}
use Rattle.ra_text.specs.Form.{Viable}
use Rattle.ra_text.specs.Place.{OneSpelling}
use Rattle.ra_text.specs.Reading.{Outcome, Reads, rest_of}
use Rattle.ra_text.proofs.Places.{whole-spelled}
use Rattle.ra_text.proofs.Steps.{same-ok, viable-whole}
use Rattle.ra_text.proofs.Spelled.{viable-by}

-- ---- one contents

-- contents whose parts are the same
same-contents : (v w : FileContents) → v.lines ≡ w.lines → v.script ≡ w.script → v ≡ w
same-contents v w a b = fields v.lines w.lines v.script w.script a b where
  fields : (i j : List Line) (s t : Option ScriptParts) → i ≡ j → s ≡ t
      → ◌≡◌ {A = FileContents} (record { lines = i; script = s }) (record { lines = j; script = t })
  fields i j s t p q = ap (λ x. record { lines = x; script = s }) p ∙ ap (λ x. record { lines = j; script = x }) q

-- what the tail of a file tells, in one way
tells-once : (tail : Tail) (ended : List Line) (v w : FileContents) → TailIn v tail ended → TailIn w tail ended → v ≡ w
tells-once (Ends last) ended v w a b = same-contents v w (a.0 ∙ sym b.0) (a.1 ∙ sym b.1)
tells-once Letter ended v w a b = absurd a
tells-once (Opens text) ended v w a b = same-contents v w (a.0 ∙ sym b.0) (a.3
    ∙ ap (λ p. Some p) (parts-once text a.1 b.1 a.2 b.2) ∙ sym b.3)

-- a file has its contents in one way at most
pub file-once : OneSpelling set_file
file-once file v w h k =
    let a = front-of_file file v h in
    let b = front-of_file file w k in
    let same : ◌≡◌ {A = List Line × Tail} (b.ended, b.tail) (a.ended, a.tail) =
    front-once file (b.ended, b.tail) (a.ended, a.tail) b.spelled a.spelled in
    tells-once a.tail a.ended v w a.tells (subst (λ f. TailIn w f.1 f.0) same b.tells)

-- ---- what the lines of a file are

-- the parts of an answer
abbrev Answered : Type 0
Answered = (List Line × Bool) × List ℕ

answer : (x y : Answered) → ◌≡◌ {A = Outcome ℕ (List Line × Bool)} (Ok x) (Ok y) → x ≡ y
answer x y e = same-ok x y e

-- the two answers differ in whether a script stands behind the lines
apart : (x y : Answered) → x.0.1 ≡ true → y.0.1 ≡ false → ◌≡◌ {A = Outcome ℕ (List Line × Bool)} (Ok x) (Ok y) → ⊥
apart x y a b e = let same : x.0.1 ≡ y.0.1 = ap (λ p. p.0.1) (answer x y e) in cc (same, a, b)

-- all of the file was read: its lines
pub lines-all : (file : List ℕ) (outcome : Outcome ℕ (List Line × Tail))
    → Reads file_front file outcome → (lines : List Line) (rest : List ℕ) → lines_in outcome
    ≡ Ok ((lines, false), rest) → set_lines file lines
lines-all file (Ok ((ended, Ends last), [])) r lines rest e =
    let same : ended ++ last ∷ [] ≡ lines =
    ap (λ p. p.0.0) (answer ((ended ++ last ∷ [], false), []) ((lines, false), rest) e) in
    subst (set_lines file) same (front-lines file ended last (whole-spelled (ended, Ends last) r))
lines-all file (Ok ((ended, Ends last), byte ∷ behind)) r lines rest e = absurd (cc e)
lines-all file (Ok ((ended, Letter), [])) r lines rest e =
    absurd (apart ((ended, true), []) ((lines, false), rest) refl refl e)
lines-all file (Ok ((ended, Letter), byte ∷ behind)) r lines rest e = absurd (cc e)
lines-all file (Ok ((ended, Opens text), behind)) r lines rest e =
    absurd (apart ((ended, true), text) ((lines, false), rest) refl refl e)
lines-all file (Err behind) r lines rest e = absurd (cc e)

-- and nothing is left
pub nothing-left : (outcome : Outcome ℕ (List Line × Tail)) (lines : List Line) (rest : List ℕ)
    → lines_in outcome ≡ Ok ((lines, false), rest) → rest ≡ []
nothing-left (Ok ((ended, Ends last), [])) lines rest e =
    sym (ap (λ p. p.1) (answer ((ended ++ last ∷ [], false), []) ((lines, false), rest) e))
nothing-left (Ok ((ended, Ends last), byte ∷ behind)) lines rest e = absurd (cc e)
nothing-left (Ok ((ended, Letter), [])) lines rest e =
    absurd (apart ((ended, true), []) ((lines, false), rest) refl refl e)
nothing-left (Ok ((ended, Letter), byte ∷ behind)) lines rest e = absurd (cc e)
nothing-left (Ok ((ended, Opens text), behind)) lines rest e =
    absurd (apart ((ended, true), text) ((lines, false), rest) refl refl e)
nothing-left (Err behind) lines rest e = absurd (cc e)

-- the lines of a file up to a line "P", and the text behind it
pub record BeforeScript (file text : List ℕ) (lines : List Line) : Type 0 where
  pub spelled : Front lines (Opens text) file ⊎ ((text ≡ []) × Front lines Letter file)

-- a text behind a line "P" is as long as it may be
opens-more : (ended : List Line) (text more u : List ℕ) → Front ended (Opens text) u
    → Front ended (Opens (text ++ more)) (u ++ more)
opens-more ended text more u h = let b = front-head u text ended h in
    subst (Front ended (Opens (text ++ more))) (sym (ap (λ x. x ++ more) b.1
    ∙ append_assoc b.0 text more)) (head-front b.0 (text ++ more) ended b.2)

opens-all : (file : List ℕ) (ended : List Line) (text behind : List ℕ)
    → Reads file_front file (Ok ((ended, Opens text), behind)) → Front ended (Opens text) file
opens-all file ended text [] r = whole-spelled (ended, Opens text) r
opens-all file ended text (byte ∷ behind) r = absurd (r.halts byte behind refl
    (viable-whole (r.front ++ byte ∷ []) (ended, Opens (text ++ byte ∷ [])) (opens-more ended text
    (byte ∷ []) r.front (r.spelled (ended, Opens text) (byte ∷ behind) refl))))

pub lines-before : (file : List ℕ) (outcome : Outcome ℕ (List Line × Tail))
    → Reads file_front file outcome → (lines : List Line) (rest : List ℕ) → lines_in outcome
    ≡ Ok ((lines, true), rest) → BeforeScript file rest lines
lines-before file (Ok ((ended, Ends last), [])) r lines rest e =
    absurd (apart ((lines, true), rest) ((ended ++ last ∷ [], false), []) refl refl (sym e))
lines-before file (Ok ((ended, Ends last), byte ∷ behind)) r lines rest e = absurd (cc e)
lines-before file (Ok ((ended, Letter), [])) r lines rest e =
    let same : ended ≡ lines = ap (λ p. p.0.0) (answer ((ended, true), []) ((lines, true), rest) e) in
    let none : [] ≡ rest = ap (λ p. p.1) (answer ((ended, true), []) ((lines, true), rest) e) in
    record { spelled = inr (sym none, subst (λ ls. Front ls Letter file) same (whole-spelled (ended, Letter) r)) }
lines-before file (Ok ((ended, Letter), byte ∷ behind)) r lines rest e = absurd (cc e)
lines-before file (Ok ((ended, Opens text), behind)) r lines rest e =
    let same : ended ≡ lines = ap (λ p. p.0.0) (answer ((ended, true), text) ((lines, true), rest) e) in
    let left : text ≡ rest = ap (λ p. p.1) (answer ((ended, true), text) ((lines, true), rest) e) in
    record {
      spelled = inl (subst (λ ls. Front ls (Opens rest) file) same
          (subst (λ t. Front ended (Opens t) file) left (opens-all file ended text behind r)));
    }
lines-before file (Err behind) r lines rest e = absurd (cc e)

-- ---- where lines are bad

-- nothing of the file is a front as a whole but a last line, which is left
abbrev pub Stopped : Outcome ℕ (List Line × Tail) → List ℕ → Type 0
Stopped outcome rest = (rest_of outcome ≡ rest) × ((v : List Line × Tail) → outcome ≡ Ok (v, []) → ⊥)

pub stopped : (outcome : Outcome ℕ (List Line × Tail)) (rest : List ℕ) → lines_in outcome ≡ Err rest
    → Stopped outcome rest
stopped (Ok ((ended, Ends last), [])) rest e = absurd (cc e)
stopped (Ok ((ended, Ends last), byte ∷ behind)) rest e =
    (cc e, λ v ok. absurd (let none : byte ∷ behind ≡ [] = ap rest_of ok in cc none))
stopped (Ok ((ended, Letter), [])) rest e = absurd (cc e)
stopped (Ok ((ended, Letter), byte ∷ behind)) rest e =
    (cc e, λ v ok. absurd (let none : byte ∷ behind ≡ [] = ap rest_of ok in cc none))
stopped (Ok ((ended, Opens text), behind)) rest e = absurd (cc e)
stopped (Err behind) rest e = (cc e, λ v ok. absurd (cc ok))

-- of two ways to cut a text, one front goes on with the other
pub fronts-along : (a b c d : List ℕ) → a ++ b ≡ c ++ d → ((w : List ℕ) × (c ≡ a ++ w)) ⊎ ((w : List ℕ) × (a ≡ c ++ w))
fronts-along [] b c d e = inl (c, refl)
fronts-along (x ∷ a) b [] d e = inr (x ∷ a, refl)
fronts-along (x ∷ a) b (y ∷ c) d e =
    let first : y ≡ x = cc e in
    let tail : a ++ b ≡ c ++ d = cc e in
    elim (fronts-along a b c d tail) [
      | inl w ↦ inl (w.0, ap (λ z. z ∷ c) first ∙ ap (λ t. x ∷ t) w.1)
      | inr w ↦ inr (w.0, ap (λ z. z ∷ a) (sym first) ∙ ap (λ t. y ∷ t) w.1)
    ]

-- a head goes on to a set file
module _ (sample : List ℕ) (parts : ScriptParts) (spelled : script_parts sample parts) where
  pub head-viable : (u more text : List ℕ) (ended : List Line)
      → (h : HeadBefore (u ++ more) text ended) → (w : List ℕ) → h.0 ≡ u ++ w → Viable set_file u
  head-viable u more text ended h w is = viable-by (w ++ sample)
      (record { lines = ended; script = Some parts }) (file-of_script (u ++ (w ++ sample)) sample
      ended parts
      (h.0, sym (append_assoc u w sample) ∙ ap (λ x. x ++ sample) (sym is), h.2) spelled)
