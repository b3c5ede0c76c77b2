-- What was read of a file is what the file contains.
use Rattle.std.proofs.Common.{◌≡◌, ◌∙◌, ◌⊎◌, inl, inr, ℕ, ◌+◌, ◌-◌, ◌≤◌, Bool, true, false, List, [], ◌++◌, length, map}
use Rattle.std.proofs.Common.{drop, Option, Some, None, Ok, Err, refl, sym, ap, subst, arith, append-nil, length-append}
use Rattle.std.specs.List.{IsDistinct}
use Rattle.ra_richpresence.specs.Grammar.{script_parts}
use Rattle.ra_richpresence.specs.declared.read.ReadScript.{ReadScript}
use Rattle.ra_set.specs.declared.read_file.ReadFile.{ReadFile}
use Rattle.ra_set.specs.declared.refused.SetRefused.{SetRefused}
use Rattle.ra_set.specs.declared.refused.SetRefused.TheVariants.{Syntax, DuplicateId, Memory}
use Rattle.ra_set.specs.Accepted.{repeats}
use Rattle.ra_set.specs.Contents.{item_contents}
use Rattle.ra_set.specs.Grammar.{Line, FileContents, set_file, set_lines, items_of}
use Rattle.ra_set.specs.Places.{HasScript}
use Rattle.ra_set.specs.Read.{IsBadScript, IsReadBehind, IsReadFile}
use Rattle.ra_set.specs.Reading.{front_at, lines_in}
use Rattle.ra_set.specs.Refusals.{FirstRepeat, Refuses}
use Rattle.ra_set.specs.ScriptLimits.{IsReadOf}
use Rattle.ra_set.proofs.FileLemmas.{BeforeScript, lines-all, nothing-left, lines-before}
use Rattle.ra_set.proofs.FileReaders.{reads-front}
use Rattle.ra_set.proofs.FrontLemmas.{front-head, front-letter, file-of_lines, file-of_script}
use Rattle.ra_set.proofs.PlaceLemmas.{lines-outside, stopped-fits, script-outside}
use Rattle.ra_set.proofs.ScriptLines.{no-empty_script}

-- what stands before the text of a script, and that text
record CutAt (file text : List ℕ) : Type 0 where
  front : List ℕ
  begun : HasScript file front text

cut-at : (file text : List ℕ) (lines : List Line) → BeforeScript file text lines → CutAt file text
cut-at file text lines b = elim b.spelled [
  | inl f ↦ let h = front-head file text lines f in
      record { front = h.0; begun = record { parts = h.1; lines = lines; opens = inl h.2 } }
  | inr f ↦
      record {
        front = file;
        begun = record {
          parts = sym (append-nil file) ∙ ap (λ t. file ++ t) (sym f.0);
          lines = lines;
          opens = inr (f.0, front-letter file lines f.1);
        };
      }
]

-- the lines that were taken of a file, and what is left: its script, where it has one
abbrev pub TookLines : Bool → List ℕ → List ℕ → List Line → Type 0
TookLines true file rest lines = BeforeScript file rest lines
TookLines false file rest lines = set_lines file lines × (rest ≡ [])

-- what is left is no longer than the file
pub took-fits : (has_script : Bool) (file rest : List ℕ) (lines : List Line)
    → TookLines has_script file rest lines → length rest ≤ length file
took-fits true file rest lines h = let c = cut-at file rest lines h in
    omega (arith, ap length c.begun.parts, length-append c.front rest)
took-fits false file rest lines h = omega (arith, ap length h.1)

module _ (file start : List ℕ) (starts : start ≡ drop 0 file) where
  from-start : lines_in (front_at start) ≡ lines_in (front_at file)
  from-start = ap (λ t. lines_in (front_at t)) starts

  pub took-lines : (has_script : Bool) (rest : List ℕ) (lines : List Line) → lines_in
      (front_at start) ≡ Ok ((lines, has_script), rest) → TookLines has_script file rest lines
  took-lines true rest lines e = lines-before file (front_at file) (reads-front file) lines rest (sym from-start ∙ e)
  took-lines false rest lines e = (
    lines-all file (front_at file) (reads-front file) lines rest (sym from-start ∙ e),
    nothing-left (front_at file) lines rest (sym from-start ∙ e),
  )

  -- lines that stop are a refusal at their place
  pub stops-fit : (rest : List ℕ) → lines_in (front_at start) ≡ Err rest → length rest ≤ length file
  stops-fit rest e = stopped-fits file rest (sym from-start ∙ e)

  pub stop-refuses : length file ≤ 4194304 → (rest : List ℕ) → lines_in (front_at start) ≡ Err rest
      → (at : ℕ) → at ≡ length file - length rest → Refuses file (Syntax at)
  stop-refuses size rest e at is = (size, lines-outside file rest (sym from-start ∙ e) at is)

-- ---- what a file contains

-- what was read is what the file contains
record Contains (file : List ℕ) (lines : List Line) (read : Option ReadScript) : Type 0 where
  contents : FileContents
  spelled : set_file file contents
  same : contents.lines ≡ lines
  script : IsReadOf contents.script read

contains : (has_script : Bool) (file rest : List ℕ) (lines : List Line) (read : Option ReadScript)
    → TookLines has_script file rest lines → IsReadBehind has_script rest read
    → Contains file lines read
contains true file rest lines (Some read) h r = elim h.spelled [
  | inl f ↦
      record {
        contents = record { lines = lines; script = Some r.parts };
        spelled = file-of_script file rest lines r.parts (front-head file rest lines f) r.spelled;
        same = refl;
        script = r.is;
      }
  | inr f ↦ absurd (no-empty_script r.parts (subst (λ t. script_parts t r.parts) f.0 r.spelled))
]
contains true file rest lines None h r = absurd r
contains false file rest lines (Some read) h r = absurd r
contains false file rest lines None h r =
    record {
      contents = record { lines = lines; script = None };
      spelled = file-of_lines file lines h.0;
      same = refl;
      script = tt;
    }

module _ (file rest : List ℕ) (size : length file ≤ 4194304) (has_script : Bool) (lines : List Line)
    (took : TookLines has_script file rest lines) where
  -- the items that are kept, and the script that was read
  pub file-read : (read : ReadFile) → IsReadBehind has_script rest read.script
      → (map item_contents read.items.items ≡ items_of lines) × IsDistinct repeats (items_of lines)
      → IsReadFile file read
  file-read read r kept = let c = contains has_script file rest lines read.script took r in record {
    contents = c.contents;
    distinct =
        record {
          has = record { size = size; spelled = c.spelled };
          ids = subst (λ ls. IsDistinct repeats (items_of ls)) (sym c.same) kept.1;
        };
    items = kept.0 ∙ ap items_of (sym c.same);
    script = c.script;
  }

  -- a line repeats an id
  pub repeat-refuses : (read : Option ReadScript) → IsReadBehind has_script rest read
      → (why : SetRefused) → (id : ℕ) × (number : ℕ) × (why ≡ DuplicateId id number)
      × FirstRepeat lines id number → why ≡ Memory ⊎ Refuses file why
  repeat-refuses read r why h = let c = contains has_script file rest lines read took r in
      inr (subst (Refuses file) (sym h.2)
      (c.contents, record { size = size; spelled = c.spelled }, subst (λ ls. FirstRepeat ls h.0 h.1) (sym c.same) h.3))

-- the text behind a line "P" is no script
pub script-refuses : (file rest : List ℕ) (size : length file ≤ 4194304) (has_script : Bool)
    (lines : List Line) → TookLines has_script file rest lines → (start : ℕ) → start
    ≡ length file - length rest → (why : SetRefused)
    → why ≡ Memory ⊎ IsBadScript has_script rest start why → why ≡ Memory ⊎ Refuses file why
script-refuses file rest size has_script lines took start is why (inl memory) = inl memory
script-refuses file rest size true lines took start is why (inr bad) =
    let c = cut-at file rest lines took in
    let here : start ≡ length c.front = omega (arith, is, ap length c.begun.parts, length-append c.front rest) in
    inr (subst (Refuses file) (sym (bad.2 ∙ ap (λ n. Syntax (n + bad.0)) here))
    (size, script-outside file c.front rest c.begun bad.0 bad.1))
script-refuses file rest size false lines took start is why (inr bad) = absurd bad
