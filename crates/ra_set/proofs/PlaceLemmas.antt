-- The first bad place of a file, by its lines or by its script.
use Rattle.std.proofs.Common.{◌≡◌, ◌∙◌, inl, inr, ℕ, zero, suc, ◌+◌, ◌-◌, ◌<◌, ◌≤◌, List, [], ◌∷◌, ◌++◌, length, take}
use Rattle.std.proofs.Common.{drop, Some, None, Err, refl, sym, ap, subst, arith, codes, append_assoc, length-append}
use Rattle.std.proofs.Common.{take-append-drop}
use Rattle.std.proofs.lemmas.Bool.{cases_lt}
use Rattle.ra_richpresence.specs.Cut.{contents_of}
use Rattle.ra_richpresence.specs.Grammar.{ScriptParts, script_parts, script_of}
use Rattle.ra_richpresence.specs.Places.{IsFirstBad, IsFront, IsOutside, line_start}
use Rattle.ra_richpresence.proofs.Exact.{reads-whole}
use Rattle.ra_richpresence.proofs.Fronts.{viable-front}
use Rattle.ra_richpresence.proofs.ScriptForms.{script-of_parts}
use Rattle.ra_richpresence.proofs.ScriptReaders.{reads-script}
use Rattle.ra_set.specs.Grammar.{Line, FileContents, set_file}
use Rattle.ra_set.specs.Places.{HasScript, IsFileOutside}
use Rattle.ra_set.specs.Reading.{Tail, Ends, Letter, Opens, front_at, lines_in}
use Rattle.ra_set.proofs.FileReaders.{Front, file_front, reads-front}
use Rattle.ra_set.proofs.FileLemmas.{Stopped, stopped, fronts-along, head-viable}
use Rattle.ra_set.proofs.FrontLemmas.{TailIn, front-of_file, front-once, front-head, front-lines, letter-ended}
use Rattle.ra_set.proofs.FrontLemmas.{script-front, file-of_lines, file-of_script}
use Rattle.ra_set.proofs.LineReaders.{viable-nothing}
use Rattle.ra_text.specs.Form.{Viable}
use Rattle.ra_text.specs.Place.{IsBadPlace}
use Rattle.ra_text.specs.Reading.{rest_of}
use Rattle.ra_text.proofs.Places.{read-place}
use Rattle.ra_text.proofs.Steps.{reads-shorter, viable-same}
use Rattle.ra_text.proofs.Spelled.{viable-by}

-- ---- fronts of set files

-- there are scripts
some-script : IsFront []
some-script = viable-front [] tt (viable-nothing (reads-script []))

-- what goes on to a front of lines goes on to a set file, where the file that begins so has no line "P"
lines-viable : (file u rest : List ℕ) → file ≡ u ++ rest → ((front text : List ℕ)
    → HasScript file front text → ⊥) → Viable file_front u → Viable set_file u
lines-viable file u rest begun none viable = cases viable.v.0 viable.v.1 viable.whole where
  cases : (ended : List Line) (tail : Tail) → Front ended tail (u ++ viable.more) → Viable set_file u
  cases ended (Ends last) h = viable-by viable.more
      (record { lines = ended ++ last ∷ []; script = None }) (file-of_lines (u ++ viable.more)
      (ended ++ last ∷ []) (front-lines (u ++ viable.more) ended last h))
  cases ended Letter h = viable-by (viable.more ++ (codes "\n" ++ some-script.text))
      (record { lines = ended; script = Some some-script.whole.parts })
      (file-of_script (u ++ (viable.more ++ (codes "\n" ++ some-script.text))) some-script.text
      ended some-script.whole.parts (
        (u ++ viable.more) ++ codes "\n",
        sym (append_assoc u viable.more (codes "\n" ++ some-script.text))
            ∙ sym (append_assoc (u ++ viable.more) (codes "\n") some-script.text),
        letter-ended (u ++ viable.more) ended h,
      ) some-script.whole.spelled)
  cases ended (Opens text) h = let b = front-head (u ++ viable.more) text ended h in
      elim (fronts-along u viable.more b.0 text b.1) [
        | inl w ↦ head-viable some-script.text some-script.whole.parts some-script.whole.spelled u
            viable.more text ended b w.0 w.1
        | inr w ↦ absurd (none b.0 (w.0 ++ rest)
            (record {
              parts = begun ∙ ap (λ x. x ++ rest) w.1 ∙ append_assoc b.0 w.0 rest;
              lines = ended;
              opens = inl b.2;
            }))
      ]

file-viable : (u : List ℕ) → Viable set_file u → Viable file_front u
file-viable u viable = viable-same u (λ more v h. let f = front-of_file (u ++ more) v h in
    ((f.ended, f.tail), f.spelled)) viable

-- ---- files that are bad before a script

module _ (file rest : List ℕ) (stops : lines_in (front_at file) ≡ Err rest) where
  left : Stopped (front_at file) rest
  left = stopped (front_at file) rest stops

  pub stopped-fits : length rest ≤ length file
  stopped-fits = let shorter = reads-shorter (reads-front file) in omega (arith, ap length left.0)

  no-script : (front text : List ℕ) → HasScript file front text → ⊥
  no-script front text h = elim (script-front file front text h) [
    | inl f ↦ left.1 (h.lines, Opens text) (reads-whole (reads-front file) (h.lines, Opens text) f)
    | inr f ↦ left.1 (h.lines, Letter) (reads-whole (reads-front file) (h.lines, Letter) f.1)
  ]

  -- the place is where the lines stop
  pub lines-outside : (at : ℕ) → at ≡ length file - length rest → IsFileOutside file at
  lines-outside at is =
      let r = reads-front file in
      let b = read-place r in
      let here : at ≡ length r.front =
      omega (arith, is, ap length r.parts, length-append r.front (rest_of (front_at file)), ap length left.0) in
      record {
        place = inr (record {
          no_script = no-script;
          bad = subst (λ n. IsBadPlace set_file file n) (sym here) (record {
            within = b.within;
            viable = lines-viable file (take (length r.front) file) (drop (length r.front) file)
                (sym (take-append-drop (length r.front) file)) no-script b.viable;
            longest = λ m more within viable. b.longest m more within (file-viable (take m file) viable);
          });
        });
        outside = λ contents h. let f = front-of_file file contents h in
            left.1 (f.ended, f.tail) (reads-whole r (f.ended, f.tail) f.spelled);
      }

-- ---- files that are bad in their script

-- a script is what a file contains behind a line "P"
script-told : (file front text : List ℕ) → HasScript file front text → (contents : FileContents)
    → set_file file contents → (parts : ScriptParts) × script_parts text parts
script-told file front text h contents k =
    let f = front-of_file file contents k in
    elim (script-front file front text h) [
      | inl g ↦
          let same : ◌≡◌ {A = List Line × Tail} (f.ended, f.tail) (h.lines, Opens text) =
          front-once file (f.ended, f.tail) (h.lines, Opens text) f.spelled g in
          let told : TailIn contents (Opens text) h.lines = subst (λ x. TailIn contents x.1 x.0) same f.tells in
          (told.1, told.2)
      | inr g ↦
          let same : ◌≡◌ {A = List Line × Tail} (f.ended, f.tail) (h.lines, Letter) =
          front-once file (f.ended, f.tail) (h.lines, Letter) f.spelled g.1 in
          absurd (subst (λ x. TailIn contents x.1 x.0) same f.tells)
    ]

pub script-outside : (file front text : List ℕ) → HasScript file front text → (place : ℕ)
    → IsOutside text place → IsFileOutside file (length front + place)
script-outside file front text h place o = record {
  place = inl (record { front = front; text = text; begun = h; place = place; first_bad = o.first_bad; is = refl });
  outside = λ contents k. let told = script-told file front text h contents k in
      o.outside (script_of told.0) (script-of_parts text told.0 told.1);
}

-- ---- one place

-- a longer front of a list goes on with a shorter one
take-along : {X : Type 0} (xs : List X) (n m : ℕ) → n ≤ m → (w : List X) × (take m xs ≡ take n xs ++ w)
take-along xs zero m le = (take m xs, refl)
take-along xs (suc n) zero le = absurd (omega arith)
take-along [] (suc n) (suc m) le = ([], refl)
take-along (x ∷ xs) (suc n) (suc m) le = let w = take-along xs n m (omega arith) in (w.0, ap (λ t. x ∷ t) w.1)

front-before : (lines : List (List ℕ)) (n m : ℕ) → n ≤ m → IsFront (take m lines) → IsFront (take n lines)
front-before lines n m le h = let w = take-along lines n m le in
    record {
      text = h.text;
      v = h.v;
      whole = h.whole;
      more = w.0 ++ h.more;
      begins = h.begins ∙ ap (λ t. t ++ h.more) w.1 ∙ append_assoc (take n lines) w.0 h.more;
    }

-- no line before the first bad one is bad
not-before : (text : List ℕ) (n m : ℕ) → (a : IsFirstBad text n) (b : IsFirstBad text m) → a.index < b.index → ⊥
not-before text n m a b less = a.bad (let w = b.within in
    omega arith) (front-before (contents_of text) (suc a.index) b.index (omega arith) b.good)

pub one-first_bad : (text : List ℕ) (n m : ℕ) → IsFirstBad text n → IsFirstBad text m → n ≡ m
one-first_bad text n m a b = elim (cases_lt a.index b.index) [
  | inl less ↦ absurd (not-before text n m a b less)
  | inr ge ↦ elim (cases_lt b.index a.index) [
    | inl less ↦ absurd (not-before text m n b a less)
    | inr le ↦ let same : a.index ≡ b.index = omega arith in a.is ∙ ap (line_start text) same ∙ sym b.is
  ]
]

pub one-bad_place : {V : Type 0} (form : List ℕ → V → Type 0) (text : List ℕ) (n m : ℕ)
    → IsBadPlace form text n → IsBadPlace form text m → n ≡ m
one-bad_place form text n m a b = elim (cases_lt n m) [
  | inl less ↦ absurd (a.longest m less b.within b.viable)
  | inr ge ↦ elim (cases_lt m n) [ inl less ↦ absurd (b.longest n less a.within a.viable) | inr le ↦ omega arith ]
]

-- the text behind a line "P" is one
script-once : (file front text front' text' : List ℕ) → HasScript file front text
    → HasScript file front' text' → text ≡ text'
script-once file front text front' text' h k = elim (script-front file front text h) [
  | inl f ↦ elim (script-front file front' text' k) [
    | inl g ↦ opened (front-once file (h.lines, Opens text) (k.lines, Opens text') f g)
    | inr g ↦ absurd (differ (front-once file (h.lines, Opens text) (k.lines, Letter) f g.1))
  ]
  | inr f ↦ elim (script-front file front' text' k) [
    | inl g ↦ absurd (differ (sym (front-once file (h.lines, Letter) (k.lines, Opens text') f.1 g)))
    | inr g ↦ f.0 ∙ sym g.0
  ]
] where
  opened : ◌≡◌ {A = List Line × Tail} (h.lines, Opens text) (k.lines, Opens text') → text ≡ text'
  opened same = let tails : Opens text ≡ Opens text' = ap (λ p. p.1) same in cc tails

  differ : {a b : List Line} {t : List ℕ} → ◌≡◌ {A = List Line × Tail} (a, Opens t) (b, Letter) → ⊥
  differ {a} {b} {t} same = let tails : Opens t ≡ Letter = ap (λ p. p.1) same in cc tails

-- a file has one first bad place
pub one-file_place : (file : List ℕ) (n m : ℕ) → IsFileOutside file n → IsFileOutside file m → n ≡ m
one-file_place file n m a b = elim a.place [
  | inl x ↦ elim b.place [
    | inl y ↦
        let same = script-once file x.front x.text y.front y.text x.begun y.begun in
        let fronts : length x.front ≡ length y.front =
        omega (
          arith,
          ap length x.begun.parts,
          ap length y.begun.parts,
          length-append x.front x.text,
          length-append y.front y.text,
          ap length same,
        ) in
        let places : x.place ≡ y.place = one-first_bad y.text x.place y.place
        (subst (λ t. IsFirstBad t x.place) same x.first_bad) y.first_bad in
        omega (arith, x.is, y.is)
    | inr y ↦ absurd (y.no_script x.front x.text x.begun)
  ]
  | inr x ↦ elim b.place [
    | inl y ↦ absurd (x.no_script y.front y.text y.begun)
    | inr y ↦ one-bad_place set_file file n m x.bad y.bad
  ]
]
