-- A line that is read as a file of its own.
use Rattle.std.proofs.Common.{◌≡◌, ◌∙◌, inl, inr, ℕ, ◌-◌, ◌≤◌, ◌==◌, Bool, true, false, if◌then◌else◌, List, [], ◌∷◌}
use Rattle.std.proofs.Common.{◌++◌, length, drop, Option, Some, None, option_map, option_to_list, Ok, Err, All, sum_by}
use Rattle.std.proofs.Common.{refl, sym, ap, subst, arith, append-nil, length-append}
use Rattle.std.proofs.lemmas.List.Elements.{All-head}
use Rattle.ra_condition.specs.declared.fault.Fault.{Fault}
use Rattle.ra_condition.specs.declared.fault.Fault.TheVariants.{Stop, Memory}
use Rattle.ra_condition.specs.Fault.{GivesUnlessFull}
use Rattle.ra_richpresence.specs.Cut.{begun, lines_of}
use Rattle.ra_set.specs.declared.item.Item.{Item}
use Rattle.ra_set.specs.Alone.{IsOneLine, ContainsAlone, OptionalItem, conditions_in_line, EndsRow, ReadsAlone}
use Rattle.ra_set.specs.Alone.{AloneUnlessFull}
use Rattle.ra_set.specs.Contents.{item_contents}
use Rattle.ra_set.specs.Grammar.{Line}
use Rattle.ra_set.specs.Places.{IsFileOutside}
use Rattle.ra_set.specs.Reading.{Ends, end_at, script_line_at, behind_row_at, front_at, lines_in, row_at, item_row_at}
use Rattle.ra_set.specs.Reading.{item_line_at, leaderboard_or_empty_at}
use Rattle.ra_set.specs.Limits.{item_conditions}
use Rattle.ra_set.specs.Spelled.{IsItem}
use Rattle.ra_set.proofs.ContentsLemmas.{contents-count}
use Rattle.ra_set.proofs.FileLemmas.{lines-all}
use Rattle.ra_set.proofs.FileReaders.{reads-front}
use Rattle.ra_set.proofs.FrontLemmas.{file-of_lines}
use Rattle.ra_set.proofs.LineReaders.{NotEnd, row, reader-row}
use Rattle.ra_set.proofs.LinesLemmas.{is_script, is_feed, front-row, front-script, no-lines, front-read, front-last}
use Rattle.ra_set.proofs.LinesLemmas.{last-told, last-stops, script-told, told}
use Rattle.ra_set.proofs.PlaceLemmas.{lines-outside, stopped-fits}
use Rattle.ra_set.proofs.SetStructure.{contents-items}
use Rattle.ra_text.specs.Reading.{rest_of, ◌>>=◌}
use Rattle.ra_text.proofs.Readers.{reads-of}

-- ---- one line

-- more than an LF is not empty
some-text : (front rest : List ℕ) → front ++ 10 ∷ rest ≡ [] → ⊥
some-text front rest e = omega (arith, ap length e, length-append front (10 ∷ rest))

-- a byte before lines that are one line
begun-one : (c : ℕ) (lines : List (List ℕ)) (text : List ℕ) → (text ≡ [] → ⊥) → begun c lines
    ≡ (c ∷ text) ∷ [] → lines ≡ text ∷ []
begun-one c [] text some e =
    let one : c ∷ [] ≡ c ∷ text = cc e in
    let none : [] ≡ text = cc one in
    absurd (some (sym none))
begun-one c (l ∷ ls) text some e =
    let one : c ∷ l ≡ c ∷ text = cc e in
    let none : ls ≡ [] = cc e in
    let same : l ≡ text = cc one in
    cc (same, none)

-- nothing stands behind the LF of one line
pub feed-last : (front rest : List ℕ) → lines_of (front ++ 10 ∷ rest) ≡ (front ++ 10 ∷ rest) ∷ [] → rest ≡ []
feed-last [] rest e =
    let one : 10 ∷ [] ≡ 10 ∷ rest = cc e in
    let none : [] ≡ rest = cc one in
    sym none
feed-last (c ∷ front) rest e = cases (c == 10) (feed-last front rest) e where
  cases : (feed : Bool) → (lines_of (front ++ 10 ∷ rest) ≡ (front ++ 10 ∷ rest) ∷ [] → rest ≡ [])
      → (if feed then (10 ∷ []) ∷ lines_of (front ++ 10 ∷ rest)
      else begun c (lines_of (front ++ 10 ∷ rest))) ≡ (c ∷ (front ++ 10 ∷ rest)) ∷ [] → rest ≡ []
  cases true next e =
      let one : 10 ∷ [] ≡ c ∷ (front ++ 10 ∷ rest) = cc e in
      let none : [] ≡ front ++ 10 ∷ rest = cc one in
      absurd (some-text front rest (sym none))
  cases false next e = next (begun-one c (lines_of (front ++ 10 ∷ rest)) (front ++ 10 ∷ rest) (some-text front rest) e)

-- ---- a line that is no line "P"

-- the empty text is an empty last line
empty-front : front_at [] ≡ Ok (([], Ends None), [])
unfolding front_at row_at item_row_at item_line_at leaderboard_or_empty_at
empty-front = refl

-- the file ends where nothing is left
end-nothing : (wants : Bool) (rest new : List ℕ) → end_at wants rest ≡ Ok (tt, new) → new ≡ []
end-nothing true rest new e = absurd (cc e)
end-nothing false [] new e = let none : [] ≡ new = ap rest_of e in sym none
end-nothing false (byte ∷ rest) new e = absurd (cc e)

module _ (text : List ℕ) (l : Line) (wants : Bool) (behind : List ℕ) (other : is_script text
    ≡ false) (e : row_at text ≡ Ok ((l, wants), behind)) where
  -- a line with its LF
  pub alone-ended : IsOneLine text → (new : List ℕ) → behind ≡ 10 ∷ new → ReadsAlone text l
  alone-ended one new feed =
      let r = reads-of row row_at NotEnd reader-row text in
      let whole : text ≡ r.front ++ 10 ∷ new = r.parts ∙ ap (λ t. r.front ++ t) (ap rest_of e ∙ feed) in
      let none : new ≡ [] = feed-last r.front new (subst (λ t. lines_of t ≡ t ∷ []) whole one) in
      record {
        lines = l ∷ None ∷ [];
        read = ap lines_in (front-read text behind l wants other e
            ∙ ap (behind_row_at front_at l wants) (feed ∙ ap (λ t. 10 ∷ t) none))
            ∙ ap (λ o. lines_in (o >>= λ found. Ok ((l ∷ [] ++ found.0.0, found.0.1), found.1))) empty-front;
        items = append-nil (option_to_list l);
      }

  -- a line that ends with the file
  pub alone-last : is_feed behind ≡ false → (new : List ℕ) → end_at wants behind ≡ Ok (tt, new) → ReadsAlone text l
  alone-last none new end = record {
    lines = l ∷ [];
    read = ap lines_in (front-read text behind l wants other e ∙ front-last l wants behind none ∙ no-lines _)
        ∙ last-told [] l wants behind new end ∙ ap (λ t. Ok ((l ∷ [], false), t)) (end-nothing wants behind new end);
    items = append-nil (option_to_list l);
  }

  -- or does not end there
  pub alone-stops : is_feed behind ≡ false → (new : List ℕ) → end_at wants behind ≡ Err new
      → lines_in (front_at text) ≡ Err new
  alone-stops none new end = ap lines_in (front-read text behind l wants other e
      ∙ front-last l wants behind none ∙ no-lines _)
      ∙ last-stops [] l wants behind new end

-- a row ends
pub alone-ends : (text : List ℕ) (l : Line) (wants : Bool) (behind new : List ℕ) → is_script text
    ≡ false → row_at text ≡ Ok ((l, wants), behind) → IsOneLine text → EndsRow wants behind new
    → ReadsAlone text l
alone-ends text l wants behind new other e one (inl feed) = alone-ended text l wants behind other e one new feed
alone-ends text l wants behind new other e one (inr last) = alone-last text l wants behind other e last.0 new last.1

-- no row was read
pub alone-fault : (fault : Fault) (text rest : List ℕ) → is_script text ≡ false
    → GivesUnlessFull {X = Option Item × Bool} (λ row. (option_map item_contents row.0, row.1))
    (Err fault) rest (row_at text)
    → AloneUnlessFull (Err fault) text rest
alone-fault Stop text rest other e = ap lines_in (front-row text other
    ∙ ap (λ o. o >>= λ row. behind_row_at front_at row.0.0 row.0.1 row.1) e)
alone-fault Memory text rest other e = tt

-- ---- a letter "P"

-- what stands behind the letter is no end
pub letter-stops : (text new : List ℕ) → is_script text ≡ true → script_line_at text ≡ Err new
    → lines_in (front_at text) ≡ Err new
letter-stops text new is e = ap lines_in (front-script text is ∙ no-lines _) ∙ script-told [] text is ∙ ap (told []) e

-- ---- what the line contains

module _ (line start : List ℕ) (starts : start ≡ drop 0 line) where
  pub contains-alone : (l : Line) → ReadsAlone start l → ContainsAlone line l
  contains-alone l r = record {
    lines = r.lines;
    spelled = file-of_lines line r.lines (lines-all line (front_at line)
        (reads-front line) r.lines [] (ap (λ t. lines_in (front_at t)) (sym starts) ∙ r.read));
    items = r.items;
  }

  pub alone-fits : (rest : List ℕ) → lines_in (front_at start) ≡ Err rest → length rest ≤ length line
  alone-fits rest e = stopped-fits line rest (ap (λ t. lines_in (front_at t)) (sym starts) ∙ e)

  pub alone-outside : (rest : List ℕ) → lines_in (front_at start) ≡ Err rest → (at : ℕ) → at
      ≡ length line - length rest → IsFileOutside line at
  alone-outside rest e at is = lines-outside line rest (ap (λ t. lines_in (front_at t)) (sym starts) ∙ e) at is

pub alone-structure : (line : List ℕ) (l : Line) → ContainsAlone line l → OptionalItem l
alone-structure line None c = tt
alone-structure line (Some item) c = All-head IsItem item [] (subst (λ items. All IsItem items)
    c.items (contents-items line (record { lines = c.lines; script = None }) c.spelled))

pub alone-few : (line : List ℕ) (l : Line) → ContainsAlone line l → conditions_in_line l ≤ length line
alone-few line None c = omega arith
alone-few line (Some item) c =
    let all = contents-count line (record { lines = c.lines; script = None }) c.spelled in
    omega (arith, all, ap (λ items. sum_by item_conditions items) c.items)
