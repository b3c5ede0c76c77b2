-- The loop over the lines of a file.
use Rattle.std.proofs.Common.{◌≡◌, ◌∙◌, ℕ, zero, suc, ◌+◌, ◌<◌, ◌≤◌, ◌==◌, Bool, true, false, if◌then◌else◌, List, []}
use Rattle.std.proofs.Common.{◌∷◌, ◌++◌, length, Option, Some, None, option_map, Ok, Err, refl, sym, ap, subst, arith}
use Rattle.std.proofs.Common.{codes, append-nil, append_assoc, eqb-true}
use Rattle.ra_condition.specs.declared.fault.Fault.{Fault}
use Rattle.ra_condition.specs.declared.fault.Fault.TheVariants.{Stop, Memory}
use Rattle.ra_condition.specs.Fault.{GivesUnlessFull}
use Rattle.ra_set.specs.declared.item.Item.{Item}
use Rattle.ra_set.specs.declared.kept_lines.KeptLines.{KeptLines}
use Rattle.ra_set.specs.Contents.{item_contents}
use Rattle.ra_set.specs.Grammar.{Line}
use Rattle.ra_set.specs.Kept.{Keeps, KeepsUnlessFull}
use Rattle.ra_set.specs.Reading.{Tail, Letter, Opens, feed_at, opens_at, letter_at, script_end_at, script_line_at}
use Rattle.ra_set.specs.Reading.{end_at, with_lines, last_at, behind_row_at, row_and_others_at, front_from, front_at}
use Rattle.ra_set.specs.Reading.{lines_in, row_at}
use Rattle.ra_set.proofs.LineReaders.{NotEnd, row, reader-row}
use Rattle.ra_set.proofs.RunLemmas.{only-byte}
use Rattle.ra_text.specs.Reading.{Outcome, rest_of, ◌>>=◌, begins, one_at, taken, taken_or}
use Rattle.ra_text.specs.Table.{bytes_for, is_in, lookup, only}
use Rattle.ra_text.proofs.Readers.{reads-of}
use Rattle.ra_text.proofs.Steps.{reads-shorter}

-- a line "P" is next
abbrev pub is_script : List ℕ → Bool
is_script = begins (is_in (only (codes "P")))

-- an LF is next
abbrev pub is_feed : List ℕ → Bool
is_feed = begins (is_in (only (codes "\n")))

pub row-shorter : (text : List ℕ) → length (rest_of (row_at text)) ≤ length text
row-shorter text = reads-shorter (reads-of row row_at NotEnd reader-row text)

-- ---- as many turns as there are bytes

behind-same : (a b : List ℕ → Outcome ℕ (List Line × Tail)) (l : Line) (wants : Bool)
    (rest : List ℕ) → ((s : List ℕ) → length s < length rest → a s ≡ b s)
    → behind_row_at a l wants rest ≡ behind_row_at b l wants rest
behind-same a b l wants [] same = refl
behind-same a b l wants (byte ∷ rest) same = cases (byte == 10) (same rest (omega arith)) where
  cases : (feed : Bool) → a rest ≡ b rest → ◌≡◌ {A = Outcome ℕ (List Line × Tail)}
      (if feed then with_lines (l ∷ []) (a rest) else last_at l wants (byte ∷ rest))
      (if feed then with_lines (l ∷ []) (b rest) else last_at l wants (byte ∷ rest))
  cases true e = ap (with_lines (l ∷ [])) e
  cases false e = refl

row-same : (a b : List ℕ → Outcome ℕ (List Line × Tail)) (text : List ℕ) → ((s : List ℕ)
    → length s < length text → a s ≡ b s) → row_and_others_at a text ≡ row_and_others_at b text
row-same a b text same = cases (row_at text) (row-shorter text) where
  cases : (r : Outcome ℕ (Line × Bool)) → length (rest_of r) ≤ length text
      → ◌≡◌ {A = Outcome ℕ (List Line × Tail)} (r >>= λ row. behind_row_at a row.0.0 row.0.1 row.1)
      (r >>= λ row. behind_row_at b row.0.0 row.0.1 row.1)
  cases (Ok x) short = behind-same a b x.0.0 x.0.1 x.1 (λ s less. same s (omega arith))
  cases (Err rest) short = refl

turns : (m n : ℕ) (text : List ℕ) → length text < m → length text < n → front_from m text ≡ front_from n text
turns zero n text a b = absurd (omega arith)
turns (suc m) zero text a b = absurd (omega arith)
turns (suc m) (suc n) text a b = cases (is_script text) (row-same (front_from m) (front_from n) text
    (λ s less. turns m n s (omega arith) (omega arith))) where
      cases : (script : Bool) → row_and_others_at (front_from m) text ≡ row_and_others_at (front_from n)
          text → (if script then letter_at text else row_and_others_at (front_from m) text)
          ≡ (if script then letter_at text else row_and_others_at (front_from n) text)
      cases true e = refl
      cases false e = e

-- a line that is no line "P" is next
pub front-row : (text : List ℕ) → is_script text ≡ false → front_at text ≡ row_and_others_at front_at text
unfolding front_at
front-row text e = ap (λ script. if script then letter_at text else row_and_others_at (front_from (length text)) text) e
    ∙ row-same (front_from (length text)) (λ s. front_from (suc (length s)) s) text
    (λ s less. turns (length text) (suc (length s)) s less (omega arith))

-- a line "P" is next
pub front-script : (text : List ℕ) → is_script text ≡ true → front_at text ≡ letter_at text
unfolding front_at
front-script text e = ap (λ script. if script then letter_at text
    else row_and_others_at (front_from (length text)) text) e

-- ---- lines before others

pub no-lines : (o : Outcome ℕ (List Line × Tail)) → o ≡ with_lines [] o
no-lines (Ok x) = refl
no-lines (Err rest) = refl

more-lines : (so_far more : List Line) (o : Outcome ℕ (List Line × Tail))
    → with_lines so_far (with_lines more o) ≡ with_lines (so_far ++ more) o
more-lines so_far more (Ok x) = ap (λ ls. Ok ((ls, x.0.1), x.1)) (sym (append_assoc so_far more x.0.0))
more-lines so_far more (Err rest) = refl

-- what is kept of the lines so far, and what is left of a text
pub record LinesSoFar (kept : KeptLines) (rest text : List ℕ) : Type 0 where
  pub so_far : List Line
  pub is : front_at text ≡ with_lines so_far (front_at rest)
  pub keeps : Keeps kept so_far
  pub counted : kept.count + length rest ≤ length text

pub lines-start : (kept : KeptLines) (text : List ℕ) → Keeps kept [] → kept.count ≡ 0 → LinesSoFar kept text text
lines-start kept text keeps none = record
    { so_far = []; is = no-lines (front_at text); keeps = keeps; counted = omega (arith, none) }

-- what a row leaves is no longer
pub row-fits : (text rest : List ℕ) (l : Line) (wants : Bool) → row_at text ≡ Ok ((l, wants), rest)
    → length rest ≤ length text
row-fits text rest l wants e = subst (λ o. length (rest_of o) ≤ length text) e (row-shorter text)

-- a row was read
pub front-read : (text rest : List ℕ) (l : Line) (wants : Bool) → is_script text ≡ false
    → row_at text ≡ Ok ((l, wants), rest) → front_at text ≡ behind_row_at front_at l wants rest
front-read text rest l wants other e =
    front-row text other ∙ ap (λ o. o >>= λ row. behind_row_at front_at row.0.0 row.0.1 row.1) e

-- a row and an LF were read
pub lines-next : (old kept : KeptLines) (before behind rest text : List ℕ) (line : Option Item)
    (wants : Bool) → is_script before ≡ false → row_at before
    ≡ Ok ((option_map item_contents line, wants), behind) → behind ≡ 10 ∷ rest
    → ((lines : List Line) → Keeps old lines → Keeps kept (lines ++ option_map item_contents line
    ∷ [])) → kept.count ≡ old.count + 1 → LinesSoFar old before text → LinesSoFar kept rest text
lines-next old kept before behind rest text line wants other e feed keeps count l = let x =
    option_map item_contents line in record {
      so_far = l.so_far ++ x ∷ [];
      is = l.is ∙ ap (with_lines l.so_far) (front-read before behind x wants other e
          ∙ ap (behind_row_at front_at x wants) feed) ∙ more-lines l.so_far (x ∷ []) (front_at rest);
      keeps = keeps l.so_far l.keeps;
      counted = (let fits = row-fits before behind x wants e in omega (arith, l.counted, count, ap length feed));
    }

pub row-smaller : (before behind rest : List ℕ) (line : Line) (wants : Bool) → row_at before
    ≡ Ok ((line, wants), behind) → behind ≡ 10 ∷ rest → length rest < length before
row-smaller before behind rest line wants e feed = let fits = row-fits before behind line wants e in
    omega (arith, ap length feed)

-- no row was read
pub lines-fault : (fault : Fault) (kept : KeptLines) (before rest text : List ℕ) → is_script before
    ≡ false → GivesUnlessFull {X = Option Item × Bool}
    (λ row. (option_map item_contents row.0, row.1)) (Err fault) rest (row_at before)
    → LinesSoFar kept before text
    → KeepsUnlessFull (Err fault) rest (lines_in (front_at text))
lines-fault Stop kept before rest text other e l = ap lines_in (l.is ∙ ap (with_lines l.so_far)
    (front-row before other
    ∙ ap (λ o. o >>= λ row. behind_row_at front_at row.0.0 row.0.1 row.1) e))
lines-fault Memory kept before rest text other e l = tt

-- a row was read behind which no LF stands
pub front-last : (l : Line) (wants : Bool) (rest : List ℕ) → is_feed rest ≡ false
    → behind_row_at front_at l wants rest ≡ last_at l wants rest
front-last l wants [] none = refl
front-last l wants (byte ∷ rest) none = cases (byte == 10) refl where
  cases : (feed : Bool) → (byte == 10) ≡ feed → ◌≡◌ {A = Outcome ℕ (List Line × Tail)}
      (if feed then with_lines (l ∷ []) (front_at rest) else last_at l wants (byte ∷ rest))
      (last_at l wants (byte ∷ rest))
  cases true e = absurd (let is : byte ≡ 10 = eqb-true byte 10 e in let no : is_feed (10 ∷ rest)
      ≡ false = subst (λ b. is_feed (b ∷ rest) ≡ false) is none in cc no)
  cases false e = refl

pub last-told : (so_far : List Line) (l : Line) (wants : Bool) (rest new : List ℕ)
    → end_at wants rest ≡ Ok (tt, new) → lines_in (with_lines so_far (last_at l wants rest))
    ≡ Ok ((so_far ++ l ∷ [], false), new)
last-told so_far l true rest new e = absurd (cc e)
last-told so_far l false [] new e = let none : [] ≡ new = ap rest_of e in ap (λ ls. Ok
    ((ls ++ l ∷ [], false), [])) (append-nil so_far)
    ∙ ap (λ t. Ok ((so_far ++ l ∷ [], false), t)) none
last-told so_far l false (byte ∷ rest) new e = absurd (cc e)

pub last-stops : (so_far : List Line) (l : Line) (wants : Bool) (rest new : List ℕ)
    → end_at wants rest ≡ Err new → lines_in (with_lines so_far (last_at l wants rest)) ≡ Err new
last-stops so_far l true rest new e = cc e
last-stops so_far l false [] new e = absurd (cc e)
last-stops so_far l false (byte ∷ rest) new e = cc e

module _ (old kept : KeptLines) (before behind text : List ℕ) (line : Option Item) (wants : Bool)
    (other : is_script before ≡ false) (e : row_at before
    ≡ Ok ((option_map item_contents line, wants), behind)) (none : is_feed behind ≡ false)
    (l : LinesSoFar old before text) where
  front-ends : front_at text ≡ with_lines l.so_far (last_at (option_map item_contents line) wants behind)
  front-ends = l.is ∙ ap (with_lines l.so_far) (front-read before behind (option_map item_contents
      line) wants other e ∙ front-last (option_map item_contents line) wants behind none)

  -- the file ends behind the row
  pub lines-end : (new : List ℕ) → end_at wants behind ≡ Ok (tt, new) → ((lines : List Line)
      → Keeps old lines → Keeps kept (lines ++ option_map item_contents line ∷ []))
      → (lines : List Line) × (lines_in (front_at text) ≡ Ok ((lines, false), new)) × Keeps kept lines
  lines-end new end keeps = (
    l.so_far ++ option_map item_contents line ∷ [],
    ap lines_in front-ends ∙ last-told l.so_far (option_map item_contents line) wants behind new end,
    keeps l.so_far l.keeps,
  )

  -- or does not end
  pub lines-stop : (new : List ℕ) → end_at wants behind ≡ Err new → lines_in (front_at text) ≡ Err new
  lines-stop new end = ap lines_in front-ends ∙ last-stops l.so_far (option_map item_contents line) wants behind new end

-- ---- a line "P"

-- what the lines are, where a line "P" was read
abbrev pub told : List Line → Outcome ℕ (Unit {0}) → Outcome ℕ (List Line × Bool)
told so_far end = end >>= λ end. Ok ((so_far, true), end.1)

-- the lines before what a line "P" says
abbrev telling : List Line → Outcome ℕ Tail → Outcome ℕ (List Line × Bool)
telling so_far tail = lines_in (with_lines so_far (tail >>= λ tail. Ok (([], tail.0), tail.1)))

opens-told : (so_far : List Line) (rest : List ℕ) → telling so_far (Ok (Opens rest, [])) ≡ told so_far (Ok (tt, rest))
opens-told so_far rest = ap (λ ls. Ok ((ls, true), rest)) (append-nil so_far)

-- behind a CR
feed-told : (so_far : List Line) (rest : List ℕ) → telling so_far (feed_at rest)
    ≡ told so_far (one_at (only (codes "\n")) rest)
feed-told so_far [] = refl
feed-told so_far (byte ∷ rest) = cases (byte == 10) where
  cases : (feed : Bool) → telling so_far (if feed then Ok (Opens rest, []) else Err (byte ∷ rest))
      ≡ told so_far (taken (if feed then Some tt else None) byte rest)
  cases true = opens-told so_far rest
  cases false = refl

-- the end of a line "P" by its first byte: a CR, or else an LF
abbrev by_byte : ℕ → List ℕ → Option Bool → Option (Unit {0}) → Outcome ℕ (Unit {0})
by_byte byte rest (Some returned) feed = one_at (only (codes "\n")) rest
by_byte byte rest None feed = taken feed byte rest

end-by_byte : (byte : ℕ) (rest : List ℕ) (returned : Option Bool)
    → (taken_or false returned byte rest >>= λ r. one_at (only (codes "\n")) r.1)
    ≡ by_byte byte rest returned (only (codes "\n") byte)
end-by_byte byte rest (Some returned) = refl
end-by_byte byte rest None = refl

-- behind the letter
letter-told : (so_far : List Line) (rest : List ℕ) → telling so_far (opens_at rest) ≡ told so_far (script_end_at rest)
letter-told so_far [] = ap (λ ls. Ok ((ls, true), [])) (append-nil so_far)
letter-told so_far (byte ∷ rest) = decided (byte == 10) (byte == 13) refl refl where
  decided : (feed returned : Bool) → (byte == 10) ≡ feed → (byte == 13) ≡ returned
      → telling so_far (if feed then Ok (Opens rest, []) else if returned then feed_at rest
      else Ok (Letter, byte ∷ rest)) ≡ told so_far (script_end_at (byte ∷ rest))
  decided true true e f = absurd (let ten = eqb-true byte 10 e in
      let thirteen = eqb-true byte 13 f in cc (ten, thirteen))
  decided true false e f = opens-told so_far rest
      ∙ sym (ap (told so_far) (end-by_byte byte rest (lookup (bytes_for (codes "\r") true) byte)
      ∙ ap (λ b. by_byte byte rest (if b then Some true else None) (only (codes "\n") byte)) f
      ∙ ap (λ b. by_byte byte rest None (if b then Some tt else None)) e))
  decided false true e f = feed-told so_far rest
      ∙ sym (ap (told so_far) (end-by_byte byte rest (lookup (bytes_for (codes "\r") true) byte)
      ∙ ap (λ b. by_byte byte rest (if b then Some true else None) (only (codes "\n") byte)) f))
  decided false false e f = sym (ap (told so_far) (end-by_byte byte rest (lookup (bytes_for (codes "\r") true) byte)
      ∙ ap (λ b. by_byte byte rest (if b then Some true else None) (only (codes "\n") byte)) f
      ∙ ap (λ b. by_byte byte rest None (if b then Some tt else None)) e))

pub script-told : (so_far : List Line) (text : List ℕ) → is_script text ≡ true
    → lines_in (with_lines so_far (letter_at text)) ≡ told so_far (script_line_at text)
script-told so_far [] e = absurd (cc e)
script-told so_far (byte ∷ rest) e = let is : byte ≡ 80 = only-byte 80 byte e in
    letter-told so_far rest ∙ sym (ap (λ b. told so_far (script_line_at (b ∷ rest))) is)

module _ (kept : KeptLines) (before text : List ℕ) (is : is_script before ≡ true)
    (l : LinesSoFar kept before text) where
  line-told : lines_in (front_at text) ≡ told l.so_far (script_line_at before)
  line-told = ap lines_in (l.is ∙ ap (with_lines l.so_far) (front-script before is)) ∙ script-told l.so_far before is

  -- the line stands there
  pub script-opens : (new : List ℕ) → script_line_at before ≡ Ok (tt, new) → (lines : List Line)
      × (lines_in (front_at text) ≡ Ok ((lines, true), new)) × Keeps kept lines
  script-opens new e = (l.so_far, line-told ∙ ap (told l.so_far) e, l.keeps)

  -- or something else
  pub script-stops : (new : List ℕ) → script_line_at before ≡ Err new → lines_in (front_at text) ≡ Err new
  script-stops new e = line-told ∙ ap (told l.so_far) e
