-- The reader of files up to their script: rows with an LF behind each spell the lines with their ends.
use Rattle.std.proofs.Common.{◌≡◌, ◌∙◌, ◌⊎◌, inl, inr, ℕ, zero, suc, ◌<◌, ◌≤◌, ◌==◌, Bool, true, false, if◌then◌else◌}
use Rattle.std.proofs.Common.{List, [], ◌∷◌, ◌++◌, length, None, Ok, Err, refl, sym, ap, subst, subst₂, codes, arith}
use Rattle.std.proofs.Common.{append-nil, eqb-true, eq-eqb}
use Rattle.ra_set.specs.Grammar.{Line, line}
use Rattle.ra_set.specs.Reading.{Tail, Ends, Letter, Opens, feed_at, opens_at, letter_at, with_lines, last_at}
use Rattle.ra_set.specs.Reading.{behind_row_at, row_and_others_at, front_from, front_at}
use Rattle.ra_set.proofs.LineReaders.{row, comment_row, item_row, reader-row, begins-comment_row, firsts-item_row}
use Rattle.ra_set.proofs.RowLines.{line-row, row-line}
use Rattle.ra_set.proofs.RunLemmas.{only-byte}
use Rattle.ra_text.specs.Form.{Form, Then, Viable}
use Rattle.ra_text.specs.Reading.{Outcome, Reads, ◌>>=◌}
use Rattle.ra_text.specs.Table.{is_in, only}
use Rattle.ra_text.proofs.Begins.{Firsts, firsts-or, firsts-wider, firsts-begins}
use Rattle.ra_text.proofs.Steps.{BeginsAs, reads-more, reads-none, reads-spell, reads-step, same-ok, viable-whole}
use Rattle.ra_text.proofs.Tables.{In, in_within}
use Rattle.ra_text.proofs.Spelled.{then-spelled, none-spelled, viable-by}

-- ---- the front of a file, as rows

-- a row with an LF, and what stands behind it
pub record Ended (l : Line) (others : List ℕ → Type 0) (text : List ℕ) : Type 0 where
  pub wants : Bool
  pub front : List ℕ
  pub behind : List ℕ
  pub parts : text ≡ front ++ 10 ∷ behind
  pub of_row : row front (l, wants)
  pub of_others : others behind

-- how the lines of a file end
abbrev pub TailOf : Tail → List ℕ → Type 0
TailOf (Ends l) text = line text l
TailOf Letter text = text ≡ codes "P"
TailOf (Opens behind) text = (text ≡ 80 ∷ 10 ∷ behind) ⊎ (text ≡ 80 ∷ 13 ∷ 10 ∷ behind)

-- rows with an LF each, and how the lines end
abbrev pub Front : List Line → Tail → List ℕ → Type 0
Front [] tail text = TailOf tail text
Front (l ∷ ended) tail text = Ended l (Front ended tail) text

-- the front of a file
abbrev pub file_front : Form ℕ (List Line × Tail)
file_front text found = Front found.0 found.1 text

-- ---- readings of texts that are given whole

-- all of a text, which spells one value
reads-all : {A V : Type 0} (form : Form A V) (text : List A) (v : V) → form text v
    → ((w : V) → form text w → w ≡ v) → Reads form text (Ok (v, []))
reads-all form text v here unique = record {
  front = text;
  parts = sym (append-nil text);
  viable = viable-whole text v here;
  halts = λ symbol rest e viable. absurd (cc e);
  spelled = λ w rest e. subst (λ x. form text x) (ap (λ p. p.0) (same-ok (v, []) (w, rest) e)) here;
  only = λ w h. let same : w ≡ v = unique w h in cc same;
}

-- a form whose values are changed
abbrev Changed : {A V W : Type 0} → Form A V → (V → W) → Form A W
Changed {A} {V} {W} form change text w = (v : V) × form text v × (w ≡ change v)

viable-changed : {A V W : Type 0} (form : Form A V) (change : V → W) (text : List A)
    → Viable form text → Viable (Changed form change) text
viable-changed form change text viable =
    viable-by viable.more (change viable.v) (viable.v, viable.whole, refl)

unchanged : {A V W : Type 0} (form : Form A V) (change : V → W) (text : List A)
    → Viable (Changed form change) text → Viable form text
unchanged form change text viable = viable-by viable.more viable.whole.0 viable.whole.1

reads-changed : {A V W : Type 0} (form : Form A V) (change : V → W) (text : List A)
    (outcome : Outcome A V) → Reads form text outcome
    → Reads (Changed form change) text (outcome >>= λ x. Ok (change x.0, x.1))
reads-changed form change text (Ok x) r = record {
  front = r.front;
  parts = r.parts;
  viable = viable-changed form change r.front r.viable;
  halts = λ symbol rest e viable. r.halts symbol rest e (unchanged form change (r.front ++ symbol ∷ []) viable);
  spelled = λ w rest e. (x.0, r.spelled x.0 x.1 refl, sym (ap (λ p. p.0) (same-ok (change x.0, x.1) (w, rest) e)));
  only = λ w h. let same : x.0 ≡ h.0 = ap (λ p. p.0) (same-ok x (h.0, x.1) (r.only h.0 h.1)) in
      ap (λ v. Ok (v, x.1)) (ap change same ∙ sym h.2);
}
reads-changed form change text (Err left) r = record {
  front = r.front;
  parts = r.parts;
  viable = viable-changed form change r.front r.viable;
  halts = λ symbol rest e viable. r.halts symbol rest e (unchanged form change (r.front ++ symbol ∷ []) viable);
  spelled = λ w rest e. absurd (cc e);
  only = λ w h. absurd (let e = r.only h.0 h.1 in cc e);
}

-- ---- a line "P"

-- a byte is itself
not-self : (byte : ℕ) → (byte == byte) ≡ false → ⊥
not-self byte e = let is : (byte == byte) ≡ true = eq-eqb byte byte refl in cc (e, is)

-- behind the CR of a line "P"
abbrev Feed : Form ℕ Tail
Feed text (Ends l) = ⊥
Feed text Letter = ⊥
Feed text (Opens behind) = text ≡ 10 ∷ behind

-- behind the letter of a line "P"
abbrev End : Form ℕ Tail
End text (Ends l) = ⊥
End text Letter = text ≡ []
End text (Opens behind) = (text ≡ 10 ∷ behind) ⊎ (text ≡ 13 ∷ 10 ∷ behind)

feed-once : (rest : List ℕ) (tail : Tail) → Feed (10 ∷ rest) tail → tail ≡ Opens rest
feed-once rest (Ends l) h = absurd h
feed-once rest Letter h = absurd h
feed-once rest (Opens behind) h = let same : behind ≡ rest = cc h in ap (λ t. Opens t) same

feed-empty : (tail : Tail) → Feed [] tail → ⊥
feed-empty (Ends l) h = h
feed-empty Letter h = h
feed-empty (Opens behind) h = cc h

feed-byte : (byte : ℕ) (rest : List ℕ) (tail : Tail) → Feed (byte ∷ rest) tail → byte ≡ 10
feed-byte byte rest (Ends l) h = absurd h
feed-byte byte rest Letter h = absurd h
feed-byte byte rest (Opens behind) h = cc h

feeds : Viable Feed []
feeds = viable-by (codes "\n") (Opens []) refl

reads-feed : (text : List ℕ) → Reads Feed text (feed_at text)
reads-feed [] = reads-none Feed [] feeds (λ byte rest e viable. absurd (cc e)) feed-empty
reads-feed (byte ∷ rest) = decided (byte == 10) refl where
  decided : (same : Bool) → (byte == 10) ≡ same
      → Reads Feed (byte ∷ rest) (if same then Ok (Opens rest, []) else Err (byte ∷ rest))
  decided true e = let is : byte ≡ 10 = eqb-true byte 10 e in
      subst (λ b. Reads Feed (b ∷ rest) (Ok (Opens rest, []))) (sym is)
      (reads-all Feed (10 ∷ rest) (Opens rest) refl (feed-once rest))
  decided false e = reads-none Feed (byte ∷ rest) feeds
      (λ symbol more is viable. let same : byte ≡ symbol = cc is in
      let feed : symbol ≡ 10 = feed-byte symbol viable.more viable.v viable.whole in
      not-self 10 (subst (λ b. (b == 10) ≡ false) (same ∙ feed) e))
      feed-empty

end-once : (rest : List ℕ) (tail : Tail) → End (10 ∷ rest) tail → tail ≡ Opens rest
end-once rest (Ends l) h = absurd h
end-once rest Letter h = absurd (cc h)
end-once rest (Opens behind) (inl h) = let same : behind ≡ rest = cc h in ap (λ t. Opens t) same
end-once rest (Opens behind) (inr h) = absurd (cc h)

end-feed : (rest : List ℕ) (tail : Tail) → Feed rest tail → End (13 ∷ rest) tail
end-feed rest (Ends l) h = h
end-feed rest Letter h = absurd h
end-feed rest (Opens behind) h = inr (ap (λ t. 13 ∷ t) h)

feed-end : (rest : List ℕ) (tail : Tail) → End (13 ∷ rest) tail → Feed rest tail
feed-end rest (Ends l) h = h
feed-end rest Letter h = absurd (cc h)
feed-end rest (Opens behind) (inl h) = absurd (cc h)
feed-end rest (Opens behind) (inr h) = cc h

end-byte : (byte : ℕ) (rest : List ℕ) (tail : Tail) → End (byte ∷ rest) tail → (byte ≡ 10) ⊎ (byte ≡ 13)
end-byte byte rest (Ends l) h = absurd h
end-byte byte rest Letter h = absurd (cc h)
end-byte byte rest (Opens behind) (inl h) = inl (cc h)
end-byte byte rest (Opens behind) (inr h) = inr (cc h)

end-empty : (tail : Tail) → End [] tail → tail ≡ Letter
end-empty (Ends l) h = absurd h
end-empty Letter h = refl
end-empty (Opens behind) (inl h) = absurd (cc h)
end-empty (Opens behind) (inr h) = absurd (cc h)

reads-end : (text : List ℕ) → Reads End text (opens_at text)
reads-end [] = reads-all End [] Letter refl end-empty
reads-end (byte ∷ rest) = decided (byte == 10) (byte == 13) refl refl where
  decided : (feed returned : Bool) → (byte == 10) ≡ feed → (byte == 13) ≡ returned
      → Reads End (byte ∷ rest) (if feed then Ok (Opens rest, []) else if returned then feed_at rest
      else Ok (Letter, byte ∷ rest))
  decided true returned e f = let is : byte ≡ 10 = eqb-true byte 10 e in
      subst (λ b. Reads End (b ∷ rest) (Ok (Opens rest, []))) (sym is)
      (reads-all End (10 ∷ rest) (Opens rest) (inl refl) (end-once rest))
  decided false true e f = let is : byte ≡ 13 = eqb-true byte 13 f in
      subst (λ b. Reads End (b ∷ rest) (feed_at rest)) (sym is)
      (reads-step End Feed 13 rest (feed_at rest) end-feed feed-end (reads-feed rest))
  decided false false e f = reads-spell End (byte ∷ rest) Letter refl end-empty
      (λ symbol more is viable. let same : byte ≡ symbol = cc is in
      elim (end-byte symbol viable.more viable.v viable.whole) [
        | inl ten ↦ not-self 10 (subst (λ b. (b == 10) ≡ false) (same ∙ ten) e)
        | inr thirteen ↦ not-self 13 (subst (λ b. (b == 13) ≡ false) (same ∙ thirteen) f)
      ])

-- the bytes that a row begins with, if it is not empty
firsts-row : Firsts row (In (codes "#AL\r"))
firsts-row = firsts-or comment_row item_row (In (codes "#AL\r"))
    (firsts-wider comment_row (In (codes "#")) (In (codes "#AL\r")) (in_within (codes "#")
    (codes "#AL\r") refl) (firsts-begins comment_row (In (codes "#")) begins-comment_row))
    (firsts-wider item_row (In (codes "AL\r")) (In (codes "#AL\r"))
    (in_within (codes "AL\r") (codes "#AL\r") refl) firsts-item_row)

-- no row begins with the letter "P"
pub row-no_letter : (t : List ℕ) (r : Line × Bool) → row (80 ∷ t) r → ⊥
row-no_letter t r h = let some : In (codes "#AL\r") 80 = firsts-row.first 80 t r h in cc some

pub ended-no_letter : (l : Line) (others : List ℕ → Type 0) (t : List ℕ) → Ended l others (80 ∷ t) → ⊥
ended-no_letter l others t h = cases h.front h.parts h.of_row where
  cases : (front : List ℕ) → 80 ∷ t ≡ front ++ 10 ∷ h.behind → row front (l, h.wants) → ⊥
  cases [] e r = cc e
  cases (c ∷ front) e r = let byte : c ≡ 80 = cc e in
      row-no_letter front (l, h.wants) (subst (λ c. row (c ∷ front) (l, h.wants)) byte r)

-- the front of a file that has no line before
abbrev alone : Tail → List Line × Tail
alone tail = ([], tail)

letter-front : (t : List ℕ) (v : List Line × Tail) → Changed End alone t v → file_front (80 ∷ t) v
letter-front t v h = subst (λ x. file_front (80 ∷ t) x) (sym h.2) (cases h.0 h.1) where
  cases : (tail : Tail) → End t tail → TailOf tail (80 ∷ t)
  cases (Ends l) h = absurd h
  cases Letter h = ap (λ t. 80 ∷ t) h
  cases (Opens behind) (inl h) = inl (ap (λ t. 80 ∷ t) h)
  cases (Opens behind) (inr h) = inr (ap (λ t. 80 ∷ t) h)

front-letter : (t : List ℕ) (v : List Line × Tail) → file_front (80 ∷ t) v → Changed End alone t v
front-letter t ([], Ends l) h = absurd (row-no_letter t (l, false) (line-row (80 ∷ t) l h))
front-letter t ([], Letter) h = (Letter, cc h, refl)
front-letter t ([], Opens behind) (inl h) = (Opens behind, inl (cc h), refl)
front-letter t ([], Opens behind) (inr h) = (Opens behind, inr (cc h), refl)
front-letter t (l ∷ ended, tail) h = absurd (ended-no_letter l (Front ended tail) t h)

reads-letter : (rest : List ℕ) → Reads file_front (80 ∷ rest) (letter_at (80 ∷ rest))
reads-letter rest = reads-step file_front (Changed End alone) 80 rest (letter_at (80 ∷ rest))
    letter-front front-letter (reads-changed End alone rest (opens_at rest) (reads-end rest))

-- ---- a row, and what stands behind it

-- what may stand behind a row
pub data Behind (r : Line × Bool) (text : List ℕ) (v : List Line × Tail) : Type 0 where
  ends : text ≡ [] → r.1 ≡ false → v ≡ ([], Ends r.0) → Behind r text v
  goes_on : (rest : List ℕ) → text ≡ 10 ∷ rest → (others : List Line × Tail)
      → file_front rest others → v ≡ (r.0 ∷ others.0, others.1) → Behind r text v

-- a line before others
abbrev one_before : Line → List Line × Tail → List Line × Tail
one_before l others = (l ∷ others.0, others.1)

row-front : (t : List ℕ) (v : List Line × Tail) → Then row Behind t v → file_front t v
row-front t v h = elim h.of_next [
  | ends nothing wants is ↦ subst₂ (λ x w. file_front x w)
      (sym (h.parts ∙ ap (λ x. h.front ++ x) nothing ∙ append-nil h.front)) (sym is)
      (row-line h.front h.v.0 (subst (λ b. row h.front (h.v.0, b)) wants h.of_first))
  | goes_on rest is others of_others same ↦ subst (λ w. file_front t w) (sym same)
      (record {
        wants = h.v.1;
        front = h.front;
        behind = rest;
        parts = h.parts ∙ ap (λ x. h.front ++ x) is;
        of_row = h.of_first;
        of_others = of_others;
      })
]

-- no text that begins as this one begins with the letter "P"
no-letter : (text t behind : List ℕ) → ((s : List ℕ) → text ≡ 80 ∷ s → ⊥) → BeginsAs text t → t ≡ 80 ∷ behind → ⊥
no-letter text t behind other alike is = let same = alike 80 behind is in other same.0 same.1

front-row : (text : List ℕ) → ((s : List ℕ) → text ≡ 80 ∷ s → ⊥)
    → (t : List ℕ) (v : List Line × Tail) → BeginsAs text t → file_front t v → Then row Behind t v
front-row text other t ([], Ends l) alike h =
    then-spelled t [] (l, false) (sym (append-nil t)) (line-row t l h) (ends refl refl refl)
front-row text other t ([], Letter) alike h = absurd (no-letter text t [] other alike h)
front-row text other t ([], Opens behind) alike (inl h) = absurd (no-letter text t (10 ∷ behind) other alike h)
front-row text other t ([], Opens behind) alike (inr h) = absurd (no-letter text t (13 ∷ 10 ∷ behind) other alike h)
front-row text other t (l ∷ ended, tail) alike h = then-spelled h.front (10 ∷ h.behind)
    (l, h.wants) h.parts h.of_row (goes_on h.behind refl (ended, tail) h.of_others refl)

-- an empty line
pub empty-line : line [] None
empty-line = inr (inr (inr none-spelled))

-- a row behind which no LF stands
reads-last : (l : Line) (wants : Bool) (text : List ℕ) → ((s : List ℕ) → text ≡ 10 ∷ s → ⊥)
    → Reads (Behind (l, wants)) text (last_at l wants text)
reads-last l true text other = reads-none (Behind (l, true)) text
    (viable-by (codes "\n") (l ∷ [], Ends None) (goes_on [] refl ([], Ends None) empty-line refl))
    (λ symbol rest is viable. elim viable.whole [
      | ends nothing wants same ↦ absurd (cc nothing)
      | goes_on more begun others of_others same ↦ let byte : symbol ≡ 10 = cc begun in
          other rest (is ∙ ap (λ b. b ∷ rest) byte)
    ])
    (λ v h. elim h [
      | ends nothing wants same ↦
          absurd (cc wants)
      | goes_on more begun others of_others same ↦ absurd (cc begun)
    ])
reads-last l false text other = reads-spell (Behind (l, false)) text ([], Ends l) (ends refl refl refl)
    (λ v h. elim h [ ends nothing wants same ↦ same | goes_on more begun others of_others same ↦ absurd (cc begun) ])
    (λ symbol rest is viable. elim viable.whole [
      | ends nothing wants same ↦ absurd (cc nothing)
      | goes_on more begun others of_others same ↦ let byte : symbol ≡ 10 = cc begun in
          other rest (is ∙ ap (λ b. b ∷ rest) byte)
    ])

-- an LF, and others
feed-behind : (l : Line) (wants : Bool) (t : List ℕ) (v : List Line × Tail)
    → Changed file_front (one_before l) t v → Behind (l, wants) (10 ∷ t) v
feed-behind l wants t v h = goes_on t refl h.0 h.1 h.2

behind-feed : (l : Line) (wants : Bool) (t : List ℕ) (v : List Line × Tail)
    → Behind (l, wants) (10 ∷ t) v → Changed file_front (one_before l) t v
behind-feed l wants t v h = elim h [
  | ends nothing wants same ↦ absurd (cc nothing)
  | goes_on rest is others of_others same ↦ let tail : rest ≡ t = cc is in
      (others, subst (λ x. file_front x others) tail of_others, same)
]

module _ (others : List ℕ → Outcome ℕ (List Line × Tail)) (most : ℕ) (reads : (text : List ℕ)
    → length text < most → Reads file_front text (others text)) where
  reads-behind : (l : Line) (wants : Bool) (text : List ℕ) → length text ≤ most
      → Reads (Behind (l, wants)) text (behind_row_at others l wants text)
  reads-behind l wants [] le = reads-last l wants [] (λ s e. cc e)
  reads-behind l wants (byte ∷ rest) le = decided (byte == 10) refl where
    decided : (same : Bool) → (byte == 10) ≡ same → Reads (Behind (l, wants)) (byte ∷ rest)
        (if same then with_lines (l ∷ []) (others rest) else last_at l wants (byte ∷ rest))
    decided true e = let is : byte ≡ 10 = eqb-true byte 10 e in
        subst (λ b. Reads (Behind (l, wants)) (b ∷ rest) (with_lines (l ∷ []) (others rest))) (sym is)
        (reads-step (Behind (l, wants)) (Changed file_front (one_before l)) 10 rest
        (with_lines (l ∷ []) (others rest)) (feed-behind l wants) (behind-feed l wants)
        (reads-changed file_front (one_before l) rest (others rest) (reads rest (omega arith))))
    decided false e = reads-last l wants (byte ∷ rest) (λ s is. let same : byte ≡ 10 = cc is in
        not-self 10 (subst (λ b. (b == 10) ≡ false) same e))

  reads-row : (text : List ℕ) → length text ≤ most → ((s : List ℕ) → text ≡ 80 ∷ s → ⊥)
      → Reads file_front text (row_and_others_at others text)
  reads-row text le other = reads-more (Then row Behind) file_front row-front (front-row text other)
      (reader-row.before (List Line × Tail) Behind (λ x. behind_row_at others x.0.0 x.0.1 x.1) text
      (λ r rest shorter. reads-behind r.0 r.1 rest (omega arith))
      (λ r c s v h on. elim h [
        | ends nothing wants same ↦
            absurd (cc nothing)
        | goes_on rest is others of_others same ↦ on (cc is)
      ]))

reads-front_from : (most : ℕ) (text : List ℕ) → length text < most → Reads file_front text (front_from most text)
reads-front_from zero text less = absurd (omega arith)
reads-front_from (suc most) [] less =
    reads-row (front_from most) most (reads-front_from most) [] (omega arith) (λ s e. cc e)
reads-front_from (suc most) (byte ∷ rest) less = decided (is_in (only (codes "P")) byte) refl
    (λ text shorter. reads-front_from most text shorter) where
      decided : (same : Bool) → is_in (only (codes "P")) byte ≡ same
          → ((text : List ℕ) → length text < most → Reads file_front text (front_from most text))
          → Reads file_front (byte ∷ rest) (if same then letter_at (byte ∷ rest)
          else row_and_others_at (front_from most) (byte ∷ rest))
      decided true e next = let is : byte ≡ 80 = only-byte 80 byte e in
          subst (λ b. Reads file_front (b ∷ rest) (letter_at (b ∷ rest))) (sym is) (reads-letter rest)
      decided false e next = reads-row (front_from most) most next (byte ∷ rest) (omega arith)
          (λ s is. let same : byte ≡ 80 = cc is in let no : is_in (only (codes "P")) 80 ≡ false =
          subst (λ b. is_in (only (codes "P")) b ≡ false) same e in cc no)

-- what stands before the script of a file is read
pub reads-front : (text : List ℕ) → Reads file_front text (front_at text)
unfolding front_at
reads-front text = reads-front_from (suc (length text)) text (omega arith)
