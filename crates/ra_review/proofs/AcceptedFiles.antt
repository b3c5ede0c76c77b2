-- A file of which no line is refused is a set file without repeated ids, and the other way.
use Rattle.std.proofs.Common.{◌≡◌, ◌∙◌, inl, inr, ℕ, suc, ◌==◌, ◌&&◌, ◌||◌, Bool, true, false, if◌then◌else◌, List, []}
use Rattle.std.proofs.Common.{◌∷◌, ◌++◌, Option, None, Some, option_to_list, refl, sym, ap, subst, codes, eq-eqb}
use Rattle.std.proofs.Common.{append-nil, append_assoc, bytes_eq, eqb-true}
use Rattle.std.specs.List.{AllByRecursion, IsDistinct, list_any}
use Rattle.std.proofs.lemmas.Map.Keys.{IsDistinct-head, IsDistinct-tail}
use Rattle.ra_richpresence.specs.Cut.{begun, content_of, has_no_feed, is_end, lines_of}
use Rattle.ra_richpresence.proofs.Cuts.{no_feed-cons}
use Rattle.ra_richpresence.proofs.Splits.{lines-alone, lines-feed}
use Rattle.ra_set.specs.Accepted.{repeats}
use Rattle.ra_set.specs.Alone.{IsOneLine, is_script_line, ContainsAlone}
use Rattle.ra_set.specs.Contents.{ItemContents}
use Rattle.ra_set.specs.Grammar.{Line, items_of, line}
use Rattle.ra_set.specs.Reading.{Tail, Ends, Letter, Opens}
use Rattle.ra_set.proofs.AloneLemmas.{feed-last}
use Rattle.ra_set.proofs.FileReaders.{Ended, Front, TailOf}
use Rattle.ra_set.proofs.FrontLemmas.{TailIn, front-of_file}
use Rattle.ra_set.proofs.LineReaders.{row}
use Rattle.ra_set.proofs.RepeatLemmas.{distinct-last, items-more, repeats-symm}
use Rattle.ra_review.specs.Lines.{Verdict, Accepts, Refuses, IsVerdict, opens_script, front_lines, script_lines, row_of}
use Rattle.ra_review.specs.Lines.{first_with, Findings, nothing, then_more, item_findings, line_findings, FindsIn}
use Rattle.ra_review.proofs.FrontLemmas.{first_alone}
use Rattle.ra_review.proofs.LineAlone.{line_feedless, row_feedless, row_opens_none, line_opens_none, script_opens}
use Rattle.ra_review.proofs.LineAlone.{not_script_line, empty_line, empty_has_none, row_alone, line_alone, only_verdict}
use Rattle.ra_review.proofs.LineAlone.{same_option}
use Rattle.ra_review.proofs.WalkLemmas.{FirstOf, first_of, no_lines}

-- ---- lines and how they end

-- the lines before a script
abbrev pub told : List Line → Tail → List Line
told ended (Ends l) = ended ++ l ∷ []
told ended Letter = ended
told ended (Opens behind) = ended

-- the lines of the script
abbrev pub script_in : Tail → Option (List (List ℕ))
script_in (Ends l) = None
script_in Letter = Some []
script_in (Opens behind) = Some (lines_of behind)

told_more : (l : Line) (ended : List Line) (tail : Tail) → told (l ∷ ended) tail ≡ l ∷ told ended tail
told_more l ended (Ends last) = refl
told_more l ended Letter = refl
told_more l ended (Opens behind) = refl

-- ---- repeats

-- what holds of all items holds of one of them
one_of : (P : ItemContents → Type 0) (rows more : List Line) (x : ItemContents)
    → AllByRecursion P (items_of (rows ++ Some x ∷ more)) → P x
one_of P [] more x all = all.0
one_of P (None ∷ rows) more x all = one_of P rows more x all
one_of P (Some y ∷ rows) more x all = one_of P rows more x all.1

-- where no id stands twice no line before has the id of an item
first_none : (rows more : List Line) (x : ItemContents) (n : ℕ)
    → IsDistinct repeats (items_of (rows ++ Some x ∷ more)) → first_with x n rows ≡ None
first_none [] more x n distinct = refl
first_none (None ∷ rows) more x n distinct = first_none rows more x (suc n) distinct
first_none (Some y ∷ rows) more x n distinct =
    let other : repeats y x ≡ false = one_of (λ z. repeats y z ≡ false) rows more x
    (IsDistinct-head repeats y (items_of (rows ++ Some x ∷ more)) distinct) in
    ap (λ same. if same then Some n else first_with x (suc n) rows) other
    ∙ first_none rows more x (suc n) (IsDistinct-tail repeats y (items_of (rows ++ Some x ∷ more)) distinct)

-- where no line before has the id of an item it is none of theirs
none_before : (x : ItemContents) (rows : List Line) (n : ℕ) → first_with x n rows ≡ None
    → list_any (repeats x) (items_of rows) ≡ false
none_before x [] n e = refl
none_before x (None ∷ rows) n e = none_before x rows (suc n) e
none_before x (Some y ∷ rows) n e = by_repeat (repeats y x) refl e (none_before x rows (suc n))
  where
    by_repeat : (same : Bool) → repeats y x ≡ same → (if same then Some n else first_with x (suc n) rows) ≡ None
        → (first_with x (suc n) rows ≡ None → list_any (repeats x) (items_of rows) ≡ false)
        → (repeats x y || list_any (repeats x) (items_of rows)) ≡ false
    by_repeat true is e next = absurd (cc e)
    by_repeat false is e next = ap (λ b. b || list_any (repeats x) (items_of rows)) (repeats-symm x y ∙ is) ∙ next e

-- ---- from a set file to its lines

-- no line is refused, and these are the items
pub record Passes (found : Findings) (xs : List ItemContents) : Type 0 where
  pub refusals : found.refusals ≡ []
  pub items : found.items ≡ xs

-- an accepted line that repeats no id
accepted_line : (number : ℕ) (rows more : List Line) (text : List ℕ) (l : Line)
    → IsDistinct repeats (items_of (rows ++ l ∷ more))
    → Passes (line_findings number rows text (Accepts l)) (option_to_list l)
accepted_line number rows more text None distinct = record { refusals = refl; items = refl }
accepted_line number rows more text (Some x) distinct =
    let none = first_none rows more x 1 distinct in
    record {
      refusals = ap (λ first. (item_findings number text x first).refusals) none;
      items = ap (λ first. (item_findings number text x first).items) none;
    }

-- a line and those behind it
passes_more : (found one others : Findings) (xs ys : List ItemContents) → found ≡ then_more one others
    → Passes one xs → Passes others ys → Passes found (xs ++ ys)
passes_more found one others xs ys e a b = record {
  refusals = ap (λ f. f.refusals) e ∙ ap (λ r. r ++ others.refusals) a.refusals ∙ b.refusals;
  items = ap (λ f. f.items) e ∙ ap (λ i. i ++ others.items) a.items ∙ ap (λ i. xs ++ i) b.items;
}

-- what a text gives whose lines end so
pub record Gives (number : ℕ) (rows : List Line) (lines : List Line)
    (script : Option (List (List ℕ))) (text : List ℕ) : Type 0 where
  pub passes : (found : Findings) → FindsIn number rows (front_lines (lines_of text)) found
      → Passes found (items_of lines)
  pub behind : script_lines (lines_of text) ≡ script

-- a line that has its item or none, before lines that give theirs
one_line_more : (number : ℕ) (rows lines : List Line) (l : Line) (first : List ℕ) (rest : List (List ℕ))
    → opens_script (content_of first) ≡ false → ContainsAlone first l
    → IsDistinct repeats (items_of (rows ++ l ∷ lines))
    → ((found : Findings) → FindsIn (suc number) (rows ++ l ∷ []) (front_lines rest) found
    → Passes found (items_of lines))
    → (found : Findings) → FindsIn number rows (front_lines (first ∷ rest)) found
    → Passes found (items_of (l ∷ lines))
one_line_more number rows lines l first rest other alone distinct next found finds =
    let f : FindsIn number rows (first ∷ front_lines rest) found = subst (λ opens. FindsIn number
    rows (if opens then first ∷ [] else first ∷ front_lines rest) found) other finds in
    let is : f.0 ≡ Accepts l = only_verdict first l (not_script_line first other) alone f.0 f.1 in
    let behind : FindsIn (suc number) (rows ++ l ∷ []) (front_lines rest) f.2 =
    subst (λ v. FindsIn (suc number) (rows ++ row_of v ∷ []) (front_lines rest) f.2) is f.3 in
    passes_more found (line_findings number rows first (Accepts l)) f.2 (option_to_list l) (items_of lines)
    (f.4 ∙ ap (λ v. then_more (line_findings number rows first v) f.2) is)
    (accepted_line number rows lines first l distinct) (next f.2 behind)

-- the one line "P" of these bytes
script_line_gives : (number : ℕ) (rows : List Line) (first : List ℕ) (rest : List (List ℕ))
    → content_of first ≡ codes "P"
    → (found : Findings) → FindsIn number rows (front_lines (first ∷ rest)) found → Passes found []
script_line_gives number rows first rest is found finds =
    let opens : opens_script (content_of first) ≡ true = ap opens_script is in
    let letter : is_script_line first ≡ true = ap (bytes_eq (codes "P")) is in
    let f : FindsIn number rows (first ∷ []) found = subst (λ opens. FindsIn number rows
    (if opens then first ∷ [] else first ∷ front_lines rest) found) opens finds in
    let same : found ≡ then_more (line_findings number rows first f.0) nothing = f.4
    ∙ ap (λ o. then_more (line_findings number rows first f.0) o) f.3 in
    by_verdict letter f.0 f.1 same
  where
    by_verdict : is_script_line first ≡ true → (v : Verdict) → IsVerdict first v
        → found ≡ then_more (line_findings number rows first v) nothing → Passes found []
    by_verdict letter (Accepts l) (inl h) e =
        let nothing_more : found ≡ nothing = e
        ∙ ap (λ l. then_more (line_findings number rows first (Accepts l)) nothing) h.1 in
        record { refusals = ap (λ f. f.refusals) nothing_more; items = ap (λ f. f.items) nothing_more }
    by_verdict letter (Accepts l) (inr h) e = let no = h.0 in absurd (cc (no, letter))
    by_verdict letter (Refuses place) h e = let no = h.0 in absurd (cc (no, letter))

-- the last line, which ends with the text
last_gives : (number : ℕ) (rows : List Line) (last : Line) (text : List ℕ) → line text last
    → IsDistinct repeats (items_of (rows ++ last ∷ [])) → Gives number rows (last ∷ []) None text
last_gives number rows last [] h distinct =
    let none = empty_has_none last h in
    record {
      passes = λ found finds. record {
        refusals = ap (λ f. f.refusals) finds;
        items = ap (λ f. f.items) finds ∙ ap (λ l. items_of (l ∷ [])) (sym none);
      };
      behind = refl;
    }
last_gives number rows last (c ∷ text) h distinct =
    let one = lines-alone c text (line_feedless (c ∷ text) last h) in
    let other = line_opens_none (c ∷ text) last h in
    record {
      passes = λ found finds. one_line_more number rows [] last (c ∷ text) [] other
          (line_alone (c ∷ text) last h) distinct
          (λ found finds. record { refusals = ap (λ f. f.refusals) finds; items = ap (λ f. f.items) finds })
          found (subst (λ lines. FindsIn number rows (front_lines lines) found) one finds);
      behind = ap script_lines one ∙ ap (λ opens. if opens then Some [] else None) other;
    }

-- a script behind its line "P"
opens_gives : (number : ℕ) (rows : List Line) (behind text : List ℕ) → TailOf (Opens behind) text
    → Gives number rows [] (Some (lines_of behind)) text
opens_gives number rows behind text (inl is) = subst (Gives number rows [] (Some (lines_of behind))) (sym is)
    (record { passes = script_line_gives number rows (codes "P\n") (lines_of behind) refl; behind = refl })
opens_gives number rows behind text (inr is) = subst (Gives number rows [] (Some (lines_of behind))) (sym is)
    (record { passes = script_line_gives number rows (codes "P\r\n") (lines_of behind) refl; behind = refl })

-- lines with their ends, and how they end
pub front_gives : (number : ℕ) (rows ended : List Line) (tail : Tail) (text : List ℕ) → Front ended tail text
    → (tail ≡ Letter → ⊥)
    → IsDistinct repeats (items_of (rows ++ told ended tail))
    → Gives number rows (told ended tail) (script_in tail) text
front_gives number rows [] (Ends last) text h some distinct = last_gives number rows last text h distinct
front_gives number rows [] Letter text h some distinct = absurd (some refl)
front_gives number rows [] (Opens behind) text h some distinct = opens_gives number rows behind text h
front_gives number rows (l ∷ ended) tail text h some distinct =
    let whole : IsDistinct repeats (items_of (rows ++ l ∷ told ended tail)) = subst
    (λ lines. IsDistinct repeats (items_of (rows ++ lines))) (told_more l ended tail) distinct in
    let next = front_gives (suc number) (rows ++ l ∷ []) ended tail h.behind h.of_others some
    (subst (λ lines. IsDistinct repeats (items_of lines)) (sym (append_assoc rows (l ∷ []) (told ended tail))) whole) in
    let first = h.front ++ 10 ∷ [] in
    let lines : lines_of text ≡ first ∷ lines_of h.behind = ap lines_of h.parts
    ∙ lines-feed h.front h.behind (row_feedless h.front l h.wants h.of_row) in
    let other = row_opens_none h.front l h.wants h.of_row in
    subst (λ t. Gives number rows t (script_in tail) text) (sym (told_more l ended tail)) (record {
      passes = λ found finds. one_line_more number rows (told ended tail) l first
          (lines_of h.behind) other (row_alone h.front l h.wants h.of_row) whole next.passes
          found (subst (λ lines. FindsIn number rows (front_lines lines) found) lines finds);
      behind = ap script_lines lines ∙ ap (λ opens. if opens then Some (lines_of h.behind)
          else script_lines (lines_of h.behind)) other ∙ next.behind;
    })

-- ---- from lines to a set file

-- the lines of a text, of which none is refused
pub record Accepted (rows : List Line) (found : Findings) (text : List ℕ) : Type 0 where
  pub ended : List Line
  pub tail : Tail
  pub front : Front ended tail text
  pub items : found.items ≡ items_of (told ended tail)
  pub distinct : IsDistinct repeats (items_of (rows ++ told ended tail))
  pub behind : script_lines (lines_of text) ≡ script_in tail

-- a line is no empty text
no_empty_line : (text : List ℕ) (ms : List (List ℕ)) → lines_of text ≡ [] ∷ ms → ⊥
no_empty_line [] ms e = cc e
no_empty_line (c ∷ text) ms e = by_feed (c == 10) (lines_of text) e
  where
    by_feed : (feed : Bool) (lines : List (List ℕ)) → (if feed then (10 ∷ []) ∷ lines else begun c lines) ≡ [] ∷ ms
        → ⊥
    by_feed true lines e = let first : ◌≡◌ {A = List ℕ} (10 ∷ []) [] = cc e in cc first
    by_feed false [] e = let first : c ∷ [] ≡ [] = cc e in cc first
    by_feed false (m ∷ ms') e = let first : c ∷ m ≡ [] = cc e in cc first

-- a first line without a line feed is the last
alone_last : (line text : List ℕ) (ls : List (List ℕ)) → has_no_feed line ≡ true → lines_of text ≡ line ∷ ls
    → text ≡ line
alone_last [] text ls clear e = absurd (no_empty_line text ls e)
alone_last (d ∷ line) [] ls clear e = absurd (cc e)
alone_last (d ∷ line) (c ∷ text) ls clear e = by_feed (c == 10) refl (lines_of text) refl e
    (alone_last line text ls (no_feed-cons d line clear).1)
  where
    by_feed : (feed : Bool) → (c == 10) ≡ feed → (lines : List (List ℕ)) → lines_of text ≡ lines
        → (if feed then (10 ∷ []) ∷ lines else begun c lines) ≡ (d ∷ line) ∷ ls
        → (lines_of text ≡ line ∷ ls → text ≡ line) → c ∷ text ≡ d ∷ line
    by_feed true is lines here e next =
        let one : ◌≡◌ {A = List ℕ} (10 ∷ []) (d ∷ line) = cc e in
        let byte : 10 ≡ d = cc one in
        let same : (d == 10) ≡ true = eq-eqb d 10 (sym byte) in
        let other : (d == 10) ≡ false = (no_feed-cons d line clear).0 in
        absurd (cc (same, other))
    by_feed false is [] here e next =
        let one : c ∷ [] ≡ d ∷ line = cc e in
        ap (λ t. c ∷ t) (no_lines text here) ∙ one
    by_feed false is (m ∷ ms) here e next =
        let one : c ∷ m ≡ d ∷ line = cc e in
        let left : ms ≡ ls = cc e in
        let same : m ≡ line = cc one in
        let byte : c ≡ d = cc one in
        ap (λ t. c ∷ t) (next (here ∙ ap (λ m. m ∷ ms) same ∙ ap (λ ms. line ∷ ms) left)) ∙ ap (λ c. c ∷ line) byte

-- what a line is that has an item or none: it ends with the file, or with a line feed
data Shape (l : List ℕ) (m : Line) : Type 0 where
  ends : line l m → Shape l m
  feeds : (front : List ℕ) (wants : Bool) → row front (m, wants) → l ≡ front ++ 10 ∷ [] → Shape l m

-- nothing goes on behind the line feed of one line
behind_feed : (front behind l : List ℕ) → IsOneLine l → l ≡ front ++ 10 ∷ behind → behind ≡ []
behind_feed front behind l one e = feed-last front behind (subst (λ t. lines_of t ≡ t ∷ []) e one)

no_row_in : (e : Line) (others : List ℕ → Type 0) → Ended e others [] → ⊥
no_row_in e others h = by_front h.front h.parts
  where
    by_front : (front : List ℕ) → [] ≡ front ++ 10 ∷ h.behind → ⊥
    by_front [] is = cc is
    by_front (c ∷ front) is = cc is

-- the items of a line by those of its file
shape_of : (l : List ℕ) (m last : Line) (lines ended : List Line) → IsOneLine l → items_of lines ≡ option_to_list m
    → lines ≡ ended ++ last ∷ [] → Front ended (Ends last) l → Shape l m
shape_of l m last lines [] one items is h =
    let same : last ≡ m = same_option last m (sym (append-nil (option_to_list last)) ∙ ap items_of (sym is) ∙ items) in
    ends (subst (line l) same h)
shape_of l m last lines (e ∷ []) one items is h =
    let none : h.behind ≡ [] = behind_feed h.front h.behind l one h.parts in
    let empty : last ≡ None = empty_has_none last (subst (λ t. line t last) none h.of_others) in
    let all : lines ≡ e ∷ None ∷ [] = is ∙ ap (λ x. e ∷ x ∷ []) empty in
    let same : e ≡ m = same_option e m (sym (append-nil (option_to_list e)) ∙ ap items_of (sym all) ∙ items) in
    feeds h.front h.wants (subst (λ x. row h.front (x, h.wants)) same h.of_row) (h.parts
    ∙ ap (λ t. h.front ++ 10 ∷ t) none)
shape_of l m last lines (e ∷ d ∷ ended) one items is h =
    let none : h.behind ≡ [] = behind_feed h.front h.behind l one h.parts in
    absurd (no_row_in d (Front ended (Ends last)) (subst (Ended d (Front ended (Ends last))) none h.of_others))

shape_alone : (l : List ℕ) (m : Line) → IsOneLine l → ContainsAlone l m → Shape l m
shape_alone l m one c =
    let f = front-of_file l (record { lines = c.lines; script = None }) c.spelled in
    by_tail f.ended f.tail f.spelled f.tells
  where
    by_tail : (ended : List Line) (tail : Tail) → Front ended tail l
        → TailIn (record { lines = c.lines; script = None }) tail ended → Shape l m
    by_tail ended (Ends last) h tells = shape_of l m last c.lines ended one c.items tells.0 h
    by_tail ended Letter h tells = absurd tells
    by_tail ended (Opens text) h tells = absurd (let no = tells.3 in cc no)

-- such a line is no line P
shape_opens_none : (l : List ℕ) (m : Line) → Shape l m → opens_script (content_of l) ≡ false
shape_opens_none l m (ends h) = line_opens_none l m h
shape_opens_none l m (feeds front wants h e) = ap (λ t. opens_script (content_of t)) e
    ∙ row_opens_none front m wants h

-- a line whose content is "P"
data ScriptLine (l : List ℕ) : Type 0 where
  bare : l ≡ codes "P" → ScriptLine l
  fed : l ≡ codes "P\n" → ScriptLine l
  returned : l ≡ codes "P\r\n" → ScriptLine l

-- what is nothing but an end
data OnlyEnd (l : List ℕ) : Type 0 where
  nothing_left : l ≡ [] → OnlyEnd l
  line_feed : l ≡ codes "\n" → OnlyEnd l
  return_feed : l ≡ codes "\r\n" → OnlyEnd l

only_end : (l : List ℕ) → content_of l ≡ [] → OnlyEnd l
only_end [] e = nothing_left refl
only_end (c ∷ []) e = by_feed (c == 10) refl e
  where
    by_feed : (end : Bool) → (c == 10) ≡ end → (if end then [] else c ∷ []) ≡ [] → OnlyEnd (c ∷ [])
    by_feed true is e = line_feed (ap (λ c. c ∷ []) (eqb-true c 10 is))
    by_feed false is e = absurd (cc e)
only_end (c ∷ d ∷ []) e = by_end (c == 13) (d == 10) refl refl e
  where
    by_end : (return end : Bool) → (c == 13) ≡ return → (d == 10) ≡ end
        → (if return && end then [] else c ∷ content_of (d ∷ [])) ≡ [] → OnlyEnd (c ∷ d ∷ [])
    by_end true true is last e = return_feed (ap (λ c. c ∷ d ∷ []) (eqb-true c 13 is)
        ∙ ap (λ d. 13 ∷ d ∷ []) (eqb-true d 10 last))
    by_end true false is last e = absurd (cc e)
    by_end false end is last e = absurd (cc e)
only_end (c ∷ d ∷ f ∷ l) e = absurd (cc e)

script_line : (l : List ℕ) → content_of l ≡ codes "P" → ScriptLine l
script_line [] e = absurd (cc e)
script_line (c ∷ l) e = by_end (is_end (c ∷ l)) e
  where
    by_end : (end : Bool) → (if end then [] else c ∷ content_of l) ≡ codes "P" → ScriptLine (c ∷ l)
    by_end true e = absurd (cc e)
    by_end false e =
        let letter : c ≡ 80 = cc e in
        let rest : content_of l ≡ [] = cc e in
        elim (only_end l rest) [
          | nothing_left is ↦ bare (ap (λ c. c ∷ l) letter ∙ ap (λ l. 80 ∷ l) is)
          | line_feed is ↦ fed (ap (λ c. c ∷ l) letter ∙ ap (λ l. 80 ∷ l) is)
          | return_feed is ↦ returned (ap (λ c. c ∷ l) letter ∙ ap (λ l. 80 ∷ l) is)
        ]

-- what an accepted line gives where nothing is refused
record Keeps (number : ℕ) (rows : List Line) (text : List ℕ) (l : Line) : Type 0 where
  items : (line_findings number rows text (Accepts l)).items ≡ option_to_list l
  distinct : IsDistinct repeats (items_of (rows ++ l ∷ []))

keeps_line : (number : ℕ) (rows : List Line) (text : List ℕ) (l : Line) → IsDistinct repeats (items_of rows)
    → (line_findings number rows text (Accepts l)).refusals ≡ [] → Keeps number rows text l
keeps_line number rows text None distinct e = record {
  items = refl;
  distinct = subst (IsDistinct repeats) (sym (items-more rows None ∙ append-nil (items_of rows))) distinct;
}
keeps_line number rows text (Some x) distinct e = by_first (first_with x 1 rows) refl e
  where
    by_first : (first : Option ℕ) → first_with x 1 rows ≡ first → (item_findings number text x first).refusals ≡ []
        → Keeps number rows text (Some x)
    by_first (Some n) is e = absurd (cc e)
    by_first None is e = record {
      items = ap (λ first. (item_findings number text x first).items) is;
      distinct = distinct-last rows x distinct (none_before x rows 1 is);
    }

-- where nothing stands in a list nothing stands in its parts
pub empty_front : (xs ys : List (List ℕ)) → xs ++ ys ≡ [] → xs ≡ []
empty_front [] ys e = refl
empty_front (x ∷ xs) ys e = absurd (cc e)

pub empty_behind : (xs ys : List (List ℕ)) → xs ++ ys ≡ [] → ys ≡ []
empty_behind [] ys e = e
empty_behind (x ∷ xs) ys e = absurd (cc e)

-- a script stands behind the line "P" that a text begins with
accept_script : (rows : List Line) (found : Findings) (text l : List ℕ) (ls : List (List ℕ))
    → lines_of text ≡ l ∷ ls → FirstOf text l ls → found ≡ nothing → IsDistinct repeats (items_of rows)
    → ScriptLine l → Accepted rows found text
accept_script rows found text l ls is f none distinct (bare e) =
    let whole : text ≡ codes "P" = alone_last l text ls (ap has_no_feed e) is ∙ e in
    record {
      ended = [];
      tail = Letter;
      front = whole;
      items = ap (λ f. f.items) none;
      distinct = subst (λ lines. IsDistinct repeats (items_of lines)) (sym (append-nil rows)) distinct;
      behind = ap (λ t. script_lines (lines_of t)) whole;
    }
accept_script rows found text l ls is f none distinct (fed e) =
    let whole : text ≡ 80 ∷ 10 ∷ f.behind = f.parts ∙ ap (λ l. l ++ f.behind) e in
    record {
      ended = [];
      tail = Opens f.behind;
      front = inl whole;
      items = ap (λ f. f.items) none;
      distinct = subst (λ lines. IsDistinct repeats (items_of lines)) (sym (append-nil rows)) distinct;
      behind = ap (λ t. script_lines (lines_of t)) whole;
    }
accept_script rows found text l ls is f none distinct (returned e) =
    let whole : text ≡ 80 ∷ 13 ∷ 10 ∷ f.behind = f.parts ∙ ap (λ l. l ++ f.behind) e in
    record {
      ended = [];
      tail = Opens f.behind;
      front = inr whole;
      items = ap (λ f. f.items) none;
      distinct = subst (λ lines. IsDistinct repeats (items_of lines)) (sym (append-nil rows)) distinct;
      behind = ap (λ t. script_lines (lines_of t)) whole;
    }

-- the last line ends with the text
accept_last : (number : ℕ) (rows : List Line) (found others : Findings) (text l : List ℕ) (ls : List
    (List ℕ)) (m : Line) → lines_of text ≡ l ∷ ls → opens_script (content_of l) ≡ false → line l m
    → Keeps number rows l m → FindsIn (suc number) (rows ++ m ∷ []) (front_lines ls) others
    → found ≡ then_more (line_findings number rows l (Accepts m)) others → Accepted rows found text
accept_last number rows found others text l ls m is other h k finds e =
    let whole : text ≡ l = alone_last l text ls (line_feedless l m h) is in
    let one : lines_of l ≡ l ∷ [] = first_alone text l ls is in
    let last : ls ≡ [] = (let both : l ∷ ls ≡ l ∷ [] = sym is ∙ ap lines_of whole ∙ one in cc both) in
    let none : others ≡ nothing =
    subst (λ ls. FindsIn (suc number) (rows ++ m ∷ []) (front_lines ls) others) last finds in
    record {
      ended = [];
      tail = Ends m;
      front = subst (λ t. line t m) (sym whole) h;
      items = ap (λ f. f.items) e ∙ ap (λ o. (line_findings number rows l (Accepts m)).items ++ o.items) none
          ∙ append-nil (line_findings number rows l (Accepts m)).items ∙ k.items
          ∙ sym (append-nil (option_to_list m));
      distinct = k.distinct;
      behind = ap script_lines is ∙ ap (λ opens. if opens then Some ls else script_lines ls) other
          ∙ ap script_lines last;
    }

-- a line with its line feed before others
accept_more : (number : ℕ) (rows : List Line) (found others : Findings)
    (text l behind front : List ℕ) (ls : List (List ℕ)) (m : Line) (wants : Bool) → lines_of text
    ≡ l ∷ ls → opens_script (content_of l) ≡ false
    → text ≡ l ++ behind → lines_of behind ≡ ls → row front (m, wants) → l ≡ front ++ 10 ∷ []
    → Keeps number rows l m → found ≡ then_more (line_findings number rows l (Accepts m)) others
    → Accepted (rows ++ m ∷ []) others behind → Accepted rows found text
accept_more number rows found others text l behind front ls m wants is other parts rest h feed k e a = record {
  ended = m ∷ a.ended;
  tail = a.tail;
  front = record {
    wants = wants;
    front = front;
    behind = behind;
    parts = parts ∙ ap (λ l. l ++ behind) feed ∙ append_assoc front (10 ∷ []) behind;
    of_row = h;
    of_others = a.front;
  };
  items = ap (λ f. f.items) e ∙ ap (λ i. i ++ others.items) k.items ∙ ap (λ i. option_to_list m ++ i) a.items
      ∙ ap items_of (sym (told_more m a.ended a.tail));
  distinct = subst (λ lines. IsDistinct repeats (items_of lines)) (append_assoc rows (m ∷ []) (told
      a.ended a.tail) ∙ ap (λ lines. rows ++ lines) (sym (told_more m a.ended a.tail))) a.distinct;
  behind = ap script_lines is ∙ ap (λ opens. if opens then Some ls else script_lines ls) other
      ∙ ap script_lines (sym rest) ∙ a.behind;
}

-- where none of the lines is refused they are those of a set file without repeated ids, up to its script
pub accepted_lines : (lines : List (List ℕ)) (text : List ℕ) → lines_of text ≡ lines
    → (number : ℕ) (rows : List Line) (found : Findings) → IsDistinct repeats (items_of rows)
    → FindsIn number rows (front_lines lines) found → found.refusals ≡ [] → Accepted rows found text
accepted_lines [] text is number rows found distinct finds none =
    let empty = no_lines text is in
    record {
      ended = [];
      tail = Ends None;
      front = subst (λ t. line t None) (sym empty) empty_line;
      items = ap (λ f. f.items) finds;
      distinct = subst (IsDistinct repeats) (sym (items-more rows None ∙ append-nil (items_of rows))) distinct;
      behind = ap script_lines is;
    }
accepted_lines (l ∷ ls) text is number rows found distinct finds none =
    by_opens (opens_script (content_of l)) refl finds (accepted_lines ls f.behind f.others)
  where
    f : FirstOf text l ls
    f = first_of text l ls is

    one : IsOneLine l
    one = first_alone text l ls is

    Next : Type 0
    Next = (number : ℕ) (rows : List Line) (found : Findings) → IsDistinct repeats (items_of rows)
        → FindsIn number rows (front_lines ls) found → found.refusals ≡ [] → Accepted rows found f.behind

    -- the line P
    script_verdict : opens_script (content_of l) ≡ true → (v : Verdict) → IsVerdict l v
        → found ≡ then_more (line_findings number rows l v) nothing → Accepted rows found text
    script_verdict opens (Accepts m) (inl h) e =
        accept_script rows found text l ls is f (e ∙ ap (λ m. then_more (line_findings number rows l
        (Accepts m)) nothing) h.1) distinct (script_line l (script_opens (content_of l) h.0))
    script_verdict opens (Accepts m) (inr h) e = let no =
        shape_opens_none l m (shape_alone l m one h.1) in absurd (cc (no, opens))
    script_verdict opens (Refuses place) h e = let some = sym (ap (λ f. f.refusals) e) ∙ none in absurd (cc some)

    -- a line before it
    by_shape : opens_script (content_of l) ≡ false → (m : Line) → Shape l m → (others : Findings)
        → FindsIn (suc number) (rows ++ m ∷ []) (front_lines ls) others
        → found ≡ then_more (line_findings number rows l (Accepts m)) others → Next → Accepted rows found text
    by_shape other m (ends h) others rest e next =
        let k = keeps_line number rows l m distinct (empty_front (line_findings number rows l
        (Accepts m)).refusals others.refusals (sym (ap (λ f. f.refusals) e) ∙ none)) in
        accept_last number rows found others text l ls m is other h k rest e
    by_shape other m (feeds front wants h feed) others rest e next =
        let refusals : (line_findings number rows l (Accepts m)).refusals ++ others.refusals ≡ [] =
        sym (ap (λ f. f.refusals) e) ∙ none in
        let k = keeps_line number rows l m distinct
        (empty_front (line_findings number rows l (Accepts m)).refusals others.refusals refusals) in
        accept_more number rows found others text l f.behind front ls m wants is other f.parts f.others h feed k e
        (next (suc number) (rows ++ m ∷ []) others k.distinct rest
        (empty_behind (line_findings number rows l (Accepts m)).refusals others.refusals refusals))

    by_verdict : opens_script (content_of l) ≡ false → (v : Verdict) → IsVerdict l v → (others : Findings)
        → FindsIn (suc number) (rows ++ row_of v ∷ []) (front_lines ls) others
        → found ≡ then_more (line_findings number rows l v) others → Next → Accepted rows found text
    by_verdict other (Accepts m) (inl h) others rest e next = let no = not_script_line l other in
        let is = h.0 in absurd (cc (no, is))
    by_verdict other (Accepts m) (inr h) others rest e next =
        by_shape other m (shape_alone l m one h.1) others rest e next
    by_verdict other (Refuses place) h others rest e next = let some = sym (ap (λ f. f.refusals) e)
        ∙ none in absurd (cc some)

    by_opens : (opens : Bool) → opens_script (content_of l) ≡ opens
        → FindsIn number rows (if opens then l ∷ [] else l ∷ front_lines ls) found → Next → Accepted rows found text
    by_opens true opens h next = script_verdict opens h.0 h.1 (h.4
        ∙ ap (λ o. then_more (line_findings number rows l h.0) o) h.3)
    by_opens false other h next = by_verdict other h.0 h.1 h.2 h.3 h.4 next
