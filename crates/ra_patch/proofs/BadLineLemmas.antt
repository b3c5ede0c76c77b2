-- The line of an item whose text is bad, alone in a file, has its first bad place in that text.
use Rattle.std.proofs.Common.{◌≡◌, ◌∙◌, ◌↔◌, inl, inr, ℕ, zero, suc, ◌+◌, ◌-◌, ◌<◌, ◌≤◌, List, [], ◌∷◌, ◌++◌, length}
use Rattle.std.proofs.Common.{take, get_or, Option, Some, None, Ok, Err, refl, sym, ap, subst, codes, arith, append-nil}
use Rattle.std.proofs.Common.{append_assoc, length-append, lit<}
use Rattle.std.proofs.Math.Seq.{take-append-add}
use Rattle.std.proofs.lemmas.Bool.{cases_lt}
use Rattle.std.proofs.lemmas.List.{take-append-le, take_all}
use Rattle.serde_json.specs.Data.{Data}
use Rattle.ra_condition.specs.Grammar.{trigger}
use Rattle.ra_condition.specs.Reading.{trigger_at}
use Rattle.ra_condition.proofs.GroupReaders.{reads-trigger}
use Rattle.ra_leaderboard.specs.Grammar.{board}
use Rattle.ra_leaderboard.specs.Reading.{board_at}
use Rattle.ra_leaderboard.proofs.BoardReaders.{reads-board}
use Rattle.ra_value_format.specs.Formats.{format_of_name}
use Rattle.ra_set.specs.Contents.{ItemContents, Unlocks, Ranks}
use Rattle.ra_set.specs.Grammar.{FileContents, Line, ended_line, line, set_file}
use Rattle.ra_set.specs.Runs.{many}
use Rattle.ra_set.specs.Places.{HasScript, IsFileOutside}
use Rattle.ra_set.specs.Reading.{Tail, Ends, Letter, Opens}
use Rattle.ra_set.proofs.FileReaders.{Front, empty-line}
use Rattle.ra_set.proofs.FrontLemmas.{ended-front, file-of_lines, front-lines, front-of_file, script-front}
use Rattle.ra_set.proofs.LineBytes.{Inner, inner-board, inner-trigger}
use Rattle.ra_set.proofs.PlaceLemmas.{one-file_place}
use Rattle.ra_set.proofs.RowLines.{cut, one-is}
use Rattle.ra_set.proofs.SetSpelling.{head-spelled, head_text}
use Rattle.ra_text.specs.Form.{Form, Viable}
use Rattle.ra_text.specs.Reading.{Outcome, Reads, rest_of}
use Rattle.ra_text.proofs.Items.{changed, one-byte}
use Rattle.ra_text.proofs.Places.{whole-outside, whole-spelled}
use Rattle.ra_text.proofs.Tables.{OfEach}
use Rattle.ra_patch.specs.declared.item_kind.ItemKind.{ItemKind}
use Rattle.ra_patch.specs.declared.item_kind.ItemKind.TheVariants.{Achievement, Leaderboard}
use Rattle.ra_patch.specs.Leaving.{IsItemPlace, IsPlace, before_text, fault_of, id_of, item_text, line_of}
use Rattle.ra_patch.proofs.CutLemmas.{format-word, head-once, inner-line, word-once}
use Rattle.ra_patch.proofs.LineLemmas.{format_in, id-fits, item-spelled, whole-achievement, whole-board}
use Rattle.ra_text.proofs.Spelled.{then-spelled, viable-by}

-- ---- ends of lines

-- nothing, or a byte of the end of a line and what stands behind it
data IsEnd (rest : List ℕ) : Type 0 where
  at_end : rest ≡ [] → IsEnd rest
  at_byte : (c : ℕ) (behind : List ℕ) → rest ≡ c ∷ behind → (Inner c → ⊥) → IsEnd rest

feed : Inner 10 → ⊥
feed both = both.0 refl

returned : Inner 13 → ⊥
returned both = both.1 refl

-- a front without an end of a line is a front of what stands before the end
inner-front : (front more text rest : List ℕ) → OfEach Inner front → IsEnd rest → front ++ more ≡ text ++ rest
    → (others : List ℕ) × (text ≡ front ++ others)
inner-front [] more text rest all end e = (text, refl)
inner-front (c ∷ front) more [] rest all (at_end none) e =
    absurd (let wrong : c ∷ (front ++ more) ≡ [] = e ∙ none in cc wrong)
inner-front (c ∷ front) more [] rest all (at_byte byte behind is other) e =
    let same : c ≡ byte = let whole : c ∷ (front ++ more) ≡ byte ∷ behind = e ∙ is in ap (λ t. get_or t 0 0) whole in
    absurd (other (subst Inner same all.0))
inner-front (c ∷ front) more (b ∷ text) rest all end e =
    let first : c ≡ b = ap (λ t. get_or t 0 0) e in
    let others : front ++ more ≡ text ++ rest = cc e in
    let r = inner-front front more text rest all.1 end others in
    (r.0, ap (λ x. x ∷ text) (sym first) ∙ ap (λ t. c ∷ t) r.1)

-- ---- what stands before an end

-- a text is one of an item, up to an end of a line
record Heads (kind : ItemKind) (w : List ℕ) : Type 0 where
  text : List ℕ
  rest : List ℕ
  parts : w ≡ text ++ rest
  spelled : IsItemPlace kind text None
  ends : IsEnd rest

-- the first byte of the line of an item
letter : ItemKind → ℕ
letter Achievement = 65
letter Leaderboard = 76

-- the line begins with no other byte
begins-so : (kind : ItemKind) (d : Data) (w x : List ℕ) (c : ℕ) → before_text kind d ++ w ≡ c ∷ x → c ≡ letter kind
unfolding letter
begins-so Achievement d w x c e = sym (ap (λ t. get_or t 0 0) e)
begins-so Leaderboard d w x c e = sym (ap (λ t. get_or t 0 0) e)

not-letter : (kind : ItemKind) (c : ℕ) → c ≡ letter kind → (c ≡ 65 → ⊥) → (c ≡ 76 → ⊥) → ⊥
unfolding letter
not-letter Achievement c e other other' = other e
not-letter Leaderboard c e other other' = other' e

-- a line that is not empty is no end
some-end : (c : ℕ) (behind rest : List ℕ) → Inner c → IsEnd rest → c ∷ behind ≡ rest → ⊥
some-end c behind rest inner (at_end none) e = let wrong : c ∷ behind ≡ [] = e ∙ none in cc wrong
some-end c behind rest inner (at_byte byte more is other) e =
    let whole : c ∷ behind ≡ byte ∷ more = e ∙ is in
    let same : c ≡ byte = ap (λ t. get_or t 0 0) whole in other (subst Inner same inner)

inner-letter : (c : ℕ) → 13 < c → Inner c
inner-letter c more = ((λ is. omega (arith, is)), (λ is. omega (arith, is)))

module _ (d : Data) where
  -- an achievement
  heads-achievement : (x w rest : List ℕ) (l : Line) → line x l → head_text 65 (id_of d) ++ w ≡ x ++ rest → IsEnd rest
      → Heads Achievement w
  heads-achievement x w rest l (inl h) e end =
      let mark = one-is 35 h.front h.v h.of_first in
      let whole : head_text 65 (id_of d) ++ w ≡ 35 ∷ (h.behind ++ rest) =
      e ∙ ap (λ t. t ++ rest) (h.parts ∙ ap (λ t. t ++ h.behind) mark) in
      absurd (let wrong : ◌≡◌ {A = ℕ} 65 35 = ap (λ t. get_or t 0 0) whole in omega (arith, wrong))
  heads-achievement x w rest l (inr (inl h)) e end =
      let whole : head_text 65 (id_of d) ++ w ≡ h.front ++ (h.behind ++ rest) =
      e ∙ ap (λ t. t ++ rest) h.parts ∙ append_assoc h.front h.behind rest in
      let p = head-once 65 (id_of d) w h.front (h.behind ++ rest) h.v (id-fits d) whole h.of_first in
      let t = h.of_next in
      let text : h.behind ≡ t.front = t.parts ∙ ap (λ y. t.front ++ y) t.of_next.empty ∙ append-nil t.front in
      record {
        text = h.behind;
        rest = rest;
        parts = sym p.1;
        spelled =
            (t.v, subst (λ y. trigger y t.v) (sym text) t.of_first);
        ends = end;
      }
  heads-achievement x w rest l (inr (inr (inl h))) e end =
      let front : h.front ≡ 76 ∷ h.of_first.behind =
      h.of_first.parts ∙ ap (λ t. t ++ h.of_first.behind) (one-is 76 h.of_first.front h.of_first.v h.of_first.of_first)
      in
      let whole : head_text 65 (id_of d) ++ w ≡ 76 ∷ ((h.of_first.behind ++ h.behind) ++ rest) =
      e ∙ ap (λ t. t ++ rest) (h.parts ∙ ap (λ t. t ++ h.behind) front) in
      absurd (let wrong : ◌≡◌ {A = ℕ} 65 76 = ap (λ t. get_or t 0 0) whole in omega (arith, wrong))
  heads-achievement x w rest l (inr (inr (inr h))) e end =
      absurd (some-end 65 _ rest (inner-letter 65 (lit< tt)) end (e ∙ ap (λ t. t ++ rest) h.empty))

  -- a leaderboard
  heads-board : fault_of Leaderboard d ≡ None → (x w rest : List ℕ) (l : Line) → line x l
      → head_text 76 (id_of d) ++ (format_in d ++ 32 ∷ w) ≡ x ++ rest → IsEnd rest → Heads Leaderboard w
  heads-board none x w rest l (inl h) e end =
      let mark = one-is 35 h.front h.v h.of_first in
      let whole : head_text 76 (id_of d) ++ (format_in d ++ 32 ∷ w) ≡ 35 ∷ (h.behind ++ rest) =
      e ∙ ap (λ t. t ++ rest) (h.parts ∙ ap (λ t. t ++ h.behind) mark) in
      absurd (let wrong : ◌≡◌ {A = ℕ} 76 35 = ap (λ t. get_or t 0 0) whole in omega (arith, wrong))
  heads-board none x w rest l (inr (inl h)) e end =
      let front : h.front ≡ 65 ∷ h.of_first.behind =
      h.of_first.parts ∙ ap (λ t. t ++ h.of_first.behind) (one-is 65 h.of_first.front h.of_first.v h.of_first.of_first)
      in
      let whole : head_text 76 (id_of d) ++ (format_in d ++ 32 ∷ w) ≡ 65 ∷ ((h.of_first.behind ++ h.behind) ++ rest) =
      e ∙ ap (λ t. t ++ rest) (h.parts ∙ ap (λ t. t ++ h.behind) front) in
      absurd (let wrong : ◌≡◌ {A = ℕ} 76 65 = ap (λ t. get_or t 0 0) whole in omega (arith, wrong))
  heads-board none x w rest l (inr (inr (inl h))) e end =
      let whole : head_text 76 (id_of d) ++ (format_in d ++ 32 ∷ w) ≡ h.front ++ (h.behind ++ rest) =
      e ∙ ap (λ t. t ++ rest) h.parts ∙ append_assoc h.front h.behind rest in
      let p = head-once 76 (id_of d) (format_in d ++ 32 ∷ w) h.front (h.behind ++ rest) h.v (id-fits d) whole h.of_first
      in
      let f = h.of_next in
      let s = f.of_next in
      let b = s.of_next in
      let space : s.front ≡ 32 ∷ [] = one-is 32 s.front s.v s.of_first in
      let behind : f.front ++ 32 ∷ (s.behind ++ rest) ≡ h.behind ++ rest =
      sym (ap (λ t. t ++ rest) (f.parts ∙ ap (λ t. f.front ++ t) (s.parts ∙ ap (λ t. t ++ s.behind) space))
      ∙ append_assoc f.front (32 ∷ s.behind) rest) in
      let word = word-once f.front (format_in d) (s.behind ++ rest) w (format-word f.front f.v f.of_first)
      (format-word (format_in d) (format_of_name (format_in d)) (whole-board d none).named) (behind ∙ p.1) in
      let text : s.behind ≡ b.front = b.parts ∙ ap (λ y. b.front ++ y) b.of_next.empty ∙ append-nil b.front in
      record {
        text = s.behind;
        rest = rest;
        parts = sym word.1;
        spelled =
            (b.v, subst (λ y. board y b.v) (sym text) b.of_first);
        ends = end;
      }
  heads-board none x w rest l (inr (inr (inr h))) e end =
      absurd (some-end 76 _ rest (inner-letter 76 (lit< tt)) end (e ∙ ap (λ t. t ++ rest) h.empty))

-- what stands before the text of an item, in words
before-parts : (d : Data) (w : List ℕ)
    → before_text Leaderboard d ++ w ≡ head_text 76 (id_of d) ++ (format_in d ++ 32 ∷ w)
before-parts d w = let head = head_text 76 (id_of d) in
    append_assoc (head ++ format_in d) (codes " ") w ∙ append_assoc head (format_in d) (32 ∷ w)

heads-line : (kind : ItemKind) (d : Data) → fault_of kind d ≡ None → (x w rest : List ℕ) (l : Line) → line x l
    → before_text kind d ++ w ≡ x ++ rest → IsEnd rest → Heads kind w
heads-line Achievement d none x w rest l h e end = heads-achievement d x w rest l h e end
heads-line Leaderboard d none x w rest l h e end =
    heads-board d none x w rest l h (sym (before-parts d w) ∙ e) end

-- the first line of a file that begins so
heads-front : (kind : ItemKind) (d : Data) → fault_of kind d ≡ None → (w : List ℕ) (ended : List Line) (tail : Tail)
    → Front ended tail (before_text kind d ++ w) → Heads kind w
heads-front kind d none w [] (Ends l) h =
    heads-line kind d none (before_text kind d ++ w) w [] l h (sym (append-nil (before_text kind d ++ w))) (at_end refl)
heads-front kind d none w [] Letter h =
    absurd (not-letter kind 80 (begins-so kind d w [] 80 h) (λ x. omega (arith, x)) (λ x. omega (arith, x)))
heads-front kind d none w [] (Opens behind) (inl h) =
    absurd (not-letter kind 80 (begins-so kind d w (10 ∷ behind) 80 h) (λ x. omega (arith, x)) (λ x. omega (arith, x)))
heads-front kind d none w [] (Opens behind) (inr h) =
    absurd (not-letter kind 80 (begins-so kind d w (13 ∷ 10 ∷ behind) 80 h) (λ x. omega (arith, x))
    (λ x. omega (arith, x)))
heads-front kind d none w (l ∷ ended) tail h = elim (cut h.front l h.wants h.of_row) [
  | inl c ↦ heads-line kind d none h.front w (10 ∷ h.behind) l c.0 h.parts (at_byte 10 h.behind refl feed)
  | inr c ↦ heads-line kind d none c.0 w (13 ∷ 10 ∷ h.behind) l c.1
      (h.parts ∙ ap (λ x. x ++ 10 ∷ h.behind) c.3 ∙ append_assoc c.0 (codes "\r") (10 ∷ h.behind))
      (at_byte 13 (10 ∷ h.behind) refl returned)
]

heads-file : (kind : ItemKind) (d : Data) → fault_of kind d ≡ None → (w : List ℕ) (contents : FileContents)
    → set_file (before_text kind d ++ w) contents → Heads kind w
heads-file kind d none w contents h =
    let f = front-of_file (before_text kind d ++ w) contents h in heads-front kind d none w f.ended f.tail f.spelled

-- ---- bad texts

-- a text that is bad at a place
record BadText (kind : ItemKind) (text : List ℕ) (at : ℕ) : Type 0 where
  within : at ≤ length text
  more : List ℕ
  viable : IsItemPlace kind (take at text ++ more) None
  longest : (m : ℕ) → at < m → m ≤ length text → (others : List ℕ) → IsItemPlace kind (take m text ++ others) None → ⊥
  outside : IsItemPlace kind text None → ⊥

bad-text : (kind : ItemKind) (text : List ℕ) (at : ℕ) → IsItemPlace kind text (Some at) → BadText kind text at
bad-text Achievement text at o = record {
  within = o.place.within;
  more = o.place.viable.more;
  viable = (o.place.viable.v, o.place.viable.whole);
  longest = λ m lt le others h. o.place.longest m lt le (viable-by others h.0 h.1);
  outside = λ h. o.outside h.0 h.1;
}
bad-text Leaderboard text at o = record {
  within = o.place.within;
  more = o.place.viable.more;
  viable = (o.place.viable.v, o.place.viable.whole);
  longest = λ m lt le others h. o.place.longest m lt le (viable-by others h.0 h.1);
  outside = λ h. o.outside h.0 h.1;
}

-- no text of an item has an end of a line in it
inner-text : (kind : ItemKind) (text : List ℕ) → IsItemPlace kind text None → OfEach Inner text
inner-text Achievement text h = inner-trigger.each text h.0 h.1
inner-text Leaderboard text h = inner-board.each text h.0 h.1

inner-take : (n : ℕ) (text : List ℕ) → OfEach Inner text → OfEach Inner (take n text)
inner-take zero text all = tt
inner-take (suc n) [] all = tt
inner-take (suc n) (c ∷ text) all = (all.0, inner-take n text all.1)

inner-at : (front : List ℕ) (c : ℕ) (behind : List ℕ) → OfEach Inner (front ++ c ∷ behind) → Inner c
inner-at [] c behind all = all.0
inner-at (x ∷ front) c behind all = inner-at front c behind all.1

module _ (kind : ItemKind) (text : List ℕ) (at : ℕ) (bad : BadText kind text at) (inner : OfEach Inner text) where
  -- no text of an item begins with more than stands before the place
  no-more : (k : ℕ) → at < k → k ≤ length text → (more : List ℕ) → Heads kind (take k text ++ more) → ⊥
  no-more k lt le more h =
      let r = inner-front (take k text) more h.text h.rest (inner-take k text inner) h.ends h.parts in
      bad.longest k lt le r.0 (subst (λ t. IsItemPlace kind t None) r.1 h.spelled)

  -- and none is the text with an end behind it
  no-whole : (more : List ℕ) → Heads kind ((text ++ codes "\n") ++ more) → ⊥
  no-whole more h =
      let parts : text ++ 10 ∷ more ≡ h.text ++ h.rest = sym (append_assoc text (codes "\n") more) ∙ h.parts in
      let r = inner-front text (10 ∷ more) h.text h.rest inner h.ends parts in
      cases r.0 r.1 (same-behind text (10 ∷ more) (r.0 ++ h.rest)
      (parts ∙ ap (λ t. t ++ h.rest) r.1 ∙ append_assoc text r.0 h.rest)) where
        same-behind : (a x y : List ℕ) → a ++ x ≡ a ++ y → x ≡ y
        same-behind [] x y e = e
        same-behind (c ∷ a) x y e = same-behind a x y (cc e)

        cases : (others : List ℕ) → h.text ≡ text ++ others → 10 ∷ more ≡ others ++ h.rest → ⊥
        cases [] is e = bad.outside (subst (λ t. IsItemPlace kind t None) (is ∙ append-nil text) h.spelled)
        cases (c ∷ others) is e =
            let byte : 10 ≡ c = ap (λ t. get_or t 0 0) e in
            feed (subst Inner (sym byte) (inner-at text c others
            (subst (OfEach Inner) is (inner-text kind h.text h.spelled))))

-- ---- lines

-- the line that an item would have with this text
spelled-line : (kind : ItemKind) (d : Data) → fault_of kind d ≡ None → (text : List ℕ) → IsItemPlace kind text None
    → (x : ItemContents) × line (before_text kind d ++ text) (Some x)
spelled-line Achievement d none text h = (
  Unlocks (id_of d) h.0,
  inr (inl (then-spelled (head_text 65 (id_of d)) text (id_of d) refl (head-spelled 65 (id_of d)
      refl (id-fits d)) (changed trigger (λ t. Some (Unlocks (id_of d) t)) text h.0 h.1))),
)
spelled-line Leaderboard d none text h = let format = format_of_name (format_in d) in (
  Ranks (id_of d) format h.0,
  subst (λ t. line t (Some (Ranks (id_of d) format h.0))) (sym (before-parts d text))
      (inr (inr (inl (then-spelled (head_text 76 (id_of d)) (format_in d ++ 32 ∷ text)
      (id_of d) refl (head-spelled 76 (id_of d) refl (id-fits d))
      (then-spelled (format_in d) (32 ∷ text) format refl ((whole-board d none).named)
      (then-spelled (codes " ") text tt refl (one-byte 32 refl)
      (changed board (λ b. Some (Ranks (id_of d) format b)) text h.0 h.1))))))),
)

line-parts : (kind : ItemKind) (d : Data) → line_of kind d ≡ before_text kind d ++ (item_text kind d ++ codes "\n")
line-parts Achievement d = append_assoc (before_text Achievement d) (item_text Achievement d) (codes "\n")
line-parts Leaderboard d = append_assoc (before_text Leaderboard d) (item_text Leaderboard d) (codes "\n")

inner-item : (kind : ItemKind) (d : Data) → fault_of kind d ≡ None → OfEach Inner (item_text kind d)
inner-item Achievement d none = inner-line (item_text Achievement d) (whole-achievement d none)
inner-item Leaderboard d none = inner-line (item_text Leaderboard d) (whole-board d none).ended

module _ (kind : ItemKind) (d : Data) (none : fault_of kind d ≡ None) (at : ℕ)
    (bad : BadText kind (item_text kind d) at) where
  no-heads : (more : List ℕ) → Heads kind ((item_text kind d ++ codes "\n") ++ more) → ⊥
  no-heads = no-whole kind (item_text kind d) at bad (inner-item kind d none)

  alone : (w : List ℕ) → Heads kind w → Heads kind (w ++ [])
  alone w h = subst (Heads kind) (sym (append-nil w)) h

  no-file : (contents : FileContents) → set_file (before_text kind d ++ (item_text kind d ++ codes "\n")) contents → ⊥
  no-file contents h = no-heads [] (alone _ (heads-file kind d none (item_text kind d ++ codes "\n") contents h))

  no-script : (front text : List ℕ) → HasScript (before_text kind d ++ (item_text kind d ++ codes "\n")) front text → ⊥
  no-script front text h = elim (script-front _ front text h) [
    | inl x ↦ no-heads [] (alone _ (heads-front kind d none (item_text kind d ++ codes "\n") h.lines (Opens text) x))
    | inr x ↦ no-heads [] (alone _ (heads-front kind d none (item_text kind d ++ codes "\n") h.lines Letter x.1))
  ]

  viable-line : Viable set_file (before_text kind d ++ take at (item_text kind d))
  viable-line =
      let front = take at (item_text kind d) in
      let l = spelled-line kind d none (front ++ bad.more) bad.viable in
      let whole =
      file-of_lines (before_text kind d ++ (front ++ bad.more)) (Some l.0 ∷ [])
      (front-lines (before_text kind d ++ (front ++ bad.more)) [] (Some l.0) l.1) in
      viable-by bad.more (record { lines = Some l.0 ∷ []; script = None })
      (subst (λ t. set_file t (record { lines = Some l.0 ∷ []; script = None }))
      (sym (append_assoc (before_text kind d) front bad.more)) whole)

  longest-line : (k : ℕ) → at < k → k ≤ length (item_text kind d) + 1 → (more : List ℕ)
      → Heads kind (take k (item_text kind d ++ codes "\n") ++ more) → ⊥
  longest-line k lt le more h = elim (cases_lt (length (item_text kind d)) k) [
    | inl gt ↦
        let all : take k (item_text kind d ++ codes "\n") ≡ item_text kind d ++ codes "\n" =
        take_all k (item_text kind d ++ codes "\n") (omega (arith, length-append (item_text kind d) (codes "\n"))) in
        no-heads more (subst (λ t. Heads kind (t ++ more)) all h)
    | inr fits ↦
        no-more kind (item_text kind d) at bad (inner-item kind d none) k lt fits more
        (subst (λ t. Heads kind (t ++ more)) (take-append-le k (item_text kind d) (codes "\n") fits) h)
  ]

  not-viable : (m : ℕ) → length (before_text kind d) + at < m
      → m ≤ length (before_text kind d ++ (item_text kind d ++ codes "\n"))
      → Viable set_file (take m (before_text kind d ++ (item_text kind d ++ codes "\n"))) → ⊥
  not-viable m lt le viable =
      let front = before_text kind d in
      let behind = item_text kind d ++ codes "\n" in
      let k = m - length front in
      let is : m ≡ length front + k = omega arith in
      let cut : take m (front ++ behind) ≡ front ++ take k behind =
      ap (λ n. take n (front ++ behind)) is ∙ take-append-add front behind k in
      let file : set_file (front ++ (take k behind ++ viable.more)) viable.v =
      subst (λ t. set_file t viable.v) (ap (λ t. t ++ viable.more) cut
      ∙ append_assoc front (take k behind) viable.more) viable.whole in
      longest-line k (omega arith)
      (omega (arith, length-append front behind, length-append (item_text kind d) (codes "\n"))) viable.more
      (heads-file kind d none (take k behind ++ viable.more) viable.v file)

  outside-line : IsFileOutside (before_text kind d ++ (item_text kind d ++ codes "\n"))
      (length (before_text kind d) + at)
  outside-line = let behind = item_text kind d ++ codes "\n" in record {
    place = inr (record {
      no_script = no-script;
      bad = record {
        within = omega (
          arith,
          bad.within,
          length-append (before_text kind d) behind,
          length-append (item_text kind d)
              (codes "\n"),
        );
        viable = subst (Viable set_file)
            (sym (take-append-add (before_text kind d) behind at
            ∙ ap (λ t. before_text kind d ++ t) (take-append-le at (item_text kind d) (codes "\n") bad.within)))
            viable-line;
        longest = not-viable;
      };
    });
    outside = no-file;
  }

-- the line of an item with a bad text has its first bad place there
bad-line : (kind : ItemKind) (d : Data) (at : ℕ) → fault_of kind d ≡ None
    → IsItemPlace kind (item_text kind d) (Some at)
    → IsFileOutside (line_of kind d) (length (before_text kind d) + at)
bad-line kind d at none place =
    subst (λ t. IsFileOutside t (length (before_text kind d) + at)) (sym (line-parts kind d))
    (outside-line kind d none at (bad-text kind (item_text kind d) at place))

-- ---- each text is good or bad

place-of : {V : Type 0} (form : Form ℕ V) (text : List ℕ) (outcome : Outcome ℕ V) → Reads form text outcome
    → (at : Option ℕ) × IsPlace form text at
place-of form text (Ok (v, [])) r = (None, (v, whole-spelled v r))
place-of form text (Ok (v, c ∷ rest)) r = (
  Some (length text - length (c ∷ rest)),
  whole-outside (Ok (v, c ∷ rest)) r
      (λ w e. absurd (let left : c ∷ rest ≡ [] = ap rest_of e in cc left)) (length text - length (c ∷ rest)) refl,
)
place-of form text (Err rest) r = (
  Some (length text - length rest),
  whole-outside (Err rest) r (λ w e. absurd (cc e)) (length text - length rest)
      refl,
)

known-place : (kind : ItemKind) (text : List ℕ) → (at : Option ℕ) × IsItemPlace kind text at
known-place Achievement text = place-of trigger text (trigger_at text) (reads-trigger text)
known-place Leaderboard text = place-of board text (board_at text) (reads-board text)

-- a good text has a line that is a set file
good-line : (kind : ItemKind) (d : Data) → fault_of kind d ≡ None → IsItemPlace kind (item_text kind d) None
    → (contents : FileContents) × set_file (line_of kind d) contents
good-line kind d none place =
    let s = item-spelled kind d none place in
    let all : many ended_line (line_of kind d) (Some s.item ∷ []) = record {
      front = line_of kind d;
      behind = [];
      parts = sym (append-nil (line_of kind d));
      of_first = s.spelled;
      of_next = refl;
    } in
    let lines = Some s.item ∷ None ∷ [] in
    let file =
    file-of_lines (line_of kind d ++ []) lines
    (front-lines (line_of kind d ++ []) (Some s.item ∷ []) None
    (ended-front (Ends None) (Some s.item ∷ []) (line_of kind d) all [] empty-line)) in (
      record { lines = lines; script = None },
      subst (λ t. set_file t (record { lines = lines; script = None })) (append-nil (line_of kind d)) file,
    )

line-bad : (kind : ItemKind) (d : Data) (at : ℕ) → fault_of kind d ≡ None
    → IsFileOutside (line_of kind d) (length (before_text kind d) + at) → IsItemPlace kind (item_text kind d) (Some at)
line-bad kind d at none o = let known = known-place kind (item_text kind d) in cases known.0 known.1 where
  cases : (found : Option ℕ) → IsItemPlace kind (item_text kind d) found → IsItemPlace kind (item_text kind d) (Some at)
  cases None place = absurd (let file = good-line kind d none place in o.outside file.0 file.1)
  cases (Some other) place =
      let same =
      one-file_place (line_of kind d) (length (before_text kind d) + other) (length (before_text kind d) + at)
      (bad-line kind d other none place) o in
      let is : other ≡ at = omega (arith, same) in subst (λ n. IsItemPlace kind (item_text kind d) (Some n)) is place

-- a text of an item is bad exactly where its line alone is no set file, at the same place
pub bad-lines : (kind : ItemKind) (d : Data) (at : ℕ) → fault_of kind d ≡ None
    → IsItemPlace kind (item_text kind d) (Some at)
    ↔ IsFileOutside (line_of kind d) (length (before_text kind d) + at)
bad-lines kind d at none = (bad-line kind d at none, line-bad kind d at none)
