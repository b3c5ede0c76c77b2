-- What texts of a set file spell: one item each, one script each, and no text spells both.
use Rattle.std.proofs.Common.{◌≡◌, ℕ, ◌==◌, not, false, inl, inr, ◌⊎◌, None, Some, List, [], ◌∷◌, ◌++◌, map, filter}
use Rattle.std.proofs.Common.{codes, refl, sym, ◌∙◌, ap, ap₂, subst, arith, append-nil}
use Rattle.ra_text.specs.Form.{Then}
use Rattle.ra_richpresence.specs.Cut.{begun, lines_of, content_of, uncommented, is_blank, is_nothing, before_trimmed}
use Rattle.ra_richpresence.specs.Cut.{trimmed, left_of, left_lines}
use Rattle.ra_richpresence.specs.Grammar.{ScriptParts, script_parts, script_of, SectionContents, section, many}
use Rattle.ra_richpresence.proofs.ScriptForms.{script-once}
use Rattle.ra_set.specs.Contents.{ItemContents}
use Rattle.ra_set.specs.Grammar.{Line, line, head, set_file}
use Rattle.ra_set.specs.Names.{IsItemText}
use Rattle.ra_set.proofs.FileLemmas.{file-once}
use Rattle.ra_set.proofs.FrontLemmas.{file-of_lines}
use Rattle.ra_set.proofs.RowLines.{one-is}
use Rattle.ra_text.proofs.Spelled.{then-spelled, none-spelled}

-- ---- one text, one item

line_of_item : (text : List ℕ) (item : ItemContents) → IsItemText text item → line text (Some item)
line_of_item text item (inl achievement) = inr (inl achievement)
line_of_item text item (inr board) = inr (inr (inl board))

-- the text alone is a file
alone : (text : List ℕ) (l : Line) → line text l → set_file text (record { lines = l ∷ []; script = None })
alone text l spelled = file-of_lines text (l ∷ []) (then-spelled [] text [] refl refl
    (then-spelled text [] l (sym (append-nil text)) spelled none-spelled))

pub one_item : (text : List ℕ) (x y : ItemContents) → IsItemText text x → IsItemText text y → x ≡ y
one_item text x y p q =
    let files = file-once text (record { lines = Some x ∷ []; script = None })
    (record { lines = Some y ∷ []; script = None }) (alone text (Some x) (line_of_item text x p))
    (alone text (Some y) (line_of_item text y q)) in
    let lines : ◌≡◌ {A = List Line} (Some x ∷ []) (Some y ∷ []) = ap (λ c. c.lines) files in
    let items : ◌≡◌ {A = Line} (Some x) (Some y) = cc lines in
    cc items

pub one_script : (text : List ℕ) (p q : ScriptParts) → script_parts text p → script_parts text q
    → script_of p ≡ script_of q
one_script text p q a b = script-once text (script_of p) (script_of q)
    (record { parts = p; spelled = a; made = refl }) (record { parts = q; spelled = b; made = refl })

-- ---- the line of an item begins with a letter and a space

record BeginsWith (letter : ℕ) (text : List ℕ) : Type 0 where
  pub rest : List ℕ
  pub is : text ≡ letter ∷ 32 ∷ rest

head_begins : (letter : ℕ) (text : List ℕ) (id : ℕ) → head letter text id → BeginsWith letter text
head_begins letter text id h = record {
  rest = h.of_next.behind;
  is = h.parts ∙ ap₂ (λ a b. a ++ b) (one-is letter h.front h.v h.of_first) (h.of_next.parts
      ∙ ap (λ a. a ++ h.of_next.behind) (one-is 32 h.of_next.front h.of_next.v h.of_next.of_first));
}

behind_head : {V : Type 0} (letter : ℕ) (next : ℕ → List ℕ → V → Type 0) (text : List ℕ) (v : V)
    → Then (head letter) next text v → BeginsWith letter text
behind_head letter next text v h =
    let b : BeginsWith letter h.front = head_begins letter h.front h.v h.of_first in
    record { rest = b.rest ++ h.behind; is = h.parts ∙ ap (λ a. a ++ h.behind) b.is }

item_begins : (text : List ℕ) (item : ItemContents) → IsItemText text item → BeginsWith 65 text ⊎ BeginsWith 76 text
item_begins text item (inl achievement) = inl (behind_head 65 _ text (Some item) achievement)
item_begins text item (inr board) = inr (behind_head 76 _ text (Some item) board)

-- ---- what is left of such a line

-- the byte is no blank, ends no line and begins no comment
record IsPlain (c : ℕ) : Type 0 where
  pub feed : (c == 10) ≡ false
  pub return : (c == 13) ≡ false
  pub slash : (c == 47) ≡ false

content_kept : (c : ℕ) → IsPlain c → (l : List ℕ) → content_of (c ∷ l) ≡ c ∷ content_of l
content_kept c plain [] = rw plain.feed refl
content_kept c plain (x ∷ []) = rw plain.return refl
content_kept c plain (x ∷ y ∷ l) = refl

uncommented_kept : (c : ℕ) → IsPlain c → (l : List ℕ) → uncommented (c ∷ l) ≡ c ∷ uncommented l
uncommented_kept c plain l = rw plain.slash refl

-- the first line that is left begins with the letter, and goes on with a space if it goes on
record LeftFirst (c : ℕ) (lines : List (List ℕ)) : Type 0 where
  pub trimmed_rest : List ℕ
  pub others : List (List ℕ)
  pub is : lines ≡ (c ∷ before_trimmed 32 trimmed_rest) ∷ others

space_plain : IsPlain 32
space_plain = record { feed = refl; return = refl; slash = refl }

left_so : (c : ℕ) → IsPlain c → is_blank c ≡ false → (l : List ℕ) → left_of
    (content_of (c ∷ 32 ∷ l)) ≡ c ∷ before_trimmed 32 (trimmed (uncommented (content_of l)))
left_so c plain blank l =
    ap left_of (content_kept c plain (32 ∷ l) ∙ ap (λ x. c ∷ x) (content_kept 32 space_plain l))
    ∙ ap trimmed (uncommented_kept c plain (32 ∷ content_of l)
    ∙ ap (λ x. c ∷ x) (uncommented_kept 32 space_plain (content_of l)))
    ∙ rw blank refl

left_from : (c : ℕ) → IsPlain c → is_blank c ≡ false → (lines : List (List ℕ)) → LeftFirst c
    (filter (λ l. not (is_nothing l)) (map left_of (map content_of (begun c (begun 32 lines)))))
left_from c plain blank [] = record {
  trimmed_rest = trimmed (uncommented (content_of []));
  others = [];
  is = rw (left_so c plain blank []) refl;
}
left_from c plain blank (l ∷ lines) = record {
  trimmed_rest = trimmed (uncommented (content_of l));
  others = filter (λ l. not (is_nothing l)) (map left_of (map content_of lines));
  is = rw (left_so c plain blank l) refl;
}

left_first : (c : ℕ) → IsPlain c → is_blank c ≡ false → (rest : List ℕ) → LeftFirst c (left_lines (c ∷ 32 ∷ rest))
left_first c plain blank rest =
    let found : LeftFirst c (filter (λ l. not (is_nothing l)) (map left_of (map content_of
    (begun c (begun 32 (lines_of rest)))))) = left_from c plain blank (lines_of rest) in
    record { trimmed_rest = found.trimmed_rest; others = found.others; is = rw plain.feed found.is }

-- ---- the first line of a script

-- lines that begin with this word
record Opens (word : List ℕ) (lines : List (List ℕ)) : Type 0 where
  pub behind : List ℕ
  pub others : List (List ℕ)
  pub is : lines ≡ (word ++ behind) ∷ others

opens_more : (word : List ℕ) (lines front behind : List (List ℕ)) → lines ≡ front ++ behind
    → Opens word front → Opens word lines
opens_more word lines front behind parts o =
    record { behind = o.behind; others = o.others ++ behind; is = parts ∙ ap (λ x. x ++ behind) o.is }

section_opens : (lines : List (List ℕ)) (s : SectionContents) → section lines s
    → Opens (codes "Lookup:") lines ⊎ Opens (codes "Format:") lines
section_opens lines s (inl lookup) =
    inl (opens_more (codes "Lookup:") lines lookup.front lookup.behind lookup.parts (record {
      behind = lookup.of_first.of_form.behind;
      others = [];
      is = lookup.of_first.alone ∙ ap (λ l. l ∷ []) (lookup.of_first.of_form.parts
          ∙ ap (λ a. a ++ lookup.of_first.of_form.behind) lookup.of_first.of_form.of_first.is);
    }))
section_opens lines s (inr format) =
    inr (opens_more (codes "Format:") lines format.front format.behind format.parts (record {
      behind = format.of_first.of_form.behind;
      others = [];
      is = format.of_first.alone ∙ ap (λ l. l ∷ []) (format.of_first.of_form.parts
          ∙ ap (λ a. a ++ format.of_first.of_form.behind) format.of_first.of_form.of_first.is);
    }))

data OpensAny (lines : List (List ℕ)) : Type 0 where
  looks : Opens (codes "Lookup:") lines → OpensAny lines
  formats : Opens (codes "Format:") lines → OpensAny lines
  displays : Opens (codes "Display:") lines → OpensAny lines

sections_open : (lines front behind : List (List ℕ)) (ss : List SectionContents) → many section
    front ss → lines ≡ front ++ behind → Opens (codes "Display:") behind → OpensAny lines
sections_open lines front behind [] none parts shown =
    displays (record
    { behind = shown.behind; others = shown.others; is = parts ∙ ap (λ f. f ++ behind) none ∙ shown.is })
sections_open lines front behind (s ∷ ss) first parts shown =
    elim (section_opens first.front s first.of_item) [
      | inl o ↦ looks (opens_more (codes "Lookup:") lines front behind parts
          (opens_more (codes "Lookup:") front first.front first.behind first.parts o))
      | inr o ↦ formats (opens_more (codes "Format:") lines front behind parts
          (opens_more (codes "Format:") front first.front first.behind first.parts o))
    ]

script_opens : (text : List ℕ) (parts : ScriptParts) → script_parts text parts → OpensAny (left_lines text)
script_opens text parts h =
    let display = h.of_next in
    let shown = display.of_first in
    let word : Opens (codes "Display:") shown.front = record {
      behind = [];
      others = [];
      is = shown.of_first.alone ∙ ap (λ l. l ∷ []) shown.of_first.of_form.is;
    } in
    sections_open (left_lines text) h.front h.behind h.v h.of_first h.parts
    (opens_more (codes "Display:") h.behind display.front display.behind display.parts
    (opens_more (codes "Display:") display.front shown.front shown.behind shown.parts word))

-- ---- no text spells both

no_lookup : (c : ℕ) (rest behind : List ℕ) (others more : List (List ℕ)) → ◌≡◌ {A = List (List ℕ)}
    ((c ∷ before_trimmed 32 rest) ∷ others) ((76 ∷ 111 ∷ behind) ∷ more) → ⊥
no_lookup c [] behind others more e = absurd cc
no_lookup c (x ∷ rest) behind others more e = let bad : ◌≡◌ {A = ℕ} 32 111 = cc in absurd (omega (arith, bad))

first_byte : (c d : ℕ) (xs ys : List ℕ) (others more : List (List ℕ)) → (c ∷ xs) ∷ others ≡ (d ∷ ys) ∷ more → c ≡ d
first_byte c d xs ys others more e = cc

no_both : (c : ℕ) (lines : List (List ℕ)) → (c ≡ 70 → ⊥) → (c ≡ 68 → ⊥) → LeftFirst c lines → OpensAny lines → ⊥
no_both c lines not_f not_d left (looks o) = no_lookup c left.trimmed_rest _ left.others o.others (sym left.is ∙ o.is)
no_both c lines not_f not_d left (formats o) = not_f (first_byte c 70 _ _ left.others o.others (sym left.is ∙ o.is))
no_both c lines not_f not_d left (displays o) = not_d (first_byte c 68 _ _ left.others o.others (sym left.is ∙ o.is))

pub no_script_item : (text : List ℕ) (item : ItemContents) (parts : ScriptParts)
    → IsItemText text item → script_parts text parts → ⊥
no_script_item text item parts is spelled = elim (item_begins text item is) [
  | inl b ↦ no_both 65 (left_lines (65 ∷ 32 ∷ b.rest)) (λ e. omega (arith, e)) (λ e. omega
      (arith, e)) (left_first 65 (record { feed = refl; return = refl; slash = refl }) refl b.rest)
      (script_opens (65 ∷ 32 ∷ b.rest) parts (subst (λ t. script_parts t parts) b.is spelled))
  | inr b ↦ no_both 76 (left_lines (76 ∷ 32 ∷ b.rest)) (λ e. omega (arith, e)) (λ e. omega
      (arith, e)) (left_first 76 (record { feed = refl; return = refl; slash = refl }) refl b.rest)
      (script_opens (76 ∷ 32 ∷ b.rest) parts (subst (λ t. script_parts t parts) b.is spelled))
]
