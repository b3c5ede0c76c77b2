-- The lines of a set file that a document gives, cut where its items stand.
use Rattle.std.proofs.Common.{◌≡◌, ◌∙◌, inl, inr, ℕ, ◌+◌, ◌*◌, ◌<◌, ◌^◌, ◌==◌, ◌||◌, Bool, true, false, List, [], ◌∷◌}
use Rattle.std.proofs.Common.{◌++◌, map, filter, get_or, Option, Some, None, refl, sym, ap, subst, codes, arith}
use Rattle.std.proofs.Common.{append-nil, append_assoc, decimal}
use Rattle.std.specs.Cmp.{nat_eq_equiv}
use Rattle.std.specs.List.{flat_map}
use Rattle.serde_json.specs.Data.{Data}
use Rattle.ra_condition.specs.Grammar.{trigger}
use Rattle.ra_leaderboard.specs.Grammar.{board}
use Rattle.ra_value_format.specs.declared.format.Format.{Format}
use Rattle.ra_value_format.specs.Formats.{format_of_name}
use Rattle.ra_set.specs.Contents.{ItemContents, Unlocks, Ranks}
use Rattle.ra_set.specs.Grammar.{ExactId, Line, format_name, head}
use Rattle.ra_set.specs.Names.{IsItemText}
use Rattle.ra_set.specs.Reading.{id_at}
use Rattle.ra_set.specs.Runs.{run_of}
use Rattle.ra_set.specs.Texts.{cut_file, is_item, is_script, item_texts, script_text, text_of}
use Rattle.ra_set.proofs.CutLemmas.{cut-more, cut-script}
use Rattle.ra_set.proofs.IdReaders.{reader-id}
use Rattle.ra_set.proofs.ItemTexts.{first-ended, inner-stays}
use Rattle.ra_set.proofs.LineBytes.{Feedless, Inner, each-append, each-wider, inner-head}
use Rattle.ra_set.proofs.LineReaders.{in_name}
use Rattle.ra_set.proofs.RowLines.{one-is}
use Rattle.ra_set.proofs.SetSpelling.{head-spelled, head_text, id-spelled}
use Rattle.ra_text.specs.Number.{Digits, digits}
use Rattle.ra_text.specs.Table.{lookup}
use Rattle.ra_text.proofs.Places.{spelled-once}
use Rattle.ra_text.proofs.Readers.{reads-of}
use Rattle.ra_text.proofs.Tables.{In, OfEach, keys_of}
use Rattle.ra_patch.specs.declared.item_kind.ItemKind.{ItemKind}
use Rattle.ra_patch.specs.declared.item_kind.ItemKind.TheVariants.{Achievement, Leaderboard}
use Rattle.ra_patch.specs.Faults.{ends_line, ends_word}
use Rattle.ra_patch.specs.Leaving.{IsItemPlace, fault_of, id_of, item_text, line_of}
use Rattle.ra_patch.proofs.LineLemmas.{IsOf, board-parts, format_in, id-fits, whole-achievement, whole-board}
use Rattle.ra_patch.specs.Lines.{presence_lines}

-- ---- words

-- no space
abbrev pub NotSpace : ℕ → Type 0
NotSpace c = c ≡ 32 → ⊥

-- two words before a space are one
pub word-once : (a b x y : List ℕ) → OfEach NotSpace a → OfEach NotSpace b → a ++ 32 ∷ x
    ≡ b ++ 32 ∷ y → (a ≡ b) × (x ≡ y)
word-once [] [] x y p q e = (refl, cc e)
word-once [] (c ∷ b) x y p q e = absurd (q.0 (cc e))
word-once (c ∷ a) [] x y p q e = absurd (p.0 (cc e))
word-once (c ∷ a) (d ∷ b) x y p q e =
    let first : c ≡ d = cc e in
    let others : a ++ 32 ∷ x ≡ b ++ 32 ∷ y = cc e in
    let r = word-once a b x y p.1 q.1 others in
    (cc (first, r.0), r.1)

listed-not_space : {V : Type 0} (table : ℕ → Option V) → table 32 ≡ None → (c : ℕ) (v : V) → table c ≡ Some v
    → NotSpace c
listed-not_space table none c v here is = let there : table c ≡ None = ap table is ∙ none in cc (here, there)

digits-word : (so_far : ℕ) (text : List ℕ) (n : ℕ) → Digits (lookup digits) 10 so_far text n → OfEach NotSpace text
digits-word so_far [] n h = tt
digits-word so_far (c ∷ text) n h =
    (listed-not_space (lookup digits) refl c h.0 h.1, digits-word (so_far * 10 + h.0) text n h.2)

-- an id is a word
id-word : (text : List ℕ) (n : ℕ) → ExactId text n → OfEach NotSpace text
id-word text n h = let d = h.number in
    subst (OfEach NotSpace) (sym d.parts)
    (each-append NotSpace d.front d.behind
    (subst (OfEach NotSpace) (sym d.of_first.alone)
    (listed-not_space (lookup digits) refl d.of_first.symbol d.v d.of_first.listed, tt))
    (digits-word d.v d.behind n d.of_next))

run-word : (text vs : List ℕ) → run_of in_name text vs → OfEach NotSpace text
run-word text [] h = subst (OfEach NotSpace) (sym h.0) tt
run-word text (v ∷ vs) h = subst (OfEach NotSpace) (sym h.parts) (
  listed-not_space in_name refl h.symbol h.tag h.separated,
  each-append NotSpace h.front h.behind (subst (OfEach NotSpace) (sym h.of_item.empty) tt)
      (run-word h.behind vs h.of_others),
)

-- the name of a format is a word
pub format-word : (text : List ℕ) (format : Format) → format_name text format → OfEach NotSpace text
format-word text format h = subst (OfEach NotSpace) (sym h.parts)
    (each-append NotSpace h.front h.behind
    (subst (OfEach NotSpace) (sym h.of_first.alone)
    (listed-not_space in_name refl h.of_first.symbol h.v h.of_first.listed, tt))
    (subst (OfEach NotSpace) (sym (h.of_next.parts ∙ ap (λ x. h.of_next.front ++ x) h.of_next.of_next.empty
    ∙ append-nil h.of_next.front))
    (run-word h.of_next.front h.of_next.v h.of_next.of_first)))

-- ---- heads

-- the digits of the head of a line, and what stands around them
head-parts : (letter : ℕ) (front : List ℕ) (n : ℕ) → head letter front n
    → (ds : List ℕ) × (front ≡ letter ∷ (32 ∷ (ds ++ 32 ∷ []))) × ExactId ds n
head-parts letter front n h =
    let space = h.of_next in
    let id = space.of_next in
    let behind = id.of_next in
    let last : id.behind ≡ 32 ∷ [] =
    behind.parts ∙ ap (λ x. behind.front ++ x) behind.of_next.empty ∙ append-nil behind.front
    ∙ one-is 32 behind.front behind.v behind.of_first in
    let same : n ≡ id.v = behind.of_next.is in (
      id.front,
      h.parts ∙ ap (λ x. x ++ h.behind) (one-is letter h.front h.v h.of_first)
          ∙ ap (λ x. letter ∷ x) (space.parts
          ∙ ap (λ x. x ++ space.behind) (one-is 32 space.front space.v space.of_first)
          ∙ ap (λ x. 32 ∷ x) (id.parts ∙ ap (λ x. id.front ++ x) last)),
      subst (ExactId id.front) (sym same) id.of_first,
    )

id-once : (text : List ℕ) (n m : ℕ) → ExactId text n → ExactId text m → n ≡ m
id-once = spelled-once ExactId id_at (reads-of ExactId id_at (In (keys_of digits)) reader-id)

-- a text that begins with the digits of an id has this id, and the rest stands behind
pub head-once : (letter id : ℕ) (rest front behind : List ℕ) (n : ℕ) → id < 2 ^ 32
    → head_text letter id ++ rest ≡ front ++ behind
    → head letter front n → (n ≡ id) × (behind ≡ rest)
head-once letter id rest front behind n small e h =
    let p = head-parts letter front n h in
    let whole : letter ∷ (32 ∷ ((decimal id ++ 32 ∷ []) ++ rest)) ≡ letter ∷ (32 ∷ ((p.0 ++ 32 ∷ []) ++ behind)) =
    e ∙ ap (λ x. x ++ behind) p.1 in
    let inner : (decimal id ++ 32 ∷ []) ++ rest ≡ (p.0 ++ 32 ∷ []) ++ behind = cc whole in
    let cut = word-once (decimal id) p.0 rest behind (id-word (decimal id) id (id-spelled id small)) (id-word p.0 n p.2)
    (sym (append_assoc (decimal id) (32 ∷ []) rest) ∙ inner ∙ append_assoc p.0 (32 ∷ []) behind) in
    (id-once p.0 n id p.2 (subst (λ t. ExactId t id) cut.0 (id-spelled id small)), sym cut.1)

-- ---- items

-- the letters of two kinds are apart
letters-apart : (x y : List ℕ) → 65 ∷ x ≡ 76 ∷ y → ⊥
letters-apart x y e = let same : ◌≡◌ {A = ℕ} 65 76 = ap (λ t. get_or t 0 0) e in omega (arith, same)

-- the line of an item without its end
abbrev pub bare_line : ItemKind → Data → List ℕ
bare_line Achievement d = head_text 65 (id_of d) ++ item_text Achievement d
bare_line Leaderboard d = head_text 76 (id_of d) ++ (format_in d ++ 32 ∷ item_text Leaderboard d)

pub bare-ended : (kind : ItemKind) (d : Data) → line_of kind d ≡ bare_line kind d ++ codes "\n"
bare-ended Achievement d = refl
bare-ended Leaderboard d = board-parts d

-- what a line of an item spells is of its kind and has its id, and its text is spelled
pub record SpellsText (kind : ItemKind) (d : Data) (item : ItemContents) : Type 0 where
  pub of_kind : IsOf kind (id_of d) item
  pub text : IsItemPlace kind (item_text kind d) None

achievement-text : (d : Data) (item : ItemContents) → IsItemText (bare_line Achievement d) item
    → SpellsText Achievement d item
achievement-text d item (inl h) =
    let p = head-once 65 (id_of d) (item_text Achievement d) h.front h.behind h.v (id-fits d) h.parts h.of_first in
    let t = h.of_next in
    let text : t.front ≡ item_text Achievement d =
    sym (append-nil t.front) ∙ ap (λ x. t.front ++ x) (sym t.of_next.empty) ∙ sym t.parts ∙ p.1 in
    let is : ◌≡◌ {A = Line} (Some item) (Some (Unlocks h.v t.v)) = t.of_next.is in
    let same : Unlocks h.v t.v ≡ item = cc is in
    record {
      of_kind = subst (IsOf Achievement (id_of d)) same p.0;
      text =
          (t.v, subst (λ x. trigger x t.v) text t.of_first);
    }
achievement-text d item (inr h) = absurd (
    let p = head-parts 76 h.front h.v h.of_first in
    let e : 65 ∷ (32 ∷ ((decimal (id_of d) ++ 32 ∷ []) ++ item_text Achievement d))
    ≡ 76 ∷ (32 ∷ ((p.0 ++ 32 ∷ []) ++ h.behind)) =
    h.parts ∙ ap (λ x. x ++ h.behind) p.1 in
    letters-apart _ _ e)

board-text : (d : Data) (item : ItemContents) → format_name (format_in d) (format_of_name (format_in d))
    → IsItemText (bare_line Leaderboard d) item → SpellsText Leaderboard d item
board-text d item named (inl h) = absurd (
    let p = head-parts 65 h.front h.v h.of_first in
    let e : 76 ∷ (32 ∷ ((decimal (id_of d) ++ 32 ∷ []) ++ (format_in d ++ 32 ∷ item_text Leaderboard d)))
    ≡ 65 ∷ (32 ∷ ((p.0 ++ 32 ∷ []) ++ h.behind)) =
    h.parts ∙ ap (λ x. x ++ h.behind) p.1 in
    letters-apart _ _ (sym e))
board-text d item named (inr h) =
    let p = head-once 76 (id_of d) (format_in d ++ 32 ∷ item_text Leaderboard d) h.front h.behind h.v (id-fits d)
    h.parts h.of_first in
    let f = h.of_next in
    let s = f.of_next in
    let b = s.of_next in
    let space : s.front ≡ 32 ∷ [] = one-is 32 s.front s.v s.of_first in
    let cut : f.front ++ 32 ∷ s.behind ≡ format_in d ++ 32 ∷ item_text Leaderboard d =
    ap (λ x. f.front ++ (x ++ s.behind)) (sym space) ∙ ap (λ x. f.front ++ x) (sym s.parts) ∙ sym f.parts ∙ p.1 in
    let w = word-once f.front (format_in d) s.behind (item_text Leaderboard d) (format-word f.front f.v f.of_first)
    (format-word (format_in d) _ named) cut in
    let text : b.front ≡ item_text Leaderboard d =
    sym (append-nil b.front) ∙ ap (λ x. b.front ++ x) (sym b.of_next.empty) ∙ sym b.parts ∙ w.1 in
    let is : ◌≡◌ {A = Line} (Some item) (Some (Ranks h.v f.v b.v)) = b.of_next.is in
    let same : Ranks h.v f.v b.v ≡ item = cc is in
    record {
      of_kind = subst (IsOf Leaderboard (id_of d)) same p.0;
      text =
          (b.v, subst (λ x. board x b.v) text b.of_first);
    }

-- ---- bytes of lines

pub inner-line : (text : List ℕ) → ends_line text ≡ false → OfEach Inner text
inner-line [] e = tt
inner-line (c ∷ text) e =
    let p = either (c == 13) (c == 10) (ends_line text) e in
    ((other c 10 p.1, other c 13 p.0), inner-line text p.2) where
      either : (a b d : Bool) → ((a || b) || d) ≡ false → (a ≡ false) × (b ≡ false) × (d ≡ false)
      either true b d x = absurd (cc x)
      either false true d x = absurd (cc x)
      either false false d x = (refl, refl, x)

      other : (c n : ℕ) → (c == n) ≡ false → c ≡ n → ⊥
      other c n e is = let same : (c == c) ≡ true = nat_eq_equiv.refl c in cc (ap (λ k. c == k) is, same, e)

pub inner-word : (text : List ℕ) → ends_word text ≡ false → OfEach Inner text
inner-word text e = inner-line text (no-line text e) where
  fewer : (a b d : Bool) → ((a || b) || d) ≡ false → (b || d) ≡ false
  fewer true b d x = absurd (cc x)
  fewer false b d x = x

  no-line : (text : List ℕ) → ends_word text ≡ false → ends_line text ≡ false
  no-line [] e = refl
  no-line (c ∷ text) e =
      let p = split ((c == 32 || c == 13) || c == 10) (ends_word text) e in
      rw (fewer (c == 32) (c == 13) (c == 10) p.0) (no-line text p.1) where
        split : (a b : Bool) → (a || b) ≡ false → (a ≡ false) × (b ≡ false)
        split true b x = absurd (cc x)
        split false b x = (refl, x)

-- ---- the cut of a file

-- the text of the first line of a file, where it is one of an item
cut-line : (bare rest : List ℕ) → is_script (bare ++ 10 ∷ rest) ≡ false → is_item bare ≡ true → OfEach Inner bare
    → (item_texts (bare ++ 10 ∷ rest) ≡ bare ∷ item_texts rest) × (script_text (bare ++ 10 ∷ rest) ≡ script_text rest)
cut-line bare rest other item all =
    let first = first-ended bare rest (each-wider Inner Feedless (λ c both. both.0) bare all) in
    let cut : cut_file (bare ++ 10 ∷ rest) ≡ (bare ∷ (cut_file rest).0, (cut_file rest).1) =
    cut-more (bare ++ 10 ∷ rest) other rest (ap (λ f. f.rest) first)
    ∙ ap (λ f. (text_of f ∷ (cut_file rest).0, (cut_file rest).1)) first
    ∙ ap (λ t. (t ∷ (cut_file rest).0, (cut_file rest).1)) (inner-stays bare all) in
    (ap (λ f. filter is_item f.0) cut ∙ rw item refl, ap (λ f. f.1) cut)

-- what a file has, cut into texts of items and the text of a script
pub record HasTexts (file : List ℕ) (texts : List (List ℕ)) (script : Option (List ℕ)) : Type 0 where
  pub of_items : item_texts file ≡ texts
  pub of_script : script_text file ≡ script

with-line : (kind : ItemKind) (d : Data) (rest : List ℕ) (texts : List (List ℕ)) (script : Option (List ℕ))
    → OfEach Inner (bare_line kind d)
    → HasTexts rest texts script → HasTexts (line_of kind d ++ rest) (bare_line kind d ∷ texts) script
with-line kind d rest texts script all h =
    subst (λ t. HasTexts t (bare_line kind d ∷ texts) script)
    (sym (ap (λ x. x ++ rest) (bare-ended kind d) ∙ append_assoc (bare_line kind d) (codes "\n") rest))
    (let c = cut-line (bare_line kind d) rest (no-script kind) (an-item kind) all in
    record { of_items = c.0 ∙ ap (λ t. bare_line kind d ∷ t) h.of_items; of_script = c.1 ∙ h.of_script }) where
      no-script : (kind : ItemKind) → is_script (bare_line kind d ++ 10 ∷ rest) ≡ false
      no-script Achievement = refl
      no-script Leaderboard = refl

      an-item : (kind : ItemKind) → is_item (bare_line kind d) ≡ true
      an-item Achievement = refl
      an-item Leaderboard = refl

-- no line of these items has an end within
abbrev pub EachInner : ItemKind → List Data → Type 0
EachInner kind [] = Unit {0}
EachInner kind (d ∷ ds) = OfEach Inner (bare_line kind d) × EachInner kind ds

-- the lines of items before others
pub with-lines : (kind : ItemKind) (ds : List Data) (rest : List ℕ) (texts : List (List ℕ)) (script : Option (List ℕ))
    → EachInner kind ds
    → HasTexts rest texts script → HasTexts (flat_map (line_of kind) ds ++ rest) (map (bare_line kind) ds ++ texts)
    script
with-lines kind [] rest texts script all h = h
with-lines kind (d ∷ ds) rest texts script all h =
    subst (λ t. HasTexts t (bare_line kind d ∷ (map (bare_line kind) ds ++ texts)) script)
    (sym (append_assoc (line_of kind d) (flat_map (line_of kind) ds) rest))
    (with-line kind d (flat_map (line_of kind) ds ++ rest) (map (bare_line kind) ds ++ texts) script all.0
    (with-lines kind ds rest texts script all.1 h))

-- a presence string that is not empty
abbrev pub shown : List ℕ → Option (List ℕ)
shown [] = None
shown (c ∷ cs) = Some (c ∷ cs)

pub presence-texts : (text : List ℕ) → HasTexts (presence_lines text) [] (shown text)
presence-texts [] = record { of_items = refl; of_script = refl }
presence-texts (c ∷ cs) =
    let cut = cut-script (80 ∷ 10 ∷ c ∷ cs) refl in
    record { of_items = ap (λ f. filter is_item f.0) cut; of_script = ap (λ f. f.1) cut }

-- the line of an item without faults has no end within
pub inner-bare : (kind : ItemKind) (d : Data) → fault_of kind d ≡ None → OfEach Inner (bare_line kind d)
inner-bare Achievement d e =
    each-append Inner (head_text 65 (id_of d)) (item_text Achievement d)
    ((inner-head 65 refl refl).each (head_text 65 (id_of d)) (id_of d) (head-spelled 65 (id_of d) refl (id-fits d)))
    (inner-line (item_text Achievement d) (whole-achievement d e))
inner-bare Leaderboard d e =
    let whole = whole-board d e in
    each-append Inner (head_text 76 (id_of d)) (format_in d ++ 32 ∷ item_text Leaderboard d)
    ((inner-head 76 refl refl).each (head_text 76 (id_of d)) (id_of d) (head-spelled 76 (id_of d) refl (id-fits d)))
    (each-append Inner (format_in d) (32 ∷ item_text Leaderboard d) (inner-word (format_in d) whole.word)
    ((λ is. cc is, λ is. cc is), inner-line (item_text Leaderboard d) whole.ended))

-- the text of an item without faults is spelled where its line is
pub item-text : (kind : ItemKind) (d : Data) (item : ItemContents) → fault_of kind d ≡ None
    → IsItemText (bare_line kind d) item
    → SpellsText kind d item
item-text Achievement d item e h = achievement-text d item h
item-text Leaderboard d item e h = board-text d item (whole-board d e).named h
