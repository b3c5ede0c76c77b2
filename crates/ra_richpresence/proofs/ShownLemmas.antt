-- The pieces of a line one after the other, and formats by name.
use Rattle.std.proofs.Common.{◌≡◌, ◌∙◌, ℕ, suc, ◌+◌, ◌<◌, Bool, true, false, if◌then◌else◌, List, [], ◌∷◌, ◌++◌, length}
use Rattle.std.proofs.Common.{map, take, drop, get_or, Some, refl, sym, ap, subst, arith, append_assoc, append-nil}
use Rattle.std.proofs.Common.{length-append, bytes_eq}
use Rattle.std.specs.List.{filter_map, flat_map, AllByRecursion}
use Rattle.std.specs.Prelude.{ℤ, slice_index_or}
use Rattle.std.proofs.lemmas.List.{drop-drop, take-map, get_or-map, take_more, map-append}
use Rattle.std.proofs.lemmas.List.Elements.{filter_map-append}
use Rattle.ra_value_format.specs.Formats.{entry_of}
use Rattle.ra_richpresence.specs.declared.line.Line.{Line}
use Rattle.ra_richpresence.specs.declared.script.Script.{Script}
use Rattle.ra_richpresence.specs.Contents.{PieceContents, Bytes, Shows, LineContents, ScriptContents, piece_contents}
use Rattle.ra_richpresence.specs.Contents.{line_contents, script_contents, value_in, values_in_line}
use Rattle.ra_richpresence.specs.Lines.{macro_text, first_or_zero, pieces_text, no_line, line_text}
use Rattle.ra_richpresence.specs.Shown.{piece_text, values_of}

-- ---- pieces, one after the other

-- how many values pieces show
abbrev pub shown_by : List PieceContents → ℕ
shown_by ps = length (filter_map value_in ps)

shown-one : (p : PieceContents) → shown_by (p ∷ []) ≡ values_of p
shown-one (Bytes text) = refl
shown-one (Shows name value) = refl

pub shown-more : (ps : List PieceContents) (p : PieceContents) → shown_by (ps ++ p ∷ []) ≡ shown_by ps + values_of p
shown-more ps p =
    ap length (filter_map-append value_in ps (p ∷ [])) ∙ length-append (filter_map value_in ps)
    (filter_map value_in (p ∷ [])) ∙ ap (λ n. shown_by ps + n) (shown-one p)

pub pieces-more : (script : ScriptContents) (ps : List PieceContents) (p : PieceContents)
    (vs : List ℤ) → pieces_text script (ps ++ p ∷ []) vs
    ≡ pieces_text script ps vs ++ piece_text script p (drop (shown_by ps) vs)
pieces-more script [] (Bytes text) vs = append-nil text
pieces-more script [] (Shows name value) vs = append-nil (macro_text script name (first_or_zero vs))
pieces-more script (Bytes text ∷ ps) p vs = ap (λ t. text ++ t) (pieces-more script ps p vs) ∙ sym
    (append_assoc text (pieces_text script ps vs) (piece_text script p (drop (shown_by ps) vs)))
pieces-more script (Shows name value ∷ ps) p vs =
    let n : 1 + shown_by ps ≡ suc (shown_by ps) = omega arith in
    ap (λ t. macro_text script name (first_or_zero vs) ++ t) (pieces-more script ps p (drop 1 vs)
    ∙ ap (λ t. pieces_text script ps (drop 1 vs) ++ piece_text script p t)
    (drop-drop (shown_by ps) 1 vs ∙ ap (λ n. drop n vs) n))
    ∙ sym (append_assoc (macro_text script name (first_or_zero vs))
    (pieces_text script ps (drop 1 vs)) (piece_text script p (drop (suc (shown_by ps)) vs)))

-- the items up to the next one, seen by their contents
pub map-more : {X Y : Type 0} (view : X → Y) (xs : List X) (i : ℕ) (x : X) → i < length xs → x
    ≡ get_or xs i x → map view (take (i + 1) xs) ≡ map view (take i xs) ++ view x ∷ []
map-more view xs i x less is = ap (map view) (take_more xs i x less
    ∙ ap (λ y. take i xs ++ y ∷ []) (sym is)) ∙ map-append view (take i xs) (x ∷ [])

-- the values behind one piece more
pub left-next : (ps : List PieceContents) (p : PieceContents) (vs left after : List ℤ) → after
    ≡ drop (values_of p) left → left ≡ drop (shown_by ps) vs → after
    ≡ drop (shown_by (ps ++ p ∷ [])) vs
left-next ps p vs left after behind is = behind ∙ ap (drop (values_of p)) is
    ∙ drop-drop (values_of p) (shown_by ps) vs ∙ ap (λ n. drop n vs) (sym (shown-more ps p))

-- the text of the pieces so far stands behind the one before, and the values behind theirs are left
pub record PiecesSoFar (script : ScriptContents) (ps : List PieceContents) (vs : List ℤ)
    (before text : List ℕ) (left : List ℤ) : Type 0 where
  pub text_is : text ≡ before ++ pieces_text script ps vs
  pub left_is : left ≡ drop (shown_by ps) vs

pub pieces-next : (script : ScriptContents) (ps : List PieceContents) (p : PieceContents)
    (vs : List ℤ) (before text new : List ℕ) (left after : List ℤ) → new
    ≡ text ++ piece_text script p left → after ≡ drop (values_of p) left
    → PiecesSoFar script ps vs before text left → PiecesSoFar script (ps ++ p ∷ []) vs before new after
pieces-next script ps p vs before text new left after written behind s = record {
  text_is = written ∙ ap (λ t. t ++ piece_text script p left) s.text_is
      ∙ append_assoc before (pieces_text script ps vs) (piece_text script p left)
      ∙ ap (λ l. before ++ (pieces_text script ps vs ++ piece_text script p l)) s.left_is
      ∙ ap (λ t. before ++ t) (sym (pieces-more script ps p vs));
  left_is = left-next ps p vs left after behind s.left_is;
}

-- ---- formats by name

-- what holds of each format of a list holds of the one of a name
pub entry-holds : {A : Type 0} (P : A → Type 0) (name : List ℕ) (entries : List (List ℕ × A))
    (v : A) → AllByRecursion (λ entry. P entry.1) entries → entry_of name entries ≡ Some v → P v
entry-holds P name [] v all is = absurd (cc is)
entry-holds {A} P name (entry ∷ entries) v all is =
    cases (bytes_eq entry.0 name) is (entry-holds P name entries v all.1) where
      cases : (same : Bool) → (if same then Some entry.1 else entry_of name entries) ≡ Some v
          → (entry_of name entries ≡ Some v → P v) → P v
      cases true is next = let same : entry.1 ≡ v = cc is in subst P same all.0
      cases false is next = next is

-- ---- the line of an index

line-at : (lines : List Line) (shown : ℕ) (line : Line) → shown < length lines → line ≡ get_or lines
    shown line → slice_index_or (map line_contents lines) shown no_line ≡ line_contents line
line-at lines shown line less is = get_or-map line_contents lines shown line no_line less ∙ ap line_contents (sym is)

pub text-of-line : (script : Script) (shown : ℕ) (line : Line) (vs : List ℤ)
    → shown < length script.lines.items → line ≡ get_or script.lines.items shown line
    → line_text (script_contents script) shown vs
    ≡ pieces_text (script_contents script) (map piece_contents line.pieces.items)
    (drop (length (flat_map values_in_line (map line_contents (take shown script.lines.items)))) vs)
text-of-line script shown line vs less is =
    ap (λ (l : LineContents). pieces_text (script_contents script) l.pieces
    (drop (length (flat_map values_in_line (take shown (map line_contents script.lines.items))))
    vs)) (line-at script.lines.items shown line less is)
    ∙ ap (λ lines. pieces_text (script_contents script) (map piece_contents line.pieces.items) (drop
    (length (flat_map values_in_line lines)) vs)) (take-map line_contents shown script.lines.items)
