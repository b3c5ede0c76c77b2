-- The texts and the pieces that end a line.
use Rattle.std.proofs.Common.{◌≡◌, ◌∙◌, inl, inr, ℕ, ◌==◌, ◌&&◌, ◌<◌, Bool, true, false, if◌then◌else◌, List, [], ◌∷◌}
use Rattle.std.proofs.Common.{◌++◌, length, Some, None, option_map, Ok, refl, sym, ap, subst, codes, arith, eqb-true}
use Rattle.std.proofs.Common.{append-nil, length-append}
use Rattle.ra_richpresence.specs.Contents.{PieceContents, Bytes}
use Rattle.ra_richpresence.specs.Grammar.{other_than, escape, character, shown_character, macro, to_line_end}
use Rattle.ra_richpresence.specs.Grammar.{lookup_text, pieces, joined_texts}
use Rattle.ra_richpresence.specs.Reading.{character_of, character_at, shown_character_of, piece_at, macro_at}
use Rattle.ra_richpresence.specs.Reading.{lookup_text_of, pieces_of, all_at}
use Rattle.ra_richpresence.proofs.Exact.{Exact, all-next, exact-all, exact-map}
use Rattle.ra_richpresence.proofs.Parts.{closed-macro, begins-macro, one_byte}
use Rattle.ra_text.specs.Form.{◌or◌}
use Rattle.ra_text.proofs.Steps.{same-ok}
use Rattle.ra_text.proofs.Spelled.{then-spelled, one-spelled}

-- the bytes that no text goes on with, where it may hold macros
abbrev pub stops : Bool → List ℕ
stops true = codes "@"
stops false = []

-- what a table of bytes has for each of them
mark : Unit {0}
mark = tt

-- a byte that stands for itself is no backslash, and begins no macro where some may begin
plain : (macros : Bool) (c v : ℕ) → other_than (codes "\\" ++ stops macros) c ≡ Some v
    → ((c == 92) ≡ false) × ((macros && (c == 64)) ≡ false) × (v ≡ c)
unfolding mark
plain true c v e = cases (c == 92) (c == 64) e where
  cases : (slash at : Bool) → (if (elim (if slash then Some mark
      else (if at then Some mark else None)) [ Some x ↦ true | None ↦ false ]) then None
      else Some c) ≡ Some v → (slash ≡ false) × (at ≡ false) × (v ≡ c)
  cases true at e = absurd (cc e)
  cases false true e = absurd (cc e)
  cases false false e = (refl, refl, (let same : c ≡ v = cc e in sym same))
plain false c v e = cases (c == 92) e where
  cases : (slash : Bool) → (if (elim (if slash then Some mark else None) [
    | Some x ↦ true
    | None ↦
        false
  ]) then None else Some c) ≡ Some v → (slash ≡ false) × (false ≡ false) × (v ≡ c)
  cases true e = absurd (cc e)
  cases false e = (refl, refl, (let same : c ≡ v = cc e in sym same))

itself : (macros : Bool) (c : ℕ) → (c == 92) ≡ false → (macros && (c == 64)) ≡ false
    → other_than (codes "\\" ++ stops macros) c ≡ Some c
unfolding mark
itself true c slash at = cases (c == 92) (c == 64) slash at where
  cases : (slash at : Bool) → slash ≡ false → at ≡ false
      → (if (elim (if slash then Some mark else (if at then Some mark else None)) [
        | Some x ↦
            true
        | None ↦ false
      ]) then None else Some c) ≡ Some c
  cases true at s a = absurd (cc s)
  cases false true s a = absurd (cc a)
  cases false false s a = refl
itself false c slash at = cases (c == 92) slash where
  cases : (slash : Bool) → slash ≡ false → (if (elim (if slash then Some mark
      else None) [ Some x ↦ true | None ↦ false ]) then None else Some c) ≡ Some c
  cases true s = absurd (cc s)
  cases false s = refl

-- a character stands before the rest
pub record Character (macros : Bool) (text rest : List ℕ) (v : ℕ) : Type 0 where
  pub first : ℕ
  pub behind : List ℕ
  pub is : text ≡ first ∷ behind
  pub gives : character_of first behind ≡ (v, rest)
  pub begins_none : (macros && (first == 64)) ≡ false

-- the byte behind a backslash
escape-parts : (front : List ℕ) (v : ℕ) → escape front v → front ≡ 92 ∷ v ∷ []
unfolding mark
escape-parts front v h =
    let slash : h.of_first.symbol ≡ 92 = byte (h.of_first.symbol == 92) refl h.of_first.listed in
    let same : h.of_next.symbol ≡ v = (let e : Some h.of_next.symbol ≡ Some v = h.of_next.listed in cc e) in
    h.parts ∙ ap (λ t. t ++ h.behind) h.of_first.alone ∙ ap (λ c. c ∷ h.behind) slash
    ∙ ap (λ t. 92 ∷ t) (h.of_next.alone ∙ ap (λ c. c ∷ []) same) where
      byte : (same : Bool) → (h.of_first.symbol == 92) ≡ same → (if same then Some mark else None)
          ≡ Some h.v → h.of_first.symbol ≡ 92
      byte true is e = eqb-true h.of_first.symbol 92 is
      byte false is e = absurd (cc e)

character-read : (macros : Bool) (front rest : List ℕ) (v : ℕ) → character (stops macros) front v
    → Character macros (front ++ rest) rest v
character-read macros front rest v (inl h) =
    let p : ((h.symbol == 92) ≡ false) × ((macros && (h.symbol == 64)) ≡ false) × (v ≡ h.symbol) =
    plain macros h.symbol v h.listed in
    record {
      first = h.symbol;
      behind = rest;
      is = ap (λ t. t ++ rest) h.alone;
      gives = rw p.0 (ap (λ c. (c, rest)) (sym p.2));
      begins_none = p.1;
    }
character-read macros front rest v (inr h) = record {
  first = 92;
  behind = v ∷ rest;
  is = ap (λ t. t ++ rest) (escape-parts front v h);
  gives = refl;
  begins_none = no_macro macros;
} where
  no_macro : (macros : Bool) → (macros && false) ≡ false
  no_macro true = refl
  no_macro false = refl

-- what a character is cut from
pub record Cut (macros : Bool) (text rest : List ℕ) (v : ℕ) : Type 0 where
  pub front : List ℕ
  pub parts : text ≡ front ++ rest
  pub of_front : character (stops macros) front v

character-cut : (macros : Bool) (c : ℕ) (t : List ℕ) → (c ∷ t ≡ 92 ∷ [] → ⊥) → (macros && (c == 64))
    ≡ false → Cut macros (c ∷ t) (character_of c t).1 (character_of c t).0
character-cut macros c t not_lone at = cases (c == 92) refl t not_lone where
  cases : (slash : Bool) → (c == 92) ≡ slash → (t : List ℕ) → (c ∷ t ≡ 92 ∷ [] → ⊥)
      → Cut macros (c ∷ t) (character_of c t).1 (character_of c t).0
  cases true is [] not_lone = absurd (not_lone (ap (λ x. x ∷ []) (eqb-true c 92 is)))
  cases true is (d ∷ t) not_lone = rw is (record {
    front = c ∷ d ∷ [];
    parts = refl;
    of_front = inr
        (then-spelled (c ∷ []) (d ∷ []) tt refl (one-spelled c (rw is refl)) (one-spelled d refl));
  })
  cases false is t not_lone = rw is
      (record { front = c ∷ []; parts = refl; of_front = inl (one-spelled c (itself macros c is at)) })

pub character-smaller : (c : ℕ) (t : List ℕ) → length (character_of c t).1 < length (c ∷ t)
character-smaller c t = cases (c == 92) refl t where
  cases : (slash : Bool) → (c == 92) ≡ slash → (t : List ℕ) → length (character_of c t).1 < length (c ∷ t)
  cases true is [] = rw is (omega arith)
  cases true is (d ∷ t) = rw is (omega arith)
  cases false is t = rw is (omega arith)

-- ---- texts of lookups

reads-character : (front rest : List ℕ) (v : ℕ) → character [] front v → character_at (front ++ rest) ≡ Ok (v, rest)
reads-character front rest v h = let p : Character false (front ++ rest) rest v = character-read false front rest v h in
    ap character_at p.is ∙ ap (λ x. Ok x) p.gives

cuts-character : (text : List ℕ) (v : ℕ) (rest : List ℕ) → (text ≡ 92 ∷ [] → ⊥) → character_at text
    ≡ Ok (v, rest) → (front : List ℕ) × (text ≡ front ++ rest) × character [] front v
cuts-character [] v rest not_lone e = absurd (cc e)
cuts-character (c ∷ t) v rest not_lone e =
    let p : Cut false (c ∷ t) (character_of c t).1 (character_of c t).0 = character-cut false c t not_lone refl in
    let same : character_of c t ≡ (v, rest) = same-ok (character_of c t) (v, rest) e in
    let q : Cut false (c ∷ t) rest v = subst (λ x. Cut false (c ∷ t) x.1 x.0) same p in
    (q.front, q.parts, q.of_front)

pub smaller-character : (text : List ℕ) (v : ℕ) (rest : List ℕ) → character_at text ≡ Ok (v, rest)
    → length rest < length text
smaller-character [] v rest e = absurd (cc e)
smaller-character (c ∷ t) v rest e = subst (λ x. length x.1 < length (c ∷ t))
    (same-ok (character_of c t) (v, rest) e) (character-smaller c t)

pub exact-lookup_text : Exact lookup_text lookup_text_of
unfolding lookup_text_of
exact-lookup_text = exact-all (character []) 92 character_at reads-character refl cuts-character smaller-character

-- a character, and the others behind it
pub text-next : (text : List ℕ) (v : ℕ) (rest : List ℕ) → character_at text ≡ Ok (v, rest)
    → all_at character_at (length text) text
    ≡ option_map (λ vs. v ∷ vs) (all_at character_at (length rest) rest)
text-next = all-next (character []) 92 character_at reads-character refl cuts-character smaller-character

-- ---- pieces

pub reads-piece : (front rest : List ℕ) (v : PieceContents) → (shown_character or macro) front v
    → piece_at (front ++ rest) ≡ Ok (v, rest)
reads-piece front rest v (inl h) =
    let all : front ≡ h.front = h.parts ∙ ap (λ t. h.front ++ t) h.of_next.empty ∙ append-nil h.front in
    let p : Character true (front ++ rest) rest h.v = character-read true front rest h.v
    (subst (λ t. character (codes "@") t h.v) (sym all) h.of_first) in
    ap piece_at p.is ∙ rw p.begins_none (ap (λ x. Ok (Bytes (x.0 ∷ []), x.1)) p.gives
    ∙ ap (λ x. Ok (x, rest)) (sym h.of_next.is))
reads-piece front rest v (inr h) = cases front (ap (λ t. t) refl) h where
  cases : (t : List ℕ) → t ≡ front → macro t v → piece_at (front ++ rest) ≡ Ok (v, rest)
  cases [] e h = absurd (begins-macro.not_empty v h)
  cases (c ∷ t) e h =
      let at : c ≡ 64 = one_byte 64 c (begins-macro.first c t v h) in
      let is : (c == 64) ≡ true = subst (λ x. (x == 64) ≡ true) (sym at) refl in
      ap (λ t. piece_at (t ++ rest)) (sym e) ∙ rw is (closed-macro.reads (c ∷ t) rest v h)

longer : (c d : ℕ) (t front rest : List ℕ) → c ∷ t ≡ (d ∷ front) ++ rest → length rest < length (c ∷ t)
longer c d t front rest e = omega (arith, length-append (d ∷ front) rest, ap length e)

smaller-macro : (c : ℕ) (t : List ℕ) (v : PieceContents) (rest : List ℕ) → macro_at (c ∷ t)
    ≡ Ok (v, rest) → length rest < length (c ∷ t)
smaller-macro c t v rest e = cut (closed-macro.cuts (c ∷ t) v rest e) where
  cut : (front : List ℕ) × (c ∷ t ≡ front ++ rest) × macro front v → length rest < length (c ∷ t)
  cut ([], parts, h) = absurd (begins-macro.not_empty v h)
  cut (d ∷ front, parts, h) = longer c d t front rest parts

pub cuts-piece : (text : List ℕ) (v : PieceContents) (rest : List ℕ) → (text ≡ 92 ∷ [] → ⊥)
    → piece_at text ≡ Ok (v, rest) → (front : List ℕ) × (text ≡ front ++ rest)
    × (shown_character or macro) front v
cuts-piece [] v rest not_lone e = absurd (cc e)
cuts-piece (c ∷ t) v rest not_lone e = cases (c == 64) refl e where
  cases : (at : Bool) → (c == 64) ≡ at → (if at then macro_at (c ∷ t)
      else Ok (shown_character_of c t)) ≡ Ok (v, rest) → (front : List ℕ) × (c ∷ t ≡ front ++ rest)
      × (shown_character or macro) front v
  cases true is e = let p : (front : List ℕ) × (c ∷ t ≡ front ++ rest) × macro front v =
      closed-macro.cuts (c ∷ t) v rest e in (p.0, p.1, inr p.2)
  cases false is e =
      let p : Cut true (c ∷ t) (character_of c t).1 (character_of c t).0 = character-cut true c t not_lone is in
      let same : shown_character_of c t ≡ (v, rest) = same-ok (shown_character_of c t) (v, rest) e in
      let left : (character_of c t).1 ≡ rest = ap (λ x. x.1) same in (
        p.front,
        p.parts ∙ ap (λ x. p.front ++ x) left,
        inl (then-spelled p.front [] ((character_of c t).0) (sym (append-nil p.front)) p.of_front
            (record { empty = refl; is = sym (ap (λ x. x.0) same) })),
      )

pub smaller-piece : (text : List ℕ) (v : PieceContents) (rest : List ℕ) → piece_at text
    ≡ Ok (v, rest) → length rest < length text
smaller-piece [] v rest e = absurd (cc e)
smaller-piece (c ∷ t) v rest e = cases (c == 64) e where
  cases : (at : Bool) → (if at then macro_at (c ∷ t) else Ok (shown_character_of c t))
      ≡ Ok (v, rest) → length rest < length (c ∷ t)
  cases true e = smaller-macro c t v rest e
  cases false e = subst (λ x. length x.1 < length (c ∷ t))
      (same-ok (shown_character_of c t) (v, rest) e) (character-smaller c t)

pub exact-pieces : Exact pieces pieces_of
unfolding pieces_of
exact-pieces = exact-map (to_line_end (shown_character or macro) (Bytes (codes "\\")))
    (λ line. all_at piece_at (length line) line) joined_texts
    (exact-all (shown_character or macro) (Bytes (codes "\\")) piece_at reads-piece refl cuts-piece smaller-piece)

-- a piece, and the others behind it
pub piece-next : (text : List ℕ) (v : PieceContents) (rest : List ℕ) → piece_at text ≡ Ok (v, rest)
    → all_at piece_at (length text) text
    ≡ option_map (λ vs. v ∷ vs) (all_at piece_at (length rest) rest)
piece-next = all-next (shown_character or macro) (Bytes (codes "\\")) piece_at reads-piece refl cuts-piece smaller-piece
