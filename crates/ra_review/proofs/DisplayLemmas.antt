-- How far a line goes as one of the display.
use Rattle.std.proofs.Common.{◌≡◌, ◌∙◌, ◌⊎◌, inl, inr, ℕ, ◌-◌, ◌<◌, ◌≤◌, ◌==◌, Bool, true, false, if◌then◌else◌, List}
use Rattle.std.proofs.Common.{[], ◌∷◌, ◌++◌, length, take, drop, Option, Some, None, option_map, Result, Ok, Err, refl}
use Rattle.std.proofs.Common.{sym, ap, subst, arith, codes, append-nil, append_assoc, length-append, eqb-true, take_at}
use Rattle.std.proofs.Common.{take-append-drop, length-take}
use Rattle.ra_condition.specs.declared.fault.Fault.{Fault}
use Rattle.ra_condition.specs.declared.fault.Fault.TheVariants.{Stop, Memory}
use Rattle.ra_condition.specs.Contents.{TriggerContents, trigger_contents}
use Rattle.ra_richpresence.specs.Contents.{PieceContents, Bytes, LineContents}
use Rattle.ra_richpresence.specs.Grammar.{many, shown_character, macro, to_line_end, pieces, joined_texts, test}
use Rattle.ra_richpresence.specs.Reading.{all_at, character_at, character_of, piece_at, macro_at, shown_character_of}
use Rattle.ra_richpresence.specs.Reading.{test_at, pieces_of, last_line_of, untested_with}
use Rattle.ra_richpresence.proofs.Exact.{Closed, exact-all}
use Rattle.ra_richpresence.proofs.LineForms.{exact-last_line}
use Rattle.ra_richpresence.proofs.Parts.{closed-macro, closed-test, reads-macro, reads-test}
use Rattle.ra_richpresence.proofs.Texts.{cuts-piece, piece-next, reads-piece, smaller-piece}
use Rattle.ra_condition.specs.declared.trigger_text.TriggerText.{TriggerText}
use Rattle.ra_condition.specs.Fault.{GivesUnlessFull}
use Rattle.ra_set.proofs.FileLemmas.{fronts-along}
use Rattle.ra_set.proofs.RunLemmas.{only-byte}
use Rattle.ra_text.specs.Form.{Form, Viable, ◌or◌}
use Rattle.ra_text.specs.Place.{IsBadPlace}
use Rattle.ra_text.specs.Reading.{Outcome, Reads, begins, rest_of}
use Rattle.ra_text.specs.Table.{is_in, only}
use Rattle.ra_text.proofs.Steps.{same-ok, viable-front, viable-whole}
use Rattle.ra_review.specs.Passing.{Stops, StopsLine, StopsPieces, TakesPiece}
use Rattle.ra_review.specs.Scripts.{display_line}
use Rattle.ra_text.proofs.Spelled.{then-spelled, none-spelled, one-spelled, viable-by}

-- ---- where a form stops

-- a longer front than one that stops begins no text of the form
pub stops_place : {V : Type 0} (form : Form ℕ V) (text rest : List ℕ) → (s : Stops form text rest)
    → IsBadPlace form text (length text - length rest)
stops_place {V} form text rest s = subst (IsBadPlace form text) here (record {
  within = omega (arith, ap length s.parts, length-append s.front rest);
  viable = subst (Viable form) (sym (ap (take (length s.front)) s.parts
      ∙ take_at s.front rest (length s.front) refl)) s.viable;
  longest = λ m more within viable. past rest refl m more within viable;
})
  where
    here : length s.front ≡ length text - length rest
    here = omega (arith, ap length s.parts, length-append s.front rest)

    past : (others : List ℕ) → rest ≡ others → (m : ℕ) → length s.front < m → m ≤ length text
        → Viable form (take m text) → ⊥
    past [] is m more within viable = omega (arith, ap length s.parts, length-append s.front rest, ap length is)
    past (symbol ∷ others) is m more within viable =
        let whole : text ≡ (s.front ++ symbol ∷ []) ++ others =
        s.parts ∙ ap (λ t. s.front ++ t) is ∙ sym (append_assoc s.front (symbol ∷ []) others) in
        let w = fronts-along (s.front ++ symbol ∷ []) others (take m text) (drop m text) (sym whole
        ∙ sym (take-append-drop m text)) in
        elim w [
          | inl a ↦ s.halts symbol others is
              (viable-front (s.front ++ symbol ∷ []) a.0 (subst (Viable form) a.1 viable))
          | inr b ↦ shorter b.0 b.1
        ]
      where
        shorter : (w : List ℕ) → s.front ++ symbol ∷ [] ≡ take m text ++ w → ⊥
        shorter [] e = s.halts symbol others is (subst (Viable form) (sym (e ∙ append-nil (take m text))) viable)
        shorter (x ∷ w) e =
            omega (
              arith,
              ap length e,
              length-append s.front (symbol ∷ []),
              length-append (take m text) (x ∷ w),
              length-take m text,
              more,
              within,
            )

-- a text of a closed form does not go on with what a reading of it stopped at
module _ {V : Type 0} (form : Form ℕ V) (at : List ℕ → Outcome ℕ V) (closed : Closed form at)
    (text rest : List ℕ) (r : Reads form text (Err rest)) (e : at text ≡ Err rest) where
  closed_halts : (symbol : ℕ) (others more g y : List ℕ) (v : V) → rest ≡ symbol ∷ others
      → (r.front ++ symbol ∷ []) ++ more ≡ g ++ y → form g v → ⊥
  closed_halts symbol others more g y v is same of_form = elim (fronts-along (r.front ++ symbol ∷ []) more g y same) [
    | inl a ↦ r.halts symbol others is (viable-by a.0 v (subst (λ t. form t v) a.1 of_form))
    | inr b ↦ inside b.0 b.1
  ]
    where
      read : (w : List ℕ) → r.front ≡ g ++ w → ⊥
      read w f =
          let whole : text ≡ g ++ (w ++ rest) = r.parts ∙ ap (λ t. t ++ rest) f ∙ append_assoc g w rest in
          let ok : ◌≡◌ {A = Outcome ℕ V} (Err rest) (Ok (v, w ++ rest)) =
          sym e ∙ ap at whole ∙ closed.reads g (w ++ rest) v of_form in
          cc ok

      inside : (w : List ℕ) → r.front ++ symbol ∷ [] ≡ g ++ w → ⊥
      inside [] f = r.halts symbol others is
          (viable-by [] v (subst (λ t. form t v)
          (sym (append-nil (r.front ++ symbol ∷ []) ∙ f ∙ append-nil g)) of_form))
      inside (x ∷ w) f = elim (fronts-along r.front (symbol ∷ []) g (x ∷ w) f) [
        | inl a ↦ longer a.0 a.1
        | inr b ↦ read b.0 b.1
      ]
        where
          longer : (u : List ℕ) → g ≡ r.front ++ u → ⊥
          longer [] h = read [] (sym (h ∙ append-nil r.front) ∙ sym (append-nil g))
          longer (z ∷ u) h =
              omega (
                arith,
                ap length f,
                length-append r.front (symbol ∷ []),
                length-append g (x ∷ w),
                ap length h,
                length-append r.front (z ∷ u),
              )

-- ---- pieces

-- a macro or a character
abbrev piece : Form ℕ PieceContents
piece = shown_character or macro

-- pieces to the end of a line, one by one
abbrev ending : Form ℕ (List PieceContents)
ending = to_line_end piece (Bytes (codes "\\"))

-- pieces were passed that stand before the rest, at the end a lone `\` too
pub record PassesPieces (old rest : List ℕ) : Type 0 where
  pub front : List ℕ
  pub found : List PieceContents
  pub parts : old ≡ front ++ rest
  pub passed : many piece front found ⊎ ((rest ≡ []) × ending front found)

pub passes_none : (text : List ℕ) → PassesPieces text text
passes_none text = record { front = []; found = []; parts = refl; passed = inl refl }

-- one piece more behind others
many_push : (front more : List ℕ) (found : List PieceContents) (v : PieceContents)
    → many piece front found → piece more v → many piece (front ++ more) (found ++ v ∷ [])
many_push front more [] v h last =
    let is : front ++ more ≡ more = ap (λ t. t ++ more) h in
    record { front = more; behind = []; parts = is ∙ sym (append-nil more); of_item = last; of_others = refl }
many_push front more (u ∷ found) v h last = record {
  front = h.front;
  behind = h.behind ++ more;
  parts = ap (λ t. t ++ more) h.parts ∙ append_assoc h.front h.behind more;
  of_item = h.of_item;
  of_others = many_push h.behind more found v h.of_others last;
}

-- pieces alone are pieces to the end
many_ends : (front : List ℕ) (found : List PieceContents) → many piece front found → ending front found
many_ends front found h = then-spelled front [] found (sym (append-nil front)) h (then-spelled [] []
    [] refl (inr none-spelled) (record { empty = refl; is = sym (append-nil found) }))

-- a lone `\` behind pieces
lone_ends : (front : List ℕ) (found : List PieceContents) → many piece front found
    → ending (front ++ 92 ∷ []) (found ++ Bytes (92 ∷ []) ∷ [])
lone_ends front found h = then-spelled front (92 ∷ []) found refl h
    (then-spelled (92 ∷ []) [] (Bytes (92 ∷ []) ∷ []) refl (inl (one-spelled 92 refl)) none-spelled)

pub passes_more : (old middle rest : List ℕ) (v : PieceContents) → (middle ≡ [] → ⊥)
    → piece_at middle ≡ Ok (v, rest) → PassesPieces old middle → PassesPieces old rest
passes_more old [] rest v some e p = absurd (some refl)
passes_more old (c ∷ t) rest v some e p = elim p.passed [
  | inr ended ↦ absurd (let none : c ∷ t ≡ [] = ended.0 in cc none)
  | inl h ↦ by_lone t (c == 92) refl h
]
  where
    cut : (c ∷ t ≡ 92 ∷ [] → ⊥) → many piece p.front p.found → PassesPieces old rest
    cut not_lone h =
        let q = cuts-piece (c ∷ t) v rest not_lone e in
        record {
          front = p.front ++ q.0;
          found = p.found ++ v ∷ [];
          parts = p.parts ∙ ap (λ s. p.front ++ s) q.1 ∙ sym (append_assoc p.front q.0 rest);
          passed = inl (many_push p.front q.0 p.found v h q.2);
        }

    by_lone : (s : List ℕ) (slash : Bool) → (c == 92) ≡ slash → many piece p.front p.found → PassesPieces old rest
    by_lone s true is h = by_rest t refl
      where
        lone : c ∷ t ≡ 92 ∷ [] → PassesPieces old rest
        lone whole =
            let read : ◌≡◌ {A = Outcome ℕ PieceContents} (Ok (Bytes (92 ∷ []), [])) (Ok (v, rest)) =
            sym (ap piece_at whole) ∙ e in
            let none : [] ≡ rest = ap rest_of read in
            record {
              front = p.front ++ 92 ∷ [];
              found = p.found ++ Bytes (92 ∷ []) ∷ [];
              parts = p.parts ∙ ap (λ s. p.front ++ s) whole ∙ sym (append-nil (p.front ++ 92 ∷ []))
                  ∙ ap (λ s. (p.front ++ 92 ∷ []) ++ s) none;
              passed = inr (sym none, lone_ends p.front p.found h);
            }

        by_rest : (s : List ℕ) → t ≡ s → PassesPieces old rest
        by_rest [] none = lone (let slash : c ≡ 92 = eqb-true c 92 is in cc (slash, none))
        by_rest (d ∷ s) some = cut (λ whole. let none : t ≡ [] = cc whole in cc (none, some)) h
    by_lone s false is h = cut (λ whole. let slash : c ≡ 92 = cc whole in
        let no : (92 == 92) ≡ false = subst (λ b. (b == 92) ≡ false) slash is in cc no) h

-- the whole text is pieces
pub passes_all : (old : List ℕ) → PassesPieces old [] → (vs : List PieceContents) × ending old vs
passes_all old p =
    let whole : old ≡ p.front = p.parts ∙ append-nil p.front in
    elim p.passed [
      | inl h ↦ (p.found, subst (λ t. ending t p.found) (sym whole) (many_ends p.front p.found h))
      | inr h ↦ (p.found, subst (λ t. ending t p.found) (sym whole) h.1)
    ]

ending_pieces : (text : List ℕ) (vs : List PieceContents) → ending text vs → pieces text (joined_texts vs)
ending_pieces text vs h = then-spelled text [] vs (sym (append-nil text)) h none-spelled

pub pieces_stop_whole : (old rest : List ℕ) → rest ≡ [] → PassesPieces old rest → Stops pieces old rest
pieces_stop_whole old rest none p =
    let all = passes_all old (subst (PassesPieces old) none p) in
    record {
      front = old;
      parts = sym (ap (λ t. old ++ t) none ∙ append-nil old);
      viable = viable-whole old (joined_texts all.0) (ending_pieces old all.0 all.1);
      halts = λ symbol others is viable. let some : [] ≡ symbol ∷ others = sym none ∙ is in cc some;
    }

-- pieces to the end are read so
all_read : (text : List ℕ) (vs : List PieceContents) → ending text vs → all_at piece_at (length text) text ≡ Some vs
all_read = (exact-all piece (Bytes (codes "\\")) piece_at reads-piece refl cuts-piece smaller-piece).reads

-- what is read behind pieces
rest_read : (front x : List ℕ) (found : List PieceContents) (vs : List PieceContents) → many piece front found
    → all_at piece_at (length (front ++ x)) (front ++ x) ≡ Some vs → (ws : List PieceContents)
    × (all_at piece_at (length x) x ≡ Some ws)
rest_read front x [] vs h e = (vs, subst (λ t. all_at piece_at (length (t ++ x)) (t ++ x) ≡ Some vs) h e)
rest_read front x (u ∷ found) vs h e =
    let whole : front ++ x ≡ h.front ++ (h.behind ++ x) = ap (λ t. t ++ x) h.parts ∙ append_assoc h.front h.behind x in
    let read : piece_at (front ++ x) ≡ Ok (u, h.behind ++ x) =
    ap piece_at whole ∙ reads-piece h.front (h.behind ++ x) u h.of_item in
    let next = sym (piece-next (front ++ x) u (h.behind ++ x) read) ∙ e in
    others (all_at piece_at (length (h.behind ++ x)) (h.behind ++ x))
    (λ us is. rest_read h.behind x found us h.of_others is) refl next
  where
    others : (o : Option (List PieceContents))
        → ((us : List PieceContents) → all_at piece_at (length (h.behind ++ x)) (h.behind ++ x)
        ≡ Some us → (ws : List PieceContents) × (all_at piece_at (length x) x ≡ Some ws))
        → all_at piece_at (length (h.behind ++ x)) (h.behind ++ x) ≡ o → option_map (λ us. u ∷ us) o ≡ Some vs
        → (ws : List PieceContents) × (all_at piece_at (length x) x ≡ Some ws)
    others (Some us) next is e = next us is
    others None next is e = absurd (cc e)

first_read : (c : ℕ) (t : List ℕ) (ws : List PieceContents) → all_at piece_at (length (c ∷ t))
    (c ∷ t) ≡ Some ws → (v : PieceContents) × (y : List ℕ) × (piece_at (c ∷ t) ≡ Ok (v, y))
first_read c t ws e = by_outcome (piece_at (c ∷ t)) refl e
  where
    by_outcome : (o : Outcome ℕ PieceContents) → piece_at (c ∷ t) ≡ o → (elim o [
      | Ok x ↦
          option_map (λ vs. x.0 ∷ vs) (all_at piece_at (length t) x.1)
      | Err left ↦ None
    ]) ≡ Some ws
        → (v : PieceContents) × (y : List ℕ) × (piece_at (c ∷ t) ≡ Ok (v, y))
    by_outcome (Ok x) is e = (x.0, x.1, is)
    by_outcome (Err left) is e = absurd (cc e)

-- a macro is none
module _ (old t rest : List ℕ) (p : PassesPieces old (64 ∷ t)) (e : macro_at (64 ∷ t) ≡ Err rest) where
  r : Reads macro (64 ∷ t) (Err rest)
  r = subst (Reads macro (64 ∷ t)) e (reads-macro (64 ∷ t))

  of_many : many piece p.front p.found
  of_many = elim p.passed [ inl h ↦ h | inr ended ↦ absurd (let none : 64 ∷ t ≡ [] = ended.0 in cc none) ]

  -- what begins as the macro does is read as one
  not_read : (symbol : ℕ) (others more : List ℕ) → rest ≡ symbol ∷ others → (d : ℕ) (s : List ℕ)
      → (r.front ++ symbol ∷ []) ++ more ≡ d ∷ s → d ≡ 64
      → (ws : List PieceContents) → all_at piece_at (length (d ∷ s)) (d ∷ s) ≡ Some ws → ⊥
  not_read symbol others more is d s x at ws all =
      let f = first_read d s ws all in
      let read : macro_at (64 ∷ s) ≡ Ok (f.0, f.1) = subst (λ b. piece_at (b ∷ s) ≡ Ok (f.0, f.1)) at f.2 in
      let q = closed-macro.cuts (64 ∷ s) f.0 f.1 read in
      closed_halts macro macro_at closed-macro (64 ∷ t) rest r e symbol others more q.0 f.1 f.0 is
      (x ∙ ap (λ b. b ∷ s) at ∙ q.1) q.2

  -- the first byte is that of the macro
  first_is : (symbol : ℕ) (others more : List ℕ) → rest ≡ symbol ∷ others → (d : ℕ) (s : List ℕ)
      → (r.front ++ symbol ∷ []) ++ more ≡ d ∷ s → d ≡ 64
  first_is symbol others more is d s x = by_front r.front (r.parts ∙ ap (λ t. r.front ++ t) is) x
    where
      by_front : (f : List ℕ) → 64 ∷ t ≡ f ++ symbol ∷ others → (f ++ symbol ∷ []) ++ more ≡ d ∷ s → d ≡ 64
      by_front [] a b = let one : 64 ≡ symbol = cc a in let two : symbol ≡ d = cc b in sym (one ∙ two)
      by_front (g ∷ f) a b = let one : 64 ≡ g = cc a in let two : g ≡ d = cc b in sym (one ∙ two)

  pub pieces_stop : Stops pieces old rest
  pieces_stop = record {
    front = p.front ++ r.front;
    parts = p.parts ∙ ap (λ s. p.front ++ s) r.parts ∙ sym (append_assoc p.front r.front rest);
    viable = viable-by r.viable.more (joined_texts (p.found ++ r.viable.v ∷ []))
        (subst (λ s. pieces s (joined_texts (p.found ++ r.viable.v ∷ [])))
        (sym (append_assoc p.front r.front r.viable.more))
        (ending_pieces (p.front ++ (r.front ++ r.viable.more)) (p.found ++ r.viable.v ∷ [])
        (many_ends (p.front ++ (r.front ++ r.viable.more)) (p.found ++ r.viable.v ∷ []) (many_push
        p.front (r.front ++ r.viable.more) p.found r.viable.v of_many (inr r.viable.whole)))));
    halts = λ symbol others is viable. stopped symbol others is viable.more viable.v viable.whole;
  }
    where
      stopped : (symbol : ℕ) (others : List ℕ) → rest ≡ symbol ∷ others → (more : List ℕ)
          (v : List PieceContents) → pieces (((p.front ++ r.front) ++ symbol ∷ []) ++ more) v → ⊥
      stopped symbol others is more v h =
          let x = (r.front ++ symbol ∷ []) ++ more in
          let whole : ((p.front ++ r.front) ++ symbol ∷ []) ++ more ≡ p.front ++ x =
          ap (λ s. s ++ more) (append_assoc p.front r.front (symbol ∷ []))
          ∙ append_assoc p.front (r.front ++ symbol ∷ []) more in
          let line = h.parts ∙ ap (λ s. h.front ++ s) h.of_next.empty ∙ append-nil h.front in
          let read = all_read (p.front ++ x) h.v (subst (λ s. ending s h.v) (sym line ∙ whole) h.of_first) in
          let left = rest_read p.front x p.found h.v of_many read in
          by_text x refl left.0 left.1
        where
          by_text : (y : List ℕ) → (r.front ++ symbol ∷ []) ++ more ≡ y → (ws : List PieceContents)
              → all_at piece_at (length ((r.front ++ symbol ∷ []) ++ more))
              ((r.front ++ symbol ∷ []) ++ more) ≡ Some ws → ⊥
          by_text [] same ws all =
              omega (
                arith,
                ap length same,
                length-append (r.front ++ symbol ∷ []) more,
                length-append r.front (symbol ∷ []),
              )
          by_text (d ∷ s) same ws all = not_read symbol others more is d s same
              (first_is symbol others more is d s same) ws
              (subst (λ y. all_at piece_at (length y) y ≡ Some ws) same all)

pub no_piece : (old middle rest : List ℕ) → (middle ≡ [] → ⊥) → piece_at middle ≡ Err rest
    → PassesPieces old middle → Stops pieces old rest
no_piece old [] rest some e p = absurd (some refl)
no_piece old (c ∷ t) rest some e p = by_letter (c == 64) refl e
  where
    by_letter : (at : Bool) → (c == 64) ≡ at → ◌≡◌ {A = Outcome ℕ PieceContents} (if at
        then macro_at (c ∷ t) else Ok (shown_character_of c t)) (Err rest) → Stops pieces old rest
    by_letter true is e =
        let letter : c ≡ 64 = eqb-true c 64 is in
        pieces_stop old t rest (subst (λ b. PassesPieces old (b ∷ t)) letter p)
        (subst (λ b. macro_at (b ∷ t) ≡ Err rest) letter e)
    by_letter false is e = absurd (cc e)

-- a macro and a character as pieces
pub piece_macro : (old : List ℕ) (v : PieceContents) (new : List ℕ) → begins
    (is_in (only (codes "@"))) old ≡ true → macro_at old ≡ Ok (v, new) → piece_at old ≡ Ok (v, new)
piece_macro [] v new is e = absurd (cc is)
piece_macro (c ∷ t) v new is e =
    let at : c ≡ 64 = only-byte 64 c is in
    let read : piece_at (64 ∷ t) ≡ Ok (v, new) = subst (λ b. macro_at (b ∷ t) ≡ Ok (v, new)) at e in
    subst (λ b. piece_at (b ∷ t) ≡ Ok (v, new)) (sym at) read

pub piece_character : (old : List ℕ) (b : ℕ) (new : List ℕ) → begins (is_in (only (codes "@"))) old
    ≡ false → character_at old ≡ Ok (b, new) → piece_at old ≡ Ok (Bytes (b ∷ []), new)
piece_character [] b new is e = absurd (cc e)
piece_character (c ∷ t) b new is e = by_letter (c == 64) refl
  where
    by_letter : (at : Bool) → (c == 64) ≡ at → ◌≡◌ {A = Outcome ℕ PieceContents}
        (if at then macro_at (c ∷ t) else Ok (shown_character_of c t)) (Ok (Bytes (b ∷ []), new))
    by_letter true same =
        let at : c ≡ 64 = eqb-true c 64 same in
        let no : is_in (only (codes "@")) 64 ≡ false = subst (λ x. is_in (only (codes "@")) x ≡ false) at is in
        absurd (cc no)
    by_letter false other =
        let same : character_of c t ≡ (b, new) = same-ok (character_of c t) (b, new) e in
        ap (λ x. Ok (Bytes (x.0 ∷ []), x.1)) same

-- no piece was passed, or no memory was left
pub piece_fault : (fault : Fault) (old middle rest : List ℕ) → (middle ≡ [] → ⊥) → TakesPiece
    (Err fault) middle rest → PassesPieces old middle → StopsPieces (Err fault) old rest
piece_fault Stop old middle rest some e p = no_piece old middle rest some e p
piece_fault Memory old middle rest some e p = tt

-- ---- lines

-- the text begins with `?`
abbrev pub is_tested : List ℕ → Bool
is_tested = begins (is_in (only (codes "?")))

-- a test begins so
test_begins : (f : List ℕ) (v : TriggerContents) (more : List ℕ) → test f v → is_tested (f ++ more) ≡ true
test_begins f v more h =
    let front : f ≡ h.of_first.symbol ∷ h.behind = h.parts ∙ ap (λ t. t ++ h.behind) h.of_first.alone in
    subst (λ t. is_tested (t ++ more) ≡ true) (sym front)
    (ap (λ o. elim o [ Some x ↦ true | None ↦ false ]) h.of_first.listed)

-- texts that go on from a front by one byte begin alike
begins_alike : (front : List ℕ) (symbol : ℕ) (more others : List ℕ)
    → is_tested ((front ++ symbol ∷ []) ++ more) ≡ is_tested (front ++ symbol ∷ others)
begins_alike [] symbol more others = refl
begins_alike (c ∷ front) symbol more others = refl

apart : (text : List ℕ) → is_tested text ≡ true → is_tested text ≡ false → ⊥
apart text a b = let no : true ≡ false = sym a ∙ b in cc no

-- a line that begins with a test
module _ (old : List ℕ) (tested : is_tested old ≡ true) where
  -- the test is none
  pub no_test : (rest : List ℕ) → test_at old ≡ Err rest → Stops display_line old rest
  no_test rest e = record {
    front = r.front;
    parts = r.parts;
    viable = viable-by r.viable.more (record { test = Some r.viable.v; pieces = joined_texts [] })
        (inl (then-spelled (r.front ++ r.viable.more) [] r.viable.v
        (sym (append-nil (r.front ++ r.viable.more))) r.viable.whole (then-spelled [] []
        (joined_texts []) refl (ending_pieces [] [] (many_ends [] [] refl)) none-spelled)));
    halts = λ symbol others is viable. stopped symbol others is viable.more viable.v viable.whole;
  }
    where
      r : Reads test old (Err rest)
      r = subst (Reads test old) e (reads-test old)

      stopped : (symbol : ℕ) (others : List ℕ) → rest ≡ symbol ∷ others → (more : List ℕ)
          (v : LineContents) → display_line ((r.front ++ symbol ∷ []) ++ more) v → ⊥
      stopped symbol others is more v (inl h) = closed_halts test test_at closed-test old rest r e
          symbol others more h.front h.behind h.v is h.parts h.of_first
      stopped symbol others is more v (inr h) =
          apart ((r.front ++ symbol ∷ []) ++ more) (begins_alike r.front symbol more others
          ∙ ap is_tested (sym (r.parts ∙ ap (λ t. r.front ++ t) is)) ∙ tested) h.1.0

  -- pieces stand behind it
  pub behind_test : (found : TriggerContents) (middle rest : List ℕ) → test_at old
      ≡ Ok (found, middle) → Stops pieces middle rest → Stops display_line old rest
  behind_test found middle rest e s = record {
    front = q.0 ++ s.front;
    parts = q.1 ∙ ap (λ t. q.0 ++ t) s.parts ∙ sym (append_assoc q.0 s.front rest);
    viable = viable-by s.viable.more (record { test = Some found; pieces = s.viable.v })
        (inl (then-spelled q.0 (s.front ++ s.viable.more) found
        (append_assoc q.0 s.front s.viable.more) q.2 (then-spelled (s.front ++ s.viable.more) []
        s.viable.v (sym (append-nil (s.front ++ s.viable.more))) s.viable.whole none-spelled)));
    halts = λ symbol others is viable. stopped symbol others is viable.more viable.v viable.whole;
  }
    where
      q : (front : List ℕ) × (old ≡ front ++ middle) × test front found
      q = closed-test.cuts old found middle e

      stopped : (symbol : ℕ) (others : List ℕ) → rest ≡ symbol ∷ others → (more : List ℕ)
          (v : LineContents) → display_line (((q.0 ++ s.front) ++ symbol ∷ []) ++ more) v → ⊥
      stopped symbol others is more v (inl h) =
          let x = (s.front ++ symbol ∷ []) ++ more in
          let whole : ((q.0 ++ s.front) ++ symbol ∷ []) ++ more ≡ q.0 ++ x =
          ap (λ t. t ++ more) (append_assoc q.0 s.front (symbol ∷ []))
          ∙ append_assoc q.0 (s.front ++ symbol ∷ []) more in
          let one : test_at (q.0 ++ x) ≡ Ok (found, x) = closed-test.reads q.0 x found q.2 in
          let two : test_at (h.front ++ h.behind) ≡ Ok (h.v, h.behind) =
          closed-test.reads h.front h.behind h.v h.of_first in
          let same : ◌≡◌ {A = Outcome ℕ TriggerContents} (Ok (found, x)) (Ok (h.v, h.behind)) =
          sym one ∙ ap test_at (sym whole ∙ h.parts) ∙ two in
          let left : x ≡ h.behind = ap rest_of same in
          let line = h.of_next.parts ∙ ap (λ t. h.of_next.front ++ t) h.of_next.of_next.empty
          ∙ append-nil h.of_next.front in
          s.halts symbol others is
          (viable-by more h.of_next.v
          (subst (λ t. pieces t h.of_next.v) (sym (left ∙ line)) h.of_next.of_first))
      stopped symbol others is more v (inr h) =
          let whole : ((q.0 ++ s.front) ++ symbol ∷ []) ++ more ≡ q.0 ++ ((s.front ++ symbol ∷ []) ++ more) =
          ap (λ t. t ++ more) (append_assoc q.0 s.front (symbol ∷ []))
          ∙ append_assoc q.0 (s.front ++ symbol ∷ []) more in
          apart (((q.0 ++ s.front) ++ symbol ∷ []) ++ more) (ap is_tested whole
          ∙ test_begins q.0 found ((s.front ++ symbol ∷ []) ++ more) q.2) h.1.0

-- the line "x" is one
some_line : Viable display_line []
unfolding last_line_of pieces_of
some_line = viable-by (codes "x") (untested_with (Bytes (codes "x") ∷ [])) (inr
    ((λ e. cc e), exact-last_line.spells (codes "x") (untested_with (Bytes (codes "x") ∷ [])) refl))

-- a line without a test
pub without_test : (old rest : List ℕ) → is_tested old ≡ false → Stops pieces old rest → Stops display_line old rest
without_test old rest other s = record {
  front = s.front;
  parts = s.parts;
  viable = by_front s.front s.parts s.viable;
  halts = λ symbol others is viable. stopped symbol others is viable.more viable.v viable.whole;
}
  where
    by_front : (front : List ℕ) → old ≡ front ++ rest → Viable pieces front → Viable display_line front
    by_front [] parts viable = some_line
    by_front (c ∷ front) parts viable = viable-by viable.more (untested_with viable.v)
        (inr (
          (λ e. cc e),
          (
            subst (λ t. is_tested t ≡ false) parts other,
            then-spelled ((c ∷ front) ++ viable.more) [] viable.v
                (sym (append-nil ((c ∷ front) ++ viable.more))) viable.whole none-spelled,
          ),
        ))

    stopped : (symbol : ℕ) (others : List ℕ) → rest ≡ symbol ∷ others
        → (more : List ℕ) (v : LineContents) → display_line ((s.front ++ symbol ∷ []) ++ more) v → ⊥
    stopped symbol others is more v (inl h) =
        apart ((s.front ++ symbol ∷ []) ++ more) (ap is_tested h.parts ∙ test_begins h.front h.v h.behind h.of_first)
        (begins_alike s.front symbol more others ∙ ap is_tested (sym (s.parts ∙ ap (λ t. s.front ++ t) is)) ∙ other)
    stopped symbol others is more v (inr h) =
        let u = h.1.1 in
        let line = u.parts ∙ ap (λ t. u.front ++ t) u.of_next.empty ∙ append-nil u.front in
        s.halts symbol others is
        (viable-by more u.v (subst (λ t. pieces t u.v) (sym line) u.of_first))

-- ---- what calls say

pub test_fault : (fault : Fault) (old rest : List ℕ) → is_tested old ≡ true
    → GivesUnlessFull {X = TriggerText} trigger_contents (Err fault) rest (test_at old)
    → StopsLine (Err fault) old rest
test_fault Stop old rest tested e = no_test old tested rest e
test_fault Memory old rest tested e = tt

pub after_test : (result : Result (Unit {0}) Fault) (old middle new : List ℕ)
    (found : TriggerContents) → is_tested old ≡ true → test_at old ≡ Ok (found, middle)
    → StopsPieces result middle new → StopsLine result old new
after_test (Ok done) old middle new found tested e s = behind_test old tested found middle new e s.0
after_test (Err Stop) old middle new found tested e s = behind_test old tested found middle new e s
after_test (Err Memory) old middle new found tested e s = tt

pub untested_stops : (result : Result (Unit {0}) Fault) (old new : List ℕ) → is_tested old ≡ false
    → StopsPieces result old new → StopsLine result old new
untested_stops (Ok done) old new other s = without_test old new other s.0
untested_stops (Err Stop) old new other s = without_test old new other s
untested_stops (Err Memory) old new other s = tt

-- the place where a line stops
pub line_place : (line start rest : List ℕ) (place : ℕ) → start ≡ drop 0 line → place
    ≡ length line - length rest → Stops display_line start rest → IsBadPlace display_line line place
line_place line start rest place starts is s =
    subst (IsBadPlace display_line line) (sym is)
    (stops_place display_line line rest (subst (λ t. Stops display_line t rest) starts s))
