-- What is read of a line whole, and of the form that the line has to have.
use Rattle.std.proofs.Common.{◌≡◌, ◌∙◌, inl, inr, ◌==◌, if◌then◌else◌, codes, eqb-true, subst₂, ℕ, zero, suc, ◌≤◌, ◌<◌}
use Rattle.std.proofs.Common.{Bool, true, false, List, [], ◌∷◌, ◌++◌, length, Option, Some, None, option_map, Ok, Err}
use Rattle.std.proofs.Common.{refl, sym, ap, subst, arith, append_assoc, append-nil, le_refl}
use Rattle.ra_richpresence.specs.Grammar.{many, to_line_end}
use Rattle.ra_richpresence.specs.Reading.{all_at, whole, behind}
use Rattle.ra_text.specs.Form.{Form, Spell, Then, Viable, optional}
use Rattle.ra_text.specs.Reading.{Outcome, rest_of, Reads, ◌>>=◌}
use Rattle.ra_text.specs.Table.{lookup, bytes_for}
use Rattle.ra_text.proofs.Places.{whole-spelled}
use Rattle.ra_text.proofs.Readers.{Reader, reads-of}
use Rattle.ra_text.proofs.Steps.{same-ok, viable-whole, viable-front}
use Rattle.ra_text.proofs.Spelled.{then-spelled, none-spelled, one-spelled}

-- A text of the form is read before whatever stands behind it, and nothing else is read.
pub record Closed {V : Type 0} (form : Form ℕ V) (at : List ℕ → Outcome ℕ V) : Type 0 where
  pub reads : (front rest : List ℕ) (v : V) → form front v → at (front ++ rest) ≡ Ok (v, rest)
  pub cuts : (text : List ℕ) (v : V) (rest : List ℕ) → at text ≡ Ok (v, rest)
      → (front : List ℕ) × (text ≡ front ++ rest) × form front v

-- A line spells a value of the form exactly where it is read so.
pub record Exact {V : Type 0} (form : Form ℕ V) (of : List ℕ → Option V) : Type 0 where
  pub reads : (line : List ℕ) (v : V) → form line v → of line ≡ Some v
  pub spells : (line : List ℕ) (v : V) → of line ≡ Some v → form line v

-- a text of the form is read to its end
pub reads-whole : {A V : Type 0} {form : Form A V} {text : List A} {outcome : Outcome A V}
    → Reads form text outcome → (v : V) → form text v → outcome ≡ Ok (v, [])
reads-whole {A} {V} {form} {text} {outcome} r v h = cases (rest_of outcome) refl where
  cases : (rest : List A) → rest_of outcome ≡ rest → outcome ≡ Ok (v, [])
  cases [] is =
      let all : text ≡ r.front = r.parts ∙ ap (λ t. r.front ++ t) is ∙ append-nil r.front in
      r.only v (subst (λ t. form t v) all h) ∙ ap (λ t. Ok (v, t)) is
  cases (c ∷ rest) is = absurd (r.halts c rest is (viable-front (r.front ++ c ∷ []) rest
      (subst (λ t. Viable form t) (r.parts ∙ ap (λ t. r.front ++ t) is
      ∙ sym (append_assoc r.front (c ∷ []) rest)) (viable-whole text v h))))

-- anything, for the value before it and itself
record Anything {V : Type 0} (v : V) (text : List ℕ) (x : V × List ℕ) : Type 0 where
  is : x ≡ (v, text)

reads-anything : {V : Type 0} (v : V) (text : List ℕ) → Reads (Anything v) text (Ok ((v, text), []))
reads-anything {V} v text = record {
  front = text;
  parts = sym (append-nil text);
  viable = viable-whole text (v, text) (record { is = refl });
  halts = λ symbol rest e viable. absurd (cc e);
  spelled = λ w rest e. record { is = sym (ap (λ p. p.0) (same-ok ((v, text), []) (w, rest) e)) };
  only = λ w h. ap (λ x. Ok (x, [])) (sym h.is);
}

-- what was read before anything
read-before : {V : Type 0} (outcome : Outcome ℕ V) (v : V) (rest : List ℕ)
    → ◌≡◌ {A = Outcome ℕ (V × List ℕ)} (outcome >>= λ x. Ok ((x.0, x.1), [])) (Ok ((v, rest), []))
    → outcome ≡ Ok (v, rest)
read-before (Ok x) v rest e = ap (λ p. Ok (p.0.0, p.0.1)) (same-ok ((x.0, x.1), []) ((v, rest), []) e)
read-before (Err left) v rest e = absurd (cc e)

-- a form that nothing goes on with
pub closed-reader : {V : Type 0} (form : Form ℕ V) (at : List ℕ → Outcome ℕ V)
    → Reader form at (λ c. ⊥) → Closed form at
closed-reader {V} form at r = record {
  reads = λ front rest v h. read-before (at (front ++ rest)) v rest
      (reads-whole (r.before (V × List ℕ) Anything (λ x. Ok ((x.0, x.1), [])) (front ++ rest)
      (λ w left le. reads-anything w left) (λ w c s x k on. on)) (v, rest)
      (then-spelled front rest v refl h (record { is = refl })));
  cuts = λ text v rest e. cut (reads-of form at (λ c. ⊥) r text) v rest e;
} where
  cut : {text : List ℕ} {outcome : Outcome ℕ V} → Reads form text outcome → (v : V) (rest : List ℕ)
      → outcome ≡ Ok (v, rest) → (front : List ℕ) × (text ≡ front ++ rest) × form front v
  cut r v rest e = (r.front, r.parts ∙ ap (λ o. r.front ++ rest_of o) e, r.spelled v rest e)

whole-ok : {V : Type 0} (outcome : Outcome ℕ V) (v : V) → whole outcome ≡ Some v → outcome ≡ Ok (v, [])
whole-ok (Ok (w, [])) v e = ap (λ x. Ok (x, [])) (let same : w ≡ v = cc e in same)
whole-ok (Ok (w, c ∷ rest)) v e = absurd (cc e)
whole-ok (Err rest) v e = absurd (cc e)

-- a form to the end of the line
pub exact-whole : {V : Type 0} (form : Form ℕ V) (at : List ℕ → Outcome ℕ V)
    → ((text : List ℕ) → Reads form text (at text)) → Exact form (λ line. whole (at line))
exact-whole form at reads = record {
  reads = λ line v h. ap whole (reads-whole (reads line) v h);
  spells = λ line v e. whole-spelled v (subst (λ o. Reads form line o) (whole-ok (at line) v e) (reads line));
}

-- a closed form, and behind it another to the end of the line
pub exact-behind : {V W : Type 0} (a : Form ℕ V) (a_at : List ℕ → Outcome ℕ V) (b : V → Form ℕ W)
    (b_of : V → List ℕ → Option W) → Closed a a_at → ((v : V) → Exact (b v) (b_of v))
    → Exact (Then a b) (λ line. behind (a_at line) b_of)
exact-behind {V} {W} a a_at b b_of closed exact = record {
  reads = λ line w h. ap (λ t. behind (a_at t) b_of) h.parts ∙ ap (λ o. behind o b_of)
      (closed.reads h.front h.behind h.v h.of_first) ∙ (exact h.v).reads h.behind w h.of_next;
  spells = λ line w e. spelled line w (a_at line) refl e;
} where
  spelled : (line : List ℕ) (w : W) (outcome : Outcome ℕ V) → a_at line ≡ outcome
      → behind outcome b_of ≡ Some w → Then a b line w
  spelled line w (Ok x) is e =
      let cut : (front : List ℕ) × (line ≡ front ++ x.1) × a front x.0 = closed.cuts line x.0 x.1
      is in then-spelled cut.0 x.1 x.0 cut.1 cut.2 ((exact x.0).spells x.1 w e)
  spelled line w (Err rest) is e = absurd (cc e)

-- a value of a line, changed
pub exact-map : {V W : Type 0} (a : Form ℕ V) (of : List ℕ → Option V) (f : V → W)
    → Exact a of → Exact (Then a (λ v. Spell (f v))) (λ line. option_map f (of line))
exact-map {V} {W} a of f exact = record {
  reads = λ line w h. ap (option_map f) (exact.reads line h.v
      (subst (λ t. a t h.v) (sym (h.parts ∙ ap (λ t. h.front ++ t) h.of_next.empty
      ∙ append-nil h.front)) h.of_first)) ∙ ap (λ x. Some x) (sym h.of_next.is);
  spells = λ line w e. spelled line w (of line) refl e;
} where
  spelled : (line : List ℕ) (w : W) (found : Option V) → of line ≡ found → option_map f found
      ≡ Some w → Then a (λ v. Spell (f v)) line w
  spelled line w (Some v) is e = then-spelled line [] v (sym (append-nil line)) (exact.spells line v
      is) (record { empty = refl; is = (let same : f v ≡ w = cc e in sym same) })
  spelled line w None is e = absurd (cc e)

-- what two values that are one are
same-some : {A : Type 0} {x y : A} → Some x ≡ Some y → x ≡ y
same-some e = cc e

-- ---- items up to the end of the line

module _ {V : Type 0} (item : Form ℕ V) (backslash : V) (item_at : List ℕ → Outcome ℕ V)
    (reads : (front rest : List ℕ) (v : V) → item front v → item_at (front ++ rest) ≡ Ok (v, rest))
    (lone : item_at (92 ∷ []) ≡ Ok (backslash, []))
    (cuts : (text : List ℕ) (v : V) (rest : List ℕ) → (text ≡ 92 ∷ [] → ⊥) → item_at text
    ≡ Ok (v, rest) → (front : List ℕ) × (text ≡ front ++ rest) × item front v)
    (smaller : (text : List ℕ) (v : V) (rest : List ℕ) → item_at text ≡ Ok (v, rest) → length rest < length text) where
  -- what is read where an item was, with so many turns left
  chosen : ℕ → Outcome ℕ V → Option (List V)
  chosen most o = elim o [
    | Ok x ↦ option_map (λ vs. x.0 ∷ vs) (all_at item_at most x.1)
    | Err left ↦ None
  ]

  -- more turns than bytes change nothing
  turns : (m n : ℕ) (text : List ℕ) → length text ≤ m → length text ≤ n → all_at item_at m text ≡ all_at item_at n text
  unfolding chosen
  turns m n [] a b = refl
  turns zero n (c ∷ text) a b = absurd (omega arith)
  turns (suc m) zero (c ∷ text) a b = absurd (omega arith)
  turns (suc m) (suc n) (c ∷ text) a b = cases (item_at (c ∷ text)) refl (λ t a b. turns m n t a b) where
    cases : (o : Outcome ℕ V) → item_at (c ∷ text) ≡ o → ((t : List ℕ) → length t ≤ m → length t ≤ n
        → all_at item_at m t ≡ all_at item_at n t) → chosen m o ≡ chosen n o
    cases (Ok x) is same = let less : length x.1 < length (c ∷ text) = smaller (c ∷ text) x.0 x.1
        is in ap (option_map (λ vs. x.0 ∷ vs)) (same x.1 (omega arith) (omega arith))
    cases (Err rest) is same = refl

  -- an item, and the others behind it
  pub all-next : (text : List ℕ) (v : V) (rest : List ℕ) → item_at text ≡ Ok (v, rest) → all_at
      item_at (length text) text ≡ option_map (λ vs. v ∷ vs) (all_at item_at (length rest) rest)
  unfolding chosen
  all-next [] v rest e = absurd (let less : length rest < 0 = smaller [] v rest e in omega arith)
  all-next (c ∷ text) v rest e =
      let less : length rest < length (c ∷ text) = smaller (c ∷ text) v rest e in
      ap (chosen (length text)) e ∙ ap (option_map (λ vs. v ∷ vs))
      (turns (length text) (length rest) rest (omega arith) (le_refl (length rest)))

  -- the items before the end, one after the other
  pub all-spelled : (text : List ℕ) (vs others : List V) (rest : List ℕ) → (front : List ℕ) → text
      ≡ front ++ rest → many item front vs → all_at item_at (length rest) rest ≡ Some others
      → all_at item_at (length text) text ≡ Some (vs ++ others)
  all-spelled text [] others rest front parts h e =
      subst (λ t. all_at item_at (length t) t ≡ Some others) (sym (parts ∙ ap (λ f. f ++ rest) h)) e
  all-spelled text (v ∷ vs) others rest front parts h e =
      let is : item_at text ≡ Ok (v, h.behind ++ rest) = ap item_at (parts ∙ ap (λ f. f ++ rest)
      h.parts ∙ append_assoc h.front h.behind rest)
      ∙ reads h.front (h.behind ++ rest) v h.of_item in
      all-next text v (h.behind ++ rest) is ∙ ap (option_map (λ vs. v ∷ vs))
      (all-spelled (h.behind ++ rest) vs others rest h.behind refl h.of_others e)

  -- the end of the line: nothing, or a lone backslash
  end-spelled : (text : List ℕ) (last : List V) → optional (lookup (bytes_for (codes "\\")
      (backslash ∷ []))) [] text last → all_at item_at (length text) text ≡ Some last
  end-spelled text last (inl h) = cases (h.symbol == 92) refl h.listed where
    cases : (same : Bool) → (h.symbol == 92) ≡ same → (if same then Some (backslash ∷ []) else None)
        ≡ Some last → all_at item_at (length text) text ≡ Some last
    cases true is e =
        let t : text ≡ 92 ∷ [] = h.alone ∙ ap (λ c. c ∷ []) (eqb-true h.symbol 92 is) in
        let l : backslash ∷ [] ≡ last = cc e in
        all-next text backslash [] (ap item_at t ∙ lone) ∙ ap (λ x. Some x) l
    cases false is e = absurd (cc e)
  end-spelled text last (inr h) = subst (λ t. all_at item_at (length t) t ≡ Some last) (sym h.empty)
      (ap (λ x. Some x) (sym h.is))

  reads-line : (line : List ℕ) (vs : List V) → to_line_end item backslash line vs
      → all_at item_at (length line) line ≡ Some vs
  reads-line line vs h =
      all-spelled line h.v h.of_next.v h.behind h.front h.parts h.of_first
      (end-spelled h.behind h.of_next.v (subst (λ t. optional (lookup (bytes_for (codes "\\")
      (backslash ∷ []))) [] t h.of_next.v) (sym (h.of_next.parts ∙ ap (λ t. h.of_next.front ++ t)
      h.of_next.of_next.empty ∙ append-nil h.of_next.front)) h.of_next.of_first))
      ∙ ap (λ x. Some x) (sym h.of_next.of_next.is)

  -- one item more
  spelled-more : (front rest : List ℕ) (v : V) (vs : List V) → item front v
      → to_line_end item backslash rest vs → to_line_end item backslash (front ++ rest) (v ∷ vs)
  spelled-more front rest v vs first h = then-spelled (front ++ h.front) h.behind (v ∷ h.v)
      (ap (λ t. front ++ t) h.parts ∙ sym (append_assoc front h.front h.behind))
      (record {
        front = front;
        behind = h.front;
        parts = refl;
        of_item = first;
        of_others = h.of_first;
      }) (then-spelled h.of_next.front h.of_next.behind h.of_next.v h.of_next.parts
      h.of_next.of_first
      (record { empty = h.of_next.of_next.empty; is = ap (λ x. v ∷ x) h.of_next.of_next.is }))

  spelled-none : to_line_end item backslash [] []
  spelled-none =
      then-spelled [] [] [] refl refl (then-spelled [] [] [] refl (inr none-spelled) none-spelled)

  spelled-lone : to_line_end item backslash (92 ∷ []) (backslash ∷ [])
  spelled-lone = then-spelled [] (92 ∷ []) [] refl refl
      (then-spelled (92 ∷ []) [] (backslash ∷ []) refl (inl (one-spelled 92 refl)) none-spelled)

  -- the line is a lone backslash
  is_lone : List ℕ → Bool
  is_lone (c ∷ []) = c == 92
  is_lone line = false

  lone-line : (line : List ℕ) → is_lone line ≡ true → line ≡ 92 ∷ []
  unfolding is_lone
  lone-line [] e = absurd (cc e)
  lone-line (c ∷ []) e = ap (λ x. x ∷ []) (eqb-true c 92 e)
  lone-line (c ∷ d ∷ line) e = absurd (cc e)

  lonely : (line : List ℕ) → line ≡ 92 ∷ [] → is_lone line ≡ true
  unfolding is_lone
  lonely line e = subst (λ x. is_lone x ≡ true) (sym e) refl

  spells-line : (most : ℕ) (line : List ℕ) (vs : List V) → all_at item_at most line ≡ Some vs
      → to_line_end item backslash line vs
  unfolding chosen
  spells-line most [] vs e =
      subst (λ x. to_line_end item backslash [] x) (let same : [] ≡ vs = cc e in same) spelled-none
  spells-line zero (c ∷ line) vs e = absurd (cc e)
  spells-line (suc most) (c ∷ line) vs e = cases (item_at (c ∷ line)) refl e (λ t xs f. spells-line most t xs f) where
    others : (v : V) (rest : List ℕ) → item_at (c ∷ line) ≡ Ok (v, rest) → (lonely : Bool)
        → is_lone (c ∷ line) ≡ lonely → (found : Option (List V)) → all_at item_at most rest ≡ found
        → option_map (λ xs. v ∷ xs) found ≡ Some vs
        → ((t : List ℕ) (xs : List V) → all_at item_at most t ≡ Some xs
        → to_line_end item backslash t xs) → to_line_end item backslash (c ∷ line) vs
    others v rest is true l found f e next =
        let t : c ∷ line ≡ 92 ∷ [] = lone-line (c ∷ line) l in
        let same : (v, rest) ≡ (backslash, []) = same-ok (v, rest) (backslash, []) (sym is ∙ ap item_at t ∙ lone) in
        let done : found ≡ Some [] = sym f ∙ ap (λ p. all_at item_at most p.1) same in
        let all : backslash ∷ [] ≡ vs = same-some (ap (λ p. Some (p.0 ∷ [])) (sym same)
        ∙ ap (option_map (λ xs. v ∷ xs)) (sym done) ∙ e) in
        subst₂ (λ t x. to_line_end item backslash t x) (sym t) all spelled-lone
    others v rest is false l (Some xs) f e next =
        let cut : (front : List ℕ) × (c ∷ line ≡ front ++ rest) × item front v = cuts (c ∷ line) v
        rest (λ t. let yes : is_lone (c ∷ line) ≡ true = lonely (c ∷ line) t in cc (yes, l)) is in
        let all : v ∷ xs ≡ vs = cc e in
        subst₂ (λ t x. to_line_end item backslash t x) (sym cut.1) all
        (spelled-more cut.0 rest v xs cut.2 (next rest xs f))
    others v rest is false l None f e next = absurd (cc e)

    cases : (o : Outcome ℕ V) → item_at (c ∷ line) ≡ o → chosen most o ≡ Some vs
        → ((t : List ℕ) (xs : List V) → all_at item_at most t ≡ Some xs
        → to_line_end item backslash t xs) → to_line_end item backslash (c ∷ line) vs
    cases (Ok x) is e next = others x.0 x.1 is (is_lone (c ∷ line)) refl (all_at item_at most x.1) refl e next
    cases (Err rest) is e next = absurd (cc e)

  -- items to the end of the line
  pub exact-all : Exact (to_line_end item backslash) (λ line. all_at item_at (length line) line)
  exact-all = record { reads = reads-line; spells = λ line vs e. spells-line (length line) line vs e }
