-- Lines with their ends are rows with an LF behind each.
use Rattle.std.proofs.Common.{◌≡◌, ◌∙◌, ◌⊎◌, inl, inr, ℕ, Bool, true, false, List, [], ◌∷◌, ◌++◌, refl, sym, ap, subst}
use Rattle.std.proofs.Common.{subst₂, codes, append-nil, append_assoc}
use Rattle.ra_set.specs.Grammar.{Line, comment, line, line_end, ended_line}
use Rattle.ra_set.proofs.LineReaders.{row, item_line, returns, comment-returned}
use Rattle.ra_text.specs.Form.{One}
use Rattle.ra_text.specs.Table.{lookup, only, marks}
use Rattle.ra_text.proofs.Tables.{listed_in, each-in, each-listed}
use Rattle.ra_text.proofs.Spelled.{then-spelled, none-spelled, one-spelled}

-- a comment is a row that wants no LF
comment-row : (t : List ℕ) (l : Line) → comment t l → row t (l, false)
comment-row t l h = inl (then-spelled t [] l (sym (append-nil t)) h none-spelled)

-- a line that is no comment, without a CR and with one
item-row : (t : List ℕ) (l : Line) → item_line t l → row t (l, false)
item-row t l h = inr (then-spelled t [] l (sym (append-nil t)) h
    (then-spelled [] [] false refl (inr none-spelled) none-spelled))

item-returned : (t : List ℕ) (l : Line) → item_line t l → row (t ++ codes "\r") (l, true)
item-returned t l h = inr (then-spelled t (codes "\r") l refl h
    (then-spelled (codes "\r") [] true refl (inl (one-spelled 13 refl)) none-spelled))

-- a line is a row that wants no LF
pub line-row : (t : List ℕ) (l : Line) → line t l → row t (l, false)
line-row t l (inl h) = comment-row t l h
line-row t l (inr h) = item-row t l h

-- one byte alone in its table
pub one-is : (byte : ℕ) (t : List ℕ) (v : Unit {0}) → One (only (byte ∷ [])) t v → t ≡ byte ∷ []
one-is byte t v h = h.alone ∙ ap (λ c. c ∷ []) (each-in (λ c. c ≡ byte) (byte ∷ [])
    (refl, tt) h.symbol (listed_in (marks (byte ∷ [])) h.symbol (v, h.listed)))

-- LF, or CR LF
pub end-text : (e : List ℕ) (v : Unit {0}) → line_end e v → (e ≡ codes "\n") ⊎ (e ≡ codes "\r\n")
end-text e v h = elim h.of_first [
  | inl return ↦ inr (h.parts ∙ ap (λ x. x ++ h.behind) (one-is 13 h.front h.v return)
      ∙ ap (λ x. codes "\r" ++ x) (one-is 10 h.behind v h.of_next))
  | inr none ↦ inl (h.parts ∙ ap (λ x. x ++ h.behind) none.empty ∙ one-is 10 h.behind v h.of_next)
]

pub lf : line_end (codes "\n") tt
lf = then-spelled [] (codes "\n") tt refl (inr none-spelled) (one-spelled 10 refl)

pub crlf : line_end (codes "\r\n") tt
crlf = then-spelled (codes "\r") (codes "\n") tt refl (inl (one-spelled 13 refl))
    (one-spelled 10 refl)

-- a row before an LF
abbrev RowAndEnd : List ℕ → Line → Type 0
RowAndEnd t l = (wants : Bool) × (r : List ℕ) × row r (l, wants) × (t ≡ r ++ codes "\n")

ended-by : (t e : List ℕ) (l : Line) → line t l → (e ≡ codes "\n") ⊎ (e ≡ codes "\r\n") → RowAndEnd (t ++ e) l
ended-by t e l h (inl is) = (false, t, line-row t l h, ap (λ x. t ++ x) is)
ended-by t e l (inl h) (inr is) = (
  false,
  t ++ codes "\r",
  comment-row (t ++ codes "\r") l (comment-returned t l h),
  ap (λ x. t ++ x) is ∙ sym (append_assoc t (codes "\r") (codes "\n")),
)
ended-by t e l (inr h) (inr is) =
    (true, t ++ codes "\r", item-returned t l h, ap (λ x. t ++ x) is ∙ sym (append_assoc t (codes "\r") (codes "\n")))

-- a line with its end is a row and an LF
pub ended-row : (t : List ℕ) (l : Line) → ended_line t l → RowAndEnd t l
ended-row t l h =
    let behind : h.behind ≡ h.of_next.front = h.of_next.parts
    ∙ ap (λ x. h.of_next.front ++ x) h.of_next.of_next.empty ∙ append-nil h.of_next.front in
    subst₂ (λ x v. RowAndEnd x v) (sym (h.parts ∙ ap (λ x. h.front ++ x) behind))
    (sym h.of_next.of_next.is) (ended-by h.front h.of_next.front h.v h.of_first
    (end-text h.of_next.front h.of_next.v h.of_next.of_first))

with-end : (t e : List ℕ) (l : Line) → line t l → line_end e tt → ended_line (t ++ e) l
with-end t e l h end =
    then-spelled t e l refl h (then-spelled e [] tt (sym (append-nil e)) end none-spelled)

-- a CR wants an LF
returned-wants : (t : List ℕ) (wants : Bool) → One (lookup returns) t wants → (t ≡ codes "\r") × (wants ≡ true)
returned-wants t wants h = let byte : h.symbol ≡ 13 = each-in (λ c. c ≡ 13) (codes "\r")
    (refl, tt) h.symbol (listed_in returns h.symbol (wants, h.listed)) in
    (h.alone ∙ ap (λ c. c ∷ []) byte, each-listed (λ b. b ≡ true) returns (refl, tt) h.symbol wants h.listed)

-- what a row is: a line, or one that is no comment with a CR behind it
abbrev pub Cut : List ℕ → Line → Bool → Type 0
Cut t l wants = (line t l × (wants ≡ false)) ⊎ ((u : List ℕ) × line u l × (wants ≡ true) × (t ≡ u ++ codes "\r"))

pub cut : (t : List ℕ) (l : Line) (wants : Bool) → row t (l, wants) → Cut t l wants
cut t l wants (inl h) =
    let same = h.of_next.is in
    let text : t ≡ h.front = h.parts ∙ ap (λ x. h.front ++ x) h.of_next.empty ∙ append-nil h.front in
    inl (subst₂ (λ x v. line x v) (sym text) (sym (ap (λ p. p.0) same)) (inl h.of_first), ap (λ p. p.1) same)
cut t l wants (inr h) =
    let same = h.of_next.of_next.is in
    let behind : h.behind ≡ h.of_next.front = h.of_next.parts
    ∙ ap (λ x. h.of_next.front ++ x) h.of_next.of_next.empty ∙ append-nil h.of_next.front in
    let here : line h.front l = subst (λ v. line h.front v) (sym (ap (λ p. p.0) same)) (inr h.of_first) in
    elim h.of_next.of_first [
      | inl one ↦ let r = returned-wants h.of_next.front h.of_next.v one in inr
          (h.front, here, ap (λ p. p.1) same ∙ r.1, h.parts ∙ ap (λ x. h.front ++ x) (behind ∙ r.0))
      | inr none ↦
          inl (
            subst (λ x. line x l) (sym (h.parts ∙ ap (λ x. h.front ++ x) (behind ∙ none.empty)
                ∙ append-nil h.front)) here,
            ap (λ p. p.1) same ∙ none.is,
          )
    ]

-- a row that wants no LF is a line
pub row-line : (t : List ℕ) (l : Line) → row t (l, false) → line t l
row-line t l h = elim (cut t l false h) [ inl c ↦ c.0 | inr c ↦ absurd (let e = c.2 in cc e) ]

-- a row and an LF are a line with its end
pub row-ended : (t : List ℕ) (l : Line) (wants : Bool) → row t (l, wants) → ended_line (t ++ codes "\n") l
row-ended t l wants h = elim (cut t l wants h) [
  | inl c ↦ with-end t (codes "\n") l c.0 lf
  | inr c ↦ subst (λ x. ended_line x l) (sym (ap (λ x. x ++ codes "\n") c.3
      ∙ append_assoc c.0 (codes "\r") (codes "\n"))) (with-end c.0 (codes "\r\n") l c.1 crlf)
]
