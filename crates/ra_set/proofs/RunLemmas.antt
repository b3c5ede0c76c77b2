-- Runs of symbols of a table: their reader, and the loop that passes one.
use Rattle.std.proofs.Common.{◌≡◌, ◌∙◌, ◌<◌, ◌==◌, ℕ, Bool, eqb-true, if◌then◌else◌, arith, true, false, List, [], ◌∷◌}
use Rattle.std.proofs.Common.{◌++◌, length, Option, Some, None, Ok, Err, refl, ap, subst, codes, le_refl, append_assoc}
use Rattle.ra_value_format.specs.declared.format.Format.{Format}
use Rattle.ra_value_format.specs.Formats.{format_of_name}
use Rattle.ra_set.specs.Runs.{run_of, any_but}
use Rattle.ra_set.specs.Reading.{run_at, format_at}
use Rattle.ra_text.specs.Form.{Spell}
use Rattle.ra_text.specs.Reading.{Outcome, ◌>>=◌, begins, taken}
use Rattle.ra_text.specs.Table.{is_in, only}
use Rattle.ra_text.proofs.Begins.{IsListed}
use Rattle.ra_text.proofs.Chains.{reader-chain}
use Rattle.ra_text.proofs.Loops.{Looping, loop-next, loop-ends}
use Rattle.ra_text.proofs.Readers.{Reader, reader-spell}
use Rattle.ra_text.proofs.Steps.{same-ok}
use Rattle.ra_text.proofs.Spelled.{none-spelled, viable-by, link-spelled}

module _ {A V : Type 0} (table : A → Option V) where
  -- as many symbols as stand there
  pub reader-run : Reader (run_of table) (run_at table) (IsListed table)
  reader-run = reader-chain {S = Unit {0}} (λ s. table) (λ s v. Spell v) (λ s v rest. Ok (v, rest))
      (λ s v. s) (λ s. true) (IsListed table) (λ c. ⊥)
      (λ s v. reader-spell v (λ c. ⊥)) (λ s c h on. on) (λ c on. absurd on) (λ s c h. h)
      (λ s. viable-by [] [] (refl, refl)) tt

  -- one symbol more
  pub run-more : (c : A) (v : V) → table c ≡ Some v → (t : List A) (vs : List V) → run_of table t vs
      → run_of table (t ++ c ∷ []) (vs ++ v ∷ [])
  run-more c v listed t [] h =
      link-spelled c v [] [] (ap (λ x. x ++ c ∷ []) h.0) listed none-spelled (refl, refl)
  run-more c v listed t (w ∷ vs) h = link-spelled h.symbol h.tag h.front (h.behind ++ c ∷ [])
      (ap (λ x. x ++ c ∷ []) h.parts ∙ ap (λ x. h.symbol ∷ x) (append_assoc h.front h.behind
      (c ∷ []))) h.separated h.of_item (run-more c v listed h.behind vs h.of_others)

  -- the symbols so far, and what is left, of a text
  abbrev pub RunSoFar : List V → List A → List A → Type 0
  RunSoFar so_far rest text = Looping {S = Unit {0}} (λ s. table) (λ s v rest. Ok (v, rest))
      (λ s v. s) (λ s. true) so_far tt rest (run_at table text)

  nothing-first : (o : Outcome A (List V)) → o ≡ (o >>= λ others. Ok ([] ++ others.0, others.1))
  nothing-first (Ok x) = refl
  nothing-first (Err rest) = refl

  pub run-starts : (text : List A) → RunSoFar [] text text
  run-starts text = record { is = nothing-first (run_at table text) }

  -- a symbol was passed
  pub run-next : (so_far : List V) (c : A) (v : V) (rest text : List A) → table c ≡ Some v
      → RunSoFar so_far (c ∷ rest) text → RunSoFar (so_far ++ v ∷ []) rest text
  run-next so_far c v rest text listed l = loop-next {S = Unit {0}} (λ s. table)
      (λ s v rest. Ok (v, rest)) (λ s v. s) (λ s. true) (λ s v rest. le_refl (length rest)) so_far
      tt c v rest (run_at table text) v rest listed refl l

  -- no symbol of the table is next
  pub run-ends : (so_far : List V) (rest text : List A) → ((c : A) (t : List A) → rest ≡ c ∷ t
      → table c ≡ None) → RunSoFar so_far rest text → run_at table text ≡ Ok (so_far, rest)
  run-ends so_far rest text none l = loop-ends {S = Unit {0}} (λ s. table) (λ s v rest. Ok
      (v, rest)) (λ s v. s) (λ s. true) so_far tt rest (run_at table text) none refl l

-- no byte of the table is next
pub no-next : {V : Type 0} (table : ℕ → Option V) (text : List ℕ) → begins (is_in table) text
    ≡ false → (c : ℕ) (t : List ℕ) → text ≡ c ∷ t → table c ≡ None
no-next {V} table [] none c t is = absurd (cc is)
no-next {V} table (d ∷ text) none c t is = let same : d ≡ c = cc is in
    cases (table c) (subst (λ x. is_in table x ≡ false) same none) where
      cases : (found : Option V) → elim found [ Some v ↦ true | None ↦ false ] ≡ false → found ≡ None
      cases (Some v) e = absurd (cc e)
      cases None e = refl

-- one byte alone is that byte
pub only-byte : (byte c : ℕ) → is_in (only (byte ∷ [])) c ≡ true → c ≡ byte
only-byte byte c e = cases (c == byte) refl e where
  cases : (same : Bool) → (c == byte) ≡ same → elim (if same then Some (tt {0})
      else None) [ Some v ↦ true | None ↦ false ] ≡ true → c ≡ byte
  cases true is e = eqb-true c byte is
  cases false is e = absurd (cc e)

-- ---- the name of a format

-- what two readings that are one answer, and what they leave
pub same-answer : {A V : Type 0} (v w : V) (r s : List A)
    → ◌≡◌ {A = Outcome A V} (Ok (v, r)) (Ok (w, s)) → (v ≡ w) × (r ≡ s)
same-answer v w r s e = let p = same-ok (v, r) (w, s) e in (ap (λ x. x.0) p, ap (λ x. x.1) p)

-- a name of no byte is none
pub format-none : (text rest : List ℕ) → run_at (any_but (codes " \n")) text ≡ Ok ([], rest) → format_at text ≡ Err rest
unfolding format_at
format-none [] rest e = ap (λ t. Err t) (same-answer [] [] [] rest e).1
format-none (c ∷ text) rest e = cases (any_but (codes " \n") c) (run_at (any_but (codes " \n")) text) refl e where
  cases : (found : Option ℕ) (others : Outcome ℕ (List ℕ)) → run_at (any_but (codes " \n")) text ≡ others
      → ◌≡◌ {A = Outcome ℕ (List ℕ)} (elim found [
        | Some v ↦
            others >>= λ vs. Ok (v ∷ vs.0, vs.1)
        | None ↦ Ok ([], c ∷ text)
      ]) (Ok ([], rest))
      → ◌≡◌ {A = Outcome ℕ Format} (taken found c text >>= λ first. run_at (any_but (codes " \n"))
      first.1 >>= λ vs. Ok (format_of_name (first.0 ∷ vs.0), vs.1)) (Err rest)
  cases (Some v) (Ok vs) is e = absurd (let p : v ∷ vs.0 ≡ [] = (same-answer (v ∷ vs.0) [] vs.1 rest e).0 in cc p)
  cases (Some v) (Err t) is e = absurd (cc e)
  cases None others is e = ap (λ t. Err t) (same-answer [] [] (c ∷ text) rest e).1

-- any other name is that of a format
pub format-some : (text : List ℕ) (c : ℕ) (name rest : List ℕ) → run_at (any_but (codes " \n")) text
    ≡ Ok (c ∷ name, rest) → format_at text ≡ Ok (format_of_name (c ∷ name), rest)
unfolding format_at
format-some [] d name rest e = absurd (let p : [] ≡ d ∷ name = (same-answer [] (d ∷ name) [] rest e).0 in cc p)
format-some (c ∷ text) d name rest e =
    cases (any_but (codes " \n") c) (run_at (any_but (codes " \n")) text) refl e where
      cases : (found : Option ℕ) (others : Outcome ℕ (List ℕ)) → run_at (any_but (codes " \n")) text ≡ others
          → ◌≡◌ {A = Outcome ℕ (List ℕ)} (elim found [
            | Some v ↦
                others >>= λ vs. Ok (v ∷ vs.0, vs.1)
            | None ↦ Ok ([], c ∷ text)
          ]) (Ok (d ∷ name, rest))
          → ◌≡◌ {A = Outcome ℕ Format} (taken found c text
          >>= λ first. run_at (any_but (codes " \n")) first.1
          >>= λ vs. Ok (format_of_name (first.0 ∷ vs.0), vs.1)) (Ok (format_of_name (d ∷ name), rest))
      cases (Some v) (Ok vs) is e = let p = same-answer (v ∷ vs.0) (d ∷ name) vs.1 rest e in
          ap (λ o. o >>= λ vs. Ok (format_of_name (v ∷ vs.0), vs.1)) is
          ∙ ap (λ n. Ok (format_of_name n, vs.1)) p.0 ∙ ap (λ t. Ok (format_of_name (d ∷ name), t)) p.1
      cases (Some v) (Err t) is e = absurd (cc e)
      cases None others is e = absurd (let p : [] ≡ d ∷ name = (same-answer [] (d ∷ name) (c ∷ text) rest e).0 in cc p)

-- the format of a run, by its length
pub format-of-run : (text name rest : List ℕ) → run_at (any_but (codes " \n")) text
    ≡ Ok (name, rest) → (0 < length name) → format_at text ≡ Ok (format_of_name name, rest)
format-of-run text [] rest e some = absurd (omega arith)
format-of-run text (c ∷ name) rest e some = format-some text c name rest e

pub no-format : (text name rest : List ℕ) → run_at (any_but (codes " \n")) text ≡ Ok (name, rest)
    → length name ≡ 0 → format_at text ≡ Err rest
no-format text [] rest e none = format-none text rest e
no-format text (c ∷ name) rest e none = absurd (omega (arith, none))

-- a byte of a class without some bytes is that byte
pub any_but-is : (others : List ℕ) (c v : ℕ) → any_but others c ≡ Some v → c ≡ v
any_but-is others c v e = cases (is_in (only others) c) e where
  cases : (other : Bool) → (if other then None else Some c) ≡ Some v → c ≡ v
  cases true e = absurd (cc e)
  cases false e = cc e
