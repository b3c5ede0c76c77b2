-- The loop that reads the items of a chain one after the other.
use Rattle.std.proofs.Common.{◌≡◌, ◌∙◌, ℕ, zero, suc, ◌<◌, ◌≤◌, Bool, true, false, List, [], ◌∷◌, ◌++◌, length, Option}
use Rattle.std.proofs.Common.{Some, None, Ok, Err, refl, sym, ap, subst, arith, append_assoc, append-nil, le_refl}
use Rattle.ra_text.specs.Reading.{Outcome, rest_of, ◌>>=◌, ends_at, chain_at, joined_at}

module _ {A T S V : Type 0} (separator : S → A → Option T) (item_at : S → T → List A → Outcome A V)
    (step : S → V → S) (done : S → Bool) where
  -- the items behind those so far, with as many turns as symbols are left
  abbrev pub rest_at : S → List A → Outcome A (List V)
  rest_at s text = chain_at separator item_at step done (length text) s text

  -- What the whole reading gives is what the items behind those so far give, with these before them.
  pub record Looping (so_far : List V) (s : S) (text : List A) (whole : Outcome A (List V)) : Type 0 where
    pub is : whole ≡ (rest_at s text >>= λ others. Ok (so_far ++ others.0, others.1))

  -- more turns than symbols change nothing
  module _ (shorter : (s : S) (tag : T) (text : List A) → length (rest_of (item_at s tag text)) ≤ length text) where
    turns : (m n : ℕ) (s : S) (text : List A) → length text ≤ m → length text ≤ n → chain_at
        separator item_at step done m s text ≡ chain_at separator item_at step done n s text
    turns zero zero s text a b = refl
    turns zero (suc n) s [] a b = refl
    turns zero (suc n) s (c ∷ text) a b = absurd (omega arith)
    turns (suc m) zero s [] a b = refl
    turns (suc m) zero s (c ∷ text) a b = absurd (omega arith)
    turns (suc m) (suc n) s [] a b = refl
    turns (suc m) (suc n) s (c ∷ text) a b = decided (separator s c) (λ s' text' a' b'. turns m n s' text' a' b') where
      next : (outcome : Outcome A V) → length (rest_of outcome) ≤ length text
          → ((s' : S) (text' : List A) → length text' ≤ m → length text' ≤ n → chain_at separator
          item_at step done m s' text' ≡ chain_at separator item_at step done n s' text')
          → (outcome >>= λ v. chain_at separator item_at step done m (step s v.0) v.1
          >>= λ vs. Ok (v.0 ∷ vs.0, vs.1)) ≡ (outcome >>= λ v. chain_at separator item_at step done
          n (step s v.0) v.1 >>= λ vs. Ok (v.0 ∷ vs.0, vs.1))
      next (Ok v) short same = ap (λ o. o >>= λ vs. Ok (v.0 ∷ vs.0, vs.1))
          (same (step s v.0) v.1 (omega arith) (omega arith))
      next (Err rest) short same = refl

      decided : (found : Option T)
          → ((s' : S) (text' : List A) → length text' ≤ m → length text' ≤ n → chain_at separator
          item_at step done m s' text' ≡ chain_at separator item_at step done n s' text')
          → ◌≡◌ {A = Outcome A (List V)} (elim found [
            | Some tag ↦ item_at s tag text >>= λ v. chain_at separator item_at step done m
                (step s v.0) v.1 >>= λ vs. Ok (v.0 ∷ vs.0, vs.1)
            | None ↦ ends_at (done s) (c ∷ text)
          ])
          (elim found [
            | Some tag ↦ item_at s tag text >>= λ v. chain_at separator item_at step done n
                (step s v.0) v.1 >>= λ vs. Ok (v.0 ∷ vs.0, vs.1)
            | None ↦ ends_at (done s) (c ∷ text)
          ])
      decided (Some tag) same = next (item_at s tag text) (shorter s tag text) same
      decided None same = refl

    -- a separator, and then an item
    rest-item : (s : S) (c : A) (tag : T) (text : List A) → separator s c ≡ Some tag
        → rest_at s (c ∷ text)
        ≡ (item_at s tag text >>= λ v. rest_at (step s v.0) v.1 >>= λ vs. Ok (v.0 ∷ vs.0, vs.1))
    rest-item s c tag text listed = ap (chosen s c text) listed ∙ next (item_at s tag text) (shorter s tag text) where
      chosen : (s : S) (c : A) (text : List A) → Option T → Outcome A (List V)
      chosen s c text found = elim found [
        | Some tag ↦ item_at s tag text >>= λ v. chain_at separator item_at step done (length text)
            (step s v.0) v.1 >>= λ vs. Ok (v.0 ∷ vs.0, vs.1)
        | None ↦ ends_at (done s) (c ∷ text)
      ]

      next : (outcome : Outcome A V) → length (rest_of outcome) ≤ length text
          → (outcome >>= λ v. chain_at separator item_at step done (length text) (step s v.0) v.1
          >>= λ vs. Ok (v.0 ∷ vs.0, vs.1))
          ≡ (outcome >>= λ v. rest_at (step s v.0) v.1 >>= λ vs. Ok (v.0 ∷ vs.0, vs.1))
      next (Ok v) short = ap (λ o. o >>= λ vs. Ok (v.0 ∷ vs.0, vs.1))
          (turns (length text) (length v.1) (step s v.0) v.1 short (le_refl (length v.1)))
      next (Err rest) short = refl

    -- the item behind a separator was read: it is one of those so far
    pub loop-next : (so_far : List V) (s : S) (c : A) (tag : T) (text : List A)
        (whole : Outcome A (List V)) (v : V) (rest : List A) → separator s c ≡ Some tag
        → item_at s tag text ≡ Ok (v, rest) → Looping so_far s (c ∷ text) whole
        → Looping (so_far ++ v ∷ []) (step s v) rest whole
    loop-next so_far s c tag text whole v rest listed read l = record {
      is = l.is ∙ ap (λ o. o >>= λ others. Ok (so_far ++ others.0, others.1))
          (rest-item s c tag text listed ∙ ap (λ o. o >>= λ v. rest_at (step s v.0) v.1
          >>= λ vs. Ok (v.0 ∷ vs.0, vs.1)) read) ∙ regroup (rest_at (step s v) rest);
    } where
      regroup : (o : Outcome A (List V)) → ((o >>= λ vs. Ok (v ∷ vs.0, vs.1))
          >>= λ others. Ok (so_far ++ others.0, others.1))
          ≡ (o >>= λ others. Ok ((so_far ++ v ∷ []) ++ others.0, others.1))
      regroup (Ok x) = ap (λ t. Ok (t, x.1)) (sym (append_assoc so_far (v ∷ []) x.0))
      regroup (Err rest) = refl

    -- no item stands behind a separator: nothing is read
    pub loop-fails : (so_far : List V) (s : S) (c : A) (tag : T) (text : List A)
        (whole : Outcome A (List V)) (rest : List A) → separator s c ≡ Some tag → item_at s tag text
        ≡ Err rest → Looping so_far s (c ∷ text) whole → whole ≡ Err rest
    loop-fails so_far s c tag text whole rest listed fails l = l.is ∙ ap (λ o. o >>= λ others. Ok
        (so_far ++ others.0, others.1)) (rest-item s c tag text listed ∙ ap (λ o. o >>= λ v. rest_at
        (step s v.0) v.1 >>= λ vs. Ok (v.0 ∷ vs.0, vs.1)) fails)

  -- no separator is next: the items are those so far, where the text may end
  rest-end : (s : S) (text : List A) → ((c : A) (t : List A) → text ≡ c ∷ t → separator s c ≡ None)
      → rest_at s text ≡ ends_at (done s) text
  rest-end s [] none = refl
  rest-end s (c ∷ text) none = ap (λ (found : Option T). elim found [
    | Some tag ↦ item_at s tag text >>= λ v. chain_at separator item_at step done (length text)
        (step s v.0) v.1 >>= λ vs. Ok (v.0 ∷ vs.0, vs.1)
    | None ↦ ends_at (done s) (c ∷ text)
  ]) (none c text refl)

  pub loop-ends : (so_far : List V) (s : S) (text : List A) (whole : Outcome A (List V))
      → ((c : A) (t : List A) → text ≡ c ∷ t → separator s c ≡ None) → done s ≡ true
      → Looping so_far s text whole → whole ≡ Ok (so_far, text)
  loop-ends so_far s text whole none may l = l.is
      ∙ ap (λ o. o >>= λ others. Ok (so_far ++ others.0, others.1)) (rest-end s text none
      ∙ ap (λ b. ends_at b text) may) ∙ ap (λ t. Ok (t, text)) (append-nil so_far)

  pub loop-stops : (so_far : List V) (s : S) (text : List A) (whole : Outcome A (List V))
      → ((c : A) (t : List A) → text ≡ c ∷ t → separator s c ≡ None) → done s ≡ false
      → Looping so_far s text whole → whole ≡ Err text
  loop-stops so_far s text whole none may l = l.is ∙ ap (λ o. o >>= λ others. Ok
      (so_far ++ others.0, others.1)) (rest-end s text none ∙ ap (λ b. ends_at b text) may)

-- The same for items of one form, with one kind of separator between them.
module _ {A T V : Type 0} (separator : A → Option T) (item_at : List A → Outcome A V) where
  abbrev pub JoinedSoFar : List V → List A → Outcome A (List V) → Type 0
  JoinedSoFar so_far text whole = Looping {S = Unit {0}} (λ s. separator) (λ s tag. item_at)
      (λ s v. s) (λ s. true) so_far tt text whole

  -- a first item was read, or none
  pub joined-starts : (text : List A) (v : V) (rest : List A) → item_at text ≡ Ok (v, rest)
      → JoinedSoFar (v ∷ []) rest (joined_at separator item_at text)
  joined-starts text v rest read =
      record {
        is = ap (λ o. o >>= λ first. rest_at {S = Unit {0}} (λ s. separator) (λ s tag. item_at)
            (λ s v. s) (λ s. true) tt first.1 >>= λ others. Ok (first.0 ∷ others.0, others.1)) read;
      }

  pub joined-none : (text rest : List A) → item_at text ≡ Err rest → joined_at separator item_at text ≡ Err rest
  joined-none text rest fails = ap (λ o. o >>= λ first. rest_at {S = Unit {0}} (λ s. separator)
      (λ s tag. item_at) (λ s v. s) (λ s. true) tt first.1
      >>= λ others. Ok (first.0 ∷ others.0, others.1)) fails

  module _ (shorter : (text : List A) → length (rest_of (item_at text)) ≤ length text) where
    -- a separator was passed, and the item behind it was read, or none
    pub joined-next : (so_far : List V) (c : A) (tag : T) (text old : List A) (whole : Outcome A
        (List V)) (v : V) (rest : List A) → separator c ≡ Some tag → old ≡ c ∷ text → item_at text
        ≡ Ok (v, rest) → JoinedSoFar so_far old whole → JoinedSoFar (so_far ++ v ∷ []) rest whole
    joined-next so_far c tag text old whole v rest listed is read l = loop-next {S = Unit {0}}
        (λ s. separator) (λ s tag. item_at) (λ s v. s) (λ s. true) (λ s tag. shorter) so_far tt c
        tag text whole v rest listed read (subst (λ t. JoinedSoFar so_far t whole) is l)

    pub joined-fails : (so_far : List V) (c : A) (tag : T) (text old : List A)
        (whole : Outcome A (List V)) (rest : List A) → separator c ≡ Some tag → old ≡ c ∷ text
        → item_at text ≡ Err rest → JoinedSoFar so_far old whole → whole ≡ Err rest
    joined-fails so_far c tag text old whole rest listed is fails l = loop-fails {S = Unit {0}}
        (λ s. separator) (λ s tag. item_at) (λ s v. s) (λ s. true) (λ s tag. shorter) so_far tt c
        tag text whole rest listed fails (subst (λ t. JoinedSoFar so_far t whole) is l)

    -- less is left behind a separator and an item
    pub joined-smaller : (c : A) (text old : List A) (v : V) (rest : List A) → old ≡ c ∷ text
        → item_at text ≡ Ok (v, rest) → length rest < length old
    joined-smaller c text old v rest is read =
        let left : length rest ≤ length text = subst (λ o. length (rest_of o) ≤ length text) read (shorter text) in
        omega (arith, ap length is)
