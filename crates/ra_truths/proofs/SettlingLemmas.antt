-- One more truth is set to the wanted one: what flipped is listed, and there is room for it.
use Rattle.std.proofs.Common.{◌≡◌, ◌≢◌, ◌⊎◌, ℕ, zero, suc, ◌+◌, ◌<◌, ◌≤◌, inl, inr, Bool, true, false, cond, List, []}
use Rattle.std.proofs.Common.{◌∷◌, ◌++◌, length, get_or, set, refl, sym, subst, ap, ◌∙◌, arith, length-append}
use Rattle.std.proofs.lemmas.List.{get_or_append_left, get_or-set_same, get_or-set_other, length-set, ext_get_or}
use Rattle.std.proofs.Math.Seq.{get_or-append_seam}
use Rattle.std.proofs.lemmas.Bool.{cases_eq, cases_lt, false≢true}
use Rattle.ra_memref.specs.Table.{IsListed}
use Rattle.ra_truths.specs.Kept.{KeptSeen, differ, put_in}
use Rattle.ra_truths.specs.Settling.{Settles, unsettled}

-- the test tells whether two truths are the same
pub differ_tells : (a b : Bool) → ((differ a b ≡ true) × (a ≢ b)) ⊎ ((differ a b ≡ false) × (a ≡ b))
differ_tells true true = inr (refl, refl)
differ_tells true false = inl (refl, λ e. false≢true (sym e))
differ_tells false true = inl (refl, λ e. false≢true e)
differ_tells false false = inr (refl, refl)

differ_none : (a : Bool) → differ a a ≡ false
differ_none true = refl
differ_none false = refl

one_at_most : (b : Bool) → cond b 1 0 ≤ 1
one_at_most true = omega arith
one_at_most false = omega arith

pub unsettled_most : (truths wanted : List Bool) → unsettled truths wanted ≤ length wanted
unsettled_most [] wanted = omega arith
unsettled_most (x ∷ truths) [] = omega arith
unsettled_most (x ∷ truths) (y ∷ wanted) =
    omega (arith, one_at_most (differ x y), unsettled_most truths wanted)

-- one that is not the wanted one is set to it
pub unsettled_put : (truths wanted : List Bool) (n : ℕ) → n < length truths → length truths ≡ length wanted
    → differ (get_or truths n false) (get_or wanted n false) ≡ true
    → unsettled (set truths n (get_or wanted n false)) wanted + 1 ≡ unsettled truths wanted
unsettled_put [] wanted n within long other = absurd (omega (arith, within))
unsettled_put (x ∷ truths) [] n within long other = absurd (omega (arith, long))
unsettled_put (x ∷ truths) (y ∷ wanted) zero within long other =
    rw (differ_none y, other) (omega arith)
unsettled_put (x ∷ truths) (y ∷ wanted) (suc n) within long other =
    let rest = unsettled_put truths wanted n (omega (arith, within)) (omega (arith, long)) other in
    omega (arith, rest)

-- a number that stands in a list stands in a longer one
pub listed_more : (n : ℕ) (numbers more : List ℕ) → IsListed n numbers → IsListed n (numbers ++ more)
listed_more n numbers more is = record {
  place = is.place;
  within = omega (arith, is.within, length-append numbers more);
  here = get_or_append_left numbers more 0 is.place is.within ∙ is.here;
}

-- the last one of a list stands there
listed_last : (n : ℕ) (numbers : List ℕ) → IsListed n (numbers ++ n ∷ [])
listed_last n numbers = record {
  place = length numbers;
  within = omega (arith, length-append numbers (n ∷ []));
  here = get_or-append_seam numbers n [] 0;
}

-- what stands in a list with one more at its end stood there, or is that one
listed_or_last : (k n : ℕ) (numbers : List ℕ) → IsListed k (numbers ++ n ∷ []) → IsListed k numbers ⊎ (k ≡ n)
listed_or_last k n numbers is = elim (cases_lt is.place (length numbers)) [
  | inl before ↦ inl (record {
    place = is.place;
    within = before;
    here = sym (get_or_append_left numbers (n ∷ []) 0 is.place before) ∙ is.here;
  })
  | inr after ↦
      let end : is.place ≡ length numbers = omega (arith, is.within, after, length-append numbers (n ∷ [])) in
      inr (sym is.here ∙ ap (λ i. get_or (numbers ++ n ∷ []) i 0) end ∙ get_or-append_seam numbers n [] 0)
]

module _ (wanted : List Bool) (old : KeptSeen) where
  -- nothing was set yet
  pub settles_none : old.flipped ≡ [] → length old.truths ≡ length wanted → Settles wanted old old
  settles_none none long = record {
    long = long;
    either = λ k. inr refl;
    each = λ k other. absurd (other refl);
    only = λ k is. absurd (omega (arith, is.within, ap length none));
    room = omega (arith, ap length none, unsettled_most old.truths wanted);
  }

  module _ (now : KeptSeen) (settles : Settles wanted old now) where
    -- once all are the wanted ones, these are the truths
    pub settled_all : ((k : ℕ) → k < length wanted → get_or now.truths k false ≡ get_or wanted k false)
        → now.truths ≡ wanted
    settled_all all =
        ext_get_or false now.truths wanted settles.long (λ k below. all k (omega (arith, below, settles.long)))

    module _ (n : ℕ) (within : n < length wanted) where
      pub room_for : get_or now.truths n false ≢ get_or wanted n false → length now.flipped < length now.truths
      room_for apart = elim (differ_tells (get_or now.truths n false) (get_or wanted n false)) [
        | inl d ↦ omega (
          arith,
          settles.long,
          settles.room,
          unsettled_put now.truths wanted n (omega (arith, within, settles.long)) settles.long d.0,
        )
        | inr s ↦ absurd (apart s.1)
      ]

      abbrev after : KeptSeen
      after = record { truths = set now.truths n (get_or wanted n false); flipped = now.flipped ++ n ∷ [] }

      here : get_or after.truths n false ≡ get_or wanted n false
      here = get_or-set_same now.truths n (get_or wanted n false) false (omega (arith, within, settles.long))

      other : (k : ℕ) → k ≢ n → get_or after.truths k false ≡ get_or now.truths k false
      other k apart = get_or-set_other now.truths n k (get_or wanted n false) false apart

      was_other : get_or now.truths n false ≢ get_or wanted n false → get_or old.truths n false ≢ get_or wanted n false
      was_other apart same = elim (settles.either n) [
        | inl settled ↦ apart settled
        | inr as_old ↦ apart (as_old ∙ same)
      ]

      flips : differ (get_or now.truths n false) (get_or wanted n false) ≡ true
          → get_or now.truths n false ≢ get_or wanted n false → Settles wanted old after
      flips told apart = record {
        long = length-set now.truths n (get_or wanted n false) ∙ settles.long;
        either = λ k. elim (cases_eq k n) [
          | inl e ↦ inl (subst (λ i. get_or after.truths i false ≡ get_or wanted i false) (sym e) here)
          | inr out ↦ elim (settles.either k) [
            | inl settled ↦ inl (other k out ∙ settled)
            | inr as_old ↦ inr (other k out ∙ as_old)
          ]
        ];
        each = λ k differs. elim (cases_eq k n) [
          | inl e ↦ subst (λ i. IsListed i after.flipped) (sym e) (listed_last n now.flipped)
          | inr out ↦ listed_more k now.flipped (n ∷ []) (settles.each k (λ e. differs (e ∙ sym (other k out))))
        ];
        only = λ k is. elim (listed_or_last k n now.flipped is) [
          | inl before ↦ settles.only k before
          | inr e ↦
              subst (λ i. (i < length wanted) × (get_or old.truths i false ≢ get_or wanted i false)) (sym e)
              (within, was_other apart)
        ];
        room = omega (
          arith,
          length-append now.flipped (n ∷ []),
          settles.room,
          unsettled_put now.truths wanted n (omega (arith, within, settles.long)) settles.long told,
        );
      }

      -- one more truth is set to the wanted one
      pub settles_put : Settles wanted old (put_in now n (get_or wanted n false))
      settles_put = elim (differ_tells (get_or now.truths n false) (get_or wanted n false)) [
        | inl d ↦ rw d.0 (flips d.0 d.1)
        | inr s ↦ rw s.0 settles
      ]

    -- a wanted truth stays
    pub wanted_stays : (n k : ℕ) → n < length wanted → get_or now.truths k false ≡ get_or wanted k false
        → get_or (put_in now n (get_or wanted n false)).truths k false ≡ get_or wanted k false
    wanted_stays n k within is = elim (differ_tells (get_or now.truths n false) (get_or wanted n false)) [
      | inl d ↦ rw d.0 (elim (cases_eq k n) [
        | inl e ↦ subst (λ i. get_or (after n within).truths i false ≡ get_or wanted i false) (sym e) (here n within)
        | inr out ↦ other n within k out ∙ is
      ])
      | inr s ↦ rw s.0 is
    ]

    -- and the one that is put is wanted
    pub wanted_put : (n : ℕ) → n < length wanted
        → get_or (put_in now n (get_or wanted n false)).truths n false ≡ get_or wanted n false
    wanted_put n within = elim (differ_tells (get_or now.truths n false) (get_or wanted n false)) [
      | inl d ↦ rw d.0 (here n within)
      | inr s ↦ rw s.0 s.1
    ]
