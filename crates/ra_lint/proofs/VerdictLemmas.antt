-- What the ranges say of a comparison holds of the numbers in them.
use Rattle.std.proofs.Common.{◌≡◌, ℕ, min, max, Bool, true, false, not, cond, refl, ap, subst, arith}
use Rattle.std.proofs.lemmas.Bool.{true≢false, false≢true, leb-true, ltb-true, leb-false, ltb-false, lt-ltb, le-leb}
use Rattle.std.proofs.lemmas.Bool.{not-true, not-false, le-ltb, lt-leb, ne_eqb, eq-eqb}
use Rattle.ra_operand.specs.declared.op.Op.{Op}
use Rattle.ra_operand.specs.declared.op.Op.TheVariants.{Bare, Eq, Ne, Lt, Le, Gt, Ge}
use Rattle.ra_operand.specs.Operators.{compared}
use Rattle.ra_memory.specs.Image.{History}
use Rattle.ra_indirect.specs.Trees.{Tree, same_tree}
use Rattle.ra_indirect.proofs.SameLemmas.{tree_is}
use Rattle.ra_memref.specs.Values.{Start, value_of}
use Rattle.ra_lint.specs.declared.range.Range.{Range}
use Rattle.ra_lint.specs.Ranges.{range_of}
use Rattle.ra_lint.specs.Sound.{IsIn, HasSmallConstants}
use Rattle.ra_lint.specs.Verdicts.{is_reflexive, some_meet, all_meet, are_one, meet, is_never, is_always}
use Rattle.ra_lint.proofs.TreeLemmas.{value_in}

-- a number compared with itself
reflexive : (op : Op) (x : ℕ) → is_reflexive op ≡ true → compared op x x ≡ true
reflexive Bare x e = refl
reflexive Eq x e = eq-eqb x x refl
reflexive Le x e = le-leb x x (omega arith)
reflexive Ge x e = le-leb x x (omega arith)
reflexive _ x e = absurd (false≢true e)

irreflexive : (op : Op) (x : ℕ) → is_reflexive op ≡ false → compared op x x ≡ false
irreflexive Bare x e = absurd (true≢false e)
irreflexive Eq x e = absurd (true≢false e)
irreflexive Le x e = absurd (true≢false e)
irreflexive Ge x e = absurd (true≢false e)
irreflexive Ne x e = ap not (eq-eqb x x refl)
irreflexive Lt x e = le-ltb x x (omega arith)
irreflexive Gt x e = le-ltb x x (omega arith)
irreflexive _ x e = refl

module _ (r s : Range) (x y : ℕ) (p : IsIn x r) (q : IsIn y s) where
  pub one_is : are_one r s ≡ true → x ≡ y
  one_is e = grind (arith, e, p.least, p.greatest, q.least, q.greatest)

  -- none meet it
  pub none_meets : (op : Op) → some_meet op r s ≡ false → compared op x y ≡ false
  none_meets Bare e = absurd (true≢false e)
  none_meets Eq e = grind (arith, e, p.least, p.greatest, q.least, q.greatest)
  none_meets Ne e = ap not (eq-eqb x y (one_is (not-false (are_one r s) e)))
  none_meets Lt e = le-ltb x y (omega (arith, ltb-false r.least s.greatest e, p.least, q.greatest))
  none_meets Le e = lt-leb x y (omega (arith, leb-false r.least s.greatest e, p.least, q.greatest))
  none_meets Gt e = le-ltb y x (omega (arith, ltb-false s.least r.greatest e, p.greatest, q.least))
  none_meets Ge e = lt-leb y x (omega (arith, leb-false s.least r.greatest e, p.greatest, q.least))
  none_meets _ e = refl

  -- all meet it
  pub each_meets : (op : Op) → all_meet op r s ≡ true → compared op x y ≡ true
  each_meets Bare e = refl
  each_meets Eq e = eq-eqb x y (one_is e)
  each_meets Ne e = ap not (ne_eqb x y
      (λ same. absurd (omega (
        arith,
        same,
        leb-false (max r.least s.least) (min r.greatest s.greatest)
            (not-true (meet r s) e),
        p.least,
        p.greatest,
        q.least,
        q.greatest,
      ))))
  each_meets Lt e = lt-ltb x y (omega (arith, ltb-true r.greatest s.least e, p.greatest, q.least))
  each_meets Le e = le-leb x y (omega (arith, leb-true r.greatest s.least e, p.greatest, q.least))
  each_meets Gt e = lt-ltb y x (omega (arith, ltb-true s.greatest r.least e, p.least, q.greatest))
  each_meets Ge e = le-leb y x (omega (arith, leb-true s.greatest r.least e, p.least, q.greatest))
  each_meets _ e = absurd (false≢true e)

module _ (start : Start) (history : History) (left right : Tree) (small : HasSmallConstants left)
    (small' : HasSmallConstants right) where
  -- a comparison that never holds is false after each history
  pub never_holds : (op : Op) → is_never op left right ≡ true → compared op (value_of start left history)
      (value_of start right history) ≡ false
  never_holds op = by_same (same_tree left right) refl
    where
      by_same : (b : Bool) → same_tree left right ≡ b → cond b (not (is_reflexive op))
          (not (some_meet op (range_of left) (range_of right))) ≡ true → compared op (value_of start left history)
          (value_of start right history) ≡ false
      by_same true same e = subst (λ tree. compared op (value_of start left history)
          (value_of start tree history) ≡ false) (tree_is left right same)
          (irreflexive op (value_of start left history) (not-true (is_reflexive op) e))
      by_same false other e = none_meets (range_of left) (range_of right) (value_of start left history)
          (value_of start right history) (value_in start history left small).0
          (value_in start history right small').0 op (not-true (some_meet op (range_of left) (range_of right)) e)

  -- and one that always holds is true
  pub always_holds : (op : Op) → is_always op left right ≡ true → compared op (value_of start left history)
      (value_of start right history) ≡ true
  always_holds op = by_same (same_tree left right) refl
    where
      by_same : (b : Bool) → same_tree left right ≡ b → cond b (is_reflexive op)
          (all_meet op (range_of left) (range_of right)) ≡ true → compared op (value_of start left history)
          (value_of start right history) ≡ true
      by_same true same e = subst (λ tree. compared op (value_of start left history)
          (value_of start tree history) ≡ true) (tree_is left right same) (reflexive op (value_of start left history) e)
      by_same false other e = each_meets (range_of left) (range_of right) (value_of start left history)
          (value_of start right history) (value_in start history left small).0
          (value_in start history right small').0 op e
