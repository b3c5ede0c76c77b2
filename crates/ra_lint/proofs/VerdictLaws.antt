-- Ranges are judged by all numbers in them.
use Rattle.std.proofs.Common.{◌≡◌, ◌↔◌, min, max, Bool, true, false, not, eqb, refl, ap, sym, ◌∙◌, inl, inr, arith}
use Rattle.std.proofs.lemmas.Bool.{true≢false, false≢true, leb-true, not-true, not-false, ne_eqb, eq-eqb, cases_eq}
use Rattle.ra_operand.specs.declared.op.Op.{Op}
use Rattle.ra_operand.specs.declared.op.Op.TheVariants.{Bare, Eq, Ne, Lt, Le, Gt, Ge}
use Rattle.ra_lint.specs.declared.range.Range.{Range}
use Rattle.ra_lint.specs.Ordered.{IsOrdered}
use Rattle.ra_lint.specs.Sound.{IsIn, SomeMeet, AllMeet}
use Rattle.ra_lint.specs.Verdicts.{some_meet, all_meet, are_one, meet}
use Rattle.ra_lint.proofs.VerdictLemmas.{none_meets, each_meets}

module _ (r s : Range) (left : IsOrdered r) (right : IsOrdered s) where
  least_left : IsIn r.least r
  least_left = record { least = omega arith; greatest = left }

  greatest_left : IsIn r.greatest r
  greatest_left = record { least = left; greatest = omega arith }

  least_right : IsIn s.least s
  least_right = record { least = omega arith; greatest = right }

  greatest_right : IsIn s.greatest s
  greatest_right = record { least = right; greatest = omega arith }

  -- two numbers that differ, where the ranges are not one and the same number
  differing : are_one r s ≡ false → SomeMeet Ne r s
  differing e = elim (cases_eq r.least s.least) [
    | inr other ↦ record {
      left = r.least;
      right = s.least;
      left_in = least_left;
      right_in = least_right;
      meets = ap not (ne_eqb r.least s.least other);
    }
    | inl same ↦ elim (cases_eq r.least r.greatest) [
      | inr more ↦ record {
        left = r.greatest;
        right = s.least;
        left_in = greatest_left;
        right_in = least_right;
        meets = ap not (ne_eqb r.greatest s.least (λ one. more (omega arith)));
      }
      | inl single ↦ elim (cases_eq s.least s.greatest) [
        | inr more ↦ record {
          left = r.least;
          right = s.greatest;
          left_in = least_left;
          right_in = greatest_right;
          meets = ap not (ne_eqb r.least s.greatest (λ one. more (omega arith)));
        }
        | inl single' ↦ absurd (true≢false (sym (one_from same single single') ∙ e))
      ]
    ]
  ]
    where
      one_from : r.least ≡ s.least → r.least ≡ r.greatest → s.least ≡ s.greatest → are_one r s ≡ true
      one_from same single single' = rw (
        eq-eqb r.least r.greatest single,
        eq-eqb s.least s.greatest single',
        eq-eqb r.least s.least same,
      ) refl

  -- a number that both ranges have
  common : meet r s ≡ true → SomeMeet Eq r s
  common e =
      let between = leb-true (max r.least s.least) (min r.greatest s.greatest) e in
      record {
        left = max r.least s.least;
        right = max r.least s.least;
        left_in = record { least = omega arith; greatest = omega arith };
        right_in = record { least = omega arith; greatest = omega arith };
        meets = eq-eqb (max r.least s.least) (max r.least s.least) refl;
      }

  some_found : (op : Op) → some_meet op r s ≡ true → SomeMeet op r s
  some_found Bare e = record {
    left = r.least;
    right = s.least;
    left_in = least_left;
    right_in = least_right;
    meets = refl;
  }
  some_found Eq e = common e
  some_found Ne e = differing (not-true (are_one r s) e)
  some_found Lt e = record {
    left = r.least;
    right = s.greatest;
    left_in = least_left;
    right_in = greatest_right;
    meets = e;
  }
  some_found Le e = record {
    left = r.least;
    right = s.greatest;
    left_in = least_left;
    right_in = greatest_right;
    meets = e;
  }
  some_found Gt e = record {
    left = r.greatest;
    right = s.least;
    left_in = greatest_left;
    right_in = least_right;
    meets = e;
  }
  some_found Ge e = record {
    left = r.greatest;
    right = s.least;
    left_in = greatest_left;
    right_in = least_right;
    meets = e;
  }
  some_found _ e = absurd (false≢true e)

  -- some two numbers of the ranges meet the comparison exactly where the test says so
  pub some_is : (op : Op) → (some_meet op r s ≡ true) ↔ SomeMeet op r s
  some_is op = (some_found op, by_two)
    where
      by_two : SomeMeet op r s → some_meet op r s ≡ true
      by_two two = by_test (some_meet op r s) refl
        where
          by_test : (b : Bool) → some_meet op r s ≡ b → b ≡ true
          by_test true e = refl
          by_test false e = absurd (true≢false
              (sym two.meets ∙ none_meets r s two.left two.right two.left_in two.right_in op e))

  -- a counterexample, where the test says no
  all_found : (op : Op) → all_meet op r s ≡ false → AllMeet op r s → ⊥
  all_found Bare e all = true≢false e
  all_found Eq e all = let two = differing e in
      true≢false (sym (all two.left two.right two.left_in two.right_in) ∙ not-true (eqb two.left two.right) two.meets)
  all_found Ne e all = let two = common (not-false (meet r s) e) in true≢false
      (sym (all two.left two.right two.left_in two.right_in) ∙ ap not two.meets)
  all_found Lt e all = true≢false (sym (all r.greatest s.least greatest_left least_right) ∙ e)
  all_found Le e all = true≢false (sym (all r.greatest s.least greatest_left least_right) ∙ e)
  all_found Gt e all = true≢false (sym (all r.least s.greatest least_left greatest_right) ∙ e)
  all_found Ge e all = true≢false (sym (all r.least s.greatest least_left greatest_right) ∙ e)
  all_found _ e all = true≢false (sym (all r.least s.least least_left least_right))

  -- and all two numbers
  pub all_is : (op : Op) → (all_meet op r s ≡ true) ↔ AllMeet op r s
  all_is op = (λ e x y p q. each_meets r s x y p q op e, by_all)
    where
      by_all : AllMeet op r s → all_meet op r s ≡ true
      by_all all = by_test (all_meet op r s) refl
        where
          by_test : (b : Bool) → all_meet op r s ≡ b → b ≡ true
          by_test true e = refl
          by_test false e = absurd (all_found op e all)
