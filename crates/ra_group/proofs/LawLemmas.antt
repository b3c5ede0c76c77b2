-- The equations of a condition, from the condition before it by the text.
use Rattle.std.proofs.Common.{◌≡◌, ℕ, zero, suc, ◌<◌, Bool, true, false, cond, ◌||◌, eqb, None, Some, refl, ap, ◌∙◌}
use Rattle.std.proofs.Common.{inl, inr, arith}
use Rattle.std.proofs.lemmas.Bool.{cases_eq, cond-true}
use Rattle.ra_condition.specs.Flags.{combines, hands_on}
use Rattle.ra_condition.specs.Contents.{condition_at, flag_at}
use Rattle.ra_group.specs.Equations.{Frame, met, reset_by, add_by, settled_at, prev_of}
use Rattle.ra_group.specs.Laws.{IsPrev, HasEquationsAfter, HasEquationsFirst, HasOwnEquations, truth_at, target_at}
use Rattle.ra_group.specs.Laws.{valid_alone_at, reached_at}
use Rattle.ra_group.proofs.Carried.{combines_handed, settled_after, seen_after_last, seen_after_handed}
use Rattle.ra_group.proofs.Carried.{seen_after_counted}

module _ (f : Frame) where
  seen_handed : (m : ℕ) → hands_on (flag_at f.conditions m) ≡ true → prev_of f (suc m) ≡ prev_of f m
  seen_handed m h = seen_after_handed (condition_at f.conditions m) (settled_after f (prev_of f m) m) (prev_of f m) h

  seen_counted : (m : ℕ) → hands_on (flag_at f.conditions m) ≡ false
      → combines (flag_at f.conditions m) ≡ true → prev_of f (suc m) ≡ Some (settled_at f m)
  seen_counted m h e =
      seen_after_counted (condition_at f.conditions m) (settled_after f (prev_of f m) m) (prev_of f m) h
      ∙ cond-true (combines (flag_at f.conditions m)) (Some (settled_at f m)) None e

  -- what a condition sees is the condition before it
  pub prev_of-is : (j i : ℕ) → IsPrev f.conditions j i → prev_of f j ≡ Some (settled_at f i)
  prev_of-is zero i p = absurd (omega (arith, p.earlier))
  prev_of-is (suc m) i p =
      elim (cases_eq m i) [
        | inl here ↦
            let counts : hands_on (flag_at f.conditions m) ≡ false =
            ap (λ k. hands_on (flag_at f.conditions k)) here ∙ p.counts in
            seen_counted m counts (p.chained m (omega (arith, here)) (omega arith))
            ∙ ap (λ k. Some (settled_at f k)) here
        | inr other ↦
            let further : i < m = omega (arith, p.earlier) in
            let before : IsPrev f.conditions m i = record {
              earlier = further;
              chained = λ k g l. p.chained k g (omega arith);
              counts = p.counts;
              nearest = λ k g l. p.nearest k g (omega arith);
            } in
            seen_handed m (p.nearest m further (omega arith)) ∙ prev_of-is m i before
      ]

  -- and without one it sees nothing
  pub prev_of-none : (j : ℕ) → ((i : ℕ) → IsPrev f.conditions j i → ⊥) → prev_of f j ≡ None
  prev_of-none zero none = refl
  prev_of-none (suc m) none = by_handing (λ h. seen_handed m h
      ∙ prev_of-none m (λ i p. none i (one_more i p h))) (hands_on (flag_at f.conditions m)) refl
      (combines (flag_at f.conditions m)) refl
    where
      one_more : (i : ℕ) → IsPrev f.conditions m i → hands_on (flag_at f.conditions m) ≡ true
          → IsPrev f.conditions (suc m) i
      one_more i p h = record {
        earlier = omega (arith, p.earlier);
        chained = λ k g l. elim (cases_eq k m) [
          | inl here ↦ combines_handed (flag_at f.conditions k) (ap (λ n. hands_on (flag_at f.conditions n)) here ∙ h)
          | inr other ↦ p.chained k g (omega arith)
        ];
        counts = p.counts;
        nearest = λ k g l. elim (cases_eq k m) [
          | inl here ↦ ap (λ n. hands_on (flag_at f.conditions n)) here ∙ h
          | inr other ↦ p.nearest k g (omega arith)
        ];
      }

      by_handing : (hands_on (flag_at f.conditions m) ≡ true → prev_of f (suc m) ≡ None)
          → (h : Bool) → hands_on (flag_at f.conditions m) ≡ h → (b : Bool)
          → combines (flag_at f.conditions m) ≡ b → prev_of f (suc m) ≡ None
      by_handing handed true e b d = handed e
      by_handing handed false e false d = seen_after_last (condition_at f.conditions m)
          (settled_after f (prev_of f m) m) (prev_of f m) d
      by_handing handed false e true d = absurd (none m (record {
        earlier = omega arith;
        chained = λ k g l. let here : k ≡ m = omega arith in ap (λ n. combines (flag_at f.conditions n)) here ∙ d;
        counts = e;
        nearest = λ k g l. absurd (omega arith);
      }))

  pub equations_after : (j i : ℕ) → IsPrev f.conditions j i → HasEquationsAfter f j i
  equations_after j i p =
      let prev = prev_of-is j i p in
      record {
        met = ap (λ seen. met seen (truth_at f j)) prev;
        reset = ap reset_by prev;
        add = ap add_by prev;
      }

  pub equations_first : (j : ℕ) → ((i : ℕ) → IsPrev f.conditions j i → ⊥) → HasEquationsFirst f j
  equations_first j none =
      let prev = prev_of-none j none in
      record {
        met = ap (λ seen. met seen (truth_at f j)) prev;
        reset = ap reset_by prev;
        add = ap add_by prev;
      }

  or_true : (a b : Bool) → b ≡ true → (a || b) ≡ true
  or_true true b e = refl
  or_true false b e = e

  pub own_equations : (j : ℕ) → HasOwnEquations f j
  own_equations j = record {
    hit = refl;
    total = refl;
    valid_within = λ e. ap (λ b. cond (b || eqb (target_at f j) 0) (valid_alone_at f j) (reached_at f j)) e;
    valid_by_target = λ e t. ap (λ b. cond (b || eqb (target_at f j) 0) (valid_alone_at f j)
        (reached_at f j)) e ∙ ap (λ b. cond b (valid_alone_at f j) (reached_at f j)) t;
    valid_by_itself = λ t. ap (λ b. cond b (valid_alone_at f j) (reached_at f j))
        (or_true (combines (flag_at f.conditions j)) (eqb (target_at f j) 0) t);
  }
