-- Nodes in buckets: what is left of a search, and a node that is put behind the others.
use Rattle.std.proofs.Common.{◌≡◌, ◌≢◌, ◌⊎◌, ◌∙◌, ℕ, ◌+◌, ◌*◌, ◌<◌, ◌≤◌, List, [], ◌∷◌, ◌++◌, inl, inr}
use Rattle.std.proofs.Common.{arith, ap, sym, subst, length, slice_index, slice_set, length-append}
use Rattle.std.proofs.lemmas.Bool.{cases_lt, cases_eq}
use Rattle.std.proofs.lemmas.List.{get_or-set_same, get_or-set_other}
use Rattle.std.proofs.Math.ListN.{length-set}
use Rattle.std.proofs.Math.Seq.{get_or-append_seam}
use Rattle.ra_indirect.specs.declared.node.Node.{Node}
use Rattle.ra_indirect.specs.declared.node.Node.TheVariants.{Const}
use Rattle.ra_indirect.specs.Pools.{node_at}
use Rattle.ra_indirect.specs.Buckets.{bucket_of, IsLatest, AreChained}
use Rattle.ra_indirect.proofs.PoolLemmas.{node_at-append, below_or_last}

-- the node is not at a number from the place on, and the place is one of its bucket
pub record IsLeft (half : ℕ) (nodes : List Node) (node : Node) (place : ℕ) : Type 0 where
  pub within : place ≤ length nodes
  pub there : (k : ℕ) → place ≡ k + 1 → bucket_of half (node_at nodes k) ≡ bucket_of half node
  pub left : (k : ℕ) → k < length nodes → node_at nodes k ≡ node → k < place

module _ (half : ℕ) (nodes : List Node) (latest earlier : List ℕ) (filed : AreChained half nodes latest earlier) where
  pub IsLeft-next : (node : Node) (place number : ℕ) → place ≡ number + 1 → node_at nodes number ≢ node
      → IsLeft half nodes node place → IsLeft half nodes node (slice_index earlier number)
  IsLeft-next node place number at other was =
      let head = filed.chains number (omega (arith, was.within)) in
      let before : (k : ℕ) → node_at nodes k ≡ node → k < place → k < number =
      λ k same below. elim (cases_lt k number) [
        | inl less ↦ less
        | inr more ↦
            let last : k ≡ number = omega arith in
            absurd (other (subst (λ j. node_at nodes j ≡ node) last same))
      ] in
      record {
        within = omega (arith, head.within, was.within);
        there = λ k next. head.there k next ∙ was.there number at;
        left = λ k below same.
            head.latest k (before k same (was.left k below same))
            (ap (bucket_of half) same ∙ sym (was.there number at));
      }

  -- a node behind them is put into its bucket
  module _ (node : Node) (bucket : ℕ) (is : bucket ≡ bucket_of half node) (within : bucket < 2 * half)
      (fits : length nodes < length earlier) where
    abbrev more : List Node
    more = nodes ++ node ∷ []

    abbrev heads : List ℕ
    heads = slice_set latest bucket (length nodes + 1)

    abbrev chains : List ℕ
    chains = slice_set earlier (length nodes) (slice_index latest bucket)

    last_is : bucket_of half (node_at more (length nodes)) ≡ bucket
    last_is = ap (bucket_of half) (get_or-append_seam nodes node [] (Const 0)) ∙ sym is

    same_bucket : (k : ℕ) → k < length nodes → bucket_of half (node_at more k) ≡ bucket_of half (node_at nodes k)
    same_bucket k below = ap (bucket_of half) (node_at-append nodes (node ∷ []) k below)

    -- what was the latest before is it still
    as_before : (count b place : ℕ) → count ≤ length nodes → IsLatest half nodes count b place
        → IsLatest half more count b place
    as_before count b place most was = record {
      within = was.within;
      there = λ k at. same_bucket k (omega (arith, was.within)) ∙ was.there k at;
      latest = λ k below there. was.latest k below (sym (same_bucket k (omega arith)) ∙ there);
    }

    head_by : (b : ℕ) → b < 2 * half → (b ≡ bucket) ⊎ (b ≢ bucket)
        → IsLatest half more (length nodes + 1) b (slice_index heads b)
    head_by b below (inl here) =
        let place : slice_index heads b ≡ length nodes + 1 =
        ap (slice_index heads) here
        ∙ get_or-set_same latest bucket (length nodes + 1) 0 (omega (arith, filed.as_many)) in
        subst (IsLatest half more (length nodes + 1) b) (sym place) (record {
          within = omega arith;
          there = λ k at.
              let last : k ≡ length nodes = omega arith in
              ap (λ j. bucket_of half (node_at more j)) last ∙ last_is ∙ sym here;
          latest = λ k less there. less;
        })
    head_by b below (inr other) =
        let was = as_before (length nodes) b (slice_index latest b) (omega arith) (filed.heads b below) in
        subst (IsLatest half more (length nodes + 1) b)
        (sym (get_or-set_other latest bucket b (length nodes + 1) 0 other)) (record {
          within = omega (arith, was.within);
          there = was.there;
          latest = λ k less there. elim (below_or_last k (length nodes) less) [
            | inl before ↦ was.latest k before there
            | inr last ↦
                absurd (other (sym there ∙ ap (λ j. bucket_of half (node_at more j)) last ∙ last_is))
          ];
        })

    chain_by : (k : ℕ) → (k < length nodes) ⊎ (k ≡ length nodes)
        → IsLatest half more k (bucket_of half (node_at more k)) (slice_index chains k)
    chain_by k (inl below) =
        subst (λ b. IsLatest half more k b (slice_index chains k)) (sym (same_bucket k below))
        (subst (IsLatest half more k (bucket_of half (node_at nodes k)))
        (sym (get_or-set_other earlier (length nodes) k (slice_index latest bucket) 0 (λ same. omega arith)))
        (as_before k _ _ (omega arith) (filed.chains k below)))
    chain_by k (inr last) =
        subst (λ j. IsLatest half more j (bucket_of half (node_at more j)) (slice_index chains j)) (sym last)
        (subst (λ b. IsLatest half more (length nodes) b (slice_index chains (length nodes))) (sym last_is)
        (subst (IsLatest half more (length nodes) bucket)
        (sym (get_or-set_same earlier (length nodes) (slice_index latest bucket) 0 fits))
        (as_before (length nodes) _ _ (omega arith) (filed.heads bucket within))))

    pub AreChained-put : AreChained half (nodes ++ node ∷ []) (slice_set latest bucket (length nodes + 1))
        (slice_set earlier (length nodes) (slice_index latest bucket))
    AreChained-put =
        let longer : length more ≡ length nodes + 1 = length-append nodes (node ∷ []) in
        let long : length chains ≡ length earlier = length-set earlier (length nodes) (slice_index latest bucket) in
        record {
          as_many = length-set latest bucket (length nodes + 1) ∙ filed.as_many;
          small = filed.small;
          spread = omega (arith, filed.spread);
          fits = omega arith;
          heads = λ b below.
              subst (λ count. IsLatest half more count b (slice_index heads b)) (sym longer)
              (head_by b below (cases_eq b bucket));
          chains = λ k below. chain_by k (below_or_last k (length nodes) (omega arith));
        }
