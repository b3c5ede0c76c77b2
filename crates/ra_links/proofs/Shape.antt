-- Fields that stand for a row of lists: what they answer, and how a new row is shown to stand there.
use Rattle.std.proofs.Common.{◌≡◌, ◌≢◌, ℕ, ◌^◌, ◌<◌, ◌≤◌, inl, inr, if◌then◌else◌, None, Some, List, [], length}
use Rattle.std.proofs.Common.{slice_get, slice_index, sym, ◌∙◌, ap, arith, ◌==◌}
use Rattle.std.proofs.lemmas.Bool.Decides.{eqb_tells}
use Rattle.std.proofs.lemmas.List.{ext_get_or, get_or-map, length-map}
use Rattle.ra_links.specs.Rows.{row_at, holder_of, next_of}
use Rattle.ra_links.specs.Fields.{none, Nodes, followed, rows_of, IsRow, IsLinked}
use Rattle.ra_links.proofs.Members.{In, Once, holds_In, In_holds}
use Rattle.ra_links.proofs.Linked.{row_holder, row_below, row_once, row_lacks_none, row_is_followed}
use Rattle.ra_links.proofs.Lookups.{holder_none, holder_some, next_none, next_some, unless_none, row_first, row_next}

module _ (firsts holders befores afters : List ℕ) where
  abbrev pub fields : Nodes
  fields = record { holders = holders; befores = befores; afters = afters }

  -- a list of the row is what following its first node gives
  pub rows_at : (l : ℕ) → l < length firsts → row_at (rows_of firsts afters) l
      ≡ followed (length afters) afters (slice_index firsts l)
  rows_at l below = get_or-map (followed (length afters) afters) firsts l 0 [] below

  pub rows_long : length (rows_of firsts afters) ≡ length firsts
  rows_long = length-map firsts (followed (length afters) afters)

  module _ (shape : IsLinked firsts holders befores afters) where
    pub row_linked_at : (l : ℕ) → l < length firsts
        → IsRow fields l none (slice_index firsts l) (row_at (rows_of firsts afters) l)
    row_linked_at l below = rw (rows_at l below) (shape.rows l below)

    pub row_once_at : (l : ℕ) → l < length firsts → Once (row_at (rows_of firsts afters) l)
    row_once_at l below =
        let linked : IsRow fields l none (slice_index firsts l) (row_at (rows_of firsts afters) l) =
        row_linked_at l below in
        row_once fields l none (slice_index firsts l) (row_at (rows_of firsts afters) l) linked
        (row_lacks_none fields l none (slice_index firsts l)
        (row_at (rows_of firsts afters) l) linked shape.few_nodes)

    pub row_holder_at : (l node : ℕ) → l < length firsts
        → In node (row_at (rows_of firsts afters) l) → slice_index holders node ≡ l
    row_holder_at l node below there =
        row_holder fields l none (slice_index firsts l) (row_at (rows_of firsts afters) l)
        (row_linked_at l below) node there

    pub row_below_at : (l node : ℕ) → l < length firsts → In node (row_at (rows_of firsts afters) l)
        → node < length afters
    row_below_at l node below there =
        row_below fields l none (slice_index firsts l) (row_at (rows_of firsts afters) l)
        (row_linked_at l below) node there

    -- a node without a list is on none
    pub off_all : (node : ℕ) → slice_index holders node ≡ none → (l : ℕ)
        → l < length (rows_of firsts afters) → In node (row_at (rows_of firsts afters) l) → ⊥
    off_all node free l below there =
        let small : l < length firsts = omega (arith, rows_long) in
        let e : slice_index holders node ≡ l = row_holder_at l node small there in
        absurd (omega (arith, shape.few_lists))

    -- a node with a list is on it
    pub on_its_list : (node : ℕ) → node < length afters → slice_index holders node ≢ none
        → In node (row_at (rows_of firsts afters) (slice_index holders node))
    on_its_list node below held =
        rw (rows_at (slice_index holders node) (shape.listed node below held))
        (In_holds node (followed (length afters) afters
        (slice_index firsts (slice_index holders node))) (shape.held node below held))

    pub holder_is : (node : ℕ) → node < length afters → holder_of (rows_of firsts afters) node
        ≡ unless_none (slice_index holders node)
    holder_is node below = elim (eqb_tells (slice_index holders node) none) [
      | inl e ↦ rw e.0 (holder_none 0 (rows_of firsts afters) node (off_all node e.1))
      | inr n ↦ rw n.0 (holder_some 0 (rows_of firsts afters) node (slice_index holders node)
          (omega (arith, rows_long, shape.listed node below n.1)) (on_its_list node below n.1)
          (λ k small there. sym (row_holder_at k node (omega (arith, rows_long)) there))
          ∙ ap Some (omega arith))
    ]

    pub first_is : (l : ℕ) → l < length firsts → slice_get (row_at (rows_of firsts afters) l) 0
        ≡ unless_none (slice_index firsts l)
    first_is l below =
        row_first fields l none (slice_index firsts l) (row_at (rows_of firsts afters) l)
        (omega (arith, shape.few_nodes)) (row_linked_at l below)

    pub next_is : (node : ℕ) → node < length afters → next_of (rows_of firsts afters) node
        ≡ (if slice_index holders node == none then None else unless_none (slice_index afters node))
    next_is node below = elim (eqb_tells (slice_index holders node) none) [
      | inl e ↦ rw e.0 (next_none (rows_of firsts afters) node (off_all node e.1))
      | inr n ↦
          let list : ℕ = slice_index holders node in
          let small : list < length firsts = shape.listed node below n.1 in
          rw n.0 (next_some (rows_of firsts afters) node list (omega (arith, rows_long, small))
          (on_its_list node below n.1) (λ k less there. sym (row_holder_at k node (omega
          (arith, rows_long)) there)) ∙ row_next fields list none (slice_index firsts list)
          (row_at (rows_of firsts afters) list) (omega (arith, shape.few_nodes)) (row_linked_at list
          small) (row_once_at list small) node (on_its_list node below n.1))
    ]

  -- the fields stand for these lists, where each is linked and holds the nodes that name it
  pub stands_for : (lists : List (List ℕ)) → length holders ≡ length afters → length befores
      ≡ length afters → length afters ≤ 2 ^ 31 → length firsts ≤ 2 ^ 31 → length lists
      ≡ length firsts → ((l : ℕ) → l < length firsts → IsRow fields l none (slice_index firsts l)
      (row_at lists l)) → ((node : ℕ) → node < length afters → slice_index holders node ≢ none
      → (slice_index holders node < length firsts) × In node (row_at lists (slice_index holders
      node))) → IsLinked firsts holders befores afters × (rows_of firsts afters ≡ lists)
  stands_for lists holders_long befores_long few_nodes few_lists long linked held =
      let same : (l : ℕ) → l < length firsts → followed (length afters) afters
      (slice_index firsts l) ≡ row_at lists l = λ l below. row_is_followed fields l
      (slice_index firsts l) (row_at lists l) few_nodes (linked l below) in (
        record {
          holders_long = holders_long;
          befores_long = befores_long;
          few_nodes = few_nodes;
          few_lists = few_lists;
          rows = λ l below. rw (same l below) (linked l below);
          listed = λ node below some. (held node below some).0;
          held = λ node below some. let h : (slice_index holders node < length firsts)
              × In node (row_at lists (slice_index holders node)) = held node below some in
              rw (same (slice_index holders node) h.0)
              (holds_In node (row_at lists (slice_index holders node)) h.1);
        },
        ext_get_or [] (rows_of firsts afters) lists (rows_long ∙ sym long) (λ l below. let small : l
            < length firsts = omega (arith, rows_long) in rows_at l small ∙ same l small),
      )
