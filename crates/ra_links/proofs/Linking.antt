-- The fields after a node was linked stand for the rows with it in front of its list.
use Rattle.std.proofs.Common.{◌≡◌, ◌≢◌, ℕ, ◌^◌, ◌<◌, ◌≤◌, inl, inr, List, [], ◌∷◌, length, slice_index, set, sym, ◌∙◌}
use Rattle.std.proofs.Common.{arith, subst, length-set}
use Rattle.std.proofs.lemmas.Bool.Decides.{eqb_tells}
use Rattle.std.proofs.lemmas.List.{get_or-set_same, get_or-set_other}
use Rattle.ra_links.specs.Rows.{row_at}
use Rattle.ra_links.specs.Fields.{none, Nodes, rows_of, IsRow, IsLinked, noted_at}
use Rattle.ra_links.proofs.Members.{In}
use Rattle.ra_links.proofs.Linked.{SameNode, LinksFront, row_same, row_linked, row_lacks_none}
use Rattle.ra_links.proofs.Noted.{length_noted, noted_other, noted_here, first_in}
use Rattle.ra_links.proofs.Shape.{fields, rows_long, row_linked_at, row_once_at, row_holder_at, off_all, on_its_list}
use Rattle.ra_links.proofs.Shape.{stands_for}

module _ (firsts holders befores afters : List ℕ) (shape : IsLinked firsts holders befores afters) where
  abbrev rows : List (List ℕ)
  rows = rows_of firsts afters

  module _ (list node : ℕ) (in_lists : list < length firsts) (in_nodes : node < length afters)
      (free : slice_index holders node ≡ none) where
    abbrev first : ℕ
    first = slice_index firsts list

    abbrev with_node : List (List ℕ)
    with_node = set rows list (node ∷ row_at rows list)

    abbrev after_link : Nodes
    after_link = fields (set firsts list node) (set holders node list)
        (noted_at (set befores node none) first node) (set afters node first)

    not_first : first ≢ node
    not_first e =
        let apart : first ≢ none = λ n. absurd (omega (arith, e, n, in_nodes, shape.few_nodes)) in
        let there : In first (row_at rows list) =
        first_in (fields firsts holders befores afters) list none first (row_at rows list)
        (row_linked_at firsts holders befores afters shape list in_lists) apart in
        off_all firsts holders befores afters shape node free list
        (omega (arith, in_lists, rows_long firsts holders befores afters))
        (subst (λ n. In n (row_at rows list)) e there)

    same_node : (x : ℕ) → x ≢ node → x ≢ first → SameNode (fields firsts holders befores afters) after_link x
    same_node x apart other = record {
      holder = get_or-set_other holders node x list 0 apart;
      before = noted_other (set befores node none) first node x other ∙ get_or-set_other befores node x none 0 apart;
      after = get_or-set_other afters node x first 0 apart;
    }

    in_front : LinksFront (fields firsts holders befores afters) after_link list node first
    in_front = record {
      long = length-set afters node first;
      in_range = in_nodes;
      holder = get_or-set_same holders node list 0 (omega (arith, shape.holders_long, in_nodes));
      before = noted_other (set befores node none) first node node (λ e. not_first (sym e))
          ∙ get_or-set_same befores node none 0 (omega (arith, shape.befores_long, in_nodes));
      after = get_or-set_same afters node first 0 in_nodes;
      back = λ below. noted_here (set befores node none) first node
          (omega (arith, below, shape.befores_long, length-set befores node none))
          (omega (arith, shape.few_nodes, shape.befores_long, length-set befores node none));
      others = same_node;
      first_holder = λ apart. get_or-set_other holders node first list 0 apart;
      first_after = λ apart. get_or-set_other afters node first first 0 apart;
    }

    lacks_node : (l : ℕ) → l < length firsts → In node (row_at rows l) → ⊥
    lacks_node l below = off_all firsts holders befores afters shape node free l
        (omega (arith, below, rows_long firsts holders befores afters))

    linked_after : (l : ℕ) → l < length (set firsts list node)
        → IsRow after_link l none (slice_index (set firsts list node) l) (row_at with_node l)
    linked_after l less =
        let below : l < length firsts = omega (arith, less, length-set firsts list node) in
        elim (eqb_tells l list) [
          | inl e ↦
              let here : IsRow after_link list none node (node ∷ row_at rows list) =
              row_linked (fields firsts holders befores afters) after_link list node first
              (row_at rows list) in_front (row_linked_at firsts holders befores afters shape list
              in_lists) (row_once_at firsts holders befores afters shape list in_lists)
              (lacks_node list in_lists) in
              rw (
                e.1,
                get_or-set_same firsts list node 0 in_lists,
                get_or-set_same rows list (node ∷ row_at rows list) []
                    (omega (arith, in_lists, rows_long firsts holders befores afters)),
              ) here
          | inr n ↦
              let row : List ℕ = row_at rows l in
              let there : IsRow (fields firsts holders befores afters) l none (slice_index firsts l)
              row = row_linked_at firsts holders befores afters shape l below in
              let same : (x : ℕ) → In x row → SameNode
              (fields firsts holders befores afters) after_link x = λ x h. same_node x (λ e.
              lacks_node l below (subst (λ m. In m row) e h)) (λ e. elim (eqb_tells first none) [
                | inl z ↦ absurd (row_lacks_none (fields firsts holders befores afters) l none
                    (slice_index firsts l) row there shape.few_nodes
                    (subst (λ m. In m row) (e ∙ z.1) h))
                | inr z ↦ n.1 (sym (row_holder_at firsts holders befores afters shape l first below
                    (subst (λ m. In m row) e h)) ∙ row_holder_at firsts holders befores afters shape
                    list first in_lists (first_in (fields firsts holders befores afters) list none
                    first (row_at rows list)
                    (row_linked_at firsts holders befores afters shape list in_lists) z.1))
              ]) in
              rw (
                get_or-set_other firsts list l node 0 n.1,
                get_or-set_other rows list l (node ∷ row_at rows list) [] n.1,
              ) (row_same (fields firsts holders befores afters) after_link l none
              (slice_index firsts l) row (length-set afters node first) same there)
        ]

    held_after : (x : ℕ) → x < length (set afters node first) → slice_index (set holders node list)
        x ≢ none → (slice_index (set holders node list) x < length (set firsts list node))
        × In x (row_at with_node (slice_index (set holders node list) x))
    held_after x less some =
        let below : x < length afters = omega (arith, less, length-set afters node first) in
        let long : list < length rows = omega (arith, in_lists, rows_long firsts holders befores afters) in
        elim (eqb_tells x node) [
          | inl e ↦
              let is : slice_index (set holders node list) x ≡ list = rw e.1
              (get_or-set_same holders node list 0 (omega (arith, shape.holders_long, in_nodes))) in
              let in_range : list < length (set firsts list node) =
              omega (arith, in_lists, length-set firsts list node) in
              let there : In x (row_at with_node list) =
              rw (get_or-set_same rows list (node ∷ row_at rows list) [] long) (inl e.1) in
              rw is (in_range, there)
          | inr n ↦
              let is : slice_index (set holders node list) x ≡ slice_index holders x =
              get_or-set_other holders node x list 0 n.1 in
              let has : slice_index holders x ≢ none = λ e. some (is ∙ e) in
              let in_range : slice_index holders x < length (set firsts list node) =
              omega (arith, shape.listed x below has, length-set firsts list node) in
              let old : In x (row_at rows (slice_index holders x)) =
              on_its_list firsts holders befores afters shape x below has in
              let there : In x (row_at with_node (slice_index holders x)) =
              elim (eqb_tells (slice_index holders x) list) [
                | inl e ↦ rw (e.1, get_or-set_same rows list (node ∷ row_at rows list) [] long)
                    (inr (subst (λ l. In x (row_at rows l)) e.1 old))
                | inr m ↦ rw (get_or-set_other rows list (slice_index holders x) (node ∷ row_at rows list) [] m.1) old
              ] in
              rw is (in_range, there)
        ]

    pub link_stands : IsLinked (set firsts list node) (set holders node list)
        (noted_at (set befores node none) first node) (set afters node first)
        × (rows_of (set firsts list node) (set afters node first) ≡ with_node)
    link_stands =
        let long_holders : length (set holders node list) ≡ length (set afters node first) =
        length-set holders node list ∙ shape.holders_long ∙ sym (length-set afters node first) in
        let long_befores : length (noted_at (set befores node none) first node)
        ≡ length (set afters node first) = length_noted (set befores node none) first node
        ∙ length-set befores node none ∙ shape.befores_long ∙ sym (length-set afters node first) in
        let few_nodes : length (set afters node first) ≤ 2 ^ 31 =
        omega (arith, shape.few_nodes, length-set afters node first) in
        let few_lists : length (set firsts list node) ≤ 2 ^ 31 =
        omega (arith, shape.few_lists, length-set firsts list node) in
        let long : length with_node ≡ length (set firsts list node) =
        length-set rows list (node ∷ row_at rows list) ∙ rows_long firsts holders befores afters
        ∙ sym (length-set firsts list node) in
        stands_for (set firsts list node) (set holders node list)
        (noted_at (set befores node none) first node) (set afters node first) with_node long_holders
        long_befores few_nodes few_lists long linked_after held_after
