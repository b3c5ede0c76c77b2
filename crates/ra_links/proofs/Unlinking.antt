-- The fields after a node was taken out stand for the rows without it.
use Rattle.std.proofs.Common.{◌≡◌, ◌≢◌, ℕ, ◌^◌, ◌<◌, ◌≤◌, inl, inr, if◌then◌else◌, List, [], length, map, slice_index}
use Rattle.std.proofs.Common.{set, refl, sym, ◌∙◌, arith, subst, ◌==◌, length-set}
use Rattle.std.proofs.lemmas.Bool.{eq-eqb}
use Rattle.std.proofs.lemmas.Bool.Decides.{eqb_tells}
use Rattle.std.proofs.lemmas.List.{get_or-set_same, get_or-set_other, get_or-map, length-map}
use Rattle.ra_links.specs.Rows.{row_at, without}
use Rattle.ra_links.specs.Fields.{none, Nodes, rows_of, IsRow, IsLinked, noted_at}
use Rattle.ra_links.proofs.Members.{In, In_without, without_Out}
use Rattle.ra_links.proofs.Linked.{SameNode, Unlinks, row_same, row_unlinked, row_below, row_after, row_lacks_none}
use Rattle.ra_links.proofs.Noted.{length_noted, noted_other, noted_here, first_or_later}
use Rattle.ra_links.proofs.Shape.{fields, rows_long, row_linked_at, row_once_at, row_holder_at, on_its_list, stands_for}

-- the first nodes, where the node taken out may be one
abbrev pub firsts_after : List ℕ → (list before after : ℕ) → List ℕ
firsts_after firsts list before after = if before == none then set firsts list after else firsts

pub length_firsts : (firsts : List ℕ) (list before after : ℕ)
    → length (firsts_after firsts list before after) ≡ length firsts
length_firsts firsts list before after = elim (eqb_tells before none) [
  | inl e ↦ rw e.0 (length-set firsts list after)
  | inr n ↦ rw n.0 refl
]

firsts_other : (firsts : List ℕ) (list before after l : ℕ) → l ≢ list
    → slice_index (firsts_after firsts list before after) l ≡ slice_index firsts l
firsts_other firsts list before after l apart = elim (eqb_tells before none) [
  | inl e ↦ rw e.0 (get_or-set_other firsts list l after 0 apart)
  | inr n ↦ rw n.0 refl
]

module _ (firsts holders befores afters : List ℕ) (shape : IsLinked firsts holders befores afters) where
  abbrev rows : List (List ℕ)
  rows = rows_of firsts afters

  abbrev old : Nodes
  old = fields firsts holders befores afters

  module _ (node : ℕ) (in_nodes : node < length afters) (held : slice_index holders node ≢ none) where
    abbrev list : ℕ
    list = slice_index holders node

    abbrev before : ℕ
    before = slice_index befores node

    abbrev after : ℕ
    after = slice_index afters node

    abbrev without_node : List (List ℕ)
    without_node = map (without node) rows

    abbrev new : Nodes
    new = fields (firsts_after firsts list before after) (set holders node none)
        (noted_at befores after before) (noted_at afters before after)

    in_lists : list < length firsts
    in_lists = shape.listed node in_nodes held

    row_there : IsRow old list none (slice_index firsts list) (row_at rows list)
    row_there = row_linked_at firsts holders befores afters shape list in_lists

    node_there : In node (row_at rows list)
    node_there = on_its_list firsts holders befores afters shape node in_nodes held

    taken : Unlinks old new node before after
    taken = record {
      long = length_noted afters before after;
      back = λ below. noted_here befores after before (omega (arith, below, shape.befores_long))
          (omega (arith, shape.few_nodes, shape.befores_long));
      forth = λ below. noted_here afters before after below shape.few_nodes;
      holders = λ x apart. get_or-set_other holders node x none 0 apart;
      befores = λ x apart. noted_other befores after before x apart;
      afters = λ x apart. noted_other afters before after x apart;
    }

    first_now : slice_index (firsts_after firsts list before after) list
        ≡ (if slice_index firsts list == node then after else slice_index firsts list)
    first_now = elim (first_or_later old list (slice_index firsts list) node (row_at rows list) row_there node_there) [
      | inl e ↦ rw (eq-eqb before none e.1, eq-eqb (slice_index firsts list) node e.0)
          (get_or-set_same firsts list after 0 in_lists)
      | inr n ↦
          let below : before < length afters = row_below old list none (slice_index firsts list)
          (row_at rows list) row_there before n.1 in
          elim (eqb_tells before none) [
            | inl e ↦ absurd (omega (arith, e.1, below, shape.few_nodes))
            | inr m ↦ elim (eqb_tells (slice_index firsts list) node) [
              | inl e ↦
                  absurd (n.0 e.1)
              | inr k ↦ rw (m.0, k.0) refl
            ]
          ]
    ]

    -- the neighbours of the node stand in its list, or are none
    pub before_in : before ≢ none → In before (row_at rows list)
    before_in some = elim (first_or_later old list (slice_index firsts list) node
        (row_at rows list) row_there node_there) [
          | inl e ↦ absurd (some e.1)
          | inr n ↦ n.1
        ]

    pub after_in : after ≢ none → In after (row_at rows list)
    after_in some = elim (row_after old list none (slice_index firsts list)
        (row_at rows list) row_there node node_there) [
          | inl there ↦ there
          | inr end ↦ absurd (some end)
        ]

    -- no node of another list is a neighbour
    elsewhere : (l x y : ℕ) → l < length firsts → l ≢ list → In x (row_at rows l)
        → (y ≢ none → In y (row_at rows list)) → x ≢ y
    elsewhere l x y below apart there here e = elim (eqb_tells y none) [
      | inl z ↦ row_lacks_none old l none (slice_index firsts l) (row_at rows l)
          (row_linked_at firsts holders befores afters shape l below) shape.few_nodes
          (subst (λ m. In m (row_at rows l)) (e ∙ z.1) there)
      | inr z ↦ apart (sym (row_holder_at firsts holders befores afters shape l y below
          (subst (λ m. In m (row_at rows l)) e there))
          ∙ row_holder_at firsts holders befores afters shape list y in_lists (here z.1))
    ]

    at_list : (l : ℕ) → l < length firsts → row_at without_node l ≡ without node (row_at rows l)
    at_list l below = get_or-map (without node) rows l [] []
        (omega (arith, below, rows_long firsts holders befores afters))

    linked_after : (l : ℕ) → l < length (firsts_after firsts list before after) → IsRow new l none
        (slice_index (firsts_after firsts list before after) l) (row_at without_node l)
    linked_after l less =
        let below : l < length firsts = omega (arith, less, length_firsts firsts list before after) in
        elim (eqb_tells l list) [
          | inl e ↦
              let here : IsRow new list none (if slice_index firsts list == node then after
              else slice_index firsts list) (without node (row_at rows list)) = row_unlinked old new
              list none (slice_index firsts list) node (row_at rows list) shape.few_nodes taken
              row_there (row_once_at firsts holders befores afters shape list in_lists)
              (row_lacks_none old list none (slice_index firsts list) (row_at rows list) row_there
              shape.few_nodes) node_there in
              rw (e.1, first_now, at_list list in_lists) here
          | inr n ↦
              let row : List ℕ = row_at rows l in
              let there : IsRow old l none (slice_index firsts l) row =
              row_linked_at firsts holders befores afters shape l below in
              let not_node : (x : ℕ) → In x row → x ≢ node =
              λ x h. elsewhere l x node below n.1 h (λ some. node_there) in
              let same : (x : ℕ) → In x row → SameNode old new x = λ x h. record {
                holder = get_or-set_other holders node x none 0 (not_node x h);
                before = noted_other befores after before x (elsewhere l x after below n.1 h after_in);
                after = noted_other afters before after x (elsewhere l x before below n.1 h before_in);
              } in
              let still : IsRow new l none (slice_index firsts l) row = row_same old new l none
              (slice_index firsts l) row (length_noted afters before after) same there in
              let kept : without node row ≡ row = without_Out node row (λ h. not_node node h refl) in
              rw (firsts_other firsts list before after l n.1, at_list l below, kept) still
        ]

    held_after : (x : ℕ) → x < length (noted_at afters before after) → slice_index (set holders node
        none) x ≢ none → (slice_index (set holders node none) x < length (firsts_after firsts list
        before after)) × In x (row_at without_node (slice_index (set holders node none) x))
    held_after x less some =
        let below : x < length afters = omega (arith, less, length_noted afters before after) in
        let apart : x ≢ node = λ e. some (rw e
        (get_or-set_same holders node none 0 (omega (arith, shape.holders_long, in_nodes)))) in
        let is : slice_index (set holders node none) x ≡ slice_index holders x =
        get_or-set_other holders node x none 0 apart in
        let has : slice_index holders x ≢ none = λ e. some (is ∙ e) in
        let small : slice_index holders x < length firsts = shape.listed x below has in
        let in_range : slice_index holders x < length (firsts_after firsts list before after) =
        omega (arith, small, length_firsts firsts list before after) in
        let there : In x (row_at without_node (slice_index holders x)) =
        rw (at_list (slice_index holders x) small) (In_without node x (row_at rows (slice_index
        holders x)) (on_its_list firsts holders befores afters shape x below has) apart) in
        rw is (in_range, there)

    pub unlink_stands : IsLinked (firsts_after firsts list before after) (set holders node none)
        (noted_at befores after before) (noted_at afters before after) × (rows_of
        (firsts_after firsts list before after) (noted_at afters before after) ≡ without_node)
    unlink_stands =
        let long_holders : length (set holders node none) ≡ length (noted_at afters before after) =
        length-set holders node none ∙ shape.holders_long
        ∙ sym (length_noted afters before after) in
        let long_befores : length (noted_at befores after before)
        ≡ length (noted_at afters before after) = length_noted befores after before
        ∙ shape.befores_long ∙ sym (length_noted afters before after) in
        let few_nodes : length (noted_at afters before after) ≤ 2 ^ 31 =
        omega (arith, shape.few_nodes, length_noted afters before after) in
        let few_lists : length (firsts_after firsts list before after) ≤ 2 ^ 31 =
        omega (arith, shape.few_lists, length_firsts firsts list before after) in
        let long : length without_node ≡ length (firsts_after firsts list before after) =
        length-map rows (without node) ∙ rows_long firsts holders befores afters
        ∙ sym (length_firsts firsts list before after) in
        stands_for (firsts_after firsts list before after) (set holders node none)
        (noted_at befores after before) (noted_at afters before after) without_node long_holders
        long_befores few_nodes few_lists long linked_after held_after
