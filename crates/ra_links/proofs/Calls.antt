-- What each call has to show, over the lists that its fields hold.
use Rattle.std.proofs.Common.{◌≡◌, ◌≢◌, ℕ, ◌^◌, ◌<◌, ◌≤◌, ◌==◌, inl, inr, true, if◌then◌else◌, Option, None, Some, List}
use Rattle.std.proofs.Common.{[], ◌∷◌, ◌++◌, length, map, take, drop, slice_get, slice_index, get_or, set, replicate}
use Rattle.std.proofs.Common.{refl, sym, ◌∙◌, ap, arith, subst, length-set}
use Rattle.std.proofs.lemmas.Bool.{eq-eqb, cases_lt}
use Rattle.std.proofs.lemmas.Bool.Decides.{eqb_tells}
use Rattle.std.proofs.lemmas.List.{get_or_default, get_or_past, ext_get_or, get_or-map, get_or-replicate, length-map}
use Rattle.std.proofs.lemmas.List.{length-replicate, take-append-le, take_all}
use Rattle.ra_links.specs.Rows.{Rows, IsOnce, holds, row_at, holder_of, next_of, without}
use Rattle.ra_links.specs.Fields.{none, rows_of, IsRow, IsLinked, noted_at}
use Rattle.ra_links.proofs.Members.{In, In_holds, distinct_Once, without_Out}
use Rattle.ra_links.proofs.Noted.{first_in, length_noted}
use Rattle.ra_links.proofs.Lookups.{unless_none}
use Rattle.ra_links.proofs.Shape.{fields, rows_long, first_is, holder_is, next_is, row_linked_at, row_once_at}
use Rattle.ra_links.proofs.Shape.{row_holder_at, row_below_at, off_all, stands_for}
use Rattle.ra_links.proofs.Linking.{link_stands}
use Rattle.ra_links.proofs.Unlinking.{unlink_stands, before_in, after_in, firsts_after, length_firsts}

-- what was lent whole is whole again
pub whole : (n : ℕ) (xs ys : List ℕ) → n ≡ length ys → length xs ≡ length ys → take n (xs ++ drop (length xs) ys) ≡ xs
whole n xs ys long same =
    rw (take-append-le n xs (drop (length xs) ys) (omega arith)) (take_all n xs (omega arith))

-- an entry of a list, whatever stands past its end
entry : (xs : List ℕ) (i n : ℕ) → i < length xs → n ≡ get_or xs i n → n ≡ slice_index xs i
entry xs i n below e = e ∙ get_or_default xs i n 0 below

-- the rows of no links
pub rows_of_none : (lists nodes : ℕ) → lists ≤ 2 ^ 31 → nodes ≤ 2 ^ 31
    → IsLinked (replicate lists none) (replicate nodes none) (replicate nodes none) (replicate nodes
    none) × (rows_of (replicate lists none) (replicate nodes none) ≡ replicate lists [])
rows_of_none lists nodes few_lists few_nodes =
    let long : length (replicate nodes none) ≡ nodes = length-replicate nodes none in
    let long_lists : length (replicate lists none) ≡ lists = length-replicate lists none in
    let many : length (replicate {A = List ℕ} lists []) ≡ lists = length-replicate lists [] in
    let free : (node : ℕ) → node < length (replicate nodes none) → slice_index (replicate nodes
    none) node ≡ none = λ node below. get_or-replicate nodes node none 0 (omega arith) in
    let empty : (l : ℕ) → l < length (replicate lists none)
    → IsRow (fields (replicate lists none) (replicate nodes none) (replicate nodes none)
    (replicate nodes none)) l none (slice_index (replicate lists none) l)
    (row_at (replicate lists []) l) = λ l below. let small : l < lists = omega arith in rw
    (get_or-replicate {A = List ℕ} lists l [] [] small) (get_or-replicate lists l none 0 small) in
    stands_for (replicate lists none) (replicate nodes none) (replicate nodes none)
    (replicate nodes none) (replicate lists []) refl refl (omega arith) (omega arith)
    (omega arith) empty (λ node below some. absurd (some (free node below)))

module _ (firsts holders befores afters : List ℕ) (shape : IsLinked firsts holders befores afters) where
  abbrev view : Rows
  view = record { lists = rows_of firsts afters; nodes = length afters }

  module _ (now : Rows) (seen : view ≡ now) where
    in_lists : (l : ℕ) → l < length now.lists → l < length firsts
    in_lists l below =
        omega (arith, below, ap (λ (r : Rows). length r.lists) seen, rows_long firsts holders befores afters)

    -- a list past the last holds nothing
    past_the_last : (k : ℕ) → length firsts ≤ k → row_at (rows_of firsts afters) k ≡ []
    past_the_last k past = get_or_past (rows_of firsts afters) k []
        (omega (arith, rows_long firsts holders befores afters))

    in_range_of : (k node : ℕ) → holds node (row_at (rows_of firsts afters) k) ≡ true → k < length firsts
    in_range_of k node held = elim (cases_lt k (length firsts)) [
      | inl below ↦ below
      | inr past ↦ let e : holds node [] ≡ true = rw (past_the_last k past) at held in cc
    ]

    in_nodes : (node : ℕ) → node < now.nodes → node < length afters
    in_nodes node below = omega (arith, below, ap (λ (r : Rows). r.nodes) seen)

    pub answers_first : (l n : ℕ) (r : Option ℕ) → l < length now.lists → n ≡ get_or firsts l n → r
        ≡ unless_none n → r ≡ slice_get (row_at now.lists l) 0
    answers_first l n r below is gives =
        let small : l < length firsts = in_lists l below in
        rw (← seen) (gives ∙ ap unless_none (entry firsts l n small is)
        ∙ sym (first_is firsts holders befores afters shape l small))

    pub answers_place : (node n : ℕ) (r : Option ℕ) → node < now.nodes → n ≡ get_or holders node n
        → r ≡ unless_none n → r ≡ holder_of now.lists node
    answers_place node n r below is gives =
        let small : node < length afters = in_nodes node below in
        rw (← seen) (gives ∙ ap unless_none (entry holders node n
        (omega (arith, shape.holders_long)) is)
        ∙ sym (holder_is firsts holders befores afters shape node small))

    pub answers_no_next : (node n : ℕ) → node < now.nodes → n ≡ get_or holders node n → n ≡ none
        → None ≡ next_of now.lists node
    answers_no_next node n below is free =
        let small : node < length afters = in_nodes node below in
        let e : slice_index holders node ≡ none =
        sym (entry holders node n (omega (arith, shape.holders_long)) is) ∙ free in
        rw (← seen) (sym (next_is firsts holders befores afters shape node small
        ∙ rw (eq-eqb (slice_index holders node) none e) refl))

    pub answers_next : (node n m : ℕ) (r : Option ℕ) → node < now.nodes → n ≡ get_or holders node n
        → n ≢ none → m ≡ get_or afters node m → r ≡ unless_none m → r ≡ next_of now.lists node
    answers_next node n m r below is held after gives =
        let small : node < length afters = in_nodes node below in
        let apart : slice_index holders node ≢ none =
        λ e. held (entry holders node n (omega (arith, shape.holders_long)) is ∙ e) in
        elim (eqb_tells (slice_index holders node) none) [
          | inl e ↦ absurd (apart e.1)
          | inr k ↦
              let chosen : (if slice_index holders node == none then None else unless_none
              (slice_index afters node)) ≡ unless_none (slice_index afters node) = rw k.0 refl in
              rw (← seen) (gives ∙ ap unless_none (entry afters node m small after)
              ∙ sym (next_is firsts holders befores afters shape node small ∙ chosen))
        ]

    -- no node stands twice
    pub stands_once : IsOnce now
    stands_once = rw (← seen) (record {
      one_list = λ k l node at_k at_l. sym (row_holder_at firsts holders befores afters shape k node
          (in_range_of k node at_k) (In_holds node (row_at (rows_of firsts afters) k) at_k))
          ∙ row_holder_at firsts holders befores afters shape l node (in_range_of l node at_l)
          (In_holds node (row_at (rows_of firsts afters) l) at_l);
      one_place = λ k. elim (cases_lt k (length firsts)) [
        | inl below ↦
            distinct_Once (row_at (rows_of firsts afters) k) (row_once_at firsts holders befores
            afters shape k below)
        | inr past ↦ rw (past_the_last k past) (distinct_Once [] tt)
      ];
      in_range = λ k node at_k. row_below_at firsts holders befores afters shape k node
          (in_range_of k node at_k) (In_holds node (row_at (rows_of firsts afters) k) at_k);
    })

    -- a first node of a list is a node
    pub first_below : (l n : ℕ) → l < length now.lists → n ≡ get_or firsts l n → n ≢ none → n < length afters
    first_below l n below is some =
        let small : l < length firsts = in_lists l below in
        let e : n ≡ slice_index firsts l = entry firsts l n small is in
        let apart : slice_index firsts l ≢ none = λ z. some (e ∙ z) in
        let there : In (slice_index firsts l) (row_at (rows_of firsts afters) l) = first_in
        (fields firsts holders befores afters) l none (slice_index firsts l) (row_at (rows_of firsts
        afters) l) (row_linked_at firsts holders befores afters shape l small) apart in
        omega (arith, e, row_below_at firsts holders befores afters shape l (slice_index firsts l) small there)

    -- a node that no list holds keeps none as its list
    is_free : (node : ℕ) → node < length afters → holder_of now.lists node ≡ None → slice_index holders node ≡ none
    is_free node small free =
        let e : holder_of (rows_of firsts afters) node ≡ None =
        subst (λ (r : Rows). holder_of r.lists node ≡ None) (sym seen) free in
        let chosen : unless_none (slice_index holders node) ≡ None =
        sym (holder_is firsts holders befores afters shape node small) ∙ e in
        elim (eqb_tells (slice_index holders node) none) [
          | inl z ↦ z.1
          | inr z ↦ let e2 : Some (slice_index holders node) ≡ None = rw z.0 at chosen in cc
        ]

    pub link_holds : (list node first : ℕ) (numbers : List ℕ) (long : ℕ) → list < length now.lists
        → node < now.nodes → holder_of now.lists node ≡ None → first ≡ get_or firsts list first
        → numbers ≡ noted_at (set befores node none) first node → long ≡ length befores
        → IsLinked (set firsts list node) (set holders node list) (take long (numbers ++ drop
        (length numbers) (set befores node none))) (set afters node first) × (rows_of (set firsts
        list node) (set afters node first) ≡ set now.lists list (node ∷ row_at now.lists list))
    link_holds list node first numbers long in_list in_node free is noted long_is =
        let small : list < length firsts = in_lists list in_list in
        let below : node < length afters = in_nodes node in_node in
        let e : first ≡ slice_index firsts list = entry firsts list first small is in
        let stands : IsLinked (set firsts list node) (set holders node list) (noted_at
        (set befores node none) (slice_index firsts list) node) (set afters node (slice_index firsts
        list)) × (rows_of (set firsts list node) (set afters node (slice_index firsts list))
        ≡ set (rows_of firsts afters) list (node ∷ row_at (rows_of firsts afters) list)) =
        link_stands firsts holders befores afters shape list node small below (is_free node below
        free) in
        let w : take long (numbers ++ drop (length numbers) (set befores node none)) ≡ numbers =
        whole long numbers (set befores node none) (long_is ∙ sym (length-set befores node none))
        (ap length noted ∙ length_noted (set befores node none) first node) in
        rw (← seen, w, noted, e) stands

    -- the node before and the node after one that a list holds are nodes, or none
    pub before_below : (node list before : ℕ) → node < now.nodes → list ≡ get_or holders node list
        → list ≢ none → before ≡ get_or befores node before → before ≢ none → before < length afters
    before_below node list before in_node of held is some =
        let below : node < length afters = in_nodes node in_node in
        let apart : slice_index holders node ≢ none =
        λ e. held (entry holders node list (omega (arith, shape.holders_long)) of ∙ e) in
        let e : before ≡ slice_index befores node = entry befores node before (omega (arith, shape.befores_long)) is in
        let there : In (slice_index befores node)
        (row_at (rows_of firsts afters) (slice_index holders node)) =
        before_in firsts holders befores afters shape node below apart (λ z. some (e ∙ z)) in
        omega (
          arith,
          e,
          row_below_at firsts holders befores afters shape (slice_index holders node)
              (slice_index befores node) (shape.listed node below apart) there,
        )

    pub after_below : (node list after : ℕ) → node < now.nodes → list ≡ get_or holders node list
        → list ≢ none → after ≡ get_or afters node after → after ≢ none → after < length afters
    after_below node list after in_node of held is some =
        let below : node < length afters = in_nodes node in_node in
        let apart : slice_index holders node ≢ none =
        λ e. held (entry holders node list (omega (arith, shape.holders_long)) of ∙ e) in
        let e : after ≡ slice_index afters node = entry afters node after below is in
        let there : In (slice_index afters node) (row_at (rows_of firsts afters)
        (slice_index holders node)) =
        after_in firsts holders befores afters shape node below apart (λ z. some (e ∙ z)) in
        omega (
          arith,
          e,
          row_below_at firsts holders befores afters shape (slice_index holders node)
              (slice_index afters node) (shape.listed node below apart) there,
        )

    pub list_below : (node list : ℕ) → node < now.nodes → list ≡ get_or holders node list → list
        ≢ none → list < length firsts
    list_below node list in_node of held =
        let below : node < length afters = in_nodes node in_node in
        let e : list ≡ slice_index holders node = entry holders node list (omega (arith, shape.holders_long)) of in
        omega (arith, e, shape.listed node below (λ z. held (e ∙ z)))

    -- a node on no list is taken out of none
    pub unlink_free : (node list : ℕ) → node < now.nodes → list ≡ get_or holders node list → list
        ≡ none → now.lists ≡ map (without node) now.lists
    unlink_free node list in_node of free =
        let below : node < length afters = in_nodes node in_node in
        let z : slice_index holders node ≡ none =
        sym (entry holders node list (omega (arith, shape.holders_long)) of) ∙ free in
        let same : rows_of firsts afters ≡ map (without node) (rows_of firsts afters) =
        ext_get_or [] (rows_of firsts afters) (map (without node) (rows_of firsts afters))
        (sym (length-map (rows_of firsts afters) (without node))) (λ l less. sym (get_or-map
        (without node) (rows_of firsts afters) l [] [] less ∙ without_Out node (row_at
        (rows_of firsts afters) l) (off_all firsts holders befores afters shape node z l less))) in
        rw (← seen) same

    pub unlink_holds : (node list before after : ℕ) (new_firsts new_befores new_afters : List ℕ)
        (long_firsts long_befores long_afters : ℕ) → node < now.nodes → list ≡ get_or holders node
        list → list ≢ none → before ≡ get_or befores node before → after ≡ get_or afters node after
        → new_firsts ≡ firsts_after firsts list before after → new_afters ≡ noted_at afters before
        after → new_befores ≡ noted_at befores after before → long_firsts ≡ length firsts
        → long_befores ≡ length befores → long_afters ≡ length afters → IsLinked (take long_firsts
        (new_firsts ++ drop (length new_firsts) firsts)) (set holders node none) (take long_befores
        (new_befores ++ drop (length new_befores) befores)) (take long_afters (new_afters
        ++ drop (length new_afters) afters)) × (rows_of (take long_firsts (new_firsts ++ drop
        (length new_firsts) firsts)) (take long_afters (new_afters ++ drop (length new_afters)
        afters)) ≡ map (without node) now.lists)
    unlink_holds node list before after new_firsts new_befores new_afters long_firsts long_befores
        long_afters in_node of held is_before is_after f_is a_is b_is f_long b_long a_long =
        let below : node < length afters = in_nodes node in_node in
        let e : list ≡ slice_index holders node = entry holders node list (omega (arith, shape.holders_long)) of in
        let eb : before ≡ slice_index befores node =
        entry befores node before (omega (arith, shape.befores_long)) is_before in
        let ea : after ≡ slice_index afters node = entry afters node after below is_after in
        let fs : take long_firsts (new_firsts ++ drop (length new_firsts) firsts) ≡ new_firsts =
        whole long_firsts new_firsts firsts f_long (ap length f_is
        ∙ length_firsts firsts list before after) in
        let bs : take long_befores (new_befores ++ drop (length new_befores) befores)
        ≡ new_befores = whole long_befores new_befores befores b_long (ap length b_is
        ∙ length_noted befores after before) in
        let as_ : take long_afters (new_afters ++ drop (length new_afters) afters) ≡ new_afters =
        whole long_afters new_afters afters a_long (ap length a_is
        ∙ length_noted afters before after) in
        rw (← seen, fs, bs, as_, f_is, b_is, a_is, e, eb, ea)
        (unlink_stands firsts holders befores afters shape node below (λ z. held (e ∙ z)))

-- new links are empty lists
pub new_holds : (lists nodes : ℕ) (firsts afters : List ℕ) → lists ≤ 2 ^ 31 → nodes ≤ 2 ^ 31
    → firsts ≡ replicate lists none → afters ≡ replicate nodes none → let made : Rows =
    record { lists = rows_of firsts afters; nodes = length afters } in
    let wanted : Rows = record { lists = replicate lists []; nodes = nodes } in made ≡ wanted
new_holds lists nodes firsts afters few_lists few_nodes f_is a_is =
    rw (f_is, a_is, (rows_of_none lists nodes few_lists few_nodes).1, length-replicate nodes none) refl
