-- Nodes that are linked as a list, and what a change of their fields makes of it.
use Rattle.std.proofs.Common.{◌≡◌, ◌≢◌, ℕ, zero, suc, ◌^◌, ◌<◌, ◌≤◌, ◌⊎◌, ◌==◌, inl, inr, false, if◌then◌else◌, List}
use Rattle.std.proofs.Common.{[], ◌∷◌, length, slice_index, refl, sym, ◌∙◌, ap, arith, subst}
use Rattle.std.proofs.lemmas.Bool.{eq-eqb}
use Rattle.std.proofs.lemmas.Bool.Decides.{eqb_tells}
use Rattle.ra_links.specs.Rows.{without}
use Rattle.ra_links.specs.Fields.{none, Nodes, followed, IsRow}
use Rattle.ra_links.proofs.Members.{In, Once, few_below, without_Out}

-- each node of a row is a node, and keeps the row's list
pub row_holder : (f : Nodes) (list before node : ℕ) (row : List ℕ) → IsRow f list before node row
    → (x : ℕ) → In x row → slice_index f.holders x ≡ list
row_holder f list before node [] linked x h = absurd h
row_holder f list before node (y ∷ ys) linked x h = elim h [
  | inl e ↦ ap (λ n. slice_index f.holders n) e ∙ linked.2
  | inr r ↦ row_holder f list y (slice_index f.afters y) ys linked.4 x r
]

pub row_below : (f : Nodes) (list before node : ℕ) (row : List ℕ) → IsRow f list before node row
    → (x : ℕ) → In x row → x < length f.afters
row_below f list before node [] linked x h = absurd h
row_below f list before node (y ∷ ys) linked x h = elim h [
  | inl e ↦ omega (arith, e, linked.1)
  | inr r ↦ row_below f list y (slice_index f.afters y) ys linked.4 x r
]

-- the node before one of the row is the one before the row or one of it
pub row_before : (f : Nodes) (list before node : ℕ) (row : List ℕ) → IsRow f list before node row
    → (x : ℕ) → In x row → In (slice_index f.befores x) (before ∷ row)
row_before f list before node [] linked x h = absurd h
row_before f list before node (y ∷ ys) linked x h = elim h [
  | inl e ↦ inl (ap (λ n. slice_index f.befores n) e ∙ linked.3)
  | inr r ↦ inr (row_before f list y (slice_index f.afters y) ys linked.4 x r)
]

-- a row that lacks the node before it has no node twice
pub row_once : (f : Nodes) (list before node : ℕ) (row : List ℕ) → IsRow f list before node row
    → (In before row → ⊥) → Once row
row_once f list before node [] linked out = tt
row_once f list before node (y ∷ ys) linked out =
    let lacks : In y ys → ⊥ = λ h. out (let there : In (slice_index f.befores y) (y ∷ ys) =
    row_before f list y (slice_index f.afters y) ys linked.4 y h in
    subst (λ n. In n (y ∷ ys)) linked.3 there) in
    (lacks, row_once f list y (slice_index f.afters y) ys linked.4 lacks)

-- none is no node
pub row_lacks_none : (f : Nodes) (list before node : ℕ) (row : List ℕ)
    → IsRow f list before node row → length f.afters ≤ 2 ^ 31 → In none row → ⊥
row_lacks_none f list before node row linked few h =
    let below : none < length f.afters = row_below f list before node row linked none h in absurd (omega arith)

-- following the nodes gives the row
pub row_followed : (f : Nodes) (list before node most : ℕ) (row : List ℕ) → length f.afters ≤ 2 ^ 31
    → IsRow f list before node row → length row ≤ most → followed most f.afters node ≡ row
row_followed f list before node zero [] few linked long = refl
row_followed f list before node zero (y ∷ ys) few linked long = absurd (omega arith)
row_followed f list before node (suc most) [] few linked long = rw (eq-eqb node none linked) refl
row_followed f list before node (suc most) (y ∷ ys) few linked long =
    let is : node ≡ y = linked.0 in
    let below : y < length f.afters = linked.1 in
    elim (eqb_tells node none) [
      | inl e ↦ absurd (omega (arith, e.1))
      | inr n ↦ rw (n.0, is) (ap (λ t. y ∷ t)
          (row_followed f list y (slice_index f.afters y) most ys few linked.4 (omega arith)))
    ]

-- the fields of a node are the same
pub record SameNode (f g : Nodes) (x : ℕ) : Type 0 where
  pub holder : slice_index g.holders x ≡ slice_index f.holders x
  pub before : slice_index g.befores x ≡ slice_index f.befores x
  pub after : slice_index g.afters x ≡ slice_index f.afters x

-- a row whose nodes are the same stays linked
pub row_same : (f g : Nodes) (list before node : ℕ) (row : List ℕ) → length g.afters
    ≡ length f.afters → ((x : ℕ) → In x row → SameNode f g x) → IsRow f list before node row
    → IsRow g list before node row
row_same f g list before node [] long same linked = linked
row_same f g list before node (y ∷ ys) long same linked =
    let here : SameNode f g y = same y (inl refl) in (
      linked.0,
      omega (arith, linked.1),
      here.holder ∙ linked.2,
      here.before ∙ linked.3,
      rw here.after (row_same f g list y (slice_index f.afters y) ys long (λ x h. same x (inr h)) linked.4),
    )

-- what a node that is linked in front of a row has changed
pub record LinksFront (f g : Nodes) (list node first : ℕ) : Type 0 where
  pub long : length g.afters ≡ length f.afters
  pub in_range : node < length f.afters
  pub holder : slice_index g.holders node ≡ list
  pub before : slice_index g.befores node ≡ none
  pub after : slice_index g.afters node ≡ first
  pub back : first < length f.afters → slice_index g.befores first ≡ node
  pub others : (x : ℕ) → x ≢ node → x ≢ first → SameNode f g x
  pub first_holder : first ≢ node → slice_index g.holders first ≡ slice_index f.holders first
  pub first_after : first ≢ node → slice_index g.afters first ≡ slice_index f.afters first

-- the row with the node in front
pub row_linked : (f g : Nodes) (list node first : ℕ) (row : List ℕ) → LinksFront f g list node first
    → IsRow f list none first row → Once row → (In node row → ⊥)
    → IsRow g list none node (node ∷ row)
row_linked f g list node first [] front linked once out =
    (refl, omega (arith, front.in_range, front.long), front.holder, front.before, front.after ∙ linked)
row_linked f g list node first (y ∷ ys) front linked once out =
    let is : first ≡ y = linked.0 in
    let apart : first ≢ node = λ e. out (inl (sym e ∙ is)) in
    let below : first < length f.afters = omega (arith, linked.1, is) in
    let holder : slice_index g.holders y ≡ list = subst (λ n. slice_index g.holders n
    ≡ slice_index f.holders n) is (front.first_holder apart) ∙ linked.2 in
    let before : slice_index g.befores y ≡ node = subst (λ n. slice_index g.befores n ≡ node) is (front.back below) in
    let after : slice_index g.afters y ≡ slice_index f.afters y =
    subst (λ n. slice_index g.afters n ≡ slice_index f.afters n) is (front.first_after apart) in
    let rest : IsRow g list y (slice_index f.afters y) ys =
    row_same f g list y (slice_index f.afters y) ys front.long (λ x h. front.others x (λ e. out
    (inr (subst (λ n. In n ys) e h))) (λ e. once.0 (subst (λ n. In n ys) (e ∙ is) h))) linked.4 in (
      refl,
      omega (arith, front.in_range, front.long),
      front.holder,
      front.before,
      (front.after ∙ is, omega (arith, linked.1, front.long), holder, before, rw after rest),
    )

-- a row from none is what following its nodes gives
pub row_is_followed : (f : Nodes) (list first : ℕ) (row : List ℕ) → length f.afters ≤ 2 ^ 31
    → IsRow f list none first row → followed (length f.afters) f.afters first ≡ row
row_is_followed f list first row few linked =
    let once : Once row = row_once f list none first row linked (row_lacks_none f list none first row linked few) in
    row_followed f list none first (length f.afters) row few linked
    (few_below row (length f.afters) once (row_below f list none first row linked))

-- the node after one of the row is one of it, or none
pub row_after : (f : Nodes) (list before node : ℕ) (row : List ℕ) → IsRow f list before node row
    → (x : ℕ) → In x row → In (slice_index f.afters x) row ⊎ (slice_index f.afters x ≡ none)
row_after f list before node [] linked x h = absurd h
row_after f list before node (y ∷ []) linked x h = elim h [
  | inl e ↦ inr (ap (λ n. slice_index f.afters n) e ∙ linked.4)
  | inr r ↦ absurd r
]
row_after f list before node (y ∷ z ∷ zs) linked x h = elim h [
  | inl e ↦ inl (inr (inl (ap (λ n. slice_index f.afters n) e ∙ linked.4.0)))
  | inr r ↦ elim (row_after f list y (slice_index f.afters y) (z ∷ zs) linked.4 x r) [
    | inl there ↦ inl (inr there)
    | inr end ↦ inr end
  ]
]

-- what taking out a node has changed: its neighbours are each other's
pub record Unlinks (f g : Nodes) (node before after : ℕ) : Type 0 where
  pub long : length g.afters ≡ length f.afters
  pub back : after < length f.afters → slice_index g.befores after ≡ before
  pub forth : before < length f.afters → slice_index g.afters before ≡ after
  pub holders : (x : ℕ) → x ≢ node → slice_index g.holders x ≡ slice_index f.holders x
  pub befores : (x : ℕ) → x ≢ after → slice_index g.befores x ≡ slice_index f.befores x
  pub afters : (x : ℕ) → x ≢ before → slice_index g.afters x ≡ slice_index f.afters x

-- what comes after the node follows the one before it
row_rest : (f g : Nodes) (list node before after : ℕ) (row : List ℕ) → Unlinks f g node before after
    → IsRow f list node after row → Once row → (In node row → ⊥) → (In before row → ⊥)
    → IsRow g list before after row
row_rest f g list node before after [] taken linked once no_node no_before = linked
row_rest f g list node before after (y ∷ ys) taken linked once no_node no_before =
    let is : after ≡ y = linked.0 in
    let below : after < length f.afters = omega (arith, linked.1, is) in
    let apart : y ≢ node = λ e. no_node (inl (sym e)) in
    let alone : y ≢ before = λ e. no_before (inl (sym e)) in
    let rest : IsRow g list y (slice_index f.afters y) ys =
    row_same f g list y (slice_index f.afters y) ys taken.long (λ x h. record {
      holder = taken.holders x (λ e. no_node (inr (subst (λ n. In n ys) e h)));
      before = taken.befores x (λ e. once.0 (subst (λ n. In n ys) (e ∙ is) h));
      after = taken.afters x (λ e. no_before (inr (subst (λ n. In n ys) e h)));
    }) linked.4 in (
      is,
      omega (arith, linked.1, taken.long),
      taken.holders y apart ∙ linked.2,
      subst (λ n. slice_index g.befores n ≡ before) is (taken.back below),
      rw (taken.afters y alone) rest,
    )

-- where the one after y is the node, taking the node out links y to the one after that; else y stays
row_forth : (f g : Nodes) (list node y : ℕ) (ys : List ℕ) → Unlinks f g node (slice_index f.befores
    node) (slice_index f.afters node) → y < length f.afters → IsRow f list y (slice_index f.afters
    y) ys → (In y ys → ⊥) → In node ys → slice_index g.afters y ≡ (if slice_index f.afters y == node
    then slice_index f.afters node else slice_index f.afters y)
row_forth f g list node y [] taken below linked out h = absurd h
row_forth f g list node y (z ∷ zs) taken below linked out h = elim (eqb_tells (slice_index f.afters y) node) [
  | inl e ↦
      let is : z ≡ node = sym linked.0 ∙ e.1 in
      let mine : slice_index f.befores node ≡ y = subst (λ n. slice_index f.befores n ≡ y) is linked.3 in
      rw e.0 (subst (λ n. slice_index g.afters n ≡ slice_index f.afters node) mine
      (taken.forth (omega (arith, mine, below))))
  | inr n ↦
      let inside : In (slice_index f.befores node) (z ∷ zs) = elim h [
        | inl e ↦ absurd (n.1 (linked.0 ∙ sym e))
        | inr there ↦ row_before f list z (slice_index f.afters z) zs linked.4 node there
      ] in
      rw n.0 (taken.afters y (λ e. out (subst (λ m. In m (z ∷ zs)) (sym e) inside)))
]

-- the row without the node
pub row_unlinked : (f g : Nodes) (list before first node : ℕ) (row : List ℕ) → length f.afters
    ≤ 2 ^ 31 → Unlinks f g node (slice_index f.befores node) (slice_index f.afters node)
    → IsRow f list before first row → Once row → (In before row → ⊥) → In node row → IsRow g list
    before (if first == node then slice_index f.afters node else first) (without node row)
row_unlinked f g list before first node [] few taken linked once out h = absurd h
row_unlinked f g list before first node (y ∷ ys) few taken linked once out h = elim (eqb_tells y node) [
  | inl e ↦
      let is : y ≡ node = e.1 in
      let lacks : In node ys → ⊥ = λ there. once.0 (subst (λ n. In n ys) (sym is) there) in
      let starts : IsRow f list node (slice_index f.afters node) ys =
      subst (λ n. IsRow f list n (slice_index f.afters n) ys) is linked.4 in
      let mine : slice_index f.befores node ≡ before = subst (λ n. slice_index f.befores n ≡ before) is linked.3 in
      let rest : IsRow g list before (slice_index f.afters node) ys =
      subst (λ n. IsRow g list n (slice_index f.afters node) ys) mine
      (row_rest f g list node (slice_index f.befores node) (slice_index f.afters node) ys taken
      starts once.1 lacks (λ there. out (inr (subst (λ n. In n ys) mine there)))) in
      rw (eq-eqb first node (linked.0 ∙ is), e.0, without_Out node ys lacks) rest
  | inr n ↦
      let there : In node ys = elim h [ inl e ↦ absurd (n.1 (sym e)) | inr r ↦ r ] in
      let first_too : (first == node) ≡ false = subst (λ m. (m == node) ≡ false) (sym linked.0) n.0 in
      let behind : y ≢ slice_index f.afters node =
      λ e. elim (row_after f list y (slice_index f.afters y) ys linked.4 node there) [
        | inl inside ↦ once.0 (subst (λ m. In m ys) (sym e) inside)
        | inr end ↦ absurd (omega (arith, e, end, linked.1))
      ] in
      let rest : IsRow g list y (if slice_index f.afters y == node then slice_index f.afters node
      else slice_index f.afters y) (without node ys) = row_unlinked f g list y
      (slice_index f.afters y) node ys few taken linked.4 once.1 once.0 there in
      let forth : slice_index g.afters y ≡ (if slice_index f.afters y == node
      then slice_index f.afters node else slice_index f.afters y) =
      row_forth f g list node y ys taken linked.1 linked.4 once.0 there in
      let row : IsRow g list before first (y ∷ without node ys) = (
        linked.0,
        omega (arith, linked.1, taken.long),
        taken.holders y n.1 ∙ linked.2,
        taken.befores y behind ∙ linked.3,
        subst (λ m. IsRow g list y m (without node ys)) (sym forth) rest,
      ) in
      rw (first_too, n.0) row
]
