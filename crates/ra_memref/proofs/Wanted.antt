-- Which nodes of a pool are to have names, as the pass goes over them backwards.
use Rattle.std.proofs.Common.{◌≡◌, ℕ, ◌+◌, ◌<◌, ◌≤◌, inl, inr, Bool, true, false, if◌then◌else◌, List, length, take}
use Rattle.std.proofs.Common.{slice_set, refl, sym, subst, ◌∙◌, arith}
use Rattle.std.proofs.lemmas.Bool.{cases_lt, false≢true}
use Rattle.std.proofs.lemmas.List.{get_or-set_other, get_or_past, length-set, length-take}
use Rattle.std.proofs.lemmas.Grind.{get_or-set_at}
use Rattle.ra_indirect.specs.declared.node.Node.{Node}
use Rattle.ra_indirect.specs.declared.node.Node.TheVariants.{Const, Cell as CellNode, View, Arith}
use Rattle.ra_indirect.specs.Pools.{node_at}
use Rattle.ra_indirect.specs.Interned.{IsPool}
use Rattle.ra_indirect.proofs.SpelledLemmas.{names_below}
use Rattle.ra_memref.specs.Names.{NamesBelow}
use Rattle.ra_memref.specs.Naming.{is_wanted, wanted_after, HasWanted}

-- what holds of both holds of the one that is chosen
either : {A : Type 0} (b : Bool) (P : A → Type 0) (x y : A) → P x → P y → P (if b then x else y)
either true P x y left right = left
either false P x y left right = right

-- a mark more is there, moves no other one and takes none away
set_here : (wanted : List Bool) (i : ℕ) → i < length wanted → is_wanted (slice_set wanted i true) i ≡ true
set_here wanted i within = get_or-set_at wanted i i true false refl within

set_far : (wanted : List Bool) (i k : ℕ) → i < k → is_wanted (slice_set wanted i true) k ≡ is_wanted wanted k
set_far wanted i k far = get_or-set_other wanted i k true false (λ same. omega (arith, far, same))

set_more : (wanted : List Bool) (i k : ℕ) → is_wanted wanted k ≡ true → is_wanted (slice_set wanted i true) k ≡ true
set_more wanted i k is = elim (cases_lt i k) [
  | inl below ↦ set_far wanted i k below ∙ is
  | inr from ↦ elim (cases_lt k i) [
    | inl above ↦ get_or-set_other wanted i k true false (λ same. omega (arith, above, same)) ∙ is
    | inr to ↦ elim (cases_lt i (length wanted)) [
      | inl within ↦ get_or-set_at wanted i k true false (omega (arith, from, to)) within
      | inr past ↦ absurd (false≢true (sym (get_or_past wanted k false (omega (arith, past, from))) ∙ is))
    ]
  ]
]

pub length-wanted_after : (node : Node) (number : ℕ) (wanted : List Bool)
    → length (wanted_after node number wanted) ≡ length wanted
length-wanted_after (Const n) number wanted = refl
length-wanted_after (CellNode width pointer offset) number wanted =
    length-set (slice_set wanted number true) pointer true ∙ length-set wanted number true
length-wanted_after (View kind size c) number wanted =
    either (is_wanted wanted number) (λ ws. length ws ≡ length wanted) (slice_set wanted c true) wanted
    (length-set wanted c true) refl
length-wanted_after (Arith op left right) number wanted =
    either (is_wanted wanted number) (λ ws. length ws ≡ length wanted)
    (slice_set (slice_set wanted left true) right true) wanted
    (length-set (slice_set wanted left true) right true ∙ length-set wanted left true) refl

module _ (number : ℕ) (wanted : List Bool) (within : number < length wanted) where
  -- the marks stay
  more : (node : Node) (k : ℕ) → is_wanted wanted k ≡ true → is_wanted (wanted_after node number wanted) k ≡ true
  more (Const n) k is = is
  more (CellNode width pointer offset) k is =
      set_more (slice_set wanted number true) pointer k (set_more wanted number k is)
  more (View kind size c) k is =
      either (is_wanted wanted number) (λ ws. is_wanted ws k ≡ true) (slice_set wanted c true) wanted
      (set_more wanted c k is) is
  more (Arith op left right) k is =
      either (is_wanted wanted number) (λ ws. is_wanted ws k ≡ true)
      (slice_set (slice_set wanted left true) right true) wanted
      (set_more (slice_set wanted left true) right k (set_more wanted left k is)) is

  -- those of later nodes do not move
  far : (node : Node) (k : ℕ) → NamesBelow number node → number < k
      → is_wanted (wanted_after node number wanted) k ≡ is_wanted wanted k
  far (Const n) k names later = refl
  far (CellNode width pointer offset) k names later =
      set_far (slice_set wanted number true) pointer k (omega (arith, names, later)) ∙ set_far wanted number k later
  far (View kind size c) k names later =
      either (is_wanted wanted number) (λ ws. is_wanted ws k ≡ is_wanted wanted k) (slice_set wanted c true) wanted
      (set_far wanted c k (omega (arith, names, later))) refl
  far (Arith op left right) k names later =
      either (is_wanted wanted number) (λ ws. is_wanted ws k ≡ is_wanted wanted k)
      (slice_set (slice_set wanted left true) right true) wanted
      (set_far (slice_set wanted left true) right k (omega (arith, names.1, later))
      ∙ set_far wanted left k (omega (arith, names.0, later)))
      refl

  viewed : (c : ℕ) (flag : Bool) → is_wanted wanted number ≡ flag → c < number
      → is_wanted (if flag then slice_set wanted c true else wanted) number ≡ true
      → is_wanted (if flag then slice_set wanted c true else wanted) c ≡ true
  viewed c true e below is = set_here wanted c (omega (arith, below, within))
  viewed c false e below is = absurd (false≢true (sym e ∙ is))

  both : (left right : ℕ) (flag : Bool) → is_wanted wanted number ≡ flag → left < number → right < number
      → is_wanted (if flag then slice_set (slice_set wanted left true) right true else wanted) number ≡ true
      → (is_wanted (if flag then slice_set (slice_set wanted left true) right true else wanted) left ≡ true) ×
      (is_wanted (if flag then slice_set (slice_set wanted left true) right true else wanted) right ≡ true)
  both left right true e low high is = (
    set_more (slice_set wanted left true) right left (set_here wanted left (omega (arith, low, within))),
    set_here (slice_set wanted left true) right (omega (arith, high, within, length-set wanted left true)),
  )
  both left right false e low high is = absurd (false≢true (sym e ∙ is))

  -- the node has what it wants
  here : (node : Node) → NamesBelow number node → HasWanted (wanted_after node number wanted) number node
  here (Const n) names = tt
  here (CellNode width pointer offset) names = (
    set_more (slice_set wanted number true) pointer number (set_here wanted number within),
    set_here (slice_set wanted number true) pointer (omega (arith, names, within, length-set wanted number true)),
  )
  here (View kind size c) names = viewed c (is_wanted wanted number) refl names
  here (Arith op left right) names = both left right (is_wanted wanted number) refl names.0 names.1

  -- and a later one still has it
  still : (node other : Node) (k : ℕ) → NamesBelow number node → number < k → HasWanted wanted k other
      → HasWanted (wanted_after node number wanted) k other
  still node (Const n) k names later has = tt
  still node (CellNode width pointer offset) k names later has = (more node k has.0, more node pointer has.1)
  still node (View kind size c) k names later has = λ is. more node c (has (sym (far node k names later) ∙ is))
  still node (Arith op left right) k names later has =
      λ is. let two = has (sym (far node k names later) ∙ is) in (more node left two.0, more node right two.1)

-- the nodes from this one on have what they want
pub record AreWantedFrom (nodes : List Node) (wanted : List Bool) (left : ℕ) : Type 0 where
  pub as_many : length wanted ≡ length nodes
  pub most : left ≤ length nodes
  pub each : (n : ℕ) → left ≤ n → n < length nodes → HasWanted wanted n (node_at nodes n)

-- a node of a pool names earlier ones
pub names_earlier : (nodes : List Node) → IsPool nodes → (k : ℕ) → k < length nodes → NamesBelow k (node_at nodes k)
names_earlier nodes pool k within =
    names_below k (take k nodes) (node_at nodes k) (omega (arith, within, length-take k nodes)) (pool.named k within)

-- a node more has what it wants
pub wanted_more : (nodes : List Node) → IsPool nodes → (wanted : List Bool) (left : ℕ)
    → AreWantedFrom nodes wanted (left + 1) → AreWantedFrom nodes (wanted_after (node_at nodes left) left wanted) left
wanted_more nodes pool wanted left are =
    let inside : left < length nodes = omega (arith, are.most) in
    let within : left < length wanted = omega (arith, inside, are.as_many) in
    let names = names_earlier nodes pool left inside in
    record {
      as_many = length-wanted_after (node_at nodes left) left wanted ∙ are.as_many;
      most = omega (arith, are.most);
      each = λ n from under. elim (cases_lt left n) [
        | inl later ↦ still left wanted within (node_at nodes left) (node_at nodes n) n names later
            (are.each n (omega (arith, later)) under)
        | inr to ↦
            let same : left ≡ n = omega (arith, from, to) in
            subst (λ k. HasWanted (wanted_after (node_at nodes left) left wanted) k (node_at nodes k)) same
            (here left wanted within (node_at nodes left) names)
      ];
    }
