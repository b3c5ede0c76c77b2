-- Warnings put one behind the other: those of groups, and those of items.
use Rattle.std.proofs.Common.{◌≡◌, ℕ, suc, ◌+◌, ◌<◌, Bool, true, false, not, eqb, ◌&&◌, List, [], ◌∷◌, ◌++◌, length}
use Rattle.std.proofs.Common.{map, take, get_or, refl, sym, ap, ap₂, ◌∙◌, arith, append_assoc, append-nil}
use Rattle.std.specs.List.{list_all}
use Rattle.std.proofs.lemmas.Bool.{ne_eqb}
use Rattle.std.proofs.lemmas.List.{length-map, length-take-le}
use Rattle.std.proofs.lemmas.List.Folds.{list_all-append}
use Rattle.ra_condition.specs.declared.condition.Condition.{Condition}
use Rattle.ra_condition.specs.declared.group.Group.{Group}
use Rattle.ra_condition.specs.Contents.{group_contents}
use Rattle.ra_member.proofs.GrowthLemmas.{taken_next}
use Rattle.ra_set.specs.Contents.{ItemContents}
use Rattle.ra_lint.specs.declared.warning.Warning.{Warning}
use Rattle.ra_lint.specs.declared.warning.Place.{Place}
use Rattle.ra_lint.specs.Chances.{is_dead}
use Rattle.ra_lint.specs.Warnings.{may_hold, are_dead, group_warnings, warnings_from, item_warnings, warnings_on}

-- the group is never valid
abbrev pub is_dead_group : List Condition → Bool
is_dead_group cs = is_dead cs (may_hold cs)

all_and : (b : Bool) → (b && true) ≡ b
all_and true = refl
all_and false = refl

pub dead_more : (groups : List (List Condition)) (cs : List Condition) → list_all is_dead_group (groups ++ cs ∷ []) ≡
    (list_all is_dead_group groups && is_dead_group cs)
dead_more groups cs =
    list_all-append is_dead_group groups (cs ∷ []) ∙ ap (λ b. list_all is_dead_group groups && b)
    (all_and (is_dead_group cs))

-- the warnings on the groups so far, and on one more
pub groups_more : (item : ℕ) (place : Place) (group : ℕ) (groups : List (List Condition)) (cs : List Condition)
    → warnings_from item place group (groups ++ cs ∷ []) ≡ warnings_from item place group groups
    ++ group_warnings item place (group + length groups) cs
groups_more item place group [] cs =
    let here : group ≡ group + 0 = omega arith in
    append-nil (group_warnings item place group cs)
    ∙ ap (λ g. group_warnings item place g cs) here
groups_more item place group (first ∷ groups) cs =
    let next : suc group + length groups ≡ group + suc (length groups) = omega arith in
    ap (λ ws. group_warnings item place group first ++ ws) (groups_more item place (suc group) groups cs
    ∙ ap (λ g. warnings_from item place (suc group) groups ++ group_warnings item place g cs) next)
    ∙ sym (append_assoc (group_warnings item place group first) (warnings_from item place (suc group) groups)
    (group_warnings item place (group + suc (length groups)) cs))

-- the warnings on the items so far, and on one more
pub items_more : (number : ℕ) (items : List ItemContents) (x : ItemContents)
    → warnings_on number (items ++ x ∷ []) ≡ warnings_on number items ++ item_warnings (number + length items) x
items_more number [] x =
    let here : number ≡ number + 0 = omega arith in
    append-nil (item_warnings number x) ∙ ap (λ n. item_warnings n x) here
items_more number (first ∷ items) x =
    let next : suc number + length items ≡ number + suc (length items) = omega arith in
    ap (λ ws. item_warnings number first ++ ws) (items_more (suc number) items x
    ∙ ap (λ n. warnings_on (suc number) items ++ item_warnings n x) next)
    ∙ sym (append_assoc (item_warnings number first) (warnings_on (suc number) items)
    (item_warnings (number + suc (length items)) x))

-- what is put behind the rows of the elements so far, where an element's row has its number
module _ {X Y : Type 0} (contents : Y → X) (rows : List X → List Warning) (row : ℕ → X → List Warning) (first : ℕ)
    (more : (xs : List X) (x : X) → rows (xs ++ x ∷ []) ≡ rows xs ++ row (first + length xs) x) where
  pub row_taken : (ys : List Y) (k : ℕ) (y : Y) → k < length ys → y ≡ get_or ys k y
      → (start found found' : List Warning) (n : ℕ)
      → n ≡ first + k → found ≡ start ++ rows (map contents (take k ys)) → found' ≡ found ++ row n (contents y)
      → found' ≡ start ++ rows (map contents (take (k + 1) ys))
  row_taken ys k y within is start found found' n number so_far put =
      let taken = map contents (take k ys) in
      let count : n ≡ first + length taken = omega (
        arith,
        number,
        length-map (take k ys) contents,
        length-take-le k ys (omega arith),
      ) in
      put ∙ ap (λ ws. ws ++ row n (contents y)) so_far ∙ append_assoc start (rows taken) (row n (contents y))
      ∙ ap (λ m. start ++ (rows taken ++ row m (contents y))) count
      ∙ ap (λ ws. start ++ ws) (sym (ap rows (taken_next contents ys k y within is) ∙ more taken (contents y)))

-- whether the groups so far are dead, and one more
pub dead_taken : (b : Bool) (alts : List Group) (k : ℕ) (alt : Group) → k < length alts → alt ≡ get_or alts k alt
    → (dead here : Bool) → dead ≡ (b && list_all is_dead_group (map group_contents (take k alts)))
    → here ≡ is_dead_group (group_contents alt)
    → (dead && here) ≡ (b && list_all is_dead_group (map group_contents (take (k + 1) alts)))
dead_taken b alts k alt within is dead here so_far here_is =
    let taken = map group_contents (take k alts) in
    ap₂ (λ x y. x && y) so_far here_is ∙ and_assoc b (list_all is_dead_group taken) (is_dead_group (group_contents alt))
    ∙ ap (λ x. b && x) (sym (ap (list_all is_dead_group) (taken_next group_contents alts k alt within is)
    ∙ dead_more taken (group_contents alt)))
  where
    and_assoc : (x y z : Bool) → ((x && y) && z) ≡ (x && (y && z))
    and_assoc true y z = refl
    and_assoc false y z = refl
