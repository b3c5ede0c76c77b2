-- The first fault of lists of faults.
use Rattle.std.proofs.Common.{Bool, true, false, is_some, codes, subst, ◌≡◌, ◌<◌, ℕ, ◌+◌, suc, List, [], ◌∷◌, ◌++◌}
use Rattle.std.proofs.Common.{length, get_or, map, drop, refl, arith, drop-cons}
use Rattle.std.proofs.lemmas.Option.{none-some}
use Rattle.serde_json.specs.Data.{Data}
use Rattle.serde_json.specs.View.{view}
use Rattle.serde_json.specs.declared.value.Value.{Value}
use Rattle.ra_patch.specs.declared.refused.PatchRefused.{PatchRefused}
use Rattle.ra_patch.specs.declared.refused.PatchRefused.TheVariants.{Bytes, NotJson, Field, Break, Set, Memory}
use Rattle.ra_patch.specs.Answers.{IsFirst, RefusesValue}
use Rattle.ra_patch.specs.Faults.{unless, root_faults, achievement_faults, board_faults, achievement_breaks}
use Rattle.ra_patch.specs.Faults.{board_breaks, faults_from, faults_of, achievements_or_none, boards_or_none}
use Rattle.ra_patch.specs.Fields.{id_in, text_in, has_patch, achievements_in, boards_in, presence_in}

-- the first of some faults is the first of more
pub first-append : (why : PatchRefused) (a b : List PatchRefused) → IsFirst a why → IsFirst (a ++ b) why
first-append why [] b first = absurd (none-some why first)
first-append why (x ∷ a) b first = first

-- and that of others is the first where none stands before them
pub first-behind : (why : PatchRefused) (a b : List PatchRefused) → a ≡ [] → IsFirst b why → IsFirst (a ++ b) why
first-behind why a b none first = rw none first

-- two lists of no faults are one
pub none-both : (a b : List PatchRefused) → a ≡ [] → b ≡ [] → a ++ b ≡ []
none-both a b x y = rw (x, y) refl

-- the faults of the items from a place on are those of the item there and of those behind it
pub faults_from-step : (f : ℕ → Data → List PatchRefused) (n : ℕ) (vs : List Value) (i : ℕ) (x : Value) → i < length vs
    → x ≡ get_or vs i x
    → faults_from f n (map view (drop i vs)) ≡ f n (view x) ++ faults_from f (n + 1) (map view (drop (i + 1) vs))
faults_from-step f n vs i x within is =
    let next : i + 1 ≡ suc i = omega arith in rw (next, drop-cons vs i x within, ← is) refl

-- the first fault of the item at a place is the first of the items from there on
pub first-at : (f : ℕ → Data → List PatchRefused) (n : ℕ) (vs : List Value) (i : ℕ) (x : Value) (why : PatchRefused)
    → i < length vs → x ≡ get_or vs i x
    → IsFirst (f n (view x)) why → IsFirst (faults_from f n (map view (drop i vs))) why
first-at f n vs i x why within is first =
    rw (faults_from-step f n vs i x within is) (first-append why (f n (view x)) _ first)

-- ---- the first fault of five lists

module _ (why : PatchRefused) (root fields others texts rest : List PatchRefused) where
  pub first-second : root ≡ [] → IsFirst fields why → IsFirst (root ++ fields ++ others ++ texts ++ rest) why
  first-second none first =
      first-append why _ rest
      (first-append why _ texts (first-append why _ others (first-behind why root fields none first)))

  pub first-third : root ≡ [] → fields ≡ [] → IsFirst others why
      → IsFirst (root ++ fields ++ others ++ texts ++ rest) why
  first-third none none' first =
      first-append why _ rest
      (first-append why _ texts (first-behind why (root ++ fields) others (none-both root fields none none') first))

  pub first-fourth : root ≡ [] → fields ≡ [] → others ≡ [] → IsFirst texts why
      → IsFirst (root ++ fields ++ others ++ texts ++ rest) why
  first-fourth none none' none'' first = first-append why _ rest
      (first-behind why (root ++ fields ++ others) texts
      (none-both (root ++ fields) others (none-both root fields none none') none'') first)

-- ---- faults are fields and breaks

-- a field that is missing or wrong, or a break
abbrev IsFault : PatchRefused → Type 0
IsFault (Field list index field) = Unit {0}
IsFault (Break list index) = Unit {0}
IsFault _ = ⊥

-- each of these is a fault
abbrev Each : List PatchRefused → Type 0
Each [] = Unit {0}
Each (x ∷ xs) = IsFault x × Each xs

each-append : (a b : List PatchRefused) → Each a → Each b → Each (a ++ b)
each-append [] b x y = y
each-append (c ∷ a) b x y = (x.0, each-append a b x.1 y)

each-unless : (holds : Bool) (why : PatchRefused) → IsFault why → Each (unless holds why)
each-unless true why fault = tt
each-unless false why fault = (fault, tt)

each-from : (f : ℕ → Data → List PatchRefused) → ((n : ℕ) (d : Data) → Each (f n d)) → (n : ℕ) (ds : List Data)
    → Each (faults_from f n ds)
each-from f each n [] = tt
each-from f each n (d ∷ ds) = each-append (f n d) _ (each n d) (each-from f each (n + 1) ds)

each-root : (d : Data) → Each (root_faults d)
each-root d =
    each-append (unless (has_patch d) _ ++ unless (is_some (achievements_in d)) _ ++ unless (is_some (boards_in d)) _) _
    (each-append (unless (has_patch d) _ ++ unless (is_some (achievements_in d)) _) _
    (each-append (unless (has_patch d) _) _ (each-unless (has_patch d) _ tt)
    (each-unless (is_some (achievements_in d)) _ tt)) (each-unless (is_some (boards_in d)) _ tt))
    (each-unless (is_some (presence_in d)) _ tt)

each-achievement : (n : ℕ) (d : Data) → Each (achievement_faults n d)
each-achievement n d =
    each-append (unless (is_some (id_in d)) _) _ (each-unless (is_some (id_in d)) _ tt)
    (each-unless (is_some (text_in (codes "MemAddr") d)) _ tt)

each-board : (n : ℕ) (d : Data) → Each (board_faults n d)
each-board n d =
    each-append (unless (is_some (id_in d)) _ ++ unless (is_some (text_in (codes "Mem") d)) _) _
    (each-append (unless (is_some (id_in d)) _) _ (each-unless (is_some (id_in d)) _ tt)
    (each-unless (is_some (text_in (codes "Mem") d)) _ tt))
    (each-unless (is_some (text_in (codes "Format") d)) _ tt)

each-fault : (d : Data) → Each (faults_of d)
each-fault d =
    let achievements = achievements_or_none d in
    let boards = boards_or_none d in
    let fields : Each
    (root_faults d ++ faults_from achievement_faults 0 achievements ++ faults_from board_faults 0 boards) =
    each-append _ (faults_from board_faults 0 boards)
    (each-append (root_faults d) _ (each-root d) (each-from achievement_faults each-achievement 0 achievements))
    (each-from board_faults each-board 0 boards) in
    each-append _ (faults_from board_breaks 0 boards)
    (each-append _ (faults_from achievement_breaks 0 achievements) fields
    (each-from achievement_breaks (λ n d. each-unless _ _ tt) 0 achievements))
    (each-from board_breaks (λ n d. each-unless _ _ tt) 0 boards)

first-is_fault : (why : PatchRefused) (faults : List PatchRefused) → Each faults → IsFirst faults why → IsFault why
first-is_fault why [] each first = absurd (none-some why first)
first-is_fault why (x ∷ xs) each first = let same : x ≡ why = cc first in subst IsFault same each.0

-- a value is refused for its first fault
pub refuses-first : (d : Data) (why : PatchRefused) → IsFirst (faults_of d) why → RefusesValue d why
refuses-first d why first = by-fault why (first-is_fault why (faults_of d) (each-fault d) first) first where
  by-fault : (why : PatchRefused) → IsFault why → IsFirst (faults_of d) why → RefusesValue d why
  by-fault (Field list index field) fault first = first
  by-fault (Break list index) fault first = first
  by-fault (Bytes found) fault first = fault
  by-fault NotJson fault first = fault
  by-fault (Set cause) fault first = absurd fault
  by-fault Memory fault first = fault
