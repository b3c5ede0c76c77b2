-- The places that are listed at a frame: those of the items that were stepped and may tell something.
use mir.Val.{bool_byte}
use Rattle.std.proofs.Common.{◌≡◌, ℕ, zero, suc, ◌+◌, ◌<◌, ◌≤◌, Bool, true, false, Some, if◌then◌else◌}
use Rattle.std.proofs.Common.{List, [], ◌∷◌, ◌++◌, length, take, get_or, set, slice_get, slice_index_or, slice_set}
use Rattle.std.proofs.Common.{refl, sym, ◌∙◌, ap, ap₂, arith}
use Rattle.std.proofs.lemmas.List.{append-nil, take_more_set, take-set-le}
use Rattle.std.proofs.lemmas.List.Concat.{flat_map-append}
use Rattle.ra_set.specs.Contents.{ItemContents}
use Rattle.ra_items.specs.declared.item_run.ItemRun.{ItemRun}
use Rattle.ra_items.specs.Rests.{due_below, events_at, events_of, maybe_events}
use Rattle.ra_items.specs.RunEvents.{run_events}

-- each of some places is below one
abbrev pub AreBelow : ℕ → List ℕ → Type 0
AreBelow at [] = Unit {0}
AreBelow at (k ∷ ks) = (k < at) × AreBelow at ks

pub below_further : (at to : ℕ) (ks : List ℕ) → at ≤ to → AreBelow at ks → AreBelow to ks
below_further at to [] order below = tt
below_further at to (k ∷ ks) order below = (omega (arith, below.0, order), below_further at to ks order below.1)

pub below_both : (at : ℕ) (ks more : List ℕ) → AreBelow at ks → AreBelow at more → AreBelow at (ks ++ more)
below_both at [] more below too = too
below_both at (k ∷ ks) more below too = (below.0, below_both at ks more below.1 too)

pub one_below : (to at : ℕ) (b : Bool) → at < to → AreBelow to (if b then at ∷ [] else [])
one_below to at true order = (order, tt)
one_below to at false order = tt

pub due_is_below : (due : List Bool) (at : ℕ) → AreBelow at (due_below due at)
due_is_below due zero = tt
due_is_below due (suc at) =
    below_both (suc at) (due_below due at) (if slice_index_or due at true then at ∷ [] else [])
    (below_further at (suc at) (due_below due at) (omega arith) (due_is_below due at))
    (one_below (suc at) at (slice_index_or due at true) (omega arith))

-- what stands at a place is there
pub there : {A : Type 0} (xs : List A) (k : ℕ) (d : A) → k < length xs → slice_get xs k ≡ Some (get_or xs k d)
there [] k d within = absurd (omega (arith, within))
there (x ∷ xs) zero d within = refl
there (x ∷ xs) (suc k) d within = there xs k d (omega (arith, within))

got_here : (runs : List ItemRun) (place : ℕ) (run : ItemRun) → place < length runs
    → slice_get (set runs place run) place ≡ Some run
got_here [] place run within = absurd (omega (arith, within))
got_here (r ∷ runs) zero run within = refl
got_here (r ∷ runs) (suc place) run within = got_here runs place run (omega (arith, within))

got_before : (runs : List ItemRun) (place : ℕ) (run : ItemRun) (k : ℕ) → k < place
    → slice_get (set runs place run) k ≡ slice_get runs k
got_before [] place run k before = refl
got_before (r ∷ runs) zero run k before = absurd (omega (arith, before))
got_before (r ∷ runs) (suc place) run zero before = refl
got_before (r ∷ runs) (suc place) run (suc k) before = got_before runs place run k (omega (arith, before))

-- the events of the item at a place, where another run stands there
pub events_here : (items : List ItemContents) (runs : List ItemRun) (place : ℕ) (run : ItemRun) (item : ItemContents)
    → place < length items → place < length runs
    → events_at items (set runs place run) place ≡ run_events (get_or items place item) run
events_here items runs place run item within within_runs =
    (λ i. maybe_events (there items place item within i) (got_here runs place run within_runs i))

-- the events of those below a place stay
events_before : (items : List ItemContents) (runs : List ItemRun) (place : ℕ) (run : ItemRun) (ks : List ℕ)
    → AreBelow place ks → events_of items (set runs place run) ks ≡ events_of items runs ks
events_before items runs place run [] below = refl
events_before items runs place run (k ∷ ks) below =
    ap₂ (λ x xs. x ++ xs) (ap (maybe_events (slice_get items k)) (got_before runs place run k below.0))
    (events_before items runs place run ks below.1)

-- one place more is listed, where its item may tell something
pub listed : (ks : List ℕ) (count place : ℕ) (tells : Bool) → count < length ks
    → take (count + (if tells then 1 else 0)) (slice_set ks count place)
    ≡ take count ks ++ (if tells then place ∷ [] else [])
listed ks count place true within = take_more_set ks count place within
listed ks count place false within =
    let same : count + 0 ≡ count = omega arith in
    ap (λ n. take n (slice_set ks count place)) same
    ∙ take-set-le count ks count place (omega arith) ∙ sym (append-nil (take count ks))

-- a truth as a number
pub counted : (b : Bool) → bool_byte b ≡ (if b then 1 else 0)
counted true = refl
counted false = refl

pub few_listed : (count at place : ℕ) (tells : Bool) → count ≤ at → at ≤ place
    → count + (if tells then 1 else 0) ≤ place + 1
few_listed count at place true few order = omega (arith, few, order)
few_listed count at place false few order = omega (arith, few, order)

-- where the events of some places are those of others, they are so with one place more, which is left out
-- where its item tells nothing
module _ (items : List ItemContents) (runs : List ItemRun) (place : ℕ) (run : ItemRun) where
  abbrev news : List ItemRun
  news = set runs place run

  one_more : (tells : Bool) → (tells ≡ false → events_at items news place ≡ [])
      → events_of items news (if tells then place ∷ [] else []) ≡ events_of items news (place ∷ [])
  one_more true silent = refl
  one_more false silent = sym (append-nil (events_at items news place) ∙ silent refl)

  pub listed_events : (ks due : List ℕ) (tells : Bool) → AreBelow place ks → AreBelow place due
      → events_of items runs ks ≡ events_of items runs due
      → (tells ≡ false → events_at items news place ≡ [])
      → events_of items news (ks ++ (if tells then place ∷ [] else [])) ≡ events_of items news (due ++ place ∷ [])
  listed_events ks due tells below due_too same silent =
      flat_map-append (events_at items news) ks (if tells then place ∷ [] else [])
      ∙ ap₂ (λ xs ys. xs ++ ys)
      (events_before items runs place run ks below ∙ same ∙ sym (events_before items runs place run due due_too))
      (one_more tells silent)
      ∙ sym (flat_map-append (events_at items news) due (place ∷ []))
