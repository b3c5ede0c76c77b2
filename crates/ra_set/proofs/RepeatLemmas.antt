-- Lines that repeat an id, with one line more behind them.
use Rattle.std.proofs.Common.{◌≡◌, ◌∙◌, ℕ, zero, suc, ◌+◌, ◌<◌, Bool, true, false, ◌||◌, List, [], ◌∷◌, ◌++◌, length}
use Rattle.std.proofs.Common.{Some, None, slice_get, option_to_list, refl, sym, ap, subst, arith, eq-eqb, append-nil}
use Rattle.std.specs.List.{IsDistinct, AllByRecursion, list_any}
use Rattle.std.proofs.lemmas.List.Concat.{flat_map-append}
use Rattle.std.proofs.lemmas.Map.Keys.{IsDistinct-push, IsDistinct-head, IsDistinct-tail}
use Rattle.std.specs.Cmp.{IsEquivalence, nat_eq_equiv}
use Rattle.ra_set.specs.Accepted.{repeats}
use Rattle.ra_set.specs.Contents.{ItemContents, Unlocks, Ranks}
use Rattle.ra_set.specs.Grammar.{Line, items_of}
use Rattle.ra_set.specs.Refusals.{RepeatsAt, FirstRepeat, id_of}

-- ---- ids of one letter that are equal

repeats-same : (x : ItemContents) → repeats x x ≡ true
repeats-same (Unlocks id t) = eq-eqb id id refl
repeats-same (Ranks id format b) = eq-eqb id id refl

pub repeats-symm : (x y : ItemContents) → repeats x y ≡ repeats y x
repeats-symm (Unlocks a t) (Unlocks b u) = nat_eq_equiv.symm a b
repeats-symm (Unlocks a t) (Ranks b f u) = refl
repeats-symm (Ranks a f t) (Unlocks b u) = refl
repeats-symm (Ranks a f t) (Ranks b g u) = nat_eq_equiv.symm a b

repeats-congr : (x y z : ItemContents) → repeats x y ≡ true → repeats x z ≡ repeats y z
repeats-congr (Unlocks a t) (Unlocks b u) (Unlocks c v) e = nat_eq_equiv.congr a b c e
repeats-congr (Unlocks a t) (Unlocks b u) (Ranks c h v) e = refl
repeats-congr (Unlocks a t) (Ranks b g u) z e = absurd (cc e)
repeats-congr (Ranks a f t) (Unlocks b u) z e = absurd (cc e)
repeats-congr (Ranks a f t) (Ranks b g u) (Unlocks c v) e = refl
repeats-congr (Ranks a f t) (Ranks b g u) (Ranks c h v) e = nat_eq_equiv.congr a b c e

pub repeats-equivalence : IsEquivalence repeats
repeats-equivalence = record { refl = repeats-same; symm = repeats-symm; congr = repeats-congr }

-- ---- places of lines

module _ {X : Type 0} where
  -- what stands in a list stands in a longer one
  get-front : (xs ys : List X) (n : ℕ) (x : X) → slice_get xs n ≡ Some x → slice_get (xs ++ ys) n ≡ Some x
  get-front [] ys n x e = absurd (cc e)
  get-front (y ∷ xs) ys zero x e = e
  get-front (y ∷ xs) ys (suc n) x e = get-front xs ys n x e

  get-within : (xs : List X) (n : ℕ) (x : X) → slice_get xs n ≡ Some x → n < length xs
  get-within [] n x e = absurd (cc e)
  get-within (y ∷ xs) zero x e = omega arith
  get-within (y ∷ xs) (suc n) x e = let r = get-within xs n x e in omega arith

  get-back : (xs ys : List X) (n : ℕ) (x : X) → n < length xs → slice_get (xs ++ ys) n ≡ Some x
      → slice_get xs n ≡ Some x
  get-back [] ys n x less e = absurd (omega arith)
  get-back (y ∷ xs) ys zero x less e = e
  get-back (y ∷ xs) ys (suc n) x less e = get-back xs ys n x (omega arith) e

  get-last : (xs : List X) (x : X) → slice_get (xs ++ x ∷ []) (length xs) ≡ Some x
  get-last [] x = refl
  get-last (y ∷ xs) x = get-last xs x

-- a repeat stays one behind which lines come
repeat-more : (lines more : List Line) (place : ℕ) (item : ItemContents)
    → RepeatsAt lines place item → RepeatsAt (lines ++ more) place item
repeat-more lines more place item h = record {
  here = get-front lines more place (Some item) h.here;
  earlier = h.earlier;
  before = h.before;
  other = h.other;
  there = get-front lines more h.earlier (Some h.other) h.there;
  same = h.same;
}

repeat-less : (lines more : List Line) (place : ℕ) (item : ItemContents) → place < length lines
    → RepeatsAt (lines ++ more) place item → RepeatsAt lines place item
repeat-less lines more place item within h = record {
  here = get-back lines more place (Some item) within h.here;
  earlier = h.earlier;
  before = h.before;
  other = h.other;
  there = get-back lines more h.earlier (Some h.other) (let b = h.before in omega arith) h.there;
  same = h.same;
}

pub first-more : (lines more : List Line) (id number : ℕ) → FirstRepeat lines id number
    → FirstRepeat (lines ++ more) id number
first-more lines more id number h = record {
  place = h.place;
  counted = h.counted;
  item = h.item;
  repeated = repeat-more lines more h.place h.item h.repeated;
  named = h.named;
  first = λ earlier other less r. h.first earlier other less (repeat-less lines more earlier other
      (let w = get-within lines h.place (Some h.item) h.repeated.here in omega arith) r);
}

-- ---- the items of lines

pub items-more : (lines : List Line) (l : Line) → items_of (lines ++ l ∷ []) ≡ items_of lines ++ option_to_list l
items-more lines l = flat_map-append option_to_list lines (l ∷ [])
    ∙ ap (λ x. items_of lines ++ x) (append-nil (option_to_list l))

-- an item that stands in a line is one of them
item-among : (p : ItemContents → Bool) (lines : List Line) (n : ℕ) (x : ItemContents)
    → slice_get lines n ≡ Some (Some x) → p x ≡ true → list_any p (items_of lines) ≡ true
item-among p [] n x e passed = absurd (cc e)
item-among p (l ∷ lines) zero x e passed = let same : l ≡ Some x = cc e in
    subst (λ l. list_any p (option_to_list l ++ items_of lines) ≡ true) (sym same)
    (ap (λ b. b || list_any p (items_of lines)) passed)
item-among p (None ∷ lines) (suc n) x e passed = item-among p lines n x e passed
item-among p (Some y ∷ lines) (suc n) x e passed =
    either (p y) (list_any p (items_of lines)) (item-among p lines n x e passed) where
      either : (a b : Bool) → b ≡ true → (a || b) ≡ true
      either true b e = refl
      either false b e = e

-- and each item stands in a line
among-item : (p : ItemContents → Bool) (lines : List Line) → list_any p (items_of lines) ≡ true
    → (n : ℕ) × (x : ItemContents) × (slice_get lines n ≡ Some (Some x)) × (p x ≡ true)
among-item p [] e = absurd (cc e)
among-item p (None ∷ lines) e = let r = among-item p lines e in (suc r.0, r.1, r.2, r.3)
among-item p (Some y ∷ lines) e = cases (p y) refl e (among-item p lines) where
  cases : (b : Bool) → p y ≡ b → (b || list_any p (items_of lines)) ≡ true
      → (list_any p (items_of lines) ≡ true → (n : ℕ) × (x : ItemContents)
      × (slice_get lines n ≡ Some (Some x)) × (p x ≡ true))
      → (n : ℕ) × (x : ItemContents) × (slice_get (Some y ∷ lines) n ≡ Some (Some x)) × (p x ≡ true)
  cases true is e next = (0, y, refl, is)
  cases false is e next = let r = next e in (suc r.0, r.1, r.2, r.3)

none-among : (p : ItemContents → Bool) (xs : List ItemContents)
    → AllByRecursion (λ x. p x ≡ false) xs → list_any p xs ≡ false
none-among p [] each = refl
none-among p (x ∷ xs) each = ap (λ b. b || list_any p xs) each.0 ∙ none-among p xs each.1

apart : (lines : List Line) → IsDistinct repeats (items_of lines)
    → (earlier place : ℕ) (other item : ItemContents) → slice_get lines earlier ≡ Some (Some other)
    → slice_get lines place ≡ Some (Some item) → earlier < place → repeats other item ≡ false
apart [] distinct earlier place other item there here before = absurd (cc there)
apart (None ∷ lines) distinct zero place other item there here before =
    absurd (let e : ◌≡◌ {A = Line} None (Some other) = cc there in cc e)
apart (Some y ∷ lines) distinct zero zero other item there here before = absurd (omega arith)
apart (Some y ∷ lines) distinct zero (suc place) other item there here before =
    let same : y ≡ other = cc there in
    let none : list_any (repeats y) (items_of lines) ≡ false =
    none-among (repeats y) (items_of lines) (IsDistinct-head repeats y (items_of lines) distinct) in
    subst (λ z. repeats z item ≡ false) same (cases (repeats y item) refl none) where
      cases : (b : Bool) → repeats y item ≡ b → list_any (repeats y) (items_of lines) ≡ false → b ≡ false
      cases true is none = absurd (let some : list_any (repeats y) (items_of lines) ≡ true =
          item-among (repeats y) lines place item here is in cc (some, none))
      cases false is none = refl
apart (l ∷ lines) distinct (suc earlier) zero other item there here before = absurd (omega arith)
apart (None ∷ lines) distinct (suc earlier) (suc place) other item there here before =
    apart lines distinct earlier place other item there here (omega arith)
apart (Some y ∷ lines) distinct (suc earlier) (suc place) other item there here before =
    apart lines (IsDistinct-tail repeats y (items_of lines) distinct) earlier place other item there
    here (omega arith)

-- where no id stands twice no line repeats one
pub distinct-apart : (lines : List Line) → IsDistinct repeats (items_of lines)
    → (place : ℕ) (item : ItemContents) → RepeatsAt lines place item → ⊥
distinct-apart lines distinct place item h = let e =
    apart lines distinct h.earlier place h.other item h.there h.here h.before in cc (e, h.same)

-- the first repeat, at the last line
pub first-last : (lines : List Line) (x : ItemContents) → IsDistinct repeats (items_of lines)
    → list_any (repeats x) (items_of lines) ≡ true
    → FirstRepeat (lines ++ Some x ∷ []) (id_of x) (length lines + 1)
first-last lines x distinct among =
    let a = among-item (repeats x) lines among in
    record {
      place = length lines;
      counted = refl;
      item = x;
      repeated = record {
        here = get-last lines (Some x);
        earlier = a.0;
        before = get-within lines a.0 (Some a.1) a.2;
        other = a.1;
        there = get-front lines (Some x ∷ []) a.0 (Some a.1) a.2;
        same = repeats-symm a.1 x ∙ a.3;
      };
      named = refl;
      first = λ earlier other less r. distinct-apart lines distinct earlier other
          (repeat-less lines (Some x ∷ []) earlier other less r);
    }

-- no repeat, with a last line that is none
pub distinct-last : (lines : List Line) (x : ItemContents) → IsDistinct repeats (items_of lines)
    → list_any (repeats x) (items_of lines) ≡ false
    → IsDistinct repeats (items_of (lines ++ Some x ∷ []))
distinct-last lines x distinct none = subst (IsDistinct repeats) (sym (items-more lines (Some x)))
    (IsDistinct-push repeats-equivalence (items_of lines) x distinct none)

-- where a line repeats an id, some id stands twice
pub repeat-apart : (lines : List Line) (id number : ℕ) → FirstRepeat lines id number
    → IsDistinct repeats (items_of lines) → ⊥
repeat-apart lines id number h distinct = distinct-apart lines distinct h.place h.item h.repeated
