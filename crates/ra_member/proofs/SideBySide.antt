-- Lists that stand side by side, and a walk over one of them that changes what stands beside.
use Rattle.std.proofs.Common.{◌≡◌, ℕ, zero, suc, ◌+◌, ◌<◌, ◌≤◌, List, [], ◌∷◌, ◌++◌, length, map, take, drop, get_or}
use Rattle.std.proofs.Common.{zip, refl, sym, ◌∙◌, ap, ap₂, subst, arith, add-one}
use Rattle.std.proofs.Common.{set}
use Rattle.std.proofs.Math.Seq.{drop-cons}
use Rattle.std.proofs.lemmas.List.{map-append, take_more, take_more_set, take_all, drop-set-lt, get_or-drop}
use Rattle.std.proofs.lemmas.List.{length-drop, length-set, length-map, length-take-le}
use Rattle.ra_member.specs.Beside.{AreBeside}

module _ {X Y : Type 0} (has : X → Y → Type 0) where
  pub beside_length : (xs : List X) (ys : List Y) → AreBeside has xs ys → length ys ≡ length xs
  beside_length [] [] are = refl
  beside_length [] (y ∷ ys) are = absurd are
  beside_length (x ∷ xs) [] are = absurd are
  beside_length (x ∷ xs) (y ∷ ys) are = ap suc (beside_length xs ys are.1)

  pub beside_more : (xs : List X) (ys : List Y) (x : X) (y : Y) → AreBeside has xs ys → has x y
      → AreBeside has (xs ++ x ∷ []) (ys ++ y ∷ [])
  beside_more [] [] x y are one = (one, tt)
  beside_more [] (b ∷ ys) x y are one = absurd are
  beside_more (a ∷ xs) [] x y are one = absurd are
  beside_more (a ∷ xs) (b ∷ ys) x y are one = (are.0, beside_more xs ys x y are.1 one)

pub beside_weaker : {X Y : Type 0} (has gives : X → Y → Type 0) → ((x : X) (y : Y) → has x y
    → gives x y) → (xs : List X) (ys : List Y) → AreBeside has xs ys → AreBeside gives xs ys
beside_weaker has gives each [] [] are = tt
beside_weaker has gives each [] (y ∷ ys) are = absurd are
beside_weaker has gives each (x ∷ xs) [] are = absurd are
beside_weaker has gives each (x ∷ xs) (y ∷ ys) are = (each x y are.0, beside_weaker has gives each xs ys are.1)

-- the element at a place is changed, and has what the one before it had
pub beside_set : {X Y : Type 0} (has : X → Y → Type 0) (xs : List X) (ys : List Y) (k : ℕ)
    (d new : Y) → k < length ys → ((x : X) → has x (get_or ys k d) → has x new)
    → AreBeside has xs ys → AreBeside has xs (set ys k new)
beside_set has [] [] k d new within stays are = tt
beside_set has [] (y ∷ ys) k d new within stays are = absurd are
beside_set has (x ∷ xs) [] k d new within stays are = absurd are
beside_set has (x ∷ xs) (y ∷ ys) zero d new within stays are = (stays x are.0, are.1)
beside_set has (x ∷ xs) (y ∷ ys) (suc k) d new within stays are =
    (are.0, beside_set has xs ys k d new (omega arith) stays are.1)

-- one more at the end of two lists that are as long
pub zip_more : {X K A : Type 0} (f : X × K → A) (xs : List X) (ks : List K) (x : X) (k : K) → length
    ks ≡ length xs → map f (zip (xs ++ x ∷ []) (ks ++ k ∷ [])) ≡ map f (zip xs ks) ++ f (x, k) ∷ []
zip_more f [] [] x k same = refl
zip_more f [] (b ∷ ks) x k same = absurd (omega arith)
zip_more f (a ∷ xs) [] x k same = absurd (omega arith)
zip_more f (a ∷ xs) (b ∷ ks) x k same = ap (λ l. f (a, b) ∷ l) (zip_more f xs ks x k (omega arith))

-- the first of two lists by what stands for each of its elements
pub zip_by : {W X K A : Type 0} (f : X × K → A) (g : W → X) (ws : List W) (ks : List K)
    → map f (zip (map g ws) ks) ≡ map (λ p. f (g p.0, p.1)) (zip ws ks)
zip_by f g [] ks = refl
zip_by f g (w ∷ ws) [] = refl
zip_by f g (w ∷ ws) (k ∷ ks) = ap (λ l. f (g w, k) ∷ l) (zip_by f g ws ks)

-- the elements before a place are done, and those from it on are as they were
pub record IsWalk {X Y : Type 0} (has : X → Y → Type 0) (done left : List X) (olds ys : List Y)
    (place : ℕ) : Type 0 where
  pub within : place ≤ length ys
  pub ran : AreBeside has done (take place ys)
  pub coming : AreBeside has left (drop place ys)
  pub same : drop place ys ≡ drop place olds
  pub as_many : length olds ≡ length ys

module _ {X Y : Type 0} (has : X → Y → Type 0) where
  pub walk_begins : (xs : List X) (ys : List Y) → AreBeside has xs ys → IsWalk has [] xs ys ys 0
  walk_begins xs ys are = record { within = omega arith; ran = tt; coming = are; same = refl; as_many = refl }

  -- at the end all are done
  pub walk_whole : (done : List X) (olds ys : List Y) (place : ℕ) → IsWalk has done [] olds ys place → length ys ≤ place
  walk_whole done olds ys place walk =
      omega (arith, length-drop place ys, beside_length has [] (drop place ys) walk.coming)

  pub walk_ends : (done : List X) (olds ys : List Y) (place : ℕ) → IsWalk has done [] olds ys place
      → (take place ys ≡ ys) × (take place olds ≡ olds)
  walk_ends done olds ys place walk =
      let all : length ys ≤ place = walk_whole done olds ys place walk in
      (take_all place ys all, take_all place olds (omega (arith, walk.as_many)))

  pub walk_within : (done left : List X) (x : X) (olds ys : List Y) (place : ℕ)
      → IsWalk has done (x ∷ left) olds ys place → place < length ys
  walk_within done left x olds ys place walk =
      omega (arith, length-drop place ys, beside_length has (x ∷ left) (drop place ys) walk.coming)

  module _ (done left : List X) (x : X) (olds ys : List Y) (place : ℕ) (d : Y)
      (walk : IsWalk has done (x ∷ left) olds ys place) where
    inside : place < length ys
    inside = walk_within done left x olds ys place walk

    cut : AreBeside has (x ∷ left) (get_or ys place d ∷ drop (suc place) ys)
    cut = subst (AreBeside has (x ∷ left)) (drop-cons ys place d inside) walk.coming

    -- what stands at the place
    pub walk_here : has x (get_or ys place d)
    walk_here = cut.0

    there : get_or ys place d ≡ get_or olds place d
    there =
        let e : place ≡ place + 0 = omega arith in
        ap (λ n. get_or ys n d) e ∙ sym (get_or-drop place ys 0 d) ∙ ap (λ l. get_or l 0 d)
        walk.same ∙ get_or-drop place olds 0 d ∙ ap (λ n. get_or olds n d) (sym e)

    pub walk_olds : take (place + 1) olds ≡ take place olds ++ get_or ys place d ∷ []
    walk_olds =
        take_more olds place d (omega (arith, inside, walk.as_many)) ∙ ap (λ y. take place olds ++ y ∷ []) (sym there)

    later : drop (suc place) ys ≡ drop (suc place) olds
    later =
        let both : get_or ys place d ∷ drop (suc place) ys
        ≡ get_or olds place d ∷ drop (suc place) olds = sym (drop-cons ys place d inside)
        ∙ walk.same ∙ drop-cons olds place d (omega (arith, inside, walk.as_many)) in
        cc

    pub walk_news : (new : Y) → take (place + 1) (set ys place new) ≡ take place ys ++ new ∷ []
    walk_news new = take_more_set ys place new inside

    -- the one at the place is changed
    pub walk_on : (new : Y) → has x new → IsWalk has (done ++ x ∷ []) left olds (set ys place new) (place + 1)
    walk_on new one =
        let behind : drop (place + 1) (set ys place new) ≡ drop (suc place) ys =
        drop-set-lt (place + 1) ys place new (omega arith) ∙ ap (λ n. drop n ys) (add-one place) in
        record {
          within = omega (arith, inside, length-set ys place new);
          ran = subst (AreBeside has (done ++ x ∷ [])) (sym (walk_news new))
              (beside_more has done (take place ys) x new walk.ran one);
          coming = subst (AreBeside has left) (sym behind) cut.1;
          same = behind ∙ later ∙ ap (λ n. drop n olds) (sym (add-one place));
          as_many = walk.as_many ∙ sym (length-set ys place new);
        }

    module _ {K : Type 0} (kept : Y → K) where
      -- as many are kept as are done
      pub walk_many : length (map kept (take place olds)) ≡ length done
      walk_many =
          omega (
            arith,
            length-map (take place olds) kept,
            length-take-le place olds (omega (arith, walk.within, walk.as_many)),
            length-take-le place ys walk.within,
            beside_length has done (take place ys) walk.ran,
          )

      pub walk_kept : map kept (take (place + 1) olds) ≡ map kept (take place olds) ++ kept (get_or ys place d) ∷ []
      walk_kept = ap (map kept) walk_olds ∙ map-append kept (take place olds) (get_or ys place d ∷ [])

      -- what is kept of those that are done, from what was kept of them
      pub walk_keeps : (after : X × K → K) (new : Y) → kept new ≡ after (x, kept (get_or ys place d))
          → map kept (take place ys) ≡ map after (zip done (map kept (take place olds)))
          → map kept (take (place + 1) (set ys place new))
          ≡ map after (zip (done ++ x ∷ []) (map kept (take (place + 1) olds)))
      walk_keeps after new one before =
          ap (map kept) (walk_news new)
          ∙ map-append kept (take place ys) (new ∷ [])
          ∙ ap₂ (λ l k. l ++ k ∷ []) before one
          ∙ sym (zip_more after done (map kept (take place olds)) x (kept (get_or ys place d)) walk_many)
          ∙ ap (λ l. map after (zip (done ++ x ∷ []) l)) (sym walk_kept)
