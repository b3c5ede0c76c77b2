-- The nearest of some frames with one frame more.
use Rattle.std.proofs.Common.{◌≡◌, ◌<◌, Bool, true, false, Some, List, [], ◌∷◌, length, map, refl, sym, ap, ◌∙◌, ◌^◌}
use Rattle.std.proofs.Common.{arith}
use Rattle.std.specs.Prelude.{not, ◌||◌, if◌then◌else◌, find}
use Rattle.std.specs.List.{list_any}
use Rattle.std.proofs.lemmas.List.{length-map}
use Rattle.std.proofs.lemmas.Grind.{common_steps}
use Rattle.ra_account.specs.declared.nearest.Nearest.{Nearest}
use Rattle.ra_account.specs.Counting.{count_of, last_of}
use Rattle.ra_account.specs.Nearness.{Lack, lacks, nearer, nearer_by, is_nearest, nearest_at, nearest_of, IsNearest}
use Rattle.ra_account.specs.Nearness.{IsNearestOf}

-- no frame is nearer than itself
never_itself : (a : Lack) → nearer a a ≡ false
never_itself a = grind (arith, common_steps)

-- nearer than one that is nearer
nearer_through : (a b c : Lack) → nearer a b ≡ true → nearer b c ≡ true → nearer a c ≡ true
nearer_through a b c first second = grind (arith, common_steps)

-- not nearer than one that is not nearer
not_nearer_through : (a b c : Lack) → nearer a b ≡ false → nearer b c ≡ false → nearer a c ≡ false
not_nearer_through a b c first second = grind (arith, common_steps)

-- none is nearer than a frame that is as near as the nearest
none_nearer : (best now : Lack) (frames : List Lack) → nearer best now ≡ false → list_any (λ other.
    nearer other best) frames ≡ false → list_any (λ other. nearer other now) frames ≡ false
none_nearer best now [] as_near none = refl
none_nearer best now (other ∷ frames) as_near none =
    grind (arith, common_steps, not_nearer_through other best now, none_nearer best now frames as_near)

-- the first that passes does pass
found_passes : (passes : Lack → Bool) (frames : List Lack) (best : Lack) → find passes frames
    ≡ Some best → passes best ≡ true
found_passes passes [] best found = grind (arith, common_steps)
found_passes passes (now ∷ frames) best found = grind (arith, common_steps, found_passes passes frames best)

-- one of some frames is nearer where the one that was found is
found_nearer : (passes : Lack → Bool) (frames : List Lack) (best now : Lack) → find passes frames
    ≡ Some best → nearer best now ≡ true → list_any (λ other. nearer other now) frames ≡ true
found_nearer passes [] best now found near = grind (arith, common_steps)
found_nearer passes (other ∷ frames) best now found near =
    grind (arith, common_steps, found_nearer passes frames best now)

-- a frame than which none of those before it is nearer is the nearest
new_is_nearest : (now : Lack) (earlier : List Lack) → list_any (λ other. nearer other now) earlier
    ≡ false → is_nearest (now ∷ earlier) now ≡ true
new_is_nearest now earlier none = grind (arith, common_steps, never_itself now)

-- what is nearest, with a frame more that is as near
pub nearest_new : (now : Lack) (earlier : List Lack) → list_any (λ other. nearer other now) earlier ≡ false
    → (nearest_of (now ∷ earlier) ≡ Some now) × (nearest_at (now ∷ earlier) ≡ length earlier)
nearest_new now earlier none = (
  ap (λ b. if b then Some now else find (is_nearest (now ∷ earlier)) earlier) (new_is_nearest now earlier none),
  ap (λ b. if b then length (map (is_nearest (now ∷ earlier)) earlier)
      else last_of (map (is_nearest (now ∷ earlier)) earlier)) (new_is_nearest now earlier none)
      ∙ length-map earlier (is_nearest (now ∷ earlier)),
)

-- a frame that is less near than the nearest does not make another one the nearest
same_nearest : (now best : Lack) (earlier : List Lack) → nearest_of earlier ≡ Some best
    → nearer best now ≡ true → (l : Lack) → is_nearest (now ∷ earlier) l ≡ is_nearest earlier l
same_nearest now best earlier found near l = by_case (nearer now l) refl
  where
    by_case : (b : Bool) → nearer now l ≡ b → is_nearest (now ∷ earlier) l ≡ is_nearest earlier l
    by_case false e = ap (λ b. not (b || list_any (λ other. nearer other l) earlier)) e
    by_case true e =
        ap (λ b. not (b || list_any (λ other. nearer other l) earlier)) e
        ∙ sym (ap not (found_nearer (is_nearest earlier) earlier best l found (nearer_through best now l near e)))

-- it is not the nearest itself
not_nearest : (now best : Lack) (earlier : List Lack) → nearest_of earlier ≡ Some best
    → nearer best now ≡ true → is_nearest (now ∷ earlier) now ≡ false
not_nearest now best earlier found near = same_nearest now best earlier found near now
    ∙ ap not (found_nearer (is_nearest earlier) earlier best now found near)

-- what is nearest, with a frame more that is less near
pub nearest_kept : (now best : Lack) (earlier : List Lack) → nearest_of earlier ≡ Some best → nearer best now ≡ true
    → (nearest_of (now ∷ earlier) ≡ Some best) × (nearest_at (now ∷ earlier) ≡ nearest_at earlier)
nearest_kept now best earlier found near =
    let same : is_nearest (now ∷ earlier) ≡ is_nearest earlier =
    (λ i l. same_nearest now best earlier found near l i) in (
      ap (λ b. if b then Some now else find (is_nearest (now ∷ earlier)) earlier)
          (not_nearest now best earlier found near)
          ∙ ap (λ p. find p earlier) same ∙ found,
      ap (λ b. if b then length (map (is_nearest (now ∷ earlier)) earlier) else last_of
          (map (is_nearest (now ∷ earlier)) earlier)) (not_nearest now best earlier found near)
          ∙ ap (λ p. last_of (map p earlier)) same,
    )

-- what is not true is false
not_true : (b : Bool) → not b ≡ true → b ≡ false
not_true true e = sym e
not_true false e = refl

-- none of some frames is nearer than one as near as what stands for them
stands_none_nearer : (now : Lack) (frames : List Lack) (n : Nearest) → lacks now < 2 ^ 64
    → IsNearest frames n → nearer_by n.reset n.count now.reset (lacks now) ≡ false
    → list_any (λ other. nearer other now) frames ≡ false
stands_none_nearer now [] n few known as_near = refl
stands_none_nearer now (other ∷ frames) n few known as_near = none_nearer
    (record { reset = n.reset; wants = n.wants.items }) now (other ∷ frames)
    (ap (λ count. nearer_by n.reset count now.reset (lacks now)) (sym known.count_too) ∙ as_near)
    (not_true (list_any (λ o. nearer o (record { reset = n.reset; wants = n.wants.items }))
    (other ∷ frames)) (found_passes (is_nearest (other ∷ frames)) (other ∷ frames) _ known.lack))

-- a frame as near as the nearest is the nearest from then on
pub note_near : (now : Lack) (earlier : List Lack) (n m : Nearest) → lacks now < 2 ^ 64
    → IsNearest earlier n → nearer_by n.reset n.count now.reset (lacks now) ≡ false
    → m.at ≡ length earlier → m.reset ≡ now.reset → m.wants.items ≡ now.wants → m.count ≡ lacks now
    → IsNearestOf (now ∷ earlier) m
note_near now earlier n m few known as_near at reset wants count =
    let both = nearest_new now earlier (stands_none_nearer now earlier n few known as_near) in
    record {
      at_too = at ∙ sym both.1;
      lack = both.0 ∙ sym (λ i. Some (record { reset = reset i; wants = wants i }));
      count_too = count ∙ ap count_of (sym wants);
    }

-- before the first frame none is nearer than any
none_stands : (now : Lack) (n : Nearest) → lacks now < 2 ^ 64 → IsNearest [] n
    → nearer_by n.reset n.count now.reset (lacks now) ≡ true → ⊥
none_stands now n few known near = grind (arith, common_steps, known.1, known.2)

-- a frame that is less near changes nothing
pub note_far : (now : Lack) (earlier : List Lack) (n : Nearest) → lacks now < 2 ^ 64
    → IsNearest earlier n → nearer_by n.reset n.count now.reset (lacks now) ≡ true
    → IsNearestOf (now ∷ earlier) n
note_far now [] n few known near = absurd (none_stands now n few known near)
note_far now (other ∷ frames) n few known near =
    let both = nearest_kept now (record { reset = n.reset; wants = n.wants.items }) (other ∷ frames) known.lack
    (ap (λ count. nearer_by n.reset count now.reset (lacks now)) (sym known.count_too) ∙ near) in
    record { at_too = known.at_too ∙ sym both.1; lack = both.0; count_too = known.count_too }
