-- Where the groups of a trigger lie, in lists that run over the conditions of all of them.
use Rattle.std.proofs.Common.{◌≡◌, ℕ, ◌+◌, ◌<◌, List, [], ◌∷◌, ◌++◌, length, get_or, take, map, sum_by, refl, sym, ap}
use Rattle.std.proofs.Common.{◌∙◌, arith, add-one}
use Rattle.std.proofs.lemmas.List.{take-map, get_or-map, map_more, length-map}
use Rattle.std.proofs.lemmas.List.Sums.{sum_by-cons}
use Rattle.ra_condition.specs.declared.condition.Condition.{Condition}
use Rattle.ra_condition.specs.declared.group.Group.{Group}
use Rattle.ra_condition.specs.Contents.{group_contents}
use Rattle.ra_group.specs.declared.reads.Reads.{Reads}
use Rattle.ra_group.specs.Along.{ReadsGroups, LiesAlong}
use Rattle.ra_group.proofs.AlongLemmas.{lies_along}

module _ (core : List Condition) (alts : List Group) (reads : Reads)
    (read : ReadsGroups (core ∷ map group_contents alts) reads) where
  pub core_lies : LiesAlong core reads (record { number = 0; start = 0 })
  core_lies = lies_along (core ∷ map group_contents alts) reads read 0 0 core (omega arith) refl refl

  module _ (k : ℕ) (alt : Group) (start : ℕ) (within : k < length alts) (here : alt ≡ get_or alts k
      alt) (starts : start ≡ length core + sum_by length (map group_contents (take k alts))) where
    contents_here : get_or (core ∷ map group_contents alts) (k + 1) (group_contents alt) ≡ group_contents alt
    contents_here =
        ap (λ n. get_or (core ∷ map group_contents alts) n (group_contents alt)) (add-one k)
        ∙ get_or-map group_contents alts k alt (group_contents alt) within ∙ ap group_contents (sym here)

    start_here : start ≡ sum_by length (take (k + 1) (core ∷ map group_contents alts))
    start_here =
        starts ∙ ap (λ gs. length core + sum_by length gs) (sym (take-map group_contents k alts))
        ∙ sym (sum_by-cons length core (take k (map group_contents alts)))
        ∙ ap (λ n. sum_by length (take n (core ∷ map group_contents alts))) (sym (add-one k))

    pub alt_lies : LiesAlong (group_contents alt) reads (record { number = k + 1; start = start })
    alt_lies = lies_along (core ∷ map group_contents alts) reads read (k + 1) start (group_contents
        alt) (omega (arith, length-map alts group_contents)) contents_here start_here

    pub alts_more : map group_contents (take (k + 1) alts) ≡ map group_contents (take k alts) ++ group_contents alt ∷ []
    alts_more = map_more group_contents alts k alt within
        ∙ ap (λ g. map group_contents (take k alts) ++ group_contents g ∷ []) (sym here)
