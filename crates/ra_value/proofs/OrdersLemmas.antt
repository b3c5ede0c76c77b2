-- Where the condition parts of a value lie, in lists that run over the conditions of all parts.
use Rattle.std.proofs.Common.{◌≡◌, ℕ, ◌+◌, ◌<◌, List, [], ◌∷◌, ◌++◌, length, get_or, take, map, sum_by, refl, sym, ap}
use Rattle.std.proofs.Common.{◌∙◌, arith}
use Rattle.std.specs.List.{flat_map}
use Rattle.std.proofs.lemmas.List.{take-map, get_or-map, map_more, length-map, length-take-le}
use Rattle.std.proofs.lemmas.List.Sums.{sum_by-cons}
use Rattle.ra_condition.specs.declared.part.Part.{Part}
use Rattle.ra_condition.specs.Contents.{PartContents, part_contents, counted_in, value_hits}
use Rattle.ra_condition.specs.Chains.{pass_order}
use Rattle.ra_group.specs.declared.reads.Reads.{Reads}
use Rattle.ra_group.specs.Along.{ReadsGroups, LiesAlong}
use Rattle.ra_group.proofs.AlongLemmas.{lies_along}
use Rattle.ra_value.specs.Kept.{orders_of, pauses_of}

-- the conditions of the parts are those of their groups
pub counted_hits : (parts : List PartContents) → value_hits parts ≡ sum_by length (map counted_in parts)
counted_hits [] = refl
counted_hits (part ∷ parts) =
    sum_by-cons (λ p. length (counted_in p)) part parts ∙ ap (λ n. length (counted_in part) + n)
    (counted_hits parts) ∙ sym (sum_by-cons length (counted_in part) (map counted_in parts))

counted_orders : (parts : List PartContents) → orders_of parts ≡ flat_map pass_order (map counted_in parts)
counted_orders [] = refl
counted_orders (part ∷ parts) = ap (λ js. pass_order (counted_in part) ++ js) (counted_orders parts)

-- what is read for the parts of a value is what is read for their groups
pub reads_parts : (parts : List PartContents) (reads : Reads) → reads.orders.now ≡ orders_of parts
    → reads.pauses.now ≡ pauses_of parts → length reads.truths.now ≡ value_hits parts
    → length reads.lefts.now ≡ value_hits parts → ReadsGroups (map counted_in parts) reads
reads_parts parts reads orders pauses truths lefts = record {
  orders = orders ∙ counted_orders parts;
  pauses = pauses;
  truths = truths ∙ counted_hits parts;
  lefts = lefts ∙ counted_hits parts;
}

module _ (parts : List Part) (reads : Reads) (read : ReadsGroups (map counted_in (map part_contents
    parts)) reads) (k : ℕ) (part : Part) (start : ℕ) (within : k < length parts) (here : part
    ≡ get_or parts k part) (starts : start ≡ value_hits (map part_contents (take k parts))) where
  many : k < length (map part_contents parts)
  many = omega (arith, length-map parts part_contents)

  contents_here : get_or (map part_contents parts) k (part_contents part) ≡ part_contents part
  contents_here = get_or-map part_contents parts k part (part_contents part) within ∙ ap part_contents (sym here)

  group_here : get_or (map counted_in (map part_contents parts)) k (counted_in (part_contents part))
      ≡ counted_in (part_contents part)
  group_here = get_or-map counted_in (map part_contents parts) k (part_contents part)
      (counted_in (part_contents part)) many ∙ ap counted_in contents_here

  start_here : start ≡ sum_by length (take k (map counted_in (map part_contents parts)))
  start_here =
      starts ∙ counted_hits (map part_contents (take k parts))
      ∙ ap (λ ps. sum_by length (map counted_in ps)) (sym (take-map part_contents k parts))
      ∙ ap (sum_by length) (sym (take-map counted_in k (map part_contents parts)))

  pub part_lies : LiesAlong (counted_in (part_contents part)) reads (record { number = k; start = start })
  part_lies = lies_along (map counted_in (map part_contents parts)) reads read k start
      (counted_in (part_contents part))
      (omega (arith, many, length-map (map part_contents parts) counted_in)) group_here start_here

  pub parts_more : map part_contents (take (k + 1) parts) ≡ map part_contents (take k parts) ++ part_contents part ∷ []
  parts_more = map_more part_contents parts k part within
      ∙ ap (λ p. map part_contents (take k parts) ++ part_contents p ∷ []) (sym here)

  pub parts_before : length (map part_contents (take k parts)) ≡ k
  parts_before = length-map (take k parts) part_contents ∙ length-take-le k parts (omega arith)
