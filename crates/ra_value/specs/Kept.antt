-- What a value keeps, as its calls leave it: docs/DEFINITIONS.md, "Values over frames".
use Rattle.std.specs.Prelude.{ℕ, Bool, false, if◌then◌else◌, List, length, map, replicate, slice_index, slice_index_or}
use Rattle.std.specs.List.{flat_map, range_with_len}
use Rattle.ra_condition.specs.Chains.{pass_order}
use Rattle.ra_condition.specs.Contents.{PartContents, Legacy, Grouped, counted_in}
use Rattle.ra_group.specs.Along.{pause_count}
use Rattle.ra_group.specs.declared.form.Form.TheVariants.{InValue}
use Rattle.ra_group.specs.Counting.{counts_hits}
use Rattle.ra_value.specs.Steps.{ValueKept}

-- the pass order of each part, one part after the other
abbrev pub orders_of : List PartContents → List ℕ
orders_of parts = flat_map (λ part. pass_order (counted_in part)) parts

-- how many conditions of each part stand in pause chains, none of a legacy part
abbrev pub pauses_of : List PartContents → List ℕ
pauses_of parts = map pause_count (map counted_in parts)

-- what is kept, with each hit and each number set to 0
abbrev pub cleared : ValueKept → ValueKept
cleared old = record { hits = replicate (length old.hits) 0; numbers = replicate (length old.numbers) 0 }

-- the number of the part comes from hits
abbrev pub part_counts : PartContents → Bool
part_counts (Legacy terms) = false
part_counts (Grouped cs) = counts_hits InValue cs

-- the numbers of the parts, with 0 for those that come from hits
abbrev pub uncounted : List PartContents → List ℕ → List ℕ
uncounted parts numbers = map (λ k. if slice_index_or (map part_counts parts) k false then 0
    else slice_index numbers k) (range_with_len 0 (length numbers))
