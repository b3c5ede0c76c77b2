use Rattle.std.proofs.Common.{refl, ap, ◌∙◌, take, drop, length, ◌++◌}
use Rattle.ra_value.specs.contracts.value.Value.{the_view}
use Rattle.ra_value.specs.Lends.{with_hits}
use Rattle.ra_value.proofs.value.Value.hits_mut.Goals as goal

pub returns : goal.returns
returns c = (
  (
    refl,
    λ w. ap (λ n. record (the_view c.self.inside) { hits = take n (w ++ drop (length w) c.self.inside.hits.items) })
        c.self.inside.hits.ok.0
        ∙ ap (λ kept. with_hits kept w) c.self.view_is,
  ),
  record { writes_back = tt; hits = c.as_mut_slice.ensures.value ∙ ap (λ kept. kept.hits) c.self.view_is },
)
