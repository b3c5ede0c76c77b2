use Rattle.ra_links.proofs.Calls.{new_holds}
use Rattle.ra_links.proofs.links.Links.new.Goals as goal

pub returns : goal.returns
returns c =
    new_holds c.args.lists c.args.nodes c.in_ok-firsts.firsts.items c.in_ok-afters.afters.items
    c.requires.few_lists c.requires.few_nodes (c.in_ok-firsts.ensures.items_if_clones_equal
    (λ y e. e)) (c.in_ok-afters.ensures.items_if_clones_equal (λ y e. e))
