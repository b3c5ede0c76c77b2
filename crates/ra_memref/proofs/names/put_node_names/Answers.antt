use Rattle.std.proofs.Common.{◌<◌, ◌+◌, ◌∙◌, length, ap, arith, subst, sym}
use Rattle.ra_indirect.specs.Pools.{node_at}
use Rattle.ra_memref.specs.Names.{name_with}
use Rattle.ra_memref.proofs.NameLemmas.{AreNamed, named_more, named_all}
use Rattle.ra_memref.proofs.names.put_node_names.Goals as goal

pub loop-number-preserved : goal.loop-number-preserved
loop-number-preserved c =
    let nodes = c.args.nodes.now in
    let number = c.loop-number.number in
    let within : number < length nodes = omega (arith, c.loop-number-test.true) in
    record {
      named = subst (λ names. AreNamed nodes c.args.wanted.now names (number + 1)) (sym c.push_reserved.ensures.items)
          (named_more nodes c.requires.pool c.args.wanted.now c.requires.wanted c.loop-number.names.items number
          c.loop-number.invariant.named within c.name_where-name.result
          (λ is. c.name_where-name.ensures is
          ∙ ap (λ names. name_with names (node_at nodes number)) c.deref.ensures.value));
      many = omega (arith, c.push_reserved.ensures.len, c.loop-number.invariant.many);
      room = c.push_reserved.ensures.capacity ∙ c.loop-number.invariant.room;
    }

pub returns-clause-names : goal.returns-clause-names
returns-clause-names c =
    named_all c.args.nodes.now c.requires.pool c.args.wanted.now c.requires.wanted c.loop-number.names.items
    c.loop-number.number c.loop-number.invariant.named (omega (arith, c.loop-number-test.false))
