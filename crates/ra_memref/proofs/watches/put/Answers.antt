use Rattle.std.proofs.Common.{◌≡◌, ◌∙◌, ap, sym, subst, Some, ◌+◌, arith, ◌<◌, length, IfSome}
use Rattle.std.proofs.lemmas.List.{length-map}
use Rattle.ra_links.specs.Rows.{holder_of}
use Rattle.ra_memref.proofs.Holders.{holder-without_here, holder-without_other, holder-put_here, holder-put_other}
use Rattle.ra_memref.proofs.watches.put.Goals as goal

pub link-requires-clause-free : goal.link-requires-clause-free
link-requires-clause-free c = ap (λ ls. holder_of ls c.args.node) c.unlink.ensures.unlinked
    ∙ holder-without_here 0 c.args.node c.args.pages.now.lists

pub returns-in-Some-clause-here : goal.returns-in-Some-clause-here
returns-in-Some-clause-here c =
    ap (λ ls. holder_of ls c.args.node) c.link.ensures.linked
    ∙ holder-put_here 0 c.args.node c.in-Some.page c.unlink.new.self.lists (let below :
    c.in-Some.page < length c.args.pages.now.lists = subst (λ o. IfSome o (λ page. page
    < length c.args.pages.now.lists)) c.in-Some.is c.requires.page in rw (
      c.unlink.ensures.unlinked,
      length-map,
    ) below) (ap (λ ls. holder_of ls c.args.node) c.unlink.ensures.unlinked ∙
    holder-without_here 0 c.args.node c.args.pages.now.lists)
    ∙ (let e : 0 + c.in-Some.page ≡ c.in-Some.page = omega arith in ap Some e) ∙ sym c.in-Some.is

pub returns-in-Some-clause-others : goal.returns-in-Some-clause-others
returns-in-Some-clause-others c = λ other apart.
    ap (λ ls. holder_of ls other) c.link.ensures.linked
    ∙ holder-put_other 0 c.args.node other c.in-Some.page c.unlink.new.self.lists apart
    ∙ ap (λ ls. holder_of ls other) c.unlink.ensures.unlinked
    ∙ holder-without_other 0 c.args.node other c.args.pages.now.lists apart

pub returns-in_default-clause-here : goal.returns-in_default-clause-here
returns-in_default-clause-here c = ap (λ ls. holder_of ls c.args.node) c.unlink.ensures.unlinked
    ∙ holder-without_here 0 c.args.node c.args.pages.now.lists ∙ sym c.in_default.is

pub returns-in_default-clause-others : goal.returns-in_default-clause-others
returns-in_default-clause-others c = λ other apart. ap (λ ls. holder_of ls other)
    c.unlink.ensures.unlinked
    ∙ holder-without_other 0 c.args.node other c.args.pages.now.lists apart
