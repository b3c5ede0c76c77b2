use Rattle.std.proofs.Common.{◌≡◌, ◌∙◌, Bool, true, false, not, refl, sym, ap, subst}
use Rattle.std.specs.Bool.{OnFalse}
use Rattle.std.specs.List.{each_same}
use Rattle.ra_richpresence.specs.Sections.{IsSectionOf, section_name}
use Rattle.ra_richpresence.proofs.Keeping.{keeps-section_lookup, keeps-section_format, keeps-taken, name-of_section}
use Rattle.ra_richpresence.proofs.kept.Kept.add.Goals as goal

-- what a test says of its negation
not-true : (found : Bool) → not found ≡ true → found ≡ false
not-true true e = absurd (cc e)
not-true false e = refl

not-false : (found : Bool) → not found ≡ false → found ≡ true
not-false true e = refl
not-false false e = absurd (cc e)

pub returns-in_ok-push-in-Lookup : goal.returns-in_ok-push-in-Lookup
returns-in_ok-push-in-Lookup c = λ most sections s k is.
    keeps-section_lookup most sections c.args.self.now s c.in-Lookup.found k
    (subst (IsSectionOf most s) c.in-Lookup.is is) c.in_ok-name.name
    (each_same c.name.result.now.items c.in_ok-name.name.items c.in_ok-name.ensures.cases.0
    ∙ c.name.ensures ∙ ap section_name c.in-Lookup.is)
    c.insert.new.self (not-true _ (sym c.in_ok-insert.ensures.added ∙ c.if-branch.true))
    c.in_ok-insert.ensures.keys c.push.new.self c.in_ok-push-in-Lookup.ensures.items
    c.or-self.result c.or-self.ensures

pub returns-in_ok-push-in-Format : goal.returns-in_ok-push-in-Format
returns-in_ok-push-in-Format c = λ most sections s k is.
    keeps-section_format most sections c.args.self.now s c.in-Format.name c.in-Format.format k
    (subst (IsSectionOf most s) c.in-Format.is is) c.in_ok-name.name
    (each_same c.name.result.now.items c.in_ok-name.name.items c.in_ok-name.ensures.cases.0
    ∙ c.name.ensures ∙ ap section_name c.in-Format.is)
    c.insert.new.self (not-true _ (sym c.in_ok-insert.ensures.added ∙ c.if-branch.true))
    c.in_ok-insert.ensures.keys c.push-in-Format.new.self c.in_ok-push-in-Format.ensures.items

pub returns-else-branch : goal.returns-else-branch
returns-else-branch c = λ most sections s k is.
    keeps-taken most sections s c.args.self.now k c.in_ok-name.name
    (each_same c.name.result.now.items c.in_ok-name.name.items c.in_ok-name.ensures.cases.0
    ∙ c.name.ensures ∙ name-of_section most s c.args.section is)
    c.insert.new.self (not-false _ (sym c.in_ok-insert.ensures.added ∙ c.if-branch.false))
    (subst (λ added. OnFalse added (c.insert.new.self.keys ≡ c.args.self.now.names.keys))
    c.if-branch.false c.in_ok-insert.ensures.unchanged)
