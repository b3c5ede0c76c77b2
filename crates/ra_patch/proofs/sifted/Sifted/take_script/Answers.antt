use Rattle.std.proofs.Common.{Some, refl, subst}
use Rattle.ra_patch.specs.declared.left_out.LeftCause.TheVariants.{Field}
use Rattle.ra_patch.specs.declared.refused.PatchField.TheVariants.{RichPresencePatch}
use Rattle.ra_patch.specs.Leaving.{IsScriptVerdict}
use Rattle.ra_patch.proofs.SiftLemmas.{script-out}
use Rattle.ra_patch.proofs.sifted.Sifted.take_script.Goals as goal

pub returns-in-None : goal.returns-in-None
returns-in-None c =
    script-out c.leave_out_script.result _ c.args.self.now c.leave_out_script.new.self _
    (subst (λ s. IsScriptVerdict s (Some (Field RichPresencePatch))) c.in-None.ensures refl)
    c.leave_out_script.ensures.text
    c.leave_out_script.ensures.rows
