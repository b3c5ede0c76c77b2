-- A set has one normal text, or one limit that it passes.
use Rattle.std.proofs.Common.{◌≡◌, ◌∙◌, ℕ, List, length, refl, sym, ap, arith}
use Rattle.ra_set.specs.declared.refused.Which.{Which}
use Rattle.ra_set.specs.declared.refused.Which.TheVariants.{Bytes, Items, Conditions, Macros, Lookup}
use Rattle.ra_set.specs.Contents.{SetContents}
use Rattle.ra_normal.specs.declared.refused.NormalRefused.TheVariants.{Limit}
use Rattle.ra_normal.specs.Text.{IsNormal, IsPastLimit}

-- one limit is told
pub one_limit : (file : List ℕ) (set : SetContents) (which which' : Which) (found found' : ℕ)
    → IsPastLimit file set (Limit which found) → IsPastLimit file set (Limit which' found')
    → (which ≡ which') × (found ≡ found')
one_limit file set Bytes Bytes found found' p q = (refl, p.1 ∙ sym q.1)
one_limit file set Bytes Conditions found found' p q =
    absurd (let over = p.0 in let within = q.0 in omega (arith, over, within))
one_limit file set Conditions Bytes found found' p q =
    absurd (let over = q.0 in let within = p.0 in omega (arith, over, within))
one_limit file set Conditions Conditions found found' p q = (refl, p.2 ∙ sym q.2)
one_limit file set Items which' found found' p q = absurd p
one_limit file set Macros which' found found' p q = absurd p
one_limit file set Lookup which' found found' p q = absurd p
one_limit file set which Items found found' p q = absurd q
one_limit file set which Macros found found' p q = absurd q
one_limit file set which Lookup found found' p q = absurd q

-- a normal text passes none
pub normal_within : (file : List ℕ) (set : SetContents) (text : List ℕ) (which : Which) (found : ℕ)
    → IsNormal file set text → IsPastLimit file set (Limit which found) → ⊥
normal_within file set text Bytes found h p = let over = p.0 in let is = h.is in
    let within = h.bytes in absurd (omega (arith, over, within, ap length is))
normal_within file set text Conditions found h p = let over = p.1 in let within = h.conditions in
    absurd (omega (arith, over, within))
normal_within file set text Items found h p = p
normal_within file set text Macros found h p = p
normal_within file set text Lookup found h p = p

-- a set has one normal text
pub one_normal : (file : List ℕ) (set : SetContents) (a b : List ℕ) → IsNormal file set a → IsNormal file set b → a ≡ b
one_normal file set a b x y = x.is ∙ sym y.is
