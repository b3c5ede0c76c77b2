-- A plain condition without a target, with nothing before it in its chain.
use Rattle.std.proofs.Common.{◌≡◌, ℕ, Bool, ◌&&◌, Option, None, sym, ap, ◌∙◌, refl, subst}
use Rattle.std.proofs.Math.Bool.{or-false, and-true}
use Rattle.std.specs.Prelude.{if◌then◌else◌, false}
use Rattle.ra_condition.specs.declared.flag.Flag.{Flag}
use Rattle.ra_condition.specs.declared.flag.Flag.TheVariants.{Plain}
use Rattle.ra_condition.specs.declared.condition.Condition.{Condition}
use Rattle.ra_condition.specs.Flags.{combines, hands_on}
use Rattle.ra_group.specs.declared.form.Form.{Form}
use Rattle.ra_group.specs.declared.settled.Settled.{Settled}
use Rattle.ra_group.specs.declared.tally.Tally.{Tally}
use Rattle.ra_group.specs.Equations.{hits_after, met, reset_by, seen_after, settled, valid_alone, valid_by}
use Rattle.ra_group.specs.Tallies.{IsPlain, noted}
use Rattle.ra_group.proofs.Carried.{seen_after_last}
use Rattle.ra_group.proofs.TallyLemmas.{larger_none, same_tally}

-- a tally with a truth that has to be for the group to be valid and to be primed
abbrev pub wanting : Tally → Bool → Tally
wanting t truth = record t { valid = t.valid && truth; primed = t.primed && truth }

module _ (c : Condition) (t : Bool) (h : ℕ) (before : Option Settled) (is : IsPlain c)
    (first : before ≡ None) where
  -- it leaves nothing for the next one to see
  pub plain_carries : before ≡ seen_after c (settled c t h before) before
  plain_carries = first ∙ sym (seen_after_last c (settled c t h before) before (ap combines is.plain))

  hit_alone : (settled c t h before).hit ≡ hits_after false t 0 h
  hit_alone =
      ap (λ (b : Option Settled). hits_after (reset_by b) (met b t) c.target h) first
      ∙ ap (λ (n : ℕ). hits_after false t n h) is.free

  -- it has one hit more where it holds
  pub plain_hits : hits_after false t 0 h ≡ (if hands_on c.flag then h else (settled c t h before).hit)
  plain_hits = sym (ap (λ (f : Flag). if hands_on f then h else (settled c t h before).hit) is.plain ∙ hit_alone)

  -- it is valid where it holds
  pub plain_valid : (settled c t h before).valid ≡ t
  plain_valid =
      let here = settled c t h before in
      let alone = valid_alone (reset_by before) (met before t) c.target here.hit in
      ap (λ (f : Flag). valid_by f c.target here.total alone) is.plain
      ∙ ap (λ (n : ℕ). valid_by Plain n here.total alone) is.free
      ∙ ap (λ (b : Option Settled). valid_alone (reset_by b) (met b t) c.target here.hit) first
      ∙ ap (λ (n : ℕ). valid_alone false t n here.hit) is.free

noted_flag : (form : Form) (c : Condition) (here : Settled) (left : ℕ) (t : Tally)
    → noted form (record c { flag = Plain }) here left t ≡ wanting t here.valid
noted_flag form c here left t =
    same_tally (or-false t.paused) (or-false t.reset) refl refl (and-true t.counting) (larger_none t.greatest)
    (or-false t.from_hits)

-- a plain condition is wanted, and says nothing else
pub noted_plain : (form : Form) (c : Condition) (here : Settled) (left : ℕ) (t : Tally) → c.flag ≡ Plain
    → noted form c here left t ≡ wanting t here.valid
noted_plain form c here left t plain =
    subst (λ (f : Flag). noted form (record c { flag = f }) here left t ≡ wanting t here.valid) (sym plain)
    (noted_flag form c here left t)
