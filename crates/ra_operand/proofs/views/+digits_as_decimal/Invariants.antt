use Rattle.ra_operand.proofs.views.+digits_as_decimal.Given as goal

abbrev pub decreases-digits_as_decimal : goal.decreases-digits_as_decimal
decreases-digits_as_decimal l = l.digits
