use Rattle.std.proofs.Common.{◌≡◌, ◌+◌, ◌-◌, ◌++◌, inl, inr, ℕ, length, replicate, sym, ap, ◌∙◌, arith}
use Rattle.std.specs.Prelude.{if◌then◌else◌}
use Rattle.std.proofs.lemmas.Bool.{eq-eqb, ne_eqb}
use Rattle.ra_account.specs.Counting.{times_of}
use Rattle.ra_account.specs.declared.times.Times.{Times}
use Rattle.ra_account.proofs.RunLemmas.{none_run, times_run}
use Rattle.ra_account.proofs.times.Times.note_run.Goals as goal
use Rattle.ra_account.proofs.times.Times.note_run.Goals.{then-self-eq0, else-self-eq0}

pub returns-after-self-eq0 : goal.returns-after-self-eq0
returns-after-self-eq0 c = λ earlier long was.
    let t = c.args.self.now in
    let n : ℕ = c.args.to - c.args.from in
    let from : c.args.from ≡ length earlier = sym long in
    let last : c.args.to - 1 ≡ length earlier + n - 1 = omega (arith, long, c.if-from-to.true) in
    let run = times_run n earlier t (omega (arith, c.if-from-to.true)) was in
    let truly = ap (λ b. times_of (replicate n b ++ earlier)) (sym c.if-now.true) in
    elim c.if-self-eq0.branch [
      | then-self-eq0 w ↦
          (let first = from ∙ sym
          (ap (λ b. if b then length earlier else t.first) (eq-eqb t.count 0 w.if-self-eq0.true)) in
          ap (λ (s : Times). record { count = s.count + n; first = s.first; last = c.args.to - 1 }) w.self-is
          ∙ (λ i. record { count = t.count + n; first = first i; last = last i })
          ∙ sym run ∙ truly)
      | else-self-eq0 w ↦
          (let first = sym (ap (λ b. if b then length earlier else t.first) (ne_eqb t.count 0 w.if-self-eq0.false)) in
          ap (λ (s : Times). record { count = s.count + n; first = s.first; last = c.args.to - 1 }) w.self-is
          ∙ (λ i. record { count = t.count + n; first = first i; last = last i })
          ∙ sym run ∙ truly)
    ]

pub returns-else-now : goal.returns-else-now
returns-else-now c = λ earlier long was.
    let n : ℕ = c.args.to - c.args.from in
    elim c.else-now.either [
      | inl none ↦
          (let nought : n ≡ 0 = omega (arith, none.1) in
          was ∙ sym (ap (λ k. times_of (replicate k c.args.now ++ earlier)) nought))
      | inr falls ↦
          was ∙ sym (none_run n earlier) ∙ ap (λ b. times_of (replicate n b ++ earlier)) (sym falls)
    ]
