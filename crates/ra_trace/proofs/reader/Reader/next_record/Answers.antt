use Rattle.std.proofs.Common.{rules, arith, sym, subst, refl, ap, ◌≡◌, ◌∙◌, ℕ, None, IfOk, Option, List, drop}
use Rattle.ra_io.specs.Files.{OnlyRead}
use Rattle.ra_trace.specs.declared.head.Head.TheVariants as heads
use Rattle.ra_trace.specs.declared.record.Record.TheVariants as records
use Rattle.ra_trace.specs.Entries.{Framed, entry_of}
use Rattle.ra_trace.specs.Cutting.{front}
use Rattle.ra_trace.specs.Heads.{head_of, why_of}
use Rattle.ra_trace.specs.Reading.{ReaderSeen, Found, unanswered}
use Rattle.ra_trace.proofs.HeadLemmas.{framed_head}
use Rattle.ra_trace.proofs.Lending.{ends_by, stands_by, lies_by}
use Rattle.ra_trace.proofs.Looking.{knows_here, found_past}
use Rattle.ra_trace.proofs.reader.Reader.next_record.Goals as goal

-- a call that reads nothing reads only
unread : {S : Type 0} (content : S → List ℕ → Option (List ℕ)) (reads puts : S → List ℕ → ℕ) (files : S)
    → OnlyRead content reads puts files files
unread content reads puts files = record {
  same = record { each = λ name. refl };
  reads = record { each = λ name. omega arith };
  puts = record { each = λ name. omega arith };
}

pub returns-in-Ok-Frame : goal.returns-in-Ok-Frame
returns-in-Ok-Frame g c =
    let content = g.F.Files.content c.args.files.now c.args.self.now.name in
    let old = c.args.self.now in
    let size = c.unwrap_or-size.result in
    let next = c.next_head.ensures in
    let passed = c.pass.ensures in
    let none : why_of c.next_head.result ≡ None = ap why_of c.in-Ok-Frame.is in
    let is_head : heads.Frame ≡ head_of (front (unanswered old))
    = sym c.in-Ok-Frame.field-0-is
    ∙ subst (λ found. IfOk found (λ head. head ≡ head_of (front (unanswered old)))) c.in-Ok-Frame.is next.head in
    let found = found_past content size (why_of c.next_head.result) heads.Frame old old c.pass.new.self c.pass.result 1
    (knows_here content size (why_of c.next_head.result) old next.inside next.why none) none
    (λ known is. search rules) is_head passed.front refl passed.passed passed.within in
    let lent : front (drop c.pass.result c.pass.new.self.held) ≡ Framed
    = ap (λ (s : ReaderSeen). front (drop c.pass.result s.held)) passed.passed ∙ ap front passed.front
    ∙ framed_head (front (unanswered old)) is_head in (
      (refl, (λ _. tt), ends_by content c.pass.result old c.pass.new.self records.Frame found lent),
      record {
        ok = stands_by content c.pass.result old c.pass.new.self records.Frame found lent;
        lies = lies_by content c.pass.result old c.pass.new.self records.Frame found lent;
        err = tt;
        fault = tt;
        stays = unread g.F.Files.content g.F.Files.read_faults g.F.Files.put_faults c.args.files.now;
        after = tt;
      },
    )

pub returns-in-Ok-Write : goal.returns-in-Ok-Write
returns-in-Ok-Write g c =
    let content = g.F.Files.content c.args.files.now c.args.self.now.name in
    let old = c.args.self.now in
    let size = c.unwrap_or-size.result in
    let next = c.next_head.ensures in
    let passed = c.pass-at.ensures in
    let inside = c.self-in-Ok-Write.inside in
    let none : why_of c.next_head.result ≡ None = ap why_of c.in-Ok-Write.is in
    let is_head : c.in-Ok-Write.head ≡ head_of (front (unanswered old))
    = subst (λ found. IfOk found (λ head. head ≡ head_of (front (unanswered old)))) c.in-Ok-Write.is next.head in
    let found = subst (λ s. Found content c.pass-at.result old s) (sym c.self-in-Ok-Write.view_is)
    (found_past content size
    (why_of c.next_head.result) c.in-Ok-Write.head old old c.pass-at.new.self c.pass-at.result c.length.result
    (knows_here content size (why_of c.next_head.result) old next.inside next.why none) none
    (λ known is. search rules) is_head passed.front c.length.ensures passed.passed passed.within) in
    let lent : front (drop c.pass-at.result inside.window) ≡ entry_of c.record.result =
    sym (c.record.ensures ∙ ap front c.bytes_from.ensures) in (
      (refl, (λ _. tt), ends_by content c.pass-at.result old _ c.record.result found lent),
      record {
        ok = stands_by content c.pass-at.result old _ c.record.result found lent;
        lies = lies_by content c.pass-at.result old _ c.record.result found lent;
        err = tt;
        fault = tt;
        stays = unread g.F.Files.content g.F.Files.read_faults g.F.Files.put_faults c.args.files.now;
        after = tt;
      },
    )

pub returns-in_ok-at-in_default : goal.returns-in_ok-at-in_default
returns-in_ok-at-in_default g c =
    let content = g.F.Files.content c.args.files.now c.args.self.now.name in
    let old = c.args.self.now in
    let step = c.in_ok-at-in_default in
    let inside = c.self-in_default.inside in
    let found = subst (λ s. Found content step.at old s) (sym c.self-in_default.view_is) step.ensures.found in
    let lent : front (drop step.at inside.window) ≡ entry_of c.record-in_default.result =
    sym (c.record-in_default.ensures ∙ ap front c.bytes_from-in_default.ensures) in (
      (refl, (λ _. tt), ends_by content step.at old _ c.record-in_default.result found lent),
      record {
        ok = stands_by content step.at old _ c.record-in_default.result found lent;
        lies = lies_by content step.at old _ c.record-in_default.result found lent;
        err = tt;
        fault = tt;
        stays = step.ensures.stays;
        after = tt;
      },
    )
