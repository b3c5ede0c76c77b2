-- What stays of files over two calls.
use Rattle.std.proofs.Common.{arith, ◌∙◌, ℕ, Option, List}
use Rattle.ra_io.specs.Causes.{NoneFell}
use Rattle.ra_io.specs.Files.{OnlyRead, SameContent}

-- content that stayed twice stayed
pub same_after : (a b c : List ℕ → Option (List ℕ)) → SameContent a b → SameContent b c → SameContent a c
same_after a b c first then = record { each = λ name. then.each name ∙ first.each name }

-- and no count fell
pub none_after : (a b c : List ℕ → ℕ) → NoneFell a b → NoneFell b c → NoneFell a c
none_after a b c first then = record { each = λ name. omega (arith, first.each name, then.each name) }

pub stays_after : {F : Type 0} {content : F → List ℕ → Option (List ℕ)} {reads puts : F → List ℕ
    → ℕ} (a b c : F) → OnlyRead content reads puts a b → OnlyRead content reads puts b c
    → OnlyRead content reads puts a c
stays_after a b c first then = record {
  same = same_after _ _ _ first.same then.same;
  reads = none_after _ _ _ first.reads then.reads;
  puts = none_after _ _ _ first.puts then.puts;
}
