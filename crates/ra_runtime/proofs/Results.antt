-- What a result says, where its two sides are told apart.
use Rattle.std.proofs.Common.{Ok, Err, Result}
use Rattle.std.specs.Result.{OnOk, OnErr}

pub on_ok : {T E A B : Type 0} (r : Result T E) → (A → B) → OnOk r A → OnOk r B
on_ok (Ok x) f h = f h
on_ok (Err e) f h = h

pub either : {T E A B C : Type 0} (r : Result T E) → (A → C) → (B → C) → OnOk r A → OnErr r B → C
either (Ok x) f g ok err = f ok
either (Err e) f g ok err = g err
