-- An answer that was passed on.
use Rattle.std.proofs.Common.{◌≡◌, Result, Ok, Err, ap}
use Rattle.std.specs.Result.{IsErrAnd}
use Rattle.xp_words.specs.declared.reply.Stop.{Stop}

pub is_err : {A : Type 0} → (answer : Result A Stop) (e : Stop) → IsErrAnd answer (λ x. x ≡ e) → answer ≡ Err e
is_err (Ok done) e is = absurd is
is_err (Err x) e is = ap (λ (y : Stop). Err y) is
