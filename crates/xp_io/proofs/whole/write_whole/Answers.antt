use Rattle.std.proofs.Common.{◌≡◌, ◌-◌, ℕ, List, ◌++◌, Option, Result, Ok, Err, refl, length, take, drop, sym, ap, ◌∙◌, subst, append_assoc, take-append-drop, arith}
use Rattle.std.specs.Prelude.{OnErr}
use Rattle.std.proofs.lemmas.List.{take_rest, take_at, length-append}
use Rattle.std.specs.Io.KnownBytes.{Appends, Keeps}
use Rattle.std.proofs.KnownBytes.{Appends-trans, Appends-kept}
use Rattle.xp_io.specs.Causes.{AppendsFront}
use Rattle.xp_io.proofs.whole.write_whole.Goals as goal

moves_front : (all done rest : List ℕ) (n : ℕ) → all ≡ done ++ rest → all ≡ (done ++ take n rest) ++ take (length rest - n) (drop n rest)
moves_front all done rest n e =
    e ∙ ap (λ l. done ++ l) (sym (take-append-drop n rest)) ∙ sym (append_assoc done (take n rest) (drop n rest)) ∙ ap (λ l. (done ++ take n rest) ++ l) (sym (take_rest rest n))

on_err : {T E : Type 0} (r : Result T E) (P : Type 0) → P → OnErr r P
on_err (Ok x) P p = tt
on_err (Err e) P p = p

is_front : (old mid new : Option (List ℕ)) (all done rest : List ℕ) → all ≡ done ++ rest → Appends old mid done → Keeps mid new → AppendsFront old new all
is_front old mid new all done rest split appended kept =
    let front : take (length done) all ≡ done = ap (take (length done)) split ∙ take_at done rest (length done) refl in
    (length done, omega (arith, ap length split, length-append done rest), subst (Appends old new) (sym front) (Appends-kept _ _ _ _ appended kept))

pub loop-rest-preserved : goal.loop-rest-preserved
loop-rest-preserved g c =
    let (same, done, split, appended) = c.loop-rest.invariant in
    let rest = c.loop-rest.rest.now in
    let n = c.in_ok-count.count in
    (c.in_ok-count.ensures.cause.kept ∙ same, done ++ take n rest, moves_front _ done rest n split, Appends-trans _ _ _ _ _ appended c.in_ok-count.ensures.bytes)

pub returns-in_err-count-clause-front : goal.returns-in_err-count-clause-front
returns-in_err-count-clause-front g c =
    let (same, done, split, appended) = c.loop-rest.invariant in
    on_err c.from_residual.result _ (is_front _ _ _ _ done _ split appended c.in_err-count.ensures.bytes)
