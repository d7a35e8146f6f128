use Rattle.std.proofs.Common.{◌≡◌, ◌≤◌, ◌++◌, [], ℕ, List, Result, Ok, Err, length, take, ◌+◌, arith}
use Rattle.std.specs.Prelude.{OnErr}
use Rattle.std.proofs.lemmas.List.{length-append}
use Rattle.std.proofs.KnownBytes.{Consumes-nil, Consumes-kept, Consumes-trans}
use Rattle.xp_io.specs.Causes.{TookNoMore}
use Rattle.xp_io.proofs.whole.read_into.Goals as goal

on_err : {T E : Type 0} (r : Result T E) (P : Type 0) → P → OnErr r P
on_err (Ok x) P p = tt
on_err (Err e) P p = p

pub returns-then-count-left-clause-large : goal.returns-then-count-left-clause-large
returns-then-count-left-clause-large g c _ =
    let kept = g.K.Keeper.kept c.loop-piece.keeper in
    let more = take c.in_ok-count.count c.read_piece.new.piece in
    let too_many = c.if-count-left.true in
    let within = c.loop-piece.invariant.within in
    let long : length (kept ++ more) ≡ c.args.limit + 1 =
    omega (arith, length-append kept more, c.in_ok-count.ensures.few, too_many, c.in_ok-count.ensures.bound.1, within, c.count-kept.ensures) in
    (kept ++ more, long, Consumes-trans _ _ _ _ _ c.loop-piece.invariant.taken c.in_ok-count.ensures.bytes.0)

pub returns-then-count-left-clause-few : goal.returns-then-count-left-clause-few
returns-then-count-left-clause-few g c =
    let kept = g.K.Keeper.kept c.loop-piece.keeper in
    let more = take c.in_ok-count.count c.read_piece.new.piece in
    let within = c.loop-piece.invariant.within in
    let few : length (kept ++ more) ≤ c.args.limit + 1 =
    omega (arith, length-append kept more, c.in_ok-count.ensures.few, within, c.in_ok-count.ensures.bound.1, c.count-kept.ensures) in
    (kept ++ more, few, Consumes-trans _ _ _ _ _ c.loop-piece.invariant.taken c.in_ok-count.ensures.bytes.0)

pub returns-in_err-keep-clause-few : goal.returns-in_err-keep-clause-few
returns-in_err-keep-clause-few g c =
    let kept = g.K.Keeper.kept c.loop-piece.keeper in
    let more = take c.in_ok-count.count c.read_piece.new.piece in
    let within = c.loop-piece.invariant.within in
    let few : length (kept ++ more) ≤ c.args.limit + 1 =
    omega (arith, length-append kept more, c.in_ok-count.ensures.few, within, c.in_ok-count.ensures.bound.1, c.count-kept.ensures) in
    let took : TookNoMore _ _ (c.args.limit + 1) = (kept ++ more, few, Consumes-trans _ _ _ _ _ c.loop-piece.invariant.taken c.in_ok-count.ensures.bytes.0) in
    on_err _ _ took

pub returns-in_err-count-clause-few : goal.returns-in_err-count-clause-few
returns-in_err-count-clause-few g c =
    let within = c.loop-piece.invariant.within in
    let took : TookNoMore _ _ (c.args.limit + 1) = ((g.K.Keeper.kept c.loop-piece.keeper), omega (arith, within), Consumes-kept _ _ _ _ c.loop-piece.invariant.taken c.in_err-count.ensures.bytes) in
    on_err _ _ took

pub returns-in_err-piece-clause-few : goal.returns-in_err-piece-clause-few
returns-in_err-piece-clause-few g c =
    let took : TookNoMore _ _ (c.args.limit + 1) = ([], omega arith, Consumes-nil _) in
    on_err _ _ took
