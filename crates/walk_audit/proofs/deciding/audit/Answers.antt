use Rattle.std.proofs.Common.{subst, sym, arith}
use Rattle.xp_words.specs.Places.{sizes_of, memory}
use Rattle.walk_audit.specs.Judged.{Judged}
use Rattle.walk_audit.proofs.Checks.{readable, words_top, each_top, passed_none, passed_next, comes_first}
use Rattle.walk_audit.proofs.Judging.{judged, judged_last}
use Rattle.walk_audit.proofs.deciding.audit.Goals as goal

pub returns-in-Some : goal.returns-in-Some
returns-in-Some c =
    let n = c.args.layout.now in
    let m = memory (sizes_of n) c.args.words.now in
    judged n c.args.words.now _ (comes_first n m 0 _ (words_top n m) _ (passed_none n m) c.in-Some.ensures)

pub first_held-requires-clause-readable : goal.first_held-requires-clause-readable
first_held-requires-clause-readable c = readable c.args.layout.now (memory (sizes_of c.args.layout.now) c.args.words.now) c.in_default.ensures

pub returns-in-Some-first_held : goal.returns-in-Some-first_held
returns-in-Some-first_held c =
    let n = c.args.layout.now in
    let m = memory (sizes_of n) c.args.words.now in
    let p1 = passed_next n m 0 _ (words_top n m) (passed_none n m) c.in_default.ensures in
    judged n c.args.words.now _ (comes_first n m 1 _ (each_top n m (readable n m c.in_default.ensures) 1) _ p1 c.in-Some-first_held.ensures)

pub recount-requires-clause-readable : goal.recount-requires-clause-readable
recount-requires-clause-readable c = readable c.args.layout.now (memory (sizes_of c.args.layout.now) c.args.words.now) c.in_default.ensures

pub first_unsound-requires-clause-readable : goal.first_unsound-requires-clause-readable
first_unsound-requires-clause-readable c = readable c.args.layout.now (memory (sizes_of c.args.layout.now) c.args.words.now) c.in_default.ensures

pub first_unsound-requires-clause-passed : goal.first_unsound-requires-clause-passed
first_unsound-requires-clause-passed c =
    let n = c.args.layout.now in
    let m = memory (sizes_of n) c.args.words.now in
    let p1 = passed_next n m 0 _ (words_top n m) (passed_none n m) c.in_default.ensures in
    passed_next n m 1 _ (each_top n m (readable n m c.in_default.ensures) 1) p1 c.in_default-first_held.ensures

pub returns : goal.returns
returns c =
    subst (Judged c.args.layout.now c.args.words.now) (sym c.unwrap_or.ensures)
    (judged_last c.args.layout.now c.args.words.now c.first_unsound.result c.requires.machine c.requires.words (λ k. omega (arith, c.type_inv.words k)) c.first_unsound.ensures)
