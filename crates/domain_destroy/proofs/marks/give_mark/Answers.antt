use Rattle.std.proofs.Common.{◌≤◌, true, Ok, Err, refl, sym, subst}
use Rattle.xp_board.specs.Told.{PortValue}
use Rattle.frame_words.proofs.Counted.{some_count, within_limit}
use Rattle.level_release.proofs.SettlingSteps.{lost_undue}
use Rattle.domain_destroy.specs.Destroying.{GaveMark}
use Rattle.domain_destroy.proofs.Giving.{elsewhere, given_mark, lost_is, lost_mark, unmarked}
use Rattle.domain_destroy.proofs.marks.give_mark.Goals as goal

pub returns-in_default : goal.returns-in_default
returns-in_default g c = record { went = unmarked c.args.domain c.look_refs-found.ensures.moves c.look_refs-found.ensures.hand c.requires.rests c.requires.clear c.in_default.ensures.none; undue = refl }

pub returns-then-owner-domain : goal.returns-then-owner-domain
returns-then-owner-domain g c = record { went = elsewhere c.args.domain c.look_refs-found.ensures.moves c.look_refs-found.ensures.hand c.requires.rests c.requires.clear c.in-Some.ensures.some c.if-owner-domain.true; undue = refl }

pub clear_allocated-requires-clause-some : goal.clear_allocated-requires-clause-some
clear_allocated-requires-clause-some g c = some_count c.look_refs-found.result c.in-Some.owner c.in-Some.count _ c.in-Some.ensures.some

pub clear_allocated-requires-clause-below : goal.clear_allocated-requires-clause-below
clear_allocated-requires-clause-below g c =
    subst (λ (q : PortValue). c.in-Some.count ≤ q.post.machine.limit) (sym c.look_refs-found.ensures.hand) (within_limit c.look_refs-found.ensures.moves c.requires.frame c.in-Some.ensures.some)

pub returns-in-Ok : goal.returns-in-Ok
returns-in-Ok g c =
    let v = g.P.Port.value c.args.port.now in
    let w = g.P.Port.value c.put_ref.new.port in
    let back = c.put_ref.ensures in
    record {
      went = subst (λ o. GaveMark v w o c.args.frame (Ok true)) c.if-owner-domain.false
          (given_mark c.in-Some.owner c.look_refs-found.ensures.moves c.look_refs-found.ensures.hand c.requires.rests c.requires.clear c.in-Some.ensures.some c.in-Ok.ensures.moves w back.serves back.puts c.in-Ok.ensures.hand back.hand);
      undue = refl;
    }

pub returns-in-Err : goal.returns-in-Err
returns-in-Err g c =
    let v = g.P.Port.value c.args.port.now in
    let u = g.P.Port.value c.look_refs-found.new.port in
    let w = g.P.Port.value c.clear_allocated.new.port in
    let look = c.look_refs-found.ensures in
    let e = c.in-Err.ensures in
    record {
      went = subst (λ o. GaveMark v w o c.args.frame (Err c.lost_reference.result)) c.if-owner-domain.false
          (subst (λ y. GaveMark v w c.in-Some.owner c.args.frame (Err y)) (lost_is v u w c.args.frame look.hand e.hand c.in-Some.ensures.some c.lost_reference.ensures)
          (lost_mark c.in-Some.owner look.moves look.hand c.requires.rests c.requires.clear c.in-Some.ensures.some e.moves e.lost e.hand));
      undue = lost_undue _ _ _ c.lost_reference.ensures;
    }
