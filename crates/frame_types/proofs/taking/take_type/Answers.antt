use Rattle.std.proofs.Common.{◌<◌, ap, refl, subst, sym}
use Rattle.std.proofs.lemmas.Result.{IfOk-weaker}
use Rattle.xp_board.specs.Told.{PortValue, Post}
use Rattle.step_maker.proofs.Coming.{moves_came}
use Rattle.flush_words.proofs.Shared.{may_held}
use Rattle.frame_types.proofs.Living.{lives_behind}
use Rattle.frame_types.proofs.taking.take_type.Goals as goal

pub take_looked-requires : goal.take_looked-requires
take_looked-requires g c =
    let v = g.P.Port.value c.args.port.now in
    let l = rw c.in-Ok-Found.field-0-is at c.in-Ok-Found.ensures.takes in
    record {
      frame = subst (λ (p : Post). c.args.frame < p.machine.frames) (sym (ap (λ (q : PortValue). q.post) l.same)) c.requires.frame;
      may = may_held v (g.P.Port.value c.count_live.new.port) v.holdings l.same refl refl c.requires.may;
      wanted = c.requires.wanted;
      looked = (v, l);
      stands = rw c.in-Ok-Found.field-0-is at c.in-Ok-Found.ensures.found;
    }

pub returns-in-Ok-Counted : goal.returns-in-Ok-Counted
returns-in-Ok-Counted g c =
    let found = c.in-Ok-Counted.ensures in
    let is = c.in-Ok-Counted.field-0-is in
    let t = rw is at found.takes in
    record { serves = t.serves; stops = tt; kinds = tt; waits = tt; hand = t.hand; found = rw is at found.found; live = rw is at found.live; plain = rw is at found.plain }

pub returns-in-Ok-Found : goal.returns-in-Ok-Found
returns-in-Ok-Found g c =
    let v = g.P.Port.value c.args.port.now in
    let x = g.P.Port.value c.count_live.new.port in
    let w = g.P.Port.value c.take_looked.new.port in
    let l = rw c.in-Ok-Found.field-0-is at c.in-Ok-Found.ensures.takes in
    let t = c.take_looked.ensures.takes v l in
    record {
      serves = t.serves;
      stops = t.stops;
      kinds = t.kinds;
      waits = t.waits;
      hand = t.hand;
      found = c.take_looked.ensures.found v l;
      live = IfOk-weaker c.take_looked.result _ _ (λ t live. lives_behind v x w c.args.frame t (moves_came v x _ _ _ _ _ l.look) live) c.take_looked.ensures.live;
      plain = c.take_looked.ensures.plain v l;
    }

pub returns-in-Err : goal.returns-in-Err
returns-in-Err g c =
    let found = c.in-Err.ensures in
    let t = found.takes in
    record { serves = t.serves; stops = t.stops; kinds = t.kinds; waits = tt; hand = t.hand; found = found.found; live = tt; plain = found.plain }
