use Rattle.std.proofs.Common.{◌<◌, ◌≤◌, refl, sym, ap, ◌∙◌, subst}
use Rattle.xp_words.specs.Machine.{Machine}
use Rattle.xp_words.specs.Places.{number, sizes_of}
use Rattle.xp_words.specs.declared.place.Place.TheVariants.{Refs}
use Rattle.xp_board.specs.Told.{PortValue}
use Rattle.step_maker.specs.Holds.{Same}
use Rattle.step_maker.proofs.Piecing.{serves_nothing}
use Rattle.frame_words.proofs.Counted.{some_count, within_limit}
use Rattle.reservations.proofs.GivingBack.{given_does, given_plain, given_serves, looked, lost_does, lost_stops, missed_there, never_lost, outside_does, outside_plain, outside_stops, refused_does, refused_plain, refused_stops}
use Rattle.reservations.proofs.returning.return_frame.Goals as goal
use Rattle.frame_claims.proofs.Shared.{mark_same as cleared_same}

pub returns-then-frame-frames : goal.returns-then-frame-frames
returns-then-frame-frames g c =
    let frames = ap (λ (n : Machine). n.frames) (c.behind-port.view_is ∙ c.layout.ensures.layout) in
    let past = subst (λ k. k ≤ c.args.frame) (c.from-frames.ensures ∙ frames) c.if-frame-frames.true in
    record {
      serves = serves_nothing _ _;
      stops = outside_stops _ c.args.frame c.args.owner past;
      kinds = tt;
      hand = refl;
      found = outside_does _ c.args.frame c.args.owner past;
      plain = outside_plain (g.P.Port.value c.args.port.now) c.args.frame c.args.owner past;
    }

pub returns-in-None : goal.returns-in-None
returns-in-None g c =
    let frames = ap (λ (n : Machine). n.frames) (c.behind-port.view_is ∙ c.layout.ensures.layout) in
    let real = subst (λ k. c.args.frame < k) (c.from-frames.ensures ∙ frames) c.if-frame-frames.false in
    let look = c.look_refs-found.ensures.moves in
    let off = c.in-None.ensures.none in
    record {
      serves = looked c.args.owner look real;
      stops = refused_stops c.args.owner look real off;
      kinds = tt;
      hand = c.look_refs-found.ensures.hand;
      found = refused_does c.args.owner look real off;
      plain = refused_plain c.args.owner look real off;
    }

pub returns-in-Err : goal.returns-in-Err
returns-in-Err g c =
    let frames = ap (λ (n : Machine). n.frames) (c.behind-port.view_is ∙ c.layout.ensures.layout) in
    let real = subst (λ k. c.args.frame < k) (c.from-frames.ensures ∙ frames) c.if-frame-frames.false in
    let look = c.look_refs-found.ensures.moves in
    let read = c.in-Some.ensures.some in
    let clear = c.in-Err.ensures.moves in
    let lost = c.in-Err.ensures.lost in
    let same : Same (g.P.Port.value c.args.port.now) (g.P.Port.value c.clear_allocated.new.port) = c.in-Err.ensures.hand ∙ c.look_refs-found.ensures.hand in
    let place = c.place-place.ensures ∙ ap (λ (n : Machine). number (sizes_of n) (Refs c.args.frame)) (c.layout-in-Err.ensures.layout ∙ ap (λ (q : PortValue). q.post.machine) same) in
    record {
      serves = missed_there c.args.owner look real read clear lost _ place;
      stops = lost_stops c.args.owner look real read clear lost _ place;
      kinds = tt;
      hand = same;
      found = lost_does c.args.owner look real read clear lost _ place;
      plain = λ telling. never_lost c.args.owner look real read clear lost telling;
    }

pub clear_allocated-requires-clause-some : goal.clear_allocated-requires-clause-some
clear_allocated-requires-clause-some g c = some_count c.look_refs-found.result c.args.owner c.in-Some.count _ c.in-Some.ensures.some

pub clear_allocated-requires-clause-below : goal.clear_allocated-requires-clause-below
clear_allocated-requires-clause-below g c =
    let frames = ap (λ (n : Machine). n.frames) (c.behind-port.view_is ∙ c.layout.ensures.layout) in
    let real = subst (λ k. c.args.frame < k) (c.from-frames.ensures ∙ frames) c.if-frame-frames.false in
    subst (λ (q : PortValue). c.in-Some.count ≤ q.post.machine.limit) (sym c.look_refs-found.ensures.hand) (within_limit c.look_refs-found.ensures.moves real c.in-Some.ensures.some)

pub returns-in-Ok : goal.returns-in-Ok
returns-in-Ok g c =
    let frames = ap (λ (n : Machine). n.frames) (c.behind-port.view_is ∙ c.layout.ensures.layout) in
    let real = subst (λ k. c.args.frame < k) (c.from-frames.ensures ∙ frames) c.if-frame-frames.false in
    let look = c.look_refs-found.ensures.moves in
    let read = c.in-Some.ensures.some in
    let clear = c.in-Ok.ensures.moves in
    record {
      serves = given_serves c.args.owner look real read clear _ c.put_ref.ensures.serves;
      stops = tt;
      kinds = tt;
      hand = cleared_same (g.P.Port.value c.args.port.now) (g.P.Port.value c.look_refs-found.new.port) (g.P.Port.value c.clear_allocated.new.port) (g.P.Port.value c.put_ref.new.port) c.args.frame c.args.owner c.look_refs-found.ensures.hand c.in-Ok.ensures.hand c.put_ref.ensures.hand;
      found = given_does c.args.owner look real read clear _ c.put_ref.ensures.puts;
      plain = given_plain c.args.owner look real read clear (g.P.Port.value c.put_ref.new.port) c.put_ref.ensures.plain;
    }
