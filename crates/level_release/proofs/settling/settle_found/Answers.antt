use Rattle.std.proofs.Common.{[], Err, false, refl, ap, ◌∙◌}
use Rattle.xp_words.specs.declared.kind.KindWord.{KindWord}
use Rattle.xp_words.specs.declared.reply.Pause.TheVariants.{Busy}
use Rattle.xp_words.specs.declared.reply.Stop.TheVariants.{Paused}
use Rattle.std.proofs.lemmas.Result.{IfErr-weaker}
use Rattle.xp_board.proofs.KindForms.{fields_of}
use Rattle.step_maker.proofs.Coming.{moves_came}
use Rattle.step_maker.proofs.Piecing.{serves_came, stops_before}
use Rattle.level_release.specs.Asking.{of_release, of_settle}
use Rattle.level_release.proofs.Answered.{busy_course, busy_stops, due_ends, live_course, released_serves, released_stops}
use Rattle.xp_preempt.proofs.Consulting.{gated_as, gated_none}
use Rattle.level_release.proofs.Lived.{named_live}
use Rattle.level_release.proofs.Named.{again_serves, took_came, took_serves}
use Rattle.level_release.proofs.Taken.{named_again, settled_rests, took_held, took_settled, took_typed}
use Rattle.level_release.proofs.settling.settle_found.Goals as goal

-- ---- it was found live

pub release_within-requires-clause-holds : goal.release_within-requires-clause-holds
release_within-requires-clause-holds g c = named_live c.requires.took.2 c.read_kind-kind.ensures c.if-kind.true

pub returns-then-kind : goal.returns-then-kind
returns-then-kind g c u which t =
    let w = g.P.Port.value c.release_within.new.port in
    let answer = c.release_within.result in
    let e = c.release_within.ensures in
    let hand = took_settled w t answer e.hand in
    let came = serves_came (g.P.Port.value c.args.port.now) w (of_release c.args.frame 0 0 answer) _ (e.serves 0 0) in
    record {
      rests = settled_rests which answer t.rests hand;
      serves = λ owner pages. released_serves t owner pages w answer came (e.serves owner pages);
      stops = λ owner pages. released_stops t owner pages w answer came e.kinds (e.stops owner pages);
      kinds = IfErr-weaker answer _ _ due_ends e.kinds;
      hand = hand;
      course = gated_as refl (λ answers released. live_course t c.read_kind-kind.ensures c.args.left.now c.release_within.new.left w answers answer c.if-kind.true released) e.course;
    }

-- ---- it was found in another vCPU's hand: the first word names it again

pub put_old-requires-clause-held : goal.put_old-requires-clause-held
put_old-requires-clause-held g c = took_held c.requires.took.2

pub returns-else-kind-2 : goal.returns-else-kind-2
returns-else-kind-2 g c u which t =
    let v = g.P.Port.value c.args.port.now in
    let w = g.P.Port.value c.put_old.new.port in
    let e = Paused (Busy c.args.frame c.args.found) in
    let put = c.put_old.ensures in
    let fields = fields_of c.args.found c.read_kind-kind.result c.read_kind-kind.ensures in
    let hand = took_settled w t (Err e) (named_again v w e (took_typed t) refl put.hand) in
    record {
      rests = settled_rests which (Err e) t.rests hand;
      serves = λ owner pages. again_serves t owner pages false [] (took_serves t owner pages false) (took_came t owner pages false) put.moves;
      stops = λ owner pages. stops_before u v w (of_settle {A = Unit {0}} owner pages (Err e)) e (busy_stops t owner pages (ap (λ (k : KindWord). k.validated) fields ∙ c.if-kind.false)
          (ap (λ (k : KindWord). k.partial) fields ∙ c.if-kind-2.false)) (moves_came v w _ _ _ _ _ put.moves);
      kinds = tt;
      hand = hand;
      course = gated_none refl (busy_course t c.read_kind-kind.ensures c.args.left.now w c.if-kind.false c.if-kind-2.false put.moves);
    }
