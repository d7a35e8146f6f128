use Rattle.std.proofs.Common.{None, Ok, refl, subst}
use Rattle.xp_board.specs.declared.step.Act.TheVariants.{Load}
use Rattle.xp_board.specs.declared.step.StepKind.TheVariants as kinds
use Rattle.step_maker.specs.Holds.{Holds}
use Rattle.step_maker.specs.Moves.{Moves}
use Rattle.step_maker.proofs.Piecing.{moves_serves}
use Rattle.table_words.specs.OldWords.{learned_old, old_place}
use Rattle.level_release.specs.Asking.{of_settle}
use Rattle.level_release.specs.Course as courses
use Rattle.level_release.specs.Settling.{SettledWord}
use Rattle.xp_preempt.proofs.Consulting.{gated_none}
use Rattle.level_release.proofs.Looked.{kind_reads, named_small, named_still, named_there, took_old}
use Rattle.level_release.proofs.Taken.{settled_rests}
use Rattle.level_release.proofs.settling.settle_word.Goals as goal

-- ---- the word names a frame

pub overflow_cast-frame : goal.overflow_cast-frame
overflow_cast-frame g c =
    let small = named_small c.args.which c.requires.rests c.look_old.ensures.moves c.look_old.ensures.hand c.if-look_old-eq0.false c.take_old.ensures.moves c.take_old.ensures.hand
    c.take_old.ensures.own in record { fits = small }

pub look_kind-found-requires : goal.look_kind-found-requires
look_kind-found-requires g c =
    named_there c.args.which c.requires.rests c.look_old.ensures.moves c.look_old.ensures.hand c.if-look_old-eq0.false c.take_old.ensures.moves c.take_old.ensures.hand c.take_old.ensures.own

pub settle_found-requires-clause-read : goal.settle_found-requires-clause-read
settle_found-requires-clause-read g c =
    kind_reads c.args.which c.requires.rests c.look_old.ensures.moves c.look_old.ensures.hand c.if-look_old-eq0.false c.take_old.ensures.moves c.take_old.ensures.hand c.take_old.ensures.own
    c.look_kind-found.ensures.moves c.look_kind-found.ensures.hand

pub settle_found-requires-clause-frame : goal.settle_found-requires-clause-frame
settle_found-requires-clause-frame g c =
    named_still c.args.which c.requires.rests c.look_old.ensures.moves c.look_old.ensures.hand c.if-look_old-eq0.false c.take_old.ensures.moves c.take_old.ensures.hand c.take_old.ensures.own
    c.look_kind-found.ensures.moves c.look_kind-found.ensures.hand

pub settle_found-requires-clause-took : goal.settle_found-requires-clause-took
settle_found-requires-clause-took g c = (
  g.P.Port.value c.args.port.now,
  c.args.which,
  took_old c.args.which c.requires.rests c.look_old.ensures.moves c.look_old.ensures.hand
      c.if-look_old-eq0.false c.take_old.ensures.moves c.take_old.ensures.hand c.take_old.ensures.own c.look_kind-found.ensures.moves c.look_kind-found.ensures.hand
      c.requires.first,
)

pub returns : goal.returns
returns g c =
    c.settle_found.ensures (g.P.Port.value c.args.port.now) c.args.which (took_old c.args.which c.requires.rests c.look_old.ensures.moves c.look_old.ensures.hand c.if-look_old-eq0.false
    c.take_old.ensures.moves c.take_old.ensures.hand c.take_old.ensures.own c.look_kind-found.ensures.moves c.look_kind-found.ensures.hand c.requires.first)

-- ---- the word names none

pub returns-then-look_old-eq0 : goal.returns-then-look_old-eq0
returns-then-look_old-eq0 g c =
    let v = g.P.Port.value c.args.port.now in
    let w = g.P.Port.value c.look_old.new.port in
    let look = subst (λ x. Moves v w (old_place v.post.vcpu c.args.which) Load kinds.Look None x) c.if-look_old-eq0.true c.look_old.ensures.moves in
    let hand : SettledWord v w c.args.which (Ok tt) = subst (λ x. Holds v w (learned_old c.args.which x v.holdings)) c.if-look_old-eq0.true c.look_old.ensures.hand in
    record {
      rests = settled_rests c.args.which (Ok tt) c.requires.rests hand;
      serves = λ owner pages. moves_serves v w (of_settle {A = Unit {0}} owner pages (Ok tt)) _ _ _ _ _ look tt;
      stops = λ owner pages. tt;
      kinds = tt;
      hand = hand;
      course = gated_none refl (courses.none w look, refl);
    }
