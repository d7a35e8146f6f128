use Rattle.std.proofs.Common.{[], refl, ◌<◌, subst, sym}
use Rattle.xp_board.specs.Told.{Post}
use Rattle.xp_words.specs.KindWords.{kind_write}
use Rattle.xp_board.specs.declared.step.Act.TheVariants.{Cas}
use Rattle.xp_board.specs.KindSteps.{resumed_kind}
use Rattle.step_maker.specs.Asked.{of_back}
use Rattle.step_maker.proofs.Piecing.{serves_came}
use Rattle.step_maker.proofs.Coming.{came_trans, moves_came, came_post, moved_inside}
use Rattle.step_maker.proofs.Telling.{came_telling}
use Rattle.flush_words.proofs.Lasting.{came_longer}
use Rattle.kind_words.proofs.KindFacts.{kind_is_some, read_is}
use Rattle.kind_words.proofs.KindWriting.{resumed_is}
use Rattle.frame_types.specs.declared.standing.Standing.TheVariants as stands
use Rattle.frame_types.proofs.Arms.{kept_takes, lost_takes, unkept_takes}
use Rattle.frame_types.proofs.Classing.{when_partial}
use Rattle.frame_types.proofs.Coming.{again, kept_enters, kept_gives, unkept_enters, entered_may, kept_may}
use Rattle.frame_types.proofs.Living.{lives_behind}
use Rattle.frame_types.proofs.Plainly.{plain_kept, plain_lost, plain_unkept}
use Rattle.frame_types.proofs.TakingSteps.{kept_found, lost_found, unkept_found}
use Rattle.frame_types.proofs.taking.take_partial.Goals as goal

pub read_kind-kind-requires : goal.read_kind-kind-requires
read_kind-kind-requires g c =
    let l = c.requires.looked in kind_is_some (l.0).post.machine (l.0).post.vcpu (l.0).holdings c.args.frame c.args.word l.1.frame l.1.look.finds

pub resume_work-requires-clause-is : goal.resume_work-requires-clause-is
resume_work-requires-clause-is g c = (read_is c.args.word c.read_kind-kind.result c.read_kind-kind.ensures).0

pub put_ref-requires : goal.put_ref-requires
put_ref-requires g c =
    let l = c.requires.looked in
    let k = c.read_kind-kind.result in
    let v = g.P.Port.value c.args.port.now in
    let x = g.P.Port.value c.resume_work.new.port in
    let is = (read_is c.args.word k c.read_kind-kind.ensures).0 in
    let parted = when_partial k c.args.want (c.requires.stands c.read_kind-kind.result c.read_kind-kind.ensures) in
    let act = Cas (kind_write k) (kind_write (resumed_kind k)) in
    let back = c.in-Ok.ensures in
    record {
      frame = moved_inside back.moves c.requires.frame;
      may = kept_may l.0 v c.args.frame c.args.owner c.args.want c.args.word l.1 k c.read_kind-kind.ensures is parted x act (kind_write k) back.moves back.hand c.if-kind.true c.requires.may;
      gives = kept_gives l.0 v c.args.frame c.args.owner c.args.want c.args.word l.1 k c.read_kind-kind.ensures is parted x act (kind_write k) back.moves back.hand c.if-kind.true;
    }

pub go_on-requires : goal.go_on-requires
go_on-requires g c =
    let l = c.requires.looked in
    let k = c.read_kind-kind.result in
    let x = g.P.Port.value c.resume_work.new.port in
    let y = g.P.Port.value c.put_ref.new.port in
    let put = serves_came x y (of_back c.args.frame) [] c.put_ref.ensures.serves in
    let enters = kept_enters l.0 (g.P.Port.value c.args.port.now) c.args.frame c.args.owner c.args.want c.args.word l.1 k c.read_kind-kind.ensures (read_is c.args.word k c.read_kind-kind.ensures).0
    (when_partial k c.args.want (c.requires.stands c.read_kind-kind.result c.read_kind-kind.ensures)) x (Cas (kind_write k) (kind_write (resumed_kind k))) (kind_write k) c.in-Ok.ensures.moves c.in-Ok.ensures.hand
    c.if-kind.true y c.put_ref.ensures.hand (came_longer x y put) in
    record {
      frame = subst (λ (p : Post). c.args.frame < p.machine.frames) (sym (came_post x y put)) (moved_inside c.in-Ok.ensures.moves c.requires.frame);
      may = entered_may l.1 enters c.requires.may;
      wanted = c.requires.wanted;
      enters = (l.0, enters);
    }

pub go_on-requires-else-kind : goal.go_on-requires-else-kind
go_on-requires-else-kind g c =
    let l = c.requires.looked in
    let k = c.read_kind-kind.result in
    let enters = unkept_enters l.0 (g.P.Port.value c.args.port.now) c.args.frame c.args.owner c.args.want c.args.word l.1 k c.read_kind-kind.ensures (read_is c.args.word k c.read_kind-kind.ensures).0
    (when_partial k c.args.want (c.requires.stands c.read_kind-kind.result c.read_kind-kind.ensures)) (g.P.Port.value c.resume_work.new.port) (Cas (kind_write k) (kind_write (resumed_kind k))) (kind_write k) c.in-Ok.ensures.moves
    c.in-Ok.ensures.hand c.if-kind.false in
    record { frame = moved_inside c.in-Ok.ensures.moves c.requires.frame; may = entered_may l.1 enters c.requires.may; wanted = c.requires.wanted; enters = (l.0, enters) }

pub lost-requires : goal.lost-requires
lost-requires g c = moved_inside c.in-Err.ensures.moves c.requires.frame

pub returns-then-kind-clause-takes : goal.returns-then-kind-clause-takes
returns-then-kind-clause-takes g c b l =
    let v = g.P.Port.value c.args.port.now in
    let x = g.P.Port.value c.resume_work.new.port in
    let y = g.P.Port.value c.put_ref.new.port in
    let k = c.read_kind-kind.result in
    let spelled = read_is c.args.word k c.read_kind-kind.ensures in
    let parted = when_partial k c.args.want (c.requires.stands c.read_kind-kind.result c.read_kind-kind.ensures) in
    kept_takes b v c.args.frame c.args.owner c.args.want c.args.word l k c.read_kind-kind.ensures spelled.0 spelled.1 x (g.P.Port.value c.go_on.new.port) c.go_on.result parted c.in-Ok.ensures.moves y
    c.put_ref.ensures.serves
    (kept_enters b v c.args.frame c.args.owner c.args.want c.args.word l k c.read_kind-kind.ensures spelled.0 parted x (Cas (kind_write k) (kind_write (resumed_kind k))) (kind_write k) c.in-Ok.ensures.moves
    c.in-Ok.ensures.hand c.if-kind.true y c.put_ref.ensures.hand (came_longer x y (serves_came x y (of_back c.args.frame) [] c.put_ref.ensures.serves))) c.go_on.ensures.serves c.go_on.ensures.waits
    c.go_on.ensures.hand

pub returns-then-kind-clause-plain : goal.returns-then-kind-clause-plain
returns-then-kind-clause-plain g c b l telling =
    let v = g.P.Port.value c.args.port.now in
    let x = g.P.Port.value c.resume_work.new.port in
    let y = g.P.Port.value c.put_ref.new.port in
    let k = c.read_kind-kind.result in
    let spelled = read_is c.args.word k c.read_kind-kind.ensures in
    let stands = (c.requires.stands c.read_kind-kind.result c.read_kind-kind.ensures) in
    plain_kept b v c.args.frame c.args.owner c.args.want c.args.word l k c.read_kind-kind.ensures spelled.1 telling x
    (again b v c.args.frame c.args.owner c.args.want c.args.word l k c.read_kind-kind.ensures spelled.0 (when_partial k c.args.want stands) x (Cas (kind_write k) (kind_write (resumed_kind k))) (kind_write k) c.in-Ok.ensures.moves
    c.in-Ok.ensures.hand) stands c.in-Ok.ensures.moves y (g.P.Port.value c.go_on.new.port) c.go_on.result c.if-kind.true
    (came_telling x y (serves_came x y (of_back c.args.frame) [] c.put_ref.ensures.serves)) c.put_ref.ensures.plain c.go_on.ensures.plain

pub returns-else-kind-clause-takes : goal.returns-else-kind-clause-takes
returns-else-kind-clause-takes g c b l =
    let v = g.P.Port.value c.args.port.now in
    let x = g.P.Port.value c.resume_work.new.port in
    let k = c.read_kind-kind.result in
    let spelled = read_is c.args.word k c.read_kind-kind.ensures in
    let parted = when_partial k c.args.want (c.requires.stands c.read_kind-kind.result c.read_kind-kind.ensures) in
    unkept_takes b v c.args.frame c.args.owner c.args.want c.args.word l k c.read_kind-kind.ensures spelled.0 spelled.1 x (g.P.Port.value c.go_on-else-kind.new.port) c.go_on-else-kind.result parted c.in-Ok.ensures.moves
    (unkept_enters b v c.args.frame c.args.owner c.args.want c.args.word l k c.read_kind-kind.ensures spelled.0 parted x (Cas (kind_write k) (kind_write (resumed_kind k))) (kind_write k) c.in-Ok.ensures.moves
    c.in-Ok.ensures.hand c.if-kind.false) c.go_on-else-kind.ensures.serves c.go_on-else-kind.ensures.waits c.go_on-else-kind.ensures.hand

pub returns-else-kind-clause-plain : goal.returns-else-kind-clause-plain
returns-else-kind-clause-plain g c b l telling =
    let v = g.P.Port.value c.args.port.now in
    let x = g.P.Port.value c.resume_work.new.port in
    let k = c.read_kind-kind.result in
    let spelled = read_is c.args.word k c.read_kind-kind.ensures in
    let stands = (c.requires.stands c.read_kind-kind.result c.read_kind-kind.ensures) in
    plain_unkept b v c.args.frame c.args.owner c.args.want c.args.word l k c.read_kind-kind.ensures spelled.1 telling x
    (again b v c.args.frame c.args.owner c.args.want c.args.word l k c.read_kind-kind.ensures spelled.0 (when_partial k c.args.want stands) x (Cas (kind_write k) (kind_write (resumed_kind k))) (kind_write k) c.in-Ok.ensures.moves
    c.in-Ok.ensures.hand) stands c.in-Ok.ensures.moves (g.P.Port.value c.go_on-else-kind.new.port) c.go_on-else-kind.result c.if-kind.false c.go_on-else-kind.ensures.plain

pub returns-in-Err-clause-takes : goal.returns-in-Err-clause-takes
returns-in-Err-clause-takes g c b l =
    let v = g.P.Port.value c.args.port.now in
    let k = c.read_kind-kind.result in
    let spelled = read_is c.args.word k c.read_kind-kind.ensures in
    let parted = when_partial k c.args.want (c.requires.stands c.read_kind-kind.result c.read_kind-kind.ensures) in
    lost_takes b v c.args.frame c.args.owner c.args.want c.args.word l (g.P.Port.value c.resume_work.new.port) k (resumed_kind k) spelled.0 (resumed_is k spelled.0 parted.partial) parted.kind refl spelled.1
    c.in-Err.found c.in-Err.ensures.moves c.in-Err.ensures.lost c.in-Err.ensures.hand c.lost.result c.lost.ensures

pub returns-in-Err-clause-plain : goal.returns-in-Err-clause-plain
returns-in-Err-clause-plain g c b l telling =
    let k = c.read_kind-kind.result in
    plain_lost b (g.P.Port.value c.args.port.now) c.args.frame c.args.owner c.args.want c.args.word l k c.read_kind-kind.ensures (read_is c.args.word k c.read_kind-kind.ensures).1 telling (g.P.Port.value c.resume_work.new.port)
    (resumed_kind k) c.in-Err.found c.lost.result c.in-Err.ensures.moves c.in-Err.ensures.lost

pub returns-then-kind-clause-live : goal.returns-then-kind-clause-live
returns-then-kind-clause-live g c =
    let v = g.P.Port.value c.args.port.now in
    let x = g.P.Port.value c.resume_work.new.port in
    let y = g.P.Port.value c.put_ref.new.port in
    lives_behind v y (g.P.Port.value c.go_on.new.port) c.args.frame c.go_on.result
    (came_trans v x y (moves_came v x _ _ _ _ _ c.in-Ok.ensures.moves) (serves_came x y (of_back c.args.frame) [] c.put_ref.ensures.serves)) c.go_on.ensures.live

pub returns-else-kind-clause-live : goal.returns-else-kind-clause-live
returns-else-kind-clause-live g c =
    let v = g.P.Port.value c.args.port.now in
    let x = g.P.Port.value c.resume_work.new.port in
    lives_behind v x (g.P.Port.value c.go_on-else-kind.new.port) c.args.frame c.go_on-else-kind.result (moves_came v x _ _ _ _ _ c.in-Ok.ensures.moves) c.go_on-else-kind.ensures.live

pub returns-then-kind-clause-found : goal.returns-then-kind-clause-found
returns-then-kind-clause-found g c b l =
    let k = c.read_kind-kind.result in
    kept_found b (g.P.Port.value c.args.port.now) c.args.frame c.args.owner c.args.want c.args.word l k c.read_kind-kind.ensures (read_is c.args.word k c.read_kind-kind.ensures).1
    (g.P.Port.value c.resume_work.new.port) (c.requires.stands c.read_kind-kind.result c.read_kind-kind.ensures) c.in-Ok.ensures.moves (g.P.Port.value c.put_ref.new.port) (g.P.Port.value c.go_on.new.port) c.go_on.result
    c.if-kind.true c.put_ref.ensures.puts c.go_on.ensures.visits

pub returns-else-kind-clause-found : goal.returns-else-kind-clause-found
returns-else-kind-clause-found g c b l =
    let k = c.read_kind-kind.result in
    unkept_found b (g.P.Port.value c.args.port.now) c.args.frame c.args.owner c.args.want c.args.word l k c.read_kind-kind.ensures (read_is c.args.word k c.read_kind-kind.ensures).1
    (g.P.Port.value c.resume_work.new.port) (c.requires.stands c.read_kind-kind.result c.read_kind-kind.ensures) c.in-Ok.ensures.moves (g.P.Port.value c.go_on-else-kind.new.port) c.go_on-else-kind.result c.if-kind.false
    c.go_on-else-kind.ensures.visits

pub returns-in-Err-clause-found : goal.returns-in-Err-clause-found
returns-in-Err-clause-found g c b l =
    let k = c.read_kind-kind.result in
    lost_found b (g.P.Port.value c.args.port.now) c.args.frame c.args.owner c.args.want c.args.word l k c.read_kind-kind.ensures (read_is c.args.word k c.read_kind-kind.ensures).1
    stands.Partial (c.requires.stands c.read_kind-kind.result c.read_kind-kind.ensures) (g.P.Port.value c.resume_work.new.port) c.in-Err.found refl c.in-Err.ensures.moves c.in-Err.ensures.lost c.lost.result c.lost.ensures
