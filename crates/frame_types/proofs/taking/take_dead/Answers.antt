use Rattle.std.proofs.Common.{true, refl, sym, subst}
use Rattle.xp_words.specs.KindWords.{kind_write}
use Rattle.xp_board.specs.declared.step.Act.TheVariants.{Cas}
use Rattle.xp_board.specs.KindSteps.{begun_kind}
use Rattle.step_maker.proofs.Coming.{moves_came, moved_inside}
use Rattle.kind_words.proofs.KindFacts.{kind_is_some, read_is}
use Rattle.kind_words.proofs.KindWriting.{begun_is}
use Rattle.frame_types.specs.Found.{Proceeds}
use Rattle.frame_types.specs.Plain.{TwinOn}
use Rattle.frame_types.specs.Taking.{Enters, progress_of, stamp_by}
use Rattle.frame_types.specs.declared.standing.Standing.TheVariants as stands
use Rattle.frame_types.proofs.Arms.{dead_takes, lost_takes}
use Rattle.frame_types.proofs.Classing.{dead_unpinned, when_dead}
use Rattle.frame_types.proofs.Coming.{begun_enters, looked_held, entered_may}
use Rattle.frame_types.proofs.Living.{lives_behind}
use Rattle.frame_types.proofs.Plainly.{plain_dead, plain_lost}
use Rattle.frame_types.proofs.TakingSteps.{dead_found, lost_found}
use Rattle.frame_types.proofs.taking.take_dead.Goals as goal

pub read_kind-kind-requires : goal.read_kind-kind-requires
read_kind-kind-requires g c =
    let l = c.requires.looked in kind_is_some (l.0).post.machine (l.0).post.vcpu (l.0).holdings c.args.frame c.args.word l.1.frame l.1.look.finds

pub begin_work-requires-clause-is : goal.begin_work-requires-clause-is
begin_work-requires-clause-is g c = (read_is c.args.word c.read_kind-kind.result c.read_kind-kind.ensures).0

pub begin_work-requires-clause-held : goal.begin_work-requires-clause-held
begin_work-requires-clause-held g c = let l = c.requires.looked in looked_held l.0 (g.P.Port.value c.args.port.now) c.args.frame c.args.owner c.args.want c.args.word l.1

pub go_on-requires : goal.go_on-requires
go_on-requires g c =
    let l = c.requires.looked in
    let k = c.read_kind-kind.result in
    let x = g.P.Port.value c.begin_work.new.port in
    let enters = begun_enters l.0 (g.P.Port.value c.args.port.now) c.args.frame c.args.owner c.args.want c.args.word l.1 k c.read_kind-kind.ensures (read_is c.args.word k c.read_kind-kind.ensures).0
    (when_dead k c.args.want (c.requires.stands c.read_kind-kind.result c.read_kind-kind.ensures)) c.requires.wanted x (Cas (kind_write k) (kind_write (begun_kind k c.args.want))) (kind_write k) c.in-Ok.ensures.moves c.in-Ok.ensures.hand in
    record {
      frame = moved_inside c.in-Ok.ensures.moves c.requires.frame;
      may = entered_may l.1 enters c.requires.may;
      wanted = c.requires.wanted;
      enters = (l.0, subst (λ m. Enters l.0 x c.args.frame c.args.owner c.args.want m (stamp_by m k) (progress_of k) true) (sym c.is_stale_for-marked.ensures) enters);
    }

pub returns-in-Ok-clause-takes : goal.returns-in-Ok-clause-takes
returns-in-Ok-clause-takes g c b l =
    let v = g.P.Port.value c.args.port.now in
    let x = g.P.Port.value c.begin_work.new.port in
    let k = c.read_kind-kind.result in
    let spelled = read_is c.args.word k c.read_kind-kind.ensures in
    let dead = when_dead k c.args.want (c.requires.stands c.read_kind-kind.result c.read_kind-kind.ensures) in
    dead_takes b v c.args.frame c.args.owner c.args.want c.args.word l k c.read_kind-kind.ensures spelled.0 spelled.1 x (g.P.Port.value c.go_on.new.port) c.go_on.result dead c.requires.wanted c.is_stale_for-marked.result
    c.is_stale_for-marked.ensures c.in-Ok.ensures.moves
    (begun_enters b v c.args.frame c.args.owner c.args.want c.args.word l k c.read_kind-kind.ensures spelled.0 dead c.requires.wanted x (Cas (kind_write k) (kind_write (begun_kind k c.args.want))) (kind_write k)
    c.in-Ok.ensures.moves c.in-Ok.ensures.hand) c.go_on.ensures.serves c.go_on.ensures.waits c.go_on.ensures.hand

pub returns-in-Ok-clause-live : goal.returns-in-Ok-clause-live
returns-in-Ok-clause-live g c =
    let v = g.P.Port.value c.args.port.now in
    let x = g.P.Port.value c.begin_work.new.port in
    lives_behind v x (g.P.Port.value c.go_on.new.port) c.args.frame c.go_on.result (moves_came v x _ _ _ _ _ c.in-Ok.ensures.moves) c.go_on.ensures.live

pub returns-in-Ok-clause-plain : goal.returns-in-Ok-clause-plain
returns-in-Ok-clause-plain g c b l telling =
    let k = c.read_kind-kind.result in
    let x = g.P.Port.value c.begin_work.new.port in
    let w = g.P.Port.value c.go_on.new.port in
    plain_dead b (g.P.Port.value c.args.port.now) c.args.frame c.args.owner c.args.want c.args.word l k c.read_kind-kind.ensures (read_is c.args.word k c.read_kind-kind.ensures).1 telling x w c.go_on.result
    (c.requires.stands c.read_kind-kind.result c.read_kind-kind.ensures) c.in-Ok.ensures.moves (subst (λ m. TwinOn x w c.args.frame c.args.want m true (progress_of k) c.go_on.result) c.is_stale_for-marked.ensures c.go_on.ensures.plain)

pub returns-in-Err-clause-takes : goal.returns-in-Err-clause-takes
returns-in-Err-clause-takes g c b l =
    let v = g.P.Port.value c.args.port.now in
    let k = c.read_kind-kind.result in
    let spelled = read_is c.args.word k c.read_kind-kind.ensures in
    let dead = when_dead k c.args.want (c.requires.stands c.read_kind-kind.result c.read_kind-kind.ensures) in
    lost_takes b v c.args.frame c.args.owner c.args.want c.args.word l (g.P.Port.value c.begin_work.new.port) k (begun_kind k c.args.want) spelled.0 (begun_is k c.args.want spelled.0 dead c.requires.wanted) refl
    (sym (dead_unpinned c.args.word k c.read_kind-kind.ensures dead)) spelled.1 c.in-Err.found c.in-Err.ensures.moves c.in-Err.ensures.lost c.in-Err.ensures.hand
    c.lost.result c.lost.ensures

pub returns-in-Err-clause-plain : goal.returns-in-Err-clause-plain
returns-in-Err-clause-plain g c b l telling =
    let k = c.read_kind-kind.result in
    plain_lost b (g.P.Port.value c.args.port.now) c.args.frame c.args.owner c.args.want c.args.word l k c.read_kind-kind.ensures (read_is c.args.word k c.read_kind-kind.ensures).1 telling (g.P.Port.value c.begin_work.new.port)
    (begun_kind k c.args.want) c.in-Err.found c.lost.result c.in-Err.ensures.moves c.in-Err.ensures.lost

pub returns-in-Ok-clause-found : goal.returns-in-Ok-clause-found
returns-in-Ok-clause-found g c b l =
    let k = c.read_kind-kind.result in
    let x = g.P.Port.value c.begin_work.new.port in
    let w = g.P.Port.value c.go_on.new.port in
    dead_found b (g.P.Port.value c.args.port.now) c.args.frame c.args.owner c.args.want c.args.word l k c.read_kind-kind.ensures (read_is c.args.word k c.read_kind-kind.ensures).1
    x w c.go_on.result (c.requires.stands c.read_kind-kind.result c.read_kind-kind.ensures) c.in-Ok.ensures.moves
    (subst (λ m. Proceeds x w c.args.frame c.args.owner c.args.want m k.number true (progress_of k) c.go_on.result) c.is_stale_for-marked.ensures c.go_on.ensures.visits)

pub returns-in-Err-clause-found : goal.returns-in-Err-clause-found
returns-in-Err-clause-found g c b l =
    let k = c.read_kind-kind.result in
    lost_found b (g.P.Port.value c.args.port.now) c.args.frame c.args.owner c.args.want c.args.word l k c.read_kind-kind.ensures (read_is c.args.word k c.read_kind-kind.ensures).1
    stands.Dead (c.requires.stands c.read_kind-kind.result c.read_kind-kind.ensures) (g.P.Port.value c.begin_work.new.port) c.in-Err.found refl c.in-Err.ensures.moves c.in-Err.ensures.lost c.lost.result c.lost.ensures
