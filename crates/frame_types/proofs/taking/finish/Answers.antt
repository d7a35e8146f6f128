use Rattle.std.proofs.Common.{if◌then◌else◌, true, false, IsTrue, refl, sym, ap, ◌∙◌, subst}
use Rattle.xp_words.specs.KindWords.{is_kind, kind_write}
use Rattle.xp_words.specs.declared.kind.KindWord.{KindWord}
use Rattle.xp_words.specs.declared.place.Place.TheVariants.{Kind}
use Rattle.xp_board.specs.Told.{told_word}
use Rattle.step_maker.proofs.Alikes.{same_alike}
use Rattle.kind_words.specs.Kinds.{live_kind, work_kind}
use Rattle.frame_types.specs.Taking.{Enters, stamp_by, progress_of}
use Rattle.frame_types.proofs.Entering.{work_spelled}
use Rattle.frame_types.proofs.Finishing.{no_memory, live_leaves, live_hand, live_spelled, unmarked_leaves, unmarked_works, plain_works, left_serves}
use Rattle.frame_types.proofs.Living.{lives_by_store}
use Rattle.frame_types.proofs.Storing.{store_same, stored_alike}
use Rattle.frame_types.proofs.TakingSteps.{goes_as_it_was, goes_live, goes_unmarked}
use Rattle.frame_types.proofs.taking.finish.Goals as goal

pub leave-requires-clause-leaves : goal.leave-requires-clause-leaves
leave-requires-clause-leaves g c =
    let e = c.requires.enters in
    live_leaves e.0 (g.P.Port.value c.args.port.now) c.args.frame c.args.owner c.args.want c.args.marked (stamp_by c.args.marked c.args.kind) (progress_of c.args.kind) c.live_kind.result c.counts.result c.requires.wanted c.live_kind.ensures
    c.args.own e.1 c.counts.ensures c.requires.may (sym c.is_read_first.ensures ∙ c.if-not-is_read_first.true) c.requires.past

pub leave-requires-then-marked-clause-leaves : goal.leave-requires-then-marked-clause-leaves
leave-requires-then-marked-clause-leaves g c =
    let e = c.requires.enters in
    let v = g.P.Port.value c.args.port.now in
    let on = c.if-marked.true in
    unmarked_leaves e.0 v c.args.frame c.args.owner c.args.want (stamp_by true c.args.kind) (progress_of c.args.kind) c.args.own
    (subst (λ m. Enters e.0 v c.args.frame c.args.owner c.args.want m (stamp_by m c.args.kind) (progress_of c.args.kind) c.args.own) on e.1) (c.requires.past on) c.work_kind.result c.work_kind.ensures

pub returns-then-not-is_read_first-clause-serves : goal.returns-then-not-is_read_first-clause-serves
returns-then-not-is_read_first-clause-serves g c u ds before =
    let e = c.requires.enters in
    let is = c.live_kind.ensures ∙ ap (live_kind c.args.want) c.counts.ensures in
    left_serves u e.0 (g.P.Port.value c.args.port.now) (g.P.Port.value c.leave.new.port) c.args.frame c.args.owner c.args.want c.args.marked (stamp_by c.args.marked c.args.kind) (progress_of c.args.kind) c.args.own e.1 c.live_kind.result
    (subst (λ k. IsTrue (is_kind k)) (sym is) (live_spelled c.args.want c.args.own c.requires.wanted)) (ap (λ (k : KindWord). k.kind) c.live_kind.ensures) c.leave.result c.leave.ensures.moves ds before

pub returns-then-not-is_read_first-clause-hand : goal.returns-then-not-is_read_first-clause-hand
returns-then-not-is_read_first-clause-hand g c b e =
    live_hand b (g.P.Port.value c.args.port.now) c.args.frame c.args.owner c.args.want c.args.marked (stamp_by c.args.marked c.args.kind) (progress_of c.args.kind) c.live_kind.result c.counts.result c.requires.wanted c.live_kind.ensures
    c.args.own e c.counts.ensures (g.P.Port.value c.leave.new.port) c.leave.ensures.hand

pub returns-then-not-is_read_first-clause-live : goal.returns-then-not-is_read_first-clause-live
returns-then-not-is_read_first-clause-live g c =
    let is = c.live_kind.ensures ∙ ap (live_kind c.args.want) c.counts.ensures in
    lives_by_store (g.P.Port.value c.args.port.now) (g.P.Port.value c.leave.new.port) c.args.frame c.live_kind.result _ _ c.leave.result
    (subst (λ k. IsTrue (is_kind k)) (sym is) (live_spelled c.args.want c.args.own c.requires.wanted)) (ap (λ (k : KindWord). k.validated) c.live_kind.ensures) c.leave.ensures.moves

pub returns-then-not-is_read_first-clause-plain : goal.returns-then-not-is_read_first-clause-plain
returns-then-not-is_read_first-clause-plain g c telling same = (
  sym c.is_read_first.ensures ∙ c.if-not-is_read_first.true,
  stored_alike (g.P.Port.value c.args.port.now) (g.P.Port.value c.leave.new.port) c.args.frame (live_kind c.args.want (if c.args.own then 1 else 2)) c.live_kind.result c.leave.result c.leave.ensures.moves
      (c.live_kind.ensures ∙ ap (live_kind c.args.want) c.counts.ensures) telling,
)

pub returns-then-marked-clause-serves : goal.returns-then-marked-clause-serves
returns-then-marked-clause-serves g c u ds before =
    let e = c.requires.enters in
    left_serves u e.0 (g.P.Port.value c.args.port.now) (g.P.Port.value c.leave-then-marked.new.port) c.args.frame c.args.owner c.args.want c.args.marked (stamp_by c.args.marked c.args.kind) (progress_of c.args.kind) c.args.own e.1
    c.work_kind.result (subst (λ k. IsTrue (is_kind k)) (sym c.work_kind.ensures) (work_spelled c.args.want c.requires.wanted)) (ap (λ (k : KindWord). k.kind) c.work_kind.ensures) c.leave-then-marked.result c.leave-then-marked.ensures.moves ds before

pub returns-then-marked-clause-hand : goal.returns-then-marked-clause-hand
returns-then-marked-clause-hand g c b e =
    let v = g.P.Port.value c.args.port.now in
    let read = no_memory c.args.want (sym c.is_read_first.ensures ∙ c.if-not-is_read_first.false) in
    rw c.progress_of.ensures (
      read,
      unmarked_works b v c.args.frame c.args.owner c.args.want (stamp_by true c.args.kind) (progress_of c.args.kind) c.args.own
          (subst (λ m. Enters b v c.args.frame c.args.owner c.args.want m (stamp_by m c.args.kind) (progress_of c.args.kind) c.args.own) c.if-marked.true e) (g.P.Port.value c.leave-then-marked.new.port)
          c.work_kind.result c.work_kind.ensures c.leave-then-marked.result c.leave-then-marked.ensures.moves c.leave-then-marked.ensures.hand
          (subst (λ k. IsTrue (is_kind k)) (sym c.work_kind.ensures) (work_spelled c.args.want c.requires.wanted)),
    )

pub returns-then-marked-clause-plain : goal.returns-then-marked-clause-plain
returns-then-marked-clause-plain g c telling same = (
  sym c.is_read_first.ensures ∙ c.if-not-is_read_first.false,
  refl,
  c.progress_of.ensures,
  stored_alike (g.P.Port.value c.args.port.now) (g.P.Port.value c.leave-then-marked.new.port) c.args.frame (work_kind c.args.want false 0) c.work_kind.result c.leave-then-marked.result c.leave-then-marked.ensures.moves c.work_kind.ensures telling,
)

pub returns-else-marked-clause-hand : goal.returns-else-marked-clause-hand
returns-else-marked-clause-hand g c b e =
    let v = g.P.Port.value c.args.port.now in
    let read = no_memory c.args.want (sym c.is_read_first.ensures ∙ c.if-not-is_read_first.false) in
    rw c.progress_of-else-marked.ensures (
      read,
      plain_works b v c.args.frame c.args.owner c.args.want (stamp_by false c.args.kind) (progress_of c.args.kind) c.args.own
          (subst (λ m. Enters b v c.args.frame c.args.owner c.args.want m (stamp_by m c.args.kind) (progress_of c.args.kind) c.args.own) c.if-marked.false e),
    )

pub returns-else-marked-clause-plain : goal.returns-else-marked-clause-plain
returns-else-marked-clause-plain g c telling same =
    let v = g.P.Port.value c.args.port.now in (
      sym c.is_read_first.ensures ∙ c.if-not-is_read_first.false,
      refl,
      c.progress_of-else-marked.ensures,
      same_alike (told_word v) _ (store_same (kind_write (work_kind c.args.want false 0)) (Kind c.args.frame) (told_word v) (same c.if-marked.false)),
    )

pub returns-then-not-is_read_first-clause-visits : goal.returns-then-not-is_read_first-clause-visits
returns-then-not-is_read_first-clause-visits g c =
    goes_live (g.P.Port.value c.args.port.now) (g.P.Port.value c.leave.new.port) c.args.frame c.args.want c.args.marked c.args.own (progress_of c.args.kind) (sym c.is_read_first.ensures ∙ c.if-not-is_read_first.true)
    c.live_kind.result (c.live_kind.ensures ∙ ap (live_kind c.args.want) c.counts.ensures) c.leave.result c.leave.ensures.moves

pub returns-then-marked-clause-visits : goal.returns-then-marked-clause-visits
returns-then-marked-clause-visits g c =
    goes_unmarked (g.P.Port.value c.args.port.now) (g.P.Port.value c.leave-then-marked.new.port) c.args.frame c.args.want c.args.marked c.args.own (progress_of c.args.kind) (sym c.is_read_first.ensures ∙ c.if-not-is_read_first.false)
    c.progress_of.result c.progress_of.ensures c.if-marked.true c.work_kind.result c.work_kind.ensures c.leave-then-marked.result c.leave-then-marked.ensures.moves

pub returns-else-marked-clause-visits : goal.returns-else-marked-clause-visits
returns-else-marked-clause-visits g c =
    goes_as_it_was (g.P.Port.value c.args.port.now) c.args.frame c.args.want c.args.marked c.args.own (progress_of c.args.kind) (sym c.is_read_first.ensures ∙ c.if-not-is_read_first.false)
    c.progress_of-else-marked.result c.progress_of-else-marked.ensures c.if-marked.false
