use Rattle.std.proofs.Common.{sym, ◌∙◌}
use Rattle.kind_words.proofs.KindFacts.{kind_is_some, read_is}
use Rattle.frame_types.proofs.Arms.{busy_takes, other_takes}
use Rattle.frame_types.proofs.Classing.{when_busy, when_other}
use Rattle.frame_types.proofs.Plainly.{plain_busy, plain_other}
use Rattle.frame_types.proofs.TakingSteps.{busy_found, other_found}
use Rattle.frame_types.proofs.taking.take_looked.Goals as goal

pub read_kind-kind-requires : goal.read_kind-kind-requires
read_kind-kind-requires g c =
    let l = c.requires.looked in kind_is_some (l.0).post.machine (l.0).post.vcpu (l.0).holdings c.args.frame c.args.word l.1.frame l.1.look.finds

-- ---- not to be had

pub returns-in-Busy-clause-takes : goal.returns-in-Busy-clause-takes
returns-in-Busy-clause-takes g c b l =
    busy_takes b (g.P.Port.value c.args.port.now) c.args.frame c.args.owner c.args.want c.args.word l c.read_kind-kind.result c.read_kind-kind.ensures
    (when_busy c.read_kind-kind.result c.args.want (sym c.classify.ensures ∙ c.in-Busy.is))

pub returns-in-Busy-clause-plain : goal.returns-in-Busy-clause-plain
returns-in-Busy-clause-plain g c b l telling =
    let k = c.read_kind-kind.result in
    plain_busy b (g.P.Port.value c.args.port.now) c.args.frame c.args.owner c.args.want c.args.word l k c.read_kind-kind.ensures (read_is c.args.word k c.read_kind-kind.ensures).1 telling (sym c.classify.ensures ∙ c.in-Busy.is)

pub returns-in-Other-clause-takes : goal.returns-in-Other-clause-takes
returns-in-Other-clause-takes g c b l =
    other_takes b (g.P.Port.value c.args.port.now) c.args.frame c.args.owner c.args.want c.args.word l c.read_kind-kind.result c.read_kind-kind.ensures
    (when_other c.read_kind-kind.result c.args.want (sym c.classify.ensures ∙ c.in-Other.is))

pub returns-in-Other-clause-plain : goal.returns-in-Other-clause-plain
returns-in-Other-clause-plain g c b l telling =
    let k = c.read_kind-kind.result in
    plain_other b (g.P.Port.value c.args.port.now) c.args.frame c.args.owner c.args.want c.args.word l k c.read_kind-kind.ensures (read_is c.args.word k c.read_kind-kind.ensures).1 telling (sym c.classify.ensures ∙ c.in-Other.is)

pub returns-in-Busy-clause-found : goal.returns-in-Busy-clause-found
returns-in-Busy-clause-found g c b l =
    let k = c.read_kind-kind.result in
    busy_found b (g.P.Port.value c.args.port.now) c.args.frame c.args.owner c.args.want c.args.word l k c.read_kind-kind.ensures (read_is c.args.word k c.read_kind-kind.ensures).1
    (sym c.classify.ensures ∙ c.in-Busy.is)

pub returns-in-Other-clause-found : goal.returns-in-Other-clause-found
returns-in-Other-clause-found g c b l =
    let k = c.read_kind-kind.result in
    other_found b (g.P.Port.value c.args.port.now) c.args.frame c.args.owner c.args.want c.args.word l k c.read_kind-kind.ensures (read_is c.args.word k c.read_kind-kind.ensures).1
    (sym c.classify.ensures ∙ c.in-Other.is)
