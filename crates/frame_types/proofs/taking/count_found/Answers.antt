use Rattle.std.proofs.Common.{refl, sym, ◌∙◌}
use Rattle.xp_words.specs.KindWords.{kind_write}
use Rattle.xp_board.specs.KindSteps.{raised_kind}
use Rattle.kind_words.proofs.KindFacts.{kind_is_some, read_is}
use Rattle.frame_types.specs.declared.standing.Standing.TheVariants as stands
use Rattle.frame_types.proofs.Arms.{counted_takes, lost_takes}
use Rattle.frame_types.proofs.Classing.{when_counted}
use Rattle.frame_types.proofs.Coming.{looked_held, looked_low, raised_spelled}
use Rattle.frame_types.proofs.Living.{lives_by_exchange}
use Rattle.frame_types.proofs.Plainly.{plain_counted, plain_lost}
use Rattle.frame_types.proofs.TakingSteps.{counted_found, lost_found}
use Rattle.frame_types.proofs.taking.count_found.Goals as goal

pub read_kind-kind-requires : goal.read_kind-kind-requires
read_kind-kind-requires g c =
    let l = c.requires.looked in kind_is_some (l.0).post.machine (l.0).post.vcpu (l.0).holdings c.args.frame c.args.word l.1.frame l.1.look.finds

pub count_type-requires-clause-is : goal.count_type-requires-clause-is
count_type-requires-clause-is g c = (read_is c.args.word c.read_kind-kind.result c.read_kind-kind.ensures).0

pub count_type-requires-clause-spelled : goal.count_type-requires-clause-spelled
count_type-requires-clause-spelled g c = (read_is c.args.word c.read_kind-kind.result c.read_kind-kind.ensures).1

pub count_type-requires-clause-low : goal.count_type-requires-clause-low
count_type-requires-clause-low g c =
    let l = c.requires.looked in
    looked_low l.0 (g.P.Port.value c.args.port.now) c.args.frame c.args.owner c.args.want c.args.word l.1 c.read_kind-kind.result c.read_kind-kind.ensures (when_counted c.read_kind-kind.result c.args.want (sym c.classify.ensures ∙ c.in-Counted.is))

pub count_type-requires-clause-held : goal.count_type-requires-clause-held
count_type-requires-clause-held g c = let l = c.requires.looked in looked_held l.0 (g.P.Port.value c.args.port.now) c.args.frame c.args.owner c.args.want c.args.word l.1

-- ---- counted

pub returns-in-Ok-clause-takes : goal.returns-in-Ok-clause-takes
returns-in-Ok-clause-takes g c b l =
    let v = g.P.Port.value c.args.port.now in
    let k = c.read_kind-kind.result in
    let spelled = read_is c.args.word k c.read_kind-kind.ensures in
    let is = when_counted k c.args.want (sym c.classify.ensures ∙ c.in-Counted.is) in
    counted_takes b v c.args.frame c.args.owner c.args.want c.args.word l (g.P.Port.value c.count_type.new.port) k spelled.0
    (raised_spelled v k c.args.want c.requires.may spelled.0 is (looked_low b v c.args.frame c.args.owner c.args.want c.args.word l k c.read_kind-kind.ensures is)) is.kind spelled.1 c.in-Ok.ensures.moves c.in-Ok.ensures.hand

pub returns-in-Ok-clause-live : goal.returns-in-Ok-clause-live
returns-in-Ok-clause-live g c =
    let v = g.P.Port.value c.args.port.now in
    let l = c.requires.looked in
    let k = c.read_kind-kind.result in
    let spelled = read_is c.args.word k c.read_kind-kind.ensures in
    let is = when_counted k c.args.want (sym c.classify.ensures ∙ c.in-Counted.is) in
    lives_by_exchange v (g.P.Port.value c.count_type.new.port) c.args.frame (kind_write k) (raised_kind k) _ _
    (raised_spelled v k c.args.want c.requires.may spelled.0 is (looked_low l.0 v c.args.frame c.args.owner c.args.want c.args.word l.1 k c.read_kind-kind.ensures is)) is.live c.in-Ok.ensures.moves

pub returns-in-Ok-clause-plain : goal.returns-in-Ok-clause-plain
returns-in-Ok-clause-plain g c b l telling =
    let k = c.read_kind-kind.result in
    plain_counted b (g.P.Port.value c.args.port.now) c.args.frame c.args.owner c.args.want c.args.word l k c.read_kind-kind.ensures (read_is c.args.word k c.read_kind-kind.ensures).1 telling (g.P.Port.value c.count_type.new.port)
    (sym c.classify.ensures ∙ c.in-Counted.is) c.in-Ok.ensures.moves

pub returns-in-Err-clause-takes : goal.returns-in-Err-clause-takes
returns-in-Err-clause-takes g c b l =
    let v = g.P.Port.value c.args.port.now in
    let k = c.read_kind-kind.result in
    let spelled = read_is c.args.word k c.read_kind-kind.ensures in
    let is = when_counted k c.args.want (sym c.classify.ensures ∙ c.in-Counted.is) in
    lost_takes b v c.args.frame c.args.owner c.args.want c.args.word l (g.P.Port.value c.count_type.new.port) k (raised_kind k) spelled.0
    (raised_spelled v k c.args.want c.requires.may spelled.0 is (looked_low b v c.args.frame c.args.owner c.args.want c.args.word l k c.read_kind-kind.ensures is)) is.kind refl spelled.1 c.in-Err.found c.in-Err.ensures.moves
    c.in-Err.ensures.lost c.in-Err.ensures.hand c.lost_type.result c.lost_type.ensures

pub returns-in-Err-clause-plain : goal.returns-in-Err-clause-plain
returns-in-Err-clause-plain g c b l telling =
    let k = c.read_kind-kind.result in
    plain_lost b (g.P.Port.value c.args.port.now) c.args.frame c.args.owner c.args.want c.args.word l k c.read_kind-kind.ensures (read_is c.args.word k c.read_kind-kind.ensures).1 telling (g.P.Port.value c.count_type.new.port)
    (raised_kind k) c.in-Err.found c.lost_type.result c.in-Err.ensures.moves c.in-Err.ensures.lost

-- ---- by the words that the steps found

pub returns-in-Ok-clause-found : goal.returns-in-Ok-clause-found
returns-in-Ok-clause-found g c b l =
    let k = c.read_kind-kind.result in
    counted_found b (g.P.Port.value c.args.port.now) c.args.frame c.args.owner c.args.want c.args.word l k c.read_kind-kind.ensures (read_is c.args.word k c.read_kind-kind.ensures).1
    (g.P.Port.value c.count_type.new.port) (sym c.classify.ensures ∙ c.in-Counted.is) c.in-Ok.ensures.moves

pub returns-in-Err-clause-found : goal.returns-in-Err-clause-found
returns-in-Err-clause-found g c b l =
    let k = c.read_kind-kind.result in
    lost_found b (g.P.Port.value c.args.port.now) c.args.frame c.args.owner c.args.want c.args.word l k c.read_kind-kind.ensures (read_is c.args.word k c.read_kind-kind.ensures).1
    stands.Counted (sym c.classify.ensures ∙ c.in-Counted.is) (g.P.Port.value c.count_type.new.port) c.in-Err.found refl c.in-Err.ensures.moves c.in-Err.ensures.lost c.lost_type.result c.lost_type.ensures
