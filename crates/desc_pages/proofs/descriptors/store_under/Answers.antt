use Rattle.std.proofs.Common.{Err, ap, ◌∙◌}
use Rattle.std.proofs.lemmas.Result.{err_from_is_err_and}
use Rattle.kind_words.proofs.KindFacts.{kind_is_some}
use Rattle.desc_pages.proofs.Storing.{may_drop_as, may_store_as, stored_as, untaken_as}
use Rattle.desc_pages.proofs.descriptors.store_under.Goals as goal

pub type_for-want-requires : goal.type_for-want-requires
type_for-want-requires g c =
    let v = g.P.Port.value c.args.port.now in kind_is_some v.post.machine v.post.vcpu v.holdings c.args.frame c.look_kind.result c.requires.frame c.look_kind.ensures.moves.finds

-- ---- the frame is not to be had
pub returns-in_err-take_as : goal.returns-in_err-take_as
returns-in_err-take_as g c =
    let answer = err_from_is_err_and c.from_residual.result c.from_residual.ensures.1 in
    untaken_as (g.P.Port.value c.args.port.now) (g.P.Port.value c.look_kind.new.port) c.args.frame c.args.owner c.look_kind.result c.look_kind.ensures.moves c.look_kind.ensures.hand c.requires.holds c.type_for-want.result c.type_for-want.ensures
    (g.P.Port.value c.take_as.new.port) c.args.index c.args.new _ (answer.1 ∙ ap Err answer.2) c.in_err-take_as.ensures

-- ---- it is
pub store_cell-requires-clause-writes : goal.store_cell-requires-clause-writes
store_cell-requires-clause-writes g c =
    may_store_as (g.P.Port.value c.args.port.now) (g.P.Port.value c.look_kind.new.port) c.args.frame c.args.owner c.look_kind.result c.look_kind.ensures.moves c.look_kind.ensures.hand c.requires.holds c.type_for-want.result c.type_for-want.ensures
    (g.P.Port.value c.take_as.new.port) c.in_ok-take_as.ensures c.args.new c.requires.fixed

pub drop_plain-requires-clause-drops : goal.drop_plain-requires-clause-drops
drop_plain-requires-clause-drops g c =
    may_drop_as (g.P.Port.value c.args.port.now) (g.P.Port.value c.look_kind.new.port) c.args.frame c.args.owner c.look_kind.result c.look_kind.ensures.moves c.look_kind.ensures.hand c.requires.holds c.type_for-want.result c.type_for-want.ensures
    (g.P.Port.value c.take_as.new.port) c.in_ok-take_as.ensures (g.P.Port.value c.store_cell.new.port) c.args.index c.args.new c.store_cell.result c.store_cell.ensures.moves c.store_cell.ensures.hand

pub returns : goal.returns
returns g c =
    let drops = c.drop_plain.ensures in
    stored_as (g.P.Port.value c.args.port.now) (g.P.Port.value c.look_kind.new.port) c.args.frame c.args.owner c.look_kind.result c.look_kind.ensures.moves c.look_kind.ensures.hand c.requires.holds c.type_for-want.result c.type_for-want.ensures
    (g.P.Port.value c.take_as.new.port) c.in_ok-take_as.ensures (g.P.Port.value c.store_cell.new.port) c.args.index c.args.new c.store_cell.result c.store_cell.ensures.moves c.store_cell.ensures.hand
    (g.P.Port.value c.drop_plain.new.port) drops.serves drops.hand (record { found = drops.found; plain = drops.plain; stands = drops.stands })
