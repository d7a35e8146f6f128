use Rattle.std.proofs.Common.{refl}
use Rattle.xp_preempt.proofs.Consulting.{gated_as, gated_none}
use Rattle.xp_board.specs.Hands.{owner_from}
use Rattle.xp_board.specs.KindSteps.{live_typed}
use Rattle.xp_board.proofs.KindForms.{fields_of}
use Rattle.kind_words.proofs.KindFacts.{read_is}
use Rattle.table_words.proofs.PinWords.{may_unpin}
use Rattle.level_release.proofs.SettlingSteps.{lost_undue}
use Rattle.domain_destroy.proofs.Marked.{lost_code, saw_fits, saw_inside, saw_some, takes_pin}
use Rattle.domain_destroy.proofs.Unmarking.{none_took, one_held, pin_came, pin_took}
use Rattle.domain_destroy.proofs.marks.take_marks.Goals as goal

pub read_kind-kind-requires : goal.read_kind-kind-requires
read_kind-kind-requires g c = saw_some c.requires.saw.2

-- ---- a pin
pub clear_pin-requires-clause-is : goal.clear_pin-requires-clause-is
clear_pin-requires-clause-is g c = (read_is c.args.found c.read_kind-kind.result c.read_kind-kind.ensures).0

pub clear_pin-requires-clause-fits : goal.clear_pin-requires-clause-fits
clear_pin-requires-clause-fits g c = saw_fits c.requires.saw.2 c.read_kind-kind.result c.read_kind-kind.ensures

pub clear_pin-requires-clause-unpins : goal.clear_pin-requires-clause-unpins
clear_pin-requires-clause-unpins g c = may_unpin c.read_kind-kind.result (read_is c.args.found c.read_kind-kind.result c.read_kind-kind.ensures).0 c.if-kind.true

pub let_go-requires-clause-holds : goal.let_go-requires-clause-holds
let_go-requires-clause-holds g c =
    let v = g.P.Port.value c.args.port.now in
    let a = g.P.Port.value c.clear_pin.new.port in
    let k = c.read_kind-kind.result in
    one_held v a c.args.frame (live_typed c.args.frame k.kind (owner_from v.holdings)) c.requires.rests (pin_came v a c.args.frame k c.requires.rests c.in-Ok.ensures.hand) (saw_inside c.requires.saw.2) refl

pub returns-in-Ok : goal.returns-in-Ok
returns-in-Ok g c =
    let v = g.P.Port.value c.args.port.now in
    let a = g.P.Port.value c.clear_pin.new.port in
    let w = g.P.Port.value c.let_go.new.port in
    let e = c.let_go.ensures in
    gated_as refl (pin_took v a w c.args.frame c.args.found c.read_kind-kind.result c.let_go.result c.read_kind-kind.ensures c.requires.rests e.serves e.stops e.kinds e.rests e.hand e.clear c.if-kind.true c.in-Ok.ensures.moves c.in-Ok.ensures.hand) e.course

pub returns-in-Err : goal.returns-in-Err
returns-in-Err g c =
    let e = c.in-Err.ensures in
    gated_none (lost_undue _ _ _ c.lost.ensures) (lost_code (takes_pin c.args.found c.read_kind-kind.ensures c.if-kind.true) c.requires.rests e.moves e.lost e.hand c.lost.ensures)

-- ---- none
pub returns-else-kind-2 : goal.returns-else-kind-2
returns-else-kind-2 g c =
    gated_none refl (none_took (fields_of c.args.found c.read_kind-kind.result c.read_kind-kind.ensures) c.requires.rests c.requires.clear c.if-kind.false c.if-kind-2.false)
