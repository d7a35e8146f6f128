use Rattle.std.proofs.Common.{refl}
use Rattle.xp_preempt.proofs.Consulting.{gated_as, gated_none}
use Rattle.step_maker.proofs.Coming.{came_self, moves_came}
use Rattle.domain_destroy.proofs.OneWord.{look_left, look_went, may_empty_still, meanwhile_went, named_left, named_one, named_went, take_left}
use Rattle.domain_destroy.proofs.emptying.empty.Goals as goal

-- ---- found empty
pub returns-then-look_word-eq0-clause-empty : goal.returns-then-look_word-eq0-clause-empty
returns-then-look_word-eq0-clause-empty g c =
    look_left (g.P.Port.value c.args.port.now) c.args.domain c.args.vcpu c.args.word c.requires.of (g.P.Port.value c.look_word.new.port) c.look_word.result c.look_word.ensures.moves c.if-look_word-eq0.true

pub returns-then-look_word-eq0-clause-went : goal.returns-then-look_word-eq0-clause-went
returns-then-look_word-eq0-clause-went g c =
    gated_none refl
    (look_went (g.P.Port.value c.args.port.now) c.args.domain c.args.vcpu c.args.word c.requires.of (g.P.Port.value c.look_word.new.port) c.look_word.result c.look_word.ensures.moves c.if-look_word-eq0.true
    c.requires.rests c.requires.clear c.look_word.ensures.hand)

pub empty_word-old-requires-clause-empties : goal.empty_word-old-requires-clause-empties
empty_word-old-requires-clause-empties g c =
    let v = g.P.Port.value c.args.port.now in
    let a = g.P.Port.value c.look_word.new.port in
    may_empty_still v a c.args.vcpu (moves_came v a _ _ _ _ _ c.look_word.ensures.moves) c.requires.empties

-- ---- emptied meanwhile
pub returns-then-old-eq0-clause-empty : goal.returns-then-old-eq0-clause-empty
returns-then-old-eq0-clause-empty g c =
    let b = g.P.Port.value c.empty_word-old.new.port in
    take_left (g.P.Port.value c.args.port.now) c.args.domain c.args.vcpu c.args.word c.requires.of (g.P.Port.value c.look_word.new.port) c.look_word.result c.look_word.ensures.moves b c.empty_word-old.result
    c.if-look_word-eq0.false c.empty_word-old.ensures.moves b (came_self b)

pub returns-then-old-eq0-clause-went : goal.returns-then-old-eq0-clause-went
returns-then-old-eq0-clause-went g c =
    gated_none refl
    (meanwhile_went (g.P.Port.value c.args.port.now) c.args.domain c.args.vcpu c.args.word c.requires.of (g.P.Port.value c.look_word.new.port) c.look_word.result c.look_word.ensures.moves
    (g.P.Port.value c.empty_word-old.new.port) c.empty_word-old.result c.if-look_word-eq0.false c.empty_word-old.ensures.moves c.requires.rests c.requires.clear c.look_word.ensures.hand c.empty_word-old.ensures.hand
    c.if-old-eq0.true)

-- ---- it named a frame
pub let_go-requires-clause-holds : goal.let_go-requires-clause-holds
let_go-requires-clause-holds g c =
    named_one (g.P.Port.value c.args.port.now) c.args.domain c.args.vcpu c.args.word c.requires.of (g.P.Port.value c.look_word.new.port) c.look_word.result c.look_word.ensures.moves
    (g.P.Port.value c.empty_word-old.new.port) c.empty_word-old.result c.if-look_word-eq0.false c.empty_word-old.ensures.moves c.requires.rests c.requires.clear c.look_word.ensures.hand c.empty_word-old.ensures.hand
    c.if-old-eq0.false c.empty_word-old.ensures.inside

pub returns-clause-empty : goal.returns-clause-empty
returns-clause-empty g c =
    named_left (g.P.Port.value c.args.port.now) c.args.domain c.args.vcpu c.args.word c.requires.of (g.P.Port.value c.look_word.new.port) c.look_word.result c.look_word.ensures.moves
    (g.P.Port.value c.empty_word-old.new.port) c.empty_word-old.result c.if-look_word-eq0.false c.empty_word-old.ensures.moves (g.P.Port.value c.let_go.new.port) c.let_go.result c.let_go.ensures.serves

pub returns-clause-went : goal.returns-clause-went
returns-clause-went g c =
    gated_as refl
    (named_went (g.P.Port.value c.args.port.now) c.args.domain c.args.vcpu c.args.word c.requires.of (g.P.Port.value c.look_word.new.port) c.look_word.result c.look_word.ensures.moves
    (g.P.Port.value c.empty_word-old.new.port) c.empty_word-old.result c.if-look_word-eq0.false c.empty_word-old.ensures.moves c.requires.rests c.requires.clear c.look_word.ensures.hand c.empty_word-old.ensures.hand
    c.if-old-eq0.false c.empty_word-old.ensures.inside (g.P.Port.value c.let_go.new.port) c.let_go.result c.let_go.ensures.rests c.let_go.ensures.hand c.let_go.ensures.serves c.let_go.ensures.clear
    c.let_go.ensures.stops c.let_go.ensures.kinds) c.let_go.ensures.course
