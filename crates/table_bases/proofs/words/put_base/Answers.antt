use Rattle.table_bases.proofs.Storing.{base_within, may_put, put_hand, put_moves}
use Rattle.table_bases.proofs.words.put_base.Goals as goal

pub make-requires : goal.make-requires
make-requires g c =
    may_put (g.P.Port.value c.args.port.now) _ _ c.args.base c.vcpu-vcpu.ensures.vcpu c.vcpu-vcpu.ensures.real c.number-word.ensures c.requires.may c.args.new _ c.word_naming-new.ensures c.requires.holds

pub returns-clause-moves : goal.returns-clause-moves
returns-clause-moves g c =
    put_moves (g.P.Port.value c.args.port.now) _ _ c.args.base c.vcpu-vcpu.ensures.vcpu c.vcpu-vcpu.ensures.real c.number-word.ensures c.requires.may (g.P.Port.value c.make.new.port) c.args.new _ c.make.result
    c.word_naming-new.ensures c.make.ensures

pub returns-clause-inside : goal.returns-clause-inside
returns-clause-inside g c = base_within (g.P.Port.value c.args.port.now) (g.P.Port.value c.make.new.port) c.args.base _ c.make.result (returns-clause-moves g c)

pub returns-clause-hand : goal.returns-clause-hand
returns-clause-hand g c = put_hand (g.P.Port.value c.args.port.now) (g.P.Port.value c.make.new.port) c.args.base c.args.new c.make.result c.requires.holds (returns-clause-moves g c)
