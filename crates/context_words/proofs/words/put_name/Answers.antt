use Rattle.context_words.proofs.PutNames.{may_put, name_within, put_hand, put_moves}
use Rattle.context_words.proofs.words.put_name.Goals as goal

pub make-requires : goal.make-requires
make-requires g c =
    may_put (g.P.Port.value c.args.port.now) c.args.word _ c.requires.few c.vcpu-vcpu.ensures.vcpu c.vcpu-vcpu.ensures.real c.requires.may _ c.args.new c.word_naming-new.ensures c.requires.names

pub returns-clause-moves : goal.returns-clause-moves
returns-clause-moves g c = put_moves (g.P.Port.value c.args.port.now) (g.P.Port.value c.make.new.port) c.args.word _ _ c.args.new c.make.result c.vcpu-vcpu.ensures.vcpu c.word_naming-new.ensures c.make.ensures

pub returns-clause-inside : goal.returns-clause-inside
returns-clause-inside g c =
    name_within (g.P.Port.value c.args.port.now) (g.P.Port.value c.make.new.port) c.args.word _ c.make.result c.requires.few c.requires.names.word
    (put_moves (g.P.Port.value c.args.port.now) (g.P.Port.value c.make.new.port) c.args.word _ _ c.args.new c.make.result c.vcpu-vcpu.ensures.vcpu c.word_naming-new.ensures c.make.ensures)

pub returns-clause-hand : goal.returns-clause-hand
returns-clause-hand g c =
    put_hand (g.P.Port.value c.args.port.now) (g.P.Port.value c.make.new.port) c.args.word c.args.new c.make.result c.requires.names
    (put_moves (g.P.Port.value c.args.port.now) (g.P.Port.value c.make.new.port) c.args.word _ _ c.args.new c.make.result c.vcpu-vcpu.ensures.vcpu c.word_naming-new.ensures c.make.ensures)
