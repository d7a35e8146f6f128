use Rattle.xp_words.specs.Places.{sizes_of}
use Rattle.xp_board.proofs.Numbers.{vcpu_there}
use Rattle.life_words.proofs.RowSteps.{others_hand}
use Rattle.life_words.proofs.names.look_word.Goals as goal

pub look-requires : goal.look-requires
look-requires g c = vcpu_there (sizes_of (g.P.Port.value c.args.port.now).post.machine) c.args.vcpu c.args.word c.requires.vcpu c.requires.word

pub returns-clause-hand : goal.returns-clause-hand
returns-clause-hand g c = others_hand (g.P.Port.value c.args.port.now) (g.P.Port.value c.look.new.port) c.args.vcpu c.args.word c.look.result c.requires.other c.look.ensures
