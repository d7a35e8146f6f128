use Rattle.xp_words.specs.Places.{sizes_of}
use Rattle.xp_board.proofs.Numbers.{vcpu_there}
use Rattle.ldt_pages.proofs.touching.look_word.Goals as goal

pub look-requires : goal.look-requires
look-requires g c = vcpu_there (sizes_of (g.P.Port.value c.args.port.now).post.machine) _ c.args.word c.vcpu-vcpu.ensures.real c.requires.few
