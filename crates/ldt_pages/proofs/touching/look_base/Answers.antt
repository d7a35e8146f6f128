use Rattle.std.proofs.Common.{sym, ◌∙◌}
use Rattle.ldt_pages.proofs.Looks.{base_reads}
use Rattle.ldt_pages.proofs.touching.look_base.Goals as goal

pub unreachable-requires : goal.unreachable-requires
unreachable-requires g c =
    let v = g.P.Port.value c.args.port.now in
    base_reads v.post.machine v.post.vcpu c.look_word.result v.holdings c.look_word.ensures.moves.finds (sym c.read.ensures.reads ∙ c.in-None.is)
