use Rattle.std.proofs.Common.{rules, OnErr, sym, subst}
use Rattle.xp_io.specs.Causes.{AppendsFront}
use Rattle.xp_machine.specs.Due.{bytes_of}
use Rattle.xp_machine.proofs.due.write_text.Goals as goal

pub returns-in-Image-clause-front : goal.returns-in-Image-clause-front
returns-in-Image-clause-front g c =
    subst (λ t. OnErr c.write_to.result (AppendsFront (g.K.Sink.taken c.args.sink.now) (g.K.Sink.taken c.write_to.new.sink) (bytes_of t))) (sym c.in-Image.is) c.write_to.ensures.front
